use Rattle.std.proofs.Common.{rules, ◌≡◌, ℕ, ◌<◌, eqb, sym, ap, ◌∙◌, subst, arith}
use prog.Atomic.{either}
use Rattle.atomic_table.specs.Table.{Allows}
use Rattle.seen_states.specs.Steps.{TellsLook, TellsTake}
use Rattle.seen_states.proofs.Places.{word_at-lt}
use Rattle.seen_states.proofs.StepLaws.{Ruled, looked-claims, looked-probed, may_look, may_take}
use Rattle.seen_states.proofs.handles.SeenTable.probe.Goals as goal

pub load-found-requires : goal.load-found-requires
load-found-requires g c =
    let table = c.args.self.now.table.shared in
    let seat = c.args.claimer.now.seat in
    let n = table.table_id.words in
    let is = c.requires.word in
    let asked = c.requires.asked in
    let within : c.args.word < n = let b = word_at-lt n c.args.fingerprint c.args.place c.args.self.now.some in omega arith in (
      c.requires.of_this_table,
      within,
      subst (λ (z : ℕ × ℕ × ℕ × ℕ). Allows (Ruled z.0) table.table_id.slots seat.id seat.me c.args.word (λ found. found) (λ found after. TellsLook z.1 z.2 z.3 seat.me found after))
          (λ i. (sym c.args.self.now.ruled i, sym asked.2 i, sym asked.0 i, sym asked.1 i))
          (may_look n table.table_id.slots seat.id seat.me c.args.fingerprint c.args.place c.args.word c.requires.may is),
    )

pub compare_exchange-before-requires : goal.compare_exchange-before-requires
compare_exchange-before-requires g c =
    let table = c.args.self.now.table.shared in
    let seat = c.load-found.new.seat in
    let n = table.table_id.words in
    let is = c.requires.word in
    let asked = c.requires.asked in
    let within : c.args.word < n = let b = word_at-lt n c.args.fingerprint c.args.place c.args.self.now.some in omega arith in
    let look = c.load-found.ensures.2.1 in
    let claims : seat.me.0.fingerprint ≡ c.args.fingerprint = ap (λ v. v.fingerprint) look ∙ looked-claims g.A.Asked.fingerprint g.A.Asked.place c.load-found.result c.args.claimer.now.seat.me.0 ∙ asked.0 in
    let probed : seat.me.0.probed ≡ c.args.place = ap (λ v. v.probed) look ∙ looked-probed g.A.Asked.fingerprint g.A.Asked.place c.load-found.result c.args.claimer.now.seat.me.0 c.if-found-eq0.true ∙ asked.1 in (
      search rules,
      within,
      subst (λ (z : ℕ × ℕ × ℕ × ℕ). Allows (Ruled z.0) table.table_id.slots seat.id seat.me c.args.word (λ found. either (eqb found 0) c.args.fingerprint found) (λ found after. TellsTake z.1 z.2 z.3 seat.me found after))
          (λ i. (sym c.args.self.now.ruled i, sym asked.2 i, sym asked.0 i, sym asked.1 i))
          (may_take n table.table_id.slots seat.id seat.me c.args.fingerprint c.args.place c.args.word (c.requires.may.0, c.requires.may.1, claims, probed) is),
    )
