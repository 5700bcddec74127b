use Rattle.std.proofs.Common.{◌≡◌, List, length, nat_le, position, Some, None, sym, ap, ◌∙◌, subst, arith}
use Rattle.std.specs.List.Sorted.{IsNonDecreasingBy}
use Rattle.book_ledger.specs.declared.placed.PlacedCall.{PlacedCall}
use Rattle.book_ledger.proofs.Rising.{rising}
use Rattle.book_ledger.proofs.CrashSteps.{front_is}
use Rattle.book_ledger.proofs.ledger.Ledger.front_with.Goals as goal

pub returns-in-Some : goal.returns-in-Some
returns-in-Some c = λ device t.
    let up = subst (λ (xs : List PlacedCall). IsNonDecreasingBy (λ (call : PlacedCall). call.records) xs) (sym c.as_slice.ensures.value) (rising c.args.self.now.history.known.calls c.args.self.now.kept c.args.self.now.placed.items t.counted) in
    front_is c.args.self.now device c.args.keep (Some c.in-Some.place) t c.if-keep-self.false
    (c.in-Some.ensures.first up ∙ ap (position (λ (call : PlacedCall). nat_le c.args.keep call.records)) c.as_slice.ensures.value)

pub returns-in-None : goal.returns-in-None
returns-in-None c = λ device t.
    let up = subst (λ (xs : List PlacedCall). IsNonDecreasingBy (λ (call : PlacedCall). call.records) xs) (sym c.as_slice.ensures.value) (rising c.args.self.now.history.known.calls c.args.self.now.kept c.args.self.now.placed.items t.counted) in
    let count : c.len.result ≡ length c.args.self.now.placed.items = omega (arith, c.args.self.now.placed.ok.0, c.len.ensures) in
    count
    ∙ front_is c.args.self.now device c.args.keep None t c.if-keep-self.false
    (c.in-None.ensures.first up ∙ ap (position (λ (call : PlacedCall). nat_le c.args.keep call.records)) c.as_slice.ensures.value)
