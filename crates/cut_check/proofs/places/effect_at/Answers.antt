use Rattle.std.proofs.Common.{◌≡◌, IfOk, subst, sym, ap, ◌∙◌}
use Rattle.nfs_history.specs.Precedence.{call_at}
use Rattle.cut_check.specs.Stored.{effect_of_stored, effect_of_changing}
use Rattle.cut_check.proofs.StoredLaws.{stored_at, changing_at}
use Rattle.cut_check.proofs.places.effect_at.Goals as goal

pub returns-then-may_show_verifier : goal.returns-then-may_show_verifier
returns-then-may_show_verifier c =
    let calls = c.args.calls.now.calls in
    let number = ap (λ n. effect_of_stored c.args.binds.now (call_at calls n)) c.number-number.ensures in
    let at = stored_at c.args.binds.now calls c.args.place c.in-Some.procedure (sym c.procedure_at.ensures ∙ c.in-Some.is) (sym c.may_show_verifier.ensures ∙ c.if-may_show_verifier.true) in
    subst (λ e. IfOk c.effect_of_stored.result (λ effect. effect ≡ e)) (number ∙ at) c.effect_of_stored.ensures

pub returns-then-may_last : goal.returns-then-may_last
returns-then-may_last c =
    let calls = c.args.calls.now.calls in
    let number = ap (λ n. effect_of_changing (call_at calls n)) c.number-number.ensures in
    let at = changing_at c.args.binds.now calls c.args.place c.in-Some.procedure (sym c.procedure_at.ensures ∙ c.in-Some.is) (sym c.may_last.ensures ∙ c.if-may_last.true)
    (sym c.may_show_verifier.ensures ∙ c.if-may_show_verifier.false) in
    subst (λ e. IfOk c.effect_of_changing.result (λ effect. effect ≡ e)) (number ∙ at) c.effect_of_changing.ensures
