use Rattle.std.proofs.Common.{Option, false, sym, ap, ◌∙◌}
use Rattle.std.specs.Option.{option_map_or}
use Rattle.nfs_history.specs.declared.recorded.CallKind.{CallKind}
use Rattle.nfs_history.specs.Precedence.{call_at}
use Rattle.order_check.specs.Taking.{is_taken_whole}
use Rattle.order_check.proofs.TakenLaws.{taken_whole}
use Rattle.order_check.proofs.places.may_be_taken_whole.Goals as goal

pub returns-in-Some : goal.returns-in-Some
returns-in-Some c =
    let kind = ap (λ (o : Option CallKind). option_map_or is_taken_whole o false) (sym c.kind.ensures ∙ c.in-Some.is) in
    c.is_taken_whole.ensures ∙ sym (taken_whole (call_at c.args.history.now.calls c.args.number) ∙ kind)
