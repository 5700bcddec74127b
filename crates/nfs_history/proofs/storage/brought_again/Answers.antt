use Rattle.std.proofs.Common.{◌≡◌, IfOk, option_map, subst, sym, ◌∙◌}
use Rattle.rpc_reader.specs.Views.{call_value, body_value}
use Rattle.nfs_history.specs.Matching.{seen_call}
use Rattle.nfs_history.proofs.StorageLaws.{no_effect_brought, write_brought, other_brought}
use Rattle.nfs_history.proofs.storage.brought_again.Goals as goal

pub unreachable-requires : goal.unreachable-requires
unreachable-requires c = c.in_default.ensures.only c.requires.means.0 c.requires.means.2

pub returns-then-has_no_effect : goal.returns-then-has_no_effect
returns-then-has_no_effect c =
    no_effect_brought (seen_call c.args.seen.now) (call_value c.in-Ok.head) (option_map body_value c.body_of-body.result) c.in-Ok.ensures.found c.body_of-body.ensures
    (sym c.has_no_effect.ensures ∙ c.if-has_no_effect.true)

pub returns-then-head-number : goal.returns-then-head-number
returns-then-head-number c =
    other_brought (seen_call c.args.seen.now) (call_value c.in-Ok.head) (option_map body_value c.body_of-body.result) c.in-Ok.ensures.found c.body_of-body.ensures
    (sym c.has_no_effect.ensures ∙ c.if-has_no_effect.false) (λ is. c.if-head-number.true (is ∙ sym c.number.ensures))

pub returns : goal.returns
returns c =
    subst (λ s. IfOk c.brought_by.result (λ found. found ≡ s))
    (write_brought (seen_call c.args.seen.now) (call_value c.in-Ok.head) (option_map body_value c.body_of-body.result) c.in-Ok.ensures.found c.body_of-body.ensures
    (sym c.has_no_effect.ensures ∙ c.if-has_no_effect.false) (c.if-head-number.false ∙ c.number.ensures)) c.brought_by.ensures
