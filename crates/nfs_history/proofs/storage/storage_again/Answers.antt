use Rattle.std.proofs.Common.{◌≡◌, IfOk, option_map, subst, ◌∙◌, sym, ap}
use Rattle.rpc_reader.specs.Views.{call_value, body_value}
use Rattle.nfs_history.specs.Matching.{seen_call, bytes_of}
use Rattle.nfs_history.specs.Storage.{storage_value}
use Rattle.nfs_history.proofs.StorageLaws.{no_effect_stored, result_stored, other_stored}
use Rattle.nfs_history.proofs.storage.storage_again.Goals as goal

pub unreachable-requires : goal.unreachable-requires
unreachable-requires c = c.in_default.ensures.only c.requires.means.0 c.requires.means.2

pub returns-then-has_no_effect : goal.returns-then-has_no_effect
returns-then-has_no_effect c =
    no_effect_stored (seen_call c.args.seen.now) (call_value c.in-Ok.head) (option_map body_value c.body_of-body.result) c.in-Ok.ensures.found c.body_of-body.ensures
    (sym c.has_no_effect.ensures ∙ c.if-has_no_effect.true)

pub returns-then-head-number : goal.returns-then-head-number
returns-then-head-number c =
    subst (λ s. IfOk c.written.result (λ found. option_map storage_value found ≡ s))
    (result_stored (seen_call c.args.seen.now) (call_value c.in-Ok.head) (option_map body_value c.body_of-body.result) c.in-Ok.ensures.found c.body_of-body.ensures
    (sym c.has_no_effect.ensures ∙ c.if-has_no_effect.false) c.in-Some.results.now 7 (sym c.results_of.ensures ∙ ap bytes_of c.in-Some.is) (c.if-head-number.true ∙ c.number.ensures)) c.written.ensures

pub returns-then-head-number-2 : goal.returns-then-head-number-2
returns-then-head-number-2 c =
    subst (λ s. IfOk c.committed.result (λ found. option_map storage_value found ≡ s))
    (result_stored (seen_call c.args.seen.now) (call_value c.in-Ok.head) (option_map body_value c.body_of-body.result) c.in-Ok.ensures.found c.body_of-body.ensures
    (sym c.has_no_effect.ensures ∙ c.if-has_no_effect.false) c.in-Some.results.now 21 (sym c.results_of.ensures ∙ ap bytes_of c.in-Some.is) (c.if-head-number-2.true ∙ c.number-2.ensures)) c.committed.ensures

pub returns : goal.returns
returns c =
    other_stored (seen_call c.args.seen.now) (call_value c.in-Ok.head) (option_map body_value c.body_of-body.result) c.in-Ok.ensures.found c.body_of-body.ensures
    (sym c.has_no_effect.ensures ∙ c.if-has_no_effect.false) (λ is. c.if-head-number.false (is ∙ sym c.number.ensures)) (λ is. c.if-head-number-2.false (is ∙ sym c.number-2.ensures))
