-- A plan that has its shape loses no more places than there are calls.
use Rattle.std.proofs.Common.{◌≡◌, ◌<◌, ◌^◌, ◌∙◌, ap, length, arith}
use Rattle.std.proofs.lemmas.List.{length-map}
use Rattle.nfs_history.specs.Reread.{call_kind}
use Rattle.history_report.proofs.KindLaws.{known_lost}
use Rattle.history_report.proofs.LostLaws.{few_lost}
use Rattle.history_report.proofs.losing.lost_of_calls.Goals as goal

pub lost_over-requires : goal.lost_over-requires
lost_over-requires c =
    let calls = c.args.history.now.calls in
    let few : length c.kinds.result.now < 2 ^ 64 = omega arith in
    let as_many : length c.kinds.result.now ≡ length calls = ap length c.kinds.ensures ∙ length-map calls call_kind in
    let known_few : length calls < 2 ^ 64 = omega (arith, few, as_many) in
    rw (known_lost c.kinds.result.now calls c.as_slice.result.now c.args.certificate.now.eras c.kinds.ensures c.as_slice.ensures)
    (few_lost c.args.history.now.eras calls c.args.certificate.now.eras c.requires known_few)

pub returns : goal.returns
returns c = c.lost_over.ensures ∙ known_lost _ _ _ _ c.kinds.ensures c.as_slice.ensures
