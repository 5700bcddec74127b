-- A plan that has its shape loses no more places than there are calls.
use Rattle.std.proofs.Common.{◌<◌, ◌^◌, ◌∙◌, length, arith}
use Rattle.history_report.proofs.KindLaws.{owned_lost}
use Rattle.history_report.proofs.LostLaws.{few_lost}
use Rattle.history_report.proofs.losing.lost_of.Goals as goal

pub lost_over-requires : goal.lost_over-requires
lost_over-requires c =
    let calls = c.recorded_calls.result.now in
    let few : length calls < 2 ^ 64 = omega arith in
    rw (owned_lost calls c.args.history.now.known.calls c.as_slice.result.now c.args.certificate.now.eras c.recorded_calls.ensures c.as_slice.ensures)
    (few_lost c.args.history.now.known.eras c.args.history.now.known.calls c.args.certificate.now.eras c.requires (rw c.recorded_calls.ensures at few))

pub returns : goal.returns
returns c = c.lost_over.ensures ∙ owned_lost _ _ _ _ c.recorded_calls.ensures c.as_slice.ensures
