use Rattle.std.proofs.Common.{arith, ap, length}
use Rattle.recording_command.proofs.Saved.{head_small}
use Rattle.recording_command.proofs.saving.write_file.Goals as goal

pub write_events-requires : goal.write_events-requires
write_events-requires g c =
    let small = head_small c.in_ok-head.head.items c.as_slice.result.now _ (omega (arith, c.as_slice.ensures.bound, ap length c.as_slice.ensures.value)) c.in_ok-head.ensures in
    omega (arith, small, c.in_ok-head.head.ok.0, c.len.ensures)
