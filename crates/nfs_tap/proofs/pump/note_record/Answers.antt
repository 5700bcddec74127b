use Rattle.std.proofs.Common.{ap, ◌∙◌}
use Rattle.history_file.specs.Event.{Event}
use Rattle.nfs_tap.specs.Noting.{with_event}
use Rattle.nfs_tap.proofs.pump.note_record.Goals as goal

pub returns-clause-noted : goal.returns-clause-noted
returns-clause-noted c = c.in_ok-note_event.ensures.noted.1 ∙ ap (λ (e : Event). with_event c.args.log.now e) c.requires
