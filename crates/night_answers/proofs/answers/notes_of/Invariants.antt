use Rattle.std.proofs.Common.{◌≡◌, take, map}
use Rattle.night_answers.specs.Noting.{note_of}
use Rattle.night_answers.proofs.answers.notes_of.Given as goal

abbrev pub invariant-loop-index : goal.invariant-loop-index
invariant-loop-index l = l.notes.items ≡ map note_of (take l.index l.history.calls)
