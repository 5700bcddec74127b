use Rattle.std.proofs.Common.{◌≡◌, [], length}
use Rattle.history_file.specs.Starting.{objects}
use Rattle.history_file.specs.FileReading.{reading_of}
use Rattle.history_file.proofs.ObjectLoop.{left}
use Rattle.history_file.proofs.starting.read_objects.Given as goal

abbrev pub invariant-loop-index : goal.invariant-loop-index
invariant-loop-index l = (length l.table ≡ l.index) × (left l.count l.table l.index l.reader ≡ reading_of (objects l.count [] 1) l.initial.reader)
