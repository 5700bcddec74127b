use Rattle.std.proofs.Common.{◌≡◌, ◌++◌, take}
use Rattle.history_file.specs.Writing.{objects_text}
use Rattle.history_file.proofs.writing.put_objects.Given as goal

abbrev pub invariant-loop-object : goal.invariant-loop-object
invariant-loop-object l = l.out.items ≡ l.initial.out.items ++ objects_text (take l.object-index l.objects)
