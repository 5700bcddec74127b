use Rattle.std.proofs.Common.{◌≡◌, ◌+◌, ◌++◌, drop}
use Rattle.history_file.specs.Owning.{all_happened}
use Rattle.decide.specs.Spanning.{crash_list}
use Rattle.decide.proofs.spans.crash_marks.Given as goal

-- what is noted, and what is left, make the whole
abbrev pub invariant-loop-index : goal.invariant-loop-index
invariant-loop-index l = l.marks.items ++ crash_list (l.index + 1) (all_happened (drop l.index l.events)) ≡ crash_list 1 (all_happened l.events)
