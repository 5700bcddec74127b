-- For the prover, and for callers.
-- The words that are printed of why events end: its name, or the fault of the event that may not follow (words of this project's own).
use Rattle.std.specs.Prelude.{ℕ, List, codes}
use Rattle.nfs_history.specs.FaultText.{event_fault_words}
use Rattle.history_mending.specs.declared.end.End.{End}
use Rattle.history_mending.specs.declared.end.End.TheVariants as ends

abbrev pub end_words : End → List ℕ
end_words ends.Whole = codes "whole"
end_words ends.Cut = codes "cut"
end_words ends.NoEvent = codes "no event"
end_words (ends.CannotFollow fault) = event_fault_words fault
end_words ends.Full = codes "full"
