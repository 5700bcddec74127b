use Rattle.history_mending.proofs.Cuts.{cut_head, cut_mended, part_mended}
use Rattle.history_mending.proofs.laws.a_cut_gives_the_whole_events.Goals as goal

pub returns-clause-read : goal.returns-clause-read
returns-clause-read c = cut_head

pub returns-clause-whole : goal.returns-clause-whole
returns-clause-whole c = cut_mended

pub returns-clause-all : goal.returns-clause-all
returns-clause-all c = part_mended
