use Rattle.std.proofs.Common.{ap}
use Rattle.std.specs.Ordering.{nat_cmp}
use Rattle.std.specs.Map.{lookup}
use Rattle.std.specs.BTreeMap.{get, is_at}
use Rattle.cut_check.proofs.BoundaryLaws.{shown_none}
use Rattle.cut_check.proofs.last_writes.LastWrites.new.Goals as goal

pub returns : goal.returns
returns c = λ byte. shown_none (get nat_cmp c.new.result) byte (λ q h. ap (lookup (is_at (nat_cmp q))) c.new.ensures.empty)
