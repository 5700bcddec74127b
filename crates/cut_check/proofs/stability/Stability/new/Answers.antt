use Rattle.std.proofs.Common.{ap}
use Rattle.std.specs.Option.{option_map_or}
use Rattle.std.specs.Map.{lookup}
use Rattle.std.specs.Ordering.{nat_cmp}
use Rattle.std.specs.BTreeMap.{is_at}
use Rattle.cut_check.specs.LastWrites.{position_at}
use Rattle.cut_check.specs.Stability.{kept_at}
use Rattle.cut_check.proofs.KeepsLaws.{keeps_none}
use Rattle.cut_check.proofs.stability.Stability.new.Goals as goal

pub returns : goal.returns
returns c = keeps_none (kept_at c.new.result) (λ object byte. ap (λ entries. option_map_or (λ writes. position_at writes byte) (lookup (is_at (nat_cmp object)) entries) 0) c.new.ensures.empty)
