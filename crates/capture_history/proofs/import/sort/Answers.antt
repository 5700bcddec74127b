use Rattle.std.proofs.Common.{rules}
use Rattle.std.proofs.lemmas.List.Sorted.{IsNonDecreasingBy-from_sort_by_key}
use Rattle.capture_history.specs.declared.found.Found.{Found}
use Rattle.capture_history.proofs.import.sort.Goals as goal

pub returns : goal.returns
returns c = record {
  shuffled = search rules;
  ordered = IsNonDecreasingBy-from_sort_by_key (λ (f : Found). f.at) _ c.in_ok-sort_by_key.ensures.sorted (λ a r q k. search rules);
}
