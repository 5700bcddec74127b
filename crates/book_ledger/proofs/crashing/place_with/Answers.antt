use Rattle.std.proofs.Common.{ltb, rules}
use Rattle.std.proofs.lemmas.List.Sorted.{IsPartitionPoint-from_clause, IsPartitionedBy-ltb}
use Rattle.book_ledger.specs.declared.placed.PlacedCall.{PlacedCall}
use Rattle.book_ledger.proofs.Rising.{found, none}
use Rattle.book_ledger.proofs.crashing.place_with.Goals as goal

pub returns-then-place-placed-clause-first : goal.returns-then-place-placed-clause-first
returns-then-place-placed-clause-first c = λ up.
    let parted = IsPartitionedBy-ltb (λ (call : PlacedCall). call.records) c.args.placed.now c.args.keep up in
    let point = IsPartitionPoint-from_clause (λ (call : PlacedCall). ltb call.records c.args.keep) _ _ c.partition_point-place.ensures.partitioned parted (λ a r q k. search rules) in
    found c.args.keep c.args.placed.now c.partition_point-place.result c.partition_point-place.ensures.bound point c.if-place-placed.true

pub returns-else-place-placed-clause-first : goal.returns-else-place-placed-clause-first
returns-else-place-placed-clause-first c = λ up.
    let parted = IsPartitionedBy-ltb (λ (call : PlacedCall). call.records) c.args.placed.now c.args.keep up in
    let point = IsPartitionPoint-from_clause (λ (call : PlacedCall). ltb call.records c.args.keep) _ _ c.partition_point-place.ensures.partitioned parted (λ a r q k. search rules) in
    none c.args.keep c.args.placed.now c.partition_point-place.result c.partition_point-place.ensures.bound point c.if-place-placed.false
