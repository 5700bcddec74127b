-- The root handle and the number of events stand ahead of the events.
use Rattle.std.proofs.lemmas.Result.{err_from_is_err_and}
use Rattle.history_file.specs.declared.version.Version.TheVariants.{First}
use Rattle.history_lines.proofs.LeftLaws.{begun_first, root_fails, count_fails}
use Rattle.history_lines.proofs.events.BegunFile.in_first.Goals as goal

pub returns-in_err-opaque-clause-fault : goal.returns-in_err-opaque-clause-fault
returns-in_err-opaque-clause-fault c =
    let p = err_from_is_err_and c.from_residual.result c.from_residual.ensures.1 in
    rw (p.1, p.2) (root_fails First c.args.body.now c.in_err-opaque.field-0.0 (rw c.new-reader.ensures at c.in_err-opaque.ensures))

pub returns-in_err-count-clause-fault : goal.returns-in_err-count-clause-fault
returns-in_err-count-clause-fault c =
    let p = err_from_is_err_and c.from_residual-in_err-count.result c.from_residual-in_err-count.ensures.1 in
    rw (p.1, p.2) (count_fails c.args.body.now c.in_ok-opaque.field-0.now c.opaque.new.reader c.in_err-count.field-0.0 (rw c.new-reader.ensures at c.in_ok-opaque.ensures) c.in_err-count.ensures)

pub returns-clause-found : goal.returns-clause-found
returns-clause-found c = (
  rw (c.empty.ensures, c.ahead.ensures.count, c.ahead.ensures.rest)
      (begun_first c.args.body.now c.in_ok-opaque.field-0.now c.in_ok-count.count c.opaque.new.reader c.count.new.reader (rw c.new-reader.ensures at c.in_ok-opaque.ensures) c.in_ok-count.ensures),
  c.ahead.ensures.none,
)
