use Rattle.std.proofs.Common.{◌∷◌, ◌+◌, [], List, Ok, ap, sym, ◌∙◌, length-append}
use Rattle.std.proofs.lemmas.Result.{err_from_is_err_and}
use Rattle.tree_starts.specs.declared.object.StartObject.{StartObject}
use Rattle.tree_starts.specs.Seen.{seen_object}
use Rattle.history_file.specs.Starting.{objects}
use Rattle.history_file.specs.FileReading.{reading_of}
use Rattle.history_file.proofs.ObjectLoop.{goes_on, stops, is_done}
use Rattle.history_file.proofs.starting.read_objects.Goals as goal

pub returns-in_err-object : goal.returns-in_err-object
returns-in_err-object c =
    let p = err_from_is_err_and c.from_residual.result c.from_residual.ensures.1 in
    rw (p.1, p.2) (stops c.in_err-object.field-0.0 c.loop-index.table c.args.count c.loop-index.index c.loop-index.reader (reading_of (objects c.args.count [] 1) c.args.reader.now) c.loop-index-test.true c.in_err-object.ensures.read c.loop-index.invariant.1)

pub loop-index-preserved : goal.loop-index-preserved
loop-index-preserved c =
    let object = seen_object c.in_ok-object.object in
    rw c.in_ok-push.ensures.ok (
      length-append c.loop-index.table (object ∷ []) ∙ ap (λ n. n + 1) c.loop-index.invariant.0,
      goes_on c.loop-index.table c.args.count c.loop-index.index c.loop-index.reader object c.one_object.new.reader (reading_of (objects c.args.count [] 1) c.args.reader.now) c.loop-index-test.true c.in_ok-object.ensures.read c.loop-index.invariant.1,
    )

pub returns : goal.returns
returns c = is_done c.loop-index.table c.args.count c.loop-index.index c.loop-index.reader (reading_of (objects c.args.count [] 1) c.args.reader.now) c.loop-index-test.false c.loop-index.invariant.1 ∙ ap (λ (os : List StartObject). Ok (os, c.loop-index.reader)) (sym c.finish.ensures)
