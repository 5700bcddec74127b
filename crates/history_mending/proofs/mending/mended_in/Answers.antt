use Rattle.std.proofs.Common.{inr, refl, arith}
use Rattle.std.proofs.lemmas.Result.{err_from_is_err_and}
use Rattle.history_file.proofs.FileLaws.{eight_bytes}
use Rattle.history_mending.specs.Mending.{head_value}
use Rattle.history_mending.proofs.Reading.{head_begins, head_err, head_over, body_within, rest_within, is_mended}
use Rattle.history_mending.proofs.mending.mended_in.Goals as goal

pub behind_magic-requires : goal.behind_magic-requires
behind_magic-requires c = eight_bytes c.args.bytes.now c.args.version c.requires

pub returns-in_err-head-clause-fault : goal.returns-in_err-head-clause-fault
returns-in_err-head-clause-fault c =
    let p = err_from_is_err_and c.from_residual.result c.from_residual.ensures.1 in
    rw (p.1, p.2) (head_err c.args.bytes.now c.args.version c.in_err-head.field-0.0 c.behind_magic.result.now c.new-reader.result c.requires c.behind_magic.ensures c.new-reader.ensures c.in_err-head.ensures)

pub returns-then-body-beyond-clause-fault : goal.returns-then-body-beyond-clause-fault
returns-then-body-beyond-clause-fault c =
    let begins = head_begins c.args.version (head_value c.in_ok-head.head) c.args.bytes.now c.behind_magic.result.now c.rest-body.result.now c.new-reader.result c.read_head.new.reader c.behind_magic.ensures c.new-reader.ensures c.in_ok-head.ensures c.rest-body.ensures in
    inr (head_over c.args.bytes.now c.args.version (head_value c.in_ok-head.head) c.rest-body.result.now c.saturating_sub-beyond.result c.requires begins c.saturating_sub-beyond.ensures c.if-body-beyond.true)

pub overflow_sub-result : goal.overflow_sub-result
overflow_sub-result c =
    let begins = head_begins c.args.version (head_value c.in_ok-head.head) c.args.bytes.now c.behind_magic.result.now c.rest-body.result.now c.new-reader.result c.read_head.new.reader c.behind_magic.ensures c.new-reader.ensures c.in_ok-head.ensures c.rest-body.ensures in
    body_within c.args.version (head_value c.in_ok-head.head) c.args.bytes.now c.rest-body.result.now begins

pub overflow_sub-result-2 : goal.overflow_sub-result-2
overflow_sub-result-2 c =
    let begins = head_begins c.args.version (head_value c.in_ok-head.head) c.args.bytes.now c.behind_magic.result.now c.rest-body.result.now c.new-reader.result c.read_head.new.reader c.behind_magic.ensures c.new-reader.ensures c.in_ok-head.ensures c.rest-body.ensures in
    omega (arith, body_within c.args.version (head_value c.in_ok-head.head) c.args.bytes.now c.rest-body.result.now begins, rest_within c.saturating_sub-beyond.result c.rest-body.result.now c.in_ok-read.read c.in_ok-read.ensures)

pub returns-clause-found : goal.returns-clause-found
returns-clause-found c =
    let begins = head_begins c.args.version (head_value c.in_ok-head.head) c.args.bytes.now c.behind_magic.result.now c.rest-body.result.now c.new-reader.result c.read_head.new.reader c.behind_magic.ensures c.new-reader.ensures c.in_ok-head.ensures c.rest-body.ensures in
    is_mended c.args.bytes.now c.args.version c.in_ok-head.head c.rest-body.result.now c.saturating_sub-beyond.result c.in_ok-read.read _ c.requires begins c.saturating_sub-beyond.ensures c.if-body-beyond.false c.in_ok-read.ensures refl refl refl refl refl refl
