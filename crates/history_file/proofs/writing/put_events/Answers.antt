use Rattle.std.proofs.Common.{◌<◌, ◌++◌, inr, length, arith}
use Rattle.std.proofs.lemmas.Result.{err_from_is_err_and}
use Rattle.history_file.specs.Owning.{all_happened}
use Rattle.history_file.specs.Writing.{counted_text}
use Rattle.history_file.proofs.WritingSteps.{none_written, written_more, long_here, file_over, count_over, text_written, fits_written}
use Rattle.history_file.proofs.writing.put_events.Goals as goal

pub returns-in_err-put_event-clause-large : goal.returns-in_err-put_event-clause-large
returns-in_err-put_event-clause-large c =
    let p = err_from_is_err_and c.from_residual-in_err-put_event.result c.from_residual-in_err-put_event.ensures.1 in
    rw (p.1, p.2) (long_here (268435456 < length (c.args.out.now.items ++ counted_text (all_happened c.args.events.now))) c.args.events.now c.loop-event.event-index c.event-item.result c.in_err-put_event.field-0.0 c.loop-event-test.true c.event-item.is c.in_err-put_event.ensures.large)

pub returns-then-len-gt-HISTORY_LIMIT-2-clause-large : goal.returns-then-len-gt-HISTORY_LIMIT-2-clause-large
returns-then-len-gt-HISTORY_LIMIT-2-clause-large c =
    inr (file_over c.args.out.now.items c.put_u32.new.out.items c.args.events.now c.loop-event.event-index c.event-item.result c.loop-event.out.items c.put_event.new.out.items c.in_ok-put_u32.ensures.ok c.loop-event-test.true c.event-item.is c.in_ok-put_event.ensures.ok (omega (arith, c.len-in-loop-event.ensures, c.if-len-gt-HISTORY_LIMIT-2.true)) c.loop-event.invariant)

pub returns-then-len-gt-HISTORY_LIMIT-clause-large : goal.returns-then-len-gt-HISTORY_LIMIT-clause-large
returns-then-len-gt-HISTORY_LIMIT-clause-large c =
    inr (count_over c.args.out.now.items c.put_u32.new.out.items c.args.events.now c.in_ok-put_u32.ensures.ok (omega (arith, c.len.ensures, c.if-len-gt-HISTORY_LIMIT.true)))

pub loop-event-init : goal.loop-event-init
loop-event-init c = none_written c.put_u32.new.out.items c.args.events.now (omega (arith, c.len.ensures, c.if-len-gt-HISTORY_LIMIT.false))

pub loop-event-preserved : goal.loop-event-preserved
loop-event-preserved c =
    written_more c.put_u32.new.out.items c.args.events.now c.loop-event.event-index c.event-item.result c.loop-event.out.items c.put_event.new.out.items c.loop-event-test.true c.event-item.is c.in_ok-put_event.ensures.ok c.in_ok-put_event.ensures.fits (omega (arith, c.len-in-loop-event.ensures, c.if-len-gt-HISTORY_LIMIT-2.false)) c.loop-event.invariant

pub returns-clause-ok : goal.returns-clause-ok
returns-clause-ok c = text_written c.args.out.now.items c.put_u32.new.out.items c.args.events.now c.loop-event.event-index c.loop-event.out.items c.in_ok-put_u32.ensures.ok c.loop-event-test.false c.loop-event.invariant

pub returns-clause-fits : goal.returns-clause-fits
returns-clause-fits c = fits_written c.put_u32.new.out.items c.args.events.now c.loop-event.event-index c.loop-event.out.items c.loop-event-test.false c.loop-event.invariant
