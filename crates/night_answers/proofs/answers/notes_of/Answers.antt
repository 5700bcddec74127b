use Rattle.std.proofs.Common.{arith}
use Rattle.night_answers.proofs.Reading.{one_more_noted}
use Rattle.night_answers.proofs.answers.notes_of.Goals as goal

pub loop-index-preserved : goal.loop-index-preserved
loop-index-preserved c =
    one_more_noted c.args.history.now.calls c.loop-index.notes.items c.push.new.self.items c.loop-index.index c.in_ok-call.field-0 c.in-Some.call c.note_of.result
    (omega (arith, c.loop-index-test.true, c.count-count.ensures.value)) c.in_ok-call.ensures c.in-Some.is c.note_of.ensures c.loop-index.invariant c.in_ok-push.ensures.items
