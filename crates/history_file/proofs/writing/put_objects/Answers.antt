use Rattle.std.proofs.Common.{arith}
use Rattle.history_file.proofs.StartWriting.{object_more, objects_done, objects_over}
use Rattle.history_file.proofs.writing.put_objects.Goals as goal

pub returns-then-len-gt-HISTORY_LIMIT-clause-large : goal.returns-then-len-gt-HISTORY_LIMIT-clause-large
returns-then-len-gt-HISTORY_LIMIT-clause-large c =
    objects_over c.args.out.now.items c.put_u32.new.out.items c.args.objects.now c.loop-object.object-index c.object-item.result c.loop-object.out.items c.put_object.new.out.items c.in_ok-put_u32.ensures.ok c.loop-object-test.true c.object-item.is c.in_ok-put_object.ensures.ok (omega (arith, c.len.ensures, c.if-len-gt-HISTORY_LIMIT.true)) c.loop-object.invariant

pub loop-object-preserved : goal.loop-object-preserved
loop-object-preserved c =
    object_more c.put_u32.new.out.items c.args.objects.now c.loop-object.object-index c.object-item.result c.loop-object.out.items c.put_object.new.out.items c.loop-object-test.true c.object-item.is c.in_ok-put_object.ensures.ok c.loop-object.invariant

pub returns-clause-ok : goal.returns-clause-ok
returns-clause-ok c = objects_done c.args.out.now.items c.put_u32.new.out.items c.args.objects.now c.loop-object.object-index c.loop-object.out.items c.in_ok-put_u32.ensures.ok c.loop-object-test.false c.loop-object.invariant
