use Rattle.std.proofs.Common.{◌≤◌, length, arith}
use Rattle.mount_client.proofs.Paths.{is_asked, joined}
use Rattle.mount_client.proofs.asking.message_of.Goals as goal

pub returns-clause-asked : goal.returns-clause-asked
returns-clause-asked c =
    let within : length c.args.path.now ≤ 1024 = omega (arith, c.if-path-gt-PATH_LIMIT.false) in
    is_asked c.args.procedure c.args.path.now _ c.new-message.result.items c.put_call_head.new.out.items c.put_opaque.new.out.items within c.in_ok-put_call_head.ensures.spelled c.new-message.ensures.items
    c.in_ok-put_call_head.ensures.text c.in_ok-put_opaque.ensures.ok

pub returns-clause-whom : goal.returns-clause-whom
returns-clause-whom c =
    joined _ c.new-message.result.items c.put_call_head.new.out.items c.put_opaque.new.out.items _ c.new-message.ensures.items c.in_ok-put_call_head.ensures.text c.in_ok-put_opaque.ensures.ok
