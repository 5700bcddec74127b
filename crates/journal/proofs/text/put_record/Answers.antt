use Rattle.std.proofs.Common.{◌<◌, ◌^◌, rules}
use Rattle.journal.proofs.Meanings.{spelled_so, on_ok}
use Rattle.journal.proofs.text.put_record.Goals as goal

pub returns-clause-spelled : goal.returns-clause-spelled
returns-clause-spelled c =
    let fits : c.args.number < 2 ^ 64 = search rules in
    on_ok c.extend_from_slice.result (spelled_so c.args.number c.args.call.now c.args.reply.now fits c.requires.call c.requires.reply)
