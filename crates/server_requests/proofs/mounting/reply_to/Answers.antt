use Rattle.rpc_reader.specs.Views.{call_value}
use Rattle.server_requests.specs.MountPlainly.{body_of}
use Rattle.server_requests.proofs.Served.{answer_is}
use Rattle.server_requests.proofs.mounting.reply_to.Goals as goal

pub returns-in_ok-message-in-Some : goal.returns-in_ok-message-in-Some
returns-in_ok-message-in-Some c =
    let it = answer_is (call_value c.args.head.now) (body_of c.in-Some.answer) c.in-Some.ensures in
    (it.0, (body_of c.in-Some.answer, it.1, c.in_ok-message-in-Some.ensures))
