use Rattle.book_laws.proofs.EveryReply.{every_reply}
use Rattle.book_laws.proofs.served.every_reply_is_served.Goals as goal

pub returns : goal.returns
returns c = every_reply
