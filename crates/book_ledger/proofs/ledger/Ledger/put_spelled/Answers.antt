use Rattle.std.proofs.Common.{List, ℕ, [], ◌∷◌, ◌++◌, ap, ◌∙◌}
use Rattle.history_file.specs.declared.event.Event.TheVariants as owns
use Rattle.book_ledger.proofs.Answered.{put_so, returns_spelled}
use Rattle.book_ledger.proofs.ledger.Ledger.put_spelled.Goals as goal

pub append_read_reply-requires : goal.append_read_reply-requires
append_read_reply-requires c =
    returns_spelled c.into_parts-reply.result.1 c.into_parts-reply.result.2.items c.into_parts-reply.result.0 c.args.spelled.reply c.args.spelled.xid c.into_parts-reply.ensures.spelled c.into_parts-reply.ensures.message
    c.into_parts-reply.ensures.reply

pub returns-in-Ok-clause-taken : goal.returns-in-Ok-clause-taken
returns-in-Ok-clause-taken c = λ call at.
    put_so c.args.self.now.history c.append_read_reply.new.self c.call.result.now call _ c.into_parts-reply.result.1 c.into_parts-reply.result.2.items c.call.ensures at c.into_parts-reply.ensures.message
    (record { history = c.in-Ok.ensures.found; events = c.in-Ok.ensures.behind; spare = c.in-Ok.ensures.taken })

pub returns-in-Ok-clause-sent : goal.returns-in-Ok-clause-sent
returns-in-Ok-clause-sent c = (
  c.call.result.now.lane,
  c.in-Ok.ensures.behind ∙ ap (λ (m : List ℕ). c.args.self.now.history.events ++ owns.Reply c.call.result.now.lane m ∷ []) c.into_parts-reply.ensures.message,
)
