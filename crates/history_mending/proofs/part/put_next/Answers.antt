use Rattle.history_mending.proofs.Pieces.{next_put, none_left}
use Rattle.history_mending.proofs.part.put_next.Goals as goal

pub returns-clause-put : goal.returns-clause-put
returns-clause-put c =
    next_put c.args.events.now c.behind-rest.result.now c.split_at.result.0.now c.args.from c.piece_of-count.result c.put_events.new.text.items
    c.behind-rest.ensures c.split_at.ensures.front c.in_ok-put_events.ensures

pub returns-clause-some : goal.returns-clause-some
returns-clause-some c = none_left c.args.events.now c.behind-rest.result.now c.args.from c.piece_of-count.result c.behind-rest.ensures c.piece_of-count.ensures.some
