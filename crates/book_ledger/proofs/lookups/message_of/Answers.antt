use Rattle.std.proofs.Common.{◌-◌, Some, length, arith, sym, ap, ◌∙◌}
use Rattle.history_file.specs.declared.event.Event.TheVariants as owns
use Rattle.book_ledger.proofs.Standing.{has_sent, stood_there, same_message}
use Rattle.book_ledger.proofs.lookups.message_of.Goals as goal

pub overflow_sub-call : goal.overflow_sub-call
overflow_sub-call c = (has_sent c.args.history.now c.requires.0 c.args.call.now c.events.ensures.whole c.requires.1).began.some

pub offset_bounds-events-call : goal.offset_bounds-events-call
offset_bounds-events-call c =
    let sent = has_sent c.args.history.now c.requires.0 c.args.call.now c.events.ensures.whole c.requires.1 in
    omega (arith, sent.began.within, ap length c.events.ensures.shown, c.events.type_inv.1)

pub bounds-events-call : goal.bounds-events-call
bounds-events-call c =
    let sent = has_sent c.args.history.now c.requires.0 c.args.call.now c.events.ensures.whole c.requires.1 in
    omega (arith, sent.began.within, ap length c.events.ensures.shown)

pub unreachable-requires : goal.unreachable-requires
unreachable-requires c =
    let sent = has_sent c.args.history.now c.requires.0 c.args.call.now c.events.ensures.whole c.requires.1 in
    c.in_default.not-Call c.args.call.now.lane sent.asked.event.message
    (stood_there c.args.history.now.events c.events.result.now (c.args.call.now.begin - 1) (owns.Call c.args.call.now.lane sent.asked.event.message) c.index-events-call.result c.events.ensures.shown sent.sent c.index-events-call.is)

pub returns : goal.returns
returns c =
    let sent = has_sent c.args.history.now c.requires.0 c.args.call.now c.events.ensures.whole c.requires.1 in
    let stood =
    stood_there c.args.history.now.events c.events.result.now (c.args.call.now.begin - 1) (owns.Call c.args.call.now.lane sent.asked.event.message) c.index-events-call.result c.events.ensures.shown sent.sent c.index-events-call.is in
    let same = same_message c.index-events-call.result _ c.args.call.now.lane c.in-Call.message sent.asked.event.message c.in-Call.is stood in
    sent.sent ∙ ap (λ m. Some (owns.Call c.args.call.now.lane m)) (sym same ∙ sym c.as_slice.ensures)
