use Rattle.std.proofs.Common.{◌-◌, sym, ap, ◌∙◌}
use Rattle.xdr_records.proofs.Written.{length-word_text}
use Rattle.nfs_tap.proofs.RoomLeft.{length-message_text, length-close_text}
use Rattle.nfs_tap.proofs.room.left_behind.Goals as goal

pub returns-in-Call : goal.returns-in-Call
returns-in-Call c =
    rw c.in-Call.is (c.left_behind_message.ensures ∙ ap (λ n. c.args.left - n) (sym (length-message_text 0 c.in-Call.lane c.in-Call.message)))

pub returns-in-Reply : goal.returns-in-Reply
returns-in-Reply c =
    rw c.in-Reply.is (c.left_behind_message-in-Reply.ensures ∙ ap (λ n. c.args.left - n) (sym (length-message_text 1 c.in-Reply.lane c.in-Reply.message)))

pub returns-in-Close : goal.returns-in-Close
returns-in-Close c = rw c.in-Close.is (c.saturating_sub.ensures ∙ ap (λ n. c.args.left - n) (sym (length-close_text 2 c.in-Close.lane)))

pub returns-in-Crash : goal.returns-in-Crash
returns-in-Crash c = rw c.in-Crash.is (c.saturating_sub-in-Crash.ensures ∙ ap (λ n. c.args.left - n) (sym (length-word_text 3)))
