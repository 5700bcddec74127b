-- Where no event is left, the end decides.
use Rattle.std.proofs.Common.{sym, ap, ◌∙◌}
use Rattle.xdr_records.specs.Items.{end_at}
use Rattle.history_lines.proofs.LeftLaws.{whole_at_end, fault_at_end}
use Rattle.history_lines.proofs.events.UnreadEvents.ended.Goals as goal

pub returns-in-Ok-clause-ok : goal.returns-in-Ok-clause-ok
returns-in-Ok-clause-ok c =
    let unread = c.args.self.now in
    λ bytes start profile left. whole_at_end bytes start profile unread.read unread.count unread.rest.now c.requires (sym (ap end_at c.new.ensures) ∙ (sym c.done.ensures.exact ∙ c.in-Ok.is)) left

pub returns-in-Err-clause-fault : goal.returns-in-Err-clause-fault
returns-in-Err-clause-fault c =
    let unread = c.args.self.now in
    λ bytes start profile left. rw c.fault_of.ensures
    (fault_at_end bytes start profile unread.read unread.count unread.rest.now c.in-Err.fault c.requires (sym (ap end_at c.new.ensures) ∙ (sym c.done.ensures.exact ∙ c.in-Err.is)) left)
