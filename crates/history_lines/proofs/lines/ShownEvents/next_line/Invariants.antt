use Rattle.std.proofs.Common.{◌≡◌, ℕ, ◌-◌, ◌≤◌, List}
use Rattle.tree_starts.specs.declared.object.StartObject.{StartObject}
use Rattle.tree_starts.specs.declared.profile.Profile.{Profile}
use Rattle.history_lines.specs.Left.{IsLeft}
use Rattle.history_lines.specs.Shown.{ArePassedOver}
use Rattle.history_lines.proofs.lines.ShownEvents.next_line.Given as goal

abbrev pub invariant-loop-unread : goal.invariant-loop-unread
invariant-loop-unread l = record {
  goes_on : (bytes : List ℕ) (start : List StartObject) (profile : Profile) → IsLeft bytes start profile l.initial.self.unread → IsLeft bytes start profile l.self.unread;
  passed : ArePassedOver l.initial.self.maker.look l.initial.self.unread.read l.self.unread.read;
  behind : l.initial.self.unread.read ≤ l.self.unread.read;
  kept : l.self.maker.look ≡ l.initial.self.maker.look;
}

abbrev pub decreases-loop-unread : goal.decreases-loop-unread
decreases-loop-unread l = l.self.unread.count - l.self.unread.read
