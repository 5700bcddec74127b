-- Believed.
-- The first event that may not follow those before it, and why (RFC 5531, section 9; the order of faults is this project's
-- own).
use Rattle.std.specs.Prelude.{◌≡◌, ◌⊎◌, ℕ, ◌+◌, true, false, List, [], ◌∷◌, ◌++◌, length}
use Rattle.history_file.specs.Event.{Event}
use Rattle.history_file.specs.Event.Event.{call, reply, close, crash}
use Rattle.nfs_history.specs.declared.fault.EventFault.{EventFault}
use Rattle.nfs_history.specs.declared.fault.EventFault.TheVariants as faults
use Rattle.nfs_history.specs.Calls.{xid_of}
use Rattle.nfs_history.specs.Standing.{CanBeCall, CanBeReply, has_unanswered, IsClosed, MayFollow}

-- what is wrong with event i behind those before it: its lane is closed; else its message isn't what the event
-- says; else a call's transaction number has an unanswered call on the lane, or a reply's has none
abbrev pub IsAtFault : ℕ → List Event → Event → EventFault → Type 0
IsAtFault i before (call lane message) fault =
    (IsClosed lane before × (fault ≡ faults.LaneClosed i))
    ⊎ ((¬ IsClosed lane before) × (¬ CanBeCall message) × (fault ≡ faults.BadRpc i))
    ⊎ ((¬ IsClosed lane before) × CanBeCall message × (has_unanswered lane (xid_of message) before ≡ true) × (fault ≡ faults.XidInUse i))
IsAtFault i before (reply lane message) fault =
    (IsClosed lane before × (fault ≡ faults.LaneClosed i))
    ⊎ ((¬ IsClosed lane before) × (¬ CanBeReply message) × (fault ≡ faults.BadRpc i))
    ⊎ ((¬ IsClosed lane before) × CanBeReply message × (has_unanswered lane (xid_of message) before ≡ false) × (fault ≡ faults.NoSuchCall i))
IsAtFault i before (close lane) fault = IsClosed lane before × (fault ≡ faults.LaneClosed i)
IsAtFault i before crash fault = ⊥

-- among events behind others, the first that is at fault has this fault
abbrev pub FirstEventFault : List Event → List Event → EventFault → Type 0
FirstEventFault before [] fault = ⊥
FirstEventFault before (e ∷ events) fault =
    IsAtFault (length before + 1) before e fault ⊎ (MayFollow before e × FirstEventFault (before ++ e ∷ []) events fault)
