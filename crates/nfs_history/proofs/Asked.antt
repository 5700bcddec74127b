-- A history with one call more, whose message was read already.
use Rattle.std.proofs.Common.{◌≡◌, ℕ, ◌+◌, List, [], ◌∷◌, ◌++◌, length, None, Ok, refl}
use Rattle.nfs3_types.specs.declared.calls.NfsCall.{NfsCall}
use Rattle.history_file.specs.Event.Event.{call}
use Rattle.nfs_history.specs.declared.checking.OpenCalls.{OpenCalls}
use Rattle.nfs_history.specs.declared.recorded.Meaning.TheVariants as meanings
use Rattle.nfs_history.specs.declared.recorded.RecordedCall.{RecordedCall}
use Rattle.nfs_history.specs.HistoryValue.{HistoryValue}
use Rattle.nfs_history.specs.Appending.{AreCallsWith}
use Rattle.nfs_history.specs.Calls.{xid_of}
use Rattle.nfs_history.specs.History.{Asks, IsRecorded}
use Rattle.nfs_history.specs.Inside.{IsOpenAt}
use Rattle.nfs_history.proofs.AppendSteps.{begun_ok}
use Rattle.nfs_history.proofs.Waiting.{new_call}

-- what is known of it
abbrev pub asked_as : ℕ → ℕ → ℕ → ℕ → NfsCall → RecordedCall
asked_as lane xid begin era asked = record { lane = lane; xid = xid; meaning = meanings.Judged asked; begin = begin; «end» = None; era = era; outcome = None }

asked_recorded : (lane : ℕ) (message : List ℕ) (xid begin era : ℕ) (asked : NfsCall) → xid ≡ xid_of message → Asks message asked → IsRecorded (new_call lane message begin era) (asked_as lane xid begin era asked)
asked_recorded lane message xid begin era asked same is =
    record {
      lane = refl;
      xid = same;
      begin = refl;
      «end» = refl;
      era = refl;
      means = (is.head, None, is.is_call, refl, record { of_nfs = is.of_nfs; accepted = refl; came_out = refl; inside = is.inside });
    }

pub asked_ok : (h : HistoryValue) (known : OpenCalls) (lane : ℕ) (message : List ℕ) (xid begin era : ℕ) (asked : NfsCall) (old : HistoryValue) → h ≡ old → IsOpenAt h known → begin ≡ length h.events + 1 → era ≡ known.era → xid ≡ xid_of message
    → Asks message asked → AreCallsWith old (call lane message) (old.known.calls ++ asked_as lane xid begin era asked ∷ [])
asked_ok h known lane message xid begin era asked old view is at of same asks =
    begun_ok h known lane message begin era old (Ok (asked_as lane xid begin era asked)) view is at of (asked_recorded lane message xid begin era asked same asks)
