-- For the prover, and for callers.
-- How the plan is made: what the code's private functions say to the prover.
use Rattle.std.specs.Prelude.{◌≡◌, ◌==◌, ◌&&◌, if◌then◌else◌, ℕ, zero, suc, nat_lt, nat_le, is_none, option_and_then, Bool, List, [], ◌∷◌, ◌++◌, length, map, Option, Some, None, unwrap_or}
use Rattle.std.specs.List.{filter}
use Rattle.std.specs.Option.{option_to_list}
use Rattle.std.specs.List.Sorted.{IsPermutation, IsNonDecreasingBy, IsSortedBy}
use Rattle.std.specs.Ordering.{nat_cmp, is_lt}
use Rattle.std.specs.Cmp.Lexicographic.{slice_cmp}
use Rattle.tree_starts.specs.Head.{Head}
use Rattle.tree_starts.specs.Start.{object_made}
use Rattle.nfs_history.specs.declared.recorded.RecordedCall.{RecordedCall}
use Rattle.nfs_history.specs.HistoryValue.{CallsValue}
use Rattle.nfs_history.specs.Precedence.{call_at}
use Rattle.nfs_history.specs.Reread.{call_kind}
use Rattle.certificate.specs.declared.plan.Bind.{Bind}
use Rattle.certificate.specs.declared.plan.Place.{Place}
use Rattle.certificate.specs.declared.plan.Place.TheVariants.{Answered}
use Rattle.certificate.specs.declared.plan.EraPlan.{EraPlan}
use Rattle.certificate.specs.declared.plan.Certificate.{Certificate}
use Rattle.reply_order.specs.declared.replies.Reply.{Reply}
use Rattle.tree_handles.specs.Binding.{Bindings, object_of}
use Rattle.reply_order.specs.ReplyOrder.{is_answered, handle_given}

-- the reply to call n, where that is an answered judged one
abbrev pub reply_to : ℕ → Option RecordedCall → Option Reply
reply_to n None = None
reply_to n (Some call) = if is_answered (call_kind call) then Some (record { number = n; «end» = unwrap_or call.«end» 0; era = call.era }) else None

abbrev pub reply_at : List RecordedCall → ℕ → Option Reply
reply_at calls n = reply_to n (call_at calls n)

-- the replies to the first n calls, in the order of the calls
abbrev pub replies_up_to : List RecordedCall → ℕ → List Reply
replies_up_to calls zero = []
replies_up_to calls (suc n) = replies_up_to calls n ++ option_to_list (reply_at calls (suc n))

-- all replies, in their order
pub record AreInOrder (calls : List RecordedCall) (replies : List Reply) : Type 0 where
  pub shuffled : IsPermutation (replies_up_to calls (length calls)) replies
  pub ordered : IsNonDecreasingBy (λ (r : Reply). r.«end») replies

abbrev pub is_of_era : ℕ → Reply → Bool
is_of_era e r = r.era == e

abbrev pub place_of : Reply → Place
place_of r = Answered r.number

-- the places of an era
abbrev pub places_in : List Reply → ℕ → List Place
places_in replies e = map place_of (filter (is_of_era e) replies)

-- the replies, era by era, each era's in the order that they had
pub record AreGrouped (replies grouped : List Reply) : Type 0 where
  pub ordered : IsNonDecreasingBy (λ (r : Reply). r.era) grouped
  pub kept : (e : ℕ) → filter (is_of_era e) grouped ≡ filter (is_of_era e) replies

-- the plan of one of so many eras
abbrev pub era_plan : List Reply → ℕ → ℕ → EraPlan
era_plan replies e eras = record {
  places = places_in replies e;
  cut = if nat_lt e eras then Some (length (places_in replies e)) else None;
}

-- the plans of the first n of so many eras
abbrev pub plans_up_to : List Reply → ℕ → ℕ → List EraPlan
plans_up_to replies eras zero = []
plans_up_to replies eras (suc n) = plans_up_to replies eras n ++ era_plan replies (suc n) eras ∷ []

-- what handles name, so far
abbrev pub names_of : List ℕ → List Bind → Bindings
names_of root binds = record { root = root; pairs = map (λ bind. (bind.handle, bind.object)) binds }

-- a handle that may be bound, and isn't yet
abbrev pub is_new : Bindings → List ℕ → Bool
is_new names handle = nat_lt 0 (length handle) && nat_le (length handle) 64 && is_none (object_of names handle)

-- the binds with that of the handle that call n was given, if it was given one that is new
abbrev pub binds_with : Head → List Bind → ℕ → Option (List ℕ) → List Bind
binds_with head binds n None = binds
binds_with head binds n (Some handle) =
    if is_new (names_of head.root binds) handle then binds ++ (record { handle = handle; object = object_made (length head.start) n }) ∷ [] else binds

-- the handle that call n was given
abbrev pub given_at : List RecordedCall → ℕ → Option (List ℕ)
given_at calls n = option_and_then handle_given (call_at calls n)

-- the binds with those of further replies
abbrev pub binds_behind : CallsValue → List Bind → List Reply → List Bind
binds_behind history binds [] = binds
binds_behind history binds (r ∷ replies) = binds_behind history (binds_with history.head binds r.number (given_at history.calls r.number)) replies

-- the binds in the order of their handles
pub record AreSorted (found binds : List Bind) : Type 0 where
  pub shuffled : IsPermutation found binds
  pub ordered : IsSortedBy (λ (a b : Bind). is_lt (slice_cmp nat_cmp a.handle b.handle)) binds

-- the plan is made of the replies in their order
pub record IsMade (history : CallsValue) (plan : Certificate) : Type 0 where
  pub replies : List Reply
  pub in_order : AreInOrder history.calls replies
  pub grouped : List Reply
  pub by_era : AreGrouped replies grouped
  pub eras : plan.eras ≡ plans_up_to grouped history.eras history.eras
  pub binds : AreSorted (binds_behind history [] replies) plan.binds
