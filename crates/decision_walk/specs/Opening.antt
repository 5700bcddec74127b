-- For the prover, and for callers.
-- What files hold while it is open how many bytes some WRITEs wrote that got no reply (a form of this project's own).
use Rattle.std.specs.Prelude.{◌≡◌, ◌==◌, ℕ, ◌≤◌, Bool, if◌then◌else◌, List, [], ◌∷◌, take, drop, ◌++◌, filter, not, find, Option, Some, None, option_and_then}
use Rattle.std.specs.List.{AllByRecursion, list_any}
use Rattle.nfs3_types.specs.declared.calls.NfsCall.{NfsCall}
use Rattle.nfs3_types.specs.declared.calls.NfsCall.TheVariants as calls
use Rattle.nfs3_types.specs.declared.calls.WriteArguments.{WriteArguments}
use Rattle.nfs_history.specs.declared.recorded.Meaning.{Meaning}
use Rattle.nfs_history.specs.declared.recorded.Meaning.TheVariants as meanings
use Rattle.nfs_history.specs.declared.recorded.RecordedCall.{RecordedCall}
use Rattle.nfs_history.specs.declared.knowing.KnownCalls.{KnownCalls}
use Rattle.nfs_history.specs.Precedence.{call_at}
use Rattle.tree_starts.specs.declared.profile.Profile.TheVariants.{Plain}
use Rattle.tree_nodes.specs.Tree.{Tree}
use Rattle.tree_handles.specs.Binding.{Bindings, object_of}
use Rattle.alike_calls.specs.Alike.{Alike, with_bytes}
use Rattle.alike_calls.specs.Writes.{written_so}
use Rattle.decision_walk.specs.declared.open_writes.OpenWrite.{OpenWrite}
use Rattle.decision_walk.specs.declared.open_writes.Counts.{Counts}
use Rattle.decision_walk.specs.View.{KeptView}

-- the WRITE that a call is
abbrev pub write_in : NfsCall → Option WriteArguments
write_in (calls.Write write) = Some write
write_in call = None

abbrev pub judged_in : Meaning → Option NfsCall
judged_in (meanings.Judged call) = Some call
judged_in meanings.Unjudged = None

-- the judged call of number n
abbrev pub call_of_history : KnownCalls → ℕ → Option NfsCall
call_of_history known n = option_and_then (λ (recorded : RecordedCall). judged_in recorded.meaning) (call_at known.calls n)

-- the WRITE that call n is
abbrev pub write_of : KnownCalls → ℕ → Option WriteArguments
write_of known n = option_and_then write_in (call_of_history known n)

-- what a file holds, of what it held, once the WRITE wrote so many bytes
abbrev pub held_with : Option WriteArguments → ℕ → List ℕ → List ℕ
held_with None count held = held
held_with (Some write) count held = written_so write count held

-- what an object's files hold, of what they held, once each of these WRITEs wrote its count of bytes. The first of an object counts
abbrev pub filled : KnownCalls → (ℕ → ℕ) → List OpenWrite → ℕ → List ℕ → List ℕ
filled known counts [] object held = held
filled known counts (one ∷ rest) object held = if object == one.object then held_with (write_of known one.call) (counts one.call) held else filled known counts rest object held

-- the WRITE is one of a history in the plain profile, over the object that its handle names, and its count is one that it may have
pub record IsOpen (known : KnownCalls) (binds : Bindings) (counts : ℕ → ℕ) (one : OpenWrite) : Type 0 where
  pub plain : known.head.profile ≡ Plain
  pub write : WriteArguments
  pub «is» : write_of known one.call ≡ Some write
  pub named : object_of binds write.file ≡ Some one.object
  pub least : one.least ≤ counts one.call
  pub most : counts one.call ≤ one.most

-- the other tree is the tree with these WRITEs in it
pub record HasWritten (known : KnownCalls) (binds : Bindings) (counts : ℕ → ℕ) (writes : List OpenWrite) (tree other : Tree) : Type 0 where
  pub each : AllByRecursion (IsOpen known binds counts) writes
  pub alike : Alike (with_bytes (filled known counts writes)) tree other

-- so it is of the trees to which a crash goes back
abbrev pub HasWrittenBase : KnownCalls → Bindings → (ℕ → ℕ) → Option KeptView → Option Tree → Type 0
HasWrittenBase known binds counts None None = Unit {0}
HasWrittenBase known binds counts (Some kept) (Some other) = HasWritten known binds counts kept.writes kept.tree other
HasWrittenBase known binds counts _ _ = ⊥

-- ---- lists of open WRITEs

-- whether a call is one of them
abbrev pub is_open : List OpenWrite → ℕ → Bool
is_open writes call = list_any (λ (one : OpenWrite). one.call == call) writes

-- the open WRITE of an object's file
abbrev pub open_at : List OpenWrite → ℕ → Option OpenWrite
open_at writes object = find (λ (one : OpenWrite). one.object == object) writes

-- those of other objects
abbrev pub of_others : List OpenWrite → ℕ → List OpenWrite
of_others writes object = filter (λ (one : OpenWrite). not (one.object == object)) writes

-- one more, somewhere
abbrev pub IsInserted : OpenWrite → List OpenWrite → List OpenWrite → Type 0
IsInserted one writes more = (at : ℕ) × (more ≡ take at writes ++ one ∷ drop at writes)

-- the WRITE, with these counts if it is this call
abbrev pub narrowed_write : ℕ → ℕ → ℕ → OpenWrite → OpenWrite
narrowed_write call least most one = if one.call == call then record { call = one.call; object = one.object; least = least; most = most } else one

abbrev pub IsWithin : Counts → ℕ → Type 0
IsWithin counts count = (counts.least ≤ count) × (count ≤ counts.most)
