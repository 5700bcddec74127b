-- For the prover, and for callers.
-- What a READ gives of what a WRITE wrote, over any number of crashes (RFC 1813, sections 3.3.6 and 3.3.7; section 4.8: what is on
-- stable storage survives a crash).
use Rattle.std.specs.Prelude.{◌≡◌, ◌≢◌, ℕ, List, ◌∷◌, ◌++◌, take, Some}
use Rattle.std.specs.List.{flat_map}
use Rattle.nfs3_types.specs.declared.calls.StableHow.TheVariants.{Unstable}
use Rattle.nfs3_types.specs.declared.calls.WriteArguments.{WriteArguments}
use Rattle.nfs3_types.specs.declared.calls.ReadArguments.{ReadArguments}
use Rattle.nfs3_types.specs.declared.calls.NfsCall.TheVariants as calls
use Rattle.nfs3_types.specs.declared.replies.Answer.TheVariants.{Done}
use Rattle.nfs3_types.specs.declared.replies.ReadSuccess.{ReadSuccess}
use Rattle.nfs3_types.specs.declared.replies.WriteSuccess.{WriteSuccess}
use Rattle.nfs3_types.specs.declared.replies.NfsReply.TheVariants as replies
use Rattle.nfs3_types.specs.declared.replies.Outcome.TheVariants.{Received}
use Rattle.tree_starts.specs.Start.{IsStart}
use Rattle.nfs_history.specs.declared.knowing.KnownCalls.{KnownCalls}
use Rattle.certificate.specs.declared.plan.Certificate.{Certificate}
use Rattle.certificate.specs.declared.plan.EraPlan.{EraPlan}
use Rattle.certificate.specs.declared.plan.Place.{Place}
use Rattle.certificate.specs.Plan.{cut_of}
use Rattle.tree_laws.specs.ReadBack.{ReadsLater, GivesByte}
use Rattle.cut_check.specs.Places.{answered_at, bindings_of}
use Rattle.witness_check.specs.Run.{steps_of}
use Rattle.witness_check.specs.Witness.{IsWitness}

-- the places of an era that the crash at its end left
abbrev pub left_of : EraPlan → List Place
left_of era = take (cut_of era) era.places

-- the places that an era's calls see: those that were left of each era ahead of it, and its own
abbrev pub order_seen : List EraPlan → EraPlan → List Place
order_seen ahead era = flat_map left_of ahead ++ era.places

-- a WRITE that was answered DATA_SYNC or FILE_SYNC is left by the crash that ended its era
abbrev pub SyncedIsLeft : Type 0
SyncedIsLeft =
    (history : KnownCalls) (plan : Certificate) (ahead behind : List EraPlan) (era next : EraPlan) (first more : List Place) (place : Place) (write : WriteArguments) (success : WriteSuccess)
    → IsWitness history plan → plan.eras ≡ ahead ++ era ∷ next ∷ behind → era.places ≡ first ++ place ∷ more
    → answered_at history.calls place ≡ Some (calls.Write write, Received (replies.Write (Done success))) → success.level ≢ Unstable
    → (kept : List Place) × (left_of era ≡ first ++ place ∷ kept)

-- of these places a READ gives each byte that a WRITE ahead of it wrote, unless a place in between wrote over it
abbrev pub WhatWasKept : Type 0
WhatWasKept =
    (history : KnownCalls) (plan : Certificate) (ahead behind : List EraPlan) (era : EraPlan) (write : WriteArguments) (read : ReadArguments) (answer : ReadSuccess) (byte : ℕ)
    → IsStart history.head.start → IsWitness history plan → plan.eras ≡ ahead ++ era ∷ behind
    → ReadsLater history.head.profile history.head.start (bindings_of history.head.root plan.binds) (steps_of history.calls (order_seen ahead era)) write read answer byte
    → GivesByte write read answer byte
