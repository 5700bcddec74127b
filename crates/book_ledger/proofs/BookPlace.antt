-- what a place leaves of a book, from what each of its calls ensures
use Rattle.std.proofs.Common.{◌≡◌, ℕ, ◌<◌, ◌≤◌, ◌^◌, Bool, length, Option, Err, sym, subst}
use Rattle.std.specs.Prelude.{is_some}
use Rattle.std.specs.declared.vec.Vec.{Vec}
use Rattle.std.specs.declared.alloc.Global.{Global}
use Rattle.nfs3_types.specs.declared.replies.NfsReply.{NfsReply}
use Rattle.nfs3_types.specs.declared.replies.Outcome.{Outcome}
use Rattle.nfs3_types.specs.declared.replies.Outcome.TheVariants as outcomes
use Rattle.journal.specs.Device.{Device, Leaves}
use Rattle.journal.specs.declared.device.DevFault.{DevFault}
use Rattle.journal.specs.declared.device.DevFault.TheVariants as devices
use Rattle.book_laws.specs.Steps.{Places}
use Rattle.book_ledger.specs.Refusals.{PlaceStops}
use Rattle.book_ledger.specs.JoinedFaults.{of_device}
use Rattle.book_ledger.specs.declared.placing.TreeStep.{TreeStep}
use Rattle.book_ledger.specs.declared.ledger.Ledger.{Ledger}
use Rattle.book_ledger.specs.declared.fault.PlaceFault.TheVariants as place
use Rattle.book_ledger.specs.Inside.{object_in, book_of, AreTied}
use Rattle.book_ledger.specs.PlaceSteps.{HasStepped, IsNumbered, ShowsNow, GivesAllowed, IsShortAnswer, IsSayable, IsEntry, HasPlaced, HasLost, IsSame, IsLeft, entry_put}
use Rattle.book_ledger.proofs.Parts.{parts_of}
use Rattle.book_ledger.proofs.NewPlace.{within_calls}
use Rattle.book_ledger.proofs.BookSteps.{IsTurn, ready_then, place_done, place_lost, place_unkept, place_failed}

module _ (old prepared : Ledger) (device : Device) (number : ℕ) (turn : IsTurn old device number) (same : IsSame old prepared) (stepped : Ledger) (step : TreeStep) where
  pub within_so : object_in prepared number < 2 ^ 64 → (reply : NfsReply) (outcome : Outcome) → HasStepped prepared number outcome step stepped → number ≤ length stepped.calls.items
  within_so lt reply outcome s =
      subst (λ (l : Ledger). number ≤ length l.calls.items) (sym s.parts) (within_calls (parts_of prepared) device number s.before (ready_then old prepared device number reply turn same lt s.before s.stood))

  -- what is known of the reply once the step is taken
  abbrev pub Fits : Outcome → Type 0
  Fits outcome = IsNumbered prepared number × ShowsNow prepared number outcome × GivesAllowed prepared number outcome × IsShortAnswer prepared number outcome × IsSayable prepared number outcome

  pub placed_then : (outcome : Outcome) (reply : NfsReply) → outcome ≡ outcomes.Received reply → HasStepped prepared number outcome step stepped → Fits outcome → (new : Ledger) (entry : Option (Vec ℕ Global)) (flag : Bool) (records : ℕ) (after : Device)
      → flag ≡ is_some entry → IsEntry prepared number outcome entry → HasPlaced stepped number outcome step flag records new → after ≡ entry_put entry device → records ≡ length after.records
      → AreTied new after × Places (book_of old device) number reply (book_of new after)
  placed_then outcome reply is s fits new entry flag records after same_flag has h put count =
      place_done old prepared device number reply turn same stepped step (subst (λ (o : Outcome). HasStepped prepared number o step stepped) is s) (subst Fits is fits) new entry records after
      (subst (λ (o : Outcome). IsEntry prepared number o entry) is has)
      (subst (λ (b : Bool). HasPlaced stepped number (outcomes.Received reply) step b records new) same_flag (subst (λ (o : Outcome). HasPlaced stepped number o step flag records new) is h)) put count

  -- where the device refused the record
  pub lost_then : (outcome : Outcome) (reply : NfsReply) → outcome ≡ outcomes.Received reply → HasStepped prepared number outcome step stepped → Fits outcome → (new : Ledger) (done after : Device) (fault : DevFault)
      → HasLost stepped number step.made new → Leaves {A = Unit {0}} device done (Err fault) after
      → AreTied new after × (PlaceStops (book_of old device) number reply (of_device fault) × IsLeft (book_of old device) (of_device fault) (book_of new after))
  lost_then outcome reply is s fits new done after devices.Failed lost leaves =
      subst (λ (d : Device). AreTied new d × (PlaceStops (book_of old device) number reply place.DeviceFault × IsLeft (book_of old device) place.DeviceFault (book_of new d))) (sym leaves)
      (place_failed old prepared device number reply turn same stepped step (subst (λ (o : Outcome). HasStepped prepared number o step stepped) is s) (subst Fits is fits) new lost)
  lost_then outcome reply is s fits new done after devices.NoMemory lost leaves =
      let there = subst (λ (o : Outcome). HasStepped prepared number o step stepped) is s in
      let fine = subst Fits is fits in
      subst (λ (d : Device). AreTied new d × (PlaceStops (book_of old device) number reply place.NoMemory × IsLeft (book_of old device) place.NoMemory (book_of new d))) (sym leaves)
      ((place_lost old prepared device number reply turn same stepped step there fine new lost).0, place_unkept old prepared device number reply turn same stepped step there fine new lost)
