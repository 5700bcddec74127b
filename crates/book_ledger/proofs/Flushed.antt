-- a book that is flushed, opened and asked
use Rattle.tree_starts.specs.declared.object.StartObject.{StartObject}
use Rattle.tree_starts.specs.declared.profile.Profile.{Profile}
use Rattle.std.proofs.Common.{List, ◌≡◌, ◌≢◌, ℕ, [], Result, Ok, Err, refl, sym, ap, ◌∙◌, subst}
use Rattle.std.specs.Prelude.{IfOk}
use Rattle.journal.specs.declared.device.DevFault.{DevFault}
use Rattle.journal.specs.declared.device.DevFault.TheVariants.{Failed, NoMemory}
use Rattle.journal.specs.Device.{Device, settled, with_fault, Leaves}
use Rattle.book_laws.specs.Book.{Book}
use Rattle.book_laws.specs.Book.Condition.{running, down}
use Rattle.book_laws.specs.Steps.{opening_book, Flushes}
use Rattle.book_ledger.specs.declared.placed.Condition as code
use Rattle.book_ledger.specs.declared.placed.Condition.TheVariants as codes
use Rattle.book_ledger.specs.declared.ledger.Ledger.{Ledger}
use Rattle.book_ledger.specs.Inside.{condition_of, book_of, AreTied, Holds}
use Rattle.book_ledger.proofs.Conditions.{fails}

pub running_lives : (condition : code.Condition) → condition ≡ codes.Running → condition ≡ codes.Dead → ⊥
running_lives condition e f = clash (sym e ∙ f) where
  clash : codes.Running ≡ codes.Dead → ⊥
  clash g = cc

down_rests : (condition : code.Condition) → condition_of condition ≡ down → condition ≢ codes.Running
down_rests condition e f = clash (sym (ap condition_of f) ∙ e) where
  clash : running ≡ down → ⊥
  clash g = cc

abbrev pub barred : DevFault → Result (Unit {0}) DevFault
barred fault = Err fault

pub barrier_failed : (fault : DevFault) (before done after : Device) → Leaves before done (barred fault) after → (barred fault ≡ barred NoMemory → ⊥) → after ≡ with_fault before
barrier_failed Failed before done after is never = is
barrier_failed NoMemory before done after is never = absurd (never refl)

module _ (old new : Ledger) (device after : Device) (t : AreTied old device) (o : Book) (is : book_of old device ≡ o) (runs : old.condition ≡ codes.Running) where
  pub flushed_so : after ≡ settled device → book_of new (settled device) ≡ record (book_of old device) { device = settled device } → Flushes o (book_of new after)
  flushed_so at done =
      subst (λ (b : Book). Flushes b (book_of new after)) is (record { running = ap condition_of runs; done = ap (λ (d : Device). book_of new d) at ∙ done })

  pub downed_tied : after ≡ with_fault device → AreTied new device → book_of new device ≡ record (book_of old device) { condition = down } → AreTied new after
  downed_tied at tied done = subst (λ (d : Device). AreTied new d) (sym at) (fails new device tied (down_rests new.condition (ap (λ (b : Book). b.condition) done)))

  pub downed_so : after ≡ with_fault device → book_of new device ≡ record (book_of old device) { condition = down } → (o.condition ≡ running) × (book_of new after ≡ record o { device = with_fault o.device; condition = down })
  downed_so at done =
      subst (λ (b : Book). (b.condition ≡ running) × (book_of new after ≡ record b { device = with_fault b.device; condition = down })) is
      (ap condition_of runs, ap (λ (d : Device). book_of new d) at ∙ ap (λ (b : Book). record b { device = with_fault device }) done)

pub opened : (profile : Profile) (start : List StartObject) (ledger : Ledger) (device : Device) → device.records ≡ [] → device.mark ≡ 0
    → ((faults : ℕ) → AreTied ledger (opening_book profile start faults).device × (book_of ledger (opening_book profile start faults).device ≡ opening_book profile start faults)) → AreTied ledger device × (book_of ledger device ≡ opening_book profile start device.faults)
opened profile start ledger device records mark h =
    let same : device ≡ (opening_book profile start device.faults).device = λ i. record { records = records i; mark = mark i; faults = device.faults } in
    subst (λ (d : Device). AreTied ledger d × (book_of ledger d ≡ opening_book profile start device.faults)) (sym same) (h device.faults)

pub if_ok_holds : {X E : Type 0} (P : X → Book → Type 0) (ledger : Ledger) (device : Device) → AreTied ledger device → (o : Book) → book_of ledger device ≡ o → (r : Result X E) → IfOk r (λ x. Holds (P x) ledger) → IfOk r (λ x. P x o)
if_ok_holds P ledger device t o is (Ok x) holds = subst (P x) is (holds device t)
if_ok_holds P ledger device t o is (Err e) holds = tt
