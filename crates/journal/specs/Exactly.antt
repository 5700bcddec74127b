-- For the prover, and for callers.
-- what is read of bytes that have at most one meaning
use Rattle.std.specs.Prelude.{◌≡◌, ⊤, Option, Some, None, Result, Ok, Err}
use Rattle.journal.specs.declared.record_fault.RecordFault.{RecordFault}
use Rattle.journal.specs.declared.record_fault.RecordFault.TheVariants.{NoRecord, NoMemory}

-- the only meaning that there is
pub record IsOnly {A : Type 0} (Means : A → Type 0) (x : A) : Type 0 where
  pub means : Means x
  pub only : (y : A) → Means y → y ≡ x

abbrev pub MeansNothing : {A : Type 0} → (A → Type 0) → Type 0
MeansNothing {A} Means = (y : A) → Means y → ⊥

-- the only meaning is told, or that there is none; the want of memory says nothing
abbrev pub Exactly : {A : Type 0} → (A → Type 0) → Result A RecordFault → Type 0
Exactly Means (Ok x) = IsOnly Means x
Exactly Means (Err NoRecord) = MeansNothing Means
Exactly Means (Err NoMemory) = ⊤

-- the same where no memory is asked for, of what is seen of a value
abbrev pub ExactlySeen : {X A : Type 0} → (X → A) → (A → Type 0) → Option X → Type 0
ExactlySeen view Means (Some x) = IsOnly Means (view x)
ExactlySeen view Means None = MeansNothing Means
