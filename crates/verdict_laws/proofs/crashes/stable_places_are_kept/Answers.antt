use Rattle.std.proofs.Common.{arith, inl, inr}
use Rattle.std.proofs.lemmas.Bool.{cases_lt}
use Rattle.certificate.specs.Plan.{cut_of}
use Rattle.verdict_laws.proofs.crashes.stable_places_are_kept.Goals as goal

pub returns : goal.returns
returns c = λ history plan e position era witness there ended stable.
    elim (cases_lt (cut_of era) position) [ inl lost ↦ absurd (witness.cuts e era there ended position lost stable) | inr kept ↦ omega arith ]
