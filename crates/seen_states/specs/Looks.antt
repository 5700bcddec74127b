-- For the prover.
-- What one word says to a claim.
use Rattle.std.specs.Prelude.{◌≡◌, ℕ, ◌+◌, [], ◌∷◌, ◌++◌, Option, Some, None}
use Rattle.seen_states.specs.declared.view.View.{View}
use Rattle.seen_states.specs.declared.handles.Claim.{Claim}
use Rattle.seen_states.specs.declared.handles.Claim.TheVariants.{New, Seen, Full}
use Rattle.seen_states.specs.Seen.{IsTold, view}

-- what is known after the word at place k: New or Seen, or one word more that holds another fingerprint
abbrev pub Probes : ℕ → ℕ → ℕ → View → Option Claim → View → Type 0
Probes n fingerprint k v (Some New) w = (w ≡ view fingerprint k (v.new_answers ++ fingerprint ∷ []) v.seen_answers) × ¬ IsTold fingerprint v
Probes n fingerprint k v (Some Seen) w = w ≡ view fingerprint k v.new_answers (v.seen_answers ++ fingerprint ∷ [])
Probes n fingerprint k v (Some Full) w = ⊥
Probes n fingerprint k v None w = (w ≡ view fingerprint (k + 1) v.new_answers v.seen_answers) × (k + 1 ≡ n → ¬ IsTold fingerprint v)
