-- For the prover, and for callers.
-- The atomic steps on a table of seen states, and what each tells the claimer that takes it.
use Rattle.std.specs.Prelude.{◌≡◌, ◌≢◌, ℕ, ◌+◌, ◌<◌, ◌≤◌, ◌==◌, if◌then◌else◌, [], ◌∷◌, ◌++◌}
use Rattle.atomic_table.specs.Table.{Me}
use Rattle.seen_states.specs.declared.view.View.{View}
use Rattle.seen_states.specs.Seen.{times, IsTold, view}

-- a claim of this fingerprint may look at the word at place k, the first one, or the one behind those that it probed
abbrev pub MayLook : ℕ → ℕ → ℕ → View → Type 0
MayLook n fingerprint k v = (fingerprint ≢ 0) × (k < n) × (k ≢ 0 → (v.fingerprint ≡ fingerprint) × (v.probed ≡ k))

-- it may take that word once it has looked at it
abbrev pub MayTake : ℕ → ℕ → ℕ → View → Type 0
MayTake n fingerprint k v = (fingerprint ≢ 0) × (k < n) × (v.fingerprint ≡ fingerprint) × (v.probed ≡ k)

-- the view after the word at place k of the fingerprint's order was found; a free word changes nothing
abbrev pub looked : ℕ → ℕ → View → ℕ → View
looked fingerprint k v found =
    if found == 0 then view fingerprint k v.new_answers v.seen_answers
    else (if found == fingerprint then view fingerprint k v.new_answers (v.seen_answers ++ fingerprint ∷ [])
    else view fingerprint (k + 1) v.new_answers v.seen_answers)

-- the view after an exchange, which is won where the word was free, and else is a look
abbrev pub took : ℕ → ℕ → View → ℕ → View
took fingerprint k v found =
    if found == 0 then view fingerprint k (v.new_answers ++ fingerprint ∷ []) v.seen_answers
    else looked fingerprint k v found

-- a claimer's view, and the slots of the table that it holds, of which there are none
abbrev Seated : Type 0
Seated = Me (Unit {0}) View

-- where the last word of the order was found to hold another fingerprint, this one was never told of
abbrev pub TellsLook : ℕ → ℕ → ℕ → Seated → ℕ → Seated → Type 0
TellsLook n fingerprint k before found after = (after.1 ≡ before.1) × (after.0 ≡ looked fingerprint k before.0 found) × (after.0.probed ≡ n → ¬ IsTold fingerprint before.0)

-- the same of an exchange; where it is won, the fingerprint was never told of
abbrev pub TellsTake : ℕ → ℕ → ℕ → Seated → ℕ → Seated → Type 0
TellsTake n fingerprint k before found after =
    (after.1 ≡ before.1) × (after.0 ≡ took fingerprint k before.0 found) × (found ≡ 0 → ¬ IsTold fingerprint before.0) × (after.0.probed ≡ n → ¬ IsTold fingerprint before.0)

-- a load that changes nothing: no fingerprint was New twice
abbrev pub TellsCompare : Seated → Seated → Type 0
TellsCompare before after = (after ≡ before) × ((x : ℕ) → times x after.0.new_answers ≤ 1)
