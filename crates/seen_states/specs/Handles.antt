-- For the prover, and for callers.
-- What contracts see of a table, a claimer and an answer.
use Rattle.std.specs.Prelude.{◌≡◌, ℕ, [], ◌∷◌, ◌++◌}
use Rattle.seen_states.specs.declared.view.View.{View}
use Rattle.seen_states.specs.declared.handles.SeenTable.{SeenTable}
use Rattle.seen_states.specs.declared.handles.Claimer.{Claimer}
use Rattle.seen_states.specs.declared.handles.Claim.{Claim}
use Rattle.seen_states.specs.declared.handles.Claim.TheVariants.{New, Seen, Full}

-- how many words a table has
abbrev pub word_count : SeenTable → ℕ
word_count t = t.table.shared.table_id.words

-- what a claimer knows
abbrev pub known : Claimer → View
known c = c.seat.me.0

-- the claimer is of this table
abbrev pub IsOf : Claimer → SeenTable → Type 0
IsOf c t = c.seat.table_id ≡ t.table.shared.table_id

-- what an answer adds to what the claimer was told; Full, where it has probed every one of n words
abbrev pub Adds : ℕ → ℕ → View → Claim → View → Type 0
Adds n fingerprint v New w = (w.new_answers ≡ v.new_answers ++ fingerprint ∷ []) × (w.seen_answers ≡ v.seen_answers)
Adds n fingerprint v Seen w = (w.new_answers ≡ v.new_answers) × (w.seen_answers ≡ v.seen_answers ++ fingerprint ∷ [])
Adds n fingerprint v Full w = (w.new_answers ≡ v.new_answers) × (w.seen_answers ≡ v.seen_answers) × (w.fingerprint ≡ fingerprint) × (w.probed ≡ n)
