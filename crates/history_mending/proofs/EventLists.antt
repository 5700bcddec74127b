-- Events that stand one behind the other at the front of some bytes.
use Rattle.std.proofs.Common.{◌≡◌, ℕ, zero, suc, ◌+◌, List, [], ◌∷◌, ◌++◌, length, Err, refl, sym, ap, subst, ◌∙◌, arith, append_assoc, append-nil}
use Rattle.xdr_records.specs.Unread.{whole}
use Rattle.xdr_records.specs.Grammar.Grammar.{nothing, both}
use Rattle.xdr_records.specs.Items.{word_at}
use Rattle.xdr_records.specs.Spelling.{Spells}
use Rattle.xdr_records.specs.Kinds.{kind_reading}
use Rattle.xdr_records.proofs.Fronts.{left_at}
use Rattle.xdr_records.proofs.KindLaws.{kind_fails}
use Rattle.xdr_records.proofs.Written.{both_spelled, nothing_behind}
use Rattle.history_file.specs.declared.fault.FileFault.{FileFault}
use Rattle.history_file.specs.declared.fault.FileFault.TheVariants as faults
use Rattle.history_file.specs.Event.{Event}
use Rattle.history_file.specs.Kinds.{kind_of}
use Rattle.history_file.specs.HistoryFile.{event, events}
use Rattle.history_mending.specs.Fronts.{Begins}
use Rattle.history_mending.specs.Ends.{EventFails}
use Rattle.history_mending.proofs.Beginning.{begins_again, ok_or_err, err_is}

-- ---- nothing

pub none_begins : (i : ℕ) (bytes : List ℕ) → Begins (events 0 i) [] bytes bytes
unfolding events
none_begins i bytes = record { front = []; parts = refl; spelled = (refl, refl) }

pub none_is : (i : ℕ) (bytes rest : List ℕ) → Begins (events 0 i) [] bytes rest → bytes ≡ rest
unfolding events
none_is i bytes rest b = b.parts ∙ ap (λ (xs : List ℕ). xs ++ rest) b.spelled.0

nothing_read : (i : ℕ) → kind_reading kind_of (event i) (whole []) ≡ Err faults.Truncated
unfolding event word_at
nothing_read i = refl

-- no event is without bytes
pub nothing_begins : (i : ℕ) (e : Event) (behind : List ℕ) → Begins (event i) e [] behind → ⊥
nothing_begins i e behind b = ok_or_err (kind_reading kind_of (event i) (whole [])) (e, left_at (0 + length b.front) behind) faults.Truncated (begins_again (event i) e [] behind b) (nothing_read i)

pub nothing_fails : (i : ℕ) (fault : FileFault) → EventFails i [] fault → fault ≡ faults.Truncated
nothing_fails i fault f = err_is (kind_reading kind_of (event i) (whole [])) fault faults.Truncated (kind_fails kind_of (event i) (whole []) (record { at = f.0; kind = fault }) f.1) (nothing_read i)

-- ---- one more

pub cons_begins : (i : ℕ) (e : Event) (es : List Event) (bytes mid rest : List ℕ) → Begins (event i) e bytes mid → Begins (events (length es) (i + 1)) es mid rest → Begins (events (length (e ∷ es)) i) (e ∷ es) bytes rest
unfolding events
cons_begins i e es bytes mid rest a b = record {
  front = a.front ++ b.front;
  parts = a.parts ∙ ap (λ xs. a.front ++ xs) b.parts ∙ sym (append_assoc a.front b.front rest);
  spelled = both_spelled (event i) (λ first. both (events (length es) (i + 1)) (λ others. nothing (first ∷ others))) e (e ∷ es) a.front b.front a.spelled
      (nothing_behind (events (length es) (i + 1)) (λ others. e ∷ others) es b.front b.spelled);
}

same_parts : (x y : Event) (xs ys : List Event) → x ∷ xs ≡ y ∷ ys → (x ≡ y) × (xs ≡ ys)
same_parts x y xs ys e = (cc, cc)

pub uncons_begins : (i : ℕ) (e : Event) (es : List Event) (bytes rest : List ℕ) → Begins (events (length (e ∷ es)) i) (e ∷ es) bytes rest → (mid : List ℕ) × Begins (event i) e bytes mid × Begins (events (length es) (i + 1)) es mid rest
unfolding events
uncons_begins i e es bytes rest b =
    let s = b.spelled in
    let others = s.1.others in
    let same = same_parts s.0 e others.0 es others.1.others.1 in
    let back : s.1.back ≡ others.1.front = others.1.parts ∙ ap (λ (xs : List ℕ). others.1.front ++ xs) others.1.others.0 ∙ append-nil others.1.front in (
      others.1.front ++ rest,
      record {
        front = s.1.front;
        parts = b.parts ∙ ap (λ (xs : List ℕ). xs ++ rest) s.1.parts ∙ append_assoc s.1.front s.1.back rest ∙ ap (λ (xs : List ℕ). s.1.front ++ (xs ++ rest)) back;
        spelled = subst (λ (x : Event). Spells (event i) s.1.front x) same.0 s.1.first;
      },
      record {
        front = others.1.front;
        parts = refl;
        spelled = subst (λ (xs : List Event). Spells (events (length es) (i + 1)) others.1.front xs) same.1 others.1.first;
      },
    )

-- one more at the end
pub snoc_begins : (i : ℕ) (es : List Event) (e : Event) (bytes rest behind : List ℕ) → Begins (events (length es) i) es bytes rest → Begins (event (i + length es)) e rest behind
    → Begins (events (length (es ++ e ∷ [])) i) (es ++ e ∷ []) bytes behind
snoc_begins i [] e bytes rest behind a b =
    let here : Begins (event i) e rest behind = subst (λ n. Begins (event n) e rest behind) (omega arith) b in
    cons_begins i e [] bytes behind behind (subst (λ (xs : List ℕ). Begins (event i) e xs behind) (sym (none_is i bytes rest a)) here) (none_begins (i + 1) behind)
snoc_begins i (x ∷ es) e bytes rest behind a b =
    let u = uncons_begins i x es bytes rest a in
    let later : Begins (event ((i + 1) + length es)) e rest behind = subst (λ n. Begins (event n) e rest behind) (omega arith) b in
    cons_begins i x (es ++ e ∷ []) bytes u.0 behind u.1 (snoc_begins (i + 1) es e u.0 rest behind u.2 later)

-- there are so many
pub count_is : (n i : ℕ) (text : List ℕ) (es : List Event) → Spells (events n i) text es → length es ≡ n
unfolding events
count_is zero i text es spelled = ap length (sym spelled.1)
count_is (suc n) i text es spelled =
    let others = spelled.1.others in
    ap length (sym others.1.others.1) ∙ ap suc (count_is n (i + 1) others.1.front others.0 others.1.first)
