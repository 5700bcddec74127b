-- The flavors of a counted array, one more of which is read.
use Rattle.std.proofs.Common.{◌≡◌, ℕ, suc, ◌+◌, ◌-◌, ◌<◌, ◌≤◌, ◌||◌, Bool, true, false, List, [], ◌∷◌, Result, Ok, Err, refl, sym, ap, subst, ◌∙◌, arith}
use Rattle.std.specs.List.{list_any}
use Rattle.xdr_records.specs.declared.fault.XdrFault.{XdrFault}
use Rattle.xdr_records.specs.Unread.{Unread}
use Rattle.xdr_records.specs.Items.{word_at}
use Rattle.xdr_records.specs.Reading.{bound}
use Rattle.xdr_records.specs.Kinds.{Tells, kind_reading}
use Rattle.xdr_records.proofs.Fronts.{fine}
use Rattle.mount_client.specs.Mounting.{is_ours, words}

abbrev pub read_words : ℕ → Unread → Result (List ℕ × Unread) XdrFault
read_words count unread = kind_reading (λ fault. fault) (words count) unread

-- whether one of the flavors so far is ours, or one of those that are left
abbrev pub told : Bool → Result (List ℕ × Unread) XdrFault → Result (Bool × Unread) XdrFault
told is_taken left = bound left (λ x. Ok (is_taken || list_any is_ours x.0, x.1))

abbrev with_first : ℕ → Result (List ℕ × Unread) XdrFault → Result (List ℕ × Unread) XdrFault
with_first flavor left = bound left (λ x. Ok (flavor ∷ x.0, x.1))

or_assoc : (a b c : Bool) → (a || (b || c)) ≡ ((a || b) || c)
or_assoc true b c = refl
or_assoc false b c = refl

or_false : (a : Bool) → (a || false) ≡ a
or_false true = refl
or_false false = refl

told_first : (is_taken : Bool) (flavor : ℕ) (left : Result (List ℕ × Unread) XdrFault) → told is_taken (with_first flavor left) ≡ told (is_taken || is_ours flavor) left
told_first is_taken flavor (Ok x) = ap (λ (b : Bool). fine {A = Bool × Unread} XdrFault (b, x.1)) (or_assoc is_taken (is_ours flavor) (list_any is_ours x.0))
told_first is_taken flavor (Err fault) = refl

words_more : (count flavor : ℕ) (old new : Unread) → word_at old ≡ Ok (flavor, new) → read_words (suc count) old ≡ with_first flavor (read_words count new)
unfolding words
words_more count flavor old new e = rw e refl

words_short : (count : ℕ) (old : Unread) (fault : XdrFault) → word_at old ≡ Err fault → read_words (suc count) old ≡ Err fault
unfolding words
words_short count old fault e = rw e refl

words_end : (unread : Unread) → read_words 0 unread ≡ Ok ([], unread)
unfolding words
words_end unread = refl

-- one flavor more
pub one_more : (is_taken after : Bool) (flavor index count : ℕ) (old new : Unread) (total : Result (Bool × Unread) XdrFault) → index < count → after ≡ (is_taken || is_ours flavor) → word_at old ≡ Ok (flavor, new)
    → told is_taken (read_words (count - index) old) ≡ total → told after (read_words (count - (index + 1)) new) ≡ total
one_more is_taken after flavor index count old new total below is e so_far =
    let left : count - index ≡ suc (count - (index + 1)) = omega (arith, below) in
    let read = ap (λ (n : ℕ). read_words n old) left ∙ words_more (count - (index + 1)) flavor old new e in
    ap (λ (b : Bool). told b (read_words (count - (index + 1)) new)) is
    ∙ sym (told_first is_taken flavor (read_words (count - (index + 1)) new))
    ∙ sym (ap (told is_taken) read) ∙ so_far

-- a flavor that is missing
pub one_short : (is_taken : Bool) (index count : ℕ) (old : Unread) (fault : XdrFault) (total : Result (Bool × Unread) XdrFault) → index < count → word_at old ≡ Err fault → told is_taken (read_words (count - index) old) ≡ total → total ≡ Err fault
one_short is_taken index count old fault total below e so_far =
    let left : count - index ≡ suc (count - (index + 1)) = omega (arith, below) in
    let read = ap (λ (n : ℕ). read_words n old) left ∙ words_short (count - (index + 1)) old fault e in
    sym so_far ∙ ap (told is_taken) read

-- behind the last
pub at_end : (is_taken : Bool) (index count : ℕ) (old : Unread) (total : Result (Bool × Unread) XdrFault) → count ≤ index → told is_taken (read_words (count - index) old) ≡ total → total ≡ Ok (is_taken, old)
at_end is_taken index count old total above so_far =
    let none : count - index ≡ 0 = omega (arith, above) in
    let read = ap (λ (n : ℕ). read_words n old) none ∙ words_end old in
    sym so_far ∙ ap (told is_taken) read ∙ ap (λ (b : Bool). fine {A = Bool × Unread} XdrFault (b, old)) (or_false is_taken)

-- a fault that is passed on
pub short_told : (new : Unread) (result : Result Bool XdrFault) (fault : XdrFault) (total : Result (Bool × Unread) XdrFault) → result ≡ Err fault → total ≡ Err fault → Tells (λ (taken : Bool). taken) new result total
short_told new result fault total is none = subst (λ (r : Result Bool XdrFault). Tells (λ (taken : Bool). taken) new r total) (sym is) none
