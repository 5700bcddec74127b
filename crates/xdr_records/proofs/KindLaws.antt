-- Reading without offsets is reading, and so keeps its laws.
use Rattle.std.proofs.Common.{◌≡◌, ℕ, Result, Ok, Err, refl, sym, ap, ◌∙◌}
use Rattle.xdr_records.specs.declared.fault.XdrFault.{XdrFault}
use Rattle.xdr_records.specs.Unread.{Unread, At}
use Rattle.xdr_records.specs.Grammar.{Grammar}
use Rattle.xdr_records.specs.Grammar.Grammar.{one_word, one_long, one_flag, one_fixed, one_opaque, named, nothing, refused, many, both}
use Rattle.xdr_records.specs.Items.{word_at, long_at, flag_at, fixed_at, opaque_at}
use Rattle.xdr_records.specs.Spelling.{Spells}
use Rattle.xdr_records.specs.Reading.{bound, item_here, name_here, kinds, reading}
use Rattle.xdr_records.specs.Faults.{Stands, Fails}
use Rattle.xdr_records.specs.Kinds.{item_kind, name_before, kind_reading}
use Rattle.xdr_records.proofs.Laws.{found, again, fault, fails}

kinds-item_here : {A K : Type 0} (kind_of : XdrFault → K) (here : ℕ) (r : Result A XdrFault) → item_kind kind_of r ≡ kinds (item_here kind_of here r)
kinds-item_here kind_of here (Ok x) = refl
kinds-item_here kind_of here (Err name) = refl

kinds-name_here : {A K : Type 0} (here : ℕ) (r : Result A K) (after : Unread) → name_before r after ≡ kinds (name_here here r after)
kinds-name_here here (Ok x) after = refl
kinds-name_here here (Err kind) after = refl

kinds-bound : {A B K : Type 0} (r : Result A (At K)) (f : A → Result B (At K)) (s : Result A K) (g : A → Result B K) → s ≡ kinds r → ((x : A) → g x ≡ kinds (f x)) → bound s g ≡ kinds (bound r f)
kinds-bound (Ok x) f s g same each = ap (λ (t : _). bound t g) same ∙ each x
kinds-bound (Err wrong) f s g same each = ap (λ (t : _). bound t g) same

pub kind_reading-is : {K A : Type 0} (kind_of : XdrFault → K) (g : Grammar K A) (unread : Unread) → kind_reading kind_of g unread ≡ kinds (reading kind_of g unread)
kind_reading-is kind_of one_word unread = kinds-item_here kind_of unread.at (word_at unread)
kind_reading-is kind_of one_long unread = kinds-item_here kind_of unread.at (long_at unread)
kind_reading-is kind_of one_flag unread = kinds-item_here kind_of unread.at (flag_at unread)
kind_reading-is kind_of (one_fixed n) unread = kinds-item_here kind_of unread.at (fixed_at n unread)
kind_reading-is kind_of (one_opaque max) unread = kinds-item_here kind_of unread.at (opaque_at max unread)
kind_reading-is kind_of (named name) unread =
    kinds-bound (item_here kind_of unread.at (word_at unread)) (λ word. name_here unread.at (name word.0) word.1) (item_kind kind_of (word_at unread)) (λ word. name_before (name word.0) word.1)
    (kinds-item_here kind_of unread.at (word_at unread)) (λ word. kinds-name_here unread.at (name word.0) word.1)
kind_reading-is kind_of (nothing x) unread = refl
kind_reading-is kind_of (refused kind) unread = refl
kind_reading-is kind_of (many g) unread = refl
kind_reading-is kind_of (both g f) unread =
    kinds-bound (reading kind_of g unread) (λ x. reading kind_of (f x.0) x.1) (kind_reading kind_of g unread) (λ x. kind_reading kind_of (f x.0) x.1)
    (kind_reading-is kind_of g unread) (λ x. kind_reading-is kind_of (f x.0) x.1)

kinds_ok : {A K : Type 0} (r : Result A (At K)) (x : A) → kinds r ≡ Ok x → r ≡ Ok x
kinds_ok (Ok y) x e = cc
kinds_ok (Err wrong) x e = absurd cc

kinds_err : {A K : Type 0} (r : Result A (At K)) (kind : K) → kinds r ≡ Err kind → (f : At K) × (r ≡ Err f) × (f.kind ≡ kind)
kinds_err (Ok y) kind e = absurd cc
kinds_err (Err wrong) kind e = (wrong, refl, cc)

-- what is read stands at the front
pub kind_found : {K A : Type 0} (kind_of : XdrFault → K) (g : Grammar K A) (x : A) (old new : Unread) → kind_reading kind_of g old ≡ Ok (x, new) → Stands (λ front. Spells g front x) old new
kind_found kind_of g x old new e = found kind_of g x old new (kinds_ok (reading kind_of g old) (x, new) (sym (kind_reading-is kind_of g old) ∙ e))

-- what stands at the front is read
pub kind_again : {K A : Type 0} (kind_of : XdrFault → K) (g : Grammar K A) (x : A) (old new : Unread) → Stands (λ front. Spells g front x) old new → kind_reading kind_of g old ≡ Ok (x, new)
kind_again kind_of g x old new s = kind_reading-is kind_of g old ∙ ap kinds (again kind_of g x old new s)

-- what is told to be wrong is wrong with the first item at fault
pub kind_fault : {K A : Type 0} (kind_of : XdrFault → K) (g : Grammar K A) (unread : Unread) (kind : K) → kind_reading kind_of g unread ≡ Err kind → (f : At K) × Fails kind_of g unread f × (f.kind ≡ kind)
kind_fault kind_of g unread kind e =
    let h = kinds_err (reading kind_of g unread) kind (sym (kind_reading-is kind_of g unread) ∙ e) in
    (h.0, fault kind_of g unread h.0 h.1, h.2)

-- what is wrong with the first item at fault is told
pub kind_fails : {K A : Type 0} (kind_of : XdrFault → K) (g : Grammar K A) (unread : Unread) (f : At K) → Fails kind_of g unread f → kind_reading kind_of g unread ≡ Err f.kind
kind_fails kind_of g unread f h = kind_reading-is kind_of g unread ∙ ap kinds (fails kind_of g unread f h)

-- ---- steps

pub item_kind_ok : {A K : Type 0} (kind_of : XdrFault → K) (r : Result A XdrFault) (x : A) → item_kind kind_of r ≡ Ok x → r ≡ Ok x
item_kind_ok kind_of (Ok y) x e = cc
item_kind_ok kind_of (Err name) x e = absurd cc

pub item_kind_err : {A K : Type 0} (kind_of : XdrFault → K) (r : Result A XdrFault) (kind : K) → item_kind kind_of r ≡ Err kind → (name : XdrFault) × (r ≡ Err name) × (kind ≡ kind_of name)
item_kind_err kind_of (Ok y) kind e = absurd cc
item_kind_err kind_of (Err name) kind e = (name, refl, cc)
