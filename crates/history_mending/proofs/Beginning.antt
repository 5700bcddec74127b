-- What bytes begin with, by a grammar: there is one such value, or a first fault.
use Rattle.std.proofs.Common.{◌≡◌, ℕ, ◌+◌, ◌≤◌, List, ◌++◌, length, Result, Ok, Err, refl, sym, ap, ◌∙◌, arith, append_assoc, length-append}
use Rattle.xdr_records.specs.Unread.{Unread, At, whole}
use Rattle.xdr_records.specs.Grammar.{Grammar}
use Rattle.xdr_records.specs.Spelling.{Spells}
use Rattle.xdr_records.specs.Faults.{Stands, Fails}
use Rattle.xdr_records.specs.Kinds.{kind_reading}
use Rattle.xdr_records.proofs.Fronts.{left_at, pair_is}
use Rattle.xdr_records.proofs.KindLaws.{kind_found, kind_again, kind_fails}
use Rattle.history_file.specs.declared.fault.FileFault.{FileFault}
use Rattle.history_file.specs.Kinds.{kind_of}
use Rattle.history_mending.specs.Fronts.{Begins}

-- what is read stands at the front
pub begins_found : {A : Type 0} (g : Grammar FileFault A) (x : A) (bytes : List ℕ) (new : Unread) → kind_reading kind_of g (whole bytes) ≡ Ok (x, new) → Begins g x bytes new.rest
begins_found g x bytes new e =
    let s = kind_found kind_of g x (whole bytes) new e in
    record { front = s.front; parts = s.parts; spelled = s.item }

stands : {A : Type 0} (g : Grammar FileFault A) (x : A) (bytes rest : List ℕ) (b : Begins g x bytes rest) → Stands (λ front. Spells g front x) (whole bytes) (left_at (0 + length b.front) rest)
stands g x bytes rest b = record { front = b.front; parts = b.parts; at = refl; item = b.spelled }

-- what stands at the front is read
pub begins_again : {A : Type 0} (g : Grammar FileFault A) (x : A) (bytes rest : List ℕ) (b : Begins g x bytes rest) → kind_reading kind_of g (whole bytes) ≡ Ok (x, left_at (0 + length b.front) rest)
begins_again g x bytes rest b = kind_again kind_of g x (whole bytes) (left_at (0 + length b.front) rest) (stands g x bytes rest b)

pub one_begins : {A : Type 0} (g : Grammar FileFault A) (x y : A) (bytes rest left : List ℕ) → Begins g x bytes rest → Begins g y bytes left → (x ≡ y) × (rest ≡ left)
one_begins g x y bytes rest left a b =
    let same = pair_is {F = FileFault} x y (left_at (0 + length a.front) rest) (left_at (0 + length b.front) left) (sym (begins_again g x bytes rest a) ∙ begins_again g y bytes left b) in
    (same.0, ap (λ (u : Unread). u.rest) same.1)

pub ok_or_err : {A F : Type 0} (r : Result A F) (x : A) (f : F) → r ≡ Ok x → r ≡ Err f → ⊥
ok_or_err r x f a b = let both : Ok x ≡ Err f = sym a ∙ b in absurd (cc)

pub begins_or_fails : {A : Type 0} (g : Grammar FileFault A) (x : A) (bytes rest : List ℕ) (fault : At FileFault) → Begins g x bytes rest → Fails kind_of g (whole bytes) fault → ⊥
begins_or_fails g x bytes rest fault b f =
    ok_or_err (kind_reading kind_of g (whole bytes)) (x, left_at (0 + length b.front) rest) fault.kind (begins_again g x bytes rest b) (kind_fails kind_of g (whole bytes) fault f)

pub err_is : {A F : Type 0} (r : Result A F) (f g : F) → r ≡ Err f → r ≡ Err g → f ≡ g
err_is r f g a b = let both : Err f ≡ Err g = sym a ∙ b in cc

pub one_kind : {A : Type 0} (g : Grammar FileFault A) (bytes : List ℕ) (f h : At FileFault) → Fails kind_of g (whole bytes) f → Fails kind_of g (whole bytes) h → f.kind ≡ h.kind
one_kind g bytes f h a b = err_is (kind_reading kind_of g (whole bytes)) f.kind h.kind (kind_fails kind_of g (whole bytes) f a) (kind_fails kind_of g (whole bytes) h b)

-- what is behind is no longer than the whole
pub shorter : {A : Type 0} (g : Grammar FileFault A) (x : A) (bytes rest : List ℕ) → Begins g x bytes rest → length rest ≤ length bytes
shorter g x bytes rest b = omega (arith, ap length b.parts, length-append b.front rest)

-- more bytes behind change nothing
pub with_more : {A : Type 0} (g : Grammar FileFault A) (x : A) (bytes rest more : List ℕ) → Begins g x bytes rest → Begins g x (bytes ++ more) (rest ++ more)
with_more g x bytes rest more b = record { front = b.front; parts = ap (λ xs. xs ++ more) b.parts ∙ append_assoc b.front rest more; spelled = b.spelled }
