-- What stands ahead of the events: there is one head, or a first fault of it.
use Rattle.std.proofs.Common.{◌≡◌, inl, inr, ℕ, Bool, true, false, cond, List, ◌++◌, length, take, drop, Some, None, refl, sym, ap, subst, ◌∙◌, nat_eq, arith}
use Rattle.std.specs.List.{starts_with}
use Rattle.std.specs.Cmp.Lexicographic.{same_text}
use Rattle.std.proofs.lemmas.List.{take-append-drop}
use Rattle.xdr_records.specs.Unread.{At, whole}
use Rattle.xdr_records.specs.Faults.{Fails}
use Rattle.tree_starts.specs.Head.{Head}
use Rattle.history_file.specs.declared.fault.FileFault.{FileFault}
use Rattle.history_file.specs.declared.version.Version.{Version}
use Rattle.history_file.specs.declared.version.Version.TheVariants.{First, Second}
use Rattle.history_file.specs.Kinds.{kind_of}
use Rattle.history_file.specs.HistoryFile.{magic}
use Rattle.history_file.specs.FileFaults.{BeginsAsFile}
use Rattle.history_file.specs.FileReading.{version_of}
use Rattle.history_mending.specs.Fronts.{head_of, Begins}
use Rattle.history_mending.specs.Mending.{HasHead, IsItemFault, IsHeadOver, IsHeadFault}
use Rattle.history_mending.proofs.Beginning.{one_begins, begins_or_fails, one_kind}

-- ---- the magic

pub parts_of : (bytes : List ℕ) (version : Version) → version_of bytes ≡ Some version → bytes ≡ magic version ++ drop 8 bytes
parts_of bytes version is = go (starts_with nat_eq bytes (magic First)) (starts_with nat_eq bytes (magic Second)) refl refl is where
  go : (b c : Bool) → starts_with nat_eq bytes (magic First) ≡ b → starts_with nat_eq bytes (magic Second) ≡ c → cond b (Some First) (cond c (Some Second) None) ≡ Some version → bytes ≡ magic version ++ drop 8 bytes
  go true c first second is =
      let same : First ≡ version = cc in
      subst (λ (v : Version). bytes ≡ magic v ++ drop 8 bytes) same (sym (take-append-drop 8 bytes) ∙ ap (λ front. front ++ drop 8 bytes) (sym (same_text (magic First) (take 8 bytes) (sym first))))
  go false true first second is =
      let same : Second ≡ version = cc in
      subst (λ (v : Version). bytes ≡ magic v ++ drop 8 bytes) same (sym (take-append-drop 8 bytes) ∙ ap (λ front. front ++ drop 8 bytes) (sym (same_text (magic Second) (take 8 bytes) (sym second))))
  go false false first second is = absurd (cc)

pub begins_as : (bytes body : List ℕ) (version : Version) → bytes ≡ magic version ++ body → version_of bytes ≡ Some version
begins_as bytes body First parts = rw parts refl
begins_as bytes body Second parts = rw parts refl

body_is : (bytes body : List ℕ) (version : Version) → bytes ≡ magic version ++ body → drop 8 bytes ≡ body
body_is bytes body First parts = rw parts refl
body_is bytes body Second parts = rw parts refl

pub length-magic : (version : Version) → length (magic version) ≡ 8
length-magic First = refl
length-magic Second = refl

-- no magic
pub not_begun : (bytes : List ℕ) → version_of bytes ≡ None → ¬ BeginsAsFile bytes
not_begun bytes none = λ h. let both : Some h.0 ≡ None = sym (begins_as bytes h.1 h.0 h.2) ∙ none in absurd (cc)

one_version : (bytes b c : List ℕ) (v w : Version) → bytes ≡ magic v ++ b → bytes ≡ magic w ++ c → (v ≡ w) × (b ≡ c)
one_version bytes b c v w x y =
    let both : Some v ≡ Some w = sym (begins_as bytes b v x) ∙ begins_as bytes c w y in
    (cc, sym (body_is bytes b v x) ∙ body_is bytes c w y)

-- ---- the head

-- a head at one place
record IsAt (bytes : List ℕ) (version : Version) (head : Head) (behind body : List ℕ) : Type 0 where
  pub magic : bytes ≡ magic version ++ behind
  pub begins : Begins (head_of version) head behind body

one_at : (bytes : List ℕ) (v w : Version) (h g : Head) (b c m n : List ℕ) → IsAt bytes v h b m → IsAt bytes w g c n → (v ≡ w) × (h ≡ g) × (m ≡ n)
one_at bytes v w h g b c m n x y =
    let is = one_version bytes b c v w x.magic y.magic in
    let here : Begins (head_of w) h c m = subst (λ (u : Version). Begins (head_of u) h c m) is.0 (subst (λ (xs : List ℕ). Begins (head_of v) h xs m) is.1 x.begins) in
    let same = one_begins (head_of w) h g c m n here y.begins in
    (is.0, same.0, same.1)

at_or_fault : (bytes : List ℕ) (v : Version) (h : Head) (b m : List ℕ) (fault : FileFault) → IsAt bytes v h b m → IsItemFault bytes fault → ⊥
at_or_fault bytes v h b m fault x f =
    let is = one_version bytes b f.behind v f.version x.magic f.magic in
    let here : Begins (head_of f.version) h f.behind m = subst (λ (u : Version). Begins (head_of u) h f.behind m) is.0 (subst (λ (xs : List ℕ). Begins (head_of v) h xs m) is.1 x.begins) in
    begins_or_fails (head_of f.version) h f.behind m (record { at = f.at; kind = fault }) here f.fails

pub one_head : (bytes : List ℕ) (v w : Version) (h g : Head) (m n : List ℕ) → HasHead bytes v h m → HasHead bytes w g n → (v ≡ w) × (h ≡ g) × (m ≡ n)
one_head bytes v w h g m n x y =
    one_at bytes v w h g x.behind y.behind m n (record { magic = x.magic; begins = x.begins }) (record { magic = y.magic; begins = y.begins })

over_or_head : (bytes : List ℕ) (v : Version) (h : Head) (m : List ℕ) → HasHead bytes v h m → IsHeadOver bytes → ⊥
over_or_head bytes v h m x o =
    let is = one_at bytes v o.version h o.head x.behind o.behind m o.body (record { magic = x.magic; begins = x.begins }) (record { magic = o.magic; begins = o.begins }) in
    omega (arith, x.small, o.large, ap length is.2)

pub head_or_fault : (bytes : List ℕ) (v : Version) (h : Head) (m : List ℕ) (fault : FileFault) → HasHead bytes v h m → IsHeadFault bytes fault → ⊥
head_or_fault bytes v h m fault x (inl none) = none.0 (v, x.behind, x.magic)
head_or_fault bytes v h m fault x (inr (inl item)) = at_or_fault bytes v h x.behind m fault (record { magic = x.magic; begins = x.begins }) item
head_or_fault bytes v h m fault x (inr (inr o)) = over_or_head bytes v h m x o.0

over_or_fault : (bytes : List ℕ) (fault : FileFault) → IsHeadOver bytes → IsItemFault bytes fault → ⊥
over_or_fault bytes fault o item = at_or_fault bytes o.version o.head o.behind o.body fault (record { magic = o.magic; begins = o.begins }) item

fails_at : (v w : Version) (b c : List ℕ) (fault : At FileFault) → v ≡ w → b ≡ c → Fails kind_of (head_of v) (whole b) fault → Fails kind_of (head_of w) (whole c) fault
fails_at v w b c fault same behind fails =
    subst (λ (u : Version). Fails kind_of (head_of u) (whole c) fault) same (subst (λ (xs : List ℕ). Fails kind_of (head_of v) (whole xs) fault) behind fails)

one_item_fault : (bytes : List ℕ) (f g : FileFault) → IsItemFault bytes f → IsItemFault bytes g → f ≡ g
one_item_fault bytes f g x y =
    let is = one_version bytes x.behind y.behind x.version y.version x.magic y.magic in
    one_kind (head_of y.version) y.behind (record { at = x.at; kind = f }) (record { at = y.at; kind = g })
    (fails_at x.version y.version x.behind y.behind (record { at = x.at; kind = f }) is.0 is.1 x.fails) y.fails

pub one_head_fault : (bytes : List ℕ) (f g : FileFault) → IsHeadFault bytes f → IsHeadFault bytes g → f ≡ g
one_head_fault bytes f g (inl x) (inl y) = x.1 ∙ sym y.1
one_head_fault bytes f g (inl x) (inr (inl y)) = absurd (x.0 (y.version, y.behind, y.magic))
one_head_fault bytes f g (inl x) (inr (inr y)) = absurd (x.0 (y.0.version, y.0.behind, y.0.magic))
one_head_fault bytes f g (inr (inl x)) (inl y) = absurd (y.0 (x.version, x.behind, x.magic))
one_head_fault bytes f g (inr (inl x)) (inr (inl y)) = one_item_fault bytes f g x y
one_head_fault bytes f g (inr (inl x)) (inr (inr y)) = absurd (over_or_fault bytes f y.0 x)
one_head_fault bytes f g (inr (inr x)) (inl y) = absurd (y.0 (x.0.version, x.0.behind, x.0.magic))
one_head_fault bytes f g (inr (inr x)) (inr (inl y)) = absurd (over_or_fault bytes g x.0 y)
one_head_fault bytes f g (inr (inr x)) (inr (inr y)) = x.1 ∙ sym y.1
