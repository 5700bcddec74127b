-- What is read of a file stands in it, and what is read where nothing stands is its first fault.
use Rattle.std.proofs.Common.{◌≡◌, ◌⊎◌, inl, inr, ℕ, ◌≤◌, Bool, true, false, cond, List, ◌++◌, length, take, drop, Option, Some, None, Result, Ok, Err, IfOk, sym, ap, subst, ◌∙◌, nat_eq, nat_le, refl, arith, length-append}
use Rattle.std.specs.List.{starts_with}
use Rattle.std.specs.Option.{option_map_or}
use Rattle.std.specs.Cmp.Lexicographic.{same_text}
use Rattle.std.proofs.lemmas.List.{take-append-drop}
use Rattle.std.proofs.lemmas.Bool.{le-leb, lt-leb, leb-true, leb-false}
use Rattle.xdr_records.specs.Unread.{At}
use Rattle.xdr_records.specs.Reading.{all_of, kinds}
use Rattle.xdr_records.proofs.Laws.{all_found, all_again, all_fault, all_fails}
use Rattle.history_file.specs.declared.fault.FileFault.{FileFault}
use Rattle.history_file.specs.declared.fault.FileFault.TheVariants as faults
use Rattle.history_file.specs.declared.file.SeenRecording.{SeenRecording}
use Rattle.history_file.specs.Event.{Recording}
use Rattle.history_file.specs.Limits.{history_limit}
use Rattle.history_file.specs.declared.version.Version.{Version}
use Rattle.history_file.specs.declared.version.Version.TheVariants.{First, Second}
use Rattle.history_file.specs.Kinds.{kind_of}
use Rattle.history_file.specs.HistoryFile.{recording, magic, HistoryFile}
use Rattle.history_file.specs.FileFaults.{BeginsAsFile, IsFileFault, IsFineOrNoMemory, IsErrorOf, IsThatOrNoMemory}
use Rattle.history_file.specs.FileReading.{IsAnswer, version_of, file_of_version, file_of}
use Rattle.history_file.specs.Owning.{recording_value}

-- an error that is told as it is
pub told_as_it_is : {X Y : Type 0} (view : X → Y) (fault : FileFault) (answer : Result Y FileFault) → answer ≡ Err fault → IsAnswer view (Err fault) answer
told_as_it_is view faults.NoMemory answer h = tt
told_as_it_is view fault answer h = h

pub file_of-body : (version : Version) (bytes : List ℕ) → length bytes ≤ 268435456 → file_of_version version bytes ≡ kinds (all_of kind_of (recording version) (drop 8 bytes))
file_of-body version bytes small = let fits = le-leb (length bytes) 268435456 small in rw fits refl

-- ---- the magic

parts_of : (bytes : List ℕ) (version : Version) → version_of bytes ≡ Some version → bytes ≡ magic version ++ drop 8 bytes
parts_of bytes version is = go (starts_with nat_eq bytes (magic First)) (starts_with nat_eq bytes (magic Second)) refl refl is where
  go : (b c : Bool) → starts_with nat_eq bytes (magic First) ≡ b → starts_with nat_eq bytes (magic Second) ≡ c → cond b (Some First) (cond c (Some Second) None) ≡ Some version → bytes ≡ magic version ++ drop 8 bytes
  go true c first second is =
      let same : First ≡ version = cc in
      subst (λ (v : Version). bytes ≡ magic v ++ drop 8 bytes) same (sym (take-append-drop 8 bytes) ∙ ap (λ front. front ++ drop 8 bytes) (sym (same_text (magic First) (take 8 bytes) (sym first))))
  go false true first second is =
      let same : Second ≡ version = cc in
      subst (λ (v : Version). bytes ≡ magic v ++ drop 8 bytes) same (sym (take-append-drop 8 bytes) ∙ ap (λ front. front ++ drop 8 bytes) (sym (same_text (magic Second) (take 8 bytes) (sym second))))
  go false false first second is = absurd (cc)

begins_as : (bytes body : List ℕ) (version : Version) → bytes ≡ magic version ++ body → version_of bytes ≡ Some version
begins_as bytes body First parts = rw parts refl
begins_as bytes body Second parts = rw parts refl

body_is : (bytes body : List ℕ) (version : Version) → bytes ≡ magic version ++ body → drop 8 bytes ≡ body
body_is bytes body First parts = rw parts refl
body_is bytes body Second parts = rw parts refl

length_of : (bytes : List ℕ) (version : Version) → bytes ≡ magic version ++ drop 8 bytes → 8 ≤ length bytes
length_of bytes First parts = omega (arith, ap length parts, length-append (magic First) (drop 8 bytes))
length_of bytes Second parts = omega (arith, ap length parts, length-append (magic Second) (drop 8 bytes))

-- the magic takes eight bytes
pub eight_bytes : (bytes : List ℕ) (version : Version) → version_of bytes ≡ Some version → 8 ≤ length bytes
eight_bytes bytes version is = length_of bytes version (parts_of bytes version is)

pub in_version : (bytes : List ℕ) (version : Version) → version_of bytes ≡ Some version → file_of bytes ≡ file_of_version version bytes
in_version bytes version is = rw is refl

pub in_none : (bytes : List ℕ) → version_of bytes ≡ None → file_of bytes ≡ Err faults.BadMagic
in_none bytes is = rw is refl

-- ---- a recording

ok_kind : {A K : Type 0} (r : Result A (At K)) (x : A) → kinds r ≡ Ok x → r ≡ Ok x
ok_kind (Ok y) x e = let same : y ≡ x = cc in ap (λ z. Ok z) same
ok_kind (Err f) x e = absurd (cc)

err_kind : {A K : Type 0} (r : Result A (At K)) (fault : K) → kinds r ≡ Err fault → (at : ℕ) × (r ≡ Err (record { at = at; kind = fault }))
err_kind (Ok y) fault e = absurd (cc)
err_kind {K = K} (Err f) fault e = let same : f.kind ≡ fault = cc in (f.at, ap (λ (k : K). Err (record { at = f.at; kind = k })) same)

-- what is read is the file's
pub file_found : (bytes : List ℕ) (seen : Recording) → file_of bytes ≡ Ok seen → HistoryFile bytes seen
file_found bytes seen is = go (version_of bytes) refl is where
  here : (version : Version) (c : Bool) → version_of bytes ≡ Some version → nat_le (length bytes) history_limit ≡ c → cond c (kinds (all_of kind_of (recording version) (drop 8 bytes))) (Err faults.TooLarge) ≡ Ok seen → HistoryFile bytes seen
  here version false begins small is = absurd (cc)
  here version true begins small is = record {
    version = version;
    body = drop 8 bytes;
    parts = parts_of bytes version begins;
    small = leb-true (length bytes) history_limit small;
    spelled = all_found kind_of (recording version) (drop 8 bytes) seen (ok_kind (all_of kind_of (recording version) (drop 8 bytes)) seen is);
  }

  go : (v : Option Version) → version_of bytes ≡ v → option_map_or (λ version. file_of_version version bytes) v (Err faults.BadMagic) ≡ Ok seen → HistoryFile bytes seen
  go None begins is = absurd (cc)
  go (Some version) begins is = here version (nat_le (length bytes) history_limit) begins refl is

-- what a file holds is read
pub file_again : (bytes : List ℕ) (seen : Recording) → HistoryFile bytes seen → file_of bytes ≡ Ok seen
file_again bytes seen file =
    in_version bytes file.version (begins_as bytes file.body file.version file.parts) ∙ file_of-body file.version bytes file.small
    ∙ ap (λ xs. kinds (all_of kind_of (recording file.version) xs)) (body_is bytes file.body file.version file.parts) ∙ ap kinds (all_again kind_of (recording file.version) file.body seen file.spelled)

ok_is : (r : Result Recording FileFault) (a b : Recording) → r ≡ Ok a → r ≡ Ok b → a ≡ b
ok_is r a b e f = cc

pub one_recording : (bytes : List ℕ) (a b : Recording) → HistoryFile bytes a → HistoryFile bytes b → a ≡ b
one_recording bytes a b x y = ok_is (file_of bytes) a b (file_again bytes a x) (file_again bytes b y)

-- ---- the first fault

-- no magic
not_begun : (bytes : List ℕ) → version_of bytes ≡ None → ¬ BeginsAsFile bytes
not_begun bytes none = λ h. let both : Some h.0 ≡ None = sym (begins_as bytes h.1 h.0 h.2) ∙ none in absurd (cc)

-- the fault that is met is the first
pub file_fault : (bytes : List ℕ) (fault : FileFault) → file_of bytes ≡ Err fault → IsFileFault bytes fault
file_fault bytes fault is = go (version_of bytes) refl is where
  here : (version : Version) (c : Bool) → version_of bytes ≡ Some version → nat_le (length bytes) history_limit ≡ c → cond c (kinds (all_of kind_of (recording version) (drop 8 bytes))) (Err faults.TooLarge) ≡ Err fault → IsFileFault bytes fault
  here version false begins small is = inr (inl ((version, drop 8 bytes, parts_of bytes version begins), leb-false (length bytes) history_limit small, cc))
  here version true begins small is =
      let read = err_kind (all_of kind_of (recording version) (drop 8 bytes)) fault is in
      inr (inr (record {
        version = version;
        body = drop 8 bytes;
        parts = parts_of bytes version begins;
        small = leb-true (length bytes) history_limit small;
        at = read.0;
        fails = all_fault kind_of (recording version) (drop 8 bytes) (record { at = read.0; kind = fault }) read.1;
      }))

  go : (v : Option Version) → version_of bytes ≡ v → option_map_or (λ version. file_of_version version bytes) v (Err faults.BadMagic) ≡ Err fault → IsFileFault bytes fault
  go None begins is = inl (not_begun bytes begins, cc)
  go (Some version) begins is = here version (nat_le (length bytes) history_limit) begins refl is

begun_as_none : (bytes : List ℕ) (v : Option Version) → version_of bytes ≡ v → ¬ BeginsAsFile bytes → version_of bytes ≡ None
begun_as_none bytes None is none = is
begun_as_none bytes (Some version) is none = absurd (none (version, drop 8 bytes, parts_of bytes version is))

-- the first fault is met
pub file_fails : (bytes : List ℕ) (fault : FileFault) → IsFileFault bytes fault → file_of bytes ≡ Err fault
file_fails bytes fault (inl none) = in_none bytes (begun_as_none bytes (version_of bytes) refl none.0) ∙ ap (λ (f : FileFault). Err f) (sym none.1)
file_fails bytes fault (inr (inl large)) =
    in_version bytes large.0.0 (begins_as bytes large.0.1 large.0.0 large.0.2) ∙ rw (lt-leb (length bytes) history_limit large.1, large.2) refl
file_fails bytes fault (inr (inr item)) =
    in_version bytes item.version (begins_as bytes item.body item.version item.parts) ∙ file_of-body item.version bytes item.small
    ∙ ap (λ xs. kinds (all_of kind_of (recording item.version) xs)) (body_is bytes item.body item.version item.parts)
    ∙ ap kinds (all_fails kind_of (recording item.version) item.body (record { at = item.at; kind = fault }) item.fails)

err_is : (r : Result Recording FileFault) (f g : FileFault) → r ≡ Err f → r ≡ Err g → f ≡ g
err_is r f g x y = cc

pub one_file_fault : (bytes : List ℕ) (f g : FileFault) → IsFileFault bytes f → IsFileFault bytes g → f ≡ g
one_file_fault bytes f g x y = err_is (file_of bytes) f g (file_fails bytes f x) (file_fails bytes g y)

pub file_fault_or_recording : (bytes : List ℕ) (fault : FileFault) (seen : Recording) → IsFileFault bytes fault → HistoryFile bytes seen → ⊥
file_fault_or_recording bytes fault seen x y =
    let both : Err fault ≡ Ok seen = sym (file_fails bytes fault x) ∙ file_again bytes seen y in
    absurd cc

-- bytes are a file, or have a first fault
pub recording_or_file_fault : (bytes : List ℕ) → ((seen : Recording) × HistoryFile bytes seen) ⊎ ((fault : FileFault) × IsFileFault bytes fault)
recording_or_file_fault bytes = go (file_of bytes) refl where
  go : (r : Result Recording FileFault) → file_of bytes ≡ r → ((seen : Recording) × HistoryFile bytes seen) ⊎ ((fault : FileFault) × IsFileFault bytes fault)
  go (Ok seen) is = inl (seen, file_found bytes seen is)
  go (Err fault) is = inr (fault, file_fault bytes fault is)

-- ---- what an answer says of others

pub answer_found : (bytes : List ℕ) (r : Result SeenRecording FileFault) → IsAnswer recording_value r (file_of bytes) → IfOk r (λ seen. HistoryFile bytes (recording_value seen))
answer_found bytes (Ok x) is = file_found bytes (recording_value x) is
answer_found bytes (Err fault) is = tt

answer_err : {X Y : Type 0} (view : X → Y) (fault : FileFault) (answer : Result Y FileFault) → IsAnswer view (Err fault) answer → (fault ≡ faults.NoMemory) ⊎ (answer ≡ Err fault)
answer_err view faults.NoMemory answer h = inl refl
answer_err view fault answer h = inr h

pub answer_fault : (bytes : List ℕ) (r : Result SeenRecording FileFault) → IsAnswer recording_value r (file_of bytes) → IsErrorOf (IsFileFault bytes) r
answer_fault bytes (Ok x) is = tt
answer_fault bytes (Err fault) is = elim (answer_err recording_value fault (file_of bytes) is) [
  | inl none ↦ inl none
  | inr same ↦ inr (file_fault bytes fault same)
]

pub only_memory_of : (bytes : List ℕ) (r : Result SeenRecording FileFault) → IsErrorOf (IsFileFault bytes) r → (seen : Recording) → HistoryFile bytes seen → IsFineOrNoMemory r
only_memory_of bytes (Ok x) h seen file = tt
only_memory_of bytes (Err fault) (inl none) seen file = none
only_memory_of bytes (Err fault) (inr first) seen file = absurd (file_fault_or_recording bytes fault seen first file)

pub named_of : (bytes : List ℕ) (r : Result SeenRecording FileFault) → IfOk r (λ seen. HistoryFile bytes (recording_value seen)) → IsErrorOf (IsFileFault bytes) r → (fault : FileFault) → IsFileFault bytes fault → IsThatOrNoMemory fault r
named_of bytes (Ok x) found h fault first = absurd (file_fault_or_recording bytes fault (recording_value x) first found)
named_of bytes (Err other) found (inl none) fault first = inl none
named_of bytes (Err other) found (inr is) fault first = inr (one_file_fault bytes other fault is first)
