-- For the prover.
-- What is written of a value that fits is a spelling of it: items, and attributes. For the prover: a law of the trait of values asks for it.
use Rattle.std.specs.Prelude.{◌≡◌, ℕ, ◌<◌, ◌≤◌, ◌^◌, List, [], ◌∷◌, ◌++◌, length, Option, Some, None, IfSome, Ok, refl}
use Rattle.std.proofs.Common.{sym, lit<, lit≤, lt_of_le_ones}
use Rattle.std.proofs.Math.Nat.{le_trans, le-pred_of_lt}
use Rattle.std.specs.List.{AllByRecursion}
use Rattle.std.proofs.lemmas.List.{append-nil}
use Rattle.std.proofs.lemmas.List.Elements.{All-from_recursion}
use Rattle.xdr_records.specs.Grammar.{Grammar}
use Rattle.xdr_records.specs.Grammar.Grammar.{one_word, one_long, named}
use Rattle.xdr_records.specs.Spelling.{Spells, Joined}
use Rattle.xdr_records.specs.Texts.{word_text, long_text, flag_text, opaque_text, optional_text, list_text}
use Rattle.xdr_records.proofs.Written.{word_spelled, long_spelled, flag_spelled, opaque_spelled, optional_spelled, list_spelled}
use Rattle.nfs3_types.specs.declared.attributes.Time.{Time}
use Rattle.nfs3_types.specs.declared.attributes.Device.{Device}
use Rattle.nfs3_types.specs.declared.attributes.Verifier.{Verifier}
use Rattle.nfs3_types.specs.declared.attributes.FileType.{FileType}
use Rattle.nfs3_types.specs.declared.attributes.FileType.TheVariants as types
use Rattle.nfs3_types.specs.declared.attributes.FileAttributes.{FileAttributes}
use Rattle.nfs3_types.specs.declared.attributes.WccAttributes.{WccAttributes}
use Rattle.nfs3_types.specs.declared.attributes.WccData.{WccData}
use Rattle.nfs3_types.specs.declared.attributes.SetTime.{SetTime}
use Rattle.nfs3_types.specs.declared.attributes.SetTime.TheVariants as times
use Rattle.nfs3_types.specs.declared.attributes.SetAttributes.{SetAttributes}
use Rattle.nfs3_values.specs.declared.fault.Kind.{Kind}
use Rattle.nfs3_types.specs.Numbers.{type_number}
use Rattle.nfs3_values.specs.Words.{file_type_of, stable_how_of, stable_how_word, TimeHow, time_how_of, CreateHow, create_how_of, status_of}
use Rattle.nfs3_values.specs.Bytes.{handle, name, link_text, file_data, verifier, verifier_text, optional_of, entries, void, void_text}
use Rattle.nfs3_values.specs.Attributes.{time, time_text, TimeFits, device, device_text, DeviceFits, file_attributes, file_attributes_text, sizes_text, times_text, FileAttributesFit, SizesFit, TimesFit, wcc_attributes, wcc_attributes_text, WccAttributesFit, wcc_data, wcc_data_text, WccDataFits}
use Rattle.nfs3_values.specs.Settings.{set_time, set_time_text, SetTimeFits, set_attributes, set_attributes_text, SetAttributesFit}

-- one item, and others behind it
pub joined : {First Others : List ℕ → Type 0} (front back : List ℕ) → First front → Others back → Joined First Others (front ++ back)
joined front back first others = record { front = front; back = back; parts = refl; first = first; others = others }

-- the last item, behind which the value stands
pub last : {A : Type 0} {First : List ℕ → Type 0} (x : A) (text : List ℕ) → First text → Joined First (λ back. (back ≡ []) × (x ≡ x)) text
last x text first = record { front = text; back = []; parts = sym (append-nil text); first = first; others = (refl, refl) }

pub handle_spelled : (bytes : List ℕ) → length bytes ≤ 64 → Spells handle (opaque_text bytes) bytes
unfolding handle
handle_spelled bytes fits = opaque_spelled 64 bytes (lt_of_le_ones 32 (le_trans fits (lit≤ tt))) fits

pub name_spelled : (bytes : List ℕ) → length bytes < 2 ^ 32 → Spells name (opaque_text bytes) bytes
unfolding name
name_spelled bytes fits = opaque_spelled 4294967295 bytes fits (le-pred_of_lt fits)

pub link_text_spelled : (bytes : List ℕ) → length bytes < 2 ^ 32 → Spells link_text (opaque_text bytes) bytes
unfolding link_text
link_text_spelled bytes fits = opaque_spelled 4294967295 bytes fits (le-pred_of_lt fits)

pub file_data_spelled : (bytes : List ℕ) → length bytes < 2 ^ 32 → Spells file_data (opaque_text bytes) bytes
unfolding file_data
file_data_spelled bytes fits = opaque_spelled 4294967295 bytes fits (le-pred_of_lt fits)

pub verifier_spelled : (v : Verifier) → v.value < 2 ^ 64 → Spells verifier (verifier_text v) v
unfolding verifier verifier_text
verifier_spelled v fits = (v.value, last v (long_text v.value) (long_spelled v.value fits))

some_spelled : {A : Type 0} (g : Grammar Kind A) (text : A → List ℕ) (Fits : A → Type 0) → ((x : A) → Fits x → Spells g (text x) x) → (o : Option A) → IfSome o Fits → IfSome o (λ x. Spells g (text x) x)
some_spelled g text Fits law (Some x) fits = law x fits
some_spelled g text Fits law None fits = tt

pub optional_of_spelled : {A : Type 0} (g : Grammar Kind A) (text : A → List ℕ) (Fits : A → Type 0) → ((x : A) → Fits x → Spells g (text x) x) → (o : Option A) → IfSome o Fits → Spells (optional_of g) (optional_text text o) o
unfolding optional_of
optional_of_spelled g text Fits law o fits = optional_spelled g text o (some_spelled g text Fits law o fits)

file_type_named : (t : FileType) → (type_number t < 2 ^ 32) × (file_type_of (type_number t) ≡ Ok t)
unfolding file_type_of
file_type_named types.Regular = (lit< tt, refl)
file_type_named types.Directory = (lit< tt, refl)
file_type_named types.BlockDevice = (lit< tt, refl)
file_type_named types.CharacterDevice = (lit< tt, refl)
file_type_named types.SymbolicLink = (lit< tt, refl)
file_type_named types.Socket = (lit< tt, refl)
file_type_named types.Fifo = (lit< tt, refl)

pub file_type_spelled : (t : FileType) → Spells (named file_type_of) (word_text (type_number t)) t
file_type_spelled t = let h = file_type_named t in (type_number t, word_spelled (type_number t) h.0, h.1)

pub time_spelled : (t : Time) → TimeFits t → Spells time (time_text t) t
unfolding time time_text TimeFits
time_spelled t fits = (
  t.seconds,
  joined (word_text t.seconds) (word_text t.nanoseconds) (word_spelled t.seconds fits.0)
      (t.nanoseconds, last t (word_text t.nanoseconds) (word_spelled t.nanoseconds fits.1)),
)

pub device_spelled : (d : Device) → DeviceFits d → Spells device (device_text d) d
unfolding device device_text DeviceFits
device_spelled d fits = (
  d.major,
  joined (word_text d.major) (word_text d.minor) (word_spelled d.major fits.0)
      (d.minor, last d (word_text d.minor) (word_spelled d.minor fits.1)),
)

pub file_attributes_spelled : (a : FileAttributes) → FileAttributesFit a → Spells file_attributes (file_attributes_text a) a
unfolding file_attributes file_attributes_text sizes_text times_text FileAttributesFit SizesFit TimesFit
file_attributes_spelled a fits = (
  a.file_type,
  joined (word_text (type_number a.file_type)) (word_text a.mode ++ (word_text a.link_count ++ (word_text a.user ++ (word_text a.group ++ sizes_text a)))) (file_type_spelled a.file_type) (
    a.mode,
    joined (word_text a.mode) (word_text a.link_count ++ (word_text a.user ++ (word_text a.group ++ sizes_text a))) (word_spelled a.mode fits.0) (
      a.link_count,
      joined (word_text a.link_count) (word_text a.user ++ (word_text a.group ++ sizes_text a)) (word_spelled a.link_count fits.1) (
        a.user,
        joined (word_text a.user) (word_text a.group ++ sizes_text a) (word_spelled a.user fits.2) (
          a.group,
          joined (word_text a.group) (sizes_text a) (word_spelled a.group fits.3) (
            a.size,
            joined (long_text a.size) (long_text a.used ++ (device_text a.device ++ (long_text a.file_system ++ (long_text a.file_number ++ times_text a)))) (long_spelled a.size fits.4.0) (
              a.used,
              joined (long_text a.used) (device_text a.device ++ (long_text a.file_system ++ (long_text a.file_number ++ times_text a))) (long_spelled a.used fits.4.1) (
                a.device,
                joined (device_text a.device) (long_text a.file_system ++ (long_text a.file_number ++ times_text a)) (device_spelled a.device fits.4.2) (
                  a.file_system,
                  joined (long_text a.file_system) (long_text a.file_number ++ times_text a) (long_spelled a.file_system fits.4.3) (
                    a.file_number,
                    joined (long_text a.file_number) (times_text a) (long_spelled a.file_number fits.4.4) (
                      a.access_time,
                      joined (time_text a.access_time) (time_text a.modify_time ++ time_text a.change_time) (time_spelled a.access_time fits.4.5.0) (
                        a.modify_time,
                        joined (time_text a.modify_time) (time_text a.change_time) (time_spelled a.modify_time fits.4.5.1)
                            (a.change_time, last a (time_text a.change_time) (time_spelled a.change_time fits.4.5.2)),
                      ),
                    ),
                  ),
                ),
              ),
            ),
          ),
        ),
      ),
    ),
  ),
)

pub wcc_attributes_spelled : (a : WccAttributes) → WccAttributesFit a → Spells wcc_attributes (wcc_attributes_text a) a
unfolding wcc_attributes wcc_attributes_text WccAttributesFit
wcc_attributes_spelled a fits = (
  a.size,
  joined (long_text a.size) (time_text a.modify_time ++ time_text a.change_time) (long_spelled a.size fits.0) (
    a.modify_time,
    joined (time_text a.modify_time) (time_text a.change_time) (time_spelled a.modify_time fits.1)
        (a.change_time, last a (time_text a.change_time) (time_spelled a.change_time fits.2)),
  ),
)

pub wcc_data_spelled : (w : WccData) → WccDataFits w → Spells wcc_data (wcc_data_text w) w
unfolding wcc_data wcc_data_text WccDataFits
wcc_data_spelled w fits = (
  w.before,
  joined (optional_text wcc_attributes_text w.before) (optional_text file_attributes_text w.after) (optional_of_spelled wcc_attributes wcc_attributes_text WccAttributesFit wcc_attributes_spelled w.before fits.0)
      (w.after, last w (optional_text file_attributes_text w.after) (optional_of_spelled file_attributes file_attributes_text FileAttributesFit file_attributes_spelled w.after fits.1)),
)

pub set_time_spelled : (s : SetTime) → SetTimeFits s → Spells set_time (set_time_text s) s
unfolding set_time set_time_text SetTimeFits time_how_of
set_time_spelled times.Keep fits = (TimeHow.keep, last times.Keep (word_text 0) (0, word_spelled 0 (lit< tt), refl))
set_time_spelled times.ServerTime fits = (TimeHow.server_time, last times.ServerTime (word_text 1) (1, word_spelled 1 (lit< tt), refl))
set_time_spelled (times.ClientTime t) fits =
    (TimeHow.client_time, joined (word_text 2) (time_text t) (2, word_spelled 2 (lit< tt), refl) (t, last (times.ClientTime t) (time_text t) (time_spelled t fits)))

pub set_attributes_spelled : (a : SetAttributes) → SetAttributesFit a → Spells set_attributes (set_attributes_text a) a
unfolding set_attributes set_attributes_text SetAttributesFit
set_attributes_spelled a fits = (
  a.mode,
  joined (optional_text word_text a.mode) (optional_text word_text a.user ++ (optional_text word_text a.group ++ (optional_text long_text a.size ++ (set_time_text a.access_time ++ set_time_text a.modify_time)))) (optional_of_spelled one_word word_text (λ n. n < 2 ^ 32) word_spelled a.mode fits.0) (
    a.user,
    joined (optional_text word_text a.user) (optional_text word_text a.group ++ (optional_text long_text a.size ++ (set_time_text a.access_time ++ set_time_text a.modify_time))) (optional_of_spelled one_word word_text (λ n. n < 2 ^ 32) word_spelled a.user fits.1) (
      a.group,
      joined (optional_text word_text a.group) (optional_text long_text a.size ++ (set_time_text a.access_time ++ set_time_text a.modify_time)) (optional_of_spelled one_word word_text (λ n. n < 2 ^ 32) word_spelled a.group fits.2) (
        a.size,
        joined (optional_text long_text a.size) (set_time_text a.access_time ++ set_time_text a.modify_time) (optional_of_spelled one_long long_text (λ n. n < 2 ^ 64) long_spelled a.size fits.3) (
          a.access_time,
          joined (set_time_text a.access_time) (set_time_text a.modify_time) (set_time_spelled a.access_time fits.4)
              (a.modify_time, last a (set_time_text a.modify_time) (set_time_spelled a.modify_time fits.5)),
        ),
      ),
    ),
  ),
)

pub optional_attributes_spelled : (o : Option FileAttributes) → IfSome o FileAttributesFit → Spells (optional_of file_attributes) (optional_text file_attributes_text o) o
optional_attributes_spelled = optional_of_spelled file_attributes file_attributes_text FileAttributesFit file_attributes_spelled

pub void_spelled : (u : Unit {0}) → Unit {0} → Spells void (void_text u) u
unfolding void void_text
void_spelled u fits = (refl, refl)

all_spelled : {A : Type 0} (g : Grammar Kind A) (text : A → List ℕ) (Fits : A → Type 0) → ((x : A) → Fits x → Spells g (text x) x) → (xs : List A) → AllByRecursion Fits xs → AllByRecursion (λ x. Spells g (text x) x) xs
all_spelled g text Fits law [] fits = tt
all_spelled g text Fits law (x ∷ xs) fits = (law x fits.0, all_spelled g text Fits law xs fits.1)

pub entries_spelled : {A : Type 0} (g : Grammar Kind A) (text : A → List ℕ) (Fits : A → Type 0) → ((x : A) → Fits x → Spells g (text x) x) → (xs : List A) → AllByRecursion Fits xs → Spells (entries g) (list_text text xs) xs
unfolding entries
entries_spelled g text Fits law xs fits = list_spelled g text xs (All-from_recursion (λ x. Spells g (text x) x) xs (all_spelled g text Fits law xs fits))
