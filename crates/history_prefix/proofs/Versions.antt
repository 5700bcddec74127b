-- The version of a history's file, and the file of its prefix.
use Rattle.std.proofs.Common.{◌≡◌, ℕ, Bool, true, false, cond, List, ◌++◌, length, take, drop, Option, Some, None, sym, ap, subst, ◌∙◌, nat_eq, refl}
use Rattle.std.specs.List.{starts_with}
use Rattle.std.specs.Cmp.Lexicographic.{same_text}
use Rattle.std.proofs.lemmas.List.{take-append-drop, length-map}
use Rattle.xdr_records.specs.Spelling.{Spells}
use Rattle.tree_starts.specs.Head.{plain_head}
use Rattle.history_file.specs.declared.version.Version.{Version}
use Rattle.history_file.specs.declared.version.Version.TheVariants.{First, Second}
use Rattle.history_file.specs.Event.{Recording}
use Rattle.history_file.specs.HistoryFile.{recording, magic, HistoryFile}
use Rattle.history_file.specs.FileReading.{version_of}
use Rattle.history_file.specs.Owning.{happened}
use Rattle.nfs_history.specs.declared.fault.HistoryFault.{HistoryFault}
use Rattle.nfs_history.specs.HistoryValue.{HistoryValue}
use Rattle.nfs_history.specs.History.{IsHistory, recording_of}
use Rattle.history_prefix.specs.declared.file.PrefixFile.{PrefixFile}
use Rattle.history_prefix.specs.Front.{IsFrontOf, IsOfFirst}
use Rattle.history_prefix.specs.Keeping.{prefix_of}
use Rattle.history_prefix.specs.Prefix.{IsPrefixOf, text_as}

parts_of : (bytes : List ℕ) (version : Version) → version_of bytes ≡ Some version → bytes ≡ magic version ++ drop 8 bytes
parts_of bytes version is = go (starts_with nat_eq bytes (magic First)) (starts_with nat_eq bytes (magic Second)) refl refl is where
  go : (b c : Bool) → starts_with nat_eq bytes (magic First) ≡ b → starts_with nat_eq bytes (magic Second) ≡ c → cond b (Some First) (cond c (Some Second) None) ≡ Some version → bytes ≡ magic version ++ drop 8 bytes
  go true c first second is =
      let same : First ≡ version = cc in
      subst (λ (v : Version). bytes ≡ magic v ++ drop 8 bytes) same (sym (take-append-drop 8 bytes) ∙ ap (λ front. front ++ drop 8 bytes) (sym (same_text (magic First) (take 8 bytes) (sym first))))
  go false true first second is =
      let same : Second ≡ version = cc in
      subst (λ (v : Version). bytes ≡ magic v ++ drop 8 bytes) same (sym (take-append-drop 8 bytes) ∙ ap (λ front. front ++ drop 8 bytes) (sym (same_text (magic Second) (take 8 bytes) (sym second))))
  go false false first second is = absurd (cc)

begins_as : (bytes body : List ℕ) (version : Version) → bytes ≡ magic version ++ body → version_of bytes ≡ Some version
begins_as bytes body First parts = rw parts refl
begins_as bytes body Second parts = rw parts refl

-- a history's file has a version
pub has_version : (bytes : List ℕ) (refusal : Option HistoryFault) (history : HistoryValue) → IsFrontOf bytes refusal history → version_of bytes ≡ None → ⊥
has_version bytes refusal history front none =
    let file = front.of_first.file in
    let begins = begins_as bytes file.body file.version file.parts in
    let wrong : None ≡ Some file.version = sym none ∙ begins in
    cc

plain_spelled : (version : Version) (body : List ℕ) (seen : Recording) → version ≡ First → Spells (recording version) body seen → seen.head ≡ plain_head seen.head.root
unfolding recording
plain_spelled First body seen is spelled = subst (λ (s : Recording). s.head ≡ plain_head s.head.root) spelled.1.others.1.others.1.others.1 refl
plain_spelled Second body seen is spelled = absurd (cc)

-- one of version 1 begins with nothing
pub first_plain : (bytes : List ℕ) (history : HistoryValue) (version : Version) → IsOfFirst bytes history → version_of bytes ≡ Some version → version ≡ First → history.known.head ≡ plain_head history.known.head.root
first_plain bytes history version of_first of_bytes is =
    let file = of_first.file in
    let begins = begins_as bytes file.body file.version file.parts in
    let both : Some file.version ≡ Some version = sym begins ∙ of_bytes in
    let first : file.version ≡ First = cc in
    let plain = plain_spelled file.version file.body of_first.seen first file.spelled in
    rw of_first.first.known.head plain

-- the prefix of a history, as it is recorded
pub same_recording : (history : HistoryValue) (last : ℕ) (part : HistoryValue) → IsHistory (prefix_of history last) part → recording_of part ≡ prefix_of history last
same_recording history last part is = λ i. record { head = is.known.head i; events = is.events i }

pub prefix_made : (bytes : List ℕ) (history : HistoryValue) (version : Version) (last : ℕ) (part : HistoryValue) (given : PrefixFile)
    → IsFrontOf bytes given.refusal history → version_of bytes ≡ Some version → IsHistory (prefix_of history last) part → part.spare ≡ 0
    → HistoryFile given.bytes.items (recording_of part) → given.bytes.items ≡ text_as version (recording_of part) → given.events ≡ length part.events
    → IsPrefixOf bytes last given
prefix_made bytes history version last part given front of_bytes is spare spelled text count =
    let same = same_recording history last part is in
    record {
      history = history;
      front = front;
      version = version;
      body = drop 8 bytes;
      begins = parts_of bytes version of_bytes;
      text = text ∙ ap (text_as version) same;
      count = count ∙ sym (length-map part.events happened) ∙ ap (λ (s : Recording). length s.events) same;
      part = part;
      part_file = (recording_of part, spelled, subst (λ (s : Recording). IsHistory s part) (sym same) is, spare);
      of_part = same;
    }
