-- the rule of what may succeed says where some success leads to a tree
use Rattle.std.proofs.Common.{◌≡◌, ◌↔◌, ℕ, Bool, true, false, cond, List, [], ◌∷◌, ◌++◌, length, take, drop, Option, Some, None, refl, sym, ap, ◌∙◌, subst, arith}
use Rattle.std.specs.Prelude.{◌+◌, ◌==◌, nat_le, nat_lt, not, ◌&&◌, ◌||◌, IsSome, IsTrue, is_some, is_none, option_map, option_and_then}
use Rattle.std.specs.Option.{option_map_or}
use Rattle.std.specs.Cmp.Lexicographic.{bytes_decides}
use Rattle.std.specs.FinMap as map
use Rattle.std.proofs.lemmas.Bool.{eq-eqb, le-leb}
use Rattle.nfs3_types.specs.declared.attributes.FileAttributes.{FileAttributes}
use Rattle.nfs3_types.specs.declared.attributes.FileType.{FileType}
use Rattle.nfs3_types.specs.declared.attributes.FileType.TheVariants as types
use Rattle.nfs3_types.specs.declared.attributes.WccData.{WccData}
use Rattle.nfs3_types.specs.declared.calls.CreateArguments.{CreateArguments}
use Rattle.nfs3_types.specs.declared.calls.CommitArguments.{CommitArguments}
use Rattle.nfs3_types.specs.declared.calls.DirectoryName.{DirectoryName}
use Rattle.nfs3_types.specs.declared.calls.MkDirArguments.{MkDirArguments}
use Rattle.nfs3_types.specs.declared.calls.SymLinkArguments.{SymLinkArguments}
use Rattle.nfs3_types.specs.declared.calls.SetAttrArguments.{SetAttrArguments}
use Rattle.nfs3_types.specs.declared.calls.RenameArguments.{RenameArguments}
use Rattle.nfs3_types.specs.declared.calls.NfsCall.{NfsCall}
use Rattle.nfs3_types.specs.declared.calls.NfsCall.TheVariants as calls
use Rattle.nfs3_types.specs.declared.calls.ReadArguments.{ReadArguments}
use Rattle.nfs3_types.specs.declared.calls.ReadDirArguments.{ReadDirArguments}
use Rattle.nfs3_types.specs.declared.calls.ReadDirPlusArguments.{ReadDirPlusArguments}
use Rattle.nfs3_types.specs.declared.calls.StableHow.{StableHow}
use Rattle.nfs3_types.specs.declared.calls.StableHow.TheVariants as levels
use Rattle.nfs3_types.specs.declared.calls.WriteArguments.{WriteArguments}
use Rattle.nfs3_types.specs.declared.calls.CreateMode.{CreateMode}
use Rattle.nfs3_types.specs.declared.replies.Answer.TheVariants.{Done}
use Rattle.nfs3_types.specs.declared.replies.CreateSuccess.{CreateSuccess}
use Rattle.nfs3_types.specs.declared.replies.ReadSuccess.{ReadSuccess}
use Rattle.nfs3_types.specs.declared.replies.NfsReply.{NfsReply}
use Rattle.nfs3_types.specs.declared.replies.NfsReply.TheVariants as replies
use Rattle.nfs3_types.specs.declared.status.Failure.{Failure}
use Rattle.tree_nodes.specs.declared.node.Content.{Content}
use Rattle.tree_nodes.specs.declared.node.Content.TheVariants as contents
use Rattle.nfs3_types.specs.declared.replies.Outcome.TheVariants.{Received}
use Rattle.nfs3_types.specs.Procedures.{is_answered, failure_in}
use Rattle.reply_attributes.specs.Attributes.{type_and_size}
use Rattle.tree_starts.specs.declared.profile.Profile.{Profile}
use Rattle.tree_starts.specs.declared.profile.Profile.TheVariants.{Plain, Strict}
use Rattle.tree_nodes.specs.declared.node.Node.{Node}
use Rattle.tree_nodes.specs.Files.{node_limit}
use Rattle.tree_nodes.specs.Tree.{Names, Tree, entry_of}
use Rattle.tree_nodes.proofs.Chains.{chained, passed}
use Rattle.tree_answers.specs.tree_handles_specs.Binding.{Bindings, same_bytes, is_bound, is_named, gives_object}
use Rattle.tree_starts.specs.Names.{is_plain}
use Rattle.tree_answers.specs.tree_handles_specs.Kind.{is_link}
use Rattle.tree_answers.specs.tree_handles_specs.Live.{FileEntry, live_entry, directory_of, file_of}
use Rattle.tree_answers.proofs.tree_handles_laws.HandleOf.{handle_of, is_among_names}
use Rattle.tree_answers.specs.Look.{shows, getattr_is_legal, object_named, is_object_named, lookup_is_legal, has_text, readlink_is_legal, same_flag, read_is_right, read_is_legal, commit_is_legal}
use Rattle.tree_answers.specs.Listing.{is_listing, readdir_is_legal, readdirplus_is_legal, are_all_listed}
use Rattle.file_tree.specs.Change.{Change}
use Rattle.file_tree.specs.Change.Change.{Keep, Put}
use Rattle.file_tree.specs.Made.{only_if, create_present, create_over, create_at, create_change, make_entry, make_directory, make_link}
use Rattle.file_tree.specs.Removed.{remove_entry, remove_directory, rename}
use Rattle.file_tree.specs.Written.{reaches, write_at, write_change, set_attributes}
use Rattle.file_tree.specs.Success.{next_tree, changed, change_written, change_created, change_set, change_directory_made, change_link_made, change_removed, change_directory_removed, change_renamed, change_done, change_answered}
use Rattle.file_tree.specs.Allows.{AllowsSuccess, may_be_found, may_succeed}
use Rattle.file_tree.specs.Setting.{under, AllowsUnder}
use Rattle.file_tree.specs.Strict.{told, fits, agrees, judged}
use Rattle.file_tree.proofs.Bare.{IsBare, bare_agrees, getattr_agrees}
use Rattle.file_tree.proofs.Planned.{file_written}
use Rattle.file_tree.proofs.Profiles.{comes_out_plain}

-- ---- values that are there

true_of : {A : Type 0} (o : Option A) → IsSome o → is_some o ≡ true
true_of o h = h

is_there : {A : Type 0} (o : Option A) (x : A) → o ≡ Some x → is_some o ≡ true
is_there o x e = ap is_some e

there_of : {A : Type 0} (o : Option A) → is_some o ≡ true → (x : A) × (o ≡ Some x)
there_of None e = absurd (cc)
there_of (Some x) e = (x, refl)

passing : {A : Type 0} (test : A → Bool) (o : Option A) → option_map_or test o false ≡ true → (x : A) × (o ≡ Some x) × (test x ≡ true)
passing test None e = absurd (cc)
passing test (Some x) e = (x, refl, e)

leads_on : (tree : Tree) (o : Option Change) → is_some o ≡ true → IsSome (option_map (changed tree) o)
leads_on tree None e = absurd (cc)
leads_on tree (Some c) e = refl

led_by : (tree : Tree) (o : Option Change) → IsSome (option_map (changed tree) o) → is_some o ≡ true
led_by tree None e = absurd (cc)
led_by tree (Some c) e = refl

keep_is : (right : Bool) → right ≡ true → is_some (only_if right Keep) ≡ true
keep_is true e = refl
keep_is false e = absurd (cc)

is_right : (right : Bool) → is_some (only_if right Keep) ≡ true → right ≡ true
is_right true e = refl
is_right false e = absurd (cc)

-- ---- a success for each call that the rule allows

abbrev no_wcc : WccData
no_wcc = record { before = None; after = None }

abbrev of_type : FileType → ℕ → FileAttributes
of_type type size = record {
  file_type = type;
  mode = 0;
  link_count = 0;
  user = 0;
  group = 0;
  size = size;
  used = 0;
  device = record { major = 0; minor = 0 };
  file_system = 0;
  file_number = 0;
  access_time = record { seconds = 0; nanoseconds = 0 };
  modify_time = record { seconds = 0; nanoseconds = 0 };
  change_time = record { seconds = 0; nanoseconds = 0 };
}

abbrev attributes_of : Content → FileAttributes
attributes_of contents.Directory = of_type types.Directory 0
attributes_of (contents.File file) = of_type types.Regular (length file.bytes)
attributes_of (contents.Link target) = of_type types.SymbolicLink (length target)

shown : (content : Content) → shows content (attributes_of content) ≡ true
shown contents.Directory = refl
shown (contents.File file) = eq-eqb (length file.bytes) (length file.bytes) refl
shown (contents.Link target) = refl

abbrev text_of : Content → List ℕ
text_of contents.Directory = []
text_of (contents.File file) = []
text_of (contents.Link target) = target

has_its_text : (content : Content) → is_link content ≡ true → has_text content (text_of content) ≡ true
has_its_text contents.Directory e = absurd (cc)
has_its_text (contents.File file) e = absurd (cc)
has_its_text (contents.Link target) e = (bytes_decides target target).1 refl

same_flags : (b : Bool) → same_flag b b ≡ true
same_flags true = refl
same_flags false = refl

from_zero : (n : ℕ) → nat_le 0 n ≡ true
from_zero n = le-leb 0 n (omega arith)

none_taken : (bytes : List ℕ) → take 0 bytes ≡ []
none_taken [] = refl
none_taken (x ∷ bytes) = refl

none_read : (bytes : List ℕ) (call : ReadArguments) → read_is_right bytes call (record { attributes = None; count = 0; eof = nat_le (length bytes) (call.offset + 0); bytes = [] }) ≡ true
none_read bytes call =
    λ i. (0 == 0) && from_zero call.count i && same_bytes [] (none_taken (drop call.offset bytes) i) && same_flags (nat_le (length bytes) (call.offset + 0)) i

all_reached : (asked : StableHow) → reaches asked (Some levels.FileSync) ≡ true
all_reached levels.Unstable = refl
all_reached levels.DataSync = refl
all_reached levels.FileSync = refl

no_end : (b : Bool) → (b && false) ≡ false
no_end true = refl
no_end false = refl

none_listed : (tree : Tree) (directory : Names) (cookie : ℕ) → is_listing tree directory cookie false [] ≡ true
none_listed tree directory cookie = ap (λ b. not b || are_all_listed tree directory []) (no_end (cookie == 0))

-- a success that agrees with the trees before and after it
pub record SomeBare (binds : Bindings) (tree : Tree) (number : ℕ) (call : NfsCall) : Type 0 where
  pub reply : NfsReply
  pub answers : is_answered call reply ≡ true
  pub succeeds : failure_in reply ≡ None
  pub leads : IsSome (next_tree binds tree number call (Received reply))
  pub agreed : (after : Tree) → next_tree binds tree number call (Received reply) ≡ Some after → agrees binds tree after call reply ≡ true

-- one that carries no attributes does
barely : (binds : Bindings) (tree : Tree) (number : ℕ) (call : NfsCall) (reply : NfsReply) → is_answered call reply ≡ true → failure_in reply ≡ None
    → IsSome (next_tree binds tree number call (Received reply)) → IsBare reply → SomeBare binds tree number call
barely binds tree number call reply answers succeeds leads bare =
    record { reply = reply; answers = answers; succeeds = succeeds; leads = leads; agreed = λ after next. bare_agrees binds tree after reply bare call }

kept : (tree : Tree) (right : Bool) (after : Tree) → option_map (changed tree) (only_if right Keep) ≡ Some after → tree ≡ after
kept tree true after e = cc
kept tree false after e = absurd (cc)

shown_fits : (content : Content) → fits (Some (told content)) (Some (type_and_size (attributes_of content))) ≡ true
shown_fits contents.Directory = refl
shown_fits (contents.File file) = eq-eqb (length file.bytes) (length file.bytes) refl
shown_fits (contents.Link target) = refl

module _ (binds : Bindings) (tree : Tree) (number : ℕ) where
  attributes_allow : (object : List ℕ) → is_some (live_entry binds tree object) ≡ true → SomeBare binds tree number (calls.GetAttr object)
  attributes_allow object e =
      let at = there_of (live_entry binds tree object) e in
      let attributes = attributes_of at.0.1.content in
      let right = ap (λ (o : Option (Names × Node)). option_map_or (λ e. shows e.1.content attributes) o false) at.1 ∙ shown at.0.1.content in
      record {
        reply = replies.GetAttr (Done attributes);
        answers = refl;
        succeeds = refl;
        leads = leads_on tree _ (keep_is _ right);
        agreed = λ after next.
            subst (λ (t : Tree). agrees binds tree t (calls.GetAttr object) (replies.GetAttr (Done attributes)) ≡ true)
            (kept tree (getattr_is_legal binds tree object (replies.GetAttr (Done attributes))) after next)
            (getattr_agrees binds tree object attributes at.0 at.1 (shown_fits at.0.1.content));
      }

  found_allow : (place : DirectoryName) → may_be_found binds tree place ≡ true → SomeBare binds tree number (calls.Lookup place)
  found_allow place e =
      let in_directory = passing _ (directory_of binds tree place.directory) e in
      let at = passing (is_named binds) (object_named tree in_directory.0 place.name) in_directory.2 in
      let handle = handle_of binds at.0 at.2 in
      let right = ap (λ (o : Option Names). option_map_or (is_object_named binds tree place handle.0) o false) in_directory.1
      ∙ ap (λ (o : Option ℕ). option_map_or (is_bound binds handle.0) o false) at.1 ∙ handle.1 in
      barely binds tree number (calls.Lookup place) (replies.Lookup (Done (record { object = handle.0; attributes = None; directory_attributes = None }))) refl refl (leads_on tree _ (keep_is _ right))
      (record { first = refl; before = refl; second = refl; second_before = refl; answer = refl; entries = refl })

  text_allow : (link : List ℕ) → option_map_or (λ e. is_link e.1.content) (live_entry binds tree link) false ≡ true → SomeBare binds tree number (calls.ReadLink link)
  text_allow link e =
      let at = passing (λ e. is_link e.1.content) (live_entry binds tree link) e in
      let target = text_of at.0.1.content in
      let right = ap (λ (o : Option (Names × Node)). option_map_or (λ e. has_text e.1.content target) o false) at.1 ∙ has_its_text at.0.1.content at.2 in
      barely binds tree number (calls.ReadLink link) (replies.ReadLink (Done (record { attributes = None; target = target }))) refl refl (leads_on tree _ (keep_is _ right))
      (record { first = refl; before = refl; second = refl; second_before = refl; answer = refl; entries = refl })

  read_allow : (call : ReadArguments) → is_some (file_of binds tree call.file) ≡ true → SomeBare binds tree number (calls.Read call)
  read_allow call e =
      let at = there_of (file_of binds tree call.file) e in
      let bytes = at.0.file.bytes in
      let success : ReadSuccess = record { attributes = None; count = 0; eof = nat_le (length bytes) (call.offset + 0); bytes = [] } in
      let right = ap (λ (o : Option FileEntry). option_map_or (λ entry. read_is_right entry.file.bytes call success) o false) at.1 ∙ none_read bytes call in
      barely binds tree number (calls.Read call) (replies.Read (Done success)) refl refl (leads_on tree _ (keep_is _ right))
      (record { first = refl; before = refl; second = refl; second_before = refl; answer = refl; entries = refl })

  write_allow : (call : WriteArguments) → is_some (file_of binds tree call.file) ≡ true → SomeBare binds tree number (calls.Write call)
  write_allow call e =
      let at = there_of (file_of binds tree call.file) e in
      let change = file_written binds tree call 0 (Some levels.FileSync) at.0 at.1 (from_zero call.count) (from_zero (length call.bytes)) (all_reached call.level)
      ∙ ap (write_at at.0 call.offset) (none_taken call.bytes) in
      barely binds tree number (calls.Write call) (replies.Write (Done (record { wcc = no_wcc; count = 0; level = levels.FileSync; verifier = record { value = 0 } }))) refl refl (leads_on tree _ (ap is_some change))
      (record { first = refl; before = refl; second = refl; second_before = refl; answer = refl; entries = refl })

  commit_allow : (call : CommitArguments) → is_some (file_of binds tree call.file) ≡ true → SomeBare binds tree number (calls.Commit call)
  commit_allow call e =
      barely binds tree number (calls.Commit call) (replies.Commit (Done (record { wcc = no_wcc; verifier = record { value = 0 } }))) refl refl (leads_on tree _ (keep_is _ e))
      (record { first = refl; before = refl; second = refl; second_before = refl; answer = refl; entries = refl })

  list_allow : (call : ReadDirArguments) → is_some (directory_of binds tree call.directory) ≡ true → SomeBare binds tree number (calls.ReadDir call)
  list_allow call e =
      let at = there_of (directory_of binds tree call.directory) e in
      let right = ap (λ (o : Option Names). option_map_or (λ directory. is_listing tree directory call.cookie false []) o false) at.1 ∙ none_listed tree at.0 call.cookie in
      barely binds tree number (calls.ReadDir call) (replies.ReadDir (Done (record { attributes = None; verifier = record { value = 0 }; entries = []; eof = false }))) refl refl (leads_on tree _ (keep_is _ right))
      (record { first = refl; before = refl; second = refl; second_before = refl; answer = refl; entries = refl })

  list_plus_allow : (call : ReadDirPlusArguments) → is_some (directory_of binds tree call.directory) ≡ true → SomeBare binds tree number (calls.ReadDirPlus call)
  list_plus_allow call e =
      let at = there_of (directory_of binds tree call.directory) e in
      let right = ap (λ (o : Option Names). option_map_or (λ directory. is_listing tree directory call.cookie false [] && true) o false) at.1
      ∙ ap (λ b. b && true) (none_listed tree at.0 call.cookie) in
      barely binds tree number (calls.ReadDirPlus call) (replies.ReadDirPlus (Done (record { attributes = None; verifier = record { value = 0 }; entries = []; eof = false }))) refl refl (leads_on tree _ (keep_is _ right))
      (record { first = refl; before = refl; second = refl; second_before = refl; answer = refl; entries = refl })

  abbrev made : CreateSuccess
  made = record { object = None; attributes = None; wcc = no_wcc }

  pub allowed_bare : (call : NfsCall) → may_succeed binds tree number call ≡ true → SomeBare binds tree number call
  allowed_bare (calls.GetAttr object) e = attributes_allow object e
  allowed_bare (calls.Lookup place) e = found_allow place e
  allowed_bare (calls.ReadLink link) e = text_allow link e
  allowed_bare (calls.Read call) e = read_allow call e
  allowed_bare (calls.Write call) e = write_allow call e
  allowed_bare (calls.Commit call) e = commit_allow call e
  allowed_bare (calls.ReadDir call) e = list_allow call e
  allowed_bare (calls.ReadDirPlus call) e = list_plus_allow call e
  allowed_bare (calls.Create call) e = barely binds tree number (calls.Create call) (replies.Create (Done made)) refl refl (leads_on tree _ e)
      (record { first = refl; before = refl; second = refl; second_before = refl; answer = refl; entries = refl })
  allowed_bare (calls.MkDir call) e = barely binds tree number (calls.MkDir call) (replies.MkDir (Done made)) refl refl (leads_on tree _ e)
      (record { first = refl; before = refl; second = refl; second_before = refl; answer = refl; entries = refl })
  allowed_bare (calls.SymLink call) e = barely binds tree number (calls.SymLink call) (replies.SymLink (Done made)) refl refl (leads_on tree _ e)
      (record { first = refl; before = refl; second = refl; second_before = refl; answer = refl; entries = refl })
  allowed_bare (calls.SetAttr call) e = barely binds tree number (calls.SetAttr call) (replies.SetAttr (Done no_wcc)) refl refl (leads_on tree _ e)
      (record { first = refl; before = refl; second = refl; second_before = refl; answer = refl; entries = refl })
  allowed_bare (calls.Remove place) e = barely binds tree number (calls.Remove place) (replies.Remove (Done no_wcc)) refl refl (leads_on tree _ e)
      (record { first = refl; before = refl; second = refl; second_before = refl; answer = refl; entries = refl })
  allowed_bare (calls.RmDir place) e = barely binds tree number (calls.RmDir place) (replies.RmDir (Done no_wcc)) refl refl (leads_on tree _ e)
      (record { first = refl; before = refl; second = refl; second_before = refl; answer = refl; entries = refl })
  allowed_bare (calls.Rename call) e = barely binds tree number (calls.Rename call) (replies.Rename (Done (record { from = no_wcc; to = no_wcc }))) refl refl (leads_on tree _ e)
      (record { first = refl; before = refl; second = refl; second_before = refl; answer = refl; entries = refl })

  pub allowed : (call : NfsCall) → may_succeed binds tree number call ≡ true → AllowsSuccess binds tree number call
  allowed call e = let bare = allowed_bare call e in record { reply = bare.reply; answers = bare.answers; succeeds = bare.succeeds; leads = bare.leads }

-- ---- what a success asks for

-- a handle that is given asks for more than none
without : (front given : Bool) (c d : Change) → cond (front && given) (Some c) None ≡ Some d → is_some (only_if (front && true) c) ≡ true
without true given c d e = refl
without false given c d e = absurd (cc)

module _ (binds : Bindings) (tree : Tree) (number : ℕ) where
  got_live : (object : List ℕ) (reply : NfsReply) → getattr_is_legal binds tree object reply ≡ true → is_some (live_entry binds tree object) ≡ true
  got_live object (replies.GetAttr (Done attributes)) e = let at = passing _ (live_entry binds tree object) e in is_there _ at.0 at.1
  got_live object _ e = absurd (cc)

  found_named : (place : DirectoryName) (reply : NfsReply) → lookup_is_legal binds tree place reply ≡ true → may_be_found binds tree place ≡ true
  found_named place (replies.Lookup (Done success)) e =
      let in_directory = passing (is_object_named binds tree place success.object) (directory_of binds tree place.directory) e in
      let at = passing (is_bound binds success.object) (object_named tree in_directory.0 place.name) in_directory.2 in
      ap (λ (o : Option Names). option_map_or (λ directory. option_map_or (is_named binds) (object_named tree directory place.name) false) o false) in_directory.1
      ∙ ap (λ (o : Option ℕ). option_map_or (is_named binds) o false) at.1 ∙ is_among_names binds success.object at.0 at.2
  found_named place _ e = absurd (cc)

  texts_link : (content : Content) (text : List ℕ) → has_text content text ≡ true → is_link content ≡ true
  texts_link contents.Directory text e = absurd (cc)
  texts_link (contents.File file) text e = absurd (cc)
  texts_link (contents.Link target) text e = refl

  text_link : (link : List ℕ) (reply : NfsReply) → readlink_is_legal binds tree link reply ≡ true → option_map_or (λ e. is_link e.1.content) (live_entry binds tree link) false ≡ true
  text_link link (replies.ReadLink (Done success)) e =
      let at = passing (λ (e : Names × Node). has_text e.1.content success.target) (live_entry binds tree link) e in
      ap (λ (o : Option (Names × Node)). option_map_or (λ e. is_link e.1.content) o false) at.1 ∙ texts_link at.0.1.content success.target at.2
  text_link link _ e = absurd (cc)

  read_file : (call : ReadArguments) (reply : NfsReply) → read_is_legal binds tree call reply ≡ true → is_some (file_of binds tree call.file) ≡ true
  read_file call (replies.Read (Done success)) e = let at = passing _ (file_of binds tree call.file) e in is_there _ at.0 at.1
  read_file call _ e = absurd (cc)

  committed_file : (file : List ℕ) (reply : NfsReply) → commit_is_legal binds tree file reply ≡ true → is_some (file_of binds tree file) ≡ true
  committed_file file (replies.Commit (Done success)) e = e
  committed_file file _ e = absurd (cc)

  list_directory : (call : ReadDirArguments) (reply : NfsReply) → readdir_is_legal binds tree call reply ≡ true → is_some (directory_of binds tree call.directory) ≡ true
  list_directory call (replies.ReadDir (Done success)) e = let at = passing _ (directory_of binds tree call.directory) e in is_there _ at.0 at.1
  list_directory call _ e = absurd (cc)

  list_plus_directory : (call : ReadDirPlusArguments) (reply : NfsReply) → readdirplus_is_legal binds tree call reply ≡ true → is_some (directory_of binds tree call.directory) ≡ true
  list_plus_directory call (replies.ReadDirPlus (Done success)) e = let at = passing _ (directory_of binds tree call.directory) e in is_there _ at.0 at.1
  list_plus_directory call _ e = absurd (cc)

  written_file : (call : WriteArguments) (reply : NfsReply) → is_some (change_written binds tree call reply) ≡ true → is_some (file_of binds tree call.file) ≡ true
  written_file call (replies.Write (Done success)) e =
      let change = there_of (write_change binds tree call success.count (Some success.level)) e in
      let at = chained _ (file_of binds tree call.file) change.0 change.1 in
      is_there _ at.0 at.1
  written_file call _ e = absurd (cc)

  -- CREATE, MKDIR and SYMLINK succeed without a handle too
  present_without : (mode : CreateMode) (handle : Option (List ℕ)) (path : Names) (object : ℕ) (content : Content) (c : Change)
      → create_present binds mode handle path object content ≡ Some c → is_some (create_present binds mode None path object content) ≡ true
  present_without mode handle path object contents.Directory c e = absurd (cc)
  present_without mode handle path object (contents.File file) c e = is_there _ c (passed (gives_object binds handle object) (create_over mode path object file) c e).1
  present_without mode handle path object (contents.Link target) c e = absurd (cc)

  at_without : (mode : CreateMode) (handle : Option (List ℕ)) (path : Names) (o : Option Node) (c : Change) → create_at binds tree number mode handle path o ≡ Some c
      → is_some (create_at binds tree number mode None path o) ≡ true
  at_without mode handle path None c e = without _ (gives_object binds handle number) _ c e
  at_without mode handle path (Some node) c e = present_without mode handle path node.object node.content c e

  create_without : (call : CreateArguments) (handle : Option (List ℕ)) → is_some (create_change binds tree number call handle) ≡ true
      → is_some (create_change binds tree number call None) ≡ true
  create_without call handle e =
      let change = there_of (create_change binds tree number call handle) e in
      let at = chained _ (directory_of binds tree call.place.directory) change.0 change.1 in
      let path = at.0 ++ call.place.name ∷ [] in
      let tests = passed (is_plain call.place.name) _ change.0 at.2 in
      ap (λ (o : Option Names). is_some (option_and_then (λ directory. cond (is_plain call.place.name)
      (create_at binds tree number call.mode None (directory ++ call.place.name ∷ []) (map.get tree (directory ++ call.place.name ∷ []))) None) o)) at.1
      ∙ ap (λ b. is_some (cond b (create_at binds tree number call.mode None path (map.get tree path)) None)) tests.0
      ∙ at_without call.mode handle path (map.get tree path) change.0 tests.1

  abbrev pub entry_made : DirectoryName → Option (List ℕ) → Content → Names → Option Change
  entry_made place handle content directory =
      only_if (is_plain place.name && is_none (map.get tree (directory ++ place.name ∷ [])) && is_none (entry_of tree number) && nat_lt (map.len tree) node_limit
      && gives_object binds handle number) (Put (directory ++ place.name ∷ []) (record { object = number; content = content }))

  entry_without : (place : DirectoryName) (handle : Option (List ℕ)) (content : Content) → is_some (make_entry binds tree number place handle content) ≡ true
      → is_some (make_entry binds tree number place None content) ≡ true
  entry_without place handle content e =
      let change = there_of (make_entry binds tree number place handle content) e in
      let at = chained (entry_made place handle content) (directory_of binds tree place.directory) change.0 change.1 in
      ap (λ (o : Option Names). is_some (option_and_then (entry_made place None content) o)) at.1
      ∙ without (is_plain place.name && is_none (map.get tree (at.0 ++ place.name ∷ [])) && is_none (entry_of tree number) && nat_lt (map.len tree) node_limit)
      (gives_object binds handle number) (Put (at.0 ++ place.name ∷ []) (record { object = number; content = content })) change.0 at.2

  created_so : (call : CreateArguments) (reply : NfsReply) → is_some (change_created binds tree number call reply) ≡ true → is_some (create_change binds tree number call None) ≡ true
  created_so call (replies.Create (Done success)) e = create_without call success.object e
  created_so call _ e = absurd (cc)

  directory_made_so : (call : MkDirArguments) (reply : NfsReply) → is_some (change_directory_made binds tree number call reply) ≡ true
      → is_some (make_directory binds tree number call None) ≡ true
  directory_made_so call (replies.MkDir (Done success)) e = entry_without call.place success.object contents.Directory e
  directory_made_so call _ e = absurd (cc)

  link_made_so : (call : SymLinkArguments) (reply : NfsReply) → is_some (change_link_made binds tree number call reply) ≡ true
      → is_some (make_link binds tree number call None) ≡ true
  link_made_so call (replies.SymLink (Done success)) e = entry_without call.place success.object (contents.Link call.target) e
  link_made_so call _ e = absurd (cc)

  set_so : (call : SetAttrArguments) (reply : NfsReply) → is_some (change_set binds tree call reply) ≡ true → is_some (set_attributes binds tree call) ≡ true
  set_so call (replies.SetAttr (Done success)) e = e
  set_so call _ e = absurd (cc)

  removed_so : (place : DirectoryName) (reply : NfsReply) → is_some (change_removed binds tree place reply) ≡ true → is_some (remove_entry binds tree place) ≡ true
  removed_so place (replies.Remove (Done success)) e = e
  removed_so place _ e = absurd (cc)

  directory_removed_so : (place : DirectoryName) (reply : NfsReply) → is_some (change_directory_removed binds tree place reply) ≡ true
      → is_some (remove_directory binds tree place) ≡ true
  directory_removed_so place (replies.RmDir (Done success)) e = e
  directory_removed_so place _ e = absurd (cc)

  renamed_so : (call : RenameArguments) (reply : NfsReply) → is_some (change_renamed binds tree call reply) ≡ true → is_some (rename binds tree call) ≡ true
  renamed_so call (replies.Rename (Done success)) e = e
  renamed_so call _ e = absurd (cc)

  done_so : (call : NfsCall) (reply : NfsReply) → is_some (change_done binds tree number call reply) ≡ true → may_succeed binds tree number call ≡ true
  done_so (calls.GetAttr object) reply e = got_live object reply (is_right _ e)
  done_so (calls.Lookup place) reply e = found_named place reply (is_right _ e)
  done_so (calls.ReadLink link) reply e = text_link link reply (is_right _ e)
  done_so (calls.Read call) reply e = read_file call reply (is_right _ e)
  done_so (calls.Write call) reply e = written_file call reply e
  done_so (calls.Commit call) reply e = committed_file call.file reply (is_right _ e)
  done_so (calls.ReadDir call) reply e = list_directory call reply (is_right _ e)
  done_so (calls.ReadDirPlus call) reply e = list_plus_directory call reply (is_right _ e)
  done_so (calls.Create call) reply e = created_so call reply e
  done_so (calls.MkDir call) reply e = directory_made_so call reply e
  done_so (calls.SymLink call) reply e = link_made_so call reply e
  done_so (calls.SetAttr call) reply e = set_so call reply e
  done_so (calls.Remove place) reply e = removed_so place reply e
  done_so (calls.RmDir place) reply e = directory_removed_so place reply e
  done_so (calls.Rename call) reply e = renamed_so call reply e

  pub so_allowed : (call : NfsCall) → AllowsSuccess binds tree number call → may_succeed binds tree number call ≡ true
  so_allowed call success =
      let leads = subst (λ (o : Option Failure). IsSome (option_map (changed tree) (change_answered binds tree number call success.reply o))) success.succeeds success.leads in
      done_so call success.reply (led_by tree (change_done binds tree number call success.reply) leads)

  true_is : (b : Bool) → IsTrue b → b ≡ true
  true_is b h = h

  is_true : (b : Bool) → b ≡ true → IsTrue b
  is_true b e = e

  pub exactly : (call : NfsCall) (b : Bool) → b ≡ may_succeed binds tree number call → IsTrue b ↔ AllowsSuccess binds tree number call
  exactly call b is = (λ h. allowed binds tree number call (sym is ∙ true_is b h), λ success. is_true b (is ∙ so_allowed call success))

-- ---- under a profile

strictly_leads : (binds : Bindings) (tree : Tree) (number : ℕ) (call : NfsCall) (bare : SomeBare binds tree number call) → IsSome (under Strict binds tree number call (Received bare.reply))
strictly_leads binds tree number call bare =
    let after = there_of (next_tree binds tree number call (Received bare.reply)) (true_of _ bare.leads) in
    subst IsSome
    (sym (ap (option_and_then (judged binds tree call (Received bare.reply))) after.1 ∙ ap (λ b. cond b (Some after.0) None) (bare.agreed after.0 after.1)))
    refl

-- what is allowed under the plain profile is allowed under each
pub allowed_under : (profile : Profile) (binds : Bindings) (tree : Tree) (number : ℕ) (call : NfsCall) → AllowsSuccess binds tree number call → AllowsUnder profile binds tree number call
allowed_under Plain binds tree number call success = record { reply = success.reply; answers = success.answers; succeeds = success.succeeds; leads = success.leads }
allowed_under Strict binds tree number call success =
    let bare = allowed_bare binds tree number call (so_allowed binds tree number call success) in
    record { reply = bare.reply; answers = bare.answers; succeeds = bare.succeeds; leads = strictly_leads binds tree number call bare }

pub allowed_plain : (profile : Profile) (binds : Bindings) (tree : Tree) (number : ℕ) (call : NfsCall) → AllowsUnder profile binds tree number call → AllowsSuccess binds tree number call
allowed_plain profile binds tree number call success =
    let after = there_of (under profile binds tree number call (Received success.reply)) (true_of _ success.leads) in
    let plain = comes_out_plain profile binds tree after.0 number call (Received success.reply) after.1 in
    record { reply = success.reply; answers = success.answers; succeeds = success.succeeds; leads = subst IsSome (sym plain) refl }
