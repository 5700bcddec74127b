-- Believed.
-- What a walk's exchanges say of the objects of an export (this project's own; the calls are RFC 1813's). The walk gives an account of
-- each object: where its exchanges stand. Account 0 is the root's, account k that of object k.
use Rattle.std.specs.Prelude.{◌≡◌, ℕ, ◌+◌, ◌-◌, ◌==◌, ◌&&◌, nat_le, Bool, IsTrue, true, false, if◌then◌else◌, List, [], ◌∷◌, ◌++◌, length, drop, take, slice_get, map}
use Rattle.std.specs.Option.{option_map_or}
use Rattle.std.specs.List.{flat_map, list_all}
use Rattle.nfs3_types.specs.Limits.{file_limit}
use Rattle.tree_starts.specs.Names.{same_bytes}
use Rattle.tree_starts.specs.declared.object.StartNode.{StartNode}
use Rattle.tree_starts.specs.declared.object.StartNode.TheVariants as nodes
use Rattle.tree_starts.specs.declared.object.StartObject.{StartObject}
use Rattle.walk_accounts.specs.declared.account.Account.{Account}
use Rattle.walk_accounts.specs.declared.account.Kind.{Kind}
use Rattle.walk_accounts.specs.declared.account.Kind.TheVariants as kinds
use Rattle.walk_accounts.specs.declared.account.Part.{Part}
use Rattle.walk_accounts.specs.declared.exchange.Cursor.{Cursor}
use Rattle.walk_accounts.specs.declared.exchange.Exchange.{Exchange}
use Rattle.walk_accounts.specs.declared.exchange.Page.{Page}
use Rattle.walk_accounts.specs.declared.exchange.Page.TheVariants.{Other, Last, More}
use Rattle.walk_accounts.specs.Exchanges.{asks_bytes, bytes_in, is_at_end, asks_text, is_text, text_in, asks_attributes, tells, gives, page_of, places_in}

-- the exchanges from one to another, which isn't among them
abbrev pub part_of : List Exchange → Part → List Exchange
part_of exchanges part =
    if nat_le part.from part.to && nat_le part.to (length exchanges) then take (part.to - part.from) (drop part.from exchanges) else []

-- a READ of a file from an offset on, whose bytes end within the limit of files
abbrev pub is_piece : List ℕ → ℕ → Exchange → Bool
is_piece file offset e = asks_bytes file offset e.call && nat_le (offset + length (bytes_in e.reply)) file_limit

-- READs of a file from an offset on, each from where the one before it ended; the last one alone reaches the end, at the file's size
unfoldable pub is_reading : List ℕ → ℕ → ℕ → List Exchange → Bool
is_reading file size offset [] = false
is_reading file size offset (e ∷ more) =
    is_piece file offset e
    && (if is_at_end e.reply then (offset + length (bytes_in e.reply) == size) && (length more == 0) else is_reading file size (offset + length (bytes_in e.reply)) more)

-- one READLINK of a link
abbrev pub is_link_read : List ℕ → List Exchange → Bool
is_link_read link [] = false
is_link_read link (e ∷ more) = asks_text link e.call && is_text e.reply && (length more == 0)

-- pages of a directory's list from a cursor on, each from where the one before it ended, and the last one alone reaches the end
abbrev pub behind_page : Page → Bool → (Cursor → Bool) → Bool
behind_page Other is_alone onward = false
behind_page Last is_alone onward = is_alone
behind_page (More cursor) is_alone onward = onward cursor

unfoldable pub is_listing : List ℕ → Cursor → List Exchange → Bool
is_listing directory cursor [] = false
is_listing directory cursor (e ∷ more) = behind_page (page_of directory cursor e) (length more == 0) (λ next. is_listing directory next more)

-- the list's front: cookie 0 with verifier 0
abbrev pub front : Cursor
front = record { cookie = 0; verifier = record { value = 0 } }

-- a file was read to its end, a directory listed to its end, a link's text read
abbrev pub is_seen : Kind → List ℕ → ℕ → List Exchange → Bool
is_seen kinds.File handle size part = is_reading handle size 0 part
is_seen kinds.Directory handle size part = is_listing handle front part
is_seen kinds.Link handle size part = is_link_read handle part

-- a GETATTR of the object tells its kind and size, and its part of the exchanges shows it whole
abbrev pub is_told : Account → Exchange → Bool
is_told a e = asks_attributes a.handle e.call && tells a.kind a.size e.reply

abbrev pub is_accounted : List Exchange → Account → Bool
is_accounted exchanges a =
    option_map_or (is_told a) (slice_get exchanges a.told_by) false && is_seen a.kind a.handle a.size (part_of exchanges a.part)

-- a LOOKUP or an entry of a READDIRPLUS in the directory that it lies in gave the object's handle for its name
abbrev pub is_given : List Exchange → Account → List ℕ → Bool
is_given exchanges a directory = option_map_or (gives directory a.name a.handle a.entry) (slice_get exchanges a.named_by) false

abbrev pub is_named : List Exchange → List Account → Account → Bool
is_named exchanges accounts a = option_map_or (λ parent. is_given exchanges a parent.handle) (slice_get accounts a.parent) false

-- the first account is that of a directory with the root's handle
abbrev pub is_directory : Kind → Bool
is_directory kinds.File = false
is_directory kinds.Directory = true
is_directory kinds.Link = false

abbrev pub is_root : List ℕ → Account → Bool
is_root root a = same_bytes a.handle root && is_directory a.kind

-- where an account's object lies: its directory, and its name there
abbrev pub place_of : Account → ℕ × List ℕ
place_of a = (a.parent, a.name)

-- the names that the lists gave, directory by directory in the order of the accounts, the first of which has this number
abbrev pub places_told : List Exchange → ℕ → Account → List (ℕ × List ℕ)
places_told exchanges number a = flat_map (λ e. places_in number e.reply) (part_of exchanges a.part)

unfoldable pub all_places : List Exchange → ℕ → List Account → List (ℕ × List ℕ)
all_places exchanges number [] = []
all_places exchanges number (a ∷ accounts) = places_told exchanges number a ++ all_places exchanges (number + 1) accounts

-- the accounts say what the exchanges say: the root is there, each object was seen whole and was named in its directory, and the objects
-- are exactly the names that the lists gave, in their order
pub record IsExplained (root : List ℕ) (exchanges : List Exchange) (first : Account) (found : List Account) : Type 0 where
  pub begins : IsTrue (is_root root first)
  pub seen : IsTrue (list_all (is_accounted exchanges) (first ∷ found))
  pub named : IsTrue (list_all (is_named exchanges (first ∷ found)) found)
  pub complete : map place_of found ≡ all_places exchanges 0 (first ∷ found)

-- the object of an account: a file's bytes are those of its READs put together, a link's text is that of its READLINK
abbrev pub node_told : Kind → List Exchange → StartNode
node_told kinds.File part = nodes.File (flat_map (λ e. bytes_in e.reply) part)
node_told kinds.Directory part = nodes.Directory
node_told kinds.Link part = nodes.Link (flat_map (λ e. text_in e.reply) part)

abbrev pub object_told : List Exchange → Account → StartObject
object_told exchanges a = record { parent = a.parent; name = a.name; node = node_told a.kind (part_of exchanges a.part) }

-- these objects are what the exchanges say of the export with this root
pub record IsTold (root : List ℕ) (exchanges : List Exchange) (objects : List StartObject) : Type 0 where
  pub first : Account
  pub found : List Account
  pub explained : IsExplained root exchanges first found
  pub objects_are : objects ≡ map (object_told exchanges) found
