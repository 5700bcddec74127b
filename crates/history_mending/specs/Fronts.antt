-- For the prover, and for callers.
-- The longest list of whole events that bytes begin with, of which each may follow those before it (this project's own format, in the
-- items of RFC 4506). Whatever the head says of their number, it isn't looked at.
use Rattle.std.specs.Prelude.{◌≡◌, ℕ, ◌-◌, ◌≤◌, List, [], ◌++◌, length}
use Rattle.xdr_records.specs.Grammar.{Grammar, ◌>>=◌}
use Rattle.xdr_records.specs.Grammar.Grammar.{one_word, one_opaque, named, nothing}
use Rattle.xdr_records.specs.Spelling.{Spells}
use Rattle.tree_starts.specs.Head.{Head, plain_head}
use Rattle.history_file.specs.declared.fault.FileFault.{FileFault}
use Rattle.history_file.specs.declared.version.Version.{Version}
use Rattle.history_file.specs.declared.version.Version.TheVariants.{First, Second}
use Rattle.history_file.specs.Limits.{history_limit, event_limit, root_limit}
use Rattle.history_file.specs.Starting.{profile_word, object_count, objects}
use Rattle.history_file.specs.Event.{Event}
use Rattle.history_file.specs.HistoryFile.{events}
use Rattle.nfs_history.specs.Standing.{EachMayFollow}

-- what stands between the magic and the events of a history file, where the number of events is any word
unfoldable pub head_of : Version → Grammar FileFault Head
head_of First = do
  root ← one_opaque root_limit
  count ← one_word
  nothing (plain_head root)
head_of Second = do
  root ← one_opaque root_limit
  profile ← named profile_word
  number ← named object_count
  start ← objects number [] 1
  count ← one_word
  nothing (record { root = root; start = start; profile = profile })

-- the bytes begin with the value, as the grammar spells it, and the rest is behind it
pub record Begins {A : Type 0} (g : Grammar FileFault A) (value : A) (bytes rest : List ℕ) : Type 0 where
  pub front : List ℕ
  pub parts : bytes ≡ front ++ rest
  pub spelled : Spells g front value

-- how many bytes of a file pass the limit of a history
abbrev pub over : List ℕ → ℕ
over bytes = length bytes - history_limit

-- a body begins with these whole events, numbered from 1, each of which may follow those before it; and with them a history is within its
-- limits, where so many bytes of the file pass them
pub record IsFront (over : ℕ) (body : List ℕ) (seen : List Event) (rest : List ℕ) : Type 0 where
  pub begins : Begins (events (length seen) 1) seen body rest
  pub follow : EachMayFollow [] seen
  pub few : length seen ≤ event_limit
  pub small : over ≤ length rest

-- and it is the longest such list: every other one is a front of it
pub record IsLongestFront (over : ℕ) (body : List ℕ) (seen : List Event) (rest : List ℕ) : Type 0 where
  pub front : IsFront over body seen rest
  pub longest : (others : List Event) (left : List ℕ) → IsFront over body others left → (more : List Event) × (seen ≡ others ++ more)
