-- Believed.
-- What a journal server's book holds: the history that it recorded, and its commit order.
use Rattle.std.specs.Prelude.{ℕ, List, ◌++◌, length, map, Option}
use Rattle.nfs3_types.specs.declared.calls.NfsCall.{NfsCall}
use Rattle.nfs3_types.specs.declared.replies.Outcome.{Outcome}
use Rattle.replay_law.specs.Run as run
use Rattle.xdr_records.specs.Texts.{long_text}
use Rattle.tree_starts.specs.Head.{Head}
use Rattle.tree_starts.specs.Start.{object_made}
use Rattle.tree_starts.specs.declared.profile.Profile.{Profile}
use Rattle.nfs_history.specs.HistoryValue.{HistoryValue}
use Rattle.tree_nodes.specs.Tree.{Tree}
use Rattle.tree_handles.specs.Binding.{Bindings}
use Rattle.file_tree.specs.Setting.{next_in}
use Rattle.file_tree.specs.StartTree.{start_tree}
use Rattle.journal.specs.Device.{Device}
use Rattle.book_laws.specs.Placing.{Placed, records_in}

-- whether it takes calls; after a fault of its device it is down until a crash, and after one in a crash for good
pub data Condition : Type 0 where
  running : Condition
  down : Condition
  dead : Condition

pub record Book : Type 0 where
  pub history : HistoryValue
  -- the calls that were placed in each era that is over, in order, and how many of them its crash kept
  pub over : List (run.Era NfsCall Outcome)
  -- those of the era now
  pub placed : List Placed
  -- the numbers of the objects that stood at first, and of those that calls made, rising
  pub made : List ℕ
  pub device : Device
  pub condition : Condition

-- the handle of an object is its number in eight bytes, the highest first
abbrev pub handle_of : ℕ → List ℕ
handle_of object = long_text object

-- what handles name: the root's object 0, and that of each of these objects that object
abbrev pub bindings_made : List ℕ → Bindings
bindings_made made = record { root = handle_of 0; pairs = map (λ object. (handle_of object, object)) made }

abbrev pub bindings : Book → Bindings
bindings book = bindings_made book.made

-- what calls are judged by: how strictly, how many objects stood at first, and what handles name
pub record Setting : Type 0 where
  pub profile : Profile
  pub first : ℕ
  pub binds : Bindings

abbrev pub setting_made : Head → List ℕ → Setting
setting_made head made = record { profile = head.profile; first = length head.start; binds = bindings_made made }

abbrev pub setting : Book → Setting
setting book = setting_made book.history.known.head book.made

-- the number of the object that call n makes
abbrev pub object_by : Setting → ℕ → ℕ
object_by s n = object_made s.first n

abbrev pub object_in : Book → ℕ → ℕ
object_in book n = object_made (length book.history.known.head.start) n

-- the tree after call n, where it can have come out so
abbrev pub next_by : Setting → Tree → ℕ → NfsCall → Outcome → Option Tree
next_by s = next_in s.profile s.first s.binds

-- what stood at first
abbrev pub tree_at_first : Book → Tree
tree_at_first book = start_tree book.history.known.head.start

-- what the calls lead to that were kept of the eras that are over
abbrev pub base : Book → Option Tree
base book = run.state_after (next_by (setting book)) (tree_at_first book) (run.kept_steps book.over)

-- and behind them those placed in the era now
abbrev pub tree_of : Book → Option Tree
tree_of book = run.state_after (next_by (setting book)) (tree_at_first book) (run.kept_steps book.over ++ book.placed)

-- how many records of the eras that are over were kept
abbrev pub records_kept : Book → ℕ
records_kept book = records_in (run.kept_steps book.over)
