-- For the prover, and for callers.
-- a run in which each procedure that changes the tree succeeds, one that only looks does too, and one fails; and a run behind a start
use Rattle.std.specs.Prelude.{ℕ, List, [], ◌∷◌, IsSome, Some, None, true}
use Rattle.nfs3_types.specs.declared.attributes.FileAttributes.{FileAttributes}
use Rattle.nfs3_types.specs.declared.attributes.FileType.TheVariants.{Regular}
use Rattle.nfs3_types.specs.declared.attributes.SetAttributes.{SetAttributes}
use Rattle.nfs3_types.specs.declared.attributes.SetTime.TheVariants as times
use Rattle.nfs3_types.specs.declared.attributes.Time.{Time}
use Rattle.nfs3_types.specs.declared.attributes.WccData.{WccData}
use Rattle.nfs3_types.specs.declared.calls.CreateMode.TheVariants.{Exclusive}
use Rattle.nfs3_types.specs.declared.calls.StableHow.TheVariants.{FileSync}
use Rattle.nfs3_types.specs.declared.calls.DirectoryName.{DirectoryName}
use Rattle.nfs3_types.specs.declared.calls.NfsCall.{NfsCall}
use Rattle.nfs3_types.specs.declared.calls.NfsCall.TheVariants as calls
use Rattle.nfs3_types.specs.declared.replies.Answer.TheVariants.{Done, Failed}
use Rattle.nfs3_types.specs.declared.replies.NfsReply.TheVariants as replies
use Rattle.nfs3_types.specs.declared.replies.Outcome.{Outcome}
use Rattle.nfs3_types.specs.declared.replies.Outcome.TheVariants as outcomes
use Rattle.nfs3_types.specs.declared.status.Failure.TheVariants.{NoEntry}
use Rattle.replay_law.specs.Run.{TakenStep, state_after}
use Rattle.tree_starts.specs.Start.{IsStart}
use Rattle.tree_starts.specs.declared.object.StartObject.{StartObject}
use Rattle.tree_starts.specs.declared.object.StartNode.TheVariants as kinds
use Rattle.tree_starts.specs.declared.profile.Profile.TheVariants.{Strict}
use Rattle.tree_nodes.specs.Tree.{opening}
use Rattle.tree_handles.specs.Binding.{Bindings}
use Rattle.file_tree.specs.Setting.{next_in}
use Rattle.file_tree.specs.StartTree.{start_tree}
use Rattle.file_tree.specs.Success.{next_tree}
use Rattle.tree_laws.specs.Outcomes.{step}

-- the handles of the root, of the file that call 1 makes and of the directory that call 8 makes
abbrev pub handles : Bindings
handles = record { root = 0 ∷ []; pairs = (1 ∷ [], 1) ∷ (2 ∷ [], 8) ∷ [] }

abbrev pub in_root : List ℕ → DirectoryName
in_root name = record { directory = 0 ∷ []; name = name }

abbrev pub in_directory : List ℕ → DirectoryName
in_directory name = record { directory = 2 ∷ []; name = name }

abbrev pub as_it_is : SetAttributes
as_it_is = record { mode = None; user = None; group = None; size = None; access_time = times.Keep; modify_time = times.Keep }

abbrev pub no_attributes : WccData
no_attributes = record { before = None; after = None }

-- CREATE f; WRITE xyz to it, of which two bytes are written; READ these two; LOOKUP g, which isn't there; SETATTR f to two
-- bytes; MKDIR d; RMDIR d; MKDIR d; RENAME f to d/g; RENAME d to e; SYMLINK l; REMOVE e/g
abbrev pub create : NfsCall
create = calls.Create (record { place = in_root (102 ∷ []); mode = Exclusive (record { value = 7 }) })

abbrev pub write : NfsCall
write = calls.Write (record { file = 1 ∷ []; offset = 1; count = 3; level = FileSync; bytes = 120 ∷ 121 ∷ 122 ∷ [] })

abbrev pub two_written : Outcome
two_written = outcomes.Received (replies.Write (Done (record { wcc = no_attributes; count = 2; level = FileSync; verifier = record { value = 7 } })))

abbrev pub read : NfsCall
read = calls.Read (record { file = 1 ∷ []; offset = 1; count = 2 })

abbrev pub two_read : Outcome
two_read = outcomes.Received (replies.Read (Done (record { attributes = None; count = 2; eof = true; bytes = 120 ∷ 121 ∷ [] })))

abbrev pub look_up : NfsCall
look_up = calls.Lookup (in_root (103 ∷ []))

abbrev pub none_found : Outcome
none_found = outcomes.Received (replies.Lookup (Failed NoEntry None))

abbrev pub set_size : NfsCall
set_size = calls.SetAttr (record { object = 1 ∷ []; attributes = record as_it_is { size = Some 2 }; guard = None })

abbrev pub make_directory : NfsCall
make_directory = calls.MkDir (record { place = in_root (100 ∷ []); attributes = as_it_is })

abbrev pub remove_directory : NfsCall
remove_directory = calls.RmDir (in_root (100 ∷ []))

abbrev pub rename_file : NfsCall
rename_file = calls.Rename (record { from = in_root (102 ∷ []); to = in_directory (103 ∷ []) })

abbrev pub rename_directory : NfsCall
rename_directory = calls.Rename (record { from = in_root (100 ∷ []); to = in_root (101 ∷ []) })

abbrev pub make_link : NfsCall
make_link = calls.SymLink (record { place = in_root (108 ∷ []); attributes = as_it_is; target = 101 ∷ [] })

abbrev pub remove_file : NfsCall
remove_file = calls.Remove (in_directory (103 ∷ []))

abbrev pub unseen : Outcome
unseen = outcomes.Taken None

abbrev pub steps : List (TakenStep NfsCall Outcome)
steps =
    step 1 create unseen ∷ step 2 write two_written ∷ step 3 read two_read ∷ step 4 look_up none_found ∷ step 5 set_size unseen
    ∷ step 6 make_directory unseen ∷ step 7 remove_directory unseen ∷ step 8 make_directory unseen ∷ step 9 rename_file unseen
    ∷ step 10 rename_directory unseen ∷ step 11 make_link unseen ∷ step 12 remove_file unseen ∷ []

-- each of these calls has a next tree
abbrev pub IsRun : Type 0
IsRun = IsSome (state_after (next_tree handles) opening steps)

-- ---- behind a start, under the strict profile

-- the directory d, and in it the file f with the bytes abc
abbrev pub first_objects : List StartObject
first_objects =
    record { parent = 0; name = 100 ∷ []; node = kinds.Directory } ∷ record { parent = 1; name = 102 ∷ []; node = kinds.File (97 ∷ 98 ∷ 99 ∷ []) } ∷ []

-- the handles of the root, of the directory and of the file
abbrev pub first_handles : Bindings
first_handles = record { root = 0 ∷ []; pairs = (1 ∷ [], 1) ∷ (2 ∷ [], 2) ∷ [] }

abbrev pub no_time : Time
no_time = record { seconds = 0; nanoseconds = 0 }

-- the attributes of a file of this size
abbrev pub of_size : ℕ → FileAttributes
of_size size =
    record {
      file_type = Regular;
      mode = 420;
      link_count = 1;
      user = 0;
      group = 0;
      size = size;
      used = size;
      device = record { major = 0; minor = 0 };
      file_system = 0;
      file_number = 2;
      access_time = no_time;
      modify_time = no_time;
      change_time = no_time;
    }

-- READ f, which gives abc; WRITE z behind it; GETATTR f, which is four bytes long
abbrev pub read_first : NfsCall
read_first = calls.Read (record { file = 2 ∷ []; offset = 0; count = 9 })

abbrev pub first_read : Outcome
first_read = outcomes.Received (replies.Read (Done (record { attributes = Some (of_size 3); count = 3; eof = true; bytes = 97 ∷ 98 ∷ 99 ∷ [] })))

abbrev pub write_behind : NfsCall
write_behind = calls.Write (record { file = 2 ∷ []; offset = 3; count = 1; level = FileSync; bytes = 122 ∷ [] })

abbrev pub written_behind : Outcome
written_behind =
    outcomes.Received (replies.Write (Done (record {
      wcc = record { before = Some (record { size = 3; modify_time = no_time; change_time = no_time }); after = Some (of_size 4) };
      count = 1;
      level = FileSync;
      verifier = record { value = 7 };
    })))

abbrev pub get_attributes : NfsCall
get_attributes = calls.GetAttr (2 ∷ [])

abbrev pub four_long : Outcome
four_long = outcomes.Received (replies.GetAttr (Done (of_size 4)))

abbrev pub first_steps : List (TakenStep NfsCall Outcome)
first_steps = step 1 read_first first_read ∷ step 2 write_behind written_behind ∷ step 3 get_attributes four_long ∷ []

-- these objects are a start
abbrev pub StartsRight : Type 0
StartsRight = IsStart first_objects

-- and each of these calls has a next tree behind it
abbrev pub IsRunBehind : Type 0
IsRunBehind = IsSome (state_after (next_in Strict 2 first_handles) (start_tree first_objects) first_steps)
