-- Believed.
-- which failures are permitted: RFC 1813, section 2.6 on statuses, and section 3.3 by procedure
use Rattle.std.specs.Prelude.{ℕ, ◌==◌, Bool, not, ◌&&◌, ◌||◌, List, [], ◌∷◌}
use Rattle.std.specs.List.{list_any}
use Rattle.nfs3_types.specs.declared.calls.NfsCall.{NfsCall}
use Rattle.nfs3_types.specs.declared.status.Failure.{Failure}
use Rattle.nfs3_types.specs.declared.status.Failure.TheVariants as status
use Rattle.nfs3_types.specs.Numbers.{status_number}
use Rattle.tree_handles.specs.tree_nodes_specs.Tree.{Tree}
use Rattle.tree_answers.specs.declared.failure.Cause.{Cause}
use Rattle.tree_answers.specs.declared.failure.Cause.TheVariants as cause
use Rattle.tree_handles.specs.Binding.{Bindings}
use Rattle.tree_answers.specs.Asked.{is_listing_call}
use Rattle.tree_answers.specs.Causes as when
use Rattle.tree_answers.specs.RenameCauses as when_renamed

abbrev pub same_status : Failure → Failure → Bool
same_status a b = status_number a == status_number b

-- a cause: when it holds, and the statuses that it permits
pub record Row : Type 0 where
  pub holds : Bindings → Tree → NfsCall → Bool
  pub statuses : List Failure

-- the table of causes: RFC 1813, section 3.3.x at each procedure that a line speaks of. INVAL is never judged; it stands for a server's choice
abbrev pub row : Cause → Row
row cause.HandleIsntLive = record { holds = when.handle_isnt_live; statuses = status.Stale ∷ status.BadHandle ∷ [] }  -- section 2.6
row cause.HandleOfNoDirectory = record { holds = when.handle_of_no_directory; statuses = status.NotDirectory ∷ [] }  -- section 2.6
row cause.ReadLinkOfNoLink = record { holds = when.readlink_of_no_link; statuses = status.Invalid ∷ [] }  -- section 3.3.5
row cause.FileIsDirectory = record { holds = when.file_is_directory; statuses = status.IsDirectory ∷ status.Invalid ∷ [] }  -- sections 3.3.2, 3.3.6, 3.3.7, 3.3.21
row cause.FileIsLink = record { holds = when.file_is_link; statuses = status.Invalid ∷ [] }  -- sections 3.3.2, 3.3.6, 3.3.7, 3.3.21
row cause.NameIsAbsent = record { holds = when.name_is_absent; statuses = status.NoEntry ∷ [] }  -- sections 3.3.3, 3.3.12 to 3.3.14
row cause.NameIsPresent = record { holds = when.name_is_present; statuses = status.Exists ∷ [] }  -- sections 3.3.8 to 3.3.10
row cause.CreateOverDirectory = record { holds = when.create_over_directory; statuses = status.IsDirectory ∷ [] }  -- section 3.3.8
row cause.RemoveOfDirectory = record { holds = when.remove_of_directory; statuses = status.IsDirectory ∷ status.Invalid ∷ [] }  -- section 3.3.12
row cause.RmDirOfNoDirectory = record { holds = when.rmdir_of_no_directory; statuses = status.NotDirectory ∷ [] }  -- section 3.3.13
row cause.RmDirOfFilledDirectory = record { holds = when.rmdir_of_filled_directory; statuses = status.NotEmpty ∷ status.Exists ∷ [] }  -- section 3.3.13
row cause.RenameOntoNoDirectory = record { holds = when_renamed.rename_onto_no_directory; statuses = status.Exists ∷ status.NotDirectory ∷ [] }  -- section 3.3.14
row cause.RenameOntoDirectory = record { holds = when_renamed.rename_onto_directory; statuses = status.Exists ∷ status.IsDirectory ∷ [] }  -- section 3.3.14
row cause.RenameOntoFilledDirectory = record { holds = when_renamed.rename_onto_filled_directory; statuses = status.NotEmpty ∷ status.Exists ∷ [] }  -- section 3.3.14
row cause.RenameBelowItself = record { holds = when_renamed.rename_below_itself; statuses = status.Invalid ∷ [] }  -- section 3.3.14
row cause.NameIsntPlain = record { holds = λ _ _. when.name_isnt_plain; statuses = status.Invalid ∷ status.Exists ∷ status.NoEntry ∷ status.IsDirectory ∷ status.NotEmpty ∷ [] }  -- sections 3.3.3, 3.3.8 to 3.3.14
row cause.NameHasOddByte = record { holds = λ _ _. when.name_has_odd_byte; statuses = status.Invalid ∷ [] }  -- sections 3.3.3, 3.3.8 to 3.3.14
row cause.SetAttrWithGuard = record { holds = λ _ _. when.setattr_with_guard; statuses = status.NotSynchronized ∷ [] }  -- section 3.3.2
row cause.ListingWithCookie = record { holds = λ _ _. when.listing_with_cookie; statuses = status.BadCookie ∷ [] }  -- sections 3.3.16, 3.3.17
row cause.AnyListing = record { holds = λ _ _. is_listing_call; statuses = status.TooSmall ∷ [] }  -- sections 3.3.16, 3.3.17

-- the causes in the table's order
abbrev pub causes : List Cause
causes =
    cause.HandleIsntLive ∷ cause.HandleOfNoDirectory ∷ cause.ReadLinkOfNoLink ∷ cause.FileIsDirectory ∷ cause.FileIsLink ∷ cause.NameIsAbsent ∷ cause.NameIsPresent
    ∷ cause.CreateOverDirectory ∷ cause.RemoveOfDirectory ∷ cause.RmDirOfNoDirectory ∷ cause.RmDirOfFilledDirectory ∷ cause.RenameOntoNoDirectory
    ∷ cause.RenameOntoDirectory ∷ cause.RenameOntoFilledDirectory ∷ cause.RenameBelowItself ∷ cause.NameIsntPlain ∷ cause.NameHasOddByte ∷ cause.SetAttrWithGuard
    ∷ cause.ListingWithCookie ∷ cause.AnyListing ∷ []

-- the statuses that are judged; every other one may answer any call
abbrev pub judged_statuses : List Failure
judged_statuses =
    status.NoEntry ∷ status.Exists ∷ status.NotDirectory ∷ status.IsDirectory ∷ status.NotEmpty ∷ status.Stale ∷ status.BadHandle ∷ status.NotSynchronized
    ∷ status.BadCookie ∷ status.TooSmall ∷ []

abbrev pub is_judged_status : Failure → Bool
is_judged_status failure = list_any (same_status failure) judged_statuses

abbrev pub is_caused_by : Bindings → Tree → NfsCall → Failure → Cause → Bool
is_caused_by binds tree call failure why = list_any (same_status failure) (row why).statuses && (row why).holds binds tree call

-- a failure is permitted where its status is excused, or stands beside a cause that holds
abbrev pub is_permitted : Bindings → Tree → NfsCall → Failure → Bool
is_permitted binds tree call failure = not (is_judged_status failure) || list_any (is_caused_by binds tree call failure) causes
