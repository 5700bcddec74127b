-- which calls change the tree, by their procedure
use Rattle.std.proofs.Common.{◌≡◌, not, refl}
use Rattle.nfs3_types.specs.Procedures.{number, asked_for, changes_the_tree}
use Rattle.nfs3_types.specs.declared.calls.NfsCall.{NfsCall}
use Rattle.nfs3_types.specs.declared.calls.NfsCall.TheVariants as calls
use Rattle.tree_laws.specs.Leaving.{only_looks}

pub changes_as : (call : NfsCall) → changes_the_tree (number (asked_for call)) ≡ not (only_looks call)
changes_as (calls.GetAttr a) = refl
changes_as (calls.SetAttr a) = refl
changes_as (calls.Lookup a) = refl
changes_as (calls.ReadLink a) = refl
changes_as (calls.Read a) = refl
changes_as (calls.Write a) = refl
changes_as (calls.Create a) = refl
changes_as (calls.MkDir a) = refl
changes_as (calls.SymLink a) = refl
changes_as (calls.Remove a) = refl
changes_as (calls.RmDir a) = refl
changes_as (calls.Rename a) = refl
changes_as (calls.ReadDir a) = refl
changes_as (calls.ReadDirPlus a) = refl
changes_as (calls.Commit a) = refl
