-- which calls last with their reply, by their procedure
use Rattle.std.proofs.Common.{◌≡◌, ◌==◌, ◌&&◌, not, refl}
use Rattle.nfs3_types.specs.Procedures.{number, asked_for, changes_the_tree}
use Rattle.nfs3_types.specs.declared.procedures.Procedure.TheVariants.{Write}
use Rattle.nfs3_types.specs.declared.calls.NfsCall.{NfsCall}
use Rattle.nfs3_types.specs.declared.calls.NfsCall.TheVariants as calls
use Rattle.cut_check.specs.Effect.{is_synchronous}

pub synchronous_as : (call : NfsCall) → (changes_the_tree (number (asked_for call)) && not (number (asked_for call) == number Write)) ≡ is_synchronous call
synchronous_as (calls.GetAttr a) = refl
synchronous_as (calls.SetAttr a) = refl
synchronous_as (calls.Lookup a) = refl
synchronous_as (calls.ReadLink a) = refl
synchronous_as (calls.Read a) = refl
synchronous_as (calls.Write a) = refl
synchronous_as (calls.Create a) = refl
synchronous_as (calls.MkDir a) = refl
synchronous_as (calls.SymLink a) = refl
synchronous_as (calls.Remove a) = refl
synchronous_as (calls.RmDir a) = refl
synchronous_as (calls.Rename a) = refl
synchronous_as (calls.ReadDir a) = refl
synchronous_as (calls.ReadDirPlus a) = refl
synchronous_as (calls.Commit a) = refl
