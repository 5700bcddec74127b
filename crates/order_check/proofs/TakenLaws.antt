-- A call that is taken as done is one that no reply came to, and its procedure says whether it changes the tree.
use Rattle.std.proofs.Common.{◌≡◌, ℕ, false, Option, Some, None, option_and_then, option_map, refl}
use Rattle.std.proofs.lemmas.Option.{none-some}
use Rattle.std.specs.Prelude.{nat_le}
use Rattle.std.specs.Option.{option_map_or}
use Rattle.nfs3_types.specs.declared.calls.NfsCall.{NfsCall}
use Rattle.nfs3_types.specs.declared.calls.NfsCall.TheVariants as calls
use Rattle.nfs3_types.specs.declared.replies.Outcome.{Outcome}
use Rattle.nfs_history.specs.declared.recorded.Meaning.{Meaning}
use Rattle.nfs_history.specs.declared.recorded.Meaning.TheVariants as meanings
use Rattle.nfs_history.specs.declared.recorded.RecordedCall.{RecordedCall}
use Rattle.nfs_history.specs.Reread.{kind_as, call_kind}
use Rattle.nfs_history.specs.Storage.{brought_as, brought_in}
use Rattle.certificate.specs.declared.plan.Place.TheVariants.{Taken}
use Rattle.order_check.specs.Places.{may_take, may_place, passes}
use Rattle.order_check.specs.Taking.{is_taken_whole}

whole_of : (call : NfsCall) → may_take (meanings.Judged call) None ≡ is_taken_whole (kind_as (meanings.Judged call) None)
whole_of (calls.GetAttr a) = refl
whole_of (calls.SetAttr a) = refl
whole_of (calls.Lookup a) = refl
whole_of (calls.ReadLink a) = refl
whole_of (calls.Read a) = refl
whole_of (calls.Write a) = refl
whole_of (calls.Create a) = refl
whole_of (calls.MkDir a) = refl
whole_of (calls.SymLink a) = refl
whole_of (calls.Remove a) = refl
whole_of (calls.RmDir a) = refl
whole_of (calls.Rename a) = refl
whole_of (calls.ReadDir a) = refl
whole_of (calls.ReadDirPlus a) = refl
whole_of (calls.Commit a) = refl

whole_as : (meaning : Meaning) (outcome : Option Outcome) → may_take meaning None ≡ is_taken_whole (kind_as meaning outcome)
whole_as meanings.Unjudged outcome = refl
whole_as (meanings.Judged call) None = whole_of call
whole_as (meanings.Judged call) (Some outcome) = whole_of call

-- whether the call may be taken with no count is what its kind says
pub taken_whole : (found : Option RecordedCall) → passes (λ call. may_take call.meaning None) found ≡ option_map_or is_taken_whole (option_map call_kind found) false
taken_whole None = refl
taken_whole (Some call) = whole_as call.meaning call.outcome

part_of : (call : NfsCall) (count : ℕ) → may_take (meanings.Judged call) (Some count) ≡ option_map_or (nat_le count) (brought_as (meanings.Judged call)) false
part_of (calls.GetAttr a) count = refl
part_of (calls.SetAttr a) count = refl
part_of (calls.Lookup a) count = refl
part_of (calls.ReadLink a) count = refl
part_of (calls.Read a) count = refl
part_of (calls.Write a) count = refl
part_of (calls.Create a) count = refl
part_of (calls.MkDir a) count = refl
part_of (calls.SymLink a) count = refl
part_of (calls.Remove a) count = refl
part_of (calls.RmDir a) count = refl
part_of (calls.Rename a) count = refl
part_of (calls.ReadDir a) count = refl
part_of (calls.ReadDirPlus a) count = refl
part_of (calls.Commit a) count = refl

part_as : (meaning : Meaning) (count : ℕ) → may_take meaning (Some count) ≡ option_map_or (nat_le count) (brought_as meaning) false
part_as meanings.Unjudged count = refl
part_as (meanings.Judged call) count = part_of call count

-- whether it may be taken with a count is what its bytes say
pub taken_in_part : (found : Option RecordedCall) (count : ℕ)
    → passes (λ call. may_take call.meaning (Some count)) found ≡ option_map_or (nat_le count) (option_and_then brought_in found) false
taken_in_part None count = refl
taken_in_part (Some call) count = part_as call.meaning count

-- a call with a reply isn't taken
pub not_taken : (found : Option RecordedCall) (number : ℕ) (count : Option ℕ) (at : ℕ) → option_and_then (λ call. call.«end») found ≡ Some at
    → passes (may_place (Taken number count)) found ≡ false
not_taken None number count at is = absurd (none-some at is)
not_taken (Some call) number count at is = rw is refl

-- of one without a reply the meaning decides
pub taken_so : (found : Option RecordedCall) (number : ℕ) (count : Option ℕ) → option_and_then (λ call. call.«end») found ≡ None
    → passes (may_place (Taken number count)) found ≡ passes (λ call. may_take call.meaning count) found
taken_so None number count is = refl
taken_so (Some call) number count is = rw is refl
