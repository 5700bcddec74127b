-- Believed.
-- The calls at an era's places: each answered judged call with its reply, and the object that its handle names (Herlihy and Wing
-- 1990, section 2: an operation and the response that matches it; handles: RFC 1813, `nfs_fh3`).
use Rattle.std.specs.Prelude.{ℕ, zero, suc, List, map, Option, Some, None, option_and_then}
use Rattle.std.specs.List.{slice_get}
use Rattle.std.specs.Option.{option_map_or}
use Rattle.nfs3_types.specs.declared.calls.NfsCall.{NfsCall}
use Rattle.nfs3_types.specs.declared.calls.NfsCall.TheVariants as calls
use Rattle.nfs3_types.specs.declared.replies.Outcome.{Outcome}
use Rattle.nfs_history.specs.declared.recorded.Meaning.{Meaning}
use Rattle.nfs_history.specs.declared.recorded.Meaning.TheVariants as meanings
use Rattle.nfs_history.specs.declared.recorded.RecordedCall.{RecordedCall}
use Rattle.nfs_history.specs.Precedence.{call_at}
use Rattle.certificate.specs.declared.plan.Bind.{Bind}
use Rattle.certificate.specs.declared.plan.Place.{Place}
use Rattle.certificate.specs.declared.plan.Place.TheVariants.{Answered, Taken}
use Rattle.certificate.specs.declared.plan.EraPlan.{EraPlan}
use Rattle.tree_handles.specs.Binding.{Bindings, object_of}
use Rattle.cut_check.specs.declared.effect.Effect.{Effect}
use Rattle.cut_check.specs.declared.effect.Effect.TheVariants.{Nothing}
use Rattle.cut_check.specs.Effect.{effect_of}

-- what each handle names: the root's object 0, another the object of its bind
abbrev pub bindings_of : List ℕ → List Bind → Bindings
bindings_of root binds = record { root = root; pairs = map (λ bind. (bind.handle, bind.object)) binds }

-- era e of a plan, from 1 on
abbrev pub era_at : List EraPlan → ℕ → Option EraPlan
era_at eras zero = None
era_at eras (suc k) = slice_get eras k

abbrev pub answered_with : Meaning → Option Outcome → Option (NfsCall × Outcome)
answered_with (meanings.Judged call) (Some outcome) = Some (call, outcome)
answered_with meaning outcome = None

-- the judged call at a place, as it came out; none of it at a place whose call got no reply
abbrev pub answered_at : List RecordedCall → Place → Option (NfsCall × Outcome)
answered_at calls (Answered n) = option_and_then (λ call. answered_with call.meaning call.outcome) (call_at calls n)
answered_at calls (Taken n count) = None

-- the object that the handle of a WRITE or a COMMIT names
abbrev pub object_written : Bindings → NfsCall → Option ℕ
object_written binds (calls.Write a) = object_of binds a.file
object_written binds (calls.Commit a) = object_of binds a.file
object_written binds call = None

-- what a place means for stable storage: nothing, where no reply came
abbrev pub effect_at : Bindings → List RecordedCall → Place → Effect
effect_at binds calls place = option_map_or (λ a. effect_of (object_written binds a.0) a.0 a.1) (answered_at calls place) Nothing

abbrev pub effects_of : Bindings → List RecordedCall → List Place → List Effect
effects_of binds calls places = map (effect_at binds calls) places
