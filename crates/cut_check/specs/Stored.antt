-- For the prover.
-- What a call means for stable storage, by what a history says of it without its bytes: what the code's private functions say to
-- the prover.
use Rattle.std.specs.Prelude.{◌&&◌, ℕ, nat_lt, Bool, false, if◌then◌else◌, Option, Some, None, is_some, option_and_then}
use Rattle.std.specs.Option.{option_map_or}
use Rattle.nfs3_types.specs.declared.calls.StableHow.{StableHow}
use Rattle.nfs_history.specs.declared.recorded.RecordedCall.{RecordedCall}
use Rattle.nfs_history.specs.Storage.{StorageValue, storage_in, has_succeeded}
use Rattle.tree_handles.specs.Binding.{Bindings, object_of}
use Rattle.cut_check.specs.declared.effect.Effect.{Effect}
use Rattle.cut_check.specs.declared.effect.Effect.TheVariants.{Nothing, Lasting, Unstable, Committed}
use Rattle.cut_check.specs.Effect.{of_object, at_level}

-- of a WRITE by the level of its reply, of a COMMIT, which has none
abbrev pub effect_by_level : Option StableHow → Option ℕ → ℕ → ℕ → Effect
effect_by_level (Some level) object offset count = at_level level (of_object (λ named. Unstable named offset count) object)
effect_by_level None object offset count = of_object (λ named. Committed named offset count) object

abbrev pub effect_of_storage : Option ℕ → StorageValue → Effect
effect_of_storage object s = effect_by_level s.level object s.offset s.count

-- of a WRITE or a COMMIT: nothing, where it didn't succeed
abbrev pub effect_of_stored : Bindings → Option RecordedCall → Effect
effect_of_stored binds found = option_map_or (λ s. effect_of_storage (object_of binds s.file) s) (option_and_then storage_in found) Nothing

-- of another call that changes the tree or an object
abbrev pub effect_of_changing : Option RecordedCall → Effect
effect_of_changing found = if option_map_or has_succeeded found false then Lasting else Nothing

-- a WRITE of at least one byte
abbrev pub brought_bytes : StorageValue → Bool
brought_bytes s = is_some s.level && nat_lt 0 s.count
