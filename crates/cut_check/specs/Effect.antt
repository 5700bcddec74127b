-- Believed.
-- What a placed call means for stable storage, by its reply (RFC 1813, section 4.7: a call that modifies data is on stable
-- storage when it is answered; sections 3.3.7 and 3.3.21: but for a WRITE that was answered UNSTABLE, which a COMMIT puts there).
use Rattle.std.specs.Prelude.{◌&&◌, ℕ, Bool, true, false, if◌then◌else◌, Option, Some, None}
use Rattle.nfs3_types.specs.declared.calls.NfsCall.{NfsCall}
use Rattle.nfs3_types.specs.declared.calls.NfsCall.TheVariants as calls
use Rattle.nfs3_types.specs.declared.calls.StableHow.{StableHow}
use Rattle.nfs3_types.specs.declared.calls.StableHow.TheVariants as levels
use Rattle.nfs3_types.specs.declared.replies.WriteSuccess.{WriteSuccess}
use Rattle.nfs3_types.specs.declared.replies.Outcome.{Outcome}
use Rattle.nfs_history.specs.Success.{write_success, commit_success, succeeded}
use Rattle.cut_check.specs.declared.effect.Effect.{Effect}
use Rattle.cut_check.specs.declared.effect.Effect.TheVariants.{Nothing, Lasting, Unstable, Committed}

-- the calls that change the tree or an object, but for WRITE
abbrev pub is_synchronous : NfsCall → Bool
is_synchronous (calls.SetAttr a) = true
is_synchronous (calls.Create a) = true
is_synchronous (calls.MkDir a) = true
is_synchronous (calls.SymLink a) = true
is_synchronous (calls.Remove a) = true
is_synchronous (calls.RmDir a) = true
is_synchronous (calls.Rename a) = true
is_synchronous call = false

-- of bytes of an object; a handle that names none has none
abbrev pub of_object : (ℕ → Effect) → Option ℕ → Effect
of_object effect None = Nothing
of_object effect (Some object) = effect object

-- a level of DATA_SYNC or FILE_SYNC puts the WRITE on stable storage; one of UNSTABLE leaves open what it had (section 3.3.7)
abbrev pub at_level : StableHow → Effect → Effect
at_level levels.Unstable effect = effect
at_level levels.DataSync effect = Lasting
at_level levels.FileSync effect = Lasting

-- as many bytes from the offset on as the reply counts
abbrev pub effect_of_write : Option ℕ → ℕ → WriteSuccess → Effect
effect_of_write object offset success = at_level success.level (of_object (λ named. Unstable named offset success.count) object)

-- a failed WRITE or COMMIT means nothing
abbrev pub where_done : {S : Type 0} → (S → Effect) → Option S → Effect
where_done effect None = Nothing
where_done effect (Some success) = effect success

-- what a call means that came out so, where its handle names this object
abbrev pub effect_of : Option ℕ → NfsCall → Outcome → Effect
effect_of object (calls.Write a) outcome = where_done (effect_of_write object a.offset) (write_success outcome)
effect_of object (calls.Commit a) outcome = where_done (λ success. of_object (λ named. Committed named a.offset a.count) object) (commit_success outcome)
effect_of object call outcome = if is_synchronous call && succeeded call outcome then Lasting else Nothing
