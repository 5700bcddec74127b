-- Of a file that holds no history its first fault is told.
use Rattle.std.proofs.Common.{◌≡◌, ◌⊎◌, inl, inr, Result, Ok, Err, refl, sym, ap, subst, ◌∙◌}
use Rattle.nfs_history.specs.declared.fault.HistoryFault.{HistoryFault}
use Rattle.nfs_history.specs.declared.fault.HistoryFault.TheVariants as histories
use Rattle.nfs_history.specs.Answers.{IsThatOrNoMemory, IsFineOrNoMemory}
use Rattle.serving_commands.specs.declared.fault.RunFault.{RunFault}
use Rattle.serving_commands.specs.declared.fault.RunFault.TheVariants as faults
use Rattle.serving_commands.specs.Told.{start_told, IsBadStart, IsWant}

start_said : (fault : HistoryFault) → IsBadStart fault (start_told fault)
start_said histories.BadMagic = inl refl
start_said histories.TooLarge = inl refl
start_said histories.Truncated = inl refl
start_said (histories.BadEvent n) = inl refl
start_said histories.Trailing = inl refl
start_said (histories.BadStart n) = inl refl
start_said histories.BadProfile = inl refl
start_said (histories.LaneClosed n) = inl refl
start_said (histories.BadRpc n) = inl refl
start_said (histories.XidInUse n) = inl refl
start_said (histories.NoSuchCall n) = inl refl
start_said (histories.Sealed n) = inl refl
start_said (histories.BadArgs n) = inl refl
start_said (histories.BadResult n) = inl refl
start_said (histories.Outside n which) = inl refl
start_said histories.NoMemory = inr refl

pub told_start : {X : Type 0} (r : Result X HistoryFault) (fault named : HistoryFault) (told : RunFault) → r ≡ Err fault → told ≡ start_told fault → IsThatOrNoMemory named r → IsBadStart named told
told_start r fault named told is gives either = go (subst (IsThatOrNoMemory named) is either) where
  go : (fault ≡ histories.NoMemory) ⊎ (fault ≡ named) → IsBadStart named told
  go (inl none) = inr (gives ∙ ap start_told none)
  go (inr same) = subst (IsBadStart named) (sym (gives ∙ ap start_told same)) (start_said named)

pub told_want : {X : Type 0} (r : Result X HistoryFault) (fault : HistoryFault) (told : RunFault) → r ≡ Err fault → told ≡ start_told fault → IsFineOrNoMemory r → IsWant told
told_want r fault told is gives fine = gives ∙ ap start_told (subst IsFineOrNoMemory is fine)
