-- Of bytes that are no history file the first fault is told.
use Rattle.std.proofs.Common.{◌≡◌, ◌⊎◌, inl, inr, Result, Err, refl, sym, ap, subst, ◌∙◌}
use Rattle.nfs_history.specs.declared.fault.HistoryFault.{HistoryFault}
use Rattle.nfs_history.specs.declared.fault.HistoryFault.TheVariants as histories
use Rattle.nfs_history.specs.Answers.{IsThatOrNoMemory}
use Rattle.history_prefix.specs.declared.fault.PrefixFault.{PrefixFault}
use Rattle.history_prefix.specs.Prefix.{told_of, IsRefusalOf}

told_so : (fault : HistoryFault) → IsRefusalOf fault (told_of fault)
told_so histories.NoMemory = tt
told_so fault = refl

pub told_first : {X : Type 0} (r : Result X HistoryFault) (fault named : HistoryFault) (told : PrefixFault) → r ≡ Err fault → told ≡ told_of fault → IsThatOrNoMemory named r → IsRefusalOf named told
told_first r fault named told is gives either = go (subst (IsThatOrNoMemory named) is either) where
  go : (fault ≡ histories.NoMemory) ⊎ (fault ≡ named) → IsRefusalOf named told
  go (inl none) = subst (IsRefusalOf named) (sym (gives ∙ ap told_of none)) tt
  go (inr same) = subst (IsRefusalOf named) (sym (gives ∙ ap told_of same)) (told_so named)
