-- Where a search found nothing, nothing was refused.
use Rattle.std.proofs.Common.{◌≡◌, subst}
use Rattle.judging_commands.specs.declared.search.Miss.{Miss}
use Rattle.judging_commands.specs.declared.search.Miss.TheVariants as misses
use Rattle.judging_commands.specs.Missed.{IsRefusal}

pub not_found : (miss : Miss) → miss ≡ misses.NotFound → IsRefusal miss → ⊥
not_found miss e refused = subst (λ m. IsRefusal m) e refused

pub out_of_turns : (miss : Miss) → miss ≡ misses.OutOfTurns → IsRefusal miss → ⊥
out_of_turns miss e refused = subst (λ m. IsRefusal m) e refused

pub out_of_time : (miss : Miss) → miss ≡ misses.OutOfTime → IsRefusal miss → ⊥
out_of_time miss e refused = subst (λ m. IsRefusal m) e refused
