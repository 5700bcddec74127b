-- Believed.
-- What a certificate claims. There is one serial order for the whole history: the places of the first era,
-- then those of the second, and so on (Herlihy and Wing 1990, section 2). At a crash the first `cut` places of
-- the era survive (buffered durable linearizability, Izraelevitz, Mendes and Scott 2016, with a prefix of the
-- order where they have a consistent cut).
use Rattle.std.specs.Prelude.{ℕ, length, unwrap_or}
use Rattle.certificate.specs.declared.plan.Place.{Place}
use Rattle.certificate.specs.declared.plan.Place.TheVariants.{Answered, Taken}
use Rattle.certificate.specs.declared.plan.EraPlan.{EraPlan}

-- the call that stands at a place
abbrev pub call_of : Place → ℕ
call_of (Answered n) = n
call_of (Taken n count) = n

-- how many places of an era survive the crash behind it: of the last era, which no crash ended, all
abbrev pub cut_of : EraPlan → ℕ
cut_of era = unwrap_or era.cut (length era.places)
