-- Believed.
-- The eras of a plan as lists of calls: those ahead of the cut, and those that the crash takes away.
use Rattle.std.specs.Prelude.{List, [], ◌∷◌, map, take, drop}
use Rattle.certificate.specs.declared.plan.EraPlan.{EraPlan}
use Rattle.certificate.specs.Plan.{call_of, cut_of}
use Rattle.decision_core.specs.Eras.{PlanEra}

abbrev pub cut_era : EraPlan → PlanEra
cut_era era = record { kept = map call_of (take (cut_of era) era.places); lost = map call_of (drop (cut_of era) era.places) }

-- no crash ends the last era: all of it is kept
abbrev pub whole_era : EraPlan → PlanEra
whole_era era = record { kept = map call_of era.places; lost = [] }

abbrev pub eras_of_plan : List EraPlan → List PlanEra
eras_of_plan [] = []
eras_of_plan (era ∷ []) = whole_era era ∷ []
eras_of_plan (era ∷ next ∷ eras) = cut_era era ∷ eras_of_plan (next ∷ eras)
