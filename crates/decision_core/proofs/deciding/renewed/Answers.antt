use Rattle.std.proofs.Common.{rules, ◌≡◌, ◌⊎◌, inl, inr, [], ◌∷◌, ◌++◌, Contains, subst}
use Rattle.std.proofs.lemmas.List.Elements.{Contains-append_cases}
use Rattle.decision_core.specs.States.{Replaces}
use Rattle.decision_core.proofs.Sets.{first_or_rest, none_there, for_grows, grows_by_one, one_is_there}
use Rattle.decision_core.proofs.deciding.renewed.Goals as goal

pub returns-clause-has : goal.returns-clause-has
returns-clause-has g c = λ state there.
    let split : c.args.states.items ≡ c.pop.new.self.items ++ c.in-Some.first ∷ [] = search rules in
    let put : c.put_renewed.new.after.items ≡ c.in_ok-after.after.items ++ c.in_ok-renewed.renewed ∷ [] = search rules in
    let replaces : Replaces (g.M.Machine.StandsFor c.args.machine.now) c.in-Some.first c.in_ok-renewed.renewed = search rules in
    elim (Contains-append_cases c.pop.new.self.items (c.in-Some.first ∷ []) state (subst (λ l. Contains l state) split there)) [
      | inl ahead ↦ for_grows (g.M.Machine.StandsFor c.args.machine.now) c.in_ok-after.after.items c.put_renewed.new.after.items state (grows_by_one c.in_ok-after.after.items c.put_renewed.new.after.items c.in_ok-renewed.renewed put) (c.in_ok-after.ensures.has state ahead)
      | inr last ↦ elim (first_or_rest c.in-Some.first [] state last) [
        | inl same ↦ (c.in_ok-renewed.renewed, one_is_there c.in_ok-after.after.items c.put_renewed.new.after.items c.in_ok-renewed.renewed put, subst (λ s. Replaces (g.M.Machine.StandsFor c.args.machine.now) s c.in_ok-renewed.renewed) same replaces)
        | inr none ↦ absurd (none_there state none)
      ]
    ]
