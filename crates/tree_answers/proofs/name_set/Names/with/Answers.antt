use Rattle.std.proofs.Common.{◌≡◌, ◌++◌, ◌∷◌, [], sym, ap, ◌∙◌, subst}
use Rattle.std.specs.Prelude.{not, ◌&&◌}
use Rattle.tree_answers.specs.Listing.{is_among, are_distinct}
use Rattle.tree_answers.specs.Held.{HasNames}
use Rattle.tree_answers.proofs.Distinct.{has_more, distinct_more}
use Rattle.tree_answers.proofs.name_set.Names.with.Goals as goal
use Rattle.tree_answers.proofs.name_set.Names.with.Goals.{then-no_repeat, else-no_repeat}

pub invariant_of-result : goal.invariant_of-result
invariant_of-result c =
    let names = c.self.inside.list.items in
    let name = c.args.name.now in
    let key = c.in_ok-from_slice.field-0 in
    let list : c.push.new.self.items ≡ names ++ name ∷ [] = c.in_ok-push.ensures.items ∙ ap (λ x. names ++ x ∷ []) c.in_ok-from_slice-2.ensures in
    let more = has_more c.self.inside.set c.insert.new.self names key c.self.invariant.0 c.in_ok-is_new.ensures.updates.0 in
    let has : HasNames c.insert.new.self (names ++ name ∷ []) = subst (λ k. HasNames c.insert.new.self (names ++ k ∷ [])) c.in_ok-from_slice.ensures more in
    let new : c.in_ok-is_new.is_new ≡ not (is_among names name) = c.in_ok-is_new.ensures.added ∙ ap not (c.self.invariant.0 key) ∙ ap (λ k. not (is_among names k)) c.in_ok-from_slice.ensures in
    let both : c.if-no_repeat.result ≡ (c.self.inside.no_repeat && c.in_ok-is_new.is_new) =
    elim c.if-no_repeat.branch [ then-no_repeat w ↦ w.result-is ∙ sym (ap (λ b. b && c.in_ok-is_new.is_new) w.if-no_repeat.true) | else-no_repeat w ↦ w.result-is ∙ w.if-no_repeat.false ∙ sym (ap (λ b. b && c.in_ok-is_new.is_new) w.if-no_repeat.false) ] in
    let flag : c.if-no_repeat.result ≡ are_distinct (names ++ name ∷ []) =
    both ∙ ap (λ b. b && c.in_ok-is_new.is_new) c.self.invariant.1 ∙ ap (λ b. are_distinct names && b) new ∙ sym (distinct_more names name) in
    (subst (HasNames c.insert.new.self) (sym list) has, flag ∙ ap are_distinct (sym list))
