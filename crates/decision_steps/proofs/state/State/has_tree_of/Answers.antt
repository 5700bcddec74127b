use Rattle.std.proofs.Common.{rules, ◌≡◌, ◌⊎◌, inr, ℕ, List, Contains, sym, ◌∙◌, subst}
use Rattle.tree_nodes.specs.Spots.{AreOthersSame}
use Rattle.decision_steps.proofs.Differences.{rest_same}
use Rattle.decision_steps.proofs.state.State.has_tree_of.Goals as goal

pub returns-in-Ok : goal.returns-in-Ok
returns-in-Ok c = λ last.
    let one : c.args.self.now.tree ≡ c.deref-in-Ok.result.now = search rules in
    let two : c.args.other.now.tree ≡ c.deref-in-Ok-2.result.now = search rules in
    let ours : c.self.inside.tree.value ≡ c.deref-in-Ok.result.now = search rules in
    let theirs : c.other.inside.tree.value ≡ c.deref-in-Ok-2.result.now = search rules in
    let first : c.self.inside.difference.value.objects ≡ c.as_slice-objects.result.now = search rules in
    let second : c.as_slice-others.result.now ≡ c.other.inside.difference.value.objects = search rules in
    let same : c.self.inside.difference.value.origin ≡ c.other.inside.difference.value.origin = search rules in
    let rest : c.in-Ok.rest.items ≡ c.as_slice.result.now = search rules in
    let left = subst (λ (l : List ℕ). (o : ℕ) → Contains l o → Contains c.as_slice-objects.result.now o ⊎ Contains c.in-Ok.rest.items o) second c.in-Ok.ensures in
    let others = rest_same c.self.inside.difference.value c.other.inside.difference.value same c.self.inside.tree.value c.other.inside.tree.value c.self.invariant.0 c.other.invariant.0 c.in-Ok.rest.items
    (subst (λ (l : List ℕ). (o : ℕ) → Contains c.other.inside.difference.value.objects o → Contains l o ⊎ Contains c.in-Ok.rest.items o) (sym first) left) in
    one ∙ c.is_same_at.ensures last (subst (λ (l : List ℕ). AreOthersSame c.as_slice-objects.result.now l c.deref-in-Ok.result.now c.deref-in-Ok-2.result.now) rest (subst (λ (l : List ℕ). AreOthersSame l c.in-Ok.rest.items c.deref-in-Ok.result.now c.deref-in-Ok-2.result.now) first
    (subst (λ t. AreOthersSame c.self.inside.difference.value.objects c.in-Ok.rest.items t c.deref-in-Ok-2.result.now) ours
    (subst (λ t. AreOthersSame c.self.inside.difference.value.objects c.in-Ok.rest.items c.self.inside.tree.value t) theirs others)))) ∙ sym two

pub returns-in-Err : goal.returns-in-Err
returns-in-Err c = λ last.
    let one : c.args.self.now.tree ≡ c.deref-in-Err.result.now = search rules in
    let two : c.args.other.now.tree ≡ c.deref-in-Err-2.result.now = search rules in
    let ours : c.self.inside.tree.value ≡ c.deref-in-Err.result.now = search rules in
    let theirs : c.other.inside.tree.value ≡ c.deref-in-Err-2.result.now = search rules in
    let first : c.self.inside.difference.value.objects ≡ c.as_slice-objects.result.now = search rules in
    let second : c.as_slice-others.result.now ≡ c.other.inside.difference.value.objects = search rules in
    let same : c.self.inside.difference.value.origin ≡ c.other.inside.difference.value.origin = search rules in
    let left : (o : ℕ) → Contains c.other.inside.difference.value.objects o → Contains c.as_slice-objects.result.now o ⊎ Contains c.as_slice-others.result.now o =
    λ o there. inr (subst (λ (l : List ℕ). Contains l o) (sym second) there) in
    let others = rest_same c.self.inside.difference.value c.other.inside.difference.value same c.self.inside.tree.value c.other.inside.tree.value c.self.invariant.0 c.other.invariant.0 c.as_slice-others.result.now
    (subst (λ (l : List ℕ). (o : ℕ) → Contains c.other.inside.difference.value.objects o → Contains l o ⊎ Contains c.as_slice-others.result.now o) (sym first) left) in
    one ∙ c.is_same_at-in-Err.ensures last ((subst (λ (l : List ℕ). AreOthersSame l c.as_slice-others.result.now c.deref-in-Err.result.now c.deref-in-Err-2.result.now) first
    (subst (λ t. AreOthersSame c.self.inside.difference.value.objects c.as_slice-others.result.now t c.deref-in-Err-2.result.now) ours
    (subst (λ t. AreOthersSame c.self.inside.difference.value.objects c.as_slice-others.result.now c.self.inside.tree.value t) theirs others)))) ∙ sym two
