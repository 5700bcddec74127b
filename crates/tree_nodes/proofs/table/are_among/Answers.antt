use Rattle.std.proofs.Common.{◌≡◌, ℕ, List, sym, ap, ◌∙◌, subst}
use Rattle.std.specs.Prelude.{option_map}
use Rattle.std.specs.Ordering.{nat_cmp}
use Rattle.std.specs.Cmp.Lexicographic.{slice_cmp}
use Rattle.std.specs.BTreeSet.{contains}
use Rattle.tree_nodes.specs.Walk.{Held}
use Rattle.tree_nodes.specs.declared.table.Body.{Body}
use Rattle.tree_nodes.specs.Table.{placed}
use Rattle.tree_nodes.proofs.Chains.{same_some}
use Rattle.tree_nodes.proofs.Listing.{Left, left_all, first_found, one_less}
use Rattle.tree_nodes.proofs.table.are_among.Goals as goal

pub loop-object-init : goal.loop-object-init
loop-object-init c =
    subst (λ (z : List (List ℕ × ℕ)). Left c.args.names.now c.args.here.now z) (sym (c.into_iter-object-iterator.ensures.into_iter_gives ∙ c.iter-object-items.ensures))
    (left_all c.args.names.now c.args.here.now)

pub unreachable-requires : goal.unreachable-requires
unreachable-requires c =
    let here = c.args.here.now in
    let name = c.in-Some.field-0-0.now in
    let left = subst (λ (z : List (List ℕ × ℕ)). Left c.args.names.now here z) c.in-Some.ensures.steps c.loop-object.invariant in
    let first = first_found c.args.names.now here c.next.new.self (name, c.in-Some.object) left in
    let known = c.requires name c.in-Some.object first in
    absurd (cc (known.1, ap (option_map placed) c.in_default.ensures.value))

pub returns-then-not-contains-clause-missing : goal.returns-then-not-contains-clause-missing
returns-then-not-contains-clause-missing c = λ _.
    let here = c.args.here.now in
    let name = c.in-Some.field-0-0.now in
    let left = subst (λ (z : List (List ℕ × ℕ)). Left c.args.names.now here z) c.in-Some.ensures.steps c.loop-object.invariant in
    let first = first_found c.args.names.now here c.next.new.self (name, c.in-Some.object) left in
    let known = c.requires name c.in-Some.object first in
    let same : placed c.in-Some-get.listed.now ≡ known.0 = same_some _ _ (ap (option_map placed) c.in-Some-get.ensures.value ∙ known.1) in (
      name,
      c.in-Some.object,
      first,
      ap (contains (slice_cmp nat_cmp) c.args.names.now) (sym (ap (λ (z : Held). z.1) same ∙ known.2) ∙ ap (λ (z : Body). z.name) (sym c.get-in-loop-object.ensures)) ∙ sym c.contains.ensures ∙ c.if-not-contains.true,
    )

pub loop-object-preserved : goal.loop-object-preserved
loop-object-preserved c =
    let here = c.args.here.now in
    let name = c.in-Some.field-0-0.now in
    let left = subst (λ (z : List (List ℕ × ℕ)). Left c.args.names.now here z) c.in-Some.ensures.steps c.loop-object.invariant in
    let first = first_found c.args.names.now here c.next.new.self (name, c.in-Some.object) left in
    let known = c.requires name c.in-Some.object first in
    let same : placed c.in-Some-get.listed.now ≡ known.0 = same_some _ _ (ap (option_map placed) c.in-Some-get.ensures.value ∙ known.1) in
    one_less c.args.names.now here c.next.new.self (name, c.in-Some.object) left
    (ap (contains (slice_cmp nat_cmp) c.args.names.now) (sym (ap (λ (z : Held). z.1) same ∙ known.2) ∙ ap (λ (z : Body). z.name) (sym c.get-in-loop-object.ensures)) ∙ sym c.contains.ensures ∙ c.if-not-contains.false)
