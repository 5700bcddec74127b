use Rattle.std.proofs.Common.{◌≡◌, true, false, [], ◌∷◌, ◌++◌, inl, inr, refl, sym, ap, ◌∙◌}
use Rattle.std.specs.Prelude.{option_and_then}
use Rattle.std.specs.Option.{option_copied}
use Rattle.std.specs.FinMap as map
use Rattle.tree_nodes.specs.Tree.{same_path, is_bare}
use Rattle.tree_nodes.specs.Moved.{is_from}
use Rattle.tree_answers.proofs.tree_handles_laws.Paths.{from_child}
use Rattle.file_tree.specs.Change.Change.{Keep, Move}
use Rattle.file_tree.specs.Removed.{may_replace}
use Rattle.file_tree.proofs.Planned.{same_place, stays, goes, doesnt_go}
use Rattle.file_tree.proofs.rename.rename_at.Goals as goal
use Rattle.file_tree.proofs.rename.rename_at.Goals.{then-is_from-via-then-is_from, then-is_from-via-else-is_from+then-not-may_replace, then-is_from-via-else-is_from+else-not-may_replace+then-not-is_bare_at}

pub returns-then-is_object : goal.returns-then-is_object
returns-then-is_object c = λ p e at leads.
    let tree = c.args.nodes.now in
    let q = e.0 ++ c.args.name.now ∷ [] in
    let target : option_copied c.entry-target.result ≡ map.get tree q = c.entry-target.ensures.node ∙ ap (option_and_then (λ d. map.get tree (d.0 ++ c.args.name.now ∷ []))) leads in
    let same : same_path p q ≡ true =
    same_place tree c.args.source.now p q (option_copied c.entry-target.result) at target (λ n. c.entry-target.ensures.stands e n leads) ∙ sym c.is_object.ensures ∙ c.if-is_object.true in
    (Keep, stays tree p q c.args.source.now.content same, refl)

pub returns-then-is_from : goal.returns-then-is_from
returns-then-is_from c = λ p e at leads.
    let tree = c.args.nodes.now in
    let q = e.0 ++ c.args.name.now ∷ [] in
    let target : option_copied c.entry-target.result ≡ map.get tree q = c.entry-target.ensures.node ∙ ap (option_and_then (λ d. map.get tree (d.0 ++ c.args.name.now ∷ []))) leads in
    let other : same_path p q ≡ false =
    same_place tree c.args.source.now p q (option_copied c.entry-target.result) at target (λ n. c.entry-target.ensures.stands e n leads) ∙ sym c.is_object.ensures ∙ c.if-is_object.false in
    doesnt_go tree p q c.args.source.now.content other
    (elim c.then-is_from.branch [
      | then-is_from-via-then-is_from w ↦ inl (from_child e.0 p c.args.name.now other ∙ sym (c.is_from.ensures e (p, c.args.source.now) leads at) ∙ w.if-is_from.true)
      | then-is_from-via-else-is_from+then-not-may_replace w ↦ inr (inl (ap (may_replace c.args.source.now.content) (sym target) ∙ sym w.may_replace.ensures ∙ w.if-not-may_replace.true))
      | then-is_from-via-else-is_from+else-not-may_replace+then-not-is_bare_at w ↦ inr (inr (sym (w.is_bare_at.ensures e leads) ∙ w.if-not-is_bare_at.true))
    ])

pub returns : goal.returns
returns c = λ p e at leads.
    let tree = c.args.nodes.now in
    let q = e.0 ++ c.args.name.now ∷ [] in
    let source = c.args.source.now in
    let target : option_copied c.entry-target.result ≡ map.get tree q = c.entry-target.ensures.node ∙ ap (option_and_then (λ d. map.get tree (d.0 ++ c.args.name.now ∷ []))) leads in
    let other : same_path p q ≡ false =
    same_place tree source p q (option_copied c.entry-target.result) at target (λ n. c.entry-target.ensures.stands e n leads) ∙ sym c.is_object.ensures ∙ c.if-is_object.false in
    let outside : is_from q p ≡ false = from_child e.0 p c.args.name.now other ∙ sym (c.is_from.ensures e (p, source) leads at) ∙ c.if-is_from.false in
    let replace : may_replace source.content (map.get tree q) ≡ true = ap (may_replace source.content) (sym target) ∙ sym c.may_replace.ensures ∙ c.if-not-may_replace.false in
    let bare : is_bare tree q ≡ true = sym (c.is_bare_at.ensures e leads) ∙ c.if-not-is_bare_at.false in (
      Move p q,
      goes tree p q source.content other outside replace bare,
      record { entry = (p, source); stands = at; target = e; leads = leads; is = refl; other = other; outside = outside; bare = bare; short = c.requires },
    )
