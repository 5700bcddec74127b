use Rattle.std.proofs.Common.{rules, ◌≡◌, ◌⊎◌, inl, inr, ℕ, Contains, refl, sym, ap, ◌∙◌, subst}
use Rattle.std.specs.Prelude.{All, option_map}
use Rattle.tree_nodes.specs.Spots.{spot_of}
use Rattle.tree_nodes.specs.Table.{child, held}
use Rattle.tree_nodes.proofs.Methods.{good_at}
use Rattle.tree_nodes.proofs.Spots.{same_spots, spot_is, shown, held_of_all}
use Rattle.tree_nodes.proofs.nodes.Nodes.is_same_at.Goals as goal

pub returns : goal.returns
returns c = λ last others.
    let good = good_at c.self.inside.entries c.self.inside.shown c.args.self.now c.self.view_is c.self.invariant.table in
    let other = good_at c.other.inside.entries c.other.inside.shown c.args.other.now c.other.view_is c.other.invariant.table in
    let first : All (λ object. held c.self.inside.entries object ≡ held c.other.inside.entries object) c.args.objects.now = search rules in
    let second : All (λ object. held c.self.inside.entries object ≡ held c.other.inside.entries object) c.args.others.now = c.same_objects-2.ensures last in
    same_spots c.self.inside.entries c.other.inside.entries c.args.self.now c.args.other.now good other
    (held_of_all c.self.inside.entries c.other.inside.entries c.args.self.now c.args.other.now good other c.args.objects.now c.args.others.now first second others)
