use Rattle.std.proofs.Common.{◌≡◌, ℕ, List, sym, ap, subst, ◌∙◌}
use Rattle.std.specs.FinMap as map
use Rattle.std.specs.Prelude.{option_map}
use Rattle.tree_nodes.specs.Table.{child, held, placed}
use Rattle.tree_nodes.specs.Walk.{Held}
use Rattle.tree_nodes.specs.Changes.{Shifts}
use Rattle.tree_nodes.proofs.Chains.{same_some}
use Rattle.tree_nodes.proofs.Replacing.{put_again, stands_beside, shifted_len, shifted_entry, all_of, both_errs, either_way}
use Rattle.tree_nodes.proofs.changes.shift_in.Goals as goal

pub move_entry-before-requires-clause-stands : goal.move_entry-before-requires-clause-stands
move_entry-before-requires-clause-stands c =
    let m = c.args.pages.now.map in
    let k = c.take.new.self.map in
    let entry = c.in-Some.entry in
    let stands = c.requires.stands in
    let same : placed entry ≡ stands.0 = same_some (placed entry) stands.0 (sym (ap (option_map placed) (sym c.in-Some.ensures.value)) ∙ stands.1) in
    let up : entry.parent ≡ stands.0.0 = ap (λ (z : Held). z.0) same in (
      stands_beside m k c.args.object entry.parent c.in-Some.ensures.updates (λ s. stands.5 (sym up ∙ s)) (rw up stands.2),
      stands_beside m k c.args.object c.args.place.parent c.in-Some.ensures.updates c.requires.directory.1 c.requires.directory.0,
    )

pub returns-clause-ok : goal.returns-clause-ok
returns-clause-ok c =
    let m = c.args.pages.now.map in
    let k = c.take.new.self.map in
    let l = c.move_entry-before.new.pages.map in
    let n = c.put.new.self.map in
    let entry = c.in-Some.entry in
    let stands = c.requires.stands in
    let same : placed entry ≡ stands.0 = same_some (placed entry) stands.0 (sym (ap (option_map placed) (sym c.in-Some.ensures.value)) ∙ stands.1) in
    let up : entry.parent ≡ stands.0.0 = ap (λ (z : Held). z.0) same in
    all_of c.move_entry-before.result _ _ _ _ c.move_entry-before.ensures.before c.move_entry-before.ensures.names c.move_entry-before.ensures.entry
    (λ before is names now. subst (λ (z : ℕ × List ℕ). Shifts c.args.object z.0 z.1 c.args.place.parent c.args.place.name (child m) (child n) (held m) (held n)) (λ i. (sym is.0 i, sym is.1 i))
    (shifted_entry m k l n c.args.object entry.parent c.args.place.parent entry c.move_entry-before.new.entry entry.body.name c.args.place.name (sym c.in-Some.ensures.value) c.in-Some.ensures.updates names c.put.ensures.updates
    now.0 now.1 (λ s. stands.5 (sym up ∙ s)) c.requires.directory.1))

pub returns-clause-len : goal.returns-clause-len
returns-clause-len c =
    let m = c.args.pages.now.map in
    let entry = c.in-Some.entry in
    either_way c.move_entry-before.result _ _ _ c.move_entry-before.ensures.names c.move_entry-before.ensures.err c.move_entry-before.ensures.same
    (λ names. shifted_len m c.take.new.self.map c.move_entry-before.new.pages.map c.put.new.self.map c.args.object entry.parent c.args.place.parent entry c.move_entry-before.new.entry entry.body.name c.args.place.name
    (sym c.in-Some.ensures.value) c.in-Some.ensures.updates names c.put.ensures.updates)
    (λ pages back. ap map.len (c.put.ensures.updates ∙ (λ i. map.insert ((pages ∙ c.in-Some.ensures.updates) i) c.args.object (back i)) ∙ put_again m c.args.object entry (sym c.in-Some.ensures.value)))

pub returns-clause-err : goal.returns-clause-err
returns-clause-err c =
    let entry = c.in-Some.entry in
    both_errs c.move_entry-before.result _ _ _ c.move_entry-before.ensures.err c.move_entry-before.ensures.same
    (λ pages back. c.put.ensures.updates ∙ (λ i. map.insert ((pages ∙ c.in-Some.ensures.updates) i) c.args.object (back i)) ∙ put_again c.args.pages.now.map c.args.object entry (sym c.in-Some.ensures.value))
