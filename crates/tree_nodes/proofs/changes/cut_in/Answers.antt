use Rattle.std.proofs.Common.{◌≡◌, ℕ, None, sym, ap, subst, ◌∙◌}
use Rattle.std.specs.FinMap as map
use Rattle.std.specs.Prelude.{option_map}
use Rattle.tree_nodes.specs.declared.table.Body.{Body}
use Rattle.tree_nodes.specs.Table.{Table, placed}
use Rattle.tree_nodes.specs.TableChanges.{HasName}
use Rattle.tree_nodes.specs.Walk.{Held}
use Rattle.tree_nodes.proofs.Chains.{same_some}
use Rattle.tree_nodes.proofs.Tables.{was_cut, one_less}
use Rattle.tree_nodes.proofs.Replacing.{put_again, stands_beside}
use Rattle.tree_nodes.proofs.changes.cut_in.Goals as goal

pub drop_name-requires-clause-stands : goal.drop_name-requires-clause-stands
drop_name-requires-clause-stands c =
    stands_beside c.args.pages.now.map c.take.new.self.map c.args.object c.args.directory c.in-Some.ensures.updates c.requires.stands.3 c.requires.stands.4

pub returns-in-Ok-clause-ok : goal.returns-in-Ok-clause-ok
returns-in-Ok-clause-ok c =
    let m = c.args.pages.now.map in
    let k = c.take.new.self.map in
    let n = c.drop_name.new.pages.map in
    let entry = c.in-Some.entry in
    let stands = c.requires.stands in
    let same : placed entry ≡ stands.0 = same_some (placed entry) stands.0 (sym (ap (option_map placed) (sym c.in-Some.ensures.value)) ∙ stands.1) in
    let up : c.args.directory ≡ entry.parent = sym (ap (λ (z : Held). z.0) same ∙ stands.2) in
    was_cut m k n c.args.object entry c.as_slice.result.now c.in-Some.ensures.updates (subst (λ (d : ℕ). HasName d c.as_slice.result.now None k n) up c.in-Ok.ensures.ok)
    (c.as_slice.ensures.value ∙ ap (λ (z : Body). z.name) c.get.ensures) c.requires.bare

pub returns-in-Ok-clause-len : goal.returns-in-Ok-clause-len
returns-in-Ok-clause-len c =
    one_less c.args.pages.now.map c.take.new.self.map c.drop_name.new.pages.map c.args.object c.in-Some.entry c.in-Some.ensures.updates (sym c.in-Some.ensures.value) c.in-Ok.ensures.ok.len

pub returns-in-Err-clause-err : goal.returns-in-Err-clause-err
returns-in-Err-clause-err c =
    c.put.ensures.updates ∙ ap (λ (z : Table). map.insert z c.args.object c.in-Some.entry) (c.in-Err.ensures.err ∙ c.in-Some.ensures.updates)
    ∙ put_again c.args.pages.now.map c.args.object c.in-Some.entry (sym c.in-Some.ensures.value)
