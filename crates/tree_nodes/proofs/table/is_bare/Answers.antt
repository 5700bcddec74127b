use Rattle.std.proofs.Common.{sym, ap, ◌∙◌, eqb-true, eq-eqb}
use Rattle.std.specs.FinMap as map
use Rattle.tree_nodes.specs.declared.table.Body.{Body}
use Rattle.tree_nodes.proofs.Tables.{leads_on, leads_nowhere}
use Rattle.tree_nodes.proofs.table.is_bare.Goals as goal

pub returns-clause-bare : goal.returns-clause-bare
returns-clause-bare c = λ e name.
    let entry = c.in-Some.entry.now in
    let len = ap (λ (z : Body). map.len z.names) c.get-2.ensures in
    leads_nowhere c.args.entries.now c.args.object entry (sym c.in-Some.ensures.value) (sym len ∙ eqb-true (map.len c.get-2.result.now.names) 0 (sym c.is_empty.ensures ∙ e)) name

pub returns-clause-other : goal.returns-clause-other
returns-clause-other c = λ e.
    let entry = c.in-Some.entry.now in
    let len = ap (λ (z : Body). map.len z.names) c.get-2.ensures in
    leads_on c.args.entries.now c.args.object entry (sym c.in-Some.ensures.value) (λ none. absurd (cc (sym e ∙ c.is_empty.ensures ∙ eq-eqb (map.len c.get-2.result.now.names) 0 (len ∙ none))))
