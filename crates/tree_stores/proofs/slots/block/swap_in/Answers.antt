use Rattle.std.proofs.Common.{◌≡◌, ◌<◌, ◌/◌, true, false, List, length, get_or, set, Option, sym, ap, subst, ◌∙◌}
use Rattle.tree_stores.specs.Pages.{Page, row_of, slots_of, is_own, owns_of}
use Rattle.tree_stores.proofs.Rows.{map_stays}
use Rattle.tree_stores.proofs.Blocks.{in_pages, stood_pages, put_pages, own_within, own_read}
use Rattle.tree_stores.proofs.slots.block.swap_in.Goals as goal

pub returns-clause-within : goal.returns-clause-within
returns-clause-within g c =
    let ps = c.in-Some.row in
    let is = ap (λ (o : Option (List (Page g.row.V.Denot))). row_of o c.args.block.now.shared) c.in-Some.is in
    let own = subst (λ (o : Option (List (Page g.row.V.Denot))). get_or (owns_of o) (c.args.place / 64) false ≡ true) c.in-Some.is c.requires in
    subst (λ (z : List (Page g.row.V.Denot)). c.args.place < length (slots_of z)) (sym is)
    (in_pages ps c.args.place c.at.result.now (own_within ps (c.args.place / 64) own) c.at.ensures.value)

pub returns-clause-stood : goal.returns-clause-stood
returns-clause-stood g c =
    let ps = c.in-Some.row in
    let is = ap (λ (o : Option (List (Page g.row.V.Denot))). row_of o c.args.block.now.shared) c.in-Some.is in
    let own = subst (λ (o : Option (List (Page g.row.V.Denot))). get_or (owns_of o) (c.args.place / 64) false ≡ true) c.in-Some.is c.requires in
    subst (λ (z : List (Page g.row.V.Denot)). c.swap_slot.result ≡ get_or (slots_of z) c.args.place c.swap_slot.result) (sym is)
    (stood_pages ps c.args.place c.at.result.now (own_within ps (c.args.place / 64) own) c.at.ensures.value c.swap_slot.result c.swap_slot.ensures.within c.swap_slot.ensures.stood)

pub returns-clause-puts : goal.returns-clause-puts
returns-clause-puts g c =
    let ps = c.in-Some.row in
    let is = ap (λ (o : Option (List (Page g.row.V.Denot))). row_of o c.args.block.now.shared) c.in-Some.is in
    let own = subst (λ (o : Option (List (Page g.row.V.Denot))). get_or (owns_of o) (c.args.place / 64) false ≡ true) c.in-Some.is c.requires in
    put_pages ps c.args.place c.at.result.now (own_within ps (c.args.place / 64) own) c.at.ensures.value c.swap_slot.new.page c.args.slot c.swap_slot.ensures.within c.swap_slot.ensures.puts
    ∙ ap (λ (z : List (Page g.row.V.Denot)). set (slots_of z) c.args.place c.args.slot) (sym is)

pub returns-clause-kept : goal.returns-clause-kept
returns-clause-kept g c =
    let ps = c.in-Some.row in
    let own = subst (λ (o : Option (List (Page g.row.V.Denot))). get_or (owns_of o) (c.args.place / 64) false ≡ true) c.in-Some.is c.requires in
    map_stays is_own ps (c.args.place / 64) c.at.result.now c.swap_slot.new.page c.at.ensures.value
    (c.swap_slot.ensures.own ∙ sym (own_read ps (c.args.place / 64) c.at.result.now own c.at.ensures.value))
    ∙ sym (ap owns_of c.in-Some.is)
