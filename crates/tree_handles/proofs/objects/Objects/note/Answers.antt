use Rattle.std.proofs.Common.{ℕ, List, refl, sym, ◌∙◌, subst}
use Rattle.indexmap.proofs.MapLemmas.{OnOk-map}
use Rattle.tree_handles.specs.declared.objects.Objects.{Objects}
use Rattle.tree_handles.specs.Finding.{own_object, Gains}
use Rattle.tree_handles.proofs.Lookups.{joined, own_gains, others_gain, absent}
use Rattle.tree_handles.proofs.objects.Objects.note.Goals as goal

pub returns-then-is_none-clause-ok : goal.returns-then-is_none-clause-ok
returns-then-is_none-clause-ok c =
    let before = c.args.self.now in
    let after : Objects = record { own = c.note.new.self; others = before.others } in
    let handle = c.args.handle.now in
    OnOk-map c.note.result _ _ (λ notes pairs gives. joined before after pairs handle c.args.object gives
    (own_gains before after handle c.args.object refl (sym c.get.ensures ∙ absent c.get.result c.if-is_none.ensures)
    (subst (λ (h : List ℕ). Gains (own_object before.own) (own_object after.own) h c.args.object) (sym (c.takes.ensures c.if-takes.true)) notes))) c.note.ensures.ok

pub returns-else-takes-clause-ok : goal.returns-else-takes-clause-ok
returns-else-takes-clause-ok c =
    let before = c.args.self.now in
    let after : Objects = record { own = before.own; others = c.note-else-takes.new.self } in
    OnOk-map c.note-else-takes.result _ _ (λ notes pairs gives. joined before after pairs c.args.handle.now c.args.object gives
    (others_gain before after c.args.handle.now c.args.object refl notes)) c.note-else-takes.ensures.ok
