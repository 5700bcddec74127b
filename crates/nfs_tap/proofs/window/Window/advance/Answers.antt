use Rattle.std.proofs.Common.{rules, sym, ap, ◌∙◌, drop}
use Rattle.std.proofs.lemmas.List.{places}
use Rattle.nfs_tap.proofs.Parts.{drop-slice_range}
use Rattle.nfs_tap.proofs.window.Window.advance.Goals as goal

pub returns : goal.returns
returns c =
    let w = c.self.inside in
    sym (drop-slice_range w.bytes.items w.start w.end c.args.count (search (rules, places)))
    ∙ ap (λ p. drop c.args.count p.bytes) c.self.view_is
