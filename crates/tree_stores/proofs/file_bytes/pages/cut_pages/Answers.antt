use Rattle.std.proofs.Common.{◌≡◌, ℕ, List, [], ◌++◌, map, sym, ap, ◌∙◌, rules}
use Rattle.std.proofs.lemmas.List.{append-nil}
use Rattle.tree_stores.specs.declared.file_bytes.changes.Change.{Change}
use Rattle.tree_stores.specs.Paged.{byte_of, changed}
use Rattle.tree_stores.proofs.Windows.{cut_entry, cut_all}
use Rattle.tree_stores.proofs.file_bytes.pages.cut_pages.Goals as goal

pub returns : goal.returns
returns c =
    let size = c.args.size in
    let changes = c.loop-number.changes.items in
    let none : c.loop-number.number-iterator ≡ [] = search rules in
    ap (λ (cs : List Change). changed cs (byte_of c.args.pages.now))
    (sym (append-nil changes) ∙ ap (λ (es : List (ℕ × List ℕ)). changes ++ map (cut_entry size) es) (sym none) ∙ c.loop-number.invariant.2)
    ∙ cut_all c.args.pages.now size
