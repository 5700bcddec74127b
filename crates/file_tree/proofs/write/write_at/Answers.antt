use Rattle.std.proofs.Common.{◌≡◌, ◌≤◌, true, false, Some, refl, sym, ap, ◌∙◌, subst, rules, cond}
use Rattle.std.specs.Prelude.{◌+◌, ◌==◌, max, nat_le, length}
use Rattle.std.proofs.lemmas.Bool.{leb-true}
use Rattle.nfs3_types.specs.Limits.{file_limit}
use Rattle.tree_nodes.specs.Files.{file_node}
use Rattle.tree_stores.specs.Files.{written}
use Rattle.file_tree.specs.Change.Change.{Keep, Put}
use Rattle.file_tree.specs.Made.{only_if}
use Rattle.file_tree.proofs.Planned.{written_long}
use Rattle.file_tree.proofs.write.write_at.Goals as goal

pub returns : goal.returns
returns c = λ path at.
    let file = c.args.file.now in
    let offset = c.args.offset in
    let added = c.args.added.now in
    let put = Put path (file_node c.args.object (written file.bytes offset added) file.verifier) in
    let some : (length added == 0) ≡ false = search rules in
    let within : nat_le (max (length file.bytes) (offset + length added)) file_limit ≡ true = search rules in (
      put,
      ap (λ b. cond b (Some Keep) (only_if (nat_le (max (length file.bytes) (offset + length added)) file_limit) put)) some ∙ ap (λ b. only_if b put) within,
      record { path = path; file = file; stands = at; is = refl; fits = subst (λ n. n ≤ file_limit) (sym (written_long file.bytes offset added)) (leb-true _ _ within) },
    )
