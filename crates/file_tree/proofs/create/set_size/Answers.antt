use Rattle.std.proofs.Common.{◌≤◌, refl, sym, ap, ◌∙◌, subst, le-leb}
use Rattle.nfs3_types.specs.Limits.{file_limit}
use Rattle.tree_nodes.specs.Files.{file_node}
use Rattle.tree_stores.specs.Files.{resized}
use Rattle.file_tree.specs.Change.Change.{Put}
use Rattle.file_tree.specs.Made.{only_if, set_size}
use Rattle.file_tree.proofs.Planned.{resized_long}
use Rattle.file_tree.proofs.create.set_size.Goals as goal

pub returns-in-Some : goal.returns-in-Some
returns-in-Some c = λ path at.
    let object = c.args.object in
    let file = c.args.file.now in
    let size = c.in-Some.size in
    let put = Put path (file_node object (resized file.bytes size) file.verifier) in
    let fits : size ≤ file_limit = c.if-size-le-FILE_LIMIT.true in (
      put,
      ap (set_size path object file) c.in-Some.is ∙ ap (λ b. only_if b put) (le-leb size file_limit fits),
      record { path = path; file = file; stands = at; is = refl; fits = subst (λ n. n ≤ file_limit) (sym (resized_long file.bytes size)) fits },
    )
