-- Believed.
-- what a success of SETATTR and WRITE makes of the tree: RFC 1813, sections 3.3.2 and 3.3.7
use Rattle.std.specs.Prelude.{ℕ, ◌+◌, ◌==◌, max, nat_le, Bool, true, ◌&&◌, if◌then◌else◌, List, length, take, Option, Some, None, is_some, option_and_then}
use Rattle.nfs3_types.specs.declared.calls.StableHow.{StableHow}
use Rattle.nfs3_types.specs.declared.calls.StableHow.TheVariants.{Unstable, DataSync, FileSync}
use Rattle.nfs3_types.specs.declared.calls.WriteArguments.{WriteArguments}
use Rattle.nfs3_types.specs.declared.calls.SetAttrArguments.{SetAttrArguments}
use Rattle.file_tree.specs.Change.{Change}
use Rattle.file_tree.specs.Change.Change.{Keep, Put}
use Rattle.nfs3_types.specs.Limits.{file_limit}
use Rattle.tree_nodes.specs.Files.{file_node}
use Rattle.tree_stores.specs.Files.{written}
use Rattle.tree_nodes.specs.Tree.{Tree}
use Rattle.tree_answers.specs.tree_handles_specs.Binding.{Bindings}
use Rattle.tree_answers.specs.tree_handles_specs.Live.{FileEntry, live_entry, file_of}
use Rattle.file_tree.specs.Made.{only_if, set_size}

-- SETATTR, RFC 1813, section 3.3.2: with a size a file is cut, or filled with zeros, to it; without one the tree stays
abbrev pub set_attributes : Bindings → Tree → SetAttrArguments → Option Change
set_attributes binds tree call =
    if is_some call.attributes.size then option_and_then (λ entry. set_size entry.path entry.object entry.file call.attributes.size) (file_of binds tree call.object)
    else only_if (is_some (live_entry binds tree call.object)) Keep

-- WRITE, RFC 1813, section 3.3.7: the answered count of the data's bytes goes to the offset, and a gap behind the file's
-- end is filled with zeros; the answered level is at least the one asked for
abbrev pub level_rank : StableHow → ℕ
level_rank Unstable = 0
level_rank DataSync = 1
level_rank FileSync = 2

abbrev pub reaches : StableHow → Option StableHow → Bool
reaches asked None = true
reaches asked (Some level) = nat_le (level_rank asked) (level_rank level)

abbrev pub write_at : FileEntry → ℕ → List ℕ → Option Change
write_at entry offset added =
    if length added == 0 then Some Keep
    else only_if (nat_le (max (length entry.file.bytes) (offset + length added)) file_limit)
    (Put entry.path (file_node entry.object (written entry.file.bytes offset added) entry.file.verifier))

abbrev pub write_change : Bindings → Tree → WriteArguments → ℕ → Option StableHow → Option Change
write_change binds tree call count level =
    option_and_then (λ entry. if nat_le count call.count && nat_le count (length call.bytes) && reaches call.level level
    then write_at entry call.offset (take count call.bytes) else None) (file_of binds tree call.file)
