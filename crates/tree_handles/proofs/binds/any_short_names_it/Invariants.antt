use Rattle.std.proofs.Common.{◌≡◌}
use Rattle.std.specs.List.{list_any}
use Rattle.tree_handles.specs.Binding.{is_bound}
use Rattle.tree_handles.proofs.binds.any_short_names_it.Given as goal

-- no handle that was looked at names it
abbrev pub invariant-loop-handle : goal.invariant-loop-handle
invariant-loop-handle l = list_any (λ key. is_bound l.binds key l.object) l.short.keys ≡ list_any (λ key. is_bound l.binds key l.object) l.handle-iterator
