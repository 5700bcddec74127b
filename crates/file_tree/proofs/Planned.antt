-- the changes of calls whose conditions hold
use Rattle.std.proofs.Common.{◌≡◌, ◌⊎◌, inl, inr, ℕ, Bool, true, false, cond, List, [], ◌∷◌, ◌++◌, length, take, Option, Some, None, refl, sym, ap, ◌∙◌, subst}
use Rattle.std.proofs.Common.{arith, drop, replicate, ◌+◌, ◌-◌}
use Rattle.std.proofs.lemmas.List.{length-append, length-take, length-drop, length-replicate}
use Rattle.std.specs.Prelude.{max, not, ◌&&◌, ◌==◌, nat_lt, nat_le, is_none, is_some, IsSome, option_map, option_and_then}
use Rattle.std.specs.Option.{option_map_or}
use Rattle.std.specs.FinMap as map
use Rattle.nfs3_types.specs.declared.calls.DirectoryName.{DirectoryName}
use Rattle.tree_nodes.specs.declared.node.Node.{Node}
use Rattle.tree_nodes.specs.declared.node.Content.{Content}
use Rattle.nfs3_types.specs.Limits.{file_limit}
use Rattle.nfs3_types.specs.declared.calls.CreateMode.{CreateMode}
use Rattle.tree_nodes.specs.Files.{node_limit, file_node}
use Rattle.tree_stores.specs.Files.{resized, written}
use Rattle.tree_nodes.specs.Tree.{Names, Tree, entry_of, same_path, is_bare}
use Rattle.tree_nodes.specs.Moved.{is_from}
use Rattle.tree_nodes.proofs.Found.{found_stands, same_lists}
use Rattle.tree_nodes.proofs.Chains.{chained, mapped, isnt, absent}
use Rattle.tree_answers.specs.tree_handles_specs.Binding.{Bindings, gives_object}
use Rattle.nfs3_types.specs.declared.calls.StableHow.{StableHow}
use Rattle.nfs3_types.specs.declared.calls.WriteArguments.{WriteArguments}
use Rattle.nfs3_types.specs.declared.calls.SetAttrArguments.{SetAttrArguments}
use Rattle.tree_answers.specs.tree_handles_specs.Live.{FileEntry, live_entry, directory_of, file_of}
use Rattle.file_tree.specs.Written.{reaches, write_at, write_change, set_attributes}
use Rattle.tree_starts.specs.Names.{is_plain}
use Rattle.tree_answers.specs.tree_handles_specs.Entry.{entry_at, named}
use Rattle.tree_answers.specs.tree_handles_specs.Kind.{is_directory}
use Rattle.tree_answers.proofs.tree_handles_laws.Paths.{same_object}
use Rattle.file_tree.specs.Change.Change.{Keep, Put, Remove, Move}
use Rattle.file_tree.specs.Made.{only_if, first_size, first_verifier, create_absent, set_size, make_entry}
use Rattle.file_tree.specs.Removed.{remove_entry, remove_directory, may_replace, rename_at}

pub negated_false : (b : Bool) → not b ≡ false → b ≡ true
negated_false true e = refl
negated_false false e = cc

-- ---- entries that go

unended : (d : Names) (n : List ℕ) → d ++ n ∷ [] ≡ [] → ⊥
unended [] n e = cc
unended (x ∷ d) n e = cc

-- an entry lies below the root
pub named_below : (binds : Bindings) (tree : Tree) (place : DirectoryName) (e : Names × Node) → named binds tree place ≡ Some e → e.0 ≡ [] → ⊥
named_below binds tree place e h root =
    let in_directory = chained (λ d. option_map {U = Names × Node} (λ node. (d ++ place.name ∷ [], node)) (entry_at tree d place.name)) (directory_of binds tree place.directory) e h in
    let at = mapped {B = Names × Node} (λ node. (in_directory.0 ++ place.name ∷ [], node)) (entry_at tree in_directory.0 place.name) e in_directory.2 in
    unended in_directory.0 place.name (ap (λ x. x.0) at.2 ∙ root)

pub entry_goes : (binds : Bindings) (tree : Tree) (place : DirectoryName) (e : Names × Node) → named binds tree place ≡ Some e → is_directory e.1.content ≡ false
    → is_bare tree e.0 ≡ true → remove_entry binds tree place ≡ Some (Remove e.0)
entry_goes binds tree place e h file bare =
    ap (option_and_then (λ e. only_if (not (is_directory e.1.content) && is_bare tree e.0) (Remove e.0))) h
    ∙ ap (λ b. only_if (not b && is_bare tree e.0) (Remove e.0)) file ∙ ap (λ b. only_if b (Remove e.0)) bare

pub directory_goes : (binds : Bindings) (tree : Tree) (place : DirectoryName) (e : Names × Node) → named binds tree place ≡ Some e → is_directory e.1.content ≡ true
    → is_bare tree e.0 ≡ true → remove_directory binds tree place ≡ Some (Remove e.0)
directory_goes binds tree place e h is bare =
    ap (option_and_then (λ e. only_if (is_directory e.1.content && is_bare tree e.0) (Remove e.0))) h
    ∙ ap (λ b. only_if (b && is_bare tree e.0) (Remove e.0)) is ∙ ap (λ b. only_if b (Remove e.0)) bare

-- ---- entries that are made

pub no_node : (o : Option (Names × Node)) → is_none (option_map (λ e. e.1) o) ≡ true → o ≡ None
no_node None e = refl
no_node (Some x) e = absurd (cc)

pub entry_comes : (binds : Bindings) (tree : Tree) (number : ℕ) (place : DirectoryName) (handle : Option (List ℕ)) (content : Content) (d : Names)
    → directory_of binds tree place.directory ≡ Some d → is_plain place.name ≡ true → map.get tree (d ++ place.name ∷ []) ≡ None → entry_of tree number ≡ None
    → nat_lt (map.len tree) node_limit ≡ true → gives_object binds handle number ≡ true
    → make_entry binds tree number place handle content ≡ Some (Put (d ++ place.name ∷ []) (record { object = number; content = content }))
entry_comes binds tree number place handle content d at plain free unused room gives =
    let put = Put (d ++ place.name ∷ []) (record { object = number; content = content }) in
    ap (option_and_then (λ d. only_if (is_plain place.name && is_none (map.get tree (d ++ place.name ∷ [])) && is_none (entry_of tree number)
    && nat_lt (map.len tree) node_limit && gives_object binds handle number) (Put (d ++ place.name ∷ []) (record { object = number; content = content })))) at
    ∙ (λ i. only_if (plain i && is_none (free i) && is_none (unused i) && room i && gives i) put)

-- ---- entries that move

-- the object at the target is the source where the paths are the same
pub same_place : (tree : Tree) (source : Node) (p q : Names) (target : Option Node) → entry_of tree source.object ≡ Some (p, source) → target ≡ map.get tree q
    → ((n : Node) → target ≡ Some n → entry_of tree n.object ≡ Some (q, n)) → same_path p q ≡ option_map_or (λ n. source.object == n.object) target false
same_place tree source p q None at is stands =
    isnt (same_path p q) (λ same. absent (map.get tree q) (sym is) (subst (λ r. IsSome (map.get tree r)) (same_lists p q same) there)) where
      there : IsSome (map.get tree p)
      there = subst IsSome (sym (found_stands tree (λ x. x.1.object == source.object) (p, source) at)) refl
same_place tree source p q (Some n) at is stands = same_object tree source.object n.object (p, source) (q, n) at (stands n refl)

module _ (tree : Tree) (p q : Names) (content : Content) where
  pub stays : same_path p q ≡ true → rename_at tree p content q ≡ Some Keep
  stays same = ap (λ b. cond b (Some Keep) (only_if (not (is_from q p) && may_replace content (map.get tree q) && is_bare tree q) (Move p q))) same

  pub goes : same_path p q ≡ false → is_from q p ≡ false → may_replace content (map.get tree q) ≡ true → is_bare tree q ≡ true → rename_at tree p content q ≡ Some (Move p q)
  goes other outside replace bare =
      ap (λ b. cond b (Some Keep) (only_if (not (is_from q p) && may_replace content (map.get tree q) && is_bare tree q) (Move p q))) other
      ∙ (λ i. only_if (not (outside i) && replace i && bare i) (Move p q))

  pub doesnt_go : same_path p q ≡ false → (is_from q p ≡ true) ⊎ ((may_replace content (map.get tree q) ≡ false) ⊎ (is_bare tree q ≡ false)) → rename_at tree p content q ≡ None
  doesnt_go other why =
      ap (λ b. cond b (Some Keep) (only_if (not (is_from q p) && may_replace content (map.get tree q) && is_bare tree q) (Move p q))) other ∙ ap (λ b. only_if b (Move p q)) (no why) where
        last : (a b : Bool) → ((a && b) && false) ≡ false
        last true true = refl
        last true false = refl
        last false b = refl

        middle : (a b : Bool) → ((a && false) && b) ≡ false
        middle true b = refl
        middle false b = refl

        no : (is_from q p ≡ true) ⊎ ((may_replace content (map.get tree q) ≡ false) ⊎ (is_bare tree q ≡ false)) → (not (is_from q p) && may_replace content (map.get tree q) && is_bare tree q) ≡ false
        no (inl from) = ap (λ b. not b && may_replace content (map.get tree q) && is_bare tree q) from
        no (inr (inl kind)) = ap (λ b. not (is_from q p) && b && is_bare tree q) kind ∙ middle (not (is_from q p)) (is_bare tree q)
        no (inr (inr filled)) = ap (λ b. not (is_from q p) && may_replace content (map.get tree q) && b) filled ∙ last (not (is_from q p)) (may_replace content (map.get tree q))

-- ---- files that are written, and made

pub resized_long : (bytes : List ℕ) (size : ℕ) → length (resized bytes size) ≡ size
resized_long bytes size =
    length-append (take size bytes) (replicate (size - length bytes) 0) ∙ (λ i. length-take size bytes i + length-replicate {A = ℕ} (size - length bytes) 0 i) ∙ omega arith

pub written_long : (bytes : List ℕ) (offset : ℕ) (added : List ℕ) → length (written bytes offset added) ≡ max (length bytes) (offset + length added)
written_long bytes offset added =
    length-append (resized bytes offset ++ added) (drop (offset + length added) bytes)
    ∙ (λ i. (length-append (resized bytes offset) added ∙ ap (λ n. n + length added) (resized_long bytes offset)) i + length-drop (offset + length added) bytes i) ∙ omega arith

pub file_sized : (binds : Bindings) (tree : Tree) (call : SetAttrArguments) (f : FileEntry) → file_of binds tree call.object ≡ Some f → is_some call.attributes.size ≡ true
    → set_attributes binds tree call ≡ set_size f.path f.object f.file call.attributes.size
file_sized binds tree call f at sized =
    ap (λ b. cond b (option_and_then (λ entry. set_size entry.path entry.object entry.file call.attributes.size) (file_of binds tree call.object))
    (only_if (is_some (live_entry binds tree call.object)) Keep)) sized
    ∙ ap (option_and_then (λ entry. set_size entry.path entry.object entry.file call.attributes.size)) at

pub file_written : (binds : Bindings) (tree : Tree) (call : WriteArguments) (count : ℕ) (level : Option StableHow) (f : FileEntry) → file_of binds tree call.file ≡ Some f
    → nat_le count call.count ≡ true → nat_le count (length call.bytes) ≡ true → reaches call.level level ≡ true
    → write_change binds tree call count level ≡ write_at f call.offset (take count call.bytes)
file_written binds tree call count level f at asked there reached =
    ap (option_and_then (λ entry. cond (nat_le count call.count && nat_le count (length call.bytes) && reaches call.level level) (write_at entry call.offset (take count call.bytes)) None)) at
    ∙ (λ i. cond (asked i && there i && reached i) (write_at f call.offset (take count call.bytes)) None)

pub file_comes : (binds : Bindings) (tree : Tree) (number : ℕ) (mode : CreateMode) (handle : Option (List ℕ)) (path : Names) → entry_of tree number ≡ None
    → nat_lt (map.len tree) node_limit ≡ true → nat_le (first_size mode) file_limit ≡ true → gives_object binds handle number ≡ true
    → create_absent binds tree number mode handle path ≡ Some (Put path (file_node number (replicate (first_size mode) 0) (first_verifier mode)))
file_comes binds tree number mode handle path unused room small gives =
    λ i. only_if (is_none (unused i) && room i && small i && gives i) (Put path (file_node number (replicate (first_size mode) 0) (first_verifier mode)))
