-- For the prover.
-- An open WRITE that is placed, and one whose count is chosen (a form of this project's own).
use Rattle.std.specs.Prelude.{◌≡◌, ◌⊎◌, ◌||◌, ℕ, ◌≤◌, Bool, false, List, [], ◌∷◌, Option, Some, None}
use Rattle.nfs3_types.specs.declared.calls.NfsCall.TheVariants as calls
use Rattle.nfs3_types.specs.declared.calls.WriteArguments.{WriteArguments}
use Rattle.nfs3_types.specs.declared.replies.Outcome.TheVariants.{Taken}
use Rattle.nfs_history.specs.declared.knowing.KnownCalls.{KnownCalls}
use Rattle.tree_starts.specs.declared.profile.Profile.TheVariants.{Plain}
use Rattle.tree_nodes.specs.Tree.{Tree}
use Rattle.tree_nodes.specs.Numbered.{IsNumbered}
use Rattle.tree_handles.specs.Binding.{Bindings, object_of}
use Rattle.file_tree.specs.Success.{next_tree}
use Rattle.alike_calls.specs.Writes.{IsCountOf}
use Rattle.decision_steps.specs.Standing.{Standing}
use Rattle.decision_walk.specs.declared.open_writes.OpenWrite.{OpenWrite}
use Rattle.decision_walk.specs.View.{KeptView, WalkView}
use Rattle.decision_walk.specs.Opening.{write_of, HasWritten, HasWrittenBase, is_open, open_at}

-- the WRITE that the call is leads from a tree to the next one, if it wrote so many bytes of this object's file; the handles stay
pub record HasWrote (known : KnownCalls) (call object count : ℕ) (stands next : Standing) : Type 0 where
  pub write : WriteArguments
  pub «is» : write_of known call ≡ Some write
  pub named : object_of stands.binds write.file ≡ Some object
  pub numbered : IsNumbered stands.tree
  pub number : ℕ
  pub leads : next_tree stands.binds stands.tree number (calls.Write write) (Taken (Some count)) ≡ Some next.tree

-- whatever the counts are of which this WRITE's is this one, both have all open WRITEs written alike
abbrev pub IsResolvedTo : KnownCalls → ℕ → ℕ → KeptView → KeptView → Type 0
IsResolvedTo known call count before after = (binds : Bindings) (counts : ℕ → ℕ) (other : Tree) → counts call ≡ count
    → HasWritten known binds counts before.writes before.tree other → HasWritten known binds counts after.writes after.tree other

-- so it is of what a crash goes back to
abbrev pub IsBaseResolvedTo : KnownCalls → ℕ → ℕ → Option KeptView → Option KeptView → Type 0
IsBaseResolvedTo known call count before after = (binds : Bindings) (counts : ℕ → ℕ) (other : Option Tree) → counts call ≡ count
    → HasWrittenBase known binds counts before other → HasWrittenBase known binds counts after other

-- the WRITE that call n is may be placed, and open, in the state: its file stands, and no sizes are asked for
pub record CanOpen (known : KnownCalls) (state : WalkView) (n : ℕ) (one : OpenWrite) : Type 0 where
  pub plain : known.head.profile ≡ Plain
  pub call : one.call ≡ n
  pub write : WriteArguments
  pub «is» : write_of known n ≡ Some write
  pub named : object_of state.binds write.file ≡ Some one.object
  pub numbered : IsNumbered state.tree
  pub least : one.least ≡ 0
  pub most : (count : ℕ) → IsCountOf write count → count ≤ one.most

abbrev pub is_open_base : Option KeptView → ℕ → Bool
is_open_base None n = false
is_open_base (Some kept) n = is_open kept.writes n

-- call n is no open WRITE
pub record IsNowhereOpen (state : WalkView) (n : ℕ) : Type 0 where
  pub here : is_open state.writes n ≡ false
  pub base : is_open_base state.base n ≡ false

-- ---- states that stand for others

-- whether call n is an open WRITE, here or in what a crash goes back to
abbrev pub is_open_in : WalkView → ℕ → Bool
is_open_in state n = is_open state.writes n || is_open_base state.base n

-- the open WRITE may have written nothing of the object that its handle names
pub record MayBeEmpty (known : KnownCalls) (binds : Bindings) (one : OpenWrite) : Type 0 where
  pub plain : known.head.profile ≡ Plain
  pub write : WriteArguments
  pub «is» : write_of known one.call ≡ Some write
  pub named : object_of binds write.file ≡ Some one.object
  pub least : one.least ≡ 0

module _ (known : KnownCalls) (binds : Bindings) (state : WalkView) where
  -- an open WRITE, which isn't one of the state, may have written nothing over a file of which none of these is
  pub record IsExtra (writes : List OpenWrite) (one : OpenWrite) : Type 0 where
    pub empty : MayBeEmpty known binds one
    pub other : is_open_in state one.call ≡ false
    pub alone : open_at writes one.object ≡ None

  -- the second WRITEs are the first ones, and extra ones
  abbrev pub Covers : List OpenWrite → List OpenWrite → Type 0
  Covers writes [] = writes ≡ []
  Covers writes (one ∷ others) = ((rest : List OpenWrite) × (writes ≡ one ∷ rest) × Covers rest others) ⊎ (IsExtra writes one × Covers writes others)

  -- so it is of what a crash goes back to, and the trees are the same
  abbrev pub HasBaseOver : Option KeptView → Option KeptView → Type 0
  HasBaseOver None None = Unit {0}
  HasBaseOver (Some kept) (Some other) = Covers kept.writes other.writes × (kept.tree ≡ other.tree)
  HasBaseOver _ _ = ⊥

  abbrev pub HasBaseOf : Option KeptView → Type 0
  HasBaseOf other = HasBaseOver state.base other
