-- What an answered call means for stable storage, where its handle names an object.
use Rattle.std.proofs.Common.{◌≡◌, inl, inr, ℕ, nat_le, ◌&&◌, true, false, length, take, Option, Some, None, refl, sym, ap, subst, ◌∙◌}
use Rattle.std.specs.Prelude.{option_and_then, option_map, is_none, if◌then◌else◌}
use Rattle.std.specs.Option.{option_map_or}
use Rattle.nfs3_types.specs.declared.calls.NfsCall.{NfsCall}
use Rattle.nfs3_types.specs.declared.calls.NfsCall.TheVariants as calls
use Rattle.nfs3_types.specs.declared.calls.StableHow.{StableHow}
use Rattle.nfs3_types.specs.declared.calls.StableHow.TheVariants as levels
use Rattle.nfs3_types.specs.declared.calls.WriteArguments.{WriteArguments}
use Rattle.nfs3_types.specs.declared.replies.WriteSuccess.{WriteSuccess}
use Rattle.nfs3_types.specs.declared.replies.Outcome.{Outcome}
use Rattle.nfs_history.specs.declared.recorded.Meaning.{Meaning}
use Rattle.nfs_history.specs.declared.recorded.Meaning.TheVariants as meanings
use Rattle.nfs_history.specs.declared.recorded.RecordedCall.{RecordedCall}
use Rattle.nfs_history.specs.declared.knowing.KnownCalls.{KnownCalls}
use Rattle.nfs_history.specs.Success.{write_success, commit_success}
use Rattle.certificate.specs.declared.plan.Place.{Place}
use Rattle.certificate.specs.declared.plan.Place.TheVariants.{Answered, Taken}
use Rattle.certificate.specs.Plan.{call_of}
use Rattle.order_check.specs.Places.{may_take, may_place}
use Rattle.tree_starts.specs.declared.profile.Profile.{Profile}
use Rattle.tree_starts.specs.declared.profile.Profile.TheVariants.{Plain, Strict}
use Rattle.tree_starts.specs.Start.{object_made}
use Rattle.tree_nodes.specs.Tree.{Tree, entry_of}
use Rattle.tree_nodes.proofs.Chains.{chained, both_pass}
use Rattle.tree_handles.specs.Binding.{Bindings, object_of}
use Rattle.tree_handles.specs.Live.{live_entry, as_file, file_of}
use Rattle.file_tree.specs.Strict.{judged}
use Rattle.file_tree.specs.Written.{reaches, write_at}
use Rattle.file_tree.specs.Success.{changed, change_of, next_tree}
use Rattle.file_tree.specs.Setting.{under, next_in}
use Rattle.cut_check.specs.declared.effect.Effect.{Effect}
use Rattle.cut_check.specs.declared.effect.Effect.TheVariants.{Nothing, Lasting, Unstable, Committed}
use Rattle.cut_check.specs.Effect.{of_object, at_level, effect_of_write, where_done, effect_of}
use Rattle.cut_check.specs.Places.{object_written, answered_with, answered_at, effect_at}
use Rattle.cut_check.specs.Verifier.{verifier_of, writes_bytes, verifier_at, writes_bytes_at}
use Rattle.decision_law.specs.NeverLost.{written, IsAnswered}
use Rattle.decision_law.specs.Machine.{MayComeOut, Changes}

-- ---- a lasting call lasts whatever object its handle names

level_lasts : (level : StableHow) (effect : Effect) → at_level level Nothing ≡ Lasting → at_level level effect ≡ Lasting
level_lasts levels.Unstable effect is = absurd cc
level_lasts levels.DataSync effect is = refl
level_lasts levels.FileSync effect is = refl

write_lasts : (object : Option ℕ) (offset : ℕ) (o : Option WriteSuccess) → where_done (effect_of_write None offset) o ≡ Lasting → where_done (effect_of_write object offset) o ≡ Lasting
write_lasts object offset None is = absurd cc
write_lasts object offset (Some success) is = level_lasts success.level (of_object (λ named. Unstable named offset success.count) object) is

never_lasts : {S : Type 0} (offset count : ℕ) (o : Option S) → where_done (λ success. of_object (λ named. Committed named offset count) None) o ≡ Lasting → ⊥
never_lasts offset count None is = cc
never_lasts offset count (Some success) is = cc

pub lasts_so : (object : Option ℕ) (call : NfsCall) (outcome : Outcome) → effect_of None call outcome ≡ Lasting → effect_of object call outcome ≡ Lasting
lasts_so object (calls.Write a) outcome is = write_lasts object a.offset (write_success outcome) is
lasts_so object (calls.Commit a) outcome is = absurd (never_lasts a.offset a.count (commit_success outcome) is)
lasts_so object (calls.GetAttr a) outcome is = is
lasts_so object (calls.SetAttr a) outcome is = is
lasts_so object (calls.Lookup a) outcome is = is
lasts_so object (calls.ReadLink a) outcome is = is
lasts_so object (calls.Read a) outcome is = is
lasts_so object (calls.Create a) outcome is = is
lasts_so object (calls.MkDir a) outcome is = is
lasts_so object (calls.SymLink a) outcome is = is
lasts_so object (calls.Remove a) outcome is = is
lasts_so object (calls.RmDir a) outcome is = is
lasts_so object (calls.Rename a) outcome is = is
lasts_so object (calls.ReadDir a) outcome is = is
lasts_so object (calls.ReadDirPlus a) outcome is = is

-- ---- the place of an answered call

some_or_none : (o : Option ℕ) (at : ℕ) → o ≡ Some at → is_none o ≡ true → ⊥
some_or_none None at some none = cc
some_or_none (Some x) at some none = cc

answer_is : (meaning : Meaning) (o : Option Outcome) (call : NfsCall) (outcome : Outcome) → meaning ≡ meanings.Judged call → o ≡ Some outcome → answered_with meaning o ≡ Some (call, outcome)
answer_is meaning o call outcome is has = ap (λ m. answered_with m o) is ∙ ap (answered_with (meanings.Judged call)) has

module _ (known : KnownCalls) where
  -- at its place an answered call stands with its answer
  pub answered_so : (place : Place) (recorded : RecordedCall) (call : NfsCall) (outcome : Outcome) (at : ℕ) → IsAnswered known (call_of place) recorded call outcome at → may_place place recorded ≡ true
      → answered_at known.calls place ≡ Some (call, outcome)
  answered_so (Answered n) recorded call outcome at a may =
      ap (option_and_then (λ r. answered_with r.meaning r.outcome)) a.stands ∙ answer_is recorded.meaning recorded.outcome call outcome a.judged a.answer
  answered_so (Taken n count) recorded call outcome at a may = absurd (some_or_none recorded.«end» at a.ended (both_pass (is_none recorded.«end») (may_take recorded.meaning count) may).0)

  module _ (binds : Bindings) (place : Place) (recorded : RecordedCall) (call : NfsCall) (outcome : Outcome) (at : ℕ) (a : IsAnswered known (call_of place) recorded call outcome at)
      (may : may_place place recorded ≡ true) where
    pub effect_so : effect_at binds known.calls place ≡ effect_of (object_written binds call) call outcome
    effect_so = ap (λ o. option_map_or (λ b. effect_of (object_written binds b.0) b.0 b.1) o Nothing) (answered_so place recorded call outcome at a may)

    pub verifier_so : verifier_at known.calls place ≡ verifier_of call outcome
    verifier_so = ap (option_and_then (λ b. verifier_of b.0 b.1)) (answered_so place recorded call outcome at a may)

    pub writes_so : writes_bytes_at known.calls place ≡ writes_bytes call outcome
    writes_so = ap (λ o. option_map_or (λ b. writes_bytes b.0 b.1) o false) (answered_so place recorded call outcome at a may)

-- ---- a WRITE that ran names an object

mapped : {A B : Type 0} (f : A → B) (o : Option A) (y : B) → option_map f o ≡ Some y → (x : A) × (o ≡ Some x)
mapped f None y is = absurd cc
mapped f (Some x) y is = (x, refl)

tree_names : (binds : Bindings) (tree after : Tree) (number : ℕ) (a : WriteArguments) (success : WriteSuccess) → next_tree binds tree number (calls.Write a) (written success) ≡ Some after
    → (object : ℕ) × (object_of binds a.file ≡ Some object)
tree_names binds tree after number a success is =
    let change = mapped (changed tree) (change_of binds tree number (calls.Write a) (written success)) after is in
    let entry = chained (λ entry. if nat_le success.count a.count && nat_le success.count (length a.bytes) && reaches a.level (Some success.level)
    then write_at entry a.offset (take success.count a.bytes) else None) (file_of binds tree a.file) change.0 change.1 in
    let live = chained (λ e. as_file e.0 e.1.object e.1.content) (live_entry binds tree a.file) entry.0 entry.1 in
    let found = chained (entry_of tree) (object_of binds a.file) live.0 live.1 in
    (found.0, found.1)

write_names : (profile : Profile) (binds : Bindings) (tree after : Tree) (number : ℕ) (a : WriteArguments) (success : WriteSuccess) → under profile binds tree number (calls.Write a) (written success) ≡ Some after
    → (object : ℕ) × (object_of binds a.file ≡ Some object)
write_names Plain binds tree after number a success is = tree_names binds tree after number a success is
write_names Strict binds tree after number a success is =
    let next = chained (judged binds tree (calls.Write a) (written success)) (next_tree binds tree number (calls.Write a) (written success)) after is in
    tree_names binds tree next.0 number a success next.1

module _ (known : KnownCalls) (binds : Bindings) where
  same_outcome : (recorded : RecordedCall) (outcome other : Outcome) (at : ℕ) → recorded.outcome ≡ Some outcome → recorded.«end» ≡ Some at → MayComeOut recorded other → other ≡ outcome
  same_outcome recorded outcome other at answer ended (inl is) = let same : Some other ≡ Some outcome = sym is ∙ answer in cc
  same_outcome recorded outcome other at answer ended (inr (count, none, may, is)) = let clash : Some at ≡ None = sym ended ∙ none in absurd cc

  -- so of a WRITE that was placed the handle names an object
  pub object_named : (n : ℕ) (recorded : RecordedCall) (a : WriteArguments) (success : WriteSuccess) (at : ℕ) (tree after : Tree) → IsAnswered known n recorded (calls.Write a) (written success) at
      → Changes known binds tree n after → (object : ℕ) × (object_of binds a.file ≡ Some object)
  object_named n recorded a success at tree after answered changes =
      let there : Some changes.recorded ≡ Some recorded = sym changes.stands ∙ answered.stands in
      let same : changes.recorded ≡ recorded = cc in
      let judged_so : recorded.meaning ≡ meanings.Judged changes.call = subst (λ r. r.meaning ≡ meanings.Judged changes.call) same changes.judged in
      let came : MayComeOut recorded changes.outcome = subst (λ r. MayComeOut r changes.outcome) same changes.came_out in
      let call_is : changes.call ≡ calls.Write a = same_call (sym judged_so ∙ answered.judged) in
      let outcome_is = same_outcome recorded (written success) changes.outcome at answered.answer answered.ended came in
      let leads : next_in known.head.profile (length known.head.start) binds tree n (calls.Write a) (written success) ≡ Some after =
      subst (λ c. next_in known.head.profile (length known.head.start) binds tree n c (written success) ≡ Some after) call_is
      (subst (λ o. next_in known.head.profile (length known.head.start) binds tree n changes.call o ≡ Some after) outcome_is changes.leads) in
      write_names known.head.profile binds tree after (object_made (length known.head.start) n) a success leads where
        same_call : {x y : NfsCall} → meanings.Judged x ≡ meanings.Judged y → x ≡ y
        same_call is = cc
