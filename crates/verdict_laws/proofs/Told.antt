-- the attributes that a reply gave are those of its object
use Rattle.std.proofs.Common.{◌≡◌, ℕ, Bool, true, false, cond, List, ◌∷◌, ◌++◌, length, Option, Some, None, refl, sym, ap, ◌∙◌, append_assoc}
use Rattle.std.specs.Prelude.{option_and_then, option_map}
use Rattle.std.specs.Option.{option_map_or}
use Rattle.std.specs.List.{flat_map, cons_option}
use Rattle.std.proofs.lemmas.List.Elements.{filter_map-append}
use Rattle.nfs3_types.specs.declared.attributes.FileAttributes.{FileAttributes}
use Rattle.nfs3_types.specs.declared.calls.NfsCall.{NfsCall}
use Rattle.nfs3_types.specs.declared.calls.NfsCall.TheVariants as calls
use Rattle.nfs3_types.specs.declared.calls.ReadArguments.{ReadArguments}
use Rattle.nfs3_types.specs.declared.replies.Answer.TheVariants.{Done}
use Rattle.nfs3_types.specs.declared.replies.ReadSuccess.{ReadSuccess}
use Rattle.nfs3_types.specs.declared.replies.NfsReply.{NfsReply}
use Rattle.nfs3_types.specs.declared.replies.NfsReply.TheVariants as replies
use Rattle.nfs3_types.specs.declared.replies.Outcome.{Outcome}
use Rattle.nfs3_types.specs.declared.replies.Outcome.TheVariants.{Received}
use Rattle.replay_law.specs.Run.{TakenStep, state_after}
use Rattle.tree_starts.specs.Start.{object_made}
use Rattle.tree_starts.specs.declared.profile.Profile.{Profile}
use Rattle.tree_starts.specs.declared.profile.Profile.TheVariants.{Strict}
use Rattle.nfs_history.specs.declared.recorded.Meaning.{Meaning}
use Rattle.nfs_history.specs.declared.recorded.Meaning.TheVariants as meanings
use Rattle.nfs_history.specs.declared.recorded.RecordedCall.{RecordedCall}
use Rattle.nfs_history.specs.declared.knowing.KnownCalls.{KnownCalls}
use Rattle.nfs_history.specs.Precedence.{call_at}
use Rattle.certificate.specs.declared.plan.Certificate.{Certificate}
use Rattle.certificate.specs.declared.plan.Place.{Place}
use Rattle.certificate.specs.declared.plan.Place.TheVariants.{Answered}
use Rattle.file_tree.specs.Change.Change.{Keep}
use Rattle.file_tree.specs.Setting.{under, next_in}
use Rattle.file_tree.specs.Success.{changed, next_tree}
use Rattle.file_tree.proofs.Profiles.{comes_out_plain}
use Rattle.tree_nodes.specs.declared.node.Node.{Node}
use Rattle.tree_nodes.specs.Tree.{Names, Tree}
use Rattle.tree_nodes.proofs.Chains.{chained, same_some, value_of}
use Rattle.tree_handles.specs.Binding.{Bindings}
use Rattle.tree_handles.specs.Live.{live_entry, file_of, as_file}
use Rattle.tree_laws.specs.Leaving.{only_looks}
use Rattle.tree_laws.specs.Outcomes.{step}
use Rattle.tree_laws.proofs.Judged.{getattr_is_true, read_is_true}
use Rattle.tree_laws.proofs.Kept.{looking_leaves}
use Rattle.tree_laws.proofs.Numbered.{split_in}
use Rattle.cut_check.specs.Places.{answered_with, answered_at, bindings_of}
use Rattle.witness_check.specs.Run.{step_with, step_of_call, step_at, steps_of, next_of, base_of}
use Rattle.witness_check.specs.Witness.{IsWitness}
use Rattle.verdict_laws.specs.Kept.{left_of}
use Rattle.verdict_laws.specs.Attributes.{StandsAt, GetAttrToldTruth, ReadToldTruth}
use Rattle.verdict_laws.proofs.Seen.{seen_runs}

-- ---- the step at the place

step_answered : (n : ℕ) (meaning : Meaning) (outcome : Option Outcome) (call : NfsCall) (o : Outcome) → answered_with meaning outcome ≡ Some (call, o)
    → option_and_then (step_with n meaning) outcome ≡ Some (step n call o)
step_answered n (meanings.Judged asked) (Some came) call o e = ap (λ (x : NfsCall × Outcome). Some (step n x.0 x.1)) (same_some (asked, came) (call, o) e)
step_answered n (meanings.Judged asked) None call o e = absurd (cc)
step_answered n meanings.Unjudged outcome call o e = absurd (cc)

step_there : (calls : List RecordedCall) (n : ℕ) (call : NfsCall) (o : Outcome) → answered_at calls (Answered n) ≡ Some (call, o) → step_at calls (Answered n) ≡ Some (step n call o)
step_there calls n call o e =
    let found = chained (λ (c : RecordedCall). answered_with c.meaning c.outcome) (call_at calls n) (call, o) e in
    ap (option_and_then (step_of_call (Answered n))) found.1 ∙ step_answered n found.0.meaning found.0.outcome call o found.2

-- the steps ahead of the place, its own and those behind it
parts : (calls : List RecordedCall) (kept first more places : List Place) (n : ℕ) (call : NfsCall) (o : Outcome) → places ≡ first ++ Answered n ∷ more
    → answered_at calls (Answered n) ≡ Some (call, o) → steps_of calls (kept ++ places) ≡ steps_of calls (kept ++ first) ++ step n call o ∷ steps_of calls more
parts calls kept first more places n call o is answered =
    ap (λ (xs : List Place). steps_of calls (kept ++ xs)) is
    ∙ ap (steps_of calls) (sym (append_assoc kept first (Answered n ∷ more)))
    ∙ filter_map-append (step_at calls) (kept ++ first) (Answered n ∷ more)
    ∙ ap (λ (one : Option (TakenStep NfsCall Outcome)). steps_of calls (kept ++ first) ++ cons_option one (steps_of calls more)) (step_there calls n call o answered)

-- the call comes out in the tree at its place
comes_out : (history : KnownCalls) (plan : Certificate) (call : NfsCall) (reply : NfsReply) (tree : Tree) → IsWitness history plan → (s : StandsAt history plan call reply tree)
    → (after : Tree) × (next_of history plan tree s.n call (Received reply) ≡ Some after)
comes_out history plan call reply tree witness s =
    let steps = steps_of history.calls (flat_map left_of s.ahead ++ s.first) in
    let own = step s.n call (Received reply) in
    let last = value_of _ (seen_runs history plan s.ahead s.behind s.era witness s.eras) in
    let run = split_in history.head.profile (length history.head.start) (bindings_of history.head.root plan.binds) (base_of history) last.0 steps (own ∷ steps_of history.calls s.more)
    (ap (state_after (next_of history plan) (base_of history)) (sym (parts history.calls (flat_map left_of s.ahead) s.first s.more s.era.places s.n call (Received reply) s.places s.answered)) ∙ last.1) in
    let same : run.0 ≡ tree = same_some run.0 tree (sym run.1 ∙ s.leads) in
    let next = chained (λ after. state_after (next_of history plan) after (steps_of history.calls s.more)) (next_of history plan run.0 s.n call (Received reply)) last.0 run.2 in
    (next.0, ap (λ (t : Tree). next_of history plan t s.n call (Received reply)) (sym same) ∙ next.1)

-- a call that only looks comes out so under the strict profile, and leaves the tree
looked : (profile : Profile) (first : ℕ) (binds : Bindings) (tree after : Tree) (n : ℕ) (call : NfsCall) (outcome : Outcome) → profile ≡ Strict → only_looks call ≡ true
    → next_in profile first binds tree n call outcome ≡ Some after
    → (under Strict binds tree (object_made first n) call outcome ≡ Some tree) × (next_tree binds tree (object_made first n) call outcome ≡ Some tree)
looked profile first binds tree after n call outcome is looks e =
    let strictly : under Strict binds tree (object_made first n) call outcome ≡ Some after = ap (λ (p : Profile). under p binds tree (object_made first n) call outcome) (sym is) ∙ e in
    let plain = comes_out_plain Strict binds tree after (object_made first n) call outcome strictly in
    let same : after ≡ tree = looking_leaves binds tree after (object_made first n) call outcome looks plain in
    (strictly ∙ ap Some same, plain ∙ ap Some same)

-- ---- the object stands

is_legal : (right : Bool) (tree after : Tree) → option_map (changed tree) (cond right (Some Keep) None) ≡ Some after → right ≡ true
is_legal true tree after e = refl
is_legal false tree after e = absurd (cc)

tested : {A : Type 0} (p : A → Bool) (o : Option A) → option_map_or p o false ≡ true → (x : A) × (o ≡ Some x)
tested p None e = absurd (cc)
tested p (Some x) e = (x, refl)

attributes_of : (binds : Bindings) (tree after : Tree) (number : ℕ) (object : List ℕ) (attributes : FileAttributes)
    → next_tree binds tree number (calls.GetAttr object) (Received (replies.GetAttr (Done attributes))) ≡ Some after → (e : Names × Node) × (live_entry binds tree object ≡ Some e)
attributes_of binds tree after number object attributes e = tested _ (live_entry binds tree object) (is_legal _ tree after e)

bytes_of : (binds : Bindings) (tree after : Tree) (number : ℕ) (read : ReadArguments) (answer : ReadSuccess)
    → next_tree binds tree number (calls.Read read) (Received (replies.Read (Done answer))) ≡ Some after → (e : Names × Node) × (live_entry binds tree read.file ≡ Some e)
bytes_of binds tree after number read answer e =
    let file = tested _ (file_of binds tree read.file) (is_legal _ tree after e) in
    let entry = chained (λ (x : Names × Node). as_file x.0 x.1.object x.1.content) (live_entry binds tree read.file) file.0 file.1 in
    (entry.0, entry.1)

-- ---- the laws

pub getattr_told_truth : GetAttrToldTruth
getattr_told_truth history plan object attributes tree witness is stands =
    let binds = bindings_of history.head.root plan.binds in
    let first = length history.head.start in
    let out = comes_out history plan (calls.GetAttr object) (replies.GetAttr (Done attributes)) tree witness stands in
    let here = looked history.head.profile first binds tree out.0 stands.n (calls.GetAttr object) (Received (replies.GetAttr (Done attributes))) is refl out.1 in
    let entry = attributes_of binds tree tree (object_made first stands.n) object attributes here.1 in
    (entry.0, entry.1, getattr_is_true binds tree tree (object_made first stands.n) object attributes entry.0 here.0 entry.1)

pub read_told_truth : ReadToldTruth
read_told_truth history plan read answer attributes tree witness is stands given =
    let binds = bindings_of history.head.root plan.binds in
    let first = length history.head.start in
    let out = comes_out history plan (calls.Read read) (replies.Read (Done answer)) tree witness stands in
    let here = looked history.head.profile first binds tree out.0 stands.n (calls.Read read) (Received (replies.Read (Done answer))) is refl out.1 in
    let entry = bytes_of binds tree tree (object_made first stands.n) read answer here.1 in
    (entry.0, entry.1, read_is_true binds tree tree (object_made first stands.n) read answer attributes entry.0 here.0 given entry.1)
