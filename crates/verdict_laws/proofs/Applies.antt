-- the laws' premises are met by the example
use Rattle.std.proofs.Common.{◌≡◌, ℕ, zero, suc, ◌<◌, ◌≤◌, List, [], ◌∷◌, ◌++◌, length, Some, None, refl, sym, subst, arith, inl, inr}
use Rattle.std.specs.Prelude.{IsSome, option_and_then}
use Rattle.std.specs.FinMap as map
use Rattle.nfs3_types.specs.declared.calls.StableHow.TheVariants.{Unstable, FileSync}
use Rattle.nfs3_types.specs.declared.calls.NfsCall.{NfsCall}
use Rattle.nfs3_types.specs.declared.calls.NfsCall.TheVariants as calls
use Rattle.nfs3_types.specs.declared.replies.Answer.TheVariants.{Done}
use Rattle.nfs3_types.specs.declared.replies.NfsReply.TheVariants as replies
use Rattle.nfs3_types.specs.declared.replies.Outcome.{Outcome}
use Rattle.nfs3_types.specs.declared.replies.Outcome.TheVariants.{Received}
use Rattle.certificate.specs.declared.plan.EraPlan.{EraPlan}
use Rattle.certificate.specs.declared.plan.Place.TheVariants.{Answered}
use Rattle.order_check.specs.Order.{EachEraRespectsOrder}
use Rattle.order_check.proofs.ShapeLaws.{shape_from_none}
use Rattle.replay_law.specs.Run.{TakenStep, state_after}
use Rattle.replay_law.proofs.Crashes.{none_runs, one_more_runs}
use Rattle.tree_starts.specs.Start.{fault_from, IsStart}
use Rattle.tree_nodes.specs.declared.node.Node.{Node}
use Rattle.tree_nodes.specs.Files.{file_node}
use Rattle.tree_nodes.specs.Tree.{Names, Tree, opening}
use Rattle.tree_nodes.proofs.Chains.{same_some}
use Rattle.tree_handles.specs.Binding.{Bindings}
use Rattle.file_tree.specs.Success.{next_tree}
use Rattle.tree_laws.specs.Outcomes.{step}
use Rattle.tree_laws.proofs.Replayed.{root, Has, put, entries_opening}
use Rattle.cut_check.specs.declared.effect.Effect.{Effect}
use Rattle.cut_check.specs.declared.effect.Effect.TheVariants as effects
use Rattle.cut_check.specs.Cut.{KeepsStable, CutsKeepStable}
use Rattle.cut_check.specs.Places.{bindings_of}
use Rattle.cut_check.specs.Stable.{IsStableAt}
use Rattle.cut_check.proofs.StableLaws.{stable_within, stable_at_cases}
use Rattle.witness_check.specs.Run.{era_of, Runs}
use Rattle.witness_check.specs.Witness.{IsWitness}
use Rattle.verdict_laws.specs.Example.{write_at, wrote, create, created, read, given, recorded, history, first_era, second_era, last_era, plan, quiet_history, quiet_plan, LawsApply}
use Rattle.verdict_laws.proofs.Begun as begun
use Rattle.verdict_laws.proofs.Checks.{not_before, ShowOnly, EachShowsOnly, all_agree}

-- ---- the order of the calls

in_order : EachEraRespectsOrder recorded plan.eras
in_order = (
  (
    (not_before recorded 2 1 5 2 refl refl (omega arith), (not_before recorded 3 1 7 2 refl refl (omega arith), tt)),
    ((not_before recorded 3 2 7 4 refl refl (omega arith), tt), (tt, tt)),
  ),
  (((not_before recorded 5 4 11 8 refl refl (omega arith), tt), (tt, tt)), ((tt, tt), tt)),
)

-- ---- the run

abbrev handles : Bindings
handles = bindings_of history.head.root plan.binds

abbrev f : Names
f = (102 ∷ []) ∷ []

abbrev file : List ℕ → Node
file bytes = file_node 1 bytes (Some (record { value = 7 }))

abbrev one : TakenStep NfsCall Outcome
one = step 1 create (Received created)

abbrev two : TakenStep NfsCall Outcome
two = step 2 (calls.Write (write_at 0 FileSync (120 ∷ 121 ∷ 122 ∷ []) 3)) (Received (wrote 3 FileSync 7))

abbrev three : TakenStep NfsCall Outcome
three = step 3 (calls.Write (write_at 0 Unstable (97 ∷ []) 1)) (Received (wrote 1 Unstable 7))

abbrev four : TakenStep NfsCall Outcome
four = step 4 (calls.Write (write_at 3 FileSync (119 ∷ []) 1)) (Received (wrote 1 FileSync 8))

abbrev five : TakenStep NfsCall Outcome
five = step 5 (calls.Write (write_at 0 Unstable (98 ∷ []) 1)) (Received (wrote 1 Unstable 8))

abbrev six : TakenStep NfsCall Outcome
six = step 6 (calls.Read read) (Received (replies.Read (Done given)))

abbrev Leads : Tree → TakenStep NfsCall Outcome → Tree → Type 0
Leads t x u = next_tree handles t x.number x.call x.outcome ≡ Some u

abbrev with_file : List ℕ → List (Names × Node)
with_file bytes = ([], root) ∷ (f, file bytes) ∷ []

made : (t : Tree) → Has t (([], root) ∷ []) → Leads t one (map.insert t f (file []))
made t is = simp (map.get-entries t, map.len-entries t, is)

written : (t : Tree) → Has t (with_file []) → Leads t two (map.insert t f (file (120 ∷ 121 ∷ 122 ∷ [])))
written t is = simp is

over : (t : Tree) → Has t (with_file (120 ∷ 121 ∷ 122 ∷ [])) → Leads t three (map.insert t f (file (97 ∷ 121 ∷ 122 ∷ [])))
over t is = simp is

behind : (t : Tree) → Has t (with_file (120 ∷ 121 ∷ 122 ∷ [])) → Leads t four (map.insert t f (file (120 ∷ 121 ∷ 122 ∷ 119 ∷ [])))
behind t is = simp is

over_again : (t : Tree) → Has t (with_file (120 ∷ 121 ∷ 122 ∷ 119 ∷ [])) → Leads t five (map.insert t f (file (98 ∷ 121 ∷ 122 ∷ 119 ∷ [])))
over_again t is = simp is

looked : (t : Tree) → Has t (with_file (120 ∷ 121 ∷ 122 ∷ 119 ∷ [])) → Leads t six t
looked t is = simp is

run : (t u : Tree) (x : TakenStep NfsCall Outcome) (xs : List (TakenStep NfsCall Outcome)) → Leads t x u → IsSome (state_after (next_tree handles) u xs) → IsSome (state_after (next_tree handles) t (x ∷ xs))
run t u x xs leads later = subst (λ o. IsSome (option_and_then (λ after. state_after (next_tree handles) after xs) o)) (sym leads) later

-- from the tree with xyz on
from_two : (xs : List (TakenStep NfsCall Outcome)) → ((t : Tree) → Has t (with_file (120 ∷ 121 ∷ 122 ∷ [])) → IsSome (state_after (next_tree handles) t xs))
    → IsSome (state_after (next_tree handles) opening (one ∷ two ∷ xs))
from_two xs later =
    let empty = map.insert opening f (file []) in
    let has_empty : Has empty (with_file []) = put opening _ f (file []) entries_opening in
    let three_bytes = map.insert empty f (file (120 ∷ 121 ∷ 122 ∷ [])) in
    run opening empty one (two ∷ xs) (made opening entries_opening) (run empty three_bytes two xs (written empty has_empty) (later three_bytes (put empty _ f (file (120 ∷ 121 ∷ 122 ∷ [])) has_empty)))

first_runs : IsSome (state_after (next_tree handles) opening (one ∷ two ∷ three ∷ []))
first_runs = from_two (three ∷ []) (λ t is. run t _ three [] (over t is) refl)

from_four : (x : TakenStep NfsCall Outcome) → ((t : Tree) → Has t (with_file (120 ∷ 121 ∷ 122 ∷ 119 ∷ [])) → IsSome (state_after (next_tree handles) t (x ∷ [])))
    → IsSome (state_after (next_tree handles) opening (one ∷ two ∷ four ∷ x ∷ []))
from_four x later = from_two (four ∷ x ∷ []) (λ t is. run t _ four (x ∷ []) (behind t is) (later _ (put t _ f (file (120 ∷ 121 ∷ 122 ∷ 119 ∷ [])) is)))

second_runs : IsSome (state_after (next_tree handles) opening (one ∷ two ∷ four ∷ five ∷ []))
second_runs = from_four five (λ t is. run t _ five [] (over_again t is) refl)

last_runs : IsSome (state_after (next_tree handles) opening (one ∷ two ∷ four ∷ six ∷ []))
last_runs = from_four six (λ t is. run t t six [] (looked t is) refl)

all_run : Runs history plan
all_run =
    let next = next_tree handles in
    let first = era_of recorded first_era in
    let second = era_of recorded second_era in
    one_more_runs next opening (first ∷ second ∷ []) (era_of recorded last_era)
    (one_more_runs next opening (first ∷ []) second (one_more_runs next opening [] first (none_runs next opening) first_runs) second_runs) last_runs

-- ---- the cuts

last_unstable : (front : List Effect) (object offset count position : ℕ) → length front < position → ¬ IsStableAt (front ++ effects.Unstable object offset count ∷ []) position
last_unstable front object offset count position past stable =
    elim (stable_at_cases front (effects.Unstable object offset count) position stable) [
      | inl here ↦ let none : here.1.1.0 < 0 = here.1.1.1 in omega arith
      | inr rest ↦ elim rest [ inl before ↦ let within = stable_within front position before in omega arith | inr reached ↦ reached.3 ]
    ]

first_keeps : KeepsStable handles recorded first_era
first_keeps position past = last_unstable (effects.Lasting ∷ effects.Lasting ∷ []) 1 0 1 position past

second_keeps : KeepsStable handles recorded second_era
second_keeps position past = last_unstable (effects.Lasting ∷ []) 1 0 1 position past

all_kept : CutsKeepStable handles recorded plan.eras
all_kept zero era there ended = absurd (cc)
all_kept (suc zero) era there ended = subst (KeepsStable handles recorded) (same_some first_era era there) first_keeps
all_kept (suc (suc zero)) era there ended = subst (KeepsStable handles recorded) (same_some second_era era there) second_keeps
all_kept (suc (suc (suc e))) era there ended = absurd (omega arith)

-- ---- the verifiers

each_shows : EachShowsOnly recorded plan.eras
each_shows zero era there = absurd (cc)
each_shows (suc zero) era there =
    subst (λ (x : EraPlan). ShowOnly recorded x.places 7) (same_some first_era era there) ((λ v e. absurd (cc)), ((λ v e. sym (same_some 7 v e)), ((λ v e. sym (same_some 7 v e)), tt)))
each_shows (suc (suc zero)) era there =
    subst (λ (x : EraPlan). ShowOnly recorded x.places 8) (same_some second_era era there) ((λ v e. sym (same_some 8 v e)), ((λ v e. sym (same_some 8 v e)), tt))
each_shows (suc (suc (suc zero))) era there = subst (λ (x : EraPlan). ShowOnly recorded x.places 9) (same_some last_era era there) ((λ v e. absurd (cc)), tt)
each_shows (suc (suc (suc (suc e)))) era there = absurd (cc)

-- ---- without a crash

abbrev quiet_era : EraPlan
quiet_era = record { places = Answered 1 ∷ Answered 2 ∷ []; cut = None }

quiet_shows : EachShowsOnly quiet_history.calls quiet_plan.eras
quiet_shows zero era there = absurd (cc)
quiet_shows (suc zero) era there =
    subst (λ (x : EraPlan). ShowOnly quiet_history.calls x.places 7) (same_some quiet_era era there) ((λ v e. absurd (cc)), ((λ v e. sym (same_some 7 v e)), tt))
quiet_shows (suc (suc e)) era there = absurd (cc)

quiet_kept : CutsKeepStable handles quiet_history.calls quiet_plan.eras
quiet_kept zero era there ended = absurd (cc)
quiet_kept (suc e) era there ended = absurd (omega arith)

quiet_witness : IsWitness quiet_history quiet_plan
quiet_witness = record {
  shape = shape_from_none 1 quiet_history.calls quiet_plan.eras refl;
  order = (((not_before quiet_history.calls 2 1 5 2 refl refl (omega arith), tt), (tt, tt)), tt);
  runs = one_more_runs (next_tree handles) opening [] (era_of quiet_history.calls quiet_era) (none_runs (next_tree handles) opening) (from_two [] (λ t is. refl));
  cuts = quiet_kept;
  verifiers = all_agree quiet_history.calls quiet_plan.eras quiet_shows;
}

-- ---- all of it

is_witness : IsWitness history plan
is_witness = record {
  shape = shape_from_none 3 recorded plan.eras refl;
  order = in_order;
  runs = all_run;
  cuts = all_kept;
  verifiers = all_agree recorded plan.eras each_shows;
}

nothing_stood : IsStart history.head.start
unfolding fault_from
nothing_stood = refl

pub laws_apply : LawsApply
laws_apply = record {
  begins = nothing_stood;
  quiet = quiet_witness;
  witness = is_witness;
  stable = record { ahead = effects.Lasting ∷ []; here = effects.Lasting; behind = effects.Unstable 1 0 1 ∷ []; stands = refl; number = refl; stable = tt };
  first_lost = refl;
  second_lost = refl;
  first_shows = (Answered 2, (1, omega arith, refl), refl);
  second_shows = (Answered 4, (0, omega arith, refl), refl);
  read_later = record {
    ahead = one ∷ [];
    m = 2;
    outcome = two.outcome;
    between = four ∷ [];
    n = 6;
    behind = [];
    stand = refl;
    object = 1;
    written_to = refl;
    read_from = refl;
    count = 3;
    counted = refl;
    was_written = (omega arith, omega arith);
    was_asked = omega arith;
    stays = λ tree reached. ((λ wrote. let past : 3 ≤ 0 = wrote.sets.2 in omega arith), λ after e. tt);
  };
  starts = begun.starts_right;
  strict = begun.is_witness;
  judged = refl;
  read_first = begun.read_first;
  stood = begun.stood;
  spared = begun.spared;
  was_read = begun.read_there;
  was_told = begun.told_there;
}
