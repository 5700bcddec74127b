-- the laws' premises are met by the example behind a start
use Rattle.std.proofs.Common.{◌≡◌, zero, suc, List, [], ◌∷◌, length, Some, None, refl, sym, ap, ◌∙◌, subst, arith}
use Rattle.std.specs.Prelude.{IsSome, option_and_then}
use Rattle.std.specs.FinMap as map
use Rattle.nfs3_types.specs.declared.calls.NfsCall.{NfsCall}
use Rattle.nfs3_types.specs.declared.calls.NfsCall.TheVariants as calls
use Rattle.nfs3_types.specs.declared.replies.Answer.TheVariants.{Done}
use Rattle.nfs3_types.specs.declared.replies.NfsReply.TheVariants as replies
use Rattle.nfs3_types.specs.declared.replies.Outcome.{Outcome}
use Rattle.nfs3_types.specs.declared.replies.Outcome.TheVariants.{Received}
use Rattle.replay_law.specs.Run.{TakenStep, state_after}
use Rattle.replay_law.proofs.Crashes.{none_runs, one_more_runs}
use Rattle.tree_starts.specs.Start.{is_parent, is_free, fault_from, IsStart}
use Rattle.tree_starts.specs.declared.profile.Profile.TheVariants.{Strict}
use Rattle.certificate.specs.declared.plan.EraPlan.{EraPlan}
use Rattle.certificate.specs.declared.plan.Place.TheVariants.{Answered}
use Rattle.order_check.proofs.ShapeLaws.{shape_from_none}
use Rattle.tree_nodes.specs.declared.node.Node.{Node}
use Rattle.tree_nodes.specs.Files.{file_node}
use Rattle.tree_nodes.specs.Place as place
use Rattle.tree_nodes.specs.Tree.{Names, Tree, opening}
use Rattle.tree_nodes.proofs.Chains.{same_some}
use Rattle.tree_handles.specs.Binding.{Bindings}
use Rattle.file_tree.specs.StartTree.{with_object}
use Rattle.tree_laws.specs.Example.{of_size}
use Rattle.tree_laws.specs.FirstBytes.{ReadsFirst}
use Rattle.tree_laws.specs.Outcomes.{step}
use Rattle.tree_laws.specs.StandsOn.{AllSpare}
use Rattle.tree_laws.proofs.Replayed.{root, Has, put, entries_opening}
use Rattle.cut_check.specs.Cut.{CutsKeepStable}
use Rattle.cut_check.specs.Places.{bindings_of}
use Rattle.witness_check.specs.Run.{era_of, steps_of, next_of, base_of, Runs}
use Rattle.witness_check.specs.Witness.{IsWitness}
use Rattle.verdict_laws.specs.Attributes.{StandsAt}
use Rattle.verdict_laws.specs.Example.{read, first_file, its_path, told, strict_history, strict_era, strict_plan}
use Rattle.verdict_laws.specs.Kept.{order_seen}
use Rattle.verdict_laws.proofs.Checks.{not_before, ShowOnly, EachShowsOnly, all_agree}

pub starts_right : IsStart strict_history.head.start
unfolding fault_from is_parent is_free
starts_right = refl

-- ---- the start

abbrev handles : Bindings
handles = bindings_of strict_history.head.root strict_plan.binds

abbrev abc : Node
abc = file_node 1 (97 ∷ 98 ∷ 99 ∷ []) None

abbrev with_file : List (Names × Node)
with_file = ([], root) ∷ (its_path, abc) ∷ []

abbrev first_tree : Tree
first_tree = map.insert opening its_path abc

has_first : Has first_tree with_file
has_first = put opening (([], root) ∷ []) its_path abc entries_opening

with_first : (t : Tree) → Has t (([], root) ∷ []) → with_object t 1 first_file ≡ map.insert t its_path abc
with_first t is = simp is

begins : base_of strict_history ≡ first_tree
begins = with_first opening entries_opening

at_path : (t : Tree) → Has t with_file → place.path_of t 1 ≡ Some its_path
at_path t is = simp is

pub stood : place.path_of (base_of strict_history) 1 ≡ Some its_path
stood = ap (λ (t : Tree). place.path_of t 1) begins ∙ at_path first_tree has_first

-- ---- the run

abbrev one : TakenStep NfsCall Outcome
one = step 1 (calls.Read read) (Received (replies.Read (Done told)))

abbrev two : TakenStep NfsCall Outcome
two = step 2 (calls.GetAttr (1 ∷ [])) (Received (replies.GetAttr (Done (of_size 3))))

abbrev Stays : Tree → TakenStep NfsCall Outcome → Type 0
Stays t x = next_of strict_history strict_plan t x.number x.call x.outcome ≡ Some t

was_read : (t : Tree) → Has t with_file → Stays t one
was_read t is = simp is

was_told : (t : Tree) → Has t with_file → Stays t two
was_told t is = simp is

read_first_of_all : Stays (base_of strict_history) one
read_first_of_all = subst (λ (t : Tree). Stays t one) (sym begins) (was_read first_tree has_first)

then_told : Stays (base_of strict_history) two
then_told = subst (λ (t : Tree). Stays t two) (sym begins) (was_told first_tree has_first)

run : (t : Tree) (x : TakenStep NfsCall Outcome) (xs : List (TakenStep NfsCall Outcome)) → Stays t x → IsSome (state_after (next_of strict_history strict_plan) t xs)
    → IsSome (state_after (next_of strict_history strict_plan) t (x ∷ xs))
run t x xs stays later = subst (λ o. IsSome (option_and_then (λ after. state_after (next_of strict_history strict_plan) after xs) o)) (sym stays) later

all_run : Runs strict_history strict_plan
all_run =
    let next = next_of strict_history strict_plan in
    let base = base_of strict_history in
    one_more_runs next base [] (era_of strict_history.calls strict_era) (none_runs next base) (run base one (two ∷ []) read_first_of_all (run base two [] then_told refl))

-- ---- the plan

all_kept : CutsKeepStable handles strict_history.calls strict_plan.eras
all_kept zero era there ended = absurd (cc)
all_kept (suc e) era there ended = absurd (omega arith)

each_shows : EachShowsOnly strict_history.calls strict_plan.eras
each_shows zero era there = absurd (cc)
each_shows (suc zero) era there =
    subst (λ (x : EraPlan). ShowOnly strict_history.calls x.places 7) (same_some strict_era era there) ((λ v e. absurd (cc)), ((λ v e. absurd (cc)), tt))
each_shows (suc (suc e)) era there = absurd (cc)

pub is_witness : IsWitness strict_history strict_plan
is_witness = record {
  shape = shape_from_none 1 strict_history.calls strict_plan.eras refl;
  order = (((not_before strict_history.calls 2 1 5 2 refl refl (omega arith), tt), (tt, tt)), tt);
  runs = all_run;
  cuts = all_kept;
  verifiers = all_agree strict_history.calls strict_plan.eras each_shows;
}

-- ---- what the laws ask

pub read_first : ReadsFirst Strict strict_history.head.start handles (steps_of strict_history.calls (order_seen [] strict_era)) (97 ∷ 98 ∷ 99 ∷ []) read told 2
read_first = record {
  ahead = [];
  n = 1;
  behind = two ∷ [];
  stand = refl;
  k = 0;
  o = first_file;
  listed = refl;
  file = refl;
  read_from = refl;
  had = omega arith;
  was_asked = omega arith;
  stays = tt;
}

pub spared : AllSpare Strict (length strict_history.head.start) handles its_path (base_of strict_history) (steps_of strict_history.calls (order_seen [] strict_era))
spared = ((λ same. absurd (cc)), λ after e. ((λ same. absurd (cc)), λ last f. tt))

pub read_there : StandsAt strict_history strict_plan (calls.Read read) (replies.Read (Done told)) (base_of strict_history)
read_there = record {
  ahead = [];
  era = strict_era;
  behind = [];
  eras = refl;
  first = [];
  n = 1;
  more = Answered 2 ∷ [];
  places = refl;
  answered = refl;
  leads = refl;
}

pub told_there : StandsAt strict_history strict_plan (calls.GetAttr (1 ∷ [])) (replies.GetAttr (Done (of_size 3))) (base_of strict_history)
told_there = record {
  ahead = [];
  era = strict_era;
  behind = [];
  eras = refl;
  first = Answered 1 ∷ [];
  n = 2;
  more = [];
  places = refl;
  answered = refl;
  leads = ap (option_and_then (λ (after : Tree). Some after)) read_first_of_all;
}
