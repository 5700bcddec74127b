-- calls that are numbered behind a start, under a profile, as calls of the numbers of their objects under the plain one
use Rattle.std.proofs.Common.{◌≡◌, ◌<◌, ℕ, zero, suc, List, [], ◌∷◌, ◌++◌, map, Some, refl, sym, ap, ◌∙◌, subst, arith}
use Rattle.std.specs.Prelude.{◌≢◌, option_and_then}
use Rattle.std.specs.List.{AllByRecursion}
use Rattle.nfs3_types.specs.declared.calls.NfsCall.{NfsCall}
use Rattle.nfs3_types.specs.declared.replies.Outcome.{Outcome}
use Rattle.replay_law.specs.Run.{TakenStep, state_after}
use Rattle.tree_starts.specs.Start.{object_made}
use Rattle.tree_starts.specs.declared.profile.Profile.{Profile}
use Rattle.tree_starts.specs.declared.profile.Profile.TheVariants.{Plain}
use Rattle.tree_nodes.specs.Tree.{Tree, opening}
use Rattle.tree_nodes.proofs.Chains.{chained, same_some}
use Rattle.tree_handles.specs.Binding.{Bindings}
use Rattle.file_tree.specs.Setting.{next_in}
use Rattle.file_tree.specs.StartTree.{start_tree}
use Rattle.file_tree.specs.Success.{next_tree}
use Rattle.file_tree.proofs.Profiles.{comes_out_plain}
use Rattle.tree_laws.specs.WritingOver.{NoneWritesOver}

abbrev pub Steps : Type 0
Steps = List (TakenStep NfsCall Outcome)

abbrev pub shifted : ℕ → TakenStep NfsCall Outcome → TakenStep NfsCall Outcome
shifted first one = record { number = object_made first one.number; call = one.call; outcome = one.outcome }

-- ---- numbers

pub one_number : (first n m : ℕ) → object_made first n ≡ object_made first m → n ≡ m
one_number zero n m e = e
one_number (suc first) n m e = omega (arith, e)

pub past : (first n : ℕ) → n ≢ 0 → first < object_made first n
past zero zero apart = absurd (apart refl)
past zero (suc n) apart = omega arith
past (suc first) zero apart = absurd (apart refl)
past (suc first) (suc n) apart = omega arith

pub all_shifted : (first : ℕ) (P Q : TakenStep NfsCall Outcome → Type 0) (steps : Steps) → ((one : TakenStep NfsCall Outcome) → P one → Q (shifted first one)) → AllByRecursion P steps
    → AllByRecursion Q (map (shifted first) steps)
all_shifted first P Q [] so all = tt
all_shifted first P Q (one ∷ steps) so all = (so one all.0, all_shifted first P Q steps so all.1)

-- ---- runs

-- where nothing stood at first, under the plain profile, a run is one from the opening tree
pub as_from_nothing : (binds : Bindings) (steps : Steps) → state_after (next_in Plain 0 binds) (start_tree []) steps ≡ state_after (next_tree binds) opening steps
as_from_nothing binds steps = refl

-- a run under a profile is one under the plain rules
pub runs_plain : (profile : Profile) (first : ℕ) (binds : Bindings) (start last : Tree) (steps : Steps) → state_after (next_in profile first binds) start steps ≡ Some last
    → state_after (next_tree binds) start (map (shifted first) steps) ≡ Some last
runs_plain profile first binds start last [] e = e
runs_plain profile first binds start last (one ∷ steps) e =
    let next = chained (λ after. state_after (next_in profile first binds) after steps) (next_in profile first binds start one.number one.call one.outcome) last e in
    ap (option_and_then (λ after. state_after (next_tree binds) after (map (shifted first) steps)))
    (comes_out_plain profile binds start next.0 (object_made first one.number) one.call one.outcome next.1)
    ∙ runs_plain profile first binds next.0 last steps next.2

-- what is so of a run that was taken is so of it under the plain rules
pub spared_plain : (profile : Profile) (first : ℕ) (binds : Bindings) (object byte : ℕ) (start last : Tree) (steps : Steps) → state_after (next_in profile first binds) start steps ≡ Some last
    → NoneWritesOver profile first binds object byte start steps → NoneWritesOver Plain 0 binds object byte start (map (shifted first) steps)
spared_plain profile first binds object byte start last [] e none = tt
spared_plain profile first binds object byte start last (one ∷ steps) e none =
    let next = chained (λ after. state_after (next_in profile first binds) after steps) (next_in profile first binds start one.number one.call one.outcome) last e in
    let plain = comes_out_plain profile binds start next.0 (object_made first one.number) one.call one.outcome next.1 in
    let rest = spared_plain profile first binds object byte next.0 last steps next.2 (none.1 next.0 next.1) in
    (none.0, λ after out. subst (λ (t : Tree). NoneWritesOver Plain 0 binds object byte t (map (shifted first) steps)) (same_some next.0 after (sym plain ∙ out)) rest)

-- the parts of a run
pub split_in : (profile : Profile) (first : ℕ) (binds : Bindings) (start last : Tree) (ahead behind : Steps) → state_after (next_in profile first binds) start (ahead ++ behind) ≡ Some last
    → (middle : Tree) × (state_after (next_in profile first binds) start ahead ≡ Some middle) × (state_after (next_in profile first binds) middle behind ≡ Some last)
split_in profile first binds start last [] behind e = (start, refl, e)
split_in profile first binds start last (one ∷ ahead) behind e =
    let next = chained (λ after. state_after (next_in profile first binds) after (ahead ++ behind)) (next_in profile first binds start one.number one.call one.outcome) last e in
    let parts = split_in profile first binds next.0 last ahead behind next.2 in
    (parts.0, ap (option_and_then (λ after. state_after (next_in profile first binds) after ahead)) next.1 ∙ parts.1, parts.2)

-- one more step
pub join_in : (profile : Profile) (first : ℕ) (binds : Bindings) (start middle last : Tree) (ahead : Steps) (one : TakenStep NfsCall Outcome)
    → state_after (next_in profile first binds) start ahead ≡ Some middle → next_in profile first binds middle one.number one.call one.outcome ≡ Some last
    → state_after (next_in profile first binds) start (ahead ++ one ∷ []) ≡ Some last
join_in profile first binds start middle last [] one e next =
    ap (λ (t : Tree). option_and_then (λ after. Some after) (next_in profile first binds t one.number one.call one.outcome)) (same_some start middle e) ∙ ap (option_and_then (λ after. Some after)) next
join_in profile first binds start middle last (other ∷ ahead) one e next =
    let then_on = chained (λ after. state_after (next_in profile first binds) after ahead) (next_in profile first binds start other.number other.call other.outcome) middle e in
    ap (option_and_then (λ after. state_after (next_in profile first binds) after (ahead ++ one ∷ []))) then_on.1
    ∙ join_in profile first binds then_on.0 middle last ahead one then_on.2 next
