-- What keeps the rule of a table of seen states.
use Rattle.std.proofs.Common.{◌≡◌, ◌≢◌, ⊎_elim, ℕ, zero, suc, ◌+◌, ◌<◌, ◌≤◌, ◌==◌, eqb, eq-eqb, ne_eqb, List, [], ◌∷◌, ◌++◌, length, set, get_or, cond, refl, sym, ap, ◌∙◌, subst, arith}
use Rattle.std.specs.Prelude.{slice_index}
use Rattle.std.specs.List.{sum_by}
use Rattle.std.proofs.lemmas.Bool.Decides.{nat_tests}
use Rattle.std.proofs.lemmas.List.{set-get_or, get_or-set_same, get_or-set_other}
use Rattle.std.proofs.Math.ListN.{length-set}
use Rattle.std.proofs.lemmas.List.Sums.{sum_by-set, sum_by_push, get_or-le-sum_by}
use mathlib.Core.Option.{some, some-injective, some-ne-none}
use mathlib.Core.Logic.{dite}
use native.Mathlib.Decide.{dec_lt, ℕ_discrete}
use lib.ListN.{get_elem?}
use Rattle.atomic_table.proofs.Lists.{at_set, at_snoc}
use Rattle.seen_states.specs.declared.view.View.{View}
use Rattle.seen_states.specs.Seen.{word_at, times, times_new, IsTold, view, fresh, together, IsSo, IsSeenTable}
use Rattle.seen_states.specs.Steps.{MayLook, MayTake, looked, took}
use Rattle.seen_states.proofs.Places.{word_at-lt, word_at_onto, word_at_once, times-set, times-append, times-last, times-at, times-nowhere}

-- what all were told

at_there : (views : List View) (seat : ℕ) (v : View) → get_elem? views seat ≡ some v → (seat < length views) × (get_or views seat v ≡ v)
at_there [] seat v at = absurd (some-ne-none v (sym at))
at_there (x ∷ xs) zero v at = (omega arith, some-injective x v at)
at_there (x ∷ xs) (suc seat) v at = let rest = at_there xs seat v at in (omega arith, rest.1)

each_set : (P : View → Type 0) (views : List View) (seat : ℕ) (w : View) → P w → ((j : ℕ) (u : View) → get_elem? views j ≡ some u → P u) → (j : ℕ) (u : View) → get_elem? (set views seat w) j ≡ some u → P u
each_set P views seat w mine others j u at =
    ⊎_elim (λ (x : (j ≡ seat) × (w ≡ u)). subst P x.1 mine) (λ (x : (j ≢ seat) × (get_elem? views j ≡ some u)). others j u x.1) (at_set views seat j w u at)

-- how often all were told New, after one view changes
times_new-set : (x : ℕ) (views : List View) (seat : ℕ) (v w : View) → get_elem? views seat ≡ some v → times_new x (set views seat w) + times x v.new_answers ≡ times_new x views + times x w.new_answers
times_new-set x views seat v w at =
    let here = at_there views seat v at in
    let f : View → ℕ = λ u. times x u.new_answers in
    let sum : sum_by f (set views seat w) + f (get_or views seat v) ≡ sum_by f views + f w = sum_by-set f views seat w v here.0 in
    subst (λ (u : View). sum_by f (set views seat w) + f u ≡ sum_by f views + f w) here.1 sum

-- one claimer was told New no more often than all
times_new-part : (x : ℕ) (views : List View) (seat : ℕ) (v : View) → get_elem? views seat ≡ some v → times x v.new_answers ≤ times_new x views
times_new-part x views seat v at =
    let here = at_there views seat v at in
    let f : View → ℕ = λ u. times x u.new_answers in
    let part : f (get_or views seat v) ≤ sum_by f views = get_or-le-sum_by f views seat v here.0 in
    subst (λ (u : View). f u ≤ sum_by f views) here.1 part

-- nothing was New twice
pub new_once : (n : ℕ) (words : List ℕ) (views : List View) → IsSeenTable n words views → (x : ℕ) → times_new x views ≤ 1
new_once n words views rule x =
    dite (ℕ_discrete x 0)
    (λ e. let none : times_new x views ≡ 0 = ap (λ y. times_new y views) e ∙ rule.never_free in omega arith)
    (λ held. let all = rule.new x held in let one = rule.apart x held in omega arith)

pub new_once_here : (n : ℕ) (words : List ℕ) (views : List View) (seat : ℕ) (v : View) → IsSeenTable n words views → get_elem? views seat ≡ some v → (x : ℕ) → times x v.new_answers ≤ 1
new_once_here n words views seat v rule at x = let part = times_new-part x views seat v at in let all = new_once n words views rule x in omega arith

-- what one was told Seen of was New to one
pub seen_was_new : (n : ℕ) (words : List ℕ) (views : List View) (seat : ℕ) (v : View) → IsSeenTable n words views → get_elem? views seat ≡ some v → (x : ℕ) → 0 < times x v.seen_answers → times_new x views ≡ 1
seen_was_new n words views seat v rule at x told =
    let stands = (rule.each seat v at).seen x told in
    let all = rule.new x stands.0 in
    let one = new_once n words views rule x in
    omega arith

-- a claimer that probed every word found none free, and none with its fingerprint
pub full_of_others : (n : ℕ) (words : List ℕ) (views : List View) (seat : ℕ) (v : View) → IsSeenTable n words views → get_elem? views seat ≡ some v → v.probed ≡ n
    → (i : ℕ) → i < n → (slice_index words i ≢ 0) × (slice_index words i ≢ v.fingerprint)
full_of_others n words views seat v rule at all i inside =
    let p = word_at_onto n v.fingerprint i inside in
    subst (λ (m : ℕ). (slice_index words m ≢ 0) × (slice_index words m ≢ v.fingerprint)) p.2 ((rule.each seat v at).probed p.0 (omega (arith, p.1)))

-- views

-- a view may change to one that is so, with the same New answers
pub viewed : (n : ℕ) (words : List ℕ) (views : List View) (seat : ℕ) (v w : View) → IsSeenTable n words views → get_elem? views seat ≡ some v → w.new_answers ≡ v.new_answers → IsSo n words w → IsSeenTable n words (set views seat w)
viewed n words views seat v w rule at same so =
    let counted : (x : ℕ) → times_new x (set views seat w) ≡ times_new x views = λ x.
    let sum = times_new-set x views seat v w at in
    let equal = ap (times x) same in
    omega arith in
    record {
      count = rule.count;
      apart = rule.apart;
      new = λ x held. counted x ∙ rule.new x held;
      never_free = counted 0 ∙ rule.never_free;
      each = each_set (IsSo n words) views seat w so rule.each;
      ahead = rule.ahead;
    }

fresh_so : (n : ℕ) (words : List ℕ) → IsSo n words fresh
fresh_so n words = record { seen = λ x told. absurd (omega arith); probed = λ j low. absurd (omega arith) }

-- the first claimer of free words
pub opens : (n : ℕ) (words : List ℕ) → length words ≡ n → ((i : ℕ) → slice_index words i ≡ 0) → IsSeenTable n words (fresh ∷ [])
opens n words long free =
    let nowhere : (x : ℕ) → x ≢ 0 → times x words ≡ 0 = λ x held. times-nowhere x words (λ i inside same. held (sym same ∙ free i)) in
    record {
      count = long;
      apart = λ x held. let none = nowhere x held in omega arith;
      new = λ x held. sym (nowhere x held);
      never_free = refl;
      each = one;
      ahead = λ x k j held inside stands earlier e. held (sym stands ∙ free (word_at n x k));
    }
  where
    one : (seat : ℕ) (v : View) → get_elem? (fresh ∷ []) seat ≡ some v → IsSo n words v
    one zero v at = subst (IsSo n words) (some-injective fresh v at) (fresh_so n words)
    one (suc seat) v at = absurd (some-ne-none v (sym at))

-- one claimer more
pub beside : (n : ℕ) (words : List ℕ) (views : List View) → IsSeenTable n words views → IsSeenTable n words (views ++ fresh ∷ [])
beside n words views rule =
    let counted : (x : ℕ) → times_new x (views ++ fresh ∷ []) ≡ times_new x views = λ x.
    let push = sum_by_push (λ (u : View). times x u.new_answers) views fresh in omega arith in
    record {
      count = rule.count;
      apart = rule.apart;
      new = λ x held. counted x ∙ rule.new x held;
      never_free = counted 0 ∙ rule.never_free;
      each = λ j u there. ⊎_elim (rule.each j u) (λ (e : fresh ≡ u). subst (IsSo n words) e (fresh_so n words)) (at_snoc views fresh u j there);
      ahead = rule.ahead;
    }

-- one takes another's answers in
pub joined : (n : ℕ) (words : List ℕ) (views : List View) (seat other : ℕ) (v w : View) → other ≢ seat → get_elem? views seat ≡ some v → get_elem? views other ≡ some w
    → get_elem? (set views seat (together v w)) other ≡ some w → IsSeenTable n words views → IsSeenTable n words (set (set views seat (together v w)) other fresh)
joined n words views seat other v w apart at there still rule =
    let both : View = together v w in
    let mine = rule.each seat v at in
    let theirs = rule.each other w there in
    let counted : (x : ℕ) → times_new x (set (set views seat both) other fresh) ≡ times_new x views = λ x.
    let first = times_new-set x views seat v both at in
    let second = times_new-set x (set views seat both) other w fresh still in
    let parts = times-append x v.new_answers w.new_answers in
    omega arith in
    record {
      count = rule.count;
      apart = rule.apart;
      new = λ x held. counted x ∙ rule.new x held;
      never_free = counted 0 ∙ rule.never_free;
      each = each_set (IsSo n words) (set views seat both) other fresh (fresh_so n words)
          (each_set (IsSo n words) views seat both
          (record {
            seen = λ x told.
                let parts = times-append x v.seen_answers w.seen_answers in
                dite (dec_lt 0 (times x v.seen_answers)) (λ here. mine.seen x here) (λ not_here. theirs.seen x (omega arith));
            probed = mine.probed;
          })
          rule.each);
      ahead = rule.ahead;
    }

-- looks

-- a fingerprint that stands at no place of its order stands nowhere, and no claimer was told of it
unknown : (n : ℕ) (words : List ℕ) (views : List View) (seat : ℕ) (v : View) (fp : ℕ) → IsSeenTable n words views → get_elem? views seat ≡ some v → fp ≢ 0
    → ((j : ℕ) → j < n → slice_index words (word_at n fp j) ≢ fp) → (times fp words ≡ 0) × ¬ IsTold fp v
unknown n words views seat v fp rule at not_free none =
    let long = rule.count in
    let nowhere : times fp words ≡ 0 = times-nowhere fp words (λ i inside same.
    let p = word_at_onto n fp i (omega arith) in
    none p.0 p.1 (ap (λ j. slice_index words j) p.2 ∙ same)) in (
      nowhere,
      λ told.
          let part = times_new-part fp views seat v at in
          let all = rule.new fp not_free in
          let seen : 0 < times fp v.seen_answers = omega arith in
          let stands = (rule.each seat v at).seen fp seen in
          absurd (omega arith),
    )

-- what the claim probed ahead of this place, which is nothing at the first
probed_before : (n fp k : ℕ) (words : List ℕ) (v : View) → IsSo n words v → (k ≢ 0 → (v.fingerprint ≡ fp) × (v.probed ≡ k))
    → (j : ℕ) → j < k → (slice_index words (word_at n fp j) ≢ 0) × (slice_index words (word_at n fp j) ≢ fp)
probed_before n fp k words v so goes j low =
    let is = goes (λ z. omega arith) in
    subst (λ f. (slice_index words (word_at n f j) ≢ 0) × (slice_index words (word_at n f j) ≢ f)) is.0 (so.probed j (omega arith))

-- what holds in each of the three cases holds of a look
pub looked_by : (P : View → Type 0) (fp k found : ℕ) (v : View) → (found ≡ 0 → P (view fp k v.new_answers v.seen_answers))
    → (found ≢ 0 → found ≡ fp → P (view fp k v.new_answers (v.seen_answers ++ fp ∷ []))) → (found ≢ 0 → found ≢ fp → P (view fp (k + 1) v.new_answers v.seen_answers))
    → P (looked fp k v found)
looked_by P fp k found v free same other =
    let stood : View = view fp k v.new_answers (v.seen_answers ++ fp ∷ []) in
    let further : View = view fp (k + 1) v.new_answers v.seen_answers in
    let none : View = view fp k v.new_answers v.seen_answers in
    dite (ℕ_discrete found 0)
    (λ e. subst (λ b. P (cond b none (cond (eqb found fp) stood further))) (sym (eq-eqb found 0 e)) (free e))
    (λ ne. subst (λ b. P (cond b none (cond (eqb found fp) stood further))) (sym (ne_eqb found 0 ne))
    (dite (ℕ_discrete found fp)
    (λ e. subst (λ b. P (cond b stood further)) (sym (eq-eqb found fp e)) (same ne e))
    (λ apart. subst (λ b. P (cond b stood further)) (sym (ne_eqb found fp apart)) (other ne apart))))

-- what a look leaves
pub record Keeps (n : ℕ) (words : List ℕ) (views : List View) (seat fp : ℕ) (v w : View) : Type 0 where
  pub rule : IsSeenTable n words (set views seat w)
  pub told : w.probed ≡ n → ¬ IsTold fp v

pub look_keeps : (n : ℕ) (words : List ℕ) (views : List View) (seat : ℕ) (v : View) (fp k : ℕ) → IsSeenTable n words views → get_elem? views seat ≡ some v → MayLook n fp k v
    → Keeps n words views seat fp v (looked fp k v (slice_index words (word_at n fp k)))
look_keeps n words views seat v fp k rule at may =
    let not_free = may.0 in
    let inside : k < n = may.1 in
    let so = rule.each seat v at in
    let long = rule.count in
    let i = word_at n fp k in
    let within : i < n = word_at-lt n fp k (omega arith) in
    let before = probed_before n fp k words v so may.2 in
    let keeps : (w : View) → w.new_answers ≡ v.new_answers → IsSo n words w → IsSeenTable n words (set views seat w) = λ w same so'. viewed n words views seat v w rule at same so' in
    looked_by (Keeps n words views seat fp v) fp k (slice_index words i) v
    (λ free. record { rule = keeps (view fp k v.new_answers v.seen_answers) refl (record { seen = so.seen; probed = before }); told = λ e. absurd (omega arith) })
    (λ held same. record {
      rule = keeps (view fp k v.new_answers (v.seen_answers ++ fp ∷ [])) refl (record {
        seen = λ x told. dite (ℕ_discrete x fp)
            (λ e. (λ z. not_free (sym e ∙ z), subst (λ y. 0 < times y words) (sym e) (times-at fp i words (omega arith) same)))
            (λ apart. so.seen x (let last = times-last x fp v.seen_answers in grind (arith, nat_tests)));
        probed = before;
      });
      told = λ e. absurd (omega arith);
    })
    (λ held apart.
    let further : (j : ℕ) → j < k + 1 → (slice_index words (word_at n fp j) ≢ 0) × (slice_index words (word_at n fp j) ≢ fp) = λ j low.
    dite (ℕ_discrete j k)
    (λ e. subst (λ (m : ℕ). (slice_index words (word_at n fp m) ≢ 0) × (slice_index words (word_at n fp m) ≢ fp)) (sym e) (held, apart))
    (λ other. before j (omega arith)) in
    record {
      rule = keeps (view fp (k + 1) v.new_answers v.seen_answers) refl (record { seen = so.seen; probed = further });
      told = λ e. (unknown n words views seat v fp rule at not_free (λ j low. (further j (omega arith)).1)).1;
    })

-- exchanges

-- what a claimer knows stays so where a free word is taken
grows : (n : ℕ) (words : List ℕ) (u : View) (i fp : ℕ) → length words ≡ n → i < n → slice_index words i ≡ 0 → IsSo n words u → IsSo n (set words i fp) u
grows n words u i fp long inside free so = record {
  seen = λ x told.
      let was = so.seen x told in
      let not_free : x ≢ 0 = was.0 in
      let change = times-set x i fp words (omega arith) in
      (not_free, grind (arith, nat_tests));
  probed = λ j low.
      let was = so.probed j low in
      let p = word_at n u.fingerprint j in
      let stays : get_or (set words i fp) p 0 ≡ get_or words p 0 = get_or-set_other words i p fp 0 (λ e. was.0 (ap (λ m. slice_index words m) e ∙ free)) in
      subst (λ m. (m ≢ 0) × (m ≢ u.fingerprint)) (sym stays) was;
}

-- the claim that takes a free word for its fingerprint
won : (n : ℕ) (words : List ℕ) (views : List View) (seat : ℕ) (v : View) (fp k : ℕ) → IsSeenTable n words views → get_elem? views seat ≡ some v → MayTake n fp k v
    → slice_index words (word_at n fp k) ≡ 0
    → IsSeenTable n (set words (word_at n fp k) fp) (set views seat (view fp k (v.new_answers ++ fp ∷ []) v.seen_answers)) × ¬ IsTold fp v
won n words views seat v fp k rule at may free =
    let not_free = may.0 in
    let inside : k < n = may.1 in
    let w : View = view fp k (v.new_answers ++ fp ∷ []) v.seen_answers in
    let i = word_at n fp k in
    let long = rule.count in
    let within : i < n = word_at-lt n fp k (omega arith) in
    let so = rule.each seat v at in
    let before : (j : ℕ) → j < k → (slice_index words (word_at n fp j) ≢ 0) × (slice_index words (word_at n fp j) ≢ fp) = probed_before n fp k words v so (λ _. (may.2, may.3)) in
    let nowhere : (j : ℕ) → j < n → slice_index words (word_at n fp j) ≢ fp = λ j low same.
    dite (dec_lt j k)
    (λ ahead. (before j ahead).1 same)
    (λ not_ahead. dite (ℕ_discrete j k)
    (λ e. not_free (sym same ∙ (ap (λ m. slice_index words (word_at n fp m)) e ∙ free)))
    (λ apart. rule.ahead fp j k not_free low same (omega arith) free)) in
    let none = unknown n words views seat v fp rule at not_free nowhere in
    let held_still : (j : ℕ) → slice_index words j ≢ 0 → get_or (set words i fp) j 0 ≢ 0 = λ j held e.
    held (sym (get_or-set_other words i j fp 0 (λ same. held (ap (λ m. slice_index words m) same ∙ free))) ∙ e) in
    let here : get_or (set words i fp) i 0 ≡ fp = get_or-set_same words i fp 0 (omega arith) in
    let counted : (x : ℕ) → times_new x (set views seat w) ≡ times_new x views + cond (fp == x) 1 0 = λ x.
    let sum = times_new-set x views seat v w at in
    let last = times-last x fp v.new_answers in
    omega arith in (
      record {
        count = length-set words i fp ∙ long;
        apart = λ x held.
            let change = times-set x i fp words (omega arith) in
            let one = rule.apart x held in
            dite (ℕ_discrete x fp)
            (λ e. let nothing : times x words ≡ 0 = ap (λ y. times y words) e ∙ none.0 in grind (arith, nat_tests))
            (λ apart. grind (arith, nat_tests));
        new = λ x held.
            let change = times-set x i fp words (omega arith) in
            let all = rule.new x held in
            let more = counted x in
            grind (arith, nat_tests);
        never_free = let more = counted 0 in let all = rule.never_free in grind (arith, nat_tests);
        each = each_set (IsSo n (set words i fp)) views seat w
            (grows n words w i fp long within free (record { seen = so.seen; probed = before }))
            (λ j u there. grows n words u i fp long within free (rule.each j u there));
        ahead = λ x m j held low stands earlier.
            dite (ℕ_discrete (word_at n x m) i)
            (λ taken.
            let is : x ≡ fp = sym stands ∙ (ap (λ p. get_or (set words i fp) p 0) taken ∙ here) in
            let same : m ≡ k = word_at_once n fp m k low inside (ap (λ y. word_at n y m) (sym is) ∙ taken) in
            held_still (word_at n x j) (subst (λ y. slice_index words (word_at n y j) ≢ 0) (sym is) (before j (omega arith)).0))
            (λ apart.
            let stood : slice_index words (word_at n x m) ≡ x = sym (get_or-set_other words i (word_at n x m) fp 0 apart) ∙ stands in
            held_still (word_at n x j) (rule.ahead x m j held low stood earlier));
      },
      none.1,
    )

-- what an exchange leaves, that puts a number in the place of what it found
pub record Exchanges (n : ℕ) (words : List ℕ) (views : List View) (seat fp k : ℕ) (v : View) (new : ℕ) : Type 0 where
  pub rule : IsSeenTable n (set words (word_at n fp k) new) (set views seat (took fp k v (slice_index words (word_at n fp k))))
  pub won_once : slice_index words (word_at n fp k) ≡ 0 → ¬ IsTold fp v
  pub told : (took fp k v (slice_index words (word_at n fp k))).probed ≡ n → ¬ IsTold fp v

pub take_wins : (n : ℕ) (words : List ℕ) (views : List View) (seat : ℕ) (v : View) (fp k : ℕ) → IsSeenTable n words views → get_elem? views seat ≡ some v → MayTake n fp k v
    → slice_index words (word_at n fp k) ≡ 0 → Exchanges n words views seat fp k v fp
take_wins n words views seat v fp k rule at may free =
    let done = won n words views seat v fp k rule at may free in
    let is : took fp k v (slice_index words (word_at n fp k)) ≡ view fp k (v.new_answers ++ fp ∷ []) v.seen_answers = ap (λ b. cond b (view fp k (v.new_answers ++ fp ∷ []) v.seen_answers) (looked fp k v (slice_index words (word_at n fp k)))) (eq-eqb (slice_index words (word_at n fp k)) 0 free) in
    record { rule = subst (λ w. IsSeenTable n (set words (word_at n fp k) fp) (set views seat w)) (sym is) done.0; won_once = λ _. done.1; told = λ _. done.1 }

pub take_loses : (n : ℕ) (words : List ℕ) (views : List View) (seat : ℕ) (v : View) (fp k : ℕ) → IsSeenTable n words views → get_elem? views seat ≡ some v → MayTake n fp k v
    → slice_index words (word_at n fp k) ≢ 0 → Exchanges n words views seat fp k v (slice_index words (word_at n fp k))
take_loses n words views seat v fp k rule at may held =
    let i = word_at n fp k in
    let look = look_keeps n words views seat v fp k rule at (may.0, may.1, (λ _. (may.2, may.3))) in
    let is : took fp k v (slice_index words i) ≡ looked fp k v (slice_index words i) = ap (λ b. cond b (view fp k (v.new_answers ++ fp ∷ []) v.seen_answers) (looked fp k v (slice_index words i))) (ne_eqb (slice_index words i) 0 held) in
    record {
      rule = subst (λ (z : List ℕ × View). IsSeenTable n z.0 (set views seat z.1)) (λ j. (sym (set-get_or words i 0) j, sym is j)) look.rule;
      won_once = λ free. absurd (held free);
      told = subst (λ (w : View). w.probed ≡ n → ¬ IsTold fp v) (sym is) look.told;
    }
