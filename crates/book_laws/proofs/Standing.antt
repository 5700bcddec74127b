-- each object that comes into the trees of a book's run is among those that were made
use Rattle.std.proofs.Common.{◌≡◌, ◌≢◌, inl, inr, ℕ, ◌<◌, ◌^◌, Bool, true, false, List, [], ◌∷◌, ◌++◌, length, take, drop, Some, None, refl, sym, ap, ◌∙◌, subst}
use Rattle.std.specs.Prelude.{IsSome, is_some, nat_lt, if◌then◌else◌, option_and_then}
use Rattle.std.specs.List.{AllByRecursion}
use Rattle.std.proofs.lemmas.List.{append_assoc, take-append-drop}
use Rattle.nfs3_types.specs.declared.replies.NfsReply.{NfsReply}
use Rattle.replay_law.specs.Run.{state_after, kept_steps}
use Rattle.tree_starts.specs.Head.{Head}
use Rattle.tree_starts.specs.Start.{object_made}
use Rattle.tree_nodes.specs.Tree.{Tree, entry_of}
use Rattle.tree_laws.proofs.Judged.{others_dont_matter_under}
use Rattle.journal.proofs.Numbers.{Among}
use Rattle.tree_nodes.proofs.Chains.{differ, same_some}
use Rattle.book_laws.specs.Placing.{Placed}
use Rattle.book_laws.specs.Book.{Book, Setting, bindings_made, setting, setting_made, object_by, object_in, next_by, tree_at_first}
use Rattle.book_laws.specs.Steps.{with_object, step_of, Places, Steps}
use Rattle.book_laws.specs.Steps.Steps.{begins, places, flushes, answers, closes, crashes, refuses}
use Rattle.book_laws.proofs.Invariant.{IsInvariant}
use Rattle.book_laws.proofs.Lists.{all_append}
use Rattle.book_laws.proofs.Starting.{other_object, call_alone}
use Rattle.book_laws.proofs.Handles.{agree_but}
use Rattle.book_laws.proofs.Bound.{AreApart, stays_absent_by, run_same, kept_apart}
use Rattle.book_laws.proofs.Newcomer.{apart_eras, others, isnt_zero}
use Rattle.book_laws.proofs.Recording.{kept_ended}

-- the steps run, and what each made is among the made
module _ (set : Setting) (made : List ℕ) where
  abbrev pub AllStand : Tree → List Placed → Type 0
  AllStand tree [] = Unit {0}
  AllStand tree (step ∷ steps) =
      (after : Tree) × (next_by set tree step.number step.call step.outcome ≡ Some after) × (IsSome (entry_of after (object_by set step.number)) → Among made (object_by set step.number)) × AllStand after steps

  stand_front : (tree : Tree) (xs ys : List Placed) → AllStand tree (xs ++ ys) → AllStand tree xs
  stand_front tree [] ys a = tt
  stand_front tree (x ∷ xs) ys a = (a.0, a.1, a.2, stand_front a.0 xs ys a.3)

  stand_more : (tree before after : Tree) (steps : List Placed) (step : Placed) → AllStand tree steps → state_after (next_by set) tree steps ≡ Some before
      → next_by set before step.number step.call step.outcome ≡ Some after → (IsSome (entry_of after (object_by set step.number)) → Among made (object_by set step.number)) → AllStand tree (steps ++ step ∷ [])
  stand_more tree before after [] step a reached next has =
      (after, ap (λ t. next_by set t step.number step.call step.outcome) (same_some tree before reached) ∙ next, has, tt)
  stand_more tree before after (s ∷ steps) step a reached next has =
      (a.0, a.1, a.2, stand_more a.0 before after steps step a.3 (sym (ap (option_and_then (λ t. state_after (next_by set) t steps)) a.1) ∙ reached) next has)

-- ---- one object more

pub among_with : (n : ℕ) (made : List ℕ) (object : ℕ) → Among made object → Among (with_object n made) object
among_with n [] object among = absurd among
among_with n (first ∷ made) object among = go (nat_lt n first) among (λ a. among_with n made object a) where
  go : (b : Bool) → Among (first ∷ made) object → (Among made object → Among (with_object n made) object) → Among (if b then n ∷ first ∷ made else first ∷ with_object n made) object
  go true a later = inr a
  go false (inl same) later = inl same
  go false (inr a) later = inr (later a)

among_own : (n : ℕ) (made : List ℕ) → Among (with_object n made) n
among_own n [] = inl refl
among_own n (first ∷ made) = go (nat_lt n first) (among_own n made) where
  go : (b : Bool) → Among (with_object n made) n → Among (if b then n ∷ first ∷ made else first ∷ with_object n made) n
  go true a = inl refl
  go false a = inr a

module _ (head : Head) (number : ℕ) (made : List ℕ) (lt : object_made (length head.start) number < 2 ^ 64)
    (apart_made : AllByRecursion (λ other. (other ≢ object_made (length head.start) number) × (other < 2 ^ 64)) made) where
  abbrev own : ℕ
  own = object_made (length head.start) number

  abbrev its : ℕ → ℕ
  its n = object_made (length head.start) n

  stand_same : (steps : List Placed) → AreApart number steps → (tree : Tree) → entry_of tree own ≡ None → AllStand (setting_made head made) made tree steps
      → AllStand (setting_made head (with_object own made)) (with_object own made) tree steps
  stand_same [] apart tree absent a = tt
  stand_same (step ∷ steps) apart tree absent a = (
    a.0,
    sym (others_dont_matter_under head.profile (bindings_made made) (bindings_made (with_object own made)) tree (its step.number) step.call step.outcome
        (agree_but own made lt apart_made tree (its step.number) (other_object (length head.start) step.number number apart.0) absent)) ∙ a.1,
    (λ stands. among_with own made (its step.number) (a.2 stands)),
    stand_same steps apart.1 a.0 (stays_absent_by (setting_made head made) tree a.0 step.number step.call step.outcome number a.1 absent apart.0) a.3,
  )

-- ---- the steps of a book

abbrev pub RunStands : Book → Type 0
RunStands book = AllStand (setting book) book.made (tree_at_first book) (kept_steps book.over ++ book.placed)

module _ (book : Book) (i : IsInvariant book) (number : ℕ) (reply : NfsReply) (new : Book) (p : Places book number reply new) (a : RunStands book) where
  abbrev head : Head
  head = book.history.known.head

  abbrev here : ℕ
  here = object_in book number

  abbrev so_far : List Placed
  so_far = kept_steps book.over ++ book.placed

  all_apart : AreApart number (kept_steps book.over ++ book.placed)
  all_apart = all_append _ (kept_steps book.over) book.placed (kept_apart number book.over (apart_eras book i number reply new p)) p.unplaced

  stand_placed : (b : Bool) → is_some (entry_of p.after here) ≡ b
      → next_by (setting_made head (if b then with_object here book.made else book.made)) p.before number p.call (step_of number p.call reply).outcome ≡ Some p.after
      → AllStand (setting_made head (if b then with_object here book.made else book.made)) (if b then with_object here book.made else book.made) (tree_at_first book)
      ((kept_steps book.over ++ book.placed) ++ step_of number p.call reply ∷ [])
  stand_placed true is next =
      let apart_made = others book i number reply new p in
      let alone = call_alone head.start i.start number (isnt_zero book i number reply new p) in
      stand_more (setting_made head (with_object here book.made)) (with_object here book.made) (tree_at_first book) p.before p.after so_far (step_of number p.call reply)
      (stand_same head number book.made p.numbered apart_made so_far all_apart (tree_at_first book) alone a) (sym (run_same head number book.made p.numbered apart_made so_far all_apart (tree_at_first book) alone) ∙ p.stood) next
      (λ stands. among_own here book.made)
  stand_placed false is next =
      stand_more (setting book) book.made (tree_at_first book) p.before p.after so_far (step_of number p.call reply) a p.stood next (λ stands. absurd (differ (is_some (entry_of p.after here)) stands is))

  stands_placed : AllStand (setting_made head (if is_some (entry_of p.after here) then with_object here book.made else book.made)) (if is_some (entry_of p.after here) then with_object here book.made else book.made)
      (tree_at_first book) (kept_steps book.over ++ (book.placed ++ step_of number p.call reply ∷ []))
  stands_placed =
      subst (AllStand (setting_made head (if is_some (entry_of p.after here) then with_object here book.made else book.made)) (if is_some (entry_of p.after here) then with_object here book.made else book.made) (tree_at_first book))
      (append_assoc (kept_steps book.over) book.placed (step_of number p.call reply ∷ [])) (stand_placed (is_some (entry_of p.after here)) refl p.next)

stands_crash : (book : Book) (front : ℕ) → RunStands book → AllStand (setting book) book.made (tree_at_first book) (kept_steps (book.over ++ record { steps = book.placed; kept = front } ∷ []) ++ [])
stands_crash book front a =
    let parts : kept_steps book.over ++ book.placed ≡ (kept_steps book.over ++ take front book.placed) ++ drop front book.placed =
    ap (λ xs. kept_steps book.over ++ xs) (sym (take-append-drop front book.placed)) ∙ sym (append_assoc (kept_steps book.over) (take front book.placed) (drop front book.placed)) in
    subst (AllStand (setting book) book.made (tree_at_first book)) (sym (kept_ended book.over book.placed front))
    (stand_front (setting book) book.made (tree_at_first book) (kept_steps book.over ++ take front book.placed) (drop front book.placed) (subst (AllStand (setting book) book.made (tree_at_first book)) parts a))

pub stands_on : (book new : Book) → IsInvariant book → RunStands book → Steps book new → RunStands new
stands_on book new i a (begins lane message b) = subst RunStands (sym b.done) a
stands_on book new i a (places number reply p) = subst RunStands (sym p.done) (stands_placed book i number reply new p a)
stands_on book new i a (flushes f) = subst RunStands (sym f.done) a
stands_on book new i a (answers number t) = subst RunStands (sym t.done) a
stands_on book new i a (closes lane c) = subst RunStands (sym c.done) a
stands_on book new i a (crashes keep c) = subst RunStands (sym c.done) (stands_crash book _ a)
stands_on book new i a (refuses r) = subst RunStands (sym r.done) a
