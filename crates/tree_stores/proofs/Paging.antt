-- pages, and the bytes that they keep
use Rattle.std.proofs.Common.{◌≡◌, ℕ, ◌-◌, ◌/◌, ◌%◌, ◌<◌, ◌≤◌, ◌⊎◌, inl, inr, Bool, true, false, cond, eqb, List, [], ◌∷◌, ◌++◌, length, get_or, set, take, drop, reverse, replicate, Option, Some, None, refl, sym, ap, ◌∙◌, subst, arith}
use Rattle.std.specs.Prelude.{All, slice_index, unwrap_or, is_some}
use Rattle.std.specs.Ordering.{is_eq, nat_cmp}
use Rattle.std.specs.BTreeMap as tree
use Rattle.std.specs.BTreeMap.{is_at}
use Rattle.std.specs.Map.{lookup}
use Rattle.std.proofs.lemmas.Bool.{cases_eq, cond-true, cond-false, eq-eqb, ne_eqb}
use Rattle.std.proofs.lemmas.Bool.Decides.{nat_tests}
use Rattle.std.proofs.lemmas.List.{get_or_past, get_or-take, length-take, take_more, take-set, drop-set}
use Rattle.std.proofs.lemmas.Grind.{reverse_onto}
use Rattle.tree_stores.specs.declared.file_bytes.page.TheConstants.{PAGE}
use Rattle.tree_stores.specs.declared.file_bytes.changes.Change.{Change}
use Rattle.tree_stores.specs.declared.file_bytes.pages.Pages.{Pages}
use Rattle.tree_stores.specs.Paged.{page_of, byte_of, HasRoom, changed}
use Rattle.tree_stores.proofs.Places.{by_places, zeros}

pub same_number : (a b : ℕ) → is_eq (nat_cmp a b) ≡ eqb a b
same_number a b = grind (arith, nat_tests)

-- ---- pages that keep the same

pub same_pages : (old new : Pages) → ((number : ℕ) → page_of new number ≡ page_of old number) → byte_of new ≡ byte_of old
unfolding byte_of
same_pages old new h = by_places (byte_of new) (byte_of old) (λ i. ap (λ (page : List ℕ). get_or page (i % PAGE) 0) (h (i / PAGE)))

-- the pages behind the first, as entries
abbrev page_in : List (ℕ × List ℕ) → ℕ → List ℕ
page_in es number = unwrap_or (lookup (is_at (nat_cmp number)) es) []

pub same_parts : (old new : Pages) → new.first ≡ old.first → new.rest.entries ≡ old.rest.entries → byte_of new ≡ byte_of old
same_parts old new f e =
    same_pages old new
    (λ number. ap (λ (page : List ℕ). cond (eqb number 0) page (page_in new.rest.entries number)) f
    ∙ ap (λ (es : List (ℕ × List ℕ)). cond (eqb number 0) old.first (page_in es number)) e)

-- ---- a first page alone

none_behind : (b : Bool) (i : ℕ) → ◌≡◌ {A = ℕ} (get_or (cond b [] []) i 0) 0
none_behind true i = refl
none_behind false i = refl

pub no_pages : (pages : Pages) → pages.first ≡ [] → pages.rest.entries ≡ [] → byte_of pages ≡ (λ _. 0)
unfolding byte_of
no_pages pages f e =
    by_places (byte_of pages) (λ _. 0)
    (λ i. ap (λ (page : List ℕ). get_or (cond (eqb (i / PAGE) 0) page (page_in pages.rest.entries (i / PAGE))) (i % PAGE) 0) f
    ∙ ap (λ (es : List (ℕ × List ℕ)). get_or (cond (eqb (i / PAGE) 0) [] (page_in es (i / PAGE))) (i % PAGE) 0) e
    ∙ none_behind (eqb (i / PAGE) 0) (i % PAGE))

pub zeros_read : (pages : Pages) (size : ℕ) → byte_of pages ≡ (λ _. 0) → byte_of pages ≡ slice_index (replicate size 0)
zeros_read pages size e = e ∙ by_places (λ _. 0) (slice_index (replicate size 0)) (λ i. sym (zeros size i))

pub one_page : (pages : Pages) (bytes : List ℕ) → pages.first ≡ bytes → pages.rest.entries ≡ [] → length bytes ≤ PAGE → byte_of pages ≡ slice_index bytes
unfolding byte_of
one_page pages bytes f e fits = by_places (byte_of pages) (slice_index bytes) (λ i. go i (cases_eq (i / PAGE) 0)) where
  parts : (i : ℕ) → byte_of pages i ≡ get_or (cond (eqb (i / PAGE) 0) bytes []) (i % PAGE) 0
  parts i =
      ap (λ (page : List ℕ). get_or (cond (eqb (i / PAGE) 0) page (page_in pages.rest.entries (i / PAGE))) (i % PAGE) 0) f
      ∙ ap (λ (es : List (ℕ × List ℕ)). get_or (cond (eqb (i / PAGE) 0) bytes (page_in es (i / PAGE))) (i % PAGE) 0) e

  go : (i : ℕ) → (i / PAGE ≡ 0) ⊎ (i / PAGE ≡ 0 → ⊥) → byte_of pages i ≡ get_or bytes i 0
  go i (inl here) =
      parts i ∙ ap (λ (page : List ℕ). get_or page (i % PAGE) 0) (cond-true (eqb (i / PAGE) 0) bytes [] (eq-eqb (i / PAGE) 0 here))
      ∙ ap (λ (n : ℕ). get_or bytes n 0) (omega arith)
  go i (inr ne) =
      parts i ∙ ap (λ (page : List ℕ). get_or page (i % PAGE) 0) (cond-false (eqb (i / PAGE) 0) bytes [] (ne_eqb (i / PAGE) 0 ne))
      ∙ sym (get_or_past bytes i 0 (omega arith))

-- ---- one page

-- a page stands at a number, and at each other what stood there
abbrev pub Puts : Pages → Pages → ℕ → List ℕ → Type 0
Puts old new number page = (q : ℕ) → page_of new q ≡ cond (eqb number q) page (page_of old q)

-- as the tree says it of the pages behind the first
module _ (old new : Pages) (number : ℕ) (w : Option (List ℕ)) (first : new.first ≡ old.first) (updates : tree.Updates nat_cmp old.rest new.rest number w) where
  one_of : (b : Bool) (o : Option (List ℕ)) → unwrap_or (cond b w o) [] ≡ cond b (unwrap_or w []) (unwrap_or o [])
  one_of true o = refl
  one_of false o = refl

  behind : (q : ℕ) → unwrap_or (tree.get nat_cmp new.rest q) [] ≡ cond (eqb number q) (unwrap_or w []) (unwrap_or (tree.get nat_cmp old.rest q) [])
  behind q =
      ap (λ (o : Option (List ℕ)). unwrap_or o []) (updates.0 q) ∙ one_of (is_eq (nat_cmp number q)) (tree.get nat_cmp old.rest q)
      ∙ ap (λ (b : Bool). cond b (unwrap_or w []) (unwrap_or (tree.get nat_cmp old.rest q) [])) (same_number number q)

  at_first : (q : ℕ) → q ≡ 0 → page_of new q ≡ page_of old q
  at_first q e =
      cond-true (eqb q 0) new.first (unwrap_or (tree.get nat_cmp new.rest q) []) (eq-eqb q 0 e) ∙ first
      ∙ sym (cond-true (eqb q 0) old.first (unwrap_or (tree.get nat_cmp old.rest q) []) (eq-eqb q 0 e))

  at_others : (q : ℕ) → (q ≡ 0 → ⊥) → page_of new q ≡ cond (eqb number q) (unwrap_or w []) (page_of old q)
  at_others q ne =
      cond-false (eqb q 0) new.first (unwrap_or (tree.get nat_cmp new.rest q) []) (ne_eqb q 0 ne) ∙ behind q
      ∙ ap (λ (page : List ℕ). cond (eqb number q) (unwrap_or w []) page)
      (sym (cond-false (eqb q 0) old.first (unwrap_or (tree.get nat_cmp old.rest q) []) (ne_eqb q 0 ne)))

  -- an empty page taken out, or put where there is none
  pub byte_same : unwrap_or w [] ≡ [] → page_of old number ≡ [] → byte_of new ≡ byte_of old
  byte_same none was = same_pages old new (λ q. go q (cases_eq q 0)) where
    else_at : (q : ℕ) → (number ≡ q) ⊎ (number ≡ q → ⊥) → cond (eqb number q) (unwrap_or w []) (page_of old q) ≡ page_of old q
    else_at q (inl e) = cond-true (eqb number q) (unwrap_or w []) (page_of old q) (eq-eqb number q e) ∙ none ∙ sym was ∙ ap (page_of old) e
    else_at q (inr ne) = cond-false (eqb number q) (unwrap_or w []) (page_of old q) (ne_eqb number q ne)

    go : (q : ℕ) → (q ≡ 0) ⊎ (q ≡ 0 → ⊥) → page_of new q ≡ page_of old q
    go q (inl e) = at_first q e
    go q (inr ne) = at_others q ne ∙ else_at q (cases_eq number q)

read_one : (b : Bool) (p q : List ℕ) (i : ℕ) → get_or (cond b p q) i 0 ≡ cond b (get_or p i 0) (get_or q i 0)
read_one true p q i = refl
read_one false p q i = refl

abbrev pub at_number : ℕ → List ℕ → List Change
at_number number page = record { number = number; page = page } ∷ []

pub byte_put : (old new : Pages) (number : ℕ) (page : List ℕ) → Puts old new number page → byte_of new ≡ changed (at_number number page) (byte_of old)
unfolding byte_of
byte_put old new number page puts =
    by_places (byte_of new) (changed (at_number number page) (byte_of old))
    (λ i. ap (λ (p : List ℕ). get_or p (i % PAGE) 0) (puts (i / PAGE)) ∙ read_one (eqb number (i / PAGE)) page (page_of old (i / PAGE)) (i % PAGE))

-- the page that stood there, put back
pub byte_back : (old new : Pages) (number : ℕ) (page was : List ℕ) → Puts old new number page → was ≡ page_of old number
    → changed (at_number number was) (byte_of new) ≡ byte_of old
unfolding byte_of
byte_back old new number page was puts stood =
    by_places (changed (at_number number was) (byte_of new)) (byte_of old) (λ i. go i (cases_eq number (i / PAGE))) where
      go : (i : ℕ) → (number ≡ i / PAGE) ⊎ (number ≡ i / PAGE → ⊥) → cond (eqb number (i / PAGE)) (get_or was (i % PAGE) 0) (get_or (page_of new (i / PAGE)) (i % PAGE) 0) ≡ get_or (page_of old (i / PAGE)) (i % PAGE) 0
      go i (inl e) =
          cond-true (eqb number (i / PAGE)) (get_or was (i % PAGE) 0) (get_or (page_of new (i / PAGE)) (i % PAGE) 0) (eq-eqb number (i / PAGE) e)
          ∙ ap (λ (p : List ℕ). get_or p (i % PAGE) 0) (stood ∙ ap (page_of old) e)
      go i (inr ne) =
          cond-false (eqb number (i / PAGE)) (get_or was (i % PAGE) 0) (get_or (page_of new (i / PAGE)) (i % PAGE) 0) (ne_eqb number (i / PAGE) ne)
          ∙ ap (λ (p : List ℕ). get_or p (i % PAGE) 0) (puts (i / PAGE) ∙ cond-false (eqb number (i / PAGE)) page (page_of old (i / PAGE)) (ne_eqb number (i / PAGE) ne))

-- ---- several

pub changed_append : (xs ys : List Change) (f : ℕ → ℕ) → changed (xs ++ ys) f ≡ changed xs (changed ys f)
changed_append xs ys f = by_places (changed (xs ++ ys) f) (changed xs (changed ys f)) (go xs) where
  go : (xs : List Change) (i : ℕ) → changed (xs ++ ys) f i ≡ changed xs (changed ys f) i
  go [] i = refl
  go (x ∷ xs) i = ap (λ (b : ℕ). cond (eqb x.number (i / PAGE)) (get_or x.page (i % PAGE) 0) b) (go xs i)

-- one more page put, of those to be put
pub put_more : (old new : Pages) (xs ys : List Change) (number : ℕ) (page : List ℕ) → xs ≡ ys ++ at_number number page → Puts old new number page
    → changed ys (byte_of new) ≡ changed xs (byte_of old)
put_more old new xs ys number page e puts =
    ap (changed ys) (byte_put old new number page puts) ∙ sym (changed_append ys (at_number number page) (byte_of old)) ∙ ap (λ (cs : List Change). changed cs (byte_of old)) (sym e)

-- one more page to be put back
pub back_more : (old new : Pages) (xs : List Change) (number : ℕ) (page was : List ℕ) → Puts old new number page → was ≡ page_of old number
    → changed (xs ++ at_number number was) (byte_of new) ≡ changed xs (byte_of old)
back_more old new xs number page was puts stood = changed_append xs (at_number number was) (byte_of new) ∙ ap (changed xs) (byte_back old new number page was puts stood)

-- the change at hand is put, and what it put aside stands in its place
module _ (old new : Pages) (items : List Change) (left : ℕ) (now kept : Change) (some : 0 < left) (within : left ≤ length items) (is_now : now ≡ get_or items (left - 1) now) where
  until : take left items ≡ take (left - 1) items ++ at_number now.number now.page
  until =
      ap (λ (n : ℕ). take n items) (omega arith) ∙ take_more items (left - 1) now (omega arith)
      ∙ ap (λ (change : Change). take (left - 1) items ++ change ∷ []) (sym is_now)

  pub exchange_put : Puts old new now.number now.page
      → changed (take (left - 1) (set items (left - 1) kept)) (byte_of new) ≡ changed (take left items) (byte_of old)
  exchange_put puts =
      ap (λ (cs : List Change). changed cs (byte_of new)) (take-set items (left - 1) kept)
      ∙ put_more old new (take left items) (take (left - 1) items) now.number now.page until puts

  pub exchange_kept : kept.number ≡ now.number → kept.page ≡ page_of old now.number → Puts old new now.number now.page
      → changed (reverse (drop (left - 1) (set items (left - 1) kept))) (byte_of new) ≡ changed (reverse (drop left items)) (byte_of old)
  exchange_kept number stood puts =
      ap (λ (cs : List Change). changed (reverse cs) (byte_of new)) (drop-set items (left - 1) kept (omega arith) ∙ ap (λ (n : ℕ). kept ∷ drop n items) (omega arith))
      ∙ ap (λ (cs : List Change). changed cs (byte_of new)) (reverse_onto (drop left items) kept [])
      ∙ ap (λ (n : ℕ). changed (reverse (drop left items) ++ at_number n kept.page) (byte_of new)) number
      ∙ back_more old new (reverse (drop left items)) now.number now.page kept.page puts stood

  -- there is room for the change at hand, and for those that are left
  pub room_now : All (λ (change : Change). HasRoom old change.number) (take left items) → HasRoom old now.number
  room_now all =
      subst (λ (change : Change). HasRoom old change.number) (get_or-take left items (left - 1) now (omega arith) ∙ sym is_now)
      (all (left - 1) now (omega (arith, length-take left items)))

  pub room_left : ((q : ℕ) → HasRoom old q → HasRoom new q) → All (λ (change : Change). HasRoom old change.number) (take left items)
      → All (λ (change : Change). HasRoom new change.number) (take (left - 1) (set items (left - 1) kept))
  room_left stays all = λ k d h.
      let near : k < left - 1 = omega (arith, length-take (left - 1) (set items (left - 1) kept)) in
      subst (λ (change : Change). HasRoom new change.number)
      (get_or-take left items k d (omega arith) ∙ sym (get_or-take (left - 1) items k d near) ∙ ap (λ (cs : List Change). get_or cs k d) (sym (take-set items (left - 1) kept)))
      (stays (get_or (take left items) k d).number (all k d (omega (arith, length-take left items))))

-- ---- room for a page

pub none_here : (pages : Pages) (number : ℕ) → (number ≡ 0 → ⊥) → is_some (tree.get nat_cmp pages.rest number) ≡ false → page_of pages number ≡ []
none_here pages number ne h = cond-false (eqb number 0) pages.first (page_in pages.rest.entries number) (ne_eqb number 0 ne) ∙ go (tree.get nat_cmp pages.rest number) h where
  go : (o : Option (List ℕ)) → is_some o ≡ false → unwrap_or o [] ≡ []
  go None h = refl
  go (Some page) h = absurd (cc)
