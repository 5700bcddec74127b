-- The binds that are made are the first makers', and no others follow the replies.
use Rattle.std.proofs.Common.{◌≡◌, ◌≢◌, ◌&&◌, ℕ, suc, ◌<◌, ◌≤◌, Bool, true, false, cond, nat_lt, nat_le, get_or, List, [], ◌∷◌, ◌++◌, length, map, Option, Some, None, refl, sym, ap, ◌∙◌, subst, arith, inl, inr, ◌⊎◌}
use Rattle.std.specs.Prelude.{option_and_then, is_none}
use Rattle.std.specs.List.{AllByRecursion}
use Rattle.std.specs.Map.{lookup}
use Rattle.std.specs.Ordering.{nat_cmp, is_lt}
use Rattle.std.specs.declared.cmp.Ordering.{Ordering}
use Rattle.std.specs.declared.cmp.Ordering.TheVariants.{Less, Equal}
use Rattle.std.specs.Cmp.Lexicographic.{slice_cmp, bytes_decides}
use Rattle.std.proofs.lemmas.Bool.{false≢true, ltb-true, leb-true, lt-ltb, le-leb}
use Rattle.std.proofs.lemmas.Cmp.{nat_list_cmp_total, tied_itself}
use Rattle.std.proofs.lemmas.List.Sorted.{Contains-permutation, IsPermutation-sym, ranks_by, sorted_far}
use Rattle.std.proofs.lemmas.Map.Keys.{IsDistinct-IsPermutation}
use Rattle.std.proofs.lemmas.List.Elements.{recursion_from_All}
use Rattle.tree_starts.specs.Start.{object_made}
use Rattle.nfs_history.specs.declared.recorded.RecordedCall.{RecordedCall}
use Rattle.nfs_history.specs.declared.recorded.CallKind.{CallKind}
use Rattle.nfs_history.specs.declared.recorded.CallKind.TheVariants as kinds
use Rattle.nfs_history.specs.HistoryValue.{CallsValue}
use Rattle.nfs_history.specs.Precedence.{call_at}
use Rattle.nfs_history.specs.Reread.{call_kind}
use Rattle.certificate.specs.declared.plan.Bind.{Bind}
use Rattle.certificate.specs.CertificateText.{AreRising}
use Rattle.tree_handles.specs.Binding.{same_bytes, object_of}
use Rattle.reply_order.specs.declared.replies.Reply.{Reply}
use Rattle.reply_order.specs.ReplyOrder.{is_answered, makes_object, handle_received, handle_given, replied_at, IsMaker, IsFirstMade, BindsFirstMakers}
use Rattle.reply_order.specs.Making.{names_of, is_new, binds_with, given_at, binds_behind, AreSorted, AreInOrder}
use Rattle.reply_order.proofs.Unique.{Among, Pairwise, all_among, among_all, among_contained, contained, among_either, among_map, map_among, pairs_of_distinct, distinct_of_pairs, pairs_append, pairs_become, unique}
use Rattle.reply_order.proofs.InReplies.{reply_given, every, in_order}

pub record IsGood (root handle : List ℕ) : Type 0 where
  pub some : 0 < length handle
  pub fits : length handle ≤ 64
  pub other : handle ≢ root

handle_of : Bind → List ℕ
handle_of b = b.handle

pair_of : Bind → List ℕ × ℕ
pair_of b = (b.handle, b.object)

both : (a b : Bool) → (a && b) ≡ true → (a ≡ true) × (b ≡ true)
both true true h = (refl, refl)
both true false h = absurd (false≢true h)
both false b h = absurd (false≢true h)

both_true : (a b : Bool) → a ≡ true → b ≡ true → (a && b) ≡ true
both_true a b p q = rw (p, q) refl

-- ---- whether a handle has a bind

none_first : (b : Bool) (v : ℕ) (rest : Option ℕ) → is_none (cond b (Some v) rest) ≡ true → (b ≡ false) × (is_none rest ≡ true)
none_first true v rest h = absurd (false≢true h)
none_first false v rest h = (refl, h)

some_first : (b : Bool) (v : ℕ) (rest : Option ℕ) → is_none (cond b (Some v) rest) ≡ false → (b ≡ true) ⊎ (is_none rest ≡ false)
some_first true v rest h = inl refl
some_first false v rest h = inr h

not_there : (handle : List ℕ) (bs : List Bind) → is_none (lookup (same_bytes handle) (map (λ (b : Bind). (b.handle, b.object)) bs)) ≡ true → Among handle (map (λ (b : Bind). b.handle) bs) → ⊥
not_there handle [] none a = a
not_there handle (b ∷ bs) none (inl e) =
    let h = none_first (same_bytes handle b.handle) b.object (lookup (same_bytes handle) (map (λ (b : Bind). (b.handle, b.object)) bs)) none in
    false≢true (sym h.0 ∙ (bytes_decides handle b.handle).1 (sym e))
not_there handle (b ∷ bs) none (inr a) =
    not_there handle bs (none_first (same_bytes handle b.handle) b.object (lookup (same_bytes handle) (map (λ (b : Bind). (b.handle, b.object)) bs)) none).1 a

there : (handle : List ℕ) (bs : List Bind) → is_none (lookup (same_bytes handle) (map (λ (b : Bind). (b.handle, b.object)) bs)) ≡ false → Among handle (map (λ (b : Bind). b.handle) bs)
there handle [] some = absurd (false≢true (sym some))
there handle (b ∷ bs) some =
    elim (some_first (same_bytes handle b.handle) b.object (lookup (same_bytes handle) (map (λ (b : Bind). (b.handle, b.object)) bs)) some) [
      | inl same ↦ inl (sym ((bytes_decides handle b.handle).0 same))
      | inr rest ↦ inr (there handle bs rest)
    ]

new_so : (root handle : List ℕ) (bs : List Bind) → is_new (names_of root bs) handle ≡ true → IsGood root handle × (Among handle (map (λ (b : Bind). b.handle) bs) → ⊥)
new_so root handle bs new =
    let outer = both (nat_lt 0 (length handle) && nat_le (length handle) 64) (is_none (object_of (names_of root bs) handle)) new in
    let size = both (nat_lt 0 (length handle)) (nat_le (length handle) 64) outer.0 in
    let h = none_first (same_bytes handle root) 0 (lookup (same_bytes handle) (map (λ (b : Bind). (b.handle, b.object)) bs)) outer.1 in (
      record { some = ltb-true 0 (length handle) size.0; fits = leb-true (length handle) 64 size.1; other = λ same. false≢true (sym h.0 ∙ (bytes_decides handle root).1 same) },
      not_there handle bs h.1,
    )

true_or_false : (b : Bool) → (b ≡ true) ⊎ (b ≡ false)
true_or_false true = inl refl
true_or_false false = inr refl

new_not : (root handle : List ℕ) (bs : List Bind) → is_new (names_of root bs) handle ≡ false → IsGood root handle → Among handle (map (λ (b : Bind). b.handle) bs)
new_not root handle bs old good =
    let size = both_true (nat_lt 0 (length handle)) (nat_le (length handle) 64) (lt-ltb 0 (length handle) good.some) (le-leb (length handle) 64 good.fits) in
    elim (true_or_false (is_none (object_of (names_of root bs) handle))) [
      | inl none ↦ absurd (false≢true (sym old ∙ both_true (nat_lt 0 (length handle) && nat_le (length handle) 64) (is_none (object_of (names_of root bs) handle)) size none))
      | inr some ↦
          elim (some_first (same_bytes handle root) 0 (lookup (same_bytes handle) (map (λ (b : Bind). (b.handle, b.object)) bs)) some) [
            | inl same ↦ absurd (good.other ((bytes_decides handle root).0 same))
            | inr rest ↦ there handle bs rest
          ]
    ]

-- ---- the calls that gave a handle

maker_gives : (calls : List RecordedCall) (handle : List ℕ) (m : ℕ) → IsMaker calls handle m → given_at calls m ≡ Some handle
maker_gives calls handle m maker = ap (λ o. option_and_then handle_given o) maker.there ∙ maker.gave

gives_call : (found : Option RecordedCall) (handle : List ℕ) → option_and_then handle_given found ≡ Some handle → (call : RecordedCall) × (found ≡ Some call) × (handle_given call ≡ Some handle)
gives_call None handle is = absurd (cc)
gives_call (Some call) handle is = (call, refl, is)

gives_maker : (calls : List RecordedCall) (handle : List ℕ) (m : ℕ) → given_at calls m ≡ Some handle → IsMaker calls handle m
gives_maker calls handle m is = let h = gives_call (call_at calls m) handle is in record { call = h.0; there = h.1; gave = h.2 }

made_by : (b : Bool) (o : Option (List ℕ)) (handle : List ℕ) → cond b o None ≡ Some handle → b ≡ true
made_by true o handle is = refl
made_by false o handle is = absurd (cc)

makes_answered : (kind : CallKind) → makes_object kind ≡ true → is_answered kind ≡ true
makes_answered (kinds.Answered procedure failure) h = refl
makes_answered (kinds.Unanswered procedure) h = absurd (false≢true h)
makes_answered kinds.Unjudged h = absurd (false≢true h)

-- ---- the binds, reply by reply

abbrev handles_of : List Bind → List (List ℕ)
handles_of bs = map (λ (b : Bind). b.handle) bs

pub record AreBound (history : CallsValue) (bs : List Bind) (rest : List Reply) : Type 0 where
  pub firsts : (b : Bind) → Among b bs → IsFirstMade history b.handle b.object
  pub apart : Pairwise (λ (a b : Bind). a.handle ≢ b.handle) bs
  pub covered : (handle : List ℕ) (m : ℕ) → IsMaker history.calls handle m → IsGood history.head.root handle → Among handle (map (λ (b : Bind). b.handle) bs) ⊎ ((r : Reply) × Among r rest × (r.number ≡ m))

more_handles : (bs : List Bind) (b : Bind) (handle : List ℕ) → Among handle (map (λ (b : Bind). b.handle) bs) → Among handle (map (λ (b : Bind). b.handle) (bs ++ b ∷ []))
more_handles [] b handle a = absurd a
more_handles (c ∷ bs) b handle (inl e) = inl e
more_handles (c ∷ bs) b handle (inr a) = inr (more_handles bs b handle a)

last_handle : (bs : List Bind) (b : Bind) → Among b.handle (map (λ (b : Bind). b.handle) (bs ++ b ∷ []))
last_handle [] b = inl refl
last_handle (c ∷ bs) b = inr (last_handle bs b)

module _ (history : CallsValue) where
  passed_none : (bs : List Bind) (r : Reply) (rest : List Reply) → given_at history.calls r.number ≡ None → AreBound history bs (r ∷ rest) → AreBound history bs rest
  passed_none bs r rest none bound = record {
    firsts = bound.firsts;
    apart = bound.apart;
    covered = λ handle m maker good.
        elim (bound.covered handle m maker good) [
          | inl named ↦ inl named
          | inr (q, inl e, is) ↦
              absurd (clash (given_at history.calls m) handle (maker_gives history.calls handle m maker) (ap (given_at history.calls) (sym is ∙ ap (λ (p : Reply). p.number) (sym e)) ∙ none))
          | inr (q, inr a, is) ↦ inr (q, a, is)
        ];
  } where
    clash : (o : Option (List ℕ)) (h : List ℕ) → o ≡ Some h → o ≡ None → ⊥
    clash o h p q = absurd (cc)

  passed_some : (bs : List Bind) (r : Reply) (rest : List Reply) (handle : List ℕ) (new : Bool) → given_at history.calls r.number ≡ Some handle
      → is_new (names_of history.head.root bs) handle ≡ new → AllByRecursion (λ (q : Reply). replied_at history.calls r.number ≤ replied_at history.calls q.number) rest
      → AreBound history bs (r ∷ rest) → AreBound history (cond new (bs ++ (record { handle = handle; object = object_made (length history.head.start) r.number }) ∷ []) bs) rest
  passed_some bs r rest handle true gave new order bound =
      let made = object_made (length history.head.start) r.number in
      let b : Bind = record { handle = handle; object = made } in
      let so = new_so history.head.root handle bs new in
      let first : IsFirstMade history handle made = record {
        number = r.number;
        made = refl;
        maker = gives_maker history.calls handle r.number gave;
        some = so.0.some;
        fits = so.0.fits;
        other = so.0.other;
        first = λ m maker.
            elim (bound.covered handle m maker so.0) [
              | inl named ↦ absurd (so.1 named)
              | inr (q, inl e, is) ↦ omega (arith, ap (replied_at history.calls) (ap (λ (p : Reply). p.number) e ∙ is))
              | inr (q, inr a, is) ↦ omega (arith, all_among (λ (q : Reply). replied_at history.calls r.number ≤ replied_at history.calls q.number) rest q order a, ap (replied_at history.calls) is)
            ];
      } in
      record {
        firsts = λ c a. elim (among_either bs (b ∷ []) c a) [
          | inl l ↦ bound.firsts c l
          | inr (inl e) ↦ subst (λ (d : Bind). IsFirstMade history d.handle d.object) e first
          | inr (inr never) ↦ absurd never
        ];
        apart = pairs_append (λ (a b : Bind). a.handle ≢ b.handle) bs (b ∷ []) bound.apart (tt, tt)
            (λ x y a c same. elim c [
              | inl e ↦ so.1 (subst (λ h. Among h (map (λ (b : Bind). b.handle) bs)) (same ∙ ap (λ (d : Bind). d.handle) (sym e)) (map_among (λ (b : Bind). b.handle) bs x a))
              | inr never ↦ never
            ]);
        covered = λ other m maker good.
            elim (bound.covered other m maker good) [
              | inl named ↦ inl (more_handles bs b other named)
              | inr (q, inl e, is) ↦ inl (subst (λ h. Among h (map (λ (b : Bind). b.handle) (bs ++ b ∷ []))) (same_gift (given_at history.calls m) handle other
                  (ap (given_at history.calls) (sym is ∙ ap (λ (p : Reply). p.number) (sym e)) ∙ gave) (maker_gives history.calls other m maker)) (last_handle bs b))
              | inr (q, inr a, is) ↦ inr (q, a, is)
            ];
      } where
        same_gift : (o : Option (List ℕ)) (h k : List ℕ) → o ≡ Some h → o ≡ Some k → h ≡ k
        same_gift o h k p q = cc
  passed_some bs r rest handle false gave old order bound = record {
    firsts = bound.firsts;
    apart = bound.apart;
    covered = λ other m maker good.
        elim (bound.covered other m maker good) [
          | inl named ↦ inl named
          | inr (q, inl e, is) ↦
              let same = same_gift (given_at history.calls m) handle other (ap (given_at history.calls) (sym is ∙ ap (λ (p : Reply). p.number) (sym e)) ∙ gave) (maker_gives history.calls other m maker) in
              inl (subst (λ h. Among h (map (λ (b : Bind). b.handle) bs)) same (new_not history.head.root handle bs old (subst (IsGood history.head.root) (sym same) good)))
          | inr (q, inr a, is) ↦ inr (q, a, is)
        ];
  } where
    same_gift : (o : Option (List ℕ)) (h k : List ℕ) → o ≡ Some h → o ≡ Some k → h ≡ k
    same_gift o h k p q = cc

  passed : (bs : List Bind) (r : Reply) (rest : List Reply) (gift : Option (List ℕ)) → given_at history.calls r.number ≡ gift
      → AllByRecursion (λ (q : Reply). replied_at history.calls r.number ≤ replied_at history.calls q.number) rest
      → AreBound history bs (r ∷ rest) → AreBound history (binds_with history.head bs r.number gift) rest
  passed bs r rest None gave order bound = passed_none bs r rest gave bound
  passed bs r rest (Some handle) gave order bound = passed_some bs r rest handle (is_new (names_of history.head.root bs) handle) gave refl order bound

  all_passed : (rest : List Reply) (bs : List Bind) → Pairwise (λ (a b : Reply). replied_at history.calls a.number ≤ replied_at history.calls b.number) rest
      → AreBound history bs rest → AreBound history (binds_behind history bs rest) []
  all_passed [] bs order bound = bound
  all_passed (r ∷ rest) bs order bound =
      all_passed rest (binds_with history.head bs r.number (given_at history.calls r.number)) order.1 (passed bs r rest (given_at history.calls r.number) refl order.0 bound)

  pub are_bound : (replies : List Reply) → AreInOrder history.calls replies → AreBound history (binds_behind history [] replies) []
  are_bound replies order = all_passed replies [] (in_order history.calls replies order) (record {
    firsts = λ b a. absurd a;
    apart = tt;
    covered = λ handle m maker good.
        let kind = made_by (makes_object (call_kind maker.call)) (handle_received maker.call.outcome) handle maker.gave in
        let g = reply_given m (call_at history.calls m) maker.call maker.there (makes_answered (call_kind maker.call) kind) in
        inr (g.0, every history.calls replies order m g.0 g.1, g.2);
  })

-- ---- no other binds

rising : (bs : List Bind) → AreRising bs → Pairwise (λ (a b : Bind). slice_cmp nat_cmp a.handle b.handle ≡ Less) bs
rising [] rise = tt
rising (b ∷ []) rise = (tt, tt)
rising (b ∷ c ∷ bs) rise =
    let rest = rising (c ∷ bs) rise.1 in
    ((rise.0, among_all (λ (d : Bind). slice_cmp nat_cmp b.handle d.handle ≡ Less) bs (λ d a. nat_list_cmp_total.trans b.handle c.handle d.handle rise.0 (all_among (λ (d : Bind). slice_cmp nat_cmp c.handle d.handle ≡ Less) bs d rest.0 a))), rest)

less_not : (o : Ordering) → o ≡ Less → is_lt o ≡ false → ⊥
less_not o less never = false≢true (sym never ∙ ap is_lt less)

never_less : (b : Bind) → slice_cmp nat_cmp b.handle b.handle ≡ Less → ⊥
never_less b less = differ (slice_cmp nat_cmp b.handle b.handle) (tied_itself nat_list_cmp_total b.handle) less where
  differ : (o : Ordering) → o ≡ Equal → o ≡ Less → ⊥
  differ o p q = absurd (cc)

-- of binds that rise two with one handle are one
one_bind : (bs : List Bind) (a b : Bind) → Pairwise (λ (a b : Bind). slice_cmp nat_cmp a.handle b.handle ≡ Less) bs → Among a bs → Among b bs → a.handle ≡ b.handle → a ≡ b
one_bind [] a b strict x y same = absurd x
one_bind (c ∷ bs) a b strict (inl e) (inl f) same = sym e ∙ f
one_bind (c ∷ bs) a b strict (inl e) (inr y) same =
    let less = all_among (λ (d : Bind). slice_cmp nat_cmp c.handle d.handle ≡ Less) bs b strict.0 y in
    absurd (never_less b (subst (λ h. slice_cmp nat_cmp h b.handle ≡ Less) (ap (λ (d : Bind). d.handle) e ∙ same) less))
one_bind (c ∷ bs) a b strict (inr x) (inl f) same =
    let less = all_among (λ (d : Bind). slice_cmp nat_cmp c.handle d.handle ≡ Less) bs a strict.0 x in
    absurd (never_less a (subst (λ h. slice_cmp nat_cmp h a.handle ≡ Less) (ap (λ (d : Bind). d.handle) f ∙ sym same) less))
one_bind (c ∷ bs) a b strict (inr x) (inr y) same = one_bind bs a b strict.1 x y same

pub two_lists : (history : CallsValue) (xs ys : List Bind) → BindsFirstMakers history xs → BindsFirstMakers history ys → ys ≡ xs
two_lists history xs ys one other =
    let strict = rising ys other.rising in
    unique (λ (a b : Bind). slice_cmp nat_cmp a.handle b.handle ≡ Less) (λ (a b : Bind). slice_cmp nat_cmp a.handle b.handle ≡ Less)
    (λ x y less more. never_less x (nat_list_cmp_total.trans x.handle y.handle x.handle less more)) never_less xs ys (rising xs one.rising) strict
    (pairs_become (λ (a b : Bind). slice_cmp nat_cmp a.handle b.handle ≡ Less) (λ x y. x ≢ y) ys (λ x y a b less same. never_less x (subst (λ (d : Bind). slice_cmp nat_cmp x.handle d.handle ≡ Less) (sym same) less)) strict)
    (λ b a. among_contained ys b (other.every b.handle b.object (all_among (λ (d : Bind). IsFirstMade history d.handle d.object) xs b one.each a)))
    (λ b a. among_contained xs b (one.every b.handle b.object (all_among (λ (d : Bind). IsFirstMade history d.handle d.object) ys b other.each a)))

-- between binds in order, none ahead of a lower one
sorted_pairs : (bs : List Bind) → ((i j : ℕ) (d : Bind) → i ≤ j → j < length bs → is_lt (slice_cmp nat_cmp (get_or bs j d).handle (get_or bs i d).handle) ≡ false)
    → Pairwise (λ (a b : Bind). is_lt (slice_cmp nat_cmp b.handle a.handle) ≡ false) bs
sorted_pairs [] h = tt
sorted_pairs (b ∷ bs) h = (
  recursion_from_All (λ (c : Bind). is_lt (slice_cmp nat_cmp c.handle b.handle) ≡ false) bs (λ k d lt. h 0 (suc k) d (omega arith) (omega (arith, lt))),
  sorted_pairs bs (λ i j d le lt. h (suc i) (suc j) d (omega (arith, le)) (omega (arith, lt))),
)

same_flips : (x y : List ℕ) → same_bytes x y ≡ same_bytes y x
same_flips x y = elim (true_or_false (same_bytes x y)) [
  | inl p ↦ p ∙ sym ((bytes_decides y x).1 (sym ((bytes_decides x y).0 p)))
  | inr p ↦ elim (true_or_false (same_bytes y x)) [
    | inl q ↦ absurd (false≢true (sym p ∙ (bytes_decides x y).1 (sym ((bytes_decides y x).0 q))))
    | inr q ↦ p ∙ sym q
  ]
]

apart_bytes : (x y : List ℕ) → x ≢ y → same_bytes x y ≡ false
apart_bytes x y other = elim (true_or_false (same_bytes x y)) [ inl p ↦ absurd (other ((bytes_decides x y).0 p)) | inr p ↦ p ]

pub made_binds : (history : CallsValue) (replies : List Reply) (made plan : List Bind) → AreInOrder history.calls replies → AreSorted (binds_behind history [] replies) made
    → BindsFirstMakers history plan → made ≡ plan
made_binds history replies made plan order sorted follow =
    let found = binds_behind history [] replies in
    let bound = are_bound history replies order in
    let test : Bind → Bind → Bool = λ a b. same_bytes a.handle b.handle in
    let strict = rising plan follow.rising in
    let from : (b : Bind) → Among b made → Among b found = λ b a. among_contained found b (Contains-permutation made found b (IsPermutation-sym found made sorted.shuffled) (contained made b a)) in
    let into : (b : Bind) → Among b found → Among b made = λ b a. among_contained made b (Contains-permutation found made b sorted.shuffled (contained found b a)) in
    let in_plan : (b : Bind) → Among b found → Among b plan = λ b a. among_contained plan b (follow.every b.handle b.object (bound.firsts b a)) in
    let distinct = pairs_of_distinct test made (IsDistinct-IsPermutation test (λ a b. same_flips a.handle b.handle) found made sorted.shuffled
    (distinct_of_pairs test found (pairs_become (λ (a b : Bind). a.handle ≢ b.handle) (λ (a b : Bind). test a b ≡ false) found (λ x y a b other. apart_bytes x.handle y.handle other) bound.apart))) in
    unique (λ (a b : Bind). slice_cmp nat_cmp a.handle b.handle ≡ Less) (λ (a b : Bind). is_lt (slice_cmp nat_cmp b.handle a.handle) ≡ false)
    (λ x y less more. less_not (slice_cmp nat_cmp x.handle y.handle) less more) never_less plan made strict
    (sorted_pairs made (sorted_far (λ (a b : Bind). is_lt (slice_cmp nat_cmp a.handle b.handle)) (ranks_by nat_list_cmp_total (λ (b : Bind). b.handle)) made sorted.ordered))
    (pairs_become (λ (a b : Bind). test a b ≡ false) (λ x y. x ≢ y) made (λ x y a b other same. false≢true (sym other ∙ (bytes_decides x.handle y.handle).1 (ap (λ (d : Bind). d.handle) same))) distinct)
    (λ b a.
    let first = all_among (λ (d : Bind). IsFirstMade history d.handle d.object) plan b follow.each a in
    let good : IsGood history.head.root b.handle = record { some = first.some; fits = first.fits; other = first.other } in
    elim (bound.covered b.handle first.number first.maker good) [
      | inl named ↦
          let m = among_map (λ (d : Bind). d.handle) found b.handle named in
          let same : m.0 ≡ b = one_bind plan m.0 b strict (in_plan m.0 m.1) a m.2 in
          subst (λ (d : Bind). Among d made) same (into m.0 m.1)
      | inr rest ↦ absurd rest.1
    ])
    (λ b a. in_plan b (from b a))
