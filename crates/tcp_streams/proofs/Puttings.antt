-- One segment more, and what is known of all that were taken.
use Rattle.std.proofs.Common.{◌≡◌, ◌<◌, ◌≤◌, ◌⊎◌, inl, inr, ℕ, ◌+◌, max, List, [], ◌∷◌, ◌++◌, take, drop, length, refl, ap, subst, get_or, ◌∙◌, sym, arith, append_assoc}
use Rattle.std.specs.Prelude.{Option, Some, None, IsSome}
use Rattle.std.specs.Option.{option_or}
use Rattle.std.proofs.lemmas.Bool.{cases_lt, true≢false}
use Rattle.std.proofs.lemmas.List.{take-append-drop}
use Rattle.tcp_streams.specs.declared.span.Segment.{Segment}
use Rattle.tcp_streams.specs.declared.span.Span.{Span}
use Rattle.tcp_streams.specs.declared.assembly.Assembly.{Assembly}
use Rattle.tcp_streams.specs.Numbers.{IsNearest, start_of}
use Rattle.tcp_streams.specs.Places.{place_in, Place}
use Rattle.tcp_streams.specs.Orders.{IsBehind, Stops, IsPut, Puts}
use Rattle.tcp_streams.specs.Streams.{IsChain, IsFirstMissing, AreNumbered, whole_span, IsFull, IsAssemblyOf}
use Rattle.tcp_streams.proofs.Rows.{take_one}
use Rattle.tcp_streams.proofs.Holding.{place_in-append, place_in-below, held_part_from}
use Rattle.tcp_streams.proofs.Chains.{chain-append, chain_rises, chain_holds, chain_ends, behind_less}

or_some : (x y : Option Place) → IsSome x → option_or x y ≡ x
or_some None y h = absurd (true≢false (sym h))
or_some (Some p) y h = refl

some_same : (x y : Option Place) → x ≡ y → IsSome x → IsSome y
some_same x y e h = subst (λ z. IsSome z) e h

pub first_missing : (start : ℕ) (segments : List Segment) (stream : Assembly) (put : IsPut start segments stream) → IsFirstMissing start put.seen stream.next
first_missing start segments stream put = record {
  behind = rises;
  known = λ n low high. (let some = chain_holds start stream.next n stream.front.items put.chain low high in some_same _ _ (sym (place_in-append stream.front.items stream.waiting.items n ∙ or_some _ _ some) ∙ put.same n low) some);
  missing = sym (put.same stream.next rises) ∙ place_in-append stream.front.items stream.waiting.items stream.next ∙ ap (λ x. option_or x (place_in stream.waiting.items stream.next)) (chain_ends start stream.next stream.next stream.front.items put.chain (omega arith)) ∙ place_in-below (stream.next + 1) stream.next stream.waiting.items put.gap (omega arith);
}
  where
    rises : start ≤ stream.next
    rises = chain_rises start stream.next stream.front.items put.chain

-- a byte stands where the segments say: ahead of the gap in the front, from there on as one segment more says
same_more : (start n next later : ℕ) (front more waiting new_waiting seen : List Span) (whole : Span) → IsChain start next front → start ≤ n → place_in (front ++ waiting) n ≡ place_in seen n → (next ≤ n → place_in (more ++ new_waiting) n ≡ place_in (waiting ++ whole ∷ []) n) → place_in ((front ++ more) ++ new_waiting) n ≡ place_in (seen ++ whole ∷ []) n
same_more start n next later front more waiting new_waiting seen whole chain low old_same same = elim (cases_lt n next) [ inl lt ↦ ahead lt | inr le ↦ behind le ]
  where
    split : place_in ((front ++ more) ++ new_waiting) n ≡ option_or (place_in front n) (place_in (more ++ new_waiting) n)
    split = rw append_assoc (place_in-append front (more ++ new_waiting) n)

    old : option_or (place_in front n) (place_in waiting n) ≡ place_in seen n
    old = sym (place_in-append front waiting n) ∙ old_same

    behind : next ≤ n → place_in ((front ++ more) ++ new_waiting) n ≡ place_in (seen ++ whole ∷ []) n
    behind le =
        let none = chain_ends start next n front chain le in
        let here : place_in waiting n ≡ place_in seen n = sym (ap (λ x. option_or x (place_in waiting n)) none) ∙ old in
        split ∙ ap (λ x. option_or x (place_in (more ++ new_waiting) n)) none ∙ same le ∙ place_in-append waiting (whole ∷ []) n ∙ ap (λ x. option_or x (place_in (whole ∷ []) n)) here ∙ sym (place_in-append seen (whole ∷ []) n)

    ahead : n < next → place_in ((front ++ more) ++ new_waiting) n ≡ place_in (seen ++ whole ∷ []) n
    ahead lt =
        let some = chain_holds start next n front chain low lt in
        let here : place_in front n ≡ place_in seen n = sym (or_some (place_in front n) (place_in waiting n) some) ∙ old in
        let some_seen = some_same (place_in front n) (place_in seen n) here some in
        split ∙ or_some _ _ some ∙ here ∙ sym (or_some (place_in seen n) (place_in (whole ∷ []) n) some_seen) ∙ sym (place_in-append seen (whole ∷ []) n)

pub put_more : (start : ℕ) (segments : List Segment) (segment : Segment) (old new : Assembly) → IsPut start segments old → Puts old segment new → IsPut start (segments ++ segment ∷ []) new
put_more start segments segment old new put puts = record {
  seen = put.seen ++ whole_span segment puts.begin ∷ [];
  numbered = AreNumbered.more segment old.next puts.begin put.numbered (first_missing start segments old put) puts.near;
  first = puts.first ∙ put.first;
  chain = subst (λ xs. IsChain start new.next xs) (sym puts.front) (chain-append start old.next new.next old.front.items puts.more put.chain (puts.chain put.gap));
  gap = puts.gap put.gap;
  same = λ n low. subst (λ xs. place_in (xs ++ new.waiting.items) n ≡ place_in (put.seen ++ whole_span segment puts.begin ∷ []) n) (sym puts.front) (same_more start n old.next new.next old.front.items puts.more old.waiting.items new.waiting.items put.seen (whole_span segment puts.begin) put.chain low (put.same n low) (λ le. puts.same n put.gap le));
}

pub assembled : (sequence i : ℕ) (segments : List Segment) (stream : Assembly) → stream.taken ≡ i → IsPut (start_of sequence) (take i segments) stream → (i ≡ length segments) ⊎ ((i < length segments) × IsFull stream) → IsAssemblyOf sequence segments stream
assembled sequence i segments stream taken put ends = record {
  seen = put.seen;
  numbered = subst (λ k. AreNumbered (start_of sequence) (take k segments) put.seen) (sym taken) put.numbered;
  first = put.first;
  chain = subst (λ k. IsChain k stream.next stream.front.items) (sym put.first) put.chain;
  front = λ n low high. front_same n (subst (λ k. k ≤ n) put.first low) high;
  longest = subst (λ k. IsFirstMissing k put.seen stream.next) (sym put.first) (first_missing (start_of sequence) (take i segments) stream put);
  waiting = λ n le. waiting_same n le;
  taken = subst (λ k. (k ≡ length segments) ⊎ ((k < length segments) × IsFull stream)) (sym taken) ends;
}
  where
    front_same : (n : ℕ) → start_of sequence ≤ n → n < stream.next → place_in stream.front.items n ≡ place_in put.seen n
    front_same n low high = sym (place_in-append stream.front.items stream.waiting.items n ∙ or_some _ _ (chain_holds (start_of sequence) stream.next n stream.front.items put.chain low high)) ∙ put.same n low

    waiting_same : (n : ℕ) → stream.next ≤ n → place_in stream.waiting.items n ≡ place_in put.seen n
    waiting_same n le =
        let low : start_of sequence ≤ n = omega (arith, chain_rises (start_of sequence) stream.next stream.front.items put.chain) in
        sym (place_in-append stream.front.items stream.waiting.items n ∙ ap (λ x. option_or x (place_in stream.waiting.items n)) (chain_ends (start_of sequence) stream.next n stream.front.items put.chain le)) ∙ put.same n low

-- what was seen of a segment from a number on is the segment there
pub from_number : (next n : ℕ) (waiting : List Span) (whole : Span) → next ≤ n → place_in (waiting ++ record whole { at = max whole.at next } ∷ []) n ≡ place_in (waiting ++ whole ∷ []) n
from_number next n waiting whole le = place_in-append waiting _ n ∙ ap (λ x. option_or (place_in waiting n) (option_or x None)) (held_part_from whole next n le) ∙ sym (place_in-append waiting (whole ∷ []) n)

module _ (old new : Assembly) (segment : Segment) (begin : ℕ) (part : Span) (runs : List Span) (count : ℕ) where
  puts_made : IsNearest old.next segment.sequence begin → part ≡ record (whole_span segment begin) { at = max begin old.next } → new.first ≡ old.first → new.taken ≡ old.taken + 1 → new.front.items ≡ old.front.items ++ take count runs → new.waiting.items ≡ drop count runs → ((low n : ℕ) → IsBehind low old.waiting.items → low ≤ part.at → place_in runs n ≡ place_in (old.waiting.items ++ part ∷ []) n) → ((low : ℕ) → IsBehind low old.waiting.items → low ≤ part.at → IsBehind low runs) → (IsBehind old.next runs → IsChain old.next new.next (take count runs)) → (IsBehind old.next runs → Stops new.next (drop count runs)) → Puts old segment new
  puts_made near part_is first taken front waiting places order chain gap = record {
    begin = begin;
    near = near;
    first = first;
    taken = taken;
    more = take count runs;
    front = front;
    chain = λ stops. chain (in_order stops);
    gap = λ stops. subst (λ xs. Stops new.next xs) (sym waiting) (gap (in_order stops));
    same = λ n stops le. subst (λ xs. place_in (take count runs ++ xs) n ≡ place_in (old.waiting.items ++ whole_span segment begin ∷ []) n) (sym waiting) (ap (λ xs. place_in xs n) (take-append-drop count runs) ∙ places old.next n (behind stops) low_at ∙ ap (λ s. place_in (old.waiting.items ++ s ∷ []) n) part_is ∙ from_number old.next n old.waiting.items (whole_span segment begin) le);
  }
    where
      behind : Stops old.next old.waiting.items → IsBehind old.next old.waiting.items
      behind stops = behind_less old.next (old.next + 1) old.waiting.items stops (omega arith)

      max_is : part.at ≡ max begin old.next
      max_is = ap (λ s. s.at) part_is

      low_at : old.next ≤ part.at
      low_at = omega (arith, max_is)

      in_order : Stops old.next old.waiting.items → IsBehind old.next runs
      in_order stops = order old.next (behind stops) low_at

  -- the same of what was lent of its lists
  pub puts_lent : (lent lent_runs front back cleared : List Span) → IsNearest old.next segment.sequence begin → part ≡ record (whole_span segment begin) { at = max begin old.next } → new.first ≡ old.first → new.taken ≡ old.taken + 1 → lent ≡ old.waiting.items → lent_runs ≡ runs → front ≡ take count runs → back ≡ drop count runs → cleared ≡ [] → new.front.items ≡ old.front.items ++ front → new.waiting.items ≡ cleared ++ back → ((low n : ℕ) → IsBehind low lent → low ≤ part.at → place_in runs n ≡ place_in (lent ++ part ∷ []) n) → ((low : ℕ) → IsBehind low lent → low ≤ part.at → IsBehind low runs) → (IsBehind old.next lent_runs → IsChain old.next new.next (take count lent_runs)) → (IsBehind old.next lent_runs → Stops new.next (drop count lent_runs)) → Puts old segment new
  puts_lent lent lent_runs front back cleared near part_is first taken lent_is runs_is front_is back_is cleared_is new_front new_waiting places order chain gap =
      puts_made near part_is first taken
      (new_front ∙ ap (λ xs. old.front.items ++ xs) front_is)
      (new_waiting ∙ ap (λ xs. xs ++ back) cleared_is ∙ back_is)
      (subst (λ xs. (low n : ℕ) → IsBehind low xs → low ≤ part.at → place_in runs n ≡ place_in (xs ++ part ∷ []) n) lent_is places)
      (subst (λ xs. (low : ℕ) → IsBehind low xs → low ≤ part.at → IsBehind low runs) lent_is order)
      (subst (λ xs. IsBehind old.next xs → IsChain old.next new.next (take count xs)) runs_is chain)
      (subst (λ xs. IsBehind old.next xs → Stops new.next (drop count xs)) runs_is gap)

-- the count of a segment as a longer number is its count
pub part_is : (segment : Segment) (begin next count : ℕ) (part : Span) → part ≡ record { at = max begin next; «end» = begin + count; source = segment.source; begin = begin } → count ≡ segment.count → part ≡ record (whole_span segment begin) { at = max begin next }
part_is segment begin next count part is same = subst (λ (n : ℕ). part ≡ record { at = max begin next; «end» = begin + n; source = segment.source; begin = begin }) same is

-- a stream of which nothing was seen
pub put_none : (sequence : ℕ) (stream : Assembly) → stream.first ≡ start_of sequence → stream.next ≡ start_of sequence → stream.front.items ≡ [] → stream.waiting.items ≡ [] → IsPut (start_of sequence) [] stream
put_none sequence stream first next front waiting = record {
  seen = [];
  numbered = AreNumbered.none;
  first = first;
  chain = subst (λ xs. IsChain (start_of sequence) stream.next xs) (sym front) (sym next);
  gap = subst (λ xs. Stops stream.next xs) (sym waiting) tt;
  same = λ n low. (ap (λ xs. place_in (xs ++ stream.waiting.items) n) front ∙ ap (λ xs. place_in xs n) waiting);
}

-- ---- along the segments

pub put_rises : (start : ℕ) (segments : List Segment) (stream : Assembly) → IsPut start segments stream → start ≤ stream.next
put_rises start segments stream put = chain_rises start stream.next stream.front.items put.chain

pub put_on : (start i : ℕ) (segments : List Segment) (d : Segment) (old new : Assembly) → i < length segments → IsPut start (take i segments) old × (old.taken ≡ i) → Puts old (get_or segments i d) new → IsPut start (take (i + 1) segments) new × (new.taken ≡ i + 1)
put_on start i segments d old new h so_far puts = (subst (λ xs. IsPut start xs new) (sym (take_one segments i d h)) (put_more start (take i segments) (get_or segments i d) old new so_far.0 puts), puts.taken ∙ ap (λ k. k + 1) so_far.1)
