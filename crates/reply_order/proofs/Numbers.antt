-- The numbers of the replies in their order.
use Rattle.std.proofs.Common.{◌≡◌, ◌==◌, ℕ, zero, suc, ◌≤◌, ◌<◌, List, [], ◌∷◌, length, map, get_or, false, refl, subst, arith}
use Rattle.std.specs.List.{AllByRecursion}
use Rattle.std.specs.List.Sorted.{IsNonDecreasingBy}
use Rattle.std.proofs.lemmas.List.Elements.{All-from_recursion}
use Rattle.nfs_history.specs.declared.recorded.RecordedCall.{RecordedCall}
use Rattle.nfs_history.specs.Precedence.{call_at}
use Rattle.reply_order.specs.declared.replies.Reply.{Reply}
use Rattle.reply_order.specs.ReplyOrder.{IsAnswered, AreAnsweredInOrder, replied_at}
use Rattle.reply_order.specs.Making.{AreInOrder}
use Rattle.reply_order.proofs.Unique.{Among, Pairwise, among_all, contained, among_map, map_among, distinct_of_pairs, pairs_map}
use Rattle.reply_order.proofs.InReplies.{is_reply_to, reply_given, each, every, apart, in_order}

at_zero : (key : ℕ → ℕ) (x : ℕ) (xs : List ℕ) → AllByRecursion (λ y. key x ≤ key y) xs → (j d : ℕ) → j < length (x ∷ xs) → key x ≤ key (get_or (x ∷ xs) j d)
at_zero key x xs all zero d lt = omega arith
at_zero key x xs all (suc j) d lt = All-from_recursion (λ y. key x ≤ key y) xs all j d (omega (arith, lt))

order_of_pairs : (key : ℕ → ℕ) (xs : List ℕ) → Pairwise (λ x y. key x ≤ key y) xs → IsNonDecreasingBy key xs
order_of_pairs key [] p i j d le lt = absurd (omega (arith, lt))
order_of_pairs key (x ∷ xs) p zero j d le lt = at_zero key x xs p.0 j d lt
order_of_pairs key (x ∷ xs) p (suc i) zero d le lt = absurd (omega (arith, le))
order_of_pairs key (x ∷ xs) p (suc i) (suc j) d le lt = order_of_pairs key xs p.1 i j d (omega (arith, le)) (omega (arith, lt))

pub numbers_in_order : (calls : List RecordedCall) (replies : List Reply) → AreInOrder calls replies → AreAnsweredInOrder calls (map (λ (r : Reply). r.number) replies)
numbers_in_order calls replies order =
    let number : Reply → ℕ = λ r. r.number in
    let numbers = map number replies in
    record {
      each = among_all (IsAnswered calls) numbers (λ n a.
          let m = among_map number replies n a in
          let so = is_reply_to m.0.number (call_at calls m.0.number) m.0 (each calls replies order m.0 m.1) in
          subst (IsAnswered calls) m.2 (record { era = so.call.era; in_era = record { call = so.call; there = so.there; answered = so.answered; of_era = refl } }));
      every = λ n is.
          let g = reply_given n (call_at calls n) is.in_era.call is.in_era.there is.in_era.answered in
          contained numbers n (subst (λ k. Among k numbers) g.2 (map_among number replies g.0 (every calls replies order n g.0 g.1)));
      once = distinct_of_pairs ◌==◌ numbers (pairs_map (λ x y. (x == y) ≡ false) number replies (apart calls replies order));
      sorted = order_of_pairs (replied_at calls) numbers (pairs_map (λ x y. replied_at calls x ≤ replied_at calls y) number replies (in_order calls replies order));
    }
