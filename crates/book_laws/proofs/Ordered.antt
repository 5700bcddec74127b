-- the plan of a book puts no call ahead of one that had ended before it began
use Rattle.std.proofs.Common.{◌≡◌, ℕ, ◌+◌, ◌<◌, List, [], ◌∷◌, Option, Some, None, refl, sym, ap, ◌∙◌, subst, arith}
use Rattle.std.specs.List.{AllByRecursion, cons_option}
use Rattle.nfs_history.specs.declared.recorded.RecordedCall.{RecordedCall}
use Rattle.nfs_history.specs.Precedence.{begin_of, end_of, Precedes}
use Rattle.certificate.specs.declared.plan.Place.{Place}
use Rattle.certificate.specs.Plan.{call_of}
use Rattle.order_check.specs.Order.{RespectsOrder, EachEraRespectsOrder}
use Rattle.book_laws.specs.Placing.{Placed}
use Rattle.book_laws.specs.Book.{Book}
use Rattle.book_laws.specs.Plan.{place_of, places_of, plan_of}
use Rattle.book_laws.proofs.Invariant.{Over, IsKnown, AreKnown, AllKnown, AreInOrder, AllInOrder, IsInvariant}
use Rattle.book_laws.proofs.Lists.{all_given}
use Rattle.book_laws.proofs.Shaped.{plans, stands, names}

both : {X : Type 0} (P Q : X → Type 0) (xs : List X) → AllByRecursion P xs → AllByRecursion Q xs → AllByRecursion (λ x. P x × Q x) xs
both P Q [] a b = tt
both P Q (x ∷ xs) a b = ((a.0, b.0), both P Q xs a.1 b.1)

module _ (calls : List RecordedCall) (era : ℕ) where
  -- it ended behind the other one's begin
  abbrev EndsBehind : ℕ → Placed → Type 0
  EndsBehind number later = (at : ℕ) → end_of calls later.number ≡ Some at → begin_of calls number < at

  isnt_early : (step : Placed) (place : Place) (later : Placed) (behind : Place) → call_of place ≡ step.number → call_of behind ≡ later.number → EndsBehind step.number later
      → ¬ Precedes calls (call_of behind) (call_of place)
  isnt_early step place later behind is_step is_later ends p =
      clash (begin_of calls step.number) p.0 (ends p.0 (ap (end_of calls) (sym is_later) ∙ p.1)) (subst (λ (n : ℕ). p.0 < begin_of calls n) is_step p.2) where
        clash : (a b : ℕ) → a < b → b < a → ⊥
        clash a b f g = omega (arith, f, g)

  pub in_one : (steps : List Placed) → AreKnown calls era steps → AreInOrder calls steps → RespectsOrder calls (places_of calls steps)
  in_one [] known ordered = tt
  in_one (step ∷ steps) known ordered = go (place_of calls step) refl (in_one steps known.1 ordered.1) where
    go : (o : Option Place) → place_of calls step ≡ o → RespectsOrder calls (places_of calls steps) → RespectsOrder calls (cons_option o (places_of calls steps))
    go None is rest = rest
    go (Some place) is rest = (
      all_given (λ later. IsKnown calls era later × EndsBehind step.number later) (λ behind. ¬ Precedes calls (call_of behind) (call_of place)) (place_of calls) steps
          (λ later behind k e. isnt_early step place later behind (names calls step known.0.call place (stands calls era step place known.0 is)) (names calls later k.0.call behind (stands calls era later behind k.0 e)) k.1)
          (both (IsKnown calls era) (EndsBehind step.number) steps known.1 ordered.0),
      rest,
    )

in_all : (calls : List RecordedCall) (era : ℕ) (over : List Over) (placed : List Placed) → AllKnown calls era over placed → AllInOrder calls over placed
    → EachEraRespectsOrder calls (plans calls over placed)
in_all calls era [] placed known ordered = (in_one calls era placed known ordered, tt)
in_all calls era (first ∷ over) placed known ordered = (in_one calls era first.steps known.0 ordered.0, in_all calls (era + 1) over placed known.1 ordered.1)

pub respects_order : (book : Book) → IsInvariant book → EachEraRespectsOrder book.history.known.calls (plan_of book).eras
respects_order book i = in_all book.history.known.calls 1 book.over book.placed i.known i.ordered
