use Rattle.std.proofs.Common.{◌≡◌, ℕ, ◌<◌, ◌^◌, List, decimal, Result, Ok, Err, sym, ◌∙◌, arith, MatchOption}
use Rattle.std.specs.Result.{OkIff, result_ok}
use Rattle.std.proofs.lemmas.Fmt.{decimal_injective}
use Rattle.text_words.proofs.count_of.Goals as goal

fits : {E : Type 0} (digits : List ℕ) (number : ℕ) (r : Result ℕ E) → digits ≡ decimal number → number < 2 ^ 64 → OkIff r (number < 2 ^ 32) number → MatchOption (result_ok r) ((n : ℕ) → n < 2 ^ 32 → digits ≡ decimal n → ⊥) (λ n. (digits ≡ decimal n) × (n < 2 ^ 32))
fits digits number (Ok n) is small h =
    let below : n < 2 ^ 32 = omega (arith, h.0, h.1) in (rw h.1 is, below)
fits digits number (Err e) is small h = λ n below writes.
    let same = decimal_injective number n small (omega arith) (sym is ∙ writes) in h (omega (arith, same))

pub returns : goal.returns
returns c = rw c.ok.ensures.value (fits c.args.digits.now c.in_ok-number.number c.try_from.result c.in_ok-number.ensures.0 c.in_ok-number.ensures.1 c.try_from.ensures)
