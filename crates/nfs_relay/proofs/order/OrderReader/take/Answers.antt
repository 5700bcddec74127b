use Rattle.std.proofs.Common.{◌≡◌, ℕ, List, [], ◌∷◌, ◌++◌, length, take, arith, sym, subst}
use Rattle.std.proofs.lemmas.List.{take_at}
use Rattle.nfs_relay.proofs.order.OrderReader.take.Goals as goal

-- a line of six bytes stays as it is
full : (line : List ℕ) (byte : ℕ) → length line ≡ 6 → line ≡ take 6 (line ++ byte ∷ [])
full line byte six = sym (take_at line (byte ∷ []) 6 six)

pub returns-else-len-lt6-clause-line : goal.returns-else-len-lt6-clause-line
returns-else-len-lt6-clause-line c =
    let line = c.self.inside.line in
    let six : length line.items ≡ 6 = omega (arith, line.ok.0, c.len.ensures, c.if-len-lt6.false, c.self.invariant) in
    λ other. subst (λ l. l ≡ take 6 (l ++ c.args.byte ∷ [])) c.self.view_is (full line.items c.args.byte six)
