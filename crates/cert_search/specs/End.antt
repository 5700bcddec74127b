-- For the prover, and for callers.
-- How a search may end (words of this project's own).
use Rattle.std.specs.Prelude.{⊤}
use Rattle.certificate.specs.declared.plan.Certificate.{Certificate}
use Rattle.cert_search.specs.declared.end.SearchEnd.{SearchEnd}
use Rattle.cert_search.specs.declared.end.SearchEnd.TheVariants.{Found, NotFound, OutOfTurns, NoMemory}

-- where a certificate is found, it is such a one
abbrev pub IsFoundOnly : SearchEnd → (Certificate → Type 0) → Type 0
IsFoundOnly (Found plan) P = P plan
IsFoundOnly end P = ⊤

-- a certificate is found, or memory ran out
abbrev pub IsFoundOrNoMemory : SearchEnd → Type 0
IsFoundOrNoMemory (Found plan) = ⊤
IsFoundOrNoMemory NoMemory = ⊤
IsFoundOrNoMemory end = ⊥
