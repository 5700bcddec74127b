-- The bytes of runs, joined to the last one.
use Rattle.std.proofs.Common.{◌≡◌, ◌≤◌, ℕ, List, [], ◌++◌, drop, length, append-nil, sym, ◌∙◌, ap}
use Rattle.std.proofs.Math.ListN.{drop_of_length-le}
use Rattle.tcp_streams.specs.declared.span.Span.{Span}
use Rattle.capture_history.specs.declared.direction.Payload.{Payload}
use Rattle.capture_history.specs.Streams.{joined_bytes}

pub joined_whole : (payloads : List Payload) (runs : List Span) (i : ℕ) (bytes : List ℕ) → length runs ≤ i → bytes ++ joined_bytes payloads (drop i runs) ≡ joined_bytes payloads runs → bytes ≡ joined_bytes payloads runs
joined_whole payloads runs i bytes past is =
    let none : drop i runs ≡ [] = drop_of_length-le runs past in
    sym (append-nil bytes) ∙ (ap (λ (rest : List Span). bytes ++ joined_bytes payloads rest) (sym none) ∙ is)
