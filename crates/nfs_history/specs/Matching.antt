-- For the prover, and for callers.
-- Calls and replies where they lie in memory, as those of the definitions.
use Rattle.std.specs.Prelude.{◌&&◌, nat_eq, Bool, ℕ, List, Option, option_map}
use Rattle.std.specs.Borrow.{Bor}
use Rattle.nfs_history.specs.declared.matching.SeenReply.{SeenReply}
use Rattle.nfs_history.specs.declared.matching.SeenCall.{SeenCall}
use Rattle.nfs_history.specs.Calls.{ReplyEvent, CallEvent}

abbrev pub seen_reply : SeenReply → ReplyEvent
seen_reply r = record { number = r.number; message = r.message.now }

abbrev pub seen_call : SeenCall → CallEvent
seen_call c = record { lane = c.lane; message = c.message.now; begin = c.begin; era = c.era; answer = option_map seen_reply c.answer }

-- the test of two keys, each a lane and a transaction number
abbrev pub same_key : ℕ × ℕ → ℕ × ℕ → Bool
same_key x y = nat_eq x.0 y.0 && nat_eq x.1 y.1

-- bytes without where they lie in memory
abbrev pub bytes_of : Option (Bor (List ℕ)) → Option (List ℕ)
bytes_of bytes = option_map (λ b. b.now) bytes
