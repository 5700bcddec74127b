-- For the prover, and for callers.
-- What a walk has learned: the root's handle, and the exchanges so far, in their order.
use Rattle.std.specs.Prelude.{ℕ, List, [], ◌∷◌, ◌++◌}
use Rattle.nfs3_types.specs.declared.calls.NfsCall.{NfsCall}
use Rattle.nfs3_types.specs.declared.replies.NfsReply.{NfsReply}
use Rattle.walk_accounts.specs.declared.exchange.Exchange.{Exchange}

pub record Walked : Type 0 where
  pub root : List ℕ
  pub exchanges : List Exchange

-- with one exchange more
abbrev pub learned : Walked → NfsCall → NfsReply → Walked
learned w call reply = record w { exchanges = w.exchanges ++ record { call = call; reply = reply } ∷ [] }
