-- For the prover.
-- A walk that is on, and what is noted of it.
use Rattle.std.specs.Prelude.{◌≡◌, ℕ, List}
use Rattle.rpc_client.specs.declared.asking.Credential.{Credential}
use Rattle.night_start.specs.Walked.{Walked}
use Rattle.export_walk.specs.declared.noting.NotedExchange.{NotedExchange}

pub record Journey : Type 0 where
  pub who : Credential
  pub walked : Walked
  pub noted : List NotedExchange

-- it is one of the export with this root, asked with this credential
abbrev pub IsBegun : List ℕ → Credential → Journey → Type 0
IsBegun root who w = (w.walked.root ≡ root) × (w.who ≡ who)

-- it goes on with the same export and the same credential
abbrev pub IsOn : Journey → Journey → Type 0
IsOn old new = (new.walked.root ≡ old.walked.root) × (new.who ≡ old.who)
