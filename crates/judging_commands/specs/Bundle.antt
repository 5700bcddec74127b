-- Believed.
-- What a bundle is: a history and a certificate in one stream of bytes.
use Rattle.std.specs.Prelude.{◌≡◌, ℕ, List, ◌∷◌, ◌++◌}
use Rattle.hex.specs.Hex.{IsBytes, encode_lower}
use Rattle.witness_check.specs.declared.fault.Fault.{Fault}
use Rattle.witness_check.specs.Witness.{AreAccepted}
use Rattle.witness_check.specs.Verdict.{AreRefuted}

-- the history's bytes in base 16 (RFC 4648, section 8) with lower case letters, a line feed, the certificate's text
pub record IsBundle (bytes history certificate : List ℕ) : Type 0 where
  pub in_range : IsBytes history
  pub spelled : bytes ≡ encode_lower history ++ 10 ∷ certificate

-- some history and some certificate
abbrev pub IsSomeBundle : List ℕ → Type 0
IsSomeBundle bytes = (history : List ℕ) × (certificate : List ℕ) × IsBundle bytes history certificate

-- a history and a certificate that shows how its calls can have come one after another
pub record IsAcceptedBundle (bytes : List ℕ) : Type 0 where
  pub history : List ℕ
  pub certificate : List ℕ
  pub spelled : IsBundle bytes history certificate
  pub accepted : AreAccepted history certificate

-- a history and a certificate whose plan has this first fault
pub record IsRefutedBundle (fault : Fault) (bytes : List ℕ) : Type 0 where
  pub history : List ℕ
  pub certificate : List ℕ
  pub spelled : IsBundle bytes history certificate
  pub refuted : AreRefuted history certificate fault
