-- Believed.
-- The line at which a text is no longer a certificate's (of this project's own format).
use Rattle.std.specs.Prelude.{◌≡◌, ℕ, ◌+◌, List, ◌++◌, length}
use Rattle.std.specs.List.{flat_map, AllByRecursion}
use Rattle.text_words.specs.Words.{Lacks}
use Rattle.certificate.specs.declared.plan.Certificate.{Certificate}
use Rattle.certificate.specs.declared.reading.TextFault.{TextFault}
use Rattle.certificate.specs.declared.reading.TextFault.TheVariants.{BadLine, NoMemory}
use Rattle.certificate.specs.CertificateText.{CertificateText, line}

-- the text begins some certificate's text
pub record Begins (text : List ℕ) : Type 0 where
  pub certificate : Certificate
  pub rest : List ℕ
  pub whole : CertificateText (text ++ rest) certificate

-- Line k is bad, counted from 1: the lines ahead of it begin a certificate's text; together with it they begin
-- none, or it is missing, or has no line feed; and so the text is no certificate's.
pub record IsBadLine (text : List ℕ) (k : ℕ) : Type 0 where
  pub ahead : List (List ℕ)
  pub rest : List ℕ
  pub split : text ≡ flat_map line ahead ++ rest
  pub each_a_line : AllByRecursion (Lacks 10) ahead
  pub counted : length ahead + 1 ≡ k
  pub begins : Begins (flat_map line ahead)
  pub stops : (words more : List ℕ) → rest ≡ line words ++ more → Lacks 10 words → Begins (flat_map line ahead ++ line words) → ⊥
  pub none : (certificate : Certificate) → CertificateText text certificate → ⊥

-- ---- for the prover

-- a fault with a number names a bad line
abbrev pub FaultHolds : List ℕ → TextFault → Type 0
FaultHolds text (BadLine k) = IsBadLine text k
FaultHolds text NoMemory = Unit {0}
