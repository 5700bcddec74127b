-- An input that is read piece by piece.
use Rattle.std.proofs.Common.{◌≡◌, ℕ, ◌+◌, ◌≤◌, List, [], ◌++◌, Option, Some, None, IfSome, refl, sym, ap, ◌∙◌, arith, append_assoc, append-nil}
use Rattle.std.specs.Option.{IsSomeAnd}
use Rattle.std.specs.Io.KnownBytes.{Consumes, IsAtEnd}
use Rattle.program_streams.specs.Streams.{HasFewerReads}

-- where no read fails, each of these many reads brought the end nearer
abbrev pub IsNearer : Option ℕ → Option ℕ → ℕ → Type 0
IsNearer None now reads = Unit {0}
IsNearer (Some n) now reads = IsSomeAnd now (λ m. m + reads ≤ n)

pub nearer_first : (left : Option ℕ) → IsNearer left left 0
nearer_first None = tt
nearer_first (Some n) = omega arith

pub nearer_next : (left mid new : Option ℕ) (reads : ℕ) → IsNearer left mid reads → IfSome mid (λ n. HasFewerReads new n) → IsNearer left new (reads + 1)
nearer_next None mid new reads a b = tt
nearer_next (Some n) None new reads a b = absurd a
nearer_next (Some n) (Some m) None reads a b = absurd b
nearer_next (Some n) (Some m) (Some k) reads a b = omega (arith, a, b)

-- a read that failed is none of an input that doesn't fail
pub never_failed : (left mid : Option ℕ) (reads limit : ℕ) → IsNearer left mid reads → mid ≡ None → IfSome left (λ n. limit ≤ n)
never_failed None mid reads limit a e = tt
never_failed (Some n) None reads limit a e = absurd a
never_failed (Some n) (Some m) reads limit a e = cc e

-- after so many reads there were as many ahead of the end
pub many_reads : (left mid : Option ℕ) (reads limit : ℕ) → IsNearer left mid reads → limit ≤ reads → IfSome left (λ n. limit ≤ n)
many_reads None mid reads limit a le = tt
many_reads (Some n) None reads limit a le = absurd a
many_reads (Some n) (Some m) reads limit a le = omega (arith, a, le)

-- nothing is read yet
pub consumed_none : (known : Option (List ℕ)) → Consumes known known []
consumed_none None = tt
consumed_none (Some xs) = refl

-- two pieces, one behind the other
pub consumed_both : (old mid new : Option (List ℕ)) (front more : List ℕ) → Consumes old mid front → Consumes mid new more → Consumes old new (front ++ more)
consumed_both None mid new front more a b = tt
consumed_both (Some xs) None new front more a b = absurd a
consumed_both (Some xs) (Some ys) None front more a b = absurd b
consumed_both (Some xs) (Some ys) (Some zs) front more a b = a ∙ ap (λ l. front ++ l) b ∙ sym (append_assoc front more zs)

-- at the end all bytes are read
pub consumed_all : (old new : Option (List ℕ)) (bytes : List ℕ) → Consumes old new bytes → IsAtEnd new → IfSome old (λ known. bytes ≡ known)
consumed_all None new bytes a e = tt
consumed_all (Some xs) None bytes a e = absurd a
consumed_all (Some xs) (Some ys) bytes a e = sym (a ∙ ap (λ l. bytes ++ l) e ∙ append-nil bytes)
