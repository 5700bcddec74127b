-- What a writer holds, and what a reader has left, piece by piece.
use Rattle.std.proofs.Common.{◌≡◌, ℕ, ◌≤◌, List, [], ◌++◌, length, take, drop, Option, Some, None, refl, sym, ap, ◌∙◌, arith, append-nil, take_all}
use Rattle.std.proofs.lemmas.List.{take-append-le}
use Rattle.std.specs.Io.KnownBytes.{Appends, Consumes, Keeps}

-- nothing
pub none_appended : (held : Option (List ℕ)) → Appends held held []
none_appended None = tt
none_appended (Some xs) = sym (append-nil xs)

-- ---- what a reader has left

-- a piece of the buffer, once what was read is written back
pub piece_read : (read old buffer : List ℕ) (size count : ℕ) → length read ≡ size → buffer ≡ take size (read ++ drop (length read) old) → take count buffer ≡ take count read
piece_read read old buffer size count is back =
    let fits : size ≤ length read = omega arith in
    let front : take size (read ++ drop (length read) old) ≡ take size read = rw take-append-le in
    ap (λ (l : List ℕ). take count l) (back ∙ front ∙ take_all size read (omega arith))

pub none_consumed : (left : Option (List ℕ)) → Consumes left left []
none_consumed None = tt
none_consumed (Some xs) = refl

-- a read that gave nothing
pub unread : (old mid new : Option (List ℕ)) (bytes : List ℕ) → Consumes old mid bytes → Keeps mid new → Consumes old new bytes
unread None mid new bytes a k = tt
unread (Some xs) None new bytes a k = absurd a
unread (Some xs) (Some ys) None bytes a k = absurd k
unread (Some xs) (Some ys) (Some zs) bytes a k = a ∙ ap (λ l. bytes ++ l) (sym k)
