-- Believed.
-- The items of RFC 4506 from the front of what is left, or what is wrong with them.
use Rattle.std.specs.Prelude.{ℕ, zero, suc, ◌+◌, ◌*◌, ◌/◌, Bool, true, false, nat_lt, nat_le, if◌then◌else◌, List, [], ◌∷◌, length, take, Result, Ok, Err}
use Rattle.byteorder.specs.Endian.{big_number}
use Rattle.xdr_records.specs.declared.fault.XdrFault.{XdrFault}
use Rattle.xdr_records.specs.declared.fault.XdrFault.TheVariants.{Short, BadFlag, TooLong, Trailing}
use Rattle.xdr_records.specs.Unread.{Unread, behind}

-- the number that four bytes are, the highest first
unfoldable pub word_of : List ℕ → ℕ
word_of bytes = big_number 4 bytes

-- the number that eight bytes are, the highest first
unfoldable pub long_of : List ℕ → ℕ
long_of bytes = big_number 8 bytes

-- the least multiple of 4 from n on
abbrev pub padded : ℕ → ℕ
padded n = (n + 3) / 4 * 4

-- ---- for the prover, and for callers

-- a word
unfoldable pub word_at : Unread → Result (ℕ × Unread) XdrFault
word_at unread = if nat_lt (length unread.rest) 4 then Err Short else Ok (word_of unread.rest, behind 4 unread)

-- two words as one number
unfoldable pub long_at : Unread → Result (ℕ × Unread) XdrFault
long_at unread = if nat_lt (length unread.rest) 8 then Err Short else Ok (long_of unread.rest, behind 8 unread)

-- which flag a word is
abbrev pub flag_of : ℕ → Result Bool XdrFault
flag_of zero = Ok false
flag_of (suc zero) = Ok true
flag_of (suc (suc n)) = Err BadFlag

abbrev pub flag_and : Result Bool XdrFault → Unread → Result (Bool × Unread) XdrFault
flag_and (Ok flag) after = Ok (flag, after)
flag_and (Err fault) after = Err fault

abbrev pub flag_in : Result (ℕ × Unread) XdrFault → Result (Bool × Unread) XdrFault
flag_in (Ok word) = flag_and (flag_of word.0) word.1
flag_in (Err fault) = Err fault

-- a flag
unfoldable pub flag_at : Unread → Result (Bool × Unread) XdrFault
flag_at unread = flag_in (word_at unread)

-- n bytes, and padding of any bytes
unfoldable pub fixed_at : ℕ → Unread → Result (List ℕ × Unread) XdrFault
fixed_at n unread = if nat_lt (length unread.rest) (padded n) then Err Short else Ok (take n unread.rest, behind (padded n) unread)

abbrev pub opaque_in : ℕ → Result (ℕ × Unread) XdrFault → Result (List ℕ × Unread) XdrFault
opaque_in max (Ok word) = if nat_le word.0 max then fixed_at word.0 word.1 else Err TooLong
opaque_in max (Err fault) = Err fault

-- a length, and so many bytes
unfoldable pub opaque_at : ℕ → Unread → Result (List ℕ × Unread) XdrFault
opaque_at max unread = opaque_in max (word_at unread)

abbrev pub end_in : List ℕ → Result (Unit {0}) XdrFault
end_in [] = Ok tt
end_in (byte ∷ bytes) = Err Trailing

-- nothing may stand behind the last item
unfoldable pub end_at : Unread → Result (Unit {0}) XdrFault
end_at unread = end_in unread.rest
