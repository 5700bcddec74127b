-- For the prover, and for callers.
-- The bytes of a WRITE, which tell its call (this project's own): a file is seen as blocks of sixteen bytes, and the bytes of a block
-- are the hexadecimal digits of one number.
use Rattle.std.specs.Prelude.{ℕ, ◌+◌, ◌-◌, ◌*◌, ◌/◌, ◌%◌, ◌^◌, nat_lt, if◌then◌else◌, List, map}
use Rattle.std.specs.List.{range_with_len}
use Rattle.call_making.specs.declared.stamp.Stamp.{Stamp}

-- the number of a block: three digits of the night's seed, two of the client's number, six of the call's, five of the block's
abbrev pub block_word : Stamp → ℕ → ℕ
block_word stamp block =
    ((stamp.seed % 2 ^ 12 * 2 ^ 8 + stamp.client % 2 ^ 8) * 2 ^ 24 + stamp.call % 2 ^ 24) * 2 ^ 20 + block % 2 ^ 20

-- the letter of a digit below 16: 0 to 9, a to f
abbrev pub hex_letter : ℕ → ℕ
hex_letter digit = if nat_lt digit 10 then 48 + digit else 87 + digit

-- the byte at an offset of a file; the highest digit of a block's number is its first byte
abbrev pub tag : Stamp → ℕ → ℕ
tag stamp offset = hex_letter (block_word stamp (offset / 16) / 2 ^ (60 - 4 * (offset % 16)) % 16)

-- the bytes from an offset on
abbrev pub tags : Stamp → ℕ → ℕ → List ℕ
tags stamp offset count = map (λ index. tag stamp (offset + index)) (range_with_len 0 count)

-- the stamp of a client's first call
abbrev pub first_stamp : ℕ → ℕ → Stamp
first_stamp night number = record { seed = night; client = number; call = 0 }

-- the stamp of the client's next call; after 2^32 calls their numbers begin again
abbrev pub next_stamp : Stamp → Stamp
next_stamp stamp = record stamp { call = (stamp.call + 1) % 2 ^ 32 }
