-- Believed.
-- the bytes of files
use Rattle.std.specs.Prelude.{ℕ, ◌+◌, ◌-◌, List, ◌++◌, length, take, drop, replicate}

-- bytes cut, or filled with zeros, to a size: RFC 1813, section 3.3.2
abbrev pub resized : List ℕ → ℕ → List ℕ
resized bytes size = take size bytes ++ replicate (size - length bytes) 0

-- data written at an offset: the bytes outside it stay, and a gap behind the file's end is filled with zeros, RFC 1813,
-- section 3.3.7
abbrev pub written : List ℕ → ℕ → List ℕ → List ℕ
written bytes offset added = resized bytes offset ++ added ++ drop (offset + length added) bytes
