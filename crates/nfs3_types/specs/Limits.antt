-- Believed.
-- Limits, this project's own: RFC 1813 leaves a file 2^64 - 1 bytes (section 2.5), and a server to tell how many bytes a READ gives (section
-- 3.3.19, FSINFO, rtmax).
use Rattle.std.specs.Prelude.{ℕ}

-- the most bytes of a file
abbrev pub file_limit : ℕ
file_limit = 16777216

-- the most bytes that a READ gives, and that a link's text may have
abbrev pub transfer_limit : ℕ
transfer_limit = 1048576
