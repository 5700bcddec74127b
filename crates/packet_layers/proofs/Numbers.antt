-- The numbers in a header are those in the bytes that it begins.
use Rattle.std.proofs.Common.{◌≡◌, ◌<◌, ℕ, ◌+◌, List, ◌++◌, length, get_or, ap, ◌∙◌, arith}
use Rattle.std.proofs.lemmas.List.{get_or_append_left}
use Rattle.packet_layers.specs.Packets.{byte, short, word, long}

pub byte_front : (place : ℕ) (h rest : List ℕ) → place < length h → byte place (h ++ rest) ≡ byte place h
byte_front place h rest lt = get_or_append_left h rest 0 place lt

pub short_front : (place : ℕ) (h rest : List ℕ) → place + 1 < length h → short place (h ++ rest) ≡ short place h
unfolding short
short_front place h rest lt =
    let high : byte place (h ++ rest) ≡ byte place h = byte_front place h rest (omega arith) in
    let low : byte (place + 1) (h ++ rest) ≡ byte (place + 1) h = byte_front (place + 1) h rest lt in
    omega arith

pub word_front : (place : ℕ) (h rest : List ℕ) → place + 3 < length h → word place (h ++ rest) ≡ word place h
unfolding word
word_front place h rest lt =
    let high : short place (h ++ rest) ≡ short place h = short_front place h rest (omega arith) in
    let low : short (place + 2) (h ++ rest) ≡ short (place + 2) h = short_front (place + 2) h rest (omega arith) in
    omega arith

pub long_front : (place : ℕ) (h rest : List ℕ) → place + 7 < length h → long place (h ++ rest) ≡ long place h
unfolding long
long_front place h rest lt =
    let high : word place (h ++ rest) ≡ word place h = word_front place h rest (omega arith) in
    let low : word (place + 4) (h ++ rest) ≡ word (place + 4) h = word_front (place + 4) h rest (omega arith) in
    omega arith

-- the same where the bytes have a name
module _ (bytes h rest : List ℕ) (parts : bytes ≡ h ++ rest) where
  pub same_byte : (place : ℕ) → place < length h → byte place bytes ≡ byte place h
  same_byte place lt = ap (byte place) parts ∙ byte_front place h rest lt

  pub same_short : (place : ℕ) → place + 1 < length h → short place bytes ≡ short place h
  same_short place lt = ap (short place) parts ∙ short_front place h rest lt

  pub same_word : (place : ℕ) → place + 3 < length h → word place bytes ≡ word place h
  same_word place lt = ap (word place) parts ∙ word_front place h rest lt

  pub same_long : (place : ℕ) → place + 7 < length h → long place bytes ≡ long place h
  same_long place lt = ap (long place) parts ∙ long_front place h rest lt
