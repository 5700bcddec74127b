-- Headers that are passed: what a walk reaches stands behind a chain of them, and a walk reaches what stands behind a chain.
use Rattle.std.proofs.Common.{◌≡◌, ◌<◌, ◌≤◌, ℕ, zero, suc, ◌+◌, ◌-◌, ◌*◌, Bool, true, false, cond, ltb, List, [], ◌∷◌, ◌++◌, length, take, drop, refl, sym, ap, subst, ◌∙◌, append_assoc, arith}
use Rattle.std.specs.Prelude.{Option, Some, None}
use Rattle.std.specs.List.{concat}
use Rattle.std.proofs.lemmas.Bool.{ltb-false, lt-ltb, le-ltb}
use Rattle.std.proofs.lemmas.List.{drop_at, take-append-drop, length-append, length-take-le}
use Rattle.packet_layers.specs.Packets.{byte, short, IsChain, is_tag, is_option}
use Rattle.packet_layers.specs.Reading.{walk, tag_size, tag_next, option_size, option_next, past_tags, past_options}
use Rattle.packet_layers.proofs.Numbers.{byte_front, short_front}

-- a header has four bytes at least, and says in these how long it is and what follows
pub record IsTold (size next : List ℕ → ℕ) : Type 0 where
  pub least : (bytes : List ℕ) → 4 ≤ size bytes
  pub size_is : (h rest : List ℕ) → 4 ≤ length h → size (h ++ rest) ≡ size h
  pub next_is : (h rest : List ℕ) → 4 ≤ length h → next (h ++ rest) ≡ next h

pub tags_told : IsTold tag_size tag_next
tags_told = record {
  least = λ bytes. omega arith;
  size_is = λ h rest four. refl;
  next_is = λ h rest four. short_front 2 h rest (omega arith);
}

pub options_told : IsTold option_size option_next
options_told = record {
  least = λ bytes. omega arith;
  size_is = λ h rest four. ap (λ (n : ℕ). n * 8 + 8) (byte_front 1 h rest (omega arith));
  next_is = λ h rest four. byte_front 0 h rest (omega arith);
}

-- what stands behind a chain of headers
pub record IsReached (passes : ℕ → Bool) (size next : List ℕ → ℕ) (kind : ℕ) (bytes : List ℕ) (last : ℕ) (rest : List ℕ) : Type 0 where
  pub headers : List (List ℕ)
  pub parts : bytes ≡ concat headers ++ rest
  pub chain : IsChain passes size next kind headers last

some_is : (x y : ℕ × List ℕ) → Some x ≡ Some y → x ≡ y
some_is x y e = cc

module _ (passes : ℕ → Bool) (size next : List ℕ → ℕ) (is_told : IsTold size next) where
  one_more : (kind : ℕ) (bytes : List ℕ) (last : ℕ) (rest : List ℕ) → passes kind ≡ true → size bytes ≤ length bytes → IsReached passes size next (next bytes) (drop (size bytes) bytes) last rest → IsReached passes size next kind bytes last rest
  one_more kind bytes last rest passed fits reached =
      let h = take (size bytes) bytes in
      let d = drop (size bytes) bytes in
      let whole : bytes ≡ h ++ d = sym (take-append-drop (size bytes) bytes) in
      let length_is : length h ≡ size bytes = length-take-le (size bytes) bytes fits in
      let four : 4 ≤ length h = omega (arith, is_told.least bytes) in
      let size_is : size bytes ≡ size h = ap size whole ∙ is_told.size_is h d four in
      let next_is : next bytes ≡ next h = ap next whole ∙ is_told.next_is h d four in
      record {
        headers = h ∷ reached.headers;
        parts = whole ∙ ap (λ (x : List ℕ). h ++ x) reached.parts ∙ sym (append_assoc h (concat reached.headers) rest);
        chain = (passed, length_is ∙ size_is, subst (λ (k : ℕ). IsChain passes size next k reached.headers last) next_is reached.chain);
      }

  one_found : (kind : ℕ) (bytes : List ℕ) (x : ℕ × List ℕ) (others : Option (ℕ × List ℕ)) (b t : Bool) → passes kind ≡ b → ltb (length bytes) (size bytes) ≡ t → (others ≡ Some x → IsReached passes size next (next bytes) (drop (size bytes) bytes) x.0 x.1) → cond b (cond t None others) (Some (kind, bytes)) ≡ Some x → IsReached passes size next kind bytes x.0 x.1
  one_found kind bytes x others true true p q further e = absurd cc
  one_found kind bytes x others true false p q further e = one_more kind bytes x.0 x.1 p (ltb-false _ _ q) (further e)
  one_found kind bytes x others false t p q further e = subst (λ (y : ℕ × List ℕ). IsReached passes size next kind bytes y.0 y.1) (some_is (kind, bytes) x e) (record { headers = []; parts = refl; chain = refl })

  pub walk_found : (n kind : ℕ) (bytes : List ℕ) (x : ℕ × List ℕ) → walk passes size next n kind bytes ≡ Some x → IsReached passes size next kind bytes x.0 x.1
  walk_found zero kind bytes x e = absurd cc
  walk_found (suc n) kind bytes x e = one_found kind bytes x (walk passes size next n (next bytes) (drop (size bytes) bytes)) (passes kind) (ltb (length bytes) (size bytes)) refl refl (λ h. walk_found n (next bytes) (drop (size bytes) bytes) x h) e

  pub walk_again : (n kind : ℕ) (hs : List (List ℕ)) (last : ℕ) (rest : List ℕ) → length hs < n → passes last ≡ false → IsChain passes size next kind hs last → walk passes size next n kind (concat hs ++ rest) ≡ Some (last, rest)
  walk_again zero kind hs last rest lt stops chain = absurd (omega arith)
  walk_again (suc n) kind [] last rest lt stops chain =
      let stopped : passes kind ≡ false = ap passes chain ∙ stops in
      rw stopped (ap (λ (k : ℕ). Some (k, rest)) chain)
  walk_again (suc n) kind (h ∷ hs) last rest lt stops chain =
      let more = concat hs ++ rest in
      let four : 4 ≤ length h = omega (arith, chain.1, is_told.least h) in
      let size_is : size (h ++ more) ≡ size h = is_told.size_is h more four in
      let next_is : next (h ++ more) ≡ next h = is_told.next_is h more four in
      let long : ltb (length (h ++ more)) (size h) ≡ false = le-ltb _ _ (omega (arith, chain.1, length-append h more)) in
      let behind : drop (size h) (h ++ more) ≡ more = drop_at h more (size h) chain.1 in
      ap (walk passes size next (suc n) kind) (append_assoc h (concat hs) rest) ∙ rw (chain.0, size_is, long, next_is, behind) (walk_again n (next h) hs last rest (omega arith) stops chain.2)

  pub few : (kind : ℕ) (hs : List (List ℕ)) (last : ℕ) → IsChain passes size next kind hs last → length hs ≤ length (concat hs)
  few kind [] last chain = omega arith
  few kind (h ∷ hs) last chain =
      let others : length hs ≤ length (concat hs) = few (next h) hs last chain.2 in
      omega (arith, is_told.least h, chain.1, length-append h (concat hs))

-- ---- along a loop

pub tags_on : (most i kind : ℕ) (rest behind : List ℕ) (total : Option (ℕ × List ℕ)) → i < most → is_tag kind ≡ true → 4 ≤ length rest → behind ≡ drop 4 rest → past_tags (most - i) kind rest ≡ total → past_tags (most - (i + 1)) (short 2 rest) behind ≡ total
unfolding past_tags
tags_on most i kind rest behind total lt passed fits is so_far =
    let k : most - i ≡ suc (most - (i + 1)) = omega arith in
    let long : ltb (length rest) 4 ≡ false = le-ltb _ _ fits in
    let one : past_tags (most - i) kind rest ≡ past_tags (most - (i + 1)) (short 2 rest) behind = rw (k, passed, long, is) refl in
    sym one ∙ so_far

pub tags_stop : (most i kind : ℕ) (rest : List ℕ) (total : Option (ℕ × List ℕ)) → i < most → is_tag kind ≡ false → past_tags (most - i) kind rest ≡ total → total ≡ Some (kind, rest)
unfolding past_tags
tags_stop most i kind rest total lt stops so_far =
    let k : most - i ≡ suc (most - (i + 1)) = omega arith in
    let one : past_tags (most - i) kind rest ≡ Some (kind, rest) = rw (k, stops) refl in
    sym so_far ∙ one

pub tags_cut : (most i kind : ℕ) (rest : List ℕ) (total : Option (ℕ × List ℕ)) → i < most → is_tag kind ≡ true → length rest < 4 → past_tags (most - i) kind rest ≡ total → total ≡ None
unfolding past_tags
tags_cut most i kind rest total lt passed cut so_far =
    let k : most - i ≡ suc (most - (i + 1)) = omega arith in
    let short_of : ltb (length rest) 4 ≡ true = lt-ltb _ _ cut in
    let one : past_tags (most - i) kind rest ≡ None = rw (k, passed, short_of) refl in
    sym so_far ∙ one

pub tags_end : (most i kind : ℕ) (rest : List ℕ) (total : Option (ℕ × List ℕ)) → most ≤ i → past_tags (most - i) kind rest ≡ total → total ≡ None
unfolding past_tags
tags_end most i kind rest total le so_far =
    let k : most - i ≡ 0 = omega arith in
    let one : past_tags (most - i) kind rest ≡ None = rw k refl in
    sym so_far ∙ one

pub options_on : (most i kind : ℕ) (rest behind : List ℕ) (total : Option (ℕ × List ℕ)) → i < most → is_option kind ≡ true → byte 1 rest * 8 + 8 ≤ length rest → behind ≡ drop (byte 1 rest * 8 + 8) rest → past_options (most - i) kind rest ≡ total → past_options (most - (i + 1)) (byte 0 rest) behind ≡ total
unfolding past_options
options_on most i kind rest behind total lt passed fits is so_far =
    let k : most - i ≡ suc (most - (i + 1)) = omega arith in
    let long : ltb (length rest) (byte 1 rest * 8 + 8) ≡ false = le-ltb _ _ fits in
    let one : past_options (most - i) kind rest ≡ past_options (most - (i + 1)) (byte 0 rest) behind = rw (k, passed, long, is) refl in
    sym one ∙ so_far

pub options_stop : (most i kind : ℕ) (rest : List ℕ) (total : Option (ℕ × List ℕ)) → i < most → is_option kind ≡ false → past_options (most - i) kind rest ≡ total → total ≡ Some (kind, rest)
unfolding past_options
options_stop most i kind rest total lt stops so_far =
    let k : most - i ≡ suc (most - (i + 1)) = omega arith in
    let one : past_options (most - i) kind rest ≡ Some (kind, rest) = rw (k, stops) refl in
    sym so_far ∙ one

pub options_cut : (most i kind : ℕ) (rest : List ℕ) (total : Option (ℕ × List ℕ)) → i < most → is_option kind ≡ true → length rest < byte 1 rest * 8 + 8 → past_options (most - i) kind rest ≡ total → total ≡ None
unfolding past_options
options_cut most i kind rest total lt passed cut so_far =
    let k : most - i ≡ suc (most - (i + 1)) = omega arith in
    let short_of : ltb (length rest) (byte 1 rest * 8 + 8) ≡ true = lt-ltb _ _ cut in
    let one : past_options (most - i) kind rest ≡ None = rw (k, passed, short_of) refl in
    sym so_far ∙ one

pub options_end : (most i kind : ℕ) (rest : List ℕ) (total : Option (ℕ × List ℕ)) → most ≤ i → past_options (most - i) kind rest ≡ total → total ≡ None
unfolding past_options
options_end most i kind rest total le so_far =
    let k : most - i ≡ 0 = omega arith in
    let one : past_options (most - i) kind rest ≡ None = rw k refl in
    sym so_far ∙ one
