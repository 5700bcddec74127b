-- The parts of an operation's and of a step's words.
use Rattle.std.proofs.Common.{◌≡◌, ℕ, ◌<◌, ◌≤◌, ◌^◌, List, ◌∷◌, ◌++◌, get_or, refl, sym, ap, ◌∙◌, arith, decimal, codes, Err}
use Rattle.plan_text.specs.declared.words.WordFault.{WordFault}
use Rattle.plan_text.specs.declared.words.WordFault.TheVariants.{NotOne, NoMemory}
use Rattle.nfs3_types.specs.declared.calls.StableHow.{StableHow}
use Rattle.plan_text.specs.declared.plan.Operation.{Operation}
use Rattle.plan_text.specs.declared.plan.Operation.TheVariants.{Rename, Write, Read}
use Rattle.plan_text.specs.declared.plan.Step.{Step}
use Rattle.plan_text.specs.declared.plan.Step.TheVariants.{Lane, Go, Crash}
use Rattle.plan_text.specs.declared.line.Line.{Line}
use Rattle.plan_text.specs.declared.line.Line.TheVariants as lines
use Rattle.plan_text.specs.PlanText.{◌␣◌, level_word, operation_words, IsName, HasNames}
use Rattle.text_words.specs.Words.{Lacks}
use Rattle.plan_text.specs.Line.{Tells, IsOperation, IsStep, IsLine}
use Rattle.text_words.proofs.Cuts.{no_split, Lacks-decimal}
use Rattle.plan_text.proofs.Said.{differ, Lacks-name, cut_space, other_letter}

-- where what is meant has a part, and that part isn't read, it isn't read either
pub passed_on : {A B : Type 0} (P : A → Type 0) (Q : B → Type 0) (e : WordFault) → ((y : B) → Q y → (x : A) × P x) → Tells P (Err e) → Tells Q (Err e)
passed_on P Q NotOne back h = λ y q. let x = back y q in h x.0 x.1
passed_on P Q NoMemory back h = tt

pub rename_parts : (words : List ℕ) (o : Operation) → IsOperation (codes "rename " ++ words) o → (from to : List ℕ) × (words ≡ from ␣ to) × IsName from × IsName to
rename_parts words (Rename from to) h =
    let tails : words ≡ from ␣ to = cc (h.0) in (from, to, tails, h.1.0, h.1.1)
rename_parts words o h = absurd (other_letter (codes "rename " ++ words) o 109 refl refl h.0)

pub rename_space : (words : List ℕ) (o : Operation) → Lacks 32 words → IsOperation (codes "rename " ++ words) o → ⊥
rename_space words o lacks h =
    let p = rename_parts words o h in no_split 32 words p.0 p.1 lacks p.2

pub rename_names : (words x y : List ℕ) (o : Operation) → words ≡ x ++ 32 ∷ y → Lacks 32 x → IsOperation (codes "rename " ++ words) o → IsName x × IsName y
rename_names words x y o e lacks h =
    let p = rename_parts words o h in
    let cut = cut_space x p.0 y p.1 lacks (Lacks-name 32 p.0 (omega arith) p.3) (sym e ∙ p.2) in
    (rw cut.0 p.3, rw cut.1 p.4)

pub write_parts : (words : List ℕ) (o : Operation) → IsOperation (codes "write " ++ words) o → (name : List ℕ) × (offset : ℕ) × (text : List ℕ) × (level : StableHow) × (words ≡ name ␣ decimal offset ␣ text ␣ level_word level) × IsName name × (offset < 2 ^ 64) × IsName text
write_parts words (Write name offset text level) h =
    let tails : words ≡ name ␣ decimal offset ␣ text ␣ level_word level = cc (h.0) in (name, offset, text, level, tails, h.1.0, h.1.1, h.1.2)
write_parts words o h = absurd (other_letter (codes "write " ++ words) o 101 refl refl h.0)

pub write_space : (words : List ℕ) (o : Operation) → Lacks 32 words → IsOperation (codes "write " ++ words) o → ⊥
write_space words o lacks h =
    let p = write_parts words o h in no_split 32 words p.0 (decimal p.1 ␣ p.2 ␣ level_word p.3) lacks p.4

-- behind the name
pub write_behind : (words x y : List ℕ) (o : Operation) → words ≡ x ++ 32 ∷ y → Lacks 32 x → IsOperation (codes "write " ++ words) o → (offset : ℕ) × (text : List ℕ) × (level : StableHow) × (y ≡ decimal offset ␣ text ␣ level_word level) × IsName x × (offset < 2 ^ 64) × IsName text
write_behind words x y o e lacks h =
    let p = write_parts words o h in
    let cut = cut_space x p.0 y (decimal p.1 ␣ p.2 ␣ level_word p.3) lacks (Lacks-name 32 p.0 (omega arith) p.5) (sym e ∙ p.4) in
    (p.1, p.2, p.3, cut.1, rw cut.0 p.5, p.6, p.7)

pub write_second : (words x y : List ℕ) (o : Operation) → words ≡ x ++ 32 ∷ y → Lacks 32 x → Lacks 32 y → IsOperation (codes "write " ++ words) o → ⊥
write_second words x y o e lacks other h =
    let p = write_behind words x y o e lacks h in no_split 32 y (decimal p.0) (p.1 ␣ level_word p.2) other p.3

-- behind the offset
pub write_text : (words x y z w : List ℕ) (o : Operation) → words ≡ x ++ 32 ∷ y → Lacks 32 x → y ≡ z ++ 32 ∷ w → Lacks 32 z → IsOperation (codes "write " ++ words) o → (offset : ℕ) × (text : List ℕ) × (level : StableHow) × (z ≡ decimal offset) × (w ≡ text ␣ level_word level) × IsName x × (offset < 2 ^ 64) × IsName text
write_text words x y z w o e lacks d other h =
    let p = write_behind words x y o e lacks h in
    let cut = cut_space z (decimal p.0) w (p.1 ␣ level_word p.2) other (Lacks-decimal 32 p.0 (omega arith) p.5) (sym d ∙ p.3) in
    (p.0, p.1, p.2, cut.0, cut.1, p.4, p.5, p.6)

pub write_third : (words x y z w : List ℕ) (o : Operation) → words ≡ x ++ 32 ∷ y → Lacks 32 x → y ≡ z ++ 32 ∷ w → Lacks 32 z → Lacks 32 w → IsOperation (codes "write " ++ words) o → ⊥
write_third words x y z w o e lacks d other last h =
    let p = write_text words x y z w o e lacks d other h in no_split 32 w p.1 (level_word p.2) last p.4

-- all four
pub write_all : (words x y z w t l : List ℕ) (o : Operation) → words ≡ x ++ 32 ∷ y → Lacks 32 x → y ≡ z ++ 32 ∷ w → Lacks 32 z → w ≡ t ++ 32 ∷ l → Lacks 32 t → IsOperation (codes "write " ++ words) o → (offset : ℕ) × (level : StableHow) × (z ≡ decimal offset) × (offset < 2 ^ 64) × IsName x × IsName t × (l ≡ level_word level)
write_all words x y z w t l o e lacks d other f last h =
    let p = write_text words x y z w o e lacks d other h in
    let cut = cut_space t p.1 l (level_word p.2) last (Lacks-name 32 p.1 (omega arith) p.7) (sym f ∙ p.4) in
    (p.0, p.2, p.3, p.6, p.5, rw cut.0 p.7, cut.1)

pub read_parts : (words : List ℕ) (o : Operation) → IsOperation (codes "read " ++ words) o → (name : List ℕ) × (offset count : ℕ) × (words ≡ name ␣ decimal offset ␣ decimal count) × IsName name × (offset < 2 ^ 64) × (count < 2 ^ 32)
read_parts words (Read name offset count) h =
    let tails : words ≡ name ␣ decimal offset ␣ decimal count = cc (h.0) in (name, offset, count, tails, h.1.0, h.1.1, h.1.2)
read_parts words o h = absurd (other_letter (codes "read " ++ words) o 32 refl refl h.0)

pub read_space : (words : List ℕ) (o : Operation) → Lacks 32 words → IsOperation (codes "read " ++ words) o → ⊥
read_space words o lacks h =
    let p = read_parts words o h in no_split 32 words p.0 (decimal p.1 ␣ decimal p.2) lacks p.3

read_behind : (words x y : List ℕ) (o : Operation) → words ≡ x ++ 32 ∷ y → Lacks 32 x → IsOperation (codes "read " ++ words) o → (offset count : ℕ) × (y ≡ decimal offset ␣ decimal count) × IsName x × (offset < 2 ^ 64) × (count < 2 ^ 32)
read_behind words x y o e lacks h =
    let p = read_parts words o h in
    let cut = cut_space x p.0 y (decimal p.1 ␣ decimal p.2) lacks (Lacks-name 32 p.0 (omega arith) p.4) (sym e ∙ p.3) in
    (p.1, p.2, cut.1, rw cut.0 p.4, p.5, p.6)

pub read_second : (words x y : List ℕ) (o : Operation) → words ≡ x ++ 32 ∷ y → Lacks 32 x → Lacks 32 y → IsOperation (codes "read " ++ words) o → ⊥
read_second words x y o e lacks other h =
    let p = read_behind words x y o e lacks h in no_split 32 y (decimal p.0) (decimal p.1) other p.2

pub read_all : (words x y z w : List ℕ) (o : Operation) → words ≡ x ++ 32 ∷ y → Lacks 32 x → y ≡ z ++ 32 ∷ w → Lacks 32 z → IsOperation (codes "read " ++ words) o → (offset count : ℕ) × (z ≡ decimal offset) × (offset < 2 ^ 64) × IsName x × (w ≡ decimal count) × (count < 2 ^ 32)
read_all words x y z w o e lacks d other h =
    let p = read_behind words x y o e lacks h in
    let cut = cut_space z (decimal p.0) w (decimal p.1) other (Lacks-decimal 32 p.0 (omega arith) p.4) (sym d ∙ p.2) in
    (p.0, p.1, cut.0, p.4, p.3, cut.1, p.5)

-- the words don't begin so
abbrev pub LacksFront : List ℕ → List ℕ → Type 0
LacksFront words front = (rest : List ℕ) → words ≡ front ++ rest → ⊥

-- a lane's step
pub lane_parts : (words : List ℕ) (s : Step) → IsStep (codes "lane " ++ words) s → (lane : ℕ) × (o : Operation) × (words ≡ decimal lane ␣ operation_words o) × (0 < lane) × (lane ≤ 64) × HasNames o
lane_parts words (Lane step) h =
    let tails : words ≡ decimal step.lane ␣ operation_words step.operation = cc (h.0) in (step.lane, step.operation, tails, h.1.0, h.1.1, h.1.2)
lane_parts words Go h = absurd (differ 108 103 refl (ap (λ w. get_or w 0 0) h.0))
lane_parts words (Crash k) h = absurd (differ 108 99 refl (ap (λ w. get_or w 0 0) h.0))

pub lane_space : (words : List ℕ) (s : Step) → Lacks 32 words → IsStep (codes "lane " ++ words) s → ⊥
lane_space words s lacks h =
    let p = lane_parts words s h in no_split 32 words (decimal p.0) (operation_words p.1) lacks p.2

pub lane_all : (words x y : List ℕ) (s : Step) → words ≡ x ++ 32 ∷ y → Lacks 32 x → IsStep (codes "lane " ++ words) s → (lane : ℕ) × (o : Operation) × (x ≡ decimal lane) × (0 < lane) × (lane ≤ 64) × IsOperation y o
lane_all words x y s e lacks h =
    let p = lane_parts words s h in
    let cut = cut_space x (decimal p.0) y (operation_words p.1) lacks (Lacks-decimal 32 p.0 (omega arith) (omega (arith, p.4))) (sym e ∙ p.2) in
    (p.0, p.1, cut.0, p.3, p.4, (cut.1, p.5))

-- a line that is no other is a step's
pub step_line : (words : List ℕ) (l : Line) → (words ≡ codes "plan 1" → ⊥) → (words ≡ codes "end" → ⊥) → LacksFront words (codes "fault append ") → LacksFront words (codes "fault barrier ") → IsLine words l → (s : Step) × IsStep words s
step_line words lines.First f e a b h = absurd (f h.0)
step_line words (lines.AppendFault at) f e a b h = absurd (a (decimal at) h.0)
step_line words (lines.BarrierFault at) f e a b h = absurd (b (decimal at) h.0)
step_line words (lines.Step s) f e a b h = (s, h)
step_line words lines.End f e a b h = absurd (e h.0)
