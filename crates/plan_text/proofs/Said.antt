-- A line says one thing, and has no line feed.
use Rattle.std.proofs.Common.{◌≡◌, ◌≢◌, ℕ, ◌<◌, ◌≤◌, ◌^◌, inl, inr, ◌&&◌, not, Bool, true, cond, List, [], ◌∷◌, ◌++◌, get_or, eqb, false, refl, sym, ap, ◌∙◌, arith, decimal, codes}
use Rattle.std.specs.List.{list_all, AllByRecursion}
use Rattle.std.proofs.lemmas.Bool.{eq-eqb}
use Rattle.std.proofs.lemmas.Fmt.{decimal_injective}
use Rattle.nfs3_types.specs.declared.calls.StableHow.{StableHow}
use Rattle.nfs3_types.specs.declared.calls.StableHow.TheVariants.{Unstable, DataSync, FileSync}
use Rattle.plan_text.specs.declared.plan.Operation.{Operation}
use Rattle.plan_text.specs.declared.plan.Operation.TheVariants.{Create, MakeDirectory, Remove, Lookup, Rename, Write, Read, Commit}
use Rattle.plan_text.specs.declared.plan.LaneStep.{LaneStep}
use Rattle.plan_text.specs.declared.plan.Step.{Step}
use Rattle.plan_text.specs.declared.plan.Step.TheVariants.{Lane, Go, Crash}
use Rattle.plan_text.specs.declared.line.Line.{Line}
use Rattle.plan_text.specs.declared.line.Line.TheVariants as lines
use Rattle.plan_text.specs.PlanText.{◌␣◌, level_word, operation_words, step_words, IsNameByte, IsName, HasNames, HasNumbers}
use Rattle.text_words.specs.Words.{Lacks}
use Rattle.plan_text.specs.Line.{words_of, IsFit}
use Rattle.text_words.proofs.Cuts.{split_same, Lacks-decimal, Lacks-append}

pub differ : (a b : ℕ) → eqb a b ≡ false → a ≡ b → ⊥
differ a b not same = cc (sym not ∙ eq-eqb a b same)

at_least : (x : ℕ) → IsNameByte x → 48 ≤ x
at_least x (inl h) = omega (arith, h.0)
at_least x (inr h) = h.0

Lacks-bytes : (byte : ℕ) (bytes : List ℕ) → byte < 48 → AllByRecursion IsNameByte bytes → Lacks byte bytes
Lacks-bytes byte [] below h = tt
Lacks-bytes byte (x ∷ xs) below h = (λ e. absurd (omega (arith, at_least x h.0, e)), Lacks-bytes byte xs below h.1)

-- a name has no space and no line feed
pub Lacks-name : (byte : ℕ) (bytes : List ℕ) → byte < 48 → IsName bytes → Lacks byte bytes
Lacks-name byte bytes below h = Lacks-bytes byte bytes below h.2

-- one text is cut at its first space in one way
pub cut_space : (u v r s : List ℕ) → Lacks 32 u → Lacks 32 v → u ␣ r ≡ v ␣ s → (u ≡ v) × (r ≡ s)
cut_space u v r s lu lv e = split_same 32 u v r s lu lv e

pub level_same : (l m : StableHow) → level_word l ≡ level_word m → l ≡ m
level_same Unstable Unstable e = refl
level_same DataSync DataSync e = refl
level_same FileSync FileSync e = refl
level_same l m e = absurd (differ (get_or (level_word l) 0 0) (get_or (level_word m) 0 0) refl (ap (λ w. get_or w 0 0) e))

-- the fifth letter of an operation tells its kind
abbrev pub letter : Operation → ℕ
letter (Create name) = 116
letter (MakeDirectory name) = 114
letter (Remove name) = 118
letter (Lookup name) = 117
letter (Rename from to) = 109
letter (Write name offset text level) = 101
letter (Read name offset count) = 32
letter (Commit name) = 105

tells_letter : (o : Operation) → get_or (operation_words o) 4 0 ≡ letter o
tells_letter (Create name) = refl
tells_letter (MakeDirectory name) = refl
tells_letter (Remove name) = refl
tells_letter (Lookup name) = refl
tells_letter (Rename from to) = refl
tells_letter (Write name offset text level) = refl
tells_letter (Read name offset count) = refl
tells_letter (Commit name) = refl

pub other_letter : (words : List ℕ) (o : Operation) (n : ℕ) → get_or words 4 0 ≡ n → eqb n (letter o) ≡ false → words ≡ operation_words o → ⊥
other_letter words o n is not e = differ n (letter o) not (sym is ∙ ap (λ w. get_or w 4 0) e ∙ tells_letter o)

same_operation : (o p : Operation) → HasNames o → HasNames p → operation_words o ≡ operation_words p → o ≡ p
same_operation (Create n) (Create m) ho hp e =
    let tails : n ≡ m = cc (e) in ap (λ x. Create x) tails
same_operation (MakeDirectory n) (MakeDirectory m) ho hp e =
    let tails : n ≡ m = cc (e) in ap (λ x. MakeDirectory x) tails
same_operation (Remove n) (Remove m) ho hp e =
    let tails : n ≡ m = cc (e) in ap (λ x. Remove x) tails
same_operation (Lookup n) (Lookup m) ho hp e =
    let tails : n ≡ m = cc (e) in ap (λ x. Lookup x) tails
same_operation (Commit n) (Commit m) ho hp e =
    let tails : n ≡ m = cc (e) in ap (λ x. Commit x) tails
same_operation (Rename f t) (Rename g u) ho hp e =
    let tails : f ␣ t ≡ g ␣ u = cc (e) in
    let parts = cut_space f g t u (Lacks-name 32 f (omega arith) ho.0) (Lacks-name 32 g (omega arith) hp.0) tails in
    cc (parts.0, parts.1)
same_operation (Write n o t l) (Write m p u k) hn hm e =
    let tails : n ␣ decimal o ␣ t ␣ level_word l ≡ m ␣ decimal p ␣ u ␣ level_word k = cc (e) in
    let names = cut_space n m (decimal o ␣ t ␣ level_word l) (decimal p ␣ u ␣ level_word k) (Lacks-name 32 n (omega arith) hn.0) (Lacks-name 32 m (omega arith) hm.0) tails in
    let offsets = cut_space (decimal o) (decimal p) (t ␣ level_word l) (u ␣ level_word k) (Lacks-decimal 32 o (omega arith) hn.1) (Lacks-decimal 32 p (omega arith) hm.1) names.1 in
    let texts = cut_space t u (level_word l) (level_word k) (Lacks-name 32 t (omega arith) hn.2) (Lacks-name 32 u (omega arith) hm.2) offsets.1 in
    let same = decimal_injective o p hn.1 hm.1 offsets.0 in
    let levels = level_same l k texts.1 in
    cc (names.0, same, texts.0, levels)
same_operation (Read n o c) (Read m p d) hn hm e =
    let tails : n ␣ decimal o ␣ decimal c ≡ m ␣ decimal p ␣ decimal d = cc (e) in
    let names = cut_space n m (decimal o ␣ decimal c) (decimal p ␣ decimal d) (Lacks-name 32 n (omega arith) hn.0) (Lacks-name 32 m (omega arith) hm.0) tails in
    let offsets = cut_space (decimal o) (decimal p) (decimal c) (decimal d) (Lacks-decimal 32 o (omega arith) hn.1) (Lacks-decimal 32 p (omega arith) hm.1) names.1 in
    let same = decimal_injective o p hn.1 hm.1 offsets.0 in
    let counts = decimal_injective c d (omega (arith, hn.2)) (omega (arith, hm.2)) offsets.1 in
    cc (names.0, same, counts)
same_operation o p ho hp e = absurd (other_letter (operation_words o) p (letter o) (tells_letter o) refl e)

same_lane : (s t : LaneStep) → HasNumbers (Lane s) → HasNumbers (Lane t) → step_words (Lane s) ≡ step_words (Lane t) → s ≡ t
same_lane s t hs ht e =
    let tails : decimal s.lane ␣ operation_words s.operation ≡ decimal t.lane ␣ operation_words t.operation = cc (e) in
    let parts = cut_space (decimal s.lane) (decimal t.lane) (operation_words s.operation) (operation_words t.operation) (Lacks-decimal 32 s.lane (omega arith) (omega (arith, hs.1))) (Lacks-decimal 32 t.lane (omega arith) (omega (arith, ht.1))) tails in
    let lanes = decimal_injective s.lane t.lane (omega (arith, hs.1)) (omega (arith, ht.1)) parts.0 in
    let operations = same_operation s.operation t.operation hs.2 ht.2 parts.1 in
    let same : record { lane = s.lane; operation = s.operation } ≡ record { lane = t.lane; operation = t.operation } = cc (lanes, operations) in same

-- the first letter of a step tells its kind
abbrev letter_of_step : Step → ℕ
letter_of_step (Lane s) = 108
letter_of_step Go = 103
letter_of_step (Crash k) = 99

tells_step : (s : Step) → get_or (step_words s) 0 0 ≡ letter_of_step s
tells_step (Lane s) = refl
tells_step Go = refl
tells_step (Crash k) = refl

same_step : (s t : Step) → HasNumbers s → HasNumbers t → step_words s ≡ step_words t → s ≡ t
same_step (Lane s) (Lane t) hs ht e = ap (λ x. Lane x) (same_lane s t hs ht e)
same_step Go Go hs ht e = refl
same_step (Crash a) (Crash b) hs ht e =
    let tails : decimal a ≡ decimal b = cc (e) in ap (λ x. Crash x) (decimal_injective a b hs ht tails)
same_step s t hs ht e = absurd (differ (letter_of_step s) (letter_of_step t) refl (sym (tells_step s) ∙ ap (λ w. get_or w 0 0) e ∙ tells_step t))

-- so does that of a line, and the seventh that of a fault
abbrev mark : List ℕ → ℕ
mark words =
    cond (eqb (get_or words 0 0) 102) (get_or words 6 0) (cond (eqb (get_or words 0 0) 112) 112 (cond (eqb (get_or words 0 0) 101) 101 0))

abbrev mark_of : Line → ℕ
mark_of lines.First = 112
mark_of (lines.AppendFault at) = 97
mark_of (lines.BarrierFault at) = 98
mark_of (lines.Step step) = 0
mark_of lines.End = 101

tells_mark : (l : Line) → mark (words_of l) ≡ mark_of l
tells_mark lines.First = refl
tells_mark (lines.AppendFault at) = refl
tells_mark (lines.BarrierFault at) = refl
tells_mark (lines.Step (Lane s)) = refl
tells_mark (lines.Step Go) = refl
tells_mark (lines.Step (Crash k)) = refl
tells_mark lines.End = refl

-- words say one thing
pub line_same : (l m : Line) → IsFit l → IsFit m → words_of l ≡ words_of m → l ≡ m
line_same lines.First lines.First hl hm e = refl
line_same (lines.AppendFault a) (lines.AppendFault b) hl hm e =
    let tails : decimal a ≡ decimal b = cc (e) in ap (λ x. lines.AppendFault x) (decimal_injective a b hl.1 hm.1 tails)
line_same (lines.BarrierFault a) (lines.BarrierFault b) hl hm e =
    let tails : decimal a ≡ decimal b = cc (e) in ap (λ x. lines.BarrierFault x) (decimal_injective a b hl.1 hm.1 tails)
line_same (lines.Step s) (lines.Step t) hl hm e = ap (λ x. lines.Step x) (same_step s t hl hm e)
line_same lines.End lines.End hl hm e = refl
line_same l m hl hm e = absurd (differ (mark_of l) (mark_of m) refl (sym (tells_mark l) ∙ ap mark e ∙ tells_mark m))

other_byte : (x byte : ℕ) (t : Bool) → (not (eqb x byte) && t) ≡ true → (x ≢ byte) × (t ≡ true)
other_byte x byte t h = go (eqb x byte) refl h
  where
    go : (e : Bool) → eqb x byte ≡ e → (not e && t) ≡ true → (x ≢ byte) × (t ≡ true)
    go true is h = absurd cc
    go false is h = (λ same. cc (sym is ∙ eq-eqb x byte same), h)

lacks_all : (byte : ℕ) (xs : List ℕ) → list_all (λ b. not (eqb b byte)) xs ≡ true → Lacks byte xs
lacks_all byte [] h = tt
lacks_all byte (x ∷ xs) h =
    let parts = other_byte x byte (list_all (λ b. not (eqb b byte)) xs) h in (parts.0, lacks_all byte xs parts.1)

after_word : (word rest : List ℕ) → list_all (λ b. not (eqb b 10)) word ≡ true → Lacks 10 rest → Lacks 10 (word ++ rest)
after_word word rest h lacks = Lacks-append 10 word rest (lacks_all 10 word h) lacks

after_space : (word rest : List ℕ) → Lacks 10 word → Lacks 10 rest → Lacks 10 (word ␣ rest)
after_space word rest lw lr = Lacks-append 10 word (32 ∷ rest) lw (after_word (codes " ") rest refl lr)

name_line : (name : List ℕ) → IsName name → Lacks 10 name
name_line name h = Lacks-name 10 name (omega arith) h

number_line : (n : ℕ) → n < 2 ^ 64 → Lacks 10 (decimal n)
number_line n h = Lacks-decimal 10 n (omega arith) h

level_line : (l : StableHow) → Lacks 10 (level_word l)
level_line Unstable = lacks_all 10 (codes "U") refl
level_line DataSync = lacks_all 10 (codes "D") refl
level_line FileSync = lacks_all 10 (codes "F") refl

operation_line : (o : Operation) → HasNames o → Lacks 10 (operation_words o)
operation_line (Create n) h = after_word (codes "create ") n refl (name_line n h)
operation_line (MakeDirectory n) h = after_word (codes "mkdir ") n refl (name_line n h)
operation_line (Remove n) h = after_word (codes "remove ") n refl (name_line n h)
operation_line (Lookup n) h = after_word (codes "lookup ") n refl (name_line n h)
operation_line (Commit n) h = after_word (codes "commit ") n refl (name_line n h)
operation_line (Rename f t) h = after_word (codes "rename ") (f ␣ t) refl (after_space f t (name_line f h.0) (name_line t h.1))
operation_line (Write n o t l) h =
    after_word (codes "write ") (n ␣ decimal o ␣ t ␣ level_word l) refl
    (after_space n (decimal o ␣ t ␣ level_word l) (name_line n h.0) (after_space (decimal o) (t ␣ level_word l) (number_line o h.1) (after_space t (level_word l) (name_line t h.2) (level_line l))))
operation_line (Read n o c) h =
    after_word (codes "read ") (n ␣ decimal o ␣ decimal c) refl
    (after_space n (decimal o ␣ decimal c) (name_line n h.0) (after_space (decimal o) (decimal c) (number_line o h.1) (number_line c (omega (arith, h.2)))))

-- no line has a line feed
pub no_feed : (l : Line) → IsFit l → Lacks 10 (words_of l)
no_feed lines.First h = lacks_all 10 (codes "plan 1") refl
no_feed (lines.AppendFault at) h = after_word (codes "fault append ") (decimal at) refl (number_line at h.1)
no_feed (lines.BarrierFault at) h = after_word (codes "fault barrier ") (decimal at) refl (number_line at h.1)
no_feed (lines.Step (Lane s)) h =
    after_word (codes "lane ") (decimal s.lane ␣ operation_words s.operation) refl
    (after_space (decimal s.lane) (operation_words s.operation) (number_line s.lane (omega (arith, h.1))) (operation_line s.operation h.2))
no_feed (lines.Step Go) h = lacks_all 10 (codes "go") refl
no_feed (lines.Step (Crash k)) h = after_word (codes "crash ") (decimal k) refl (number_line k h)
no_feed lines.End h = lacks_all 10 (codes "end") refl
