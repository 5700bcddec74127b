-- Messages that were made events, one more at a time.
use Rattle.std.proofs.Common.{◌≡◌, ℕ, List, [], ◌∷◌, ◌++◌, ◌∙◌, ap, sym, append_assoc}
use Rattle.capture_history.specs.declared.found.FoundKind.{FoundKind}
use Rattle.capture_history.specs.declared.found.Found.{Found}
use Rattle.capture_history.specs.Lanes.{IsEvent, AreMade}

pub made_one : (lane : ℕ) (kind : FoundKind) (ms : List (List ℕ)) (fs : List Found) (m : List ℕ) (f : Found) → AreMade lane kind ms fs → IsEvent lane kind m f → AreMade lane kind (ms ++ m ∷ []) (fs ++ f ∷ [])
made_one lane kind [] [] m f made is = (is, tt)
made_one lane kind [] (g ∷ gs) m f made is = absurd made
made_one lane kind (n ∷ ns) [] m f made is = absurd made
made_one lane kind (n ∷ ns) (g ∷ gs) m f made is = (made.0, made_one lane kind ns gs m f made.1 is)

-- some of the messages were made events, and the others wait
pub record HasMade (lane : ℕ) (kind : FoundKind) (all waiting : List (List ℕ)) (found : List Found) : Type 0 where
  pub front : List (List ℕ)
  pub parts : all ≡ front ++ waiting
  pub made : AreMade lane kind front found

pub took_one : (lane : ℕ) (kind : FoundKind) (all waiting waiting' : List (List ℕ)) (fs : List Found) (f : Found) (m : List ℕ) → HasMade lane kind all waiting fs → waiting ≡ m ∷ waiting' → IsEvent lane kind m f → HasMade lane kind all waiting' (fs ++ f ∷ [])
took_one lane kind all waiting waiting' fs f m so_far first is = record {
  front = so_far.front ++ m ∷ [];
  parts = so_far.parts ∙ (ap (λ (ms : List (List ℕ)). so_far.front ++ ms) first ∙ sym (append_assoc so_far.front (m ∷ []) waiting'));
  made = made_one lane kind so_far.front fs m f so_far.made is;
}
