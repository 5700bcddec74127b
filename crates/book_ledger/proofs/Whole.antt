-- from the parts of a book to the book
use Rattle.std.proofs.Common.{◌≡◌, ℕ, List, Result, Ok, Err, subst}
use Rattle.std.specs.Prelude.{IfOk, IfErr, OnOk}
use Rattle.journal.specs.Device.{Device}
use Rattle.book_laws.specs.Book.{Book}
use Rattle.book_ledger.specs.declared.ledger.Ledger.{Ledger}
use Rattle.book_ledger.specs.Inside.{book_of, AreTied, Goes, GoesAt}
use Rattle.book_ledger.specs.Sending.{IsSent}

-- what goes over every device goes over this one
module _ (old new : Ledger) (device : Device) (t : AreTied old device) (o n : Book) (is : book_of old device ≡ o) (is_new : book_of new device ≡ n) where
  pub step_whole : (Step : Book → Book → Type 0) → Step (book_of old device) (book_of new device) → Step o n
  step_whole Step s = subst (λ (b : Book). Step b n) is (subst (λ (b : Book). Step (book_of old device) b) is_new s)

  pub on_ok_whole : {X E : Type 0} (Step : Book → Book → Type 0) (r : Result X E) → OnOk r (Goes Step old new) → OnOk r (Step o n)
  on_ok_whole Step (Ok x) goes = step_whole Step (goes device t).1
  on_ok_whole Step (Err e) goes = tt

  pub if_ok_whole : {X E : Type 0} (Step : X → Book → Book → Type 0) (r : Result X E) → IfOk r (λ x. Goes (Step x) old new) → IfOk r (λ x. Step x o n)
  if_ok_whole Step (Ok x) goes = step_whole (Step x) (goes device t).1
  if_ok_whole Step (Err e) goes = tt

  pub if_err_whole : {X E : Type 0} (Step : E → Book → Book → Type 0) (r : Result X E) → IfErr r (λ e. Goes (Step e) old new) → IfErr r (λ e. Step e o n)
  if_err_whole Step (Ok x) goes = tt
  if_err_whole Step (Err e) goes = step_whole (Step e) (goes device t).1

  -- what goes out is what was recorded
  pub sent_whole : {X E : Type 0} (items : X → List ℕ) (r : Result X E) → IfOk r (λ x. IsSent old.history (items x) new.history) → IfOk r (λ x. IsSent o.history (items x) n.history)
  sent_whole items (Ok x) sent = step_whole (λ a b. IsSent a.history (items x) b.history) sent
  sent_whole items (Err e) sent = tt

  module _ (mark : ℕ) (at : device.mark ≡ mark) where
    pub on_ok_at : {X E : Type 0} (Step : Book → Book → Type 0) (r : Result X E) → OnOk r (GoesAt mark Step old new) → OnOk r (Step o n)
    on_ok_at Step (Ok x) goes = step_whole Step (goes device t at).1
    on_ok_at Step (Err e) goes = tt

    pub if_err_at : {X E : Type 0} (Step : E → Book → Book → Type 0) (r : Result X E) → IfErr r (λ e. GoesAt mark (Step e) old new) → IfErr r (λ e. Step e o n)
    if_err_at Step (Ok x) goes = tt
    if_err_at Step (Err e) goes = step_whole (Step e) (goes device t at).1

-- the new parts belong together, whatever is answered
module _ (old new : Ledger) (device : Device) (t : AreTied old device) where
  pub tied_on : {X E : Type 0} (Step : Book → Book → Type 0) (Stop : E → Book → Book → Type 0) (r : Result X E) → OnOk r (Goes Step old new) → IfErr r (λ e. Goes (Stop e) old new) → AreTied new device
  tied_on Step Stop (Ok x) goes stops = (goes device t).0
  tied_on Step Stop (Err e) goes stops = (stops device t).0

  pub tied_if : {X E : Type 0} (Step : X → Book → Book → Type 0) (Stop : E → Book → Book → Type 0) (r : Result X E) → IfOk r (λ x. Goes (Step x) old new) → IfErr r (λ e. Goes (Stop e) old new) → AreTied new device
  tied_if Step Stop (Ok x) goes stops = (goes device t).0
  tied_if Step Stop (Err e) goes stops = (stops device t).0

  pub tied_at : (mark : ℕ) → device.mark ≡ mark → {X E : Type 0} (Step : Book → Book → Type 0) (Stop : E → Book → Book → Type 0) (r : Result X E) → OnOk r (GoesAt mark Step old new)
      → IfErr r (λ e. GoesAt mark (Stop e) old new) → AreTied new device
  tied_at mark at Step Stop (Ok x) goes stops = (goes device t at).0
  tied_at mark at Step Stop (Err e) goes stops = (stops device t at).0
