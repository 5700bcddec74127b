-- what is known of a reply that is placed
use Rattle.std.proofs.Common.{◌≡◌, List, ℕ, Result, Ok, Err, refl, sym, ◌∙◌, subst}
use Rattle.std.specs.Prelude.{OnOk, IfErr}
use Rattle.nfs3_types.specs.declared.replies.NfsReply.{NfsReply}
use Rattle.nfs3_types.specs.declared.replies.Outcome.TheVariants.{Received}
use Rattle.nfs_history.specs.declared.recorded.RecordedCall.{RecordedCall}
use Rattle.book_ledger.specs.Spelling.{Spelled, IsSpelled, IsSpelledTo, IsOfCall}

pub placed_with : {X E : Type 0} (r : Result X E) (P : NfsReply → Type 0) (reply : NfsReply) → OnOk r ((said : NfsReply) → Received reply ≡ Received said → P said) → OnOk r (P reply)
placed_with (Ok x) P reply h = h reply refl
placed_with (Err e) P reply h = tt

pub refused_with : {X E : Type 0} (r : Result X E) (P : NfsReply → E → Type 0) (reply : NfsReply) → IfErr r (λ fault. (said : NfsReply) → Received reply ≡ Received said → P said fault) → IfErr r (P reply)
refused_with (Ok x) P reply h = tt
refused_with (Err e) P reply h = h reply refl

pub spelled_to : (calls : List RecordedCall) (number : ℕ) (reply : NfsReply) (s : Spelled) (answer : List ℕ) → IsOfCall calls number s.xid → s.reply ≡ reply → IsSpelled s.xid s.reply answer → IsSpelledTo calls number (Received reply) answer
spelled_to calls number reply s answer of same it = λ call said at is. subst (λ (n : ℕ). IsSpelled n said answer) (sym (of call at)) (subst (λ (r : NfsReply). IsSpelled s.xid r answer) (same ∙ one said is) it) where
  one : (said : NfsReply) → Received reply ≡ Received said → reply ≡ said
  one said e = cc
