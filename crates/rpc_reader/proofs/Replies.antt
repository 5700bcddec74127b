-- A reply is read exactly where the message is one.
use Rattle.std.proofs.Common.{◌≡◌, ℕ, ◌+◌, inl, inr, List, [], length, Result, Ok, Err, refl, sym, ap, subst, ◌∙◌}
use Rattle.std.specs.Prelude.{IfOk, IfErr, IsOkAnd}
use Rattle.xdr_records.specs.Unread.{Unread, whole}
use Rattle.xdr_records.specs.Items.{end_at}
use Rattle.xdr_records.specs.Spelling.{Spells}
use Rattle.xdr_records.specs.Faults.{Stands}
use Rattle.xdr_records.specs.Kinds.{Tells, item_kind, kind_reading}
use Rattle.xdr_records.proofs.Fronts.{left_at, fine, fine_is, pair_is, bound_ok, bound_err}
use Rattle.xdr_records.proofs.Laws.{end_at-ok, end_at-err, end_at-nothing, end_at-something}
use Rattle.xdr_records.proofs.KindLaws.{kind_found, kind_again, kind_fault, kind_fails, item_kind_ok, item_kind_err}
use Rattle.rpc_reader.specs.declared.fault.RpcFault.{RpcFault}
use Rattle.rpc_reader.specs.declared.reply.ReplyBody.{ReplyBody}
use Rattle.rpc_reader.specs.declared.reply.ReplyBody.TheVariants as read
use Rattle.rpc_reader.specs.declared.reply.ReplyHead.{ReplyHead}
use Rattle.rpc_reader.specs.Values.{Body, ReplyValue}
use Rattle.rpc_reader.specs.Values.Body.{success}
use Rattle.rpc_reader.specs.Heads.{kind_of}
use Rattle.rpc_reader.specs.ReplyHeads.{Status, ReplyStart, reply_head}
use Rattle.rpc_reader.specs.ReplyHeads.Status.{results_follow, final}
use Rattle.rpc_reader.specs.Views.{body_value, reply_value, status_of, start_of, HoldsResults, ending_at, ended, reply_from}
use Rattle.rpc_reader.specs.Messages.{IsEnding, IsReply, ReplyFails}

-- what a reader of the reply answers
abbrev pub Reads : List ℕ → Unread → Result ReplyHead RpcFault → Type 0
Reads message new result = Tells start_of new result (reply_from (whole message))

abbrev pub HasResults : Unread → Result ReplyHead RpcFault → Type 0
HasResults new result = IfOk result (λ reply. HoldsResults new reply.body)

abbrev started : ℕ → Status → ReplyStart
started xid status = record { xid = xid; status = status }

abbrev replied : ℕ → Body → ReplyValue
replied xid body = record { xid = xid; body = body }

-- ---- what stands behind the head

final_end : (body : Body) (unread : Unread) (x : Unit {0}) → ending_at (final body) unread ≡ Ok x → unread.rest ≡ []
final_end body unread x e = end_at-ok unread x (item_kind_ok kind_of (end_at unread) x e)

-- what is read is how the reply ends
ends : (body : ReplyBody) (unread : Unread) (x : Unit {0}) → HoldsResults unread body → ending_at (status_of body) unread ≡ Ok x → IsEnding (status_of body) unread.rest (body_value body)
ends (read.Success results) unread x holds e = ap success holds
ends read.ProgUnavail unread x holds e = (final_end (body_value read.ProgUnavail) unread x e, refl)
ends (read.ProgMismatch low high) unread x holds e = (final_end (body_value (read.ProgMismatch low high)) unread x e, refl)
ends read.ProcUnavail unread x holds e = (final_end (body_value read.ProcUnavail) unread x e, refl)
ends read.GarbageArgs unread x holds e = (final_end (body_value read.GarbageArgs) unread x e, refl)
ends read.SystemErr unread x holds e = (final_end (body_value read.SystemErr) unread x e, refl)
ends (read.RpcMismatch low high) unread x holds e = (final_end (body_value (read.RpcMismatch low high)) unread x e, refl)
ends (read.AuthError status) unread x holds e = (final_end (body_value (read.AuthError status)) unread x e, refl)

-- how the reply ends is read
ends_again : (status : Status) (unread : Unread) (body : Body) → IsEnding status unread.rest body → ending_at status unread ≡ Ok tt
ends_again results_follow unread body h = refl
ends_again (final status) unread body h = ap (item_kind kind_of) (end_at-nothing unread h.0)

-- a reply ends in one way
one_ending : (status : Status) (rest : List ℕ) (a b : Body) → IsEnding status rest a → IsEnding status rest b → a ≡ b
one_ending results_follow rest a b h k = h ∙ sym k
one_ending (final body) rest a b h k = h.1 ∙ sym k.1

-- ---- the whole reply

-- the two steps of a reply that is read
steps : (message : List ℕ) (start : ReplyStart) (new : Unread) → reply_from (whole message) ≡ Ok (start, new) → (kind_reading kind_of reply_head (whole message) ≡ Ok (start, new)) × (x : Unit {0}) × (ending_at start.status new ≡ Ok x)
steps message start new e =
    let a = bound_ok (kind_reading kind_of reply_head (whole message)) ended (start, new) e in
    let b = bound_ok (ending_at a.0.0.status a.0.1) (λ _. fine RpcFault a.0) (start, new) a.2 in
    let same = fine_is {F = RpcFault} a.0 (start, new) b.2 in
    let P : ReplyStart × Unread → Type 0 = λ p. (kind_reading kind_of reply_head (whole message) ≡ Ok p) × (x : Unit {0}) × (ending_at p.0.status p.1 ≡ Ok x) in
    subst P same (a.1, b.0, b.1)

-- where a head stands and the reply ends behind it
reply_again : (message : List ℕ) (value : ReplyValue) (is : IsReply message value) → reply_from (whole message) ≡ Ok (started value.xid is.0, left_at (0 + length is.1.front) is.1.back)
reply_again message value is =
    let start = started value.xid is.0 in
    let new = left_at (0 + length is.1.front) is.1.back in
    let s : Stands (λ head. Spells reply_head head start) (whole message) new = record { front = is.1.front; parts = is.1.parts; at = refl; item = is.1.first } in
    rw (kind_again kind_of reply_head start (whole message) new s, ends_again is.0 new value.body is.1.others) refl

pub reply_found : (message : List ℕ) (new : Unread) (result : Result ReplyHead RpcFault) → Reads message new result → HasResults new result → IfOk result (λ reply. IsReply message (reply_value reply))
reply_found message new (Ok reply) reads holds =
    let both = steps message (start_of reply) new reads in
    let s = kind_found kind_of reply_head (start_of reply) (whole message) new both.0 in
    (status_of reply.body, record { front = s.front; back = new.rest; parts = s.parts; first = s.item; others = ends reply.body new both.1 holds both.2 })
reply_found message new (Err fault) reads holds = tt

pub reply_only : (message : List ℕ) (new : Unread) (result : Result ReplyHead RpcFault) → Reads message new result → HasResults new result → (value : ReplyValue) → IsReply message value → IsOkAnd result (λ reply. reply_value reply ≡ value)
reply_only message new (Ok reply) reads holds value is =
    let back = left_at (0 + length is.1.front) is.1.back in
    let same = pair_is {F = RpcFault} (start_of reply) (started value.xid is.0) new back (sym reads ∙ reply_again message value is) in
    let both = steps message (start_of reply) new reads in
    let xid : reply.xid ≡ value.xid = ap (λ (s : ReplyStart). s.xid) same.0 in
    let status : status_of reply.body ≡ is.0 = ap (λ (s : ReplyStart). s.status) same.0 in
    let rest : new.rest ≡ is.1.back = ap (λ (u : Unread). u.rest) same.1 in
    let read = ends reply.body new both.1 holds both.2 in
    let at_status = subst (λ (s : Status). IsEnding s new.rest (body_value reply.body)) status read in
    let at_rest = subst (λ (xs : List ℕ). IsEnding is.0 xs (body_value reply.body)) rest at_status in
    let body = one_ending is.0 is.1.back (body_value reply.body) value.body at_rest is.1.others in
    ap (λ (n : ℕ). replied n (body_value reply.body)) xid ∙ ap (λ (b : Body). replied value.xid b) body
reply_only message new (Err fault) reads holds value is = let again = reply_again message value is in absurd cc

-- bytes stand behind a head that ends the reply
fault_behind : (message : List ℕ) (xid : ℕ) (status : Status) (after : Unread) (fault : RpcFault) → kind_reading kind_of reply_head (whole message) ≡ Ok (started xid status, after) → ending_at status after ≡ Err fault → ReplyFails message fault
fault_behind message xid results_follow after fault head e = absurd cc
fault_behind message xid (final body) after fault head e =
    let h = item_kind_err kind_of (end_at after) fault e in
    let behind = end_at-err after h.0 h.1 in
    inr (xid, body, after, kind_found kind_of reply_head (started xid (final body)) (whole message) after head, behind.0, h.2 ∙ ap kind_of behind.1)

pub reply_fault : (message : List ℕ) (new : Unread) (result : Result ReplyHead RpcFault) → Reads message new result → IfErr result (λ fault. ReplyFails message fault)
reply_fault message new (Ok reply) reads = tt
reply_fault message new (Err fault) reads =
    elim (bound_err (kind_reading kind_of reply_head (whole message)) ended fault reads) [
      | inl head ↦ inl (kind_fault kind_of reply_head (whole message) fault head)
      | inr a ↦ elim (bound_err (ending_at a.0.0.status a.0.1) (λ _. fine RpcFault a.0) fault a.2) [
        | inl behind ↦ fault_behind message a.0.0.xid a.0.0.status a.0.1 fault a.1 behind
        | inr b ↦ let wrong = b.2 in absurd cc
      ]
    ]

-- the fault that a message has
fails_from : (message : List ℕ) (fault : RpcFault) → ReplyFails message fault → reply_from (whole message) ≡ Err fault
fails_from message fault (inl h) = rw (kind_fails kind_of reply_head (whole message) h.0 h.1, h.2) refl
fails_from message fault (inr h) =
    let start = started h.0 (final h.1) in
    rw (kind_again kind_of reply_head start (whole message) h.2 h.3, end_at-something h.2 h.4, h.5) refl

pub reply_fails : (message : List ℕ) (new : Unread) (result : Result ReplyHead RpcFault) → Reads message new result → (fault : RpcFault) → ReplyFails message fault → result ≡ Err fault
reply_fails message new (Ok reply) reads fault h = let wrong = fails_from message fault h in absurd cc
reply_fails message new (Err found) reads fault h = let wrong = fails_from message fault h in cc
