-- No call that is answered ahead of a server is one that it records.
use Rattle.std.proofs.Common.{◌≡◌, ◌==◌, ◌||◌, ◌&&◌, nat_lt, Bool, true, false, not, [], Some, None, refl, arith}
use Rattle.std.specs.Prelude.{IsTrue, if◌then◌else◌}
use Rattle.std.proofs.lemmas.Bool.{ne_eqb, eqb-true}
use Rattle.rpc_reader.specs.Values.{CallValue}
use Rattle.rpc_reader.specs.Values.Body.{success, prog_unavail, prog_mismatch, proc_unavail, auth_error}
use Rattle.server_requests.specs.Handling.{failure_with, answer_ahead}
use Rattle.server_requests.specs.Mounting.{is_mountable}

left : (p m v f l o z e g : Bool) → (m ≡ true → p ≡ false) → IsTrue (m || (p && v && not f && l)) → (if not p then Some prog_unavail else if not v then Some (prog_mismatch 3 3) else if f then Some (auth_error 1) else if o then Some proc_unavail else if z then Some (success []) else if l then Some (failure_with 10004 1) else if e then Some (failure_with 10004 2) else if g then Some (failure_with 10004 3) else None) ≡ None → ⊥
left false m v f l o z e g differ h none = absurd cc
left true true v f l o z e g differ h none = let wrong = differ refl in absurd cc
left true false false f l o z e g differ h none = absurd cc
left true false true true l o z e g differ h none = absurd cc
left true false true false false o z e g differ h none = absurd cc
left true false true false true true z e g differ h none = absurd cc
left true false true false true false true e g differ h none = absurd cc
left true false true false true false false e g differ h none = absurd cc

pub not_recorded : (head : CallValue) → IsTrue (is_mountable head) → answer_ahead head ≡ None → ⊥
not_recorded head h none =
    left (head.program == 100003) (head.program == 100005) (head.version == 3) (head.flavor == 6) (head.procedure == 4 || head.procedure == 18 || head.procedure == 19 || head.procedure == 20)
    (nat_lt 21 head.procedure) (head.procedure == 0) (head.procedure == 11) (head.procedure == 15)
    (λ is. let it : head.program ≡ 100005 = eqb-true _ _ is in ne_eqb _ _ (λ same. omega (arith, it, same))) h none
