-- What is computed of a call is what the definitions say of it.
use Rattle.std.proofs.Common.{◌≡◌, inl, inr, ℕ, ◌+◌, ◌==◌, ◌||◌, nat_lt, Bool, true, false, not, List, [], ◌++◌, length, Some, None, Result, Ok, Err, refl, sym, ap, subst, ◌∙◌}
use Rattle.std.specs.Prelude.{IsTrue, MatchBool, if◌then◌else◌}
use Rattle.std.proofs.lemmas.List.{append-nil}
use Rattle.xdr_records.specs.declared.fault.XdrFault.{XdrFault}
use Rattle.xdr_records.specs.Unread.{whole}
use Rattle.xdr_records.specs.Grammar.{Grammar}
use Rattle.xdr_records.specs.Items.{end_at}
use Rattle.xdr_records.specs.Kinds.{kind_reading}
use Rattle.xdr_records.specs.Spelling.{Spells}
use Rattle.xdr_records.specs.Faults.{Stands}
use Rattle.xdr_records.proofs.Fronts.{left_at, fine, fine_is, bound_ok}
use Rattle.xdr_records.proofs.Laws.{end_at-ok, end_at-nothing}
use Rattle.xdr_records.proofs.KindLaws.{kind_found, kind_again}
use Rattle.rpc_reader.specs.Values.{CallValue, Body}
use Rattle.rpc_reader.specs.Values.Body.{prog_mismatch, proc_unavail}
use Rattle.server_requests.specs.Mounting.{asks_for_limits, is_mountable, mount_procedure, nfs_procedure, IsServed, IsMountAnswer, IsAnswer}
use Rattle.server_requests.specs.MountPlainly.{ended, results_of, body_with, mount_body, nfs_body, body_ahead}

abbrev same : XdrFault → XdrFault
same fault = fault

module _ (procedure : Grammar XdrFault (List ℕ)) (args : List ℕ) where
  -- what is read is spelled by all of the arguments
  spelled : (results : List ℕ) → results_of procedure args ≡ Ok results → Spells procedure args results
  spelled results e =
      let a = bound_ok (kind_reading same procedure (whole args)) ended results e in
      let b = bound_ok (end_at a.0.1) (λ _. fine XdrFault a.0.0) results a.2 in
      let s = kind_found same procedure a.0.0 (whole args) a.0.1 a.1 in
      let front : args ≡ s.front = s.parts ∙ ap (λ (xs : List ℕ). s.front ++ xs) (end_at-ok a.0.1 b.0 b.1) ∙ append-nil s.front in
      subst (λ (y : List ℕ). Spells procedure args y) (fine_is {F = XdrFault} a.0.0 results b.2) (subst (λ (xs : List ℕ). Spells procedure xs a.0.0) (sym front) s.item)

  -- what all of the arguments spell is read
  again : (results : List ℕ) → Spells procedure args results → results_of procedure args ≡ Ok results
  again results h =
      let new = left_at (0 + length args) [] in
      let s : Stands (λ front. Spells procedure front results) (whole args) new = record { front = args; parts = sym (append-nil args); at = refl; item = h } in
      rw (kind_again same procedure results (whole args) new s, end_at-nothing new refl) refl

  served_as : (r : Result (List ℕ) XdrFault) → results_of procedure args ≡ r → IsServed procedure args (body_with r)
  served_as (Ok results) e = inl (results, spelled results e, refl)
  served_as (Err fault) e = inr (λ results h. let wrong = again results h in absurd cc, refl)

  served : IsServed procedure args (body_with (results_of procedure args))
  served = served_as (results_of procedure args) refl

-- a fact of each of two values is one of the value that is chosen
either_way : {A : Type 0} (b : Bool) (x y : A) (F G : A → Type 0) → F x → G y → MatchBool b (F (if b then x else y)) (G (if b then x else y))
either_way true x y F G f g = f
either_way false x y F G f g = g

mount_served : (head : CallValue) → IsMountAnswer head (mount_body head)
mount_served head =
    let serving = body_with (results_of (mount_procedure head.procedure) head.args) in
    let IsKnown : Body → Type 0 = λ body. MatchBool (nat_lt 5 head.procedure) (body ≡ proc_unavail) (IsServed (mount_procedure head.procedure) head.args body) in
    let known : IsKnown (if nat_lt 5 head.procedure then proc_unavail else serving) =
    either_way (nat_lt 5 head.procedure) proc_unavail serving (λ body. body ≡ proc_unavail) (λ body. IsServed (mount_procedure head.procedure) head.args body) refl (served (mount_procedure head.procedure) head.args) in
    either_way (not (head.version == 3)) (prog_mismatch 3 3) (if nat_lt 5 head.procedure then proc_unavail else serving) (λ body. body ≡ prog_mismatch 3 3) IsKnown refl known

-- where one of two is chosen, the first of the tests that hold has its fact
chosen_of : (b c : Bool) (x y body : Body) (F G : Body → Type 0) → F x → G y → Some body ≡ (if b then Some x else if c then Some y else None) → IsTrue (b || c) × MatchBool b (F body) (G body)
chosen_of true c x y body F G f g e = let it : x ≡ body = cc in (refl, subst F it f)
chosen_of false true x y body F G f g e = let it : y ≡ body = cc in (refl, subst G it g)
chosen_of false false x y body F G f g e = absurd cc

-- an answer is the one that the definitions say
pub answer_is : (head : CallValue) (body : Body) → Some body ≡ body_ahead head → IsTrue (is_mountable head) × IsAnswer head body
answer_is head body e =
    chosen_of (head.program == 100005) (asks_for_limits head) (mount_body head) (nfs_body head) body (IsMountAnswer head) (λ body. IsServed (nfs_procedure head.procedure) head.args body)
    (mount_served head) (served (nfs_procedure head.procedure) head.args) e
