-- a call that is recorded is one of NFS version 3, of a judged procedure
use Rattle.std.proofs.Common.{◌≡◌, ◌≢◌, ◌<◌, ℕ, zero, suc, Bool, true, false, Option, Some, None, refl, arith, eq-eqb}
use Rattle.std.specs.Prelude.{◌==◌, nat_lt, not, if◌then◌else◌}
use Rattle.std.proofs.lemmas.Bool.{eqb-true, lt-ltb}
use Rattle.rpc_reader.specs.Values.{CallValue, Body}
use Rattle.nfs3_types.specs.declared.calls.NfsCall.{NfsCall}
use Rattle.nfs3_types.specs.Procedures.{is_judged}
use Rattle.nfs_history.specs.History.{IsCallOfNfs}
use Rattle.server_requests.specs.Handling.{answer_of_procedure, answer_ahead, IsRecorded}

-- of a test that fails the other side comes out
passes : {X : Type 0} (b : Bool) (ahead : X) (rest : Option X) → (if not b then Some ahead else rest) ≡ None → (b ≡ true) × (rest ≡ None)
passes true ahead rest e = (refl, e)
passes false ahead rest e = absurd (cc)

fails : {X : Type 0} (b : Bool) (ahead : X) (rest : Option X) → (if b then Some ahead else rest) ≡ None → (b ≡ false) × (rest ≡ None)
fails true ahead rest e = absurd (cc)
fails false ahead rest e = (refl, e)

clash : (b : Bool) → b ≡ true → b ≡ false → ⊥
clash true e f = cc
clash false e f = cc

-- the procedures end with COMMIT
past : (procedure : ℕ) → 21 < procedure → answer_of_procedure procedure ≡ None → ⊥
past procedure lt e = clash (nat_lt 21 procedure) (lt-ltb 21 procedure lt) (fails (nat_lt 21 procedure) _ _ e).0

-- a procedure that isn't answered by itself is judged
judged : (procedure : ℕ) → answer_of_procedure procedure ≡ None → is_judged procedure ≡ true
judged zero e = absurd (cc)
judged (suc zero) e = refl
judged (suc (suc zero)) e = refl
judged (suc (suc (suc zero))) e = refl
judged (suc (suc (suc (suc zero)))) e = absurd (cc)
judged (suc (suc (suc (suc (suc zero))))) e = refl
judged (suc (suc (suc (suc (suc (suc zero)))))) e = refl
judged (suc (suc (suc (suc (suc (suc (suc zero))))))) e = refl
judged (suc (suc (suc (suc (suc (suc (suc (suc zero)))))))) e = refl
judged (suc (suc (suc (suc (suc (suc (suc (suc (suc zero))))))))) e = refl
judged (suc (suc (suc (suc (suc (suc (suc (suc (suc (suc zero)))))))))) e = refl
judged (suc (suc (suc (suc (suc (suc (suc (suc (suc (suc (suc zero))))))))))) e = absurd (cc)
judged (suc (suc (suc (suc (suc (suc (suc (suc (suc (suc (suc (suc zero)))))))))))) e = refl
judged (suc (suc (suc (suc (suc (suc (suc (suc (suc (suc (suc (suc (suc zero))))))))))))) e = refl
judged (suc (suc (suc (suc (suc (suc (suc (suc (suc (suc (suc (suc (suc (suc zero)))))))))))))) e = refl
judged (suc (suc (suc (suc (suc (suc (suc (suc (suc (suc (suc (suc (suc (suc (suc zero))))))))))))))) e = absurd (cc)
judged (suc (suc (suc (suc (suc (suc (suc (suc (suc (suc (suc (suc (suc (suc (suc (suc zero)))))))))))))))) e = refl
judged (suc (suc (suc (suc (suc (suc (suc (suc (suc (suc (suc (suc (suc (suc (suc (suc (suc zero))))))))))))))))) e = refl
judged (suc (suc (suc (suc (suc (suc (suc (suc (suc (suc (suc (suc (suc (suc (suc (suc (suc (suc zero)))))))))))))))))) e = absurd (cc)
judged (suc (suc (suc (suc (suc (suc (suc (suc (suc (suc (suc (suc (suc (suc (suc (suc (suc (suc (suc zero))))))))))))))))))) e = absurd (cc)
judged (suc (suc (suc (suc (suc (suc (suc (suc (suc (suc (suc (suc (suc (suc (suc (suc (suc (suc (suc (suc zero)))))))))))))))))))) e = absurd (cc)
judged (suc (suc (suc (suc (suc (suc (suc (suc (suc (suc (suc (suc (suc (suc (suc (suc (suc (suc (suc (suc (suc zero))))))))))))))))))))) e = refl
judged (suc (suc (suc (suc (suc (suc (suc (suc (suc (suc (suc (suc (suc (suc (suc (suc (suc (suc (suc (suc (suc (suc n)))))))))))))))))))))) e = absurd (past (suc (suc (suc (suc (suc (suc (suc (suc (suc (suc (suc (suc (suc (suc (suc (suc (suc (suc (suc (suc (suc (suc n)))))))))))))))))))))) (omega arith) e)

pub asked_of_nfs : (head : CallValue) (call : NfsCall) → IsRecorded head call → IsCallOfNfs head call
asked_of_nfs head call is =
    let program = passes (head.program == 100003) _ _ is.served in
    let version = passes (head.version == 3) _ _ program.1 in
    let credential = fails (head.flavor == 6) _ _ version.1 in
    record {
      program = eqb-true head.program 100003 program.0;
      version = eqb-true head.version 3 version.0;
      procedure = judged head.procedure credential.1;
      credential = λ same. clash (head.flavor == 6) (eq-eqb head.flavor 6 same) credential.0;
      arguments = is.arguments;
    }
