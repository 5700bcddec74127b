-- An answer that is the verdict on two texts is the only one.
use Rattle.std.proofs.Common.{◌≡◌, List, ℕ, Result, Ok, Err, IfOk}
use Rattle.std.specs.declared.alloc.AllocError.{AllocError}
use Rattle.witness_check.specs.declared.verdict.FileVerdict.{FileVerdict}
use Rattle.witness_check.specs.Verdict.{IsFileVerdict}
use Rattle.witness_check.proofs.OneVerdict.{one_file_verdict}

pub the_only : (history certificate : List ℕ) (r : Result FileVerdict AllocError) → IfOk r (IsFileVerdict history certificate) → (verdict : FileVerdict)
    → IsFileVerdict history certificate verdict → IfOk r (λ given. given ≡ verdict)
the_only history certificate (Ok given) is verdict other = one_file_verdict history certificate given verdict is other
the_only history certificate (Err none) is verdict other = tt
