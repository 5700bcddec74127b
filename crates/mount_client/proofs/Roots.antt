-- A root that is told is a handle: it has at most 64 bytes.
use Rattle.std.proofs.Common.{◌≡◌, ℕ, ◌≤◌, ◌==◌, Bool, true, false, List, [], length, ap, subst}
use Rattle.xdr_records.specs.Grammar.{either}
use Rattle.xdr_records.specs.Grammar.Grammar.{nothing}
use Rattle.xdr_records.specs.Spelling.{Spells}
use Rattle.mount_client.specs.Mounting.{MountResult, mountres3_ok, mountres3}
use Rattle.mount_client.specs.Mounting.MountResult.{mounted, failed}

abbrev root_of : MountResult → List ℕ
root_of (mounted root is_taken) = root
root_of (failed number) = []

root_in : (back root : List ℕ) (is_taken : Bool) → Spells mountres3_ok back (mounted root is_taken) → length root ≤ 64
root_in back root is_taken h =
    let same : mounted h.0 h.1.others.1.others.0 ≡ mounted root is_taken = h.1.others.1.others.1.others.1 in
    let is : h.0 ≡ root = ap root_of same in
    subst (λ (bytes : List ℕ). length bytes ≤ 64) is h.1.first.within

root_after : (b : Bool) (status : ℕ) (back root : List ℕ) (is_taken : Bool) → Spells (either b mountres3_ok (nothing (failed status))) back (mounted root is_taken) → length root ≤ 64
root_after true status back root is_taken h = root_in back root is_taken h
root_after false status back root is_taken h = let wrong : failed status ≡ mounted root is_taken = h.1 in absurd cc

pub root_short : (bytes root : List ℕ) (is_taken : Bool) → Spells mountres3 bytes (mounted root is_taken) → length root ≤ 64
unfolding mountres3
root_short bytes root is_taken h = root_after (h.0 == 0) h.0 h.1.back root is_taken h.1.others
