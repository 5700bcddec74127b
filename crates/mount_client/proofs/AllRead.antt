-- What is read of the results of MNT is what they spell.
use Rattle.std.proofs.Common.{◌≡◌, ℕ, ◌+◌, List, [], ◌++◌, length, Result, Ok, Err, refl, sym, ap, subst, ◌∙◌}
use Rattle.std.proofs.lemmas.List.{append-nil}
use Rattle.xdr_records.specs.declared.fault.XdrFault.{XdrFault}
use Rattle.xdr_records.specs.Unread.{whole}
use Rattle.xdr_records.specs.Items.{end_at}
use Rattle.xdr_records.specs.Kinds.{kind_reading}
use Rattle.xdr_records.specs.Spelling.{Spells}
use Rattle.xdr_records.specs.Faults.{Stands}
use Rattle.xdr_records.proofs.Fronts.{left_at, fine, fine_is, bound_ok}
use Rattle.xdr_records.proofs.Laws.{end_at-ok, end_at-nothing}
use Rattle.xdr_records.proofs.KindLaws.{kind_found, kind_again}
use Rattle.mount_client.specs.declared.results.Told.{Told}
use Rattle.mount_client.specs.Mounting.{MountResult, mountres3}
use Rattle.mount_client.specs.Hearing.{told_value, value_of, ended, result_of, IsRead}

abbrev same : XdrFault → XdrFault
same fault = fault

-- what is read is spelled by all of the bytes
spelled : (bytes : List ℕ) (value : MountResult) → result_of bytes ≡ Ok value → Spells mountres3 bytes value
spelled bytes value e =
    let a = bound_ok (kind_reading same mountres3 (whole bytes)) ended value e in
    let b = bound_ok (end_at a.0.1) (λ _. fine XdrFault a.0.0) value a.2 in
    let s = kind_found same mountres3 a.0.0 (whole bytes) a.0.1 a.1 in
    let front : bytes ≡ s.front = s.parts ∙ ap (λ (xs : List ℕ). s.front ++ xs) (end_at-ok a.0.1 b.0 b.1) ∙ append-nil s.front in
    subst (λ (y : MountResult). Spells mountres3 bytes y) (fine_is {F = XdrFault} a.0.0 value b.2) (subst (λ (xs : List ℕ). Spells mountres3 xs a.0.0) (sym front) s.item)

-- what all of the bytes spell is read
again : (bytes : List ℕ) (value : MountResult) → Spells mountres3 bytes value → result_of bytes ≡ Ok value
again bytes value h =
    let new = left_at (0 + length bytes) [] in
    let s : Stands (λ front. Spells mountres3 front value) (whole bytes) new = record { front = bytes; parts = sym (append-nil bytes); at = refl; item = h } in
    rw (kind_again same mountres3 value (whole bytes) new s, end_at-nothing new refl) refl

pub is_read : (bytes : List ℕ) (result : Result Told XdrFault) → value_of result ≡ result_of bytes → IsRead bytes result
is_read bytes (Ok it) e = spelled bytes (told_value it) (sym e)
is_read bytes (Err fault) e = λ value h. let found = again bytes value h in absurd cc
