use Rattle.std.proofs.Common.{◌≡◌, ◌++◌, take, drop}
use Rattle.std.specs.List.{AllByRecursion}
use Rattle.certificate.specs.CertificateText.{place_lines, HasNumbers}
use Rattle.certificate.proofs.writing.put_places.Given as goal

abbrev pub invariant-loop-place : goal.invariant-loop-place
invariant-loop-place l =
    (l.out.items ++ place_lines (drop l.place-index l.places) ≡ l.initial.out.items ++ place_lines l.places) × AllByRecursion HasNumbers (take l.place-index l.places)
