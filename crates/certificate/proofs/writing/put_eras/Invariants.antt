use Rattle.std.proofs.Common.{◌≡◌, ◌++◌, take, drop}
use Rattle.std.specs.List.{flat_map, AllByRecursion}
use Rattle.certificate.specs.CertificateText.{era_lines, HasNumbersInEra}
use Rattle.certificate.proofs.writing.put_eras.Given as goal

abbrev pub invariant-loop-era : goal.invariant-loop-era
invariant-loop-era l =
    (l.out.items ++ (flat_map era_lines) (drop l.era-index l.eras) ≡ l.initial.out.items ++ (flat_map era_lines) l.eras) × AllByRecursion HasNumbersInEra (take l.era-index l.eras)
