use Rattle.std.proofs.Common.{◌≡◌, ◌+◌, drop, option_map}
use Rattle.certificate.specs.Parts.{first_wrong_cut}
use Rattle.certificate.proofs.parts.wrong_cut.Given as goal

abbrev pub invariant-loop-era : goal.invariant-loop-era
invariant-loop-era l =
    (l.number ≡ l.era-index) × (first_wrong_cut l.eras ≡ option_map (λ e. l.era-index + e) (first_wrong_cut (drop l.era-index l.eras)))
