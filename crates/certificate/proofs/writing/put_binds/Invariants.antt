use Rattle.std.proofs.Common.{◌≡◌, ◌++◌, drop}
use Rattle.certificate.specs.CertificateText.{bind_lines}
use Rattle.certificate.proofs.writing.put_binds.Given as goal

abbrev pub invariant-loop-bind : goal.invariant-loop-bind
invariant-loop-bind l = l.out.items ++ bind_lines (drop l.bind-index l.binds) ≡ l.initial.out.items ++ bind_lines l.binds
