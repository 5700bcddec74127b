use Rattle.std.proofs.Common.{◌≡◌, sym, ap, subst, ◌∙◌}
use Rattle.certificate.specs.CertificateText.{IsCertificate}
use Rattle.certificate.proofs.GoodBinds.{good_certificate}
use Rattle.certificate.proofs.plan.Certificate.new.Goals as goal

pub returns-clause-kept : goal.returns-clause-kept
returns-clause-kept c =
    good_certificate c.new.result c.new-2.result c.args.binds.items c.args.eras.items c.as_slice.result.now c.as_slice-2.result.now
    c.new.ensures c.new-2.ensures c.as_slice.ensures.value c.as_slice-2.ensures.value c.in_default.ensures.kept (sym c.in_default-bad_era.ensures)
