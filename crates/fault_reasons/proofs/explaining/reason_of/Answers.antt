use Rattle.std.proofs.Common.{sym, subst}
use Rattle.witness_check.specs.Verdict.{IsPlanFault}
use Rattle.fault_reasons.proofs.explaining.reason_of.Goals as goal

pub returns-in-ShortCut : goal.returns-in-ShortCut
returns-in-ShortCut c =
    c.short_cut.ensures c.args.history.now c.args.certificate.now (sym c.as_slice.ensures)
    (subst (IsPlanFault c.args.history.now c.args.certificate.now) c.in-ShortCut.is c.requires.fault)
