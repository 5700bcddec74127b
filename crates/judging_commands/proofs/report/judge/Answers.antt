use Rattle.std.proofs.Common.{inl, inr}
use Rattle.judging_commands.proofs.FirstLine.{one_bundle}
use Rattle.judging_commands.proofs.report.judge.Goals as goal

pub returns-in-Ok-clause-only : goal.returns-in-Ok-clause-only
returns-in-Ok-clause-only c =
    λ status line said. elim said [
      | inl h ↦
          let same = one_bundle c.args.bytes.now h.0 h.1 c.in-Ok.bundle.history.items c.in-Ok.bundle.certificate.now h.2 c.in-Ok.ensures.ok in
          c.judge_files.ensures.only status line (rw (c.as_slice.ensures.value, ← same.0, ← same.1) h.3)
      | inr none ↦ absurd (none.0 (c.in-Ok.bundle.history.items, c.in-Ok.bundle.certificate.now, c.in-Ok.ensures.ok))
    ]
