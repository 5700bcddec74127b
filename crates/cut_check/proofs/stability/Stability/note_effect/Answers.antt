use Rattle.std.proofs.Common.{Result, Ok, Err, OnErr}
use Rattle.cut_check.specs.Stability.{kept_at}
use Rattle.cut_check.proofs.KeepsLaws.{keeps_same}
use Rattle.cut_check.proofs.stability.Stability.note_effect.Goals as goal

-- a fact that holds anyway
anyway : {X E : Type 0} (result : Result X E) (P : Type 0) → P → OnErr result P
anyway (Ok x) P p = tt
anyway (Err e) P p = p

pub returns-in_err-self-clause-err : goal.returns-in_err-self-clause-err
returns-in_err-self-clause-err c =
    let self = c.args.self.now in
    anyway c.from_residual.result _
    (λ effects kept. keeps_same self.placed self.needed (kept_at self.files) (kept_at c.take_in.new.files) effects c.in_err-self.ensures.err kept)
