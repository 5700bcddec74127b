use Rattle.std.proofs.Common.{[], length, refl, sym, ap, subst}
use Rattle.replay_law.specs.Undone.{UndoesAll}
use Rattle.replay_law.proofs.stepping.Replay.from_state.Goals as goal

pub returns : goal.returns
returns g c =
    let R = g.R.Replayable in
    λ next. record {
      base = c.args.state;
      reached = refl;
      runs = refl;
      back = subst (λ us. UndoesAll R.undoes us c.args.state c.args.state) (sym c.new.ensures.items) refl;
      each = ap length c.new.ensures.items;
    }
