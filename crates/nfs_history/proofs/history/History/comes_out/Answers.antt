use Rattle.std.proofs.Common.{◌<◌, length, arith, sym, subst}
use Rattle.nfs_history.specs.HistoryValue.{HistoryValue}
use Rattle.nfs_history.proofs.history.History.comes_out.Goals as goal

pub index-requires : goal.index-requires
index-requires c = omega (arith, subst (λ (v : HistoryValue). c.args.place < length v.known.calls) (sym c.self.view_is) c.requires, c.self.inside.calls.ok.0)
