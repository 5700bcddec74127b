use Rattle.std.proofs.Common.{sym, subst}
use Rattle.nfs3_types.specs.declared.calls.NfsCall.{NfsCall}
use Rattle.book_laws.specs.Served.{IsFull}
use Rattle.book_ledger.specs.Serving.{IsAllowed}
use Rattle.book_ledger.proofs.Full.{read_full}
use Rattle.book_ledger.proofs.served.is_full.Goals as goal

pub returns-in-Read-clause-full : goal.returns-in-Read-clause-full
returns-in-Read-clause-full c = λ is allowed.
    let binds = c.args.binds.now in
    let tree = c.args.tree.now in
    let reply = c.args.reply.now in
    subst (λ (k : NfsCall). IsFull binds tree k reply) (sym c.in-Read.is)
    (read_full binds tree c.in-Read.call reply (c.is_read_whole.ensures.0 is) (subst (λ (k : NfsCall). IsAllowed binds tree k reply) c.in-Read.is allowed))
