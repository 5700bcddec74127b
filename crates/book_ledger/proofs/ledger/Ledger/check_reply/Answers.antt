use Rattle.std.proofs.Common.{ℕ, subst, sym, arith}
use Rattle.tree_nodes.proofs.Chains.{differ}
use Rattle.book_laws.specs.Served.{IsServed}
use Rattle.book_ledger.specs.Serving.{IsAllowed}
use Rattle.book_ledger.proofs.StepParts.{fits_so, not_fit}
use Rattle.book_ledger.proofs.ledger.Ledger.check_reply.Goals as goal

pub returns-then-branch-clause-fits : goal.returns-then-branch-clause-fits
returns-then-branch-clause-fits c =
    let self = c.args.self.now in
    let call = c.call_asked-call.result.now in
    let tree = c.in-Some-Received.tree in
    let reply = c.in-Some-Received.reply in (
      omega (arith, c.in-Some.ensures),
      c.if-not-shows_now.ensures,
      fits_so self c.args.number c.args.outcome.now call tree reply c.call_asked-call.ensures c.in-Some-Received.is-0 c.in-Some-Received.is-1
          (subst (λ (object : ℕ). IsAllowed self.binds tree call reply → IsServed self.binds tree object call reply) c.in-Some.ensures (c.in_ok-is_served.ensures.served c.if-branch.true)),
    )

pub returns-else-branch-clause-refused : goal.returns-else-branch-clause-refused
returns-else-branch-clause-refused c =
    let self = c.args.self.now in
    let call = c.call_asked-call.result.now in
    let tree = c.in-Some-Received.tree in
    let reply = c.in-Some-Received.reply in
    not_fit c.args.self.now c.args.number c.args.outcome.now c.call_asked-call.result.now c.in-Some-Received.tree c.in-Some-Received.reply c.call_asked-call.ensures c.in-Some-Received.is-0
    c.in-Some-Received.is-1 (λ served. differ c.in_ok-is_served.field-0 (c.in_ok-is_served.ensures.refused (subst (λ (object : ℕ). IsServed self.binds tree object call reply) (sym c.in-Some.ensures) served)) c.if-branch.false)

pub returns-in_default-clause-refused : goal.returns-in_default-clause-refused
returns-in_default-clause-refused c = λ all. omega (arith, all.0, c.in_default.ensures)
