use Rattle.std.proofs.Common.{◌≡◌, Ok, subst, sym}
use Rattle.witness_check.specs.Witness.{IsWitness}
use Rattle.cert_search.proofs.searching.settle.Goals as goal

pub returns-clause-follows : goal.returns-clause-follows
returns-clause-follows c = λ plan follows witness.
    let same = c.in_ok-plan-2.ensures.only plan follows in
    c.if_witness-2.ensures.only (subst (λ p. IsWitness c.args.known.now p) (sym same) witness)
