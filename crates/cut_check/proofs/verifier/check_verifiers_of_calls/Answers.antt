-- The first fault excludes that the verifiers agree, and there is one at most.
use Rattle.std.proofs.Common.{rules, Err, ap, inl}
use Rattle.cut_check.specs.declared.fault.VerifierFault.TheVariants.{Verifier}
use Rattle.cut_check.specs.Verifier.{VerifiersAgree}
use Rattle.cut_check.specs.VerifierFault.{IsVerifierFault}
use Rattle.cut_check.proofs.ShownLaws.{none_from_agree, one_first}
use Rattle.cut_check.proofs.verifier.check_verifiers_of_calls.Goals as goal

pub returns-in-Some-clause-only : goal.returns-in-Some-clause-only
returns-in-Some-clause-only c = λ agree.
    let calls = c.args.calls.now.calls in
    let eras = c.args.certificate.now.eras in
    let fault : IsVerifierFault calls eras c.in-Some.era = search rules in
    absurd (none_from_agree calls eras agree c.in-Some.era fault.at_fault)

pub returns-in-Some-clause-named : goal.returns-in-Some-clause-named
returns-in-Some-clause-named c = λ e other.
    let calls = c.args.calls.now.calls in
    let eras = c.args.certificate.now.eras in
    let fault : IsVerifierFault calls eras c.in-Some.era = search rules in
    inl (ap (λ n. Err (Verifier n)) (one_first calls eras c.in-Some.era e fault other))

pub returns-in-None-clause-named : goal.returns-in-None-clause-named
returns-in-None-clause-named c = λ e other.
    let calls = c.args.calls.now.calls in
    let eras = c.args.certificate.now.eras in
    let agree : VerifiersAgree calls eras = search rules in
    absurd (none_from_agree calls eras agree e other.at_fault)
