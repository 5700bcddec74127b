use Rattle.std.proofs.Common.{refl}
use Rattle.xdr_records.proofs.Answering.{answered_found, answered_only, answered_fault, answered_fails}
use Rattle.nfs3_values.specs.declared.fault.MessageFault.TheVariants as faults
use Rattle.nfs3_values.specs.Told.{kind_of, told}
use Rattle.nfs3_msgs.specs.Messages.{results}
use Rattle.nfs3_msgs.proofs.messages.read_result.Goals as goal

pub returns-clause-found : goal.returns-clause-found
returns-clause-found c = answered_found told (λ x. x) kind_of (results c.args.procedure) c.args.bytes.now c.all_results.result c.all_results.ensures

pub returns-clause-only : goal.returns-clause-only
returns-clause-only c = answered_only told (λ x. x) kind_of (results c.args.procedure) c.args.bytes.now c.all_results.result c.all_results.ensures

pub returns-clause-fault : goal.returns-clause-fault
returns-clause-fault c = λ at kind is. answered_fault told (λ x. x) kind_of (results c.args.procedure) c.args.bytes.now c.all_results.result c.all_results.ensures (faults.BadMessage at kind) (record { at = at; kind = kind }) is refl

pub returns-clause-named : goal.returns-clause-named
returns-clause-named c = λ at kind wrong. answered_fails told (λ x. x) kind_of (results c.args.procedure) c.args.bytes.now c.all_results.result c.all_results.ensures (record { at = at; kind = kind }) wrong
