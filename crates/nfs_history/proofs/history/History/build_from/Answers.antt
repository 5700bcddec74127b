use Rattle.std.proofs.Common.{ap}
use Rattle.std.proofs.lemmas.Result.{err_from_is_err_and}
use Rattle.history_file.specs.Owning.{all_happened}
use Rattle.nfs_history.proofs.FirstFaultLaws.{fault_or_calls, only_memory_in, named_in}
use Rattle.nfs_history.proofs.history.History.build_from.Goals as goal

pub returns-in_err-known-clause-only : goal.returns-in_err-known-clause-only
returns-in_err-known-clause-only c = λ history is.
    let p = err_from_is_err_and c.from_residual.result c.from_residual.ensures.1 in
    let events = ap all_happened c.as_slice.ensures.value in
    let stop = rw events at c.in_err-known.ensures.fault in
    rw (p.1, p.2) (only_memory_in (record { head = record { root = c.args.root; start = c.args.start; profile = c.args.profile }; events = all_happened c.args.events.items }) c.in_err-known.field-0.0 stop history.known is.known)

pub returns-in_err-known-clause-named : goal.returns-in_err-known-clause-named
returns-in_err-known-clause-named c = λ fault first.
    let p = err_from_is_err_and c.from_residual.result c.from_residual.ensures.1 in
    let events = ap all_happened c.as_slice.ensures.value in
    let stop = rw events at c.in_err-known.ensures.fault in
    rw (p.1, p.2) (named_in (all_happened c.args.events.items) c.in_err-known.field-0.0 fault stop first)

pub returns-clause-named : goal.returns-clause-named
returns-clause-named c = λ fault first.
    let events = ap all_happened c.as_slice.ensures.value in
    let known = rw (events, c.new-head.ensures) at c.in_ok-known.ensures.found in
    fault_or_calls (record { head = record { root = c.args.root; start = c.args.start; profile = c.args.profile }; events = all_happened c.args.events.items }) fault
    (record { head = record { root = c.args.root; start = c.args.start; profile = c.args.profile }; eras = c.in_ok-known.known.open_calls.era; calls = c.in_ok-known.known.calls.items }) first known.0
