use Rattle.history_file.proofs.FileLaws.{answer_found, answer_fault, only_memory_of, named_of}
use Rattle.history_file.proofs.file.read_file.Goals as goal

pub returns-clause-found : goal.returns-clause-found
returns-clause-found c = answer_found c.args.bytes.now c.recording_of.result c.recording_of.ensures

pub returns-clause-fault : goal.returns-clause-fault
returns-clause-fault c = answer_fault c.args.bytes.now c.recording_of.result c.recording_of.ensures

pub returns-clause-only : goal.returns-clause-only
returns-clause-only c = λ seen file. only_memory_of c.args.bytes.now c.recording_of.result (answer_fault c.args.bytes.now c.recording_of.result c.recording_of.ensures) seen file

pub returns-clause-named : goal.returns-clause-named
returns-clause-named c = λ fault first.
    let bytes = c.args.bytes.now in
    let result = c.recording_of.result in
    named_of bytes result (answer_found bytes result c.recording_of.ensures) (answer_fault bytes result c.recording_of.ensures) fault first
