use Rattle.history_file.proofs.ObjectSteps.{bytes_within}
use Rattle.history_file.proofs.starting.bytes.Goals as goal

pub returns-clause-within : goal.returns-clause-within
returns-clause-within c = bytes_within c.args.limit c.opaque.result c.args.reader.now c.opaque.new.reader c.opaque.ensures
