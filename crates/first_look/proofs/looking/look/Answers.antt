use Rattle.first_look.proofs.Two.{no_witness}
use Rattle.first_look.proofs.looking.look.Goals as goal

pub returns-clause-no_witness : goal.returns-clause-no_witness
returns-clause-no_witness c = λ seen are. no_witness c.args.known.now c.in_ok-two.two c.in_ok-two.ensures seen are
