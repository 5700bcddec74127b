use Rattle.book_laws.proofs.Run.{premises_are_met}
use Rattle.book_laws.proofs.example.the_premises_are_met.Goals as goal

pub returns : goal.returns
returns c = premises_are_met
