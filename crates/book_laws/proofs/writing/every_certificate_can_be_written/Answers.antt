use Rattle.book_laws.proofs.Rising.{can_be_written}
use Rattle.book_laws.proofs.writing.every_certificate_can_be_written.Goals as goal

pub returns : goal.returns
returns c = can_be_written
