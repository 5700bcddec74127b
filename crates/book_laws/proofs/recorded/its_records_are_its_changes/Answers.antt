use Rattle.book_laws.proofs.Recording.{its_changes}
use Rattle.book_laws.proofs.recorded.its_records_are_its_changes.Goals as goal

pub returns : goal.returns
returns c = its_changes
