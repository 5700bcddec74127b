use Rattle.std.proofs.Common.{rules}
use Rattle.history_picture.proofs.ReadingLaws.{page_has_own_tags}
use Rattle.history_picture.proofs.pages.Page.as_slice.Goals as goal

pub returns-clause-own_tags : goal.returns-clause-own_tags
returns-clause-own_tags c = search (rules, page_has_own_tags)
