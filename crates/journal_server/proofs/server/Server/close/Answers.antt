use Rattle.std.proofs.Common.{List, subst}
use Rattle.std.specs.Prelude.{IfOk}
use Rattle.server_passes.specs.PassValue.{PassValue}
use Rattle.server_passes.specs.Matching.{IsTold, AreCovered}
use Rattle.journal_server.proofs.server.Server.close.Goals as goal

pub returns-clause-told : goal.returns-clause-told
returns-clause-told g c = subst (λ (passes : List PassValue). IfOk c.close_book.result (λ closed. IsTold closed.history passes)) c.as_slice.ensures.value c.close_book.ensures.told

pub returns-clause-covered : goal.returns-clause-covered
returns-clause-covered g c = subst (λ (passes : List PassValue). IfOk c.close_book.result (λ closed. AreCovered closed.history passes)) c.as_slice.ensures.value c.close_book.ensures.covered
