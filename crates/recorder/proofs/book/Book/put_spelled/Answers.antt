use Rattle.std.proofs.Common.{subst}
use Rattle.nfs3_types.specs.declared.replies.Outcome.TheVariants.{Received}
use Rattle.book_ledger.specs.book_laws_specs.Book.{Book}
use Rattle.book_ledger.specs.book_laws_specs.Steps.{Places}
use Rattle.book_ledger.specs.Refusals.{PlaceStops}
use Rattle.book_ledger.specs.PlaceSteps.{IsLeft}
use Rattle.book_ledger.specs.Spelling.{IsSpelledTo}
use Rattle.book_ledger.proofs.BookSteps.{turn_so, asked_so}
use Rattle.recorder.proofs.Given.{placed_with, refused_with, spelled_to}
use Rattle.recorder.proofs.book.Book.put_spelled.Goals as goal

pub is_of_call-requires : goal.is_of_call-requires
is_of_call-requires g c =
    let device = g.D.JournalDevice.device c.self.inside.device in
    asked_so c.self.inside.ledger device c.args.number
    (turn_so c.self.inside.ledger device c.args.self.now c.args.number c.self.invariant c.self.view_is c.requires.running c.requires.now c.requires.unplaced)

pub put_place-requires-clause-spelled : goal.put_place-requires-clause-spelled
put_place-requires-clause-spelled g c =
    subst (λ (b : Book). IsSpelledTo b.history.known.calls c.args.number (Received c.args.reply) c.answer.result.now) c.self.view_is
    (spelled_to c.self.inside.ledger.history.known.calls c.args.number c.args.reply c.args.spelled.now c.answer.result.now (c.is_of_call.ensures c.if-is_of_call.true) c.requires.same c.answer.ensures)

pub returns-then-is_of_call-clause-placed : goal.returns-then-is_of_call-clause-placed
returns-then-is_of_call-clause-placed g c = placed_with c.put_place.result (λ reply. Places c.args.self.now c.args.number reply c.put_place.new.self) c.args.reply c.put_place.ensures.placed

pub returns-then-is_of_call-clause-refused : goal.returns-then-is_of_call-clause-refused
returns-then-is_of_call-clause-refused g c =
    refused_with c.put_place.result (λ reply fault. PlaceStops c.args.self.now c.args.number reply fault × IsLeft c.args.self.now fault c.put_place.new.self) c.args.reply c.put_place.ensures.refused
