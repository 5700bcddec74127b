use Rattle.std.proofs.Common.{List, ℕ, sym, subst}
use Rattle.nfs3_types.specs.declared.replies.Outcome.TheVariants.{Received}
use Rattle.book_ledger.specs.book_laws_specs.Book.{Book}
use Rattle.book_ledger.specs.book_laws_specs.Steps.{Places}
use Rattle.book_ledger.specs.declared.fault.PlaceFault.TheVariants.{NoMemory}
use Rattle.book_ledger.specs.Refusals.{PlaceStops}
use Rattle.book_ledger.specs.PlaceSteps.{IsLeft}
use Rattle.book_ledger.specs.Spelling.{IsSpelledTo}
use Rattle.book_ledger.proofs.BookSteps.{turn_so, asked_so, unspelled}
use Rattle.recorder.proofs.Given.{placed_with, refused_with}
use Rattle.recorder.proofs.book.Book.put_reply.Goals as goal

pub spell-requires : goal.spell-requires
spell-requires g c =
    let device = g.D.JournalDevice.device c.self.inside.device in
    asked_so c.self.inside.ledger device c.args.number
    (turn_so c.self.inside.ledger device c.args.self.now c.args.number c.self.invariant c.self.view_is c.requires.running c.requires.now c.requires.unplaced)

pub put_place-requires-clause-spelled : goal.put_place-requires-clause-spelled
put_place-requires-clause-spelled g c =
    subst (λ (b : Book). IsSpelledTo b.history.known.calls c.args.number (Received c.args.reply) c.as_slice.result.now) c.self.view_is
    (subst (λ (m : List ℕ). IsSpelledTo c.self.inside.ledger.history.known.calls c.args.number (Received c.args.reply) m) (sym c.as_slice.ensures.value) c.in-Ok.ensures)

pub returns-in-Ok-clause-placed : goal.returns-in-Ok-clause-placed
returns-in-Ok-clause-placed g c = placed_with c.put_place.result (λ reply. Places c.args.self.now c.args.number reply c.put_place.new.self) c.args.reply c.put_place.ensures.placed

pub returns-in-Ok-clause-refused : goal.returns-in-Ok-clause-refused
returns-in-Ok-clause-refused g c =
    refused_with c.put_place.result (λ reply fault. PlaceStops c.args.self.now c.args.number reply fault × IsLeft c.args.self.now fault c.put_place.new.self) c.args.reply c.put_place.ensures.refused

pub returns-in-Err-clause-refused : goal.returns-in-Err-clause-refused
returns-in-Err-clause-refused g c =
    let device = g.D.JournalDevice.device c.self.inside.device in
    subst (λ (b : Book). PlaceStops b c.args.number c.args.reply NoMemory × IsLeft b NoMemory b) c.self.view_is
    (unspelled c.self.inside.ledger device c.args.number
    (turn_so c.self.inside.ledger device c.args.self.now c.args.number c.self.invariant c.self.view_is c.requires.running c.requires.now c.requires.unplaced) c.args.reply)
