use Rattle.std.proofs.Common.{Err, sym, ap, ◌∙◌, subst}
use Rattle.std.proofs.lemmas.Result.{err_from_is_err_and}
use Rattle.book_ledger.specs.book_laws_specs.Book.{Book}
use Rattle.replay_law.specs.declared.replay.StepFault.{StepFault}
use Rattle.book_ledger.specs.book_laws_specs.Steps.{Places}
use Rattle.book_ledger.specs.declared.fault.PlaceFault.{PlaceFault}
use Rattle.book_ledger.specs.JoinedFaults.{of_step, of_device}
use Rattle.book_ledger.specs.Inside.{book_of}
use Rattle.book_ledger.specs.Refusals.{PlaceStops}
use Rattle.book_ledger.specs.declared.ledger.Ledger.{Ledger}
use Rattle.book_ledger.specs.PlaceSteps.{IsNumbered, IsLeft, entry_put}
use Rattle.book_ledger.specs.Spelling.{IsSpelledTo}
use Rattle.book_ledger.proofs.BookSteps.{turn_so, asked_so, asked_then, tied_then, free_then, early, stayed_then, step_refused}
use Rattle.book_ledger.proofs.BookPlace.{within_so, placed_then, lost_then}
use Rattle.recorder.proofs.book.Book.put_place.Goals as goal
use Rattle.recorder.proofs.book.Book.put_place.Goals.{in-Some-3, in-None-3}

pub prepare_place-requires-clause-asked : goal.prepare_place-requires-clause-asked
prepare_place-requires-clause-asked g c =
    let device = g.D.JournalDevice.device c.self.inside.device in
    asked_so c.self.inside.ledger device c.args.number
    (turn_so c.self.inside.ledger device c.args.self.now c.args.number c.self.invariant c.self.view_is c.requires.running c.requires.now c.requires.unplaced)

pub prepare_place-requires-clause-spelled : goal.prepare_place-requires-clause-spelled
prepare_place-requires-clause-spelled g c = subst (λ (b : Book). IsSpelledTo b.history.known.calls c.args.number c.args.outcome c.args.answer.now) (sym c.self.view_is) c.requires.spelled

pub invariant_of-self : goal.invariant_of-self
invariant_of-self g c =
    let device = g.D.JournalDevice.device c.self.inside.device in
    tied_then c.self.inside.ledger c.prepare_place.new.self device c.args.number
    (turn_so c.self.inside.ledger device c.args.self.now c.args.number c.self.invariant c.self.view_is c.requires.running c.requires.now c.requires.unplaced) c.prepare_place.ensures.same

pub step-requires-clause-asked : goal.step-requires-clause-asked
step-requires-clause-asked g c =
    let device = g.D.JournalDevice.device c.self.inside.device in
    asked_then c.self.inside.ledger c.prepare_place.new.self device c.args.number
    (turn_so c.self.inside.ledger device c.args.self.now c.args.number c.self.invariant c.self.view_is c.requires.running c.requires.now c.requires.unplaced) c.prepare_place.ensures.same

pub step-requires-clause-free : goal.step-requires-clause-free
step-requires-clause-free g c =
    let device = g.D.JournalDevice.device c.self.inside.device in
    free_then c.self.inside.ledger c.prepare_place.new.self device c.args.number
    (turn_so c.self.inside.ledger device c.args.self.now c.args.number c.self.invariant c.self.view_is c.requires.running c.requires.now c.requires.unplaced) c.prepare_place.ensures.same
    c.in_ok-entry.ensures.fits.0 c.requires.received.0

pub invariant_of-self-in_err-step : goal.invariant_of-self-in_err-step
invariant_of-self-in_err-step g c =
    let device = g.D.JournalDevice.device c.self.inside.device in
    stayed_then c.self.inside.ledger c.prepare_place.new.self device c.args.number
    (turn_so c.self.inside.ledger device c.args.self.now c.args.number c.self.invariant c.self.view_is c.requires.running c.requires.now c.requires.unplaced) c.prepare_place.ensures.same
    c.step.new.self c.in_err-step.ensures.kept

pub returns-in_err-entry-clause-refused : goal.returns-in_err-entry-clause-refused
returns-in_err-entry-clause-refused g c =
    let device = g.D.JournalDevice.device c.self.inside.device in
    let turn = turn_so c.self.inside.ledger device c.args.self.now c.args.number c.self.invariant c.self.view_is c.requires.running c.requires.now c.requires.unplaced in
    let p = err_from_is_err_and c.from_residual.result c.from_residual.ensures.1 in
    rw (p.1, p.2)
    (λ reply is.
    subst (λ (b : Book). PlaceStops b c.args.number reply c.in_err-entry.field-0.0 × IsLeft b c.in_err-entry.field-0.0 (book_of c.prepare_place.new.self device)) c.self.view_is
    (early c.self.inside.ledger c.prepare_place.new.self device c.args.number turn c.prepare_place.ensures.same c.args.outcome reply c.in_err-entry.field-0.0 is c.in_err-entry.ensures.refused))

pub returns-in_err-step-clause-refused : goal.returns-in_err-step-clause-refused
returns-in_err-step-clause-refused g c =
    let device = g.D.JournalDevice.device c.self.inside.device in
    let turn = turn_so c.self.inside.ledger device c.args.self.now c.args.number c.self.invariant c.self.view_is c.requires.running c.requires.now c.requires.unplaced in
    let p = err_from_is_err_and c.from_residual-in_err-step.result c.from_residual-in_err-step.ensures.1 in
    rw (p.1, p.2)
    (λ reply is.
    subst (λ (b : Book). PlaceStops b c.args.number reply (of_step c.in_err-step.field-0.0) × IsLeft b (of_step c.in_err-step.field-0.0) (book_of c.step.new.self device)) c.self.view_is
    (step_refused c.self.inside.ledger c.prepare_place.new.self device c.args.number turn c.prepare_place.ensures.same c.step.new.self c.args.outcome reply c.in_err-step.field-0.0 is c.in_err-step.ensures.kept
    (λ e. c.step.ensures.refused (c.in_err-step.was ∙ ap (λ (fault : StepFault). Err fault) e))))

pub lose_step-requires : goal.lose_step-requires
lose_step-requires g c = record { numbered = subst (λ (l : Ledger). IsNumbered l c.args.number) (sym c.in_ok-step.ensures.taken.parts) c.in_ok-entry.ensures.fits.0 }

pub note_place-requires-clause-within : goal.note_place-requires-clause-within
note_place-requires-clause-within g c =
    let device = g.D.JournalDevice.device c.self.inside.device in
    let turn = turn_so c.self.inside.ledger device c.args.self.now c.args.number c.self.invariant c.self.view_is c.requires.running c.requires.now c.requires.unplaced in
    within_so c.self.inside.ledger c.prepare_place.new.self device c.args.number turn c.prepare_place.ensures.same c.step.new.self c.in_ok-step.step c.in_ok-entry.ensures.fits.0 c.requires.received.0 c.args.outcome c.in_ok-step.ensures.taken

pub invariant_of-self-in-Ok : goal.invariant_of-self-in-Ok
invariant_of-self-in-Ok g c =
    let device = g.D.JournalDevice.device c.self.inside.device in
    let turn = turn_so c.self.inside.ledger device c.args.self.now c.args.number c.self.invariant c.self.view_is c.requires.running c.requires.now c.requires.unplaced in
    (placed_then c.self.inside.ledger c.prepare_place.new.self device c.args.number turn c.prepare_place.ensures.same c.step.new.self c.in_ok-step.step c.args.outcome c.requires.received.0 c.requires.received.1
    c.in_ok-step.ensures.taken c.in_ok-entry.ensures.fits c.note_place.new.self c.in_ok-entry.entry c.is_some.result c.len-records.result (g.D.JournalDevice.device c.put_entry.new.device) c.is_some.ensures
    c.in_ok-entry.ensures.entry c.note_place.ensures c.in-Ok.ensures c.len-records.ensures).0

pub invariant_of-self-in-Ok-2 : goal.invariant_of-self-in-Ok-2
invariant_of-self-in-Ok-2 g c =
    let device = g.D.JournalDevice.device c.self.inside.device in
    let turn = turn_so c.self.inside.ledger device c.args.self.now c.args.number c.self.invariant c.self.view_is c.requires.running c.requires.now c.requires.unplaced in
    (placed_then c.self.inside.ledger c.prepare_place.new.self device c.args.number turn c.prepare_place.ensures.same c.step.new.self c.in_ok-step.step c.args.outcome c.requires.received.0 c.requires.received.1
    c.in_ok-step.ensures.taken c.in_ok-entry.ensures.fits c.note_place.new.self c.in_ok-entry.entry c.is_some.result c.len-records.result (g.D.JournalDevice.device c.put_entry.new.device) c.is_some.ensures
    c.in_ok-entry.ensures.entry c.note_place.ensures c.in-Ok.ensures c.len-records.ensures).0

pub invariant_of-self-in-Err-1 : goal.invariant_of-self-in-Err-1
invariant_of-self-in-Err-1 g c =
    let device = g.D.JournalDevice.device c.self.inside.device in
    let turn = turn_so c.self.inside.ledger device c.args.self.now c.args.number c.self.invariant c.self.view_is c.requires.running c.requires.now c.requires.unplaced in
    (lost_then c.self.inside.ledger c.prepare_place.new.self device c.args.number turn c.prepare_place.ensures.same c.step.new.self c.in_ok-step.step c.args.outcome c.requires.received.0 c.requires.received.1
    c.in_ok-step.ensures.taken c.in_ok-entry.ensures.fits c.lose_step.new.self (entry_put c.in_ok-entry.entry device) (g.D.JournalDevice.device c.put_entry.new.device) c.in-Err.fault c.lose_step.ensures
    c.in-Err.ensures).0

pub returns-in-Ok-clause-placed : goal.returns-in-Ok-clause-placed
returns-in-Ok-clause-placed g c =
    let device = g.D.JournalDevice.device c.self.inside.device in
    let turn = turn_so c.self.inside.ledger device c.args.self.now c.args.number c.self.invariant c.self.view_is c.requires.running c.requires.now c.requires.unplaced in
    let after = g.D.JournalDevice.device c.put_entry.new.device in
    λ reply is.
    let done = (placed_then c.self.inside.ledger c.prepare_place.new.self device c.args.number turn c.prepare_place.ensures.same c.step.new.self c.in_ok-step.step c.args.outcome reply is
    c.in_ok-step.ensures.taken c.in_ok-entry.ensures.fits c.note_place.new.self c.in_ok-entry.entry c.is_some.result c.len-records.result after c.is_some.ensures c.in_ok-entry.ensures.entry c.note_place.ensures
    c.in-Ok.ensures c.len-records.ensures).1 in
    subst (λ (b : Book). Places b c.args.number reply c.match-entry-2.self) c.self.view_is
    (elim c.match-entry-2.branch [ in-Some-3 w ↦ subst (λ (b : Book). Places (book_of c.self.inside.ledger device) c.args.number reply b) (sym w.self-is) done | in-None-3 w ↦ subst (λ (b : Book). Places (book_of c.self.inside.ledger device) c.args.number reply b) (sym w.self-is) done ])

pub returns-in-Err-clause-refused : goal.returns-in-Err-clause-refused
returns-in-Err-clause-refused g c =
    let device = g.D.JournalDevice.device c.self.inside.device in
    let turn = turn_so c.self.inside.ledger device c.args.self.now c.args.number c.self.invariant c.self.view_is c.requires.running c.requires.now c.requires.unplaced in
    let after = g.D.JournalDevice.device c.put_entry.new.device in
    λ reply is.
    let lost = (lost_then c.self.inside.ledger c.prepare_place.new.self device c.args.number turn c.prepare_place.ensures.same c.step.new.self c.in_ok-step.step c.args.outcome reply is c.in_ok-step.ensures.taken
    c.in_ok-entry.ensures.fits c.lose_step.new.self (entry_put c.in_ok-entry.entry device) after c.in-Err.fault c.lose_step.ensures c.in-Err.ensures).1 in
    subst (λ (fault : PlaceFault). PlaceStops c.args.self.now c.args.number reply fault × IsLeft c.args.self.now fault (book_of c.lose_step.new.self after)) (sym c.from.ensures)
    (subst (λ (b : Book). PlaceStops b c.args.number reply (of_device c.in-Err.fault) × IsLeft b (of_device c.in-Err.fault) (book_of c.lose_step.new.self after)) c.self.view_is lost)
