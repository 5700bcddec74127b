use Rattle.std.proofs.Common.{refl, sym, ap, subst, ◌∙◌}
use Rattle.journal.specs.Device.{Device, settled}
use Rattle.book_ledger.specs.book_laws_specs.Book.{Book}
use Rattle.book_ledger.specs.Inside.{AreTied}
use Rattle.book_ledger.proofs.Standing.{down_isnt, dead_isnt, not_running}
use Rattle.book_ledger.proofs.Flushed.{running_lives, barrier_failed, flushed_so, downed_tied, downed_so}
use Rattle.recorder.proofs.book.Book.flush_giving.Goals as goal

pub returns-in-Down : goal.returns-in-Down
returns-in-Down g c = record {
  flushed = tt;
  refused = (λ e. not_running c.self.inside.ledger.condition (down_isnt c.self.inside.ledger.condition c.in-Down.is) (ap (λ (b : Book). b.condition) c.self.view_is ∙ e), refl);
}

pub returns-in-Dead : goal.returns-in-Dead
returns-in-Dead g c = record {
  flushed = tt;
  refused = (λ e. not_running c.self.inside.ledger.condition (dead_isnt c.self.inside.ledger.condition c.in-Dead.is) (ap (λ (b : Book). b.condition) c.self.view_is ∙ e), refl);
}

pub go_down-requires : goal.go_down-requires
go_down-requires g c = running_lives c.self.inside.ledger.condition c.in-Running.is

pub invariant_of-self : goal.invariant_of-self
invariant_of-self g c = subst (λ (d : Device). AreTied c.settle.new.self d) (sym c.in-Ok.ensures.leaves) (c.settle.ensures (g.D.JournalDevice.device c.self.inside.device) c.self.invariant).0

pub invariant_of-self-in-Err : goal.invariant_of-self-in-Err
invariant_of-self-in-Err g c =
    let goes = c.go_down.ensures (g.D.JournalDevice.device c.self.inside.device) c.self.invariant in
    downed_tied c.self.inside.ledger c.go_down.new.self (g.D.JournalDevice.device c.self.inside.device) (g.D.JournalDevice.device c.barrier.new.self) c.self.invariant c.args.self.now c.self.view_is c.in-Running.is
    (barrier_failed c.in-Err.field-0 (g.D.JournalDevice.device c.self.inside.device) (settled (g.D.JournalDevice.device c.self.inside.device)) (g.D.JournalDevice.device c.barrier.new.self) c.in-Err.ensures.leaves c.in-Err.ensures.memory) goes.0 goes.1

pub returns-in-Ok-clause-flushed : goal.returns-in-Ok-clause-flushed
returns-in-Ok-clause-flushed g c =
    flushed_so c.self.inside.ledger c.settle.new.self (g.D.JournalDevice.device c.self.inside.device) (g.D.JournalDevice.device c.barrier.new.self) c.self.invariant c.args.self.now c.self.view_is c.in-Running.is c.in-Ok.ensures.leaves
    (c.settle.ensures (g.D.JournalDevice.device c.self.inside.device) c.self.invariant).1

pub returns-in-Err-clause-refused : goal.returns-in-Err-clause-refused
returns-in-Err-clause-refused g c =
    let goes = c.go_down.ensures (g.D.JournalDevice.device c.self.inside.device) c.self.invariant in
    downed_so c.self.inside.ledger c.go_down.new.self (g.D.JournalDevice.device c.self.inside.device) (g.D.JournalDevice.device c.barrier.new.self) c.self.invariant c.args.self.now c.self.view_is c.in-Running.is
    (barrier_failed c.in-Err.field-0 (g.D.JournalDevice.device c.self.inside.device) (settled (g.D.JournalDevice.device c.self.inside.device)) (g.D.JournalDevice.device c.barrier.new.self) c.in-Err.ensures.leaves c.in-Err.ensures.memory) goes.1
