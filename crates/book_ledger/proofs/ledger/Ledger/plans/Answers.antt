use Rattle.std.proofs.Common.{List, sym, subst}
use Rattle.book_ledger.specs.declared.placed.PlacedCall.{PlacedCall}
use Rattle.book_ledger.specs.declared.placed.EraOver.{EraOver}
use Rattle.book_ledger.specs.Inside.{AreAsked, ArePlannable}
use Rattle.book_ledger.proofs.Plans.{plannable, asked_now}
use Rattle.book_ledger.proofs.ledger.Ledger.plans.Goals as goal

pub plans_over-requires : goal.plans_over-requires
plans_over-requires c =
    subst (λ (xs : List EraOver). ArePlannable c.args.self.now.history.known.calls xs) (sym c.as_slice.ensures.value) (plannable c.args.self.now c.requires.0 c.requires.1)

pub places_of-requires : goal.places_of-requires
places_of-requires c =
    subst (λ (xs : List PlacedCall). AreAsked c.args.self.now.history.known.calls xs) (sym c.as_slice-2.ensures.value) (asked_now c.args.self.now c.requires.0 c.requires.1)
