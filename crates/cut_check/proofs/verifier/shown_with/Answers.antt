-- One more place, by what it and those ahead of it show.
use Rattle.std.proofs.Common.{subst, ◌∙◌}
use Rattle.cut_check.specs.Shown.{IsShown}
use Rattle.cut_check.proofs.ShownLaws.{shown_silent, shown_first, shown_again, shown_other, shown_several}
use Rattle.cut_check.proofs.verifier.shown_with.Goals as goal

pub returns-in_default : goal.returns-in_default
returns-in_default c = λ calls places place seen so_far. shown_silent calls places place c.args.so_far (seen ∙ c.in_default.is) so_far

pub returns-in-Nothing : goal.returns-in-Nothing
returns-in-Nothing c = λ calls places place seen so_far.
    shown_first calls places place c.in-Some.verifier (seen ∙ c.in-Some.is) (subst (IsShown calls places) c.in-Nothing.is so_far)

pub returns-then-one-verifier : goal.returns-then-one-verifier
returns-then-one-verifier c = λ calls places place seen so_far.
    shown_again calls places place c.in-One.one c.in-Some.verifier (seen ∙ c.in-Some.is) c.if-one-verifier.true (subst (IsShown calls places) c.in-One.is so_far)

pub returns-else-one-verifier : goal.returns-else-one-verifier
returns-else-one-verifier c = λ calls places place seen so_far.
    shown_other calls places place c.in-One.one c.in-Some.verifier (seen ∙ c.in-Some.is) c.if-one-verifier.false (subst (IsShown calls places) c.in-One.is so_far)

pub returns-in-Several : goal.returns-in-Several
returns-in-Several c = λ calls places place seen so_far. shown_several calls places place (subst (IsShown calls places) c.in-Several.is so_far)
