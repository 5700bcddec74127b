use Rattle.std.proofs.Common.{◌≡◌, Bool, [], length, ap, arith, subst}
use Rattle.std.proofs.lemmas.Bool.Decides.{nat_tests}
use Rattle.plan_text.specs.Draft.{IsBegun, lines_in}
use Rattle.plan_text.proofs.Faults.{no_first, missing, refused, behind_end}
use Rattle.plan_text.proofs.reading.read_lines.Goals as goal

pub returns-in_default : goal.returns-in_default
returns-in_default c = no_first c.args.text.now c.in_default.ensures

pub returns-in-Ends-2 : goal.returns-in-Ends-2
returns-in-Ends-2 c =
    let draft = c.loop-words.draft in
    let at = c.loop-words.invariant in
    let ends = rw c.in-Ends.is at c.in_ok-take_line.ensures in
    let more : c.in-Some-split_at_byte.after.now ≡ [] → ⊥ = λ e. let long = ap length e in grind (arith, nat_tests) in
    behind_end c.args.text.now c.loop-words.rest.now c.in-Some-split_at_byte.words.now c.in-Some-split_at_byte.after.now draft.append_fault draft.barrier_fault draft.steps.items draft.lines (subst (λ (w : Bool). IsBegun (lines_in draft) draft.lines w) ends.2 at.draft_is) at.spelled c.in-Some-split_at_byte.ensures.0 ends.0 more

pub returns-in-Refuses : goal.returns-in-Refuses
returns-in-Refuses c =
    let draft = c.loop-words.draft in
    let at = c.loop-words.invariant in
    let stops = rw c.in-Refuses.is at c.in_ok-take_line.ensures in
    refused c.args.text.now c.loop-words.rest.now c.in-Some-split_at_byte.words.now c.in-Some-split_at_byte.after.now draft.append_fault draft.barrier_fault draft.steps.items draft.lines draft.waiting at.draft_is at.spelled c.in-Some-split_at_byte.ensures.0 c.in-Some-split_at_byte.ensures.1 stops

pub returns : goal.returns
returns c =
    let draft = c.loop-words.draft in
    let at = c.loop-words.invariant in
    missing c.args.text.now c.loop-words.rest.now draft.append_fault draft.barrier_fault draft.steps.items draft.lines draft.waiting at.draft_is at.spelled c.in_default-split_at_byte.ensures
