use Rattle.std.proofs.Common.{◌≡◌, ◌+◌, [], length, sym, ap, arith, subst}
use Rattle.std.proofs.lemmas.Bool.Decides.{nat_tests}
use Rattle.certificate.specs.BadLine.{IsBadLine}
use Rattle.certificate.proofs.Faults.{no_first, missing, refused, behind_end}
use Rattle.certificate.proofs.reading.read_lines.Goals as goal

pub returns-in_default : goal.returns-in_default
returns-in_default c = no_first c.args.text.now c.in_default.ensures

pub returns-in-Ends-2 : goal.returns-in-Ends-2
returns-in-Ends-2 c =
    let draft = c.loop-words.draft in
    let at = c.loop-words.invariant in
    let ends = rw c.in-Ends.is at c.in_ok-take_line.ensures in
    let more : c.in-Some-split_at_byte.after.now ≡ [] → ⊥ = λ e. let long = ap length e in grind (arith, nat_tests) in
    let bad = behind_end c.args.text.now c.loop-words.rest.now c.in-Some-split_at_byte.words.now c.in-Some-split_at_byte.after.now draft.binds.items draft.eras.items draft.places.items at.spelled at.binds at.places c.in-Some-split_at_byte.ensures.0 ends.0 more in
    subst (IsBadLine c.args.text.now) (sym (ap (λ n. n + 1 + 1) at.lines)) bad

pub returns-in-Refuses : goal.returns-in-Refuses
returns-in-Refuses c =
    let draft = c.loop-words.draft in
    let at = c.loop-words.invariant in
    let stops = rw c.in-Refuses.is at c.in_ok-take_line.ensures in
    let bad = refused c.args.text.now c.loop-words.rest.now c.in-Some-split_at_byte.words.now c.in-Some-split_at_byte.after.now draft.binds.items draft.eras.items draft.places.items at.spelled at.binds at.places c.in-Some-split_at_byte.ensures.0 c.in-Some-split_at_byte.ensures.1 stops in
    subst (IsBadLine c.args.text.now) (sym (ap (λ n. n + 1) at.lines)) bad

pub returns : goal.returns
returns c =
    let draft = c.loop-words.draft in
    let at = c.loop-words.invariant in
    let bad = missing c.args.text.now c.loop-words.rest.now draft.binds.items draft.eras.items draft.places.items at.spelled at.binds at.places c.in_default-split_at_byte.ensures in
    subst (IsBadLine c.args.text.now) (sym (ap (λ n. n + 1) at.lines)) bad
