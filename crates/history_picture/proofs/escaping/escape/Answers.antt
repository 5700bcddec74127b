use Rattle.std.proofs.Common.{◌≡◌, ◌<◌, length, subst, sym, rules}
use Rattle.history_picture.specs.Escaping.{IsText}
use Rattle.history_picture.proofs.EscapingLaws.{escaped-more, escaped-none}
use Rattle.history_picture.proofs.TextLaws.{escaped_is_text}
use Rattle.history_picture.proofs.escaping.escape.Goals as goal

pub loop-rest-preserved : goal.loop-rest-preserved
loop-rest-preserved c =
    let some : 0 < length c.loop-rest.rest.now = search rules in
    escaped-more c.loop-rest.out.items _ _ c.loop-rest.rest.now _ c.in_ok-taken.taken c.in_ok-taken.ensures.shown c.in_ok-taken.ensures.taken
    c.in_ok-taken.ensures.within.0 some c.split_at.ensures.back c.loop-rest.invariant

pub returns-clause-text : goal.returns-clause-text
returns-clause-text c =
    let none : length c.loop-rest.rest.now ≡ 0 = search rules in
    let whole = escaped-none c.loop-rest.out.items _ c.loop-rest.rest.now none c.loop-rest.invariant in
    subst IsText (sym whole) (escaped_is_text c.args.bytes.now)
