use Rattle.std.proofs.Common.{◌∙◌, arith}
use Rattle.tree_stores.proofs.Words.{apart, alike, last}
use Rattle.tree_stores.proofs.names.short_name.order.Goals as goal

pub returns-then-first-second : goal.returns-then-first-second
returns-then-first-second c =
    c.cmp.ensures ∙ apart c.args.one.now c.args.other.now c.told-one c.told-other c.fits-one c.fits-other 0 _ _ (omega arith) c.word-first.ensures c.word-second.ensures c.if-first-second.true

pub returns-then-third-fourth : goal.returns-then-third-fourth
returns-then-third-fourth c =
    c.cmp-then-third-fourth.ensures
    ∙ apart c.args.one.now c.args.other.now c.told-one c.told-other c.fits-one c.fits-other 8 _ _ (omega arith) c.word-third.ensures c.word-fourth.ensures c.if-third-fourth.true
    ∙ alike c.args.one.now c.args.other.now c.told-one c.told-other c.fits-one c.fits-other 0 _ _ (omega arith) c.word-first.ensures c.word-second.ensures c.if-first-second.false

pub returns : goal.returns
returns c =
    c.cmp-2.ensures
    ∙ last c.args.one.now c.args.other.now c.told-one c.told-other c.fits-one c.fits-other 16 _ _ (omega arith) c.word.ensures c.word-2.ensures (omega arith)
    ∙ alike c.args.one.now c.args.other.now c.told-one c.told-other c.fits-one c.fits-other 8 _ _ (omega arith) c.word-third.ensures c.word-fourth.ensures c.if-third-fourth.false
    ∙ alike c.args.one.now c.args.other.now c.told-one c.told-other c.fits-one c.fits-other 0 _ _ (omega arith) c.word-first.ensures c.word-second.ensures c.if-first-second.false
