use Rattle.std.proofs.Common.{arith, sym, ◌∙◌}
use Rattle.walk_accounts.proofs.Parts.{listing_page, listing_past}
use Rattle.walk_accounts.proofs.judging.is_listing.Goals as goal

pub returns-in-Other : goal.returns-in-Other
returns-in-Other c =
    let e = c.index-part-index.result in
    sym (sym c.loop-index.invariant ∙ listing_page c.args.directory.now c.loop-index.cursor c.loop-index.index c.args.part.now e e _ c.loop-index-test.true c.index-part-index.is (sym c.page.ensures ∙ c.in-Other.is))

pub returns-in-Last : goal.returns-in-Last
returns-in-Last c =
    let e = c.index-part-index.result in
    sym (sym c.loop-index.invariant ∙ listing_page c.args.directory.now c.loop-index.cursor c.loop-index.index c.args.part.now e e _ c.loop-index-test.true c.index-part-index.is (sym c.page.ensures ∙ c.in-Last.is))

pub loop-index-preserved : goal.loop-index-preserved
loop-index-preserved c =
    let e = c.index-part-index.result in
    sym (listing_page c.args.directory.now c.loop-index.cursor c.loop-index.index c.args.part.now e e _ c.loop-index-test.true c.index-part-index.is (sym c.page.ensures ∙ c.in-More.is)) ∙ c.loop-index.invariant

pub returns : goal.returns
returns c =
    sym (sym c.loop-index.invariant ∙ listing_past c.args.directory.now c.loop-index.cursor c.loop-index.index c.args.part.now (omega (arith, c.loop-index-test.false)))
