use Rattle.std.proofs.Common.{◌≡◌, ◌+◌, ◌&&◌, nat_eq, true, false, length, rules, arith, sym, ap, ◌∙◌}
use Rattle.walk_accounts.proofs.Parts.{reading_wrong, reading_last, reading_more, reading_past}
use Rattle.walk_accounts.proofs.judging.is_reading.Goals as goal

pub returns-then-not-is_piece : goal.returns-then-not-is_piece
returns-then-not-is_piece c =
    let e = c.index-part-index.result in
    sym (sym c.loop-index.invariant ∙ reading_wrong c.args.file.now c.args.size c.loop-index.offset c.loop-index.index c.args.part.now e e c.loop-index-test.true c.index-part-index.is (sym c.is_piece.ensures ∙ c.if-not-is_piece.true))

pub returns-then-next-size : goal.returns-then-next-size
returns-then-next-size c =
    let e = c.index-part-index.result in
    let same : nat_eq (c.loop-index.offset + length c.bytes_in.result.now) c.args.size ≡ true = search rules in
    sym (sym c.loop-index.invariant ∙ reading_last c.args.file.now c.args.size c.loop-index.offset c.loop-index.index c.args.part.now e e c.bytes_in.result.now c.loop-index-test.true c.index-part-index.is (sym c.is_piece.ensures ∙ c.if-not-is_piece.false) (sym c.is_at_end.ensures ∙ c.if-is_at_end.true) c.bytes_in.ensures.value
    ∙ ap (λ b. b && nat_eq (c.loop-index.index + 1) (length c.args.part.now)) same)

pub returns-else-next-size : goal.returns-else-next-size
returns-else-next-size c =
    let e = c.index-part-index.result in
    let other : nat_eq (c.loop-index.offset + length c.bytes_in.result.now) c.args.size ≡ false = search rules in
    other ∙ sym (sym c.loop-index.invariant ∙ reading_last c.args.file.now c.args.size c.loop-index.offset c.loop-index.index c.args.part.now e e c.bytes_in.result.now c.loop-index-test.true c.index-part-index.is (sym c.is_piece.ensures ∙ c.if-not-is_piece.false) (sym c.is_at_end.ensures ∙ c.if-is_at_end.true) c.bytes_in.ensures.value
    ∙ ap (λ b. b && nat_eq (c.loop-index.index + 1) (length c.args.part.now)) other)

pub loop-index-preserved : goal.loop-index-preserved
loop-index-preserved c =
    let e = c.index-part-index.result in
    sym (reading_more c.args.file.now c.args.size c.loop-index.offset c.loop-index.index c.args.part.now e e c.bytes_in.result.now c.loop-index-test.true c.index-part-index.is (sym c.is_piece.ensures ∙ c.if-not-is_piece.false) (sym c.is_at_end.ensures ∙ c.if-is_at_end.false) c.bytes_in.ensures.value)
    ∙ c.loop-index.invariant

pub returns : goal.returns
returns c =
    sym (sym c.loop-index.invariant ∙ reading_past c.args.file.now c.args.size c.loop-index.offset c.loop-index.index c.args.part.now (omega (arith, c.loop-index-test.false)))
