use Rattle.std.proofs.Common.{◌≡◌, ℕ, true, List, length, nat_eq, sym, ap, ◌∙◌}
use Rattle.std.specs.Cmp.Lexicographic.{pointwise, same_text}
use Rattle.call_making.specs.declared.stamp.Stamp.{Stamp}
use Rattle.call_making.specs.Tag.{tags}
use Rattle.call_making.proofs.stamp.whose.Goals as goal

-- what is as long as a buffer and holds its tags, is what was read
same_block : (stamp : Stamp) (offset count : ℕ) (buffer filled shown block : List ℕ) → length buffer ≡ count → filled ≡ tags stamp offset (length buffer) → shown ≡ filled → true ≡ pointwise nat_eq shown block → block ≡ tags stamp offset count
same_block stamp offset count buffer filled shown block long told is equal =
    sym (same_text shown block equal) ∙ is ∙ told ∙ ap (tags stamp offset) long

pub returns-then-eq : goal.returns-then-eq
returns-then-eq c =
    same_block _ c.args.offset 16 c.as_mut_slice.result.now c.fill.new.bytes c.as_slice.result.now c.args.block.now (ap length c.as_mut_slice.ensures.value) c.fill.ensures c.as_slice.ensures (sym c.if-eq.true ∙ c.eq.ensures)
