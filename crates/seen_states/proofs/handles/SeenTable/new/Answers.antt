use Rattle.std.proofs.Common.{rules, ◌≡◌, ◌^◌, ◌<◌, ◌≤◌, arith}
use Rattle.std.proofs.lemmas.Grind.{common_steps}
use Rattle.std.proofs.Math.Pow.{pow_mono}
use Rattle.std.proofs.lemmas.Nat.{pow_pos}
use Rattle.seen_states.proofs.SeenLaws.{opens}
use Rattle.seen_states.proofs.handles.SeenTable.new.Goals as goal

pub of_words-requires : goal.of_words-requires
of_words-requires c = opens _ _ (search rules) (λ i. grind (arith, common_steps))

pub invariant_of-result : goal.invariant_of-result
invariant_of-result c =
    let is : c.in_ok-table.table.shared.table_id.words ≡ 2 ^ c.args.bits = search rules in
    let some : 0 < 2 ^ c.args.bits = pow_pos c.args.bits in
    let few : 2 ^ c.args.bits ≤ 2 ^ 24 = pow_mono c.requires in
    record { ruled = search rules; some = omega arith; few = omega arith }
