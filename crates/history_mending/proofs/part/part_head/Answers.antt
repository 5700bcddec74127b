use Rattle.std.proofs.Common.{◌≡◌, [], ap, ◌∙◌}
use Rattle.history_file.specs.Owning.{all_happened}
use Rattle.history_mending.proofs.part.part_head.Goals as goal

pub returns-clause-spelled : goal.returns-clause-spelled
returns-clause-spelled c =
    let none : all_happened c.as_slice.result.now ≡ [] = ap all_happened (c.as_slice.ensures.value ∙ c.new-none.ensures.items) in
    rw none at c.write_history.ensures.spelled

pub returns-clause-text : goal.returns-clause-text
returns-clause-text c =
    let none : all_happened c.as_slice.result.now ≡ [] = ap all_happened (c.as_slice.ensures.value ∙ c.new-none.ensures.items) in
    rw none at c.write_history.ensures.text

pub returns-clause-large : goal.returns-clause-large
returns-clause-large c =
    let none : all_happened c.as_slice.result.now ≡ [] = ap all_happened (c.as_slice.ensures.value ∙ c.new-none.ensures.items) in
    rw none at c.write_history.ensures.large
