use Rattle.tree_laws.proofs.Judged.{out_plain, others_dont_matter_under, comes_out_alike, succeeds_under_each}
use Rattle.tree_laws.proofs.strict.what_is_strict_is_plain.Goals as goal

pub returns-clause-plain : goal.returns-clause-plain
returns-clause-plain c = out_plain

pub returns-clause-others : goal.returns-clause-others
returns-clause-others c = others_dont_matter_under

pub returns-clause-successes : goal.returns-clause-successes
returns-clause-successes c = succeeds_under_each

pub returns-clause-taken : goal.returns-clause-taken
returns-clause-taken c = comes_out_alike
