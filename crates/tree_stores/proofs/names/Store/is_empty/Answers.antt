use Rattle.std.proofs.Common.{length, sym, ap, ◌∙◌, arith}
use Rattle.std.specs.Prelude.{◌==◌}
use Rattle.std.proofs.lemmas.Bool.Decides.{nat_tests}
use Rattle.tree_stores.specs.Names.{pairs_of}
use Rattle.tree_stores.proofs.FewLemmas.{length-listed}
use Rattle.tree_stores.proofs.ManyLemmas.{length-entered}
use Rattle.tree_stores.proofs.names.Store.is_empty.Goals as goal

pub returns-in-Few : goal.returns-in-Few
returns-in-Few c = c.is_empty.ensures ∙ ap (λ n. n == 0) (c.in-Few.few.ok.0 ∙ sym (length-listed c.in-Few.few.items)) ∙ ap (λ s. length (pairs_of s) == 0) (sym c.in-Few.is)

pub returns-in-Short : goal.returns-in-Short
returns-in-Short c = rw (c.in-Short.is, length-entered (λ key. key) c.in-Short.many.entries) (grind (arith, nat_tests, c.is_empty-in-Short.ensures))

pub returns-in-Long : goal.returns-in-Long
returns-in-Long c = rw (c.in-Long.is, length-entered (λ key. key.items) c.in-Long.many.entries) (grind (arith, nat_tests, c.is_empty-in-Long.ensures))
