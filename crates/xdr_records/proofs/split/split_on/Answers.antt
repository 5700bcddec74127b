use Rattle.std.proofs.Common.{◌≡◌, ◌∷◌, ◌++◌, [], ◌+◌, List, ℕ, take, drop, ap, sym, subst, ◌∙◌}
use Rattle.std.proofs.lemmas.List.{take_rest}
use Rattle.xdr_records.specs.Record.{IsRecord}
use Rattle.xdr_records.specs.Scan.{EndsAt}
use Rattle.xdr_records.specs.Splits.{Follows}
use Rattle.xdr_records.proofs.Copies.{follows_more}
use Rattle.xdr_records.proofs.split.split_on.Goals as goal

pub loop-passed-preserved : goal.loop-passed-preserved
loop-passed-preserved c =
    let bytes = c.args.bytes.now in
    let rest : c.new-rest.result ≡ drop c.loop-passed.used bytes = c.new-rest.ensures ∙ take_rest bytes c.loop-passed.used in
    let ends = subst (λ (x : List ℕ). EndsAt c.in-Whole.end c.in-Whole.size x) rest c.in-Whole.ensures in
    let whole = subst (λ (x : List ℕ). IsRecord (take c.in-Whole.end x) c.in_ok-bytes-in-Whole.bytes.items) rest c.in_ok-bytes-in-Whole.ensures in
    let items : c.push_back-in-Whole.new.self.items ≡ c.loop-passed.records.items ++ c.in_ok-bytes-in-Whole.bytes.items ∷ [] =
    c.in_ok-push_back-in-Whole.ensures.items ∙ ap (λ (x : List ℕ). c.loop-passed.records.items ++ x ∷ []) c.new.ensures in
    subst (λ (xs : List (List ℕ)). Follows c.args.first bytes (c.loop-passed.used + c.in-Whole.end) xs) (sym items)
    (follows_more c.args.first bytes c.loop-passed.used c.in-Whole.end c.in-Whole.size c.loop-passed.records.items c.in_ok-bytes-in-Whole.bytes.items c.loop-passed.invariant ends whole)
