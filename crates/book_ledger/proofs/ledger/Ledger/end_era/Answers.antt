use Rattle.std.proofs.Common.{◌≡◌, ◌∷◌, ◌++◌, [], Bool, true, false, Some, Result, Ok, Err, refl, ap, ◌∙◌, rules}
use Rattle.std.specs.Prelude.{OnOk, if◌then◌else◌, is_ok, is_err}
use Rattle.nfs_history.specs.declared.fault.HistoryFault.{HistoryFault}
use Rattle.book_ledger.specs.declared.placed.EraOver.{EraOver}
use Rattle.book_ledger.specs.declared.placed.Condition.TheVariants as codes
use Rattle.book_ledger.specs.declared.ledger.Ledger.{Ledger}
use Rattle.book_ledger.proofs.CrashSteps.{restarts}
use Rattle.book_ledger.proofs.ledger.Ledger.end_era.Goals as goal

went_well : {P : Type 0} (r : Result (Unit {0}) HistoryFault) → is_err r ≡ false → OnOk r P → P
went_well (Ok x) e h = h
went_well (Err fault) e h = absurd (cc)

pub returns : goal.returns
returns c =
    let old = c.args.self.now in
    let new : Ledger = record {
      alloc = old.alloc;
      history = c.append.new.self;
      over = c.push.new.self;
      placed = c.replace-placed.new.dest;
      calls = old.calls;
      binds = old.binds;
      tree = Some c.args.tree;
      undos = c.clear.new.self;
      kept = c.args.keep;
      condition = codes.Running;
    } in
    let era : EraOver = record { placed = c.replace-placed.result; kept = c.front_with-kept.result } in
    let fine : is_err c.append.result ≡ false = search rules in
    let fits : is_ok c.push.result ≡ true = c.push.ensures.succeeds c.requires.place in
    restarts old new c.args.keep c.args.tree era c.requires.alive (λ i. (c.replace-placed.ensures.value i).items) c.front_with-kept.ensures (went_well c.append.result fine c.append.ensures.found)
    (went_well c.append.result fine c.append.ensures.behind) (c.push.ensures.items ∙ ap (λ (b : Bool). if b then old.over.items ++ era ∷ [] else old.over.items) fits)
    ((λ i. (c.replace-placed.ensures.after i).items) ∙ c.new.ensures.items) refl refl refl c.clear.ensures.items refl refl
