use Rattle.std.proofs.Common.{◌≡◌, ℕ, ◌-◌, List, take, reverse, sym, ap, ◌∙◌, arith}
use Rattle.std.proofs.lemmas.List.{take_all, drop_all, length-set}
use Rattle.std.proofs.lemmas.List.Elements.{All-same}
use Rattle.tree_stores.specs.declared.file_bytes.changes.Change.{Change}
use Rattle.tree_stores.specs.Paged.{byte_of, HasRoom, changed}
use Rattle.tree_stores.proofs.Paging.{exchange_put, exchange_kept, room_now, room_left}
use Rattle.tree_stores.proofs.file_bytes.changes.exchange.Goals as goal

pub loop-left-init : goal.loop-left-init
loop-left-init c =
    let items = c.args.changes.now.items in
    let left = c.len-left.result in record {
      within = omega (arith, c.args.changes.now.ok.0);
      target = ap (λ (cs : List Change). changed cs (byte_of c.args.pages.now)) (take_all left items (omega (arith, c.args.changes.now.ok.0)));
      source = ap (λ (cs : List Change). changed (reverse cs) (byte_of c.args.pages.now)) (drop_all left items (omega (arith, c.args.changes.now.ok.0)));
      all = All-same (λ (change : Change). HasRoom c.args.pages.now change.number) (take left items) items (take_all left items (omega (arith, c.args.changes.now.ok.0))) c.requires;
    }

pub index_mut-requires : goal.index_mut-requires
index_mut-requires c = omega (arith, c.loop-left.changes.ok.0, c.loop-left.invariant.within)

pub put_change-requires : goal.put_change-requires
put_change-requires c =
    room_now c.loop-left.pages c.loop-left.pages c.loop-left.changes.items c.loop-left.left c.index_mut.result.now c.index_mut.result.now c.loop-left-test.true c.loop-left.invariant.within c.index_mut.ensures.value c.loop-left.invariant.all

pub loop-left-preserved : goal.loop-left-preserved
loop-left-preserved c =
    let old = c.loop-left.pages in
    let new = c.put_change.new.pages in
    let items = c.loop-left.changes.items in
    let left = c.loop-left.left in
    let now = c.index_mut.result.now in
    let kept = c.put_change.new.change in
    let some = c.loop-left-test.true in
    let within = c.loop-left.invariant.within in
    let is_now = c.index_mut.ensures.value in record {
      within = omega (arith, length-set items (left - 1) kept);
      target = exchange_put old new items left now kept some within is_now c.put_change.ensures.puts ∙ c.loop-left.invariant.target;
      source = exchange_kept old new items left now kept some within is_now c.put_change.ensures.number c.put_change.ensures.stood c.put_change.ensures.puts ∙ c.loop-left.invariant.source;
      all = room_left old new items left now kept some within is_now c.put_change.ensures.kept c.loop-left.invariant.all;
    }

pub returns-clause-changed : goal.returns-clause-changed
returns-clause-changed c =
    let pages = c.loop-left.pages in
    let items = c.loop-left.changes.items in
    let none : c.loop-left.left ≡ 0 = omega arith in
    ap (λ (n : ℕ). changed (take n items) (byte_of pages)) (sym none) ∙ c.loop-left.invariant.target
