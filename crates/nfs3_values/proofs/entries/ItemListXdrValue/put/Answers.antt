use Rattle.std.proofs.Common.{◌≡◌, ◌++◌, true, sym, ap, ◌∙◌, arith}
use Rattle.std.proofs.lemmas.Result.{on_ok_weaker}
use Rattle.xdr_records.specs.Texts.{flag_text, list_text}
use Rattle.nfs3_values.proofs.EntryList.{put_more, put_end, fits_more}
use Rattle.nfs3_values.proofs.entries.ItemListXdrValue.put.Goals as goal

pub loop-entry-preserved : goal.loop-entry-preserved
loop-entry-preserved g c =
    let xs = c.as_slice-entry-items.result.now in
    let i = c.loop-entry.entry-index in
    let put : c.put.new.out.items ≡ (c.loop-entry.out.items ++ flag_text true) ++ g.E.XdrValue.text c.entry-item.result = c.in_ok-put.ensures.ok ∙ ap (λ bytes. bytes ++ g.E.XdrValue.text c.entry-item.result) c.in_ok-put_flag.ensures.ok in (
      put_more g.E.XdrValue.text xs i _ c.entry-item.result c.loop-entry.out.items c.put.new.out.items _ c.loop-entry-test.true (sym c.entry-item.is) put c.loop-entry.invariant.0,
      λ rest. c.loop-entry.invariant.1 (fits_more g.E.XdrValue.fits xs i _ c.entry-item.result c.loop-entry-test.true (sym c.entry-item.is) c.in_ok-put.ensures.fits rest),
    )

pub returns-clause-ok : goal.returns-clause-ok
returns-clause-ok g c =
    on_ok_weaker c.put_flag-2.result (put_end g.E.XdrValue.text c.as_slice-entry-items.result.now c.loop-entry.entry-index c.loop-entry.out.items c.put_flag-2.new.out.items (c.args.out.now.items ++ list_text g.E.XdrValue.text c.args.self.now) (omega (arith, c.loop-entry-test.false)) c.loop-entry.invariant.0)
    c.put_flag-2.ensures.ok
