use Rattle.std.proofs.Common.{◌++◌, ◌∙◌, ap, arith, append_assoc}
use Rattle.std.proofs.lemmas.List.{length-map}
use Rattle.xdr_records.specs.Texts.{opaque_text}
use Rattle.history_file.specs.Owning.{happened, all_happened}
use Rattle.history_file.specs.Writing.{counted_text}
use Rattle.history_file.proofs.Spelled.{first_written}
use Rattle.history_file.proofs.writing.write_history.Goals as goal

pub returns-clause-spelled : goal.returns-clause-spelled
returns-clause-spelled c =
    let es = all_happened c.args.events.now in
    first_written c.args.root.now es c.put_events.new.out.items
    (c.in_ok-put_events.ensures.ok ∙ ap (λ t. t ++ counted_text es) (c.in_ok-put_opaque.ensures.ok ∙ ap (λ t. t ++ opaque_text c.args.root.now) (c.in_ok-out.ensures.items ∙ c.as_slice.ensures)) ∙ simp append_assoc)
    c.in_ok-put_events.ensures.small c.if-root.false (omega (arith, length-map c.args.events.now happened)) c.in_ok-put_events.ensures.fits
