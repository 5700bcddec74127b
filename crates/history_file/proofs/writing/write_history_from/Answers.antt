use Rattle.std.proofs.Common.{◌++◌, ◌∙◌, ap, arith}
use Rattle.std.proofs.lemmas.List.{length-map}
use Rattle.history_file.specs.Owning.{happened, all_happened}
use Rattle.history_file.specs.Writing.{counted_text}
use Rattle.history_file.proofs.Spelled.{second_written}
use Rattle.history_file.proofs.writing.write_history_from.Goals as goal

pub returns-clause-spelled : goal.returns-clause-spelled
returns-clause-spelled c =
    let es = all_happened c.args.events.now in
    second_written (record { root = c.args.root.now; start = c.args.start.now; profile = c.args.profile }) es c.put_events.new.out.items
    (c.in_ok-put_events.ensures.ok ∙ ap (λ t. t ++ counted_text es) c.in_ok-whole.ensures.text)
    c.in_ok-put_events.ensures.small c.if-root.false c.in_ok-whole.ensures.valid (omega (arith, length-map c.args.events.now happened)) c.in_ok-put_events.ensures.fits
