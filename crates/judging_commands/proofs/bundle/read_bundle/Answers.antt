use Rattle.std.proofs.Common.{◌+◌, length, sym, arith}
use Rattle.std.proofs.lemmas.Slice.{between_to_end}
use Rattle.judging_commands.proofs.FirstLine.{IsBundle-from_line, no_bundle-other, no_bundle-without}
use Rattle.judging_commands.proofs.bundle.read_bundle.Goals as goal

pub returns-in_default-clause-malformed : goal.returns-in_default-clause-malformed
returns-in_default-clause-malformed c = λ _ some. no_bundle-without c.args.bytes.now (sym c.in_default.ensures.first) some

pub returns-in-Err-Malformed-clause-malformed : goal.returns-in-Err-Malformed-clause-malformed
returns-in-Err-Malformed-clause-malformed c =
    λ _ some. no_bundle-other c.args.bytes.now c.in-Some.end (sym c.in-Some.ensures.first) (c.in-Err-Malformed.ensures.malformed (cc)) some

pub returns-in-Ok-clause-ok : goal.returns-in-Ok-clause-ok
returns-in-Ok-clause-ok c =
    rw (between_to_end c.args.bytes.now (c.in-Some.end + 1) (length c.args.bytes.now) (omega arith))
    (IsBundle-from_line c.args.bytes.now c.in-Ok.history.items c.in-Some.end (sym c.in-Some.ensures.first) c.in-Ok.ensures.bytes c.in-Ok.ensures.spelled)
