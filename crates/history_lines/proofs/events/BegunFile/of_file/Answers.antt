-- What stands behind the magic is the file's.
use Rattle.std.proofs.Common.{◌≡◌, ◌-◌, length, take, drop, sym, ◌∙◌, arith}
use Rattle.std.proofs.lemmas.Slice.{between_to_end}
use Rattle.history_lines.proofs.LeftLaws.{found_of, fault_of}
use Rattle.history_lines.proofs.events.BegunFile.of_file.Goals as goal

pub returns-clause-found : goal.returns-clause-found
returns-clause-found c =
    let bytes = c.args.bytes.now in
    let body : take (length bytes - 8) (drop 8 bytes) ≡ drop 8 bytes = between_to_end bytes 8 (length bytes) (omega arith) in
    found_of bytes (take (length bytes - 8) (drop 8 bytes)) c.in-Some.version c.in_body.result body (sym c.version_of.ensures ∙ c.in-Some.is) c.if-bytes-gt-HISTORY_LIMIT.false c.in_body.ensures.found

pub returns-clause-fault : goal.returns-clause-fault
returns-clause-fault c =
    let bytes = c.args.bytes.now in
    let body : take (length bytes - 8) (drop 8 bytes) ≡ drop 8 bytes = between_to_end bytes 8 (length bytes) (omega arith) in
    fault_of bytes (take (length bytes - 8) (drop 8 bytes)) c.in-Some.version c.in_body.result body (sym c.version_of.ensures ∙ c.in-Some.is) c.if-bytes-gt-HISTORY_LIMIT.false c.in_body.ensures.fault
