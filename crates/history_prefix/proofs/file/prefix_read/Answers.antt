use Rattle.std.proofs.Common.{◌≡◌, Some, length, sym, ap}
use Rattle.history_file.specs.FileReading.{version_of}
use Rattle.history_prefix.proofs.Versions.{first_plain, prefix_made}
use Rattle.history_prefix.proofs.file.prefix_read.Goals as goal

pub file_as-requires : goal.file_as-requires
file_as-requires c = λ first.
    let of_bytes : version_of c.args.bytes.now ≡ Some c.in-Some.version = sym c.in-Some.ensures in
    rw c.in-Ok.ensures.found.known.head (first_plain c.args.bytes.now c.args.front.now c.in-Some.version c.requires.of_first of_bytes first)

pub returns-in_ok-file_as-in-Ok-clause-prefix : goal.returns-in_ok-file_as-in-Ok-clause-prefix
returns-in_ok-file_as-in-Ok-clause-prefix c =
    let of_bytes : version_of c.args.bytes.now ≡ Some c.in-Some.version = sym c.in-Some.ensures in
    prefix_made c.args.bytes.now c.args.front.now c.in-Some.version c.args.last c.in-Ok.part _ c.requires of_bytes c.in-Ok.ensures.found c.in-Ok.ensures.bare
    c.in_ok-file_as-in-Ok.ensures.spelled c.in_ok-file_as-in-Ok.ensures.text (ap length c.events.ensures.shown)
