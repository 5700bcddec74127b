use Rattle.std.proofs.Common.{subst}
use Rattle.history_file.specs.HistoryFile.{event}
use Rattle.history_file.specs.Owning.{seen_event}
use Rattle.history_mending.specs.Fronts.{Begins}
use Rattle.history_mending.proofs.Reading.{cannot_follow, is_full, room_of, full_of}
use Rattle.history_mending.proofs.events.taken.Goals as goal

pub returns-in-Some : goal.returns-in-Some
returns-in-Some c = λ seen rest knows is begins.
    cannot_follow c.args.beyond c.args.number seen rest c.args.behind.now c.args.known.now (seen_event c.args.next) c.in-Some.fault c.in-Some.ensures knows is begins

pub returns-then-not-is_within : goal.returns-then-not-is_within
returns-then-not-is_within c = λ seen rest knows is begins.
    is_full c.args.beyond c.args.number seen rest c.args.behind.now c.args.known.now (seen_event c.args.next) c.in_default.ensures knows is begins
    (full_of c.is_within.result c.args.number c.args.beyond seen c.args.behind.now c.is_within.ensures c.if-not-is_within.true is)

pub returns : goal.returns
returns c = λ seen rest knows is begins.
    let room = room_of c.is_within.result c.args.number c.args.beyond seen c.args.behind.now c.is_within.ensures c.if-not-is_within.false is in
    (subst (λ n. Begins (event n) (seen_event c.args.next) rest c.args.behind.now) is begins, c.in_default.ensures seen knows, room.0, room.1)
