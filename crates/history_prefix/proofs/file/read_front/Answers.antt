use Rattle.std.proofs.Common.{◌≡◌, ◌∙◌, sym, ap, take}
use Rattle.std.proofs.lemmas.List.{take-map}
use Rattle.history_file.specs.Owning.{happened, all_happened, all_seen, recording_value}
use Rattle.nfs_history.proofs.HistoryLaws.{root_small}
use Rattle.history_prefix.proofs.Fronts.{first_built}
use Rattle.history_prefix.proofs.file.read_front.Goals as goal

pub from_slice-requires : goal.from_slice-requires
from_slice-requires c = root_small c.args.bytes.now (recording_value c.in_ok-seen.seen) c.in_ok-seen.ensures.found

pub returns : goal.returns
returns c =
    let root = c.in_ok-root.ensures in
    let start = c.in_ok-start.ensures in
    let count = c.in_ok-count.count in
    let events = c.in_ok-events.ensures ∙ ap all_seen c.as_slice-2.ensures.value in
    let cut : all_happened c.truncate.new.self.items ≡ take count (all_seen c.in_ok-seen.seen.events.items) = ap all_happened c.truncate.ensures.items ∙ (sym (take-map happened count c.in_ok-events.events.items) ∙ ap (take count) events) in
    first_built c.args.bytes.now (recording_value c.in_ok-seen.seen) count c.build_from.result c.in_ok-seen.ensures.found (rw (root, start, cut) at c.build_from.ensures.found) c.build_from.ensures.bare
