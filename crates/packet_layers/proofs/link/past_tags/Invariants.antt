use Rattle.std.proofs.Common.{◌≡◌, ◌-◌}
use Rattle.packet_layers.specs.Reading.{past_tags}
use Rattle.packet_layers.proofs.link.past_tags.Given as goal

abbrev pub invariant-loop : goal.invariant-loop
invariant-loop l = past_tags (l.most - l.counter) l.kind l.rest ≡ past_tags l.most l.first l.bytes
