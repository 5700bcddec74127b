use Rattle.std.proofs.Common.{◌≡◌, ◌-◌}
use Rattle.packet_layers.specs.Reading.{past_options}
use Rattle.packet_layers.proofs.network.past_options.Given as goal

abbrev pub invariant-loop : goal.invariant-loop
invariant-loop l = past_options (l.most - l.counter) l.kind l.rest ≡ past_options l.most l.first l.bytes
