use Rattle.std.proofs.Common.{subst}
use Rattle.std.specs.Prelude.{Result}
use Rattle.packet_layers.specs.declared.passed.PassedOver.{PassedOver}
use Rattle.packet_layers.specs.Packets.{Told}
use Rattle.packet_layers.specs.Reading.{Gives, told}
use Rattle.packet_layers.proofs.Segments.{segment_again, is_found}
use Rattle.packet_layers.proofs.segment.segment_of.Goals as goal

pub returns-clause-found : goal.returns-clause-found
returns-clause-found c = is_found c.args.packet.now.link c.args.packet.now.bytes.now c.segment_in_packet.result c.segment_in_packet.ensures

pub returns-clause-only : goal.returns-clause-only
returns-clause-only c = λ segment stands. subst (λ (read : Result Told PassedOver). Gives told c.segment_in_packet.result read) (segment_again c.args.packet.now.link c.args.packet.now.bytes.now segment stands) c.segment_in_packet.ensures
