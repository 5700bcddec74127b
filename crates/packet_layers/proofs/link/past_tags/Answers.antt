use Rattle.std.proofs.Common.{◌≡◌, true, false, sym, ◌∙◌, arith}
use Rattle.packet_layers.specs.Packets.{is_tag}
use Rattle.packet_layers.specs.Reading.{past_tags}
use Rattle.packet_layers.proofs.Chains.{tags_on, tags_stop, tags_cut, tags_end}
use Rattle.packet_layers.proofs.link.past_tags.Goals as goal

pub returns-then-not-is_tag : goal.returns-then-not-is_tag
returns-then-not-is_tag c =
    let answer : c.is_tag.result ≡ false = first_of (cc, grind arith) in
    tags_stop c.args.most c.loop.counter c.loop.kind c.loop.rest.now (past_tags c.args.most c.args.first c.args.bytes.now) c.loop-test.true (sym c.is_tag.ensures ∙ answer) c.loop.invariant

pub returns-in_default : goal.returns-in_default
returns-in_default c =
    let answer : c.is_tag.result ≡ true = first_of (cc, grind arith) in
    tags_cut c.args.most c.loop.counter c.loop.kind c.loop.rest.now (past_tags c.args.most c.args.first c.args.bytes.now) c.loop-test.true (sym c.is_tag.ensures ∙ answer) (first_of (omega (arith, c.in_default.ensures.none), grind arith)) c.loop.invariant

pub loop-preserved : goal.loop-preserved
loop-preserved c =
    let answer : c.is_tag.result ≡ true = first_of (cc, grind arith) in
    let parts = c.in-Some.ensures.some in
    rw c.short_at-kind.ensures (tags_on c.args.most c.loop.counter c.loop.kind c.loop.rest.now c.in-Some.parts.behind.now (past_tags c.args.most c.args.first c.args.bytes.now) c.loop-test.true (sym c.is_tag.ensures ∙ answer) parts.2 parts.1 c.loop.invariant)

pub returns : goal.returns
returns c = tags_end c.args.most c.loop.counter c.loop.kind c.loop.rest.now (past_tags c.args.most c.args.first c.args.bytes.now) c.loop-test.false c.loop.invariant
