use Rattle.std.proofs.Common.{◌≡◌, ◌<◌, ◌+◌, ◌*◌, true, false, length, sym, ap, subst, ◌∙◌, ℕ, arith}
use Rattle.std.specs.Prelude.{Option}
use Rattle.packet_layers.specs.Packets.{byte, is_option}
use Rattle.packet_layers.specs.Reading.{past_options}
use Rattle.packet_layers.proofs.Chains.{options_on, options_stop, options_cut, options_end}
use Rattle.packet_layers.proofs.network.past_options.Goals as goal

pub returns-then-not-is_option : goal.returns-then-not-is_option
returns-then-not-is_option c =
    let answer : c.is_option.result ≡ false = first_of (cc, grind arith) in
    options_stop c.args.most c.loop.counter c.loop.kind c.loop.rest.now (past_options c.args.most c.args.first c.args.bytes.now) c.loop-test.true (sym c.is_option.ensures ∙ answer) c.loop.invariant

pub returns-then-rest-lt2 : goal.returns-then-rest-lt2
returns-then-rest-lt2 c =
    let answer : c.is_option.result ≡ true = first_of (cc, grind arith) in
    let short_of : length c.loop.rest.now < byte 1 c.loop.rest.now * 8 + 8 = omega arith in
    options_cut c.args.most c.loop.counter c.loop.kind c.loop.rest.now (past_options c.args.most c.args.first c.args.bytes.now) c.loop-test.true (sym c.is_option.ensures ∙ answer) short_of c.loop.invariant

pub returns-in_default : goal.returns-in_default
returns-in_default c =
    let answer : c.is_option.result ≡ true = first_of (cc, grind arith) in
    let short_of : length c.loop.rest.now < byte 1 c.loop.rest.now * 8 + 8 = first_of (omega (arith, c.in_default.ensures.none), grind arith) in
    options_cut c.args.most c.loop.counter c.loop.kind c.loop.rest.now (past_options c.args.most c.args.first c.args.bytes.now) c.loop-test.true (sym c.is_option.ensures ∙ answer) short_of c.loop.invariant

pub loop-preserved : goal.loop-preserved
loop-preserved c =
    let answer : c.is_option.result ≡ true = first_of (cc, grind arith) in
    let parts = c.in-Some.ensures.some in
    rw c.from-kind-in-loop.ensures (options_on c.args.most c.loop.counter c.loop.kind c.loop.rest.now c.in-Some.parts.behind.now (past_options c.args.most c.args.first c.args.bytes.now) c.loop-test.true (sym c.is_option.ensures ∙ answer) parts.2 parts.1 c.loop.invariant)

pub returns : goal.returns
returns c = options_end c.args.most c.loop.counter c.loop.kind c.loop.rest.now (past_options c.args.most c.args.first c.args.bytes.now) c.loop-test.false c.loop.invariant
