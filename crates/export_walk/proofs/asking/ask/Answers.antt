use Rattle.std.proofs.Common.{◌≡◌, ℕ, List, subst}
use Rattle.nfs3_types.specs.Procedures.{procedure_called}
use Rattle.export_walk.specs.Noted.{IsAnswer}
use Rattle.export_walk.proofs.Steps.{are_messages}
use Rattle.export_walk.proofs.asking.ask.Goals as goal

pub returns : goal.returns
returns g c =
    let said : c.as_slice-2.result.now ≡ c.in_ok-told.told.items = c.as_slice-2.ensures.value in
    let answer = subst (λ (xs : List ℕ). IsAnswer (procedure_called c.args.call.now) xs c.in_ok-reply.reply) said c.in_ok-reply.ensures in
    are_messages c.args.who c.args.xid c.args.call.now c.in_ok-reply.reply _ _ c.new-message.result.items c.new-message.ensures.items c.in_ok-put_message.ensures.text c.in_ok-told.ensures answer
