use Rattle.std.proofs.Common.{◌≡◌, ℕ, List, sym, subst}
use Rattle.rpc_connection.specs.Answers.{IsReplyTo}
use Rattle.mount_client.proofs.Told.{root_told}
use Rattle.mount_client.proofs.mounting.mount.Goals as goal

pub returns : goal.returns
returns g c =
    let said : c.as_slice-2.result.now ≡ c.in_ok-reply.reply.items = c.as_slice-2.ensures.value in
    root_told c.as_slice-2.result.now c.root_in.result (subst (λ (xs : List ℕ). IsReplyTo 1 xs) (sym said) c.in_ok-reply.ensures) c.root_in.ensures
