use Rattle.std.proofs.Common.{◌≡◌, ℕ, ◌+◌, ◌-◌, List, [], length, sym, ap, ◌∙◌}
use Rattle.xdr_records.specs.Items.{padded}
use Rattle.history_file.specs.Limits.{history_limit}
use Rattle.history_file.specs.Writing.{file_text}
use Rattle.nfs_tap.proofs.RoomLeft.{length-head}
use Rattle.nfs_tap.proofs.room.left_behind_head.Goals as goal

pub returns : goal.returns
returns c =
    let root = c.args.root.now in
    let same : c.padded.result ≡ padded (length root) = c.padded.ensures ∙ ap (λ (l : List ℕ). padded (length l)) c.as_slice.ensures.value in
    let head : 16 + c.padded.result ≡ length (file_text root []) = ap (λ n. 16 + n) same ∙ sym (length-head root) in
    ap (λ n. history_limit - n) head
