use Rattle.std.proofs.Common.{◌≡◌, true, sym, ◌∙◌, arith, rules}
use Rattle.nfs_tap.proofs.Headers.{header_is}
use Rattle.nfs_tap.proofs.front.announced.Goals as goal

pub returns-clause-header : goal.returns-clause-header
returns-clause-header c =
    let begins : c.starts_with.result ≡ true = search rules in
    header_is c.args.bytes.now c.to_be_bytes.result c.header_word-word.result _ c.to_be_bytes.ensures (sym begins ∙ c.starts_with.ensures.value) (omega arith)
