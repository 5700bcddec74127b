use Rattle.std.proofs.Common.{◌≤◌, length, drop, ◌∙◌, sym, arith}
use Rattle.std.proofs.lemmas.List.{length-take-le, length-drop}
use Rattle.xdr_records.proofs.Splitting.{word_between}
use Rattle.xdr_records.proofs.seam.Seam.header.Goals as goal

pub returns : goal.returns
returns c =
    let xs = c.args.self.now in
    let word = word_between xs c.args.at c.byte.result c.byte-2.result c.byte-3.result c.byte-4.result c.byte.ensures c.byte-2.ensures c.byte-3.ensures c.byte-4.ensures in
    let room : 4 ≤ length (drop c.args.at xs) = let e = length-drop c.args.at xs in omega (arith, c.requires) in
    record {
      word = record {
        four = length-take-le 4 (drop c.args.at xs) room;
        value = word ∙ sym c.read_u32.ensures ∙ sym c.parts_of.ensures.sum;
      };
      small = c.parts_of.ensures.small;
    }
