use Rattle.xdr_records.proofs.Splitting.{unfinished_no_record, framed_split}
use Rattle.xdr_records.proofs.Feeding.{one_split, one_stop, one_of_both}
use Rattle.xdr_records.proofs.marked.records_are_split_one_way.Goals as goal

pub returns : goal.returns
returns c = record { split = one_split; too_long = one_stop; not_both = one_of_both; no_whole_front = unfinished_no_record; framed = framed_split }
