use Rattle.xdr_records.proofs.Written.{word_spelled, long_spelled, flag_spelled, fixed_spelled, opaque_spelled}
use Rattle.xdr_records.proofs.spelled.texts_are_spelled.Goals as goal

pub returns : goal.returns
returns c = record { words = word_spelled; longs = long_spelled; flags = flag_spelled; fixed = fixed_spelled; opaques = opaque_spelled }
