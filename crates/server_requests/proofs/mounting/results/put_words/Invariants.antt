use Rattle.std.proofs.Common.{◌≡◌, ◌++◌, flat_map, take}
use Rattle.xdr_records.specs.Texts.{word_text}
use Rattle.server_requests.proofs.mounting.results.put_words.Given as goal

-- the words so far are put
abbrev pub invariant-loop-word : goal.invariant-loop-word
invariant-loop-word l = l.out.items ≡ l.fn.out.items ++ flat_map word_text (take l.word-index l.words)
