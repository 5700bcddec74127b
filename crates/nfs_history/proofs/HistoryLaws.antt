-- What is read of a file is a history.
use Rattle.std.proofs.Common.{◌≤◌, ℕ, List, length, subst}
use Rattle.xdr_records.specs.Spelling.{Spells}
use Rattle.history_file.specs.declared.version.Version.{Version}
use Rattle.history_file.specs.declared.version.Version.TheVariants.{First, Second}
use Rattle.history_file.specs.Event.{Recording}
use Rattle.history_file.specs.HistoryFile.{HistoryFile, recording}

-- a root handle has at most 64 bytes
root_within : (version : Version) (bytes : List ℕ) (seen : Recording) → Spells (recording version) bytes seen → length seen.head.root ≤ 64
unfolding recording
root_within First bytes seen h =
    let same = h.1.others.1.others.1.others.1 in
    subst (λ (s : Recording). length s.head.root ≤ 64) same h.1.first.within
root_within Second bytes seen h =
    let same = h.1.others.1.others.1.others.1.others.1.others.1.others.1 in
    subst (λ (s : Recording). length s.head.root ≤ 64) same h.1.first.within

pub root_small : (bytes : List ℕ) (seen : Recording) → HistoryFile bytes seen → length seen.head.root ≤ 64
root_small bytes seen file = root_within file.version file.body seen file.spelled
