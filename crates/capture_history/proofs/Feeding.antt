-- What a feed that took all of a stream at once holds.
use Rattle.std.proofs.Common.{◌≡◌, ℕ, List, subst, sym, inl, inr}
use Rattle.xdr_records.specs.Record.{IsSplit, IsUnfinished}
use Rattle.xdr_records.specs.Feed.{Feed, fresh, Grows, Breaks}
use Rattle.capture_history.specs.Streams.{AreRecordsOf}

pub all_fed : (old : Feed) (bytes : List ℕ) (new : Feed) → old ≡ fresh → Grows old bytes new → AreRecordsOf bytes new.waiting
all_fed old bytes new first grows =
    let grown : Grows fresh bytes new = subst (λ (f : Feed). Grows f bytes new) first grows in
    (new.rest, inl (subst (λ (records : List (List ℕ)). IsSplit IsUnfinished bytes records new.rest) (sym grown.waiting) grown.split))

pub fed_too_long : (old : Feed) (bytes : List ℕ) (new : Feed) → old ≡ fresh → Breaks old bytes new → AreRecordsOf bytes new.waiting
fed_too_long old bytes new first breaks =
    let broken : Breaks fresh bytes new = subst (λ (f : Feed). Breaks f bytes new) first breaks in
    rw broken.now (broken.stop, inr broken.split)
