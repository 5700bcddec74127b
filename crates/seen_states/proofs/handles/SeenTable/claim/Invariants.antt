use Rattle.std.proofs.Common.{◌≡◌, ◌≢◌, ◌<◌}
use Rattle.seen_states.specs.Seen.{IsTold, word_at}
use Rattle.seen_states.specs.Handles.{IsOf, known, word_count}
use Rattle.seen_states.proofs.handles.SeenTable.claim.Given as goal

-- so many words were found to hold other fingerprints
abbrev pub invariant-loop-place : goal.invariant-loop-place
invariant-loop-place l = record {
  of_this_table : IsOf l.claimer l.self;
  word : l.place < l.count → l.word ≡ word_at (word_count l.self) l.fingerprint l.place;
  new : (known l.claimer).new_answers ≡ (known l.initial.claimer).new_answers;
  seen : (known l.claimer).seen_answers ≡ (known l.initial.claimer).seen_answers;
  begun : l.place ≢ 0 → ((known l.claimer).fingerprint ≡ l.fingerprint) × ((known l.claimer).probed ≡ l.place);
  told : l.place ≡ l.count → ¬ IsTold l.fingerprint (known l.initial.claimer);
}

abbrev pub ghosts-probe : goal.ghosts-probe
ghosts-probe a = record { fingerprint = a.fingerprint; place = a.place; count = a.self.now.table.shared.table_id.words }
