-- For the prover, and for callers.
-- A history over two crashes, one without a crash, and one behind a start that is judged strictly, with plans to which the laws apply.
-- Their events are left out: a witness asks for none.
use Rattle.std.specs.Prelude.{◌≡◌, ℕ, ◌+◌, List, [], ◌∷◌, take, length, Some, None, true, IsTrue}
use Rattle.nfs3_types.specs.declared.attributes.WccData.{WccData}
use Rattle.nfs3_types.specs.declared.calls.CreateMode.TheVariants.{Exclusive}
use Rattle.nfs3_types.specs.declared.calls.StableHow.{StableHow}
use Rattle.nfs3_types.specs.declared.calls.StableHow.TheVariants.{Unstable, FileSync}
use Rattle.nfs3_types.specs.declared.calls.WriteArguments.{WriteArguments}
use Rattle.nfs3_types.specs.declared.calls.ReadArguments.{ReadArguments}
use Rattle.nfs3_types.specs.declared.calls.NfsCall.{NfsCall}
use Rattle.nfs3_types.specs.declared.calls.NfsCall.TheVariants as calls
use Rattle.nfs3_types.specs.declared.replies.Answer.TheVariants.{Done}
use Rattle.nfs3_types.specs.declared.replies.ReadSuccess.{ReadSuccess}
use Rattle.nfs3_types.specs.declared.replies.NfsReply.{NfsReply}
use Rattle.nfs3_types.specs.declared.replies.NfsReply.TheVariants as replies
use Rattle.nfs3_types.specs.declared.replies.Outcome.TheVariants.{Received}
use Rattle.tree_starts.specs.Head.{plain_head}
use Rattle.tree_starts.specs.Start.{IsStart}
use Rattle.tree_starts.specs.declared.object.StartObject.{StartObject}
use Rattle.tree_starts.specs.declared.object.StartNode.TheVariants as kinds
use Rattle.tree_starts.specs.declared.profile.Profile.TheVariants.{Strict}
use Rattle.nfs_history.specs.declared.recorded.Meaning.TheVariants.{Judged}
use Rattle.nfs_history.specs.declared.recorded.RecordedCall.{RecordedCall}
use Rattle.nfs_history.specs.declared.knowing.KnownCalls.{KnownCalls}
use Rattle.certificate.specs.declared.plan.Certificate.{Certificate}
use Rattle.certificate.specs.declared.plan.EraPlan.{EraPlan}
use Rattle.certificate.specs.declared.plan.Place.TheVariants.{Answered}
use Rattle.tree_nodes.specs.Tree.{Names}
use Rattle.tree_nodes.specs.Place as place
use Rattle.tree_laws.specs.Example.{of_size}
use Rattle.tree_laws.specs.FirstBytes.{ReadsFirst}
use Rattle.tree_laws.specs.ReadBack.{ReadsLater}
use Rattle.tree_laws.specs.StandsOn.{AllSpare}
use Rattle.cut_check.specs.Places.{bindings_of, effects_of}
use Rattle.cut_check.specs.Stable.{IsStableAt}
use Rattle.cut_check.specs.Verifier.{loses_write, Shows}
use Rattle.witness_check.specs.Run.{steps_of, base_of}
use Rattle.witness_check.specs.Witness.{IsWitness}
use Rattle.verdict_laws.specs.Attributes.{StandsAt}
use Rattle.verdict_laws.specs.Kept.{order_seen}

abbrev pub no_attributes : WccData
no_attributes = record { before = None; after = None }

-- a WRITE to the file that call 1 makes, and its reply
abbrev pub write_at : ℕ → StableHow → List ℕ → ℕ → WriteArguments
write_at offset level bytes count = record { file = 1 ∷ []; offset = offset; count = count; level = level; bytes = bytes }

abbrev pub wrote : ℕ → StableHow → ℕ → NfsReply
wrote count level verifier = replies.Write (Done (record { wcc = no_attributes; count = count; level = level; verifier = record { value = verifier } }))

-- call n, which was answered before the next one was sent
abbrev pub answered : ℕ → ℕ → NfsCall → NfsReply → RecordedCall
answered n era call reply = record {
  lane = 1;
  xid = n;
  meaning = Judged call;
  begin = n + n;
  «end» = Some (n + n + 1);
  era = era;
  outcome = Some (Received reply);
}

abbrev pub create : NfsCall
create = calls.Create (record { place = record { directory = 0 ∷ []; name = 102 ∷ [] }; mode = Exclusive (record { value = 7 }) })

abbrev pub created : NfsReply
created = replies.Create (Done (record { object = Some (1 ∷ []); attributes = None; wcc = no_attributes }))

abbrev pub read : ReadArguments
read = record { file = 1 ∷ []; offset = 0; count = 9 }

abbrev pub given : ReadSuccess
given = record { attributes = None; count = 4; eof = true; bytes = 120 ∷ 121 ∷ 122 ∷ 119 ∷ [] }

-- CREATE f; WRITE xyz to it, FILE_SYNC; WRITE a over x, UNSTABLE; a crash; WRITE w behind xyz, FILE_SYNC; WRITE b over x, UNSTABLE; a
-- crash; READ, which gives xyzw
abbrev pub recorded : List RecordedCall
recorded =
    answered 1 1 create created
    ∷ answered 2 1 (calls.Write (write_at 0 FileSync (120 ∷ 121 ∷ 122 ∷ []) 3)) (wrote 3 FileSync 7)
    ∷ answered 3 1 (calls.Write (write_at 0 Unstable (97 ∷ []) 1)) (wrote 1 Unstable 7)
    ∷ answered 4 2 (calls.Write (write_at 3 FileSync (119 ∷ []) 1)) (wrote 1 FileSync 8)
    ∷ answered 5 2 (calls.Write (write_at 0 Unstable (98 ∷ []) 1)) (wrote 1 Unstable 8)
    ∷ answered 6 3 (calls.Read read) (replies.Read (Done given)) ∷ []

abbrev pub history : KnownCalls
history = record { head = plain_head (0 ∷ []); eras = 3; calls = recorded }

-- each crash took the UNSTABLE WRITE of its era
abbrev pub first_era : EraPlan
first_era = record { places = Answered 1 ∷ Answered 2 ∷ Answered 3 ∷ []; cut = Some 2 }

abbrev pub second_era : EraPlan
second_era = record { places = Answered 4 ∷ Answered 5 ∷ []; cut = Some 1 }

abbrev pub last_era : EraPlan
last_era = record { places = Answered 6 ∷ []; cut = None }

abbrev pub plan : Certificate
plan = record { binds = record { handle = 1 ∷ []; object = 1 } ∷ []; eras = first_era ∷ second_era ∷ last_era ∷ [] }

-- the first two of these calls, where no crash follows
abbrev pub quiet_history : KnownCalls
quiet_history = record { head = plain_head (0 ∷ []); eras = 1; calls = take 2 recorded }

abbrev pub quiet_plan : Certificate
quiet_plan = record { binds = plan.binds; eras = record { places = Answered 1 ∷ Answered 2 ∷ []; cut = None } ∷ [] }

-- ---- behind a start, under the strict profile

-- the file a with the bytes abc
abbrev pub first_file : StartObject
first_file = record { parent = 0; name = 97 ∷ []; node = kinds.File (97 ∷ 98 ∷ 99 ∷ []) }

abbrev pub its_path : Names
its_path = (97 ∷ []) ∷ []

abbrev pub told : ReadSuccess
told = record { attributes = Some (of_size 3); count = 3; eof = true; bytes = 97 ∷ 98 ∷ 99 ∷ [] }

-- READ a, which gives abc; GETATTR a, which is three bytes long
abbrev pub strict_history : KnownCalls
strict_history = record {
  head = record { root = 0 ∷ []; start = first_file ∷ []; profile = Strict };
  eras = 1;
  calls = answered 1 1 (calls.Read read) (replies.Read (Done told)) ∷ answered 2 1 (calls.GetAttr (1 ∷ [])) (replies.GetAttr (Done (of_size 3))) ∷ [];
}

abbrev pub strict_era : EraPlan
strict_era = record { places = Answered 1 ∷ Answered 2 ∷ []; cut = None }

abbrev pub strict_plan : Certificate
strict_plan = record { binds = plan.binds; eras = strict_era ∷ [] }

-- ---- all of it

-- the plans are witnesses. Of the one over crashes the second place is stable; two eras lost a WRITE, and each shows a verifier; and
-- the READ stands behind the first WRITE, over both crashes, with no call left in between that wrote over its first byte. Of the strict
-- one the READ is of the file that stood at first, of which all bytes are as they were, and no call is to change its path; both calls
-- stand at places with their replies
pub record LawsApply : Type 0 where
  pub begins : IsStart history.head.start
  pub quiet : IsWitness quiet_history quiet_plan
  pub witness : IsWitness history plan
  pub stable : IsStableAt (effects_of (bindings_of history.head.root plan.binds) history.calls first_era.places) 2
  pub first_lost : IsTrue (loses_write history.calls first_era)
  pub second_lost : IsTrue (loses_write history.calls second_era)
  pub first_shows : Shows history.calls first_era.places 7
  pub second_shows : Shows history.calls second_era.places 8
  pub read_later : ReadsLater history.head.profile history.head.start (bindings_of history.head.root plan.binds) (steps_of history.calls (order_seen (first_era ∷ second_era ∷ []) last_era))
      (write_at 0 FileSync (120 ∷ 121 ∷ 122 ∷ []) 3) read given 0
  pub starts : IsStart strict_history.head.start
  pub strict : IsWitness strict_history strict_plan
  pub judged : strict_history.head.profile ≡ Strict
  pub read_first : ReadsFirst Strict strict_history.head.start (bindings_of strict_history.head.root strict_plan.binds) (steps_of strict_history.calls (order_seen [] strict_era))
      (97 ∷ 98 ∷ 99 ∷ []) read told 2
  pub stood : place.path_of (base_of strict_history) 1 ≡ Some its_path
  pub spared : AllSpare Strict (length strict_history.head.start) (bindings_of strict_history.head.root strict_plan.binds) its_path (base_of strict_history)
      (steps_of strict_history.calls (order_seen [] strict_era))
  pub was_read : StandsAt strict_history strict_plan (calls.Read read) (replies.Read (Done told)) (base_of strict_history)
  pub was_told : StandsAt strict_history strict_plan (calls.GetAttr (1 ∷ [])) (replies.GetAttr (Done (of_size 3))) (base_of strict_history)
