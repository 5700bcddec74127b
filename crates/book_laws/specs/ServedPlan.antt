-- Believed.
-- A plan whose replies are as full as can be: a server that serves as fully as it can may have given each of them (such a server is this
-- project's own: `IsServed`).
use Rattle.std.specs.Prelude.{◌≡◌, ℕ, List, ◌∷◌, ◌++◌, length, Some}
use Rattle.std.specs.List.{AllByRecursion}
use Rattle.nfs3_types.specs.declared.calls.NfsCall.{NfsCall}
use Rattle.nfs3_types.specs.declared.replies.NfsReply.{NfsReply}
use Rattle.nfs3_types.specs.declared.replies.Outcome.{Outcome}
use Rattle.nfs3_types.specs.declared.replies.Outcome.TheVariants.{Received}
use Rattle.tree_starts.specs.Start.{IsStart, object_made}
use Rattle.tree_starts.specs.declared.object.StartObject.{StartObject}
use Rattle.tree_starts.specs.declared.profile.Profile.{Profile}
use Rattle.nfs_history.specs.declared.knowing.KnownCalls.{KnownCalls}
use Rattle.certificate.specs.declared.plan.Certificate.{Certificate}
use Rattle.cut_check.specs.Places.{bindings_of}
use Rattle.replay_law.specs.Run.{TakenStep, Era, state_after, kept_steps}
use Rattle.tree_nodes.specs.Tree.{Tree}
use Rattle.witness_check.specs.Run.{eras_of, next_of, base_of}
use Rattle.book_laws.specs.Served.{IsServed}
use Rattle.book_laws.specs.Book.{Book}
use Rattle.book_laws.specs.Plan.{plan_of}
use Rattle.book_laws.specs.Steps.{opening_book, IsRun}

-- each reply that came, at a place of an era, is one that such a server may give in the tree ahead of the place: the tree to which the places
-- lead that the eras ahead of this one kept, and behind these the places ahead of it in its era
abbrev pub EachServed : KnownCalls → Certificate → Type 0
EachServed history plan =
    (ahead behind : List (Era NfsCall Outcome)) (era : Era NfsCall Outcome) (before after : List (TakenStep NfsCall Outcome)) (step : TakenStep NfsCall Outcome) (reply : NfsReply) (tree : Tree)
    → eras_of history plan ≡ ahead ++ era ∷ behind → era.steps ≡ before ++ step ∷ after → step.outcome ≡ Received reply
    → state_after (next_of history plan) (base_of history) (kept_steps ahead ++ before) ≡ Some tree
    → IsServed (bindings_of history.head.root plan.binds) tree (object_made (length history.head.start) step.number) step.call reply

-- ---- for the prover, and for callers

-- the replies of the book's own certificate
abbrev pub IsServedBook : Book → Type 0
IsServedBook book = EachServed book.history.known (plan_of book)

-- ahead of all steps and after each, also where crashes took places away, whatever stood at first and however strictly it is judged
abbrev pub EveryReplyIsServed : Type 0
EveryReplyIsServed =
    (profile : Profile) (start : List StartObject) (faults : ℕ) (books : List Book) → IsStart start → IsRun (opening_book profile start faults) books
    → IsServedBook (opening_book profile start faults) × AllByRecursion IsServedBook books
