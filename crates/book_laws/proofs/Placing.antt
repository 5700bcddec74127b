-- each step of a book keeps that its replies are served
use Rattle.std.proofs.Common.{◌≡◌, ◌≢◌, ℕ, suc, Bool, true, false, List, [], ◌∷◌, ◌++◌, Option, Some, None, refl, sym, ap, ◌∙◌, subst, arith}
use Rattle.std.specs.Prelude.{is_some, if◌then◌else◌}
use Rattle.nfs3_types.specs.declared.replies.NfsReply.{NfsReply}
use Rattle.nfs3_types.specs.declared.replies.Outcome.TheVariants.{Received}
use Rattle.nfs3_types.specs.declared.status.Failure.{Failure}
use Rattle.nfs3_types.specs.Procedures.{failure_in}
use Rattle.replay_law.specs.Run.{state_after, kept_steps}
use Rattle.tree_starts.specs.Head.{Head}
use Rattle.tree_nodes.specs.Tree.{Tree, entry_of}
use Rattle.tree_nodes.proofs.Chains.{absent}
use Rattle.file_tree.proofs.Profiles.{comes_out_plain}
use Rattle.tree_laws.proofs.Kept.{failure_leaves}
use Rattle.book_laws.specs.Served.{IsServed, serves}
use Rattle.book_laws.specs.Placing.{Placed}
use Rattle.book_laws.specs.Book.{Book, bindings_made, setting, setting_made, object_in, next_by, tree_at_first}
use Rattle.book_laws.specs.Steps.{with_made, with_object, step_of, Places, Steps}
use Rattle.book_laws.specs.Steps.Steps.{begins, places, flushes, answers, closes, crashes, refuses}
use Rattle.book_laws.proofs.Invariant.{IsInvariant}
use Rattle.book_laws.proofs.Starting.{call_alone}
use Rattle.book_laws.proofs.Handles.{agree_but}
use Rattle.book_laws.proofs.Bound.{run_same}
use Rattle.book_laws.proofs.Agreed.{full_too}
use Rattle.book_laws.proofs.Newcomer.{apart_eras, others, isnt_zero, apart_kept, own_absent}
use Rattle.book_laws.proofs.Serving.{IsServedStep, AllServed, all_served_more, all_served_over, all_served_same}

-- all replies of its eras are
abbrev pub IsServing : Book → Type 0
IsServing book = AllServed (setting book) (tree_at_first book) book.over book.placed

module _ (book : Book) (i : IsInvariant book) (number : ℕ) (reply : NfsReply) (new : Book) (p : Places book number reply new) (a : IsServing book) where
  abbrev this : Placed
  this = step_of number p.call reply

  abbrev head : Head
  head = book.history.known.head

  abbrev own : ℕ
  own = object_in book number

  -- the objects that were made, where it made one or none
  abbrev made_by : Bool → List ℕ
  made_by b = if b then with_object own book.made else book.made

  -- a call that made an object succeeded
  made_done : is_some (entry_of p.after own) ≡ true → (failure : Failure) → failure_in reply ≡ Some failure → ⊥
  made_done is failure failed =
      let plainly = comes_out_plain head.profile (bindings_made (with_made own p.after book.made)) p.before p.after own p.call (Received reply) p.next in
      let same = failure_leaves (bindings_made (with_made own p.after book.made)) p.before p.after own p.call reply failure failed plainly in
      absent (entry_of p.after own) (ap (λ (t : Tree). entry_of t own) same ∙ own_absent book i number reply new p) is

  served_now : (b : Bool) → is_some (entry_of p.after own) ≡ b → IsServed (bindings_made (made_by b)) p.before own p.call reply
  served_now false is = p.served
  served_now true is = go (failure_in reply) refl p.served where
    apart : suc own ≢ own
    apart e = omega (arith, e)

    go : (o : Option Failure) → failure_in reply ≡ o → serves (bindings_made book.made) p.before own p.call reply o → serves (bindings_made (with_object own book.made)) p.before own p.call reply o
    go None none full =
        full_too (bindings_made book.made) (bindings_made (with_object own book.made)) p.before (suc own)
        (agree_but own book.made p.numbered (others book i number reply new p) p.before (suc own) apart (own_absent book i number reply new p)) p.call reply full
    go (Some failure) failed cause = absurd (made_done is failure failed)

  -- its reply is the one that it was placed with
  step_served : (b : Bool) → is_some (entry_of p.after own) ≡ b → IsServedStep (setting_made head (made_by b)) p.before this
  step_served b is other came = subst (IsServed (bindings_made (made_by b)) p.before own p.call) (one came) (served_now b is) where
    one : Received reply ≡ Received other → reply ≡ other
    one e = cc

  served_before : (b : Bool) → AllServed (setting_made head (made_by b)) (tree_at_first book) book.over book.placed
  served_before false = a
  served_before true =
      all_served_same head number book.made p.numbered (others book i number reply new p) book.over book.placed (apart_eras book i number reply new p) p.unplaced (tree_at_first book)
      (call_alone head.start i.start number (isnt_zero book i number reply new p)) a

  stood_now : (b : Bool) → state_after (next_by (setting_made head (made_by b))) (tree_at_first book) (kept_steps book.over ++ book.placed) ≡ Some p.before
  stood_now false = p.stood
  stood_now true =
      sym (run_same head number book.made p.numbered (others book i number reply new p) (kept_steps book.over ++ book.placed) (apart_kept book i number reply new p) (tree_at_first book)
      (call_alone head.start i.start number (isnt_zero book i number reply new p)))
      ∙ p.stood

  placed_serving : (b : Bool) → is_some (entry_of p.after own) ≡ b → AllServed (setting_made head (made_by b)) (tree_at_first book) book.over (book.placed ++ this ∷ [])
  placed_serving b is = all_served_more (setting_made head (made_by b)) p.before this (step_served b is) book.over book.placed (tree_at_first book) (stood_now b) (served_before b)

  pub after_place : IsServing new
  after_place = subst IsServing (sym p.done) (placed_serving (is_some (entry_of p.after own)) refl)

pub serving_on : (book new : Book) → IsInvariant book → IsServing book → Steps book new → IsServing new
serving_on book new i a (begins lane message b) = subst IsServing (sym b.done) a
serving_on book new i a (places number reply p) = after_place book i number reply new p a
serving_on book new i a (flushes f) = subst IsServing (sym f.done) a
serving_on book new i a (answers number t) = subst IsServing (sym t.done) a
serving_on book new i a (closes lane c) = subst IsServing (sym c.done) a
serving_on book new i a (crashes keep c) = subst IsServing (sym c.done) (all_served_over (setting book) book.over book.placed _ (tree_at_first book) a)
serving_on book new i a (refuses r) = subst IsServing (sym r.done) a
