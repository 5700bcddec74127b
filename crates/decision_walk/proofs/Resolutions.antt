-- open WRITEs in trees: none, one that is placed, one whose count is chosen, and calls that come to none
use Rattle.std.proofs.Common.{◌≡◌, ℕ, ◌≤◌, false, cond, List, [], Option, Some, None, refl, sym, ap, ◌∙◌, subst, eq-eqb, arith}
use Rattle.std.specs.Prelude.{◌==◌, IfSome, option_map, map}
use Rattle.nfs3_types.specs.declared.calls.NfsCall.{NfsCall}
use Rattle.nfs3_types.specs.declared.calls.NfsCall.TheVariants as calls
use Rattle.nfs3_types.specs.declared.calls.WriteArguments.{WriteArguments}
use Rattle.nfs3_types.specs.declared.replies.Outcome.{Outcome}
use Rattle.nfs3_types.specs.declared.replies.Outcome.TheVariants.{Taken}
use Rattle.nfs_history.specs.declared.knowing.KnownCalls.{KnownCalls}
use Rattle.tree_starts.specs.declared.profile.Profile.TheVariants.{Plain}
use Rattle.tree_nodes.specs.Tree.{Tree}
use Rattle.tree_nodes.specs.Numbered.{IsNumbered}
use Rattle.tree_handles.specs.Binding.{Bindings, object_of}
use Rattle.file_tree.specs.Success.{next_tree}
use Rattle.alike_calls.specs.Alike.{Alike, LeavesObject, with_bytes, object_touched}
use Rattle.alike_calls.specs.Writes.{IsFree, IsCountOf, written_so, with_write}
use Rattle.alike_calls.proofs.Going.{goes, bytes_filled}
use Rattle.alike_calls.proofs.WritesSame.{same_on_files, nothing_open}
use Rattle.alike_calls.proofs.WritesOpen.{opened, resolved}
use Rattle.decision_steps.specs.Standing.{Standing}
use Rattle.decision_walk.specs.declared.open_writes.OpenWrite.{OpenWrite}
use Rattle.decision_walk.specs.View.{KeptView}
use Rattle.decision_walk.specs.Opening.{write_of, filled, IsOpen, HasWritten, HasWrittenBase, is_open, open_at, of_others, IsInserted, narrowed_write}
use Rattle.decision_walk.specs.Placings.{narrowed_kept}
use Rattle.decision_walk.specs.Resolving.{HasWrote, is_open_base}
use Rattle.decision_walk.proofs.Filling.{none_of_others, each_other, each_more, each_mapped, filled_none, filled_one, filled_more, counted, filled_counted, filled_narrowed, open_counted, open_narrowed}

module _ (known : KnownCalls) (binds : Bindings) where
  -- ---- where none is open

  pub none_written : (counts : ℕ → ℕ) (tree : Tree) → HasWritten known binds counts [] tree tree
  none_written counts tree = record { each = tt; alike = (nothing_open (filled known counts []) (λ object held. refl) tree).1 }

  pub none_is_same : (counts : ℕ → ℕ) (tree other : Tree) → HasWritten known binds counts [] tree other → other ≡ tree
  none_is_same counts tree other has = (nothing_open (filled known counts []) (λ object held. refl) tree).0 other has.alike

  -- ---- one whose count is chosen

  pub one_resolved : (counts : ℕ → ℕ) (writes : List OpenWrite) (stands next : Standing) (other : Tree) (one : OpenWrite) (object : ℕ) → open_at writes object ≡ Some one
      → HasWrote known one.call object (counts one.call) stands next → HasWritten known binds counts writes stands.tree other
      → HasWritten known binds counts (of_others writes object) next.tree other
  one_resolved counts writes stands next other one object found wrote has = record {
    each = each_other (IsOpen known binds counts) writes object has.each;
    alike = (resolved bytes stands.binds stands.tree other object wrote.write free wrote.number (counts one.call) opened_alike).wrote next.tree wrote.leads;
  } where
    bytes : ℕ → List ℕ → List ℕ
    bytes = filled known counts (of_others writes object)

    free : IsFree bytes stands.binds stands.tree object wrote.write
    free = record { stays = filled_none known counts (of_others writes object) object (none_of_others writes object); named = wrote.named; numbered = wrote.numbered }

    opened_alike : Alike (with_bytes (with_write bytes object wrote.write (counts one.call))) stands.tree other
    opened_alike =
        same_on_files (filled known counts writes) (with_write bytes object wrote.write (counts one.call)) stands.tree other
        (λ path node file is holds. filled_one known counts writes object one wrote.write found wrote.«is» node.object file.bytes) has.alike

  -- ---- one that is placed, and open

  pub one_opened : (counts : ℕ → ℕ) (writes more : List OpenWrite) (tree other after : Tree) (one : OpenWrite) (write : WriteArguments) (number count : ℕ) → known.head.profile ≡ Plain
      → write_of known one.call ≡ Some write → object_of binds write.file ≡ Some one.object → IsNumbered tree → one.least ≡ 0 → ((k : ℕ) → IsCountOf write k → k ≤ one.most)
      → open_at writes one.object ≡ None → is_open writes one.call ≡ false → IsInserted one writes more → HasWritten known binds counts writes tree other
      → next_tree binds other number (calls.Write write) (Taken (Some count)) ≡ Some after → HasWritten known binds (counted known counts one.call count) more tree after
  one_opened counts writes more tree other after one write number count plain is named numbered least most none apart inserted has leads = record {
    each = each_more (IsOpen known binds later) writes more one here (open_counted known binds counts one.call count writes apart has.each) inserted;
    alike = same_on_files (with_write bytes one.object write count) (filled known later more) tree after (λ path node file at holds. turned node.object file.bytes) went.0;
  } where
    later : ℕ → ℕ
    later = counted known counts one.call count

    bytes : ℕ → List ℕ → List ℕ
    bytes = filled known counts writes

    counts_one : later one.call ≡ count
    counts_one = ap (λ b. cond b count (counts one.call)) (eq-eqb one.call one.call refl)

    went : Alike (with_bytes (with_write bytes one.object write count)) tree after × IsCountOf write count
    went = opened bytes binds tree other one.object write (record { stays = filled_none known counts writes one.object none; named = named; numbered = numbered }) has.alike number count after leads

    here : IsOpen known binds later one
    here = record {
      plain = plain;
      write = write;
      «is» = is;
      named = named;
      least = omega (arith, least);
      most = subst (λ c. c ≤ one.most) (sym counts_one) (most count went.1);
    }

    turned : (o : ℕ) (held : List ℕ) → with_write bytes one.object write count o held ≡ filled known later more o held
    turned o held =
        ap (cond (o == one.object) (written_so write count held)) (filled_counted known counts one.call count writes apart o held)
        ∙ ap (λ c. cond (o == one.object) (written_so write c held) (filled known later writes o held)) (sym counts_one)
        ∙ filled_more known later writes more one write none inserted is o held

  -- ---- other counts

  pub others_counted : (counts : ℕ → ℕ) (n count : ℕ) (writes : List OpenWrite) (tree other : Tree) → is_open writes n ≡ false → HasWritten known binds counts writes tree other
      → HasWritten known binds (counted known counts n count) writes tree other
  others_counted counts n count writes tree other apart has = record {
    each = open_counted known binds counts n count writes apart has.each;
    alike = same_on_files (filled known counts writes) (filled known (counted known counts n count) writes) tree other
        (λ path node file is holds. filled_counted known counts n count writes apart node.object file.bytes) has.alike;
  }

  pub base_counted : (counts : ℕ → ℕ) (n count : ℕ) (base : Option KeptView) (other : Option Tree) → is_open_base base n ≡ false → HasWrittenBase known binds counts base other
      → HasWrittenBase known binds (counted known counts n count) base other
  base_counted counts n count None None apart has = has
  base_counted counts n count None (Some other) apart has = absurd has
  base_counted counts n count (Some kept) None apart has = absurd has
  base_counted counts n count (Some kept) (Some other) apart has = others_counted counts n count kept.writes kept.tree other apart has

  -- ---- counts that are narrowed

  pub kept_narrowed : (counts : ℕ → ℕ) (call least most : ℕ) → least ≤ counts call → counts call ≤ most → (writes : List OpenWrite) (tree other : Tree) → HasWritten known binds counts writes tree other
      → HasWritten known binds counts (map (narrowed_write call least most) writes) tree other
  kept_narrowed counts call least most low high writes tree other has = record {
    each = each_mapped (IsOpen known binds counts) (IsOpen known binds counts) (narrowed_write call least most) writes (open_narrowed known binds counts call least most low high) has.each;
    alike = same_on_files (filled known counts writes) (filled known counts (map (narrowed_write call least most) writes)) tree other
        (λ path node file is holds. filled_narrowed known counts call least most writes node.object file.bytes) has.alike;
  }

  pub base_narrowed : (counts : ℕ → ℕ) (call least most : ℕ) → least ≤ counts call → counts call ≤ most → (base : Option KeptView) (other : Option Tree) → HasWrittenBase known binds counts base other
      → HasWrittenBase known binds counts (option_map (narrowed_kept call least most) base) other
  base_narrowed counts call least most low high None None has = has
  base_narrowed counts call least most low high None (Some other) has = absurd has
  base_narrowed counts call least most low high (Some kept) None has = absurd has
  base_narrowed counts call least most low high (Some kept) (Some other) has = kept_narrowed counts call least most low high kept.writes kept.tree other has

  -- ---- a call that comes to no open WRITE's file

  -- it goes on in the tree as it does in the other
  pub goes_apart : (counts : ℕ → ℕ) (writes : List OpenWrite) (tree other after : Tree) (number : ℕ) (call : NfsCall) (outcome : Outcome)
      → IfSome (object_touched binds tree call outcome) (λ object. open_at writes object ≡ None) → open_at writes number ≡ None → HasWritten known binds counts writes tree other
      → next_tree binds other number call outcome ≡ Some after → (next : Tree) × (next_tree binds tree number call outcome ≡ Some next) × HasWritten known binds counts writes next after
  goes_apart counts writes tree other after number call outcome apart fresh has leads =
      let found = (goes (with_bytes bytes) (bytes_filled bytes).0 tree other has.alike binds number call outcome (untouched (object_touched binds tree call outcome) apart) (left number fresh)).in_tree after leads in
      (found.0, found.1, record { each = has.each; alike = found.2 }) where
        bytes : ℕ → List ℕ → List ℕ
        bytes = filled known counts writes

        left : (object : ℕ) → open_at writes object ≡ None → LeavesObject (with_bytes bytes) object
        left object none = (bytes_filled bytes).1 object (filled_none known counts writes object none)

        untouched : (o : Option ℕ) → IfSome o (λ object. open_at writes object ≡ None) → IfSome o (LeavesObject (with_bytes bytes))
        untouched None apart = tt
        untouched (Some object) none = left object none
