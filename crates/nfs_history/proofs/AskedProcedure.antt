-- The arguments of a procedure are those of its call.
use Rattle.std.proofs.Common.{◌≡◌, ℕ, ◌==◌, Bool, true, false, List, refl, sym, ap, ◌∙◌}
use Rattle.std.proofs.lemmas.Bool.{eqb-true}
use Rattle.xdr_records.specs.Grammar.{Grammar, either}
use Rattle.xdr_records.specs.Grammar.Grammar.{nothing, refused, both}
use Rattle.xdr_records.specs.Spelling.{Spells}
use Rattle.nfs3_types.specs.declared.calls.NfsCall.{NfsCall}
use Rattle.nfs3_types.specs.declared.calls.NfsCall.TheVariants as calls
use Rattle.nfs3_types.specs.Procedures.{procedure_called}
use Rattle.nfs3_msgs.specs.nfs3_values_specs.declared.fault.Kind.{Kind}
use Rattle.nfs3_msgs.specs.nfs3_values_specs.declared.fault.Kind.TheVariants as kinds
use Rattle.nfs3_msgs.specs.Messages.{arguments, IsArguments}

-- the arguments of one procedure, or those of others
level : (procedure n : ℕ) (bytes : List ℕ) (call : NfsCall) {A : Type 0} (g : Grammar Kind A) (f : A → NfsCall) (h : Grammar Kind NfsCall) → ((a : A) → procedure_called (f a) ≡ n)
    → (Spells h bytes call → procedure ≡ procedure_called call) → Spells (either (procedure == n) (both g (λ a. nothing (f a))) h) bytes call → procedure ≡ procedure_called call
level procedure n bytes call g f h of later = go (procedure == n) refl where
  go : (b : Bool) → (procedure == n) ≡ b → Spells (either b (both g (λ a. nothing (f a))) h) bytes call → procedure ≡ procedure_called call
  go true is s = eqb-true procedure n is ∙ sym (of s.0) ∙ ap procedure_called s.1.others.1
  go false is s = later s

pub procedure_is : (procedure : ℕ) (bytes : List ℕ) (call : NfsCall) → IsArguments procedure bytes call → procedure ≡ procedure_called call
unfolding arguments
procedure_is procedure bytes call =
    level procedure 1 bytes call _ (λ a. calls.GetAttr a) _ (λ a. refl)
    (level procedure 2 bytes call _ (λ a. calls.SetAttr a) _ (λ a. refl)
    (level procedure 3 bytes call _ (λ a. calls.Lookup a) _ (λ a. refl)
    (level procedure 5 bytes call _ (λ a. calls.ReadLink a) _ (λ a. refl)
    (level procedure 6 bytes call _ (λ a. calls.Read a) _ (λ a. refl)
    (level procedure 7 bytes call _ (λ a. calls.Write a) _ (λ a. refl)
    (level procedure 8 bytes call _ (λ a. calls.Create a) _ (λ a. refl)
    (level procedure 9 bytes call _ (λ a. calls.MkDir a) _ (λ a. refl)
    (level procedure 10 bytes call _ (λ a. calls.SymLink a) _ (λ a. refl)
    (level procedure 12 bytes call _ (λ a. calls.Remove a) _ (λ a. refl)
    (level procedure 13 bytes call _ (λ a. calls.RmDir a) _ (λ a. refl)
    (level procedure 14 bytes call _ (λ a. calls.Rename a) _ (λ a. refl)
    (level procedure 16 bytes call _ (λ a. calls.ReadDir a) _ (λ a. refl)
    (level procedure 17 bytes call _ (λ a. calls.ReadDirPlus a) _ (λ a. refl)
    (level procedure 21 bytes call _ (λ a. calls.Commit a) (refused kinds.NotJudged) (λ a. refl) (λ s. absurd s)))))))))))))))
