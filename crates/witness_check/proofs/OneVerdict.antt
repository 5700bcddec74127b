-- A history and a plan have at most one verdict, and so have two texts.
use Rattle.std.proofs.Common.{◌≡◌, inl, inr, ℕ, List, refl, sym, ap, subst, ◌∙◌}
use Rattle.std.proofs.lemmas.Option.{none-some, same_Some}
use Rattle.order_check.specs.nfs_history_specs.declared.knowing.KnownCalls.{KnownCalls}
use Rattle.order_check.specs.nfs_history_specs.declared.fault.HistoryFault.{HistoryFault}
use Rattle.order_check.specs.nfs_history_specs.History.{IsCallsFile}
use Rattle.order_check.specs.nfs_history_specs.FirstFault.{FirstFault}
use Rattle.order_check.proofs.nfs_history_laws.OneHistory.{one_calls}
use Rattle.order_check.proofs.nfs_history_laws.FirstFaultLaws.{file_fault_or_calls, one_first}
use Rattle.certificate.specs.declared.plan.Certificate.{Certificate}
use Rattle.certificate.specs.declared.reading.TextFault.{TextFault}
use Rattle.certificate.specs.declared.reading.TextFault.TheVariants.{BadLine, NoMemory}
use Rattle.certificate.specs.CertificateText.{CertificateText}
use Rattle.certificate.proofs.OneCertificate.{certificate_same}
use Rattle.certificate.proofs.OneBadLine.{IsBadLine-same}
use Rattle.order_check.proofs.ShapeLaws.{none_from_shape}
use Rattle.order_check.proofs.OrderLaws.{no_early_fault}
use Rattle.order_check.proofs.OneEarly.{one_early}
use Rattle.replay_law.proofs.Crashes as crashes
use Rattle.cut_check.specs.Places.{bindings_of}
use Rattle.cut_check.proofs.ShownLaws as verifiers
use Rattle.witness_check.specs.declared.fault.Fault.{Fault}
use Rattle.witness_check.specs.declared.fault.Fault.TheVariants as faults
use Rattle.witness_check.specs.declared.fault.CheckFault.TheVariants.{No}
use Rattle.witness_check.specs.declared.verdict.Verdict.{Verdict}
use Rattle.witness_check.specs.declared.verdict.Verdict.TheVariants as told
use Rattle.witness_check.specs.declared.verdict.FileVerdict.{FileVerdict}
use Rattle.witness_check.specs.declared.verdict.FileVerdict.TheVariants as told_of_files
use Rattle.witness_check.specs.Faults.{of_shape, of_order}
use Rattle.witness_check.specs.Run.{eras_of, next_of, base_of}
use Rattle.witness_check.specs.Witness.{IsWitness, AreAccepted}
use Rattle.witness_check.specs.Verdict.{IsShapeFault, IsOrderFault, IsRunFault, IsCutFault, IsVerifiersFault, Shaped, Ordered, Ran, Cut, IsPlanFault, IsVerdict, AreRefuted, IsBadText, IsFileVerdict}
use Rattle.witness_check.proofs.OneCut.{cuts_or_short, one_short_cut}

same_no : (f g : Fault) → No f ≡ No g → f ≡ g
same_no f g e = cc

module _ (history : KnownCalls) (plan : Certificate) where
  -- of each kind a plan has one first fault, or the property

  one_shape : (f g : Fault) → IsShapeFault history plan f → IsShapeFault history plan g → f ≡ g
  one_shape f g x y =
      let same : x.0 ≡ y.0 = same_Some x.0 y.0 (sym x.1 ∙ y.1) in
      same_no f g (sym x.2 ∙ ap of_shape same ∙ y.2)

  shaped : (f : Fault) → IsShapeFault history plan f → Shaped history plan → ⊥
  shaped f x shape = none-some x.0 (sym (none_from_shape history.eras history.calls plan.eras shape) ∙ x.1)

  one_order : (f g : Fault) → IsOrderFault history plan f → IsOrderFault history plan g → f ≡ g
  one_order f g x y = same_no f g (sym x.2 ∙ ap of_order (one_early history.calls plan.eras x.0 y.0 x.1 y.1) ∙ y.2)

  ordered : (f : Fault) → IsOrderFault history plan f → Ordered history plan → ⊥
  ordered f x order = no_early_fault history.calls plan.eras x.0 x.1 order.1

  one_run : (f g : Fault) → IsRunFault history plan f → IsRunFault history plan g → f ≡ g
  one_run f g x y = x.2 ∙ ap (λ n. faults.Illegal n) (crashes.one_first (next_of history plan) (base_of history) (eras_of history plan) x.0 y.0 x.1 y.1) ∙ sym y.2

  ran : (f : Fault) → IsRunFault history plan f → Ran history plan → ⊥
  ran f x runs = crashes.not_both (next_of history plan) (base_of history) (eras_of history plan) x.0 x.1 runs.1

  one_cut : (f g : Fault) → IsCutFault history plan f → IsCutFault history plan g → f ≡ g
  one_cut f g x y =
      let same = one_short_cut (bindings_of history.head.root plan.binds) history.calls plan.eras x.0 y.0 x.1 y.1 x.2 y.2 in
      x.3 ∙ ap (λ e. faults.ShortCut e x.1) same.0 ∙ ap (λ n. faults.ShortCut y.0 n) same.1 ∙ sym y.3

  cut : (f : Fault) → IsCutFault history plan f → Cut history plan → ⊥
  cut f x keep = cuts_or_short (bindings_of history.head.root plan.binds) history.calls plan.eras x.0 x.1 x.2 keep.1

  one_verifier : (f g : Fault) → IsVerifiersFault history plan f → IsVerifiersFault history plan g → f ≡ g
  one_verifier f g x y = x.2 ∙ ap (λ e. faults.Verifier e) (verifiers.one_first history.calls plan.eras x.0 y.0 x.1 y.1) ∙ sym y.2

  -- a witness has no fault
  pub no_fault : (f : Fault) → IsWitness history plan → IsPlanFault history plan f → ⊥
  no_fault f w (inl x) = shaped f x w.shape
  no_fault f w (inr (inl x)) = ordered f x.1 (w.shape, w.order)
  no_fault f w (inr (inr (inl x))) = ran f x.1 ((w.shape, w.order), w.runs)
  no_fault f w (inr (inr (inr (inl x)))) = cut f x.1 (((w.shape, w.order), w.runs), w.cuts)
  no_fault f w (inr (inr (inr (inr x)))) = verifiers.none_from_agree history.calls plan.eras w.verifiers x.1.0 x.1.1.at_fault

  -- a first fault is one: the kinds by turns, each against those behind it
  pub one_fault : (f g : Fault) → IsPlanFault history plan f → IsPlanFault history plan g → f ≡ g
  one_fault f g (inl x) (inl y) = one_shape f g x y
  one_fault f g (inl x) (inr (inl y)) = absurd (shaped f x y.0)
  one_fault f g (inl x) (inr (inr (inl y))) = absurd (shaped f x y.0.0)
  one_fault f g (inl x) (inr (inr (inr (inl y)))) = absurd (shaped f x y.0.0.0)
  one_fault f g (inl x) (inr (inr (inr (inr y)))) = absurd (shaped f x y.0.0.0.0)
  one_fault f g (inr (inl x)) (inl y) = absurd (shaped g y x.0)
  one_fault f g (inr (inl x)) (inr (inl y)) = one_order f g x.1 y.1
  one_fault f g (inr (inl x)) (inr (inr (inl y))) = absurd (ordered f x.1 y.0)
  one_fault f g (inr (inl x)) (inr (inr (inr (inl y)))) = absurd (ordered f x.1 y.0.0)
  one_fault f g (inr (inl x)) (inr (inr (inr (inr y)))) = absurd (ordered f x.1 y.0.0.0)
  one_fault f g (inr (inr (inl x))) (inl y) = absurd (shaped g y x.0.0)
  one_fault f g (inr (inr (inl x))) (inr (inl y)) = absurd (ordered g y.1 x.0)
  one_fault f g (inr (inr (inl x))) (inr (inr (inl y))) = one_run f g x.1 y.1
  one_fault f g (inr (inr (inl x))) (inr (inr (inr (inl y)))) = absurd (ran f x.1 y.0)
  one_fault f g (inr (inr (inl x))) (inr (inr (inr (inr y)))) = absurd (ran f x.1 y.0.0)
  one_fault f g (inr (inr (inr (inl x)))) (inl y) = absurd (shaped g y x.0.0.0)
  one_fault f g (inr (inr (inr (inl x)))) (inr (inl y)) = absurd (ordered g y.1 x.0.0)
  one_fault f g (inr (inr (inr (inl x)))) (inr (inr (inl y))) = absurd (ran g y.1 x.0)
  one_fault f g (inr (inr (inr (inl x)))) (inr (inr (inr (inl y)))) = one_cut f g x.1 y.1
  one_fault f g (inr (inr (inr (inl x)))) (inr (inr (inr (inr y)))) = absurd (cut f x.1 y.0)
  one_fault f g (inr (inr (inr (inr x)))) (inl y) = absurd (shaped g y x.0.0.0.0)
  one_fault f g (inr (inr (inr (inr x)))) (inr (inl y)) = absurd (ordered g y.1 x.0.0.0)
  one_fault f g (inr (inr (inr (inr x)))) (inr (inr (inl y))) = absurd (ran g y.1 x.0.0)
  one_fault f g (inr (inr (inr (inr x)))) (inr (inr (inr (inl y)))) = absurd (cut g y.1 x.0)
  one_fault f g (inr (inr (inr (inr x)))) (inr (inr (inr (inr y)))) = one_verifier f g x.1 y.1

  pub one_verdict : (v w : Verdict) → IsVerdict history plan v → IsVerdict history plan w → v ≡ w
  one_verdict told.Yes told.Yes x y = refl
  one_verdict told.Yes (told.No g) x y = absurd (no_fault g x y)
  one_verdict (told.No f) told.Yes x y = absurd (no_fault f y x)
  one_verdict (told.No f) (told.No g) x y = ap (λ (z : Fault). told.No z) (one_fault f g x y)

-- the history and the plan of two texts are one
module _ (history_file certificate_text : List ℕ) where
  moved_fault : (h g : KnownCalls) (p q : Certificate) (f : Fault) → IsCallsFile history_file h → IsCallsFile history_file g → CertificateText certificate_text p → CertificateText certificate_text q
      → IsPlanFault h p f → IsPlanFault g q f
  moved_fault h g p q f fh fg tp tq x =
      subst (λ (plan : Certificate). IsPlanFault g plan f) (certificate_same p q certificate_text tp tq)
      (subst (λ (history : KnownCalls). IsPlanFault history p f) (one_calls history_file h g fh fg) x)

  accepted_or_refuted : (f : Fault) → AreAccepted history_file certificate_text → AreRefuted history_file certificate_text f → ⊥
  accepted_or_refuted f x y = no_fault x.history x.plan f x.witness (moved_fault y.history x.history y.plan x.plan f y.file x.file y.text x.text y.first)

  no_text : (p : Certificate) (t : TextFault) → CertificateText certificate_text p → IsBadText history_file certificate_text t → ⊥
  no_text p (BadLine k) text bad = bad.2.none p text
  no_text p NoMemory text bad = bad

  bad_text_file : (t : TextFault) (f : HistoryFault) → IsBadText history_file certificate_text t → FirstFault history_file f → ⊥
  bad_text_file (BadLine k) f bad first = file_fault_or_calls history_file f bad.0 first bad.1
  bad_text_file NoMemory f bad first = bad

  one_bad_text : (t u : TextFault) → IsBadText history_file certificate_text t → IsBadText history_file certificate_text u → t ≡ u
  one_bad_text (BadLine j) (BadLine k) x y = ap (λ n. BadLine n) (IsBadLine-same certificate_text j k x.2 y.2)
  one_bad_text (BadLine j) NoMemory x y = absurd y
  one_bad_text NoMemory u x y = absurd x

  pub one_file_verdict : (v w : FileVerdict) → IsFileVerdict history_file certificate_text v → IsFileVerdict history_file certificate_text w → v ≡ w
  one_file_verdict told_of_files.Yes told_of_files.Yes x y = refl
  one_file_verdict told_of_files.Yes (told_of_files.No g) x y = absurd (accepted_or_refuted g x y)
  one_file_verdict told_of_files.Yes (told_of_files.BadHistory g) x y = absurd (file_fault_or_calls history_file g x.history y x.file)
  one_file_verdict told_of_files.Yes (told_of_files.BadText u) x y = absurd (no_text x.plan u x.text y)
  one_file_verdict (told_of_files.No f) told_of_files.Yes x y = absurd (accepted_or_refuted f y x)
  one_file_verdict (told_of_files.No f) (told_of_files.No g) x y =
      ap (λ (z : Fault). told_of_files.No z) (one_fault y.history y.plan f g (moved_fault x.history y.history x.plan y.plan f x.file y.file x.text y.text x.first) y.first)
  one_file_verdict (told_of_files.No f) (told_of_files.BadHistory g) x y = absurd (file_fault_or_calls history_file g x.history y x.file)
  one_file_verdict (told_of_files.No f) (told_of_files.BadText u) x y = absurd (no_text x.plan u x.text y)
  one_file_verdict (told_of_files.BadHistory f) told_of_files.Yes x y = absurd (file_fault_or_calls history_file f y.history x y.file)
  one_file_verdict (told_of_files.BadHistory f) (told_of_files.No g) x y = absurd (file_fault_or_calls history_file f y.history x y.file)
  one_file_verdict (told_of_files.BadHistory f) (told_of_files.BadHistory g) x y = ap (λ (z : HistoryFault). told_of_files.BadHistory z) (one_first history_file f g x y)
  one_file_verdict (told_of_files.BadHistory f) (told_of_files.BadText u) x y = absurd (bad_text_file u f y x)
  one_file_verdict (told_of_files.BadText t) told_of_files.Yes x y = absurd (no_text y.plan t y.text x)
  one_file_verdict (told_of_files.BadText t) (told_of_files.No g) x y = absurd (no_text y.plan t y.text x)
  one_file_verdict (told_of_files.BadText t) (told_of_files.BadHistory g) x y = absurd (bad_text_file t g x y)
  one_file_verdict (told_of_files.BadText t) (told_of_files.BadText u) x y = ap (λ (z : TextFault). told_of_files.BadText z) (one_bad_text t u x y)
