use Rattle.std.proofs.Common.{◌≡◌, ◌⊎◌, ℕ, Err, OnOk}
use Rattle.tree_handles.specs.Binding.{Bindings}
use Rattle.nfs_history.specs.HistoryValue.{CallsValue}
use Rattle.cut_check.specs.declared.fault.CutFault.TheVariants.{ShortCut, NoMemory}
use Rattle.cut_check.specs.Cut.{CutsKeepStable}
use Rattle.cut_check.specs.ShortCut.{IsShortCut}
use Rattle.cut_check.specs.FaultNamed.{HasNoCutFault}
use Rattle.cut_check.proofs.EraLaws.{lent_along}
use Rattle.cut_check.proofs.cut.check_cuts.Goals as goal

pub returns-clause-ok : goal.returns-clause-ok
returns-clause-ok c =
    lent_along (λ (b : Bindings) (k : CallsValue). OnOk c.check_cuts_of_calls.result (CutsKeepStable b k.calls c.args.certificate.now.eras))
    c.in_ok-binds.binds c.lend-calls.result c.args.history.now.known c.args.certificate.now.binds c.lend-calls.ensures c.in_ok-binds.ensures c.check_cuts_of_calls.ensures.ok

pub returns-clause-only : goal.returns-clause-only
returns-clause-only c =
    lent_along (λ (b : Bindings) (k : CallsValue). CutsKeepStable b k.calls c.args.certificate.now.eras → HasNoCutFault c.check_cuts_of_calls.result)
    c.in_ok-binds.binds c.lend-calls.result c.args.history.now.known c.args.certificate.now.binds c.lend-calls.ensures c.in_ok-binds.ensures c.check_cuts_of_calls.ensures.only

pub returns-clause-named : goal.returns-clause-named
returns-clause-named c =
    lent_along (λ (b : Bindings) (k : CallsValue). (e needed : ℕ) → IsShortCut b k.calls c.args.certificate.now.eras e needed
    → (c.check_cuts_of_calls.result ≡ Err (ShortCut e needed)) ⊎ (c.check_cuts_of_calls.result ≡ Err NoMemory))
    c.in_ok-binds.binds c.lend-calls.result c.args.history.now.known c.args.certificate.now.binds c.lend-calls.ensures c.in_ok-binds.ensures c.check_cuts_of_calls.ensures.named
