-- One plan follows the replies of a history, and it is the one that is made.
use Rattle.std.proofs.Common.{◌≡◌, List, Ok, Err, Result, sym, ap, ◌∙◌}
use Rattle.std.specs.Prelude.{IfOk}
use Rattle.nfs_history.specs.HistoryValue.{CallsValue}
use Rattle.certificate.specs.declared.plan.Bind.{Bind}
use Rattle.certificate.specs.declared.plan.EraPlan.{EraPlan}
use Rattle.certificate.specs.declared.plan.Certificate.{Certificate}
use Rattle.reply_order.specs.ReplyOrder.{IsReplyOrder}
use Rattle.reply_order.specs.Making.{IsMade}
use Rattle.reply_order.proofs.Plans.{two_plans, made_eras}
use Rattle.reply_order.proofs.BindLaws.{two_lists, made_binds}

same_plan : (a b : Certificate) → a.binds ≡ b.binds → a.eras ≡ b.eras → a ≡ b
same_plan a b p q =
    let first : List Bind → Certificate = λ bs. record { binds = bs; eras = a.eras } in
    let second : List EraPlan → Certificate = λ es. record { binds = b.binds; eras = es } in
    ap first p ∙ ap second q

pub one_plan : (history : CallsValue) (one other : Certificate) → IsReplyOrder history one → IsReplyOrder history other → one ≡ other
one_plan history one other p q =
    same_plan one other (two_lists history other.binds one.binds q.binds p.binds)
    (two_plans history.calls 1 other.eras one.eras q.eras p.eras (q.as_many_eras ∙ sym p.as_many_eras))

made_is : (history : CallsValue) (given plan : Certificate) → IsMade history given → IsReplyOrder history plan → given ≡ plan
made_is history given plan made follow =
    same_plan given plan (made_binds history made.replies given.binds plan.binds made.in_order made.binds follow.binds)
    (made.eras ∙ made_eras history.calls made.replies made.grouped made.in_order made.by_era history.eras plan.eras follow.eras follow.as_many_eras)

pub only_plan : {E : Type 0} (history : CallsValue) (result : Result Certificate E) → IfOk result (IsMade history) → (plan : Certificate) → IsReplyOrder history plan → IfOk result (λ given. given ≡ plan)
only_plan history (Ok given) made plan follow = made_is history given plan made follow
only_plan history (Err error) made plan follow = tt
