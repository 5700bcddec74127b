-- One exchange more of a walk.
use Rattle.std.proofs.Common.{◌≡◌, ℕ, Bool, true, false, List, [], ◌∷◌, ◌++◌, refl, sym, ap, subst, ◌∙◌}
use Rattle.std.specs.Prelude.{MatchBool}
use Rattle.nfs3_types.specs.declared.calls.NfsCall.{NfsCall}
use Rattle.nfs3_types.specs.declared.replies.NfsReply.{NfsReply}
use Rattle.nfs3_types.specs.Procedures.{procedure_called}
use Rattle.nfs3_msgs.specs.Messages.{IsResult}
use Rattle.rpc_reader.specs.Values.{Body}
use Rattle.rpc_reader.specs.Values.Body.{success}
use Rattle.rpc_reader.specs.Messages.{IsReply}
use Rattle.rpc_reader.proofs.OneMessage.{one_body}
use Rattle.rpc_connection.specs.Answers.{IsReplyTo}
use Rattle.rpc_client.specs.declared.asking.Credential.{Credential}
use Rattle.rpc_client.specs.Asking.{message_text}
use Rattle.walk_accounts.specs.declared.exchange.Exchange.{Exchange}
use Rattle.night_start.specs.Walked.{Walked, learned}
use Rattle.walk_accounts.specs.Accounts.{IsTold}
use Rattle.export_walk.specs.declared.noting.NotedExchange.{NotedExchange}
use Rattle.export_walk.specs.declared.walking.WalkedExport.{WalkedExport}
use Rattle.export_walk.specs.Walking.{Journey, IsBegun}
use Rattle.export_walk.specs.Noted.{is_noted, noted_if, IsAnswer, AreMessages, ComeFirst, AreNoted, IsWalked}

-- a call's message, and the reply with its number
pub are_messages : (who : Credential) (xid : ℕ) (call : NfsCall) (reply : NfsReply) (sent came start : List ℕ) → start ≡ [] → sent ≡ start ++ message_text xid who call → IsReplyTo xid came → IsAnswer (procedure_called call) came reply
    → (number : ℕ) × (results : List ℕ) × (sent ≡ message_text number who call) × IsReply came (record { xid = number; body = success results }) × IsResult (procedure_called call) results reply
are_messages who xid call reply sent came start empty asked told answer =
    let all : sent ≡ message_text xid who call = asked ∙ ap (λ (xs : List ℕ). xs ++ message_text xid who call) empty in
    let same : told.0 ≡ success answer.1 = one_body came (record { xid = xid; body = told.0 }) (record { xid = answer.0; body = success answer.1 }) told.1 answer.2 in
    (xid, answer.1, all, subst (λ (body : Body). IsReply came (record { xid = xid; body = body })) same told.1, answer.3)

either_of : (b : Bool) {P Q P' Q' : Type 0} → (P → P') → (Q → Q') → MatchBool b P Q → MatchBool b P' Q'
either_of true f g h = f h
either_of false f g h = g h

come_first : (who : Credential) (e : Exchange) (Old New : List NotedExchange → Type 0) (noted more : List NotedExchange) → ((others : List NotedExchange) → Old others → New (others ++ more)) → ComeFirst who e Old noted → ComeFirst who e New (noted ++ more)
come_first who e Old New [] more goes h = absurd h
come_first who e Old New (m ∷ others) more goes h = (h.0, goes others h.1)

first_noted : (who : Credential) (e : Exchange) (m : NotedExchange) (b : Bool) → AreMessages who e.call e.reply m → MatchBool b (ComeFirst who e (AreNoted who []) (noted_if b m)) (AreNoted who [] (noted_if b m))
first_noted who e m true is = (is, refl)
first_noted who e m false is = refl

-- behind the others, the messages of an exchange that is to be noted, and none of another
pub noted_on : (who : Credential) (exchanges : List Exchange) (noted : List NotedExchange) (e : Exchange) (m : NotedExchange) → AreMessages who e.call e.reply m → AreNoted who exchanges noted → AreNoted who (exchanges ++ e ∷ []) (noted ++ noted_if (is_noted e.call e.reply) m)
noted_on who [] noted e m is h =
    let more = noted_if (is_noted e.call e.reply) m in
    subst (λ (front : List NotedExchange). AreNoted who (e ∷ []) (front ++ more)) (sym h) (first_noted who e m (is_noted e.call e.reply) is)
noted_on who (x ∷ exchanges) noted e m is h =
    let more = noted_if (is_noted e.call e.reply) m in
    let goes = λ (others : List NotedExchange) (k : AreNoted who exchanges others). noted_on who exchanges others e m is k in
    either_of (is_noted x.call x.reply) (come_first who x (AreNoted who exchanges) (AreNoted who (exchanges ++ e ∷ [])) noted more goes) (goes noted) h

-- an exchange that was learned
pub taken_in : (who : Credential) (old new : Walked) (noted after : List NotedExchange) (call : NfsCall) (reply : NfsReply) (m : NotedExchange) (is_due : Bool) → AreMessages who call reply m → is_due ≡ is_noted call reply → after ≡ noted ++ noted_if is_due m → new ≡ learned old call reply → AreNoted who old.exchanges noted → AreNoted who new.exchanges after
taken_in who old new noted after call reply m is_due is due more on h =
    let all : after ≡ noted ++ noted_if (is_noted call reply) m = more ∙ ap (λ (b : Bool). noted ++ noted_if b m) due in
    let step = noted_on who old.exchanges noted (record { call = call; reply = reply }) m is h in
    subst (λ (ms : List NotedExchange). AreNoted who new.exchanges ms) (sym all)
    (subst (λ (w : Walked). AreNoted who w.exchanges (noted ++ noted_if (is_noted call reply) m)) (sym on) step)

-- a walk that is at its end
pub walked_so : (root : List ℕ) (who : Credential) (exchanges : List Exchange) (w : WalkedExport) → IsTold root exchanges w.start → AreNoted who exchanges w.noted.items → IsWalked root who w
walked_so root who exchanges w told noted = (exchanges, told, noted)

-- a walk of this export, which is at its end
pub walked_from : (root : List ℕ) (who : Credential) (w : Journey) (walked : WalkedExport) → IsBegun root who w → IsWalked w.walked.root w.who walked → IsWalked root who walked
walked_from root who w walked begun is =
    subst (λ (asks : Credential). IsWalked root asks walked) begun.1 (subst (λ (handle : List ℕ). IsWalked handle w.who walked) begun.0 is)
