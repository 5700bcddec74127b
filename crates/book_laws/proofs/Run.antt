-- the laws' premises are met by the example
use Rattle.tree_starts.specs.declared.profile.Profile.TheVariants.{Plain}
use Rattle.std.proofs.Common.{◌≡◌, inl, inr, ℕ, zero, suc, ◌+◌, ◌<◌, ◌≤◌, ◌^◌, List, [], ◌∷◌, ◌++◌, length, Some, refl, sym, ap, ◌∙◌, subst, arith, lit<, lit≤, eq-eqb}
use Rattle.std.specs.Prelude.{IsSome, Bool, true, false, is_some, nat_lt, slice_index_or, ◌==◌, if◌then◌else◌, option_and_then}
use Rattle.std.specs.FinMap as map
use Rattle.std.proofs.lemmas.Bool.{ltb-true}
use Rattle.std.proofs.lemmas.List.{length-append, append_assoc}
use Rattle.byteorder.specs.Numbers.{big_from-append}
use Rattle.xdr_records.specs.Items.{word_of}
use Rattle.xdr_records.specs.Spelling.{IsWord}
use Rattle.xdr_records.specs.Record.{record_limit}
use Rattle.xdr_records.specs.Texts.{word_text, long_text, flag_text, fixed_text, opaque_text, optional_text}
use Rattle.xdr_records.proofs.Written.{word_spelled}
use Rattle.rpc_reader.specs.Values.{CallValue}
use Rattle.rpc_reader.specs.Values.Body.{success}
use Rattle.rpc_reader.specs.Heads.{CallStart, call_head}
use Rattle.rpc_reader.specs.Messages.{IsCall, IsReply}
use Rattle.rpc_reader.specs.Texts.{BodyFits, no_auth_text, call_body_text, call_head_text, call_text, accepted_text, reply_body_text, reply_head_text, results_of, reply_text}
use Rattle.rpc_reader.proofs.Spelled as rpc
use Rattle.nfs3_types.specs.declared.replies.NfsReply.{NfsReply}
use Rattle.nfs3_types.specs.declared.replies.Outcome.TheVariants.{Received}
use Rattle.nfs3_values.specs.Bytes.{verifier_text}
use Rattle.nfs3_values.specs.Attributes.{wcc_data_text, WccDataFits}
use Rattle.nfs3_values.specs.Calls.{directory_name_text, DirectoryNameFits}
use Rattle.nfs3_values.specs.EntryCalls.{create_arguments_text, create_mode_text, CreateArgumentsFit, CreateModeFits}
use Rattle.nfs3_values.specs.Replies.{answer_text, AnswerFits, create_success_text, CreateSuccessFits}
use Rattle.nfs3_msgs.specs.Messages.{arguments_text, result_text}
use Rattle.nfs3_msgs.specs.Fits.{CallFits, ReplyFits}
use Rattle.nfs3_msgs.specs.SpelledMessages.{call_spelled, reply_spelled}
use Rattle.history_file.specs.Event.{Event}
use Rattle.history_file.specs.Event.Event.{call, close}
use Rattle.nfs_history.specs.declared.recorded.RecordedCall.{RecordedCall}
use Rattle.nfs_history.specs.Calls.{xid_of}
use Rattle.nfs_history.specs.Standing.{IsClosed}
use Rattle.tree_nodes.specs.declared.node.Node.{Node}
use Rattle.tree_nodes.specs.Files.{file_node}
use Rattle.tree_nodes.specs.Tree.{Names, Tree, opening, entry_of}
use Rattle.tree_nodes.proofs.Found.{some_found}
use Rattle.file_tree.specs.Success.{next_tree}
use Rattle.tree_laws.proofs.Replayed.{entries_opening}
use Rattle.book_laws.specs.Book.{bindings_made}
use Rattle.book_laws.specs.Steps.{begun, with_made, step_of, reply_message, IsRecordable, IsAnswerTo, Begins, Places, Flushes, Answers, opening_book}
use Rattle.book_laws.specs.Steps.Steps.{begins, places, flushes, answers}
use Rattle.book_laws.specs.Example.{create, created, asked, answer, after_begin, after_place, after_flush, after_answer, PremisesAreMet}
use Rattle.file_tree.proofs.StartStep.{put_there}

-- ---- transaction numbers

-- the first word of a message
first_word : (word more : List ℕ) (n : ℕ) → IsWord word n → xid_of (word ++ more) ≡ n
unfolding xid_of word_of
first_word word more n is = go (nat_lt (length (word ++ more)) 4) refl where
  enough : nat_lt (length (word ++ more)) 4 ≡ true → ⊥
  enough e = let less = ltb-true (length (word ++ more)) 4 e in let all = length-append word more in omega (arith, is.four, less, all)

  go : (b : Bool) → nat_lt (length (word ++ more)) 4 ≡ b → (if b then 0 else word_of (word ++ more)) ≡ n
  go true e = absurd (enough e)
  go false e = big_from-append 4 word more (omega (arith, is.four)) ∙ is.value

xid_is : (message : List ℕ) (head : CallValue) → IsCall message head → xid_of message ≡ head.xid
unfolding call_head
xid_is message head is =
    let s = is.first in
    ap xid_of (is.parts ∙ ap (λ front. front ++ is.back) s.1.parts ∙ append_assoc s.1.front s.1.back is.back) ∙ first_word s.1.front (s.1.back ++ is.back) s.0 s.1.first
    ∙ ap (λ (start : CallStart). start.xid) s.1.others.1.others.1.others.1.others.1.others.1.others.1.others.1.others.1

-- ---- the call

abbrev head : CallValue
head = record { xid = 1; program = 100003; version = 3; procedure = 8; flavor = 0; args = arguments_text create }

is_call : IsCall asked head
is_call = rpc.call_spelled 1 100003 3 8 (arguments_text create) (lit< tt) (lit< tt) (lit< tt) (lit< tt)

call_fits : CallFits create
unfolding CallFits CreateArgumentsFit DirectoryNameFits CreateModeFits long_text
call_fits = ((lit≤ tt, lit< tt), lit< tt)

short_call : length asked ≤ record_limit
unfolding call_text call_head_text call_body_text no_auth_text word_text long_text opaque_text fixed_text arguments_text create_arguments_text create_mode_text directory_name_text verifier_text
short_call = lit≤ tt

recordable : IsRecordable asked create
recordable = record {
  within = short_call;
  head = head;
  is_call = is_call;
  of_nfs = record { program = refl; version = refl; procedure = refl; credential = λ e. omega (arith, e); arguments = call_spelled create call_fits };
  inside = refl;
}

xid_one : xid_of asked ≡ 1
xid_one = xid_is asked head is_call

-- ---- the lane

nothing_open : ¬ IsClosed 1 []
nothing_open (inl has) = let none : has.0 < 0 = has.1 in omega (arith, none)
nothing_open (inr cut) = none cut.ahead cut.parts where
  none : (ahead : List Event) → [] ≡ ahead ++ cut.last ∷ cut.behind → ⊥
  none [] e = cc
  none (x ∷ ahead) e = cc

one_open : (message : List ℕ) → ¬ IsClosed 1 (call 1 message ∷ [])
one_open message (inl has) = go has.0 has.1 has.2 where
  go : (k : ℕ) → k < length (call 1 message ∷ []) → slice_index_or (call 1 message ∷ []) k (close 1) ≡ close 1 → ⊥
  go zero lt at = clash at where
    clash : call 1 message ≡ close 1 → ⊥
    clash e = cc
  go (suc k) lt at = omega (arith, lt)
one_open message (inr cut) =
    let all = ap length cut.parts in
    let parts = length-append cut.ahead (cut.last ∷ cut.behind) in
    let some : cut.crashed.0 < length cut.behind = cut.crashed.1 in
    none (length cut.ahead) (length cut.behind) cut.crashed.0 (all ∙ parts) some where
      none : (a b k : ℕ) → 1 ≡ a + suc b → k < b → ⊥
      none a b k e lt = omega (arith, e, lt)

-- ---- the tree

abbrev f : Names
f = (102 ∷ []) ∷ []

abbrev file : Node
file = file_node 1 [] (Some (record { value = 7 }))

abbrev tree : Tree
tree = map.insert opening f (file_node 1 [] (Some (record { value = 7 })))

file_stands : IsSome (entry_of tree 1)
file_stands = some_found tree (λ x. x.1.object == 1) f file (put_there opening f file f refl) (eq-eqb 1 1 refl)

made_one : with_made 1 tree [] ≡ 1 ∷ []
made_one = ap (λ b. if b then 1 ∷ [] else []) file_stands

next_one : next_tree (bindings_made (1 ∷ [])) opening 1 create (Received created) ≡ Some tree
unfolding long_text
next_one = simp (map.get-entries opening, map.len-entries opening, entries_opening)

-- ---- the reply

said_reply : (xid : ℕ) (reply : NfsReply) → xid < 2 ^ 32 → IsReply (reply_message xid reply) (record { xid = xid; body = success (result_text reply) })
unfolding BodyFits
said_reply xid reply word = rpc.reply_spelled xid (success (result_text reply)) word tt

reply_fits : ReplyFits created
unfolding ReplyFits AnswerFits CreateSuccessFits WccDataFits long_text
reply_fits = (lit≤ tt, tt, (tt, tt))

short_reply : length (reply_message 1 created) ≤ record_limit
unfolding reply_text reply_head_text reply_body_text accepted_text no_auth_text results_of word_text long_text flag_text opaque_text fixed_text optional_text result_text answer_text create_success_text wcc_data_text
short_reply = lit≤ tt

answer_xid : (xid : ℕ) (reply : NfsReply) → xid < 2 ^ 32 → xid_of (reply_message xid reply) ≡ xid
unfolding reply_text reply_head_text
answer_xid xid reply lt = ap xid_of (append_assoc (word_text xid) _ _) ∙ first_word (word_text xid) _ xid (word_spelled xid lt)

word : xid_of asked < 2 ^ 32
word = subst (λ (n : ℕ). n < 2 ^ 32) (sym xid_one) (lit< tt)

answers_asked : IsAnswerTo asked answer created
answers_asked = record {
  head = head;
  is_call = is_call;
  results = result_text created;
  is_reply = subst (λ (n : ℕ). IsReply answer (record { xid = n; body = success (result_text created) })) xid_one (said_reply (xid_of asked) created word);
  is_result = reply_spelled created reply_fits;
  xid = answer_xid (xid_of asked) created word;
}

-- ---- the steps

abbrev recorded : RecordedCall
recorded = begun (opening_book Plain [] 0).history 1 asked create

begin_step : Begins (opening_book Plain [] 0) 1 asked after_begin
begin_step = record { running = refl; is_open = nothing_open; free = refl; call = create; recordable = recordable; done = refl }

place_step : Places after_begin 1 created after_place
place_step = record {
  running = refl;
  numbered = lit< tt;
  recorded = recorded;
  call = create;
  message = asked;
  of_now = record { recorded = refl; era = refl; is_open = one_open asked };
  judged = refl;
  sent = refl;
  unplaced = tt;
  before = opening;
  after = tree;
  stood = refl;
  next = subst (λ made. next_tree (bindings_made made) opening 1 create (Received created) ≡ Some tree) (sym made_one) next_one;
  served = tt;
  verifier = tt;
  answers = answers_asked;
  within = subst (λ (n : ℕ). length (reply_message n created) ≤ record_limit) (sym xid_one) short_reply;
  done = ap (λ made. record after_place { made = made }) (sym made_one);
}

flush_step : Flushes after_place after_flush
flush_step = record { running = refl; done = refl }

answer_step : Answers after_flush 1 after_answer
answer_step = record {
  running = refl;
  recorded = recorded;
  call = create;
  message = asked;
  answer = answer;
  of_now = record { recorded = refl; era = refl; is_open = one_open asked };
  judged = refl;
  sent = refl;
  unanswered = refl;
  ahead = [];
  step = step_of 1 create created;
  behind = [];
  placed = refl;
  named = refl;
  reply = created;
  received = refl;
  answers = answers_asked;
  spelled = refl;
  durable = ((λ promise. lit≤ tt), (λ commit. lit≤ tt));
  done = refl;
}

pub premises_are_met : PremisesAreMet
premises_are_met = record {
  run = (begins 1 asked begin_step, (places 1 created place_step, (flushes flush_step, (answers 1 answer_step, tt))));
  tree = ap (λ o. is_some (option_and_then (λ (t : Tree). Some t) o)) next_one;
}
