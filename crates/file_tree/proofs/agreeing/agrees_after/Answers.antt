use Rattle.std.proofs.Common.{◌≡◌, true, sym, ap, ◌∙◌}
use Rattle.std.specs.Option.{option_map_or}
use Rattle.reply_attributes.specs.declared.role.Role.TheVariants.{First, Second}
use Rattle.tree_answers.specs.Asked.{first_handle, second_handle, first_place}
use Rattle.file_tree.specs.Strict.{handle_agrees, answer_agrees, entries_agree}
use Rattle.file_tree.specs.Success.{changed}
use Rattle.file_tree.proofs.Agreed.{all_four, same_listing}
use Rattle.file_tree.proofs.Answered.{lists_or_none}
use Rattle.file_tree.proofs.agreeing.agrees_after.Goals as goal

pub returns : goal.returns
returns c = λ number change e does.
    let binds = c.args.view.now.binds.now in
    let tree = c.args.view.now.nodes.now in
    let after = changed tree change in
    let call = c.args.call.now in
    let reply = c.args.reply.now in
    let handle = c.first_handle-first.result.now in
    let first : handle ≡ first_handle call = c.first_handle-first.ensures in
    let of_first : handle_agrees binds tree after reply First (first_handle call) ≡ true =
    ap (handle_agrees binds tree after reply First) (sym first) ∙ sym (c.handle_agrees.ensures change does) ∙ c.if-not-handle_agrees.false in
    let of_second : option_map_or (handle_agrees binds tree after reply Second) (second_handle call) true ≡ true = sym (c.second_agrees.ensures change does) ∙ c.if-not-second_agrees.false in
    let of_answer : option_map_or (answer_agrees binds after reply) (first_place call) true ≡ true = sym (c.answer_agrees.ensures number change e does) ∙ c.if-not-answer_agrees.false in
    let entries : c.entries_agree.result ≡ entries_agree binds after reply (first_handle call) =
    c.entries_agree.ensures ∙ same_listing binds tree reply handle change (lists_or_none binds tree number change call reply e) ∙ ap (entries_agree binds after reply) first in
    all_four _ _ _ _ c.entries_agree.result of_first of_second of_answer entries
