use Rattle.std.proofs.Common.{◌≡◌, true, Some, sym, ap, ◌∙◌, rules}
use Rattle.std.specs.Option.{option_map_or}
use Rattle.reply_attributes.specs.declared.role.Role.TheVariants.{Answer}
use Rattle.reply_attributes.specs.Attributes.{of_answer, post_attr}
use Rattle.tree_answers.specs.Asked.{first_place}
use Rattle.file_tree.specs.Strict.{fits, answer_agrees}
use Rattle.file_tree.specs.Success.{changed}
use Rattle.file_tree.proofs.Agreed.{is_there}
use Rattle.file_tree.proofs.Answered.{tells_of_place}
use Rattle.file_tree.proofs.agreeing.answer_agrees.Goals as goal

pub returns-in-Some-post_attr : goal.returns-in-Some-post_attr
returns-in-Some-post_attr c = λ number change e does.
    let binds = c.args.view.now.binds.now in
    let tree = c.args.view.now.nodes.now in
    let call = c.args.call.now in
    let reply = c.args.reply.now in
    let attributes = c.in-Some-post_attr.attributes in
    let names : first_place call ≡ Some c.in-Some.place.now = search rules in
    let told : post_attr reply Answer ≡ Some attributes = search rules in
    let at = tells_of_place binds tree number change call reply c.in-Some.place.now e (is_there (of_answer reply) attributes told) names in
    c.fits.ensures ∙ (λ i. fits (c.told_put.ensures change does at i) (sym told i))
    ∙ sym (ap (λ o. option_map_or (answer_agrees binds (changed tree change) reply) o true) names)
