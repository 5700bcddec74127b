use Rattle.std.proofs.Common.{List, IfSome, subst, ap, ◌∙◌}
use Rattle.std.specs.List.{flat_map}
use Rattle.nfs3_types.specs.declared.replies.DirectoryEntry.{DirectoryEntry}
use Rattle.nfs3_types.specs.declared.replies.DirectoryEntryPlus.{DirectoryEntryPlus}
use Rattle.walk_accounts.specs.Exchanges.{place}
use Rattle.walk_accounts.specs.Stripping.{IsStripped}
use Rattle.walk_accounts.proofs.places.strip_reply.Goals as goal

pub returns-in-Done : goal.returns-in-Done
returns-in-Done c =
    rw (c.in-ReadDir.is, c.in-Done.is) (subst (λ (entries : List DirectoryEntry). IfSome c.strip_entries.result (λ left. IsStripped (flat_map (λ entry. place c.args.number entry.name) entries) c.args.rest.now left.now))
    (c.as_slice.ensures ∙ ap (λ success. success.entries) c.deref.ensures) c.strip_entries.ensures)

pub returns-in-Done-answer : goal.returns-in-Done-answer
returns-in-Done-answer c =
    rw (c.in-ReadDirPlus.is, c.in-Done-answer.is) (subst (λ (entries : List DirectoryEntryPlus). IfSome c.strip_entries_plus.result (λ left. IsStripped (flat_map (λ entry. place c.args.number entry.name) entries) c.args.rest.now left.now))
    (c.as_slice-in-Done-answer.ensures ∙ ap (λ success. success.entries) c.deref-in-Done-answer.ensures) c.strip_entries_plus.ensures)
