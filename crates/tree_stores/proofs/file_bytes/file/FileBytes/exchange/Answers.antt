use Rattle.tree_stores.specs.Paged.{byte_of, IsFile}
use Rattle.tree_stores.proofs.Undoing.{restored_file, restored_list, turned_back}
use Rattle.tree_stores.proofs.file_bytes.file.FileBytes.exchange.Goals as goal
use Rattle.tree_stores.proofs.file_bytes.file.FileBytes.exchange.Goals.{In_ok-changes}

-- the pages and the size make a file
turned : (c : In_ok-changes) → IsFile (byte_of c.replace.new.pages) c.args.undo.size
turned c =
    restored_file (byte_of c.self.inside.pages) (byte_of c.replace.new.pages) c.self.inside.size c.args.self.now c.requires.0 c.self.invariant c.self.view_is c.args.undo c.requires.1
    c.in_ok-changes.ensures.ok

pub invariant_of-self-2 : goal.invariant_of-self-2
invariant_of-self-2 c = rw c.replace-size.ensures.after (turned (goal.at.invariant_of-self-2 c).In_ok-changes)

pub returns-clause-ok : goal.returns-clause-ok
returns-clause-ok c = λ before restores. rw c.replace-size.ensures.after
    (restored_list (byte_of c.self.inside.pages) (byte_of c.replace.new.pages) c.self.inside.size c.args.self.now before c.self.invariant c.self.view_is c.args.undo restores
    c.in_ok-changes.ensures.ok)

pub returns-clause-undo : goal.returns-clause-undo
returns-clause-undo c = rw c.replace-size.ensures.after
    (turned_back (byte_of c.self.inside.pages) (byte_of c.replace.new.pages) c.self.inside.size c.args.undo.size c.args.self.now c.self.invariant c.self.view_is
    (turned (goal.at.returns-clause-undo c).In_ok-changes)
    (record { size = c.replace-size.result; changes = c.in_ok-changes.changes }) c.replace-size.ensures.value c.in_ok-changes.ensures.undo)
