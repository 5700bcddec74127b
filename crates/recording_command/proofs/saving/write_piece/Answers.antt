use Rattle.std.proofs.Common.{ap, subst, ◌∙◌, length}
use Rattle.std.specs.Io.KnownBytes.{Appends}
use Rattle.history_file.specs.Owning.{all_happened}
use Rattle.history_file.specs.Writing.{file_text}
use Rattle.recording_command.proofs.Saved.{head_within, behind_head}
use Rattle.recording_command.proofs.saving.write_piece.Goals as goal

pub behind_head-bytes-requires : goal.behind_head-bytes-requires
behind_head-bytes-requires g c =
    let es = all_happened c.args.events.now in
    let is = c.as_slice-2.ensures.value ∙ c.in_ok-text.ensures.text ∙ ap (λ root. file_text root es) c.as_slice.ensures in
    head_within c.as_slice-2.result.now es is

pub returns-clause-written : goal.returns-clause-written
returns-clause-written g c =
    let es = all_happened c.args.events.now in
    let is = c.as_slice-2.ensures.value ∙ c.in_ok-text.ensures.text ∙ ap (λ root. file_text root es) c.as_slice.ensures in
    let old = g.W.Write.contents c.args.writer.now in
    let new = g.W.Write.contents c.write_pieces.new.writer in
    subst (Appends old new) (c.behind_head-bytes.ensures ∙ behind_head c.as_slice-2.result.now es is) c.in_ok-write_pieces.ensures.whole

pub returns-clause-count : goal.returns-clause-count
returns-clause-count g c =
    let es = all_happened c.args.events.now in
    let is = c.as_slice-2.ensures.value ∙ c.in_ok-text.ensures.text ∙ ap (λ root. file_text root es) c.as_slice.ensures in
    ap length (c.behind_head-bytes.ensures ∙ behind_head c.as_slice-2.result.now es is)
