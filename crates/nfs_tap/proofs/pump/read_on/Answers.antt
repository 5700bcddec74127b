use Rattle.std.proofs.Common.{◌≡◌, ap, subst, List, ℕ, rules}
use Rattle.nfs_tap.specs.declared.pump.PumpEnd.TheVariants as ends
use Rattle.std.specs.Io.KnownBytes.{Appends}
use Rattle.nfs_tap.specs.Pumping.{IsForwarded}
use Rattle.nfs_tap.specs.Waiting.{Pending}
use Rattle.nfs_tap.proofs.Turning.{at_end, last_read, read_turned, not_at_end, turned_still, read_failed}
use Rattle.nfs_tap.proofs.pump.read_on.Goals as goal

pub returns-in-Ok-eq0-clause-ended : goal.returns-in-Ok-eq0-clause-ended
returns-in-Ok-eq0-clause-ended g c =
    let zero : c.in-Ok-eq0.field-0 ≡ 0 = search rules in
    at_end c.pass_last.result (g.I.Read.remaining c.read_from.new.reader) (c.in-Ok-eq0.ensures-1.end c.requires zero)

pub returns-in-Ok-eq0-clause-turned : goal.returns-in-Ok-eq0-clause-turned
returns-in-Ok-eq0-clause-turned g c =
    let left = g.I.Read.remaining c.args.reader.now in
    let left' = g.I.Read.remaining c.read_from.new.reader in
    let held = g.W.Write.contents c.args.writer.now in
    let held' = g.W.Write.contents c.pass_last.new.writer in
    let came = c.in-Ok-eq0.ensures-1.ok in
    let wrote = subst (λ (l : List ℕ). (written : List ℕ) × Appends held held' written × IsForwarded c.pass_last.result l written) c.as_slice.ensures c.pass_last.ensures.forwarded in
    (c.pass_last.ensures.named, last_read c.pass_last.result left left' held held' c.args.window.now.bytes came.0 c.read_from.new.self.bytes came.2 came.3 wrote)

pub returns-in-Ok-clause-ended : goal.returns-in-Ok-clause-ended
returns-in-Ok-clause-ended g c =
    let left' = g.I.Read.remaining c.read_from.new.reader in
    let held = g.W.Write.contents c.args.writer.now in
    let held' = g.W.Write.contents c.pass_window.new.writer in
    not_at_end c.pass_window.result left' held held' c.read_from.new.self.bytes c.pass_window.new.window.bytes c.pass_window.ensures

pub returns-in-Ok-clause-turned : goal.returns-in-Ok-clause-turned
returns-in-Ok-clause-turned g c =
    let left = g.I.Read.remaining c.args.reader.now in
    let left' = g.I.Read.remaining c.read_from.new.reader in
    let held = g.W.Write.contents c.args.writer.now in
    let held' = g.W.Write.contents c.pass_window.new.writer in
    let came = c.in-Ok.ensures.ok in
    read_turned c.pass_window.result left left' held held' c.args.window.now.bytes came.0 c.read_from.new.self.bytes c.pass_window.new.window.bytes came.2 came.3 c.pass_window.ensures

pub returns-in-Err-clause-turned : goal.returns-in-Err-clause-turned
returns-in-Err-clause-turned g c =
    let left = g.I.Read.remaining c.args.reader.now in
    let left' = g.I.Read.remaining c.read_from.new.reader in
    let held = g.W.Write.contents c.args.writer.now in
    turned_still left left' held c.args.window.now.bytes c.read_from.new.self.bytes (ap (λ (p : Pending). p.bytes) c.in-Err.ensures.err.0) c.in-Err.ensures.err.1

pub returns-in-Err-2-clause-turned : goal.returns-in-Err-2-clause-turned
returns-in-Err-2-clause-turned g c =
    let left = g.I.Read.remaining c.args.reader.now in
    let left' = g.I.Read.remaining c.read_from.new.reader in
    let held = g.W.Write.contents c.args.writer.now in
    (tt, read_failed ends.ReadFault left left' held c.args.window.now.bytes c.in-Err-2.ensures.err.1 (λ _. tt))
