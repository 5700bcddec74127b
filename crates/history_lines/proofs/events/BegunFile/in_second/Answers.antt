-- The root handle, the profile, the start and the number of events stand ahead of the events.
use Rattle.std.proofs.Common.{inl, inr}
use Rattle.std.proofs.lemmas.Result.{err_from_is_err_and}
use Rattle.history_file.specs.declared.version.Version.TheVariants.{Second}
use Rattle.history_lines.proofs.LeftLaws.{begun_second, root_fails, profile_fails, number_fails, start_fails, second_count_fails}
use Rattle.history_lines.proofs.events.BegunFile.in_second.Goals as goal

pub returns-in_err-opaque-clause-fault : goal.returns-in_err-opaque-clause-fault
returns-in_err-opaque-clause-fault c =
    let p = err_from_is_err_and c.from_residual.result c.from_residual.ensures.1 in
    rw (p.1, p.2) (inr (root_fails Second c.args.body.now c.in_err-opaque.field-0.0 (rw c.new-reader.ensures at c.in_err-opaque.ensures)))

pub returns-in_err-profile-clause-fault : goal.returns-in_err-profile-clause-fault
returns-in_err-profile-clause-fault c =
    let p = err_from_is_err_and c.from_residual-in_err-profile.result c.from_residual-in_err-profile.ensures.1 in
    rw (p.1, p.2) (inr (profile_fails c.args.body.now c.in_ok-opaque.field-0.now c.opaque.new.reader c.in_err-profile.field-0.0 (rw c.new-reader.ensures at c.in_ok-opaque.ensures) c.in_err-profile.ensures))

pub returns-in_err-number-clause-fault : goal.returns-in_err-number-clause-fault
returns-in_err-number-clause-fault c =
    let p = err_from_is_err_and c.from_residual-in_err-number.result c.from_residual-in_err-number.ensures.1 in
    rw (p.1, p.2) (inr (number_fails c.args.body.now c.in_ok-opaque.field-0.now c.in_ok-profile.profile c.opaque.new.reader c.profile.new.reader c.in_err-number.field-0.0 (rw c.new-reader.ensures at c.in_ok-opaque.ensures) c.in_ok-profile.ensures c.in_err-number.ensures.read))

pub returns-in_err-start-clause-fault : goal.returns-in_err-start-clause-fault
returns-in_err-start-clause-fault c =
    let p = err_from_is_err_and c.from_residual-in_err-start.result c.from_residual-in_err-start.ensures.1 in
    rw (p.1, p.2) (elim c.in_err-start.ensures [
      | inl none ↦ inl none
      | inr is ↦ inr (start_fails c.args.body.now c.in_ok-opaque.field-0.now c.in_ok-profile.profile c.in_ok-number.number c.opaque.new.reader c.profile.new.reader c.object_count.new.reader c.in_err-start.field-0.0 (rw c.new-reader.ensures at c.in_ok-opaque.ensures) c.in_ok-profile.ensures c.in_ok-number.ensures.read is)
    ])

pub returns-in_err-count-clause-fault : goal.returns-in_err-count-clause-fault
returns-in_err-count-clause-fault c =
    let p = err_from_is_err_and c.from_residual-in_err-count.result c.from_residual-in_err-count.ensures.1 in
    rw (p.1, p.2) (inr (second_count_fails c.args.body.now c.in_ok-opaque.field-0.now c.in_ok-profile.profile c.in_ok-number.number c.in_ok-start.start c.opaque.new.reader c.profile.new.reader c.object_count.new.reader c.objects.new.reader c.in_err-count.field-0.0 (rw c.new-reader.ensures at c.in_ok-opaque.ensures) c.in_ok-profile.ensures c.in_ok-number.ensures.read c.in_ok-start.ensures c.in_err-count.ensures))

pub returns-clause-found : goal.returns-clause-found
returns-clause-found c = (
  rw (c.ahead.ensures.count, c.ahead.ensures.rest)
      (begun_second c.args.body.now c.in_ok-opaque.field-0.now c.in_ok-profile.profile c.in_ok-number.number c.in_ok-start.start c.in_ok-count.count c.opaque.new.reader c.profile.new.reader c.object_count.new.reader c.objects.new.reader c.count.new.reader (rw c.new-reader.ensures at c.in_ok-opaque.ensures) c.in_ok-profile.ensures c.in_ok-number.ensures.read c.in_ok-start.ensures c.in_ok-count.ensures),
  c.ahead.ensures.none,
)
