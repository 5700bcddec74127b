-- For the prover, and for callers.
-- The statuses of MNT by their numbers: RFC 1813, section 5.1.5, enum mountstat3.
use Rattle.std.specs.Prelude.{ℕ, ◌==◌, if◌then◌else◌}
use Rattle.mount_client.specs.declared.status.MountStatus.{MountStatus}
use Rattle.mount_client.specs.declared.status.MountStatus.TheVariants.{NotOwner, NoEntry, InputOutput, Access, NotDirectory, Invalid, NameTooLong, NotSupported, ServerFault, Other}

abbrev pub status_named : ℕ → MountStatus
status_named number =
    if number == 1 then NotOwner
    else if number == 2 then NoEntry
    else if number == 5 then InputOutput
    else if number == 13 then Access
    else if number == 20 then NotDirectory
    else if number == 22 then Invalid
    else if number == 63 then NameTooLong
    else if number == 10004 then NotSupported
    else if number == 10006 then ServerFault
    else Other number
