-- Believed.
-- The numbers of statuses and of types: RFC 1813, section 2.6
use Rattle.std.specs.Prelude.{ℕ, ◌==◌, if◌then◌else◌, Option, Some, None}
use Rattle.nfs3_types.specs.declared.attributes.FileType.{FileType}
use Rattle.nfs3_types.specs.declared.attributes.FileType.TheVariants as types
use Rattle.nfs3_types.specs.declared.status.Failure.{Failure}
use Rattle.nfs3_types.specs.declared.status.Failure.TheVariants as statuses

-- a type's number in `ftype3`
abbrev pub type_number : FileType → ℕ
type_number types.Regular = 1
type_number types.Directory = 2
type_number types.BlockDevice = 3
type_number types.CharacterDevice = 4
type_number types.SymbolicLink = 5
type_number types.Socket = 6
type_number types.Fifo = 7

-- a status's number in `nfsstat3`, where NFS3_OK, 0, is no failure
abbrev pub status_number : Failure → ℕ
status_number statuses.NotOwner = 1
status_number statuses.NoEntry = 2
status_number statuses.InputOutput = 5
status_number statuses.NoDevice = 6
status_number statuses.Access = 13
status_number statuses.Exists = 17
status_number statuses.CrossDevice = 18
status_number statuses.NoSuchDevice = 19
status_number statuses.NotDirectory = 20
status_number statuses.IsDirectory = 21
status_number statuses.Invalid = 22
status_number statuses.FileTooLarge = 27
status_number statuses.NoSpace = 28
status_number statuses.ReadOnly = 30
status_number statuses.TooManyLinks = 31
status_number statuses.NameTooLong = 63
status_number statuses.NotEmpty = 66
status_number statuses.Quota = 69
status_number statuses.Stale = 70
status_number statuses.Remote = 71
status_number statuses.BadHandle = 10001
status_number statuses.NotSynchronized = 10002
status_number statuses.BadCookie = 10003
status_number statuses.NotSupported = 10004
status_number statuses.TooSmall = 10005
status_number statuses.ServerFault = 10006
status_number statuses.BadType = 10007
status_number statuses.Jukebox = 10008

-- the failure whose status has a number
unfoldable pub failure_of : ℕ → Option Failure
failure_of word =
    if word == status_number statuses.NotOwner then Some statuses.NotOwner
    else if word == status_number statuses.NoEntry then Some statuses.NoEntry
    else if word == status_number statuses.InputOutput then Some statuses.InputOutput
    else if word == status_number statuses.NoDevice then Some statuses.NoDevice
    else if word == status_number statuses.Access then Some statuses.Access
    else if word == status_number statuses.Exists then Some statuses.Exists
    else if word == status_number statuses.CrossDevice then Some statuses.CrossDevice
    else if word == status_number statuses.NoSuchDevice then Some statuses.NoSuchDevice
    else if word == status_number statuses.NotDirectory then Some statuses.NotDirectory
    else if word == status_number statuses.IsDirectory then Some statuses.IsDirectory
    else if word == status_number statuses.Invalid then Some statuses.Invalid
    else if word == status_number statuses.FileTooLarge then Some statuses.FileTooLarge
    else if word == status_number statuses.NoSpace then Some statuses.NoSpace
    else if word == status_number statuses.ReadOnly then Some statuses.ReadOnly
    else if word == status_number statuses.TooManyLinks then Some statuses.TooManyLinks
    else if word == status_number statuses.NameTooLong then Some statuses.NameTooLong
    else if word == status_number statuses.NotEmpty then Some statuses.NotEmpty
    else if word == status_number statuses.Quota then Some statuses.Quota
    else if word == status_number statuses.Stale then Some statuses.Stale
    else if word == status_number statuses.Remote then Some statuses.Remote
    else if word == status_number statuses.BadHandle then Some statuses.BadHandle
    else if word == status_number statuses.NotSynchronized then Some statuses.NotSynchronized
    else if word == status_number statuses.BadCookie then Some statuses.BadCookie
    else if word == status_number statuses.NotSupported then Some statuses.NotSupported
    else if word == status_number statuses.TooSmall then Some statuses.TooSmall
    else if word == status_number statuses.ServerFault then Some statuses.ServerFault
    else if word == status_number statuses.BadType then Some statuses.BadType
    else if word == status_number statuses.Jukebox then Some statuses.Jukebox
    else None
