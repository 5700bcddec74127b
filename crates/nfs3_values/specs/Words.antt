-- Believed.
-- The lists of words that have a name (RFC 1813), and the word of each name.
use Rattle.std.specs.Prelude.{ℕ, ◌==◌, if◌then◌else◌, Result, Ok, Err, Option, Some, None}
use Rattle.nfs3_types.specs.declared.attributes.FileType.{FileType}
use Rattle.nfs3_types.specs.declared.attributes.FileType.TheVariants as types
use Rattle.nfs3_types.specs.declared.calls.StableHow.{StableHow}
use Rattle.nfs3_types.specs.declared.calls.StableHow.TheVariants as levels
use Rattle.nfs3_types.specs.declared.status.Failure.{Failure}
use Rattle.nfs3_types.specs.Numbers.{type_number, failure_of}
use Rattle.nfs3_values.specs.declared.fault.Kind.{Kind}
use Rattle.nfs3_values.specs.declared.fault.Kind.TheVariants as kinds

-- ftype3, RFC 1813, section 2.6
unfoldable pub file_type_of : ℕ → Result FileType Kind
file_type_of word =
    if word == type_number types.Regular then Ok types.Regular
    else if word == type_number types.Directory then Ok types.Directory
    else if word == type_number types.BlockDevice then Ok types.BlockDevice
    else if word == type_number types.CharacterDevice then Ok types.CharacterDevice
    else if word == type_number types.SymbolicLink then Ok types.SymbolicLink
    else if word == type_number types.Socket then Ok types.Socket
    else if word == type_number types.Fifo then Ok types.Fifo
    else Err kinds.BadEnum

-- stable_how, RFC 1813, section 3.3.7
unfoldable pub stable_how_of : ℕ → Result StableHow Kind
stable_how_of word =
    if word == 0 then Ok levels.Unstable
    else if word == 1 then Ok levels.DataSync
    else if word == 2 then Ok levels.FileSync
    else Err kinds.BadEnum

-- the word of a level
unfoldable pub stable_how_word : StableHow → ℕ
stable_how_word levels.Unstable = 0
stable_how_word levels.DataSync = 1
stable_how_word levels.FileSync = 2

-- time_how, RFC 1813, section 2.6
pub data TimeHow : Type 0 where
  keep : TimeHow
  server_time : TimeHow
  client_time : TimeHow

unfoldable pub time_how_of : ℕ → Result TimeHow Kind
time_how_of word =
    if word == 0 then Ok TimeHow.keep
    else if word == 1 then Ok TimeHow.server_time
    else if word == 2 then Ok TimeHow.client_time
    else Err kinds.BadEnum

-- createmode3, RFC 1813, section 3.3.8
pub data CreateHow : Type 0 where
  unchecked : CreateHow
  guarded : CreateHow
  exclusive : CreateHow

unfoldable pub create_how_of : ℕ → Result CreateHow Kind
create_how_of word =
    if word == 0 then Ok CreateHow.unchecked
    else if word == 1 then Ok CreateHow.guarded
    else if word == 2 then Ok CreateHow.exclusive
    else Err kinds.BadEnum

-- a status that is no success
abbrev pub failed_or_bad : Option Failure → Result (Option Failure) Kind
failed_or_bad (Some failure) = Ok (Some failure)
failed_or_bad None = Err kinds.BadEnum

-- nfsstat3, RFC 1813, section 2.6: none for NFS3_OK
unfoldable pub status_of : ℕ → Result (Option Failure) Kind
status_of word = if word == 0 then Ok None else failed_or_bad (failure_of word)
