-- Believed.
-- The attributes that a call sets (RFC 1813, section 2.6): how they stand, how they are written, and the numbers that
-- can be written.
use Rattle.std.specs.Prelude.{ℕ, ◌<◌, ◌^◌, List, ◌++◌, IfSome}
use Rattle.xdr_records.specs.Grammar.{Grammar, ◌>>=◌}
use Rattle.xdr_records.specs.Grammar.Grammar.{one_word, one_long, named, nothing}
use Rattle.xdr_records.specs.Texts.{word_text, long_text, optional_text}
use Rattle.nfs3_types.specs.declared.attributes.SetTime.{SetTime}
use Rattle.nfs3_types.specs.declared.attributes.SetTime.TheVariants as times
use Rattle.nfs3_types.specs.declared.attributes.SetAttributes.{SetAttributes}
use Rattle.nfs3_values.specs.declared.fault.Kind.{Kind}
use Rattle.nfs3_values.specs.Words.{TimeHow, time_how_of}
use Rattle.nfs3_values.specs.Bytes.{optional_of}
use Rattle.nfs3_values.specs.Attributes.{time, time_text, TimeFits}

-- what stands behind time_how
abbrev pub set_time_behind : TimeHow → Grammar Kind SetTime
set_time_behind TimeHow.keep = nothing times.Keep
set_time_behind TimeHow.server_time = nothing times.ServerTime
set_time_behind TimeHow.client_time = do
  client ← time
  nothing (times.ClientTime client)

-- set_atime and set_mtime
unfoldable pub set_time : Grammar Kind SetTime
set_time = do
  how ← named time_how_of
  set_time_behind how

unfoldable pub set_time_text : SetTime → List ℕ
set_time_text times.Keep = word_text 0
set_time_text times.ServerTime = word_text 1
set_time_text (times.ClientTime client) = word_text 2 ++ time_text client

unfoldable pub SetTimeFits : SetTime → Type 0
SetTimeFits times.Keep = Unit {0}
SetTimeFits times.ServerTime = Unit {0}
SetTimeFits (times.ClientTime client) = TimeFits client

-- sattr3
unfoldable pub set_attributes : Grammar Kind SetAttributes
set_attributes = do
  mode ← optional_of one_word
  user ← optional_of one_word
  group ← optional_of one_word
  size ← optional_of one_long
  access_time ← set_time
  modify_time ← set_time
  nothing (record {
    mode = mode;
    user = user;
    group = group;
    size = size;
    access_time = access_time;
    modify_time = modify_time;
  })

unfoldable pub set_attributes_text : SetAttributes → List ℕ
set_attributes_text a = optional_text word_text a.mode ++ (optional_text word_text a.user ++ (optional_text word_text a.group ++ (optional_text long_text a.size ++ (set_time_text a.access_time ++ set_time_text a.modify_time))))

unfoldable pub SetAttributesFit : SetAttributes → Type 0
SetAttributesFit a = IfSome a.mode (λ n. n < 2 ^ 32) × IfSome a.user (λ n. n < 2 ^ 32) × IfSome a.group (λ n. n < 2 ^ 32) × IfSome a.size (λ n. n < 2 ^ 64) × SetTimeFits a.access_time × SetTimeFits a.modify_time
