-- Believed.
-- Attributes in messages (RFC 1813, section 2.6): how they stand, how they are written, and the numbers that
-- can be written.
use Rattle.std.specs.Prelude.{ℕ, ◌<◌, ◌^◌, List, ◌++◌, IfSome}
use Rattle.xdr_records.specs.Grammar.{Grammar, ◌>>=◌}
use Rattle.xdr_records.specs.Grammar.Grammar.{one_word, one_long, named, nothing}
use Rattle.xdr_records.specs.Texts.{word_text, long_text, optional_text}
use Rattle.nfs3_types.specs.declared.attributes.Time.{Time}
use Rattle.nfs3_types.specs.declared.attributes.Device.{Device}
use Rattle.nfs3_types.specs.declared.attributes.FileAttributes.{FileAttributes}
use Rattle.nfs3_types.specs.declared.attributes.WccAttributes.{WccAttributes}
use Rattle.nfs3_types.specs.declared.attributes.WccData.{WccData}
use Rattle.nfs3_values.specs.declared.fault.Kind.{Kind}
use Rattle.nfs3_types.specs.Numbers.{type_number}
use Rattle.nfs3_values.specs.Words.{file_type_of}
use Rattle.nfs3_values.specs.Bytes.{optional_of}

-- nfstime3
unfoldable pub time : Grammar Kind Time
time = do
  seconds ← one_word
  nanoseconds ← one_word
  nothing (record { seconds = seconds; nanoseconds = nanoseconds })

unfoldable pub time_text : Time → List ℕ
time_text t = word_text t.seconds ++ word_text t.nanoseconds

unfoldable pub TimeFits : Time → Type 0
TimeFits t = (t.seconds < 2 ^ 32) × (t.nanoseconds < 2 ^ 32)

-- specdata3
unfoldable pub device : Grammar Kind Device
device = do
  major ← one_word
  minor ← one_word
  nothing (record { major = major; minor = minor })

unfoldable pub device_text : Device → List ℕ
device_text d = word_text d.major ++ word_text d.minor

unfoldable pub DeviceFits : Device → Type 0
DeviceFits d = (d.major < 2 ^ 32) × (d.minor < 2 ^ 32)

-- fattr3
unfoldable pub file_attributes : Grammar Kind FileAttributes
file_attributes = do
  file_type ← named file_type_of
  mode ← one_word
  link_count ← one_word
  user ← one_word
  group ← one_word
  size ← one_long
  used ← one_long
  rdev ← device
  file_system ← one_long
  file_number ← one_long
  access_time ← time
  modify_time ← time
  change_time ← time
  nothing (record {
    file_type = file_type;
    mode = mode;
    link_count = link_count;
    user = user;
    group = group;
    size = size;
    used = used;
    device = rdev;
    file_system = file_system;
    file_number = file_number;
    access_time = access_time;
    modify_time = modify_time;
    change_time = change_time;
  })

-- the last three fields
unfoldable pub times_text : FileAttributes → List ℕ
times_text a = time_text a.access_time ++ (time_text a.modify_time ++ time_text a.change_time)

-- the fields from size on
unfoldable pub sizes_text : FileAttributes → List ℕ
sizes_text a = long_text a.size ++ (long_text a.used ++ (device_text a.device ++ (long_text a.file_system ++ (long_text a.file_number ++ times_text a))))

unfoldable pub file_attributes_text : FileAttributes → List ℕ
file_attributes_text a = word_text (type_number a.file_type) ++ (word_text a.mode ++ (word_text a.link_count ++ (word_text a.user ++ (word_text a.group ++ sizes_text a))))

unfoldable pub TimesFit : FileAttributes → Type 0
TimesFit a = TimeFits a.access_time × TimeFits a.modify_time × TimeFits a.change_time

unfoldable pub SizesFit : FileAttributes → Type 0
SizesFit a = (a.size < 2 ^ 64) × (a.used < 2 ^ 64) × DeviceFits a.device × (a.file_system < 2 ^ 64) × (a.file_number < 2 ^ 64) × TimesFit a

unfoldable pub FileAttributesFit : FileAttributes → Type 0
FileAttributesFit a = (a.mode < 2 ^ 32) × (a.link_count < 2 ^ 32) × (a.user < 2 ^ 32) × (a.group < 2 ^ 32) × SizesFit a

-- wcc_attr
unfoldable pub wcc_attributes : Grammar Kind WccAttributes
wcc_attributes = do
  size ← one_long
  modify_time ← time
  change_time ← time
  nothing (record { size = size; modify_time = modify_time; change_time = change_time })

unfoldable pub wcc_attributes_text : WccAttributes → List ℕ
wcc_attributes_text a = long_text a.size ++ (time_text a.modify_time ++ time_text a.change_time)

unfoldable pub WccAttributesFit : WccAttributes → Type 0
WccAttributesFit a = (a.size < 2 ^ 64) × TimeFits a.modify_time × TimeFits a.change_time

-- wcc_data: pre_op_attr, post_op_attr
unfoldable pub wcc_data : Grammar Kind WccData
wcc_data = do
  before ← optional_of wcc_attributes
  after ← optional_of file_attributes
  nothing (record { before = before; after = after })

unfoldable pub wcc_data_text : WccData → List ℕ
wcc_data_text w = optional_text wcc_attributes_text w.before ++ optional_text file_attributes_text w.after

unfoldable pub WccDataFits : WccData → Type 0
WccDataFits w = IfSome w.before WccAttributesFit × IfSome w.after FileAttributesFit
