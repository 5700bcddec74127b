-- Believed.
-- Byte strings and verifiers in messages, and the optional item.
use Rattle.std.specs.Prelude.{ℕ, List, [], Option}
use Rattle.xdr_records.specs.Grammar.{Grammar, ◌>>=◌, optional}
use Rattle.xdr_records.specs.Grammar.Grammar.{one_long, one_opaque, nothing, many}
use Rattle.xdr_records.specs.Texts.{long_text}
use Rattle.nfs3_types.specs.declared.attributes.Verifier.{Verifier}
use Rattle.nfs3_values.specs.declared.fault.Kind.{Kind}

-- nfs_fh3, RFC 1813, section 2.6: at most NFS3_FHSIZE bytes
unfoldable pub handle : Grammar Kind (List ℕ)
handle = one_opaque 64

-- filename3, RFC 1813, section 2.5: a string with no limit
unfoldable pub name : Grammar Kind (List ℕ)
name = one_opaque 4294967295

-- nfspath3, RFC 1813, section 2.5: a string with no limit
unfoldable pub link_text : Grammar Kind (List ℕ)
link_text = one_opaque 4294967295

-- data, RFC 1813, sections 3.3.6 and 3.3.7: opaque bytes with no limit
unfoldable pub file_data : Grammar Kind (List ℕ)
file_data = one_opaque 4294967295

-- writeverf3 and createverf3, RFC 1813, section 2.5: eight bytes
unfoldable pub verifier : Grammar Kind Verifier
verifier = do
  value ← one_long
  nothing (record { value = value })

-- how a verifier is written
unfoldable pub verifier_text : Verifier → List ℕ
verifier_text v = long_text v.value

-- optional data, RFC 4506, section 4.19
unfoldable pub optional_of : {A : Type 0} → Grammar Kind A → Grammar Kind (Option A)
optional_of g = optional g

-- dirlist3 and dirlistplus3 up to eof, RFC 1813, sections 3.3.16 and 3.3.17: a linked list, RFC 4506, section 4.19
unfoldable pub entries : {A : Type 0} → Grammar Kind A → Grammar Kind (List A)
entries g = many g

-- void, RFC 4506, section 4.16
unfoldable pub void : Grammar Kind (Unit {0})
void = nothing tt

unfoldable pub void_text : Unit {0} → List ℕ
void_text u = []
