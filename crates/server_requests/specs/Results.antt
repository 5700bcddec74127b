-- For the prover, and for callers.
-- The results of what is answered ahead of a server, as bytes. The numbers are the bundled server's; which it tells is this project's own.
use Rattle.std.specs.Prelude.{ℕ, true, false, List, [], ◌∷◌, ◌++◌, replicate, codes, flat_map}
use Rattle.nfs3_types.specs.Limits.{file_limit, transfer_limit}
use Rattle.xdr_records.specs.Texts.{word_text, long_text, flag_text, opaque_text}

-- ---- the MOUNT service, RFC 1813, section 5.2

-- section 5.2.1, MNT: MNT3_OK, the handle of the root directory, and two flavors of credentials, AUTH_SYS and AUTH_NONE
unfoldable pub root_text : List ℕ
root_text = word_text 0 ++ (opaque_text (replicate 8 0) ++ flat_map word_text (2 ∷ 1 ∷ 0 ∷ []))

-- section 5.2.5, EXPORT: an entry, which has the path "/" and an empty list of groups, and the end of the list
unfoldable pub exports_text : List ℕ
exports_text = flag_text true ++ (opaque_text (codes "/") ++ (flag_text false ++ flag_text false))

-- ---- NFS, RFC 1813, section 3.3

-- NFS3_OK, and no attributes (section 2.6, post_op_attr)
unfoldable pub done_text : List ℕ
done_text = word_text 0 ++ flag_text false

-- section 3.3.4, ACCESS
unfoldable pub rights_text : ℕ → List ℕ
rights_text rights = done_text ++ word_text rights

-- section 3.3.18, FSSTAT: tbytes, fbytes, abytes, tfiles, ffiles and afiles, then invarsec
unfoldable pub space_text : List ℕ
space_text =
    done_text ++ (flat_map long_text (1099511627776 ∷ 1099511627776 ∷ 1099511627776 ∷ 4294967295 ∷ 4294967295 ∷ 4294967295 ∷ []) ++ word_text 0)

-- section 3.3.19, FSINFO: rtmax, rtpref, rtmult, wtmax, wtpref, wtmult and dtpref, then maxfilesize, then the seconds and nanoseconds of
-- time_delta and the properties, FSF3_SYMLINK and FSF3_HOMOGENEOUS
unfoldable pub transfers_text : List ℕ
transfers_text =
    done_text ++ (flat_map word_text (transfer_limit ∷ transfer_limit ∷ 1 ∷ transfer_limit ∷ transfer_limit ∷ 1 ∷ transfer_limit ∷ []) ++ (long_text file_limit ++ flat_map word_text (0 ∷ 1 ∷ 10 ∷ [])))

-- section 3.3.20, PATHCONF: linkmax and name_max, then no_trunc, chown_restricted, case_insensitive and case_preserving
unfoldable pub names_text : List ℕ
names_text = done_text ++ (flat_map word_text (1 ∷ 255 ∷ []) ++ (flag_text true ++ (flag_text true ++ (flag_text false ++ flag_text true))))
