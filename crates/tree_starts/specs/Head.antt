-- Believed.
-- What a history begins with: the root's handle, what the server held, and how strictly its replies are judged (this project's own;
-- the root handle is RFC 1813's `nfs_fh3`).
use Rattle.std.specs.Prelude.{ℕ, List, []}
use Rattle.tree_starts.specs.declared.object.StartObject.{StartObject}
use Rattle.tree_starts.specs.declared.profile.Profile.{Profile}
use Rattle.tree_starts.specs.declared.profile.Profile.TheVariants.{Plain}

pub record Head : Type 0 where
  pub root : List ℕ
  pub start : List StartObject
  pub profile : Profile

-- of a server that held nothing, whose attributes aren't judged
abbrev pub plain_head : List ℕ → Head
plain_head root = record { root = root; start = []; profile = Plain }
