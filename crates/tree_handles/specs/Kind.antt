-- Believed.
-- what an object is: RFC 1813, section 2.6, `ftype3`
use Rattle.std.specs.Prelude.{Bool, true, false}
use Rattle.tree_nodes.specs.declared.node.Content.{Content}
use Rattle.tree_nodes.specs.declared.node.Content.TheVariants as contents

abbrev pub is_directory : Content → Bool
is_directory contents.Directory = true
is_directory (contents.File _) = false
is_directory (contents.Link _) = false

abbrev pub is_file : Content → Bool
is_file contents.Directory = false
is_file (contents.File _) = true
is_file (contents.Link _) = false

abbrev pub is_link : Content → Bool
is_link contents.Directory = false
is_link (contents.File _) = false
is_link (contents.Link _) = true
