-- The ids whose texts are keys where shorthands are written out.
use Rattle.std.specs.Prelude.{Bool, true, false, List, [], ◌∷◌, ◌++◌, map, cond}
use Rattle.ecma_kind.specs.declared.kind.Kind.{Kind}
use Rattle.ecma_kind.specs.declared.kind.Kind.TheVariants as kind
use Rattle.ecma_tree.specs.declared.node.Node.{Node, Node-F, fold-Node}
use Rattle.ecma_runs.specs.State.{Id}
use Rattle.ecma_runs.specs.Names.{Keys, all_below, at_keys, here_by}

-- the keys of a node, and whether it is a name
pub record KeyNames : Type 0 where
  pub keys : Keys
  pub is_name : Bool

abbrev pub is_name_by : Kind → Bool
is_name_by (kind.Ident sym ctxt optional) = true
is_name_by (kind.Str text raw) = true
is_name_by _ = false

-- an import with both names has its text from the second
abbrev pub at_names : Kind → List KeyNames → List Id
at_names (kind.ImportNamedSpecifier is_type_only) (local ∷ name ∷ []) = cond name.is_name name.keys.here (local.keys.here ++ name.keys.here)
at_names k parts = at_keys k (map (λ part. part.keys) parts)

abbrev pub key_names_by : Node-F KeyNames → KeyNames
key_names_by parts = record {
  keys = record { here = here_by parts.kind (map (λ part. part.keys) parts.children); all = at_names parts.kind parts.children ++ all_below (map (λ part. part.keys) parts.children) };
  is_name = is_name_by parts.kind;
}

abbrev pub key_names : Node → KeyNames
key_names = fold-Node KeyNames key_names_by

-- the ids whose texts are keys somewhere in a tree
abbrev pub key_names_in : Node → List Id
key_names_in m = (key_names m).keys.all
