-- Functions that do nothing when they are called.
use Rattle.std.specs.Prelude.{Bool, true, false, ◌&&◌, List, [], ◌∷◌}
use Rattle.std.specs.List.{list_all}
use Rattle.ecma_kind.specs.declared.kind.Kind.{Kind}
use Rattle.ecma_kind.specs.declared.kind.Kind.TheVariants as kind
use Rattle.ecma_tree.specs.declared.node.Node.{Node, out-Node}

-- a declared name
abbrev pub is_named_by : Kind → List Node → Bool
is_named_by kind.BindingIdent (id ∷ annotation ∷ []) = true
is_named_by k children = false

abbrev pub is_named : Node → Bool
is_named n = is_named_by (out-Node n).kind (out-Node n).children

-- a parameter that is one
abbrev pub is_plain_by : Kind → List Node → Bool
is_plain_by kind.Param (pattern' ∷ []) = is_named pattern'
is_plain_by k children = false

abbrev pub is_plain : Node → Bool
is_plain n = is_plain_by (out-Node n).kind (out-Node n).children

abbrev pub are_plain_by : Kind → List Node → Bool
are_plain_by kind.List children = list_all is_plain children
are_plain_by k children = false

abbrev pub are_plain : Node → Bool
are_plain n = are_plain_by (out-Node n).kind (out-Node n).children

-- a body without statements
abbrev pub has_none_by : Kind → List Node → Bool
has_none_by kind.List [] = true
has_none_by k children = false

abbrev pub has_none : Node → Bool
has_none n = has_none_by (out-Node n).kind (out-Node n).children

abbrev pub is_empty_by : Kind → List Node → Bool
is_empty_by kind.BlockStmt (statements ∷ []) = has_none statements
is_empty_by k children = false

abbrev pub is_empty : Node → Bool
is_empty n = is_empty_by (out-Node n).kind (out-Node n).children

-- its code does nothing
--   function (a, b) { }
abbrev pub does_nothing_by : Kind → List Node → Bool
does_nothing_by (kind.Function false false) (parameters ∷ body ∷ types ∷ return_type ∷ []) = are_plain parameters && is_empty body
does_nothing_by k children = false

abbrev pub does_nothing : Node → Bool
does_nothing n = does_nothing_by (out-Node n).kind (out-Node n).children

-- and neither does a call of an async function or a generator, which is open
abbrev pub is_harmless_by : Kind → List Node → Bool
is_harmless_by (kind.Function false false) children = does_nothing_by (kind.Function false false) children
is_harmless_by (kind.Function is_generator is_async) children = true
is_harmless_by k children = false

abbrev pub is_harmless : Node → Bool
is_harmless n = is_harmless_by (out-Node n).kind (out-Node n).children
