-- Statements and module declarations among the items of a module.
use Rattle.std.specs.Prelude.{Bool, true, false, List, [], ◌∷◌, Option, Some, None, if◌then◌else◌}
use Rattle.ecma_kind.specs.Sorts.{belongs}
use Rattle.ecma_kind.specs.declared.kind.Kind.{Kind}
use Rattle.ecma_kind.specs.declared.kind.Kind.TheVariants as kind
use Rattle.ecma_kind.specs.declared.shapes.Sort.TheVariants as sort
use Rattle.ecma_tree.specs.declared.node.Node.{Node, out-Node}

abbrev pub is_statement : Node → Bool
is_statement node = belongs sort.Stmt (out-Node node).kind

abbrev pub is_declaration : Node → Bool
is_declaration node = belongs sort.ModuleDecl (out-Node node).kind

abbrev pub some_if : {A : Type 0} → Bool → A → Option A
some_if holds a = if holds then Some a else None

-- ---- what is empty

abbrev pub is_nil : List Node → Bool
is_nil [] = true
is_nil _ = false

-- of the children of a block: no statement stands in it
abbrev pub has_no_stmts : List Node → Bool
has_no_stmts [] = true
has_no_stmts (list ∷ others) = is_nil (out-Node list).children

-- of the children of a catch clause: no statement stands in its body
abbrev pub has_empty_body : List Node → Bool
has_empty_body (param ∷ body ∷ others) = has_no_stmts (out-Node body).children
has_empty_body _ = true

abbrev pub is_empty_by : Kind → List Node → Bool
is_empty_by kind.EmptyStmt children = true
is_empty_by kind.BlockStmt children = has_no_stmts children
is_empty_by kind.CatchClause children = has_empty_body children
is_empty_by _ children = false

-- an empty statement, an empty block, and a catch clause with an empty block
--   ;
--   {}
--   catch (e) {}
abbrev pub is_empty_node : Node → Bool
is_empty_node node = is_empty_by (out-Node node).kind (out-Node node).children
