-- Calls of `super`.
use Rattle.std.specs.Prelude.{Bool, false, true, List, [], ◌∷◌}
use Rattle.ecma_kind.specs.declared.kind.Kind.{Kind}
use Rattle.ecma_kind.specs.declared.kind.Kind.TheVariants as kind
use Rattle.ecma_tree.specs.declared.node.Node.{Node, out-Node}

abbrev pub first_is : (Node → Bool) → List Node → Bool
first_is test [] = false
first_is test (n ∷ ns) = test n

abbrev super_kind : Kind → Bool
super_kind kind.Super = true
super_kind _ = false

abbrev pub is_super : Node → Bool
is_super n = super_kind (out-Node n).kind

abbrev call_by : Kind → List Node → Bool
call_by kind.CallExpr children = first_is is_super children
call_by _ children = false

--   super(a)
abbrev pub is_super_call : Node → Bool
is_super_call n = call_by (out-Node n).kind (out-Node n).children

abbrev stmt_by : Kind → List Node → Bool
stmt_by kind.ExprStmt children = first_is is_super_call children
stmt_by _ children = false

--   super(a);
abbrev pub is_super_stmt : Node → Bool
is_super_stmt n = stmt_by (out-Node n).kind (out-Node n).children
