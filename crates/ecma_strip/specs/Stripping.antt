-- The tree of the whole language without its types.
use Rattle.std.specs.Prelude.{ℕ, zero, suc, false, not, cond, List, [], ◌∷◌, map, filter, None}
use Rattle.ecma_kind.specs.declared.kind.Kind.{Kind}
use Rattle.ecma_kind.specs.declared.kind.Kind.TheVariants as kind
use Rattle.ecma_kind.specs.declared.operators.MemberModifiers.{MemberModifiers}
use Rattle.ecma_kind.specs.declared.span.Span.{Span}
use Rattle.ecma_tree.specs.declared.node.Node.{Node, Node-F, fold-Node, out-Node}
use Rattle.ecma_tree.specs.Nodes.{absent, node_of}
use Rattle.ecma_tree.specs.Sorted.{is_absent}
use Rattle.ecma_strip.specs.Staying.{is_empty_stmt, item_stays, stays}

-- modifiers of a member of a class: `static` alone stays
--   class A { private static override b() { } }   // becomes class A { static b() { } }
abbrev pub plain_modifiers : MemberModifiers → MemberModifiers
plain_modifiers modifiers = record { accessibility = None; is_static = modifiers.is_static; is_abstract = false; is_optional = false; is_override = false }

-- a kind without what its own data says of types: `?`, `!` after a name, and modifiers
--   let a!: T;   // becomes let a;
--   abstract class A { private b?: T; }   // becomes class A { b; }
unfoldable pub plain_kind : Kind → Kind
plain_kind (kind.Ident sym ctxt optional) = kind.Ident sym ctxt false
plain_kind (kind.ArrayPat optional) = kind.ArrayPat false
plain_kind (kind.ObjectPat optional) = kind.ObjectPat false
plain_kind (kind.VarDeclarator definite) = kind.VarDeclarator false
plain_kind (kind.Class is_abstract) = kind.Class false
plain_kind (kind.Constructor accessibility is_optional) = kind.Constructor None false
plain_kind (kind.ClassMethod k modifiers) = kind.ClassMethod k (plain_modifiers modifiers)
plain_kind (kind.PrivateMethod k modifiers) = kind.PrivateMethod k (plain_modifiers modifiers)
plain_kind (kind.ClassProp modifiers readonly declare definite) = kind.ClassProp (plain_modifiers modifiers) false false false
plain_kind (kind.PrivateProp modifiers readonly declare definite) = kind.PrivateProp (plain_modifiers modifiers) false false false
plain_kind k = k

-- the nodes with `to` of the one at an index
abbrev pub changed_at : ℕ → (Node → Node) → List Node → List Node
changed_at i to [] = []
changed_at zero to (n ∷ ns) = to n ∷ ns
changed_at (suc i) to (n ∷ ns) = n ∷ changed_at i to ns

-- a list of statements without empty ones
--   type T = U;; f();   // becomes f();
abbrev pub without_empty : Node → Node
without_empty list = node_of (out-Node list).span (out-Node list).kind (filter (λ n. not (is_empty_stmt (out-Node n).kind)) (out-Node list).children)

-- the body of a statement: where a declaration stands there that goes, as in no valid module, an empty statement stands in its place
--   while (a) b;   // stays
abbrev pub body_of : Node → Node
body_of n = cond (item_stays n) n (node_of (out-Node n).span kind.EmptyStmt [])

-- the parameter `this` of a setter is missing
--   ({ set a(this: T, b) { } });   // becomes ({ set a(b) { } });
abbrev pub without_this : Node → Node
without_this n = cond (is_absent (out-Node n).kind) n absent

-- the children of a node that have no types any more, by its kind: lists of statements, bodies of statements, and the `this` of a setter
unfoldable pub plain_children : Kind → List Node → List Node
plain_children (kind.Module shebang) = changed_at 0 without_empty
plain_children (kind.Script shebang) = changed_at 0 without_empty
plain_children kind.BlockStmt = changed_at 0 without_empty
plain_children kind.TsModuleBlock = changed_at 0 without_empty
plain_children kind.SwitchCase = changed_at 1 without_empty
plain_children kind.IfStmt = λ children. changed_at 1 body_of (changed_at 2 body_of children)
plain_children kind.LabeledStmt = changed_at 1 body_of
plain_children kind.WhileStmt = changed_at 1 body_of
plain_children kind.DoWhileStmt = changed_at 1 body_of
plain_children kind.ForStmt = changed_at 3 body_of
plain_children kind.ForInStmt = changed_at 2 body_of
plain_children (kind.ForOfStmt is_await) = changed_at 2 body_of
plain_children kind.SetterProp = changed_at 1 without_this
plain_children _ = λ children. children

-- an expression in the place of one with a type round it
--   a as T;   // becomes a;
abbrev pub operand : Span → Kind → List Node → Node
operand span k [] = node_of span k []
operand span k (e ∷ types) = e

-- a node whose children have no types any more and whose list has lost what goes
--   let a: T = <U>b;   // becomes let a = b;
--   f<T>(a!, b satisfies U);   // becomes f(a, b);
unfoldable pub plain : Span → Kind → List Node → Node
plain span kind.TsTypeAnn children = absent
plain span kind.TsType children = absent
plain span kind.TsTypeParamDecl children = absent
plain span kind.TsTypeParamInstantiation children = absent
plain span kind.TsTypeAssertion children = operand span kind.TsTypeAssertion children
plain span kind.TsConstAssertion children = operand span kind.TsConstAssertion children
plain span kind.TsNonNullExpr children = operand span kind.TsNonNullExpr children
plain span kind.TsAsExpr children = operand span kind.TsAsExpr children
plain span kind.TsInstantiation children = operand span kind.TsInstantiation children
plain span kind.TsSatisfiesExpr children = operand span kind.TsSatisfiesExpr children
plain span k children = node_of span (plain_kind k) (plain_children k children)

-- a node, and the node without types
pub record Both : Type 0 where
  pub node : Node
  pub stripped : Node

-- of a list, those whose node stays; all else stays
abbrev pub staying : Kind → List Both → List Both
staying kind.List children = filter (λ child. stays child.node) children
staying _ children = children

-- the same of nodes alone
abbrev pub staying_nodes : Kind → List Node → List Node
staying_nodes kind.List nodes = filter stays nodes
staying_nodes _ nodes = nodes

abbrev pub strip_step : Node-F Both → Both
strip_step parts =
    record { node = node_of parts.span parts.kind (map (λ child. child.node) parts.children); stripped = plain parts.span parts.kind (map (λ child. child.stripped) (staying parts.kind parts.children)) }

-- the tree without its types: lists lose what goes, then the nodes from the leaves up become plain
abbrev pub stripped : Node → Node
stripped node = (fold-Node Both strip_step node).stripped
