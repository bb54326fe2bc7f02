-- Trees in which parts stand for others that mean the same.
use Rattle.std.specs.Prelude.{◌≡◌, Bool, true, List, [], ◌∷◌, map}
use Rattle.std.specs.List.{list_all}
use Rattle.ecma_kind.specs.declared.kind.Kind.{Kind}
use Rattle.ecma_kind.specs.declared.kind.Kind.TheVariants as kind
use Rattle.ecma_kind.specs.declared.operators.UnaryOp.{UnaryOp}
use Rattle.ecma_kind.specs.declared.operators.UnaryOp.TheVariants as operator
use Rattle.ecma_tree.specs.declared.node.Node.{Node, Node-F, out-Node, roll-Node}
use Rattle.ecma_tree.specs.Nodes.{node_of}
use Rattle.ecma_tree.specs.Rewritten.{rewritten}
use Rattle.ecma_runs.specs.Meaning.{Meaning}
use Rattle.ecma_runs.specs.Evaluation.{meaning_by, meaning}

-- equal parts

-- a map of trees by which the image of a node means, in each role, what the node's kind makes of what the images of its children mean: for the nodes that
-- pass a test, and so do their children then. What functions do that such a node makes is told of the image, since they keep it.
pub record KeepsMeanings (test : Node → Bool) (f : Node → Node) : Type 0 where
  pub below : (x : Node-F Node) → test (roll-Node x) ≡ true → list_all test x.children ≡ true
  pub same : (x : Node-F Node) → test (roll-Node x) ≡ true → meaning (f (roll-Node x)) ≡ meaning_by (f (roll-Node x)) x.kind (map meaning (map f x.children))

-- expressions

-- the second does what the first does where an expression is read: its value, and as an initializer, an argument, an element, a part of a template,
-- the test and the update of `for`, the body of an arrow function; and it declares the same
pub record ReadsAlike (m m' : Meaning) : Type 0 where
  pub value : m'.value ≡ m.value
  pub initial : m'.initial ≡ m.initial
  pub arguments : m'.arguments ≡ m.arguments
  pub elements : m'.elements ≡ m.elements
  pub texts : m'.texts ≡ m.texts
  pub effect : m'.effect ≡ m.effect
  pub test : m'.test ≡ m.test
  pub body : m'.body ≡ m.body
  pub vars : m'.vars ≡ m.vars
  pub locals : m'.locals ≡ m.locals
  pub declared : m'.declared ≡ m.declared
  pub is_absent : m'.is_absent ≡ m.is_absent

-- the items of a list
abbrev pub items_by : (Node → Node) → Kind → Node → Node
items_by swap kind.List n = node_of (out-Node n).span kind.List (map swap (out-Node n).children)
items_by swap k n = n

abbrev pub items : (Node → Node) → Node → Node
items swap n = items_by swap (out-Node n).kind n

-- the operand: `typeof` and `delete` ask for what it refers to
abbrev pub operand_of : (Node → Node) → UnaryOp → Node → Node
operand_of swap operator.TypeOf e = e
operand_of swap operator.Delete e = e
operand_of swap op e = swap e

-- the children, with those exchanged that are expressions which are only read: neither targets nor callees nor objects of members
abbrev pub in_seats : (Node → Node) → Kind → List Node → List Node
in_seats swap kind.ExprStmt (e ∷ []) = swap e ∷ []
in_seats swap kind.ReturnStmt (e ∷ []) = swap e ∷ []
in_seats swap kind.ThrowStmt (e ∷ []) = swap e ∷ []
in_seats swap kind.IfStmt (test ∷ yes' ∷ no' ∷ []) = swap test ∷ yes' ∷ no' ∷ []
in_seats swap kind.SwitchStmt (discriminant ∷ cases ∷ []) = swap discriminant ∷ cases ∷ []
in_seats swap kind.SwitchCase (test ∷ statements ∷ []) = swap test ∷ statements ∷ []
in_seats swap kind.WhileStmt (test ∷ body ∷ []) = swap test ∷ body ∷ []
in_seats swap kind.DoWhileStmt (test ∷ body ∷ []) = swap test ∷ body ∷ []
in_seats swap kind.ForStmt (init ∷ test ∷ update ∷ body ∷ []) = init ∷ swap test ∷ swap update ∷ body ∷ []
in_seats swap (kind.VarDeclarator definite) (name ∷ init ∷ []) = name ∷ swap init ∷ []
in_seats swap kind.AssignPat (pattern' ∷ default ∷ []) = pattern' ∷ swap default ∷ []
in_seats swap kind.AssignPatProp (name ∷ default ∷ []) = name ∷ swap default ∷ []
in_seats swap (kind.UnaryExpr op) (operand ∷ []) = operand_of swap op operand ∷ []
in_seats swap (kind.BinExpr op) (left ∷ right ∷ []) = swap left ∷ swap right ∷ []
in_seats swap (kind.AssignExpr op) (target ∷ right ∷ []) = target ∷ swap right ∷ []
in_seats swap kind.CondExpr (test ∷ yes' ∷ no' ∷ []) = swap test ∷ swap yes' ∷ swap no' ∷ []
in_seats swap kind.SeqExpr es = map swap es
in_seats swap kind.CallExpr (callee ∷ arguments ∷ types ∷ []) = callee ∷ items swap arguments ∷ types ∷ []
in_seats swap kind.OptCall (callee ∷ arguments ∷ types ∷ []) = callee ∷ items swap arguments ∷ types ∷ []
in_seats swap kind.NewExpr (callee ∷ arguments ∷ types ∷ []) = callee ∷ items swap arguments ∷ types ∷ []
in_seats swap kind.ArrayLit (elements ∷ []) = items swap elements ∷ []
in_seats swap kind.Tpl (expressions ∷ parts ∷ []) = items swap expressions ∷ parts ∷ []
in_seats swap (kind.ArrowExpr is_async is_generator) (parameters ∷ body ∷ types ∷ return_type ∷ []) = parameters ∷ swap body ∷ types ∷ return_type ∷ []
in_seats swap kind.KeyValueProp (key ∷ value ∷ []) = key ∷ swap value ∷ []
in_seats swap kind.ComputedPropName (e ∷ []) = swap e ∷ []
in_seats swap (kind.ClassProp modifiers readonly declare definite) (key ∷ value ∷ type ∷ []) = key ∷ swap value ∷ type ∷ []
in_seats swap (kind.Class is_abstract) (super ∷ body ∷ types ∷ super_types ∷ implements ∷ []) = swap super ∷ body ∷ types ∷ super_types ∷ implements ∷ []
in_seats swap k children = children

abbrev pub exchanged_node : (Node → Node) → Node-F Node → Node
exchanged_node swap parts = node_of parts.span parts.kind (in_seats swap parts.kind parts.children)

-- the tree with its expressions exchanged wherever they are only read, from the leaves up
abbrev pub exchanged : (Node → Node) → Node → Node
exchanged swap = rewritten (exchanged_node swap)

-- references

-- the second does what the first does where an expression is referred to: what it refers to, as a target, and in front of a link of an optional chain;
-- and it declares the same
pub record RefersAlike (m m' : Meaning) : Type 0 where
  pub reference : m'.reference ≡ m.reference
  pub written : m'.written ≡ m.written
  pub assigned : m'.assigned ≡ m.assigned
  pub chain : m'.chain ≡ m.chain
  pub is_super : m'.is_super ≡ m.is_super
  pub declared : m'.declared ≡ m.declared

-- the children, with those exchanged that are targets, callees, objects of members, or operands of `typeof` and `delete`
abbrev pub in_references : (Node → Node) → Kind → List Node → List Node
in_references swap (kind.UnaryExpr operator.TypeOf) (operand ∷ []) = swap operand ∷ []
in_references swap (kind.UnaryExpr operator.Delete) (operand ∷ []) = swap operand ∷ []
in_references swap (kind.UpdateExpr op prefix) (operand ∷ []) = swap operand ∷ []
in_references swap (kind.AssignExpr op) (target ∷ right ∷ []) = swap target ∷ right ∷ []
in_references swap kind.MemberExpr (object ∷ key ∷ []) = swap object ∷ key ∷ []
in_references swap kind.CallExpr (callee ∷ arguments ∷ types ∷ []) = swap callee ∷ arguments ∷ types ∷ []
in_references swap kind.OptCall (callee ∷ arguments ∷ types ∷ []) = swap callee ∷ arguments ∷ types ∷ []
in_references swap kind.NewExpr (callee ∷ arguments ∷ types ∷ []) = swap callee ∷ arguments ∷ types ∷ []
in_references swap k children = children

abbrev pub exchanged_references_node : (Node → Node) → Node-F Node → Node
exchanged_references_node swap parts = node_of parts.span parts.kind (in_references swap parts.kind parts.children)

-- the tree with its expressions exchanged wherever they are referred to, from the leaves up
abbrev pub exchanged_references : (Node → Node) → Node → Node
exchanged_references swap = rewritten (exchanged_references_node swap)
