-- Trees that are compared, and fed to a hasher, without their spans.
use Rattle.std.specs.Prelude.{◌≡◌, ◌↔◌, ℕ, Bool, true, false, ◌&&◌, IsTrue, List, [], ◌∷◌, ◌++◌, get_or}
use Rattle.std.specs.Hash as fed
use Rattle.ecma_kind.specs.contracts.kind.KindPartialEq.TheImpl as kind_eq
use Rattle.ecma_kind.specs.declared.kind.Kind.{Kind}
use Rattle.ecma_kind.specs.declared.kind.Kind.TheVariants as kind
use Rattle.ecma_tree.specs.Spans.{without_spans}
use Rattle.ecma_tree.specs.declared.node.Node.{Node, Node-F, fold-Node, out-Node}
use Rattle.ecma_utils.specs.declared.node_ignoring_span.NodeIgnoringSpan.{NodeIgnoringSpan}
use Rattle.ecma_utils.specs.declared.node_ignoring_span.NodeIgnoringSpan.TheVariants as ignoring

-- the node that is held
abbrev pub held : {T : Type 0} → NodeIgnoringSpan T → T
held (ignoring.Borrowed node) = node.now
held (ignoring.Owned node) = node

-- ---- equality

-- whether there are as many nodes as tests, and each passes its own
abbrev pub all_pass : List (Node → Bool) → List Node → Bool
all_pass [] [] = true
all_pass [] (node ∷ nodes) = false
all_pass (test ∷ tests) [] = false
all_pass (test ∷ tests) (node ∷ nodes) = test node && all_pass tests nodes

abbrev pub same_step : Node-F (Node → Bool) → Node → Bool
same_step parts other = kind_eq.ghosts.eq parts.kind (out-Node other).kind && all_pass parts.children (out-Node other).children

-- whether two trees are equal but for spans
abbrev pub same_tree : Node → Node → Bool
same_tree = fold-Node (Node → Bool) same_step

-- ---- what is fed to a hasher

-- by a node of this kind, where its children feed these: by a name its text, by a member its object and then a key that is a
-- name, by all else nothing
--   a           // a
--   a.b         // a, b
--   a[b], a.#b  // a
unfoldable pub fed_by : Kind → List (List (List ℕ)) → List (List ℕ)
fed_by (kind.Ident sym ctxt optional) children = fed.str sym
fed_by (kind.IdentName sym) children = fed.str sym
fed_by kind.MemberExpr children = get_or children 0 [] ++ get_or children 1 []
fed_by _ children = []

abbrev pub fed_step : Node-F (List (List ℕ)) → List (List ℕ)
fed_step parts = fed_by parts.kind parts.children

abbrev pub fed_tree : Node → List (List ℕ)
fed_tree = fold-Node (List (List ℕ)) fed_step

-- ---- laws

abbrev pub SameIsEqualButForSpans : Type 0
SameIsEqualButForSpans = (a b : Node) → IsTrue (same_tree a b) ↔ (without_spans a ≡ without_spans b)

-- equal ones feed a hasher alike
abbrev pub EqualsHashAlike : Type 0
EqualsHashAlike = (a b : Node) → IsTrue (same_tree a b) → fed_tree a ≡ fed_tree b

-- spans change neither what a tree feeds nor what it is equal to
abbrev pub SpansChangeNeither : Type 0
SpansChangeNeither =
    (a b : Node) → without_spans a ≡ without_spans b → (fed_tree a ≡ fed_tree b) × ((other : Node) → same_tree a other ≡ same_tree b other)
