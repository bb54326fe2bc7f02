-- Names as they are written, and what an expression is under the types round it.
use Rattle.std.specs.Prelude.{◌≡◌, ℕ, cond, List, [], ◌∷◌, Option, Some, None}
use Rattle.ecma_kind.specs.Sorts.{is_type_wrapper}
use Rattle.ecma_kind.specs.declared.kind.Kind.{Kind}
use Rattle.ecma_kind.specs.declared.kind.Kind.TheVariants as kind
use Rattle.ecma_kind.specs.declared.span.Span.{Span}
use Rattle.ecma_tree.specs.Nodes.{dummy_span}
use Rattle.ecma_kind.specs.declared.shapes.Sort.TheVariants as sort
use Rattle.ecma_tree.specs.Sorted.{HasSort}
use Rattle.ecma_tree.specs.declared.node.Node.{Node, Node-F, fold-Node, out-Node}
use Rattle.ecma_strip.specs.Stripping.{stripped}

-- a name: its span, its text and its context
pub record Name : Type 0 where
  pub span : Span
  pub sym : List ℕ
  pub ctxt : ℕ

-- the name that a node is, or a text that stands for one
unfoldable pub name_by : Span → Kind → Name
name_by span (kind.Ident sym ctxt optional) = record { span = span; sym = sym; ctxt = ctxt }
name_by span (kind.Str value raw) = record { span = span; sym = value; ctxt = 0 }
name_by span _ = record { span = span; sym = []; ctxt = 0 }

abbrev pub name_of : Node → Name
name_of n = name_by (out-Node n).span (out-Node n).kind

-- the first child's
abbrev pub first_name : List Node → Name
first_name [] = record { span = dummy_span; sym = []; ctxt = 0 }
first_name (n ∷ ns) = name_of n

abbrev pub first_of : {X : Type 0} → List (Option X) → Option X
first_of [] = None
first_of (o ∷ os) = o

abbrev pub under_step : {X : Type 0} → (Span → Kind → Option X) → Node-F (Option X) → Option X
under_step here parts = cond (is_type_wrapper parts.kind) (first_of parts.children) (here parts.span parts.kind)

-- what `here` gives of an expression without the types round it
abbrev pub under : {X : Type 0} → (Span → Kind → Option X) → Node → Option X
under {X} here = fold-Node (Option X) (under_step here)

abbrev pub name_at : Span → Kind → Option Name
name_at span (kind.Ident sym ctxt optional) = Some (record { span = span; sym = sym; ctxt = ctxt })
name_at span _ = None

abbrev pub text_at : Span → Kind → Option (List ℕ)
text_at span (kind.Str value raw) = Some value
text_at span _ = None

-- a name, or a text, also with types round it
abbrev pub name_under : Node → Option Name
name_under = under name_at

abbrev pub text_under : Node → Option (List ℕ)
text_under = under text_at

-- these stand there without types too
abbrev pub NamesStandUnderTypes : Type 0
NamesStandUnderTypes = (n : Node) → HasSort sort.Expr n →
    (name_under (stripped n) ≡ name_under n) × (text_under (stripped n) ≡ text_under n)
