-- What a query answers of names, and what it is asked of a node.
use Rattle.std.specs.Prelude.{Bool, true, false, List, Option, Some, None, slice_get}
use Rattle.std.specs.Option.{option_and_then, option_map}
use Rattle.ecma_kind.specs.declared.ident.Ident.{Ident}
use Rattle.ecma_kind.specs.declared.kind.Kind.{Kind}
use Rattle.ecma_kind.specs.declared.kind.Kind.TheVariants as kind
use Rattle.ecma_kind.specs.declared.span.Span.{Span}
use Rattle.ecma_tree.specs.Idents.{ident_of}
use Rattle.ecma_tree.specs.declared.node.Node.{Node, out-Node}
use Rattle.ecma_references.specs.declared.seat.Seat.{Seat}
use Rattle.ecma_references.specs.declared.seat.Seat.TheVariants as seat

pub record Answers : Type 0 where
  -- what stands for a name where it is read, if anything does
  pub read : Ident → Option Node
  -- what stands for it where it is written to
  pub target : Ident → Option Node
  -- whether a call of a member that stands for it is to give no `this`
  pub fixes_this : Ident → Bool

abbrev pub is_member : Kind → Bool
is_member kind.MemberExpr = true
is_member _ = false

-- what stands for a name in a seat
--   a = b;   // of a is asked where it is written to, of b where it is read
abbrev pub asked : Answers → Seat → Ident → Option Node
asked answers seat.Read name = answers.read name
asked answers seat.Called name = answers.read name
asked answers seat.Property name = answers.read name
asked answers seat.Target name = answers.target name
asked answers seat.Declared name = None
asked answers seat.Other name = None

-- ---- the name that a node is

-- of a declared name, by its children
abbrev pub bound_name : List Node → Option Ident
bound_name children = option_and_then ident_of (slice_get children 0)

-- of a shorthand pattern: that of its key
abbrev pub key_name : List Node → Option Ident
key_name children = option_and_then (λ key. bound_name (out-Node key).children) (slice_get children 0)

-- the name that a node is, by its parts
--   a; let a; ({ a = b } = c);   // a each time: of the pattern's property too
unfoldable pub name_of : Span → Kind → List Node → Option Ident
name_of span (kind.Ident sym ctxt optional) children = Some (record { span = span; ctxt = ctxt; sym = sym; optional = optional })
name_of span kind.BindingIdent children = bound_name children
name_of span kind.AssignPatProp children = key_name children
name_of span k children = None

-- with what stands for it, if anything does
abbrev pub answer_to : Answers → Seat → Ident → Option (Ident × Node)
answer_to answers s name = option_map (λ e. (name, e)) (asked answers s name)

abbrev pub answer_of : Answers → Seat → Span → Kind → List Node → Option (Ident × Node)
answer_of answers s span k children = option_and_then (answer_to answers s) (name_of span k children)
