-- Trees in which expressions stand in the places of names: a rewriting by seats.
use Rattle.std.specs.Prelude.{true, ◌&&◌, List, [], ◌∷◌, map, Option, Some, None, get_or, if◌then◌else◌}
use Rattle.ecma_kind.specs.declared.ident.Ident.{Ident}
use Rattle.ecma_kind.specs.declared.kind.Kind.{Kind}
use Rattle.ecma_kind.specs.declared.kind.Kind.TheVariants as kind
use Rattle.ecma_kind.specs.declared.span.Span.{Span}
use Rattle.ecma_tree.specs.Nodes.{absent, node_of}
use Rattle.ecma_tree.specs.declared.node.Node.{Node, out-Node}
use Rattle.ecma_renamers.specs.Renaming.{key_of, with_default}
use Rattle.ecma_utils.specs.Indirect.{indirect_callee}
use Rattle.ecma_rewriting.specs.Rewriting.{Rewriting, become, only}
use Rattle.ecma_references.specs.declared.seat.Seat.{Seat}
use Rattle.ecma_references.specs.declared.seat.Seat.TheVariants as seat
use Rattle.ecma_references.specs.Answers.{Answers, answer_of, is_member}
use Rattle.ecma_references.specs.Seats.{seat_in}

-- ---- what stands for one name

--   ({ a });   // where b.a stands for a: ({ a: b.a })
abbrev pub pair_of : Span → Ident → Node → Node
pair_of span name e = node_of span kind.KeyValueProp (key_of name ∷ e ∷ [])

-- the default of a shorthand pattern, which may be missing
abbrev pub default_in : List Node → Node
default_in children = get_or children 1 absent

--   ({ a, c = 1 } = d);   // where b.a and b.c stand for a and c: ({ a: b.a, c: b.c = 1 } = d)
abbrev pub pattern_of : Span → Ident → Node → List Node → Node
pattern_of span name e children = node_of span kind.KeyValuePatProp (key_of name ∷ with_default span e (default_in children) ∷ [])

-- what is called or a tag: a call of a member gives its object as `this` (ECMAScript, 13.3.6.2)
--   f();   // where b.f stands for f: b.f(), or (0, b.f)() where the query fixes `this`
abbrev pub called : Answers → Ident → Node → Node
called answers name e = if answers.fixes_this name && is_member (out-Node e).kind then indirect_callee e else e

-- by what the name is there for
abbrev pub in_seat : Answers → Seat → Ident → Node → Span → Node
in_seat answers seat.Property name e span = pair_of span name e
in_seat answers seat.Called name e span = called answers name e
in_seat answers s name e span = e

-- what is written in a seat for a node whose name an expression stands for; the children are those that the node's own became
unfoldable pub stands_for : Answers → Seat → Ident → Node → Span → Kind → List Node → Node
stands_for answers s name e span kind.AssignPatProp children = pattern_of span name e children
stands_for answers s name e span k children = in_seat answers s name e span

-- ---- the rewriting

-- where nothing stands for a node's name, and where it is none, all is as its children became
abbrev pub written : Answers → Seat → Option (Ident × Node) → Span → Kind → List Node → Node
written answers s (Some answer) span k children = stands_for answers s answer.0 answer.1 span k children
written answers s None span k children = node_of span k children

-- one node for one: a name is asked of as it stood, and written over what the children became
abbrev pub referring : Answers → Rewriting Seat
referring answers = record {
  keeps = λ n. true;
  unkept = λ s n. n ∷ [];
  next = λ s n. s;
  seat = λ s k children i. seat_in s k i;
  here = λ s span k children lists. written answers s (answer_of answers s span k children) span k (map only lists) ∷ [];
}

-- a tree in this seat, in which what a query answers stands in the places of names
abbrev pub answered : Answers → Seat → Node → Node
answered answers = become (referring answers)
