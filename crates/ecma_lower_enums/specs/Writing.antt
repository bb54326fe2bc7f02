-- Enums as they are written, and reads of their members: a rewriting by seats.
use Rattle.std.specs.Prelude.{ℕ, Bool, true, false, ◌&&◌, cond, List, [], ◌∷◌, map, Option, Some, None, get_or, slice_get}
use Rattle.std.specs.Option.{option_and_then, option_map, option_map_or}
use Rattle.ecma_kind.specs.declared.ident.Ident.{Ident}
use Rattle.ecma_kind.specs.declared.kind.Kind.{Kind}
use Rattle.ecma_kind.specs.declared.kind.Kind.TheVariants as kind
use Rattle.ecma_kind.specs.declared.span.Span.{Span}
use Rattle.ecma_tree.specs.Idents.{ident_of}
use Rattle.ecma_tree.specs.Nodes.{absent, node_of}
use Rattle.ecma_tree.specs.Sorted.{is_absent}
use Rattle.ecma_tree.specs.declared.node.Node.{Node, out-Node}
use Rattle.ecma_enums.specs.KnownReads.{known_read}
use Rattle.ecma_enums.specs.Values.{expression}
use Rattle.ecma_rewriting.specs.Rewriting.{Rewriting, become, only}
use Rattle.ecma_strip.specs.Staying.{stays}
use Rattle.ecma_utils.specs.Expressions.{key_of}
use Rattle.ecma_lower_enums.specs.declared.answer.Answer.{Answer}
use Rattle.ecma_lower_enums.specs.declared.answer.Answer.TheVariants.{Instead, Pattern}
use Rattle.ecma_lower_enums.specs.declared.form.Form.{Form}
use Rattle.ecma_lower_enums.specs.declared.form.Form.TheVariants as form
use Rattle.ecma_lower_enums.specs.declared.known.KnownEnums.{KnownEnums}
use Rattle.ecma_lower_enums.specs.declared.known.Part.{Part}
use Rattle.ecma_lower_enums.specs.declared.place.Place.{Place}
use Rattle.ecma_lower_enums.specs.declared.place.Place.TheVariants as place
use Rattle.ecma_lower_enums.specs.Forms.{member, member_statements, part_statements}
use Rattle.ecma_lower_enums.specs.Known.{alias_by, part_at}
use Rattle.ecma_lower_enums.specs.Places.{is_item, is_left}
use Rattle.ecma_lower_enums.specs.Seats.{Seat, next_seat, seat_at, whole}

-- ---- what stands for one node

-- the value of a member that an expression reads, where it is known
abbrev pub value_read : KnownEnums → Node → Option Node
value_read enums e = option_and_then expression (known_read enums.may_change enums.members e)

abbrev pub or_itself : Node → Option Node → Node
or_itself e (Some v) = v
or_itself e None = e

abbrev pub read : KnownEnums → Node → Node
read enums e = or_itself e (value_read enums e)

--   { A: e }
abbrev pub pair : Span → List ℕ → Node → Node
pair span sym e = node_of span kind.KeyValueProp (key_of span sym ∷ e ∷ [])

-- of the name of a member of this enum
--   enum E { A = f(), B = g(A) }   // E.A stands for A
--   enum E { A = 1, B = g(A) }   // 1 does
--   enum E { A = f(), B = g({ A }) }   // A: E.A does
abbrev pub name_answer : KnownEnums → Place → Span → List ℕ → Option Ident → Option Answer
name_answer enums place.Read span sym (Some of) = Some (Instead (read enums (member of sym)))
name_answer enums place.Target span sym (Some of) = Some (Instead (member of sym))
name_answer enums place.Property span sym (Some of) = Some (Instead (pair span sym (read enums (member of sym))))
name_answer enums _ span sym of = None

-- of a name in a pattern that is assigned to
--   [A] = a;   // [E.A] = a
abbrev pub target_of : KnownEnums → Ident → Option Answer
target_of enums name = option_map (λ of. Instead (member of name.sym)) (alias_by name.sym name.ctxt enums.names)

abbrev pub bound_name : List Node → Option Ident
bound_name children = option_and_then ident_of (slice_get children 0)

abbrev pub bound_answer : KnownEnums → Place → List Node → Option Answer
bound_answer enums place.Target children = option_and_then (target_of enums) (bound_name children)
bound_answer enums _ children = None

--   ({ A = 1 } = a);   // ({ A: E.A = 1 } = a)
abbrev pub pattern_answer : KnownEnums → Ident → Option Answer
pattern_answer enums name = option_map (λ of. Pattern (key_of name.span name.sym) (member of name.sym)) (alias_by name.sym name.ctxt enums.names)

abbrev pub short_name : List Node → Option Ident
short_name children = option_and_then (λ key. bound_name (out-Node key).children) (slice_get children 0)

abbrev pub short_answer : KnownEnums → Place → List Node → Option Answer
short_answer enums place.Target children = option_and_then (pattern_answer enums) (short_name children)
short_answer enums _ children = None

abbrev pub member_answer : KnownEnums → Place → Node → Option Answer
member_answer enums place.Read e = option_map Instead (value_read enums e)
member_answer enums _ e = None

-- what stands for a node in its place, as the node stood
unfoldable pub answer_by : KnownEnums → Place → Span → Kind → List Node → Option Answer
answer_by enums p span (kind.Ident sym ctxt optional) children = name_answer enums p span sym (alias_by sym ctxt enums.names)
answer_by enums p span kind.BindingIdent children = bound_answer enums p children
answer_by enums p span kind.AssignPatProp children = short_answer enums p children
answer_by enums p span kind.MemberExpr children = member_answer enums p (node_of span kind.MemberExpr children)
answer_by enums p span _ children = None

-- ---- one node for one

abbrev pub with_default : Span → Node → Node → Node
with_default span e value = cond (is_absent (out-Node value).kind) e (node_of span kind.AssignPat (e ∷ value ∷ []))

-- what is written of a node over what its children became, by what stands for it
abbrev pub answered : Option Answer → Span → Kind → List Node → Node
answered None span k children = node_of span k children
answered (Some (Instead e)) span k children = e
answered (Some (Pattern key e)) span k children = node_of span kind.KeyValuePatProp (key ∷ with_default span e (get_or children 1 absent) ∷ [])

-- ---- one node, several or none

abbrev pub part_form : Option Part → Form
part_form (Some part) = form.Part part
part_form None = form.One

abbrev pub is_enum_kind : Kind → Bool
is_enum_kind (kind.TsEnumDecl declare is_const) = true
is_enum_kind _ = false

abbrev pub is_enum_first : List Node → Bool
is_enum_first children = option_map_or (λ n. is_enum_kind (out-Node n).kind) (slice_get children 0) false

abbrev pub export_form : Place → List Node → Form
export_form p children = cond (is_item p && is_enum_first children) form.Export form.One

abbrev pub member_form : Place → Form
member_form (place.Member skips) = form.Member skips
member_form _ = form.One

-- how a node is written in its place: one node for one, but for enums and their members, and types, which stay round each node that their expression became
unfoldable pub form_of : Place → Kind → List Node → Form
form_of p kind.TsTypeAssertion children = form.Wrapped
form_of p kind.TsConstAssertion children = form.Wrapped
form_of p kind.TsNonNullExpr children = form.Wrapped
form_of p kind.TsAsExpr children = form.Wrapped
form_of p kind.TsInstantiation children = form.Wrapped
form_of p kind.TsSatisfiesExpr children = form.Wrapped
form_of p (kind.TsEnumDecl declare is_const) children = part_form (part_at p (kind.TsEnumDecl declare is_const) children)
form_of p kind.ExportDecl children = export_form p children
form_of p kind.TsEnumMember children = member_form p
form_of p _ children = form.One

abbrev pub first_list : List (List Node) → List Node
first_list [] = []
first_list (l ∷ ls) = l

abbrev pub second : List (List Node) → Node
second [] = absent
second (l ∷ ls) = only (first_list ls)

-- a type round each
abbrev pub wrapped : Span → Kind → List (List Node) → List Node
wrapped span k [] = node_of span k [] ∷ []
wrapped span k (l ∷ ls) = map (λ e. node_of span k (e ∷ map only ls)) l

abbrev pub done_by : KnownEnums → Seat → Span → Kind → List Node → List (List Node) → Form → List Node
done_by enums s span k children lists form.Wrapped = wrapped span k lists
done_by enums s span k children lists (form.Part part) = part_statements enums span part s.around (second lists)
done_by enums s span k children lists form.Export = first_list lists
done_by enums s span k children lists (form.Member skips) = member_statements enums skips s.around.name (node_of span k children) (second lists)
done_by enums s span k children lists form.One = answered (answer_by enums s.place span k children) span k (map only lists) ∷ []

abbrev pub done : KnownEnums → Seat → Span → Kind → List Node → List (List Node) → List Node
done enums s span k children lists = done_by enums s span k children lists (form_of s.place k children)

-- what goes from a list with the types stays as it is
abbrev pub writing : KnownEnums → Rewriting Seat
writing enums = record {
  keeps = stays;
  unkept = λ s n. n ∷ [];
  next = next_seat;
  seat = λ s k children i. seat_at enums s k children i;
  here = λ s span k children lists. cond (is_left s.place k) (node_of span k children ∷ []) (done enums s span k children lists);
}

-- a tree with its enums written, and with reads of members whose values are known
abbrev pub with_enums_written : KnownEnums → Node → Node
with_enums_written enums = become (writing enums) whole
