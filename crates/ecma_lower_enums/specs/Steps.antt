-- What is told of a node as it stood, and what is written of it by that.
use Rattle.std.specs.Prelude.{ℕ, cond, List, [], ◌∷◌, ◌++◌, map, Option, Some, None, set}
use Rattle.ecma_kind.specs.declared.kind.Kind.{Kind}
use Rattle.ecma_kind.specs.declared.span.Span.{Span}
use Rattle.ecma_tree.specs.Nodes.{node_of}
use Rattle.ecma_tree.specs.declared.node.Node.{Node, out-Node}
use Rattle.ecma_enums.specs.Declarations.{member_name}
use Rattle.ecma_rewriting.specs.Rewriting.{only}
use Rattle.ecma_lower_enums.specs.declared.form.Form.{Form}
use Rattle.ecma_lower_enums.specs.declared.form.Form.TheVariants as form
use Rattle.ecma_lower_enums.specs.declared.form.Told.{Told}
use Rattle.ecma_lower_enums.specs.declared.form.Told.TheVariants as told
use Rattle.ecma_lower_enums.specs.declared.known.Around.{Around}
use Rattle.ecma_lower_enums.specs.declared.known.KnownEnums.{KnownEnums}
use Rattle.ecma_lower_enums.specs.declared.known.Part.{Part}
use Rattle.ecma_lower_enums.specs.declared.place.Place.{Place}
use Rattle.ecma_lower_enums.specs.Forms.{member_in, part_statements}
use Rattle.ecma_lower_enums.specs.Known.{Id}
use Rattle.ecma_lower_enums.specs.Places.{is_left}
use Rattle.ecma_lower_enums.specs.Seats.{Seat, around_in, part_ids, place_by}
use Rattle.ecma_lower_enums.specs.Writing.{answer_by, answered, first_list, form_of, second, wrapped}

-- ---- behind an item

abbrev pub brought : Node → List Id
brought n = part_ids (out-Node n).kind (out-Node n).children

abbrev pub around_behind : Around → List Id → Around
around_behind around ids = record { name = around.name; before = around.before ++ ids }

-- ---- what is told of a node

abbrev pub told_by : KnownEnums → Place → Span → Kind → List Node → Form → Told
told_by enums p span k children form.Wrapped = told.Wrapped
told_by enums p span k children (form.Part part) = told.Part part
told_by enums p span k children form.Export = told.Export
told_by enums p span k children (form.Member skips) = told.Member skips (member_name (node_of span k children))
told_by enums p span k children form.One = told.One (answer_by enums p span k children)

abbrev pub told_of : KnownEnums → Place → Span → Kind → List Node → Told
told_of enums p span k children = told_by enums p span k children (form_of p k children)

-- nothing is told of a node that is left as it is
abbrev pub told_at : KnownEnums → Place → Span → Kind → List Node → Option Told
told_at enums p span k children = cond (is_left p k) None (Some (told_of enums p span k children))

-- ---- its children

abbrev pub part_of : Told → Option Part
part_of (told.Part part) = Some part
part_of _ = None

abbrev pub around_below : Seat → Kind → List Node → Option Around
around_below s k children = around_in s.place s.around.name k children

abbrev pub place_below : KnownEnums → Told → Place → Kind → ℕ → Place
place_below enums t p k i = place_by enums p k i (part_of t)

-- ---- what is written of it

abbrev pub written_as : KnownEnums → Told → Seat → Span → Kind → List (List Node) → List Node
written_as enums told.Wrapped s span k lists = wrapped span k lists
written_as enums (told.Part part) s span k lists = part_statements enums span part s.around (second lists)
written_as enums told.Export s span k lists = first_list lists
written_as enums (told.Member skips name) s span k lists = member_in enums skips s.around.name span name (second lists)
written_as enums (told.One answer) s span k lists = answered answer span k (map only lists) ∷ []

-- a node with another first child
abbrev pub with_first : Node → Node → Node
with_first n e = node_of (out-Node n).span (out-Node n).kind (set (out-Node n).children 0 e)
