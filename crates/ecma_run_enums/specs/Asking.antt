-- What a node asks of what is known of the enums of its module.
use Rattle.std.specs.Prelude.{Bool, true, false, not, ◌&&◌, ◌||◌, List, [], ◌∷◌, is_some, map}
use Rattle.std.specs.List.{list_all}
use Rattle.ecma_kind.specs.declared.kind.Kind.{Kind}
use Rattle.ecma_kind.specs.declared.kind.Kind.TheVariants as kind
use Rattle.ecma_tree.specs.Layers.{from_leaves}
use Rattle.ecma_tree.specs.declared.node.Node.{Node, out-Node}
use Rattle.ecma_runs.specs.State.{Id}
use Rattle.ecma_runs.specs.Enums.{Enums, Reading, Unknown, enum_of, is_enum, is_hidden, reading}
use Rattle.ecma_runs.specs.Meaning.{ExecutionContext}
use Rattle.ecma_runs.specs.Declarations.{has_no_effect}
use Rattle.ecma_runs.specs.Evaluation.{meaning}

-- a context, where this is known of enums
abbrev pub knowing : Enums → ExecutionContext → ExecutionContext
knowing enums x = record x { known = record { declared = x.known.declared; enums = enums } }

-- ---- of one node

-- the name of a member of an enum
abbrev pub is_member : Enums → Id → Bool
is_member enums id = is_some (enum_of id enums.names)

abbrev pub names_member : Enums → Kind → Bool
names_member enums (kind.Ident sym ctxt optional) = is_member enums (record { sym = sym; ctxt = ctxt })
names_member enums k = false

-- or of an enum of which a member is not written
abbrev pub asks_by_name : Enums → Kind → Bool
asks_by_name enums (kind.Ident sym ctxt optional) = is_member enums (record { sym = sym; ctxt = ctxt }) || is_hidden enums (record { sym = sym; ctxt = ctxt })
asks_by_name enums k = false

abbrev pub is_known : Reading → Bool
is_known Unknown = false
is_known r = true

abbrev pub are_none : {A : Type 0} → List A → Bool
are_none [] = true
are_none (a ∷ as') = false

-- no member is known, and none is left out
abbrev pub knows_none : Enums → Bool
knows_none enums = are_none enums.members && are_none enums.unwritten

-- an enum, where some are known
abbrev pub asks_as_enum : Enums → Kind → Bool
asks_as_enum enums k = is_enum k && not (knows_none enums)

-- such a name, a read of a member that is known, as `E.A`, or an enum
abbrev pub asks_here : Enums → Kind → Node → Bool
asks_here enums k n = asks_by_name enums k || (is_known (reading enums n) || asks_as_enum enums k)

-- ---- of a tree

abbrev pub is_type_part : Kind → Bool
is_type_part kind.TsTypeAnn = true
is_type_part kind.TsTypeParamDecl = true
is_type_part kind.TsTypeParamInstantiation = true
is_type_part k = false

-- at no depth, the bodies of functions included; types are not looked at, nor what has no effect wherever it stands
abbrev pub none_at : (Kind → Node → Bool) → Kind → List Node → Node → List Bool → Bool
none_at asks k children n kids = is_type_part k || (has_no_effect k (map meaning children) || (not (asks k n) && list_all (λ b. b) kids))

abbrev pub none_by : (Kind → Node → Bool) → Node → List Bool → Bool
none_by asks n kids = none_at asks (out-Node n).kind (out-Node n).children n kids

abbrev pub none_asks : (Kind → Node → Bool) → Node → Bool
none_asks asks = from_leaves Bool (none_by asks)

-- nothing is asked of what is known of enums
abbrev pub asks_no_enums : Enums → Node → Bool
asks_no_enums enums = none_asks (asks_here enums)

-- no name is that of a member
abbrev pub names_no_members : Enums → Node → Bool
names_no_members enums = none_asks (λ k n. names_member enums k)
