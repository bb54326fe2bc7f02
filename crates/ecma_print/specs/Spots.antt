-- In which spot each child stands: read it beside the layout of each kind.
use Rattle.std.specs.Prelude.{Bool, true, false, List, [], ◌∷◌}
use Rattle.ecma_kind.specs.declared.kind.Kind.{Kind}
use Rattle.ecma_kind.specs.declared.kind.Kind.TheVariants as kind
use Rattle.ecma_print.specs.declared.place.Begins.TheVariants.{Anywhere, StatementStart, ArrowBodyStart, DefaultStart}
use Rattle.ecma_print.specs.declared.place.Beside.TheVariants.{NoNeighbor, BeforeLink, InChain}
use Rattle.ecma_print.specs.declared.place.Spot.{Spot}
use Rattle.ecma_print.specs.Precedences as precedence
use Rattle.ecma_print.specs.Places.{alone, free, left, right, beginning}
use Rattle.ecma_print.specs.Operators.{unary_sign, update_sign, left_level, right_level, under}
use Rattle.ecma_print.specs.Laid.{Laid, is_computed}
use Rattle.ecma_print.specs.Expressions.{object_beside, callee_spot, link_of}

-- a member with its key in brackets
abbrev pub has_computed_key : List Laid → Bool
has_computed_key (object ∷ key ∷ []) = is_computed key.kind
has_computed_key children = false

-- of the first children, in order; the items of a list stand in the spot of the list
abbrev pub first_spots : Kind → List Laid → Spot → List Spot
first_spots (kind.UnaryExpr op) children spot = right spot precedence.unary (unary_sign op) ∷ []
first_spots (kind.UpdateExpr op true) children spot = right spot precedence.left_hand_side (update_sign op) ∷ []
first_spots (kind.UpdateExpr op false) children spot = left spot precedence.left_hand_side NoNeighbor ∷ []
first_spots (kind.BinExpr op) children spot = left spot (left_level op) (under op) ∷ right spot (right_level op) (under op) ∷ []
first_spots (kind.AssignExpr op) children spot = left spot precedence.left_hand_side NoNeighbor ∷ right spot precedence.assignment NoNeighbor ∷ []
first_spots kind.CondExpr children spot = left spot precedence.short_circuit NoNeighbor ∷ right spot precedence.assignment NoNeighbor ∷ right spot precedence.assignment NoNeighbor ∷ []
first_spots kind.SeqExpr children spot = left spot precedence.assignment NoNeighbor ∷ []
first_spots (kind.YieldExpr delegate) children spot = right spot precedence.assignment NoNeighbor ∷ []
first_spots kind.AwaitExpr children spot = right spot precedence.unary NoNeighbor ∷ []
first_spots kind.MemberExpr children spot = left spot precedence.left_hand_side (object_beside spot.beside (has_computed_key children)) ∷ []
first_spots kind.CallExpr children spot = left spot precedence.left_hand_side BeforeLink ∷ free precedence.assignment ∷ []
first_spots kind.OptCall children spot = left spot precedence.left_hand_side InChain ∷ free precedence.assignment ∷ []
first_spots kind.NewExpr children spot = callee_spot spot ∷ free precedence.assignment ∷ []
first_spots (kind.OptChainExpr optional) children spot = left spot precedence.expression (link_of optional) ∷ []
first_spots kind.TaggedTpl children spot = left spot precedence.left_hand_side BeforeLink ∷ []
first_spots kind.SpreadElement children spot = free precedence.assignment ∷ []
first_spots kind.ArrayLit children spot = free precedence.assignment ∷ []
first_spots kind.ObjectLit children spot = free precedence.assignment ∷ []
first_spots (kind.ArrowExpr is_async is_generator) children spot = free precedence.assignment ∷ beginning precedence.assignment ArrowBodyStart spot.without_in ∷ []
first_spots (kind.Class is_abstract) children spot = free precedence.left_hand_side ∷ []
first_spots kind.ComputedPropName children spot = free spot.level ∷ []
first_spots kind.ExprStmt children spot = beginning precedence.expression StatementStart false ∷ []
first_spots kind.CatchClause children spot = free precedence.assignment ∷ []
first_spots kind.ForStmt children spot = beginning precedence.expression Anywhere true ∷ []
first_spots kind.ForInStmt children spot = beginning precedence.expression Anywhere true ∷ []
first_spots (kind.ForOfStmt is_await) children spot = beginning precedence.expression Anywhere true ∷ free precedence.assignment ∷ []
first_spots (kind.VarDecl sort declare) children spot = right spot precedence.assignment NoNeighbor ∷ []
first_spots (kind.VarDeclarator definite) children spot = free precedence.assignment ∷ right spot precedence.assignment NoNeighbor ∷ []
first_spots kind.ExportDefaultExpr children spot = beginning precedence.assignment DefaultStart false ∷ []
first_spots k children spot = []

-- of all children after them: of parts of functions, of members, properties and patterns no sequence stands without parentheses
abbrev pub further_spot : Kind → Spot → Spot
further_spot kind.List spot = spot
further_spot kind.SeqExpr spot = right spot precedence.assignment NoNeighbor
further_spot kind.FnExpr spot = free precedence.assignment
further_spot (kind.FnDecl declare) spot = free precedence.assignment
further_spot (kind.Function is_generator is_async) spot = free precedence.assignment
further_spot kind.Param spot = free precedence.assignment
further_spot kind.ClassExpr spot = free precedence.assignment
further_spot (kind.ClassDecl declare) spot = free precedence.assignment
further_spot (kind.Constructor accessibility is_optional) spot = free precedence.assignment
further_spot (kind.TsParamProp accessibility is_override readonly) spot = free precedence.assignment
further_spot (kind.ClassMethod sort modifiers) spot = free precedence.assignment
further_spot (kind.PrivateMethod sort modifiers) spot = free precedence.assignment
further_spot (kind.ClassProp modifiers readonly declare definite) spot = free precedence.assignment
further_spot (kind.PrivateProp modifiers readonly declare definite) spot = free precedence.assignment
further_spot kind.StaticBlock spot = free precedence.assignment
further_spot kind.KeyValueProp spot = free precedence.assignment
further_spot kind.AssignProp spot = free precedence.assignment
further_spot kind.GetterProp spot = free precedence.assignment
further_spot kind.SetterProp spot = free precedence.assignment
further_spot kind.MethodProp spot = free precedence.assignment
further_spot kind.BindingIdent spot = free precedence.assignment
further_spot (kind.ArrayPat optional) spot = free precedence.assignment
further_spot (kind.ObjectPat optional) spot = free precedence.assignment
further_spot kind.RestPat spot = free precedence.assignment
further_spot kind.AssignPat spot = free precedence.assignment
further_spot kind.KeyValuePatProp spot = free precedence.assignment
further_spot kind.AssignPatProp spot = free precedence.assignment
further_spot k spot = alone
