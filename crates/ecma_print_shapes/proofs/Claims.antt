-- What is shown of each node, from its children: the shape that it has where it may stand.
use Rattle.std.proofs.Common.{◌≡◌, ◌⊎◌, refl, sym, subst, ℕ, zero, suc, Bool, true, false, not, ◌&&◌, ◌||◌, List, [], ◌∷◌, length, map, ltb, nat_le, ◌++◌, codes}
use Rattle.ecma_lex.specs.Keys.{is_reserved, priv_name_end}
use Rattle.ecma_kind.specs.Sorts.{is_decl, is_expr, is_stmt}
use Rattle.ecma_kind.specs.declared.span.Span.{Span}
use Rattle.ecma_kind.specs.declared.kind.Kind.{Kind}
use Rattle.ecma_kind.specs.declared.kind.Kind.TheVariants as kind
use Rattle.ecma_kind.specs.declared.shapes.Shape.{Shape}
use Rattle.ecma_kind.specs.declared.shapes.Sort.TheVariants as sort
use Rattle.ecma_tree.specs.declared.node.Node.{Node, out-Node}
use Rattle.ecma_tree.specs.declared.node.Node.TheViews.{roll-out-Node}
use Rattle.ecma_tree.specs.Nodes.{node_of}
use Rattle.ecma_tree.specs.Sorted.{allows, is_absent, is_list, item_shape, many, maybe, one, with_holes}
use Rattle.ecma_rules.specs.declared.target.Target.{Target}
use Rattle.ecma_rules.specs.declared.target.Target.TheVariants as target
use Rattle.ecma_rules.specs.Children.{kind_of, child_holds, has_child}
use Rattle.ecma_rules.specs.Lists.{is_one_without_value, is_wrong_head}
use Rattle.ecma_covers.specs.Covering.{cover_at}
use Rattle.ecma_fits.specs.declared.role.Role.{Role}
use Rattle.ecma_fits.specs.declared.role.Role.TheVariants as role
use Rattle.ecma_fits.specs.Chains.{goes_on}
use Rattle.ecma_fits.specs.Branches.{takes_else}
use Rattle.ecma_fits.specs.Counts.{is_empty}
use Rattle.ecma_fits.specs.Roles.{is_binding, is_bound_name, is_default, is_free, is_pattern, is_rest, is_wrong_name, is_wrong_text, may_be, takes}
use Rattle.ecma_print.specs.declared.place.Begins.TheVariants.{Anywhere}
use Rattle.ecma_print.specs.declared.place.Beside.{Beside}
use Rattle.ecma_print.specs.declared.place.Beside.TheVariants as beside
use Rattle.ecma_print.specs.declared.place.Spot.{Spot}
use Rattle.ecma_print.specs.Expressions.{link_of}
use Rattle.ecma_print.specs.Laid.{Laid, is_computed}
use Rattle.ecma_print.specs.Layout.{laid}
use Rattle.ecma_print.specs.Levels.{in_parentheses, level_of}
use Rattle.ecma_print.specs.Places.{beginning, ends_a_chain, free, left, right}
use Rattle.ecma_print_tokens.specs.Good.{IsToken}
use Rattle.ecma_shapes.specs.Heads.{any_of, may_hold_in}
use Rattle.ecma_shapes.specs.Modules.{is_declaration}
use Rattle.ecma_shapes.specs.Shapes.{AreCases, AreDeclarators, AreMembers, AreParams, AreParts, AreProperties, AreSlots, AreStatements, Ending, IsAbsent, IsArguments, IsBlock, IsCase, IsCatch, IsChainKey, IsClass, IsDeclarator, IsDefaulted, IsElement, IsExpression, IsForInit, IsForLeft, IsFunction, IsIdent, IsKey, IsMember, IsPattern, IsProperty, IsPropertyName, IsStatement, Level, assignment, bindings, callee, chain, closed, new_callee, values}
use Rattle.ecma_plain.specs.Forms.{is_of_forms}
use Rattle.ecma_plain.specs.Functions.{functions}
use Rattle.ecma_print_shapes.proofs.Ranks.{own_level}
use Rattle.ecma_print_shapes.proofs.Seats.{either_parts}
use Rattle.ecma_print_shapes.proofs.Sound.{Here, Sound, here, kind_made}

-- a node by its own parts
pub seen : {r : Role} {spot : Spot} {shape : Shape} (n : Node) → Sound r spot shape n → Here r spot shape (out-Node n).span (out-Node n).kind (out-Node n).children
seen {r} {spot} {shape} n s = here r spot shape (out-Node n).span (out-Node n).kind (out-Node n).children (subst (Sound r spot shape) (sym (roll-out-Node n)) s)

-- where a name is no reserved word, and a template has no tag
abbrev pub reads_values : Role → Bool
reads_values role.Key = false
reads_values role.NameOrThis = false
reads_values role.Tagged = false
reads_values _ = true

pub no_reserved : (r : Role) (text : List ℕ) → reads_values r ≡ true → is_wrong_text r text ≡ is_reserved text
no_reserved role.Key text h = absurd (cc)
no_reserved role.NameOrThis text h = absurd (cc)
no_reserved _ text h = refl

-- what is no pattern where something is assigned to
abbrev pub is_simple : Kind → Bool
is_simple (kind.Ident sym ctxt optional) = true
is_simple kind.MemberExpr = true
is_simple kind.SuperPropExpr = true
is_simple kind.ParenExpr = true
is_simple _ = false

abbrev pub is_value : Target → Kind → Bool
is_value target.Free k = is_expr k && (is_of_forms k && is_free k)
is_value t k = is_simple k

both_true : (a b : Bool) → a ≡ true → b ≡ true → (a && b) ≡ true
both_true a b h g = rw (h, g) refl

not_out : (a b : Bool) → (a || not (b || false)) ≡ false → b ≡ true
not_out true b h = cc
not_out false true h = refl
not_out false false h = cc

-- a private name stands where its role says so alone
pub free_there : {spot : Spot} {shape : Shape} (n : Node) → Sound role.Free spot shape n → is_free (kind_of n) ≡ true
unfolding may_be takes
free_there n s =
    let x = out-Node n in
    let e = kind_made x.span x.kind x.children in
    subst (λ k. is_free k ≡ true) e (not_out (is_wrong_name role.Free (kind_of (node_of x.span x.kind x.children))) (is_free (kind_of (node_of x.span x.kind x.children))) (seen n s).in_role)

-- an expression that is no private name
pub free_value : (k : Kind) → is_expr k ≡ true → is_of_forms k ≡ true → is_free k ≡ true → is_value target.Free k ≡ true
free_value k e f g = both_true (is_expr k) (is_of_forms k && is_free k) e (both_true (is_of_forms k) (is_free k) f g)

pub value_kind : {spot : Spot} {shape : Shape} (n : Node) → Sound role.Free spot shape n → is_expr (kind_of n) ≡ true → is_value target.Free (kind_of n) ≡ true
value_kind n s e = free_value (kind_of n) e (seen n s).bare.1 (free_there n s)

-- a spot in which an expression stands that is no link of an optional chain; in the callee of `new` it is an object or the like
abbrev pub is_of_link : Beside → Bool
is_of_link beside.OfLink = true
is_of_link beside.OfOptionalLink = true
is_of_link _ = false

pub record Proper (spot : Spot) : Type 0 where
  pub unlinked : is_of_link spot.beside ≡ false
  pub headed : spot.in_callee_of_new ≡ true → (nat_le 16 spot.level ≡ true) × (ends_a_chain spot.beside ≡ true)

-- an expression in its spot binds by its kind
pub record Expressed (t : Target) (spot : Spot) (n : Node) : Type 0 where
  pub kind : Kind
  pub children : List Laid
  pub kind_is : kind_of n ≡ kind
  pub open_there : in_parentheses kind children spot ≡ false
  pub shape : IsExpression (own_level kind children spot.in_callee_of_new) (cover_at n t)

pub level_open : {t : Target} {spot : Spot} {n : Node} (e : Expressed t spot n) → ltb (level_of e.kind) spot.level ≡ false
level_open {spot = spot} e = (either_parts (ltb (level_of e.kind) spot.level) _ e.open_there).0

-- the key of a member: a name, or an expression in brackets
pub data MemberKey : Node → Type 0 where
  named_key : {n : Node} → is_computed (laid n).kind ≡ false → IsChainKey (cover_at n target.Free) → MemberKey n
  bracketed_key : {n : Node} → is_computed (laid n).kind ≡ true → (at : Span) (e : Node) → cover_at n target.Free ≡ node_of at kind.ComputedPropName (e ∷ []) → (level : Level) → IsExpression level e → MemberKey n

pub data SuperKey : Node → Type 0 where
  named_of_super : {n : Node} → IsKey (cover_at n target.Free) → SuperKey n
  bracketed_of_super : {n : Node} (at : Span) (e : Node) → cover_at n target.Free ≡ node_of at kind.ComputedPropName (e ∷ []) → (level : Level) → IsExpression level e → SuperKey n

-- a link of an optional chain, by the level of what stands before it
pub data Linked : Level → Node → Type 0 where
  linked_member : (at : Span) {before : Level} {holder property : Node} → IsExpression before holder → IsChainKey property → Linked before (node_of at kind.MemberExpr (holder ∷ property ∷ []))
  linked_element : (at of_key : Span) {before level : Level} {holder e : Node} → IsExpression before holder → IsExpression level e
      → Linked before (node_of at kind.MemberExpr (holder ∷ node_of of_key kind.ComputedPropName (e ∷ []) ∷ []))
  linked_call : (at : Span) {before : Level} {function args none : Node} → IsExpression before function → IsArguments values args → IsAbsent none
      → Linked before (node_of at kind.OptCall (function ∷ args ∷ none ∷ []))

-- it stands behind a chain where that goes on, and else behind a callee or a chain
pub record LinkedBehind (n : Node) : Type 0 where
  pub before : Level
  pub either : (before ≡ chain) ⊎ (before ≡ callee)
  pub goes_on : child_holds goes_on n 0 ≡ true → before ≡ chain
  pub linked : Linked before (cover_at n target.Free)

abbrev pub FormedExpression : Node → Type 0
FormedExpression n = (r : Role) (t : Target) (spot : Spot) (shape : Shape) → Sound r spot shape n → Proper spot → reads_values r ≡ true → is_value t (kind_of n) ≡ true → Expressed t spot n

-- a private name
pub data IsPrivateName : Node → Type 0 where
  a_private_name : (at : Span) (name : List ℕ) → IsToken priv_name_end (codes "#" ++ name) → IsPrivateName (node_of at (kind.PrivateName name) [])

-- a name that is read as one where it stands: that of a parameter may be `this` for types alone, and is not
pub data IsNaming : Role → Node → Type 0 where
  names_value : {r : Role} {n : Node} → reads_values r ≡ true → IsNaming r n
  names_parameter : {n : Node} → (functions n).is_this ≡ false → IsNaming role.NameOrThis n

-- where names are declared
abbrev pub is_declared : Role → Bool
is_declared role.Declared = true
is_declared role.DeclaredValue = true
is_declared role.DeclaredElement = true
is_declared role.Parameter = true
is_declared role.DefaultedParameter = true
is_declared _ = false

-- where a pattern is assigned to, and what covers it there
pub data IsCovered : Role → Target → Type 0 where
  on_left : IsCovered role.Left target.Left
  in_head : IsCovered role.Head target.Head
  as_part : IsCovered role.Assigned target.Part
  as_value : IsCovered role.AssignedValue target.Element
  as_element : IsCovered role.AssignedElement target.Element

-- a statement, and whether an `else` behind it would be its own
pub record Stated (n : Node) : Type 0 where
  pub ending : Ending
  pub shape : IsStatement ending (cover_at n target.Free)
  pub closes : takes_else n ≡ false → ending ≡ closed
  -- it may stand behind `export`
  pub declares : is_decl (kind_of n) ≡ true → is_declaration shape ≡ true

-- a list of nodes of which this holds
pub record ListOf (are : List Node → Type 0) (n : Node) : Type 0 where
  pub at : Span
  pub items : List Node
  pub cover_is : cover_at n target.Free ≡ node_of at kind.List items
  pub hold : are items

-- a declarator of a name or a pattern without a value
pub data IsBinding : Node → Type 0 where
  alone : (at : Span) {p init : Node} → IsPattern p → IsAbsent init → IsBinding (node_of at (kind.VarDeclarator false) (p ∷ init ∷ []))

-- one of them, and no more
pub data IsOneBinding : List Node → Type 0 where
  one_binding : {d : Node} → IsBinding d → IsOneBinding (d ∷ [])

pub record Declares (spot : Spot) (n : Node) : Type 0 where
  pub shape : IsDeclarator (cover_at n target.Free)
  pub unheld : spot.without_in ≡ true → may_hold_in (cover_at n target.Free) ≡ false
  pub binds : has_child n 1 ≡ false → IsBinding (cover_at n target.Free)

pub record DeclaresAll (spot : Spot) (n : Node) : Type 0 where
  pub at : Span
  pub first : Node
  pub more : List Node
  pub cover_is : cover_at n target.Free ≡ node_of at kind.List (first ∷ more)
  pub head : IsDeclarator first
  pub others : AreDeclarators more
  pub unheld : spot.without_in ≡ true → any_of (map may_hold_in (first ∷ more)) ≡ false
  pub binds : is_one_without_value (out-Node n).children ≡ true → IsOneBinding (first ∷ more)

-- a name that is bound, and what covers it where it is assigned to
abbrev pub covers_name : Target → Bool
covers_name target.Head = true
covers_name target.Part = true
covers_name target.Rest = true
covers_name target.Name = true
covers_name target.Element = true
covers_name _ = false

pub record BoundName (n : Node) : Type 0 where
  pub at : Span
  pub id : Node
  pub none : Node
  pub ident : IsIdent id
  pub untyped : IsAbsent none
  pub declared : cover_at n target.Free ≡ node_of at kind.BindingIdent (id ∷ none ∷ [])
  pub assigned : (t : Target) → covers_name t ≡ true → cover_at n t ≡ id

-- where one may take the rest
abbrev pub takes_rest : Role → Bool
takes_rest role.DeclaredElement = true
takes_rest role.Parameter = true
takes_rest _ = false

-- a parameter of a function
pub record ParameterOf (n : Node) : Type 0 where
  pub at : Span
  pub pattern : Node
  pub element : IsElement bindings pattern
  pub cover_is : cover_at n target.Free ≡ node_of at kind.Param (pattern ∷ [])

-- the list of them
pub record ParametersOf (n : Node) : Type 0 where
  pub at : Span
  pub elements : List Node
  pub params : List Node
  pub cover_is : cover_at n target.Free ≡ node_of at kind.List params
  pub are : IsArguments bindings (node_of at kind.List elements)
  pub stand : AreParams elements params

-- a list that is assigned to
pub record CoveredList (t : Target) (are : List Node → Type 0) (n : Node) : Type 0 where
  pub at : Span
  pub items : List Node
  pub cover_is : cover_at n t ≡ node_of at kind.List items
  pub hold : are items

-- what is assigned to there: a pattern, or the rest of an object
pub data IsTargeted : Role → Target → Type 0 where
  covered_there : {r : Role} {t : Target} → IsCovered r t → covers_name t ≡ true → IsTargeted r t
  rest_there : IsTargeted role.AssignedName target.Rest

-- so many expressions, each at its level
abbrev pub AreValues : ℕ → List Node → Type 0
AreValues zero [] = Unit {0}
AreValues (suc count) (e ∷ es) = ((level : Level) × IsExpression level e) × AreValues count es
AreValues count es = ⊥

-- a template behind a tag
pub record TaggedTemplate (n : Node) : Type 0 where
  pub at : Span
  pub of_expressions : Span
  pub of_parts : Span
  pub expressions : List Node
  pub parts : List Node
  pub cover_is : cover_at n target.Free ≡ node_of at kind.Tpl (node_of of_expressions kind.List expressions ∷ node_of of_parts kind.List parts ∷ [])
  pub stand : AreParts true true expressions parts

-- all that is shown
pub record Formed (n : Node) : Type 0 where
  pub expression : FormedExpression n
  pub element : (shape : Shape) → Sound role.Free (free 1) shape n → allows (one sort.ExprOrSpread) (kind_of n) ≡ true → IsElement values (cover_at n target.Free)
  pub arguments : (shape : Shape) → item_shape shape ≡ one sort.ExprOrSpread → Sound role.Free (free 1) shape n → is_list (kind_of n) ≡ true → IsArguments values (cover_at n target.Free)
  pub slots : Sound role.Free (free 1) (with_holes sort.ExprOrSpread) n → (at : Span) × (ns : List Node) × (cover_at n target.Free ≡ node_of at kind.List ns) × AreSlots values ns
  pub member_key : Sound role.Private (free 0) (one sort.MemberProp) n → MemberKey n
  pub super_key : Sound role.Free (free 0) (one sort.SuperProp) n → SuperKey n
  pub property_name : Sound role.Free (free 1) (one sort.PropName) n → IsPropertyName (cover_at n target.Free)
  pub property : Sound role.Free (free 1) (one sort.PropOrSpread) n → IsProperty values (cover_at n target.Free)
  pub properties : Sound role.Free (free 1) (many sort.PropOrSpread) n → (at : Span) × (ns : List Node) × (cover_at n target.Free ≡ node_of at kind.List ns) × AreProperties values ns
  pub link : (spot : Spot) (optional : Bool) → spot.in_callee_of_new ≡ false → Sound role.Free (left spot 0 (link_of optional)) (one sort.OptChainBase) n → LinkedBehind n
  -- leaves
  pub ident : (r : Role) (spot : Spot) (shape : Shape) → Sound r spot shape n → allows (one sort.Ident) (kind_of n) ≡ true → IsNaming r n → IsIdent (cover_at n target.Free)
  pub private_name : (r : Role) (spot : Spot) (shape : Shape) → Sound r spot shape n → allows (one sort.PrivateName) (kind_of n) ≡ true → IsPrivateName (cover_at n target.Free)
  -- patterns that are declared, and those that are assigned to, by the literals that cover them
  pub pattern : (r : Role) (shape : Shape) → is_declared r ≡ true → Sound r (free 1) shape n → is_binding (kind_of n) ≡ true → IsPattern (cover_at n target.Free)
  pub defaulted : (r : Role) (shape : Shape) → is_declared r ≡ true → Sound r (free 1) shape n → (is_binding (kind_of n) || is_default (kind_of n)) ≡ true → IsDefaulted (cover_at n target.Free)
  pub literal : (r : Role) (t : Target) (spot : Spot) (shape : Shape) → IsCovered r t → Sound r spot shape n → is_pattern (kind_of n) ≡ true → IsExpression new_callee (cover_at n t)
  -- functions and classes
  pub function : Sound role.Free (free 1) (one sort.Function) n → IsFunction (cover_at n target.Free)
  pub class : Sound role.Free (free 1) (one sort.Class) n → IsClass (cover_at n target.Free)
  -- statements
  pub block : (spot : Spot) (shape : Shape) → Sound role.Free spot shape n → kind_of n ≡ kind.BlockStmt → IsBlock (cover_at n target.Free)
  pub statement : (shape : Shape) → Sound role.Free (free 0) shape n → is_stmt (kind_of n) ≡ true → Stated n
  pub statements : Sound role.Free (free 0) (many sort.Stmt) n → ListOf AreStatements n
  -- parts of statements
  pub declarator : (spot : Spot) → Sound role.Free (right spot 1 beside.NoNeighbor) (one sort.VarDeclarator) n → Declares spot n
  pub declarators : (spot : Spot) → Sound role.Free (right spot 1 beside.NoNeighbor) (many sort.VarDeclarator) n → is_empty (out-Node n).children ≡ false → DeclaresAll spot n
  pub for_init : Sound role.Free (beginning 0 Anywhere true) (maybe sort.VarDeclOrExpr) n → IsForInit (cover_at n target.Free)
  pub for_left : Sound role.Head (beginning 0 Anywhere true) (one sort.ForHead) n → is_wrong_head target.Head n ≡ false → IsForLeft (cover_at n target.Head)
  pub case : Sound role.Free (free 0) (one sort.SwitchCase) n → IsCase (cover_at n target.Free)
  pub cases : Sound role.Free (free 0) (many sort.SwitchCase) n → ListOf AreCases n
  pub catch : Sound role.Free (free 0) (one sort.CatchClause) n → IsCatch (cover_at n target.Free)
  pub member : Sound role.Free (free 0) (one sort.ClassMember) n → IsMember (cover_at n target.Free)
  pub members : Sound role.Free (free 0) (many sort.ClassMember) n → ListOf AreMembers n
  -- parts of declared patterns, and parameters
  pub bound_name : (r : Role) (spot : Spot) (shape : Shape) → Sound r spot shape n → is_bound_name (kind_of n) ≡ true → BoundName n
  pub bound_element : (r : Role) (shape : Shape) → takes_rest r ≡ true → Sound r (free 1) shape n → is_absent (kind_of n) ≡ false → IsElement bindings (cover_at n target.Free)
  pub bound_slots : Sound role.DeclaredElements (free 1) (with_holes sort.Pat) n → ListOf (AreSlots bindings) n
  pub bound_property : Sound role.DeclaredProperty (free 1) (one sort.ObjectPatProp) n → IsProperty bindings (cover_at n target.Free)
  pub bound_properties : Sound role.DeclaredProperties (free 1) (many sort.ObjectPatProp) n → ListOf (AreProperties bindings) n
  pub bound_arguments : Sound role.Parameters (free 1) (many sort.Pat) n → IsArguments bindings (cover_at n target.Free)
  pub parameter : (shape : Shape) → Sound role.Free (free 1) shape n → kind_of n ≡ kind.Param → ParameterOf n
  pub parameters : (shape : Shape) → (item_shape shape ≡ one sort.Param) ⊎ (item_shape shape ≡ one sort.ParamOrTsParamProp) → Sound role.Free (free 1) shape n → is_list (kind_of n) ≡ true → ParametersOf n
  -- parts of patterns that are assigned to
  pub assigned_target : (r : Role) (t : Target) (shape : Shape) → IsTargeted r t → Sound r (free 1) shape n → allows (one sort.Pat) (kind_of n) ≡ true → is_default (kind_of n) ≡ false → is_rest (kind_of n) ≡ false → IsExpression callee (cover_at n t)
  pub assigned_value : Sound role.AssignedValue (free 1) (one sort.Pat) n → IsExpression assignment (cover_at n target.Element)
  pub assigned_element : Sound role.AssignedElement (free 1) (maybe sort.Pat) n → is_absent (kind_of n) ≡ false → IsElement values (cover_at n target.Element)
  pub assigned_slots : Sound role.AssignedElements (free 1) (with_holes sort.Pat) n → CoveredList target.Elements (AreSlots values) n
  pub assigned_property : Sound role.AssignedProperty (free 1) (one sort.ObjectPatProp) n → IsProperty values (cover_at n target.Property)
  pub assigned_properties : Sound role.AssignedProperties (free 1) (many sort.ObjectPatProp) n → CoveredList target.Properties (AreProperties values) n
  -- parts of templates
  pub expressions : Sound role.Free (free 0) (many sort.Expr) n → ListOf (AreValues (length (out-Node n).children)) n
  pub tagged : Sound role.Tagged (free 0) (one sort.Tpl) n → TaggedTemplate n

abbrev pub AllFormed : List Node → Type 0
AllFormed [] = Unit {0}
AllFormed (n ∷ ns) = Formed n × AllFormed ns
