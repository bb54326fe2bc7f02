-- The trees of expressions and statements, a constructor for each form. Parentheses are parts of these trees: none have to be added.
use Rattle.std.specs.Prelude.{map, ◌≡◌, ℕ, ◌-◌, true, false, List, [], ◌∷◌, length, Some, ◌++◌, codes, Bool, ◌+◌, ◌||◌, ◌&&◌, not, is_some, None}
use Rattle.ecma_number.specs.Numeral.{numeral_of}
use Rattle.ecma_lex.specs.Text.{piece}
use Rattle.ecma_lex.specs.Keys.{is_reserved, key_end, priv_name_end}
use Rattle.ecma_lex.specs.Numerals.{num_end, big_end}
use Rattle.ecma_lex.specs.Strings.{str_end, str_value}
use Rattle.ecma_lex.specs.Regexes.{regex_end, regex_body_end}
use Rattle.ecma_lex.specs.Templates.{template_raw, template_value}
use Rattle.ecma_kind.specs.declared.span.Span.{Span}
use Rattle.ecma_kind.specs.declared.operators.VarDeclKind.{VarDeclKind}
use Rattle.ecma_kind.specs.declared.operators.UnaryOp.{UnaryOp}
use Rattle.ecma_kind.specs.declared.operators.UpdateOp.{UpdateOp}
use Rattle.ecma_kind.specs.declared.operators.AssignOp.{AssignOp}
use Rattle.ecma_kind.specs.declared.operators.BinaryOp.{BinaryOp}
use Rattle.ecma_kind.specs.declared.operators.BinaryOp.TheVariants as op
use Rattle.ecma_kind.specs.declared.operators.MethodKind.TheVariants.{Method}
use Rattle.ecma_kind.specs.declared.operators.MetaPropKind.TheVariants.{NewTarget, ImportMeta}
use Rattle.ecma_kind.specs.declared.kind.Kind.TheVariants as kind
use Rattle.ecma_tree.specs.declared.node.Node.{Node}
use Rattle.ecma_tree.specs.Nodes.{node_of}
use Rattle.ecma_grammar.specs.Reads.{without_separators}
use Rattle.ecma_print_tokens.specs.Good.{IsToken, IsTextPart}
use Rattle.ecma_shapes.specs.Heads.{any_of, may_hold_in}
use Rattle.ecma_shapes.specs.Starts.{other_start, is_brace, start_of}
use Rattle.ecma_shapes.specs.MemberKinds.{names_constructor, method_kind, field_kind, accessor_kind}
use Rattle.ecma_shapes.specs.LiteralTexts.{regex_text, part_text}

-- a name that is no reserved word
pub record IsPlainName (word : List ℕ) : Type 0 where
  pub whole : IsToken key_end word
  pub free : is_reserved word ≡ false

pub data IsIdent : Node → Type 0 where
  ident : (at : Span) (word : List ℕ) → IsPlainName word → IsIdent (node_of at (kind.Ident word 0 false) [])

pub data IsKey : Node → Type 0 where
  key : (at : Span) (word : List ℕ) → IsToken key_end word → IsKey (node_of at (kind.IdentName word) [])

-- what stands behind a point: a key, or a private name
pub data IsChainKey : Node → Type 0 where
  plain_key : {n : Node} → IsKey n → IsChainKey n
  private_key : (at : Span) (name : List ℕ) → IsToken priv_name_end (codes "#" ++ name) → IsChainKey (node_of at (kind.PrivateName name) [])

pub record IsRegex (body flags : List ℕ) : Type 0 where
  pub whole : IsToken regex_end (regex_text body flags)
  pub ends : regex_body_end (regex_text body flags) 0 ≡ 1 + length body

pub data IsAbsent : Node → Type 0 where
  absent : (at : Span) → IsAbsent (node_of at kind.Absent [])

-- without line ends other than line feeds; behind a tag it may have no value
pub data IsPart (behind_tag first last : Bool) : Node → Type 0 where
  part : (at : Span) (raw : List ℕ) → IsTextPart first last (part_text first last raw) → template_raw raw ≡ raw → (behind_tag || is_some (template_value raw)) ≡ true
      → IsPart behind_tag first last (node_of at (kind.TplElement raw (template_value raw) last) [])

-- how loosely an expression binds: by its outermost operator, the tightest first (ECMAScript, 13). A conditional expression stands where
-- an assignment does
pub data Level : Type 0 where
  -- the callee of `new`, in which no call stands; what may stand before a point; a numeral, which may not; a call's callee
  new_callee object numeral callee : Level
  -- an optional chain; that, and `new` without arguments
  chain left_hand_side : Level
  update unary power product sum shift relation equality bit_and bit_xor bit_or logical_and logical_or coalescing short_circuit assignment sequence : Level

-- the next level, whose expressions are also those of this one
abbrev pub looser_than : Level → Level
looser_than new_callee = object
looser_than object = callee
looser_than numeral = callee
looser_than callee = left_hand_side
looser_than chain = left_hand_side
looser_than left_hand_side = update
looser_than update = unary
looser_than unary = power
looser_than power = product
looser_than product = sum
looser_than sum = shift
looser_than shift = relation
looser_than relation = equality
looser_than equality = bit_and
looser_than bit_and = bit_xor
looser_than bit_xor = bit_or
looser_than bit_or = logical_and
looser_than logical_and = logical_or
looser_than logical_or = short_circuit
looser_than coalescing = short_circuit
looser_than short_circuit = assignment
looser_than assignment = sequence
looser_than sequence = sequence

-- a member by a name stands at the level of its object
pub data IsMemberLevel : Level → Type 0 where
  member_of_new : IsMemberLevel new_callee
  member_of_object : IsMemberLevel object

-- a member by brackets, or a template behind a tag: the level of what stands before it, and its own
pub data IsIndexed : Level → Level → Type 0 where
  index_of_new : IsIndexed new_callee new_callee
  index_of_numeral : IsIndexed numeral new_callee
  index_of_callee : IsIndexed callee object

-- what `new` constructs
pub data IsConstructor : Level → Type 0 where
  constructor_callee : IsConstructor new_callee
  constructor_numeral : IsConstructor numeral

-- a link of an optional chain: the level of what stands before it, and whether it begins with `?.`
pub data IsChainLink : Level → Bool → Type 0 where
  opens_chain : IsChainLink callee true
  asks_on : IsChainLink chain true
  goes_on : IsChainLink chain false

-- an operator of two operands: its own level, and that of its right side; its left side has its own level
pub data IsOperator : BinaryOp → Level → Level → Type 0 where
  times : IsOperator op.Mul product power
  divided : IsOperator op.Div product power
  modulo : IsOperator op.Mod product power
  plus : IsOperator op.Add sum product
  minus : IsOperator op.Sub sum product
  left_shift : IsOperator op.LShift shift sum
  right_shift : IsOperator op.RShift shift sum
  unsigned_shift : IsOperator op.ZeroFillRShift shift sum
  less : IsOperator op.Lt relation shift
  greater : IsOperator op.Gt relation shift
  at_most : IsOperator op.LtEq relation shift
  at_least : IsOperator op.GtEq relation shift
  instance_of : IsOperator op.InstanceOf relation shift
  contained : IsOperator op.In relation shift
  equal : IsOperator op.EqEq equality relation
  unequal : IsOperator op.NotEq equality relation
  same : IsOperator op.EqEqEq equality relation
  other : IsOperator op.NotEqEq equality relation
  conjunction : IsOperator op.BitAnd bit_and equality
  exclusion : IsOperator op.BitXor bit_xor bit_and
  disjunction : IsOperator op.BitOr bit_or bit_xor

-- what stands on the left side of `??`: another one, or neither `&&` nor `||`
pub data IsCoalesceHead : Level → Type 0 where
  first_head : IsCoalesceHead bit_or
  next_head : IsCoalesceHead coalescing

-- what the brackets or braces round a list stand for: a value, or a pattern that declares names
pub data Role : Type 0 where
  values bindings : Role

-- the name of a function, or a class, that may have none
pub data IsFunctionName : Node → Type 0 where
  unnamed : {none : Node} → IsAbsent none → IsFunctionName none
  function_name : {id : Node} → IsIdent id → IsFunctionName id

-- patterns as the parameters of a function
pub data AreParams : List Node → List Node → Type 0 where
  no_params : AreParams [] []
  more_params : (at : Span) {p : Node} {ps ns : List Node} → AreParams ps ns → AreParams (p ∷ ps) (node_of at kind.Param (p ∷ []) ∷ ns)

-- whether a statement ends with an `if` without `else`: that would take an `else` behind it as its own
pub data Ending : Type 0 where
  closed dangling : Ending

mutual
  -- at a level: its own, or a looser one
  pub data IsExpression : Level → Node → Type 0 where
    looser : {level : Level} {e : Node} → IsExpression level e → IsExpression (looser_than level) e
    name : {id : Node} → IsIdent id → IsExpression new_callee id
    string : (at : Span) (raw : List ℕ) → IsToken str_end raw → IsExpression new_callee (node_of at (kind.Str (str_value (piece raw 1 (length raw - 1))) (Some raw)) [])
    number : (at : Span) (raw : List ℕ) → IsToken num_end raw → IsExpression numeral (node_of at (kind.Number (numeral_of raw) (Some raw)) [])
    this_word : (at : Span) → IsExpression new_callee (node_of at kind.ThisExpr [])
    big_int : (at : Span) (raw : List ℕ) → IsToken big_end raw → IsExpression new_callee (node_of at (kind.BigInt (without_separators (piece raw 0 (length raw - 1))) (Some raw)) [])
    regex : (at : Span) (body flags : List ℕ) → IsRegex body flags → IsExpression new_callee (node_of at (kind.Regex body flags) [])
    template : (at of_expressions of_parts : Span) {expressions parts : List Node} → AreParts false true expressions parts
        → IsExpression new_callee (node_of at kind.Tpl (node_of of_expressions kind.List expressions ∷ node_of of_parts kind.List parts ∷ []))
    null_word : (at : Span) → IsExpression new_callee (node_of at kind.Null [])
    true_word : (at : Span) → IsExpression new_callee (node_of at (kind.Bool true) [])
    false_word : (at : Span) → IsExpression new_callee (node_of at (kind.Bool false) [])
    member : (at : Span) {level : Level} {holder property : Node} → IsMemberLevel level → IsExpression level holder → IsChainKey property → IsExpression level (node_of at kind.MemberExpr (holder ∷ property ∷ []))
    call : (at : Span) {function args none : Node} → IsExpression callee function → IsArguments values args → IsAbsent none → IsExpression object (node_of at kind.CallExpr (function ∷ args ∷ none ∷ []))
    parenthesized : (at : Span) {level : Level} {e : Node} → IsExpression level e → IsExpression new_callee (node_of at kind.ParenExpr (e ∷ []))
    super_member : (at at_super : Span) {property : Node} → IsKey property → IsExpression new_callee (node_of at kind.SuperPropExpr (node_of at_super kind.Super [] ∷ property ∷ []))
    super_element : (at at_super of_key : Span) {level : Level} {e : Node} → IsExpression level e → IsExpression new_callee (node_of at kind.SuperPropExpr (node_of at_super kind.Super [] ∷ node_of of_key kind.ComputedPropName (e ∷ []) ∷ []))
    super_call : (at at_super : Span) {args none : Node} → IsArguments values args → IsAbsent none → IsExpression object (node_of at kind.CallExpr (node_of at_super kind.Super [] ∷ args ∷ none ∷ []))
    -- with arguments, and without
    new_expression : (at : Span) {level : Level} {constructor args none : Node} → IsConstructor level → IsExpression level constructor → IsArguments values args → IsAbsent none → IsExpression new_callee (node_of at kind.NewExpr (constructor ∷ args ∷ none ∷ []))
    new_alone : (at : Span) {level : Level} {constructor none none' : Node} → IsConstructor level → IsExpression level constructor → IsAbsent none → IsAbsent none' → IsExpression left_hand_side (node_of at kind.NewExpr (constructor ∷ none ∷ none' ∷ []))
    new_target : (at : Span) → IsExpression new_callee (node_of at (kind.MetaPropExpr NewTarget) [])
    import_meta : (at : Span) → IsExpression new_callee (node_of at (kind.MetaPropExpr ImportMeta) [])
    import_call : (at at_import : Span) {args none : Node} → IsArguments values args → IsAbsent none → IsExpression object (node_of at kind.CallExpr (node_of at_import kind.Import [] ∷ args ∷ none ∷ []))
    element : (at of_key : Span) {of_holder own level : Level} {holder e : Node} → IsIndexed of_holder own → IsExpression of_holder holder → IsExpression level e → IsExpression own (node_of at kind.MemberExpr (holder ∷ node_of of_key kind.ComputedPropName (e ∷ []) ∷ []))
    tagged_template : (at at_template of_expressions of_parts : Span) {of_tag own : Level} {tag none : Node} {expressions parts : List Node} → IsIndexed of_tag own → IsExpression of_tag tag → IsAbsent none → AreParts true true expressions parts
        → IsExpression own (node_of at kind.TaggedTpl (tag ∷ none ∷ node_of at_template kind.Tpl (node_of of_expressions kind.List expressions ∷ node_of of_parts kind.List parts ∷ []) ∷ []))
    chain_member : (at of_link : Span) {before : Level} {asks : Bool} {holder property : Node} → IsChainLink before asks → IsExpression before holder → IsChainKey property
        → IsExpression chain (node_of at (kind.OptChainExpr asks) (node_of of_link kind.MemberExpr (holder ∷ property ∷ []) ∷ []))
    chain_element : (at of_link of_key : Span) {before level : Level} {asks : Bool} {holder e : Node} → IsChainLink before asks → IsExpression before holder → IsExpression level e
        → IsExpression chain (node_of at (kind.OptChainExpr asks) (node_of of_link kind.MemberExpr (holder ∷ node_of of_key kind.ComputedPropName (e ∷ []) ∷ []) ∷ []))
    chain_call : (at of_link : Span) {before : Level} {asks : Bool} {function args none : Node} → IsChainLink before asks → IsExpression before function → IsArguments values args → IsAbsent none
        → IsExpression chain (node_of at (kind.OptChainExpr asks) (node_of of_link kind.OptCall (function ∷ args ∷ none ∷ []) ∷ []))
    prefix_update : (at : Span) (operator : UpdateOp) {e : Node} → IsExpression callee e → IsExpression update (node_of at (kind.UpdateExpr operator true) (e ∷ []))
    postfix_update : (at : Span) (operator : UpdateOp) {e : Node} → IsExpression callee e → IsExpression update (node_of at (kind.UpdateExpr operator false) (e ∷ []))
    await_expression : (at : Span) {e : Node} → IsExpression unary e → IsExpression unary (node_of at kind.AwaitExpr (e ∷ []))
    unary_expression : (at : Span) (operator : UnaryOp) {e : Node} → IsExpression unary e → IsExpression unary (node_of at (kind.UnaryExpr operator) (e ∷ []))
    binary_expression : (at : Span) {operator : BinaryOp} {level tighter : Level} {left right : Node} → IsOperator operator level tighter → IsExpression level left → IsExpression tighter right
        → IsExpression level (node_of at (kind.BinExpr operator) (left ∷ right ∷ []))
    -- whether an object has a private name
    private_in : (at at_name : Span) (name : List ℕ) {right : Node} → IsToken priv_name_end (codes "#" ++ name) → IsExpression shift right
        → IsExpression relation (node_of at (kind.BinExpr op.In) (node_of at_name (kind.PrivateName name) [] ∷ right ∷ []))
    -- `**` groups to the right, and no operator stands before its left side
    exponentiation : (at : Span) {left right : Node} → IsExpression update left → IsExpression power right → IsExpression power (node_of at (kind.BinExpr op.Exp) (left ∷ right ∷ []))
    both : (at : Span) {left right : Node} → IsExpression logical_and left → IsExpression bit_or right → IsExpression logical_and (node_of at (kind.BinExpr op.LogicalAnd) (left ∷ right ∷ []))
    either : (at : Span) {left right : Node} → IsExpression logical_or left → IsExpression logical_and right → IsExpression logical_or (node_of at (kind.BinExpr op.LogicalOr) (left ∷ right ∷ []))
    coalesced : (at : Span) {head : Level} {left right : Node} → IsCoalesceHead head → IsExpression head left → IsExpression bit_or right → IsExpression coalescing (node_of at (kind.BinExpr op.NullishCoalescing) (left ∷ right ∷ []))
    assignment_expression : (at : Span) (operator : AssignOp) {target value : Node} → IsExpression callee target → IsExpression assignment value → IsExpression assignment (node_of at (kind.AssignExpr operator) (target ∷ value ∷ []))
    conditional_expression : (at : Span) {test first second : Node} → IsExpression short_circuit test → IsExpression assignment first → IsExpression assignment second
        → IsExpression assignment (node_of at kind.CondExpr (test ∷ first ∷ second ∷ []))
    yield_nothing : (at : Span) {none : Node} → IsAbsent none → IsExpression assignment (node_of at (kind.YieldExpr false) (none ∷ []))
    -- `yield`, or `yield*`
    yield_value : (at : Span) (delegate : Bool) {e : Node} → IsExpression assignment e → IsExpression assignment (node_of at (kind.YieldExpr delegate) (e ∷ []))
    -- with an expression as its body; its parameters stand in parentheses
    arrow_function : (at : Span) (is_async : Bool) {params body none none' : Node} → IsArguments bindings params → IsExpression assignment body → is_brace (start_of body) ≡ false → IsAbsent none → IsAbsent none'
        → IsExpression assignment (node_of at (kind.ArrowExpr is_async false) (params ∷ body ∷ none ∷ none' ∷ []))
    -- with a block
    arrow_block : (at : Span) (is_async : Bool) {params body none none' : Node} → IsArguments bindings params → IsBlock body → IsAbsent none → IsAbsent none' → IsExpression assignment (node_of at (kind.ArrowExpr is_async false) (params ∷ body ∷ none ∷ none' ∷ []))
    array : (at of_list : Span) {slots : List Node} → AreSlots values slots → IsExpression new_callee (node_of at kind.ArrayLit (node_of of_list kind.List slots ∷ []))
    object_literal : (at of_list : Span) {properties : List Node} → AreProperties values properties → IsExpression new_callee (node_of at kind.ObjectLit (node_of of_list kind.List properties ∷ []))
    function_expression : (at : Span) {name function : Node} → IsFunctionName name → IsFunction function → IsExpression new_callee (node_of at kind.FnExpr (name ∷ function ∷ []))
    class_expression : (at : Span) {name class : Node} → IsFunctionName name → IsClass class → IsExpression new_callee (node_of at kind.ClassExpr (name ∷ class ∷ []))
    sequence_expression : (at : Span) {first second : Node} {more : List Node} → IsExpression assignment first → IsExpression assignment second → AreExpressions more → IsExpression sequence (node_of at kind.SeqExpr (first ∷ second ∷ more))

  -- an argument, or an element of an array: an expression, or the values of one; and the same of a pattern
  pub data IsElement : Role → Node → Type 0 where
    one : {e : Node} → IsExpression assignment e → IsElement values e
    spread : (at : Span) {e : Node} → IsExpression assignment e → IsElement values (node_of at kind.SpreadElement (e ∷ []))
    bound : {p : Node} → IsDefaulted p → IsElement bindings p
    rest : (at : Span) {p none : Node} → IsPattern p → IsAbsent none → IsElement bindings (node_of at kind.RestPat (p ∷ none ∷ []))

  -- the elements of an array or an array pattern, and holes
  pub data AreSlots : Role → List Node → Type 0 where
    no_slots : {role : Role} → AreSlots role []
    filled : {role : Role} {e : Node} {slots : List Node} → IsElement role e → AreSlots role slots → AreSlots role (e ∷ slots)
    hole : {role : Role} {none : Node} {slots : List Node} → IsAbsent none → AreSlots role slots → AreSlots role (none ∷ slots)

  -- what stands before the `:` of a property
  pub data IsPropertyName : Node → Type 0 where
    key_name : {k : Node} → IsKey k → IsPropertyName k
    string_name : (at : Span) (raw : List ℕ) → IsToken str_end raw → IsPropertyName (node_of at (kind.Str (str_value (piece raw 1 (length raw - 1))) (Some raw)) [])
    number_name : (at : Span) (raw : List ℕ) → IsToken num_end raw → IsPropertyName (node_of at (kind.Number (numeral_of raw) (Some raw)) [])
    big_int_name : (at : Span) (raw : List ℕ) → IsToken big_end raw → IsPropertyName (node_of at (kind.BigInt (without_separators (piece raw 0 (length raw - 1))) (Some raw)) [])
    computed_name : (at : Span) {e : Node} → IsExpression assignment e → IsPropertyName (node_of at kind.ComputedPropName (e ∷ []))

  pub data IsProperty : Role → Node → Type 0 where
    key_value : (at : Span) {name value : Node} → IsPropertyName name → IsExpression assignment value → IsProperty values (node_of at kind.KeyValueProp (name ∷ value ∷ []))
    shorthand : {id : Node} → IsIdent id → IsProperty values id
    -- a name and a default value, where the object is assigned to
    initialized : (at : Span) {id value : Node} → IsIdent id → IsExpression assignment value → IsProperty values (node_of at kind.AssignProp (id ∷ value ∷ []))
    spread_property : (at : Span) {e : Node} → IsExpression assignment e → IsProperty values (node_of at kind.SpreadElement (e ∷ []))
    method_property : (at : Span) {name function : Node} → IsPropertyName name → IsFunction function → IsProperty values (node_of at kind.MethodProp (name ∷ function ∷ []))
    getter_property : (at : Span) {name none body : Node} → IsPropertyName name → IsAbsent none → IsBlock body → IsProperty values (node_of at kind.GetterProp (name ∷ none ∷ body ∷ []))
    setter_property : (at : Span) {name none param body : Node} → IsPropertyName name → IsAbsent none → IsDefaulted param → IsBlock body → IsProperty values (node_of at kind.SetterProp (name ∷ none ∷ param ∷ body ∷ []))
    renamed : (at : Span) {name p : Node} → IsPropertyName name → IsDefaulted p → IsProperty bindings (node_of at kind.KeyValuePatProp (name ∷ p ∷ []))
    named : (at at_binding : Span) {id none value : Node} → IsIdent id → IsAbsent none → IsInitializer value → IsProperty bindings (node_of at kind.AssignPatProp (node_of at_binding kind.BindingIdent (id ∷ none ∷ []) ∷ value ∷ []))
    rest_property : (at at_binding : Span) {id none none' : Node} → IsIdent id → IsAbsent none → IsAbsent none' → IsProperty bindings (node_of at kind.RestPat (node_of at_binding kind.BindingIdent (id ∷ none ∷ []) ∷ none' ∷ []))

  pub data AreProperties : Role → List Node → Type 0 where
    no_properties : {role : Role} → AreProperties role []
    more_properties : {role : Role} {p : Node} {ps : List Node} → IsProperty role p → AreProperties role ps → AreProperties role (p ∷ ps)

  -- what is declared: a name, or those in an array or object pattern (ECMAScript, 14.3.3)
  pub data IsPattern : Node → Type 0 where
    name_pattern : (at : Span) {id none : Node} → IsIdent id → IsAbsent none → IsPattern (node_of at kind.BindingIdent (id ∷ none ∷ []))
    array_pattern : (at of_list : Span) {slots : List Node} {none : Node} → AreSlots bindings slots → IsAbsent none → IsPattern (node_of at (kind.ArrayPat false) (node_of of_list kind.List slots ∷ none ∷ []))
    object_pattern : (at of_list : Span) {properties : List Node} {none : Node} → AreProperties bindings properties → IsAbsent none → IsPattern (node_of at (kind.ObjectPat false) (node_of of_list kind.List properties ∷ none ∷ []))

  -- a pattern with a default value, or without one
  pub data IsDefaulted : Node → Type 0 where
    no_default : {p : Node} → IsPattern p → IsDefaulted p
    with_default : (at : Span) {p e : Node} → IsPattern p → IsExpression assignment e → IsDefaulted (node_of at kind.AssignPat (p ∷ e ∷ []))

  pub data IsInitializer : Node → Type 0 where
    no_initializer : {none : Node} → IsAbsent none → IsInitializer none
    initializer : {e : Node} → IsExpression assignment e → IsInitializer e

  -- what stands in parentheses: arguments, or parameters
  pub data IsArguments : Role → Node → Type 0 where
    no_arguments : {role : Role} (at : Span) → IsArguments role (node_of at kind.List [])
    arguments : {role : Role} (at : Span) {e : Node} {es : List Node} → IsElement role e → AreElements role es → IsArguments role (node_of at kind.List (e ∷ es))

  pub data AreElements : Role → List Node → Type 0 where
    no_elements : {role : Role} → AreElements role []
    more_elements : {role : Role} {e : Node} {es : List Node} → IsElement role e → AreElements role es → AreElements role (e ∷ es)

  -- the expressions of a template, and its text parts: behind a tag or not, from the first or from a later one
  pub data AreParts : Bool → Bool → List Node → List Node → Type 0 where
    last_part : {behind_tag first : Bool} {p : Node} → IsPart behind_tag first true p → AreParts behind_tag first [] (p ∷ [])
    more_parts : {behind_tag first : Bool} {p e : Node} {es ps : List Node} {level : Level} → IsPart behind_tag first false p → IsExpression level e → AreParts behind_tag false es ps → AreParts behind_tag first (e ∷ es) (p ∷ ps)

  pub data AreExpressions : List Node → Type 0 where
    no_expressions : AreExpressions []
    more_expressions : {e : Node} {es : List Node} → IsExpression assignment e → AreExpressions es → AreExpressions (e ∷ es)

  pub data IsDeclarator : Node → Type 0 where
    declarator : (at : Span) {p init : Node} → IsPattern p → IsInitializer init → IsDeclarator (node_of at (kind.VarDeclarator false) (p ∷ init ∷ []))

  pub data AreDeclarators : List Node → Type 0 where
    no_declarators : AreDeclarators []
    more_declarators : {d : Node} {ds : List Node} → IsDeclarator d → AreDeclarators ds → AreDeclarators (d ∷ ds)

  -- what may be left out
  pub data IsOptional : Node → Type 0 where
    left_out : {none : Node} → IsAbsent none → IsOptional none
    given : {level : Level} {e : Node} → IsExpression level e → IsOptional e

  -- what each turn of a loop declares, or assigns to
  pub data IsForLeft : Node → Type 0 where
    for_binding : (at of_list at_declarator : Span) (k : VarDeclKind) {p init : Node} → IsPattern p → IsAbsent init
        → IsForLeft (node_of at (kind.VarDecl k false) (node_of of_list kind.List (node_of at_declarator (kind.VarDeclarator false) (p ∷ init ∷ []) ∷ []) ∷ []))
    for_target : {e : Node} → IsExpression callee e → may_hold_in e ≡ false → IsForLeft e

  -- what stands before the first `;` of a head
  pub data IsForInit : Node → Type 0 where
    no_init : {none : Node} → IsAbsent none → IsForInit none
    init_declaration : (at of_list : Span) (k : VarDeclKind) {d : Node} {ds : List Node} → IsDeclarator d → AreDeclarators ds → any_of (map may_hold_in (d ∷ ds)) ≡ false → IsForInit (node_of at (kind.VarDecl k false) (node_of of_list kind.List (d ∷ ds) ∷ []))
    init_expression : {level : Level} {e : Node} → IsExpression level e → may_hold_in e ≡ false → IsForInit e

  -- what a class extends
  pub data IsHeritage : Node → Type 0 where
    no_heritage : {none : Node} → IsAbsent none → IsHeritage none
    heritage : {e : Node} → IsExpression left_hand_side e → IsHeritage e

  -- a name of a member of a class, which may be private
  pub data IsMemberName : Bool → Node → Type 0 where
    property_member : {n : Node} → IsPropertyName n → IsMemberName false n
    private_member : (at : Span) (name : List ℕ) → IsToken priv_name_end (codes "#" ++ name) → IsMemberName true (node_of at (kind.PrivateName name) [])

  pub data IsStatement : Ending → Node → Type 0 where
    expression : (at : Span) {level : Level} {e : Node} → IsExpression level e → start_of e ≡ other_start → IsStatement closed (node_of at kind.ExprStmt (e ∷ []))
    declaration : (at of_list : Span) (k : VarDeclKind) {d : Node} {ds : List Node} → IsDeclarator d → AreDeclarators ds → IsStatement closed (node_of at (kind.VarDecl k false) (node_of of_list kind.List (d ∷ ds) ∷ []))
    empty : (at : Span) → IsStatement closed (node_of at kind.EmptyStmt [])
    debugger_word : (at : Span) → IsStatement closed (node_of at kind.DebuggerStmt [])
    throw : (at : Span) {level : Level} {e : Node} → IsExpression level e → IsStatement closed (node_of at kind.ThrowStmt (e ∷ []))
    return_value : (at : Span) {level : Level} {e : Node} → IsExpression level e → IsStatement closed (node_of at kind.ReturnStmt (e ∷ []))
    return_nothing : (at : Span) {none : Node} → IsAbsent none → IsStatement closed (node_of at kind.ReturnStmt (none ∷ []))
    break_nothing : (at : Span) {none : Node} → IsAbsent none → IsStatement closed (node_of at kind.BreakStmt (none ∷ []))
    continue_nothing : (at : Span) {none : Node} → IsAbsent none → IsStatement closed (node_of at kind.ContinueStmt (none ∷ []))
    break_label : (at : Span) {label : Node} → IsIdent label → IsStatement closed (node_of at kind.BreakStmt (label ∷ []))
    continue_label : (at : Span) {label : Node} → IsIdent label → IsStatement closed (node_of at kind.ContinueStmt (label ∷ []))
    block : {b : Node} → IsBlock b → IsStatement closed b
    if_only : (at : Span) {level : Level} {ending : Ending} {test body none : Node} → IsExpression level test → IsStatement ending body → IsAbsent none → IsStatement dangling (node_of at kind.IfStmt (test ∷ body ∷ none ∷ []))
    -- nothing before `else` would take it
    if_else : (at : Span) {level : Level} {ending : Ending} {test body alternative : Node} → IsExpression level test → IsStatement closed body → IsStatement ending alternative
        → IsStatement ending (node_of at kind.IfStmt (test ∷ body ∷ alternative ∷ []))
    while_loop : (at : Span) {level : Level} {ending : Ending} {test body : Node} → IsExpression level test → IsStatement ending body → IsStatement ending (node_of at kind.WhileStmt (test ∷ body ∷ []))
    do_loop : (at : Span) {level : Level} {ending : Ending} {test body : Node} → IsExpression level test → IsStatement ending body → IsStatement closed (node_of at kind.DoWhileStmt (test ∷ body ∷ []))
    switch_statement : (at of_list : Span) {level : Level} {test : Node} {cs : List Node} → IsExpression level test → AreCases cs → IsStatement closed (node_of at kind.SwitchStmt (test ∷ node_of of_list kind.List cs ∷ []))
    try_catch : (at : Span) {b c none : Node} → IsBlock b → IsCatch c → IsAbsent none → IsStatement closed (node_of at kind.TryStmt (b ∷ c ∷ none ∷ []))
    try_finally : (at : Span) {b none f : Node} → IsBlock b → IsAbsent none → IsBlock f → IsStatement closed (node_of at kind.TryStmt (b ∷ none ∷ f ∷ []))
    try_catch_finally : (at : Span) {b c f : Node} → IsBlock b → IsCatch c → IsBlock f → IsStatement closed (node_of at kind.TryStmt (b ∷ c ∷ f ∷ []))
    for_loop : (at : Span) {ending : Ending} {init test update body : Node} → IsForInit init → IsOptional test → IsOptional update → IsStatement ending body → IsStatement ending (node_of at kind.ForStmt (init ∷ test ∷ update ∷ body ∷ []))
    for_in : (at : Span) {level : Level} {ending : Ending} {left object body : Node} → IsForLeft left → IsExpression level object → IsStatement ending body → IsStatement ending (node_of at kind.ForInStmt (left ∷ object ∷ body ∷ []))
    for_of : (at : Span) (is_await : Bool) {ending : Ending} {left iterable body : Node} → IsForLeft left → IsExpression assignment iterable → IsStatement ending body
        → IsStatement ending (node_of at (kind.ForOfStmt is_await) (left ∷ iterable ∷ body ∷ []))
    labeled : (at : Span) {ending : Ending} {label body : Node} → IsIdent label → IsStatement ending body → IsStatement ending (node_of at kind.LabeledStmt (label ∷ body ∷ []))
    function_statement : (at : Span) {id function : Node} → IsIdent id → IsFunction function → IsStatement closed (node_of at (kind.FnDecl false) (id ∷ function ∷ []))
    class_statement : (at : Span) {id class : Node} → IsIdent id → IsClass class → IsStatement closed (node_of at (kind.ClassDecl false) (id ∷ class ∷ []))

  -- what stands behind the name of a class
  pub data IsClass : Node → Type 0 where
    class_of : (at of_members of_interfaces : Span) {super none none' : Node} {ms : List Node} → IsHeritage super → AreMembers ms → IsAbsent none → IsAbsent none'
        → IsClass (node_of at (kind.Class false) (super ∷ node_of of_members kind.List ms ∷ none ∷ none' ∷ node_of of_interfaces kind.List [] ∷ []))

  pub data IsMember : Node → Type 0 where
    empty_member : (at : Span) → IsMember (node_of at kind.EmptyStmt [])
    static_block : (at : Span) {b : Node} → IsBlock b → IsMember (node_of at kind.StaticBlock (b ∷ []))
    -- the constructor is none, unless it is static
    method : (at : Span) (is_static : Bool) {private : Bool} {key function : Node} → IsMemberName private key → IsFunction function → (not is_static && names_constructor key) ≡ false
        → IsMember (node_of at (method_kind private Method is_static) (key ∷ function ∷ []))
    class_constructor : (at of_params : Span) {key : Node} {elements params : List Node} {body : Node} → IsPropertyName key → names_constructor key ≡ true → IsArguments bindings (node_of of_params kind.List elements) → AreParams elements params → IsBlock body
        → IsMember (node_of at (kind.Constructor None false) (key ∷ node_of of_params kind.List params ∷ body ∷ []))
    field : (at : Span) (is_static : Bool) {private : Bool} {key value none : Node} → IsMemberName private key → IsInitializer value → IsAbsent none → IsMember (node_of at (field_kind private is_static) (key ∷ value ∷ none ∷ []))
    -- a getter or a setter
    accessor : (at at_function of_params : Span) (is_static is_setter : Bool) {private : Bool} {key body none none' : Node} {elements params : List Node} → IsMemberName private key → IsArguments bindings (node_of of_params kind.List elements) → AreParams elements params → IsBlock body → IsAbsent none → IsAbsent none'
        → IsMember (node_of at (method_kind private (accessor_kind is_setter) is_static) (key ∷ node_of at_function (kind.Function false false) (node_of of_params kind.List params ∷ body ∷ none ∷ none' ∷ []) ∷ []))

  pub data AreMembers : List Node → Type 0 where
    no_members : AreMembers []
    more_members : {m : Node} {ms : List Node} → IsMember m → AreMembers ms → AreMembers (m ∷ ms)

  -- what stands behind the name of a function: its parameters, and a block
  pub data IsFunction : Node → Type 0 where
    function_of : (at of_params : Span) (is_generator is_async : Bool) {elements params : List Node} {body none none' : Node} → IsArguments bindings (node_of of_params kind.List elements) → AreParams elements params → IsBlock body → IsAbsent none → IsAbsent none'
        → IsFunction (node_of at (kind.Function is_generator is_async) (node_of of_params kind.List params ∷ body ∷ none ∷ none' ∷ []))

  pub data IsBlock : Node → Type 0 where
    block_of : (at of_list : Span) {ss : List Node} → AreStatements ss → IsBlock (node_of at kind.BlockStmt (node_of of_list kind.List ss ∷ []))

  pub data IsCase : Node → Type 0 where
    case_of : (at of_list : Span) {level : Level} {test : Node} {ss : List Node} → IsExpression level test → AreStatements ss → IsCase (node_of at kind.SwitchCase (test ∷ node_of of_list kind.List ss ∷ []))
    default_of : (at of_list : Span) {none : Node} {ss : List Node} → IsAbsent none → AreStatements ss → IsCase (node_of at kind.SwitchCase (none ∷ node_of of_list kind.List ss ∷ []))

  pub data AreCases : List Node → Type 0 where
    no_cases : AreCases []
    more_cases : {c : Node} {cs : List Node} → IsCase c → AreCases cs → AreCases (c ∷ cs)

  pub data IsCatch : Node → Type 0 where
    catch_any : (at : Span) {none b : Node} → IsAbsent none → IsBlock b → IsCatch (node_of at kind.CatchClause (none ∷ b ∷ []))
    catch_pattern : (at : Span) {p b : Node} → IsPattern p → IsBlock b → IsCatch (node_of at kind.CatchClause (p ∷ b ∷ []))

  pub data AreStatements : List Node → Type 0 where
    no_statements : AreStatements []
    more_statements : {ending : Ending} {s : Node} {ss : List Node} → IsStatement ending s → AreStatements ss → AreStatements (s ∷ ss)

abbrev pub is_private : {private : Bool} {n : Node} → IsMemberName private n → Bool
is_private {private} k = private
