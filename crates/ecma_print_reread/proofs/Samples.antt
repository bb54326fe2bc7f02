-- A module that has the shape, and its text.
use Rattle.std.proofs.Common.{◌≡◌, ℕ, zero, suc, false, true, [], ◌∷◌, refl, ◌∙◌, codes, None, ap}
use Rattle.std.proofs.lemmas.Str.{IsUtf8-from_is_utf8}
use Rattle.std.specs.Str.{chars, is_utf8}
use lib.Utf8.{encode}
use Rattle.unicode_ident.specs.Ident.{is_xid_start, is_xid_continue}
use Rattle.ucd_table.specs.Rows.{in_ranges}
use Rattle.ucd_derived.specs.XidStartRanges.{xid_start_ranges}
use Rattle.ucd_derived.specs.XidContinueRanges.{xid_continue_ranges}
use Rattle.ecma_lex.specs.Keys.{is_reserved, reserved_words}
use Rattle.ecma_lex.proofs.Spelled.{Spelled, IsKey as IsKeySpelling}
use Rattle.ecma_kind.specs.declared.span.Span.{Span}
use Rattle.ecma_kind.specs.declared.operators.VarDeclKind.TheVariants.{Const}
use Rattle.ecma_kind.specs.declared.operators.UnaryOp.TheVariants.{Minus}
use Rattle.ecma_kind.specs.declared.operators.UpdateOp.TheVariants.{PlusPlus}
use Rattle.ecma_kind.specs.declared.operators.BinaryOp.TheVariants.{Add, Mul}
use Rattle.ecma_kind.specs.declared.operators.AssignOp.TheVariants.{Assign}
use Rattle.ecma_kind.specs.declared.kind.Kind.TheVariants as kind
use Rattle.ecma_tree.specs.declared.node.Node.{Node}
use Rattle.ecma_tree.specs.Nodes.{node_of}
use Rattle.ecma_print.specs.Layout.{layout}
use Rattle.ecma_print_tokens.specs.Items.{render}
use Rattle.ecma_shapes.specs.Shapes.{arrow_function, closed, Level, assignment, IsExpression, element, postfix_update, conditional_expression, assignment_expression, unary_expression, binary_expression, plus, times, IsPlainName, ident, key, absent, looser, name, null_word, this_word, member, call, parenthesized, one, spread, arguments, no_elements, more_elements, name_pattern, array_pattern, object_pattern, bound, rest, no_default, with_default, renamed, named, rest_property, no_initializer, more_declarators, initializer, declarator, no_declarators, expression, declaration, object_literal, key_name, key_value, shorthand, initialized, spread_property, no_properties, more_properties, array, no_slots, filled, hole, member_of_new, member_of_object, index_of_callee, plain_key, IsStatement}
use Rattle.ecma_shapes.specs.Modules.{statement, no_items, more_items, IsModule, module_of}
use Rattle.ecma_shapes.proofs.ModuleTokens.{module_tokens}
use Rattle.ecma_print_readings.proofs.Bindings.{further_out}
use Rattle.ecma_print_layouts.proofs.ModuleLayouts.{module_laid}
use Rattle.ecma_print_layouts.proofs.Words.{whole, async_spelled}
use Rattle.ecma_shapes.specs.Starts.{other_start, is_brace}
use Rattle.ecma_shapes.proofs.Starts.{start, starts_agree}

abbrev pub at : Span
at = record { lo = 3; hi = 5 }

pub a_spelled : Spelled IsKeySpelling (codes "a")
unfolding chars is_utf8 encode is_xid_start is_xid_continue in_ranges xid_start_ranges xid_continue_ranges
a_spelled = (IsUtf8-from_is_utf8 (codes "a") refl, (refl, refl))

pub a_name : IsPlainName (codes "a")
unfolding is_reserved reserved_words
a_name = record { whole = whole (codes "a") a_spelled; free = refl }

pub async_name : IsPlainName (codes "async")
unfolding is_reserved reserved_words
async_name = record { whole = whole (codes "async") async_spelled; free = refl }

abbrev pub gone : Node
gone = node_of at kind.Absent []

abbrev pub a : Node
a = node_of at (kind.Ident (codes "a") 0 false) []

abbrev pub async : Node
async = node_of at (kind.Ident (codes "async") 0 false) []

abbrev properties : Node
properties =
    node_of at kind.ObjectLit
    (node_of at kind.List
    (node_of at kind.KeyValueProp (node_of at (kind.IdentName (codes "a")) [] ∷ node_of at kind.Null [] ∷ []) ∷ a ∷ node_of at kind.AssignProp (a ∷ a ∷ []) ∷ node_of at kind.SpreadElement (a ∷ []) ∷ []) ∷ [])

abbrev elements : Node
elements = node_of at kind.ArrayLit (node_of at kind.List (a ∷ gone ∷ properties ∷ gone ∷ []) ∷ [])

abbrev product : Node
product =
    node_of at (kind.BinExpr Mul)
    (node_of at kind.MemberExpr (a ∷ node_of at kind.ComputedPropName (node_of at (kind.UpdateExpr PlusPlus false) (a ∷ []) ∷ []) ∷ [])
    ∷ node_of at kind.ParenExpr (node_of at kind.CondExpr (a ∷ a ∷ a ∷ []) ∷ []) ∷ [])

abbrev value : Node
value = node_of at (kind.BinExpr Add) (node_of at (kind.UnaryExpr Minus) (node_of at (kind.UnaryExpr Minus) (a ∷ []) ∷ []) ∷ product ∷ [])

-- an expression so many levels further out
abbrev pub out : (n : ℕ) {level : Level} {e : Node} → IsExpression level e → IsExpression (further_out n level) e
out zero is = is
out (suc n) is = out n (looser is)

value_shape : IsExpression assignment value
value_shape =
    let id = name (ident at (codes "a") a_name) in
    let held = element at at index_of_callee (out 2 id) (postfix_update at PlusPlus (out 2 id)) in
    let chosen = parenthesized at (conditional_expression at (out 17 id) (out 18 id) (out 18 id)) in
    out 10 (binary_expression at plus (out 3 (unary_expression at Minus (unary_expression at Minus (out 5 id)))) (binary_expression at times (out 6 held) (out 6 chosen)))

abbrev bound_a : Node
bound_a = node_of at kind.BindingIdent (a ∷ gone ∷ [])

abbrev bound_names : Node
bound_names =
    node_of at (kind.ArrayPat false)
    (node_of at kind.List
    (gone
    ∷ node_of at (kind.ObjectPat false)
    (node_of at kind.List
    (node_of at kind.KeyValuePatProp (node_of at (kind.IdentName (codes "a")) [] ∷ node_of at kind.AssignPat (bound_a ∷ a ∷ []) ∷ [])
    ∷ node_of at kind.AssignPatProp (bound_a ∷ gone ∷ []) ∷ node_of at kind.RestPat (bound_a ∷ gone ∷ []) ∷ [])
    ∷ gone ∷ [])
    ∷ node_of at kind.RestPat (bound_a ∷ gone ∷ []) ∷ [])
    ∷ gone ∷ [])

abbrev pub plainly : {level : Level} {e : Node} (is : IsExpression level e) → start is ≡ other_start → IsStatement closed (node_of at kind.ExprStmt (e ∷ []))
plainly is h = expression at is (starts_agree is ∙ h)

abbrev chooser : Node
chooser =
    node_of at (kind.ArrowExpr true false)
    (node_of at kind.List (node_of at kind.AssignPat (bound_a ∷ a ∷ []) ∷ node_of at kind.RestPat (bound_a ∷ gone ∷ []) ∷ []) ∷ a ∷ gone ∷ gone ∷ [])

-- `const async = (this), [, { a: a = a, a, ...a }, ...a] = a;`, `a.a(...a, [a, , { a: null, a, a = a, ...a }, ,]);`, `async(a, async (a = a, ...a) => a).a;` and `a = - -a + a[a++] * (a ? a : a);`
abbrev tree : Node
tree =
    node_of at (kind.Module None)
    (node_of at kind.List
    (node_of at (kind.VarDecl Const false)
    (node_of at kind.List (node_of at (kind.VarDeclarator false) (node_of at kind.BindingIdent (async ∷ gone ∷ []) ∷ node_of at kind.ParenExpr (node_of at kind.ThisExpr [] ∷ []) ∷ []) ∷ node_of at (kind.VarDeclarator false) (bound_names ∷ a ∷ []) ∷ []) ∷ [])
    ∷ node_of at kind.ExprStmt
    (node_of at kind.CallExpr
    (node_of at kind.MemberExpr (a ∷ node_of at (kind.IdentName (codes "a")) [] ∷ []) ∷ node_of at kind.List (node_of at kind.SpreadElement (a ∷ []) ∷ elements ∷ []) ∷ gone ∷ []) ∷ [])
    ∷ node_of at kind.ExprStmt
    (node_of at kind.MemberExpr
    (node_of at kind.CallExpr (async ∷ node_of at kind.List (a ∷ chooser ∷ []) ∷ gone ∷ []) ∷ node_of at (kind.IdentName (codes "a")) [] ∷ []) ∷ [])
    ∷ node_of at kind.ExprStmt (node_of at (kind.AssignExpr Assign) (a ∷ value ∷ []) ∷ [])
    ∷ [])
    ∷ [])

shape : IsModule false tree
shape =
    let id = ident at (codes "a") a_name in
    let async' = ident at (codes "async") async_name in
    let it' = whole (codes "a") a_spelled in
    let value = out 18 (name id) in
    let object = object_literal at at (more_properties (key_value at (key_name (key at (codes "a") it')) (out 18 (null_word at))) (more_properties (shorthand id) (more_properties (initialized at id value) (more_properties (spread_property at value) no_properties)))) in
    let slots = array at at (filled (one (out 18 (name id))) (hole (absent at) (filled (one (out 18 object)) (hole (absent at) no_slots)))) in
    let bound_a = name_pattern at id (absent at) in
    let names =
    array_pattern at at
    (hole (absent at)
    (filled
    (bound
    (no_default
    (object_pattern at at
    (more_properties (renamed at (key_name (key at (codes "a") it')) (with_default at bound_a value))
    (more_properties (named at at id (absent at) (no_initializer (absent at))) (more_properties (rest_property at at id (absent at) (absent at)) no_properties)))
    (absent at))))
    (filled (rest at bound_a (absent at)) no_slots)))
    (absent at) in
    let chosen =
    arrow_function at true (arguments at (bound (with_default at bound_a value)) (more_elements (rest at bound_a (absent at)) no_elements)) value (ap is_brace (starts_agree value)) (absent at) (absent at) in
    module_of at at
    (more_items (statement (declaration at at Const (declarator at (name_pattern at async' (absent at)) (initializer (out 18 (parenthesized at (this_word at))))) (more_declarators (declarator at names (initializer value)) no_declarators)))
    (more_items (statement (plainly (call at (out 2 (member at member_of_new (name id) (plain_key (key at (codes "a") it')))) (arguments at (spread at (out 18 (name id))) (more_elements (one (out 18 slots)) no_elements)) (absent at)) refl))
    (more_items (statement (plainly (member at member_of_object (call at (out 2 (name async')) (arguments at (one (out 18 (name id))) (more_elements (one chosen) no_elements)) (absent at)) (plain_key (key at (codes "a") it'))) refl))
    (more_items (statement (plainly (assignment_expression at Assign (out 2 (name id)) value_shape) refl)) no_items))))

text : render (module_tokens shape) ≡ codes "const async = (this), [, { a: a = a, a, ...a }, ...a] = a;\na.a(...a, [a, , { a: null, a, a = a, ...a }, ,]);\nasync(a, async (a = a, ...a) => a).a;\na = - -a + a[a++] * (a ? a : a);\n"
unfolding render shape value_shape
text = refl

laid : layout tree ≡ codes "const async = (this), [, { a: a = a, a, ...a }, ...a] = a;\na.a(...a, [a, , { a: null, a, a = a, ...a }, ,]);\nasync(a, async (a = a, ...a) => a).a;\na = - -a + a[a++] * (a ? a : a);\n"
unfolding shape
laid = module_laid shape ∙ text
