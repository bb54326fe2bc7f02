-- What expressions do, by kind and by what the children mean (ECMAScript, 13 Expressions, 15 Functions and Classes).
use Rattle.std.specs.Prelude.{ℕ, List, [], ◌∷◌, ◌++◌, map, Option, Some, None, Bool, true, false, cond, bytes_eq, codes, ◌&&◌}
use Rattle.ecma_number.specs.Text.{text_of}
use Rattle.ecma_kind.specs.declared.kind.Kind.{Kind}
use Rattle.ecma_kind.specs.declared.kind.Kind.TheVariants as kind
use Rattle.ecma_kind.specs.declared.operators.AssignOp.{AssignOp}
use Rattle.ecma_kind.specs.declared.operators.AssignOp.TheVariants.{Assign}
use Rattle.ecma_kind.specs.declared.operators.BinaryOp.{BinaryOp}
use Rattle.ecma_kind.specs.declared.operators.BinaryOp.TheVariants as binary
use Rattle.ecma_kind.specs.declared.operators.MetaPropKind.TheVariants.{NewTarget, ImportMeta}
use Rattle.ecma_kind.specs.declared.operators.UnaryOp.{UnaryOp}
use Rattle.ecma_kind.specs.declared.operators.UnaryOp.TheVariants as operator
use Rattle.ecma_kind.specs.declared.operators.UpdateOp.{UpdateOp}
use Rattle.ecma_tree.specs.declared.node.Node.{Node}
use Rattle.ecma_runs.specs.Values.{Value, Undefined, Null, Truth, Number, Text, Own, Host, Error, truth_of, is_nullish}
use Rattle.ecma_runs.specs.State.{Id, Plain, Arrow, Ordinary}
use Rattle.ecma_runs.specs.Run.{Run, ◌>>=◌, give, outside, type_error, when, given, catching}
use Rattle.ecma_runs.specs.Environment.{Reference, ToFree, ToMember, ToSuper, ToImportMeta, ToMetaMember, ToValue, resolved, activation, this, new_environment, set_all, empty}
use Rattle.ecma_runs.specs.Enums.{Reading, Unknown, Constant, Expected, reading, member_reading, enum_of, is_hidden, is_data}
use Rattle.ecma_runs.specs.Meaning.{ExecutionContext, inside, Evaluation, Meaning}
use Rattle.ecma_runs.specs.Operators.{text_from, number_from, key_from, binary_value, operator_of, short_circuit, logical_operator_of, unary_value, updated}
use Rattle.ecma_runs.specs.Objects.{super_base, new_object, new_array, found_from}
use Rattle.ecma_runs.specs.Members.{has_member, instance_of, type_of}
use Rattle.ecma_runs.specs.Functions.{read, write, read_object, read_typed, delete, Callee, Called, CalledSuper, Borrowed, callee_by, call, construct, super_call, make_function, new_regular_expression}

-- names and members

-- a constant that is found as data of an own object; else it is open
abbrev pub expected : Value → Reference → Run Reference
expected v (ToMember (Own place) key) = found_from place key >>= λ p. when (is_data v p) (give (ToValue v)) outside
expected v r = outside

-- what is referred to where it is read, by what is known of it (TypeScript handbook, "Enums"); a look-up that throws finds no constant
abbrev pub known_reference : Reading → Evaluation Reference → Evaluation Reference
known_reference Unknown reference x = reference x
known_reference (Constant v) reference x = give (ToValue v)
known_reference (Expected v) reference x = catching (reference x) (λ thrown. outside) >>= λ r. expected v r

-- the name of an enum of which a member is not written is open
abbrev pub variable_named : Id → Evaluation Reference
variable_named id x = when (is_hidden x.known.enums id) outside (resolved x.scope x.known.declared id)

-- a name of a member is that member of the inner name
abbrev pub own_member : Id → List ℕ → Evaluation Reference
own_member of key x = resolved x.scope x.known.declared of >>= λ r. read_object x r >>= λ o. give (ToMember o key)

abbrev pub named : Option Id → Id → Evaluation Reference
named None id x = variable_named id x
named (Some of) id x = known_reference (member_reading x.known.enums of id.sym) (own_member of id.sym) x

abbrev pub written_name : Option Id → Id → Evaluation Reference
written_name None id x = variable_named id x
written_name (Some of) id x = own_member of id.sym x

abbrev pub identifier : List ℕ → ℕ → Evaluation Reference
identifier sym ctxt x = named (enum_of (record { sym = sym; ctxt = ctxt }) x.known.enums.names) (record { sym = sym; ctxt = ctxt }) x

abbrev pub written_identifier : List ℕ → ℕ → Evaluation Reference
written_identifier sym ctxt x = written_name (enum_of (record { sym = sym; ctxt = ctxt }) x.known.enums.names) (record { sym = sym; ctxt = ctxt }) x

-- `import.meta` has one known member: the script's text
abbrev pub meta_member : ExecutionContext → List ℕ → Run Reference
meta_member x key = when (bytes_eq key (codes "url")) (give (ToMetaMember (Text x.provided.meta_url))) outside

abbrev pub member_of : ExecutionContext → Reference → Run (List ℕ) → Run Reference
member_of x ToImportMeta key = key >>= λ k. meta_member x k
member_of x r key = read_object x r >>= λ o. key >>= λ k. give (ToMember o k)

-- 13.3.2 Property Accessors
abbrev pub member_reference : Meaning → Meaning → Evaluation Reference
member_reference object key x = object.reference x >>= λ r. member_of x r (key.key x)

-- a member that is read
abbrev pub read_member : Node → Meaning → Meaning → Evaluation Reference
read_member node object key x = known_reference (reading x.known.enums node) (member_reference object key) x

-- 13.3.7.3 MakeSuperPropertyReference: the base is taken here, behind the key; before super() has returned it is open
abbrev pub super_reference : Meaning → Evaluation Reference
super_reference key x =
    activation x.scope >>= λ a. given a.1.this >>= λ receiver. key.key x >>= λ k.
    given a.1.home >>= λ home. super_base home >>= λ base. give (ToSuper receiver base k)

-- what a chain gives that may have ended
abbrev pub chained : Option Reference → Reference
chained None = ToValue Undefined
chained (Some r) = r

-- calls

abbrev pub call_by : Bool → Meaning → Meaning → Evaluation Value
call_by true callee arguments x = arguments.arguments x >>= λ vs. super_call x vs
call_by false callee arguments x = callee.reference x >>= λ r. callee_by x r >>= λ c. arguments.arguments x >>= λ vs. call x c vs

-- operators

-- 13.10.1 `in`: what is no object throws
abbrev pub is_in : Value → Value → Run Value
is_in v (Own place) = given (key_from v) >>= λ k. has_member (Own place) k
is_in v (Host number) = outside
is_in v (Error error_kind) = outside
is_in v w = type_error

abbrev pub applied : BinaryOp → Value → Value → Run Value
applied binary.In v w = is_in v w
applied binary.InstanceOf v w = instance_of v w
applied op v w = given (binary_value op v w)

-- behind the left side: the right side may be left out
abbrev pub binary_rest : BinaryOp → Option Bool → Value → Meaning → Evaluation Value
binary_rest op (Some true) v right x = give v
binary_rest op (Some false) v right x = right.value x
binary_rest op None v right x = right.value x >>= λ w. applied op v w

-- behind the target's value
abbrev pub logical_rest : Option Bool → Reference → Value → Meaning → Evaluation Value
logical_rest (Some false) r v right x = right.value x >>= λ w. write x r w >>= λ _. give w
logical_rest o r v right x = give v

abbrev pub compound_rest : Option BinaryOp → Option BinaryOp → Reference → Value → Meaning → Evaluation Value
compound_rest (Some logical) arithmetic r v right x = logical_rest (short_circuit logical v) r v right x
compound_rest None (Some arithmetic) r v right x = right.value x >>= λ w. given (binary_value arithmetic v w) >>= λ u. write x r u >>= λ _. give u
compound_rest None None r v right x = outside

-- 13.15.2 Assignment Operators: Evaluation
abbrev pub assign : AssignOp → Meaning → Meaning → Evaluation Value
assign Assign target right x = target.assigned (right.value x) x
assign op target right x = target.written x >>= λ r. read x r >>= λ v. compound_rest (logical_operator_of op) (operator_of op) r v right x

-- 13.5 Unary Operators
abbrev pub unary : UnaryOp → Meaning → Evaluation Value
unary operator.TypeOf operand x = operand.reference x >>= λ r. read_typed x r >>= λ v. type_of v
unary operator.Delete operand x = operand.written x >>= λ r. delete r
unary op operand x = operand.value x >>= λ v. given (unary_value op v)

-- 13.4 Update Expressions
abbrev pub update : UpdateOp → Bool → Meaning → Evaluation Value
update op prefix operand x =
    operand.written x >>= λ r. read x r >>= λ v. given (number_from v) >>= λ old. given (updated op old) >>= λ new.
    write x r (Number new) >>= λ _. give (Number (cond prefix new old))

-- 13.16 Comma Operator
abbrev pub sequence : List Meaning → Evaluation Value
sequence [] x = outside
sequence (e ∷ []) x = e.value x
sequence (e ∷ es) x = e.value x >>= λ _. sequence es x

-- 13.2.8 Template Literals: texts with others between them
abbrev pub interleaved : List (List ℕ) → List (List ℕ) → List ℕ
interleaved [] texts = []
interleaved (part ∷ parts) [] = part ++ interleaved parts []
interleaved (part ∷ parts) (text ∷ texts) = part ++ (text ++ interleaved parts texts)

-- 15.2.5 InstantiateOrdinaryFunctionExpression, with its own name in a record of its own
abbrev pub function_value : List Id → Meaning → Evaluation Value
function_value names function x =
    new_environment (map (empty true) names) None >>= λ place.
    function.made Plain None (inside x place) >>= λ f. set_all names place.place (Own f) >>= λ _. give (Own f)

-- the value of an expression
abbrev pub value_of : Node → Kind → List Meaning → Evaluation Value
-- 13.1.3 Identifier Reference: Evaluation
value_of node (kind.Ident sym ctxt optional) [] x = identifier sym ctxt x >>= λ r. read x r
-- 13.2.3 Literals; a numeral whose value lies outside the number domain is open
value_of node (kind.Str text raw) [] x = give (Text text)
value_of node (kind.Number number raw) [] x = given number >>= λ n. give (Number n)
value_of node (kind.Bool truth) [] x = give (Truth truth)
value_of node kind.Null [] x = give Null
value_of node kind.ThisExpr [] x = this x.scope
-- 13.2.7 Regular Expression Literals: a new object each time
value_of node (kind.Regex pattern' flags) [] x = new_regular_expression >>= λ o. give (Own o)
-- 13.2.8 Template Literals; ill-formed escapes are open
value_of node kind.Tpl (expressions ∷ parts ∷ []) x = given parts.cooked >>= λ ps. expressions.texts x >>= λ ts. give (Text (interleaved ps ts))
-- 13.2.4 Array Initializer, 13.2.5 Object Initializer
value_of node kind.ArrayLit (elements ∷ []) x = elements.elements x >>= λ es. new_array es >>= λ o. give (Own o)
value_of node kind.ObjectLit (properties ∷ []) x =
    new_object (record { entries = []; prototype = None; callable = None; extent = Ordinary }) >>= λ o. properties.defined o o x >>= λ _. give (Own o)
value_of node kind.FnExpr (name ∷ function ∷ []) x = function_value name.names function x
value_of node kind.ClassExpr (name ∷ class ∷ []) x = class.class_made name.names x
-- 15.3.4, 15.9.4; a call of an async arrow is open
value_of node (kind.ArrowExpr is_async false) children x = make_function node Arrow None x >>= λ f. give (Own f)
value_of node (kind.UnaryExpr op) (operand ∷ []) x = unary op operand x
value_of node (kind.UpdateExpr op prefix) (operand ∷ []) x = update op prefix operand x
value_of node (kind.BinExpr op) (left ∷ right ∷ []) x = left.value x >>= λ v. binary_rest op (short_circuit op v) v right x
value_of node (kind.AssignExpr op) (target ∷ right ∷ []) x = assign op target right x
-- 13.14 Conditional Operator
value_of node kind.CondExpr (test ∷ yes' ∷ no' ∷ []) x = test.value x >>= λ v. when (truth_of v) (yes'.value x) (no'.value x)
value_of node kind.SeqExpr children x = sequence children x
-- 13.3.2 Property Accessors, 13.3.7 The super Keyword
value_of node kind.MemberExpr (object ∷ key ∷ []) x = read_member node object key x >>= λ r. read x r
value_of node kind.SuperPropExpr (super ∷ key ∷ []) x = super_reference key x >>= λ r. read x r
-- 13.3.6 Function Calls, 13.3.5 The new Operator; type arguments have no effect
value_of node kind.CallExpr (callee ∷ arguments ∷ types ∷ []) x = call_by callee.is_super callee arguments x
value_of node kind.NewExpr (callee ∷ arguments ∷ types ∷ []) x = callee.reference x >>= λ r. read_object x r >>= λ f. arguments.arguments x >>= λ vs. construct x f vs
-- a required module is the value of a call of the free `require` (TypeScript handbook, "Modules - Reference")
value_of node kind.TsExternalModuleRef (source ∷ []) x = callee_by x (ToFree (codes "require")) >>= λ c. source.arguments x >>= λ vs. call x c vs
-- 13.3.12 Meta Properties
value_of node (kind.MetaPropExpr NewTarget) [] x = activation x.scope >>= λ a. given a.1.new_target
-- 13.3.9 Optional Chains
value_of node (kind.OptChainExpr optional) (base ∷ []) x = base.link optional x >>= λ o. read x (chained o)
value_of node _ children x = outside

-- what an expression refers to, or its value
abbrev pub reference_of : Node → Kind → List Meaning → Evaluation Reference
reference_of node (kind.Ident sym ctxt optional) [] x = identifier sym ctxt x
reference_of node kind.BindingIdent (id ∷ annotation ∷ []) x = id.reference x
reference_of node kind.MemberExpr (object ∷ key ∷ []) x = read_member node object key x
reference_of node kind.SuperPropExpr (super ∷ key ∷ []) x = super_reference key x
reference_of node (kind.MetaPropExpr ImportMeta) [] x = give ToImportMeta
reference_of node (kind.OptChainExpr optional) (base ∷ []) x = base.link optional x >>= λ o. give (chained o)
reference_of node k children x = value_of node k children x >>= λ v. give (ToValue v)

-- what it refers to where it is written: a name and a member are themselves there, whatever is known of them
abbrev pub written_of : Node → Kind → List Meaning → Evaluation Reference
written_of node (kind.Ident sym ctxt optional) [] x = written_identifier sym ctxt x
written_of node kind.BindingIdent (id ∷ annotation ∷ []) x = id.written x
written_of node kind.MemberExpr (object ∷ key ∷ []) x = member_reference object key x
written_of node k children x = reference_of node k children x

-- optional chains

-- behind a chain that may have ended
abbrev pub continued : {A : Type 0} → Option A → (A → Run (Option Reference)) → Run (Option Reference)
continued None next = give None
continued (Some a) next = next a

abbrev pub callee_is_nullish : Callee → Bool
callee_is_nullish (Called f receiver) = is_nullish f
callee_is_nullish (CalledSuper f receiver) = is_nullish f
callee_is_nullish (Borrowed borrowing place) = false

abbrev pub member_link : Bool → Value → Meaning → Evaluation (Option Reference)
member_link optional v key x = when (optional && is_nullish v) (give None) (key.key x >>= λ k. give (Some (ToMember v k)))

abbrev pub call_link : Bool → Callee → Meaning → Evaluation (Option Reference)
call_link optional c arguments x = when (optional && callee_is_nullish c) (give None) (arguments.arguments x >>= λ vs. call x c vs >>= λ v. give (Some (ToValue v)))

-- undefined or null before `?.` ends the whole chain, and so does a chain before that has ended (13.3.9.2 ChainEvaluation)
abbrev pub link_of : Kind → List Meaning → Bool → Evaluation (Option Reference)
link_of kind.MemberExpr (object ∷ key ∷ []) optional x = object.chain x >>= λ o. continued o (λ r. read_object x r >>= λ v. member_link optional v key x)
link_of kind.OptCall (callee ∷ arguments ∷ types ∷ []) optional x = callee.chain x >>= λ o. continued o (λ r. callee_by x r >>= λ c. call_link optional c arguments x)
link_of _ children optional x = outside

abbrev pub chain_of : Node → Kind → List Meaning → Evaluation (Option Reference)
chain_of node (kind.OptChainExpr optional) (base ∷ []) x = base.link optional x
chain_of node k children x = reference_of node k children x >>= λ r. give (Some r)

-- parts of expressions

-- an initializer: where it is missing, undefined
abbrev pub initial_of : Node → Kind → List Meaning → Evaluation Value
initial_of node kind.Absent children x = give Undefined
initial_of node k children x = value_of node k children x

abbrev pub all_arguments : List Meaning → Evaluation (List Value)
all_arguments [] x = give []
all_arguments (m ∷ ms) x = m.arguments x >>= λ vs. all_arguments ms x >>= λ ws. give (vs ++ ws)

-- arguments (13.3.8.1 ArgumentListEvaluation): an expression is one; a type alias is none, wherever it stands
abbrev pub arguments_of : Node → Kind → List Meaning → Evaluation (List Value)
arguments_of node kind.Absent children x = give []
arguments_of node kind.List items x = all_arguments items x
arguments_of node (kind.TsTypeAliasDecl declare) children x = give []
arguments_of node k children x = value_of node k children x >>= λ v. give (v ∷ [])

abbrev pub all_elements : List Meaning → Evaluation (List (Option Value))
all_elements [] x = give []
all_elements (m ∷ ms) x = m.elements x >>= λ vs. all_elements ms x >>= λ ws. give (vs ++ ws)

-- elements of an array (13.2.4.1 ArrayAccumulation)
abbrev pub elements_of : Node → Kind → List Meaning → Evaluation (List (Option Value))
elements_of node kind.Absent children x = give (None ∷ [])
elements_of node kind.List items x = all_elements items x
elements_of node (kind.TsTypeAliasDecl declare) children x = give []
elements_of node k children x = value_of node k children x >>= λ v. give (Some v ∷ [])

abbrev pub all_texts : List Meaning → Evaluation (List (List ℕ))
all_texts [] x = give []
all_texts (m ∷ ms) x = m.texts x >>= λ vs. all_texts ms x >>= λ ws. give (vs ++ ws)

-- the expressions of a template, as texts (13.2.8.6)
abbrev pub texts_of : Node → Kind → List Meaning → Evaluation (List (List ℕ))
texts_of node kind.List items x = all_texts items x
texts_of node (kind.TsTypeAliasDecl declare) children x = give []
texts_of node k children x = value_of node k children x >>= λ v. given (text_from v) >>= λ t. give (t ∷ [])

-- the key of a member (13.3.4 EvaluatePropertyAccessWithIdentifierKey, 13.2.5.5 PropertyName)
abbrev pub key_of : Kind → List Meaning → Evaluation (List ℕ)
key_of (kind.IdentName sym) [] x = give sym
key_of (kind.Str text raw) [] x = give text
key_of (kind.Number number raw) [] x = given number >>= λ n. give (text_of n)
key_of kind.ComputedPropName (e ∷ []) x = e.value x >>= λ v. given (key_from v)
key_of _ children x = outside

abbrev pub test_of : Node → Kind → List Meaning → Evaluation Value
test_of node kind.Absent children x = give (Truth true)
test_of node k children x = value_of node k children x
