-- What properties of objects, classes and their members do, and the code of functions (ECMAScript, 13.2.5, 15.2 to 15.7).
use Rattle.std.specs.Prelude.{ℕ, List, [], ◌∷◌, ◌++◌, map, Option, Some, None, Bool, true, false, not, cond, ◌||◌, ◌&&◌, bytes_eq, codes}
use Rattle.ecma_kind.specs.declared.kind.Kind.{Kind}
use Rattle.ecma_kind.specs.declared.kind.Kind.TheVariants as kind
use Rattle.ecma_kind.specs.declared.operators.MethodKind.{MethodKind}
use Rattle.ecma_kind.specs.declared.operators.MethodKind.TheVariants as method
use Rattle.ecma_tree.specs.declared.node.Node.{Node}
use Rattle.ecma_runs.specs.Values.{Value, Undefined, Null, Own, Host, Error}
use Rattle.ecma_runs.specs.State.{Entered, Id, Forbidden, Activation, Callable, Code, Passed, Object, Sort, Plain, Method, BaseClass, DerivedClass}
use Rattle.ecma_runs.specs.Run.{Done, Run, ◌>>=◌, give, return, outside, type_error, when, changed_at}
use Rattle.ecma_runs.specs.Environment.{new_environment, set_all, empty, except, have_one_of}
use Rattle.ecma_runs.specs.Meaning.{inside, Evaluation, Meaning}
use Rattle.ecma_runs.specs.Objects.{Calling, Function, BoundFunction, calling_at, define, define_data, with_getter, with_setter}
use Rattle.ecma_runs.specs.Members.{prototype_property}
use Rattle.ecma_runs.specs.Functions.{read, super_call, first_or_undefined, new_prototype, new_function, prototype_entries, make_function, make_generator}
use Rattle.ecma_runs.specs.Expressions.{identifier, value_of}

-- functions

-- a function whose object is made. Async functions can not be constructed (15.8.2, 15.8.3, 15.4.5 MethodDefinitionEvaluation), nor generators; a call of either is open, since it has no code here
abbrev pub made_of : Node → Kind → List Meaning → Sort → Option ℕ → Evaluation ℕ
made_of node (kind.Function false false) children sort home x = make_function node sort home x
made_of node (kind.Function false true) children sort home x = make_function node Method home x
made_of node (kind.Function true is_async) children sort home x = make_generator node home x
made_of node _ children sort home x = outside

-- a function that is exported as the default: its name is one of the module, so that no record is made for it (16.2.3.7 Exports: Evaluation)
abbrev pub default_made_of : Kind → List Meaning → Evaluation ℕ
default_made_of kind.FnExpr (name ∷ function ∷ []) x = function.made Plain None x
default_made_of _ children x = outside

-- 10.2.1.3 EvaluateBody, in a record of the body's own, in which a `var` or function with a parameter's name is the parameter; the body of an arrow may be an expression
abbrev pub body_of : Node → Kind → List Meaning → List Id → Evaluation (Unit {0})
body_of node kind.BlockStmt (statements ∷ []) names x =
    new_environment (except names (statements.vars ++ statements.lexicals)) None >>= λ place.
    statements.hoisted (inside x place) >>= λ _. statements.completion (inside x place)
body_of node k children names x = value_of node k children x >>= λ v. return v

-- 10.2.11 FunctionDeclarationInstantiation: where parameters are not all plain names, one whose name a `var` or function of the body has is open
abbrev pub run_body : Meaning → Meaning → Evaluation (Unit {0})
run_body parameters body x = when (parameters.is_plain || not (have_one_of parameters.names body.locals)) (body.body parameters.names x) outside

abbrev pub run_code : Meaning → Meaning → List Value → Evaluation (Unit {0})
run_code parameters body arguments x = parameters.parameters arguments x >>= λ _. run_body parameters body x

abbrev pub all_code : List Meaning → List Value → Evaluation (Unit {0})
all_code [] arguments x = outside
all_code (m ∷ ms) arguments x = when m.is_constructor (m.code arguments x) (all_code ms arguments x)

-- a class without a constructor passes its arguments on (15.7.14, step 14)
abbrev pub class_code : Meaning → Meaning → List Value → Evaluation (Unit {0})
class_code super body arguments x =
    when body.is_constructor (body.code arguments x) (when super.is_absent (give tt) (super_call x arguments >>= λ _. give tt))

-- the code of a function, in its record
abbrev pub code_of : Kind → List Meaning → List Value → Evaluation (Unit {0})
code_of (kind.Function false false) (parameters ∷ body ∷ types ∷ return_type ∷ []) arguments x = run_code parameters body arguments x
code_of (kind.ArrowExpr false false) (parameters ∷ body ∷ types ∷ return_type ∷ []) arguments x = run_code parameters body arguments x
code_of kind.GetterProp (key ∷ type ∷ body ∷ []) arguments x = body.body [] x
code_of kind.SetterProp (key ∷ this_parameter ∷ parameter ∷ body ∷ []) arguments x = parameter.bound (first_or_undefined arguments) x >>= λ _. run_body parameter body x
code_of (kind.Constructor accessibility is_optional) (key ∷ parameters ∷ body ∷ []) arguments x = run_code parameters body arguments x
code_of (kind.Class is_abstract) (super ∷ body ∷ types ∷ super_types ∷ implements ∷ []) arguments x = class_code super body arguments x
code_of kind.List items arguments x = all_code items arguments x
code_of _ children arguments x = outside

-- classes

-- the parent of a class: a constructor, or a function that is bound to one; null, a host value or an error is open
abbrev pub checked_target : ℕ → Option Calling → Run ℕ
checked_target place (Some (Function Plain)) = give place
checked_target place (Some (Function BaseClass)) = give place
checked_target place (Some (Function DerivedClass)) = give place
checked_target place o = type_error

abbrev pub checked_calling : ℕ → Option Calling → Run ℕ
checked_calling place (Some (Function Plain)) = give place
checked_calling place (Some (Function BaseClass)) = give place
checked_calling place (Some (Function DerivedClass)) = give place
checked_calling place (Some (BoundFunction target this given)) = calling_at target >>= λ o. checked_target place o
checked_calling place o = type_error

abbrev pub parent_class : Value → Run ℕ
parent_class (Own place) = calling_at place >>= λ o. checked_calling place o
parent_class Null = outside
parent_class (Host number) = outside
parent_class (Error error_kind) = outside
parent_class v = type_error

-- the parent of its prototype
abbrev pub parent_prototype : Value → Run ℕ
parent_prototype (Own place) = give place
parent_prototype Null = outside
parent_prototype (Host number) = outside
parent_prototype (Error error_kind) = outside
parent_prototype v = type_error

abbrev pub heritage : Meaning → Evaluation (Option ℕ × Option ℕ)
heritage super x =
    when super.is_absent (give (None, None))
    (super.value x >>= λ v. parent_class v >>= λ parent. prototype_property parent >>= λ w. parent_prototype w >>= λ prototype. give (Some parent, Some prototype))

-- `this` and home where fields of an object are defined
abbrev pub field_activation : Value → Option ℕ → Activation
field_activation object home = record { this = Some object; function = None; home = home; new_target = Some Undefined; arguments = Forbidden }

-- a class keeps the keys of its fields

abbrev pub with_field_keys : List (List ℕ) → Option Callable → Option Callable
with_field_keys keys (Some (Code closure)) = Some (Code (record closure { field_keys = keys }))
with_field_keys keys (Some (Passed closure)) = Some (Passed (record closure { field_keys = keys }))
with_field_keys keys o = o

abbrev pub keeping_keys : List (List ℕ) → Object → Object
keeping_keys keys object = record object { callable = with_field_keys keys object.callable }

abbrev pub keep_field_keys : ℕ → List (List ℕ) → Run (Unit {0})
keep_field_keys place keys s = Done tt (record s { objects = changed_at (keeping_keys keys) place s.objects })

-- 15.7.14 ClassDefinitionEvaluation: heritage, methods and keys, inner name, static fields. The heritage is checked before a key is evaluated (step 8);
-- node evaluates the keys first, so there is no fact of a heritage that throws beside keys that have events.
abbrev pub class_in : Node → Meaning → Meaning → List Id → Entered → Evaluation Value
class_in node super body names scope x =
    heritage super (inside x scope) >>= λ parents.
    new_prototype parents.1 >>= λ prototype.
    new_function (prototype_entries false prototype) parents.0 node (cond super.is_absent BaseClass DerivedClass) (Some prototype) (inside x scope) >>= λ class.
    body.defined class prototype (inside x scope) >>= λ keys. keep_field_keys class keys >>= λ _.
    set_all names scope.place (Own class) >>= λ _.
    new_environment [] (Some (field_activation (Own class) (Some class))) >>= λ place.
    body.statics keys (Own class) (inside (inside x scope) place) >>= λ _. give (Own class)

abbrev pub class_value : Node → Meaning → Meaning → List Id → Evaluation Value
class_value node super body names x = new_environment (map (empty true) names) None >>= λ scope. class_in node super body names scope x

abbrev pub class_made_of : Node → Kind → List Meaning → List Id → Evaluation Value
class_made_of node (kind.Class is_abstract) (super ∷ body ∷ types ∷ super_types ∷ implements ∷ []) names x = class_value node super body names x
class_made_of node _ children names x = outside

-- properties and methods

-- a method, a getter or a setter is defined (15.4.5 MethodDefinitionEvaluation)
abbrev pub define_method : MethodKind → ℕ → List ℕ → ℕ → Run (Unit {0})
define_method method.Method object key f = define_data object key (Own f)
define_method method.Getter object key f = define object key (with_getter f)
define_method method.Setter object key f = define object key (with_setter f)

-- whether a key with a value sets the prototype, in the place of making a property: `__proto__` in no brackets
-- (B.3.1 __proto__ Property Names in Object Initializers)
abbrev pub sets_prototype : Bool → List ℕ → Bool
sets_prototype is_computed key = not is_computed && bytes_eq key (codes "__proto__")

-- the key of `key: value`; where it sets the prototype, that is open
abbrev pub literal_key : Bool → List ℕ → Run (List ℕ)
literal_key is_computed key = when (sets_prototype is_computed key) outside (give key)

abbrev pub all_defined : List Meaning → ℕ → ℕ → Evaluation (List (List ℕ))
all_defined [] class object x = give []
all_defined (m ∷ ms) class object x = m.defined class object x >>= λ ks. all_defined ms class object x >>= λ ls. give (ks ++ ls)

-- properties of an object (13.2.5.5 PropertyDefinitionEvaluation) and methods of a class (15.7.13 ClassElementEvaluation);
-- of a field the key alone
abbrev pub defined_of : Node → Kind → List Meaning → ℕ → ℕ → Evaluation (List (List ℕ))
defined_of node kind.List items class object x = all_defined items class object x
-- a shorthand
defined_of node (kind.Ident sym ctxt optional) [] class object x =
    identifier sym ctxt x >>= λ r. read x r >>= λ v. define_data object sym v >>= λ _. give []
defined_of node kind.KeyValueProp (key ∷ value ∷ []) class object x =
    key.key x >>= λ k. literal_key key.is_computed k >>= λ k. value.value x >>= λ v. define_data object k v >>= λ _. give []
defined_of node kind.MethodProp (key ∷ function ∷ []) class object x =
    key.key x >>= λ k. function.made Method (Some object) x >>= λ f. define_method method.Method object k f >>= λ _. give []
defined_of node kind.GetterProp (key ∷ type ∷ body ∷ []) class object x =
    key.key x >>= λ k. make_function node Method (Some object) x >>= λ f. define_method method.Getter object k f >>= λ _. give []
defined_of node kind.SetterProp (key ∷ this_parameter ∷ parameter ∷ body ∷ []) class object x =
    key.key x >>= λ k. make_function node Method (Some object) x >>= λ f. define_method method.Setter object k f >>= λ _. give []
defined_of node (kind.ClassMethod sort modifiers) (key ∷ function ∷ []) class object x =
    key.key x >>= λ k. function.made Method (Some (cond modifiers.is_static class object)) x >>= λ f.
    define_method sort (cond modifiers.is_static class object) k f >>= λ _. give []
defined_of node (kind.ClassProp modifiers readonly declare definite) (key ∷ value ∷ type ∷ []) class object x =
    key.key x >>= λ k. give (k ∷ [])
defined_of node (kind.Constructor accessibility is_optional) children class object x = give []
defined_of node (kind.TsTypeAliasDecl declare) children class object x = give []
defined_of node _ children class object x = outside

-- fields

-- a field on a host value is open
abbrev pub define_field : Value → List ℕ → Value → Run (Unit {0})
define_field (Own place) key v = define_data place key v
define_field object key v = outside

-- a field takes the first key that is left, and is defined if it is one of these (7.3, DefineField)
abbrev pub field_with : Bool → Meaning → List (List ℕ) → Value → Evaluation (List (List ℕ))
field_with is_here value [] object x = outside
field_with is_here value (key ∷ keys) object x = when is_here (value.initial x >>= λ v. define_field object key v) (give tt) >>= λ _. give keys

abbrev pub all_fields : List Meaning → List (List ℕ) → Value → Evaluation (List (List ℕ))
all_fields [] keys object x = give keys
all_fields (m ∷ ms) keys object x = m.fields keys object x >>= λ left. all_fields ms left object x

-- the fields of an object; a class is that of its members
abbrev pub fields_of : Kind → List Meaning → List (List ℕ) → Value → Evaluation (List (List ℕ))
fields_of (kind.Class is_abstract) (super ∷ body ∷ types ∷ super_types ∷ implements ∷ []) keys object x = body.fields keys object x
fields_of kind.List items keys object x = all_fields items keys object x
fields_of (kind.ClassProp modifiers readonly declare definite) (key ∷ value ∷ type ∷ []) keys object x =
    field_with (not modifiers.is_static) value keys object x
fields_of (kind.Constructor accessibility is_optional) children keys object x = give keys
fields_of (kind.ClassMethod sort modifiers) children keys object x = give keys
fields_of (kind.TsTypeAliasDecl declare) children keys object x = give keys
fields_of _ children keys object x = outside

abbrev pub all_statics : List Meaning → List (List ℕ) → Value → Evaluation (List (List ℕ))
all_statics [] keys class x = give keys
all_statics (m ∷ ms) keys class x = m.statics keys class x >>= λ left. all_statics ms left class x

-- the static fields of a class
abbrev pub statics_of : Kind → List Meaning → List (List ℕ) → Value → Evaluation (List (List ℕ))
statics_of kind.List items keys class x = all_statics items keys class x
statics_of (kind.ClassProp modifiers readonly declare definite) (key ∷ value ∷ type ∷ []) keys class x =
    field_with modifiers.is_static value keys class x
statics_of (kind.Constructor accessibility is_optional) children keys class x = give keys
statics_of (kind.ClassMethod sort modifiers) children keys class x = give keys
statics_of (kind.TsTypeAliasDecl declare) children keys class x = give keys
statics_of _ children keys class x = outside
