-- Properties of objects, classes and their members, and the code of functions do the same.
use Rattle.std.proofs.Common.{◌≡◌, refl, ℕ, List, [], ◌∷◌, ◌++◌, map, Option, Some, None, Bool, true, false, not, cond, ◌||◌}
use Rattle.ecma_kind.specs.declared.kind.Kind.{Kind}
use Rattle.ecma_kind.specs.declared.kind.Kind.TheVariants as kind
use Rattle.ecma_kind.specs.declared.operators.MethodKind.{MethodKind}
use Rattle.ecma_kind.specs.declared.operators.MethodKind.TheVariants as method
use Rattle.ecma_tree.specs.declared.node.Node.{Node}
use Rattle.ecma_runs.specs.Values.{Value, Own}
use Rattle.ecma_runs.specs.State.{Id, Entered, Sort, Plain, Method, BaseClass, DerivedClass}
use Rattle.ecma_runs.specs.Run.{◌>>=◌, give, return, outside, when}
use Rattle.ecma_runs.specs.Environment.{except, have_one_of, new_environment, set_all, empty}
use Rattle.ecma_runs.specs.Meaning.{ExecutionContext, inside}
use Rattle.ecma_runs.specs.Objects.{define_data}
use Rattle.ecma_runs.specs.Members.{prototype_property}
use Rattle.ecma_runs.specs.Functions.{first_or_undefined, make_function, new_prototype, new_function, prototype_entries}
use Rattle.ecma_runs.specs.Classes.{made_of, default_made_of, body_of, run_body, run_code, all_code, class_code, code_of, parent_class, parent_prototype, heritage, field_activation, keep_field_keys, class_in, class_value, class_made_of, define_method, literal_key, all_defined, defined_of, define_field, field_with, all_fields, fields_of, all_statics, statics_of}
use Rattle.ecma_run_enums.proofs.Two.{Two, first, second, Part, meanings}
use Rattle.ecma_run_enums.proofs.Functions.{read_same, super_call_same, make_function_same}
use Rattle.ecma_run_enums.proofs.Expressions.{Unasked, value_same, identifier_same}

module _ (t : Two) (x : ExecutionContext) where
  -- ---- functions

  pub made_same : (node : Node) (k : Kind) (ps : List (Part t)) (sort : Sort) (home : Option ℕ) → made_of node k (meanings t ps) sort home (first t x) ≡ made_of node k (meanings t ps) sort home (second t x)
  made_same node (kind.Function false false) ps sort home = make_function_same t x node sort home
  made_same node (kind.Function false true) ps sort home = refl
  made_same node (kind.Function true is_async) ps sort home = refl
  made_same node _ ps sort home = refl

  pub default_made_same : (k : Kind) (ps : List (Part t)) → default_made_of k (meanings t ps) (first t x) ≡ default_made_of k (meanings t ps) (second t x)
  default_made_same kind.FnExpr (name ∷ function ∷ []) = function.1.made Plain None x
  default_made_same _ ps = refl

  pub body_same : (node : Node) (k : Kind) (ps : List (Part t)) (names : List Id) → Unasked t node k → body_of node k (meanings t ps) names (first t x) ≡ body_of node k (meanings t ps) names (second t x)
  body_same node kind.BlockStmt (statements ∷ []) names h =
      λ i. new_environment (except names (statements.0.vars ++ statements.0.lexicals)) None >>= λ place.
      statements.1.hoisted (inside x place) i >>= λ _. statements.1.completion (inside x place) i
  body_same node k ps names h = λ i. value_same t x node k ps h i >>= λ v. return v

  run_body_same : (parameters body : Part t) → run_body parameters.0 body.0 (first t x) ≡ run_body parameters.0 body.0 (second t x)
  run_body_same parameters body = λ i. when (parameters.0.is_plain || not (have_one_of parameters.0.names body.0.locals)) (body.1.body parameters.0.names x i) outside

  run_code_same : (parameters body : Part t) (vs : List Value) → run_code parameters.0 body.0 vs (first t x) ≡ run_code parameters.0 body.0 vs (second t x)
  run_code_same parameters body vs = λ i. parameters.1.parameters vs x i >>= λ _. run_body_same parameters body i

  all_code_same : (ps : List (Part t)) (vs : List Value) → all_code (meanings t ps) vs (first t x) ≡ all_code (meanings t ps) vs (second t x)
  all_code_same [] vs = refl
  all_code_same (p ∷ ps) vs = λ i. when p.0.is_constructor (p.1.code vs x i) (all_code_same ps vs i)

  class_code_same : (super body : Part t) (vs : List Value) → class_code super.0 body.0 vs (first t x) ≡ class_code super.0 body.0 vs (second t x)
  class_code_same super body vs = λ i. when body.0.is_constructor (body.1.code vs x i) (when super.0.is_absent (give tt) (super_call_same t x vs i >>= λ _. give tt))

  pub code_same : (k : Kind) (ps : List (Part t)) (vs : List Value) → code_of k (meanings t ps) vs (first t x) ≡ code_of k (meanings t ps) vs (second t x)
  code_same (kind.Function false false) (parameters ∷ body ∷ types ∷ return_type ∷ []) vs = run_code_same parameters body vs
  code_same (kind.ArrowExpr false false) (parameters ∷ body ∷ types ∷ return_type ∷ []) vs = run_code_same parameters body vs
  code_same kind.GetterProp (key ∷ type ∷ body ∷ []) vs = body.1.body [] x
  code_same kind.SetterProp (key ∷ this_parameter ∷ parameter ∷ body ∷ []) vs = λ i. parameter.1.bound (first_or_undefined vs) x i >>= λ _. run_body_same parameter body i
  code_same (kind.Constructor accessibility is_optional) (key ∷ parameters ∷ body ∷ []) vs = run_code_same parameters body vs
  code_same (kind.Class is_abstract) (super ∷ body ∷ types ∷ super_types ∷ implements ∷ []) vs = class_code_same super body vs
  code_same kind.List ps vs = all_code_same ps vs
  code_same _ ps vs = refl

  -- ---- classes

  heritage_same : (super : Part t) → heritage super.0 (first t x) ≡ heritage super.0 (second t x)
  heritage_same super =
      λ i. when super.0.is_absent (give (None, None))
      (super.1.value x i >>= λ v. parent_class v >>= λ parent. prototype_property parent >>= λ w. parent_prototype w >>= λ prototype. give (Some parent, Some prototype))

module _ (t : Two) (x : ExecutionContext) (node : Node) where
  class_in_same : (super body : Part t) (names : List Id) (scope : Entered) → class_in node super.0 body.0 names scope (first t x) ≡ class_in node super.0 body.0 names scope (second t x)
  class_in_same super body names scope =
      λ i. heritage_same t (inside x scope) super i >>= λ parents.
      new_prototype parents.1 >>= λ prototype.
      new_function (prototype_entries false prototype) parents.0 node (cond super.0.is_absent BaseClass DerivedClass) (Some prototype) (inside x scope) >>= λ class.
      body.1.defined class prototype (inside x scope) i >>= λ keys. keep_field_keys class keys >>= λ _.
      set_all names scope.place (Own class) >>= λ _.
      new_environment [] (Some (field_activation (Own class) (Some class))) >>= λ place.
      body.1.statics keys (Own class) (inside (inside x scope) place) i >>= λ _. give (Own class)

  class_value_same : (super body : Part t) (names : List Id) → class_value node super.0 body.0 names (first t x) ≡ class_value node super.0 body.0 names (second t x)
  class_value_same super body names = λ i. new_environment (map (empty true) names) None >>= λ scope. class_in_same super body names scope i

  pub class_made_same : (k : Kind) (ps : List (Part t)) (names : List Id) → class_made_of node k (meanings t ps) names (first t x) ≡ class_made_of node k (meanings t ps) names (second t x)
  class_made_same (kind.Class is_abstract) (super ∷ body ∷ types ∷ super_types ∷ implements ∷ []) names = class_value_same super body names
  class_made_same _ ps names = refl

  -- ---- properties and methods

  all_defined_same : (ps : List (Part t)) (class object : ℕ) → all_defined (meanings t ps) class object (first t x) ≡ all_defined (meanings t ps) class object (second t x)
  all_defined_same [] class object = refl
  all_defined_same (p ∷ ps) class object = λ i. p.1.defined class object x i >>= λ ks. all_defined_same ps class object i >>= λ ls. give (ks ++ ls)

  -- a key, a function and its definition

  accessor_same : (sort : MethodKind) (key : Part t) (object : ℕ)
      → (key.0.key (first t x) >>= λ k. make_function node Method (Some object) (first t x) >>= λ f. define_method sort object k f >>= λ _. give {A = List (List ℕ)} [])
      ≡ (key.0.key (second t x) >>= λ k. make_function node Method (Some object) (second t x) >>= λ f. define_method sort object k f >>= λ _. give [])
  accessor_same sort key object = λ i. key.1.key x i >>= λ k. make_function_same t x node Method (Some object) i >>= λ f. define_method sort object k f >>= λ _. give []

  method_same : (sort : MethodKind) (key function : Part t) (object : ℕ)
      → (key.0.key (first t x) >>= λ k. function.0.made Method (Some object) (first t x) >>= λ f. define_method sort object k f >>= λ _. give {A = List (List ℕ)} [])
      ≡ (key.0.key (second t x) >>= λ k. function.0.made Method (Some object) (second t x) >>= λ f. define_method sort object k f >>= λ _. give [])
  method_same sort key function object = λ i. key.1.key x i >>= λ k. function.1.made Method (Some object) x i >>= λ f. define_method sort object k f >>= λ _. give []

  pub defined_same : (k : Kind) (ps : List (Part t)) (class object : ℕ) → Unasked t node k → defined_of node k (meanings t ps) class object (first t x) ≡ defined_of node k (meanings t ps) class object (second t x)
  defined_same kind.List ps class object h = all_defined_same ps class object
  defined_same (kind.Ident sym' ctxt optional) [] class object h =
      λ i. identifier_same t x sym' ctxt h i >>= λ r. read_same t x r i >>= λ v. define_data object sym' v >>= λ _. give []
  defined_same kind.KeyValueProp (key ∷ value ∷ []) class object h =
      λ i. key.1.key x i >>= λ k. literal_key key.0.is_computed k >>= λ k. value.1.value x i >>= λ v. define_data object k v >>= λ _. give []
  defined_same kind.MethodProp (key ∷ function ∷ []) class object h = method_same method.Method key function object
  defined_same kind.GetterProp (key ∷ type ∷ body ∷ []) class object h = accessor_same method.Getter key object
  defined_same kind.SetterProp (key ∷ this_parameter ∷ parameter ∷ body ∷ []) class object h = accessor_same method.Setter key object
  defined_same (kind.ClassMethod sort modifiers) (key ∷ function ∷ []) class object h = method_same sort key function (cond modifiers.is_static class object)
  defined_same (kind.ClassProp modifiers readonly declare definite) (key ∷ value ∷ type ∷ []) class object h = λ i. key.1.key x i >>= λ k. give (k ∷ [])
  defined_same _ ps class object h = refl

module _ (t : Two) (x : ExecutionContext) where
  -- ---- fields

  field_with_same : (b : Bool) (value : Part t) (keys : List (List ℕ)) (object : Value) → field_with b value.0 keys object (first t x) ≡ field_with b value.0 keys object (second t x)
  field_with_same b value [] object = refl
  field_with_same b value (key ∷ keys) object = λ i. when b (value.1.initial x i >>= λ v. define_field object key v) (give tt) >>= λ _. give keys

  all_fields_same : (ps : List (Part t)) (keys : List (List ℕ)) (object : Value) → all_fields (meanings t ps) keys object (first t x) ≡ all_fields (meanings t ps) keys object (second t x)
  all_fields_same [] keys object = refl
  all_fields_same (p ∷ ps) keys object = λ i. p.1.fields keys object x i >>= λ left. all_fields_same ps left object i

  pub fields_same : (k : Kind) (ps : List (Part t)) (keys : List (List ℕ)) (object : Value) → fields_of k (meanings t ps) keys object (first t x) ≡ fields_of k (meanings t ps) keys object (second t x)
  fields_same (kind.Class is_abstract) (super ∷ body ∷ types ∷ super_types ∷ implements ∷ []) keys object = body.1.fields keys object x
  fields_same kind.List ps keys object = all_fields_same ps keys object
  fields_same (kind.ClassProp modifiers readonly declare definite) (key ∷ value ∷ type ∷ []) keys object = field_with_same (not modifiers.is_static) value keys object
  fields_same _ ps keys object = refl

  all_statics_same : (ps : List (Part t)) (keys : List (List ℕ)) (class : Value) → all_statics (meanings t ps) keys class (first t x) ≡ all_statics (meanings t ps) keys class (second t x)
  all_statics_same [] keys class = refl
  all_statics_same (p ∷ ps) keys class = λ i. p.1.statics keys class x i >>= λ left. all_statics_same ps left class i

  pub statics_same : (k : Kind) (ps : List (Part t)) (keys : List (List ℕ)) (class : Value) → statics_of k (meanings t ps) keys class (first t x) ≡ statics_of k (meanings t ps) keys class (second t x)
  statics_same kind.List ps keys class = all_statics_same ps keys class
  statics_same (kind.ClassProp modifiers readonly declare definite) (key ∷ value ∷ type ∷ []) keys class = field_with_same modifiers.is_static value keys class
  statics_same _ ps keys class = refl
