-- Properties of objects, classes and their members, and the code of functions keep it so.
use Rattle.std.proofs.Common.{ℕ, List, [], ◌∷◌, ◌++◌, map, Option, Some, None, Bool, true, false, not, cond, ◌||◌}
use Rattle.ecma_kind.specs.declared.kind.Kind.{Kind}
use Rattle.ecma_kind.specs.declared.kind.Kind.TheVariants as kind
use Rattle.ecma_kind.specs.declared.operators.MethodKind.{MethodKind}
use Rattle.ecma_kind.specs.declared.operators.MethodKind.TheVariants as method
use Rattle.ecma_tree.specs.declared.node.Node.{Node}
use Rattle.ecma_runs.specs.declared.shown.ErrorKind.TheVariants as error
use Rattle.ecma_runs.specs.Values.{Value, Null, Own, Host, Error}
use Rattle.ecma_runs.specs.State.{Id, Entered, Sort, Plain, Method, Arrow, BaseClass, DerivedClass}
use Rattle.ecma_runs.specs.Run.{◌>>=◌, give}
use Rattle.ecma_runs.specs.Environment.{except, have_one_of, empty}
use Rattle.ecma_runs.specs.Meaning.{ExecutionContext, inside}
use Rattle.ecma_runs.specs.Objects.{Calling, Function, BoundFunction, with_getter, with_setter}
use Rattle.ecma_runs.specs.State.{Data}
use Rattle.ecma_runs.specs.Functions.{first_or_undefined, make_function, prototype_entries}
use Rattle.ecma_runs.specs.Classes.{made_of, default_made_of, body_of, run_body, run_code, all_code, class_code, code_of, checked_target, checked_calling, parent_class, parent_prototype, heritage, field_activation, keep_field_keys, class_in, class_value, class_made_of, define_method, sets_prototype, literal_key, all_defined, defined_of, define_field, field_with, all_fields, fields_of, all_statics, statics_of}
use Rattle.ecma_run_constructions.proofs.Keeping.{Keeps, bind, give_keeps, throw_keeps, return_keeps, outside_keeps, when_keeps}
use Rattle.ecma_run_constructions.proofs.States.{new_environment_keeps, set_all_keeps, calling_at_keeps, define_keeps, prototype_property_keeps}
use Rattle.ecma_run_constructions.proofs.Functions.{Sound, read_keeps, super_call_keeps, new_prototype_keeps, new_function_keeps, make_function_keeps, make_generator_keeps}
use Rattle.ecma_run_constructions.proofs.Expressions.{Part, meanings, identifier_keeps, value_keeps}

-- ---- what hangs on no context

checked_target_keeps : (place : ℕ) (o : Option Calling) → Keeps (checked_target place o)
checked_target_keeps place (Some (Function Plain)) = give_keeps place
checked_target_keeps place (Some (Function BaseClass)) = give_keeps place
checked_target_keeps place (Some (Function DerivedClass)) = give_keeps place
checked_target_keeps place (Some (Function Method)) = throw_keeps (Error error.Kind)
checked_target_keeps place (Some (Function Arrow)) = throw_keeps (Error error.Kind)
checked_target_keeps place (Some (BoundFunction target this given)) = throw_keeps (Error error.Kind)
checked_target_keeps place None = throw_keeps (Error error.Kind)

checked_calling_keeps : (place : ℕ) (o : Option Calling) → Keeps (checked_calling place o)
checked_calling_keeps place (Some (Function Plain)) = give_keeps place
checked_calling_keeps place (Some (Function BaseClass)) = give_keeps place
checked_calling_keeps place (Some (Function DerivedClass)) = give_keeps place
checked_calling_keeps place (Some (Function Method)) = throw_keeps (Error error.Kind)
checked_calling_keeps place (Some (Function Arrow)) = throw_keeps (Error error.Kind)
checked_calling_keeps place (Some (BoundFunction target this given)) = bind (calling_at_keeps target) (λ o. checked_target_keeps place o)
checked_calling_keeps place None = throw_keeps (Error error.Kind)

parent_class_keeps : (v : Value) → Keeps (parent_class v)
parent_class_keeps (Own place) = bind (calling_at_keeps place) (λ o. checked_calling_keeps place o)
parent_class_keeps Null = outside_keeps
parent_class_keeps (Host number) = outside_keeps
parent_class_keeps (Error error_kind) = outside_keeps
parent_class_keeps _ = throw_keeps (Error error.Kind)

parent_prototype_keeps : (v : Value) → Keeps (parent_prototype v)
parent_prototype_keeps (Own place) = give_keeps place
parent_prototype_keeps Null = outside_keeps
parent_prototype_keeps (Host number) = outside_keeps
parent_prototype_keeps (Error error_kind) = outside_keeps
parent_prototype_keeps _ = throw_keeps (Error error.Kind)

define_method_keeps : (sort : MethodKind) (object : ℕ) (key : List ℕ) (f : ℕ) → Keeps (define_method sort object key f)
define_method_keeps method.Method object key f = define_keeps object key (λ old. Data (Own f))
define_method_keeps method.Getter object key f = define_keeps object key (with_getter f)
define_method_keeps method.Setter object key f = define_keeps object key (with_setter f)

literal_key_keeps : (is_computed : Bool) (key : List ℕ) → Keeps (literal_key is_computed key)
literal_key_keeps is_computed key = when_keeps (sets_prototype is_computed key) outside_keeps (give_keeps key)

keep_field_keys_keeps : (place : ℕ) (keys : List (List ℕ)) → Keeps (keep_field_keys place keys)
keep_field_keys_keeps place keys = record { at = λ s p f. f }

define_field_keeps : (object : Value) (key : List ℕ) (v : Value) → Keeps (define_field object key v)
define_field_keeps (Own place) key v = define_keeps place key (λ old. Data v)
define_field_keeps _ key v = outside_keeps

module _ (x : ExecutionContext) (sound : Sound x.functions) where
  -- ---- functions

  pub made_keeps : (node : Node) (k : Kind) (ps : List Part) (sort : Sort) (home : Option ℕ) → Keeps (made_of node k (meanings ps) sort home x)
  made_keeps node (kind.Function false false) ps sort home = make_function_keeps node sort home x
  made_keeps node (kind.Function false true) ps sort home = make_function_keeps node Method home x
  made_keeps node (kind.Function true is_async) ps sort home = make_generator_keeps node home x
  made_keeps node _ ps sort home = outside_keeps

  pub default_made_keeps : (k : Kind) (ps : List Part) → Keeps (default_made_of k (meanings ps) x)
  default_made_keeps kind.FnExpr (name ∷ function ∷ []) = function.1.made Plain None x sound
  default_made_keeps _ ps = outside_keeps

  pub body_keeps : (node : Node) (k : Kind) (ps : List Part) (names : List Id) → Keeps (body_of node k (meanings ps) names x)
  body_keeps node kind.BlockStmt (statements ∷ []) names =
      bind (new_environment_keeps (except names (statements.0.vars ++ statements.0.lexicals)) None) (λ place. bind (statements.1.hoisted (inside x place) sound) (λ _. statements.1.completion (inside x place) sound))
  body_keeps node k ps names = bind (value_keeps x sound node k ps) (λ v. return_keeps v)

  run_body_keeps : (parameters body : Part) → Keeps (run_body parameters.0 body.0 x)
  run_body_keeps parameters body = when_keeps (parameters.0.is_plain || not (have_one_of parameters.0.names body.0.locals)) (body.1.body parameters.0.names x sound) outside_keeps

  run_code_keeps : (parameters body : Part) (vs : List Value) → Keeps (run_code parameters.0 body.0 vs x)
  run_code_keeps parameters body vs = bind (parameters.1.parameters vs x sound) (λ _. run_body_keeps parameters body)

  all_code_keeps : (ps : List Part) (vs : List Value) → Keeps (all_code (meanings ps) vs x)
  all_code_keeps [] vs = outside_keeps
  all_code_keeps (p ∷ ps) vs = when_keeps p.0.is_constructor (p.1.code vs x sound) (all_code_keeps ps vs)

  class_code_keeps : (super body : Part) (vs : List Value) → Keeps (class_code super.0 body.0 vs x)
  class_code_keeps super body vs = when_keeps body.0.is_constructor (body.1.code vs x sound) (when_keeps super.0.is_absent (give_keeps tt) (bind (super_call_keeps x sound vs) (λ _. give_keeps tt)))

  pub code_keeps : (k : Kind) (ps : List Part) (vs : List Value) → Keeps (code_of k (meanings ps) vs x)
  code_keeps (kind.Function false false) (parameters ∷ body ∷ types ∷ return_type ∷ []) vs = run_code_keeps parameters body vs
  code_keeps (kind.ArrowExpr false false) (parameters ∷ body ∷ types ∷ return_type ∷ []) vs = run_code_keeps parameters body vs
  code_keeps kind.GetterProp (key ∷ type ∷ body ∷ []) vs = body.1.body [] x sound
  code_keeps kind.SetterProp (key ∷ this_parameter ∷ parameter ∷ body ∷ []) vs = bind (parameter.1.bound (first_or_undefined vs) x sound) (λ _. run_body_keeps parameter body)
  code_keeps (kind.Constructor accessibility is_optional) (key ∷ parameters ∷ body ∷ []) vs = run_code_keeps parameters body vs
  code_keeps (kind.Class is_abstract) (super ∷ body ∷ types ∷ super_types ∷ implements ∷ []) vs = class_code_keeps super body vs
  code_keeps kind.List ps vs = all_code_keeps ps vs
  code_keeps _ ps vs = outside_keeps

  -- ---- classes

  heritage_keeps : (super : Part) → Keeps (heritage super.0 x)
  heritage_keeps super =
      when_keeps super.0.is_absent (give_keeps (None, None))
      (bind (super.1.value x sound) (λ v. bind (parent_class_keeps v) (λ parent. bind (prototype_property_keeps parent) (λ w. bind (parent_prototype_keeps w) (λ prototype. give_keeps (Some parent, Some prototype))))))

module _ (x : ExecutionContext) (sound : Sound x.functions) (node : Node) where
  class_in_keeps : (super body : Part) (names : List Id) (scope : Entered) → Keeps (class_in node super.0 body.0 names scope x)
  class_in_keeps super body names scope =
      bind (heritage_keeps (inside x scope) sound super) (λ parents. bind (new_prototype_keeps parents.1) (λ prototype.
      bind (new_function_keeps (prototype_entries false prototype) parents.0 node (cond super.0.is_absent BaseClass DerivedClass) (Some prototype) (inside x scope)) (λ class.
      bind (body.1.defined class prototype (inside x scope) sound) (λ keys. bind (keep_field_keys_keeps class keys) (λ _. bind (set_all_keeps names scope.place (Own class)) (λ _.
      bind (new_environment_keeps [] (Some (field_activation (Own class) (Some class)))) (λ place. bind (body.1.statics keys (Own class) (inside (inside x scope) place) sound) (λ _. give_keeps (Own class)))))))))

  class_value_keeps : (super body : Part) (names : List Id) → Keeps (class_value node super.0 body.0 names x)
  class_value_keeps super body names = bind (new_environment_keeps (map (empty true) names) None) (λ scope. class_in_keeps super body names scope)

  pub class_made_keeps : (k : Kind) (ps : List Part) (names : List Id) → Keeps (class_made_of node k (meanings ps) names x)
  class_made_keeps (kind.Class is_abstract) (super ∷ body ∷ types ∷ super_types ∷ implements ∷ []) names = class_value_keeps super body names
  class_made_keeps _ ps names = outside_keeps

  -- ---- properties and methods

  all_defined_keeps : (ps : List Part) (class object : ℕ) → Keeps (all_defined (meanings ps) class object x)
  all_defined_keeps [] class object = give_keeps []
  all_defined_keeps (p ∷ ps) class object = bind (p.1.defined class object x sound) (λ ks. bind (all_defined_keeps ps class object) (λ ls. give_keeps (ks ++ ls)))

  accessor_keeps : (sort : MethodKind) (key : Part) (object : ℕ) → Keeps (key.0.key x >>= λ k. make_function node Method (Some object) x >>= λ f. define_method sort object k f >>= λ _. give {A = List (List ℕ)} [])
  accessor_keeps sort key object = bind (key.1.key x sound) (λ k. bind (make_function_keeps node Method (Some object) x) (λ f. bind (define_method_keeps sort object k f) (λ _. give_keeps [])))

  method_keeps : (sort : MethodKind) (key function : Part) (object : ℕ) → Keeps (key.0.key x >>= λ k. function.0.made Method (Some object) x >>= λ f. define_method sort object k f >>= λ _. give {A = List (List ℕ)} [])
  method_keeps sort key function object = bind (key.1.key x sound) (λ k. bind (function.1.made Method (Some object) x sound) (λ f. bind (define_method_keeps sort object k f) (λ _. give_keeps [])))

  pub defined_keeps : (k : Kind) (ps : List Part) (class object : ℕ) → Keeps (defined_of node k (meanings ps) class object x)
  defined_keeps kind.List ps class object = all_defined_keeps ps class object
  defined_keeps (kind.Ident sym ctxt optional) [] class object = bind (identifier_keeps x sound sym ctxt) (λ r. bind (read_keeps x sound r) (λ v. bind (define_keeps object sym (λ old. Data v)) (λ _. give_keeps [])))
  defined_keeps kind.KeyValueProp (key ∷ value ∷ []) class object =
      bind (key.1.key x sound) (λ k. bind (literal_key_keeps key.0.is_computed k) (λ k. bind (value.1.value x sound) (λ v. bind (define_keeps object k (λ old. Data v)) (λ _. give_keeps []))))
  defined_keeps kind.MethodProp (key ∷ function ∷ []) class object = method_keeps method.Method key function object
  defined_keeps kind.GetterProp (key ∷ type ∷ body ∷ []) class object = accessor_keeps method.Getter key object
  defined_keeps kind.SetterProp (key ∷ this_parameter ∷ parameter ∷ body ∷ []) class object = accessor_keeps method.Setter key object
  defined_keeps (kind.ClassMethod sort modifiers) (key ∷ function ∷ []) class object = method_keeps sort key function (cond modifiers.is_static class object)
  defined_keeps (kind.ClassProp modifiers readonly declare definite) (key ∷ value ∷ type ∷ []) class object = bind (key.1.key x sound) (λ k. give_keeps (k ∷ []))
  defined_keeps (kind.Constructor accessibility is_optional) ps class object = give_keeps []
  defined_keeps (kind.TsTypeAliasDecl declare) ps class object = give_keeps []
  defined_keeps _ ps class object = outside_keeps

module _ (x : ExecutionContext) (sound : Sound x.functions) where
  -- ---- fields

  field_with_keeps : (b : Bool) (value : Part) (keys : List (List ℕ)) (object : Value) → Keeps (field_with b value.0 keys object x)
  field_with_keeps b value [] object = outside_keeps
  field_with_keeps b value (key ∷ keys) object = bind (when_keeps b (bind (value.1.initial x sound) (λ v. define_field_keeps object key v)) (give_keeps tt)) (λ _. give_keeps keys)

  all_fields_keeps : (ps : List Part) (keys : List (List ℕ)) (object : Value) → Keeps (all_fields (meanings ps) keys object x)
  all_fields_keeps [] keys object = give_keeps keys
  all_fields_keeps (p ∷ ps) keys object = bind (p.1.fields keys object x sound) (λ left. all_fields_keeps ps left object)

  pub fields_keeps : (k : Kind) (ps : List Part) (keys : List (List ℕ)) (object : Value) → Keeps (fields_of k (meanings ps) keys object x)
  fields_keeps (kind.Class is_abstract) (super ∷ body ∷ types ∷ super_types ∷ implements ∷ []) keys object = body.1.fields keys object x sound
  fields_keeps kind.List ps keys object = all_fields_keeps ps keys object
  fields_keeps (kind.ClassProp modifiers readonly declare definite) (key ∷ value ∷ type ∷ []) keys object = field_with_keeps (not modifiers.is_static) value keys object
  fields_keeps (kind.Constructor accessibility is_optional) ps keys object = give_keeps keys
  fields_keeps (kind.ClassMethod sort modifiers) ps keys object = give_keeps keys
  fields_keeps (kind.TsTypeAliasDecl declare) ps keys object = give_keeps keys
  fields_keeps _ ps keys object = outside_keeps

  all_statics_keeps : (ps : List Part) (keys : List (List ℕ)) (class : Value) → Keeps (all_statics (meanings ps) keys class x)
  all_statics_keeps [] keys class = give_keeps keys
  all_statics_keeps (p ∷ ps) keys class = bind (p.1.statics keys class x sound) (λ left. all_statics_keeps ps left class)

  pub statics_keeps : (k : Kind) (ps : List Part) (keys : List (List ℕ)) (class : Value) → Keeps (statics_of k (meanings ps) keys class x)
  statics_keeps kind.List ps keys class = all_statics_keeps ps keys class
  statics_keeps (kind.ClassProp modifiers readonly declare definite) (key ∷ value ∷ type ∷ []) keys class = field_with_keeps modifiers.is_static value keys class
  statics_keeps (kind.Constructor accessibility is_optional) ps keys class = give_keeps keys
  statics_keeps (kind.ClassMethod sort modifiers) ps keys class = give_keeps keys
  statics_keeps (kind.TsTypeAliasDecl declare) ps keys class = give_keeps keys
  statics_keeps _ ps keys class = outside_keeps
