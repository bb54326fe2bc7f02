-- Properties of objects, classes and their members, and the code of functions do alike.
use Rattle.std.proofs.Common.{refl, sym, ℕ, List, [], ◌∷◌, Option, Some, Bool, true, false, cond}
use Rattle.ecma_kind.specs.declared.kind.Kind.{Kind}
use Rattle.ecma_kind.specs.declared.kind.Kind.TheVariants as kind
use Rattle.ecma_kind.specs.declared.operators.MethodKind.{MethodKind}
use Rattle.ecma_kind.specs.declared.operators.MethodKind.TheVariants as method
use Rattle.ecma_tree.specs.declared.node.Node.{Node}
use Rattle.ecma_runs.specs.declared.shown.ErrorKind.TheVariants as error
use Rattle.ecma_runs.specs.Values.{Value, Own}
use Rattle.ecma_runs.specs.State.{Id, Binding, Entered, Sort, Plain, Method, Arrow, BaseClass, DerivedClass}
use Rattle.ecma_runs.specs.Run.{◌>>=◌, give}
use Rattle.ecma_runs.specs.Environment.{except, new_environment, set_all}
use Rattle.ecma_runs.specs.Meaning.{inside}
use Rattle.ecma_runs.specs.Functions.{make_function}
use Rattle.ecma_runs.specs.Objects.{Calling}
use Rattle.ecma_runs.specs.Classes.{keep_field_keys, made_of, default_made_of, body_of, run_body, run_code, all_code, class_code, code_of, checked_target, checked_calling, parent_class, parent_prototype, heritage, field_activation, class_in, class_value, class_made_of, define_method, all_defined, defined_of, define_field, field_with, all_fields, fields_of, all_statics, statics_of}
use Rattle.ecma_run_places.specs.Worlds.{Each, no_more, more, neither, both, World, Same, is, Objects, Like, undefineds, nulls, owns, hosts, errors, LikeBinding, bindings_like, LikeEntered, entered_like, LikeActivation}
use Rattle.ecma_run_places.specs.Alike.{Alike, Likes, MaybeObjects, Contexts, first, second}
use Rattle.ecma_run_places.proofs.Growing.{above, value_up, place_up, entered_up, later}
use Rattle.ecma_run_places.proofs.Combinators.{Keeps, keeps_alike, kept_bind, here_bind, here_bind_same, bind, bind_same, give_kept, throw_kept, outside_kept, give_alike, return_alike, give_same, outside_alike, when_kept, when_alike, when_same}
use Rattle.ecma_run_places.proofs.Host.{each_append}
use Rattle.ecma_run_places.proofs.Building.{new_forbidden}
use Rattle.ecma_run_places.proofs.Records.{empties_like, set_all_kept, new_environment_alike, enter, inward}
use Rattle.ecma_run_places.proofs.Objects.{functions_like, bound_functions_like, MaybeCalling, calling_at_kept, define_kept, define_data_kept, with_getter_like, with_setter_like, keep_field_keys_kept}
use Rattle.ecma_run_places.proofs.Members.{prototype_property_kept}
use Rattle.ecma_run_places.proofs.Functions.{read_alike, super_call_alike, first_like, new_prototype_alike, new_function_alike, prototype_entries_like, make_function_alike, make_generator_alike}
use Rattle.ecma_run_places.proofs.EnumReads.{identifier_alike}
use Rattle.ecma_run_places.proofs.Expressions.{Part, meanings, value_alike}

-- ---- functions

module _ (node : Node) where
  pub made_alike : {w : World} (c : Contexts w) (k : Kind) (ps : List Part) (sort : Sort) {h h' : Option ℕ} → MaybeObjects w h h'
      → Alike w Objects (made_of node k (meanings ps) sort h (first c)) (made_of node k (meanings ps) sort h' (second c))
  made_alike c (kind.Function false false) ps sort h = make_function_alike node sort h c
  made_alike c (kind.Function false true) ps sort h = make_function_alike node Method h c
  made_alike c (kind.Function true is_async) ps sort h = make_generator_alike node h c
  made_alike c _ ps sort h = outside_alike

pub default_made_alike : {w : World} (c : Contexts w) (k : Kind) (ps : List Part) → Alike w Objects (default_made_of k (meanings ps) (first c)) (default_made_of k (meanings ps) (second c))
default_made_alike c kind.FnExpr (name ∷ function ∷ []) = function.1.made c Plain neither
default_made_alike c _ ps = outside_alike

cond_each : {A : Type 0} {R : A → A → Type 0} {xs xs' ys ys' : List A} (b : Bool) → Each R xs xs' → Each R ys ys' → Each R (cond b xs ys) (cond b xs' ys')
cond_each true q r = q
cond_each false q r = r

pub except_like : {w : World} (ids : List Id) {bs bs' : List Binding} → Each (LikeBinding w) bs bs' → Each (LikeBinding w) (except ids bs) (except ids bs')
except_like ids no_more = no_more
except_like ids (more (bindings_like {id = i} q) qs) = cond_each _ (more (bindings_like q) (except_like ids qs)) (except_like ids qs)

-- the items of a block in the record of a body
pub items_alike : {w : World} (c : Contexts w) (node : Node) (statements : Part) (names : List Id)
    → Alike w Same (body_of node kind.BlockStmt (statements.0 ∷ []) names (first c)) (body_of node kind.BlockStmt (statements.0 ∷ []) names (second c))
items_alike c node statements names =
    bind (enter (except_like names (each_append statements.1.vars statements.1.lexicals))) (λ v u _ _ e.
    bind_same (statements.1.hoisted (inward (later u c) e)) (λ v' u' _. statements.1.completion (later u' (inward (later u c) e))))

pub body_alike : {w : World} (c : Contexts w) (node : Node) (k : Kind) (ps : List Part) (names : List Id)
    → Alike w Same (body_of node k (meanings ps) names (first c)) (body_of node k (meanings ps) names (second c))
body_alike c node kind.BlockStmt (statements ∷ []) names = items_alike c node statements names
body_alike c node k ps names = bind (value_alike node c k ps) (λ v u _ _ q. return_alike q)

run_body_alike : {w : World} (c : Contexts w) (parameters body : Part) → Alike w Same (run_body parameters.0 body.0 (first c)) (run_body parameters.0 body.0 (second c))
run_body_alike c parameters body = when_alike refl (body.1.body c parameters.0.names) outside_alike

run_code_alike : {w : World} (c : Contexts w) (parameters body : Part) {vs vs' : List Value} → Likes w vs vs'
    → Alike w Same (run_code parameters.0 body.0 vs (first c)) (run_code parameters.0 body.0 vs' (second c))
run_code_alike c parameters body qs = bind (parameters.1.parameters c qs) (λ v u _ _ _. run_body_alike (later u c) parameters body)

all_code_alike : {w : World} (c : Contexts w) (ps : List Part) {vs vs' : List Value} → Likes w vs vs' → Alike w Same (all_code (meanings ps) vs (first c)) (all_code (meanings ps) vs' (second c))
all_code_alike c [] qs = outside_alike
all_code_alike c (p ∷ ps) qs = when_alike refl (p.1.code c qs) (all_code_alike c ps qs)

class_code_alike : {w : World} (c : Contexts w) (super body : Part) {vs vs' : List Value} → Likes w vs vs' → Alike w Same (class_code super.0 body.0 vs (first c)) (class_code super.0 body.0 vs' (second c))
class_code_alike c super body qs = when_alike refl (body.1.code c qs) (when_alike refl (give_alike is) (bind (super_call_alike c qs) (λ v u _ _ _. give_alike is)))

pub code_alike : {w : World} (c : Contexts w) (k : Kind) (ps : List Part) {vs vs' : List Value} → Likes w vs vs' → Alike w Same (code_of k (meanings ps) vs (first c)) (code_of k (meanings ps) vs' (second c))
code_alike c (kind.Function false false) (parameters ∷ body ∷ types ∷ return_type ∷ []) qs = run_code_alike c parameters body qs
code_alike c (kind.ArrowExpr false false) (parameters ∷ body ∷ types ∷ return_type ∷ []) qs = run_code_alike c parameters body qs
code_alike c kind.GetterProp (key ∷ type ∷ body ∷ []) qs = body.1.body c []
code_alike c kind.SetterProp (key ∷ this_parameter ∷ parameter ∷ body ∷ []) qs = bind_same (parameter.1.bound c (first_like qs)) (λ v u _. run_body_alike (later u c) parameter body)
code_alike c (kind.Constructor accessibility is_optional) (key ∷ parameters ∷ body ∷ []) qs = run_code_alike c parameters body qs
code_alike c (kind.Class is_abstract) (super ∷ body ∷ types ∷ super_types ∷ implements ∷ []) qs = class_code_alike c super body qs
code_alike c kind.List ps qs = all_code_alike c ps qs
code_alike c _ ps qs = outside_alike

-- ---- classes

checked_target_kept : {w : World} {a b : ℕ} → Objects w a b → {o o' : Option Calling} → MaybeCalling w o o' → Keeps w Objects (checked_target a o) (checked_target b o')
checked_target_kept p neither = throw_kept (errors error.Kind)
checked_target_kept p (both (functions_like {sort = Plain})) = give_kept p
checked_target_kept p (both (functions_like {sort = BaseClass})) = give_kept p
checked_target_kept p (both (functions_like {sort = DerivedClass})) = give_kept p
checked_target_kept p (both (functions_like {sort = Method})) = throw_kept (errors error.Kind)
checked_target_kept p (both (functions_like {sort = Arrow})) = throw_kept (errors error.Kind)
checked_target_kept p (both (bound_functions_like t q qs)) = throw_kept (errors error.Kind)

checked_calling_kept : {w : World} {a b : ℕ} → Objects w a b → {o o' : Option Calling} → MaybeCalling w o o' → Keeps w Objects (checked_calling a o) (checked_calling b o')
checked_calling_kept p neither = throw_kept (errors error.Kind)
checked_calling_kept p (both (functions_like {sort = Plain})) = give_kept p
checked_calling_kept p (both (functions_like {sort = BaseClass})) = give_kept p
checked_calling_kept p (both (functions_like {sort = DerivedClass})) = give_kept p
checked_calling_kept p (both (functions_like {sort = Method})) = throw_kept (errors error.Kind)
checked_calling_kept p (both (functions_like {sort = Arrow})) = throw_kept (errors error.Kind)
checked_calling_kept p (both (bound_functions_like t q qs)) = kept_bind (calling_at_kept t) (λ _ _ o. checked_target_kept p o)

parent_class_kept : {w : World} {v v' : Value} → Like w v v' → Keeps w Objects (parent_class v) (parent_class v')
parent_class_kept (owns p) = kept_bind (calling_at_kept p) (λ _ _ o. checked_calling_kept p o)
parent_class_kept nulls = outside_kept
parent_class_kept (hosts n) = outside_kept
parent_class_kept (errors k) = outside_kept
parent_class_kept _ = throw_kept (errors error.Kind)

parent_prototype_kept : {w : World} {v v' : Value} → Like w v v' → Keeps w Objects (parent_prototype v) (parent_prototype v')
parent_prototype_kept (owns p) = give_kept p
parent_prototype_kept nulls = outside_kept
parent_prototype_kept (hosts n) = outside_kept
parent_prototype_kept (errors k) = outside_kept
parent_prototype_kept _ = throw_kept (errors error.Kind)

-- the parents of a class
abbrev Parents : World → Option ℕ × Option ℕ → Option ℕ × Option ℕ → Type 0
Parents w p p' = MaybeObjects w p.0 p'.0 × MaybeObjects w p.1 p'.1

heritage_alike : {w : World} (c : Contexts w) (super : Part) → Alike w Parents (heritage super.0 (first c)) (heritage super.0 (second c))
heritage_alike c super =
    when_alike refl (give_alike (neither, neither))
    (bind (super.1.value c) (λ v u _ _ q. here_bind (parent_class_kept q) (λ _ _ parent. here_bind (prototype_property_kept parent) (λ _ _ r. here_bind (parent_prototype_kept r) (λ _ _ prototype. give_alike (both parent, both prototype))))))

field_activation_like : {w : World} {v v' : Value} → Like w v v' → {h h' : Option ℕ} → MaybeObjects w h h' → LikeActivation w (field_activation v h) (field_activation v' h')
field_activation_like q h = record { this = both q; function = neither; home = h; new_target = both undefineds }

-- a record where fields are defined
pub enter_fields : {w : World} {v v' : Value} → Like w v v' → {h h' : Option ℕ} → MaybeObjects w h h'
    → Alike w LikeEntered (new_environment [] (Some (field_activation v h))) (new_environment [] (Some (field_activation v' h')))
enter_fields q h = new_environment_alike no_more (both (field_activation_like q h)) new_forbidden

module _ (node : Node) (super body : Part) (names : List Id) where
  -- behind the keys: the inner name, and the static fields
  class_behind : {w : World} (c : Contexts w) {e e' : Entered} → LikeEntered w e e' → {a b : ℕ} → Objects w a b → (keys : List (List ℕ))
      → Alike w Like (keep_field_keys a keys >>= λ _. set_all names e.place (Own a) >>= λ _. new_environment [] (Some (field_activation (Own a) (Some a))) >>= λ place. body.0.statics keys (Own a) (inside (inside (first c) e) place) >>= λ _. give (Own a))
      (keep_field_keys b keys >>= λ _. set_all names e'.place (Own b) >>= λ _. new_environment [] (Some (field_activation (Own b) (Some b))) >>= λ place. body.0.statics keys (Own b) (inside (inside (second c) e') place) >>= λ _. give (Own b))
  class_behind c (entered_like {ids = ids} r) p keys =
      here_bind_same (keep_field_keys_kept p keys) (λ _. here_bind_same (set_all_kept names r (owns p)) (λ _. bind (enter_fields (owns p) (both p)) (λ v u _ _ place.
      bind_same (body.1.statics (inward (later u (inward c (entered_like {ids = ids} r))) place) keys (owns (u.objects _ _ p))) (λ v' u' _. give_alike (owns (u'.objects _ _ (u.objects _ _ p)))))))

  class_in_alike : {w : World} (c : Contexts w) {e e' : Entered} → LikeEntered w e e' → Alike w Like (class_in node super.0 body.0 names e (first c)) (class_in node super.0 body.0 names e' (second c))
  class_in_alike c e =
      bind (heritage_alike (inward c e) super) (λ v1 u1 _ _ parents.
      bind (new_prototype_alike parents.1) (λ v2 u2 _ _ prototype.
      bind (new_function_alike (prototype_entries_like false prototype) (place_up u2 parents.0) node (cond super.0.is_absent BaseClass DerivedClass) (both prototype) (later (above u1 u2) (inward c e))) (λ v3 u3 _ _ class.
      bind_same (body.1.defined (later (above u1 (above u2 u3)) (inward c e)) class (u3.objects _ _ prototype)) (λ v4 u4 keys.
      class_behind (later (above u1 (above u2 (above u3 u4))) c) (entered_up (above u1 (above u2 (above u3 u4))) e) (u4.objects _ _ class) keys))))

  class_value_alike : {w : World} (c : Contexts w) → Alike w Like (class_value node super.0 body.0 names (first c)) (class_value node super.0 body.0 names (second c))
  class_value_alike c = bind (enter (empties_like true names)) (λ v u _ _ e. class_in_alike (later u c) e)

pub class_made_alike : {w : World} (c : Contexts w) (node : Node) (k : Kind) (ps : List Part) (names : List Id)
    → Alike w Like (class_made_of node k (meanings ps) names (first c)) (class_made_of node k (meanings ps) names (second c))
class_made_alike c node (kind.Class is_abstract) (super ∷ body ∷ types ∷ super_types ∷ implements ∷ []) names = class_value_alike node super body names c
class_made_alike c node _ ps names = outside_alike

-- ---- properties and methods

define_method_kept : {w : World} (sort : MethodKind) {a b : ℕ} → Objects w a b → (key : List ℕ) {f g : ℕ} → Objects w f g → Keeps w Same (define_method sort a key f) (define_method sort b key g)
define_method_kept method.Method p key f = define_data_kept p key (owns f)
define_method_kept method.Getter p key f = define_kept p key _ _ (with_getter_like f)
define_method_kept method.Setter p key f = define_kept p key _ _ (with_setter_like f)

all_defined_alike : {w : World} (c : Contexts w) (ps : List Part) {a b o o' : ℕ} → Objects w a b → Objects w o o'
    → Alike w Same (all_defined (meanings ps) a o (first c)) (all_defined (meanings ps) b o' (second c))
all_defined_alike c [] p q = give_alike is
all_defined_alike c (d ∷ ps) p q = bind_same (d.1.defined c p q) (λ v u ks. bind_same (all_defined_alike (later u c) ps (u.objects _ _ p) (u.objects _ _ q)) (λ v' u' ls. give_alike is))

-- the class, or its prototype
chosen : (w : World) (b : Bool) {a a' o o' : ℕ} → Objects w a a' → Objects w o o' → Objects w (cond b a o) (cond b a' o')
chosen w true p q = p
chosen w false p q = q

module _ (node : Node) where
  -- a key, a function and its definition
  accessor_alike : {w : World} (c : Contexts w) (sort : MethodKind) (key : Part) {o o' : ℕ} → Objects w o o'
      → Alike w Same (key.0.key (first c) >>= λ k. make_function node Method (Some o) (first c) >>= λ f. define_method sort o k f >>= λ _. give {A = List (List ℕ)} [])
      (key.0.key (second c) >>= λ k. make_function node Method (Some o') (second c) >>= λ f. define_method sort o' k f >>= λ _. give [])
  accessor_alike c sort key p =
      bind_same (key.1.key c) (λ v u k. bind (make_function_alike node Method (both (u.objects _ _ p)) (later u c)) (λ v' u' _ _ f. here_bind_same (define_method_kept sort (u'.objects _ _ (u.objects _ _ p)) k f) (λ _. give_same [])))

  method_alike : {w : World} (c : Contexts w) (sort : MethodKind) (key function : Part) {o o' : ℕ} → Objects w o o'
      → Alike w Same (key.0.key (first c) >>= λ k. function.0.made Method (Some o) (first c) >>= λ f. define_method sort o k f >>= λ _. give {A = List (List ℕ)} [])
      (key.0.key (second c) >>= λ k. function.0.made Method (Some o') (second c) >>= λ f. define_method sort o' k f >>= λ _. give [])
  method_alike c sort key function p =
      bind_same (key.1.key c) (λ v u k. bind (function.1.made (later u c) Method (both (u.objects _ _ p))) (λ v' u' _ _ f. here_bind_same (define_method_kept sort (u'.objects _ _ (u.objects _ _ p)) k f) (λ _. give_same [])))

  pub defined_alike : {w : World} (c : Contexts w) (k : Kind) (ps : List Part) {a b o o' : ℕ} → Objects w a b → Objects w o o'
      → Alike w Same (defined_of node k (meanings ps) a o (first c)) (defined_of node k (meanings ps) b o' (second c))
  defined_alike c kind.List ps p q = all_defined_alike c ps p q
  defined_alike c (kind.Ident sym ctxt optional) [] p q = bind (identifier_alike c sym ctxt)
      (λ v u _ _ r. bind (read_alike (later u c) r) (λ v' u' _ _ z. here_bind_same (define_data_kept (u'.objects _ _ (u.objects _ _ q)) sym z) (λ _. give_alike is)))
  defined_alike c kind.KeyValueProp (key ∷ value ∷ []) p q =
      bind_same (key.1.key c) (λ v u k. here_bind_same (when_kept refl outside_kept (give_kept is)) (λ k. bind (value.1.value (later u c)) (λ v' u' _ _ r. here_bind_same (define_data_kept (u'.objects _ _ (u.objects _ _ q)) k r) (λ _. give_alike is))))
  defined_alike c kind.MethodProp (key ∷ function ∷ []) p q = method_alike c method.Method key function q
  defined_alike c kind.GetterProp (key ∷ type ∷ body ∷ []) p q = accessor_alike c method.Getter key q
  defined_alike c kind.SetterProp (key ∷ this_parameter ∷ parameter ∷ body ∷ []) p q = accessor_alike c method.Setter key q
  defined_alike {w} c (kind.ClassMethod sort modifiers) (key ∷ function ∷ []) p q = method_alike c sort key function (chosen w modifiers.is_static p q)
  defined_alike c (kind.ClassProp modifiers readonly declare definite) (key ∷ value ∷ type ∷ []) p q = bind_same (key.1.key c) (λ v u k. give_alike is)
  defined_alike c (kind.Constructor accessibility is_optional) ps p q = give_alike is
  defined_alike c (kind.TsTypeAliasDecl declare) ps p q = give_alike is
  defined_alike c _ ps p q = outside_alike

-- ---- fields

define_field_kept : {w : World} {v v' : Value} → Like w v v' → (key : List ℕ) {z z' : Value} → Like w z z' → Keeps w Same (define_field v key z) (define_field v' key z')
define_field_kept (owns p) key q = define_data_kept p key q
define_field_kept _ key q = outside_kept

field_with_alike : {w : World} (c : Contexts w) (b : Bool) (value : Part) (keys : List (List ℕ)) {v v' : Value} → Like w v v'
    → Alike w Same (field_with b value.0 keys v (first c)) (field_with b value.0 keys v' (second c))
field_with_alike c b value [] q = outside_alike
field_with_alike c b value (key ∷ keys) q =
    bind_same (when_same b (bind (value.1.initial c) (λ v u _ _ r. keeps_alike (define_field_kept (value_up u q) key r))) (give_same tt)) (λ v u _. give_same keys)

all_fields_alike : {w : World} (c : Contexts w) (ps : List Part) (keys : List (List ℕ)) {v v' : Value} → Like w v v'
    → Alike w Same (all_fields (meanings ps) keys v (first c)) (all_fields (meanings ps) keys v' (second c))
all_fields_alike c [] keys q = give_alike is
all_fields_alike c (p ∷ ps) keys q = bind_same (p.1.fields c keys q) (λ v u left. all_fields_alike (later u c) ps left (value_up u q))

pub fields_alike : {w : World} (c : Contexts w) (k : Kind) (ps : List Part) (keys : List (List ℕ)) {v v' : Value} → Like w v v'
    → Alike w Same (fields_of k (meanings ps) keys v (first c)) (fields_of k (meanings ps) keys v' (second c))
fields_alike c (kind.Class is_abstract) (super ∷ body ∷ types ∷ super_types ∷ implements ∷ []) keys q = body.1.fields c keys q
fields_alike c kind.List ps keys q = all_fields_alike c ps keys q
fields_alike c (kind.ClassProp modifiers readonly declare definite) (key ∷ value ∷ type ∷ []) keys q = field_with_alike c _ value keys q
fields_alike c (kind.Constructor accessibility is_optional) ps keys q = give_alike is
fields_alike c (kind.ClassMethod sort modifiers) ps keys q = give_alike is
fields_alike c (kind.TsTypeAliasDecl declare) ps keys q = give_alike is
fields_alike c _ ps keys q = outside_alike

all_statics_alike : {w : World} (c : Contexts w) (ps : List Part) (keys : List (List ℕ)) {v v' : Value} → Like w v v'
    → Alike w Same (all_statics (meanings ps) keys v (first c)) (all_statics (meanings ps) keys v' (second c))
all_statics_alike c [] keys q = give_alike is
all_statics_alike c (p ∷ ps) keys q = bind_same (p.1.statics c keys q) (λ v u left. all_statics_alike (later u c) ps left (value_up u q))

pub statics_alike : {w : World} (c : Contexts w) (k : Kind) (ps : List Part) (keys : List (List ℕ)) {v v' : Value} → Like w v v'
    → Alike w Same (statics_of k (meanings ps) keys v (first c)) (statics_of k (meanings ps) keys v' (second c))
statics_alike c kind.List ps keys q = all_statics_alike c ps keys q
statics_alike c (kind.ClassProp modifiers readonly declare definite) (key ∷ value ∷ type ∷ []) keys q = field_with_alike c modifiers.is_static value keys q
statics_alike c (kind.Constructor accessibility is_optional) ps keys q = give_alike is
statics_alike c (kind.ClassMethod sort modifiers) ps keys q = give_alike is
statics_alike c (kind.TsTypeAliasDecl declare) ps keys q = give_alike is
statics_alike c _ ps keys q = outside_alike
