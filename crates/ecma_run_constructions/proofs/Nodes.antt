-- A node keeps it so where its children do, by its kind.
use Rattle.std.proofs.Common.{◌≡◌, refl, sym, ap, ◌∙◌, subst, ℕ, List, [], ◌∷◌, map, Option, Some, None, Bool, true, false, cond, codes, is_some, ◌&&◌}
use Rattle.ecma_enums.specs.declared.value.TsEnumRecordValue.{TsEnumRecordValue}
use Rattle.ecma_kind.specs.declared.kind.Kind.{Kind}
use Rattle.ecma_kind.specs.declared.kind.Kind.TheVariants as kind
use Rattle.ecma_kind.specs.declared.operators.AssignOp.TheVariants.{Assign}
use Rattle.ecma_kind.specs.declared.operators.BinaryOp.TheVariants.{LogicalOr}
use Rattle.ecma_kind.specs.declared.operators.VarDeclKind.TheVariants.{Const}
use Rattle.ecma_tree.specs.declared.node.Node.{Node, Node-F, roll-Node, ind-Node}
use Rattle.ecma_runs.specs.Values.{Value, Undefined}
use Rattle.ecma_runs.specs.State.{Id, Binding, Activation}
use Rattle.ecma_runs.specs.Run.{Run, give}
use Rattle.ecma_runs.specs.Environment.{Reference, ToFree, empty}
use Rattle.ecma_runs.specs.Enums.{as_value}
use Rattle.ecma_runs.specs.Meaning.{ExecutionContext, inside, Evaluation, Meaning}
use Rattle.ecma_runs.specs.Declarations.{has_no_effect}
use Rattle.ecma_runs.specs.Classes.{body_of}
use Rattle.ecma_runs.specs.Evaluation.{in_record, as_it_is, called_with, called_block, completed_of, role_by, ending_chain, no_effect, free_meaning, text_key, constant_meaning, set_export, variable_reference, write_of, variable_meaning, value_meaning, set_by, known_member, is_known_text, member_value, set_member_by, member_by, member_meaning, leaves_out, is_left_out, members_meaning, called_function, enum_part_by, enum_meaning, meaning_by, meaning}
use Rattle.ecma_runs.proofs.Layer.{meaning-roll}
use Rattle.ecma_run_constructions.proofs.Keeping.{Keeps, bind, give_keeps, outside_keeps, when_keeps, given_keeps, returned_keeps, spend_keeps}
use Rattle.ecma_run_constructions.proofs.States.{new_environment_keeps, resolved_keeps, fill_keeps}
use Rattle.ecma_run_constructions.proofs.Functions.{Sound, read_keeps, write_keeps, pass_function_keeps}
use Rattle.ecma_run_constructions.proofs.Expressions.{MeansKept, Part, meanings, value_keeps, reference_keeps, written_keeps, chain_keeps, test_keeps, initial_keeps, link_keeps, arguments_keeps, elements_keeps, texts_keeps, key_keeps}
use Rattle.ecma_run_constructions.proofs.Patterns.{assigned_keeps, targets_keeps, matched_keeps, bound_keeps, parameters_keeps}
use Rattle.ecma_run_constructions.proofs.Statements.{completion_keeps, members_keeps, last_keeps, varied_keeps, hoisted_keeps, caught_keeps, effect_keeps, switched_keeps, selected_keeps}
use Rattle.ecma_run_constructions.proofs.Classes.{made_keeps, default_made_keeps, body_keeps, code_keeps, class_made_keeps, defined_keeps, fields_keeps, statics_keeps}

-- ---- records of code, and blocks of namespaces

module _ (x : ExecutionContext) (sound : Sound x.functions) where
  pub in_record_keeps : (bindings : List Binding) (o : Option Activation) (code : Evaluation (Unit {0})) → ((y : ExecutionContext) → Sound y.functions → Keeps (code y)) → {finish : ℕ → Value → Run Value}
      → ((place : ℕ) (v : Value) → Keeps (finish place v)) → Keeps (in_record bindings o code finish x)
  in_record_keeps bindings o code h hf = bind (new_environment_keeps bindings o) (λ place. bind (returned_keeps (λ _. Undefined) (h (inside x place) sound)) (λ v. hf place.place v))

in_block : (x : ExecutionContext) → Sound x.functions → (node : Node) (items : Part) (function : ℕ)
    → Keeps (in_record [] (Some (called_with Undefined function None [])) (body_of node kind.BlockStmt (items.0 ∷ []) []) as_it_is x)
in_block x sound node items function =
    in_record_keeps x sound [] (Some (called_with Undefined function None [])) (body_of node kind.BlockStmt (items.0 ∷ []) []) (λ y h. body_keeps y h node kind.BlockStmt (items ∷ []) []) (λ place v. give_keeps v)

module _ (x : ExecutionContext) (sound : Sound x.functions) where
  called_block_keeps : (node : Node) (items : Part) → Keeps (called_block node items.0 x)
  called_block_keeps node items =
      bind (new_environment_keeps [] None) (λ place. bind (pass_function_keeps node (inside x place)) (λ function. bind spend_keeps (λ _.
      bind (in_block (inside x place) sound node items function) (λ _. give_keeps tt))))

  completed_keeps : (node : Node) (k : Kind) (ps : List Part) → Keeps (completed_of node k (meanings ps) x)
  completed_keeps node kind.TsModuleBlock (items ∷ []) = when_keeps items.0.is_type (give_keeps tt) (called_block_keeps node items)
  completed_keeps node k ps = completion_keeps x sound k ps

-- ---- nodes

pub role_kept : (node : Node) (k : Kind) (ps : List Part) → MeansKept (role_by node k (meanings ps))
role_kept node k ps = record {
  value = λ x h. value_keeps x h node k ps;
  reference = λ x h. reference_keeps x h node k ps;
  written = λ x h. written_keeps x h node k ps;
  assigned = λ get x h. assigned_keeps x h node k ps get;
  initial = λ x h. initial_keeps x h node k ps;
  arguments = λ x h. arguments_keeps x h node k ps;
  elements = λ x h. elements_keeps x h node k ps;
  texts = λ x h. texts_keeps x h node k ps;
  key = λ x h. key_keeps x h k ps;
  chain = λ x h. chain_keeps x h node k ps;
  link = λ optional x h. link_keeps x h k ps optional;
  bound = λ v x h. bound_keeps x h k ps v;
  matched = λ v x h. matched_keeps x h k ps v;
  targets = λ v x h. targets_keeps x h k ps v;
  parameters = λ vs x h. parameters_keeps x h k ps vs;
  completion = λ x h. completed_keeps x h node k ps;
  member = λ leaves_out ids x h. members_keeps x h k ps leaves_out ids;
  varied = λ x h. varied_keeps x h k ps;
  hoisted = λ x h. hoisted_keeps x h k ps;
  last = λ x h. last_keeps x h k ps;
  effect = λ x h. effect_keeps x h node k ps;
  test = λ x h. test_keeps x h node k ps;
  caught = λ v x h. caught_keeps x h k ps v;
  switched = λ v x h. switched_keeps x h k ps v;
  selected = λ o x h. selected_keeps x h k ps o;
  made = λ sort home x h. made_keeps x h node k ps sort home;
  default_made = λ x h. default_made_keeps x h k ps;
  class_made = λ names x h. class_made_keeps x h node k ps names;
  defined = λ class object x h. defined_keeps x h node k ps class object;
  fields = λ keys object x h. fields_keeps x h k ps keys object;
  statics = λ keys class x h. statics_keeps x h k ps keys class;
  code = λ vs x h. code_keeps x h k ps vs;
  body = λ names x h. body_keeps x h node k ps names;
}

either_kept : (b : Bool) {m m' : Meaning} → MeansKept m → MeansKept m' → MeansKept (cond b m m')
either_kept true h g = h
either_kept false h g = g

-- a meaning of which some roles are others
others_kept : (m : Meaning) → MeansKept m → {value : Evaluation Value} {reference : Evaluation Reference} {assigned : Run Value → Evaluation Value} {completion : Evaluation (Unit {0})} {member : Bool → List Id → Evaluation (Unit {0})}
    → ((x : ExecutionContext) → Sound x.functions → Keeps (value x)) → ((x : ExecutionContext) → Sound x.functions → Keeps (reference x))
    → ((get : Run Value) → Keeps get → (x : ExecutionContext) → Sound x.functions → Keeps (assigned get x)) → ((x : ExecutionContext) → Sound x.functions → Keeps (completion x))
    → ((leaves_out : Bool) (ids : List Id) (x : ExecutionContext) → Sound x.functions → Keeps (member leaves_out ids x))
    → MeansKept (record m { value = value; reference = reference; assigned = assigned; completion = completion; member = member })
others_kept m h value reference assigned completion member = record {
  value = value;
  reference = reference;
  written = h.written;
  assigned = λ gets x sound. assigned _ gets x sound;
  initial = h.initial;
  arguments = h.arguments;
  elements = h.elements;
  texts = h.texts;
  key = h.key;
  chain = h.chain;
  link = h.link;
  bound = h.bound;
  matched = h.matched;
  targets = h.targets;
  parameters = h.parameters;
  completion = completion;
  member = member;
  varied = h.varied;
  hoisted = h.hoisted;
  last = h.last;
  effect = h.effect;
  test = h.test;
  caught = h.caught;
  switched = h.switched;
  selected = h.selected;
  made = h.made;
  default_made = h.default_made;
  class_made = h.class_made;
  defined = h.defined;
  fields = h.fields;
  statics = h.statics;
  code = h.code;
  body = h.body;
}

ending_kept : (m : Meaning) → MeansKept m → MeansKept (ending_chain m)
ending_kept m h = record {
  value = h.value;
  reference = h.reference;
  written = h.written;
  assigned = λ gets x sound. h.assigned gets x sound;
  initial = h.initial;
  arguments = h.arguments;
  elements = h.elements;
  texts = h.texts;
  key = h.key;
  chain = λ x sound. bind (h.reference x sound) (λ r. give_keeps (Some r));
  link = h.link;
  bound = h.bound;
  matched = h.matched;
  targets = h.targets;
  parameters = h.parameters;
  completion = h.completion;
  member = h.member;
  varied = h.varied;
  hoisted = h.hoisted;
  last = h.last;
  effect = h.effect;
  test = h.test;
  caught = h.caught;
  switched = h.switched;
  selected = h.selected;
  made = h.made;
  default_made = h.default_made;
  class_made = h.class_made;
  defined = h.defined;
  fields = h.fields;
  statics = h.statics;
  code = h.code;
  body = h.body;
}

module _ (node : Node) where
  absent_kept : MeansKept (role_by node kind.Absent [])
  absent_kept = role_kept node kind.Absent []

  abbrev role : (k : Kind) (ps : List Part) → Part
  role k ps = (role_by node k (meanings ps), role_kept node k ps)

  -- the roles that stay
  assigned_of_kept : (m : Meaning) → MeansKept m → (get : Run Value) → Keeps get → (x : ExecutionContext) → Sound x.functions → Keeps (m.assigned get x)
  assigned_of_kept m h get gets x sound = h.assigned gets x sound

  free_kept : (name : List ℕ) → MeansKept (free_meaning node name)
  free_kept name =
      let h = absent_kept in
      others_kept (role_by node kind.Absent []) h (λ x sound. read_keeps x sound (ToFree name)) (λ x sound. give_keeps (ToFree name)) (assigned_of_kept (role_by node kind.Absent []) h) h.completion h.member

  text_key_kept : (name : Meaning) → MeansKept (text_key node name)
  text_key_kept name = let h = absent_kept in record {
    value = h.value;
    reference = h.reference;
    written = h.written;
    assigned = λ gets x sound. h.assigned gets x sound;
    initial = h.initial;
    arguments = h.arguments;
    elements = h.elements;
    texts = h.texts;
    key = λ x sound. given_keeps name.text;
    chain = h.chain;
    link = h.link;
    bound = h.bound;
    matched = h.matched;
    targets = h.targets;
    parameters = h.parameters;
    completion = h.completion;
    member = h.member;
    varied = h.varied;
    hoisted = h.hoisted;
    last = h.last;
    effect = h.effect;
    test = h.test;
    caught = h.caught;
    switched = h.switched;
    selected = h.selected;
    made = h.made;
    default_made = h.default_made;
    class_made = h.class_made;
    defined = h.defined;
    fields = h.fields;
    statics = h.statics;
    code = h.code;
    body = h.body;
  }

  constant_kept : (name value : Part) → MeansKept (constant_meaning node name.0 value.0)
  constant_kept name value =
      role_kept node (kind.VarDecl Const false) (role kind.List (role (kind.VarDeclarator false) (role kind.BindingIdent (name ∷ role kind.Absent [] ∷ []) ∷ value ∷ []) ∷ []) ∷ [])

  set_export_kept : (name value : Part) → MeansKept (set_export node name.0 value.0)
  set_export_kept name value =
      role_kept node (kind.AssignExpr Assign) (role kind.MemberExpr ((free_meaning node (codes "exports"), free_kept (codes "exports")) ∷ (text_key node name.0, text_key_kept name.0) ∷ []) ∷ value ∷ [])

  -- ---- enums

  variable_keeps : (ids : List Id) (x : ExecutionContext) → Keeps (variable_reference ids x)
  variable_keeps [] x = outside_keeps
  variable_keeps (id ∷ ids) x = resolved_keeps x.scope x.known.declared id

  write_of_keeps : (ids : List Id) (get : Run Value) → Keeps get → (x : ExecutionContext) → Sound x.functions → Keeps (write_of (variable_reference ids) get x)
  write_of_keeps ids get gets x sound = bind (variable_keeps ids x) (λ r. bind gets (λ v. bind (write_keeps x sound r v) (λ _. give_keeps v)))

  variable_kept : (ids : List Id) → MeansKept (variable_meaning node ids)
  variable_kept ids =
      let h = absent_kept in
      others_kept (role_by node kind.Absent []) h (λ x sound. bind (variable_keeps ids x) (λ r. read_keeps x sound r)) (λ x sound. variable_keeps ids x) (write_of_keeps ids) h.completion h.member

  valued_kept : (value : Evaluation Value) → ((x : ExecutionContext) → Sound x.functions → Keeps (value x)) → MeansKept (value_meaning node value)
  valued_kept value gives = let h = absent_kept in others_kept (role_by node kind.Absent []) h gives h.reference (assigned_of_kept (role_by node kind.Absent []) h) h.completion h.member

  abbrev variable_part : List Id → Part
  variable_part ids = (variable_meaning node ids, variable_kept ids)

  abbrev text_part : List ℕ → Part
  text_part text = role (kind.Str text None) []

  abbrev member_part : Part → Part → Part
  member_part object e = role kind.MemberExpr (object ∷ role kind.ComputedPropName (e ∷ []) ∷ [])

  abbrev set_part : Part → Part → Part → Part
  set_part object e v = role (kind.AssignExpr Assign) (member_part object e ∷ v ∷ [])

  set_kept : (is_text : Bool) (enum : Part) (text : List ℕ) (v : Part) → MeansKept (set_by is_text node enum.0 text v.0)
  set_kept true enum text v = (set_part enum (text_part text) v).1
  set_kept false enum text v = (set_part enum (set_part enum (text_part text) v) (text_part text)).1

  member_value_kept : (init : Part) (known : Option TsEnumRecordValue) → MeansKept (member_value node init.0 known)
  member_value_kept init None = valued_kept init.0.initial init.1.initial
  member_value_kept init (Some v) = valued_kept (λ x. give (as_value v)) (λ x sound. give_keeps (as_value v))

  set_member_keeps : (ids : List Id) (text : List ℕ) (known : Option TsEnumRecordValue) (init : Part) (x : ExecutionContext) → Sound x.functions → Keeps (set_member_by node ids text known init.0 x)
  set_member_keeps ids text known init x sound =
      let value : Part = (member_value node init.0 known, member_value_kept init known) in
      let set : Part = (set_by (is_known_text known) node (variable_meaning node ids) text value.0, set_kept (is_known_text known) (variable_part ids) text value) in
      (role_kept node kind.ExprStmt (set ∷ [])).completion x sound

  member_by_keeps : (init : Part) (o : Option (List ℕ)) (out : Bool) (ids : List Id) (x : ExecutionContext) → Sound x.functions → Keeps (member_by node out ids init.0 o x)
  member_by_keeps init None out ids x sound = outside_keeps
  member_by_keeps init (Some text) out ids x sound =
      when_keeps (out && is_some (known_member x.known.enums ids text)) (give_keeps tt) (set_member_keeps ids text (known_member x.known.enums ids text) init x sound)

  member_kept : (name init : Part) → MeansKept (member_meaning node name.0 init.0)
  member_kept name init =
      let h = role_kept node kind.TsEnumMember (name ∷ init ∷ []) in
      others_kept (role_by node kind.TsEnumMember (name.0 ∷ init.0 ∷ [])) h h.value h.reference (assigned_of_kept (role_by node kind.TsEnumMember (name.0 ∷ init.0 ∷ [])) h) h.completion
      (λ out ids x sound. member_by_keeps init name.0.text out ids x sound)

  written_members_kept : (is_const : Bool) (ids : List Id) (members : Part) → MeansKept (members_meaning node is_const ids members.0)
  written_members_kept is_const ids members =
      let h = role_kept node kind.List [] in
      others_kept (role_by node kind.List []) h h.value h.reference (assigned_of_kept (role_by node kind.List []) h) (λ x sound. members.1.member (leaves_out is_const x.known.enums ids) ids x sound) h.member

  abbrev members_part : Bool → List Id → Part → Part
  members_part is_const ids members = (members_meaning node is_const ids members.0, written_members_kept is_const ids members)

  abbrev function_part : Bool → Part → List Id → Part → Part
  function_part is_const name ids members =
      role (kind.Function false false)
      (role kind.List (role kind.Param (role kind.BindingIdent (name ∷ role kind.Absent [] ∷ []) ∷ []) ∷ [])
      ∷ role kind.BlockStmt (members_part is_const ids members ∷ []) ∷ role kind.Absent [] ∷ role kind.Absent [] ∷ [])

  abbrev object_part : List Id → Part
  object_part ids =
      role (kind.BinExpr LogicalOr) (variable_part ids ∷ role (kind.AssignExpr Assign) (variable_part ids ∷ role kind.ObjectLit (role kind.List [] ∷ []) ∷ []) ∷ [])

  called_function_keeps : (function arguments : Part) (x : ExecutionContext) → Sound x.functions → Keeps (called_function node function.0 arguments.0 x)
  called_function_keeps function arguments x sound =
      bind (new_environment_keeps [] None) (λ place. bind (pass_function_keeps node (inside x place)) (λ f. bind (arguments.1.arguments x sound) (λ vs. bind spend_keeps (λ _.
      bind (in_record_keeps (inside x place) sound (map (empty false) function.0.parameter_names) (Some (called_with Undefined f None vs)) (function.0.code vs) (function.1.code vs) (λ place v. give_keeps v)) (λ _. give_keeps tt)))))

  part_keeps : (is_const : Bool) (name : Part) (ids : List Id) (texts : List (List ℕ)) (members : Part) (x : ExecutionContext) → Sound x.functions → Keeps (enum_part_by node is_const name.0 ids texts members.0 x)
  part_keeps is_const name ids texts members x sound =
      bind (fill_keeps x.scope ids) (λ _. when_keeps (is_left_out is_const x.known.enums ids texts) (give_keeps tt) (called_function_keeps (function_part is_const name ids members) (role kind.List (object_part ids ∷ [])) x sound))

  enum_kept : (is_const : Bool) (name members : Part) → MeansKept (enum_meaning node is_const name.0 members.0)
  enum_kept is_const name members =
      let h = role_kept node (kind.TsEnumDecl false is_const) (name ∷ members ∷ []) in
      others_kept (role_by node (kind.TsEnumDecl false is_const) (name.0 ∷ members.0 ∷ [])) h h.value h.reference (assigned_of_kept (role_by node (kind.TsEnumDecl false is_const) (name.0 ∷ members.0 ∷ [])) h)
      (λ x sound. part_keeps is_const name name.0.names members.0.member_texts members x sound) h.member

-- ---- by kind

kind_kept : (node : Node) (k : Kind) (ps : List Part) → MeansKept (cond (has_no_effect k (meanings ps)) (no_effect node) (role_by node k (meanings ps)))
kind_kept node k ps = either_kept (has_no_effect k (meanings ps)) (role_kept node (kind.TsTypeAliasDecl false) []) (role_kept node k ps)

step_kept : (node : Node) (k : Kind) (ps : List Part) → MeansKept (meaning_by node k (meanings ps))
step_kept node kind.ParenExpr (e ∷ []) = ending_kept e.0 e.1
step_kept node kind.TsAsExpr (e ∷ type ∷ []) = e.1
step_kept node kind.TsTypeAssertion (e ∷ type ∷ []) = e.1
step_kept node kind.TsConstAssertion (e ∷ []) = e.1
step_kept node kind.TsNonNullExpr (e ∷ []) = e.1
step_kept node kind.TsInstantiation (e ∷ types ∷ []) = e.1
step_kept node kind.TsSatisfiesExpr (e ∷ type ∷ []) = e.1
step_kept node kind.TsTypeAnn ps = absent_kept node
step_kept node kind.TsTypeParamDecl ps = absent_kept node
step_kept node kind.TsTypeParamInstantiation ps = absent_kept node
step_kept node kind.TsQualifiedName (left ∷ right ∷ []) = role_kept node kind.MemberExpr (left ∷ right ∷ [])
step_kept node (kind.TsImportEqualsDecl false false) (name ∷ source ∷ []) = constant_kept node name source
step_kept node (kind.TsImportEqualsDecl true false) (name ∷ source ∷ []) =
    either_kept source.0.is_required (constant_kept node name (set_export node name.0 source.0, set_export_kept node name source))
    (role_kept node kind.ExportDecl ((constant_meaning node name.0 source.0, constant_kept node name source) ∷ []))
step_kept node (kind.TsEnumDecl false is_const) (name ∷ members ∷ []) = enum_kept node is_const name members
step_kept node kind.TsEnumMember (name ∷ init ∷ []) = member_kept node name init
step_kept node k ps = kind_kept node k ps

abbrev parts : List ((n : Node) × MeansKept (meaning n)) → List Part
parts ns = map (λ e. (meaning e.0, e.1)) ns

meanings_of_parts : (ns : List ((n : Node) × MeansKept (meaning n))) → meanings (parts ns) ≡ map meaning (map (λ e. e.0) ns)
meanings_of_parts [] = refl
meanings_of_parts (n ∷ ns) = ap (λ l. meaning n.0 ∷ l) (meanings_of_parts ns)

step : (x : Node-F Node) (ns : List ((n : Node) × MeansKept (meaning n))) → map (λ e. e.0) ns ≡ x.children → MeansKept (meaning (roll-Node x))
step x ns same =
    subst MeansKept (ap (meaning_by (roll-Node x) x.kind) (meanings_of_parts ns ∙ ap (map meaning) same) ∙ sym (meaning-roll x)) (step_kept (roll-Node x) x.kind (parts ns))

-- each node
pub means_kept : (n : Node) → MeansKept (meaning n)
means_kept = ind-Node (λ n. MeansKept (meaning n)) (λ x y same. step x y.children (ap (λ z. z.children) same))
