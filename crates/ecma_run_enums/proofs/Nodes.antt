-- A node means the same where its children do, by its kind.
use Rattle.std.proofs.Common.{◌≡◌, refl, sym, ap, ap₂, ◌∙◌, ℕ, List, [], ◌∷◌, map, Option, Some, None, Bool, true, false, cond, codes, is_some, ◌&&◌}
use Rattle.std.specs.List.{list_all, list_any}
use Rattle.std.proofs.lemmas.Bool.{false≢true}
use Rattle.ecma_enums.specs.KnownReads.{value_of}
use Rattle.ecma_enums.specs.declared.record.TsEnumRecordEntry.{TsEnumRecordEntry}
use Rattle.ecma_enums.specs.declared.value.TsEnumRecordValue.{TsEnumRecordValue}
use Rattle.ecma_kind.specs.declared.kind.Kind.{Kind}
use Rattle.ecma_kind.specs.declared.kind.Kind.TheVariants as kind
use Rattle.ecma_kind.specs.declared.operators.AssignOp.TheVariants.{Assign}
use Rattle.ecma_kind.specs.declared.operators.BinaryOp.TheVariants.{LogicalOr}
use Rattle.ecma_kind.specs.declared.operators.VarDeclKind.TheVariants.{Const}
use Rattle.ecma_tree.specs.declared.node.Node.{Node}
use Rattle.ecma_runs.specs.Values.{Value, Undefined}
use Rattle.ecma_runs.specs.State.{Id, Binding, Activation}
use Rattle.ecma_runs.specs.Run.{Run, ◌>>=◌, give, when, returned_by, spend}
use Rattle.ecma_runs.specs.Environment.{Reference, ToFree, empty, fill, is_among, new_environment}
use Rattle.ecma_runs.specs.Enums.{Enums, as_value, is_enum, name_of}
use Rattle.ecma_runs.specs.Meaning.{ExecutionContext, inside, Evaluation, Meaning}
use Rattle.ecma_runs.specs.Functions.{pass_function}
use Rattle.ecma_runs.specs.Declarations.{has_no_effect}
use Rattle.ecma_runs.specs.Classes.{body_of}
use Rattle.ecma_runs.specs.Evaluation.{in_record, as_it_is, called_with, called_block, completed_of, role_by, ending_chain, no_effect, free_meaning, text_key, constant_meaning, set_export, variable_reference, write_of, variable_meaning, value_meaning, set_by, known_member, is_known_text, member_value, set_member_by, member_by, member_meaning, leaves_out, is_left_out, members_meaning, called_function, enum_part_by, enum_meaning, meaning_by}
use Rattle.ecma_run_enums.specs.Laws.{MeansTheSame}
use Rattle.ecma_run_enums.proofs.Two.{Two, first, second, Part, meanings}
use Rattle.ecma_run_enums.proofs.Functions.{read_same, write_same}
use Rattle.ecma_run_enums.proofs.Expressions.{Unasked, value_same, reference_same, written_same, chain_same, test_same, initial_same, link_same, arguments_same, elements_same, texts_same, key_same}
use Rattle.ecma_run_enums.proofs.Patterns.{assigned_same, targets_same, matched_same, bound_same, parameters_same}
use Rattle.ecma_run_enums.proofs.Statements.{completion_same, members_same, last_same, varied_same, hoisted_same, caught_same, effect_same, switched_same, selected_same}
use Rattle.ecma_run_enums.proofs.Classes.{made_same, default_made_same, body_same, code_same, class_made_same, defined_same, fields_same, statics_same}

-- ---- records of code, and blocks of namespaces

module _ (t : Two) where
  -- what code does in both
  abbrev Does : Evaluation (Unit {0}) → Type 0
  Does code = (x : ExecutionContext) → code (first t x) ≡ code (second t x)

  in_record_same : (bindings : List Binding) (o : Option Activation) (code : Evaluation (Unit {0})) → Does code → (x : ExecutionContext)
      → in_record bindings o code as_it_is (first t x) ≡ in_record bindings o code as_it_is (second t x)
  in_record_same bindings o code does x = λ i. new_environment bindings o >>= λ place. returned_by (λ _. Undefined) (does (inside x place) i) >>= λ v. as_it_is place.place v

  called_block_same : (x : ExecutionContext) (node : Node) (items : Part t) → called_block node items.0 (first t x) ≡ called_block node items.0 (second t x)
  called_block_same x node items =
      λ i. new_environment [] None >>= λ place. pass_function node (inside x place) >>= λ function. spend >>= λ _.
      in_record_same [] (Some (called_with Undefined function None [])) (body_of node kind.BlockStmt (items.0 ∷ []) []) (λ y. body_same t y node kind.BlockStmt (items ∷ []) [] tt) (inside x place) i >>= λ _. give tt

  completed_same : (x : ExecutionContext) (node : Node) (k : Kind) (ps : List (Part t)) → completed_of node k (meanings t ps) (first t x) ≡ completed_of node k (meanings t ps) (second t x)
  completed_same x node kind.TsModuleBlock (items ∷ []) = λ i. when items.0.is_type (give tt) (called_block_same x node items i)
  completed_same x node k ps = completion_same t x k ps

-- ---- nodes

abbrev pub Same : Two → Meaning → Type 0
Same t m = MeansTheSame t.one t.other m

pub role_same : (t : Two) (node : Node) (k : Kind) (ps : List (Part t)) → Unasked t node k → Same t (role_by node k (meanings t ps))
role_same t node k ps h = record {
  value = λ x. value_same t x node k ps h;
  reference = λ x. reference_same t x node k ps h;
  written = λ x. written_same t x node k ps h;
  assigned = λ get x. assigned_same t x node k ps get h;
  initial = λ x. initial_same t x node k ps h;
  arguments = λ x. arguments_same t x node k ps h;
  elements = λ x. elements_same t x node k ps h;
  texts = λ x. texts_same t x node k ps h;
  key = λ x. key_same t x k ps;
  chain = λ x. chain_same t x node k ps h;
  link = λ optional x. link_same t x k ps optional;
  bound = λ v x. bound_same t x k ps v;
  matched = λ v x. matched_same t x k ps v;
  targets = λ v x. targets_same t x k ps v;
  parameters = λ arguments x. parameters_same t x k ps arguments;
  completion = λ x. completed_same t x node k ps;
  member = λ leaves_out ids x. members_same t x k ps leaves_out ids;
  varied = λ x. varied_same t x k ps;
  hoisted = λ x. hoisted_same t x k ps;
  last = λ x. last_same t x k ps;
  effect = λ x. effect_same t x node k ps h;
  test = λ x. test_same t x node k ps h;
  caught = λ v x. caught_same t x k ps v;
  switched = λ v x. switched_same t x k ps v;
  selected = λ o x. selected_same t x k ps o;
  made = λ sort home x. made_same t x node k ps sort home;
  default_made = λ x. default_made_same t x k ps;
  class_made = λ names x. class_made_same t x node k ps names;
  defined = λ class object x. defined_same t x node k ps class object h;
  fields = λ keys object x. fields_same t x k ps keys object;
  statics = λ keys class x. statics_same t x k ps keys class;
  code = λ arguments x. code_same t x k ps arguments;
  body = λ names x. body_same t x node k ps names h;
}

either_same : (t : Two) (b : Bool) {m m' : Meaning} → Same t m → Same t m' → Same t (cond b m m')
either_same t true h g = h
either_same t false h g = g

-- a meaning of which some roles are others
others_same : (t : Two) (m : Meaning) → Same t m → {value : Evaluation Value} {reference : Evaluation Reference} {assigned : Run Value → Evaluation Value} {completion : Evaluation (Unit {0})} {member : Bool → List Id → Evaluation (Unit {0})}
    → ((x : ExecutionContext) → value (first t x) ≡ value (second t x)) → ((x : ExecutionContext) → reference (first t x) ≡ reference (second t x))
    → ((get : Run Value) (x : ExecutionContext) → assigned get (first t x) ≡ assigned get (second t x)) → ((x : ExecutionContext) → completion (first t x) ≡ completion (second t x))
    → ((leaves_out : Bool) (ids : List Id) (x : ExecutionContext) → member leaves_out ids (first t x) ≡ member leaves_out ids (second t x))
    → Same t (record m { value = value; reference = reference; assigned = assigned; completion = completion; member = member })
others_same t m h value reference assigned completion member = record {
  value = value;
  reference = reference;
  written = h.written;
  assigned = assigned;
  initial = h.initial;
  arguments = h.arguments;
  elements = h.elements;
  texts = h.texts;
  key = h.key;
  chain = h.chain;
  link = h.link;
  bound = h.bound;
  matched = h.matched;
  targets = h.targets;
  parameters = h.parameters;
  completion = completion;
  member = member;
  varied = h.varied;
  hoisted = h.hoisted;
  last = h.last;
  effect = h.effect;
  test = h.test;
  caught = h.caught;
  switched = h.switched;
  selected = h.selected;
  made = h.made;
  default_made = h.default_made;
  class_made = h.class_made;
  defined = h.defined;
  fields = h.fields;
  statics = h.statics;
  code = h.code;
  body = h.body;
}

ending_same : (t : Two) (m : Meaning) → Same t m → Same t (ending_chain m)
ending_same t m h = record {
  value = h.value;
  reference = h.reference;
  written = h.written;
  assigned = h.assigned;
  initial = h.initial;
  arguments = h.arguments;
  elements = h.elements;
  texts = h.texts;
  key = h.key;
  chain = λ x i. h.reference x i >>= λ r. give (Some r);
  link = h.link;
  bound = h.bound;
  matched = h.matched;
  targets = h.targets;
  parameters = h.parameters;
  completion = h.completion;
  member = h.member;
  varied = h.varied;
  hoisted = h.hoisted;
  last = h.last;
  effect = h.effect;
  test = h.test;
  caught = h.caught;
  switched = h.switched;
  selected = h.selected;
  made = h.made;
  default_made = h.default_made;
  class_made = h.class_made;
  defined = h.defined;
  fields = h.fields;
  statics = h.statics;
  code = h.code;
  body = h.body;
}

module _ (t : Two) (node : Node) where
  absent_same : Same t (role_by node kind.Absent [])
  absent_same = role_same t node kind.Absent [] tt

  abbrev role : (k : Kind) (ps : List (Part t)) → Unasked t node k → Part t
  role k ps h = (role_by node k (meanings t ps), role_same t node k ps h)

  -- a free name, and a key of the text of a name

  free_same : (name : List ℕ) → Same t (free_meaning node name)
  free_same name =
      let h = absent_same in
      others_same t (role_by node kind.Absent []) h (λ x. read_same t x (ToFree name)) (λ x. refl) h.assigned h.completion h.member

  text_key_same : (name : Meaning) → Same t (text_key node name)
  text_key_same name = let h = absent_same in record {
    value = h.value;
    reference = h.reference;
    written = h.written;
    assigned = h.assigned;
    initial = h.initial;
    arguments = h.arguments;
    elements = h.elements;
    texts = h.texts;
    key = λ x. refl;
    chain = h.chain;
    link = h.link;
    bound = h.bound;
    matched = h.matched;
    targets = h.targets;
    parameters = h.parameters;
    completion = h.completion;
    member = h.member;
    varied = h.varied;
    hoisted = h.hoisted;
    last = h.last;
    effect = h.effect;
    test = h.test;
    caught = h.caught;
    switched = h.switched;
    selected = h.selected;
    made = h.made;
    default_made = h.default_made;
    class_made = h.class_made;
    defined = h.defined;
    fields = h.fields;
    statics = h.statics;
    code = h.code;
    body = h.body;
  }

  constant_same : (name value : Part t) → Same t (constant_meaning node name.0 value.0)
  constant_same name value =
      role_same t node (kind.VarDecl Const false) (role kind.List (role (kind.VarDeclarator false) (role kind.BindingIdent (name ∷ role kind.Absent [] tt ∷ []) tt ∷ value ∷ []) tt ∷ []) tt ∷ []) tt

  set_export_same : Unasked t node kind.MemberExpr → (name value : Part t) → Same t (set_export node name.0 value.0)
  set_export_same h name value =
      role_same t node (kind.AssignExpr Assign) (role kind.MemberExpr ((free_meaning node (codes "exports"), free_same (codes "exports")) ∷ (text_key node name.0, text_key_same name.0) ∷ []) h ∷ value ∷ []) tt

-- ---- enums, where the same is known of them

abbrev pub KnowsSame : Two → Type 0
KnowsSame t = (t.one.members ≡ t.other.members) × (t.one.unwritten ≡ t.other.unwritten)

-- what is asked of it, by its two parts

abbrev known_among : List TsEnumRecordEntry → List Id → List ℕ → Option TsEnumRecordValue
known_among es [] text = None
known_among es (of ∷ ids) text = value_of false es (Some (name_of of)) (Some text)

known_is : (enums : Enums) (ids : List Id) (text : List ℕ) → known_member enums ids text ≡ known_among enums.members ids text
known_is enums [] text = refl
known_is enums (of ∷ ids) text = refl

member_known : (t : Two) → KnowsSame t → (ids : List Id) (text : List ℕ) → known_member t.one ids text ≡ known_member t.other ids text
member_known t e ids text = known_is t.one ids text ∙ (ap (λ es. known_among es ids text) e.0 ∙ sym (known_is t.other ids text))

left_out : (t : Two) → KnowsSame t → (is_const : Bool) (ids : List Id) → leaves_out is_const t.one ids ≡ leaves_out is_const t.other ids
left_out t e is_const ids = ap (λ unwritten. is_const && list_any (λ id. is_among id unwritten) ids) e.1

all_known : (t : Two) → KnowsSame t → (ids : List Id) (texts : List (List ℕ)) → list_all (λ text. is_some (known_member t.one ids text)) texts ≡ list_all (λ text. is_some (known_member t.other ids text)) texts
all_known t e ids [] = refl
all_known t e ids (text ∷ texts) = ap₂ (λ o b. is_some o && b) (member_known t e ids text) (all_known t e ids texts)

all_left_out : (t : Two) → KnowsSame t → (is_const : Bool) (ids : List Id) (texts : List (List ℕ)) → is_left_out is_const t.one ids texts ≡ is_left_out is_const t.other ids texts
all_left_out t e is_const ids texts = ap₂ (λ a b. a && b) (left_out t e is_const ids) (all_known t e ids texts)

module _ (t : Two) (node : Node) (reads : Unasked t node kind.MemberExpr) (known : KnowsSame t) where
  variable_is : (ids : List Id) (x : ExecutionContext) → variable_reference ids (first t x) ≡ variable_reference ids (second t x)
  variable_is [] x = refl
  variable_is (id ∷ ids) x = refl

  write_of_same : (ids : List Id) (get : Run Value) (x : ExecutionContext) → write_of (variable_reference ids) get (first t x) ≡ write_of (variable_reference ids) get (second t x)
  write_of_same ids get x = λ i. variable_is ids x i >>= λ r. get >>= λ v. write_same t x r v i >>= λ _. give v

  variable_same : (ids : List Id) → Same t (variable_meaning node ids)
  variable_same ids =
      let h = absent_same t node in
      others_same t (role_by node kind.Absent []) h (λ x i. variable_is ids x i >>= λ r. read_same t x r i) (λ x. variable_is ids x) (λ get x. write_of_same ids get x) h.completion h.member

  -- an expression with a value
  valued_same : (value : Evaluation Value) → ((x : ExecutionContext) → value (first t x) ≡ value (second t x)) → Same t (value_meaning node value)
  valued_same value gives = let h = absent_same t node in others_same t (role_by node kind.Absent []) h gives h.reference h.assigned h.completion h.member

  abbrev variable_part : List Id → Part t
  variable_part ids = (variable_meaning node ids, variable_same ids)

  abbrev text_part : List ℕ → Part t
  text_part text = role t node (kind.Str text None) [] tt

  abbrev member_part : Part t → Part t → Part t
  member_part object e = role t node kind.MemberExpr (object ∷ role t node kind.ComputedPropName (e ∷ []) tt ∷ []) reads

  abbrev set_part : Part t → Part t → Part t → Part t
  set_part object e v = role t node (kind.AssignExpr Assign) (member_part object e ∷ v ∷ []) tt

  set_same : (is_text : Bool) (enum : Part t) (text : List ℕ) (v : Part t) → Same t (set_by is_text node enum.0 text v.0)
  set_same true enum text v = (set_part enum (text_part text) v).1
  set_same false enum text v = (set_part enum (set_part enum (text_part text) v) (text_part text)).1

  member_value_same : (init : Part t) (known : Option TsEnumRecordValue) → Same t (member_value node init.0 known)
  member_value_same init None = valued_same init.0.initial init.1.initial
  member_value_same init (Some v) = valued_same (λ x. give (as_value v)) (λ x. refl)

  set_member_same : (ids : List Id) (text : List ℕ) (known : Option TsEnumRecordValue) (init : Part t) (x : ExecutionContext)
      → set_member_by node ids text known init.0 (first t x) ≡ set_member_by node ids text known init.0 (second t x)
  set_member_same ids text known init x =
      let value : Part t = (member_value node init.0 known, member_value_same init known) in
      let set : Part t = (set_by (is_known_text known) node (variable_meaning node ids) text value.0, set_same (is_known_text known) (variable_part ids) text value) in
      (role_same t node kind.ExprStmt (set ∷ []) tt).completion x

  -- by what is known of a member
  abbrev member_with : Bool → List Id → List ℕ → Meaning → Option TsEnumRecordValue → Evaluation (Unit {0})
  member_with out ids text init o x = when (out && is_some o) (give tt) (set_member_by node ids text o init x)

  member_by_same : (init : Part t) (o : Option (List ℕ)) (out : Bool) (ids : List Id) (x : ExecutionContext) → member_by node out ids init.0 o (first t x) ≡ member_by node out ids init.0 o (second t x)
  member_by_same init None out ids x = refl
  member_by_same init (Some text) out ids x =
      (λ i. when (out && is_some (known_member t.one ids text)) (give tt) (set_member_same ids text (known_member t.one ids text) init x i))
      ∙ ap (λ o. member_with out ids text init.0 o (second t x)) (member_known t known ids text)

  pub member_same : (name init : Part t) → Same t (member_meaning node name.0 init.0)
  member_same name init =
      let h = role_same t node kind.TsEnumMember (name ∷ init ∷ []) tt in
      others_same t (role_by node kind.TsEnumMember (name.0 ∷ init.0 ∷ [])) h h.value h.reference h.assigned h.completion (λ out ids x. member_by_same init name.0.text out ids x)

  written_members_same : (is_const : Bool) (ids : List Id) (members : Part t) → Same t (members_meaning node is_const ids members.0)
  written_members_same is_const ids members =
      let h = role_same t node kind.List [] tt in
      others_same t (role_by node kind.List []) h h.value h.reference h.assigned
      (λ x. members.1.member (leaves_out is_const t.one ids) ids x ∙ ap (λ b. members.0.member b ids (second t x)) (left_out t known is_const ids)) h.member

  abbrev members_part : Bool → List Id → Part t → Part t
  members_part is_const ids members = (members_meaning node is_const ids members.0, written_members_same is_const ids members)

  abbrev function_part : Bool → Part t → List Id → Part t → Part t
  function_part is_const name ids members =
      role t node (kind.Function false false)
      (role t node kind.List (role t node kind.Param (role t node kind.BindingIdent (name ∷ role t node kind.Absent [] tt ∷ []) tt ∷ []) tt ∷ []) tt
      ∷ role t node kind.BlockStmt (members_part is_const ids members ∷ []) tt ∷ role t node kind.Absent [] tt ∷ role t node kind.Absent [] tt ∷ []) tt

  abbrev object_part : List Id → Part t
  object_part ids =
      role t node (kind.BinExpr LogicalOr)
      (variable_part ids ∷ role t node (kind.AssignExpr Assign) (variable_part ids ∷ role t node kind.ObjectLit (role t node kind.List [] tt ∷ []) tt ∷ []) tt ∷ []) tt

  called_function_same : (function arguments : Part t) (x : ExecutionContext) → called_function node function.0 arguments.0 (first t x) ≡ called_function node function.0 arguments.0 (second t x)
  called_function_same function arguments x =
      λ i. new_environment [] None >>= λ place. pass_function node (inside x place) >>= λ f. arguments.1.arguments x i >>= λ vs. spend >>= λ _.
      in_record_same t (map (empty false) function.0.parameter_names) (Some (called_with Undefined f None vs)) (function.0.code vs) (function.1.code vs) (inside x place) i >>= λ _. give tt

  part_same : (is_const : Bool) (name : Part t) (ids : List Id) (texts : List (List ℕ)) (members : Part t) (x : ExecutionContext)
      → enum_part_by node is_const name.0 ids texts members.0 (first t x) ≡ enum_part_by node is_const name.0 ids texts members.0 (second t x)
  part_same is_const name ids texts members x =
      λ i. fill x.scope ids >>= λ _. when (all_left_out t known is_const ids texts i) (give tt)
      (called_function_same (function_part is_const name ids members) (role t node kind.List (object_part ids ∷ []) tt) x i)

  pub enum_same : (is_const : Bool) (name members : Part t) → Same t (enum_meaning node is_const name.0 members.0)
  enum_same is_const name members =
      let h = role_same t node (kind.TsEnumDecl false is_const) (name ∷ members ∷ []) tt in
      others_same t (role_by node (kind.TsEnumDecl false is_const) (name.0 ∷ members.0 ∷ [])) h h.value h.reference h.assigned
      (λ x. part_same is_const name name.0.names members.0.member_texts members x) h.member

-- ---- by kind

-- what a node asks has the same answer
pub record Silent (t : Two) (node : Node) (k : Kind) : Type 0 where
  pub reads : Unasked t node kind.MemberExpr
  pub here : Unasked t node k
  pub known : is_enum k ≡ true → KnowsSame t

kind_same : (t : Two) (node : Node) (k : Kind) (ps : List (Part t)) → Unasked t node k → Same t (cond (has_no_effect k (meanings t ps)) (no_effect node) (role_by node k (meanings t ps)))
kind_same t node k ps h = either_same t (has_no_effect k (meanings t ps)) (role_same t node (kind.TsTypeAliasDecl false) [] tt) (role_same t node k ps h)

pub step_same : (t : Two) (node : Node) (k : Kind) (ps : List (Part t)) → Silent t node k → Same t (meaning_by node k (meanings t ps))
step_same t node kind.ParenExpr (e ∷ []) h = ending_same t e.0 e.1
step_same t node kind.TsAsExpr (e ∷ type ∷ []) h = e.1
step_same t node kind.TsTypeAssertion (e ∷ type ∷ []) h = e.1
step_same t node kind.TsConstAssertion (e ∷ []) h = e.1
step_same t node kind.TsNonNullExpr (e ∷ []) h = e.1
step_same t node kind.TsInstantiation (e ∷ types ∷ []) h = e.1
step_same t node kind.TsSatisfiesExpr (e ∷ type ∷ []) h = e.1
step_same t node kind.TsTypeAnn ps h = absent_same t node
step_same t node kind.TsTypeParamDecl ps h = absent_same t node
step_same t node kind.TsTypeParamInstantiation ps h = absent_same t node
step_same t node kind.TsQualifiedName (left ∷ right ∷ []) h = role_same t node kind.MemberExpr (left ∷ right ∷ []) h.reads
step_same t node (kind.TsImportEqualsDecl false false) (name ∷ source ∷ []) h = constant_same t node name source
step_same t node (kind.TsImportEqualsDecl true false) (name ∷ source ∷ []) h =
    either_same t source.0.is_required (constant_same t node name (set_export node name.0 source.0, set_export_same t node h.reads name source))
    (role_same t node kind.ExportDecl ((constant_meaning node name.0 source.0, constant_same t node name source) ∷ []) tt)
step_same t node (kind.TsEnumDecl false is_const) (name ∷ members ∷ []) h = enum_same t node h.reads (h.known refl) is_const name members
step_same t node kind.TsEnumMember (name ∷ init ∷ []) h = member_same t node h.reads (h.known refl) name init
step_same t node k ps h = kind_same t node k ps h.here

-- what has no effect wherever it stands means nothing
pub effectless : (node : Node) (k : Kind) (ms : List Meaning) → has_no_effect k ms ≡ true → meaning_by node k ms ≡ no_effect node
effectless node kind.ParenExpr (e ∷ []) h = absurd (false≢true h)
effectless node kind.TsAsExpr (e ∷ type ∷ []) h = absurd (false≢true h)
effectless node kind.TsTypeAssertion (e ∷ type ∷ []) h = absurd (false≢true h)
effectless node kind.TsConstAssertion (e ∷ []) h = absurd (false≢true h)
effectless node kind.TsNonNullExpr (e ∷ []) h = absurd (false≢true h)
effectless node kind.TsInstantiation (e ∷ types ∷ []) h = absurd (false≢true h)
effectless node kind.TsSatisfiesExpr (e ∷ type ∷ []) h = absurd (false≢true h)
effectless node kind.TsTypeAnn ms h = absurd (false≢true h)
effectless node kind.TsTypeParamDecl ms h = absurd (false≢true h)
effectless node kind.TsTypeParamInstantiation ms h = absurd (false≢true h)
effectless node kind.TsQualifiedName (left ∷ right ∷ []) h = absurd (false≢true h)
effectless node (kind.TsImportEqualsDecl false false) (name ∷ source ∷ []) h = absurd (false≢true h)
effectless node (kind.TsImportEqualsDecl true false) (name ∷ source ∷ []) h = absurd (false≢true h)
effectless node (kind.TsEnumDecl false is_const) (name ∷ members ∷ []) h = absurd (false≢true h)
effectless node kind.TsEnumMember (name ∷ init ∷ []) h = absurd (false≢true h)
effectless node k ms h = ap (λ b. cond b (no_effect node) (role_by node k ms)) h

pub no_effect_same : (t : Two) (node : Node) → Same t (no_effect node)
no_effect_same t node = role_same t node (kind.TsTypeAliasDecl false) [] tt
