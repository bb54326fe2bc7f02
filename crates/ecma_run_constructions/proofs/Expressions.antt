-- What expressions do keeps it so where what their parts do does: a line for each kind and role.
use Rattle.std.proofs.Common.{ℕ, List, [], ◌∷◌, ◌++◌, map, Option, Some, None, Bool, true, false, ◌&&◌, cond, bytes_eq, codes}
use Rattle.ecma_number.specs.Text.{text_of}
use Rattle.ecma_kind.specs.declared.kind.Kind.{Kind}
use Rattle.ecma_kind.specs.declared.kind.Kind.TheVariants as kind
use Rattle.ecma_kind.specs.declared.operators.AssignOp.{AssignOp}
use Rattle.ecma_kind.specs.declared.operators.AssignOp.TheVariants as operation
use Rattle.ecma_kind.specs.declared.operators.BinaryOp.{BinaryOp}
use Rattle.ecma_kind.specs.declared.operators.BinaryOp.TheVariants as binary
use Rattle.ecma_kind.specs.declared.operators.MetaPropKind.TheVariants.{NewTarget, ImportMeta}
use Rattle.ecma_kind.specs.declared.operators.UnaryOp.{UnaryOp}
use Rattle.ecma_kind.specs.declared.operators.UnaryOp.TheVariants as operator
use Rattle.ecma_kind.specs.declared.operators.UpdateOp.{UpdateOp}
use Rattle.ecma_tree.specs.declared.node.Node.{Node}
use Rattle.ecma_runs.specs.declared.shown.ErrorKind.TheVariants as error
use Rattle.ecma_runs.specs.Values.{Value, Undefined, Null, Truth, Number, Text, Own, Host, Error, truth_of, is_nullish}
use Rattle.ecma_runs.specs.State.{Id, Sort, Plain, Arrow, Ordinary}
use Rattle.ecma_runs.specs.Run.{Run, ◌>>=◌, give}
use Rattle.ecma_runs.specs.Environment.{Reference, ToVariable, ToFree, ToMember, ToSuper, ToImportMeta, ToMetaMember, ToValue, empty}
use Rattle.ecma_runs.specs.Enums.{Reading, Unknown, Constant, Expected, enum_of, is_data, is_hidden, member_reading, reading}
use Rattle.ecma_runs.specs.Meaning.{ExecutionContext, inside, Evaluation, Meaning}
use Rattle.ecma_runs.specs.Operators.{text_from, number_from, key_from, binary_value, operator_of, short_circuit, logical_operator_of, unary_value, updated}
use Rattle.ecma_runs.specs.Functions.{Callee, read, read_object}
use Rattle.ecma_runs.specs.Expressions.{expected, known_reference, variable_named, own_member, named, written_name, identifier, written_identifier, member_of, member_reference, read_member, super_reference, chained, call_by, is_in, applied, binary_rest, logical_rest, compound_rest, assign, unary, update, sequence, interleaved, function_value, value_of, reference_of, written_of, continued, callee_is_nullish, member_link, call_link, link_of, chain_of, initial_of, all_arguments, arguments_of, all_elements, elements_of, all_texts, texts_of, key_of, test_of}
use Rattle.ecma_run_constructions.proofs.Keeping.{Keeps, bind, give_keeps, throw_keeps, outside_keeps, when_keeps, given_keeps, catching_keeps}
use Rattle.ecma_run_constructions.proofs.States.{new_environment_keeps, resolved_keeps, set_all_keeps, activation_keeps, this_keeps, new_object_keeps, found_from_keeps, super_base_keeps, has_member_keeps, instance_of_keeps, type_of_keeps}
use Rattle.ecma_run_constructions.proofs.Functions.{Sound, read_keeps, write_keeps, read_object_keeps, read_typed_keeps, delete_keeps, callee_by_keeps, call_keeps, construct_keeps, super_call_keeps, make_function_keeps, new_regular_expression_keeps}

-- in each role
pub record MeansKept (m : Meaning) : Type 0 where
  pub value : (x : ExecutionContext) → Sound x.functions → Keeps (m.value x)
  pub reference : (x : ExecutionContext) → Sound x.functions → Keeps (m.reference x)
  pub written : (x : ExecutionContext) → Sound x.functions → Keeps (m.written x)
  pub assigned : {get : Run Value} → Keeps get → (x : ExecutionContext) → Sound x.functions → Keeps (m.assigned get x)
  pub initial : (x : ExecutionContext) → Sound x.functions → Keeps (m.initial x)
  pub arguments : (x : ExecutionContext) → Sound x.functions → Keeps (m.arguments x)
  pub elements : (x : ExecutionContext) → Sound x.functions → Keeps (m.elements x)
  pub texts : (x : ExecutionContext) → Sound x.functions → Keeps (m.texts x)
  pub key : (x : ExecutionContext) → Sound x.functions → Keeps (m.key x)
  pub chain : (x : ExecutionContext) → Sound x.functions → Keeps (m.chain x)
  pub link : (optional : Bool) (x : ExecutionContext) → Sound x.functions → Keeps (m.link optional x)
  pub bound : (v : Value) (x : ExecutionContext) → Sound x.functions → Keeps (m.bound v x)
  pub matched : (v : Value) (x : ExecutionContext) → Sound x.functions → Keeps (m.matched v x)
  pub targets : (v : Value) (x : ExecutionContext) → Sound x.functions → Keeps (m.targets v x)
  pub parameters : (vs : List Value) (x : ExecutionContext) → Sound x.functions → Keeps (m.parameters vs x)
  pub completion : (x : ExecutionContext) → Sound x.functions → Keeps (m.completion x)
  pub member : (leaves_out : Bool) (ids : List Id) (x : ExecutionContext) → Sound x.functions → Keeps (m.member leaves_out ids x)
  pub varied : (x : ExecutionContext) → Sound x.functions → Keeps (m.varied x)
  pub hoisted : (x : ExecutionContext) → Sound x.functions → Keeps (m.hoisted x)
  pub last : (x : ExecutionContext) → Sound x.functions → Keeps (m.last x)
  pub effect : (x : ExecutionContext) → Sound x.functions → Keeps (m.effect x)
  pub test : (x : ExecutionContext) → Sound x.functions → Keeps (m.test x)
  pub caught : (v : Value) (x : ExecutionContext) → Sound x.functions → Keeps (m.caught v x)
  pub switched : (v : Value) (x : ExecutionContext) → Sound x.functions → Keeps (m.switched v x)
  pub selected : (o : Option Value) (x : ExecutionContext) → Sound x.functions → Keeps (m.selected o x)
  pub made : (sort : Sort) (home : Option ℕ) (x : ExecutionContext) → Sound x.functions → Keeps (m.made sort home x)
  pub default_made : (x : ExecutionContext) → Sound x.functions → Keeps (m.default_made x)
  pub class_made : (names : List Id) (x : ExecutionContext) → Sound x.functions → Keeps (m.class_made names x)
  pub defined : (class object : ℕ) (x : ExecutionContext) → Sound x.functions → Keeps (m.defined class object x)
  pub fields : (keys : List (List ℕ)) (object : Value) (x : ExecutionContext) → Sound x.functions → Keeps (m.fields keys object x)
  pub statics : (keys : List (List ℕ)) (class : Value) (x : ExecutionContext) → Sound x.functions → Keeps (m.statics keys class x)
  pub code : (vs : List Value) (x : ExecutionContext) → Sound x.functions → Keeps (m.code vs x)
  pub body : (names : List Id) (x : ExecutionContext) → Sound x.functions → Keeps (m.body names x)

-- a meaning that keeps it so
abbrev pub Part : Type 0
Part = (m : Meaning) × MeansKept m

abbrev pub meanings : List Part → List Meaning
meanings ps = map (λ (p : Part). p.0) ps

is_in_keeps : (v w : Value) → Keeps (is_in v w)
is_in_keeps v (Own place) = bind (given_keeps (key_from v)) (λ k. has_member_keeps (Own place) k)
is_in_keeps v (Host number) = outside_keeps
is_in_keeps v (Error error_kind) = outside_keeps
is_in_keeps v _ = throw_keeps (Error error.Kind)

applied_keeps : (op : BinaryOp) (v w : Value) → Keeps (applied op v w)
applied_keeps binary.In v w = is_in_keeps v w
applied_keeps binary.InstanceOf v w = instance_of_keeps v w
applied_keeps op v w = given_keeps (binary_value op v w)

expected_keeps : (v : Value) (r : Reference) → Keeps (expected v r)
expected_keeps v (ToMember (Own place) key) = bind (found_from_keeps place key) (λ p. when_keeps (is_data v p) (give_keeps (ToValue v)) outside_keeps)
expected_keeps v _ = outside_keeps

module _ (x : ExecutionContext) (sound : Sound x.functions) where
  -- ---- names and members

  known_reference_keeps : (r : Reading) (e : Evaluation Reference) → Keeps (e x) → Keeps (known_reference r e x)
  known_reference_keeps Unknown e h = h
  known_reference_keeps (Constant v) e h = give_keeps (ToValue v)
  known_reference_keeps (Expected v) e h = bind (catching_keeps h (λ thrown. outside_keeps)) (λ r. expected_keeps v r)

  variable_keeps : (id : Id) → Keeps (variable_named id x)
  variable_keeps id = when_keeps (is_hidden x.known.enums id) outside_keeps (resolved_keeps x.scope x.known.declared id)

  own_member_keeps : (of : Id) (key : List ℕ) → Keeps (own_member of key x)
  own_member_keeps of key = bind (resolved_keeps x.scope x.known.declared of) (λ r. bind (read_object_keeps x sound r) (λ o. give_keeps (ToMember o key)))

  named_keeps : (o : Option Id) (id : Id) → Keeps (named o id x)
  named_keeps None id = variable_keeps id
  named_keeps (Some of) id = known_reference_keeps (member_reading x.known.enums of id.sym) (own_member of id.sym) (own_member_keeps of id.sym)

  written_name_keeps : (o : Option Id) (id : Id) → Keeps (written_name o id x)
  written_name_keeps None id = variable_keeps id
  written_name_keeps (Some of) id = own_member_keeps of id.sym

  pub identifier_keeps : (sym : List ℕ) (ctxt : ℕ) → Keeps (identifier sym ctxt x)
  identifier_keeps sym ctxt = named_keeps (enum_of (record { sym = sym; ctxt = ctxt }) x.known.enums.names) (record { sym = sym; ctxt = ctxt })

  written_identifier_keeps : (sym : List ℕ) (ctxt : ℕ) → Keeps (written_identifier sym ctxt x)
  written_identifier_keeps sym ctxt = written_name_keeps (enum_of (record { sym = sym; ctxt = ctxt }) x.known.enums.names) (record { sym = sym; ctxt = ctxt })

  object_member : (r : Reference) (key : Part) → Keeps (read_object x r >>= λ o. key.0.key x >>= λ k. give (ToMember o k))
  object_member r key = bind (read_object_keeps x sound r) (λ o. bind (key.1.key x sound) (λ k. give_keeps (ToMember o k)))

  member_of_keeps : (r : Reference) (key : Part) → Keeps (member_of x r (key.0.key x))
  member_of_keeps ToImportMeta key = bind (key.1.key x sound) (λ k. when_keeps (bytes_eq k (codes "url")) (give_keeps (ToMetaMember (Text x.provided.meta_url))) outside_keeps)
  member_of_keeps (ToVariable place id) key = object_member (ToVariable place id) key
  member_of_keeps (ToFree name) key = object_member (ToFree name) key
  member_of_keeps (ToMember o k) key = object_member (ToMember o k) key
  member_of_keeps (ToSuper this base k) key = object_member (ToSuper this base k) key
  member_of_keeps (ToMetaMember v) key = object_member (ToMetaMember v) key
  member_of_keeps (ToValue v) key = object_member (ToValue v) key

  member_reference_keeps : (object key : Part) → Keeps (member_reference object.0 key.0 x)
  member_reference_keeps object key = bind (object.1.reference x sound) (λ r. member_of_keeps r key)

  read_member_keeps : (node : Node) (object key : Part) → Keeps (read_member node object.0 key.0 x)
  read_member_keeps node object key = known_reference_keeps (reading x.known.enums node) (member_reference object.0 key.0) (member_reference_keeps object key)

  super_reference_keeps : (key : Part) → Keeps (super_reference key.0 x)
  super_reference_keeps key =
      activation_keeps x.scope (λ a. bind (given_keeps a.1.this) (λ receiver. bind (key.1.key x sound) (λ k. bind (given_keeps a.1.home) (λ home. bind (super_base_keeps home) (λ base. give_keeps (ToSuper receiver base k))))))

  -- ---- calls and operators

  call_by_keeps : (b : Bool) (callee arguments : Part) → Keeps (call_by b callee.0 arguments.0 x)
  call_by_keeps true callee arguments = bind (arguments.1.arguments x sound) (λ vs. super_call_keeps x sound vs)
  call_by_keeps false callee arguments = bind (callee.1.reference x sound) (λ r. bind (callee_by_keeps x sound r) (λ c. bind (arguments.1.arguments x sound) (λ vs. call_keeps x sound c vs)))

  binary_rest_keeps : (op : BinaryOp) (o : Option Bool) (v : Value) (right : Part) → Keeps (binary_rest op o v right.0 x)
  binary_rest_keeps op (Some true) v right = give_keeps v
  binary_rest_keeps op (Some false) v right = right.1.value x sound
  binary_rest_keeps op None v right = bind (right.1.value x sound) (λ w. applied_keeps op v w)

  logical_rest_keeps : (o : Option Bool) (r : Reference) (v : Value) (right : Part) → Keeps (logical_rest o r v right.0 x)
  logical_rest_keeps (Some false) r v right = bind (right.1.value x sound) (λ w. bind (write_keeps x sound r w) (λ _. give_keeps w))
  logical_rest_keeps (Some true) r v right = give_keeps v
  logical_rest_keeps None r v right = give_keeps v

  compound_rest_keeps : (o arithmetic : Option BinaryOp) (r : Reference) (v : Value) (right : Part) → Keeps (compound_rest o arithmetic r v right.0 x)
  compound_rest_keeps (Some logical) arithmetic r v right = logical_rest_keeps (short_circuit logical v) r v right
  compound_rest_keeps None (Some arithmetic) r v right = bind (right.1.value x sound) (λ w. bind (given_keeps (binary_value arithmetic v w)) (λ u. bind (write_keeps x sound r u) (λ _. give_keeps u)))
  compound_rest_keeps None None r v right = outside_keeps

  compound_keeps : (op : AssignOp) (target right : Part) → Keeps (target.0.written x >>= λ r. read x r >>= λ v. compound_rest (logical_operator_of op) (operator_of op) r v right.0 x)
  compound_keeps op target right = bind (target.1.written x sound) (λ r. bind (read_keeps x sound r) (λ v. compound_rest_keeps (logical_operator_of op) (operator_of op) r v right))

  assign_keeps : (op : AssignOp) (target right : Part) → Keeps (assign op target.0 right.0 x)
  assign_keeps operation.Assign target right = target.1.assigned (right.1.value x sound) x sound
  assign_keeps op target right = compound_keeps op target right

  unary_keeps : (op : UnaryOp) (operand : Part) → Keeps (unary op operand.0 x)
  unary_keeps operator.TypeOf operand = bind (operand.1.reference x sound) (λ r. bind (read_typed_keeps x sound r) (λ v. type_of_keeps v))
  unary_keeps operator.Delete operand = bind (operand.1.written x sound) (λ r. delete_keeps r)
  unary_keeps op operand = bind (operand.1.value x sound) (λ v. given_keeps (unary_value op v))

  update_keeps : (op : UpdateOp) (prefix : Bool) (operand : Part) → Keeps (update op prefix operand.0 x)
  update_keeps op prefix operand =
      bind (operand.1.written x sound) (λ r. bind (read_keeps x sound r) (λ v. bind (given_keeps (number_from v)) (λ old. bind (given_keeps (updated op old)) (λ new.
      bind (write_keeps x sound r (Number new)) (λ _. give_keeps (Number (cond prefix new old)))))))

  sequence_keeps : (es : List Part) → Keeps (sequence (meanings es) x)
  sequence_keeps [] = outside_keeps
  sequence_keeps (e ∷ []) = e.1.value x sound
  sequence_keeps (e ∷ f ∷ es) = bind (e.1.value x sound) (λ _. sequence_keeps (f ∷ es))

  function_value_keeps : (names : List Id) (function : Part) → Keeps (function_value names function.0 x)
  function_value_keeps names function =
      bind (new_environment_keeps (map (empty true) names) None) (λ place. bind (function.1.made Plain None (inside x place) sound) (λ f. bind (set_all_keeps names place.place (Own f)) (λ _. give_keeps (Own f))))

  -- ---- optional chains

  member_link_keeps : (optional : Bool) (v : Value) (key : Part) → Keeps (member_link optional v key.0 x)
  member_link_keeps optional v key = when_keeps (optional && is_nullish v) (give_keeps None) (bind (key.1.key x sound) (λ k. give_keeps (Some (ToMember v k))))

  call_link_keeps : (optional : Bool) (c : Callee) (arguments : Part) → Keeps (call_link optional c arguments.0 x)
  call_link_keeps optional c arguments =
      when_keeps (optional && callee_is_nullish c) (give_keeps None) (bind (arguments.1.arguments x sound) (λ vs. bind (call_keeps x sound c vs) (λ v. give_keeps (Some (ToValue v)))))

  continued_keeps : {A : Type 0} (o : Option A) {next : A → Run (Option Reference)} → ((a : A) → Keeps (next a)) → Keeps (continued o next)
  continued_keeps None h = give_keeps None
  continued_keeps (Some a) h = h a

  pub link_keeps : (k : Kind) (ps : List Part) (optional : Bool) → Keeps (link_of k (meanings ps) optional x)
  link_keeps kind.MemberExpr (object ∷ key ∷ []) optional = bind (object.1.chain x sound) (λ o. continued_keeps o (λ r. bind (read_object_keeps x sound r) (λ v. member_link_keeps optional v key)))
  link_keeps kind.OptCall (callee ∷ arguments ∷ types ∷ []) optional = bind (callee.1.chain x sound) (λ o. continued_keeps o (λ r. bind (callee_by_keeps x sound r) (λ c. call_link_keeps optional c arguments)))
  link_keeps _ ps optional = outside_keeps

  -- ---- by kind

  module _ (node : Node) where
    pub value_keeps : (k : Kind) (ps : List Part) → Keeps (value_of node k (meanings ps) x)
    value_keeps (kind.Ident sym ctxt optional) [] = bind (identifier_keeps sym ctxt) (λ r. read_keeps x sound r)
    value_keeps (kind.Str text raw) [] = give_keeps (Text text)
    value_keeps (kind.Number number raw) [] = bind (given_keeps number) (λ n. give_keeps (Number n))
    value_keeps (kind.Bool truth) [] = give_keeps (Truth truth)
    value_keeps kind.Null [] = give_keeps Null
    value_keeps kind.ThisExpr [] = this_keeps x.scope
    value_keeps (kind.Regex pattern' flags) [] = bind new_regular_expression_keeps (λ o. give_keeps (Own o))
    value_keeps kind.Tpl (expressions ∷ parts ∷ []) = bind (given_keeps parts.0.cooked) (λ ps. bind (expressions.1.texts x sound) (λ ts. give_keeps (Text (interleaved ps ts))))
    value_keeps kind.ArrayLit (elements ∷ []) = bind (elements.1.elements x sound) (λ es. bind (new_object_keeps _) (λ o. give_keeps (Own o)))
    value_keeps kind.ObjectLit (properties ∷ []) = bind (new_object_keeps (record { entries = []; prototype = None; callable = None; extent = Ordinary })) (λ o. bind (properties.1.defined o o x sound) (λ _. give_keeps (Own o)))
    value_keeps kind.FnExpr (name ∷ function ∷ []) = function_value_keeps name.0.names function
    value_keeps kind.ClassExpr (name ∷ class ∷ []) = class.1.class_made name.0.names x sound
    value_keeps (kind.ArrowExpr is_async false) ps = bind (make_function_keeps node Arrow None x) (λ f. give_keeps (Own f))
    value_keeps (kind.UnaryExpr op) (operand ∷ []) = unary_keeps op operand
    value_keeps (kind.UpdateExpr op prefix) (operand ∷ []) = update_keeps op prefix operand
    value_keeps (kind.BinExpr op) (left ∷ right ∷ []) = bind (left.1.value x sound) (λ v. binary_rest_keeps op (short_circuit op v) v right)
    value_keeps (kind.AssignExpr op) (target ∷ right ∷ []) = assign_keeps op target right
    value_keeps kind.CondExpr (test ∷ yes' ∷ no' ∷ []) = bind (test.1.value x sound) (λ v. when_keeps (truth_of v) (yes'.1.value x sound) (no'.1.value x sound))
    value_keeps kind.SeqExpr ps = sequence_keeps ps
    value_keeps kind.MemberExpr (object ∷ key ∷ []) = bind (read_member_keeps node object key) (λ r. read_keeps x sound r)
    value_keeps kind.SuperPropExpr (super ∷ key ∷ []) = bind (super_reference_keeps key) (λ r. read_keeps x sound r)
    value_keeps kind.CallExpr (callee ∷ arguments ∷ types ∷ []) = call_by_keeps callee.0.is_super callee arguments
    value_keeps kind.NewExpr (callee ∷ arguments ∷ types ∷ []) =
        bind (callee.1.reference x sound) (λ r. bind (read_object_keeps x sound r) (λ f. bind (arguments.1.arguments x sound) (λ vs. construct_keeps x sound f vs)))
    value_keeps kind.TsExternalModuleRef (source ∷ []) = bind (callee_by_keeps x sound (ToFree (codes "require"))) (λ c. bind (source.1.arguments x sound) (λ vs. call_keeps x sound c vs))
    value_keeps (kind.MetaPropExpr NewTarget) [] = activation_keeps x.scope (λ a. given_keeps a.1.new_target)
    value_keeps (kind.OptChainExpr optional) (base ∷ []) = bind (base.1.link optional x sound) (λ o. read_keeps x sound (chained o))
    value_keeps _ ps = outside_keeps

    valued : (k : Kind) (ps : List Part) → Keeps (value_of node k (meanings ps) x >>= λ v. give (ToValue v))
    valued k ps = bind (value_keeps k ps) (λ v. give_keeps (ToValue v))

    pub reference_keeps : (k : Kind) (ps : List Part) → Keeps (reference_of node k (meanings ps) x)
    reference_keeps (kind.Ident sym ctxt optional) [] = identifier_keeps sym ctxt
    reference_keeps kind.BindingIdent (id ∷ annotation ∷ []) = id.1.reference x sound
    reference_keeps kind.MemberExpr (object ∷ key ∷ []) = read_member_keeps node object key
    reference_keeps kind.SuperPropExpr (super ∷ key ∷ []) = super_reference_keeps key
    reference_keeps (kind.MetaPropExpr ImportMeta) [] = give_keeps ToImportMeta
    reference_keeps (kind.OptChainExpr optional) (base ∷ []) = bind (base.1.link optional x sound) (λ o. give_keeps (chained o))
    reference_keeps k ps = valued k ps

    pub written_keeps : (k : Kind) (ps : List Part) → Keeps (written_of node k (meanings ps) x)
    written_keeps (kind.Ident sym ctxt optional) [] = written_identifier_keeps sym ctxt
    written_keeps kind.BindingIdent (id ∷ annotation ∷ []) = id.1.written x sound
    written_keeps kind.MemberExpr (object ∷ key ∷ []) = member_reference_keeps object key
    written_keeps k ps = reference_keeps k ps

    pub chain_keeps : (k : Kind) (ps : List Part) → Keeps (chain_of node k (meanings ps) x)
    chain_keeps (kind.OptChainExpr optional) (base ∷ []) = base.1.link optional x sound
    chain_keeps k ps = bind (reference_keeps k ps) (λ r. give_keeps (Some r))

    pub initial_keeps : (k : Kind) (ps : List Part) → Keeps (initial_of node k (meanings ps) x)
    initial_keeps kind.Absent ps = give_keeps Undefined
    initial_keeps k ps = value_keeps k ps

    pub test_keeps : (k : Kind) (ps : List Part) → Keeps (test_of node k (meanings ps) x)
    test_keeps kind.Absent ps = give_keeps (Truth true)
    test_keeps k ps = value_keeps k ps

  -- ---- parts of expressions

  all_arguments_keeps : (ps : List Part) → Keeps (all_arguments (meanings ps) x)
  all_arguments_keeps [] = give_keeps []
  all_arguments_keeps (p ∷ ps) = bind (p.1.arguments x sound) (λ vs. bind (all_arguments_keeps ps) (λ ws. give_keeps (vs ++ ws)))

  all_elements_keeps : (ps : List Part) → Keeps (all_elements (meanings ps) x)
  all_elements_keeps [] = give_keeps []
  all_elements_keeps (p ∷ ps) = bind (p.1.elements x sound) (λ vs. bind (all_elements_keeps ps) (λ ws. give_keeps (vs ++ ws)))

  all_texts_keeps : (ps : List Part) → Keeps (all_texts (meanings ps) x)
  all_texts_keeps [] = give_keeps []
  all_texts_keeps (p ∷ ps) = bind (p.1.texts x sound) (λ vs. bind (all_texts_keeps ps) (λ ws. give_keeps (vs ++ ws)))

  module _ (node : Node) where
    pub arguments_keeps : (k : Kind) (ps : List Part) → Keeps (arguments_of node k (meanings ps) x)
    arguments_keeps kind.Absent ps = give_keeps []
    arguments_keeps kind.List ps = all_arguments_keeps ps
    arguments_keeps (kind.TsTypeAliasDecl declare) ps = give_keeps []
    arguments_keeps k ps = bind (value_keeps node k ps) (λ v. give_keeps (v ∷ []))

    pub elements_keeps : (k : Kind) (ps : List Part) → Keeps (elements_of node k (meanings ps) x)
    elements_keeps kind.Absent ps = give_keeps (None ∷ [])
    elements_keeps kind.List ps = all_elements_keeps ps
    elements_keeps (kind.TsTypeAliasDecl declare) ps = give_keeps []
    elements_keeps k ps = bind (value_keeps node k ps) (λ v. give_keeps (Some v ∷ []))

    pub texts_keeps : (k : Kind) (ps : List Part) → Keeps (texts_of node k (meanings ps) x)
    texts_keeps kind.List ps = all_texts_keeps ps
    texts_keeps (kind.TsTypeAliasDecl declare) ps = give_keeps []
    texts_keeps k ps = bind (value_keeps node k ps) (λ v. bind (given_keeps (text_from v)) (λ t. give_keeps (t ∷ [])))

  pub key_keeps : (k : Kind) (ps : List Part) → Keeps (key_of k (meanings ps) x)
  key_keeps (kind.IdentName sym) [] = give_keeps sym
  key_keeps (kind.Str text raw) [] = give_keeps text
  key_keeps (kind.Number number raw) [] = bind (given_keeps number) (λ n. give_keeps (text_of n))
  key_keeps kind.ComputedPropName (e ∷ []) = bind (e.1.value x sound) (λ v. given_keeps (key_from v))
  key_keeps _ ps = outside_keeps
