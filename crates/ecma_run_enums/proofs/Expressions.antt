-- What expressions do is the same where what their parts do is: a line for each kind and role.
use Rattle.std.proofs.Common.{◌≡◌, refl, sym, ap, ◌∙◌, ℕ, List, [], ◌∷◌, ◌++◌, map, Option, Some, None, Bool, true, false, ◌&&◌, cond, codes}
use Rattle.ecma_kind.specs.declared.kind.Kind.{Kind}
use Rattle.ecma_kind.specs.declared.kind.Kind.TheVariants as kind
use Rattle.ecma_kind.specs.declared.operators.AssignOp.{AssignOp}
use Rattle.ecma_kind.specs.declared.operators.AssignOp.TheVariants as operation
use Rattle.ecma_kind.specs.declared.operators.BinaryOp.{BinaryOp}
use Rattle.ecma_kind.specs.declared.operators.MetaPropKind.TheVariants.{NewTarget, ImportMeta}
use Rattle.ecma_kind.specs.declared.operators.UnaryOp.{UnaryOp}
use Rattle.ecma_kind.specs.declared.operators.UnaryOp.TheVariants as operator
use Rattle.ecma_kind.specs.declared.operators.UpdateOp.{UpdateOp}
use Rattle.ecma_tree.specs.declared.node.Node.{Node}
use Rattle.ecma_runs.specs.Values.{Value, Number, Text, Own, truth_of, is_nullish}
use Rattle.ecma_runs.specs.State.{Id, Plain, Arrow, Ordinary}
use Rattle.ecma_runs.specs.Run.{◌>>=◌, give, given, when, outside, catching}
use Rattle.ecma_runs.specs.Environment.{Reference, ToVariable, ToFree, ToMember, ToSuper, ToImportMeta, ToMetaMember, ToValue, resolved, activation, new_environment, set_all, empty}
use Rattle.ecma_runs.specs.Enums.{Reading, Unknown, Constant, Expected, enum_of, is_hidden, reading}
use Rattle.ecma_runs.specs.Meaning.{ExecutionContext, inside}
use Rattle.ecma_runs.specs.Objects.{super_base, new_object, new_array}
use Rattle.ecma_runs.specs.Members.{type_of}
use Rattle.ecma_runs.specs.Operators.{text_from, number_from, key_from, binary_value, operator_of, short_circuit, logical_operator_of, unary_value, updated}
use Rattle.ecma_runs.specs.Functions.{read, read_object, Callee, delete}
use Rattle.ecma_runs.specs.Expressions.{expected, named, written_name, identifier, written_identifier, known_reference, meta_member, member_of, member_reference, read_member, super_reference, chained, call_by, applied, binary_rest, logical_rest, compound_rest, assign, unary, update, sequence, interleaved, function_value, value_of, reference_of, written_of, continued, callee_is_nullish, member_link, call_link, link_of, chain_of, initial_of, all_arguments, arguments_of, all_elements, elements_of, all_texts, texts_of, key_of, test_of}
use Rattle.ecma_run_enums.proofs.Two.{Two, first, second, Part, meanings, assigned_by}
use Rattle.ecma_run_enums.proofs.Functions.{read_same, write_same, read_object_same, read_typed_same, callee_by_same, call_same, construct_same, super_call_same, make_function_same}

-- ---- what is asked

-- a name is no member's, and as hidden in both
abbrev pub Unnamed : Two → Id → Type 0
Unnamed t id = (enum_of id t.one.names ≡ None) × (enum_of id t.other.names ≡ None) × (is_hidden t.one id ≡ is_hidden t.other id)

-- a name, and what is read there
abbrev pub Unasked : Two → Node → Kind → Type 0
Unasked t node (kind.Ident sym ctxt optional) = Unnamed t (record { sym = sym; ctxt = ctxt })
Unasked t node kind.MemberExpr = reading t.one node ≡ reading t.other node
Unasked t node k = Unit {0}

-- ---- names and members

module _ (t : Two) (x : ExecutionContext) where
  plain_same : (id : Id) → Unnamed t id → when (is_hidden t.one id) outside (resolved x.scope x.known.declared id) ≡ when (is_hidden t.other id) outside (resolved x.scope x.known.declared id)
  plain_same id h = ap (λ b. when b outside (resolved x.scope x.known.declared id)) h.2

  named_same : (id : Id) → Unnamed t id → named (enum_of id t.one.names) id (first t x) ≡ named (enum_of id t.other.names) id (second t x)
  named_same id h = ap (λ o. named o id (first t x)) h.0 ∙ (plain_same id h ∙ sym (ap (λ o. named o id (second t x)) h.1))

  written_name_same : (id : Id) → Unnamed t id → written_name (enum_of id t.one.names) id (first t x) ≡ written_name (enum_of id t.other.names) id (second t x)
  written_name_same id h = ap (λ o. written_name o id (first t x)) h.0 ∙ (plain_same id h ∙ sym (ap (λ o. written_name o id (second t x)) h.1))

  pub identifier_same : (sym' : List ℕ) (ctxt : ℕ) → Unnamed t (record { sym = sym'; ctxt = ctxt }) → identifier sym' ctxt (first t x) ≡ identifier sym' ctxt (second t x)
  identifier_same sym' ctxt h = named_same (record { sym = sym'; ctxt = ctxt }) h

  written_identifier_same : (sym' : List ℕ) (ctxt : ℕ) → Unnamed t (record { sym = sym'; ctxt = ctxt }) → written_identifier sym' ctxt (first t x) ≡ written_identifier sym' ctxt (second t x)
  written_identifier_same sym' ctxt h = written_name_same (record { sym = sym'; ctxt = ctxt }) h

  -- a name that is read
  read_identifier_same : (sym' : List ℕ) (ctxt : ℕ) → Unnamed t (record { sym = sym'; ctxt = ctxt })
      → (identifier sym' ctxt (first t x) >>= λ r. read (first t x) r) ≡ (identifier sym' ctxt (second t x) >>= λ r. read (second t x) r)
  read_identifier_same sym' ctxt h = λ i. identifier_same sym' ctxt h i >>= λ r. read_same t x r i

  -- a member of what was referred to
  object_member : (r : Reference) (key : Part t)
      → (read_object (first t x) r >>= λ o. key.0.key (first t x) >>= λ k. give (ToMember o k)) ≡ (read_object (second t x) r >>= λ o. key.0.key (second t x) >>= λ k. give (ToMember o k))
  object_member r key = λ i. read_object_same t x r i >>= λ o. key.1.key x i >>= λ k. give (ToMember o k)

  member_of_same : (r : Reference) (key : Part t) → member_of (first t x) r (key.0.key (first t x)) ≡ member_of (second t x) r (key.0.key (second t x))
  member_of_same ToImportMeta key = λ i. key.1.key x i >>= λ k. meta_member x k
  member_of_same (ToVariable place id) key = object_member (ToVariable place id) key
  member_of_same (ToFree name) key = object_member (ToFree name) key
  member_of_same (ToMember o k) key = object_member (ToMember o k) key
  member_of_same (ToSuper this base k) key = object_member (ToSuper this base k) key
  member_of_same (ToMetaMember v) key = object_member (ToMetaMember v) key
  member_of_same (ToValue v) key = object_member (ToValue v) key

  member_reference_same : (object key : Part t) → member_reference object.0 key.0 (first t x) ≡ member_reference object.0 key.0 (second t x)
  member_reference_same object key = λ i. object.1.reference x i >>= λ r. member_of_same r key i

  known_reference_same : (r : Reading) (object key : Part t) → known_reference r (member_reference object.0 key.0) (first t x) ≡ known_reference r (member_reference object.0 key.0) (second t x)
  known_reference_same Unknown object key = member_reference_same object key
  known_reference_same (Constant v) object key = refl
  known_reference_same (Expected v) object key = λ i. catching (member_reference_same object key i) (λ thrown. outside) >>= λ r. expected v r

  read_member_same : (node : Node) → Unasked t node kind.MemberExpr → (object key : Part t) → read_member node object.0 key.0 (first t x) ≡ read_member node object.0 key.0 (second t x)
  read_member_same node h object key = known_reference_same (reading t.one node) object key ∙ ap (λ r. known_reference r (member_reference object.0 key.0) (second t x)) h

  super_reference_same : (key : Part t) → super_reference key.0 (first t x) ≡ super_reference key.0 (second t x)
  super_reference_same key =
      λ i. activation x.scope >>= λ a. given a.1.this >>= λ receiver. key.1.key x i >>= λ k. given a.1.home >>= λ home. super_base home >>= λ base. give (ToSuper receiver base k)

  -- ---- calls

  call_by_same : (b : Bool) (callee arguments : Part t) → call_by b callee.0 arguments.0 (first t x) ≡ call_by b callee.0 arguments.0 (second t x)
  call_by_same true callee arguments = λ i. arguments.1.arguments x i >>= λ vs. super_call_same t x vs i
  call_by_same false callee arguments = λ i. callee.1.reference x i >>= λ r. callee_by_same t x r i >>= λ c. arguments.1.arguments x i >>= λ vs. call_same t x c vs i

  -- ---- operators

  binary_rest_same : (op : BinaryOp) (o : Option Bool) (v : Value) (right : Part t) → binary_rest op o v right.0 (first t x) ≡ binary_rest op o v right.0 (second t x)
  binary_rest_same op (Some true) v right = refl
  binary_rest_same op (Some false) v right = right.1.value x
  binary_rest_same op None v right = λ i. right.1.value x i >>= λ w. applied op v w

  logical_rest_same : (o : Option Bool) (r : Reference) (v : Value) (right : Part t) → logical_rest o r v right.0 (first t x) ≡ logical_rest o r v right.0 (second t x)
  logical_rest_same (Some false) r v right = λ i. right.1.value x i >>= λ w. write_same t x r w i >>= λ _. give w
  logical_rest_same (Some true) r v right = refl
  logical_rest_same None r v right = refl

  compound_rest_same : (o arithmetic : Option BinaryOp) (r : Reference) (v : Value) (right : Part t) → compound_rest o arithmetic r v right.0 (first t x) ≡ compound_rest o arithmetic r v right.0 (second t x)
  compound_rest_same (Some logical) arithmetic r v right = logical_rest_same (short_circuit logical v) r v right
  compound_rest_same None (Some arithmetic) r v right = λ i. right.1.value x i >>= λ w. given (binary_value arithmetic v w) >>= λ u. write_same t x r u i >>= λ _. give u
  compound_rest_same None None r v right = refl

  compound_same : (op : AssignOp) (target right : Part t)
      → (target.0.written (first t x) >>= λ r. read (first t x) r >>= λ v. compound_rest (logical_operator_of op) (operator_of op) r v right.0 (first t x))
      ≡ (target.0.written (second t x) >>= λ r. read (second t x) r >>= λ v. compound_rest (logical_operator_of op) (operator_of op) r v right.0 (second t x))
  compound_same op target right = λ i. target.1.written x i >>= λ r. read_same t x r i >>= λ v. compound_rest_same (logical_operator_of op) (operator_of op) r v right i

  assign_same : (op : AssignOp) (target right : Part t) → assign op target.0 right.0 (first t x) ≡ assign op target.0 right.0 (second t x)
  assign_same operation.Assign target right = assigned_by t x target (right.1.value x)
  assign_same op target right = compound_same op target right

  unary_same : (op : UnaryOp) (operand : Part t) → unary op operand.0 (first t x) ≡ unary op operand.0 (second t x)
  unary_same operator.TypeOf operand = λ i. operand.1.reference x i >>= λ r. read_typed_same t x r i >>= λ v. type_of v
  unary_same operator.Delete operand = λ i. operand.1.written x i >>= λ r. delete r
  unary_same op operand = λ i. operand.1.value x i >>= λ v. given (unary_value op v)

  update_same : (op : UpdateOp) (prefix : Bool) (operand : Part t) → update op prefix operand.0 (first t x) ≡ update op prefix operand.0 (second t x)
  update_same op prefix operand =
      λ i. operand.1.written x i >>= λ r. read_same t x r i >>= λ v. given (number_from v) >>= λ old. given (updated op old) >>= λ new.
      write_same t x r (Number new) i >>= λ _. give (Number (cond prefix new old))

  sequence_same : (es : List (Part t)) → sequence (meanings t es) (first t x) ≡ sequence (meanings t es) (second t x)
  sequence_same [] = refl
  sequence_same (e ∷ []) = e.1.value x
  sequence_same (e ∷ f ∷ es) = λ i. e.1.value x i >>= λ _. sequence_same (f ∷ es) i

  function_value_same : (names : List Id) (function : Part t) → function_value names function.0 (first t x) ≡ function_value names function.0 (second t x)
  function_value_same names function =
      λ i. new_environment (map (empty true) names) None >>= λ place.
      function.1.made Plain None (inside x place) i >>= λ f. set_all names place.place (Own f) >>= λ _. give (Own f)

  -- ---- optional chains

  member_link_same : (optional : Bool) (v : Value) (key : Part t) → member_link optional v key.0 (first t x) ≡ member_link optional v key.0 (second t x)
  member_link_same optional v key = λ i. when (optional && is_nullish v) (give None) (key.1.key x i >>= λ k. give (Some (ToMember v k)))

  call_link_same : (optional : Bool) (c : Callee) (arguments : Part t) → call_link optional c arguments.0 (first t x) ≡ call_link optional c arguments.0 (second t x)
  call_link_same optional c arguments =
      λ i. when (optional && callee_is_nullish c) (give None) (arguments.1.arguments x i >>= λ vs. call_same t x c vs i >>= λ v. give (Some (ToValue v)))

  pub link_same : (k : Kind) (ps : List (Part t)) (optional : Bool) → link_of k (meanings t ps) optional (first t x) ≡ link_of k (meanings t ps) optional (second t x)
  link_same kind.MemberExpr (object ∷ key ∷ []) optional = λ i. object.1.chain x i >>= λ o. continued o (λ r. read_object_same t x r i >>= λ v. member_link_same optional v key i)
  link_same kind.OptCall (callee ∷ arguments ∷ types ∷ []) optional = λ i. callee.1.chain x i >>= λ o. continued o (λ r. callee_by_same t x r i >>= λ c. call_link_same optional c arguments i)
  link_same _ ps optional = refl

  -- ---- by kind

  module _ (node : Node) where
    pub value_same : (k : Kind) (ps : List (Part t)) → Unasked t node k → value_of node k (meanings t ps) (first t x) ≡ value_of node k (meanings t ps) (second t x)
    value_same (kind.Ident sym' ctxt optional) [] h = read_identifier_same sym' ctxt h
    value_same (kind.Str text raw) [] h = refl
    value_same (kind.Number number raw) [] h = refl
    value_same (kind.Bool truth) [] h = refl
    value_same kind.Null [] h = refl
    value_same kind.ThisExpr [] h = refl
    value_same (kind.Regex pattern' flags) [] h = refl
    value_same (kind.MetaPropExpr NewTarget) [] h = refl
    value_same kind.Tpl (expressions ∷ parts ∷ []) h = λ i. given parts.0.cooked >>= λ ps. expressions.1.texts x i >>= λ ts. give (Text (interleaved ps ts))
    value_same kind.ArrayLit (elements ∷ []) h = λ i. elements.1.elements x i >>= λ es. new_array es >>= λ o. give (Own o)
    value_same kind.ObjectLit (properties ∷ []) h =
        λ i. new_object (record { entries = []; prototype = None; callable = None; extent = Ordinary }) >>= λ o. properties.1.defined o o x i >>= λ _. give (Own o)
    value_same kind.FnExpr (name ∷ function ∷ []) h = function_value_same name.0.names function
    value_same kind.ClassExpr (name ∷ class ∷ []) h = class.1.class_made name.0.names x
    value_same (kind.ArrowExpr is_async false) ps h = λ i. make_function_same t x node Arrow None i >>= λ f. give (Own f)
    value_same (kind.UnaryExpr op) (operand ∷ []) h = unary_same op operand
    value_same (kind.UpdateExpr op prefix) (operand ∷ []) h = update_same op prefix operand
    value_same (kind.BinExpr op) (left ∷ right ∷ []) h = λ i. left.1.value x i >>= λ v. binary_rest_same op (short_circuit op v) v right i
    value_same (kind.AssignExpr op) (target ∷ right ∷ []) h = assign_same op target right
    value_same kind.CondExpr (test ∷ yes' ∷ no' ∷ []) h = λ i. test.1.value x i >>= λ v. when (truth_of v) (yes'.1.value x i) (no'.1.value x i)
    value_same kind.SeqExpr ps h = sequence_same ps
    value_same kind.MemberExpr (object ∷ key ∷ []) h = λ i. read_member_same node h object key i >>= λ r. read_same t x r i
    value_same kind.SuperPropExpr (super ∷ key ∷ []) h = λ i. super_reference_same key i >>= λ r. read_same t x r i
    value_same kind.CallExpr (callee ∷ arguments ∷ types ∷ []) h = call_by_same callee.0.is_super callee arguments
    value_same kind.NewExpr (callee ∷ arguments ∷ types ∷ []) h =
        λ i. callee.1.reference x i >>= λ r. read_object_same t x r i >>= λ f. arguments.1.arguments x i >>= λ vs. construct_same t x f vs i
    value_same kind.TsExternalModuleRef (source ∷ []) h = λ i. callee_by_same t x (ToFree (codes "require")) i >>= λ c. source.1.arguments x i >>= λ vs. call_same t x c vs i
    value_same (kind.OptChainExpr optional) (base ∷ []) h = λ i. base.1.link optional x i >>= λ o. read_same t x (chained o) i
    value_same _ ps h = refl

    valued : (k : Kind) (ps : List (Part t)) → Unasked t node k → (value_of node k (meanings t ps) (first t x) >>= λ v. give (ToValue v)) ≡ (value_of node k (meanings t ps) (second t x) >>= λ v. give (ToValue v))
    valued k ps h = λ i. value_same k ps h i >>= λ v. give (ToValue v)

    pub reference_same : (k : Kind) (ps : List (Part t)) → Unasked t node k → reference_of node k (meanings t ps) (first t x) ≡ reference_of node k (meanings t ps) (second t x)
    reference_same (kind.Ident sym' ctxt optional) [] h = identifier_same sym' ctxt h
    reference_same kind.BindingIdent (id ∷ annotation ∷ []) h = id.1.reference x
    reference_same kind.MemberExpr (object ∷ key ∷ []) h = read_member_same node h object key
    reference_same kind.SuperPropExpr (super ∷ key ∷ []) h = super_reference_same key
    reference_same (kind.MetaPropExpr ImportMeta) [] h = refl
    reference_same (kind.OptChainExpr optional) (base ∷ []) h = λ i. base.1.link optional x i >>= λ o. give (chained o)
    reference_same k ps h = valued k ps h

    pub written_same : (k : Kind) (ps : List (Part t)) → Unasked t node k → written_of node k (meanings t ps) (first t x) ≡ written_of node k (meanings t ps) (second t x)
    written_same (kind.Ident sym' ctxt optional) [] h = written_identifier_same sym' ctxt h
    written_same kind.BindingIdent (id ∷ annotation ∷ []) h = id.1.written x
    written_same kind.MemberExpr (object ∷ key ∷ []) h = member_reference_same object key
    written_same k ps h = reference_same k ps h

    pub chain_same : (k : Kind) (ps : List (Part t)) → Unasked t node k → chain_of node k (meanings t ps) (first t x) ≡ chain_of node k (meanings t ps) (second t x)
    chain_same (kind.OptChainExpr optional) (base ∷ []) h = base.1.link optional x
    chain_same k ps h = λ i. reference_same k ps h i >>= λ r. give (Some r)

    pub initial_same : (k : Kind) (ps : List (Part t)) → Unasked t node k → initial_of node k (meanings t ps) (first t x) ≡ initial_of node k (meanings t ps) (second t x)
    initial_same kind.Absent ps h = refl
    initial_same k ps h = value_same k ps h

    pub test_same : (k : Kind) (ps : List (Part t)) → Unasked t node k → test_of node k (meanings t ps) (first t x) ≡ test_of node k (meanings t ps) (second t x)
    test_same kind.Absent ps h = refl
    test_same k ps h = value_same k ps h

  -- ---- parts of expressions

  all_arguments_same : (ps : List (Part t)) → all_arguments (meanings t ps) (first t x) ≡ all_arguments (meanings t ps) (second t x)
  all_arguments_same [] = refl
  all_arguments_same (p ∷ ps) = λ i. p.1.arguments x i >>= λ vs. all_arguments_same ps i >>= λ ws. give (vs ++ ws)

  all_elements_same : (ps : List (Part t)) → all_elements (meanings t ps) (first t x) ≡ all_elements (meanings t ps) (second t x)
  all_elements_same [] = refl
  all_elements_same (p ∷ ps) = λ i. p.1.elements x i >>= λ vs. all_elements_same ps i >>= λ ws. give (vs ++ ws)

  all_texts_same : (ps : List (Part t)) → all_texts (meanings t ps) (first t x) ≡ all_texts (meanings t ps) (second t x)
  all_texts_same [] = refl
  all_texts_same (p ∷ ps) = λ i. p.1.texts x i >>= λ vs. all_texts_same ps i >>= λ ws. give (vs ++ ws)

  module _ (node : Node) where
    pub arguments_same : (k : Kind) (ps : List (Part t)) → Unasked t node k → arguments_of node k (meanings t ps) (first t x) ≡ arguments_of node k (meanings t ps) (second t x)
    arguments_same kind.Absent ps h = refl
    arguments_same kind.List ps h = all_arguments_same ps
    arguments_same (kind.TsTypeAliasDecl declare) ps h = refl
    arguments_same k ps h = λ i. value_same node k ps h i >>= λ v. give (v ∷ [])

    pub elements_same : (k : Kind) (ps : List (Part t)) → Unasked t node k → elements_of node k (meanings t ps) (first t x) ≡ elements_of node k (meanings t ps) (second t x)
    elements_same kind.Absent ps h = refl
    elements_same kind.List ps h = all_elements_same ps
    elements_same (kind.TsTypeAliasDecl declare) ps h = refl
    elements_same k ps h = λ i. value_same node k ps h i >>= λ v. give (Some v ∷ [])

    pub texts_same : (k : Kind) (ps : List (Part t)) → Unasked t node k → texts_of node k (meanings t ps) (first t x) ≡ texts_of node k (meanings t ps) (second t x)
    texts_same kind.List ps h = all_texts_same ps
    texts_same (kind.TsTypeAliasDecl declare) ps h = refl
    texts_same k ps h = λ i. value_same node k ps h i >>= λ v. given (text_from v) >>= λ text. give (text ∷ [])

  pub key_same : (k : Kind) (ps : List (Part t)) → key_of k (meanings t ps) (first t x) ≡ key_of k (meanings t ps) (second t x)
  key_same (kind.IdentName name) [] = refl
  key_same (kind.Str text raw) [] = refl
  key_same (kind.Number number raw) [] = refl
  key_same kind.ComputedPropName (e ∷ []) = λ i. e.1.value x i >>= λ v. given (key_from v)
  key_same _ ps = refl
