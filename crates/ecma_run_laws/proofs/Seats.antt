-- A node means what it means with expressions exchanged that are only read: a line for each kind with such a seat.
use Rattle.std.proofs.Common.{◌≡◌, ◌++◌, ◌||◌, ℕ, zero, suc, refl, ap, ap₂, ◌∙◌, List, [], ◌∷◌, map, Option, Some, None, Bool, true, false, not, cond}
use Rattle.ecma_kind.specs.declared.kind.Kind.{Kind}
use Rattle.ecma_kind.specs.declared.kind.Kind.TheVariants as kind
use Rattle.ecma_kind.specs.declared.operators.MemberModifiers.{MemberModifiers}
use Rattle.ecma_kind.specs.declared.operators.AssignOp.{AssignOp}
use Rattle.ecma_kind.specs.declared.operators.AssignOp.TheVariants as operation
use Rattle.ecma_kind.specs.declared.operators.BinaryOp.{BinaryOp}
use Rattle.ecma_kind.specs.declared.operators.UnaryOp.{UnaryOp}
use Rattle.ecma_kind.specs.declared.operators.UnaryOp.TheVariants as operator
use Rattle.ecma_tree.specs.declared.node.Node.{Node, out-Node}
use Rattle.ecma_tree.specs.Nodes.{node_of}
use Rattle.ecma_runs.specs.Values.{Value, truth_of}
use Rattle.ecma_runs.specs.State.{Entered, Id}
use Rattle.ecma_runs.specs.Run.{TurnsSpent, ◌>>=◌, give, return, stop, when, given, round, loop, spend}
use Rattle.ecma_runs.specs.Environment.{Reference, ToValue, new_environment, copy_environment}
use Rattle.ecma_runs.specs.Meaning.{ExecutionContext, inside, Evaluation, Meaning}
use Rattle.ecma_runs.specs.Operators.{text_from, binary_value, operator_of, short_circuit, logical_operator_of, unary_value}
use Rattle.ecma_runs.specs.Functions.{read, write, callee_by, call, super_call}
use Rattle.ecma_runs.specs.Expressions.{applied, binary_rest, logical_rest, compound_rest, assign, call_by, all_arguments, all_elements, all_texts, sequence}
use Rattle.ecma_runs.specs.Classes.{define_field, field_with}
use Rattle.ecma_runs.specs.Statements.{for_rounds, completion_of}
use Rattle.ecma_runs.specs.Declarations.{all_declared}
use Rattle.ecma_runs.specs.Evaluation.{role_by, no_effect, meaning_by, meaning}
use Rattle.ecma_runs.proofs.Layer.{meaning-roll, meaning_out}
use Rattle.ecma_run_laws.specs.Exchanged.{ReadsAlike, items_by, items, operand_of, in_seats}

-- the first meaning, but where an expression is read the second
abbrev read_as : Meaning → Meaning → Meaning
read_as m m' = record m {
  value = m'.value;
  initial = m'.initial;
  arguments = m'.arguments;
  elements = m'.elements;
  texts = m'.texts;
  effect = m'.effect;
  test = m'.test;
  body = m'.body;
  vars = m'.vars;
  locals = m'.locals;
  declared = m'.declared;
  is_absent = m'.is_absent;
}

reads : (m m' : Meaning) → ReadsAlike m m' → read_as m m' ≡ m
reads m m' r = λ i. record m {
  value = r.value i;
  initial = r.initial i;
  arguments = r.arguments i;
  elements = r.elements i;
  texts = r.texts i;
  effect = r.effect i;
  test = r.test i;
  body = r.body i;
  vars = r.vars i;
  locals = r.locals i;
  declared = r.declared i;
  is_absent = r.is_absent i;
}

-- the first meaning, but as a list the second
abbrev listed_as : Meaning → Meaning → Meaning
listed_as m m' = record m { arguments = m'.arguments; elements = m'.elements; texts = m'.texts; declared = m'.declared }

record ListsAlike (m m' : Meaning) : Type 0 where
  arguments : m'.arguments ≡ m.arguments
  elements : m'.elements ≡ m.elements
  texts : m'.texts ≡ m.texts
  declared : m'.declared ≡ m.declared

lists : (m m' : Meaning) → ListsAlike m m' → listed_as m m' ≡ m
lists m m' l = λ i. record m { arguments = l.arguments i; elements = l.elements i; texts = l.texts i; declared = l.declared i }

-- what an expression means that is neither a name, a member nor a chain
abbrev pub valued : Node → Evaluation Value → List Id → Meaning
valued n v declared = record (meaning_by n kind.Null []) {
  value = v;
  reference = λ x. v x >>= λ a. give (ToValue a);
  written = λ x. v x >>= λ a. give (ToValue a);
  assigned = λ get x. (v x >>= λ a. give (ToValue a)) >>= λ r. get >>= λ w. write x r w >>= λ _. give w;
  initial = v;
  arguments = λ x. v x >>= λ a. give (a ∷ []);
  elements = λ x. v x >>= λ a. give (Some a ∷ []);
  texts = λ x. v x >>= λ a. given (text_from a) >>= λ t. give (t ∷ []);
  chain = λ x. (v x >>= λ a. give (ToValue a)) >>= λ r. give (Some r);
  effect = λ x. v x >>= λ _. give tt;
  test = v;
  body = λ names x. v x >>= λ a. return a;
  declared = declared;
}

module _ (swap : Node → Node) (same : (n : Node) → ReadsAlike (meaning n) (meaning (swap n))) where
  abbrev reading : Node → Meaning
  reading n = read_as (meaning n) (meaning (swap n))

  read_is : (n : Node) → reading n ≡ meaning n
  read_is n = reads (meaning n) (meaning (swap n)) (same n)

  -- lists

  arguments_same : (ns : List Node) → all_arguments (map meaning (map swap ns)) ≡ all_arguments (map meaning ns)
  arguments_same [] = refl
  arguments_same (n ∷ ns) = ap₂ (λ a rest. λ x. a x >>= λ vs. rest x >>= λ ws. give (vs ++ ws)) ((same n).arguments) (arguments_same ns)

  elements_same : (ns : List Node) → all_elements (map meaning (map swap ns)) ≡ all_elements (map meaning ns)
  elements_same [] = refl
  elements_same (n ∷ ns) = ap₂ (λ a rest. λ x. a x >>= λ vs. rest x >>= λ ws. give (vs ++ ws)) ((same n).elements) (elements_same ns)

  texts_same : (ns : List Node) → all_texts (map meaning (map swap ns)) ≡ all_texts (map meaning ns)
  texts_same [] = refl
  texts_same (n ∷ ns) = ap₂ (λ a rest. λ x. a x >>= λ vs. rest x >>= λ ws. give (vs ++ ws)) ((same n).texts) (texts_same ns)

  declared_same : (ns : List Node) → all_declared (map meaning (map swap ns)) ≡ all_declared (map meaning ns)
  declared_same [] = refl
  declared_same (n ∷ ns) = ap₂ (λ a rest. a ++ rest) ((same n).declared) (declared_same ns)

  sequence_same : (ns : List Node) → sequence (map meaning (map swap ns)) ≡ sequence (map meaning ns)
  sequence_same [] = refl
  sequence_same (n ∷ []) = (same n).value
  sequence_same (n ∷ n' ∷ ns) = ap₂ (λ a rest. λ x. a x >>= λ _. rest x) ((same n).value) (sequence_same (n' ∷ ns))

  listed : (n n' : Node) (ns : List Node) → ListsAlike (meaning_by n kind.List (map meaning ns)) (meaning_by n' kind.List (map meaning (map swap ns)))
  listed n n' ns = record { arguments = arguments_same ns; elements = elements_same ns; texts = texts_same ns; declared = declared_same ns }

  items_alike_by : (n : Node) (k : Kind) → (out-Node n).kind ≡ k → ListsAlike (meaning n) (meaning (items_by swap k n))
  items_alike_by n kind.List is =
      let ns : List Node = (out-Node n).children in
      let a : meaning n ≡ meaning_by n kind.List (map meaning ns) = meaning_out n ∙ ap (λ k. meaning_by n k (map meaning ns)) is in
      let n' : Node = node_of (out-Node n).span kind.List (map swap ns) in
      let b : meaning n' ≡ meaning_by n' kind.List (map meaning (map swap ns)) = meaning-roll (record { span = (out-Node n).span; kind = kind.List; children = map swap ns }) in
      rw (a, b) (listed n n' ns)
  items_alike_by n _ is = record { arguments = refl; elements = refl; texts = refl; declared = refl }

  items_alike : (n : Node) → ListsAlike (meaning n) (meaning (items swap n))
  items_alike n = items_alike_by n (out-Node n).kind refl

  abbrev list : Node → Meaning
  list n = listed_as (meaning n) (meaning (items swap n))

  list_is : (n : Node) → list n ≡ meaning n
  list_is n = lists (meaning n) (meaning (items swap n)) (items_alike n)

  -- expressions that are made of others

  module _ (n : Node) where
    binary_same : (op : BinaryOp) (o : Option Bool) (v : Value) (e : Node) → binary_rest op o v (meaning (swap e)) ≡ binary_rest op o v (meaning e)
    binary_same op (Some true) v e = refl
    binary_same op (Some false) v e = (same e).value
    binary_same op None v e = λ i x. (same e).value i x >>= λ w. applied op v w

    binary_seat : (op : BinaryOp) (left right : Node) → meaning_by n (kind.BinExpr op) (meaning (swap left) ∷ meaning (swap right) ∷ []) ≡ meaning_by n (kind.BinExpr op) (meaning left ∷ meaning right ∷ [])
    binary_seat op left right = λ i. valued n (λ x. (same left).value i x >>= λ v. binary_same op (short_circuit op v) v right i x) ((same left).declared i ++ ((same right).declared i ++ []))

    logical_same : (o : Option Bool) (r : Reference) (v : Value) (e : Node) → logical_rest o r v (meaning (swap e)) ≡ logical_rest o r v (meaning e)
    logical_same (Some false) r v e = λ i x. (same e).value i x >>= λ w. write x r w >>= λ _. give w
    logical_same (Some true) r v e = refl
    logical_same None r v e = refl

    compound_same : (logical arithmetic : Option BinaryOp) (r : Reference) (v : Value) (e : Node) → compound_rest logical arithmetic r v (meaning (swap e)) ≡ compound_rest logical arithmetic r v (meaning e)
    compound_same (Some op) arithmetic r v e = logical_same (short_circuit op v) r v e
    compound_same None (Some op) r v e = λ i x. (same e).value i x >>= λ w. given (binary_value op v w) >>= λ u. write x r u >>= λ _. give u
    compound_same None None r v e = refl

    assign_same : (op : AssignOp) (target : Meaning) (e : Node) → assign op target (meaning (swap e)) ≡ assign op target (meaning e)
    assign_same operation.Assign target e = λ i x. target.assigned ((same e).value i x) x
    assign_same op target e = λ i x. target.written x >>= λ r. read x r >>= λ v. compound_same (logical_operator_of op) (operator_of op) r v e i x

    assign_seat : (op : AssignOp) (target right : Node) → meaning_by n (kind.AssignExpr op) (meaning target ∷ meaning (swap right) ∷ []) ≡ meaning_by n (kind.AssignExpr op) (meaning target ∷ meaning right ∷ [])
    assign_seat op target right = λ i. valued n (assign_same op (meaning target) right i) ((meaning target).declared ++ ((same right).declared i ++ []))

    sequence_seat : (es : List Node) → meaning_by n kind.SeqExpr (map meaning (map swap es)) ≡ meaning_by n kind.SeqExpr (map meaning es)
    sequence_seat es = λ i. valued n (sequence_same es i) (declared_same es i)

    operand_seat : (op : UnaryOp) (e : Node) → meaning_by n (kind.UnaryExpr op) (meaning (operand_of swap op e) ∷ []) ≡ meaning_by n (kind.UnaryExpr op) (meaning e ∷ [])
    operand_seat operator.TypeOf e = refl
    operand_seat operator.Delete e = refl
    operand_seat op e = λ i. valued n (λ x. (same e).value i x >>= λ v. given (unary_value op v)) ((same e).declared i ++ [])

    call_same : (is_super : Bool) (callee arguments : Node) → call_by is_super (meaning callee) (meaning (items swap arguments)) ≡ call_by is_super (meaning callee) (meaning arguments)
    call_same true callee arguments = λ i x. (items_alike arguments).arguments i x >>= λ vs. super_call x vs
    call_same false callee arguments = λ i x. (meaning callee).reference x >>= λ r. callee_by x r >>= λ c. (items_alike arguments).arguments i x >>= λ vs. call x c vs

    call_seat : (callee arguments types : Node)
        → meaning_by n kind.CallExpr (meaning callee ∷ meaning (items swap arguments) ∷ meaning types ∷ []) ≡ meaning_by n kind.CallExpr (meaning callee ∷ meaning arguments ∷ meaning types ∷ [])
    call_seat callee arguments types =
        λ i. valued n (call_same (meaning callee).is_super callee arguments i) ((meaning callee).declared ++ ((items_alike arguments).declared i ++ ((meaning types).declared ++ [])))

    -- loops and fields

    rounds_same : (k : ℕ) (test update : Node) (body : Meaning) (place : Entered) (x : ExecutionContext)
        → for_rounds k (meaning (swap test)) (meaning (swap update)) body place x ≡ for_rounds k (meaning test) (meaning update) body place x
    rounds_same zero test update body place x = λ i. (same test).test i (inside x place) >>= λ v. when (truth_of v) (stop TurnsSpent) (give tt)
    rounds_same (suc k) test update body place x = λ i.
        (same test).test i (inside x place) >>= λ v. when (truth_of v)
        (spend >>= λ _. round (body.completion (inside x place)) >>= λ _. copy_environment place >>= λ next. (same update).effect i (inside x next) >>= λ _. rounds_same k test update body next x i) (give tt)

    for_same : (init test update body : Node) → completion_of kind.ForStmt (meaning init ∷ meaning (swap test) ∷ meaning (swap update) ∷ meaning body ∷ []) ≡ completion_of kind.ForStmt (meaning init ∷ meaning test ∷ meaning update ∷ meaning body ∷ [])
    for_same init test update body = λ i x.
        new_environment (meaning init).lexicals None >>= λ place. (meaning init).effect (inside x place) >>= λ _. copy_environment place >>= λ next.
        λ s. loop (rounds_same s.turns test update (meaning body) next x i) s

    for_seat : (init test update body : Node) → meaning_by n kind.ForStmt (meaning init ∷ meaning (swap test) ∷ meaning (swap update) ∷ meaning body ∷ []) ≡ meaning_by n kind.ForStmt (meaning init ∷ meaning test ∷ meaning update ∷ meaning body ∷ [])
    for_seat init test update body = λ i. record (meaning_by n kind.ForStmt (meaning init ∷ meaning test ∷ meaning update ∷ meaning body ∷ [])) {
      completion = for_same init test update body i;
      vars = (meaning init).vars ++ ((same test).vars i ++ ((same update).vars i ++ ((meaning body).vars ++ [])));
      declared = (meaning init).declared ++ ((same test).declared i ++ ((same update).declared i ++ ((meaning body).declared ++ [])));
    }

    field_same : (is_here : Bool) (e : Node) (keys : List (List ℕ)) (object : Value) → field_with is_here (meaning (swap e)) keys object ≡ field_with is_here (meaning e) keys object
    field_same is_here e [] object = refl
    field_same is_here e (key ∷ keys) object = λ i x. when is_here ((same e).initial i x >>= λ v. define_field object key v) (give tt) >>= λ _. give keys

    field_seat : (modifiers : MemberModifiers) (readonly declare definite : Bool) (key value type : Node)
        → meaning_by n (kind.ClassProp modifiers readonly declare definite) (meaning key ∷ meaning (swap value) ∷ meaning type ∷ [])
        ≡ meaning_by n (kind.ClassProp modifiers readonly declare definite) (meaning key ∷ meaning value ∷ meaning type ∷ [])
    field_seat modifiers readonly declare definite key value type = λ i. cond (declare || modifiers.is_abstract) (no_effect n)
        (record (role_by n (kind.ClassProp modifiers readonly declare definite) (meaning key ∷ meaning value ∷ meaning type ∷ [])) {
          fields = λ keys object. field_same (not modifiers.is_static) value keys object i;
          statics = λ keys class. field_same modifiers.is_static value keys class i;
          declared = (meaning key).declared ++ ((same value).declared i ++ ((meaning type).declared ++ []));
        })

    arrow_seat : (is_async is_generator : Bool) (parameters body types return_type : Node)
        → meaning_by n (kind.ArrowExpr is_async is_generator) (meaning parameters ∷ meaning (swap body) ∷ meaning types ∷ meaning return_type ∷ [])
        ≡ meaning_by n (kind.ArrowExpr is_async is_generator) (meaning parameters ∷ meaning body ∷ meaning types ∷ meaning return_type ∷ [])
    arrow_seat false false parameters body types return_type = ap (λ m. meaning_by n (kind.ArrowExpr false false) (meaning parameters ∷ m ∷ meaning types ∷ meaning return_type ∷ [])) (read_is body)
    arrow_seat true false parameters body types return_type = ap (λ m. meaning_by n (kind.ArrowExpr true false) (meaning parameters ∷ m ∷ meaning types ∷ meaning return_type ∷ [])) (read_is body)
    arrow_seat true true parameters body types return_type = ap (λ m. meaning_by n (kind.ArrowExpr true true) (meaning parameters ∷ m ∷ meaning types ∷ meaning return_type ∷ [])) (read_is body)
    arrow_seat false true parameters body types return_type = ap (λ m. meaning_by n (kind.ArrowExpr false true) (meaning parameters ∷ m ∷ meaning types ∷ meaning return_type ∷ [])) (read_is body)

    -- seats

    pub seats : (k : Kind) (cs : List Node) → meaning_by n k (map meaning (in_seats swap k cs)) ≡ meaning_by n k (map meaning cs)
    seats kind.ExprStmt (e ∷ []) = ap (λ m. meaning_by n kind.ExprStmt (m ∷ [])) (read_is e)
    seats kind.ReturnStmt (e ∷ []) = ap (λ m. meaning_by n kind.ReturnStmt (m ∷ [])) (read_is e)
    seats kind.ThrowStmt (e ∷ []) = ap (λ m. meaning_by n kind.ThrowStmt (m ∷ [])) (read_is e)
    seats kind.IfStmt (test ∷ yes' ∷ no' ∷ []) = ap (λ m. meaning_by n kind.IfStmt (m ∷ meaning yes' ∷ meaning no' ∷ [])) (read_is test)
    seats kind.SwitchStmt (discriminant ∷ cases ∷ []) = ap (λ m. meaning_by n kind.SwitchStmt (m ∷ meaning cases ∷ [])) (read_is discriminant)
    seats kind.SwitchCase (test ∷ statements ∷ []) = ap (λ m. meaning_by n kind.SwitchCase (m ∷ meaning statements ∷ [])) (read_is test)
    seats kind.WhileStmt (test ∷ body ∷ []) = ap (λ m. meaning_by n kind.WhileStmt (m ∷ meaning body ∷ [])) (read_is test)
    seats kind.DoWhileStmt (test ∷ body ∷ []) = ap (λ m. meaning_by n kind.DoWhileStmt (m ∷ meaning body ∷ [])) (read_is test)
    seats kind.ForStmt (init ∷ test ∷ update ∷ body ∷ []) = for_seat init test update body
    seats (kind.VarDeclarator definite) (name ∷ init ∷ []) = ap (λ m. meaning_by n (kind.VarDeclarator definite) (meaning name ∷ m ∷ [])) (read_is init)
    seats kind.AssignPat (pattern' ∷ default ∷ []) = ap (λ m. meaning_by n kind.AssignPat (meaning pattern' ∷ m ∷ [])) (read_is default)
    seats kind.AssignPatProp (name ∷ default ∷ []) = ap (λ m. meaning_by n kind.AssignPatProp (meaning name ∷ m ∷ [])) (read_is default)
    seats (kind.UnaryExpr op) (operand ∷ []) = operand_seat op operand
    seats (kind.BinExpr op) (left ∷ right ∷ []) = binary_seat op left right
    seats (kind.AssignExpr op) (target ∷ right ∷ []) = assign_seat op target right
    seats kind.CondExpr (test ∷ yes' ∷ no' ∷ []) = λ i. meaning_by n kind.CondExpr (read_is test i ∷ read_is yes' i ∷ read_is no' i ∷ [])
    seats kind.SeqExpr es = sequence_seat es
    seats kind.CallExpr (callee ∷ arguments ∷ types ∷ []) = call_seat callee arguments types
    seats kind.OptCall (callee ∷ arguments ∷ types ∷ []) = ap (λ m. meaning_by n kind.OptCall (meaning callee ∷ m ∷ meaning types ∷ [])) (list_is arguments)
    seats kind.NewExpr (callee ∷ arguments ∷ types ∷ []) = ap (λ m. meaning_by n kind.NewExpr (meaning callee ∷ m ∷ meaning types ∷ [])) (list_is arguments)
    seats kind.ArrayLit (elements ∷ []) = ap (λ m. meaning_by n kind.ArrayLit (m ∷ [])) (list_is elements)
    seats kind.Tpl (expressions ∷ parts ∷ []) = ap (λ m. meaning_by n kind.Tpl (m ∷ meaning parts ∷ [])) (list_is expressions)
    seats (kind.ArrowExpr is_async is_generator) (parameters ∷ body ∷ types ∷ return_type ∷ []) = arrow_seat is_async is_generator parameters body types return_type
    seats kind.KeyValueProp (key ∷ value ∷ []) = ap (λ m. meaning_by n kind.KeyValueProp (meaning key ∷ m ∷ [])) (read_is value)
    seats kind.ComputedPropName (e ∷ []) = ap (λ m. meaning_by n kind.ComputedPropName (m ∷ [])) (read_is e)
    seats (kind.ClassProp modifiers readonly declare definite) (key ∷ value ∷ type ∷ []) = field_seat modifiers readonly declare definite key value type
    seats (kind.Class is_abstract) (super ∷ body ∷ types ∷ super_types ∷ implements ∷ []) =
        ap (λ m. meaning_by n (kind.Class is_abstract) (m ∷ meaning body ∷ meaning types ∷ meaning super_types ∷ meaning implements ∷ [])) (read_is super)
    seats k cs = refl
