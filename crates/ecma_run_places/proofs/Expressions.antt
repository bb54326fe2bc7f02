-- What expressions do is done alike where their parts do alike: a line for each kind and role.
use Rattle.std.proofs.Common.{◌≡◌, refl, sym, ap, subst, ℕ, List, [], ◌∷◌, map, Option, Some, None, Bool, true, false, ◌&&◌, cond, codes}
use Rattle.ecma_kind.specs.declared.kind.Kind.{Kind}
use Rattle.ecma_kind.specs.declared.kind.Kind.TheVariants as kind
use Rattle.ecma_kind.specs.declared.operators.AssignOp.{AssignOp}
use Rattle.ecma_kind.specs.declared.operators.AssignOp.TheVariants as operation
use Rattle.ecma_kind.specs.declared.operators.BinaryOp.{BinaryOp}
use Rattle.ecma_kind.specs.declared.operators.BinaryOp.TheVariants as binary
use Rattle.ecma_kind.specs.declared.operators.MetaPropKind.TheVariants.{NewTarget, ImportMeta}
use Rattle.ecma_kind.specs.declared.operators.UnaryOp.{UnaryOp}
use Rattle.ecma_kind.specs.declared.operators.UnaryOp.TheVariants as operator
use Rattle.ecma_kind.specs.declared.operators.UpdateOp.{UpdateOp}
use Rattle.ecma_tree.specs.declared.node.Node.{Node}
use Rattle.ecma_runs.specs.declared.shown.ErrorKind.TheVariants as error
use Rattle.ecma_runs.specs.Values.{Value, Own}
use Rattle.ecma_runs.specs.State.{Id, Entered, Plain, Arrow}
use Rattle.ecma_runs.specs.Run.{◌>>=◌, give}
use Rattle.ecma_runs.specs.Environment.{Reference, ToMember, ToValue, set_all}
use Rattle.ecma_runs.specs.Meaning.{inside, Meaning}
use Rattle.ecma_runs.specs.Operators.{operator_of, short_circuit, logical_operator_of, updated}
use Rattle.ecma_runs.specs.Functions.{read, read_object, Callee, callee_by}
use Rattle.ecma_runs.specs.Expressions.{identifier, member_of, member_reference, read_member, super_reference, chained, call_by, is_in, applied, binary_rest, logical_rest, compound_rest, assign, unary, update, sequence, interleaved, function_value, value_of, reference_of, written_of, continued, callee_is_nullish, member_link, call_link, link_of, chain_of, initial_of, all_arguments, arguments_of, all_elements, elements_of, all_texts, texts_of, key_of, test_of}
use Rattle.ecma_run_places.specs.Worlds.{no_more, more, neither, both, World, Same, is, Like, undefineds, nulls, truths, numbers, texts, owns, hosts, errors, LikeEntered, entered_like, objects_like}
use Rattle.ecma_run_places.specs.Alike.{Alike, Likes, LikeElements, LikeReference, to_variables, to_frees, to_members, to_supers, to_import_metas, to_meta_members, to_values, LikeChain, Contexts, first, second, MeansAlike}
use Rattle.ecma_run_places.proofs.Growing.{above, value_up, values_up, elements_up, reference_up, later, place_up}
use Rattle.ecma_run_places.proofs.Combinators.{Keeps, keeps_alike, kept_bind_same, here_bind, here_bind_same, bind, bind_same, give_kept, throw_kept, outside_kept, give_alike, give_same, outside_alike, when_kept, when_alike, given_same, given_equal}
use Rattle.ecma_run_places.proofs.Host.{each_append}
use Rattle.ecma_run_places.proofs.Records.{empties_like, set_all_kept, enter, inward, activation_kept, this_kept}
use Rattle.ecma_run_places.proofs.Objects.{new_object_alike, super_base_kept, new_array_alike}
use Rattle.ecma_run_places.proofs.Members.{has_member_kept, instance_of_kept, type_of_kept}
use Rattle.ecma_run_places.proofs.Functions.{read_alike, write_alike, read_object_alike, read_typed_alike, delete_kept, LikeCallee, called_like, called_super_like, borrowed_like, callee_up, callee_by_alike, call_alike, construct_alike, given_value, given_place, super_call_alike, make_function_alike, new_regular_expression_alike}
use Rattle.ecma_run_places.proofs.EnumReads.{reading_firm, known_reference_alike, identifier_alike, written_identifier_alike}
use Rattle.ecma_run_places.proofs.Operators.{truth_same, nullish_same, text_same, number_same, binary_like, unary_like, short_same}

-- a meaning that is done alike
abbrev pub Part : Type 0
Part = (m : Meaning) × MeansAlike m

abbrev pub meanings : List Part → List Meaning
meanings ps = map (λ p. p.0) ps

-- ---- names and members

value_identifier_alike : {w : World} (c : Contexts w) (sym : List ℕ) (ctxt : ℕ) → Alike w Like (identifier sym ctxt (first c) >>= λ r. read (first c) r) (identifier sym ctxt (second c) >>= λ r. read (second c) r)
value_identifier_alike c sym ctxt = bind (identifier_alike c sym ctxt) (λ v u _ _ r. read_alike (later u c) r)

-- a member of what was referred to
object_member : {w : World} (c : Contexts w) {r r' : Reference} → LikeReference w r r' → (key : Part)
    → Alike w LikeReference (read_object (first c) r >>= λ o. key.0.key (first c) >>= λ k. give (ToMember o k))
    (read_object (second c) r' >>= λ o. key.0.key (second c) >>= λ k. give (ToMember o k))
object_member c r key = bind (read_object_alike c r) (λ v u _ _ o. bind_same (key.1.key (later u c)) (λ v' u' k. give_alike (to_members (value_up u' o))))

member_of_alike : {w : World} (c : Contexts w) {r r' : Reference} → LikeReference w r r' → (key : Part)
    → Alike w LikeReference (member_of (first c) r (key.0.key (first c))) (member_of (second c) r' (key.0.key (second c)))
member_of_alike c to_import_metas key = bind_same (key.1.key c) (λ v u k. keeps_alike (when_kept refl (give_kept (to_meta_members (texts c.provided.meta_url))) outside_kept))
member_of_alike c (to_variables {id = id} p) key = object_member c (to_variables {id = id} p) key
member_of_alike c (to_frees {name = name}) key = object_member c (to_frees {name = name}) key
member_of_alike c (to_members {key = k} q) key = object_member c (to_members {key = k} q) key
member_of_alike c (to_supers {key = k} q b) key = object_member c (to_supers {key = k} q b) key
member_of_alike c (to_meta_members q) key = object_member c (to_meta_members q) key
member_of_alike c (to_values q) key = object_member c (to_values q) key

member_reference_alike : {w : World} (c : Contexts w) (object key : Part) → Alike w LikeReference (member_reference object.0 key.0 (first c)) (member_reference object.0 key.0 (second c))
member_reference_alike c object key = bind (object.1.reference c) (λ v u _ _ r. member_of_alike (later u c) r key)

read_member_alike : {w : World} (node : Node) (c : Contexts w) (object key : Part) → Alike w LikeReference (read_member node object.0 key.0 (first c)) (read_member node object.0 key.0 (second c))
read_member_alike node c object key = known_reference_alike c (reading_firm c.known.enums node) (member_reference object.0 key.0) (member_reference object.0 key.0) (member_reference_alike c object key)

super_reference_alike : {w : World} (c : Contexts w) (key : Part) → Alike w LikeReference (super_reference key.0 (first c)) (super_reference key.0 (second c))
super_reference_alike c key =
    here_bind (activation_kept c.scopes) (λ _ _ a. here_bind (given_value a.1.this) (λ _ _ receiver. bind_same (key.1.key c) (λ v u k.
    here_bind (given_place (place_up u a.1.home)) (λ _ _ home. here_bind (super_base_kept home) (λ _ _ base. give_alike (to_supers (value_up u receiver) base))))))

pub chained_like : {w : World} {o o' : Option Reference} → LikeChain w o o' → LikeReference w (chained o) (chained o')
chained_like neither = to_values undefineds
chained_like (both q) = q

-- ---- calls

call_by_alike : {w : World} (c : Contexts w) (b : Bool) (callee arguments : Part) → Alike w Like (call_by b callee.0 arguments.0 (first c)) (call_by b callee.0 arguments.0 (second c))
call_by_alike c true callee arguments = bind (arguments.1.arguments c) (λ v u _ _ vs. super_call_alike (later u c) vs)
call_by_alike c false callee arguments =
    bind (callee.1.reference c) (λ v u _ _ r. bind (callee_by_alike (later u c) r) (λ v' u' _ _ f. bind (arguments.1.arguments (later (above u u') c)) (λ v'' u'' _ _ vs. call_alike (later (above u (above u' u'')) c) (callee_up u'' f) vs)))

-- ---- operators

is_in_kept : {w : World} {v v' : Value} → Like w v v' → {o o' : Value} → Like w o o' → Keeps w Like (is_in v o) (is_in v' o')
is_in_kept q (owns p) = kept_bind_same (given_equal (text_same q)) (λ k. has_member_kept (owns p) k)
is_in_kept q (hosts n) = outside_kept
is_in_kept q (errors k) = outside_kept
is_in_kept q _ = throw_kept (errors error.Kind)

pub applied_kept : {w : World} (op : BinaryOp) {v v' : Value} → Like w v v' → {o o' : Value} → Like w o o' → Keeps w Like (applied op v o) (applied op v' o')
applied_kept binary.In q r = is_in_kept q r
applied_kept binary.InstanceOf q r = instance_of_kept q r
applied_kept op q r = given_value (binary_like op q r)

binary_rest_alike : {w : World} (c : Contexts w) (op : BinaryOp) (o : Option Bool) {v v' : Value} → Like w v v' → (right : Part)
    → Alike w Like (binary_rest op o v right.0 (first c)) (binary_rest op o v' right.0 (second c))
binary_rest_alike c op (Some true) q right = give_alike q
binary_rest_alike c op (Some false) q right = right.1.value c
binary_rest_alike c op None q right = bind (right.1.value c) (λ v u _ _ r. keeps_alike (applied_kept op (value_up u q) r))

logical_rest_alike : {w : World} (c : Contexts w) (o : Option Bool) {r r' : Reference} → LikeReference w r r' → {v v' : Value} → Like w v v' → (right : Part)
    → Alike w Like (logical_rest o r v right.0 (first c)) (logical_rest o r' v' right.0 (second c))
logical_rest_alike c (Some false) r q right = bind (right.1.value c) (λ v u _ _ z. bind_same (write_alike (later u c) (reference_up u r) z) (λ v' u' _. give_alike (value_up u' z)))
logical_rest_alike c (Some true) r q right = give_alike q
logical_rest_alike c None r q right = give_alike q

compound_rest_alike : {w : World} (c : Contexts w) (o : Option BinaryOp) (arithmetic : Option BinaryOp) {r r' : Reference} → LikeReference w r r' → {v v' : Value} → Like w v v' → (right : Part)
    → Alike w Like (compound_rest o arithmetic r v right.0 (first c)) (compound_rest o arithmetic r' v' right.0 (second c))
compound_rest_alike {w} c (Some logical) arithmetic {r} {r'} lr {v} {v'} q right =
    subst (λ z. Alike w Like (logical_rest (short_circuit logical v) r v right.0 (first c)) (logical_rest z r' v' right.0 (second c))) (sym (short_same logical q)) (logical_rest_alike c (short_circuit logical v) lr q right)
compound_rest_alike c None (Some arithmetic) r q right =
    bind (right.1.value c) (λ v u _ _ z. here_bind (given_value (binary_like arithmetic (value_up u q) z)) (λ _ _ y. bind_same (write_alike (later u c) (reference_up u r) y) (λ v' u' _. give_alike (value_up u' y))))
compound_rest_alike c None None r q right = outside_alike

compound_alike : {w : World} (c : Contexts w) (op : AssignOp) (target right : Part)
    → Alike w Like (target.0.written (first c) >>= λ r. read (first c) r >>= λ v. compound_rest (logical_operator_of op) (operator_of op) r v right.0 (first c))
    (target.0.written (second c) >>= λ r. read (second c) r >>= λ v. compound_rest (logical_operator_of op) (operator_of op) r v right.0 (second c))
compound_alike c op target right =
    bind (target.1.written c) (λ v u _ _ r. bind (read_alike (later u c) r) (λ v' u' _ _ z. compound_rest_alike (later (above u u') c) (logical_operator_of op) (operator_of op) (reference_up u' r) z right))

assign_alike : {w : World} (c : Contexts w) (op : AssignOp) (target right : Part) → Alike w Like (assign op target.0 right.0 (first c)) (assign op target.0 right.0 (second c))
assign_alike c operation.Assign target right = target.1.assigned c (λ v u. right.1.value (later u c))
assign_alike c op target right = compound_alike c op target right

unary_alike : {w : World} (c : Contexts w) (op : UnaryOp) (operand : Part) → Alike w Like (unary op operand.0 (first c)) (unary op operand.0 (second c))
unary_alike c operator.TypeOf operand = bind (operand.1.reference c) (λ v u _ _ r. bind (read_typed_alike (later u c) r) (λ v' u' _ _ z. keeps_alike (type_of_kept z)))
unary_alike c operator.Delete operand = bind (operand.1.written c) (λ v u _ _ r. keeps_alike (delete_kept r))
unary_alike c op operand = bind (operand.1.value c) (λ v u _ _ z. keeps_alike (given_value (unary_like op z)))

update_alike : {w : World} (c : Contexts w) (op : UpdateOp) (prefix : Bool) (operand : Part) → Alike w Like (update op prefix operand.0 (first c)) (update op prefix operand.0 (second c))
update_alike c op prefix operand =
    bind (operand.1.written c) (λ v u _ _ r. bind (read_alike (later u c) r) (λ v' u' _ _ z. here_bind_same (given_equal (number_same z)) (λ old. here_bind_same (given_same (updated op old)) (λ new.
    bind_same (write_alike (later (above u u') c) (reference_up u' r) (numbers new)) (λ v'' u'' _. give_alike (numbers (cond prefix new old)))))))

sequence_alike : {w : World} (c : Contexts w) (es : List Part) → Alike w Like (sequence (meanings es) (first c)) (sequence (meanings es) (second c))
sequence_alike c [] = outside_alike
sequence_alike c (e ∷ []) = e.1.value c
sequence_alike c (e ∷ f ∷ es) = bind (e.1.value c) (λ v u _ _ z. sequence_alike (later u c) (f ∷ es))

function_value_alike : {w : World} (c : Contexts w) (names : List Id) (function : Part) → Alike w Like (function_value names function.0 (first c)) (function_value names function.0 (second c))
function_value_alike c names function = bind (enter (empties_like true names)) (λ v u _ _ e. function_in (later u c) names e function)
  where
    function_in : {w : World} (c : Contexts w) (names : List Id) {e e' : Entered} → LikeEntered w e e' → (function : Part)
        → Alike w Like (function.0.made Plain None (inside (first c) e) >>= λ f. set_all names e.place (Own f) >>= λ _. give (Own f))
        (function.0.made Plain None (inside (second c) e') >>= λ f. set_all names e'.place (Own f) >>= λ _. give (Own f))
    function_in c names (entered_like {a = a} {b = b} {ids = ids} p) function =
        bind (function.1.made (inward c (entered_like {ids = ids} p)) Plain neither) (λ v u _ _ f. here_bind_same (set_all_kept names (u.environments _ _ p) (owns f)) (λ _. give_alike (owns f)))

pub binary_alike : {w : World} (c : Contexts w) (op : BinaryOp) (left right : Part)
    → Alike w Like (left.0.value (first c) >>= λ v. binary_rest op (short_circuit op v) v right.0 (first c)) (left.0.value (second c) >>= λ v. binary_rest op (short_circuit op v) v right.0 (second c))
binary_alike c op left right = bind (left.1.value c) (λ v u _ _ q. rest (later u c) q)
  where
    rest : {w : World} (c : Contexts w) {v v' : Value} → Like w v v' → Alike w Like (binary_rest op (short_circuit op v) v right.0 (first c)) (binary_rest op (short_circuit op v') v' right.0 (second c))
    rest {w} c {v} {v'} q = subst (λ z. Alike w Like (binary_rest op (short_circuit op v) v right.0 (first c)) (binary_rest op z v' right.0 (second c))) (sym (short_same op q)) (binary_rest_alike c op (short_circuit op v) q right)

-- ---- optional chains

callee_nullish_same : {w : World} {f f' : Callee} → LikeCallee w f f' → callee_is_nullish f' ≡ callee_is_nullish f
callee_nullish_same (called_like q r) = nullish_same q
callee_nullish_same (called_super_like q r) = nullish_same q
callee_nullish_same (borrowed_like p) = refl

member_link_alike : {w : World} (c : Contexts w) (optional : Bool) {v v' : Value} → Like w v v' → (key : Part)
    → Alike w LikeChain (member_link optional v key.0 (first c)) (member_link optional v' key.0 (second c))
member_link_alike c optional q key = when_alike (ap (λ b. optional && b) (nullish_same q)) (give_alike neither) (bind_same (key.1.key c) (λ v u k. give_alike (both (to_members (value_up u q)))))

call_link_alike : {w : World} (c : Contexts w) (optional : Bool) {f f' : Callee} → LikeCallee w f f' → (arguments : Part)
    → Alike w LikeChain (call_link optional f arguments.0 (first c)) (call_link optional f' arguments.0 (second c))
call_link_alike c optional f arguments =
    when_alike (ap (λ b. optional && b) (callee_nullish_same f)) (give_alike neither)
    (bind (arguments.1.arguments c) (λ v u _ _ vs. bind (call_alike (later u c) (callee_up u f) vs) (λ v' u' _ _ z. give_alike (both (to_values z)))))

member_chain : {w : World} (c : Contexts w) (optional : Bool) (key : Part) {o o' : Option Reference} → LikeChain w o o'
    → Alike w LikeChain (continued o (λ r. read_object (first c) r >>= λ v. member_link optional v key.0 (first c))) (continued o' (λ r. read_object (second c) r >>= λ v. member_link optional v key.0 (second c)))
member_chain c optional key neither = give_alike neither
member_chain c optional key (both r) = bind (read_object_alike c r) (λ v u _ _ q. member_link_alike (later u c) optional q key)

call_chain : {w : World} (c : Contexts w) (optional : Bool) (arguments : Part) {o o' : Option Reference} → LikeChain w o o'
    → Alike w LikeChain (continued o (λ r. callee_by (first c) r >>= λ f. call_link optional f arguments.0 (first c))) (continued o' (λ r. callee_by (second c) r >>= λ f. call_link optional f arguments.0 (second c)))
call_chain c optional arguments neither = give_alike neither
call_chain c optional arguments (both r) = bind (callee_by_alike c r) (λ v u _ _ f. call_link_alike (later u c) optional f arguments)

-- ---- by kind

module _ (node : Node) where
  pub value_alike : {w : World} (c : Contexts w) (k : Kind) (ps : List Part) → Alike w Like (value_of node k (meanings ps) (first c)) (value_of node k (meanings ps) (second c))
  value_alike c (kind.Ident sym ctxt optional) [] = value_identifier_alike c sym ctxt
  value_alike c (kind.Str text raw) [] = give_alike (texts text)
  value_alike c (kind.Number number raw) [] = here_bind_same (given_same number) (λ n. give_alike (numbers n))
  value_alike c (kind.Bool truth) [] = give_alike (truths truth)
  value_alike c kind.Null [] = give_alike nulls
  value_alike c kind.ThisExpr [] = keeps_alike (this_kept c.scopes)
  value_alike c (kind.Regex pattern' flags) [] = bind new_regular_expression_alike (λ v u _ _ o. give_alike (owns o))
  value_alike c kind.Tpl (expressions ∷ parts ∷ []) = here_bind_same (given_same parts.0.cooked) (λ ps. bind_same (expressions.1.texts c) (λ v u ts. give_alike (texts (interleaved ps ts))))
  value_alike c kind.ArrayLit (elements ∷ []) = bind (elements.1.elements c) (λ v u _ _ es. bind (new_array_alike es) (λ v' u' _ _ o. give_alike (owns o)))
  value_alike c kind.ObjectLit (properties ∷ []) =
      bind (new_object_alike (objects_like no_more neither neither)) (λ v u _ _ o. bind_same (properties.1.defined (later u c) o o) (λ v' u' _. give_alike (owns (u'.objects _ _ o))))
  value_alike c kind.FnExpr (name ∷ function ∷ []) = function_value_alike c name.0.names function
  value_alike c kind.ClassExpr (name ∷ class ∷ []) = class.1.class_made c name.0.names
  value_alike c (kind.ArrowExpr is_async false) ps = bind (make_function_alike node Arrow neither c) (λ v u _ _ f. give_alike (owns f))
  value_alike c (kind.UnaryExpr op) (operand ∷ []) = unary_alike c op operand
  value_alike c (kind.UpdateExpr op prefix) (operand ∷ []) = update_alike c op prefix operand
  value_alike c (kind.BinExpr op) (left ∷ right ∷ []) = binary_alike c op left right
  value_alike c (kind.AssignExpr op) (target ∷ right ∷ []) = assign_alike c op target right
  value_alike c kind.CondExpr (test ∷ yes' ∷ no' ∷ []) = bind (test.1.value c) (λ v u _ _ q. when_alike (truth_same q) (yes'.1.value (later u c)) (no'.1.value (later u c)))
  value_alike c kind.SeqExpr ps = sequence_alike c ps
  value_alike c kind.MemberExpr (object ∷ key ∷ []) = bind (read_member_alike node c object key) (λ v u _ _ r. read_alike (later u c) r)
  value_alike c kind.SuperPropExpr (super ∷ key ∷ []) = bind (super_reference_alike c key) (λ v u _ _ r. read_alike (later u c) r)
  value_alike c kind.CallExpr (callee ∷ arguments ∷ types ∷ []) = call_by_alike c callee.0.is_super callee arguments
  value_alike c kind.NewExpr (callee ∷ arguments ∷ types ∷ []) =
      bind (callee.1.reference c) (λ v u _ _ r. bind (read_object_alike (later u c) r) (λ v' u' _ _ f. bind (arguments.1.arguments (later (above u u') c)) (λ v'' u'' _ _ vs. construct_alike (later (above u (above u' u'')) c) (value_up u'' f) vs)))
  value_alike c kind.TsExternalModuleRef (source ∷ []) =
      bind (callee_by_alike c (to_frees {name = codes "require"})) (λ v u _ _ f. bind (source.1.arguments (later u c)) (λ v' u' _ _ vs. call_alike (later (above u u') c) (callee_up u' f) vs))
  value_alike c (kind.MetaPropExpr NewTarget) [] = here_bind (activation_kept c.scopes) (λ _ _ a. keeps_alike (given_value a.1.new_target))
  value_alike c (kind.OptChainExpr optional) (base ∷ []) = bind (base.1.link c optional) (λ v u _ _ o. read_alike (later u c) (chained_like o))
  value_alike c _ ps = outside_alike

  valued : {w : World} (c : Contexts w) (k : Kind) (ps : List Part)
      → Alike w LikeReference (value_of node k (meanings ps) (first c) >>= λ v. give (ToValue v)) (value_of node k (meanings ps) (second c) >>= λ v. give (ToValue v))
  valued c k ps = bind (value_alike c k ps) (λ v u _ _ q. give_alike (to_values q))

  pub reference_alike : {w : World} (c : Contexts w) (k : Kind) (ps : List Part) → Alike w LikeReference (reference_of node k (meanings ps) (first c)) (reference_of node k (meanings ps) (second c))
  reference_alike c (kind.Ident sym ctxt optional) [] = identifier_alike c sym ctxt
  reference_alike c kind.BindingIdent (id ∷ annotation ∷ []) = id.1.reference c
  reference_alike c kind.MemberExpr (object ∷ key ∷ []) = read_member_alike node c object key
  reference_alike c kind.SuperPropExpr (super ∷ key ∷ []) = super_reference_alike c key
  reference_alike c (kind.MetaPropExpr ImportMeta) [] = give_alike to_import_metas
  reference_alike c (kind.OptChainExpr optional) (base ∷ []) = bind (base.1.link c optional) (λ v u _ _ o. give_alike (chained_like o))
  reference_alike c k ps = valued c k ps

  pub written_alike : {w : World} (c : Contexts w) (k : Kind) (ps : List Part) → Alike w LikeReference (written_of node k (meanings ps) (first c)) (written_of node k (meanings ps) (second c))
  written_alike c (kind.Ident sym ctxt optional) [] = written_identifier_alike c sym ctxt
  written_alike c kind.BindingIdent (id ∷ annotation ∷ []) = id.1.written c
  written_alike c kind.MemberExpr (object ∷ key ∷ []) = member_reference_alike c object key
  written_alike c k ps = reference_alike c k ps

  pub chain_alike : {w : World} (c : Contexts w) (k : Kind) (ps : List Part) → Alike w LikeChain (chain_of node k (meanings ps) (first c)) (chain_of node k (meanings ps) (second c))
  chain_alike c (kind.OptChainExpr optional) (base ∷ []) = base.1.link c optional
  chain_alike c k ps = bind (reference_alike c k ps) (λ v u _ _ r. give_alike (both r))

  pub initial_alike : {w : World} (c : Contexts w) (k : Kind) (ps : List Part) → Alike w Like (initial_of node k (meanings ps) (first c)) (initial_of node k (meanings ps) (second c))
  initial_alike c kind.Absent ps = give_alike undefineds
  initial_alike c k ps = value_alike c k ps

  pub test_alike : {w : World} (c : Contexts w) (k : Kind) (ps : List Part) → Alike w Like (test_of node k (meanings ps) (first c)) (test_of node k (meanings ps) (second c))
  test_alike c kind.Absent ps = give_alike (truths true)
  test_alike c k ps = value_alike c k ps

pub link_alike : {w : World} (c : Contexts w) (k : Kind) (ps : List Part) (optional : Bool) → Alike w LikeChain (link_of k (meanings ps) optional (first c)) (link_of k (meanings ps) optional (second c))
link_alike c kind.MemberExpr (object ∷ key ∷ []) optional = bind (object.1.chain c) (λ v u _ _ o. member_chain (later u c) optional key o)
link_alike c kind.OptCall (callee ∷ arguments ∷ types ∷ []) optional = bind (callee.1.chain c) (λ v u _ _ o. call_chain (later u c) optional arguments o)
link_alike c _ ps optional = outside_alike

-- ---- parts of expressions

all_arguments_alike : {w : World} (c : Contexts w) (ps : List Part) → Alike w Likes (all_arguments (meanings ps) (first c)) (all_arguments (meanings ps) (second c))
all_arguments_alike c [] = give_alike no_more
all_arguments_alike c (p ∷ ps) = bind (p.1.arguments c) (λ v u _ _ vs. bind (all_arguments_alike (later u c) ps) (λ v' u' _ _ ws. give_alike (each_append (values_up u' vs) ws)))

all_elements_alike : {w : World} (c : Contexts w) (ps : List Part) → Alike w LikeElements (all_elements (meanings ps) (first c)) (all_elements (meanings ps) (second c))
all_elements_alike c [] = give_alike no_more
all_elements_alike c (p ∷ ps) = bind (p.1.elements c) (λ v u _ _ vs. bind (all_elements_alike (later u c) ps) (λ v' u' _ _ ws. give_alike (each_append (elements_up u' vs) ws)))

all_texts_alike : {w : World} (c : Contexts w) (ps : List Part) → Alike w Same (all_texts (meanings ps) (first c)) (all_texts (meanings ps) (second c))
all_texts_alike c [] = give_alike is
all_texts_alike c (p ∷ ps) = bind_same (p.1.texts c) (λ v u vs. bind_same (all_texts_alike (later u c) ps) (λ v' u' ws. give_alike is))

module _ (node : Node) where
  pub arguments_alike : {w : World} (c : Contexts w) (k : Kind) (ps : List Part) → Alike w Likes (arguments_of node k (meanings ps) (first c)) (arguments_of node k (meanings ps) (second c))
  arguments_alike c kind.Absent ps = give_alike no_more
  arguments_alike c kind.List ps = all_arguments_alike c ps
  arguments_alike c (kind.TsTypeAliasDecl declare) ps = give_alike no_more
  arguments_alike c k ps = bind (value_alike node c k ps) (λ v u _ _ q. give_alike (more q no_more))

  pub elements_alike : {w : World} (c : Contexts w) (k : Kind) (ps : List Part) → Alike w LikeElements (elements_of node k (meanings ps) (first c)) (elements_of node k (meanings ps) (second c))
  elements_alike c kind.Absent ps = give_alike (more neither no_more)
  elements_alike c kind.List ps = all_elements_alike c ps
  elements_alike c (kind.TsTypeAliasDecl declare) ps = give_alike no_more
  elements_alike c k ps = bind (value_alike node c k ps) (λ v u _ _ q. give_alike (more (both q) no_more))

  pub texts_alike : {w : World} (c : Contexts w) (k : Kind) (ps : List Part) → Alike w Same (texts_of node k (meanings ps) (first c)) (texts_of node k (meanings ps) (second c))
  texts_alike c kind.List ps = all_texts_alike c ps
  texts_alike c (kind.TsTypeAliasDecl declare) ps = give_alike is
  texts_alike c k ps = bind (value_alike node c k ps) (λ v u _ _ q. here_bind_same (given_equal (text_same q)) (λ t. give_same (t ∷ [])))

pub key_alike : {w : World} (c : Contexts w) (k : Kind) (ps : List Part) → Alike w Same (key_of k (meanings ps) (first c)) (key_of k (meanings ps) (second c))
key_alike c (kind.IdentName sym) [] = give_alike is
key_alike c (kind.Str text raw) [] = give_alike is
key_alike c (kind.Number number raw) [] = here_bind_same (given_same number) (λ n. give_alike is)
key_alike c kind.ComputedPropName (e ∷ []) = bind (e.1.value c) (λ v u _ _ q. keeps_alike (given_equal (text_same q)))
key_alike c _ ps = outside_alike
