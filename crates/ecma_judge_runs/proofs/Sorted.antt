-- Of a tree with the sort of an expression, that is said to have no effects, the laws ask nothing but that its names are told.
use Rattle.std.proofs.Common.{◌≡◌, refl, sym, ap, ◌∙◌, subst, ◌⊎◌, inl, inr, arith, length, replicate, List, [], ◌∷◌, map, Bool, true, false, not, ◌&&◌, ◌||◌}
use Rattle.std.specs.List.{list_all, list_any}
use Rattle.ecma_kind.specs.Sorts.{belongs}
use Rattle.ecma_kind.specs.declared.kind.Kind.{Kind}
use Rattle.ecma_kind.specs.declared.kind.Kind.TheVariants as kind
use Rattle.ecma_kind.specs.declared.shapes.Shape.{Shape}
use Rattle.ecma_kind.specs.declared.shapes.Sort.TheVariants as sort
use Rattle.ecma_tree.specs.Sorted.{is_absent, is_list, child_shapes, all_have_shapes, has_shape, one, maybe, many, with_holes}
use Rattle.ecma_tree.specs.declared.node.Node.{Node, Node-F, fold-roll-Node, fold_out-Node, roll-Node, out-Node, ind-Node}
use Rattle.ecma_tree.specs.declared.node.Node.TheViews.{out-roll-Node}
use Rattle.ecma_judge.specs.declared.ctx.ExprCtx.{ExprCtx}
use Rattle.ecma_judge.specs.Effects.{is_delete, is_static_accessor, has_static_accessor, class_may_call, property_may_call_by, property_may_call, properties_may_call, reads_plainly, reading_may_call_by, effects_by, access_effects_by, part_effects_by}
use Rattle.ecma_judge.specs.Judged.{judged}
use Rattle.ecma_judge.specs.Judgement.{Judged, kid, any_has_effects}
use Rattle.ecma_judge.specs.Parts.{has_kind, is_optional_call, is_there, passes_at}
use Rattle.ecma_judge.specs.PureCallees.{is_pure_member, is_pure_member_of, has_pure_key, pure_callee_by}
use Rattle.ecma_judge.proofs.Judging.{callee-out}
use Rattle.ecma_runs.specs.Meaning.{ExecutionContext}
use Rattle.ecma_judge_runs.proofs.Lone.{lone}
use Rattle.ecma_judge_runs.specs.Called.{Assumed}
use Rattle.ecma_judge_runs.specs.Taken.{Taken, all_whole, all_named, in_place, in_place_by, missing_by, is_taken_by, read_by, called_by, named_by, taken_by, taken}
use Rattle.ecma_judge_runs.specs.Told.{Names, told_by, named_names_by, names_step, names}
use Rattle.ecma_judge_runs.proofs.Both.{both_true, neither_true, two_true, not_true, certain, pure_or_plain}
use Rattle.ecma_judge_runs.proofs.Passing.{passes_first, passes_second}
use Rattle.ecma_judge_runs.proofs.Shapes.{Below, shaped, same_count, untrue, unfalse, never, fails_first, fails_second, function_by_kind}
use Rattle.ecma_judge_runs.proofs.Meanings.{taken-roll, taken-out}
use Rattle.ecma_judge_runs.proofs.Nodes.{effects-roll}

-- ---- accessors

object_item_by : (n : Node) (k : Kind) (ts : List Taken) → belongs sort.PropOrSpread k ≡ true → property_may_call_by k n ≡ false → in_place_by false k ts ≡ true
unfolding property_may_call_by
object_item_by n (kind.Ident name ctxt optional) ts is plain = refl
object_item_by n kind.KeyValueProp ts is plain = refl
object_item_by n kind.AssignProp ts is plain = refl
object_item_by n kind.SpreadElement ts is plain = refl
object_item_by n kind.MethodProp ts is plain = refl
object_item_by n kind.GetterProp ts is plain = absurd (unfalse plain)
object_item_by n kind.SetterProp ts is plain = absurd (unfalse plain)
object_item_by n k ts is plain = absurd (untrue is)

not_both : (a b : Bool) → (a && b) ≡ false → (not b || not a) ≡ true
not_both true true h = absurd (cc)
not_both true false h = refl
not_both false true h = refl
not_both false false h = refl

class_item_by : (k : Kind) (ts : List Taken) → belongs sort.ClassMember k ≡ true → is_static_accessor k ≡ false → in_place_by true k ts ≡ true
class_item_by (kind.ClassMethod word modifiers) ts is plain = not_both modifiers.is_static _ plain
class_item_by (kind.PrivateMethod word modifiers) ts is plain = refl
class_item_by (kind.Constructor accessibility is_optional) ts is plain = refl
class_item_by (kind.ClassProp modifiers readonly declare definite) ts is plain = refl
class_item_by (kind.PrivateProp modifiers readonly declare definite) ts is plain = refl
class_item_by (kind.TsIndexSignature readonly is_static) ts is plain = refl
class_item_by kind.EmptyStmt ts is plain = refl
class_item_by kind.StaticBlock ts is plain = refl
class_item_by k ts is plain = absurd (untrue is)

missing_kind : (k : Kind) → not (is_absent k) ≡ false → missing_by k ≡ true
missing_kind kind.Absent h = refl
missing_kind k h = absurd (unfalse h)

abbrev pub all : Assumed
all = record { globals = true; calls = true }

module _ (ctx : ExprCtx) (x : ExecutionContext) where
  abbrev mark : Node → Taken
  mark n = taken ctx x.known.declared all n

  abbrev pub name : Node → Names
  name n = names ctx x.known.declared n

  object_items : (cs : List Node) → all_have_shapes (replicate (length cs) (one sort.PropOrSpread)) (map has_shape cs) ≡ true → list_any property_may_call cs ≡ false → list_all (λ (t : Taken). in_place false t) (map mark cs) ≡ true
  object_items [] below plain = refl
  object_items (c ∷ cs) below plain =
      let b = both_true (has_shape c (one sort.PropOrSpread)) (all_have_shapes (replicate (length cs) (one sort.PropOrSpread)) (map has_shape cs)) below in
      let p = neither_true (property_may_call c) (list_any property_may_call cs) plain in
      two_true (mark c).in_object (list_all (λ (t : Taken). in_place false t) (map mark cs))
      (ap (λ (t : Taken). t.in_object) (taken-out ctx all (lone x) c) ∙ object_item_by c (out-Node c).kind (map mark (out-Node c).children) (shaped c (one sort.PropOrSpread) b.0).0 p.0) (object_items cs b.1 p.1)

  object_by : (k : Kind) (cs : List Node) → is_list k ≡ true → Below k (many sort.PropOrSpread) cs → list_any property_may_call cs ≡ false → in_place_by false k (map mark cs) ≡ true
  object_by kind.List cs is below plain = object_items cs below plain
  object_by k cs is below plain = absurd (untrue is)

  -- properties of which none may call are no accessors
  in_object : (n : Node) → has_shape n (many sort.PropOrSpread) ≡ true → properties_may_call n ≡ false → (mark n).in_object ≡ true
  in_object n h plain =
      let t = shaped n (many sort.PropOrSpread) h in ap (λ (t : Taken). t.in_object) (taken-out ctx all (lone x) n) ∙ object_by (out-Node n).kind (out-Node n).children t.0 t.1 plain

  class_items : (cs : List Node) → all_have_shapes (replicate (length cs) (one sort.ClassMember)) (map has_shape cs) ≡ true → list_any (has_kind is_static_accessor) cs ≡ false → list_all (λ (t : Taken). in_place true t) (map mark cs) ≡ true
  class_items [] below plain = refl
  class_items (c ∷ cs) below plain =
      let b = both_true (has_shape c (one sort.ClassMember)) (all_have_shapes (replicate (length cs) (one sort.ClassMember)) (map has_shape cs)) below in
      let p = neither_true (has_kind is_static_accessor c) (list_any (has_kind is_static_accessor) cs) plain in
      two_true (mark c).in_class (list_all (λ (t : Taken). in_place true t) (map mark cs))
      (ap (λ (t : Taken). t.in_class) (taken-out ctx all (lone x) c) ∙ class_item_by (out-Node c).kind (map mark (out-Node c).children) (shaped c (one sort.ClassMember) b.0).0 p.0) (class_items cs b.1 p.1)

  class_list_by : (k : Kind) (cs : List Node) → is_list k ≡ true → Below k (many sort.ClassMember) cs → list_any (has_kind is_static_accessor) cs ≡ false → in_place_by true k (map mark cs) ≡ true
  class_list_by kind.List cs is below plain = class_items cs below plain
  class_list_by k cs is below plain = absurd (untrue is)

  class_list : (n : Node) → has_shape n (many sort.ClassMember) ≡ true → has_static_accessor n ≡ false → (mark n).in_class ≡ true
  class_list n h plain =
      let t = shaped n (many sort.ClassMember) h in ap (λ (t : Taken). t.in_class) (taken-out ctx all (lone x) n) ∙ class_list_by (out-Node n).kind (out-Node n).children t.0 t.1 plain

  class_by : (n : Node) (k : Kind) (cs : List Node) → (out-Node n).children ≡ cs → belongs sort.Class k ≡ true → Below k (one sort.Class) cs → class_may_call n ≡ false → in_place_by true k (map mark cs) ≡ true
  class_by n (kind.Class is_abstract) (super ∷ body ∷ types ∷ super_types ∷ implements ∷ []) shape is below plain =
      let b = both_true (has_shape super (maybe sort.Expr)) _ below in
      let c = both_true (has_shape body (many sort.ClassMember)) _ b.1 in
      let p = neither_true (passes_at is_there 0 n) (passes_at has_static_accessor 1 n) plain in
      two_true (mark super).missing (mark body).in_class
      (ap (λ (t : Taken). t.missing) (taken-out ctx all (lone x) super) ∙ missing_kind (out-Node super).kind (fails_first is_there n super (body ∷ types ∷ super_types ∷ implements ∷ []) shape p.0))
      (class_list body c.0 (fails_second has_static_accessor n super body (types ∷ super_types ∷ implements ∷ []) shape p.1))
  class_by n (kind.Class is_abstract) cs shape is below plain = absurd (omega (arith, same_count (child_shapes (kind.Class is_abstract) (one sort.Class) (length cs)) cs below))
  class_by n k cs shape is below plain = absurd (untrue is)

  -- a class that may call nothing has no accessor
  in_class : (n : Node) → has_shape n (one sort.Class) ≡ true → class_may_call n ≡ false → (mark n).in_class ≡ true
  in_class n h plain =
      let t = shaped n (one sort.Class) h in ap (λ (t : Taken). t.in_class) (taken-out ctx all (lone x) n) ∙ class_by n (out-Node n).kind (out-Node n).children refl t.0 t.1 plain

  -- ---- pure callees

  pure_read_by : (k l : Kind) (ts : List Taken) → is_pure_member ctx k l ≡ true → read_by ctx x.known.declared all k ts ≡ true
  pure_read_by (kind.Ident sym ctxt optional) l ts is = refl
  pure_read_by (kind.Str value raw) l ts is = refl
  pure_read_by k (kind.IdentName sym) ts is = absurd (untrue is)
  pure_read_by k l ts is = absurd (untrue is)

  pure_read : (object key : Node) → is_pure_member_of ctx object key ≡ true → (mark object).read ≡ true
  pure_read object key is = ap (λ (t : Taken). t.read) (taken-out ctx all (lone x) object) ∙ pure_read_by (out-Node object).kind (out-Node key).kind (map mark (out-Node object).children) is

  pure_member_read : (n object key : Node) (cs : List Node) → (out-Node n).children ≡ object ∷ key ∷ cs → pure_callee_by ctx kind.MemberExpr n ≡ true → (mark object).read ≡ true
  unfolding pure_callee_by
  pure_member_read n object key cs shape is =
      pure_read object key (passes_second (is_pure_member_of ctx object) n object key cs shape (passes_first (has_pure_key ctx n) n object (key ∷ cs) shape is))

  pure_key_by : (object k : Kind) (cs : List Node) → is_pure_member ctx object k ≡ true → Below k (one sort.MemberProp) cs → is_taken_by ctx x.known.declared all k (map mark cs) ≡ true
  pure_key_by object (kind.IdentName sym) [] is below = refl
  pure_key_by object (kind.IdentName sym) (c ∷ cs) is below = absurd (untrue below)
  pure_key_by object k cs is below = absurd (untrue is)

  pure_key : (object key : Node) → is_pure_member_of ctx object key ≡ true → has_shape key (one sort.MemberProp) ≡ true → (mark key).whole ≡ true
  pure_key object key is h =
      ap (λ (t : Taken). t.whole) (taken-out ctx all (lone x) key) ∙ pure_key_by (out-Node object).kind (out-Node key).kind (out-Node key).children is (shaped key (one sort.MemberProp) h).1

  pure_key_whole : (n object key : Node) (cs : List Node) → (out-Node n).children ≡ object ∷ key ∷ cs → has_shape key (one sort.MemberProp) ≡ true → pure_callee_by ctx kind.MemberExpr n ≡ true → (mark key).whole ≡ true
  unfolding pure_callee_by
  pure_key_whole n object key cs shape h is =
      pure_key object key (passes_second (is_pure_member_of ctx object) n object key cs shape (passes_first (has_pure_key ctx n) n object (key ∷ cs) shape is)) h

  called_by_pure : (n : Node) (k : Kind) (cs : List Node) → (out-Node n).children ≡ cs → (s : Shape) → Below k s cs → pure_callee_by ctx k n ≡ true → called_by ctx x.known.declared all k n (map mark cs) ≡ true
  unfolding pure_callee_by
  called_by_pure n (kind.Ident sym ctxt optional) cs shape s below is = refl
  called_by_pure n kind.MemberExpr (object ∷ key ∷ cs) shape s below is = pure_member_read n object key cs shape is
  called_by_pure n kind.FnExpr cs shape s below is = function_by_kind n cs shape s below is
  called_by_pure n k cs shape s below is = refl

  -- a callee that is pure is spoken of
  pure_called : (n : Node) (s : Shape) → has_shape n s ≡ true → (judged ctx n).pure_callee ≡ true → (mark n).called ≡ true
  pure_called n s h pure =
      ap (λ (t : Taken). t.called) (taken-out ctx all (lone x) n) ∙ called_by_pure n (out-Node n).kind (out-Node n).children refl s (shaped n s h).1 (sym (callee-out ctx n) ∙ pure)

  -- ---- each node

  pub record Sortable (n : Node) : Type 0 where
    pub named : (name n).named ≡ true → (mark n).named ≡ true
    pub whole : (s : Shape) → has_shape n s ≡ true → (judged ctx n).effects ≡ false → (name n).told ≡ true → (mark n).whole ≡ true
    pub read : (s : Shape) → has_shape n s ≡ true → (judged ctx n).effects ≡ false → (name n).told ≡ true → reads_plainly n ≡ true → (mark n).read ≡ true

  abbrev SortableNode : Type 0
  SortableNode = (n : Node) × Sortable n

  abbrev nodes : List SortableNode → List Node
  nodes ns = map (λ e. e.0) ns

  abbrev judgements : List SortableNode → List Judged
  judgements ns = map (judged ctx) (nodes ns)

  abbrev marks : List SortableNode → List Taken
  marks ns = map mark (nodes ns)

  abbrev all_names : List SortableNode → List Names
  all_names ns = map name (nodes ns)

  abbrev all_told : List SortableNode → Bool
  all_told ns = list_all (λ (n : Names). n.told) (all_names ns)

  abbrev Shaped : List Shape → List SortableNode → Type 0
  Shaped shapes ns = all_have_shapes shapes (map has_shape (nodes ns)) ≡ true

  abbrev Idle : Node → Kind → List SortableNode → Type 0
  Idle n k ns = (not (pure_callee_by ctx k n) && effects_by ctx k n (judgements ns)) ≡ false

  -- names

  list_named : (ns : List SortableNode) → list_all (λ (n : Names). n.named) (all_names ns) ≡ true → all_named (marks ns) ≡ true
  list_named [] h = refl
  list_named (n ∷ ns) h =
      let t = both_true (name n.0).named (list_all (λ (n : Names). n.named) (all_names ns)) h in two_true (mark n.0).named (all_named (marks ns)) (n.1.named t.0) (list_named ns t.1)

  layer_named : (k : Kind) (ns : List SortableNode) → named_names_by ctx x.known.declared k (all_names ns) ≡ true → named_by ctx x.known.declared all k (marks ns) ≡ true
  layer_named (kind.Ident sym ctxt optional) ns h = h
  layer_named k ns h = list_named ns h

  -- children

  each_whole : (shapes : List Shape) (ns : List SortableNode) → Shaped shapes ns → any_has_effects (judgements ns) ≡ false → all_told ns ≡ true → all_whole (marks ns) ≡ true
  each_whole shapes [] below none told = refl
  each_whole [] (n ∷ ns) below none told = absurd (untrue below)
  each_whole (s ∷ shapes) (n ∷ ns) below none told =
      let b = both_true (has_shape n.0 s) (all_have_shapes shapes (map has_shape (nodes ns))) below in
      let e = neither_true (judged ctx n.0).effects (any_has_effects (judgements ns)) none in
      let t = both_true (name n.0).told (all_told ns) told in
      two_true (mark n.0).whole (all_whole (marks ns)) (n.1.whole s b.0 e.0 t.0) (each_whole shapes ns b.1 e.1 t.1)

  one_whole : (s : Shape) (ns : List SortableNode) → Shaped (s ∷ []) ns → (kid (judgements ns) 0).effects ≡ false → all_told ns ≡ true → all_whole (marks ns) ≡ true
  one_whole s [] below none told = refl
  one_whole s (n ∷ []) below none told = two_true (mark n.0).whole true (n.1.whole s (both_true (has_shape n.0 s) true below).0 none (both_true (name n.0).told true told).0) refl
  one_whole s (n ∷ m ∷ ns) below none told = absurd (never (has_shape n.0 s) below)

  head_whole : (s : Shape) (shapes : List Shape) (n : SortableNode) (ns : List SortableNode) → Shaped (s ∷ shapes) (n ∷ ns) → (judged ctx n.0).effects ≡ false → (name n.0).told ≡ true → (mark n.0).whole ≡ true
  head_whole s shapes n ns below none told = n.1.whole s (both_true (has_shape n.0 s) (all_have_shapes shapes (map has_shape (nodes ns))) below).0 none told

  -- both of two, behind which stands what is not asked
  two_whole : (s r : Shape) (shapes : List Shape) (m n : SortableNode) (ns : List SortableNode) → Shaped (s ∷ r ∷ shapes) (m ∷ n ∷ ns) → ((judged ctx m.0).effects || (judged ctx n.0).effects) ≡ false
      → all_told (m ∷ n ∷ ns) ≡ true → ((mark m.0).whole && (mark n.0).whole) ≡ true
  two_whole s r shapes m n ns below none told =
      let b = both_true (has_shape m.0 s) (all_have_shapes (r ∷ shapes) (map has_shape (nodes (n ∷ ns)))) below in
      let e = neither_true (judged ctx m.0).effects (judged ctx n.0).effects none in
      let t = both_true (name m.0).told (all_told (n ∷ ns)) told in
      two_true (mark m.0).whole (mark n.0).whole (head_whole s (r ∷ shapes) m (n ∷ ns) below e.0 t.0) (head_whole r shapes n ns b.1 e.1 (both_true (name n.0).told (all_told ns) t.1).0)

  function_whole_by : (k : Kind) (ts : List Taken) → belongs sort.Function k ≡ true → is_taken_by ctx x.known.declared all k ts ≡ true
  function_whole_by (kind.Function is_generator is_async) ts is = refl
  function_whole_by k ts is = absurd (untrue is)

  function_whole : (n : Node) → has_shape n (one sort.Function) ≡ true → (mark n).whole ≡ true
  function_whole n h =
      ap (λ (t : Taken). t.whole) (taken-out ctx all (lone x) n) ∙ function_whole_by (out-Node n).kind (map mark (out-Node n).children) (shaped n (one sort.Function) h).0

  -- a method
  method_whole : (s : Shape) (ns : List SortableNode) → Shaped (s ∷ one sort.Function ∷ []) ns → (kid (judgements ns) 0).effects ≡ false → all_told ns ≡ true → all_whole (marks ns) ≡ true
  method_whole s [] below none told = refl
  method_whole s (key ∷ []) below none told = absurd (never (has_shape key.0 s) below)
  method_whole s (key ∷ function ∷ []) below none told =
      let b = both_true (has_shape key.0 s) (has_shape function.0 (one sort.Function) && true) below in
      two_true (mark key.0).whole ((mark function.0).whole && true) (key.1.whole s b.0 none (both_true (name key.0).told (all_told (function ∷ [])) told).0)
      (two_true (mark function.0).whole true (function_whole function.0 (both_true (has_shape function.0 (one sort.Function)) true b.1).0) refl)
  method_whole s (key ∷ function ∷ n ∷ ns) below none told =
      let b = both_true (has_shape key.0 s) (has_shape function.0 (one sort.Function) && false) below in absurd (never (has_shape function.0 (one sort.Function)) b.1)

  pub names-out : (n : Node) → name n ≡ names_step ctx x.known.declared (record { span = (out-Node n).span; kind = (out-Node n).kind; children = map name (out-Node n).children })
  names-out n = fold_out-Node Names (names_step ctx x.known.declared) n

  class_name_by : (k : Kind) (cs : List Node) → (is_absent k || belongs sort.Ident k) ≡ true → Below k (maybe sort.Ident) cs → told_by ctx x.known.declared k (map name cs) ≡ true → is_taken_by ctx x.known.declared all k (map mark cs) ≡ true
  class_name_by (kind.Ident sym ctxt optional) cs is below told = told
  class_name_by kind.Absent [] is below told = refl
  class_name_by kind.Absent (c ∷ cs) is below told = absurd (untrue below)
  class_name_by k cs is below told = absurd (untrue is)

  -- the inner name of a class expression
  class_name : (n : Node) → has_shape n (maybe sort.Ident) ≡ true → (name n).told ≡ true → (mark n).whole ≡ true
  class_name n h told =
      let t = shaped n (maybe sort.Ident) h in
      ap (λ (t : Taken). t.whole) (taken-out ctx all (lone x) n) ∙ class_name_by (out-Node n).kind (out-Node n).children t.0 t.1 (sym (ap (λ (m : Names). m.told) (names-out n)) ∙ told)

  -- a member: of a pure callee, or of what reads plainly
  member_whole : (n : Node) (object key : SortableNode) (ns : List SortableNode) → (out-Node n).children ≡ object.0 ∷ key.0 ∷ nodes ns → Shaped (one sort.Expr ∷ one sort.MemberProp ∷ []) (object ∷ key ∷ ns)
      → (pure_callee_by ctx kind.MemberExpr n ≡ true) ⊎ ((passes_at reads_plainly 0 n ≡ true) × (((judged ctx object.0).effects || (judged ctx key.0).effects) ≡ false))
      → all_told (object ∷ key ∷ ns) ≡ true → ((mark object.0).read && (mark key.0).whole) ≡ true
  member_whole n object key ns shape below (inl pure) told =
      let b = both_true (has_shape object.0 (one sort.Expr)) (all_have_shapes (one sort.MemberProp ∷ []) (map has_shape (nodes (key ∷ ns)))) below in
      let c = both_true (has_shape key.0 (one sort.MemberProp)) (all_have_shapes [] (map has_shape (nodes ns))) b.1 in
      two_true (mark object.0).read (mark key.0).whole (pure_member_read n object.0 key.0 (nodes ns) shape pure) (pure_key_whole n object.0 key.0 (nodes ns) shape c.0 pure)
  member_whole n object key ns shape below (inr h) told =
      let b = both_true (has_shape object.0 (one sort.Expr)) (all_have_shapes (one sort.MemberProp ∷ []) (map has_shape (nodes (key ∷ ns)))) below in
      let e = neither_true (judged ctx object.0).effects (judged ctx key.0).effects h.1 in
      let t = both_true (name object.0).told (all_told (key ∷ ns)) told in
      two_true (mark object.0).read (mark key.0).whole (object.1.read (one sort.Expr) b.0 e.0 t.0 (passes_first reads_plainly n object.0 (key.0 ∷ nodes ns) shape h.0))
      (head_whole (one sort.MemberProp) [] key ns b.1 e.1 (both_true (name key.0).told (all_told ns) t.1).0)

  call_whole : (s : Shape) (shapes : List Shape) (callee arguments : SortableNode) (ns : List SortableNode) → Shaped (s ∷ many sort.ExprOrSpread ∷ shapes) (callee ∷ arguments ∷ ns)
      → (not (judged ctx callee.0).pure_callee || (judged ctx arguments.0).effects) ≡ false → all_told (callee ∷ arguments ∷ ns) ≡ true → ((mark callee.0).called && (mark arguments.0).whole) ≡ true
  call_whole s shapes callee arguments ns below none told =
      let b = both_true (has_shape callee.0 s) (all_have_shapes (many sort.ExprOrSpread ∷ shapes) (map has_shape (nodes (arguments ∷ ns)))) below in
      let e = neither_true (not (judged ctx callee.0).pure_callee) (judged ctx arguments.0).effects none in
      let t = both_true (name callee.0).told (all_told (arguments ∷ ns)) told in
      two_true (mark callee.0).called (mark arguments.0).whole (pure_called callee.0 s b.0 (certain (judged ctx callee.0).pure_callee e.0))
      (head_whole (many sort.ExprOrSpread) shapes arguments ns b.1 e.1 (both_true (name arguments.0).told (all_told ns) t.1).0)

  -- a node without children
  leaf_whole : (ns : List SortableNode) → Shaped [] ns → all_whole (marks ns) ≡ true
  leaf_whole [] below = refl
  leaf_whole (m ∷ ns) below = absurd (untrue below)

  -- by the first child
  module _ (k : Kind) (s : Shape) (shapes : List Shape) (by_none : is_taken_by ctx x.known.declared all k [] ≡ true) (by_first : (t : Taken) (ts : List Taken) → t.whole ≡ true → is_taken_by ctx x.known.declared all k (t ∷ ts) ≡ true) where
    first_whole : (ns : List SortableNode) → Shaped (s ∷ shapes) ns → (kid (judgements ns) 0).effects ≡ false → all_told ns ≡ true → is_taken_by ctx x.known.declared all k (marks ns) ≡ true
    first_whole [] below none told = by_none
    first_whole (e ∷ ns) below none told = by_first (mark e.0) (marks ns) (head_whole s shapes e ns below none (both_true (name e.0).told (all_told ns) told).0)

  getter_whole : (ns : List SortableNode) → Shaped (one sort.PropName ∷ maybe sort.TsTypeAnn ∷ maybe sort.BlockStmt ∷ []) ns → (kid (judgements ns) 0).effects ≡ false
      → told_by ctx x.known.declared kind.GetterProp (all_names ns) ≡ true → is_taken_by ctx x.known.declared all kind.GetterProp (marks ns) ≡ true
  getter_whole [] below none told = refl
  getter_whole (key ∷ ns) below none told = head_whole (one sort.PropName) (maybe sort.TsTypeAnn ∷ maybe sort.BlockStmt ∷ []) key ns below none told

  setter_whole : (ns : List SortableNode) → Shaped (one sort.PropName ∷ maybe sort.Pat ∷ one sort.Pat ∷ maybe sort.BlockStmt ∷ []) ns → (kid (judgements ns) 0).effects ≡ false
      → told_by ctx x.known.declared kind.SetterProp (all_names ns) ≡ true → is_taken_by ctx x.known.declared all kind.SetterProp (marks ns) ≡ true
  setter_whole [] below none told = refl
  setter_whole (key ∷ ns) below none told = head_whole (one sort.PropName) (maybe sort.Pat ∷ one sort.Pat ∷ maybe sort.BlockStmt ∷ []) key ns below none told

  -- by the first two

  entry_whole : (ns : List SortableNode) → Shaped (one sort.PropName ∷ one sort.Expr ∷ []) ns → ((kid (judgements ns) 0).effects || (kid (judgements ns) 1).effects) ≡ false → all_told ns ≡ true → all_whole (marks ns) ≡ true
  entry_whole [] below none told = refl
  entry_whole (m ∷ []) below none told = absurd (never (has_shape m.0 (one sort.PropName)) below)
  entry_whole (key ∷ value ∷ []) below none told =
      let u = both_true (mark key.0).whole (mark value.0).whole (two_whole (one sort.PropName) (one sort.Expr) [] key value [] below none told) in
      two_true (mark key.0).whole ((mark value.0).whole && true) u.0 (two_true (mark value.0).whole true u.1 refl)
  entry_whole (key ∷ value ∷ m ∷ ns) below none told =
      absurd (never (has_shape value.0 (one sort.Expr)) (both_true (has_shape key.0 (one sort.PropName)) (has_shape value.0 (one sort.Expr) && false) below).1)

  field_whole : (k : Kind) (s r : Shape) (shapes : List Shape) → is_taken_by ctx x.known.declared all k [] ≡ true
      → ((t u : Taken) (ts : List Taken) → (t.whole && u.whole) ≡ true → is_taken_by ctx x.known.declared all k (t ∷ u ∷ ts) ≡ true)
      → (ns : List SortableNode) → Shaped (s ∷ r ∷ shapes) ns → ((kid (judgements ns) 0).effects || (kid (judgements ns) 1).effects) ≡ false → all_told ns ≡ true → is_taken_by ctx x.known.declared all k (marks ns) ≡ true
  field_whole k s r shapes by_none by_both [] below none told = by_none
  field_whole k s r shapes by_none by_both (m ∷ []) below none told = absurd (never (has_shape m.0 s) below)
  field_whole k s r shapes by_none by_both (m ∷ n ∷ ns) below none told = by_both (mark m.0) (mark n.0) (marks ns) (two_whole s r shapes m n ns below none told)

  -- class expressions
  class_whole : (ns : List SortableNode) → Shaped (maybe sort.Ident ∷ one sort.Class ∷ []) ns → (kid (judgements ns) 1).effects ≡ false → told_by ctx x.known.declared kind.ClassExpr (all_names ns) ≡ true
      → is_taken_by ctx x.known.declared all kind.ClassExpr (marks ns) ≡ true
  class_whole [] below none told = refl
  class_whole (m ∷ []) below none told = absurd (never (has_shape m.0 (maybe sort.Ident)) below)
  class_whole (inner ∷ class ∷ ns) below none told =
      let b = both_true (has_shape inner.0 (maybe sort.Ident)) (all_have_shapes (one sort.Class ∷ []) (map has_shape (nodes (class ∷ ns)))) below in
      let t = both_true (name inner.0).told ((name class.0).told && (name inner.0).named) told in
      let u = both_true (name class.0).told (name inner.0).named t.1 in
      two_true (mark inner.0).whole ((mark class.0).whole && (mark inner.0).named) (class_name inner.0 b.0 t.0)
      (two_true (mark class.0).whole (mark inner.0).named (head_whole (one sort.Class) [] class ns b.1 none u.0) (inner.1.named u.1))

  members_whole : (n : Node) (ns : List SortableNode) → (out-Node n).children ≡ nodes ns → Shaped (one sort.Expr ∷ one sort.MemberProp ∷ []) ns
      → (pure_callee_by ctx kind.MemberExpr n ≡ true) ⊎ ((passes_at reads_plainly 0 n ≡ true) × (((kid (judgements ns) 0).effects || (kid (judgements ns) 1).effects) ≡ false))
      → all_told ns ≡ true → is_taken_by ctx x.known.declared all kind.MemberExpr (marks ns) ≡ true
  members_whole n [] shape below none told = refl
  members_whole n (m ∷ []) shape below none told = absurd (never (has_shape m.0 (one sort.Expr)) below)
  members_whole n (object ∷ key ∷ ns) shape below none told = member_whole n object key ns shape below none told

  calls_whole : (k : Kind) (s : Shape) (shapes : List Shape) → is_taken_by ctx x.known.declared all k [] ≡ true
      → ((t u : Taken) (ts : List Taken) → (t.called && u.whole) ≡ true → is_taken_by ctx x.known.declared all k (t ∷ u ∷ ts) ≡ true)
      → (ns : List SortableNode) → Shaped (s ∷ many sort.ExprOrSpread ∷ shapes) ns → (not (kid (judgements ns) 0).pure_callee || (kid (judgements ns) 1).effects) ≡ false → all_told ns ≡ true
      → is_taken_by ctx x.known.declared all k (marks ns) ≡ true
  calls_whole k s shapes by_none by_both [] below none told = by_none
  calls_whole k s shapes by_none by_both (m ∷ []) below none told = absurd (never (has_shape m.0 s) below)
  calls_whole k s shapes by_none by_both (callee ∷ arguments ∷ ns) below none told = by_both (mark callee.0) (mark arguments.0) (marks ns) (call_whole s shapes callee arguments ns below none told)

  layer_whole : (n : Node) (k : Kind) (ns : List SortableNode) → (out-Node n).children ≡ nodes ns → (s : Shape) → Shaped (child_shapes k s (length (nodes ns))) ns → Idle n k ns
      → told_by ctx x.known.declared k (all_names ns) ≡ true → is_taken_by ctx x.known.declared all k (marks ns) ≡ true
  unfolding effects_by access_effects_by part_effects_by pure_callee_by
  layer_whole n (kind.Ident sym ctxt optional) ns shape s below none told = told
  layer_whole n (kind.Str value raw) ns shape s below none told = leaf_whole ns below
  layer_whole n (kind.Bool value) ns shape s below none told = leaf_whole ns below
  layer_whole n kind.Null ns shape s below none told = leaf_whole ns below
  layer_whole n (kind.Number value raw) ns shape s below none told = leaf_whole ns below
  layer_whole n (kind.BigInt value raw) ns shape s below none told = leaf_whole ns below
  layer_whole n (kind.Regex exp flags) ns shape s below none told = leaf_whole ns below
  layer_whole n kind.ThisExpr ns shape s below none told = leaf_whole ns below
  layer_whole n (kind.PrivateName sym) ns shape s below none told = leaf_whole ns below
  layer_whole n kind.Absent ns shape s below none told = leaf_whole ns below
  layer_whole n (kind.IdentName sym) ns shape s below none told = leaf_whole ns below
  layer_whole n kind.EmptyStmt ns shape s below none told = leaf_whole ns below
  layer_whole n (kind.TsIndexSignature readonly is_static) ns shape s below none told = leaf_whole ns below
  layer_whole n kind.FnExpr ns shape s below none told = refl
  layer_whole n (kind.ArrowExpr is_async is_generator) ns shape s below none told = refl
  layer_whole n (kind.Constructor accessibility is_optional) ns shape s below none told = refl
  layer_whole n (kind.PrivateMethod word modifiers) ns shape s below none told = refl
  layer_whole n (kind.PrivateProp modifiers readonly declare definite) ns shape s below none told = refl
  layer_whole n kind.StaticBlock ns shape s below none told = refl
  layer_whole n (kind.Function is_generator is_async) ns shape s below none told = refl
  layer_whole n kind.ParenExpr ns shape s below none told = one_whole (one sort.Expr) ns below none told
  layer_whole n kind.TsConstAssertion ns shape s below none told = one_whole (one sort.Expr) ns below none told
  layer_whole n kind.TsNonNullExpr ns shape s below none told = one_whole (one sort.Expr) ns below none told
  layer_whole n kind.ComputedPropName ns shape s below none told = one_whole (one sort.Expr) ns below none told
  layer_whole n kind.ArrayLit ns shape s below none told = one_whole (with_holes sort.ExprOrSpread) ns below none told
  layer_whole n kind.ObjectLit ns shape s below none told = one_whole (many sort.PropOrSpread) ns below none told
  layer_whole n (kind.UnaryExpr op) ns shape s below none told = one_whole (one sort.Expr) ns below (neither_true (is_delete op) (kid (judgements ns) 0).effects none).1 told
  layer_whole n (kind.OptChainExpr optional) ns shape s below none told = one_whole (one sort.OptChainBase) ns below (neither_true (not (passes_at (has_kind is_optional_call) 0 n)) (kid (judgements ns) 0).effects none).1 told
  layer_whole n kind.List ns shape s below none told = each_whole (child_shapes kind.List s (length (nodes ns))) ns below none told
  layer_whole n kind.SeqExpr ns shape s below none told = each_whole (child_shapes kind.SeqExpr s (length (nodes ns))) ns below none told
  layer_whole n (kind.BinExpr op) ns shape s below none told = each_whole (child_shapes (kind.BinExpr op) s (length (nodes ns))) ns below none told
  layer_whole n kind.CondExpr ns shape s below none told = each_whole (child_shapes kind.CondExpr s (length (nodes ns))) ns below none told
  layer_whole n kind.TsTypeAssertion ns shape s below none told = first_whole kind.TsTypeAssertion (one sort.Expr) (one sort.TsType ∷ []) refl (λ t ts h. h) ns below none told
  layer_whole n kind.TsAsExpr ns shape s below none told = first_whole kind.TsAsExpr (one sort.Expr) (one sort.TsType ∷ []) refl (λ t ts h. h) ns below none told
  layer_whole n kind.TsInstantiation ns shape s below none told = first_whole kind.TsInstantiation (one sort.Expr) (one sort.TsTypeParamInstantiation ∷ []) refl (λ t ts h. h) ns below none told
  layer_whole n kind.TsSatisfiesExpr ns shape s below none told = first_whole kind.TsSatisfiesExpr (one sort.Expr) (one sort.TsType ∷ []) refl (λ t ts h. h) ns below none told
  layer_whole n kind.GetterProp ns shape s below none told = getter_whole ns below none told
  layer_whole n kind.SetterProp ns shape s below none told = setter_whole ns below none told
  layer_whole n kind.MethodProp ns shape s below none told = method_whole (one sort.PropName) ns below none told
  layer_whole n (kind.ClassMethod word modifiers) ns shape s below none told = method_whole (one sort.PropName) ns below none told
  layer_whole n kind.KeyValueProp ns shape s below none told = entry_whole ns below none told
  layer_whole n (kind.ClassProp modifiers readonly declare definite) ns shape s below none told = field_whole (kind.ClassProp modifiers readonly declare definite) (one sort.PropName) (maybe sort.Expr) (maybe sort.TsTypeAnn ∷ []) refl (λ t u ts h. h) ns below none told
  layer_whole n (kind.Class is_abstract) ns shape s below none told = field_whole (kind.Class is_abstract) (maybe sort.Expr) (many sort.ClassMember) (maybe sort.TsTypeParamDecl ∷ maybe sort.TsTypeParamInstantiation ∷ many sort.TsType ∷ []) refl (λ t u ts h. h) ns below none told
  layer_whole n kind.ClassExpr ns shape s below none told = class_whole ns below none told
  layer_whole n kind.MemberExpr ns shape s below none told = members_whole n ns shape below (pure_or_plain (passes_at (has_pure_key ctx n) 0 n) (passes_at reads_plainly 0 n) ((kid (judgements ns) 0).effects || (kid (judgements ns) 1).effects) none) told
  layer_whole n kind.CallExpr ns shape s below none told = calls_whole kind.CallExpr (one sort.Callee) (maybe sort.TsTypeParamInstantiation ∷ []) refl (λ t u ts h. h) ns below none told
  layer_whole n kind.OptCall ns shape s below none told = calls_whole kind.OptCall (one sort.Expr) (maybe sort.TsTypeParamInstantiation ∷ []) refl (λ t u ts h. h) ns below none told
  layer_whole n k ns shape s below none told = absurd (unfalse none)

  -- the object of a member that is read

  object_read : (n : Node) (ns : List SortableNode) → (out-Node n).children ≡ nodes ns → Shaped (many sort.PropOrSpread ∷ []) ns → (kid (judgements ns) 0).effects ≡ false → all_told ns ≡ true
      → passes_at properties_may_call 0 n ≡ false → read_by ctx x.known.declared all kind.ObjectLit (marks ns) ≡ true
  object_read n [] shape below none told plain = refl
  object_read n (properties ∷ ns) shape below none told plain =
      two_true (mark properties.0).whole (mark properties.0).in_object
      (head_whole (many sort.PropOrSpread) [] properties ns below none (both_true (name properties.0).told (all_told ns) told).0)
      (in_object properties.0 (both_true (has_shape properties.0 (many sort.PropOrSpread)) (all_have_shapes [] (map has_shape (nodes ns))) below).0 (fails_first properties_may_call n properties.0 (nodes ns) shape plain))

  class_read : (n : Node) (ns : List SortableNode) → (out-Node n).children ≡ nodes ns → Shaped (maybe sort.Ident ∷ one sort.Class ∷ []) ns → (kid (judgements ns) 1).effects ≡ false
      → told_by ctx x.known.declared kind.ClassExpr (all_names ns) ≡ true → passes_at class_may_call 1 n ≡ false → read_by ctx x.known.declared all kind.ClassExpr (marks ns) ≡ true
  class_read n [] shape below none told plain = refl
  class_read n (m ∷ []) shape below none told plain = absurd (never (has_shape m.0 (maybe sort.Ident)) below)
  class_read n (inner ∷ class ∷ ns) shape below none told plain =
      let b = both_true (has_shape inner.0 (maybe sort.Ident)) (all_have_shapes (one sort.Class ∷ []) (map has_shape (nodes (class ∷ ns)))) below in
      let c = both_true (has_shape class.0 (one sort.Class)) (all_have_shapes [] (map has_shape (nodes ns))) b.1 in
      let t = both_true (name inner.0).told ((name class.0).told && (name inner.0).named) told in
      let u = both_true (name class.0).told (name inner.0).named t.1 in
      two_true (mark inner.0).whole ((mark class.0).whole && ((mark inner.0).named && (mark class.0).in_class)) (class_name inner.0 b.0 t.0)
      (two_true (mark class.0).whole ((mark inner.0).named && (mark class.0).in_class) (head_whole (one sort.Class) [] class ns b.1 none u.0)
      (two_true (mark inner.0).named (mark class.0).in_class (inner.1.named u.1) (in_class class.0 c.0 (fails_second class_may_call n inner.0 class.0 (nodes ns) shape plain))))

  layer_read : (n : Node) (k : Kind) (ns : List SortableNode) → (out-Node n).children ≡ nodes ns → (s : Shape) → Shaped (child_shapes k s (length (nodes ns))) ns → Idle n k ns
      → told_by ctx x.known.declared k (all_names ns) ≡ true → reading_may_call_by k n ≡ false → read_by ctx x.known.declared all k (marks ns) ≡ true
  unfolding effects_by access_effects_by part_effects_by pure_callee_by
  layer_read n kind.ObjectLit ns shape s below none told plain = object_read n ns shape below none told plain
  layer_read n kind.ClassExpr ns shape s below none told plain = class_read n ns shape below none told plain
  layer_read n kind.FnExpr ns shape s below none told plain = refl
  layer_read n (kind.ArrowExpr is_async is_generator) ns shape s below none told plain = refl
  layer_read n k ns shape s below none told plain = absurd (unfalse plain)

  sortable_roll : (parts : Node-F Node) (ns : List SortableNode) → nodes ns ≡ parts.children → Sortable (roll-Node parts)
  sortable_roll parts ns is =
      let n = roll-Node parts in
      let shape : (out-Node n).children ≡ nodes ns = ap (λ (z : Node-F Node). z.children) (out-roll-Node parts) ∙ sym is in
      let marked : mark n ≡ taken_by ctx x.known.declared all parts.kind n (marks ns) = taken-roll ctx all (lone x) parts ∙ ap (λ l. taken_by ctx x.known.declared all parts.kind n (map mark l)) (sym is) in
      let called : name n ≡ names_step ctx x.known.declared (record { span = parts.span; kind = parts.kind; children = all_names ns }) =
      fold-roll-Node Names (names_step ctx x.known.declared) parts ∙ ap (λ l. names_step ctx x.known.declared (record { span = parts.span; kind = parts.kind; children = map name l })) (sym is) in
      let below : (s : Shape) → has_shape n s ≡ true → Shaped (child_shapes parts.kind s (length (nodes ns))) ns = λ s h.
      subst (λ l. all_have_shapes (child_shapes parts.kind s (length l)) (map has_shape l) ≡ true) (sym is)
      (subst (λ (z : Node-F Node). all_have_shapes (child_shapes z.kind s (length z.children)) (map has_shape z.children) ≡ true) (out-roll-Node parts) (shaped n s h).1) in
      let idle : (judged ctx n).effects ≡ false → Idle n parts.kind ns = λ none.
      subst (λ l. (not (pure_callee_by ctx parts.kind n) && effects_by ctx parts.kind n (map (judged ctx) l)) ≡ false) (sym is) (sym (effects-roll ctx parts) ∙ none) in
      let told : (name n).told ≡ true → told_by ctx x.known.declared parts.kind (all_names ns) ≡ true = λ h. sym (ap (λ (m : Names). m.told) called) ∙ h in
      record {
        named = λ h. ap (λ (t : Taken). t.named) marked ∙ layer_named parts.kind ns (sym (ap (λ (m : Names). m.named) called) ∙ h);
        whole = λ s h none t. ap (λ (t : Taken). t.whole) marked ∙ layer_whole n parts.kind ns shape s (below s h) (idle none) (told t);
        read = λ s h none t plain. ap (λ (t : Taken). t.read) marked
            ∙ layer_read n parts.kind ns shape s (below s h) (idle none) (told t)
            (subst (λ (z : Node-F Node). reading_may_call_by z.kind n ≡ false) (out-roll-Node parts) (not_true (reading_may_call_by (out-Node n).kind n) plain));
      }

  pub sortable : (n : Node) → Sortable n
  sortable = ind-Node Sortable (λ parts y is. sortable_roll parts y.children (ap (λ z. z.children) is))
