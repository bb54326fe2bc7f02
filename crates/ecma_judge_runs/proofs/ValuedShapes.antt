-- What is known of a tree with the sort of an expression is told from what the law on values speaks of, where constructions give objects.
use Rattle.std.proofs.Common.{◌≡◌, refl, sym, ap, ◌∙◌, subst, length, List, [], ◌∷◌, map, Bool, true, false, ◌&&◌}
use Rattle.ecma_kind.specs.Sorts.{belongs}
use Rattle.ecma_kind.specs.declared.kind.Kind.{Kind}
use Rattle.ecma_kind.specs.declared.kind.Kind.TheVariants as kind
use Rattle.ecma_kind.specs.declared.operators.AssignOp.{AssignOp}
use Rattle.ecma_kind.specs.declared.operators.BinaryOp.{BinaryOp}
use Rattle.ecma_kind.specs.declared.operators.UnaryOp.{UnaryOp}
use Rattle.ecma_kind.specs.declared.operators.UnaryOp.TheVariants as operator
use Rattle.ecma_kind.specs.declared.shapes.Count.{Count}
use Rattle.ecma_kind.specs.declared.shapes.Count.TheVariants.{One, Maybe}
use Rattle.ecma_kind.specs.declared.shapes.Shape.{Shape}
use Rattle.ecma_kind.specs.declared.shapes.Sort.{Sort}
use Rattle.ecma_kind.specs.declared.shapes.Sort.TheVariants as sort
use Rattle.ecma_tree.specs.Sorted.{allows, child_shapes, all_have_shapes, has_shape, one}
use Rattle.ecma_tree.specs.declared.node.Node.{Node, Node-F, roll-Node, ind-Node}
use Rattle.ecma_tree.specs.declared.node.Node.TheViews.{out-roll-Node}
use Rattle.ecma_judge_runs.specs.Known.{Marks, marks, marks_by, is_told_of, is_valued_by, is_assignable_by, last_or}
use Rattle.ecma_judge_runs.proofs.Both.{both_true, two_true}
use Rattle.ecma_judge_runs.proofs.Shapes.{shaped, untrue}
use Rattle.ecma_judge_runs.proofs.ValuedNodes.{marks-roll}

-- what is assigned to, and what stands there in parentheses or with types
abbrev is_target : Sort → Bool
is_target sort.AssignTarget = true
is_target sort.Expr = true
is_target _ = false

-- a pattern with a default has neither of these sorts
no_default : (s : Sort) → is_target s ≡ true → belongs s kind.AssignPat ≡ true → ⊥
no_default sort.AssignTarget t h = untrue h
no_default sort.Expr t h = untrue h
no_default _ t h = untrue t

never_default : (c : Count) (s : Sort) → is_target s ≡ true → allows (record { count = c; sort = s }) kind.AssignPat ≡ true → ⊥
never_default One s t h = no_default s t h
never_default Maybe s t h = no_default s t h
never_default _ s t h = untrue h

abbrev known : Node → Marks
known n = marks true n

record Tellable (n : Node) : Type 0 where
  pub assignable : (s : Shape) → is_target s.sort ≡ true → has_shape n s ≡ true → (known n).assignable ≡ true
  pub valued : (s : Shape) → has_shape n s ≡ true → (known n).valued ≡ true

abbrev TellableNode : Type 0
TellableNode = (n : Node) × Tellable n

abbrev nodes : List TellableNode → List Node
nodes ns = map (λ e. e.0) ns

abbrev all_marks : List TellableNode → List Marks
all_marks ns = map known (nodes ns)

abbrev Shaped : List Shape → List TellableNode → Type 0
Shaped shapes ns = all_have_shapes shapes (map has_shape (nodes ns)) ≡ true

-- ---- targets

-- an expression with parentheses or a type round it
first_assignable : (k : Kind) (shapes : List Shape) (ns : List TellableNode) → is_assignable_by k [] ≡ true → ((m : Marks) (ms : List Marks) → m.assignable ≡ true → is_assignable_by k (m ∷ ms) ≡ true) → Shaped (one sort.Expr ∷ shapes) ns
    → is_assignable_by k (all_marks ns) ≡ true
first_assignable k shapes [] none by_first h = none
first_assignable k shapes (n ∷ ns) none by_first h =
    by_first (known n.0) (all_marks ns) (n.1.assignable (one sort.Expr) refl (both_true (has_shape n.0 (one sort.Expr)) (all_have_shapes shapes (map has_shape (nodes ns))) h).0)

layer_assignable : (k : Kind) (ns : List TellableNode) (s : Shape) → is_target s.sort ≡ true → allows s k ≡ true → Shaped (child_shapes k s (length (nodes ns))) ns → is_assignable_by k (all_marks ns) ≡ true
layer_assignable kind.AssignPat ns s t a h = absurd (never_default s.count s.sort t a)
layer_assignable kind.ParenExpr ns s t a h = first_assignable kind.ParenExpr [] ns refl (λ m ms e. e) h
layer_assignable kind.TsTypeAssertion ns s t a h = first_assignable kind.TsTypeAssertion (one sort.TsType ∷ []) ns refl (λ m ms e. e) h
layer_assignable kind.TsConstAssertion ns s t a h = first_assignable kind.TsConstAssertion [] ns refl (λ m ms e. e) h
layer_assignable kind.TsNonNullExpr ns s t a h = first_assignable kind.TsNonNullExpr [] ns refl (λ m ms e. e) h
layer_assignable kind.TsAsExpr ns s t a h = first_assignable kind.TsAsExpr (one sort.TsType ∷ []) ns refl (λ m ms e. e) h
layer_assignable kind.TsInstantiation ns s t a h = first_assignable kind.TsInstantiation (one sort.TsTypeParamInstantiation ∷ []) ns refl (λ m ms e. e) h
layer_assignable kind.TsSatisfiesExpr ns s t a h = first_assignable kind.TsSatisfiesExpr (one sort.TsType ∷ []) ns refl (λ m ms e. e) h
layer_assignable k ns s t a h = refl

-- ---- values

told_when : (op : UnaryOp) (b : Bool) → b ≡ true → is_told_of op b ≡ true
told_when operator.Minus b is = is
told_when operator.Bang b is = is
told_when op b is = refl

head_valued : (s : Shape) (shapes : List Shape) (n : TellableNode) (ns : List TellableNode) → Shaped (s ∷ shapes) (n ∷ ns) → (known n.0).valued ≡ true
head_valued s shapes n ns h = n.1.valued s (both_true (has_shape n.0 s) (all_have_shapes shapes (map has_shape (nodes ns))) h).0

tail_shaped : (s : Shape) (shapes : List Shape) (n : TellableNode) (ns : List TellableNode) → Shaped (s ∷ shapes) (n ∷ ns) → Shaped shapes ns
tail_shaped s shapes n ns h = (both_true (has_shape n.0 s) (all_have_shapes shapes (map has_shape (nodes ns))) h).1

last_valued : (shapes : List Shape) (ns : List TellableNode) → Shaped shapes ns → (b : Bool) → b ≡ true → last_or b (all_marks ns) ≡ true
last_valued shapes [] h b is = is
last_valued [] (n ∷ ns) h b is = absurd (untrue h)
last_valued (s ∷ shapes) (n ∷ ns) h b is = last_valued shapes ns (tail_shaped s shapes n ns h) (known n.0).valued (head_valued s shapes n ns h)

assigned_valued : (ns : List TellableNode) → Shaped (one sort.AssignTarget ∷ one sort.Expr ∷ []) ns → (op : AssignOp) → is_valued_by true (kind.AssignExpr op) (all_marks ns) ≡ true
assigned_valued [] h op = refl
assigned_valued (m ∷ []) h op = refl
assigned_valued (m ∷ n ∷ ns) h op =
    two_true (known m.0).assignable (known n.0).valued
    (m.1.assignable (one sort.AssignTarget) refl (both_true (has_shape m.0 (one sort.AssignTarget)) (all_have_shapes (one sort.Expr ∷ []) (map has_shape (nodes (n ∷ ns)))) h).0)
    (head_valued (one sort.Expr) [] n ns (tail_shaped (one sort.AssignTarget) (one sort.Expr ∷ []) m (n ∷ ns) h))

paren_valued : (ns : List TellableNode) → Shaped (one sort.Expr ∷ []) ns → is_valued_by true kind.ParenExpr (all_marks ns) ≡ true
paren_valued [] h = refl
paren_valued (n ∷ ns) h = head_valued (one sort.Expr) [] n ns h

unary_valued : (op : UnaryOp) (ns : List TellableNode) → Shaped (one sort.Expr ∷ []) ns → is_valued_by true (kind.UnaryExpr op) (all_marks ns) ≡ true
unary_valued op [] h = refl
unary_valued op (n ∷ ns) h = told_when op (known n.0).valued (head_valued (one sort.Expr) [] n ns h)

both_valued : (shapes : List Shape) (m n : TellableNode) (ns : List TellableNode) → Shaped (one sort.Expr ∷ one sort.Expr ∷ shapes) (m ∷ n ∷ ns) → ((known m.0).valued && (known n.0).valued) ≡ true
both_valued shapes m n ns h =
    two_true (known m.0).valued (known n.0).valued (head_valued (one sort.Expr) (one sort.Expr ∷ shapes) m (n ∷ ns) h)
    (head_valued (one sort.Expr) shapes n ns (tail_shaped (one sort.Expr) (one sort.Expr ∷ shapes) m (n ∷ ns) h))

binary_valued : (op : BinaryOp) (ns : List TellableNode) → Shaped (one sort.Expr ∷ one sort.Expr ∷ []) ns → is_valued_by true (kind.BinExpr op) (all_marks ns) ≡ true
binary_valued op [] h = refl
binary_valued op (m ∷ []) h = refl
binary_valued op (m ∷ n ∷ ns) h = both_valued [] m n ns h

choice_valued : (ns : List TellableNode) → Shaped (one sort.Expr ∷ one sort.Expr ∷ one sort.Expr ∷ []) ns → is_valued_by true kind.CondExpr (all_marks ns) ≡ true
choice_valued [] h = refl
choice_valued (l ∷ []) h = refl
choice_valued (l ∷ m ∷ []) h = refl
choice_valued (l ∷ m ∷ n ∷ ns) h = both_valued [] m n ns (tail_shaped (one sort.Expr) (one sort.Expr ∷ one sort.Expr ∷ []) l (m ∷ n ∷ ns) h)

layer_valued : (k : Kind) (ns : List TellableNode) (s : Shape) → Shaped (child_shapes k s (length (nodes ns))) ns → is_valued_by true k (all_marks ns) ≡ true
layer_valued (kind.AssignExpr op) ns s h = assigned_valued ns h op
layer_valued kind.ParenExpr ns s h = paren_valued ns h
layer_valued (kind.UnaryExpr op) ns s h = unary_valued op ns h
layer_valued (kind.BinExpr op) ns s h = binary_valued op ns h
layer_valued kind.CondExpr ns s h = choice_valued ns h
layer_valued kind.SeqExpr ns s h = last_valued (child_shapes kind.SeqExpr s (length (nodes ns))) ns h true refl
layer_valued k ns s h = refl

tellable_roll : (parts : Node-F Node) (ns : List TellableNode) → nodes ns ≡ parts.children → Tellable (roll-Node parts)
tellable_roll parts ns is =
    let n = roll-Node parts in
    let told : known n ≡ marks_by true parts.kind (all_marks ns) = marks-roll true parts ∙ ap (λ l. marks_by true parts.kind (map known l)) (sym is) in
    let below : (s : Shape) → has_shape n s ≡ true → Shaped (child_shapes parts.kind s (length (nodes ns))) ns = λ s h.
    subst (λ l. all_have_shapes (child_shapes parts.kind s (length l)) (map has_shape l) ≡ true) (sym is)
    (subst (λ (z : Node-F Node). all_have_shapes (child_shapes z.kind s (length z.children)) (map has_shape z.children) ≡ true) (out-roll-Node parts) (shaped n s h).1) in
    record {
      assignable = λ s t h. ap (λ (m : Marks). m.assignable) told
          ∙ layer_assignable parts.kind ns s t (subst (λ (z : Node-F Node). allows s z.kind ≡ true) (out-roll-Node parts) (shaped n s h).0) (below s h);
      valued = λ s h. ap (λ (m : Marks). m.valued) told ∙ layer_valued parts.kind ns s (below s h);
    }

tellable : (n : Node) → Tellable n
tellable = ind-Node Tellable (λ parts y is. tellable_roll parts y.children (ap (λ z. z.children) is))

pub shape_valued : (n : Node) (s : Shape) → has_shape n s ≡ true → (marks true n).valued ≡ true
shape_valued n s h = (tellable n).valued s h
