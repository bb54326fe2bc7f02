-- A node whose children have the shapes that are wanted has its shape once it is finished.
use Rattle.std.proofs.Common.{◌≡◌, ℕ, Bool, true, false, List, [], ◌∷◌, ◌++◌, length, Some, refl, sym, subst}
use Rattle.ecma_kind.specs.declared.span.Span.{Span}
use Rattle.ecma_kind.specs.declared.operators.AssignOp.{AssignOp}
use Rattle.ecma_kind.specs.declared.operators.AssignOp.TheVariants.{Assign}
use Rattle.ecma_kind.specs.declared.kind.Kind.{Kind}
use Rattle.ecma_kind.specs.declared.kind.Kind.TheVariants as kind
use Rattle.ecma_kind.specs.declared.shapes.Shape.{Shape}
use Rattle.ecma_kind.specs.declared.shapes.Sort.{Sort}
use Rattle.ecma_kind.specs.declared.shapes.Sort.TheVariants as sort
use Rattle.ecma_tree.specs.declared.node.Node.{Node, Node-F, roll-Node}
use Rattle.ecma_tree.specs.Laws.{HaveShapes}
use Rattle.ecma_tree.specs.Nodes.{absent, dummy_span, node_of}
use Rattle.ecma_tree.specs.Sorted.{HasShape, allows, child_shapes, maybe, one}
use Rattle.ecma_tree.proofs.ShapeLaws.{node_has_shape, optional_child_has_shape}
use Rattle.ecma_rules.specs.declared.target.Target.{Target}
use Rattle.ecma_rules.specs.declared.target.Target.TheVariants as target
use Rattle.ecma_rules.specs.Finishing.{binding, element_by, finished_by, left_by, name_by, part_by, property_by, shorthand}
use Rattle.ecma_text_sorts.proofs.Turning.{turned, wanted}

-- the kinds that are turned somewhere
abbrev is_turning : Kind → Bool
is_turning kind.ArrayLit = true
is_turning kind.ObjectLit = true
is_turning kind.SpreadElement = true
is_turning kind.KeyValueProp = true
is_turning kind.AssignProp = true
is_turning (kind.AssignExpr op) = true
is_turning (kind.Ident sym ctxt optional) = true
is_turning _ = false

no_true : {A : Type 0} → true ≡ false → A
no_true h = cc

turned_same : (t : Target) (k : Kind) → is_turning k ≡ false → turned t k ≡ k
turned_same t kind.ArrayLit h = no_true h
turned_same t kind.ObjectLit h = no_true h
turned_same t kind.SpreadElement h = no_true h
turned_same t kind.KeyValueProp h = no_true h
turned_same t kind.AssignProp h = no_true h
turned_same t (kind.AssignExpr op) h = no_true h
turned_same t (kind.Ident sym ctxt optional) h = no_true h
turned_same t _ h = refl

wanted_same : (t : Target) (k : Kind) (o : Shape) (n : ℕ) → is_turning k ≡ false → wanted t k o n ≡ child_shapes k o n
wanted_same t kind.ArrayLit o n h = no_true h
wanted_same t kind.ObjectLit o n h = no_true h
wanted_same t kind.SpreadElement o n h = no_true h
wanted_same t kind.KeyValueProp o n h = no_true h
wanted_same t kind.AssignProp o n h = no_true h
wanted_same t (kind.AssignExpr op) o n h = no_true h
wanted_same t (kind.Ident sym ctxt optional) o n h = no_true h
wanted_same t _ o n h = refl

module _ (span : Span) (children : List Node) where
  abbrev parts : Kind → Node-F Node
  parts k = record { span = span; kind = k; children = children }

  left_same : (k : Kind) → is_turning k ≡ false → left_by k (parts k) ≡ roll-Node (parts k)
  left_same kind.ArrayLit h = no_true h
  left_same kind.ObjectLit h = no_true h
  left_same _ h = refl

  name_same : (k : Kind) → is_turning k ≡ false → name_by k (parts k) ≡ roll-Node (parts k)
  name_same (kind.Ident sym ctxt optional) h = no_true h
  name_same _ h = refl

  part_same : (k : Kind) → is_turning k ≡ false → part_by k (parts k) ≡ roll-Node (parts k)
  part_same (kind.Ident sym ctxt optional) h = no_true h
  part_same kind.ArrayLit h = no_true h
  part_same kind.ObjectLit h = no_true h
  part_same _ h = refl

  element_same : (k : Kind) → is_turning k ≡ false → element_by k (parts k) ≡ roll-Node (parts k)
  element_same kind.SpreadElement h = no_true h
  element_same (kind.AssignExpr op) h = no_true h
  element_same (kind.Ident sym ctxt optional) h = no_true h
  element_same kind.ArrayLit h = no_true h
  element_same kind.ObjectLit h = no_true h
  element_same _ h = refl

  property_same : (k : Kind) → is_turning k ≡ false → property_by k (parts k) ≡ roll-Node (parts k)
  property_same kind.KeyValueProp h = no_true h
  property_same kind.AssignProp h = no_true h
  property_same kind.SpreadElement h = no_true h
  property_same (kind.Ident sym ctxt optional) h = no_true h
  property_same _ h = refl

  finished_same : (t : Target) (k : Kind) → is_turning k ≡ false → finished_by t (parts k) ≡ roll-Node (parts k)
  finished_same target.Left k h = left_same k h
  finished_same target.Head k h = part_same k h
  finished_same target.Part k h = part_same k h
  finished_same target.Rest k h = name_same k h
  finished_same target.Name k h = name_same k h
  finished_same target.Element k h = element_same k h
  finished_same target.Property k h = property_same k h
  finished_same _ k h = refl

-- nodes with one more behind them
have_behind : (os : List Shape) (xs : List Node) (o : Shape) (x : Node) → HaveShapes os xs → HasShape o x → HaveShapes (os ++ o ∷ []) (xs ++ x ∷ [])
have_behind [] [] o x h g = (g, tt)
have_behind [] (y ∷ ys) o x h g = absurd h
have_behind (p ∷ ps) [] o x h g = absurd h
have_behind (p ∷ ps) (y ∷ ys) o x h g = (h.0, have_behind ps ys o x h.1 g)

absent_has : (s : Sort) → HasShape (maybe s) absent
absent_has s = (node_has_shape dummy_span kind.Absent [] (maybe s)).1 (refl, tt)

last_may_miss : (p : Shape) (xs : List Node) → HaveShapes (p ∷ one sort.Expr ∷ []) xs → HaveShapes (p ∷ maybe sort.Expr ∷ []) xs
last_may_miss p [] h = absurd h
last_may_miss p (x ∷ []) h = absurd h.1
last_may_miss p (x ∷ y ∷ []) h = (h.0, (optional_child_has_shape sort.Expr (Some y) h.1.0, tt))
last_may_miss p (x ∷ y ∷ z ∷ zs) h = absurd h.1.1

module _ (span : Span) (children : List Node) (o : Shape) where
  -- once its children are as wanted, and the shape allows its kind, so it is
  abbrev Makes : Target → Kind → Type 0
  Makes t k = allows o (turned t k) ≡ true → HaveShapes (wanted t k o (length children)) children → HasShape o (finished_by t (parts span children k))

  other : (t : Target) (k : Kind) → is_turning k ≡ false → Makes t k
  other t k e a h =
      subst (HasShape o) (sym (finished_same span children t k e))
      ((node_has_shape span k children o).1 (subst (λ z. allows o z ≡ true) (turned_same t k e) a, subst (λ z. HaveShapes z children) (wanted_same t k o (length children) e) h))

  typed : (k : Kind) (p : Shape) → child_shapes k o (length (children ++ absent ∷ [])) ≡ p ∷ maybe sort.TsTypeAnn ∷ [] → allows o k ≡ true → HaveShapes (p ∷ []) children → HasShape o (node_of span k (children ++ absent ∷ []))
  typed k p e a h =
      (node_has_shape span k (children ++ absent ∷ []) o).1 (a, subst (λ z. HaveShapes z (children ++ absent ∷ [])) (sym e) (have_behind (p ∷ []) children (maybe sort.TsTypeAnn) absent h (absent_has sort.TsTypeAnn)))

  plain : (k : Kind) (ps : List Shape) → child_shapes k o (length children) ≡ ps → allows o k ≡ true → HaveShapes ps children → HasShape o (node_of span k children)
  plain k ps e a h = (node_has_shape span k children o).1 (a, subst (λ z. HaveShapes z children) (sym e) h)

  array : (t : Target) → Makes t kind.ArrayLit
  array target.Left a h = typed (kind.ArrayPat false) _ refl a h
  array target.Head a h = typed (kind.ArrayPat false) _ refl a h
  array target.Part a h = typed (kind.ArrayPat false) _ refl a h
  array target.Element a h = typed (kind.ArrayPat false) _ refl a h
  array _ a h = plain kind.ArrayLit _ refl a h

  object : (t : Target) → Makes t kind.ObjectLit
  object target.Left a h = typed (kind.ObjectPat false) _ refl a h
  object target.Head a h = typed (kind.ObjectPat false) _ refl a h
  object target.Part a h = typed (kind.ObjectPat false) _ refl a h
  object target.Element a h = typed (kind.ObjectPat false) _ refl a h
  object _ a h = plain kind.ObjectLit _ refl a h

  spread : (t : Target) → Makes t kind.SpreadElement
  spread target.Element a h = typed kind.RestPat _ refl a h
  spread target.Property a h = typed kind.RestPat _ refl a h
  spread _ a h = plain kind.SpreadElement _ refl a h

  value : (t : Target) → Makes t kind.KeyValueProp
  value target.Property a h = plain kind.KeyValuePatProp _ refl a h
  value _ a h = plain kind.KeyValueProp _ refl a h

  short_default : (t : Target) → Makes t kind.AssignProp
  short_default target.Property a h = plain kind.AssignPatProp _ refl a (last_may_miss (one sort.BindingIdent) children h)
  short_default _ a h = plain kind.AssignProp _ refl a h

  assignment : (t : Target) (op : AssignOp) → Makes t (kind.AssignExpr op)
  assignment target.Element Assign a h = plain kind.AssignPat _ refl a h
  assignment target.Element _ a h = plain _ _ refl a h
  assignment _ op a h = plain (kind.AssignExpr op) _ refl a h

  module _ (text : List ℕ) (ctxt : ℕ) (optional : Bool) where
    abbrev name : Node
    name = node_of span (kind.Ident text ctxt optional) children

    named : HaveShapes [] children → HasShape (one sort.Ident) name
    named h = (node_has_shape span (kind.Ident text ctxt optional) children (one sort.Ident)).1 (refl, h)

    bound : (p : Shape) → allows p kind.BindingIdent ≡ true → HaveShapes [] children → HasShape p (binding name)
    bound p a h = (node_has_shape _ kind.BindingIdent (name ∷ absent ∷ []) p).1 (a, (named h, (absent_has sort.TsTypeAnn, tt)))

    short : allows o kind.AssignPatProp ≡ true → HaveShapes [] children → HasShape o (shorthand name)
    short a h = (node_has_shape _ kind.AssignPatProp (binding name ∷ absent ∷ []) o).1 (a, (bound (one sort.BindingIdent) refl h, (absent_has sort.Expr, tt)))

    ident : (t : Target) → Makes t (kind.Ident text ctxt optional)
    ident target.Head a h = bound o a h
    ident target.Part a h = bound o a h
    ident target.Element a h = bound o a h
    ident target.Rest a h = bound o a h
    ident target.Name a h = bound o a h
    ident target.Property a h = short a h
    ident _ a h = plain (kind.Ident text ctxt optional) _ refl a h

  pub makes : (t : Target) (k : Kind) → Makes t k
  makes t kind.ArrayLit = array t
  makes t kind.ObjectLit = object t
  makes t kind.SpreadElement = spread t
  makes t kind.KeyValueProp = value t
  makes t kind.AssignProp = short_default t
  makes t (kind.AssignExpr op) = assignment t op
  makes t (kind.Ident text ctxt optional) = ident text ctxt optional t
  makes t _ = other t _ refl
