-- Four classes of kinds, by what becomes of their nodes without types.
use Rattle.std.proofs.Common.{◌≡◌, ◌∙◌, ◌⊎◌, ◌==◌, ◌||◌, inl, inr, ℕ, zero, suc, Bool, true, false, List, [], ◌∷◌, Option, Some, refl, ap, slice_get, arith}
use Rattle.ecma_kind.specs.declared.kind.Kind.{Kind}
use Rattle.ecma_kind.specs.declared.kind.Kind.TheVariants as kind
use Rattle.ecma_kind.specs.declared.shapes.Shape.{Shape}
use Rattle.ecma_kind.specs.declared.shapes.Sort.{Sort}
use Rattle.ecma_kind.specs.declared.shapes.Sort.TheVariants as sort
use Rattle.ecma_kind.specs.declared.span.Span.{Span}
use Rattle.ecma_tree.specs.declared.node.Node.{Node}
use Rattle.ecma_tree.specs.Laws.{HaveShapes}
use Rattle.ecma_tree.specs.Nodes.{absent, node_of}
use Rattle.ecma_tree.specs.Sorted.{HasShape, child_shapes, many, one}
use Rattle.ecma_strip.specs.Stripping.{body_of, changed_at, operand, plain, plain_children, plain_kind, staying_nodes, without_empty, without_this}

-- what goes for nothing, an expression with a type round it, a list, and all else
pub data Class : Type 0 where
  Typed : Class
  Wrapped : Class
  Listed : Class
  Usual : Class

unfoldable pub class_of : Kind → Class
class_of kind.TsTypeAnn = Typed
class_of kind.TsType = Typed
class_of kind.TsTypeParamDecl = Typed
class_of kind.TsTypeParamInstantiation = Typed
class_of kind.TsTypeAssertion = Wrapped
class_of kind.TsConstAssertion = Wrapped
class_of kind.TsNonNullExpr = Wrapped
class_of kind.TsAsExpr = Wrapped
class_of kind.TsInstantiation = Wrapped
class_of kind.TsSatisfiesExpr = Wrapped
class_of kind.List = Listed
class_of _ = Usual

module _ (span : Span) (cs : List Node) where
  pub plain_typed : (k : Kind) → class_of k ≡ Typed → plain span k cs ≡ absent
  unfolding class_of plain
  plain_typed kind.TsTypeAnn e = refl
  plain_typed kind.TsType e = refl
  plain_typed kind.TsTypeParamDecl e = refl
  plain_typed kind.TsTypeParamInstantiation e = refl
  plain_typed _ e = cc

  pub plain_wrapped : (k : Kind) → class_of k ≡ Wrapped → plain span k cs ≡ operand span k cs
  unfolding class_of plain
  plain_wrapped kind.TsTypeAssertion e = refl
  plain_wrapped kind.TsConstAssertion e = refl
  plain_wrapped kind.TsNonNullExpr e = refl
  plain_wrapped kind.TsAsExpr e = refl
  plain_wrapped kind.TsInstantiation e = refl
  plain_wrapped kind.TsSatisfiesExpr e = refl
  plain_wrapped _ e = cc

  pub plain_usual : (k : Kind) → class_of k ≡ Usual → plain span k cs ≡ node_of span (plain_kind k) (plain_children k cs)
  unfolding class_of plain
  plain_usual kind.TsTypeAnn e = cc
  plain_usual kind.TsType e = cc
  plain_usual kind.TsTypeParamDecl e = cc
  plain_usual kind.TsTypeParamInstantiation e = cc
  plain_usual kind.TsTypeAssertion e = cc
  plain_usual kind.TsConstAssertion e = cc
  plain_usual kind.TsNonNullExpr e = cc
  plain_usual kind.TsAsExpr e = cc
  plain_usual kind.TsInstantiation e = cc
  plain_usual kind.TsSatisfiesExpr e = cc
  plain_usual _ e = refl

  pub plain_listed : plain span kind.List cs ≡ node_of span kind.List cs
  unfolding plain plain_kind plain_children
  plain_listed = refl

pub only_list : (k : Kind) → class_of k ≡ Listed → k ≡ kind.List
unfolding class_of
only_list kind.List e = refl
only_list _ e = cc

pub usual_stay : (k : Kind) (cs : List Node) → class_of k ≡ Usual → staying_nodes k cs ≡ cs
unfolding class_of
usual_stay kind.List cs e = cc
usual_stay _ cs e = refl

pub wrapped_stay : (k : Kind) (cs : List Node) → class_of k ≡ Wrapped → staying_nodes k cs ≡ cs
unfolding class_of
wrapped_stay kind.List cs e = cc
wrapped_stay _ cs e = refl

-- an expression with a type round it has the expression first
abbrev pub Front : List Node → Type 0
Front cs = (e : Node) × (ts : List Node) × (cs ≡ e ∷ ts) × HasShape (one sort.Expr) e

front_of : (os : List Shape) (cs : List Node) → HaveShapes (one sort.Expr ∷ os) cs → Front cs
front_of os [] h = absurd h
front_of os (c ∷ cs) h = (c, cs, refl, h.0)

pub wrapped_front : (k : Kind) (s : Shape) (n : ℕ) (cs : List Node) → class_of k ≡ Wrapped → HaveShapes (child_shapes k s n) cs → Front cs
unfolding class_of
wrapped_front kind.TsTypeAssertion s n cs e h = front_of (one sort.TsType ∷ []) cs h
wrapped_front kind.TsConstAssertion s n cs e h = front_of [] cs h
wrapped_front kind.TsNonNullExpr s n cs e h = front_of [] cs h
wrapped_front kind.TsAsExpr s n cs e h = front_of (one sort.TsType ∷ []) cs h
wrapped_front kind.TsInstantiation s n cs e h = front_of (one sort.TsTypeParamInstantiation ∷ []) cs h
wrapped_front kind.TsSatisfiesExpr s n cs e h = front_of (one sort.TsType ∷ []) cs h
wrapped_front _ s n cs e h = cc

-- ---- children

-- whether the child at an index is the body of a statement
abbrev pub is_body_at : Kind → ℕ → Bool
is_body_at kind.IfStmt i = (i == 1) || (i == 2)
is_body_at kind.LabeledStmt i = i == 1
is_body_at kind.WhileStmt i = i == 1
is_body_at kind.DoWhileStmt i = i == 1
is_body_at kind.ForStmt i = i == 3
is_body_at kind.ForInStmt i = i == 2
is_body_at (kind.ForOfStmt is_await) i = i == 2
is_body_at _ i = false

-- or the `this` of a setter
abbrev pub is_receiver_at : Kind → ℕ → Bool
is_receiver_at kind.SetterProp i = i == 1
is_receiver_at _ i = false

-- what becomes of a child that has no types any more, by whether it is a body, whether it is a `this`, and what shape is asked of it
abbrev pub Turned : Bool → Bool → Option Shape → Node → Node → Type 0
Turned body this o c d = (c ≡ d) ⊎ (((body ≡ true) × (body_of c ≡ d)) ⊎ (((σ : Sort) × (o ≡ Some (many σ)) × (without_empty c ≡ d)) ⊎ ((this ≡ true) × (without_this c ≡ d))))

-- the child at an index, and what becomes of it
abbrev pub From : Bool → Bool → Option Shape → List Node → ℕ → Node → Type 0
From body this o cs i d = (c : Node) × (slice_get cs i ≡ Some c) × Turned body this o c d

changed_get : (j : ℕ) (to : Node → Node) (cs : List Node) (i : ℕ) (d : Node) → slice_get (changed_at j to cs) i ≡ Some d → (c : Node) × (slice_get cs i ≡ Some c) × ((c ≡ d) ⊎ ((i ≡ j) × (to c ≡ d)))
changed_get j to [] i d at = cc
changed_get zero to (c ∷ cs) zero d at = (c, refl, inr (refl, cc))
changed_get zero to (c ∷ cs) (suc i) d at = (d, at, inl refl)
changed_get (suc j) to (c ∷ cs) zero d at = (c, refl, inl (cc))
changed_get (suc j) to (c ∷ cs) (suc i) d at =
    let t = changed_get j to cs i d at in (t.0, t.1, next t.2)
  where
    next : {x : Node} → (x ≡ d) ⊎ ((i ≡ j) × (to x ≡ d)) → (x ≡ d) ⊎ ((suc i ≡ suc j) × (to x ≡ d))
    next (inl e) = inl e
    next (inr (e, f)) = inr (ap suc e, f)

body_from : (body : ℕ → Bool) (this : Bool) (j : ℕ) → body j ≡ true → (o : Option Shape) (cs : List Node) (i : ℕ) (d : Node) → slice_get (changed_at j body_of cs) i ≡ Some d → From (body i) this o cs i d
body_from body this j there o cs i d at = let t = changed_get j body_of cs i d at in (t.0, t.1, by t.2)
  where
    by : {c : Node} → (c ≡ d) ⊎ ((i ≡ j) × (body_of c ≡ d)) → Turned (body i) this o c d
    by (inl e) = inl e
    by (inr (is, e)) = inr (inl (ap body is ∙ there, e))

lone_from : (body : Bool) (this : ℕ → Bool) (j : ℕ) → this j ≡ true → (o : Option Shape) (cs : List Node) (i : ℕ) (d : Node) → slice_get (changed_at j without_this cs) i ≡ Some d → From body (this i) o cs i d
lone_from body this j there o cs i d at = let t = changed_get j without_this cs i d at in (t.0, t.1, by t.2)
  where
    by : {c : Node} → (c ≡ d) ⊎ ((i ≡ j) × (without_this c ≡ d)) → Turned body (this i) o c d
    by (inl e) = inl e
    by (inr (is, e)) = inr (inr (inr (ap this is ∙ there, e)))

tidy_from : (body this : Bool) (j : ℕ) (os : List Shape) (σ : Sort) → slice_get os j ≡ Some (many σ) → (cs : List Node) (i : ℕ) (d : Node) → slice_get (changed_at j without_empty cs) i ≡ Some d → From body this (slice_get os i) cs i d
tidy_from body this j os σ list cs i d at = let t = changed_get j without_empty cs i d at in (t.0, t.1, by t.2)
  where
    by : {c : Node} → (c ≡ d) ⊎ ((i ≡ j) × (without_empty c ≡ d)) → Turned body this (slice_get os i) c d
    by (inl e) = inl e
    by (inr (is, e)) = inr (inr (inl (σ, ap (slice_get os) is ∙ list, e)))

not-both : (i : ℕ) → i ≡ 1 → i ≡ 2 → ⊥
not-both i h g = omega (arith, h, g)

abbrev is_branch : ℕ → Bool
is_branch i = (i == 1) || (i == 2)

both_from : (o : Option Shape) (cs : List Node) (i : ℕ) (d : Node) → slice_get (changed_at 1 body_of (changed_at 2 body_of cs)) i ≡ Some d → From (is_branch i) false o cs i d
both_from o cs i d at = let t = changed_get 1 body_of (changed_at 2 body_of cs) i d at in by t.0 t.1 t.2
  where
    by : (c : Node) → slice_get (changed_at 2 body_of cs) i ≡ Some c → (c ≡ d) ⊎ ((i ≡ 1) × (body_of c ≡ d)) → From (is_branch i) false o cs i d
    by c there (inl e) = body_from is_branch false 2 refl o cs i d (there ∙ ap Some e)
    by c there (inr (is, e)) = let t = changed_get 2 body_of cs i c there in (t.0, t.1, once t.2)
      where
        once : {x : Node} → (x ≡ c) ⊎ ((i ≡ 2) × (body_of x ≡ c)) → Turned (is_branch i) false o x d
        once (inl f) = inr (inl (ap is_branch is, ap body_of f ∙ e))
        once (inr (other, f)) = absurd (not-both i is other)

pub turned : (k : Kind) (s : Shape) (n : ℕ) (cs : List Node) (i : ℕ) (d : Node) → slice_get (plain_children k cs) i ≡ Some d → From (is_body_at k i) (is_receiver_at k i) (slice_get (child_shapes k s n) i) cs i d
unfolding plain_children
turned (kind.Module shebang) s n cs i d at = tidy_from false false 0 (child_shapes (kind.Module shebang) s n) sort.ModuleItem refl cs i d at
turned (kind.Script shebang) s n cs i d at = tidy_from false false 0 (child_shapes (kind.Script shebang) s n) sort.Stmt refl cs i d at
turned kind.BlockStmt s n cs i d at = tidy_from false false 0 (child_shapes kind.BlockStmt s n) sort.Stmt refl cs i d at
turned kind.TsModuleBlock s n cs i d at = tidy_from false false 0 (child_shapes kind.TsModuleBlock s n) sort.ModuleItem refl cs i d at
turned kind.SwitchCase s n cs i d at = tidy_from false false 1 (child_shapes kind.SwitchCase s n) sort.Stmt refl cs i d at
turned kind.IfStmt s n cs i d at = both_from _ cs i d at
turned kind.LabeledStmt s n cs i d at = body_from (is_body_at kind.LabeledStmt) false 1 refl _ cs i d at
turned kind.WhileStmt s n cs i d at = body_from (is_body_at kind.WhileStmt) false 1 refl _ cs i d at
turned kind.DoWhileStmt s n cs i d at = body_from (is_body_at kind.DoWhileStmt) false 1 refl _ cs i d at
turned kind.ForStmt s n cs i d at = body_from (is_body_at kind.ForStmt) false 3 refl _ cs i d at
turned kind.ForInStmt s n cs i d at = body_from (is_body_at kind.ForInStmt) false 2 refl _ cs i d at
turned (kind.ForOfStmt is_await) s n cs i d at = body_from (is_body_at (kind.ForOfStmt is_await)) false 2 refl _ cs i d at
turned kind.SetterProp s n cs i d at = lone_from false (is_receiver_at kind.SetterProp) 1 refl _ cs i d at
turned _ s n cs i d at = (d, at, inl refl)
