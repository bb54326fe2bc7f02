-- Where all that is TypeScript is types, a name `this` stands in a parameter alone, and goes with it.
use Rattle.std.proofs.Common.{◌≡◌, ℕ, zero, suc, ◌==◌, Bool, true, false, ◌&&◌, ◌||◌, not, List, [], ◌∷◌, length, Some, refl, sym, ap, ap₂, ◌∙◌, subst, slice_get}
use Rattle.std.specs.List.{list_any}
use Rattle.ecma_kind.specs.declared.kind.Kind.{Kind}
use Rattle.ecma_kind.specs.declared.kind.Kind.TheVariants as kind
use Rattle.ecma_kind.specs.declared.shapes.Shape.{Shape}
use Rattle.ecma_kind.specs.declared.shapes.Sort.TheVariants as sort
use Rattle.ecma_tree.specs.declared.node.Node.{Node, out-Node}
use Rattle.ecma_tree.specs.Laws.{HaveShapes}
use Rattle.ecma_tree.specs.Sorted.{HasShape, allows, child_shapes, is_list, one}
use Rattle.ecma_scope.specs.declared.role.Role.{Role}
use Rattle.ecma_scope.specs.Scopes.{is_there, opens, opens_by}
use Rattle.ecma_strip.specs.Staying.{if_there, is_this, is_this_by, is_this_ident, is_this_param, is_this_param_by, item_stays, member_stays, specifier_stays, stays}
use Rattle.ecma_hygiene.proofs.Telling.{and-right, true-false}
use Rattle.ecma_strip_scopes.proofs.Going.{parts-have}
use Rattle.ecma_strip_scopes.proofs.Standing.{list-kind}
use Rattle.ecma_sources.specs.TypesAlone.{adds_types_alone, has_stray_receiver, is_lone_receiver, is_receiver}
use Rattle.ecma_pipeline_runs.proofs.Nodes.{any-at, neither, no-stray, none-some, not-true, some-same}

-- ---- parameters `this`

abbrev is_binding : Kind → Bool
is_binding kind.BindingIdent = true
is_binding kind.Param = true
is_binding _ = false

no-param : (n : Node) (k : Kind) → (out-Node n).kind ≡ k → is_binding k ≡ false → is_this_param n ≡ false
no-param n kind.BindingIdent e h = absurd (true-false refl h)
no-param n kind.Param e h = absurd (true-false refl h)
no-param n k e h = ap (λ (z : Kind). is_this_param_by z n) e ∙ ap (λ (z : Kind). is_this_by z n) e

bound-first : (n : Node) → (out-Node n).kind ≡ kind.BindingIdent → is_this_param n ≡ if_there (slice_get (out-Node n).children 0) (λ x. is_this_ident (out-Node x).kind)
bound-first n e = ap (λ (z : Kind). is_this_param_by z n) e ∙ ap (λ (z : Kind). is_this_by z n) e

param-first : (n : Node) → (out-Node n).kind ≡ kind.Param → is_this_param n ≡ if_there (slice_get (out-Node n).children 0) is_this
param-first n e = ap (λ (z : Kind). is_this_param_by z n) e

-- a name is no parameter, and no pattern is
name-receiver : (x : Node) (k : Kind) → (out-Node x).kind ≡ k → allows (one sort.Ident) k ≡ true → is_this_ident (out-Node x).kind ≡ false → is_receiver x ≡ false
name-receiver x (kind.Ident s c o) e a h = ap₂ (λ (p q : Bool). p || q) h (no-param x (kind.Ident s c o) e refl)
name-receiver x _ e a h = absurd (true-false a refl)

pattern-param : (x : Node) (k : Kind) → (out-Node x).kind ≡ k → allows (one sort.Pat) k ≡ true → is_this_param x ≡ is_this x
pattern-param x kind.Param e a = absurd (true-false a refl)
pattern-param x k e a = ap (λ (z : Kind). is_this_param_by z x) e

-- ---- children

-- the parameter `this` of a setter goes with its type
abbrev pub is_spared : Kind → ℕ → Bool
is_spared kind.SetterProp i = i == 1
is_spared k i = false

module _ (n : Node) (s : Shape) (has : HasShape s n) (alone : adds_types_alone n ≡ true) where
  parameterless : is_receiver n ≡ false → is_this_param n ≡ false
  parameterless free = (neither (is_this_ident (out-Node n).kind) (is_this_param n) free).1

  child-by : (k : Kind) (cs : List Node) → (out-Node n).kind ≡ k → (out-Node n).children ≡ cs → is_receiver n ≡ false → is_list k ≡ false → HaveShapes (child_shapes k s (length cs)) cs → has_stray_receiver k cs ≡ false
      → (i : ℕ) (c : Node) → slice_get cs i ≡ Some c → is_spared k i ≡ false → is_receiver c ≡ false
  child-by kind.List cs is are free l have stray i c at spare = absurd (true-false refl l)
  child-by kind.BindingIdent [] is are free l have stray i c at spare = none-some at
  child-by kind.BindingIdent (x ∷ xs) is are free l have stray zero c at spare =
      subst (λ (z : Node). is_receiver z ≡ false) (some-same at)
      (name-receiver x (out-Node x).kind refl (parts-have x (one sort.Ident) have.0).0
      (sym (bound-first n is ∙ ap (λ (z : List Node). if_there (slice_get z 0) (λ y. is_this_ident (out-Node y).kind)) are) ∙ parameterless free))
  child-by kind.BindingIdent (x ∷ xs) is are free l have stray (suc i) c at spare = any-at is_receiver xs i c stray at
  child-by kind.Param [] is are free l have stray i c at spare = none-some at
  child-by kind.Param (x ∷ y ∷ xs) is are free l have stray i c at spare = absurd have.1
  child-by kind.Param (x ∷ []) is are free l have stray (suc i) c at spare = none-some at
  child-by kind.Param (x ∷ []) is are free l have stray zero c at spare =
      subst (λ (z : Node). is_receiver z ≡ false) (some-same at)
      (ap₂ (λ (p q : Bool). p || q) (neither (is_this_ident (out-Node x).kind) false stray).0
      (pattern-param x (out-Node x).kind refl (parts-have x (one sort.Pat) have.0).0
      ∙ sym (param-first n is ∙ ap (λ (z : List Node). if_there (slice_get z 0) is_this) are) ∙ parameterless free))
  child-by kind.SetterProp [] is are free l have stray i c at spare = none-some at
  child-by kind.SetterProp (x ∷ []) is are free l have stray i c at spare = any-at is_receiver (x ∷ []) i c stray at
  child-by kind.SetterProp (x ∷ y ∷ xs) is are free l have stray zero c at spare = subst (λ (z : Node). is_receiver z ≡ false) (some-same at) (neither (is_receiver x) (list_any is_receiver xs) stray).0
  child-by kind.SetterProp (x ∷ y ∷ xs) is are free l have stray (suc zero) c at spare = absurd (true-false refl spare)
  child-by kind.SetterProp (x ∷ y ∷ xs) is are free l have stray (suc (suc i)) c at spare = any-at is_receiver xs i c (neither (is_receiver x) (list_any is_receiver xs) stray).1 at
  child-by k cs is are free l have stray i c at spare = any-at is_receiver cs i c stray at

  -- of what is no list
  pub child-other : is_receiver n ≡ false → is_list (out-Node n).kind ≡ false → (i : ℕ) (c : Node) → slice_get (out-Node n).children i ≡ Some c → is_spared (out-Node n).kind i ≡ false → is_receiver c ≡ false
  child-other free l = child-by (out-Node n).kind (out-Node n).children refl refl free l (parts-have n s has).1 (no-stray n alone)

not-param : (c : Node) → stays c ≡ true → is_this_param c ≡ false
unfolding stays
not-param c st = not-true (is_this_param c) (and-right (item_stays c && member_stays c && specifier_stays (out-Node c).kind) (not (is_this_param c)) st)

-- of what stays in a list
pub item-other : (n : Node) → adds_types_alone n ≡ true → is_list (out-Node n).kind ≡ true → (i : ℕ) (c : Node) → slice_get (out-Node n).children i ≡ Some c → stays c ≡ true → is_receiver c ≡ false
item-other n alone l i c at st =
    let stray : list_any is_lone_receiver (out-Node n).children ≡ false = sym (ap (λ (z : Kind). has_stray_receiver z (out-Node n).children) (list-kind (out-Node n).kind l)) ∙ no-stray n alone in
    ap₂ (λ (p q : Bool). p || q) (neither (is_this_ident (out-Node c).kind) (is_this c) (any-at is_lone_receiver (out-Node n).children i c stray at)).0 (not-param c st)

-- what opens a scope is none
pub opener-other : (r : Role) (n : Node) → opens r n ≡ true → is_receiver n ≡ false
unfolding opens_by
opener-other r n h = by (out-Node n).kind refl (is_there (out-Node n).children 0) h
  where
    by : (k : Kind) → (out-Node n).kind ≡ k → (named : Bool) → opens_by r k named ≡ true → is_receiver n ≡ false
    by (kind.Ident s c o) e named h = absurd (true-false h refl)
    by kind.BindingIdent e named h = absurd (true-false h refl)
    by kind.Param e named h = absurd (true-false h refl)
    by k e named h = ap₂ (λ (p q : Bool). p || q) (ap is_this_ident e) (no-param n k e refl)

-- nor is a module
pub module-other : (n : Node) → allows (one sort.Module) (out-Node n).kind ≡ true → is_receiver n ≡ false
module-other n h = by (out-Node n).kind refl h
  where
    by : (k : Kind) → (out-Node n).kind ≡ k → allows (one sort.Module) k ≡ true → is_receiver n ≡ false
    by (kind.Module x) e h = ap₂ (λ (p q : Bool). p || q) (ap is_this_ident e) (no-param n (kind.Module x) e refl)
    by _ e h = absurd (true-false h refl)
