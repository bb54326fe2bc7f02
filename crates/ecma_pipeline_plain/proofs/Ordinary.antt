-- Functions with their bodies and the parameters of plain ones, said of each node by its children.
use Rattle.std.proofs.Common.{◌≡◌, ◌∙◌, refl, sym, ap, ap₂, ℕ, zero, suc, Bool, true, false, ◌&&◌, ◌||◌, not, List, [], ◌∷◌, map, Some, slice_get}
use Rattle.ecma_kind.specs.declared.kind.Kind.{Kind}
use Rattle.ecma_kind.specs.declared.kind.Kind.TheVariants as kind
use Rattle.ecma_tree.specs.declared.node.Node.{Node, fold_out-Node, out-Node}
use Rattle.ecma_tree.specs.Nodes.{dummy_span}
use Rattle.ecma_tree.specs.Sorted.{is_absent}
use Rattle.ecma_rules.specs.Children.{is_present, kind_of, of_kind}
use Rattle.ecma_text_leaves.specs.Everywhere.{Everywhere}
use Rattle.ecma_scope_fits.proofs.Moved.{children_moved, kind_moved, to}
use Rattle.ecma_scope.specs.Laws.{without_contexts}
use Rattle.ecma_strip_runs.specs.UsualBodies.{holds_throughout}
use Rattle.ecma_hygiene.proofs.Telling.{and-left, and-right}
use Rattle.ecma_hygiene_fits.proofs.Everywhere.{Each as EachChild, children_of, everywhere as from_children}
use Rattle.ecma_pipeline_runs.proofs.Nodes.{by-children, not-false, not-true, test-below, test-here}
use Rattle.ecma_pipeline_plain.proofs.Everywhere.{each_at, parts}
use Rattle.ecma_pipeline_plain.proofs.KindsSaid.{bare, empty}
use Rattle.ecma_plain.specs.Functions.{Functions, any_unusual, functions, functions_step, is_missing_at, is_this_name, unusual_here}

-- whether a child stands at an index
abbrev pub is_there : List Node → ℕ → Bool
is_there cs i = of_kind is_present (slice_get cs i)

-- a body where one may be missing, and nothing before the parameter of a setter
abbrev pub ordinary_by : Kind → List Node → Bool
ordinary_by (kind.Function is_generator is_async) cs = is_there cs 1
ordinary_by (kind.Constructor accessibility is_optional) cs = is_there cs 2
ordinary_by kind.GetterProp cs = is_there cs 2
ordinary_by kind.SetterProp cs = is_there cs 3 && not (is_there cs 1)
ordinary_by _ cs = true

abbrev pub is_ordinary : Node → Bool
is_ordinary = holds_throughout ordinary_by

-- ---- what is said of functions then

abbrev pub IsOther : Kind → Type 0
IsOther k = is_this_name k ≡ false

functions_out : (n : Node) → functions n ≡ functions_step (record { span = (out-Node n).span; kind = kind_of n; children = map functions (children_of n) })
functions_out n = fold_out-Node Functions functions_step n

missing_is : (c : Node) → (functions c).is_missing ≡ is_absent (kind_of c)
missing_is c = ap (λ (f : Functions). f.is_missing) (functions_out c)

missing_at : (cs : List Node) (i : ℕ) → is_there cs i ≡ true → is_missing_at (map functions cs) i ≡ false
missing_at [] i h = refl
missing_at (c ∷ cs) zero h = missing_is c ∙ not-true (is_absent (kind_of c)) h
missing_at (c ∷ cs) (suc i) h = missing_at cs i h

module _ (cs : List Node) (h : ordinary_by kind.SetterProp cs ≡ true) where
  setter_there : is_there cs 3 ≡ true
  setter_there = and-left (is_there cs 3) (not (is_there cs 1)) h

  setter_before : is_there cs 1 ≡ false
  setter_before = not-true (is_there cs 1) (and-right (is_there cs 3) (not (is_there cs 1)) h)

unusual_none : (k : Kind) (cs : List Node) → ordinary_by k cs ≡ true → ((i : ℕ) (c : Node) → slice_get cs i ≡ Some c → IsOther (kind_of c)) → unusual_here k (map functions cs) ≡ false
unusual_none (kind.Function is_generator is_async) cs h each = ap (λ b. b || false) (missing_at cs 1 h)
unusual_none (kind.Constructor accessibility is_optional) cs h each = ap (λ b. b || false) (missing_at cs 2 h)
unusual_none kind.GetterProp cs h each = ap (λ b. b || false) (missing_at cs 2 h)
unusual_none kind.SetterProp [] h each = refl
unusual_none kind.SetterProp (a ∷ []) h each = refl
unusual_none kind.SetterProp (a ∷ b ∷ []) h each = refl
unusual_none kind.SetterProp (a ∷ b ∷ c ∷ []) h each = refl
unusual_none kind.SetterProp (a ∷ b ∷ c ∷ d ∷ []) h each =
    let cs = a ∷ b ∷ c ∷ d ∷ [] in
    let body = missing_at cs 3 (setter_there cs h) in
    let before : (functions b).is_missing ≡ true = missing_is b ∙ not-false (is_absent (kind_of b)) (setter_before cs h) in
    (λ j. body j || not (before j))
unusual_none kind.SetterProp (a ∷ b ∷ c ∷ d ∷ e ∷ cs) h each = ap (λ z. z || false) (missing_at (a ∷ b ∷ c ∷ d ∷ e ∷ cs) 3 (setter_there (a ∷ b ∷ c ∷ d ∷ e ∷ cs) h))
unusual_none kind.BindingIdent [] h each = refl
unusual_none kind.BindingIdent (c ∷ cs) h each = ap (λ (f : Functions). f.is_this) (functions_out c) ∙ each 0 c refl
unusual_none _ cs h each = refl

any_none : (cs : List Node) → ((i : ℕ) (c : Node) → slice_get cs i ≡ Some c → (functions c).has_unusual ≡ false) → any_unusual (map functions cs) ≡ false
any_none [] each = refl
any_none (c ∷ cs) each = ap₂ (λ a b. a || b) (each 0 c refl) (any_none cs (λ i d at. each (suc i) d at))

module _ (P : Kind → Type 0) (other : (k : Kind) → P k → IsOther k) where
  abbrev pub Usual : Node → Type 0
  Usual n = is_ordinary n ≡ true → Everywhere P n → (functions n).has_unusual ≡ false

  pub ordinary_usual : (n : Node) → Usual n
  ordinary_usual = by-children Usual (λ n below h e.
      (let p = parts P e in
      ap (λ (f : Functions). f.has_unusual) (functions_out n)
      ∙ ap₂ (λ a b. a || b) (any_none (children_of n) (λ i c at. below i c at (test-below ordinary_by n h i c at) (each_at P (children_of n) p.1 i c at)))
      (unusual_none (kind_of n) (children_of n) (test-here ordinary_by n h) (λ i c at. other (kind_of c) (parts P (each_at P (children_of n) p.1 i c at)).0))))

-- ---- contexts do not matter to functions

abbrev step : Kind → List Functions → Functions
step k fs = functions_step (record { span = dummy_span; kind = k; children = fs })

step_bare : (k : Kind) (fs : List Functions) → step (bare k) fs ≡ step k fs
step_bare (kind.Ident text ctxt optional) fs = refl
step_bare _ fs = refl

abbrev pub Alike : Node → Type 0
Alike n = functions (without_contexts n) ≡ functions n

all_alike : (cs : List Node) → EachChild Alike cs → map functions (map without_contexts cs) ≡ map functions cs
all_alike [] e = refl
all_alike (c ∷ cs) e = ap₂ (λ a rest. a ∷ rest) e.0 (all_alike cs e.1)

pub functions_alike : (n : Node) → Alike n
functions_alike = from_children Alike (λ n below.
    functions_out (to empty n) ∙ ap₂ step (kind_moved empty n) (ap (map functions) (children_moved empty n) ∙ all_alike (children_of n) below) ∙ step_bare (kind_of n) (map functions (children_of n)) ∙ sym (functions_out n))
