-- In a tree that fits, and needs no lowering, all that is TypeScript is types.
use Rattle.std.proofs.Common.{◌≡◌, ◌∙◌, ℕ, suc, Bool, true, false, ◌&&◌, not, List, [], ◌∷◌, Some, None, length, refl, sym, ap, slice_get}
use Rattle.std.specs.List.{list_any}
use Rattle.ecma_kind.specs.declared.kind.Kind.{Kind}
use Rattle.ecma_kind.specs.declared.kind.Kind.TheVariants as kind
use Rattle.ecma_kind.specs.declared.shapes.Shape.{Shape}
use Rattle.ecma_kind.specs.declared.shapes.Sort.TheVariants as sort
use Rattle.ecma_tree.specs.declared.node.Node.{Node, out-Node}
use Rattle.ecma_tree.specs.Laws.{HaveShapes}
use Rattle.ecma_tree.specs.Sorted.{HasShape, allows, child_shapes, maybe, one}
use Rattle.ecma_rules.specs.Children.{holds_of, is_present, kind_of, of_kind}
use Rattle.ecma_fits.specs.declared.unfit.Where.{Where}
use Rattle.ecma_fits.specs.Fitting.{Fits, at_top, first_unfit_in, where_in}
use Rattle.ecma_strip.specs.Staying.{is_declared, is_this_by, member_stays_by, specifier_stays, stays}
use Rattle.ecma_hygiene.proofs.Telling.{and-both, true-false}
use Rattle.ecma_strip_scopes.proofs.Going.{parts-have}
use Rattle.ecma_sources.specs.TypesAlone.{adds_types_alone, has_ambient_head, has_bodiless, has_stray_receiver, is_lowered, lacks_body, lacks_body_by}
use Rattle.ecma_pipeline_runs.proofs.Clearing.{fits-below}
use Rattle.ecma_pipeline_runs.proofs.Nodes.{StaysIn, alone-made, by-children, child-shape, not-false}
use Rattle.ecma_rules.specs.Members.{has_body}
use Rattle.ecma_forms.specs.Forms.{first_unlowered, is_ambient_variable, is_odd_by, is_unlowered_kind}
use Rattle.ecma_text_sources.proofs.Receivers.{IsFree, child_free, no_stray}
use Rattle.ecma_text_sources.proofs.Staying.{stays_by, stays_is}
use Rattle.ecma_text_sources.proofs.Taken.{low_below, not_odd, not_unlowered}
use Rattle.ecma_tree.specs.Values.{is_value, value_by, values_in}
use Rattle.ecma_tree.proofs.Valuing.{is_value-out}
use Rattle.ecma_fits.proofs.Clauses.{none_unfit}
use Rattle.ecma_fits.proofs.Walks.{neither_least}

unlowered : (k : Kind) → is_unlowered_kind k ≡ false → is_lowered k ≡ false
unlowered (kind.TsEnumDecl declare is_const) h = absurd (true-false refl h)
unlowered kind.TsEnumMember h = absurd (true-false refl h)
unlowered (kind.TsModuleDecl declare global) h = absurd (true-false refl h)
unlowered (kind.TsNamespaceDecl declare global) h = absurd (true-false refl h)
unlowered (kind.TsImportEqualsDecl is_export is_type_only) h = absurd (true-false refl h)
unlowered _ h = refl

-- the heads of loops

undeclared_start : (k : Kind) → allows (maybe sort.VarDeclOrExpr) k ≡ true → is_ambient_variable k ≡ false → is_declared k ≡ false
unfolding is_declared
undeclared_start (kind.VarDecl variable declare) h e = e
undeclared_start (kind.FnDecl declare) h e = absurd (true-false h refl)
undeclared_start (kind.ClassDecl declare) h e = absurd (true-false h refl)
undeclared_start (kind.TsEnumDecl declare is_const) h e = absurd (true-false h refl)
undeclared_start (kind.TsModuleDecl declare global) h e = absurd (true-false h refl)
undeclared_start _ h e = refl

undeclared_head : (k : Kind) → allows (one sort.ForHead) k ≡ true → is_ambient_variable k ≡ false → is_declared k ≡ false
unfolding is_declared
undeclared_head (kind.VarDecl variable declare) h e = e
undeclared_head (kind.FnDecl declare) h e = absurd (true-false h refl)
undeclared_head (kind.ClassDecl declare) h e = absurd (true-false h refl)
undeclared_head (kind.TsEnumDecl declare is_const) h e = absurd (true-false h refl)
undeclared_head (kind.TsModuleDecl declare global) h e = absurd (true-false h refl)
undeclared_head _ h e = refl

module _ (n : Node) (s : Shape) where
  abbrev Have : Kind → List Node → Type 0
  Have k cs = HaveShapes (child_shapes k s (length cs)) cs

  first_variable : (cs : List Node) → (out-Node n).children ≡ cs → of_kind is_ambient_variable (slice_get (out-Node n).children 0) ≡ false → of_kind is_ambient_variable (slice_get cs 0) ≡ false
  first_variable cs e odd = ap (λ (z : List Node). of_kind is_ambient_variable (slice_get z 0)) (sym e) ∙ odd

  no_ambient_head : (k : Kind) (cs : List Node) → (out-Node n).children ≡ cs → Have k cs → is_odd_by k n ≡ false → has_ambient_head k cs ≡ false
  no_ambient_head kind.ForStmt (c ∷ cs) e h odd = undeclared_start (kind_of c) (parts-have c (maybe sort.VarDeclOrExpr) h.0).0 (first_variable (c ∷ cs) e odd)
  no_ambient_head kind.ForInStmt (c ∷ cs) e h odd = undeclared_head (kind_of c) (parts-have c (one sort.ForHead) h.0).0 (first_variable (c ∷ cs) e odd)
  no_ambient_head (kind.ForOfStmt is_await) (c ∷ cs) e h odd = undeclared_head (kind_of c) (parts-have c (one sort.ForHead) h.0).0 (first_variable (c ∷ cs) e odd)
  no_ambient_head k cs e h odd = refl

-- functions with their bodies are values

block_value : (k : Kind) (children : List Bool) → allows (maybe sort.BlockStmt) k ≡ true → is_present k ≡ true → value_by k children ≡ true
unfolding value_by
block_value kind.BlockStmt children h there = refl
block_value kind.Absent children h there = absurd (true-false there refl)
block_value _ children h there = absurd (true-false h refl)

body_value : (b : Node) → HasShape (maybe sort.BlockStmt) b → is_present (kind_of b) ≡ true → is_value b ≡ true
body_value b h there = is_value-out b ∙ block_value (kind_of b) (values_in true (kind_of b) (out-Node b).children) (parts-have b (maybe sort.BlockStmt) h).0 there

function_by : (k : Kind) (cs : List Node) → allows (one sort.Function) k ≡ true → HaveShapes (child_shapes k (one sort.Function) (length cs)) cs → of_kind is_present (slice_get cs 1) ≡ true → value_by k (values_in true k cs) ≡ true
unfolding value_by
function_by (kind.Function is_generator is_async) (p ∷ b ∷ cs) is h there = body_value b h.1.0 there
function_by (kind.Function is_generator is_async) [] is h there = absurd h
function_by (kind.Function is_generator is_async) (p ∷ []) is h there = absurd h.1
function_by _ cs is h there = absurd (true-false is refl)

function_value : (f : Node) → HasShape (one sort.Function) f → has_body f ≡ true → is_value f ≡ true
function_value f h there = let parts = parts-have f (one sort.Function) h in is_value-out f ∙ function_by (kind_of f) (out-Node f).children parts.0 parts.1 there

module _ (n : Node) (s : Shape) where
  full_by : (k : Kind) (cs : List Node) → (out-Node n).children ≡ cs → HaveShapes (child_shapes k s (length cs)) cs → is_odd_by k n ≡ false → is_value n ≡ value_by k (values_in true k cs) → lacks_body_by k (is_value n) ≡ false
  unfolding value_by
  full_by kind.FnExpr (name ∷ f ∷ cs) e h odd is =
      let there : has_body f ≡ true = ap (λ (z : List Node). holds_of has_body (slice_get z 1)) (sym e) ∙ not-false (holds_of has_body (slice_get (out-Node n).children 1)) odd in
      ap not (is ∙ function_value f h.1.0 there)
  full_by kind.FnExpr [] e h odd is = absurd h
  full_by kind.FnExpr (name ∷ []) e h odd is = absurd h.1
  full_by k cs e h odd is = refl

-- a list of which none lacks its body
none_lacks : (cs : List Node) → ((i : ℕ) (c : Node) → slice_get cs i ≡ Some c → lacks_body c ≡ false) → list_any lacks_body cs ≡ false
none_lacks [] each = refl
none_lacks (c ∷ cs) each = let here = each 0 c refl in let behind = none_lacks cs (λ i d at. each (suc i) d at) in rw (here, behind) refl

no_bodiless : (k : Kind) (cs : List Node) → list_any lacks_body cs ≡ false → has_bodiless k cs ≡ false
no_bodiless kind.ExportDefaultDecl cs h = refl
no_bodiless _ cs h = h

-- what goes from a list is no function expression, so it lacks no body

expression_stays : (c : Node) → kind_of c ≡ kind.FnExpr → stays c ≡ true
unfolding member_stays_by specifier_stays
expression_stays c e = stays_is c ∙ ap (λ k. stays_by k c) e ∙ ap (λ k. not (is_this_by k c)) e

gone_full : (c : Node) → stays c ≡ false → lacks_body c ≡ false
gone_full c goes = by (kind_of c) refl
  where
    by : (k : Kind) → kind_of c ≡ k → lacks_body_by k (is_value c) ≡ false
    by kind.FnExpr e = absurd (true-false (expression_stays c e) goes)
    by _ e = refl

-- a child, where it has its body if it stays
child_full : (k : Kind) (c : Node) → (StaysIn k c → lacks_body c ≡ false) → lacks_body c ≡ false
child_full k c full = by (stays c) refl
  where
    by : (b : Bool) → stays c ≡ b → lacks_body c ≡ false
    by true e = full (λ list. e)
    by false e = gone_full c e

abbrev IsAlone : Node → Type 0
IsAlone n = (s : Shape) (w : Where) → HasShape s n → first_unfit_in n w ≡ None → IsFree n w.role → first_unlowered n ≡ None → (adds_types_alone n ≡ true) × (lacks_body n ≡ false)

layer_alone : (n : Node) → ((i : ℕ) (c : Node) → slice_get (out-Node n).children i ≡ Some c → IsAlone c) → IsAlone n
layer_alone n below s w has fits free low =
    let k = kind_of n in
    let cs = (out-Node n).children in
    let shaped = (parts-have n s has).1 in
    let odd = not_odd n low in
    let each : (i : ℕ) (c : Node) → slice_get cs i ≡ Some c → StaysIn k c → (adds_types_alone c ≡ true) × (lacks_body c ≡ false) =
    λ i c at stay. (let shape = child-shape (child_shapes k s (length cs)) cs shaped i c at in
    below i c at shape.0 (where_in w n i) shape.2 (fits-below w n fits i c at) (child_free n s w shaped fits (not_unlowered n low) odd free i c at) (low_below n low i c at stay)) in
    let lowered : not (is_lowered k) ≡ true = ap not (unlowered k (not_unlowered n low)) in
    let head : not (has_ambient_head k cs) ≡ true = ap not (no_ambient_head n s k cs refl shaped odd) in
    let bodies : not (has_bodiless k cs) ≡ true = ap not (no_bodiless k cs (none_lacks cs (λ i c at. child_full k c (λ stay. (each i c at stay).1)))) in
    let strays : not (has_stray_receiver k cs) ≡ true = ap not (no_stray n s w shaped fits (not_unlowered n low) odd free) in
    let last : Bool = not (has_bodiless k cs) && not (has_stray_receiver k cs) in (
      alone-made n
          (and-both (not (is_lowered k)) (not (has_ambient_head k cs) && last) lowered
          (and-both (not (has_ambient_head k cs)) last head (and-both (not (has_bodiless k cs)) (not (has_stray_receiver k cs)) bodies strays)))
          (λ i c at stay. (each i c at stay).0),
      full_by n s k cs refl shaped odd (is_value-out n),
    )

pub types_alone : (tree : Node) → Fits tree → first_unlowered tree ≡ None → adds_types_alone tree ≡ true
types_alone tree fits low =
    (by-children IsAlone layer_alone tree (one sort.Module) at_top fits.sorted (none_unfit tree fits) (λ p. absurd (true-false p refl)) low).0
