-- Methods, getters and setters of objects have their bodies in what fits, and are ordinary without types.
use Rattle.std.proofs.Common.{◌≡◌, ◌∙◌, refl, sym, ap, Bool, true, false, ◌&&◌, ◌||◌, not, cond, List, [], ◌∷◌, None, map, length, slice_get}
use Rattle.ecma_kind.specs.declared.kind.Kind.{Kind}
use Rattle.ecma_kind.specs.declared.kind.Kind.TheVariants as kind
use Rattle.ecma_kind.specs.declared.shapes.Shape.{Shape}
use Rattle.ecma_kind.specs.declared.shapes.Sort.TheVariants as sort
use Rattle.ecma_kind.specs.declared.span.Span.{Span}
use Rattle.ecma_tree.specs.declared.node.Node.{Node, out-Node}
use Rattle.ecma_tree.specs.Laws.{HaveShapes}
use Rattle.ecma_tree.specs.Nodes.{absent, dummy_span}
use Rattle.ecma_tree.specs.Sorted.{HasShape, allows, child_shapes, is_absent, maybe, one}
use Rattle.ecma_rules.specs.Children.{child_is, has_child, holds_of, is_present, kind_of}
use Rattle.ecma_rules.specs.Members.{has_body, is_misfit, is_special_constructor, is_stray_property, misfits_by, misplaces_this, takes_not_one}
use Rattle.ecma_rules.specs.Rules.{fails_list, fails_member, fails_statement}
use Rattle.ecma_fits.specs.declared.unfit.Where.{Where}
use Rattle.ecma_fits.specs.Fitting.{breaks_rule, first_unfit_in}
use Rattle.ecma_fits.specs.Roles.{is_out_of_role}
use Rattle.ecma_fits.specs.Strays.{is_stray_target}
use Rattle.ecma_fits.proofs.Walks.{neither}
use Rattle.ecma_strip.specs.Stripping.{plain, plain_children, plain_kind, staying_nodes, stripped, without_this}
use Rattle.ecma_strip.proofs.Stripping.{stripped-out}
use Rattle.ecma_strip_scopes.proofs.Going.{parts-have}
use Rattle.ecma_hygiene.proofs.Telling.{true-false}
use Rattle.ecma_hygiene_fits.proofs.Everywhere.{children_of}
use Rattle.ecma_hygiene_scopes.proofs.Parts.{children-of, kind-of}
use Rattle.ecma_pipeline_runs.proofs.Clearing.{fits-here}
use Rattle.ecma_pipeline_runs.proofs.Nodes.{not-false}
use Rattle.ecma_pipeline_plain.proofs.Ordinary.{is_there, ordinary_by}

-- what is asked of nodes other than function declarations, function expressions and members of classes
abbrev pub partly_by : Kind → List Node → Bool
partly_by kind.MethodProp cs = holds_of has_body (slice_get cs 1)
partly_by kind.GetterProp cs = ordinary_by kind.GetterProp cs
partly_by kind.SetterProp cs = ordinary_by kind.SetterProp cs
partly_by _ cs = true

-- ---- bodies

block_by : (span : Span) (k : Kind) (cs : List Node) → allows (maybe sort.BlockStmt) k ≡ true → is_present k ≡ true → is_present (kind_of (plain span k cs)) ≡ true
unfolding plain plain_kind
block_by span kind.BlockStmt cs a h = ap is_present (kind-of span kind.BlockStmt (plain_children kind.BlockStmt cs))
block_by span kind.Absent cs a h = absurd (true-false h refl)
block_by span _ cs a h = absurd (true-false a refl)

block_there : (b : Node) → HasShape (maybe sort.BlockStmt) b → is_present (kind_of b) ≡ true → is_present (kind_of (stripped b)) ≡ true
block_there b has h =
    ap (λ (z : Node). is_present (kind_of z)) (stripped-out b)
    ∙ block_by (out-Node b).span (kind_of b) (map stripped (staying_nodes (kind_of b) (children_of b))) (parts-have b (maybe sort.BlockStmt) has).0 h

function_by : (span : Span) (k : Kind) (cs : List Node) → allows (one sort.Function) k ≡ true → HaveShapes (child_shapes k (one sort.Function) (length cs)) cs → is_there cs 1 ≡ true → has_body (plain span k (map stripped (staying_nodes k cs))) ≡ true
unfolding plain plain_kind plain_children
function_by span (kind.Function g a) (p ∷ b ∷ t ∷ r ∷ []) is have h = ap (λ (z : List Node). is_there z 1) (children-of span (kind.Function g a) (stripped p ∷ stripped b ∷ stripped t ∷ stripped r ∷ [])) ∙ block_there b have.1.0 h
function_by span (kind.Function g a) [] is have h = absurd have
function_by span (kind.Function g a) (p ∷ []) is have h = absurd have.1
function_by span (kind.Function g a) (p ∷ b ∷ []) is have h = absurd have.1.1
function_by span (kind.Function g a) (p ∷ b ∷ t ∷ []) is have h = absurd have.1.1.1
function_by span (kind.Function g a) (p ∷ b ∷ t ∷ r ∷ u ∷ cs) is have h = absurd have.1.1.1.1
function_by span _ cs is have h = absurd (true-false is refl)

function_there : (f : Node) → HasShape (one sort.Function) f → has_body f ≡ true → has_body (stripped f) ≡ true
function_there f has h = let o = parts-have f (one sort.Function) has in ap has_body (stripped-out f) ∙ function_by (out-Node f).span (kind_of f) (children_of f) o.0 o.1 h

-- ---- the `this` of a setter

gone : (n : Node) → is_present (kind_of (without_this n)) ≡ false
gone n = by (is_absent (kind_of n)) refl
  where
    by : (b : Bool) → is_absent (kind_of n) ≡ b → is_present (kind_of (cond b n absent)) ≡ false
    by true e = ap not e
    by false e = ap is_present (kind-of dummy_span kind.Absent [])

-- ---- a node that fits

-- a getter, a setter or a method of an object has its body, since none without one fits
pub no_misfit : (w : Where) (n : Node) → first_unfit_in n w ≡ None → is_misfit n ≡ false
no_misfit w n fits =
    let a = (neither (is_out_of_role w.role n) (is_stray_target w.role w.arguments n || breaks_rule w n) (fits-here w n fits)).1 in
    let b = (neither (is_stray_target w.role w.arguments n) (breaks_rule w n) a).1 in
    let c = (neither (fails_list w.around n) (fails_member w.around n || fails_statement w.around n) b).1 in
    let d = (neither (fails_member w.around n) (fails_statement w.around n) c).0 in
    let e = (neither (is_stray_property w.around.standing n) (is_misfit n || (is_special_constructor n || misplaces_this n)) d).1 in
    (neither (is_misfit n) (is_special_constructor n || misplaces_this n) e).0

method_full : (n : Node) → misfits_by kind.MethodProp n ≡ false → holds_of has_body (slice_get (children_of n) 1) ≡ true
unfolding misfits_by
method_full n h = not-false (holds_of has_body (slice_get (children_of n) 1)) h

getter_full : (n : Node) → misfits_by kind.GetterProp n ≡ false → is_there (children_of n) 2 ≡ true
unfolding misfits_by
getter_full n h = not-false (is_there (children_of n) 2) (neither (has_child n 3) (not (has_child n 2)) h).1

setter_full : (n : Node) → misfits_by kind.SetterProp n ≡ false → is_there (children_of n) 3 ≡ true
unfolding misfits_by
setter_full n h = not-false (is_there (children_of n) 3) (neither (child_is takes_not_one n 2) (not (has_child n 3)) h).1

setter_ordinary : (a b p c : Node) → is_present (kind_of c) ≡ true → is_present (kind_of b) ≡ false → ordinary_by kind.SetterProp (a ∷ b ∷ p ∷ c ∷ []) ≡ true
setter_ordinary a b p c h e = λ j. h j && not (e j)

pub partly : (n : Node) (k : Kind) (s : Shape) (cs : List Node) → children_of n ≡ cs → HaveShapes (child_shapes k s (length cs)) cs → misfits_by k n ≡ false → partly_by (plain_kind k) (plain_children k (map stripped cs)) ≡ true
unfolding plain_kind plain_children
partly n kind.MethodProp s (a ∷ f ∷ []) e have fits =
    function_there f have.1.0 (ap (λ (z : List Node). holds_of has_body (slice_get z 1)) (sym e) ∙ method_full n fits)
partly n kind.MethodProp s [] e have fits = absurd have
partly n kind.MethodProp s (a ∷ []) e have fits = absurd have.1
partly n kind.MethodProp s (a ∷ f ∷ g ∷ cs) e have fits = absurd have.1.1
partly n kind.GetterProp s (a ∷ t ∷ b ∷ []) e have fits =
    block_there b have.1.1.0 (ap (λ (z : List Node). is_there z 2) (sym e) ∙ getter_full n fits)
partly n kind.GetterProp s [] e have fits = absurd have
partly n kind.GetterProp s (a ∷ []) e have fits = absurd have.1
partly n kind.GetterProp s (a ∷ t ∷ []) e have fits = absurd have.1.1
partly n kind.GetterProp s (a ∷ t ∷ b ∷ c ∷ cs) e have fits = absurd have.1.1.1
partly n kind.SetterProp s (a ∷ t ∷ p ∷ b ∷ []) e have fits =
    setter_ordinary (stripped a) (without_this (stripped t)) (stripped p) (stripped b)
    (block_there b have.1.1.1.0 (ap (λ (z : List Node). is_there z 3) (sym e) ∙ setter_full n fits)) (gone (stripped t))
partly n kind.SetterProp s [] e have fits = absurd have
partly n kind.SetterProp s (a ∷ []) e have fits = absurd have.1
partly n kind.SetterProp s (a ∷ t ∷ []) e have fits = absurd have.1.1
partly n kind.SetterProp s (a ∷ t ∷ p ∷ []) e have fits = absurd have.1.1.1
partly n kind.SetterProp s (a ∷ t ∷ p ∷ b ∷ c ∷ cs) e have fits = absurd have.1.1.1.1
partly n _ s cs e have fits = refl
