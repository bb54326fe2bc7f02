-- In what fits nothing but a target has a default.
use Rattle.std.proofs.Common.{◌≡◌, ◌∙◌, refl, sym, ap, ap₂, subst, ℕ, suc, not, ◌&&◌, cond, Bool, true, false, List, [], ◌∷◌, map, length, slice_get}
use Rattle.std.specs.List.{list_all}
use Rattle.ecma_kind.specs.declared.kind.Kind.{Kind}
use Rattle.ecma_kind.specs.declared.kind.Kind.TheVariants as kind
use Rattle.ecma_kind.specs.declared.shapes.Shape.{Shape}
use Rattle.ecma_kind.specs.declared.shapes.Sort.TheVariants as sort
use Rattle.ecma_tree.specs.declared.node.Node.{Node, Node-F, ind-Node, out-Node, roll-Node}
use Rattle.ecma_tree.specs.declared.node.Node.TheViews.{out-roll-Node, roll-out-Node}
use Rattle.ecma_tree.specs.Nodes.{dummy_span}
use Rattle.ecma_tree.specs.Laws.{HaveShapes}
use Rattle.ecma_tree.specs.Sorted.{HasShape, child_shapes, one}
use Rattle.ecma_rules.specs.Children.{kind_of, of_kind}
use Rattle.ecma_print_covers.specs.Defaults.{has_usual_default, has_usual_defaults, is_default, takes_default, usual_step}
use Rattle.ecma_fits.specs.declared.role.Role.{Role}
use Rattle.ecma_fits.specs.declared.role.Role.TheVariants as role
use Rattle.ecma_fits.specs.declared.unfit.Where.{Where}
use Rattle.ecma_fits.specs.Fitting.{at_top}
use Rattle.ecma_fits.specs.Roles.{in_default, is_assigned, may_be, role_in, takes}
use Rattle.ecma_print_fits.specs.Laws.{WhatFitsHasUsualDefaults}
use Rattle.ecma_print_fits.proofs.Parts.{AllFit, Fit, allowed, fitting, kind_allowed, shape_made, where_by}
use Rattle.ecma_tree.proofs.Layers.{from_leaves-roll}
use Rattle.ecma_fits.proofs.Clauses.{none_unfit}

-- what may stand before a default takes one
assigned_takes : (k : Kind) → allowed role.Assigned k ≡ true → takes_default k ≡ true
unfolding may_be takes
assigned_takes kind.Absent h = refl
assigned_takes kind.BindingIdent h = refl
assigned_takes kind.RestPat h = refl
assigned_takes (kind.ArrayPat optional) h = refl
assigned_takes (kind.ObjectPat optional) h = refl
assigned_takes (kind.Ident sym ctxt optional) h = refl
assigned_takes kind.MemberExpr h = refl
assigned_takes kind.SuperPropExpr h = refl
assigned_takes kind.ParenExpr h = refl
assigned_takes kind.TsTypeAssertion h = refl
assigned_takes kind.TsConstAssertion h = refl
assigned_takes kind.TsNonNullExpr h = refl
assigned_takes kind.TsAsExpr h = refl
assigned_takes kind.TsInstantiation h = refl
assigned_takes kind.TsSatisfiesExpr h = refl
assigned_takes _ h = absurd (cc)

declared_takes : (k : Kind) → allowed role.Declared k ≡ true → takes_default k ≡ true
unfolding may_be takes
declared_takes kind.Absent h = refl
declared_takes kind.BindingIdent h = refl
declared_takes (kind.ArrayPat optional) h = refl
declared_takes (kind.ObjectPat optional) h = refl
declared_takes _ h = absurd (cc)

parameter_takes : (k : Kind) → allowed role.DefaultedParameter k ≡ true → takes_default k ≡ true
unfolding may_be takes
parameter_takes kind.BindingIdent h = refl
parameter_takes kind.RestPat h = refl
parameter_takes (kind.ArrayPat optional) h = refl
parameter_takes (kind.ObjectPat optional) h = refl
parameter_takes _ h = absurd (cc)

either_takes : (b : Bool) (k : Kind) → allowed (cond b role.Assigned role.Declared) k ≡ true → takes_default k ≡ true
either_takes true k h = assigned_takes k h
either_takes false k h = declared_takes k h

default_takes : (r : Role) (k : Kind) → allowed (in_default r) k ≡ true → takes_default k ≡ true
default_takes role.Parameter k h = parameter_takes k h
default_takes r k h = either_takes (is_assigned r) k h

abbrev Usual : Node → Type 0
Usual n = (w : Where) (o : Shape) → HasShape o n → Fit w n → has_usual_defaults n ≡ true

abbrev AllUsual : List Node → Type 0
AllUsual ns = (where_of : ℕ → Where) (os : List Shape) → HaveShapes os ns → AllFit where_of ns → list_all (λ b. b) (map has_usual_defaults ns) ≡ true

all_usual : (es : List ((n : Node) × Usual n)) → AllUsual (map (λ e. e.0) es)
all_usual [] where_of os have fit = refl
all_usual (e ∷ es) where_of [] have fit = absurd have
all_usual (e ∷ es) where_of (o ∷ os) have fit = ap₂ (λ a b. a && b) (e.1 (where_of 0) o have.0 fit.0) (all_usual es (λ i. where_of (suc i)) os have.1 fit.1)

-- the first child of a node that is given a default
first_takes : (r : Role) (w : Where) (n : Node) → w.role ≡ in_default r → Fit w n → takes_default (kind_of n) ≡ true
first_takes r w n e fit =
    let x = out-Node n in
    let f = fitting x w (subst (Fit w) (sym (roll-out-Node n)) fit) in
    default_takes r x.kind (subst (λ s. allowed s x.kind ≡ true) e (kind_allowed x w.role f.role))

here_by : (k : Kind) (children : List Node) (w : Where) (o : Shape) → HaveShapes (child_shapes k o (length children)) children → AllFit (where_by w (record { span = dummy_span; kind = k; children = children })) children
    → not (is_default k && not (of_kind takes_default (slice_get children 0))) ≡ true
unfolding role_in
here_by kind.AssignPat [] w o have fit = absurd have
here_by kind.AssignPat (a ∷ children) w o have fit = ap (λ b. not (true && not b)) (first_takes w.role _ a refl fit.0)
here_by _ children w o have fit = refl

here : (x : Node-F Node) (w : Where) (o : Shape) → HaveShapes (child_shapes x.kind o (length x.children)) x.children → AllFit (where_by w x) x.children → has_usual_default (roll-Node x) ≡ true
here x w o have fit =
    ap (λ (p : Node-F Node). not (is_default p.kind && not (of_kind takes_default (slice_get p.children 0)))) (out-roll-Node x) ∙ here_by x.kind x.children w o have fit

node_usual : (x : Node-F Node) → AllUsual x.children → Usual (roll-Node x)
node_usual x below w o h fit =
    let f = fitting x w fit in
    let t = shape_made x o h in
    from_leaves-roll Bool usual_step x ∙ ap₂ (λ a b. a && b) (here x w o t.1 f.below) (below (where_by w x) (child_shapes x.kind o (length x.children)) t.1 f.below)

usual_in : (n : Node) → Usual n
usual_in = ind-Node Usual (λ x y is. node_usual x (subst (λ (z : Node-F Node). AllUsual z.children) is (all_usual y.children)))

pub what_fits_has_usual_defaults : WhatFitsHasUsualDefaults
what_fits_has_usual_defaults tree fits = usual_in tree at_top (one sort.Module) fits.sorted (none_unfit tree fits)

pub ruleset usual = (what_fits_has_usual_defaults)
