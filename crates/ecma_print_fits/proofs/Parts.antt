-- A node that fits, by its parts.
use Rattle.std.proofs.Common.{◌≡◌, ◌∙◌, ℕ, suc, Bool, true, false, not, ◌&&◌, ◌||◌, List, [], ◌∷◌, map, length, Option, Some, None, refl, sym, ap, subst, slice_get}
use Rattle.ecma_kind.specs.Sorts.{belongs}
use Rattle.ecma_kind.specs.declared.span.Span.{Span}
use Rattle.ecma_kind.specs.declared.kind.Kind.{Kind}
use Rattle.ecma_kind.specs.declared.kind.Kind.TheVariants as kind
use Rattle.ecma_kind.specs.declared.shapes.Shape.{Shape}
use Rattle.ecma_kind.specs.declared.shapes.Sort.TheVariants as sort
use Rattle.ecma_tree.specs.declared.node.Node.{Node, Node-F, fold-roll-Node, out-Node, roll-Node}
use Rattle.ecma_tree.specs.declared.node.Node.TheViews.{out-roll-Node, roll-out-Node}
use Rattle.ecma_tree.specs.Finding.{enters_all, finds, finds_from, finds_here}
use Rattle.ecma_tree.specs.Laws.{HaveShapes}
use Rattle.ecma_tree.specs.Nodes.{node_of}
use Rattle.ecma_tree.specs.Sorted.{HasShape, allows, child_shapes, is_absent, one}
use Rattle.ecma_tree.proofs.ShapeLaws.{node_has_shape}
use Rattle.ecma_tree.proofs.Layers.{from_leaves-roll}
use Rattle.ecma_rules.specs.declared.standing.Around.{Around}
use Rattle.ecma_rules.specs.Children.{is_present, kind_of, of_kind}
use Rattle.ecma_rules.specs.Failing.{failing_here, failing_step, least, least_from}
use Rattle.ecma_rules.specs.Lists.{last_by}
use Rattle.ecma_rules.specs.Members.{second_constructor}
use Rattle.ecma_rules.specs.Surroundings.{standing_by}
use Rattle.ecma_rules.specs.Targets.{first_is, is_plain_target, is_simple_target, is_wrapper, simple_step, target_in}
use Rattle.ecma_fits.specs.declared.role.Role.{Role}
use Rattle.ecma_fits.specs.declared.role.Role.TheVariants as role
use Rattle.ecma_fits.specs.declared.unfit.Where.{Where}
use Rattle.ecma_fits.specs.Fitting.{breaks_rule, first_unfit_in, is_misplaced, is_misshapen, is_unfit, unfit_here, where_in}
use Rattle.ecma_fits.specs.Roles.{is_out_of_role, is_wrong_name, may_be, role_in, takes}
use Rattle.ecma_fits.specs.Strays.{arguments_in, is_stray_target}

pub not_true : {A : Type 0} → false ≡ true → A
not_true h = cc

pub neither : (a b : Bool) → (a || b) ≡ false → (a ≡ false) × (b ≡ false)
neither true b h = cc
neither false b h = (refl, h)

pub neither_least : (a b : Option ℕ) → least a b ≡ None → (a ≡ None) × (b ≡ None)
neither_least None b h = (refl, h)
neither_least (Some i) None h = cc
neither_least (Some i) (Some j) h = cc

pub not_failing : (b : Bool) (n : Node) → failing_here b n ≡ None → b ≡ false
not_failing true n h = cc
not_failing false n h = refl

-- in children that are counted from one on
pub shifted : (A : Type 0) (around : ℕ → A) (k : ℕ) (cs : List (A → Option ℕ)) → least_from A around (suc k) cs ≡ least_from A (λ i. around (suc i)) k cs
shifted A around k [] = refl
shifted A around k (c ∷ cs) = ap (least (c (around (suc k)))) (shifted A around (suc k) cs)

pub kind_made : (x : Node-F Node) → kind_of (roll-Node x) ≡ x.kind
kind_made x = ap (λ (p : Node-F Node). p.kind) (out-roll-Node x)

pub children_made : (x : Node-F Node) → (out-Node (roll-Node x)).children ≡ x.children
children_made x = ap (λ (p : Node-F Node). p.children) (out-roll-Node x)

-- what stands around the child at an index of a node of these parts
abbrev pub around_by : Around → Node-F Node → ℕ → Around
around_by a p i = record {
  target = target_in a.target p.kind i;
  standing = standing_by a.standing p.kind (of_kind is_present (slice_get p.children 1)) (of_kind is_present (slice_get p.children 2)) i;
  is_last = last_by a.is_last p.kind (length p.children) i;
}

abbrev pub where_by : Where → Node-F Node → ℕ → Where
where_by w p i = record { role = role_in w.role p.kind i; around = around_by w.around p i; arguments = arguments_in w.arguments p.kind i }

-- a node, and all that stands in it, is what it has to be
abbrev pub Fit : Where → Node → Type 0
Fit w n = first_unfit_in n w ≡ None

abbrev pub AllFit : (ℕ → Where) → List Node → Type 0
AllFit where_of [] = Unit {0}
AllFit where_of (n ∷ ns) = Fit (where_of 0) n × AllFit (λ i. where_of (suc i)) ns

all_fit : (where_of : ℕ → Where) (ns : List Node) → least_from Where where_of 0 (map first_unfit_in ns) ≡ None → AllFit where_of ns
all_fit where_of [] h = tt
all_fit where_of (n ∷ ns) h =
    let w = neither_least (first_unfit_in n (where_of 0)) (least_from Where where_of 1 (map first_unfit_in ns)) h in
    (w.0, all_fit (λ i. where_of (suc i)) ns (sym (shifted Where where_of 0 (map first_unfit_in ns)) ∙ w.1))

-- what is known of a node of these parts that fits
pub record Fitting (w : Where) (x : Node-F Node) : Type 0 where
  pub role : is_out_of_role w.role (roll-Node x) ≡ false
  pub arguments : is_stray_target w.role w.arguments (roll-Node x) ≡ false
  pub rules : breaks_rule w (roll-Node x) ≡ false
  pub single : second_constructor (roll-Node x) ≡ None
  pub below : AllFit (where_by w x) x.children

pub fitting : (x : Node-F Node) (w : Where) → Fit w (roll-Node x) → Fitting w x
unfolding is_unfit
fitting x w h =
    let n = roll-Node x in
    let e = ap (λ f. f w) (from_leaves-roll (Where → Option ℕ) (failing_step Where unfit_here where_in) x) in
    let a = neither_least (unfit_here w n) (least_from Where (where_in w n) 0 (map first_unfit_in x.children)) (sym e ∙ h) in
    let b = neither_least (failing_here (is_unfit w n) n) (second_constructor n) a.0 in
    let c = neither (is_misshapen n) _ (not_failing (is_unfit w n) n b.0) in
    let d = neither (is_misplaced w n) _ c.1 in
    let f = neither (is_out_of_role w.role n) _ d.0 in
    let g = neither (is_stray_target w.role w.arguments n) (breaks_rule w n) f.1 in
    record {
      role = f.0;
      arguments = g.0;
      rules = g.1;
      single = b.1;
      below = all_fit (where_by w x) x.children (subst (λ (p : Node-F Node). least_from Where (where_by w p) 0 (map first_unfit_in x.children) ≡ None) (out-roll-Node x) a.1);
    }

-- the kinds that may stand there, simple targets among them
abbrev pub allowed : Role → Kind → Bool
allowed r k = may_be r k || (takes r k && (is_plain_target k || is_wrapper k))

loosened : (may takes plain wrapper first : Bool) → not (may || (takes && (plain || (wrapper && first)))) ≡ false → (may || (takes && (plain || wrapper))) ≡ true
loosened true takes plain wrapper first h = refl
loosened false true true wrapper first h = refl
loosened false true false true first h = refl
loosened false true false false first h = cc
loosened false false plain wrapper first h = cc

pub kind_allowed : (x : Node-F Node) (r : Role) → is_out_of_role r (roll-Node x) ≡ false → allowed r x.kind ≡ true
kind_allowed x r h =
    let n = roll-Node x in
    let g = (neither (is_wrong_name r (kind_of n)) _ h).1 in
    let e : is_simple_target n ≡ (is_plain_target x.kind || (is_wrapper x.kind && first_is (map is_simple_target x.children))) = fold-roll-Node Bool simple_step x in
    let f = subst (λ k. not (may_be r k || (takes r k && is_simple_target n)) ≡ false) (kind_made x) g in
    loosened (may_be r x.kind) (takes r x.kind) (is_plain_target x.kind) (is_wrapper x.kind) (first_is (map is_simple_target x.children))
    (subst (λ b. not (may_be r x.kind || (takes r x.kind && b)) ≡ false) e f)

unnot : (b : Bool) → not b ≡ false → b ≡ true
unnot true h = refl
unnot false h = not_true (sym h)

pub role_allows : (x : Node-F Node) (r : Role) → is_out_of_role r (roll-Node x) ≡ false → (may_be r x.kind || (takes r x.kind && is_simple_target (roll-Node x))) ≡ true
role_allows x r h =
    let n = roll-Node x in
    unnot (may_be r x.kind || (takes r x.kind && is_simple_target n)) (subst (λ k. not (may_be r k || (takes r k && is_simple_target n)) ≡ false) (kind_made x) (neither (is_wrong_name r (kind_of n)) _ h).1)

-- a kind stands nowhere in a tree

module _ (is : Kind → Bool) where
  abbrev pub Lacks : Node → Type 0
  Lacks n = finds is enters_all n ≡ false

  abbrev pub AllLack : List Node → Type 0
  AllLack [] = Unit {0}
  AllLack (n ∷ ns) = Lacks n × AllLack ns

  all_lack : (i : ℕ) (ns : List Node) → finds_from (λ i. true) i (map (finds is enters_all) ns) ≡ false → AllLack ns
  all_lack i [] h = tt
  all_lack i (n ∷ ns) h = let w = neither (finds is enters_all n) _ h in (w.0, all_lack (suc i) ns w.1)

  pub lacking : (x : Node-F Node) → Lacks (roll-Node x) → (is x.kind ≡ false) × AllLack x.children
  lacking x h =
      let w = neither (is x.kind) _ (sym (fold-roll-Node Bool (finds_here is enters_all) x) ∙ h) in
      (w.0, all_lack 0 x.children w.1)

-- nodes of one kind

pub shape_made : (x : Node-F Node) (o : Shape) → HasShape o (roll-Node x) → (allows o x.kind ≡ true) × HaveShapes (child_shapes x.kind o (length x.children)) x.children
shape_made x o h = (node_has_shape x.span x.kind x.children o).0 h

pub shape_allows : (n : Node) (o : Shape) → HasShape o n → allows o (kind_of n) ≡ true
shape_allows n o h = (shape_made (out-Node n) o (subst (HasShape o) (sym (roll-out-Node n)) h)).0

no_children : (at : Span) (k : Kind) (cs : List Node) → HaveShapes [] cs → node_of at k cs ≡ node_of at k []
no_children at k [] h = refl
no_children at k (c ∷ cs) h = absurd h

pub missing : (at : Span) (k : Kind) (cs : List Node) (o : Shape) → is_absent k ≡ true → HasShape o (node_of at k cs) → node_of at k cs ≡ node_of at kind.Absent []
missing at kind.Absent cs o e h = no_children at kind.Absent cs ((node_has_shape at kind.Absent cs o).0 h).1
missing at _ cs o e h = not_true e

abbrev pub IsMissing : Node → Type 0
IsMissing n = (at : Span) × (n ≡ node_of at kind.Absent [])

pub is_missing : (n : Node) (o : Shape) → is_absent (kind_of n) ≡ true → HasShape o n → IsMissing n
is_missing n o e h =
    let x = out-Node n in
    (x.span, sym (roll-out-Node n) ∙ missing x.span x.kind x.children o e (subst (HasShape o) (sym (roll-out-Node n)) h))

-- where nothing may stand, nothing stands
pub nothing_stands : (n : Node) (w : Where) (o : Shape) → w.role ≡ role.Nothing → HasShape o n → Fit w n → IsMissing n
unfolding may_be takes
nothing_stands n w o e h fit = is_missing n o (only (kind_of n) (subst (λ r. allowed r (kind_of n) ≡ true) e (kind_allowed (out-Node n) w.role (fitting (out-Node n) w (subst (Fit w) (sym (roll-out-Node n)) fit)).role))) h
  where
    only : (k : Kind) → (is_absent k || false) ≡ true → is_absent k ≡ true
    only kind.Absent h = refl
    only _ h = h

-- an identifier
abbrev pub IsName : Node → Type 0
IsName n = (at : Span) × (text : List ℕ) × (ctxt : ℕ) × (optional : Bool) × (n ≡ node_of at (kind.Ident text ctxt optional) [])

name_made : (at : Span) (k : Kind) (cs : List Node) → belongs sort.Ident k ≡ true → HaveShapes (child_shapes k (one sort.Ident) (length cs)) cs → IsName (node_of at k cs)
name_made at (kind.Ident text ctxt optional) cs b h = (at, text, ctxt, optional, no_children at (kind.Ident text ctxt optional) cs h)
name_made at _ cs b h = not_true b

pub is_name : (n : Node) → HasShape (one sort.Ident) n → IsName n
is_name n h =
    let x = out-Node n in
    let t = shape_made x (one sort.Ident) (subst (HasShape (one sort.Ident)) (sym (roll-out-Node n)) h) in
    subst IsName (roll-out-Node n) (name_made x.span x.kind x.children t.0 t.1)
