-- A node that fits where it stands, in its spot without parentheses of the layout: what that says of it, and of its children.
use Rattle.std.proofs.Common.{◌≡◌, ◌∙◌, refl, sym, ap, subst, ℕ, suc, Bool, true, false, not, ◌&&◌, ◌||◌, List, [], ◌∷◌, map, length, Option, None}
use Rattle.ecma_kind.specs.declared.span.Span.{Span}
use Rattle.ecma_kind.specs.declared.kind.Kind.{Kind}
use Rattle.ecma_kind.specs.declared.shapes.Shape.{Shape}
use Rattle.ecma_tree.specs.declared.node.Node.{Node, fold-roll-Node, out-Node}
use Rattle.ecma_tree.specs.declared.node.Node.TheViews.{out-roll-Node, roll-out-Node}
use Rattle.ecma_tree.specs.Laws.{HaveShapes}
use Rattle.ecma_tree.specs.Nodes.{node_of}
use Rattle.ecma_tree.specs.Sorted.{HasShape, allows, child_shapes, is_absent}
use Rattle.ecma_tree.proofs.ShapeLaws.{node_has_shape}
use Rattle.ecma_rules.specs.Children.{kind_of}
use Rattle.ecma_rules.specs.Failing.{failing_here, failing_step, least_from}
use Rattle.ecma_rules.specs.Lists.{is_early_rest, is_wrong_head}
use Rattle.ecma_rules.specs.Members.{is_misfit, is_special_constructor, is_stray_property, misfits_by, misplaces_this, second_constructor}
use Rattle.ecma_rules.specs.Rules.{fails_list, fails_member, fails_statement}
use Rattle.ecma_rules.specs.Targets.{target_in}
use Rattle.ecma_rules.specs.declared.target.Target.{Target}
use Rattle.ecma_text_leaves.specs.Everywhere.{Each, Everywhere, everywhere, more}
use Rattle.ecma_leaves.specs.Words.{is_spelled}
use Rattle.ecma_fits.specs.declared.role.Role.{Role}
use Rattle.ecma_fits.specs.declared.unfit.Where.{Where}
use Rattle.ecma_fits.specs.Fitting.{breaks_rule, first_unfit_in, is_misplaced, is_misshapen, is_unfit, unfit_here, where_in}
use Rattle.ecma_fits.specs.Roles.{is_out_of_role, is_tagged, role_in}
use Rattle.ecma_fits.specs.Strays.{is_stray_target}
use Rattle.ecma_print.specs.declared.place.Spot.{Spot}
use Rattle.ecma_print.specs.Layout.{laid}
use Rattle.ecma_print.specs.Levels.{in_parentheses}
use Rattle.ecma_print_parentheses.specs.Lacking.{all_complete, complete}
use Rattle.ecma_print.specs.Spots.{first_spots, further_spot}
use Rattle.ecma_print_parentheses.proofs.Lacks.{complete_in}
use Rattle.ecma_plain.specs.Forms.{IsTaken}
use Rattle.ecma_plain.specs.Functions.{Functions, any_unusual, functions, functions_step, is_this_name, unusual_here}
use Rattle.ecma_tree.proofs.Layers.{from_leaves-roll}
use Rattle.ecma_fits.proofs.Walks.{neither, neither_least, not_failing, shifted}

-- it fits where it has this role, whatever else stands around
abbrev pub FitsAs : Role → Node → Type 0
FitsAs r n = (w : Where) × (w.role ≡ r) × (first_unfit_in n w ≡ None)

pub record Sound (r : Role) (spot : Spot) (shape : Shape) (n : Node) : Type 0 where
  pub shaped : HasShape shape n
  pub fitting : FitsAs r n
  pub complete : (complete n).at spot ≡ true
  pub bare : Everywhere IsTaken n
  pub usual : (functions n).has_unusual ≡ false

-- nodes by their roles, spots and shapes: the first ones in these spots, all others in this one
abbrev pub AllSound : (ℕ → Role) → List Spot → Spot → List Shape → List Node → Type 0
AllSound roles spots further [] [] = Unit {0}
AllSound roles [] further (shape ∷ shapes) (n ∷ ns) = Sound (roles 0) further shape n × AllSound (λ i. roles (suc i)) [] further shapes ns
AllSound roles (spot ∷ spots) further (shape ∷ shapes) (n ∷ ns) = Sound (roles 0) spot shape n × AllSound (λ i. roles (suc i)) spots further shapes ns
AllSound roles spots further _ _ = ⊥

-- where it stands it has this role and breaks no rule
pub record KeepsRules (r : Role) (n : Node) : Type 0 where
  pub place : Where
  pub role_is : place.role ≡ r
  pub kept : breaks_rule place n ≡ false

-- what breaks no rule is no rest with a default, and no accessor with other parameters than its own
no_misfit : {r : Role} {n : Node} → KeepsRules r n → is_misfit n ≡ false
no_misfit {r} {n} h =
    let a = h.place.around in
    let told = neither (fails_member a n) (fails_statement a n) (neither (fails_list a n) (fails_member a n || fails_statement a n) h.kept).1 in
    let misfit = neither (is_stray_property a.standing n) (is_misfit n || (is_special_constructor n || misplaces_this n)) told.0 in
    (neither (is_misfit n) (is_special_constructor n || misplaces_this n) misfit.1).0

-- the first child declares what the head of a loop may, where it has this target
abbrev pub HeadKept : Target → List Node → Type 0
HeadKept t [] = Unit {0}
HeadKept t (c ∷ cs) = is_wrong_head t c ≡ false

-- what is said of a node of these parts
pub record Here (r : Role) (spot : Spot) (shape : Shape) (at : Span) (k : Kind) (cs : List Node) : Type 0 where
  pub allowed : allows shape k ≡ true
  pub whole : is_misshapen (node_of at k cs) ≡ false
  pub in_role : is_out_of_role r (node_of at k cs) ≡ false
  pub spelled : is_spelled (is_tagged r) k ≡ true
  pub bare : IsTaken k
  pub keeps_rules : KeepsRules r (node_of at k cs)
  pub heads : (t : Target) × HeadKept (target_in t k 0) cs
  pub usual : unusual_here k (map functions cs) ≡ false
  pub open_there : in_parentheses k (map laid cs) spot ≡ false
  pub below : AllSound (role_in r k) (first_spots k (map laid cs) spot) (further_spot k spot) (child_shapes k shape (length cs)) cs

pub kind_made : (at : Span) (k : Kind) (cs : List Node) → kind_of (node_of at k cs) ≡ k
kind_made at k cs = ap (λ p. p.kind) (out-roll-Node (record { span = at; kind = k; children = cs }))

pub children_made : (at : Span) (k : Kind) (cs : List Node) → (out-Node (node_of at k cs)).children ≡ cs
children_made at k cs = ap (λ p. p.children) (out-roll-Node (record { span = at; kind = k; children = cs }))

pub functions_made : (at : Span) (k : Kind) (cs : List Node) → functions (node_of at k cs) ≡ record {
  is_missing = is_absent k;
  is_this = is_this_name k;
  has_unusual = any_unusual (map functions cs) || unusual_here k (map functions cs);
}
functions_made at k cs = fold-roll-Node Functions functions_step (record { span = at; kind = k; children = cs })

and_parts : (a b : Bool) → (a && b) ≡ true → (a ≡ true) × (b ≡ true)
and_parts true b h = (refl, h)
and_parts false b h = cc

pub fitting_here : {r : Role} {spot : Spot} {shape : Shape} {at : Span} {k : Kind} {cs : List Node} → Here r spot shape at k cs → misfits_by k (node_of at k cs) ≡ false
fitting_here {at = at} {k = k} {cs = cs} h = subst (λ z. misfits_by z (node_of at k cs) ≡ false) (kind_made at k cs) (no_misfit h.keeps_rules)

not_true : (b : Bool) → not b ≡ true → b ≡ false
not_true true h = cc
not_true false h = refl

not_false : (b : Bool) → not b ≡ false → b ≡ true
not_false true h = refl
not_false false h = cc

-- the walk of what fits

module _ (at : Span) (k : Kind) (cs : List Node) (w : Where) where
  abbrev own : Node
  own = node_of at k cs

  tells : first_unfit_in own w ≡ None → (unfit_here w own ≡ None) × (least_from Where (where_in w own) 0 (map first_unfit_in cs) ≡ None)
  tells h =
      let e = ap (λ f. f w) (from_leaves-roll (Where → Option ℕ) (failing_step Where unfit_here where_in) (record { span = at; kind = k; children = cs })) in
      neither_least (unfit_here w own) (least_from Where (where_in w own) 0 (map first_unfit_in cs)) (sym e ∙ h)

  role_below : (i : ℕ) → (where_in w own i).role ≡ role_in w.role k i
  role_below i = ap (λ kk. role_in w.role kk i) (kind_made at k cs)

unfit_parts : (w : Where) (n : Node) → unfit_here w n ≡ None → (is_misshapen n ≡ false) × (is_out_of_role w.role n ≡ false) × (is_spelled (is_tagged w.role) (kind_of n) ≡ true) × (breaks_rule w n ≡ false)
unfolding is_unfit
unfit_parts w n h =
    let a = neither_least (failing_here (is_unfit w n) n) (second_constructor n) h in
    let b = neither (is_misshapen n) (is_misplaced w n || not (is_spelled (is_tagged w.role) (kind_of n))) (not_failing (is_unfit w n) n a.0) in
    let c = neither (is_misplaced w n) (not (is_spelled (is_tagged w.role) (kind_of n))) b.1 in
    let d = neither (is_out_of_role w.role n) (is_stray_target w.role w.arguments n || breaks_rule w n) c.0 in
    (b.0, d.0, not_false (is_spelled (is_tagged w.role) (kind_of n)) c.1, (neither (is_stray_target w.role w.arguments n) (breaks_rule w n) d.1).1)

-- children
bare_parts : {n : Node} {ns : List Node} → Each IsTaken (n ∷ ns) → Everywhere IsTaken n × Each IsTaken ns
bare_parts (more a h) = (a, h)

all_sound : (roles : ℕ → Role) (spots : List Spot) (further : Spot) (shapes : List Shape) (ns : List Node) (where_of : ℕ → Where) → ((i : ℕ) → (where_of i).role ≡ roles i)
    → HaveShapes shapes ns → least_from Where where_of 0 (map first_unfit_in ns) ≡ None → all_complete (map complete ns) spots further ≡ true → Each IsTaken ns → any_unusual (map functions ns) ≡ false → AllSound roles spots further shapes ns
all_sound roles spots further [] [] where_of e h f c b y = tt
all_sound roles spots further [] (n ∷ ns) where_of e h f c b y = absurd h
all_sound roles spots further (shape ∷ shapes) [] where_of e h f c b y = absurd h
all_sound roles [] further (shape ∷ shapes) (n ∷ ns) where_of e h f c b y =
    let v = neither_least (first_unfit_in n (where_of 0)) (least_from Where where_of 1 (map first_unfit_in ns)) f in
    let u = and_parts ((complete n).at further) (all_complete (map complete ns) [] further) c in
    let p = bare_parts b in
    let m = neither (functions n).has_unusual (any_unusual (map functions ns)) y in (
      record { shaped = h.0; fitting = (where_of 0, e 0, v.0); complete = u.0; bare = p.0; usual = m.0 },
      all_sound (λ i. roles (suc i)) [] further shapes ns (λ i. where_of (suc i)) (λ i. e (suc i)) h.1 (sym (shifted Where where_of 0 (map first_unfit_in ns)) ∙ v.1) u.1 p.1 m.1,
    )
all_sound roles (spot ∷ spots) further (shape ∷ shapes) (n ∷ ns) where_of e h f c b y =
    let v = neither_least (first_unfit_in n (where_of 0)) (least_from Where where_of 1 (map first_unfit_in ns)) f in
    let u = and_parts ((complete n).at spot) (all_complete (map complete ns) spots further) c in
    let p = bare_parts b in
    let m = neither (functions n).has_unusual (any_unusual (map functions ns)) y in (
      record { shaped = h.0; fitting = (where_of 0, e 0, v.0); complete = u.0; bare = p.0; usual = m.0 },
      all_sound (λ i. roles (suc i)) spots further shapes ns (λ i. where_of (suc i)) (λ i. e (suc i)) h.1 (sym (shifted Where where_of 0 (map first_unfit_in ns)) ∙ v.1) u.1 p.1 m.1,
    )

-- what stands in the head of a loop

keeps_head : (w : Where) (n : Node) → first_unfit_in n w ≡ None → is_wrong_head w.around.target n ≡ false
keeps_head w n h =
    let x = out-Node n in
    let walk = tells x.span x.kind x.children w (subst (λ m. first_unfit_in m w ≡ None) (sym (roll-out-Node n)) h) in
    let own_parts = unfit_parts w n (subst (λ m. unfit_here w m ≡ None) (roll-out-Node n) walk.0) in
    (neither (is_wrong_head w.around.target n) (is_early_rest w.around.target w.around.is_last n) (neither (fails_list w.around n) (fails_member w.around n || fails_statement w.around n) own_parts.3).0).0

head_kept : (cs : List Node) (where_of : ℕ → Where) → least_from Where where_of 0 (map first_unfit_in cs) ≡ None → HeadKept (where_of 0).around.target cs
head_kept [] where_of h = tt
head_kept (c ∷ cs) where_of h = keeps_head (where_of 0) c (neither_least (first_unfit_in c (where_of 0)) (least_from Where where_of 1 (map first_unfit_in cs)) h).0

bare_node : {n : Node} → Everywhere IsTaken n → IsTaken (kind_of n) × Each IsTaken (out-Node n).children
bare_node (everywhere at k {children = cs} p h) = (subst IsTaken (sym (kind_made at k cs)) p, subst (Each IsTaken) (sym (children_made at k cs)) h)

pub here : (r : Role) (spot : Spot) (shape : Shape) (at : Span) (k : Kind) (cs : List Node) → Sound r spot shape (node_of at k cs) → Here r spot shape at k cs
here r spot shape at k cs s =
    let shapes = (node_has_shape at k cs shape).0 s.shaped in
    let w = s.fitting.0 in
    let role_is = s.fitting.1 in
    let walk = tells at k cs w s.fitting.2 in
    let own_parts = unfit_parts w (node_of at k cs) walk.0 in
    let completed = and_parts (not (in_parentheses k (map laid cs) spot)) (all_complete (map complete cs) (first_spots k (map laid cs) spot) (further_spot k spot)) (sym (complete_in at k cs spot) ∙ s.complete) in
    let said = bare_node s.bare in
    let usual_parts = neither (any_unusual (map functions cs)) (unusual_here k (map functions cs)) (sym (ap (λ m. m.has_unusual) (functions_made at k cs)) ∙ s.usual) in
    record {
      allowed = shapes.0;
      whole = own_parts.0;
      in_role = subst (λ z. is_out_of_role z (node_of at k cs) ≡ false) role_is own_parts.1;
      spelled = subst (λ z. is_spelled (is_tagged z) k ≡ true) role_is (subst (λ z. is_spelled (is_tagged w.role) z ≡ true) (kind_made at k cs) own_parts.2);
      bare = subst IsTaken (kind_made at k cs) said.0;
      keeps_rules = record { place = w; role_is = role_is; kept = own_parts.3 };
      heads = (w.around.target, subst (λ z. HeadKept (target_in w.around.target z 0) cs) (kind_made at k cs) (head_kept cs (where_in w (node_of at k cs)) walk.1));
      usual = usual_parts.1;
      open_there = not_true (in_parentheses k (map laid cs) spot) completed.0;
      below = all_sound (role_in r k) (first_spots k (map laid cs) spot) (further_spot k spot) (child_shapes k shape (length cs)) cs (where_in w (node_of at k cs)) (λ i. role_below at k cs w i ∙ ap (λ z. role_in z k i) role_is)
          shapes.1 walk.1 completed.1 (subst (Each IsTaken) (children_made at k cs) said.1) usual_parts.0;
    }
