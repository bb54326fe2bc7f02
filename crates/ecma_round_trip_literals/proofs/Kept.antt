-- What fits fits with source texts.
use Rattle.std.proofs.Common.{◌≡◌, ◌∙◌, ℕ, suc, Bool, true, false, not, ◌&&◌, ◌||◌, codes, List, map, Option, Some, None, refl, sym, ap, ap₂, subst}
use Rattle.ecma_kind.specs.declared.kind.Kind.{Kind}
use Rattle.ecma_kind.specs.declared.kind.Kind.TheVariants as kind
use Rattle.ecma_kind.specs.declared.shapes.Shape.{Shape}
use Rattle.ecma_kind.specs.declared.shapes.Sort.{Sort}
use Rattle.ecma_kind.specs.declared.shapes.Sort.TheVariants as sort
use Rattle.ecma_kind.specs.declared.shapes.Count.{Count}
use Rattle.ecma_kind.specs.declared.shapes.Count.TheVariants.{One, Maybe, Many, MaybeMany, Holes}
use Rattle.ecma_tree.specs.declared.node.Node.{Node}
use Rattle.ecma_tree.specs.Laws.{KeepsShapes}
use Rattle.ecma_tree.specs.Nodes.{node_of}
use Rattle.ecma_tree.specs.Sorted.{HasSort, allows, allows_by, child_shapes, one}
use Rattle.ecma_tree.proofs.ShapeLaws.{changes_keep_shapes}
use Rattle.ecma_text_leaves.specs.Everywhere.{Each, Everywhere, everywhere, more, none}
use Rattle.ecma_text_leaves.proofs.Trees.{children_made, kind_made}
use Rattle.ecma_leaves.specs.Words.{is_spelled}
use Rattle.ecma_rules.specs.Children.{is_named, kind_of}
use Rattle.ecma_rules.specs.Failing.{failing_here, failing_step, least, least_from}
use Rattle.ecma_rules.specs.Members.{second_constructor}
use Rattle.ecma_rules.specs.Jumps.{first_stray, Held, held_in, not_held as no_jump_held, stray_here}
use Rattle.ecma_fits.specs.declared.role.Role.{Role}
use Rattle.ecma_fits.specs.declared.role.Role.TheVariants as role
use Rattle.ecma_fits.specs.declared.strays.Arguments.{Arguments}
use Rattle.ecma_fits.specs.declared.unfit.Where.{Where}
use Rattle.ecma_fits.specs.Fitting.{at_top, breaks_rule, first_unfit_in, is_misplaced, is_misshapen, is_unfit, unfit_here, where_in}
use Rattle.ecma_fits.specs.Roles.{is_assigned, is_bound_name, is_out_of_role, is_tagged, is_wrong_name, may_be, role_in, takes}
use Rattle.ecma_fits.specs.Strays.{arguments_in, is_stray_target}
use Rattle.ecma_round_trip_literals.specs.Sources.{KeepsSpelling, with_source, with_sources}
use Rattle.ecma_plain.specs.Writable.{IsWritable}
use Rattle.ecma_round_trip_literals.specs.Laws.{WhatFitsFitsWithSources}
use Rattle.ecma_round_trip_literals.proofs.Moved.{Blind, Same, blind, child_same, children_moved, children_of, kind_moved, kind_same, to, walk_same}
use Rattle.ecma_round_trip_literals.proofs.Spelled.{writable_literals_keep_spelling}
use Rattle.ecma_round_trip_literals.proofs.Tests.{chains_same, dangling_same, members_same as misread_same, short_same, simple_same}
use Rattle.ecma_round_trip_literals.proofs.Rules.{around_same, constructors_same, held_same, lists_same, members_same, statements_same, stray_place_same}
use Rattle.ecma_tree.proofs.Layers.{from_leaves_out}
use Rattle.ecma_fits.proofs.Clauses.{fits_of, none_unfit}

misshapen_same : Same is_misshapen
misshapen_same n = ap₂ (λ a b. a || b) (short_same n) (ap₂ (λ a b. a || b) (dangling_same n) (ap₂ (λ a b. a || b) (chains_same n) (misread_same n)))

may_be_blind : (r : Role) → Blind Bool (may_be r)
unfolding may_be
may_be_blind role.Free = (λ v r s. refl, λ v r s. refl, λ v r s. refl)
may_be_blind _ = (λ v r s. refl, λ v r s. refl, λ v r s. refl)

takes_blind : (r : Role) → Blind Bool (takes r)
unfolding takes
takes_blind role.Left = (λ v r s. refl, λ v r s. refl, λ v r s. refl)
takes_blind _ = (λ v r s. refl, λ v r s. refl, λ v r s. refl)

role_same : (r : Role) → Same (is_out_of_role r)
role_same r n =
    ap₂ (λ a b. a || not b) (kind_same Bool (is_wrong_name r) (λ v r s. refl, λ v r s. refl, λ v r s. refl) n)
    (ap₂ (λ a b. a || b) (kind_same Bool (may_be r) (may_be_blind r) n) (ap₂ (λ a b. a && b) (kind_same Bool (takes r) (takes_blind r) n) (simple_same n)))

stray_same : (r : Role) (a : Arguments) → Same (is_stray_target r a)
stray_same r a n =
    ap₂ (λ x y. a.stray && (is_assigned r && (x && y))) (kind_same Bool is_bound_name (λ v r s. refl, λ v r s. refl, λ v r s. refl) n)
    (child_same (is_named (codes "arguments")) (λ v r s. refl, λ v r s. refl, λ v r s. refl) n 0)

rules_same : (w : Where) → Same (breaks_rule w)
rules_same w n = ap₂ (λ a b. a || b) (lists_same w.around n) (ap₂ (λ a b. a || b) (members_same w.around n) (statements_same w.around n))

misplaced_same : (w : Where) → Same (is_misplaced w)
misplaced_same w n = ap₂ (λ a b. a || b) (role_same w.role n) (ap₂ (λ a b. a || b) (stray_same w.role w.arguments n) (rules_same w n))

role_blind : (r : Role) (i : ℕ) → Blind Role (λ k. role_in r k i)
unfolding role_in
role_blind r i = (λ v r s. refl, λ v r s. refl, λ v r s. refl)

arguments_blind : (a : Arguments) (i : ℕ) → Blind Arguments (λ k. arguments_in a k i)
unfolding arguments_in
arguments_blind a i = (λ v r s. refl, λ v r s. refl, λ v r s. refl)

where_same : (w : Where) (n : Node) (i : ℕ) → where_in w (to n) i ≡ where_in w n i
where_same w n i = λ j. record {
  role = kind_same Role (λ k. role_in w.role k i) (role_blind w.role i) n j;
  around = around_same w.around n i j;
  arguments = kind_same Arguments (λ k. arguments_in w.arguments k i) (arguments_blind w.arguments i) n j;
}

-- ---- a node

pub none_least : (a b : Option ℕ) → least a b ≡ None → (a ≡ None) × (b ≡ None)
none_least None b h = (refl, h)
none_least (Some i) None h = cc
none_least (Some i) (Some j) h = cc

not_failing : (b : Bool) (n : Node) → failing_here b n ≡ None → b ≡ false
not_failing true n h = cc
not_failing false n h = refl

none_of : (a b c : Bool) → (a || (b || not c)) ≡ false → (a ≡ false) × (b ≡ false) × (c ≡ true)
none_of false false true h = (refl, refl, refl)
none_of false false false h = cc
none_of false true c h = cc
none_of true b c h = cc

-- the leaf of a node that fits is spelled
pub spelled_here : (w : Where) (n : Node) → unfit_here w n ≡ None → is_spelled (is_tagged w.role) (kind_of n) ≡ true
unfolding is_unfit
spelled_here w n h =
    let fits = not_failing (is_unfit w n) n (none_least (failing_here (is_unfit w n) n) (second_constructor n) h).0 in
    (none_of (is_misshapen n) (is_misplaced w n) (is_spelled (is_tagged w.role) (kind_of n)) fits).2

unfit_by : (a b c : Bool) → a ≡ false → b ≡ false → c ≡ true → (a || (b || not c)) ≡ false
unfit_by a b c h g k = rw (h, g, k) refl

module _ (w : Where) (n : Node) (keeps : KeepsSpelling (kind_of n)) where
  still_fit : is_unfit w n ≡ false → is_unfit w (to n) ≡ false
  unfolding is_unfit
  still_fit h =
      let t = is_tagged w.role in
      let told = none_of (is_misshapen n) (is_misplaced w n) (is_spelled t (kind_of n)) h in
      unfit_by (is_misshapen (to n)) (is_misplaced w (to n)) (is_spelled t (kind_of (to n))) (misshapen_same n ∙ told.0) (misplaced_same w n ∙ told.1) (ap (is_spelled t) (kind_moved n) ∙ keeps t told.2)

  still_fit_here : unfit_here w n ≡ None → unfit_here w (to n) ≡ None
  still_fit_here h =
      let told = none_least (failing_here (is_unfit w n) n) (second_constructor n) h in
      ap₂ least (ap (λ b. failing_here b (to n)) (still_fit (not_failing (is_unfit w n) n told.0))) (constructors_same n ∙ told.1)

-- ---- all nodes

pub first-out : (n : Node) (w : Where) → first_unfit_in n w ≡ least (unfit_here w n) (least_from Where (where_in w n) 0 (map first_unfit_in (children_of n)))
first-out n w = ap (λ f. f w) (from_leaves_out (Where → Option ℕ) (failing_step Where unfit_here where_in) n)

moved_out : (n : Node) (w : Where) → first_unfit_in (to n) w ≡ least (unfit_here w (to n)) (least_from Where (where_in w n) 0 (map first_unfit_in (map to (children_of n))))
moved_out n w =
    first-out (to n) w
    ∙ ap₂ (λ (f : ℕ → Where) (cs : List Node). least (unfit_here w (to n)) (least_from Where f 0 (map first_unfit_in cs))) (λ j i. where_same w n i j) (children_moved n)

mutual
  kept : {n : Node} → Everywhere IsWritable n → (w : Where) → first_unfit_in n w ≡ None → first_unfit_in (to n) w ≡ None
  kept (everywhere at k {children = cs} p below) w h =
      let n = node_of at k cs in
      let told = none_least (unfit_here w n) (least_from Where (where_in w n) 0 (map first_unfit_in (children_of n))) (sym (first-out n w) ∙ h) in
      let here : unfit_here w (to n) ≡ None = still_fit_here w n (subst KeepsSpelling (sym (kind_made at k cs)) (writable_literals_keep_spelling k p)) told.0 in
      let these : least_from Where (where_in w n) 0 (map first_unfit_in cs) ≡ None = ap (λ (z : List Node). least_from Where (where_in w n) 0 (map first_unfit_in z)) (sym (children_made at k cs)) ∙ told.1 in
      moved_out n w
      ∙ ap₂ least here (ap (λ (z : List Node). least_from Where (where_in w n) 0 (map first_unfit_in (map to z))) (children_made at k cs) ∙ all_kept below (where_in w n) 0 these)

  all_kept : {ns : List Node} → Each IsWritable ns → (around : ℕ → Where) (i : ℕ) → least_from Where around i (map first_unfit_in ns) ≡ None → least_from Where around i (map first_unfit_in (map to ns)) ≡ None
  all_kept none around i h = refl
  all_kept (more {n} {ns} e es) around i h =
      let told = none_least (first_unfit_in n (around i)) (least_from Where around (suc i) (map first_unfit_in ns)) h in
      ap₂ least (kept e (around i) told.0) (all_kept es around (suc i) told.1)

-- ---- sorts

belongs_blind : (sort : Sort) → Blind Bool (allows_by One sort)
belongs_blind sort.Program = (λ v r s. refl, λ v r s. refl, λ v r s. refl)
belongs_blind _ = (λ v r s. refl, λ v r s. refl, λ v r s. refl)

maybe_blind : (sort : Sort) → Blind Bool (allows_by Maybe sort)
maybe_blind sort.Program = (λ v r s. refl, λ v r s. refl, λ v r s. refl)
maybe_blind _ = (λ v r s. refl, λ v r s. refl, λ v r s. refl)

allows_blind : (count : Count) (sort : Sort) → Blind Bool (allows_by count sort)
allows_blind One sort = belongs_blind sort
allows_blind Maybe sort = maybe_blind sort
allows_blind Many sort = (λ v r s. refl, λ v r s. refl, λ v r s. refl)
allows_blind MaybeMany sort = (λ v r s. refl, λ v r s. refl, λ v r s. refl)
allows_blind Holes sort = (λ v r s. refl, λ v r s. refl, λ v r s. refl)

asked_with_source : (k : Kind) (shape : Shape) (n : ℕ) → child_shapes (with_source k) shape n ≡ child_shapes k shape n
asked_with_source (kind.Str value raw) shape n = refl
asked_with_source _ shape n = refl

sources_keep_sorts : (tree : Node) (sort : Sort) → HasSort sort tree → HasSort sort (with_sources tree)
sources_keep_sorts tree sort h =
    let keeps : KeepsShapes with_source = record { allowed = λ shape k. blind Bool (allows shape) (allows_blind shape.count shape.sort) k; asked = asked_with_source } in
    changes_keep_shapes (λ span. span) with_source keeps tree (one sort) ∙ h

-- ---- jumps

strays_stay : (tree : Node) → first_stray (with_sources tree) ≡ first_stray tree
strays_stay tree = walk_same Held stray_here held_in stray_place_same held_same tree no_jump_held

pub what_fits_fits_with_sources : WhatFitsFitsWithSources
what_fits_fits_with_sources tree writable fits =
    fits_of (with_sources tree) (sources_keep_sorts tree sort.Module fits.sorted) (kept writable at_top (none_unfit tree fits)) (strays_stay tree ∙ fits.strays)
