-- What fits fits without any items of modules and namespaces, and any specifiers of imports and exports.
use Rattle.std.proofs.Common.{◌≡◌, ◌∙◌, ℕ, Bool, true, false, not, codes, cond, ◌&&◌, ◌||◌, Some, None, refl, sym, ap, ap₂}
use Rattle.ecma_kind.specs.declared.kind.Kind.{Kind}
use Rattle.ecma_kind.specs.declared.kind.Kind.TheVariants as kind
use Rattle.ecma_kind.specs.declared.shapes.Shape.{Shape}
use Rattle.ecma_kind.specs.declared.shapes.Sort.TheVariants as sort
use Rattle.ecma_tree.specs.Sorted.{HasShape, one}
use Rattle.ecma_tree.specs.declared.node.Node.{Node}
use Rattle.ecma_leaves.specs.Words.{is_spelled}
use Rattle.ecma_rules.specs.Children.{child_is, is_named, kind_of}
use Rattle.ecma_rules.specs.Failing.{failing_here}
use Rattle.ecma_rules.specs.Jumps.{Held, first_stray, held_in, is_held_stray, not_held, stray_here}
use Rattle.ecma_rules.specs.Lists.{is_early_rest, is_rest, is_wrong_head}
use Rattle.ecma_rules.specs.Members.{has_second_constructor}
use Rattle.ecma_rules.specs.Rules.{fails_list, fails_member, fails_statement}
use Rattle.ecma_rules.specs.Statements.{is_body, is_declaration, is_exported, is_text}
use Rattle.ecma_fits.specs.declared.role.Role.{Role}
use Rattle.ecma_fits.specs.declared.strays.Arguments.{Arguments}
use Rattle.ecma_fits.specs.declared.unfit.Where.{Where}
use Rattle.ecma_fits.specs.Branches.{is_dangling}
use Rattle.ecma_fits.specs.Chains.{is_loose}
use Rattle.ecma_fits.specs.Counts.{is_short}
use Rattle.ecma_fits.specs.Fitting.{Fits, NoneFails, at_top, breaks_rule, is_misspelled, where_in}
use Rattle.ecma_fits.specs.Members.{is_misread}
use Rattle.ecma_fits.specs.Roles.{is_assigned, is_bound_name, is_out_of_role, is_tagged, is_wrong_name, may_be, takes}
use Rattle.ecma_fits.specs.Strays.{is_stray_target}
use Rattle.ecma_fits.proofs.Walks.{neither, not_failing}
use Rattle.ecma_elide_fits.specs.Dropping.{Dropping, without}
use Rattle.ecma_elide_fits.specs.Laws.{FitsWithoutItems}
use Rattle.ecma_elide_fits.proofs.Around.{Alike, alike_children, alike_items, held_children, held_items, stray_same}
use Rattle.ecma_elide_fits.proofs.Dropped.{Same, by_kind, child_same, kind_to, to, whole}
use Rattle.ecma_elide_fits.proofs.Rules.{constructors_same, fails_by, head_same, members_same}
use Rattle.ecma_elide_fits.proofs.Shapes.{shape_kept}
use Rattle.ecma_elide_fits.proofs.Tests.{dangling_same, loose_same, misread_same, short_kept, simple_same}
use Rattle.ecma_elide_fits.proofs.Walks.{passed}

or_false : (a b : Bool) → a ≡ false → b ≡ false → (a || b) ≡ false
or_false true b h g = cc
or_false false b h g = g

early : (rest : Bool) (a b : Bool) → (a ≡ true → b ≡ true) → (rest && not a) ≡ false → (rest && not b) ≡ false
early false a b last h = refl
early true false b last h = cc
early true true b last h = ap not (last refl)

module _ {S : Type 0} (d : Dropping S) where
  -- a test that no node fails after which did not before
  abbrev pub Keeps : (Where → Node → Bool) → Type 0
  Keeps fails = (t : Shape) (loses : Bool) (s : S) (n : Node) (a b : Where) → HasShape t n → Alike a b → fails a n ≡ false → fails b (to d loses s n) ≡ false

  pub none_fails : (fails : Where → Node → Bool) → Keeps fails → (s : S) (t : Shape) (tree : Node) → HasShape t tree → NoneFails fails tree → NoneFails fails (without d s tree)
  none_fails fails keeps s t tree has told =
      passed d Where where_in (λ w node. failing_here (fails w node) node) Alike (record {
        here = λ t loses s n a b has alike h. ap (λ z. failing_here z (to d loses s n)) (keeps t loses s n a b has alike (not_failing (fails a n) n h));
        children = alike_children d;
        items = alike_items d;
      }) tree t has false s at_top at_top (record { role = refl; target = refl; standing = refl; last = λ h. h; arguments = refl }) told

  -- a test that asks nothing of where a node stands
  alone : (test : Node → Bool) → ((loses : Bool) (s : S) (n : Node) → test n ≡ false → test (to d loses s n) ≡ false) → Keeps (λ w node. test node)
  alone test kept t loses s n a b has alike h = kept loses s n h

  same_alone : (test : Node → Bool) → Same d test → Keeps (λ w node. test node)
  same_alone test same = alone test (λ loses s n h. same loses s n ∙ h)

  roles_kept : Keeps (λ w node. is_out_of_role w.role node)
  roles_kept t loses s n a b has alike h =
      ap (λ r. is_out_of_role r (to d loses s n)) (sym alike.role)
      ∙ ap₂ (λ k simple. is_wrong_name a.role k || not (may_be a.role k || (takes a.role k && simple))) (kind_to d loses s n) (simple_same d loses s n) ∙ h

  target_by : (k : Kind) (loses : Bool) (s : S) (n : Node) → kind_of n ≡ k
      → (is_bound_name k && child_is (is_named (codes "arguments")) (to d loses s n) 0) ≡ (is_bound_name k && child_is (is_named (codes "arguments")) n 0)
  target_by kind.BindingIdent loses s n e = child_same d (is_named (codes "arguments")) loses s n 0 (whole d loses n kind.BindingIdent e refl)
  target_by _ loses s n e = refl

  targets_kept : Keeps (λ w node. is_stray_target w.role w.arguments node)
  targets_kept t loses s n a b has alike h =
      ap₂ (λ r g. is_stray_target r g (to d loses s n)) (sym alike.role) (sym alike.arguments)
      ∙ ap (λ z. a.arguments.stray && (is_assigned a.role && z)) (by_kind d (λ k m. is_bound_name k && child_is (is_named (codes "arguments")) m 0) target_by loses s n) ∙ h

  lists_kept : Keeps (λ w node. fails_list w.around node)
  lists_kept t loses s n a b has alike h =
      let v = neither (is_wrong_head a.around.target n) (is_early_rest a.around.target a.around.is_last n) h in
      or_false (is_wrong_head b.around.target (to d loses s n)) (is_early_rest b.around.target b.around.is_last (to d loses s n))
      (ap (λ g. is_wrong_head g (to d loses s n)) (sym alike.target) ∙ head_same d a.around.target t loses s n has ∙ v.0)
      (ap₂ (λ g k. is_rest g k && not b.around.is_last) (sym alike.target) (kind_to d loses s n)
      ∙ early (is_rest a.around.target (kind_of n)) a.around.is_last b.around.is_last alike.last v.1)

  members_kept : Keeps (λ w node. fails_member w.around node)
  members_kept t loses s n a b has alike h =
      ap (λ st. fails_by st (to d loses s n)) (sym alike.standing) ∙ members_same d a.around.standing t loses s n has ∙ h

  statements_kept : Keeps (λ w node. fails_statement w.around node)
  statements_kept t loses s n a b has alike h =
      ap₂ (λ st k. (is_exported st && is_text k) || (is_body st && is_declaration k)) (sym alike.standing) (kind_to d loses s n) ∙ h

  rules_kept : Keeps breaks_rule
  rules_kept t loses s n a b has alike h =
      let v = neither (fails_list a.around n) (fails_member a.around n || fails_statement a.around n) h in
      let u = neither (fails_member a.around n) (fails_statement a.around n) v.1 in
      or_false (fails_list b.around (to d loses s n)) (fails_member b.around (to d loses s n) || fails_statement b.around (to d loses s n)) (lists_kept t loses s n a b has alike v.0)
      (or_false (fails_member b.around (to d loses s n)) (fails_statement b.around (to d loses s n)) (members_kept t loses s n a b has alike u.0) (statements_kept t loses s n a b has alike u.1))

  leaves_kept : Keeps is_misspelled
  leaves_kept t loses s n a b has alike h =
      ap₂ (λ r k. not (is_spelled (is_tagged r) k)) (sym alike.role) (kind_to d loses s n) ∙ h

  strays_kept : (s : S) (t : Shape) (tree : Node) → HasShape t tree → first_stray tree ≡ None → first_stray (without d s tree) ≡ None
  strays_kept s t tree has told =
      passed d Held held_in stray_here (λ a b. a ≡ b) (record {
        here = λ t loses s n a b has same h.
            (ap (λ z. stray_here z (to d loses s n)) (sym same)
            ∙ ap (λ z. failing_here z (to d loses s n)) (stray_same d a loses s n ∙ not_failing (is_held_stray a n) n h));
        children = λ loses s n a b same w i. held_children d a loses s n i w ∙ ap (λ z. held_in z (to d loses s n) i) same;
        items = λ loses s n a b same l i j last. held_items d a loses s n i j l ∙ ap (λ z. held_in z (to d loses s n) j) same;
      }) tree t has false s not_held not_held refl told

  pub kept : (s : S) (tree : Node) → Fits tree → Fits (without d s tree)
  kept s tree f =
      let t = one sort.Module in
      record {
        sorted = shape_kept d tree false s t f.sorted;
        counts = none_fails (λ w node. is_short node) (alone is_short (short_kept d)) s t tree f.sorted f.counts;
        branches = none_fails (λ w node. is_dangling node) (same_alone is_dangling (dangling_same d)) s t tree f.sorted f.branches;
        chains = none_fails (λ w node. is_loose node) (same_alone is_loose (loose_same d)) s t tree f.sorted f.chains;
        members = none_fails (λ w node. is_misread node) (same_alone is_misread (misread_same d)) s t tree f.sorted f.members;
        roles = none_fails (λ w node. is_out_of_role w.role node) roles_kept s t tree f.sorted f.roles;
        targets = none_fails (λ w node. is_stray_target w.role w.arguments node) targets_kept s t tree f.sorted f.targets;
        rules = none_fails breaks_rule rules_kept s t tree f.sorted f.rules;
        constructors = none_fails (λ w node. has_second_constructor node) (same_alone has_second_constructor (constructors_same d)) s t tree f.sorted f.constructors;
        leaves = none_fails is_misspelled leaves_kept s t tree f.sorted f.leaves;
        strays = strays_kept s t tree f.sorted f.strays;
      }

pub fits_without_items : (S : Type 0) → FitsWithoutItems S
fits_without_items S d s tree f = kept d s tree f
