-- What a node that keeps the context rules is.
use Rattle.std.proofs.Common.{◌≡◌, ◌∙◌, ℕ, Bool, true, false, not, ◌&&◌, ◌||◌, map, Option, Some, None, refl, sym, ap, subst, slice_get}
use Rattle.ecma_kind.specs.declared.kind.Kind.TheVariants as kind
use Rattle.ecma_tree.specs.declared.node.Node.{Node, Node-F, fold-roll-Node, out-Node, roll-Node}
use Rattle.ecma_tree.specs.declared.node.Node.TheViews.{out-roll-Node}
use Rattle.ecma_tree.specs.Sorted.{is_list}
use Rattle.ecma_tree.proofs.Layers.{from_leaves-roll}
use Rattle.ecma_rules.specs.declared.standing.Around.{Around}
use Rattle.ecma_rules.specs.Children.{holds_of, is_present, of_kind, child_is, has_child}
use Rattle.ecma_rules.specs.Failing.{failing_here, failing_step, least, least_from}
use Rattle.ecma_rules.specs.Lists.{is_rest_pattern}
use Rattle.ecma_rules.specs.Members.{is_declaring, is_misfit, is_plain_parameter, is_property_kind, is_special_constructor, is_stray_property, misfits_by, misplaces_this, second_constructor, takes_not_one}
use Rattle.ecma_rules.specs.Rules.{fails_list, fails_member, fails_statement, fails_super, fails_target, first_misplaced, is_misplaced, misplaced_here}
use Rattle.ecma_rules.specs.Supers.{is_linked, is_lone_super, is_private_name, is_private_of_super, is_super, is_super_member}
use Rattle.ecma_rules.specs.Surroundings.{around_in}
use Rattle.ecma_rules.specs.Targets.{first_is, is_no_target, is_plain_target, is_simple_target, is_stray_default, is_wrapper, may_be, simple_step}
use Rattle.ecma_text_sorts.proofs.Turning.{keeps}
use Rattle.ecma_text_sorts.proofs.Children.{and_true}

neither : (a b : Bool) → (a || b) ≡ false → (a ≡ false) × (b ≡ false)
neither true b h = cc
neither false b h = (refl, h)

pub neither_least : (a b : Option ℕ) → least a b ≡ None → (a ≡ None) × (b ≡ None)
neither_least None b h = (refl, h)
neither_least (Some i) None h = cc
neither_least (Some i) (Some j) h = cc

not_failing : (b : Bool) (n : Node) → failing_here b n ≡ None → b ≡ false
not_failing true n h = cc
not_failing false n h = refl

-- what the rules say of a node, whose parts are these
pub record Fine (around : Around) (parts : Node-F Node) : Type 0 where
  pub target : (may_be around.target parts.kind || (is_plain_target parts.kind || is_wrapper parts.kind)) ≡ true
  pub property : (is_property_kind parts.kind && not (is_declaring around.standing && holds_of is_plain_parameter (slice_get parts.children 0))) ≡ false
  pub getter : parts.kind ≡ kind.GetterProp → of_kind is_present (slice_get parts.children 3) ≡ false
  pub setter : parts.kind ≡ kind.SetterProp → of_kind is_list (slice_get parts.children 2) ≡ false
  pub lone : (is_super parts.kind && not (is_linked around.standing)) ≡ false
  pub private : (is_super_member parts.kind && of_kind is_private_name (slice_get parts.children 1)) ≡ false

no_list : (o : Option Node) → of_kind takes_not_one o ≡ false → of_kind is_list o ≡ false
no_list None h = refl
no_list (Some m) h = (neither (is_list (out-Node m).kind) (is_rest_pattern (out-Node m).kind) h).0

unnot : (b : Bool) → not b ≡ false → b ≡ true
unnot true h = refl
unnot false h = cc

wider : (p w f : Bool) → (p || (w && f)) ≡ true → (p || w) ≡ true
wider true w f h = refl
wider false true f h = refl
wider false false f h = h

a_target : (m p w f : Bool) → (m || (p || (w && f))) ≡ true → (m || (p || w)) ≡ true
a_target true p w f h = refl
a_target false p w f h = wider p w f h

module _ (around : Around) (x : Node-F Node) where
  abbrev n : Node
  n = roll-Node x

  is : out-Node n ≡ x
  is = out-roll-Node x

  target_is : is_no_target around.target n ≡ false → (may_be around.target x.kind || (is_plain_target x.kind || is_wrapper x.kind)) ≡ true
  target_is h =
      let t : (may_be around.target x.kind || is_simple_target n) ≡ true = subst (λ (p : Node-F Node). (may_be around.target p.kind || is_simple_target n) ≡ true) is (unnot (may_be around.target (out-Node n).kind || is_simple_target n) h) in
      a_target (may_be around.target x.kind) (is_plain_target x.kind) (is_wrapper x.kind) (first_is (map is_simple_target x.children))
      (ap (λ z. may_be around.target x.kind || z) (sym (fold-roll-Node Bool simple_step x)) ∙ t)

  getter_is : is_misfit n ≡ false → x.kind ≡ kind.GetterProp → of_kind is_present (slice_get x.children 3) ≡ false
  unfolding misfits_by
  getter_is h e =
      let k : (out-Node n).kind ≡ kind.GetterProp = ap (λ p. p.kind) is ∙ e in
      subst (λ (p : Node-F Node). of_kind is_present (slice_get p.children 3) ≡ false) is (neither (has_child n 3) (not (has_child n 2)) (subst (λ z. misfits_by z n ≡ false) k h)).0

  setter_is : is_misfit n ≡ false → x.kind ≡ kind.SetterProp → of_kind is_list (slice_get x.children 2) ≡ false
  unfolding misfits_by
  setter_is h e =
      let k : (out-Node n).kind ≡ kind.SetterProp = ap (λ p. p.kind) is ∙ e in
      no_list (slice_get x.children 2) (subst (λ (p : Node-F Node). of_kind takes_not_one (slice_get p.children 2) ≡ false) is (neither (child_is takes_not_one n 2) (not (has_child n 3)) (subst (λ z. misfits_by z n ≡ false) k h)).0)

  fine_where : is_misplaced around n ≡ false → Fine around x
  unfolding is_misplaced
  fine_where h =
      let t = neither (fails_target around n) (fails_list around n || (fails_member around n || (fails_statement around n || fails_super around n))) h in
      let l = neither (fails_list around n) (fails_member around n || (fails_statement around n || fails_super around n)) t.1 in
      let m = neither (fails_member around n) (fails_statement around n || fails_super around n) l.1 in
      let s = neither (fails_statement around n) (fails_super around n) m.1 in
      let target = neither (is_no_target around.target n) (is_stray_default around.target n) t.0 in
      let member = neither (is_stray_property around.standing n) (is_misfit n || (is_special_constructor n || misplaces_this n)) m.0 in
      let accessor = neither (is_misfit n) (is_special_constructor n || misplaces_this n) member.1 in
      let super = neither (is_lone_super around.standing n) (is_private_of_super n) s.1 in
      record {
        target = target_is target.0;
        property = subst (λ (p : Node-F Node). (is_property_kind p.kind && not (is_declaring around.standing && holds_of is_plain_parameter (slice_get p.children 0))) ≡ false) is member.0;
        getter = getter_is accessor.0;
        setter = setter_is accessor.0;
        lone = subst (λ (p : Node-F Node). (is_super p.kind && not (is_linked around.standing)) ≡ false) is super.0;
        private = subst (λ (p : Node-F Node). (is_super_member p.kind && of_kind is_private_name (slice_get p.children 1)) ≡ false) is super.1;
      }

  -- a node in which no rule is broken is fine, and no rule is broken in its children
  pub fine_below : first_misplaced n around ≡ None → Fine around x × (least_from Around (around_in around n) 0 (map first_misplaced x.children) ≡ None)
  fine_below h =
      let e = ap (λ f. f around) (from_leaves-roll (Around → Option ℕ) (failing_step Around misplaced_here around_in) x) in
      let w = neither_least (misplaced_here around n) (least_from Around (around_in around n) 0 (map first_misplaced x.children)) (sym e ∙ h) in
      let v = neither_least (failing_here (is_misplaced around n) n) (second_constructor n) w.0 in
      (fine_where (not_failing (is_misplaced around n) n v.0), w.1)

-- what is fine keeps its kind's rule

not_or : (p d c : Bool) → (p && not (d && c)) ≡ false → (not p || d) ≡ true
not_or true true c h = refl
not_or true false c h = cc
not_or false d c h = refl

not_or_linked : (p l : Bool) → (p && not l) ≡ false → (not p || l) ≡ true
not_or_linked true true h = refl
not_or_linked true false h = cc
not_or_linked false l h = refl

pub fine_keeps : (around : Around) (x : Node-F Node) → Fine around x → keeps around.target around.standing x.kind ≡ true
fine_keeps around x fine =
    and_true (may_be around.target x.kind || (is_plain_target x.kind || is_wrapper x.kind)) ((not (is_super x.kind) || is_linked around.standing) && (not (is_property_kind x.kind) || is_declaring around.standing))
    fine.target
    (and_true (not (is_super x.kind) || is_linked around.standing) (not (is_property_kind x.kind) || is_declaring around.standing)
    (not_or_linked (is_super x.kind) (is_linked around.standing) fine.lone)
    (not_or (is_property_kind x.kind) (is_declaring around.standing) (holds_of is_plain_parameter (slice_get x.children 0)) fine.property))
