-- A node that is itself there, whose children are covered, is not misplaced.
use Rattle.std.proofs.Common.{◌≡◌, ◌∙◌, Bool, true, false, not, ◌&&◌, ◌||◌, List, map, length, sym, ap, ap₂, subst}
use Rattle.ecma_kind.specs.Sorts.{belongs}
use Rattle.ecma_kind.specs.declared.span.Span.{Span}
use Rattle.ecma_kind.specs.declared.kind.Kind.{Kind}
use Rattle.ecma_kind.specs.declared.kind.Kind.TheVariants as kind
use Rattle.ecma_kind.specs.declared.shapes.Shape.{Shape}
use Rattle.ecma_tree.specs.declared.node.Node.{Node, Node-F, roll-Node}
use Rattle.ecma_tree.specs.Laws.{HaveShapes}
use Rattle.ecma_tree.specs.Nodes.{node_of}
use Rattle.ecma_tree.specs.Sorted.{allows, child_shapes}
use Rattle.ecma_rules.specs.declared.target.Target.{Target}
use Rattle.ecma_rules.specs.Children.{kind_of}
use Rattle.ecma_rules.specs.Finishing.{each_in}
use Rattle.ecma_rules.specs.Lists.{is_early_rest, is_head, is_wrong_head}
use Rattle.ecma_rules.specs.Members.{is_misfit, is_special_by, is_special_constructor, is_stray_property, misfits_by, misplaces_this, misplaces_this_by}
use Rattle.ecma_rules.specs.Rules.{fails_list, fails_member, fails_statement}
use Rattle.ecma_rules.specs.Supers.{is_linked}
use Rattle.ecma_rules.specs.Targets.{is_simple_target, target_in, may_be as target_may_be}
use Rattle.ecma_covers.specs.Covering.{cover_at}
use Rattle.ecma_covers.specs.Placing.{as_read}
use Rattle.ecma_fits.specs.declared.role.Role.TheVariants as role
use Rattle.ecma_fits.specs.declared.unfit.Where.{Where}
use Rattle.ecma_fits.specs.Fitting.{breaks_rule}
use Rattle.ecma_fits.specs.Roles.{may_be, takes}
use Rattle.ecma_print_fits.proofs.Parts.{Fitting, kind_made, neither, role_allows}
use Rattle.ecma_print_fits.proofs.Roles.{property_kind, suits, target_of}
use Rattle.ecma_print_fits.proofs.Tests.{simple_stays}
use Rattle.ecma_print_fits.proofs.Aimed.{target_may}
use Rattle.ecma_print_fits.proofs.Sorted.{default_stays, early_stays, lone_stays, wrapper_asked}
use Rattle.ecma_print_fits.proofs.Reading.{accessors_stay, constructors_stay, head_stays, private_stays, property_stays, receivers_stay}
use Rattle.ecma_print_fits.proofs.Fine.{Fine, early_by, head_by, property_by, statement_by}

-- what is known of the node and of where it stands
pub record There (t : Target) (l : Bool) (w : Where) (o : Shape) : Type 0 where
  pub same : t ≡ target_of w.role
  pub head : is_head w.around.target ≡ is_head t
  pub last : w.around.is_last ≡ true → l ≡ true
  pub suit : suits w.role o ≡ true
  pub short : belongs o.sort kind.AssignProp ≡ true → w.role ≡ role.Free
  pub super : belongs o.sort kind.Super ≡ true → is_linked w.around.standing ≡ true

-- what the rules that read a finished tree as they read a raw one say of the node
record Kept (w : Where) (k : Kind) (n : Node) : Type 0 where
  head : head_by w.around.target k n ≡ false
  early : early_by w.around.target w.around.is_last k ≡ false
  property : property_by w.around.standing k n ≡ false
  accessor : misfits_by k n ≡ false
  constructor : is_special_by k n ≡ false
  receiver : misplaces_this_by k n ≡ false
  statement : statement_by w.around.standing k ≡ false

kept_here : (w : Where) (n : Node) → breaks_rule w n ≡ false → Kept w (kind_of n) n
kept_here w n rules =
    let rule = neither (fails_list w.around n) (fails_member w.around n || fails_statement w.around n) rules in
    let list = neither (is_wrong_head w.around.target n) (is_early_rest w.around.target w.around.is_last n) rule.0 in
    let more = neither (fails_member w.around n) (fails_statement w.around n) rule.1 in
    let member = neither (is_stray_property w.around.standing n) (is_misfit n || (is_special_constructor n || misplaces_this n)) more.0 in
    let accessor = neither (is_misfit n) (is_special_constructor n || misplaces_this n) member.1 in
    let both = neither (is_special_constructor n) (misplaces_this n) accessor.1 in
    record { head = list.0; early = list.1; property = member.0; accessor = accessor.0; constructor = both.0; receiver = both.1; statement = more.1 }

kept_rules : (w : Where) (x : Node-F Node) → breaks_rule w (roll-Node x) ≡ false → Kept w x.kind (roll-Node x)
kept_rules w x rules = subst (λ k. Kept w k (roll-Node x)) (kind_made x) (kept_here w (roll-Node x) rules)

module _ (t : Target) (l : Bool) (w : Where) (o : Shape) (at : Span) (k : Kind) (cs : List Node) (there : There t l w o) (h : as_read t k ≡ true) (allowed : allows o k ≡ true) where
  abbrev was : Node
  was = node_of at k cs

  abbrev now : Node
  now = node_of at k (each_in (target_in t k) (map cover_at cs))

  aimed : (may_be w.role k || (takes w.role k && is_simple_target was)) ≡ true → not (target_may_be t k || is_simple_target now) ≡ false
  aimed may =
      let simple : is_simple_target now ≡ is_simple_target was = simple_stays (record { span = at; kind = k; children = cs }) (target_in t k) (wrapper_asked t k) in
      let read : as_read (target_of w.role) k ≡ true = sym (ap (λ u. as_read u k) there.same) ∙ h in
      let m : (target_may_be (target_of w.role) k || is_simple_target was) ≡ true = target_may w.role k (is_simple_target was) read (λ e. property_kind o.count o.sort k (subst (λ r. suits r o ≡ true) e there.suit) allowed) may in
      ap not (ap₂ (λ u b. target_may_be u k || b) there.same simple ∙ m)

  pub itself_fine : HaveShapes (child_shapes k o (length cs)) cs → Fitting w (record { span = at; kind = k; children = cs }) → Fine (record { target = t; standing = w.around.standing; is_last = l }) k now
  itself_fine have f =
      let kept = kept_rules w (record { span = at; kind = k; children = cs }) f.rules in
      let may = role_allows (record { span = at; kind = k; children = cs }) w.role f.role in
      record {
        target = aimed may;
        default = default_stays k t w.role o (is_simple_target was) allowed there.short may;
        head = head_stays t at k cs o (length cs) w.around.target t there.head have kept.head;
        early = early_stays t w.around.target k w.around.is_last l h there.last kept.early;
        property = property_stays t at k cs w.around.standing kept.property;
        accessor = accessors_stay t at k cs o (length cs) have ∙ kept.accessor;
        constructor = constructors_stay t at k cs ∙ kept.constructor;
        receiver = receivers_stay t at k cs o (length cs) have ∙ kept.receiver;
        statement = kept.statement;
        lone = lone_stays k o w.around.standing allowed there.super;
        private = private_stays t at k cs o (length cs) have;
      }
