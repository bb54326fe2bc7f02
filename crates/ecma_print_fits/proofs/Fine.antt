-- A node that is not misplaced, by its kind.
use Rattle.std.proofs.Common.{◌≡◌, ◌∙◌, ℕ, suc, Bool, true, false, not, ◌&&◌, ◌||◌, List, [], ◌∷◌, map, Option, None, refl, sym, ap, ap₂, subst}
use Rattle.ecma_kind.specs.declared.kind.Kind.{Kind}
use Rattle.ecma_kind.specs.declared.kind.Kind.TheVariants as kind
use Rattle.ecma_tree.specs.declared.node.Node.{Node, Node-F, roll-Node}
use Rattle.ecma_tree.specs.declared.node.Node.TheViews.{out-roll-Node}
use Rattle.ecma_tree.proofs.Layers.{from_leaves-roll}
use Rattle.ecma_rules.specs.declared.target.Target.{Target}
use Rattle.ecma_rules.specs.declared.standing.Around.{Around}
use Rattle.ecma_rules.specs.declared.standing.Standing.{Standing}
use Rattle.ecma_rules.specs.Children.{child_holds, child_is, items_at, kind_of}
use Rattle.ecma_rules.specs.Failing.{failing_here, failing_step, least, least_from}
use Rattle.ecma_rules.specs.Lists.{is_head, is_item, is_one_without_value, is_rest, is_rest_pattern}
use Rattle.ecma_rules.specs.Members.{is_declaring, is_plain_parameter, is_property_kind, is_special_by, misfits_by, misplaces_this_by, second_by, second_constructor}
use Rattle.ecma_rules.specs.Rules.{first_misplaced, is_misplaced, misplaced_here}
use Rattle.ecma_rules.specs.Statements.{is_body, is_declaration, is_exported, is_text}
use Rattle.ecma_rules.specs.Supers.{is_linked, is_private_name, is_super, is_super_member}
use Rattle.ecma_rules.specs.Surroundings.{around_in}
use Rattle.ecma_rules.specs.Targets.{is_plain_target, is_property, is_short_default, is_simple_target, is_spread, is_variables, may_be}
use Rattle.ecma_rules.proofs.Simple.{simple-plain}
use Rattle.ecma_print_fits.proofs.Parts.{around_by, kind_made, not_true, shifted}

pub either_no : (a b : Bool) → a ≡ false → b ≡ false → (a || b) ≡ false
either_no a b h g = rw (h, g) refl

pub and_no : (a b : Bool) → b ≡ false → (a && b) ≡ false
and_no true b h = h
and_no false b h = refl

pub no_and : (a b : Bool) → a ≡ false → (a && b) ≡ false
no_and a b h = rw h refl

-- the tests of a node, by its kind
abbrev pub head_by : Target → Kind → Node → Bool
head_by t k n = (is_head t && is_variables k) && not (is_one_without_value (items_at n 0))

abbrev pub early_by : Target → Bool → Kind → Bool
early_by t last k = is_rest t k && not last

abbrev pub property_by : Standing → Kind → Node → Bool
property_by s k n = is_property_kind k && not (is_declaring s && child_holds is_plain_parameter n 0)

abbrev pub statement_by : Standing → Kind → Bool
statement_by s k = (is_exported s && is_text k) || (is_body s && is_declaration k)

abbrev pub lone_by : Standing → Kind → Bool
lone_by s k = is_super k && not (is_linked s)

abbrev pub private_by : Kind → Node → Bool
private_by k n = is_super_member k && child_is is_private_name n 1

-- what each rule asks
pub record Fine (a : Around) (k : Kind) (n : Node) : Type 0 where
  pub target : not (may_be a.target k || is_simple_target n) ≡ false
  pub default : (is_short_default k && not (is_property a.target)) ≡ false
  pub head : head_by a.target k n ≡ false
  pub early : early_by a.target a.is_last k ≡ false
  pub property : property_by a.standing k n ≡ false
  pub accessor : misfits_by k n ≡ false
  pub constructor : is_special_by k n ≡ false
  pub receiver : misplaces_this_by k n ≡ false
  pub statement : statement_by a.standing k ≡ false
  pub lone : lone_by a.standing k ≡ false
  pub private : private_by k n ≡ false

fine_kind : (a : Around) (n : Node) → Fine a (kind_of n) n → is_misplaced a n ≡ false
unfolding is_misplaced
fine_kind a n f =
    let k = kind_of n in
    either_no (not (may_be a.target k || is_simple_target n) || (is_short_default k && not (is_property a.target))) _ (either_no (not (may_be a.target k || is_simple_target n)) _ f.target f.default)
    (either_no (head_by a.target k n || early_by a.target a.is_last k) _ (either_no (head_by a.target k n) _ f.head f.early)
    (either_no (property_by a.standing k n || (misfits_by k n || (is_special_by k n || misplaces_this_by k n))) _
    (either_no (property_by a.standing k n) _ f.property (either_no (misfits_by k n) _ f.accessor (either_no (is_special_by k n) _ f.constructor f.receiver)))
    (either_no (statement_by a.standing k) _ f.statement (either_no (lone_by a.standing k) _ f.lone f.private))))

pub fine_node : (a : Around) (x : Node-F Node) → Fine a x.kind (roll-Node x) → is_misplaced a (roll-Node x) ≡ false
fine_node a x f = fine_kind a (roll-Node x) (subst (λ k. Fine a k (roll-Node x)) (sym (kind_made x)) f)

-- nodes of which none is misplaced, nor any in them
abbrev pub Whole : Around → Node → Type 0
Whole a n = first_misplaced n a ≡ None

abbrev pub AllWhole : (ℕ → Around) → List Node → Type 0
AllWhole around_of [] = Unit {0}
AllWhole around_of (n ∷ ns) = Whole (around_of 0) n × AllWhole (λ i. around_of (suc i)) ns

none_told : (around_of : ℕ → Around) (ns : List Node) → AllWhole around_of ns → least_from Around around_of 0 (map first_misplaced ns) ≡ None
none_told around_of [] h = refl
none_told around_of (n ∷ ns) h = ap₂ least h.0 (shifted Around around_of 0 (map first_misplaced ns) ∙ none_told (λ i. around_of (suc i)) ns h.1)

pub whole_node : (a : Around) (x : Node-F Node) → is_misplaced a (roll-Node x) ≡ false → second_constructor (roll-Node x) ≡ None → AllWhole (around_by a x) x.children → Whole a (roll-Node x)
whole_node a x fine single below =
    let n = roll-Node x in
    ap (λ f. f a) (from_leaves-roll (Around → Option ℕ) (failing_step Around misplaced_here around_in) x)
    ∙ ap₂ least (ap₂ least (ap (λ b. failing_here b n) fine) single)
    (subst (λ (p : Node-F Node). least_from Around (around_by a p) 0 (map first_misplaced x.children) ≡ None) (sym (out-roll-Node x)) (none_told (around_by a x) x.children below))

-- the kinds that cover parts of patterns

abbrev pub is_covering : Kind → Bool
is_covering (kind.Ident text ctxt optional) = true
is_covering kind.ArrayLit = true
is_covering kind.ObjectLit = true
is_covering kind.SpreadElement = true
is_covering (kind.AssignExpr op) = true
is_covering kind.KeyValueProp = true
is_covering kind.AssignProp = true
is_covering _ = false

-- a kind of which the rules on members, statements and declarations say nothing
record Quiet (k : Kind) (n : Node) : Type 0 where
  variables : is_variables k ≡ false
  rest : is_rest_pattern k ≡ false
  property : is_property_kind k ≡ false
  accessor : misfits_by k n ≡ false
  constructor : is_special_by k n ≡ false
  receiver : misplaces_this_by k n ≡ false
  text : is_text k ≡ false
  declaration : is_declaration k ≡ false
  super : is_super k ≡ false
  member : is_super_member k ≡ false
  single : second_by k n ≡ None

quiet : (k : Kind) (n : Node) → is_covering k ≡ true → Quiet k n
unfolding misfits_by misplaces_this_by is_declaration
quiet (kind.Ident text ctxt optional) n h = record { variables = refl; rest = refl; property = refl; accessor = refl; constructor = refl; receiver = refl; text = refl; declaration = refl; super = refl; member = refl; single = refl }
quiet kind.ArrayLit n h = record { variables = refl; rest = refl; property = refl; accessor = refl; constructor = refl; receiver = refl; text = refl; declaration = refl; super = refl; member = refl; single = refl }
quiet kind.ObjectLit n h = record { variables = refl; rest = refl; property = refl; accessor = refl; constructor = refl; receiver = refl; text = refl; declaration = refl; super = refl; member = refl; single = refl }
quiet kind.SpreadElement n h = record { variables = refl; rest = refl; property = refl; accessor = refl; constructor = refl; receiver = refl; text = refl; declaration = refl; super = refl; member = refl; single = refl }
quiet (kind.AssignExpr op) n h = record { variables = refl; rest = refl; property = refl; accessor = refl; constructor = refl; receiver = refl; text = refl; declaration = refl; super = refl; member = refl; single = refl }
quiet kind.KeyValueProp n h = record { variables = refl; rest = refl; property = refl; accessor = refl; constructor = refl; receiver = refl; text = refl; declaration = refl; super = refl; member = refl; single = refl }
quiet kind.AssignProp n h = record { variables = refl; rest = refl; property = refl; accessor = refl; constructor = refl; receiver = refl; text = refl; declaration = refl; super = refl; member = refl; single = refl }
quiet _ n h = not_true h

-- such a node, where it may stand
pub covering_whole : (a : Around) (x : Node-F Node) → is_covering x.kind ≡ true → (may_be a.target x.kind || is_plain_target x.kind) ≡ true → (is_short_default x.kind && not (is_property a.target)) ≡ false
    → ((is_item a.target && is_spread x.kind) && not a.is_last) ≡ false → AllWhole (around_by a x) x.children → Whole a (roll-Node x)
covering_whole a x covering may default early below =
    let n = roll-Node x in
    let k = x.kind in
    let q = quiet k n covering in
    whole_node a x (fine_node a x (record {
      target = stands (may_be a.target k) (is_plain_target k) refl may;
      default = default;
      head = no_and (is_head a.target && is_variables k) (not (is_one_without_value (items_at n 0))) (and_no (is_head a.target) (is_variables k) q.variables);
      early = subst (λ b. ((b || (is_item a.target && is_spread k)) && not a.is_last) ≡ false) (sym q.rest) early;
      property = no_and (is_property_kind k) (not (is_declaring a.standing && child_holds is_plain_parameter n 0)) q.property;
      accessor = q.accessor;
      constructor = q.constructor;
      receiver = q.receiver;
      statement = either_no (is_exported a.standing && is_text k) (is_body a.standing && is_declaration k) (and_no (is_exported a.standing) (is_text k) q.text) (and_no (is_body a.standing) (is_declaration k) q.declaration);
      lone = no_and (is_super k) (not (is_linked a.standing)) q.super;
      private = no_and (is_super_member k) (child_is is_private_name n 1) q.member;
    })) (ap (λ k. second_by k n) (kind_made x) ∙ q.single) below
  where
    stands : (m p : Bool) → is_plain_target x.kind ≡ p → (m || p) ≡ true → not (m || is_simple_target (roll-Node x)) ≡ false
    stands true p e h = refl
    stands false true e h = ap not (sym (simple-plain (roll-Node x) (ap is_plain_target (kind_made x) ∙ e)))
    stands false false e h = not_true h
