-- In what is read a text part without a value stands behind a tag.
use Rattle.std.proofs.Common.{◌≡◌, ◌∙◌, ℕ, suc, Bool, true, false, not, ◌&&◌, ◌||◌, ◌==◌, cond, List, [], ◌∷◌, ◌++◌, map, Option, None, Ok, refl, sym, ap, subst}
use Rattle.ecma_kind.specs.declared.span.Span.{Span}
use Rattle.ecma_kind.specs.declared.operators.AssignOp.{AssignOp}
use Rattle.ecma_kind.specs.declared.operators.AssignOp.TheVariants.{Assign}
use Rattle.ecma_kind.specs.declared.kind.Kind.{Kind}
use Rattle.ecma_kind.specs.declared.kind.Kind.TheVariants as kind
use Rattle.ecma_tree.specs.declared.node.Node.{Node, Node-F, ind-Node, out-Node, roll-Node}
use Rattle.ecma_tree.specs.Nodes.{absent, dummy_span, node_of}
use Rattle.ecma_grammar.specs.declared.production.Mode.{Mode}
use Rattle.ecma_rules.specs.declared.target.Target.{Target}
use Rattle.ecma_rules.specs.declared.target.Target.TheVariants as target
use Rattle.ecma_rules.specs.Children.{kind_of}
use Rattle.ecma_rules.specs.Failing.{failing_here, failing_step, first_failing, least_from}
use Rattle.ecma_rules.specs.Finishing.{binding, default_by, each_in, element_by, finished_at, finished_by, left_by, name_by, part_by, property_by, with_type}
use Rattle.ecma_rules.specs.Targets.{is_plain, target_in}
use Rattle.ecma_modules.specs.Modules.{reads_as}
use Rattle.ecma_fits.specs.declared.role.Role.{Role}
use Rattle.ecma_fits.specs.declared.role.Role.TheVariants as role
use Rattle.ecma_fits.specs.declared.unfit.Where.{Where}
use Rattle.ecma_fits.specs.Fitting.{at_top, where_in, NoneFails}
use Rattle.ecma_fits.specs.Roles.{at_child, bound_name_of, by, in_default, in_list, in_rest, in_template, is_assigned, is_in, is_tagged, is_wrong_name, role_in}
use Rattle.ecma_tree.proofs.Layers.{from_leaves-roll}
use Rattle.ecma_raw_roles.specs.RawRoles.{HasRawRole, is_parameter, is_unvalued, may_be_raw, may_stand, raw_role, raw_role_in, usual_role_in}
use Rattle.ecma_raw_roles.proofs.Placed.{Along, least_along, raw_parts}
use Rattle.ecma_text_types.proofs.Raws.{of_raw}
use Rattle.ecma_text_fits_finished.proofs.Standing.{finished_parts}
use Rattle.ecma_raw_roles.proofs.Walks.{kind_made, not_true}
use Rattle.ecma_grammar.specs.Modules.{answer_of, reads_module}
use Rattle.ecma_fits.proofs.Walks.{both_none, neither, shifted}

-- a text part has no value, and stands behind no tag
abbrev pub is_silent : Where → Node → Bool
is_silent w node = is_unvalued (kind_of node) && not (is_tagged w.role)

-- the roles that stand behind a tag, of all
abbrev tag : Role → Role
tag role.Tagged = role.Tagged
tag role.TaggedTexts = role.TaggedTexts
tag role.TaggedText = role.TaggedText
tag _ = role.Free

abbrev list_tag : Role → Role
list_tag role.TaggedTexts = role.TaggedText
list_tag _ = role.Free

-- that of the child at an index
abbrev next : Role → Kind → ℕ → Role
next r kind.List i = list_tag r
next r kind.TaggedTpl i = at_child 2 i role.Tagged
next r kind.Tpl i = at_child 1 i (in_template r)
next r _ i = role.Free

either : (b : Bool) (x y : Role) → tag x ≡ role.Free → tag y ≡ role.Free → tag (cond b x y) ≡ role.Free
either true x y h g = h
either false x y h g = g

listed : (w : Role) → tag (in_list w) ≡ list_tag w
listed role.TaggedTexts = refl
listed _ = refl

named : (w : Role) → tag (bound_name_of w) ≡ role.Free
named role.Parameter = refl
named _ = refl

rested : (w : Role) → tag (in_rest w) ≡ role.Free
rested role.DeclaredProperty = refl
rested _ = refl

defaulted : (w : Role) → tag (in_default w) ≡ role.Free
defaulted role.Parameter = refl
defaulted _ = refl

tag_template : (w : Role) → tag (in_template w) ≡ in_template w
tag_template role.Tagged = refl
tag_template _ = refl

kept : (b : Bool) (x : Role) → tag x ≡ x → tag (cond b x role.Free) ≡ cond b x role.Free
kept true x h = h
kept false x h = refl

by_free : (w : Role) → tag (by w role.Nothing role.Free) ≡ role.Free
by_free w = either (is_assigned w) role.Nothing role.Free refl refl

tag_in : (w : Role) (k : Kind) (i : ℕ) → tag (role_in w k i) ≡ next w k i
unfolding role_in
tag_in w kind.List i = listed w
tag_in w (kind.ArrayPat optional) i = either (i == 0) (by w role.AssignedElements role.DeclaredElements) (by w role.Nothing role.Free) (either (is_assigned w) role.AssignedElements role.DeclaredElements refl refl) (by_free w)
tag_in w (kind.ObjectPat optional) i = either (i == 0) (by w role.AssignedProperties role.DeclaredProperties) (by w role.Nothing role.Free) (either (is_assigned w) role.AssignedProperties role.DeclaredProperties refl refl) (by_free w)
tag_in w kind.BindingIdent i = either (i == 0) (bound_name_of w) (by w role.Nothing role.Free) (named w) (by_free w)
tag_in w kind.RestPat i = either (i == 0) (in_rest w) (by w role.Nothing role.Free) (rested w) (by_free w)
tag_in w kind.AssignPat i = either (i == 0) (in_default w) role.Free (defaulted w) refl
tag_in w kind.KeyValuePatProp i = either (i == 1) (by w role.AssignedValue role.DeclaredValue) role.Free (either (is_assigned w) role.AssignedValue role.DeclaredValue refl refl) refl
tag_in w kind.AssignPatProp i = either (i == 0) (by w role.AssignedName role.DeclaredName) role.Free (either (is_assigned w) role.AssignedName role.DeclaredName refl refl) refl
tag_in w (kind.ArrowExpr is_async is_generator) i = either (i == 0) role.Parameters role.Free refl refl
tag_in w kind.SetterProp i = either (i == 1) role.Parameter (cond (i == 2) role.Parameter role.Free) refl (either (i == 2) role.Parameter role.Free refl refl)
tag_in w kind.CatchClause i = either (i == 0) role.Declared role.Free refl refl
tag_in w (kind.VarDeclarator definite) i = either (i == 0) role.Declared role.Free refl refl
tag_in w (kind.AssignExpr op) i = either (i == 0) (cond (is_plain op) role.Left role.Simple) role.Free (either (is_plain op) role.Left role.Simple refl refl) refl
tag_in w kind.ForInStmt i = either (i == 0) role.Head role.Free refl refl
tag_in w (kind.ForOfStmt is_await) i = either (i == 0) role.Head role.Free refl refl
tag_in w (kind.BinExpr op) i = either (i == 0) (cond (is_in op) role.Private role.Free) role.Free (either (is_in op) role.Private role.Free refl refl) refl
tag_in w kind.MemberExpr i = either (i == 1) role.Private role.Free refl refl
tag_in w (kind.PrivateMethod k modifiers) i = either (i == 0) role.Private role.Free refl refl
tag_in w (kind.PrivateProp modifiers readonly declare definite) i = either (i == 0) role.Private role.Free refl refl
tag_in w (kind.ImportNamedSpecifier is_type_only) i = either (i == 1) role.Key role.Free refl refl
tag_in w kind.TsEnumMember i = either (i == 0) role.Key role.Free refl refl
tag_in w kind.TaggedTpl i = kept (i == 2) role.Tagged refl
tag_in w kind.Tpl i = kept (i == 1) (in_template w) (tag_template w)
tag_in w _ i = refl

tag_raw : (w : Role) → tag (raw_role w) ≡ tag w
tag_raw role.Left = refl
tag_raw _ = refl

past : (b : Bool) (x : Role) → tag (cond (b && false) role.Parameter x) ≡ tag x
past true x = refl
past false x = refl

raw_listed : (r : Role) → tag (cond (is_parameter r && true) role.Parameter (raw_role (in_list r))) ≡ list_tag r
raw_listed role.Parameter = refl
raw_listed _ = refl

list_role : (r : Role) (i : ℕ) → role_in r kind.List i ≡ in_list r
unfolding role_in
list_role r i = refl

tag_in_raw : (r : Role) (k : Kind) (i : ℕ) → tag (raw_role_in r k i) ≡ next r k i
unfolding raw_role_in usual_role_in
tag_in_raw r kind.SuperPropExpr i = either (i == 1) role.Private role.Free refl refl
tag_in_raw r kind.GetterProp i = either (i == 3) role.Parameters role.Free refl refl
tag_in_raw r kind.List i = ap (λ z. tag (cond (is_parameter r && true) role.Parameter (raw_role z))) (list_role r i) ∙ raw_listed r
tag_in_raw r k i = past (is_parameter r) (raw_role (role_in r k i)) ∙ tag_raw (role_in r k i) ∙ tag_in r k i

list_same : (r : Role) → list_tag r ≡ list_tag (tag r)
list_same role.TaggedTexts = refl
list_same _ = refl

template_same : (r : Role) → in_template r ≡ in_template (tag r)
template_same role.Tagged = refl
template_same _ = refl

next_same : (r : Role) (k : Kind) (i : ℕ) → next r k i ≡ next (tag r) k i
next_same r kind.List i = list_same r
next_same r kind.Tpl i = ap (λ z. at_child 1 i z) (template_same r)
next_same r _ i = refl

tagged_same : (r : Role) → is_tagged r ≡ is_tagged (tag r)
tagged_same role.TaggedText = refl
tagged_same _ = refl

-- a node of which nothing is told where it stands so

abbrev said : Node → Where → Option ℕ
said = first_failing Where (λ w node. failing_here (is_silent w node) node) where_in

abbrev Quiet : Role → Node → Type 0
Quiet g n = (w : Where) → tag w.role ≡ g → said n w ≡ None

abbrev AllQuiet : (ℕ → Role) → List Node → Type 0
AllQuiet f [] = Unit {0}
AllQuiet f (n ∷ ns) = Quiet (f 0) n × AllQuiet (λ i. f (suc i)) ns

abbrev Says : Role → Kind → Type 0
Says g k = (is_unvalued k && not (is_tagged g)) ≡ false

all_said : (f : ℕ → Role) (ns : List Node) → AllQuiet f ns → (where_of : ℕ → Where) → ((i : ℕ) → (let w = where_of i in tag w.role ≡ f i)) → least_from Where where_of 0 (map said ns) ≡ None
all_said f [] a where_of e = refl
all_said f (n ∷ ns) a where_of e =
    both_none (said n (where_of 0)) (least_from Where where_of 1 (map said ns)) (a.0 (where_of 0) (e 0))
    (shifted Where where_of 0 (map said ns) ∙ all_said (λ i. f (suc i)) ns a.1 (λ i. where_of (suc i)) (λ i. e (suc i)))

quiet_node : (span : Span) (k : Kind) (cs : List Node) (g : Role) → Says g k → AllQuiet (next g k) cs → Quiet g (node_of span k cs)
quiet_node span k cs g s a w e =
    let x : Node-F Node = record { span = span; kind = k; children = cs } in
    let n = roll-Node x in
    let tagged : is_tagged w.role ≡ is_tagged g = tagged_same w.role ∙ ap is_tagged e in
    let here : is_silent w n ≡ false = subst (λ z. (is_unvalued z && not (is_tagged w.role)) ≡ false) (sym (kind_made x)) (ap (λ b. is_unvalued k && not b) tagged ∙ s) in
    let below = all_said (next g k) cs a (where_in w n) (λ i. ap (λ z. tag (role_in w.role z i)) (kind_made x) ∙ tag_in w.role k i ∙ next_same w.role k i ∙ ap (λ z. next z k i) e) in
    ap (λ f. f w) (from_leaves-roll (Where → Option ℕ) (failing_step Where (λ w node. failing_here (is_silent w node) node) where_in) x)
    ∙ both_none (failing_here (is_silent w n) n) _ (ap (λ b. failing_here b n) here) below

quiet_absent : Quiet role.Free absent
quiet_absent = quiet_node dummy_span kind.Absent [] role.Free refl tt

with_absent : (ns : List Node) → AllQuiet (λ i. role.Free) ns → AllQuiet (λ i. role.Free) (ns ++ absent ∷ [])
with_absent [] a = (quiet_absent, tt)
with_absent (n ∷ ns) a = (a.0, with_absent ns a.1)

-- finishing

binding_quiet : (g : Role) (n : Node) → Quiet role.Free n → Quiet g (binding n)
binding_quiet g n h = quiet_node (out-Node n).span kind.BindingIdent (n ∷ absent ∷ []) g refl (h, (quiet_absent, tt))

module _ (g : Role) (span : Span) (children : List Node) where
  abbrev parts : Kind → Node-F Node
  parts k = record { span = span; kind = k; children = children }

  same : (k : Kind) → Says g k → AllQuiet (next g k) children → Quiet g (roll-Node (parts k))
  same k s a = quiet_node span k children g s a

  ident : (text : List ℕ) (ctxt : ℕ) (optional : Bool) → AllQuiet (λ i. role.Free) children → Quiet role.Free (roll-Node (parts (kind.Ident text ctxt optional)))
  ident text ctxt optional a = quiet_node span (kind.Ident text ctxt optional) children role.Free refl a

  left_quiet : (k : Kind) → Says g k → AllQuiet (next g k) children → Quiet g (left_by k (parts k))
  left_quiet kind.ArrayLit s a = quiet_node span (kind.ArrayPat false) (children ++ absent ∷ []) g refl (with_absent children a)
  left_quiet kind.ObjectLit s a = quiet_node span (kind.ObjectPat false) (children ++ absent ∷ []) g refl (with_absent children a)
  left_quiet k s a = same k s a

  name_quiet : (k : Kind) → Says g k → AllQuiet (next g k) children → Quiet g (name_by k (parts k))
  name_quiet (kind.Ident text ctxt optional) s a = binding_quiet g _ (ident text ctxt optional a)
  name_quiet k s a = same k s a

  part_quiet : (k : Kind) → Says g k → AllQuiet (next g k) children → Quiet g (part_by k (parts k))
  part_quiet (kind.Ident text ctxt optional) s a = binding_quiet g _ (ident text ctxt optional a)
  part_quiet kind.ArrayLit s a = left_quiet kind.ArrayLit s a
  part_quiet kind.ObjectLit s a = left_quiet kind.ObjectLit s a
  part_quiet k s a = same k s a

  default_quiet : (op : AssignOp) → AllQuiet (λ i. role.Free) children → Quiet g (default_by op (parts (kind.AssignExpr op)))
  default_quiet Assign a = quiet_node span kind.AssignPat children g refl a
  default_quiet op a = same (kind.AssignExpr op) refl a

  spread_quiet : AllQuiet (λ i. role.Free) children → Quiet g (with_type kind.RestPat (parts kind.SpreadElement))
  spread_quiet a = quiet_node span kind.RestPat (children ++ absent ∷ []) g refl (with_absent children a)

  element_quiet : (k : Kind) → Says g k → AllQuiet (next g k) children → Quiet g (element_by k (parts k))
  element_quiet kind.SpreadElement s a = spread_quiet a
  element_quiet (kind.AssignExpr op) s a = default_quiet op a
  element_quiet (kind.Ident text ctxt optional) s a = part_quiet (kind.Ident text ctxt optional) s a
  element_quiet kind.ArrayLit s a = left_quiet kind.ArrayLit s a
  element_quiet kind.ObjectLit s a = left_quiet kind.ObjectLit s a
  element_quiet k s a = same k s a

  property_quiet : (k : Kind) → Says g k → AllQuiet (next g k) children → Quiet g (property_by k (parts k))
  property_quiet kind.KeyValueProp s a = quiet_node span kind.KeyValuePatProp children g refl a
  property_quiet kind.AssignProp s a = quiet_node span kind.AssignPatProp children g refl a
  property_quiet kind.SpreadElement s a = spread_quiet a
  property_quiet (kind.Ident text ctxt optional) s a =
      let n = roll-Node (parts (kind.Ident text ctxt optional)) in
      quiet_node (out-Node n).span kind.AssignPatProp (binding n ∷ absent ∷ []) g refl (binding_quiet role.Free n (ident text ctxt optional a), (quiet_absent, tt))
  property_quiet k s a = same k s a

  finished_quiet : (t : Target) (k : Kind) → Says g k → AllQuiet (next g k) children → Quiet g (finished_by t (parts k))
  finished_quiet target.Left k s a = left_quiet k s a
  finished_quiet target.Head k s a = part_quiet k s a
  finished_quiet target.Part k s a = part_quiet k s a
  finished_quiet target.Rest k s a = name_quiet k s a
  finished_quiet target.Name k s a = name_quiet k s a
  finished_quiet target.Element k s a = element_quiet k s a
  finished_quiet target.Property k s a = property_quiet k s a
  finished_quiet _ k s a = same k s a

-- the raw node is in a role, whatever is assigned to it
abbrev Keeps : Node → Type 0
Keeps n = (r : Role) → HasRawRole r n → (t : Target) → Quiet (tag r) (finished_at n t)

all_quiet : (es : List ((n : Node) × Keeps n)) (f g : ℕ → Role) → ((i : ℕ) → tag (f i) ≡ g i) → Along f (map (λ e. e.0) es) → (target_of : ℕ → Target) → AllQuiet g (each_in target_of (map finished_at (map (λ e. e.0) es)))
all_quiet [] f g e a target_of = tt
all_quiet (x ∷ es) f g e a target_of = (subst (λ z. Quiet z (finished_at x.0 (target_of 0))) (e 0) (x.1 (f 0) a.0 (target_of 0)), all_quiet es (λ i. f (suc i)) (λ i. g (suc i)) (λ i. e (suc i)) a.1 (λ i. target_of (suc i)))

says_so : (r : Role) (k : Kind) → not (may_be_raw r k) ≡ false → Says (tag r) k
unfolding may_be_raw
says_so r k h = ap (λ b. is_unvalued k && not b) (sym (tagged_same r)) ∙ go (is_unvalued k) (is_tagged r) (may_stand r k) h
  where
    go : (a b c : Bool) → not ((not a || b) && c) ≡ false → (a && not b) ≡ false
    go false b c h = refl
    go true true c h = refl
    go true false c h = not_true (sym h)

node_keeps : (x : Node-F Node) → ((f g : ℕ → Role) → ((i : ℕ) → tag (f i) ≡ g i) → Along f x.children → (target_of : ℕ → Target) → AllQuiet g (each_in target_of (map finished_at x.children))) → Keeps (roll-Node x)
node_keeps x below r h t =
    let p = raw_parts x r h in
    let says = says_so r x.kind (neither (is_wrong_name r x.kind) (not (may_be_raw r x.kind)) p.0).1 in
    let all = below (raw_role_in r x.kind) (next (tag r) x.kind) (λ i. tag_in_raw r x.kind i ∙ next_same r x.kind i) (least_along (raw_role_in r x.kind) x.children p.1) (target_in t x.kind) in
    subst (Quiet (tag r)) (sym (finished_parts x t)) (finished_quiet (tag r) x.span (each_in (target_in t x.kind) (map finished_at x.children)) t x.kind says all)

keeps_quiet : (n : Node) → Keeps n
keeps_quiet = ind-Node Keeps (λ x y is. node_keeps x (subst (λ (z : Node-F Node). (f g : ℕ → Role) → ((i : ℕ) → tag (f i) ≡ g i) → Along f z.children → (target_of : ℕ → Target) → AllQuiet g (each_in target_of (map finished_at z.children))) is (all_quiet y.children)))

pub parts_valued : ((text : List ℕ) (mode : Mode) (bound : ℕ) (raw : Node) → answer_of (reads_module text mode bound) ≡ Ok raw → HasRawRole role.Free raw) → (text : List ℕ) (mode : Mode) (bound : ℕ) (tree : Node) → reads_as text mode bound ≡ Ok tree → NoneFails is_silent tree
parts_valued placed text mode bound tree e =
    of_raw (NoneFails is_silent) text mode bound tree
    (λ raw h b is. subst (NoneFails is_silent) is (keeps_quiet raw role.Free (placed text mode bound raw h) target.Free at_top refl)) e
