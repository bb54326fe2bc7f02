-- In a tree that fits, and needs no lowering, a name `this` stands in a parameter alone.
use Rattle.std.proofs.Common.{◌≡◌, ◌∙◌, ℕ, suc, ◌==◌, Bool, true, false, ◌||◌, cond, List, [], ◌∷◌, length, Some, None, refl, sym, ap, ap₂, slice_get}
use Rattle.std.proofs.lemmas.Bool.{eqb-true}
use Rattle.std.specs.List.{list_any}
use Rattle.ecma_kind.specs.declared.kind.Kind.{Kind}
use Rattle.ecma_kind.specs.declared.kind.Kind.TheVariants as kind
use Rattle.ecma_kind.specs.declared.shapes.Shape.{Shape}
use Rattle.ecma_lex.specs.Keys.{is_reserved}
use Rattle.ecma_tree.specs.declared.node.Node.{Node, out-Node}
use Rattle.ecma_tree.specs.Laws.{HaveShapes}
use Rattle.ecma_tree.specs.Sorted.{child_shapes, is_list}
use Rattle.ecma_rules.specs.Children.{child_is, children_of as items_of, holds_of, kind_of, of_kind}
use Rattle.ecma_rules.specs.Members.{is_misfit, is_special_constructor, is_stray_property, is_this_pattern, misplaces_this, misplaces_this_by}
use Rattle.ecma_rules.specs.Rules.{fails_list, fails_member, fails_statement}
use Rattle.ecma_fits.specs.declared.role.Role.{Role}
use Rattle.ecma_fits.specs.declared.role.Role.TheVariants as role
use Rattle.ecma_fits.specs.declared.unfit.Where.{Where}
use Rattle.ecma_fits.specs.Fitting.{breaks_rule, first_unfit_in, where_in}
use Rattle.ecma_fits.specs.Roles.{at_child, bound_name_of, in_list, is_out_of_role, is_wrong_name, is_wrong_text, role_in}
use Rattle.ecma_fits.specs.Strays.{is_stray_target}
use Rattle.ecma_strip.specs.Staying.{if_there, is_this, is_this_by, is_this_ident, is_this_param_by}
use Rattle.ecma_strip_fits.proofs.Parameters.{this_goes}
use Rattle.ecma_hygiene.proofs.Telling.{true-false}
use Rattle.ecma_strip_scopes.proofs.Going.{parts-have}
use Rattle.ecma_sources.specs.TypesAlone.{has_stray_receiver, is_lone_receiver, is_receiver}
use Rattle.ecma_pipeline_runs.proofs.Clearing.{fits-below, fits-here, in-role}
use Rattle.ecma_pipeline_runs.proofs.Nodes.{all-at, any-at, child-shape, neither}
use Rattle.ecma_forms.specs.Forms.{is_odd_by, is_unlowered_kind, names_this as has_this}
use Rattle.ecma_text_sources.proofs.Quiet.{bound_unnamed, children_paramless, is_loud, is_open, is_param, is_parameter, is_parameters, is_paramless, is_special, list_calm, list_closed, list_unnamed, name_calm, names_this, not_this, of_by, of_child, of_cond, of_pattern, param_by, role_quiet}

abbrev children_of : Node → List Node
children_of n = (out-Node n).children

abbrev FitsAt : Node → Where → Type 0
FitsAt n w = first_unfit_in n w ≡ None

pub none_of : (f : Node → Bool) (cs : List Node) → ((i : ℕ) (c : Node) → slice_get cs i ≡ Some c → f c ≡ false) → list_any f cs ≡ false
none_of f [] each = refl
none_of f (c ∷ cs) each = let here = each 0 c refl in let behind = none_of f cs (λ i d at. each (suc i) d at) in rw (here, behind) refl

-- ---- a node by its role

unreserved : (r : Role) (text : List ℕ) → names_this r ≡ false → is_wrong_text r text ≡ false → is_reserved text ≡ false
unreserved role.Key text u h = absurd (true-false refl u)
unreserved role.NameOrThis text u h = absurd (true-false refl u)
unreserved _ text u h = h

ident_by : (r : Role) (k : Kind) → names_this r ≡ false → is_wrong_name r k ≡ false → is_this_ident k ≡ false
ident_by r (kind.Ident text ctxt optional) u h = not_this text (unreserved r text u h)
ident_by r _ u h = refl

name_other : (n : Node) (w : Where) → FitsAt n w → names_this w.role ≡ false → is_this_ident (kind_of n) ≡ false
name_other n w fits u = ident_by w.role (kind_of n) u (neither (is_wrong_name w.role (kind_of n)) _ (in-role w n fits)).0

first_other : (f : Node → Bool) (cs : List Node) → ((c : Node) → slice_get cs 0 ≡ Some c → f c ≡ false) → if_there (slice_get cs 0) f ≡ false
first_other f [] h = refl
first_other f (c ∷ cs) h = h c refl

this_other : (n : Node) (w : Where) → FitsAt n w → is_parameter w.role ≡ false → is_this n ≡ false
unfolding role_in
this_other n w fits p = go (kind_of n) refl
  where
    go : (k : Kind) → kind_of n ≡ k → is_this_by k n ≡ false
    go kind.BindingIdent e =
        first_other (λ x. is_this_ident (kind_of x)) (children_of n)
        (λ c at. name_other c (where_in w n 0) (fits-below w n fits 0 c at) (ap (λ k. names_this (role_in w.role k 0)) e ∙ bound_unnamed w.role p))
    go _ e = refl

param_this : (k : Kind) (n : Node) → is_param k ≡ false → is_this_param_by k n ≡ is_this n
param_this kind.Param n h = absurd (true-false refl h)
param_this _ n h = refl

both_other : (n : Node) → is_this_ident (kind_of n) ≡ false → is_param (kind_of n) ≡ false → is_this n ≡ false → is_receiver n ≡ false
both_other n ident param this = let other = param_this (kind_of n) n param ∙ this in ap₂ (λ (p q : Bool). p || q) ident other

receiver_other : (n : Node) (w : Where) → FitsAt n w → is_open w.role ≡ false → is_param (kind_of n) ≡ false → is_receiver n ≡ false
receiver_other n w fits o param =
    let both = neither (names_this w.role) (is_parameter w.role) o in
    both_other n (name_other n w fits both.0) param (this_other n w fits both.1)

-- ---- what the rules say

well_placed : (n : Node) (w : Where) → FitsAt n w → misplaces_this n ≡ false
well_placed n w fits =
    let rules = (neither (is_stray_target w.role w.arguments n) (breaks_rule w n) (neither (is_out_of_role w.role n) (is_stray_target w.role w.arguments n || breaks_rule w n) (fits-here w n fits)).1).1 in
    let more = (neither (fails_list w.around n) (fails_member w.around n || fails_statement w.around n) rules).1 in
    let member = (neither (is_stray_property w.around.standing n) (is_misfit n || (is_special_constructor n || misplaces_this n)) (neither (fails_member w.around n) (fails_statement w.around n) more).0).1 in
    (neither (is_special_constructor n) (misplaces_this n) (neither (is_misfit n) (is_special_constructor n || misplaces_this n) member).1).1

any_same : (f g : Node → Bool) → ((c : Node) → f c ≡ g c) → (cs : List Node) → list_any f cs ≡ list_any g cs
any_same f g same [] = refl
any_same f g same (c ∷ cs) = ap₂ (λ (p q : Bool). p || q) (same c) (any_same f g same cs)

arrow_free : (n : Node) (is_async is_generator : Bool) → kind_of n ≡ kind.ArrowExpr is_async is_generator → misplaces_this n ≡ false → (c : Node) → slice_get (children_of n) 0 ≡ Some c → list_any is_this (children_of c) ≡ false
unfolding misplaces_this_by
arrow_free n a g e h c at =
    any_same is_this is_this_pattern this_goes (children_of c)
    ∙ ap (λ o. list_any is_this_pattern (items_of o)) (sym at)
    ∙ sym (ap (λ z. misplaces_this_by z n) e) ∙ h

setter_free : (n : Node) → kind_of n ≡ kind.SetterProp → misplaces_this n ≡ false → (c : Node) → slice_get (children_of n) 2 ≡ Some c → is_this c ≡ false
unfolding misplaces_this_by
setter_free n e h c at = this_goes c ∙ ap (holds_of is_this_pattern) (sym at) ∙ sym (ap (λ z. misplaces_this_by z n) e) ∙ h

-- ---- a node and its children

-- of the list of an arrow function no parameter is `this`
abbrev pub IsFree : Node → Role → Type 0
IsFree n r = is_parameters r ≡ true → list_any is_this (children_of n) ≡ false

never : (n : Node) (r : Role) → is_parameters r ≡ false → IsFree n r
never n r h p = absurd (true-false p h)

module _ (n : Node) (s : Shape) (w : Where) (shaped : HaveShapes (child_shapes (kind_of n) s (length (children_of n))) (children_of n)) (fits : FitsAt n w) (low : is_unlowered_kind (kind_of n) ≡ false) (odd : is_odd_by (kind_of n) n ≡ false)
    (free : IsFree n w.role) where
  abbrev At : ℕ → Node → Type 0
  At i c = slice_get (children_of n) i ≡ Some c

  below : (i : ℕ) (c : Node) → At i c → FitsAt c (where_in w n i)
  below = fits-below w n fits

  -- the role of a child, by the kind
  abbrev In : Kind → ℕ → Role
  In k i = role_in w.role k i

  unparametric : is_list (kind_of n) ≡ false → (i : ℕ) (c : Node) → At i c → is_param (kind_of c) ≡ false
  unparametric l i c at =
      let shape = child-shape (child_shapes (kind_of n) s (length (children_of n))) (children_of n) shaped i c at in
      let calm = all-at is_paramless (child_shapes (kind_of n) s (length (children_of n))) i shape.0 (children_paramless (kind_of n) s (length (children_of n)) l) shape.1 in
      param_by (kind_of c) shape.0.count shape.0.sort calm (parts-have c shape.0 shape.2).0

  other : (k : Kind) → kind_of n ≡ k → is_list k ≡ false → (i : ℕ) → is_open (In k i) ≡ false → (c : Node) → At i c → is_receiver c ≡ false
  other k e l i o c at = receiver_other c (where_in w n i) (below i c at) (ap (λ z. is_open (In z i)) e ∙ o) (unparametric (ap is_list e ∙ l) i c at)

  arrow_child : (a g : Bool) → kind_of n ≡ kind.ArrowExpr a g → (i : ℕ) (c : Node) → At i c → IsFree c (at_child 0 i role.Parameters)
  arrow_child a g e i c at = go (i == 0) refl
    where
      go : (b : Bool) → (i == 0) ≡ b → IsFree c (cond b role.Parameters role.Free)
      go true z p = arrow_free n a g e (well_placed n w fits) c (ap (slice_get (children_of n)) (sym (eqb-true i 0 z)) ∙ at)
      go false z p = absurd (true-false p refl)

  quiet : (k : Kind) → kind_of n ≡ k → is_special k ≡ false → (i : ℕ) → is_loud (In k i) ≡ false
  quiet k e special i = role_quiet w.role k i (ap is_unlowered_kind (sym e) ∙ low) special

  free_by : (k : Kind) → kind_of n ≡ k → (i : ℕ) (c : Node) → At i c → IsFree c (In k i)
  unfolding role_in
  free_by kind.List e i c at = never c (in_list w.role) (list_calm w.role)
  free_by kind.Param e i c at = never c role.Parameter refl
  free_by kind.BindingIdent e i c at = never c (In kind.BindingIdent i) (of_pattern is_parameters w.role (bound_name_of w.role) i (name_calm w.role) refl refl)
  free_by kind.SetterProp e i c at =
      never c (In kind.SetterProp i) (of_cond is_parameters (i == 1) role.Parameter (at_child 2 i role.Parameter) refl (of_child is_parameters 2 i role.Parameter refl refl))
  free_by (kind.ArrowExpr a g) e i c at = arrow_child a g e i c at
  free_by (kind.ImportNamedSpecifier t) e i c at = never c (In (kind.ImportNamedSpecifier t) i) (of_child is_parameters 1 i role.Key refl refl)
  free_by (kind.ExportNamedSpecifier t) e i c at = never c role.Key refl
  free_by kind.ExportNamespaceSpecifier e i c at = never c role.Key refl
  free_by k e i c at = never c (In k i) (neither (is_open (In k i)) (is_parameters (In k i)) (quiet k e refl i)).1

  pub child_free : (i : ℕ) (c : Node) → At i c → IsFree c (In (kind_of n) i)
  child_free = free_by (kind_of n) refl

  -- ---- names of specifiers

  specifier : (k : Kind) → kind_of n ≡ k → is_list k ≡ false → (i : ℕ) → is_parameter (In k i) ≡ false → (c : Node) → At i c → is_this_ident (kind_of c) ≡ false → is_receiver c ≡ false
  specifier k e l i p c at ident =
      both_other c ident (unparametric (ap is_list e ∙ l) i c at) (this_other c (where_in w n i) (below i c at) (ap (λ z. is_parameter (In z i)) e ∙ p))

  module _ (k : Kind) (e : kind_of n ≡ k) (l : is_list k ≡ false) (h : has_this n ≡ false) where
    names : (child_is is_this_ident n 0 ≡ false) × (child_is is_this_ident n 1 ≡ false)
    names = neither (child_is is_this_ident n 0) (child_is is_this_ident n 1) h

    first_name : is_parameter (In k 0) ≡ false → (c : Node) → At 0 c → is_receiver c ≡ false
    first_name p c at = specifier k e l 0 p c at (sym (ap (of_kind is_this_ident) at) ∙ names.0)

    second_name : is_parameter (In k 1) ≡ false → (c : Node) → At 1 c → is_receiver c ≡ false
    second_name p c at = specifier k e l 1 p c at (sym (ap (of_kind is_this_ident) at) ∙ names.1)

  named : (k : Kind) → kind_of n ≡ k → is_odd_by k n ≡ false
  named k e = sym (ap (λ z. is_odd_by z n) e) ∙ odd

  -- ---- no stray name `this`

  abbrev Have : Kind → List Node → Type 0
  Have k cs = HaveShapes (child_shapes k s (length cs)) cs

  list_lone : (b : Bool) → is_parameters w.role ≡ b → kind_of n ≡ kind.List → (i : ℕ) (c : Node) → At i c → is_this c ≡ false
  unfolding role_in
  list_lone true p e i c at = any-at is_this (children_of n) i c (free p) at
  list_lone false p e i c at = this_other c (where_in w n i) (below i c at) (ap (λ z. is_parameter (In z i)) e ∙ list_closed w.role p)

  lone : kind_of n ≡ kind.List → (i : ℕ) (c : Node) → At i c → is_lone_receiver c ≡ false
  unfolding role_in
  lone e i c at =
      ap₂ (λ (p q : Bool). p || q) (name_other c (where_in w n i) (below i c at) (ap (λ z. names_this (In z i)) e ∙ list_unnamed w.role)) (list_lone (is_parameters w.role) refl e i c at)

  stray_by : (k : Kind) (cs : List Node) → kind_of n ≡ k → children_of n ≡ cs → Have k cs → has_stray_receiver k cs ≡ false
  unfolding role_in
  stray_by kind.List cs e is have = none_of is_lone_receiver cs (λ i c at. lone e i c (ap (λ z. slice_get z i) is ∙ at))
  stray_by kind.Param cs e is have =
      none_of (λ c. is_this_ident (kind_of c)) cs
      (λ i c at. let there : At i c = ap (λ z. slice_get z i) is ∙ at in name_other c (where_in w n i) (below i c there) (ap (λ z. names_this (In z i)) e))
  stray_by kind.BindingIdent [] e is have = refl
  stray_by kind.BindingIdent (x ∷ []) e is have = refl
  stray_by kind.BindingIdent (x ∷ t ∷ u ∷ cs) e is have = absurd have.1.1
  stray_by kind.BindingIdent (x ∷ t ∷ []) e is have =
      ap (λ b. b || false) (other kind.BindingIdent e refl 1 (of_by is_open w.role role.Nothing role.Free refl refl) t (ap (λ z. slice_get z 1) is))
  stray_by kind.SetterProp [] e is have = refl
  stray_by kind.SetterProp (a ∷ []) e is have = absurd have.1
  stray_by kind.SetterProp (a ∷ t ∷ []) e is have = absurd have.1.1
  stray_by kind.SetterProp (a ∷ t ∷ p ∷ []) e is have = absurd have.1.1.1
  stray_by kind.SetterProp (a ∷ t ∷ p ∷ b ∷ x ∷ cs) e is have = absurd have.1.1.1.1
  stray_by kind.SetterProp (a ∷ t ∷ p ∷ b ∷ []) e is have =
      let name = other kind.SetterProp e refl 0 refl a (ap (λ z. slice_get z 0) is) in
      let at : At 2 p = ap (λ z. slice_get z 2) is in
      let ident = name_other p (where_in w n 2) (below 2 p at) (ap (λ z. names_this (In z 2)) e) in
      let taken = both_other p ident (unparametric (ap is_list e) 2 p at) (setter_free n e (well_placed n w fits) p at) in
      let body = other kind.SetterProp e refl 3 refl b (ap (λ z. slice_get z 3) is) in
      ap₂ (λ x y. x || y) name (ap₂ (λ x y. x || (y || false)) taken body)
  stray_by (kind.ArrowExpr a g) cs e is have =
      none_of is_receiver cs
      (λ i c at. other (kind.ArrowExpr a g) e refl i (of_child is_open 0 i role.Parameters refl refl) c (ap (λ z. slice_get z i) is ∙ at))
  stray_by (kind.ImportNamedSpecifier t) [] e is have = absurd have
  stray_by (kind.ImportNamedSpecifier t) (a ∷ []) e is have = absurd have.1
  stray_by (kind.ImportNamedSpecifier t) (a ∷ b ∷ c ∷ cs) e is have = absurd have.1.1
  stray_by (kind.ImportNamedSpecifier t) (a ∷ b ∷ []) e is have =
      let k = kind.ImportNamedSpecifier t in
      ap₂ (λ x y. x || (y || false)) (first_name k e refl (named k e) refl a (ap (λ z. slice_get z 0) is)) (second_name k e refl (named k e) refl b (ap (λ z. slice_get z 1) is))
  stray_by (kind.ExportNamedSpecifier t) [] e is have = absurd have
  stray_by (kind.ExportNamedSpecifier t) (a ∷ []) e is have = absurd have.1
  stray_by (kind.ExportNamedSpecifier t) (a ∷ b ∷ c ∷ cs) e is have = absurd have.1.1
  stray_by (kind.ExportNamedSpecifier t) (a ∷ b ∷ []) e is have =
      let k = kind.ExportNamedSpecifier t in
      ap₂ (λ x y. x || (y || false)) (first_name k e refl (named k e) refl a (ap (λ z. slice_get z 0) is)) (second_name k e refl (named k e) refl b (ap (λ z. slice_get z 1) is))
  stray_by kind.ExportNamespaceSpecifier [] e is have = absurd have
  stray_by kind.ExportNamespaceSpecifier (a ∷ b ∷ cs) e is have = absurd have.1
  stray_by kind.ExportNamespaceSpecifier (a ∷ []) e is have =
      let k = kind.ExportNamespaceSpecifier in
      ap (λ x. x || false) (first_name k e refl (named k e) refl a (ap (λ z. slice_get z 0) is))
  stray_by k cs e is have =
      none_of is_receiver cs
      (λ i c at. other k e refl i (neither (is_open (In k i)) (is_parameters (In k i)) (quiet k e refl i)).0 c (ap (λ z. slice_get z i) is ∙ at))

  pub no_stray : has_stray_receiver (kind_of n) (children_of n) ≡ false
  no_stray = stray_by (kind_of n) (children_of n) refl refl shaped
