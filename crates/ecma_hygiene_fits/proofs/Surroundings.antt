-- What stands around the children of a node with other texts.
use Rattle.std.proofs.Common.{◌≡◌, ◌∙◌, ℕ, Bool, true, false, cond, List, length, refl, sym, ap}
use Rattle.std.proofs.lemmas.Bool.{false≢true}
use Rattle.ecma_kind.specs.declared.kind.Kind.{Kind}
use Rattle.ecma_kind.specs.declared.kind.Kind.TheVariants as kind
use Rattle.ecma_kind.specs.declared.shapes.Shape.{Shape}
use Rattle.ecma_kind.specs.declared.shapes.Sort.TheVariants as sort
use Rattle.ecma_tree.specs.declared.node.Node.{Node, out-Node}
use Rattle.ecma_tree.specs.Sorted.{HasShape, HasSort}
use Rattle.ecma_rules.specs.declared.standing.Standing.{Standing as Position}
use Rattle.ecma_rules.specs.Children.{has_child, is_present, kind_of}
use Rattle.ecma_rules.specs.Lists.{last_by}
use Rattle.ecma_rules.specs.Surroundings.{around_in, standing_by}
use Rattle.ecma_rules.specs.Targets.{target_in}
use Rattle.ecma_fits.specs.declared.role.Role.TheVariants as role
use Rattle.ecma_fits.specs.declared.unfit.Where.{Where}
use Rattle.ecma_fits.specs.Fitting.{at_top, where_in, NoneFails}
use Rattle.ecma_fits.specs.Roles.{in_default, is_assigned, role_in}
use Rattle.ecma_fits.specs.Strays.{arguments_in}
use Rattle.ecma_hygiene.specs.declared.spot.Standing.{Standing}
use Rattle.ecma_hygiene.specs.Renamed.{Texts, proto_literal, renamed, standing_in}
use Rattle.ecma_hygiene_fits.proofs.Becoming.{become, child_same, children_stay, is_touched, kind_stays, present_quiet}
use Rattle.ecma_hygiene_fits.proofs.Carrying.{Carries, carried, is_known, parts_pass}
use Rattle.ecma_hygiene_fits.proofs.Everywhere.{children_of}
use Rattle.ecma_hygiene_fits.proofs.Listed.{length_same}

standing_known : (s : Position) (k : Kind) (first second : Bool) (i : ℕ) → is_known k ≡ true → standing_by s k first second i ≡ standing_by s k false false i
unfolding is_known standing_by
standing_known s (kind.Constructor accessibility is_optional) first second i t = absurd (false≢true t)
standing_known s (kind.NamedExport type_only) first second i t = absurd (false≢true t)
standing_known s _ first second i t = refl

last_known : (is_last : Bool) (k : Kind) (count i : ℕ) → is_known k ≡ true → last_by is_last k count i ≡ last_by is_last k 0 i
unfolding is_known last_by
last_known is_last kind.List count i t = absurd (false≢true t)
last_known is_last _ count i t = refl

-- around a child, by the kind of its parent alone
abbrev pub within : Where → Kind → ℕ → Where
within w k i =
    record {
      role = role_in w.role k i;
      around = record { target = target_in w.around.target k i; standing = standing_by w.around.standing k false false i; is_last = last_by w.around.is_last k 0 i };
      arguments = arguments_in w.arguments k i;
    }

pub where_known : (w : Where) (n : Node) → is_known (kind_of n) ≡ true → (i : ℕ) → where_in w n i ≡ within w (kind_of n) i
where_known w n known i = λ j. record {
  role = role_in w.role (kind_of n) i;
  around = record {
    target = target_in w.around.target (kind_of n) i;
    standing = standing_known w.around.standing (kind_of n) (has_child n 1) (has_child n 2) i known j;
    is_last = last_known w.around.is_last (kind_of n) (length (out-Node n).children) i known j;
  };
  arguments = arguments_in w.arguments (kind_of n) i;
}

module _ (texts : Texts) where
  pub where_stays : (w : Where) (n : Node) (stands : Standing) → is_touched (kind_of n) ≡ false → (i : ℕ) → where_in w (become texts n stands) i ≡ where_in w n i
  where_stays w n stands u i = λ j. record {
    role = role_in w.role (kind_stays texts n stands u j) i;
    around = record {
      target = target_in w.around.target (kind_stays texts n stands u j) i;
      standing = standing_by w.around.standing (kind_stays texts n stands u j) (child_same texts is_present true present_quiet n stands u 1 j) (child_same texts is_present true present_quiet n stands u 2 j) i;
      is_last = last_by w.around.is_last (kind_stays texts n stands u j) (lengths j) i;
    };
    arguments = arguments_in w.arguments (kind_stays texts n stands u j) i;
  }
    where
      lengths : length (children_of (become texts n stands)) ≡ length (children_of n)
      lengths = ap length (children_stay texts n stands u) ∙ length_same texts (standing_in stands n) 0 (children_of n)

-- ---- a bound name in a pattern that is written out

pub bound_role : (b : Bool) (i : ℕ) →
    (role_in (cond b role.AssignedValue role.DeclaredValue) kind.BindingIdent i ≡ role_in (cond b role.AssignedName role.DeclaredName) kind.BindingIdent i)
    × (role_in (in_default (cond b role.AssignedValue role.DeclaredValue)) kind.BindingIdent i ≡ role_in (cond b role.AssignedName role.DeclaredName) kind.BindingIdent i)
unfolding role_in
bound_role true i = (refl, refl)
bound_role false i = (refl, refl)

pub bound_assigned : (b : Bool) →
    (is_assigned (cond b role.AssignedValue role.DeclaredValue) ≡ is_assigned (cond b role.AssignedName role.DeclaredName))
    × (is_assigned (in_default (cond b role.AssignedValue role.DeclaredValue)) ≡ is_assigned (cond b role.AssignedName role.DeclaredName))
bound_assigned true = (refl, refl)
bound_assigned false = (refl, refl)

-- it has the same around its own children
pub bound_inside : (w : Where) (p : Node) → kind_of p ≡ kind.BindingIdent → (i : ℕ) →
    (where_in (within w kind.KeyValuePatProp 1) p i ≡ where_in (within w kind.AssignPatProp 0) p i)
    × (where_in (within (within w kind.KeyValuePatProp 1) kind.AssignPat 0) p i ≡ where_in (within w kind.AssignPatProp 0) p i)
unfolding role_in target_in standing_by last_by arguments_in
bound_inside w p is i =
    let e : role_in (cond (is_assigned w.role) role.AssignedValue role.DeclaredValue) (kind_of p) i ≡ role_in (cond (is_assigned w.role) role.AssignedName role.DeclaredName) (kind_of p) i =
    ap (λ k. role_in (cond (is_assigned w.role) role.AssignedValue role.DeclaredValue) k i) is
    ∙ ((bound_role (is_assigned w.role) i).0 ∙ sym (ap (λ k. role_in (cond (is_assigned w.role) role.AssignedName role.DeclaredName) k i) is)) in
    let f : role_in (in_default (cond (is_assigned w.role) role.AssignedValue role.DeclaredValue)) (kind_of p) i ≡ role_in (cond (is_assigned w.role) role.AssignedName role.DeclaredName) (kind_of p) i =
    ap (λ k. role_in (in_default (cond (is_assigned w.role) role.AssignedValue role.DeclaredValue)) k i) is
    ∙ ((bound_role (is_assigned w.role) i).1 ∙ sym (ap (λ k. role_in (cond (is_assigned w.role) role.AssignedName role.DeclaredName) k i) is)) in
    let around = around_in (within w kind.AssignPatProp 0).around p i in
    let arguments = arguments_in w.arguments (kind_of p) i in (
      λ j. record { role = e j; around = around; arguments = arguments },
      λ j. record { role = f j; around = around; arguments = arguments },
    )

-- ---- a test by the kind of a node and by its children

module _ (texts : Texts) (fails : Kind → Node → Bool) (quiet : (k : Kind) (n : Node) → is_touched k ≡ true → fails k n ≡ false) (keys : (text : List ℕ) (n : Node) → fails (kind.IdentName text) n ≡ false)
    (defaults : (n : Node) → fails kind.AssignPat n ≡ false)
    (brackets : (n : Node) → (fails kind.ComputedPropName n ≡ false) × (fails proto_literal n ≡ false))
    (stays : (n : Node) (s : Shape) (stands : Standing) → HasShape s n → is_touched (kind_of n) ≡ false → fails (kind_of n) n ≡ false → fails (kind_of n) (become texts n stands) ≡ false) where
  abbrev by_kind : Where → Node → Bool
  by_kind w n = fails (kind_of n) n

  fails_known : (k : Kind) (n : Node) → is_known k ≡ true → fails k n ≡ false
  unfolding is_known is_touched
  fails_known (kind.IdentName text) n t = keys text n
  fails_known kind.ComputedPropName n t = (brackets n).0
  fails_known kind.AssignPat n t = defaults n
  fails_known (kind.Ident text ctxt optional) n t = quiet (kind.Ident text ctxt optional) n refl
  fails_known kind.KeyValueProp n t = quiet kind.KeyValueProp n refl
  fails_known kind.AssignPatProp n t = quiet kind.AssignPatProp n refl
  fails_known kind.KeyValuePatProp n t = quiet kind.KeyValuePatProp n refl
  fails_known (kind.ImportNamedSpecifier is_type_only) n t = quiet (kind.ImportNamedSpecifier is_type_only) n refl
  fails_known (kind.ExportNamedSpecifier is_type_only) n t = quiet (kind.ExportNamedSpecifier is_type_only) n refl
  fails_known _ n t = absurd (false≢true t)

  carries : Carries texts Where where_in by_kind within (λ w k. false) (λ w. Unit {0})
  unfolding role_in target_in standing_by last_by arguments_in
  carries = record {
    tested = λ w n known named. fails_known (kind_of n) n known;
    around = where_known;
    stays = λ n s w stands has u h.
        ap (λ k. fails k (become texts n stands)) (kind_stays texts n stands u)
        ∙ stays n s stands has u (parts_pass texts Where where_in by_kind within (λ w k. false) (λ w. Unit {0}) n w h).0;
    keeps = λ n s w stands has u i. where_stays texts w n stands u i;
    text = λ w text ctxt optional h. refl;
    properties = λ w n i is. tt;
    property = λ w n i is p. tt;
    written = λ w p. refl;
    value = λ w text ctxt optional p h. refl;
    keys = λ w text. (refl, refl);
    brackets = λ w. refl;
    quoted = λ w n is. ap (λ k. fails k n) is ∙ (brackets n).1;
    pattern = λ w h. refl;
    default = λ w. refl;
    defaulted = λ w. refl;
    bound = λ w p is. ((refl, λ i. (bound_inside w p is i).0), (refl, λ i. (bound_inside w p is i).1));
    names = λ w text is_type_only. (refl, refl);
  }

  -- that no node fails, no node fails with other texts
  pub test_kept : (tree : Node) → HasSort sort.Module tree → NoneFails (λ w n. fails (kind_of n) n) tree → NoneFails (λ w n. fails (kind_of n) n) (renamed texts tree)
  test_kept tree sorted h = carried texts Where where_in by_kind within (λ w k. false) (λ w. Unit {0}) carries tree sorted at_top h
