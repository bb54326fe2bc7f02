-- Each node may be what it is where it stands, with other texts: no reserved word names anything but where it did, and what is put in may stand there.
use Rattle.std.proofs.Common.{◌≡◌, ◌∙◌, ◌⊎◌, inl, inr, ℕ, Bool, true, false, not, ◌&&◌, ◌||◌, bytes_eq, codes, cond, List, [], ◌∷◌, map, Option, refl, sym, ap, ap₂}
use Rattle.std.proofs.lemmas.Bool.{false≢true, or_from, or_parts}
use Rattle.ecma_lex.specs.Keys.{is_reserved}
use Rattle.ecma_kind.specs.declared.kind.Kind.{Kind}
use Rattle.ecma_kind.specs.declared.kind.Kind.TheVariants as kind
use Rattle.ecma_tree.specs.declared.node.Node.{Node, fold_out-Node, out-Node}
use Rattle.ecma_rules.specs.Children.{kind_of}
use Rattle.ecma_rules.specs.Lists.{last_by}
use Rattle.ecma_rules.specs.Surroundings.{standing_by}
use Rattle.ecma_rules.specs.Targets.{first_is, is_plain_target, is_simple_target, is_wrapper, simple_step, target_in}
use Rattle.ecma_fits.specs.declared.role.Role.{Role}
use Rattle.ecma_fits.specs.declared.role.Role.TheVariants as role
use Rattle.ecma_fits.specs.declared.unfit.Where.{Where}
use Rattle.ecma_fits.specs.Fitting.{at_top, where_in}
use Rattle.ecma_fits.specs.Roles.{in_default, is_assigned, is_name, is_out_of_role, is_wrong_name, is_wrong_text, may_be, role_in, takes}
use Rattle.ecma_fits.specs.Strays.{arguments_in}
use Rattle.ecma_scope.specs.Resolved.{is_name as keeps_name}
use Rattle.ecma_hygiene.specs.declared.spot.Spot.{Spot}
use Rattle.ecma_hygiene.specs.declared.spot.Spot.TheVariants as spot
use Rattle.ecma_hygiene.specs.declared.spot.Standing.{Standing}
use Rattle.ecma_hygiene.specs.Renamed.{Texts, kind_with_text, old_name, shared_by, shorthand, spot_in, standing_in, text_of}
use Rattle.ecma_hygiene_scopes.proofs.Growing.{OldName, grown}
use Rattle.ecma_hygiene_scopes.proofs.Parts.{kind-of}
use Rattle.ecma_hygiene_fits.specs.Unreserved.{AreUnreserved, IsUnreserved}
use Rattle.ecma_hygiene_fits.specs.Laws.{FinalTextsKeepRoles}
use Rattle.ecma_hygiene_fits.proofs.Becoming.{all_become, become, become-out, children_become, children_stay, grown_same, is_touched, kind_stays, stays_touched}
use Rattle.ecma_hygiene_fits.proofs.Carrying.{Carries, carried, is_known, parts_pass, touched_known}
use Rattle.ecma_hygiene_fits.proofs.Everywhere.{Each, children_of, everywhere}
use Rattle.ecma_hygiene_fits.proofs.Surroundings.{bound_inside, where_known, where_stays, within}

abbrev out_of_role : Where → Node → Bool
out_of_role w n = is_out_of_role w.role n

-- by the kind of what is known
abbrev out_by : Where → Kind → Bool
out_by w k = is_wrong_name w.role k || not (may_be w.role k || (takes w.role k && is_name k))

-- ---- simple targets

abbrev simple_of : Kind → List Bool → Bool
simple_of k bs = is_plain_target k || (is_wrapper k && first_is bs)

simple-out : (n : Node) → is_simple_target n ≡ simple_of (kind_of n) (map is_simple_target (children_of n))
simple-out n = fold_out-Node Bool simple_step n

simple_by : (k : Kind) (bs : List Bool) → is_known k ≡ true → simple_of k bs ≡ is_name k
unfolding is_known
simple_by kind.MemberExpr bs t = absurd (false≢true t)
simple_by kind.SuperPropExpr bs t = absurd (false≢true t)
simple_by kind.ParenExpr bs t = absurd (false≢true t)
simple_by kind.TsTypeAssertion bs t = absurd (false≢true t)
simple_by kind.TsConstAssertion bs t = absurd (false≢true t)
simple_by kind.TsNonNullExpr bs t = absurd (false≢true t)
simple_by kind.TsAsExpr bs t = absurd (false≢true t)
simple_by kind.TsInstantiation bs t = absurd (false≢true t)
simple_by kind.TsSatisfiesExpr bs t = absurd (false≢true t)
simple_by _ bs t = refl

simple_known : (n : Node) → is_known (kind_of n) ≡ true → is_simple_target n ≡ is_name (kind_of n)
simple_known n t = simple-out n ∙ simple_by (kind_of n) (map is_simple_target (children_of n)) t

wrapper_spot : (k : Kind) → is_wrapper k ≡ true → (seat : Spot) (i : ℕ) → spot_in seat k i ≡ spot.Elsewhere
wrapper_spot kind.ParenExpr w seat i = refl
wrapper_spot kind.TsTypeAssertion w seat i = refl
wrapper_spot kind.TsConstAssertion w seat i = refl
wrapper_spot kind.TsNonNullExpr w seat i = refl
wrapper_spot kind.TsAsExpr w seat i = refl
wrapper_spot kind.TsInstantiation w seat i = refl
wrapper_spot kind.TsSatisfiesExpr w seat i = refl
wrapper_spot _ w seat i = absurd (false≢true w)

module _ (texts : Texts) where
  text_name : (named : Bool) (k : Kind) → is_name (kind_with_text texts named k) ≡ is_name k
  text_name true k = refl
  text_name false (kind.Ident text ctxt optional) = refl
  text_name false _ = refl

  not_named : (n : Node) (stands : Standing) (k : Kind) (o : Option OldName) → is_name k ≡ false
      → is_name (kind_of (grown o (out-Node n).span (kind_with_text texts (keeps_name stands.role) k) (children_become texts n stands))) ≡ is_name k
  not_named n stands k o h =
      let own = text_name (keeps_name stands.role) k ∙ h in
      grown_same is_name refl o (out-Node n).span (kind_with_text texts (keeps_name stands.role) k) (children_become texts n stands) (λ is. sym own) ∙ text_name (keeps_name stands.role) k

  -- a name that is no property stays one, and nothing else becomes one
  name_stays : (n : Node) (stands : Standing) → stands.spot ≡ spot.Elsewhere → is_name (kind_of (become texts n stands)) ≡ is_name (kind_of n)
  unfolding shared_by
  name_stays n stands e = ap (λ m. is_name (kind_of m)) (become-out texts n stands) ∙ go (kind_of n)
    where
      own : Kind → Kind
      own k = kind_with_text texts (keeps_name stands.role) k

      go : (k : Kind) → is_name (kind_of (grown (old_name texts (shared_by stands k n)) (out-Node n).span (own k) (children_become texts n stands))) ≡ is_name k
      go (kind.Ident text ctxt optional) =
          ap (λ z. is_name (kind_of (grown (old_name texts (shorthand z n)) (out-Node n).span (own (kind.Ident text ctxt optional)) (children_become texts n stands)))) e
          ∙ (ap is_name (kind-of (out-Node n).span (own (kind.Ident text ctxt optional)) (children_become texts n stands)) ∙ text_name (keeps_name stands.role) (kind.Ident text ctxt optional))
      go k = not_named n stands k (old_name texts (shared_by stands k n)) refl

  abbrev Same : Node → Type 0
  Same n = (stands : Standing) → stands.spot ≡ spot.Elsewhere → is_simple_target (become texts n stands) ≡ is_simple_target n

  untouched_same : (n : Node) → Each Same (children_of n) → (stands : Standing) → is_touched (kind_of n) ≡ false → is_simple_target (become texts n stands) ≡ is_simple_target n
  untouched_same n below stands u =
      simple-out (become texts n stands)
      ∙ (ap₂ (λ k cs. simple_of k (map is_simple_target cs)) (kind_stays texts n stands u) (children_stay texts n stands u) ∙ (ap (λ b. is_plain_target (kind_of n) || b) (go (is_wrapper (kind_of n)) refl) ∙ sym (simple-out n)))
    where
      first : (cs : List Node) → Each Same cs → is_wrapper (kind_of n) ≡ true → first_is (map is_simple_target (all_become texts (standing_in stands n) 0 cs)) ≡ first_is (map is_simple_target cs)
      first [] e w = refl
      first (c ∷ cs) e w = e.0 (standing_in stands n 0) (wrapper_spot (kind_of n) w stands.spot 0)

      go : (b : Bool) → is_wrapper (kind_of n) ≡ b
          → (is_wrapper (kind_of n) && first_is (map is_simple_target (children_become texts n stands))) ≡ (is_wrapper (kind_of n) && first_is (map is_simple_target (children_of n)))
      go true w = ap (λ b. is_wrapper (kind_of n) && b) (first (children_of n) below w)
      go false w = ap (λ b. b && first_is (map is_simple_target (children_become texts n stands))) w ∙ sym (ap (λ b. b && first_is (map is_simple_target (children_of n))) w)

  node_same : (n : Node) → Each Same (children_of n) → Same n
  node_same n below stands e = go (is_touched (kind_of n)) refl
    where
      go : (t : Bool) → is_touched (kind_of n) ≡ t → is_simple_target (become texts n stands) ≡ is_simple_target n
      go false u = untouched_same n below stands u
      go true t =
          simple_known (become texts n stands) (touched_known (kind_of (become texts n stands)) (stays_touched texts n stands t))
          ∙ (name_stays n stands e ∙ sym (simple_known n (touched_known (kind_of n) t)))

  -- what is not touched stays a simple target or none
  simple_stays : (n : Node) (stands : Standing) → is_touched (kind_of n) ≡ false → is_simple_target (become texts n stands) ≡ is_simple_target n
  simple_stays n stands u = untouched_same n (each (children_of n)) stands u
    where
      each : (cs : List Node) → Each Same cs
      each [] = tt
      each (c ∷ cs) = (everywhere Same node_same c, each cs)

-- ---- texts

may_be_text : (r : Role) (a b : List ℕ) (ctxt : ℕ) (optional : Bool) → may_be r (kind.Ident a ctxt optional) ≡ may_be r (kind.Ident b ctxt optional)
unfolding may_be
may_be_text role.Free a b ctxt optional = refl
may_be_text _ a b ctxt optional = refl

takes_text : (r : Role) (a b : List ℕ) (ctxt : ℕ) (optional : Bool) → takes r (kind.Ident a ctxt optional) ≡ takes r (kind.Ident b ctxt optional)
unfolding takes
takes_text role.Free a b ctxt optional = refl
takes_text _ a b ctxt optional = refl

right_text : (r : Role) (text : List ℕ) → is_reserved text ≡ false → is_wrong_text r text ≡ false
right_text role.Key text h = refl
right_text role.NameOrThis text h = ap (λ b. b && not (bytes_eq text (codes "this"))) h
right_text _ text h = h

-- ---- what is put in

pattern_may_be : (r : Role) → out_by (record { role = r; around = at_top.around; arguments = at_top.arguments }) kind.AssignPatProp ≡ out_by (record { role = r; around = at_top.around; arguments = at_top.arguments }) kind.KeyValuePatProp
unfolding may_be takes
pattern_may_be role.Free = refl
pattern_may_be _ = refl

default_may_be : (b : Bool) → may_be (cond b role.AssignedValue role.DeclaredValue) kind.AssignPat ≡ true
unfolding may_be
default_may_be true = refl
default_may_be false = refl

bound_may_be : (b : Bool) →
    (may_be (cond b role.AssignedName role.DeclaredName) kind.BindingIdent ≡ true)
    × (may_be (cond b role.AssignedValue role.DeclaredValue) kind.BindingIdent ≡ true)
    × (may_be (in_default (cond b role.AssignedValue role.DeclaredValue)) kind.BindingIdent ≡ true)
unfolding may_be
bound_may_be true = (refl, refl, refl)
bound_may_be false = (refl, refl, refl)

bound_in_role : (r : Role) (p : Node) → kind_of p ≡ kind.BindingIdent → may_be r kind.BindingIdent ≡ true → is_out_of_role r p ≡ false
bound_in_role r p is h =
    ap (λ k. is_wrong_name r k || not (may_be r k || (takes r k && is_simple_target p))) is ∙ ap (λ b. not (b || (takes r kind.BindingIdent && is_simple_target p))) h

module _ (texts : Texts) (unreserved : AreUnreserved texts) where
  text_right : (r : Role) (sym : List ℕ) (ctxt : ℕ) → is_wrong_text r sym ≡ false → is_wrong_text r (text_of texts (sym, ctxt)) ≡ false
  text_right r text ctxt h = go (unreserved (text, ctxt))
    where
      go : (text_of texts (text, ctxt) ≡ text) ⊎ IsUnreserved (text_of texts (text, ctxt)) → is_wrong_text r (text_of texts (text, ctxt)) ≡ false
      go (inl same) = ap (is_wrong_text r) same ∙ h
      go (inr u) = right_text r (text_of texts (text, ctxt)) u.unreserved

  text_passes : (w : Where) (sym : List ℕ) (ctxt : ℕ) (optional : Bool) → out_by w (kind.Ident sym ctxt optional) ≡ false → out_by w (kind.Ident (text_of texts (sym, ctxt)) ctxt optional) ≡ false
  text_passes w text ctxt optional h =
      let new = text_of texts (text, ctxt) in
      let t = or_parts (is_wrong_text w.role text) (not (may_be w.role (kind.Ident text ctxt optional) || (takes w.role (kind.Ident text ctxt optional) && true))) h in
      or_from (is_wrong_text w.role new) (not (may_be w.role (kind.Ident new ctxt optional) || (takes w.role (kind.Ident new ctxt optional) && true))) (text_right w.role text ctxt t.0)
      (ap₂ (λ a b. not (a || (b && true))) (may_be_text w.role new text ctxt optional) (takes_text w.role new text ctxt optional) ∙ t.1)

  stays : (n : Node) (w : Where) (stands : Standing) → is_touched (kind_of n) ≡ false → out_of_role w (become texts n stands) ≡ out_of_role w n
  stays n w stands u =
      ap₂ (λ k b. is_wrong_name w.role k || not (may_be w.role k || (takes w.role k && b))) (kind_stays texts n stands u) (simple_stays texts n stands u)

  carries : Carries texts Where where_in out_of_role within out_by (λ w. w.role ≡ role.Free)
  unfolding role_in target_in standing_by last_by arguments_in may_be takes
  carries = record {
    tested = λ w n known named. ap (λ b. is_wrong_name w.role (kind_of n) || not (may_be w.role (kind_of n) || (takes w.role (kind_of n) && b))) (simple_known n known);
    around = where_known;
    stays = λ n s w stands has u h. stays n w stands u ∙ (parts_pass texts Where where_in out_of_role within out_by (λ w. w.role ≡ role.Free) n w h).0;
    keeps = λ n s w stands has u i. where_stays texts w n stands u i;
    text = text_passes;
    properties = λ w n i is. ap (λ k. role_in w.role k i) is;
    property = λ w n i is p. ap₂ (λ r k. role_in r k i) p is;
    written = λ w p. ap (λ r. is_wrong_name r kind.KeyValueProp || not (may_be r kind.KeyValueProp || (takes r kind.KeyValueProp && false))) p;
    value = λ w text ctxt optional p h.
        sym (ap (λ r. is_wrong_name r (kind.Ident text ctxt optional) || not (may_be r (kind.Ident text ctxt optional) || (takes r (kind.Ident text ctxt optional) && true))) p) ∙ h;
    keys = λ w text. (refl, refl);
    brackets = λ w. refl;
    quoted = λ w n is. ap (λ k. is_wrong_name role.Free k || not (may_be role.Free k || (takes role.Free k && is_simple_target n))) is;
    pattern = λ w h. sym (pattern_may_be w.role) ∙ h;
    default = λ w.
        ap (λ b. not (b || (takes (cond (is_assigned w.role) role.AssignedValue role.DeclaredValue) kind.AssignPat && false))) (default_may_be (is_assigned w.role));
    defaulted = λ w. refl;
    bound = λ w p is. (
        let may = bound_may_be (is_assigned w.role) in
        let name = bound_in_role (cond (is_assigned w.role) role.AssignedName role.DeclaredName) p is may.0 in (
          (bound_in_role (cond (is_assigned w.role) role.AssignedValue role.DeclaredValue) p is may.1 ∙ sym name, λ i. (bound_inside w p is i).0),
          (bound_in_role (in_default (cond (is_assigned w.role) role.AssignedValue role.DeclaredValue)) p is may.2 ∙ sym name, λ i. (bound_inside w p is i).1),
        ));
    names = λ w text is_type_only. (refl, refl);
  }

pub roles_kept : FinalTextsKeepRoles
roles_kept texts tree unreserved sorted h =
    carried texts Where where_in out_of_role within out_by (λ w. w.role ≡ role.Free) (carries texts unreserved) tree sorted at_top h
