-- No node breaks a context rule with other texts, where no parameter is `this`.
use Rattle.std.proofs.Common.{◌≡◌, ◌∙◌, ℕ, suc, Bool, true, false, not, ◌&&◌, ◌||◌, List, [], ◌∷◌, length, Option, Some, None, refl, sym, ap, ap₂, slice_get, subst}
use Rattle.std.specs.List.{list_any}
use Rattle.std.proofs.lemmas.Bool.{false≢true, or_from, or_parts}
use Rattle.std.proofs.Math.Bool.{and-false}
use Rattle.ecma_kind.specs.Sorts.{belongs}
use Rattle.ecma_kind.specs.declared.kind.Kind.{Kind}
use Rattle.ecma_kind.specs.declared.kind.Kind.TheVariants as kind
use Rattle.ecma_kind.specs.declared.shapes.Shape.{Shape}
use Rattle.ecma_kind.specs.declared.shapes.Sort.TheVariants as sort
use Rattle.ecma_tree.specs.declared.node.Node.{Node}
use Rattle.ecma_tree.specs.Laws.{HaveShapes}
use Rattle.ecma_tree.specs.Sorted.{HasShape, child_shapes, is_list, many, one}
use Rattle.ecma_rules.specs.Children.{child_holds, children_of as items_of, holds_of, is_present, items_at, kind_of, of_kind}
use Rattle.ecma_rules.specs.Lists.{is_head, is_item, is_one_without_value, is_rest, is_rest_pattern, last_by}
use Rattle.ecma_rules.specs.Members.{fits_kind, is_binding_name, is_constructor_key, is_declaring, is_method, is_plain_parameter, is_property_kind, is_special_by, is_special_function, is_this_by, is_this_parameter, is_this_pattern, misfits_by, misplaces_this_by, takes_not_one, has_body}
use Rattle.ecma_rules.specs.Statements.{is_body, is_declaration, is_exported, is_text}
use Rattle.ecma_rules.specs.Surroundings.{standing_by}
use Rattle.ecma_rules.specs.Targets.{is_variables, target_in}
use Rattle.ecma_fits.specs.declared.unfit.Where.{Where}
use Rattle.ecma_fits.specs.Fitting.{at_top, breaks_rule, where_in}
use Rattle.ecma_fits.specs.Roles.{role_in}
use Rattle.ecma_fits.specs.Strays.{arguments_in}
use Rattle.ecma_hygiene.specs.declared.spot.Standing.{Standing}
use Rattle.ecma_hygiene.specs.Renamed.{Texts, proto_literal, renamed, standing_in}
use Rattle.ecma_hygiene_fits.specs.Unreserved.{AreUnreserved}
use Rattle.ecma_hygiene_fits.specs.Laws.{FinalTextsKeepRules}
use Rattle.ecma_hygiene_fits.proofs.Becoming.{Quiet, all_become, become, child_same, children_stay, holds_same, is_touched, kind_stays, present_quiet}
use Rattle.ecma_hygiene_fits.proofs.Carrying.{AllPass, Carries, carried, defaults_name, first, is_known, parts_pass}
use Rattle.ecma_hygiene_fits.proofs.Everywhere.{Each, children_of}
use Rattle.ecma_hygiene_fits.proofs.Joining.{both_kept, weaker_kept}
use Rattle.ecma_hygiene_fits.proofs.Listed.{list_untouched}
use Rattle.ecma_hygiene_fits.proofs.Parameters.{behind_none, child_met, fits_same, items_shaped, no_pattern_in, no_this_in, params_untouched, param_untouched, pattern_stays, plain_same, rest_quiet, body_same}
use Rattle.ecma_hygiene_fits.proofs.Surroundings.{bound_inside, where_known, where_stays, within}
use Rattle.ecma_hygiene_fits.proofs.Tests.{function_quiet, key_quiet}
use Rattle.ecma_hygiene_fits.proofs.Walk.{shape_parts}

-- a name that is `this` is bound, or a rule is broken
abbrev is_ruled_out : Where → Node → Bool
is_ruled_out w n = is_this_pattern n || breaks_rule w n

-- the rules by the kind of a node
abbrev head_by : Where → Kind → Node → Bool
head_by w k n = (is_head w.around.target && is_variables k) && not (is_one_without_value (items_at n 0))

abbrev list_by : Where → Kind → Node → Bool
list_by w k n = head_by w k n || (is_rest w.around.target k && not w.around.is_last)

abbrev property_by : Where → Kind → Node → Bool
property_by w k n = is_property_kind k && not (is_declaring w.around.standing && child_holds is_plain_parameter n 0)

abbrev member_by : Where → Kind → Node → Bool
member_by w k n = property_by w k n || (misfits_by k n || (is_special_by k n || misplaces_this_by k n))

abbrev statement_by : Where → Kind → Bool
statement_by w k = (is_exported w.around.standing && is_text k) || (is_body w.around.standing && is_declaration k)

abbrev ruled_by : Where → Kind → Node → Bool
ruled_by w k n = is_this_by k n || (list_by w k n || (member_by w k n || statement_by w k))

-- ---- what is known breaks none

quiet : (h i e b x l : Bool) → ((((h && false) && x) || ((i && false) && l)) || ((e && false) || (b && false))) ≡ false
quiet h i e b x l = λ j. (((and-false h j) && x) || ((and-false i j) && l)) || ((and-false e j) || (and-false b j))

name_no_rest : (c : Option Node) → of_kind is_binding_name c ≡ true → of_kind is_rest_pattern c ≡ false
name_no_rest None h = refl
name_no_rest (Some c) h = by (kind_of c) h
  where
    by : (k : Kind) → is_binding_name k ≡ true → is_rest_pattern k ≡ false
    by kind.RestPat h = absurd (false≢true h)
    by _ h = refl

ruled_known : (w : Where) (k : Kind) (n : Node) → is_known k ≡ true → defaults_name k n ≡ true → ruled_by w k n ≡ false
unfolding is_known misfits_by misplaces_this_by is_declaration
ruled_known w (kind.Ident text ctxt optional) n t named =
    quiet (is_head w.around.target) (is_item w.around.target) (is_exported w.around.standing) (is_body w.around.standing) (not (is_one_without_value (items_at n 0))) (not w.around.is_last)
ruled_known w kind.KeyValueProp n t named =
    quiet (is_head w.around.target) (is_item w.around.target) (is_exported w.around.standing) (is_body w.around.standing) (not (is_one_without_value (items_at n 0))) (not w.around.is_last)
ruled_known w kind.AssignPatProp n t named =
    quiet (is_head w.around.target) (is_item w.around.target) (is_exported w.around.standing) (is_body w.around.standing) (not (is_one_without_value (items_at n 0))) (not w.around.is_last)
ruled_known w kind.KeyValuePatProp n t named =
    quiet (is_head w.around.target) (is_item w.around.target) (is_exported w.around.standing) (is_body w.around.standing) (not (is_one_without_value (items_at n 0))) (not w.around.is_last)
ruled_known w (kind.ImportNamedSpecifier is_type_only) n t named =
    quiet (is_head w.around.target) (is_item w.around.target) (is_exported w.around.standing) (is_body w.around.standing) (not (is_one_without_value (items_at n 0))) (not w.around.is_last)
ruled_known w (kind.ExportNamedSpecifier is_type_only) n t named =
    quiet (is_head w.around.target) (is_item w.around.target) (is_exported w.around.standing) (is_body w.around.standing) (not (is_one_without_value (items_at n 0))) (not w.around.is_last)
ruled_known w (kind.IdentName text) n t named =
    quiet (is_head w.around.target) (is_item w.around.target) (is_exported w.around.standing) (is_body w.around.standing) (not (is_one_without_value (items_at n 0))) (not w.around.is_last)
ruled_known w kind.ComputedPropName n t named =
    quiet (is_head w.around.target) (is_item w.around.target) (is_exported w.around.standing) (is_body w.around.standing) (not (is_one_without_value (items_at n 0))) (not w.around.is_last)
ruled_known w kind.AssignPat n t named =
    ap (λ b. list_by w kind.AssignPat n || ((b || false) || statement_by w kind.AssignPat)) (name_no_rest (slice_get (children_of n) 0) named)
    ∙ quiet (is_head w.around.target) (is_item w.around.target) (is_exported w.around.standing) (is_body w.around.standing) (not (is_one_without_value (items_at n 0))) (not w.around.is_last)
ruled_known w _ n t named = absurd (false≢true t)

quoted_known : (w : Where) (n : Node) → ruled_by (within (within w kind.KeyValueProp 0) kind.ComputedPropName 0) proto_literal n ≡ false
unfolding role_in target_in standing_by last_by arguments_in misfits_by misplaces_this_by is_declaration
quoted_known w n = refl

-- ---- what is not touched breaks none that it did not break

list_quiet : Quiet false is_list
unfolding is_touched
list_quiet kind.List t = absurd (false≢true t)
list_quiet _ t = refl

not_one_quiet : Quiet false takes_not_one
not_one_quiet k t = ap₂ (λ x y. x || y) (list_quiet k t) (rest_quiet k t)

declarator_untouched : (k : Kind) → belongs sort.VarDeclarator k ≡ true → is_touched k ≡ false
unfolding is_touched
declarator_untouched (kind.VarDeclarator definite) b = refl
declarator_untouched _ b = absurd (false≢true b)

module _ (texts : Texts) (unreserved : AreUnreserved texts) where
  abbrev walk : Node → Where → Option ℕ
  walk = first texts Where where_in is_ruled_out within (λ w k. false) (λ w. Unit {0})

  -- no name in a node is `this`
  abbrev Calm : Node → Type 0
  Calm n = (w : Where) × (walk n w ≡ None)

  parts : (n : Node) (w : Where) → walk n w ≡ None → (is_ruled_out w n ≡ false) × AllPass texts Where where_in is_ruled_out within (λ w k. false) (λ w. Unit {0}) (where_in w n) 0 (children_of n)
  parts = parts_pass texts Where where_in is_ruled_out within (λ w k. false) (λ w. Unit {0})

  here : (n : Node) → Calm n → is_this_pattern n ≡ false
  here n calm = (or_parts (is_this_pattern n) (breaks_rule calm.0 n) (parts n calm.0 calm.1).0).0

  below : (n : Node) → Calm n → Each Calm (children_of n)
  below n calm = go 0 (children_of n) (parts n calm.0 calm.1).1
    where
      go : (i : ℕ) (cs : List Node) → AllPass texts Where where_in is_ruled_out within (λ w k. false) (λ w. Unit {0}) (where_in calm.0 n) i cs → Each Calm cs
      go i [] e = tt
      go i (c ∷ cs) e = ((where_in calm.0 n i, e.0), go (suc i) cs e.1)

  value_same : (l : Node) → HasShape (many sort.VarDeclarator) l → (stands : Standing) → is_one_without_value (children_of (become texts l stands)) ≡ is_one_without_value (children_of l)
  value_same l has stands = ap is_one_without_value (children_stay texts l stands (list_untouched (kind_of l) (shape_parts l (many sort.VarDeclarator) has).0)) ∙ go (children_of l) (items_shaped sort.VarDeclarator l has)
    where
      go : (cs : List Node) → Each (HasShape (one sort.VarDeclarator)) cs → is_one_without_value (all_become texts (standing_in stands l) 0 cs) ≡ is_one_without_value cs
      go [] e = refl
      go (c ∷ []) e = ap not (child_same texts is_present true present_quiet c (standing_in stands l 0) (declarator_untouched (kind_of c) (shape_parts c (one sort.VarDeclarator) e.0).0) 1)
      go (c ∷ d ∷ cs) e = refl

  -- what n becomes
  module _ (n : Node) (stands : Standing) (u : is_touched (kind_of n) ≡ false) (s : Shape) (calm : Calm n) where
    abbrev m : Node
    m = become texts n stands

    abbrev Have : Kind → Type 0
    Have k = HaveShapes (child_shapes k s (length (children_of n))) (children_of n)

    -- the child at an index
    met : (Q : Option Node → Option Node → Type 0) (o : Shape) → Q None None → ((c : Node) → HasShape o c → Calm c → (st : Standing) → Q (Some (become texts c st)) (Some c)) → (os : List Shape) → HaveShapes os (children_of n) → (i : ℕ)
        → slice_get os i ≡ Some o → Q (slice_get (children_of m) i) (slice_get (children_of n) i)
    met Q o missing there os has i at =
        subst (λ (z : List Node). Q (slice_get z i) (slice_get (children_of n) i)) (sym (children_stay texts n stands u))
        (child_met texts unreserved Calm here below Q o missing there os (children_of n) has (below n calm) i at (standing_in stands n) 0)

    head_same : (w : Where) (k : Kind) → Have k → head_by w k m ≡ head_by w k n
    head_same w (kind.VarDecl k declare) has =
        ap (λ b. (is_head w.around.target && true) && not b)
        (met (λ d c. is_one_without_value (items_of d) ≡ is_one_without_value (items_of c)) (many sort.VarDeclarator) refl (λ l h q st. value_same l h st) (child_shapes (kind.VarDecl k declare) s (length (children_of n))) has 0 refl)
    head_same w k has = nothing (is_head w.around.target) (not (is_one_without_value (items_at m 0))) (not (is_one_without_value (items_at n 0)))
      where
        nothing : (h x y : Bool) → ((h && false) && x) ≡ ((h && false) && y)
        nothing h x y = ap (λ b. b && x) (and-false h) ∙ sym (ap (λ b. b && y) (and-false h))

    property_same : (w : Where) (k : Kind) → property_by w k m ≡ property_by w k n
    property_same w k = ap (λ b. is_property_kind k && not (is_declaring w.around.standing && b)) (holds_same texts is_plain_parameter (plain_same texts unreserved) n stands u 0)

    misfits_same : (k : Kind) → Have k → misfits_by k m ≡ misfits_by k n
    unfolding misfits_by
    misfits_same kind.AssignPat has = child_same texts is_rest_pattern false rest_quiet n stands u 0
    misfits_same kind.GetterProp has = ap₂ (λ a b. a || not b) (child_same texts is_present true present_quiet n stands u 3) (child_same texts is_present true present_quiet n stands u 2)
    misfits_same kind.SetterProp has = ap₂ (λ a b. a || not b) (child_same texts takes_not_one false not_one_quiet n stands u 2) (child_same texts is_present true present_quiet n stands u 3)
    misfits_same kind.MethodProp has =
        ap not
        (met (λ d c. holds_of has_body d ≡ holds_of has_body c) (one sort.Function) refl (λ f h q st. body_same texts f h st) (child_shapes kind.MethodProp s (length (children_of n))) has 1 refl)
    misfits_same (kind.ClassMethod k modifiers) has =
        ap not
        (met (λ d c. holds_of (fits_kind k) d ≡ holds_of (fits_kind k) c) (one sort.Function) refl (λ f h q st. fits_same texts unreserved Calm here below k f h q st)
        (child_shapes (kind.ClassMethod k modifiers) s (length (children_of n))) has 1 refl)
    misfits_same (kind.PrivateMethod k modifiers) has =
        ap not
        (met (λ d c. holds_of (fits_kind k) d ≡ holds_of (fits_kind k) c) (one sort.Function) refl (λ f h q st. fits_same texts unreserved Calm here below k f h q st)
        (child_shapes (kind.PrivateMethod k modifiers) s (length (children_of n))) has 1 refl)
    misfits_same _ has = refl

    special_same : (k : Kind) → is_special_by k m ≡ is_special_by k n
    special_same (kind.ClassMethod k modifiers) =
        ap₂ (λ a b. not modifiers.is_static && (a && (not (is_method k) || b))) (child_same texts is_constructor_key false key_quiet n stands u 0) (child_same texts is_special_function false function_quiet n stands u 1)
    special_same _ = refl

    no_this : (k : Kind) → Have k → misplaces_this_by k m ≡ false
    unfolding misplaces_this_by
    no_this (kind.Function is_generator is_async) has =
        behind_none is_this_parameter (items_at m 0)
        (met (λ d c. list_any is_this_parameter (items_of d) ≡ false) (many sort.Param) refl (λ l h q st. no_this_in texts unreserved Calm here below sort.Param param_untouched l h q st)
        (child_shapes (kind.Function is_generator is_async) s (length (children_of n))) has 0 refl)
    no_this (kind.ArrowExpr is_async is_generator) has =
        met (λ d c. list_any is_this_pattern (items_of d) ≡ false) (many sort.Pat) refl (λ l h q st. no_pattern_in texts unreserved Calm here below sort.Pat l h q st)
        (child_shapes (kind.ArrowExpr is_async is_generator) s (length (children_of n))) has 0 refl
    no_this (kind.Constructor accessibility is_optional) has =
        met (λ d c. list_any is_this_parameter (items_of d) ≡ false) (many sort.ParamOrTsParamProp) refl (λ l h q st. no_this_in texts unreserved Calm here below sort.ParamOrTsParamProp params_untouched l h q st)
        (child_shapes (kind.Constructor accessibility is_optional) s (length (children_of n))) has 1 refl
    no_this kind.SetterProp has =
        met (λ d c. holds_of is_this_pattern d ≡ false) (one sort.Pat) refl (λ p h q st. pattern_stays texts unreserved p (here p q) st) (child_shapes kind.SetterProp s (length (children_of n))) has 2 refl
    no_this _ has = refl

    member_passes : (w : Where) (k : Kind) → Have k → member_by w k n ≡ false → member_by w k m ≡ false
    member_passes w k has h =
        let a = or_parts (property_by w k n) (misfits_by k n || (is_special_by k n || misplaces_this_by k n)) h in
        let b = or_parts (misfits_by k n) (is_special_by k n || misplaces_this_by k n) a.1 in
        let c = or_parts (is_special_by k n) (misplaces_this_by k n) b.1 in
        or_from (property_by w k m) (misfits_by k m || (is_special_by k m || misplaces_this_by k m)) (property_same w k ∙ a.0)
        (or_from (misfits_by k m) (is_special_by k m || misplaces_this_by k m) (misfits_same k has ∙ b.0) (or_from (is_special_by k m) (misplaces_this_by k m) (special_same k ∙ c.0) (no_this k has)))

    rules_pass : (w : Where) → HasShape s n → is_ruled_out w n ≡ false → is_ruled_out w m ≡ false
    rules_pass w has h =
        let k = kind_of n in
        let have : Have k = (shape_parts n s has).1 in
        let a = or_parts (is_this_pattern n) (breaks_rule w n) h in
        let b = or_parts (list_by w k n) (member_by w k n || statement_by w k) a.1 in
        let c = or_parts (member_by w k n) (statement_by w k) b.1 in
        or_from (is_this_pattern m) (breaks_rule w m) (pattern_stays texts unreserved n a.0 stands)
        (ap (λ z. list_by w z m || (member_by w z m || statement_by w z)) (kind_stays texts n stands u)
        ∙ or_from (list_by w k m) (member_by w k m || statement_by w k) (ap (λ b. b || (is_rest w.around.target k && not w.around.is_last)) (head_same w k have) ∙ b.0)
        (or_from (member_by w k m) (statement_by w k) (member_passes w k have c.0) c.1))

  carries : Carries texts Where where_in is_ruled_out within (λ w k. false) (λ w. Unit {0})
  unfolding role_in target_in standing_by last_by arguments_in
  carries = record {
    tested = λ w n known named. ruled_known w (kind_of n) n known named;
    around = where_known;
    stays = λ n s w stands has u h. rules_pass n stands u s (w, h) w has (parts n w h).0;
    keeps = λ n s w stands has u i. where_stays texts w n stands u i;
    text = λ w text ctxt optional h. refl;
    properties = λ w n i is. tt;
    property = λ w n i is p. tt;
    written = λ w p. refl;
    value = λ w text ctxt optional p h. refl;
    keys = λ w text. (refl, refl);
    brackets = λ w. refl;
    quoted = λ w n is. ap (λ k. ruled_by (within (within w kind.KeyValueProp 0) kind.ComputedPropName 0) k n) is ∙ quoted_known w n;
    pattern = λ w h. refl;
    default = λ w. refl;
    defaulted = λ w. refl;
    bound = λ w p is. ((refl, λ i. (bound_inside w p is i).0), (refl, λ i. (bound_inside w p is i).1));
    names = λ w text is_type_only. (refl, refl);
  }

pub rules_kept : FinalTextsKeepRules
rules_kept texts tree unreserved sorted plain h =
    weaker_kept is_ruled_out breaks_rule (λ w n z. (or_parts (is_this_pattern n) (breaks_rule w n) z).1) (renamed texts tree)
    (carried texts Where where_in is_ruled_out within (λ w k. false) (λ w. Unit {0}) (carries texts unreserved) tree sorted at_top (both_kept (λ w n. is_this_pattern n) breaks_rule tree plain h))
