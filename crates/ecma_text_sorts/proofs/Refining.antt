-- The raw shapes of children are narrower where the context rules are kept.
use Rattle.std.proofs.Common.{◌≡◌, ℕ, zero, suc, Bool, true, false, not, ◌&&◌, nat_eq, if◌then◌else◌, List, [], ◌∷◌, length, refl, subst, slice_get}
use Rattle.ecma_kind.specs.declared.kind.Kind.{Kind}
use Rattle.ecma_kind.specs.declared.kind.Kind.TheVariants as kind
use Rattle.ecma_kind.specs.declared.shapes.Sort.TheVariants as sort
use Rattle.ecma_tree.specs.declared.node.Node.{Node, Node-F}
use Rattle.ecma_tree.specs.Sorted.{is_list}
use Rattle.ecma_rules.specs.declared.standing.Around.{Around}
use Rattle.ecma_rules.specs.Children.{holds_of, is_present, of_kind}
use Rattle.ecma_rules.specs.Members.{is_declaring, is_named_pattern, is_plain_parameter, is_property_kind}
use Rattle.ecma_rules.specs.Supers.{is_private_name, is_super_member}
use Rattle.ecma_grammar.specs.trees.Parts.{kind_of, children_of}
use Rattle.ecma_grammar_laws.specs.RawSorts as raw
use Rattle.ecma_grammar_laws.specs.RawSorts.{HasRawShape, RawShape, RawSort, sorted, parameter, setter_parameter, belongs_raw, child_shapes_raw}
use Rattle.ecma_grammar_laws.proofs.RawShapes.{HaveRaw, from_parts, parts_of}
use Rattle.ecma_grammar_laws.proofs.Fits.{no}
use Rattle.ecma_text_sorts.proofs.Turning.{refined}
use Rattle.ecma_text_sorts.proofs.Keeping.{Fine}

contrary : {A : Type 0} {b : Bool} → b ≡ true → b ≡ false → A
contrary h g = cc

-- a node that is no list asks the same of its children as what one sort or another
same_below : (k : Kind) (x y : RawSort) (n : ℕ) → is_list k ≡ false → child_shapes_raw k (raw.one x) n ≡ child_shapes_raw k (raw.one y) n
same_below kind.List x y n h = contrary refl h
same_below kind.SeqExpr x y zero h = refl
same_below kind.SeqExpr x y (suc n) h = refl
same_below _ x y n h = refl

reshaped : (n : Node) (x y : RawSort) → HasRawShape (raw.one x) n → belongs_raw y (kind_of n) ≡ true → is_list (kind_of n) ≡ false → HasRawShape (raw.one y) n
reshaped n x y h b l =
    let t = parts_of n (raw.one x) h in
    from_parts n (raw.one y) b (subst (λ z. HaveRaw z (children_of n)) (same_below (kind_of n) x y (length (children_of n)) l) t.1)

no_list_parameter : (k : Kind) → belongs_raw setter_parameter k ≡ true → is_list k ≡ false → belongs_raw parameter k ≡ true
no_list_parameter kind.List h l = contrary refl l
no_list_parameter _ h l = h

named_pattern : (k : Kind) (n : Node) → is_named_pattern k n ≡ true → (belongs_raw (sorted sort.TsParamPropParam) k ≡ true) × (is_list k ≡ false)
named_pattern kind.BindingIdent n h = (refl, refl)
named_pattern kind.AssignPat n h = (refl, refl)
named_pattern _ n h = no h

no_private_name : (k : Kind) → belongs_raw (sorted sort.MemberProp) k ≡ true → is_private_name k ≡ false → (belongs_raw (sorted sort.SuperProp) k ≡ true) × (is_list k ≡ false)
no_private_name (kind.PrivateName name) h l = contrary refl l
no_private_name (kind.IdentName name) h l = (refl, refl)
no_private_name kind.ComputedPropName h l = (refl, refl)
no_private_name _ h l = no h

list_is_present : (k : Kind) → is_list k ≡ true → is_present k ≡ true
list_is_present kind.List h = refl
list_is_present _ h = no h

-- behind three children there is one more at most
no_fifth : {A : Type 0} (b : Bool) (d e : Node) (es : List Node) → HaveRaw (if b then raw.many parameter ∷ [] else []) (d ∷ e ∷ es) → A
no_fifth true d e es h = absurd h.1
no_fifth false d e es h = absurd h

no_fourth : (r : RawShape) (xs : List Node) → of_kind is_present (slice_get xs 3) ≡ false → HaveRaw (child_shapes_raw kind.GetterProp r (length xs)) xs → HaveRaw (refined kind.GetterProp r (length xs)) xs
no_fourth r [] p h = absurd h
no_fourth r (a ∷ []) p h = absurd h.1
no_fourth r (a ∷ b ∷ []) p h = absurd h.1.1
no_fourth r (a ∷ b ∷ c ∷ []) p h = h
no_fourth r (a ∷ b ∷ c ∷ d ∷ []) p h = let t = parts_of d (raw.many parameter) h.1.1.1.0 in contrary (list_is_present (kind_of d) t.0) p
no_fourth r (a ∷ b ∷ c ∷ d ∷ e ∷ es) p h = no_fifth (nat_eq (length (a ∷ b ∷ c ∷ d ∷ e ∷ es)) 4) d e es h.1.1.1

one_parameter : (r : RawShape) (xs : List Node) → of_kind is_list (slice_get xs 2) ≡ false → HaveRaw (child_shapes_raw kind.SetterProp r (length xs)) xs → HaveRaw (refined kind.SetterProp r (length xs)) xs
one_parameter r [] p h = absurd h
one_parameter r (a ∷ []) p h = absurd h.1
one_parameter r (a ∷ b ∷ []) p h = absurd h.1.1
one_parameter r (a ∷ b ∷ c ∷ cs) p h =
    let t = parts_of c (raw.one setter_parameter) h.1.1.0 in
    (h.0, (h.1.0, (reshaped c setter_parameter parameter h.1.1.0 (no_list_parameter (kind_of c) t.0 p) p, h.1.1.1)))

a_plain_parameter : (r : RawShape) (xs : List Node) → holds_of is_plain_parameter (slice_get xs 0) ≡ true → HaveRaw (raw.one (sorted sort.Pat) ∷ []) xs → HaveRaw (raw.one (sorted sort.TsParamPropParam) ∷ []) xs
a_plain_parameter r [] p h = absurd h
a_plain_parameter r (x ∷ xs) p h = let t = named_pattern (kind_of x) x p in (reshaped x (sorted sort.Pat) (sorted sort.TsParamPropParam) h.0 t.0 t.1, h.1)

a_super_member : (r : RawShape) (xs : List Node) → of_kind is_private_name (slice_get xs 1) ≡ false → HaveRaw (child_shapes_raw kind.SuperPropExpr r (length xs)) xs → HaveRaw (refined kind.SuperPropExpr r (length xs)) xs
a_super_member r [] p h = absurd h
a_super_member r (a ∷ []) p h = absurd h.1
a_super_member r (a ∷ b ∷ bs) p h =
    let t = parts_of b (raw.one (sorted sort.MemberProp)) h.1.0 in
    let w = no_private_name (kind_of b) t.0 p in
    (h.0, (reshaped b (sorted sort.MemberProp) (sorted sort.SuperProp) h.1.0 w.0 w.1, h.1.1))

declares_plainly : (d c : Bool) → (true && not (d && c)) ≡ false → c ≡ true
declares_plainly true true h = refl
declares_plainly true false h = cc
declares_plainly false c h = cc

pub refines : (around : Around) (x : Node-F Node) (r : RawShape) → Fine around x → HaveRaw (child_shapes_raw x.kind r (length x.children)) x.children → HaveRaw (refined x.kind r (length x.children)) x.children
refines around x r fine = go x.kind refl
  where
    go : (k : Kind) → x.kind ≡ k → HaveRaw (child_shapes_raw k r (length x.children)) x.children → HaveRaw (refined k r (length x.children)) x.children
    go kind.GetterProp e h = no_fourth r x.children (fine.getter e) h
    go kind.SetterProp e h = one_parameter r x.children (fine.setter e) h
    go (kind.TsParamProp accessibility is_override readonly) e h =
        a_plain_parameter r x.children
        (declares_plainly (is_declaring around.standing) (holds_of is_plain_parameter (slice_get x.children 0))
        (subst (λ z. (is_property_kind z && not (is_declaring around.standing && holds_of is_plain_parameter (slice_get x.children 0))) ≡ false) e fine.property)) h
    go kind.SuperPropExpr e h = a_super_member r x.children (subst (λ z. (is_super_member z && of_kind is_private_name (slice_get x.children 1)) ≡ false) e fine.private) h
    go _ e h = h
