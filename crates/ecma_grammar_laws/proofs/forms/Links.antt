-- Links of chains of members and calls, behind an expression.
use Rattle.std.proofs.Common.{◌≡◌, Bool, true, false, cond, List, [], ◌∷◌, length, slice_set, refl, sym, subst}
use Rattle.ecma_kind.specs.declared.span.Span.{Span}
use Rattle.ecma_kind.specs.declared.kind.Kind.{Kind}
use Rattle.ecma_kind.specs.declared.kind.Kind.TheVariants as kind
use Rattle.ecma_kind.specs.declared.shapes.Sort.{Sort}
use Rattle.ecma_kind.specs.declared.shapes.Sort.TheVariants as sort
use Rattle.ecma_tree.specs.Nodes.{node_of, absent, dummy_span}
use Rattle.ecma_tree.specs.declared.node.Node.{Node}
use Rattle.ecma_grammar.specs.trees.Parts.{kind_of, span_of, children_of, from_to, in_front, frame, framed}
use Rattle.ecma_grammar.specs.trees.Chains.{Callee, callee_by, callee_of, instantiated, goes_on, linked, member_of, call_of, tagged_of, optional_of, link_by, in_front_link}
use Rattle.ecma_grammar_laws.specs.RawSorts.{HasRawShape, HasRawSort, child_shapes_raw, sorted, one, maybe, many}
use Rattle.ecma_grammar_laws.proofs.RawShapes.{HaveRaw, node_has, in_front_is, kind_is, children_are, parts_of}
use Rattle.ecma_grammar_laws.proofs.Asks.{any, shape, optional_link, MeetAll, Given}
use Rattle.ecma_grammar_laws.proofs.Needs.{is_optional, link_needs}
use Rattle.ecma_grammar_laws.proofs.Fits.{shape_fits_sound, reshaped}
use Rattle.ecma_grammar_laws.proofs.forms.Making.{made_sorted}

-- an expression may stand where a wider sort is asked
as_callee : (x : Node) → HasRawSort sort.Expr x → HasRawSort sort.Callee x
as_callee x h = shape_fits_sound (one (sorted sort.Expr)) (one (sorted sort.Callee)) x refl h

-- in a chain that goes on behind `?.`
linked_sorted : (m : Node) → HasRawSort sort.OptChainBase m → HasRawSort sort.Expr (linked m)
linked_sorted m h = made_sorted sort.Expr (span_of m) (kind.OptChainExpr false) (m ∷ []) refl (h, tt)

either_way : (b : Bool) (x y : Node) → HasRawSort sort.Expr x → HasRawSort sort.Expr y → HasRawSort sort.Expr (cond b x y)
either_way true x y h k = h
either_way false x y h k = k

-- a node of these parts, with its first child in front
in_front_sorted : (s : Sort) (x : Node) (span : Span) (k : Kind) (xs : List Node) → HasRawSort s (node_of (from_to (span_of x).lo span.hi) k (slice_set xs 0 x)) → HasRawSort s (in_front x (node_of span k xs))
in_front_sorted s x span k xs h = subst (HasRawSort s) (sym (in_front_is x span k xs)) h

module _ (x : Node) (h : HasRawSort sort.Expr x) where
  super_sorted : kind_of x ≡ kind.Super → HasRawSort sort.Super x
  super_sorted e = reshaped x (one (sorted sort.Expr)) (one (sorted sort.Super)) (rw e refl) (rw e refl) h

  -- members

  module _ (span : Span) (y p : Node) (hp : HasRawSort sort.MemberProp p) where
    member_in_front : (s : Sort) → HasRawSort s (node_of (from_to (span_of x).lo span.hi) kind.MemberExpr (x ∷ p ∷ [])) → HasRawSort s (in_front x (node_of span kind.MemberExpr (y ∷ p ∷ [])))
    member_in_front s g = in_front_sorted s x span kind.MemberExpr (y ∷ p ∷ []) g

    other_member : HasRawSort sort.Expr (cond (goes_on x) (linked (in_front x (node_of span kind.MemberExpr (y ∷ p ∷ [])))) (in_front x (node_of span kind.MemberExpr (y ∷ p ∷ []))))
    other_member =
        either_way (goes_on x) _ _
        (linked_sorted _ (member_in_front sort.OptChainBase (made_sorted sort.OptChainBase _ kind.MemberExpr (x ∷ p ∷ []) refl (h, (hp, tt)))))
        (member_in_front sort.Expr (made_sorted sort.Expr _ kind.MemberExpr (x ∷ p ∷ []) refl (h, (hp, tt))))

    member_sorted : (k : Kind) → kind_of x ≡ k → HasRawSort sort.Expr (member_of x (node_of span kind.MemberExpr (y ∷ p ∷ [])) k)
    member_sorted kind.Super e =
        subst (λ cs. HasRawSort sort.Expr (node_of (from_to (span_of x).lo (span_of (node_of span kind.MemberExpr (y ∷ p ∷ []))).hi) kind.SuperPropExpr (slice_set cs 0 x))) (sym (children_are span kind.MemberExpr (y ∷ p ∷ [])))
        (made_sorted sort.Expr _ kind.SuperPropExpr (x ∷ p ∷ []) refl (super_sorted e, (hp, tt)))
    member_sorted _ e = other_member

  -- calls

  abbrev IsCallee : Callee → Type 0
  IsCallee c = HasRawSort sort.Expr c.0 × HasRawShape (maybe (sorted sort.TsTypeParamInstantiation)) c.1

  no_arguments : HasRawShape (maybe (sorted sort.TsTypeParamInstantiation)) absent
  no_arguments = node_has dummy_span kind.Absent [] (maybe (sorted sort.TsTypeParamInstantiation)) refl tt

  instantiation_parts : (cs : List Node) → HaveRaw (one (sorted sort.Expr) ∷ one (sorted sort.TsTypeParamInstantiation) ∷ []) cs → IsCallee (instantiated (frame 2 cs))
  instantiation_parts [] g = absurd g
  instantiation_parts (c ∷ []) g = absurd g.1
  instantiation_parts (c ∷ t ∷ []) g = (g.0, shape_fits_sound (one (sorted sort.TsTypeParamInstantiation)) (maybe (sorted sort.TsTypeParamInstantiation)) t refl g.1.0)
  instantiation_parts (c ∷ t ∷ z ∷ zs) g = absurd g.1.1

  callee_parts : (k : Kind) → kind_of x ≡ k → IsCallee (callee_by x k)
  callee_parts kind.TsInstantiation e =
      instantiation_parts (children_of x) (subst (λ k. HaveRaw (child_shapes_raw k (one (sorted sort.Expr)) (length (children_of x))) (children_of x)) e (parts_of x (one (sorted sort.Expr)) h).1)
  callee_parts _ e = (h, no_arguments)

  call_sorted : (span : Span) (c : Callee) → IsCallee c → (xs : List Node) → MeetAll (any ∷ shape (many (sorted sort.ExprOrSpread)) ∷ shape (maybe (sorted sort.TsTypeParamInstantiation)) ∷ []) xs → HasRawSort sort.Expr (framed 3 (call_of span c) xs)
  call_sorted span c i [] m = absurd m
  call_sorted span c i (y ∷ []) m = absurd m.1
  call_sorted span c i (y ∷ args ∷ []) m = absurd m.1.1
  call_sorted span c i (y ∷ args ∷ t ∷ []) m =
      either_way (goes_on c.0) _ _
      (linked_sorted _ (made_sorted sort.OptChainBase span kind.OptCall (c.0 ∷ args ∷ c.1 ∷ []) refl (i.0, (m.1.0, (i.1, tt)))))
      (made_sorted sort.Expr span kind.CallExpr (c.0 ∷ args ∷ c.1 ∷ []) refl (as_callee c.0 i.0, (m.1.0, (i.1, tt))))
  call_sorted span c i (y ∷ args ∷ t ∷ z ∷ zs) m = absurd m.1.1.1

  tagged_sorted : (span : Span) (c : Callee) → IsCallee c → (xs : List Node) → MeetAll (any ∷ shape (maybe (sorted sort.TsTypeParamInstantiation)) ∷ shape (one (sorted sort.Tpl)) ∷ []) xs → HasRawSort sort.Expr (framed 3 (tagged_of span c) xs)
  tagged_sorted span c i [] m = absurd m
  tagged_sorted span c i (y ∷ []) m = absurd m.1
  tagged_sorted span c i (y ∷ t ∷ []) m = absurd m.1.1
  tagged_sorted span c i (y ∷ t ∷ template ∷ []) m = made_sorted sort.Expr span kind.TaggedTpl (c.0 ∷ c.1 ∷ template ∷ []) refl (i.0, (i.1, (m.1.1.0, tt)))
  tagged_sorted span c i (y ∷ t ∷ template ∷ z ∷ zs) m = absurd m.1.1.1

  optional_sorted : (span : Span) (xs : List Node) → MeetAll (optional_link ∷ []) xs → HasRawSort sort.Expr (framed 1 (optional_of span x) xs)
  optional_sorted span [] m = absurd m
  optional_sorted span (base ∷ []) m = made_sorted sort.Expr span (kind.OptChainExpr true) (in_front x base ∷ []) refl (m.0 x h, tt)
  optional_sorted span (base ∷ z ∷ zs) m = absurd m.1

  -- wrappers

  non_null_sorted : (span : Span) (xs : List Node) → MeetAll (any ∷ []) xs → HasRawSort sort.Expr (in_front x (node_of span kind.TsNonNullExpr xs))
  non_null_sorted span [] m = absurd m
  non_null_sorted span (y ∷ []) m = in_front_sorted sort.Expr x span kind.TsNonNullExpr (y ∷ []) (made_sorted sort.Expr _ kind.TsNonNullExpr (x ∷ []) refl (h, tt))
  non_null_sorted span (y ∷ z ∷ zs) m = absurd m.1

  instantiation_sorted : (span : Span) (xs : List Node) → MeetAll (any ∷ shape (one (sorted sort.TsTypeParamInstantiation)) ∷ []) xs → HasRawSort sort.Expr (in_front x (node_of span kind.TsInstantiation xs))
  instantiation_sorted span [] m = absurd m
  instantiation_sorted span (y ∷ []) m = absurd m.1
  instantiation_sorted span (y ∷ t ∷ []) m = in_front_sorted sort.Expr x span kind.TsInstantiation (y ∷ t ∷ []) (made_sorted sort.Expr _ kind.TsInstantiation (x ∷ t ∷ []) refl (h, (m.1.0, tt)))
  instantiation_sorted span (y ∷ t ∷ z ∷ zs) m = absurd m.1.1

  -- the children of a link are those that it is made of
  of_children : (span : Span) (k : Kind) (xs : List Node) (f : List Node → Node) → HasRawSort sort.Expr (f xs) → HasRawSort sort.Expr (f (children_of (node_of span k xs)))
  of_children span k xs f g = subst (λ cs. HasRawSort sort.Expr (f cs)) (sym (children_are span k xs)) g

  -- from what stands before it to its end
  abbrev over : Node → Span
  over n = from_to (span_of x).lo (span_of n).hi

  link_by_kind : (span : Span) (k : Kind) (xs : List Node) → Given (link_needs k (is_optional k)) xs → HasRawSort sort.Expr (link_by x (node_of span k xs) k)
  link_by_kind span kind.MemberExpr [] m = absurd m
  link_by_kind span kind.MemberExpr (y ∷ []) m = absurd m.1
  link_by_kind span kind.MemberExpr (y ∷ p ∷ []) m = member_sorted span y p m.1.0 (kind_of x) refl
  link_by_kind span kind.MemberExpr (y ∷ p ∷ z ∷ zs) m = absurd m.1.1
  link_by_kind span kind.CallExpr xs m = of_children span kind.CallExpr xs (framed 3 (call_of (over (node_of span kind.CallExpr xs)) (callee_of x))) (call_sorted (over (node_of span kind.CallExpr xs)) (callee_of x) (callee_parts (kind_of x) refl) xs m)
  link_by_kind span kind.TaggedTpl xs m = of_children span kind.TaggedTpl xs (framed 3 (tagged_of (over (node_of span kind.TaggedTpl xs)) (callee_of x))) (tagged_sorted (over (node_of span kind.TaggedTpl xs)) (callee_of x) (callee_parts (kind_of x) refl) xs m)
  link_by_kind span (kind.OptChainExpr o) xs m = of_children span (kind.OptChainExpr o) xs (framed 1 (optional_of (over (node_of span (kind.OptChainExpr o) xs)) x)) (optional_sorted (over (node_of span (kind.OptChainExpr o) xs)) xs m)
  link_by_kind span kind.TsNonNullExpr xs m = non_null_sorted span xs m
  link_by_kind span kind.TsInstantiation xs m = instantiation_sorted span xs m
  link_by_kind span _ xs m = absurd m

  pub link_sorted : (span : Span) (k : Kind) (xs : List Node) → Given (link_needs k (is_optional k)) xs → HasRawSort sort.Expr (in_front_link x (node_of span k xs))
  link_sorted span k xs m = subst (λ j. HasRawSort sort.Expr (link_by x (node_of span k xs) j)) (sym (kind_is span k xs)) (link_by_kind span k xs m)
