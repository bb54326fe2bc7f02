-- Links of chains of members and calls, behind what is free.
use Rattle.std.proofs.Common.{◌≡◌, Bool, true, false, cond, ◌==◌, List, [], ◌∷◌, length, slice_set, Some, None, refl, sym, subst}
use Rattle.ecma_kind.specs.declared.span.Span.{Span}
use Rattle.ecma_kind.specs.declared.kind.Kind.{Kind}
use Rattle.ecma_kind.specs.declared.kind.Kind.TheVariants as kind
use Rattle.ecma_tree.specs.declared.node.Node.{Node}
use Rattle.ecma_tree.specs.Nodes.{node_of}
use Rattle.ecma_grammar.specs.declared.production.Plain.{Plain}
use Rattle.ecma_grammar.specs.trees.Plain.{plain_kind}
use Rattle.ecma_grammar.specs.trees.Others.{swapped}
use Rattle.ecma_grammar.specs.trees.Parts.{children_of, frame, framed, from_to, in_front, kind_of, span_of}
use Rattle.ecma_grammar.specs.trees.Chains.{Callee, call_of, callee_by, callee_of, goes_on, in_front_link, instantiated, link_by, linked, links, member_of, optional_of, tagged_of}
use Rattle.ecma_grammar_laws.proofs.RawShapes.{children_are, in_front_is, kind_is}
use Rattle.ecma_fits.specs.declared.role.Role.TheVariants as role
use Rattle.ecma_fits.specs.Roles.{may_be, role_in}
use Rattle.ecma_raw_roles.specs.RawRoles.{HasRawRole, may_be_raw, raw_role_in, usual_role_in}
use Rattle.ecma_raw_roles.proofs.Placed.{Along, absent_free, placed, placed_parts}
use Rattle.ecma_text_fits_roles.proofs.RoleAsks.{Ask, Given, MeetAll, Meets, any, at, behind, first_and_each, free, link}
use Rattle.ecma_text_fits_roles.proofs.RoleNeeds.{as_free, is_optional, kind_needs, link_needs, node_needs, swapped_asked}
use Rattle.ecma_text_fits_roles.proofs.RoleForms.{freely, node_made, steps_free, swapped_made}

either_way : (b : Bool) (x y : Node) → HasRawRole role.Free x → HasRawRole role.Free y → HasRawRole role.Free (cond b x y)
either_way true x y h k = h
either_way false x y h k = k

linked_free : (m : Node) → HasRawRole role.Free m → HasRawRole role.Free (linked m)
unfolding may_be may_be_raw raw_role_in usual_role_in role_in
linked_free m h = placed (span_of m) (kind.OptChainExpr false) (m ∷ []) role.Free refl (h, tt)

module _ (x : Node) (h : HasRawRole role.Free x) where
  -- members

  module _ (span : Span) (y p : Node) (hp : HasRawRole role.Private p) where
    member_free : HasRawRole role.Free (in_front x (node_of span kind.MemberExpr (y ∷ p ∷ [])))
    unfolding may_be may_be_raw raw_role_in usual_role_in role_in
    member_free = subst (HasRawRole role.Free) (sym (in_front_is x span kind.MemberExpr (y ∷ p ∷ []))) (placed (from_to (span_of x).lo span.hi) kind.MemberExpr (x ∷ p ∷ []) role.Free refl (h, (hp, tt)))

    other_member : HasRawRole role.Free (cond (goes_on x) (linked (in_front x (node_of span kind.MemberExpr (y ∷ p ∷ [])))) (in_front x (node_of span kind.MemberExpr (y ∷ p ∷ []))))
    other_member = either_way (goes_on x) _ _ (linked_free _ member_free) member_free

    member_by_free : (k : Kind) → HasRawRole role.Free (member_of x (node_of span kind.MemberExpr (y ∷ p ∷ [])) k)
    unfolding may_be may_be_raw raw_role_in usual_role_in role_in
    member_by_free kind.Super =
        subst (λ cs. HasRawRole role.Free (node_of (from_to (span_of x).lo (span_of (node_of span kind.MemberExpr (y ∷ p ∷ []))).hi) kind.SuperPropExpr (slice_set cs 0 x))) (sym (children_are span kind.MemberExpr (y ∷ p ∷ [])))
        (placed (from_to (span_of x).lo (span_of (node_of span kind.MemberExpr (y ∷ p ∷ []))).hi) kind.SuperPropExpr (x ∷ p ∷ []) role.Free refl (h, (hp, tt)))
    member_by_free _ = other_member

  -- calls

  abbrev IsCallee : Callee → Type 0
  IsCallee c = HasRawRole role.Free c.0 × HasRawRole role.Free c.1

  instantiated_free : (cs : List Node) → Along (λ i. role.Free) cs → IsCallee (instantiated (frame 2 cs))
  instantiated_free [] a = (absent_free, absent_free)
  instantiated_free (c ∷ []) a = (absent_free, absent_free)
  instantiated_free (c ∷ t ∷ []) a = (a.0, a.1.0)
  instantiated_free (c ∷ t ∷ z ∷ zs) a = go (length (c ∷ t ∷ z ∷ zs) == 2)
    where
      go : (b : Bool) → IsCallee (instantiated (cond b (Some (c ∷ t ∷ z ∷ zs)) None))
      go true = (absent_free, absent_free)
      go false = (absent_free, absent_free)

  callee_free : (k : Kind) → kind_of x ≡ k → IsCallee (callee_by x k)
  unfolding raw_role_in usual_role_in role_in
  callee_free kind.TsInstantiation e = instantiated_free (children_of x) (subst (λ k. Along (raw_role_in role.Free k) (children_of x)) e (placed_parts x role.Free h).1)
  callee_free _ e = (h, absent_free)

  call_free : (span : Span) (c : Callee) → IsCallee c → (xs : List Node) → MeetAll (any ∷ free ∷ free ∷ []) xs → HasRawRole role.Free (framed 3 (call_of span c) xs)
  unfolding may_be may_be_raw raw_role_in usual_role_in role_in
  call_free span c i [] m = absurd m
  call_free span c i (y ∷ []) m = absurd m.1
  call_free span c i (y ∷ args ∷ []) m = absurd m.1.1
  call_free span c i (y ∷ args ∷ t ∷ []) m =
      either_way (goes_on c.0) _ _ (linked_free _ (placed span kind.OptCall (c.0 ∷ args ∷ c.1 ∷ []) role.Free refl (i.0, (m.1.0, (i.1, tt)))))
      (placed span kind.CallExpr (c.0 ∷ args ∷ c.1 ∷ []) role.Free refl (i.0, (m.1.0, (i.1, tt))))
  call_free span c i (y ∷ args ∷ t ∷ z ∷ zs) m = absurd m.1.1.1

  tagged_free : (span : Span) (c : Callee) → IsCallee c → (xs : List Node) → MeetAll (any ∷ free ∷ at role.Tagged ∷ []) xs → HasRawRole role.Free (framed 3 (tagged_of span c) xs)
  unfolding may_be may_be_raw raw_role_in usual_role_in role_in
  tagged_free span c i [] m = absurd m
  tagged_free span c i (y ∷ []) m = absurd m.1
  tagged_free span c i (y ∷ t ∷ []) m = absurd m.1.1
  tagged_free span c i (y ∷ t ∷ template ∷ []) m = placed span kind.TaggedTpl (c.0 ∷ c.1 ∷ template ∷ []) role.Free refl (i.0, (i.1, (m.1.1.0, tt)))
  tagged_free span c i (y ∷ t ∷ template ∷ z ∷ zs) m = absurd m.1.1.1

  optional_free : (span : Span) (xs : List Node) → MeetAll (behind ∷ []) xs → HasRawRole role.Free (framed 1 (optional_of span x) xs)
  unfolding may_be may_be_raw raw_role_in usual_role_in role_in
  optional_free span [] m = absurd m
  optional_free span (base ∷ []) m = placed span (kind.OptChainExpr true) (in_front x base ∷ []) role.Free refl (m.0 x h, tt)
  optional_free span (base ∷ z ∷ zs) m = absurd m.1

  -- wrappers

  non_null_free : (span : Span) (xs : List Node) → MeetAll (any ∷ []) xs → HasRawRole role.Free (in_front x (node_of span kind.TsNonNullExpr xs))
  unfolding may_be may_be_raw raw_role_in usual_role_in role_in
  non_null_free span [] m = absurd m
  non_null_free span (y ∷ []) m = subst (HasRawRole role.Free) (sym (in_front_is x span kind.TsNonNullExpr (y ∷ []))) (placed (from_to (span_of x).lo span.hi) kind.TsNonNullExpr (x ∷ []) role.Free refl (h, tt))
  non_null_free span (y ∷ z ∷ zs) m = absurd m.1

  instantiation_free : (span : Span) (xs : List Node) → MeetAll (any ∷ free ∷ []) xs → HasRawRole role.Free (in_front x (node_of span kind.TsInstantiation xs))
  unfolding may_be may_be_raw raw_role_in usual_role_in role_in
  instantiation_free span [] m = absurd m
  instantiation_free span (y ∷ []) m = absurd m.1
  instantiation_free span (y ∷ t ∷ []) m = subst (HasRawRole role.Free) (sym (in_front_is x span kind.TsInstantiation (y ∷ t ∷ []))) (placed (from_to (span_of x).lo span.hi) kind.TsInstantiation (x ∷ t ∷ []) role.Free refl (h, (m.1.0, tt)))
  instantiation_free span (y ∷ t ∷ z ∷ zs) m = absurd m.1.1

  -- the children of a link are those that it is made of
  of_children : (span : Span) (k : Kind) (xs : List Node) (f : List Node → Node) → HasRawRole role.Free (f xs) → HasRawRole role.Free (f (children_of (node_of span k xs)))
  of_children span k xs f g = subst (λ cs. HasRawRole role.Free (f cs)) (sym (children_are span k xs)) g

  -- from what stands before it to its end
  abbrev over : Node → Span
  over n = from_to (span_of x).lo (span_of n).hi

  link_by_kind : (span : Span) (k : Kind) (xs : List Node) → Given (link_needs k (is_optional k)) xs → HasRawRole role.Free (link_by x (node_of span k xs) k)
  unfolding raw_role_in usual_role_in role_in
  link_by_kind span kind.MemberExpr [] m = absurd m
  link_by_kind span kind.MemberExpr (y ∷ []) m = absurd m.1
  link_by_kind span kind.MemberExpr (y ∷ p ∷ []) m = member_by_free span y p m.1.0 (kind_of x)
  link_by_kind span kind.MemberExpr (y ∷ p ∷ z ∷ zs) m = absurd m.1.1
  link_by_kind span kind.CallExpr xs m = of_children span kind.CallExpr xs (framed 3 (call_of (over (node_of span kind.CallExpr xs)) (callee_of x))) (call_free (over (node_of span kind.CallExpr xs)) (callee_of x) (callee_free (kind_of x) refl) xs m)
  link_by_kind span kind.TaggedTpl xs m = of_children span kind.TaggedTpl xs (framed 3 (tagged_of (over (node_of span kind.TaggedTpl xs)) (callee_of x))) (tagged_free (over (node_of span kind.TaggedTpl xs)) (callee_of x) (callee_free (kind_of x) refl) xs m)
  link_by_kind span (kind.OptChainExpr o) xs m = of_children span (kind.OptChainExpr o) xs (framed 1 (optional_of (over (node_of span (kind.OptChainExpr o) xs)) x)) (optional_free (over (node_of span (kind.OptChainExpr o) xs)) xs m)
  link_by_kind span kind.TsNonNullExpr xs m = non_null_free span xs m
  link_by_kind span kind.TsInstantiation xs m = instantiation_free span xs m
  link_by_kind span _ xs m = absurd m

  link_free : (span : Span) (k : Kind) (xs : List Node) → Given (link_needs k (is_optional k)) xs → HasRawRole role.Free (in_front_link x (node_of span k xs))
  link_free span k xs m = subst (λ j. HasRawRole role.Free (link_by x (node_of span k xs) j)) (sym (kind_is span k xs)) (link_by_kind span k xs m)

linked_made : (span : Span) (k : Kind) (xs : List Node) → Given (kind_needs k link) xs → Meets link (node_of span k xs)
linked_made span k xs g = λ x h. link_free x h span k xs g

pub links_made : (q : Ask) (xs : List Node) → Given (as_free q (first_and_each free link)) xs → Meets q (links xs)
links_made q xs g = freely q (first_and_each free link) (links xs) xs (steps_free link in_front_link (λ x n h m. m x h) xs) g

-- nodes of a kind, links among them

pub any_node_made : (p : Plain) (q : Ask) (span : Span) (xs : List Node) → Given (node_needs p q) xs → Meets q (node_of span (plain_kind p) xs)
any_node_made = node_made linked_made

pub any_swapped_made : (p : Plain) (q : Ask) (span : Span) (xs : List Node) → Given (swapped_asked (node_needs p q)) xs → Meets q (node_of span (plain_kind p) (swapped xs))
any_swapped_made = swapped_made linked_made
