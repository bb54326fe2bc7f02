-- Optional chains have their shapes.
use Rattle.std.proofs.Common.{◌≡◌, ◌∙◌, ◌⊎◌, inl, inr, refl, sym, ap, subst, Bool, true, false, not, ◌&&◌, ◌||◌, List, [], ◌∷◌, map, ltb, slice_get}
use Rattle.ecma_kind.specs.declared.span.Span.{Span}
use Rattle.ecma_kind.specs.declared.kind.Kind.{Kind}
use Rattle.ecma_kind.specs.declared.kind.Kind.TheVariants as kind
use Rattle.ecma_kind.specs.declared.shapes.Shape.{Shape}
use Rattle.ecma_kind.specs.declared.shapes.Sort.TheVariants as sort
use Rattle.ecma_tree.specs.declared.node.Node.{Node, fold-roll-Node, out-Node}
use Rattle.ecma_tree.specs.declared.node.Node.TheViews.{roll-out-Node}
use Rattle.ecma_tree.specs.Nodes.{node_of}
use Rattle.ecma_tree.specs.Sorted.{one}
use Rattle.ecma_rules.specs.declared.target.Target.{Target}
use Rattle.ecma_rules.specs.declared.target.Target.TheVariants as target
use Rattle.ecma_rules.specs.Children.{child_holds, holds_of, kind_of}
use Rattle.ecma_rules.specs.Targets.{first_is, target_in}
use Rattle.ecma_covers.specs.Covering.{cover_at, cover_in}
use Rattle.ecma_fits.specs.declared.role.Role.{Role}
use Rattle.ecma_fits.specs.declared.role.Role.TheVariants as role
use Rattle.ecma_fits.specs.Branches.{is_dangling}
use Rattle.ecma_fits.specs.Chains.{goes_on, goes_on_step, is_behind_chain, is_link, is_loose, is_loose_by, keeps_chain}
use Rattle.ecma_fits.specs.Counts.{is_short}
use Rattle.ecma_fits.specs.Roles.{role_in}
use Rattle.ecma_print.specs.declared.place.Beside.TheVariants as beside
use Rattle.ecma_print.specs.declared.place.Spot.{Spot}
use Rattle.ecma_print.specs.Expressions.{link_of, object_beside}
use Rattle.ecma_print.specs.Laid.{Laid, is_computed}
use Rattle.ecma_print.specs.Layout.{laid}
use Rattle.ecma_print.specs.Places.{ends_a_chain, left}
use Rattle.ecma_shapes.specs.Shapes.{IsChainLink, IsExpression, Level, asks_on, callee, chain, chain_call, chain_element, chain_member, opens_chain}
use Rattle.ecma_shapes.specs.Shapes as shapes
use Rattle.ecma_plain.specs.Forms.{is_of_forms}
use Rattle.ecma_print_shapes.proofs.Calls.{call_arguments, no_type_arguments}
use Rattle.ecma_print_shapes.proofs.Claims.{AllFormed, Expressed, Formed, Linked, LinkedBehind, MemberKey, Proper, bracketed_key, linked_call, linked_element, linked_member, named_key, seen}
use Rattle.ecma_print_shapes.proofs.Covered.{covered, covered_children}
use Rattle.ecma_print_shapes.proofs.ObjectSeats.{at_base}
use Rattle.ecma_print_shapes.proofs.Ranks.{IsWithin, own_level, to_callee}
use Rattle.ecma_print_shapes.proofs.Seats.{either_parts}
use Rattle.ecma_print_shapes.proofs.Sound.{Here, Sound, children_made, kind_made}
use Rattle.ecma_print_shapes.proofs.Spots.{child_value, proper_left}

-- a chain that goes on is one

goes_on_made : (n : Node) → goes_on n ≡ (is_link (kind_of n) || (keeps_chain (kind_of n) && first_is (map goes_on (out-Node n).children)))
goes_on_made n = ap goes_on (sym (roll-out-Node n)) ∙ fold-roll-Node Bool goes_on_step (out-Node n)

link_kinds : (k : Kind) (b : Bool) → is_of_forms k ≡ true → (is_link k || (keeps_chain k && b)) ≡ true → is_link k ≡ true
link_kinds (kind.OptChainExpr optional) b f h = refl
link_kinds kind.TsNonNullExpr b f h = absurd (cc)
link_kinds kind.TsInstantiation b f h = absurd (cc)
link_kinds k b f h = absurd (cc)

chain_level : (k : Kind) (children : List Laid) (c : Bool) → is_link k ≡ true → own_level k children c ≡ chain
chain_level (kind.OptChainExpr optional) children c h = refl
chain_level k children c h = absurd (cc)

never_within : {A : Type 0} (a : Level) → a ≡ chain → IsWithin 2 a → A
never_within a e w = let z : IsWithin 2 chain = subst (IsWithin 2) e w in absurd (no z)
  where
    no : false ≡ true → ⊥
    no z = cc

-- what stands before a link
record Based (n : Node) : Type 0 where
  before : Level
  either : (before ≡ chain) ⊎ (before ≡ callee)
  goes : goes_on n ≡ true → before ≡ chain
  shape : IsExpression before (cover_at n target.Free)

module _ (spot : Spot) (n : Node) (out : spot.in_callee_of_new ≡ false) (e : Expressed target.Free (left spot 16 beside.InChain) n) (forms : is_of_forms (kind_of n) ≡ true) where
  abbrev its_level : Level
  its_level = own_level e.kind e.children false

  outside_shape : IsExpression its_level (cover_at n target.Free)
  outside_shape = subst (λ c. IsExpression (own_level e.kind e.children c) (cover_at n target.Free)) out e.shape

  going : goes_on n ≡ true → its_level ≡ chain
  going g = chain_level e.kind e.children false (subst (λ k. is_link k ≡ true) e.kind_is (link_kinds (kind_of n) (first_is (map goes_on (out-Node n).children)) forms (sym (goes_on_made n) ∙ g)))

  based_by : (its_level ≡ chain) ⊎ IsWithin 2 its_level → Based n
  based_by (inl is) = record { before = chain; either = inl refl; goes = λ g. refl; shape = subst (λ l. IsExpression l (cover_at n target.Free)) is outside_shape }
  based_by (inr w) = record { before = callee; either = inr refl; goes = λ g. never_within its_level (going g) w; shape = to_callee its_level w outside_shape }

  based : Based n
  based = based_by (at_base e.children spot e.kind out e.open_there)

in_chain : (optional computed : Bool) → object_beside (link_of optional) computed ≡ beside.InChain
in_chain true computed = refl
in_chain false computed = refl

-- the object or the callee of a link
based_there : (spot : Spot) (n : Node) → spot.in_callee_of_new ≡ false → Formed n → Sound role.Free (left spot 16 beside.InChain) (one sort.Expr) n → Based n
based_there spot n out f s =
    based spot n out (child_value f s refl (proper_left spot 16 beside.InChain out refl)) (seen n s).bare.1

first_goes : (at : Span) (k : Kind) (a : Node) (cs : List Node) → child_holds goes_on (node_of at k (a ∷ cs)) 0 ≡ goes_on a
first_goes at k a cs = ap (λ z. holds_of goes_on (slice_get z 0)) (children_made at k (a ∷ cs))

member_link : (at : Span) (a b : Node) → (x : Based a) → MemberKey b → Linked x.before (node_of at kind.MemberExpr (cover_at a target.Free ∷ cover_at b target.Free ∷ []))
member_link at a b x (named_key e is_key) = linked_member at x.shape is_key
member_link at a b x (bracketed_key e at_key y is level shape_of) =
    subst (λ z. Linked x.before (node_of at kind.MemberExpr (cover_at a target.Free ∷ z ∷ []))) (sym is) (linked_element at at_key x.shape shape_of)

module _ (spot : Spot) (optional : Bool) (out : spot.in_callee_of_new ≡ false) (at : Span) where
  abbrev LinkHere : Kind → List Node → Type 0
  LinkHere k cs = Here role.Free (left spot 0 (link_of optional)) (one sort.OptChainBase) at k cs

  member_link_formed : (cs : List Node) → AllFormed cs → LinkHere kind.MemberExpr cs → LinkedBehind (node_of at kind.MemberExpr cs)
  unfolding cover_in target_in role_in
  member_link_formed [] f h = absurd h.below
  member_link_formed (a ∷ []) f h = absurd h.below.1
  member_link_formed (a ∷ b ∷ []) f h =
      let x = based_there spot a out f.0 (subst (λ z. Sound role.Free (left spot 16 z) (one sort.Expr) a) (in_chain optional (is_computed (laid b).kind)) h.below.0) in
      record {
        before = x.before;
        either = x.either;
        goes_on = λ g. x.goes (sym (first_goes at kind.MemberExpr a (b ∷ [])) ∙ g);
        linked = subst (Linked x.before) (sym (covered at kind.MemberExpr (a ∷ b ∷ []) target.Free refl)) (member_link at a b x (f.1.0.member_key h.below.1.0));
      }
  member_link_formed (a ∷ b ∷ c ∷ cs) f h = absurd h.below.1.1

  call_link_formed : (cs : List Node) → AllFormed cs → LinkHere kind.OptCall cs → LinkedBehind (node_of at kind.OptCall cs)
  unfolding cover_in target_in role_in
  call_link_formed [] f h = absurd h.below
  call_link_formed (a ∷ []) f h = absurd h.below.1
  call_link_formed (a ∷ b ∷ []) f h = absurd h.below.1.1
  call_link_formed (a ∷ b ∷ c ∷ []) f h =
      let x = based_there spot a out f.0 h.below.0 in
      record {
        before = x.before;
        either = x.either;
        goes_on = λ g. x.goes (sym (first_goes at kind.OptCall a (b ∷ c ∷ [])) ∙ g);
        linked = subst (Linked x.before) (sym (covered at kind.OptCall (a ∷ b ∷ c ∷ []) target.Free refl)) (linked_call at x.shape (call_arguments f.1.0 h.below.1.0) (no_type_arguments c h.below.1.1.0));
      }
  call_link_formed (a ∷ b ∷ c ∷ d ∷ cs) f h = absurd h.below.1.1.1

  pub link_formed : (k : Kind) (cs : List Node) → AllFormed cs → LinkHere k cs → LinkedBehind (node_of at k cs)
  link_formed kind.MemberExpr cs f h = member_link_formed cs f h
  link_formed kind.OptCall cs f h = call_link_formed cs f h
  link_formed k cs f h = let a = h.allowed in cc

-- a chain by its last link

linked_chain : (at : Span) (asks : Bool) (before : Level) (n : Node) → Linked before n → IsChainLink before asks → IsExpression chain (node_of at (kind.OptChainExpr asks) (n ∷ []))
linked_chain at asks before n (linked_member at_link a k) l = chain_member at at_link l a k
linked_chain at asks before n (linked_element at_link at_key a k) l = chain_element at at_link at_key l a k
linked_chain at asks before n (linked_call at_link a args none) l = chain_call at at_link l a args none

asks_there : (before : Level) → (before ≡ chain) ⊎ (before ≡ callee) → IsChainLink before true
asks_there before (inl e) = subst (λ l. IsChainLink l true) (sym e) asks_on
asks_there before (inr e) = subst (λ l. IsChainLink l true) (sym e) opens_chain

outside_callee : (spot : Spot) → Proper spot → ends_a_chain spot.beside ≡ false → spot.in_callee_of_new ≡ false
outside_callee spot p h = go spot.in_callee_of_new refl
  where
    clash : (b : Bool) → b ≡ true → b ≡ false → ⊥
    clash true g z = cc
    clash false g z = cc

    go : (b : Bool) → spot.in_callee_of_new ≡ b → b ≡ false
    go true e = absurd (clash (ends_a_chain spot.beside) (p.headed e).1 h)
    go false e = refl

not_false : (b : Bool) → not b ≡ false → b ≡ true
not_false true h = refl
not_false false h = cc

-- without its own `?.` it goes on with a chain
goes_on_there : (at : Span) (a : Node) → is_loose (node_of at (kind.OptChainExpr false) (a ∷ [])) ≡ false → child_holds goes_on a 0 ≡ true
goes_on_there at a h =
    let n = node_of at (kind.OptChainExpr false) (a ∷ []) in
    let z : not (child_holds is_behind_chain n 0) ≡ false = subst (λ k. is_loose_by k n ≡ false) (kind_made at (kind.OptChainExpr false) (a ∷ [])) h in
    sym (ap (λ y. holds_of is_behind_chain (slice_get y 0)) (children_made at (kind.OptChainExpr false) (a ∷ []))) ∙ not_false (child_holds is_behind_chain n 0) z

asked : (at : Span) (a : Node) (asks : Bool) (l : LinkedBehind a) → is_loose (node_of at (kind.OptChainExpr asks) (a ∷ [])) ≡ false → IsChainLink l.before asks
asked at a true l h = asks_there l.before l.either
asked at a false l h = subst (λ z. IsChainLink z false) (sym (l.goes_on (goes_on_there at a h))) shapes.IsChainLink.goes_on

module _ {r : Role} {spot : Spot} {shape : Shape} (t : Target) (at : Span) (asks : Bool) where
  pub chain_formed : (cs : List Node) → AllFormed cs → Here r spot shape at (kind.OptChainExpr asks) cs → Proper spot → IsExpression chain (node_of at (kind.OptChainExpr asks) (covered_children t (kind.OptChainExpr asks) cs))
  unfolding cover_in target_in role_in
  chain_formed [] f h p = absurd h.below
  chain_formed (a ∷ []) f h p =
      let n = node_of at (kind.OptChainExpr asks) (a ∷ []) in
      let out = outside_callee spot p (either_parts (ltb 16 spot.level) (ends_a_chain spot.beside) h.open_there).1 in
      let l = f.0.link spot asks out h.below.0 in
      let loose = (either_parts (is_loose n) _ (either_parts (is_dangling n) _ (either_parts (is_short n) _ h.whole).1).1).0 in
      linked_chain at asks l.before (cover_at a target.Free) l.linked (asked at a asks l loose)
  chain_formed (a ∷ b ∷ cs) f h p = absurd h.below.1
