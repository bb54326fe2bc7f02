-- Classes have their shapes.
use Rattle.std.proofs.Common.{◌≡◌, ◌∙◌, refl, sym, ap, subst, Bool, true, false, ◌||◌, List, [], ◌∷◌, arith}
use Rattle.std.proofs.lemmas.Bool.{false≢true}
use Rattle.ecma_kind.specs.Sorts.{belongs}
use Rattle.ecma_kind.specs.declared.span.Span.{Span}
use Rattle.ecma_kind.specs.declared.kind.Kind.{Kind}
use Rattle.ecma_kind.specs.declared.kind.Kind.TheVariants as kind
use Rattle.ecma_kind.specs.declared.shapes.Sort.TheVariants as sort
use Rattle.ecma_tree.specs.declared.node.Node.{Node, out-Node}
use Rattle.ecma_tree.specs.Nodes.{node_of}
use Rattle.ecma_tree.specs.Sorted.{is_absent, many, maybe, one}
use Rattle.ecma_rules.specs.declared.target.Target.TheVariants as target
use Rattle.ecma_rules.specs.Children.{kind_of}
use Rattle.ecma_rules.specs.Targets.{target_in}
use Rattle.ecma_covers.specs.Covering.{cover_at, cover_in}
use Rattle.ecma_fits.specs.declared.role.Role.TheVariants as role
use Rattle.ecma_fits.specs.Roles.{role_in}
use Rattle.ecma_print.specs.Places.{free}
use Rattle.ecma_shapes.specs.Shapes.{AreMembers, IsClass, IsHeritage, class_of, heritage, more_members, no_heritage, no_members}
use Rattle.ecma_plain.specs.Forms.{is_of_forms}
use Rattle.ecma_print_shapes.proofs.Bindings.{no_type_parameters}
use Rattle.ecma_print_shapes.proofs.Blocks.{ItemsIn, items_covered, items_in, listed}
use Rattle.ecma_print_shapes.proofs.Building.{absent_shape}
use Rattle.ecma_print_shapes.proofs.ByKind.{in_place}
use Rattle.ecma_print_shapes.proofs.Claims.{AllFormed, Formed, ListOf, seen}
use Rattle.ecma_print_shapes.proofs.Covered.{covered}
use Rattle.ecma_print_shapes.proofs.Lists.{cover_of_list}
use Rattle.ecma_print_shapes.proofs.Ranks.{own_level, to_left_hand_side}
use Rattle.ecma_print_shapes.proofs.Simple.{undeclared}
use Rattle.ecma_print_shapes.proofs.Sound.{Here, Sound}
use Rattle.ecma_print_shapes.proofs.Spots.{child_value, proper_free, tight}

members_of : (cs : List Node) → AllFormed cs → ItemsIn (free 0) (one sort.ClassMember) cs → AreMembers (items_covered cs)
members_of [] f h = no_members
members_of (c ∷ cs) f h = more_members (f.0.member h.0) (members_of cs f.1 h.1)

pub members_formed : (n : Node) → AllFormed (out-Node n).children → Sound role.Free (free 0) (many sort.ClassMember) n → ListOf AreMembers n
members_formed n below s = let is = (seen n s).allowed in listed n is (members_of (out-Node n).children below (items_in n s is))

-- types are missing

no_arguments : (k : Kind) → (is_absent k || belongs sort.TsTypeParamInstantiation k) ≡ true → is_of_forms k ≡ true → is_absent k ≡ true
no_arguments kind.Absent a f = refl
no_arguments kind.TsTypeParamInstantiation a f = absurd (false≢true f)
no_arguments k a f = absurd (false≢true a)

no_type : {A : Type 0} (k : Kind) → belongs sort.TsType k ≡ true → is_of_forms k ≡ true → A
no_type kind.TsType a f = absurd (false≢true f)
no_type k a f = absurd (false≢true a)

no_types : (cs : List Node) → ItemsIn (free 0) (one sort.TsType) cs → cs ≡ []
no_types [] h = refl
no_types (c ∷ cs) h = let s = seen c h.0 in no_type (kind_of c) s.allowed s.bare.1

-- no interface is implemented
uninterfaced : (n : Node) → Sound role.Free (free 0) (many sort.TsType) n → cover_at n target.Free ≡ node_of (out-Node n).span kind.List []
uninterfaced n s =
    let is = (seen n s).allowed in
    cover_of_list n is ∙ ap (λ z. node_of (out-Node n).span kind.List (items_covered z)) (no_types (out-Node n).children (items_in n s is))

extended : (n : Node) (missing : Bool) → is_absent (kind_of n) ≡ missing → Formed n → Sound role.Free (free 16) (maybe sort.Expr) n → IsHeritage (cover_at n target.Free)
extended n true e f s = no_heritage (absent_shape target.Free n s e)
extended n false e f s =
    let x = child_value f (in_place sort.Expr n refl e s) refl (proper_free 16) in
    heritage (to_left_hand_side (own_level x.kind x.children false) (tight x (omega arith) (omega arith)) x.shape)

module _ (at : Span) where
  class_here : (cs : List Node) → AllFormed cs → Here role.Free (free 1) (one sort.Class) at (kind.Class false) cs → IsClass (cover_at (node_of at (kind.Class false) cs) target.Free)
  unfolding cover_in target_in role_in
  class_here [] f h = absurd h.below
  class_here (a ∷ []) f h = absurd h.below.1
  class_here (a ∷ b ∷ []) f h = absurd h.below.1.1
  class_here (a ∷ b ∷ c ∷ []) f h = absurd h.below.1.1.1
  class_here (a ∷ b ∷ c ∷ d ∷ []) f h = absurd h.below.1.1.1.1
  class_here (a ∷ b ∷ c ∷ d ∷ e ∷ []) f h =
      let l = f.1.0.members h.below.1.0 in
      let d' = h.below.1.1.1.0 in
      let none = no_type_parameters c h.below.1.1.0 in
      let none' = absent_shape target.Free d d' (no_arguments (kind_of d) (seen d d').allowed (seen d d').bare.1) in
      subst IsClass (sym (covered at (kind.Class false) (a ∷ b ∷ c ∷ d ∷ e ∷ []) target.Free refl))
      (subst (λ z. IsClass (node_of at (kind.Class false) (cover_at a target.Free ∷ z ∷ cover_at c target.Free ∷ cover_at d target.Free ∷ cover_at e target.Free ∷ []))) (sym l.cover_is)
      (subst (λ z. IsClass (node_of at (kind.Class false) (cover_at a target.Free ∷ node_of l.at kind.List l.items ∷ cover_at c target.Free ∷ cover_at d target.Free ∷ z ∷ []))) (sym (uninterfaced e h.below.1.1.1.1.0))
      (class_of at l.at (out-Node e).span (extended a (is_absent (kind_of a)) refl f.0 h.below.0) l.hold none none')))
  class_here (a ∷ b ∷ c ∷ d ∷ e ∷ g ∷ cs) f h = absurd h.below.1.1.1.1.1

  pub class_formed : (k : Kind) (cs : List Node) → AllFormed cs → Here role.Free (free 1) (one sort.Class) at k cs → IsClass (cover_at (node_of at k cs) target.Free)
  class_formed (kind.Class is_abstract) cs f h =
      undeclared (λ d. Here role.Free (free 1) (one sort.Class) at (kind.Class d) cs → IsClass (cover_at (node_of at (kind.Class d) cs) target.Free)) is_abstract h.bare.1 (class_here cs f) h
  class_formed k cs f h = absurd (false≢true h.allowed)
