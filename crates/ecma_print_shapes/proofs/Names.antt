-- Names, private ones too, have their shapes.
use Rattle.std.proofs.Common.{◌≡◌, ◌∙◌, refl, sym, ap, subst, ℕ, Bool, true, false, not, ◌&&◌, List, [], codes, bytes_eq}
use Rattle.ecma_lex.specs.Keys.{is_reserved}
use Rattle.ecma_kind.specs.declared.span.Span.{Span}
use Rattle.ecma_kind.specs.declared.kind.Kind.{Kind}
use Rattle.ecma_kind.specs.declared.kind.Kind.TheVariants as kind
use Rattle.ecma_kind.specs.declared.shapes.Shape.{Shape}
use Rattle.ecma_kind.specs.declared.shapes.Sort.TheVariants as sort
use Rattle.ecma_tree.specs.declared.node.Node.{Node, out-Node}
use Rattle.ecma_tree.specs.declared.node.Node.TheViews.{roll-out-Node}
use Rattle.ecma_tree.specs.Nodes.{node_of}
use Rattle.ecma_tree.specs.Sorted.{allows, one}
use Rattle.ecma_rules.specs.declared.target.Target.TheVariants as target
use Rattle.ecma_rules.specs.Children.{kind_of}
use Rattle.ecma_covers.specs.Covering.{cover_at}
use Rattle.ecma_fits.specs.declared.role.Role.{Role}
use Rattle.ecma_fits.specs.Roles.{is_tagged, is_wrong_text, role_in}
use Rattle.ecma_print.specs.declared.place.Spot.{Spot}
use Rattle.ecma_print.specs.Places.{free}
use Rattle.ecma_shapes.specs.Shapes.{IsIdent}
use Rattle.ecma_plain.specs.Functions.{functions, is_this_name}
use Rattle.ecma_print_shapes.proofs.Building.{childless, stands_as}
use Rattle.ecma_print_shapes.proofs.Claims.{IsNaming, IsPrivateName, a_private_name, names_parameter, names_value, no_reserved, seen}
use Rattle.ecma_print_shapes.proofs.Covered.{covered, is_of_pattern}
use Rattle.ecma_print_shapes.proofs.Leaves.{ident_shape}
use Rattle.ecma_print_shapes.proofs.LeafTokens.{private_token}
use Rattle.ecma_print_shapes.proofs.Sound.{Here, Sound, functions_made}

-- a leaf is covered as it is
pub leaf_as_is : (at : Span) (k : Kind) (cs : List Node) → cs ≡ [] → is_of_pattern k ≡ false → cover_at (node_of at k cs) target.Free ≡ node_of at k []
leaf_as_is at k cs none plain = ap (λ z. cover_at (node_of at k z) target.Free) none ∙ covered at k [] target.Free plain

-- a name that is reserved but `this`
not_this : (word : List ℕ) → (is_reserved word && not (bytes_eq word (codes "this"))) ≡ false → bytes_eq word (codes "this") ≡ false → is_reserved word ≡ false
not_this word h e = go (is_reserved word) (subst (λ b. (is_reserved word && not b) ≡ false) e h)
  where
    go : (b : Bool) → (b && true) ≡ false → b ≡ false
    go true z = cc
    go false z = refl

is_this_there : (at : Span) (k : Kind) (cs : List Node) → (functions (node_of at k cs)).is_this ≡ is_this_name k
is_this_there at k cs = ap (λ f. f.is_this) (functions_made at k cs)

unreserved : {r : Role} (at : Span) (word : List ℕ) (ctxt : ℕ) (optional : Bool) (cs : List Node) → IsNaming r (node_of at (kind.Ident word ctxt optional) cs) → is_wrong_text r word ≡ false → is_reserved word ≡ false
unreserved {r} at word ctxt optional cs (names_value reads) h = sym (no_reserved r word reads) ∙ h
unreserved at word ctxt optional cs (names_parameter e) h = not_this word h (sym (is_this_there at (kind.Ident word ctxt optional) cs) ∙ e)

module _ (r : Role) (spot : Spot) (shape : Shape) (at : Span) (cs : List Node) where
  ident_by : (k : Kind) → allows (one sort.Ident) k ≡ true → Here r spot shape at k cs → IsNaming r (node_of at k cs) → IsIdent (cover_at (node_of at k cs) target.Free)
  ident_by (kind.Ident word ctxt optional) is h naming =
      let k = kind.Ident word ctxt optional in
      subst IsIdent (sym (leaf_as_is at k cs (childless (role_in r k) [] (free 0) cs h.below) refl))
      (ident_shape (is_tagged r) at word ctxt optional h.spelled h.bare.0 (unreserved at word ctxt optional cs naming (stands_as r at k cs h).0))
  ident_by k is h naming = absurd (no is)
    where
      no : false ≡ true → ⊥
      no e = cc

  private_by : (k : Kind) → allows (one sort.PrivateName) k ≡ true → Here r spot shape at k cs → IsPrivateName (cover_at (node_of at k cs) target.Free)
  private_by (kind.PrivateName name) is h =
      let k = kind.PrivateName name in
      subst IsPrivateName (sym (leaf_as_is at k cs (childless (role_in r k) [] (free 0) cs h.below) refl)) (a_private_name at name (private_token name h.bare.0 h.spelled))
  private_by k is h = absurd (no is)
    where
      no : false ≡ true → ⊥
      no e = cc

pub ident_formed : (n : Node) (r : Role) (spot : Spot) (shape : Shape) → Sound r spot shape n → allows (one sort.Ident) (kind_of n) ≡ true → IsNaming r n → IsIdent (cover_at n target.Free)
ident_formed n r spot shape s is naming =
    let x = out-Node n in
    subst (λ m. IsIdent (cover_at m target.Free)) (roll-out-Node n) (ident_by r spot shape x.span x.children x.kind is (seen n s) (subst (IsNaming r) (sym (roll-out-Node n)) naming))

pub private_name_formed : (n : Node) (r : Role) (spot : Spot) (shape : Shape) → Sound r spot shape n → allows (one sort.PrivateName) (kind_of n) ≡ true → IsPrivateName (cover_at n target.Free)
private_name_formed n r spot shape s is =
    let x = out-Node n in
    subst (λ m. IsPrivateName (cover_at m target.Free)) (roll-out-Node n) (private_by r spot shape x.span x.children x.kind is (seen n s))
