-- A form that no text has comes not about where a node stays and one node for one stands in it.
use Rattle.std.proofs.Common.{◌≡◌, ◌∙◌, ℕ, Bool, true, false, not, ◌||◌, List, [], ◌∷◌, length, refl, sym, ap, ap₂, subst, slice_get}
use Rattle.ecma_kind.specs.declared.ident.Ident.{Ident}
use Rattle.ecma_kind.specs.declared.kind.Kind.{Kind}
use Rattle.ecma_kind.specs.declared.kind.Kind.TheVariants as kind
use Rattle.ecma_kind.specs.declared.shapes.Shape.{Shape}
use Rattle.ecma_kind.specs.declared.shapes.Sort.TheVariants as sort
use Rattle.ecma_tree.specs.Sorted.{allows, child_shapes, one}
use Rattle.ecma_tree.specs.declared.node.Node.{Node}
use Rattle.ecma_forms.specs.Forms.{is_ambient_variable, is_odd_by}
use Rattle.ecma_lower_enums.specs.declared.known.KnownEnums.{KnownEnums}
use Rattle.ecma_lower_enums.specs.declared.place.Place.{Place}
use Rattle.ecma_lower_enums.specs.declared.place.Place.TheVariants as place
use Rattle.ecma_lower_enums.specs.Places.{place_in}
use Rattle.ecma_lower_enums_sources.proofs.Alike.{is_left_out, is_said, kind-at, present-at, same-of}
use Rattle.ecma_lower_enums_sources.proofs.Relation.{Ones, Stands, children_of, is_name, is_read, is_target}
use Rattle.ecma_lower_enums_sources.proofs.Relation as relation
use Rattle.ecma_lower_enums_sources.proofs.Suiting.{no}
use Rattle.ecma_rules.specs.Children.{holds_of, kind_of, of_kind}
use Rattle.ecma_rules.specs.Members.{has_body}
use Rattle.ecma_strip.specs.Staying.{is_this_ident}
use Rattle.ecma_strip_fits.proofs.Walk.{shape_parts}

-- what is exchanged is no such form
read-usual : (k : Kind) (n : Node) → is_read k ≡ true → is_odd_by k n ≡ false
read-usual (kind.Ident sym ctxt optional) n h = refl
read-usual kind.MemberExpr n h = refl
read-usual _ n h = no h

target-usual : (k : Kind) (n : Node) → is_target k ≡ true → is_odd_by k n ≡ false
target-usual (kind.Ident sym ctxt optional) n h = refl
target-usual kind.BindingIdent n h = refl
target-usual _ n h = no h

name-usual : (k : Kind) (n : Node) → is_name k ≡ true → is_odd_by k n ≡ false
name-usual (kind.Ident sym ctxt optional) n h = refl
name-usual _ n h = no h

left-no-variable : (k : Kind) → is_left_out k ≡ true → is_ambient_variable k ≡ false
left-no-variable (kind.VarDecl word declare) h = no h
left-no-variable _ h = refl

said-no-variable : (k : Kind) → is_said k ≡ true → is_ambient_variable k ≡ false
said-no-variable (kind.VarDecl word declare) h = no h
said-no-variable _ h = refl

module _ (enums : KnownEnums) (N : Ident → Type 0) (K : List ℕ → Type 0) where
  abbrev S : Place → Shape → Node → Node → Type 0
  S = Stands enums N K

  -- a function has a body where it had one
  body-same : {t : Shape} {a b : Node} → S place.Other t a b → t ≡ one sort.Function → has_body b ≡ has_body a
  body-same (relation.left has calm) is = refl
  body-same (relation.kept has calm l e at ones) is = present-at enums N K ones 1
  body-same {t} {a = a} (relation.listed has e f at items) is = no (sym (ap (λ (z : Shape). allows z kind.List) is) ∙ (sym (ap (allows t) e) ∙ (shape_parts a t has).0))

  body-at : {f : ℕ → Place} {u : Shape} {cs ds : List Node} → Ones enums N K f (u ∷ one sort.Function ∷ []) cs ds → f 1 ≡ place.Other → holds_of has_body (slice_get ds 1) ≡ holds_of has_body (slice_get cs 1)
  body-at relation.none e = refl
  body-at (relation.more o relation.none) e = refl
  body-at (relation.more o (relation.more {c = c} {d = d} q os)) e = body-same (subst (λ z. S z (one sort.Function) c d) e q) refl

  variable-at : {f : ℕ → Place} {ts : List Shape} {cs ds : List Node} → Ones enums N K f ts cs ds → of_kind is_ambient_variable (slice_get ds 0) ≡ of_kind is_ambient_variable (slice_get cs 0)
  variable-at relation.none = refl
  variable-at (relation.more o os) = same-of enums N K Bool is_ambient_variable false left-no-variable said-no-variable o

  names-same : {f : ℕ → Place} {ts : List Shape} {cs ds : List Node} → Ones enums N K f ts cs ds → f 0 ≡ place.Other → f 1 ≡ place.Other
      → (of_kind is_this_ident (slice_get ds 0) || of_kind is_this_ident (slice_get ds 1)) ≡ (of_kind is_this_ident (slice_get cs 0) || of_kind is_this_ident (slice_get cs 1))
  names-same os e f = ap₂ (λ x y. x || y) (kind-at enums N K is_this_ident os 0 e) (kind-at enums N K is_this_ident os 1 f)

  kept-odd : (p : Place) (t : Shape) (n : ℕ) (k : Kind) (a b : Node) → Ones enums N K (place_in enums.writes p k) (child_shapes k t n) (children_of a) (children_of b) → is_odd_by k b ≡ is_odd_by k a
  unfolding place_in
  kept-odd p t n kind.FnExpr a b os = ap not (body-at os refl)
  kept-odd p t n kind.ForStmt a b os = variable-at os
  kept-odd p t n kind.ForInStmt a b os = variable-at os
  kept-odd p t n (kind.ForOfStmt is_await) a b os = variable-at os
  kept-odd p t n (kind.ImportNamedSpecifier is_type_only) a b os = names-same os refl refl
  kept-odd p t n (kind.ExportNamedSpecifier is_type_only) a b os = names-same os refl refl
  kept-odd p t n kind.ExportNamespaceSpecifier a b os = names-same os refl refl
  kept-odd p t n _ a b os = refl

  pub odd-same : {p : Place} {t : Shape} {a b : Node} → S p t a b → is_odd_by (kind_of a) a ≡ false → is_odd_by (kind_of a) b ≡ false
  odd-same (relation.left has calm) h = h
  odd-same {p} {t} {a} {b} (relation.kept has calm l e at ones) h = kept-odd p t (length (children_of a)) (kind_of a) a b ones ∙ h
  odd-same {b = b} (relation.listed has e f at items) h = ap (λ k. is_odd_by k b) e
  odd-same {a = a} {b = b} (relation.read has suit is said) h = read-usual (kind_of a) b is
  odd-same {a = a} {b = b} (relation.target of text has suit is n k) h = target-usual (kind_of a) b is
  odd-same {a = a} {b = b} (relation.short span text has suit is k said) h = name-usual (kind_of a) b is
  odd-same {b = b} (relation.patterned span at of text has suit is get v n k) h = ap (λ k. is_odd_by k b) is
