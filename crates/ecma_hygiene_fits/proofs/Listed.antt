-- What is said of kinds, of children and of the items of lists, and stays with other texts.
use Rattle.std.proofs.Common.{◌≡◌, ◌∙◌, ℕ, zero, suc, Bool, true, false, ◌&&◌, List, [], ◌∷◌, length, Option, Some, refl, sym, ap, ap₂, slice_get, subst}
use Rattle.std.specs.List.{list_all}
use Rattle.std.proofs.lemmas.Bool.{false≢true}
use Rattle.ecma_kind.specs.declared.kind.Kind.{Kind}
use Rattle.ecma_kind.specs.declared.kind.Kind.TheVariants as kind
use Rattle.ecma_kind.specs.declared.shapes.Shape.{Shape}
use Rattle.ecma_kind.specs.declared.shapes.Sort.{Sort}
use Rattle.ecma_kind.specs.declared.span.Span.{Span}
use Rattle.ecma_tree.specs.declared.node.Node.{Node, out-Node}
use Rattle.ecma_tree.specs.Laws.{HaveShapes}
use Rattle.ecma_tree.specs.Sorted.{allows, is_list, many}
use Rattle.ecma_rules.specs.Children.{child_is, children_of as items_of, kind_of, of_kind}
use Rattle.ecma_fits.specs.Roles.{is_name as is_identifier}
use Rattle.ecma_scope.specs.Resolved.{is_name}
use Rattle.ecma_hygiene.specs.declared.spot.Standing.{Standing}
use Rattle.ecma_hygiene.specs.Renamed.{Texts, kind_with_text, standing_in}
use Rattle.ecma_hygiene_scopes.proofs.Growing.{OldName, grown}
use Rattle.ecma_hygiene_fits.proofs.Becoming.{all_become, become, become-out, children_become, children_stay, children_unchanged, grown_same, is_changed, is_touched, old_of, own_kind}
use Rattle.ecma_hygiene_fits.proofs.Everywhere.{children_of}
use Rattle.ecma_hygiene_fits.proofs.Walk.{shape_parts}

-- says nothing of identifiers, and of properties
pub record Nameless (is : Kind → Bool) : Type 0 where
  pub names : (sym : List ℕ) (ctxt : ℕ) (optional : Bool) → is (kind.Ident sym ctxt optional) ≡ false
  pub property : is kind.KeyValueProp ≡ false
  pub shorthand : is kind.AssignPatProp ≡ false
  pub pattern : is kind.KeyValuePatProp ≡ false

module _ (is : Kind → Bool) (nameless : Nameless is) where
  name_like : (k : Kind) → is_identifier k ≡ true → is kind.KeyValueProp ≡ is k
  name_like (kind.Ident text ctxt optional) e = nameless.property ∙ sym (nameless.names text ctxt optional)
  name_like _ e = absurd (false≢true e)

  grown_like : (o : Option OldName) (span : Span) (k : Kind) (cs : List Node) → is (kind_of (grown o span k cs)) ≡ is k
  grown_like o span k cs = grown_same is (nameless.pattern ∙ sym nameless.shorthand) o span k cs (name_like k)

  text_like : (texts : Texts) (named : Bool) (k : Kind) → is (kind_with_text texts named k) ≡ is k
  text_like texts true k = refl
  text_like texts false (kind.Ident text ctxt optional) = nameless.names _ ctxt optional ∙ sym (nameless.names text ctxt optional)
  text_like texts false _ = refl

  module _ (texts : Texts) where
    pub kind_like : (n : Node) (stands : Standing) → is (kind_of (become texts n stands)) ≡ is (kind_of n)
    kind_like n stands =
        ap (λ m. is (kind_of m)) (become-out texts n stands) ∙ grown_like (old_of texts n stands) (out-Node n).span (own_kind texts n stands) (children_become texts n stands)
        ∙ text_like texts (is_name stands.role) (kind_of n)

    at_like : (stands : ℕ → Standing) (j : ℕ) (cs : List Node) (i : ℕ) → of_kind is (slice_get (all_become texts stands j cs) i) ≡ of_kind is (slice_get cs i)
    at_like stands j [] i = refl
    at_like stands j (c ∷ cs) zero = kind_like c (stands j)
    at_like stands j (c ∷ cs) (suc i) = at_like stands (suc j) cs i

    pub child_like : (n : Node) (stands : Standing) → is_changed (kind_of n) ≡ false → (i : ℕ) → child_is is (become texts n stands) i ≡ child_is is n i
    child_like n stands u i = ap (λ (z : List Node). of_kind is (slice_get z i)) (children_unchanged texts n stands u) ∙ at_like (standing_in stands n) 0 (children_of n) i

    pub all_like : (stands : ℕ → Standing) (j : ℕ) (cs : List Node) → list_all (λ c. is (kind_of c)) (all_become texts stands j cs) ≡ list_all (λ c. is (kind_of c)) cs
    all_like stands j [] = refl
    all_like stands j (c ∷ cs) = ap₂ (λ a b. a && b) (kind_like c (stands j)) (all_like stands (suc j) cs)

pub length_same : (texts : Texts) (stands : ℕ → Standing) (j : ℕ) (cs : List Node) → length (all_become texts stands j cs) ≡ length cs
length_same texts stands j [] = refl
length_same texts stands j (c ∷ cs) = ap suc (length_same texts stands (suc j) cs)

pub list_untouched : (k : Kind) → is_list k ≡ true → is_touched k ≡ false
unfolding is_touched
list_untouched kind.List l = refl
list_untouched _ l = cc

pub some_same : {X : Type 0} {x y : X} → Some x ≡ Some y → x ≡ y
some_same e = cc

-- what relates the items of a list to what they become
module _ (texts : Texts) (P : List Node → List Node → Type 0) (empty : P [] []) (related : (stands : ℕ → Standing) (cs : List Node) → P (all_become texts stands 0 cs) cs) where
  pub items_related : (os : List Shape) (cs : List Node) → HaveShapes os cs → (i : ℕ) (σ : Sort) → slice_get os i ≡ Some (many σ) → (stands : ℕ → Standing) (j : ℕ)
      → P (items_of (slice_get (all_become texts stands j cs) i)) (items_of (slice_get cs i))
  items_related os [] has i σ at stands j = empty
  items_related [] (c ∷ cs) has i σ at stands j = absurd has
  items_related (o ∷ os) (c ∷ cs) has zero σ at stands j =
      let l : is_list (kind_of c) ≡ true = subst (λ z. allows z (kind_of c) ≡ true) (some_same at) (shape_parts c o has.0).0 in
      subst (λ z. P z (children_of c)) (sym (children_stay texts c (stands j) (list_untouched (kind_of c) l))) (related (standing_in (stands j) c) (children_of c))
  items_related (o ∷ os) (c ∷ cs) has (suc i) σ at stands j = items_related os cs has.1 i σ at stands (suc j)

-- what is said of them
module _ (texts : Texts) (X : Type 0) (said : List Node → X) (same : (stands : ℕ → Standing) (cs : List Node) → said (all_become texts stands 0 cs) ≡ said cs) where
  pub items_same : (os : List Shape) (cs : List Node) → HaveShapes os cs → (i : ℕ) (σ : Sort) → slice_get os i ≡ Some (many σ) → (stands : ℕ → Standing) (j : ℕ)
      → said (items_of (slice_get (all_become texts stands j cs) i)) ≡ said (items_of (slice_get cs i))
  items_same = items_related texts (λ ds cs. said ds ≡ said cs) refl same
