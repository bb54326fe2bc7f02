-- What other texts and contexts of identifiers leave of a kind.
use Rattle.std.proofs.Common.{◌≡◌, ℕ, Bool, true, false, List, None, refl, sym, ◌∙◌}
use Rattle.ecma_kind.specs.declared.kind.Kind.{Kind}
use Rattle.ecma_kind.specs.declared.kind.Kind.TheVariants as kind
use Rattle.ecma_tree.specs.declared.node.Node.{Node}
use Rattle.ecma_tree.specs.Contexts.{kind_with_context}
use Rattle.ecma_tree.specs.Sorted.{is_absent}
use Rattle.ecma_tree.specs.Values.{value_by}
use Rattle.ecma_tree.proofs.Valuing.{value_where_by}
use Rattle.ecma_scope.specs.declared.form.Part.{Part}
use Rattle.ecma_scope.specs.declared.form.Part.TheVariants as part
use Rattle.ecma_scope.specs.declared.role.Role.{Role}
use Rattle.ecma_scope.specs.Declarations.{holds_vars, in_default, in_item, in_member, in_name, in_scope, in_var, sought_by}
use Rattle.ecma_scope.specs.Scopes.{covers, opens_by, role_by}
use Rattle.ecma_hygiene.specs.Renamed.{Texts, kind_with_text}

module _ (context_of : List ℕ → ℕ → ℕ) (texts : Texts) where
  -- a kind with its text and its context
  abbrev pub turned_kind : Bool → Kind → Kind
  turned_kind named k = kind_with_context context_of (kind_with_text texts named k)

  module _ {A : Type 0} (f : Kind → A) (alike : (s t : List ℕ) (c d : ℕ) (o : Bool) → f (kind.Ident s c o) ≡ f (kind.Ident t d o)) where
    context-same : (k : Kind) → f (kind_with_context context_of k) ≡ f k
    context-same (kind.Ident s c o) = alike _ _ _ _ o
    context-same _ = refl

    text-same : (named : Bool) (k : Kind) → f (kind_with_text texts named k) ≡ f k
    text-same false (kind.Ident s c o) = alike _ _ _ _ o
    text-same false _ = refl
    text-same true k = refl

    pub kind-same : (named : Bool) (k : Kind) → f (turned_kind named k) ≡ f k
    kind-same named k = context-same (kind_with_text texts named k) ∙ text-same named k

  pub role-same : (named : Bool) (r : Role) (k : Kind) (sourced : Bool) (i : ℕ) → role_by r (turned_kind named k) sourced i ≡ role_by r k sourced i
  unfolding role_by
  role-same named r k sourced i = kind-same (λ (z : Kind). role_by r z sourced i) (λ s t c d o. refl) named k

  pub opens-same : (named : Bool) (r : Role) (k : Kind) (there : Bool) → opens_by r (turned_kind named k) there ≡ opens_by r k there
  unfolding opens_by
  opens-same named r k there = kind-same (λ (z : Kind). opens_by r z there) (λ s t c d o. refl) named k

  pub covers-same : (named : Bool) (r : Role) (k : Kind) (i : ℕ) → covers r (turned_kind named k) i ≡ covers r k i
  unfolding covers
  covers-same named r k i = kind-same (λ (z : Kind). covers r z i) (λ s t c d o. refl) named k

  pub holds-same : (named : Bool) (r : Role) (k : Kind) → holds_vars r (turned_kind named k) ≡ holds_vars r k
  unfolding holds_vars
  holds-same named r k = kind-same (λ (z : Kind). holds_vars r z) (λ s t c d o. refl) named k

  pub value-same : (stays named : Bool) (k : Kind) (children : List Node) → value_where_by stays (turned_kind named k) children ≡ value_where_by stays k children
  unfolding value_by
  value-same stays named k children = kind-same (λ (z : Kind). value_where_by stays z children) (λ s t c d o. refl) named k

  pub absent-same : (named : Bool) (k : Kind) → is_absent (turned_kind named k) ≡ is_absent k
  absent-same named k = kind-same is_absent (λ s t c d o. refl) named k

  pub ident-seeks : (p : Part) (stays value : Bool) (i : ℕ) (s : List ℕ) (c : ℕ) (o : Bool) → sought_by p stays value (kind.Ident s c o) i ≡ None
  unfolding in_name in_var in_item in_default in_scope in_member
  ident-seeks part.Scope stays value i s c o = refl
  ident-seeks _ stays value i s c o = refl

  pub seeks-same : (p : Part) (stays value : Bool) (named : Bool) (k : Kind) (i : ℕ) → sought_by p stays value (turned_kind named k) i ≡ sought_by p stays value k i
  seeks-same p stays value named k i = kind-same (λ (z : Kind). sought_by p stays value z i) (λ s t c d o. ident-seeks p stays value i s c o ∙ sym (ident-seeks p stays value i t d o)) named k
