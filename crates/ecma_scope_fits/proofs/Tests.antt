-- What the grammar asks of a node looks at no context.
use Rattle.std.proofs.Common.{◌≡◌, ◌∙◌, ℕ, Bool, not, ◌+◌, ◌&&◌, ◌||◌, ◌==◌, List, [], ◌∷◌, map, refl, ap, ap₂, nat_lt}
use Rattle.std.specs.List.{list_all}
use Rattle.std.proofs.lemmas.List.{length-map}
use Rattle.ecma_kind.specs.declared.kind.Kind.{Kind}
use Rattle.ecma_kind.specs.declared.kind.Kind.TheVariants as kind
use Rattle.ecma_kind.specs.declared.operators.MethodKind.{MethodKind}
use Rattle.ecma_tree.specs.declared.node.Node.{Node}
use Rattle.ecma_rules.specs.Children.{child_is, has_child, items_at, kind_of}
use Rattle.ecma_rules.specs.Members.{is_constructor_key, is_special_function, is_method}
use Rattle.ecma_rules.specs.Targets.{is_key_value, is_simple_target, simple_step}
use Rattle.ecma_fits.specs.Branches.{is_choice, is_dangling, takes_else, takes_else_step}
use Rattle.ecma_fits.specs.Chains.{goes_on, goes_on_step, is_behind_chain, is_loose, is_loose_by}
use Rattle.ecma_fits.specs.Counts.{are, are_exports, are_imports, are_stars_or_names, ends_once, ends_template, has_attributes_at, holds_attributes, is_attribute, is_attribute_key, is_default_import, is_empty, is_full_by, is_named_export, is_named_import, is_short, is_star_export, is_star_import, is_star_of, is_text, is_whole_template}
use Rattle.ecma_fits.specs.Members.{is_misread, is_misread_by, is_special_accessor}
use Rattle.ecma_scope_fits.proofs.Moved.{Blind, Same, all_same, blind, child_same, fold_same, has_same, holds_same, items_same, kind_same, length_same, to}

module _ (context_of : List ℕ → ℕ → ℕ) where
  -- a test by the kind of a node
  pub by_kind : (test : Kind → Node → Bool) → ((n : Node) → Blind Bool (λ k. test k n)) → ((k : Kind) (n : Node) → test k (to context_of n) ≡ test k n) → Same context_of (λ n. test (kind_of n) n)
  by_kind test b same n = kind_same context_of Bool (λ k. test k (to context_of n)) (b (to context_of n)) n ∙ same (kind_of n) n

  -- ---- counts

  ends_same : (ns : List Node) → ends_once (map (to context_of) ns) ≡ ends_once ns
  ends_same [] = refl
  ends_same (n ∷ []) = kind_same context_of Bool ends_template (λ text a b optional. refl) n
  ends_same (n ∷ m ∷ ns) = ap₂ (λ a b. not a && b) (kind_same context_of Bool ends_template (λ text a b optional. refl) n) (ends_same (m ∷ ns))

  whole_same : (es ps : List Node) → is_whole_template (map (to context_of) es) (map (to context_of) ps) ≡ is_whole_template es ps
  whole_same es ps = ap₂ (λ a b. a && b) (ap₂ (λ a b. a == b + 1) (length-map ps (to context_of)) (length-map es (to context_of))) (ends_same ps)

  empty_same : (ns : List Node) → is_empty (map (to context_of) ns) ≡ is_empty ns
  empty_same [] = refl
  empty_same (n ∷ ns) = refl

  are_same : (is : Kind → Bool) → Blind Bool is → (ns : List Node) → are is (map (to context_of) ns) ≡ are is ns
  are_same is b = all_same context_of (λ n. is (kind_of n)) (kind_same context_of Bool is b)

  is_same : (is : Kind → Bool) → Blind Bool is → (n : Node) → is (kind_of (to context_of n)) ≡ is (kind_of n)
  is_same = kind_same context_of Bool

  stars_same : (ns : List Node) → are_stars_or_names (map (to context_of) ns) ≡ are_stars_or_names ns
  stars_same [] = refl
  stars_same (n ∷ []) = ap₂ (λ a b. a || b) (is_same is_star_import (λ text a b optional. refl) n) (is_same is_named_import (λ text a b optional. refl) n)
  stars_same (n ∷ m ∷ ns) = are_same is_named_import (λ text a b optional. refl) (n ∷ m ∷ ns)

  imports_same : (ns : List Node) → are_imports (map (to context_of) ns) ≡ are_imports ns
  imports_same [] = refl
  imports_same (n ∷ ns) = ap₂ (λ a b. a || b) (stars_same (n ∷ ns)) (ap₂ (λ a b. a && b) (is_same is_default_import (λ text a b optional. refl) n) (stars_same ns))

  star_same : (has_source : Bool) (ns : List Node) → is_star_of has_source (map (to context_of) ns) ≡ is_star_of has_source ns
  star_same has_source [] = refl
  star_same has_source (n ∷ []) = ap (λ a. has_source && a) (is_same is_star_export (λ text a b optional. refl) n)
  star_same has_source (n ∷ m ∷ ns) = refl

  exports_same : (has_source has_attributes : Bool) (ns : List Node) → are_exports has_source has_attributes (map (to context_of) ns) ≡ are_exports has_source has_attributes ns
  exports_same has_source has_attributes ns =
      ap₂ (λ a b. (a || b) && (has_source || not has_attributes)) (are_same is_named_export (λ text a b optional. refl) ns) (star_same has_source ns)

  attribute_same : Same context_of is_attribute
  attribute_same n =
      ap₂ (λ a b. a && b) (is_same is_key_value (λ text a b optional. refl) n)
      (ap₂ (λ a b. a && b) (child_same context_of is_attribute_key (λ text a b optional. refl) n 0) (child_same context_of is_text (λ text a b optional. refl) n 1))

  attributes_same : Same context_of holds_attributes
  attributes_same n = ap (λ (z : List Node). list_all is_attribute z) (items_same context_of n 0) ∙ all_same context_of is_attribute attribute_same (items_at n 0)

  attributes_at_same : (i : ℕ) → Same context_of (has_attributes_at i)
  attributes_at_same i n = holds_same context_of holds_attributes attributes_same n i

  full_same : (k : Kind) (n : Node) → is_full_by k (to context_of n) ≡ is_full_by k n
  unfolding is_full_by
  full_same kind.Tpl n = ap₂ is_whole_template (items_same context_of n 0) (items_same context_of n 1) ∙ whole_same (items_at n 0) (items_at n 1)
  full_same kind.SeqExpr n = ap (nat_lt 1) (length_same context_of n)
  full_same (kind.YieldExpr delegate) n = ap (λ a. a || not delegate) (has_same context_of n 0)
  full_same kind.TryStmt n = ap₂ (λ a b. a || b) (has_same context_of n 1) (has_same context_of n 2)
  full_same (kind.VarDecl k declare) n = ap (λ (z : List Node). not (is_empty z)) (items_same context_of n 0) ∙ ap not (empty_same (items_at n 0))
  full_same (kind.ImportDecl type_only) n =
      ap₂ (λ a b. a && b) (ap are_imports (items_same context_of n 0) ∙ imports_same (items_at n 0)) (attributes_at_same 2 n)
  full_same (kind.NamedExport type_only) n =
      ap₂ (λ a b. a && b)
      (ap₂ (λ a b. are_exports a b (items_at (to context_of n) 0)) (has_same context_of n 1) (has_same context_of n 2)
      ∙ ap (are_exports (has_child n 1) (has_child n 2)) (items_same context_of n 0)
      ∙ exports_same (has_child n 1) (has_child n 2) (items_at n 0))
      (attributes_at_same 2 n)
  full_same (kind.ExportAll type_only) n = attributes_at_same 1 n
  full_same _ n = refl

  full_blind : (n : Node) → Blind Bool (λ k. is_full_by k n)
  unfolding is_full_by
  full_blind n text a b optional = refl

  pub short_same : Same context_of is_short
  short_same n = ap not (by_kind is_full_by full_blind full_same n)

  -- ---- branches

  else_same : Same context_of takes_else
  else_same = fold_same context_of takes_else_step (λ span k cs. blind context_of Bool (λ z. takes_else_step (record { span = span; kind = z; children = cs })) (λ text a b optional. refl) k)

  pub dangling_same : Same context_of is_dangling
  dangling_same n =
      ap₂ (λ a b. a && b) (is_same is_choice (λ text a b optional. refl) n) (ap₂ (λ a b. a && b) (has_same context_of n 2) (holds_same context_of takes_else else_same n 1))

  -- ---- chains

  goes_on_same : Same context_of goes_on
  goes_on_same = fold_same context_of goes_on_step (λ span k cs. blind context_of Bool (λ z. goes_on_step (record { span = span; kind = z; children = cs })) (λ text a b optional. refl) k)

  behind_same : Same context_of is_behind_chain
  behind_same n = holds_same context_of goes_on goes_on_same n 0

  loose_same : (k : Kind) (n : Node) → is_loose_by k (to context_of n) ≡ is_loose_by k n
  loose_same (kind.OptChainExpr optional) n = ap (λ a. not optional && not a) (holds_same context_of is_behind_chain behind_same n 0)
  loose_same _ n = refl

  pub chains_same : Same context_of is_loose
  chains_same = by_kind is_loose_by (λ n text a b optional. refl) loose_same

  -- ---- members

  accessor_same : (k : MethodKind) → Same context_of (is_special_accessor k)
  accessor_same k n = ap (λ a. not (is_method k) && a) (child_same context_of is_special_function (λ text a b optional. refl) n 1)

  key_same : (n : Node) → child_is is_constructor_key (to context_of n) 0 ≡ child_is is_constructor_key n 0
  key_same n = child_same context_of is_constructor_key (λ text a b optional. refl) n 0

  misread_same : (k : Kind) (n : Node) → is_misread_by k (to context_of n) ≡ is_misread_by k n
  unfolding is_misread_by
  misread_same (kind.Constructor accessibility is_optional) n = ap not (key_same n)
  misread_same (kind.ClassMethod k modifiers) n = ap₂ (λ a b. a || (not modifiers.is_static && b)) (accessor_same k n) (key_same n)
  misread_same (kind.PrivateMethod k modifiers) n = accessor_same k n
  misread_same _ n = refl

  misread_blind : (n : Node) → Blind Bool (λ k. is_misread_by k n)
  unfolding is_misread_by
  misread_blind n text a b optional = refl

  pub members_same : Same context_of is_misread
  members_same = by_kind is_misread_by misread_blind misread_same

  -- ---- simple targets

  pub simple_same : Same context_of is_simple_target
  simple_same = fold_same context_of simple_step (λ span k cs. blind context_of Bool (λ z. simple_step (record { span = span; kind = z; children = cs })) (λ text a b optional. refl) k)
