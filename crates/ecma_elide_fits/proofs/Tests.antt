-- What the grammar asks of a node is the same of what is left of it; of imports and exports it is no more.
use Rattle.std.proofs.Common.{◌≡◌, ◌∙◌, ℕ, suc, Bool, true, false, not, cond, ◌+◌, ◌&&◌, ◌||◌, ◌==◌, List, [], ◌∷◌, filter, length, Some, refl, sym, ap, ap₂, nat_lt, slice_get}
use Rattle.std.specs.List.{list_all}
use Rattle.ecma_kind.specs.declared.kind.Kind.{Kind}
use Rattle.ecma_kind.specs.declared.kind.Kind.TheVariants as kind
use Rattle.ecma_kind.specs.declared.operators.MethodKind.{MethodKind}
use Rattle.ecma_kind.specs.declared.span.Span.{Span}
use Rattle.ecma_tree.specs.Sorted.{is_list}
use Rattle.ecma_tree.specs.declared.node.Node.{Node}
use Rattle.ecma_rules.specs.Children.{child_holds, child_is, has_child, items_at, kind_of}
use Rattle.ecma_rules.specs.Members.{is_constructor_key, is_special_function, is_method}
use Rattle.ecma_rules.specs.Targets.{is_key_value, is_simple_target, simple_step}
use Rattle.ecma_fits.specs.Branches.{is_choice, is_dangling, takes_else, takes_else_step}
use Rattle.ecma_fits.specs.Chains.{goes_on, goes_on_step, is_behind_chain, is_loose, is_loose_by}
use Rattle.ecma_fits.specs.Counts.{are, are_exports, are_imports, are_stars_or_names, ends_once, ends_template, has_attributes_at, holds_attributes, is_attribute, is_attribute_key, is_default_import, is_empty, is_full_by, is_named_export, is_named_import, is_short, is_star_export, is_star_import, is_star_of, is_text, is_whole_template}
use Rattle.ecma_fits.specs.Members.{is_misread, is_misread_by, is_special_accessor}
use Rattle.ecma_elide_fits.specs.Dropping.{Dropping, loses_in}
use Rattle.ecma_elide_fits.proofs.Dropped.{Same, Whole, all_same, below, by_kind, child_same, count_to, each, each_length, fold_same, has_same, holds_by, holds_kept, holds_same, items_hold, items_same, kind_same, kind_to, loses_at, seats_at, stay_whole, to, whole}

-- ---- fewer items

both : (a b : Bool) → (a && b) ≡ true → (a ≡ true) × (b ≡ true)
both true b h = (refl, h)
both false b h = cc

either : (a b c : Bool) → (a ≡ true → c ≡ true) → (b ≡ true → c ≡ true) → (a || b) ≡ true → c ≡ true
either true b c f g h = f refl
either false b c f g h = g h

left_true : (a b : Bool) → a ≡ true → (a || b) ≡ true
left_true true b h = refl
left_true false b h = cc

right_true : (a b : Bool) → b ≡ true → (a || b) ≡ true
right_true true b h = refl
right_true false b h = h

and_true : (a b : Bool) → a ≡ true → b ≡ true → (a && b) ≡ true
and_true true b h g = g
and_true false b h g = cc

fewer_all : (test : Node → Bool) (stays : Node → Bool) (ns : List Node) → list_all test ns ≡ true → list_all test (filter stays ns) ≡ true
fewer_all test stays [] h = refl
fewer_all test stays (n ∷ ns) h = let v = both (test n) (list_all test ns) h in by (stays n) v.0 (fewer_all test stays ns v.1)
  where
    by : (b : Bool) → test n ≡ true → list_all test (filter stays ns) ≡ true → list_all test (cond b (n ∷ filter stays ns) (filter stays ns)) ≡ true
    by true here rest = and_true (test n) (list_all test (filter stays ns)) here rest
    by false here rest = rest

names_few : (ns : List Node) → are is_named_import ns ≡ true → are_stars_or_names ns ≡ true
names_few [] h = refl
names_few (n ∷ []) h = right_true (is_star_import (kind_of n)) (is_named_import (kind_of n)) (both (is_named_import (kind_of n)) true h).0
names_few (n ∷ m ∷ ns) h = h

fewer_stars : (stays : Node → Bool) (ns : List Node) → are_stars_or_names ns ≡ true → are_stars_or_names (filter stays ns) ≡ true
fewer_stars stays [] h = refl
fewer_stars stays (n ∷ []) h = by (stays n)
  where
    by : (b : Bool) → are_stars_or_names (cond b (n ∷ []) []) ≡ true
    by true = h
    by false = refl
fewer_stars stays (n ∷ m ∷ ns) h = names_few (filter stays (n ∷ m ∷ ns)) (fewer_all (λ x. is_named_import (kind_of x)) stays (n ∷ m ∷ ns) h)

stars_import : (ns : List Node) → are_stars_or_names ns ≡ true → are_imports ns ≡ true
stars_import [] h = refl
stars_import (n ∷ ns) h = left_true (are_stars_or_names (n ∷ ns)) (is_default_import (kind_of n) && are_stars_or_names ns) h

fewer_imports : (stays : Node → Bool) (ns : List Node) → are_imports ns ≡ true → are_imports (filter stays ns) ≡ true
fewer_imports stays [] h = refl
fewer_imports stays (n ∷ ns) h =
    either (are_stars_or_names (n ∷ ns)) (is_default_import (kind_of n) && are_stars_or_names ns) (are_imports (filter stays (n ∷ ns)))
    (λ stars. stars_import (filter stays (n ∷ ns)) (fewer_stars stays (n ∷ ns) stars))
    (λ default. by (stays n) (both (is_default_import (kind_of n)) (are_stars_or_names ns) default)) h
  where
    by : (b : Bool) → (is_default_import (kind_of n) ≡ true) × (are_stars_or_names ns ≡ true) → are_imports (cond b (n ∷ filter stays ns) (filter stays ns)) ≡ true
    by true v =
        right_true (are_stars_or_names (n ∷ filter stays ns)) (is_default_import (kind_of n) && are_stars_or_names (filter stays ns))
        (and_true (is_default_import (kind_of n)) (are_stars_or_names (filter stays ns)) v.0 (fewer_stars stays ns v.1))
    by false v = stars_import (filter stays ns) (fewer_stars stays ns v.1)

-- names, or one `* as a`
abbrev are_names_or_star : Bool → List Node → Bool
are_names_or_star has_source ns = are is_named_export ns || is_star_of has_source ns

names_or_none : (has_source : Bool) (ns : List Node) → are is_named_export ns ≡ true → are_names_or_star has_source ns ≡ true
names_or_none has_source ns = left_true (are is_named_export ns) (is_star_of has_source ns)

fewer_star : (has_source : Bool) (stays : Node → Bool) (ns : List Node) → is_star_of has_source ns ≡ true → are_names_or_star has_source (filter stays ns) ≡ true
fewer_star has_source stays [] h = cc
fewer_star has_source stays (n ∷ []) h = by (stays n)
  where
    by : (b : Bool) → are_names_or_star has_source (cond b (n ∷ []) []) ≡ true
    by true = right_true (are is_named_export (n ∷ [])) (is_star_of has_source (n ∷ [])) h
    by false = refl
fewer_star has_source stays (n ∷ m ∷ ns) h = cc

fewer_names : (has_source : Bool) (stays : Node → Bool) (ns : List Node) → are_names_or_star has_source ns ≡ true → are_names_or_star has_source (filter stays ns) ≡ true
fewer_names has_source stays ns h =
    either (are is_named_export ns) (is_star_of has_source ns) (are_names_or_star has_source (filter stays ns))
    (λ names. names_or_none has_source (filter stays ns) (fewer_all (λ x. is_named_export (kind_of x)) stays ns names))
    (λ star. fewer_star has_source stays ns star) h

module _ {S : Type 0} (d : Dropping S) where
  -- ---- lists of nodes that are the same

  ends_same : (f : ℕ → Bool) (g : ℕ → S) (ns : List Node) → ends_once (each d f g ns) ≡ ends_once ns
  ends_same f g [] = refl
  ends_same f g (n ∷ []) = kind_same d ends_template (f 0) (g 0) n
  ends_same f g (n ∷ m ∷ ns) = ap₂ (λ a b. not a && b) (kind_same d ends_template (f 0) (g 0) n) (ends_same (λ i. f (suc i)) (λ i. g (suc i)) (m ∷ ns))

  empty_same : (f : ℕ → Bool) (g : ℕ → S) (ns : List Node) → is_empty (each d f g ns) ≡ is_empty ns
  empty_same f g [] = refl
  empty_same f g (n ∷ ns) = refl

  are_same : (is : Kind → Bool) (f : ℕ → Bool) (g : ℕ → S) (ns : List Node) → are is (each d f g ns) ≡ are is ns
  are_same is = all_same d (λ n. is (kind_of n)) (kind_same d is)

  stars_same : (f : ℕ → Bool) (g : ℕ → S) (ns : List Node) → are_stars_or_names (each d f g ns) ≡ are_stars_or_names ns
  stars_same f g [] = refl
  stars_same f g (n ∷ []) = ap₂ (λ a b. a || b) (kind_same d is_star_import (f 0) (g 0) n) (kind_same d is_named_import (f 0) (g 0) n)
  stars_same f g (n ∷ m ∷ ns) = are_same is_named_import f g (n ∷ m ∷ ns)

  imports_same : (f : ℕ → Bool) (g : ℕ → S) (ns : List Node) → are_imports (each d f g ns) ≡ are_imports ns
  imports_same f g [] = refl
  imports_same f g (n ∷ ns) =
      ap₂ (λ a b. a || b) (stars_same f g (n ∷ ns)) (ap₂ (λ a b. a && b) (kind_same d is_default_import (f 0) (g 0) n) (stars_same (λ i. f (suc i)) (λ i. g (suc i)) ns))

  star_same : (has_source : Bool) (f : ℕ → Bool) (g : ℕ → S) (ns : List Node) → is_star_of has_source (each d f g ns) ≡ is_star_of has_source ns
  star_same has_source f g [] = refl
  star_same has_source f g (n ∷ []) = ap (λ a. has_source && a) (kind_same d is_star_export (f 0) (g 0) n)
  star_same has_source f g (n ∷ m ∷ ns) = refl

  names_same : (has_source : Bool) (f : ℕ → Bool) (g : ℕ → S) (ns : List Node) → are_names_or_star has_source (each d f g ns) ≡ are_names_or_star has_source ns
  names_same has_source f g ns = ap₂ (λ a b. a || b) (are_same is_named_export f g ns) (star_same has_source f g ns)

  -- ---- counts

  attribute_same : Same d is_attribute
  attribute_same = by_kind d (λ k n. is_key_value k && (child_is is_attribute_key n 0 && child_is is_text n 1)) by
    where
      by : (k : Kind) (loses : Bool) (s : S) (n : Node) → kind_of n ≡ k
          → (is_key_value k && (child_is is_attribute_key (to d loses s n) 0 && child_is is_text (to d loses s n) 1)) ≡ (is_key_value k && (child_is is_attribute_key n 0 && child_is is_text n 1))
      by kind.KeyValueProp loses s n e =
          let w = whole d loses n kind.KeyValueProp e refl in
          ap₂ (λ a b. a && b) (child_same d is_attribute_key loses s n 0 w) (child_same d is_text loses s n 1 w)
      by _ loses s n e = refl

  attributes_kept : (s : S) (n : Node) → holds_attributes n ≡ true → holds_attributes (to d false s n) ≡ true
  attributes_kept s n = items_hold d (list_all is_attribute) (all_same d is_attribute attribute_same) (fewer_all is_attribute) false s n 0 refl

  attributes_at_kept : (i : ℕ) (loses : Bool) (s : S) (n : Node) → Whole d loses n → loses_at d loses n i ≡ false → has_attributes_at i n ≡ true → has_attributes_at i (to d loses s n) ≡ true
  attributes_at_kept i loses s n w closed =
      holds_kept d holds_attributes loses s n i w (λ c at h. ap (λ o. holds_attributes (to d o (seats_at d s n i) c)) closed ∙ attributes_kept (seats_at d s n i) c h)

  -- the child at an index of a node of a kind may not lose any item
  pub closed : (loses : Bool) (n : Node) (i : ℕ) (k : Kind) → kind_of n ≡ k → loses_in loses k i ≡ false → loses_at d loses n i ≡ false
  closed loses n i k e none = ap (λ z. loses_in loses z i) e ∙ none

  full_kept : (k : Kind) (loses : Bool) (s : S) (n : Node) → kind_of n ≡ k → is_full_by k n ≡ true → is_full_by k (to d loses s n) ≡ true
  unfolding is_full_by
  full_kept kind.Tpl loses s n e h =
      let w = whole d loses n kind.Tpl e refl in
      let expressions = items_same d length (each_length d) loses s n 0 w (closed loses n 0 kind.Tpl e refl) in
      let count = items_same d length (each_length d) loses s n 1 w (closed loses n 1 kind.Tpl e refl) in
      let ends = items_same d ends_once ends_same loses s n 1 w (closed loses n 1 kind.Tpl e refl) in
      ap₂ (λ a b. a && b) (ap₂ (λ a b. a == b + 1) count expressions) ends ∙ h
  full_kept kind.SeqExpr loses s n e h = ap (nat_lt 1) (count_to d loses s n ∙ ap length (stay_whole d loses s n (whole d loses n kind.SeqExpr e refl))) ∙ h
  full_kept (kind.YieldExpr delegate) loses s n e h = ap (λ a. a || not delegate) (has_same d loses s n 0 (whole d loses n (kind.YieldExpr delegate) e refl)) ∙ h
  full_kept kind.TryStmt loses s n e h =
      let w = whole d loses n kind.TryStmt e refl in
      ap₂ (λ a b. a || b) (has_same d loses s n 1 w) (has_same d loses s n 2 w) ∙ h
  full_kept (kind.VarDecl k declare) loses s n e h =
      ap not (items_same d is_empty empty_same loses s n 0 (whole d loses n (kind.VarDecl k declare) e refl) (closed loses n 0 (kind.VarDecl k declare) e refl)) ∙ h
  full_kept (kind.ImportDecl type_only) loses s n e h =
      let k = kind.ImportDecl type_only in
      let w = whole d loses n k e refl in
      let v = both (are_imports (items_at n 0)) (has_attributes_at 2 n) h in
      and_true (are_imports (items_at (to d loses s n) 0)) (has_attributes_at 2 (to d loses s n))
      (items_hold d are_imports imports_same fewer_imports loses s n 0 w v.0) (attributes_at_kept 2 loses s n w (closed loses n 2 k e refl) v.1)
  full_kept (kind.NamedExport type_only) loses s n e h =
      let k = kind.NamedExport type_only in
      let w = whole d loses n k e refl in
      let v = both (are_exports (has_child n 1) (has_child n 2) (items_at n 0)) (has_attributes_at 2 n) h in
      let u = both (are_names_or_star (has_child n 1) (items_at n 0)) (has_child n 1 || not (has_child n 2)) v.0 in
      and_true (are_exports (has_child (to d loses s n) 1) (has_child (to d loses s n) 2) (items_at (to d loses s n) 0)) (has_attributes_at 2 (to d loses s n))
      (ap₂ (λ a b. are_exports a b (items_at (to d loses s n) 0)) (has_same d loses s n 1 w) (has_same d loses s n 2 w)
      ∙ and_true (are_names_or_star (has_child n 1) (items_at (to d loses s n) 0)) (has_child n 1 || not (has_child n 2))
      (items_hold d (are_names_or_star (has_child n 1)) (names_same (has_child n 1)) (fewer_names (has_child n 1)) loses s n 0 w u.0) u.1)
      (attributes_at_kept 2 loses s n w (closed loses n 2 k e refl) v.1)
  full_kept (kind.ExportAll type_only) loses s n e h =
      attributes_at_kept 1 loses s n (whole d loses n (kind.ExportAll type_only) e refl) (closed loses n 1 (kind.ExportAll type_only) e refl) h
  full_kept _ loses s n e h = h

  unshort : (b : Bool) → not b ≡ false → b ≡ true
  unshort true h = refl
  unshort false h = cc

  pub short_kept : (loses : Bool) (s : S) (n : Node) → is_short n ≡ false → is_short (to d loses s n) ≡ false
  short_kept loses s n h =
      ap (λ k. not (is_full_by k (to d loses s n))) (kind_to d loses s n) ∙ ap not (full_kept (kind_of n) loses s n refl (unshort (is_full_by (kind_of n) n) h))

  -- ---- branches

  blind_else : (span : Span) (k : Kind) (cs ds : List Bool) → is_list k ≡ true
      → takes_else_step (record { span = span; kind = k; children = cs }) ≡ takes_else_step (record { span = span; kind = k; children = ds })
  blind_else span kind.List cs ds l = refl
  blind_else span _ cs ds l = cc

  else_same : Same d takes_else
  else_same = fold_same d takes_else_step blind_else

  dangling_by : (k : Kind) (loses : Bool) (s : S) (n : Node) → kind_of n ≡ k
      → (is_choice k && (has_child (to d loses s n) 2 && child_holds takes_else (to d loses s n) 1)) ≡ (is_choice k && (has_child n 2 && child_holds takes_else n 1))
  dangling_by kind.IfStmt loses s n e =
      let w = whole d loses n kind.IfStmt e refl in
      ap₂ (λ a b. a && b) (has_same d loses s n 2 w) (holds_same d takes_else else_same loses s n 1 w)
  dangling_by _ loses s n e = refl

  pub dangling_same : Same d is_dangling
  dangling_same = by_kind d (λ k n. is_choice k && (has_child n 2 && child_holds takes_else n 1)) dangling_by

  -- ---- chains

  blind_chain : (span : Span) (k : Kind) (cs ds : List Bool) → is_list k ≡ true
      → goes_on_step (record { span = span; kind = k; children = cs }) ≡ goes_on_step (record { span = span; kind = k; children = ds })
  blind_chain span kind.List cs ds l = refl
  blind_chain span _ cs ds l = cc

  goes_on_same : Same d goes_on
  goes_on_same = fold_same d goes_on_step blind_chain

  behind_same : (s : S) (n : Node) → is_behind_chain (to d false s n) ≡ is_behind_chain n
  behind_same s n = holds_same d goes_on goes_on_same false s n 0 refl

  loose_by : (k : Kind) (loses : Bool) (s : S) (n : Node) → kind_of n ≡ k → is_loose_by k (to d loses s n) ≡ is_loose_by k n
  loose_by (kind.OptChainExpr optional) loses s n e =
      let k = kind.OptChainExpr optional in
      ap (λ a. not optional && not a)
      (holds_by d is_behind_chain loses s n 0 (whole d loses n k e refl)
      (λ c at. ap (λ o. is_behind_chain (to d o (seats_at d s n 0) c)) (closed loses n 0 k e refl) ∙ behind_same (seats_at d s n 0) c))
  loose_by _ loses s n e = refl

  pub loose_same : Same d is_loose
  loose_same = by_kind d is_loose_by loose_by

  -- ---- members

  accessor_same : (k : MethodKind) (loses : Bool) (s : S) (n : Node) → Whole d loses n → is_special_accessor k (to d loses s n) ≡ is_special_accessor k n
  accessor_same k loses s n w = ap (λ a. not (is_method k) && a) (child_same d is_special_function loses s n 1 w)

  misread_by : (k : Kind) (loses : Bool) (s : S) (n : Node) → kind_of n ≡ k → is_misread_by k (to d loses s n) ≡ is_misread_by k n
  unfolding is_misread_by
  misread_by (kind.Constructor accessibility is_optional) loses s n e =
      ap not (child_same d is_constructor_key loses s n 0 (whole d loses n (kind.Constructor accessibility is_optional) e refl))
  misread_by (kind.ClassMethod k modifiers) loses s n e =
      let w = whole d loses n (kind.ClassMethod k modifiers) e refl in
      ap₂ (λ a b. a || (not modifiers.is_static && b)) (accessor_same k loses s n w) (child_same d is_constructor_key loses s n 0 w)
  misread_by (kind.PrivateMethod k modifiers) loses s n e = accessor_same k loses s n (whole d loses n (kind.PrivateMethod k modifiers) e refl)
  misread_by _ loses s n e = refl

  pub misread_same : Same d is_misread
  misread_same = by_kind d is_misread_by misread_by

  -- ---- simple targets

  blind_target : (span : Span) (k : Kind) (cs ds : List Bool) → is_list k ≡ true
      → simple_step (record { span = span; kind = k; children = cs }) ≡ simple_step (record { span = span; kind = k; children = ds })
  blind_target span kind.List cs ds l = refl
  blind_target span _ cs ds l = cc

  pub simple_same : Same d is_simple_target
  simple_same = fold_same d simple_step blind_target
