-- What stays in a list of what is left of a tree stayed there before: a node is no more a value than it was.
use Rattle.std.proofs.Common.{◌≡◌, ◌∙◌, ℕ, zero, suc, Bool, true, false, ◌&&◌, ◌||◌, not, cond, List, [], ◌∷◌, map, Option, Some, None, refl, sym, ap, slice_get}
use Rattle.std.specs.List.{list_any}
use Rattle.std.proofs.lemmas.Bool.{and_from, and_parts}
use Rattle.ecma_kind.specs.Sorts.{belongs}
use Rattle.ecma_kind.specs.declared.kind.Kind.{Kind}
use Rattle.ecma_kind.specs.declared.kind.Kind.TheVariants as kind
use Rattle.ecma_kind.specs.declared.shapes.Sort.TheVariants as sort
use Rattle.ecma_tree.specs.Sorted.{is_list}
use Rattle.ecma_tree.specs.Values.{is_value, is_value_where, value_at, value_at_where, value_by}
use Rattle.ecma_tree.specs.declared.node.Node.{Node}
use Rattle.ecma_tree.proofs.Valuing.{is_value_where-out, value_at-none, value_at-some, value_where_by}
use Rattle.ecma_rules.specs.Children.{holds_of, kind_of}
use Rattle.ecma_strip.specs.Staying.{if_there, is_ambient, is_declared, is_empty_stmt, is_export, is_this, is_this_by, is_this_ident, is_this_param, is_this_param_by, item_stays, member_stays, member_stays_by, specifier_stays, stays}
use Rattle.ecma_elide_fits.specs.Dropping.{Dropping}
use Rattle.ecma_elide_fits.proofs.Dropped.{below, induct, loses_at}
use Rattle.ecma_elide_sources.proofs.Thin.{Both, Thin, bare, both_at, child_before, closed_other, thin_kind, thin_same}

-- ---- values in lists

abbrev HoldsIn : (Node → Bool) → List Node → Type 0
HoldsIn test ns = (j : ℕ) × (c : Node) × (slice_get ns j ≡ Some c) × (test c ≡ true)

any_at : (test : Node → Bool) (ns : List Node) → list_any (λ b. b) (map test ns) ≡ true → HoldsIn test ns
any_at test [] h = cc
any_at test (n ∷ ns) h = by (test n) refl (any_at test ns) h
  where
    by : (b : Bool) → test n ≡ b → (list_any (λ x. x) (map test ns) ≡ true → HoldsIn test ns) → (b || list_any (λ x. x) (map test ns)) ≡ true → HoldsIn test (n ∷ ns)
    by true e rest g = (0, n, refl, e)
    by false e rest g = let m = rest g in (suc m.0, m.1, m.2, m.3)

right_true : (a b : Bool) → b ≡ true → (a || b) ≡ true
right_true true b h = refl
right_true false b h = h

at_any : (test : Node → Bool) (ns : List Node) (i : ℕ) (c : Node) → slice_get ns i ≡ Some c → test c ≡ true → list_any (λ b. b) (map test ns) ≡ true
at_any test [] i c at h = cc
at_any test (n ∷ ns) zero c at h = let same : n ≡ c = cc in ap (λ b. b || list_any (λ x. x) (map test ns)) (ap test same ∙ h)
at_any test (n ∷ ns) (suc i) c at h = right_true (test n) (list_any (λ b. b) (map test ns)) (at_any test ns i c at h)

-- a child is a value where it is there and one
value_there : (stays : Bool) (n : Node) (i : ℕ) → value_at_where stays i n ≡ holds_of (is_value_where stays) (slice_get (below n) i)
value_there stays n i = by (slice_get (below n) i) refl
  where
    by : (o : Option Node) → slice_get (below n) i ≡ o → value_at_where stays i n ≡ holds_of (is_value_where stays) o
    by None e = value_at-none stays n i e
    by (Some c) e = value_at-some stays n i c e

either : (a b c : Bool) → (b ≡ true → c ≡ true) → (a || b) ≡ true → (a || c) ≡ true
either true b c more h = refl
either false b c more h = more h

module _ {S : Type 0} (d : Dropping S) where
  -- ---- values

  abbrev ValueKept : Node → Type 0
  ValueKept b = (a : Node) → Thin d a b → (stays : Bool) → is_value_where stays a ≡ true → is_value_where stays b ≡ true

  abbrev AllKept : Node → Type 0
  AllKept b = (i : ℕ) (c : Node) → slice_get (below b) i ≡ Some c → ValueKept c

  both_kept : (stays o : Bool) (p q : Option Node) → Both d o p q → ((c : Node) → q ≡ Some c → ValueKept c) → holds_of (is_value_where stays) p ≡ true → holds_of (is_value_where stays) q ≡ true
  both_kept stays o None None u kept h = h
  both_kept stays o None (Some b) u kept h = absurd u
  both_kept stays o (Some a) None u kept h = absurd u
  both_kept stays o (Some a) (Some b) u kept h = kept b refl a u.thin stays h

  at_kept : (a b : Node) → AllKept b → Thin d a b → is_list (kind_of b) ≡ false → (stays : Bool) (i : ℕ) → value_at_where stays i a ≡ true → value_at_where stays i b ≡ true
  at_kept a b kept t l stays i h =
      value_there stays b i
      ∙ both_kept stays (loses_at d t.loses t.before i) (slice_get (below a) i) (slice_get (below b) i) (both_at d a b t (closed_other d a b t l) i) (kept i) (sym (value_there stays a i) ∙ h)

  any_kept : (a b : Node) → AllKept b → Thin d a b → (stays : Bool) → list_any (λ v. v) (map (is_value_where stays) (below a)) ≡ true → list_any (λ v. v) (map (is_value_where stays) (below b)) ≡ true
  any_kept a b kept t stays h =
      let m = any_at (is_value_where stays) (below a) h in
      let u = child_before d a b t m.0 m.1 m.2 in
      at_any (is_value_where stays) (below b) u.0 u.1 u.2 (kept u.0 u.1 u.2 m.1 u.3 stays m.3)

  kept_by : (k : Kind) (a b : Node) → kind_of b ≡ k → AllKept b → Thin d a b → (stays : Bool) → value_where_by stays (bare k) (below a) ≡ true → value_where_by stays k (below b) ≡ true
  unfolding value_by
  kept_by kind.ExportDecl a b e kept t stays h = at_kept a b kept t (ap is_list e) stays 0 h
  kept_by kind.ExportDefaultDecl a b e kept t stays h = at_kept a b kept t (ap is_list e) stays 0 h
  kept_by (kind.FnDecl declare) a b e kept t stays h = at_kept a b kept t (ap is_list e) (not declare && stays) 1 h
  kept_by kind.FnExpr a b e kept t stays h = at_kept a b kept t (ap is_list e) stays 1 h
  kept_by (kind.Function is_generator is_async) a b e kept t stays h =
      either (not stays) (value_at_where stays 1 a) (value_at_where stays 1 b) (at_kept a b kept t (ap is_list e) stays 1) h
  kept_by (kind.TsModuleDecl declare global) a b e kept t stays h = at_kept a b kept t (ap is_list e) (not declare && stays) 1 h
  kept_by (kind.TsNamespaceDecl declare global) a b e kept t stays h = at_kept a b kept t (ap is_list e) (not declare && stays) 1 h
  kept_by kind.TsModuleBlock a b e kept t stays h = at_kept a b kept t (ap is_list e) stays 0 h
  kept_by kind.List a b e kept t stays h = any_kept a b kept t stays h
  kept_by _ a b e kept t stays h = h

  node_kept : (b : Node) → AllKept b → ValueKept b
  node_kept b kept a t stays h =
      is_value_where-out stays b ∙ kept_by (kind_of b) a b refl kept t stays (sym (ap (λ k. value_where_by stays k (below a)) (thin_kind d a b t)) ∙ (sym (is_value_where-out stays a) ∙ h))

  value_kept : (b : Node) → ValueKept b
  value_kept = induct ValueKept node_kept

  value_at_kept : (i : ℕ) (a b : Node) → Thin d a b → is_list (kind_of b) ≡ false → value_at i a ≡ true → value_at i b ≡ true
  value_at_kept i a b t l h = at_kept a b (λ j c at. value_kept c) t l true i h

  -- ---- items, members and specifiers

  both_first : (test : Node → Bool) (o : Bool) (p q : Option Node) → Both d o p q → ((a b : Node) → Thin d a b → test a ≡ test b) → if_there p test ≡ if_there q test
  both_first test o None None u same = refl
  both_first test o None (Some b) u same = absurd u
  both_first test o (Some a) None u same = absurd u
  both_first test o (Some a) (Some b) u same = same a b u.thin

  first_same : (test : Node → Bool) → ((a b : Node) → Thin d a b → test a ≡ test b) → (a b : Node) → Thin d a b → is_list (kind_of b) ≡ false
      → if_there (slice_get (below a) 0) test ≡ if_there (slice_get (below b) 0) test
  first_same test same a b t l = both_first test (loses_at d t.loses t.before 0) (slice_get (below a) 0) (slice_get (below b) 0) (both_at d a b t (closed_other d a b t l) 0) same

  declared_same : (a b : Node) → Thin d a b → is_declared (kind_of a) ≡ is_declared (kind_of b)
  unfolding is_declared
  declared_same = thin_same d is_declared (λ text x y optional. refl)

  ambient_by : (k : Kind) (a b : Node) → kind_of b ≡ k → Thin d a b
      → cond (is_export (bare k)) (if_there (slice_get (below a) 0) (λ x. is_declared (kind_of x))) (is_declared (bare k))
      ≡ cond (is_export k) (if_there (slice_get (below b) 0) (λ x. is_declared (kind_of x))) (is_declared k)
  unfolding is_declared
  ambient_by kind.ExportDecl a b e t = first_same (λ x. is_declared (kind_of x)) declared_same a b t (ap is_list e)
  ambient_by _ a b e t = refl

  ambient_same : (a b : Node) → Thin d a b → is_ambient a ≡ is_ambient b
  ambient_same a b t =
      ap (λ k. cond (is_export k) (if_there (slice_get (below a) 0) (λ x. is_declared (kind_of x))) (is_declared k)) (thin_kind d a b t) ∙ ambient_by (kind_of b) a b refl t

  item_by : (empty item value other ambient : Bool) → (value ≡ true → other ≡ true) → cond empty true (cond item (value && not ambient) true) ≡ true → cond empty true (cond item (other && not ambient) true) ≡ true
  item_by true item value other ambient more h = refl
  item_by false false value other ambient more h = refl
  item_by false true value other ambient more h = let v = and_parts value (not ambient) h in and_from other (not ambient) (more v.0) v.1

  item_kept : (a b : Node) → Thin d a b → item_stays a ≡ true → item_stays b ≡ true
  item_kept a b t h =
      item_by (is_empty_stmt (kind_of b)) (belongs sort.ModuleItem (kind_of b)) (is_value a) (is_value b) (is_ambient b) (value_kept b a t true)
      (sym (λ j. cond (thin_same d is_empty_stmt (λ text x y optional. refl) a b t j) true (cond (thin_same d (belongs sort.ModuleItem) (λ text x y optional. refl) a b t j) (is_value a && not (ambient_same a b t j)) true))
      ∙ h)

  with_front : (front value other : Bool) → (value ≡ true → other ≡ true) → (front && value) ≡ true → (front && other) ≡ true
  with_front true value other more h = more h
  with_front false value other more h = h

  member_by : (k : Kind) (a b : Node) → kind_of b ≡ k → Thin d a b → member_stays_by (bare k) a ≡ true → member_stays_by k b ≡ true
  unfolding member_stays_by
  member_by (kind.Constructor accessibility is_optional) a b e t h = value_at_kept 2 a b t (ap is_list e) h
  member_by (kind.ClassMethod k modifiers) a b e t h = with_front (not modifiers.is_abstract) (value_at 1 a) (value_at 1 b) (value_at_kept 1 a b t (ap is_list e)) h
  member_by (kind.PrivateMethod k modifiers) a b e t h = with_front (not modifiers.is_abstract) (value_at 1 a) (value_at 1 b) (value_at_kept 1 a b t (ap is_list e)) h
  member_by _ a b e t h = h

  member_kept : (a b : Node) → Thin d a b → member_stays a ≡ true → member_stays b ≡ true
  member_kept a b t h = member_by (kind_of b) a b refl t (sym (ap (λ k. member_stays_by k a) (thin_kind d a b t)) ∙ h)

  specifier_same : (a b : Node) → Thin d a b → specifier_stays (kind_of a) ≡ specifier_stays (kind_of b)
  unfolding specifier_stays
  specifier_same = thin_same d specifier_stays (λ text x y optional. refl)

  -- ---- names `this`

  this_by : (k : Kind) (a b : Node) → kind_of b ≡ k → Thin d a b → is_this_by (bare k) a ≡ is_this_by k b
  this_by kind.BindingIdent a b e t = first_same (λ x. is_this_ident (kind_of x)) (thin_same d is_this_ident (λ text x y optional. refl)) a b t (ap is_list e)
  this_by (kind.Ident text ctxt optional) a b e t = refl
  this_by _ a b e t = refl

  this_same : (a b : Node) → Thin d a b → is_this a ≡ is_this b
  this_same a b t = ap (λ k. is_this_by k a) (thin_kind d a b t) ∙ this_by (kind_of b) a b refl t

  param_by : (k : Kind) (a b : Node) → kind_of b ≡ k → Thin d a b → is_this_param_by (bare k) a ≡ is_this_param_by k b
  param_by kind.Param a b e t = first_same is_this this_same a b t (ap is_list e)
  param_by (kind.Ident text ctxt optional) a b e t = this_same a b t
  param_by _ a b e t = this_same a b t

  param_same : (a b : Node) → Thin d a b → is_this_param a ≡ is_this_param b
  param_same a b t = ap (λ k. is_this_param_by k a) (thin_kind d a b t) ∙ param_by (kind_of b) a b refl t

  -- ---- what stays

  pub stays_before : (a b : Node) → Thin d a b → stays a ≡ true → stays b ≡ true
  unfolding stays
  stays_before a b t h =
      let outer = and_parts (item_stays a && member_stays a && specifier_stays (kind_of a)) (not (is_this_param a)) h in
      let middle = and_parts (item_stays a && member_stays a) (specifier_stays (kind_of a)) outer.0 in
      let inner = and_parts (item_stays a) (member_stays a) middle.0 in
      and_from (item_stays b && member_stays b && specifier_stays (kind_of b)) (not (is_this_param b))
      (and_from (item_stays b && member_stays b) (specifier_stays (kind_of b))
      (and_from (item_stays b) (member_stays b) (item_kept a b t inner.0) (member_kept a b t inner.1)) (sym (specifier_same a b t) ∙ middle.1))
      (ap not (sym (param_same a b t)) ∙ outer.1)
