-- What an item of a module declares, the scope of the module declares.
use Rattle.std.proofs.Common.{◌≡◌, ◌⊎◌, inl, inr, refl, ap, ◌∙◌, ℕ, suc, List, [], ◌∷◌, ◌++◌, map, Option, Some, Bool, true, cond, ◌&&◌}
use Rattle.std.specs.List.{list_any}
use Rattle.std.proofs.lemmas.List.Folds.{list_any-append}
use Rattle.ecma_kind.specs.Sorts.{belongs}
use Rattle.ecma_kind.specs.declared.kind.Kind.{Kind}
use Rattle.ecma_kind.specs.declared.kind.Kind.TheVariants as kind
use Rattle.ecma_kind.specs.declared.shapes.Sort.TheVariants as sort
use Rattle.ecma_tree.specs.declared.node.Node.{Node, out-Node}
use Rattle.ecma_scope.specs.declared.role.Role.TheVariants as role
use Rattle.ecma_scope.specs.declared.form.Sought.{Sought}
use Rattle.ecma_scope.specs.Declarations.{holds_vars, sought_in}
use Rattle.ecma_hygiene.specs.Ids.{Id, has_context, innermost, is_body_block, is_own}
use Rattle.ecma_hygiene.specs.Sights.{own_scope}
use Rattle.ecma_hygiene.proofs.Telling.{or-first, or-second, true-false}
use Rattle.ecma_hygiene_scopes.specs.DeclaredIds.{DeclaredId, id_here, ids_at, ids_declared, ids_in, scope_ids}
use Rattle.ecma_hygiene_scopes.proofs.Directly.{ids-out}
use Rattle.ecma_hygiene_scopes.proofs.Membership.{is_kept, own-agrees}
use Rattle.ecma_exports_hygiene.proofs.Clear.{export-items, export-vars, list-items, list-vars, module-items, module-vars, scope_sought}
use Rattle.ecma_exports_hygiene.proofs.Items.{item_sought, var_sought}

module _ (id : Id) where
  abbrev kept : List DeclaredId → Bool
  kept ds = list_any (is_kept id) ds

  abbrev pub Kept : Sought → Node → Type 0
  Kept q n = kept (ids_declared n q) ≡ true

  first-kept : (xs ys : List DeclaredId) → kept xs ≡ true → kept (xs ++ ys) ≡ true
  first-kept xs ys h = list_any-append (is_kept id) xs ys ∙ or-first (kept xs) (kept ys) h

  second-kept : (xs ys : List DeclaredId) → kept ys ≡ true → kept (xs ++ ys) ≡ true
  second-kept xs ys h = list_any-append (is_kept id) xs ys ∙ or-second (kept xs) (kept ys) h

  at-kept : (o : Option Sought) (next : Sought) (d : Node) → o ≡ Some next → Kept next d → kept (ids_at o (ids_declared d)) ≡ true
  at-kept o next d is h = ap (λ z. kept (ids_at z (ids_declared d))) is ∙ h

  -- what its one child declares, a node does
  pub child-kept : (n d : Node) (q next : Sought) → (out-Node n).children ≡ d ∷ [] → sought_in q n 0 ≡ Some next → Kept next d → Kept q n
  child-kept n d q next are is h =
      ap kept (ids-out n q)
      ∙ second-kept (id_here q (out-Node n).kind) (ids_in (sought_in q n) 0 (map ids_declared (out-Node n).children))
      (ap (λ (cs : List Node). kept (ids_in (sought_in q n) 0 (map ids_declared cs))) are ∙ first-kept (ids_at (sought_in q n 0) (ids_declared d)) [] (at-kept (sought_in q n 0) next d is h))

  -- ---- items

  abbrev pub AllKept : Sought → List DeclaredId → List Node → Type 0
  AllKept q ds [] = Unit {0}
  AllKept q ds (c ∷ cs) = (Kept q c → kept ds ≡ true) × AllKept q ds cs

  kept-wider : (q : Sought) (ds more : List DeclaredId) (cs : List Node) → (kept ds ≡ true → kept more ≡ true) → AllKept q ds cs → AllKept q more cs
  kept-wider q ds more [] f all = tt
  kept-wider q ds more (c ∷ cs) f all = ((λ h. f (all.0 h)), kept-wider q ds more cs f all.1)

  items-kept : (q : Sought) (into : ℕ → Option Sought) (i : ℕ) (cs : List Node) → ((j : ℕ) → into j ≡ Some q) → AllKept q (ids_in into i (map ids_declared cs)) cs
  items-kept q into i [] is = tt
  items-kept q into i (c ∷ cs) is =
      let first = ids_at (into i) (ids_declared c) in
      let rest = ids_in into (suc i) (map ids_declared cs) in
      ((λ h. first-kept first rest (at-kept (into i) q c (is i) h)), kept-wider q rest (first ++ rest) cs (second-kept first rest) (items-kept q into (suc i) cs is))

  list-kept : (n : Node) (q : Sought) → ((j : ℕ) → sought_in q n j ≡ Some q) → AllKept q (ids_declared n q) (out-Node n).children
  list-kept n q is =
      let found = ids_in (sought_in q n) 0 (map ids_declared (out-Node n).children) in
      kept-wider q found (ids_declared n q) (out-Node n).children (λ h. ap kept (ids-out n q) ∙ second-kept (id_here q (out-Node n).kind) found h) (items-kept q (sought_in q n) 0 (out-Node n).children is)

  -- ---- the module

  module _ (tree body : Node) (whole : belongs sort.Module (out-Node tree).kind ≡ true) (are : (out-Node tree).children ≡ body ∷ []) where
    holds-by : (k : Kind) → belongs sort.Module k ≡ true → holds_vars role.Root k ≡ true
    unfolding holds_vars
    holds-by (kind.Module s) b = refl
    holds-by _ b = absurd (true-false b refl)

    abbrev pub IsRooted : Type 0
    IsRooted = has_context id.1 (own_scope role.Root [] tree id.0) ≡ true

    scope-kept : kept (scope_ids role.Root tree) ≡ true → IsRooted
    scope-kept h = own-agrees id role.Root [] tree ∙ ap (λ b. b && is_own (is_body_block role.Root (out-Node tree).kind) (innermost []) id) h

    pub item-rooted : Kept item_sought body → IsRooted
    item-rooted h =
        scope-kept
        (first-kept (ids_declared tree scope_sought) (cond (holds_vars role.Root (out-Node tree).kind) (ids_declared tree var_sought) [])
        (child-kept tree body scope_sought item_sought are (module-items tree whole) h))

    pub var-rooted : Kept var_sought body → IsRooted
    var-rooted h =
        scope-kept
        (second-kept (ids_declared tree scope_sought) (cond (holds_vars role.Root (out-Node tree).kind) (ids_declared tree var_sought) [])
        (ap (λ b. kept (cond b (ids_declared tree var_sought) [])) (holds-by (out-Node tree).kind whole) ∙ child-kept tree body var_sought var_sought are (module-vars tree whole) h))

    -- a declaration behind `export`, of each item
    module _ (list : (out-Node body).kind ≡ kind.List) where
      abbrev pub IsRoot : Node → Type 0
      IsRoot c = (Kept item_sought c → IsRooted) × (Kept var_sought c → IsRooted)

      abbrev pub AllRoot : List Node → Type 0
      AllRoot [] = Unit {0}
      AllRoot (c ∷ cs) = IsRoot c × AllRoot cs

      both-root : (cs : List Node) → AllKept item_sought (ids_declared body item_sought) cs → AllKept var_sought (ids_declared body var_sought) cs → AllRoot cs
      both-root [] a b = tt
      both-root (c ∷ cs) a b = (((λ h. item-rooted (a.0 h)), (λ h. var-rooted (b.0 h))), both-root cs a.1 b.1)

      pub all-root : AllRoot (out-Node body).children
      all-root = both-root (out-Node body).children (list-kept body item_sought (list-items body list)) (list-kept body var_sought (list-vars body list))

  pub declaration-kept : (c d : Node) → (out-Node c).kind ≡ kind.ExportDecl → (out-Node c).children ≡ d ∷ [] → (Kept item_sought d ⊎ Kept var_sought d) → (Kept item_sought c ⊎ Kept var_sought c)
  declaration-kept c d is are (inl h) = inl (child-kept c d item_sought item_sought are (export-items c is) h)
  declaration-kept c d is are (inr h) = inr (child-kept c d var_sought var_sought are (export-vars c is) h)
