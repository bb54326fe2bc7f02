-- What goes with the types of a tree declares no value that stays: exports, and then all of it.
use Rattle.std.proofs.Common.{◌≡◌, ◌⊎◌, inl, inr, ℕ, ◌==◌, Bool, true, false, ◌&&◌, not, cond, List, [], ◌∷◌, ◌++◌, map, length, Some, refl, sym, ap, ◌∙◌, subst, slice_get}
use Rattle.ecma_kind.specs.Sorts.{belongs}
use Rattle.ecma_kind.specs.declared.kind.Kind.{Kind}
use Rattle.ecma_kind.specs.declared.kind.Kind.TheVariants as kind
use Rattle.ecma_kind.specs.declared.shapes.Shape.{Shape}
use Rattle.ecma_kind.specs.declared.shapes.Sort.TheVariants as sort
use Rattle.ecma_tree.specs.Laws.{HaveShapes}
use Rattle.ecma_tree.specs.Sorted.{HasShape, child_shapes, one}
use Rattle.ecma_tree.specs.declared.node.Node.{Node, out-Node}
use Rattle.ecma_scope.specs.declared.form.Part.{Part}
use Rattle.ecma_scope.specs.declared.form.Part.TheVariants as part
use Rattle.ecma_scope.specs.declared.form.Sought.{Sought}
use Rattle.ecma_scope.specs.Declarations.{in_default, in_item, in_member, in_name, in_var, sought_by, sought_in}
use Rattle.ecma_strip.specs.Staying.{if_there, is_ambient, is_declared, is_empty_stmt, is_export, is_this_param, item_stays, member_stays, specifier_stays, stays}
use Rattle.ecma_hygiene.proofs.Telling.{true-false}
use Rattle.ecma_hygiene_scopes.specs.DeclaredIds.{DeclaredId, id_here, ids_at, ids_declared, ids_in}
use Rattle.ecma_hygiene_scopes.proofs.Directly.{ids-out}
use Rattle.ecma_strip_scopes.specs.Laws.{WhatGoesDeclaresNothing}
use Rattle.ecma_strip_scopes.specs.Going.{is_list_part}
use Rattle.ecma_hygiene_scopes.proofs.Gone.{below-gone, gone, gone-at, kept, none-append, none-some}
use Rattle.ecma_strip_scopes.proofs.Going.{and-none, apart, decl-gone, decl-item, is_exporting, is_ident, is_silent, member-silent, no-id, no-scope, only, parts-have, silent-by, specifier-by}
use Rattle.ecma_tree.proofs.Valuing.{is_value-out}
use Rattle.ecma_tree.specs.Values.{is_value, is_value_where, value_by, values_in}

-- ---- the default export

default-here : (s : Bool) (k : Kind) → id_here (record { part = part.Default; stays = s }) k ≡ []
default-here s (kind.Ident t c o) = refl
default-here s _ = refl

default-by : (s v : Bool) (k : Kind) (vs : List Bool) (i : ℕ) (q : Sought) → value_by k vs ≡ false → v ≡ false → in_default s v k i ≡ Some q → q.stays ≡ false
unfolding value_by in_default
default-by s v kind.FnExpr vs i q val not_v h = gone-at (i == 0) _ _ q (and-none s v not_v) h
default-by s v kind.ClassExpr vs i q val not_v h = absurd (true-false refl val)
default-by s v _ vs i q val not_v h = none-some q h

default-gone : (d : Node) (s : Bool) → is_value d ≡ false → kept (ids_declared d (record { part = part.Default; stays = s })) ≡ []
unfolding sought_in
default-gone d true val =
    below-gone d (record { part = part.Default; stays = true }) (default-here true (out-Node d).kind)
    (λ j next h. default-by true (is_value d) (out-Node d).kind (values_in true (out-Node d).kind (out-Node d).children) j next (sym (is_value-out d) ∙ val) val h)
default-gone d false val = gone d (record { part = part.Default; stays = false }) refl

-- ---- what an export declares, its declaration does

append-kept : (xs : List DeclaredId) → kept xs ≡ [] → kept (xs ++ []) ≡ []
append-kept xs none = none-append xs [] none refl

export-at : (p : Part) (s v : Bool) (d : Node) → is_list_part p ≡ true → ((q : Sought) → is_list_part q.part ≡ true → kept (ids_declared d q) ≡ []) → kept (ids_at (sought_by p s v kind.ExportDecl 0) (ids_declared d) ++ []) ≡ []
unfolding in_item in_var in_member in_name
export-at part.Item s v d list gone = append-kept (ids_declared d (record { part = part.Item; stays = s })) (gone (record { part = part.Item; stays = s }) refl)
export-at part.Var s v d list gone = append-kept (ids_declared d (record { part = part.Var; stays = s })) (gone (record { part = part.Var; stays = s }) refl)
export-at part.Member s v d list gone = refl
export-at (part.Name f) s v d list gone = refl
export-at part.Scope s v d list gone = no-scope list
export-at part.Default s v d list gone = no-scope list

default-at : (p : Part) (s v : Bool) (d : Node) → is_list_part p ≡ true → kept (ids_declared d (record { part = part.Default; stays = s })) ≡ [] → kept (ids_at (sought_by p s v kind.ExportDefaultDecl 0) (ids_declared d) ++ []) ≡ []
unfolding in_item in_var in_member in_name
default-at part.Item s v d list gone = append-kept (ids_declared d (record { part = part.Default; stays = s })) gone
default-at part.Var s v d list gone = refl
default-at part.Member s v d list gone = refl
default-at (part.Name f) s v d list gone = refl
default-at part.Scope s v d list gone = no-scope list
default-at part.Default s v d list gone = no-scope list

-- the ids of a node with one child
one-child : (n d : Node) (k : Kind) (q : Sought) → (out-Node n).kind ≡ k → id_here q k ≡ [] → (out-Node n).children ≡ d ∷ [] → ids_declared n q ≡ ids_at (sought_by q.part q.stays (is_value_where q.stays n) k 0) (ids_declared d) ++ []
unfolding sought_in
one-child n d k q is here are =
    ids-out n q
    ∙ (λ j. id_here q (is j) ++ ids_in (λ i. sought_by q.part q.stays (is_value_where q.stays n) (is j) i) 0 (map ids_declared (are j)))
    ∙ ap (λ (ds : List DeclaredId). ds ++ (ids_at (sought_by q.part q.stays (is_value_where q.stays n) k 0) (ids_declared d) ++ [])) here

-- why an item goes
abbrev Goes : Node → Type 0
Goes n = (is_value n ≡ false) ⊎ (is_ambient n ≡ true)

ambient-kind : (n : Node) → is_export (out-Node n).kind ≡ false → is_ambient n ≡ true → is_declared (out-Node n).kind ≡ true
ambient-kind n other h = sym (ap (λ (b : Bool). cond b (if_there (slice_get (out-Node n).children 0) (λ x. is_declared (out-Node x).kind)) (is_declared (out-Node n).kind)) other) ∙ h

export-gone : (n d : Node) (q : Sought) → (out-Node n).kind ≡ kind.ExportDecl → (out-Node n).children ≡ d ∷ [] → HasShape (one sort.Decl) d → is_list_part q.part ≡ true → Goes n → kept (ids_declared n q) ≡ []
unfolding value_by
export-gone n d q is are has list goes =
    ap kept (one-child n d kind.ExportDecl q is refl are)
    ∙ export-at q.part q.stays (is_value_where q.stays n) d list (λ next part_list. decl-gone d next part_list item.0 item.1 (reason goes))
  where
    item : (belongs sort.ModuleItem (out-Node d).kind ≡ true) × (is_exporting (out-Node d).kind ≡ false)
    item = decl-item (out-Node d).kind (parts-have d (one sort.Decl) has).0

    reason : Goes n → (is_value d ≡ false) ⊎ (is_declared (out-Node d).kind ≡ true)
    reason (inl val) = inl (sym (is_value-out n ∙ (λ j. value_by (is j) (values_in true (is j) (are j)))) ∙ val)
    reason (inr ambient) = inr (sym (λ j. cond (is_export (is j)) (if_there (slice_get (are j) 0) (λ x. is_declared (out-Node x).kind)) (is_declared (is j))) ∙ ambient)

default-export-gone : (n d : Node) (q : Sought) → (out-Node n).kind ≡ kind.ExportDefaultDecl → (out-Node n).children ≡ d ∷ [] → is_list_part q.part ≡ true → Goes n → kept (ids_declared n q) ≡ []
unfolding value_by is_declared
default-export-gone n d q is are list goes =
    ap kept (one-child n d kind.ExportDefaultDecl q is refl are) ∙ default-at q.part q.stays (is_value_where q.stays n) d list (default-gone d q.stays (reason goes))
  where
    reason : Goes n → is_value d ≡ false
    reason (inl val) = sym (is_value-out n ∙ (λ j. value_by (is j) (values_in true (is j) (are j)))) ∙ val
    reason (inr ambient) = absurd (true-false (sym (λ j. cond (is_export (is j)) (if_there (slice_get (are j) 0) (λ x. is_declared (out-Node x).kind)) (is_declared (is j))) ∙ ambient) refl)

-- ---- items

data Exports (k : Kind) : Type 0 where
  declaration : k ≡ kind.ExportDecl → Exports k
  default : k ≡ kind.ExportDefaultDecl → Exports k
  other : is_exporting k ≡ false → is_export k ≡ false → Exports k

exports : (k : Kind) → Exports k
exports kind.ExportDecl = declaration refl
exports kind.ExportDefaultDecl = default refl
exports _ = other refl refl

item-gone : (n : Node) (shape : Shape) (q : Sought) → HasShape shape n → is_list_part q.part ≡ true → belongs sort.ModuleItem (out-Node n).kind ≡ true → Goes n → Exports (out-Node n).kind → kept (ids_declared n q) ≡ []
item-gone n shape q has list item goes (declaration is) =
    let x = only (one sort.Decl) (out-Node n).children (subst (λ (k : Kind). HaveShapes (child_shapes k shape (length (out-Node n).children)) (out-Node n).children) is (parts-have n shape has).1) in
    export-gone n x.0 q is x.1 x.2 list goes
item-gone n shape q has list item goes (default is) =
    let x = only (one sort.DefaultDecl) (out-Node n).children (subst (λ (k : Kind). HaveShapes (child_shapes k shape (length (out-Node n).children)) (out-Node n).children) is (parts-have n shape has).1) in
    default-export-gone n x.0 q is x.1 list goes
item-gone n shape q has list item goes (other exporting export) =
    decl-gone n q list item exporting (reason goes)
  where
    reason : Goes n → (is_value n ≡ false) ⊎ (is_declared (out-Node n).kind ≡ true)
    reason (inl val) = inl val
    reason (inr ambient) = inr (ambient-kind n export ambient)

-- ---- whatever goes

reasons : (a b c d : Bool) → d ≡ true → (((a && b) && c) && d) ≡ false → (a ≡ false) ⊎ ((b ≡ false) ⊎ (c ≡ false))
reasons false b c d is h = inl refl
reasons true false c d is h = inr (inl refl)
reasons true true false d is h = inr (inr refl)
reasons true true true d is h = absurd (true-false is h)

item-reasons : (e m v a : Bool) → cond e true (cond m (v && not a) true) ≡ false → (m ≡ true) × ((v ≡ false) ⊎ (a ≡ true))
item-reasons true m v a h = absurd (true-false refl h)
item-reasons false false v a h = absurd (true-false refl h)
item-reasons false true false a h = (refl, inl refl)
item-reasons false true true true h = (refl, inr refl)
item-reasons false true true false h = absurd (true-false refl h)

silent-ident : (k : Kind) → is_silent k ≡ true → is_ident k ≡ true → ⊥
silent-ident k is = apart is_silent k (λ s c o. refl) is

specifier-ident : (s : List ℕ) (c : ℕ) (o : Bool) → not (specifier_stays (kind.Ident s c o)) ≡ false
unfolding specifier_stays
specifier-ident s c o = refl

pub what-goes-declares-nothing : WhatGoesDeclaresNothing
unfolding stays sought_in
what-goes-declares-nothing shape n q has goes this list =
    elim (reasons (item_stays n) (member_stays n) (specifier_stays (out-Node n).kind) (not (is_this_param n)) (ap not this) goes) [
      | inl item ↦ (let why = item-reasons (is_empty_stmt (out-Node n).kind) (belongs sort.ModuleItem (out-Node n).kind) (is_value n) (is_ambient n) item in item-gone n shape q has list why.0 why.1 (exports (out-Node n).kind))
      | inr rest ↦ elim rest [
        | inl member ↦ (let silent = member-silent (out-Node n).kind n member in below-gone n q (no-id q (out-Node n).kind (silent-ident (out-Node n).kind silent)) (λ j next h. silent-by q.part q.stays (is_value_where q.stays n) (out-Node n).kind j next list silent h))
        | inr specifier ↦ below-gone n q (no-id q (out-Node n).kind (apart (λ (z : Kind). not (specifier_stays z)) (out-Node n).kind specifier-ident (ap not specifier)))
            (λ j next h. specifier-by q.part q.stays (is_value_where q.stays n) (out-Node n).kind j next list specifier h)
      ]
    ]
