-- What goes from a list goes from it too where trees are changed, but for the kinds of some nodes that never go.
use Rattle.std.proofs.Common.{◌≡◌, refl, sym, ap, ◌∙◌, subst, ℕ, zero, suc, List, [], ◌∷◌, map, Bool, true, false, ◌&&◌, ◌||◌, not, cond, get_or, slice_get, true≢false}
use Rattle.std.specs.List.{list_any}
use Rattle.ecma_kind.specs.Sorts.{belongs}
use Rattle.ecma_kind.specs.declared.kind.Kind.{Kind}
use Rattle.ecma_kind.specs.declared.kind.Kind.TheVariants as kind
use Rattle.ecma_kind.specs.declared.shapes.Sort.TheVariants as sort
use Rattle.ecma_tree.specs.declared.node.Node.{Node, Node-F, ind-Node, out-Node, roll-Node}
use Rattle.ecma_tree.specs.declared.node.Node.TheViews.{out-roll-Node}
use Rattle.ecma_tree.specs.Values.{is_value, is_value_where, value_at, value_by, values_in}
use Rattle.ecma_tree.proofs.Valuing.{is_value-out, is_value_where-out, value_where_by}
use Rattle.ecma_runs.proofs.Kept.{AllNodes}
use Rattle.ecma_strip.specs.Staying.{if_there, is_ambient, is_declared, is_empty_stmt, is_export, is_this, is_this_by, is_this_ident, is_this_param, is_this_param_by, item_stays, member_stays, member_stays_by, specifier_stays, stays}

abbrev pub kind_of : Node → Kind
kind_of n = (out-Node n).kind

abbrev pub children_of : Node → List Node
children_of n = (out-Node n).children

-- ---- induction over the children

module _ (P : Node → Type 0) (step : (n : Node) → AllNodes P (children_of n) → P n) where
  each_of : (es : List ((n : Node) × P n)) → AllNodes P (map (λ e. e.0) es)
  each_of [] = tt
  each_of (e ∷ es) = (e.1, each_of es)

  pub by_children : (n : Node) → P n
  by_children = ind-Node P (λ x y is. step (roll-Node x) (subst (AllNodes P) (ap (λ (z : Node-F Node). z.children) is ∙ sym (ap (λ (z : Node-F Node). z.children) (out-roll-Node x))) (each_of y.children)))

-- ---- kinds

-- a kind of which a node may go, or is no value, or decides of that; lists are asked for themselves
abbrev pub is_usual : Kind → Bool
is_usual kind.List = false
is_usual kind.TsTypeAnn = false
is_usual kind.TsTypeParamDecl = false
is_usual kind.TsTypeParamInstantiation = false
is_usual kind.TsAsExpr = false
is_usual kind.TsTypeAssertion = false
is_usual kind.TsConstAssertion = false
is_usual kind.TsNonNullExpr = false
is_usual kind.TsInstantiation = false
is_usual kind.TsSatisfiesExpr = false
is_usual (kind.Str value raw) = false
is_usual (kind.Number value raw) = false
is_usual (kind.BigInt value raw) = false
is_usual kind.ExprStmt = false
is_usual (kind.ForOfStmt is_await) = false
is_usual k = true

-- a value that is not ambient goes not
abbrev ambient_by : Kind → List Node → Bool
ambient_by k cs = cond (is_export k) (if_there (slice_get cs 0) (λ x. is_declared (kind_of x))) (is_declared k)

item_usual : (k : Kind) (cs : List Node) → belongs sort.ModuleItem k ≡ true → (value_by k (values_in true k cs) && not (ambient_by k cs)) ≡ false → is_usual k ≡ true
unfolding value_by is_declared
item_usual kind.List cs h g = absurd (true≢false (sym h))
item_usual kind.TsTypeAnn cs h g = absurd (true≢false (sym h))
item_usual kind.TsTypeParamDecl cs h g = absurd (true≢false (sym h))
item_usual kind.TsTypeParamInstantiation cs h g = absurd (true≢false (sym h))
item_usual kind.TsAsExpr cs h g = absurd (true≢false (sym h))
item_usual kind.TsTypeAssertion cs h g = absurd (true≢false (sym h))
item_usual kind.TsConstAssertion cs h g = absurd (true≢false (sym h))
item_usual kind.TsNonNullExpr cs h g = absurd (true≢false (sym h))
item_usual kind.TsInstantiation cs h g = absurd (true≢false (sym h))
item_usual kind.TsSatisfiesExpr cs h g = absurd (true≢false (sym h))
item_usual (kind.Str value raw) cs h g = absurd (true≢false (sym h))
item_usual (kind.Number value raw) cs h g = absurd (true≢false (sym h))
item_usual (kind.BigInt value raw) cs h g = absurd (true≢false (sym h))
item_usual kind.ExprStmt cs h g = absurd (true≢false g)
item_usual (kind.ForOfStmt is_await) cs h g = absurd (true≢false g)
item_usual _ cs h g = refl

declared_usual : (k : Kind) → is_declared k ≡ true → is_usual k ≡ true
unfolding is_declared
declared_usual (kind.FnDecl declare) h = refl
declared_usual (kind.ClassDecl declare) h = refl
declared_usual (kind.VarDecl word declare) h = refl
declared_usual (kind.TsEnumDecl declare is_const) h = refl
declared_usual (kind.TsModuleDecl declare global) h = refl
declared_usual _ h = absurd (true≢false (sym h))

this_usual : (k : Kind) → is_this_ident k ≡ true → is_usual k ≡ true
this_usual (kind.Ident text ctxt optional) h = refl
this_usual _ h = absurd (true≢false (sym h))

specifier_usual : (k : Kind) → specifier_stays k ≡ false → is_usual k ≡ true
unfolding specifier_stays
specifier_usual (kind.ImportNamedSpecifier is_type_only) h = refl
specifier_usual (kind.ExportNamedSpecifier is_type_only) h = refl
specifier_usual kind.TsType h = refl
specifier_usual _ h = absurd (true≢false h)

pattern_kind : (k : Kind) (n : Node) → is_this_by k n ≡ true → k ≡ kind.BindingIdent
pattern_kind kind.BindingIdent n h = refl
pattern_kind _ n h = absurd (true≢false (sym h))

-- ---- truths that fall

both_lower : (a b a' b' : Bool) → (a ≡ false → a' ≡ false) → (b ≡ false → b' ≡ false) → (a && b) ≡ false → (a' && b') ≡ false
both_lower false b a' b' f g h = rw (f refl) refl
both_lower true b true b' f g h = g h
both_lower true b false b' f g h = refl

either_lower : (a b b' : Bool) → (b ≡ false → b' ≡ false) → (a || b) ≡ false → (a || b') ≡ false
either_lower true b b' f h = absurd (true≢false h)
either_lower false b b' f h = f h

not_lower : (a a' : Bool) → (a ≡ true → a' ≡ true) → not a ≡ false → not a' ≡ false
not_lower true a' f h = ap not (f refl)
not_lower false a' f h = absurd (true≢false h)

pub any_parts : (a b : Bool) → (a || b) ≡ false → (a ≡ false) × (b ≡ false)
any_parts true b h = absurd (true≢false h)
any_parts false b h = (refl, h)

item_parts : (e b v : Bool) → cond e true (cond b v true) ≡ false → (e ≡ false) × (b ≡ true) × (v ≡ false)
item_parts true b v h = absurd (true≢false h)
item_parts false true v h = (refl, refl, h)
item_parts false false v h = absurd (true≢false h)

item_made : (e b v : Bool) → e ≡ false → b ≡ true → v ≡ false → cond e true (cond b v true) ≡ false
item_made e b v f g h = rw (f, g) h

-- ---- trees that are changed: a node of a usual kind keeps it, and its children are changed

module _ (to : Node → Node) (kind_kept : (n : Node) → is_usual (kind_of n) ≡ true → kind_of (to n) ≡ kind_of n)
    (children_changed : (n : Node) → is_usual (kind_of n) ≡ true → children_of (to n) ≡ map to (children_of n)) where
  -- what is no value is none

  abbrev pub Falls : Node → Type 0
  Falls n = (b : Bool) → is_value_where b n ≡ false → is_value_where b (to n) ≡ false

  falls_at : (b : Bool) (i : ℕ) (cs : List Node) → AllNodes Falls cs → get_or (map (is_value_where b) cs) i false ≡ false → get_or (map (is_value_where b) (map to cs)) i false ≡ false
  falls_at b i [] a h = h
  falls_at b zero (c ∷ cs) a h = a.0 b h
  falls_at b (suc i) (c ∷ cs) a h = falls_at b i cs a.1 h

  module _ (list_falls : (n : Node) → kind_of n ≡ kind.List → AllNodes Falls (children_of n) → (b : Bool) → list_any (λ v. v) (map (is_value_where b) (children_of n)) ≡ false → is_value_where b (to n) ≡ false) where
    -- of a usual kind
    told : (b : Bool) (n : Node) (k : Kind) → kind_of n ≡ k → is_usual k ≡ true → is_value_where b (to n) ≡ value_where_by b k (map to (children_of n))
    told b n k is u =
        is_value_where-out b (to n)
        ∙ (let h : is_usual (kind_of n) ≡ true = ap is_usual is ∙ u in λ i. value_where_by b ((kind_kept n h ∙ is) i) (children_changed n h i))

    falls_by : (b : Bool) (n : Node) (k : Kind) → kind_of n ≡ k → AllNodes Falls (children_of n) → value_where_by b k (children_of n) ≡ false → is_value_where b (to n) ≡ false
    unfolding value_by
    falls_by b n kind.Absent is a h = told b n kind.Absent is refl
    falls_by b n kind.EmptyStmt is a h = told b n kind.EmptyStmt is refl
    falls_by b n (kind.TsInterfaceDecl declare) is a h = told b n (kind.TsInterfaceDecl declare) is refl
    falls_by b n (kind.TsTypeAliasDecl declare) is a h = told b n (kind.TsTypeAliasDecl declare) is refl
    falls_by b n kind.TsNamespaceExportDecl is a h = told b n kind.TsNamespaceExportDecl is refl
    falls_by b n (kind.ImportDecl type_only) is a h = told b n (kind.ImportDecl type_only) is refl ∙ h
    falls_by b n (kind.NamedExport type_only) is a h = told b n (kind.NamedExport type_only) is refl ∙ h
    falls_by b n (kind.ExportAll type_only) is a h = told b n (kind.ExportAll type_only) is refl ∙ h
    falls_by b n (kind.TsImportEqualsDecl is_export is_type_only) is a h = told b n (kind.TsImportEqualsDecl is_export is_type_only) is refl ∙ h
    falls_by b n kind.ExportDecl is a h = told b n kind.ExportDecl is refl ∙ falls_at b 0 (children_of n) a h
    falls_by b n kind.ExportDefaultDecl is a h = told b n kind.ExportDefaultDecl is refl ∙ falls_at b 0 (children_of n) a h
    falls_by b n (kind.FnDecl declare) is a h = told b n (kind.FnDecl declare) is refl ∙ falls_at (not declare && b) 1 (children_of n) a h
    falls_by b n kind.FnExpr is a h = told b n kind.FnExpr is refl ∙ falls_at b 1 (children_of n) a h
    falls_by b n (kind.Function is_generator is_async) is a h =
        told b n (kind.Function is_generator is_async) is refl
        ∙ either_lower (not b) (get_or (map (is_value_where b) (children_of n)) 1 false) (get_or (map (is_value_where b) (map to (children_of n))) 1 false) (falls_at b 1 (children_of n) a) h
    falls_by b n (kind.TsModuleDecl declare global) is a h = told b n (kind.TsModuleDecl declare global) is refl ∙ falls_at (not declare && b) 1 (children_of n) a h
    falls_by b n (kind.TsNamespaceDecl declare global) is a h = told b n (kind.TsNamespaceDecl declare global) is refl ∙ falls_at (not declare && b) 1 (children_of n) a h
    falls_by b n kind.TsModuleBlock is a h = told b n kind.TsModuleBlock is refl ∙ falls_at b 0 (children_of n) a h
    falls_by b n kind.List is a h = list_falls n is a b h
    falls_by b n _ is a h = absurd (true≢false h)

    falls : (n : Node) → Falls n
    falls = by_children Falls (λ n below b h. falls_by b n (kind_of n) refl below (sym (is_value_where-out b n) ∙ h))

    all_fall : (cs : List Node) → AllNodes Falls cs
    all_fall [] = tt
    all_fall (c ∷ cs) = (falls c, all_fall cs)

    -- what is ambient is so

    declared_kept : (c : Node) → is_declared (kind_of c) ≡ true → is_declared (kind_of (to c)) ≡ true
    declared_kept c h = ap is_declared (kind_kept c (declared_usual (kind_of c) h)) ∙ h

    ambient_first : (e : Bool) (k : Kind) (cs : List Node) → cond e (if_there (slice_get cs 0) (λ x. is_declared (kind_of x))) (is_declared k) ≡ true
        → cond e (if_there (slice_get (map to cs) 0) (λ x. is_declared (kind_of x))) (is_declared k) ≡ true
    ambient_first true k [] h = h
    ambient_first true k (c ∷ cs) h = declared_kept c h
    ambient_first false k cs h = h

    ambient_kept : (n : Node) → is_usual (kind_of n) ≡ true → is_ambient n ≡ true → is_ambient (to n) ≡ true
    ambient_kept n u h = (λ i. ambient_by (kind_kept n u i) (children_changed n u i)) ∙ ambient_first (is_export (kind_of n)) (kind_of n) (children_of n) h

    -- what goes, goes

    item_goes : (n : Node) → item_stays n ≡ false → item_stays (to n) ≡ false
    item_goes n h =
        let k : Kind = kind_of n in
        let t = item_parts (is_empty_stmt k) (belongs sort.ModuleItem k) (is_value n && not (is_ambient n)) h in
        let u : is_usual k ≡ true = item_usual k (children_of n) t.1 (sym (ap (λ v. v && not (is_ambient n)) (is_value-out n)) ∙ t.2) in
        ap (λ (q : Kind). cond (is_empty_stmt q) true (cond (belongs sort.ModuleItem q) (is_value (to n) && not (is_ambient (to n))) true)) (kind_kept n u)
        ∙ item_made (is_empty_stmt k) (belongs sort.ModuleItem k) (is_value (to n) && not (is_ambient (to n))) t.0 t.1
        (both_lower (is_value n) (not (is_ambient n)) (is_value (to n)) (not (is_ambient (to n))) (falls n true) (not_lower (is_ambient n) (is_ambient (to n)) (ambient_kept n u)) t.2)

    value_at_falls : (i : ℕ) (n : Node) → is_usual (kind_of n) ≡ true → value_at i n ≡ false → value_at i (to n) ≡ false
    value_at_falls i n u h = ap (λ (z : List Node). get_or (map is_value z) i false) (children_changed n u) ∙ falls_at true i (children_of n) (all_fall (children_of n)) h

    member_goes : (n : Node) → member_stays n ≡ false → member_stays (to n) ≡ false
    unfolding member_stays_by
    member_goes n h = go (kind_of n) refl h
      where
        go : (k : Kind) → kind_of n ≡ k → member_stays_by k n ≡ false → member_stays (to n) ≡ false
        go (kind.TsIndexSignature readonly is_static) is g = ap (λ q. member_stays_by q (to n)) (kind_kept n (ap is_usual is) ∙ is)
        go (kind.Constructor accessibility is_optional) is g = ap (λ q. member_stays_by q (to n)) (kind_kept n (ap is_usual is) ∙ is) ∙ value_at_falls 2 n (ap is_usual is) g
        go (kind.ClassMethod m modifiers) is g =
            ap (λ q. member_stays_by q (to n)) (kind_kept n (ap is_usual is) ∙ is)
            ∙ both_lower (not modifiers.is_abstract) (value_at 1 n) (not modifiers.is_abstract) (value_at 1 (to n)) (λ e. e) (value_at_falls 1 n (ap is_usual is)) g
        go (kind.PrivateMethod m modifiers) is g =
            ap (λ q. member_stays_by q (to n)) (kind_kept n (ap is_usual is) ∙ is)
            ∙ both_lower (not modifiers.is_abstract) (value_at 1 n) (not modifiers.is_abstract) (value_at 1 (to n)) (λ e. e) (value_at_falls 1 n (ap is_usual is)) g
        go (kind.ClassProp modifiers readonly declare definite) is g = ap (λ q. member_stays_by q (to n)) (kind_kept n (ap is_usual is) ∙ is) ∙ g
        go (kind.PrivateProp modifiers readonly declare definite) is g = ap (λ q. member_stays_by q (to n)) (kind_kept n (ap is_usual is) ∙ is) ∙ g
        go _ is g = absurd (true≢false g)

    specifier_goes : (n : Node) → specifier_stays (kind_of n) ≡ false → specifier_stays (kind_of (to n)) ≡ false
    specifier_goes n h = ap specifier_stays (kind_kept n (specifier_usual (kind_of n) h)) ∙ h

    first_passes : (test : Node → Bool) → ((c : Node) → test c ≡ true → test (to c) ≡ true) → (cs : List Node) → if_there (slice_get cs 0) test ≡ true → if_there (slice_get (map to cs) 0) test ≡ true
    first_passes test f [] h = h
    first_passes test f (c ∷ cs) h = f c h

    ident_kept : (c : Node) → is_this_ident (kind_of c) ≡ true → is_this_ident (kind_of (to c)) ≡ true
    ident_kept c h = ap is_this_ident (kind_kept c (this_usual (kind_of c) h)) ∙ h

    this_kept : (n : Node) → is_this n ≡ true → is_this (to n) ≡ true
    this_kept n h = go (kind_of n) refl h
      where
        go : (k : Kind) → kind_of n ≡ k → is_this_by k n ≡ true → is_this (to n) ≡ true
        go kind.BindingIdent is g =
            ap (λ q. is_this_by q (to n)) (kind_kept n (ap is_usual is) ∙ is)
            ∙ ap (λ (z : List Node). if_there (slice_get z 0) (λ x. is_this_ident (kind_of x))) (children_changed n (ap is_usual is))
            ∙ first_passes (λ x. is_this_ident (kind_of x)) ident_kept (children_of n) g
        go _ is g = absurd (true≢false (sym g))

    param_kept : (n : Node) → is_this_param n ≡ true → is_this_param (to n) ≡ true
    param_kept n h = go (kind_of n) refl h
      where
        go : (k : Kind) → kind_of n ≡ k → is_this_param_by k n ≡ true → is_this_param (to n) ≡ true
        go kind.Param is g =
            ap (λ q. is_this_param_by q (to n)) (kind_kept n (ap is_usual is) ∙ is)
            ∙ ap (λ (z : List Node). if_there (slice_get z 0) is_this) (children_changed n (ap is_usual is))
            ∙ first_passes is_this this_kept (children_of n) g
        go _ is g = let e = pattern_kind (kind_of n) n g in ap (λ q. is_this_param_by q (to n)) (kind_kept n (ap is_usual e) ∙ e) ∙ this_kept n g

    pub goes_too : (n : Node) → stays n ≡ false → stays (to n) ≡ false
    unfolding stays
    goes_too n h =
        both_lower ((item_stays n && member_stays n) && specifier_stays (kind_of n)) (not (is_this_param n)) ((item_stays (to n) && member_stays (to n)) && specifier_stays (kind_of (to n))) (not (is_this_param (to n)))
        (both_lower (item_stays n && member_stays n) (specifier_stays (kind_of n)) (item_stays (to n) && member_stays (to n)) (specifier_stays (kind_of (to n)))
        (both_lower (item_stays n) (member_stays n) (item_stays (to n)) (member_stays (to n)) (item_goes n) (member_goes n)) (specifier_goes n))
        (not_lower (is_this_param n) (is_this_param (to n)) (param_kept n)) h
