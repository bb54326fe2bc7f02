-- In a sorted tree the names in patterns are names; written out, with what it exports apart, it has keys in imports and exports alone, which are no variables.
use Rattle.std.proofs.Common.{◌≡◌, refl, sym, ap, ◌∙◌, subst, ℕ, suc, List, [], ◌∷◌, map, length, Bool, true, false, cond, not, ◌&&◌, ◌||◌}
use Rattle.std.specs.List.{list_all}
use Rattle.ecma_kind.specs.Sorts.{belongs}
use Rattle.ecma_kind.specs.declared.kind.Kind.{Kind}
use Rattle.ecma_kind.specs.declared.kind.Kind.TheVariants as kind
use Rattle.ecma_kind.specs.declared.shapes.Shape.{Shape}
use Rattle.ecma_kind.specs.declared.shapes.Sort.TheVariants as sort
use Rattle.ecma_kind.specs.declared.span.Span.{Span}
use Rattle.ecma_tree.specs.declared.node.Node.{Node, fold-roll-Node, ind-Node, out-Node}
use Rattle.ecma_tree.specs.Laws.{HaveShapes}
use Rattle.ecma_tree.specs.Nodes.{node_of}
use Rattle.ecma_tree.specs.Sorted.{HasShape, allows, child_shapes, is_absent, many, maybe, one}
use Rattle.ecma_tree.proofs.ShapeLaws.{node_has_shape}
use Rattle.ecma_scope.specs.declared.role.Role.{Role}
use Rattle.ecma_scope.specs.declared.role.Role.TheVariants as role
use Rattle.ecma_scope.specs.Resolved.{is_name}
use Rattle.ecma_scope.specs.Scopes.{is_there, role_by}
use Rattle.ecma_hygiene.specs.Renamed.{kind_is_absent, with_default}
use Rattle.ecma_hygiene.proofs.Telling.{and-left, and-right, true-false}
use Rattle.ecma_runs.proofs.Kept.{AllNodes}
use Rattle.ecma_hygiene_runs.specs.ExportsApart.{exports_apart, specifiers_apart}
use Rattle.ecma_hygiene_runs.specs.FinalTexts.{all_named, has_name, is_outer}
use Rattle.ecma_hygiene_runs.specs.KeyNames.{at_names, key_names, key_names_in}
use Rattle.ecma_hygiene_runs.specs.Laws.{SortedNamesAreOuter}
use Rattle.ecma_hygiene_runs.specs.OuterNames.{exports_import_by, has_no_exported_import, has_outer_names_at, no_exported_import_step}
use Rattle.ecma_hygiene_runs.specs.WrittenOut.{key_node, other_out, out_by, properties_out, written_out}
use Rattle.ecma_hygiene_runs.proofs.Apart.{apart-of}
use Rattle.ecma_hygiene_runs.proofs.FinalParts.{Named, named, named-out, pattern-out}
use Rattle.ecma_hygiene_runs.proofs.KeysShown.{Empty, NoKeys, all_shown, body-here, empty-all, here-out, key-all, key-apart, no-keys, no_here, object-all, object-here, shown, shown-flag}
use Rattle.ecma_hygiene_runs.proofs.Parts.{out-roll, parts_of}
use Rattle.ecma_hygiene_runs.proofs.SortedNames.{has-by, names-fine, outer-roll, shape_out}
use Rattle.ecma_hygiene_runs.proofs.Specifiers.{Outer, import-keys, import-outer, ident-name, is_specifier, lists_exports, no-specifiers, others, specifier-shape, specifiers-apart, specifiers-outer, specifiers-sourced}

-- patterns

either : (b : Bool) (m n : Node) → NoKeys (exports_apart m) → NoKeys (exports_apart n) → NoKeys (exports_apart (cond b m n))
either true m n p q = p
either false m n p q = q

pattern-keys : (span : Span) (name default : Node) → has_name kind.AssignPatProp (name ∷ default ∷ []) ≡ true → NoKeys (shown name) → NoKeys (shown default)
    → NoKeys (exports_apart (out_by kind.AssignPatProp (written_out name ∷ written_out default ∷ []) (parts_of span kind.AssignPatProp (written_out name ∷ written_out default ∷ []))))
pattern-keys span name default has kn kd =
    let n : Named name = named name has in
    let both = written_out name ∷ written_out default ∷ [] in
    let key = key_node n.leaf.span n.leaf.text in
    let d = with_default span (written_out name) (written_out default) in
    let assigned : NoKeys (exports_apart (node_of span kind.AssignPat both)) =
    subst NoKeys (sym (apart-of span kind.AssignPat both)) (no-keys span kind.AssignPat (shown name ∷ shown default ∷ []) tt (kn, (kd, tt))) in
    subst NoKeys (sym (ap exports_apart (pattern-out span n.span n.leaf.span n.leaf.text n.leaf.ctxt n.leaf.optional (written_out n.annotation) (written_out name) (written_out default) _ (named-out name n))
    ∙ apart-of span kind.KeyValuePatProp (key ∷ d ∷ [])))
    (no-keys span kind.KeyValuePatProp (exports_apart key ∷ exports_apart d ∷ []) tt (
      subst Empty (sym (ap key_names_in (key-apart n.leaf.span n.leaf.text) ∙ key-all n.leaf.span n.leaf.text)) tt,
      (either (kind_is_absent (written_out default)) (written_out name) (node_of span kind.AssignPat both) kn assigned, tt),
    ))

-- the layers

map-all : (cs : List Node) → AllNodes (λ c. NoKeys (shown c)) cs → AllNodes NoKeys (all_shown cs)
map-all [] h = tt
map-all (c ∷ cs) h = (h.0, map-all cs h.1)

-- a node of these parts, where nothing is written out nor apart
plain-keys : (span : Span) (k : Kind) (cs : List Node) → exports_apart (node_of span k (map written_out cs)) ≡ node_of span k (all_shown cs) → Empty (at_names k (map key_names (all_shown cs))) → AllNodes (λ c. NoKeys (shown c)) cs
    → NoKeys (exports_apart (node_of span k (map written_out cs)))
plain-keys span k cs is own all = subst NoKeys (sym is) (no-keys span k (all_shown cs) own (map-all cs all))

-- the children, but for those that are specifiers of exports
abbrev Below : List Shape → List Node → Type 0
Below [] cs = Unit {0}
Below (shape ∷ shapes) [] = Unit {0}
Below (shape ∷ shapes) (c ∷ cs) = (is_specifier shape ≡ false → NoKeys (shown c)) × Below shapes cs

not-specifier : (b : Bool) → not b ≡ true → b ≡ false
not-specifier true h = absurd (cc)
not-specifier false h = refl

all-below : (shapes : List Shape) (cs : List Node) → HaveShapes shapes cs → list_all (λ shape. not (is_specifier shape)) shapes ≡ true → Below shapes cs → AllNodes (λ c. NoKeys (shown c)) cs
all-below [] [] h none below = tt
all-below [] (c ∷ cs) h none below = absurd h
all-below (shape ∷ shapes) [] h none below = tt
all-below (shape ∷ shapes) (c ∷ cs) h none below =
    let a = not (is_specifier shape) in
    let b = list_all (λ shape. not (is_specifier shape)) shapes in
    (below.0 (not-specifier (is_specifier shape) (and-left a b none)), all-below shapes cs h.1 (and-right a b none) below.1)

every : (k : Kind) (shape : Shape) (cs : List Node) → is_specifier shape ≡ false → lists_exports k ≡ false → HaveShapes (child_shapes k shape (length cs)) cs → Below (child_shapes k shape (length cs)) cs → AllNodes (λ c. NoKeys (shown c)) cs
every k shape cs e f h below = all-below (child_shapes k shape (length cs)) cs h (no-specifiers k shape (length cs) e f) below

-- a list of exports
exports-keys : (r : Role) (span : Span) (t : Bool) (specifiers source attributes : Node) → HasShape (many sort.ExportSpecifier) specifiers → HasShape (maybe sort.Str) source → Outer r (kind.NamedExport t) (specifiers ∷ source ∷ attributes ∷ [])
    → NoKeys (shown source) → NoKeys (shown attributes) → NoKeys (exports_apart (node_of span (kind.NamedExport t) (map written_out (specifiers ∷ source ∷ attributes ∷ []))))
exports-keys r span t specifiers source attributes hs ho o ks ka =
    subst NoKeys (sym (apart-of span (kind.NamedExport t) (map written_out (specifiers ∷ source ∷ attributes ∷ []))))
    (no-keys span (kind.NamedExport t) (cond (kind_is_absent (shown source)) (specifiers_apart (shown specifiers)) (shown specifiers) ∷ shown source ∷ shown attributes ∷ [])
    (subst Empty (sym (here-out source (source-kind (out-Node source).kind (shape_out (maybe sort.Str) source ho).0))) tt) (by (kind_is_absent source) refl, (ks, (ka, tt))))
  where
    source-kind : (k : Kind) → is_absent k || belongs sort.Str k ≡ true → no_here k ≡ true
    source-kind (kind.Str text raw) e = refl
    source-kind kind.Absent e = refl
    source-kind _ e = absurd (cc)

    by : (b : Bool) → kind_is_absent source ≡ b → NoKeys (cond (kind_is_absent (shown source)) (specifiers_apart (shown specifiers)) (shown specifiers))
    by true e =
        subst (λ b. NoKeys (cond b (specifiers_apart (shown specifiers)) (shown specifiers))) (sym (shown-flag is_absent refl source ∙ e))
        (specifiers-apart specifiers hs role.Plain (specifiers-outer r t specifiers source attributes o true e))
    by false e =
        subst (λ b. NoKeys (cond b (specifiers_apart (shown specifiers)) (shown specifiers))) (sym (shown-flag is_absent refl source ∙ e))
        (specifiers-sourced specifiers hs (specifiers-outer r t specifiers source attributes o false e))

layer-keys : (r : Role) (span : Span) (k : Kind) (shape : Shape) (cs : List Node) → exports_import_by k ≡ false → is_specifier shape ≡ false → allows shape k ≡ true → HaveShapes (child_shapes k shape (length cs)) cs → Outer r k cs → Below (child_shapes k shape (length cs)) cs
    → NoKeys (exports_apart (out_by k (map written_out cs) (parts_of span k (map written_out cs))))
layer-keys r span kind.ObjectLit shape (p ∷ []) u e a h o below =
    subst NoKeys (sym (apart-of span kind.ObjectLit (properties_out (written_out p) ∷ [])))
    (no-keys span kind.ObjectLit (exports_apart (properties_out (written_out p)) ∷ []) (subst Empty (sym (object-here p h.0)) tt) (subst Empty (sym (object-all p h.0)) (below.0 refl), tt))
layer-keys r span kind.ObjectLit shape [] u e a h o below = absurd h
layer-keys r span kind.ObjectLit shape (p ∷ q ∷ others) u e a h o below = absurd h.1
layer-keys r span kind.AssignPatProp shape (name ∷ default ∷ []) u e a h o below =
    pattern-keys span name default (has-by kind.AssignPatProp shape (name ∷ default ∷ []) h) (below.0 refl) (below.1.0 refl)
layer-keys r span kind.AssignPatProp shape [] u e a h o below = absurd h
layer-keys r span kind.AssignPatProp shape (x ∷ []) u e a h o below = absurd h.1
layer-keys r span kind.AssignPatProp shape (x ∷ y ∷ z ∷ others) u e a h o below = absurd h.1.1
layer-keys r span (kind.ImportNamedSpecifier t) shape (name ∷ other ∷ []) u e a h o below =
    subst NoKeys (sym (apart-of span (kind.ImportNamedSpecifier t) (written_out name ∷ other_out (written_out name) (written_out other) ∷ [])))
    (import-keys span t name other (below.0 refl) (others name other h.1.0 (ident-name (out-Node name).kind (shape_out (one sort.Ident) name h.0).0) (import-outer r t name other o)))
layer-keys r span (kind.ImportNamedSpecifier t) shape [] u e a h o below = absurd h
layer-keys r span (kind.ImportNamedSpecifier t) shape (x ∷ []) u e a h o below = absurd h.1
layer-keys r span (kind.ImportNamedSpecifier t) shape (x ∷ y ∷ z ∷ others) u e a h o below = absurd h.1.1
layer-keys r span (kind.ExportNamedSpecifier t) shape cs u e a h o below = absurd (true-false (specifier-shape shape (kind.ExportNamedSpecifier t) a refl) e)
layer-keys r span kind.ExportNamespaceSpecifier shape cs u e a h o below = absurd (true-false (specifier-shape shape kind.ExportNamespaceSpecifier a refl) e)
layer-keys r span (kind.NamedExport t) shape (specifiers ∷ source ∷ attributes ∷ []) u e a h o below =
    exports-keys r span t specifiers source attributes h.0 h.1.0 o (below.1.0 refl) (below.1.1.0 refl)
layer-keys r span (kind.NamedExport t) shape [] u e a h o below = absurd h
layer-keys r span (kind.NamedExport t) shape (x ∷ []) u e a h o below = absurd h.1
layer-keys r span (kind.NamedExport t) shape (x ∷ y ∷ []) u e a h o below = absurd h.1.1
layer-keys r span (kind.NamedExport t) shape (x ∷ y ∷ z ∷ v ∷ others) u e a h o below = absurd h.1.1.1
layer-keys r span (kind.Class is_abstract) shape (super ∷ body ∷ types ∷ super_types ∷ implements ∷ []) u e a h o below =
    let k = kind.Class is_abstract in
    let cs = super ∷ body ∷ types ∷ super_types ∷ implements ∷ [] in
    plain-keys span k cs (apart-of span k (map written_out cs)) (subst Empty (sym (body-here body h.1.0)) tt) (every k shape cs e refl h below)
layer-keys r span (kind.ImportDecl type_only) shape (specifiers ∷ source ∷ attributes ∷ []) u e a h o below =
    let k = kind.ImportDecl type_only in
    let cs = specifiers ∷ source ∷ attributes ∷ [] in
    plain-keys span k cs (apart-of span k (map written_out cs)) (subst Empty (sym (here-out source (text-kind (out-Node source).kind (shape_out (one sort.Str) source h.1.0).0))) tt) (every k shape cs e refl h below)
  where
    text-kind : (k : Kind) → belongs sort.Str k ≡ true → no_here k ≡ true
    text-kind (kind.Str text raw) e = refl
    text-kind _ e = absurd (cc)
layer-keys r span (kind.TsImportEqualsDecl true false) shape cs u e a h o below = absurd (true-false refl u)
layer-keys r span k shape cs u e a h o below = plain-keys span k cs (apart-of span k (map written_out cs)) tt (every k shape cs e refl h below)

abbrev Keyless : Node → Type 0
Keyless n = (shape : Shape) → is_specifier shape ≡ false → HasShape shape n → (r : Role) → has_outer_names_at n r ≡ true → has_no_exported_import n ≡ true → NoKeys (shown n)

all-keyless : (ns : List ((n : Node) × Keyless n)) (shapes : List Shape) (roles : ℕ → Role) (i : ℕ) → HaveShapes shapes (map (λ e. e.0) ns) → all_named roles i (map has_outer_names_at (map (λ e. e.0) ns)) ≡ true
    → list_all (λ b. b) (map has_no_exported_import (map (λ e. e.0) ns)) ≡ true → Below shapes (map (λ e. e.0) ns)
all-keyless [] [] roles i h o u = tt
all-keyless [] (shape ∷ shapes) roles i h o u = tt
all-keyless (n ∷ ns) [] roles i h o u = tt
all-keyless (n ∷ ns) (shape ∷ shapes) roles i h o u =
    let a = has_outer_names_at n.0 (roles i) in
    let b = all_named roles (suc i) (map has_outer_names_at (map (λ e. e.0) ns)) in
    let c = has_no_exported_import n.0 in
    let d = list_all (λ b. b) (map has_no_exported_import (map (λ e. e.0) ns)) in
    (λ e. n.1 shape e h.0 (roles i) (and-left a b o) (and-left c d u), all-keyless ns shapes roles (suc i) h.1 (and-right a b o) (and-right c d u))

keyless : (n : Node) → Keyless n
keyless = ind-Node Keyless (λ x y is shape e h r o u.
    let s = (node_has_shape x.span x.kind x.children shape).0 h in
    let a = is_outer (is_name r) x.kind in
    let b = all_named (role_by r x.kind (is_there x.children 1)) 0 (map has_outer_names_at x.children) in
    let outer : b ≡ true = and-right a b (sym (outer-roll x r) ∙ o) in
    let c = not (exports_import_by x.kind) in
    let d = list_all (λ b. b) (map has_no_exported_import x.children) in
    let none : c && d ≡ true = sym (fold-roll-Node Bool no_exported_import_step x) ∙ u in
    let below = subst (λ cs. HaveShapes (child_shapes x.kind shape (length x.children)) cs → all_named (role_by r x.kind (is_there x.children 1)) 0 (map has_outer_names_at cs) ≡ true
    → list_all (λ b. b) (map has_no_exported_import cs) ≡ true → Below (child_shapes x.kind shape (length x.children)) cs) (ap (λ z. z.children) is)
    (all-keyless y.children (child_shapes x.kind shape (length x.children)) (role_by r x.kind (is_there x.children 1)) 0) s.1 outer (and-right c d none) in
    subst NoKeys (sym (ap exports_apart (out-roll x))) (layer-keys r x.span x.kind shape x.children (not-specifier (exports_import_by x.kind) (and-left c d none)) e s.0 s.1 outer below))

pub sorted_names_are_outer : SortedNamesAreOuter
sorted_names_are_outer tree h o u =
    record { named = names-fine tree (one sort.Module) h role.Root o; keys = empty-all (key_names_in (shown tree)) (keyless tree (one sort.Module) refl h role.Root o u) }
