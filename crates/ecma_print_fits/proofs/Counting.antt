-- Explicit parentheses keep the clause on counts.
use Rattle.std.proofs.Common.{◌≡◌, ◌∙◌, ◌||◌, ◌&&◌, ◌==◌, ◌+◌, not, nat_lt, ℕ, Bool, true, false, List, [], ◌∷◌, map, length, refl, sym, ap, ap₂, subst, slice_get}
use Rattle.std.specs.List.{list_all}
use Rattle.ecma_kind.specs.Sorts.{belongs}
use Rattle.ecma_kind.specs.declared.span.Span.{Span}
use Rattle.ecma_kind.specs.declared.kind.Kind.{Kind}
use Rattle.ecma_kind.specs.declared.kind.Kind.TheVariants as kind
use Rattle.ecma_kind.specs.declared.shapes.Shape.{Shape}
use Rattle.ecma_kind.specs.declared.shapes.Sort.TheVariants as sort
use Rattle.ecma_tree.specs.declared.node.Node.{Node, Node-F, out-Node, roll-Node}
use Rattle.ecma_tree.specs.declared.node.Node.TheViews.{out-roll-Node, roll-out-Node}
use Rattle.ecma_tree.specs.Laws.{HaveShapes}
use Rattle.ecma_tree.specs.Nodes.{dummy_span, node_of}
use Rattle.ecma_tree.specs.Sorted.{HasShape, child_shapes, is_absent, many, maybe, one}
use Rattle.ecma_rules.specs.Children.{children_of as items_of, holds_of, is_present, kind_of, of_kind}
use Rattle.ecma_rules.specs.Targets.{is_key_value}
use Rattle.ecma_print.specs.declared.place.Beside.TheVariants.{NoNeighbor}
use Rattle.ecma_print.specs.declared.place.Spot.{Spot}
use Rattle.ecma_print.specs.Places.{free, right}
use Rattle.ecma_print.specs.Laid.{Laid}
use Rattle.ecma_print.specs.Explicit.{laid_children, parenthesized, stood}
use Rattle.ecma_print.specs.Spots.{first_spots, further_spot}
use Rattle.ecma_print_parentheses.proofs.Asking.{Fits, first_fit, further_fits}
use Rattle.ecma_fits.specs.Counts.{are_exports, are_imports, are_stars_or_names, ends_once, ends_template, holds_attributes, is_attribute, is_attribute_key, is_default_import, is_empty, is_full_by, is_named_export, is_named_import, is_short, is_star_export, is_star_import, is_star_of, is_text, is_whole_template}
use Rattle.ecma_fits.specs.Fitting.{at_top}
use Rattle.ecma_print_fits.specs.Laws.{ExplicitCountsStay}
use Rattle.ecma_print_fits.proofs.Parts.{children_made, kind_made, not_true, shape_allows, shape_made}
use Rattle.ecma_print_fits.proofs.Explicit.{IsKept, kept, kind_at, spotted}
use Rattle.ecma_print_fits.proofs.Branching.{present_kept}
use Rattle.ecma_print_fits.proofs.Chaining.{shaped_below}
use Rattle.ecma_print_fits.proofs.Constructing.{open_there}
use Rattle.ecma_print_fits.proofs.Opening.{NoneClose, all_at, as_many, by_children, items_in, kinds_kept, none_closes, test_kept}

-- kinds that are looked for

text_parts_open : NoneClose ends_template
text_parts_open (kind.TplElement raw cooked tail) h = refl
text_parts_open _ h = not_true h

text_parts : IsKept (λ n. ends_template (kind_of n))
text_parts = kinds_kept ends_template refl text_parts_open

named_imports_open : NoneClose is_named_import
named_imports_open (kind.ImportNamedSpecifier is_type_only) h = refl
named_imports_open _ h = not_true h

named_imports : IsKept (λ n. is_named_import (kind_of n))
named_imports = kinds_kept is_named_import refl named_imports_open

star_imports_open : NoneClose is_star_import
star_imports_open kind.ImportStarAsSpecifier h = refl
star_imports_open _ h = not_true h

star_imports : IsKept (λ n. is_star_import (kind_of n))
star_imports = kinds_kept is_star_import refl star_imports_open

default_imports_open : NoneClose is_default_import
default_imports_open kind.ImportDefaultSpecifier h = refl
default_imports_open _ h = not_true h

default_imports : IsKept (λ n. is_default_import (kind_of n))
default_imports = kinds_kept is_default_import refl default_imports_open

named_exports_open : NoneClose is_named_export
named_exports_open (kind.ExportNamedSpecifier is_type_only) h = refl
named_exports_open _ h = not_true h

named_exports : IsKept (λ n. is_named_export (kind_of n))
named_exports = kinds_kept is_named_export refl named_exports_open

star_exports_open : NoneClose is_star_export
star_exports_open kind.ExportNamespaceSpecifier h = refl
star_exports_open _ h = not_true h

star_exports : IsKept (λ n. is_star_export (kind_of n))
star_exports = kinds_kept is_star_export refl star_exports_open

keys_open : NoneClose is_attribute_key
keys_open (kind.IdentName sym) h = refl
keys_open (kind.Str value raw) h = refl
keys_open _ h = not_true h

texts_open : NoneClose is_text
texts_open (kind.Str value raw) h = refl
texts_open _ h = not_true h

values_open : NoneClose is_key_value
values_open kind.KeyValueProp h = refl
values_open _ h = not_true h

-- attributes

abbrev attribute : Kind → List Node → Bool
attribute k ns = is_key_value k && (of_kind is_attribute_key (slice_get ns 0) && of_kind is_text (slice_get ns 1))

attribute_made : (x : Node-F Node) → is_attribute (roll-Node x) ≡ attribute x.kind x.children
attribute_made x = ap (λ (p : Node-F Node). attribute p.kind p.children) (out-roll-Node x)

attributes : IsKept is_attribute
attributes =
    test_kept is_attribute attribute attribute_made (λ n. attribute_made (record { span = dummy_span; kind = kind.ParenExpr; children = n ∷ [] }))
    (λ k ns c. ap (λ b. b && (of_kind is_attribute_key (slice_get ns 0) && of_kind is_text (slice_get ns 1))) (none_closes is_key_value values_open k c))
    (λ k ns spots further fit fits. ap₂ (λ a b. is_key_value k && (a && b)) (kind_at is_attribute_key (kinds_kept is_attribute_key refl keys_open) ns spots further fit fits 0)
    (kind_at is_text (kinds_kept is_text refl texts_open) ns spots further fit fits 1))

-- the object of attributes, or none
holder_items : (k : Kind) (ns : List Node) (ls : List Laid) (n : ℕ) → (is_absent k || belongs sort.ObjectLit k) ≡ true → HaveShapes (child_shapes k (maybe sort.ObjectLit) n) ns
    → list_all is_attribute (items_of (slice_get (spotted ns (first_spots k ls (free 0)) (further_spot k (free 0))) 0)) ≡ list_all is_attribute (items_of (slice_get ns 0))
holder_items kind.Absent [] ls n h have = refl
holder_items kind.Absent (c ∷ ns) ls n h have = absurd have
holder_items kind.ObjectLit [] ls n h have = absurd have
holder_items kind.ObjectLit (c ∷ ns) ls n h have = ap (list_all is_attribute) (items_in c (free 1) refl (shape_allows c (many sort.PropOrSpread) have.0)) ∙ all_at is_attribute attributes (out-Node c).children (free 1) refl
holder_items _ ns ls n h have = not_true h

holder_made : (x : Node-F Node) → holds_attributes (roll-Node x) ≡ list_all is_attribute (items_of (slice_get x.children 0))
holder_made x = ap (λ (z : List Node). list_all is_attribute (items_of (slice_get z 0))) (children_made x)

holder_parts : (x : Node-F Node) → HasShape (maybe sort.ObjectLit) (roll-Node x) → holds_attributes ((stood (roll-Node x)).at (free 0)) ≡ holds_attributes (roll-Node x)
holder_parts x shape =
    let ls = laid_children (map stood x.children) in
    let t = shape_made x (maybe sort.ObjectLit) shape in
    ap holds_attributes (open_there x)
    ∙ (holder_made (record { span = x.span; kind = x.kind; children = spotted x.children (first_spots x.kind ls (free 0)) (further_spot x.kind (free 0)) })
    ∙ (holder_items x.kind x.children ls (length x.children) t.0 t.1 ∙ sym (holder_made x)))

holder : (n : Node) → HasShape (maybe sort.ObjectLit) n → holds_attributes ((stood n).at (free 0)) ≡ holds_attributes n
holder n = subst (λ (m : Node). HasShape (maybe sort.ObjectLit) m → holds_attributes ((stood m).at (free 0)) ≡ holds_attributes m) (roll-out-Node n) (holder_parts (out-Node n))

-- items of lists

ends_at : (ns : List Node) (spot : Spot) → Fits spot → ends_once (spotted ns [] spot) ≡ ends_once ns
ends_at [] spot fits = refl
ends_at (n ∷ []) spot fits = text_parts n spot fits
ends_at (n ∷ m ∷ ns) spot fits = ap₂ (λ a b. not a && b) (text_parts n spot fits) (ends_at (m ∷ ns) spot fits)

template_at : (es ts : List Node) (spot : Spot) → Fits spot → is_whole_template (spotted es [] spot) (spotted ts [] spot) ≡ is_whole_template es ts
template_at es ts spot fits = ap₂ (λ a b. a && b) (ap₂ (λ a b. a == b + 1) (as_many ts [] spot) (as_many es [] spot)) (ends_at ts spot fits)

empty_at : (ns : List Node) (spot : Spot) → is_empty (spotted ns [] spot) ≡ is_empty ns
empty_at [] spot = refl
empty_at (n ∷ ns) spot = refl

stars_at : (ns : List Node) (spot : Spot) → Fits spot → are_stars_or_names (spotted ns [] spot) ≡ are_stars_or_names ns
stars_at [] spot fits = refl
stars_at (n ∷ []) spot fits = ap₂ (λ a b. a || b) (star_imports n spot fits) (named_imports n spot fits)
stars_at (n ∷ m ∷ ns) spot fits = all_at (λ n. is_named_import (kind_of n)) named_imports (n ∷ m ∷ ns) spot fits

imports_at : (ns : List Node) (spot : Spot) → Fits spot → are_imports (spotted ns [] spot) ≡ are_imports ns
imports_at [] spot fits = refl
imports_at (n ∷ ns) spot fits = ap₂ (λ a b. a || b) (stars_at (n ∷ ns) spot fits) (ap₂ (λ a b. a && b) (default_imports n spot fits) (stars_at ns spot fits))

star_of_at : (has_source : Bool) (ns : List Node) (spot : Spot) → Fits spot → is_star_of has_source (spotted ns [] spot) ≡ is_star_of has_source ns
star_of_at has_source [] spot fits = refl
star_of_at has_source (n ∷ []) spot fits = ap (λ b. has_source && b) (star_exports n spot fits)
star_of_at has_source (n ∷ m ∷ ns) spot fits = refl

exports_at : (has_source has_attributes : Bool) (ns : List Node) (spot : Spot) → Fits spot → are_exports has_source has_attributes (spotted ns [] spot) ≡ are_exports has_source has_attributes ns
exports_at has_source has_attributes ns spot fits =
    ap₂ (λ a b. (a || b) && (has_source || not has_attributes)) (all_at (λ n. is_named_export (kind_of n)) named_exports ns spot fits) (star_of_at has_source ns spot fits)

-- a node whose children stand in their spots

full_here : (span : Span) (k : Kind) (ns : List Node) (ls : List Laid) (spot : Spot) (o : Shape) (n : ℕ) → Fits spot → HaveShapes (child_shapes k o n) ns
    → is_full_by k (node_of span k (spotted ns (first_spots k ls spot) (further_spot k spot))) ≡ is_full_by k (node_of span k ns)
unfolding is_full_by
full_here span kind.Tpl [] ls spot o n fits have = absurd have
full_here span kind.Tpl (a ∷ []) ls spot o n fits have = absurd have.1
full_here span kind.Tpl (a ∷ b ∷ ns) ls spot o n fits have =
    by_children span kind.Tpl (spotted (a ∷ b ∷ ns) [] (free 0)) (a ∷ b ∷ ns) (λ z. is_whole_template (items_of (slice_get z 0)) (items_of (slice_get z 1)))
    (ap₂ is_whole_template (items_in a (free 0) refl (shape_allows a (many sort.Expr) have.0)) (items_in b (free 0) refl (shape_allows b (many sort.TplElement) have.1.0))
    ∙ template_at (out-Node a).children (out-Node b).children (free 0) refl)
full_here span kind.SeqExpr ns ls spot o n fits have =
    let spots = first_spots kind.SeqExpr ls spot in
    let further = further_spot kind.SeqExpr spot in
    by_children span kind.SeqExpr (spotted ns spots further) ns (λ z. nat_lt 1 (length z)) (ap (nat_lt 1) (as_many ns spots further))
full_here span (kind.YieldExpr delegate) ns ls spot o n fits have =
    let k = kind.YieldExpr delegate in
    let spots = first_spots k ls spot in
    let further = further_spot k spot in
    by_children span k (spotted ns spots further) ns (λ z. of_kind is_present (slice_get z 0) || not delegate)
    (ap (λ b. b || not delegate) (kind_at is_present present_kept ns spots further (first_fit k ls spot fits) (further_fits k spot fits) 0))
full_here span kind.TryStmt ns ls spot o n fits have =
    by_children span kind.TryStmt (spotted ns [] (free 0)) ns (λ z. of_kind is_present (slice_get z 1) || of_kind is_present (slice_get z 2))
    (ap₂ (λ a b. a || b) (kind_at is_present present_kept ns [] (free 0) tt refl 1) (kind_at is_present present_kept ns [] (free 0) tt refl 2))
full_here span (kind.VarDecl keyword declare) [] ls spot o n fits have = absurd have
full_here span (kind.VarDecl keyword declare) (a ∷ ns) ls spot o n fits have =
    let k = kind.VarDecl keyword declare in
    let s = right spot 1 NoNeighbor in
    by_children span k (spotted (a ∷ ns) (first_spots k ls spot) (further_spot k spot)) (a ∷ ns) (λ z. not (is_empty (items_of (slice_get z 0))))
    (ap (λ z. not (is_empty z)) (items_in a s refl (shape_allows a (many sort.VarDeclarator) have.0)) ∙ ap not (empty_at (out-Node a).children s))
full_here span (kind.ImportDecl type_only) [] ls spot o n fits have = absurd have
full_here span (kind.ImportDecl type_only) (a ∷ []) ls spot o n fits have = absurd have.1
full_here span (kind.ImportDecl type_only) (a ∷ b ∷ []) ls spot o n fits have = absurd have.1.1
full_here span (kind.ImportDecl type_only) (a ∷ b ∷ c ∷ ns) ls spot o n fits have =
    by_children span (kind.ImportDecl type_only) (spotted (a ∷ b ∷ c ∷ ns) [] (free 0)) (a ∷ b ∷ c ∷ ns) (λ z. are_imports (items_of (slice_get z 0)) && holds_of holds_attributes (slice_get z 2))
    (ap₂ (λ x y. x && y) (ap are_imports (items_in a (free 0) refl (shape_allows a (many sort.ImportSpecifier) have.0)) ∙ imports_at (out-Node a).children (free 0) refl) (holder c have.1.1.0))
full_here span (kind.NamedExport type_only) [] ls spot o n fits have = absurd have
full_here span (kind.NamedExport type_only) (a ∷ []) ls spot o n fits have = absurd have.1
full_here span (kind.NamedExport type_only) (a ∷ b ∷ []) ls spot o n fits have = absurd have.1.1
full_here span (kind.NamedExport type_only) (a ∷ b ∷ c ∷ ns) ls spot o n fits have =
    by_children span (kind.NamedExport type_only) (spotted (a ∷ b ∷ c ∷ ns) [] (free 0)) (a ∷ b ∷ c ∷ ns)
    (λ z. are_exports (of_kind is_present (slice_get z 1)) (of_kind is_present (slice_get z 2)) (items_of (slice_get z 0)) && holds_of holds_attributes (slice_get z 2))
    (ap₂ (λ x y. x && y)
    (ap₂ (λ x y. are_exports x y (out-Node ((stood a).at (free 0))).children) (present_kept b (free 0) refl) (present_kept c (free 0) refl)
    ∙ (ap (are_exports (is_present (kind_of b)) (is_present (kind_of c))) (items_in a (free 0) refl (shape_allows a (many sort.ExportSpecifier) have.0))
    ∙ exports_at (is_present (kind_of b)) (is_present (kind_of c)) (out-Node a).children (free 0) refl))
    (holder c have.1.1.0))
full_here span (kind.ExportAll type_only) [] ls spot o n fits have = absurd have
full_here span (kind.ExportAll type_only) (a ∷ []) ls spot o n fits have = absurd have.1
full_here span (kind.ExportAll type_only) (a ∷ b ∷ ns) ls spot o n fits have =
    by_children span (kind.ExportAll type_only) (spotted (a ∷ b ∷ ns) [] (free 0)) (a ∷ b ∷ ns) (λ z. holds_of holds_attributes (slice_get z 1)) (holder b have.1.0)
full_here span _ ns ls spot o n fits have = refl

short_made : (x : Node-F Node) → is_short (roll-Node x) ≡ not (is_full_by x.kind (roll-Node x))
short_made x = ap (λ k. not (is_full_by k (roll-Node x))) (kind_made x)

never_short : (n : Node) → is_short (parenthesized n) ≡ false
unfolding is_full_by
never_short n = short_made (record { span = dummy_span; kind = kind.ParenExpr; children = n ∷ [] })

pub counts_stay : ExplicitCountsStay
counts_stay tree sorted h =
    kept (λ n. (o : Shape) × HasShape o n) is_short shaped_below never_short
    (λ span k ns ls spot fits shaped e. short_made (record { span = span; kind = k; children = spotted ns (first_spots k ls spot) (further_spot k spot) })
    ∙ (ap not (full_here span k ns ls spot shaped.0 (length ns) fits (shape_made (record { span = span; kind = k; children = ns }) shaped.0 shaped.1).1) ∙ (sym (short_made (record { span = span; kind = k; children = ns })) ∙ e)))
    tree (one sort.Module, sorted) at_top h (free 0) refl at_top

pub ruleset counts = (counts_stay)
