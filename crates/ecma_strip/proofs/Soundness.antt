-- What in a list is there for types alone, and that none of it stays.
use Rattle.std.proofs.Common.{◌≡◌, ◌∙◌, ℕ, suc, Bool, true, false, ◌&&◌, ◌||◌, not, cond, refl, sym, ap₂, subst, List, [], ◌∷◌, map, get_or, slice_get}
use Rattle.ecma_kind.specs.Sorts.{belongs}
use Rattle.ecma_kind.specs.declared.kind.Kind.{Kind}
use Rattle.ecma_kind.specs.declared.kind.Kind.TheVariants as kind
use Rattle.ecma_kind.specs.declared.span.Span.{Span}
use Rattle.ecma_kind.specs.declared.shapes.Count.{Count}
use Rattle.ecma_kind.specs.declared.shapes.Count.TheVariants.{One, Maybe, Many, MaybeMany, Holes}
use Rattle.ecma_kind.specs.declared.shapes.Shape.{Shape}
use Rattle.ecma_kind.specs.declared.shapes.Sort.{Sort}
use Rattle.ecma_kind.specs.declared.shapes.Sort.TheVariants as sort
use Rattle.ecma_tree.specs.Finding.{enters_all, finds, finds_from, finds_here}
use Rattle.ecma_tree.specs.Nodes.{absent, dummy_span, node_of}
use Rattle.ecma_tree.specs.Sorted.{allows_by, is_absent, is_list}
use Rattle.ecma_tree.specs.declared.node.Node.{Node, Node-F, fold-roll-Node, out-Node}
use Rattle.ecma_tree.specs.declared.node.Node.TheViews.{out-roll-Node}
use Rattle.ecma_tree.specs.Values.{is_value, is_value_where, value_by, values_in}
use Rattle.ecma_tree.proofs.Valuing.{is_value-out, is_value-roll}
use Rattle.ecma_strip.specs.Laws.{is_item_sort, is_type_part}
use Rattle.ecma_strip.specs.Staying.{if_there, is_declared, is_empty_stmt, is_export, is_this_param, item_stays, member_stays, member_stays_by, specifier_stays, stays}
use Rattle.ecma_strip.specs.Stripping.{body_of, plain, plain_children, plain_kind, staying_nodes, stripped}
use Rattle.ecma_strip.proofs.Sorting.{both}
use Rattle.ecma_strip.proofs.Stripping.{stripped-out}

abbrev pub Clean : Node → Type 0
Clean n = finds is_type_part enters_all n ≡ false

abbrev pub AllClean : List Node → Type 0
AllClean [] = Unit
AllClean (n ∷ ns) = Clean n × AllClean ns

pub all-clean : (k : Kind) (ns : List Node) (i : ℕ) → AllClean ns → finds_from (enters_all k) i (map (finds is_type_part enters_all) ns) ≡ false
all-clean k [] i h = refl
all-clean k (n ∷ ns) i h = rw (h.0) (all-clean k ns (suc i) h.1)

pub clean-roll : (span : Span) (k : Kind) (ns : List Node) → is_type_part k ≡ false → AllClean ns → Clean (node_of span k ns)
clean-roll span k ns here below =
    fold-roll-Node Bool (finds_here is_type_part enters_all) (record { span = span; kind = k; children = ns })
    ∙ rw here (all-clean k ns 0 below)

-- what is there for types alone, among items
abbrev pub dropped_item : Kind → Bool
dropped_item (kind.TsInterfaceDecl declare) = true
dropped_item (kind.TsTypeAliasDecl declare) = true
dropped_item kind.TsNamespaceExportDecl = true
dropped_item (kind.ImportDecl type_only) = type_only
dropped_item (kind.NamedExport type_only) = type_only
dropped_item (kind.ExportAll type_only) = type_only
dropped_item (kind.TsImportEqualsDecl is_export is_type_only) = is_type_only
dropped_item (kind.FnDecl declare) = declare
dropped_item (kind.ClassDecl declare) = declare
dropped_item (kind.TsEnumDecl declare is_const) = declare
dropped_item (kind.TsModuleDecl declare global) = declare
dropped_item _ = false

-- and among the items of any list
abbrev pub dropped : Kind → Bool
dropped (kind.TsIndexSignature readonly is_static) = true
dropped (kind.ImportNamedSpecifier is_type_only) = is_type_only
dropped (kind.ExportNamedSpecifier is_type_only) = is_type_only
dropped k = dropped_item k

abbrev pub is_interface : Kind → Bool
is_interface (kind.TsInterfaceDecl declare) = true
is_interface _ = false

-- whether a node, or what it exports, is there for types alone
abbrev pub unsound_by : Kind → List Node → Bool
unsound_by kind.ExportDecl children = if_there (slice_get children 0) (λ x. dropped_item (out-Node x).kind)
unsound_by kind.ExportDefaultDecl children = if_there (slice_get children 0) (λ x. is_interface (out-Node x).kind)
unsound_by k children = dropped k

abbrev pub unsound : Node → Bool
unsound n = unsound_by (out-Node n).kind (out-Node n).children

-- a shape that no such node has
abbrev pub calm_by : Count → Sort → Bool
calm_by One σ = not (is_item_sort σ)
calm_by Maybe σ = not (is_item_sort σ)
calm_by _ σ = true

abbrev pub calm : Shape → Bool
calm s = calm_by s.count s.sort

not-true : (b : Bool) → not b ≡ true → b ≡ true → ⊥
not-true true h k = cc
not-true false h k = cc

module _ (k : Kind) (items : (σ : Sort) → belongs σ k ≡ true → is_item_sort σ ≡ true) (no_absent : is_absent k ≡ false) (no_list : is_list k ≡ false) where
  or-left : (a b : Bool) → a ≡ false → (a || b) ≡ true → b ≡ true
  or-left true b e h = cc
  or-left false b e h = h

  not-calm : (c : Count) (σ : Sort) → calm_by c σ ≡ true → allows_by c σ k ≡ true → ⊥
  not-calm One σ g h = not-true (is_item_sort σ) g (items σ h)
  not-calm Maybe σ g h = not-true (is_item_sort σ) g (items σ (or-left (is_absent k) (belongs σ k) no_absent h))
  not-calm Many σ g h = let e : false ≡ true = sym no_list ∙ h in cc
  not-calm MaybeMany σ g h = let e : false ≡ true = sym no_list ∙ or-left (is_absent k) (is_list k) no_absent h in cc
  not-calm Holes σ g h = let e : false ≡ true = sym no_list ∙ h in cc

interface-item : (d : Bool) (σ : Sort) → belongs σ (kind.TsInterfaceDecl d) ≡ true → is_item_sort σ ≡ true
interface-item d sort.Program h = cc
interface-item d _ h = cc

alias-item : (d : Bool) (σ : Sort) → belongs σ (kind.TsTypeAliasDecl d) ≡ true → is_item_sort σ ≡ true
alias-item d sort.Program h = cc
alias-item d _ h = cc

namespace_export-item : (σ : Sort) → belongs σ kind.TsNamespaceExportDecl ≡ true → is_item_sort σ ≡ true
namespace_export-item sort.Program h = cc
namespace_export-item _ h = cc

index-item : (r d : Bool) (σ : Sort) → belongs σ (kind.TsIndexSignature r d) ≡ true → is_item_sort σ ≡ true
index-item r d sort.Program h = cc
index-item r d _ h = cc

import-item : (d : Bool) (σ : Sort) → belongs σ (kind.ImportDecl d) ≡ true → is_item_sort σ ≡ true
import-item d sort.Program h = cc
import-item d _ h = cc

named_export-item : (d : Bool) (σ : Sort) → belongs σ (kind.NamedExport d) ≡ true → is_item_sort σ ≡ true
named_export-item d sort.Program h = cc
named_export-item d _ h = cc

export_all-item : (d : Bool) (σ : Sort) → belongs σ (kind.ExportAll d) ≡ true → is_item_sort σ ≡ true
export_all-item d sort.Program h = cc
export_all-item d _ h = cc

import_equals-item : (e d : Bool) (σ : Sort) → belongs σ (kind.TsImportEqualsDecl e d) ≡ true → is_item_sort σ ≡ true
import_equals-item e d sort.Program h = cc
import_equals-item e d _ h = cc

import_specifier-item : (d : Bool) (σ : Sort) → belongs σ (kind.ImportNamedSpecifier d) ≡ true → is_item_sort σ ≡ true
import_specifier-item d sort.Program h = cc
import_specifier-item d _ h = cc

export_specifier-item : (d : Bool) (σ : Sort) → belongs σ (kind.ExportNamedSpecifier d) ≡ true → is_item_sort σ ≡ true
export_specifier-item d sort.Program h = cc
export_specifier-item d _ h = cc

function-item : (d : Bool) (σ : Sort) → belongs σ (kind.FnDecl d) ≡ true → is_item_sort σ ≡ true
function-item d sort.Program h = cc
function-item d _ h = cc

class-item : (d : Bool) (σ : Sort) → belongs σ (kind.ClassDecl d) ≡ true → is_item_sort σ ≡ true
class-item d sort.Program h = cc
class-item d _ h = cc

enum-item : (d c : Bool) (σ : Sort) → belongs σ (kind.TsEnumDecl d c) ≡ true → is_item_sort σ ≡ true
enum-item d c sort.Program h = cc
enum-item d c _ h = cc

namespace-item : (d g : Bool) (σ : Sort) → belongs σ (kind.TsModuleDecl d g) ≡ true → is_item_sort σ ≡ true
namespace-item d g sort.Program h = cc
namespace-item d g _ h = cc

export-item : (σ : Sort) → belongs σ kind.ExportDecl ≡ true → is_item_sort σ ≡ true
export-item sort.Program h = cc
export-item _ h = cc

default-item : (σ : Sort) → belongs σ kind.ExportDefaultDecl ≡ true → is_item_sort σ ≡ true
default-item sort.Program h = cc
default-item _ h = cc

-- a node of a calm shape is no such node
pub calm-sound : (k : Kind) (children : List Node) (c : Count) (σ : Sort) → calm_by c σ ≡ true → allows_by c σ k ≡ true → unsound_by k children ≡ false
calm-sound (kind.TsInterfaceDecl d) cs c σ g h = absurd (not-calm (kind.TsInterfaceDecl d) (interface-item d) refl refl c σ g h)
calm-sound (kind.TsTypeAliasDecl d) cs c σ g h = absurd (not-calm (kind.TsTypeAliasDecl d) (alias-item d) refl refl c σ g h)
calm-sound kind.TsNamespaceExportDecl cs c σ g h = absurd (not-calm kind.TsNamespaceExportDecl namespace_export-item refl refl c σ g h)
calm-sound (kind.TsIndexSignature r d) cs c σ g h = absurd (not-calm (kind.TsIndexSignature r d) (index-item r d) refl refl c σ g h)
calm-sound (kind.ImportDecl d) cs c σ g h = absurd (not-calm (kind.ImportDecl d) (import-item d) refl refl c σ g h)
calm-sound (kind.NamedExport d) cs c σ g h = absurd (not-calm (kind.NamedExport d) (named_export-item d) refl refl c σ g h)
calm-sound (kind.ExportAll d) cs c σ g h = absurd (not-calm (kind.ExportAll d) (export_all-item d) refl refl c σ g h)
calm-sound (kind.TsImportEqualsDecl e d) cs c σ g h = absurd (not-calm (kind.TsImportEqualsDecl e d) (import_equals-item e d) refl refl c σ g h)
calm-sound (kind.ImportNamedSpecifier d) cs c σ g h = absurd (not-calm (kind.ImportNamedSpecifier d) (import_specifier-item d) refl refl c σ g h)
calm-sound (kind.ExportNamedSpecifier d) cs c σ g h = absurd (not-calm (kind.ExportNamedSpecifier d) (export_specifier-item d) refl refl c σ g h)
calm-sound (kind.FnDecl d) cs c σ g h = absurd (not-calm (kind.FnDecl d) (function-item d) refl refl c σ g h)
calm-sound (kind.ClassDecl d) cs c σ g h = absurd (not-calm (kind.ClassDecl d) (class-item d) refl refl c σ g h)
calm-sound (kind.TsEnumDecl d e) cs c σ g h = absurd (not-calm (kind.TsEnumDecl d e) (enum-item d e) refl refl c σ g h)
calm-sound (kind.TsModuleDecl d e) cs c σ g h = absurd (not-calm (kind.TsModuleDecl d e) (namespace-item d e) refl refl c σ g h)
calm-sound kind.ExportDecl cs c σ g h = absurd (not-calm kind.ExportDecl export-item refl refl c σ g h)
calm-sound kind.ExportDefaultDecl cs c σ g h = absurd (not-calm kind.ExportDefaultDecl default-item refl refl c σ g h)
calm-sound _ cs c σ g h = refl

-- an item that is a value and not ambient is no such node
value-item : (k : Kind) (v : Bool) (children : List Bool) → v ≡ value_by k children → v ≡ true → is_declared k ≡ false → dropped_item k ≡ false
unfolding value_by is_declared
value-item (kind.TsInterfaceDecl d) v cs is holds free = cc
value-item (kind.TsTypeAliasDecl d) v cs is holds free = cc
value-item kind.TsNamespaceExportDecl v cs is holds free = cc
value-item (kind.ImportDecl true) v cs is holds free = cc
value-item (kind.ImportDecl false) v cs is holds free = refl
value-item (kind.NamedExport true) v cs is holds free = cc
value-item (kind.NamedExport false) v cs is holds free = refl
value-item (kind.ExportAll true) v cs is holds free = cc
value-item (kind.ExportAll false) v cs is holds free = refl
value-item (kind.TsImportEqualsDecl e true) v cs is holds free = cc
value-item (kind.TsImportEqualsDecl e false) v cs is holds free = refl
value-item (kind.FnDecl d) v cs is holds free = free
value-item (kind.ClassDecl d) v cs is holds free = free
value-item (kind.TsEnumDecl d c) v cs is holds free = free
value-item (kind.TsModuleDecl d g) v cs is holds free = free
value-item _ v cs is holds free = refl

not-false : (b : Bool) → not b ≡ true → b ≡ false
not-false true h = cc
not-false false h = refl

interface-value : (k : Kind) (v : Bool) (children : List Bool) → v ≡ value_by k children → v ≡ true → is_interface k ≡ false
unfolding value_by
interface-value (kind.TsInterfaceDecl d) v cs is holds = cc
interface-value _ v cs is holds = refl

-- whether an item of these parts stays
abbrev stays_by : Kind → List Node → Bool → Bool
stays_by k cs v =
    cond (is_empty_stmt k) true (cond (belongs sort.ModuleItem k) (v && not (cond (is_export k) (if_there (slice_get cs 0) (λ x. is_declared (out-Node x).kind)) (is_declared k))) true)

-- what stays in a list is no such node
sound-by : (k : Kind) (cs : List Node) (n : Node) → stays_by k cs (value_by k (values_in true k cs)) ≡ true → member_stays_by k n ≡ true → specifier_stays k ≡ true → unsound_by k cs ≡ false
unfolding value_by is_declared member_stays_by specifier_stays
sound-by (kind.TsInterfaceDecl d) cs n item member specifier = cc
sound-by (kind.TsTypeAliasDecl d) cs n item member specifier = cc
sound-by kind.TsNamespaceExportDecl cs n item member specifier = cc
sound-by (kind.TsIndexSignature r d) cs n item member specifier = cc
sound-by (kind.ImportDecl true) cs n item member specifier = cc
sound-by (kind.ImportDecl false) cs n item member specifier = refl
sound-by (kind.NamedExport true) cs n item member specifier = cc
sound-by (kind.NamedExport false) cs n item member specifier = refl
sound-by (kind.ExportAll true) cs n item member specifier = cc
sound-by (kind.ExportAll false) cs n item member specifier = refl
sound-by (kind.TsImportEqualsDecl e true) cs n item member specifier = cc
sound-by (kind.TsImportEqualsDecl e false) cs n item member specifier = refl
sound-by (kind.ImportNamedSpecifier true) cs n item member specifier = cc
sound-by (kind.ImportNamedSpecifier false) cs n item member specifier = refl
sound-by (kind.ExportNamedSpecifier true) cs n item member specifier = cc
sound-by (kind.ExportNamedSpecifier false) cs n item member specifier = refl
sound-by (kind.FnDecl true) cs n item member specifier = let no : false ≡ true = (both (get_or (map (is_value_where false) cs) 1 false) false item).1 in cc
sound-by (kind.FnDecl false) cs n item member specifier = refl
sound-by (kind.ClassDecl true) cs n item member specifier = cc
sound-by (kind.ClassDecl false) cs n item member specifier = refl
sound-by (kind.TsEnumDecl true c) cs n item member specifier = cc
sound-by (kind.TsEnumDecl false c) cs n item member specifier = refl
sound-by (kind.TsModuleDecl true g) cs n item member specifier = let no : false ≡ true = (both (get_or (map (is_value_where false) cs) 1 false) false item).1 in cc
sound-by (kind.TsModuleDecl false g) cs n item member specifier = refl
sound-by kind.ExportDecl [] n item member specifier = refl
sound-by kind.ExportDecl (d ∷ ds) n item member specifier =
    let parts = both (is_value d) (not (is_declared (out-Node d).kind)) item in
    value-item (out-Node d).kind (is_value d) (values_in true (out-Node d).kind (out-Node d).children) (is_value-out d) parts.0 (not-false (is_declared (out-Node d).kind) parts.1)
sound-by kind.ExportDefaultDecl [] n item member specifier = refl
sound-by kind.ExportDefaultDecl (d ∷ ds) n item member specifier =
    let parts = both (is_value d) true item in
    interface-value (out-Node d).kind (is_value d) (values_in true (out-Node d).kind (out-Node d).children) (is_value-out d) parts.0
sound-by _ cs n item member specifier = refl

pub stays-sound : (n : Node) → stays n ≡ true → unsound n ≡ false
unfolding stays
stays-sound n h =
    let first = both ((item_stays n && member_stays n) && specifier_stays (out-Node n).kind) (not (is_this_param n)) h in
    let second = both (item_stays n && member_stays n) (specifier_stays (out-Node n).kind) first.0 in
    let third = both (item_stays n) (member_stays n) second.0 in
    sound-by (out-Node n).kind (out-Node n).children n (subst (λ v. stays_by (out-Node n).kind (out-Node n).children v ≡ true) (is_value-out n) third.0) third.1 second.1

item_stays-roll : (span : Span) (k : Kind) (cs : List Node) → item_stays (node_of span k cs) ≡ stays_by k cs (value_by k (values_in true k cs))
item_stays-roll span k cs =
    let parts : Node-F Node = record { span = span; kind = k; children = cs } in
    ap₂ (λ (z : Node-F Node) (v : Bool). stays_by z.kind z.children v) (out-roll-Node parts) (is_value-roll span k cs)

pub empty-clean : (span : Span) → Clean (node_of span kind.EmptyStmt [])
unfolding is_type_part
empty-clean span = clean-roll span kind.EmptyStmt [] refl tt

pub absent-clean : Clean absent
unfolding is_type_part
absent-clean = clean-roll dummy_span kind.Absent [] refl tt

gone : (n : Node) → item_stays n ≡ false → Clean (body_of n)
gone n h = subst (λ b. Clean (cond b n (node_of (out-Node n).span kind.EmptyStmt []))) (sym h) (empty-clean (out-Node n).span)

pub left_there : (n : Node) → Clean n → Clean (body_of n)
left_there n h = by (item_stays n)
  where
    by : (b : Bool) → Clean (cond b n (node_of (out-Node n).span kind.EmptyStmt []))
    by true = h
    by false = empty-clean (out-Node n).span

and-false : (b : Bool) → b && false ≡ false
and-false true = refl
and-false false = refl

-- a body that is a declaration of types alone is gone
body-by : (span : Span) (k : Kind) (cs children : List Node) → (is_absent k || belongs sort.Stmt k) ≡ true → unsound_by k children ≡ true → Clean (body_of (plain span k cs))
unfolding plain plain_kind plain_children value_by is_declared
body-by span (kind.TsInterfaceDecl d) cs children allowed h = gone (node_of span (kind.TsInterfaceDecl d) cs) (item_stays-roll span (kind.TsInterfaceDecl d) cs)
body-by span (kind.TsTypeAliasDecl d) cs children allowed h = gone (node_of span (kind.TsTypeAliasDecl d) cs) (item_stays-roll span (kind.TsTypeAliasDecl d) cs)
body-by span (kind.FnDecl true) cs children allowed h = gone (node_of span (kind.FnDecl true) cs) (item_stays-roll span (kind.FnDecl true) cs ∙ and-false (get_or (map (is_value_where false) cs) 1 false))
body-by span (kind.FnDecl false) cs children allowed h = cc
body-by span (kind.ClassDecl true) cs children allowed h = gone (node_of span (kind.ClassDecl true) cs) (item_stays-roll span (kind.ClassDecl true) cs)
body-by span (kind.ClassDecl false) cs children allowed h = cc
body-by span (kind.TsEnumDecl true c) cs children allowed h = gone (node_of span (kind.TsEnumDecl true c) cs) (item_stays-roll span (kind.TsEnumDecl true c) cs)
body-by span (kind.TsEnumDecl false c) cs children allowed h = cc
body-by span (kind.TsModuleDecl true g) cs children allowed h = gone (node_of span (kind.TsModuleDecl true g) cs) (item_stays-roll span (kind.TsModuleDecl true g) cs ∙ and-false (get_or (map (is_value_where false) cs) 1 false))
body-by span (kind.TsModuleDecl false g) cs children allowed h = cc
body-by span _ cs children allowed h = cc

pub stripped-body : (x : Node) → (is_absent (out-Node x).kind || belongs sort.Stmt (out-Node x).kind) ≡ true → (unsound x ≡ false → Clean (stripped x)) → Clean (body_of (stripped x))
stripped-body x allowed ih = by (unsound x) refl
  where
    by : (b : Bool) → unsound x ≡ b → Clean (body_of (stripped x))
    by true e =
        subst (λ z. Clean (body_of z)) (sym (stripped-out x))
        (body-by (out-Node x).span (out-Node x).kind (map stripped (staying_nodes (out-Node x).kind (out-Node x).children)) (out-Node x).children allowed e)
    by false e = left_there (stripped x) (ih e)
