-- The names of a tree that matter where enums are written have no `?`.
use Rattle.std.proofs.Common.{◌≡◌, ◌∙◌, ℕ, suc, Bool, true, false, ◌&&◌, not, cond, refl, ap, ap₂, List, [], ◌∷◌, ◌++◌, map, Option, Some, None, slice_get}
use Rattle.std.specs.List.{list_all}
use Rattle.std.specs.Option.{option_and_then, option_map, option_map_or}
use Rattle.std.proofs.lemmas.List.Folds.{list_all-append}
use Rattle.ecma_kind.specs.declared.ident.Ident.{Ident}
use Rattle.ecma_kind.specs.declared.kind.Kind.{Kind}
use Rattle.ecma_kind.specs.declared.kind.Kind.TheVariants as kind
use Rattle.ecma_kind.specs.declared.span.Span.{Span}
use Rattle.ecma_tree.specs.Idents.{ident_of}
use Rattle.ecma_tree.specs.Nodes.{node_of}
use Rattle.ecma_tree.specs.declared.node.Node.{Node, out-Node}
use Rattle.ecma_tree.proofs.Layers.{from_leaves-roll}
use Rattle.ecma_walks.specs.Listing.{listed, listed_from, listing_step}
use Rattle.ecma_enums.specs.Names as enums
use Rattle.ecma_strip_rewriting.proofs.Commuting.{by-parts}
use Rattle.ecma_lower_enums.specs.declared.known.EnumName.{EnumName}
use Rattle.ecma_lower_enums.specs.declared.known.EnumName.TheVariants as name
use Rattle.ecma_lower_enums.specs.Known.{id_of, name_at, unmarked}
use Rattle.ecma_lower_enums.specs.Names.{default_name, everywhere, items_at, local_name, member_name, member_names, names_by, names_here, names_in, names_of_enum, specifier_by, specifier_name, specifier_names}
use Rattle.ecma_lower_enums_strip.specs.Laws.{is_unmarked}

abbrev Fine : List EnumName → Type 0
Fine ns = list_all is_unmarked ns ≡ true

fine-append : (ns ms : List EnumName) → Fine ns → Fine ms → Fine (ns ++ ms)
fine-append ns ms h g = list_all-append is_unmarked ns ms ∙ ap₂ (λ a b. a && b) h g

fine-either : (b : Bool) (ns ms : List EnumName) → Fine ns → Fine ms → Fine (cond b ns ms)
fine-either true ns ms h g = h
fine-either false ns ms h g = g

-- ---- members

member-fine : (of : Ident) (x : Option Ident) → of.optional ≡ false → Fine (option_map_or (λ i. name.Member (id_of i) of ∷ []) x [])
member-fine of (Some i) h = ap (λ b. not b && true) h
member-fine of None h = refl

members-fine : (of : Ident) (ms : List Node) → of.optional ≡ false → Fine (member_names of ms)
members-fine of [] h = refl
members-fine of (m ∷ ms) h = fine-append (member_name of m) (member_names of ms) (member-fine of (name_at (out-Node m).children) h) (members-fine of ms h)

enum-fine : (cs : List Node) → Fine (names_of_enum cs)
enum-fine cs = by (option_and_then ident_of (slice_get cs 0))
  where
    by : (o : Option Ident) → Fine (option_map_or (λ of. member_names of (items_at cs 1)) (option_map unmarked o) [])
    by (Some i) = members-fine (unmarked i) (items_at cs 1) refl
    by None = refl

-- ---- exports

local-fine : (cs : List Node) → Fine (local_name cs)
local-fine cs = by (name_at cs)
  where
    by : (o : Option Ident) → Fine (option_map_or (λ i. name.Exported (id_of i) ∷ []) o [])
    by (Some i) = refl
    by None = refl

specifier-fine : (k : Kind) (cs : List Node) → Fine (specifier_by k cs)
specifier-fine (kind.ExportNamedSpecifier is_type_only) cs = fine-either is_type_only [] (local_name cs) refl (local-fine cs)
specifier-fine _ cs = refl

specifiers-fine : (ns : List Node) → Fine (specifier_names ns)
specifiers-fine [] = refl
specifiers-fine (n ∷ ns) = fine-append (specifier_name n) (specifier_names ns) (specifier-fine (out-Node n).kind (out-Node n).children) (specifiers-fine ns)

export-fine : (b : Bool) (cs : List Node) → Fine (cond b [] (specifier_names (items_at cs 0)))
export-fine b cs = fine-either b [] (specifier_names (items_at cs 0)) refl (specifiers-fine (items_at cs 0))

default-fine : (n : Node) → Fine (default_name n)
default-fine n = by (enums.name_at n 0)
  where
    by : (o : Option enums.Name) → Fine (option_map_or (λ id. name.Exported id ∷ []) o [])
    by (Some id) = refl
    by None = refl

-- ---- a tree

here-fine : (k : Kind) (n : Node) (cs : List Node) → Fine (names_by k n cs)
unfolding names_by
here-fine (kind.TsEnumDecl declare is_const) n cs = enum-fine cs
here-fine (kind.NamedExport type_only) n cs = export-fine _ cs
here-fine kind.ExportDefaultExpr n cs = default-fine n
here-fine _ n cs = refl

abbrev AllFine : Node → Type 0
AllFine n = Fine (names_in n)

below-fine : (n : Node) (i : ℕ) (cs : List Node) → ((m : ℕ) (c : Node) → slice_get cs m ≡ Some c → AllFine c)
    → Fine (listed_from (Unit {0}) EnumName (everywhere tt n) i (map (listed (Unit {0}) EnumName everywhere names_here) cs))
below-fine n i [] each = refl
below-fine n i (c ∷ cs) each =
    fine-append (names_in c) (listed_from (Unit {0}) EnumName (everywhere tt n) (suc i) (map (listed (Unit {0}) EnumName everywhere names_here) cs))
    (each 0 c refl) (below-fine n (suc i) cs (λ m d at. each (suc m) d at))

node-fine : (span : Span) (k : Kind) (cs : List Node) → ((i : ℕ) (c : Node) → slice_get cs i ≡ Some c → AllFine c) → AllFine (node_of span k cs)
node-fine span k cs each =
    let n = node_of span k cs in
    ap (λ walk. list_all is_unmarked (walk tt)) (from_leaves-roll (Unit {0} → List EnumName) (listing_step (Unit {0}) EnumName everywhere names_here) (record { span = span; kind = k; children = cs }))
    ∙ fine-append (names_here tt n) (listed_from (Unit {0}) EnumName (everywhere tt n) 0 (map (listed (Unit {0}) EnumName everywhere names_here) cs))
    (here-fine (out-Node n).kind n (out-Node n).children) (below-fine n 0 cs each)

pub names-unmarked : (tree : Node) → list_all is_unmarked (names_in tree) ≡ true
names-unmarked = by-parts AllFine node-fine
