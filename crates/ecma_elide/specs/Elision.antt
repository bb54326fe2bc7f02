-- The module without the imports and exports that stand for types alone or that nothing uses.
use Rattle.std.specs.Prelude.{ℕ, Bool, true, false, ◌&&◌, ◌==◌, not, List, [], ◌∷◌, filter, bytes_eq, nat_eq, cond}
use Rattle.std.specs.List.{list_any}
use Rattle.ecma_kind.specs.declared.kind.Kind.{Kind}
use Rattle.ecma_kind.specs.declared.kind.Kind.TheVariants as kind
use Rattle.ecma_tree.specs.declared.node.Node.{Node, out-Node}
use Rattle.ecma_config.specs.declared.config.Config.{Config}
use Rattle.ecma_config.specs.declared.config.ImportsNotUsedAsValues.{ImportsNotUsedAsValues}
use Rattle.ecma_config.specs.declared.config.ImportsNotUsedAsValues.TheVariants as unused
use Rattle.ecma_scope.specs.Scopes.{is_there}
use Rattle.ecma_scope.specs.Uses.{UsedId, used_ids}
use Rattle.ecma_rewriting.specs.Rewriting.{Rewriting, become, over_ones}
use Rattle.ecma_elide.specs.declared.seat.Seat.{Seat}
use Rattle.ecma_elide.specs.declared.seat.Seat.TheVariants as seat
use Rattle.ecma_elide.specs.DeclaredNames.{type_names, value_names}
use Rattle.ecma_elide.specs.Rules.{Known, exported, goes}

-- ---- where a node stands

-- this for the first child, and nothing for the others
abbrev pub at_first : Seat → ℕ → Seat
at_first s i = cond (i == 0) s seat.Elsewhere

abbrev pub in_items : Kind → Bool → ℕ → Seat
in_items (kind.ImportDecl type_only) sourced i = at_first seat.Imported i
in_items (kind.NamedExport type_only) sourced i = at_first (exported sourced) i
in_items _ sourced i = seat.Elsewhere

abbrev pub in_others : Kind → ℕ → Seat
in_others (kind.Module shebang) i = at_first seat.Items i
in_others _ i = seat.Elsewhere

abbrev pub in_node : Seat → Kind → Bool → ℕ → Seat
in_node seat.Items k sourced i = in_items k sourced i
in_node seat.Elsewhere k sourced i = in_others k i
in_node _ k sourced i = seat.Elsewhere

-- the seat of the child at an index; an item has that of its list, and an export may have a source
unfoldable pub seat_in : Seat → Kind → Bool → ℕ → Seat
seat_in s kind.List sourced i = s
seat_in s k sourced i = in_node s k sourced i

-- ---- the tree

-- lists lose what goes, and nothing else changes
abbrev pub eliding : Known → Rewriting Seat
eliding known = record {
  keeps = λ n. true;
  unkept = λ s n. n ∷ [];
  next = λ s n. s;
  seat = λ s k children i. seat_in s k (is_there children 1) i;
  here = λ s span k children lists. cond (goes known s k children) [] (over_ones span k lists);
}

-- of a list, the items that stay; all else stays
abbrev pub remaining : Known → Seat → Kind → List Node → List Node
remaining known s kind.List nodes = filter (λ n. not (goes known s (out-Node n).kind (out-Node n).children)) nodes
remaining known s _ nodes = nodes

-- the tree without what goes by what is known of its names
abbrev pub elided_by : Known → Node → Node
elided_by known tree = become (eliding known) seat.Elsewhere tree

-- ---- what is known

abbrev pub same_id : UsedId → UsedId → Bool
same_id a b = bytes_eq a.0 b.0 && nat_eq a.1 b.1

abbrev pub is_among : List (List ℕ) → List ℕ → Bool
is_among texts text = list_any (λ t. bytes_eq t text) texts

abbrev pub known_of : Bool → Node → Known
known_of keeps tree = record {
  is_used = λ id. list_any (λ used. same_id used id) (used_ids tree);
  is_value = is_among (value_names tree);
  is_type = is_among (type_names tree);
  keeps_imports = keeps;
}

-- ---- by the options

abbrev pub keeps_imports : ImportsNotUsedAsValues → Bool
keeps_imports unused.Remove = false
keeps_imports unused.Preserve = true

-- the module without what is not used
abbrev pub without_unused : ImportsNotUsedAsValues → Node → Node
without_unused not_used tree = elided_by (known_of (keeps_imports not_used) tree) tree

-- the module without what the options drop, of a tree in which contexts tell what identifiers name, every import among it. Under `verbatim_module_syntax`
-- nothing is asked of uses: only what is written `type` goes, and it goes with the types
--   import { a, B } from "m"; let c: B = a;   // becomes import { a } from "m"; let c: B = a;
abbrev pub elided : Config → Node → Node
elided config tree = cond config.verbatim_module_syntax tree (without_unused config.import_not_used_as_values tree)
