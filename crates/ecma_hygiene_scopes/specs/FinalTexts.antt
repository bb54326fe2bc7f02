-- Scopes that declare the final texts of what they declared.
use Rattle.std.specs.Prelude.{◌≡◌, ℕ, Bool, List, filter, map, Option}
use Rattle.ecma_tree.specs.declared.node.Node.{Node}
use Rattle.ecma_scope.specs.Declarations.{is_own, names}
use Rattle.ecma_scope.specs.Laws.{without_contexts}
use Rattle.ecma_scope.specs.Scopes.{opens}
use Rattle.ecma_hygiene.specs.declared.spot.Standing.{Standing}
use Rattle.ecma_hygiene.specs.Renamed.{Texts, renamed_at}
use Rattle.ecma_hygiene_scopes.specs.DeclaredIds.{scope_ids, with_text}

-- a node with other texts and without contexts
abbrev pub plain_at : Texts → Node → Standing → Node
plain_at texts node stands = without_contexts (renamed_at texts node stands)

-- a node opens a scope where it did, and the scope declares the final texts of what it declared
pub record DeclaresFinalTexts (texts : Texts) (node : Node) (stands : Standing) : Type 0 where
  pub opens : opens stands.role (plain_at texts node stands) ≡ opens stands.role node
  pub declares : (around : List ℕ → Option Bool) → names stands.role around (plain_at texts node stands) ≡ filter (is_own stands.role around) (map (with_text texts) (scope_ids stands.role node))
