-- Ids that stay apart by their texts.
use Rattle.std.specs.Prelude.{◌≡◌, true, false, List}
use Rattle.ecma_tree.specs.declared.node.Node.{Node}
use Rattle.ecma_hygiene.specs.declared.naming.Named.{Named}
use Rattle.ecma_hygiene.specs.Ids.{Id}
use Rattle.ecma_hygiene.specs.Laws.{is_seen}
use Rattle.ecma_hygiene.specs.Renamed.{text_of}
use Rattle.ecma_hygiene.specs.Sights.{sights}
use Rattle.ecma_hygiene.specs.Texts.{is_bound, text_in}

-- two ids that stand in a tree are written as two, in one context or in two; a free one keeps its text
pub record StayApart (tree : Node) (names : List Named) : Type 0 where
  pub apart : (a b : Id) → is_seen (sights tree) a ≡ true → is_seen (sights tree) b ≡ true → a.1 ≡ b.1 → text_of (text_in names) a ≡ text_of (text_in names) b → a ≡ b
  pub free : (id : Id) → is_bound (sights tree) id ≡ false → text_of (text_in names) id ≡ id.0
