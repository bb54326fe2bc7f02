-- Resolved trees: the empty context where no variable is named, and bindings that are declared where the module runs.
use Rattle.std.specs.Prelude.{◌≡◌, ◌≢◌, ℕ, true, false, List, bytes_eq, codes}
use Rattle.std.specs.List.{All}
use Rattle.ecma_tree.specs.declared.node.Node.{Node}
use Rattle.ecma_hygiene.specs.Ids.{Id}
use Rattle.ecma_hygiene.specs.Laws.{is_seen}
use Rattle.ecma_hygiene.specs.Sights.{sights}
use Rattle.ecma_hygiene.specs.Texts.{is_bound}
use Rattle.ecma_runs.specs.Enums.{lacks_enums}
use Rattle.ecma_runs.specs.Environment.{is_among}
use Rattle.ecma_runs.specs.Evaluation.{meaning}
use Rattle.ecma_hygiene_runs.specs.ExportsApart.{exports_apart}
use Rattle.ecma_hygiene_runs.specs.FinalTexts.{is_named}
use Rattle.ecma_hygiene_runs.specs.KeyNames.{key_names_in}
use Rattle.ecma_hygiene_runs.specs.WrittenOut.{written_out}

-- a binding has a context, is declared where the module runs, and is not `this`
pub record IsBinding (tree : Node) (id : Id) : Type 0 where
  pub inner : id.1 ≢ 0
  pub declared : is_among (record { sym = id.0; ctxt = id.1 }) (meaning tree).declared ≡ true
  pub apart : bytes_eq id.0 (codes "this") ≡ false

-- a resolved tree has no enums: what is no name of a variable has the empty context, names that are keys beside shorthands and variables that are exported too, and
-- bindings are bindings where the module runs
pub record IsResolved (tree : Node) : Type 0 where
  pub no_enums : lacks_enums tree ≡ true
  pub named : is_named tree ≡ true
  pub keys : All (λ id. id.ctxt ≡ 0) (key_names_in (exports_apart (written_out tree)))
  pub bindings : (id : Id) → is_bound (sights tree) id ≡ true → IsBinding tree id

-- a map of contexts that keeps two names with one text two, and the empty context apart from those of variables
pub record KeepsApart (to : ℕ → ℕ) (tree : Node) : Type 0 where
  pub none : to 0 ≡ 0
  pub inner : (text : List ℕ) (ctxt : ℕ) → is_seen (sights tree) (text, ctxt) ≡ true → to ctxt ≡ 0 → ctxt ≡ 0
  pub apart : (text : List ℕ) (c d : ℕ) → is_seen (sights tree) (text, c) ≡ true → is_seen (sights tree) (text, d) ≡ true → to c ≡ to d → c ≡ d
