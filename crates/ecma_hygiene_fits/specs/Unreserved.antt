-- Texts that are no reserved words, and not `arguments`.
use Rattle.std.specs.Prelude.{◌≡◌, ◌⊎◌, ℕ, false, codes, bytes_eq, List}
use Rattle.ecma_lex.specs.Keys.{is_reserved}
use Rattle.ecma_tree.specs.declared.node.Node.{Node}
use Rattle.ecma_rules.specs.Members.{is_this_pattern}
use Rattle.ecma_hygiene.specs.Ids.{Id}
use Rattle.ecma_hygiene.specs.Renamed.{Texts, text_of}
use Rattle.ecma_fits.specs.Fitting.{NoneFails}

-- no reserved word, and not `arguments`
pub record IsUnreserved (text : List ℕ) : Type 0 where
  pub unreserved : is_reserved text ≡ false
  pub no_arguments : bytes_eq text (codes "arguments") ≡ false

-- each id keeps its text or gets such a one
abbrev pub AreUnreserved : Texts → Type 0
AreUnreserved texts = (id : Id) → (text_of texts id ≡ id.0) ⊎ IsUnreserved (text_of texts id)

-- no parameter is `this`, nor another name that is bound
abbrev pub NoThis : Node → Type 0
NoThis tree = NoneFails (λ w node. is_this_pattern node) tree
