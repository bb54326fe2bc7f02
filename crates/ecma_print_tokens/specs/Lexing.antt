-- That the terminals read the text of a list of tokens as those tokens.
use Rattle.std.specs.Prelude.{◌≡◌, ℕ, Bool, true, false, List, []}
use Rattle.ecma_lex.proofs.Suffixes.{Stands}
use Rattle.ecma_kind.specs.declared.span.Span.{Span}
use Rattle.ecma_tree.specs.declared.node.Node.{Node}
use Rattle.ecma_tree.specs.Nodes.{node_of}
use Rattle.ecma_grammar.specs.declared.production.Leaf.{Leaf}
use Rattle.ecma_grammar.specs.Grammar.{Terminal}
use Rattle.ecma_grammar.specs.Reading.{Position, Outcome, read, fails}
use Rattle.ecma_grammar.specs.Reads.{token, leaf_node, same_line_on}
use Rattle.ecma_lex.specs.Blanks.{skipped}
use Rattle.ecma_print_tokens.specs.Items.{Items, render}
use Rattle.ecma_print_tokens.specs.Taking.{Took, took, refused, unsure, token_in, leaf_in, leaf_kind, new_line_in}

pub record Fails {A : Type 0} (o : Outcome A) : Type 0 where
  pub failed : ℕ
  pub is : o ≡ fails failed

module _ (text : List ℕ) (Good : Items → Type 0) where
  -- tokens stand at a place of the text, to its end
  pub record At (ts : Items) (s : Position) : Type 0 where
    pub good : Good ts
    pub stands : Stands text s.place (render ts)

  -- something is read, and these tokens stand behind it
  pub record Goes {A : Type 0} (o : Outcome A) (Q : A → Type 0) (ts : Items) : Type 0 where
    pub value : A
    pub state : Position
    pub is : o ≡ read value state
    pub holds : Q value
    pub at : At ts state

  -- an outcome is what terminals take of a list of tokens, with Q of its value and the token's text
  abbrev pub Agrees : {A : Type 0} → Took → Outcome A → (List ℕ → A → Type 0) → Type 0
  Agrees (took w ts) o Q = Goes o (Q w) ts
  Agrees refused o Q = Fails o
  Agrees unsure o Q = Unit {0}

  abbrev pub IsLeaf : Leaf → List ℕ → Node → Type 0
  IsLeaf l w n = (at : Span) × (n ≡ node_of at (leaf_kind l w) [])

  abbrev pub GoesOn : Bool → Outcome (List Node) → Position → Type 0
  GoesOn true o s = Fails o
  GoesOn false o s = o ≡ read [] s

  -- each terminal, each leaf and the test of lines reads the text of tokens as the tokens say; a hashbang stands at the front of a text alone
  pub record Lexes : Type 0 where
    pub tokens : (t : Terminal) (ts : Items) (s : Position) → At ts s → Agrees (token_in t ts) (token text t s) (λ w k. Unit {0})
    pub leaves : (l : Leaf) (ts : Items) (s : Position) → At ts s → Agrees (leaf_in l ts) (leaf_node text l s) (IsLeaf l)
    pub lines : (ts : Items) (s : Position) → At ts s → GoesOn (new_line_in ts) (same_line_on s (skipped text s.place)) s
