-- How a grammar reads a list of tokens, in plain reading: the nodes that it keeps, without spans, and the tokens that it leaves.
use Rattle.std.specs.Prelude.{ℕ, zero, suc, ◌+◌, ◌*◌, Bool, List, [], ◌∷◌, ◌++◌, if◌then◌else◌}
use Rattle.ecma_kind.specs.declared.kind.Kind.{Kind}
use Rattle.ecma_tree.specs.declared.node.Node.{Node}
use Rattle.ecma_tree.specs.Nodes.{node_of, dummy_span}
use Rattle.ecma_grammar.specs.declared.production.Part.{Part}
use Rattle.ecma_grammar.specs.declared.production.Part.TheVariants as part
use Rattle.ecma_grammar.specs.declared.production.Leaf.{Leaf}
use Rattle.ecma_grammar.specs.declared.production.Form.{Form}
use Rattle.ecma_grammar.specs.trees.Parts.{flag_node}
use Rattle.ecma_grammar.specs.Made.{made}
use Rattle.ecma_grammar.specs.Grammar as grammar
use Rattle.ecma_grammar.specs.Grammar.{Grammar}
use Rattle.ecma_grammar.specs.PartBodies.{part_body}
use Rattle.ecma_print_tokens.specs.Items.{number, Items, it}
use Rattle.ecma_shapes.proofs.Signs.{count}
use Rattle.ecma_print_tokens.specs.Taking as taking
use Rattle.ecma_print_tokens.specs.Taking.{Took, took, refused, token_in, leaf_in, leaf_kind, new_line_in}

-- nodes were read, and these tokens stand behind them; nothing is; or the text may be read otherwise than as these tokens
pub data Out : Type 0 where
  read : List Node → Items → Out
  fails unsure : Out

abbrev pub Turn : Type 0
Turn = Items → Out

abbrev pub taken : Took → Out
taken (took w ts) = read [] ts
taken refused = fails
taken taking.unsure = unsure

abbrev pub spanless : Kind → Node
spanless k = node_of dummy_span k []

abbrev pub kept : Leaf → Took → Out
kept l (took w ts) = read (spanless (leaf_kind l w) ∷ []) ts
kept l refused = fails
kept l taking.unsure = unsure

abbrev pub behind_on : Turn → Took → Out
behind_on f (took w ts) = f ts
behind_on f refused = fails
behind_on f taking.unsure = unsure

abbrev pub with_front : List Node → Out → Out
with_front xs (read ys ts) = read (xs ++ ys) ts
with_front xs fails = fails
with_front xs unsure = unsure

abbrev pub followed_on : Turn → Out → Out
followed_on f (read xs ts) = with_front xs (f ts)
followed_on f fails = fails
followed_on f unsure = unsure

abbrev pub or_on : Turn → Items → Out → Out
or_on f ts (read xs us) = read xs us
or_on f ts fails = f ts
or_on f ts unsure = unsure

abbrev pub many_on : Turn → Items → Out → Out
many_on f ts (read xs us) = with_front xs (f us)
many_on f ts fails = read [] ts
many_on f ts unsure = unsure

-- each part takes a token, so that as many times as there are tokens suffice
unfoldable pub many_up_to : Turn → ℕ → Turn
many_up_to f zero ts = read [] ts
many_up_to f (suc n) ts = many_on (many_up_to f n) ts (f ts)

abbrev pub ahead_on : Items → Out → Out
ahead_on ts (read xs us) = read [] ts
ahead_on ts fails = fails
ahead_on ts unsure = unsure

abbrev pub unless_on : Items → Out → Out
unless_on ts (read xs us) = fails
unless_on ts fails = read [] ts
unless_on ts unsure = unsure

abbrev pub built_on : Form → Out → Out
built_on form (read xs ts) = read (made form 0 0 xs ∷ []) ts
built_on form fails = fails
built_on form unsure = unsure

-- a grammar without its first alternatives
abbrev pub without : ℕ → Grammar → Grammar
without zero g = g
without (suc n) (grammar.◌//◌ a b) = without n b
without (suc n) g = g

-- what a part reads where these tokens stand: at a numeral behind `new`, which may begin with a point, no `.target`
abbrev pub body_at : Part → Items → Grammar
body_at part.New (it g (number w) ts) = without 1 (part_body part.New)
body_at u ts = part_body u

-- what a grammar reads where parts read as they are said to; whether `import a = require("m")` and `export =` are read is given
module _ (assignments : Bool) where
  abbrev pub interp : (Part → Turn) → Grammar → Turn
  interp p grammar.nothing ts = read [] ts
  interp p grammar.same_line ts = if new_line_in ts then fails else read [] ts
  interp p (grammar.take t) ts = taken (token_in t ts)
  interp p (grammar.keep l) ts = kept l (leaf_in l ts)
  interp p (grammar.put f) ts = read (flag_node f ∷ []) ts
  interp p (grammar.◌▸◌ a b) ts = followed_on (interp p b) (interp p a ts)
  interp p (grammar.◌//◌ a b) ts = or_on (interp p b) ts (interp p a ts)
  interp p (grammar.many a) ts = many_up_to (interp p a) (suc (count ts)) ts
  interp p (grammar.ahead a) ts = ahead_on ts (interp p a ts)
  interp p (grammar.unless a) ts = unless_on ts (interp p a ts)
  interp p (grammar.marked a) ts = fails
  interp p (grammar.assigned a) ts = if assignments then interp p a ts else fails
  interp p (grammar.up u) ts = p u ts
  interp p (grammar.enter u) ts = p u ts
  interp p (grammar.behind t u) ts = behind_on (p u) (token_in t ts)
  interp p (grammar.build f a) ts = built_on f (interp p a ts)

  -- with so many levels, at the end of which nothing is read
  unfoldable pub levels : ℕ → Part → Turn
  levels zero u ts = fails
  levels (suc n) u ts = interp (levels n) (body_at u ts) ts

  -- what a part reads: a level a token, and some, are enough
  unfoldable pub means : Part → Turn
  means u ts = levels (3 * count ts + 3) u ts
