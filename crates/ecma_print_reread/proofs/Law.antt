-- The layout of a module is read again as that module.
use Rattle.std.proofs.Common.{◌≡◌, ◌+◌, ◌*◌, List, [], ◌∷◌, map}
use Rattle.ecma_tree.specs.declared.node.Node.{Node}
use Rattle.ecma_tree.specs.Spans.{without_spans}
use Rattle.ecma_grammar.specs.Reading as reading
use Rattle.ecma_grammar.specs.Reading.{Position, Outcome}
use Rattle.ecma_print.specs.Layout.{layout}
use Rattle.ecma_print_tokens.specs.Good.{Good}
use Rattle.ecma_print_tokens.proofs.Leaves.{lexes}
use Rattle.ecma_print_tokens.proofs.Joining.{joined_good}
use Rattle.ecma_print_reread.specs.Laws.{ModulesAreReadAgain}
use Rattle.ecma_print_reread.proofs.Texts.{text_read}
use Rattle.ecma_print_layouts.proofs.ModuleLayouts.{module_laid}
use Rattle.ecma_print_layouts.proofs.Joins.{good_long}
use Rattle.ecma_print_layouts.proofs.ModuleJoins.{module_joined}
use Rattle.ecma_print_layouts.proofs.Words.{layout_words}
use Rattle.ecma_print_reread.proofs.Targets.{no_target}
use Rattle.ecma_shapes.proofs.Signs.{count}
use Rattle.ecma_shapes.proofs.ModuleTokens.{module_tokens}

-- the one tree that is read
the_tree : (o : Outcome (List Node)) (x : Node) (ys : List Node) (t : Position) → o ≡ reading.read ys t → map without_spans ys ≡ x ∷ [] → (again : Node) × (s : Position) × (o ≡ reading.read (again ∷ []) s) × (without_spans again ≡ x)
the_tree o x [] t e h = absurd (let z : ⊥ = cc in z)
the_tree o x (y ∷ []) t e h = (y, t, e, cc)
the_tree o x (y ∷ z ∷ zs) t e h = absurd (let z : ⊥ = cc in z)

pub modules_read : ModulesAreReadAgain
modules_read assignments tree is = (
  3 * count (module_tokens is) + 2,
  λ bound e.
      (let g = text_read assignments Good (layout tree) (lexes (layout tree)) good_long (no_target (layout tree)) bound tree is (module_laid is) (joined_good (module_tokens is) (module_joined layout_words is)) e in
      the_tree _ (without_spans tree) g.value g.state g.is g.holds),
)
