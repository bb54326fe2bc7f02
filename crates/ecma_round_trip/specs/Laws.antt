-- What fits is read again (ECMAScript, 16.2): the layout of a plain module is a plain module, of the same tree.
use Rattle.std.specs.Prelude.{◌≡◌, Bool}
use Rattle.ecma_tree.specs.declared.node.Node.{Node}
use Rattle.ecma_tree.specs.Spans.{without_spans}
use Rattle.ecma_scope.specs.Laws.{without_contexts}
use Rattle.ecma_print.specs.Layout.{layout}
use Rattle.ecma_print.specs.Explicit.{explicit}
use Rattle.ecma_plain.specs.Read.{IsReadPlain}
use Rattle.ecma_plain.specs.Texts.{IsPlainModule}

-- a tree is what the layout of a module is read as, up to spans: the module without contexts, in which the parentheses of the layout are nodes
abbrev pub IsReadAgain : Node → Node → Type 0
IsReadAgain tree again = without_spans again ≡ without_spans (explicit (without_contexts tree))

abbrev pub WhatFitsIsReadAgain : Type 0
WhatFitsIsReadAgain =
    (assignments : Bool) (tree : Node) → IsReadPlain assignments tree
    → (again : Node) × IsPlainModule assignments (layout tree) again × IsReadAgain tree again
