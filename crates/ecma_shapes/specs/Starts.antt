-- What an expression begins with: no expression that is a statement begins with `{` or with a word of a declaration, none that is the body of an arrow
-- function with `{`, and none that is exported by default with such a word (ECMAScript, 14.5, 15.3, 16.2.3). None begins with `let [`: no name is `let`.
use Rattle.std.specs.Prelude.{Bool, true, false, List, [], ◌∷◌}
use Rattle.ecma_kind.specs.declared.kind.Kind.{Kind}
use Rattle.ecma_kind.specs.declared.kind.Kind.TheVariants as kind
use Rattle.ecma_tree.specs.declared.node.Node.{Node, Node-F, fold-Node}

-- `{`; `function`, `async function` or `class`; anything else
pub data Start : Type 0 where
  brace declaration_word other_start : Start

abbrev pub is_brace : Start → Bool
is_brace brace = true
is_brace s = false

abbrev pub is_declaration_word : Start → Bool
is_declaration_word declaration_word = true
is_declaration_word s = false

abbrev pub first_start : List Start → Start
first_start [] = other_start
first_start (s ∷ ss) = s

-- what begins with its first part begins as that does
abbrev pub start_by : Kind → List Start → Start
start_by kind.ObjectLit ss = brace
start_by kind.FnExpr ss = declaration_word
start_by kind.ClassExpr ss = declaration_word
start_by kind.MemberExpr ss = first_start ss
start_by kind.CallExpr ss = first_start ss
start_by (kind.OptChainExpr optional) ss = first_start ss
start_by kind.OptCall ss = first_start ss
start_by kind.TaggedTpl ss = first_start ss
start_by (kind.UpdateExpr operator false) ss = first_start ss
start_by (kind.BinExpr operator) ss = first_start ss
start_by (kind.AssignExpr operator) ss = first_start ss
start_by kind.CondExpr ss = first_start ss
start_by kind.SeqExpr ss = first_start ss
start_by k ss = other_start

abbrev pub start_step : Node-F Start → Start
start_step parts = start_by parts.kind parts.children

abbrev pub start_of : Node → Start
start_of = fold-Node Start start_step
