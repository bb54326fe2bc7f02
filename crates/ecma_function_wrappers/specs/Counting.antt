-- The parameters that count in the length of a function, and what stands for them.
use Rattle.std.specs.Prelude.{ℕ, ◌-◌, Bool, true, false, ◌||◌, List, [], ◌∷◌, codes, count_by, take_while, if◌then◌else◌}
use Rattle.ecma_kind.specs.declared.kind.Kind.{Kind}
use Rattle.ecma_kind.specs.declared.kind.Kind.TheVariants as kind
use Rattle.ecma_kind.specs.declared.span.Span.{Span}
use Rattle.ecma_tree.specs.Nodes.{dummy_span, node_of}
use Rattle.ecma_tree.specs.declared.node.Node.{Node, out-Node}
use Rattle.ecma_utils.specs.Quotes.{name_of}
use Rattle.ecma_function_parts.specs.Drawing.{count}
use Rattle.ecma_function_parts.specs.Written.{binding_of, first_or_absent}

abbrev pub pattern_kind : Node → Kind
pattern_kind param = (out-Node (first_or_absent (out-Node param).children)).kind

abbrev pub is_name : Kind → Bool
is_name kind.BindingIdent = true
is_name _ = false

-- an array or object pattern
abbrev pub takes_apart : Kind → Bool
takes_apart (kind.ArrayPat optional) = true
takes_apart (kind.ObjectPat optional) = true
takes_apart _ = false

-- a parameter that is such a pattern
abbrev pub has_parts : Node → Bool
has_parts param = takes_apart (pattern_kind param)

-- it is a name or such a pattern, without a default and without `...`
abbrev pub counts : Node → Bool
counts param = is_name (pattern_kind param) || has_parts param

-- those before the first default or rest: as many as ECMAScript says is the length of the function (15.1.5)
abbrev pub that_count : List Node → List Node
that_count params = take_while counts params

-- in the place of a pattern
--   _
abbrev pub placeholder : Span → ℕ → Node
placeholder span ctxt = node_of span kind.Param (binding_of (name_of ctxt dummy_span (codes "_")) ∷ [])

-- what stands for a parameter: a name for itself
abbrev pub stand_in : Node → ℕ → Node
stand_in param ctxt = if has_parts param then placeholder (out-Node param).span ctxt else param

-- each `_` is in a context of its own, in a session with so many marks left
abbrev pub stand_ins : List Node → ℕ → List Node
stand_ins [] left = []
stand_ins (p ∷ ps) left = stand_in p left ∷ stand_ins ps (left - count (has_parts p))

-- what stands for the parameters of a function in one that is as long
abbrev pub counted : List Node → ℕ → List Node
counted params left = stand_ins (that_count params) left

-- how many contexts are drawn for it: one for each pattern
abbrev pub counted_draws : List Node → ℕ
counted_draws params = count_by has_parts (that_count params)
