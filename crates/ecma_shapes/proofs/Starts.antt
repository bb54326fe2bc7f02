-- What an expression begins with, by its shape.
use Rattle.std.proofs.Common.{◌≡◌, Bool, false, ◌&&◌, ◌||◌, List, [], map, refl, sym, ◌∙◌}
use Rattle.std.proofs.lemmas.Bool.{false≢true}
use Rattle.ecma_kind.specs.declared.span.Span.{Span}
use Rattle.ecma_kind.specs.declared.kind.Kind.{Kind}
use Rattle.ecma_kind.specs.declared.kind.Kind.TheVariants as kind
use Rattle.ecma_tree.specs.declared.node.Node.{Node, fold-roll-Node}
use Rattle.ecma_tree.specs.Nodes.{node_of}
use Rattle.ecma_print.specs.declared.place.Begins.{Begins}
use Rattle.ecma_print.specs.declared.place.Begins.TheVariants.{Anywhere, StatementStart, ArrowBodyStart, DefaultStart}
use Rattle.ecma_print.specs.Places.{opens_a_block, opens_a_declaration}
use Rattle.ecma_shapes.specs.Starts.{Start, brace, declaration_word, other_start, is_brace, is_declaration_word, start_by, start_step, start_of}
use Rattle.ecma_shapes.specs.Shapes as shapes
use Rattle.ecma_shapes.specs.Shapes.{Level, IsExpression, assignment_expression, binary_expression, both, call, coalesced, conditional_expression, either, element, exponentiation, looser, member, object_literal, function_expression, class_expression, postfix_update, sequence_expression, tagged_template, chain_member, chain_element, chain_call}

-- of a shape: by its outermost left part
abbrev pub start : {level : Level} {e : Node} → IsExpression level e → Start
start (looser e) = start e
start (member at i o k) = start o
start (call at c es none) = start c
start (element at at' i o e) = start o
start (chain_member at a i o k) = start o
start (chain_element at a b i o e) = start o
start (chain_call at a i o es none) = start o
start (tagged_template at a b c i o none ps) = start o
start (postfix_update at o e) = start e
start (binary_expression at i l r) = start l
start (exponentiation at l r) = start l
start (both at l r) = start l
start (either at l r) = start l
start (coalesced at i l r) = start l
start (assignment_expression at o t v) = start t
start (conditional_expression at t x y) = start t
start (sequence_expression at x y es) = start x
start (object_literal at at' ps) = brace
start (function_expression at i f) = declaration_word
start (class_expression at i c) = declaration_word
start e = other_start

starts_node : (at : Span) (k : Kind) (cs : List Node) → start_of (node_of at k cs) ≡ start_by k (map start_of cs)
starts_node at k cs = fold-roll-Node Start start_step (record { span = at; kind = k; children = cs })

pub starts_agree : {level : Level} {e : Node} (is : IsExpression level e) → start_of e ≡ start is
starts_agree (shapes.looser e) = starts_agree e
starts_agree (shapes.member at i o k) = starts_node at _ _ ∙ starts_agree o
starts_agree (shapes.call at c es none) = starts_node at _ _ ∙ starts_agree c
starts_agree (shapes.element at at' i o e) = starts_node at _ _ ∙ starts_agree o
starts_agree (shapes.chain_member at a i o k) = starts_node at _ _ ∙ (starts_node a _ _ ∙ starts_agree o)
starts_agree (shapes.chain_element at a b i o e) = starts_node at _ _ ∙ (starts_node a _ _ ∙ starts_agree o)
starts_agree (shapes.chain_call at a i o es none) = starts_node at _ _ ∙ (starts_node a _ _ ∙ starts_agree o)
starts_agree (shapes.tagged_template at a b c i o none ps) = starts_node at _ _ ∙ starts_agree o
starts_agree (shapes.postfix_update at o e) = starts_node at _ _ ∙ starts_agree e
starts_agree (shapes.binary_expression at i l r) = starts_node at _ _ ∙ starts_agree l
starts_agree (shapes.exponentiation at l r) = starts_node at _ _ ∙ starts_agree l
starts_agree (shapes.both at l r) = starts_node at _ _ ∙ starts_agree l
starts_agree (shapes.either at l r) = starts_node at _ _ ∙ starts_agree l
starts_agree (shapes.coalesced at i l r) = starts_node at _ _ ∙ starts_agree l
starts_agree (shapes.assignment_expression at o t v) = starts_node at _ _ ∙ starts_agree t
starts_agree (shapes.conditional_expression at t x y) = starts_node at _ _ ∙ starts_agree t
starts_agree (shapes.sequence_expression at x y es) = starts_node at _ _ ∙ starts_agree x
starts_agree (shapes.super_call at at' es none) = starts_node at _ _ ∙ starts_node at' kind.Super []
starts_agree (shapes.import_call at at' es none) = starts_node at _ _ ∙ starts_node at' kind.Import []
starts_agree (shapes.private_in at at' w t r) = starts_node at _ _ ∙ starts_node at' _ []
starts_agree (shapes.name (shapes.ident at w i)) = starts_node at _ _
starts_agree is = starts_node _ _ _

-- whether it would begin something else where a text begins so
abbrev pub misread : Begins → Start → Bool
misread b s = opens_a_block b && is_brace s || opens_a_declaration b && is_declaration_word s

pub brace_stands : (b : Begins) → misread b brace ≡ false → opens_a_block b ≡ false
brace_stands Anywhere h = refl
brace_stands StatementStart h = absurd (false≢true (sym h))
brace_stands ArrowBodyStart h = absurd (false≢true (sym h))
brace_stands DefaultStart h = refl

pub word_stands : (b : Begins) → misread b declaration_word ≡ false → opens_a_declaration b ≡ false
word_stands Anywhere h = refl
word_stands StatementStart h = absurd (false≢true (sym h))
word_stands ArrowBodyStart h = refl
word_stands DefaultStart h = absurd (false≢true (sym h))

pub statement_start : (s : Start) → s ≡ other_start → misread StatementStart s ≡ false
statement_start s e = rw e refl

pub body_start : (s : Start) → is_brace s ≡ false → misread ArrowBodyStart s ≡ false
body_start brace h = h
body_start declaration_word h = refl
body_start other_start h = refl

pub default_start : (s : Start) → is_declaration_word s ≡ false → misread DefaultStart s ≡ false
default_start brace h = refl
default_start declaration_word h = h
default_start other_start h = refl
