-- Nodes that are made of links, one behind the other, where no optional chain and no `super` is among them.
use Rattle.std.proofs.Common.{◌≡◌, Bool, true, false, List, [], ◌∷◌, map, refl, ap, sym, ◌∙◌, if◌then◌else◌}
use Rattle.std.proofs.lemmas.Bool.{false≢true}
use Rattle.ecma_kind.specs.declared.span.Span.{Span}
use Rattle.ecma_kind.specs.declared.kind.Kind.{Kind}
use Rattle.ecma_kind.specs.declared.kind.Kind.TheVariants as kind
use Rattle.ecma_tree.specs.declared.node.Node.{Node}
use Rattle.ecma_tree.specs.declared.node.Node.TheViews.{out-roll-Node}
use Rattle.ecma_tree.specs.Nodes.{node_of, dummy_span, absent}
use Rattle.ecma_grammar.specs.trees.Parts.{kind_of, span_of, children_of, in_front}
use Rattle.ecma_grammar.specs.trees.Chains.{goes_on, goes_on_by, linked, callee_by, member_of, in_front_link}
use Rattle.ecma_print_readings.proofs.Unplaced.{goes_on_node}

pub kind-node : (at : Span) (k : Kind) (ns : List Node) → kind_of (node_of at k ns) ≡ k
kind-node at k ns = ap (λ p. p.kind) (out-roll-Node (record { span = at; kind = k; children = ns }))

pub children-node : (at : Span) (k : Kind) (ns : List Node) → children_of (node_of at k ns) ≡ ns
children-node at k ns = ap (λ p. p.children) (out-roll-Node (record { span = at; kind = k; children = ns }))

pub span-node : (at : Span) (k : Kind) (ns : List Node) → span_of (node_of at k ns) ≡ at
span-node at k ns = ap (λ p. p.span) (out-roll-Node (record { span = at; kind = k; children = ns }))

pub ruleset nodes = (kind-node, children-node, span-node)

abbrev pub bare : Kind → List Node → Node
bare k ns = node_of dummy_span k ns

-- no link behind a node of the kind means something else
abbrev pub is_head : Kind → Bool
is_head (kind.Ident sym ctxt optional) = true
is_head (kind.Str value raw) = true
is_head (kind.Number value raw) = true
is_head (kind.Bool value) = true
is_head kind.Null = true
is_head kind.ThisExpr = true
is_head (kind.BigInt value raw) = true
is_head kind.MemberExpr = true
is_head kind.CallExpr = true
is_head kind.ParenExpr = true
is_head kind.ArrayLit = true
is_head kind.NewExpr = true
is_head kind.Tpl = true
is_head kind.TaggedTpl = true
is_head (kind.Regex body flags) = true
is_head kind.SuperPropExpr = true
is_head (kind.MetaPropExpr property) = true
is_head kind.ObjectLit = true
is_head kind.FnExpr = true
is_head kind.ClassExpr = true
is_head k = false

stays_by : (k : Kind) → is_head k ≡ true → (bs : List Bool) → goes_on_by k bs ≡ false
stays_by (kind.OptChainExpr optional) h bs = absurd (false≢true h)
stays_by kind.TsNonNullExpr h bs = absurd (false≢true h)
stays_by kind.TsInstantiation h bs = absurd (false≢true h)
stays_by k h bs = refl

stays : (k : Kind) → is_head k ≡ true → (ns : List Node) → goes_on (bare k ns) ≡ false
stays k h ns = goes_on_node dummy_span k ns ∙ stays_by k h (map goes_on ns)

member_by : (k : Kind) → is_head k ≡ true → (x n : Node) → member_of x n k ≡ (if goes_on x then linked (in_front x n) else in_front x n)
member_by kind.Super h x n = absurd (false≢true h)
member_by k h x n = refl

callee_by_itself : (k : Kind) → is_head k ≡ true → (x : Node) → callee_by x k ≡ (x, absent)
callee_by_itself kind.TsInstantiation h x = absurd (false≢true h)
callee_by_itself k h x = refl

pub member_made : (k : Kind) → is_head k ≡ true → (ns : List Node) (key : Node) → in_front_link (bare k ns) (bare kind.MemberExpr (absent ∷ key ∷ [])) ≡ bare kind.MemberExpr (bare k ns ∷ key ∷ [])
member_made k h ns key = simp nodes (member_by k h (bare k ns) (bare kind.MemberExpr (absent ∷ key ∷ [])) ∙ rw (stays k h ns) (simp nodes))

pub call_made : (k : Kind) → is_head k ≡ true → (ns : List Node) (args : Node) → in_front_link (bare k ns) (bare kind.CallExpr (absent ∷ args ∷ absent ∷ [])) ≡ bare kind.CallExpr (bare k ns ∷ args ∷ absent ∷ [])
call_made k h ns args = simp nodes (rw (callee_by_itself k h (bare k ns), stays k h ns) refl)

-- an optional chain: links behind it belong to it
abbrev pub is_chain : Kind → Bool
is_chain (kind.OptChainExpr optional) = true
is_chain k = false

goes_by : (k : Kind) → is_chain k ≡ true → (bs : List Bool) → goes_on_by k bs ≡ true
goes_by (kind.OptChainExpr optional) h bs = refl
goes_by k h bs = absurd (false≢true h)

goes : (k : Kind) → is_chain k ≡ true → (ns : List Node) → goes_on (bare k ns) ≡ true
goes k h ns = goes_on_node dummy_span k ns ∙ goes_by k h (map goes_on ns)

chain_member_by : (k : Kind) → is_chain k ≡ true → (x n : Node) → member_of x n k ≡ (if goes_on x then linked (in_front x n) else in_front x n)
chain_member_by kind.Super h x n = absurd (false≢true h)
chain_member_by k h x n = refl

chain_by_itself : (k : Kind) → is_chain k ≡ true → (x : Node) → callee_by x k ≡ (x, absent)
chain_by_itself kind.TsInstantiation h x = absurd (false≢true h)
chain_by_itself k h x = refl

pub chain_member_made : (k : Kind) → is_chain k ≡ true → (ns : List Node) (key : Node) → in_front_link (bare k ns) (bare kind.MemberExpr (absent ∷ key ∷ [])) ≡ bare (kind.OptChainExpr false) (bare kind.MemberExpr (bare k ns ∷ key ∷ []) ∷ [])
chain_member_made k h ns key = simp nodes (chain_member_by k h (bare k ns) (bare kind.MemberExpr (absent ∷ key ∷ [])) ∙ rw (goes k h ns) (simp nodes))

pub chain_call_made : (k : Kind) → is_chain k ≡ true → (ns : List Node) (args : Node) → in_front_link (bare k ns) (bare kind.CallExpr (absent ∷ args ∷ absent ∷ [])) ≡ bare (kind.OptChainExpr false) (bare kind.OptCall (bare k ns ∷ args ∷ absent ∷ []) ∷ [])
chain_call_made k h ns args = simp nodes (rw (chain_by_itself k h (bare k ns), goes k h ns) refl)

pub optional_made : (k : Kind) (ns : List Node) (b : Kind) (xs : List Node) → in_front_link (bare k ns) (bare (kind.OptChainExpr true) (bare b (absent ∷ xs) ∷ [])) ≡ bare (kind.OptChainExpr true) (bare b (bare k ns ∷ xs) ∷ [])
optional_made k ns b xs = simp nodes

-- a template behind a tag
pub tagged_made : (k : Kind) → is_head k ≡ true → (ns : List Node) (template : Node) → in_front_link (bare k ns) (bare kind.TaggedTpl (absent ∷ absent ∷ template ∷ [])) ≡ bare kind.TaggedTpl (bare k ns ∷ absent ∷ template ∷ [])
tagged_made k h ns template = simp nodes (rw (callee_by_itself k h (bare k ns)) refl)

-- links behind `super`

pub super_member_made : (key : Node) → in_front_link (bare kind.Super []) (bare kind.MemberExpr (absent ∷ key ∷ [])) ≡ bare kind.SuperPropExpr (bare kind.Super [] ∷ key ∷ [])
super_member_made key = simp nodes

pub super_call_made : (args : Node) → in_front_link (bare kind.Super []) (bare kind.CallExpr (absent ∷ args ∷ absent ∷ [])) ≡ bare kind.CallExpr (bare kind.Super [] ∷ args ∷ absent ∷ [])
super_call_made args = simp nodes (rw (goes_on_node dummy_span kind.Super []) refl)
