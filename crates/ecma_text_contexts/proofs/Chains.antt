-- Chains weigh no more than their parts.
use Rattle.std.proofs.Common.{◌≤◌, ℕ, ◌+◌, Bool, true, false, ◌&&◌, List, [], ◌∷◌, length, filter, refl, arith, Some, None}
use Rattle.std.specs.Prelude.{slice_set, unwrap_or, if◌then◌else◌, ◌==◌}
use Rattle.std.proofs.lemmas.List.Sums.{sum_by-cons}
use Rattle.std.proofs.lemmas.List.Filters.{sum_by-filter_both}
use Rattle.ecma_kind.specs.declared.span.Span.{Span}
use Rattle.ecma_kind.specs.declared.operators.MetaPropKind.TheVariants.{NewTarget}
use Rattle.ecma_kind.specs.declared.kind.Kind.{Kind}
use Rattle.ecma_kind.specs.declared.kind.Kind.TheVariants as kind
use Rattle.ecma_tree.specs.declared.node.Node.{Node}
use Rattle.ecma_tree.specs.Nodes.{absent, list_node, node_of}
use Rattle.ecma_grammar.specs.trees.Parts.{by_frame, children_of, framed, from_to, in_front, kind_of, span_of}
use Rattle.ecma_grammar.specs.trees.Chains.{Callee, all_steps, call_of, callee_by, callee_of, chained, construction, goes_on, in_front_link, in_front_logical, instantiated, is_and, is_or, is_substitution, is_text_part, link_by, linked, links, logical, member_of, new_expr, optional_of, right_in_front, steps, tagged_of, template}
use Rattle.ecma_text_contexts.proofs.Weights.{either_weighs, first_set, here, list_weight, missing_weighs_little, missing_weighs_nothing, weight, weight_made, weight_parts, weights}

pub framed_weighs : (n : ℕ) (f : List Node → Node) (xs : List Node) (most : ℕ) → weight (f xs) ≤ most → weight (framed n f xs) ≤ most
framed_weighs n f xs most h = go (length xs == n)
  where
    go : (b : Bool) → weight (by_frame f (if b then Some xs else None)) ≤ most
    go true = h
    go false = missing_weighs_little most

in_front_light : (x n : Node) → weight (in_front x n) ≤ weight x + weight n
in_front_light x n =
    let a = weight_made (from_to (span_of x).lo (span_of n).hi) (kind_of n) (slice_set (children_of n) 0 x) in
    let b = first_set x (children_of n) in
    let c = weight_parts n in
    omega arith

module _ (step : Node → Node → Node) (light : (x n : Node) → weight (step x n) ≤ weight x + weight n) where
  steps_light : (x : Node) (xs : List Node) → weight (unwrap_or (steps step (Some x) xs) absent) ≤ weight x + weights xs
  steps_light x [] = omega arith
  steps_light x (n ∷ ns) =
      let a = steps_light (step x n) ns in
      let b = light x n in
      let c = sum_by-cons weight n ns in
      omega arith

  all_steps_light : (xs : List Node) → weight (all_steps step xs) ≤ weights xs
  all_steps_light [] = missing_weighs_little 0
  all_steps_light (n ∷ ns) =
      let a = steps_light n ns in
      let b = sum_by-cons weight n ns in
      omega arith

pub chained_light : (xs : List Node) → weight (chained xs) ≤ weights xs
chained_light xs = all_steps_light in_front in_front_light xs

-- `&&` behind `||`

right_light : (at : Span) (k : Kind) (n : Node) (children : List Node) → weight (right_in_front at k n children) ≤ here k + weights children + weight n
right_light at k n (left ∷ right ∷ []) =
    let a = weight_made at k (left ∷ in_front right n ∷ []) in
    let b = in_front_light right n in
    omega arith
right_light at k n children = missing_weighs_little _

logical_step : (x n : Node) → weight (in_front_logical x n) ≤ weight x + weight n
logical_step x n =
    let at = from_to (span_of x).lo (span_of n).hi in
    let a : here (kind_of x) + weights (children_of x) + weight n ≤ weight x + weight n = (let p = weight_parts x in omega arith) in
    let b = right_light at (kind_of x) n (children_of x) in
    either_weighs (is_and (kind_of n) && is_or (kind_of x)) _ _ (weight x + weight n) (framed_weighs 2 (right_in_front at (kind_of x) n) (children_of x) (weight x + weight n) (omega arith)) (in_front_light x n)

pub logical_light : (xs : List Node) → weight (logical xs) ≤ weights xs
logical_light xs = all_steps_light in_front_logical logical_step xs

-- members, calls and templates

linked_light : (n : Node) → weight (linked n) ≤ weight n
linked_light n = let a = weight_made (span_of n) (kind.OptChainExpr false) (n ∷ []) in omega arith

abbrev callee_weight : Callee → ℕ
callee_weight c = weight c.0 + weight c.1

no_callee_light : (most : ℕ) → callee_weight (absent, absent) ≤ most
no_callee_light most = let a = missing_weighs_nothing in omega arith

instantiated_light : (b : Bool) (xs : List Node) (most : ℕ) → weights xs ≤ most → callee_weight (instantiated (if b then Some xs else None)) ≤ most
instantiated_light true (callee ∷ type_args ∷ []) most h = omega arith
instantiated_light true xs most h = no_callee_light most
instantiated_light false xs most h = no_callee_light most

callee_by_light : (x : Node) (k : Kind) → callee_weight (callee_by x k) ≤ weight x
callee_by_light x kind.TsInstantiation = let a = weight_parts x in instantiated_light (length (children_of x) == 2) (children_of x) (weight x) (omega arith)
callee_by_light x _ = let a = missing_weighs_nothing in omega arith

callee_light : (x : Node) → callee_weight (callee_of x) ≤ weight x
callee_light x = callee_by_light x (kind_of x)

member_light : (x n : Node) (k : Kind) → weight (member_of x n k) ≤ weight x + weight n
member_light x n kind.Super =
    let a = weight_made (from_to (span_of x).lo (span_of n).hi) kind.SuperPropExpr (slice_set (children_of n) 0 x) in
    let b = first_set x (children_of n) in
    let c = weight_parts n in
    omega arith
member_light x n _ =
    let a = in_front_light x n in
    let b = linked_light (in_front x n) in
    either_weighs (goes_on x) _ _ (weight x + weight n) (omega arith) a

call_light : (at : Span) (c : Callee) (xs : List Node) → weight (call_of at c xs) ≤ callee_weight c + weights xs
call_light at (callee, type_args) (none ∷ args ∷ no_types ∷ []) =
    let a = weight_made at kind.OptCall (callee ∷ args ∷ type_args ∷ []) in
    let b = weight_made at kind.CallExpr (callee ∷ args ∷ type_args ∷ []) in
    let c = linked_light (node_of at kind.OptCall (callee ∷ args ∷ type_args ∷ [])) in
    either_weighs (goes_on callee) _ _ _ (omega arith) (omega arith)
call_light at (callee, type_args) xs = missing_weighs_little _

tagged_light : (at : Span) (c : Callee) (xs : List Node) → weight (tagged_of at c xs) ≤ callee_weight c + weights xs
tagged_light at (tag, type_args) (none ∷ no_types ∷ template ∷ []) = let a = weight_made at kind.TaggedTpl (tag ∷ type_args ∷ template ∷ []) in omega arith
tagged_light at (tag, type_args) xs = missing_weighs_little _

optional_light : (at : Span) (x : Node) (xs : List Node) → weight (optional_of at x xs) ≤ weight x + weights xs
optional_light at x (base ∷ []) =
    let a = weight_made at (kind.OptChainExpr true) (in_front x base ∷ []) in
    let b = in_front_light x base in
    omega arith
optional_light at x xs = missing_weighs_little _

link_light : (x n : Node) (k : Kind) → weight (link_by x n k) ≤ weight x + weight n
link_light x n kind.MemberExpr = member_light x n (kind_of x)
link_light x n kind.CallExpr =
    let at = from_to (span_of x).lo (span_of n).hi in
    let a = call_light at (callee_of x) (children_of n) in
    let b = callee_light x in
    let c = weight_parts n in
    framed_weighs 3 (call_of at (callee_of x)) (children_of n) (weight x + weight n) (omega arith)
link_light x n kind.TaggedTpl =
    let at = from_to (span_of x).lo (span_of n).hi in
    let a = tagged_light at (callee_of x) (children_of n) in
    let b = callee_light x in
    let c = weight_parts n in
    framed_weighs 3 (tagged_of at (callee_of x)) (children_of n) (weight x + weight n) (omega arith)
link_light x n (kind.OptChainExpr optional) =
    let at = from_to (span_of x).lo (span_of n).hi in
    let a = optional_light at x (children_of n) in
    let c = weight_parts n in
    framed_weighs 1 (optional_of at x) (children_of n) (weight x + weight n) (omega arith)
link_light x n _ = in_front_light x n

pub links_light : (xs : List Node) → weight (links xs) ≤ weights xs
links_light xs = all_steps_light in_front_link (λ x n. link_light x n (kind_of n)) xs

new_light : (at : Span) (xs : List Node) → weight (new_expr at xs) ≤ weights xs
new_light at (callee ∷ type_args ∷ args ∷ []) = let a = weight_made at kind.NewExpr (callee ∷ args ∷ type_args ∷ []) in omega arith
new_light at xs = missing_weighs_little _

pub construction_light : (at : Span) (xs : List Node) → weight (construction at xs) ≤ weights xs
construction_light at xs =
    let a = weight_made at (kind.MetaPropExpr NewTarget) [] in
    either_weighs (length xs == 0) _ _ (weights xs) (omega arith) (framed_weighs 3 (new_expr at) xs (weights xs) (new_light at xs))

pub template_light : (at : Span) (xs : List Node) → weight (template at xs) ≤ weights xs
template_light at xs =
    let substitutions = list_node (filter is_substitution xs) in
    let texts = list_node (filter is_text_part xs) in
    let a = weight_made at kind.Tpl (substitutions ∷ texts ∷ []) in
    let b = list_weight (filter is_substitution xs) in
    let c = list_weight (filter is_text_part xs) in
    let d = sum_by-filter_both is_text_part is_substitution (λ x. refl) weight xs in
    omega arith
