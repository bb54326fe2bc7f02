-- Functions weigh no more than their parts and one, and what is declared no more than its parts.
use Rattle.std.proofs.Common.{◌≡◌, ◌≤◌, ◌+◌, Bool, false, List, [], ◌∷◌, codes, length, map, refl, arith}
use Rattle.std.specs.Prelude.{if◌then◌else◌, ◌==◌}
use Rattle.std.proofs.lemmas.List.Sums.{sum_by-cons}
use Rattle.ecma_kind.specs.declared.span.Span.{Span}
use Rattle.ecma_kind.specs.declared.kind.Kind.{Kind}
use Rattle.ecma_kind.specs.declared.kind.Kind.TheVariants as kind
use Rattle.ecma_tree.specs.declared.node.Node.{Node}
use Rattle.ecma_tree.specs.Nodes.{absent, node_of}
use Rattle.ecma_grammar.specs.trees.Parts.{children_of, from_to, is_absent, is_present, kind_of, span_of}
use Rattle.ecma_grammar.specs.trees.Functions.{accessibility_of, annotated, annotated_of, annotated_pattern, arrow, declarator, end_of, function, function_of, getter, has_word, is_this, parameter, parameters, questioned_kind, questioned_part, setter, setter_by, setter_of, wrapped, wrapped_by, yield_}
use Rattle.ecma_text_contexts.proofs.Weights.{either_weigh, either_weighs, here, here_at_most_one, list_weight, missing_weighs_little, missing_weighs_nothing, weight, weight_made, weight_parts, weights, worth}
use Rattle.ecma_text_contexts.proofs.Chains.{framed_weighs}

-- patterns with a `?` and an annotation

questioned_here : (optional : Bool) (k : Kind) → here (questioned_kind optional k) ≡ here k
questioned_here optional (kind.Ident text ctxt before) = refl
questioned_here optional (kind.ArrayPat before) = refl
questioned_here optional (kind.ObjectPat before) = refl
questioned_here optional _ = refl

questioned_light : (optional : Bool) (k : Kind) (n : Node) → weight (questioned_part optional k n) ≤ weight n
questioned_light optional kind.BindingIdent n =
    let a = weight_made (span_of n) (questioned_kind optional (kind_of n)) (children_of n) in
    let b = questioned_here optional (kind_of n) in
    let c = weight_parts n in
    omega arith
questioned_light optional _ n = omega arith

annotated_of_light : (at : Span) (k : Kind) (optional : Bool) (annotation : Node) (xs : List Node) → weight (annotated_of at k optional annotation xs) ≤ here k + weights xs + weight annotation
annotated_of_light at k optional annotation (part ∷ none ∷ []) =
    let a = weight_made at (questioned_kind optional k) (questioned_part optional k part ∷ annotation ∷ []) in
    let b = questioned_here optional k in
    let c = questioned_light optional k part in
    omega arith
annotated_of_light at k optional annotation xs = missing_weighs_little _

annotated_pattern_light : (at : Span) (pattern : Node) (optional : Bool) (annotation : Node) → weight (annotated_pattern at pattern optional annotation) ≤ weight pattern + weight annotation
annotated_pattern_light at pattern optional annotation =
    let a = annotated_of_light at (kind_of pattern) optional annotation (children_of pattern) in
    let b = weight_parts pattern in
    framed_weighs 2 (annotated_of at (kind_of pattern) optional annotation) (children_of pattern) (weight pattern + weight annotation) (omega arith)

pub annotated_light : (at : Span) (xs : List Node) → weight (annotated at xs) ≤ weights xs
annotated_light at (pattern ∷ question ∷ annotation ∷ []) = let a = annotated_pattern_light at pattern (is_present question) annotation in omega arith
annotated_light at xs = missing_weighs_little _

pub declarator_light : (at : Span) (xs : List Node) → weight (declarator at xs) ≤ weights xs
declarator_light at (pattern ∷ exclamation ∷ annotation ∷ value ∷ []) =
    let within = from_to (span_of pattern).lo (end_of pattern annotation) in
    let a = annotated_pattern_light within pattern false annotation in
    let b = weight_made at (kind.VarDeclarator (is_present exclamation)) (annotated_pattern within pattern false annotation ∷ value ∷ []) in
    omega arith
declarator_light at xs = missing_weighs_little _

pub parameter_light : (at : Span) (xs : List Node) → weight (parameter at xs) ≤ weights xs
parameter_light at (modifiers ∷ pattern ∷ []) =
    let property = kind.TsParamProp (accessibility_of modifiers) (has_word (codes "override") modifiers) (has_word (codes "readonly") modifiers) in
    let a = weight_made at property (pattern ∷ []) in
    either_weighs (is_absent modifiers) pattern (node_of at property (pattern ∷ [])) (weights (modifiers ∷ pattern ∷ [])) (omega arith) (omega arith)
parameter_light at xs = missing_weighs_little _

-- functions

wrapped_light : (n : Node) (k : Kind) → weight (wrapped_by n k) ≤ weight n
wrapped_light n (kind.TsParamProp accessibility is_override readonly) = omega arith
wrapped_light n _ = let a = weight_made (span_of n) kind.Param (n ∷ []) in omega arith

all_wrapped_light : (ns : List Node) → weights (map wrapped ns) ≤ weights ns
all_wrapped_light [] = omega arith
all_wrapped_light (n ∷ ns) =
    let a = all_wrapped_light ns in
    let b = wrapped_light n (kind_of n) in
    let c = sum_by-cons weight n ns in
    let d = sum_by-cons weight (wrapped n) (map wrapped ns) in
    omega arith

pub parameters_light : (n : Node) → weight (parameters n) ≤ weight n
parameters_light n =
    let a = list_weight (map wrapped (children_of n)) in
    let b = all_wrapped_light (children_of n) in
    let c = weight_parts n in
    omega arith

pub function_of_light : (at : Span) (is_async is_generator : Bool) (type_params params return_type body : Node)
    → weight (function_of at is_async is_generator type_params params return_type body) ≤ 1 + (weight type_params + (weight params + (weight return_type + weight body)))
function_of_light at is_async is_generator type_params params return_type body =
    let a = weight_made at (kind.Function is_generator is_async) (parameters params ∷ body ∷ type_params ∷ return_type ∷ []) in
    let b = parameters_light params in
    omega arith

pub function_light : (at : Span) (k : Kind) (xs : List Node) → weight (function at k xs) ≤ worth xs
function_light at k (is_async ∷ is_generator ∷ name ∷ type_params ∷ params ∷ return_type ∷ body ∷ []) =
    let made = function_of at (is_present is_async) (is_present is_generator) type_params params return_type body in
    let a = weight_made at k (name ∷ made ∷ []) in
    let b = function_of_light at (is_present is_async) (is_present is_generator) type_params params return_type body in
    let c = here_at_most_one k in
    omega arith
function_light at k xs = missing_weighs_little _

pub arrow_light : (at : Span) (xs : List Node) → weight (arrow at xs) ≤ worth xs
arrow_light at (is_async ∷ type_params ∷ params ∷ return_type ∷ body ∷ []) =
    let a = weight_made at (kind.ArrowExpr (is_present is_async) false) (params ∷ body ∷ type_params ∷ return_type ∷ []) in
    omega arith
arrow_light at xs = missing_weighs_little _

pub yield_light : (at : Span) (xs : List Node) → weight (yield_ at xs) ≤ weights xs
yield_light at (star ∷ operand ∷ []) = let a = weight_made at (kind.YieldExpr (is_present star)) (operand ∷ []) in omega arith
yield_light at xs = missing_weighs_little _

pub getter_light : (at : Span) (xs : List Node) → weight (getter at xs) ≤ worth xs
getter_light at (key ∷ type_params ∷ params ∷ return_type ∷ body ∷ []) =
    let children = if length (children_of params) == 0 then key ∷ return_type ∷ body ∷ [] else key ∷ return_type ∷ body ∷ params ∷ [] in
    let a = weight_made at kind.GetterProp children in
    let b = either_weigh (length (children_of params) == 0) (key ∷ return_type ∷ body ∷ []) (key ∷ return_type ∷ body ∷ params ∷ []) (weight key + weight params + weight return_type + weight body) (omega arith) (omega arith) in
    omega arith
getter_light at xs = missing_weighs_little _

setter_of_light : (at : Span) (key this_param param body : Node) → weight (setter_of at key this_param param body) ≤ 1 + (weight key + (weight this_param + (weight param + weight body)))
setter_of_light at key this_param param body = let a = weight_made at kind.SetterProp (key ∷ this_param ∷ param ∷ body ∷ []) in omega arith

setter_by_light : (at : Span) (key params body : Node) (xs : List Node) → weights xs ≤ weight params → weight (setter_by at key params body xs) ≤ 1 + (weight key + (weight params + weight body))
setter_by_light at key params body (param ∷ []) h =
    let a = setter_of_light at key absent params body in
    let b = setter_of_light at key absent param body in
    let c = missing_weighs_nothing in
    either_weighs (is_this param) _ _ _ (omega arith) (omega arith)
setter_by_light at key params body (first ∷ second ∷ []) h =
    let a = setter_of_light at key first second body in
    let b = setter_of_light at key absent params body in
    let c = missing_weighs_nothing in
    either_weighs (is_this first) _ _ _ (omega arith) (omega arith)
setter_by_light at key params body xs h =
    let a = setter_of_light at key absent params body in
    let b = missing_weighs_nothing in
    omega arith

pub setter_light : (at : Span) (xs : List Node) → weight (setter at xs) ≤ worth xs
setter_light at (key ∷ type_params ∷ params ∷ return_type ∷ body ∷ []) =
    let a = weight_parts params in
    let b = setter_by_light at key params body (children_of params) (omega arith) in
    omega arith
setter_light at xs = missing_weighs_little _
