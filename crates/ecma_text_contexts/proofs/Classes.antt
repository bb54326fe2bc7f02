-- Classes and their members weigh no more than their parts and one.
use Rattle.std.proofs.Common.{◌≤◌, ◌+◌, Bool, false, List, [], ◌∷◌, None, codes, arith}
use Rattle.ecma_kind.specs.declared.span.Span.{Span}
use Rattle.ecma_kind.specs.declared.operators.MethodKind.{MethodKind}
use Rattle.ecma_kind.specs.declared.operators.MethodKind.TheVariants.{Method, Getter, Setter}
use Rattle.ecma_kind.specs.declared.operators.MemberModifiers.{MemberModifiers}
use Rattle.ecma_kind.specs.declared.kind.Kind.{Kind}
use Rattle.ecma_kind.specs.declared.kind.Kind.TheVariants as kind
use Rattle.ecma_tree.specs.declared.node.Node.{Node}
use Rattle.ecma_tree.specs.Nodes.{absent, node_of}
use Rattle.ecma_grammar.specs.trees.Parts.{children_of, is_present, kind_of}
use Rattle.ecma_grammar.specs.trees.Functions.{accessibility_of, function_of, has_word, parameters}
use Rattle.ecma_grammar.specs.trees.Classes.{class, constructor_of, field, field_kind, index_signature, is_constructor, member, member_by, method, method_by, method_kind, modified, new_signature, no_modifiers, type_signature}
use Rattle.ecma_text_contexts.proofs.Weights.{either_weighs, here_at_most_one, missing_weighs_little, weight, weight_made, weight_parts, weights, worth}
use Rattle.ecma_text_contexts.proofs.Chains.{framed_weighs}
use Rattle.ecma_text_contexts.proofs.Functions.{function_of_light, parameters_light}

pub class_light : (at : Span) (k : Kind) (is_abstract : Bool) (xs : List Node) → weight (class at k is_abstract xs) ≤ worth xs
class_light at k is_abstract (name ∷ type_params ∷ super_class ∷ super_type_params ∷ implements ∷ members ∷ []) =
    let body = node_of at (kind.Class is_abstract) (super_class ∷ members ∷ type_params ∷ super_type_params ∷ implements ∷ []) in
    let a = weight_made at k (name ∷ body ∷ []) in
    let b = weight_made at (kind.Class is_abstract) (super_class ∷ members ∷ type_params ∷ super_type_params ∷ implements ∷ []) in
    let c = here_at_most_one k in
    omega arith
class_light at k is_abstract xs = missing_weighs_little _

pub method_light : (at : Span) (m : MethodKind) (xs : List Node) → weight (method at m xs) ≤ worth xs
method_light at m (is_async ∷ is_generator ∷ key ∷ question ∷ exclamation ∷ type_params ∷ params ∷ return_type ∷ body ∷ []) =
    let k = method_kind key m (no_modifiers (is_present question)) in
    let made = function_of at (is_present is_async) (is_present is_generator) type_params params return_type body in
    let a = weight_made at k (key ∷ made ∷ []) in
    let b = function_of_light at (is_present is_async) (is_present is_generator) type_params params return_type body in
    let c = here_at_most_one k in
    omega arith
method_light at m xs = missing_weighs_little _

pub field_light : (at : Span) (xs : List Node) → weight (field at xs) ≤ worth xs
field_light at (key ∷ question ∷ exclamation ∷ annotation ∷ value ∷ []) =
    let k = field_kind key (no_modifiers (is_present question)) false false (is_present exclamation) in
    let a = weight_made at k (key ∷ value ∷ annotation ∷ []) in
    let b = here_at_most_one k in
    omega arith
field_light at xs = missing_weighs_little _

constructor_light : (at : Span) (modifiers : Node) (before : MemberModifiers) (key : Node) (xs : List Node) → weight (constructor_of at modifiers before key xs) ≤ 1 + (weight key + weights xs)
constructor_light at modifiers before key (params ∷ body ∷ type_params ∷ return_type ∷ []) =
    let a = weight_made at (kind.Constructor (accessibility_of modifiers) before.is_optional) (key ∷ params ∷ body ∷ []) in
    omega arith
constructor_light at modifiers before key xs = missing_weighs_little _

method_by_light : (at : Span) (modifiers : Node) (before : MemberModifiers) (xs : List Node) → weight (method_by at modifiers before xs) ≤ 1 + weights xs
method_by_light at modifiers before (key ∷ function ∷ []) =
    let a = constructor_light at modifiers before key (children_of function) in
    let b = weight_parts function in
    let c = weight_made at (kind.ClassMethod Method (modified modifiers before)) (key ∷ function ∷ []) in
    let most = 1 + (weight key + weight function) in
    let d = framed_weighs 4 (constructor_of at modifiers before key) (children_of function) most (omega arith) in
    either_weighs (is_constructor modifiers key function) _ _ _ (omega arith) (omega arith)
method_by_light at modifiers before xs = missing_weighs_little _

member_by_light : (at : Span) (modifiers : Node) (k : Kind) (xs : List Node) → weight (member_by at modifiers k xs) ≤ 1 + weights xs
member_by_light at modifiers (kind.ClassMethod Method before) xs = framed_weighs 2 (method_by at modifiers before) xs _ (method_by_light at modifiers before xs)
member_by_light at modifiers (kind.ClassMethod Getter before) xs = let a = weight_made at (kind.ClassMethod Getter (modified modifiers before)) xs in omega arith
member_by_light at modifiers (kind.ClassMethod Setter before) xs = let a = weight_made at (kind.ClassMethod Setter (modified modifiers before)) xs in omega arith
member_by_light at modifiers (kind.PrivateMethod k before) xs = let a = weight_made at (kind.PrivateMethod k (modified modifiers before)) xs in omega arith
member_by_light at modifiers (kind.ClassProp before readonly declare definite) xs = let a = weight_made at (kind.ClassProp (modified modifiers before) (has_word (codes "readonly") modifiers) (has_word (codes "declare") modifiers) definite) xs in omega arith
member_by_light at modifiers (kind.PrivateProp before readonly declare definite) xs = let a = weight_made at (kind.PrivateProp (modified modifiers before) (has_word (codes "readonly") modifiers) (has_word (codes "declare") modifiers) definite) xs in omega arith
member_by_light at modifiers k xs =
    let a = weight_made at k xs in
    let b = here_at_most_one k in
    omega arith

pub member_light : (at : Span) (xs : List Node) → weight (member at xs) ≤ worth xs
member_light at (modifiers ∷ n ∷ []) =
    let a = member_by_light at modifiers (kind_of n) (children_of n) in
    let b = weight_parts n in
    omega arith
member_light at xs = missing_weighs_little _

pub index_light : (at : Span) (xs : List Node) → weight (index_signature at xs) ≤ worth xs
index_light at (modifiers ∷ index ∷ annotation ∷ []) = let a = weight_made at (kind.TsIndexSignature (has_word (codes "readonly") modifiers) (has_word (codes "static") modifiers)) [] in omega arith
index_light at xs = missing_weighs_little _

pub type_signature_light : (at : Span) (m : MethodKind) (xs : List Node) → weight (type_signature at m xs) ≤ worth xs
type_signature_light at m (front ∷ params ∷ []) =
    let made = function_of at false false absent params absent absent in
    let a = weight_made at (kind.ClassMethod m (no_modifiers false)) (front ∷ made ∷ []) in
    let b = function_of_light at false false absent params absent absent in
    let c = here_at_most_one (kind.ClassMethod m (no_modifiers false)) in
    let d = missing_weighs_little 0 in
    omega arith
type_signature_light at m xs = missing_weighs_little _

pub new_signature_light : (at : Span) (xs : List Node) → weight (new_signature at xs) ≤ worth xs
new_signature_light at (front ∷ params ∷ []) =
    let a = weight_made at (kind.Constructor None false) (front ∷ parameters params ∷ absent ∷ []) in
    let b = parameters_light params in
    let d = missing_weighs_little 0 in
    omega arith
new_signature_light at xs = missing_weighs_little _
