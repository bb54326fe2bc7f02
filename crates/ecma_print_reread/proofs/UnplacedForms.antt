-- What each form makes of nodes without spans is what it makes of those nodes, without spans.
use Rattle.std.proofs.Common.{◌≡◌, ℕ, ◌-◌, ◌==◌, nat_le, Bool, false, List, [], ◌∷◌, map, length, take, slice_get, refl, ap, ap₂, sym, ◌∙◌, codes, Option, Some, None, if◌then◌else◌}
use Rattle.std.specs.List.{swap}
use Rattle.std.specs.Option.{option_map}
use Rattle.std.proofs.Math.ListN.{get_or-map}
use Rattle.std.proofs.lemmas.List.{length-map, take-map, map-set, map-append}
use Rattle.std.proofs.lemmas.Option.{slice_get-map}
use Rattle.ecma_kind.specs.declared.span.Span.{Span}
use Rattle.ecma_kind.specs.declared.operators.MethodKind.{MethodKind}
use Rattle.ecma_kind.specs.declared.operators.MethodKind.TheVariants.{Method, Getter, Setter}
use Rattle.ecma_kind.specs.declared.operators.MemberModifiers.{MemberModifiers}
use Rattle.ecma_kind.specs.declared.kind.Kind.{Kind}
use Rattle.ecma_kind.specs.declared.kind.Kind.TheVariants as kind
use Rattle.ecma_tree.specs.declared.node.Node.{Node}
use Rattle.ecma_tree.specs.Nodes.{absent, node_of, dummy_span, list_node}
use Rattle.ecma_tree.specs.Spans.{without_spans}
use Rattle.ecma_grammar.specs.declared.production.Form.{Form}
use Rattle.ecma_grammar.specs.declared.production.Form.TheVariants as form
use Rattle.ecma_grammar.specs.trees.Plain.{plain_kind}
use Rattle.ecma_grammar.specs.trees.Parts.{kind_of, children_of, from_to, in_front, framed, is_absent, is_present}
use Rattle.ecma_grammar.specs.trees.Chains.{in_front_logical, in_front_link}
use Rattle.ecma_grammar.specs.trees.Functions.{has_word, accessibility_of, parameter, wrapped_by, wrapped, parameters, function_of, function, arrow, yield_, getter, is_this_name, is_this_by, is_this, setter_by, setter, annotated, declarator}
use Rattle.ecma_grammar.specs.trees.Classes.{class, method_kind, no_modifiers, method, field, modified, is_constructor, constructor_of, method_by, member_by, member, index_signature, new_signature, type_signature}
use Rattle.ecma_grammar.specs.trees.Others.{swapped, missing, elements, the_one, sequence, headed, declared, namespaces, namespace, import_equals, module_of, const_assertion, type_assertion, assertion}
use Rattle.ecma_grammar.specs.Made.{made}
use Rattle.ecma_print_readings.proofs.Unplaced.{without_spans-node, kind_same, children_same, span_same, unplacing, absent_same, if_same, map_if, Each, Commutes, framed_same, in_front_same, all_steps_same, in_front_logical_same}
use Rattle.ecma_print_reread.proofs.UnplacedLinks.{in_front_link_same, construction_same, template_same, has_word_same, accessibility_same, annotated_same, declarator_same}

-- functions

parameter_same : (at : Span) → Each 2 (Commutes (parameter at) (parameter dummy_span))
parameter_same at m p =
    if_same (is_absent m) p _ (without_spans p) (node_of dummy_span (kind.TsParamProp (accessibility_of m) (has_word (codes "override") m) (has_word (codes "readonly") m)) (without_spans p ∷ [])) refl (without_spans-node _ _ _)
    ∙ rw (accessibility_same, has_word_same (codes "override"), has_word_same (codes "readonly")) (simp kind_same)

wrapped_by_same : (n : Node) (k : Kind) → without_spans (wrapped_by n k) ≡ wrapped_by (without_spans n) k
wrapped_by_same n (kind.TsParamProp accessibility is_override readonly) = refl
wrapped_by_same n k = simp unplacing

wrapped_same : (n : Node) → without_spans (wrapped n) ≡ wrapped (without_spans n)
wrapped_same n = wrapped_by_same n (kind_of n) ∙ ap (wrapped_by (without_spans n)) (sym (kind_same n))

all_wrapped_same : (ns : List Node) → map without_spans (map wrapped ns) ≡ map wrapped (map without_spans ns)
all_wrapped_same [] = refl
all_wrapped_same (n ∷ ns) = ap₂ (λ x xs. x ∷ xs) (wrapped_same n) (all_wrapped_same ns)

parameters_same : (params : Node) → without_spans (parameters params) ≡ parameters (without_spans params)
parameters_same params = without_spans-node _ _ _ ∙ ap list_node (all_wrapped_same (children_of params) ∙ ap (map wrapped) (sym (children_same params)))

function_of_same : (at : Span) (a g : Bool) (t p r b : Node) → without_spans (function_of at a g t p r b) ≡ function_of dummy_span a g (without_spans t) (without_spans p) (without_spans r) (without_spans b)
function_of_same at a g t p r b = without_spans-node _ _ _ ∙ ap (λ z. node_of dummy_span (kind.Function g a) (z ∷ without_spans b ∷ without_spans t ∷ without_spans r ∷ [])) (parameters_same p)

function_same : (at : Span) (k : Kind) → Each 7 (Commutes (function at k) (function dummy_span k))
function_same at k a g n t p r b =
    without_spans-node _ _ _ ∙ (ap (λ z. node_of dummy_span k (without_spans n ∷ z ∷ [])) (function_of_same at (is_present a) (is_present g) t p r b) ∙ simp kind_same)

arrow_same : (at : Span) → Each 5 (Commutes (arrow at) (arrow dummy_span))
arrow_same at a t p r b = simp unplacing

yield_same : (at : Span) → Each 2 (Commutes (yield_ at) (yield_ dummy_span))
yield_same at s o = simp unplacing

getter_same : (at : Span) → Each 5 (Commutes (getter at) (getter dummy_span))
getter_same at k t p r b = without_spans-node _ _ _ ∙ (ap (node_of dummy_span kind.GetterProp) (map_if (length (children_of p) == 0) _ _) ∙ rw (children_same, length-map) refl)

is_this_name_same : (o : List Node) → is_this_name (slice_get (map without_spans o) 0) ≡ is_this_name (slice_get o 0)
is_this_name_same [] = refl
is_this_name_same (x ∷ xs) = simp kind_same

is_this_by_same : (n : Node) (k : Kind) → is_this_by (without_spans n) k ≡ is_this_by n k
is_this_by_same n kind.BindingIdent = ap (λ xs. is_this_name (slice_get xs 0)) (children_same n) ∙ is_this_name_same (children_of n)
is_this_by_same n k = refl

is_this_same : (n : Node) → is_this (without_spans n) ≡ is_this n
is_this_same n = ap (is_this_by (without_spans n)) (kind_same n) ∙ is_this_by_same n (kind_of n)

setter_by_same : (at : Span) (k p b : Node) (ns : List Node) → without_spans (setter_by at k p b ns) ≡ setter_by dummy_span (without_spans k) (without_spans p) (without_spans b) (map without_spans ns)
setter_by_same at k p b [] = simp without_spans-node
setter_by_same at k p b (x ∷ []) = rw is_this_same (if_same (is_this x) _ _ _ _ (simp without_spans-node) (simp without_spans-node))
setter_by_same at k p b (x ∷ y ∷ []) = rw is_this_same (if_same (is_this x) _ _ _ _ (simp without_spans-node) (simp without_spans-node))
setter_by_same at k p b (x ∷ y ∷ z ∷ ns) = simp without_spans-node

setter_same : (at : Span) → Each 5 (Commutes (setter at) (setter dummy_span))
setter_same at k t p r b = setter_by_same at k p b (children_of p) ∙ ap (setter_by dummy_span (without_spans k) (without_spans p) (without_spans b)) (sym (children_same p))

-- classes

class_same : (at : Span) (k : Kind) (b : Bool) → Each 6 (Commutes (class at k b) (class dummy_span k b))
class_same at k b n t s q i m = simp without_spans-node

method_same : (at : Span) (k : MethodKind) → Each 9 (Commutes (method at k) (method dummy_span k))
method_same at k a g n q e t p r b =
    without_spans-node _ _ _ ∙ (ap (λ z. node_of dummy_span (method_kind n k (no_modifiers (is_present q))) (without_spans n ∷ z ∷ [])) (function_of_same at (is_present a) (is_present g) t p r b) ∙ simp kind_same)

field_same : (at : Span) → Each 5 (Commutes (field at) (field dummy_span))
field_same at k q e a v = without_spans-node _ _ _ ∙ simp kind_same

modified_same : (m : Node) (before : MemberModifiers) → modified (without_spans m) before ≡ modified m before
modified_same m before = rw (accessibility_same, has_word_same (codes "static"), has_word_same (codes "abstract"), has_word_same (codes "override")) refl

constructor_of_same : (at : Span) (m : Node) (before : MemberModifiers) (key : Node) → Each 4 (Commutes (constructor_of at m before key) (constructor_of dummy_span (without_spans m) before (without_spans key)))
constructor_of_same at m before key p b t r = rw accessibility_same (without_spans-node _ _ _)

is_constructor_same : (m key f : Node) → is_constructor (without_spans m) (without_spans key) (without_spans f) ≡ is_constructor m key f
is_constructor_same m key f = rw (has_word_same, kind_same key, kind_same f) refl

method_by_same : (at : Span) (m : Node) (before : MemberModifiers) → Each 2 (Commutes (method_by at m before) (method_by dummy_span (without_spans m) before))
method_by_same at m before key f =
    rw (is_constructor_same, modified_same m before)
    (if_same (is_constructor m key f) _ _ _ _
    (framed_same 4 (constructor_of at m before key) (constructor_of dummy_span (without_spans m) before (without_spans key)) (constructor_of_same at m before key) (children_of f)
    ∙ ap (framed 4 (constructor_of dummy_span (without_spans m) before (without_spans key))) (sym (children_same f)))
    (without_spans-node _ _ _))

member_by_same : (at : Span) (m : Node) (k : Kind) (ns : List Node) → without_spans (member_by at m k ns) ≡ member_by dummy_span (without_spans m) k (map without_spans ns)
member_by_same at m (kind.ClassMethod Method before) ns = framed_same 2 (method_by at m before) (method_by dummy_span (without_spans m) before) (method_by_same at m before) ns
member_by_same at m (kind.ClassMethod Getter before) ns = rw (modified_same m before) (without_spans-node _ _ _)
member_by_same at m (kind.ClassMethod Setter before) ns = rw (modified_same m before) (without_spans-node _ _ _)
member_by_same at m (kind.PrivateMethod k before) ns = rw (modified_same m before) (without_spans-node _ _ _)
member_by_same at m (kind.ClassProp before readonly declare definite) ns = rw (modified_same m before, has_word_same (codes "readonly"), has_word_same (codes "declare")) (without_spans-node _ _ _)
member_by_same at m (kind.PrivateProp before readonly declare definite) ns = rw (modified_same m before, has_word_same (codes "readonly"), has_word_same (codes "declare")) (without_spans-node _ _ _)
member_by_same at m k ns = without_spans-node _ _ _

member_same : (at : Span) → Each 2 (Commutes (member at) (member dummy_span))
member_same at m n = member_by_same at m (kind_of n) (children_of n) ∙ simp (kind_same n, children_same n)

index_signature_same : (at : Span) → Each 3 (Commutes (index_signature at) (index_signature dummy_span))
index_signature_same at m index a = rw (has_word_same (codes "readonly"), has_word_same (codes "static")) (without_spans-node _ _ _)

type_signature_same : (at : Span) (k : MethodKind) → Each 2 (Commutes (type_signature at k) (type_signature dummy_span k))
type_signature_same at k f p =
    without_spans-node _ _ _
    ∙ ap (λ z. node_of dummy_span (kind.ClassMethod k (no_modifiers false)) (without_spans f ∷ z ∷ []))
    (function_of_same at false false absent p absent absent ∙ ap (λ z. function_of dummy_span false false z (without_spans p) z z) absent_same)

new_signature_same : (at : Span) → Each 2 (Commutes (new_signature at) (new_signature dummy_span))
new_signature_same at f p =
    without_spans-node _ _ _
    ∙ ap₂ (λ z w. node_of dummy_span (kind.Constructor None false) (without_spans f ∷ z ∷ w ∷ [])) (parameters_same p) absent_same

-- lists, sequences, loops, declarations, modules

swap_same : (xs : List Node) (i j : ℕ) → map without_spans (swap xs i j) ≡ swap (map without_spans xs) i j
swap_same [] i j = refl
swap_same (d ∷ ys) i j = simp (map-set, ← get_or-map without_spans (d ∷ ys) j d, ← get_or-map without_spans (d ∷ ys) i d)

swapped_same : (xs : List Node) → map without_spans (swapped xs) ≡ swapped (map without_spans xs)
swapped_same xs =
    map_if (nat_le 2 (length xs)) (swap xs (length xs - 2) (length xs - 1)) xs
    ∙ rw length-map (ap (λ z. if nat_le 2 (length xs) then z else map without_spans xs) (swap_same xs (length xs - 2) (length xs - 1)))

missing_same : (xs : List Node) (i : ℕ) → missing (slice_get (map without_spans xs) i) ≡ missing (slice_get xs i)
missing_same xs i = rw slice_get-map (go (slice_get xs i))
  where
    go : (o : Option Node) → missing (option_map without_spans o) ≡ missing o
    go None = refl
    go (Some x) = simp kind_same

elements_same : (xs : List Node) → map without_spans (elements xs) ≡ elements (map without_spans xs)
elements_same xs = map_if (missing (slice_get xs (length xs - 1))) (take (length xs - 1) xs) xs ∙ rw length-map (rw (missing_same, take-map) refl)

sequence_same : (at : Span) (xs : List Node) → Commutes (sequence at) (sequence dummy_span) xs
sequence_same at xs =
    let a = framed 1 the_one (map without_spans xs) in
    let b = node_of dummy_span kind.SeqExpr (map without_spans xs) in
    if_same (length xs == 1) (framed 1 the_one xs) _ a b (framed_same 1 the_one the_one (λ x. refl) xs) (without_spans-node _ _ _) ∙ ap (λ l. if l == 1 then a else b) (sym (length-map xs without_spans))

headed_same : (at : Span) → Each 2 (Commutes (headed at) (headed dummy_span))
headed_same at h b = without_spans-node _ _ _ ∙ simp (kind_same, children_same, map-append)

declared_same : (at : Span) → Each 1 (Commutes (declared at) (declared dummy_span))
declared_same at d = without_spans-node _ _ _ ∙ simp (kind_same, children_same)

namespaces_same : (hi : ℕ) (xs : List Node) → without_spans (namespaces hi xs) ≡ namespaces 0 (map without_spans xs)
namespaces_same hi [] = absent_same
namespaces_same hi (b ∷ []) = refl
namespaces_same hi (n ∷ x ∷ xs) = without_spans-node _ _ _ ∙ (ap (λ z. node_of dummy_span (kind.TsNamespaceDecl false false) (without_spans n ∷ z ∷ [])) (namespaces_same hi (x ∷ xs)) ∙ simp span_same)

namespace_same : (at : Span) (xs : List Node) → Commutes (namespace at) (namespace dummy_span) xs
namespace_same at [] = absent_same
namespace_same at (b ∷ []) = absent_same
namespace_same at (n ∷ x ∷ xs) = without_spans-node _ _ _ ∙ ap (λ z. node_of dummy_span (kind.TsModuleDecl false false) (without_spans n ∷ z ∷ [])) (namespaces_same at.hi (x ∷ xs))

import_equals_same : (at : Span) → Each 4 (Commutes (import_equals at) (import_equals dummy_span))
import_equals_same at e t n r = without_spans-node _ _ _ ∙ simp kind_same

module_of_same : (at : Span) → Each 2 (Commutes (module_of at) (module_of dummy_span))
module_of_same at h i = without_spans-node _ _ _ ∙ simp kind_same

assertion_same : (at : Span) (xs : List Node) → Commutes (assertion at) (assertion dummy_span) xs
assertion_same at xs =
    let a = framed 1 (const_assertion dummy_span) (map without_spans xs) in
    let b = framed 2 (type_assertion dummy_span) (map without_spans xs) in
    if_same (length xs == 1) (framed 1 (const_assertion at) xs) (framed 2 (type_assertion at) xs) a b
    (framed_same 1 (const_assertion at) (const_assertion dummy_span) (λ x. without_spans-node _ _ _) xs) (framed_same 2 (type_assertion at) (type_assertion dummy_span) (λ x y. without_spans-node _ _ _) xs)
    ∙ ap (λ l. if l == 1 then a else b) (sym (length-map xs without_spans))

pub made_unplaced : (f : Form) (lo hi : ℕ) (xs : List Node) → without_spans (made f lo hi xs) ≡ made f 0 0 (map without_spans xs)
made_unplaced (form.Node k) lo hi xs = without_spans-node _ _ xs
made_unplaced (form.Bare k) lo hi xs = without_spans-node _ _ _
made_unplaced (form.First k) lo hi xs = without_spans-node _ _ _ ∙ rw take-map refl
made_unplaced (form.Swapped k) lo hi xs = without_spans-node _ _ _ ∙ ap (node_of dummy_span (plain_kind k)) (swapped_same xs)
made_unplaced form.List lo hi xs = without_spans-node _ _ xs
made_unplaced form.Elements lo hi xs = without_spans-node _ _ _ ∙ ap list_node (elements_same xs)
made_unplaced form.Sequence lo hi xs = sequence_same _ xs
made_unplaced form.Chain lo hi xs = all_steps_same in_front in_front_same xs
made_unplaced form.Links lo hi xs = all_steps_same in_front_link in_front_link_same xs
made_unplaced form.Logical lo hi xs = all_steps_same in_front_logical in_front_logical_same xs
made_unplaced form.Template lo hi xs = template_same _ xs
made_unplaced form.Arrow lo hi xs = framed_same 5 (arrow (from_to lo hi)) (arrow dummy_span) (arrow_same _) xs
made_unplaced form.Yield lo hi xs = framed_same 2 (yield_ (from_to lo hi)) (yield_ dummy_span) (yield_same _) xs
made_unplaced form.New lo hi xs = construction_same _ xs
made_unplaced form.Assertion lo hi xs = assertion_same _ xs
made_unplaced form.Annotated lo hi xs = framed_same 3 (annotated (from_to lo hi)) (annotated dummy_span) (annotated_same _) xs
made_unplaced form.Declarator lo hi xs = framed_same 4 (declarator (from_to lo hi)) (declarator dummy_span) (declarator_same _) xs
made_unplaced form.Param lo hi xs = framed_same 2 (parameter (from_to lo hi)) (parameter dummy_span) (parameter_same _) xs
made_unplaced (form.Function k) lo hi xs = framed_same 7 (function (from_to lo hi) (plain_kind k)) (function dummy_span (plain_kind k)) (function_same _ _) xs
made_unplaced form.Getter lo hi xs = framed_same 5 (getter (from_to lo hi)) (getter dummy_span) (getter_same _) xs
made_unplaced form.Setter lo hi xs = framed_same 5 (setter (from_to lo hi)) (setter dummy_span) (setter_same _) xs
made_unplaced (form.Class k b) lo hi xs = framed_same 6 (class (from_to lo hi) (plain_kind k) b) (class dummy_span (plain_kind k) b) (class_same _ _ b) xs
made_unplaced (form.Method k) lo hi xs = framed_same 9 (method (from_to lo hi) k) (method dummy_span k) (method_same _ k) xs
made_unplaced form.Field lo hi xs = framed_same 5 (field (from_to lo hi)) (field dummy_span) (field_same _) xs
made_unplaced form.Modified lo hi xs = framed_same 2 (member (from_to lo hi)) (member dummy_span) (member_same _) xs
made_unplaced form.IndexSignature lo hi xs = framed_same 3 (index_signature (from_to lo hi)) (index_signature dummy_span) (index_signature_same _) xs
made_unplaced (form.Signature k) lo hi xs = framed_same 2 (type_signature (from_to lo hi) k) (type_signature dummy_span k) (type_signature_same _ k) xs
made_unplaced form.NewSignature lo hi xs = framed_same 2 (new_signature (from_to lo hi)) (new_signature dummy_span) (new_signature_same _) xs
made_unplaced form.Headed lo hi xs = framed_same 2 (headed (from_to lo hi)) (headed dummy_span) (headed_same _) xs
made_unplaced form.Declared lo hi xs = framed_same 1 (declared (from_to lo hi)) (declared dummy_span) (declared_same _) xs
made_unplaced form.Namespace lo hi xs = namespace_same _ xs
made_unplaced form.ImportEquals lo hi xs = framed_same 4 (import_equals (from_to lo hi)) (import_equals dummy_span) (import_equals_same _) xs
made_unplaced form.Module lo hi xs = framed_same 2 (module_of (from_to lo hi)) (module_of dummy_span) (module_of_same _) xs
