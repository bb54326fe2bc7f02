-- What a form makes weighs no more than the nodes that it is made of are worth, and one.
use Rattle.std.proofs.Common.{◌≡◌, ◌≤◌, ℕ, ◌+◌, ◌-◌, Bool, true, false, List, [], ◌∷◌, ◌++◌, length, take, nat_le, refl, arith}
use Rattle.std.specs.Prelude.{slice_get, if◌then◌else◌, ◌==◌}
use Rattle.std.specs.List.{swap}
use Rattle.std.proofs.lemmas.Bool.{leb-true}
use Rattle.std.proofs.lemmas.List.Sums.{sum_by-append, sum_by-cons, sum_by-take-le}
use Rattle.std.proofs.lemmas.List.Sorted.{IsPermutation-swap, sum_by-IsPermutation}
use Rattle.ecma_kind.specs.declared.span.Span.{Span}
use Rattle.ecma_kind.specs.declared.kind.Kind.{Kind}
use Rattle.ecma_kind.specs.declared.kind.Kind.TheVariants as kind
use Rattle.ecma_tree.specs.declared.node.Node.{Node}
use Rattle.ecma_tree.specs.Nodes.{list_node, node_of}
use Rattle.ecma_grammar.specs.declared.production.Form.{Form}
use Rattle.ecma_grammar.specs.declared.production.Form.TheVariants as form
use Rattle.ecma_grammar.specs.trees.Parts.{children_of, framed, from_to, is_present, kind_of, span_of}
use Rattle.ecma_grammar.specs.trees.Plain.{plain_kind}
use Rattle.ecma_grammar.specs.trees.Functions.{annotated, arrow, declarator, function, getter, parameter, setter, yield_}
use Rattle.ecma_grammar.specs.trees.Classes.{class, field, index_signature, member, method, new_signature, type_signature}
use Rattle.ecma_grammar.specs.trees.Others.{assertion, const_assertion, declared, declared_kind, elements, headed, import_equals, missing, module_of, namespace, namespaces, sequence, swapped, text_of, the_one, type_assertion}
use Rattle.ecma_grammar.specs.Made.{made}
use Rattle.ecma_text_contexts.proofs.Weights.{either_weigh, either_weighs, here, here_at_most_one, list_weight, missing_weighs_little, weight, weight_made, weight_parts, weights, worth}
use Rattle.ecma_text_contexts.proofs.Chains.{chained_light, construction_light, framed_weighs, links_light, logical_light, template_light}
use Rattle.ecma_text_contexts.proofs.Functions.{annotated_light, arrow_light, declarator_light, function_light, getter_light, parameter_light, setter_light, yield_light}
use Rattle.ecma_text_contexts.proofs.Classes.{class_light, field_light, index_light, new_signature_light, member_light, method_light, type_signature_light}

swapped_light : (xs : List Node) → weights (swapped xs) ≤ weights xs
swapped_light xs = go (nat_le 2 (length xs)) refl
  where
    go : (b : Bool) → nat_le 2 (length xs) ≡ b → weights (if b then swap xs (length xs - 2) (length xs - 1) else xs) ≤ weights xs
    go true h =
        let long = leb-true 2 (length xs) h in
        let same = sum_by-IsPermutation weight xs (swap xs (length xs - 2) (length xs - 1)) (IsPermutation-swap xs (swap xs (length xs - 2) (length xs - 1)) (length xs - 2) (length xs - 1) (omega arith) (omega arith) refl) in
        omega arith
    go false h = omega arith

elements_light : (xs : List Node) → weights (elements xs) ≤ weights xs
elements_light xs = either_weigh (missing (slice_get xs (length xs - 1))) (take (length xs - 1) xs) xs (weights xs) (sum_by-take-le weight xs (length xs - 1)) (omega arith)

pub the_one_light : (xs : List Node) → weight (the_one xs) ≤ weights xs
the_one_light (x ∷ []) = omega arith
the_one_light xs = missing_weighs_little _

sequence_light : (at : Span) (xs : List Node) → weight (sequence at xs) ≤ weights xs
sequence_light at xs =
    let a = weight_made at kind.SeqExpr xs in
    either_weighs (length xs == 1) _ _ (weights xs) (framed_weighs 1 the_one xs (weights xs) (the_one_light xs)) (omega arith)

headed_light : (at : Span) (xs : List Node) → weight (headed at xs) ≤ weights xs
headed_light at (head ∷ body ∷ []) =
    let a = weight_made at (kind_of head) (children_of head ++ body ∷ []) in
    let b = sum_by-append weight (children_of head) (body ∷ []) in
    let c = weight_parts head in
    omega arith
headed_light at xs = missing_weighs_little _

declared_here : (k : Kind) → here (declared_kind k) ≡ here k
declared_here (kind.FnDecl declare) = refl
declared_here (kind.ClassDecl declare) = refl
declared_here (kind.VarDecl k declare) = refl
declared_here (kind.TsInterfaceDecl declare) = refl
declared_here (kind.TsTypeAliasDecl declare) = refl
declared_here (kind.TsEnumDecl declare is_const) = refl
declared_here (kind.TsModuleDecl declare global) = refl
declared_here _ = refl

declared_light : (at : Span) (xs : List Node) → weight (declared at xs) ≤ weights xs
declared_light at (declaration ∷ []) =
    let a = weight_made at (declared_kind (kind_of declaration)) (children_of declaration) in
    let b = declared_here (kind_of declaration) in
    let c = weight_parts declaration in
    omega arith
declared_light at xs = missing_weighs_little _

namespaces_light : (hi : ℕ) (xs : List Node) → weight (namespaces hi xs) ≤ worth xs
namespaces_light hi [] = missing_weighs_little _
namespaces_light hi (body ∷ []) = omega arith
namespaces_light hi (name ∷ x ∷ xs) =
    let a = namespaces_light hi (x ∷ xs) in
    let b = weight_made (from_to (span_of name).lo hi) (kind.TsNamespaceDecl false false) (name ∷ namespaces hi (x ∷ xs) ∷ []) in
    let c = sum_by-cons weight name (x ∷ xs) in
    omega arith

namespace_light : (at : Span) (xs : List Node) → weight (namespace at xs) ≤ worth xs
namespace_light at [] = missing_weighs_little _
namespace_light at (body ∷ []) = missing_weighs_little _
namespace_light at (name ∷ x ∷ xs) =
    let a = namespaces_light at.hi (x ∷ xs) in
    let b = weight_made at (kind.TsModuleDecl false false) (name ∷ namespaces at.hi (x ∷ xs) ∷ []) in
    let c = sum_by-cons weight name (x ∷ xs) in
    omega arith

import_equals_light : (at : Span) (xs : List Node) → weight (import_equals at xs) ≤ weights xs
import_equals_light at (is_export ∷ is_type_only ∷ name ∷ reference ∷ []) =
    let a = weight_made at (kind.TsImportEqualsDecl (is_present is_export) (is_present is_type_only)) (name ∷ reference ∷ []) in
    omega arith
import_equals_light at xs = missing_weighs_little _

module_light : (at : Span) (xs : List Node) → weight (module_of at xs) ≤ worth xs
module_light at (hashbang ∷ items ∷ []) = let a = weight_made at (kind.Module (text_of (kind_of hashbang))) (items ∷ []) in omega arith
module_light at xs = missing_weighs_little _

const_light : (at : Span) (xs : List Node) → weight (const_assertion at xs) ≤ weights xs
const_light at (operand ∷ []) = let a = weight_made at kind.TsConstAssertion (operand ∷ []) in omega arith
const_light at xs = missing_weighs_little _

type_assertion_light : (at : Span) (xs : List Node) → weight (type_assertion at xs) ≤ weights xs
type_assertion_light at (type ∷ operand ∷ []) = let a = weight_made at kind.TsTypeAssertion (operand ∷ type ∷ []) in omega arith
type_assertion_light at xs = missing_weighs_little _

assertion_light : (at : Span) (xs : List Node) → weight (assertion at xs) ≤ weights xs
assertion_light at xs =
    either_weighs (length xs == 1) _ _ (weights xs) (framed_weighs 1 (const_assertion at) xs (weights xs) (const_light at xs)) (framed_weighs 2 (type_assertion at) xs (weights xs) (type_assertion_light at xs))

module _ (lo hi : ℕ) (xs : List Node) where
  abbrev at : Span
  at = from_to lo hi

  -- as light as what was read
  within : (n : Node) → weight n ≤ weights xs → weight n ≤ worth xs + 1
  within n h = omega arith

  -- or as that is worth
  worthy : (n : Node) → weight n ≤ worth xs → weight n ≤ worth xs + 1
  worthy n h = omega arith

  -- a node of a kind, whose children weigh no more than what was read
  of_kind : (k : Kind) (children : List Node) → weights children ≤ weights xs → weight (node_of at k children) ≤ worth xs + 1
  of_kind k children h =
      let a = weight_made at k children in
      let b = here_at_most_one k in
      omega arith

  list_of : (items : List Node) → weights items ≤ weights xs → weight (list_node items) ≤ worth xs + 1
  list_of items h = let a = list_weight items in omega arith

  -- of so many nodes, and no others
  framed_of : (n : ℕ) (f : List Node → Node) → weight (f xs) ≤ worth xs → weight (framed n f xs) ≤ worth xs + 1
  framed_of n f h = framed_weighs n f xs (worth xs + 1) (omega arith)

  framed_within : (n : ℕ) (f : List Node → Node) → weight (f xs) ≤ weights xs → weight (framed n f xs) ≤ worth xs + 1
  framed_within n f h = framed_weighs n f xs (worth xs + 1) (omega arith)

  pub made_light : (f : Form) → weight (made f lo hi xs) ≤ worth xs + 1
  made_light (form.Node k) = of_kind (plain_kind k) xs (omega arith)
  made_light (form.Bare k) = of_kind (plain_kind k) [] (omega arith)
  made_light (form.First k) = of_kind (plain_kind k) (take 1 xs) (sum_by-take-le weight xs 1)
  made_light (form.Swapped k) = of_kind (plain_kind k) (swapped xs) (swapped_light xs)
  made_light form.List = list_of xs (omega arith)
  made_light form.Elements = list_of (elements xs) (elements_light xs)
  made_light form.Sequence = within _ (sequence_light at xs)
  made_light form.Chain = within _ (chained_light xs)
  made_light form.Links = within _ (links_light xs)
  made_light form.Logical = within _ (logical_light xs)
  made_light form.Template = within _ (template_light at xs)
  made_light form.Arrow = framed_of 5 (arrow at) (arrow_light at xs)
  made_light form.Yield = framed_within 2 (yield_ at) (yield_light at xs)
  made_light form.New = within _ (construction_light at xs)
  made_light form.Assertion = within _ (assertion_light at xs)
  made_light form.Annotated = framed_within 3 (annotated at) (annotated_light at xs)
  made_light form.Declarator = framed_within 4 (declarator at) (declarator_light at xs)
  made_light form.Param = framed_within 2 (parameter at) (parameter_light at xs)
  made_light (form.Function k) = framed_of 7 (function at (plain_kind k)) (function_light at (plain_kind k) xs)
  made_light form.Getter = framed_of 5 (getter at) (getter_light at xs)
  made_light form.Setter = framed_of 5 (setter at) (setter_light at xs)
  made_light (form.Class k is_abstract) = framed_of 6 (class at (plain_kind k) is_abstract) (class_light at (plain_kind k) is_abstract xs)
  made_light (form.Method k) = framed_of 9 (method at k) (method_light at k xs)
  made_light form.Field = framed_of 5 (field at) (field_light at xs)
  made_light form.Modified = framed_of 2 (member at) (member_light at xs)
  made_light form.IndexSignature = framed_of 3 (index_signature at) (index_light at xs)
  made_light (form.Signature k) = framed_of 2 (type_signature at k) (type_signature_light at k xs)
  made_light form.NewSignature = framed_of 2 (new_signature at) (new_signature_light at xs)
  made_light form.Headed = framed_within 2 (headed at) (headed_light at xs)
  made_light form.Declared = framed_within 1 (declared at) (declared_light at xs)
  made_light form.Namespace = worthy _ (namespace_light at xs)
  made_light form.ImportEquals = framed_within 4 (import_equals at) (import_equals_light at xs)
  made_light form.Module = framed_of 2 (module_of at) (module_light at xs)
