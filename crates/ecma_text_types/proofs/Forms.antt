-- What each form makes of nodes, without what types hold, is the same whether they held something or nothing.
use Rattle.std.proofs.Common.{◌≡◌, ◌∙◌, ℕ, zero, suc, ◌-◌, ◌==◌, nat_le, Bool, true, false, ◌&&◌, ◌||◌, List, [], ◌∷◌, ◌++◌, map, take, length, Option, Some, None, refl, sym, ap, ap₂, slice_get, subst, if◌then◌else◌}
use Rattle.std.specs.List.{swap}
use Rattle.std.proofs.Math.ListN.{get_or-map}
use Rattle.std.proofs.lemmas.List.{length-map, map-append, map-set, take-map}
use Rattle.ecma_kind.specs.declared.span.Span.{Span}
use Rattle.ecma_kind.specs.declared.shapes.Sort.TheVariants as sort
use Rattle.ecma_kind.specs.declared.kind.Kind.{Kind}
use Rattle.ecma_kind.specs.declared.kind.Kind.TheVariants as kind
use Rattle.ecma_tree.specs.Nodes.{absent, list_node, node_of}
use Rattle.ecma_tree.specs.Sorted.{is_list}
use Rattle.ecma_tree.specs.declared.node.Node.{Node}
use Rattle.ecma_grammar.specs.declared.production.Form.{Form}
use Rattle.ecma_grammar.specs.declared.production.Form.TheVariants as form
use Rattle.ecma_grammar.specs.declared.production.Plain.{Plain}
use Rattle.ecma_grammar.specs.declared.production.Plain.TheVariants as plain
use Rattle.ecma_grammar.specs.trees.Plain.{plain_kind}
use Rattle.ecma_grammar.specs.trees.Parts.{children_of, framed, from_to, in_front, is_absent_kind, is_present, kind_of, span_of}
use Rattle.ecma_grammar.specs.trees.Chains.{all_steps, construction, in_front_link, in_front_logical, template}
use Rattle.ecma_grammar.specs.trees.Functions.{annotated, arrow, declarator, function, getter, parameter, setter, yield_}
use Rattle.ecma_grammar.specs.trees.Classes.{class, field, index_signature, index_signature_with_types, member, method, new_signature, type_signature}
use Rattle.ecma_grammar.specs.trees.Others.{assertion, const_assertion, declared, declared_kind, elements, headed, import_equals, missing, module_of, namespace, namespaces, sequence, swapped, text_of, the_one, type_assertion}
use Rattle.ecma_grammar.specs.Made.{made, made_with_types}
use Rattle.ecma_kind.specs.declared.shapes.Count.TheVariants.{MaybeMany}
use Rattle.ecma_grammar_laws.specs.RawSorts.{RawShape, allows_raw, many, one, parameter as parameter_sort, shape_of, sorted}
use Rattle.ecma_grammar_laws.proofs.Asks.{Ask, Asked, Given, MeetAll, Meets, any, fits, is_annotated, pattern, shape, these, whatever}
use Rattle.ecma_grammar_laws.proofs.Needs.{a, accessor_parts, annotated_parts, bare_kind_needs, bare_needs, declarator_parts, first_kind_needs, first_of, first_needs, function_needs, function_parts, if_so, is_declared_type, is_empty, is_type, maybe_a, method_parts, modified_parts, modifier_list, needs, parameter_parts, shapes, signature_parts, type_signature_needs, type_signature_parts}
use Rattle.ecma_grammar_laws.proofs.RawShapes.{parts_of}
use Rattle.ecma_rules.specs.Baring.{bared, holds_types, own_children}
use Rattle.ecma_text_types.proofs.Bared.{bared-kind, bared-node, bared-own, bared_of, mapped}
use Rattle.ecma_text_types.proofs.Makings.{Commutes, Each, all_steps_same, bared-absent, bared-present, bared-span, framed_if, framed_same, if_bared, in_front-bared, in_front_logical-bared, map_if}
use Rattle.ecma_text_types.proofs.Links.{Free, annotated-bared, construction-bared, declarator-bared, in_front_link-bared, list-bared, template-bared}
use Rattle.ecma_text_types.proofs.Functions.{arrow-bared, class-bared, field-bared, function-bared, getter-bared, index-bared, member-bared, method-bared, new-signature-bared, own_class, own_function, parameter-bared, setter-bared, signature-bared, yield-bared}

-- lists, sequences, loops, declarations, modules

swap-same : (xs : List Node) (i j : ℕ) → map bared (swap xs i j) ≡ swap (map bared xs) i j
swap-same [] i j = refl
swap-same (d ∷ ys) i j = simp (map-set, ← get_or-map bared (d ∷ ys) j d, ← get_or-map bared (d ∷ ys) i d)

swapped-same : (xs : List Node) → map bared (swapped xs) ≡ swapped (map bared xs)
swapped-same xs =
    map_if (nat_le 2 (length xs)) (swap xs (length xs - 2) (length xs - 1)) xs
    ∙ rw length-map (ap (λ z. if nat_le 2 (length xs) then z else map bared xs) (swap-same xs (length xs - 2) (length xs - 1)))

missing-same : (xs : List Node) (i : ℕ) → missing (slice_get (map bared xs) i) ≡ missing (slice_get xs i)
missing-same [] i = refl
missing-same (x ∷ xs) zero = ap (λ k. is_absent_kind k) (bared-kind x)
missing-same (x ∷ xs) (suc i) = missing-same xs i

elements-same : (xs : List Node) → map bared (elements xs) ≡ elements (map bared xs)
elements-same xs = map_if (missing (slice_get xs (length xs - 1))) (take (length xs - 1) xs) xs ∙ rw length-map (rw (missing-same, take-map) refl)

sequence-same : (at : Span) (xs : List Node) → Commutes (sequence at) (sequence at) xs
sequence-same at xs =
    let a = framed 1 the_one (map bared xs) in
    let b = node_of at kind.SeqExpr (map bared xs) in
    if_bared (length xs == 1) (framed 1 the_one xs) (node_of at kind.SeqExpr xs) a b (framed_same 1 the_one the_one (λ x. refl) xs) (bared-node at kind.SeqExpr xs) ∙ ap (λ l. if l == 1 then a else b) (sym (length-map xs bared))

own-behind : (k : Kind) (cs : List Node) (b : Node) → own_children k (cs ++ b ∷ []) ≡ own_children k (own_children k cs ++ b ∷ [])
own-behind kind.TsType cs b = refl
own-behind kind.TsTypeParamDecl cs b = refl
own-behind kind.TsTypeParamInstantiation cs b = refl
own-behind (kind.TsIndexSignature readonly is_static) cs b = refl
own-behind (kind.TsInterfaceDecl declare) [] b = refl
own-behind (kind.TsInterfaceDecl declare) (c ∷ cs) b = refl
own-behind (kind.TsTypeAliasDecl declare) [] b = refl
own-behind (kind.TsTypeAliasDecl declare) (c ∷ cs) b = refl
own-behind _ cs b = refl

abbrev own_headed : Span → List Node → Node
own_headed at (head ∷ body ∷ []) = node_of at (kind_of head) (own_children (kind_of head) (children_of head ++ body ∷ []))
own_headed at xs = absent

headed-same : (at : Span) → Each 2 (Commutes (headed at) (own_headed at))
headed-same at h b =
    bared-node at (kind_of h) (children_of h ++ b ∷ [])
    ∙ ap (node_of at (kind_of h)) (ap (own_children (kind_of h)) (map-append bared (children_of h) (b ∷ [])) ∙ own-behind (kind_of h) (map bared (children_of h)) (bared b)
    ∙ ap (λ cs. own_children (kind_of h) (cs ++ bared b ∷ [])) (sym (bared-own h)))
    ∙ ap (λ k. node_of at k (own_children k (children_of (bared h) ++ bared b ∷ []))) (sym (bared-kind h))

declared-own : (k : Kind) (cs : List Node) → own_children (declared_kind k) cs ≡ own_children k cs
declared-own (kind.FnDecl declare) cs = refl
declared-own (kind.ClassDecl declare) cs = refl
declared-own (kind.VarDecl k declare) cs = refl
declared-own (kind.TsInterfaceDecl declare) cs = refl
declared-own (kind.TsTypeAliasDecl declare) cs = refl
declared-own (kind.TsEnumDecl declare is_const) cs = refl
declared-own (kind.TsModuleDecl declare global) cs = refl
declared-own k cs = refl

declared-same : (at : Span) → Each 1 (Commutes (declared at) (declared at))
declared-same at d =
    bared-node at (declared_kind (kind_of d)) (children_of d)
    ∙ ap (node_of at (declared_kind (kind_of d))) (declared-own (kind_of d) (map bared (children_of d)) ∙ sym (bared-own d))
    ∙ ap (λ k. node_of at (declared_kind k) (children_of (bared d))) (sym (bared-kind d))

namespaces-same : (hi : ℕ) (xs : List Node) → bared (namespaces hi xs) ≡ namespaces hi (map bared xs)
namespaces-same hi [] = bared-absent
namespaces-same hi (b ∷ []) = refl
namespaces-same hi (n ∷ x ∷ xs) =
    bared-node (from_to (span_of n).lo hi) (kind.TsNamespaceDecl false false) (n ∷ namespaces hi (x ∷ xs) ∷ [])
    ∙ ap₂ (λ (s : Span) (z : Node). node_of (from_to s.lo hi) (kind.TsNamespaceDecl false false) (bared n ∷ z ∷ [])) (sym (bared-span n)) (namespaces-same hi (x ∷ xs))

namespace-same : (at : Span) (xs : List Node) → Commutes (namespace at) (namespace at) xs
namespace-same at [] = bared-absent
namespace-same at (b ∷ []) = bared-absent
namespace-same at (n ∷ x ∷ xs) =
    bared-node at (kind.TsModuleDecl false false) (n ∷ namespaces at.hi (x ∷ xs) ∷ []) ∙ ap (λ z. node_of at (kind.TsModuleDecl false false) (bared n ∷ z ∷ [])) (namespaces-same at.hi (x ∷ xs))

import-equals-same : (at : Span) → Each 4 (Commutes (import_equals at) (import_equals at))
import-equals-same at e t n r =
    bared-node at (kind.TsImportEqualsDecl (is_present e) (is_present t)) (n ∷ r ∷ [])
    ∙ ap₂ (λ x y. node_of at (kind.TsImportEqualsDecl x y) (bared n ∷ bared r ∷ [])) (sym (bared-present e)) (sym (bared-present t))

module-of-same : (at : Span) → Each 2 (Commutes (module_of at) (module_of at))
module-of-same at h i = bared-node at (kind.Module (text_of (kind_of h))) (i ∷ []) ∙ ap (λ k. node_of at (kind.Module (text_of k)) (bared i ∷ [])) (sym (bared-kind h))

assertion-same : (at : Span) (xs : List Node) → Commutes (assertion at) (assertion at) xs
assertion-same at xs =
    let a = framed 1 (const_assertion at) (map bared xs) in
    let b = framed 2 (type_assertion at) (map bared xs) in
    if_bared (length xs == 1) (framed 1 (const_assertion at) xs) (framed 2 (type_assertion at) xs) a b
    (framed_same 1 (const_assertion at) (const_assertion at) (λ x. bared-node at kind.TsConstAssertion (x ∷ [])) xs)
    (framed_same 2 (type_assertion at) (type_assertion at) (λ x y. bared-node at kind.TsTypeAssertion (y ∷ x ∷ [])) xs)
    ∙ ap (λ l. if l == 1 then a else b) (sym (length-map xs bared))

-- what is known of the nodes that a form is given

abbrev FreeAt : ℕ → List Node → Type 0
FreeAt i xs = (c : Node) → slice_get xs i ≡ Some c → Free c

met_at : (qs : List Ask) (xs : List Node) → MeetAll qs xs → (i : ℕ) (q : Ask) (c : Node) → slice_get qs i ≡ Some q → slice_get xs i ≡ Some c → Meets q c
met_at [] [] h i q c e at = cc
met_at [] (x ∷ xs) h i q c e at = absurd h
met_at (p ∷ ps) [] h i q c e at = absurd h
met_at (p ∷ ps) (x ∷ xs) h zero q c e at = let ask : p ≡ q = cc in let node : x ≡ c = cc in subst (λ z. Meets z c) ask (subst (Meets p) node h.0)
met_at (p ∷ ps) (x ∷ xs) h (suc i) q c e at = met_at ps xs h.1 i q c e at

map-get : (xs : List Node) (i : ℕ) → slice_get (map bared xs) i ≡ bared_of (slice_get xs i)
map-get [] i = refl
map-get (x ∷ xs) zero = refl
map-get (x ∷ xs) (suc i) = map-get xs i

-- the other nodes are of the same kinds
moved : (i : ℕ) (xs ys : List Node) → map bared xs ≡ map bared ys → FreeAt i ys → FreeAt i xs
moved i xs ys e free c at = go (slice_get ys i) refl
  where
    go : (o : Option Node) → slice_get ys i ≡ o → Free c
    go None is =
        let gone : Some (bared c) ≡ None = ap bared_of (sym at) ∙ sym (map-get xs i) ∙ ap (λ zs. slice_get zs i) e ∙ map-get ys i ∙ ap bared_of is in
        absurd (cc)
    go (Some d) is =
        let both : Some (bared c) ≡ Some (bared d) = ap bared_of (sym at) ∙ sym (map-get xs i) ∙ ap (λ zs. slice_get zs i) e ∙ map-get ys i ∙ ap bared_of is in
        let same : bared c ≡ bared d = cc in
        ap holds_types (sym (bared-kind c) ∙ ap kind_of same ∙ bared-kind d) ∙ free d is

list-free : (k : Kind) → is_list k ≡ true → holds_types k ≡ false
list-free kind.List h = refl
list-free _ h = absurd (cc)

parameters-free : (c : Node) → Meets (shape (many parameter_sort)) c → Free c
parameters-free c h = let t = parts_of c (many parameter_sort) h in list-free (kind_of c) t.0

annotated-free : (k : Kind) → is_annotated k ≡ true → holds_types k ≡ false
annotated-free kind.BindingIdent h = refl
annotated-free (kind.ArrayPat optional) h = refl
annotated-free (kind.ObjectPat optional) h = refl
annotated-free kind.RestPat h = refl
annotated-free _ h = absurd (cc)

pattern-free : (c : Node) → Meets pattern c → Free c
pattern-free c h = annotated-free (kind_of c) h.0

abbrev modifier_shape : RawShape
modifier_shape = shape_of MaybeMany (sorted sort.PropName)

modifiers-by : (k : Kind) → allows_raw modifier_shape k ≡ true → holds_types k ≡ false
modifiers-by kind.Absent h = refl
modifiers-by kind.List h = refl
modifiers-by _ h = absurd (cc)

modifiers-free : (c : Node) → Meets modifier_list c → Free c
modifiers-free c h = let t = parts_of c modifier_shape h in modifiers-by (kind_of c) t.0

-- the parts of a form are as it needs them
met : (b : Bool) (qs : List Ask) (ys : List Node) → Given (if_so b (these qs)) ys → MeetAll qs ys
met true qs ys g = g
met false qs ys g = absurd g

given-at : (b : Bool) (qs : List Ask) (ys : List Node) → Given (if_so b (these qs)) ys → (i : ℕ) (q : Ask) → slice_get qs i ≡ Some q → ((c : Node) → Meets q c → Free c) → FreeAt i ys
given-at b qs ys g i q e free c at = free c (met_at qs ys (met b qs ys g) i q c e at)

function-free : (p : Plain) (q : Ask) (ys : List Node) → Given (function_needs p q) ys → FreeAt 4 ys
function-free plain.FnExpr q ys g =
    given-at (fits (a sort.Expr) q || fits (a sort.DefaultDecl) q) (function_parts (maybe_a sort.Ident)) ys g 4 (shape (many parameter_sort)) refl parameters-free
function-free plain.FnDecl q ys g = given-at (fits (a sort.Decl) q) (function_parts (a sort.Ident)) ys g 4 (shape (many parameter_sort)) refl parameters-free
function-free plain.MethodProp q ys g = given-at (fits (a sort.PropOrSpread) q) (function_parts (a sort.PropName)) ys g 4 (shape (many parameter_sort)) refl parameters-free
function-free _ q ys g = absurd g

signature-free : (q : Ask) (ys : List Node) → Given (type_signature_needs q) ys → FreeAt 1 ys
signature-free any ys g c at = parameters-free c (met_at type_signature_parts ys g 1 (shape (many parameter_sort)) c refl at)
signature-free _ ys g c at = absurd g

so : (b : Bool) (qs : Asked) (ys : List Node) → Given (if_so b qs) ys → b ≡ true
so true qs ys g = refl
so false qs ys g = absurd g

first-of-both : (b c : Bool) → (b && c) ≡ true → b ≡ true
first-of-both true c h = refl
first-of-both false c h = cc

bare-by : (k : Kind) (q : Ask) (ys : List Node) → Given (bare_kind_needs k q) ys → is_type k ≡ true
bare-by k any ys g = so (is_type k) whatever ys g
bare-by k (shape s) ys g = first-of-both (is_type k) (allows_raw s k && is_empty (shapes k)) (so (is_type k && (allows_raw s k && is_empty (shapes k))) whatever ys g)
bare-by k _ ys g = absurd g

bare-is : (p : Plain) (q : Ask) (ys : List Node) → Given (bare_needs p q) ys → is_type (plain_kind p) ≡ true
bare-is plain.SeqExpr q ys g = absurd g
bare-is p q ys g = bare-by (plain_kind p) q ys g

type-own : (k : Kind) → is_type k ≡ true → (cs : List Node) → own_children k cs ≡ []
type-own kind.TsType h cs = refl
type-own kind.TsTypeParamDecl h cs = refl
type-own kind.TsTypeParamInstantiation h cs = refl
type-own _ h cs = absurd (cc)

first-by : (k : Kind) (q : Ask) (ys : List Node) → Given (first_kind_needs k q) ys → is_declared_type k ≡ true
first-by k any ys g = so (is_declared_type k) whatever ys g
first-by k (shape s) ys g = first-of-both (is_declared_type k) (allows_raw s k) (so (is_declared_type k && allows_raw s k) (first_of (shapes k)) ys g)
first-by k _ ys g = absurd g

first-is : (p : Plain) (q : Ask) (ys : List Node) → Given (first_needs p q) ys → is_declared_type (plain_kind p) ≡ true
first-is plain.SeqExpr q ys g = absurd g
first-is p q ys g = first-by (plain_kind p) q ys g

name-own : (k : Kind) → is_declared_type k ≡ true → (cs : List Node) → own_children k (map bared cs) ≡ own_children k (map bared (take 1 cs))
name-own (kind.TsInterfaceDecl declare) h [] = refl
name-own (kind.TsInterfaceDecl declare) h (c ∷ cs) = refl
name-own (kind.TsTypeAliasDecl declare) h [] = refl
name-own (kind.TsTypeAliasDecl declare) h (c ∷ cs) = refl
name-own _ h cs = absurd (cc)

-- what is made of lists that are alike

same-by : (f f' : List Node → Node) → ((zs : List Node) → Commutes f f' zs) → (xs ys : List Node) → map bared xs ≡ map bared ys → bared (f xs) ≡ bared (f ys)
same-by f f' h xs ys e = h xs ∙ ap f' e ∙ sym (h ys)

framed-by : (n : ℕ) (f f' : List Node → Node) → Each n (Commutes f f') → (xs ys : List Node) → map bared xs ≡ map bared ys → bared (framed n f xs) ≡ bared (framed n f ys)
framed-by n f f' h = same-by (framed n f) (framed n f') (framed_same n f f' h)

-- where a part of a kind that holds no types stands at i
abbrev CommutesAt : ℕ → (List Node → Node) → (List Node → Node) → List Node → Type 0
CommutesAt i f f' zs = FreeAt i zs → Commutes f f' zs

free-by : (n : ℕ) (f g f' : List Node → Node) (i : ℕ) → Each n (CommutesAt i f f') → Each n (CommutesAt i g f') → (xs ys : List Node) → FreeAt i ys → map bared xs ≡ map bared ys
    → bared (framed n f xs) ≡ bared (framed n g ys)
free-by n f g f' i h k xs ys free e =
    framed_if n f f' (FreeAt i) h xs (moved i xs ys e free) ∙ ap (framed n f') e ∙ sym (framed_if n g f' (FreeAt i) k ys free)

pub form_alike : (f : Form) (q : Ask) (lo hi : ℕ) (xs ys : List Node) → Given (needs f q) ys → map bared xs ≡ map bared ys → bared (made_with_types f lo hi xs) ≡ bared (made f lo hi ys)
form_alike (form.Node k) q lo hi xs ys g e =
    same-by (node_of (from_to lo hi) (plain_kind k)) (λ zs. node_of (from_to lo hi) (plain_kind k) (own_children (plain_kind k) zs)) (bared-node (from_to lo hi) (plain_kind k)) xs ys e
form_alike (form.Bare k) q lo hi xs ys g e =
    let is = bare-is k q ys g in
    bared-node (from_to lo hi) (plain_kind k) xs
    ∙ ap (node_of (from_to lo hi) (plain_kind k)) (type-own (plain_kind k) is (map bared xs) ∙ sym (type-own (plain_kind k) is []))
    ∙ sym (bared-node (from_to lo hi) (plain_kind k) [])
form_alike (form.First k) q lo hi xs ys g e =
    bared-node (from_to lo hi) (plain_kind k) xs
    ∙ ap (node_of (from_to lo hi) (plain_kind k)) (ap (own_children (plain_kind k)) e ∙ name-own (plain_kind k) (first-is k q ys g) ys)
    ∙ sym (bared-node (from_to lo hi) (plain_kind k) (take 1 ys))
form_alike (form.Swapped k) q lo hi xs ys g e =
    same-by (λ zs. node_of (from_to lo hi) (plain_kind k) (swapped zs)) (λ zs. node_of (from_to lo hi) (plain_kind k) (own_children (plain_kind k) (swapped zs)))
    (λ zs. bared-node (from_to lo hi) (plain_kind k) (swapped zs) ∙ ap (λ ws. node_of (from_to lo hi) (plain_kind k) (own_children (plain_kind k) ws)) (swapped-same zs)) xs ys e
form_alike form.List q lo hi xs ys g e = same-by list_node list_node list-bared xs ys e
form_alike form.Elements q lo hi xs ys g e = same-by (λ zs. list_node (elements zs)) (λ zs. list_node (elements zs)) (λ zs. list-bared (elements zs) ∙ ap list_node (elements-same zs)) xs ys e
form_alike form.Sequence q lo hi xs ys g e = same-by (sequence (from_to lo hi)) (sequence (from_to lo hi)) (sequence-same (from_to lo hi)) xs ys e
form_alike form.Chain q lo hi xs ys g e = same-by (all_steps in_front) (all_steps in_front) (all_steps_same in_front in_front-bared) xs ys e
form_alike form.Links q lo hi xs ys g e = same-by (all_steps in_front_link) (all_steps in_front_link) (all_steps_same in_front_link in_front_link-bared) xs ys e
form_alike form.Logical q lo hi xs ys g e = same-by (all_steps in_front_logical) (all_steps in_front_logical) (all_steps_same in_front_logical in_front_logical-bared) xs ys e
form_alike form.Template q lo hi xs ys g e = same-by (template (from_to lo hi)) (template (from_to lo hi)) (template-bared (from_to lo hi)) xs ys e
form_alike form.Arrow q lo hi xs ys g e = framed-by 5 (arrow (from_to lo hi)) (arrow (from_to lo hi)) (arrow-bared (from_to lo hi)) xs ys e
form_alike form.Yield q lo hi xs ys g e = framed-by 2 (yield_ (from_to lo hi)) (yield_ (from_to lo hi)) (yield-bared (from_to lo hi)) xs ys e
form_alike form.New q lo hi xs ys g e = same-by (construction (from_to lo hi)) (construction (from_to lo hi)) (construction-bared (from_to lo hi)) xs ys e
form_alike form.Assertion q lo hi xs ys g e = same-by (assertion (from_to lo hi)) (assertion (from_to lo hi)) (assertion-same (from_to lo hi)) xs ys e
form_alike form.Annotated q lo hi xs ys g e =
    let f = annotated (from_to lo hi) in
    let same : Each 3 (CommutesAt 0 f f) = λ p o t free. annotated-bared (from_to lo hi) p o t (free p refl) in
    free-by 3 f f f 0 same same xs ys (given-at (fits (a sort.Pat) q) annotated_parts ys g 0 pattern refl pattern-free) e
form_alike form.Declarator q lo hi xs ys g e =
    let f = declarator (from_to lo hi) in
    let same : Each 4 (CommutesAt 0 f f) = λ p o t v free. declarator-bared (from_to lo hi) p o t v (free p refl) in
    free-by 4 f f f 0 same same xs ys (given-at (fits (a sort.VarDeclarator) q) declarator_parts ys g 0 pattern refl pattern-free) e
form_alike form.Param q lo hi xs ys g e =
    let f = parameter (from_to lo hi) in
    let same : Each 2 (CommutesAt 0 f f) = λ m p free. parameter-bared (from_to lo hi) m p (mapped m (free m refl)) in
    free-by 2 f f f 0 same same xs ys (given-at (fits (shape (one parameter_sort)) q) parameter_parts ys g 0 modifier_list refl modifiers-free) e
form_alike (form.Function k) q lo hi xs ys g e =
    let f = function (from_to lo hi) (plain_kind k) in
    let f' = own_function (from_to lo hi) (plain_kind k) in
    let same : Each 7 (CommutesAt 4 f f') = λ s i n t p r b free. function-bared (from_to lo hi) (plain_kind k) s i n t p r b (mapped p (free p refl)) in
    free-by 7 f f f' 4 same same xs ys (function-free k q ys g) e
form_alike form.Getter q lo hi xs ys g e =
    let f = getter (from_to lo hi) in
    let same : Each 5 (CommutesAt 2 f f) = λ k t p r b free. getter-bared (from_to lo hi) k t p r b (mapped p (free p refl)) in
    free-by 5 f f f 2 same same xs ys (given-at (fits (a sort.PropOrSpread) q) accessor_parts ys g 2 (shape (many parameter_sort)) refl parameters-free) e
form_alike form.Setter q lo hi xs ys g e =
    let f = setter (from_to lo hi) in
    let same : Each 5 (CommutesAt 2 f f) = λ k t p r b free. setter-bared (from_to lo hi) k t p r b (mapped p (free p refl)) in
    free-by 5 f f f 2 same same xs ys (given-at (fits (a sort.PropOrSpread) q) accessor_parts ys g 2 (shape (many parameter_sort)) refl parameters-free) e
form_alike (form.Class k is_abstract) q lo hi xs ys g e =
    framed-by 6 (class (from_to lo hi) (plain_kind k) is_abstract) (own_class (from_to lo hi) (plain_kind k) is_abstract) (class-bared (from_to lo hi) (plain_kind k) is_abstract) xs ys e
form_alike (form.Method k) q lo hi xs ys g e =
    let f = method (from_to lo hi) k in
    let same : Each 9 (CommutesAt 6 f f) = λ s i n o w t p r b free. method-bared (from_to lo hi) k s i n o w t p r b (mapped p (free p refl)) in
    free-by 9 f f f 6 same same xs ys (given-at (fits (a sort.ClassMember) q) method_parts ys g 6 (shape (many parameter_sort)) refl parameters-free) e
form_alike form.Field q lo hi xs ys g e = framed-by 5 (field (from_to lo hi)) (field (from_to lo hi)) (field-bared (from_to lo hi)) xs ys e
form_alike form.Modified q lo hi xs ys g e =
    let f = member (from_to lo hi) in
    let same : Each 2 (CommutesAt 0 f f) = λ m n free. member-bared (from_to lo hi) m (mapped m (free m refl)) n in
    free-by 2 f f f 0 same same xs ys (given-at (fits (a sort.ClassMember) q) modified_parts ys g 0 modifier_list refl modifiers-free) e
form_alike form.IndexSignature q lo hi xs ys g e =
    let f = index_signature_with_types (from_to lo hi) in
    let f' = index_signature (from_to lo hi) in
    let same : Each 3 (CommutesAt 0 f f') = λ m i t free. index-bared (from_to lo hi) m (mapped m (free m refl)) (i ∷ t ∷ []) in
    let same' : Each 3 (CommutesAt 0 f' f') = λ m i t free. index-bared (from_to lo hi) m (mapped m (free m refl)) [] in
    free-by 3 f f' f' 0 same same' xs ys (given-at (fits (a sort.ClassMember) q) signature_parts ys g 0 modifier_list refl modifiers-free) e
form_alike (form.Signature k) q lo hi xs ys g e =
    let f = type_signature (from_to lo hi) k in
    let same : Each 2 (CommutesAt 1 f f) = λ n p free. signature-bared (from_to lo hi) k n p (mapped p (free p refl)) in
    free-by 2 f f f 1 same same xs ys (signature-free q ys g) e
form_alike form.NewSignature q lo hi xs ys g e =
    let f = new_signature (from_to lo hi) in
    let same : Each 2 (CommutesAt 1 f f) = λ n p free. new-signature-bared (from_to lo hi) n p (mapped p (free p refl)) in
    free-by 2 f f f 1 same same xs ys (signature-free q ys g) e
form_alike form.Headed q lo hi xs ys g e = framed-by 2 (headed (from_to lo hi)) (own_headed (from_to lo hi)) (headed-same (from_to lo hi)) xs ys e
form_alike form.Declared q lo hi xs ys g e = framed-by 1 (declared (from_to lo hi)) (declared (from_to lo hi)) (declared-same (from_to lo hi)) xs ys e
form_alike form.Namespace q lo hi xs ys g e = same-by (namespace (from_to lo hi)) (namespace (from_to lo hi)) (namespace-same (from_to lo hi)) xs ys e
form_alike form.ImportEquals q lo hi xs ys g e = framed-by 4 (import_equals (from_to lo hi)) (import_equals (from_to lo hi)) (import-equals-same (from_to lo hi)) xs ys e
form_alike form.Module q lo hi xs ys g e = framed-by 2 (module_of (from_to lo hi)) (module_of (from_to lo hi)) (module-of-same (from_to lo hi)) xs ys e
