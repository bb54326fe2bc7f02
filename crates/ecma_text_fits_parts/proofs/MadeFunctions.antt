-- Functions, patterns and what is declared by them, and other nodes, have the grades that are asked.
use Rattle.std.proofs.Common.{◌≡◌, ◌∙◌, inl, inr, ℕ, Bool, true, false, not, List, [], ◌∷◌, ◌++◌, codes, length, refl, Some, None}
use Rattle.std.specs.Prelude.{◌==◌, if◌then◌else◌}
use Rattle.std.proofs.lemmas.Bool.{and_parts}
use Rattle.ecma_kind.specs.declared.span.Span.{Span}
use Rattle.ecma_kind.specs.declared.kind.Kind.{Kind}
use Rattle.ecma_kind.specs.declared.kind.Kind.TheVariants as kind
use Rattle.ecma_kind.specs.declared.operators.MetaPropKind.TheVariants.{NewTarget}
use Rattle.ecma_tree.specs.declared.node.Node.{Node}
use Rattle.ecma_tree.specs.Nodes.{absent, dummy_span}
use Rattle.ecma_tree.specs.Sorted.{is_absent as is_missing}
use Rattle.ecma_grammar.specs.trees.Chains.{construction}
use Rattle.ecma_grammar.specs.trees.Functions.{accessibility_of, annotated, annotated_of, annotated_pattern, arrow, declarator, end_of, function, function_of, getter, has_word, is_this, parameter, parameters, questioned_kind, questioned_part, setter, setter_by, setter_of, wrapped, wrapped_by, yield_}
use Rattle.ecma_grammar.specs.trees.Others.{assertion, declared, declared_kind, headed, import_equals, module_of, namespace, namespaces, nested, text_of}
use Rattle.ecma_grammar.specs.trees.Parts.{by_frame, children_of, framed, from_to, is_absent, is_absent_kind, is_present, kind_of, span_of}
use Rattle.ecma_rules.specs.Children.{is_present as is_there}
use Rattle.ecma_fits.specs.Counts.{is_empty}
use Rattle.ecma_text_fits_parts.proofs.Grades.{Grade, Is, Meets, absent as absent_grade, allowed, closed, expression, expression_present, good, head, is_closed, is_head, is_member_grade, node_meets, pattern as pattern_grade, present}
use Rattle.ecma_text_fits_parts.proofs.MadeNodes.{all_sound, quiet_sound}
use Rattle.ecma_text_fits_parts.proofs.Needs.{declared_needs, five, four, is_quiet, namespace_needs, seven, three, two}
use Rattle.ecma_text_fits_parts.proofs.Sound.{Sound, declared_sound, is_pattern, or_first, or_second, questioned_sound}
use Rattle.ecma_text_fits_parts.proofs.Throughout.{EachThroughout, Throughout, append_all, below, first_of, here, map_all, more, none, others_of, throughout}
use Rattle.ecma_raw_roles.proofs.Walks.{not_true}
use Rattle.ecma_text_fits_parts.proofs.Wanted.{Given, done, either, one}

absent_sound : Throughout Sound absent
absent_sound = throughout dummy_span kind.Absent refl none

one_of : (b : Bool) (x y : Node) → Throughout Sound x → Throughout Sound y → Throughout Sound (if b then x else y)
one_of true x y s t = s
one_of false x y s t = t

-- functions

wrapped_sound : (n : Node) (k : Kind) → Throughout Sound n → Throughout Sound (wrapped_by n k)
wrapped_sound n (kind.TsParamProp accessibility is_override readonly) s = s
wrapped_sound n _ s = throughout (span_of n) kind.Param refl (more s none)

parameters_sound : (n : Node) → Throughout Sound n → Throughout Sound (parameters n)
parameters_sound n s = throughout dummy_span kind.List refl (map_all Sound wrapped (λ m t. wrapped_sound m (kind_of m) t) (below Sound s))

pub function_of_sound : (at : Span) (is_async is_generator : Bool) (type_params params return_type body : Node) → Throughout Sound type_params → Throughout Sound params → Throughout Sound return_type → Throughout Sound body
    → Throughout Sound (function_of at is_async is_generator type_params params return_type body)
function_of_sound at is_async is_generator t p r b s u v w = throughout at (kind.Function is_generator is_async) refl (more (parameters_sound p u) (more w (more s (more v none))))

-- a grade that depends on the kind alone
abbrev pub Allowed : Grade → Kind → Type 0
Allowed g k = (is_member_grade g ≡ false) × ((cs : List Node) → allowed g k cs ≡ true)

pub function_is : (at : Span) (k : Kind) (g : Grade) → Allowed g k → (xs : List Node) → is_quiet k ≡ true → Given seven xs → Meets g (framed 7 (function at k) xs)
function_is at k g m [] q r = absurd r
function_is at k g m (a ∷ []) q r = absurd r.1
function_is at k g m (a ∷ b ∷ []) q r = absurd r.1.1
function_is at k g m (a ∷ b ∷ c ∷ []) q r = absurd r.1.1.1
function_is at k g m (a ∷ b ∷ c ∷ d ∷ []) q r = absurd r.1.1.1.1
function_is at k g m (a ∷ b ∷ c ∷ d ∷ e ∷ []) q r = absurd r.1.1.1.1.1
function_is at k g m (a ∷ b ∷ c ∷ d ∷ e ∷ f ∷ []) q r = absurd r.1.1.1.1.1.1
function_is at k g m (a ∷ b ∷ c ∷ d ∷ e ∷ f ∷ h ∷ []) q r =
    let rest = r.1.1.1 in
    let made = function_of_sound at (is_present a) (is_present b) d e f h rest.0.0 rest.1.0.0 rest.1.1.0.0 rest.1.1.1.0.0 in
    let children = c ∷ function_of at (is_present a) (is_present b) d e f h ∷ [] in
    node_meets g at k children m.0 (more r.1.1.0.0 (more made none)) (quiet_sound k children q) (m.1 children)
function_is at k g m (a ∷ b ∷ c ∷ d ∷ e ∷ f ∷ h ∷ i ∷ xs) q r = absurd r.1.1.1.1.1.1.1

pub arrow_is : (at : Span) (xs : List Node) → Given five xs → Is expression (framed 5 (arrow at) xs)
arrow_is at [] g = absurd g
arrow_is at (a ∷ []) g = absurd g.1
arrow_is at (a ∷ b ∷ []) g = absurd g.1.1
arrow_is at (a ∷ b ∷ c ∷ []) g = absurd g.1.1.1
arrow_is at (a ∷ b ∷ c ∷ d ∷ []) g = absurd g.1.1.1.1
arrow_is at (a ∷ b ∷ c ∷ d ∷ e ∷ []) g =
    node_meets expression at (kind.ArrowExpr (is_present a) false) (c ∷ e ∷ b ∷ d ∷ []) refl (more g.1.1.0.0 (more g.1.1.1.1.0.0 (more g.1.0.0 (more g.1.1.1.0.0 none)))) refl refl
arrow_is at (a ∷ b ∷ c ∷ d ∷ e ∷ f ∷ xs) g = absurd g.1.1.1.1.1

pub same_absent : (k : Kind) → is_absent_kind k ≡ is_missing k
same_absent kind.Absent = refl
same_absent _ = refl

pub yield_is : (at : Span) (xs : List Node) → Given (either (one present (one expression done)) (one absent_grade (one good done))) xs → Is expression (framed 2 (yield_ at) xs)
yield_is at [] (inl k) = absurd k
yield_is at [] (inr k) = absurd k
yield_is at (a ∷ []) (inl k) = absurd k.1
yield_is at (a ∷ []) (inr k) = absurd k.1
yield_is at (a ∷ b ∷ []) (inl k) =
    let there = expression_present (kind_of b) k.1.0.1 in
    node_meets expression at (kind.YieldExpr (is_present a)) (b ∷ []) refl (more k.1.0.0 none) (or_first (is_there (kind_of b)) (not (is_present a)) there) refl
yield_is at (a ∷ b ∷ []) (inr k) =
    let gone : is_absent_kind (kind_of a) ≡ true = same_absent (kind_of a) ∙ (and_parts (is_missing (kind_of a)) (is_empty (children_of a)) k.0.1).0 in
    let plain : not (is_present a) ≡ true = rw gone refl in
    node_meets expression at (kind.YieldExpr (is_present a)) (b ∷ []) refl (more k.1.0.0 none) (or_second (is_there (kind_of b)) (not (is_present a)) plain) refl
yield_is at (a ∷ b ∷ c ∷ cs) (inl k) = absurd k.1.1
yield_is at (a ∷ b ∷ c ∷ cs) (inr k) = absurd k.1.1

pub construction_is : (at : Span) (xs : List Node) → Given (either done three) xs → Is expression (construction at xs)
construction_is at [] k = node_meets expression at (kind.MetaPropExpr NewTarget) [] refl none refl refl
construction_is at (a ∷ xs) (inl k) = absurd k
construction_is at (a ∷ []) (inr k) = absurd k.1
construction_is at (a ∷ b ∷ []) (inr k) = absurd k.1.1
construction_is at (a ∷ b ∷ c ∷ []) (inr k) = node_meets expression at kind.NewExpr (a ∷ c ∷ b ∷ []) refl (more k.0.0 (more k.1.1.0.0 (more k.1.0.0 none))) refl refl
construction_is at (a ∷ b ∷ c ∷ d ∷ ds) (inr k) = absurd k.1.1.1

pub assertion_is : (at : Span) (xs : List Node) → Given (either (one expression done) (one good (one expression done))) xs → Is expression (assertion at xs)
assertion_is at [] (inl k) = absurd k
assertion_is at [] (inr k) = absurd k
assertion_is at (a ∷ []) (inl k) = node_meets expression at kind.TsConstAssertion (a ∷ []) refl (more k.0.0 none) refl refl
assertion_is at (a ∷ []) (inr k) = absurd k.1
assertion_is at (a ∷ b ∷ []) (inl k) = absurd k.1
assertion_is at (a ∷ b ∷ []) (inr k) = node_meets expression at kind.TsTypeAssertion (b ∷ a ∷ []) refl (more k.1.0.0 (more k.0.0 none)) refl refl
assertion_is at (a ∷ b ∷ c ∷ cs) (inl k) = absurd k.1
assertion_is at (a ∷ b ∷ c ∷ cs) (inr k) = absurd k.1.1

-- patterns and parameters

leaf_questioned : (optional : Bool) (k : Kind) (cs : List Node) → Sound k cs → Sound (questioned_kind optional k) cs
leaf_questioned optional (kind.Ident text ctxt before) cs h = refl
leaf_questioned optional (kind.ArrayPat before) cs h = refl
leaf_questioned optional (kind.ObjectPat before) cs h = refl
leaf_questioned optional _ cs h = h

part_sound : (optional : Bool) (k : Kind) (n : Node) → Throughout Sound n → Throughout Sound (questioned_part optional k n)
part_sound optional kind.BindingIdent n s = throughout (span_of n) (questioned_kind optional (kind_of n)) (leaf_questioned optional (kind_of n) (children_of n) (here Sound s)) (below Sound s)
part_sound optional _ n s = s

annotated_part : (at : Span) (k : Kind) (optional : Bool) (annotation : Node) (cs : List Node) → is_pattern k ≡ true → Throughout Sound annotation → EachThroughout Sound cs → Throughout Sound (annotated_of at k optional annotation cs)
annotated_part at k optional annotation [] p s h = absent_sound
annotated_part at k optional annotation (a ∷ []) p s h = absent_sound
annotated_part at k optional annotation (a ∷ b ∷ []) p s h =
    throughout at (questioned_kind optional k) (questioned_sound optional k (questioned_part optional k a ∷ annotation ∷ []) p) (more (part_sound optional k a (first_of Sound h)) (more s none))
annotated_part at k optional annotation (a ∷ b ∷ c ∷ cs) p s h = absent_sound

pattern_sound : (at : Span) (pattern : Node) (optional : Bool) (annotation : Node) → Is pattern_grade pattern → Throughout Sound annotation → Throughout Sound (annotated_pattern at pattern optional annotation)
pattern_sound at pattern optional annotation m s = go (length (children_of pattern) == 2)
  where
    go : (b : Bool) → Throughout Sound (by_frame (annotated_of at (kind_of pattern) optional annotation) (if b then Some (children_of pattern) else None))
    go true = annotated_part at (kind_of pattern) optional annotation (children_of pattern) m.1 s (below Sound m.0)
    go false = absent_sound

pub annotated_sound : (at : Span) (xs : List Node) → Given (one pattern_grade two) xs → Throughout Sound (framed 3 (annotated at) xs)
annotated_sound at [] k = absurd k
annotated_sound at (a ∷ []) k = absurd k.1
annotated_sound at (a ∷ b ∷ []) k = absurd k.1.1
annotated_sound at (a ∷ b ∷ c ∷ []) k = pattern_sound at a (is_present b) c k.0 k.1.1.0.0
annotated_sound at (a ∷ b ∷ c ∷ d ∷ ds) k = absurd k.1.1.1

pub declarator_sound : (at : Span) (xs : List Node) → Given (one pattern_grade three) xs → Throughout Sound (framed 4 (declarator at) xs)
declarator_sound at [] k = absurd k
declarator_sound at (a ∷ []) k = absurd k.1
declarator_sound at (a ∷ b ∷ []) k = absurd k.1.1
declarator_sound at (a ∷ b ∷ c ∷ []) k = absurd k.1.1.1
declarator_sound at (a ∷ b ∷ c ∷ d ∷ []) k =
    throughout at (kind.VarDeclarator (is_present b)) refl (more (pattern_sound (from_to (span_of a).lo (end_of a c)) a false c k.0 k.1.1.0.0) (more k.1.1.1.0.0 none))
declarator_sound at (a ∷ b ∷ c ∷ d ∷ e ∷ es) k = absurd k.1.1.1.1

pub parameter_sound : (at : Span) (xs : List Node) → Given two xs → Throughout Sound (framed 2 (parameter at) xs)
parameter_sound at [] k = absurd k
parameter_sound at (a ∷ []) k = absurd k.1
parameter_sound at (a ∷ b ∷ []) k = one_of (is_absent a) b _ k.1.0.0 (throughout at (kind.TsParamProp (accessibility_of a) (has_word (codes "override") a) (has_word (codes "readonly") a)) refl (more k.1.0.0 none))
parameter_sound at (a ∷ b ∷ c ∷ cs) k = absurd k.1.1

pub getter_sound : (at : Span) (xs : List Node) → Given five xs → Throughout Sound (framed 5 (getter at) xs)
getter_sound at [] g = absurd g
getter_sound at (a ∷ []) g = absurd g.1
getter_sound at (a ∷ b ∷ []) g = absurd g.1.1
getter_sound at (a ∷ b ∷ c ∷ []) g = absurd g.1.1.1
getter_sound at (a ∷ b ∷ c ∷ d ∷ []) g = absurd g.1.1.1.1
getter_sound at (a ∷ b ∷ c ∷ d ∷ e ∷ []) g = throughout at kind.GetterProp refl (go (length (children_of c) == 0))
  where
    go : (t : Bool) → EachThroughout Sound (if t then a ∷ d ∷ e ∷ [] else a ∷ d ∷ e ∷ c ∷ [])
    go true = more g.0.0 (more g.1.1.1.0.0 (more g.1.1.1.1.0.0 none))
    go false = more g.0.0 (more g.1.1.1.0.0 (more g.1.1.1.1.0.0 (more g.1.1.0.0 none)))
getter_sound at (a ∷ b ∷ c ∷ d ∷ e ∷ f ∷ xs) g = absurd g.1.1.1.1.1

setter_of_sound : (at : Span) (key this_param param body : Node) → Throughout Sound key → Throughout Sound this_param → Throughout Sound param → Throughout Sound body → Throughout Sound (setter_of at key this_param param body)
setter_of_sound at a b c d s t u v = throughout at kind.SetterProp refl (more s (more t (more u (more v none))))

setter_by_sound : (at : Span) (key params body : Node) (xs : List Node) → Throughout Sound key → Throughout Sound params → Throughout Sound body → EachThroughout Sound xs → Throughout Sound (setter_by at key params body xs)
setter_by_sound at a b c [] s t u h = setter_of_sound at a absent b c s absent_sound t u
setter_by_sound at a b c (x ∷ []) s t u h = one_of (is_this x) _ _ (setter_of_sound at a absent b c s absent_sound t u) (setter_of_sound at a absent x c s absent_sound (first_of Sound h) u)
setter_by_sound at a b c (x ∷ y ∷ []) s t u h =
    one_of (is_this x) _ _ (setter_of_sound at a x y c s (first_of Sound h) (first_of Sound (others_of Sound h)) u) (setter_of_sound at a absent b c s absent_sound t u)
setter_by_sound at a b c (x ∷ y ∷ z ∷ zs) s t u h = setter_of_sound at a absent b c s absent_sound t u

pub setter_sound : (at : Span) (xs : List Node) → Given five xs → Throughout Sound (framed 5 (setter at) xs)
setter_sound at [] g = absurd g
setter_sound at (a ∷ []) g = absurd g.1
setter_sound at (a ∷ b ∷ []) g = absurd g.1.1
setter_sound at (a ∷ b ∷ c ∷ []) g = absurd g.1.1.1
setter_sound at (a ∷ b ∷ c ∷ d ∷ []) g = absurd g.1.1.1.1
setter_sound at (a ∷ b ∷ c ∷ d ∷ e ∷ []) g = setter_by_sound at a c e (children_of c) g.0.0 g.1.1.0.0 g.1.1.1.1.0.0 (below Sound g.1.1.0.0)
setter_sound at (a ∷ b ∷ c ∷ d ∷ e ∷ f ∷ xs) g = absurd g.1.1.1.1.1

-- loops, declarations, namespaces, imports by `=`, modules

head_sound : (k : Kind) (cs ds : List Node) → is_head k cs ≡ true → Sound k ds
head_sound kind.ForStmt cs ds h = refl
head_sound kind.ForInStmt cs ds h = refl
head_sound (kind.ForOfStmt is_await) cs ds h = refl
head_sound _ cs ds h = not_true h

pub headed_sound : (at : Span) (xs : List Node) → Given (one head (one good done)) xs → Throughout Sound (framed 2 (headed at) xs)
headed_sound at [] k = absurd k
headed_sound at (a ∷ []) k = absurd k.1
headed_sound at (a ∷ b ∷ []) k = throughout at (kind_of a) (head_sound (kind_of a) (children_of a) (children_of a ++ b ∷ []) k.0.1) (append_all Sound (below Sound k.0.0) (more k.1.0.0 none))
headed_sound at (a ∷ b ∷ c ∷ cs) k = absurd k.1.1

declared_closed : (k : Kind) → is_closed k ≡ true → is_closed (declared_kind k) ≡ true
declared_closed (kind.FnDecl declare) h = refl
declared_closed (kind.ClassDecl declare) h = refl
declared_closed (kind.VarDecl k declare) h = refl
declared_closed (kind.TsInterfaceDecl declare) h = refl
declared_closed (kind.TsTypeAliasDecl declare) h = refl
declared_closed (kind.TsEnumDecl declare is_const) h = refl
declared_closed (kind.TsModuleDecl declare global) h = refl
declared_closed _ h = h

pub declared_made : (g : Grade) (at : Span) (xs : List Node) → Given (declared_needs g) xs → Meets g (framed 1 (declared at) xs)
declared_made good at [] k = absurd k
declared_made good at (a ∷ []) k = node_meets good at (declared_kind (kind_of a)) (children_of a) refl (below Sound k.0.0) (declared_sound (kind_of a) (children_of a) (here Sound k.0.0)) refl
declared_made good at (a ∷ b ∷ bs) k = absurd k.1
declared_made closed at [] k = absurd k
declared_made closed at (a ∷ []) k = node_meets closed at (declared_kind (kind_of a)) (children_of a) refl (below Sound k.0.0) (declared_sound (kind_of a) (children_of a) (here Sound k.0.0)) (declared_closed (kind_of a) k.0.1)
declared_made closed at (a ∷ b ∷ bs) k = absurd k.1
declared_made _ at xs k = absurd k

nested_sound : (hi : ℕ) (name body : Node) → Throughout Sound name → Throughout Sound body → Throughout Sound (nested hi name body)
nested_sound hi a b s t = throughout (from_to (span_of a).lo hi) (kind.TsNamespaceDecl false false) refl (more s (more t none))

namespaces_sound : (hi : ℕ) (xs : List Node) → EachThroughout Sound xs → Throughout Sound (namespaces hi xs)
namespaces_sound hi [] h = absent_sound
namespaces_sound hi (a ∷ []) h = first_of Sound h
namespaces_sound hi (a ∷ b ∷ bs) h = nested_sound hi a (namespaces hi (b ∷ bs)) (first_of Sound h) (namespaces_sound hi (b ∷ bs) (others_of Sound h))

namespace_made : (at : Span) (xs : List Node) → EachThroughout Sound xs → Throughout Sound (namespace at xs)
namespace_made at [] h = absent_sound
namespace_made at (a ∷ []) h = absent_sound
namespace_made at (a ∷ b ∷ bs) h = throughout at (kind.TsModuleDecl false false) refl (more (first_of Sound h) (more (namespaces_sound at.hi (b ∷ bs) (others_of Sound h)) none))

pub namespace_is : (g : Grade) (at : Span) (xs : List Node) → Given (namespace_needs g) xs → Meets g (namespace at xs)
namespace_is good at xs k = (namespace_made at xs (all_sound good xs refl k), refl)
namespace_is closed at [] k = absurd k
namespace_is closed at (a ∷ []) k = absurd k.1
namespace_is closed at (a ∷ b ∷ bs) k =
    node_meets closed at (kind.TsModuleDecl false false) (a ∷ namespaces at.hi (b ∷ bs) ∷ []) refl (more k.0.0 (more (namespaces_sound at.hi (b ∷ bs) (more k.1.0.0 (all_sound good bs refl k.1.1))) none)) refl refl
namespace_is _ at xs k = absurd k

pub import_equals_sound : (at : Span) (xs : List Node) → Given four xs → Throughout Sound (framed 4 (import_equals at) xs)
import_equals_sound at [] g = absurd g
import_equals_sound at (a ∷ []) g = absurd g.1
import_equals_sound at (a ∷ b ∷ []) g = absurd g.1.1
import_equals_sound at (a ∷ b ∷ c ∷ []) g = absurd g.1.1.1
import_equals_sound at (a ∷ b ∷ c ∷ d ∷ []) g = throughout at (kind.TsImportEqualsDecl (is_present a) (is_present b)) refl (more g.1.1.0.0 (more g.1.1.1.0.0 none))
import_equals_sound at (a ∷ b ∷ c ∷ d ∷ e ∷ xs) g = absurd g.1.1.1.1

pub module_sound : (at : Span) (xs : List Node) → Given two xs → Throughout Sound (framed 2 (module_of at) xs)
module_sound at [] k = absurd k
module_sound at (a ∷ []) k = absurd k.1
module_sound at (a ∷ b ∷ []) k = throughout at (kind.Module (text_of (kind_of a))) refl (more k.1.0.0 none)
module_sound at (a ∷ b ∷ c ∷ cs) k = absurd k.1.1
