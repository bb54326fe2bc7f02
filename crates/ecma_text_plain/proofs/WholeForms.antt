-- What a form of plain modules makes of whole nodes is whole, where the body that it is given is there.
use Rattle.std.proofs.Common.{◌≡◌, ◌∙◌, ◌-◌, Bool, true, false, not, ◌||◌, List, [], ◌∷◌, ◌++◌, codes, inl, inr, length, nat_le, refl, sym, ap, subst}
use Rattle.std.specs.Prelude.{slice_get, if◌then◌else◌, ◌==◌}
use Rattle.std.proofs.lemmas.Bool.{and_parts}
use Rattle.ecma_kind.specs.declared.span.Span.{Span}
use Rattle.ecma_kind.specs.declared.kind.Kind.{Kind}
use Rattle.ecma_kind.specs.declared.kind.Kind.TheVariants as kind
use Rattle.ecma_kind.specs.declared.operators.MethodKind.{MethodKind}
use Rattle.ecma_kind.specs.declared.operators.MethodKind.TheVariants.{Method, Getter, Setter}
use Rattle.ecma_kind.specs.declared.operators.MemberModifiers.{MemberModifiers}
use Rattle.ecma_tree.specs.declared.node.Node.{Node}
use Rattle.ecma_tree.specs.Nodes.{absent, dummy_span, node_of}
use Rattle.ecma_tree.specs.Sorted.{is_absent as is_missing}
use Rattle.ecma_grammar.specs.trees.Parts.{kind_of, span_of, children_of, from_to, is_absent, is_present, framed}
use Rattle.ecma_grammar.specs.trees.Functions.{questioned_kind, questioned, questioned_part, annotated_of, annotated_pattern, annotated, end_of, declarator, accessibility_of, has_word, parameter, wrapped_by, wrapped, parameters, function_of, function, arrow, yield_, getter, is_this, is_this_by, is_this_ident, is_this_name as is_first_this, setter_of, setter_by, setter}
use Rattle.ecma_grammar.specs.trees.Classes.{class, is_constructor_key, is_plain_function, is_private_name, no_modifiers, method_kind, method, field_kind, field, modified, is_constructor, constructor_of, method_by, member_by, member}
use Rattle.ecma_grammar.specs.trees.Others.{swapped, missing, elements, the_one, sequence, headed, import_equals, text_of, module_of}
use Rattle.ecma_text_leaves.proofs.Trees.{kind_made}
use Rattle.ecma_raw_roles.proofs.Walks.{not_true}
use Rattle.ecma_plain.specs.Functions.{is_this_name}
use Rattle.ecma_text_plain.proofs.GivenWhole.{CalmAt, ExternalAt, calm_full, calm_open, calm_other, calm_there, is_calm, is_other, question_aside, question_named, question_shut, two_full}
use Rattle.ecma_text_plain.proofs.Whole.{A, G, View, append_all, inner, is_specifier, is_unusual, made_of, map_all, more, no_this, none, swap_all, take_all, view, whole}
use Rattle.ecma_text_plain.proofs.WholeChains.{framed_good, frames, list_of, missing_node, one_of}

-- functions

question_view : (optional : Bool) (k : Kind) {cs ds : List Node} → (is_unusual k cs ≡ false → is_unusual k ds ≡ false) → (A cs → A ds) → View k cs → View (questioned_kind optional k) ds
question_view optional k {ds = ds} p f (inl t) = inl (question_aside optional k ds ∙ p t.0, question_named optional k ∙ t.1, f t.2)
question_view optional k p f (inr s) = inr (question_shut optional k ∙ s)

questioned_good : (optional : Bool) {n : Node} → G n → G (questioned optional n)
questioned_good optional {n} g = made_of (span_of n) (questioned_kind optional (kind_of n)) (question_view optional (kind_of n) (λ p. p) (λ h. h) (view g))

questioned_part_good : (optional : Bool) (k : Kind) {n : Node} → G n → G (questioned_part optional k n)
questioned_part_good optional kind.BindingIdent g = questioned_good optional g
questioned_part_good optional _ g = g

annotated_of_good : (at : Span) (k : Kind) (optional : Bool) (annotation : Node) → is_calm k ≡ true → G annotation → (xs : List Node) → View k xs → G (annotated_of at k optional annotation xs)
annotated_of_good at k optional annotation t g [] v = missing_node
annotated_of_good at k optional annotation t g (a ∷ []) v = missing_node
annotated_of_good at k optional annotation t g (a ∷ b ∷ []) v = made_of at (questioned_kind optional k) (question_view optional k (λ p. two_full k _ _ (calm_other k t)) go v)
  where
    go : A (a ∷ b ∷ []) → A (questioned_part optional k a ∷ annotation ∷ [])
    go (more x (more y none)) = more (questioned_part_good optional k x) (more g none)
annotated_of_good at k optional annotation t g (a ∷ b ∷ c ∷ cs) v = missing_node

annotated_pattern_good : (at : Span) (pattern : Node) (optional : Bool) (annotation : Node) → is_calm (kind_of pattern) ≡ true → G pattern → G annotation → G (annotated_pattern at pattern optional annotation)
annotated_pattern_good at pattern optional annotation t g a =
    framed_good 2 (annotated_of at (kind_of pattern) optional annotation) (children_of pattern) (annotated_of_good at (kind_of pattern) optional annotation t a (children_of pattern) (view g))

pub annotated_good : (at : Span) {xs : List Node} → A xs → CalmAt 0 xs → G (annotated at xs)
annotated_good at none t = missing_node
annotated_good at (more a none) t = missing_node
annotated_good at (more a (more b none)) t = missing_node
annotated_good at (more {n = x} a (more {n = y} b (more {n = z} c none))) t = annotated_pattern_good at x (is_present y) z t a c
annotated_good at (more a (more b (more c (more d h)))) t = missing_node

pub declarator_good : (at : Span) {xs : List Node} → A xs → CalmAt 0 xs → G (declarator at xs)
declarator_good at none t = missing_node
declarator_good at (more a none) t = missing_node
declarator_good at (more a (more b none)) t = missing_node
declarator_good at (more a (more b (more c none))) t = missing_node
declarator_good at (more {n = x} a (more {n = y} b (more {n = z} c (more d none)))) t =
    whole at (kind.VarDeclarator (is_present y)) refl refl (more (annotated_pattern_good (from_to (span_of x).lo (end_of x z)) x false z t a c) (more d none))
declarator_good at (more a (more b (more c (more d (more e h))))) t = missing_node

pub parameter_good : (at : Span) {xs : List Node} → A xs → G (parameter at xs)
parameter_good at none = missing_node
parameter_good at (more a none) = missing_node
parameter_good at (more {n = x} a (more {n = y} b none)) = one_of (is_absent x) _ _ b (whole at (kind.TsParamProp (accessibility_of x) (has_word (codes "override") x) (has_word (codes "readonly") x)) refl refl (more b none))
parameter_good at (more a (more b (more c h))) = missing_node

wrapped_by_good : (n : Node) (k : Kind) → G n → G (wrapped_by n k)
wrapped_by_good n (kind.TsParamProp accessibility is_override readonly) g = g
wrapped_by_good n _ g = whole (span_of n) kind.Param refl refl (more g none)

wrapped_good : {n : Node} → G n → G (wrapped n)
wrapped_good {n} g = wrapped_by_good n (kind_of n) g

parameters_good : {n : Node} → G n → is_calm (kind_of n) ≡ true → G (parameters n)
parameters_good {n} g t = list_of (map_all wrapped (λ n h. wrapped_good h) (inner g (calm_open (kind_of n) t)))

function_of_good : (at : Span) (is_async is_generator : Bool) {type_params params return_type body : Node} → G type_params → G params → G return_type → G body → is_calm (kind_of params) ≡ true → is_calm (kind_of body) ≡ true
    → G (function_of at is_async is_generator type_params params return_type body)
function_of_good at is_async is_generator {body = body} a b c d t there = whole at (kind.Function is_generator is_async) (calm_there (kind_of body) there) refl (more (parameters_good b t) (more d (more a (more c none))))

pub function_good : (at : Span) (k : Kind) → is_other k ≡ true → is_this_name k ≡ false → {xs : List Node} → A xs → CalmAt 4 xs → CalmAt 6 xs → G (function at k xs)
function_good at k o q none s t = missing_node
function_good at k o q (more a none) s t = missing_node
function_good at k o q (more a (more b none)) s t = missing_node
function_good at k o q (more a (more b (more c none))) s t = missing_node
function_good at k o q (more a (more b (more c (more d none)))) s t = missing_node
function_good at k o q (more a (more b (more c (more d (more f none))))) s t = missing_node
function_good at k o q (more a (more b (more c (more d (more f (more g none)))))) s t = missing_node
function_good at k o q (more a (more b (more c (more d (more f (more g (more i none))))))) s t = whole at k (two_full k _ _ o) q (more c (more (function_of_good at _ _ d f g i s t) none))
function_good at k o q (more a (more b (more c (more d (more f (more g (more i (more j h)))))))) s t = missing_node

pub arrow_good : (at : Span) {xs : List Node} → A xs → G (arrow at xs)
arrow_good at none = missing_node
arrow_good at (more a none) = missing_node
arrow_good at (more a (more b none)) = missing_node
arrow_good at (more a (more b (more c none))) = missing_node
arrow_good at (more a (more b (more c (more d none)))) = missing_node
arrow_good at (more a (more b (more c (more d (more e none))))) = whole at (kind.ArrowExpr _ false) refl refl (more c (more e (more b (more d none))))
arrow_good at (more a (more b (more c (more d (more e (more f h)))))) = missing_node

pub yield_good : (at : Span) {xs : List Node} → A xs → G (yield_ at xs)
yield_good at none = missing_node
yield_good at (more a none) = missing_node
yield_good at (more a (more b none)) = whole at (kind.YieldExpr _) refl refl (more b none)
yield_good at (more a (more b (more c h))) = missing_node

chosen : (b : Bool) {xs ys : List Node} → A xs → A ys → A (if b then xs else ys)
chosen true g h = g
chosen false g h = h

getter_lists : (t : Bool) (a d e c : Node) → is_calm (kind_of e) ≡ true → is_unusual kind.GetterProp (if t then a ∷ d ∷ e ∷ [] else a ∷ d ∷ e ∷ c ∷ []) ≡ false
getter_lists true a d e c there = calm_there (kind_of e) there
getter_lists false a d e c there = refl

pub getter_good : (at : Span) {xs : List Node} → A xs → CalmAt 4 xs → G (getter at xs)
getter_good at none t = missing_node
getter_good at (more a none) t = missing_node
getter_good at (more a (more b none)) t = missing_node
getter_good at (more a (more b (more c none))) t = missing_node
getter_good at (more a (more b (more c (more d none)))) t = missing_node
getter_good at (more {n = key} a (more b (more {n = params} c (more {n = result} d (more {n = body} e none))))) t =
    whole at kind.GetterProp (getter_lists (length (children_of params) == 0) key result body params t) refl (chosen (length (children_of params) == 0) (more a (more d (more e none))) (more a (more d (more e (more c none)))))
getter_good at (more a (more b (more c (more d (more e (more f h)))))) t = missing_node

setter_of_good : (at : Span) {key param body : Node} → G key → G param → G body → is_calm (kind_of body) ≡ true → G (setter_of at key absent param body)
setter_of_good at {body = body} a c d t =
    let without = ap is_missing (kind_made dummy_span kind.Absent []) in
    let there = calm_there (kind_of body) t in
    whole at kind.SetterProp (λ j. not (without j) || there j) refl (more a (more missing_node (more c (more d none))))

ident_told : (k : Kind) → is_this_ident k ≡ is_this_name k
ident_told (kind.Ident text ctxt optional) = refl
ident_told _ = refl

first_unnamed : {xs : List Node} → A xs → is_first_this (slice_get xs 0) ≡ false
first_unnamed none = refl
first_unnamed (more {n = n} g h) = ident_told (kind_of n) ∙ no_this g

-- no pattern is `this`
no_this_by : {n : Node} → G n → (k : Kind) → kind_of n ≡ k → is_this_by n k ≡ false
no_this_by g kind.BindingIdent e = first_unnamed (inner g (ap is_specifier e))
no_this_by g _ e = refl

setter_by_good : (at : Span) {key params body : Node} → G key → G params → G body → is_calm (kind_of body) ≡ true → {xs : List Node} → A xs → G (setter_by at key params body xs)
setter_by_good at a b c t none = setter_of_good at a b c t
setter_by_good at a b c t (more {n = x} d none) = one_of (is_this x) _ _ (setter_of_good at a b c t) (setter_of_good at a d c t)
setter_by_good at {key} {params} {body} a b c t (more {n = x} d (more {n = y} e none)) =
    subst (λ z. G (if z then setter_of at key x y body else setter_of at key absent params body)) (sym (no_this_by d (kind_of x) refl)) (setter_of_good at a b c t)
setter_by_good at a b c t (more d (more e (more f h))) = setter_of_good at a b c t

pub setter_good : (at : Span) {xs : List Node} → A xs → CalmAt 2 xs → CalmAt 4 xs → G (setter at xs)
setter_good at none s t = missing_node
setter_good at (more a none) s t = missing_node
setter_good at (more a (more b none)) s t = missing_node
setter_good at (more a (more b (more c none))) s t = missing_node
setter_good at (more a (more b (more c (more d none)))) s t = missing_node
setter_good at (more a (more b (more {n = params} c (more d (more e none))))) s t = setter_by_good at a c e t (inner c (calm_open (kind_of params) s))
setter_good at (more a (more b (more c (more d (more e (more f h)))))) s t = missing_node

-- classes

pub class_good : (at : Span) (k : Kind) → is_other k ≡ true → is_this_name k ≡ false → (is_abstract : Bool) {xs : List Node} → A xs → G (class at k is_abstract xs)
class_good at k o q b none = missing_node
class_good at k o q b (more a none) = missing_node
class_good at k o q b (more a (more c none)) = missing_node
class_good at k o q b (more a (more c (more d none))) = missing_node
class_good at k o q b (more a (more c (more d (more f none)))) = missing_node
class_good at k o q b (more a (more c (more d (more f (more g none))))) = missing_node
class_good at k o q b (more a (more c (more d (more f (more g (more i none)))))) = whole at k (two_full k _ _ o) q (more a (more (whole at (kind.Class b) refl refl (more d (more i (more c (more f (more g none)))))) none))
class_good at k o q b (more a (more c (more d (more f (more g (more i (more j h))))))) = missing_node

method_named : (b : Bool) (m : MethodKind) (modifiers : MemberModifiers) → is_this_name (if b then kind.PrivateMethod m modifiers else kind.ClassMethod m modifiers) ≡ false
method_named true m modifiers = refl
method_named false m modifiers = refl

method_other : (b : Bool) (m : MethodKind) (modifiers : MemberModifiers) → is_other (if b then kind.PrivateMethod m modifiers else kind.ClassMethod m modifiers) ≡ true
method_other true m modifiers = refl
method_other false m modifiers = refl

pub method_good : (at : Span) (m : MethodKind) {xs : List Node} → A xs → CalmAt 6 xs → CalmAt 8 xs → G (method at m xs)
method_good at m none s t = missing_node
method_good at m (more a none) s t = missing_node
method_good at m (more a (more b none)) s t = missing_node
method_good at m (more a (more b (more c none))) s t = missing_node
method_good at m (more a (more b (more c (more d none)))) s t = missing_node
method_good at m (more a (more b (more c (more d (more e none))))) s t = missing_node
method_good at m (more a (more b (more c (more d (more e (more f none)))))) s t = missing_node
method_good at m (more a (more b (more c (more d (more e (more f (more g none))))))) s t = missing_node
method_good at m (more a (more b (more c (more d (more e (more f (more g (more i none)))))))) s t = missing_node
method_good at m (more a (more b (more {n = key} c (more {n = question} d (more e (more f (more g (more i (more j none))))))))) s t =
    whole at (method_kind key m (no_modifiers (is_present question))) (two_full (method_kind key m (no_modifiers (is_present question))) _ _ (method_other (is_private_name (kind_of key)) m (no_modifiers (is_present question)))) (method_named (is_private_name (kind_of key)) m (no_modifiers (is_present question))) (more c (more (function_of_good at _ _ f g i j s t) none))
method_good at m (more a (more b (more c (more d (more e (more f (more g (more i (more j (more k h)))))))))) s t = missing_node

either_field : (b : Bool) (modifiers : MemberModifiers) (readonly declare definite : Bool) (cs : List Node) → is_unusual (if b then kind.PrivateProp modifiers readonly declare definite else kind.ClassProp modifiers readonly declare definite) cs ≡ false
either_field true modifiers readonly declare definite cs = refl
either_field false modifiers readonly declare definite cs = refl

field_named : (b : Bool) (modifiers : MemberModifiers) (readonly declare definite : Bool) → is_this_name (if b then kind.PrivateProp modifiers readonly declare definite else kind.ClassProp modifiers readonly declare definite) ≡ false
field_named true modifiers readonly declare definite = refl
field_named false modifiers readonly declare definite = refl

pub field_good : (at : Span) {xs : List Node} → A xs → G (field at xs)
field_good at none = missing_node
field_good at (more a none) = missing_node
field_good at (more a (more b none)) = missing_node
field_good at (more a (more b (more c none))) = missing_node
field_good at (more a (more b (more c (more d none)))) = missing_node
field_good at (more {n = key} a (more {n = question} b (more {n = exclamation} c (more d (more e none))))) =
    whole at (field_kind key (no_modifiers (is_present question)) false false (is_present exclamation))
    (either_field (is_private_name (kind_of key)) (no_modifiers (is_present question)) false false (is_present exclamation) _)
    (field_named (is_private_name (kind_of key)) (no_modifiers (is_present question)) false false (is_present exclamation)) (more a (more e (more d none)))
field_good at (more a (more b (more c (more d (more e (more f h)))))) = missing_node

-- the body of a constructor is that of the method it is made of
its_body : (k : Kind) (params body type_params return_type : Node) → is_plain_function k ≡ true → is_unusual k (params ∷ body ∷ type_params ∷ return_type ∷ []) ≡ false → is_missing (kind_of body) ≡ false
its_body (kind.Function is_generator is_async) a b c d h e = e
its_body _ a b c d h e = not_true h

constructor_good : (at : Span) (modifiers key : Node) (before : MemberModifiers) (k : Kind) → is_plain_function k ≡ true → G key → {xs : List Node} → is_unusual k xs ≡ false → A xs → G (constructor_of at modifiers before key xs)
constructor_good at m key before k p g e none = missing_node
constructor_good at m key before k p g e (more a none) = missing_node
constructor_good at m key before k p g e (more a (more b none)) = missing_node
constructor_good at m key before k p g e (more a (more b (more c none))) = missing_node
constructor_good at m key before k p g e (more a (more b (more c (more d none)))) = whole at (kind.Constructor (accessibility_of m) before.is_optional) (its_body k _ _ _ _ p e) refl (more g (more a (more b none)))
constructor_good at m key before k p g e (more a (more b (more c (more d (more f h))))) = missing_node

no_specifier : {X : Type 0} (k : Kind) → is_specifier k ≡ true → is_plain_function k ≡ true → X
no_specifier (kind.ImportNamedSpecifier is_type_only) s p = not_true p
no_specifier (kind.ExportNamedSpecifier is_type_only) s p = not_true p
no_specifier kind.ExportNamespaceSpecifier s p = not_true p
no_specifier _ s p = not_true s

method_by_good : (at : Span) (modifiers : Node) (before : MemberModifiers) {xs : List Node} → A xs → G (method_by at modifiers before xs)
method_by_good at m before none = missing_node
method_by_good at m before (more a none) = missing_node
method_by_good at m before (more {n = key} a (more {n = function} b none)) = go (is_constructor m key function) refl
  where
    made : View (kind_of function) (children_of function) → is_plain_function (kind_of function) ≡ true → G (constructor_of at m before key (children_of function))
    made (inl t) plain = constructor_good at m key before (kind_of function) plain a t.0 t.2
    made (inr s) plain = no_specifier (kind_of function) s plain

    go : (is : Bool) → is_constructor m key function ≡ is → G (if is then framed 4 (constructor_of at m before key) (children_of function) else node_of at (kind.ClassMethod Method (modified m before)) (key ∷ function ∷ []))
    go true is =
        let plain = (and_parts (is_plain_function (kind_of function)) (not (has_word (codes "static") m)) (and_parts (is_constructor_key (kind_of key)) _ is).1).0 in
        framed_good 4 (constructor_of at m before key) (children_of function) (made (view b) plain)
    go false is = whole at (kind.ClassMethod Method (modified m before)) refl refl (more a (more b none))
method_by_good at m before (more a (more b (more c h))) = missing_node

member_by_good : (at : Span) (modifiers : Node) (k : Kind) (xs : List Node) → View k xs → G (member_by at modifiers k xs)
member_by_good at m (kind.ClassMethod Method before) xs (inl t) = frames 2 (method_by at m before) t.2 (λ k. method_by_good at m before k)
member_by_good at m (kind.ClassMethod Getter before) xs (inl t) = whole at (kind.ClassMethod Getter (modified m before)) refl refl t.2
member_by_good at m (kind.ClassMethod Setter before) xs (inl t) = whole at (kind.ClassMethod Setter (modified m before)) refl refl t.2
member_by_good at m (kind.PrivateMethod k before) xs (inl t) = whole at (kind.PrivateMethod k (modified m before)) refl refl t.2
member_by_good at m (kind.ClassProp before readonly declare definite) xs (inl t) = whole at (kind.ClassProp (modified m before) (has_word (codes "readonly") m) (has_word (codes "declare") m) definite) refl refl t.2
member_by_good at m (kind.PrivateProp before readonly declare definite) xs (inl t) = whole at (kind.PrivateProp (modified m before) (has_word (codes "readonly") m) (has_word (codes "declare") m) definite) refl refl t.2
member_by_good at m (kind.ClassMethod Method before) xs (inr s) = not_true s
member_by_good at m (kind.ClassMethod Getter before) xs (inr s) = not_true s
member_by_good at m (kind.ClassMethod Setter before) xs (inr s) = not_true s
member_by_good at m (kind.PrivateMethod k before) xs (inr s) = not_true s
member_by_good at m (kind.ClassProp before readonly declare definite) xs (inr s) = not_true s
member_by_good at m (kind.PrivateProp before readonly declare definite) xs (inr s) = not_true s
member_by_good at m _ xs v = made_of at _ v

pub member_form_good : (at : Span) {xs : List Node} → A xs → G (member at xs)
member_form_good at none = missing_node
member_form_good at (more a none) = missing_node
member_form_good at (more {n = m} a (more {n = n} b none)) = member_by_good at m (kind_of n) (children_of n) (view b)
member_form_good at (more a (more b (more c h))) = missing_node

-- lists, sequences, loops, ambient declarations, namespaces, imports by `=`, modules

pub swapped_good : {xs : List Node} → A xs → A (swapped xs)
swapped_good {xs} h = chosen (nat_le 2 (length xs)) (swap_all _ _ h) h

pub elements_good : {xs : List Node} → A xs → A (elements xs)
elements_good {xs} h = chosen (missing (slice_get xs (length xs - 1))) (take_all _ h) h

the_one_good : {xs : List Node} → A xs → G (the_one xs)
the_one_good none = missing_node
the_one_good (more a none) = a
the_one_good (more a (more b h)) = missing_node

pub sequence_good : (at : Span) {xs : List Node} → A xs → G (sequence at xs)
sequence_good at {xs} h = one_of (length xs == 1) _ _ (frames 1 the_one h (λ k. the_one_good k)) (whole at kind.SeqExpr refl refl h)

pub headed_good : (at : Span) {xs : List Node} → A xs → CalmAt 0 xs → G (headed at xs)
headed_good at none t = missing_node
headed_good at (more a none) t = missing_node
headed_good at (more {n = x} a (more {n = y} b none)) t = made_of at (kind_of x) (go (view a))
  where
    go : View (kind_of x) (children_of x) → View (kind_of x) (children_of x ++ y ∷ [])
    go (inl s) = inl (calm_full (kind_of x) _ t, s.1, append_all s.2 (more b none))
    go (inr s) = inr s
headed_good at (more a (more b (more c h))) t = missing_node

pub import_equals_good : (at : Span) {xs : List Node} → A xs → ExternalAt 3 xs → G (import_equals at xs)
import_equals_good at none t = missing_node
import_equals_good at (more a none) t = missing_node
import_equals_good at (more a (more b none)) t = missing_node
import_equals_good at (more a (more b (more c none))) t = missing_node
import_equals_good at (more {n = x} a (more {n = y} b (more c (more d none)))) t = whole at (kind.TsImportEqualsDecl (is_present x) (is_present y)) (ap not t) refl (more c (more d none))
import_equals_good at (more a (more b (more c (more d (more f h))))) t = missing_node

pub module_form_good : (at : Span) {xs : List Node} → A xs → G (module_of at xs)
module_form_good at none = missing_node
module_form_good at (more a none) = missing_node
module_form_good at (more {n = x} a (more b none)) = whole at (kind.Module (text_of (kind_of x))) refl refl (more b none)
module_form_good at (more a (more b (more c h))) = missing_node
