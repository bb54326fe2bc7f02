-- Patterns with their types, parameters, functions and accessors.
use Rattle.std.proofs.Common.{◌≡◌, ℕ, Bool, true, false, cond, ◌&&◌, ◌||◌, ◌==◌, List, [], ◌∷◌, map, length, Option, Some, None, refl, sym, ap, subst, codes}
use Rattle.ecma_kind.specs.declared.span.Span.{Span}
use Rattle.ecma_kind.specs.declared.operators.Accessibility.{Accessibility}
use Rattle.ecma_kind.specs.declared.kind.Kind.{Kind}
use Rattle.ecma_kind.specs.declared.kind.Kind.TheVariants as kind
use Rattle.ecma_tree.specs.declared.node.Node.{Node}
use Rattle.ecma_tree.specs.Nodes.{absent, node_of}
use Rattle.ecma_tree.specs.Sorted.{is_list}
use Rattle.ecma_lex.specs.Keys.{is_reserved}
use Rattle.ecma_grammar.specs.declared.production.Plain.{Plain}
use Rattle.ecma_grammar.specs.declared.production.Plain.TheVariants as plain
use Rattle.ecma_grammar.specs.trees.Plain.{plain_kind}
use Rattle.ecma_grammar.specs.trees.Parts.{by_frame, children_of, framed, from_to, is_absent, is_present, kind_of, span_of}
use Rattle.ecma_grammar.specs.trees.Functions.{accessibility_of, annotated, annotated_of, annotated_pattern, arrow, declarator, end_of, function, function_of, getter, has_word, is_this, parameter, parameters, questioned, questioned_kind, questioned_part, setter, setter_by, setter_of, wrapped, wrapped_by, yield_}
use Rattle.ecma_fits.specs.declared.role.Role.{Role}
use Rattle.ecma_fits.specs.declared.role.Role.TheVariants as role
use Rattle.ecma_fits.specs.Roles.{may_be, role_in}
use Rattle.ecma_raw_roles.specs.RawRoles.{HasRawRole, may_be_raw, raw_role_in, usual_role_in}
use Rattle.ecma_raw_roles.proofs.Walks.{not_true}
use Rattle.ecma_raw_roles.proofs.Placed.{Along, absent_placed, along_same, displaced_by, moved, placed, placed_parts}
use Rattle.ecma_text_fits_roles.proofs.RoleAsks.{Ask, Given, MeetAll, MeetEach, Meets, any, at, both, free, is_annotated, is_loose, single, takes_defaulted, takes_patterns, these}
use Rattle.ecma_text_fits_roles.proofs.RoleNeeds.{accessor_parts, annotated_needs, arrow_parts, as_free, declarator_parts, function_parts, if_so, is_function, is_parameter_role, parameter_needs}
use Rattle.ecma_text_fits_roles.proofs.RoleGiven.{is_wider, no, two}
use Rattle.ecma_text_fits_roles.proofs.RoleForms.{free_list, freely, given_so, made_of}

-- `?` behind a name or a pattern

abbrev is_asked : Role → Bool
is_asked role.Free = true
is_asked role.NameOrThis = true
is_asked r = takes_patterns r

question_place : (r : Role) → is_asked r ≡ true → (o : Bool) (k : Kind) → displaced_by r k ≡ false → displaced_by r (questioned_kind o k) ≡ false
unfolding may_be may_be_raw
question_place role.Free a o (kind.Ident text ctxt before) h = h
question_place role.Free a o (kind.ArrayPat before) h = h
question_place role.Free a o (kind.ObjectPat before) h = h
question_place role.Free a o k h = h
question_place role.NameOrThis a o (kind.Ident text ctxt before) h = h
question_place role.NameOrThis a o (kind.ArrayPat before) h = h
question_place role.NameOrThis a o (kind.ObjectPat before) h = h
question_place role.NameOrThis a o k h = h
question_place role.Declared a o (kind.Ident text ctxt before) h = h
question_place role.Declared a o (kind.ArrayPat before) h = h
question_place role.Declared a o (kind.ObjectPat before) h = h
question_place role.Declared a o k h = h
question_place role.DeclaredValue a o (kind.Ident text ctxt before) h = h
question_place role.DeclaredValue a o (kind.ArrayPat before) h = h
question_place role.DeclaredValue a o (kind.ObjectPat before) h = h
question_place role.DeclaredValue a o k h = h
question_place role.DeclaredElement a o (kind.Ident text ctxt before) h = h
question_place role.DeclaredElement a o (kind.ArrayPat before) h = h
question_place role.DeclaredElement a o (kind.ObjectPat before) h = h
question_place role.DeclaredElement a o k h = h
question_place role.Parameter a o (kind.Ident text ctxt before) h = h
question_place role.Parameter a o (kind.ArrayPat before) h = h
question_place role.Parameter a o (kind.ObjectPat before) h = h
question_place role.Parameter a o k h = h
question_place role.DefaultedParameter a o (kind.Ident text ctxt before) h = h
question_place role.DefaultedParameter a o (kind.ArrayPat before) h = h
question_place role.DefaultedParameter a o (kind.ObjectPat before) h = h
question_place role.DefaultedParameter a o k h = h
question_place _ a o k h = no a

question_same : (r : Role) (o : Bool) (k : Kind) (i : ℕ) → raw_role_in r k i ≡ raw_role_in r (questioned_kind o k) i
unfolding raw_role_in usual_role_in role_in
question_same r o (kind.Ident text ctxt before) i = refl
question_same r o (kind.ArrayPat before) i = refl
question_same r o (kind.ObjectPat before) i = refl
question_same r o _ i = refl

question_free : (r : Role) → is_asked r ≡ true → (o : Bool) (n : Node) → HasRawRole r n → HasRawRole r (questioned o n)
question_free r a o n h =
    let w = placed_parts n r h in
    placed (span_of n) (questioned_kind o (kind_of n)) (children_of n) r (question_place r a o (kind_of n) w.0) (along_same (raw_role_in r (kind_of n)) (raw_role_in r (questioned_kind o (kind_of n))) (children_of n) (question_same r o (kind_of n)) w.1)

bound_asked : (r : Role) → takes_patterns r ≡ true → is_asked (raw_role_in r kind.BindingIdent 0) ≡ true
unfolding raw_role_in usual_role_in role_in
bound_asked role.Declared t = refl
bound_asked role.DeclaredValue t = refl
bound_asked role.DeclaredElement t = refl
bound_asked role.Parameter t = refl
bound_asked role.DefaultedParameter t = refl
bound_asked _ t = no t

part_free : (r : Role) → takes_patterns r ≡ true → (o : Bool) (k : Kind) (n : Node) → HasRawRole (raw_role_in r k 0) n → HasRawRole (raw_role_in r k 0) (questioned_part o k n)
part_free r t o kind.BindingIdent n h = question_free (raw_role_in r kind.BindingIdent 0) (bound_asked r t) o n h
part_free r t o _ n h = h

asked : (r : Role) → takes_patterns r ≡ true → is_asked r ≡ true
asked role.Declared t = refl
asked role.DeclaredValue t = refl
asked role.DeclaredElement t = refl
asked role.Parameter t = refl
asked role.DefaultedParameter t = refl
asked _ t = no t

-- room for a type
second_loose : (r : Role) → takes_patterns r ≡ true → (k : Kind) → is_annotated k ≡ true → is_loose (raw_role_in r k 1) ≡ true
unfolding raw_role_in usual_role_in role_in
second_loose role.Declared t kind.List h = no h
second_loose role.Declared t kind.KeyValuePatProp h = no h
second_loose role.Declared t kind.Param h = no h
second_loose role.Declared t kind.SetterProp h = no h
second_loose role.Declared t (kind.TsParamProp accessibility is_override readonly) h = no h
second_loose role.Declared t _ h = refl
second_loose role.DeclaredValue t kind.List h = no h
second_loose role.DeclaredValue t kind.KeyValuePatProp h = no h
second_loose role.DeclaredValue t kind.Param h = no h
second_loose role.DeclaredValue t kind.SetterProp h = no h
second_loose role.DeclaredValue t (kind.TsParamProp accessibility is_override readonly) h = no h
second_loose role.DeclaredValue t _ h = refl
second_loose role.DeclaredElement t kind.List h = no h
second_loose role.DeclaredElement t kind.KeyValuePatProp h = no h
second_loose role.DeclaredElement t kind.Param h = no h
second_loose role.DeclaredElement t kind.SetterProp h = no h
second_loose role.DeclaredElement t (kind.TsParamProp accessibility is_override readonly) h = no h
second_loose role.DeclaredElement t _ h = refl
second_loose role.Parameter t kind.List h = no h
second_loose role.Parameter t kind.KeyValuePatProp h = no h
second_loose role.Parameter t kind.Param h = no h
second_loose role.Parameter t kind.SetterProp h = no h
second_loose role.Parameter t (kind.TsParamProp accessibility is_override readonly) h = no h
second_loose role.Parameter t _ h = refl
second_loose role.DefaultedParameter t kind.List h = no h
second_loose role.DefaultedParameter t kind.KeyValuePatProp h = no h
second_loose role.DefaultedParameter t kind.Param h = no h
second_loose role.DefaultedParameter t kind.SetterProp h = no h
second_loose role.DefaultedParameter t (kind.TsParamProp accessibility is_override readonly) h = no h
second_loose role.DefaultedParameter t _ h = refl
second_loose _ t k h = no t

pattern_absent : (r : Role) → takes_patterns r ≡ true → HasRawRole r absent
unfolding may_be may_be_raw
pattern_absent role.Declared t = absent_placed role.Declared refl
pattern_absent role.DeclaredValue t = absent_placed role.DeclaredValue refl
pattern_absent role.DeclaredElement t = absent_placed role.DeclaredElement refl
pattern_absent role.Parameter t = absent_placed role.Parameter refl
pattern_absent role.DefaultedParameter t = absent_placed role.DefaultedParameter refl
pattern_absent _ t = no t

module _ (r : Role) (t : takes_patterns r ≡ true) (span : Span) (o : Bool) (annotation : Node) (ha : HasRawRole role.Free annotation) where
  annotated_by : (k : Kind) → displaced_by r k ≡ false → is_annotated k ≡ true → (cs : List Node) → Along (raw_role_in r k) cs → HasRawRole r (framed 2 (annotated_of span k o annotation) cs)
  annotated_by k d e [] a = pattern_absent r t
  annotated_by k d e (c ∷ []) a = pattern_absent r t
  annotated_by k d e (c ∷ n ∷ []) a =
      placed span (questioned_kind o k) (questioned_part o k c ∷ annotation ∷ []) r (question_place r (asked r t) o k d) (
        subst (λ z. HasRawRole z (questioned_part o k c)) (question_same r o k 0) (part_free r t o k c a.0),
        (subst (λ z. HasRawRole z annotation) (question_same r o k 1) (is_wider role.Free (raw_role_in r k 1) annotation (second_loose r t k e) ha), tt),
      )
  annotated_by k d e (c ∷ n ∷ z ∷ zs) a = go (length (c ∷ n ∷ z ∷ zs) == 2)
    where
      go : (b : Bool) → HasRawRole r (by_frame (annotated_of span k o annotation) (cond b (Some (c ∷ n ∷ z ∷ zs)) None))
      go true = pattern_absent r t
      go false = pattern_absent r t

  pattern_annotated : (n : Node) → HasRawRole r n → is_annotated (kind_of n) ≡ true → HasRawRole r (annotated_pattern span n o annotation)
  pattern_annotated n h e = let w = placed_parts n r h in annotated_by (kind_of n) w.0 e (children_of n) w.1

or_true : {A : Type 0} (b : Bool) → (b || true) ≡ false → A
or_true true h = not_true (sym h)
or_true false h = not_true (sym h)

defaulted_annotated : (k : Kind) → displaced_by role.DefaultedParameter k ≡ false → is_annotated k ≡ true
unfolding may_be may_be_raw
defaulted_annotated kind.List h = not_true (sym h)
defaulted_annotated kind.KeyValuePatProp h = not_true (sym h)
defaulted_annotated kind.Param h = not_true (sym h)
defaulted_annotated kind.SetterProp h = not_true (sym h)
defaulted_annotated (kind.TsParamProp accessibility is_override readonly) h = not_true (sym h)
defaulted_annotated _ h = refl

is_defaulted : (s : Role) → takes_defaulted s ≡ true → s ≡ role.DefaultedParameter
is_defaulted role.DefaultedParameter h = refl
is_defaulted _ h = no h

pub annotated_made : (q : Ask) (span : Span) (xs : List Node) → Given (annotated_needs q) xs → Meets q (framed 3 (annotated span) xs)
annotated_made any span xs g = tt
annotated_made (at r) span xs g =
    let t = given_so (takes_patterns r) (these (single r ∷ free ∷ free ∷ [])) xs g in
    made_of (single r ∷ free ∷ free ∷ []) (λ ys. HasRawRole r (framed 3 (annotated span) ys)) (λ n hn flag hf annotation ha. pattern_annotated r t.0 span (is_present flag) annotation ha n hn.0 hn.1) xs t.1
annotated_made (both r s) span xs g =
    let t = given_so (takes_patterns r && takes_defaulted s) (these (both r s ∷ free ∷ free ∷ [])) xs g in
    let w = two (takes_patterns r) (takes_defaulted s) t.0 in
    made_of (both r s ∷ free ∷ free ∷ []) (λ ys. HasRawRole r (framed 3 (annotated span) ys) × HasRawRole s (framed 3 (annotated span) ys))
    (λ n hn flag hf annotation ha. twice r s w.0 (is_defaulted s w.1) span (is_present flag) annotation ha n hn.0 hn.1) xs t.1
  where
    twice : (r s : Role) → takes_patterns r ≡ true → s ≡ role.DefaultedParameter → (span : Span) (o : Bool) (annotation : Node) → HasRawRole role.Free annotation → (n : Node) → HasRawRole r n → HasRawRole s n
        → HasRawRole r (annotated_pattern span n o annotation) × HasRawRole s (annotated_pattern span n o annotation)
    twice r s t e span o annotation ha n hr hs =
        let defaulted : HasRawRole role.DefaultedParameter n = subst (λ z. HasRawRole z n) e hs in
        let room = defaulted_annotated (kind_of n) (placed_parts n role.DefaultedParameter defaulted).0 in
        (pattern_annotated r t span o annotation ha n hr room, subst (λ z. HasRawRole z (annotated_pattern span n o annotation)) (sym e) (pattern_annotated role.DefaultedParameter refl span o annotation ha n defaulted room))
annotated_made _ span xs g = absurd g

pub declarator_made : (q : Ask) (span : Span) (xs : List Node) → Given (as_free q (these declarator_parts)) xs → Meets q (framed 4 (declarator span) xs)
unfolding may_be may_be_raw raw_role_in usual_role_in role_in
declarator_made q span xs g =
    freely q (these declarator_parts) (framed 4 (declarator span) xs) xs
    (made_of declarator_parts (λ ys. HasRawRole role.Free (framed 4 (declarator span) ys))
    (λ n hn flag hf annotation ha value hv.
    placed span (kind.VarDeclarator (is_present flag)) (annotated_pattern (from_to (span_of n).lo (end_of n annotation)) n false annotation ∷ value ∷ []) role.Free refl
    (pattern_annotated role.Declared refl (from_to (span_of n).lo (end_of n annotation)) false annotation ha n hn.0 hn.1, (hv, tt))) xs) g

is_parameter : (r : Role) → is_parameter_role r ≡ true → r ≡ role.Parameter
is_parameter role.Parameter h = refl
is_parameter _ h = no h

pub parameter_made : (q : Ask) (span : Span) (xs : List Node) → Given (parameter_needs q) xs → Meets q (framed 2 (parameter span) xs)
unfolding may_be may_be_raw raw_role_in usual_role_in role_in
parameter_made any span xs g = tt
parameter_made (at r) span xs g =
    let t = given_so (is_parameter_role r) (these (free ∷ at role.Parameter ∷ [])) xs g in
    subst (λ z. HasRawRole z (framed 2 (parameter span) xs)) (sym (is_parameter r t.0))
    (made_of (free ∷ at role.Parameter ∷ []) (λ ys. HasRawRole role.Parameter (framed 2 (parameter span) ys)) (λ modifiers hm pattern hp. of_modifiers modifiers pattern hp (is_absent modifiers)) xs t.1)
  where
    of_modifiers : (modifiers pattern : Node) → HasRawRole role.Parameter pattern → (b : Bool)
        → HasRawRole role.Parameter (cond b pattern (node_of span (kind.TsParamProp (accessibility_of modifiers) (has_word (codes "override") modifiers) (has_word (codes "readonly") modifiers)) (pattern ∷ [])))
    of_modifiers modifiers pattern hp true = hp
    of_modifiers modifiers pattern hp false = placed span (kind.TsParamProp (accessibility_of modifiers) (has_word (codes "override") modifiers) (has_word (codes "readonly") modifiers)) (pattern ∷ []) role.Parameter refl (hp, tt)
parameter_made _ span xs g = absurd g

-- lists of parameters

list_along : (k : Kind) → displaced_by role.Parameters k ≡ false → (is_list k ≡ true)
unfolding may_be_raw
list_along kind.List h = refl
list_along (kind.Ident text ctxt optional) h = or_true (is_reserved text) h
list_along (kind.TplElement raw None tail) h = not_true (sym h)
list_along (kind.TplElement raw (Some cooked) tail) h = not_true (sym h)
list_along _ h = not_true (sym h)

items_of : (k : Kind) → is_list k ≡ true → (cs : List Node) → Along (raw_role_in role.Parameters k) cs → MeetEach (at role.Parameter) cs
unfolding raw_role_in usual_role_in role_in
items_of kind.List l [] a = tt
items_of kind.List l (c ∷ cs) a = (a.0, items_of kind.List l cs a.1)
items_of _ l cs a = no l

pub parameter_items : (n : Node) → HasRawRole role.Parameters n → MeetEach (at role.Parameter) (children_of n)
parameter_items n h = let w = placed_parts n role.Parameters h in items_of (kind_of n) (list_along (kind_of n) w.0) (children_of n) w.1

property_same : (accessibility : Option Accessibility) (is_override readonly : Bool) (i : ℕ) → raw_role_in role.Parameter (kind.TsParamProp accessibility is_override readonly) i ≡ raw_role_in role.Free (kind.TsParamProp accessibility is_override readonly) i
unfolding raw_role_in usual_role_in role_in
property_same accessibility is_override readonly i = refl

wrapped_free : (n : Node) (k : Kind) → kind_of n ≡ k → HasRawRole role.Parameter n → HasRawRole role.Free (wrapped_by n k)
unfolding may_be may_be_raw raw_role_in usual_role_in role_in
wrapped_free n (kind.TsParamProp accessibility is_override readonly) e h =
    moved n role.Parameter role.Free (ap (displaced_by role.Free) e) (λ i. subst (λ z. raw_role_in role.Parameter z i ≡ raw_role_in role.Free z i) (sym e) (property_same accessibility is_override readonly i)) h
wrapped_free n _ e h = placed (span_of n) kind.Param (n ∷ []) role.Free refl (h, tt)

all_wrapped : (cs : List Node) → MeetEach (at role.Parameter) cs → MeetEach free (map wrapped cs)
all_wrapped [] m = tt
all_wrapped (c ∷ cs) m = (wrapped_free c (kind_of c) refl m.0, all_wrapped cs m.1)

parameters_free : (n : Node) → HasRawRole role.Parameters n → HasRawRole role.Free (parameters n)
parameters_free n h = free_list (map wrapped (children_of n)) (all_wrapped (children_of n) (parameter_items n h))

pub function_free : (span : Span) (is_async is_generator : Bool) (types params returns body : Node) → HasRawRole role.Free types → HasRawRole role.Parameters params → HasRawRole role.Free returns → HasRawRole role.Free body
    → HasRawRole role.Free (function_of span is_async is_generator types params returns body)
unfolding may_be may_be_raw raw_role_in usual_role_in role_in
function_free span is_async is_generator types params returns body ht hp hr hb =
    placed span (kind.Function is_generator is_async) (parameters params ∷ body ∷ types ∷ returns ∷ []) role.Free refl (parameters_free params hp, (hb, (ht, (hr, tt))))

function_node : (span : Span) (k : Kind) → displaced_by role.Free k ≡ false → ((i : ℕ) → role.Free ≡ raw_role_in role.Free k i) → (xs : List Node) → MeetAll function_parts xs → HasRawRole role.Free (framed 7 (function span k) xs)
function_node span k d same xs m =
    made_of function_parts (λ ys. HasRawRole role.Free (framed 7 (function span k) ys))
    (λ is_async ha is_generator hg name hn types ht params hp returns hr body hb.
    placed span k (name ∷ function_of span (is_present is_async) (is_present is_generator) types params returns body ∷ []) role.Free d
    (subst (λ z. HasRawRole z name) (same 0) hn, (subst (λ z. HasRawRole z (function_of span (is_present is_async) (is_present is_generator) types params returns body)) (same 1) (function_free span (is_present is_async) (is_present is_generator) types params returns body ht hp hr hb), tt))) xs m

pub function_made : (p : Plain) (q : Ask) (span : Span) (xs : List Node) → Given (as_free q (if_so (is_function p) (these function_parts))) xs → Meets q (framed 7 (function span (plain_kind p)) xs)
unfolding may_be may_be_raw raw_role_in usual_role_in role_in
function_made plain.FnExpr q span xs g = freely q (these function_parts) (framed 7 (function span kind.FnExpr) xs) xs (function_node span kind.FnExpr refl (λ i. refl) xs) g
function_made plain.FnDecl q span xs g = freely q (these function_parts) (framed 7 (function span (kind.FnDecl false)) xs) xs (function_node span (kind.FnDecl false) refl (λ i. refl) xs) g
function_made plain.MethodProp q span xs g = freely q (these function_parts) (framed 7 (function span kind.MethodProp) xs) xs (function_node span kind.MethodProp refl (λ i. refl) xs) g
function_made p q span xs g = freely q (if_so (is_function p) (these function_parts)) (framed 7 (function span (plain_kind p)) xs) xs (λ m. absurd m) g

pub arrow_made : (q : Ask) (span : Span) (xs : List Node) → Given (as_free q (these arrow_parts)) xs → Meets q (framed 5 (arrow span) xs)
unfolding may_be may_be_raw raw_role_in usual_role_in role_in
arrow_made q span xs g =
    freely q (these arrow_parts) (framed 5 (arrow span) xs) xs
    (made_of arrow_parts (λ ys. HasRawRole role.Free (framed 5 (arrow span) ys))
    (λ is_async ha types ht params hp returns hr body hb. placed span (kind.ArrowExpr (is_present is_async) false) (params ∷ body ∷ types ∷ returns ∷ []) role.Free refl (hp, (hb, (ht, (hr, tt))))) xs) g

pub yield_made : (q : Ask) (span : Span) (xs : List Node) → Given (as_free q (these (free ∷ free ∷ []))) xs → Meets q (framed 2 (yield_ span) xs)
unfolding may_be may_be_raw raw_role_in usual_role_in role_in
yield_made q span xs g =
    freely q (these (free ∷ free ∷ [])) (framed 2 (yield_ span) xs) xs
    (made_of (free ∷ free ∷ []) (λ ys. HasRawRole role.Free (framed 2 (yield_ span) ys)) (λ star hs operand ho. placed span (kind.YieldExpr (is_present star)) (operand ∷ []) role.Free refl (ho, tt)) xs) g

-- accessors of objects

getter_free : (span : Span) (key types params returns body : Node) → HasRawRole role.Free key → HasRawRole role.Parameters params → HasRawRole role.Free returns → HasRawRole role.Free body → (b : Bool)
    → HasRawRole role.Free (node_of span kind.GetterProp (cond b (key ∷ returns ∷ body ∷ []) (key ∷ returns ∷ body ∷ params ∷ [])))
unfolding may_be may_be_raw raw_role_in usual_role_in role_in
getter_free span key types params returns body hk hp hr hb true = placed span kind.GetterProp (key ∷ returns ∷ body ∷ []) role.Free refl (hk, (hr, (hb, tt)))
getter_free span key types params returns body hk hp hr hb false = placed span kind.GetterProp (key ∷ returns ∷ body ∷ params ∷ []) role.Free refl (hk, (hr, (hb, (hp, tt))))

pub getter_made : (q : Ask) (span : Span) (xs : List Node) → Given (as_free q (these accessor_parts)) xs → Meets q (framed 5 (getter span) xs)
getter_made q span xs g =
    freely q (these accessor_parts) (framed 5 (getter span) xs) xs
    (made_of accessor_parts (λ ys. HasRawRole role.Free (framed 5 (getter span) ys)) (λ key hk types ht params hp returns hr body hb. getter_free span key types params returns body hk hp hr hb (length (children_of params) == 0)) xs) g

list_parameter : (n : Node) → HasRawRole role.Parameters n → HasRawRole role.Parameter n
unfolding may_be may_be_raw raw_role_in usual_role_in role_in
list_parameter n h =
    let w = placed_parts n role.Parameters h in
    let l = list_along (kind_of n) w.0 in
    moved n role.Parameters role.Parameter (place (kind_of n) l) (same (kind_of n) l) h
  where
    place : (k : Kind) → is_list k ≡ true → displaced_by role.Parameter k ≡ false
    place kind.List l = refl
    place _ l = no l

    same : (k : Kind) → is_list k ≡ true → (i : ℕ) → raw_role_in role.Parameters k i ≡ raw_role_in role.Parameter k i
    same kind.List l i = refl
    same _ l i = no l

module _ (span : Span) (key params body : Node) (hk : HasRawRole role.Free key) (hp : HasRawRole role.Parameters params) (hb : HasRawRole role.Free body) where
  setter_free : (this param : Node) → HasRawRole role.Parameter this → HasRawRole role.Parameter param → HasRawRole role.Free (setter_of span key this param body)
  unfolding may_be may_be_raw raw_role_in usual_role_in role_in
  setter_free this param ht hq = placed span kind.SetterProp (key ∷ this ∷ param ∷ body ∷ []) role.Free refl (hk, (ht, (hq, (hb, tt))))

  no_this : HasRawRole role.Parameter absent
  no_this = pattern_absent role.Parameter refl

  setter_by_free : (ps : List Node) → MeetEach (at role.Parameter) ps → HasRawRole role.Free (setter_by span key params body ps)
  setter_by_free [] m = setter_free absent params no_this (list_parameter params hp)
  setter_by_free (p ∷ []) m = go (is_this p)
    where
      go : (b : Bool) → HasRawRole role.Free (cond b (setter_of span key absent params body) (setter_of span key absent p body))
      go true = setter_free absent params no_this (list_parameter params hp)
      go false = setter_free absent p no_this m.0
  setter_by_free (p ∷ r ∷ []) m = go (is_this p)
    where
      go : (b : Bool) → HasRawRole role.Free (cond b (setter_of span key p r body) (setter_of span key absent params body))
      go true = setter_free p r m.0 m.1.0
      go false = setter_free absent params no_this (list_parameter params hp)
  setter_by_free (p ∷ r ∷ x ∷ xs) m = setter_free absent params no_this (list_parameter params hp)

pub setter_made : (q : Ask) (span : Span) (xs : List Node) → Given (as_free q (these accessor_parts)) xs → Meets q (framed 5 (setter span) xs)
setter_made q span xs g =
    freely q (these accessor_parts) (framed 5 (setter span) xs) xs
    (made_of accessor_parts (λ ys. HasRawRole role.Free (framed 5 (setter span) ys)) (λ key hk types ht params hp returns hr body hb. setter_by_free span key params body hk hp hb (children_of params) (parameter_items params hp)) xs) g
