-- Functions, their parameters, patterns and what is declared by them.
use Rattle.std.proofs.Common.{◌≡◌, ℕ, zero, suc, Bool, true, false, cond, ◌||◌, nat_eq, List, [], ◌∷◌, map, length, refl, sym, ap, ◌∙◌, subst, codes}
use Rattle.ecma_kind.specs.Sorts.{belongs}
use Rattle.ecma_kind.specs.declared.span.Span.{Span}
use Rattle.ecma_kind.specs.declared.kind.Kind.{Kind}
use Rattle.ecma_kind.specs.declared.kind.Kind.TheVariants as kind
use Rattle.ecma_kind.specs.declared.shapes.Sort.{Sort}
use Rattle.ecma_kind.specs.declared.shapes.Sort.TheVariants as sort
use Rattle.ecma_tree.specs.Sorted.{is_list}
use Rattle.ecma_tree.specs.Nodes.{node_of, absent, dummy_span}
use Rattle.ecma_tree.specs.declared.node.Node.{Node}
use Rattle.ecma_grammar.specs.declared.production.Plain.{Plain}
use Rattle.ecma_grammar.specs.declared.production.Plain.TheVariants as plain
use Rattle.ecma_grammar.specs.trees.Plain.{plain_kind}
use Rattle.ecma_grammar.specs.trees.Parts.{kind_of, span_of, children_of, from_to, is_present, framed}
use Rattle.ecma_grammar.specs.trees.Parts as parts
use Rattle.ecma_grammar.specs.trees.Functions.{accessibility_of, has_word, questioned, questioned_kind, annotated_of, annotated_pattern, annotated, end_of, declarator, parameter, wrapped, wrapped_by, parameters, function_of, function, arrow, yield_, getter, is_this, is_this_by, setter_of, setter_by, setter}
use Rattle.ecma_grammar_laws.specs.RawSorts as raw
use Rattle.ecma_grammar_laws.specs.RawSorts.{RawShape, HasRawShape, HasRawSort, belongs_raw, belongs_or_super, is_parameter_property, child_shapes_raw, field_shapes_raw, sorted, setter_parameter, one, maybe, many}
use Rattle.ecma_grammar_laws.proofs.RawShapes.{HaveRaw, node_has, parts_of, from_parts}
use Rattle.ecma_grammar_laws.proofs.Asks.{Ask, shape, pattern, expression, is_annotated, Meets, Each, these, Given, fits}
use Rattle.ecma_grammar_laws.proofs.Needs.{a, maybe_a, if_so, arrow_parts, yield_parts, annotated_parts, declarator_parts, parameter_parts, function_parts, accessor_parts, function_needs}
use Rattle.ecma_grammar_laws.proofs.Fits.{no, or_right, either_true, shape_fits_sound, fits_sound, reshaped}
use Rattle.ecma_grammar_laws.proofs.forms.Making.{given_so, made_sorted, as_sort, as_either, made_of, items_of}
use Rattle.ecma_grammar_laws.proofs.forms.Lists.{list_made}

abbrev a_parameter : RawShape
a_parameter = one raw.parameter

-- arrow functions, `yield`

pub arrow_made : (q : Ask) (span : Span) (xs : List Node) → Given (if_so (fits expression q) (these arrow_parts)) xs → Meets q (framed 5 (arrow span) xs)
arrow_made q span xs g =
    let t = given_so _ _ xs g in
    as_sort sort.Expr q (framed 5 (arrow span) xs) t.0
    (made_of arrow_parts (λ ys. HasRawSort sort.Expr (framed 5 (arrow span) ys)) (λ c hc types ht params hp returns hr body hb. made_sorted sort.Expr span (kind.ArrowExpr (is_present c) false) (params ∷ body ∷ types ∷ returns ∷ []) refl (hp, (hb, (ht, (hr, tt))))) xs t.1)

pub yield_made : (q : Ask) (span : Span) (xs : List Node) → Given (if_so (fits expression q) (these yield_parts)) xs → Meets q (framed 2 (yield_ span) xs)
yield_made q span xs g =
    let t = given_so _ _ xs g in
    as_sort sort.Expr q (framed 2 (yield_ span) xs) t.0
    (made_of yield_parts (λ ys. HasRawSort sort.Expr (framed 2 (yield_ span) ys)) (λ star hs operand ho. made_sorted sort.Expr span (kind.YieldExpr (is_present star)) (operand ∷ []) refl (ho, tt)) xs t.1)

-- patterns with their annotations

ident_by : (optional : Bool) (n : Node) (k : Kind) → kind_of n ≡ k → belongs_or_super sort.Ident k ≡ true → HaveRaw (child_shapes_raw k (one (sorted sort.Ident)) (length (children_of n))) (children_of n) → HasRawSort sort.Ident (node_of (span_of n) (questioned_kind optional k) (children_of n))
ident_by optional n (kind.Ident w c o) e b h = made_sorted sort.Ident (span_of n) (kind.Ident w c optional) (children_of n) refl h
ident_by optional n _ e b h = no b

questioned_ident : (optional : Bool) (n : Node) → HasRawSort sort.Ident n → HasRawSort sort.Ident (questioned optional n)
questioned_ident optional n h = let t = parts_of n (one (sorted sort.Ident)) h in ident_by optional n (kind_of n) refl t.0 t.1

module _ (span : Span) (optional : Bool) (annotation : Node) (h : HasRawShape (maybe (sorted sort.TsTypeAnn)) annotation) where
  annotated_by : (k : Kind) → is_annotated k ≡ true → (cs : List Node) → HaveRaw (field_shapes_raw k 2) cs → HasRawSort sort.Pat (framed 2 (annotated_of span k optional annotation) cs)
  annotated_by kind.BindingIdent e [] m = absurd m
  annotated_by kind.BindingIdent e (id ∷ []) m = absurd m.1
  annotated_by kind.BindingIdent e (id ∷ none ∷ []) m = made_sorted sort.Pat span kind.BindingIdent (questioned optional id ∷ annotation ∷ []) refl (questioned_ident optional id m.0, (h, tt))
  annotated_by kind.BindingIdent e (id ∷ none ∷ z ∷ zs) m = absurd m.1.1
  annotated_by (kind.ArrayPat o) e [] m = absurd m
  annotated_by (kind.ArrayPat o) e (elems ∷ []) m = absurd m.1
  annotated_by (kind.ArrayPat o) e (elems ∷ none ∷ []) m = made_sorted sort.Pat span (kind.ArrayPat optional) (elems ∷ annotation ∷ []) refl (m.0, (h, tt))
  annotated_by (kind.ArrayPat o) e (elems ∷ none ∷ z ∷ zs) m = absurd m.1.1
  annotated_by (kind.ObjectPat o) e [] m = absurd m
  annotated_by (kind.ObjectPat o) e (props ∷ []) m = absurd m.1
  annotated_by (kind.ObjectPat o) e (props ∷ none ∷ []) m = made_sorted sort.Pat span (kind.ObjectPat optional) (props ∷ annotation ∷ []) refl (m.0, (h, tt))
  annotated_by (kind.ObjectPat o) e (props ∷ none ∷ z ∷ zs) m = absurd m.1.1
  annotated_by kind.RestPat e [] m = absurd m
  annotated_by kind.RestPat e (arg ∷ []) m = absurd m.1
  annotated_by kind.RestPat e (arg ∷ none ∷ []) m = made_sorted sort.Pat span kind.RestPat (arg ∷ annotation ∷ []) refl (m.0, (h, tt))
  annotated_by kind.RestPat e (arg ∷ none ∷ z ∷ zs) m = absurd m.1.1
  annotated_by _ e cs m = no e

  annotated_sorted : (p : Node) → Meets pattern p → HasRawSort sort.Pat (annotated_pattern span p optional annotation)
  annotated_sorted p m = annotated_by (kind_of p) m.0 (children_of p) m.1

pub annotated_made : (q : Ask) (span : Span) (xs : List Node) → Given (if_so (fits (a sort.Pat) q) (these annotated_parts)) xs → Meets q (framed 3 (annotated span) xs)
annotated_made q span xs g =
    let t = given_so _ _ xs g in
    as_sort sort.Pat q (framed 3 (annotated span) xs) t.0
    (made_of annotated_parts (λ ys. HasRawSort sort.Pat (framed 3 (annotated span) ys)) (λ p hp question hq annotation h. annotated_sorted span (is_present question) annotation h p hp) xs t.1)

pub declarator_made : (q : Ask) (span : Span) (xs : List Node) → Given (if_so (fits (a sort.VarDeclarator) q) (these declarator_parts)) xs → Meets q (framed 4 (declarator span) xs)
declarator_made q span xs g =
    let t = given_so _ _ xs g in
    as_sort sort.VarDeclarator q (framed 4 (declarator span) xs) t.0
    (made_of declarator_parts (λ ys. HasRawSort sort.VarDeclarator (framed 4 (declarator span) ys))
    (λ p hp mark hm annotation h value hv. made_sorted sort.VarDeclarator span (kind.VarDeclarator (is_present mark)) (annotated_pattern (from_to (span_of p).lo (end_of p annotation)) p false annotation ∷ value ∷ []) refl
    (annotated_sorted (from_to (span_of p).lo (end_of p annotation)) false annotation h p hp, (hv, tt))) xs t.1)

-- parameters

parameter_by : (b : Bool) (span : Span) (modifiers p : Node) → HasRawSort sort.Pat p → HasRawShape a_parameter (cond b p (node_of span (kind.TsParamProp (accessibility_of modifiers) (has_word (codes "override") modifiers) (has_word (codes "readonly") modifiers)) (p ∷ [])))
parameter_by true span modifiers p h = shape_fits_sound (one (sorted sort.Pat)) a_parameter p refl h
parameter_by false span modifiers p h = node_has span (kind.TsParamProp (accessibility_of modifiers) (has_word (codes "override") modifiers) (has_word (codes "readonly") modifiers)) (p ∷ []) a_parameter refl (h, tt)

pub parameter_made : (q : Ask) (span : Span) (xs : List Node) → Given (if_so (fits (shape a_parameter) q) (these parameter_parts)) xs → Meets q (framed 2 (parameter span) xs)
parameter_made q span xs g =
    let t = given_so _ _ xs g in
    fits_sound (shape a_parameter) q (framed 2 (parameter span) xs) t.0
    (made_of parameter_parts (λ ys. HasRawShape a_parameter (framed 2 (parameter span) ys)) (λ modifiers hm p hp. parameter_by (parts.is_absent modifiers) span modifiers p hp) xs t.1)

-- a parameter that is no parameter property is a pattern
plain_parameter : (n : Node) → HasRawShape a_parameter n → is_parameter_property (kind_of n) ≡ false → HasRawSort sort.Pat n
plain_parameter n h e =
    let b = (parts_of n a_parameter h).0 in
    let p : belongs_or_super sort.Pat (kind_of n) ≡ true = either_true (belongs_or_super sort.Pat (kind_of n)) (is_parameter_property (kind_of n)) (λ x. x) (λ x. no (sym e ∙ x)) b in
    reshaped n a_parameter (one (sorted sort.Pat)) (no_list (kind_of n) p) p h
  where
    no_list : (k : Kind) → belongs_or_super sort.Pat k ≡ true → is_list k ≡ false
    no_list kind.List p = no p
    no_list _ p = refl

wrapped_sorted : (n : Node) → HasRawShape a_parameter n → (k : Kind) → kind_of n ≡ k → HasRawSort sort.ParamOrTsParamProp (wrapped_by n k)
wrapped_sorted n h (kind.TsParamProp x y z) e = reshaped n a_parameter (one (sorted sort.ParamOrTsParamProp)) (ap is_list e) (ap (belongs_or_super sort.ParamOrTsParamProp) e) h
wrapped_sorted n h _ e = made_sorted sort.ParamOrTsParamProp (span_of n) kind.Param (n ∷ []) refl (plain_parameter n h (ap is_parameter_property e), tt)

all_wrapped : (ns : List Node) → Each (shape a_parameter) ns → Each (a sort.ParamOrTsParamProp) (map wrapped ns)
all_wrapped [] m = tt
all_wrapped (n ∷ ns) m = (wrapped_sorted n m.0 (kind_of n) refl, all_wrapped ns m.1)

parameters_sorted : (n : Node) → HasRawShape (many raw.parameter) n → HasRawShape (many (sorted sort.ParamOrTsParamProp)) (parameters n)
parameters_sorted n h = list_made (shape (many (sorted sort.ParamOrTsParamProp))) (map wrapped (children_of n)) (all_wrapped (children_of n) (items_of raw.parameter n h))

-- functions

module _ (span : Span) (types params returns body : Node) (ht : Meets (maybe_a sort.TsTypeParamDecl) types) (hp : HasRawShape (many raw.parameter) params) (hr : Meets (maybe_a sort.TsTypeAnn) returns) (hb : Meets (maybe_a sort.BlockStmt) body) where
  pub function_sorted : (is_async is_generator : Bool) → HasRawSort sort.Function (function_of span is_async is_generator types params returns body)
  function_sorted is_async is_generator = made_sorted sort.Function span (kind.Function is_generator is_async) (parameters params ∷ body ∷ types ∷ returns ∷ []) refl (parameters_sorted params hp, (hb, (ht, (hr, tt))))

named_sorted : (s : Sort) (k : Kind) (name : RawShape) → belongs s k ≡ true → ((n : ℕ) → child_shapes_raw k (one (sorted s)) n ≡ name ∷ one (sorted sort.Function) ∷ []) → (span : Span) (xs : List Node) → Given (these (function_parts (shape name))) xs → HasRawSort s (framed 7 (function span k) xs)
named_sorted s k name b e span xs m =
    made_of (function_parts (shape name)) (λ ys. HasRawSort s (framed 7 (function span k) ys))
    (λ c hc star hs id hi types ht params hp returns hr body hb. made_sorted s span k (id ∷ function_of span (is_present c) (is_present star) types params returns body ∷ []) b
    (subst (λ ss. HaveRaw ss (id ∷ function_of span (is_present c) (is_present star) types params returns body ∷ [])) (sym (e 2)) (hi, (function_sorted span types params returns body ht hp hr hb (is_present c) (is_present star), tt)))) xs m

pub function_made : (p : Plain) (q : Ask) (span : Span) (xs : List Node) → Given (function_needs p q) xs → Meets q (framed 7 (function span (plain_kind p)) xs)
function_made plain.FnExpr q span xs g =
    let t = given_so _ _ xs g in
    as_either sort.Expr sort.DefaultDecl q (framed 7 (function span kind.FnExpr) xs) t.0
    (named_sorted sort.Expr kind.FnExpr (maybe (sorted sort.Ident)) refl (λ n. refl) span xs t.1) (named_sorted sort.DefaultDecl kind.FnExpr (maybe (sorted sort.Ident)) refl (λ n. refl) span xs t.1)
function_made plain.FnDecl q span xs g =
    let t = given_so _ _ xs g in as_sort sort.Decl q (framed 7 (function span (kind.FnDecl false)) xs) t.0 (named_sorted sort.Decl (kind.FnDecl false) (one (sorted sort.Ident)) refl (λ n. refl) span xs t.1)
function_made plain.MethodProp q span xs g =
    let t = given_so _ _ xs g in as_sort sort.PropOrSpread q (framed 7 (function span kind.MethodProp) xs) t.0 (named_sorted sort.PropOrSpread kind.MethodProp (one (sorted sort.PropName)) refl (λ n. refl) span xs t.1)
function_made _ q span xs g = absurd g

-- accessors

pub getter_made : (q : Ask) (span : Span) (xs : List Node) → Given (if_so (fits (a sort.PropOrSpread) q) (these accessor_parts)) xs → Meets q (framed 5 (getter span) xs)
getter_made q span xs g =
    let t = given_so _ _ xs g in
    as_sort sort.PropOrSpread q (framed 5 (getter span) xs) t.0 (made_of accessor_parts (λ ys. HasRawSort sort.PropOrSpread (framed 5 (getter span) ys)) (λ id hi types ht params hp returns hr body hb. either id hi params hp returns hr body hb (nat_eq (length (children_of params)) 0)) xs t.1)
  where
    either : (id : Node) → Meets (a sort.PropName) id → (params : Node) → HasRawShape (many raw.parameter) params → (returns : Node) → Meets (maybe_a sort.TsTypeAnn) returns → (body : Node) → Meets (maybe_a sort.BlockStmt) body
        → (b : Bool) → HasRawSort sort.PropOrSpread (node_of span kind.GetterProp (cond b (id ∷ returns ∷ body ∷ []) (id ∷ returns ∷ body ∷ params ∷ [])))
    either id hi params hp returns hr body hb true = made_sorted sort.PropOrSpread span kind.GetterProp (id ∷ returns ∷ body ∷ []) refl (hi, (hr, (hb, tt)))
    either id hi params hp returns hr body hb false = made_sorted sort.PropOrSpread span kind.GetterProp (id ∷ returns ∷ body ∷ params ∷ []) refl (hi, (hr, (hb, (hp, tt))))

-- what stands in the place of a setter's parameter

-- the items of a list of parameters are parameters, whatever the list stands for
parameter_children : (k : Kind) (n : ℕ) → belongs_raw raw.parameter k ≡ true → child_shapes_raw k a_parameter n ≡ child_shapes_raw k (one setter_parameter) n
parameter_children kind.List n b = no b
parameter_children kind.SeqExpr zero b = refl
parameter_children kind.SeqExpr (suc n) b = refl
parameter_children _ n b = refl

list_children : (k : Kind) (n : ℕ) → is_list k ≡ true → child_shapes_raw k (many raw.parameter) n ≡ child_shapes_raw k (one setter_parameter) n
list_children kind.List n l = refl
list_children _ n l = no l

allowed_more : (x y z : Bool) → (x || y) ≡ true → (x || (y || z)) ≡ true
allowed_more true y z h = refl
allowed_more false true z h = refl
allowed_more false false z h = no h

one_parameter : (n : Node) → HasRawShape a_parameter n → HasRawShape (one setter_parameter) n
one_parameter n h =
    let t = parts_of n a_parameter h in
    from_parts n (one setter_parameter) (allowed_more (belongs_or_super sort.Pat (kind_of n)) (is_parameter_property (kind_of n)) (is_list (kind_of n)) t.0)
    (subst (λ ss. HaveRaw ss (children_of n)) (parameter_children (kind_of n) (length (children_of n)) t.0) t.1)

all_parameters : (n : Node) → HasRawShape (many raw.parameter) n → HasRawShape (one setter_parameter) n
all_parameters n h =
    let t = parts_of n (many raw.parameter) h in
    from_parts n (one setter_parameter) (or_right (belongs_or_super sort.Pat (kind_of n)) (is_parameter_property (kind_of n) || is_list (kind_of n)) (or_right (is_parameter_property (kind_of n)) (is_list (kind_of n)) t.0))
    (subst (λ ss. HaveRaw ss (children_of n)) (list_children (kind_of n) (length (children_of n)) t.0) t.1)

-- the parameter `this` is a pattern
this_is_plain : (n : Node) (k : Kind) → is_this_by n k ≡ true → is_parameter_property k ≡ false
this_is_plain n (kind.TsParamProp x y z) h = no h
this_is_plain n _ h = refl

this_sorted : (n : Node) → HasRawShape a_parameter n → is_this n ≡ true → HasRawShape (maybe (sorted sort.Pat)) n
this_sorted n h e = shape_fits_sound (one (sorted sort.Pat)) (maybe (sorted sort.Pat)) n refl (plain_parameter n h (this_is_plain n (kind_of n) e))

no_this : HasRawShape (maybe (sorted sort.Pat)) absent
no_this = node_has dummy_span kind.Absent [] (maybe (sorted sort.Pat)) refl tt

module _ (span : Span) (id params body : Node) (hi : Meets (a sort.PropName) id) (hp : HasRawShape (many raw.parameter) params) (hb : Meets (maybe_a sort.BlockStmt) body) where
  setter_sorted : (this param : Node) → HasRawShape (maybe (sorted sort.Pat)) this → HasRawShape (one setter_parameter) param → HasRawSort sort.PropOrSpread (setter_of span id this param body)
  setter_sorted this param ht hq = made_sorted sort.PropOrSpread span kind.SetterProp (id ∷ this ∷ param ∷ body ∷ []) refl (hi, (ht, (hq, (hb, tt))))

  setter_by_sorted : (ps : List Node) → Each (shape a_parameter) ps → HasRawSort sort.PropOrSpread (setter_by span id params body ps)
  setter_by_sorted [] m = setter_sorted absent params no_this (all_parameters params hp)
  setter_by_sorted (p ∷ []) m = go (is_this p)
    where
      go : (b : Bool) → HasRawSort sort.PropOrSpread (cond b (setter_of span id absent params body) (setter_of span id absent p body))
      go true = setter_sorted absent params no_this (all_parameters params hp)
      go false = setter_sorted absent p no_this (one_parameter p m.0)
  setter_by_sorted (p ∷ r ∷ []) m = go (is_this p) refl
    where
      go : (b : Bool) → is_this p ≡ b → HasRawSort sort.PropOrSpread (cond b (setter_of span id p r body) (setter_of span id absent params body))
      go true e = setter_sorted p r (this_sorted p m.0 e) (one_parameter r m.1.0)
      go false e = setter_sorted absent params no_this (all_parameters params hp)
  setter_by_sorted (p ∷ r ∷ x ∷ xs) m = setter_sorted absent params no_this (all_parameters params hp)

pub setter_made : (q : Ask) (span : Span) (xs : List Node) → Given (if_so (fits (a sort.PropOrSpread) q) (these accessor_parts)) xs → Meets q (framed 5 (setter span) xs)
setter_made q span xs g =
    let t = given_so _ _ xs g in
    as_sort sort.PropOrSpread q (framed 5 (setter span) xs) t.0
    (made_of accessor_parts (λ ys. HasRawSort sort.PropOrSpread (framed 5 (setter span) ys)) (λ id hi types ht params hp returns hr body hb. setter_by_sorted span id params body hi hp hb (children_of params) (items_of raw.parameter params hp)) xs t.1)
