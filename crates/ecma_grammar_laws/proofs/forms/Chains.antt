-- Chains, templates, constructions and assertions.
use Rattle.std.proofs.Common.{◌≡◌, inl, inr, Bool, true, false, cond, not, ◌&&◌, ◌||◌, List, [], ◌∷◌, filter, length, refl, sym, ◌∙◌, Some, unwrap_or}
use Rattle.ecma_kind.specs.declared.span.Span.{Span}
use Rattle.ecma_kind.specs.declared.operators.MetaPropKind.TheVariants.{NewTarget}
use Rattle.ecma_kind.specs.declared.kind.Kind.{Kind}
use Rattle.ecma_kind.specs.declared.kind.Kind.TheVariants as kind
use Rattle.ecma_kind.specs.declared.shapes.Sort.TheVariants as sort
use Rattle.ecma_tree.specs.Nodes.{absent, list_node}
use Rattle.ecma_tree.specs.declared.node.Node.{Node}
use Rattle.ecma_grammar.specs.trees.Parts.{kind_of, span_of, children_of, from_to, in_front, framed}
use Rattle.ecma_grammar.specs.trees.Chains.{steps, chained, logical, links, is_and, is_or, right_in_front, in_front_logical, in_front_link, is_text_kind, is_text_part, is_substitution, template, construction}
use Rattle.ecma_grammar.specs.trees.Others.{assertion}
use Rattle.ecma_grammar_laws.specs.RawSorts.{HasRawSort, belongs_or_super, child_shapes_raw, sorted, one, many}
use Rattle.ecma_grammar_laws.proofs.RawShapes.{HaveRaw, parts_of}
use Rattle.ecma_grammar_laws.proofs.Asks.{Chained, expressions, sort_of, Ask, shape, behind, link, head, head_start, head_rest, template_item, expression, Meets, MeetAll, Each, these_or_none, maybe_and, each, first_and_each, Given, fits}
use Rattle.ecma_grammar_laws.proofs.Needs.{a, if_so, chain_for, chain_needs, construction_parts}
use Rattle.ecma_grammar_laws.proofs.Fits.{no}
use Rattle.ecma_grammar_laws.proofs.forms.Making.{given_so, made_sorted, as_sort, as_either}
use Rattle.ecma_grammar_laws.proofs.forms.Lists.{list_made}

-- one part behind the other
module _ (P : Node → Type 0) (q : Ask) (step : Node → Node → Node) (on : (x n : Node) → P x → Meets q n → P (step x n)) where
  steps_on : (x : Node) (xs : List Node) → P x → Each q xs → P (unwrap_or (steps step (Some x) xs) absent)
  steps_on x [] h m = h
  steps_on x (n ∷ ns) h m = steps_on (step x n) ns (on x n h m.0) m.1

-- chains

chain_sorted : (c : Chained) (xs : List Node) → Given (first_and_each (a (sort_of c)) (behind c)) xs → HasRawSort (sort_of c) (chained xs)
chain_sorted c [] g = absurd g
chain_sorted c (x ∷ xs) g = steps_on (HasRawSort (sort_of c)) (behind c) in_front (λ y n h m. m y h) x xs g.0 g.1

chain_by : (c : Chained) (q : Ask) (xs : List Node) → Given (if_so (fits (a (sort_of c)) q) (first_and_each (a (sort_of c)) (behind c))) xs → Meets q (chained xs)
chain_by c q xs g = let t = given_so _ _ xs g in as_sort (sort_of c) q (chained xs) t.0 (chain_sorted c xs t.1)

head_chained : (xs : List Node) → MeetAll (head_start ∷ head_rest ∷ []) xs → Meets head (chained xs)
head_chained [] m = absurd m
head_chained (x ∷ []) m = absurd m.1
head_chained (x ∷ n ∷ []) m = m.1.0 x m.0
head_chained (x ∷ n ∷ z ∷ zs) m = absurd m.1.1

pub chain_made : (q : Ask) (xs : List Node) → Given (chain_needs (chain_for q) q) xs → Meets q (chained xs)
chain_made head xs g = head_chained xs g
chain_made q xs g = chain_by (chain_for q) q xs g

-- members and calls

links_sorted : (xs : List Node) → Given (first_and_each expression link) xs → HasRawSort sort.Expr (links xs)
links_sorted [] g = absurd g
links_sorted (x ∷ xs) g = steps_on (HasRawSort sort.Expr) link in_front_link (λ y n h m. m y h) x xs g.0 g.1

pub links_made : (q : Ask) (xs : List Node) → Given (if_so (fits expression q) (first_and_each expression link)) xs → Meets q (links xs)
links_made q xs g = let t = given_so _ _ xs g in as_sort sort.Expr q (links xs) t.0 (links_sorted xs t.1)

-- logical operators

right_sorted : (span : Span) (n : Node) → Meets (behind expressions) n → (k : Kind) → is_or k ≡ true → (cs : List Node) → HaveRaw (child_shapes_raw k (one (sorted sort.Expr)) (length cs)) cs → HasRawSort sort.Expr (framed 2 (right_in_front span k n) cs)
right_sorted span n m (kind.BinExpr op) o [] h = absurd h
right_sorted span n m (kind.BinExpr op) o (left ∷ []) h = absurd h.1
right_sorted span n m (kind.BinExpr op) o (left ∷ right ∷ []) h = made_sorted sort.Expr span (kind.BinExpr op) (left ∷ in_front right n ∷ []) refl (h.0, (m right h.1.0, tt))
right_sorted span n m (kind.BinExpr op) o (left ∷ right ∷ z ∷ zs) h = absurd h.1.1
right_sorted span n m _ o cs h = no o

logical_step : (x n : Node) → HasRawSort sort.Expr x → Meets (behind expressions) n → HasRawSort sort.Expr (in_front_logical x n)
logical_step x n h m = go (is_and (kind_of n)) (is_or (kind_of x)) refl
  where
    go : (b c : Bool) → is_or (kind_of x) ≡ c → HasRawSort sort.Expr (cond (b && c) (framed 2 (right_in_front (from_to (span_of x).lo (span_of n).hi) (kind_of x) n) (children_of x)) (in_front x n))
    go true true e = right_sorted (from_to (span_of x).lo (span_of n).hi) n m (kind_of x) e (children_of x) (parts_of x (one (sorted sort.Expr)) h).1
    go true false e = m x h
    go false c e = m x h

logical_sorted : (xs : List Node) → Given (first_and_each expression (behind expressions)) xs → HasRawSort sort.Expr (logical xs)
logical_sorted [] g = absurd g
logical_sorted (x ∷ xs) g = steps_on (HasRawSort sort.Expr) (behind expressions) in_front_logical logical_step x xs g.0 g.1

pub logical_made : (q : Ask) (xs : List Node) → Given (if_so (fits expression q) (first_and_each expression (behind expressions))) xs → Meets q (logical xs)
logical_made q xs g = let t = given_so _ _ xs g in as_sort sort.Expr q (logical xs) t.0 (logical_sorted xs t.1)

-- templates

not_text : (k : Kind) → belongs_or_super sort.Expr k ≡ true → is_text_kind k ≡ false
not_text (kind.TplElement _ _ _) h = no h
not_text _ h = refl

text : (k : Kind) → belongs_or_super sort.TplElement k ≡ true → is_text_kind k ≡ true
text (kind.TplElement _ _ _) h = refl
text _ h = no h

substitution_sorted : (x : Node) → Meets template_item x → is_text_part x ≡ false → HasRawSort sort.Expr x
substitution_sorted x (inl h) e = no (sym e ∙ text (kind_of x) (parts_of x (one (sorted sort.TplElement)) h).0)
substitution_sorted x (inr h) e = h

text_sorted : (x : Node) → Meets template_item x → is_text_part x ≡ true → HasRawSort sort.TplElement x
text_sorted x (inl h) e = h
text_sorted x (inr h) e = no (sym (not_text (kind_of x) (parts_of x (one (sorted sort.Expr)) h).0) ∙ e)

substitutions : (xs : List Node) → Each template_item xs → Each (a sort.Expr) (filter is_substitution xs)
substitutions [] m = tt
substitutions (x ∷ xs) m = go (is_text_part x) refl (substitutions xs m.1)
  where
    go : (b : Bool) → is_text_part x ≡ b → Each (a sort.Expr) (filter is_substitution xs) → Each (a sort.Expr) (cond (not b) (x ∷ filter is_substitution xs) (filter is_substitution xs))
    go true e r = r
    go false e r = (substitution_sorted x m.0 e, r)

texts : (xs : List Node) → Each template_item xs → Each (a sort.TplElement) (filter is_text_part xs)
texts [] m = tt
texts (x ∷ xs) m = go (is_text_part x) refl (texts xs m.1)
  where
    go : (b : Bool) → is_text_part x ≡ b → Each (a sort.TplElement) (filter is_text_part xs) → Each (a sort.TplElement) (cond b (x ∷ filter is_text_part xs) (filter is_text_part xs))
    go true e r = (text_sorted x m.0 e, r)
    go false e r = r

pub template_made : (q : Ask) (span : Span) (xs : List Node) → Given (if_so (fits expression q || fits (a sort.Tpl) q) (each template_item)) xs → Meets q (template span xs)
template_made q span xs g =
    let t = given_so _ _ xs g in
    let expressions_in = list_made (shape (many (sorted sort.Expr))) (filter is_substitution xs) (substitutions xs t.1) in
    let texts_in = list_made (shape (many (sorted sort.TplElement))) (filter is_text_part xs) (texts xs t.1) in
    as_either sort.Expr sort.Tpl q (template span xs) t.0
    (made_sorted sort.Expr span kind.Tpl (list_node (filter is_substitution xs) ∷ list_node (filter is_text_part xs) ∷ []) refl (expressions_in, (texts_in, tt)))
    (made_sorted sort.Tpl span kind.Tpl (list_node (filter is_substitution xs) ∷ list_node (filter is_text_part xs) ∷ []) refl (expressions_in, (texts_in, tt)))

-- `new`, and assertions

construction_sorted : (span : Span) (xs : List Node) → Given (these_or_none construction_parts) xs → HasRawSort sort.Expr (construction span xs)
construction_sorted span [] g = made_sorted sort.Expr span (kind.MetaPropExpr NewTarget) [] refl tt
construction_sorted span (callee ∷ []) (inl e) = cc
construction_sorted span (callee ∷ []) (inr m) = absurd m.1
construction_sorted span (callee ∷ types ∷ []) (inl e) = cc
construction_sorted span (callee ∷ types ∷ []) (inr m) = absurd m.1.1
construction_sorted span (callee ∷ types ∷ args ∷ []) (inl e) = cc
construction_sorted span (callee ∷ types ∷ args ∷ []) (inr m) = made_sorted sort.Expr span kind.NewExpr (callee ∷ args ∷ types ∷ []) refl (m.0, (m.1.1.0, (m.1.0, tt)))
construction_sorted span (callee ∷ types ∷ args ∷ z ∷ zs) (inl e) = cc
construction_sorted span (callee ∷ types ∷ args ∷ z ∷ zs) (inr m) = absurd m.1.1.1

pub construction_made : (q : Ask) (span : Span) (xs : List Node) → Given (if_so (fits expression q) (these_or_none construction_parts)) xs → Meets q (construction span xs)
construction_made q span xs g = let t = given_so _ _ xs g in as_sort sort.Expr q (construction span xs) t.0 (construction_sorted span xs t.1)

assertion_sorted : (span : Span) (xs : List Node) → Given (maybe_and (a sort.TsType) expression) xs → HasRawSort sort.Expr (assertion span xs)
assertion_sorted span [] (inl m) = absurd m
assertion_sorted span [] (inr m) = absurd m
assertion_sorted span (operand ∷ []) (inl m) = made_sorted sort.Expr span kind.TsConstAssertion (operand ∷ []) refl (m.0, tt)
assertion_sorted span (operand ∷ []) (inr m) = absurd m.1
assertion_sorted span (type ∷ operand ∷ []) (inl m) = absurd m.1
assertion_sorted span (type ∷ operand ∷ []) (inr m) = made_sorted sort.Expr span kind.TsTypeAssertion (operand ∷ type ∷ []) refl (m.1.0, (m.0, tt))
assertion_sorted span (type ∷ operand ∷ z ∷ zs) (inl m) = absurd m.1
assertion_sorted span (type ∷ operand ∷ z ∷ zs) (inr m) = absurd m.1.1

pub assertion_made : (q : Ask) (span : Span) (xs : List Node) → Given (if_so (fits expression q) (maybe_and (a sort.TsType) expression)) xs → Meets q (assertion span xs)
assertion_made q span xs g = let t = given_so _ _ xs g in as_sort sort.Expr q (assertion span xs) t.0 (assertion_sorted span xs t.1)
