-- What forms that keep or arrange what they are given make of it meets what is asked.
use Rattle.std.proofs.Common.{◌≡◌, ◌∙◌, ap, inl, inr, ℕ, zero, suc, ◌-◌, Bool, true, false, cond, not, ◌&&◌, ◌||◌, ◌==◌, List, [], ◌∷◌, ◌++◌, filter, take, length, slice_get, slice_set, Some, None, refl, sym, subst, unwrap_or}
use Rattle.ecma_kind.specs.declared.span.Span.{Span}
use Rattle.ecma_kind.specs.declared.operators.MetaPropKind.TheVariants.{NewTarget}
use Rattle.ecma_kind.specs.declared.kind.Kind.{Kind}
use Rattle.ecma_kind.specs.declared.kind.Kind.TheVariants as kind
use Rattle.ecma_tree.specs.declared.node.Node.{Node}
use Rattle.ecma_tree.specs.Nodes.{absent, dummy_span, list_node, node_of}
use Rattle.ecma_grammar.specs.declared.production.Plain.{Plain}
use Rattle.ecma_grammar.specs.declared.production.Plain.TheVariants as plain
use Rattle.ecma_grammar.specs.trees.Plain.{plain_kind}
use Rattle.ecma_grammar.specs.trees.Parts.{by_frame, children_of, framed, from_to, in_front, kind_of, span_of}
use Rattle.ecma_grammar.specs.trees.Chains.{chained, construction, in_front_logical, is_and, is_or, is_substitution, is_text_part, logical, new_expr, right_in_front, steps, template}
use Rattle.ecma_grammar.specs.trees.Others.{assertion, const_assertion, elements, missing, namespace, namespaces, sequence, swapped, the_one, type_assertion}
use Rattle.ecma_grammar_laws.proofs.RawShapes.{children_are, in_front_is, kind_is}
use Rattle.ecma_fits.specs.declared.role.Role.{Role}
use Rattle.ecma_fits.specs.declared.role.Role.TheVariants as role
use Rattle.ecma_fits.specs.Roles.{may_be, role_in}
use Rattle.ecma_raw_roles.specs.RawRoles.{HasRawRole, may_be_raw, raw_role, raw_role_in, usual_role_in}
use Rattle.ecma_raw_roles.proofs.Placed.{displaced_by, Along, absent_free, along_last, along_same, moved, placed, placed_parts}
use Rattle.ecma_text_fits_roles.proofs.RoleAsks.{Ask, Asked, Chained, Given, IsHead, MeetAll, MeetEach, Meets, any, at, before, behind, both, chain, each, first, first_and_each, free, head, head_rest, is_annotated, link, single, text_or_free, these, whatever, wider, with_default}
use Rattle.ecma_text_fits_roles.proofs.RoleNeeds.{as_free, ats, bare_kind_needs, boths, chain_at, chain_needs, count, first_kind_needs, if_so, is_loop, kind_needs, list_needs, node_needs, swapped_asked, template_at, template_needs, without_first}
use Rattle.ecma_text_fits_roles.proofs.RoleGiven.{is_wider, no, two}
use Rattle.ecma_fits.proofs.Walks.{neither}

pub given_so : (b : Bool) (asked : Asked) (xs : List Node) → Given (if_so b asked) xs → (b ≡ true) × Given asked xs
given_so true asked xs g = (refl, g)
given_so false asked xs g = absurd g

pub unnot : (b : Bool) → not b ≡ true → b ≡ false
unnot true h = no h
unnot false h = refl

-- where what is made is free
pub freely : (q : Ask) (asked : Asked) (n : Node) (xs : List Node) → (Given asked xs → HasRawRole role.Free n) → Given (as_free q asked) xs → Meets q n
freely any asked n xs f g = tt
freely (at r) asked n xs f g = let t = given_so (wider role.Free r) asked xs g in is_wider role.Free r n t.0 (f t.1)
freely text_or_free asked n xs f g = inl (f g)
freely _ asked n xs f g = absurd g

-- what is made of nodes, one for each ask
abbrev pub Made : List Ask → (List Node → Type 0) → Type 0
Made [] P = P []
Made (q ∷ qs) P = (x : Node) → Meets q x → Made qs (λ xs. P (x ∷ xs))

pub made_of : (qs : List Ask) (P : List Node → Type 0) → Made qs P → (xs : List Node) → MeetAll qs xs → P xs
made_of [] P f [] m = f
made_of [] P f (x ∷ xs) m = absurd m
made_of (q ∷ qs) P f [] m = absurd m
made_of (q ∷ qs) P f (x ∷ xs) m = made_of qs (λ ys. P (x ∷ ys)) (f x m.0) xs m.1

-- of as many nodes as are wanted, or nothing
pub framed_free : (n : ℕ) (f : List Node → Node) (xs : List Node) → HasRawRole role.Free (f xs) → HasRawRole role.Free (framed n f xs)
framed_free n f xs h = go (length xs == n)
  where
    go : (b : Bool) → HasRawRole role.Free (by_frame f (cond b (Some xs) None))
    go true = h
    go false = absent_free

-- children

along_of : (f : ℕ → Role) (n : ℕ) (xs : List Node) → MeetAll (ats f n) xs → Along f xs
along_of f zero [] m = tt
along_of f zero (x ∷ xs) m = absurd m
along_of f (suc n) [] m = absurd m
along_of f (suc n) (x ∷ xs) m = (m.0, along_of (λ i. f (suc i)) n xs m.1)

along_both : (f g : ℕ → Role) (n : ℕ) (xs : List Node) → MeetAll (boths f g n) xs → Along f xs × Along g xs
along_both f g zero [] m = (tt, tt)
along_both f g zero (x ∷ xs) m = absurd m
along_both f g (suc n) [] m = absurd m
along_both f g (suc n) (x ∷ xs) m = let t = along_both (λ i. f (suc i)) (λ i. g (suc i)) n xs m.1 in let b = m.0 in ((b.0, t.0), (b.1, t.1))

along_front : (f : ℕ → Role) (n : ℕ) (x : Node) (xs : List Node) → HasRawRole (f 0) x → MeetAll (without_first (ats f n)) xs → Along f (slice_set xs 0 x)
along_front f zero x [] h m = tt
along_front f zero x (y ∷ ys) h m = absurd m
along_front f (suc n) x [] h m = absurd m
along_front f (suc n) x (y ∷ ys) h m = (h, along_of (λ i. f (suc i)) n ys m.1)

pub along_each : (r : Role) (xs : List Node) → MeetEach (at r) xs → Along (λ i. r) xs
along_each r [] m = tt
along_each r (x ∷ xs) m = (m.0, along_each r xs m.1)

-- loops, whose body is put behind their head

loop_free : (k : Kind) (i : ℕ) → is_loop k ≡ true → role.Free ≡ raw_role_in role.Free k i
unfolding raw_role_in usual_role_in role_in
loop_free kind.ForStmt i h = refl
loop_free kind.ForInStmt i h = go (i == 0)
  where
    go : (b : Bool) → role.Free ≡ raw_role (cond b role.Head role.Free)
    go true = refl
    go false = refl
loop_free (kind.ForOfStmt is_await) i h = go (i == 0)
  where
    go : (b : Bool) → role.Free ≡ raw_role (cond b role.Head role.Free)
    go true = refl
    go false = refl
loop_free _ i h = no h

loop_place : (k : Kind) → is_loop k ≡ true → displaced_by role.Free k ≡ false
unfolding may_be may_be_raw
loop_place kind.ForStmt h = refl
loop_place kind.ForInStmt h = refl
loop_place (kind.ForOfStmt is_await) h = refl
loop_place _ h = no h

head_node : (k : Kind) (span : Span) (xs : List Node) → is_loop k ≡ true → MeetEach free xs → IsHead (node_of span k xs)
head_node k span xs h m outer body b =
    subst (λ z. HasRawRole role.Free (node_of outer z (children_of (node_of span k xs) ++ body ∷ []))) (sym (kind_is span k xs))
    (subst (λ z. HasRawRole role.Free (node_of outer k (z ++ body ∷ []))) (sym (children_are span k xs))
    (placed outer k (xs ++ body ∷ []) role.Free (loop_place k h) (along_same (λ i. role.Free) (raw_role_in role.Free k) (xs ++ body ∷ []) (λ i. loop_free k i h) (along_last role.Free xs body (along_each role.Free xs m) b))))

front_each : (x : Node) (xs : List Node) → HasRawRole role.Free x → MeetEach free xs → MeetEach free (slice_set xs 0 x)
front_each x [] h m = tt
front_each x (y ∷ ys) h m = (h, m.1)

-- nodes of a kind; links have a lemma of their own
module _ (linked : (span : Span) (k : Kind) (xs : List Node) → Given (kind_needs k link) xs → Meets link (node_of span k xs)) where
  pub kind_made_of : (k : Kind) (q : Ask) (span : Span) (xs : List Node) → Given (kind_needs k q) xs → Meets q (node_of span k xs)
  kind_made_of k any span xs g = tt
  kind_made_of k (at r) span xs g = let t = given_so _ _ xs g in placed span k xs r (unnot (displaced_by r k) t.0) (along_of (raw_role_in r k) (count k) xs t.1)
  kind_made_of k (single r) span xs g =
      let t = given_so _ _ xs g in
      let w = two (not (displaced_by r k)) (is_annotated k) t.0 in
      (placed span k xs r (unnot (displaced_by r k) w.0) (along_of (raw_role_in r k) (count k) xs t.1), subst (λ z. is_annotated z ≡ true) (sym (kind_is span k xs)) w.1)
  kind_made_of k (both r s) span xs g =
      let t = given_so _ _ xs g in
      let w = neither (displaced_by r k) (displaced_by s k) (unnot (displaced_by r k || displaced_by s k) t.0) in
      let b = along_both (raw_role_in r k) (raw_role_in s k) (count k) xs t.1 in
      (placed span k xs r w.0 b.0, placed span k xs s w.1 b.1)
  kind_made_of k (before r s) span xs g = λ x h.
      (let t = given_so _ _ xs g in
      let w = two (not (displaced_by s k)) (wider r (raw_role_in s k 0)) t.0 in
      subst (HasRawRole s) (sym (in_front_is x span k xs))
      (placed (from_to (span_of x).lo span.hi) k (slice_set xs 0 x) s (unnot (displaced_by s k) w.0) (along_front (raw_role_in s k) (count k) x xs (is_wider r (raw_role_in s k 0) x w.1 h) t.1)))
  kind_made_of k link span xs g = linked span k xs g
  kind_made_of k text_or_free span xs g = absurd g
  kind_made_of k head span xs g = let t = given_so _ _ xs g in head_node k span xs t.0 t.1
  kind_made_of k head_rest span xs g = λ x h.
      (let t = given_so _ _ xs g in subst IsHead (sym (in_front_is x span k xs)) (head_node k (from_to (span_of x).lo span.hi) (slice_set xs 0 x) t.0 (front_each x xs h t.1)))

  pub node_made : (p : Plain) (q : Ask) (span : Span) (xs : List Node) → Given (node_needs p q) xs → Meets q (node_of span (plain_kind p) xs)
  node_made plain.SeqExpr q span xs g = absurd g
  node_made p q span xs g = kind_made_of (plain_kind p) q span xs g

  swapped_given : (q : Asked) (xs : List Node) → Given (swapped_asked q) xs → Given q (swapped xs)
  swapped_given whatever xs m = tt
  swapped_given (these (p ∷ q ∷ [])) [] m = absurd m
  swapped_given (these (p ∷ q ∷ [])) (x ∷ []) m = absurd m.1
  swapped_given (these (p ∷ q ∷ [])) (x ∷ y ∷ []) m = (m.1.0, (m.0, tt))
  swapped_given (these (p ∷ q ∷ [])) (x ∷ y ∷ z ∷ zs) m = absurd m.1.1
  swapped_given (these (p ∷ q ∷ r ∷ [])) [] m = absurd m
  swapped_given (these (p ∷ q ∷ r ∷ [])) (x ∷ []) m = absurd m.1
  swapped_given (these (p ∷ q ∷ r ∷ [])) (x ∷ y ∷ []) m = absurd m.1.1
  swapped_given (these (p ∷ q ∷ r ∷ [])) (x ∷ y ∷ z ∷ []) m = (m.0, (m.1.1.0, (m.1.0, tt)))
  swapped_given (these (p ∷ q ∷ r ∷ [])) (x ∷ y ∷ z ∷ w ∷ ws) m = absurd m.1.1.1
  swapped_given _ xs m = absurd m

  pub swapped_made : (p : Plain) (q : Ask) (span : Span) (xs : List Node) → Given (swapped_asked (node_needs p q)) xs → Meets q (node_of span (plain_kind p) (swapped xs))
  swapped_made p q span xs g = node_made p q span (swapped xs) (swapped_given (node_needs p q) xs g)

pub bare_made : (k : Kind) (q : Ask) (span : Span) (xs : List Node) → Given (bare_kind_needs k q) xs → Meets q (node_of span k [])
bare_made k any span xs g = tt
bare_made k (at r) span xs g = let t = given_so _ _ xs g in placed span k [] r (unnot (displaced_by r k) t.0) tt
bare_made k _ span xs g = absurd g

pub first_made : (k : Kind) (q : Ask) (span : Span) (xs : List Node) → Given (first_kind_needs k q) xs → Meets q (node_of span k (take 1 xs))
first_made k any span xs g = tt
first_made k (at r) span xs g = let t = given_so _ _ xs g in by_first xs (unnot (displaced_by r k) t.0) t.1
  where
    by_first : (xs : List Node) → displaced_by r k ≡ false → Given (first (at (raw_role_in r k 0))) xs → HasRawRole r (node_of span k (take 1 xs))
    by_first [] d m = absurd m
    by_first (x ∷ xs) d m = placed span k (x ∷ []) r d (m, tt)
first_made k _ span xs g = absurd g

-- lists

same_items : (r : Role) (xs : List Node) → MeetEach (at (raw_role_in r kind.List 0)) xs → Along (raw_role_in r kind.List) xs
unfolding raw_role_in usual_role_in role_in
same_items r xs m = along_each (raw_role_in r kind.List 0) xs m

pub list_made : (q : Ask) (xs : List Node) → Given (list_needs q) xs → Meets q (list_node xs)
list_made any xs g = tt
list_made (at r) xs g = let t = given_so _ _ xs g in placed dummy_span kind.List xs r (unnot (displaced_by r kind.List) t.0) (same_items r xs t.1)
list_made _ xs g = absurd g

pub free_list : (xs : List Node) → MeetEach free xs → HasRawRole role.Free (list_node xs)
unfolding may_be may_be_raw raw_role_in usual_role_in role_in
free_list xs m = placed dummy_span kind.List xs role.Free refl (along_each role.Free xs m)

each_front : (q : Ask) (n : ℕ) (xs : List Node) → MeetEach q xs → MeetEach q (take n xs)
each_front q zero xs m = tt
each_front q (suc n) [] m = tt
each_front q (suc n) (x ∷ xs) m = (m.0, each_front q n xs m.1)

items_given : (q : Ask) (xs : List Node) → Given (list_needs q) xs → Given (list_needs q) (elements xs)
items_given any xs g = tt
items_given (at r) xs g = let t = given_so _ _ xs g in so (not (displaced_by r kind.List)) t.0 (elements xs) (go (missing (slice_get xs (length xs - 1))) t.1)
  where
    so : (b : Bool) → b ≡ true → (ys : List Node) → MeetEach (at (raw_role_in r kind.List 0)) ys → Given (if_so b (each (at (raw_role_in r kind.List 0)))) ys
    so true e ys m = m
    so false e ys m = no e

    go : (b : Bool) → MeetEach (at (raw_role_in r kind.List 0)) xs → MeetEach (at (raw_role_in r kind.List 0)) (cond b (take (length xs - 1) xs) xs)
    go true m = each_front (at (raw_role_in r kind.List 0)) (length xs - 1) xs m
    go false m = m
items_given _ xs g = absurd g

pub elements_made : (q : Ask) (xs : List Node) → Given (list_needs q) xs → Meets q (list_node (elements xs))
elements_made q xs g = list_made q (elements xs) (items_given q xs g)

one_free : (xs : List Node) → MeetEach free xs → HasRawRole role.Free (the_one xs)
one_free [] m = absent_free
one_free (x ∷ []) m = m.0
one_free (x ∷ y ∷ ys) m = absent_free

sequence_free : (span : Span) (xs : List Node) → MeetEach free xs → HasRawRole role.Free (sequence span xs)
unfolding may_be may_be_raw raw_role_in usual_role_in role_in
sequence_free span xs m = go (length xs == 1)
  where
    go : (b : Bool) → HasRawRole role.Free (cond b (framed 1 the_one xs) (node_of span kind.SeqExpr xs))
    go true = framed_free 1 the_one xs (one_free xs m)
    go false = placed span kind.SeqExpr xs role.Free refl (along_each role.Free xs m)

pub sequence_made : (q : Ask) (span : Span) (xs : List Node) → Given (as_free q (each free)) xs → Meets q (sequence span xs)
sequence_made q span xs g = freely q (each free) (sequence span xs) xs (sequence_free span xs) g

-- chains

default_made : (r s : Role) (xs : List Node) → Given (with_default r s) xs → HasRawRole r (chained xs)
default_made r s [] (inl m) = absurd m
default_made r s [] (inr m) = absurd m
default_made r s (x ∷ []) (inl m) = let b = m.0 in b.0
default_made r s (x ∷ []) (inr m) = absurd m.1
default_made r s (x ∷ n ∷ []) (inl m) = absurd m.1
default_made r s (x ∷ n ∷ []) (inr m) = let b = m.0 in m.1.0 x b.1
default_made r s (x ∷ n ∷ z ∷ zs) (inl m) = absurd m.1
default_made r s (x ∷ n ∷ z ∷ zs) (inr m) = absurd m.1.1

chain_free : (xs : List Node) → Chained xs → HasRawRole role.Free (chained xs)
chain_free xs c = subst (λ o. HasRawRole role.Free (unwrap_or o absent)) (sym c.1) c.2

chain_in : (r : Role) (xs : List Node) → Given (chain_at r) xs → HasRawRole r (chained xs)
chain_in role.DeclaredElement xs g = default_made role.DeclaredElement role.Declared xs g
chain_in role.DeclaredValue xs g = default_made role.DeclaredValue role.Declared xs g
chain_in role.Parameter xs g = default_made role.Parameter role.DefaultedParameter xs g
chain_in r xs g = let t = given_so (wider role.Free r) chain xs g in is_wider role.Free r (chained xs) t.0 (chain_free xs t.1)

head_chained : (xs : List Node) → MeetAll (free ∷ head_rest ∷ []) xs → IsHead (chained xs)
head_chained [] m = absurd m
head_chained (x ∷ []) m = absurd m.1
head_chained (x ∷ n ∷ []) m = m.1.0 x m.0
head_chained (x ∷ n ∷ z ∷ zs) m = absurd m.1.1

pub chain_made : (q : Ask) (xs : List Node) → Given (chain_needs q) xs → Meets q (chained xs)
chain_made any xs g = tt
chain_made (at r) xs g = chain_in r xs g
chain_made head xs g = head_chained xs g
chain_made _ xs g = absurd g

pub steps_free : (q : Ask) (step : Node → Node → Node) → ((x n : Node) → HasRawRole role.Free x → Meets q n → HasRawRole role.Free (step x n)) → (xs : List Node) → Given (first_and_each free q) xs
    → HasRawRole role.Free (unwrap_or (steps step None xs) absent)
steps_free q step on [] g = absurd g
steps_free q step on (x ∷ xs) g = go x xs g.0 g.1
  where
    go : (x : Node) (xs : List Node) → HasRawRole role.Free x → MeetEach q xs → HasRawRole role.Free (unwrap_or (steps step (Some x) xs) absent)
    go x [] h m = h
    go x (n ∷ ns) h m = go (step x n) ns (on x n h m.0) m.1

-- logical operators

right_free : (span : Span) (n : Node) → Meets behind n → (k : Kind) → is_or k ≡ true → (cs : List Node) → Along (raw_role_in role.Free k) cs → HasRawRole role.Free (framed 2 (right_in_front span k n) cs)
unfolding may_be may_be_raw raw_role_in usual_role_in role_in
right_free span n m (kind.BinExpr op) o [] a = absent_free
right_free span n m (kind.BinExpr op) o (left ∷ []) a = absent_free
right_free span n m (kind.BinExpr op) o (left ∷ right ∷ []) a = placed span (kind.BinExpr op) (left ∷ in_front right n ∷ []) role.Free refl (a.0, (m right a.1.0, tt))
right_free span n m (kind.BinExpr op) o (left ∷ right ∷ z ∷ zs) a = framed_free 2 (right_in_front span (kind.BinExpr op) n) (left ∷ right ∷ z ∷ zs) absent_free
right_free span n m _ o cs a = no o

logical_step : (x n : Node) → HasRawRole role.Free x → Meets behind n → HasRawRole role.Free (in_front_logical x n)
logical_step x n h m = go (is_and (kind_of n)) (is_or (kind_of x)) refl
  where
    go : (b c : Bool) → is_or (kind_of x) ≡ c → HasRawRole role.Free (cond (b && c) (framed 2 (right_in_front (from_to (span_of x).lo (span_of n).hi) (kind_of x) n) (children_of x)) (in_front x n))
    go true true e = right_free (from_to (span_of x).lo (span_of n).hi) n m (kind_of x) e (children_of x) (placed_parts x role.Free h).1
    go true false e = m x h
    go false c e = m x h

pub logical_made : (q : Ask) (xs : List Node) → Given (as_free q (first_and_each free behind)) xs → Meets q (logical xs)
logical_made q xs g = freely q (first_and_each free behind) (logical xs) xs (steps_free behind in_front_logical logical_step xs) g

-- templates, `new`, assertions, namespaces

filtered : (q : Ask) (p : Node → Bool) (xs : List Node) → MeetEach q xs → MeetEach q (filter p xs)
filtered q p [] m = tt
filtered q p (x ∷ xs) m = go (p x) (filtered q p xs m.1)
  where
    go : (b : Bool) → MeetEach q (filter p xs) → MeetEach q (cond b (x ∷ filter p xs) (filter p xs))
    go true r = (m.0, r)
    go false r = r

template_free : (span : Span) (xs : List Node) → MeetEach free xs → HasRawRole role.Free (template span xs)
unfolding may_be may_be_raw raw_role_in usual_role_in role_in
template_free span xs m =
    placed span kind.Tpl (list_node (filter is_substitution xs) ∷ list_node (filter is_text_part xs) ∷ []) role.Free refl
    (free_list (filter is_substitution xs) (filtered free is_substitution xs m), (free_list (filter is_text_part xs) (filtered free is_text_part xs m), tt))

-- behind a tag

text_place : (k : Kind) → displaced_by role.Free k ≡ false → displaced_by role.TaggedText k ≡ false
unfolding may_be may_be_raw
text_place (kind.Ident text ctxt optional) h = h
text_place (kind.TplElement raw None tail) h = refl
text_place (kind.TplElement raw (Some cooked) tail) h = refl
text_place _ h = refl

same_text : (k : Kind) (i : ℕ) → raw_role_in role.Free k i ≡ raw_role_in role.TaggedText k i
unfolding raw_role_in usual_role_in role_in
same_text kind.List i = refl
same_text _ i = refl

as_text : (x : Node) → Meets text_or_free x → HasRawRole role.TaggedText x
as_text x (inl h) = moved x role.Free role.TaggedText (text_place (kind_of x) (placed_parts x role.Free h).0) (same_text (kind_of x)) h
as_text x (inr h) = h.1

as_expression : (x : Node) → is_substitution x ≡ true → Meets text_or_free x → HasRawRole role.Free x
as_expression x e (inl h) = h
as_expression x e (inr h) = no (sym (ap not h.0) ∙ e)

texts_along : (xs : List Node) → MeetEach text_or_free xs → Along (λ i. role.TaggedText) (filter is_text_part xs)
texts_along [] m = tt
texts_along (x ∷ xs) m = go (is_text_part x) (texts_along xs m.1)
  where
    go : (b : Bool) → Along (λ i. role.TaggedText) (filter is_text_part xs) → Along (λ i. role.TaggedText) (cond b (x ∷ filter is_text_part xs) (filter is_text_part xs))
    go true r = (as_text x m.0, r)
    go false r = r

expressions_along : (xs : List Node) → MeetEach text_or_free xs → Along (λ i. role.Free) (filter is_substitution xs)
expressions_along [] m = tt
expressions_along (x ∷ xs) m = go (is_substitution x) refl (expressions_along xs m.1)
  where
    go : (b : Bool) → is_substitution x ≡ b → Along (λ i. role.Free) (filter is_substitution xs) → Along (λ i. role.Free) (cond b (x ∷ filter is_substitution xs) (filter is_substitution xs))
    go true e r = (as_expression x e m.0, r)
    go false e r = r

template_tagged : (span : Span) (xs : List Node) → MeetEach text_or_free xs → HasRawRole role.Tagged (template span xs)
unfolding may_be may_be_raw raw_role_in usual_role_in role_in
template_tagged span xs m =
    let expressions = filter is_substitution xs in
    let texts = filter is_text_part xs in
    placed span kind.Tpl (list_node expressions ∷ list_node texts ∷ []) role.Tagged refl
    (placed dummy_span kind.List expressions role.Free refl (expressions_along xs m), (placed dummy_span kind.List texts role.TaggedTexts refl (texts_along xs m), tt))

template_in : (r : Role) (span : Span) (xs : List Node) → Given (template_at r) xs → HasRawRole r (template span xs)
template_in role.Tagged span xs g = template_tagged span xs g
template_in r span xs g = let t = given_so (wider role.Free r) (each free) xs g in is_wider role.Free r (template span xs) t.0 (template_free span xs t.1)

pub template_made : (q : Ask) (span : Span) (xs : List Node) → Given (template_needs q) xs → Meets q (template span xs)
template_made (at r) span xs g = template_in r span xs g
template_made q span xs g = freely q (each free) (template span xs) xs (template_free span xs) g

new_free : (span : Span) (xs : List Node) → MeetEach free xs → HasRawRole role.Free (new_expr span xs)
unfolding may_be may_be_raw raw_role_in usual_role_in role_in
new_free span [] m = absent_free
new_free span (a ∷ []) m = absent_free
new_free span (a ∷ b ∷ []) m = absent_free
new_free span (a ∷ b ∷ c ∷ []) m = placed span kind.NewExpr (a ∷ c ∷ b ∷ []) role.Free refl (m.0, (m.1.1.0, (m.1.0, tt)))
new_free span (a ∷ b ∷ c ∷ d ∷ ds) m = absent_free

construction_free : (span : Span) (xs : List Node) → MeetEach free xs → HasRawRole role.Free (construction span xs)
unfolding may_be may_be_raw raw_role_in usual_role_in role_in
construction_free span xs m = go (length xs == 0)
  where
    go : (b : Bool) → HasRawRole role.Free (cond b (node_of span (kind.MetaPropExpr NewTarget) []) (framed 3 (new_expr span) xs))
    go true = placed span (kind.MetaPropExpr NewTarget) [] role.Free refl tt
    go false = framed_free 3 (new_expr span) xs (new_free span xs m)

pub construction_made : (q : Ask) (span : Span) (xs : List Node) → Given (as_free q (each free)) xs → Meets q (construction span xs)
construction_made q span xs g = freely q (each free) (construction span xs) xs (construction_free span xs) g

const_free : (span : Span) (xs : List Node) → MeetEach free xs → HasRawRole role.Free (const_assertion span xs)
unfolding may_be may_be_raw raw_role_in usual_role_in role_in
const_free span [] m = absent_free
const_free span (a ∷ []) m = placed span kind.TsConstAssertion (a ∷ []) role.Free refl (m.0, tt)
const_free span (a ∷ b ∷ bs) m = absent_free

type_free : (span : Span) (xs : List Node) → MeetEach free xs → HasRawRole role.Free (type_assertion span xs)
unfolding may_be may_be_raw raw_role_in usual_role_in role_in
type_free span [] m = absent_free
type_free span (a ∷ []) m = absent_free
type_free span (a ∷ b ∷ []) m = placed span kind.TsTypeAssertion (b ∷ a ∷ []) role.Free refl (m.1.0, (m.0, tt))
type_free span (a ∷ b ∷ c ∷ cs) m = absent_free

assertion_free : (span : Span) (xs : List Node) → MeetEach free xs → HasRawRole role.Free (assertion span xs)
assertion_free span xs m = go (length xs == 1)
  where
    go : (b : Bool) → HasRawRole role.Free (cond b (framed 1 (const_assertion span) xs) (framed 2 (type_assertion span) xs))
    go true = framed_free 1 (const_assertion span) xs (const_free span xs m)
    go false = framed_free 2 (type_assertion span) xs (type_free span xs m)

pub assertion_made : (q : Ask) (span : Span) (xs : List Node) → Given (as_free q (each free)) xs → Meets q (assertion span xs)
assertion_made q span xs g = freely q (each free) (assertion span xs) xs (assertion_free span xs) g

namespaces_free : (hi : ℕ) (xs : List Node) → MeetEach free xs → HasRawRole role.Free (namespaces hi xs)
unfolding may_be may_be_raw raw_role_in usual_role_in role_in
namespaces_free hi [] m = absent_free
namespaces_free hi (body ∷ []) m = m.0
namespaces_free hi (name ∷ x ∷ xs) m =
    placed (from_to (span_of name).lo hi) (kind.TsNamespaceDecl false false) (name ∷ namespaces hi (x ∷ xs) ∷ []) role.Free refl (m.0, (namespaces_free hi (x ∷ xs) m.1, tt))

namespace_free : (span : Span) (xs : List Node) → MeetEach free xs → HasRawRole role.Free (namespace span xs)
unfolding may_be may_be_raw raw_role_in usual_role_in role_in
namespace_free span [] m = absent_free
namespace_free span (body ∷ []) m = absent_free
namespace_free span (name ∷ x ∷ xs) m = placed span (kind.TsModuleDecl false false) (name ∷ namespaces span.hi (x ∷ xs) ∷ []) role.Free refl (m.0, (namespaces_free span.hi (x ∷ xs) m.1, tt))

pub namespace_made : (q : Ask) (span : Span) (xs : List Node) → Given (as_free q (each free)) xs → Meets q (namespace span xs)
namespace_made q span xs g = freely q (each free) (namespace span xs) xs (namespace_free span xs) g
