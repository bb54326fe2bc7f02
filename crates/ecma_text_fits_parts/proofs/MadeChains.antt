-- Chains of operators, of members and of calls, and templates, have the grades that are asked.
use Rattle.std.proofs.Common.{◌≡◌, suc, ◌+◌, Bool, true, false, not, ◌&&◌, ◌||◌, List, [], ◌∷◌, filter, length, nat_eq, arith, refl, sym, ap, subst, Some, None, slice_get}
use Rattle.std.specs.Prelude.{◌==◌, if◌then◌else◌, slice_set, unwrap_or}
use Rattle.std.proofs.lemmas.Bool.{and_parts, and_from}
use Rattle.ecma_kind.specs.declared.span.Span.{Span}
use Rattle.ecma_kind.specs.declared.kind.Kind.{Kind}
use Rattle.ecma_kind.specs.declared.kind.Kind.TheVariants as kind
use Rattle.ecma_tree.specs.declared.node.Node.{Node, Node-F, fold-Node}
use Rattle.ecma_tree.specs.Nodes.{absent, dummy_span, list_node, node_of}
use Rattle.ecma_tree.specs.Sorted.{is_list}
use Rattle.ecma_grammar.specs.trees.Chains as grammar
use Rattle.ecma_grammar.specs.trees.Chains.{Callee, call_of, callee_by, callee_of, chained, goes_on, goes_on_by, in_front_link, in_front_logical, instantiated, is_and, is_or, is_substitution, is_text_kind, is_text_part, link_by, linked, links, logical, member_of, optional_of, right_in_front, steps, tagged_of, template}
use Rattle.ecma_grammar.specs.trees.Parts.{children_of, framed, from_to, in_front, kind_of, span_of}
use Rattle.ecma_rules.specs.Children.{holds_of}
use Rattle.ecma_rules.specs.Targets.{first_is}
use Rattle.ecma_fits.specs.Chains as chains
use Rattle.ecma_fits.specs.Chains.{is_behind_chain}
use Rattle.ecma_fits.specs.Counts.{ends_once, ends_template, is_whole_template}
use Rattle.ecma_text_leaves.proofs.Trees.{children_made, kind_made}
use Rattle.ecma_text_fits_parts.proofs.Grades.{Grade, Is, Meets, expression, good, head, is_expression, is_head, is_link, is_text_part as grade_text, link, mild, mild_expression, node_meets}
use Rattle.ecma_text_fits_parts.proofs.MadeLists.{made_usually}
use Rattle.ecma_text_fits_parts.proofs.Needs.{chain_needs, usually}
use Rattle.ecma_text_fits_parts.proofs.Sound.{Sound, base_mild, is_base, is_linked, is_mild, is_some, is_triple, mild_set, set_pair, set_triple}
use Rattle.ecma_text_fits_parts.proofs.Throughout.{EachThroughout, Throughout, below, filter_all, first_of, here, more, none, others_of, set_all, throughout}
use Rattle.ecma_raw_roles.proofs.Walks.{not_true}
use Rattle.ecma_text_fits_parts.proofs.Wanted.{Each, Given, Turns, each, one, turns}

-- what stands before a node becomes its first child

front_sound : (x n : Node) → Throughout Sound x → Throughout Sound n → is_mild (kind_of n) ≡ true → Throughout Sound (in_front x n)
front_sound x n s t m = throughout (from_to (span_of x).lo (span_of n).hi) (kind_of n) (mild_set (kind_of n) (children_of n) x m (here Sound t)) (set_all Sound 0 x s (below Sound t))

front_kind : (x n : Node) → kind_of (in_front x n) ≡ kind_of n
front_kind x n = kind_made (from_to (span_of x).lo (span_of n).hi) (kind_of n) (slice_set (children_of n) 0 x)

front_is : (x n : Node) → Throughout Sound x → Is mild n → Is expression (in_front x n)
front_is x n s m = (front_sound x n s m.0 m.1, subst (λ k. is_expression k ≡ true) (sym (front_kind x n)) (mild_expression (kind_of n) m.1))

module _ (g h : Grade) (step : Node → Node → Node) (keeps : (x n : Node) → Meets g x → Meets h n → Meets g (step x n)) where
  steps_keep : (x : Node) (xs : List Node) → Meets g x → Each h xs → Meets g (unwrap_or (steps step (Some x) xs) absent)
  steps_keep x [] m k = m
  steps_keep x (n ∷ ns) m k = steps_keep (step x n) ns (keeps x n m k.0) k.1

chain_good : (x n : Node) → Is good x → Is mild n → Is good (in_front x n)
chain_good x n s m = (front_sound x n s.0 m.0 m.1, refl)

head_mild : (k : Kind) (cs : List Node) → is_head k cs ≡ true → is_mild k ≡ true
head_mild kind.ForStmt cs h = refl
head_mild kind.ForInStmt cs h = refl
head_mild (kind.ForOfStmt is_await) cs h = refl
head_mild _ cs h = not_true h

head_set : (k : Kind) (cs : List Node) (x : Node) → is_head k cs ≡ true → is_head k (slice_set cs 0 x) ≡ true
head_set kind.ForStmt cs x h = set_triple cs x h
head_set kind.ForInStmt cs x h = set_pair cs x h
head_set (kind.ForOfStmt is_await) cs x h = set_pair cs x h
head_set _ cs x h = not_true h

pub chain_made : (g : Grade) (xs : List Node) → Given (chain_needs g) xs → Meets g (chained xs)
chain_made good [] k = absurd k
chain_made good (x ∷ xs) k = steps_keep good mild in_front chain_good x xs k.0 k.1
chain_made expression [] k = absurd k
chain_made expression (x ∷ xs) k = steps_keep expression mild in_front (λ y n s m. front_is y n s.0 m) x xs k.0 k.1
chain_made head [] k = absurd k
chain_made head (x ∷ []) k = absurd k.1
chain_made head (x ∷ n ∷ []) k =
    let m = k.1.0 in
    node_meets head (from_to (span_of x).lo (span_of n).hi) (kind_of n) (slice_set (children_of n) 0 x) refl (set_all Sound 0 x k.0.0 (below Sound m.0))
    (mild_set (kind_of n) (children_of n) x (head_mild (kind_of n) (children_of n) m.1) (here Sound m.0)) (head_set (kind_of n) (children_of n) x m.1)
chain_made head (x ∷ n ∷ m ∷ ms) k = absurd k.1.1
chain_made _ xs k = absurd k

-- logical operators

right_is : (at : Span) (n : Node) (k : Kind) (cs : List Node) → is_or k ≡ true → Is mild n → EachThroughout Sound cs → Sound k cs → Is expression (framed 2 (right_in_front at k n) cs)
right_is at n (kind.BinExpr op) (a ∷ b ∷ []) o m h s =
    node_meets expression at (kind.BinExpr op) (a ∷ in_front b n ∷ []) refl (more (first_of Sound h) (more (front_sound b n (first_of Sound (others_of Sound h)) m.0 m.1) none)) refl refl
right_is at n (kind.BinExpr op) _ o m h s = not_true s
right_is at n _ cs o m h s = not_true o

logical_step : (x n : Node) → Is expression x → Is mild n → Is expression (in_front_logical x n)
logical_step x n s m = go (is_and (kind_of n)) (is_or (kind_of x)) refl
  where
    go : (b c : Bool) → is_or (kind_of x) ≡ c → Is expression (if b && c then framed 2 (right_in_front (from_to (span_of x).lo (span_of n).hi) (kind_of x) n) (children_of x) else in_front x n)
    go true true e = right_is (from_to (span_of x).lo (span_of n).hi) n (kind_of x) (children_of x) e m (below Sound s.0) (here Sound s.0)
    go true false e = front_is x n s.0 m
    go false c e = front_is x n s.0 m

logical_is : (xs : List Node) → Given (one expression (each mild)) xs → Is expression (logical xs)
logical_is [] k = absurd k
logical_is (x ∷ xs) k = steps_keep expression mild in_front_logical logical_step x xs k.0 k.1

pub logical_made : (g : Grade) (xs : List Node) → Given (usually g (one expression (each mild))) xs → Meets g (logical xs)
logical_made g xs k = made_usually g (logical xs) (one expression (each mild)) xs (logical_is xs) k

-- whether a chain goes on, as the grammar asks and as is asked of trees that fit

same_first : (cs : List Bool) → grammar.first_true cs ≡ first_is cs
same_first [] = refl
same_first (c ∷ cs) = refl

same_step : (p : Node-F Bool) → grammar.goes_on_step p ≡ chains.goes_on_step p
same_step p = by_kind p.kind p.children
  where
    by_kind : (k : Kind) (cs : List Bool) → goes_on_by k cs ≡ (chains.is_link k || (chains.keeps_chain k && first_is cs))
    by_kind (kind.OptChainExpr optional) cs = refl
    by_kind kind.TsNonNullExpr cs = same_first cs
    by_kind kind.TsInstantiation cs = same_first cs
    by_kind _ cs = refl

pub same_goes_on : (n : Node) → goes_on n ≡ chains.goes_on n
same_goes_on n = ap (λ f. fold-Node Bool f n) (λ i p. same_step p i)

-- links

-- the base of a link, in which a chain goes on
behind_made : (at : Span) (k : Kind) (x : Node) (cs : List Node) → goes_on x ≡ true → is_behind_chain (node_of at k (x ∷ cs)) ≡ true
behind_made at k x cs e = subst (λ (ds : List Node). holds_of chains.goes_on (slice_get ds 0) ≡ true) (sym (children_made at k (x ∷ cs))) (subst (λ b. b ≡ true) (same_goes_on x) e)

linked_is : (at : Span) (k : Kind) (x : Node) (cs : List Node) → EachThroughout Sound (x ∷ cs) → Sound k (x ∷ cs) → is_base k ≡ true → goes_on x ≡ true → Is expression (linked (node_of at k (x ∷ cs)))
linked_is at k x cs h s m e =
    let base = node_of at k (x ∷ cs) in
    node_meets expression (span_of base) (kind.OptChainExpr false) (base ∷ []) refl (more (throughout at k s h) none)
    (and_from (is_base (kind_of base)) (is_behind_chain base) (subst (λ j. is_base j ≡ true) (sym (kind_made at k (x ∷ cs))) m) (behind_made at k x cs e)) refl

front_linked : (at : Span) (k : Kind) (x : Node) (cs : List Node) → is_some cs ≡ true → EachThroughout Sound (slice_set cs 0 x) → Sound k (slice_set cs 0 x) → is_base k ≡ true → goes_on x ≡ true → Is expression (linked (node_of at k (slice_set cs 0 x)))
front_linked at k x [] some h s m e = not_true some
front_linked at k x (c ∷ cs) some h s m e = linked_is at k x cs h s m e

plain_member : (x n : Node) → Is expression x → Is mild n → is_base (kind_of n) ≡ true → is_some (children_of n) ≡ true → Is expression (if goes_on x then linked (in_front x n) else in_front x n)
plain_member x n s m b some = go (goes_on x) refl
  where
    go : (c : Bool) → goes_on x ≡ c → Is expression (if c then linked (in_front x n) else in_front x n)
    go true e =
        front_linked (from_to (span_of x).lo (span_of n).hi) (kind_of n) x (children_of n) some (set_all Sound 0 x s.0 (below Sound m.0)) (mild_set (kind_of n) (children_of n) x m.1 (here Sound m.0)) b e
    go false e = front_is x n s.0 m

member_is : (x n : Node) (k : Kind) → Is expression x → Is mild n → is_base (kind_of n) ≡ true → is_some (children_of n) ≡ true → Is expression (member_of x n k)
member_is x n kind.Super s m b some = node_meets expression (from_to (span_of x).lo (span_of n).hi) kind.SuperPropExpr (slice_set (children_of n) 0 x) refl (set_all Sound 0 x s.0 (below Sound m.0)) refl refl
member_is x n _ s m b some = plain_member x n s m b some

absent_sound : Throughout Sound absent
absent_sound = throughout dummy_span kind.Absent refl none

abbrev BothSound : Callee → Type 0
BothSound c = Throughout Sound c.0 × Throughout Sound c.1

instantiated_sound : (b : Bool) (xs : List Node) → EachThroughout Sound xs → BothSound (instantiated (if b then Some xs else None))
instantiated_sound true [] h = (absent_sound, absent_sound)
instantiated_sound true (a ∷ []) h = (absent_sound, absent_sound)
instantiated_sound true (a ∷ b ∷ []) h = (first_of Sound h, first_of Sound (others_of Sound h))
instantiated_sound true (a ∷ b ∷ c ∷ cs) h = (absent_sound, absent_sound)
instantiated_sound false xs h = (absent_sound, absent_sound)

callee_sound : (x : Node) (k : Kind) → Throughout Sound x → BothSound (callee_by x k)
callee_sound x kind.TsInstantiation s = instantiated_sound (length (children_of x) == 2) (children_of x) (below Sound s)
callee_sound x _ s = (s, absent_sound)

call_is : (at : Span) (c : Callee) (cs : List Node) → BothSound c → is_triple cs ≡ true → EachThroughout Sound cs → Is expression (framed 3 (call_of at c) cs)
call_is at (callee, type_args) (a ∷ b ∷ c ∷ []) s e h = go (goes_on callee) refl
  where
    all : EachThroughout Sound (callee ∷ b ∷ type_args ∷ [])
    all = more s.0 (more (first_of Sound (others_of Sound h)) (more s.1 none))

    go : (t : Bool) → goes_on callee ≡ t → Is expression (if t then linked (node_of at kind.OptCall (callee ∷ b ∷ type_args ∷ [])) else node_of at kind.CallExpr (callee ∷ b ∷ type_args ∷ []))
    go true f = linked_is at kind.OptCall callee (b ∷ type_args ∷ []) all refl refl f
    go false f = node_meets expression at kind.CallExpr (callee ∷ b ∷ type_args ∷ []) refl all refl refl
call_is at c _ s e h = not_true e

tagged_is : (at : Span) (c : Callee) (cs : List Node) → BothSound c → is_triple cs ≡ true → EachThroughout Sound cs → Is expression (framed 3 (tagged_of at c) cs)
tagged_is at (tag, type_args) (a ∷ b ∷ c ∷ []) s e h =
    node_meets expression at kind.TaggedTpl (tag ∷ type_args ∷ c ∷ []) refl (more s.0 (more s.1 (more (first_of Sound (others_of Sound (others_of Sound h))) none))) refl refl
tagged_is at c _ s e h = not_true e

optional_is : (at : Span) (x : Node) (cs : List Node) → Is expression x → is_linked true cs ≡ true → EachThroughout Sound cs → Is expression (framed 1 (optional_of at x) cs)
optional_is at x (base ∷ []) s e h =
    let b = (and_parts (is_base (kind_of base)) true e).0 in
    let m = base_mild (kind_of base) b in
    node_meets expression at (kind.OptChainExpr true) (in_front x base ∷ []) refl (more (front_sound x base s.0 (first_of Sound h) m) none)
    (and_from (is_base (kind_of (in_front x base))) true (subst (λ j. is_base j ≡ true) (sym (front_kind x base)) b) refl) refl
optional_is at x _ s e h = not_true e

link_is : (x n : Node) (k : Kind) → kind_of n ≡ k → Is expression x → Throughout Sound n → Sound k (children_of n) → is_link k ≡ true → Is expression (link_by x n k)
link_is x n kind.MemberExpr e s t c m = member_is x n (kind_of x) s (t, subst (λ j. is_mild j ≡ true) (sym e) refl) (subst (λ j. is_base j ≡ true) (sym e) refl) c
link_is x n kind.CallExpr e s t c m = call_is (from_to (span_of x).lo (span_of n).hi) (callee_of x) (children_of n) (callee_sound x (kind_of x) s.0) c (below Sound t)
link_is x n kind.TaggedTpl e s t c m = tagged_is (from_to (span_of x).lo (span_of n).hi) (callee_of x) (children_of n) (callee_sound x (kind_of x) s.0) c (below Sound t)
link_is x n (kind.OptChainExpr true) e s t c m = optional_is (from_to (span_of x).lo (span_of n).hi) x (children_of n) s c (below Sound t)
link_is x n (kind.OptChainExpr false) e s t c m = not_true m
link_is x n _ e s t c m = front_is x n s.0 (t, subst (λ j. is_mild j ≡ true) (sym e) m)

link_step : (x n : Node) → Is expression x → Is link n → Is expression (in_front_link x n)
link_step x n s m = link_is x n (kind_of n) refl s m.0 (here Sound m.0) m.1

links_is : (xs : List Node) → Given (one expression (each link)) xs → Is expression (links xs)
links_is [] k = absurd k
links_is (x ∷ xs) k = steps_keep expression link in_front_link link_step x xs k.0 k.1

pub links_made : (g : Grade) (xs : List Node) → Given (usually g (one expression (each link))) xs → Meets g (links xs)
links_made g xs k = made_usually g (links xs) (one expression (each link)) xs (links_is xs) k

-- templates

part_text : (last : Bool) (k : Kind) → grade_text last k ≡ true → is_text_kind k ≡ true
part_text false (kind.TplElement raw cooked tail) h = refl
part_text true (kind.TplElement raw cooked tail) h = refl
part_text _ _ h = not_true h

other_ends : (k : Kind) → grade_text false k ≡ true → ends_template k ≡ false
other_ends (kind.TplElement raw cooked true) h = not_true h
other_ends (kind.TplElement raw cooked false) h = refl
other_ends _ h = not_true h

last_ends : (k : Kind) → grade_text true k ≡ true → ends_template k ≡ true
last_ends (kind.TplElement raw cooked tail) h = h
last_ends _ h = not_true h

no_text : (k : Kind) → is_expression k ≡ true → is_text_kind k ≡ false
no_text (kind.TplElement raw cooked tail) h = not_true h
no_text _ h = refl

-- one text part more than expressions
part_count : (xs : List Node) → Turns xs → length (filter is_text_part xs) ≡ suc (length (filter is_substitution xs))
part_count [] k = absurd k
part_count (x ∷ []) k = let e = part_text true (kind_of x) k.1 in rw e refl
part_count (x ∷ y ∷ ys) k =
    let e = part_text false (kind_of x) k.0.1 in
    let f = no_text (kind_of y) k.1.1 in
    rw (e, f) (ap suc (part_count ys k.2))

once_more : (x : Node) (ps : List Node) → ends_template (kind_of x) ≡ false → ends_once ps ≡ true → ends_once (x ∷ ps) ≡ true
once_more x [] e h = not_true h
once_more x (p ∷ ps) e h = and_from (not (ends_template (kind_of x))) (ends_once (p ∷ ps)) (ap not e) h

ends_last : (xs : List Node) → Turns xs → ends_once (filter is_text_part xs) ≡ true
ends_last [] k = absurd k
ends_last (x ∷ []) k = let e = part_text true (kind_of x) k.1 in rw e (last_ends (kind_of x) k.1)
ends_last (x ∷ y ∷ ys) k =
    let e = part_text false (kind_of x) k.0.1 in
    let f = no_text (kind_of y) k.1.1 in
    rw (e, f) (once_more x (filter is_text_part ys) (other_ends (kind_of x) k.0.1) (ends_last ys k.2))

turns_sound : (xs : List Node) → Turns xs → EachThroughout Sound xs
turns_sound [] k = absurd k
turns_sound (x ∷ []) k = more k.0 none
turns_sound (x ∷ y ∷ ys) k = more k.0.0 (more k.1.0 (turns_sound ys k.2))

template_is : (at : Span) (xs : List Node) → Turns xs → Is expression (template at xs)
template_is at xs k =
    let all = turns_sound xs k in
    let expressions = list_node (filter is_substitution xs) in
    let parts = list_node (filter is_text_part xs) in
    let count : nat_eq (length (filter is_text_part xs)) (length (filter is_substitution xs) + 1) ≡ true = (let e = part_count xs k in grind arith) in
    let whole : is_whole_template (children_of expressions) (children_of parts) ≡ true =
    subst (λ (z : List Node). is_whole_template z (children_of parts) ≡ true) (sym (children_made dummy_span kind.List (filter is_substitution xs)))
    (subst (λ (z : List Node). is_whole_template (filter is_substitution xs) z ≡ true) (sym (children_made dummy_span kind.List (filter is_text_part xs)))
    (and_from (nat_eq (length (filter is_text_part xs)) (length (filter is_substitution xs) + 1)) (ends_once (filter is_text_part xs)) count (ends_last xs k))) in
    let lists : (is_list (kind_of expressions) && is_list (kind_of parts)) ≡ true =
    and_from (is_list (kind_of expressions)) (is_list (kind_of parts)) (ap is_list (kind_made dummy_span kind.List (filter is_substitution xs))) (ap is_list (kind_made dummy_span kind.List (filter is_text_part xs))) in
    node_meets expression at kind.Tpl (expressions ∷ parts ∷ []) refl
    (more (throughout dummy_span kind.List refl (filter_all Sound is_substitution all)) (more (throughout dummy_span kind.List refl (filter_all Sound is_text_part all)) none))
    (and_from (is_list (kind_of expressions) && is_list (kind_of parts)) (is_whole_template (children_of expressions) (children_of parts)) lists whole) refl

pub template_made : (g : Grade) (at : Span) (xs : List Node) → Given (usually g turns) xs → Meets g (template at xs)
template_made g at xs k = made_usually g (template at xs) turns xs (template_is at xs) k
