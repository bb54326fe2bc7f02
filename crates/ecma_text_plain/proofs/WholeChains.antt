-- What links, chains and templates make of whole nodes is whole.
use Rattle.std.proofs.Common.{◌≡◌, ◌∙◌, Bool, true, false, ◌&&◌, ℕ, List, [], ◌∷◌, inl, inr, length, refl, subst, sym, Some, None}
use Rattle.std.proofs.lemmas.Bool.{and_parts}
use Rattle.std.specs.Prelude.{slice_set, unwrap_or, if◌then◌else◌, ◌==◌}
use Rattle.ecma_kind.specs.declared.span.Span.{Span}
use Rattle.ecma_kind.specs.declared.kind.Kind.{Kind}
use Rattle.ecma_kind.specs.declared.kind.Kind.TheVariants as kind
use Rattle.ecma_kind.specs.declared.operators.MetaPropKind.TheVariants.{NewTarget}
use Rattle.ecma_tree.specs.declared.node.Node.{Node}
use Rattle.ecma_tree.specs.Nodes.{absent, list_node, dummy_span}
use Rattle.ecma_grammar.specs.trees.Parts.{by_frame, kind_of, span_of, children_of, from_to, in_front, framed}
use Rattle.ecma_grammar.specs.trees.Chains.{steps, all_steps, is_and, is_or, right_in_front, in_front_logical, goes_on, linked, Callee, instantiated, callee_by, callee_of, member_of, call_of, tagged_of, optional_of, link_by, in_front_link, new_expr, construction, template, is_substitution, is_text_part}
use Rattle.ecma_raw_roles.proofs.Walks.{not_true}
use Rattle.ecma_text_plain.proofs.GivenWhole.{first_aside, is_other, two_full}
use Rattle.ecma_text_plain.proofs.Whole.{A, G, View, filter_all, inner, is_specifier, made_of, more, none, set_all, shut, view, whole}

pub missing_node : G absent
missing_node = whole dummy_span kind.Absent refl refl none

pub list_of : {xs : List Node} → A xs → G (list_node xs)
list_of h = whole dummy_span kind.List refl refl h

pub one_of : (b : Bool) (x y : Node) → G x → G y → G (if b then x else y)
one_of true x y g k = g
one_of false x y g k = k

-- the first is chosen for a reason alone
one_where : (b : Bool) (x y : Node) → (b ≡ true → G x) → G y → G (if b then x else y)
one_where true x y g k = g refl
one_where false x y g k = k

pub framed_good : (n : ℕ) (f : List Node → Node) (xs : List Node) → G (f xs) → G (framed n f xs)
framed_good n f xs g = go (length xs == n)
  where
    go : (b : Bool) → G (by_frame f (if b then Some xs else None))
    go true = g
    go false = missing_node

pub frames : {xs : List Node} (n : ℕ) (f : List Node → Node) → A xs → (A xs → G (f xs)) → G (framed n f xs)
frames {xs} n f h g = framed_good n f xs (g h)

-- chains

pub in_front_good : {x n : Node} → G x → G n → G (in_front x n)
in_front_good {x} {n} g k = made_of (from_to (span_of x).lo (span_of n).hi) (kind_of n) (go (view k))
  where
    go : View (kind_of n) (children_of n) → View (kind_of n) (slice_set (children_of n) 0 x)
    go (inl t) = inl (first_aside (kind_of n) (children_of n) x ∙ t.0, t.1, set_all 0 x g t.2)
    go (inr s) = inr s

module _ (step : Node → Node → Node) (keeps : (x n : Node) → G x → G n → G (step x n)) where
  steps_some : (x : Node) {xs : List Node} → G x → A xs → G (unwrap_or (steps step (Some x) xs) absent)
  steps_some x g none = g
  steps_some x g (more {n = n} a h) = steps_some (step x n) (keeps x n g a) h

  pub all_steps_good : {xs : List Node} → A xs → G (all_steps step xs)
  all_steps_good none = missing_node
  all_steps_good (more {n = n} a h) = steps_some n a h

right_good : (at : Span) (k : Kind) {n : Node} → is_other k ≡ true → G n → (children : List Node) → View k children → G (right_in_front at k n children)
right_good at k o g [] v = missing_node
right_good at k o g (a ∷ []) v = missing_node
right_good at k {n = n} o g (a ∷ b ∷ []) (inl t) = whole at k (two_full k _ _ o) t.1 (go t.2)
  where
    go : A (a ∷ b ∷ []) → A (a ∷ in_front b n ∷ [])
    go (more x (more y none)) = more x (more (in_front_good y g) none)
right_good at k {n = n} o g (a ∷ b ∷ []) (inr s) = shut at k (a ∷ in_front b n ∷ []) s
right_good at k o g (a ∷ b ∷ c ∷ cs) v = missing_node

or_other : (k : Kind) → is_or k ≡ true → is_other k ≡ true
or_other (kind.TsImportEqualsDecl is_export is_type_only) h = not_true h
or_other _ h = refl

pub logical_good : {x n : Node} → G x → G n → G (in_front_logical x n)
logical_good {x} {n} g k =
    one_where (is_and (kind_of n) && is_or (kind_of x)) _ _
    (λ e. framed_good 2 (right_in_front (from_to (span_of x).lo (span_of n).hi) (kind_of x) n) (children_of x)
    (right_good _ (kind_of x) (or_other (kind_of x) (and_parts (is_and (kind_of n)) (is_or (kind_of x)) e).1) k (children_of x) (view g)))
    (in_front_good g k)

linked_good : {n : Node} → G n → G (linked n)
linked_good {n} g = whole (span_of n) (kind.OptChainExpr false) refl refl (more g none)

record CalleeGood (c : Callee) : Type 0 where
  callee : G c.0
  type_args : G c.1

missing_callee : CalleeGood (absent, absent)
missing_callee = record { callee = missing_node; type_args = missing_node }

instantiated_good : (b : Bool) {xs : List Node} → A xs → CalleeGood (instantiated (if b then Some xs else None))
instantiated_good true none = missing_callee
instantiated_good true (more a none) = missing_callee
instantiated_good true (more a (more b none)) = record { callee = a; type_args = b }
instantiated_good true (more a (more b (more c h))) = missing_callee
instantiated_good false h = missing_callee

-- its children, where it is known to be of a kind
of_kind : {n : Node} (k : Kind) → G n → kind_of n ≡ k → is_specifier k ≡ false → A (children_of n)
of_kind k g e s = inner g (subst (λ j. is_specifier j ≡ false) (sym e) s)

callee_by_good : (x : Node) (k : Kind) → kind_of x ≡ k → G x → CalleeGood (callee_by x k)
callee_by_good x kind.TsInstantiation e g = instantiated_good (length (children_of x) == 2) (of_kind kind.TsInstantiation g e refl)
callee_by_good x _ e g = record { callee = g; type_args = missing_node }

callee_good : (x : Node) → G x → CalleeGood (callee_of x)
callee_good x g = callee_by_good x (kind_of x) refl g

member_good : (x n : Node) (k : Kind) → kind_of n ≡ kind.MemberExpr → G x → G n → G (member_of x n k)
member_good x n kind.Super e g h = whole (from_to (span_of x).lo (span_of n).hi) kind.SuperPropExpr refl refl (set_all 0 x g (of_kind kind.MemberExpr h e refl))
member_good x n _ e g h = one_of (goes_on x) _ _ (linked_good (in_front_good g h)) (in_front_good g h)

call_good : (at : Span) (c : Callee) → CalleeGood c → {xs : List Node} → A xs → G (call_of at c xs)
call_good at (callee, type_args) c none = missing_node
call_good at (callee, type_args) c (more x none) = missing_node
call_good at (callee, type_args) c (more x (more y none)) = missing_node
call_good at (callee, type_args) c (more x (more y (more z none))) =
    let all = more c.callee (more y (more c.type_args none)) in
    one_of (goes_on callee) _ _ (linked_good (whole at kind.OptCall refl refl all)) (whole at kind.CallExpr refl refl all)
call_good at (callee, type_args) c (more x (more y (more z (more w h)))) = missing_node

tagged_good : (at : Span) (c : Callee) → CalleeGood c → {xs : List Node} → A xs → G (tagged_of at c xs)
tagged_good at (callee, type_args) c none = missing_node
tagged_good at (callee, type_args) c (more x none) = missing_node
tagged_good at (callee, type_args) c (more x (more y none)) = missing_node
tagged_good at (callee, type_args) c (more x (more y (more z none))) = whole at kind.TaggedTpl refl refl (more c.callee (more c.type_args (more z none)))
tagged_good at (callee, type_args) c (more x (more y (more z (more w h)))) = missing_node

optional_good : (at : Span) (x : Node) → G x → {xs : List Node} → A xs → G (optional_of at x xs)
optional_good at x g none = missing_node
optional_good at x g (more a none) = whole at (kind.OptChainExpr true) refl refl (more (in_front_good g a) none)
optional_good at x g (more a (more b h)) = missing_node

link_by_good : (x n : Node) (k : Kind) → kind_of n ≡ k → G x → G n → G (link_by x n k)
link_by_good x n kind.MemberExpr e g h = member_good x n (kind_of x) e g h
link_by_good x n kind.CallExpr e g h = frames 3 _ (of_kind kind.CallExpr h e refl) (λ c. call_good _ (callee_of x) (callee_good x g) c)
link_by_good x n kind.TaggedTpl e g h = frames 3 _ (of_kind kind.TaggedTpl h e refl) (λ c. tagged_good _ (callee_of x) (callee_good x g) c)
link_by_good x n (kind.OptChainExpr optional) e g h = frames 1 _ (of_kind (kind.OptChainExpr optional) h e refl) (λ c. optional_good _ x g c)
link_by_good x n _ e g h = in_front_good g h

pub link_good : {x n : Node} → G x → G n → G (in_front_link x n)
link_good {x} {n} g h = link_by_good x n (kind_of n) refl g h

new_good : (at : Span) {xs : List Node} → A xs → G (new_expr at xs)
new_good at none = missing_node
new_good at (more a none) = missing_node
new_good at (more a (more b none)) = missing_node
new_good at (more a (more b (more c none))) = whole at kind.NewExpr refl refl (more a (more c (more b none)))
new_good at (more a (more b (more c (more d h)))) = missing_node

pub construction_good : (at : Span) {xs : List Node} → A xs → G (construction at xs)
construction_good at {xs} h = one_of (length xs == 0) _ _ (whole at (kind.MetaPropExpr NewTarget) refl refl none) (frames 3 (new_expr at) h (λ k. new_good at k))

pub template_good : (at : Span) {xs : List Node} → A xs → G (template at xs)
template_good at h = whole at kind.Tpl refl refl (more (list_of (filter_all is_substitution h)) (more (list_of (filter_all is_text_part h)) none))
