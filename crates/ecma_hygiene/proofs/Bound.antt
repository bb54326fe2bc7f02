-- What a scope declares is declared by identifiers that stand in the node that opens it.
use Rattle.std.proofs.Common.{◌≡◌, ◌⊎◌, inl, inr, ℕ, suc, Bool, true, false, ◌&&◌, ◌||◌, not, cond, List, [], ◌∷◌, ◌++◌, map, filter, Option, Some, None, refl, sym, ap, ◌∙◌, subst, bytes_eq, nat_eq, eq-eqb, append_assoc}
use Rattle.std.specs.List.{list_any}
use Rattle.std.proofs.lemmas.Bool.{eqb-true}
use Rattle.std.proofs.lemmas.List.Folds.{list_any-append}
use Rattle.ecma_kind.specs.declared.kind.Kind.{Kind}
use Rattle.ecma_kind.specs.declared.kind.Kind.TheVariants as kind
use Rattle.ecma_kind.specs.declared.span.Span.{Span}
use Rattle.ecma_tree.specs.declared.node.Node.{Node, Node-F, ind-Node, out-Node, roll-Node}
use Rattle.ecma_tree.specs.declared.node.Node.TheViews.{out-roll-Node}
use Rattle.ecma_scope.specs.declared.form.Sought.{Sought}
use Rattle.ecma_scope.specs.declared.role.Role.{Role}
use Rattle.ecma_scope.specs.declared.role.Role.TheVariants as role
use Rattle.ecma_scope.specs.Declarations.{holds_vars, own_part, sought_in}
use Rattle.ecma_scope.specs.Resolved.{is_name}
use Rattle.ecma_scope.specs.Scopes.{is_ambient, opens, role_in}
use Rattle.ecma_hygiene.specs.declared.sight.Sight.{Sight}
use Rattle.ecma_hygiene.specs.Ids.{Id, contexts_of, declared_by, declared_here, declared_ids, declares, found, has_context, innermost, is_body_block, is_name_part, is_own, own_ids, same_id, scope_soughts, soughts_in, var_sought}
use Rattle.ecma_hygiene.specs.Sights.{Around, around_child, inner_soughts, own_scope, sight_by, sight_here, sights_at}
use Rattle.ecma_hygiene.specs.Texts.{is_bound}
use Rattle.ecma_hygiene.specs.Walks.{gathered_from}
use Rattle.ecma_hygiene.proofs.Roles.{seeks_name, sought-no-name}
use Rattle.ecma_hygiene.proofs.Telling.{and-both, and-left, has-id, or-first, or-second, true-false}
use Rattle.ecma_hygiene.proofs.Walking.{append-none, gathered-out}

or-cases : (a b : Bool) → (a || b) ≡ true → (a ≡ true) ⊎ (b ≡ true)
or-cases true b h = inl refl
or-cases false b h = inr h

-- among these and others
pub record Within (ss ts : List Sought) : Type 0 where
  pub before : List Sought
  pub behind : List Sought
  pub are : ts ≡ before ++ (ss ++ behind)

soughts-append : (xs ys : List Sought) (n : Node) (i : ℕ) → soughts_in (xs ++ ys) n i ≡ soughts_in xs n i ++ soughts_in ys n i
soughts-append [] ys n i = refl
soughts-append (x ∷ xs) ys n i = ap (λ (z : List Sought). found (sought_in x n i) ++ z) (soughts-append xs ys n i) ∙ sym (append_assoc (found (sought_in x n i)) (soughts_in xs n i) (soughts_in ys n i))

within-child : (ss ts : List Sought) (n : Node) (i : ℕ) → Within ss ts → Within (soughts_in ss n i) (soughts_in ts n i)
within-child ss ts n i w = record {
  before = soughts_in w.before n i;
  behind = soughts_in w.behind n i;
  are = ap (λ (z : List Sought). soughts_in z n i) w.are ∙ soughts-append w.before (ss ++ w.behind) n i ∙ ap (λ (z : List Sought). soughts_in w.before n i ++ z) (soughts-append ss w.behind n i);
}

within-inner : (opened : Bool) (ss ts own : List Sought) → Within ss ts → Within ss (inner_soughts opened ts own)
within-inner true ss ts own w = record {
  before = w.before;
  behind = w.behind ++ own;
  are = ap (λ (z : List Sought). z ++ own) w.are ∙ append_assoc w.before (ss ++ w.behind) own ∙ ap (λ (z : List Sought). w.before ++ z) (append_assoc ss w.behind own);
}
within-inner false ss ts own w = w

within-any : (f : Sought → Bool) (ss ts : List Sought) → Within ss ts → list_any f ss ≡ true → list_any f ts ≡ true
within-any f ss ts w h =
    ap (list_any f) w.are ∙ list_any-append f w.before (ss ++ w.behind)
    ∙ or-second (list_any f w.before) (list_any f (ss ++ w.behind)) (list_any-append f ss w.behind ∙ or-first (list_any f ss) (list_any f w.behind) h)

found-name : (o : Option Sought) → list_any declares (found o) ≡ true → seeks_name o ≡ true
found-name (Some s) h = elim (or-cases (declares s) false h) [ inl d ↦ and-left (is_name_part s.part) s.stays d | inr none ↦ absurd (true-false none refl) ]
found-name None h = h

child-no-name : (ss : List Sought) (r : Role) (n : Node) (i : ℕ) → list_any declares (soughts_in ss n i) ≡ true → is_name (role_in r n i) ≡ false
child-no-name [] r n i h = absurd (true-false h refl)
child-no-name (s ∷ ss) r n i h =
    elim (or-cases (list_any declares (found (sought_in s n i))) (list_any declares (soughts_in ss n i)) (sym (list_any-append declares (found (sought_in s n i)) (soughts_in ss n i)) ∙ h)) [
      | inl here ↦ sought-no-name s r n i (found-name (sought_in s n i) here)
      | inr later ↦ child-no-name ss r n i later
    ]

back : {x y : Bool} → x ≡ y → y ≡ x
back h = sym h

here-bound : (d e named : Bool) (span : Span) (k : Kind) (b : Id) → (d ≡ true → e ≡ true) → (d ≡ true → named ≡ false) → has-id b (declared_by d k) ≡ true → is_bound (sight_by named e span k) b ≡ true
here-bound true e named span (kind.Ident sym ctxt optional) b both other h =
    elim (or-cases (same_id (sym, ctxt) b) false h) [
      | inl same ↦ subst (λ (z : Bool). is_bound (sight_by z e span (kind.Ident sym ctxt optional)) b ≡ true) (back (other refl))
          (or-first (same_id (sym, ctxt) b && e) false (and-both (same_id (sym, ctxt) b) e same (both refl)))
      | inr none ↦ absurd (true-false none refl)
    ]
here-bound true e named span _ b both other h = absurd (true-false h refl)
here-bound false e named span k b both other h = absurd (true-false h refl)

-- what is declared in a node where this is looked for, and more
abbrev Bound : Node → Type 0
Bound n = (ss : List Sought) (s : Around) (b : Id) → Within ss s.soughts → (list_any declares ss ≡ true → is_name s.role ≡ false) → has-id b (declared_ids n ss) ≡ true → is_bound (sights_at n s) b ≡ true

abbrev BoundBelow : List Node → Type 0
BoundBelow ns = (n : Node) (ss : List Sought) (s : Around) (b : Id) (i : ℕ) → Within ss (inner_soughts (opens s.role n) s.soughts (scope_soughts s.role (out-Node n).kind))
    → has-id b (gathered_from (List Sought) Id (soughts_in ss n) i (map declared_ids ns)) ≡ true → is_bound (gathered_from Around Sight (around_child s n) i (map sights_at ns)) b ≡ true

bound-below : (ns : List ((n : Node) × Bound n)) → BoundBelow (map (λ e. e.0) ns)
bound-below [] n ss s b i w h = absurd (true-false h refl)
bound-below (x ∷ xs) n ss s b i w h =
    let rest : List Id = gathered_from (List Sought) Id (soughts_in ss n) (suc i) (map declared_ids (map (λ e. e.0) xs)) in
    let others : List Sight = gathered_from Around Sight (around_child s n) (suc i) (map sights_at (map (λ e. e.0) xs)) in
    list_any-append (λ (y : Sight). same_id y.id b && y.declares) (sights_at x.0 (around_child s n i)) others
    ∙ elim (or-cases (has-id b (declared_ids x.0 (soughts_in ss n i))) (has-id b rest) (sym (list_any-append (λ (y : Id). same_id y b) (declared_ids x.0 (soughts_in ss n i)) rest) ∙ h)) [
      | inl here ↦ or-first (is_bound (sights_at x.0 (around_child s n i)) b) (is_bound others b)
          (x.1 (soughts_in ss n i) (around_child s n i) b (within-child ss _ n i w) (child-no-name ss s.role n i) here)
      | inr later ↦ or-second (is_bound (sights_at x.0 (around_child s n i)) b) (is_bound others b) (bound-below xs n ss s b (suc i) w later)
    ]

layer-bound : (n : Node) → BoundBelow (out-Node n).children → Bound n
layer-bound n children ss s b w other h =
    let rest : List Id = gathered_from (List Sought) Id (soughts_in ss n) 0 (map declared_ids (out-Node n).children) in
    let others : List Sight = gathered_from Around Sight (around_child s n) 0 (map sights_at (out-Node n).children) in
    ap (λ (xs : List Sight). is_bound xs b) (gathered-out Around Sight sight_here around_child n s)
    ∙ list_any-append (λ (y : Sight). same_id y.id b && y.declares) (sight_here s n) others
    ∙ elim (or-cases (has-id b (declared_here ss n)) (has-id b rest)
    (sym (ap (has-id b) (gathered-out (List Sought) Id declared_here soughts_in n ss) ∙ list_any-append (λ (y : Id). same_id y b) (declared_here ss n) rest) ∙ h)) [
      | inl here ↦ or-first (is_bound (sight_here s n) b) (is_bound others b)
          (here-bound (list_any declares ss) (list_any declares s.soughts) (is_name s.role) (out-Node n).span (out-Node n).kind b (within-any declares ss s.soughts w) other here)
      | inr later ↦ or-second (is_bound (sight_here s n) b) (is_bound others b)
          (children n ss s b 0 (within-inner (opens s.role n) ss s.soughts (scope_soughts s.role (out-Node n).kind) w) later)
    ]

bound : (n : Node) → Bound n
bound = ind-Node Bound (λ x y is.
    layer-bound (roll-Node x) (subst BoundBelow (ap (λ (z : Node-F Node). z.children) is ∙ sym (ap (λ (z : Node-F Node). z.children) (out-roll-Node x))) (bound-below y.children)))

each-bound : (ns : List Node) → BoundBelow ns
each-bound [] n ss s b i w h = absurd (true-false h refl)
each-bound (x ∷ xs) n ss s b i w h =
    let rest : List Id = gathered_from (List Sought) Id (soughts_in ss n) (suc i) (map declared_ids xs) in
    let others : List Sight = gathered_from Around Sight (around_child s n) (suc i) (map sights_at xs) in
    list_any-append (λ (y : Sight). same_id y.id b && y.declares) (sights_at x (around_child s n i)) others
    ∙ elim (or-cases (has-id b (declared_ids x (soughts_in ss n i))) (has-id b rest) (sym (list_any-append (λ (y : Id). same_id y b) (declared_ids x (soughts_in ss n i)) rest) ∙ h)) [
      | inl here ↦ or-first (is_bound (sights_at x (around_child s n i)) b) (is_bound others b)
          (bound x (soughts_in ss n i) (around_child s n i) b (within-child ss _ n i w) (child-no-name ss s.role n i) here)
      | inr later ↦ or-second (is_bound (sights_at x (around_child s n i)) b) (is_bound others b) (each-bound xs n ss s b (suc i) w later)
    ]

-- ---- the ids of a scope

part-none : (r : Role) → is_name_part (own_part r) ≡ false
part-none role.Default = refl
part-none _ = refl

var-none : (b stays : Bool) → list_any declares (var_sought b stays) ≡ false
var-none true stays = refl
var-none false stays = refl

scope-none : (r : Role) (k : Kind) → list_any declares (scope_soughts r k) ≡ false
scope-none r k = (λ j. (part-none r j && not (is_ambient r)) || var-none (holds_vars r k) (not (is_ambient r)) j)

filter-step : (p : Bool) (b x : Id) (ids rest : List Id) → (has-id b ids ≡ true → has-id b rest ≡ true) → has-id b (cond p (x ∷ ids) ids) ≡ true → has-id b (x ∷ rest) ≡ true
filter-step true b x ids rest sub h = elim (or-cases (same_id x b) (has-id b ids) h) [ inl same ↦ or-first (same_id x b) (has-id b rest) same | inr there ↦ or-second (same_id x b) (has-id b rest) (sub there) ]
filter-step false b x ids rest sub h = or-second (same_id x b) (has-id b rest) (sub h)

filter-sub : (f : Id → Bool) (b : Id) (ids : List Id) → has-id b (filter f ids) ≡ true → has-id b ids ≡ true
filter-sub f b [] h = h
filter-sub f b (x ∷ xs) h = filter-step (f x) b x (filter f xs) xs (filter-sub f b xs) h

pub nat-turn : (a b : ℕ) → nat_eq a b ≡ true → nat_eq b a ≡ true
nat-turn a b h = eq-eqb b a (sym (eqb-true a b h))

contexts-step : (t : Bool) (b x : Id) (ctxts : List ℕ) (rest : List Id) → bytes_eq x.0 b.0 ≡ t → (has_context b.1 ctxts ≡ true → has-id b rest ≡ true) → has_context b.1 (cond t (x.1 ∷ []) [] ++ ctxts) ≡ true
    → has-id b (x ∷ rest) ≡ true
contexts-step true b x ctxts rest is sub h = elim (or-cases (nat_eq b.1 x.1) (has_context b.1 ctxts) h) [
  | inl same ↦ or-first (same_id x b) (has-id b rest) (and-both (bytes_eq x.0 b.0) (nat_eq x.1 b.1) is (nat-turn b.1 x.1 same))
  | inr there ↦ or-second (same_id x b) (has-id b rest) (sub there)
]
contexts-step false b x ctxts rest is sub h = or-second (same_id x b) (has-id b rest) (sub h)

contexts-id : (ids : List Id) (b : Id) → has_context b.1 (contexts_of ids b.0) ≡ true → has-id b ids ≡ true
contexts-id [] b h = h
contexts-id (x ∷ xs) b h = contexts-step (bytes_eq x.0 b.0) b x (contexts_of xs b.0) xs refl (contexts-id xs b) h

inner-own : (opened : Bool) (ts own : List Sought) → opened ≡ true → Within own (inner_soughts opened ts own)
inner-own true ts own is = record { before = ts; behind = []; are = ap (λ (z : List Sought). ts ++ z) (sym (append-none own)) }
inner-own false ts own is = absurd (true-false is refl)

-- so the identifiers that declare them stand there
pub own-bound : (n : Node) (s : Around) (b : Id) → opens s.role n ≡ true → has_context b.1 (own_scope s.role s.scopes n b.0) ≡ true → is_bound (sights_at n s) b ≡ true
own-bound n s b opened h =
    let own : List Sought = scope_soughts s.role (out-Node n).kind in
    let rest : List Id = gathered_from (List Sought) Id (soughts_in own n) 0 (map declared_ids (out-Node n).children) in
    let others : List Sight = gathered_from Around Sight (around_child s n) 0 (map sights_at (out-Node n).children) in
    let all : has-id b (declared_ids n own) ≡ true = filter-sub (is_own (is_body_block s.role (out-Node n).kind) (innermost s.scopes)) b (declared_ids n own) (contexts-id (own_ids s.role (innermost s.scopes) n) b h) in
    let later : has-id b rest ≡ true =
    sym (ap (has-id b) (gathered-out (List Sought) Id declared_here soughts_in n own) ∙ ap (λ (d : Bool). has-id b (declared_by d (out-Node n).kind ++ rest)) (scope-none s.role (out-Node n).kind)) ∙ all in
    ap (λ (xs : List Sight). is_bound xs b) (gathered-out Around Sight sight_here around_child n s)
    ∙ list_any-append (λ (y : Sight). same_id y.id b && y.declares) (sight_here s n) others
    ∙ or-second (is_bound (sight_here s n) b) (is_bound others b) (each-bound (out-Node n).children n own s b 0 (inner-own (opens s.role n) s.soughts own opened) later)
