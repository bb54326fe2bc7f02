-- Names of trees that tell their scopes apart: what is no name of a variable has the empty context, and nothing that is bound is `this`.
use Rattle.std.proofs.Common.{◌≡◌, ℕ, suc, ◌-◌, Bool, true, false, ◌&&◌, ◌||◌, List, [], ◌∷◌, map, refl, sym, ap, ◌∙◌, subst, eq-eqb, bytes_eq, codes, slice_get, Some}
use Rattle.std.specs.List.{All, list_any}
use Rattle.std.proofs.lemmas.List.Elements.{All-append, All-cons, All-head, All-nil, All-tail}
use Rattle.ecma_kind.specs.declared.kind.Kind.{Kind}
use Rattle.ecma_kind.specs.declared.kind.Kind.TheVariants as kind
use Rattle.ecma_kind.specs.declared.span.Span.{Span}
use Rattle.ecma_tree.specs.declared.node.Node.{Node, Node-F, ind-Node, out-Node, roll-Node}
use Rattle.ecma_tree.specs.declared.node.Node.TheViews.{out-roll-Node}
use Rattle.ecma_scope.specs.declared.role.Role.{Role}
use Rattle.ecma_scope.specs.Resolved.{context_count, is_name, taken}
use Rattle.ecma_scope.specs.Scopes.{role_in}
use Rattle.ecma_hygiene.specs.declared.sight.Sight.{Sight}
use Rattle.ecma_hygiene.specs.Ids.{Id, declares, same_id}
use Rattle.ecma_hygiene.specs.Laws.{is_seen}
use Rattle.ecma_hygiene.specs.Sights.{Around, around_child, nowhere, sight_by, sight_here, sights, sights_at}
use Rattle.ecma_hygiene.specs.Texts.{is_bound}
use Rattle.ecma_hygiene.specs.Walks.{gathered_from}
use Rattle.ecma_hygiene.proofs.Telling.{and-both, and-left, or-first, or-second, true-false}
use Rattle.ecma_hygiene.proofs.Walking.{gathered-out}
use Rattle.ecma_hygiene_scopes.specs.Stops.{Stop, stops_at, stops_from}
use Rattle.ecma_hygiene_scopes.proofs.Membership.{id-same}
use Rattle.ecma_hygiene_scopes.proofs.Stopping.{All-first, All-second, stop-here, stops-below}
use Rattle.ecma_hygiene_runs.specs.FinalTexts.{all_named, is_outer}
use Rattle.ecma_hygiene_runs.specs.OuterNames.{has_outer_names_at, outer_step}
use Rattle.ecma_strip.specs.Staying.{is_this_ident}
use Rattle.ecma_hygiene_scopes.specs.Seats.{Seat, seat_here, seats_at}
use Rattle.ecma_strip_scopes.specs.Apart.{IsOther as IsOtherSeat}
use Rattle.ecma_pipeline_runs.proofs.FullParts.{is_foreign, full_by, is_full}
use Rattle.ecma_pipeline_runs.proofs.Nodes.{test-below}
use Rattle.ecma_pipeline_runs.proofs.Plainness.{full-lowered}
use Rattle.ecma_tree.proofs.Layers.{from_leaves_out}

-- ---- contexts

-- what is no name of a variable has the empty context
abbrev pub IsEmpty : Stop → Type 0
IsEmpty stop = (sym : List ℕ) (ctxt : ℕ) (optional : Bool) → (out-Node stop.node).kind ≡ kind.Ident sym ctxt optional → is_name stop.around.role ≡ true → ctxt ≡ 0

outer-by : (k : Kind) (b : Bool) → ((sym : List ℕ) (ctxt : ℕ) (optional : Bool) → k ≡ kind.Ident sym ctxt optional → b ≡ true → ctxt ≡ 0) → is_outer b k ≡ true
outer-by (kind.Ident s c o) true h = eq-eqb c 0 (h s c o refl refl)
outer-by (kind.Ident s c o) false h = refl
outer-by _ true h = refl
outer-by _ false h = refl

abbrev Outer : Node → Type 0
Outer n = (a : Around) (left : ℕ) → All IsEmpty (stops_at n a left) → has_outer_names_at n a.role ≡ true

abbrev AllOuter : List Node → Type 0
AllOuter ns = (arounds : ℕ → Around) (roles : ℕ → Role) (i left : ℕ) → ((j : ℕ) → (arounds j).role ≡ roles j) → All IsEmpty (stops_from arounds i ns (map stops_at ns) left) → all_named roles i (map has_outer_names_at ns) ≡ true

all-outer : (ns : List ((n : Node) × Outer n)) → AllOuter (map (λ e. e.0) ns)
all-outer [] arounds roles i left same h = refl
all-outer (n ∷ ns) arounds roles i left same h =
    let others : List Node = map (λ e. e.0) ns in
    let less : ℕ = left - context_count n.0 (arounds i).role in
    let rest : List Stop = stops_from arounds (suc i) others (map stops_at others) less in
    and-both (has_outer_names_at n.0 (roles i)) (all_named roles (suc i) (map has_outer_names_at others))
    (ap (has_outer_names_at n.0) (sym (same i)) ∙ n.1 (arounds i) left (All-first IsEmpty (stops_at n.0 (arounds i) left) rest h)) (all-outer ns arounds roles (suc i) less same (All-second IsEmpty (stops_at n.0 (arounds i) left) rest h))

layer-outer : (n : Node) → AllOuter (out-Node n).children → Outer n
layer-outer n children a left h =
    ap (λ f. f a.role) (from_leaves_out (Role → Bool) outer_step n)
    ∙ and-both (is_outer (is_name a.role) (out-Node n).kind) (all_named (role_in a.role n) 0 (map has_outer_names_at (out-Node n).children)) (outer-by (out-Node n).kind (is_name a.role) (stop-here IsEmpty n a left h))
    (children (around_child a n) (role_in a.role n) 0 (left - taken a.role n) (λ j. refl) (stops-below IsEmpty n a left h))

pub outer : (n : Node) → Outer n
outer = ind-Node Outer (λ x y is.
    layer-outer (roll-Node x) (subst AllOuter (ap (λ (z : Node-F Node). z.children) is ∙ sym (ap (λ (z : Node-F Node). z.children) (out-roll-Node x))) (all-outer y.children)))

-- ---- texts

abbrev IsOther : Sight → Type 0
IsOther x = bytes_eq x.id.0 (codes "this") ≡ false

sight-other : (named declared : Bool) (span : Span) (k : Kind) → is_foreign k ≡ false → All IsOther (sight_by named declared span k)
sight-other false declared span (kind.Ident s c o) low = All-cons IsOther _ [] low (All-nil IsOther)
sight-other true declared span (kind.Ident s c o) low = All-nil IsOther
sight-other false declared span _ low = All-nil IsOther
sight-other true declared span _ low = All-nil IsOther

abbrev Others : Node → Type 0
Others n = (a : Around) → is_full n ≡ true → All IsOther (sights_at n a)

all-others : (ns : List ((n : Node) × Others n)) (arounds : ℕ → Around) (i : ℕ) → ((j : ℕ) (c : Node) → slice_get (map (λ e. e.0) ns) j ≡ Some c → is_full c ≡ true) → All IsOther (gathered_from Around Sight arounds i (map sights_at (map (λ e. e.0) ns)))
all-others [] arounds i each = All-nil IsOther
all-others (n ∷ ns) arounds i each =
    All-append IsOther (sights_at n.0 (arounds i)) (gathered_from Around Sight arounds (suc i) (map sights_at (map (λ e. e.0) ns))) (n.1 (arounds i) (each 0 n.0 refl)) (all-others ns arounds (suc i) (λ j c at. each (suc j) c at))

layer-others : (n : Node) → ((arounds : ℕ → Around) (i : ℕ) → ((j : ℕ) (c : Node) → slice_get (out-Node n).children j ≡ Some c → is_full c ≡ true) → All IsOther (gathered_from Around Sight arounds i (map sights_at (out-Node n).children))) → Others n
layer-others n children a full =
    subst (All IsOther) (sym (gathered-out Around Sight sight_here around_child n a))
    (All-append IsOther (sight_here a n) (gathered_from Around Sight (around_child a n) 0 (map sights_at (out-Node n).children)) (sight-other (is_name a.role) (list_any declares a.soughts) (out-Node n).span (out-Node n).kind (full-lowered n full))
    (children (around_child a n) 0 (test-below full_by n full)))

others : (n : Node) → Others n
others = ind-Node Others (λ x y is.
    layer-others (roll-Node x) (subst (λ (cs : List Node). (arounds : ℕ → Around) (i : ℕ) → ((j : ℕ) (c : Node) → slice_get cs j ≡ Some c → is_full c ≡ true) → All IsOther (gathered_from Around Sight arounds i (map sights_at cs)))
    (ap (λ (z : Node-F Node). z.children) is ∙ sym (ap (λ (z : Node-F Node). z.children) (out-roll-Node x))) (all-others y.children)))

bound-by : (xs : List Sight) (id : Id) → All IsOther xs → is_bound xs id ≡ true → bytes_eq id.0 (codes "this") ≡ false
bound-by [] id all h = absurd (true-false h refl)
bound-by (x ∷ xs) id all h = by (same_id x.id id && x.declares) refl h (bound-by xs id (All-tail IsOther x xs all))
  where
    by : (b : Bool) → (same_id x.id id && x.declares) ≡ b → (b || is_bound xs id) ≡ true → (is_bound xs id ≡ true → bytes_eq id.0 (codes "this") ≡ false) → bytes_eq id.0 (codes "this") ≡ false
    by true is h rec = ap (λ (z : Id). bytes_eq z.0 (codes "this")) (sym (id-same x.id id (and-left (same_id x.id id) x.declares is))) ∙ All-head IsOther x xs all
    by false is h rec = rec h

pub bound-other : (tree : Node) (id : Id) → is_full tree ≡ true → is_bound (sights tree) id ≡ true → bytes_eq id.0 (codes "this") ≡ false
bound-other tree id full h = bound-by (sights tree) id (others tree nowhere full) h

bound-seen-by : (xs : List Sight) (id : Id) → is_bound xs id ≡ true → is_seen xs id ≡ true
bound-seen-by [] id h = absurd (true-false h refl)
bound-seen-by (x ∷ xs) id h = by (same_id x.id id && x.declares) refl h (bound-seen-by xs id)
  where
    by : (b : Bool) → (same_id x.id id && x.declares) ≡ b → (b || is_bound xs id) ≡ true → (is_bound xs id ≡ true → is_seen xs id ≡ true) → is_seen (x ∷ xs) id ≡ true
    by true is h rec = or-first (same_id x.id id) (is_seen xs id) (and-left (same_id x.id id) x.declares is)
    by false is h rec = or-second (same_id x.id id) (is_seen xs id) (rec h)

pub bound-seen : (tree : Node) (id : Id) → is_bound (sights tree) id ≡ true → is_seen (sights tree) id ≡ true
bound-seen tree id h = bound-seen-by (sights tree) id h

-- ---- seats

abbrev SeatsOther : Node → Type 0
SeatsOther n = (r : Role) → is_full n ≡ true → All (IsOtherSeat true) (seats_at n r)

foreign-ident : (k : Kind) → is_foreign k ≡ false → is_this_ident k ≡ false
foreign-ident (kind.Ident s c o) low = low
foreign-ident _ low = refl

seats-others : (ns : List ((n : Node) × SeatsOther n)) (roles : ℕ → Role) (i : ℕ) → ((j : ℕ) (c : Node) → slice_get (map (λ e. e.0) ns) j ≡ Some c → is_full c ≡ true)
    → All (IsOtherSeat true) (gathered_from Role Seat roles i (map seats_at (map (λ e. e.0) ns)))
seats-others [] roles i each = All-nil (IsOtherSeat true)
seats-others (n ∷ ns) roles i each =
    All-append (IsOtherSeat true) (seats_at n.0 (roles i)) (gathered_from Role Seat roles (suc i) (map seats_at (map (λ e. e.0) ns))) (n.1 (roles i) (each 0 n.0 refl)) (seats-others ns roles (suc i) (λ j c at. each (suc j) c at))

layer-seats : (n : Node)
    → ((roles : ℕ → Role) (i : ℕ) → ((j : ℕ) (c : Node) → slice_get (out-Node n).children j ≡ Some c → is_full c ≡ true) → All (IsOtherSeat true) (gathered_from Role Seat roles i (map seats_at (out-Node n).children))) → SeatsOther n
layer-seats n children r full =
    subst (All (IsOtherSeat true)) (sym (gathered-out Role Seat seat_here role_in n r))
    (All-cons (IsOtherSeat true) (record { role = r; node = n }) (gathered_from Role Seat (role_in r n) 0 (map seats_at (out-Node n).children)) (foreign-ident (out-Node n).kind (full-lowered n full))
    (children (role_in r n) 0 (test-below full_by n full)))

-- no identifier is `this`
pub seats-other : (n : Node) → SeatsOther n
seats-other = ind-Node SeatsOther (λ x y is.
    layer-seats (roll-Node x) (subst (λ (cs : List Node). (roles : ℕ → Role) (i : ℕ) → ((j : ℕ) (c : Node) → slice_get cs j ≡ Some c → is_full c ≡ true) → All (IsOtherSeat true) (gathered_from Role Seat roles i (map seats_at cs)))
    (ap (λ (z : Node-F Node). z.children) is ∙ sym (ap (λ (z : Node-F Node). z.children) (out-roll-Node x))) (seats-others y.children)))
