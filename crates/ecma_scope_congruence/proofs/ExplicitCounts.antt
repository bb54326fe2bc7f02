-- The tree in which parentheses are nodes, with its contexts.
use Rattle.std.proofs.Common.{◌≡◌, ◌∙◌, inl, inr, ℕ, zero, suc, ◌+◌, ◌&&◌, Bool, true, false, List, [], ◌∷◌, map, not, cond, refl, sym, ap, ap₂, subst, arith, if◌then◌else◌}
use Rattle.std.specs.Prelude.{◌||◌}
use Rattle.ecma_kind.specs.declared.kind.Kind.{Kind}
use Rattle.ecma_kind.specs.declared.kind.Kind.TheVariants as kind
use Rattle.ecma_kind.specs.declared.span.Span.{Span}
use Rattle.ecma_tree.specs.declared.node.Node.{Node, out-Node}
use Rattle.ecma_tree.specs.Nodes.{dummy_span, node_of}
use Rattle.ecma_tree.specs.Sorted.{is_absent}
use Rattle.ecma_print.specs.declared.place.Spot.{Spot}
use Rattle.ecma_print.specs.Laid.{Laid}
use Rattle.ecma_print.specs.Layout.{laid}
use Rattle.ecma_print.specs.Levels.{in_parentheses}
use Rattle.ecma_print.specs.Places.{free}
use Rattle.ecma_print.proofs.LaidOut.{laid_kind}
use Rattle.ecma_print.specs.Explicit.{in_spots, parenthesized, stood}
use Rattle.ecma_print.specs.Spots.{first_spots, further_spot}
use Rattle.ecma_print_parentheses.proofs.Asking.{AllFit, Fits, first_fit, further_fits, said_in_spot}
use Rattle.ecma_print_parentheses.proofs.Spotted.{bare', spotted, stands_in}
use Rattle.ecma_scope.specs.declared.role.Role.{Role}
use Rattle.ecma_scope.specs.declared.role.Role.TheVariants as role
use Rattle.ecma_scope.specs.Resolved.{context_count, count_step, counted, taken}
use Rattle.ecma_scope.specs.Scopes.{is_root, is_there, opens, opens_by, role_by, role_in}
use Rattle.ecma_scope_congruence.specs.Bodies.{AllHaveBodies, HasBodies, more, none, with_bodies}
use Rattle.ecma_scope_congruence.proofs.ExplicitNames.{behind, behind-zero, children_of_node, kind_of_node, standing}
use Rattle.ecma_scope_congruence.proofs.Looking.{spot_at}
use Rattle.ecma_scope_congruence.proofs.Roles.{Unseen, blind_opens, blind_role, children_unseen, parentheses_open_none, parentheses_role}
use Rattle.ecma_tree.proofs.Layers.{from_leaves-roll}

-- which children are there

absent_open : (k : Kind) (children : List Laid) (spot : Spot) → Fits spot → is_absent k ≡ true → in_parentheses k children spot ≡ false
absent_open kind.Absent children spot fits h = ap (λ b. b || false) fits
absent_open _ children spot fits h = absurd (cc)

there_in_spot : (n : Node) (spot : Spot) → Fits spot → is_absent (out-Node (standing n spot)).kind ≡ is_absent (out-Node n).kind
there_in_spot n spot fits =
    ap is_absent (sym (laid_kind (standing n spot))) ∙ said_in_spot is_absent refl spot (λ k children h. absent_open k children spot fits h) n ∙ ap is_absent (laid_kind n)

there_kept : (ns : List Node) (spots : List Spot) (further : Spot) → AllFit spots → Fits further → (i : ℕ) → is_there (in_spots (map stood ns) spots further) i ≡ is_there ns i
there_kept [] spots further fit fits i = refl
there_kept (n ∷ ns) [] further fit fits zero = ap not (there_in_spot n further fits)
there_kept (n ∷ ns) [] further fit fits (suc i) = there_kept ns [] further fit fits i
there_kept (n ∷ ns) (spot ∷ spots) further fit fits zero = ap not (there_in_spot n spot fit.0)
there_kept (n ∷ ns) (spot ∷ spots) further fit fits (suc i) = there_kept ns spots further fit.1 fits i

there_spotted : (k : Kind) (ns : List Node) (spot : Spot) → Fits spot → (i : ℕ) → is_there (spotted k ns spot) i ≡ is_there ns i
there_spotted k ns spot fits = there_kept ns (first_spots k (map laid ns) spot) (further_spot k spot) (first_fit k (map laid ns) spot fits) (further_fits k spot fits)

-- roles and scopes of a node by its parts

pub role_of_node : (r : Role) (at : Span) (k : Kind) (ns : List Node) (i : ℕ) → role_in r (node_of at k ns) i ≡ role_by r k (is_there ns 1) i
role_of_node r at k ns i = ap₂ (λ kind (children : List Node). role_by r kind (is_there children 1) i) (kind_of_node at k ns) (children_of_node at k ns)

pub opens_of_node : (r : Role) (at : Span) (k : Kind) (ns : List Node) → opens r (node_of at k ns) ≡ opens_by r k (is_there ns 0)
opens_of_node r at k ns = ap₂ (λ kind (children : List Node). opens_by r kind (is_there children 0)) (kind_of_node at k ns) (children_of_node at k ns)

pub taken_of_node : (r : Role) (at : Span) (k : Kind) (ns : List Node) → taken r (node_of at k ns) ≡ cond (opens_by r k (is_there ns 0) && not (is_root r)) 1 0
taken_of_node r at k ns = ap (λ o. cond (o && not (is_root r)) 1 0) (opens_of_node r at k ns)

pub role_spotted : (r : Role) (at : Span) (k : Kind) (ns : List Node) (spot : Spot) → Fits spot → (i : ℕ) → role_in r (bare' at k ns spot) i ≡ role_in r (node_of at k ns) i
role_spotted r at k ns spot fits i =
    role_of_node r at k (spotted k ns spot) i ∙ ap (λ sourced. role_by r k sourced i) (there_spotted k ns spot fits 1) ∙ sym (role_of_node r at k ns i)

pub opens_spotted : (r : Role) (at : Span) (k : Kind) (ns : List Node) (spot : Spot) → Fits spot → opens r (bare' at k ns spot) ≡ opens r (node_of at k ns)
opens_spotted r at k ns spot fits = opens_of_node r at k (spotted k ns spot) ∙ ap (opens_by r k) (there_spotted k ns spot fits 0) ∙ sym (opens_of_node r at k ns)

pub taken_spotted : (r : Role) (at : Span) (k : Kind) (ns : List Node) (spot : Spot) → Fits spot → taken r (bare' at k ns spot) ≡ taken r (node_of at k ns)
taken_spotted r at k ns spot fits = ap (λ o. cond (o && not (is_root r)) 1 0) (opens_spotted r at k ns spot fits)

pub unseen_children : (r : Role) (at : Span) (k : Kind) (ns : List Node) (spot : Spot) → Unseen r spot → (j : ℕ)
    → Unseen (role_in r (node_of at k ns) (behind 0 j)) (spot_at (first_spots k (map laid ns) spot) (further_spot k spot) j)
unseen_children r at k ns spot unseen j =
    subst (λ i. Unseen (role_in r (node_of at k ns) i) (spot_at (first_spots k (map laid ns) spot) (further_spot k spot) j)) (sym (behind-zero j))
    (subst (λ s. Unseen s (spot_at (first_spots k (map laid ns) spot) (further_spot k spot) j)) (sym (role_of_node r at k ns j)) (children_unseen r k (is_there ns 1) (map laid ns) spot j unseen))

-- how many contexts

count_of_node : (at : Span) (k : Kind) (ns : List Node) (r : Role) → context_count (node_of at k ns) r ≡ taken r (node_of at k ns) + counted (role_in r (node_of at k ns)) 0 (map context_count ns)
count_of_node at k ns r = ap (λ f. f r) (from_leaves-roll (Role → ℕ) count_step (record { span = at; kind = k; children = ns }))

one_counted : (a : ℕ) → 0 + (a + 0) ≡ a
one_counted a = omega arith

counted_in_parentheses : (m : Node) (r : Role) → context_count (parenthesized m) r ≡ context_count m role.Plain
counted_in_parentheses m r =
    count_of_node dummy_span kind.ParenExpr (m ∷ []) r
    ∙ ap₂ (λ here s. here + (context_count m s + 0))
    (taken_of_node r dummy_span kind.ParenExpr (m ∷ []) ∙ ap (λ o. cond (o && not (is_root r)) 1 0) (parentheses_open_none r (is_there (m ∷ []) 0)))
    (role_of_node r dummy_span kind.ParenExpr (m ∷ []) 0 ∙ parentheses_role r (is_there (m ∷ []) 1) 0)
    ∙ one_counted (context_count m role.Plain)

counted_alike : (f g : ℕ → Role) → ((i : ℕ) → f i ≡ g i) → (i : ℕ) (counts : List (Role → ℕ)) → counted f i counts ≡ counted g i counts
counted_alike f g same i [] = refl
counted_alike f g same i (count ∷ counts) = ap₂ (λ a b. a + b) (ap count (same i)) (counted_alike f g same (suc i) counts)

-- where parentheses stand, a node does not look at its role
count_plainly : (at : Span) (k : Kind) (ns : List Node) (r : Role) (spot : Spot) → Unseen r spot → in_parentheses k (map laid ns) spot ≡ true → context_count (node_of at k ns) role.Plain ≡ context_count (node_of at k ns) r
count_plainly at k ns r spot (inl plain) closed = ap (context_count (node_of at k ns)) (sym plain)
count_plainly at k ns r spot (inr blind) closed =
    let b = blind k (map laid ns) closed in
    let closed_at : (s : Role) → taken s (node_of at k ns) ≡ 0 = λ s. taken_of_node s at k ns ∙ ap (λ o. cond (o && not (is_root s)) 1 0) (blind_opens s k (is_there ns 0) b) in
    let plain_at : (s : Role) (i : ℕ) → role_in s (node_of at k ns) i ≡ role.Plain = λ s i. role_of_node s at k ns i ∙ blind_role s k (is_there ns 1) i b in
    count_of_node at k ns role.Plain
    ∙ ap₂ (λ x y. x + y) (closed_at role.Plain ∙ sym (closed_at r))
    (counted_alike (role_in role.Plain (node_of at k ns)) (role_in r (node_of at k ns)) (λ i. plain_at role.Plain i ∙ sym (plain_at r i)) 0 (map context_count ns))
    ∙ sym (count_of_node at k ns r)

count_by_cases : (at : Span) (k : Kind) (ns : List Node) (spot : Spot) (r : Role) → Unseen r spot → context_count (bare' at k ns spot) r ≡ context_count (node_of at k ns) r
    → context_count (bare' at k ns (free 0)) role.Plain ≡ context_count (node_of at k ns) role.Plain
    → (b : Bool) → in_parentheses k (map laid ns) spot ≡ b → context_count (if b then parenthesized (bare' at k ns (free 0)) else bare' at k ns spot) r ≡ context_count (node_of at k ns) r
count_by_cases at k ns spot r unseen kept inner true closed = counted_in_parentheses (bare' at k ns (free 0)) r ∙ inner ∙ count_plainly at k ns r spot unseen closed
count_by_cases at k ns spot r unseen kept inner false bare_there = kept

count_layer : (at : Span) (k : Kind) (ns : List Node) (spot : Spot) → Fits spot → (r : Role)
    → counted (role_in r (node_of at k ns)) 0 (map context_count (spotted k ns spot)) ≡ counted (role_in r (node_of at k ns)) 0 (map context_count ns) → context_count (bare' at k ns spot) r ≡ context_count (node_of at k ns) r
count_layer at k ns spot fits r same =
    count_of_node at k (spotted k ns spot) r
    ∙ ap₂ (λ x y. x + y) (taken_spotted r at k ns spot fits)
    (counted_alike (role_in r (bare' at k ns spot)) (role_in r (node_of at k ns)) (role_spotted r at k ns spot fits) 0 (map context_count (spotted k ns spot)) ∙ same)
    ∙ sym (count_of_node at k ns r)

mutual
  pub count_kept : {n : Node} → HasBodies n → (spot : Spot) → Fits spot → (r : Role) → Unseen r spot → context_count (standing n spot) r ≡ context_count n r
  count_kept (with_bodies at k {ns} full all) spot fits r unseen =
      ap (λ n. context_count n r) (stands_in at k ns spot)
      ∙ count_by_cases at k ns spot r unseen
      (count_layer at k ns spot fits r (counts_kept all (first_spots k (map laid ns) spot) (further_spot k spot) (first_fit k (map laid ns) spot fits) (further_fits k spot fits) (role_in r (node_of at k ns)) 0 (unseen_children r at k ns spot unseen)))
      (count_layer at k ns (free 0) refl role.Plain
      (counts_kept all (first_spots k (map laid ns) (free 0)) (further_spot k (free 0)) (first_fit k (map laid ns) (free 0) refl) (further_fits k (free 0) refl) (role_in role.Plain (node_of at k ns)) 0 (unseen_children role.Plain at k ns (free 0) (inl refl))))
      (in_parentheses k (map laid ns) spot) refl

  counts_kept : {ns : List Node} → AllHaveBodies ns → (spots : List Spot) (further : Spot) → AllFit spots → Fits further → (f : ℕ → Role) (i : ℕ) → ((j : ℕ) → Unseen (f (behind i j)) (spot_at spots further j))
      → counted f i (map context_count (in_spots (map stood ns) spots further)) ≡ counted f i (map context_count ns)
  counts_kept none spots further fit fits f i unseen = refl
  counts_kept (more h hs) [] further fit fits f i unseen = ap₂ (λ x y. x + y) (count_kept h further fits (f i) (unseen 0)) (counts_kept hs [] further fit fits f (suc i) (λ j. unseen (suc j)))
  counts_kept (more h hs) (spot ∷ spots) further fit fits f i unseen = ap₂ (λ x y. x + y) (count_kept h spot fit.0 (f i) (unseen 0)) (counts_kept hs spots further fit.1 fits f (suc i) (λ j. unseen (suc j)))
