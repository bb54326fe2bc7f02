-- The same names are declared twice where parentheses are nodes.
use Rattle.std.proofs.Common.{◌≡◌, ◌∙◌, inl, inr, ℕ, suc, ◌&&◌, Bool, true, false, List, [], ◌∷◌, ◌++◌, map, not, cond, refl, sym, ap, ap₂, if◌then◌else◌}
use Rattle.std.specs.Prelude.{filter}
use Rattle.ecma_kind.specs.declared.kind.Kind.{Kind}
use Rattle.ecma_kind.specs.declared.kind.Kind.TheVariants as kind
use Rattle.ecma_kind.specs.declared.span.Span.{Span}
use Rattle.ecma_tree.specs.declared.node.Node.{Node, out-Node}
use Rattle.ecma_tree.specs.Nodes.{dummy_span, node_of}
use Rattle.ecma_print.specs.declared.place.Spot.{Spot}
use Rattle.ecma_print.specs.Layout.{laid}
use Rattle.ecma_print.specs.Levels.{in_parentheses}
use Rattle.ecma_print.specs.Places.{free}
use Rattle.ecma_print.specs.Explicit.{in_spots, parenthesized, stood}
use Rattle.ecma_print.specs.Spots.{first_spots, further_spot}
use Rattle.ecma_print_parentheses.proofs.Asking.{AllFit, Fits, first_fit, further_fits, open_where_free}
use Rattle.ecma_print_parentheses.proofs.Spotted.{bare', spotted, stands_in}
use Rattle.ecma_scope.specs.declared.role.Role.{Role}
use Rattle.ecma_scope.specs.declared.role.Role.TheVariants as role
use Rattle.ecma_scope.specs.declared.form.Declaration.{Declaration}
use Rattle.ecma_scope.specs.declared.form.Part.TheVariants as part
use Rattle.ecma_scope.specs.Conflicts.{Surrounding, clash_step, clashes_in, clashing, nothing, own_clashes, passing, redeclared_at, surrounds}
use Rattle.ecma_scope.specs.Declarations.{holds_vars, names, stated}
use Rattle.ecma_scope.specs.Scopes.{covers, is_ambient, is_there, opens}
use Rattle.ecma_scope_congruence.specs.Laws.{ParenthesesDoNotMatterToConflicts}
use Rattle.ecma_scope_congruence.specs.Bodies.{AllHaveBodies, HasBodies, more, none, with_bodies}
use Rattle.ecma_scope_congruence.proofs.ExplicitCounts.{opens_of_node, opens_spotted, role_of_node, role_spotted, unseen_children}
use Rattle.ecma_scope_congruence.proofs.ExplicitNames.{behind, found_bare, kind_of_node, names_kept, standing}
use Rattle.ecma_scope_congruence.proofs.Looking.{spot_at}
use Rattle.ecma_scope_congruence.proofs.Roles.{Unseen, blind_opens, blind_role, is_blind, parentheses_open_none, parentheses_role}
use Rattle.ecma_scope_congruence.proofs.SpanConflicts.{met}
use Rattle.ecma_tree.proofs.Layers.{from_leaves-roll}

told_of_node : (at : Span) (k : Kind) (ns : List Node) (s : Surrounding) → redeclared_at (node_of at k ns) s ≡ own_clashes s (node_of at k ns) ++ clashes_in (surrounds s (node_of at k ns)) 0 (map redeclared_at ns)
told_of_node at k ns s = ap (λ f. f s) (from_leaves-roll (Surrounding → List (List ℕ)) clash_step (record { span = at; kind = k; children = ns }))

kinds_spotted : (at : Span) (k : Kind) (ns : List Node) (spot : Spot) → (out-Node (bare' at k ns spot)).kind ≡ (out-Node (node_of at k ns)).kind
kinds_spotted at k ns spot = kind_of_node at k (spotted k ns spot) ∙ sym (kind_of_node at k ns)

-- a node in its spot that stands in no parentheses

passing_kept : (r : Role) (at : Span) (k : Kind) {ns : List Node} → AllHaveBodies ns → (spot : Spot) → Fits spot → passing r (bare' at k ns spot) ≡ passing r (node_of at k ns)
passing_kept r at k {ns} all spot fits =
    ap₂ (λ kind (found : List Declaration). cond (holds_vars r kind) [] (filter (λ d. d.stays) found)) (kinds_spotted at k ns spot) (found_bare at k all spot fits (record { part = part.Var; stays = not (is_ambient r) }))

own_kept : (s : Surrounding) (at : Span) (k : Kind) {ns : List Node} → AllHaveBodies ns → (spot : Spot) → Fits spot → own_clashes s (bare' at k ns spot) ≡ own_clashes s (node_of at k ns)
own_kept s at k {ns} all spot fits =
    λ j. cond (opens_spotted s.role at k ns spot fits j) (clashing s.role s.around [] (met s.role s.around (names_kept s.role s.around at k all spot fits j) (passing_kept s.role at k all spot fits j))) []

surrounds_kept : (s : Surrounding) (at : Span) (k : Kind) {ns : List Node} → AllHaveBodies ns → (spot : Spot) → Fits spot → (i : ℕ) → surrounds s (bare' at k ns spot) i ≡ surrounds s (node_of at k ns) i
surrounds_kept s at k {ns} all spot fits i =
    λ j. record {
      role = role_spotted s.role at k ns spot fits i j;
      around = cond (opens_spotted s.role at k ns spot fits j && covers s.role (kinds_spotted at k ns spot j) i) (stated (names_kept s.role s.around at k all spot fits j)) s.around;
    }

-- in parentheses

abbrev plain_surrounding : Surrounding → Surrounding
plain_surrounding s = record { role = role.Plain; around = s.around }

none_opened : (s : Surrounding) (n : Node) → opens s.role n ≡ false → own_clashes s n ≡ []
none_opened s n closed = rw closed refl

append_none : (xs : List (List ℕ)) → [] ++ (xs ++ []) ≡ xs
append_none [] = refl
append_none (x ∷ xs) = ap (λ rest. x ∷ rest) (append_none xs)

told_in_parentheses : (m : Node) (s : Surrounding) → redeclared_at (parenthesized m) s ≡ redeclared_at m (plain_surrounding s)
told_in_parentheses m s =
    let opened = opens_of_node s.role dummy_span kind.ParenExpr (m ∷ []) ∙ parentheses_open_none s.role (is_there (m ∷ []) 0) in
    let inside : surrounds s (parenthesized m) 0 ≡ plain_surrounding s = λ j. record {
      role = (role_of_node s.role dummy_span kind.ParenExpr (m ∷ []) 0 ∙ parentheses_role s.role (is_there (m ∷ []) 1) 0) j;
      around = cond (opened j && covers s.role (out-Node (parenthesized m)).kind 0) (stated (names s.role s.around (parenthesized m))) s.around;
    } in
    told_of_node dummy_span kind.ParenExpr (m ∷ []) s
    ∙ ap₂ (λ own t. own ++ (redeclared_at m t ++ [])) (none_opened s (parenthesized m) opened) inside
    ∙ append_none (redeclared_at m (plain_surrounding s))

told_alike : (f g : ℕ → Surrounding) → ((i : ℕ) → f i ≡ g i) → (i : ℕ) (children : List (Surrounding → List (List ℕ))) → clashes_in f i children ≡ clashes_in g i children
told_alike f g same i [] = refl
told_alike f g same i (child ∷ children) = ap₂ (λ a b. a ++ b) (ap child (same i)) (told_alike f g same (suc i) children)

blind_surrounds : (s : Surrounding) (at : Span) (k : Kind) (ns : List Node) (i : ℕ) → is_blind k ≡ true → surrounds s (node_of at k ns) i ≡ plain_surrounding s
blind_surrounds s at k ns i b =
    let opened = opens_of_node s.role at k ns ∙ blind_opens s.role k (is_there ns 0) b in
    λ j. record {
      role = (role_of_node s.role at k ns i ∙ blind_role s.role k (is_there ns 1) i b) j;
      around = cond (opened j && covers s.role (out-Node (node_of at k ns)).kind i) (stated (names s.role s.around (node_of at k ns))) s.around;
    }

blind_own : (s : Surrounding) (at : Span) (k : Kind) (ns : List Node) → is_blind k ≡ true → own_clashes s (node_of at k ns) ≡ []
blind_own s at k ns b = none_opened s (node_of at k ns) (opens_of_node s.role at k ns ∙ blind_opens s.role k (is_there ns 0) b)

-- where parentheses stand, a node does not look at its role
told_plainly : (at : Span) (k : Kind) (ns : List Node) (s : Surrounding) (spot : Spot) → Unseen s.role spot → in_parentheses k (map laid ns) spot ≡ true
    → redeclared_at (node_of at k ns) (plain_surrounding s) ≡ redeclared_at (node_of at k ns) s
told_plainly at k ns s spot (inl plain) closed = ap (λ r. redeclared_at (node_of at k ns) (record { role = r; around = s.around })) (sym plain)
told_plainly at k ns s spot (inr blind) closed =
    let b = blind k (map laid ns) closed in
    told_of_node at k ns (plain_surrounding s)
    ∙ ap₂ (λ own below. own ++ below) (blind_own (plain_surrounding s) at k ns b ∙ sym (blind_own s at k ns b))
    (told_alike (surrounds (plain_surrounding s) (node_of at k ns)) (surrounds s (node_of at k ns)) (λ i. blind_surrounds (plain_surrounding s) at k ns i b ∙ sym (blind_surrounds s at k ns i b)) 0 (map redeclared_at ns))
    ∙ sym (told_of_node at k ns s)

told_layer : (at : Span) (k : Kind) {ns : List Node} → AllHaveBodies ns → (spot : Spot) → Fits spot → (s : Surrounding)
    → clashes_in (surrounds s (node_of at k ns)) 0 (map redeclared_at (spotted k ns spot)) ≡ clashes_in (surrounds s (node_of at k ns)) 0 (map redeclared_at ns)
    → redeclared_at (bare' at k ns spot) s ≡ redeclared_at (node_of at k ns) s
told_layer at k {ns} all spot fits s same =
    told_of_node at k (spotted k ns spot) s
    ∙ ap₂ (λ own below. own ++ below) (own_kept s at k all spot fits)
    (told_alike (surrounds s (bare' at k ns spot)) (surrounds s (node_of at k ns)) (surrounds_kept s at k all spot fits) 0 (map redeclared_at (spotted k ns spot)) ∙ same)
    ∙ sym (told_of_node at k ns s)

told_by_cases : (at : Span) (k : Kind) (ns : List Node) (spot : Spot) (s : Surrounding) → Unseen s.role spot → redeclared_at (bare' at k ns spot) s ≡ redeclared_at (node_of at k ns) s
    → redeclared_at (bare' at k ns (free 0)) (plain_surrounding s) ≡ redeclared_at (node_of at k ns) (plain_surrounding s)
    → (b : Bool) → in_parentheses k (map laid ns) spot ≡ b → redeclared_at (if b then parenthesized (bare' at k ns (free 0)) else bare' at k ns spot) s ≡ redeclared_at (node_of at k ns) s
told_by_cases at k ns spot s unseen kept inner true closed = told_in_parentheses (bare' at k ns (free 0)) s ∙ inner ∙ told_plainly at k ns s spot unseen closed
told_by_cases at k ns spot s unseen kept inner false bare_there = kept

mutual
  told_kept : {n : Node} → HasBodies n → (spot : Spot) → Fits spot → (s : Surrounding) → Unseen s.role spot → redeclared_at (standing n spot) s ≡ redeclared_at n s
  told_kept (with_bodies at k {ns} full all) spot fits s unseen =
      ap (λ n. redeclared_at n s) (stands_in at k ns spot)
      ∙ told_by_cases at k ns spot s unseen
      (told_layer at k all spot fits s
      (all_told all (first_spots k (map laid ns) spot) (further_spot k spot) (first_fit k (map laid ns) spot fits) (further_fits k spot fits) (surrounds s (node_of at k ns)) 0 (unseen_children s.role at k ns spot unseen)))
      (told_layer at k all (free 0) refl (plain_surrounding s)
      (all_told all (first_spots k (map laid ns) (free 0)) (further_spot k (free 0)) (first_fit k (map laid ns) (free 0) refl) (further_fits k (free 0) refl) (surrounds (plain_surrounding s) (node_of at k ns)) 0
      (unseen_children role.Plain at k ns (free 0) (inl refl))))
      (in_parentheses k (map laid ns) spot) refl

  all_told : {ns : List Node} → AllHaveBodies ns → (spots : List Spot) (further : Spot) → AllFit spots → Fits further → (f : ℕ → Surrounding) (i : ℕ) → ((j : ℕ) → Unseen (f (behind i j)).role (spot_at spots further j))
      → clashes_in f i (map redeclared_at (in_spots (map stood ns) spots further)) ≡ clashes_in f i (map redeclared_at ns)
  all_told none spots further fit fits f i unseen = refl
  all_told (more h hs) [] further fit fits f i unseen = ap₂ (λ a b. a ++ b) (told_kept h further fits (f i) (unseen 0)) (all_told hs [] further fit fits f (suc i) (λ j. unseen (suc j)))
  all_told (more h hs) (spot ∷ spots) further fit fits f i unseen = ap₂ (λ a b. a ++ b) (told_kept h spot fit.0 (f i) (unseen 0)) (all_told hs spots further fit.1 fits f (suc i) (λ j. unseen (suc j)))

closed_nowhere : {A : Type 0} (b : Bool) → b ≡ true → b ≡ false → A
closed_nowhere true h k = cc
closed_nowhere false h k = cc

pub parentheses_do_not_matter_to_conflicts : ParenthesesDoNotMatterToConflicts
parentheses_do_not_matter_to_conflicts tree h =
    told_kept h (free 0) refl (record { role = role.Root; around = nothing }) (inr (λ k children closed. closed_nowhere (in_parentheses k children (free 0)) closed (open_where_free k children)))
