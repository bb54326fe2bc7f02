-- A tree fits exactly where it is a module by its sorts and no place is told.
use Rattle.std.proofs.Common.{◌≡◌, ◌↔◌, ◌∙◌, ℕ, suc, Bool, true, false, ◌||◌, List, [], ◌∷◌, map, Option, Some, None, is_some, refl, sym, ap, subst}
use Rattle.ecma_kind.specs.declared.shapes.Sort.TheVariants as sort
use Rattle.ecma_tree.specs.Sorted.{HasSort}
use Rattle.ecma_tree.specs.declared.node.Node.{Node, Node-F, ind-Node, roll-Node}
use Rattle.ecma_rules.specs.Failing.{failing_here, failing_step, first_failing, least_from}
use Rattle.ecma_rules.specs.Jumps.{first_stray}
use Rattle.ecma_rules.specs.Members.{second_constructor, has_second_constructor}
use Rattle.ecma_tree.proofs.Layers.{from_leaves-roll}
use Rattle.ecma_fits.specs.declared.unfit.Where.{Where}
use Rattle.ecma_fits.specs.Branches.{is_dangling}
use Rattle.ecma_fits.specs.Chains.{is_loose}
use Rattle.ecma_fits.specs.Counts.{is_short}
use Rattle.ecma_fits.specs.Fitting.{Fits, at_top, breaks_rule, first_unfit, first_unfit_in, is_misplaced, is_misshapen, is_unfit, unfit_here, where_in, NoneFails, is_misspelled}
use Rattle.ecma_fits.specs.Members.{is_misread}
use Rattle.ecma_fits.specs.Roles.{is_out_of_role}
use Rattle.ecma_fits.specs.Strays.{is_stray_target}
use Rattle.ecma_fits.proofs.Walks.{both_none, neither, neither_least, not_failing, shifted}

-- a place of each node
abbrev Place : Type 0
Place = Where → Node → Option ℕ

abbrev first : Place → Node → Where → Option ℕ
first p = first_failing Where p where_in

-- where two walks tell nothing, a third tells nothing that tells nothing of a node of which neither does
module _ (p q r : Place) (both : (w : Where) (n : Node) → p w n ≡ None → q w n ≡ None → r w n ≡ None) where
  abbrev Follows : Node → Type 0
  Follows n = (w : Where) → first p n w ≡ None → first q n w ≡ None → first r n w ≡ None

  abbrev AllFollow : List Node → Type 0
  AllFollow ns = (where_of : ℕ → Where) → least_from Where where_of 0 (map (first p) ns) ≡ None → least_from Where where_of 0 (map (first q) ns) ≡ None → least_from Where where_of 0 (map (first r) ns) ≡ None

  all_follow : (es : List ((n : Node) × Follows n)) → AllFollow (map (λ e. e.0) es)
  all_follow [] where_of a b = refl
  all_follow (e ∷ es) where_of a b =
      let ns = map (λ e. e.0) es in
      let v = neither_least (first p e.0 (where_of 0)) (least_from Where where_of 1 (map (first p) ns)) a in
      let u = neither_least (first q e.0 (where_of 0)) (least_from Where where_of 1 (map (first q) ns)) b in
      both_none (first r e.0 (where_of 0)) (least_from Where where_of 1 (map (first r) ns)) (e.1 (where_of 0) v.0 u.0)
      (shifted Where where_of 0 (map (first r) ns)
      ∙ all_follow es (λ i. where_of (suc i)) (sym (shifted Where where_of 0 (map (first p) ns)) ∙ v.1) (sym (shifted Where where_of 0 (map (first q) ns)) ∙ u.1))

  node_follows : (x : Node-F Node) → AllFollow x.children → Follows (roll-Node x)
  node_follows x below w a b =
      let n = roll-Node x in
      let ep = ap (λ f. f w) (from_leaves-roll (Where → Option ℕ) (failing_step Where p where_in) x) in
      let eq = ap (λ f. f w) (from_leaves-roll (Where → Option ℕ) (failing_step Where q where_in) x) in
      let er = ap (λ f. f w) (from_leaves-roll (Where → Option ℕ) (failing_step Where r where_in) x) in
      let v = neither_least (p w n) (least_from Where (where_in w n) 0 (map (first p) x.children)) (sym ep ∙ a) in
      let u = neither_least (q w n) (least_from Where (where_in w n) 0 (map (first q) x.children)) (sym eq ∙ b) in
      er ∙ both_none (r w n) (least_from Where (where_in w n) 0 (map (first r) x.children)) (both w n v.0 u.0) (below (where_in w n) v.1 u.1)

  follows : (n : Node) → Follows n
  follows = ind-Node Follows (λ x y is. node_follows x (subst (λ (z : Node-F Node). AllFollow z.children) is (all_follow y.children)))

-- tests, as places
abbrev by : (Where → Node → Bool) → Place
by fails w n = failing_here (fails w n) n

abbrev pub either : (Where → Node → Bool) → (Where → Node → Bool) → Where → Node → Bool
either f g w n = f w n || g w n

pub either_none : (f g : Where → Node → Bool) (tree : Node) → NoneFails f tree → NoneFails g tree → NoneFails (either f g) tree
either_none f g tree = follows (by f) (by g) (by (either f g)) (λ w n a b. join (f w n) (g w n) n a b) tree at_top
  where
    join : (a b : Bool) (n : Node) → failing_here a n ≡ None → failing_here b n ≡ None → failing_here (a || b) n ≡ None
    join true b n h g = h
    join false b n h g = g

pub less : (f g : Where → Node → Bool) → ((w : Where) (n : Node) → f w n ≡ false → g w n ≡ false) → (tree : Node) → NoneFails f tree → NoneFails g tree
less f g weaker tree h = follows (by f) (by f) (by g) (λ w n a b. ap (λ z. failing_here z n) (weaker w n (not_failing (f w n) n a))) tree at_top h h

abbrev misshapen : Where → Node → Bool
misshapen w n = is_misshapen n

abbrev short : Where → Node → Bool
short w n = is_short n

abbrev dangling : Where → Node → Bool
dangling w n = is_dangling n

abbrev loose : Where → Node → Bool
loose w n = is_loose n

abbrev misread : Where → Node → Bool
misread w n = is_misread n

abbrev pub out_of_role : Where → Node → Bool
out_of_role w n = is_out_of_role w.role n

abbrev pub stray_target : Where → Node → Bool
stray_target w n = is_stray_target w.role w.arguments n

abbrev second : Where → Node → Bool
second w n = has_second_constructor n

no_place : (o : Option ℕ) (n : Node) → failing_here (is_some o) n ≡ None → o ≡ None
no_place None n h = refl
no_place (Some i) n h = cc

some_false : (o : Option ℕ) → o ≡ None → is_some o ≡ false
some_false o h = ap is_some h

unfit_none : (w : Where) (n : Node) → by is_unfit w n ≡ None → by second w n ≡ None → unfit_here w n ≡ None
unfit_none w n a b = both_none (failing_here (is_unfit w n) n) (second_constructor n) a (no_place (second_constructor n) n b)

all_unfit : (tree : Node) → NoneFails (either misshapen (either is_misplaced is_misspelled)) tree → NoneFails is_unfit tree
unfolding is_unfit
all_unfit tree h = h

unfit_parts : (w : Where) (n : Node) → unfit_here w n ≡ None → (is_misshapen n ≡ false) × (is_misplaced w n ≡ false) × (is_misspelled w n ≡ false) × (has_second_constructor n ≡ false)
unfolding is_unfit
unfit_parts w n h =
    let a = neither_least (failing_here (is_unfit w n) n) (second_constructor n) h in
    let b = neither (is_misshapen n) (is_misplaced w n || is_misspelled w n) (not_failing (is_unfit w n) n a.0) in
    let c = neither (is_misplaced w n) (is_misspelled w n) b.1 in
    (b.0, c.0, c.1, some_false (second_constructor n) a.1)

-- no node of a tree that fits is unfit
pub none_unfit : (tree : Node) → Fits tree → first_unfit_in tree at_top ≡ None
none_unfit tree c =
    let shape = either_none short (either dangling (either loose misread)) tree c.counts (either_none dangling (either loose misread) tree c.branches (either_none loose misread tree c.chains c.members)) in
    let place = either_none out_of_role (either stray_target breaks_rule) tree c.roles (either_none stray_target breaks_rule tree c.targets c.rules) in
    let unfit = all_unfit tree (either_none misshapen (either is_misplaced is_misspelled) tree shape (either_none is_misplaced is_misspelled tree place c.leaves)) in
    follows (by is_unfit) (by second) unfit_here unfit_none tree at_top unfit c.constructors

-- where none is, it fits
pub fits_of : (tree : Node) → HasSort sort.Module tree → first_unfit_in tree at_top ≡ None → first_stray tree ≡ None → Fits tree
fits_of tree sorted none strays =
    let shape : NoneFails misshapen tree = follows unfit_here unfit_here (by misshapen) (λ w n u v. ap (λ z. failing_here z n) (unfit_parts w n u).0) tree at_top none none in
    let place : NoneFails is_misplaced tree = follows unfit_here unfit_here (by is_misplaced) (λ w n u v. ap (λ z. failing_here z n) (unfit_parts w n u).1) tree at_top none none in
    record {
      sorted = sorted;
      counts = less misshapen short (λ w n h. (neither (is_short n) _ h).0) tree shape;
      branches = less misshapen dangling (λ w n h. (neither (is_dangling n) _ (neither (is_short n) _ h).1).0) tree shape;
      chains = less misshapen loose (λ w n h. (neither (is_loose n) _ (neither (is_dangling n) _ (neither (is_short n) _ h).1).1).0) tree shape;
      members = less misshapen misread (λ w n h. (neither (is_loose n) _ (neither (is_dangling n) _ (neither (is_short n) _ h).1).1).1) tree shape;
      roles = less is_misplaced out_of_role (λ w n h. (neither (is_out_of_role w.role n) _ h).0) tree place;
      targets = less is_misplaced stray_target (λ w n h. (neither (is_stray_target w.role w.arguments n) _ (neither (is_out_of_role w.role n) _ h).1).0) tree place;
      rules = less is_misplaced breaks_rule (λ w n h. (neither (is_stray_target w.role w.arguments n) _ (neither (is_out_of_role w.role n) _ h).1).1) tree place;
      constructors = follows unfit_here unfit_here (by second) (λ w n u v. ap (λ z. failing_here z n) (unfit_parts w n u).3) tree at_top none none;
      leaves = follows unfit_here unfit_here (by is_misspelled) (λ w n u v. ap (λ z. failing_here z n) (unfit_parts w n u).2) tree at_top none none;
      strays = strays;
    }

pub fits_where_none_is_told : (tree : Node) → Fits tree ↔ (HasSort sort.Module tree × (first_unfit tree ≡ None))
fits_where_none_is_told tree = (to, from)
  where
    to : Fits tree → HasSort sort.Module tree × (first_unfit tree ≡ None)
    to f = (f.sorted, both_none (first_unfit_in tree at_top) (first_stray tree) (none_unfit tree f) f.strays)

    from : HasSort sort.Module tree × (first_unfit tree ≡ None) → Fits tree
    from told =
        let walk = neither_least (first_unfit_in tree at_top) (first_stray tree) told.1 in
        fits_of tree told.0 walk.0 walk.1

pub ruleset clauses = (fits_where_none_is_told)
