-- A raw tree that is sorted and keeps the context rules is sorted once it is finished.
use Rattle.std.proofs.Common.{◌≡◌, ◌∙◌, ℕ, suc, true, List, [], ◌∷◌, length, map, Option, Some, None, Result, Ok, Err, refl, sym, ap, subst, slice_get}
use Rattle.ecma_kind.specs.declared.shapes.Shape.{Shape}
use Rattle.ecma_kind.specs.declared.shapes.Sort.TheVariants as sort
use Rattle.ecma_tree.specs.declared.node.Node.{Node, Node-F, fold-roll-Node, ind-Node, roll-Node}
use Rattle.ecma_tree.specs.declared.node.Node.TheViews.{out-roll-Node}
use Rattle.ecma_tree.specs.Laws.{HaveShapes}
use Rattle.ecma_tree.specs.Sorted.{HasShape, HasSort, one}
use Rattle.ecma_rules.specs.declared.target.Target.{Target}
use Rattle.ecma_rules.specs.declared.standing.Around.{Around}
use Rattle.ecma_rules.specs.Children.{is_present, of_kind}
use Rattle.ecma_rules.specs.Failing.{least, least_from}
use Rattle.ecma_rules.specs.Finishing.{each_in, finished, finished_at, finished_step}
use Rattle.ecma_rules.specs.Jumps.{first_stray}
use Rattle.ecma_rules.specs.Lists.{last_by}
use Rattle.ecma_rules.specs.Rules.{first_broken, first_misplaced}
use Rattle.ecma_rules.specs.Surroundings.{around_in, at_root}
use Rattle.ecma_rules.specs.Targets.{target_in}
use Rattle.ecma_grammar_laws.specs.RawSorts as raw
use Rattle.ecma_grammar_laws.specs.RawSorts.{HasRawShape, HasRawSort, RawShape, sorted, allows_raw, child_shapes_raw}
use Rattle.ecma_grammar_laws.proofs.RawShapes.{HaveRaw, both, parts_of}
use Rattle.ecma_grammar_laws.proofs.Sorted.{modules_sorted}
use Rattle.ecma_text_types.proofs.Raws.{of_raw}
use Rattle.ecma_text_sorts.specs.Laws.{FinishedModulesAreSorted, ReadModulesAreSorted}
use Rattle.ecma_text_sorts.proofs.Turning.{all_turn, refined, turns, wanted}
use Rattle.ecma_text_sorts.proofs.KindsTurned.{allowed}
use Rattle.ecma_text_sorts.proofs.Children.{children_turned, inside}
use Rattle.ecma_text_sorts.proofs.Making.{makes}
use Rattle.ecma_text_sorts.proofs.Keeping.{fine_below, fine_keeps, neither_least}
use Rattle.ecma_text_sorts.proofs.Refining.{refines}

-- a node has its shape once it is finished
abbrev Finishes : Node → Type 0
Finishes n = (around : Around) (r : RawShape) (o : Shape) → turns around r o ≡ true → HasRawShape r n → first_misplaced n around ≡ None → HasShape o (finished_at n around.target)

-- and so have these
abbrev All : List Node → Type 0
All ns = (around : ℕ → Around) (rs : List RawShape) (os : List Shape) → all_turn around rs os ≡ true → HaveRaw rs ns → least_from Around around 0 (map first_misplaced ns) ≡ None
    → HaveShapes os (each_in (λ i. (around i).target) (map finished_at ns))

shifted : (around : ℕ → Around) (k : ℕ) (cs : List (Around → Option ℕ)) → least_from Around around (suc k) cs ≡ least_from Around (λ i. around (suc i)) k cs
shifted around k [] = refl
shifted around k (c ∷ cs) = ap (least (c (around (suc k)))) (shifted around (suc k) cs)

all_finish : (es : List ((n : Node) × Finishes n)) → All (map (λ e. e.0) es)
all_finish [] around [] [] h g m = tt
all_finish [] around [] (o ∷ os) h g m = cc
all_finish [] around (r ∷ rs) os h g m = absurd g
all_finish (e ∷ es) around [] os h g m = absurd g
all_finish (e ∷ es) around (r ∷ rs) [] h g m = cc
all_finish (e ∷ es) around (r ∷ rs) (o ∷ os) h g m =
    let w = both (turns (around 0) r o) (all_turn (λ i. around (suc i)) rs os) h in
    let v = neither_least (first_misplaced e.0 (around 0)) (least_from Around around 1 (map first_misplaced (map (λ e. e.0) es))) m in
    (e.1 (around 0) r o w.0 g.0 v.0, all_finish es (λ i. around (suc i)) rs os w.1 g.1 (sym (shifted around 0 (map first_misplaced (map (λ e. e.0) es))) ∙ v.1))

as_many : (target_of : ℕ → Target) (cs : List (Target → Node)) → length (each_in target_of cs) ≡ length cs
as_many target_of [] = refl
as_many target_of (c ∷ cs) = ap suc (as_many (λ i. target_of (suc i)) cs)

map_as_many : (ns : List Node) → length (map finished_at ns) ≡ length ns
map_as_many [] = refl
map_as_many (n ∷ ns) = ap suc (map_as_many ns)

-- what stands around the children of a node of these parts
abbrev around_children : Around → Node-F Node → ℕ → Around
around_children around x = inside around.target around.standing x.kind (of_kind is_present (slice_get x.children 1)) (of_kind is_present (slice_get x.children 2)) (last_by around.is_last x.kind (length x.children))

node_finishes : (x : Node-F Node) → All x.children → Finishes (roll-Node x)
node_finishes x below around r o h g m =
    let is = out-roll-Node x in
    let fine = fine_below around x m in
    let t = parts_of (roll-Node x) r g in
    let allows : allows_raw r x.kind ≡ true = subst (λ (p : Node-F Node). allows_raw r p.kind ≡ true) is t.0 in
    let shapes : HaveRaw (child_shapes_raw x.kind r (length x.children)) x.children = subst (λ (p : Node-F Node). HaveRaw (child_shapes_raw p.kind r (length p.children)) p.children) is t.1 in
    let inner : around_in around (roll-Node x) ≡ around_children around x = ap (around_children around) is in
    let turned = children_turned around.standing r o (length x.children) (of_kind is_present (slice_get x.children 1)) (of_kind is_present (slice_get x.children 2)) (last_by around.is_last x.kind (length x.children)) around.target x.kind (λ b. h) allows in
    let children = below (around_children around x) (refined x.kind r (length x.children)) (wanted around.target x.kind o (length x.children)) turned (refines around x r fine.0 shapes)
    (subst (λ z. least_from Around z 0 (map first_misplaced x.children) ≡ None) inner fine.1) in
    let children_now = each_in (target_in around.target x.kind) (map finished_at x.children) in
    let many : length children_now ≡ length x.children = as_many (target_in around.target x.kind) (map finished_at x.children) ∙ map_as_many x.children in
    subst (HasShape o) (sym (ap (λ f. f around.target) (fold-roll-Node (Target → Node) finished_step x)))
    (makes x.span children_now o around.target x.kind (allowed around r o x.kind h allows (fine_keeps around x fine.0)) (subst (λ n. HaveShapes (wanted around.target x.kind o n) children_now) (sym many) children))

pub finishes : (n : Node) → Finishes n
finishes = ind-Node Finishes (λ x y is. node_finishes x (subst (λ (z : Node-F Node). All z.children) is (all_finish y.children)))

pub finished_sorted : FinishedModulesAreSorted
finished_sorted tree h broken =
    let w = neither_least (first_misplaced tree at_root) (first_stray tree) broken in
    finishes tree at_root (raw.one (sorted sort.Module)) (one sort.Module) refl h w.0

pub read_sorted : ReadModulesAreSorted
read_sorted text mode bound tree e = of_raw (HasSort sort.Module) text mode bound tree (λ r h b is. subst (HasSort sort.Module) is (finished_sorted r (modules_sorted text mode bound r h) b)) e
