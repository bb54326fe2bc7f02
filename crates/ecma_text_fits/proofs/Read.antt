-- What is read as a module keeps the rules, and its leaves are spelled.
use Rattle.std.proofs.Common.{◌≡◌, ◌∙◌, ◌<◌, ℕ, suc, Bool, true, false, not, ◌&&◌, List, [], ◌∷◌, map, length, Option, Some, None, Ok, refl, sym, ap, subst}
use Rattle.std.specs.List.{list_all}
use Rattle.std.specs.Str.{IsUtf8}
use Rattle.std.proofs.lemmas.Bool.{and_parts, not-false}
use Rattle.ecma_kind.specs.declared.kind.Kind.{Kind}
use Rattle.ecma_kind.specs.declared.kind.Kind.TheVariants as kind
use Rattle.ecma_kind.specs.declared.shapes.Shape.{Shape}
use Rattle.ecma_kind.specs.declared.shapes.Sort.TheVariants as sort
use Rattle.ecma_tree.specs.declared.node.Node.{Node, Node-F, ind-Node, out-Node, roll-Node}
use Rattle.ecma_tree.specs.declared.node.Node.TheViews.{roll-out-Node}
use Rattle.ecma_tree.specs.Laws.{HaveShapes}
use Rattle.ecma_tree.specs.Sorted.{HasShape, HasSort, child_shapes, one}
use Rattle.ecma_tree.proofs.ShapeLaws.{node_has_shape}
use Rattle.ecma_grammar.specs.declared.production.Mode.{Mode}
use Rattle.ecma_grammar.specs.Modules as grammar
use Rattle.ecma_grammar.specs.Modules.{reads_module}
use Rattle.ecma_grammar.specs.Reading.{Outcome, Position, fails, read, too_deep}
use Rattle.ecma_grammar.specs.trees.Functions.{questioned_kind}
use Rattle.ecma_grammar.specs.trees.Others.{the_one}
use Rattle.ecma_grammar.specs.trees.Parts.{framed}
use Rattle.ecma_rules.specs.declared.target.Target.TheVariants as target
use Rattle.ecma_rules.specs.Children.{kind_of}
use Rattle.ecma_rules.specs.Failing.{failing_here, failing_step, first_failing, least_from}
use Rattle.ecma_rules.specs.Finishing.{finished}
use Rattle.ecma_text_leaves.specs.Everywhere.{Each, Everywhere, more, none}
use Rattle.ecma_text_leaves.proofs.Forms.{is_leaf}
use Rattle.ecma_text_leaves.proofs.Trees.{children_good, good_absent, good_framed, kind_good}
use Rattle.ecma_text_sorts.specs.Laws.{ReadModulesAreSorted}
use Rattle.ecma_leaves.specs.Words.{is_spelled, is_text_part}
use Rattle.ecma_fits.specs.declared.unfit.Where.{Where}
use Rattle.ecma_fits.specs.Fitting.{at_top, where_in, NoneFails, is_misspelled}
use Rattle.ecma_fits.specs.Roles.{is_tagged}
use Rattle.ecma_text_fits.specs.Laws.{ReadLeavesAreSpelled, ReadTreesKeepRules, RawModulesHaveTheirRoles}
use Rattle.ecma_tree.proofs.Layers.{from_leaves-roll}
use Rattle.ecma_raw_roles.specs.RawRoles.{is_unvalued}
use Rattle.ecma_text_fits_finished.proofs.Constructors.{one_constructor}
use Rattle.ecma_text_fits_finished.proofs.Everywhere.{finished_good}
use Rattle.ecma_text_fits_leaves.proofs.RawTexts.{untagged}
use Rattle.ecma_text_types.proofs.Raws.{of_raw}
use Rattle.ecma_text_fits_leaves.proofs.Programs.{inner_children, inner_kind, is_inner, module_children}
use Rattle.ecma_text_fits_leaves.proofs.ReadHashbangs.{IsModule, module_told}
use Rattle.ecma_text_fits_leaves.proofs.ReadLeaves.{Told, leaf_told}
use Rattle.ecma_text_fits_leaves.proofs.ReadingOf.{read_holds}
use Rattle.ecma_text_fits_finished.proofs.Rules.{children_made, keeps_rules}
use Rattle.ecma_text_fits_finished.proofs.Strays.{no_strays}
use Rattle.ecma_text_fits_finished.proofs.TextParts.{is_silent, parts_valued}
use Rattle.ecma_raw_roles.proofs.Walks.{kind_made, free_kind, not_true}
use Rattle.ecma_text_fits.specs.Rules.{KeepsRules}
use Rattle.ecma_fits.proofs.Clauses.{either, either_none, less}
use Rattle.ecma_fits.proofs.Walks.{both_none, neither, shifted}

pub read_keeps : ReadModulesAreSorted → ReadTreesKeepRules
read_keeps read_sorted text mode bound tree e =
    let sorted : HasSort sort.Module tree = read_sorted text mode bound tree e in
    of_raw KeepsRules text mode bound tree
    (λ raw h b is.
    let s : HasSort sort.Module (finished raw) = subst (HasSort sort.Module) (sym is) sorted in
    subst KeepsRules is (record { rules = keeps_rules raw b s; constructors = one_constructor raw b s; strays = no_strays raw b s })) e

-- leaves

told_other : (k : Kind) → is_leaf k ≡ false → Told k
told_other (kind.Module shebang) h = λ is. not_true (sym is)
told_other (kind.Script shebang) h = λ is. not_true (sym is)
told_other (kind.Ident text ctxt optional) h = not_true (sym h)
told_other (kind.IdentName text) h = not_true (sym h)
told_other (kind.PrivateName text) h = not_true (sym h)
told_other (kind.Str value raw) h = not_true (sym h)
told_other (kind.Number value raw) h = not_true (sym h)
told_other (kind.BigInt value raw) h = not_true (sym h)
told_other (kind.Regex exp flags) h = not_true (sym h)
told_other (kind.TplElement raw cooked tail) h = not_true (sym h)
told_other _ h = λ is. refl

told_question : (optional : Bool) (k : Kind) → Told k → Told (questioned_kind optional k)
told_question optional (kind.Ident text ctxt before) p = p
told_question optional (kind.ArrayPat before) p = λ is. refl
told_question optional (kind.ObjectPat before) p = λ is. refl
told_question optional _ p = p

abbrev Good : Node → Type 0
Good = Everywhere Told

one_good : {xs : List Node} → Each Told xs → Good (the_one xs)
one_good none = good_absent Told (told_other kind.Absent refl)
one_good (more a none) = a
one_good (more a (more b h)) = good_absent Told (told_other kind.Absent refl)

-- a module has its hashbang in one line
raw_told : (text : List ℕ) (mode : Mode) (bound : ℕ) (raw : Node) → IsUtf8 text → length text < 4294967296 → grammar.answer_of (reads_module text mode bound) ≡ Ok raw → is_spelled true (kind_of raw) ≡ true
raw_told text mode bound raw u small e = by_outcome (reads_module text mode bound) (module_told text mode u small bound (record { place = 0; failed = 0 })) e
  where
    by_outcome : (o : Outcome (List Node)) → ((s : Position) (xs : List Node) → o ≡ read xs s → IsModule xs) → grammar.answer_of o ≡ Ok raw → is_spelled true (kind_of raw) ≡ true
    by_outcome (read xs s) h f =
        let t = h s xs refl in
        let one : xs ≡ t.0 ∷ [] = t.1 in
        let is : t.0 ≡ raw = (let g = rw one at f in cc) in
        subst (λ (n : Node). is_spelled true (kind_of n) ≡ true) is t.2
    by_outcome (fails at) h f = cc
    by_outcome (too_deep at) h f = cc

raw_good : (text : List ℕ) (mode : Mode) (bound : ℕ) (raw : Node) → IsUtf8 text → length text < 4294967296 → grammar.answer_of (reads_module text mode bound) ≡ Ok raw → Good raw
raw_good text mode bound raw u small e = by_outcome (reads_module text mode bound) (read_holds Told told_other told_question text mode (leaf_told text u small) bound (record { place = 0; failed = 0 })) e
  where
    by_outcome : (o : Outcome (List Node)) → ((s : Position) (xs : List Node) → o ≡ read xs s → Each Told xs) → grammar.answer_of o ≡ Ok raw → Good raw
    by_outcome (read xs s) h f =
        let is : framed 1 the_one xs ≡ raw = cc in
        subst Good is (good_framed Told (told_other kind.Absent refl) 1 the_one (h s xs refl) (λ all. one_good all))
    by_outcome (fails at) h f = cc
    by_outcome (too_deep at) h f = cc

-- a leaf is spelled otherwise, also where a text part may stand behind a tag
abbrev is_untold : Where → Node → Bool
is_untold w node = not (is_spelled true (kind_of node))

abbrev walk : Node → Where → Option ℕ
walk = first_failing Where (λ w node. failing_here (is_untold w node) node) where_in

abbrev Walks : Node → Type 0
Walks n = (o : Shape) → is_inner o ≡ true → HasShape o n → Good n → (w : Where) → walk n w ≡ None

-- children whose shapes are inner
abbrev AllWalk : List Node → Type 0
AllWalk ns = (os : List Shape) → list_all is_inner os ≡ true → HaveShapes os ns → Each Told ns → (where_of : ℕ → Where) → least_from Where where_of 0 (map walk ns) ≡ None

all_walk : (es : List ((n : Node) × Walks n)) → AllWalk (map (λ e. e.0) es)
all_walk [] os i s h where_of = refl
all_walk (e ∷ es) [] i s h where_of = absurd s
all_walk (e ∷ es) (o ∷ os) i s (more a h) where_of =
    let ns = map (λ e. e.0) es in
    let p = and_parts (is_inner o) (list_all is_inner os) i in
    both_none (walk e.0 (where_of 0)) (least_from Where where_of 1 (map walk ns)) (e.1 o p.0 s.0 a (where_of 0)) (shifted Where where_of 0 (map walk ns) ∙ all_walk es os p.1 s.1 h (λ i. where_of (suc i)))

-- a node that is spelled, with such children
whole_walks : (x : Node-F Node) → AllWalk x.children → (os : List Shape) → list_all is_inner os ≡ true → HaveShapes os x.children → is_spelled true x.kind ≡ true → Good (roll-Node x) → (w : Where) → walk (roll-Node x) w ≡ None
whole_walks x below os i s told g w =
    let n = roll-Node x in
    let here : is_untold w n ≡ false = ap not (ap (is_spelled true) (kind_made x) ∙ told) in
    let all : Each Told x.children = subst (Each Told) (children_made x) (children_good Told g) in
    ap (λ f. f w) (from_leaves-roll (Where → Option ℕ) (failing_step Where (λ w node. failing_here (is_untold w node) node) where_in) x)
    ∙ both_none (failing_here (is_untold w n) n) (least_from Where (where_in w n) 0 (map walk x.children)) (ap (λ b. failing_here b n) here) (below os i s all (where_in w n))

node_walks : (x : Node-F Node) → AllWalk x.children → Walks (roll-Node x)
node_walks x below o i s g w =
    let h = (node_has_shape x.span x.kind x.children o).0 s in
    let told : Told x.kind = subst Told (kind_made x) (kind_good Told g) in
    whole_walks x below (child_shapes x.kind o (length x.children)) (inner_children x.kind o (length x.children) i) h.1 (told (inner_kind o i x.kind h.0)) g w

inner_walks : (n : Node) → Walks n
inner_walks = ind-Node Walks (λ x y is. node_walks x (subst (λ (z : Node-F Node). AllWalk z.children) is (all_walk y.children)))

each_walks : (ns : List Node) → AllWalk ns
each_walks [] os i s h where_of = refl
each_walks (n ∷ ns) [] i s h where_of = absurd s
each_walks (n ∷ ns) (o ∷ os) i s (more a h) where_of =
    let p = and_parts (is_inner o) (list_all is_inner os) i in
    both_none (walk n (where_of 0)) (least_from Where where_of 1 (map walk ns)) (inner_walks n o p.0 s.0 a (where_of 0)) (shifted Where where_of 0 (map walk ns) ∙ each_walks ns os p.1 s.1 h (λ i. where_of (suc i)))

-- and the root
root_walks : (n : Node) → HasSort sort.Module n → is_spelled true (kind_of n) ≡ true → Good n → (w : Where) → walk n w ≡ None
root_walks n s told g w = subst (λ (m : Node). walk m w ≡ None) (roll-out-Node n) (of_parts (out-Node n) (subst (HasSort sort.Module) (sym (roll-out-Node n)) s) told (subst Good (sym (roll-out-Node n)) g))
  where
    of_parts : (x : Node-F Node) → HasSort sort.Module (roll-Node x) → is_spelled true x.kind ≡ true → Good (roll-Node x) → walk (roll-Node x) w ≡ None
    of_parts x s told g =
        let h = (node_has_shape x.span x.kind x.children (one sort.Module)).0 s in
        whole_walks x (each_walks x.children) (child_shapes x.kind (one sort.Module) (length x.children)) (module_children x.kind (length x.children) h.0) h.1 told g w

-- behind no tag a text part with a value is spelled too
tag_aside : (tagged : Bool) (k : Kind) → not (is_spelled true k) ≡ false → (is_unvalued k && not tagged) ≡ false → not (is_spelled tagged k) ≡ false
tag_aside true k h s = h
tag_aside false (kind.TplElement raw None tail) h s = not_true (sym s)
tag_aside false (kind.TplElement raw (Some said) tail) h s = ap not (untagged raw said (not-false (is_text_part true raw (Some said)) h))
tag_aside false _ h s = h

spelled_by_role : (w : Where) (n : Node) → either is_untold is_silent w n ≡ false → is_misspelled w n ≡ false
spelled_by_role w n h = let p = neither (is_untold w n) (is_silent w n) h in tag_aside (is_tagged w.role) (kind_of n) p.0 p.1

pub read_spelled : ReadModulesAreSorted → RawModulesHaveTheirRoles → ReadLeavesAreSpelled
read_spelled read_sorted placed text mode bound tree u small e =
    let sorted : HasSort sort.Module tree = read_sorted text mode bound tree e in
    let told : NoneFails is_untold tree = of_raw (NoneFails is_untold) text mode bound tree
    (λ raw h b is.
    let good = finished_good Told (λ k. refl) (λ k. refl) (λ k. refl) (λ k. refl) (λ k. refl) (λ k. refl) (λ k. refl) (λ k. refl) raw (raw_good text mode bound raw u small h) target.Free in
    let s : HasSort sort.Module (finished raw) = subst (HasSort sort.Module) (sym is) sorted in
    let head : is_spelled true (kind_of (finished raw)) ≡ true = ap (is_spelled true) (free_kind raw) ∙ raw_told text mode bound raw u small h in
    subst (NoneFails is_untold) is (root_walks (finished raw) s head good at_top)) e in
    less (either is_untold is_silent) is_misspelled spelled_by_role tree (either_none is_untold is_silent tree told (parts_valued placed text mode bound tree e))
