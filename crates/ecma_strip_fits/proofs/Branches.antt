-- No `if` without `else` comes to stand before an outer `else`.
use Rattle.std.proofs.Common.{◌≡◌, ◌∙◌, ◌⊎◌, inl, inr, ℕ, zero, suc, Bool, true, false, not, ◌&&◌, ◌||◌, cond, List, [], ◌∷◌, map, length, Option, Some, None, refl, sym, ap, ap₂, subst, slice_get}
use Rattle.ecma_kind.specs.Sorts.{belongs}
use Rattle.ecma_kind.specs.declared.kind.Kind.{Kind}
use Rattle.ecma_kind.specs.declared.kind.Kind.TheVariants as kind
use Rattle.ecma_kind.specs.declared.shapes.Shape.{Shape}
use Rattle.ecma_kind.specs.declared.shapes.Sort.TheVariants as sort
use Rattle.ecma_kind.specs.declared.span.Span.{Span}
use Rattle.ecma_tree.specs.declared.node.Node.{Node, Node-F, ind-Node, fold_out-Node, out-Node, roll-Node}
use Rattle.ecma_tree.specs.declared.node.Node.TheViews.{out-roll-Node}
use Rattle.ecma_tree.specs.Laws.{HaveShapes}
use Rattle.ecma_tree.specs.Nodes.{node_of}
use Rattle.ecma_tree.specs.Sorted.{HasShape, child_shapes, is_absent, maybe, one}
use Rattle.ecma_rules.specs.Children.{child_holds, has_child, holds_of, is_present, kind_of, of_kind}
use Rattle.ecma_strip.specs.Staying.{is_ambient, is_empty_stmt, item_stays}
use Rattle.ecma_strip.specs.Stripping.{body_of, changed_at, plain_children, plain_kind, stripped}
use Rattle.ecma_fits.specs.Branches.{holds_at, holds_at_last, is_choice, is_dangling, last_part, takes_else, takes_else_step}
use Rattle.ecma_fits.specs.Fitting.{Fits, NoneFails}
use Rattle.ecma_strip_fits.proofs.Classes.{class_of}
use Rattle.ecma_strip_fits.proofs.Classes.Class.{Usual}
use Rattle.ecma_strip_fits.proofs.ChildrenKept.{AsUsual, Plain, maybe_usual, one_usual}
use Rattle.ecma_strip_fits.proofs.Lists.{have_at, map_at}
use Rattle.ecma_strip_fits.proofs.Strays.{kind_node}
use Rattle.ecma_strip_fits.proofs.Tests.{not_dangling, test_kept}
use Rattle.ecma_strip_fits.proofs.Walk.{children_of, shape_parts, usual_children, usual_kind}
use Rattle.ecma_tree.specs.Values.{is_value}

some_same : {X : Type 0} {x y : X} → Some x ≡ Some y → x ≡ y
some_same e = cc

or_true : (b : Bool) → (b || true) ≡ true
or_true true = refl
or_true false = refl

absent_plain : Plain Bool is_absent
unfolding plain_kind
absent_plain kind.Absent = refl
absent_plain _ = refl

last_plain : Plain (Option ℕ) last_part
unfolding plain_kind
last_plain kind.IfStmt = refl
last_plain _ = refl

choice_plain : Plain Bool is_choice
unfolding plain_kind
choice_plain kind.IfStmt = refl
choice_plain _ = refl

takes_else-out : (n : Node) → takes_else n ≡ (is_absent (kind_of n) || holds_at_last (map takes_else (children_of n)) (last_part (kind_of n)))
takes_else-out n = fold_out-Node Bool takes_else_step n

empty_takes_none : (span : Span) → takes_else (node_of span kind.EmptyStmt []) ≡ false
empty_takes_none span =
    takes_else-out (node_of span kind.EmptyStmt [])
    ∙ ap (λ k. is_absent k || holds_at_last (map takes_else (children_of (node_of span kind.EmptyStmt []))) (last_part k)) (kind_node span kind.EmptyStmt [])

-- an empty statement in the place of a body takes no `else`
body_takes : (d : Node) → takes_else (body_of d) ≡ true → takes_else d ≡ true
body_takes d = by (item_stays d)
  where
    by : (b : Bool) → takes_else (cond b d (node_of (out-Node d).span kind.EmptyStmt [])) ≡ true → takes_else d ≡ true
    by true h = h
    by false h = let e = empty_takes_none (out-Node d).span in cc

-- ---- what a statement ends with

here_changed : (j : ℕ) (cs : List Node) (d : Node) → slice_get (changed_at j body_of cs) j ≡ Some d → (c : Node) × (slice_get cs j ≡ Some c) × (body_of c ≡ d)
here_changed j [] d at = cc
here_changed zero (c ∷ cs) d at = (c, refl, cc)
here_changed (suc j) (c ∷ cs) d at = here_changed j cs d at

second_left : (cs : List Node) → slice_get (changed_at 1 body_of cs) 2 ≡ slice_get cs 2
second_left [] = refl
second_left (a ∷ []) = refl
second_left (a ∷ b ∷ cs) = refl

abbrev Ends : Kind → ℕ → List Node → Node → Type 0
Ends k i cs d = (c : Node) × (slice_get cs i ≡ Some c) × (body_of c ≡ d)

last_changed : (k : Kind) (i : ℕ) → last_part k ≡ Some i → (cs : List Node) (d : Node) → slice_get (plain_children k cs) i ≡ Some d → Ends k i cs d
unfolding plain_children
last_changed kind.IfStmt i l cs d at =
    let is : 2 ≡ i = some_same l in
    subst (λ j. Ends kind.IfStmt j cs d) is (here_changed 2 cs d (sym (second_left (changed_at 2 body_of cs)) ∙ (ap (slice_get (changed_at 1 body_of (changed_at 2 body_of cs))) is ∙ at)))
last_changed kind.LabeledStmt i l cs d at = let is : 1 ≡ i = some_same l in subst (λ j. Ends kind.LabeledStmt j cs d) is (here_changed 1 cs d (ap (slice_get (changed_at 1 body_of cs)) is ∙ at))
last_changed kind.WhileStmt i l cs d at = let is : 1 ≡ i = some_same l in subst (λ j. Ends kind.WhileStmt j cs d) is (here_changed 1 cs d (ap (slice_get (changed_at 1 body_of cs)) is ∙ at))
last_changed kind.ForStmt i l cs d at = let is : 3 ≡ i = some_same l in subst (λ j. Ends kind.ForStmt j cs d) is (here_changed 3 cs d (ap (slice_get (changed_at 3 body_of cs)) is ∙ at))
last_changed kind.ForInStmt i l cs d at = let is : 2 ≡ i = some_same l in subst (λ j. Ends kind.ForInStmt j cs d) is (here_changed 2 cs d (ap (slice_get (changed_at 2 body_of cs)) is ∙ at))
last_changed (kind.ForOfStmt is_await) i l cs d at = let is : 2 ≡ i = some_same l in subst (λ j. Ends (kind.ForOfStmt is_await) j cs d) is (here_changed 2 cs d (ap (slice_get (changed_at 2 body_of cs)) is ∙ at))
last_changed _ i l cs d at = cc

last_usual : (k : Kind) (i : ℕ) → last_part k ≡ Some i → (s : Shape) (m : ℕ) (o : Shape) → slice_get (child_shapes k s m) i ≡ Some o → AsUsual o
last_usual kind.IfStmt i l s m o at = subst AsUsual (some_same (ap (slice_get (child_shapes kind.IfStmt s m)) (some_same l) ∙ at)) (maybe_usual sort.Stmt refl)
last_usual kind.LabeledStmt i l s m o at = subst AsUsual (some_same (ap (slice_get (child_shapes kind.LabeledStmt s m)) (some_same l) ∙ at)) (one_usual sort.Stmt refl)
last_usual kind.WhileStmt i l s m o at = subst AsUsual (some_same (ap (slice_get (child_shapes kind.WhileStmt s m)) (some_same l) ∙ at)) (one_usual sort.Stmt refl)
last_usual kind.ForStmt i l s m o at = subst AsUsual (some_same (ap (slice_get (child_shapes kind.ForStmt s m)) (some_same l) ∙ at)) (one_usual sort.Stmt refl)
last_usual kind.ForInStmt i l s m o at = subst AsUsual (some_same (ap (slice_get (child_shapes kind.ForInStmt s m)) (some_same l) ∙ at)) (one_usual sort.Stmt refl)
last_usual (kind.ForOfStmt is_await) i l s m o at = subst AsUsual (some_same (ap (slice_get (child_shapes (kind.ForOfStmt is_await) s m)) (some_same l) ∙ at)) (one_usual sort.Stmt refl)
last_usual _ i l s m o at = cc

holds_there : (cs : List Node) (i : ℕ) → holds_at (map takes_else cs) i ≡ true → (c : Node) × (slice_get cs i ≡ Some c) × (takes_else c ≡ true)
holds_there [] i h = cc
holds_there (c ∷ cs) zero h = (c, refl, h)
holds_there (c ∷ cs) (suc i) h = holds_there cs i h

there_holds : (cs : List Node) (i : ℕ) (c : Node) → slice_get cs i ≡ Some c → takes_else c ≡ true → holds_at (map takes_else cs) i ≡ true
there_holds [] i c at h = cc
there_holds (x ∷ xs) zero c at h = let same : x ≡ c = cc in ap takes_else same ∙ h
there_holds (x ∷ xs) (suc i) c at h = there_holds xs i c at h

-- ---- what takes an `else` without types took it

abbrev Took : Node → Type 0
Took n = (s : Shape) → HasShape s n → class_of (kind_of n) ≡ Usual → takes_else (stripped n) ≡ true → takes_else n ≡ true

either : (a b : Bool) → (a || b) ≡ true → (a ≡ true) ⊎ (b ≡ true)
either true b h = inl refl
either false b h = inr h

node_took : (n : Node) → ((i : ℕ) (c : Node) → slice_get (children_of n) i ≡ Some c → Took c) → Took n
node_took n below s h u g =
    by (either (is_absent (kind_of (stripped n))) (holds_at_last (map takes_else (children_of (stripped n))) (last_part (kind_of (stripped n)))) (sym (takes_else-out (stripped n)) ∙ g))
  where
    ends : (l : Option ℕ) → last_part (kind_of n) ≡ l → holds_at_last (map takes_else (plain_children (kind_of n) (map stripped (children_of n)))) l ≡ true → holds_at_last (map takes_else (children_of n)) l ≡ true
    ends None l t = t
    ends (Some i) l t =
        let a = holds_there (plain_children (kind_of n) (map stripped (children_of n))) i t in
        let b = last_changed (kind_of n) i l (map stripped (children_of n)) a.0 a.1 in
        let m = map_at stripped (children_of n) i b.0 b.1 in
        let w = have_at (child_shapes (kind_of n) s (length (children_of n))) (children_of n) (shape_parts n s h).1 i m.0 m.1 in
        let u' = last_usual (kind_of n) i l s (length (children_of n)) w.0 w.1 (kind_of m.0) (shape_parts m.0 w.0 w.2).0 in
        there_holds (children_of n) i m.0 m.1 (below i m.0 m.1 w.0 w.2 u' (ap takes_else m.2 ∙ body_takes b.0 (ap takes_else b.2 ∙ a.2)))

    by : (is_absent (kind_of (stripped n)) ≡ true) ⊎ (holds_at_last (map takes_else (children_of (stripped n))) (last_part (kind_of (stripped n))) ≡ true) → takes_else n ≡ true
    by (inl a) = takes_else-out n ∙ ap (λ b. b || holds_at_last (map takes_else (children_of n)) (last_part (kind_of n))) (sym (absent_plain (kind_of n)) ∙ (ap is_absent (sym (usual_kind n u)) ∙ a))
    by (inr t) =
        takes_else-out n
        ∙ (ap (λ b. is_absent (kind_of n) || b)
        (ends (last_part (kind_of n)) refl
        (sym (ap₂ (λ z l. holds_at_last (map takes_else z) l) (usual_children n u) (ap last_part (usual_kind n u) ∙ last_plain (kind_of n))) ∙ t))
        ∙ or_true (is_absent (kind_of n)))

each_took : (es : List ((n : Node) × Took n)) (i : ℕ) (c : Node) → slice_get (map (λ e. e.0) es) i ≡ Some c → Took c
each_took [] i c at = cc
each_took (e ∷ es) zero c at = let same : e.0 ≡ c = cc in subst Took same e.1
each_took (e ∷ es) (suc i) c at = each_took es i c at

took : (n : Node) → Took n
took = ind-Node Took (λ x y is. node_took (roll-Node x) (λ i c at.
    each_took y.children i c (ap (λ (z : Node-F Node). slice_get z.children i) is ∙ (sym (ap (λ (z : Node-F Node). slice_get z.children i) (out-roll-Node x)) ∙ at))))

-- ---- an `if` with an `else`

first_left : (cs : List Node) → slice_get (changed_at 2 body_of cs) 1 ≡ slice_get cs 1
first_left [] = refl
first_left (a ∷ []) = refl
first_left (a ∷ b ∷ []) = refl
first_left (a ∷ b ∷ c ∷ cs) = refl

-- what is missing is missing as a body
absent_body : (d : Node) → kind_of d ≡ kind.Absent → body_of d ≡ d
absent_body d e = ap (λ b. cond b d (node_of (out-Node d).span kind.EmptyStmt [])) (ap (λ z. cond (is_empty_stmt z) true (cond (belongs sort.ModuleItem z) (is_value d && not (is_ambient d)) true)) e)

plain_absent : plain_kind kind.Absent ≡ kind.Absent
unfolding plain_kind
plain_absent = refl

only_absent : (k : Kind) → is_present k ≡ false → k ≡ kind.Absent
only_absent kind.Absent h = refl
only_absent _ h = cc

holds_some : (test : Node → Bool) (o : Option Node) → holds_of test o ≡ true → (d : Node) × (o ≡ Some d) × (test d ≡ true)
holds_some test None h = cc
holds_some test (Some d) h = (d, refl, h)

kind_some : (is : Kind → Bool) (o : Option Node) → of_kind is o ≡ true → (d : Node) × (o ≡ Some d) × (is (kind_of d) ≡ true)
kind_some is None h = cc
kind_some is (Some d) h = (d, refl, h)

-- its parts
abbrev branches : List Node → List Node
branches cs = changed_at 1 body_of (changed_at 2 body_of cs)

if_children : (k : Kind) → is_choice k ≡ true → (cs : List Node) → plain_children k cs ≡ branches cs
unfolding plain_children
if_children kind.IfStmt c cs = refl
if_children _ c cs = cc

if_shapes : (k : Kind) → is_choice k ≡ true → (s : Shape) (m : ℕ) → child_shapes k s m ≡ one sort.Expr ∷ one sort.Stmt ∷ maybe sort.Stmt ∷ []
if_shapes kind.IfStmt c s m = refl
if_shapes _ c s m = cc

module _ (n : Node) (s : Shape) (h : HasShape s n) (u : class_of (kind_of n) ≡ Usual) (c : is_choice (kind_of n) ≡ true) where
  parts : children_of (stripped n) ≡ branches (map stripped (children_of n))
  parts = usual_children n u ∙ if_children (kind_of n) c (map stripped (children_of n))

  shape_at : (i : ℕ) (x : Node) → slice_get (children_of n) i ≡ Some x → (o : Shape) × (slice_get (one sort.Expr ∷ one sort.Stmt ∷ maybe sort.Stmt ∷ []) i ≡ Some o) × HasShape o x
  shape_at = have_at (one sort.Expr ∷ one sort.Stmt ∷ maybe sort.Stmt ∷ []) (children_of n)
      (subst (λ os. HaveShapes os (children_of n)) (if_shapes (kind_of n) c s (length (children_of n))) (shape_parts n s h).1)

  then_took : child_holds takes_else (stripped n) 1 ≡ true → child_holds takes_else n 1 ≡ true
  then_took g =
      let a = holds_some takes_else (slice_get (branches (map stripped (children_of n))) 1) (ap (λ (z : List Node). holds_of takes_else (slice_get z 1)) (sym parts) ∙ g) in
      let b = here_changed 1 (changed_at 2 body_of (map stripped (children_of n))) a.0 a.1 in
      let m = map_at stripped (children_of n) 1 b.0 (sym (first_left (map stripped (children_of n))) ∙ b.1) in
      let w = shape_at 1 m.0 m.1 in
      let has : HasShape (one sort.Stmt) m.0 = subst (λ z. HasShape z m.0) (sym (some_same w.1)) w.2 in
      ap (holds_of takes_else) m.1 ∙ took m.0 (one sort.Stmt) has (one_usual sort.Stmt refl (kind_of m.0) (shape_parts m.0 (one sort.Stmt) has).0) (ap takes_else m.2 ∙ body_takes b.0 (ap takes_else b.2 ∙ a.2))

  else_present : (x d : Node) → class_of (kind_of x) ≡ Usual → body_of (stripped x) ≡ d → is_present (kind_of d) ≡ true → is_present (kind_of x) ≡ true
  else_present x d ux is p = by (is_present (kind_of x)) refl
    where
      by : (b : Bool) → is_present (kind_of x) ≡ b → is_present (kind_of x) ≡ true
      by true e = e
      by false e =
          let k : kind_of (stripped x) ≡ kind.Absent = usual_kind x ux ∙ (ap plain_kind (only_absent (kind_of x) e) ∙ plain_absent) in
          let gone : is_present (kind_of d) ≡ false = ap (λ z. is_present (kind_of z)) (sym is ∙ absent_body (stripped x) k) ∙ ap is_present k in
          cc

  had_else : has_child (stripped n) 2 ≡ true → has_child n 2 ≡ true
  had_else g =
      let a = kind_some is_present (slice_get (branches (map stripped (children_of n))) 2) (ap (λ (z : List Node). of_kind is_present (slice_get z 2)) (sym parts) ∙ g) in
      let b = here_changed 2 (map stripped (children_of n)) a.0 (sym (second_left (changed_at 2 body_of (map stripped (children_of n)))) ∙ a.1) in
      let m = map_at stripped (children_of n) 2 b.0 b.1 in
      let w = shape_at 2 m.0 m.1 in
      let has : HasShape (maybe sort.Stmt) m.0 = subst (λ z. HasShape z m.0) (sym (some_same w.1)) w.2 in
      ap (of_kind is_present) m.1
      ∙ else_present m.0 a.0 (maybe_usual sort.Stmt refl (kind_of m.0) (shape_parts m.0 (maybe sort.Stmt) has).0) (ap body_of m.2 ∙ b.2) a.2

abbrev dangles : Kind → Node → Bool
dangles k n = is_choice k && (has_child n 2 && child_holds takes_else n 1)

not_true : (a b c d : Bool) → (a ≡ true → c ≡ true) → (b ≡ true → d ≡ true) → (c && d) ≡ false → (a && b) ≡ false
not_true false b c d f g h = refl
not_true true false c d f g h = refl
not_true true true c d f g h = let x : c ≡ true = f refl in let y : d ≡ true = g refl in cc

dangles_by : (k : Kind) (n m : Node) → (is_choice k ≡ true → (has_child m 2 ≡ true → has_child n 2 ≡ true) × (child_holds takes_else m 1 ≡ true → child_holds takes_else n 1 ≡ true)) → dangles k n ≡ false → dangles (plain_kind k) m ≡ false
dangles_by k n m back h = ap (λ b. b && (has_child m 2 && child_holds takes_else m 1)) (choice_plain k) ∙ by (is_choice k) refl h
  where
    by : (b : Bool) → is_choice k ≡ b → (b && (has_child n 2 && child_holds takes_else n 1)) ≡ false → (b && (has_child m 2 && child_holds takes_else m 1)) ≡ false
    by true c f = let t = back c in not_true (has_child m 2) (child_holds takes_else m 1) (has_child n 2) (child_holds takes_else n 1) t.0 t.1 f
    by false c f = refl

pub branches_kept : (tree : Node) → Fits tree → NoneFails (λ w n. is_dangling n) (stripped tree)
branches_kept =
    test_kept dangles (λ n. refl) (λ n. refl) (λ n. refl)
    (λ n s w u h none. dangles_by (kind_of n) n (stripped n) (λ c. (had_else n s h u c, then_took n s h u c)) (not_dangling w n none))
