-- The sorts of trees are those of the trees with explicit parentheses.
use Rattle.std.proofs.Common.{◌≡◌, ℕ, zero, suc, refl, sym, ap, subst, ◌∙◌, ltb, ◌||◌, List, [], ◌∷◌, map, length, replicate, Bool, true, false, if◌then◌else◌}
use Rattle.ecma_kind.specs.Sorts.{belongs, is_expr}
use Rattle.ecma_kind.specs.declared.span.Span.{Span}
use Rattle.ecma_kind.specs.declared.kind.Kind.{Kind}
use Rattle.ecma_kind.specs.declared.kind.Kind.TheVariants as kind
use Rattle.ecma_kind.specs.declared.shapes.Count.{Count}
use Rattle.ecma_kind.specs.declared.shapes.Count.TheVariants.{One, Maybe, Many, MaybeMany, Holes}
use Rattle.ecma_kind.specs.declared.shapes.Shape.{Shape}
use Rattle.ecma_kind.specs.declared.shapes.Sort.{Sort}
use Rattle.ecma_kind.specs.declared.shapes.Sort.TheVariants as sort
use Rattle.ecma_tree.specs.declared.node.Node.{Node, ind-Node}
use Rattle.ecma_tree.specs.Laws.{HaveShapes}
use Rattle.ecma_tree.specs.Nodes.{dummy_span, node_of}
use Rattle.ecma_tree.specs.Sorted.{HasShape, allows, allows_by, child_shapes, is_absent, is_list, item_shape, one}
use Rattle.ecma_tree.proofs.ShapeLaws.{node_has_shape}
use Rattle.ecma_print.specs.declared.place.Spot.{Spot}
use Rattle.ecma_print.specs.Places.{free}
use Rattle.ecma_print.specs.Laid.{Laid}
use Rattle.ecma_print.specs.Layout.{laid}
use Rattle.ecma_print.specs.Levels.{in_parentheses}
use Rattle.ecma_print.specs.Spots.{first_spots, further_spot}
use Rattle.ecma_print.specs.Explicit.{in_spots, parenthesized, stood}
use Rattle.ecma_print_parentheses.specs.Laws.{SortsAreKept}
use Rattle.ecma_print_parentheses.proofs.Asking.{Fits, AllFit, first_fit, further_fits}
use Rattle.ecma_print_parentheses.proofs.Spotted.{bare', spotted, stands_in}

never : {A : Type 0} (b : Bool) → b ≡ false → (b || false) ≡ true → A
never true h k = cc
never false h k = cc

-- what may stand in parentheses: an operation, a call or a function by its level, and what is misread somewhere
abbrev is_loose : Kind → Bool
is_loose kind.SeqExpr = true
is_loose (kind.AssignExpr op) = true
is_loose (kind.ArrowExpr is_async is_generator) = true
is_loose (kind.YieldExpr delegate) = true
is_loose kind.CondExpr = true
is_loose (kind.BinExpr op) = true
is_loose (kind.UnaryExpr op) = true
is_loose kind.AwaitExpr = true
is_loose (kind.UpdateExpr op prefix) = true
is_loose kind.CallExpr = true
is_loose (kind.OptChainExpr optional) = true
is_loose k = false

abbrev pub is_misreadable : Kind → Bool
is_misreadable kind.NewExpr = true
is_misreadable (kind.Number value raw) = true
is_misreadable kind.ObjectLit = true
is_misreadable kind.FnExpr = true
is_misreadable kind.ClassExpr = true
is_misreadable k = is_loose k

pub closed_is_misreadable : (k : Kind) (children : List Laid) (spot : Spot) → Fits spot → in_parentheses k children spot ≡ true → is_misreadable k ≡ true
closed_is_misreadable kind.SeqExpr children spot fits h = refl
closed_is_misreadable (kind.AssignExpr op) children spot fits h = refl
closed_is_misreadable (kind.ArrowExpr is_async is_generator) children spot fits h = refl
closed_is_misreadable (kind.YieldExpr delegate) children spot fits h = refl
closed_is_misreadable kind.CondExpr children spot fits h = refl
closed_is_misreadable (kind.BinExpr op) children spot fits h = refl
closed_is_misreadable (kind.UnaryExpr op) children spot fits h = refl
closed_is_misreadable kind.AwaitExpr children spot fits h = refl
closed_is_misreadable (kind.UpdateExpr op prefix) children spot fits h = refl
closed_is_misreadable kind.CallExpr children spot fits h = refl
closed_is_misreadable (kind.OptChainExpr optional) children spot fits h = refl
closed_is_misreadable kind.NewExpr children spot fits h = refl
closed_is_misreadable (kind.Number value raw) children spot fits h = refl
closed_is_misreadable kind.ObjectLit children spot fits h = refl
closed_is_misreadable kind.FnExpr children spot fits h = refl
closed_is_misreadable kind.ClassExpr children spot fits h = refl
closed_is_misreadable _ children spot fits h = never (ltb 17 spot.level) fits h

closed_is_loose : (k : Kind) (children : List Laid) (level : ℕ) → ltb 17 level ≡ false → in_parentheses k children (free level) ≡ true → is_loose k ≡ true
closed_is_loose kind.SeqExpr children level fits h = refl
closed_is_loose (kind.AssignExpr op) children level fits h = refl
closed_is_loose (kind.ArrowExpr is_async is_generator) children level fits h = refl
closed_is_loose (kind.YieldExpr delegate) children level fits h = refl
closed_is_loose kind.CondExpr children level fits h = refl
closed_is_loose (kind.BinExpr op) children level fits h = refl
closed_is_loose (kind.UnaryExpr op) children level fits h = refl
closed_is_loose kind.AwaitExpr children level fits h = refl
closed_is_loose (kind.UpdateExpr op prefix) children level fits h = refl
closed_is_loose kind.CallExpr children level fits h = refl
closed_is_loose (kind.OptChainExpr optional) children level fits h = refl
closed_is_loose _ children level fits h = never (ltb 17 level) fits h

misreadable_is_expr : (k : Kind) → is_misreadable k ≡ true → is_expr k ≡ true
misreadable_is_expr kind.SeqExpr h = refl
misreadable_is_expr (kind.AssignExpr op) h = refl
misreadable_is_expr (kind.ArrowExpr is_async is_generator) h = refl
misreadable_is_expr (kind.YieldExpr delegate) h = refl
misreadable_is_expr kind.CondExpr h = refl
misreadable_is_expr (kind.BinExpr op) h = refl
misreadable_is_expr (kind.UnaryExpr op) h = refl
misreadable_is_expr kind.AwaitExpr h = refl
misreadable_is_expr (kind.UpdateExpr op prefix) h = refl
misreadable_is_expr kind.CallExpr h = refl
misreadable_is_expr (kind.OptChainExpr optional) h = refl
misreadable_is_expr kind.NewExpr h = refl
misreadable_is_expr (kind.Number value raw) h = refl
misreadable_is_expr kind.ObjectLit h = refl
misreadable_is_expr kind.FnExpr h = refl
misreadable_is_expr kind.ClassExpr h = refl
misreadable_is_expr _ h = absurd (cc)

-- a sort that has one of these has parentheses
loose_sort : (sort : Sort) (k : Kind) → is_loose k ≡ true → belongs sort k ≡ true → belongs sort kind.ParenExpr ≡ true
loose_sort sort.Expr k l b = refl
loose_sort sort.Pat k l b = refl
loose_sort sort.Callee k l b = refl
loose_sort sort.ExprOrSpread k l b = refl
loose_sort sort.AssignTarget k l b = refl
loose_sort sort.SimpleAssignTarget k l b = refl
loose_sort sort.BlockStmtOrExpr k l b = refl
loose_sort sort.VarDeclOrExpr k l b = refl
loose_sort sort.ForHead k l b = refl
loose_sort _ kind.SeqExpr l b = absurd (cc)
loose_sort _ (kind.AssignExpr op) l b = absurd (cc)
loose_sort _ (kind.ArrowExpr is_async is_generator) l b = absurd (cc)
loose_sort _ (kind.YieldExpr delegate) l b = absurd (cc)
loose_sort _ kind.CondExpr l b = absurd (cc)
loose_sort _ (kind.BinExpr op) l b = absurd (cc)
loose_sort _ (kind.UnaryExpr op) l b = absurd (cc)
loose_sort _ kind.AwaitExpr l b = absurd (cc)
loose_sort _ (kind.UpdateExpr op prefix) l b = absurd (cc)
loose_sort _ kind.CallExpr l b = absurd (cc)
loose_sort _ (kind.OptChainExpr optional) l b = absurd (cc)
loose_sort _ _ l b = absurd (cc)

-- no link of a chain and no declarator stands in parentheses
base_sort : (k : Kind) → is_misreadable k ≡ true → belongs sort.OptChainBase k ≡ true → belongs sort.OptChainBase kind.ParenExpr ≡ true
base_sort kind.MemberExpr l b = absurd (cc)
base_sort kind.OptCall l b = absurd (cc)
base_sort _ l b = absurd (cc)

declarator_sort : (k : Kind) → is_misreadable k ≡ true → belongs sort.VarDeclarator k ≡ true → belongs sort.VarDeclarator kind.ParenExpr ≡ true
declarator_sort (kind.VarDeclarator definite) l b = absurd (cc)
declarator_sort _ l b = absurd (cc)

-- where a node of a sort stands in parentheses, so may parentheses
record Admits (sort : Sort) (spot : Spot) : Type 0 where
  admit : (k : Kind) (children : List Laid) → belongs sort k ≡ true → in_parentheses k children spot ≡ true → belongs sort kind.ParenExpr ≡ true

admits_free : {sort : Sort} (spot : Spot) → spot ≡ free spot.level → Fits spot → Admits sort spot
admits_free {sort = sort} spot is fits = record { admit = λ k children b h. loose_sort sort k (closed_is_loose k children spot.level fits (ap (in_parentheses k children) (sym is) ∙ h)) b }

data AllAdmit : List Shape → List Spot → Spot → Type 0 where
  none : {spots : List Spot} {further : Spot} → AllAdmit [] spots further
  last : {shape : Shape} {shapes : List Shape} {further : Spot} → Admits shape.sort further → AllAdmit shapes [] further → AllAdmit (shape ∷ shapes) [] further
  first : {shape : Shape} {shapes : List Shape} {spot : Spot} {spots : List Spot} {further : Spot} → Admits shape.sort spot → AllAdmit shapes spots further → AllAdmit (shape ∷ shapes) (spot ∷ spots) further

all_admit_free : {shapes : List Shape} (spot : Spot) → spot ≡ free spot.level → Fits spot → AllAdmit shapes [] spot
all_admit_free {shapes = []} spot is fits = none
all_admit_free {shapes = shape ∷ shapes} spot is fits = last (admits_free spot is fits) (all_admit_free spot is fits)

all_admit_replicate : (n : ℕ) (shape : Shape) (spot : Spot) → Admits shape.sort spot → AllAdmit (replicate n shape) [] spot
all_admit_replicate zero shape spot h = none
all_admit_replicate (suc n) shape spot h = last h (all_admit_replicate n shape spot h)

-- so it is for the children of each kind
admitted : (k : Kind) (shape : Shape) (n : ℕ) (children : List Laid) (spot : Spot) → Fits spot → Admits shape.sort spot → AllAdmit (child_shapes k shape n) (first_spots k children spot) (further_spot k spot)
admitted (kind.UnaryExpr op) shape n children spot fits h = first (record { admit = λ k cs b p. refl }) (all_admit_free (free 0) refl refl)
admitted (kind.UpdateExpr op true) shape n children spot fits h = first (record { admit = λ k cs b p. refl }) (all_admit_free (free 0) refl refl)
admitted (kind.UpdateExpr op false) shape n children spot fits h = first (record { admit = λ k cs b p. refl }) (all_admit_free (free 0) refl refl)
admitted (kind.BinExpr op) shape n children spot fits h = first (record { admit = λ k cs b p. refl }) (first (record { admit = λ k cs b p. refl }) (all_admit_free (free 0) refl refl))
admitted (kind.AssignExpr op) shape n children spot fits h = first (record { admit = λ k cs b p. refl }) (first (record { admit = λ k cs b p. refl }) (all_admit_free (free 0) refl refl))
admitted kind.CondExpr shape n children spot fits h = first (record { admit = λ k cs b p. refl }) (first (record { admit = λ k cs b p. refl }) (first (record { admit = λ k cs b p. refl }) (all_admit_free (free 0) refl refl)))
admitted kind.SeqExpr shape zero children spot fits h = first (record { admit = λ k cs b p. refl }) none
admitted kind.SeqExpr shape (suc n) children spot fits h = first (record { admit = λ k cs b p. refl }) (all_admit_replicate n (one sort.Expr) _ (record { admit = λ k cs b p. refl }))
admitted (kind.YieldExpr delegate) shape n children spot fits h = first (record { admit = λ k cs b p. refl }) (all_admit_free (free 0) refl refl)
admitted kind.AwaitExpr shape n children spot fits h = first (record { admit = λ k cs b p. refl }) (all_admit_free (free 0) refl refl)
admitted kind.MemberExpr shape n children spot fits h = first (record { admit = λ k cs b p. refl }) (all_admit_free (free 0) refl refl)
admitted kind.CallExpr shape n children spot fits h = first (record { admit = λ k cs b p. refl }) (first (admits_free (free 1) refl refl) (all_admit_free (free 0) refl refl))
admitted kind.OptCall shape n children spot fits h = first (record { admit = λ k cs b p. refl }) (first (admits_free (free 1) refl refl) (all_admit_free (free 0) refl refl))
admitted kind.NewExpr shape n children spot fits h = first (record { admit = λ k cs b p. refl }) (first (admits_free (free 1) refl refl) (all_admit_free (free 0) refl refl))
admitted (kind.OptChainExpr optional) shape n children spot fits h = first (record { admit = λ k cs b p. base_sort k (closed_is_misreadable k cs _ refl p) b }) (all_admit_free (free 0) refl refl)
admitted kind.TaggedTpl shape n children spot fits h = first (record { admit = λ k cs b p. refl }) (all_admit_free (free 0) refl refl)
admitted kind.SpreadElement shape n children spot fits h = first (record { admit = λ k cs b p. refl }) (all_admit_free (free 0) refl refl)
admitted kind.ArrayLit shape n children spot fits h = first (admits_free (free 1) refl refl) (all_admit_free (free 0) refl refl)
admitted kind.ObjectLit shape n children spot fits h = first (admits_free (free 1) refl refl) (all_admit_free (free 0) refl refl)
admitted (kind.ArrowExpr is_async is_generator) shape n children spot fits h = first (admits_free (free 1) refl refl) (first (record { admit = λ k cs b p. refl }) (all_admit_free (free 0) refl refl))
admitted (kind.Class is_abstract) shape n children spot fits h = first (record { admit = λ k cs b p. refl }) (all_admit_free (free 0) refl refl)
admitted kind.ComputedPropName shape n children spot fits h = first (record { admit = λ k cs b p. refl }) (all_admit_free (free 0) refl refl)
admitted kind.ExprStmt shape n children spot fits h = first (record { admit = λ k cs b p. refl }) (all_admit_free (free 0) refl refl)
admitted kind.CatchClause shape n children spot fits h = first (admits_free (free 1) refl refl) (all_admit_free (free 0) refl refl)
admitted kind.ForStmt shape n children spot fits h = first (record { admit = λ k cs b p. refl }) (all_admit_free (free 0) refl refl)
admitted kind.ForInStmt shape n children spot fits h = first (record { admit = λ k cs b p. refl }) (all_admit_free (free 0) refl refl)
admitted (kind.ForOfStmt is_await) shape n children spot fits h = first (record { admit = λ k cs b p. refl }) (first (admits_free (free 1) refl refl) (all_admit_free (free 0) refl refl))
admitted (kind.VarDecl sort declare) shape n children spot fits h = first (record { admit = λ k cs b p. declarator_sort k (closed_is_misreadable k cs _ refl p) b }) (all_admit_free (free 0) refl refl)
admitted (kind.VarDeclarator definite) shape n children spot fits h = first (admits_free (free 1) refl refl) (first (record { admit = λ k cs b p. refl }) (all_admit_free (free 0) refl refl))
admitted kind.ExportDefaultExpr shape n children spot fits h = first (record { admit = λ k cs b p. refl }) (all_admit_free (free 0) refl refl)
admitted kind.List shape n children spot fits h = all_admit_replicate n (item_shape shape) spot h
admitted k shape n children spot fits h = all_admit_free (further_spot k spot) refl refl

-- each node in a spot where its sort admits parentheses
KeepsShape : Node → Type 0
KeepsShape n = (shape : Shape) → HasShape shape n → (spot : Spot) → Fits spot → Admits shape.sort spot → HasShape shape ((stood n).at spot)

abbrev Child : Type 0
Child = (n : Node) × KeepsShape n

abbrev nodes : List Child → List Node
nodes ns = map (λ e. e.0) ns

children_have : (shapes : List Shape) (ns : List Child) (spots : List Spot) (further : Spot) → HaveShapes shapes (nodes ns) → AllFit spots → Fits further → AllAdmit shapes spots further
    → HaveShapes shapes (in_spots (map stood (nodes ns)) spots further)
unfolding KeepsShape
children_have [] [] spots further h fit fits admit = tt
children_have [] (n ∷ ns) spots further h fit fits admit = absurd h
children_have (shape ∷ shapes) [] spots further h fit fits admit = absurd h
children_have (shape ∷ shapes) (n ∷ ns) [] further h fit fits (last admits admit) = (n.1 shape h.0 further fits admits, children_have shapes ns [] further h.1 fit fits admit)
children_have (shape ∷ shapes) (n ∷ ns) (spot ∷ spots) further h fit fits (first admits admit) = (n.1 shape h.0 spot fit.0 admits, children_have shapes ns spots further h.1 fit.1 fits admit)

length_in_spots : (ns : List Child) (spots : List Spot) (further : Spot) → length (in_spots (map stood (nodes ns)) spots further) ≡ length (nodes ns)
length_in_spots [] spots further = refl
length_in_spots (n ∷ ns) [] further = ap suc (length_in_spots ns [] further)
length_in_spots (n ∷ ns) (spot ∷ spots) further = ap suc (length_in_spots ns spots further)

-- an expression asks the same of its children, whatever its own shape
asked_of_expr : (k : Kind) (shape shape' : Shape) (n : ℕ) → is_expr k ≡ true → child_shapes k shape n ≡ child_shapes k shape' n
asked_of_expr kind.List shape shape' n h = absurd (cc)
asked_of_expr kind.SeqExpr shape shape' zero h = refl
asked_of_expr kind.SeqExpr shape shape' (suc n) h = refl
asked_of_expr _ shape shape' n h = refl

-- what may stand in parentheses is neither missing nor a list
misreadable_there : (k : Kind) (b : Bool) → is_misreadable k ≡ true → (is_absent k || b) ≡ true → b ≡ true
misreadable_there kind.Absent b e h = absurd (cc)
misreadable_there _ b e h = h

misreadable_no_list : {A : Type 0} (k : Kind) → is_misreadable k ≡ true → is_list k ≡ true → A
misreadable_no_list kind.List e h = absurd (cc)
misreadable_no_list _ e h = absurd (cc)

misreadable_no_list' : {A : Type 0} (k : Kind) → is_misreadable k ≡ true → (is_absent k || is_list k) ≡ true → A
misreadable_no_list' kind.Absent e h = absurd (cc)
misreadable_no_list' kind.List e h = absurd (cc)
misreadable_no_list' _ e h = absurd (cc)

-- an expression that stands in parentheses: its shape allows these
allowed_in_parentheses : (count : Count) (sort : Sort) (k : Kind) → is_misreadable k ≡ true → (belongs sort k ≡ true → belongs sort kind.ParenExpr ≡ true) → allows_by count sort k ≡ true → allows_by count sort kind.ParenExpr ≡ true
allowed_in_parentheses One sort k e h a = h a
allowed_in_parentheses Maybe sort k e h a = h (misreadable_there k (belongs sort k) e a)
allowed_in_parentheses Many sort k e h a = misreadable_no_list k e a
allowed_in_parentheses MaybeMany sort k e h a = misreadable_no_list' k e a
allowed_in_parentheses Holes sort k e h a = misreadable_no_list k e a

module _ (span : Span) (k : Kind) (ns : List Child) where
  bare_has : (shape : Shape) → allows shape k ≡ true → HaveShapes (child_shapes k shape (length (nodes ns))) (nodes ns) → (spot : Spot) → Fits spot → Admits shape.sort spot → HasShape shape (bare' span k (nodes ns) spot)
  bare_has shape allowed h spot fits admits =
      let e : length (spotted k (nodes ns) spot) ≡ length (nodes ns) = length_in_spots ns (first_spots k (map laid (nodes ns)) spot) (further_spot k spot) in
      let have : HaveShapes (child_shapes k shape (length (nodes ns))) (spotted k (nodes ns) spot) =
      children_have (child_shapes k shape (length (nodes ns))) ns (first_spots k (map laid (nodes ns)) spot) (further_spot k spot) h (first_fit k (map laid (nodes ns)) spot fits) (further_fits k spot fits)
      (admitted k shape (length (nodes ns)) (map laid (nodes ns)) spot fits admits) in
      (node_has_shape span k (spotted k (nodes ns) spot) shape).1 (allowed, subst (λ n. HaveShapes (child_shapes k shape n) (spotted k (nodes ns) spot)) (sym e) have)

  parenthesized_has : (shape : Shape) → allows shape k ≡ true → HaveShapes (child_shapes k shape (length (nodes ns))) (nodes ns) → is_misreadable k ≡ true → (belongs shape.sort k ≡ true → belongs shape.sort kind.ParenExpr ≡ true)
      → HasShape shape (parenthesized (bare' span k (nodes ns) (free 0)))
  parenthesized_has shape allowed h e admits =
      let expr = misreadable_is_expr k e in
      let inner : HasShape (one sort.Expr) (bare' span k (nodes ns) (free 0)) =
      bare_has (one sort.Expr) expr (subst (λ shapes. HaveShapes shapes (nodes ns)) (asked_of_expr k shape (one sort.Expr) (length (nodes ns)) expr) h) (free 0) refl (admits_free (free 0) refl refl) in
      (node_has_shape dummy_span kind.ParenExpr (bare' span k (nodes ns) (free 0) ∷ []) shape).1 (allowed_in_parentheses shape.count shape.sort k e admits allowed, (inner, tt))

  either_has : (shape : Shape) → allows shape k ≡ true → HaveShapes (child_shapes k shape (length (nodes ns))) (nodes ns) → (spot : Spot) → Fits spot → Admits shape.sort spot
      → (b : Bool) → in_parentheses k (map laid (nodes ns)) spot ≡ b → HasShape shape (if b then parenthesized (bare' span k (nodes ns) (free 0)) else bare' span k (nodes ns) spot)
  either_has shape allowed h spot fits admits true is =
      parenthesized_has shape allowed h (closed_is_misreadable k (map laid (nodes ns)) spot fits is) (λ b. admits.admit k (map laid (nodes ns)) b is)
  either_has shape allowed h spot fits admits false is = bare_has shape allowed h spot fits admits

  layer_keeps : KeepsShape (node_of span k (nodes ns))
  unfolding KeepsShape
  layer_keeps shape h spot fits admits =
      let have = (node_has_shape span k (nodes ns) shape).0 h in
      subst (HasShape shape) (sym (stands_in span k (nodes ns) spot)) (either_has shape have.0 have.1 spot fits admits (in_parentheses k (map laid (nodes ns)) spot) refl)

all_keep : (n : Node) → KeepsShape n
all_keep = ind-Node KeepsShape (λ x y is. subst (λ ns. KeepsShape (node_of x.span x.kind ns)) (ap (λ z. z.children) is) (layer_keeps x.span x.kind y.children))

pub sorts_are_kept : SortsAreKept
unfolding KeepsShape
sorts_are_kept m shape h = all_keep m shape h (free 0) refl (admits_free (free 0) refl refl)
