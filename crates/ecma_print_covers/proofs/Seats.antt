-- In which spots patterns that are assigned to stand.
use Rattle.std.specs.Prelude.{◌==◌}
use Rattle.ecma_print.specs.declared.place.Beside.TheVariants.{NoNeighbor}
use Rattle.std.proofs.Common.{◌≡◌, refl, sym, subst, cond, ℕ, suc, ltb, ◌||◌, ◌&&◌, Bool, true, false, List, [], ◌∷◌, map, length}
use Rattle.ecma_kind.specs.declared.operators.AssignOp.{AssignOp}
use Rattle.ecma_kind.specs.declared.operators.AssignOp.TheVariants.{Assign}
use Rattle.ecma_kind.specs.declared.kind.Kind.{Kind}
use Rattle.ecma_kind.specs.declared.kind.Kind.TheVariants as kind
use Rattle.ecma_kind.specs.declared.shapes.Shape.{Shape}
use Rattle.ecma_tree.specs.declared.node.Node.{Node}
use Rattle.ecma_tree.specs.Laws.{HaveShapes}
use Rattle.ecma_tree.specs.Sorted.{child_shapes}
use Rattle.ecma_print.specs.declared.place.Spot.{Spot}
use Rattle.ecma_print.specs.Laid.{is_object_pattern}
use Rattle.ecma_print.specs.Layout.{laid}
use Rattle.ecma_print.specs.Levels.{in_parentheses}
use Rattle.ecma_print.specs.Places.{free, left, opens_a_block}
use Rattle.ecma_print.specs.Spots.{first_spots, further_spot}
use Rattle.ecma_rules.specs.declared.target.Target.{Target}
use Rattle.ecma_rules.specs.declared.target.Target.TheVariants as target
use Rattle.ecma_rules.specs.Targets.{at_child, in_list, in_literal, in_short_default, in_spread, in_value, on_left, takes_patterns, target_in}
use Rattle.ecma_covers.specs.Placing.{as_read}

-- a node of which this is asked stands in such a spot: where `{` would open a block, no object pattern does
abbrev pub Seated : Target → Spot → Node → Type 0
Seated target.Free spot n = Unit {0}
Seated target.Simple spot n = Unit {0}
Seated target.Left spot n = is_object_pattern (laid n).kind ≡ true → opens_a_block spot.begins ≡ false
Seated target.Head spot n = opens_a_block spot.begins ≡ false
Seated _ spot n = spot ≡ free 1

-- each in its spot: the first ones in these, all others in this one
abbrev pub AllSeated : (ℕ → Target) → List Node → List Spot → Spot → Type 0
AllSeated asked [] spots further = Unit {0}
AllSeated asked (n ∷ ns) [] further = Seated (asked 0) further n × AllSeated (λ i. asked (suc i)) ns [] further
AllSeated asked (n ∷ ns) (spot ∷ spots) further = Seated (asked 0) spot n × AllSeated (λ i. asked (suc i)) ns spots further

free_seated : (t : Target) → t ≡ target.Free → (spot : Spot) (n : Node) → Seated t spot n
free_seated t e spot n = subst (λ u. Seated u spot n) (sym e) tt

all_free : (asked : ℕ → Target) → ((i : ℕ) → asked i ≡ target.Free) → (ns : List Node) (spots : List Spot) (further : Spot) → AllSeated asked ns spots further
all_free asked e [] spots further = tt
all_free asked e (n ∷ ns) [] further = (free_seated (asked 0) (e 0) further n, all_free (λ i. asked (suc i)) (λ i. e (suc i)) ns [] further)
all_free asked e (n ∷ ns) (spot ∷ spots) further = (free_seated (asked 0) (e 0) spot n, all_free (λ i. asked (suc i)) (λ i. e (suc i)) ns spots further)

all_simple : (ns : List Node) (spots : List Spot) (further : Spot) → AllSeated (λ i. target.Simple) ns spots further
all_simple [] spots further = tt
all_simple (n ∷ ns) [] further = (tt, all_simple ns [] further)
all_simple (n ∷ ns) (spot ∷ spots) further = (tt, all_simple ns spots further)

all_listed : (t : Target) (spot : Spot) → ((n : Node) → Seated t spot n) → (ns : List Node) → AllSeated (λ i. t) ns [] spot
all_listed t spot h [] = tt
all_listed t spot h (n ∷ ns) = (h n, all_listed t spot h ns)

either_free : (b : Bool) → cond b target.Free target.Free ≡ target.Free
either_free true = refl
either_free false = refl

free_at : (wanted i : ℕ) (t : Target) → t ≡ target.Free → at_child wanted i t ≡ target.Free
free_at wanted i t e = rw e (either_free (i == wanted))

array_free : (t : Target) → as_read t kind.ArrayLit ≡ true → in_literal t target.Elements ≡ target.Free
array_free target.Left h = absurd (cc)
array_free target.Head h = absurd (cc)
array_free target.Part h = absurd (cc)
array_free target.Element h = absurd (cc)
array_free _ h = refl

object_free : (t : Target) → as_read t kind.ObjectLit ≡ true → in_literal t target.Properties ≡ target.Free
object_free target.Left h = absurd (cc)
object_free target.Head h = absurd (cc)
object_free target.Part h = absurd (cc)
object_free target.Element h = absurd (cc)
object_free _ h = refl

spread_free : (t : Target) → as_read t kind.SpreadElement ≡ true → in_spread t ≡ target.Free
spread_free target.Element h = absurd (cc)
spread_free target.Property h = absurd (cc)
spread_free _ h = refl

value_free : (t : Target) → as_read t kind.KeyValueProp ≡ true → in_value t ≡ target.Free
value_free target.Property h = absurd (cc)
value_free _ h = refl

short_free : (t : Target) → as_read t kind.AssignProp ≡ true → in_short_default t ≡ target.Free
short_free target.Property h = absurd (cc)
short_free _ h = refl

list_seated : (t : Target) (spot : Spot) (n m : Node) → Seated t spot n → Seated (in_list t) spot m
list_seated target.Elements spot n m h = h
list_seated target.Properties spot n m h = h
list_seated _ spot n m h = tt

second_false : (a b c : Bool) → (a || (b && c)) ≡ false → c ≡ true → b ≡ false
second_false true b c h e = cc
second_false false true true h e = cc
second_false false true false h e = cc
second_false false false c h e = refl

-- what is on the left of `=` stands where `{` opens no block, if it is an object pattern
left_seated : (t : Target) (op : AssignOp) (a b : Node) (spot : Spot) → as_read t (kind.AssignExpr op) ≡ true → in_parentheses (kind.AssignExpr op) (map laid (a ∷ b ∷ [])) spot ≡ false → (inner : Spot) → inner.begins ≡ spot.begins
    → Seated (on_left t op) inner a
left_seated target.Element op a b spot h bare inner e = absurd (cc)
left_seated t Assign a b spot h bare inner e = λ is. subst (λ begins. opens_a_block begins ≡ false) (sym e) (second_false (ltb 1 spot.level) (opens_a_block spot.begins) (is_object_pattern (laid a).kind) bare is)
left_seated t _ a b spot h bare inner e = tt

-- so it is for the children of a node that is itself there
pub children_seated : (t : Target) (k : Kind) (ns : List Node) (spot : Spot) (shape : Shape) (n : Node) → as_read t k ≡ true → in_parentheses k (map laid ns) spot ≡ false → HaveShapes (child_shapes k shape (length ns)) ns → Seated t spot n
    → AllSeated (target_in t k) ns (first_spots k (map laid ns) spot) (further_spot k spot)
unfolding target_in
children_seated t kind.List ns spot shape n h bare shaped seated = all_listed (in_list t) spot (λ m. list_seated t spot n m seated) ns
children_seated t kind.ArrayLit ns spot shape n h bare shaped seated = all_free (λ i. in_literal t target.Elements) (λ i. array_free t h) ns (free 1 ∷ []) (free 0)
children_seated t kind.ObjectLit ns spot shape n h bare shaped seated = all_free (λ i. in_literal t target.Properties) (λ i. object_free t h) ns (free 1 ∷ []) (free 0)
children_seated t kind.SpreadElement ns spot shape n h bare shaped seated = all_free (λ i. in_spread t) (λ i. spread_free t h) ns (free 1 ∷ []) (free 0)
children_seated t kind.KeyValueProp ns spot shape n h bare shaped seated = all_free (λ i. at_child 1 i (in_value t)) (λ i. free_at 1 i (in_value t) (value_free t h)) ns [] (free 1)
children_seated t kind.AssignProp ns spot shape n h bare shaped seated = all_free (λ i. at_child 0 i (in_short_default t)) (λ i. free_at 0 i (in_short_default t) (short_free t h)) ns [] (free 1)
children_seated t (kind.AssignExpr op) [] spot shape n h bare shaped seated = absurd shaped
children_seated t (kind.AssignExpr op) (a ∷ []) spot shape n h bare shaped seated = absurd shaped.1
children_seated t (kind.AssignExpr op) (a ∷ b ∷ []) spot shape n h bare shaped seated = (left_seated t op a b spot h bare (left spot 16 NoNeighbor) refl, (tt, tt))
children_seated t (kind.AssignExpr op) (a ∷ b ∷ d ∷ ns) spot shape n h bare shaped seated = absurd shaped.1.1
children_seated t (kind.UpdateExpr op prefix) ns spot shape n h bare shaped seated = all_simple ns (first_spots (kind.UpdateExpr op prefix) (map laid ns) spot) (further_spot (kind.UpdateExpr op prefix) spot)
children_seated t kind.ForInStmt [] spot shape n h bare shaped seated = absurd shaped
children_seated t kind.ForInStmt (a ∷ []) spot shape n h bare shaped seated = absurd shaped.1
children_seated t kind.ForInStmt (a ∷ b ∷ []) spot shape n h bare shaped seated = absurd shaped.1.1
children_seated t kind.ForInStmt (a ∷ b ∷ d ∷ []) spot shape n h bare shaped seated = (refl, (tt, (tt, tt)))
children_seated t kind.ForInStmt (a ∷ b ∷ d ∷ e ∷ ns) spot shape n h bare shaped seated = absurd shaped.1.1.1
children_seated t (kind.ForOfStmt is_await) [] spot shape n h bare shaped seated = absurd shaped
children_seated t (kind.ForOfStmt is_await) (a ∷ []) spot shape n h bare shaped seated = absurd shaped.1
children_seated t (kind.ForOfStmt is_await) (a ∷ b ∷ []) spot shape n h bare shaped seated = absurd shaped.1.1
children_seated t (kind.ForOfStmt is_await) (a ∷ b ∷ d ∷ []) spot shape n h bare shaped seated = (refl, (tt, (tt, tt)))
children_seated t (kind.ForOfStmt is_await) (a ∷ b ∷ d ∷ e ∷ ns) spot shape n h bare shaped seated = absurd shaped.1.1.1
children_seated t k ns spot shape n h bare shaped seated = all_free (λ i. target.Free) (λ i. refl) ns (first_spots k (map laid ns) spot) (further_spot k spot)

-- an object pattern that is assigned to stands where `{` opens no block
pub pattern_opens_no_block : (t : Target) → takes_patterns t ≡ true → (spot : Spot) (n : Node) → is_object_pattern (laid n).kind ≡ true → Seated t spot n → opens_a_block spot.begins ≡ false
pattern_opens_no_block target.Left h spot n is seated = seated is
pattern_opens_no_block target.Head h spot n is seated = seated
pattern_opens_no_block target.Part h spot n is seated = subst (λ s. opens_a_block s.begins ≡ false) (sym seated) refl
pattern_opens_no_block target.Element h spot n is seated = subst (λ s. opens_a_block s.begins ≡ false) (sym seated) refl
pattern_opens_no_block _ h spot n is seated = absurd (cc)
