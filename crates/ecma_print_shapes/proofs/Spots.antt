-- The spots in which expressions stand.
use Rattle.std.proofs.Common.{◌≡◌, refl, subst, ℕ, ◌-◌, ◌≤◌, Bool, true, false, List, arith, ltb, nat_le}
use Rattle.std.proofs.lemmas.Bool.Decides.{leb_tells, nat_tests}
use Rattle.ecma_kind.specs.declared.kind.Kind.{Kind}
use Rattle.ecma_kind.specs.declared.shapes.Sort.TheVariants as sort
use Rattle.ecma_tree.specs.declared.node.Node.{Node}
use Rattle.ecma_tree.specs.Sorted.{one}
use Rattle.ecma_rules.specs.declared.target.Target.{Target}
use Rattle.ecma_rules.specs.declared.target.Target.TheVariants as target
use Rattle.ecma_fits.specs.declared.role.Role.{Role}
use Rattle.ecma_fits.specs.declared.role.Role.TheVariants as role
use Rattle.ecma_print.specs.declared.place.Begins.{Begins}
use Rattle.ecma_print.specs.declared.place.Beside.{Beside}
use Rattle.ecma_print.specs.declared.place.Spot.{Spot}
use Rattle.ecma_print.specs.Laid.{Laid}
use Rattle.ecma_print.specs.Levels.{in_parentheses, level_of}
use Rattle.ecma_print.specs.Places.{beginning, ends_a_chain, free, left, right}
use Rattle.ecma_covers.specs.Covering.{cover_at}
use Rattle.ecma_shapes.specs.Shapes.{IsExpression, assignment}
use Rattle.ecma_print_shapes.proofs.Claims.{Expressed, Formed, Proper, is_of_link, seen, value_kind, level_open}
use Rattle.ecma_print_shapes.proofs.Ranks.{IsWithin, own_level, to_assignment}
use Rattle.ecma_print_shapes.proofs.Seats.{at_assignment, binds, either_parts}
use Rattle.ecma_print_shapes.proofs.Sound.{Sound}

pub proper_right : (spot : Spot) (level : ℕ) (b : Beside) → is_of_link b ≡ false → Proper (right spot level b)
proper_right spot level b h = record { unlinked = h; headed = λ e. cc }

pub proper_free : (level : ℕ) → Proper (free level)
proper_free level = record { unlinked = refl; headed = λ e. cc }

pub proper_beginning : (level : ℕ) (b : Begins) (without_in : Bool) → Proper (beginning level b without_in)
proper_beginning level b without_in = record { unlinked = refl; headed = λ e. cc }

not_both : {A : Type 0} (b : Bool) → b ≡ false → b ≡ true → A
not_both true h g = cc
not_both false h g = cc

-- outside of the callee of `new`
pub proper_left : (spot : Spot) (level : ℕ) (b : Beside) → spot.in_callee_of_new ≡ false → is_of_link b ≡ false → Proper (left spot level b)
proper_left spot level b out h = record { unlinked = h; headed = λ e. not_both spot.in_callee_of_new out e }

pub proper_head : (spot : Spot) (b : Beside) → ends_a_chain b ≡ true → is_of_link b ≡ false → Proper (left spot 16 b)
proper_head spot b h g = record { unlinked = g; headed = λ e. (refl, h) }

above : (v n : ℕ) → ltb v 16 ≡ true → nat_le 16 n ≡ true → ltb v n ≡ false → ⊥
above v n a b c = grind (arith, leb_tells, nat_tests)

-- an operator stands in no callee of `new` without parentheses
pub low_outside : (k : Kind) (children : List Laid) (spot : Spot) → Proper spot → ltb (level_of k) 16 ≡ true → in_parentheses k children spot ≡ false → spot.in_callee_of_new ≡ false
low_outside k children spot p low h = go spot.in_callee_of_new refl
  where
    go : (b : Bool) → spot.in_callee_of_new ≡ b → b ≡ false
    go true e = absurd (above (level_of k) spot.level low (p.headed e).0 (either_parts (ltb (level_of k) spot.level) _ h).0)
    go false e = refl

-- an expression that is a child
pub child_value : {r : Role} {spot : Spot} {n : Node} → Formed n → Sound r spot (one sort.Expr) n → r ≡ role.Free → Proper spot → Expressed target.Free spot n
child_value {r} {spot} {n} f s is p =
    let free = subst (λ z. Sound z spot (one sort.Expr) n) is s in
    f.expression role.Free target.Free spot (one sort.Expr) free p refl (value_kind n free (seen n free).allowed)

-- it binds as tightly as its number asks
pub tight : {t : Target} {spot : Spot} {n : Node} (e : Expressed t spot n) → 4 ≤ spot.level → spot.level ≤ 16 → IsWithin (20 - spot.level) (own_level e.kind e.children spot.in_callee_of_new)
tight {spot = spot} e low high = binds e.children spot.in_callee_of_new e.kind spot.level low high (level_open e)

-- where an assignment may stand
pub assigned : {t : Target} {spot : Spot} {n : Node} (e : Expressed t spot n) → spot.level ≡ 1 → IsExpression assignment (cover_at n t)
assigned {spot = spot} e is = to_assignment (own_level e.kind e.children spot.in_callee_of_new) (at_assignment e.children spot.in_callee_of_new e.kind (subst (λ m. ltb (level_of e.kind) m ≡ false) is (level_open e))) e.shape
