-- Where nothing is written a tree stays.
use Rattle.std.proofs.Common.{◌≡◌, ℕ, Bool, true, false, ◌==◌, cond, refl, sym, ap, subst, List, [], ◌∷◌, map}
use Rattle.ecma_kind.specs.declared.kind.Kind.{Kind}
use Rattle.ecma_kind.specs.declared.kind.Kind.TheVariants as kind
use Rattle.ecma_tree.specs.Nodes.{node_of}
use Rattle.ecma_tree.specs.declared.node.Node.{Node}
use Rattle.ecma_rewriting.specs.Laws.{Along, Leaves}
use Rattle.ecma_rewriting.specs.Rewriting.{only}
use Rattle.ecma_rewriting.proofs.Staying.{trees_stay}
use Rattle.ecma_lower.specs.declared.names.Names.{Names}
use Rattle.ecma_lower.specs.declared.seat.Seat.{Seat}
use Rattle.ecma_lower.specs.declared.seat.Seat.TheVariants as seat
use Rattle.ecma_lower.specs.Seats.{is_raw, seat_in}
use Rattle.ecma_lower.specs.Writing.{assigning, done}
use Rattle.ecma_lower.proofs.Singles.{write}

raw-is : (s : Seat) → is_raw s ≡ true → s ≡ seat.Raw
raw-is seat.Raw h = refl
raw-is _ h = cc

both : (b : Bool) → is_raw (cond b seat.Raw seat.Raw) ≡ true
both true = refl
both false = refl

raw-below : (k : Kind) (i : ℕ) → is_raw (seat_in seat.Raw k i) ≡ true
unfolding seat_in
raw-below (kind.Module shebang) i = refl
raw-below kind.List i = refl
raw-below (kind.TsImportEqualsDecl is_export false) i = refl
raw-below kind.TsQualifiedName i = refl
raw-below kind.TsTypeAssertion i = both (i == 0)
raw-below kind.TsConstAssertion i = both (i == 0)
raw-below kind.TsNonNullExpr i = both (i == 0)
raw-below kind.TsAsExpr i = both (i == 0)
raw-below kind.TsInstantiation i = both (i == 0)
raw-below kind.TsSatisfiesExpr i = both (i == 0)
raw-below _ i = refl

module _ (names : Names) where
  abbrev still : Seat → Node → Bool
  still s n = is_raw s

  along : (s : Seat) (cs : List Node) → is_raw s ≡ true → Along (assigning names) (λ s n. still s n ≡ true) s cs
  along s [] h = tt
  along s (c ∷ cs) h = (h, along s cs h)

  leaves : Leaves (assigning names) (λ s n. still s n ≡ true)
  leaves = record {
    unkept = λ s c h k. refl;
    listed = λ s span cs h. along s cs h;
    below = λ s span k cs l h i c at. subst (λ (z : Seat). is_raw (seat_in z k i) ≡ true) (sym (raw-is s h)) (raw-below k i);
    here = λ s span k cs l h. ap (λ b. cond b (node_of span k cs ∷ []) (done names s span k cs (map (λ c. c ∷ []) cs))) h;
  }

  pub raw-stays : (s : Seat) (n : Node) → is_raw s ≡ true → n ≡ write names s n
  raw-stays s n h = sym (ap only (trees_stay Seat (assigning names) still leaves s n h))
