-- A walk that writes expressions behind `super(..)`, child by child.
use Rattle.std.proofs.Common.{◌≡◌, ◌∙◌, ◌≤◌, ◌<◌, ◌+◌, ◌-◌, ℕ, suc, Bool, true, false, ◌||◌, if◌then◌else◌, List, [], ◌∷◌, ◌++◌, map, drop, length, Some, refl, sym, ap, subst, slice_get, add-one, append_assoc, arith}
use Rattle.std.proofs.lemmas.List.{at_drop_all}
use Rattle.ecma_kind.specs.Sessions.{SessionState}
use Rattle.ecma_kind.specs.declared.kind.Kind.{Kind}
use Rattle.ecma_scope.specs.Drawing.{HasGivenAtMost}
use Rattle.ecma_tree.specs.Nodes.{node_of}
use Rattle.ecma_tree.specs.declared.node.Node.{Node, out-Node}
use Rattle.ecma_tree.proofs.Items.{drop-item}
use Rattle.ecma_tree.proofs.Layers.{from_leaves_out}
use Rattle.ecma_function_parts.specs.Drawing.{context_if, count}
use Rattle.ecma_function_parts.proofs.Given.{Counting, counting-given, counting-left, counting-next, counting-spent, counting-start, counting-stops, given-more}
use Rattle.ecma_function.specs.declared.injecting.Role.{Role}
use Rattle.ecma_function.specs.declared.injecting.Written.{Written}
use Rattle.ecma_function.specs.declared.place.Place.{Place}
use Rattle.ecma_function.specs.Injecting.{Outcome, Writing, as_it_is, behind, entered, finished, in_order, is_named, joined, nothing, role_of, writing, writing_step, written_as}
use Rattle.ecma_function.specs.Places.{is_outside, place_in}

-- ---- one behind the other

or-assoc : (a b c : Bool) → (a || b) || c ≡ a || (b || c)
or-assoc true b c = refl
or-assoc false b c = refl

pub joined-assoc : (a b c : Written) → joined (joined a b) c ≡ joined a (joined b c)
joined-assoc a b c = rw (append_assoc a.nodes b.nodes c.nodes, append_assoc a.temps b.temps c.temps, or-assoc a.found b.found c.found) refl

joined-nothing : (a : Written) → joined nothing a ≡ a
joined-nothing a = refl

nil-right : {X : Type 0} (xs : List X) → xs ++ [] ≡ xs
nil-right [] = refl
nil-right (x ∷ xs) = ap (λ rest. x ∷ rest) (nil-right xs)

or-false : (a : Bool) → a || false ≡ a
or-false true = refl
or-false false = refl

pub joined-end : (a : Written) → joined a nothing ≡ a
joined-end a = rw (nil-right a.nodes, nil-right a.temps, or-false a.found) refl

module _ (exprs : List Node) where
  writing-out : (n : Node) (p : Place) (left : ℕ) → writing exprs n p left ≡ writing_step exprs n (map (writing exprs) (out-Node n).children) p left
  writing-out n p left = ap (λ (w : Writing). w p left) (from_leaves_out Writing (writing_step exprs) n)

  -- a node that is not entered
  pub outside-is : (n : Node) (p : Place) (left : ℕ) → is_outside p ≡ true → writing exprs n p left ≡ record { written = as_it_is n; draws = 0 }
  outside-is n p left h =
      writing-out n p left
      ∙ ap (λ (b : Bool). if b then record { written = as_it_is n; draws = 0 } else entered exprs (role_of p n) p (out-Node n).span (out-Node n).kind (map (writing exprs) (out-Node n).children) left) h

  -- one that is
  pub entered-is : (n : Node) (p : Place) (left : ℕ) → is_outside p ≡ false
      → writing exprs n p left ≡ entered exprs (role_of p n) p (out-Node n).span (out-Node n).kind (map (writing exprs) (out-Node n).children) left
  entered-is n p left h =
      writing-out n p left
      ∙ ap (λ (b : Bool). if b then record { written = as_it_is n; draws = 0 } else entered exprs (role_of p n) p (out-Node n).span (out-Node n).kind (map (writing exprs) (out-Node n).children) left) h

  module _ (p : Place) (k : Kind) (ns : List Node) where
    -- what the children from the one at i on become
    abbrev pub rest : ℕ → ℕ → Outcome
    rest i left = in_order p k i (map (writing exprs) (drop i ns)) left

    rest-next : (i left : ℕ) (x : Node) → slice_get ns i ≡ Some x
        → rest i left ≡ behind (writing exprs x (place_in p k i) left) (rest (i + 1) (left - (writing exprs x (place_in p k i) left).draws))
    rest-next i left x at = rw (drop-item ns i x at, add-one) refl

    rest-all : (i left : ℕ) → length ns ≡ i → rest i left ≡ record { written = nothing; draws = 0 }
    rest-all i left all = at_drop_all (λ (z : List Node). in_order p k i (map (writing exprs) z) left) ns i (omega (arith, all))

    -- the first i children are done: what they became, and what is left of the session
    pub record Underway (start now : SessionState) (inside : Written) (i : ℕ) : Type 0 where
      pub written : joined inside (rest i now.left).written ≡ (rest 0 start.left).written
      pub counting : Counting ((rest 0 start.left).draws) ((rest i now.left).draws) start now

    pub underway-start : (start : SessionState) → Underway start start nothing 0
    underway-start start = record { written = joined-nothing (rest 0 start.left).written; counting = counting-start (rest 0 start.left).draws start }

    module _ (start now : SessionState) (inside : Written) (i : ℕ) (so : Underway start now inside i) where
      module _ (x : Node) (at : slice_get ns i ≡ Some x) where
        -- what the child at i becomes
        abbrev pub next : Outcome
        next = writing exprs x (place_in p k i) now.left

        rest-is : rest i now.left ≡ behind next (rest (i + 1) (now.left - next.draws))
        rest-is = rest-next i now.left x at

        within : next.draws ≤ (rest i now.left).draws
        within = let count : (rest i now.left).draws ≡ next.draws + (rest (i + 1) (now.left - next.draws)).draws = ap (λ (z : Outcome). z.draws) rest-is in omega (arith, count)

        pub underway-next : (after : SessionState) (more : Written) → more ≡ next.written → after.left + next.draws ≡ now.left → HasGivenAtMost (next.draws) now after
            → Underway start after (joined inside more) (i + 1)
        underway-next after more wrote drew given =
            let left-is : now.left - next.draws ≡ after.left = omega (arith, drew) in
            let both : rest i now.left ≡ behind next (rest (i + 1) after.left) = rest-is ∙ ap (λ (l : ℕ). behind next (rest (i + 1) l)) left-is in
            record {
              written = joined-assoc inside more (rest (i + 1) after.left).written
                  ∙ ap (λ (m : Written). joined inside (joined m (rest (i + 1) after.left).written)) wrote
                  ∙ ap (λ (z : Outcome). joined inside z.written) (sym both)
                  ∙ so.written;
              counting = counting-next (rest 0 start.left).draws (rest i now.left).draws start now so.counting next.draws (rest (i + 1) after.left).draws after
                  (ap (λ (z : Outcome). z.draws) both) drew given;
            }

        -- a child at a place that is known
        pub underway-next-at : (q : Place) → q ≡ place_in p k i → (after : SessionState) (more : Written) → more ≡ (writing exprs x q now.left).written
            → after.left + (writing exprs x q now.left).draws ≡ now.left → HasGivenAtMost ((writing exprs x q now.left).draws) now after
            → Underway start after (joined inside more) (i + 1)
        underway-next-at q is =
            subst (λ (q : Place). (after : SessionState) (more : Written) → more ≡ (writing exprs x q now.left).written
            → after.left + (writing exprs x q now.left).draws ≡ now.left → HasGivenAtMost ((writing exprs x q now.left).draws) now after
            → Underway start after (joined inside more) (i + 1)) (sym is) underway-next

        -- a child that is half done, and one that needs more than there is
        pub underway-stops : (after : SessionState) → HasGivenAtMost (next.draws) now after → HasGivenAtMost ((rest 0 start.left).draws) start after
        underway-stops after given = counting-stops (rest 0 start.left).draws (rest i now.left).draws start now so.counting next.draws after within given

        pub underway-spent : now.left < next.draws → start.left < (rest 0 start.left).draws
        underway-spent lacks = counting-spent (rest 0 start.left).draws (rest i now.left).draws start now so.counting next.draws within lacks

        pub underway-stops-at : (q : Place) → q ≡ place_in p k i → (after : SessionState) → HasGivenAtMost ((writing exprs x q now.left).draws) now after
            → HasGivenAtMost ((rest 0 start.left).draws) start after
        underway-stops-at q is after =
            subst (λ (q : Place). HasGivenAtMost ((writing exprs x q now.left).draws) now after → HasGivenAtMost ((rest 0 start.left).draws) start after) (sym is) (underway-stops after)

        pub underway-spent-at : (q : Place) → q ≡ place_in p k i → now.left < (writing exprs x q now.left).draws → start.left < (rest 0 start.left).draws
        underway-spent-at q is =
            subst (λ (q : Place). now.left < (writing exprs x q now.left).draws → start.left < (rest 0 start.left).draws) (sym is) underway-spent

      pub underway-given : HasGivenAtMost ((rest 0 start.left).draws) start now
      underway-given = counting-given (rest 0 start.left).draws (rest i now.left).draws start now so.counting

      pub underway-all : length ns ≡ i → inside ≡ (rest 0 start.left).written
      underway-all all = sym (joined-end inside) ∙ ap (λ (z : Outcome). joined inside z.written) (sym (rest-all i now.left all)) ∙ so.written

      pub underway-left : length ns ≡ i → now.left + (rest 0 start.left).draws ≡ start.left
      underway-left all =
          counting-left (rest 0 start.left).draws (rest i now.left).draws start now so.counting (ap (λ (z : Outcome). z.draws) (rest-all i now.left all))

  -- ---- a node that is entered

  module _ (n : Node) (p : Place) (old : SessionState) (h : is_outside p ≡ false) where
    -- what its children become
    abbrev pub inside-from : SessionState → Outcome
    inside-from start = rest p (out-Node n).kind (out-Node n).children 0 start.left

    own-within : count (is_named (role_of p n)) ≤ (writing exprs n p old.left).draws
    own-within =
        let d : (writing exprs n p old.left).draws
        ≡ count (is_named (role_of p n))
        + (in_order p (out-Node n).kind 0 (map (writing exprs) (out-Node n).children) (old.left - count (is_named (role_of p n)))).draws =
        ap (λ (z : Outcome). z.draws) (entered-is n p old.left h) in
        omega (arith, d)

    module _ (named : Bool) (is : named ≡ is_named (role_of p n)) where
      pub own-spent : old.left < count named → old.left < (writing exprs n p old.left).draws
      own-spent lacks = let same : count named ≡ count (is_named (role_of p n)) = ap count is in let w = own-within in omega (arith, lacks, same, w)

      pub own-given : (now : SessionState) → HasGivenAtMost (count named) old now → HasGivenAtMost ((writing exprs n p old.left).draws) old now
      own-given now given =
          let same : count named ≡ count (is_named (role_of p n)) = ap count is in
          let w = own-within in
          record { fewer = given.fewer; most = omega (arith, given.most, same, w); total = given.total; slots = given.slots }

      module _ (start : SessionState) (drew : start.left + count named ≡ old.left) (given : HasGivenAtMost (count named) old start) where
        outcome-is : writing exprs n p old.left ≡ finished exprs (role_of p n) old.left (out-Node n).span (out-Node n).kind (inside-from start)
        outcome-is =
            let same : count named ≡ count (is_named (role_of p n)) = ap count is in
            let from : old.left - count (is_named (role_of p n)) ≡ start.left = omega (arith, drew, same) in
            entered-is n p old.left h
            ∙ ap (λ (l : ℕ). finished exprs (role_of p n) old.left (out-Node n).span (out-Node n).kind (in_order p (out-Node n).kind 0 (map (writing exprs) (out-Node n).children) l)) from

        draws-are : (writing exprs n p old.left).draws ≡ count named + (inside-from start).draws
        draws-are = ap (λ (z : Outcome). z.draws) outcome-is ∙ ap (λ (b : Bool). count b + (inside-from start).draws) (sym is)

        pub entered-given : (now : SessionState) → HasGivenAtMost ((inside-from start).draws) start now → HasGivenAtMost ((writing exprs n p old.left).draws) old now
        entered-given now more = given-more (count named) (inside-from start).draws (writing exprs n p old.left).draws old start now given more (let d = draws-are in omega (arith, d))

        pub entered-spent : start.left < (inside-from start).draws → old.left < (writing exprs n p old.left).draws
        entered-spent lacks = let d = draws-are in omega (arith, drew, lacks, d)

        pub entered-left : (now : SessionState) → now.left + (inside-from start).draws ≡ start.left → now.left + (writing exprs n p old.left).draws ≡ old.left
        entered-left now count = let d = draws-are in omega (arith, drew, count, d)

        pub entered-written : (r : Role) (ctxt : ℕ) (node : Node) (inside : Written) → r ≡ role_of p n → ctxt ≡ context_if named old.left
            → node ≡ node_of (out-Node n).span (out-Node n).kind inside.nodes → inside ≡ (inside-from start).written
            → written_as exprs r ctxt node inside.temps inside.found ≡ (writing exprs n p old.left).written
        entered-written r ctxt node inside role-is ctxt-is node-is inside-is =
            ap (λ (r : Role). written_as exprs r ctxt node inside.temps inside.found) role-is
            ∙ ap (λ (c : ℕ). written_as exprs (role_of p n) c node inside.temps inside.found) (ctxt-is ∙ ap (λ (b : Bool). context_if b old.left) is)
            ∙ ap (λ (m : Node). written_as exprs (role_of p n) (context_if (is_named (role_of p n)) old.left) m inside.temps inside.found) node-is
            ∙ ap (λ (w : Written). written_as exprs (role_of p n) (context_if (is_named (role_of p n)) old.left) (node_of (out-Node n).span (out-Node n).kind w.nodes) w.temps w.found) inside-is
            ∙ ap (λ (z : Outcome). z.written) (sym outcome-is)
