-- What a walk has done of a tree.
use Rattle.std.proofs.Common.{◌≡◌, ◌∙◌, ℕ, suc, ◌+◌, Bool, true, false, cond, List, [], ◌∷◌, ◌++◌, Option, Some, None, refl, sym, ap, slice_get, set, drop, length, append_assoc, add-one}
use Rattle.std.proofs.lemmas.List.{append-nil}
use Rattle.ecma_kind.specs.declared.kind.Kind.{Kind}
use Rattle.ecma_kind.specs.declared.kind.Kind.TheVariants as kind
use Rattle.ecma_kind.specs.declared.span.Span.{Span}
use Rattle.ecma_tree.specs.Nodes.{node_of}
use Rattle.ecma_tree.specs.Sorted.{is_list}
use Rattle.ecma_tree.specs.declared.node.Node.{Node, out-Node}
use Rattle.ecma_tree.specs.declared.node.Node.TheViews.{roll-out-Node}
use Rattle.ecma_rewriting.specs.Laws.{children, items, layer}
use Rattle.ecma_rewriting.specs.Rewriting.{Rewriting, becomes}
use Rattle.ecma_rewriting.proofs.Equations.{becomes-out, layer-other, list-kind}
use Rattle.ecma_rewriter.specs.Seats.{Leaves, Seat, Seats, Writes, around_or, item_becomes, seat, seat_behind}
use Rattle.ecma_rewriter.proofs.Taken.{Taken, taken-all, taken-drop, taken-first, taken-next}

-- ---- one node

module _ {S : Type 0} (r : Rewriting S) (s : S) (n : Node) where
  pub list-becomes : is_list (out-Node n).kind ≡ true → becomes r s n ≡ node_of (out-Node n).span kind.List (items r s (out-Node n).children) ∷ []
  list-becomes list = becomes-out r s n ∙ ap (λ k. layer r s (out-Node n).span k (out-Node n).children) (list-kind (out-Node n).kind list)

  pub other-becomes : is_list (out-Node n).kind ≡ false
      → becomes r s n ≡ r.here s (out-Node n).span (out-Node n).kind (out-Node n).children
      (children r (r.seat s (out-Node n).kind (out-Node n).children) 0 (out-Node n).children)
  other-becomes other = becomes-out r s n ∙ layer-other r s (out-Node n).span (out-Node n).kind (out-Node n).children other

-- ---- children

module _ {S : Type 0} (r : Rewriting S) where
  pub same-seats : (seats others : ℕ → S) → ((i : ℕ) → seats i ≡ others i) → (i : ℕ) (cs : List Node) → children r seats i cs ≡ children r others i cs
  same-seats seats others same i [] = refl
  same-seats seats others same i (c ∷ cs) =
      ap (λ s. becomes r s c ∷ children r seats (suc i) cs) (same i) ∙ ap (λ rest. becomes r (others i) c ∷ rest) (same-seats seats others same (suc i) cs)

  -- of the children those before i are done
  pub record Over (seats : ℕ → S) (whole parts : List Node) (lists : List (List Node)) (i : ℕ) : Type 0 where
    pub taken : Taken whole parts i
    pub done : lists ++ children r seats i (drop i whole) ≡ children r seats 0 whole

  pub over-first : (seats : ℕ → S) (whole : List Node) (lists : List (List Node)) → lists ≡ [] → Over seats whole whole lists 0
  over-first seats whole lists none = record { taken = taken-first whole; done = ap (λ z. z ++ children r seats 0 whole) none }

  pub over-next : (seats : ℕ → S) (whole parts : List Node) (lists more : List (List Node)) (i : ℕ) (x e : Node) → Over seats whole parts lists i
      → slice_get parts i ≡ Some x → more ≡ lists ++ becomes r (seats i) x ∷ [] → Over seats whole (set parts i e) more (i + 1)
  over-next seats whole parts lists more i x e so at is = record {
    taken = taken-next whole parts i e so.taken;
    done = ap (λ z. z ++ children r seats (i + 1) (drop (i + 1) whole)) is
        ∙ append_assoc lists (becomes r (seats i) x ∷ []) (children r seats (i + 1) (drop (i + 1) whole))
        ∙ ap (λ j. lists ++ becomes r (seats i) x ∷ children r seats j (drop (i + 1) whole)) (add-one i)
        ∙ ap (λ cs. lists ++ children r seats i cs) (sym (taken-drop whole parts i x so.taken at))
        ∙ so.done;
  }

  pub over-all : (seats : ℕ → S) (whole parts : List Node) (lists : List (List Node)) (i : ℕ) → Over seats whole parts lists i → length parts ≡ i
      → lists ≡ children r seats 0 whole
  over-all seats whole parts lists i so all =
      sym (append-nil lists) ∙ ap (λ cs. lists ++ children r seats i cs) (sym (taken-all whole parts i so.taken all)) ∙ so.done

-- ---- the items of a list

module _ {P A : Type 0} (r : Rewriting (Seat P A)) (p : P) (around : A) where
  next-item : (s : Seat P A) (n : Node) (ns : List Node) → items r s (n ∷ ns) ≡ item_becomes r s n ++ items r (seat_behind r s n) ns
  next-item s n ns = by (r.keeps n)
    where
      by : (b : Bool)
          → cond b (becomes r s n ++ items r (r.next s n) ns) (r.unkept s n ++ items r s ns)
          ≡ cond b (becomes r s n) (r.unkept s n) ++ items r (cond b (r.next s n) s) ns
      by true = refl
      by false = refl

  -- of the items those before i are done
  pub record Along (whole parts : List Node) (own : Option A) (out : List Node) (i : ℕ) : Type 0 where
    pub taken : Taken whole parts i
    pub done : out ++ items r (seat p (around_or around own)) (drop i whole) ≡ items r (seat p around) whole

  own-around : (own : Option A) (b : Bool) → own ≡ cond b (Some around) None → around_or around own ≡ around
  own-around own true is = ap (around_or around) is
  own-around own false is = ap (around_or around) is

  pub along-first : (whole : List Node) (own : Option A) (out : List Node) (b : Bool) → own ≡ cond b (Some around) None → out ≡ [] → Along whole whole own out 0
  along-first whole own out b is none = record {
    taken = taken-first whole;
    done = ap (λ z. z ++ items r (seat p (around_or around own)) whole) none ∙ ap (λ a. items r (seat p a) whole) (own-around own b is);
  }

  pub along-next : (whole parts : List Node) (own own' : Option A) (out out' : List Node) (i : ℕ) (x e : Node) → Along whole parts own out i
      → slice_get parts i ≡ Some x
      → out' ≡ out ++ item_becomes r (seat p (around_or around own)) x
      → seat p (around_or around own') ≡ seat_behind r (seat p (around_or around own)) x
      → Along whole (set parts i e) own' out' (i + 1)
  along-next whole parts own own' out out' i x e so at is behind =
      let s : Seat P A = seat p (around_or around own) in
      let rest : List Node = drop (i + 1) whole in
      record {
        taken = taken-next whole parts i e so.taken;
        done = ap (λ z. z ++ items r (seat p (around_or around own')) rest) is
            ∙ ap (λ z. (out ++ item_becomes r s x) ++ items r z rest) behind
            ∙ append_assoc out (item_becomes r s x) (items r (seat_behind r s x) rest)
            ∙ ap (λ z. out ++ z) (sym (next-item s x rest))
            ∙ ap (λ ns. out ++ items r s ns) (sym (taken-drop whole parts i x so.taken at))
            ∙ so.done;
      }

  pub along-all : (whole parts : List Node) (own : Option A) (out : List Node) (i : ℕ) → Along whole parts own out i → length parts ≡ i
      → out ≡ items r (seat p around) whole
  along-all whole parts own out i so all =
      sym (append-nil out) ∙ ap (λ ns. out ++ items r (seat p (around_or around own)) ns) (sym (taken-all whole parts i so.taken all)) ∙ so.done

-- ---- a node by its form

module _ {P A : Type 0} (r : Rewriting (Seat P A)) (p : P) (around : A) (n : Node) where
  pub left-becomes : {F : Type 0} (form : Seat P A → Span → Kind → List Node → Option F) → Leaves r form → is_list (out-Node n).kind ≡ false
      → None ≡ form (seat p around) (out-Node n).span (out-Node n).kind (out-Node n).children
      → n ∷ [] ≡ becomes r (seat p around) n
  left-becomes form stays other none =
      ap (λ z. z ∷ []) (sym (roll-out-Node n))
      ∙ sym (other-becomes r (seat p around) n other
      ∙ stays (seat p around) (out-Node n).span (out-Node n).kind (out-Node n).children _ (sym none))

  pub written-becomes : {F : Type 0} (form : Seat P A → Span → Kind → List Node → Option F) (written : F → Seat P A → Span → Kind → List (List Node) → List Node)
      (place : F → P → Kind → ℕ → P) (inside : Seat P A → Kind → List Node → Option A) (f : F) (own : Option A)
      → Writes r form written → Seats r form place inside → is_list (out-Node n).kind ≡ false
      → Some f ≡ form (seat p around) (out-Node n).span (out-Node n).kind (out-Node n).children
      → own ≡ inside (seat p around) (out-Node n).kind (out-Node n).children
      → written f (seat p around) (out-Node n).span (out-Node n).kind
      (children r (λ i. seat (place f p (out-Node n).kind i) (around_or around own)) 0 (out-Node n).children)
      ≡ becomes r (seat p around) n
  written-becomes form written place inside f own writes seats other is own_is =
      let s : Seat P A = seat p around in
      let k : Kind = (out-Node n).kind in
      let cs : List Node = (out-Node n).children in
      sym (other-becomes r s n other
      ∙ writes s (out-Node n).span k cs (children r (r.seat s k cs) 0 cs) f (sym is)
      ∙ ap (written f s (out-Node n).span k)
      (same-seats r (r.seat s k cs) (λ i. seat (place f p k i) (around_or around own))
      (λ i. seats s (out-Node n).span k cs i f (sym is) ∙ ap (λ z. seat (place f p k i) (around_or around z)) (sym own_is)) 0 cs))
