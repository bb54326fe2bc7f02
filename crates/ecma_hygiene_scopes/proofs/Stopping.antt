-- What a walk over a tree gathers below each node is what it gathers in the tree.
use Rattle.std.proofs.Common.{◌≡◌, ℕ, suc, ◌-◌, Bool, true, false, ◌||◌, List, [], ◌∷◌, ◌++◌, map, refl, sym, ap, ◌∙◌, subst}
use Rattle.std.specs.List.{All, list_any}
use Rattle.std.proofs.lemmas.List.Elements.{All-append, All-cons, All-head, All-nil, All-tail}
use Rattle.ecma_tree.specs.declared.node.Node.{Node, Node-F, ind-Node, out-Node, roll-Node}
use Rattle.ecma_tree.specs.declared.node.Node.TheViews.{out-roll-Node}
use Rattle.ecma_tree.proofs.Layers.{from_leaves_out}
use Rattle.ecma_scope.specs.Resolved.{context_count, taken}
use Rattle.ecma_hygiene.specs.Sights.{Around, around_child}
use Rattle.ecma_hygiene.specs.Walks.{gathered_down, gathered_from}
use Rattle.ecma_hygiene.proofs.Telling.{or-first, or-second}
use Rattle.ecma_hygiene.proofs.Walking.{gathered-out}
use Rattle.ecma_hygiene_scopes.specs.Stops.{Stop, stop_step, stops_at, stops_from}

pub All-first : {X : Type 0} (P : X → Type 0) (xs ys : List X) → All P (xs ++ ys) → All P xs
All-first P [] ys h = All-nil P
All-first P (x ∷ xs) ys h = All-cons P x xs (All-head P x (xs ++ ys) h) (All-first P xs ys (All-tail P x (xs ++ ys) h))

pub All-second : {X : Type 0} (P : X → Type 0) (xs ys : List X) → All P (xs ++ ys) → All P ys
All-second P [] ys h = h
All-second P (x ∷ xs) ys h = All-second P xs ys (All-tail P x (xs ++ ys) h)

pub stops-out : (n : Node) (s : Around) (left : ℕ)
    → stops_at n s left ≡ record { node = n; around = s; left = left } ∷ stops_from (around_child s n) 0 (out-Node n).children (map stops_at (out-Node n).children) (left - taken s.role n)
stops-out n s left = ap (λ f. f s left) (from_leaves_out (Around → ℕ → List Stop) stop_step n)

-- the node itself, and those below it
pub stop-here : (P : Stop → Type 0) (n : Node) (s : Around) (left : ℕ) → All P (stops_at n s left) → P (record { node = n; around = s; left = left })
stop-here P n s left h =
    All-head P (record { node = n; around = s; left = left }) (stops_from (around_child s n) 0 (out-Node n).children (map stops_at (out-Node n).children) (left - taken s.role n)) (subst (All P) (stops-out n s left) h)

pub stops-below : (P : Stop → Type 0) (n : Node) (s : Around) (left : ℕ) → All P (stops_at n s left)
    → All P (stops_from (around_child s n) 0 (out-Node n).children (map stops_at (out-Node n).children) (left - taken s.role n))
stops-below P n s left h =
    All-tail P (record { node = n; around = s; left = left }) (stops_from (around_child s n) 0 (out-Node n).children (map stops_at (out-Node n).children) (left - taken s.role n)) (subst (All P) (stops-out n s left) h)

module _ (A : Type 0) (here : Around → Node → List A) (P : A → Type 0) where
  abbrev gathered : Node → Around → List A
  gathered = gathered_down Around A here around_child

  abbrev pub Holds : Stop → Type 0
  Holds stop = All P (gathered_down Around A here around_child stop.node stop.around)

  abbrev Inside : Node → Type 0
  Inside n = (s : Around) (left : ℕ) → All P (gathered n s) → All Holds (stops_at n s left)

  abbrev InsideBelow : List Node → Type 0
  InsideBelow ns = (around : ℕ → Around) (i left : ℕ) → All P (gathered_from Around A around i (map gathered ns)) → All Holds (stops_from around i ns (map stops_at ns) left)

  inside-below : (ns : List ((n : Node) × Inside n)) → InsideBelow (map (λ e. e.0) ns)
  inside-below [] around i left h = All-nil Holds
  inside-below (x ∷ xs) around i left h =
      let rest : List A = gathered_from Around A around (suc i) (map gathered (map (λ e. e.0) xs)) in
      let less : ℕ = left - context_count x.0 (around i).role in
      All-append Holds (stops_at x.0 (around i) left) (stops_from around (suc i) (map (λ e. e.0) xs) (map stops_at (map (λ e. e.0) xs)) less)
      (x.1 (around i) left (All-first P (gathered x.0 (around i)) rest h)) (inside-below xs around (suc i) less (All-second P (gathered x.0 (around i)) rest h))

  layer-inside : (n : Node) → InsideBelow (out-Node n).children → Inside n
  layer-inside n children s left h =
      let below : List A = gathered_from Around A (around_child s n) 0 (map gathered (out-Node n).children) in
      subst (All Holds) (sym (stops-out n s left))
      (All-cons Holds (record { node = n; around = s; left = left }) (stops_from (around_child s n) 0 (out-Node n).children (map stops_at (out-Node n).children) (left - taken s.role n)) h
      (children (around_child s n) 0 (left - taken s.role n) (All-second P (here s n) below (subst (All P) (gathered-out Around A here around_child n s) h))))

  pub inside : (n : Node) → Inside n
  inside = ind-Node Inside (λ x y is.
      layer-inside (roll-Node x) (subst InsideBelow (ap (λ (z : Node-F Node). z.children) is ∙ sym (ap (λ (z : Node-F Node). z.children) (out-roll-Node x))) (inside-below y.children)))

  -- and what each stop gives is all that is gathered
  abbrev pub Gives : Stop → Type 0
  Gives stop = All P (here stop.around stop.node)

  abbrev Gathers : Node → Type 0
  Gathers n = (s : Around) (left : ℕ) → All Gives (stops_at n s left) → All P (gathered n s)

  abbrev AllGather : List Node → Type 0
  AllGather ns = (around : ℕ → Around) (i left : ℕ) → All Gives (stops_from around i ns (map stops_at ns) left) → All P (gathered_from Around A around i (map gathered ns))

  all-gather : (ns : List ((n : Node) × Gathers n)) → AllGather (map (λ e. e.0) ns)
  all-gather [] around i left h = All-nil P
  all-gather (x ∷ xs) around i left h =
      let less : ℕ = left - context_count x.0 (around i).role in
      let rest : List Stop = stops_from around (suc i) (map (λ e. e.0) xs) (map stops_at (map (λ e. e.0) xs)) less in
      All-append P (gathered x.0 (around i)) (gathered_from Around A around (suc i) (map gathered (map (λ e. e.0) xs)))
      (x.1 (around i) left (All-first Gives (stops_at x.0 (around i) left) rest h)) (all-gather xs around (suc i) less (All-second Gives (stops_at x.0 (around i) left) rest h))

  layer-gathers : (n : Node) → AllGather (out-Node n).children → Gathers n
  layer-gathers n children s left h =
      subst (All P) (sym (gathered-out Around A here around_child n s))
      (All-append P (here s n) (gathered_from Around A (around_child s n) 0 (map gathered (out-Node n).children))
      (stop-here Gives n s left h) (children (around_child s n) 0 (left - taken s.role n) (stops-below Gives n s left h)))

  pub gathers : (n : Node) → Gathers n
  gathers = ind-Node Gathers (λ x y is.
      layer-gathers (roll-Node x) (subst AllGather (ap (λ (z : Node-F Node). z.children) is ∙ sym (ap (λ (z : Node-F Node). z.children) (out-roll-Node x))) (all-gather y.children)))

-- what is found among these is found among all
module _ {X : Type 0} (all : List X) where
  abbrev pub IsAmong : X → Type 0
  IsAmong x = (f : X → Bool) → f x ≡ true → list_any f all ≡ true

  pub any-among : (f : X → Bool) (xs : List X) → All IsAmong xs → list_any f xs ≡ true → list_any f all ≡ true
  any-among f [] h found = absurd (no found)
    where
      no : false ≡ true → ⊥
      no e = cc
  any-among f (x ∷ xs) h found = go (any-among f xs (All-tail IsAmong x xs h)) (f x) refl found
    where
      go : (list_any f xs ≡ true → list_any f all ≡ true) → (b : Bool) → f x ≡ b → (b || list_any f xs) ≡ true → list_any f all ≡ true
      go rec true is e = All-head IsAmong x xs h f is
      go rec false is e = rec e

  among-all : (xs : List X) → ((f : X → Bool) → list_any f xs ≡ true → list_any f all ≡ true) → All IsAmong xs
  among-all [] h = All-nil IsAmong
  among-all (x ∷ xs) h =
      All-cons IsAmong x xs (λ f is. h f (or-first (f x) (list_any f xs) is)) (among-all xs (λ f is. h f (or-second (f x) (list_any f xs) is)))

  pub all-among : All IsAmong all
  all-among = among-all all (λ f h. h)
