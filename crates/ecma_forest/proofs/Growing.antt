-- What becomes of the trees of slots where slots or kinds come behind them.
use Rattle.std.proofs.Common.{◌≡◌, ◌≤◌, ◌<◌, ◌+◌, refl, sym, ap, ◌∙◌, ℕ, zero, suc, List, [], ◌∷◌, ◌++◌, take, drop, map, length, Some, slice_get, arith, append_assoc, length-append, subst}
use Rattle.std.proofs.lemmas.List.{append-nil, drop-append-le, take-append-le, length-drop, length-map, take-map, drop-map, map-append, drop_at, take_all, get_or_append_left}
use Rattle.ecma_kind.specs.declared.span.Span.{Span}
use Rattle.ecma_kind.specs.declared.kind.Kind.{Kind}
use Rattle.ecma_kind.specs.declared.kind.Kind.TheVariants.{Absent}
use Rattle.ecma_tree.specs.Nodes.{node_of}
use Rattle.ecma_tree.specs.declared.node.Node.{Node, fold-roll-Node}
use Rattle.ecma_forest.specs.Summaries.{joined_summaries, join_summaries, kind_summary, summary_here, tree_summary}
use Rattle.ecma_forest.specs.Slots.{slots_summary, slot_over, kind_at, tree_of, grown_from, grown, trees_over, IsGrounded, StandGrounded, AllGrounded, IsSummed, AllSummed, AreRooted}
use Rattle.ecma_forest.specs.declared.forest.Slot.{Slot}
use Rattle.ecma_forest.specs.declared.summary.Summary.{Summary}

module _ (kinds : List Kind) where
  grown_from-append : (trees : List Node) (ss rest : List Slot) → grown_from kinds trees (ss ++ rest) ≡ grown_from kinds (grown_from kinds trees ss) rest
  grown_from-append trees [] rest = refl
  grown_from-append trees (s ∷ ss) rest = grown_from-append (trees ++ tree_of kinds trees s ∷ []) ss rest

  length-grown_from : (trees : List Node) (ss : List Slot) → length (grown_from kinds trees ss) ≡ length trees + length ss
  length-grown_from trees [] = omega arith
  length-grown_from trees (s ∷ ss) = omega (arith, length-grown_from (trees ++ tree_of kinds trees s ∷ []) ss, length-append trees (tree_of kinds trees s ∷ []))

  pub length-grown : (ss : List Slot) → length (grown kinds ss) ≡ length ss
  unfolding grown
  length-grown ss = omega (arith, length-grown_from [] ss)

  -- a slot says the same where there are more trees behind those that it speaks of
  pub tree_of-more : (n : ℕ) (trees more : List Node) (s : Slot) → IsGrounded n (length trees) s → tree_of kinds (trees ++ more) s ≡ tree_of kinds trees s
  tree_of-more n trees more s h =
      let within : s.first ≤ length trees = omega (arith, h.front) in
      let front : s.count ≤ length (drop s.first trees) = omega (arith, h.front, length-drop s.first trees) in
      ap (node_of s.span (kind_at kinds s.kind)) (ap (take s.count) (drop-append-le s.first trees more within) ∙ take-append-le s.count (drop s.first trees) more front)

  pub map-tree_of-more : (n : ℕ) (trees more : List Node) (ss : List Slot) → AllGrounded n (length trees) ss → map (tree_of kinds (trees ++ more)) ss ≡ map (tree_of kinds trees) ss
  map-tree_of-more n trees more [] h = refl
  map-tree_of-more n trees more (s ∷ ss) h = rw (tree_of-more n trees more s h.0, map-tree_of-more n trees more ss h.1) refl

  grown_from-grounded : (n : ℕ) (trees more : List Node) (ss : List Slot) → AllGrounded n (length trees) ss → grown_from kinds (trees ++ more) ss ≡ (trees ++ more) ++ map (tree_of kinds trees) ss
  grown_from-grounded n trees more [] h = sym (append-nil (trees ++ more))
  grown_from-grounded n trees more (s ∷ ss) h =
      ap (λ t. grown_from kinds ((trees ++ more) ++ t ∷ []) ss) (tree_of-more n trees more s h.0)
      ∙ ap (λ ts. grown_from kinds ts ss) (append_assoc trees more (tree_of kinds trees s ∷ []))
      ∙ grown_from-grounded n trees (more ++ tree_of kinds trees s ∷ []) ss h.1
      ∙ ap (λ ts. ts ++ map (tree_of kinds trees) ss) (sym (append_assoc trees more (tree_of kinds trees s ∷ [])))
      ∙ append_assoc (trees ++ more) (tree_of kinds trees s ∷ []) (map (tree_of kinds trees) ss)

  -- slots that have their children among the trees of others, behind them
  pub grown-grounded : (n : ℕ) (below ss : List Slot) → AllGrounded n (length below) ss → grown kinds (below ++ ss) ≡ grown kinds below ++ trees_over kinds below ss
  unfolding grown
  grown-grounded n below ss h =
      let g : AllGrounded n (length (grown_from kinds [] below)) ss = rw (length-grown below) h in
      grown_from-append [] below ss
      ∙ ap (λ ts. grown_from kinds ts ss) (sym (append-nil (grown kinds below)))
      ∙ grown_from-grounded n (grown kinds below) [] ss g
      ∙ ap (λ ts. ts ++ trees_over kinds below ss) (append-nil (grown kinds below))

pub all_grounded-append : (n place : ℕ) (xs ys : List Slot) → AllGrounded n place xs → AllGrounded n place ys → AllGrounded n place (xs ++ ys)
all_grounded-append n place [] ys h g = g
all_grounded-append n place (x ∷ xs) ys h g = (h.0, all_grounded-append n place xs ys h.1 g)

pub all_grounded-take : (n place k : ℕ) (xs : List Slot) → AllGrounded n place xs → AllGrounded n place (take k xs)
all_grounded-take n place zero xs h = tt
all_grounded-take n place (suc k) [] h = tt
all_grounded-take n place (suc k) (x ∷ xs) h = (h.0, all_grounded-take n place k xs h.1)

pub all_grounded-drop : (n place k : ℕ) (xs : List Slot) → AllGrounded n place xs → AllGrounded n place (drop k xs)
all_grounded-drop n place zero xs h = h
all_grounded-drop n place (suc k) [] h = tt
all_grounded-drop n place (suc k) (x ∷ xs) h = all_grounded-drop n place k xs h.1

grounded-higher : (n m place higher : ℕ) (s : Slot) → n ≤ m → place ≤ higher → IsGrounded n place s → IsGrounded m higher s
grounded-higher n m place higher s le up h = record { known = omega (arith, le, h.known); front = omega (arith, up, h.front) }

all_grounded-higher : (n m place higher : ℕ) (xs : List Slot) → n ≤ m → place ≤ higher → AllGrounded n place xs → AllGrounded m higher xs
all_grounded-higher n m place higher [] le up h = tt
all_grounded-higher n m place higher (x ∷ xs) le up h = (grounded-higher n m place higher x le up h.0, all_grounded-higher n m place higher xs le up h.1)

pub all_grounded-at : (n place : ℕ) (xs : List Slot) (i : ℕ) (s : Slot) → AllGrounded n place xs → slice_get xs i ≡ Some s → IsGrounded n place s
all_grounded-at n place [] i s h at = cc
all_grounded-at n place (x ∷ xs) zero s h at = let same : x ≡ s = cc in subst (IsGrounded n place) same h.0
all_grounded-at n place (x ∷ xs) (suc i) s h at = all_grounded-at n place xs i s h.1 at

-- at the next place
next : (n place i : ℕ) (s : Slot) → IsGrounded n (suc place + i) s → IsGrounded n (place + suc i) s
next n place i s h = grounded-higher n n (suc place + i) (place + suc i) s (omega arith) (omega arith) h

before : (n place i : ℕ) (s : Slot) → IsGrounded n (place + suc i) s → IsGrounded n (suc place + i) s
before n place i s h = grounded-higher n n (place + suc i) (suc place + i) s (omega arith) (omega arith) h

stand_grounded-append : (n place : ℕ) (xs ys : List Slot) → StandGrounded n place xs → AllGrounded n (place + length xs) ys → StandGrounded n place (xs ++ ys)
stand_grounded-append n place [] ys h g i s at = grounded-higher n n (place + 0) (place + i) s (omega arith) (omega arith) (all_grounded-at n (place + 0) ys i s g at)
stand_grounded-append n place (x ∷ xs) ys h g zero s at = h zero s at
stand_grounded-append n place (x ∷ xs) ys h g (suc i) s at =
    let more : AllGrounded n (suc place + length xs) ys = all_grounded-higher n n (place + suc (length xs)) (suc place + length xs) ys (omega arith) (omega arith) g in
    next n place i s (stand_grounded-append n (suc place) xs ys (λ j t be. before n place j t (h (suc j) t be)) more i s at)

-- no place among slots is past the last
pub stand_grounded-all : (n place : ℕ) (xs : List Slot) (end : ℕ) → StandGrounded n place xs → place + length xs ≤ end → AllGrounded n end xs
stand_grounded-all n place [] end h le = tt
stand_grounded-all n place (x ∷ xs) end h le = (
  grounded-higher n n (place + 0) end x (omega arith) (omega (arith, le)) (h 0 x refl),
  stand_grounded-all n (suc place) xs end (λ j t be. before n place j t (h (suc j) t be)) (omega (arith, le)),
)

module _ (kinds : List Kind) (trees : List Node) where
  pub all_summed-append : (xs ys : List Slot) → AllSummed kinds trees xs → AllSummed kinds trees ys → AllSummed kinds trees (xs ++ ys)
  all_summed-append [] ys h g = g
  all_summed-append (x ∷ xs) ys h g = (h.0, all_summed-append xs ys h.1 g)

  pub all_summed-take : (k : ℕ) (xs : List Slot) → AllSummed kinds trees xs → AllSummed kinds trees (take k xs)
  all_summed-take zero xs h = tt
  all_summed-take (suc k) [] h = tt
  all_summed-take (suc k) (x ∷ xs) h = (h.0, all_summed-take k xs h.1)

  pub all_summed-drop : (k : ℕ) (xs : List Slot) → AllSummed kinds trees xs → AllSummed kinds trees (drop k xs)
  all_summed-drop zero xs h = h
  all_summed-drop (suc k) [] h = tt
  all_summed-drop (suc k) (x ∷ xs) h = all_summed-drop k xs h.1

  all_summed-more : (n : ℕ) (more : List Node) (xs : List Slot) → AllGrounded n (length trees) xs → AllSummed kinds trees xs → AllSummed kinds (trees ++ more) xs
  all_summed-more n more [] g h = tt
  all_summed-more n more (x ∷ xs) g h = (h.0 ∙ ap tree_summary (sym (tree_of-more kinds n trees more x g.0)), all_summed-more n more xs g.1 h.1)

  pub all_summed-at : (xs : List Slot) (i : ℕ) (s : Slot) → AllSummed kinds trees xs → slice_get xs i ≡ Some s → IsSummed kinds trees s
  all_summed-at [] i s h at = cc
  all_summed-at (x ∷ xs) zero s h at = let same : x ≡ s = cc in subst (IsSummed kinds trees) same h.0
  all_summed-at (x ∷ xs) (suc i) s h at = all_summed-at xs i s h.1 at

  slots_summary-summed : (xs : List Slot) → AllSummed kinds trees xs → slots_summary xs ≡ joined_summaries (map tree_summary (map (tree_of kinds trees) xs))
  slots_summary-summed [] h = refl
  slots_summary-summed (x ∷ xs) h = ap (λ m. join_summaries m (slots_summary xs)) h.0 ∙ ap (join_summaries (tree_summary (tree_of kinds trees x))) (slots_summary-summed xs h.1)

pub tree_summary-node_of : (span : Span) (kind : Kind) (ns : List Node) → tree_summary (node_of span kind ns) ≡ join_summaries (kind_summary kind) (joined_summaries (map tree_summary ns))
unfolding tree_summary
tree_summary-node_of span kind ns = fold-roll-Node Summary summary_here (record { span = span; kind = kind; children = ns })

-- more kinds behind those that slots speak of change nothing
module _ (kinds more : List Kind) where
  tree_of-kinds : (place : ℕ) (trees : List Node) (s : Slot) → IsGrounded (length kinds) place s → tree_of (kinds ++ more) trees s ≡ tree_of kinds trees s
  tree_of-kinds place trees s h = ap (λ k. node_of s.span k (take s.count (drop s.first trees))) (get_or_append_left kinds more Absent s.kind h.known)

  map-tree_of-kinds : (place : ℕ) (trees : List Node) (ss : List Slot) → AllGrounded (length kinds) place ss → map (tree_of (kinds ++ more) trees) ss ≡ map (tree_of kinds trees) ss
  map-tree_of-kinds place trees [] h = refl
  map-tree_of-kinds place trees (s ∷ ss) h = rw (tree_of-kinds place trees s h.0, map-tree_of-kinds place trees ss h.1) refl

  grown_from-kinds : (place : ℕ) (trees : List Node) (ss : List Slot) → AllGrounded (length kinds) place ss → grown_from (kinds ++ more) trees ss ≡ grown_from kinds trees ss
  grown_from-kinds place trees [] h = refl
  grown_from-kinds place trees (s ∷ ss) h =
      ap (λ t. grown_from (kinds ++ more) (trees ++ t ∷ []) ss) (tree_of-kinds place trees s h.0) ∙ grown_from-kinds place (trees ++ tree_of kinds trees s ∷ []) ss h.1

  grown-kinds : (below : List Slot) → StandGrounded (length kinds) 0 below → grown (kinds ++ more) below ≡ grown kinds below
  unfolding grown
  grown-kinds below h = grown_from-kinds (length below) [] below (stand_grounded-all (length kinds) 0 below (length below) h (omega arith))

  all_summed-kinds : (place : ℕ) (trees : List Node) (ss : List Slot) → AllGrounded (length kinds) place ss → AllSummed kinds trees ss → AllSummed (kinds ++ more) trees ss
  all_summed-kinds place trees [] g h = tt
  all_summed-kinds place trees (s ∷ ss) g h = (h.0 ∙ ap tree_summary (sym (tree_of-kinds place trees s g.0)), all_summed-kinds place trees ss g.1 h.1)

  module _ (below roots : List Slot) (h : AreRooted kinds below roots) where
    low : AllGrounded (length kinds) (length below) below
    low = stand_grounded-all (length kinds) 0 below (length below) h.inner.grounded (omega arith)

    up : length kinds ≤ length (kinds ++ more)
    up = omega (arith, length-append kinds more)

    pub grown-more_kinds : grown (kinds ++ more) below ≡ grown kinds below
    grown-more_kinds = grown-kinds below h.inner.grounded

    pub rooted-kinds : AreRooted (kinds ++ more) below roots
    rooted-kinds = record {
      inner = record {
        grounded = λ i s at. grounded-higher (length kinds) (length (kinds ++ more)) (0 + i) (0 + i) s up (omega arith) (h.inner.grounded i s at);
        summed = subst (λ ts. AllSummed (kinds ++ more) ts below) (sym (grown-kinds below h.inner.grounded)) (all_summed-kinds (length below) (grown kinds below) below low h.inner.summed);
      };
      grounded = all_grounded-higher (length kinds) (length (kinds ++ more)) (length below) (length below) roots up (omega arith) h.grounded;
      summed = subst (λ ts. AllSummed (kinds ++ more) ts roots) (sym (grown-kinds below h.inner.grounded)) (all_summed-kinds (length below) (grown kinds below) roots h.grounded h.summed);
    }

    pub trees_over-kinds : trees_over (kinds ++ more) below roots ≡ trees_over kinds below roots
    trees_over-kinds =
        ap (λ ts. map (tree_of (kinds ++ more) ts) roots) (grown-kinds below h.inner.grounded) ∙ map-tree_of-kinds (length below) (grown kinds below) roots h.grounded

module _ (kinds : List Kind) (below roots : List Slot) (span : Span) (number : ℕ) (own : Summary) (start : ℕ) where
  abbrev over : Slot
  over = slot_over span number own (length below) (drop start roots)

  abbrev moved : List Node
  moved = trees_over kinds below (drop start roots)

  abbrev kind : Kind
  kind = kind_at kinds number

  tree_of-over : tree_of kinds (grown kinds below ++ moved) over ≡ node_of span kind moved
  tree_of-over = ap (node_of span kind)
      (ap (take (length (drop start roots))) (drop_at (grown kinds below) moved (length below) (length-grown kinds below))
      ∙ take_all (length (drop start roots)) moved (omega (arith, length-map (drop start roots) (tree_of kinds (grown kinds below)))))

  module _ (h : AreRooted kinds below roots) where
    abbrev n : ℕ
    n = length kinds

    grown-over : grown kinds (below ++ drop start roots) ≡ grown kinds below ++ moved
    grown-over = grown-grounded kinds n below (drop start roots) (all_grounded-drop n (length below) start roots h.grounded)

    among : (ss : List Slot) → AllGrounded n (length below) ss → AllSummed kinds (grown kinds below) ss → AllSummed kinds (grown kinds (below ++ drop start roots)) ss
    among ss g m = subst (λ ts. AllSummed kinds ts ss) (sym grown-over) (all_summed-more kinds (grown kinds below) n moved ss (subst (λ k. AllGrounded n k ss) (sym (length-grown kinds below)) g) m)

    over-summed : own ≡ kind_summary kind → IsSummed kinds (grown kinds (below ++ drop start roots)) over
    over-summed says =
        ap (λ m. join_summaries m (slots_summary (drop start roots))) says
        ∙ ap (join_summaries (kind_summary kind)) (slots_summary-summed kinds (grown kinds below) (drop start roots) (all_summed-drop kinds (grown kinds below) start roots h.summed))
        ∙ sym (tree_summary-node_of span kind moved)
        ∙ ap tree_summary (sym tree_of-over)
        ∙ ap (λ ts. tree_summary (tree_of kinds ts over)) (sym grown-over)

    -- the roots from start on, moved below, and a root over them
    pub wrapped-rooted : number < n → own ≡ kind_summary kind → AreRooted kinds (below ++ drop start roots) (take start roots ++ over ∷ [])
    wrapped-rooted known says =
        let more : length below ≤ length (below ++ drop start roots) = omega (arith, length-append below (drop start roots)) in
        let at : IsGrounded n (length (below ++ drop start roots)) over = record { known = known; front = omega (arith, length-append below (drop start roots)) } in
        let down : AllGrounded n (0 + length below) (drop start roots) = all_grounded-higher n n (length below) (0 + length below) (drop start roots) (omega arith) (omega arith) (all_grounded-drop n (length below) start roots h.grounded) in
        let low : AllGrounded n (length below) below = stand_grounded-all n 0 below (length below) h.inner.grounded (omega arith) in
        record {
          inner = record {
            grounded = stand_grounded-append n 0 below (drop start roots) h.inner.grounded down;
            summed = all_summed-append kinds (grown kinds (below ++ drop start roots)) below (drop start roots) (among below low h.inner.summed)
                (among (drop start roots) (all_grounded-drop n (length below) start roots h.grounded) (all_summed-drop kinds (grown kinds below) start roots h.summed));
          };
          grounded = all_grounded-append n (length (below ++ drop start roots)) (take start roots) (over ∷ [])
              (all_grounded-higher n n (length below) (length (below ++ drop start roots)) (take start roots) (omega arith) more (all_grounded-take n (length below) start roots h.grounded)) (at, tt);
          summed = all_summed-append kinds (grown kinds (below ++ drop start roots)) (take start roots) (over ∷ [])
              (among (take start roots) (all_grounded-take n (length below) start roots h.grounded) (all_summed-take kinds (grown kinds below) start roots h.summed)) (over-summed says, tt);
        }

    pub laid-rooted : AreRooted kinds (below ++ drop start roots) (take start roots)
    laid-rooted =
        let more : length below ≤ length (below ++ drop start roots) = omega (arith, length-append below (drop start roots)) in
        let down : AllGrounded n (0 + length below) (drop start roots) = all_grounded-higher n n (length below) (0 + length below) (drop start roots) (omega arith) (omega arith) (all_grounded-drop n (length below) start roots h.grounded) in
        let low : AllGrounded n (length below) below = stand_grounded-all n 0 below (length below) h.inner.grounded (omega arith) in
        record {
          inner = record {
            grounded = stand_grounded-append n 0 below (drop start roots) h.inner.grounded down;
            summed = all_summed-append kinds (grown kinds (below ++ drop start roots)) below (drop start roots) (among below low h.inner.summed)
                (among (drop start roots) (all_grounded-drop n (length below) start roots h.grounded) (all_summed-drop kinds (grown kinds below) start roots h.summed));
          };
          grounded = all_grounded-higher n n (length below) (length (below ++ drop start roots)) (take start roots) (omega arith) more (all_grounded-take n (length below) start roots h.grounded);
          summed = among (take start roots) (all_grounded-take n (length below) start roots h.grounded) (all_summed-take kinds (grown kinds below) start roots h.summed);
        }

    pub laid-roots : trees_over kinds (below ++ drop start roots) (take start roots) ≡ take start (trees_over kinds below roots)
    laid-roots =
        let kept : AllGrounded n (length (grown kinds below)) (take start roots) = rw (length-grown kinds below) (all_grounded-take n (length below) start roots h.grounded) in
        ap (λ ts. map (tree_of kinds ts) (take start roots)) grown-over
        ∙ map-tree_of-more kinds n (grown kinds below) moved (take start roots) kept
        ∙ sym (take-map (tree_of kinds (grown kinds below)) start roots)

    pub wrapped-trees : trees_over kinds (below ++ drop start roots) (take start roots ++ over ∷ []) ≡ take start (trees_over kinds below roots) ++ node_of span kind (drop start (trees_over kinds below roots)) ∷ []
    wrapped-trees =
        let kept : AllGrounded n (length (grown kinds below)) (take start roots) = rw (length-grown kinds below) (all_grounded-take n (length below) start roots h.grounded) in
        ap (λ ts. map (tree_of kinds ts) (take start roots ++ over ∷ [])) grown-over
        ∙ map-append (tree_of kinds (grown kinds below ++ moved)) (take start roots) (over ∷ [])
        ∙ ap (λ ts. ts ++ tree_of kinds (grown kinds below ++ moved) over ∷ []) (map-tree_of-more kinds n (grown kinds below) moved (take start roots) kept)
        ∙ ap (λ t. trees_over kinds below (take start roots) ++ t ∷ []) tree_of-over
        ∙ ap (λ ts. ts ++ node_of span kind moved ∷ []) (sym (take-map (tree_of kinds (grown kinds below)) start roots))
        ∙ ap (λ ts. take start (trees_over kinds below roots) ++ node_of span kind ts ∷ []) (sym (drop-map (tree_of kinds (grown kinds below)) start roots))

-- what the wrap puts below are the trees that were roots
pub wrapped-below : (kinds : List Kind) (below roots : List Slot) (start : ℕ) → AreRooted kinds below roots → grown kinds (below ++ drop start roots) ≡ grown kinds below ++ drop start (trees_over kinds below roots)
wrapped-below kinds below roots start h =
    grown-grounded kinds (length kinds) below (drop start roots) (all_grounded-drop (length kinds) (length below) start roots h.grounded)
    ∙ ap (λ ts. grown kinds below ++ ts) (sym (drop-map (tree_of kinds (grown kinds below)) start roots))

pub length-trees_over : (kinds : List Kind) (below roots : List Slot) → length (trees_over kinds below roots) ≡ length roots
length-trees_over kinds below roots = length-map roots (tree_of kinds (grown kinds below))
