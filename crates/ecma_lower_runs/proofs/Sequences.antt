-- What is made of the items of a list, one behind the other: of the items with some at the end, and of what is written for them.
use Rattle.std.proofs.Common.{◌≡◌, ◌∙◌, ◌⊎◌, inl, inr, Bool, true, false, not, cond, refl, sym, ap, ap₂, List, [], ◌∷◌, ◌++◌, map, filter, append-nil, append_assoc}
use Rattle.std.proofs.lemmas.List.{map-append}
use Rattle.ecma_kind.specs.declared.shapes.Sort.TheVariants as sort
use Rattle.ecma_tree.specs.Sorted.{HasShape, one}
use Rattle.ecma_tree.specs.declared.node.Node.{Node}
use Rattle.ecma_runs.specs.Run.{Outcome, Done, Thrown, Returned, Broken, Continued, Ended, Run, then_outcome, ◌>>=◌, give}
use Rattle.ecma_lower_strip.proofs.Lists.{AreItems}

-- ---- one behind the other

pub record Joining (X : Type 0) : Type 0 where
  pub none : X
  pub join : X → X → X
  pub first : (a : X) → join none a ≡ a
  pub second : (a : X) → join a none ≡ a
  pub behind : (a b c : X) → join (join a b) c ≡ join a (join b c)

abbrev pub lists : (B : Type 0) → Joining (List B)
lists B = record { none = []; join = λ xs ys. xs ++ ys; first = λ xs. refl; second = λ xs. append-nil xs; behind = λ xs ys zs. append_assoc xs ys zs }

after-outcome : {A B C : Type 0} (f : A → Run B) (g : B → Run C) (r : Outcome A) → then_outcome (then_outcome r f) g ≡ then_outcome r (λ a. f a >>= g)
after-outcome f g (Done a s) = refl
after-outcome f g (Thrown v s) = refl
after-outcome f g (Returned v s) = refl
after-outcome f g (Broken s) = refl
after-outcome f g (Continued s) = refl
after-outcome f g (Ended why s) = refl

pub after : {A B C : Type 0} (m : Run A) (f : A → Run B) (g : B → Run C) → (m >>= f >>= g) ≡ (m >>= λ a. f a >>= g)
after m f g = λ i s. after-outcome f g (m s) i

give-outcome : {A : Type 0} (r : Outcome A) → then_outcome r give ≡ r
give-outcome (Done a s) = refl
give-outcome (Thrown v s) = refl
give-outcome (Returned v s) = refl
give-outcome (Broken s) = refl
give-outcome (Continued s) = refl
give-outcome (Ended why s) = refl

pub given-again : {A : Type 0} (m : Run A) → (m >>= give) ≡ m
given-again m = λ i s. give-outcome (m s) i

abbrev pub Step : Type 0
Step = Run (Unit {0})

abbrev pub steps : Joining Step
steps = record { none = give tt; join = λ a b. a >>= λ _. b; first = λ a. refl; second = λ a. given-again a; behind = λ a b c. after a (λ _. b) (λ _. c) }

-- ---- of items

abbrev pub IsItem : Node → Type 0
IsItem n = HasShape (one sort.ModuleItem) n

abbrev pub gather : {X : Type 0} → Joining X → (Node → X) → List Node → X
gather j f [] = j.none
gather j f (n ∷ ns) = j.join (f n) (gather j f ns)

module _ {X : Type 0} (j : Joining X) where
  module _ (f : Node → X) where
    gather-append : (xs ys : List Node) → gather j f (xs ++ ys) ≡ j.join (gather j f xs) (gather j f ys)
    gather-append [] ys = sym (j.first (gather j f ys))
    gather-append (x ∷ xs) ys = ap (j.join (f x)) (gather-append xs ys) ∙ sym (j.behind (f x) (gather j f xs) (gather j f ys))

    -- of those that pass a test, where nothing is made of any other
    gather-kept : (p : Node → Bool) → ((n : Node) → IsItem n → p n ≡ false → f n ≡ j.none) → (ns : List Node) → AreItems ns → gather j f (filter p ns) ≡ gather j f ns
    gather-kept p idle [] h = refl
    gather-kept p idle (n ∷ ns) h = by (p n) refl (gather-kept p idle ns h.1)
      where
        by : (b : Bool) → p n ≡ b → gather j f (filter p ns) ≡ gather j f ns → gather j f (cond b (n ∷ filter p ns) (filter p ns)) ≡ j.join (f n) (gather j f ns)
        by true e rest = ap (j.join (f n)) rest
        by false e rest = rest ∙ sym (j.first (gather j f ns)) ∙ ap (λ z. j.join z (gather j f ns)) (sym (idle n h.0 e))

    -- and where nothing is made of those
    gather-none : (p : Node → Bool) → ((n : Node) → IsItem n → p n ≡ true → f n ≡ j.none) → (ns : List Node) → AreItems ns → gather j f (filter p ns) ≡ j.none
    gather-none p idle [] h = refl
    gather-none p idle (n ∷ ns) h = by (p n) refl (gather-none p idle ns h.1)
      where
        by : (b : Bool) → p n ≡ b → gather j f (filter p ns) ≡ j.none → gather j f (cond b (n ∷ filter p ns) (filter p ns)) ≡ j.none
        by true e rest = ap₂ j.join (idle n h.0 e) rest ∙ j.first j.none
        by false e rest = rest

  -- where the same is made of what is written
  gather-written : (to : Node → Node) (f g : Node → X) (p : Node → Bool) → ((n : Node) → IsItem n → p n ≡ true → g (to n) ≡ f n) → (ns : List Node) → AreItems ns
      → gather j g (map to (filter p ns)) ≡ gather j f (filter p ns)
  gather-written to f g p same [] h = refl
  gather-written to f g p same (n ∷ ns) h = by (p n) refl (gather-written to f g p same ns h.1)
    where
      by : (b : Bool) → p n ≡ b → gather j g (map to (filter p ns)) ≡ gather j f (filter p ns)
          → gather j g (map to (cond b (n ∷ filter p ns) (filter p ns))) ≡ gather j f (cond b (n ∷ filter p ns) (filter p ns))
      by true e rest = ap₂ j.join (same n h.0 e) rest
      by false e rest = rest

  -- ---- items that pass a test go to the end

  module _ (to : Node → Node) (test : Node → Bool) where
    abbrev other : Node → Bool
    other n = not (test n)

    not-false : (b : Bool) → not b ≡ false → b ≡ true
    not-false true e = refl
    not-false false e = cc

    not-true : (b : Bool) → not b ≡ true → b ≡ false
    not-true true e = cc
    not-true false e = refl

    abbrev moved : List Node → List Node
    moved ns = filter other ns ++ filter test ns

    abbrev Others : (Node → Type 0) → Type 0
    Others P = (n : Node) → IsItem n → test n ≡ false → P n

    abbrev These : (Node → Type 0) → Type 0
    These P = (n : Node) → IsItem n → test n ≡ true → P n

    in-two : (g : Node → X) (ns : List Node) → gather j g (map to (moved ns)) ≡ j.join (gather j g (map to (filter other ns))) (gather j g (map to (filter test ns)))
    in-two g ns = ap (gather j g) (map-append to (filter other ns) (filter test ns)) ∙ gather-append g (map to (filter other ns)) (map to (filter test ns))

    others-written : (f g : Node → X) → Others (λ n. g (to n) ≡ f n) → (ns : List Node) → AreItems ns → gather j g (map to (filter other ns)) ≡ gather j f (filter other ns)
    others-written f g same ns h = gather-written to f g other (λ n i e. same n i (not-true (test n) e)) ns h

    -- of items of which the same is made once they are written, and nothing of those
    pub moved-same : (f g : Node → X) → ((n : Node) → IsItem n → g (to n) ≡ f n) → These (λ n. f n ≡ j.none) → (ns : List Node) → AreItems ns → gather j g (map to (moved ns)) ≡ gather j f ns
    moved-same f g same idle ns h =
        in-two g ns
        ∙ ap₂ j.join
        (others-written f g (λ n i e. same n i) ns h ∙ gather-kept f other (λ n i e. idle n i (not-false (test n) e)) ns h)
        (gather-written to f g test (λ n i e. same n i) ns h ∙ gather-none f test idle ns h)
        ∙ j.second (gather j f ns)

    -- what is made of those is made behind all else, before they are written or once they are
    abbrev pub Shifts : (Node → X) → (Node → X) → (Node → X) → Type 0
    Shifts last now late = (These (λ n. now (to n) ≡ last n) × These (λ n. late (to n) ≡ j.none)) ⊎ (These (λ n. now (to n) ≡ j.none) × These (λ n. late (to n) ≡ last n))

    shifted : (last now late : Node → X) → Shifts last now late → (ns : List Node) → AreItems ns
        → j.join (gather j now (map to (filter test ns))) (gather j late (map to (filter test ns))) ≡ gather j last (filter test ns)
    shifted last now late (inl s) ns h =
        ap₂ j.join (gather-written to last now test s.0 ns h)
        (gather-written to (λ n. j.none) late test s.1 ns h ∙ gather-none (λ n. j.none) test (λ n i e. refl) ns h)
        ∙ j.second (gather j last (filter test ns))
    shifted last now late (inr s) ns h =
        ap₂ j.join (gather-written to (λ n. j.none) now test s.0 ns h ∙ gather-none (λ n. j.none) test (λ n i e. refl) ns h)
        (gather-written to last late test s.1 ns h)
        ∙ j.first (gather j last (filter test ns))

    pub moved-shifted : (f last now late : Node → X) → Others (λ n. now (to n) ≡ f n) → Others (λ n. last n ≡ j.none) → Others (λ n. late (to n) ≡ j.none) → These (λ n. f n ≡ j.none) → Shifts last now late
        → (ns : List Node) → AreItems ns → j.join (gather j now (map to (moved ns))) (gather j late (map to (moved ns))) ≡ j.join (gather j f ns) (gather j last ns)
    moved-shifted f last now late same idle late-idle these shifts ns h =
        let now-these = gather j now (map to (filter test ns)) in
        let late-these = gather j late (map to (filter test ns)) in
        let now-is : gather j now (map to (moved ns)) ≡ j.join (gather j f ns) now-these =
        in-two now ns ∙ ap (λ z. j.join z now-these) (others-written f now same ns h ∙ gather-kept f other (λ n i e. these n i (not-false (test n) e)) ns h) in
        let late-is : gather j late (map to (moved ns)) ≡ late-these =
        in-two late ns
        ∙ ap (λ z. j.join z late-these) (others-written (λ n. j.none) late late-idle ns h ∙ gather-none (λ n. j.none) other (λ n i e. refl) ns h)
        ∙ j.first late-these in
        ap₂ j.join now-is late-is
        ∙ j.behind (gather j f ns) now-these late-these
        ∙ ap (j.join (gather j f ns)) (shifted last now late shifts ns h ∙ gather-kept last test idle ns h)
