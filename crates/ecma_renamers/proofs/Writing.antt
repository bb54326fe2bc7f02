-- A node of which the first children are renamed.
use Rattle.std.proofs.Common.{◌≡◌, ◌≢◌, ◌∙◌, ℕ, zero, suc, ◌+◌, Bool, true, false, cond, List, [], ◌∷◌, map, length, Option, Some, None, refl, sym, ap, ap₂, slice_get, set, add-one, arith}
use Rattle.ecma_kind.specs.declared.ident.Ident.{Ident}
use Rattle.ecma_kind.specs.declared.kind.Kind.{Kind}
use Rattle.ecma_tree.specs.Nodes.{node_of}
use Rattle.ecma_tree.specs.declared.node.Node.{Node, Node-F, out-Node, roll-Node}
use Rattle.ecma_tree.specs.declared.node.Node.TheViews.{out-roll-Node, roll-out-Node}
use Rattle.ecma_tree.proofs.Layers.{from_leaves_out}
use Rattle.ecma_renamers.specs.declared.spot.Spot.{Spot}
use Rattle.ecma_renamers.specs.Renaming.{Renaming, changed_node, expanded, first_item, is_kept, key_name, kind_is_absent, lone_name, name_of, new_ident, old_ident, renamed_at, renamed_step, shared_name, spot_in, two_names, two_patterns, with_ident, written_from, written_of}
use Rattle.ecma_renamers.specs.Walked.{with_renamed}

-- f of the first i items, each with its index, of which the first is k
abbrev pub front_each : (ℕ → Node → Node) → ℕ → List Node → ℕ → List Node
front_each f k [] i = []
front_each f k (x ∷ xs) zero = x ∷ xs
front_each f k (x ∷ xs) (suc i) = f k x ∷ front_each f (suc k) xs i

front-zero : (f : ℕ → Node → Node) (k : ℕ) (xs : List Node) → front_each f k xs 0 ≡ xs
front-zero f k [] = refl
front-zero f k (x ∷ xs) = refl

front-at : (f : ℕ → Node → Node) (k : ℕ) (xs : List Node) (i : ℕ) (x : Node) → slice_get (front_each f k xs i) i ≡ Some x → slice_get xs i ≡ Some x
front-at f k [] i x at = at
front-at f k (y ∷ ys) zero x at = at
front-at f k (y ∷ ys) (suc i) x at = front-at f (suc k) ys i x at

front-set : (f : ℕ → Node → Node) (k : ℕ) (xs : List Node) (i : ℕ) (x : Node) → slice_get xs i ≡ Some x → set (front_each f k xs i) i (f (k + i) x) ≡ front_each f k xs (suc i)
front-set f k [] i x at = cc
front-set f k (y ∷ ys) zero x at =
    let same : y ≡ x = cc in
    let here : k + 0 ≡ k = omega arith in
    (λ j. f (here j) (sym same j) ∷ sym (front-zero f (suc k) ys) j)
front-set f k (y ∷ ys) (suc i) x at =
    let here : k + suc i ≡ suc k + i = omega arith in
    ap (λ (m : ℕ). f k y ∷ set (front_each f (suc k) ys i) i (f m x)) here ∙ ap (λ (zs : List Node). f k y ∷ zs) (front-set f (suc k) ys i x at)

module _ (r : Renaming) (s : Spot) (n : Node) where
  -- what becomes of the child at an index
  abbrev pub child_text : ℕ → Node → Node
  child_text i x = renamed_at r x (spot_in r s (out-Node n).kind i)

  front-done : (k : ℕ) (xs : List Node) (i : ℕ) → length xs ≡ i → front_each child_text k xs i ≡ written_from (spot_in r s (out-Node n).kind) k (map (renamed_at r) xs)
  front-done k [] i all = refl
  front-done k (x ∷ xs) zero all = cc
  front-done k (x ∷ xs) (suc i) all = ap (λ (zs : List Node). child_text k x ∷ zs) (front-done (suc k) xs i (omega (arith, all)))

  abbrev pub front_parts : ℕ → Node-F Node
  front_parts i = record { span = (out-Node n).span; kind = (out-Node n).kind; children = front_each child_text 0 (out-Node n).children i }

  abbrev pub front : ℕ → Node
  front i = roll-Node (front_parts i)

  pub front-start : n ≡ front 0
  front-start = sym (roll-out-Node n) ∙ ap (λ (zs : List Node). node_of (out-Node n).span (out-Node n).kind zs) (sym (front-zero child_text 0 (out-Node n).children))

  pub front-out : (m : Node) (i : ℕ) → m ≡ front i → out-Node m ≡ front_parts i
  front-out m i is = ap out-Node is ∙ out-roll-Node (front_parts i)

  front-length : (k : ℕ) (xs : List Node) (i : ℕ) → length (front_each child_text k xs i) ≡ length xs
  front-length k [] i = refl
  front-length k (x ∷ xs) zero = refl
  front-length k (x ∷ xs) (suc i) = ap suc (front-length (suc k) xs i)

  pub same-length : (m : Node) (i : ℕ) → m ≡ front i → length (out-Node m).children ≡ length (out-Node n).children
  same-length m i is = ap (λ (z : Node-F Node). length z.children) (front-out m i is) ∙ front-length 0 (out-Node n).children i

  -- the child at i is still the old one
  pub child-was : (m : Node) (i : ℕ) (x : Node) → m ≡ front i → slice_get (out-Node m).children i ≡ Some x → slice_get (out-Node n).children i ≡ Some x
  child-was m i x is at = front-at child_text 0 (out-Node n).children i x (sym (ap (λ (z : Node-F Node). slice_get z.children i) (front-out m i is)) ∙ at)

  pub front-next : (m : Node) (i : ℕ) (x y : Node) → m ≡ front i → slice_get (out-Node m).children i ≡ Some x → y ≡ child_text i x
      → roll-Node (record { span = (out-Node m).span; kind = (out-Node m).kind; children = set (out-Node m).children i y }) ≡ front (i + 1)
  front-next m i x y is at done =
      let parts = front-out m i is in
      let was : slice_get (out-Node n).children i ≡ Some x = child-was m i x is at in
      let here : 0 + i ≡ i = omega arith in
      let more : set (front_each child_text 0 (out-Node n).children i) i y ≡ front_each child_text 0 (out-Node n).children (i + 1) =
      ap (λ (z : Node). set (front_each child_text 0 (out-Node n).children i) i z) (done ∙ ap (λ (k : ℕ). child_text k x) (sym here))
      ∙ front-set child_text 0 (out-Node n).children i x was ∙ ap (front_each child_text 0 (out-Node n).children) (sym (add-one i)) in
      ap (λ (z : Node-F Node). roll-Node (record { span = z.span; kind = z.kind; children = set z.children i y })) parts
      ∙ ap (λ (zs : List Node). node_of (out-Node n).span (out-Node n).kind zs) more

  pub front-all : (m : Node) (i : ℕ) → m ≡ front i → length (out-Node n).children ≡ i → m ≡ with_renamed r s n
  front-all m i is all = is ∙ ap (λ (zs : List Node). node_of (out-Node n).span (out-Node n).kind zs) (front-done 0 (out-Node n).children i all)

  -- with all children, and its own text
  pub renamed-out : renamed_at r n s ≡ cond (is_kept s (out-Node n).kind) n (changed_node r s n (map (renamed_at r) (out-Node n).children))
  renamed-out = ap (λ (f : Spot → Node). f s) (from_leaves_out (Spot → Node) (renamed_step r) n)

  -- what is kept stays
  pub renamed-kept : is_kept s (out-Node n).kind ≡ true → n ≡ renamed_at r n s
  renamed-kept kept = sym (renamed-out ∙ ap (λ (b : Bool). cond b n (changed_node r s n (map (renamed_at r) (out-Node n).children))) kept)

  -- with all children renamed, its own identifier changed and its shared name written out, it is renamed
  pub renamed-all : (m changed written : Node) (new old : Option Ident) → is_kept s (out-Node n).kind ≡ false → m ≡ with_renamed r s n
      → new ≡ new_ident r n → changed ≡ with_ident new m → old ≡ old_ident r (shared_name r s n) → written ≡ expanded (out-Node n).span old changed → written ≡ renamed_at r n s
  renamed-all m changed written new old usual is news changes olds expands =
      expands ∙ ap₂ (λ (o : Option Ident) (z : Node). expanded (out-Node n).span o z) olds (changes ∙ ap₂ (λ (o : Option Ident) (z : Node). with_ident o z) news is)
      ∙ sym (renamed-out ∙ ap (λ (b : Bool). cond b n (changed_node r s n (map (renamed_at r) (out-Node n).children))) usual)

-- ---- nodes with two children

pub two-items : (ns : List Node) (a b : Node) → length ns ≡ 2 → slice_get ns 0 ≡ Some a → slice_get ns 1 ≡ Some b → ns ≡ a ∷ b ∷ []
two-items [] a b two first second = cc
two-items (x ∷ []) a b two first second = cc
two-items (x ∷ y ∷ []) a b two first second = cc
two-items (x ∷ y ∷ z ∷ zs) a b two first second = absurd (omega arith)

pub lone_name-other : (ns : List Node) → length ns ≢ 2 → lone_name ns ≡ None
lone_name-other [] other = refl
lone_name-other (a ∷ []) other = refl
lone_name-other (a ∷ b ∷ []) other = absurd (other (omega arith))
lone_name-other (a ∷ b ∷ c ∷ cs) other = refl

pub lone_name-two : (ns : List Node) (a b : Node) → length ns ≡ 2 → slice_get ns 0 ≡ Some a → slice_get ns 1 ≡ Some b → lone_name ns ≡ cond (kind_is_absent b) (Some a) None
lone_name-two ns a b two first second = ap lone_name (two-items ns a b two first second)

second-item : (ns : List Node) (b : Node) → length ns ≡ 2 → slice_get ns 1 ≡ Some b → kind_is_absent b ≡ false → lone_name ns ≡ None
second-item [] b two second there = cc
second-item (x ∷ []) b two second there = cc
second-item (x ∷ y ∷ []) b two second there =
    let same : y ≡ b = cc in
    ap (λ (t : Bool). cond t (Some x) None) (ap kind_is_absent same ∙ there)
second-item (x ∷ y ∷ z ∷ zs) b two second there = absurd (omega arith)

pub lone_name-there : (ns : List Node) (b : Node) → length ns ≡ 2 → slice_get ns 1 ≡ Some b → kind_is_absent b ≡ false → lone_name ns ≡ None
lone_name-there = second-item

first-get : (ns : List Node) → slice_get ns 0 ≡ first_item ns
first-get [] = refl
first-get (n ∷ ns) = refl

pub key_name-two : (ns : List Node) (a : Node) → length ns ≡ 2 → slice_get ns 0 ≡ Some a → key_name ns ≡ slice_get (out-Node a).children 0
key_name-two [] a two first = cc
key_name-two (x ∷ []) a two first = absurd (omega arith)
key_name-two (x ∷ y ∷ []) a two first =
    let same : x ≡ a = cc in
    ap (λ (z : Node). first_item (out-Node z).children) same ∙ sym (first-get (out-Node a).children)
key_name-two (x ∷ y ∷ z ∷ zs) a two first = absurd (omega arith)

pub key_name-other : (ns : List Node) → length ns ≢ 2 → key_name ns ≡ None
key_name-other [] other = refl
key_name-other (a ∷ []) other = refl
key_name-other (a ∷ b ∷ []) other = absurd (other (omega arith))
key_name-other (a ∷ b ∷ c ∷ cs) other = refl

pub two_names-two : (old : Ident) (ns : List Node) → length ns ≡ 2 → set ns 1 (name_of old) ≡ two_names old ns
two_names-two old [] two = cc
two_names-two old (a ∷ []) two = absurd (omega arith)
two_names-two old (a ∷ b ∷ []) two = refl
two_names-two old (a ∷ b ∷ c ∷ cs) two = absurd (omega arith)

pub two_names-other : (old : Ident) (ns : List Node) → length ns ≢ 2 → ns ≡ two_names old ns
two_names-other old [] other = refl
two_names-other old (a ∷ []) other = refl
two_names-other old (a ∷ b ∷ []) other = absurd (other (omega arith))
two_names-other old (a ∷ b ∷ c ∷ cs) other = refl

pub two_patterns-two : (old : Ident) (written : Node) (ns : List Node) (a b : Node) → length ns ≡ 2 → slice_get ns 0 ≡ Some a → slice_get ns 1 ≡ Some b
    → two_patterns old written ns ≡ two_patterns old written (a ∷ b ∷ [])
two_patterns-two old written ns a b two first second = ap (two_patterns old written) (two-items ns a b two first second)

pub two_patterns-other : (old : Ident) (written : Node) (ns : List Node) → length ns ≢ 2 → written ≡ two_patterns old written ns
two_patterns-other old written [] other = refl
two_patterns-other old written (a ∷ []) other = refl
two_patterns-other old written (a ∷ b ∷ []) other = absurd (other (omega arith))
two_patterns-other old written (a ∷ b ∷ c ∷ cs) other = refl

pub set-keeps : (ns : List Node) (x a : Node) → slice_get (set ns 1 x) 0 ≡ Some a → slice_get ns 0 ≡ Some a
set-keeps [] x a at = at
set-keeps (n ∷ ns) x a at = at

pub ruleset writing = (lone_name-other, lone_name-two, lone_name-there, key_name-two, key_name-other, two_names-two, two_names-other, two_patterns-two, two_patterns-other, set-keeps)
