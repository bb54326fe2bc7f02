-- What breaks no rule where types hold something breaks none where they hold nothing.
use Rattle.std.proofs.Common.{◌≡◌, ◌∙◌, ℕ, suc, Bool, true, false, ◌||◌, List, [], ◌∷◌, map, length, Option, Some, None, refl, sym, ap, ap₂, slice_get, subst}
use Rattle.std.specs.Prelude.{is_some}
use Rattle.ecma_kind.specs.declared.kind.Kind.{Kind}
use Rattle.ecma_kind.specs.declared.kind.Kind.TheVariants as kind
use Rattle.ecma_kind.specs.declared.shapes.Sort.TheVariants as sort
use Rattle.ecma_tree.specs.declared.node.Node.{Node, Node-F, ind-Node, out-Node, roll-Node}
use Rattle.ecma_tree.specs.declared.node.Node.TheViews.{out-roll-Node}
use Rattle.ecma_tree.proofs.Layers.{from_leaves_out}
use Rattle.ecma_grammar_laws.specs.RawSorts.{HasRawSort, RawShape, one, sorted}
use Rattle.ecma_grammar_laws.proofs.RawShapes.{HaveRaw, below, parts_of}
use Rattle.ecma_rules.specs.declared.standing.Around.{Around}
use Rattle.ecma_rules.specs.declared.standing.Standing.{Standing}
use Rattle.ecma_rules.specs.Baring.{bared, holds_types, own_children}
use Rattle.ecma_rules.specs.Children.{has_child, kind_of}
use Rattle.ecma_rules.specs.Failing.{failing_here, failing_step, first_failing, least, least_from}
use Rattle.ecma_rules.specs.Jumps.{Held, ends_jumps, first_stray, held_behind, held_in, is_held_stray, is_stray_in, label_of, not_held, own_label, stray_here, text_by, text_of}
use Rattle.ecma_rules.specs.Lists.{last_by, last_in}
use Rattle.ecma_rules.specs.Members.{second_constructor}
use Rattle.ecma_rules.specs.Rules.{first_broken, first_misplaced, is_misplaced, misplaced_here}
use Rattle.ecma_rules.specs.Strays.{strays_in}
use Rattle.ecma_rules.specs.Surroundings.{around_in, at_root, standing_by, standing_in}
use Rattle.ecma_rules.specs.Targets.{target_in}
use Rattle.ecma_text_types.proofs.Bared.{MappedAs, bared-child, bared-count, bared-has_child, bared-kind, bared-own, bared_of, mapped}
use Rattle.ecma_text_types.proofs.Shaped.{Shaped}
use Rattle.ecma_text_types.proofs.Tests.{misplaced-bared, second-bared}

-- least places

none-both : (a b : Option ℕ) → least a b ≡ None → (a ≡ None) × (b ≡ None)
none-both None b h = (refl, h)
none-both (Some i) None h = absurd (cc)
none-both (Some i) (Some j) h = absurd (cc)

both-none : (a b : Option ℕ) → a ≡ None → b ≡ None → least a b ≡ None
both-none a b h k = ap₂ least h k

none-told : (a b : Option ℕ) → is_some a ≡ is_some b → b ≡ None → a ≡ None
none-told None b same h = refl
none-told (Some i) None same h = absurd (cc)
none-told (Some i) (Some j) same h = absurd (cc)

-- a walk, where the test of a node and what it says of its children do not ask for what types hold
module _ (A : Type 0) (place : A → Node → Option ℕ) (inside : A → Node → ℕ → A)
    (place-bared : (a : A) (s : RawShape) (n : Node) → Shaped s n → is_some (place a (bared n)) ≡ is_some (place a n))
    (inside-bared : (a : A) (n : Node) (i : ℕ) → inside a (bared n) i ≡ inside a n i) where
  abbrev first : Node → A → Option ℕ
  first = first_failing A place inside

  abbrev Kept : Node → Type 0
  Kept n = (s : RawShape) → Shaped s n → (a : A) → first n a ≡ None → first (bared n) a ≡ None

  abbrev KeptOf : (List Node → List Node) → List Node → Type 0
  KeptOf own ns = (ss : List RawShape) → HaveRaw ss (own (map bared ns)) → (f g : ℕ → A) → ((i : ℕ) → f i ≡ g i) → (i : ℕ)
      → least_from A g i (map first ns) ≡ None → least_from A f i (map first (own (map bared ns))) ≡ None

  each-kept : (es : List ((n : Node) × Kept n)) → KeptOf (λ ns. ns) (map (λ e. e.0) es)
  each-kept [] ss h f g same i none = refl
  each-kept (e ∷ es) [] h f g same i none = absurd h
  each-kept (e ∷ es) (s ∷ ss) h f g same i none =
      let w = none-both (first e.0 (g i)) (least_from A g (suc i) (map first (map (λ e. e.0) es))) none in
      both-none (first (bared e.0) (f i)) (least_from A f (suc i) (map first (map bared (map (λ e. e.0) es))))
      (e.1 s h.0 (f i) (ap (first e.0) (same i) ∙ w.0)) (each-kept es ss h.1 f g same (suc i) w.1)

  name-kept : (e : (n : Node) × Kept n) (ns : List Node) (ss : List RawShape) → HaveRaw ss (bared e.0 ∷ []) → (f g : ℕ → A) → ((i : ℕ) → f i ≡ g i) → (i : ℕ)
      → least_from A g i (map first (e.0 ∷ ns)) ≡ None → least_from A f i (map first (bared e.0 ∷ [])) ≡ None
  name-kept e ns ss h f g same i none =
      let w = none-both (first e.0 (g i)) (least_from A g (suc i) (map first ns)) none in
      each-kept (e ∷ []) ss h f g same i (both-none (first e.0 (g i)) None w.0 refl)

  own-kept : (k : Kind) (es : List ((n : Node) × Kept n)) → KeptOf (own_children k) (map (λ e. e.0) es)
  own-kept kind.TsType es ss h f g same i none = refl
  own-kept kind.TsTypeParamDecl es ss h f g same i none = refl
  own-kept kind.TsTypeParamInstantiation es ss h f g same i none = refl
  own-kept (kind.TsIndexSignature readonly is_static) es ss h f g same i none = refl
  own-kept (kind.TsInterfaceDecl declare) [] ss h f g same i none = refl
  own-kept (kind.TsInterfaceDecl declare) (e ∷ es) ss h f g same i none = name-kept e (map (λ e. e.0) es) ss h f g same i none
  own-kept (kind.TsTypeAliasDecl declare) [] ss h f g same i none = refl
  own-kept (kind.TsTypeAliasDecl declare) (e ∷ es) ss h f g same i none = name-kept e (map (λ e. e.0) es) ss h f g same i none
  own-kept _ es ss h f g same i none = each-kept es ss h f g same i none

  first-out : (n : Node) (a : A) → first n a ≡ least (place a n) (least_from A (inside a n) 0 (map first (out-Node n).children))
  first-out n a = ap (λ f. f a) (from_leaves_out (A → Option ℕ) (failing_step A place inside) n)

  layer-kept : (n : Node) → KeptOf (own_children (kind_of n)) (out-Node n).children → Kept n
  layer-kept n each s h a none =
      let w = none-both (place a n) (least_from A (inside a n) 0 (map first (out-Node n).children)) (sym (first-out n a) ∙ none) in
      let p = parts_of (bared n) s h in
      let have : HaveRaw (below (bared n) s) (own_children (kind_of n) (map bared (out-Node n).children)) = subst (HaveRaw (below (bared n) s)) (bared-own n) p.1 in
      first-out (bared n) a
      ∙ both-none (place a (bared n)) (least_from A (inside a (bared n)) 0 (map first (out-Node (bared n)).children)) (none-told (place a (bared n)) (place a n) (place-bared a s n h) w.0)
      (ap (λ (ns : List Node). least_from A (inside a (bared n)) 0 (map first ns)) (bared-own n)
      ∙ each (below (bared n) s) have (inside a (bared n)) (inside a n) (inside-bared a n) 0 w.1)

  pub walk-kept : (n : Node) → Kept n
  walk-kept = ind-Node Kept (λ x y is.
      layer-kept (roll-Node x) (subst (λ (z : Node-F Node). KeptOf (own_children (kind_of (roll-Node x))) z.children) (is ∙ sym (out-roll-Node x)) (own-kept (kind_of (roll-Node x)) y.children)))

-- what is misplaced

here-some : (fails : Bool) (n : Node) → is_some (failing_here fails n) ≡ fails
here-some true n = refl
here-some false n = refl

least-some : (a b : Option ℕ) → is_some (least a b) ≡ (is_some a || is_some b)
least-some None b = refl
least-some (Some i) None = refl
least-some (Some i) (Some j) = refl

place-bared : (around : Around) (s : RawShape) (n : Node) → Shaped s n → is_some (misplaced_here around (bared n)) ≡ is_some (misplaced_here around n)
place-bared around s n h =
    least-some (failing_here (is_misplaced around (bared n)) (bared n)) (second_constructor (bared n))
    ∙ ap₂ (λ a b. a || b) (here-some (is_misplaced around (bared n)) (bared n) ∙ misplaced-bared around s n h ∙ sym (here-some (is_misplaced around n) n)) (second-bared s n h)
    ∙ sym (least-some (failing_here (is_misplaced around n) n) (second_constructor n))

-- nothing is asked in what holds types
standing-by : (s : Standing) (k : Kind) (n : Node) (i : ℕ) → MappedAs k n → standing_by s k (has_child (bared n) 1) (has_child (bared n) 2) i ≡ standing_by s k (has_child n 1) (has_child n 2) i
unfolding standing_by
standing-by s (kind.Constructor accessibility is_optional) n i m =
    ap (λ second. standing_by s (kind.Constructor accessibility is_optional) (has_child n 1) second i) (bared-has_child n (m refl) 2)
standing-by s (kind.NamedExport type_only) n i m = ap (λ first. standing_by s (kind.NamedExport type_only) first (has_child n 2) i) (bared-has_child n (m refl) 1)
standing-by s k n i m = refl

standing-bared : (s : Standing) (n : Node) (i : ℕ) → standing_in s (bared n) i ≡ standing_in s n i
standing-bared s n i =
    ap (λ k. standing_by s k (has_child (bared n) 1) (has_child (bared n) 2) i) (bared-kind n) ∙ standing-by s (kind_of n) n i (mapped n)

last-by : (is_last : Bool) (k : Kind) (n : Node) (i : ℕ) → MappedAs k n → last_by is_last k (length (out-Node (bared n)).children) i ≡ last_by is_last k (length (out-Node n).children) i
unfolding last_by
last-by is_last kind.List n i m = ap (λ count. last_by is_last kind.List count i) (bared-count n (m refl))
last-by is_last k n i m = refl

last-bared : (is_last : Bool) (n : Node) (i : ℕ) → last_in is_last (bared n) i ≡ last_in is_last n i
last-bared is_last n i = ap (λ k. last_by is_last k (length (out-Node (bared n)).children) i) (bared-kind n) ∙ last-by is_last (kind_of n) n i (mapped n)

around-bared : (around : Around) (n : Node) (i : ℕ) → around_in around (bared n) i ≡ around_in around n i
around-bared around n i =
    ap (λ k. record { target = target_in around.target k i; standing = standing_in around.standing (bared n) i; is_last = last_in around.is_last (bared n) i }) (bared-kind n)
    ∙ ap₂ (λ standing last. record { target = target_in around.target (kind_of n) i; standing = standing; is_last = last }) (standing-bared around.standing n i) (last-bared around.is_last n i)

-- strays

text-bared : (child : Option Node) → text_of (bared_of child) ≡ text_of child
text-bared None = refl
text-bared (Some n) = ap (λ k. text_by k) (bared-kind n)

abbrev LabelAs : Kind → Node → Type 0
LabelAs k n = holds_types k ≡ false → label_of (bared n) ≡ label_of n

label-bared : (n : Node) → LabelAs (kind_of n) n
label-bared n free = ap text_of (bared-child n (mapped n free) 0) ∙ text-bared (slice_get (out-Node n).children 0)

stray-by : (held : Held) (k : Kind) (n : Node) → LabelAs k n → is_stray_in held k (label_of (bared n)) ≡ is_stray_in held k (label_of n)
unfolding is_stray_in
stray-by held kind.BreakStmt n same = ap (is_stray_in held kind.BreakStmt) (same refl)
stray-by held kind.ContinueStmt n same = ap (is_stray_in held kind.ContinueStmt) (same refl)
stray-by held k n same = refl

stray-bared : (held : Held) (s : RawShape) (n : Node) → Shaped s n → is_some (stray_here held (bared n)) ≡ is_some (stray_here held n)
stray-bared held s n h =
    here-some (is_held_stray held (bared n)) (bared n)
    ∙ ap (λ k. is_stray_in held k (label_of (bared n))) (bared-kind n)
    ∙ stray-by held (kind_of n) n (label-bared n)
    ∙ sym (here-some (is_held_stray held n) n)

own-by : (k : Kind) (n : Node) → LabelAs k n → own_label k (label_of (bared n)) ≡ own_label k (label_of n)
own-by kind.LabeledStmt n same = same refl
own-by k n same = refl

held-bared : (held : Held) (n : Node) (i : ℕ) → held_in held (bared n) i ≡ held_in held n i
held-bared held n i =
    ap (λ k. held_behind (strays_in held.strays k i) (ends_jumps k) (own_label k (label_of (bared n))) held.labels) (bared-kind n)
    ∙ ap (λ label. held_behind (strays_in held.strays (kind_of n) i) (ends_jumps (kind_of n)) label held.labels) (own-by (kind_of n) n (label-bared n))

pub bared_keeps_rules : (full : Node) → HasRawSort sort.Module (bared full) → first_broken full ≡ None → first_broken (bared full) ≡ None
bared_keeps_rules full h none =
    let w = none-both (first_misplaced full at_root) (first_stray full) none in
    both-none (first_misplaced (bared full) at_root) (first_stray (bared full))
    (walk-kept Around misplaced_here around_in place-bared around-bared full (one (sorted sort.Module)) h at_root w.0)
    (walk-kept Held stray_here held_in stray-bared held-bared full (one (sorted sort.Module)) h not_held w.1)
