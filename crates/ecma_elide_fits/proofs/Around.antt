-- What is around a node agrees with what is around what is left of it.
use Rattle.std.proofs.Common.{◌≡◌, ◌∙◌, ℕ, suc, Bool, true, false, not, ◌&&◌, ◌||◌, ◌==◌, List, length, Option, None, Some, refl, sym, ap, ap₂, subst, slice_get, arith}
use Rattle.std.proofs.lemmas.Bool.{eq-eqb, eqb-true}
use Rattle.ecma_kind.specs.declared.kind.Kind.{Kind}
use Rattle.ecma_kind.specs.declared.kind.Kind.TheVariants as kind
use Rattle.ecma_tree.specs.Sorted.{is_list}
use Rattle.ecma_tree.specs.declared.node.Node.{Node, out-Node}
use Rattle.ecma_rules.specs.declared.standing.Standing.{Standing}
use Rattle.ecma_rules.specs.declared.strays.Strays.{Strays}
use Rattle.ecma_rules.specs.declared.target.Target.{Target}
use Rattle.ecma_rules.specs.Children.{has_child, kind_of}
use Rattle.ecma_rules.specs.Jumps.{Held, ends_jumps, held_behind, held_in, is_held_stray, is_stray_in, label_of, own_label, text_by, text_of}
use Rattle.ecma_rules.specs.Lists.{last_by, last_in}
use Rattle.ecma_rules.specs.Strays.{in_named, is_stray, strays_in}
use Rattle.ecma_rules.specs.Surroundings.{standing_by, standing_in}
use Rattle.ecma_rules.specs.Targets.{target_in}
use Rattle.ecma_fits.specs.declared.role.Role.{Role}
use Rattle.ecma_fits.specs.declared.strays.Arguments.{Arguments}
use Rattle.ecma_fits.specs.declared.unfit.Where.{Where}
use Rattle.ecma_fits.specs.Fitting.{where_in}
use Rattle.ecma_fits.specs.Roles.{role_in}
use Rattle.ecma_fits.specs.Strays.{arguments_in}
use Rattle.ecma_elide_fits.specs.Dropping.{Dropping}
use Rattle.ecma_elide_fits.proofs.Dropped.{Whole, at, below, by_kind, child_to, count_to, has_same, kind_to, loses_at, seats_at, stay, stay_whole, to, whole}

-- the same but for what stands last: that stands last after which did before
pub record Alike (a b : Where) : Type 0 where
  pub role : a.role ≡ b.role
  pub target : a.around.target ≡ b.around.target
  pub standing : a.around.standing ≡ b.around.standing
  pub last : a.around.is_last ≡ true → b.around.is_last ≡ true
  pub arguments : a.arguments ≡ b.arguments

-- ---- in a list the index says nothing, but of what stands last

role_items : (r : Role) (k : Kind) (i j : ℕ) → is_list k ≡ true → role_in r k i ≡ role_in r k j
unfolding role_in
role_items r kind.List i j l = refl
role_items r _ i j l = cc

target_items : (t : Target) (k : Kind) (i j : ℕ) → is_list k ≡ true → target_in t k i ≡ target_in t k j
unfolding target_in
target_items t kind.List i j l = refl
target_items t _ i j l = cc

standing_items : (s : Standing) (k : Kind) (a b c e : Bool) (i j : ℕ) → is_list k ≡ true → standing_by s k a b i ≡ standing_by s k c e j
unfolding standing_by
standing_items s kind.List a b c e i j l = refl
standing_items s _ a b c e i j l = cc

arguments_items : (a : Arguments) (k : Kind) (i j : ℕ) → is_list k ≡ true → arguments_in a k i ≡ arguments_in a k j
unfolding arguments_in
arguments_items a kind.List i j l = refl
arguments_items a _ i j l = cc

last_items : (a b : Bool) (k : Kind) (n m i j : ℕ) → is_list k ≡ true → (suc i ≡ n → suc j ≡ m) → last_by a k n i ≡ true → last_by b k m j ≡ true
unfolding last_by
last_items a b kind.List n m i j l last h = eq-eqb (suc j) m (last (eqb-true (suc i) n h))
last_items a b _ n m i j l last h = cc

last_children : (a b : Bool) (k : Kind) (n m i : ℕ) → n ≡ m → (a ≡ true → b ≡ true) → last_by a k n i ≡ true → last_by b k m i ≡ true
unfolding last_by
last_children a b kind.List n m i e last h = ap (λ z. suc i == z) (sym e) ∙ h
last_children a b kind.Param n m i e last h = last h
last_children a b (kind.TsParamProp accessibility is_override readonly) n m i e last h = last h
last_children a b kind.AssignPat n m i e last h = last h
last_children a b _ n m i e last h = refl

module _ {S : Type 0} (d : Dropping S) where
  standing_children : (st : Standing) (loses : Bool) (s : S) (n : Node) (i : ℕ) → Whole d loses n → standing_in st n i ≡ standing_in st (to d loses s n) i
  standing_children st loses s n i w =
      sym (ap₂ (λ a b. standing_by st (kind_of (to d loses s n)) a b i) (has_same d loses s n 1 w) (has_same d loses s n 2 w)
      ∙ ap (λ k. standing_by st k (has_child n 1) (has_child n 2) i) (kind_to d loses s n))

  pub alike_children : (loses : Bool) (s : S) (n : Node) (a b : Where) → Alike a b → Whole d loses n → (i : ℕ) → Alike (where_in a n i) (where_in b (to d loses s n) i)
  alike_children loses s n a b alike w i =
      let k = sym (kind_to d loses s n) in
      let count = sym (count_to d loses s n ∙ ap length (stay_whole d loses s n w)) in
      record {
        role = ap₂ (λ r z. role_in r z i) alike.role k;
        target = ap₂ (λ t z. target_in t z i) alike.target k;
        standing = ap (λ st. standing_in st n i) alike.standing ∙ standing_children b.around.standing loses s n i w;
        last = λ h. ap (λ z. last_by b.around.is_last z (length (below (to d loses s n))) i) (sym k)
            ∙ last_children a.around.is_last b.around.is_last (kind_of n) (length (below n)) (length (below (to d loses s n))) i count alike.last h;
        arguments = ap₂ (λ r z. arguments_in r z i) alike.arguments k;
      }

  pub alike_items : (loses : Bool) (s : S) (n : Node) (a b : Where) → Alike a b → is_list (kind_of n) ≡ true → (i j : ℕ) → (suc i ≡ length (below n) → suc j ≡ length (stay d loses s n))
      → Alike (where_in a n i) (where_in b (to d loses s n) j)
  alike_items loses s n a b alike l i j last =
      let k = sym (kind_to d loses s n) in
      let m = to d loses s n in
      record {
        role = role_items a.role (kind_of n) i j l ∙ ap₂ (λ r z. role_in r z j) alike.role k;
        target = target_items a.around.target (kind_of n) i j l ∙ ap₂ (λ t z. target_in t z j) alike.target k;
        standing = standing_items a.around.standing (kind_of n) (has_child n 1) (has_child n 2) (has_child m 1) (has_child m 2) i j l
            ∙ ap₂ (λ st z. standing_by st z (has_child m 1) (has_child m 2) j) alike.standing k;
        last = λ h. ap (λ z. last_by b.around.is_last z (length (below m)) j) (sym k)
            ∙ last_items a.around.is_last b.around.is_last (kind_of n) (length (below n)) (length (below m)) i j l (λ e. last e ∙ sym (count_to d loses s n)) h;
        arguments = arguments_items a.arguments (kind_of n) i j l ∙ ap₂ (λ r z. arguments_in r z j) alike.arguments k;
      }

  -- ---- what an enum initialiser or a namespace body may not hold

  text_at : (loses : Bool) (s : S) (child : Option Node) → text_of (at d loses s child) ≡ text_of child
  text_at loses s None = refl
  text_at loses s (Some n) = ap text_by (kind_to d loses s n)

  label_same : (loses : Bool) (s : S) (n : Node) → Whole d loses n → label_of (to d loses s n) ≡ label_of n
  label_same loses s n w = ap text_of (child_to d loses s n 0 w) ∙ text_at (loses_at d loses n 0) (seats_at d s n 0) (slice_get (below n) 0)

  stray_by : (held : Held) (k : Kind) (loses : Bool) (s : S) (n : Node) → kind_of n ≡ k → is_stray_in held k (label_of (to d loses s n)) ≡ is_stray_in held k (label_of n)
  unfolding is_stray_in
  stray_by held kind.BreakStmt loses s n e = ap (is_stray_in held kind.BreakStmt) (label_same loses s n (whole d loses n kind.BreakStmt e refl))
  stray_by held kind.ContinueStmt loses s n e = ap (is_stray_in held kind.ContinueStmt) (label_same loses s n (whole d loses n kind.ContinueStmt e refl))
  stray_by held _ loses s n e = refl

  pub stray_same : (held : Held) (loses : Bool) (s : S) (n : Node) → is_held_stray held (to d loses s n) ≡ is_held_stray held n
  stray_same held = by_kind d (λ k n. is_stray_in held k (label_of n)) (stray_by held)

  pub held_children : (held : Held) (loses : Bool) (s : S) (n : Node) (i : ℕ) → Whole d loses n → held_in held n i ≡ held_in held (to d loses s n) i
  held_children held loses s n i w =
      sym (ap₂ (λ k label. held_behind (strays_in held.strays k i) (ends_jumps k) (own_label k label) held.labels) (kind_to d loses s n) (label_same loses s n w))

  held_by : (held : Held) (k : Kind) (label other : Option (List ℕ)) (i j : ℕ) → is_list k ≡ true
      → held_behind (strays_in held.strays k i) (ends_jumps k) (own_label k label) held.labels ≡ held_behind (strays_in held.strays k j) (ends_jumps k) (own_label k other) held.labels
  unfolding strays_in in_named
  held_by held kind.List label other i j l = refl
  held_by held _ label other i j l = cc

  pub held_items : (held : Held) (loses : Bool) (s : S) (n : Node) (i j : ℕ) → is_list (kind_of n) ≡ true → held_in held n i ≡ held_in held (to d loses s n) j
  held_items held loses s n i j l =
      held_by held (kind_of n) (label_of n) (label_of (to d loses s n)) i j l
      ∙ ap (λ k. held_behind (strays_in held.strays k j) (ends_jumps k) (own_label k (label_of (to d loses s n))) held.labels) (sym (kind_to d loses s n))
