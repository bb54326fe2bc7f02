-- No two scopes of a tree get one context.
use Rattle.std.proofs.Common.{◌≡◌, ◌≢◌, ◌⊎◌, inl, inr, ℕ, suc, ◌+◌, ◌-◌, ◌<◌, ◌≤◌, ◌==◌, Bool, true, false, ◌&&◌, not, cond, List, [], ◌∷◌, ◌++◌, map, refl, sym, ap, ◌∙◌, subst, get_or, arith}
use Rattle.std.specs.List.{All}
use Rattle.std.proofs.lemmas.List.Elements.{All-append, All-cons, All-head, All-nil, All-tail}
use Rattle.ecma_kind.specs.declared.kind.Kind.{Kind}
use Rattle.ecma_kind.specs.declared.kind.Kind.TheVariants as kind
use Rattle.ecma_tree.specs.declared.node.Node.{Node, Node-F, ind-Node, out-Node, roll-Node}
use Rattle.ecma_tree.specs.declared.node.Node.TheViews.{out-roll-Node}
use Rattle.ecma_scope.specs.declared.role.Role.{Role}
use Rattle.ecma_scope.specs.declared.role.Role.TheVariants as role
use Rattle.ecma_scope.specs.Resolved.{context_count, contexts, counted, taken}
use Rattle.ecma_scope.specs.Scopes.{at_child, is_root, is_there, of_exports, of_specifier, opens, passes_ambient, passes_in_list, role_by, role_in}
use Rattle.ecma_scope.proofs.Opening.{context_count-out}
use Rattle.ecma_hygiene.specs.Sights.{Around, around_child, nowhere}
use Rattle.ecma_hygiene_scopes.specs.Stops.{Stop, stops, stops_at, stops_from}
use Rattle.ecma_hygiene_scopes.proofs.Stopping.{stops-out}

-- ---- no child is the root

at-below : (r : Role) (wanted i : ℕ) → is_root r ≡ false → is_root (at_child r wanted i) ≡ false
at-below r wanted i h = elim (i == wanted) as (λ b. is_root (cond b r role.Plain) ≡ false) [ true ↦ h | false ↦ refl ]

ambient-below : (b : Bool) → is_root (passes_ambient b) ≡ false
ambient-below true = refl
ambient-below false = refl

list-below : (r : Role) → is_root (passes_in_list r) ≡ false
list-below role.Sourced = refl
list-below role.Ambient = refl
list-below _ = refl

specifier-below : (r : Role) (i : ℕ) → is_root (of_specifier r i) ≡ false
specifier-below role.Sourced i = refl
specifier-below _ i = at-below role.Name 1 i refl

exports-below : (b : Bool) (i : ℕ) → is_root (of_exports b i) ≡ false
exports-below true i = at-below role.Sourced 0 i refl
exports-below false i = refl

role-below : (r : Role) (k : Kind) (sourced : Bool) (i : ℕ) → is_root (role_by r k sourced i) ≡ false
unfolding role_by
role-below r kind.List sourced i = list-below r
role-below r kind.LabeledStmt sourced i = at-below role.Name 0 i refl
role-below r (kind.ImportNamedSpecifier t) sourced i = at-below role.Name 1 i refl
role-below r (kind.ExportNamedSpecifier t) sourced i = specifier-below r i
role-below r (kind.NamedExport t) sourced i = exports-below sourced i
role-below r (kind.Function g a) sourced i = at-below role.Body 1 i refl
role-below r (kind.ArrowExpr a g) sourced i = at-below role.Body 1 i refl
role-below r (kind.Constructor a o) sourced i = at-below role.Body 2 i refl
role-below r kind.GetterProp sourced i = at-below role.Body 2 i refl
role-below r kind.SetterProp sourced i = at-below role.Body 3 i refl
role-below r kind.CatchClause sourced i = at-below role.CatchBody 1 i refl
role-below r kind.ExportDecl sourced i = ambient-below _
role-below r (kind.TsModuleDecl d g) sourced i = ambient-below _
role-below r (kind.TsNamespaceDecl d g) sourced i = ambient-below _
role-below r kind.TsModuleBlock sourced i = ambient-below _
role-below r _ sourced i = refl

-- ---- the numbers of scopes

abbrev pub opened : Stop → Bool
opened stop = opens stop.around.role stop.node

module _ (top : ℕ) where
  abbrev pub number : Stop → ℕ
  number stop = cond (is_root stop.around.role) top stop.left

  -- a scope below the root has a number above one and up to the other
  abbrev Between : ℕ → ℕ → Stop → Type 0
  Between low high stop = opened stop ≡ true → (is_root stop.around.role ≡ false) × (low < stop.left) × (stop.left ≤ high)

  abbrev pub Differ : Stop → Stop → Type 0
  Differ s t = opened s ≡ true → opened t ≡ true → number s ≢ number t

  abbrev pub NumbersApart : List Stop → Type 0
  NumbersApart [] = Unit {0}
  NumbersApart (s ∷ ss) = All (Differ s) ss × NumbersApart ss

  record Ranged (low high : ℕ) (ss : List Stop) : Type 0 where
    pub between : All (Between low high) ss
    pub apart : NumbersApart ss

  wider : (low mid high : ℕ) (ss : List Stop) → low ≤ mid → All (Between mid high) ss → All (Between low high) ss
  wider low mid high ss le all = λ k d lt is. (let b = all k d lt is in let l = b.1 in (b.0, omega arith, b.2))

  higher : (low mid high : ℕ) (ss : List Stop) → mid ≤ high → All (Between low mid) ss → All (Between low high) ss
  higher low mid high ss le all = λ k d lt is. (let b = all k d lt is in let l = b.2 in (b.0, b.1, omega arith))

  less-differ : (a b mid : ℕ) → mid < a → b ≤ mid → a ≡ b → ⊥
  less-differ a b mid above below same = omega arith

  numbers-differ : (s t : Stop) (low mid high : ℕ) → Between mid high s → Between low mid t → Differ s t
  numbers-differ s t low mid high bs bt is also same =
      let one = bs is in
      let two = bt also in
      less-differ s.left t.left mid one.1 two.2 (sym (ap (λ (b : Bool). cond b top s.left) one.0) ∙ same ∙ ap (λ (b : Bool). cond b top t.left) two.0)

  append-apart : (xs ys : List Stop) (low mid high : ℕ) → All (Between mid high) xs → All (Between low mid) ys → NumbersApart xs → NumbersApart ys → NumbersApart (xs ++ ys)
  append-apart [] ys low mid high bx by ax ay = ay
  append-apart (x ∷ xs) ys low mid high bx by ax ay =
      (All-append (Differ x) xs ys ax.0 (λ k d lt. numbers-differ x (get_or ys k d) low mid high (All-head (Between mid high) x xs bx) (by k d lt)), append-apart xs ys low mid high (All-tail (Between mid high) x xs bx) by ax.1 ay)

  abbrev Numbers : Node → Type 0
  Numbers n = (s : Around) (low left : ℕ) → is_root s.role ≡ false → low + context_count n s.role ≡ left → Ranged low left (stops_at n s left)

  abbrev AllNumbers : List Node → Type 0
  AllNumbers ns = (arounds : ℕ → Around) (i low left : ℕ) → ((j : ℕ) → is_root (arounds j).role ≡ false) → low + counted (λ j. (arounds j).role) i (map context_count ns) ≡ left
      → Ranged low left (stops_from arounds i ns (map stops_at ns) left)

  all-numbers : (ns : List ((n : Node) × Numbers n)) → AllNumbers (map (λ e. e.0) ns)
  all-numbers [] arounds i low left below count = record { between = All-nil (Between low left); apart = tt }
  all-numbers (n ∷ ns) arounds i low left below count =
      let c : ℕ = context_count n.0 (arounds i).role in
      let others : List Node = map (λ e. e.0) ns in
      let rest_count : ℕ = counted (λ j. (arounds j).role) (suc i) (map context_count others) in
      let mid : ℕ = left - c in
      let first_sum : mid + c ≡ left = omega (arith, count) in
      let rest_sum : low + rest_count ≡ mid = omega (arith, count) in
      let low_mid : low ≤ mid = omega (arith, rest_sum) in
      let mid_high : mid ≤ left = omega (arith, first_sum) in
      let first = n.1 (arounds i) mid left (below i) first_sum in
      let rest = all-numbers ns arounds (suc i) low mid below rest_sum in
      let xs : List Stop = stops_at n.0 (arounds i) left in
      let ys : List Stop = stops_from arounds (suc i) others (map stops_at others) mid in
      record {
        between = All-append (Between low left) xs ys (wider low mid left xs low_mid first.between) (higher low mid left ys mid_high rest.between);
        apart = append-apart xs ys low mid left first.between rest.between first.apart rest.apart;
      }

  taken-opened : (n : Node) (r : Role) → opens r n ≡ true → is_root r ≡ false → taken r n ≡ 1
  taken-opened n r is below = (λ j. cond (is j && not (below j)) 1 0)

  layer-numbers : (n : Node) → AllNumbers (out-Node n).children → Numbers n
  layer-numbers n children s low left below count =
      let all = context_count-out n s.role in
      let t : ℕ = taken s.role n in
      let inner_count : ℕ = counted (role_in s.role n) 0 (map context_count (out-Node n).children) in
      let sum : low + inner_count ≡ left - t = omega (arith, count, all) in
      let most : left - t ≤ left = omega arith in
      let here : Stop = record { node = n; around = s; left = left } in
      let rest : List Stop = stops_from (around_child s n) 0 (out-Node n).children (map stops_at (out-Node n).children) (left - t) in
      let inner = children (around_child s n) 0 low (left - t) (λ j. role-below s.role (out-Node n).kind (is_there (out-Node n).children 1) j) sum in
      let least : opened here ≡ true → left - t < left = λ is. (let one = taken-opened n s.role is below in omega (arith, one, count, all)) in
      let lowest : low ≤ left - t = omega (arith, sum) in
      subst (Ranged low left) (sym (stops-out n s left)) (record {
        between = All-cons (Between low left) here rest (λ is. (below, omega (arith, lowest, least is), omega arith)) (higher low (left - t) left rest most inner.between);
        apart = (λ k d lt. numbers-differ here (get_or rest k d) low (left - t) left (λ is. (below, least is, omega arith)) (inner.between k d lt), inner.apart);
      })

  numbers : (n : Node) → Numbers n
  numbers = ind-Node Numbers (λ x y is.
      layer-numbers (roll-Node x) (subst AllNumbers (ap (λ (z : Node-F Node). z.children) is ∙ sym (ap (λ (z : Node-F Node). z.children) (out-roll-Node x))) (all-numbers y.children)))

  each-numbers : (ns : List Node) → AllNumbers ns
  each-numbers [] arounds i low left below count = record { between = All-nil (Between low left); apart = tt }
  each-numbers (n ∷ ns) arounds i low left below count =
      let c : ℕ = context_count n (arounds i).role in
      let rest_count : ℕ = counted (λ j. (arounds j).role) (suc i) (map context_count ns) in
      let mid : ℕ = left - c in
      let first_sum : mid + c ≡ left = omega (arith, count) in
      let rest_sum : low + rest_count ≡ mid = omega (arith, count) in
      let low_mid : low ≤ mid = omega (arith, rest_sum) in
      let mid_high : mid ≤ left = omega (arith, first_sum) in
      let first = numbers n (arounds i) mid left (below i) first_sum in
      let rest = each-numbers ns arounds (suc i) low mid below rest_sum in
      let xs : List Stop = stops_at n (arounds i) left in
      let ys : List Stop = stops_from arounds (suc i) ns (map stops_at ns) mid in
      record {
        between = All-append (Between low left) xs ys (wider low mid left xs low_mid first.between) (higher low mid left ys mid_high rest.between);
        apart = append-apart xs ys low mid left first.between rest.between first.apart rest.apart;
      }

  -- the number of a scope is that of the top, or one of so many
  abbrev pub IsGiven : ℕ → Stop → Type 0
  IsGiven left stop = opened stop ≡ true → (number stop ≡ top) ⊎ ((0 < number stop) × (number stop ≤ left))

  top-differs : (a left : ℕ) → a ≤ left → left < top → top ≡ a → ⊥
  top-differs a left le lt same = omega arith

  positive : (low n : ℕ) → low < n → 0 < n
  positive low n lt = omega arith

  none-taken : (n : Node) → taken role.Root n ≡ 0
  none-taken n = none (opens role.Root n)
    where
      none : (b : Bool) → ◌≡◌ {A = ℕ} (cond (b && false) 1 0) 0
      none true = refl
      none false = refl

  pub record Given (left : ℕ) (ss : List Stop) : Type 0 where
    pub apart : NumbersApart ss
    pub given : All (IsGiven left) ss

  pub tree-numbers : (tree : Node) (left : ℕ) → left < top → contexts tree ≤ left → Given left (stops left tree)
  tree-numbers tree left below enough =
      let all = context_count-out tree role.Root in
      let t : ℕ = taken role.Root tree in
      let zero_taken : t ≡ 0 = none-taken tree in
      let inner_count : ℕ = counted (role_in role.Root tree) 0 (map context_count (out-Node tree).children) in
      let low : ℕ = left - inner_count in
      let sum : low + inner_count ≡ left - t = omega (arith, all, enough, zero_taken) in
      let most : left - t ≤ left = omega arith in
      let here : Stop = record { node = tree; around = nowhere; left = left } in
      let rest : List Stop = stops_from (around_child nowhere tree) 0 (out-Node tree).children (map stops_at (out-Node tree).children) (left - t) in
      let inner = each-numbers (out-Node tree).children (around_child nowhere tree) 0 low (left - t) (λ j. role-below role.Root (out-Node tree).kind (is_there (out-Node tree).children 1) j) sum in
      let between = higher low (left - t) left rest most inner.between in
      subst (Given left) (sym (stops-out tree nowhere left)) (record {
        apart = (λ k d lt is also same. (let b = between k d lt also in top-differs (get_or rest k d).left left b.2 below (same ∙ ap (λ (z : Bool). cond z top (get_or rest k d).left) b.0)), inner.apart);
        given = All-cons (IsGiven left) here rest (λ is. inl refl)
            (λ k d lt is. (let b = between k d lt is in inr (subst (λ (m : ℕ). (0 < m) × (m ≤ left)) (sym (ap (λ (z : Bool). cond z top (get_or rest k d).left) b.0)) (positive low (get_or rest k d).left b.1, b.2))));
      })
