-- What stays of a tree declares, without its types, what the tree declares as values that stay.
use Rattle.std.proofs.Common.{◌≡◌, ℕ, zero, suc, Bool, true, false, not, cond, filter, List, [], ◌∷◌, ◌++◌, map, Option, Some, None, refl, sym, ap, ap₂, ◌∙◌, slice_get}
use Rattle.ecma_kind.specs.declared.kind.Kind.{Kind}
use Rattle.ecma_kind.specs.declared.kind.Kind.TheVariants as kind
use Rattle.ecma_tree.specs.Nodes.{node_of}
use Rattle.ecma_tree.specs.Sorted.{is_list}
use Rattle.ecma_tree.specs.declared.node.Node.{Node, out-Node}
use Rattle.ecma_tree.specs.Values.{is_value_where}
use Rattle.ecma_scope.specs.declared.form.Part.{Part}
use Rattle.ecma_scope.specs.declared.form.Part.TheVariants as part
use Rattle.ecma_scope.specs.declared.form.Sought.{Sought}
use Rattle.ecma_scope.specs.Declarations.{in_default, in_item, in_member, in_name, in_scope, in_var, sought_by, sought_in}
use Rattle.ecma_strip.specs.Plain.{unless_missing}
use Rattle.ecma_strip.specs.Staying.{is_empty_stmt, item_stays}
use Rattle.ecma_strip.specs.Stripping.{body_of, changed_at, without_empty}
use Rattle.ecma_hygiene.proofs.Telling.{true-false}
use Rattle.ecma_hygiene_scopes.specs.DeclaredIds.{DeclaredId, id_here, ids_at, ids_declared, ids_in}
use Rattle.ecma_hygiene_scopes.proofs.Directly.{ids-out}
use Rattle.ecma_hygiene_scopes.proofs.Parts.{children-of, kind-of}
use Rattle.ecma_strip_scopes.specs.Standing.{is_none, same}
use Rattle.ecma_strip_scopes.proofs.Seeking.{list-seeks}

-- ---- lists of ids

pub none-all : (into : ℕ → Option Sought) (i : ℕ) (ns : List Node) → ((j : ℕ) → into j ≡ None) → ids_in into i (map ids_declared ns) ≡ []
none-all into i [] none = refl
none-all into i (n ∷ ns) none = ap (λ (o : Option Sought). ids_at o (ids_declared n) ++ ids_in into (suc i) (map ids_declared ns)) (none i) ∙ none-all into (suc i) ns none

pub silent : (n : Node) (q : Sought) → id_here q (out-Node n).kind ≡ [] → ((j : ℕ) → sought_in q n j ≡ None) → ids_declared n q ≡ []
silent n q here none = ids-out n q ∙ ap₂ (λ (a b : List DeclaredId). a ++ b) here (none-all (sought_in q n) 0 (out-Node n).children none)

pub is-none : (ds : List DeclaredId) → is_none ds ≡ true → ds ≡ []
is-none [] h = refl
is-none (d ∷ ds) h = absurd (true-false h refl)

-- ---- children that are changed

pub changed-declares : (i : ℕ) (to : Node → Node) (cs : List Node) → ((x : Node) → slice_get cs i ≡ Some x → (q : Sought) → ids_declared (to x) q ≡ ids_declared x q) → (into : ℕ → Option Sought) (j : ℕ)
    → ids_in into j (map ids_declared (changed_at i to cs)) ≡ ids_in into j (map ids_declared cs)
changed-declares i to [] same into j = refl
changed-declares zero to (c ∷ cs) same into j = ap (λ (ds : List DeclaredId). ds ++ ids_in into (suc j) (map ids_declared cs)) (by (into j))
  where
    by : (o : Option Sought) → ids_at o (ids_declared (to c)) ≡ ids_at o (ids_declared c)
    by (Some q) = same c refl q
    by None = refl
changed-declares (suc i) to (c ∷ cs) same into j = ap (λ (ds : List DeclaredId). ids_at (into j) (ids_declared c) ++ ds) (changed-declares i to cs same into (suc j))

pub body-same : (o : Option Node) → unless_missing o item_stays ≡ true → (x : Node) → o ≡ Some x → (q : Sought) → ids_declared (body_of x) q ≡ ids_declared x q
body-same o stay x is q = ap (λ (b : Bool). ids_declared (cond b x (node_of (out-Node x).span kind.EmptyStmt [])) q) (sym (ap (λ (z : Option Node). unless_missing z item_stays) is) ∙ stay)

-- ---- lists of statements lose empty ones

empty-by : (k : Kind) → is_empty_stmt k ≡ true → (p : Part) (s v : Bool) (i : ℕ) → sought_by p s v k i ≡ None
unfolding in_scope in_item in_default in_member in_var in_name
empty-by kind.EmptyStmt h part.Scope s v i = refl
empty-by kind.EmptyStmt h part.Item s v i = refl
empty-by kind.EmptyStmt h part.Default s v i = refl
empty-by kind.EmptyStmt h part.Member s v i = refl
empty-by kind.EmptyStmt h part.Var s v i = refl
empty-by kind.EmptyStmt h (part.Name f) s v i = refl
empty-by _ h p s v i = absurd (true-false h refl)

empty-here : (q : Sought) (k : Kind) → is_empty_stmt k ≡ true → id_here q k ≡ []
empty-here q (kind.Ident s c o) h = absurd (true-false h refl)
empty-here q _ h = refl

empty-none : (n : Node) (o : Option Sought) → is_empty_stmt (out-Node n).kind ≡ true → ids_at o (ids_declared n) ≡ []
unfolding sought_in
empty-none n (Some q) h = silent n q (empty-here q (out-Node n).kind h) (λ j. empty-by (out-Node n).kind h q.part q.stays (is_value_where q.stays n) j)
empty-none n None h = refl

module _ (into to : ℕ → Option Sought) (o : Option Sought) (is : (j : ℕ) → into j ≡ o) (is_to : (j : ℕ) → to j ≡ o) where
  full : (cs : List Node) (i j : ℕ) → ids_in to j (map ids_declared (filter (λ n. not (is_empty_stmt (out-Node n).kind)) cs)) ≡ ids_in into i (map ids_declared cs)
  full [] i j = refl
  full (c ∷ cs) i j = by (is_empty_stmt (out-Node c).kind) refl (full cs (suc i))
    where
      others : List Node
      others = filter (λ n. not (is_empty_stmt (out-Node n).kind)) cs

      by : (b : Bool) → is_empty_stmt (out-Node c).kind ≡ b → ((l : ℕ) → ids_in to l (map ids_declared others) ≡ ids_in into (suc i) (map ids_declared cs))
          → ids_in to j (map ids_declared (cond (not b) (c ∷ others) others)) ≡ ids_at (into i) (ids_declared c) ++ ids_in into (suc i) (map ids_declared cs)
      by true h rec = rec j ∙ sym (ap (λ (ds : List DeclaredId). ds ++ ids_in into (suc i) (map ids_declared cs)) (empty-none c (into i) h))
      by false h rec = (λ t. ids_at ((is_to j ∙ sym (is i)) t) (ids_declared c) ++ rec (suc j) t)

pub list-kind : (k : Kind) → is_list k ≡ true → k ≡ kind.List
list-kind kind.List h = refl
list-kind _ h = absurd (true-false h refl)

pub list-sought : (n : Node) (q : Sought) → (out-Node n).kind ≡ kind.List → (j : ℕ) → sought_in q n j ≡ sought_by q.part q.stays (is_value_where q.stays n) kind.List 0
unfolding sought_in
list-sought n q is j = ap (λ (k : Kind). sought_by q.part q.stays (is_value_where q.stays n) k j) is ∙ list-seeks q.part q.stays (is_value_where q.stays n) j 0

pub value-free : (p : Part) (s v w : Bool) → sought_by p s v kind.List 0 ≡ sought_by p s w kind.List 0
unfolding in_scope in_item in_default in_member in_var in_name
value-free part.Scope s v w = refl
value-free part.Item s v w = refl
value-free part.Default s v w = refl
value-free part.Member s v w = refl
value-free part.Var s v w = refl
value-free (part.Name f) s v w = refl

pub full-declares : (x : Node) → is_list (out-Node x).kind ≡ true → (q : Sought) → ids_declared (without_empty x) q ≡ ids_declared x q
full-declares x is q =
    let k : (out-Node x).kind ≡ kind.List = list-kind (out-Node x).kind is in
    let cs : List Node = filter (λ n. not (is_empty_stmt (out-Node n).kind)) (out-Node x).children in
    let y : Node = without_empty x in
    let kind_y : (out-Node y).kind ≡ kind.List = kind-of (out-Node x).span (out-Node x).kind cs ∙ k in
    ids-out y q
    ∙ ap₂ (λ (z : Kind) (ns : List Node). id_here q z ++ ids_in (sought_in q y) 0 (map ids_declared ns)) (kind_y ∙ sym k) (children-of (out-Node x).span (out-Node x).kind cs)
    ∙ ap (λ (ds : List DeclaredId). id_here q (out-Node x).kind ++ ds)
    (full (sought_in q x) (sought_in q y) (sought_by q.part q.stays (is_value_where q.stays x) kind.List 0) (list-sought x q k) (λ j. list-sought y q kind_y j ∙ value-free q.part q.stays (is_value_where q.stays y) (is_value_where q.stays x)) (out-Node x).children 0 0)
    ∙ sym (ids-out x q)
