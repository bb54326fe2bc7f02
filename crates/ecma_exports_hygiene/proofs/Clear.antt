-- Where what a module declares is clear, what its exported declarations declare is.
use Rattle.std.proofs.Common.{◌≡◌, refl, sym, ap, ◌∙◌, ℕ, suc, List, [], ◌∷◌, map, filter, Option, Some, Bool, true, false, cond, not, ◌&&◌}
use Rattle.ecma_kind.specs.declared.kind.Kind.{Kind}
use Rattle.ecma_kind.specs.declared.kind.Kind.TheVariants as kind
use Rattle.ecma_kind.specs.Sorts.{belongs}
use Rattle.ecma_kind.specs.declared.shapes.Sort.TheVariants as sort
use Rattle.ecma_tree.specs.declared.node.Node.{Node, out-Node}
use Rattle.ecma_tree.specs.Sorted.{is_list}
use Rattle.ecma_tree.specs.Values.{is_value_where}
use Rattle.ecma_tree.proofs.Layers.{from_leaves_out}
use Rattle.ecma_scope.specs.declared.form.Part.TheVariants as part
use Rattle.ecma_scope.specs.declared.form.Sought.{Sought}
use Rattle.ecma_scope.specs.Declarations.{in_item, in_scope, in_var, sought_in}
use Rattle.ecma_strip.specs.Staying.{stays}
use Rattle.ecma_hygiene.proofs.Telling.{and-left, and-right, true-false}
use Rattle.ecma_strip_scopes.specs.Standing.{clear_at, clear_here, clear_in, clear_step, is_clear}
use Rattle.ecma_exports_hygiene.proofs.Items.{item_sought, var_sought}

abbrev pub IsClear : Node → Sought → Type 0
IsClear n q = is_clear true n q ≡ true

clear-below : (n : Node) (q : Sought) → IsClear n q → clear_in true (is_list (out-Node n).kind) (sought_in q n) 0 (out-Node n).children (map (is_clear true) (out-Node n).children) ≡ true
clear-below n q h =
    and-right (clear_here true n q) (clear_in true (is_list (out-Node n).kind) (sought_in q n) 0 (out-Node n).children (map (is_clear true) (out-Node n).children))
    (sym (ap (λ f. f q) (from_leaves_out (Sought → Bool) (clear_step true) n)) ∙ h)

clear-some : (o : Option Sought) (q : Sought) (d : Node) → o ≡ Some q → clear_at o (is_clear true d) ≡ true → IsClear d q
clear-some o q d is h = and-right q.stays (is_clear true d q) (sym (ap (λ z. clear_at z (is_clear true d)) is) ∙ h)

-- the one child of what is no list
one-clear : (list : Bool) (into : ℕ → Option Sought) (q : Sought) (d : Node) → list ≡ false → into 0 ≡ Some q → clear_in true list into 0 (d ∷ []) (map (is_clear true) (d ∷ [])) ≡ true → IsClear d q
one-clear list into q d e is h =
    clear-some (into 0) q d is
    (and-left (clear_at (into 0) (is_clear true d)) true (ap (λ b. cond (b && not (stays d)) true (clear_at (into 0) (is_clear true d)) && true) (sym e) ∙ h))

pub child-clear : (n d : Node) (q next : Sought) → (out-Node n).children ≡ d ∷ [] → is_list (out-Node n).kind ≡ false → sought_in q n 0 ≡ Some next → IsClear n q → IsClear d next
child-clear n d q next are list is h =
    one-clear (is_list (out-Node n).kind) (sought_in q n) next d list is
    (ap (λ (cs : List Node). clear_in true (is_list (out-Node n).kind) (sought_in q n) 0 cs (map (is_clear true) cs)) (sym are) ∙ clear-below n q h)

-- the items of a list that stay

abbrev pub AllClear : Sought → List Node → Type 0
AllClear q [] = Unit {0}
AllClear q (c ∷ cs) = IsClear c q × AllClear q cs

item-clear : (b : Bool) (o : Option Sought) (q : Sought) (c : Node) (rest : List Node) → o ≡ Some q → cond (not b) true (clear_at o (is_clear true c)) ≡ true → AllClear q rest → AllClear q (cond b (c ∷ rest) rest)
item-clear true o q c rest is h all = (clear-some o q c is h, all)
item-clear false o q c rest is h all = all

items-clear : (into : ℕ → Option Sought) (q : Sought) (i : ℕ) (cs : List Node) → ((j : ℕ) → into j ≡ Some q) → clear_in true true into i cs (map (is_clear true) cs) ≡ true → AllClear q (filter stays cs)
items-clear into q i [] is h = tt
items-clear into q i (c ∷ cs) is h =
    let first = cond (not (stays c)) true (clear_at (into i) (is_clear true c)) in
    let rest = clear_in true true into (suc i) cs (map (is_clear true) cs) in
    item-clear (stays c) (into i) q c (filter stays cs) (is i) (and-left first rest h) (items-clear into q (suc i) cs is (and-right first rest h))

pub list-clear : (n : Node) (q : Sought) → (out-Node n).kind ≡ kind.List → ((j : ℕ) → sought_in q n j ≡ Some q) → IsClear n q → AllClear q (filter stays (out-Node n).children)
list-clear n q list is h =
    items-clear (sought_in q n) q 0 (out-Node n).children is
    (ap (λ k. clear_in true (is_list k) (sought_in q n) 0 (out-Node n).children (map (is_clear true) (out-Node n).children)) (sym list) ∙ clear-below n q h)

-- ---- where they are looked for

pub list-items : (n : Node) → (out-Node n).kind ≡ kind.List → (j : ℕ) → sought_in item_sought n j ≡ Some item_sought
unfolding sought_in in_item
list-items n list j = ap (λ k. in_item true (is_value_where true n) k j) list

pub list-vars : (n : Node) → (out-Node n).kind ≡ kind.List → (j : ℕ) → sought_in var_sought n j ≡ Some var_sought
unfolding sought_in in_var
list-vars n list j = ap (λ k. in_var true k) list

pub export-items : (n : Node) → (out-Node n).kind ≡ kind.ExportDecl → sought_in item_sought n 0 ≡ Some item_sought
unfolding sought_in in_item
export-items n is = ap (λ k. in_item true (is_value_where true n) k 0) is

pub export-vars : (n : Node) → (out-Node n).kind ≡ kind.ExportDecl → sought_in var_sought n 0 ≡ Some var_sought
unfolding sought_in in_var
export-vars n is = ap (λ k. in_var true k) is

abbrev pub scope_sought : Sought
scope_sought = record { part = part.Scope; stays = true }

scope-by : (value : Bool) (k : Kind) → belongs sort.Module k ≡ true → in_scope true value k 0 ≡ Some item_sought
unfolding in_scope
scope-by value (kind.Module s) b = refl
scope-by value _ b = absurd (true-false b refl)

pub module-items : (n : Node) → belongs sort.Module (out-Node n).kind ≡ true → sought_in scope_sought n 0 ≡ Some item_sought
unfolding sought_in
module-items n b = scope-by (is_value_where true n) (out-Node n).kind b

vars-by : (k : Kind) → belongs sort.Module k ≡ true → in_var true k ≡ Some var_sought
unfolding in_var
vars-by (kind.Module s) b = refl
vars-by _ b = absurd (true-false b refl)

pub module-vars : (n : Node) → belongs sort.Module (out-Node n).kind ≡ true → sought_in var_sought n 0 ≡ Some var_sought
unfolding sought_in
module-vars n b = vars-by (out-Node n).kind b
