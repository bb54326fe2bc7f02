-- What stays of a tree declares, without its types, what the tree declares as values that stay: by one induction.
use Rattle.std.proofs.Common.{◌≡◌, ℕ, suc, Bool, true, false, ◌&&◌, ◌||◌, not, cond, filter, List, [], ◌∷◌, ◌++◌, map, length, replicate, Option, Some, None, refl, sym, ap, ap₂, ◌∙◌, subst, slice_get}
use Rattle.ecma_kind.specs.Sorts.{is_type_wrapper}
use Rattle.ecma_kind.specs.declared.kind.Kind.{Kind}
use Rattle.ecma_kind.specs.declared.kind.Kind.TheVariants as kind
use Rattle.ecma_kind.specs.declared.shapes.Shape.{Shape}
use Rattle.ecma_kind.specs.declared.shapes.Sort.TheVariants as sort
use Rattle.ecma_tree.specs.Laws.{HaveShapes}
use Rattle.ecma_tree.specs.Nodes.{absent, node_of}
use Rattle.ecma_tree.specs.Sorted.{HasShape, child_shapes, is_list, item_shape, many}
use Rattle.ecma_tree.specs.declared.node.Node.{Node, Node-F, ind-Node, out-Node, roll-Node}
use Rattle.ecma_tree.specs.declared.node.Node.TheViews.{out-roll-Node}
use Rattle.ecma_scope.specs.declared.form.Part.{Part}
use Rattle.ecma_scope.specs.declared.form.Part.TheVariants as part
use Rattle.ecma_scope.specs.declared.form.Sought.{Sought}
use Rattle.ecma_scope.specs.Declarations.{in_default, in_item, in_member, in_name, in_scope, in_var, sought_by, sought_in}
use Rattle.ecma_strip.specs.Staying.{is_this_ident, is_this_param, item_stays, stays}
use Rattle.ecma_strip.specs.Stripping.{body_of, plain, plain_children, plain_kind, staying_nodes, stripped, without_empty, without_this}
use Rattle.ecma_strip.proofs.Stripping.{stripped-out}
use Rattle.ecma_hygiene.proofs.Telling.{and-left, and-right, true-false}
use Rattle.ecma_hygiene_scopes.specs.DeclaredIds.{DeclaredId, id_here, ids_at, ids_declared, ids_in}
use Rattle.ecma_hygiene_scopes.proofs.Directly.{ids-out}
use Rattle.ecma_hygiene_scopes.proofs.Parts.{children-of, kind-of}
use Rattle.ecma_strip_scopes.specs.Going.{is_list_part}
use Rattle.ecma_strip_scopes.specs.Laws.{WhatStaysIsDeclared}
use Rattle.ecma_strip_scopes.specs.Standing.{bodies_stay, clear_at, clear_here, clear_in, clear_step, has_value, is_clear, is_none, same}
use Rattle.ecma_strip_scopes.proofs.Exporting.{what-goes-declares-nothing}
use Rattle.ecma_strip_scopes.proofs.Going.{parts-have}
use Rattle.ecma_strip_scopes.proofs.Lasting.{here-lasts, lasting, lasting-append, none-lasts, param-goes}
use Rattle.ecma_strip_scopes.proofs.Standing.{body-same, changed-declares, full-declares, is-none, list-kind, list-sought, silent, value-free}
use Rattle.ecma_strip_scopes.proofs.Seeking.{Becomes, becomes, here-plain, itself, list, seeks-plain, setter-seeks, typed, wrapper}
use Rattle.ecma_tree.specs.Values.{is_value, is_value_where}
use Rattle.ecma_tree.proofs.Layers.{from_leaves_out}

-- ---- the children that become plain

at-list : (n x : Node) → ◌≡◌ {A = Option Node} (Some (stripped n)) (Some x) → is_list (out-Node n).kind ≡ true → is_list (out-Node x).kind ≡ true
unfolding plain plain_kind plain_children
at-list n x at is =
    let k : (out-Node n).kind ≡ kind.List = list-kind (out-Node n).kind is in
    let cs : List Node = map stripped (staying_nodes (out-Node n).kind (out-Node n).children) in
    let st : stripped n ≡ node_of (out-Node n).span kind.List cs = stripped-out n ∙ ap (λ (z : Kind). plain (out-Node n).span z cs) k in
    ap (λ (z : Node). is_list (out-Node z).kind) (sym (some-same (stripped n) x at) ∙ st) ∙ ap is_list (kind-of (out-Node n).span kind.List cs)
  where
    some-same : (a b : Node) → ◌≡◌ {A = Option Node} (Some a) (Some b) → a ≡ b
    some-same a b e = cc

plain-declares : (k : Kind) (ns : List Node) (shape : Shape) → HaveShapes (child_shapes k shape (length ns)) ns → bodies_stay k (map stripped ns) ≡ true → (into : ℕ → Option Sought) → (k ≡ kind.SetterProp → into 1 ≡ None)
    → ids_in into 0 (map ids_declared (plain_children k (map stripped ns))) ≡ ids_in into 0 (map ids_declared (map stripped ns))
unfolding plain_children
plain-declares (kind.Module s) (n ∷ []) shape have stay into none = changed-declares 0 without_empty (stripped n ∷ []) (λ x at q. full-declares x (at-list n x at (parts-have n (many sort.ModuleItem) have.0).0) q) into 0
plain-declares (kind.Module s) [] shape have stay into none = absurd have
plain-declares (kind.Module s) (n ∷ o ∷ others) shape have stay into none = absurd have.1
plain-declares (kind.Script s) (n ∷ []) shape have stay into none = changed-declares 0 without_empty (stripped n ∷ []) (λ x at q. full-declares x (at-list n x at (parts-have n (many sort.Stmt) have.0).0) q) into 0
plain-declares (kind.Script s) [] shape have stay into none = absurd have
plain-declares (kind.Script s) (n ∷ o ∷ others) shape have stay into none = absurd have.1
plain-declares kind.BlockStmt (n ∷ []) shape have stay into none = changed-declares 0 without_empty (stripped n ∷ []) (λ x at q. full-declares x (at-list n x at (parts-have n (many sort.Stmt) have.0).0) q) into 0
plain-declares kind.BlockStmt [] shape have stay into none = absurd have
plain-declares kind.BlockStmt (n ∷ o ∷ others) shape have stay into none = absurd have.1
plain-declares kind.TsModuleBlock (n ∷ []) shape have stay into none = changed-declares 0 without_empty (stripped n ∷ []) (λ x at q. full-declares x (at-list n x at (parts-have n (many sort.ModuleItem) have.0).0) q) into 0
plain-declares kind.TsModuleBlock [] shape have stay into none = absurd have
plain-declares kind.TsModuleBlock (n ∷ o ∷ others) shape have stay into none = absurd have.1
plain-declares kind.SwitchCase (t ∷ n ∷ []) shape have stay into none = changed-declares 1 without_empty (stripped t ∷ stripped n ∷ []) (λ x at q. full-declares x (at-list n x at (parts-have n (many sort.Stmt) have.1.0).0) q) into 0
plain-declares kind.SwitchCase [] shape have stay into none = absurd have
plain-declares kind.SwitchCase (t ∷ []) shape have stay into none = absurd have.1
plain-declares kind.SwitchCase (t ∷ n ∷ o ∷ others) shape have stay into none = absurd have.1.1
plain-declares kind.IfStmt (t ∷ y ∷ n ∷ []) shape have stay into none =
    changed-declares 1 body_of (stripped t ∷ stripped y ∷ body_of (stripped n) ∷ []) (λ x at q. body-same (Some (stripped y)) (and-left (item_stays (stripped y)) (item_stays (stripped n)) stay) x at q) into 0
    ∙ changed-declares 2 body_of (stripped t ∷ stripped y ∷ stripped n ∷ []) (λ x at q. body-same (Some (stripped n)) (and-right (item_stays (stripped y)) (item_stays (stripped n)) stay) x at q) into 0
plain-declares kind.IfStmt [] shape have stay into none = absurd have
plain-declares kind.IfStmt (t ∷ []) shape have stay into none = absurd have.1
plain-declares kind.IfStmt (t ∷ y ∷ []) shape have stay into none = absurd have.1.1
plain-declares kind.IfStmt (t ∷ y ∷ n ∷ o ∷ others) shape have stay into none = absurd have.1.1.1
plain-declares kind.LabeledStmt ns shape have stay into none = changed-declares 1 body_of (map stripped ns) (body-same (slice_get (map stripped ns) 1) stay) into 0
plain-declares kind.WhileStmt ns shape have stay into none = changed-declares 1 body_of (map stripped ns) (body-same (slice_get (map stripped ns) 1) stay) into 0
plain-declares kind.DoWhileStmt ns shape have stay into none = changed-declares 1 body_of (map stripped ns) (body-same (slice_get (map stripped ns) 1) stay) into 0
plain-declares kind.ForStmt ns shape have stay into none = changed-declares 3 body_of (map stripped ns) (body-same (slice_get (map stripped ns) 3) stay) into 0
plain-declares kind.ForInStmt ns shape have stay into none = changed-declares 2 body_of (map stripped ns) (body-same (slice_get (map stripped ns) 2) stay) into 0
plain-declares (kind.ForOfStmt a) ns shape have stay into none = changed-declares 2 body_of (map stripped ns) (body-same (slice_get (map stripped ns) 2) stay) into 0
plain-declares kind.SetterProp [] shape have stay into none = refl
plain-declares kind.SetterProp (a ∷ []) shape have stay into none = refl
plain-declares kind.SetterProp (a ∷ b ∷ ns) shape have stay into none =
    (λ j. ids_at (into 0) (ids_declared (stripped a)) ++ (ids_at (none refl j) (ids_declared (without_this (stripped b))) ++ ids_in into 2 (map ids_declared (map stripped ns))))
    ∙ sym (λ j. ids_at (into 0) (ids_declared (stripped a)) ++ (ids_at (none refl j) (ids_declared (stripped b)) ++ ids_in into 2 (map ids_declared (map stripped ns))))
plain-declares k ns shape have stay into none = refl

-- ---- children

list-part : (p : Part) (s v : Bool) (q : Sought) → sought_by p s v kind.List 0 ≡ Some q → is_list_part q.part ≡ true
unfolding in_scope in_item in_default in_member in_var in_name
list-part p s v q h = by p h
  where
    same_part : (p : Part) (b : Bool) → is_list_part p ≡ true → ◌≡◌ {A = Option Sought} (Some (record { part = p; stays = b })) (Some q) → is_list_part q.part ≡ true
    same_part p b is e = sym (ap (λ (o : Option Sought). elim o [ Some x ↦ is_list_part x.part | None ↦ true ]) e) ∙ is

    never : ◌≡◌ {A = Option Sought} None (Some q) → ⊥
    never e = cc

    by : (p : Part) → sought_by p s v kind.List 0 ≡ Some q → is_list_part q.part ≡ true
    by part.Scope e = absurd (never e)
    by part.Default e = absurd (never e)
    by part.Item e = same_part part.Item s refl e
    by part.Member e = same_part part.Member s refl e
    by part.Var e = same_part part.Var s refl e
    by (part.Name f) e = same_part (part.Name f) s refl e

absent-by : (p : Part) (s v : Bool) (i : ℕ) → sought_by p s v kind.Absent i ≡ None
unfolding in_scope in_item in_default in_member in_var in_name
absent-by part.Scope s v i = refl
absent-by part.Item s v i = refl
absent-by part.Default s v i = refl
absent-by part.Member s v i = refl
absent-by part.Var s v i = refl
absent-by (part.Name f) s v i = refl

absent-none : (q : Sought) → ids_declared absent q ≡ []
unfolding sought_in
absent-none q =
    silent absent q (ap (id_here q) (kind-of _ kind.Absent []))
    (λ j. ap (λ (k : Kind). sought_by q.part q.stays (is_value_where q.stays absent) k j) (kind-of _ kind.Absent []) ∙ absent-by q.part q.stays (is_value_where q.stays absent) j)

pub not-list : (k : Kind) (cs : List Node) → is_list k ≡ false → staying_nodes k cs ≡ cs
not-list kind.List cs h = absurd (true-false refl h)
not-list _ cs h = refl

chosen-left : (t a b : Bool) → t ≡ true → cond t a b ≡ true → a ≡ true
chosen-left true a b is h = h
chosen-left false a b is h = absurd (true-false is refl)

chosen-right : (t a b : Bool) → t ≡ false → cond t a b ≡ true → b ≡ true
chosen-right true a b is h = absurd (true-false refl is)
chosen-right false a b is h = h

same-by : (has a b : Bool) → (not has || same a b) ≡ true → has ≡ true → a ≡ b
same-by false a b h is = absurd (true-false is refl)
same-by true true true h is = refl
same-by true true false h is = absurd (true-false h refl)
same-by true false true h is = absurd (true-false h refl)
same-by true false false h is = refl

receivers-go : (b : Bool) (ds : List DeclaredId) → lasting true ds ≡ [] → (b || false) ≡ true → lasting b ds ≡ []
receivers-go true ds none may = none
receivers-go false ds none may = absurd (true-false may refl)

-- ---- with `t` parameters `this` may go

module _ (t : Bool) where
  abbrev Declares : Node → Type 0
  Declares m = (shape : Shape) (q : Sought) → HasShape shape m → q.stays ≡ true → is_clear t m q ≡ true → ids_declared (stripped m) q ≡ lasting t (ids_declared m q)

  abbrev nodes : List ((n : Node) × Declares n) → List Node
  nodes ns = map (λ e. e.0) ns

  at-declares : (n : (n : Node) × Declares n) (shape : Shape) → HasShape shape n.0 → (o : Option Sought) → clear_at o (is_clear t n.0) ≡ true → ids_at o (ids_declared (stripped n.0)) ≡ lasting t (ids_at o (ids_declared n.0))
  at-declares n shape has (Some q) clear = n.1 shape q has (and-left q.stays (is_clear t n.0 q) clear) (and-right q.stays (is_clear t n.0 q) clear)
  at-declares n shape has None clear = refl

  below : (ns : List ((n : Node) × Declares n)) (shapes : List Shape) → HaveShapes shapes (nodes ns) → (into : ℕ → Option Sought) (i : ℕ) → clear_in t false into i (nodes ns) (map (is_clear t) (nodes ns)) ≡ true
      → ids_in into i (map ids_declared (map stripped (nodes ns))) ≡ lasting t (ids_in into i (map ids_declared (nodes ns)))
  below [] shapes have into i clear = refl
  below (n ∷ ns) [] have into i clear = absurd have
  below (n ∷ ns) (s ∷ shapes) have into i clear =
      let here : Bool = clear_at (into i) (is_clear t n.0) in
      let rest : Bool = clear_in t false into (suc i) (nodes ns) (map (is_clear t) (nodes ns)) in
      ap₂ (λ (a b : List DeclaredId). a ++ b) (at-declares n s have.0 (into i) (and-left here rest clear)) (below ns shapes have.1 into (suc i) (and-right here rest clear))
      ∙ sym (lasting-append t (ids_at (into i) (ids_declared n.0)) (ids_in into (suc i) (map ids_declared (nodes ns))))

  gone-at : (n : Node) (shape : Shape) → HasShape shape n → stays n ≡ false → (t || not (is_this_param n)) ≡ true → (o : Option Sought) → ((q : Sought) → o ≡ Some q → is_list_part q.part ≡ true) → lasting t (ids_at o (ids_declared n)) ≡ []
  gone-at n shape has goes clear (Some q) part_of =
      gone-by (is_this_param n) refl clear
    where
      gone-by : (b : Bool) → is_this_param n ≡ b → (t || not b) ≡ true → lasting t (ids_declared n q) ≡ []
      gone-by true this may = receivers-go t (ids_declared n q) (param-goes n this q) may
      gone-by false this may = none-lasts t (ids_declared n q) (what-goes-declares-nothing shape n q has goes this (part_of q refl))
  gone-at n shape has goes clear None part_of = refl

  module _ (shape : Shape) (into to : ℕ → Option Sought) (o : Option Sought) (is : (j : ℕ) → into j ≡ o) (is_to : (j : ℕ) → to j ≡ o) (part_of : (q : Sought) → o ≡ Some q → is_list_part q.part ≡ true) where
    item-by : (n : (n : Node) × Declares n) → HasShape shape n.0 → (b : Bool) → stays n.0 ≡ b → (others : List Node) (rest : List DeclaredId) (i j : ℕ)
        → cond (not b) (t || not (is_this_param n.0)) (clear_at (into i) (is_clear t n.0)) ≡ true
        → ((l : ℕ) → ids_in to l (map ids_declared (map stripped others)) ≡ lasting t rest)
        → ids_in to j (map ids_declared (map stripped (cond b (n.0 ∷ others) others))) ≡ lasting t (ids_at (into i) (ids_declared n.0) ++ rest)
    item-by n has true st others rest i j clear rec =
        ap₂ (λ (a b : List DeclaredId). a ++ b) (ap (λ (z : Option Sought). ids_at z (ids_declared (stripped n.0))) (is_to j ∙ sym (is i)) ∙ at-declares n shape has (into i) clear) (rec (suc j))
        ∙ sym (lasting-append t (ids_at (into i) (ids_declared n.0)) rest)
    item-by n has false st others rest i j clear rec =
        rec j
        ∙ sym (lasting-append t (ids_at (into i) (ids_declared n.0)) rest
        ∙ ap (λ (ds : List DeclaredId). ds ++ lasting t rest) (gone-at n.0 shape has st clear (into i) (λ q at. part_of q (sym (is i) ∙ at))))

    items : (ns : List ((n : Node) × Declares n)) → HaveShapes (replicate (length (nodes ns)) shape) (nodes ns) → (i j : ℕ) → clear_in t true into i (nodes ns) (map (is_clear t) (nodes ns)) ≡ true
        → ids_in to j (map ids_declared (map stripped (filter stays (nodes ns)))) ≡ lasting t (ids_in into i (map ids_declared (nodes ns)))
    items [] have i j clear = refl
    items (n ∷ ns) have i j clear =
        let here : Bool = cond (not (stays n.0)) (t || not (is_this_param n.0)) (clear_at (into i) (is_clear t n.0)) in
        let rest : Bool = clear_in t true into (suc i) (nodes ns) (map (is_clear t) (nodes ns)) in
        item-by n have.0 (stays n.0) refl (filter stays (nodes ns)) (ids_in into (suc i) (map ids_declared (nodes ns))) i j (and-left here rest clear) (λ l. items ns have.1 (suc i) l (and-right here rest clear))

  module _ (m : Node) (ns : List ((n : Node) × Declares n)) (are : (out-Node m).children ≡ nodes ns) (shape : Shape) (q : Sought) (has : HasShape shape m) (stay : q.stays ≡ true) (clear : is_clear t m q ≡ true) where
    abbrev k : Kind
    k = (out-Node m).kind

    abbrev clear-kind : Bool
    clear-kind = cond (is_type_wrapper k) (is_none (ids_declared (stripped m) q)) ((not (has_value k) || same (is_value (stripped m)) (is_value m)) && bodies_stay k (map stripped (out-Node m).children))

    clear-parts : (clear_here t m q && clear_in t (is_list k) (sought_in q m) 0 (out-Node m).children (map (is_clear t) (out-Node m).children)) ≡ true
    clear-parts = sym (ap (λ f. f q) (from_leaves_out (Sought → Bool) (clear_step t) m)) ∙ clear

    here : clear_here t m q ≡ true
    here = and-left (clear_here t m q) (clear_in t (is_list k) (sought_in q m) 0 (out-Node m).children (map (is_clear t) (out-Node m).children)) clear-parts

    inner : clear_in t (is_list k) (sought_in q m) 0 (nodes ns) (map (is_clear t) (nodes ns)) ≡ true
    inner =
        subst (λ (cs : List Node). clear_in t (is_list k) (sought_in q m) 0 cs (map (is_clear t) cs) ≡ true) are
        (and-right (clear_here t m q) (clear_in t (is_list k) (sought_in q m) 0 (out-Node m).children (map (is_clear t) (out-Node m).children)) clear-parts)

    other-name : not (t && is_this_ident k) ≡ true
    other-name = and-left (not (t && is_this_ident k)) clear-kind here

    here-kind : clear-kind ≡ true
    here-kind = and-right (not (t && is_this_ident k)) clear-kind here

    have : HaveShapes (child_shapes k shape (length (nodes ns))) (nodes ns)
    have = subst (λ (cs : List Node). HaveShapes (child_shapes k shape (length cs)) cs) are (parts-have m shape has).1

    kept-out : lasting t (ids_declared m q) ≡ id_here q k ++ lasting t (ids_in (sought_in q m) 0 (map ids_declared (nodes ns)))
    kept-out =
        ap (lasting t) (ids-out m q ∙ ap (λ (cs : List Node). id_here q k ++ ids_in (sought_in q m) 0 (map ids_declared cs)) are)
        ∙ lasting-append t (id_here q k) (ids_in (sought_in q m) 0 (map ids_declared (nodes ns)))
        ∙ ap (λ (ds : List DeclaredId). ds ++ lasting t (ids_in (sought_in q m) 0 (map ids_declared (nodes ns)))) (here-lasts t q k stay other-name)

    nothing-here : ((p : Part) (s v : Bool) (i : ℕ) → sought_by p s v k i ≡ None) → ((q : Sought) → id_here q k ≡ []) → lasting t (ids_declared m q) ≡ []
    unfolding sought_in
    nothing-here none no_id = ap (lasting t) (silent m q (no_id q) (λ j. none q.part q.stays (is_value_where q.stays m) j))

    value-same : is_type_wrapper k ≡ false → has_value k ≡ true → is_value (stripped m) ≡ is_value m
    value-same other =
        same-by (has_value k) (is_value (stripped m)) (is_value m)
        (and-left (not (has_value k) || same (is_value (stripped m)) (is_value m)) (bodies_stay k (map stripped (out-Node m).children))
        (chosen-right (is_type_wrapper k) (is_none (ids_declared (stripped m) q)) ((not (has_value k) || same (is_value (stripped m)) (is_value m)) && bodies_stay k (map stripped (out-Node m).children)) other here-kind))

    value-there : is_value (stripped m) ≡ is_value m → is_value_where q.stays (stripped m) ≡ is_value_where q.stays m
    value-there = subst (λ (s : Bool). is_value_where s (stripped m) ≡ is_value_where s m) (sym stay)

    bodies : is_type_wrapper k ≡ false → bodies_stay k (map stripped (nodes ns)) ≡ true
    bodies other =
        ap (λ (cs : List Node). bodies_stay k (map stripped cs)) (sym are)
        ∙ and-right (not (has_value k) || same (is_value (stripped m)) (is_value m)) (bodies_stay k (map stripped (out-Node m).children))
        (chosen-right (is_type_wrapper k) (is_none (ids_declared (stripped m) q)) ((not (has_value k) || same (is_value (stripped m)) (is_value m)) && bodies_stay k (map stripped (out-Node m).children)) other here-kind)

    setter-none : k ≡ kind.SetterProp → sought_in q m 1 ≡ None
    unfolding sought_in
    setter-none is = ap (λ (z : Kind). sought_by q.part q.stays (is_value_where q.stays m) z 1) is ∙ setter-seeks q.part q.stays (is_value_where q.stays m)

    -- of what is no list
    itself-declares : ((cs : List Node) → plain (out-Node m).span k cs ≡ node_of (out-Node m).span (plain_kind k) (plain_children k cs)) → is_list k ≡ false → is_type_wrapper k ≡ false → ids_declared (stripped m) q ≡ lasting t (ids_declared m q)
    unfolding sought_in
    itself-declares eq no_list other =
        let cs : List Node = plain_children k (map stripped (nodes ns)) in
        let st : stripped m ≡ node_of (out-Node m).span (plain_kind k) cs = stripped-out m ∙ eq (map stripped (staying_nodes k (out-Node m).children))
        ∙ ap (λ (z : List Node). node_of (out-Node m).span (plain_kind k) (plain_children k (map stripped z))) (not-list k (out-Node m).children no_list ∙ are) in
        let kind_st : (out-Node (stripped m)).kind ≡ plain_kind k = ap (λ (z : Node). (out-Node z).kind) st ∙ kind-of (out-Node m).span (plain_kind k) cs in
        let children_st : (out-Node (stripped m)).children ≡ cs = ap (λ (z : Node). (out-Node z).children) st ∙ children-of (out-Node m).span (plain_kind k) cs in
        let seeks : (i : ℕ) → sought_in q (stripped m) i ≡ sought_in q m i = (λ i. ap (λ (z : Kind). sought_by q.part q.stays (is_value_where q.stays (stripped m)) z i) kind_st
        ∙ seeks-plain q.part q.stays (is_value_where q.stays m) (is_value_where q.stays (stripped m)) k i (λ v. value-there (value-same other v))) in
        ids-out (stripped m) q
        ∙ (λ j. id_here q (kind_st j) ++ ids_in (λ i. seeks i j) 0 (map ids_declared (children_st j)))
        ∙ ap₂ (λ (a b : List DeclaredId). a ++ b) (here-plain q k)
        (plain-declares k (nodes ns) shape have (bodies other) (sought_in q m) setter-none
        ∙ below ns (child_shapes k shape (length (nodes ns))) have (sought_in q m) 0 (subst (λ (b : Bool). clear_in t b (sought_in q m) 0 (nodes ns) (map (is_clear t) (nodes ns)) ≡ true) no_list inner))
        ∙ sym kept-out

    -- of a list
    list-declares : k ≡ kind.List → ids_declared (stripped m) q ≡ lasting t (ids_declared m q)
    unfolding plain plain_kind plain_children
    list-declares is =
        let cs : List Node = map stripped (filter stays (nodes ns)) in
        let o : Option Sought = sought_by q.part q.stays (is_value_where q.stays m) kind.List 0 in
        let st : stripped m ≡ node_of (out-Node m).span kind.List cs = stripped-out m ∙ (λ j. plain (out-Node m).span (is j) (map stripped (staying_nodes (is j) (are j)))) in
        let kind_st : (out-Node (stripped m)).kind ≡ kind.List = ap (λ (z : Node). (out-Node z).kind) st ∙ kind-of (out-Node m).span kind.List cs in
        let children_st : (out-Node (stripped m)).children ≡ cs = ap (λ (z : Node). (out-Node z).children) st ∙ children-of (out-Node m).span kind.List cs in
        ids-out (stripped m) q
        ∙ ap₂ (λ (z : Kind) (ms : List Node). id_here q z ++ ids_in (sought_in q (stripped m)) 0 (map ids_declared ms)) (kind_st ∙ sym is) children_st
        ∙ ap (λ (ds : List DeclaredId). id_here q k ++ ds)
        (items (item_shape shape) (sought_in q m) (sought_in q (stripped m)) o (list-sought m q is) (λ j. list-sought (stripped m) q kind_st j ∙ value-free q.part q.stays (is_value_where q.stays (stripped m)) (is_value_where q.stays m))
        (list-part q.part q.stays (is_value_where q.stays m)) ns (subst (λ (z : Kind). HaveShapes (child_shapes z shape (length (nodes ns))) (nodes ns)) is have) 0 0
        (subst (λ (b : Bool). clear_in t b (sought_in q m) 0 (nodes ns) (map (is_clear t) (nodes ns)) ≡ true) (ap is_list is) inner))
        ∙ sym kept-out

    node-declares : Becomes k → ids_declared (stripped m) q ≡ lasting t (ids_declared m q)
    node-declares (typed eq no_list other none no_id) =
        ap (λ (z : Node). ids_declared z q) (stripped-out m ∙ eq (out-Node m).span (map stripped (staying_nodes k (out-Node m).children))) ∙ absent-none q ∙ sym (nothing-here none no_id)
    node-declares (wrapper is none no_id) =
        is-none (ids_declared (stripped m) q)
        (chosen-left (is_type_wrapper k) (is_none (ids_declared (stripped m) q)) ((not (has_value k) || same (is_value (stripped m)) (is_value m)) && bodies_stay k (map stripped (out-Node m).children)) is here-kind)
        ∙ sym (nothing-here none no_id)
    node-declares (list is) = list-declares is
    node-declares (itself eq no_list other) = itself-declares (eq (out-Node m).span) no_list other

  declares : (m : Node) → Declares m
  declares = ind-Node Declares (λ x y is. (λ shape q has stay clear.
      node-declares (roll-Node x) y.children (ap (λ (z : Node-F Node). z.children) (out-roll-Node x) ∙ sym (ap (λ (z : Node-F Node). z.children) is)) shape q has stay clear (becomes (out-Node (roll-Node x)).kind)))

pub what-stays-is-declared : WhatStaysIsDeclared
what-stays-is-declared receivers shape tree q has stay clear = declares receivers tree shape q has stay clear
