-- The walk over the tree without types comes to a part of the stops of the tree, in scopes that declare the same.
use Rattle.std.proofs.Common.{◌≡◌, inl, inr, ℕ, zero, suc, ◌-◌, Bool, true, false, ◌&&◌, not, cond, filter, List, [], ◌∷◌, ◌++◌, map, length, replicate, refl, sym, ap, ◌∙◌, subst}
use Rattle.std.specs.List.{All}
use Rattle.std.proofs.lemmas.List.Elements.{All-append, All-cons, All-head, All-nil, All-tail}
use Rattle.ecma_kind.specs.Sorts.{is_type_wrapper}
use Rattle.ecma_kind.specs.declared.kind.Kind.{Kind}
use Rattle.ecma_kind.specs.declared.kind.Kind.TheVariants as kind
use Rattle.ecma_kind.specs.declared.shapes.Shape.{Shape}
use Rattle.ecma_kind.specs.declared.shapes.Sort.{Sort}
use Rattle.ecma_kind.specs.declared.shapes.Sort.TheVariants as sort
use Rattle.ecma_kind.specs.declared.span.Span.{Span}
use Rattle.ecma_tree.specs.Laws.{HaveShapes}
use Rattle.ecma_tree.specs.Nodes.{absent, node_of}
use Rattle.ecma_tree.specs.Sorted.{HasShape, child_shapes, is_absent, is_list, item_shape, many, one}
use Rattle.ecma_tree.specs.declared.node.Node.{Node, Node-F, ind-Node, out-Node, roll-Node}
use Rattle.ecma_tree.specs.declared.node.Node.TheViews.{out-roll-Node}
use Rattle.ecma_scope.specs.declared.role.Role.{Role}
use Rattle.ecma_scope.specs.declared.role.Role.TheVariants as role
use Rattle.ecma_scope.specs.declared.form.Part.TheVariants as part
use Rattle.ecma_scope.specs.Declarations.{holds_vars}
use Rattle.ecma_scope.specs.Resolved.{context_count, taken}
use Rattle.ecma_scope.specs.Scopes.{covers, is_there, opens, opens_by, role_by, role_in}
use Rattle.ecma_strip.specs.Staying.{is_empty_stmt, item_stays, stays}
use Rattle.ecma_strip.specs.Stripping.{body_of, changed_at, plain, plain_children, plain_kind, staying_nodes, stripped, without_empty, without_this}
use Rattle.ecma_strip.proofs.Stripping.{stripped-out}
use Rattle.ecma_hygiene.specs.Ids.{Scope, innermost, own_ids}
use Rattle.ecma_hygiene.specs.Sights.{Around, around_child, nowhere, own_scope}
use Rattle.ecma_hygiene.proofs.Telling.{true-false}
use Rattle.ecma_hygiene_scopes.specs.Apart.{own_contexts}
use Rattle.ecma_hygiene_scopes.specs.DeclaredIds.{ids_declared, scope_ids}
use Rattle.ecma_hygiene_scopes.specs.Seats.{Seat}
use Rattle.ecma_hygiene_scopes.specs.Stops.{Stop, stops, stops_at, stops_from}
use Rattle.ecma_hygiene_scopes.proofs.Parts.{children-of, kind-of, parts_of}
use Rattle.ecma_hygiene_scopes.proofs.Stopping.{All-first, All-second, stops-out}
use Rattle.ecma_strip_scopes.specs.Apart.{IsClearSeat, IsWrapped}
use Rattle.ecma_strip_scopes.specs.Staying.{staying_seats}
use Rattle.ecma_strip_scopes.proofs.Declared.{not-list}
use Rattle.ecma_strip_scopes.proofs.Going.{parts-have}
use Rattle.ecma_strip_scopes.proofs.Lasting.{lasting}
use Rattle.ecma_strip_scopes.proofs.KindsKept.{covers-plain, opens-kept, opens-plain, role-kept, role-plain, wrapper-first, wrapper-no-list, wrapper-opens, wrapper-plain, wrapper-role, wrapper-some}
use Rattle.ecma_strip_scopes.proofs.RolesAlike.{Alike, alike-free, alike-same}
use Rattle.ecma_strip_scopes.proofs.ScopesDeclare.{scopes-declare, vars-plain}
use Rattle.ecma_strip_scopes.proofs.ScopesSame.{AreSame}
use Rattle.ecma_strip_scopes.proofs.Seeking.{Becomes, becomes, itself, list, typed, wrapper}
use Rattle.ecma_strip_scopes.proofs.Standing.{list-kind}
use Rattle.ecma_strip_scopes.proofs.StayingSeats.{staying-first, staying-out, staying-rest, staying_below}
use Rattle.ecma_strip_scopes.proofs.StopsKept.{Comes, IsSilent, Matches, contexts-within, scopes-inside, stop_of}
use Rattle.ecma_strip_scopes.proofs.Thinning.{Thins, thins-again, thins-append, thins-cons, thins-empty, thins-front, thins-none, thins-same, thins-skip}

map-append : {X Y : Type 0} (f : X → Y) (xs ys : List X) → map f (xs ++ ys) ≡ map f xs ++ map f ys
map-append f [] ys = refl
map-append {Y = Y} f (x ∷ xs) ys = ap (λ (zs : List Y). f x ∷ zs) (map-append f xs ys)

filter-all : (ns : List Node) → filter (λ n. true) ns ≡ ns
filter-all [] = refl
filter-all (n ∷ ns) = ap (λ (ms : List Node). n ∷ ms) (filter-all ns)

list-opens : (r : Role) (k : Kind) (named : Bool) → k ≡ kind.List → opens_by r k named ≡ false
unfolding opens_by
list-opens r k named is = ap (λ (z : Kind). opens_by r z named) is

list-role : (r : Role) (k : Kind) (one other : Bool) (i j : ℕ) → k ≡ kind.List → role_by r k one i ≡ role_by r k other j
unfolding role_by
list-role r k one other i j is = ap (λ (z : Kind). role_by r z one i) is ∙ sym (ap (λ (z : Kind). role_by r z other j) is)

list-covers : (r : Role) (k : Kind) (i : ℕ) → k ≡ kind.List → covers r k i ≡ true
unfolding covers
list-covers r k i is = ap (λ (z : Kind). covers r z i) is

absent-children : (k : Kind) → is_absent k ≡ true → (cs : List Node) → cs ≡ [] → plain_children k (map stripped cs) ≡ []
unfolding plain_children
absent-children kind.Absent is cs none = ap (map stripped) none
absent-children _ is cs none = absurd (true-false is refl)

-- a scope in two roles that are the same to it
role-ids : (r r' : Role) (k : Kind) → Alike r r' k → (m : Node) → (out-Node m).kind ≡ plain_kind k → scope_ids r' m ≡ scope_ids r m
role-ids r r' k alike m kind_st =
    let vars : holds_vars r' (out-Node m).kind ≡ holds_vars r (out-Node m).kind = ap (holds_vars r') kind_st ∙ vars-plain r' k ∙ alike.vars ∙ sym (vars-plain r k) ∙ sym (ap (holds_vars r) kind_st) in
    (λ j. ids_declared m (record { part = alike.own j; stays = not (alike.ambient j) }) ++ cond (vars j) (ids_declared m (record { part = part.Var; stays = not (alike.ambient j) })) [])

-- a node that stays: its scope is clear and not ambient, and types stand round expressions that are the same to their scopes without them
abbrev IsFine : Bool → Seat → Type 0
IsFine t seat = IsClearSeat t seat × IsWrapped seat

module _ (t : Bool) (P : Stop → Type 0) where
  abbrev contexts_at : List Stop → List (List ℕ)
  contexts_at stops = map own_contexts stops

  -- stops that come from those of the tree, and which declare in a part of these contexts
  abbrev Part : List Stop → List (List ℕ) → Type 0
  Part stops lists = All (Comes t P) stops × Thins (contexts_at stops) lists

  abbrev below : (ℕ → Around) → ℕ → List Node → ℕ → List Stop
  below around i ns left = stops_from around i ns (map stops_at ns) left

  part-append : (xs ys : List Stop) (us vs : List (List ℕ)) → Part xs us → Part ys vs → Part (xs ++ ys) (us ++ vs)
  part-append xs ys us vs one two = (
    All-append (Comes t P) xs ys one.0 two.0,
    subst (λ (z : List (List ℕ)). Thins z (us ++ vs)) (sym (map-append own_contexts xs ys)) (thins-append (contexts_at xs) (contexts_at ys) us vs one.1 two.1),
  )

  part-of : (xs : List Stop) (us vs : List (List ℕ)) → Part xs us → Thins us vs → Part xs vs
  part-of xs us vs one two = (one.0, thins-again (contexts_at xs) us vs one.1 two)

  -- ---- what is there for nothing

  silent-part : (m : Node) (b : Around) (less : ℕ) (lists : List (List ℕ)) → IsSilent (stop_of m b less) → Part (stops_at m b less) lists
  silent-part m b less lists silent =
      subst (λ (z : List Stop). Part z lists)
      (sym (stops-out m b less ∙ ap (λ (cs : List Node). stop_of m b less ∷ below (around_child b m) 0 cs (less - taken b.role m)) silent.none))
      (All-cons (Comes t P) (stop_of m b less) [] (inl silent) (All-nil (Comes t P)), subst (λ (z : List ℕ). Thins (z ∷ []) lists) (sym nothing) (thins-empty lists))
    where
      nothing : own_contexts (stop_of m b less) ≡ []
      nothing = (λ j. cond (silent.shut j) (map (λ id. id.1) (own_ids b.role (innermost b.scopes) m)) [])

  quiet-part : (span : Span) (k : Kind) (b : Around) (less : ℕ) (lists : List (List ℕ)) → ((named : Bool) → opens_by b.role k named ≡ false) → ((s : List ℕ) (c : ℕ) (o : Bool) → k ≡ kind.Ident s c o → ⊥) → Part (stops_at (node_of span k []) b less) lists
  quiet-part span k b less lists shut no_name =
      silent-part (node_of span k []) b less lists (record {
        none = children-of span k [];
        shut = ap (λ (z : Kind). opens_by b.role z (is_there (out-Node (node_of span k [])).children 0)) (kind-of span k []) ∙ shut (is_there (out-Node (node_of span k [])).children 0);
        no_name = λ s c o is. no_name s c o (sym (kind-of span k []) ∙ is);
      })

  absent-part : (b : Around) (less : ℕ) (lists : List (List ℕ)) → Part (stops_at absent b less) lists
  unfolding opens_by
  absent-part b less lists = quiet-part _ kind.Absent b less lists (λ named. refl) (λ s c o is. never s c o is)
    where
      never : (s : List ℕ) (c : ℕ) (o : Bool) → ◌≡◌ {A = Kind} kind.Absent (kind.Ident s c o) → ⊥
      never s c o is = cc

  empty-part : (span : Span) (b : Around) (less : ℕ) (lists : List (List ℕ)) → Part (stops_at (node_of span kind.EmptyStmt []) b less) lists
  unfolding opens_by
  empty-part span b less lists = quiet-part span kind.EmptyStmt b less lists (λ named. refl) (λ s c o is. never s c o is)
    where
      never : (s : List ℕ) (c : ℕ) (o : Bool) → ◌≡◌ {A = Kind} kind.EmptyStmt (kind.Ident s c o) → ⊥
      never s c o is = cc

  -- ---- a node, and what becomes of it

  -- a node is walked over olds this one is without its types
  abbrev Becoming : Node → Node → Type 0
  Becoming n m = (shape : Shape) (a b : Around) (left less : ℕ) → HasShape shape n → Alike a.role b.role (out-Node n).kind → AreSame t a.scopes b.scopes → All P (stops_at n a left)
      → All (IsFine t) (staying_seats n a.role) → Part (stops_at m b less) (contexts_at (stops_at n a left))

  abbrev Walks : Node → Type 0
  Walks n = Becoming n (stripped n) × (is_list (out-Node n).kind ≡ true → Becoming n (without_empty (stripped n)))

  abbrev nodes : List ((n : Node) × Walks n) → List Node
  nodes ns = map (λ e. e.0) ns

  abbrev AllBecome : List Node → List Node → Type 0
  AllBecome [] [] = Unit {0}
  AllBecome (n ∷ ns) (m ∷ ms) = Becoming n m × AllBecome ns ms
  AllBecome _ _ = ⊥

  all-walk : (ns : List ((n : Node) × Walks n)) → AllBecome (nodes ns) (map stripped (nodes ns))
  all-walk [] = tt
  all-walk (n ∷ ns) = (n.1.0, all-walk ns)

  changed-become : (i : ℕ) (to : Node → Node) (ns ms : List Node) → ((n m : Node) → Becoming n m → Becoming n (to m)) → AllBecome ns ms → AllBecome ns (changed_at i to ms)
  changed-become i to [] [] h all = tt
  changed-become zero to (n ∷ ns) (m ∷ ms) h all = (h n m all.0, all.1)
  changed-become (suc i) to (n ∷ ns) (m ∷ ms) h all = (all.0, changed-become i to ns ms h all.1)
  changed-become i to [] (m ∷ ms) h all = absurd all
  changed-become i to (n ∷ ns) [] h all = absurd all

  body-becomes : (n m : Node) → Becoming n m → Becoming n (body_of m)
  body-becomes n m h shape a b left less has alike same keeps fine = by (item_stays m)
    where
      by : (last : Bool) → Part (stops_at (cond last m (node_of (out-Node m).span kind.EmptyStmt [])) b less) (contexts_at (stops_at n a left))
      by true = h shape a b left less has alike same keeps fine
      by false = empty-part (out-Node m).span b less (contexts_at (stops_at n a left))

  this-becomes : (n m : Node) → Becoming n m → Becoming n (without_this m)
  this-becomes n m h shape a b left less has alike same keeps fine = by (is_absent (out-Node m).kind)
    where
      by : (last : Bool) → Part (stops_at (cond last m absent) b less) (contexts_at (stops_at n a left))
      by true = h shape a b left less has alike same keeps fine
      by false = absent-part b less (contexts_at (stops_at n a left))

  full : (n : (n : Node) × Walks n) (s : Sort) → HasShape (many s) n.0 → Becoming n.0 (without_empty (stripped n.0))
  full n s has = n.1.1 (parts-have n.0 (many s) has).0

  plain-become : (k : Kind) (ns : List ((n : Node) × Walks n)) (shape : Shape) (count : ℕ) → HaveShapes (child_shapes k shape count) (nodes ns) → AllBecome (nodes ns) (plain_children k (map stripped (nodes ns)))
  unfolding plain_children
  plain-become (kind.Module s) (n ∷ []) shape count have = (full n sort.ModuleItem have.0, tt)
  plain-become (kind.Module s) [] shape count have = absurd have
  plain-become (kind.Module s) (n ∷ o ∷ others) shape count have = absurd have.1
  plain-become (kind.Script s) (n ∷ []) shape count have = (full n sort.Stmt have.0, tt)
  plain-become (kind.Script s) [] shape count have = absurd have
  plain-become (kind.Script s) (n ∷ o ∷ others) shape count have = absurd have.1
  plain-become kind.BlockStmt (n ∷ []) shape count have = (full n sort.Stmt have.0, tt)
  plain-become kind.BlockStmt [] shape count have = absurd have
  plain-become kind.BlockStmt (n ∷ o ∷ others) shape count have = absurd have.1
  plain-become kind.TsModuleBlock (n ∷ []) shape count have = (full n sort.ModuleItem have.0, tt)
  plain-become kind.TsModuleBlock [] shape count have = absurd have
  plain-become kind.TsModuleBlock (n ∷ o ∷ others) shape count have = absurd have.1
  plain-become kind.SwitchCase (t ∷ n ∷ []) shape count have = (t.1.0, (full n sort.Stmt have.1.0, tt))
  plain-become kind.SwitchCase [] shape count have = absurd have
  plain-become kind.SwitchCase (t ∷ []) shape count have = absurd have.1
  plain-become kind.SwitchCase (t ∷ n ∷ o ∷ others) shape count have = absurd have.1.1
  plain-become kind.IfStmt ns shape count have =
      changed-become 1 body_of (nodes ns) (changed_at 2 body_of (map stripped (nodes ns))) body-becomes (changed-become 2 body_of (nodes ns) (map stripped (nodes ns)) body-becomes (all-walk ns))
  plain-become kind.LabeledStmt ns shape count have = changed-become 1 body_of (nodes ns) (map stripped (nodes ns)) body-becomes (all-walk ns)
  plain-become kind.WhileStmt ns shape count have = changed-become 1 body_of (nodes ns) (map stripped (nodes ns)) body-becomes (all-walk ns)
  plain-become kind.DoWhileStmt ns shape count have = changed-become 1 body_of (nodes ns) (map stripped (nodes ns)) body-becomes (all-walk ns)
  plain-become kind.ForStmt ns shape count have = changed-become 3 body_of (nodes ns) (map stripped (nodes ns)) body-becomes (all-walk ns)
  plain-become kind.ForInStmt ns shape count have = changed-become 2 body_of (nodes ns) (map stripped (nodes ns)) body-becomes (all-walk ns)
  plain-become (kind.ForOfStmt x) ns shape count have = changed-become 2 body_of (nodes ns) (map stripped (nodes ns)) body-becomes (all-walk ns)
  plain-become kind.SetterProp ns shape count have = changed-become 1 without_this (nodes ns) (map stripped (nodes ns)) this-becomes (all-walk ns)
  plain-become _ ns shape count have = all-walk ns

  -- ---- children

  module _ (olds news : ℕ → Around) where
    joined : (i left j less : ℕ) (n m : Node) (ns ms : List Node) → Part (stops_at m (news j) less) (contexts_at (stops_at n (olds i) left))
        → Part (below news (suc j) ms (less - context_count m (news j).role)) (contexts_at (below olds (suc i) ns (left - context_count n (olds i).role)))
        → Part (below news j (m ∷ ms) less) (contexts_at (below olds i (n ∷ ns) left))
    joined i left j less n m ns ms here rest =
        let later : List Stop = below olds (suc i) ns (left - context_count n (olds i).role) in
        subst (Part (below news j (m ∷ ms) less)) (sym (map-append own_contexts (stops_at n (olds i) left) later))
        (part-append (stops_at m (news j) less) (below news (suc j) ms (less - context_count m (news j).role)) (contexts_at (stops_at n (olds i) left)) (contexts_at later) here rest)

    skipped : (i left : ℕ) (n : Node) (ns : List Node) (xs : List Stop) → Part xs (contexts_at (below olds (suc i) ns (left - context_count n (olds i).role))) → Part xs (contexts_at (below olds i (n ∷ ns) left))
    skipped i left n ns xs rest =
        let later : List Stop = below olds (suc i) ns (left - context_count n (olds i).role) in
        subst (Part xs) (sym (map-append own_contexts (stops_at n (olds i) left) later))
        (part-append [] xs (contexts_at (stops_at n (olds i) left)) (contexts_at later) (All-nil (Comes t P), thins-none (contexts_at (stops_at n (olds i) left))) rest)

    alike-at : (i j : ℕ) (k : Kind) → (news j).role ≡ (olds i).role → Alike (olds i).role (news j).role k
    alike-at i j k roles = subst (λ (r : Role). Alike (olds i).role r k) (sym roles) (alike-same (olds i).role k)

    -- of children with these roles, those that stay are fine
    abbrev fine_below : Bool → ℕ → List Node → Type 0
    fine_below listed i ns = All (IsFine t) (staying_below listed (λ j. (olds j).role) i ns)

    walk-all : (ns ms : List Node) (shapes : List Shape) → ((i : ℕ) → (news i).role ≡ (olds i).role) → ((i : ℕ) → AreSame t (olds i).scopes (news i).scopes) → AllBecome ns ms → HaveShapes shapes ns → (i left less : ℕ) → All P (below olds i ns left)
        → fine_below false i ns → Part (below news i ms less) (contexts_at (below olds i ns left))
    walk-all [] [] shapes roles scopes become have i left less keeps fine = (All-nil (Comes t P), thins-none [])
    walk-all (n ∷ ns) (m ∷ ms) (s ∷ shapes) roles scopes become have i left less keeps fine =
        let here : List Stop = stops_at n (olds i) left in
        let later : List Stop = below olds (suc i) ns (left - context_count n (olds i).role) in
        joined i left i less n m ns ms
        (become.0 s (olds i) (news i) left less have.0 (alike-at i i (out-Node n).kind (roles i)) (scopes i) (All-first P here later keeps) (staying-first (IsFine t) false (λ j. (olds j).role) i n ns refl fine))
        (walk-all ns ms shapes roles scopes become.1 have.1 (suc i) (left - context_count n (olds i).role) (less - context_count m (news i).role) (All-second P here later keeps)
        (staying-rest (IsFine t) false (λ j. (olds j).role) i n ns fine))
    walk-all [] (m ∷ ms) shapes roles scopes become have i left less keeps fine = absurd become
    walk-all (n ∷ ns) [] shapes roles scopes become have i left less keeps fine = absurd become
    walk-all (n ∷ ns) (m ∷ ms) [] roles scopes become have i left less keeps fine = absurd have

    -- of the items of a list those that stay, and of these, without types, those that a test lets stay
    module _ (test : Node → Bool) (shape : Shape) (roles : (i j : ℕ) → (news j).role ≡ (olds i).role) (scopes : (i j : ℕ) → AreSame t (olds i).scopes (news j).scopes) where
      abbrev left_of : List Node → List Node
      left_of ns = filter test (map stripped (filter stays ns))

      item-by : (n : (n : Node) × Walks n) (ns : List Node) → HasShape shape n.0 → (s : Bool) → (i j left less : ℕ) → All P (stops_at n.0 (olds i) left) → (s ≡ true → All (IsFine t) (staying_seats n.0 (olds i).role))
          → ((j less : ℕ) → Part (below news j (left_of ns) less) (contexts_at (below olds (suc i) ns (left - context_count n.0 (olds i).role))))
          → Part (below news j (filter test (map stripped (cond s (n.0 ∷ filter stays ns) (filter stays ns)))) less) (contexts_at (below olds i (n.0 ∷ ns) left))
      item-by n ns has false i j left less keeps fine rest = skipped i left n.0 ns (below news j (left_of ns) less) (rest j less)
      item-by n ns has true i j left less keeps fine rest = by (test (stripped n.0))
        where
          by : (last : Bool) → Part (below news j (cond last (stripped n.0 ∷ left_of ns) (left_of ns)) less) (contexts_at (below olds i (n.0 ∷ ns) left))
          by true =
              joined i left j less n.0 (stripped n.0) ns (left_of ns) (n.1.0 shape (olds i) (news j) left less has (alike-at i j (out-Node n.0).kind (roles i j)) (scopes i j) keeps (fine refl))
              (rest (suc j) (less - context_count (stripped n.0) (news j).role))
          by false = skipped i left n.0 ns (below news j (left_of ns) less) (rest j less)

      walk-items : (ns : List ((n : Node) × Walks n)) → HaveShapes (replicate (length (nodes ns)) shape) (nodes ns) → (i j left less : ℕ) → All P (below olds i (nodes ns) left) → fine_below true i (nodes ns)
          → Part (below news j (left_of (nodes ns)) less) (contexts_at (below olds i (nodes ns) left))
      walk-items [] have i j left less keeps fine = (All-nil (Comes t P), thins-none [])
      walk-items (n ∷ ns) have i j left less keeps fine =
          let here : List Stop = stops_at n.0 (olds i) left in
          let fewer : ℕ = left - context_count n.0 (olds i).role in
          let later : List Stop = below olds (suc i) (nodes ns) fewer in
          let roles_of : ℕ → Role = (λ j. (olds j).role) in
          item-by n (nodes ns) have.0 (stays n.0) i j left less (All-first P here later keeps) (λ is. staying-first (IsFine t) true roles_of i n.0 (nodes ns) (ap not is) fine)
          (λ j less. walk-items ns have.1 (suc i) j fewer less (All-second P here later keeps) (staying-rest (IsFine t) true roles_of i n.0 (nodes ns) fine))

  -- ---- a node

  module _ (n : Node) (ns : List ((n : Node) × Walks n)) (are : (out-Node n).children ≡ nodes ns) (shape : Shape) (a b : Around) (left less : ℕ) (has : HasShape shape n) (alike : Alike a.role b.role (out-Node n).kind)
      (same : AreSame t a.scopes b.scopes) (keeps : All P (stops_at n a left)) (fine : All (IsFine t) (staying_seats n a.role)) where
    abbrev k : Kind
    k = (out-Node n).kind

    abbrev fewer : ℕ
    fewer = left - taken a.role n

    abbrev inner : List Stop
    inner = below (around_child a n) 0 (nodes ns) fewer

    stops-are : stops_at n a left ≡ stop_of n a left ∷ inner
    stops-are = stops-out n a left ∙ ap (λ (cs : List Node). stop_of n a left ∷ below (around_child a n) 0 cs fewer) are

    keeps-parts : All P (stop_of n a left ∷ inner)
    keeps-parts = subst (All P) stops-are keeps

    keep : P (stop_of n a left)
    keep = All-head P (stop_of n a left) inner keeps-parts

    keeps-inner : All P inner
    keeps-inner = All-tail P (stop_of n a left) inner keeps-parts

    abbrev inner_seats : List Seat
    inner_seats = staying_below (is_list k) (role_in a.role n) 0 (nodes ns)

    fine-parts : All (IsFine t) (record { role = a.role; node = n } ∷ inner_seats)
    fine-parts = subst (All (IsFine t)) (staying-out n a.role ∙ ap (λ (cs : List Node). record { role = a.role; node = n } ∷ staying_below (is_list k) (role_in a.role n) 0 cs) are) fine

    here : IsFine t (record { role = a.role; node = n })
    here = All-head (IsFine t) (record { role = a.role; node = n }) inner_seats fine-parts

    -- of those below
    fine-inner : (listed : Bool) → is_list k ≡ listed → All (IsFine t) (staying_below listed (role_in a.role n) 0 (nodes ns))
    fine-inner listed is =
        subst (λ (l : Bool). All (IsFine t) (staying_below l (role_in a.role n) 0 (nodes ns))) is (All-tail (IsFine t) (record { role = a.role; node = n }) inner_seats fine-parts)

    have : HaveShapes (child_shapes k shape (length (nodes ns))) (nodes ns)
    have = subst (λ (cs : List Node). HaveShapes (child_shapes k shape (length cs)) cs) are (parts-have n shape has).1

    -- a node with this one's kind and with children that become of its own
    node-part : (m : Node) → Matches t (stop_of n a left) (stop_of m b less) → Part (below (around_child b m) 0 (out-Node m).children (less - taken b.role m)) (contexts_at inner) → Part (stops_at m b less) (contexts_at (stops_at n a left))
    node-part m matched children =
        let inside : List Stop = below (around_child b m) 0 (out-Node m).children (less - taken b.role m) in
        subst (λ (z : List Stop). Part z (contexts_at (stops_at n a left))) (sym (stops-out m b less))
        (subst (λ (z : List Stop). Part (stop_of m b less ∷ inside) (contexts_at z)) (sym stops-are) (
          All-cons (Comes t P) (stop_of m b less) inside (inr (stop_of n a left, keep, matched)) children.0,
          thins-cons (own_contexts (stop_of m b less)) (own_contexts (stop_of n a left)) (contexts_at inside) (contexts_at inner) (contexts-within t n m a b left less matched) children.1,
        ))

    itself-part : ((cs : List Node) → plain (out-Node n).span k cs ≡ node_of (out-Node n).span (plain_kind k) (plain_children k cs)) → is_list k ≡ false → Part (stops_at (stripped n) b less) (contexts_at (stops_at n a left))
    itself-part eq no_list =
        let m : Node = stripped n in
        let cs : List Node = plain_children k (map stripped (nodes ns)) in
        let st : m ≡ node_of (out-Node n).span (plain_kind k) cs = stripped-out n ∙ eq (map stripped (staying_nodes k (out-Node n).children))
        ∙ ap (λ (z : List Node). node_of (out-Node n).span (plain_kind k) (plain_children k (map stripped z))) (not-list k (out-Node n).children no_list ∙ are) in
        let kind_st : (out-Node m).kind ≡ plain_kind k = ap (λ (z : Node). (out-Node z).kind) st ∙ kind-of (out-Node n).span (plain_kind k) cs in
        let children_st : (out-Node m).children ≡ cs = ap (λ (z : Node). (out-Node z).children) st ∙ children-of (out-Node n).span (plain_kind k) cs in
        let count : ℕ = length (nodes ns) in
        let opened : opens b.role m ≡ opens a.role n = (λ j. opens_by b.role (kind_st j) (is_there (children_st j) 0)) ∙ opens-plain b.role k (is_there cs 0) ∙ opens-kept b.role k shape count (nodes ns) have
        ∙ alike.opened (is_there (nodes ns) 0) ∙ sym (ap (λ (z : List Node). opens_by a.role k (is_there z 0)) are) in
        let covered : (i : ℕ) → covers b.role (out-Node m).kind i ≡ covers a.role k i = (λ i. ap (λ (z : Kind). covers b.role z i) kind_st ∙ covers-plain b.role k i ∙ alike.covered i) in
        let roles : (i : ℕ) → role_in b.role m i ≡ role_in a.role n i = (λ i. (λ j. role_by b.role (kind_st j) (is_there (children_st j) 1) i) ∙ role-plain b.role k (is_there cs 1) i ∙ role-kept b.role k shape count (nodes ns) have i
        ∙ alike.inner (is_there (nodes ns) 1) i ∙ sym (ap (λ (z : List Node). role_by a.role k (is_there z 1) i) are)) in
        let ids : opens a.role n ≡ true → scope_ids b.role m ≡ lasting t (scope_ids a.role n) = (λ is. role-ids a.role b.role k alike m kind_st ∙ scopes-declare t shape a.role n has is (here.0 is).0 (here.0 is).1) in
        let matched : Matches t (stop_of n a left) (stop_of m b less) =
        record { is = kind_st; bare = λ is none. children_st ∙ absent-children k is (nodes ns) (sym are ∙ none); alike = alike; same = same; opened = opened; ids = ids } in
        node-part m matched
        (subst (λ (z : List Node). Part (below (around_child b m) 0 z (less - taken b.role m)) (contexts_at inner)) (sym children_st)
        (walk-all (around_child a n) (around_child b m) (nodes ns) cs (child_shapes k shape count) roles (λ i. scopes-inside t n m a b left less matched i i (covered i))
        (plain-become k ns shape count have) have 0 fewer (less - taken b.role m) keeps-inner (fine-inner false no_list)))

    list-part : k ≡ kind.List → (test : Node → Bool) (m : Node) → m ≡ node_of (out-Node n).span kind.List (filter test (map stripped (filter stays (nodes ns)))) → Part (stops_at m b less) (contexts_at (stops_at n a left))
    unfolding plain_kind
    list-part is test m st =
        let cs : List Node = filter test (map stripped (filter stays (nodes ns))) in
        let kind_m : (out-Node m).kind ≡ kind.List = ap (λ (z : Node). (out-Node z).kind) st ∙ kind-of (out-Node n).span kind.List cs in
        let kind_st : (out-Node m).kind ≡ plain_kind k = kind_m ∙ sym (ap plain_kind is) in
        let children_st : (out-Node m).children ≡ cs = ap (λ (z : Node). (out-Node z).children) st ∙ children-of (out-Node n).span kind.List cs in
        let shut : opens a.role n ≡ false = list-opens a.role k (is_there (out-Node n).children 0) is in
        let opened : opens b.role m ≡ opens a.role n = list-opens b.role (out-Node m).kind (is_there (out-Node m).children 0) kind_m ∙ sym shut in
        let roles : (i j : ℕ) → role_in b.role m j ≡ role_in a.role n i = (λ i j. ap (λ (z : Kind). role_by b.role z (is_there (out-Node m).children 1) j) (kind_m ∙ sym is)
        ∙ list-role b.role k (is_there (out-Node m).children 1) (is_there (out-Node n).children 1) j i is ∙ alike.inner (is_there (out-Node n).children 1) i) in
        let ids : opens a.role n ≡ true → scope_ids b.role m ≡ lasting t (scope_ids a.role n) = (λ open_it. absurd (true-false open_it shut)) in
        let matched : Matches t (stop_of n a left) (stop_of m b less) =
        record { is = kind_st; bare = λ h none. absurd (true-false h (ap is_absent is)); alike = alike; same = same; opened = opened; ids = ids } in
        node-part m matched
        (subst (λ (z : List Node). Part (below (around_child b m) 0 z (less - taken b.role m)) (contexts_at inner)) (sym children_st)
        (walk-items (around_child a n) (around_child b m) test (item_shape shape) roles
        (λ i j. scopes-inside t n m a b left less matched i j (list-covers b.role (out-Node m).kind j kind_m ∙ sym (list-covers a.role k i is)))
        ns (subst (λ (z : Kind). HaveShapes (child_shapes z shape (length (nodes ns))) (nodes ns)) is have) 0 0 fewer (less - taken b.role m) keeps-inner (fine-inner true (ap is_list is))))

    list-stripped : k ≡ kind.List → stripped n ≡ node_of (out-Node n).span kind.List (map stripped (filter stays (nodes ns)))
    unfolding plain plain_kind plain_children
    list-stripped is = stripped-out n ∙ (λ j. plain (out-Node n).span (is j) (map stripped (staying_nodes (is j) (are j))))

    -- an expression with a type round it
    wrapper-by : (ms : List ((n : Node) × Walks n)) → (out-Node n).children ≡ nodes ms → HaveShapes (child_shapes k shape (length (nodes ns))) (nodes ms) → All P (below (around_child a n) 0 (nodes ms) fewer)
        → All (IsFine t) (staying_below false (role_in a.role n) 0 (nodes ms))
        → is_type_wrapper k ≡ true → Part (stops_at (stripped n) b less) (contexts_at (below (around_child a n) 0 (nodes ms) fewer))
    wrapper-by [] children have_some all_keep all_fine is = absurd (wrapper-some k shape (length (nodes ns)) is have_some)
    wrapper-by (e ∷ es) children have_some all_keep all_fine is =
        let first : Around = around_child a n 0 in
        let st : stripped n ≡ stripped e.0 = stripped-out n ∙ ap (λ (cs : List Node). plain (out-Node n).span k (map stripped (staying_nodes k cs))) children ∙ wrapper-plain k (out-Node n).span e.0 (nodes es) is in
        let has_e : HasShape (one sort.Expr) e.0 = wrapper-first k shape (length (nodes ns)) e.0 (nodes es) is have_some in
        let role_e : first.role ≡ role.Plain = wrapper-role a.role k (is_there (out-Node n).children 1) 0 is in
        let alike_e : Alike first.role b.role (out-Node e.0).kind = subst (λ (r : Role). Alike r b.role (out-Node e.0).kind) (sym role_e)
        (alike-free b.role (out-Node e.0).kind (alike.free (here.1 is)) (parts-have e.0 (one sort.Expr) has_e).0) in
        let scopes_e : first.scopes ≡ a.scopes = (λ j. cond (wrapper-opens a.role k (is_there (out-Node n).children 0) is j && covers a.role k 0) (a.scopes ++ own_scope a.role a.scopes n ∷ []) a.scopes) in
        let here_e : List Stop = stops_at e.0 first fewer in
        let later : List Stop = below (around_child a n) 1 (nodes es) (fewer - context_count e.0 first.role) in
        subst (λ (z : Node). Part (stops_at z b less) (contexts_at (here_e ++ later))) (sym st)
        (part-of (stops_at (stripped e.0) b less) (contexts_at here_e) (contexts_at (here_e ++ later))
        (e.1.0 (one sort.Expr) first b fewer less has_e alike_e (subst (λ (z : List Scope). AreSame t z b.scopes) (sym scopes_e) same) (All-first P here_e later all_keep)
        (staying-first (IsFine t) false (role_in a.role n) 0 e.0 (nodes es) refl all_fine))
        (subst (Thins (contexts_at here_e)) (sym (map-append own_contexts here_e later)) (thins-front (contexts_at here_e) (contexts_at later))))

    node-walks : Becomes k → Part (stops_at (stripped n) b less) (contexts_at (stops_at n a left))
    node-walks (typed eq no_list other none no_id) =
        subst (λ (z : Node). Part (stops_at z b less) (contexts_at (stops_at n a left))) (sym (stripped-out n ∙ eq (out-Node n).span (map stripped (staying_nodes k (out-Node n).children))))
        (absent-part b less (contexts_at (stops_at n a left)))
    node-walks (wrapper is none no_id) =
        subst (λ (z : List Stop). Part (stops_at (stripped n) b less) (contexts_at z)) (sym stops-are)
        (part-of (stops_at (stripped n) b less) (contexts_at inner) (own_contexts (stop_of n a left) ∷ contexts_at inner) (wrapper-by ns are have keeps-inner (fine-inner false (wrapper-no-list k is)) is)
        (thins-skip (own_contexts (stop_of n a left)) (contexts_at inner) (contexts_at inner) (thins-same (contexts_at inner))))
    node-walks (list is) = list-part is (λ x. true) (stripped n) (list-stripped is ∙ sym (ap (node_of (out-Node n).span kind.List) (filter-all (map stripped (filter stays (nodes ns))))))
    node-walks (itself eq no_list other) = itself-part (eq (out-Node n).span) no_list

  layer-walks : (n : Node) (ns : List ((n : Node) × Walks n)) → (out-Node n).children ≡ nodes ns → Walks n
  layer-walks n ns are = (
    λ shape a b left less has alike same keeps fine. node-walks n ns are shape a b left less has alike same keeps fine (becomes (out-Node n).kind),
    λ is shape a b left less has alike same keeps fine. (let listed : (out-Node n).kind ≡ kind.List = list-kind (out-Node n).kind is in
        let cs : List Node = map stripped (filter stays (nodes ns)) in
        list-part n ns are shape a b left less has alike same keeps fine listed (λ x. not (is_empty_stmt (out-Node x).kind)) (without_empty (stripped n))
        (ap without_empty (list-stripped n ns are shape a b left less has alike same keeps fine listed)
        ∙ ap (λ (z : Node-F Node). node_of z.span z.kind (filter (λ x. not (is_empty_stmt (out-Node x).kind)) z.children)) (out-roll-Node (parts_of (out-Node n).span kind.List cs)))),
  )

  walks : (n : Node) → Walks n
  walks = ind-Node Walks (λ x y is. layer-walks (roll-Node x) y.children (ap (λ (z : Node-F Node). z.children) (out-roll-Node x) ∙ sym (ap (λ (z : Node-F Node). z.children) is)))

  pub all-become : (n : Node) → Becoming n (stripped n)
  all-become n = (walks n).0

-- each stop of the tree without types comes from one of the tree, in scopes that declare the same, or is there for nothing
pub comes-from : (t : Bool) (P : Stop → Type 0) (count less : ℕ) (shape : Shape) (tree : Node) → HasShape shape tree → All P (stops count tree)
    → All (IsClearSeat t) (staying_seats tree role.Root) → All IsWrapped (staying_seats tree role.Root)
    → All (Comes t P) (stops less (stripped tree)) × Thins (map own_contexts (stops less (stripped tree))) (map own_contexts (stops count tree))
comes-from t P count less shape tree has known clear wrapped =
    all-become t P tree shape nowhere nowhere count less has (alike-same nowhere.role (out-Node tree).kind) tt known (λ k d lt. (clear k d lt, wrapped k d lt))
