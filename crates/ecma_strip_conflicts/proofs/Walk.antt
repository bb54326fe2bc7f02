-- The walk over the tree without types: nothing is declared again.
use Rattle.std.proofs.Common.{◌≡◌, inl, inr, ℕ, zero, suc, Bool, true, false, ◌&&◌, not, cond, filter, List, [], ◌∷◌, ◌++◌, map, length, replicate, Option, None, is_some, refl, sym, ap, ◌∙◌, subst}
use Rattle.std.specs.List.{All}
use Rattle.std.proofs.lemmas.List.Elements.{All-head, All-tail}
use Rattle.ecma_kind.specs.Sorts.{is_type_wrapper}
use Rattle.ecma_kind.specs.declared.kind.Kind.{Kind}
use Rattle.ecma_kind.specs.declared.kind.Kind.TheVariants as kind
use Rattle.ecma_kind.specs.declared.shapes.Shape.{Shape}
use Rattle.ecma_kind.specs.declared.shapes.Sort.{Sort}
use Rattle.ecma_kind.specs.declared.shapes.Sort.TheVariants as sort
use Rattle.ecma_tree.specs.Laws.{HaveShapes}
use Rattle.ecma_tree.specs.Nodes.{absent, node_of}
use Rattle.ecma_tree.specs.Sorted.{HasShape, child_shapes, is_absent, is_list, item_shape, many, one}
use Rattle.ecma_tree.specs.declared.node.Node.{Node, Node-F, ind-Node, out-Node, roll-Node}
use Rattle.ecma_tree.specs.declared.node.Node.TheViews.{out-roll-Node}
use Rattle.ecma_scope.specs.declared.form.Part.TheVariants as part
use Rattle.ecma_scope.specs.declared.role.Role.{Role}
use Rattle.ecma_scope.specs.declared.role.Role.TheVariants as role
use Rattle.ecma_scope.specs.Conflicts.{Surrounding, clashes_in, clashing, has_parameters, meeting, own_clashes, redeclared_at, surrounds}
use Rattle.ecma_scope.specs.Declarations.{holds_vars, is_stated, names, sought_in, stated}
use Rattle.ecma_scope.specs.Resolved.{Place, resolved}
use Rattle.ecma_scope.specs.Scopes.{covers, is_there, opens, opens_by, role_by, role_in}
use Rattle.ecma_scope.proofs.Clashing.{redeclared_at-out}
use Rattle.ecma_scope.proofs.Unchanged.{keeps-sorts}
use Rattle.ecma_strip.specs.Staying.{is_empty_stmt, item_stays, stays}
use Rattle.ecma_strip.specs.Stripping.{body_of, changed_at, plain, plain_children, plain_kind, staying_nodes, stripped, without_empty, without_this}
use Rattle.ecma_strip.proofs.Stripping.{stripped-out}
use Rattle.ecma_hygiene.proofs.Telling.{true-false}
use Rattle.ecma_hygiene_scopes.specs.DeclaredIds.{ids_declared, scope_ids}
use Rattle.ecma_hygiene_scopes.specs.Seats.{Seat}
use Rattle.ecma_hygiene_scopes.proofs.Parts.{children-of, kind-of, parts_of}
use Rattle.ecma_strip_scopes.specs.Apart.{IsClearSeat, IsWrapped}
use Rattle.ecma_strip_scopes.specs.Standing.{clear_in, is_clear}
use Rattle.ecma_strip_scopes.specs.Staying.{staying_seats}
use Rattle.ecma_strip_scopes.proofs.Declared.{not-list, what-stays-is-declared}
use Rattle.ecma_strip_scopes.proofs.Going.{parts-have}
use Rattle.ecma_strip_scopes.proofs.KindsKept.{covers-plain, opens-kept, opens-plain, role-kept, role-plain, wrapper-first, wrapper-no-list, wrapper-opens, wrapper-plain, wrapper-role, wrapper-some}
use Rattle.ecma_strip_scopes.proofs.RolesAlike.{Alike}
use Rattle.ecma_strip_scopes.proofs.ScopesDeclare.{scopes-declare}
use Rattle.ecma_strip_scopes.proofs.Lasting.{lasting}
use Rattle.ecma_strip_scopes.proofs.ScopesSame.{goes}
use Rattle.ecma_strip_scopes.proofs.Seeking.{Becomes, becomes, itself, list, typed, wrapper}
use Rattle.ecma_strip_scopes.proofs.Standing.{list-kind}
use Rattle.ecma_strip_scopes.proofs.StayingSeats.{staying-among, staying-first, staying-out, staying-rest, staying_below}
use Rattle.ecma_strip_scopes.proofs.Wrapping.{module-wraps}
use Rattle.ecma_strip_conflicts.specs.Laws.{StrippedIsNotRedeclared, StrippedModulesAreNotRedeclared}
use Rattle.ecma_strip_conflicts.proofs.Bodies.{body-stays, states-last}
use Rattle.ecma_strip_conflicts.proofs.Fewer.{last}
use Rattle.ecma_strip_conflicts.proofs.HasParameters.{HasParameters, has-parameters}
use Rattle.ecma_strip_conflicts.proofs.Meeting.{names-last, scope-clear}
use Rattle.ecma_strip_conflicts.proofs.Contexts.{told}
use Rattle.ecma_strip_conflicts.proofs.Paths.{AllItems, AllPath, Next, Path, clear-inside, clear-items, clear-path, ends, ends-path, further, further-in, holds-opens, is_way, list-way, nexts, no-way, path-still, root-path, still-items, var, way-plain}
use Rattle.ecma_strip_conflicts.proofs.Quiet.{absent-quiet, both-none, empty-quiet, filter-all, first-none, list-opens, list-role, role-ids, second-none}
use Rattle.ecma_strip_conflicts.proofs.Safe.{AllHold, Holds, free, held, holds, module-root}
use Rattle.ecma_strip_conflicts.proofs.Scope.{Near, near-alike}

module _ (receivers : Bool) where
  -- ---- what is known of a node, in its surrounding

  abbrev IsSeat : Seat → Type 0
  IsSeat seat = IsClearSeat receivers seat × IsWrapped seat

  record Sound (n : Node) (s : Surrounding) : Type 0 where
    pub clear : redeclared_at n s ≡ []
    pub seats : All IsSeat (staying_seats n s.role)

  -- in the body of a function the parameters are the same, but for those that go
  abbrev Agrees : Surrounding → Surrounding → Type 0
  Agrees s t = has_parameters t.role ≡ true → (text : List ℕ) → goes receivers text ≡ false → is_stated (t.around text) ≡ is_stated (s.around text)

  -- a node that becomes this one without types
  abbrev Becoming : Node → Node → Type 0
  Becoming n m = (shape : Shape) (s t : Surrounding) → HasShape shape n → Holds s.role shape → Path receivers s.role shape n → Near s.role t.role (out-Node n).kind → Agrees s t → Sound n s → redeclared_at m t ≡ []

  abbrev Walks : Node → Type 0
  Walks n = Becoming n (stripped n) × (is_list (out-Node n).kind ≡ true → Becoming n (without_empty (stripped n)))

  abbrev nodes : List ((n : Node) × Walks n) → List Node
  nodes ns = map (λ e. e.0) ns

  -- ---- children that are changed

  abbrev AllBecome : List Node → List Node → Type 0
  AllBecome [] [] = Unit {0}
  AllBecome (n ∷ ns) (m ∷ ms) = Becoming n m × AllBecome ns ms
  AllBecome _ _ = ⊥

  all-walk : (ns : List ((n : Node) × Walks n)) → AllBecome (nodes ns) (map stripped (nodes ns))
  all-walk [] = tt
  all-walk (n ∷ ns) = (n.1.0, all-walk ns)

  changed-become : (i : ℕ) (to : Node → Node) (ns ms : List Node) → ((n m : Node) → Becoming n m → Becoming n (to m)) → AllBecome ns ms → AllBecome ns (changed_at i to ms)
  changed-become i to [] [] h all = tt
  changed-become zero to (n ∷ ns) (m ∷ ms) h all = (h n m all.0, all.1)
  changed-become (suc i) to (n ∷ ns) (m ∷ ms) h all = (all.0, changed-become i to ns ms h all.1)
  changed-become i to [] (m ∷ ms) h all = absurd all
  changed-become i to (n ∷ ns) [] h all = absurd all

  body-becomes : (n m : Node) → Becoming n m → Becoming n (body_of m)
  body-becomes n m h shape s t has hold path near agrees sound = by (item_stays m)
    where
      by : (b : Bool) → redeclared_at (cond b m (node_of (out-Node m).span kind.EmptyStmt [])) t ≡ []
      by true = h shape s t has hold path near agrees sound
      by false = empty-quiet (out-Node m).span t

  this-becomes : (n m : Node) → Becoming n m → Becoming n (without_this m)
  this-becomes n m h shape s t has hold path near agrees sound = by (is_absent (out-Node m).kind)
    where
      by : (b : Bool) → redeclared_at (cond b m absent) t ≡ []
      by true = h shape s t has hold path near agrees sound
      by false = absent-quiet t

  full : (n : (n : Node) × Walks n) (x : Sort) → HasShape (many x) n.0 → Becoming n.0 (without_empty (stripped n.0))
  full n x has = n.1.1 (parts-have n.0 (many x) has).0

  plain-become : (k : Kind) (ns : List ((n : Node) × Walks n)) (shape : Shape) (count : ℕ) → HaveShapes (child_shapes k shape count) (nodes ns) → AllBecome (nodes ns) (plain_children k (map stripped (nodes ns)))
  unfolding plain_children
  plain-become (kind.Module s) (n ∷ []) shape count have = (full n sort.ModuleItem have.0, tt)
  plain-become (kind.Module s) [] shape count have = absurd have
  plain-become (kind.Module s) (n ∷ o ∷ others) shape count have = absurd have.1
  plain-become (kind.Script s) (n ∷ []) shape count have = (full n sort.Stmt have.0, tt)
  plain-become (kind.Script s) [] shape count have = absurd have
  plain-become (kind.Script s) (n ∷ o ∷ others) shape count have = absurd have.1
  plain-become kind.BlockStmt (n ∷ []) shape count have = (full n sort.Stmt have.0, tt)
  plain-become kind.BlockStmt [] shape count have = absurd have
  plain-become kind.BlockStmt (n ∷ o ∷ others) shape count have = absurd have.1
  plain-become kind.TsModuleBlock (n ∷ []) shape count have = (full n sort.ModuleItem have.0, tt)
  plain-become kind.TsModuleBlock [] shape count have = absurd have
  plain-become kind.TsModuleBlock (n ∷ o ∷ others) shape count have = absurd have.1
  plain-become kind.SwitchCase (t ∷ n ∷ []) shape count have = (t.1.0, (full n sort.Stmt have.1.0, tt))
  plain-become kind.SwitchCase [] shape count have = absurd have
  plain-become kind.SwitchCase (t ∷ []) shape count have = absurd have.1
  plain-become kind.SwitchCase (t ∷ n ∷ o ∷ others) shape count have = absurd have.1.1
  plain-become kind.IfStmt ns shape count have =
      changed-become 1 body_of (nodes ns) (changed_at 2 body_of (map stripped (nodes ns))) body-becomes (changed-become 2 body_of (nodes ns) (map stripped (nodes ns)) body-becomes (all-walk ns))
  plain-become kind.LabeledStmt ns shape count have = changed-become 1 body_of (nodes ns) (map stripped (nodes ns)) body-becomes (all-walk ns)
  plain-become kind.WhileStmt ns shape count have = changed-become 1 body_of (nodes ns) (map stripped (nodes ns)) body-becomes (all-walk ns)
  plain-become kind.DoWhileStmt ns shape count have = changed-become 1 body_of (nodes ns) (map stripped (nodes ns)) body-becomes (all-walk ns)
  plain-become kind.ForStmt ns shape count have = changed-become 3 body_of (nodes ns) (map stripped (nodes ns)) body-becomes (all-walk ns)
  plain-become kind.ForInStmt ns shape count have = changed-become 2 body_of (nodes ns) (map stripped (nodes ns)) body-becomes (all-walk ns)
  plain-become (kind.ForOfStmt x) ns shape count have = changed-become 2 body_of (nodes ns) (map stripped (nodes ns)) body-becomes (all-walk ns)
  plain-become kind.SetterProp ns shape count have = changed-become 1 without_this (nodes ns) (map stripped (nodes ns)) this-becomes (all-walk ns)
  plain-become _ ns shape count have = all-walk ns

  -- ---- children

  module _ (olds news : ℕ → Surrounding) where
    abbrev old_role : ℕ → Role
    old_role i = (olds i).role

    abbrev seats_from : Bool → ℕ → List Node → List Seat
    seats_from listed i ns = staying_below listed old_role i ns

    walk-all : (ns ms : List Node) (shapes : List Shape) → ((i : ℕ) → (news i).role ≡ (olds i).role) → ((i : ℕ) → Agrees (olds i) (news i)) → AllBecome ns ms → HaveShapes shapes ns → (i : ℕ) → AllHold old_role i shapes → AllPath receivers old_role i shapes ns
        → clashes_in olds i (map redeclared_at ns) ≡ [] → All IsSeat (seats_from false i ns) → clashes_in news i (map redeclared_at ms) ≡ []
    walk-all [] [] shapes roles agrees become have i hold paths clear seats = refl
    walk-all (n ∷ ns) (m ∷ ms) (x ∷ shapes) roles agrees become have i hold paths clear seats =
        both-none (redeclared_at m (news i)) (clashes_in news (suc i) (map redeclared_at ms))
        (become.0 x (olds i) (news i) have.0 hold.0 paths.0 (inl (roles i)) (agrees i)
        (record { clear = first-none (redeclared_at n (olds i)) (clashes_in olds (suc i) (map redeclared_at ns)) clear; seats = staying-first IsSeat false old_role i n ns refl seats }))
        (walk-all ns ms shapes roles agrees become.1 have.1 (suc i) hold.1 paths.1 (second-none (redeclared_at n (olds i)) (clashes_in olds (suc i) (map redeclared_at ns)) clear)
        (staying-rest IsSeat false old_role i n ns seats))
    walk-all [] (m ∷ ms) shapes roles agrees become have i hold paths clear seats = absurd become
    walk-all (n ∷ ns) [] shapes roles agrees become have i hold paths clear seats = absurd become
    walk-all (n ∷ ns) (m ∷ ms) [] roles agrees become have i hold paths clear seats = absurd have

    -- of the items of a list those that stay, and of these, without types, those that a test lets stay
    module _ (test : Node → Bool) (shape : Shape) (hold : (i : ℕ) → Holds (old_role i) shape) (roles : (i j : ℕ) → (news j).role ≡ (olds i).role) (agrees : (i j : ℕ) → Agrees (olds i) (news j)) where
      abbrev left_of : List Node → List Node
      left_of ns = filter test (map stripped (filter stays ns))

      item-by : (n : (n : Node) × Walks n) (ns : List Node) → HasShape shape n.0 → (b : Bool) → (i j : ℕ) → (b ≡ true → Path receivers (old_role i) shape n.0) → (b ≡ true → Sound n.0 (olds i)) → ((j : ℕ) → clashes_in news j (map redeclared_at (left_of ns)) ≡ [])
          → clashes_in news j (map redeclared_at (filter test (map stripped (cond b (n.0 ∷ filter stays ns) (filter stays ns))))) ≡ []
      item-by n ns has false i j path sound rest = rest j
      item-by n ns has true i j path sound rest = by (test (stripped n.0))
        where
          by : (b : Bool) → clashes_in news j (map redeclared_at (cond b (stripped n.0 ∷ left_of ns) (left_of ns))) ≡ []
          by true =
              both-none (redeclared_at (stripped n.0) (news j)) (clashes_in news (suc j) (map redeclared_at (left_of ns))) (n.1.0 shape (olds i) (news j) has (hold i) (path refl) (inl (roles i j)) (agrees i j) (sound refl)) (rest (suc j))
          by false = rest j

      walk-items : (ns : List ((n : Node) × Walks n)) → HaveShapes (replicate (length (nodes ns)) shape) (nodes ns) → (i j : ℕ) → AllItems receivers old_role i shape (nodes ns) → clashes_in olds i (map redeclared_at (nodes ns)) ≡ [] → All IsSeat (seats_from true i (nodes ns))
          → clashes_in news j (map redeclared_at (left_of (nodes ns))) ≡ []
      walk-items [] have i j paths clear seats = refl
      walk-items (n ∷ ns) have i j paths clear seats =
          item-by n (nodes ns) have.0 (stays n.0) i j paths.0
          (λ st. record { clear = first-none (redeclared_at n.0 (olds i)) (clashes_in olds (suc i) (map redeclared_at (nodes ns))) clear; seats = staying-first IsSeat true old_role i n.0 (nodes ns) (ap not st) seats })
          (λ l. walk-items ns have.1 (suc i) l paths.1 (second-none (redeclared_at n.0 (olds i)) (clashes_in olds (suc i) (map redeclared_at (nodes ns))) clear)
          (staying-rest IsSeat true old_role i n.0 (nodes ns) seats))

  -- ---- a node

  module _ (n : Node) (ns : List ((n : Node) × Walks n)) (are : (out-Node n).children ≡ nodes ns) (shape : Shape) (s t : Surrounding) (has : HasShape shape n) (hold : Holds s.role shape) (path : Path receivers s.role shape n) (near : Near s.role t.role (out-Node n).kind)
      (agrees : Agrees s t) (sound : Sound n s) where
    abbrev k : Kind
    k = (out-Node n).kind

    abbrev alike : Alike s.role t.role k
    alike = near-alike s.role t.role k near

    abbrev seat : Seat
    seat = record { role = s.role; node = n }

    abbrev seats_below : Bool → List Node → List Seat
    seats_below listed cs = staying_below listed (role_in s.role n) 0 cs

    clear-parts : own_clashes s n ++ clashes_in (surrounds s n) 0 (map redeclared_at (nodes ns)) ≡ []
    clear-parts = sym (redeclared_at-out n s ∙ ap (λ (cs : List Node). own_clashes s n ++ clashes_in (surrounds s n) 0 (map redeclared_at cs)) are) ∙ sound.clear

    seats-parts : All IsSeat (seat ∷ seats_below (is_list k) (nodes ns))
    seats-parts = subst (All IsSeat) (staying-out n s.role ∙ ap (λ (cs : List Node). seat ∷ seats_below (is_list k) cs) are) sound.seats

    here : IsSeat seat
    here = All-head IsSeat seat (seats_below (is_list k) (nodes ns)) seats-parts

    clear-inner : clashes_in (surrounds s n) 0 (map redeclared_at (nodes ns)) ≡ []
    clear-inner = second-none (own_clashes s n) (clashes_in (surrounds s n) 0 (map redeclared_at (nodes ns))) clear-parts

    seats-inner : (listed : Bool) → is_list k ≡ listed → All IsSeat (seats_below listed (nodes ns))
    seats-inner listed is = subst (λ (b : Bool). All IsSeat (seats_below b (nodes ns))) is (All-tail IsSeat seat (seats_below (is_list k) (nodes ns)) seats-parts)

    parts : HaveShapes (child_shapes k shape (length (nodes ns))) (nodes ns)
    parts = subst (λ (cs : List Node). HaveShapes (child_shapes k shape (length cs)) cs) are (parts-have n shape has).1

    chosen : (b : Bool) (xs : List (List ℕ)) → b ≡ true → cond b xs [] ≡ [] → xs ≡ []
    chosen true xs is h = h
    chosen false xs is h = absurd (true-false is refl)

    own-clear : opens s.role n ≡ true → clashing s.role s.around [] (meeting s.role s.around n) ≡ []
    own-clear is = chosen (opens s.role n) (clashing s.role s.around [] (meeting s.role s.around n)) is (first-none (own_clashes s n) (clashes_in (surrounds s n) 0 (map redeclared_at (nodes ns))) clear-parts)

    whole : (m : Node) → own_clashes t m ≡ [] → clashes_in (surrounds t m) 0 (map redeclared_at (out-Node m).children) ≡ [] → redeclared_at m t ≡ []
    whole m one other = redeclared_at-out m t ∙ both-none (own_clashes t m) (clashes_in (surrounds t m) 0 (map redeclared_at (out-Node m).children)) one other

    -- a scope, and what becomes of it
    module _ (m : Node) (kind_st : (out-Node m).kind ≡ plain_kind k) (opened : opens t.role m ≡ opens s.role n) (ids : opens s.role n ≡ true → scope_ids t.role m ≡ lasting receivers (scope_ids s.role n))
        (vars : opens s.role n ≡ true → holds_vars s.role k ≡ false → ids_declared m (record { part = part.Var; stays = true }) ≡ lasting receivers (ids_declared n (record { part = part.Var; stays = true }))) where
      own-by : (b : Bool) → opens s.role n ≡ b → cond b (clashing t.role t.around [] (meeting t.role t.around m)) [] ≡ []
      own-by true is =
          scope-clear receivers n m s.role t.role s.around t.around near kind_st agrees is (here.0 is).0 (ids is) (vars is) (λ h none. held s.role shape k (is_there (out-Node n).children 0) hold (parts-have n shape has).0 is h none) (own-clear is)
      own-by false is = refl

      own-none : own_clashes t m ≡ []
      own-none = ap (λ (b : Bool). cond b (clashing t.role t.around [] (meeting t.role t.around m)) []) opened ∙ own-by (opens s.role n) refl

      -- around the body of a function the same is stated, but for what goes
      body-agrees : (i : ℕ) → role_in t.role m i ≡ role_in s.role n i → covers t.role (out-Node m).kind i ≡ covers s.role k i → Agrees (surrounds s n i) (surrounds t m i)
      body-agrees i same covered body text other =
          let body_role : HasParameters s.role k i = has-parameters s.role k (is_there (out-Node n).children 1) i (ap has_parameters (sym same) ∙ body) in
          let is : opens s.role n ≡ true = body_role.opens (is_there (out-Node n).children 0) in
          let names_st : names t.role t.around m ≡ filter (last receivers) (names s.role s.around n) = names-last receivers n m s.role t.role s.around t.around near kind_st agrees is (here.0 is).0 (ids is) in
          (λ j. is_stated (cond (opened j && covered j) (stated (names_st j)) t.around text))
          ∙ (λ j. is_stated (cond (is j && body_role.covers j) (stated (filter (last receivers) (names s.role s.around n))) t.around text))
          ∙ states-last receivers text other (names s.role s.around n) (body-stays n s.role i body_role (here.0 is).0 s.around)
          ∙ sym (λ j. is_stated (cond (is j && body_role.covers j) (stated (names s.role s.around n)) s.around text))

    -- the `var` names in it are clear, if there are any
    vars-by : (out-Node (stripped n)).kind ≡ plain_kind k → is_list k ≡ false → holds_vars s.role k ≡ false → (b : Bool) → is_way k ≡ b → ids_declared (stripped n) var ≡ lasting receivers (ids_declared n var)
    vars-by kind_st no_list none true way = what-stays-is-declared receivers shape n var has refl (path.node no_list way none)
    vars-by kind_st no_list none false way = no-way (stripped n) (ap is_way kind_st ∙ way-plain k ∙ way) ∙ sym (ap (lasting receivers) (no-way n way))

    way-clear : is_list k ≡ false → is_way k ≡ true → (b : Bool) → holds_vars s.role k ≡ b → is_clear receivers n var ≡ true
    way-clear no_list way true h = (here.0 (holds-opens s.role k (is_there (out-Node n).children 0) h)).1.vars h
    way-clear no_list way false h = path.node no_list way h

    paths : is_list k ≡ false → Next s.role k (is_there (out-Node n).children 1) (child_shapes k shape (length (nodes ns))) → AllPath receivers (role_in s.role n) 0 (child_shapes k shape (length (nodes ns))) (nodes ns)
    paths no_list (further is other) =
        clear-path receivers (role_in s.role n) 0 (child_shapes k shape (length (nodes ns))) (nodes ns) (sought_in var n) (further-in n is)
        (subst (λ (b : Bool). clear_in receivers b (sought_in var n) 0 (nodes ns) (map (is_clear receivers) (nodes ns)) ≡ true) no_list
        (subst (λ (cs : List Node). clear_in receivers (is_list k) (sought_in var n) 0 cs (map (is_clear receivers) cs) ≡ true) are (clear-inside receivers n (way-clear no_list (ap is_some is) (holds_vars s.role k) refl))))
    paths no_list (ends all) = ends-path receivers (role_in s.role n) 0 (child_shapes k shape (length (nodes ns))) (nodes ns) parts all

    items : k ≡ kind.List → AllItems receivers (role_in s.role n) 0 (item_shape shape) (nodes ns)
    items is = elim (path.items (ap is_list is)) [
      | inl clear ↦ clear-items receivers (role_in s.role n) 0 (item_shape shape) (nodes ns) (sought_in var n) (further-in n (list-way k is))
          (subst (λ (b : Bool). clear_in receivers b (sought_in var n) 0 (nodes ns) (map (is_clear receivers) (nodes ns)) ≡ true) (ap is_list is)
          (subst (λ (cs : List Node). clear_in receivers (is_list k) (sought_in var n) 0 cs (map (is_clear receivers) cs) ≡ true) are (clear-inside receivers n clear)))
      | inr still ↦ still-items receivers (role_in s.role n) 0 (item_shape shape) (nodes ns) (subst (λ (z : Kind). HaveShapes (child_shapes z shape (length (nodes ns))) (nodes ns)) is parts) still
    ]

    itself-clear : ((cs : List Node) → plain (out-Node n).span k cs ≡ node_of (out-Node n).span (plain_kind k) (plain_children k cs)) → is_list k ≡ false → redeclared_at (stripped n) t ≡ []
    itself-clear eq no_list =
        let m : Node = stripped n in
        let cs : List Node = plain_children k (map stripped (nodes ns)) in
        let st : m ≡ node_of (out-Node n).span (plain_kind k) cs = stripped-out n ∙ eq (map stripped (staying_nodes k (out-Node n).children))
        ∙ ap (λ (z : List Node). node_of (out-Node n).span (plain_kind k) (plain_children k (map stripped z))) (not-list k (out-Node n).children no_list ∙ are) in
        let kind_st : (out-Node m).kind ≡ plain_kind k = ap (λ (z : Node). (out-Node z).kind) st ∙ kind-of (out-Node n).span (plain_kind k) cs in
        let children_st : (out-Node m).children ≡ cs = ap (λ (z : Node). (out-Node z).children) st ∙ children-of (out-Node n).span (plain_kind k) cs in
        let count : ℕ = length (nodes ns) in
        let opened : opens t.role m ≡ opens s.role n = (λ j. opens_by t.role (kind_st j) (is_there (children_st j) 0)) ∙ opens-plain t.role k (is_there cs 0) ∙ opens-kept t.role k shape count (nodes ns) parts
        ∙ alike.opened (is_there (nodes ns) 0) ∙ sym (ap (λ (z : List Node). opens_by s.role k (is_there z 0)) are) in
        let covered : (i : ℕ) → covers t.role (out-Node m).kind i ≡ covers s.role k i = (λ i. ap (λ (z : Kind). covers t.role z i) kind_st ∙ covers-plain t.role k i ∙ alike.covered i) in
        let roles : (i : ℕ) → role_in t.role m i ≡ role_in s.role n i = (λ i. (λ j. role_by t.role (kind_st j) (is_there (children_st j) 1) i) ∙ role-plain t.role k (is_there cs 1) i ∙ role-kept t.role k shape count (nodes ns) parts i
        ∙ alike.inner (is_there (nodes ns) 1) i ∙ sym (ap (λ (z : List Node). role_by s.role k (is_there z 1) i) are)) in
        let ids : opens s.role n ≡ true → scope_ids t.role m ≡ lasting receivers (scope_ids s.role n) = (λ is. role-ids s.role t.role k alike m kind_st ∙ scopes-declare receivers shape s.role n has is (here.0 is).0 (here.0 is).1) in
        let vars : opens s.role n ≡ true → holds_vars s.role k ≡ false → ids_declared m (record { part = part.Var; stays = true }) ≡ lasting receivers (ids_declared n (record { part = part.Var; stays = true })) =
        (λ is none. vars-by kind_st no_list none (is_way k) refl) in
        whole m (own-none m kind_st opened ids vars)
        (subst (λ (z : List Node). clashes_in (surrounds t m) 0 (map redeclared_at z) ≡ []) (sym children_st)
        (walk-all (surrounds s n) (surrounds t m) (nodes ns) cs (child_shapes k shape count) roles (λ i. body-agrees m kind_st opened ids vars i (roles i) (covered i)) (plain-become k ns shape count parts) parts 0
        (holds s.role k (is_there (out-Node n).children 1) shape count) (paths no_list (nexts s.role k (is_there (out-Node n).children 1) shape count no_list)) clear-inner (seats-inner false no_list)))

    shut : k ≡ kind.List → opens s.role n ≡ false
    shut is = list-opens s.role k (is_there (out-Node n).children 0) is

    list-clear : k ≡ kind.List → (test : Node → Bool) (m : Node) → m ≡ node_of (out-Node n).span kind.List (filter test (map stripped (filter stays (nodes ns)))) → redeclared_at m t ≡ []
    list-clear is test m st =
        let cs : List Node = filter test (map stripped (filter stays (nodes ns))) in
        let kind_m : (out-Node m).kind ≡ kind.List = ap (λ (z : Node). (out-Node z).kind) st ∙ kind-of (out-Node n).span kind.List cs in
        let children_st : (out-Node m).children ≡ cs = ap (λ (z : Node). (out-Node z).children) st ∙ children-of (out-Node n).span kind.List cs in
        let closed : opens t.role m ≡ false = list-opens t.role (out-Node m).kind (is_there (out-Node m).children 0) kind_m in
        let roles : (i j : ℕ) → role_in t.role m j ≡ role_in s.role n i = (λ i j. ap (λ (z : Kind). role_by t.role z (is_there (out-Node m).children 1) j) (kind_m ∙ sym is)
        ∙ list-role t.role k (is_there (out-Node m).children 1) (is_there (out-Node n).children 1) j i is ∙ alike.inner (is_there (out-Node n).children 1) i) in
        let never : (i j : ℕ) → Agrees (surrounds s n i) (surrounds t m j) = (λ i j body text other. absurd (no-body i (ap has_parameters (sym (roles i j)) ∙ body))) in
        whole m (ap (λ (b : Bool). cond b (clashing t.role t.around [] (meeting t.role t.around m)) []) closed)
        (subst (λ (z : List Node). clashes_in (surrounds t m) 0 (map redeclared_at z) ≡ []) (sym children_st)
        (walk-items (surrounds s n) (surrounds t m) test (item_shape shape) (λ i. item-holds i) roles never ns (subst (λ (z : Kind). HaveShapes (child_shapes z shape (length (nodes ns))) (nodes ns)) is parts) 0 0 (items is) clear-inner (seats-inner true (ap is_list is))))
      where
        no-body : (i : ℕ) → has_parameters (role_in s.role n i) ≡ true → ⊥
        no-body i h = (let body : HasParameters s.role k i = has-parameters s.role k (is_there (out-Node n).children 1) i h in true-false (body.opens (is_there (out-Node n).children 0)) (shut is))

        item-holds : (i : ℕ) → Holds (role_in s.role n i) (item_shape shape)
        item-holds i = subst (λ (r : Role). Holds r (item_shape shape)) (list-role s.role k (is_there (out-Node n).children 1) (is_there (out-Node n).children 1) 0 i is)
            (subst (λ (z : Kind). Holds (role_by s.role z (is_there (out-Node n).children 1) 0) (item_shape shape)) (sym is) (holds s.role kind.List (is_there (out-Node n).children 1) shape 1).0)

    list-stripped : k ≡ kind.List → stripped n ≡ node_of (out-Node n).span kind.List (map stripped (filter stays (nodes ns)))
    unfolding plain plain_kind plain_children
    list-stripped is = stripped-out n ∙ (λ j. plain (out-Node n).span (is j) (map stripped (staying_nodes (is j) (are j))))

    -- an expression with a type round it
    wrapper-by : (ms : List ((n : Node) × Walks n)) → (out-Node n).children ≡ nodes ms → HaveShapes (child_shapes k shape (length (nodes ns))) (nodes ms) → clashes_in (surrounds s n) 0 (map redeclared_at (nodes ms)) ≡ []
        → All IsSeat (seats_below false (nodes ms)) → is_type_wrapper k ≡ true → redeclared_at (stripped n) t ≡ []
    wrapper-by [] children have_some clear all_seats is = absurd (wrapper-some k shape (length (nodes ns)) is have_some)
    wrapper-by (e ∷ es) children have_some clear all_seats is =
        let first : Surrounding = surrounds s n 0 in
        let st : stripped n ≡ stripped e.0 = stripped-out n ∙ ap (λ (cs : List Node). plain (out-Node n).span k (map stripped (staying_nodes k cs))) children ∙ wrapper-plain k (out-Node n).span e.0 (nodes es) is in
        let has_e : HasShape (one sort.Expr) e.0 = wrapper-first k shape (length (nodes ns)) e.0 (nodes es) is have_some in
        let role_e : first.role ≡ role.Plain = wrapper-role s.role k (is_there (out-Node n).children 1) 0 is in
        let near_e : Near first.role t.role (out-Node e.0).kind = inr (role_e, alike.free (here.1 is), (parts-have e.0 (one sort.Expr) has_e).0) in
        let around_e : first.around ≡ s.around = (λ j. cond (wrapper-opens s.role k (is_there (out-Node n).children 0) is j && covers s.role k 0) (stated (names s.role s.around n)) s.around) in
        ap (λ (z : Node). redeclared_at z t) st
        ∙ e.1.0 (one sort.Expr) first t has_e (subst (λ (r : Role). Holds r (one sort.Expr)) (sym role_e) (free role.Plain (one sort.Expr) refl)) (path-still receivers first.role (one sort.Expr) e.0 (parts-have e.0 (one sort.Expr) has_e).0 refl) near_e
        (λ body text other. agrees body text other ∙ sym (ap (λ (a : List ℕ → Option Bool). is_stated (a text)) around_e))
        (record {
          clear = first-none (redeclared_at e.0 first) (clashes_in (surrounds s n) 1 (map redeclared_at (nodes es))) clear;
          seats = staying-first IsSeat false (role_in s.role n) 0 e.0 (nodes es) refl all_seats;
        })

    node-walks : Becomes k → redeclared_at (stripped n) t ≡ []
    node-walks (typed eq no_list other none no_id) =
        ap (λ (z : Node). redeclared_at z t) (stripped-out n ∙ eq (out-Node n).span (map stripped (staying_nodes k (out-Node n).children))) ∙ absent-quiet t
    node-walks (wrapper is none no_id) = wrapper-by ns are parts clear-inner (seats-inner false (wrapper-no-list k is)) is
    node-walks (list is) = list-clear is (λ x. true) (stripped n) (list-stripped is ∙ sym (ap (node_of (out-Node n).span kind.List) (filter-all (map stripped (filter stays (nodes ns))))))
    node-walks (itself eq no_list other) = itself-clear (eq (out-Node n).span) no_list

  layer-walks : (n : Node) (ns : List ((n : Node) × Walks n)) → (out-Node n).children ≡ nodes ns → Walks n
  layer-walks n ns are = (
    λ shape s t has hold path near agrees sound. node-walks n ns are shape s t has hold path near agrees sound (becomes (out-Node n).kind),
    λ is shape s t has hold path near agrees sound. (let listed : (out-Node n).kind ≡ kind.List = list-kind (out-Node n).kind is in
        let cs : List Node = map stripped (filter stays (nodes ns)) in
        list-clear n ns are shape s t has hold path near agrees sound listed (λ x. not (is_empty_stmt (out-Node x).kind)) (without_empty (stripped n))
        (ap without_empty (list-stripped n ns are shape s t has hold path near agrees sound listed)
        ∙ ap (λ (z : Node-F Node). node_of z.span z.kind (filter (λ x. not (is_empty_stmt (out-Node x).kind)) z.children)) (out-roll-Node (parts_of (out-Node n).span kind.List cs)))),
  )

  walks : (n : Node) → Walks n
  walks = ind-Node Walks (λ x y is. layer-walks (roll-Node x) y.children (ap (λ (z : Node-F Node). z.children) (out-roll-Node x) ∙ sym (ap (λ (z : Node-F Node). z.children) is)))

abbrev at_root : Surrounding
at_root = record { role = role.Root; around = λ text. None }

pub stripped-not-redeclared : StrippedIsNotRedeclared
stripped-not-redeclared receivers tree sorted clear seats =
    let wrapped = staying-among IsWrapped tree role.Root (module-wraps tree sorted) in
    (walks receivers tree).0 (one sort.Module) at_root at_root sorted module-root (root-path receivers tree sorted) (inl refl) (λ body text other. refl)
    (record { clear = clear; seats = λ k d lt. (seats k d lt, wrapped k d lt) })

-- so it is of a resolved module
pub resolved-not-redeclared : StrippedModulesAreNotRedeclared
resolved-not-redeclared receivers unresolved top left source checked clear =
    let tree : Node = resolved unresolved top left source in
    let place : Place = record { role = role.Root; scopes = [] } in
    stripped-not-redeclared receivers tree ((keeps-sorts unresolved top left source sort.Module).1 checked.sorted) (told unresolved top source place left at_root ∙ checked.clear) clear
