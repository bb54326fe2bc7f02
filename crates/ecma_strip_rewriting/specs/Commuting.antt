-- What a rewriting owes so that it may be done before types are stripped or after.
use Rattle.std.specs.Prelude.{◌≡◌, ◌⊎◌, ℕ, Bool, true, false, ◌&&◌, ◌||◌, ◌==◌, not, cond, List, [], ◌∷◌, map, filter, Some, slice_get}
use Rattle.std.specs.List.{list_all}
use Rattle.ecma_kind.specs.Sorts.{is_decl, is_stmt, is_type_wrapper}
use Rattle.ecma_kind.specs.declared.kind.Kind.{Kind}
use Rattle.ecma_kind.specs.declared.kind.Kind.TheVariants as kind
use Rattle.ecma_kind.specs.declared.shapes.Shape.{Shape}
use Rattle.ecma_kind.specs.declared.span.Span.{Span}
use Rattle.ecma_tree.specs.Nodes.{node_of}
use Rattle.ecma_tree.specs.Sorted.{HasShape, is_absent, is_list}
use Rattle.ecma_tree.specs.declared.node.Node.{Node, out-Node}
use Rattle.ecma_strip.specs.Staying.{is_empty_stmt, stays}
use Rattle.ecma_strip.specs.Stripping.{plain_children, plain_kind, stripped}
use Rattle.ecma_rewriting.specs.Laws.{children}
use Rattle.ecma_rewriting.specs.Rewriting.{Rewriting, becomes, only, over_ones}

-- of a tree without types every item is kept, of one with types those that stay
abbrev pub of_all : {S : Type 0} → Rewriting S → Rewriting S
of_all r = record r { keeps = λ n. true }

abbrev pub of_staying : {S : Type 0} → Rewriting S → Rewriting S
of_staying r = record r { keeps = stays }

-- in every seat what the node without types becomes is what the node becomes, without types: spans, order and data of nodes too
abbrev pub Commutes : {S : Type 0} → Rewriting S → Node → Type 0
Commutes {S} r n = (t : Shape) → HasShape t n → (s : S) → becomes (of_all r) s (stripped n) ≡ map stripped (becomes (of_staying r) s n)

abbrev pub is_full : Node → Bool
is_full n = not (is_empty_stmt (out-Node n).kind)

-- what is no empty statement becomes none
abbrev pub StaysFull : {S : Type 0} → Rewriting S → Node → Type 0
StaysFull {S} r n = (t : Shape) → HasShape t n → is_full n ≡ true → (s : S) → list_all is_full (becomes (of_all r) s (stripped n)) ≡ true

abbrev pub is_type : Kind → Bool
is_type kind.TsTypeAnn = true
is_type kind.TsType = true
is_type kind.TsTypeParamDecl = true
is_type kind.TsTypeParamInstantiation = true
is_type _ = false

-- what is missing, types, and statements that are no declarations
abbrev pub is_settled : Kind → Bool
is_settled k = is_absent k || (is_type k || (is_stmt k && not (is_decl k)))

-- whether it declares variables, with `var`, `let` or `const`
abbrev pub is_variables : Kind → Bool
is_variables (kind.VarDecl word declare) = true
is_variables _ = false

-- whether the child at an index is the body of a statement
abbrev pub is_body_at : Kind → ℕ → Bool
is_body_at kind.IfStmt i = (i == 1) || (i == 2)
is_body_at kind.LabeledStmt i = i == 1
is_body_at kind.WhileStmt i = i == 1
is_body_at kind.DoWhileStmt i = i == 1
is_body_at kind.ForStmt i = i == 3
is_body_at kind.ForInStmt i = i == 2
is_body_at (kind.ForOfStmt is_await) i = i == 2
is_body_at _ i = false

-- whether stripping changes the children of a node of this kind once they have no types: lists of statements, bodies, the `this` of a
-- setter
abbrev pub changes_children : Kind → Bool
changes_children (kind.Module shebang) = true
changes_children (kind.Script shebang) = true
changes_children kind.BlockStmt = true
changes_children kind.TsModuleBlock = true
changes_children kind.SwitchCase = true
changes_children kind.IfStmt = true
changes_children kind.LabeledStmt = true
changes_children kind.WhileStmt = true
changes_children kind.DoWhileStmt = true
changes_children kind.ForStmt = true
changes_children kind.ForInStmt = true
changes_children (kind.ForOfStmt is_await) = true
changes_children kind.SetterProp = true
changes_children _ = false

-- a rewriting does something at the kinds of `acts` alone, leaves a node as it is where `leaves` says so, and does nothing at all in
-- the seats of `raw`
pub record DoesElseNothing {S : Type 0} (r : Rewriting S) (raw : S → Bool) (leaves : S → Kind → Bool) (acts : Kind → Bool) : Type 0 where
  -- in a raw seat each node stays as it is
  pub raw_here : (s : S) (span : Span) (k : Kind) (cs : List Node) (lists : List (List Node)) → raw s ≡ true →
      r.here s span k cs lists ≡ node_of span k cs ∷ []
  pub raw_next : (s : S) (c : Node) → raw s ≡ true → raw (r.next s c) ≡ true
  pub raw_unkept : (s : S) (c : Node) → raw s ≡ true → r.unkept s c ≡ c ∷ []
  -- a node of another kind that is not left is one over the ones that its children become, and a type stays round what its expression
  -- becomes
  pub quiet : (s : S) (span : Span) (k : Kind) (cs : List Node) (lists : List (List Node)) → raw s ≡ false → acts k ≡ false →
      is_list k ≡ false → is_type_wrapper k ≡ false →
      r.here s span k cs lists ≡ cond (leaves s k) (node_of span k cs ∷ []) (over_ones span k lists)
  pub wrapped : (s : S) (span : Span) (k : Kind) (cs l : List Node) (ls : List (List Node)) → raw s ≡ false → is_type_wrapper k ≡ true →
      r.here s span k cs (l ∷ ls) ≡ map (λ e. node_of span k (e ∷ map only ls)) l

-- what such a rewriting owes so that it asks nothing of types
pub record SeesNoTypes {S : Type 0} (r : Rewriting S) (raw : S → Bool) (leaves : S → Kind → Bool) (acts : Kind → Bool) : Type 0 where
  pub does : DoesElseNothing r raw leaves acts
  -- nothing is done to what is missing, to types, and to statements that are no declarations
  pub settled : (k : Kind) → is_settled k ≡ true → acts k ≡ false
  pub settled_stays : (s : S) (k : Kind) → is_settled k ≡ true → leaves s k ≡ false
  pub same : (k : Kind) → acts (plain_kind k) ≡ acts k
  pub left_same : (s : S) (k : Kind) → leaves s (plain_kind k) ≡ leaves s k
  -- seats ask nothing of types; an expression stands where a type round it stands
  pub seats : (s : S) (t : Shape) (span : Span) (k : Kind) (cs : List Node) (i : ℕ) → raw s ≡ false → is_list k ≡ false →
      HasShape t (node_of span k cs) →
      r.seat s (plain_kind k) (plain_children k (map stripped cs)) i ≡ r.seat s k cs i
  pub under : (s : S) (k : Kind) (cs : List Node) → raw s ≡ false → is_type_wrapper k ≡ true → r.seat s k cs 0 ≡ s
  pub next : (s : S) (t : Shape) (n : Node) → HasShape t n → r.next s (stripped n) ≡ r.next s n
  pub next_empty : (s : S) (span : Span) (cs : List Node) → r.next s (node_of span kind.EmptyStmt cs) ≡ s
  -- a declaration as the body of a statement, and the `this` of a setter, stay as they are; variables there may also be one over the ones
  -- that their children become
  pub bodies : (s : S) (k l : Kind) (cs ds : List Node) (i : ℕ) (span : Span) (lists : List (List Node)) → raw s ≡ false →
      is_body_at k i ≡ true → is_decl l ≡ true →
      (r.here (r.seat s k cs i) span l ds lists ≡ node_of span l ds ∷ [])
      ⊎ ((is_variables l ≡ true) × (r.here (r.seat s k cs i) span l ds lists ≡ over_ones span l lists))
  pub receiver : (s : S) (cs : List Node) → raw s ≡ false → raw (r.seat s kind.SetterProp cs 1) ≡ true
  -- of an item that goes nothing stays, and of one that stays all does
  pub unkept : (s : S) (t : Shape) (n : Node) → HasShape t n → stays n ≡ false → filter stays (r.unkept s n) ≡ []
  pub remains : (s : S) (t : Shape) (n : Node) → HasShape t n → stays n ≡ true → list_all stays (becomes (of_staying r) s n) ≡ true
  -- where something is done: no empty statement is made, and it is done without types as with them
  pub full : (s : S) (t : Shape) (span : Span) (k : Kind) (cs : List Node) → raw s ≡ false → acts k ≡ true → is_list k ≡ false →
      is_type_wrapper k ≡ false →
      HasShape t (node_of span k cs) → ((i : ℕ) (c : Node) → slice_get cs i ≡ Some c → StaysFull r c) →
      let ys = plain_children k (map stripped cs) in
      list_all is_full (r.here s span (plain_kind k) ys (children (of_all r) (r.seat s (plain_kind k) ys) 0 ys)) ≡ true
  pub acting : (s : S) (t : Shape) (span : Span) (k : Kind) (cs : List Node) (plains : List (List Node)) → raw s ≡ false →
      acts k ≡ true → is_list k ≡ false →
      is_type_wrapper k ≡ false → HasShape t (node_of span k cs) → ((i : ℕ) (c : Node) → slice_get cs i ≡ Some c → Commutes r c) →
      let lists = children (of_staying r) (r.seat s k cs) 0 cs in
      (changes_children k ≡ false → plains ≡ map (map stripped) lists) →
      map only plains ≡ plain_children k (map stripped (map only lists)) →
      r.here s span (plain_kind k) (plain_children k (map stripped cs)) plains ≡ map stripped (r.here s span k cs lists)

-- so rewriting what is stripped is stripping what is rewritten
abbrev pub CommutesWithStripping : Type 0 → Type 0
CommutesWithStripping S = (r : Rewriting S) (raw : S → Bool) (leaves : S → Kind → Bool) (acts : Kind → Bool) →
    SeesNoTypes r raw leaves acts → (n : Node) → Commutes r n
