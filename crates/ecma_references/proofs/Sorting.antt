-- Trees in which expressions stand for names are what they were by their sorts.
use Rattle.std.proofs.Common.{◌≡◌, ◌∙◌, ℕ, zero, suc, Bool, true, false, cond, ◌&&◌, ◌||◌, refl, sym, ap, subst, List, [], ◌∷◌, map, length, Option, Some, None, IfSome, slice_get, ◌==◌, arith}
use Rattle.std.specs.Option.{option_and_then, option_map}
use Rattle.std.specs.List.{All}
use Rattle.std.proofs.lemmas.List.Elements.{All-head}
use Rattle.std.specs.Prelude.{pos}
use Rattle.ecma_number.specs.declared.js_number.JsNumber.TheVariants.{Whole}
use Rattle.ecma_kind.specs.Shapes.{field_shapes}
use Rattle.ecma_kind.specs.Sorts.{belongs, is_expr, is_pattern}
use Rattle.ecma_kind.specs.declared.ident.Ident.{Ident}
use Rattle.ecma_kind.specs.declared.kind.Kind.{Kind}
use Rattle.ecma_kind.specs.declared.kind.Kind.TheVariants as kind
use Rattle.ecma_kind.specs.declared.shapes.Count.{Count}
use Rattle.ecma_kind.specs.declared.shapes.Count.TheVariants.{One, Maybe, Many, MaybeMany, Holes}
use Rattle.ecma_kind.specs.declared.shapes.FieldShape.{FieldShape}
use Rattle.ecma_kind.specs.declared.shapes.Shape.{Shape}
use Rattle.ecma_kind.specs.declared.shapes.Sort.{Sort}
use Rattle.ecma_kind.specs.declared.shapes.Sort.TheVariants as sort
use Rattle.ecma_kind.specs.declared.span.Span.{Span}
use Rattle.ecma_tree.specs.Laws.{HaveShapes}
use Rattle.ecma_tree.specs.Nodes.{dummy_span, node_of}
use Rattle.ecma_tree.specs.Sorted.{HasShape, HasSort, allows, allows_by, child_shapes, is_absent, is_list, maybe, one}
use Rattle.ecma_tree.specs.declared.node.Node.{Node, out-Node}
use Rattle.ecma_tree.specs.declared.node.Node.TheViews.{roll-out-Node}
use Rattle.ecma_tree.proofs.ShapeLaws.{node_has_shape}
use Rattle.ecma_renamers.specs.Renaming.{key_of, kind_is_absent, with_default}
use Rattle.ecma_rewriting.specs.Rewriting.{only}
use Rattle.ecma_rewriting.specs.Shapes.{Exchanges}
use Rattle.ecma_rewriting.proofs.Shapes.{alone, exchanges_keep_shapes}
use Rattle.ecma_utils.specs.Indirect.{indirect_callee, zero_node}
use Rattle.ecma_references.specs.declared.seat.Seat.{Seat}
use Rattle.ecma_references.specs.declared.seat.Seat.TheVariants as seat
use Rattle.ecma_references.specs.Answers.{Answers, answer_of, answer_to, asked, is_member, name_of}
use Rattle.ecma_references.specs.Laws.{AnsweredTreesKeepTheirSorts, AreReferences}
use Rattle.ecma_references.specs.References.{answered, called, default_in, in_seat, pair_of, pattern_of, referring, stands_for, written}
use Rattle.ecma_references.specs.Seats.{child_seat, first_as, seat_in, seat_of, seat_or_other}

true-false : true ≡ false → ⊥
true-false e = cc

none-some : {A : Type 0} (x : A) → None ≡ Some x → ⊥
none-some x e = cc

no : {X : Type 0} → false ≡ true → X
no e = absurd (true-false (sym e))

-- ---- which shapes suit a seat

-- what a shape is there for may be narrower than what the seat is there for
abbrev agree : Seat → Seat → Bool
agree seat.Read seat.Read = true
agree seat.Called seat.Called = true
agree seat.Called seat.Read = true
agree seat.Target seat.Target = true
agree seat.Property seat.Property = true
agree seat.Declared s = true
agree seat.Other s = true
agree _ _ = false

abbrev suits : Seat → Shape → Bool
suits s t = agree s (seat_of t.sort)

agree-same : (s : Seat) → agree s s ≡ true
agree-same seat.Read = refl
agree-same seat.Called = refl
agree-same seat.Target = refl
agree-same seat.Declared = refl
agree-same seat.Property = refl
agree-same seat.Other = refl

seated : (fields : List FieldShape) (i : ℕ) (u : Shape) → slice_get (map (λ child. child.shape) fields) i ≡ Some u → agree (seat_or_other (slice_get fields i)) (seat_of u.sort) ≡ true
seated [] i u at = absurd (none-some u at)
seated (f ∷ fs) zero u at = let same : f.shape ≡ u = cc in subst (λ (z : Shape). agree (seat_of f.shape.sort) (seat_of z.sort) ≡ true) same (agree-same (seat_of f.shape.sort))
seated (f ∷ fs) (suc i) u at = seated fs i u at

sequence : (n i : ℕ) (t u : Shape) → slice_get (child_shapes kind.SeqExpr t n) i ≡ Some u → agree seat.Read (seat_of u.sort) ≡ true
sequence zero zero t u at = let same : one sort.Expr ≡ u = cc in subst (λ (z : Shape). agree seat.Read (seat_of z.sort) ≡ true) same refl
sequence zero (suc i) t u at = absurd (none-some u at)
sequence (suc n) zero t u at = let same : one sort.Expr ≡ u = cc in subst (λ (z : Shape). agree seat.Read (seat_of z.sort) ≡ true) same refl
sequence (suc zero) (suc i) t u at = absurd (none-some u at)
sequence (suc (suc n)) (suc i) t u at = sequence (suc n) i t u at

-- the seat of a child that is not the first is that of its sort
later : (first : Seat) (k : Kind) (i : ℕ) → child_seat k (suc i) ≡ first_as first k (suc i)
later first k i = let behind : (suc i == 0) ≡ false = grind arith in ap (λ (b : Bool). cond b first (child_seat k (suc i))) (sym behind)

-- the shapes of children suit their seats
below : (s : Seat) (t : Shape) (k : Kind) (nodes : List Node) → is_list k ≡ false → (i : ℕ) (u : Shape) → slice_get (child_shapes k t (length nodes)) i ≡ Some u → suits (seat_in s k i) u ≡ true
unfolding seat_in
below s t kind.List nodes l i u at = absurd (true-false l)
below s t kind.SeqExpr nodes l i u at = sequence (length nodes) i t u at
below s t kind.TaggedTpl nodes l zero u at = let same : one sort.Expr ≡ u = cc in subst (λ (z : Shape). agree seat.Called (seat_of z.sort) ≡ true) same refl
below s t kind.TaggedTpl nodes l (suc i) u at =
    subst (λ (q : Seat). agree q (seat_of u.sort) ≡ true) (later seat.Called kind.TaggedTpl i) (seated (field_shapes kind.TaggedTpl) (suc i) u at)
below s t (kind.VarDeclarator definite) nodes l zero u at = refl
below s t (kind.VarDeclarator definite) nodes l (suc i) u at =
    subst (λ (q : Seat). agree q (seat_of u.sort) ≡ true) (later seat.Declared (kind.VarDeclarator definite) i) (seated (field_shapes (kind.VarDeclarator definite)) (suc i) u at)
below s t k nodes l i u at = seated (field_shapes k) i u at

-- ---- one node in the place of another

-- what one node may be where another one may
allowed : (t : Shape) (k j : Kind) → is_list k ≡ false → is_absent k ≡ false → allows t k ≡ true → belongs t.sort j ≡ true → allows t j ≡ true
allowed t k j l a h b = by t.count h
  where
    neither : (is_absent k || is_list k) ≡ false
    neither = rw (a, l) refl

    either : (c : Bool) → (c || belongs t.sort j) ≡ true
    either true = refl
    either false = b

    by : (c : Count) → allows_by c t.sort k ≡ true → allows_by c t.sort j ≡ true
    by One h = b
    by Maybe h = either (is_absent j)
    by Many h = no (sym l ∙ h)
    by MaybeMany h = no (sym neither ∙ h)
    by Holes h = no (sym l ∙ h)

-- and so of what sort it is
belongs-too : (t : Shape) (k : Kind) → is_list k ≡ false → is_absent k ≡ false → allows t k ≡ true → belongs t.sort k ≡ true
belongs-too t k l a h = by t.count h
  where
    neither : (is_absent k || is_list k) ≡ false
    neither = rw (a, l) refl

    by : (c : Count) → allows_by c t.sort k ≡ true → belongs t.sort k ≡ true
    by One h = h
    by Maybe h = sym (ap (λ b. b || belongs t.sort k) a) ∙ h
    by Many h = no (sym l ∙ h)
    by MaybeMany h = no (sym neither ∙ h)
    by Holes h = no (sym l ∙ h)

same-children : (k : Kind) → is_list k ≡ false → (s t : Shape) (n : ℕ) → child_shapes k s n ≡ child_shapes k t n
same-children kind.List l s t n = absurd (true-false l)
same-children kind.SeqExpr l s t zero = refl
same-children kind.SeqExpr l s t (suc n) = refl
same-children _ l s t n = refl

parts-of : (t : Shape) (n : Node) → HasShape t n → (allows t (out-Node n).kind ≡ true) × HaveShapes (child_shapes (out-Node n).kind t (length (out-Node n).children)) (out-Node n).children
parts-of t n h = (node_has_shape (out-Node n).span (out-Node n).kind (out-Node n).children t).0 (subst (HasShape t) (sym (roll-out-Node n)) h)

-- a node has each shape that allows its kind
reshaped : (s t : Shape) (n : Node) → is_list (out-Node n).kind ≡ false → allows t (out-Node n).kind ≡ true → HasShape s n → HasShape t n
reshaped s t n l a h =
    let k = (out-Node n).kind in
    let nodes = (out-Node n).children in
    subst (HasShape t) (roll-out-Node n) ((node_has_shape (out-Node n).span k nodes t).1 (a, subst (λ z. HaveShapes z nodes) (same-children k l s t (length nodes)) (parts-of s n h).1))

expression-no-list : (k : Kind) → is_expr k ≡ true → is_list k ≡ false
expression-no-list kind.List e = no e
expression-no-list _ e = refl

-- ---- expressions

-- an expression may be where one is read
read-sort : (st : Sort) → agree seat.Read (seat_of st) ≡ true → (k : Kind) → is_expr k ≡ true → belongs st k ≡ true
read-sort sort.Expr h k e = e
read-sort sort.ExprOrSpread h kind.SpreadElement e = refl
read-sort sort.ExprOrSpread h k e = e
read-sort sort.BlockStmtOrExpr h kind.BlockStmt e = refl
read-sort sort.BlockStmtOrExpr h k e = e
read-sort sort.VarDeclOrExpr h (kind.VarDecl k d) e = refl
read-sort sort.VarDeclOrExpr h k e = e
read-sort _ h k e = no h

-- and where one is called
called-sort : (st : Sort) → agree seat.Called (seat_of st) ≡ true → (k : Kind) → is_expr k ≡ true → belongs st k ≡ true
called-sort sort.Callee h kind.Super e = refl
called-sort sort.Callee h kind.Import e = refl
called-sort sort.Callee h k e = e
called-sort sort.Expr h k e = e
called-sort sort.ExprOrSpread h k e = read-sort sort.ExprOrSpread refl k e
called-sort sort.BlockStmtOrExpr h k e = read-sort sort.BlockStmtOrExpr refl k e
called-sort sort.VarDeclOrExpr h k e = read-sort sort.VarDeclOrExpr refl k e
called-sort _ h k e = no h

-- a member may be where something is written to, but for a property of a pattern
target-sort : (st : Sort) → agree seat.Target (seat_of st) ≡ true → (k j : Kind) → belongs sort.ObjectPatProp k ≡ false → belongs st k ≡ true → is_member j ≡ true → belongs st j ≡ true
target-sort sort.AssignTarget h k kind.MemberExpr p b m = refl
target-sort sort.Pat h k kind.MemberExpr p b m = refl
target-sort sort.ForHead h k kind.MemberExpr p b m = refl
target-sort sort.ObjectPatProp h k j p b m = no (sym p ∙ b)
target-sort sort.AssignTarget h k _ p b m = no m
target-sort sort.Pat h k _ p b m = no m
target-sort sort.ForHead h k _ p b m = no m
target-sort _ h k j p b m = no h

-- a pair may be where a property is
property-sort : (st : Sort) → agree seat.Property (seat_of st) ≡ true → belongs st kind.KeyValueProp ≡ true
property-sort sort.PropOrSpread h = refl
property-sort sort.Prop h = refl
property-sort _ h = no h

-- and one of a pattern where a shorthand of one is
pattern-sort : (st : Sort) → belongs st kind.AssignPatProp ≡ true → belongs st kind.KeyValuePatProp ≡ true
pattern-sort sort.ObjectPatProp h = refl
pattern-sort _ h = no h

expression-kind : (e : Node) → HasSort sort.Expr e → is_expr (out-Node e).kind ≡ true
expression-kind e h = (parts-of (one sort.Expr) e h).0

-- an expression has a shape that allows another node, where the sort has it too
in-place : (t : Shape) (k : Kind) (e : Node) → is_list k ≡ false → is_absent k ≡ false → allows t k ≡ true → HasSort sort.Expr e → belongs t.sort (out-Node e).kind ≡ true → HasShape t e
in-place t k e l a h expression b =
    reshaped (one sort.Expr) t e (expression-no-list (out-Node e).kind (expression-kind e expression)) (allowed t k (out-Node e).kind l a h b) expression

zero-sort : HasSort sort.Expr zero_node
zero-sort = (node_has_shape dummy_span (kind.Number (Some (Whole (pos 0))) None) [] (one sort.Expr)).1 (refl, tt)

indirect-sort : (e : Node) → HasSort sort.Expr e → HasSort sort.Expr (indirect_callee e)
indirect-sort e h = (node_has_shape dummy_span kind.SeqExpr (zero_node ∷ e ∷ []) (one sort.Expr)).1 (refl, (zero-sort, (h, tt)))

key-sort : (name : Ident) → HasSort sort.PropName (key_of name)
key-sort name = (node_has_shape name.span (kind.IdentName name.sym) [] (one sort.PropName)).1 (refl, tt)

module _ (answers : Answers) (references : AreReferences answers) where
  -- ---- what is answered

  read-is : (name : Ident) (e : Node) → answers.read name ≡ Some e → HasSort sort.Expr e
  read-is name e is = subst (λ (o : Option Node). IfSome o (HasSort sort.Expr)) is (references.read name)

  target-is : (name : Ident) (e : Node) → answers.target name ≡ Some e → HasSort sort.Expr e
  target-is name e is = subst (λ (o : Option Node). IfSome o (HasSort sort.Expr)) is (references.target name)

  member-is : (name : Ident) (e : Node) → answers.target name ≡ Some e → is_member (out-Node e).kind ≡ true
  member-is name e is = subst (λ (o : Option Node). IfSome o (λ z. is_member (out-Node z).kind ≡ true)) is (references.member name)

  expression-is : (s : Seat) (name : Ident) (e : Node) → asked answers s name ≡ Some e → HasSort sort.Expr e
  expression-is seat.Read name e is = read-is name e is
  expression-is seat.Called name e is = read-is name e is
  expression-is seat.Property name e is = read-is name e is
  expression-is seat.Target name e is = target-is name e is
  expression-is seat.Declared name e is = absurd (none-some e is)
  expression-is seat.Other name e is = absurd (none-some e is)

  called-is : (name : Ident) (e : Node) → HasSort sort.Expr e → HasSort sort.Expr (called answers name e)
  called-is name e h = by (answers.fixes_this name && is_member (out-Node e).kind)
    where
      by : (b : Bool) → HasSort sort.Expr (cond b (indirect_callee e) e)
      by true = indirect-sort e h
      by false = h

  -- ---- what is written

  pair-shape : (t : Shape) (k : Kind) (span : Span) (name : Ident) (e : Node) → is_list k ≡ false → is_absent k ≡ false → allows t k ≡ true → suits seat.Property t ≡ true → HasSort sort.Expr e
      → HasShape t (pair_of span name e)
  pair-shape t k span name e l a h suit is =
      (node_has_shape span kind.KeyValueProp (key_of name ∷ e ∷ []) t).1 (allowed t k kind.KeyValueProp l a h (property-sort t.sort suit), (key-sort name, (is, tt)))

  seat-shape : (s : Seat) (t : Shape) (k : Kind) (span : Span) (name : Ident) (e : Node) → is_list k ≡ false → is_absent k ≡ false → belongs sort.ObjectPatProp k ≡ false
      → allows t k ≡ true → suits s t ≡ true → asked answers s name ≡ Some e → HasShape t (in_seat answers s name e span)
  seat-shape seat.Read t k span name e l a p h suit is =
      let expression = read-is name e is in
      in-place t k e l a h expression (read-sort t.sort suit (out-Node e).kind (expression-kind e expression))
  seat-shape seat.Called t k span name e l a p h suit is =
      let expression = called-is name e (read-is name e is) in
      in-place t k (called answers name e) l a h expression (called-sort t.sort suit (out-Node (called answers name e)).kind (expression-kind (called answers name e) expression))
  seat-shape seat.Property t k span name e l a p h suit is = pair-shape t k span name e l a h suit (read-is name e is)
  seat-shape seat.Target t k span name e l a p h suit is =
      in-place t k e l a h (target-is name e is) (target-sort t.sort suit k (out-Node e).kind p (belongs-too t k l a h) (member-is name e is))
  seat-shape seat.Declared t k span name e l a p h suit is = absurd (none-some e is)
  seat-shape seat.Other t k span name e l a p h suit is = absurd (none-some e is)

  -- ---- shorthand patterns

  pattern-sort-of : (e : Node) → HasSort sort.Expr e → HasSort sort.Pat e
  pattern-sort-of e h =
      let is = expression-kind e h in
      reshaped (one sort.Expr) (one sort.Pat) e (expression-no-list (out-Node e).kind is) (ap (λ b. b || is_pattern (out-Node e).kind) is) h

  default-sort : (span : Span) (e value : Node) → HasSort sort.Expr e → HasShape (maybe sort.Expr) value → HasSort sort.Pat (with_default span e value)
  default-sort span e value h v = by (kind_is_absent value) refl
    where
      by : (b : Bool) → kind_is_absent value ≡ b → HasSort sort.Pat (cond b e (node_of span kind.AssignPat (e ∷ value ∷ [])))
      by true absent = pattern-sort-of e h
      by false there =
          let is : is_expr (out-Node value).kind ≡ true = sym (ap (λ b. b || is_expr (out-Node value).kind) there) ∙ (parts-of (maybe sort.Expr) value v).0 in
          let expression = reshaped (maybe sort.Expr) (one sort.Expr) value (expression-no-list (out-Node value).kind is) is v in
          (node_has_shape span kind.AssignPat (e ∷ value ∷ []) (one sort.Pat)).1 (refl, (pattern-sort-of e h, (expression, tt)))

  default-shape : (nodes : List Node) → HaveShapes (one sort.BindingIdent ∷ maybe sort.Expr ∷ []) nodes → HasShape (maybe sort.Expr) (default_in nodes)
  default-shape [] h = absurd h
  default-shape (a ∷ []) h = absurd h.1
  default-shape (a ∷ b ∷ []) h = h.1.0
  default-shape (a ∷ b ∷ c ∷ cs) h = absurd h.1.1

  pattern-shape : (t : Shape) (span : Span) (name : Ident) (e : Node) (nodes : List Node) → HasSort sort.Expr e → HasShape t (node_of span kind.AssignPatProp nodes) → HasShape t (pattern_of span name e nodes)
  pattern-shape t span name e nodes h whole =
      let parts = (node_has_shape span kind.AssignPatProp nodes t).0 whole in
      let fits = pattern-sort t.sort (belongs-too t kind.AssignPatProp refl refl parts.0) in
      (node_has_shape span kind.KeyValuePatProp (key_of name ∷ with_default span e (default_in nodes) ∷ []) t).1
      (allowed t kind.AssignPatProp kind.KeyValuePatProp refl refl parts.0 fits, (key-sort name, (default-sort span e (default_in nodes) h (default-shape nodes parts.1), tt)))

  -- ---- nodes

  stands-shape : (s : Seat) (t : Shape) (span : Span) (k : Kind) (old new : List Node) (name : Ident) (e : Node) → allows t k ≡ true → suits s t ≡ true → HasShape t (node_of span k new)
      → name_of span k old ≡ Some name → asked answers s name ≡ Some e → HasShape t (stands_for answers s name e span k new)
  unfolding name_of stands_for
  stands-shape s t span (kind.Ident sym ctxt optional) old new name e h suit whole named is = seat-shape s t (kind.Ident sym ctxt optional) span name e refl refl refl h suit is
  stands-shape s t span kind.BindingIdent old new name e h suit whole named is = seat-shape s t kind.BindingIdent span name e refl refl refl h suit is
  stands-shape s t span kind.AssignPatProp old new name e h suit whole named is = pattern-shape t span name e new (expression-is s name e is) whole
  stands-shape s t span _ old new name e h suit whole named is = absurd (none-some name named)

  written-shape : (s : Seat) (t : Shape) (span : Span) (k : Kind) (old new : List Node) → allows t k ≡ true → suits s t ≡ true → HasShape t (node_of span k new)
      → HasShape t (written answers s (answer_of answers s span k old) span k new)
  written-shape s t span k old new h suit whole = by (name_of span k old) refl
    where
      to : (name : Ident) → name_of span k old ≡ Some name → (o : Option Node) → asked answers s name ≡ o → HasShape t (written answers s (option_map (λ e. (name, e)) o) span k new)
      to name named None is = whole
      to name named (Some e) is = stands-shape s t span k old new name e h suit whole named is

      by : (o : Option Ident) → name_of span k old ≡ o → HasShape t (written answers s (option_and_then (answer_to answers s) o) span k new)
      by None named = whole
      by (Some name) named = to name named (asked answers s name) refl

  exchanges : Exchanges (referring answers) suits
  exchanges = record {
    kept = λ c. refl;
    along = λ s t c suit. suit;
    listed = λ s t suit. suit;
    below = λ s t k nodes l suit h i u at. below s t k nodes l i u at;
    here = λ s t span k nodes lists l suit h became whole.
        alone t (written answers s (answer_of answers s span k nodes) span k (map only lists)) (written-shape s t span k nodes (map only lists) h suit whole) false;
  }

  keeps-shape : (s : Seat) (t : Shape) (tree : Node) → suits s t ≡ true → HasShape t tree → HasShape t (answered answers s tree)
  keeps-shape s t tree suit h =
      let fills = exchanges_keep_shapes Seat (referring answers) suits exchanges s t tree h suit in
      All-head (HasShape t) (answered answers s tree) [] (subst (All (HasShape t)) (fills.single refl) fills.each)

pub trees_keep_sorts : AnsweredTreesKeepTheirSorts
trees_keep_sorts answers references = record {
  modules = λ tree h. keeps-shape answers references seat.Other (one sort.Module) tree refl h;
  statements = λ tree h. keeps-shape answers references seat.Other (one sort.Stmt) tree refl h;
  expressions = λ tree h. keeps-shape answers references seat.Read (one sort.Expr) tree refl h;
  patterns = λ tree h. keeps-shape answers references seat.Target (one sort.Pat) tree refl h;
}
