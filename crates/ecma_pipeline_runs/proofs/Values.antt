-- What is a value, and what stays as the body of a statement, without types.
use Rattle.std.proofs.Common.{◌≡◌, Bool, true, false, ◌&&◌, ◌||◌, not, cond, List, [], ◌∷◌, map, length, refl, sym, ap, ap₂, ◌∙◌, slice_get}
use Rattle.ecma_kind.specs.Sorts.{belongs}
use Rattle.ecma_kind.specs.declared.kind.Kind.{Kind}
use Rattle.ecma_kind.specs.declared.kind.Kind.TheVariants as kind
use Rattle.ecma_kind.specs.declared.shapes.Shape.{Shape}
use Rattle.ecma_kind.specs.declared.shapes.Sort.TheVariants as sort
use Rattle.ecma_kind.specs.declared.span.Span.{Span}
use Rattle.ecma_tree.specs.declared.node.Node.{Node, Node-F, out-Node}
use Rattle.ecma_tree.specs.declared.node.Node.TheViews.{out-roll-Node}
use Rattle.ecma_tree.specs.Laws.{HaveShapes}
use Rattle.ecma_tree.specs.Nodes.{node_of}
use Rattle.ecma_tree.specs.Sorted.{HasShape, allows, child_shapes, is_absent, maybe, one}
use Rattle.ecma_rules.specs.Statements.{is_declaration as declares_kind}
use Rattle.ecma_strip.specs.Staying.{if_there, is_declared, is_empty_stmt, is_export, item_stays}
use Rattle.ecma_strip.specs.Stripping.{plain, plain_children, plain_kind, staying_nodes, stripped}
use Rattle.ecma_strip.proofs.Stripping.{stripped-out}
use Rattle.ecma_strip_runs.specs.UsualBodies.{declares_no_body, is_declaration}
use Rattle.ecma_hygiene.proofs.Telling.{and-both, and-left, and-right, true-false}
use Rattle.ecma_strip_scopes.specs.Standing.{bodies_stay}
use Rattle.ecma_strip_scopes.proofs.Going.{is_named, parts-have}
use Rattle.ecma_pipeline_runs.proofs.Nodes.{not-true}
use Rattle.ecma_tree.specs.Values.{is_value, is_value_where, value_by, values_in}
use Rattle.ecma_tree.proofs.Valuing.{is_value-out, is_value-roll, is_value_where-out, is_value_where-roll, value_where_by}

-- ---- values, to scopes

body-by : (stays : Bool) (span : Span) (k : Kind) (cs ds : List Node) → allows (maybe sort.BlockStmt) k ≡ true → is_value_where stays (plain span k cs) ≡ value_where_by stays k ds
unfolding plain plain_kind plain_children value_by
body-by stays span kind.Absent cs ds a = is_value_where-roll stays span kind.Absent cs
body-by stays span kind.BlockStmt cs ds a = is_value_where-roll stays span kind.BlockStmt (plain_children kind.BlockStmt cs)
body-by stays span _ cs ds a = absurd (true-false a refl)

body-kept : (stays : Bool) (b : Node) → HasShape (maybe sort.BlockStmt) b → is_value_where stays (stripped b) ≡ is_value_where stays b
body-kept stays b has =
    ap (is_value_where stays) (stripped-out b)
    ∙ body-by stays (out-Node b).span (out-Node b).kind (map stripped (staying_nodes (out-Node b).kind (out-Node b).children)) (out-Node b).children (parts-have b (maybe sort.BlockStmt) has).0
    ∙ sym (is_value_where-out stays b)

function-by : (stays : Bool) (span : Span) (k : Kind) (cs : List Node) → allows (one sort.Function) k ≡ true → HaveShapes (child_shapes k (one sort.Function) (length cs)) cs
    → is_value_where stays (plain span k (map stripped (staying_nodes k cs))) ≡ value_where_by stays k cs
unfolding plain plain_kind plain_children value_by
function-by stays span (kind.Function g a) (p ∷ b ∷ t ∷ r ∷ []) is have =
    is_value_where-roll stays span (kind.Function g a) (map stripped (p ∷ b ∷ t ∷ r ∷ [])) ∙ ap (λ (v : Bool). not stays || v) (body-kept stays b have.1.0)
function-by stays span (kind.Function g a) [] is have = absurd have
function-by stays span (kind.Function g a) (p ∷ []) is have = absurd have.1
function-by stays span (kind.Function g a) (p ∷ b ∷ []) is have = absurd have.1.1
function-by stays span (kind.Function g a) (p ∷ b ∷ t ∷ []) is have = absurd have.1.1.1
function-by stays span (kind.Function g a) (p ∷ b ∷ t ∷ r ∷ u ∷ others) is have = absurd have.1.1.1.1
function-by stays span _ cs is have = absurd (true-false is refl)

function-kept : (stays : Bool) (f : Node) → HasShape (one sort.Function) f → is_value_where stays (stripped f) ≡ is_value_where stays f
function-kept stays f has =
    let parts = parts-have f (one sort.Function) has in
    ap (is_value_where stays) (stripped-out f) ∙ function-by stays (out-Node f).span (out-Node f).kind (out-Node f).children parts.0 parts.1 ∙ sym (is_value_where-out stays f)

named-by : (span : Span) (k : Kind) (s : Shape) (cs : List Node) → is_named k ≡ true → HaveShapes (child_shapes k s (length cs)) cs → is_value (plain span k (map stripped (staying_nodes k cs))) ≡ value_by k (values_in true k cs)
unfolding plain plain_kind plain_children value_by
named-by span (kind.FnDecl d) s (i ∷ f ∷ []) is have = is_value-roll span (kind.FnDecl d) (map stripped (i ∷ f ∷ [])) ∙ function-kept (not d && true) f have.1.0
named-by span (kind.FnDecl d) s [] is have = absurd have
named-by span (kind.FnDecl d) s (i ∷ []) is have = absurd have.1
named-by span (kind.FnDecl d) s (i ∷ f ∷ g ∷ others) is have = absurd have.1.1
named-by span kind.FnExpr s (i ∷ f ∷ []) is have = is_value-roll span kind.FnExpr (map stripped (i ∷ f ∷ [])) ∙ function-kept true f have.1.0
named-by span kind.FnExpr s [] is have = absurd have
named-by span kind.FnExpr s (i ∷ []) is have = absurd have.1
named-by span kind.FnExpr s (i ∷ f ∷ g ∷ others) is have = absurd have.1.1
named-by span _ s cs is have = absurd (true-false is refl)

-- a function with a name is a value without its types where it is one with them
pub named-kept : (n : Node) (s : Shape) → HasShape s n → is_named (out-Node n).kind ≡ true → is_value (stripped n) ≡ is_value n
named-kept n s has is = ap is_value (stripped-out n) ∙ named-by (out-Node n).span (out-Node n).kind s (out-Node n).children is (parts-have n s has).1 ∙ sym (is_value-out n)

-- ---- bodies

abbrev item_by : Kind → List Node → Bool → Bool
item_by k cs value =
    cond (is_empty_stmt k) true (cond (belongs sort.ModuleItem k) (value && not (cond (is_export k) (if_there (slice_get cs 0) (λ x. is_declared (out-Node x).kind)) (is_declared k))) true)

item-of : (span : Span) (k : Kind) (cs : List Node) → item_stays (node_of span k cs) ≡ item_by k cs (value_by k (values_in true k cs))
item-of span k cs =
    let parts : Node-F Node = record { span = span; kind = k; children = cs } in
    ap₂ (λ (z : Node-F Node) (v : Bool). item_by z.kind z.children v) (out-roll-Node parts) (is_value-roll span k cs)

stay-by : (span : Span) (k : Kind) (cs : List Node) → (is_absent k || belongs sort.Stmt k) ≡ true → declares_kind k ≡ false → item_stays (plain span k cs) ≡ true
unfolding plain plain_kind plain_children value_by is_declared declares_kind
stay-by span kind.Absent cs a h = item-of span kind.Absent cs
stay-by span kind.BlockStmt cs a h = item-of span kind.BlockStmt _
stay-by span kind.EmptyStmt cs a h = item-of span kind.EmptyStmt cs
stay-by span kind.DebuggerStmt cs a h = item-of span kind.DebuggerStmt cs
stay-by span kind.ReturnStmt cs a h = item-of span kind.ReturnStmt cs
stay-by span kind.LabeledStmt cs a h = item-of span kind.LabeledStmt _
stay-by span kind.BreakStmt cs a h = item-of span kind.BreakStmt cs
stay-by span kind.ContinueStmt cs a h = item-of span kind.ContinueStmt cs
stay-by span kind.IfStmt cs a h = item-of span kind.IfStmt _
stay-by span kind.SwitchStmt cs a h = item-of span kind.SwitchStmt cs
stay-by span kind.ThrowStmt cs a h = item-of span kind.ThrowStmt cs
stay-by span kind.TryStmt cs a h = item-of span kind.TryStmt cs
stay-by span kind.WhileStmt cs a h = item-of span kind.WhileStmt _
stay-by span kind.DoWhileStmt cs a h = item-of span kind.DoWhileStmt _
stay-by span kind.ForStmt cs a h = item-of span kind.ForStmt _
stay-by span kind.ForInStmt cs a h = item-of span kind.ForInStmt _
stay-by span (kind.ForOfStmt w) cs a h = item-of span (kind.ForOfStmt w) _
stay-by span kind.ExprStmt cs a h = item-of span kind.ExprStmt cs
stay-by span (kind.VarDecl w false) cs a h = item-of span (kind.VarDecl w false) cs
stay-by span (kind.VarDecl w true) cs a h = absurd (true-false refl h)
stay-by span (kind.FnDecl d) cs a h = absurd (true-false refl h)
stay-by span (kind.ClassDecl d) cs a h = absurd (true-false refl h)
stay-by span (kind.TsInterfaceDecl d) cs a h = absurd (true-false refl h)
stay-by span (kind.TsTypeAliasDecl d) cs a h = absurd (true-false refl h)
stay-by span (kind.TsEnumDecl d e) cs a h = absurd (true-false refl h)
stay-by span (kind.TsModuleDecl d e) cs a h = absurd (true-false refl h)
stay-by span _ cs a h = absurd (true-false a refl)

or-second : (a b : Bool) → b ≡ true → (a || b) ≡ true
or-second true b h = refl
or-second false b h = h

maybe-stays : (c : Node) → HasShape (maybe sort.Stmt) c → is_declaration c ≡ false → item_stays (stripped c) ≡ true
maybe-stays c has h = ap item_stays (stripped-out c) ∙ stay-by (out-Node c).span (out-Node c).kind (map stripped (staying_nodes (out-Node c).kind (out-Node c).children)) (parts-have c (maybe sort.Stmt) has).0 h

one-stays : (c : Node) → HasShape (one sort.Stmt) c → not (is_declaration c) ≡ true → item_stays (stripped c) ≡ true
one-stays c has h =
    ap item_stays (stripped-out c)
    ∙ stay-by (out-Node c).span (out-Node c).kind (map stripped (staying_nodes (out-Node c).kind (out-Node c).children)) (or-second (is_absent (out-Node c).kind) (belongs sort.Stmt (out-Node c).kind) (parts-have c (one sort.Stmt) has).0) (not-true (is_declaration c) h)

pub bodies-stay : (k : Kind) (cs : List Node) (s : Shape) → HaveShapes (child_shapes k s (length cs)) cs → declares_no_body k cs ≡ true → bodies_stay k (map stripped cs) ≡ true
bodies-stay kind.IfStmt (a ∷ b ∷ c ∷ []) s have h =
    and-both (item_stays (stripped b)) (item_stays (stripped c)) (one-stays b have.1.0 (and-left (not (is_declaration b)) (not (is_declaration c) && true) h))
    (maybe-stays c have.1.1.0 (not-true (is_declaration c) (and-left (not (is_declaration c)) true (and-right (not (is_declaration b)) (not (is_declaration c) && true) h))))
bodies-stay kind.IfStmt [] s have h = absurd have
bodies-stay kind.IfStmt (a ∷ []) s have h = absurd have.1
bodies-stay kind.IfStmt (a ∷ b ∷ []) s have h = absurd have.1.1
bodies-stay kind.IfStmt (a ∷ b ∷ c ∷ d ∷ cs) s have h = absurd have.1.1.1
bodies-stay kind.LabeledStmt (a ∷ b ∷ []) s have h = one-stays b have.1.0 (and-left (not (is_declaration b)) true h)
bodies-stay kind.LabeledStmt [] s have h = absurd have
bodies-stay kind.LabeledStmt (a ∷ []) s have h = absurd have.1
bodies-stay kind.LabeledStmt (a ∷ b ∷ c ∷ cs) s have h = absurd have.1.1
bodies-stay kind.WhileStmt (a ∷ b ∷ []) s have h = one-stays b have.1.0 (and-left (not (is_declaration b)) true h)
bodies-stay kind.WhileStmt [] s have h = absurd have
bodies-stay kind.WhileStmt (a ∷ []) s have h = absurd have.1
bodies-stay kind.WhileStmt (a ∷ b ∷ c ∷ cs) s have h = absurd have.1.1
bodies-stay kind.DoWhileStmt (a ∷ b ∷ []) s have h = one-stays b have.1.0 (and-left (not (is_declaration b)) true h)
bodies-stay kind.DoWhileStmt [] s have h = absurd have
bodies-stay kind.DoWhileStmt (a ∷ []) s have h = absurd have.1
bodies-stay kind.DoWhileStmt (a ∷ b ∷ c ∷ cs) s have h = absurd have.1.1
bodies-stay kind.ForStmt (a ∷ b ∷ c ∷ d ∷ []) s have h = one-stays d have.1.1.1.0 (and-left (not (is_declaration d)) true h)
bodies-stay kind.ForStmt [] s have h = absurd have
bodies-stay kind.ForStmt (a ∷ []) s have h = absurd have.1
bodies-stay kind.ForStmt (a ∷ b ∷ []) s have h = absurd have.1.1
bodies-stay kind.ForStmt (a ∷ b ∷ c ∷ []) s have h = absurd have.1.1.1
bodies-stay kind.ForStmt (a ∷ b ∷ c ∷ d ∷ e ∷ cs) s have h = absurd have.1.1.1.1
bodies-stay kind.ForInStmt (a ∷ b ∷ c ∷ []) s have h = one-stays c have.1.1.0 (and-left (not (is_declaration c)) true h)
bodies-stay kind.ForInStmt [] s have h = absurd have
bodies-stay kind.ForInStmt (a ∷ []) s have h = absurd have.1
bodies-stay kind.ForInStmt (a ∷ b ∷ []) s have h = absurd have.1.1
bodies-stay kind.ForInStmt (a ∷ b ∷ c ∷ d ∷ cs) s have h = absurd have.1.1.1
bodies-stay (kind.ForOfStmt w) (a ∷ b ∷ c ∷ []) s have h = one-stays c have.1.1.0 (and-left (not (is_declaration c)) true h)
bodies-stay (kind.ForOfStmt w) [] s have h = absurd have
bodies-stay (kind.ForOfStmt w) (a ∷ []) s have h = absurd have.1
bodies-stay (kind.ForOfStmt w) (a ∷ b ∷ []) s have h = absurd have.1.1
bodies-stay (kind.ForOfStmt w) (a ∷ b ∷ c ∷ d ∷ cs) s have h = absurd have.1.1.1
bodies-stay _ cs s have h = refl
