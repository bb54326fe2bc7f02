-- Of a sorted tree, with the usual bodies and parameters, only types go.
use Rattle.std.proofs.Common.{◌≡◌, refl, sym, ap, ◌∙◌, subst, ℕ, zero, suc, List, [], ◌∷◌, map, Bool, true, false, ◌&&◌, ◌||◌, not, cond, length, replicate}
use Rattle.std.specs.List.{list_all}
use Rattle.std.proofs.lemmas.Bool.{and_parts}
use Rattle.ecma_kind.specs.Sorts.{belongs, is_stmt}
use Rattle.ecma_kind.specs.declared.operators.VarDeclKind.TheVariants.{Var, Let, Const}
use Rattle.ecma_rules.specs.Statements as rules
use Rattle.ecma_kind.specs.declared.kind.Kind.{Kind}
use Rattle.ecma_kind.specs.declared.kind.Kind.TheVariants as kind
use Rattle.ecma_kind.specs.declared.span.Span.{Span}
use Rattle.ecma_kind.specs.declared.shapes.Count.{Count}
use Rattle.ecma_kind.specs.declared.shapes.Count.TheVariants.{One, Maybe, Many, MaybeMany, Holes}
use Rattle.ecma_kind.specs.declared.shapes.Shape.{Shape}
use Rattle.ecma_kind.specs.declared.shapes.Sort.{Sort}
use Rattle.ecma_kind.specs.declared.shapes.Sort.TheVariants as sort
use Rattle.ecma_tree.specs.declared.node.Node.{Node, Node-F, ind-Node, out-Node}
use Rattle.ecma_tree.specs.declared.node.Node.TheViews.{out-roll-Node}
use Rattle.ecma_tree.specs.Laws.{HaveShapes}
use Rattle.ecma_tree.specs.Nodes.{node_of}
use Rattle.ecma_tree.specs.Sorted.{HasShape, allows, allows_by, child_shapes, item_shape, is_absent, one, maybe, many}
use Rattle.ecma_tree.proofs.ShapeLaws.{node_has_shape}
use Rattle.ecma_strip.specs.Staying.{is_this, is_this_param, item_stays, is_declared, specifier_stays, member_stays_by, stays}
use Rattle.ecma_strip.specs.Stripping.{plain, plain_children, plain_kind, staying_nodes, stripped}
use Rattle.ecma_strip.proofs.Stripping.{stripped-out}
use Rattle.ecma_strip_runs.specs.OnlyTypes.{does_nothing, Seen, fine_item, fine_body, fine_list, all_fine, fine_by, only_types_go}
use Rattle.ecma_strip_runs.specs.UsualBodies.{bodies_of, is_declaration, declares_no_body, lists_no_receiver}
use Rattle.ecma_strip_runs.specs.Laws.{OnlyTypesGo}
use Rattle.ecma_strip_runs.proofs.Seeing.{seen, only_types_go-roll}
use Rattle.ecma_strip_runs.proofs.Telling.{is_usual, usual_parts}
use Rattle.ecma_strip_runs.proofs.Plain.{is_concrete}
use Rattle.ecma_strip_runs.proofs.Valueless.{shape_out}
use Rattle.ecma_strip_runs.proofs.Going.{item_by, item_same, member_by, member_same, value_of, goes_silently}
use Rattle.ecma_tree.specs.Values.{value_by}

-- a kind that may stand where no type and no member of a class does
abbrev is_fit : Kind → Bool
is_fit kind.TsType = false
is_fit k = is_concrete k

abbrev fit_sort : Sort → Bool
fit_sort sort.TsType = false
fit_sort sort.ClassMember = false
fit_sort σ = true

abbrev fit_shape : Count → Sort → Bool
fit_shape One σ = fit_sort σ
fit_shape Maybe σ = fit_sort σ
fit_shape c σ = true

no_type : (σ : Sort) → fit_sort σ ≡ true → belongs σ kind.TsType ≡ true → ⊥
no_type sort.TsType f b = absurd (cc)
no_type _ f b = absurd (cc)

abbrev is_member : Kind → Bool
is_member (kind.ClassProp modifiers readonly declare definite) = true
is_member (kind.PrivateProp modifiers readonly declare definite) = true
is_member (kind.ClassMethod sort' modifiers) = true
is_member (kind.PrivateMethod sort' modifiers) = true
is_member _ = false

no_member : (σ : Sort) (k : Kind) → fit_sort σ ≡ true → belongs σ k ≡ true → is_member k ≡ false
no_member sort.ClassMember k f b = absurd (cc)
no_member _ (kind.ClassProp modifiers readonly declare definite) f b = absurd (cc)
no_member _ (kind.PrivateProp modifiers readonly declare definite) f b = absurd (cc)
no_member _ (kind.ClassMethod sort' modifiers) f b = absurd (cc)
no_member _ (kind.PrivateMethod sort' modifiers) f b = absurd (cc)
no_member _ _ f b = refl

fit_by_sort : (σ : Sort) (k : Kind) → fit_sort σ ≡ true → belongs σ k ≡ true → is_fit k ≡ true
fit_by_sort σ k f b = go k (no_member σ k f b) (λ e. no_type σ f (sym (ap (belongs σ) e) ∙ b))
  where
    go : (k : Kind) → is_member k ≡ false → (k ≡ kind.TsType → ⊥) → is_fit k ≡ true
    go kind.TsType m t = absurd (t refl)
    go (kind.ClassProp modifiers readonly declare definite) m t = absurd (cc)
    go (kind.PrivateProp modifiers readonly declare definite) m t = absurd (cc)
    go (kind.ClassMethod sort' modifiers) m t = absurd (cc)
    go (kind.PrivateMethod sort' modifiers) m t = absurd (cc)
    go _ m t = refl

fit_allowed : (count : Count) (σ : Sort) (k : Kind) → fit_shape count σ ≡ true → allows_by count σ k ≡ true → is_fit k ≡ true
fit_allowed One σ k f a = fit_by_sort σ k f a
fit_allowed Maybe σ kind.Absent f a = refl
fit_allowed Maybe σ k f a = fit_by_sort σ k f a
fit_allowed Many σ kind.List f a = refl
fit_allowed Many σ _ f a = absurd (cc)
fit_allowed MaybeMany σ kind.List f a = refl
fit_allowed MaybeMany σ kind.Absent f a = refl
fit_allowed MaybeMany σ _ f a = absurd (cc)
fit_allowed Holes σ kind.List f a = refl
fit_allowed Holes σ _ f a = absurd (cc)

swapped : (a b : Bool) → not a && not b ≡ true → not b && not a ≡ true
swapped true b h = absurd (cc)
swapped false true h = absurd (cc)
swapped false false h = refl

fit_by_staying : (k : Kind) (cs : List Node) → member_by k cs ≡ true → specifier_stays k ≡ true → is_fit k ≡ true
unfolding specifier_stays
fit_by_staying kind.TsType cs m s = absurd (cc)
fit_by_staying (kind.ClassProp modifiers readonly declare definite) cs m s = swapped modifiers.is_abstract declare m
fit_by_staying (kind.PrivateProp modifiers readonly declare definite) cs m s = swapped modifiers.is_abstract declare m
fit_by_staying (kind.ClassMethod sort' modifiers) cs m s = (and_parts (not modifiers.is_abstract) (value_of 1 cs) m).0
fit_by_staying (kind.PrivateMethod sort' modifiers) cs m s = (and_parts (not modifiers.is_abstract) (value_of 1 cs) m).0
fit_by_staying _ cs m s = refl

-- a node that stays in a list is fit
stays_fit : (n : Node) → stays n ≡ true → is_fit (out-Node n).kind ≡ true
unfolding stays
stays_fit n e =
    let k = (out-Node n).kind in
    let a = and_parts (item_stays n && member_stays_by k n && specifier_stays k) (not (is_this_param n)) e in
    let b = and_parts (item_stays n && member_stays_by k n) (specifier_stays k) a.0 in
    let d = and_parts (item_stays n) (member_stays_by k n) b.0 in
    fit_by_staying k (out-Node n).children (sym (member_same k n) ∙ d.1) b.1

abbrev Good : Node → Type 0
Good n = (shape : Shape) → HasShape shape n → is_usual n ≡ true → is_fit (out-Node n).kind ≡ true → only_types_go n ≡ true

abbrev Child : Type 0
Child = (n : Node) × Good n

abbrev nodes : List Child → List Node
nodes children = map (λ child. child.0) children

abbrev all_usual : List Node → Bool
all_usual = list_all is_usual

abbrev all_fit : List Shape → Bool
all_fit shapes = list_all (λ shape. fit_shape shape.count shape.sort) shapes

child_fine : (child : Child) (shape : Shape) → HasShape shape child.0 → fit_shape shape.count shape.sort ≡ true → is_usual child.0 ≡ true → only_types_go child.0 ≡ true
child_fine child shape h f u = child.1 shape h u (fit_allowed shape.count shape.sort (out-Node child.0).kind f (shape_out shape child.0 h).0)

children_fine : (shapes : List Shape) (children : List Child) → HaveShapes shapes (nodes children) → all_fit shapes ≡ true → all_usual (nodes children) ≡ true → all_fine (map seen (nodes children)) ≡ true
children_fine [] [] h f u = refl
children_fine [] (child ∷ children) h f u = absurd h
children_fine (shape ∷ shapes) [] h f u = absurd h
children_fine (shape ∷ shapes) (child ∷ children) h f u =
    let f' = and_parts (fit_shape shape.count shape.sort) (all_fit shapes) f in
    let u' = and_parts (is_usual child.0) (all_usual (nodes children)) u in
    rw (child_fine child shape h.0 f'.0 u'.0, children_fine shapes children h.1 f'.1 u'.1) refl

negated : (b : Bool) → not b ≡ true → b ≡ false
negated true h = absurd (cc)
negated false h = refl

items_fine : (shape : Shape) (children : List Child) → HaveShapes (replicate (length (nodes children)) shape) (nodes children) → all_usual (nodes children) ≡ true
    → list_all (λ item. not (is_this item)) (nodes children) ≡ true → list_all fine_item (map seen (nodes children)) ≡ true
items_fine shape [] h u r = refl
items_fine shape (child ∷ children) h u r =
    let u' = and_parts (is_usual child.0) (all_usual (nodes children)) u in
    let r' = and_parts (not (is_this child.0)) (list_all (λ item. not (is_this item)) (nodes children)) r in
    rw (item_fine (stays child.0) refl u'.0 (negated (is_this child.0) r'.0), items_fine shape children h.1 u'.1 r'.1) refl
  where
    item_fine : (b : Bool) → stays child.0 ≡ b → is_usual child.0 ≡ true → is_this child.0 ≡ false → cond (stays child.0) (only_types_go child.0) (does_nothing child.0) ≡ true
    item_fine true e u r = rw e (child.1 shape h.0 u (stays_fit child.0 e))
    item_fine false e u r = rw e (goes_silently child.0 shape h.0 r e)

-- the body of a statement that is no declaration stays
body_kept : (k : Kind) → allows (maybe sort.Stmt) k ≡ true → rules.is_declaration k ≡ false → (span : Span) (cs : List Node) → plain span k cs ≡ node_of span k (plain_children k cs)
unfolding plain plain_kind rules.is_declaration
body_kept kind.Absent a d span cs = refl
body_kept kind.BlockStmt a d span cs = refl
body_kept kind.EmptyStmt a d span cs = refl
body_kept kind.DebuggerStmt a d span cs = refl
body_kept kind.ReturnStmt a d span cs = refl
body_kept kind.LabeledStmt a d span cs = refl
body_kept kind.BreakStmt a d span cs = refl
body_kept kind.ContinueStmt a d span cs = refl
body_kept kind.IfStmt a d span cs = refl
body_kept kind.SwitchStmt a d span cs = refl
body_kept kind.ThrowStmt a d span cs = refl
body_kept kind.TryStmt a d span cs = refl
body_kept kind.WhileStmt a d span cs = refl
body_kept kind.DoWhileStmt a d span cs = refl
body_kept kind.ForStmt a d span cs = refl
body_kept kind.ForInStmt a d span cs = refl
body_kept (kind.ForOfStmt is_await) a d span cs = refl
body_kept kind.ExprStmt a d span cs = refl
body_kept (kind.VarDecl Var false) a d span cs = refl
body_kept (kind.VarDecl Let false) a d span cs = absurd (cc)
body_kept (kind.VarDecl Const false) a d span cs = absurd (cc)
body_kept (kind.VarDecl word true) a d span cs = absurd (cc)
body_kept _ a d span cs = absurd (cc)

body_item : (k : Kind) → allows (maybe sort.Stmt) k ≡ true → rules.is_declaration k ≡ false → (cs : List Node) → item_by k cs ≡ true
unfolding value_by is_declared rules.is_declaration
body_item kind.Absent a d cs = refl
body_item kind.BlockStmt a d cs = refl
body_item kind.EmptyStmt a d cs = refl
body_item kind.DebuggerStmt a d cs = refl
body_item kind.ReturnStmt a d cs = refl
body_item kind.LabeledStmt a d cs = refl
body_item kind.BreakStmt a d cs = refl
body_item kind.ContinueStmt a d cs = refl
body_item kind.IfStmt a d cs = refl
body_item kind.SwitchStmt a d cs = refl
body_item kind.ThrowStmt a d cs = refl
body_item kind.TryStmt a d cs = refl
body_item kind.WhileStmt a d cs = refl
body_item kind.DoWhileStmt a d cs = refl
body_item kind.ForStmt a d cs = refl
body_item kind.ForInStmt a d cs = refl
body_item (kind.ForOfStmt is_await) a d cs = refl
body_item kind.ExprStmt a d cs = refl
body_item (kind.VarDecl Var false) a d cs = refl
body_item (kind.VarDecl Let false) a d cs = absurd (cc)
body_item (kind.VarDecl Const false) a d cs = absurd (cc)
body_item (kind.VarDecl word true) a d cs = absurd (cc)
body_item _ a d cs = absurd (cc)

body_stays : (b : Node) → allows (maybe sort.Stmt) (out-Node b).kind ≡ true → rules.is_declaration (out-Node b).kind ≡ false → item_stays (stripped b) ≡ true
body_stays b a d =
    let k = (out-Node b).kind in
    let cs = map stripped (staying_nodes k (out-Node b).children) in
    let e = stripped-out b ∙ body_kept k a d (out-Node b).span cs in
    let parts = ap out-Node e ∙ out-roll-Node (record { span = (out-Node b).span; kind = k; children = plain_children k cs }) in
    item_same (stripped b) ∙ (ap (λ p. item_by p.kind p.children) parts ∙ body_item k a d (plain_children k cs))

-- each kind

abbrev NodeParts : Kind → List Child → Type 0
NodeParts k children = (all_usual (nodes children) ≡ true) × (declares_no_body k (nodes children) ≡ true) × (lists_no_receiver k (nodes children) ≡ true)

list_fine : (σ : Sort) (child : Child) → HasShape (many σ) child.0 → is_usual child.0 ≡ true → fine_list (seen child.0) ≡ true
list_fine σ child h u = rw (child_fine child (many σ) h refl u, (shape_out (many σ) child.0 h).0) refl

body_fine : (child : Child) (shape : Shape) → HasShape shape child.0 → fit_shape shape.count shape.sort ≡ true → (allows shape (out-Node child.0).kind ≡ true → allows (maybe sort.Stmt) (out-Node child.0).kind ≡ true) → is_usual child.0 ≡ true
    → not (is_declaration child.0) ≡ true → fine_body (seen child.0) ≡ true
body_fine child shape h f there u d =
    rw (child_fine child shape h f u, body_stays child.0 (there (shape_out shape child.0 h).0) (negated (rules.is_declaration (out-Node child.0).kind) d)) refl

single_body : (child : Child) → HasShape (one sort.Stmt) child.0 → is_usual child.0 ≡ true → not (is_declaration child.0) ≡ true → fine_body (seen child.0) ≡ true
single_body child h u d = body_fine child (one sort.Stmt) h refl (λ a. either (is_absent (out-Node child.0).kind) (is_stmt (out-Node child.0).kind) a) u d
  where
    either : (x y : Bool) → y ≡ true → x || y ≡ true
    either true y e = refl
    either false y e = e

all_fit_replicate : (n : ℕ) (s : Shape) → fit_shape s.count s.sort ≡ true → all_fit (replicate n s) ≡ true
all_fit_replicate zero s f = refl
all_fit_replicate (suc n) s f = rw (f, all_fit_replicate n s f) refl

sequence_fine : (shape : Shape) (children : List Child) → HaveShapes (child_shapes kind.SeqExpr shape (length (nodes children))) (nodes children) → all_usual (nodes children) ≡ true → all_fine (map seen (nodes children)) ≡ true
sequence_fine shape [] s u = absurd s
sequence_fine shape (child ∷ children) s u =
    children_fine (replicate (suc (length (nodes children))) (one sort.Expr)) (child ∷ children) s (all_fit_replicate (suc (length (nodes children))) (one sort.Expr) refl) u

-- the first of the expressions of a wrapper, and the only one
first_fine : (a b : Shape) (children : List Child) → HaveShapes (a ∷ b ∷ []) (nodes children) → fit_shape a.count a.sort ≡ true → all_usual (nodes children) ≡ true
    → (P : List Seen → Bool) → ((e type : Seen) → P (e ∷ type ∷ []) ≡ e.fine) → P (map seen (nodes children)) ≡ true
first_fine a b (e ∷ type ∷ []) h f u P is = is (seen e.0) (seen type.0) ∙ child_fine e a h.0 f (and_parts (is_usual e.0) (all_usual (type.0 ∷ [])) u).0
first_fine a b [] h f u P is = absurd h
first_fine a b (e ∷ []) h f u P is = absurd h.1
first_fine a b (e ∷ type ∷ x ∷ others) h f u P is = absurd h.1.1

only_fine : (a : Shape) (children : List Child) → HaveShapes (a ∷ []) (nodes children) → fit_shape a.count a.sort ≡ true → all_usual (nodes children) ≡ true
    → (P : List Seen → Bool) → ((e : Seen) → P (e ∷ []) ≡ e.fine) → P (map seen (nodes children)) ≡ true
only_fine a (e ∷ []) h f u P is = is (seen e.0) ∙ child_fine e a h.0 f (and_parts (is_usual e.0) (all_usual []) u).0
only_fine a [] h f u P is = absurd h
only_fine a (e ∷ x ∷ others) h f u P is = absurd h.1

statements_fine : (σ : Sort) (children : List Child) → HaveShapes (many σ ∷ []) (nodes children) → all_usual (nodes children) ≡ true
    → (P : List Seen → Bool) → ((e : Seen) → P (e ∷ []) ≡ fine_list e) → P (map seen (nodes children)) ≡ true
statements_fine σ (e ∷ []) h u P is = is (seen e.0) ∙ list_fine σ e h.0 (and_parts (is_usual e.0) (all_usual []) u).0
statements_fine σ [] h u P is = absurd h
statements_fine σ (e ∷ x ∷ others) h u P is = absurd h.1

-- a statement with one body behind its head
abbrev round_fine : List Seen → Bool
round_fine (head ∷ body ∷ []) = head.fine && fine_body body
round_fine children = false

headed_fine : (a : Shape) (children : List Child) → HaveShapes (a ∷ one sort.Stmt ∷ []) (nodes children) → fit_shape a.count a.sort ≡ true → all_usual (nodes children) ≡ true
    → (Q : List Node → Bool) → ((head body : Node) → Q (head ∷ body ∷ []) ≡ not (is_declaration body) && true) → Q (nodes children) ≡ true
    → (P : List Seen → Bool) → ((head body : Seen) → P (head ∷ body ∷ []) ≡ head.fine && fine_body body) → P (map seen (nodes children)) ≡ true
headed_fine a (head ∷ body ∷ []) h f u Q at q P is =
    let u' = and_parts (is_usual head.0) (all_usual (body.0 ∷ [])) u in
    let u'' = and_parts (is_usual body.0) (all_usual []) u'.1 in
    let d = and_parts (not (is_declaration body.0)) true (sym (at head.0 body.0) ∙ q) in
    is (seen head.0) (seen body.0) ∙ rw (child_fine head a h.0 f u'.0, single_body body h.1.0 u''.0 d.0) refl
headed_fine a [] h f u Q at q P is = absurd h
headed_fine a (head ∷ []) h f u Q at q P is = absurd h.1
headed_fine a (head ∷ body ∷ x ∷ others) h f u Q at q P is = absurd h.1.1

if_fine : (children : List Child) → HaveShapes (one sort.Expr ∷ one sort.Stmt ∷ maybe sort.Stmt ∷ []) (nodes children) → NodeParts kind.IfStmt children → fine_by kind.IfStmt (map seen (nodes children)) ≡ true
unfolding fine_by
if_fine (test ∷ yes' ∷ no' ∷ []) h p =
    let u = and_parts (is_usual test.0) (all_usual (yes'.0 ∷ no'.0 ∷ [])) p.0 in
    let v = and_parts (is_usual yes'.0) (all_usual (no'.0 ∷ [])) u.1 in
    let w = and_parts (is_usual no'.0) (all_usual []) v.1 in
    let d = and_parts (not (is_declaration yes'.0)) (not (is_declaration no'.0) && true) p.1 in
    let e = and_parts (not (is_declaration no'.0)) true d.1 in
    rw (child_fine test (one sort.Expr) h.0 refl u.0, single_body yes' h.1.0 v.0 d.0, body_fine no' (maybe sort.Stmt) h.1.1.0 refl (λ a. a) w.0 e.0) refl
if_fine [] h p = absurd h
if_fine (a ∷ []) h p = absurd h.1
if_fine (a ∷ b ∷ []) h p = absurd h.1.1
if_fine (a ∷ b ∷ d ∷ e ∷ others) h p = absurd h.1.1.1

for_fine : (children : List Child) → HaveShapes (maybe sort.VarDeclOrExpr ∷ maybe sort.Expr ∷ maybe sort.Expr ∷ one sort.Stmt ∷ []) (nodes children) → NodeParts kind.ForStmt children → fine_by kind.ForStmt (map seen (nodes children)) ≡ true
unfolding fine_by
for_fine (init ∷ test ∷ update ∷ body ∷ []) h p =
    let u = and_parts (is_usual init.0) (all_usual (test.0 ∷ update.0 ∷ body.0 ∷ [])) p.0 in
    let v = and_parts (is_usual test.0) (all_usual (update.0 ∷ body.0 ∷ [])) u.1 in
    let w = and_parts (is_usual update.0) (all_usual (body.0 ∷ [])) v.1 in
    let x = and_parts (is_usual body.0) (all_usual []) w.1 in
    let d = and_parts (not (is_declaration body.0)) true p.1 in
    rw (child_fine init (maybe sort.VarDeclOrExpr) h.0 refl u.0, child_fine test (maybe sort.Expr) h.1.0 refl v.0, child_fine update (maybe sort.Expr) h.1.1.0 refl w.0, single_body body h.1.1.1.0 x.0 d.0) refl
for_fine [] h p = absurd h
for_fine (a ∷ []) h p = absurd h.1
for_fine (a ∷ b ∷ []) h p = absurd h.1.1
for_fine (a ∷ b ∷ d ∷ []) h p = absurd h.1.1.1
for_fine (a ∷ b ∷ d ∷ e ∷ f ∷ others) h p = absurd h.1.1.1.1

-- `for` over keys or over what is iterated
each_fine : (children : List Child) → HaveShapes (one sort.ForHead ∷ one sort.Expr ∷ one sort.Stmt ∷ []) (nodes children) → all_usual (nodes children) ≡ true
    → (Q : List Node → Bool) → ((left right body : Node) → Q (left ∷ right ∷ body ∷ []) ≡ not (is_declaration body) && true) → Q (nodes children) ≡ true
    → (P : List Seen → Bool) → ((left right body : Seen) → P (left ∷ right ∷ body ∷ []) ≡ left.fine && (right.fine && fine_body body)) → P (map seen (nodes children)) ≡ true
each_fine (left ∷ right ∷ body ∷ []) h u Q at q P is =
    let u' = and_parts (is_usual left.0) (all_usual (right.0 ∷ body.0 ∷ [])) u in
    let v = and_parts (is_usual right.0) (all_usual (body.0 ∷ [])) u'.1 in
    let w = and_parts (is_usual body.0) (all_usual []) v.1 in
    let d = and_parts (not (is_declaration body.0)) true (sym (at left.0 right.0 body.0) ∙ q) in
    is (seen left.0) (seen right.0) (seen body.0) ∙ rw (child_fine left (one sort.ForHead) h.0 refl u'.0, child_fine right (one sort.Expr) h.1.0 refl v.0, single_body body h.1.1.0 w.0 d.0) refl
each_fine [] h u Q at q P is = absurd h
each_fine (a ∷ []) h u Q at q P is = absurd h.1
each_fine (a ∷ b ∷ []) h u Q at q P is = absurd h.1.1
each_fine (a ∷ b ∷ d ∷ e ∷ others) h u Q at q P is = absurd h.1.1.1

case_fine : (children : List Child) → HaveShapes (maybe sort.Expr ∷ many sort.Stmt ∷ []) (nodes children) → all_usual (nodes children) ≡ true → fine_by kind.SwitchCase (map seen (nodes children)) ≡ true
unfolding fine_by
case_fine (test ∷ body ∷ []) h u =
    let u' = and_parts (is_usual test.0) (all_usual (body.0 ∷ [])) u in
    let v = and_parts (is_usual body.0) (all_usual []) u'.1 in
    rw (child_fine test (maybe sort.Expr) h.0 refl u'.0, list_fine sort.Stmt body h.1.0 v.0) refl
case_fine [] h u = absurd h
case_fine (a ∷ []) h u = absurd h.1
case_fine (a ∷ b ∷ d ∷ others) h u = absurd h.1.1

setter_fine : (children : List Child) → HaveShapes (one sort.PropName ∷ maybe sort.Pat ∷ one sort.Pat ∷ maybe sort.BlockStmt ∷ []) (nodes children) → all_usual (nodes children) ≡ true → fine_by kind.SetterProp (map seen (nodes children)) ≡ true
unfolding fine_by
setter_fine (key ∷ receiver ∷ parameter ∷ body ∷ []) h u =
    let u' = and_parts (is_usual key.0) (all_usual (receiver.0 ∷ parameter.0 ∷ body.0 ∷ [])) u in
    let v = and_parts (is_usual receiver.0) (all_usual (parameter.0 ∷ body.0 ∷ [])) u'.1 in
    let w = and_parts (is_usual parameter.0) (all_usual (body.0 ∷ [])) v.1 in
    let x = and_parts (is_usual body.0) (all_usual []) w.1 in
    rw (child_fine key (one sort.PropName) h.0 refl u'.0, child_fine parameter (one sort.Pat) h.1.1.0 refl w.0, child_fine body (maybe sort.BlockStmt) h.1.1.1.0 refl x.0) refl
setter_fine [] h u = absurd h
setter_fine (a ∷ []) h u = absurd h.1
setter_fine (a ∷ b ∷ []) h u = absurd h.1.1
setter_fine (a ∷ b ∷ d ∷ []) h u = absurd h.1.1.1
setter_fine (a ∷ b ∷ d ∷ e ∷ f ∷ others) h u = absurd h.1.1.1.1

fine_step : (k : Kind) (children : List Child) (shape : Shape) → HaveShapes (child_shapes k shape (length (nodes children))) (nodes children) → NodeParts k children → is_fit k ≡ true → fine_by k (map seen (nodes children)) ≡ true
unfolding fine_by
fine_step kind.List children shape s p f = items_fine (item_shape shape) children s p.0 p.2
fine_step kind.TsTypeAnn children shape s p f = refl
fine_step kind.TsTypeParamDecl children shape s p f = refl
fine_step kind.TsTypeParamInstantiation children shape s p f = refl
fine_step (kind.TsInterfaceDecl declare) children shape s p f = refl
fine_step (kind.TsTypeAliasDecl declare) children shape s p f = refl
fine_step kind.TsType children shape s p f = absurd (cc)
fine_step kind.TsAsExpr children shape s p f = first_fine (one sort.Expr) (one sort.TsType) children s refl p.0 (fine_by kind.TsAsExpr) (λ e type. refl)
fine_step kind.TsTypeAssertion children shape s p f = first_fine (one sort.Expr) (one sort.TsType) children s refl p.0 (fine_by kind.TsTypeAssertion) (λ e type. refl)
fine_step kind.TsInstantiation children shape s p f = first_fine (one sort.Expr) (one sort.TsTypeParamInstantiation) children s refl p.0 (fine_by kind.TsInstantiation) (λ e type. refl)
fine_step kind.TsSatisfiesExpr children shape s p f = first_fine (one sort.Expr) (one sort.TsType) children s refl p.0 (fine_by kind.TsSatisfiesExpr) (λ e type. refl)
fine_step kind.TsConstAssertion children shape s p f = only_fine (one sort.Expr) children s refl p.0 (fine_by kind.TsConstAssertion) (λ e. refl)
fine_step kind.TsNonNullExpr children shape s p f = only_fine (one sort.Expr) children s refl p.0 (fine_by kind.TsNonNullExpr) (λ e. refl)
fine_step (kind.Module shebang) children shape s p f = statements_fine sort.ModuleItem children s p.0 (fine_by (kind.Module shebang)) (λ e. refl)
fine_step (kind.Script shebang) children shape s p f = statements_fine sort.Stmt children s p.0 (fine_by (kind.Script shebang)) (λ e. refl)
fine_step kind.BlockStmt children shape s p f = statements_fine sort.Stmt children s p.0 (fine_by kind.BlockStmt) (λ e. refl)
fine_step kind.TsModuleBlock children shape s p f = statements_fine sort.ModuleItem children s p.0 (fine_by kind.TsModuleBlock) (λ e. refl)
fine_step kind.SwitchCase children shape s p f = case_fine children s p.0
fine_step kind.IfStmt children shape s p f = if_fine children s p
fine_step kind.LabeledStmt children shape s p f =
    headed_fine (one sort.Ident) children s refl p.0 (λ ts. list_all (λ body. not (is_declaration body)) (bodies_of kind.LabeledStmt ts)) (λ head body. refl) p.1 (fine_by kind.LabeledStmt) (λ head body. refl)
fine_step kind.WhileStmt children shape s p f =
    headed_fine (one sort.Expr) children s refl p.0 (λ ts. list_all (λ body. not (is_declaration body)) (bodies_of kind.WhileStmt ts)) (λ head body. refl) p.1 (fine_by kind.WhileStmt) (λ head body. refl)
fine_step kind.DoWhileStmt children shape s p f =
    headed_fine (one sort.Expr) children s refl p.0 (λ ts. list_all (λ body. not (is_declaration body)) (bodies_of kind.DoWhileStmt ts)) (λ head body. refl) p.1 (fine_by kind.DoWhileStmt) (λ head body. refl)
fine_step kind.ForStmt children shape s p f = for_fine children s p
fine_step kind.ForInStmt children shape s p f =
    each_fine children s p.0 (λ ts. list_all (λ body. not (is_declaration body)) (bodies_of kind.ForInStmt ts)) (λ left right body. refl) p.1 (fine_by kind.ForInStmt) (λ left right body. refl)
fine_step (kind.ForOfStmt is_await) children shape s p f =
    each_fine children s p.0 (λ ts. list_all (λ body. not (is_declaration body)) (bodies_of (kind.ForOfStmt is_await) ts)) (λ left right body. refl) p.1 (fine_by (kind.ForOfStmt is_await)) (λ left right body. refl)
fine_step kind.SetterProp children shape s p f = setter_fine children s p.0
fine_step kind.SeqExpr children shape s p f = sequence_fine shape children s p.0
fine_step (kind.ClassProp modifiers readonly declare definite) children shape s p f =
    let k = kind.ClassProp modifiers readonly declare definite in
    let g = and_parts (not declare) (not modifiers.is_abstract) f in
    rw (g.0, g.1, children_fine (child_shapes k shape (length (nodes children))) children s refl p.0) refl
fine_step (kind.PrivateProp modifiers readonly declare definite) children shape s p f =
    let k = kind.PrivateProp modifiers readonly declare definite in
    let g = and_parts (not declare) (not modifiers.is_abstract) f in
    rw (g.0, g.1, children_fine (child_shapes k shape (length (nodes children))) children s refl p.0) refl
fine_step (kind.ClassMethod sort' modifiers) children shape s p f =
    let k = kind.ClassMethod sort' modifiers in
    rw (f, children_fine (child_shapes k shape (length (nodes children))) children s refl p.0) refl
fine_step (kind.PrivateMethod sort' modifiers) children shape s p f =
    let k = kind.PrivateMethod sort' modifiers in
    rw (f, children_fine (child_shapes k shape (length (nodes children))) children s refl p.0) refl
fine_step k children shape s p f = children_fine (child_shapes k shape (length (nodes children))) children s refl p.0

good : (n : Node) → Good n
good = ind-Node Good (λ x y is. subst (λ ns. Good (node_of x.span x.kind ns)) (ap (λ z. z.children) is) (λ shape h u f.
    let parts : Node-F Node = record { span = x.span; kind = x.kind; children = nodes y.children } in
    let s = (node_has_shape x.span x.kind (nodes y.children) shape).0 h in
    only_types_go-roll parts
    ∙ fine_step x.kind y.children shape s.1 (usual_parts parts u) (sym (ap (λ p. is_fit p.kind) (out-roll-Node parts)) ∙ f)))

-- a module is fit
module_fit : (k : Kind) → belongs sort.Module k ≡ true → is_fit k ≡ true
module_fit (kind.Module shebang) b = refl
module_fit _ b = absurd (cc)

pub only_types_go_from_modules : OnlyTypesGo
only_types_go_from_modules m h bodies receivers = good m (one sort.Module) h (rw (bodies, receivers) refl) (module_fit (out-Node m).kind (shape_out (one sort.Module) m h).0)
