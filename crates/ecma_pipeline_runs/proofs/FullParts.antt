-- What is there with its body, and what is made of it without types.
use Rattle.std.proofs.Common.{◌≡◌, ℕ, zero, suc, ◌==◌, arith, Bool, true, false, ◌&&◌, ◌||◌, not, cond, filter, List, [], ◌∷◌, map, length, replicate, get_or, Some, refl, sym, ap, ap₂, ◌∙◌, slice_get}
use Rattle.std.proofs.lemmas.Bool.{eqb-true}
use Rattle.std.specs.List.{list_all}
use Rattle.ecma_kind.specs.Sorts.{belongs}
use Rattle.ecma_kind.specs.declared.kind.Kind.{Kind}
use Rattle.ecma_kind.specs.declared.kind.Kind.TheVariants as kind
use Rattle.ecma_kind.specs.declared.shapes.Count.{Count}
use Rattle.ecma_kind.specs.declared.shapes.Shape.{Shape}
use Rattle.ecma_kind.specs.declared.shapes.Sort.{Sort}
use Rattle.ecma_kind.specs.declared.shapes.Sort.TheVariants as sort
use Rattle.ecma_kind.specs.declared.span.Span.{Span}
use Rattle.ecma_tree.specs.declared.node.Node.{Node, out-Node}
use Rattle.ecma_tree.specs.Laws.{HaveShapes}
use Rattle.ecma_tree.specs.Nodes.{absent, dummy_span, node_of}
use Rattle.ecma_tree.specs.Sorted.{HasShape, allows, allows_by, child_shapes, is_absent, is_list, many, maybe, one}
use Rattle.ecma_runs.specs.Evaluation.{meaning}
use Rattle.ecma_runs.specs.Meaning.{Meaning}
use Rattle.ecma_runs.proofs.Layer.{meaning-roll}
use Rattle.ecma_strip.specs.Staying.{is_empty_stmt, is_this, is_this_by, is_this_ident, is_this_param_by, item_stays, member_stays, member_stays_by}
use Rattle.ecma_strip.specs.Stripping.{body_of, plain, plain_children, plain_kind, staying_nodes, stripped, without_empty, without_this}
use Rattle.ecma_strip.proofs.Stripping.{stripped-out}
use Rattle.ecma_strip_runs.specs.UsualBodies.{holds_throughout}
use Rattle.ecma_strip_runs.proofs.Telling.{holds-roll}
use Rattle.ecma_hygiene.proofs.Telling.{and-both, and-left, and-right, true-false}
use Rattle.ecma_hygiene.specs.Renamed.{kind_is_absent}
use Rattle.ecma_hygiene_scopes.proofs.Parts.{kind-of}
use Rattle.ecma_hygiene_runs.specs.Plain.{has_no_receiver}
use Rattle.ecma_strip_scopes.proofs.Going.{parts-have}
use Rattle.ecma_sources.specs.TypesAlone.{is_lowered, is_receiver, lacks_body, lacks_body_by}
use Rattle.ecma_pipeline_runs.proofs.Strays.{is_spared}
use Rattle.ecma_pipeline_runs.proofs.Nodes.{holds-out, none-some, not-false, not-true, some-same}
use Rattle.ecma_pipeline_runs.proofs.Remaining.{all_calm, first_declared, holds_items, is_many, remains, remains_by, restless}
use Rattle.ecma_tree.specs.Values.{is_value, value_by, values_in}
use Rattle.ecma_tree.proofs.Valuing.{is_value-out}

-- what a node lacks when it runs
abbrev pub lacks : Kind → List Meaning → Bool
lacks (kind.FnDecl declare) (name ∷ function ∷ []) = not function.has_body
lacks kind.FnExpr (name ∷ function ∷ []) = not function.has_body
lacks (kind.ClassMethod sort modifiers) (key ∷ function ∷ []) = not function.has_body
lacks (kind.PrivateMethod sort modifiers) (key ∷ function ∷ []) = not function.has_body
lacks (kind.Constructor accessibility is_optional) (key ∷ parameters ∷ body ∷ []) = body.is_absent
lacks (kind.VarDecl word declare) children = declare
lacks k children = false

-- what is lowered, or a name `this`
abbrev pub is_foreign : Kind → Bool
is_foreign (kind.TsEnumDecl declare is_const) = true
is_foreign kind.TsEnumMember = true
is_foreign (kind.TsModuleDecl declare global) = true
is_foreign (kind.TsNamespaceDecl declare global) = true
is_foreign (kind.TsImportEqualsDecl is_export is_type_only) = true
is_foreign k = is_this_ident k

pub native : (k : Kind) → is_lowered k ≡ false → is_this_ident k ≡ false → is_foreign k ≡ false
native (kind.TsEnumDecl declare is_const) low other = low
native kind.TsEnumMember low other = low
native (kind.TsModuleDecl declare global) low other = low
native (kind.TsNamespaceDecl declare global) low other = low
native (kind.TsImportEqualsDecl is_export is_type_only) low other = low
native _ low other = other

abbrev pub full_by : Kind → List Node → Bool
full_by k cs = not (is_foreign k) && (not (lacks k (map meaning cs)) && has_no_receiver k cs)

abbrev pub is_full : Node → Bool
is_full = holds_throughout full_by

-- ---- bodies

block-there : (span : Span) (cs : List Node) → (meaning (node_of span kind.BlockStmt cs)).is_absent ≡ false
block-there span cs = ap (λ (m : Meaning). m.is_absent) (meaning-roll (record { span = span; kind = kind.BlockStmt; children = cs }))

body-by : (span : Span) (k : Kind) (cs : List Node) (vs : List Bool) → allows (maybe sort.BlockStmt) k ≡ true → value_by k vs ≡ true → (meaning (plain span k cs)).is_absent ≡ false
unfolding plain plain_kind plain_children value_by
body-by span kind.Absent cs vs a v = absurd (true-false v refl)
body-by span kind.BlockStmt cs vs a v = block-there span _
body-by span _ cs vs a v = absurd (true-false a refl)

body-there : (b : Node) → HasShape (maybe sort.BlockStmt) b → is_value b ≡ true → (meaning (stripped b)).is_absent ≡ false
body-there b has v =
    ap (λ (z : Node). (meaning z).is_absent) (stripped-out b)
    ∙ body-by (out-Node b).span (out-Node b).kind (map stripped (staying_nodes (out-Node b).kind (out-Node b).children)) (values_in true (out-Node b).kind (out-Node b).children) (parts-have b (maybe sort.BlockStmt) has).0 (sym (is_value-out b) ∙ v)

function-of : (span : Span) (g a : Bool) (p b t r : Node) → (meaning b).is_absent ≡ false → (meaning (node_of span (kind.Function g a) (p ∷ b ∷ t ∷ r ∷ []))).has_body ≡ true
function-of span g a p b t r h = ap (λ (m : Meaning). m.has_body) (meaning-roll (record { span = span; kind = kind.Function g a; children = p ∷ b ∷ t ∷ r ∷ [] })) ∙ ap not h

function-by : (span : Span) (k : Kind) (cs : List Node) → allows (one sort.Function) k ≡ true → HaveShapes (child_shapes k (one sort.Function) (length cs)) cs → value_by k (values_in true k cs) ≡ true
    → (meaning (plain span k (map stripped (staying_nodes k cs)))).has_body ≡ true
unfolding plain plain_kind plain_children value_by
function-by span (kind.Function g a) (p ∷ b ∷ t ∷ r ∷ []) is have v = function-of span g a (stripped p) (stripped b) (stripped t) (stripped r) (body-there b have.1.0 v)
function-by span (kind.Function g a) [] is have v = absurd have
function-by span (kind.Function g a) (p ∷ []) is have v = absurd have.1
function-by span (kind.Function g a) (p ∷ b ∷ []) is have v = absurd have.1.1
function-by span (kind.Function g a) (p ∷ b ∷ t ∷ []) is have v = absurd have.1.1.1
function-by span (kind.Function g a) (p ∷ b ∷ t ∷ r ∷ u ∷ cs) is have v = absurd have.1.1.1.1
function-by span _ cs is have v = absurd (true-false is refl)

function-there : (f : Node) → HasShape (one sort.Function) f → is_value f ≡ true → (meaning (stripped f)).has_body ≡ true
function-there f has v =
    let parts = parts-have f (one sort.Function) has in
    ap (λ (z : Node). (meaning z).has_body) (stripped-out f) ∙ function-by (out-Node f).span (out-Node f).kind (out-Node f).children parts.0 parts.1 (sym (is_value-out f) ∙ v)

-- ---- nodes that are there with their bodies

abbrev pub alive_by : Kind → List Node → Bool
alive_by (kind.FnDecl declare) cs = get_or (map is_value cs) 1 false
alive_by kind.FnExpr cs = get_or (map is_value cs) 1 false
alive_by (kind.ClassMethod sort modifiers) cs = get_or (map is_value cs) 1 false
alive_by (kind.PrivateMethod sort modifiers) cs = get_or (map is_value cs) 1 false
alive_by (kind.Constructor accessibility is_optional) cs = get_or (map is_value cs) 2 false
alive_by (kind.VarDecl word declare) cs = not declare
alive_by k cs = true

abbrev pub alive : Node → Bool
alive n = alive_by (out-Node n).kind (out-Node n).children

alive-of : (n : Node) (k : Kind) (value ambient : Bool) → value ≡ value_by k (values_in true k (out-Node n).children) → remains_by k value ambient ≡ true → member_stays_by k n ≡ true → lacks_body_by k value ≡ false → alive_by k (out-Node n).children ≡ true
unfolding value_by member_stays_by
alive-of n (kind.FnDecl true) value ambient is r m b = absurd (true-false (and-right value false r) refl)
alive-of n (kind.FnDecl false) value ambient is r m b = sym is ∙ and-left value true r
alive-of n kind.FnExpr value ambient is r m b = sym is ∙ not-false value b
alive-of n (kind.ClassMethod s o) value ambient is r m b = and-right (not o.is_abstract) (get_or (map is_value (out-Node n).children) 1 false) m
alive-of n (kind.PrivateMethod s o) value ambient is r m b = and-right (not o.is_abstract) (get_or (map is_value (out-Node n).children) 1 false) m
alive-of n (kind.Constructor a o) value ambient is r m b = m
alive-of n (kind.VarDecl w d) value ambient is r m b = r
alive-of n _ value ambient is r m b = refl

pub alive-from : (n : Node) → remains n ≡ true → member_stays n ≡ true → lacks_body n ≡ false → alive n ≡ true
alive-from n = alive-of n (out-Node n).kind (is_value n) (first_declared (out-Node n).children) (is_value-out n)

-- ---- members stand in lists alone

abbrev pub is_member_sort : Sort → Bool
is_member_sort sort.ClassMember = true
is_member_sort _ = false

abbrev pub is_memberless : Shape → Bool
is_memberless o = is_many o.count || not (is_member_sort o.sort)

index-member : (r d : Bool) (σ : Sort) → belongs σ (kind.TsIndexSignature r d) ≡ true → is_member_sort σ ≡ true
index-member r d sort.Program h = absurd (true-false h refl)
index-member r d _ h = cc

pub member-by : (n : Node) (k : Kind) (c : Count) (σ : Sort) → (is_many c || not (is_member_sort σ)) ≡ true → allows_by c σ k ≡ true → member_stays_by k n ≡ true
unfolding member_stays_by
member-by n (kind.TsIndexSignature r d) c σ calm a = absurd (restless is_member_sort (kind.TsIndexSignature r d) (index-member r d) refl refl c σ calm a)
member-by n (kind.Constructor x o) c σ calm a = absurd (restless is_member_sort (kind.Constructor x o) only refl refl c σ calm a)
  where
    only : (σ : Sort) → belongs σ (kind.Constructor x o) ≡ true → is_member_sort σ ≡ true
    only sort.Program h = absurd (true-false h refl)
    only _ h = cc
member-by n (kind.ClassMethod x o) c σ calm a = absurd (restless is_member_sort (kind.ClassMethod x o) only refl refl c σ calm a)
  where
    only : (σ : Sort) → belongs σ (kind.ClassMethod x o) ≡ true → is_member_sort σ ≡ true
    only sort.Program h = absurd (true-false h refl)
    only _ h = cc
member-by n (kind.PrivateMethod x o) c σ calm a = absurd (restless is_member_sort (kind.PrivateMethod x o) only refl refl c σ calm a)
  where
    only : (σ : Sort) → belongs σ (kind.PrivateMethod x o) ≡ true → is_member_sort σ ≡ true
    only sort.Program h = absurd (true-false h refl)
    only _ h = cc
member-by n (kind.ClassProp o r d e) c σ calm a = absurd (restless is_member_sort (kind.ClassProp o r d e) only refl refl c σ calm a)
  where
    only : (σ : Sort) → belongs σ (kind.ClassProp o r d e) ≡ true → is_member_sort σ ≡ true
    only sort.Program h = absurd (true-false h refl)
    only _ h = cc
member-by n (kind.PrivateProp o r d e) c σ calm a = absurd (restless is_member_sort (kind.PrivateProp o r d e) only refl refl c σ calm a)
  where
    only : (σ : Sort) → belongs σ (kind.PrivateProp o r d e) ≡ true → is_member_sort σ ≡ true
    only sort.Program h = absurd (true-false h refl)
    only _ h = cc
member-by n _ c σ calm a = refl

abbrev pub all_memberless : List Shape → Bool
all_memberless [] = true
all_memberless (o ∷ os) = is_memberless o && all_memberless os

pub memberless-at : (os : List Shape) (i : ℕ) (o : Shape) → all_memberless os ≡ true → slice_get os i ≡ Some o → is_memberless o ≡ true
memberless-at [] i o h at = none-some at
memberless-at (x ∷ xs) zero o h at = ap is_memberless (sym (some-same at)) ∙ and-left (is_memberless x) (all_memberless xs) h
memberless-at (x ∷ xs) (suc i) o h at = memberless-at xs i o (and-right (is_memberless x) (all_memberless xs) h) at

expressions-memberless : (n : ℕ) → all_memberless (replicate n (one sort.Expr)) ≡ true
expressions-memberless zero = refl
expressions-memberless (suc n) = expressions-memberless n

expressions-calm : (n : ℕ) → all_calm (replicate n (one sort.Expr)) ≡ true
expressions-calm zero = refl
expressions-calm (suc n) = expressions-calm n

pub children-memberless : (k : Kind) (s : Shape) (m : ℕ) → is_list k ≡ false → all_memberless (child_shapes k s m) ≡ true
children-memberless kind.List s m l = absurd (true-false refl l)
children-memberless kind.SeqExpr s zero l = refl
children-memberless kind.SeqExpr s (suc m) l = expressions-memberless m
children-memberless _ s m l = refl

pub others-calm : (k : Kind) (s : Shape) (m : ℕ) → is_list k ≡ false → holds_items k ≡ false → all_calm (child_shapes k s m) ≡ true
others-calm kind.List s m l h = absurd (true-false refl l)
others-calm kind.SeqExpr s zero l h = refl
others-calm kind.SeqExpr s (suc m) l h = expressions-calm m
others-calm (kind.ImportDecl t) s m l h = absurd (true-false refl h)
others-calm kind.ExportDecl s m l h = absurd (true-false refl h)
others-calm kind.IfStmt s m l h = absurd (true-false refl h)
others-calm kind.LabeledStmt s m l h = absurd (true-false refl h)
others-calm kind.WhileStmt s m l h = absurd (true-false refl h)
others-calm kind.DoWhileStmt s m l h = absurd (true-false refl h)
others-calm kind.ForStmt s m l h = absurd (true-false refl h)
others-calm kind.ForInStmt s m l h = absurd (true-false refl h)
others-calm (kind.ForOfStmt w) s m l h = absurd (true-false refl h)
others-calm _ s m l h = refl

-- ---- what is made of full children

pub full-of : (span : Span) (k : Kind) (cs : List Node) → full_by k cs ≡ true → list_all is_full cs ≡ true → is_full (node_of span k cs) ≡ true
full-of span k cs h hs = holds-roll full_by (record { span = span; kind = k; children = cs }) ∙ and-both (full_by k cs) (list_all is_full cs) h hs

pub absent-full : is_full absent ≡ true
absent-full = full-of dummy_span kind.Absent [] refl refl

filter-full : (p : Node → Bool) (cs : List Node) → list_all is_full cs ≡ true → list_all is_full (filter p cs) ≡ true
filter-full p [] h = refl
filter-full p (c ∷ cs) h = by (p c) (filter-full p cs (and-right (is_full c) (list_all is_full cs) h))
  where
    by : (b : Bool) → list_all is_full (filter p cs) ≡ true → list_all is_full (cond b (c ∷ filter p cs) (filter p cs)) ≡ true
    by true rest = and-both (is_full c) (list_all is_full (filter p cs)) (and-left (is_full c) (list_all is_full cs) h) rest
    by false rest = rest

body-full : (x : Node) → is_full x ≡ true → is_full (body_of x) ≡ true
body-full x h = by (item_stays x)
  where
    by : (b : Bool) → is_full (cond b x (node_of (out-Node x).span kind.EmptyStmt [])) ≡ true
    by true = h
    by false = full-of (out-Node x).span kind.EmptyStmt [] refl refl

lone-full : (x : Node) → (is_absent (out-Node x).kind ≡ true → is_full x ≡ true) → is_full (without_this x) ≡ true
lone-full x h = by (is_absent (out-Node x).kind) refl
  where
    by : (b : Bool) → is_absent (out-Node x).kind ≡ b → is_full (cond b x absent) ≡ true
    by true is = h is
    by false is = absent-full

list-full : (x : Node) → is_list (out-Node x).kind ≡ true → is_full x ≡ true → is_full (without_empty x) ≡ true
list-full x l h =
    by (out-Node x).kind l (filter-full (λ n. not (is_empty_stmt (out-Node n).kind)) (out-Node x).children
    (and-right (full_by (out-Node x).kind (out-Node x).children) (list_all is_full (out-Node x).children) (sym (holds-out full_by x) ∙ h)))
  where
    by : (k : Kind) → is_list k ≡ true → list_all is_full (filter (λ n. not (is_empty_stmt (out-Node n).kind)) (out-Node x).children) ≡ true
        → is_full (node_of (out-Node x).span k (filter (λ n. not (is_empty_stmt (out-Node n).kind)) (out-Node x).children)) ≡ true
    by kind.List l hs = full-of (out-Node x).span kind.List (filter (λ n. not (is_empty_stmt (out-Node n).kind)) (out-Node x).children) refl hs
    by _ l hs = absurd (true-false l refl)

list-by : (span : Span) (k : Kind) (cs : List Node) → is_list k ≡ true → is_list (out-Node (plain span k cs)).kind ≡ true
unfolding plain plain_kind plain_children
list-by span kind.List cs l = ap is_list (kind-of span kind.List cs)
list-by span _ cs l = absurd (true-false l refl)

stripped-list : (x : Node) (σ : Sort) → HasShape (many σ) x → is_list (out-Node (stripped x)).kind ≡ true
stripped-list x σ has =
    ap (λ (z : Node). is_list (out-Node z).kind) (stripped-out x) ∙ list-by (out-Node x).span (out-Node x).kind (map stripped (staying_nodes (out-Node x).kind (out-Node x).children)) (parts-have x (many σ) has).0

first-full : (to : Node → Node) (a : Node) (cs : List Node) → (is_full a ≡ true → is_full (to a) ≡ true) → list_all is_full (a ∷ cs) ≡ true → list_all is_full (to a ∷ cs) ≡ true
first-full to a cs keeps h = and-both (is_full (to a)) (list_all is_full cs) (keeps (and-left (is_full a) (list_all is_full cs) h)) (and-right (is_full a) (list_all is_full cs) h)

second-full : (to : Node → Node) (a b : Node) (cs : List Node) → (is_full b ≡ true → is_full (to b) ≡ true) → list_all is_full (a ∷ b ∷ cs) ≡ true → list_all is_full (a ∷ to b ∷ cs) ≡ true
second-full to a b cs keeps h =
    and-both (is_full a) (list_all is_full (to b ∷ cs)) (and-left (is_full a) (list_all is_full (b ∷ cs)) h) (first-full to b cs keeps (and-right (is_full a) (list_all is_full (b ∷ cs)) h))

third-full : (to : Node → Node) (a b c : Node) (cs : List Node) → (is_full c ≡ true → is_full (to c) ≡ true) → list_all is_full (a ∷ b ∷ c ∷ cs) ≡ true → list_all is_full (a ∷ b ∷ to c ∷ cs) ≡ true
third-full to a b c cs keeps h =
    and-both (is_full a) (list_all is_full (b ∷ to c ∷ cs)) (and-left (is_full a) (list_all is_full (b ∷ c ∷ cs)) h) (second-full to b c cs keeps (and-right (is_full a) (list_all is_full (b ∷ c ∷ cs)) h))

fourth-full : (to : Node → Node) (a b c d : Node) (cs : List Node) → (is_full d ≡ true → is_full (to d) ≡ true) → list_all is_full (a ∷ b ∷ c ∷ d ∷ cs) ≡ true → list_all is_full (a ∷ b ∷ c ∷ to d ∷ cs) ≡ true
fourth-full to a b c d cs keeps h =
    and-both (is_full a) (list_all is_full (b ∷ c ∷ to d ∷ cs)) (and-left (is_full a) (list_all is_full (b ∷ c ∷ d ∷ cs)) h) (third-full to b c d cs keeps (and-right (is_full a) (list_all is_full (b ∷ c ∷ d ∷ cs)) h))

pub plain-full : (k : Kind) (s : Shape) (m : ℕ) (cs : List Node) → HaveShapes (child_shapes k s m) cs → list_all is_full (map stripped cs) ≡ true → list_all is_full (plain_children k (map stripped cs)) ≡ true
unfolding plain_children
plain-full (kind.Module x) s m (a ∷ cs) have h = first-full without_empty (stripped a) (map stripped cs) (list-full (stripped a) (stripped-list a sort.ModuleItem have.0)) h
plain-full (kind.Module x) s m [] have h = refl
plain-full (kind.Script x) s m (a ∷ cs) have h = first-full without_empty (stripped a) (map stripped cs) (list-full (stripped a) (stripped-list a sort.Stmt have.0)) h
plain-full (kind.Script x) s m [] have h = refl
plain-full kind.BlockStmt s m (a ∷ cs) have h = first-full without_empty (stripped a) (map stripped cs) (list-full (stripped a) (stripped-list a sort.Stmt have.0)) h
plain-full kind.BlockStmt s m [] have h = refl
plain-full kind.TsModuleBlock s m (a ∷ cs) have h = first-full without_empty (stripped a) (map stripped cs) (list-full (stripped a) (stripped-list a sort.ModuleItem have.0)) h
plain-full kind.TsModuleBlock s m [] have h = refl
plain-full kind.SwitchCase s m (a ∷ b ∷ cs) have h = second-full without_empty (stripped a) (stripped b) (map stripped cs) (list-full (stripped b) (stripped-list b sort.Stmt have.1.0)) h
plain-full kind.SwitchCase s m [] have h = refl
plain-full kind.SwitchCase s m (a ∷ []) have h = h
plain-full kind.IfStmt s m (a ∷ b ∷ c ∷ cs) have h =
    second-full body_of (stripped a) (stripped b) (body_of (stripped c) ∷ map stripped cs) (body-full (stripped b)) (third-full body_of (stripped a) (stripped b) (stripped c) (map stripped cs) (body-full (stripped c)) h)
plain-full kind.IfStmt s m [] have h = refl
plain-full kind.IfStmt s m (a ∷ []) have h = h
plain-full kind.IfStmt s m (a ∷ b ∷ []) have h = second-full body_of (stripped a) (stripped b) [] (body-full (stripped b)) h
plain-full kind.LabeledStmt s m (a ∷ b ∷ cs) have h = second-full body_of (stripped a) (stripped b) (map stripped cs) (body-full (stripped b)) h
plain-full kind.LabeledStmt s m [] have h = refl
plain-full kind.LabeledStmt s m (a ∷ []) have h = h
plain-full kind.WhileStmt s m (a ∷ b ∷ cs) have h = second-full body_of (stripped a) (stripped b) (map stripped cs) (body-full (stripped b)) h
plain-full kind.WhileStmt s m [] have h = refl
plain-full kind.WhileStmt s m (a ∷ []) have h = h
plain-full kind.DoWhileStmt s m (a ∷ b ∷ cs) have h = second-full body_of (stripped a) (stripped b) (map stripped cs) (body-full (stripped b)) h
plain-full kind.DoWhileStmt s m [] have h = refl
plain-full kind.DoWhileStmt s m (a ∷ []) have h = h
plain-full kind.ForStmt s m (a ∷ b ∷ c ∷ d ∷ cs) have h = fourth-full body_of (stripped a) (stripped b) (stripped c) (stripped d) (map stripped cs) (body-full (stripped d)) h
plain-full kind.ForStmt s m [] have h = refl
plain-full kind.ForStmt s m (a ∷ []) have h = h
plain-full kind.ForStmt s m (a ∷ b ∷ []) have h = h
plain-full kind.ForStmt s m (a ∷ b ∷ c ∷ []) have h = h
plain-full kind.ForInStmt s m (a ∷ b ∷ c ∷ cs) have h = third-full body_of (stripped a) (stripped b) (stripped c) (map stripped cs) (body-full (stripped c)) h
plain-full kind.ForInStmt s m [] have h = refl
plain-full kind.ForInStmt s m (a ∷ []) have h = h
plain-full kind.ForInStmt s m (a ∷ b ∷ []) have h = h
plain-full (kind.ForOfStmt w) s m (a ∷ b ∷ c ∷ cs) have h = third-full body_of (stripped a) (stripped b) (stripped c) (map stripped cs) (body-full (stripped c)) h
plain-full (kind.ForOfStmt w) s m [] have h = refl
plain-full (kind.ForOfStmt w) s m (a ∷ []) have h = h
plain-full (kind.ForOfStmt w) s m (a ∷ b ∷ []) have h = h
plain-full kind.SetterProp s m (a ∷ b ∷ cs) have h = second-full without_this (stripped a) (stripped b) (map stripped cs) (λ full. lone-full (stripped b) (λ is. full)) h
plain-full kind.SetterProp s m [] have h = refl
plain-full kind.SetterProp s m (a ∷ []) have h = h
plain-full _ s m cs have h = h

all-full : (cs : List Node) → ((j : ℕ) (c : Node) → slice_get cs j ≡ Some c → is_full (stripped c) ≡ true) → list_all is_full (map stripped cs) ≡ true
all-full [] each = refl
all-full (c ∷ cs) each = and-both (is_full (stripped c)) (list_all is_full (map stripped cs)) (each 0 c refl) (all-full cs (λ j d at. each (suc j) d at))

-- where nothing is asked of the `this` of a setter, which goes, if it is one
pub spared-full : (k : Kind) (s : Shape) (m : ℕ) (cs : List Node) → HaveShapes (child_shapes k s m) cs
    → ((j : ℕ) (c : Node) → slice_get cs j ≡ Some c → is_spared k j ≡ false → is_full (stripped c) ≡ true)
    → ((c : Node) → is_absent (out-Node (stripped c)).kind ≡ true → slice_get cs 1 ≡ Some c → is_full (stripped c) ≡ true)
    → list_all is_full (plain_children k (map stripped cs)) ≡ true
unfolding plain_children
spared-full kind.SetterProp s m [] have each lone = refl
spared-full kind.SetterProp s m (a ∷ []) have each lone = all-full (a ∷ []) (λ j c at. first j c at)
  where
    first : (j : ℕ) (c : Node) → slice_get (a ∷ []) j ≡ Some c → is_full (stripped c) ≡ true
    first zero c at = each 0 c at refl
    first (suc j) c at = none-some at
spared-full kind.SetterProp s m (a ∷ b ∷ cs) have each lone =
    and-both (is_full (stripped a)) (list_all is_full (without_this (stripped b) ∷ map stripped cs)) (each 0 a refl refl)
    (and-both (is_full (without_this (stripped b))) (list_all is_full (map stripped cs)) (lone-full (stripped b) (λ is. lone b is refl))
    (all-full cs (λ j c at. each (suc (suc j)) c at (behind j))))
  where
    never : (j : ℕ) → suc (suc j) ≡ 1 → ⊥
    never j h = omega arith

    behind : (j : ℕ) → (suc (suc j) == 1) ≡ false
    behind j = by (suc (suc j) == 1) refl
      where
        by : (b : Bool) → (suc (suc j) == 1) ≡ b → b ≡ false
        by false h = refl
        by true h = absurd (never j (eqb-true (suc (suc j)) 1 h))
spared-full k s m cs have each lone = plain-full k s m cs have (all-full cs (λ j c at. each j c at refl))

-- what is left of a parameter `this` is there
receiver-there : (x : Node) → is_receiver x ≡ true → is_absent (out-Node (stripped x)).kind ≡ true → ⊥
unfolding plain plain_kind plain_children
receiver-there x is gone = by (out-Node x).kind refl
  where
    named : (k : Kind) → (out-Node x).kind ≡ k → is_absent (out-Node (plain (out-Node x).span k (map stripped (staying_nodes k (out-Node x).children)))).kind ≡ true
    named k e = ap (λ (z : Kind). is_absent (out-Node (plain (out-Node x).span z (map stripped (staying_nodes z (out-Node x).children)))).kind) (sym e) ∙ sym (ap (λ (z : Node). is_absent (out-Node z).kind) (stripped-out x)) ∙ gone

    other : (k : Kind) → (out-Node x).kind ≡ k → is_this_ident k ≡ false → is_this_param_by k x ≡ is_this x → is_this_by k x ≡ false → ⊥
    other k e ident param bound =
        true-false is (ap₂ (λ (p q : Bool). p || q) (ap is_this_ident e ∙ ident) (ap (λ (z : Kind). is_this_param_by z x) e ∙ param ∙ ap (λ (z : Kind). is_this_by z x) e ∙ bound))

    by : (k : Kind) → (out-Node x).kind ≡ k → ⊥
    by (kind.Ident s c o) e = true-false (named (kind.Ident s c o) e) (ap is_absent (kind-of (out-Node x).span (kind.Ident s c false) _))
    by kind.BindingIdent e = true-false (named kind.BindingIdent e) (ap is_absent (kind-of (out-Node x).span kind.BindingIdent _))
    by kind.Param e = true-false (named kind.Param e) (ap is_absent (kind-of (out-Node x).span kind.Param _))
    by k e = other k e refl refl refl

pub absent-other : (x : Node) → is_absent (out-Node (stripped x)).kind ≡ true → is_receiver x ≡ false
absent-other x gone = by (is_receiver x) refl
  where
    by : (b : Bool) → is_receiver x ≡ b → b ≡ false
    by false is = refl
    by true is = absurd (receiver-there x is gone)

lone-absent : (x : Node) → kind_is_absent (without_this x) ≡ true
lone-absent x = by (is_absent (out-Node x).kind) refl
  where
    by : (b : Bool) → is_absent (out-Node x).kind ≡ b → kind_is_absent (cond b x absent) ≡ true
    by true e = e
    by false e = ap is_absent (kind-of dummy_span kind.Absent [])

-- the node itself
pub full-here : (k : Kind) (s : Shape) (m : ℕ) (cs : List Node) → HaveShapes (child_shapes k s m) cs → is_foreign k ≡ false → alive_by k cs ≡ true → full_by (plain_kind k) (plain_children k (map stripped cs)) ≡ true
unfolding plain_children plain_kind
full-here (kind.FnDecl d) s m (a ∷ f ∷ []) have low live = rw (function-there f have.1.0 live) refl
full-here (kind.FnDecl d) s m [] have low live = absurd have
full-here (kind.FnDecl d) s m (a ∷ []) have low live = absurd have.1
full-here (kind.FnDecl d) s m (a ∷ f ∷ g ∷ cs) have low live = absurd have.1.1
full-here kind.FnExpr s m (a ∷ f ∷ []) have low live = rw (function-there f have.1.0 live) refl
full-here kind.FnExpr s m [] have low live = absurd have
full-here kind.FnExpr s m (a ∷ []) have low live = absurd have.1
full-here kind.FnExpr s m (a ∷ f ∷ g ∷ cs) have low live = absurd have.1.1
full-here (kind.ClassMethod x o) s m (a ∷ f ∷ []) have low live = rw (function-there f have.1.0 live) refl
full-here (kind.ClassMethod x o) s m [] have low live = absurd have
full-here (kind.ClassMethod x o) s m (a ∷ []) have low live = absurd have.1
full-here (kind.ClassMethod x o) s m (a ∷ f ∷ g ∷ cs) have low live = absurd have.1.1
full-here (kind.PrivateMethod x o) s m (a ∷ f ∷ []) have low live = rw (function-there f have.1.0 live) refl
full-here (kind.PrivateMethod x o) s m [] have low live = absurd have
full-here (kind.PrivateMethod x o) s m (a ∷ []) have low live = absurd have.1
full-here (kind.PrivateMethod x o) s m (a ∷ f ∷ g ∷ cs) have low live = absurd have.1.1
full-here (kind.Constructor x o) s m (a ∷ p ∷ b ∷ []) have low live = rw (body-there b have.1.1.0 live) refl
full-here (kind.Constructor x o) s m [] have low live = absurd have
full-here (kind.Constructor x o) s m (a ∷ []) have low live = absurd have.1
full-here (kind.Constructor x o) s m (a ∷ p ∷ []) have low live = absurd have.1.1
full-here (kind.Constructor x o) s m (a ∷ p ∷ b ∷ c ∷ cs) have low live = absurd have.1.1.1
full-here (kind.VarDecl w d) s m cs have low live = rw (not-true d live) refl
full-here kind.SetterProp s m (a ∷ b ∷ cs) have low live = lone-absent (stripped b)
full-here kind.SetterProp s m [] have low live = absurd have
full-here kind.SetterProp s m (a ∷ []) have low live = absurd have.1
full-here (kind.Ident x c o) s m cs have low live = rw (low) refl
full-here (kind.TsEnumDecl d e) s m cs have low live = absurd (true-false refl low)
full-here kind.TsEnumMember s m cs have low live = absurd (true-false refl low)
full-here (kind.TsModuleDecl d g) s m cs have low live = absurd (true-false refl low)
full-here (kind.TsNamespaceDecl d g) s m cs have low live = absurd (true-false refl low)
full-here (kind.TsImportEqualsDecl e t) s m cs have low live = absurd (true-false refl low)
full-here _ s m cs have low live = refl
