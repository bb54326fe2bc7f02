-- Where what is looked for does not stay, nothing that is found does.
use Rattle.std.proofs.Common.{◌≡◌, ℕ, suc, ◌==◌, Bool, true, false, cond, filter, List, [], ◌∷◌, ◌++◌, map, Option, Some, None, refl, sym, ap, ◌∙◌, subst}
use Rattle.std.specs.List.{All}
use Rattle.std.proofs.lemmas.List.Elements.{All-cons, All-nil}
use Rattle.ecma_kind.specs.declared.kind.Kind.{Kind}
use Rattle.ecma_kind.specs.declared.kind.Kind.TheVariants as kind
use Rattle.ecma_kind.specs.declared.operators.VarDeclKind.TheVariants as var_kind
use Rattle.ecma_tree.specs.declared.node.Node.{Node, Node-F, ind-Node, out-Node, roll-Node}
use Rattle.ecma_tree.specs.declared.node.Node.TheViews.{out-roll-Node}
use Rattle.ecma_tree.specs.Values.{is_value_where}
use Rattle.ecma_scope.specs.declared.form.Form.{Form}
use Rattle.ecma_scope.specs.declared.form.Part.{Part}
use Rattle.ecma_scope.specs.declared.form.Part.TheVariants as part
use Rattle.ecma_scope.specs.declared.form.Sought.{Sought}
use Rattle.ecma_scope.specs.Declarations.{in_default, in_item, in_member, in_name, in_scope, in_var, sought_by, sought_in}
use Rattle.ecma_hygiene_scopes.specs.DeclaredIds.{DeclaredId, id_here, ids_at, ids_declared, ids_in}
use Rattle.ecma_hygiene_scopes.proofs.Directly.{ids-out}

-- ---- what is looked for further in

pub gone-some : (p : Part) (s : Bool) (q : Sought) → s ≡ false → ◌≡◌ {A = Option Sought} (Some (record { part = p; stays = s })) (Some q) → q.stays ≡ false
gone-some p s q gone h = sym (ap (λ (o : Option Sought). elim o [ Some x ↦ x.stays | None ↦ false ]) h) ∙ gone

pub none-some : {A : Type 0} (q : Sought) → ◌≡◌ {A = Option Sought} None (Some q) → A
none-some q h = absurd (no h)
  where
    no : ◌≡◌ {A = Option Sought} None (Some q) → ⊥
    no h = cc

pub gone-at : (b : Bool) (p : Part) (s : Bool) (q : Sought) → s ≡ false → ◌≡◌ {A = Option Sought} (cond b (Some (record { part = p; stays = s })) None) (Some q) → q.stays ≡ false
gone-at true p s q gone h = gone-some p s q gone h
gone-at false p s q gone h = none-some q h

pub gone-both : (a b : Bool) (p : Part) (s : Bool) (q : Sought) → s ≡ false → ◌≡◌ {A = Option Sought} (cond a (cond b (Some (record { part = p; stays = s })) None) None) (Some q) → q.stays ≡ false
gone-both true b p s q gone h = gone-at b p s q gone h
gone-both false b p s q gone h = none-some q h

gone-name : (f : Form) (k : Kind) (i : ℕ) (q : Sought) → in_name f false k i ≡ Some q → q.stays ≡ false
unfolding in_name
gone-name f kind.List i q h = gone-some _ _ q refl h
gone-name f kind.BindingIdent i q h = gone-at (i == 0) _ _ q refl h
gone-name f kind.Param i q h = gone-at (i == 0) _ _ q refl h
gone-name f (kind.TsParamProp a o r) i q h = gone-at (i == 0) _ _ q refl h
gone-name f (kind.VarDeclarator d) i q h = gone-at (i == 0) _ _ q refl h
gone-name f (kind.ArrayPat o) i q h = gone-at (i == 0) _ _ q refl h
gone-name f (kind.ObjectPat o) i q h = gone-at (i == 0) _ _ q refl h
gone-name f kind.RestPat i q h = gone-at (i == 0) _ _ q refl h
gone-name f kind.AssignPat i q h = gone-at (i == 0) _ _ q refl h
gone-name f kind.AssignPatProp i q h = gone-at (i == 0) _ _ q refl h
gone-name f kind.KeyValuePatProp i q h = gone-at (i == 1) _ _ q refl h
gone-name f _ i q h = none-some q h

gone-var : (k : Kind) (q : Sought) → in_var false k ≡ Some q → q.stays ≡ false
unfolding in_var
gone-var (kind.VarDecl var_kind.Var d) q h = gone-some _ _ q refl h
gone-var (kind.VarDecl _ d) q h = none-some q h
gone-var kind.List q h = gone-some _ _ q refl h
gone-var (kind.Module s) q h = gone-some _ _ q refl h
gone-var (kind.Script s) q h = gone-some _ _ q refl h
gone-var kind.TsModuleBlock q h = gone-some _ _ q refl h
gone-var kind.ExportDecl q h = gone-some _ _ q refl h
gone-var kind.BlockStmt q h = gone-some _ _ q refl h
gone-var kind.IfStmt q h = gone-some _ _ q refl h
gone-var kind.ForStmt q h = gone-some _ _ q refl h
gone-var kind.ForInStmt q h = gone-some _ _ q refl h
gone-var (kind.ForOfStmt a) q h = gone-some _ _ q refl h
gone-var kind.WhileStmt q h = gone-some _ _ q refl h
gone-var kind.DoWhileStmt q h = gone-some _ _ q refl h
gone-var kind.LabeledStmt q h = gone-some _ _ q refl h
gone-var kind.TryStmt q h = gone-some _ _ q refl h
gone-var kind.CatchClause q h = gone-some _ _ q refl h
gone-var kind.SwitchStmt q h = gone-some _ _ q refl h
gone-var kind.SwitchCase q h = gone-some _ _ q refl h
gone-var _ q h = none-some q h

gone-item : (v : Bool) (k : Kind) (i : ℕ) (q : Sought) → in_item false v k i ≡ Some q → q.stays ≡ false
unfolding in_item
gone-item v kind.List i q h = gone-some _ _ q refl h
gone-item v kind.SwitchCase i q h = gone-at (i == 1) _ _ q refl h
gone-item v kind.ExportDecl i q h = gone-some _ _ q refl h
gone-item v kind.ExportDefaultDecl i q h = gone-some _ _ q refl h
gone-item v (kind.ImportDecl t) i q h = gone-at (i == 0) _ _ q refl h
gone-item v (kind.ImportNamedSpecifier t) i q h = gone-at (i == 0) _ _ q refl h
gone-item v kind.ImportDefaultSpecifier i q h = gone-some _ _ q refl h
gone-item v kind.ImportStarAsSpecifier i q h = gone-some _ _ q refl h
gone-item v (kind.TsImportEqualsDecl e t) i q h = gone-at (i == 0) _ _ q refl h
gone-item v (kind.VarDecl var_kind.Let d) i q h = gone-some _ _ q refl h
gone-item v (kind.VarDecl var_kind.Const d) i q h = gone-some _ _ q refl h
gone-item v (kind.VarDecl _ d) i q h = none-some q h
gone-item v (kind.FnDecl d) i q h = gone-at (i == 0) _ _ q refl h
gone-item v (kind.ClassDecl d) i q h = gone-at (i == 0) _ _ q refl h
gone-item v (kind.TsEnumDecl d c) i q h = gone-at (i == 0) _ _ q refl h
gone-item v (kind.TsModuleDecl d false) i q h = gone-both v (i == 0) _ _ q refl h
gone-item v (kind.TsModuleDecl d true) i q h = none-some q h
gone-item v _ i q h = none-some q h

gone-default : (v : Bool) (k : Kind) (i : ℕ) (q : Sought) → in_default false v k i ≡ Some q → q.stays ≡ false
unfolding in_default
gone-default v kind.FnExpr i q h = gone-at (i == 0) _ _ q refl h
gone-default v kind.ClassExpr i q h = gone-at (i == 0) _ _ q refl h
gone-default v _ i q h = none-some q h

gone-member : (k : Kind) (i : ℕ) (q : Sought) → in_member false k i ≡ Some q → q.stays ≡ false
unfolding in_member
gone-member kind.List i q h = gone-some _ _ q refl h
gone-member kind.TsEnumMember i q h = gone-at (i == 0) _ _ q refl h
gone-member _ i q h = none-some q h

gone-scope : (v : Bool) (k : Kind) (i : ℕ) (q : Sought) → in_scope false v k i ≡ Some q → q.stays ≡ false
unfolding in_scope
gone-scope v (kind.Module s) i q h = gone-some _ _ q refl h
gone-scope v (kind.Script s) i q h = gone-some _ _ q refl h
gone-scope v kind.TsModuleBlock i q h = gone-some _ _ q refl h
gone-scope v kind.BlockStmt i q h = gone-some _ _ q refl h
gone-scope v kind.SwitchStmt i q h = gone-at (i == 1) _ _ q refl h
gone-scope v kind.ForStmt i q h = gone-at (i == 0) _ _ q refl h
gone-scope v kind.ForInStmt i q h = gone-at (i == 0) _ _ q refl h
gone-scope v (kind.ForOfStmt a) i q h = gone-at (i == 0) _ _ q refl h
gone-scope v kind.CatchClause i q h = gone-at (i == 0) _ _ q refl h
gone-scope v (kind.Function g a) i q h = gone-at (i == 0) _ _ q refl h
gone-scope v (kind.ArrowExpr a g) i q h = gone-at (i == 0) _ _ q refl h
gone-scope v (kind.Constructor a o) i q h = gone-at (i == 1) _ _ q refl h
gone-scope v kind.SetterProp i q h = gone-at (i == 2) _ _ q refl h
gone-scope v kind.FnExpr i q h = gone-at (i == 0) _ _ q refl h
gone-scope v kind.ClassExpr i q h = gone-at (i == 0) _ _ q refl h
gone-scope v (kind.TsEnumDecl d c) i q h = gone-at (i == 1) _ _ q refl h
gone-scope v (kind.TsNamespaceDecl d g) i q h = gone-both v (i == 0) _ _ q refl h
gone-scope v _ i q h = none-some q h

gone-by : (p : Part) (v : Bool) (k : Kind) (i : ℕ) (q : Sought) → sought_by p false v k i ≡ Some q → q.stays ≡ false
gone-by part.Scope v k i q h = gone-scope v k i q h
gone-by part.Item v k i q h = gone-item v k i q h
gone-by part.Default v k i q h = gone-default v k i q h
gone-by part.Member v k i q h = gone-member k i q h
gone-by part.Var v k i q h = gone-var k q h
gone-by (part.Name f) v k i q h = gone-name f k i q h

-- ---- what is found

abbrev pub kept : List DeclaredId → List DeclaredId
kept ds = filter (λ d. d.stays) ds

pub none-append : (xs ys : List DeclaredId) → kept xs ≡ [] → kept ys ≡ [] → kept (xs ++ ys) ≡ []
none-append [] ys first rest = rest
none-append (d ∷ ds) ys first rest = by d.stays first (λ none. none-append ds ys none rest)
  where
    by : (b : Bool) → cond b (d ∷ kept ds) (kept ds) ≡ [] → (kept ds ≡ [] → kept (ds ++ ys) ≡ []) → cond b (d ∷ kept (ds ++ ys)) (kept (ds ++ ys)) ≡ []
    by true h rec = cc
    by false h rec = rec h

pub kept-none : (ds : List DeclaredId) → kept ds ≡ [] → All (λ d. d.stays ≡ false) ds
kept-none [] h = All-nil (λ d. d.stays ≡ false)
kept-none (d ∷ ds) h = by d.stays refl h (kept-none ds)
  where
    no : (xs : List DeclaredId) → ◌≡◌ {A = List DeclaredId} (d ∷ xs) [] → ⊥
    no xs h = cc

    by : (b : Bool) → d.stays ≡ b → cond b (d ∷ kept ds) (kept ds) ≡ [] → (kept ds ≡ [] → All (λ d. d.stays ≡ false) ds) → All (λ d. d.stays ≡ false) (d ∷ ds)
    by true is h rec = absurd (no (kept ds) h)
    by false is h rec = All-cons (λ d. d.stays ≡ false) d ds is (rec h)

abbrev Gone : Node → Type 0
Gone n = (q : Sought) → q.stays ≡ false → kept (ids_declared n q) ≡ []

abbrev AllGone : List Node → Type 0
AllGone ns = (into : ℕ → Option Sought) (i : ℕ) → ((j : ℕ) (q : Sought) → into j ≡ Some q → q.stays ≡ false) → kept (ids_in into i (map ids_declared ns)) ≡ []

at-gone : (n : Node) → Gone n → (o : Option Sought) → ((q : Sought) → o ≡ Some q → q.stays ≡ false) → kept (ids_at o (ids_declared n)) ≡ []
at-gone n gone (Some q) is = gone q (is q refl)
at-gone n gone None is = refl

all-gone : (ns : List ((n : Node) × Gone n)) → AllGone (map (λ e. e.0) ns)
all-gone [] into i is = refl
all-gone (n ∷ ns) into i is = none-append (ids_at (into i) (ids_declared n.0)) (ids_in into (suc i) (map ids_declared (map (λ e. e.0) ns))) (at-gone n.0 n.1 (into i) (is i)) (all-gone ns into (suc i) is)

here-by : (p : Part) (k : Kind) → kept (id_here (record { part = p; stays = false }) k) ≡ []
here-by (part.Name f) (kind.Ident s c o) = refl
here-by _ (kind.Ident s c o) = refl
here-by p _ = refl

here-gone : (q : Sought) (k : Kind) → q.stays ≡ false → kept (id_here q k) ≡ []
here-gone q k gone = ap (λ (s : Bool). kept (id_here (record { part = q.part; stays = s }) k)) gone ∙ here-by q.part k

next-gone : (n : Node) (q : Sought) → q.stays ≡ false → (j : ℕ) (next : Sought) → sought_in q n j ≡ Some next → next.stays ≡ false
unfolding sought_in
next-gone n q gone j next h = gone-by q.part (is_value_where false n) (out-Node n).kind j next (sym (ap (λ (s : Bool). sought_by q.part s (is_value_where s n) (out-Node n).kind j) gone) ∙ h)

layer-gone : (n : Node) → AllGone (out-Node n).children → Gone n
layer-gone n children q gone =
    ap kept (ids-out n q)
    ∙ none-append (id_here q (out-Node n).kind) (ids_in (sought_in q n) 0 (map ids_declared (out-Node n).children)) (here-gone q (out-Node n).kind gone) (children (sought_in q n) 0 (next-gone n q gone))

pub gone : (n : Node) → Gone n
gone = ind-Node Gone (λ x y is.
    layer-gone (roll-Node x) (subst AllGone (ap (λ (z : Node-F Node). z.children) is ∙ sym (ap (λ (z : Node-F Node). z.children) (out-roll-Node x))) (all-gone y.children)))

each-gone : (ns : List Node) → AllGone ns
each-gone [] into i is = refl
each-gone (n ∷ ns) into i is = none-append (ids_at (into i) (ids_declared n)) (ids_in into (suc i) (map ids_declared ns)) (at-gone n (gone n) (into i) (is i)) (each-gone ns into (suc i) is)

-- a node below which nothing that stays is looked for
pub below-gone : (n : Node) (q : Sought) → id_here q (out-Node n).kind ≡ [] → ((j : ℕ) (next : Sought) → sought_in q n j ≡ Some next → next.stays ≡ false) → kept (ids_declared n q) ≡ []
below-gone n q here next =
    ap kept (ids-out n q ∙ ap (λ (ds : List DeclaredId). ds ++ ids_in (sought_in q n) 0 (map ids_declared (out-Node n).children)) here)
    ∙ each-gone (out-Node n).children (sought_in q n) 0 next
