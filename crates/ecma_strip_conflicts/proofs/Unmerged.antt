-- No name is looked for as one that is merged already.
use Rattle.std.proofs.Common.{◌≡◌, ℕ, suc, ◌==◌, Bool, true, false, ◌&&◌, cond, List, [], ◌∷◌, ◌++◌, map, Option, Some, None, refl, sym, ap, ◌∙◌, subst}
use Rattle.std.specs.List.{All}
use Rattle.std.proofs.lemmas.List.Elements.{All-append, All-cons, All-nil}
use Rattle.ecma_kind.specs.declared.kind.Kind.{Kind}
use Rattle.ecma_kind.specs.declared.kind.Kind.TheVariants as kind
use Rattle.ecma_kind.specs.declared.operators.VarDeclKind.TheVariants as var_kind
use Rattle.ecma_tree.specs.declared.node.Node.{Node, Node-F, ind-Node, out-Node, roll-Node}
use Rattle.ecma_tree.specs.declared.node.Node.TheViews.{out-roll-Node}
use Rattle.ecma_tree.specs.Values.{is_value_where}
use Rattle.ecma_scope.specs.declared.form.Form.{Form}
use Rattle.ecma_scope.specs.declared.form.Form.TheVariants as form
use Rattle.ecma_scope.specs.declared.form.Part.{Part}
use Rattle.ecma_scope.specs.declared.form.Part.TheVariants as part
use Rattle.ecma_scope.specs.declared.form.Sought.{Sought}
use Rattle.ecma_scope.specs.Declarations.{in_default, in_item, in_member, in_name, in_scope, in_var, sought_by, sought_in}
use Rattle.ecma_hygiene.proofs.Telling.{true-false}
use Rattle.ecma_hygiene_scopes.specs.DeclaredIds.{DeclaredId, id_here, ids_at, ids_declared, ids_in}
use Rattle.ecma_hygiene_scopes.proofs.Directly.{ids-out}

abbrev pub is_raw : Form → Bool
is_raw form.Merged = false
is_raw _ = true

abbrev pub raw_part : Part → Bool
raw_part (part.Name f) = is_raw f
raw_part _ = true

abbrev raw_at : Option Sought → Bool
raw_at (Some q) = raw_part q.part
raw_at None = true

at : (b : Bool) (p : Part) (s : Bool) → raw_part p ≡ true → raw_at (cond b (Some (record { part = p; stays = s })) None) ≡ true
at true p s h = h
at false p s h = refl

within : (b : Bool) (o : Option Sought) → raw_at o ≡ true → raw_at (cond b o None) ≡ true
within true o h = h
within false o h = refl

scope-raw : (s v : Bool) (k : Kind) (i : ℕ) → raw_at (in_scope s v k i) ≡ true
unfolding in_scope
scope-raw s v kind.SwitchStmt i = at (i == 1) part.Item s refl
scope-raw s v kind.ForStmt i = at (i == 0) part.Item s refl
scope-raw s v kind.ForInStmt i = at (i == 0) part.Item s refl
scope-raw s v (kind.ForOfStmt a) i = at (i == 0) part.Item s refl
scope-raw s v kind.CatchClause i = at (i == 0) (part.Name form.Catch) s refl
scope-raw s v (kind.Function g a) i = at (i == 0) (part.Name form.Parameter) s refl
scope-raw s v (kind.ArrowExpr a g) i = at (i == 0) (part.Name form.Parameter) s refl
scope-raw s v (kind.Constructor a o) i = at (i == 1) (part.Name form.Parameter) s refl
scope-raw s v kind.SetterProp i = at (i == 2) (part.Name form.Parameter) s refl
scope-raw s v kind.FnExpr i = at (i == 0) (part.Name form.Own) s refl
scope-raw s v kind.ClassExpr i = at (i == 0) (part.Name form.Own) s refl
scope-raw s v (kind.TsEnumDecl d c) i = at (i == 1) part.Member s refl
scope-raw s v (kind.TsNamespaceDecl d g) i = within v (cond (i == 0) (Some (record { part = part.Name form.Namespace; stays = s })) None) (at (i == 0) (part.Name form.Namespace) s refl)
scope-raw s v _ i = refl

item-raw : (s v : Bool) (k : Kind) (i : ℕ) → raw_at (in_item s v k i) ≡ true
unfolding in_item
item-raw s v kind.SwitchCase i = at (i == 1) _ _ refl
item-raw s v (kind.ImportDecl t) i = at (i == 0) _ _ refl
item-raw s v (kind.ImportNamedSpecifier t) i = at (i == 0) _ _ refl
item-raw s v (kind.TsImportEqualsDecl e t) i = at (i == 0) _ _ refl
item-raw s v (kind.VarDecl var_kind.Var d) i = refl
item-raw s v (kind.VarDecl var_kind.Let d) i = refl
item-raw s v (kind.VarDecl var_kind.Const d) i = refl
item-raw s v (kind.FnDecl d) i = at (i == 0) _ _ refl
item-raw s v (kind.ClassDecl d) i = at (i == 0) _ _ refl
item-raw s v (kind.TsEnumDecl d c) i = at (i == 0) _ _ refl
item-raw s v (kind.TsModuleDecl d true) i = refl
item-raw s v (kind.TsModuleDecl d false) i = within v _ (at (i == 0) (part.Name form.Namespace) _ refl)
item-raw s v _ i = refl

default-raw : (s v : Bool) (k : Kind) (i : ℕ) → raw_at (in_default s v k i) ≡ true
unfolding in_default
default-raw s v kind.FnExpr i = at (i == 0) _ _ refl
default-raw s v kind.ClassExpr i = at (i == 0) _ _ refl
default-raw s v _ i = refl

member-raw : (s : Bool) (k : Kind) (i : ℕ) → raw_at (in_member s k i) ≡ true
unfolding in_member
member-raw s kind.TsEnumMember i = at (i == 0) _ _ refl
member-raw s _ i = refl

var-raw : (s : Bool) (k : Kind) → raw_at (in_var s k) ≡ true
unfolding in_var
var-raw s (kind.VarDecl var_kind.Var d) = refl
var-raw s (kind.VarDecl _ d) = refl
var-raw s _ = refl

name-raw : (f : Form) (s : Bool) (k : Kind) (i : ℕ) → is_raw f ≡ true → raw_at (in_name f s k i) ≡ true
unfolding in_name
name-raw f s kind.List i h = h
name-raw f s kind.BindingIdent i h = at (i == 0) _ _ h
name-raw f s kind.Param i h = at (i == 0) _ _ h
name-raw f s (kind.TsParamProp a o r) i h = at (i == 0) _ _ h
name-raw f s (kind.VarDeclarator d) i h = at (i == 0) _ _ h
name-raw f s (kind.ArrayPat o) i h = at (i == 0) _ _ h
name-raw f s (kind.ObjectPat o) i h = at (i == 0) _ _ h
name-raw f s kind.RestPat i h = at (i == 0) _ _ h
name-raw f s kind.AssignPat i h = at (i == 0) _ _ h
name-raw f s kind.AssignPatProp i h = at (i == 0) _ _ h
name-raw f s kind.KeyValuePatProp i h = at (i == 1) _ _ h
name-raw f s _ i h = refl

raw-step : (p : Part) (s v : Bool) (k : Kind) (i : ℕ) → raw_part p ≡ true → raw_at (sought_by p s v k i) ≡ true
raw-step part.Scope s v k i h = scope-raw s v k i
raw-step part.Item s v k i h = item-raw s v k i
raw-step part.Default s v k i h = default-raw s v k i
raw-step part.Member s v k i h = member-raw s k i
raw-step part.Var s v k i h = var-raw s k
raw-step (part.Name f) s v k i h = name-raw f s k i h

-- ---- what holds of all that is declared, by what is looked for

abbrev pub good_at : (Sought → Bool) → Option Sought → Bool
good_at good (Some q) = good q
good_at good None = true

module _ (good : Sought → Bool) (P : DeclaredId → Type 0) (here : (q : Sought) (k : Kind) → good q ≡ true → All P (id_here q k))
    (step : (q : Sought) (v : Bool) (k : Kind) (i : ℕ) → good q ≡ true → good_at good (sought_by q.part q.stays v k i) ≡ true) where
  abbrev IsGood : Node → Type 0
  IsGood n = (q : Sought) → good q ≡ true → All P (ids_declared n q)

  abbrev AllGood : List Node → Type 0
  AllGood ns = (into : ℕ → Option Sought) (i : ℕ) → ((j : ℕ) → good_at good (into j) ≡ true) → All P (ids_in into i (map ids_declared ns))

  at-good : (n : Node) → IsGood n → (o : Option Sought) → good_at good o ≡ true → All P (ids_at o (ids_declared n))
  at-good n is None h = All-nil P
  at-good n is (Some q) h = is q h

  all-good : (ns : List ((n : Node) × IsGood n)) → AllGood (map (λ e. e.0) ns)
  all-good [] into i h = All-nil P
  all-good (n ∷ ns) into i h = All-append P (ids_at (into i) (ids_declared n.0)) (ids_in into (suc i) (map ids_declared (map (λ e. e.0) ns))) (at-good n.0 n.1 (into i) (h i)) (all-good ns into (suc i) h)

  layer-good : (n : Node) → AllGood (out-Node n).children → IsGood n
  unfolding sought_in
  layer-good n children q h =
      subst (All P) (sym (ids-out n q))
      (All-append P (id_here q (out-Node n).kind) (ids_in (sought_in q n) 0 (map ids_declared (out-Node n).children)) (here q (out-Node n).kind h)
      (children (sought_in q n) 0 (λ j. step q (is_value_where q.stays n) (out-Node n).kind j h)))

  is-good : (n : Node) → IsGood n
  is-good = ind-Node IsGood (λ x y is.
      layer-good (roll-Node x) (subst AllGood (ap (λ (z : Node-F Node). z.children) is ∙ sym (ap (λ (z : Node-F Node). z.children) (out-roll-Node x))) (all-good y.children)))

  each-good : (ns : List Node) → AllGood ns
  each-good [] into i h = All-nil P
  each-good (n ∷ ns) into i h = All-append P (ids_at (into i) (ids_declared n)) (ids_in into (suc i) (map ids_declared ns)) (at-good n (is-good n) (into i) (h i)) (each-good ns into (suc i) h)

  -- of a node in whose children such things are looked for
  pub good-below : (n : Node) (q : Sought) → id_here q (out-Node n).kind ≡ [] → ((j : ℕ) → good_at good (sought_in q n j) ≡ true) → All P (ids_declared n q)
  good-below n q none h =
      subst (All P) (sym (ids-out n q ∙ ap (λ (ds : List DeclaredId). ds ++ ids_in (sought_in q n) 0 (map ids_declared (out-Node n).children)) none))
      (each-good (out-Node n).children (sought_in q n) 0 h)

-- ---- no name is merged already

abbrev pub Raw : DeclaredId → Type 0
Raw d = is_raw d.form ≡ true

abbrev raw_sought : Sought → Bool
raw_sought q = raw_part q.part

here-raw : (p : Part) (s : Bool) (k : Kind) → raw_part p ≡ true → All Raw (id_here (record { part = p; stays = s }) k)
here-raw (part.Name f) s (kind.Ident t c o) h = All-cons Raw _ [] h (All-nil Raw)
here-raw p s (kind.Ident t c o) h = All-nil Raw
here-raw p s _ h = All-nil Raw

same-at : (o : Option Sought) → raw_at o ≡ true → good_at raw_sought o ≡ true
same-at (Some q) h = h
same-at None h = refl

pub raw : (n : Node) (q : Sought) → raw_part q.part ≡ true → All Raw (ids_declared n q)
raw = is-good raw_sought Raw (λ q k h. here-raw q.part q.stays k h) (λ q v k i h. same-at (sought_by q.part q.stays v k i) (raw-step q.part q.stays v k i h))

-- ---- the names of a pattern that stays stay

abbrev pub Stays : DeclaredId → Type 0
Stays d = d.stays ≡ true

abbrev pub is_named : Part → Bool
is_named (part.Name f) = true
is_named _ = false

abbrev pub stays_named : Sought → Bool
stays_named q = is_named q.part && q.stays

here-stays : (p : Part) (s : Bool) (k : Kind) → (is_named p && s) ≡ true → All Stays (id_here (record { part = p; stays = s }) k)
here-stays (part.Name f) s (kind.Ident t c o) h = All-cons Stays _ [] h (All-nil Stays)
here-stays p s (kind.Ident t c o) h = All-nil Stays
here-stays p s _ h = All-nil Stays

name-at : (b : Bool) (f : Form) (s : Bool) → s ≡ true → good_at stays_named (cond b (Some (record { part = part.Name f; stays = s })) None) ≡ true
name-at true f s h = h
name-at false f s h = refl

name-stays : (f : Form) (s : Bool) (k : Kind) (i : ℕ) → s ≡ true → good_at stays_named (in_name f s k i) ≡ true
unfolding in_name
name-stays f s kind.List i h = h
name-stays f s kind.BindingIdent i h = name-at (i == 0) f s h
name-stays f s kind.Param i h = name-at (i == 0) f s h
name-stays f s (kind.TsParamProp a o r) i h = name-at (i == 0) f s h
name-stays f s (kind.VarDeclarator d) i h = name-at (i == 0) f s h
name-stays f s (kind.ArrayPat o) i h = name-at (i == 0) f s h
name-stays f s (kind.ObjectPat o) i h = name-at (i == 0) f s h
name-stays f s kind.RestPat i h = name-at (i == 0) f s h
name-stays f s kind.AssignPat i h = name-at (i == 0) f s h
name-stays f s kind.AssignPatProp i h = name-at (i == 0) f s h
name-stays f s kind.KeyValuePatProp i h = name-at (i == 1) f s h
name-stays f s _ i h = refl

stays-step : (p : Part) (s v : Bool) (k : Kind) (i : ℕ) → (is_named p && s) ≡ true → good_at stays_named (sought_by p s v k i) ≡ true
stays-step (part.Name f) s v k i h = name-stays f s k i h
stays-step _ s v k i h = absurd (true-false h refl)

pub names-stay : (n : Node) (q : Sought) → id_here q (out-Node n).kind ≡ [] → ((j : ℕ) → good_at stays_named (sought_in q n j) ≡ true) → All Stays (ids_declared n q)
names-stay = good-below stays_named Stays (λ q k h. here-stays q.part q.stays k h) (λ q v k i h. stays-step q.part q.stays v k i h)
