-- Nothing merges in a tree without enums and namespaces.
use Rattle.std.proofs.Common.{◌≡◌, ℕ, suc, ◌-◌, ◌==◌, Bool, true, false, ◌||◌, not, cond, List, [], ◌∷◌, map, Option, Some, None, refl, sym, ap, ◌∙◌, subst}
use Rattle.std.specs.List.{All}
use Rattle.std.proofs.lemmas.List.Elements.{All-append, All-cons, All-nil}
use Rattle.ecma_kind.specs.declared.kind.Kind.{Kind}
use Rattle.ecma_kind.specs.declared.kind.Kind.TheVariants as kind
use Rattle.ecma_kind.specs.declared.operators.VarDeclKind.TheVariants as var_kind
use Rattle.ecma_tree.specs.declared.node.Node.{Node, Node-F, fold_out-Node, ind-Node, out-Node, roll-Node}
use Rattle.ecma_tree.specs.declared.node.Node.TheViews.{out-roll-Node}
use Rattle.ecma_tree.specs.Finding.{enters_all, finds, finds_from, finds_here}
use Rattle.ecma_tree.specs.Values.{is_value_where}
use Rattle.ecma_scope.specs.declared.form.Form.{Form}
use Rattle.ecma_scope.specs.declared.form.Part.{Part}
use Rattle.ecma_scope.specs.declared.form.Part.TheVariants as part
use Rattle.ecma_scope.specs.declared.form.Sought.{Sought}
use Rattle.ecma_scope.specs.declared.role.Role.{Role}
use Rattle.ecma_scope.specs.declared.role.Role.TheVariants as role
use Rattle.ecma_scope.specs.Conflicts.{may_merge}
use Rattle.ecma_scope.specs.Declarations.{holds_vars, in_default, in_item, in_member, in_name, in_scope, in_var, own_part, seek, sought_by, sought_in}
use Rattle.ecma_scope.specs.Resolved.{context_count, taken}
use Rattle.ecma_scope.specs.Scopes.{is_ambient}
use Rattle.ecma_hygiene.specs.Sights.{Around, around_child, nowhere}
use Rattle.ecma_hygiene.proofs.Telling.{true-false}
use Rattle.ecma_hygiene_scopes.specs.DeclaredIds.{DeclaredId, id_here, ids_at, ids_declared, ids_in, scope_ids}
use Rattle.ecma_hygiene_scopes.specs.Stops.{Stop, stops_at, stops_from}
use Rattle.ecma_hygiene_scopes.proofs.Directly.{ids-out}
use Rattle.ecma_hygiene_scopes.proofs.Stopping.{stops-out}
use Rattle.ecma_hygiene_conflicts.specs.Laws.{PlainTreesMergeNothing}
use Rattle.ecma_hygiene_conflicts.specs.Merging.{MergesAsOne, is_merging}
use Rattle.ecma_hygiene_conflicts.proofs.Staying.{all-cond}

-- ---- what is looked for in children

-- what is looked for declares nothing that may merge
abbrev is_quiet : Part → Bool
is_quiet (part.Name f) = not (may_merge f)
is_quiet _ = true

abbrev quiet_at : Option Sought → Bool
quiet_at (Some q) = is_quiet q.part
quiet_at None = true

Quiet : Option Sought → Type 0
Quiet o = quiet_at o ≡ true

at-some : (p : Part) (s : Bool) → is_quiet p ≡ true → Quiet (seek p s)
unfolding Quiet
at-some p s h = h

at-none : Quiet None
unfolding Quiet
at-none = refl

at-one : (b : Bool) (p : Part) (s : Bool) → is_quiet p ≡ true → Quiet (cond b (seek p s) None)
at-one true p s h = at-some p s h
at-one false p s h = at-none

name-quiet : (f : Form) (stays : Bool) (k : Kind) (i : ℕ) → is_quiet (part.Name f) ≡ true → Quiet (in_name f stays k i)
unfolding in_name
name-quiet f stays kind.List i h = at-some _ _ h
name-quiet f stays kind.BindingIdent i h = at-one (i == 0) _ _ h
name-quiet f stays kind.Param i h = at-one (i == 0) _ _ h
name-quiet f stays (kind.TsParamProp a o r) i h = at-one (i == 0) _ _ h
name-quiet f stays (kind.VarDeclarator d) i h = at-one (i == 0) _ _ h
name-quiet f stays (kind.ArrayPat o) i h = at-one (i == 0) _ _ h
name-quiet f stays (kind.ObjectPat o) i h = at-one (i == 0) _ _ h
name-quiet f stays kind.RestPat i h = at-one (i == 0) _ _ h
name-quiet f stays kind.AssignPat i h = at-one (i == 0) _ _ h
name-quiet f stays kind.AssignPatProp i h = at-one (i == 0) _ _ h
name-quiet f stays kind.KeyValuePatProp i h = at-one (i == 1) _ _ h
name-quiet f stays _ i h = at-none

var-quiet : (stays : Bool) (k : Kind) → Quiet (in_var stays k)
unfolding in_var
var-quiet stays (kind.VarDecl var_kind.Var d) = at-some _ _ refl
var-quiet stays (kind.VarDecl _ d) = at-none
var-quiet stays kind.List = at-some _ _ refl
var-quiet stays (kind.Module s) = at-some _ _ refl
var-quiet stays (kind.Script s) = at-some _ _ refl
var-quiet stays kind.TsModuleBlock = at-some _ _ refl
var-quiet stays kind.ExportDecl = at-some _ _ refl
var-quiet stays kind.BlockStmt = at-some _ _ refl
var-quiet stays kind.IfStmt = at-some _ _ refl
var-quiet stays kind.ForStmt = at-some _ _ refl
var-quiet stays kind.ForInStmt = at-some _ _ refl
var-quiet stays (kind.ForOfStmt a) = at-some _ _ refl
var-quiet stays kind.WhileStmt = at-some _ _ refl
var-quiet stays kind.DoWhileStmt = at-some _ _ refl
var-quiet stays kind.LabeledStmt = at-some _ _ refl
var-quiet stays kind.TryStmt = at-some _ _ refl
var-quiet stays kind.CatchClause = at-some _ _ refl
var-quiet stays kind.SwitchStmt = at-some _ _ refl
var-quiet stays kind.SwitchCase = at-some _ _ refl
var-quiet stays _ = at-none

item-quiet : (stays value : Bool) (k : Kind) (i : ℕ) → is_merging k ≡ false → Quiet (in_item stays value k i)
unfolding in_item
item-quiet stays value kind.List i m = at-some _ _ refl
item-quiet stays value kind.SwitchCase i m = at-one (i == 1) _ _ refl
item-quiet stays value kind.ExportDecl i m = at-some _ _ refl
item-quiet stays value kind.ExportDefaultDecl i m = at-some _ _ refl
item-quiet stays value (kind.ImportDecl t) i m = at-one (i == 0) _ _ refl
item-quiet stays value (kind.ImportNamedSpecifier t) i m = at-one (i == 0) _ _ refl
item-quiet stays value kind.ImportDefaultSpecifier i m = at-some _ _ refl
item-quiet stays value kind.ImportStarAsSpecifier i m = at-some _ _ refl
item-quiet stays value (kind.TsImportEqualsDecl e t) i m = at-one (i == 0) _ _ refl
item-quiet stays value (kind.VarDecl var_kind.Let d) i m = at-some _ _ refl
item-quiet stays value (kind.VarDecl var_kind.Const d) i m = at-some _ _ refl
item-quiet stays value (kind.VarDecl _ d) i m = at-none
item-quiet stays value (kind.FnDecl d) i m = at-one (i == 0) _ _ refl
item-quiet stays value (kind.ClassDecl d) i m = at-one (i == 0) _ _ refl
item-quiet stays value (kind.TsEnumDecl d c) i m = absurd (true-false refl m)
item-quiet stays value (kind.TsModuleDecl d g) i m = absurd (true-false refl m)
item-quiet stays value _ i m = at-none

default-quiet : (stays value : Bool) (k : Kind) (i : ℕ) → Quiet (in_default stays value k i)
unfolding in_default
default-quiet stays value kind.FnExpr i = at-one (i == 0) _ _ refl
default-quiet stays value kind.ClassExpr i = at-one (i == 0) _ _ refl
default-quiet stays value _ i = at-none

scope-quiet : (stays value : Bool) (k : Kind) (i : ℕ) → is_merging k ≡ false → Quiet (in_scope stays value k i)
unfolding in_scope
scope-quiet stays value (kind.Module s) i m = at-some _ _ refl
scope-quiet stays value (kind.Script s) i m = at-some _ _ refl
scope-quiet stays value kind.TsModuleBlock i m = at-some _ _ refl
scope-quiet stays value kind.BlockStmt i m = at-some _ _ refl
scope-quiet stays value kind.SwitchStmt i m = at-one (i == 1) _ _ refl
scope-quiet stays value kind.ForStmt i m = at-one (i == 0) _ _ refl
scope-quiet stays value kind.ForInStmt i m = at-one (i == 0) _ _ refl
scope-quiet stays value (kind.ForOfStmt a) i m = at-one (i == 0) _ _ refl
scope-quiet stays value kind.CatchClause i m = at-one (i == 0) _ _ refl
scope-quiet stays value (kind.Function g a) i m = at-one (i == 0) _ _ refl
scope-quiet stays value (kind.ArrowExpr a g) i m = at-one (i == 0) _ _ refl
scope-quiet stays value (kind.Constructor a o) i m = at-one (i == 1) _ _ refl
scope-quiet stays value kind.SetterProp i m = at-one (i == 2) _ _ refl
scope-quiet stays value kind.FnExpr i m = at-one (i == 0) _ _ refl
scope-quiet stays value kind.ClassExpr i m = at-one (i == 0) _ _ refl
scope-quiet stays value (kind.TsEnumDecl d c) i m = absurd (true-false refl m)
scope-quiet stays value (kind.TsNamespaceDecl d g) i m = absurd (true-false refl m)
scope-quiet stays value _ i m = at-none

member-quiet : (stays : Bool) (k : Kind) (i : ℕ) → Quiet (in_member stays k i)
unfolding in_member
member-quiet stays kind.List i = at-some _ _ refl
member-quiet stays kind.TsEnumMember i = at-one (i == 0) _ _ refl
member-quiet stays _ i = at-none

sought-quiet : (p : Part) (stays value : Bool) (k : Kind) (i : ℕ) → is_quiet p ≡ true → is_merging k ≡ false → Quiet (sought_by p stays value k i)
sought-quiet part.Scope stays value k i h m = scope-quiet stays value k i m
sought-quiet part.Item stays value k i h m = item-quiet stays value k i m
sought-quiet part.Default stays value k i h m = default-quiet stays value k i
sought-quiet part.Member stays value k i h m = member-quiet stays k i
sought-quiet part.Var stays value k i h m = var-quiet stays k
sought-quiet (part.Name f) stays value k i h m = name-quiet f stays k i h

-- ---- what is declared

abbrev IsAlone : DeclaredId → Type 0
IsAlone d = may_merge d.form ≡ false

abbrev Finds : Node → Bool
Finds = finds is_merging enters_all

neither-first : (a b : Bool) → (a || b) ≡ false → a ≡ false
neither-first true b h = absurd (true-false refl h)
neither-first false b h = refl

neither-second : (a b : Bool) → (a || b) ≡ false → b ≡ false
neither-second true b h = absurd (true-false refl h)
neither-second false b h = h

module _ (n : Node) (plain : Finds n ≡ false) where
  abbrev found : Bool
  found = finds_from (enters_all (out-Node n).kind) 0 (map Finds (out-Node n).children)

  parts : (is_merging (out-Node n).kind || found) ≡ false
  parts = sym (fold_out-Node Bool (finds_here is_merging enters_all) n) ∙ plain

  plain-kind : is_merging (out-Node n).kind ≡ false
  plain-kind = neither-first (is_merging (out-Node n).kind) found parts

  plain-children : found ≡ false
  plain-children = neither-second (is_merging (out-Node n).kind) found parts

abbrev AllPlain : ℕ → List Node → Type 0
AllPlain i ns = finds_from (λ j. true) i (map Finds ns) ≡ false

not-is : (b : Bool) → not b ≡ true → b ≡ false
not-is true h = absurd (true-false h refl)
not-is false h = refl

alone-here : (p : Part) (stays : Bool) (k : Kind) → is_quiet p ≡ true → All IsAlone (id_here (record { part = p; stays = stays }) k)
alone-here (part.Name f) stays (kind.Ident s c o) h = All-cons IsAlone _ [] (not-is (may_merge f) h) (All-nil IsAlone)
alone-here p stays (kind.Ident s c o) h = All-nil IsAlone
alone-here p stays k h = All-nil IsAlone

abbrev Alone : Node → Type 0
Alone n = Finds n ≡ false → (q : Sought) → is_quiet q.part ≡ true → All IsAlone (ids_declared n q)

abbrev AllAlone : List Node → Type 0
AllAlone ns = (into : ℕ → Option Sought) (i : ℕ) → AllPlain i ns → ((j : ℕ) → Quiet (into j)) → All IsAlone (ids_in into i (map ids_declared ns))

at-child : (n : Node) → Alone n → Finds n ≡ false → (o : Option Sought) → Quiet o → All IsAlone (ids_at o (ids_declared n))
unfolding Quiet
at-child n alone plain (Some q) h = alone plain q h
at-child n alone plain None h = All-nil IsAlone

all-alone : (ns : List ((n : Node) × Alone n)) → AllAlone (map (λ e. e.0) ns)
all-alone [] into i plain quiet = All-nil IsAlone
all-alone (n ∷ ns) into i plain quiet =
    let others : List Node = map (λ e. e.0) ns in
    let later : Bool = finds_from (λ j. true) (suc i) (map Finds others) in
    All-append IsAlone (ids_at (into i) (ids_declared n.0)) (ids_in into (suc i) (map ids_declared others))
    (at-child n.0 n.1 (neither-first (Finds n.0) later plain) (into i) (quiet i)) (all-alone ns into (suc i) (neither-second (Finds n.0) later plain) quiet)

layer-alone : (n : Node) → AllAlone (out-Node n).children → Alone n
unfolding sought_in
layer-alone n children plain q h =
    subst (All IsAlone) (sym (ids-out n q))
    (All-append IsAlone (id_here q (out-Node n).kind) (ids_in (sought_in q n) 0 (map ids_declared (out-Node n).children)) (alone-here q.part q.stays (out-Node n).kind h)
    (children (sought_in q n) 0 (plain-children n plain) (λ j. sought-quiet q.part q.stays (is_value_where q.stays n) (out-Node n).kind j h (plain-kind n plain))))

alone : (n : Node) → Alone n
alone = ind-Node Alone (λ x y is.
    layer-alone (roll-Node x) (subst AllAlone (ap (λ (z : Node-F Node). z.children) is ∙ sym (ap (λ (z : Node-F Node). z.children) (out-roll-Node x))) (all-alone y.children)))

own-quiet : (r : Role) → is_quiet (own_part r) ≡ true
own-quiet role.Default = refl
own-quiet _ = refl

scope-alone : (r : Role) (n : Node) → Finds n ≡ false → All IsAlone (scope_ids r n)
scope-alone r n plain =
    let var : Sought = record { part = part.Var; stays = not (is_ambient r) } in
    let own : Sought = record { part = own_part r; stays = not (is_ambient r) } in
    All-append IsAlone (ids_declared n own) (cond (holds_vars r (out-Node n).kind) (ids_declared n var) []) (alone n plain own (own-quiet r))
    (all-cond IsAlone (holds_vars r (out-Node n).kind) (ids_declared n var) (alone n plain var refl))

-- ---- each stop

merges-none : (stop : Stop) → Finds stop.node ≡ false → MergesAsOne stop
merges-none stop plain = λ k d lt may. absurd (true-false may (scope-alone stop.around.role stop.node plain k d lt))

abbrev MergesNone : Node → Type 0
MergesNone n = Finds n ≡ false → (s : Around) (left : ℕ) → All MergesAsOne (stops_at n s left)

abbrev AllNone : List Node → Type 0
AllNone ns = (around : ℕ → Around) (i left : ℕ) → AllPlain i ns → All MergesAsOne (stops_from around i ns (map stops_at ns) left)

all-none : (ns : List ((n : Node) × MergesNone n)) → AllNone (map (λ e. e.0) ns)
all-none [] around i left plain = All-nil MergesAsOne
all-none (n ∷ ns) around i left plain =
    let others : List Node = map (λ e. e.0) ns in
    let later : Bool = finds_from (λ j. true) (suc i) (map Finds others) in
    let less : ℕ = left - context_count n.0 (around i).role in
    All-append MergesAsOne (stops_at n.0 (around i) left) (stops_from around (suc i) others (map stops_at others) less)
    (n.1 (neither-first (Finds n.0) later plain) (around i) left) (all-none ns around (suc i) less (neither-second (Finds n.0) later plain))

layer-none : (n : Node) → AllNone (out-Node n).children → MergesNone n
layer-none n children plain s left =
    let here : Stop = record { node = n; around = s; left = left } in
    let below : List Stop = stops_from (around_child s n) 0 (out-Node n).children (map stops_at (out-Node n).children) (left - taken s.role n) in
    subst (All MergesAsOne) (sym (stops-out n s left)) (All-cons MergesAsOne here below (merges-none here plain) (children (around_child s n) 0 (left - taken s.role n) (plain-children n plain)))

none-merges : (n : Node) → MergesNone n
none-merges = ind-Node MergesNone (λ x y is.
    layer-none (roll-Node x) (subst AllNone (ap (λ (z : Node-F Node). z.children) is ∙ sym (ap (λ (z : Node-F Node). z.children) (out-roll-Node x))) (all-none y.children)))

pub plain-merge-nothing : PlainTreesMergeNothing
plain-merge-nothing left tree plain = none-merges tree plain nowhere left
