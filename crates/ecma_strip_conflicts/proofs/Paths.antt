-- On the way of `var` declarations all is clear, or nothing declares any.
use Rattle.std.proofs.Common.{◌≡◌, ◌⊎◌, inl, inr, ℕ, zero, suc, Bool, true, false, ◌&&◌, ◌||◌, not, cond, List, [], ◌∷◌, map, length, replicate, Option, Some, None, is_some, refl, sym, ap, ◌∙◌}
use Rattle.std.specs.List.{list_all}
use Rattle.ecma_kind.specs.Sorts.{belongs, is_expr}
use Rattle.ecma_kind.specs.declared.kind.Kind.{Kind}
use Rattle.ecma_kind.specs.declared.kind.Kind.TheVariants as kind
use Rattle.ecma_kind.specs.declared.operators.VarDeclKind.{VarDeclKind}
use Rattle.ecma_kind.specs.declared.shapes.Count.{Count}
use Rattle.ecma_kind.specs.declared.shapes.Count.TheVariants.{One, Maybe, Many, MaybeMany, Holes}
use Rattle.ecma_kind.specs.declared.shapes.Shape.{Shape}
use Rattle.ecma_kind.specs.declared.shapes.Sort.{Sort}
use Rattle.ecma_kind.specs.declared.shapes.Sort.TheVariants as sort
use Rattle.ecma_tree.specs.Laws.{HaveShapes}
use Rattle.ecma_tree.specs.Sorted.{HasShape, allows, allows_by, child_shapes, is_list, maybe, one}
use Rattle.ecma_tree.specs.declared.node.Node.{Node, out-Node}
use Rattle.ecma_tree.proofs.Layers.{from_leaves_out}
use Rattle.ecma_scope.specs.declared.form.Part.TheVariants as part
use Rattle.ecma_scope.specs.declared.form.Sought.{Sought}
use Rattle.ecma_scope.specs.declared.role.Role.{Role}
use Rattle.ecma_scope.specs.declared.role.Role.TheVariants as role
use Rattle.ecma_scope.specs.Declarations.{holds_vars, in_var, sought_in}
use Rattle.ecma_scope.specs.Scopes.{is_ambient, opens_by, passes_ambient, role_by}
use Rattle.ecma_strip.specs.Staying.{is_this_param, stays}
use Rattle.ecma_strip.specs.Stripping.{plain_kind}
use Rattle.ecma_hygiene.proofs.Telling.{and-both, and-left, and-right, true-false}
use Rattle.ecma_hygiene_scopes.specs.DeclaredIds.{id_here, ids_declared}
use Rattle.ecma_strip_scopes.specs.Standing.{clear_at, clear_here, clear_in, clear_step, is_clear}
use Rattle.ecma_strip_scopes.proofs.Going.{parts-have}
use Rattle.ecma_strip_scopes.proofs.Seeking.{seeks-plain}
use Rattle.ecma_strip_scopes.proofs.Standing.{silent}
use Rattle.ecma_strip_conflicts.proofs.Meeting.{var-expr}

abbrev pub var : Sought
var = record { part = part.Var; stays = true }

-- a kind in which `var` is looked for
abbrev pub is_way : Kind → Bool
is_way k = is_some (in_var true k)

-- ---- sorts of which no kind is

abbrev pub is_still : Sort → Bool
is_still sort.Program = false
is_still sort.Module = false
is_still sort.Script = false
is_still sort.ModuleItem = false
is_still sort.ModuleDecl = false
is_still sort.Stmt = false
is_still sort.Decl = false
is_still sort.BlockStmtOrExpr = false
is_still sort.VarDeclOrExpr = false
is_still sort.ForHead = false
is_still sort.BlockStmt = false
is_still sort.SwitchCase = false
is_still sort.CatchClause = false
is_still sort.TsNamespaceBody = false
is_still _ = true

still-block : (s : Sort) → (belongs s kind.BlockStmt && is_still s) ≡ false
still-block sort.Program = refl
still-block _ = refl

still-decl : (v : VarDeclKind) (d : Bool) → (s : Sort) → (belongs s (kind.VarDecl v d) && is_still s) ≡ false
still-decl v d sort.Program = refl
still-decl v d _ = refl

still-module : (x : Option (List ℕ)) → (s : Sort) → (belongs s (kind.Module x) && is_still s) ≡ false
still-module x sort.Program = refl
still-module x _ = refl

still-script : (x : Option (List ℕ)) → (s : Sort) → (belongs s (kind.Script x) && is_still s) ≡ false
still-script x sort.Program = refl
still-script x _ = refl

still-module_block : (s : Sort) → (belongs s kind.TsModuleBlock && is_still s) ≡ false
still-module_block sort.Program = refl
still-module_block _ = refl

still-export : (s : Sort) → (belongs s kind.ExportDecl && is_still s) ≡ false
still-export sort.Program = refl
still-export _ = refl

still-if : (s : Sort) → (belongs s kind.IfStmt && is_still s) ≡ false
still-if sort.Program = refl
still-if _ = refl

still-for : (s : Sort) → (belongs s kind.ForStmt && is_still s) ≡ false
still-for sort.Program = refl
still-for _ = refl

still-for_in : (s : Sort) → (belongs s kind.ForInStmt && is_still s) ≡ false
still-for_in sort.Program = refl
still-for_in _ = refl

still-for_of : (x : Bool) → (s : Sort) → (belongs s (kind.ForOfStmt x) && is_still s) ≡ false
still-for_of x sort.Program = refl
still-for_of x _ = refl

still-while : (s : Sort) → (belongs s kind.WhileStmt && is_still s) ≡ false
still-while sort.Program = refl
still-while _ = refl

still-do_while : (s : Sort) → (belongs s kind.DoWhileStmt && is_still s) ≡ false
still-do_while sort.Program = refl
still-do_while _ = refl

still-labeled : (s : Sort) → (belongs s kind.LabeledStmt && is_still s) ≡ false
still-labeled sort.Program = refl
still-labeled _ = refl

still-try : (s : Sort) → (belongs s kind.TryStmt && is_still s) ≡ false
still-try sort.Program = refl
still-try _ = refl

still-catch : (s : Sort) → (belongs s kind.CatchClause && is_still s) ≡ false
still-catch sort.Program = refl
still-catch _ = refl

still-switch : (s : Sort) → (belongs s kind.SwitchStmt && is_still s) ≡ false
still-switch sort.Program = refl
still-switch _ = refl

still-case : (s : Sort) → (belongs s kind.SwitchCase && is_still s) ≡ false
still-case sort.Program = refl
still-case _ = refl

still-by : (s : Sort) (k : Kind) → is_list k ≡ false → belongs s k ≡ true → is_still s ≡ true → is_way k ≡ false
unfolding in_var
still-by s kind.List other b h = absurd (true-false refl other)
still-by s kind.BlockStmt other b h = absurd (true-false (and-both (belongs s kind.BlockStmt) (is_still s) b h) (still-block s))
still-by s (kind.VarDecl v d) other b h = absurd (true-false (and-both (belongs s (kind.VarDecl v d)) (is_still s) b h) (still-decl v d s))
still-by s (kind.Module x) other b h = absurd (true-false (and-both (belongs s (kind.Module x)) (is_still s) b h) (still-module x s))
still-by s (kind.Script x) other b h = absurd (true-false (and-both (belongs s (kind.Script x)) (is_still s) b h) (still-script x s))
still-by s kind.TsModuleBlock other b h = absurd (true-false (and-both (belongs s kind.TsModuleBlock) (is_still s) b h) (still-module_block s))
still-by s kind.ExportDecl other b h = absurd (true-false (and-both (belongs s kind.ExportDecl) (is_still s) b h) (still-export s))
still-by s kind.IfStmt other b h = absurd (true-false (and-both (belongs s kind.IfStmt) (is_still s) b h) (still-if s))
still-by s kind.ForStmt other b h = absurd (true-false (and-both (belongs s kind.ForStmt) (is_still s) b h) (still-for s))
still-by s kind.ForInStmt other b h = absurd (true-false (and-both (belongs s kind.ForInStmt) (is_still s) b h) (still-for_in s))
still-by s (kind.ForOfStmt x) other b h = absurd (true-false (and-both (belongs s (kind.ForOfStmt x)) (is_still s) b h) (still-for_of x s))
still-by s kind.WhileStmt other b h = absurd (true-false (and-both (belongs s kind.WhileStmt) (is_still s) b h) (still-while s))
still-by s kind.DoWhileStmt other b h = absurd (true-false (and-both (belongs s kind.DoWhileStmt) (is_still s) b h) (still-do_while s))
still-by s kind.LabeledStmt other b h = absurd (true-false (and-both (belongs s kind.LabeledStmt) (is_still s) b h) (still-labeled s))
still-by s kind.TryStmt other b h = absurd (true-false (and-both (belongs s kind.TryStmt) (is_still s) b h) (still-try s))
still-by s kind.CatchClause other b h = absurd (true-false (and-both (belongs s kind.CatchClause) (is_still s) b h) (still-catch s))
still-by s kind.SwitchStmt other b h = absurd (true-false (and-both (belongs s kind.SwitchStmt) (is_still s) b h) (still-switch s))
still-by s kind.SwitchCase other b h = absurd (true-false (and-both (belongs s kind.SwitchCase) (is_still s) b h) (still-case s))
still-by s _ other b h = refl

still-count : (c : Count) (s : Sort) (k : Kind) → is_list k ≡ false → allows_by c s k ≡ true → is_still s ≡ true → is_way k ≡ false
unfolding in_var
still-count One s k other a h = still-by s k other a h
still-count Maybe s kind.Absent other a h = refl
still-count Maybe s k other a h = still-by s k other a h
still-count Many s k other a h = absurd (true-false a other)
still-count MaybeMany s kind.Absent other a h = refl
still-count MaybeMany s k other a h = absurd (true-false a other)
still-count Holes s k other a h = absurd (true-false a other)

-- ---- the way of a `var`

-- a node in this role and of this shape: what does not hold `var` names itself is clear, if `var` is looked for there; and so is a list, but of what has none
pub record Path (t : Bool) (r : Role) (shape : Shape) (n : Node) : Type 0 where
  pub node : is_list (out-Node n).kind ≡ false → is_way (out-Node n).kind ≡ true → holds_vars r (out-Node n).kind ≡ false → is_clear t n var ≡ true
  pub items : is_list (out-Node n).kind ≡ true → (is_clear t n var ≡ true) ⊎ (is_still shape.sort ≡ true)

pub path-clear : (t : Bool) (r : Role) (shape : Shape) (n : Node) → is_clear t n var ≡ true → Path t r shape n
path-clear t r shape n h = record { node = λ other way none. h; items = λ is. inl h }

pub path-still : (t : Bool) (r : Role) (shape : Shape) (n : Node) → allows shape (out-Node n).kind ≡ true → is_still shape.sort ≡ true → Path t r shape n
path-still t r shape n a h = record { node = λ other way none. absurd (true-false way (still-count shape.count shape.sort (out-Node n).kind other a h)); items = λ is. inr h }

-- a shape in a role of which all that is on the way holds `var` names
abbrev Fine : Role → Shape → Type 0
Fine r s = (k : Kind) → allows s k ≡ true → (is_list k ≡ false) × (is_way k ≡ true → holds_vars r k ≡ true)

path-fine : (t : Bool) (r : Role) (shape : Shape) (n : Node) → allows shape (out-Node n).kind ≡ true → Fine r shape → Path t r shape n
path-fine t r shape n a fine = record {
  node = λ other way none. absurd (true-false ((fine (out-Node n).kind a).1 way) none);
  items = λ is. absurd (true-false is (fine (out-Node n).kind a).0);
}

abbrev Ends : Role → Shape → Type 0
Ends r s = (is_still s.sort ≡ true) ⊎ Fine r s

abbrev AllEnd : (ℕ → Role) → ℕ → List Shape → Type 0
AllEnd roles i [] = Unit {0}
AllEnd roles i (s ∷ shapes) = Ends (roles i) s × AllEnd roles (suc i) shapes

all-still : (roles : ℕ → Role) (i : ℕ) (shapes : List Shape) → list_all (λ s. is_still s.sort) shapes ≡ true → AllEnd roles i shapes
all-still roles i [] h = tt
all-still roles i (s ∷ shapes) h = (inl (and-left (is_still s.sort) (list_all (λ s. is_still s.sort) shapes) h), all-still roles (suc i) shapes (and-right (is_still s.sort) (list_all (λ s. is_still s.sort) shapes) h))

seq-still : (n : ℕ) → list_all (λ s. is_still s.sort) (replicate n (one sort.Expr)) ≡ true
seq-still zero = refl
seq-still (suc n) = seq-still n

block-fine : Fine role.Body (maybe sort.BlockStmt)
unfolding holds_vars in_var
block-fine kind.BlockStmt a = (refl, λ h. refl)
block-fine kind.Absent a = (refl, λ h. absurd (true-false h refl))
block-fine _ a = absurd (true-false a refl)

static-fine : Fine role.StaticBody (one sort.BlockStmt)
unfolding holds_vars in_var
static-fine kind.BlockStmt a = (refl, λ h. refl)
static-fine _ a = absurd (true-false a refl)

expr-list : (k : Kind) → is_expr k ≡ true → is_list k ≡ false
expr-list kind.List h = absurd (true-false h refl)
expr-list _ h = refl

arrow-fine : Fine role.Body (one sort.BlockStmtOrExpr)
unfolding holds_vars in_var
arrow-fine kind.BlockStmt a = (refl, λ h. refl)
arrow-fine k a = (expr-list k a, λ h. absurd (true-false h (ap is_some (var-expr true k a))))

namespace-fine : (r : Role) → Fine r (one sort.TsNamespaceBody)
unfolding holds_vars in_var
namespace-fine r kind.TsModuleBlock a = (refl, λ h. refl)
namespace-fine r (kind.TsNamespaceDecl d g) a = (refl, λ h. absurd (true-false h refl))
namespace-fine r _ a = absurd (true-false a refl)

maybe-namespace : (r : Role) → Fine r (maybe sort.TsNamespaceBody)
unfolding holds_vars in_var
maybe-namespace r kind.TsModuleBlock a = (refl, λ h. refl)
maybe-namespace r (kind.TsNamespaceDecl d g) a = (refl, λ h. absurd (true-false h refl))
maybe-namespace r kind.Absent a = (refl, λ h. absurd (true-false h refl))
maybe-namespace r _ a = absurd (true-false a refl)

-- a kind lets `var` pass to its children, or none of these is on the way
pub data Next (r : Role) (k : Kind) (sourced : Bool) (shapes : List Shape) : Type 0 where
  further : in_var true k ≡ Some var → is_list k ≡ false → Next r k sourced shapes
  ends : AllEnd (λ i. role_by r k sourced i) 0 shapes → Next r k sourced shapes

pub nexts : (r : Role) (k : Kind) (sourced : Bool) (shape : Shape) (n : ℕ) → is_list k ≡ false → Next r k sourced (child_shapes k shape n)
unfolding in_var role_by
nexts r kind.List sourced shape n other = absurd (true-false refl other)
nexts r kind.BlockStmt sourced shape n other = further refl refl
nexts r (kind.Module x) sourced shape n other = further refl refl
nexts r (kind.Script x) sourced shape n other = further refl refl
nexts r kind.TsModuleBlock sourced shape n other = further refl refl
nexts r kind.ExportDecl sourced shape n other = further refl refl
nexts r kind.IfStmt sourced shape n other = further refl refl
nexts r kind.ForStmt sourced shape n other = further refl refl
nexts r kind.ForInStmt sourced shape n other = further refl refl
nexts r (kind.ForOfStmt x) sourced shape n other = further refl refl
nexts r kind.WhileStmt sourced shape n other = further refl refl
nexts r kind.DoWhileStmt sourced shape n other = further refl refl
nexts r kind.LabeledStmt sourced shape n other = further refl refl
nexts r kind.TryStmt sourced shape n other = further refl refl
nexts r kind.CatchClause sourced shape n other = further refl refl
nexts r kind.SwitchStmt sourced shape n other = further refl refl
nexts r kind.SwitchCase sourced shape n other = further refl refl
nexts r (kind.Function g x) sourced shape n other = ends (inl refl, (inr block-fine, (inl refl, (inl refl, tt))))
nexts r (kind.ArrowExpr x g) sourced shape n other = ends (inl refl, (inr arrow-fine, (inl refl, (inl refl, tt))))
nexts r (kind.Constructor x o) sourced shape n other = ends (inl refl, (inl refl, (inr block-fine, tt)))
nexts r kind.GetterProp sourced shape n other = ends (inl refl, (inl refl, (inr block-fine, tt)))
nexts r kind.SetterProp sourced shape n other = ends (inl refl, (inl refl, (inl refl, (inr block-fine, tt))))
nexts r kind.StaticBlock sourced shape n other = ends (inr static-fine, tt)
nexts r (kind.TsModuleDecl d g) sourced shape n other = ends (inl refl, (inr (maybe-namespace (passes_ambient (d || is_ambient r))), tt))
nexts r (kind.TsNamespaceDecl d g) sourced shape n other = ends (inl refl, (inr (namespace-fine (passes_ambient (d || is_ambient r))), tt))
nexts r kind.SeqExpr sourced shape zero other = ends (inl refl, tt)
nexts r kind.SeqExpr sourced shape (suc n) other = ends (all-still (λ i. role_by r kind.SeqExpr sourced i) 0 (replicate (suc n) (one sort.Expr)) (seq-still (suc n)))
nexts r k sourced shape n other = ends (all-still (λ i. role_by r k sourced i) 0 (child_shapes k shape n) refl)

-- ---- the children of a node

abbrev pub AllPath : Bool → (ℕ → Role) → ℕ → List Shape → List Node → Type 0
AllPath t roles i (s ∷ shapes) (n ∷ ns) = Path t (roles i) s n × AllPath t roles (suc i) shapes ns
AllPath t roles i _ _ = Unit {0}

pub ends-path : (t : Bool) (roles : ℕ → Role) (i : ℕ) (shapes : List Shape) (ns : List Node) → HaveShapes shapes ns → AllEnd roles i shapes → AllPath t roles i shapes ns
ends-path t roles i [] ns have all = tt
ends-path t roles i (s ∷ shapes) [] have all = tt
ends-path t roles i (s ∷ shapes) (n ∷ ns) have all = (
  elim all.0 [ inl still ↦ path-still t (roles i) s n (parts-have n s have.0).0 still | inr fine ↦ path-fine t (roles i) s n (parts-have n s have.0).0 fine ],
  ends-path t roles (suc i) shapes ns have.1 all.1,
)

pub clear-path : (t : Bool) (roles : ℕ → Role) (i : ℕ) (shapes : List Shape) (ns : List Node) (into : ℕ → Option Sought) → ((j : ℕ) → into j ≡ Some var) → clear_in t false into i ns (map (is_clear t) ns) ≡ true → AllPath t roles i shapes ns
clear-path t roles i [] ns into is h = tt
clear-path t roles i (s ∷ shapes) [] into is h = tt
clear-path t roles i (s ∷ shapes) (n ∷ ns) into is h =
    let here : Bool = clear_at (into i) (is_clear t n) in
    let rest : Bool = clear_in t false into (suc i) ns (map (is_clear t) ns) in
    (path-clear t (roles i) s n (ap (λ (o : Option Sought). clear_at o (is_clear t n)) (sym (is i)) ∙ and-left here rest h), clear-path t roles (suc i) shapes ns into is (and-right here rest h))

-- of the items of a list those that stay
abbrev pub AllItems : Bool → (ℕ → Role) → ℕ → Shape → List Node → Type 0
AllItems t roles i shape [] = Unit {0}
AllItems t roles i shape (n ∷ ns) = (stays n ≡ true → Path t (roles i) shape n) × AllItems t roles (suc i) shape ns

pub still-items : (t : Bool) (roles : ℕ → Role) (i : ℕ) (shape : Shape) (ns : List Node) → HaveShapes (replicate (length ns) shape) ns → is_still shape.sort ≡ true → AllItems t roles i shape ns
still-items t roles i shape [] have h = tt
still-items t roles i shape (n ∷ ns) have h = ((λ st. path-still t (roles i) shape n (parts-have n shape have.0).0 h), still-items t roles (suc i) shape ns have.1 h)

pub clear-items : (t : Bool) (roles : ℕ → Role) (i : ℕ) (shape : Shape) (ns : List Node) (into : ℕ → Option Sought) → ((j : ℕ) → into j ≡ Some var) → clear_in t true into i ns (map (is_clear t) ns) ≡ true → AllItems t roles i shape ns
clear-items t roles i shape [] into is h = tt
clear-items t roles i shape (n ∷ ns) into is h =
    let gone : Bool = t || not (is_this_param n) in
    let here : Bool = cond (not (stays n)) gone (clear_at (into i) (is_clear t n)) in
    let rest : Bool = clear_in t true into (suc i) ns (map (is_clear t) ns) in (
      λ st. path-clear t (roles i) shape n
          (ap (λ (o : Option Sought). clear_at o (is_clear t n)) (sym (is i)) ∙ ap (λ (b : Bool). cond (not b) gone (clear_at (into i) (is_clear t n))) (sym st) ∙ and-left here rest h),
      clear-items t roles (suc i) shape ns into is (and-right here rest h),
    )

-- ---- a node

pub clear-inside : (t : Bool) (n : Node) → is_clear t n var ≡ true → clear_in t (is_list (out-Node n).kind) (sought_in var n) 0 (out-Node n).children (map (is_clear t) (out-Node n).children) ≡ true
clear-inside t n h =
    and-right (clear_here t n var) (clear_in t (is_list (out-Node n).kind) (sought_in var n) 0 (out-Node n).children (map (is_clear t) (out-Node n).children))
    (sym (ap (λ f. f var) (from_leaves_out (Sought → Bool) (clear_step t) n)) ∙ h)

pub further-in : (n : Node) → in_var true (out-Node n).kind ≡ Some var → (j : ℕ) → sought_in var n j ≡ Some var
unfolding sought_in
further-in n is j = is

pub list-way : (k : Kind) → k ≡ kind.List → in_var true k ≡ Some var
unfolding in_var
list-way k is = ap (in_var true) is

none-is : (o : Option Sought) → is_some o ≡ false → o ≡ None
none-is None h = refl
none-is (Some q) h = absurd (true-false refl h)

var-here : (k : Kind) → id_here var k ≡ []
var-here (kind.Ident t c o) = refl
var-here _ = refl

pub no-way : (n : Node) → is_way (out-Node n).kind ≡ false → ids_declared n var ≡ []
unfolding sought_in
no-way n h = silent n var (var-here (out-Node n).kind) (λ j. none-is (in_var true (out-Node n).kind) h)

pub way-plain : (k : Kind) → is_way (plain_kind k) ≡ is_way k
way-plain k = ap is_some (seeks-plain part.Var true true true k 0 (λ h. refl))

-- what holds `var` names is a scope
pub holds-opens : (r : Role) (k : Kind) (named : Bool) → holds_vars r k ≡ true → opens_by r k named ≡ true
unfolding holds_vars opens_by
holds-opens r (kind.Module s) named h = refl
holds-opens r (kind.Script s) named h = refl
holds-opens r kind.TsModuleBlock named h = refl
holds-opens r kind.BlockStmt named h = refl
holds-opens r _ named h = absurd (true-false h refl)

root-fine : Fine role.Root (one sort.Module)
unfolding holds_vars in_var
root-fine (kind.Module s) a = (refl, λ h. refl)
root-fine _ a = absurd (true-false a refl)

pub root-path : (t : Bool) (n : Node) → HasShape (one sort.Module) n → Path t role.Root (one sort.Module) n
root-path t n has = path-fine t role.Root (one sort.Module) n (parts-have n (one sort.Module) has).0 root-fine
