-- In a sorted module the bodies of functions are blocks or expressions, and its root holds the `var` names in it.
use Rattle.std.proofs.Common.{◌≡◌, ℕ, suc, Bool, true, false, ◌||◌, not, List, [], ◌∷◌, refl, ap}
use Rattle.ecma_kind.specs.Sorts.{is_expr}
use Rattle.ecma_kind.specs.declared.kind.Kind.{Kind}
use Rattle.ecma_kind.specs.declared.kind.Kind.TheVariants as kind
use Rattle.ecma_kind.specs.declared.shapes.Shape.{Shape}
use Rattle.ecma_kind.specs.declared.shapes.Sort.TheVariants as sort
use Rattle.ecma_tree.specs.Sorted.{allows, child_shapes, is_absent, maybe, one}
use Rattle.ecma_scope.specs.declared.role.Role.{Role}
use Rattle.ecma_scope.specs.declared.role.Role.TheVariants as role
use Rattle.ecma_scope.specs.Declarations.{holds_vars, is_body}
use Rattle.ecma_scope.specs.Scopes.{is_ambient, is_root, of_specifier, opens_by, passes_ambient, passes_in_list, role_by}
use Rattle.ecma_hygiene.proofs.Telling.{or-first, or-second, true-false}

abbrev is_holder : Role → Bool
is_holder r = is_root r || is_body r

abbrev guarded : Role → Kind → Bool
guarded r k = not (is_root r || is_body r) || (holds_vars r k || (is_expr k || is_absent k))

-- what a shape allows in a role
abbrev pub Holds : Role → Shape → Type 0
Holds r shape = (k : Kind) → allows shape k ≡ true → guarded r k ≡ true

abbrev pub AllHold : (ℕ → Role) → ℕ → List Shape → Type 0
AllHold roles i [] = Unit {0}
AllHold roles i (s ∷ shapes) = Holds (roles i) s × AllHold roles (suc i) shapes

unheld : (r : Role) (k : Kind) → (is_root r || is_body r) ≡ false → guarded r k ≡ true
unheld r k h = ap (λ (b : Bool). not b || (holds_vars r k || (is_expr k || is_absent k))) h

pub free : (r : Role) (shape : Shape) → (is_root r || is_body r) ≡ false → Holds r shape
free r shape h k a = unheld r k h

all-free : (roles : ℕ → Role) (i : ℕ) (shapes : List Shape) → ((j : ℕ) → (is_root (roles j) || is_body (roles j)) ≡ false) → AllHold roles i shapes
all-free roles i [] h = tt
all-free roles i (s ∷ shapes) h = (free (roles i) s (h i), all-free roles (suc i) shapes h)

block : Holds role.Body (maybe sort.BlockStmt)
unfolding holds_vars
block kind.BlockStmt a = refl
block kind.Absent a = refl
block _ a = absurd (true-false a refl)

static : Holds role.StaticBody (one sort.BlockStmt)
unfolding holds_vars
static kind.BlockStmt a = refl
static _ a = absurd (true-false a refl)

arrow : Holds role.Body (one sort.BlockStmtOrExpr)
unfolding holds_vars
arrow kind.BlockStmt a = refl
arrow k a = or-second (holds_vars role.Body k) (is_expr k || is_absent k) (or-first (is_expr k) (is_absent k) a)

pub module-root : Holds role.Root (one sort.Module)
unfolding holds_vars
module-root (kind.Module s) a = refl
module-root _ a = absurd (true-false a refl)

list-free : (r : Role) → is_holder (passes_in_list r) ≡ false
list-free role.Sourced = refl
list-free role.Ambient = refl
list-free _ = refl

first-free : (r : Role) → is_holder (of_specifier r 0) ≡ false
first-free role.Sourced = refl
first-free _ = refl

second-free : (r : Role) → is_holder (of_specifier r 1) ≡ false
second-free role.Sourced = refl
second-free _ = refl

ambient-free : (b : Bool) → is_holder (passes_ambient b) ≡ false
ambient-free true = refl
ambient-free false = refl

pub holds : (r : Role) (k : Kind) (sourced : Bool) (shape : Shape) (n : ℕ) → AllHold (λ i. role_by r k sourced i) 0 (child_shapes k shape n)
unfolding role_by
holds r kind.List sourced shape n = all-free (λ j. passes_in_list r) 0 (child_shapes kind.List shape n) (λ j. list-free r)
holds r kind.LabeledStmt sourced shape n = (λ k a. refl, (λ k a. refl, tt))
holds r kind.BreakStmt sourced shape n = (λ k a. refl, tt)
holds r kind.ContinueStmt sourced shape n = (λ k a. refl, tt)
holds r (kind.ImportNamedSpecifier t) sourced shape n = (λ k a. refl, (λ k a. refl, tt))
holds r (kind.ExportNamedSpecifier t) sourced shape n = ((λ k a. unheld (of_specifier r 0) k (first-free r)), ((λ k a. unheld (of_specifier r 1) k (second-free r)), tt))
holds r kind.ExportNamespaceSpecifier sourced shape n = (λ k a. refl, tt)
holds r kind.ExportDefaultSpecifier sourced shape n = (λ k a. refl, tt)
holds r (kind.NamedExport t) true shape n = (λ k a. refl, (λ k a. refl, (λ k a. refl, tt)))
holds r (kind.NamedExport t) false shape n = (λ k a. refl, (λ k a. refl, (λ k a. refl, tt)))
holds r (kind.Function g x) sourced shape n = (λ k a. refl, (block, (λ k a. refl, (λ k a. refl, tt))))
holds r (kind.ArrowExpr x g) sourced shape n = (λ k a. refl, (arrow, (λ k a. refl, (λ k a. refl, tt))))
holds r (kind.Constructor x o) sourced shape n = (λ k a. refl, (λ k a. refl, (block, tt)))
holds r kind.GetterProp sourced shape n = (λ k a. refl, (λ k a. refl, (block, tt)))
holds r kind.SetterProp sourced shape n = (λ k a. refl, (λ k a. refl, (λ k a. refl, (block, tt))))
holds r kind.StaticBlock sourced shape n = (static, tt)
holds r kind.CatchClause sourced shape n = (λ k a. refl, (λ k a. refl, tt))
holds r kind.ExportDefaultDecl sourced shape n = (λ k a. refl, tt)
holds r kind.ExportDecl sourced shape n = ((λ k a. unheld (role_by r kind.ExportDecl sourced 0) k (ambient-free (is_ambient r))), tt)
holds r (kind.TsModuleDecl d g) sourced shape n = ((λ k a. unheld (passes_ambient (d || is_ambient r)) k (ambient-free (d || is_ambient r))), ((λ k a. unheld (passes_ambient (d || is_ambient r)) k (ambient-free (d || is_ambient r))), tt))
holds r (kind.TsNamespaceDecl d g) sourced shape n = ((λ k a. unheld (passes_ambient (d || is_ambient r)) k (ambient-free (d || is_ambient r))), ((λ k a. unheld (passes_ambient (d || is_ambient r)) k (ambient-free (d || is_ambient r))), tt))
holds r kind.TsModuleBlock sourced shape n = ((λ k a. unheld (passes_ambient (is_ambient r)) k (ambient-free (is_ambient r))), tt)
holds r k sourced shape n = all-free (λ j. role.Plain) 0 (child_shapes k shape n) (λ j. refl)

there : (r : Role) (k : Kind) (named : Bool) → opens_by r k named ≡ true → is_absent k ≡ false
unfolding opens_by
there r kind.Absent named h = absurd (true-false h refl)
there r _ named h = refl

by-guard : (a b c d : Bool) → (not a || (b || (c || d))) ≡ true → a ≡ true → b ≡ false → d ≡ false → c ≡ true
by-guard false b c d h is none gone = absurd (true-false is refl)
by-guard true true c d h is none gone = absurd (true-false refl none)
by-guard true false true d h is none gone = refl
by-guard true false false d h is none gone = absurd (true-false h gone)

-- so where a root or a body opens a scope that does not hold `var` names, it is an expression
pub held : (r : Role) (shape : Shape) (k : Kind) (named : Bool) → Holds r shape → allows shape k ≡ true → opens_by r k named ≡ true → (is_root r || is_body r) ≡ true → holds_vars r k ≡ false → is_expr k ≡ true
held r shape k named hold allowed opened is none = by-guard (is_root r || is_body r) (holds_vars r k) (is_expr k) (is_absent k) (hold k allowed) is none (there r k named opened)
