-- What stands where in a plain module that fits, and that it is formed as the evaluator asks.
use Rattle.std.proofs.Common.{◌≡◌, refl, sym, ap, ◌∙◌, subst, ℕ, zero, suc, ◌==◌, List, [], ◌∷◌, map, filter, length, replicate, is_some, slice_get, Bool, true, false, cond, Option}
use Rattle.std.specs.List.{list_all}
use Rattle.ecma_kind.specs.Sorts.{belongs, is_expr}
use Rattle.ecma_kind.specs.declared.kind.Kind.{Kind}
use Rattle.ecma_kind.specs.declared.kind.Kind.TheVariants as kind
use Rattle.ecma_kind.specs.declared.shapes.Count.{Count}
use Rattle.ecma_kind.specs.declared.shapes.Shape.{Shape}
use Rattle.ecma_kind.specs.declared.shapes.Sort.{Sort}
use Rattle.ecma_kind.specs.declared.shapes.Sort.TheVariants as sort
use Rattle.ecma_tree.specs.declared.node.Node.{Node, out-Node}
use Rattle.ecma_tree.specs.declared.node.Node.TheViews.{roll-out-Node}
use Rattle.ecma_tree.specs.Laws.{HaveShapes}
use Rattle.ecma_tree.specs.Sorted.{HasShape, allows, allows_by, child_shapes, is_list, item_shape, maybe, one}
use Rattle.ecma_tree.proofs.ShapeLaws.{node_has_shape}
use Rattle.ecma_rules.specs.Children.{children_of}
use Rattle.ecma_rules.specs.Members.{has_second_constructor, is_full_constructor, second_by, second_of}
use Rattle.ecma_fits.specs.declared.unfit.Where.{Where}
use Rattle.ecma_fits.specs.Fitting.{where_in}
use Rattle.ecma_fits.specs.Roles.{is_out_of_role}
use Rattle.ecma_scope.specs.declared.role.Role.{Role}
use Rattle.ecma_scope.specs.declared.role.Role.TheVariants as role
use Rattle.ecma_scope.specs.Scopes.{at_child, is_ambient, is_default, is_root, is_there, of_exports, of_specifier, passes_ambient, passes_in_list, role_by}
use Rattle.ecma_hygiene.specs.Ids.{is_function_body}
use Rattle.ecma_hygiene.specs.Sights.{Around, around_child}
use Rattle.ecma_hygiene.proofs.Telling.{and-both, and-left, and-right, true-false}
use Rattle.ecma_hygiene_runs.specs.Plain.{is_plain, is_plain_kind}
use Rattle.ecma_runs.specs.Evaluation.{meaning, meaning_by}
use Rattle.ecma_runs.specs.Sought.{seeker, sought_by, sought_in}
use Rattle.ecma_runs.proofs.Layer.{meaning_out}
use Rattle.ecma_hygiene_meeting.specs.Records.{HasMembers, IsBody, IsFormed, has_parts}
use Rattle.ecma_pipeline_meeting.proofs.Members.{members-are}
use Rattle.ecma_pipeline_meeting.proofs.Parts.{AllPlain, Sound, plain-head, plain-kind, plain-out, plain-tail, sound-out}
use Rattle.ecma_pipeline_meeting.proofs.Patterns.{shape_out}
use Rattle.ecma_pipeline_meeting.proofs.Quiet.{Quiet, quiet, sought_out}
use Rattle.ecma_pipeline_meeting.proofs.Scopes.{Placed, is_module_kind}
use Rattle.ecma_pipeline_meeting.proofs.Variables.{by-count}
use Rattle.ecma_pipeline_meeting.proofs.Walks.{Each}

-- ---- sorts of what stands in a node

abbrev pub is_low : Sort → Bool
is_low sort.Program = false
is_low sort.Module = false
is_low sort.Script = false
is_low sort.TsNamespaceBody = false
is_low _ = true

no-module : (σ : Sort) (s : Option (List ℕ)) → is_low σ ≡ true → belongs σ (kind.Module s) ≡ false
no-module sort.Program s h = absurd (true-false h refl)
no-module sort.Module s h = absurd (true-false h refl)
no-module _ s h = refl

no-script : (σ : Sort) (s : Option (List ℕ)) → is_low σ ≡ true → belongs σ (kind.Script s) ≡ false
no-script sort.Program s h = absurd (true-false h refl)
no-script sort.Script s h = absurd (true-false h refl)
no-script _ s h = refl

no-block : (σ : Sort) → is_low σ ≡ true → belongs σ kind.TsModuleBlock ≡ false
no-block sort.TsNamespaceBody h = absurd (true-false h refl)
no-block _ h = refl

pub low-kind : (c : Count) (σ : Sort) (k : Kind) → is_low σ ≡ true → allows_by c σ k ≡ true → is_module_kind k ≡ false
low-kind c σ (kind.Module s) i a = absurd (true-false a (by-count c σ (kind.Module s) refl refl (no-module σ s i)))
low-kind c σ (kind.Script s) i a = absurd (true-false a (by-count c σ (kind.Script s) refl refl (no-script σ s i)))
low-kind c σ kind.TsModuleBlock i a = absurd (true-false a (by-count c σ kind.TsModuleBlock refl refl (no-block σ i)))
low-kind c σ _ i a = refl

low-all : (shape : Shape) (m : ℕ) → is_low shape.sort ≡ true → list_all (λ s. is_low s.sort) (replicate m shape) ≡ true
low-all shape zero h = refl
low-all shape (suc m) h = and-both (is_low shape.sort) (list_all (λ s. is_low s.sort) (replicate m shape)) h (low-all shape m h)

lows : (k : Kind) (shape : Shape) (m : ℕ) → is_plain_kind k ≡ true → (is_list k ≡ true → is_low shape.sort ≡ true) → list_all (λ s. is_low s.sort) (child_shapes k shape m) ≡ true
lows kind.List shape m j l = low-all (item_shape shape) m (l refl)
lows kind.SeqExpr shape zero j l = refl
lows kind.SeqExpr shape (suc m) j l = low-all (one sort.Expr) (suc m) refl
lows (kind.TsModuleDecl d g) shape m j l = absurd (true-false j refl)
lows (kind.TsNamespaceDecl d g) shape m j l = absurd (true-false j refl)
lows _ shape m j l = refl

-- ---- roles

root-child : (r : Role) (wanted i : ℕ) → is_root r ≡ false → is_root (at_child r wanted i) ≡ false
root-child r wanted i h = elim (i == wanted) as (λ b. is_root (cond b r role.Plain) ≡ false) [ true ↦ h | false ↦ refl ]

calm-child : (r : Role) (wanted i : ℕ) → is_ambient r ≡ false → is_ambient (at_child r wanted i) ≡ false
calm-child r wanted i h = elim (i == wanted) as (λ b. is_ambient (cond b r role.Plain) ≡ false) [ true ↦ h | false ↦ refl ]

default-child : (r : Role) (wanted i : ℕ) → is_default r ≡ false → is_default (at_child r wanted i) ≡ false
default-child r wanted i h = elim (i == wanted) as (λ b. is_default (cond b r role.Plain) ≡ false) [ true ↦ h | false ↦ refl ]

body-child : (r : Role) (wanted i : ℕ) → is_function_body r ≡ false → is_function_body (at_child r wanted i) ≡ false
body-child r wanted i h = elim (i == wanted) as (λ b. is_function_body (cond b r role.Plain) ≡ false) [ true ↦ h | false ↦ refl ]

-- of no role: the root, or ambient
record Apart (r : Role) : Type 0 where
  pub root : is_root r ≡ false
  pub calm : is_ambient r ≡ false
  pub default : is_default r ≡ false
  pub body : is_function_body r ≡ false

apart-child : (r : Role) (wanted i : ℕ) → Apart r → Apart (at_child r wanted i)
apart-child r wanted i a = record { root = root-child r wanted i a.root; calm = calm-child r wanted i a.calm; default = default-child r wanted i a.default; body = body-child r wanted i a.body }

plain-apart : Apart role.Plain
plain-apart = record { root = refl; calm = refl; default = refl; body = refl }

name-apart : Apart role.Name
name-apart = record { root = refl; calm = refl; default = refl; body = refl }

list-apart : (r : Role) → is_ambient r ≡ false → Apart (passes_in_list r)
list-apart role.Sourced h = record { root = refl; calm = refl; default = refl; body = refl }
list-apart role.Ambient h = absurd (true-false refl h)
list-apart _ h = plain-apart

passes-apart : (b : Bool) → b ≡ false → Apart (passes_ambient b)
passes-apart b h = subst (λ z. Apart (passes_ambient z)) (sym h) plain-apart

specifier-apart : (r : Role) (i : ℕ) → Apart (of_specifier r i)
specifier-apart role.Sourced i = name-apart
specifier-apart _ i = apart-child role.Name 1 i name-apart

exports-apart : (b : Bool) (i : ℕ) → Apart (of_exports b i)
exports-apart true i = apart-child role.Sourced 0 i (record { root = refl; calm = refl; default = refl; body = refl })
exports-apart false i = plain-apart

-- a kind that has the body of a function, or what is exported as the default
abbrev pub is_holder : Kind → Bool
is_holder (kind.Function is_generator is_async) = true
is_holder (kind.ArrowExpr is_async is_generator) = true
is_holder (kind.Constructor accessibility is_optional) = true
is_holder kind.GetterProp = true
is_holder kind.SetterProp = true
is_holder kind.ExportDefaultDecl = true
is_holder _ = false

role-apart : (r : Role) (k : Kind) (there : Bool) (i : ℕ) → is_ambient r ≡ false → is_plain_kind k ≡ true → is_holder k ≡ false → Apart (role_by r k there i)
unfolding role_by
role-apart r kind.List there i a j h = list-apart r a
role-apart r kind.LabeledStmt there i a j h = apart-child role.Name 0 i name-apart
role-apart r kind.BreakStmt there i a j h = name-apart
role-apart r kind.ContinueStmt there i a j h = name-apart
role-apart r (kind.ImportNamedSpecifier t) there i a j h = apart-child role.Name 1 i name-apart
role-apart r (kind.ExportNamedSpecifier t) there i a j h = specifier-apart r i
role-apart r kind.ExportNamespaceSpecifier there i a j h = name-apart
role-apart r kind.ExportDefaultSpecifier there i a j h = name-apart
role-apart r (kind.NamedExport t) there i a j h = exports-apart there i
role-apart r kind.StaticBlock there i a j h = record { root = refl; calm = refl; default = refl; body = refl }
role-apart r kind.CatchClause there i a j h = apart-child role.CatchBody 1 i (record { root = refl; calm = refl; default = refl; body = refl })
role-apart r kind.ExportDecl there i a j h = passes-apart (is_ambient r) a
role-apart r kind.TsModuleBlock there i a j h = passes-apart (is_ambient r) a
role-apart r (kind.TsModuleDecl d g) there i a j h = absurd (true-false j refl)
role-apart r (kind.TsNamespaceDecl d g) there i a j h = absurd (true-false j refl)
role-apart r (kind.Function g b) there i a j h = absurd (true-false refl h)
role-apart r (kind.ArrowExpr b g) there i a j h = absurd (true-false refl h)
role-apart r (kind.Constructor b o) there i a j h = absurd (true-false refl h)
role-apart r kind.GetterProp there i a j h = absurd (true-false refl h)
role-apart r kind.SetterProp there i a j h = absurd (true-false refl h)
role-apart r kind.ExportDefaultDecl there i a j h = absurd (true-false refl h)
role-apart r _ there i a j h = plain-apart

-- ---- bodies

same-children : (k : Kind) → is_list k ≡ false → (s t : Shape) (m : ℕ) → child_shapes k s m ≡ child_shapes k t m
same-children kind.List e s t m = absurd (true-false refl e)
same-children kind.SeqExpr e s t zero = refl
same-children kind.SeqExpr e s t (suc m) = refl
same-children _ e s t m = refl

-- a node has a shape that allows its kind where it has another
pub reshaped : (s t : Shape) (n : Node) → is_list (out-Node n).kind ≡ false → allows t (out-Node n).kind ≡ true → HasShape s n → HasShape t n
reshaped s t n l a h =
    let k = (out-Node n).kind in
    let cs = (out-Node n).children in
    subst (HasShape t) (roll-out-Node n) ((node_has_shape (out-Node n).span k cs t).1 (a, subst (λ z. HaveShapes z cs) (same-children k l s t (length cs)) (shape_out s n h).1))

expr-no-list : (k : Kind) → is_expr k ≡ true → is_list k ≡ false
expr-no-list kind.List e = absurd (true-false e refl)
expr-no-list _ e = refl

expr-body : (b : Node) (k : Kind) (cs : List Node) → is_expr k ≡ true → (meaning b).locals ≡ [] → (sought_in b).body_sought ≡ (sought_in b).sought → IsBody k cs b
expr-body b kind.BlockStmt cs e l s = absurd (true-false e refl)
expr-body b _ cs e l s = (refl, l, s)

arrow-body : (b : Node) (k : Kind) (cs : List Node) → belongs sort.BlockStmtOrExpr k ≡ true → HaveShapes (child_shapes k (one sort.BlockStmtOrExpr) (length cs)) cs → (is_expr k ≡ true → Quiet b) → IsBody k cs b
arrow-body b kind.BlockStmt (statements ∷ []) a h q = tt
arrow-body b kind.BlockStmt [] a h q = absurd h
arrow-body b kind.BlockStmt (c ∷ d ∷ cs) a h q = absurd h.1
arrow-body b k cs a h q = expr-body b k cs a (q a).none.locals (q a).same

is-arrow-body : (b : Node) → HasShape (one sort.BlockStmtOrExpr) b → is_plain b ≡ true → IsBody (out-Node b).kind (out-Node b).children b
is-arrow-body b h plain =
    let s = shape_out (one sort.BlockStmtOrExpr) b h in
    arrow-body b (out-Node b).kind (out-Node b).children s.0 s.1 (λ e. quiet b (reshaped (one sort.BlockStmtOrExpr) (one sort.Expr) b (expr-no-list (out-Node b).kind e) e h) plain)

maybe-body : (b : Node) (k : Kind) (cs : List Node) → allows (maybe sort.BlockStmt) k ≡ true → HaveShapes (child_shapes k (maybe sort.BlockStmt) (length cs)) cs
    → meaning b ≡ meaning_by b k (map meaning cs) → sought_in b ≡ sought_by k (map seeker cs) → IsBody k cs b
maybe-body b kind.Absent cs a h m s = (refl, ap (λ z. z.locals) m, ap (λ z. z.body_sought) s ∙ sym (ap (λ z. z.sought) s))
maybe-body b kind.BlockStmt (statements ∷ []) a h m s = tt
maybe-body b kind.BlockStmt [] a h m s = absurd h
maybe-body b kind.BlockStmt (c ∷ d ∷ cs) a h m s = absurd h.1
maybe-body b _ cs a h m s = absurd (true-false a refl)

is-maybe-body : (b : Node) → HasShape (maybe sort.BlockStmt) b → IsBody (out-Node b).kind (out-Node b).children b
is-maybe-body b h =
    let s = shape_out (maybe sort.BlockStmt) b h in
    maybe-body b (out-Node b).kind (out-Node b).children s.0 s.1 (meaning_out b) (sought_out b)

-- ---- what stands where

-- a node where its role says what it may be
pub record Seated (r : Role) (n : Node) : Type 0 where
  pub root : is_root r ≡ false
  pub calm : is_ambient r ≡ false
  pub default : is_default r ≡ true → belongs sort.DefaultDecl (out-Node n).kind ≡ true
  pub body : is_function_body r ≡ true → IsBody (out-Node n).kind (out-Node n).children n

apart-seated : (r : Role) (n : Node) → Apart r → Seated r n
apart-seated r n a = record { root = a.root; calm = a.calm; default = λ e. absurd (true-false e a.default); body = λ e. absurd (true-false e a.body) }

plain-seated : (n : Node) → Seated role.Plain n
plain-seated n = apart-seated role.Plain n plain-apart

body-seated : (n : Node) → IsBody (out-Node n).kind (out-Node n).children n → Seated role.Body n
body-seated n b = record { root = refl; calm = refl; default = λ e. absurd (true-false e refl); body = λ e. b }

all-apart : (roles : ℕ → Role) (i : ℕ) (cs : List Node) → ((j : ℕ) → Apart (roles j)) → Each (λ j c. Seated (roles j) c) i cs
all-apart roles i [] a = tt
all-apart roles i (c ∷ cs) a = (apart-seated (roles i) c (a i), all-apart roles (suc i) cs a)

-- the children of a node
seated-below : (r : Role) (k : Kind) (there : Bool) (shape : Shape) (cs : List Node) → is_ambient r ≡ false → is_plain_kind k ≡ true → HaveShapes (child_shapes k shape (length cs)) cs → AllPlain cs
    → (h : Bool) → is_holder k ≡ h → Each (λ i c. Seated (role_by r k there i) c) 0 cs
unfolding role_by
seated-below r k there shape cs a j have plain false is = all-apart (λ i. role_by r k there i) 0 cs (λ i. role-apart r k there i a j is)
seated-below r k there shape cs a j have plain true is = holder k cs is have plain
  where
    holder : (k : Kind) (cs : List Node) → is_holder k ≡ true → HaveShapes (child_shapes k shape (length cs)) cs → AllPlain cs → Each (λ i c. Seated (role_by r k there i) c) 0 cs
    holder (kind.Function g b) (ps ∷ body ∷ types ∷ type ∷ []) is h plain = (plain-seated ps, (body-seated body (is-maybe-body body h.1.0), (plain-seated types, (plain-seated type, tt))))
    holder (kind.Function g b) [] is h plain = tt
    holder (kind.Function g b) (c₁ ∷ []) is h plain = absurd h.1
    holder (kind.Function g b) (c₁ ∷ c₂ ∷ []) is h plain = absurd h.1.1
    holder (kind.Function g b) (c₁ ∷ c₂ ∷ c₃ ∷ []) is h plain = absurd h.1.1.1
    holder (kind.Function g b) (c₁ ∷ c₂ ∷ c₃ ∷ c₄ ∷ c₅ ∷ cs) is h plain = absurd h.1.1.1.1
    holder (kind.ArrowExpr b g) (ps ∷ body ∷ types ∷ type ∷ []) is h plain =
        (plain-seated ps, (body-seated body (is-arrow-body body h.1.0 (plain-head body (types ∷ type ∷ []) (plain-tail ps (body ∷ types ∷ type ∷ []) plain))), (plain-seated types, (plain-seated type, tt))))
    holder (kind.ArrowExpr b g) [] is h plain = tt
    holder (kind.ArrowExpr b g) (c₁ ∷ []) is h plain = absurd h.1
    holder (kind.ArrowExpr b g) (c₁ ∷ c₂ ∷ []) is h plain = absurd h.1.1
    holder (kind.ArrowExpr b g) (c₁ ∷ c₂ ∷ c₃ ∷ []) is h plain = absurd h.1.1.1
    holder (kind.ArrowExpr b g) (c₁ ∷ c₂ ∷ c₃ ∷ c₄ ∷ c₅ ∷ cs) is h plain = absurd h.1.1.1.1
    holder (kind.Constructor b o) (key ∷ ps ∷ body ∷ []) is h plain = (plain-seated key, (plain-seated ps, (body-seated body (is-maybe-body body h.1.1.0), tt)))
    holder (kind.Constructor b o) [] is h plain = tt
    holder (kind.Constructor b o) (c₁ ∷ []) is h plain = absurd h.1
    holder (kind.Constructor b o) (c₁ ∷ c₂ ∷ []) is h plain = absurd h.1.1
    holder (kind.Constructor b o) (c₁ ∷ c₂ ∷ c₃ ∷ c₄ ∷ cs) is h plain = absurd h.1.1.1
    holder kind.GetterProp (key ∷ type ∷ body ∷ []) is h plain = (plain-seated key, (plain-seated type, (body-seated body (is-maybe-body body h.1.1.0), tt)))
    holder kind.GetterProp [] is h plain = tt
    holder kind.GetterProp (c₁ ∷ []) is h plain = absurd h.1
    holder kind.GetterProp (c₁ ∷ c₂ ∷ []) is h plain = absurd h.1.1
    holder kind.GetterProp (c₁ ∷ c₂ ∷ c₃ ∷ c₄ ∷ cs) is h plain = absurd h.1.1.1
    holder kind.SetterProp (key ∷ receiver ∷ parameter ∷ body ∷ []) is h plain =
        (plain-seated key, (plain-seated receiver, (plain-seated parameter, (body-seated body (is-maybe-body body h.1.1.1.0), tt))))
    holder kind.SetterProp [] is h plain = tt
    holder kind.SetterProp (c₁ ∷ []) is h plain = absurd h.1
    holder kind.SetterProp (c₁ ∷ c₂ ∷ []) is h plain = absurd h.1.1
    holder kind.SetterProp (c₁ ∷ c₂ ∷ c₃ ∷ []) is h plain = absurd h.1.1.1
    holder kind.SetterProp (c₁ ∷ c₂ ∷ c₃ ∷ c₄ ∷ c₅ ∷ cs) is h plain = absurd h.1.1.1.1
    holder kind.ExportDefaultDecl (d ∷ []) is h plain =
        (record { root = refl; calm = refl; default = λ e. (shape_out (one sort.DefaultDecl) d h.0).0; body = λ e. absurd (true-false e refl) }, tt)
    holder kind.ExportDefaultDecl [] is h plain = tt
    holder kind.ExportDefaultDecl (c₁ ∷ c₂ ∷ cs) is h plain = absurd h.1
    holder _ cs is h plain = absurd (true-false is refl)

-- ---- a node of a plain module that fits

pub record Stands (n : Node) (s : Around) : Type 0 where
  pub w : Where
  pub shape : Shape
  pub has : HasShape shape n
  pub plain : is_plain n ≡ true
  pub placed : Placed w n
  pub single : Sound (λ w node. has_second_constructor node) w n
  pub top : is_root s.role ≡ true → belongs sort.Module (out-Node n).kind ≡ true
  pub low : is_root s.role ≡ false → is_low shape.sort ≡ true
  pub calm : is_ambient s.role ≡ false
  pub default : is_default s.role ≡ true → belongs sort.DefaultDecl (out-Node n).kind ≡ true
  pub body : is_function_body s.role ≡ true → IsBody (out-Node n).kind (out-Node n).children n

each-stands : (n : Node) (s : Around) (w : ℕ → Where) (i : ℕ) (shapes : List Shape) (cs : List Node) → HaveShapes shapes cs → AllPlain cs → list_all (λ s. is_low s.sort) shapes ≡ true
    → Each (λ j c. Placed (w j) c) i cs → Each (λ j c. Sound (λ w node. has_second_constructor node) (w j) c) i cs → Each (λ j c. Seated (around_child s n j).role c) i cs → Each (λ j c. Stands c (around_child s n j)) i cs
each-stands n s w i [] [] h plain low p q seats = tt
each-stands n s w i [] (c ∷ cs) h plain low p q seats = absurd h
each-stands n s w i (o ∷ shapes) [] h plain low p q seats = absurd h
each-stands n s w i (o ∷ shapes) (c ∷ cs) h plain low p q seats = (
  record {
    w = w i;
    shape = o;
    has = h.0;
    plain = plain-head c cs plain;
    placed = p.0;
    single = q.0;
    top = λ e. absurd (true-false e seats.0.root);
    low = λ e. and-left (is_low o.sort) (list_all (λ s. is_low s.sort) shapes) low;
    calm = seats.0.calm;
    default = seats.0.default;
    body = seats.0.body;
  },
  each-stands n s w (suc i) shapes cs h.1 (plain-tail c cs plain) (and-right (is_low o.sort) (list_all (λ s. is_low s.sort) shapes) low) p.1 q.1 seats.1,
)

list-low : (r : Role) (k : Kind) (shape : Shape) (b : Bool) → is_root r ≡ b → (is_root r ≡ true → belongs sort.Module k ≡ true) → (is_root r ≡ false → is_low shape.sort ≡ true) → is_list k ≡ true → is_low shape.sort ≡ true
list-low r k shape true is top low l = absurd (no k (top is) l)
  where
    no : (k : Kind) → belongs sort.Module k ≡ true → is_list k ≡ true → ⊥
    no kind.List a l = true-false a refl
    no _ a l = true-false l refl
list-low r k shape false is top low l = low is

pub down : (n : Node) (s : Around) → Stands n s → Each (λ i c. Stands c (around_child s n i)) 0 (out-Node n).children
down n s h =
    let k = (out-Node n).kind in
    let cs = (out-Node n).children in
    let shapes = shape_out h.shape n h.has in
    let t = plain-out n h.plain in
    let j = plain-kind k cs t.0 in
    each-stands n s (where_in h.w n) 0 (child_shapes k h.shape (length cs)) cs shapes.1 t.1 (lows k h.shape (length cs) j (list-low s.role k h.shape (is_root s.role) refl h.top h.low))
    (sound-out (λ w node. is_out_of_role w.role node) h.w n h.placed).1 (sound-out (λ w node. has_second_constructor node) h.w n h.single).1
    (seated-below s.role k (is_there cs 1) h.shape cs h.calm j shapes.1 t.1 (is_holder k) refl)

-- ---- what is formed

parts-by : (k : Kind) (shape : Shape) (cs : List Node) → HaveShapes (child_shapes k shape (length cs)) cs → has_parts k cs ≡ true
parts-by kind.GetterProp shape (key ∷ type ∷ body ∷ []) h = refl
parts-by kind.GetterProp shape [] h = absurd h
parts-by kind.GetterProp shape (a ∷ []) h = absurd h.1
parts-by kind.GetterProp shape (a ∷ b ∷ []) h = absurd h.1.1
parts-by kind.GetterProp shape (a ∷ b ∷ c ∷ d ∷ cs) h = absurd h.1.1.1
parts-by kind.SetterProp shape (key ∷ receiver ∷ parameter ∷ body ∷ []) h = refl
parts-by kind.SetterProp shape [] h = absurd h
parts-by kind.SetterProp shape (a ∷ []) h = absurd h.1
parts-by kind.SetterProp shape (a ∷ b ∷ []) h = absurd h.1.1
parts-by kind.SetterProp shape (a ∷ b ∷ c ∷ []) h = absurd h.1.1.1
parts-by kind.SetterProp shape (a ∷ b ∷ c ∷ d ∷ e ∷ cs) h = absurd h.1.1.1.1
parts-by _ shape cs h = refl

members-by : (n : Node) (k : Kind) (shape : Shape) (cs : List Node) → HaveShapes (child_shapes k shape (length cs)) cs → AllPlain cs → is_some (second_by k n) ≡ false → (out-Node n).children ≡ cs → HasMembers k cs
members-by n (kind.Class a) shape (super ∷ body ∷ types ∷ super_types ∷ implements ∷ []) h plain e are =
    members-are body h.1.0 (plain-head body (types ∷ super_types ∷ implements ∷ []) (plain-tail super (body ∷ types ∷ super_types ∷ implements ∷ []) plain))
    (sym (ap (λ zs. is_some (second_of (filter is_full_constructor (children_of (slice_get zs 1))))) are) ∙ e)
members-by n (kind.Class a) shape [] h plain e are = tt
members-by n (kind.Class a) shape (c₁ ∷ []) h plain e are = tt
members-by n (kind.Class a) shape (c₁ ∷ c₂ ∷ []) h plain e are = tt
members-by n (kind.Class a) shape (c₁ ∷ c₂ ∷ c₃ ∷ []) h plain e are = tt
members-by n (kind.Class a) shape (c₁ ∷ c₂ ∷ c₃ ∷ c₄ ∷ []) h plain e are = tt
members-by n (kind.Class a) shape (c₁ ∷ c₂ ∷ c₃ ∷ c₄ ∷ c₅ ∷ c₆ ∷ cs) h plain e are = tt
members-by n _ shape cs h plain e are = tt

pub formed : (n : Node) (s : Around) → Stands n s → IsFormed (record { around = s; node = n })
formed n s h =
    let shapes = shape_out h.shape n h.has in
    record {
      parts = parts-by (out-Node n).kind h.shape (out-Node n).children shapes.1;
      body = h.body;
      members = members-by n (out-Node n).kind h.shape (out-Node n).children shapes.1 (plain-out n h.plain).1 (sound-out (λ w node. has_second_constructor node) h.w n h.single).0 refl;
      default = h.default;
    }
