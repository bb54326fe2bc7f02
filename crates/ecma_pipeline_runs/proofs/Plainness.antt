-- What is full, and has no types, is plain.
use Rattle.std.proofs.Common.{◌≡◌, ℕ, zero, suc, Bool, true, false, ◌&&◌, ◌||◌, not, cond, List, [], ◌∷◌, map, length, Some, refl, sym, ap, ◌∙◌, slice_get}
use Rattle.std.specs.List.{list_all}
use Rattle.std.specs.Option.{is_some}
use Rattle.ecma_kind.specs.Sorts.{belongs}
use Rattle.ecma_kind.specs.declared.kind.Kind.{Kind}
use Rattle.ecma_kind.specs.declared.kind.Kind.TheVariants as kind
use Rattle.ecma_kind.specs.declared.operators.MemberModifiers.{MemberModifiers}
use Rattle.ecma_kind.specs.declared.shapes.Shape.{Shape}
use Rattle.ecma_kind.specs.declared.shapes.Sort.TheVariants as sort
use Rattle.ecma_tree.specs.declared.node.Node.{Node, fold_out-Node, out-Node}
use Rattle.ecma_tree.specs.Finding.{enters_all, finds, finds_from, finds_here}
use Rattle.ecma_tree.specs.Laws.{HaveShapes}
use Rattle.ecma_tree.specs.Sorted.{HasShape, child_shapes, one}
use Rattle.ecma_tree.proofs.Layers.{from_leaves_out}
use Rattle.ecma_runs.specs.Declarations.{has_no_effect}
use Rattle.ecma_runs.specs.Evaluation.{meaning, meaning_by, no_effect, role_by}
use Rattle.ecma_runs.specs.Meaning.{Meaning}
use Rattle.ecma_runs.proofs.Layer.{meaning_out}
use Rattle.ecma_strip.specs.Laws.{has_type_modifiers, is_type_part}
use Rattle.ecma_hygiene.proofs.Telling.{and-both, and-left, and-right, or-first, or-second, true-false}
use Rattle.ecma_hygiene_runs.specs.Plain.{has_no_receiver, is_none, is_plain, is_plain_kind, plain_by, plain_step}
use Rattle.ecma_strip_scopes.proofs.Going.{parts-have}
use Rattle.ecma_pipeline_runs.proofs.FullParts.{full_by, is_foreign, is_full, lacks}
use Rattle.ecma_pipeline_runs.proofs.Nodes.{by-children, child-shape, neither, none-some, not-true, some-same, test-below, test-here}

-- ---- the parts of what is full, and of what has no types

module _ (n : Node) (full : is_full n ≡ true) where
  abbrev others : Bool
  others = not (lacks (out-Node n).kind (map meaning (out-Node n).children)) && has_no_receiver (out-Node n).kind (out-Node n).children

  here : (not (is_foreign (out-Node n).kind) && others) ≡ true
  here = test-here full_by n full

  pub full-lowered : is_foreign (out-Node n).kind ≡ false
  full-lowered = not-true _ (and-left (not (is_foreign (out-Node n).kind)) others here)

  pub full-lacks : lacks (out-Node n).kind (map meaning (out-Node n).children) ≡ false
  full-lacks = not-true _ (and-left (not (lacks (out-Node n).kind (map meaning (out-Node n).children))) (has_no_receiver (out-Node n).kind (out-Node n).children) (and-right (not (is_foreign (out-Node n).kind)) others here))

  pub full-receiver : has_no_receiver (out-Node n).kind (out-Node n).children ≡ true
  full-receiver = and-right (not (lacks (out-Node n).kind (map meaning (out-Node n).children))) (has_no_receiver (out-Node n).kind (out-Node n).children) (and-right (not (is_foreign (out-Node n).kind)) others here)

module _ (f : Kind → Bool) where
  finds-parts : (n : Node) → finds f enters_all n ≡ false → (f (out-Node n).kind ≡ false) × (finds_from (enters_all (out-Node n).kind) 0 (map (finds f enters_all) (out-Node n).children) ≡ false)
  finds-parts n h = neither (f (out-Node n).kind) (finds_from (enters_all (out-Node n).kind) 0 (map (finds f enters_all) (out-Node n).children)) (sym (fold_out-Node Bool (finds_here f enters_all) n) ∙ h)

  from-at : (k : Kind) (cs : List Node) (j i : ℕ) (c : Node) → finds_from (enters_all k) j (map (finds f enters_all) cs) ≡ false → slice_get cs i ≡ Some c → finds f enters_all c ≡ false
  from-at k [] j i c h at = none-some at
  from-at k (x ∷ xs) j zero c h at = ap (finds f enters_all) (sym (some-same at)) ∙ (neither (finds f enters_all x) (finds_from (enters_all k) (suc j) (map (finds f enters_all) xs)) h).0
  from-at k (x ∷ xs) j (suc i) c h at = from-at k xs (suc j) i c (neither (finds f enters_all x) (finds_from (enters_all k) (suc j) (map (finds f enters_all) xs)) h).1 at

  pub finds-below : (n : Node) → finds f enters_all n ≡ false → (i : ℕ) (c : Node) → slice_get (out-Node n).children i ≡ Some c → finds f enters_all c ≡ false
  finds-below n h i c at = from-at (out-Node n).kind (out-Node n).children 0 i c (finds-parts n h).1 at

  pub finds-itself : (n : Node) → finds f enters_all n ≡ false → f (out-Node n).kind ≡ false
  finds-itself n h = (finds-parts n h).0

-- ---- no name is `this`

abbrev NotThis : Node → Type 0
NotThis n = is_full n ≡ true → (meaning n).is_this ≡ false

chosen-this : (n : Node) (k : Kind) (ms : List Meaning) (b : Bool) → (role_by n k ms).is_this ≡ false → (cond b (no_effect n) (role_by n k ms)).is_this ≡ false
chosen-this n k ms true h = refl
chosen-this n k ms false h = h

this-by : (n : Node) (k : Kind) (cs : List Node) → is_foreign k ≡ false → ((i : ℕ) (c : Node) → slice_get cs i ≡ Some c → (meaning c).is_this ≡ false) → (meaning_by n k (map meaning cs)).is_this ≡ false
this-by n kind.ParenExpr (e ∷ []) low each = each 0 e refl
this-by n kind.TsAsExpr (e ∷ t ∷ []) low each = each 0 e refl
this-by n kind.TsTypeAssertion (e ∷ t ∷ []) low each = each 0 e refl
this-by n kind.TsConstAssertion (e ∷ []) low each = each 0 e refl
this-by n kind.TsNonNullExpr (e ∷ []) low each = each 0 e refl
this-by n kind.TsInstantiation (e ∷ t ∷ []) low each = each 0 e refl
this-by n kind.TsSatisfiesExpr (e ∷ t ∷ []) low each = each 0 e refl
this-by n kind.TsTypeAnn cs low each = refl
this-by n kind.TsTypeParamDecl cs low each = refl
this-by n kind.TsTypeParamInstantiation cs low each = refl
this-by n kind.TsQualifiedName (a ∷ b ∷ []) low each = refl
this-by n (kind.TsImportEqualsDecl x y) cs low each = absurd (true-false refl low)
this-by n (kind.TsEnumDecl x y) cs low each = absurd (true-false refl low)
this-by n kind.TsEnumMember cs low each = absurd (true-false refl low)
this-by n (kind.Ident s c o) cs low each = chosen-this n (kind.Ident s c o) (map meaning cs) (has_no_effect (kind.Ident s c o) (map meaning cs)) low
this-by n kind.BindingIdent (id ∷ a ∷ []) low each = chosen-this n kind.BindingIdent (map meaning (id ∷ a ∷ [])) (has_no_effect kind.BindingIdent (map meaning (id ∷ a ∷ []))) (each 0 id refl)
this-by n kind.BindingIdent [] low each = refl
this-by n kind.BindingIdent (a ∷ []) low each = refl
this-by n kind.BindingIdent (a ∷ b ∷ c ∷ cs) low each = refl
this-by n kind.ParenExpr [] low each = refl
this-by n kind.ParenExpr (a ∷ b ∷ cs) low each = refl
this-by n kind.TsAsExpr [] low each = refl
this-by n kind.TsAsExpr (a ∷ []) low each = refl
this-by n kind.TsAsExpr (a ∷ b ∷ c ∷ cs) low each = refl
this-by n kind.TsTypeAssertion [] low each = refl
this-by n kind.TsTypeAssertion (a ∷ []) low each = refl
this-by n kind.TsTypeAssertion (a ∷ b ∷ c ∷ cs) low each = refl
this-by n kind.TsConstAssertion [] low each = refl
this-by n kind.TsConstAssertion (a ∷ b ∷ cs) low each = refl
this-by n kind.TsNonNullExpr [] low each = refl
this-by n kind.TsNonNullExpr (a ∷ b ∷ cs) low each = refl
this-by n kind.TsInstantiation [] low each = refl
this-by n kind.TsInstantiation (a ∷ []) low each = refl
this-by n kind.TsInstantiation (a ∷ b ∷ c ∷ cs) low each = refl
this-by n kind.TsSatisfiesExpr [] low each = refl
this-by n kind.TsSatisfiesExpr (a ∷ []) low each = refl
this-by n kind.TsSatisfiesExpr (a ∷ b ∷ c ∷ cs) low each = refl
this-by n k cs low each = chosen-this n k (map meaning cs) (has_no_effect k (map meaning cs)) refl

layer-this : (n : Node) → ((i : ℕ) (c : Node) → slice_get (out-Node n).children i ≡ Some c → NotThis c) → NotThis n
layer-this n below full =
    ap (λ (m : Meaning). m.is_this) (meaning_out n)
    ∙ this-by n (out-Node n).kind (out-Node n).children (full-lowered n full) (λ i c at. below i c at (test-below full_by n full i c at))

not-this : (n : Node) → NotThis n
not-this = by-children NotThis layer-this

-- ---- what is exported is no type

exported-by : (n : Node) (k : Kind) (s : Shape) (m : ℕ) (cs : List Node) → (belongs sort.Decl k || belongs sort.DefaultDecl k) ≡ true → HaveShapes (child_shapes k s m) cs → is_type_part k ≡ false → is_foreign k ≡ false → lacks k (map meaning cs) ≡ false
    → (meaning_by n k (map meaning cs)).is_type ≡ false
unfolding is_type_part
exported-by n (kind.VarDecl w false) s m cs b have t low l = refl
exported-by n (kind.VarDecl w true) s m cs b have t low l = absurd (true-false refl l)
exported-by n (kind.FnDecl false) s m (a ∷ f ∷ []) b have t low l = rw (l) refl
exported-by n (kind.FnDecl false) s m [] b have t low l = absurd have
exported-by n (kind.FnDecl false) s m (a ∷ []) b have t low l = absurd have.1
exported-by n (kind.FnDecl false) s m (a ∷ f ∷ g ∷ cs) b have t low l = absurd have.1.1
exported-by n (kind.FnDecl true) s m cs b have t low l = absurd (true-false refl t)
exported-by n (kind.ClassDecl false) s m cs b have t low l = refl
exported-by n (kind.ClassDecl true) s m cs b have t low l = absurd (true-false refl t)
exported-by n kind.FnExpr s m (a ∷ f ∷ []) b have t low l = rw (l) refl
exported-by n kind.FnExpr s m [] b have t low l = absurd have
exported-by n kind.FnExpr s m (a ∷ []) b have t low l = absurd have.1
exported-by n kind.FnExpr s m (a ∷ f ∷ g ∷ cs) b have t low l = absurd have.1.1
exported-by n kind.ClassExpr s m cs b have t low l = refl
exported-by n (kind.TsInterfaceDecl d) s m cs b have t low l = absurd (true-false refl t)
exported-by n (kind.TsTypeAliasDecl d) s m cs b have t low l = absurd (true-false refl t)
exported-by n (kind.TsEnumDecl d e) s m cs b have t low l = absurd (true-false refl low)
exported-by n (kind.TsModuleDecl d g) s m cs b have t low l = absurd (true-false refl low)
exported-by n _ s m cs b have t low l = absurd (true-false b refl)

exported : (d : Node) (s : Shape) → HasShape s d → (belongs sort.Decl (out-Node d).kind || belongs sort.DefaultDecl (out-Node d).kind) ≡ true → is_full d ≡ true → finds is_type_part enters_all d ≡ false → (meaning d).is_type ≡ false
exported d s has b full free =
    ap (λ (m : Meaning). m.is_type) (meaning_out d)
    ∙ exported-by d (out-Node d).kind s (length (out-Node d).children) (out-Node d).children b (parts-have d s has).1 (finds-itself is_type_part d free) (full-lowered d full) (full-lacks d full)

-- ---- each kind

plain-kind : (k : Kind) → is_type_part k ≡ false → is_foreign k ≡ false → is_plain_kind k ≡ true
unfolding is_type_part
plain-kind kind.TsAsExpr t low = absurd (true-false refl t)
plain-kind kind.TsTypeAssertion t low = absurd (true-false refl t)
plain-kind kind.TsConstAssertion t low = absurd (true-false refl t)
plain-kind kind.TsNonNullExpr t low = absurd (true-false refl t)
plain-kind kind.TsInstantiation t low = absurd (true-false refl t)
plain-kind kind.TsSatisfiesExpr t low = absurd (true-false refl t)
plain-kind kind.TsTypeAnn t low = absurd (true-false refl t)
plain-kind kind.TsTypeParamDecl t low = absurd (true-false refl t)
plain-kind kind.TsTypeParamInstantiation t low = absurd (true-false refl t)
plain-kind (kind.TsEnumDecl d e) t low = absurd (true-false refl low)
plain-kind kind.TsEnumMember t low = absurd (true-false refl low)
plain-kind (kind.TsModuleDecl d g) t low = absurd (true-false refl low)
plain-kind (kind.TsNamespaceDecl d g) t low = absurd (true-false refl low)
plain-kind (kind.TsImportEqualsDecl e x) t low = absurd (true-false refl low)
plain-kind _ t low = refl

told : (a b : Bool) → b ≡ false → (a || not b) ≡ true
told a b h = or-second a (not b) (ap not h)

abstract-none : (m : MemberModifiers) → has_type_modifiers m ≡ false → m.is_abstract ≡ false
abstract-none m h = (neither m.is_abstract (m.is_optional || m.is_override) (neither (is_some m.accessibility) (m.is_abstract || (m.is_optional || m.is_override)) h).1).0

either-none : (a b : Bool) → a ≡ false → b ≡ false → (a || b) ≡ false
either-none true b h g = absurd (true-false refl h)
either-none false b h g = g

property-none : (m : MemberModifiers) (r d e : Bool) → (has_type_modifiers m || (r || (d || e))) ≡ false → (d || m.is_abstract) ≡ false
property-none m r d e h =
    let parts = neither (has_type_modifiers m) (r || (d || e)) h in
    either-none d m.is_abstract (neither d e (neither r (d || e) parts.1).1).0 (abstract-none m parts.0)

abbrev Told : Kind → List Node → Type 0
Told k cs = (is_none cs || not (has_no_effect k (map meaning cs))) ≡ true

effect-by : (k : Kind) (s : Shape) (m : ℕ) (cs : List Node) → HaveShapes (child_shapes k s m) cs → is_type_part k ≡ false → is_foreign k ≡ false → lacks k (map meaning cs) ≡ false
    → ((i : ℕ) (c : Node) → slice_get cs i ≡ Some c → (is_full c ≡ true) × (finds is_type_part enters_all c ≡ false)) → Told k cs
unfolding is_type_part
effect-by kind.EmptyStmt s m [] have t low l each = refl
effect-by kind.EmptyStmt s m (c ∷ cs) have t low l each = absurd have
effect-by kind.TsType s m cs have t low l each = absurd (true-false refl t)
effect-by (kind.VarDecl w true) s m cs have t low l each = absurd (true-false refl l)
effect-by (kind.VarDecl w false) s m cs have t low l each = told (is_none cs) false refl
effect-by (kind.FnDecl true) s m cs have t low l each = absurd (true-false refl t)
effect-by (kind.FnDecl false) s m (a ∷ f ∷ []) have t low l each = told false (not (meaning f).has_body) l
effect-by (kind.FnDecl false) s m [] have t low l each = refl
effect-by (kind.FnDecl false) s m (a ∷ []) have t low l each = absurd have.1
effect-by (kind.FnDecl false) s m (a ∷ f ∷ g ∷ cs) have t low l each = absurd have.1.1
effect-by kind.FnExpr s m (a ∷ f ∷ []) have t low l each = told false (not (meaning f).has_body) l
effect-by kind.FnExpr s m [] have t low l each = refl
effect-by kind.FnExpr s m (a ∷ []) have t low l each = absurd have.1
effect-by kind.FnExpr s m (a ∷ f ∷ g ∷ cs) have t low l each = absurd have.1.1
effect-by (kind.ClassDecl true) s m cs have t low l each = absurd (true-false refl t)
effect-by (kind.ClassDecl false) s m cs have t low l each = told (is_none cs) false refl
effect-by (kind.TsEnumDecl d e) s m cs have t low l each = absurd (true-false refl low)
effect-by (kind.TsModuleDecl d g) s m cs have t low l each = absurd (true-false refl low)
effect-by (kind.TsNamespaceDecl d g) s m cs have t low l each = absurd (true-false refl low)
effect-by (kind.TsImportEqualsDecl e x) s m cs have t low l each = absurd (true-false refl low)
effect-by (kind.ImportNamedSpecifier true) s m cs have t low l each = absurd (true-false refl t)
effect-by (kind.ImportNamedSpecifier false) s m cs have t low l each = told (is_none cs) false refl
effect-by (kind.ExportNamedSpecifier true) s m cs have t low l each = absurd (true-false refl t)
effect-by (kind.ExportNamedSpecifier false) s m cs have t low l each = told (is_none cs) false refl
effect-by (kind.TsIndexSignature r d) s m cs have t low l each = absurd (true-false refl t)
effect-by (kind.ClassProp o r d e) s m cs have t low l each = told (is_none cs) (d || o.is_abstract) (property-none o r d e t)
effect-by (kind.PrivateProp o r d e) s m cs have t low l each = told (is_none cs) (d || o.is_abstract) (property-none o r d e t)
effect-by (kind.ClassMethod x o) s m (a ∷ f ∷ []) have t low l each = told false (o.is_abstract || not (meaning f).has_body) (either-none o.is_abstract (not (meaning f).has_body) (abstract-none o t) l)
effect-by (kind.ClassMethod x o) s m [] have t low l each = refl
effect-by (kind.ClassMethod x o) s m (a ∷ []) have t low l each = absurd have.1
effect-by (kind.ClassMethod x o) s m (a ∷ f ∷ g ∷ cs) have t low l each = absurd have.1.1
effect-by (kind.PrivateMethod x o) s m (a ∷ f ∷ []) have t low l each = told false (o.is_abstract || not (meaning f).has_body) (either-none o.is_abstract (not (meaning f).has_body) (abstract-none o t) l)
effect-by (kind.PrivateMethod x o) s m [] have t low l each = refl
effect-by (kind.PrivateMethod x o) s m (a ∷ []) have t low l each = absurd have.1
effect-by (kind.PrivateMethod x o) s m (a ∷ f ∷ g ∷ cs) have t low l each = absurd have.1.1
effect-by (kind.Constructor x o) s m (a ∷ p ∷ b ∷ []) have t low l each = told false (meaning b).is_absent l
effect-by (kind.Constructor x o) s m [] have t low l each = refl
effect-by (kind.Constructor x o) s m (a ∷ []) have t low l each = absurd have.1
effect-by (kind.Constructor x o) s m (a ∷ p ∷ []) have t low l each = absurd have.1.1
effect-by (kind.Constructor x o) s m (a ∷ p ∷ b ∷ c ∷ cs) have t low l each = absurd have.1.1.1
effect-by kind.Param s m (p ∷ []) have t low l each = told false (meaning p).is_this (not-this p (each 0 p refl).0)
effect-by kind.Param s m [] have t low l each = refl
effect-by kind.Param s m (p ∷ q ∷ cs) have t low l each = absurd have.1
effect-by (kind.TsInterfaceDecl d) s m cs have t low l each = absurd (true-false refl t)
effect-by (kind.TsTypeAliasDecl d) s m cs have t low l each = absurd (true-false refl t)
effect-by kind.TsNamespaceExportDecl s m cs have t low l each = absurd (true-false refl t)
effect-by (kind.ImportDecl true) s m cs have t low l each = absurd (true-false refl t)
effect-by (kind.ImportDecl false) s m cs have t low l each = told (is_none cs) false refl
effect-by (kind.NamedExport true) s m cs have t low l each = absurd (true-false refl t)
effect-by (kind.NamedExport false) s m cs have t low l each = told (is_none cs) false refl
effect-by (kind.ExportAll true) s m cs have t low l each = absurd (true-false refl t)
effect-by (kind.ExportAll false) s m cs have t low l each = told (is_none cs) false refl
effect-by kind.ExportDecl s m (d ∷ []) have t low l each =
    told false (meaning d).is_type (exported d (one sort.Decl) have.0 (or-first (belongs sort.Decl (out-Node d).kind) (belongs sort.DefaultDecl (out-Node d).kind) (parts-have d (one sort.Decl) have.0).0) (each 0 d refl).0 (each 0 d refl).1)
effect-by kind.ExportDecl s m [] have t low l each = refl
effect-by kind.ExportDecl s m (d ∷ e ∷ cs) have t low l each = absurd have.1
effect-by kind.ExportDefaultDecl s m (d ∷ []) have t low l each =
    told false (meaning d).is_type (exported d (one sort.DefaultDecl) have.0 (or-second (belongs sort.Decl (out-Node d).kind) (belongs sort.DefaultDecl (out-Node d).kind) (parts-have d (one sort.DefaultDecl) have.0).0) (each 0 d refl).0 (each 0 d refl).1)
effect-by kind.ExportDefaultDecl s m [] have t low l each = refl
effect-by kind.ExportDefaultDecl s m (d ∷ e ∷ cs) have t low l each = absurd have.1
effect-by _ s m cs have t low l each = told (is_none cs) false refl

with-receiver : (a b r : Bool) → (a || b) ≡ true → r ≡ true → (a || (b && r)) ≡ true
with-receiver true b r h g = refl
with-receiver false b r h g = and-both b r h g

abbrev Plainly : Node → Type 0
Plainly n = (s : Shape) → HasShape s n → is_full n ≡ true → finds is_type_part enters_all n ≡ false → is_plain n ≡ true

all-plain : (cs : List Node) → ((i : ℕ) (c : Node) → slice_get cs i ≡ Some c → is_plain c ≡ true) → list_all (λ b. b) (map is_plain cs) ≡ true
all-plain [] each = refl
all-plain (c ∷ cs) each = and-both (is_plain c) (list_all (λ b. b) (map is_plain cs)) (each 0 c refl) (all-plain cs (λ i d at. each (suc i) d at))

layer-plain : (n : Node) → ((i : ℕ) (c : Node) → slice_get (out-Node n).children i ≡ Some c → Plainly c) → Plainly n
layer-plain n below s has full free =
    let k = (out-Node n).kind in
    let cs = (out-Node n).children in
    let m = length cs in
    let have = (parts-have n s has).1 in
    let t = finds-itself is_type_part n free in
    let low = full-lowered n full in
    let told = effect-by k s m cs have t low (full-lacks n full) (λ i c at. (test-below full_by n full i c at, finds-below is_type_part n free i c at)) in
    from_leaves_out Bool plain_step n
    ∙ and-both (plain_by k cs) (list_all (λ b. b) (map is_plain cs))
    (and-both (is_plain_kind k) (is_none cs || (not (has_no_effect k (map meaning cs)) && has_no_receiver k cs)) (plain-kind k t low)
    (with-receiver (is_none cs) (not (has_no_effect k (map meaning cs))) (has_no_receiver k cs) told (full-receiver n full)))
    (all-plain cs (λ i c at. (let o = child-shape (child_shapes k s m) cs have i c at in below i c at o.0 o.2 (test-below full_by n full i c at) (finds-below is_type_part n free i c at))))

pub plainly : (n : Node) → Plainly n
plainly = by-children Plainly layer-plain
