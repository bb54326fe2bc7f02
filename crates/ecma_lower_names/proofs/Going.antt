-- What goes from a list has no effect.
use Rattle.std.proofs.Common.{◌≡◌, ◌⊎◌, inl, inr, refl, sym, ap, ap₂, ◌∙◌, subst, ℕ, List, [], ◌∷◌, map, Bool, true, false, ◌&&◌, ◌||◌, not, cond, length, get_or, slice_get, bytes_eq, codes, true≢false}
use Rattle.ecma_kind.specs.Sorts.{belongs}
use Rattle.ecma_kind.specs.declared.kind.Kind.{Kind}
use Rattle.ecma_kind.specs.declared.kind.Kind.TheVariants as kind
use Rattle.ecma_kind.specs.declared.shapes.Shape.{Shape}
use Rattle.ecma_kind.specs.declared.shapes.Sort.TheVariants as sort
use Rattle.ecma_tree.specs.declared.node.Node.{Node, out-Node}
use Rattle.ecma_tree.specs.Laws.{HaveShapes}
use Rattle.ecma_tree.specs.Sorted.{HasShape, child_shapes, one, maybe, many}
use Rattle.ecma_runs.specs.Meaning.{Meaning}
use Rattle.ecma_runs.specs.Declarations.{has_no_effect, is_type_of}
use Rattle.ecma_runs.specs.Evaluation.{meaning_by, meaning}
use Rattle.ecma_runs.proofs.Layer.{meaning_out}
use Rattle.ecma_strip.specs.Staying.{if_there, is_empty_stmt, is_declared, is_export, is_this, is_this_by, is_this_ident, is_this_param, is_this_param_by, item_stays, member_stays_by, specifier_stays, stays}
use Rattle.ecma_lower_names.proofs.Parts.{does_nothing}
use Rattle.ecma_lower_names.proofs.Valueless.{shape_out, body_absent, function_bodiless, valueless, typed, child_valueless, body_valueless}
use Rattle.ecma_tree.specs.Values.{is_value, value_by, values_in}
use Rattle.ecma_tree.proofs.Valuing.{is_value-out}

-- nodes of two shapes are two
pub two : (a b : Shape) (cs : List Node) → HaveShapes (a ∷ b ∷ []) cs → (x : Node) × (y : Node) × (cs ≡ x ∷ y ∷ []) × HasShape a x × HasShape b y
two a b (x ∷ y ∷ []) h = (x, y, refl, h.0, h.1.0)
two a b [] h = absurd h
two a b (x ∷ []) h = absurd h.1
two a b (x ∷ y ∷ z ∷ others) h = absurd h.1.1

pub single : (a : Shape) (cs : List Node) → HaveShapes (a ∷ []) cs → (x : Node) × (cs ≡ x ∷ []) × HasShape a x
single a (x ∷ []) h = (x, refl, h.0)
single a [] h = absurd h
single a (x ∷ y ∷ others) h = absurd h.1

pub three : (a b d : Shape) (cs : List Node) → HaveShapes (a ∷ b ∷ d ∷ []) cs → (x : Node) × (y : Node) × (z : Node) × (cs ≡ x ∷ y ∷ z ∷ []) × HasShape a x × HasShape b y × HasShape d z
three a b d (x ∷ y ∷ z ∷ []) h = (x, y, z, refl, h.0, h.1.0, h.1.1.0)
three a b d [] h = absurd h
three a b d (x ∷ []) h = absurd h.1
three a b d (x ∷ y ∷ []) h = absurd h.1.1
three a b d (x ∷ y ∷ z ∷ w ∷ others) h = absurd h.1.1.1

-- the name `this` means one that types a receiver

this_name : (k : Kind) → is_this_ident k ≡ true → (sym' : List ℕ) × (ctxt : ℕ) × (optional : Bool) × (k ≡ kind.Ident sym' ctxt optional) × (bytes_eq sym' (codes "this") ≡ true)
this_name (kind.Ident sym' ctxt optional) e = (sym', ctxt, optional, refl, e)
this_name _ e = absurd (cc)

this_pattern : (k : Kind) (p : Node) → is_this_by k p ≡ true → k ≡ kind.BindingIdent
this_pattern kind.BindingIdent p e = refl
this_pattern _ p e = absurd (cc)

name_means : (i : Node) → is_this_ident (out-Node i).kind ≡ true → (meaning i).is_this ≡ true
name_means i e =
    let name = this_name (out-Node i).kind e in
    ap (λ m. m.is_this) (meaning_out i) ∙ (ap (λ k. (meaning_by i k (map meaning (out-Node i).children)).is_this) name.3 ∙ name.4)

this_means : (p : Node) → HasShape (one sort.Pat) p → is_this p ≡ true → (meaning p).is_this ≡ true
this_means p h e =
    let is = this_pattern (out-Node p).kind p e in
    let s = shape_out (one sort.Pat) p h in
    let parts = two (one sort.Ident) (maybe sort.TsTypeAnn) (out-Node p).children (subst (λ k. HaveShapes (child_shapes k (one sort.Pat) (length (out-Node p).children)) (out-Node p).children) is s.1) in
    let are = parts.2 in
    let named : is_this_ident (out-Node parts.0).kind ≡ true = sym (ap (λ k. is_this_by k p) is ∙ ap (λ cs. if_there (slice_get cs 0) (λ x. is_this_ident (out-Node x).kind)) are) ∙ e in
    ap (λ m. m.is_this) (meaning_out p) ∙ (ap₂ (λ k cs. (meaning_by p k (map meaning cs)).is_this) is are ∙ name_means parts.0 named)

-- what stays, by the parts of a node

abbrev ambient_by : Kind → List Node → Bool
ambient_by k cs = cond (is_export k) (if_there (slice_get cs 0) (λ x. is_declared (out-Node x).kind)) (is_declared k)

abbrev pub item_by : Kind → List Node → Bool
item_by k cs = cond (is_empty_stmt k) true (cond (belongs sort.ModuleItem k) (value_by k (values_in true k cs) && not (ambient_by k cs)) true)

abbrev pub value_of : ℕ → List Node → Bool
value_of i cs = get_or (map is_value cs) i false

only_first : (a b : Bool) → a && b ≡ false → b ≡ true → a ≡ false
only_first true b h t = absurd (cc)
only_first false b h t = refl

-- what is ambient is a type alone, as it means
declared_type : (d : Node) → is_declared (out-Node d).kind ≡ true → (meaning d).is_type ≡ true
unfolding is_declared
declared_type d e = ap (λ m. m.is_type) (meaning_out d) ∙ typed d (out-Node d).kind (map meaning (out-Node d).children) (go (out-Node d).kind (map meaning (out-Node d).children) e)
  where
    go : (k : Kind) (ms : List Meaning) → is_declared k ≡ true → has_no_effect k ms || is_type_of k ms ≡ true
    go (kind.VarDecl word true) ms e = refl
    go (kind.FnDecl true) ms e = refl
    go (kind.ClassDecl true) ms e = refl
    go (kind.TsEnumDecl true is_const) ms e = refl
    go (kind.TsModuleDecl true global) ms e = refl
    go _ ms e = absurd (cc)

exported : (d : Node) → HasShape (one sort.Decl) d → (value declared : Bool) → is_value d ≡ value → is_declared (out-Node d).kind ≡ declared → is_value d && not (is_declared (out-Node d).kind) ≡ false → (meaning d).is_type ≡ true
exported d h false declared v e g = child_valueless sort.Decl (d, valueless d) refl h v
exported d h true true v e g = declared_type d e
exported d h true false v e g = absurd (true≢false (sym (ap₂ (λ a b. a && not b) v e) ∙ g))

-- what goes as an item has no effect
item_goes : (k : Kind) (cs : List Node) (shape : Shape) → HaveShapes (child_shapes k shape (length cs)) cs → item_by k cs ≡ false → has_no_effect k (map meaning cs) ≡ true
unfolding value_by is_declared
item_goes (kind.FnDecl false) cs shape s g =
    let parts = two (one sort.Ident) (one sort.Function) cs s in
    let v : is_value parts.1 ≡ false = only_first (is_value parts.1) true (sym (ap (λ cs. item_by (kind.FnDecl false) cs) parts.2) ∙ g) refl in
    ap (λ cs. has_no_effect (kind.FnDecl false) (map meaning cs)) parts.2 ∙ ap not (function_bodiless parts.1 parts.4 v)
item_goes (kind.TsModuleDecl false global) cs shape s g =
    let parts = two (one sort.TsModuleName) (maybe sort.TsNamespaceBody) cs s in
    let v : is_value parts.1 ≡ false = only_first (is_value parts.1) true (sym (ap (λ cs. item_by (kind.TsModuleDecl false global) cs) parts.2) ∙ g) refl in
    ap (λ cs. has_no_effect (kind.TsModuleDecl false global) (map meaning cs)) parts.2 ∙ body_valueless (parts.1, valueless parts.1) parts.4 v
item_goes kind.ExportDefaultDecl cs shape s g =
    let part = single (one sort.DefaultDecl) cs s in
    let v : is_value part.0 ≡ false = only_first (is_value part.0) true (sym (ap (λ cs. item_by kind.ExportDefaultDecl cs) part.1) ∙ g) refl in
    ap (λ cs. has_no_effect kind.ExportDefaultDecl (map meaning cs)) part.1 ∙ child_valueless sort.DefaultDecl (part.0, valueless part.0) refl part.2 v
item_goes kind.ExportDecl cs shape s g =
    let part = single (one sort.Decl) cs s in
    ap (λ cs. has_no_effect kind.ExportDecl (map meaning cs)) part.1
    ∙ exported part.0 part.2 (is_value part.0) (is_declared (out-Node part.0).kind) refl refl (sym (ap (λ cs. item_by kind.ExportDecl cs) part.1) ∙ g)
item_goes (kind.VarDecl word true) cs shape s g = refl
item_goes (kind.FnDecl true) cs shape s g = refl
item_goes (kind.ClassDecl true) cs shape s g = refl
item_goes (kind.TsEnumDecl true is_const) cs shape s g = refl
item_goes (kind.TsModuleDecl true global) cs shape s g = refl
item_goes (kind.TsInterfaceDecl declare) cs shape s g = refl
item_goes (kind.TsTypeAliasDecl declare) cs shape s g = refl
item_goes kind.TsNamespaceExportDecl cs shape s g = refl
item_goes (kind.ImportDecl true) cs shape s g = refl
item_goes (kind.NamedExport true) cs shape s g = refl
item_goes (kind.ExportAll true) cs shape s g = refl
item_goes (kind.TsImportEqualsDecl is_export true) cs shape s g = refl
item_goes _ cs shape s g = absurd (cc)

-- a member of a class
abbrev pub member_by : Kind → List Node → Bool
member_by (kind.TsIndexSignature readonly is_static) cs = false
member_by (kind.Constructor accessibility is_optional) cs = value_of 2 cs
member_by (kind.ClassMethod sort' modifiers) cs = not modifiers.is_abstract && value_of 1 cs
member_by (kind.PrivateMethod sort' modifiers) cs = not modifiers.is_abstract && value_of 1 cs
member_by (kind.ClassProp modifiers readonly declare definite) cs = not modifiers.is_abstract && not declare
member_by (kind.PrivateProp modifiers readonly declare definite) cs = not modifiers.is_abstract && not declare
member_by _ cs = true

abstract_or_bodiless : (is_abstract value has_body : Bool) → not is_abstract && value ≡ false → (value ≡ false → has_body ≡ false) → is_abstract || not has_body ≡ true
abstract_or_bodiless true value has_body g h = refl
abstract_or_bodiless false value has_body g h = rw (h g) refl

ambient_or_abstract : (is_abstract declare : Bool) → not is_abstract && not declare ≡ false → declare || is_abstract ≡ true
ambient_or_abstract true true g = refl
ambient_or_abstract true false g = refl
ambient_or_abstract false true g = refl
ambient_or_abstract false false g = absurd (cc)

member_goes : (k : Kind) (cs : List Node) (shape : Shape) → HaveShapes (child_shapes k shape (length cs)) cs → member_by k cs ≡ false → has_no_effect k (map meaning cs) ≡ true
member_goes (kind.TsIndexSignature readonly is_static) cs shape s g = refl
member_goes (kind.Constructor accessibility is_optional) cs shape s g =
    let k = kind.Constructor accessibility is_optional in
    let parts = three (one sort.PropName) (many sort.ParamOrTsParamProp) (maybe sort.BlockStmt) cs s in
    ap (λ cs. has_no_effect k (map meaning cs)) parts.3 ∙ body_absent parts.2 parts.6 (sym (ap (value_of 2) parts.3) ∙ g)
member_goes (kind.ClassMethod sort' modifiers) cs shape s g =
    let k = kind.ClassMethod sort' modifiers in
    let parts = two (one sort.PropName) (one sort.Function) cs s in
    ap (λ cs. has_no_effect k (map meaning cs)) parts.2
    ∙ abstract_or_bodiless modifiers.is_abstract (is_value parts.1) (meaning parts.1).has_body (sym (ap (λ cs. member_by k cs) parts.2) ∙ g) (function_bodiless parts.1 parts.4)
member_goes (kind.PrivateMethod sort' modifiers) cs shape s g =
    let k = kind.PrivateMethod sort' modifiers in
    let parts = two (one sort.PrivateName) (one sort.Function) cs s in
    ap (λ cs. has_no_effect k (map meaning cs)) parts.2
    ∙ abstract_or_bodiless modifiers.is_abstract (is_value parts.1) (meaning parts.1).has_body (sym (ap (λ cs. member_by k cs) parts.2) ∙ g) (function_bodiless parts.1 parts.4)
member_goes (kind.ClassProp modifiers readonly declare definite) cs shape s g = ambient_or_abstract modifiers.is_abstract declare g
member_goes (kind.PrivateProp modifiers readonly declare definite) cs shape s g = ambient_or_abstract modifiers.is_abstract declare g
member_goes _ cs shape s g = absurd (cc)

-- a specifier, and a type behind `implements`
specifier_goes : (k : Kind) (ms : List Meaning) → specifier_stays k ≡ false → has_no_effect k ms ≡ true
unfolding specifier_stays
specifier_goes (kind.ImportNamedSpecifier true) ms g = refl
specifier_goes (kind.ExportNamedSpecifier true) ms g = refl
specifier_goes kind.TsType ms g = refl
specifier_goes _ ms g = absurd (cc)

-- a parameter that types the receiver, but of no arrow function
receiver_goes : (n : Node) (k : Kind) (cs : List Node) (shape : Shape) → HaveShapes (child_shapes k shape (length cs)) cs → is_this n ≡ false → (out-Node n).children ≡ cs → is_this_param_by k n ≡ true → has_no_effect k (map meaning cs) ≡ true
receiver_goes n kind.Param cs shape s plain are g =
    let part = single (one sort.Pat) cs s in
    ap (λ cs. has_no_effect kind.Param (map meaning cs)) part.1 ∙ this_means part.0 part.2 (sym (ap (λ cs. if_there (slice_get cs 0) is_this) (are ∙ part.1)) ∙ g)
receiver_goes n _ cs shape s plain are g = absurd (true≢false (sym g ∙ plain))

four : (a b d e : Bool) → a && b && d && e ≡ false → (a ≡ false) ⊎ ((b ≡ false) ⊎ ((d ≡ false) ⊎ (e ≡ false)))
four false b d e h = inl refl
four true false d e h = inr (inl refl)
four true true false e h = inr (inr (inl refl))
four true true true e h = inr (inr (inr h))

negated : (b : Bool) → not b ≡ false → b ≡ true
negated true h = refl
negated false h = absurd (cc)

pub member_same : (k : Kind) (n : Node) → member_stays_by k n ≡ member_by k (out-Node n).children
unfolding member_stays_by
member_same (kind.TsIndexSignature readonly is_static) n = refl
member_same (kind.Constructor accessibility is_optional) n = refl
member_same (kind.ClassMethod sort' modifiers) n = refl
member_same (kind.PrivateMethod sort' modifiers) n = refl
member_same (kind.ClassProp modifiers readonly declare definite) n = refl
member_same (kind.PrivateProp modifiers readonly declare definite) n = refl
member_same _ n = refl

pub item_same : (n : Node) → item_stays n ≡ item_by (out-Node n).kind (out-Node n).children
item_same n =
    ap (λ v. cond (is_empty_stmt (out-Node n).kind) true (cond (belongs sort.ModuleItem (out-Node n).kind) (v && not (ambient_by (out-Node n).kind (out-Node n).children)) true)) (is_value-out n)

-- what goes from a list, and is no name `this`, has no effect
pub goes_silently : (n : Node) (shape : Shape) → HasShape shape n → is_this n ≡ false → stays n ≡ false → does_nothing n ≡ true
unfolding stays
goes_silently n shape h plain g =
    let k = (out-Node n).kind in
    let cs = (out-Node n).children in
    let s = (shape_out shape n h).1 in
    go (four (item_stays n) (member_stays_by k n) (specifier_stays k) (not (is_this_param n)) g) s
  where
    go : (item_stays n ≡ false) ⊎ ((member_stays_by (out-Node n).kind n ≡ false) ⊎ ((specifier_stays (out-Node n).kind ≡ false) ⊎ (not (is_this_param n) ≡ false)))
        → HaveShapes (child_shapes (out-Node n).kind shape (length (out-Node n).children)) (out-Node n).children → does_nothing n ≡ true
    go (inl e) s = item_goes (out-Node n).kind (out-Node n).children shape s (sym (item_same n) ∙ e)
    go (inr (inl e)) s = member_goes (out-Node n).kind (out-Node n).children shape s (sym (member_same (out-Node n).kind n) ∙ e)
    go (inr (inr (inl e))) s = specifier_goes (out-Node n).kind (map meaning (out-Node n).children) e
    go (inr (inr (inr e))) s = receiver_goes n (out-Node n).kind (out-Node n).children shape s plain refl (negated (is_this_param n) e)
