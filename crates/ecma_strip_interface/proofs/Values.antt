-- What is a value among imports and exports is one without its types, but for enums and namespaces.
use Rattle.std.proofs.Common.{◌≡◌, ◌∙◌, ◌||◌, ◌&&◌, not, Bool, true, false, map, refl, sym, ap, ap₂}
use Rattle.ecma_kind.specs.Sorts.{belongs}
use Rattle.ecma_kind.specs.declared.kind.Kind.{Kind}
use Rattle.ecma_kind.specs.declared.kind.Kind.TheVariants as kind
use Rattle.ecma_kind.specs.declared.shapes.Sort.TheVariants as sort
use Rattle.ecma_tree.specs.declared.node.Node.{Node}
use Rattle.ecma_tree.specs.Sorted.{HasShape, is_absent, maybe, one}
use Rattle.ecma_tree.specs.Values.{is_value_where, value_by}
use Rattle.ecma_tree.proofs.Valuing.{is_value_where-out, value_where_by}
use Rattle.ecma_rules.specs.Children.{kind_of}
use Rattle.ecma_strip.specs.Stripping.{plain_children, plain_kind, stripped}
use Rattle.ecma_strip_fits.proofs.Classes.{class_of}
use Rattle.ecma_strip_fits.proofs.Classes.Class.{Usual}
use Rattle.ecma_strip_fits.proofs.Walk.{usual_children, usual_kind}
use Rattle.ecma_sources.specs.TypesAlone.{is_lowered}
use Rattle.ecma_interface_laws.proofs.Alike.{children_of}
use Rattle.ecma_interface_laws.proofs.Telling.{child_shaped, shapes_of}
use Rattle.ecma_strip_interface.proofs.Kept.{got_kept}

value_as : (s : Bool) (n : Node) (k : Kind) → kind_of n ≡ k → is_value_where s n ≡ value_where_by s k (children_of n)
value_as s n k e = is_value_where-out s n ∙ ap (λ z. value_where_by s z (children_of n)) e

stripped_value : (s : Bool) (n : Node) (k : Kind) → kind_of n ≡ k → class_of k ≡ Usual → is_value_where s (stripped n) ≡ value_where_by s (plain_kind k) (plain_children k (map stripped (children_of n)))
stripped_value s n k e u =
    is_value_where-out s (stripped n)
    ∙ ap₂ (value_where_by s) (usual_kind n (ap class_of e ∙ u) ∙ ap plain_kind e) (usual_children n (ap class_of e ∙ u) ∙ ap (λ z. plain_children z (map stripped (children_of n))) e)

body_value : (s : Bool) (n : Node) → HasShape (maybe sort.BlockStmt) n → is_value_where s (stripped n) ≡ is_value_where s n
unfolding class_of plain_kind plain_children value_by
body_value s n h = by (kind_of n) refl (shapes_of n (maybe sort.BlockStmt) h).0
  where
    by : (k : Kind) → kind_of n ≡ k → (is_absent k || belongs sort.BlockStmt k) ≡ true → is_value_where s (stripped n) ≡ is_value_where s n
    by kind.Absent e b = stripped_value s n kind.Absent e refl ∙ sym (value_as s n kind.Absent e)
    by kind.BlockStmt e b = stripped_value s n kind.BlockStmt e refl ∙ sym (value_as s n kind.BlockStmt e)
    by _ e b = cc

function_value : (s : Bool) (n : Node) → HasShape (one sort.Function) n → is_value_where s (stripped n) ≡ is_value_where s n
unfolding class_of plain_kind plain_children value_by
function_value s n h = by (kind_of n) refl (shapes_of n (one sort.Function) h).0
  where
    by : (k : Kind) → kind_of n ≡ k → belongs sort.Function k ≡ true → is_value_where s (stripped n) ≡ is_value_where s n
    by (kind.Function g a) e b =
        stripped_value s n (kind.Function g a) e refl
        ∙ ap (λ v. (true && not s) || v)
        (got_kept (is_value_where (true && s)) (children_of n) 1 (λ c at. body_value (true && s) c (child_shaped n (one sort.Function, h) (kind.Function g a) e 1 (maybe sort.BlockStmt) (λ z m. refl) c at)))
        ∙ sym (value_as s n (kind.Function g a) e)
    by _ e b = cc

pub declaration_value : (s : Bool) (n : Node) → HasShape (one sort.Decl) n → is_lowered (kind_of n) ≡ false → is_value_where s (stripped n) ≡ is_value_where s n
unfolding class_of plain_kind plain_children value_by
declaration_value s n h l = by (kind_of n) refl (shapes_of n (one sort.Decl) h).0 l
  where
    by : (k : Kind) → kind_of n ≡ k → belongs sort.Decl k ≡ true → is_lowered k ≡ false → is_value_where s (stripped n) ≡ is_value_where s n
    by (kind.FnDecl declare) e b l =
        stripped_value s n (kind.FnDecl declare) e refl
        ∙ ap (λ v. (false && not s) || v)
        (got_kept (is_value_where (not declare && s)) (children_of n) 1 (λ c at. function_value (not declare && s) c (child_shaped n (one sort.Decl, h) (kind.FnDecl declare) e 1 (one sort.Function) (λ z m. refl) c at)))
        ∙ sym (value_as s n (kind.FnDecl declare) e)
    by (kind.ClassDecl declare) e b l = stripped_value s n (kind.ClassDecl declare) e refl ∙ sym (value_as s n (kind.ClassDecl declare) e)
    by (kind.VarDecl v declare) e b l = stripped_value s n (kind.VarDecl v declare) e refl ∙ sym (value_as s n (kind.VarDecl v declare) e)
    by (kind.TsInterfaceDecl declare) e b l = stripped_value s n (kind.TsInterfaceDecl declare) e refl ∙ sym (value_as s n (kind.TsInterfaceDecl declare) e)
    by (kind.TsTypeAliasDecl declare) e b l = stripped_value s n (kind.TsTypeAliasDecl declare) e refl ∙ sym (value_as s n (kind.TsTypeAliasDecl declare) e)
    by (kind.TsEnumDecl declare is_const) e b l = stripped_value s n (kind.TsEnumDecl declare is_const) e refl ∙ sym (value_as s n (kind.TsEnumDecl declare is_const) e)
    by (kind.TsModuleDecl declare global) e b l = cc
    by _ e b l = cc

pub default_value : (s : Bool) (n : Node) → HasShape (one sort.DefaultDecl) n → is_value_where s (stripped n) ≡ is_value_where s n
unfolding class_of plain_kind plain_children value_by
default_value s n h = by (kind_of n) refl (shapes_of n (one sort.DefaultDecl) h).0
  where
    by : (k : Kind) → kind_of n ≡ k → belongs sort.DefaultDecl k ≡ true → is_value_where s (stripped n) ≡ is_value_where s n
    by kind.FnExpr e b =
        stripped_value s n kind.FnExpr e refl
        ∙ ap (λ v. (false && not s) || v)
        (got_kept (is_value_where (true && s)) (children_of n) 1 (λ c at. function_value (true && s) c (child_shaped n (one sort.DefaultDecl, h) kind.FnExpr e 1 (one sort.Function) (λ z m. refl) c at)))
        ∙ sym (value_as s n kind.FnExpr e)
    by kind.ClassExpr e b = stripped_value s n kind.ClassExpr e refl ∙ sym (value_as s n kind.ClassExpr e)
    by (kind.TsInterfaceDecl declare) e b = stripped_value s n (kind.TsInterfaceDecl declare) e refl ∙ sym (value_as s n (kind.TsInterfaceDecl declare) e)
    by _ e b = cc
