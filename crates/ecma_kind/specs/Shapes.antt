-- Which children each kind of node has, in order: for each its name, how many nodes it is, and of which sort.
use Rattle.std.specs.Prelude.{◌≡◌, ◌≢◌, ◌<◌, ℕ, List, [], ◌∷◌, map, slice_get, Some}
use Rattle.ecma_kind.specs.declared.kind.Kind.{Kind}
use Rattle.ecma_kind.specs.declared.kind.Kind.TheVariants as kind
use Rattle.ecma_kind.specs.declared.shapes.Field.{Field}
use Rattle.ecma_kind.specs.declared.shapes.Field.TheVariants as field
use Rattle.ecma_kind.specs.declared.shapes.Sort.{Sort}
use Rattle.ecma_kind.specs.declared.shapes.Sort.TheVariants as sort
use Rattle.ecma_kind.specs.declared.shapes.Count.{Count}
use Rattle.ecma_kind.specs.declared.shapes.Count.TheVariants.{One, Maybe, Many, MaybeMany, Holes}
use Rattle.ecma_kind.specs.declared.shapes.FieldShape.{FieldShape}

-- the child of this name: so many nodes of a sort
abbrev child : Count → Field → Sort → FieldShape
child count field sort = record { field = field; shape = record { count = count; sort = sort } }

abbrev pub field_shapes : Kind → List FieldShape
field_shapes (kind.Module shebang) = child Many field.Body sort.ModuleItem ∷ []
field_shapes (kind.Script shebang) = child Many field.Body sort.Stmt ∷ []
field_shapes kind.BindingIdent = child One field.Id sort.Ident ∷ child Maybe field.TypeAnn sort.TsTypeAnn ∷ []
field_shapes kind.ArrayLit = child Holes field.Elems sort.ExprOrSpread ∷ []
field_shapes kind.ObjectLit = child Many field.Props sort.PropOrSpread ∷ []
field_shapes kind.SpreadElement = child One field.Expr sort.Expr ∷ []
field_shapes kind.FnExpr = child Maybe field.Ident sort.Ident ∷ child One field.Function sort.Function ∷ []
field_shapes kind.ClassExpr = child Maybe field.Ident sort.Ident ∷ child One field.Class sort.Class ∷ []
field_shapes (kind.ArrowExpr is_async is_generator) = child Many field.Params sort.Pat ∷ child One field.Body sort.BlockStmtOrExpr ∷ child Maybe field.TypeParams sort.TsTypeParamDecl ∷ child Maybe field.ReturnType sort.TsTypeAnn ∷ []
field_shapes (kind.UnaryExpr op) = child One field.Arg sort.Expr ∷ []
field_shapes (kind.UpdateExpr op prefix) = child One field.Arg sort.Expr ∷ []
field_shapes (kind.BinExpr op) = child One field.Left sort.Expr ∷ child One field.Right sort.Expr ∷ []
field_shapes (kind.AssignExpr op) = child One field.Left sort.AssignTarget ∷ child One field.Right sort.Expr ∷ []
field_shapes kind.CondExpr = child One field.Test sort.Expr ∷ child One field.Cons sort.Expr ∷ child One field.Alt sort.Expr ∷ []
field_shapes kind.MemberExpr = child One field.Obj sort.Expr ∷ child One field.Prop sort.MemberProp ∷ []
field_shapes kind.SuperPropExpr = child One field.Obj sort.Super ∷ child One field.Prop sort.SuperProp ∷ []
field_shapes kind.CallExpr = child One field.Callee sort.Callee ∷ child Many field.Args sort.ExprOrSpread ∷ child Maybe field.TypeArgs sort.TsTypeParamInstantiation ∷ []
field_shapes kind.NewExpr = child One field.Callee sort.Expr ∷ child MaybeMany field.Args sort.ExprOrSpread ∷ child Maybe field.TypeArgs sort.TsTypeParamInstantiation ∷ []
field_shapes (kind.OptChainExpr optional) = child One field.Base sort.OptChainBase ∷ []
field_shapes kind.OptCall = child One field.Callee sort.Expr ∷ child Many field.Args sort.ExprOrSpread ∷ child Maybe field.TypeArgs sort.TsTypeParamInstantiation ∷ []
field_shapes kind.Tpl = child Many field.Exprs sort.Expr ∷ child Many field.Quasis sort.TplElement ∷ []
field_shapes kind.TaggedTpl = child One field.Tag sort.Expr ∷ child Maybe field.TypeParams sort.TsTypeParamInstantiation ∷ child One field.Tpl sort.Tpl ∷ []
field_shapes (kind.YieldExpr delegate) = child Maybe field.Arg sort.Expr ∷ []
field_shapes kind.AwaitExpr = child One field.Arg sort.Expr ∷ []
field_shapes kind.ParenExpr = child One field.Expr sort.Expr ∷ []
field_shapes kind.TsTypeAssertion = child One field.Expr sort.Expr ∷ child One field.TypeAnn sort.TsType ∷ []
field_shapes kind.TsConstAssertion = child One field.Expr sort.Expr ∷ []
field_shapes kind.TsNonNullExpr = child One field.Expr sort.Expr ∷ []
field_shapes kind.TsAsExpr = child One field.Expr sort.Expr ∷ child One field.TypeAnn sort.TsType ∷ []
field_shapes kind.TsInstantiation = child One field.Expr sort.Expr ∷ child One field.TypeArgs sort.TsTypeParamInstantiation ∷ []
field_shapes kind.TsSatisfiesExpr = child One field.Expr sort.Expr ∷ child One field.TypeAnn sort.TsType ∷ []
field_shapes kind.KeyValueProp = child One field.Key sort.PropName ∷ child One field.Value sort.Expr ∷ []
field_shapes kind.AssignProp = child One field.Key sort.Ident ∷ child One field.Value sort.Expr ∷ []
field_shapes kind.GetterProp = child One field.Key sort.PropName ∷ child Maybe field.TypeAnn sort.TsTypeAnn ∷ child Maybe field.Body sort.BlockStmt ∷ []
field_shapes kind.SetterProp = child One field.Key sort.PropName ∷ child Maybe field.ThisParam sort.Pat ∷ child One field.Param sort.Pat ∷ child Maybe field.Body sort.BlockStmt ∷ []
field_shapes kind.MethodProp = child One field.Key sort.PropName ∷ child One field.Function sort.Function ∷ []
field_shapes kind.ComputedPropName = child One field.Expr sort.Expr ∷ []
field_shapes (kind.Function is_generator is_async) = child Many field.Params sort.Param ∷ child Maybe field.Body sort.BlockStmt ∷ child Maybe field.TypeParams sort.TsTypeParamDecl ∷ child Maybe field.ReturnType sort.TsTypeAnn ∷ []
field_shapes kind.Param = child One field.Pat sort.Pat ∷ []
field_shapes (kind.Class is_abstract) = child Maybe field.SuperClass sort.Expr ∷ child Many field.Body sort.ClassMember ∷ child Maybe field.TypeParams sort.TsTypeParamDecl ∷ child Maybe field.SuperTypeParams sort.TsTypeParamInstantiation ∷ child Many field.Implements sort.TsType ∷ []
field_shapes (kind.Constructor accessibility is_optional) = child One field.Key sort.PropName ∷ child Many field.Params sort.ParamOrTsParamProp ∷ child Maybe field.Body sort.BlockStmt ∷ []
field_shapes (kind.TsParamProp accessibility is_override readonly) = child One field.Param sort.TsParamPropParam ∷ []
field_shapes (kind.ClassMethod kind modifiers) = child One field.Key sort.PropName ∷ child One field.Function sort.Function ∷ []
field_shapes (kind.PrivateMethod kind modifiers) = child One field.Key sort.PrivateName ∷ child One field.Function sort.Function ∷ []
field_shapes (kind.ClassProp modifiers readonly declare definite) = child One field.Key sort.PropName ∷ child Maybe field.Value sort.Expr ∷ child Maybe field.TypeAnn sort.TsTypeAnn ∷ []
field_shapes (kind.PrivateProp modifiers readonly declare definite) = child One field.Key sort.PrivateName ∷ child Maybe field.Value sort.Expr ∷ child Maybe field.TypeAnn sort.TsTypeAnn ∷ []
field_shapes kind.StaticBlock = child One field.Body sort.BlockStmt ∷ []
field_shapes (kind.ArrayPat optional) = child Holes field.Elems sort.Pat ∷ child Maybe field.TypeAnn sort.TsTypeAnn ∷ []
field_shapes (kind.ObjectPat optional) = child Many field.Props sort.ObjectPatProp ∷ child Maybe field.TypeAnn sort.TsTypeAnn ∷ []
field_shapes kind.RestPat = child One field.Arg sort.Pat ∷ child Maybe field.TypeAnn sort.TsTypeAnn ∷ []
field_shapes kind.AssignPat = child One field.Left sort.Pat ∷ child One field.Right sort.Expr ∷ []
field_shapes kind.KeyValuePatProp = child One field.Key sort.PropName ∷ child One field.Value sort.Pat ∷ []
field_shapes kind.AssignPatProp = child One field.Key sort.BindingIdent ∷ child Maybe field.Value sort.Expr ∷ []
field_shapes kind.BlockStmt = child Many field.Stmts sort.Stmt ∷ []
field_shapes kind.ExprStmt = child One field.Expr sort.Expr ∷ []
field_shapes kind.ReturnStmt = child Maybe field.Arg sort.Expr ∷ []
field_shapes kind.ThrowStmt = child One field.Arg sort.Expr ∷ []
field_shapes kind.LabeledStmt = child One field.Label sort.Ident ∷ child One field.Body sort.Stmt ∷ []
field_shapes kind.BreakStmt = child Maybe field.Label sort.Ident ∷ []
field_shapes kind.ContinueStmt = child Maybe field.Label sort.Ident ∷ []
field_shapes kind.IfStmt = child One field.Test sort.Expr ∷ child One field.Cons sort.Stmt ∷ child Maybe field.Alt sort.Stmt ∷ []
field_shapes kind.SwitchStmt = child One field.Discriminant sort.Expr ∷ child Many field.Cases sort.SwitchCase ∷ []
field_shapes kind.SwitchCase = child Maybe field.Test sort.Expr ∷ child Many field.Cons sort.Stmt ∷ []
field_shapes kind.TryStmt = child One field.Block sort.BlockStmt ∷ child Maybe field.Handler sort.CatchClause ∷ child Maybe field.Finalizer sort.BlockStmt ∷ []
field_shapes kind.CatchClause = child Maybe field.Param sort.Pat ∷ child One field.Body sort.BlockStmt ∷ []
field_shapes kind.WhileStmt = child One field.Test sort.Expr ∷ child One field.Body sort.Stmt ∷ []
field_shapes kind.DoWhileStmt = child One field.Test sort.Expr ∷ child One field.Body sort.Stmt ∷ []
field_shapes kind.ForStmt = child Maybe field.Init sort.VarDeclOrExpr ∷ child Maybe field.Test sort.Expr ∷ child Maybe field.Update sort.Expr ∷ child One field.Body sort.Stmt ∷ []
field_shapes kind.ForInStmt = child One field.Left sort.ForHead ∷ child One field.Right sort.Expr ∷ child One field.Body sort.Stmt ∷ []
field_shapes (kind.ForOfStmt is_await) = child One field.Left sort.ForHead ∷ child One field.Right sort.Expr ∷ child One field.Body sort.Stmt ∷ []
field_shapes (kind.FnDecl declare) = child One field.Ident sort.Ident ∷ child One field.Function sort.Function ∷ []
field_shapes (kind.ClassDecl declare) = child One field.Ident sort.Ident ∷ child One field.Class sort.Class ∷ []
field_shapes (kind.VarDecl kind declare) = child Many field.Decls sort.VarDeclarator ∷ []
field_shapes (kind.VarDeclarator definite) = child One field.Name sort.Pat ∷ child Maybe field.Init sort.Expr ∷ []
field_shapes (kind.TsInterfaceDecl declare) = child One field.Id sort.Ident ∷ []
field_shapes (kind.TsTypeAliasDecl declare) = child One field.Id sort.Ident ∷ []
field_shapes (kind.TsEnumDecl declare is_const) = child One field.Id sort.Ident ∷ child Many field.Members sort.TsEnumMember ∷ []
field_shapes kind.TsEnumMember = child One field.Id sort.TsEnumMemberId ∷ child Maybe field.Init sort.Expr ∷ []
field_shapes (kind.TsModuleDecl declare global) = child One field.Id sort.TsModuleName ∷ child Maybe field.Body sort.TsNamespaceBody ∷ []
field_shapes kind.TsModuleBlock = child Many field.Body sort.ModuleItem ∷ []
field_shapes (kind.TsNamespaceDecl declare global) = child One field.Id sort.Ident ∷ child One field.Body sort.TsNamespaceBody ∷ []
field_shapes (kind.ImportDecl type_only) = child Many field.Specifiers sort.ImportSpecifier ∷ child One field.Src sort.Str ∷ child Maybe field.With sort.ObjectLit ∷ []
field_shapes (kind.ImportNamedSpecifier is_type_only) = child One field.Local sort.Ident ∷ child Maybe field.Imported sort.ModuleExportName ∷ []
field_shapes kind.ImportDefaultSpecifier = child One field.Local sort.Ident ∷ []
field_shapes kind.ImportStarAsSpecifier = child One field.Local sort.Ident ∷ []
field_shapes kind.ExportDecl = child One field.Decl sort.Decl ∷ []
field_shapes (kind.NamedExport type_only) = child Many field.Specifiers sort.ExportSpecifier ∷ child Maybe field.Src sort.Str ∷ child Maybe field.With sort.ObjectLit ∷ []
field_shapes (kind.ExportNamedSpecifier is_type_only) = child One field.Orig sort.ModuleExportName ∷ child Maybe field.Exported sort.ModuleExportName ∷ []
field_shapes kind.ExportDefaultSpecifier = child One field.Exported sort.Ident ∷ []
field_shapes kind.ExportNamespaceSpecifier = child One field.Name sort.ModuleExportName ∷ []
field_shapes kind.ExportDefaultDecl = child One field.Decl sort.DefaultDecl ∷ []
field_shapes kind.ExportDefaultExpr = child One field.Expr sort.Expr ∷ []
field_shapes (kind.ExportAll type_only) = child One field.Src sort.Str ∷ child Maybe field.With sort.ObjectLit ∷ []
field_shapes (kind.TsImportEqualsDecl is_export is_type_only) = child One field.Id sort.Ident ∷ child One field.ModuleRef sort.TsModuleRef ∷ []
field_shapes kind.TsExternalModuleRef = child One field.Expr sort.Str ∷ []
field_shapes kind.TsQualifiedName = child One field.Left sort.TsEntityName ∷ child One field.Right sort.IdentName ∷ []
field_shapes kind.TsExportAssignment = child One field.Expr sort.Expr ∷ []
field_shapes kind.TsNamespaceExportDecl = child One field.Id sort.Ident ∷ []
field_shapes kind.TsTypeAnn = child One field.TypeAnn sort.TsType ∷ []
field_shapes _ = []

abbrev pub fields : Kind → List Field
fields kind = map (λ child. child.field) (field_shapes kind)

-- none of the first n children has this name
abbrev pub LacksBefore : ℕ → Field → Kind → Type 0
LacksBefore n field kind = (i : ℕ) → i < n → slice_get (fields kind) i ≢ Some field

-- the first child of this name, counted from 0
abbrev pub IsFieldAt : Field → Kind → ℕ → Type 0
IsFieldAt field kind i = (slice_get (fields kind) i ≡ Some field) × LacksBefore i field kind
