-- Which kinds of node each sort has: swc's types of nodes.
use Rattle.std.specs.Prelude.{Bool, true, false, ◌||◌}
use Rattle.ecma_kind.specs.declared.kind.Kind.{Kind}
use Rattle.ecma_kind.specs.declared.kind.Kind.TheVariants as kind
use Rattle.ecma_kind.specs.declared.shapes.Sort.{Sort}
use Rattle.ecma_kind.specs.declared.shapes.Sort.TheVariants as sort

-- whether it is an expression with a type round it
abbrev pub is_type_wrapper : Kind → Bool
is_type_wrapper kind.TsTypeAssertion = true
is_type_wrapper kind.TsConstAssertion = true
is_type_wrapper kind.TsNonNullExpr = true
is_type_wrapper kind.TsAsExpr = true
is_type_wrapper kind.TsInstantiation = true
is_type_wrapper kind.TsSatisfiesExpr = true
is_type_wrapper _ = false

-- whether it is a literal
abbrev pub is_lit : Kind → Bool
is_lit (kind.Str _ _) = true
is_lit (kind.Bool _) = true
is_lit kind.Null = true
is_lit (kind.Number _ _) = true
is_lit (kind.BigInt _ _) = true
is_lit (kind.Regex _ _) = true
is_lit _ = false

-- whether it is an expression
abbrev pub is_expr : Kind → Bool
is_expr kind.ThisExpr = true
is_expr kind.ArrayLit = true
is_expr kind.ObjectLit = true
is_expr kind.FnExpr = true
is_expr (kind.UnaryExpr _) = true
is_expr (kind.UpdateExpr _ _) = true
is_expr (kind.BinExpr _) = true
is_expr (kind.AssignExpr _) = true
is_expr kind.MemberExpr = true
is_expr kind.SuperPropExpr = true
is_expr kind.CondExpr = true
is_expr kind.CallExpr = true
is_expr kind.NewExpr = true
is_expr kind.SeqExpr = true
is_expr (kind.Ident _ _ _) = true
is_expr kind.Tpl = true
is_expr kind.TaggedTpl = true
is_expr (kind.ArrowExpr _ _) = true
is_expr kind.ClassExpr = true
is_expr (kind.YieldExpr _) = true
is_expr (kind.MetaPropExpr _) = true
is_expr kind.AwaitExpr = true
is_expr kind.ParenExpr = true
is_expr (kind.PrivateName _) = true
is_expr (kind.OptChainExpr _) = true
is_expr k = is_lit k || is_type_wrapper k

-- whether it is a declaration
abbrev pub is_decl : Kind → Bool
is_decl (kind.ClassDecl _) = true
is_decl (kind.FnDecl _) = true
is_decl (kind.VarDecl _ _) = true
is_decl (kind.TsInterfaceDecl _) = true
is_decl (kind.TsTypeAliasDecl _) = true
is_decl (kind.TsEnumDecl _ _) = true
is_decl (kind.TsModuleDecl _ _) = true
is_decl _ = false

-- whether it is a statement or a declaration
abbrev pub is_stmt : Kind → Bool
is_stmt kind.BlockStmt = true
is_stmt kind.EmptyStmt = true
is_stmt kind.DebuggerStmt = true
is_stmt kind.ReturnStmt = true
is_stmt kind.LabeledStmt = true
is_stmt kind.BreakStmt = true
is_stmt kind.ContinueStmt = true
is_stmt kind.IfStmt = true
is_stmt kind.SwitchStmt = true
is_stmt kind.ThrowStmt = true
is_stmt kind.TryStmt = true
is_stmt kind.WhileStmt = true
is_stmt kind.DoWhileStmt = true
is_stmt kind.ForStmt = true
is_stmt kind.ForInStmt = true
is_stmt (kind.ForOfStmt _) = true
is_stmt kind.ExprStmt = true
is_stmt k = is_decl k

-- whether it is an import or an export
abbrev pub is_module_decl : Kind → Bool
is_module_decl (kind.ImportDecl _) = true
is_module_decl kind.ExportDecl = true
is_module_decl (kind.NamedExport _) = true
is_module_decl kind.ExportDefaultDecl = true
is_module_decl kind.ExportDefaultExpr = true
is_module_decl (kind.ExportAll _) = true
is_module_decl (kind.TsImportEqualsDecl _ _) = true
is_module_decl kind.TsExportAssignment = true
is_module_decl kind.TsNamespaceExportDecl = true
is_module_decl _ = false

-- whether it is a pattern that is no expression
abbrev pub is_pattern : Kind → Bool
is_pattern kind.BindingIdent = true
is_pattern (kind.ArrayPat _) = true
is_pattern kind.RestPat = true
is_pattern (kind.ObjectPat _) = true
is_pattern kind.AssignPat = true
is_pattern _ = false

-- whether it is a property of an object; an identifier there is a shorthand
abbrev pub is_prop : Kind → Bool
is_prop (kind.Ident _ _ _) = true
is_prop kind.KeyValueProp = true
is_prop kind.AssignProp = true
is_prop kind.GetterProp = true
is_prop kind.SetterProp = true
is_prop kind.MethodProp = true
is_prop _ = false

-- whether it may be assigned to and is no pattern
abbrev pub is_simple_assign_target : Kind → Bool
is_simple_assign_target (kind.Ident _ _ _) = true
is_simple_assign_target kind.MemberExpr = true
is_simple_assign_target kind.SuperPropExpr = true
is_simple_assign_target kind.ParenExpr = true
is_simple_assign_target k = is_type_wrapper k

-- whether it is a pattern that may be assigned to
abbrev pub is_assign_target_pat : Kind → Bool
is_assign_target_pat (kind.ArrayPat _) = true
is_assign_target_pat (kind.ObjectPat _) = true
is_assign_target_pat _ = false

-- whether a kind is of a sort
abbrev pub belongs : Sort → Kind → Bool
belongs sort.Program (kind.Module _) = true
belongs sort.Program (kind.Script _) = true
belongs sort.Program k = false
belongs sort.Module (kind.Module _) = true
belongs sort.Module k = false
belongs sort.Script (kind.Script _) = true
belongs sort.Script k = false
belongs sort.ModuleItem k = is_stmt k || is_module_decl k
belongs sort.ModuleDecl k = is_module_decl k
belongs sort.Stmt k = is_stmt k
belongs sort.Decl k = is_decl k
belongs sort.Expr k = is_expr k
belongs sort.Lit k = is_lit k
belongs sort.Pat k = is_expr k || is_pattern k
belongs sort.Callee kind.Super = true
belongs sort.Callee kind.Import = true
belongs sort.Callee k = is_expr k
belongs sort.ExprOrSpread kind.SpreadElement = true
belongs sort.ExprOrSpread k = is_expr k
belongs sort.PropOrSpread kind.SpreadElement = true
belongs sort.PropOrSpread k = is_prop k
belongs sort.Prop k = is_prop k
belongs sort.PropName (kind.IdentName _) = true
belongs sort.PropName (kind.Str _ _) = true
belongs sort.PropName (kind.Number _ _) = true
belongs sort.PropName kind.ComputedPropName = true
belongs sort.PropName (kind.BigInt _ _) = true
belongs sort.PropName k = false
belongs sort.MemberProp (kind.IdentName _) = true
belongs sort.MemberProp (kind.PrivateName _) = true
belongs sort.MemberProp kind.ComputedPropName = true
belongs sort.MemberProp k = false
belongs sort.SuperProp (kind.IdentName _) = true
belongs sort.SuperProp kind.ComputedPropName = true
belongs sort.SuperProp k = false
belongs sort.OptChainBase kind.MemberExpr = true
belongs sort.OptChainBase kind.OptCall = true
belongs sort.OptChainBase k = false
belongs sort.AssignTarget k = is_simple_assign_target k || is_assign_target_pat k
belongs sort.SimpleAssignTarget k = is_simple_assign_target k
belongs sort.AssignTargetPat k = is_assign_target_pat k
belongs sort.BlockStmtOrExpr kind.BlockStmt = true
belongs sort.BlockStmtOrExpr k = is_expr k
belongs sort.ClassMember (kind.Constructor _ _) = true
belongs sort.ClassMember (kind.ClassMethod _ _) = true
belongs sort.ClassMember (kind.PrivateMethod _ _) = true
belongs sort.ClassMember (kind.ClassProp _ _ _ _) = true
belongs sort.ClassMember (kind.PrivateProp _ _ _ _) = true
belongs sort.ClassMember (kind.TsIndexSignature _ _) = true
belongs sort.ClassMember kind.EmptyStmt = true
belongs sort.ClassMember kind.StaticBlock = true
belongs sort.ClassMember k = false
belongs sort.ParamOrTsParamProp (kind.TsParamProp _ _ _) = true
belongs sort.ParamOrTsParamProp kind.Param = true
belongs sort.ParamOrTsParamProp k = false
belongs sort.TsParamPropParam kind.BindingIdent = true
belongs sort.TsParamPropParam kind.AssignPat = true
belongs sort.TsParamPropParam k = false
belongs sort.ObjectPatProp kind.KeyValuePatProp = true
belongs sort.ObjectPatProp kind.AssignPatProp = true
belongs sort.ObjectPatProp kind.RestPat = true
belongs sort.ObjectPatProp k = false
belongs sort.VarDeclOrExpr (kind.VarDecl _ _) = true
belongs sort.VarDeclOrExpr k = is_expr k
belongs sort.ForHead (kind.VarDecl _ _) = true
belongs sort.ForHead k = is_expr k || is_pattern k
belongs sort.ImportSpecifier (kind.ImportNamedSpecifier _) = true
belongs sort.ImportSpecifier kind.ImportDefaultSpecifier = true
belongs sort.ImportSpecifier kind.ImportStarAsSpecifier = true
belongs sort.ImportSpecifier k = false
belongs sort.ExportSpecifier kind.ExportNamespaceSpecifier = true
belongs sort.ExportSpecifier kind.ExportDefaultSpecifier = true
belongs sort.ExportSpecifier (kind.ExportNamedSpecifier _) = true
belongs sort.ExportSpecifier k = false
belongs sort.ModuleExportName (kind.Ident _ _ _) = true
belongs sort.ModuleExportName (kind.Str _ _) = true
belongs sort.ModuleExportName k = false
belongs sort.DefaultDecl kind.ClassExpr = true
belongs sort.DefaultDecl kind.FnExpr = true
belongs sort.DefaultDecl (kind.TsInterfaceDecl _) = true
belongs sort.DefaultDecl k = false
belongs sort.TsEnumMemberId (kind.Ident _ _ _) = true
belongs sort.TsEnumMemberId (kind.Str _ _) = true
belongs sort.TsEnumMemberId k = false
belongs sort.TsModuleName (kind.Ident _ _ _) = true
belongs sort.TsModuleName (kind.Str _ _) = true
belongs sort.TsModuleName k = false
belongs sort.TsNamespaceBody kind.TsModuleBlock = true
belongs sort.TsNamespaceBody (kind.TsNamespaceDecl _ _) = true
belongs sort.TsNamespaceBody k = false
belongs sort.TsModuleRef (kind.Ident _ _ _) = true
belongs sort.TsModuleRef kind.TsQualifiedName = true
belongs sort.TsModuleRef kind.TsExternalModuleRef = true
belongs sort.TsModuleRef k = false
belongs sort.TsEntityName (kind.Ident _ _ _) = true
belongs sort.TsEntityName kind.TsQualifiedName = true
belongs sort.TsEntityName k = false
belongs sort.Ident (kind.Ident _ _ _) = true
belongs sort.Ident k = false
belongs sort.TsTypeAnn kind.TsTypeAnn = true
belongs sort.TsTypeAnn k = false
belongs sort.Function (kind.Function _ _) = true
belongs sort.Function k = false
belongs sort.Class (kind.Class _) = true
belongs sort.Class k = false
belongs sort.TsTypeParamDecl kind.TsTypeParamDecl = true
belongs sort.TsTypeParamDecl k = false
belongs sort.Super kind.Super = true
belongs sort.Super k = false
belongs sort.TsTypeParamInstantiation kind.TsTypeParamInstantiation = true
belongs sort.TsTypeParamInstantiation k = false
belongs sort.TplElement (kind.TplElement _ _ _) = true
belongs sort.TplElement k = false
belongs sort.Tpl kind.Tpl = true
belongs sort.Tpl k = false
belongs sort.TsType kind.TsType = true
belongs sort.TsType k = false
belongs sort.BlockStmt kind.BlockStmt = true
belongs sort.BlockStmt k = false
belongs sort.Param kind.Param = true
belongs sort.Param k = false
belongs sort.PrivateName (kind.PrivateName _) = true
belongs sort.PrivateName k = false
belongs sort.BindingIdent kind.BindingIdent = true
belongs sort.BindingIdent k = false
belongs sort.SwitchCase kind.SwitchCase = true
belongs sort.SwitchCase k = false
belongs sort.CatchClause kind.CatchClause = true
belongs sort.CatchClause k = false
belongs sort.VarDeclarator (kind.VarDeclarator _) = true
belongs sort.VarDeclarator k = false
belongs sort.TsEnumMember kind.TsEnumMember = true
belongs sort.TsEnumMember k = false
belongs sort.Str (kind.Str _ _) = true
belongs sort.Str k = false
belongs sort.ObjectLit kind.ObjectLit = true
belongs sort.ObjectLit k = false
belongs sort.IdentName (kind.IdentName _) = true
belongs sort.IdentName k = false
