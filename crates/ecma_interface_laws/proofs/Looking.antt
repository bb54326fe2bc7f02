-- Which kinds of nodes interfaces look at, and at which of their children.
use Rattle.std.proofs.Common.{◌≡◌, ◌||◌, ◌==◌, ℕ, Bool, true, false, not, List, [], ◌∷◌, get_or, refl, ap}
use Rattle.std.specs.List.{list_any}
use Rattle.ecma_kind.specs.declared.kind.Kind.{Kind}
use Rattle.ecma_kind.specs.declared.kind.Kind.TheVariants as kind
use Rattle.ecma_tree.specs.declared.node.Node.{Node}
use Rattle.ecma_tree.specs.Sorted.{is_absent}
use Rattle.ecma_tree.specs.Values.{value_by}
use Rattle.ecma_tree.proofs.Valuing.{value_where_by}
use Rattle.ecma_strip.specs.Staying.{is_declared}
use Rattle.ecma_interface.specs.Names.{Id, all_ids, bound_by}
use Rattle.ecma_interface.specs.Reading.{is_required, said_by, variable_by}

-- a kind that binds, says, exports or imports something, or is no value, but for identifiers and texts; and those of properties
unfoldable pub is_told : Kind → Bool
is_told kind.Absent = true
is_told kind.List = true
is_told (kind.Module shebang) = true
is_told (kind.IdentName sym) = true
is_told kind.BindingIdent = true
is_told (kind.ArrayPat optional) = true
is_told (kind.ObjectPat optional) = true
is_told kind.RestPat = true
is_told kind.AssignPat = true
is_told kind.AssignPatProp = true
is_told (kind.VarDecl k declare) = true
is_told (kind.VarDeclarator definite) = true
is_told (kind.FnDecl declare) = true
is_told (kind.ClassDecl declare) = true
is_told (kind.TsEnumDecl declare is_const) = true
is_told (kind.TsModuleDecl declare global) = true
is_told kind.FnExpr = true
is_told kind.ClassExpr = true
is_told kind.KeyValuePatProp = true
is_told kind.EmptyStmt = true
is_told (kind.Function is_generator is_async) = true
is_told (kind.TsNamespaceDecl declare global) = true
is_told kind.TsModuleBlock = true
is_told (kind.TsInterfaceDecl declare) = true
is_told (kind.TsTypeAliasDecl declare) = true
is_told kind.TsNamespaceExportDecl = true
is_told (kind.ImportDecl type_only) = true
is_told (kind.ImportNamedSpecifier is_type_only) = true
is_told kind.ImportDefaultSpecifier = true
is_told kind.ImportStarAsSpecifier = true
is_told kind.ExportDecl = true
is_told (kind.NamedExport type_only) = true
is_told (kind.ExportNamedSpecifier is_type_only) = true
is_told kind.ExportNamespaceSpecifier = true
is_told kind.ExportDefaultDecl = true
is_told kind.ExportDefaultExpr = true
is_told (kind.ExportAll type_only) = true
is_told (kind.TsImportEqualsDecl is_export is_type_only) = true
is_told kind.TsExternalModuleRef = true
is_told kind.ObjectLit = true
is_told kind.SpreadElement = true
is_told kind.KeyValueProp = true
is_told kind.AssignProp = true
is_told kind.GetterProp = true
is_told kind.SetterProp = true
is_told kind.MethodProp = true
is_told _ = false

abbrev pub is_named : Kind → Bool
is_named (kind.Ident sym ctxt optional) = true
is_named _ = false

-- any other kind
unfoldable pub is_dull : Kind → Bool
is_dull (kind.Ident sym ctxt optional) = false
is_dull (kind.Str value raw) = false
is_dull k = not (is_told k)

-- whether the child at an index is looked at
unfoldable pub matters : Kind → ℕ → Bool
matters kind.List i = true
matters (kind.Module shebang) i = i == 0
matters kind.BindingIdent i = i == 0
matters (kind.ArrayPat optional) i = i == 0
matters (kind.ObjectPat optional) i = i == 0
matters kind.RestPat i = i == 0
matters kind.AssignPat i = i == 0
matters kind.AssignPatProp i = i == 0
matters (kind.VarDecl k declare) i = i == 0
matters (kind.VarDeclarator definite) i = i == 0
matters (kind.ClassDecl declare) i = i == 0
matters (kind.TsEnumDecl declare is_const) i = i == 0
matters kind.ClassExpr i = i == 0
matters (kind.FnDecl declare) i = (i == 0) || (i == 1)
matters kind.FnExpr i = (i == 0) || (i == 1)
matters (kind.TsModuleDecl declare global) i = (i == 0) || (i == 1)
matters (kind.ImportNamedSpecifier is_type_only) i = (i == 0) || (i == 1)
matters (kind.ExportNamedSpecifier is_type_only) i = (i == 0) || (i == 1)
matters (kind.ExportAll type_only) i = (i == 0) || (i == 1)
matters kind.KeyValueProp i = (i == 0) || (i == 1)
matters kind.AssignProp i = (i == 0) || (i == 1)
matters kind.GetterProp i = (i == 0) || (i == 1)
matters kind.SetterProp i = (i == 0) || (i == 1)
matters kind.MethodProp i = (i == 0) || (i == 1)
matters (kind.ImportDecl type_only) i = true
matters (kind.NamedExport type_only) i = true
matters kind.KeyValuePatProp i = i == 1
matters (kind.Function is_generator is_async) i = i == 1
matters (kind.TsNamespaceDecl declare global) i = i == 1
matters kind.TsModuleBlock i = i == 0
matters kind.ImportDefaultSpecifier i = i == 0
matters kind.ImportStarAsSpecifier i = i == 0
matters kind.ExportDecl i = i == 0
matters kind.ExportNamespaceSpecifier i = i == 0
matters kind.ExportDefaultDecl i = i == 0
matters (kind.TsImportEqualsDecl is_export is_type_only) i = (i == 0) || (i == 1)
matters kind.ObjectLit i = i == 0
matters kind.SpreadElement i = (i == 0) || (i == 1)
matters _ i = false

-- ---- the names that a node binds are those of its first child, of its second, of all, or none

pub data Pick : Type 0 where
  First : Pick
  Second : Pick
  All : Pick
  Nothing : Pick

abbrev pub Wants : Pick → (ℕ → Bool) → Type 0
Wants First m = m 0 ≡ true
Wants Second m = m 1 ≡ true
Wants All m = (i : ℕ) → m i ≡ true
Wants Nothing m = true ≡ true

abbrev pub first_of : List (List Id) → List Id
first_of [] = []
first_of (ids ∷ others) = ids

abbrev pub second_of : List (List Id) → List Id
second_of [] = []
second_of (ids ∷ others) = first_of others

abbrev pub picked : Pick → List (List Id) → List Id
picked First parts = first_of parts
picked Second parts = second_of parts
picked All parts = all_ids parts
picked Nothing parts = []

unfoldable pub pick : Kind → Pick
pick kind.List = All
pick kind.KeyValuePatProp = Second
pick kind.BindingIdent = First
pick (kind.ArrayPat optional) = First
pick (kind.ObjectPat optional) = First
pick kind.RestPat = First
pick kind.AssignPat = First
pick kind.AssignPatProp = First
pick (kind.VarDecl k declare) = First
pick (kind.VarDeclarator definite) = First
pick (kind.FnDecl declare) = First
pick (kind.ClassDecl declare) = First
pick (kind.TsEnumDecl declare is_const) = First
pick (kind.TsModuleDecl declare global) = First
pick kind.FnExpr = First
pick kind.ClassExpr = First
pick _ = Nothing

pub wanted : (k : Kind) → Wants (pick k) (matters k)
unfolding pick matters
wanted kind.List = λ i. refl
wanted _ = refl

pub bound_is : (k : Kind) → is_named k ≡ false → (parts : List (List Id)) → bound_by k parts ≡ picked (pick k) parts
unfolding pick bound_by
bound_is (kind.Ident sym ctxt optional) h parts = cc
bound_is kind.KeyValuePatProp h [] = refl
bound_is kind.KeyValuePatProp h (ids ∷ []) = refl
bound_is kind.KeyValuePatProp h (ids ∷ more ∷ others) = refl
bound_is kind.BindingIdent h [] = refl
bound_is kind.BindingIdent h (ids ∷ others) = refl
bound_is (kind.ArrayPat optional) h [] = refl
bound_is (kind.ArrayPat optional) h (ids ∷ others) = refl
bound_is (kind.ObjectPat optional) h [] = refl
bound_is (kind.ObjectPat optional) h (ids ∷ others) = refl
bound_is kind.RestPat h [] = refl
bound_is kind.RestPat h (ids ∷ others) = refl
bound_is kind.AssignPat h [] = refl
bound_is kind.AssignPat h (ids ∷ others) = refl
bound_is kind.AssignPatProp h [] = refl
bound_is kind.AssignPatProp h (ids ∷ others) = refl
bound_is (kind.VarDecl k declare) h [] = refl
bound_is (kind.VarDecl k declare) h (ids ∷ others) = refl
bound_is (kind.VarDeclarator definite) h [] = refl
bound_is (kind.VarDeclarator definite) h (ids ∷ others) = refl
bound_is (kind.FnDecl declare) h [] = refl
bound_is (kind.FnDecl declare) h (ids ∷ others) = refl
bound_is (kind.ClassDecl declare) h [] = refl
bound_is (kind.ClassDecl declare) h (ids ∷ others) = refl
bound_is (kind.TsEnumDecl declare is_const) h [] = refl
bound_is (kind.TsEnumDecl declare is_const) h (ids ∷ others) = refl
bound_is (kind.TsModuleDecl declare global) h [] = refl
bound_is (kind.TsModuleDecl declare global) h (ids ∷ others) = refl
bound_is kind.FnExpr h [] = refl
bound_is kind.FnExpr h (ids ∷ others) = refl
bound_is kind.ClassExpr h [] = refl
bound_is kind.ClassExpr h (ids ∷ others) = refl
bound_is _ h parts = refl

-- ---- what is dull

pub told_not_named : (k : Kind) → is_told k ≡ true → is_named k ≡ false
unfolding is_told
told_not_named (kind.Ident sym ctxt optional) h = cc
told_not_named _ h = refl

pub dull_binds : (k : Kind) → is_dull k ≡ true → (parts : List (List Id)) → bound_by k parts ≡ []
unfolding is_told is_dull bound_by
dull_binds (kind.Ident sym ctxt optional) h parts = cc
dull_binds kind.List h parts = cc
dull_binds kind.KeyValuePatProp h parts = cc
dull_binds kind.BindingIdent h parts = cc
dull_binds (kind.ArrayPat optional) h parts = cc
dull_binds (kind.ObjectPat optional) h parts = cc
dull_binds kind.RestPat h parts = cc
dull_binds kind.AssignPat h parts = cc
dull_binds kind.AssignPatProp h parts = cc
dull_binds (kind.VarDecl k declare) h parts = cc
dull_binds (kind.VarDeclarator definite) h parts = cc
dull_binds (kind.FnDecl declare) h parts = cc
dull_binds (kind.ClassDecl declare) h parts = cc
dull_binds (kind.TsEnumDecl declare is_const) h parts = cc
dull_binds (kind.TsModuleDecl declare global) h parts = cc
dull_binds kind.FnExpr h parts = cc
dull_binds kind.ClassExpr h parts = cc
dull_binds _ h parts = refl

pub dull_is_value : (k : Kind) → is_dull k ≡ true → (stays : Bool) (cs : List Node) → value_where_by stays k cs ≡ true
unfolding is_told is_dull value_by
dull_is_value kind.Absent h stays cs = cc
dull_is_value kind.EmptyStmt h stays cs = cc
dull_is_value (kind.TsInterfaceDecl declare) h stays cs = cc
dull_is_value (kind.TsTypeAliasDecl declare) h stays cs = cc
dull_is_value kind.TsNamespaceExportDecl h stays cs = cc
dull_is_value (kind.ImportDecl type_only) h stays cs = cc
dull_is_value (kind.NamedExport type_only) h stays cs = cc
dull_is_value (kind.ExportAll type_only) h stays cs = cc
dull_is_value (kind.TsImportEqualsDecl is_export is_type_only) h stays cs = cc
dull_is_value kind.ExportDecl h stays cs = cc
dull_is_value kind.ExportDefaultDecl h stays cs = cc
dull_is_value (kind.FnDecl declare) h stays cs = cc
dull_is_value kind.FnExpr h stays cs = cc
dull_is_value (kind.Function is_generator is_async) h stays cs = cc
dull_is_value (kind.TsModuleDecl declare global) h stays cs = cc
dull_is_value (kind.TsNamespaceDecl declare global) h stays cs = cc
dull_is_value kind.TsModuleBlock h stays cs = cc
dull_is_value kind.List h stays cs = cc
dull_is_value _ h stays cs = refl

pub dull_says : (k : Kind) → is_dull k ≡ true → said_by k ≡ []
unfolding is_told is_dull
dull_says (kind.Ident sym ctxt optional) h = cc
dull_says (kind.IdentName sym) h = cc
dull_says (kind.Str value raw) h = cc
dull_says _ h = refl

pub unnamed_variable : (text : Id → List ℕ) (k : Kind) → is_named k ≡ false → variable_by text k ≡ []
unnamed_variable text (kind.Ident sym ctxt optional) h = cc
unnamed_variable text _ h = refl

pub dull_not_named : (k : Kind) → is_dull k ≡ true → is_named k ≡ false
unfolding is_dull
dull_not_named (kind.Ident sym ctxt optional) h = cc
dull_not_named _ h = refl

pub dull_there : (k : Kind) → is_dull k ≡ true → is_absent k ≡ false
unfolding is_told is_dull
dull_there kind.Absent h = cc
dull_there _ h = refl

pub dull_not_declared : (k : Kind) → is_dull k ≡ true → is_declared k ≡ false
unfolding is_told is_dull is_declared
dull_not_declared (kind.FnDecl declare) h = cc
dull_not_declared (kind.ClassDecl declare) h = cc
dull_not_declared (kind.VarDecl k declare) h = cc
dull_not_declared (kind.TsEnumDecl declare is_const) h = cc
dull_not_declared (kind.TsModuleDecl declare global) h = cc
dull_not_declared _ h = refl

pub dull_not_required : (k : Kind) → is_dull k ≡ true → is_required k ≡ false
unfolding is_told is_dull
dull_not_required kind.TsExternalModuleRef h = cc
dull_not_required _ h = refl

pub dull_not_told : (k : Kind) → is_dull k ≡ true → is_told k ≡ true → ⊥
unfolding is_told is_dull
dull_not_told (kind.Ident sym ctxt optional) h t = cc
dull_not_told (kind.Str value raw) h t = cc
dull_not_told _ h t = cc

-- ---- what is a value has a first child that is one, a second, or some; or it is by its kind

pub data Value : Type 0 where
  ByFirst : Value
  BySecond : Value
  ByAny : Value
  Always : Bool → Value

unfoldable pub value_of : Kind → Value
value_of kind.Absent = Always false
value_of kind.EmptyStmt = Always false
value_of (kind.TsInterfaceDecl declare) = Always false
value_of (kind.TsTypeAliasDecl declare) = Always false
value_of kind.TsNamespaceExportDecl = Always false
value_of (kind.ImportDecl type_only) = Always (not type_only)
value_of (kind.NamedExport type_only) = Always (not type_only)
value_of (kind.ExportAll type_only) = Always (not type_only)
value_of (kind.TsImportEqualsDecl is_export is_type_only) = Always (not is_type_only)
value_of kind.ExportDecl = ByFirst
value_of kind.ExportDefaultDecl = ByFirst
value_of (kind.FnDecl declare) = BySecond
value_of kind.FnExpr = BySecond
value_of (kind.Function is_generator is_async) = BySecond
value_of (kind.TsModuleDecl declare global) = BySecond
value_of (kind.TsNamespaceDecl declare global) = BySecond
value_of kind.TsModuleBlock = ByFirst
value_of kind.List = ByAny
value_of _ = Always true

abbrev pub first_is : List Bool → Bool
first_is [] = false
first_is (v ∷ vs) = v

abbrev pub second_is : List Bool → Bool
second_is [] = false
second_is (v ∷ vs) = first_is vs

abbrev pub some_is : List Bool → Bool
some_is [] = false
some_is (v ∷ vs) = v || some_is vs

abbrev pub valued : Value → List Bool → Bool
valued ByFirst vs = first_is vs
valued BySecond vs = second_is vs
valued ByAny vs = some_is vs
valued (Always b) vs = b

first_got : (vs : List Bool) → get_or vs 0 false ≡ first_is vs
first_got [] = refl
first_got (v ∷ vs) = refl

second_got : (vs : List Bool) → get_or vs 1 false ≡ second_is vs
second_got [] = refl
second_got (v ∷ []) = refl
second_got (v ∷ w ∷ vs) = refl

some_got : (vs : List Bool) → list_any (λ b. b) vs ≡ some_is vs
some_got [] = refl
some_got (v ∷ vs) = ap (λ b. v || b) (some_got vs)

pub value_is : (k : Kind) (vs : List Bool) → value_by k vs ≡ valued (value_of k) vs
unfolding value_by value_of
value_is kind.ExportDecl vs = first_got vs
value_is kind.ExportDefaultDecl vs = first_got vs
value_is kind.TsModuleBlock vs = first_got vs
value_is (kind.FnDecl declare) vs = second_got vs
value_is kind.FnExpr vs = second_got vs
value_is (kind.Function is_generator is_async) vs = second_got vs
value_is (kind.TsModuleDecl declare global) vs = second_got vs
value_is (kind.TsNamespaceDecl declare global) vs = second_got vs
value_is kind.List vs = some_got vs
value_is _ vs = refl

abbrev pub WantsValue : Value → (ℕ → Bool) → Type 0
WantsValue ByFirst m = m 0 ≡ true
WantsValue BySecond m = m 1 ≡ true
WantsValue ByAny m = (i : ℕ) → m i ≡ true
WantsValue (Always b) m = true ≡ true

pub value_wanted : (k : Kind) → WantsValue (value_of k) (matters k)
unfolding value_of matters
value_wanted kind.List = λ i. refl
value_wanted _ = refl
