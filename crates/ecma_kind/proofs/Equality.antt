-- Derived equality is exact: `==` of two kinds is true exactly where they are equal.
use Rattle.std.proofs.Common.{◌≡◌, ℕ, Bool, true, false, ◌&&◌, List, [], ◌∷◌, Some, None, refl, ap, nat_eq}
use Rattle.std.specs.Bool.{beq}
use Rattle.std.proofs.lemmas.Bool.{eqb-true}
use Rattle.std.specs.Option.{option_eq}
use Rattle.std.specs.Cmp.Lexicographic.{pointwise}
use Rattle.ecma_number.proofs.Exact.{js_number_exact}
use Rattle.ecma_kind.specs.declared.kind.Kind.{Kind}
use Rattle.ecma_kind.specs.contracts.kind.Kind as kind
use Rattle.ecma_kind.specs.contracts.kind.KindPartialEq.TheImpl as kind_eq
use Rattle.ecma_kind.specs.contracts.operators.MemberModifiersPartialEq.TheImpl as modifiers_eq
use Rattle.ecma_kind.specs.contracts.operators.UnaryOp as UnaryOp_type
use Rattle.ecma_kind.specs.contracts.operators.UpdateOp as UpdateOp_type
use Rattle.ecma_kind.specs.contracts.operators.BinaryOp as BinaryOp_type
use Rattle.ecma_kind.specs.contracts.operators.AssignOp as AssignOp_type
use Rattle.ecma_kind.specs.contracts.operators.MetaPropKind as MetaPropKind_type
use Rattle.ecma_kind.specs.contracts.operators.VarDeclKind as VarDeclKind_type
use Rattle.ecma_kind.specs.contracts.operators.MethodKind as MethodKind_type
use Rattle.ecma_kind.specs.contracts.operators.Accessibility as Accessibility_type
use mathlib.Core.Logic.{inl, inr}
use denote.Struct.Field.{Field}
use denote.Enum.Bare.{sameb, same_true}
use denote.Enum.Compared.{Each, by}
use denote.Enum.Declared.{Choice, values_one}

-- a test that only equal values pass
abbrev IsExact : {A : Type 0} → (A → A → Bool) → Type 0
IsExact {A} test = (x y : A) → test x y ≡ true → x ≡ y

both : (a b : Bool) → a && b ≡ true → (a ≡ true) × (b ≡ true)
both true b h = (refl, h)
both false b h = cc

-- of the fields of a variant: of none, of the last, of one before others
none : IsExact {A = Unit} (λ a b. true)
none x y h = refl

last : {A : Type 0} {test : A → A → Bool} → IsExact test → IsExact {A = A × Unit} (λ a b. test a.0 b.0)
last exact x y h = ap (λ z. (z, tt)) (exact x.0 y.0 h)

more : {A B : Type 0} {test : A → A → Bool} {others : B → B → Bool} → IsExact test → IsExact others → IsExact {A = A × B} (λ a b. test a.0 b.0 && others a.1 b.1)
more {A} {B} {test} {others} exact exacts x y h = let t = both (test x.0 y.0) (others x.1 y.1) h in λ i. (exact x.0 y.0 t.0 i, exacts x.1 y.1 t.1 i)

-- of the variants of an enum
abbrev AllExact : (variants : List (List Field)) → Each Bool variants → Type 0
AllExact [] each = Unit
AllExact (fields ∷ variants) each = IsExact each.0 × AllExact variants each.1

by_exact : (variants : List (List Field)) (each : Each Bool variants) → AllExact variants each → (c d : Choice variants) → by false false variants each c d ≡ true → c ≡ d
by_exact [] each exact c d h = absurd c
by_exact (fields ∷ variants) each exact (inl x) (inl y) h = ap inl (exact.0 x y h)
by_exact (fields ∷ variants) each exact (inl x) (inr y) h = cc
by_exact (fields ∷ variants) each exact (inr x) (inl y) h = cc
by_exact (fields ∷ variants) each exact (inr x) (inr y) h = ap inr (by_exact variants each.1 exact.1 x y h)

infixr 4 ◌&◌
abbrev ◌&◌ : {A B : Type 0} → A → B → A × B
a & b = (a, b)

option_exact : {A : Type 0} {test : A → A → Bool} → IsExact test → IsExact (option_eq test)
option_exact exact None None h = refl
option_exact exact None (Some y) h = cc
option_exact exact (Some x) None h = cc
option_exact exact (Some x) (Some y) h = ap Some (exact x y h)

word_exact : IsExact {A = List ℕ} (pointwise nat_eq)
word_exact [] [] h = refl
word_exact [] (y ∷ ys) h = cc
word_exact (x ∷ xs) [] h = cc
word_exact (x ∷ xs) (y ∷ ys) h = let t = both (nat_eq x y) (pointwise nat_eq xs ys) h in λ i. eqb-true x y t.0 i ∷ word_exact xs ys t.1 i

bool_exact : IsExact {A = Bool} beq
bool_exact true true h = refl
bool_exact true false h = cc
bool_exact false true h = cc
bool_exact false false h = refl

context_exact : IsExact {A = ℕ} nat_eq
context_exact x y h = eqb-true x y h

modifiers_exact : IsExact modifiers_eq.ghosts.eq
modifiers_exact a b h =
    let visible = both (option_eq (sameb Accessibility_type.the_type) a.accessibility b.accessibility) (beq a.is_static b.is_static && (beq a.is_abstract b.is_abstract && (beq a.is_optional b.is_optional && beq a.is_override b.is_override))) h in
    let static = both (beq a.is_static b.is_static) (beq a.is_abstract b.is_abstract && (beq a.is_optional b.is_optional && beq a.is_override b.is_override)) visible.1 in
    let abstract = both (beq a.is_abstract b.is_abstract) (beq a.is_optional b.is_optional && beq a.is_override b.is_override) static.1 in
    let optional = both (beq a.is_optional b.is_optional) (beq a.is_override b.is_override) abstract.1 in
    λ i. record {
      accessibility = option_exact (same_true Accessibility_type.the_type tt) a.accessibility b.accessibility visible.0 i;
      is_static = bool_exact a.is_static b.is_static static.0 i;
      is_abstract = bool_exact a.is_abstract b.is_abstract abstract.0 i;
      is_optional = bool_exact a.is_optional b.is_optional optional.0 i;
      is_override = bool_exact a.is_override b.is_override optional.1 i;
    }

pub kind_exact : (a b : Kind) → kind_eq.ghosts.eq a b ≡ true → a ≡ b
kind_exact a b h = values_one kind.enum a b (by_exact kind.enum.parts _ (
    none &  -- Absent
    none &  -- List
    last (option_exact word_exact) &  -- Module
    last (option_exact word_exact) &  -- Script
    more word_exact (more context_exact (last bool_exact)) &  -- Ident
    last word_exact &  -- IdentName
    last word_exact &  -- PrivateName
    none &  -- BindingIdent
    more word_exact (last (option_exact word_exact)) &  -- Str
    last bool_exact &  -- Bool
    none &  -- Null
    more (option_exact js_number_exact) (last (option_exact word_exact)) &  -- Number
    more word_exact (last (option_exact word_exact)) &  -- BigInt
    more word_exact (last word_exact) &  -- Regex
    none &  -- ThisExpr
    none &  -- Super
    none &  -- Import
    none &  -- ArrayLit
    none &  -- ObjectLit
    none &  -- SpreadElement
    none &  -- FnExpr
    none &  -- ClassExpr
    more bool_exact (last bool_exact) &  -- ArrowExpr
    last (same_true UnaryOp_type.the_type tt) &  -- UnaryExpr
    more (same_true UpdateOp_type.the_type tt) (last bool_exact) &  -- UpdateExpr
    last (same_true BinaryOp_type.the_type tt) &  -- BinExpr
    last (same_true AssignOp_type.the_type tt) &  -- AssignExpr
    none &  -- CondExpr
    none &  -- MemberExpr
    none &  -- SuperPropExpr
    none &  -- CallExpr
    none &  -- NewExpr
    last bool_exact &  -- OptChainExpr
    none &  -- OptCall
    none &  -- SeqExpr
    none &  -- Tpl
    more word_exact (more (option_exact word_exact) (last bool_exact)) &  -- TplElement
    none &  -- TaggedTpl
    last bool_exact &  -- YieldExpr
    none &  -- AwaitExpr
    last (same_true MetaPropKind_type.the_type tt) &  -- MetaPropExpr
    none &  -- ParenExpr
    none &  -- TsTypeAssertion
    none &  -- TsConstAssertion
    none &  -- TsNonNullExpr
    none &  -- TsAsExpr
    none &  -- TsInstantiation
    none &  -- TsSatisfiesExpr
    none &  -- KeyValueProp
    none &  -- AssignProp
    none &  -- GetterProp
    none &  -- SetterProp
    none &  -- MethodProp
    none &  -- ComputedPropName
    more bool_exact (last bool_exact) &  -- Function
    none &  -- Param
    last bool_exact &  -- Class
    more (option_exact (same_true Accessibility_type.the_type tt)) (last bool_exact) &  -- Constructor
    more (option_exact (same_true Accessibility_type.the_type tt)) (more bool_exact (last bool_exact)) &  -- TsParamProp
    more (same_true MethodKind_type.the_type tt) (last modifiers_exact) &  -- ClassMethod
    more (same_true MethodKind_type.the_type tt) (last modifiers_exact) &  -- PrivateMethod
    more modifiers_exact (more bool_exact (more bool_exact (last bool_exact))) &  -- ClassProp
    more modifiers_exact (more bool_exact (more bool_exact (last bool_exact))) &  -- PrivateProp
    none &  -- StaticBlock
    more bool_exact (last bool_exact) &  -- TsIndexSignature
    last bool_exact &  -- ArrayPat
    last bool_exact &  -- ObjectPat
    none &  -- RestPat
    none &  -- AssignPat
    none &  -- KeyValuePatProp
    none &  -- AssignPatProp
    none &  -- BlockStmt
    none &  -- EmptyStmt
    none &  -- DebuggerStmt
    none &  -- ExprStmt
    none &  -- ReturnStmt
    none &  -- ThrowStmt
    none &  -- LabeledStmt
    none &  -- BreakStmt
    none &  -- ContinueStmt
    none &  -- IfStmt
    none &  -- SwitchStmt
    none &  -- SwitchCase
    none &  -- TryStmt
    none &  -- CatchClause
    none &  -- WhileStmt
    none &  -- DoWhileStmt
    none &  -- ForStmt
    none &  -- ForInStmt
    last bool_exact &  -- ForOfStmt
    last bool_exact &  -- FnDecl
    last bool_exact &  -- ClassDecl
    more (same_true VarDeclKind_type.the_type tt) (last bool_exact) &  -- VarDecl
    last bool_exact &  -- VarDeclarator
    last bool_exact &  -- TsInterfaceDecl
    last bool_exact &  -- TsTypeAliasDecl
    more bool_exact (last bool_exact) &  -- TsEnumDecl
    none &  -- TsEnumMember
    more bool_exact (last bool_exact) &  -- TsModuleDecl
    none &  -- TsModuleBlock
    more bool_exact (last bool_exact) &  -- TsNamespaceDecl
    last bool_exact &  -- ImportDecl
    last bool_exact &  -- ImportNamedSpecifier
    none &  -- ImportDefaultSpecifier
    none &  -- ImportStarAsSpecifier
    none &  -- ExportDecl
    last bool_exact &  -- NamedExport
    last bool_exact &  -- ExportNamedSpecifier
    none &  -- ExportDefaultSpecifier
    none &  -- ExportNamespaceSpecifier
    none &  -- ExportDefaultDecl
    none &  -- ExportDefaultExpr
    last bool_exact &  -- ExportAll
    more bool_exact (last bool_exact) &  -- TsImportEqualsDecl
    none &  -- TsExternalModuleRef
    none &  -- TsQualifiedName
    none &  -- TsExportAssignment
    none &  -- TsNamespaceExportDecl
    none &  -- TsTypeAnn
    none &  -- TsType
    none &  -- TsTypeParamDecl
    none &  -- TsTypeParamInstantiation
    tt) (kind.as_values a) (kind.as_values b) h)
