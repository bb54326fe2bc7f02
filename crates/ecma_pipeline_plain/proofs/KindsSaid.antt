-- What is said of the kinds of a source, of what is left of it without types, and of it with its final texts.
use Rattle.std.proofs.Common.{◌≡◌, refl, ap, ℕ, Bool, true, false, not, List, bytes_eq, codes}
use Rattle.std.specs.Str.{IsUtf8, chars, is_utf8}
use lib.Utf8.{encode}
use Rattle.std.proofs.lemmas.Str.{IsUtf8-from_is_utf8}
use Rattle.ecma_kind.specs.declared.kind.Kind.{Kind}
use Rattle.ecma_kind.specs.declared.kind.Kind.TheVariants as kind
use Rattle.ecma_tree.specs.Contexts.{kind_with_context}
use Rattle.ecma_plain.specs.Forms.{IsBare, IsTaken, IsBareUnquestioned}
use Rattle.ecma_plain.specs.Functions.{is_this_name}
use Rattle.ecma_forms.specs.Forms.{is_ambient_variable, is_unlowered_kind}
use Rattle.ecma_strip.specs.Laws.{is_type_part}
use Rattle.ecma_strip.specs.Stripping.{plain_kind}
use Rattle.ecma_hygiene.proofs.Telling.{true-false}
use Rattle.ecma_hygiene.specs.Renamed.{Texts, kind_with_text, proto_literal, quoted_proto, text_of}

abbrev pub empty : List ℕ → ℕ → ℕ
empty text ctxt = 0

abbrev pub bare : Kind → Kind
bare = kind_with_context empty

-- its texts are UTF-8, and a literal has its source text, whatever its context and its `?`
abbrev pub HasTexts : Kind → Type 0
HasTexts (kind.Ident text ctxt optional) = IsUtf8 text
HasTexts k = IsBare k

-- a kind that no other pass has to lower
abbrev pub IsLowered : Kind → Type 0
IsLowered k = is_unlowered_kind k ≡ false

-- of what stays of a source
abbrev pub IsGiven : Kind → Type 0
IsGiven k = HasTexts k × IsLowered k

-- a form that another pass has to lower, or the name `this`
abbrev pub is_barred : Kind → Bool
is_barred (kind.Ident text ctxt optional) = bytes_eq text (codes "this")
is_barred k = is_unlowered_kind k

-- of what is left of it without types
abbrev pub IsLeft : Kind → Type 0
IsLeft k = IsTaken (bare k) × (is_barred k ≡ false)

-- ---- a source

given_texts : (k : Kind) → IsBareUnquestioned k → HasTexts k
given_texts (kind.Ident text ctxt optional) p = p.0
given_texts (kind.ArrayPat optional) p = tt
given_texts (kind.ObjectPat optional) p = tt
given_texts _ p = p

to_bare : (k : Kind) → HasTexts k → HasTexts (bare k)
to_bare (kind.Ident text ctxt optional) p = p
to_bare _ p = p

pub texts_bare : (k : Kind) → IsBareUnquestioned k → HasTexts (bare k)
texts_bare k p = to_bare k (given_texts k p)

pub bare_texts : (k : Kind) → HasTexts (bare k) → HasTexts k
bare_texts (kind.Ident text ctxt optional) p = p
bare_texts _ p = p

pub given_plain : (k : Kind) → IsGiven k → IsGiven (plain_kind k)
unfolding plain_kind
given_plain (kind.Ident text ctxt optional) p = p
given_plain (kind.ArrayPat optional) p = (tt, refl)
given_plain (kind.ObjectPat optional) p = (tt, refl)
given_plain (kind.VarDeclarator definite) p = (tt, refl)
given_plain (kind.Class is_abstract) p = (tt, refl)
given_plain (kind.Constructor accessibility is_optional) p = (tt, refl)
given_plain (kind.ClassMethod k modifiers) p = (tt, refl)
given_plain (kind.PrivateMethod k modifiers) p = (tt, refl)
given_plain (kind.ClassProp modifiers readonly declare definite) p = (tt, refl)
given_plain (kind.PrivateProp modifiers readonly declare definite) p = (tt, refl)
given_plain _ p = p

-- ---- what is left

pub given_left : (k : Kind) → IsGiven k → is_type_part k ≡ false → is_ambient_variable k ≡ false → is_this_name k ≡ false → IsLeft k
unfolding is_type_part
given_left (kind.Ident text ctxt optional) p t v o = (((p.0, refl, t), refl), o)
given_left (kind.IdentName text) p t v o = ((p.0, refl), refl)
given_left (kind.PrivateName text) p t v o = ((p.0, refl), refl)
given_left (kind.Str value raw) p t v o = ((p.0, refl), refl)
given_left (kind.Number value raw) p t v o = ((p.0, refl), refl)
given_left (kind.BigInt value raw) p t v o = ((p.0, refl), refl)
given_left (kind.Regex exp flags) p t v o = ((p.0, refl), refl)
given_left (kind.TplElement raw cooked tail) p t v o = ((p.0, refl), refl)
given_left kind.TsTypeAssertion p t v o = absurd (true-false refl t)
given_left kind.TsConstAssertion p t v o = absurd (true-false refl t)
given_left kind.TsNonNullExpr p t v o = absurd (true-false refl t)
given_left kind.TsAsExpr p t v o = absurd (true-false refl t)
given_left kind.TsInstantiation p t v o = absurd (true-false refl t)
given_left kind.TsSatisfiesExpr p t v o = absurd (true-false refl t)
given_left kind.TsTypeParamInstantiation p t v o = absurd (true-false refl t)
given_left kind.TsTypeAnn p t v o = absurd (true-false refl t)
given_left kind.TsType p t v o = absurd (true-false refl t)
given_left kind.TsTypeParamDecl p t v o = absurd (true-false refl t)
given_left (kind.TsInterfaceDecl declare) p t v o = absurd (true-false refl t)
given_left (kind.TsTypeAliasDecl declare) p t v o = absurd (true-false refl t)
given_left (kind.TsIndexSignature readonly is_static) p t v o = absurd (true-false refl t)
given_left kind.TsNamespaceExportDecl p t v o = absurd (true-false refl t)
given_left (kind.TsEnumDecl declare is_const) p t v o = absurd (true-false refl p.1)
given_left kind.TsEnumMember p t v o = absurd (true-false refl p.1)
given_left (kind.TsModuleDecl declare global) p t v o = absurd (true-false refl p.1)
given_left kind.TsModuleBlock p t v o = absurd (true-false refl p.1)
given_left (kind.TsNamespaceDecl declare global) p t v o = absurd (true-false refl p.1)
given_left kind.TsQualifiedName p t v o = absurd (true-false refl p.1)
given_left (kind.TsParamProp accessibility is_override readonly) p t v o = absurd (true-false refl p.1)
given_left kind.ExportDefaultSpecifier p t v o = absurd (true-false refl p.1)
given_left (kind.TsImportEqualsDecl is_export is_type_only) p t v o = absurd (true-false refl p.1)
given_left (kind.ImportDecl type_only) p t v o = ((tt, ap not t), refl)
given_left (kind.NamedExport type_only) p t v o = ((tt, ap not t), refl)
given_left (kind.ExportAll type_only) p t v o = ((tt, ap not t), refl)
given_left (kind.ImportNamedSpecifier is_type_only) p t v o = ((tt, ap not t), refl)
given_left (kind.ExportNamedSpecifier is_type_only) p t v o = ((tt, ap not t), refl)
given_left (kind.FnDecl declare) p t v o = ((tt, ap not t), refl)
given_left (kind.ClassDecl declare) p t v o = ((tt, ap not t), refl)
given_left (kind.VarDecl k declare) p t v o = ((tt, ap not v), refl)
given_left (kind.VarDeclarator definite) p t v o = ((tt, ap not t), refl)
given_left (kind.ArrayPat optional) p t v o = ((tt, ap not t), refl)
given_left (kind.ObjectPat optional) p t v o = ((tt, ap not t), refl)
given_left (kind.Class is_abstract) p t v o = ((tt, ap not t), refl)
given_left (kind.Constructor accessibility is_optional) p t v o = ((tt, ap not t), refl)
given_left (kind.ClassMethod k modifiers) p t v o = ((tt, ap not t), refl)
given_left (kind.PrivateMethod k modifiers) p t v o = ((tt, ap not t), refl)
given_left (kind.ClassProp modifiers readonly declare definite) p t v o = ((tt, ap not t), refl)
given_left (kind.PrivateProp modifiers readonly declare definite) p t v o = ((tt, ap not t), refl)
given_left _ p t v o = ((tt, refl), p.1)

-- ---- final texts

abbrev pub IsNotThis : List ℕ → Type 0
IsNotThis text = bytes_eq text (codes "this") ≡ false

module _ (texts : Texts) (utf8 : (text : List ℕ) (ctxt : ℕ) → IsUtf8 text → IsUtf8 (text_of texts (text, ctxt))) (other : (text : List ℕ) (ctxt : ℕ) → IsNotThis text → IsNotThis (text_of texts (text, ctxt))) where
  pub left_written : (named : Bool) (k : Kind) → IsLeft k → IsLeft (kind_with_text texts named k)
  left_written true k p = p
  left_written false (kind.Ident text ctxt optional) p = (((utf8 text ctxt p.0.0.0, refl, p.0.0.2), refl), other text ctxt p.1)
  left_written false _ p = p

pub left_old : (text : List ℕ) (ctxt : ℕ) (optional : Bool) → IsLeft (kind.Ident text ctxt optional) → IsLeft (kind.IdentName text) × IsLeft (kind.Ident text 0 false)
left_old text ctxt optional p = (((p.0.0.0, refl), refl), (((p.0.0.0, refl, refl), refl), p.1))

pub quoted_proto_is_utf8 : is_utf8 quoted_proto ≡ true
unfolding chars is_utf8 encode
quoted_proto_is_utf8 = refl

pub left_brackets : IsLeft kind.ComputedPropName × IsLeft proto_literal
left_brackets = (((tt, refl), refl), ((IsUtf8-from_is_utf8 quoted_proto quoted_proto_is_utf8, refl), refl))

-- ---- contexts, and names

pub lowered_bare : (k : Kind) → IsLeft k → IsLowered (bare k)
lowered_bare (kind.Ident text ctxt optional) p = refl
lowered_bare _ p = p.1

pub left_other : (k : Kind) → IsLeft k → is_this_name k ≡ false
left_other (kind.Ident text ctxt optional) p = p.1
left_other _ p = refl
