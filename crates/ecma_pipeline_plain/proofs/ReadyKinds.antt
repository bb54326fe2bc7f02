-- What is said of the kinds of a tree that is ready, of what is left of it without types, and of that with its final texts.
use Rattle.std.proofs.Common.{◌≡◌, refl, ap, ℕ, Bool, true, false, not, List, bytes_eq, codes}
use Rattle.std.specs.Str.{IsUtf8}
use Rattle.std.proofs.lemmas.Str.{IsUtf8-from_is_utf8}
use Rattle.ecma_kind.specs.declared.kind.Kind.{Kind}
use Rattle.ecma_kind.specs.declared.kind.Kind.TheVariants as kind
use Rattle.ecma_tree.specs.declared.node.Node.{Node}
use Rattle.ecma_plain.specs.Functions.{is_this_name}
use Rattle.ecma_plain.specs.Items.{is_plain_kind}
use Rattle.ecma_plain.specs.Plain.{IsPlainKind}
use Rattle.ecma_forms.specs.Forms.{is_ambient_variable}
use Rattle.ecma_strip.specs.Laws.{is_type_part}
use Rattle.ecma_strip.specs.Stripping.{plain_kind}
use Rattle.ecma_hygiene.proofs.Telling.{true-false}
use Rattle.ecma_hygiene.specs.Renamed.{Texts, kind_with_text, proto_literal, quoted_proto, text_of}
use Rattle.ecma_pipeline_runs.proofs.Nodes.{not-false}
use Rattle.ecma_pipeline_plain.proofs.KindsSaid.{IsNotThis, quoted_proto_is_utf8}
use Rattle.ecma_ready.specs.Leaving.{is_left_over}
use Rattle.ecma_ready.specs.Ready.{HasTexts}

module _ (assignments : Bool) where
  -- of what stays
  abbrev pub IsStaying : Kind → Type 0
  IsStaying k = HasTexts k × (is_left_over assignments k ≡ false)

  -- what may not be left, or the name `this`
  abbrev pub is_unwanted : Kind → Bool
  is_unwanted (kind.Ident text ctxt optional) = bytes_eq text (codes "this")
  is_unwanted k = is_left_over assignments k

  -- of what is left without types
  abbrev pub IsLeft : Kind → Type 0
  IsLeft k = IsPlainKind k × (is_unwanted k ≡ false)

  pub staying_plain : (k : Kind) → IsStaying k → IsStaying (plain_kind k)
  unfolding plain_kind
  staying_plain (kind.Ident text ctxt optional) p = p
  staying_plain (kind.ArrayPat optional) p = ((tt, tt), refl)
  staying_plain (kind.ObjectPat optional) p = ((tt, tt), refl)
  staying_plain (kind.VarDeclarator definite) p = ((tt, tt), refl)
  staying_plain (kind.Class is_abstract) p = ((tt, tt), refl)
  staying_plain (kind.Constructor accessibility is_optional) p = ((tt, tt), refl)
  staying_plain (kind.ClassMethod k modifiers) p = ((tt, tt), refl)
  staying_plain (kind.PrivateMethod k modifiers) p = ((tt, tt), refl)
  staying_plain (kind.ClassProp modifiers readonly declare definite) p = ((tt, tt), refl)
  staying_plain (kind.PrivateProp modifiers readonly declare definite) p = ((tt, tt), refl)
  staying_plain _ p = p

  -- ---- what is left

  pub staying_left : (k : Kind) → IsStaying k → is_type_part k ≡ false → is_ambient_variable k ≡ false → is_this_name k ≡ false → IsLeft k
  unfolding is_type_part
  staying_left (kind.Ident text ctxt optional) p t v o = ((p.0.0, tt, refl, t), o)
  staying_left kind.TsTypeAssertion p t v o = absurd (true-false refl t)
  staying_left kind.TsConstAssertion p t v o = absurd (true-false refl t)
  staying_left kind.TsNonNullExpr p t v o = absurd (true-false refl t)
  staying_left kind.TsAsExpr p t v o = absurd (true-false refl t)
  staying_left kind.TsInstantiation p t v o = absurd (true-false refl t)
  staying_left kind.TsSatisfiesExpr p t v o = absurd (true-false refl t)
  staying_left kind.TsTypeParamInstantiation p t v o = absurd (true-false refl t)
  staying_left kind.TsTypeAnn p t v o = absurd (true-false refl t)
  staying_left kind.TsType p t v o = absurd (true-false refl t)
  staying_left kind.TsTypeParamDecl p t v o = absurd (true-false refl t)
  staying_left (kind.TsInterfaceDecl declare) p t v o = absurd (true-false refl t)
  staying_left (kind.TsTypeAliasDecl declare) p t v o = absurd (true-false refl t)
  staying_left (kind.TsIndexSignature readonly is_static) p t v o = absurd (true-false refl t)
  staying_left kind.TsNamespaceExportDecl p t v o = absurd (true-false refl t)
  staying_left (kind.TsEnumDecl declare is_const) p t v o = absurd (true-false refl p.1)
  staying_left kind.TsEnumMember p t v o = absurd (true-false refl p.1)
  staying_left (kind.TsModuleDecl declare global) p t v o = absurd (true-false refl p.1)
  staying_left kind.TsModuleBlock p t v o = absurd (true-false refl p.1)
  staying_left (kind.TsNamespaceDecl declare global) p t v o = absurd (true-false refl p.1)
  staying_left kind.TsQualifiedName p t v o = absurd (true-false refl p.1)
  staying_left (kind.TsParamProp accessibility is_override readonly) p t v o = absurd (true-false refl p.1)
  staying_left kind.ExportDefaultSpecifier p t v o = absurd (true-false refl p.1)
  staying_left (kind.TsImportEqualsDecl is_export is_type_only) p t v o = absurd (true-false refl p.1)
  staying_left (kind.ImportDecl type_only) p t v o = ((tt, tt, ap not t, refl), refl)
  staying_left (kind.NamedExport type_only) p t v o = ((tt, tt, ap not t, refl), refl)
  staying_left (kind.ExportAll type_only) p t v o = ((tt, tt, ap not t, refl), refl)
  staying_left (kind.ImportNamedSpecifier is_type_only) p t v o = ((tt, tt, ap not t, refl), refl)
  staying_left (kind.ExportNamedSpecifier is_type_only) p t v o = ((tt, tt, ap not t, refl), refl)
  staying_left (kind.FnDecl declare) p t v o = ((tt, tt, ap not t, refl), refl)
  staying_left (kind.ClassDecl declare) p t v o = ((tt, tt, ap not t, refl), refl)
  staying_left (kind.VarDecl k declare) p t v o = ((tt, tt, ap not v, refl), refl)
  staying_left (kind.VarDeclarator definite) p t v o = ((tt, tt, ap not t, refl), refl)
  staying_left (kind.ArrayPat optional) p t v o = ((tt, tt, ap not t, refl), refl)
  staying_left (kind.ObjectPat optional) p t v o = ((tt, tt, ap not t, refl), refl)
  staying_left (kind.Class is_abstract) p t v o = ((tt, tt, ap not t, refl), refl)
  staying_left (kind.Constructor accessibility is_optional) p t v o = ((tt, tt, ap not t, refl), refl)
  staying_left (kind.ClassMethod k modifiers) p t v o = ((tt, tt, ap not t, refl), refl)
  staying_left (kind.PrivateMethod k modifiers) p t v o = ((tt, tt, ap not t, refl), refl)
  staying_left (kind.ClassProp modifiers readonly declare definite) p t v o = ((tt, tt, ap not t, refl), refl)
  staying_left (kind.PrivateProp modifiers readonly declare definite) p t v o = ((tt, tt, ap not t, refl), refl)
  staying_left _ p t v o = ((p.0.0, p.0.1, refl, refl), p.1)

  -- ---- final texts

  module _ (texts : Texts) (utf8 : (text : List ℕ) (ctxt : ℕ) → IsUtf8 text → IsUtf8 (text_of texts (text, ctxt))) (other : (text : List ℕ) (ctxt : ℕ) → IsNotThis text → IsNotThis (text_of texts (text, ctxt))) where
    pub left_written : (named : Bool) (k : Kind) → IsLeft k → IsLeft (kind_with_text texts named k)
    left_written true k p = p
    left_written false (kind.Ident text ctxt optional) p = ((utf8 text ctxt p.0.0, tt, refl, p.0.3), other text ctxt p.1)
    left_written false _ p = p

  pub left_old : (text : List ℕ) (ctxt : ℕ) (optional : Bool) → IsLeft (kind.Ident text ctxt optional) → IsLeft (kind.IdentName text) × IsLeft (kind.Ident text 0 false)
  left_old text ctxt optional p = (((p.0.0, tt, refl, refl), refl), ((p.0.0, tt, refl, refl), p.1))

  pub left_brackets : IsLeft kind.ComputedPropName × IsLeft proto_literal
  left_brackets = (((tt, tt, refl, refl), refl), ((IsUtf8-from_is_utf8 quoted_proto quoted_proto_is_utf8, tt, refl, refl), refl))

  -- ---- names and items

  pub left_other : (k : Kind) → IsLeft k → is_this_name k ≡ false
  left_other (kind.Ident text ctxt optional) p = p.1
  left_other _ p = refl

  pub plain_item : (k : Kind) (item : Node) → IsLeft k → is_plain_kind assignments k item ≡ true
  plain_item (kind.TsImportEqualsDecl is_export is_type_only) item p = absurd (true-false refl p.1)
  plain_item kind.TsExportAssignment item p = not-false assignments p.1
  plain_item _ item p = refl
