-- What meanings have alike that says which nodes have an effect; so it is where names are renamed, and none becomes `this` or is no more.
use Rattle.std.proofs.Common.{◌≡◌, refl, sym, ap, ap₂, ◌∙◌, List, [], ◌∷◌, map, Bool, true, false, cond, not, ◌&&◌, ◌||◌, bytes_eq, codes}
use Rattle.ecma_kind.specs.declared.kind.Kind.{Kind}
use Rattle.ecma_kind.specs.declared.kind.Kind.TheVariants as kind
use Rattle.ecma_tree.specs.declared.node.Node.{Node, Node-F, fold-roll-Node, ind-Node, roll-Node}
use Rattle.ecma_hygiene.proofs.Telling.{true-false}
use Rattle.ecma_runs.specs.State.{Id}
use Rattle.ecma_runs.specs.Meaning.{Meaning}
use Rattle.ecma_runs.specs.Declarations.{all_types, has_body_of, has_no_effect, is_absent_of, is_this_of, is_type_of}
use Rattle.ecma_runs.specs.Evaluation.{meaning, meaning_by, no_effect, role_by}
use Rattle.ecma_runs.specs.Names.{renamed, renamed_ident, renamed_node}
use Rattle.ecma_runs.proofs.Layer.{meaning-roll}

pub record Flags (m' m : Meaning) : Type 0 where
  pub is_absent : m'.is_absent ≡ m.is_absent
  pub is_this : m'.is_this ≡ m.is_this
  pub is_type : m'.is_type ≡ m.is_type
  pub has_body : m'.has_body ≡ m.has_body

pub record Told : Type 0 where
  pub first : Meaning
  pub second : Meaning
  pub flags : Flags second first

abbrev pub olds : List Told → List Meaning
olds ps = map (λ p. p.first) ps

abbrev pub news : List Told → List Meaning
news ps = map (λ p. p.second) ps

all-types : (ps : List Told) → all_types (news ps) ≡ all_types (olds ps)
all-types [] = refl
all-types (p ∷ ps) = ap₂ (λ a b. a && b) p.flags.is_type (all-types ps)

types-alike : (k : Kind) (ps : List Told) → is_type_of k (news ps) ≡ is_type_of k (olds ps)
types-alike kind.List ps = all-types ps
types-alike kind.ExportDecl (declaration ∷ []) = declaration.flags.is_type
types-alike kind.ExportDefaultDecl (declaration ∷ []) = declaration.flags.is_type
types-alike (kind.FnDecl false) (name ∷ function ∷ []) = ap not function.flags.has_body
types-alike kind.FnExpr (name ∷ function ∷ []) = ap not function.flags.has_body
types-alike (kind.TsModuleDecl false global) (name ∷ body ∷ []) = ap₂ (λ a b. a || b) body.flags.is_absent body.flags.is_type
types-alike (kind.TsNamespaceDecl declare global) (name ∷ body ∷ []) = body.flags.is_type
types-alike kind.TsModuleBlock (items ∷ []) = items.flags.is_type
types-alike kind.EmptyStmt ps = refl
types-alike (kind.TsInterfaceDecl declare) ps = refl
types-alike (kind.TsTypeAliasDecl declare) ps = refl
types-alike (kind.ImportDecl true) ps = refl
types-alike (kind.TsImportEqualsDecl is_export true) ps = refl
types-alike (kind.NamedExport true) ps = refl
types-alike (kind.ExportAll true) ps = refl
types-alike kind.TsNamespaceExportDecl ps = refl
types-alike _ ps = refl

pub effect-alike : (k : Kind) (ps : List Told) → has_no_effect k (news ps) ≡ has_no_effect k (olds ps)
effect-alike kind.List ps = refl
effect-alike kind.TsType ps = refl
effect-alike kind.TsModuleBlock ps = refl
effect-alike (kind.TsNamespaceDecl declare global) ps = refl
effect-alike (kind.VarDecl word true) ps = refl
effect-alike (kind.FnDecl true) ps = refl
effect-alike (kind.ClassDecl true) ps = refl
effect-alike (kind.TsEnumDecl true is_const) ps = refl
effect-alike (kind.TsModuleDecl true global) ps = refl
effect-alike (kind.ImportNamedSpecifier true) ps = refl
effect-alike (kind.ExportNamedSpecifier true) ps = refl
effect-alike (kind.TsIndexSignature readonly is_static) ps = refl
effect-alike (kind.ClassProp modifiers readonly declare definite) ps = refl
effect-alike (kind.PrivateProp modifiers readonly declare definite) ps = refl
effect-alike (kind.ClassMethod sort modifiers) (key ∷ function ∷ []) = ap (λ b. modifiers.is_abstract || not b) function.flags.has_body
effect-alike (kind.PrivateMethod sort modifiers) (key ∷ function ∷ []) = ap (λ b. modifiers.is_abstract || not b) function.flags.has_body
effect-alike (kind.Constructor accessibility is_optional) (key ∷ parameters ∷ body ∷ []) = body.flags.is_absent
effect-alike kind.Param (pattern' ∷ []) = pattern'.flags.is_this
effect-alike k ps = types-alike k ps

either-flags : (b' b : Bool) {x' x y' y : Meaning} → b' ≡ b → Flags x' x → Flags y' y → Flags (cond b' x' y') (cond b x y)
either-flags true true e f g = f
either-flags false false e f g = g
either-flags true false e f g = absurd (true-false refl e)
either-flags false true e f g = absurd (true-false e refl)

-- with none of them

record Bare (m : Meaning) : Type 0 where
  is_absent : m.is_absent ≡ false
  is_this : m.is_this ≡ false
  is_type : m.is_type ≡ false
  has_body : m.has_body ≡ false

bare-flags : {m' m : Meaning} → Bare m' → Bare m → Flags m' m
bare-flags b' b = record { is_absent = b'.is_absent ∙ sym b.is_absent; is_this = b'.is_this ∙ sym b.is_this; is_type = b'.is_type ∙ sym b.is_type; has_body = b'.has_body ∙ sym b.has_body }

either-bare : (b : Bool) {x y : Meaning} → Bare x → Bare y → Bare (cond b x y)
either-bare true p q = p
either-bare false p q = q

-- renamed

module _ (to : Id → Id) (this : (id : Id) → bytes_eq (to id).sym (codes "this") ≡ bytes_eq id.sym (codes "this")) where
  absent-alike : (k : Kind) → is_absent_of (renamed_ident to k) ≡ is_absent_of k
  absent-alike (kind.Ident text ctxt optional) = refl
  absent-alike _ = refl

  this-alike : (k : Kind) (ps : List Told) → is_this_of (renamed_ident to k) (news ps) ≡ is_this_of k (olds ps)
  this-alike (kind.Ident text ctxt optional) ps = this (record { sym = text; ctxt = ctxt })
  this-alike kind.BindingIdent (id ∷ annotation ∷ []) = id.flags.is_this
  this-alike _ ps = refl

  type-kept : (k : Kind) (ms : List Meaning) → is_type_of (renamed_ident to k) ms ≡ is_type_of k ms
  type-kept (kind.Ident text ctxt optional) ms = refl
  type-kept _ ms = refl

  pub effect-kept : (k : Kind) (ms : List Meaning) → has_no_effect (renamed_ident to k) ms ≡ has_no_effect k ms
  effect-kept (kind.Ident text ctxt optional) ms = refl
  effect-kept _ ms = refl

  body-alike : (k : Kind) (ps : List Told) → has_body_of (renamed_ident to k) (news ps) ≡ has_body_of k (olds ps)
  body-alike (kind.Function is_generator is_async) (parameters ∷ body ∷ types ∷ return_type ∷ []) = ap not body.flags.is_absent
  body-alike kind.FnExpr (name ∷ function ∷ []) = function.flags.has_body
  body-alike (kind.Ident text ctxt optional) ps = refl
  body-alike _ ps = refl

  role-flags : (n' n : Node) (k : Kind) (ps : List Told) → Flags (role_by n' (renamed_ident to k) (news ps)) (role_by n k (olds ps))
  role-flags n' n k ps = record { is_absent = absent-alike k; is_this = this-alike k ps; is_type = type-kept k (news ps) ∙ types-alike k ps; has_body = body-alike k ps }

  same-flags : (n' n : Node) (k : Kind) → Flags (role_by n' k []) (role_by n k [])
  same-flags n' n k = record { is_absent = refl; is_this = refl; is_type = refl; has_body = refl }

  unaffected : (n' n : Node) → Flags (no_effect n') (no_effect n)
  unaffected n' n = record { is_absent = refl; is_this = refl; is_type = refl; has_body = refl }

  layer-flags : (n' n : Node) (k : Kind) (ps : List Told) → Flags (meaning_by n' (renamed_ident to k) (news ps)) (meaning_by n k (olds ps))
  layer-flags n' n kind.ParenExpr (e ∷ []) = record { is_absent = e.flags.is_absent; is_this = e.flags.is_this; is_type = e.flags.is_type; has_body = e.flags.has_body }
  layer-flags n' n kind.TsAsExpr (e ∷ type ∷ []) = e.flags
  layer-flags n' n kind.TsTypeAssertion (e ∷ type ∷ []) = e.flags
  layer-flags n' n kind.TsConstAssertion (e ∷ []) = e.flags
  layer-flags n' n kind.TsNonNullExpr (e ∷ []) = e.flags
  layer-flags n' n kind.TsInstantiation (e ∷ types ∷ []) = e.flags
  layer-flags n' n kind.TsSatisfiesExpr (e ∷ type ∷ []) = e.flags
  layer-flags n' n kind.TsTypeAnn ps = same-flags n' n kind.Absent
  layer-flags n' n kind.TsTypeParamDecl ps = same-flags n' n kind.Absent
  layer-flags n' n kind.TsTypeParamInstantiation ps = same-flags n' n kind.Absent
  layer-flags n' n kind.TsQualifiedName (left ∷ right ∷ []) = record { is_absent = refl; is_this = refl; is_type = refl; has_body = refl }
  layer-flags n' n (kind.TsImportEqualsDecl false false) (name ∷ source ∷ []) = record { is_absent = refl; is_this = refl; is_type = refl; has_body = refl }
  layer-flags n' n (kind.TsImportEqualsDecl true false) (name ∷ source ∷ []) =
      bare-flags (either-bare source.second.is_required (record { is_absent = refl; is_this = refl; is_type = refl; has_body = refl }) (record { is_absent = refl; is_this = refl; is_type = refl; has_body = refl }))
      (either-bare source.first.is_required (record { is_absent = refl; is_this = refl; is_type = refl; has_body = refl }) (record { is_absent = refl; is_this = refl; is_type = refl; has_body = refl }))
  layer-flags n' n (kind.TsEnumDecl false is_const) (name ∷ members ∷ []) = record { is_absent = refl; is_this = refl; is_type = refl; has_body = refl }
  layer-flags n' n kind.TsEnumMember (name ∷ init ∷ []) = record { is_absent = refl; is_this = refl; is_type = refl; has_body = refl }
  layer-flags n' n k ps =
      either-flags (has_no_effect (renamed_ident to k) (news ps)) (has_no_effect k (olds ps)) {x' = no_effect n'} {x = no_effect n} {y' = role_by n' (renamed_ident to k) (news ps)} {y = role_by n k (olds ps)}
      (effect-kept k (news ps) ∙ effect-alike k ps) (unaffected n' n) (role-flags n' n k ps)

  abbrev Kept : Node → Type 0
  Kept n = Flags (meaning (renamed to n)) (meaning n)

  abbrev told : (n : Node) × Kept n → Told
  told n = record { first = meaning n.0; second = meaning (renamed to n.0); flags = n.1 }

  old-meanings : (ns : List ((n : Node) × Kept n)) → map meaning (map (λ e. e.0) ns) ≡ olds (map told ns)
  old-meanings [] = refl
  old-meanings (n ∷ ns) = ap (λ rest. meaning n.0 ∷ rest) (old-meanings ns)

  new-meanings : (ns : List ((n : Node) × Kept n)) → map meaning (map (renamed to) (map (λ e. e.0) ns)) ≡ news (map told ns)
  new-meanings [] = refl
  new-meanings (n ∷ ns) = ap (λ rest. meaning (renamed to n.0) ∷ rest) (new-meanings ns)

  pub renamed-flags : (n : Node) → Kept n
  renamed-flags = ind-Node Kept (λ x y is.
      let new : Node-F Node = record { span = x.span; kind = renamed_ident to x.kind; children = map (renamed to) x.children } in
      let e : renamed to (roll-Node x) ≡ roll-Node new = fold-roll-Node Node (renamed_node to) x in
      let a : meaning (renamed to (roll-Node x)) ≡ meaning_by (roll-Node new) (renamed_ident to x.kind) (news (map told y.children)) =
      ap meaning e ∙ meaning-roll new ∙ ap (λ z. meaning_by (roll-Node new) (renamed_ident to x.kind) (map meaning (map (renamed to) z.children))) (sym is)
      ∙ ap (meaning_by (roll-Node new) (renamed_ident to x.kind)) (new-meanings y.children) in
      let b : meaning (roll-Node x) ≡ meaning_by (roll-Node x) x.kind (olds (map told y.children)) =
      meaning-roll x ∙ ap (λ z. meaning_by (roll-Node x) x.kind (map meaning z.children)) (sym is) ∙ ap (meaning_by (roll-Node x) x.kind) (old-meanings y.children) in
      let f = layer-flags (roll-Node new) (roll-Node x) x.kind (map told y.children) in
      record {
        is_absent = ap (λ m. m.is_absent) a ∙ f.is_absent ∙ sym (ap (λ m. m.is_absent) b);
        is_this = ap (λ m. m.is_this) a ∙ f.is_this ∙ sym (ap (λ m. m.is_this) b);
        is_type = ap (λ m. m.is_type) a ∙ f.is_type ∙ sym (ap (λ m. m.is_type) b);
        has_body = ap (λ m. m.has_body) a ∙ f.has_body ∙ sym (ap (λ m. m.has_body) b);
      })
