-- What is written of nodes of these kinds, by their children.
use Rattle.std.proofs.Common.{◌≡◌, ◌∙◌, ℕ, Bool, true, false, ◌&&◌, not, cond, refl, sym, ap, List, [], ◌∷◌, length, Option, Some, None, slice_get, set, suc, arith}
use Rattle.std.specs.Option.{is_some}
use Rattle.ecma_kind.specs.declared.kind.Kind.{Kind}
use Rattle.ecma_kind.specs.declared.kind.Kind.TheVariants as kind
use Rattle.ecma_kind.specs.declared.operators.AssignOp.TheVariants.{Assign}
use Rattle.ecma_kind.specs.declared.span.Span.{Span}
use Rattle.ecma_tree.specs.Nodes.{absent, node_of}
use Rattle.ecma_tree.specs.declared.node.Node.{Node, out-Node}
use Rattle.ecma_tree.specs.declared.node.Node.TheViews.{roll-out-Node}
use Rattle.ecma_utils.specs.Expressions.{assign_of}
use Rattle.ecma_lower.specs.declared.names.Names.{Names}
use Rattle.ecma_lower.specs.Writing.{constant_of, export_of, import_of, module_exports, required_of}

-- a node by its parts
rolled : (n : Node) (k : Kind) → (out-Node n).kind ≡ k → n ≡ node_of (out-Node n).span k (out-Node n).children
rolled n k is = sym (roll-out-Node n) ∙ ap (λ z. node_of (out-Node n).span z (out-Node n).children) is

-- ---- imports

module _ (names : Names) (q e : Bool) where
  abbrev as_read : Kind
  as_read = kind.TsImportEqualsDecl e false

  odd-import : (span : Span) (cs : List Node) → (length cs ≡ 2 → ⊥) → node_of span as_read cs ≡ import_of names q e span cs
  odd-import span [] odd = refl
  odd-import span (a ∷ []) odd = refl
  odd-import span (a ∷ b ∷ []) odd = absurd (odd refl)
  odd-import span (a ∷ b ∷ c ∷ cs) odd = refl

  kept-import : (span : Span) (cs : List Node) → (q && not (is_some names.required)) ≡ true → node_of span as_read cs ≡ import_of names q e span cs
  kept-import span [] keeps = refl
  kept-import span (a ∷ []) keeps = refl
  kept-import span (a ∷ b ∷ []) keeps = sym (ap (λ t. cond t (node_of span as_read (a ∷ b ∷ [])) (constant_of names q e span a b)) keeps)
  kept-import span (a ∷ b ∷ c ∷ cs) keeps = refl

  pub import-odd : (n : Node) → (out-Node n).kind ≡ kind.TsImportEqualsDecl e false → (length (out-Node n).children ≡ 2 → ⊥) → n ≡ import_of names q e (out-Node n).span (out-Node n).children
  import-odd n is odd = rolled n as_read is ∙ odd-import (out-Node n).span (out-Node n).children odd

  pub import-kept : (n : Node) → (out-Node n).kind ≡ kind.TsImportEqualsDecl e false → (q && not (is_some names.required)) ≡ true → n ≡ import_of names q e (out-Node n).span (out-Node n).children
  import-kept n is keeps = rolled n as_read is ∙ kept-import (out-Node n).span (out-Node n).children keeps

  -- of two children that were taken out one after the other
  pub import-written : (span : Span) (cs : List Node) (a b : Node) → length cs ≡ 2 → slice_get cs 0 ≡ Some a → slice_get (set cs 0 absent) 1 ≡ Some b → (q && not (is_some names.required)) ≡ false
      → constant_of names q e span a b ≡ import_of names q e span cs
  import-written span [] a b two first second free = cc
  import-written span (x ∷ []) a b two first second free = cc
  import-written span (x ∷ y ∷ []) a b two first second free =
      let same-a : x ≡ a = cc in
      let same-b : y ≡ b = cc in
      sym (ap (λ t. cond t (node_of span as_read (x ∷ y ∷ [])) (constant_of names q e span x y)) free
      ∙ ap (λ z. constant_of names q e span z y) same-a ∙ ap (λ z. constant_of names q e span a z) same-b)
  import-written span (x ∷ y ∷ z ∷ cs) a b two first second free = absurd (too-many two)
    where
      too-many : suc (suc (suc (length cs))) ≡ 2 → ⊥
      too-many h = omega (arith, h)

-- ---- the right side of an import, and `export =`

pub required-kept : (n : Node) → (out-Node n).kind ≡ kind.TsExternalModuleRef → n ≡ required_of None (out-Node n).span (out-Node n).children
required-kept n is = rolled n kind.TsExternalModuleRef is

odd-export : (free : Option ℕ) (span : Span) (cs : List Node) → (length cs ≡ 1 → ⊥) → node_of span kind.TsExportAssignment cs ≡ export_of free span cs
odd-export None span cs odd = refl
odd-export (Some f) span [] odd = refl
odd-export (Some f) span (a ∷ []) odd = absurd (odd refl)
odd-export (Some f) span (a ∷ b ∷ cs) odd = refl

pub export-odd : (free : Option ℕ) (n : Node) → (out-Node n).kind ≡ kind.TsExportAssignment → (length (out-Node n).children ≡ 1 → ⊥) → n ≡ export_of free (out-Node n).span (out-Node n).children
export-odd free n is odd = rolled n kind.TsExportAssignment is ∙ odd-export free (out-Node n).span (out-Node n).children odd

pub export-kept : (n : Node) → (out-Node n).kind ≡ kind.TsExportAssignment → n ≡ export_of None (out-Node n).span (out-Node n).children
export-kept n is = rolled n kind.TsExportAssignment is

pub export-written : (f : ℕ) (span : Span) (cs : List Node) (e : Node) → length cs ≡ 1 → slice_get cs 0 ≡ Some e
    → node_of span kind.ExprStmt (assign_of Assign (module_exports f) e ∷ []) ≡ export_of (Some f) span cs
export-written f span [] e one at = cc
export-written f span (x ∷ []) e one at = let same : x ≡ e = cc in ap (λ z. node_of span kind.ExprStmt (assign_of Assign (module_exports f) z ∷ [])) (sym same)
export-written f span (x ∷ y ∷ cs) e one at = absurd (too-many one)
  where
    too-many : suc (suc (length cs)) ≡ 1 → ⊥
    too-many h = omega (arith, h)

pub ruleset writing = (import-odd, import-kept, import-written, required-kept, export-odd, export-kept, export-written)
