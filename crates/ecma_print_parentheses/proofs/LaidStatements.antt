-- Statements and modules are laid out alike with their children in their spots.
use Rattle.std.proofs.Common.{◌≡◌, refl, ap, ◌∙◌, List, [], ◌∷◌, map, true, false, codes}
use Rattle.ecma_kind.specs.declared.kind.Kind.{Kind}
use Rattle.ecma_kind.specs.declared.kind.Kind.TheVariants as kind
use Rattle.ecma_print.specs.declared.place.Begins.TheVariants.{Anywhere, StatementStart, DefaultStart}
use Rattle.ecma_print.specs.declared.place.Beside.TheVariants.{NoNeighbor}
use Rattle.ecma_print.specs.declared.place.Spot.{Spot}
use Rattle.ecma_print.specs.declared.place.Between.TheVariants.{Blank, Equals, From, As, BeforeAs, Attributes, Finally, Parentheses}
use Rattle.ecma_print.specs.declared.place.Place.TheVariants.{At, Within, Lines, Deeper, Block, Commas, Imports, Exports}
use Rattle.ecma_print.specs.Pieces.{say, ◌>>◌}
use Rattle.ecma_print.specs.Places.{free, right, beginning}
use Rattle.ecma_print.specs.Laid.{is_absent, is_block}
use Rattle.ecma_print.specs.Layout.{laid}
use Rattle.ecma_print.specs.Statements.{else_behind, case_word, behind_body, for_word, statement_end, keyword, statement, control}
use Rattle.ecma_print.specs.Modules.{hashbang, import_equals_word, importing, exporting}
use Rattle.ecma_print.specs.Explicit.{stood}
use Rattle.ecma_print_parentheses.proofs.Asking.{Fits, said_where_free}
use Rattle.ecma_print_parentheses.proofs.Spotted.{spotted}
use Rattle.ecma_print_parentheses.proofs.Places.{Child, nodes, TemplateHasLists}
use Rattle.ecma_print_parentheses.proofs.Shaped.{AllShaped}

module _ (spot : Spot) (fits : Fits spot) where
  pub statement_alike : (k : Kind) (ns : List Child) → AllShaped (nodes ns) → TemplateHasLists k (nodes ns) → statement k (map laid (spotted k (nodes ns) spot)) spot ≡ statement k (map laid (nodes ns)) spot
  statement_alike kind.ExprStmt (a ∷ []) h l = λ i. a.1.at h.0 (At (beginning 0 StatementStart false)) refl i >> say (codes ";")
  statement_alike kind.BlockStmt (a ∷ []) h l = λ i. a.1.at h.0 (Block) refl i
  statement_alike kind.ReturnStmt (a ∷ []) h l = λ i. say (codes "return") >> a.1.at h.0 (Within Blank (free 0)) refl i >> say (codes ";")
  statement_alike kind.ThrowStmt (a ∷ []) h l = λ i. say (codes "throw") >> a.1.at h.0 (Within Blank (free 0)) refl i >> say (codes ";")
  statement_alike kind.BreakStmt (a ∷ []) h l = λ i. say (codes "break") >> a.1.at h.0 (Within Blank (free 0)) refl i >> say (codes ";")
  statement_alike kind.ContinueStmt (a ∷ []) h l = λ i. say (codes "continue") >> a.1.at h.0 (Within Blank (free 0)) refl i >> say (codes ";")
  statement_alike kind.LabeledStmt (a ∷ b ∷ []) h l = λ i. a.1.at h.0 (At (free 0)) refl i >> say (codes ": ") >> b.1.at h.1.0 (At (free 0)) refl i
  statement_alike (kind.VarDecl sort declare) (a ∷ []) h l = λ i. say (keyword sort) >> say (codes " ") >> a.1.at h.0 (Commas (right spot 1 NoNeighbor)) refl i >> say (statement_end spot.without_in)
  statement_alike (kind.VarDeclarator definite) (a ∷ b ∷ []) h l = λ i. a.1.at h.0 (At (free 1)) refl i >> b.1.at h.1.0 (Within Equals (right spot 1 NoNeighbor)) refl i
  statement_alike _ ns h l = refl

  pub control_alike : (k : Kind) (ns : List Child) → AllShaped (nodes ns) → TemplateHasLists k (nodes ns) → control k (map laid (spotted k (nodes ns) spot)) ≡ control k (map laid (nodes ns))
  control_alike kind.IfStmt (a ∷ b ∷ d ∷ []) h l = ap (λ z. say (codes "if (") >> (laid ((stood a.0).at (free 0))).at (At (free 0)) >> say (codes ")") >> (laid ((stood b.0).at (free 0))).at (Within Blank (free 0)) >> (laid ((stood d.0).at (free 0))).at (Within (else_behind z) (free 0))) (said_where_free is_block refl b.0) ∙ (λ i. say (codes "if (") >> a.1.at h.0 (At (free 0)) refl i >> say (codes ")") >> b.1.at h.1.0 (Within Blank (free 0)) refl i >> d.1.at h.1.1.0 (Within (else_behind (is_block (laid b.0).kind)) (free 0)) refl i)
  control_alike kind.SwitchStmt (a ∷ b ∷ []) h l = λ i. say (codes "switch (") >> a.1.at h.0 (At (free 0)) refl i >> say (codes ") ") >> b.1.at h.1.0 (Block) refl i
  control_alike kind.SwitchCase (a ∷ b ∷ []) h l = λ i. say (case_word (said_where_free is_absent refl a.0 i)) >> a.1.at h.0 (At (free 0)) refl i >> say (codes ":") >> b.1.at h.1.0 (Deeper) refl i
  control_alike kind.TryStmt (a ∷ b ∷ d ∷ []) h l = λ i. say (codes "try ") >> a.1.at h.0 (At (free 0)) refl i >> b.1.at h.1.0 (Within Blank (free 0)) refl i >> d.1.at h.1.1.0 (Within Finally (free 0)) refl i
  control_alike kind.CatchClause (a ∷ b ∷ []) h l = λ i. say (codes "catch") >> a.1.at h.0 (Within Parentheses (free 1)) refl i >> b.1.at h.1.0 (Within Blank (free 0)) refl i
  control_alike kind.WhileStmt (a ∷ b ∷ []) h l = λ i. say (codes "while (") >> a.1.at h.0 (At (free 0)) refl i >> say (codes ")") >> b.1.at h.1.0 (Within Blank (free 0)) refl i
  control_alike kind.DoWhileStmt (a ∷ b ∷ []) h l = λ i. say (codes "do") >> b.1.at h.1.0 (Within Blank (free 0)) refl i >> behind_body (said_where_free is_block refl b.0 i) >> say (codes "while (") >> a.1.at h.0 (At (free 0)) refl i >> say (codes ");")
  control_alike kind.ForStmt (a ∷ b ∷ d ∷ e ∷ []) h l = λ i. say (codes "for (") >> a.1.at h.0 (At (beginning 0 Anywhere true)) refl i >> say (codes ";") >> b.1.at h.1.0 (Within Blank (free 0)) refl i >> say (codes ";") >> d.1.at h.1.1.0 (Within Blank (free 0)) refl i >> say (codes ")") >> e.1.at h.1.1.1.0 (Within Blank (free 0)) refl i
  control_alike kind.ForInStmt (a ∷ b ∷ d ∷ []) h l = λ i. say (codes "for (") >> a.1.at h.0 (At (beginning 0 Anywhere true)) refl i >> say (codes " in ") >> b.1.at h.1.0 (At (free 0)) refl i >> say (codes ")") >> d.1.at h.1.1.0 (Within Blank (free 0)) refl i
  control_alike (kind.ForOfStmt is_await) (a ∷ b ∷ d ∷ []) h l = λ i. say (for_word is_await) >> a.1.at h.0 (At (beginning 0 Anywhere true)) refl i >> say (codes " of ") >> b.1.at h.1.0 (At (free 1)) refl i >> say (codes ")") >> d.1.at h.1.1.0 (Within Blank (free 0)) refl i
  control_alike _ ns h l = refl

  pub importing_alike : (k : Kind) (ns : List Child) → AllShaped (nodes ns) → TemplateHasLists k (nodes ns) → importing k (map laid (spotted k (nodes ns) spot)) ≡ importing k (map laid (nodes ns))
  importing_alike (kind.Module shebang) (a ∷ []) h l = λ i. hashbang shebang >> a.1.at h.0 (Lines) refl i
  importing_alike (kind.Script shebang) (a ∷ []) h l = λ i. hashbang shebang >> a.1.at h.0 (Lines) refl i
  importing_alike (kind.ImportDecl type_only) (a ∷ b ∷ d ∷ []) h l = λ i. say (codes "import") >> a.1.at h.0 (Imports) refl i >> b.1.at h.1.0 (At (free 0)) refl i >> d.1.at h.1.1.0 (Within Attributes (free 0)) refl i >> say (codes ";")
  importing_alike (kind.ImportNamedSpecifier is_type_only) (a ∷ b ∷ []) h l = λ i. b.1.at h.1.0 (Within BeforeAs (free 0)) refl i >> a.1.at h.0 (At (free 0)) refl i
  importing_alike kind.ImportDefaultSpecifier (a ∷ []) h l = λ i. say [] >> a.1.at h.0 (At (free 0)) refl i
  importing_alike kind.ImportStarAsSpecifier (a ∷ []) h l = λ i. say (codes "* as ") >> a.1.at h.0 (At (free 0)) refl i
  importing_alike (kind.TsImportEqualsDecl is_export is_type_only) (a ∷ b ∷ []) h l = λ i. say (import_equals_word is_export) >> a.1.at h.0 (At (free 0)) refl i >> say (codes " = ") >> b.1.at h.1.0 (At (free 0)) refl i >> say (codes ";")
  importing_alike kind.TsExternalModuleRef (a ∷ []) h l = λ i. say (codes "require(") >> a.1.at h.0 (At (free 0)) refl i >> say (codes ")")
  importing_alike kind.TsQualifiedName (a ∷ b ∷ []) h l = λ i. a.1.at h.0 (At (free 0)) refl i >> say (codes ".") >> b.1.at h.1.0 (At (free 0)) refl i
  importing_alike _ ns h l = refl

  pub exporting_alike : (k : Kind) (ns : List Child) → AllShaped (nodes ns) → TemplateHasLists k (nodes ns) → exporting k (map laid (spotted k (nodes ns) spot)) ≡ exporting k (map laid (nodes ns))
  exporting_alike kind.ExportDecl (a ∷ []) h l = λ i. say (codes "export ") >> a.1.at h.0 (At (free 0)) refl i
  exporting_alike (kind.NamedExport type_only) (a ∷ b ∷ d ∷ []) h l = λ i. say (codes "export ") >> a.1.at h.0 (Exports) refl i >> b.1.at h.1.0 (Within From (free 0)) refl i >> d.1.at h.1.1.0 (Within Attributes (free 0)) refl i >> say (codes ";")
  exporting_alike (kind.ExportNamedSpecifier is_type_only) (a ∷ b ∷ []) h l = λ i. a.1.at h.0 (At (free 0)) refl i >> b.1.at h.1.0 (Within As (free 0)) refl i
  exporting_alike kind.ExportDefaultSpecifier (a ∷ []) h l = λ i. say [] >> a.1.at h.0 (At (free 0)) refl i
  exporting_alike kind.ExportNamespaceSpecifier (a ∷ []) h l = λ i. say (codes "* as ") >> a.1.at h.0 (At (free 0)) refl i
  exporting_alike kind.ExportDefaultDecl (a ∷ []) h l = λ i. say (codes "export default ") >> a.1.at h.0 (At (free 0)) refl i
  exporting_alike kind.ExportDefaultExpr (a ∷ []) h l = λ i. say (codes "export default ") >> a.1.at h.0 (At (beginning 1 DefaultStart false)) refl i >> say (codes ";")
  exporting_alike (kind.ExportAll type_only) (a ∷ b ∷ []) h l = λ i. say (codes "export * from ") >> a.1.at h.0 (At (free 0)) refl i >> b.1.at h.1.0 (Within Attributes (free 0)) refl i >> say (codes ";")
  exporting_alike kind.TsExportAssignment (a ∷ []) h l = λ i. say (codes "export = ") >> a.1.at h.0 (At (free 0)) refl i >> say (codes ";")
  exporting_alike _ ns h l = refl
