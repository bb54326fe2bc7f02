-- Statements and modules are laid out alike with other children that are.
use Rattle.std.proofs.Common.{◌≡◌, refl, ap, ◌∙◌, List, [], ◌∷◌, map, true, false, codes}
use Rattle.ecma_kind.specs.declared.kind.Kind.{Kind}
use Rattle.ecma_kind.specs.declared.kind.Kind.TheVariants as kind
use Rattle.ecma_print.specs.declared.place.Begins.TheVariants.{Anywhere, StatementStart, DefaultStart}
use Rattle.ecma_print.specs.declared.place.Beside.TheVariants.{NoNeighbor}
use Rattle.ecma_print.specs.declared.place.Spot.{Spot}
use Rattle.ecma_print.specs.declared.place.Between.TheVariants.{Blank, Equals, From, As, BeforeAs, Attributes, Finally, Parentheses}
use Rattle.ecma_print.specs.declared.place.Place.TheVariants.{At, Within, Lines, Deeper, Block, Commas, Imports, Exports}
use Rattle.ecma_print.specs.Pieces.{say, ◌>>◌}
use Rattle.ecma_print.specs.Places.{free, right, beginning}
use Rattle.ecma_print.specs.Laid.{is_block}
use Rattle.ecma_print.specs.Layout.{laid}
use Rattle.ecma_print.specs.Statements.{else_behind, case_word, behind_body, for_word, statement_end, keyword, statement, control}
use Rattle.ecma_print.specs.Modules.{hashbang, import_equals_word, importing, exporting}
use Rattle.ecma_print.specs.Spots.{first_spots, further_spot}
use Rattle.ecma_print_covers.proofs.Pairs.{AllAlike, Pair, TemplateHasLists, afters, befores}

module _ (spot : Spot) where
  pub statement_alike : (k : Kind) (ps : List Pair) → AllAlike ps (first_spots k (map laid (befores ps)) spot) (further_spot k spot) → TemplateHasLists k (befores ps) → statement k (map laid (afters ps)) spot ≡ statement k (map laid (befores ps)) spot
  statement_alike kind.ExprStmt (a ∷ []) h l = λ i. h.0.at (At (beginning 0 StatementStart false)) refl i >> say (codes ";")
  statement_alike kind.BlockStmt (a ∷ []) h l = λ i. h.0.at (Block) refl i
  statement_alike kind.ReturnStmt (a ∷ []) h l = λ i. say (codes "return") >> h.0.at (Within Blank (free 0)) refl i >> say (codes ";")
  statement_alike kind.ThrowStmt (a ∷ []) h l = λ i. say (codes "throw") >> h.0.at (Within Blank (free 0)) refl i >> say (codes ";")
  statement_alike kind.BreakStmt (a ∷ []) h l = λ i. say (codes "break") >> h.0.at (Within Blank (free 0)) refl i >> say (codes ";")
  statement_alike kind.ContinueStmt (a ∷ []) h l = λ i. say (codes "continue") >> h.0.at (Within Blank (free 0)) refl i >> say (codes ";")
  statement_alike kind.LabeledStmt (a ∷ b ∷ []) h l = λ i. h.0.at (At (free 0)) refl i >> say (codes ": ") >> h.1.0.at (At (free 0)) refl i
  statement_alike (kind.VarDecl sort declare) (a ∷ []) h l = λ i. say (keyword sort) >> say (codes " ") >> h.0.at (Commas (right spot 1 NoNeighbor)) refl i >> say (statement_end spot.without_in)
  statement_alike (kind.VarDeclarator definite) (a ∷ b ∷ []) h l = λ i. h.0.at (At (free 1)) refl i >> h.1.0.at (Within Equals (right spot 1 NoNeighbor)) refl i
  statement_alike _ ps h l = refl

  pub control_alike : (k : Kind) (ps : List Pair) → AllAlike ps (first_spots k (map laid (befores ps)) spot) (further_spot k spot) → TemplateHasLists k (befores ps) → control k (map laid (afters ps)) ≡ control k (map laid (befores ps))
  control_alike kind.IfStmt (a ∷ b ∷ d ∷ []) h l = ap (λ z. say (codes "if (") >> (laid a.after).at (At (free 0)) >> say (codes ")") >> (laid b.after).at (Within Blank (free 0)) >> (laid d.after).at (Within (else_behind z) (free 0))) (h.1.0.block) ∙ (λ i. say (codes "if (") >> h.0.at (At (free 0)) refl i >> say (codes ")") >> h.1.0.at (Within Blank (free 0)) refl i >> h.1.1.0.at (Within (else_behind (is_block (laid b.before).kind)) (free 0)) refl i)
  control_alike kind.SwitchStmt (a ∷ b ∷ []) h l = λ i. say (codes "switch (") >> h.0.at (At (free 0)) refl i >> say (codes ") ") >> h.1.0.at (Block) refl i
  control_alike kind.SwitchCase (a ∷ b ∷ []) h l = λ i. say (case_word (h.0.missing i)) >> h.0.at (At (free 0)) refl i >> say (codes ":") >> h.1.0.at (Deeper) refl i
  control_alike kind.TryStmt (a ∷ b ∷ d ∷ []) h l = λ i. say (codes "try ") >> h.0.at (At (free 0)) refl i >> h.1.0.at (Within Blank (free 0)) refl i >> h.1.1.0.at (Within Finally (free 0)) refl i
  control_alike kind.CatchClause (a ∷ b ∷ []) h l = λ i. say (codes "catch") >> h.0.at (Within Parentheses (free 1)) refl i >> h.1.0.at (Within Blank (free 0)) refl i
  control_alike kind.WhileStmt (a ∷ b ∷ []) h l = λ i. say (codes "while (") >> h.0.at (At (free 0)) refl i >> say (codes ")") >> h.1.0.at (Within Blank (free 0)) refl i
  control_alike kind.DoWhileStmt (a ∷ b ∷ []) h l = λ i. say (codes "do") >> h.1.0.at (Within Blank (free 0)) refl i >> behind_body (h.1.0.block i) >> say (codes "while (") >> h.0.at (At (free 0)) refl i >> say (codes ");")
  control_alike kind.ForStmt (a ∷ b ∷ d ∷ e ∷ []) h l = λ i. say (codes "for (") >> h.0.at (At (beginning 0 Anywhere true)) refl i >> say (codes ";") >> h.1.0.at (Within Blank (free 0)) refl i >> say (codes ";") >> h.1.1.0.at (Within Blank (free 0)) refl i >> say (codes ")") >> h.1.1.1.0.at (Within Blank (free 0)) refl i
  control_alike kind.ForInStmt (a ∷ b ∷ d ∷ []) h l = λ i. say (codes "for (") >> h.0.at (At (beginning 0 Anywhere true)) refl i >> say (codes " in ") >> h.1.0.at (At (free 0)) refl i >> say (codes ")") >> h.1.1.0.at (Within Blank (free 0)) refl i
  control_alike (kind.ForOfStmt is_await) (a ∷ b ∷ d ∷ []) h l = λ i. say (for_word is_await) >> h.0.at (At (beginning 0 Anywhere true)) refl i >> say (codes " of ") >> h.1.0.at (At (free 1)) refl i >> say (codes ")") >> h.1.1.0.at (Within Blank (free 0)) refl i
  control_alike _ ps h l = refl

  pub importing_alike : (k : Kind) (ps : List Pair) → AllAlike ps (first_spots k (map laid (befores ps)) spot) (further_spot k spot) → TemplateHasLists k (befores ps) → importing k (map laid (afters ps)) ≡ importing k (map laid (befores ps))
  importing_alike (kind.Module shebang) (a ∷ []) h l = λ i. hashbang shebang >> h.0.at (Lines) refl i
  importing_alike (kind.Script shebang) (a ∷ []) h l = λ i. hashbang shebang >> h.0.at (Lines) refl i
  importing_alike (kind.ImportDecl type_only) (a ∷ b ∷ d ∷ []) h l = λ i. say (codes "import") >> h.0.at (Imports) refl i >> h.1.0.at (At (free 0)) refl i >> h.1.1.0.at (Within Attributes (free 0)) refl i >> say (codes ";")
  importing_alike (kind.ImportNamedSpecifier is_type_only) (a ∷ b ∷ []) h l = λ i. h.1.0.at (Within BeforeAs (free 0)) refl i >> h.0.at (At (free 0)) refl i
  importing_alike kind.ImportDefaultSpecifier (a ∷ []) h l = λ i. say [] >> h.0.at (At (free 0)) refl i
  importing_alike kind.ImportStarAsSpecifier (a ∷ []) h l = λ i. say (codes "* as ") >> h.0.at (At (free 0)) refl i
  importing_alike (kind.TsImportEqualsDecl is_export is_type_only) (a ∷ b ∷ []) h l = λ i. say (import_equals_word is_export) >> h.0.at (At (free 0)) refl i >> say (codes " = ") >> h.1.0.at (At (free 0)) refl i >> say (codes ";")
  importing_alike kind.TsExternalModuleRef (a ∷ []) h l = λ i. say (codes "require(") >> h.0.at (At (free 0)) refl i >> say (codes ")")
  importing_alike kind.TsQualifiedName (a ∷ b ∷ []) h l = λ i. h.0.at (At (free 0)) refl i >> say (codes ".") >> h.1.0.at (At (free 0)) refl i
  importing_alike _ ps h l = refl

  pub exporting_alike : (k : Kind) (ps : List Pair) → AllAlike ps (first_spots k (map laid (befores ps)) spot) (further_spot k spot) → TemplateHasLists k (befores ps) → exporting k (map laid (afters ps)) ≡ exporting k (map laid (befores ps))
  exporting_alike kind.ExportDecl (a ∷ []) h l = λ i. say (codes "export ") >> h.0.at (At (free 0)) refl i
  exporting_alike (kind.NamedExport type_only) (a ∷ b ∷ d ∷ []) h l = λ i. say (codes "export ") >> h.0.at (Exports) refl i >> h.1.0.at (Within From (free 0)) refl i >> h.1.1.0.at (Within Attributes (free 0)) refl i >> say (codes ";")
  exporting_alike (kind.ExportNamedSpecifier is_type_only) (a ∷ b ∷ []) h l = λ i. h.0.at (At (free 0)) refl i >> h.1.0.at (Within As (free 0)) refl i
  exporting_alike kind.ExportDefaultSpecifier (a ∷ []) h l = λ i. say [] >> h.0.at (At (free 0)) refl i
  exporting_alike kind.ExportNamespaceSpecifier (a ∷ []) h l = λ i. say (codes "* as ") >> h.0.at (At (free 0)) refl i
  exporting_alike kind.ExportDefaultDecl (a ∷ []) h l = λ i. say (codes "export default ") >> h.0.at (At (free 0)) refl i
  exporting_alike kind.ExportDefaultExpr (a ∷ []) h l = λ i. say (codes "export default ") >> h.0.at (At (beginning 1 DefaultStart false)) refl i >> say (codes ";")
  exporting_alike (kind.ExportAll type_only) (a ∷ b ∷ []) h l = λ i. say (codes "export * from ") >> h.0.at (At (free 0)) refl i >> h.1.0.at (Within Attributes (free 0)) refl i >> say (codes ";")
  exporting_alike kind.TsExportAssignment (a ∷ []) h l = λ i. say (codes "export = ") >> h.0.at (At (free 0)) refl i >> say (codes ";")
  exporting_alike _ ps h l = refl
