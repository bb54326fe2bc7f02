-- Texts that exported declarations keep.
use Rattle.std.specs.Prelude.{◌≡◌, ℕ, List}
use Rattle.std.specs.List.{All}
use Rattle.ecma_tree.specs.declared.node.Node.{Node}
use Rattle.ecma_hygiene.specs.Ids.{Id}
use Rattle.ecma_runs.specs.Exports.{export_names}
use Rattle.ecma_runs.specs.Observation.{exports_in}

-- other modules know a declaration behind `export` by its text, so it keeps it
--   export let a = 1; { declare const a: any; a; }   // `a` may not become `a1`
abbrev pub KeepsExportedTexts : (Id → List ℕ) → Node → Type 0
KeepsExportedTexts text tree = All (λ id. text (id.sym, id.ctxt) ≡ id.sym) (export_names (exports_in tree))
