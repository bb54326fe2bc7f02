-- With other texts for its identifiers a module imports and exports what it does by these texts.
use Rattle.std.specs.Prelude.{◌≡◌, ℕ, Bool, true, false, Some, List, [], ◌∷◌, slice_get}
use Rattle.ecma_kind.specs.declared.kind.Kind.{Kind}
use Rattle.ecma_kind.specs.declared.kind.Kind.TheVariants as kind
use Rattle.ecma_tree.specs.declared.node.Node.{Node}
use Rattle.ecma_fits.specs.Fitting.{Fits}
use Rattle.ecma_hygiene.specs.Renamed.{Texts, renamed, text_of}
use Rattle.ecma_interface.specs.Names.{Id}
use Rattle.ecma_interface.specs.Reading.{bound_at, interface_of, own_text}
use Rattle.ecma_rules.specs.Children.{items_at, kind_of}
use Rattle.ecma_strip.specs.Staying.{stays}

-- each of these ids keeps its text
abbrev pub KeepTexts : Texts → List Id → Type 0
KeepTexts texts [] = Unit {0}
KeepTexts texts (id ∷ ids) = (text_of texts id ≡ id.0) × KeepTexts texts ids

-- an export of a declaration
abbrev pub exports_declaration : Kind → Bool
exports_declaration kind.ExportDecl = true
exports_declaration (kind.TsImportEqualsDecl is_export is_type_only) = is_export
exports_declaration _ = false

-- what a declaration behind `export` binds keeps its text, where the item stays
--   export let { a, b: [c] } = d;   // a and c
abbrev pub KeepsExported : Texts → Node → Type 0
KeepsExported texts tree =
    (i : ℕ) (item : Node) → slice_get (items_at tree 0) i ≡ Some item → stays item ≡ true → exports_declaration (kind_of item) ≡ true → KeepTexts texts (bound_at item 0)

-- of a module that fits
abbrev pub FinalTextsKeepInterfaces : Type 0
FinalTextsKeepInterfaces = (texts : Texts) (tree : Node) → Fits tree → KeepsExported texts tree → interface_of own_text (renamed texts tree) ≡ interface_of (text_of texts) tree
