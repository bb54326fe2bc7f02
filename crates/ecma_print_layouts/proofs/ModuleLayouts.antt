-- The layout of a module is the text of its tokens.
use Rattle.std.proofs.Common.{Bool, ◌≡◌, ℕ, true, false, List, [], ◌∷◌, ◌++◌, map, codes, refl, ap, sym, ◌∙◌, append-nil, None, Some}
use Rattle.ecma_kind.specs.declared.kind.Kind.TheVariants as kind
use Rattle.ecma_tree.specs.declared.node.Node.{Node}
use Rattle.ecma_tree.specs.Nodes.{node_of}
use Rattle.ecma_print.specs.declared.place.Begins.TheVariants.{DefaultStart}
use Rattle.ecma_print.specs.declared.place.Between.{Between}
use Rattle.ecma_print.specs.declared.place.Between.TheVariants.{Blank, Attributes, From, As, BeforeAs}
use Rattle.ecma_print.specs.declared.place.Place.TheVariants.{At, Within, Braces, Lines, Imports, Exports}
use Rattle.ecma_print.specs.Places.{free, beginning, before, after}
use Rattle.ecma_print.specs.Laid.{is_named}
use Rattle.ecma_print.specs.Lists.{lines, more_commas, specifiers, more_specifiers, imports, exports}
use Rattle.ecma_print.specs.Modules.{import_equals_word}
use Rattle.ecma_print.specs.Functions.{function_head}
use Rattle.ecma_print.specs.Layout.{laid, layout}
use Rattle.ecma_print_tokens.specs.Items as items
use Rattle.ecma_print_tokens.specs.Items.{Tok, Gap, no_gap, Items, token_text, render}
use Rattle.ecma_shapes.specs.Shapes.{ident, key, absent}
use Rattle.ecma_shapes.specs.Modules as modules
use Rattle.ecma_shapes.specs.Modules.{IsString, IsExportName, IsAttribute, AreAttributes, IsWithClause, IsNamedImport, AreNamedImports, IsImportClause, IsNamedExport, AreNamedExports, IsExportClause, IsModuleItem, AreModuleItems, IsModule}
use Rattle.ecma_shapes.proofs.Tokens.{is_generator, is_async, function_name_tokens, function_tokens, class_tokens}
use Rattle.ecma_shapes.proofs.Signs.{blank, line, sign_of}
use Rattle.ecma_shapes.proofs.ModuleTokens.{module_head, spaced, spaced_word, spaced_sign, string_raw, export_name_token, attribute_tokens, more_attributes_tokens, with_tokens, source_tokens, named_import_tokens, more_imports_tokens, named_imports_tokens, import_clause_tokens, require_tokens, import_equals_tokens, item_tokens, items_tokens, module_tokens, from_tokens, named_export_tokens, more_exports_tokens, export_clause_tokens}
use Rattle.ecma_print_layouts.proofs.Layouts.{laid_node, at_node, gap_out}
use Rattle.ecma_print_layouts.proofs.Spots.{calm_default, calm_0}
use Rattle.ecma_print_layouts.proofs.StatementLayouts.{expression_laid, statement_laid, function_laid, class_laid}
use Rattle.ecma_shapes.specs.Starts.{is_declaration_word}
use Rattle.ecma_shapes.proofs.Starts.{start, starts_agree, default_start}
use Rattle.ecma_print_layouts.proofs.LayoutParts.{function_head_laid, function_name_laid, function_word_text}

string_laid : {n : Node} (s : IsString n) (m rest : List ℕ) → (laid n).at (At (free 0)) m rest ≡ string_raw s ++ rest
string_laid (modules.string_literal at raw t) m rest = at_node at _ [] (At (free 0)) m rest

export_name_laid : {n : Node} (x : IsExportName n) (between : Between) (m rest : List ℕ) → (laid n).at (Within between (free 0)) m rest ≡ before between m (token_text (export_name_token x) ++ after between m rest)
export_name_laid (modules.word_name at w t) between m rest = at_node at (kind.Ident w 0 false) [] (Within between (free 0)) m rest
export_name_laid (modules.string_name (modules.string_literal at raw t)) between m rest = at_node at _ [] (Within between (free 0)) m rest

export_name_at : {n : Node} (x : IsExportName n) (m rest : List ℕ) → (laid n).at (At (free 0)) m rest ≡ token_text (export_name_token x) ++ rest
export_name_at (modules.word_name at w t) m rest = at_node at (kind.Ident w 0 false) [] (At (free 0)) m rest
export_name_at (modules.string_name s) m rest = string_laid s m rest

-- attributes

attribute_laid : {n : Node} (is : IsAttribute n) (m : List ℕ) (us : Items) → codes " " ++ (laid n).at (At (free 1)) m (render us) ≡ render (attribute_tokens is us)
unfolding render
attribute_laid (modules.attribute at {name = name} {value = value} (modules.word_key (key at' w t)) (modules.string_literal of raw t')) m us =
    ap (λ z. codes " " ++ z) (at_node at kind.KeyValueProp (name ∷ value ∷ []) (At (free 1)) m (render us) ∙ rw (laid_node at' (kind.IdentName w) [], laid_node of _ []) refl)
attribute_laid (modules.attribute at {name = name} {value = value} (modules.string_key (modules.string_literal at' w t)) (modules.string_literal of raw t')) m us =
    ap (λ z. codes " " ++ z) (at_node at kind.KeyValueProp (name ∷ value ∷ []) (At (free 1)) m (render us) ∙ rw (laid_node at' _ [], laid_node of _ []) refl)

more_attributes_laid : {ns : List Node} (is : AreAttributes ns) (m : List ℕ) (us : Items) → more_commas (free 1) (map laid ns) m (codes " }" ++ render us) ≡ render (more_attributes_tokens is (spaced_sign (codes "}") us))
unfolding render
more_attributes_laid modules.no_attributes m us = refl
more_attributes_laid (modules.more_attributes {n = n} a more) m us =
    ap (λ z. codes ", " ++ (laid n).at (At (free 1)) m z) (more_attributes_laid more m us)
    ∙ ap (λ z. codes "," ++ z) (attribute_laid a m (more_attributes_tokens more (spaced_sign (codes "}") us)))

with_laid : {n : Node} (w : IsWithClause n) (m : List ℕ) (us : Items) → (laid n).at (Within Attributes (free 0)) m (render us) ≡ render (with_tokens w us)
unfolding render
with_laid (modules.no_with (absent at)) m us = at_node at kind.Absent [] (Within Attributes (free 0)) m (render us)
with_laid (modules.with_nothing at at') m us =
    at_node at kind.ObjectLit (node_of at' kind.List [] ∷ []) (Within Attributes (free 0)) m (render us) ∙ ap (λ z. codes " with " ++ z) (at_node at' kind.List [] Braces m (render us))
with_laid (modules.with_attributes at at' {n = n} {ns = ns} a more) m us =
    at_node at kind.ObjectLit (node_of at' kind.List (n ∷ ns) ∷ []) (Within Attributes (free 0)) m (render us)
    ∙ ap (λ z. codes " with " ++ z) (at_node at' kind.List (n ∷ ns) Braces m (render us)
    ∙ ap (λ z. codes "{ " ++ (laid n).at (At (free 1)) m z) (more_attributes_laid more m us)
    ∙ ap (λ z. codes "{" ++ z) (attribute_laid a m (more_attributes_tokens more (spaced_sign (codes "}") us))))

source_laid : {n k : Node} (s : IsString n) (w : IsWithClause k) (m : List ℕ) (us : Items)
    → codes " " ++ (laid n).at (At (free 0)) m ((laid k).at (Within Attributes (free 0)) m (codes ";" ++ render us)) ≡ render (source_tokens s w (sign_of (codes ";") us))
unfolding render
source_laid {n} s w m us = ap (λ z. codes " " ++ (laid n).at (At (free 0)) m z) (with_laid w m (sign_of (codes ";") us)) ∙ ap (λ z. codes " " ++ z) (string_laid s m (render (with_tokens w (sign_of (codes ";") us))))

-- imports

is_named_import : {n : Node} → IsNamedImport n → is_named (laid n).kind ≡ true
is_named_import (modules.same_import at i a) = ap (λ x. is_named x.kind) (laid_node at (kind.ImportNamedSpecifier false) _)
is_named_import (modules.other_import at i x) = ap (λ x. is_named x.kind) (laid_node at (kind.ImportNamedSpecifier false) _)

named_import_laid : {n : Node} (is : IsNamedImport n) (m : List ℕ) (us : Items) → codes " " ++ (laid n).at (At (free 0)) m (render us) ≡ render (named_import_tokens is us)
unfolding render
named_import_laid (modules.same_import at {local = local} {none = none} (ident at' w i) (absent at'')) m us =
    ap (λ z. codes " " ++ z) (at_node at (kind.ImportNamedSpecifier false) (local ∷ none ∷ []) (At (free 0)) m (render us) ∙ rw (laid_node at' (kind.Ident w 0 false) [], laid_node at'' kind.Absent []) refl)
named_import_laid (modules.other_import at {local = local} {imported = imported} (ident at' w i) x) m us =
    ap (λ z. codes " " ++ z)
    (at_node at (kind.ImportNamedSpecifier false) (local ∷ imported ∷ []) (At (free 0)) m (render us) ∙ rw (laid_node at' (kind.Ident w 0 false) [], export_name_laid x BeforeAs m (w ++ render us)) refl)

more_imports_laid : {ns : List Node} (is : AreNamedImports ns) (m : List ℕ) (us : Items) → more_specifiers true (map laid ns) m (render us) ≡ render (more_imports_tokens is (spaced_sign (codes "}") us))
unfolding render
more_imports_laid modules.no_imports m us = refl
more_imports_laid (modules.more_imports {n = n} {ns = ns} i is) m us =
    rw (is_named_import i)
    (ap (λ z. codes ", " ++ (laid n).at (At (free 0)) m z) (more_imports_laid is m us)
    ∙ ap (λ z. codes "," ++ z) (named_import_laid i m (more_imports_tokens is (spaced_sign (codes "}") us))))

-- in braces
named_imports_laid : {n : Node} {ns : List Node} (i : IsNamedImport n) (is : AreNamedImports ns) (m : List ℕ) (us : Items)
    → codes " { " ++ (laid n).at (At (free 0)) m (more_specifiers true (map laid ns) m (render us)) ≡ render (named_imports_tokens i is us)
unfolding render
named_imports_laid {n} i is m us =
    ap (λ z. codes " { " ++ (laid n).at (At (free 0)) m z) (more_imports_laid is m us) ∙ ap (λ z. codes " {" ++ z) (named_import_laid i m (more_imports_tokens is (spaced_sign (codes "}") us)))

import_clause_laid : {ns : List Node} (is : IsImportClause ns) (m : List ℕ) (us : Items) → codes " " ++ specifiers (map laid ns) m (render us) ≡ render (import_clause_tokens is us)
unfolding render
import_clause_laid (modules.import_default (modules.default_import at {local = local} (ident at' w i))) m us = rw (laid_node at kind.ImportDefaultSpecifier (local ∷ []), laid_node at' (kind.Ident w 0 false) []) refl
import_clause_laid (modules.import_namespace (modules.namespace_import at {local = local} (ident at' w i))) m us = rw (laid_node at kind.ImportStarAsSpecifier (local ∷ []), laid_node at' (kind.Ident w 0 false) []) refl
import_clause_laid (modules.import_names i is) m us = rw (is_named_import i) (named_imports_laid i is m us)
import_clause_laid (modules.import_default_and_namespace (modules.default_import at {local = local} (ident at' w i)) (modules.namespace_import of {local = local'} (ident of' v j))) m us =
    rw (laid_node at kind.ImportDefaultSpecifier (local ∷ []), laid_node at' (kind.Ident w 0 false) [], laid_node of kind.ImportStarAsSpecifier (local' ∷ []), laid_node of' (kind.Ident v 0 false) []) refl
import_clause_laid (modules.import_default_and_names (modules.default_import at {local = local} (ident at' w i)) n ns) m us =
    rw (laid_node at kind.ImportDefaultSpecifier (local ∷ []), laid_node at' (kind.Ident w 0 false) [], is_named_import n) (ap (λ z. codes " " ++ (w ++ (codes "," ++ z))) (named_imports_laid n ns m us))

imports_laid : {ns : List Node} {n k : Node} (is : IsImportClause ns) (s : IsString n) (w : IsWithClause k) (m : List ℕ) (us : Items)
    → imports (map laid ns) m ((laid n).at (At (free 0)) m ((laid k).at (Within Attributes (free 0)) m (codes ";" ++ render us))) ≡ render (import_clause_tokens is (spaced_word (codes "from") (source_tokens s w (sign_of (codes ";") us))))
unfolding render
imports_laid {ns} {n} {k} is s w m us =
    some is _
    ∙ (ap (λ z. codes " " ++ specifiers (map laid ns) m (codes " from" ++ z)) (source_laid s w m us) ∙ import_clause_laid is m (spaced_word (codes "from") (source_tokens s w (sign_of (codes ";") us))))
  where
    some : {ns : List Node} → IsImportClause ns → (rest : List ℕ) → imports (map laid ns) m rest ≡ codes " " ++ specifiers (map laid ns) m (codes " from " ++ rest)
    some (modules.import_default d) rest = refl
    some (modules.import_namespace a) rest = refl
    some (modules.import_names n ns) rest = refl
    some (modules.import_default_and_namespace d a) rest = refl
    some (modules.import_default_and_names d n ns) rest = refl

-- exports

is_named_export : {n : Node} → IsNamedExport n → is_named (laid n).kind ≡ true
is_named_export (modules.same_export at x a) = ap (λ x. is_named x.kind) (laid_node at (kind.ExportNamedSpecifier false) _)
is_named_export (modules.other_export at x y) = ap (λ x. is_named x.kind) (laid_node at (kind.ExportNamedSpecifier false) _)

named_export_laid : {n : Node} (is : IsNamedExport n) (m : List ℕ) (us : Items) → codes " " ++ (laid n).at (At (free 0)) m (render us) ≡ render (named_export_tokens is us)
unfolding render
named_export_laid (modules.same_export at {name = name} {none = none} x (absent at')) m us =
    ap (λ z. codes " " ++ z) (at_node at (kind.ExportNamedSpecifier false) (name ∷ none ∷ []) (At (free 0)) m (render us) ∙ rw (laid_node at' kind.Absent []) (export_name_at x m (render us)))
named_export_laid (modules.other_export at {name = name} {exported = exported} x y) m us =
    ap (λ z. codes " " ++ z)
    (at_node at (kind.ExportNamedSpecifier false) (name ∷ exported ∷ []) (At (free 0)) m (render us)
    ∙ ap (λ z. (laid name).at (At (free 0)) m z) (export_name_laid y As m (render us)) ∙ export_name_at x m (codes " as " ++ (token_text (export_name_token y) ++ render us)))

more_exports_laid : {ns : List Node} (is : AreNamedExports ns) (m : List ℕ) (us : Items) → more_specifiers true (map laid ns) m (render us) ≡ render (more_exports_tokens is (spaced_sign (codes "}") us))
unfolding render
more_exports_laid modules.no_exports m us = refl
more_exports_laid (modules.more_exports {n = n} i is) m us =
    rw (is_named_export i)
    (ap (λ z. codes ", " ++ (laid n).at (At (free 0)) m z) (more_exports_laid is m us)
    ∙ ap (λ z. codes "," ++ z) (named_export_laid i m (more_exports_tokens is (spaced_sign (codes "}") us))))

export_clause_laid : {ns : List Node} (is : IsExportClause ns) (m : List ℕ) (us : Items) → codes " " ++ exports (map laid ns) m (render us) ≡ render (export_clause_tokens is us)
unfolding render
export_clause_laid modules.export_nothing m us = refl
export_clause_laid (modules.export_names {n = n} i is) m us =
    rw (is_named_export i)
    (ap (λ z. codes " { " ++ (laid n).at (At (free 0)) m z) (more_exports_laid is m us) ∙ ap (λ z. codes " {" ++ z) (named_export_laid i m (more_exports_tokens is (spaced_sign (codes "}") us))))

-- a source behind `from`, with its attributes
from_laid : {n k : Node} (s : IsString n) (w : IsWithClause k) (m : List ℕ) (us : Items)
    → (laid n).at (Within From (free 0)) m ((laid k).at (Within Attributes (free 0)) m (codes ";" ++ render us)) ≡ render (from_tokens s w (sign_of (codes ";") us))
unfolding render
from_laid (modules.string_literal at raw t) w m us = at_node at _ [] (Within From (free 0)) m _ ∙ ap (λ z. codes " from " ++ (raw ++ z)) (with_laid w m (sign_of (codes ";") us))

-- modules

import_equals_laid : (is_export : Bool) (g : Gap) (t : Tok) (us : Items) → g.blanks ++ (import_equals_word is_export ++ (token_text t ++ render us)) ≡ render (import_equals_tokens is_export g (spaced t us))
unfolding render
import_equals_laid true g t us = refl
import_equals_laid false g t us = refl

item_laid : {assignments : Bool} {n : Node} (is : IsModuleItem assignments n) (g : Gap) (us : Items) → render (item_tokens is g us) ≡ g.blanks ++ (laid n).at (At (free 0)) [] (render us)
unfolding render
item_laid (modules.statement s) g us = statement_laid s 0 g us
item_laid (modules.import_alone at at' {source = source} {attributes = attributes} s w) g us =
    let rest = (laid source).at (At (free 0)) [] ((laid attributes).at (Within Attributes (free 0)) [] (codes ";" ++ render us)) in
    ap (λ z. g.blanks ++ z)
    (sym (at_node at (kind.ImportDecl false) (node_of at' kind.List [] ∷ source ∷ attributes ∷ []) (At (free 0)) [] (render us)
    ∙ ap (λ z. codes "import" ++ z) (at_node at' kind.List [] Imports [] rest ∙ source_laid s w [] us)))
item_laid (modules.import_bindings at at' {bindings = bindings} {source = source} {attributes = attributes} c s w) g us =
    let rest = (laid source).at (At (free 0)) [] ((laid attributes).at (Within Attributes (free 0)) [] (codes ";" ++ render us)) in
    ap (λ z. g.blanks ++ z)
    (sym (at_node at (kind.ImportDecl false) (node_of at' kind.List bindings ∷ source ∷ attributes ∷ []) (At (free 0)) [] (render us)
    ∙ ap (λ z. codes "import" ++ z) (at_node at' kind.List bindings Imports [] rest ∙ imports_laid c s w [] us)))
item_laid (modules.export_bindings at at' {bindings = bindings} c (absent of) (absent of')) g us =
    ap (λ z. g.blanks ++ z)
    (sym (at_node at (kind.NamedExport false) (node_of at' kind.List bindings ∷ node_of of kind.Absent [] ∷ node_of of' kind.Absent [] ∷ []) (At (free 0)) [] (render us)
    ∙ rw (laid_node of kind.Absent [], laid_node of' kind.Absent [])
    (ap (λ z. codes "export " ++ z) (at_node at' kind.List bindings Exports [] (codes ";" ++ render us)) ∙ ap (λ z. codes "export" ++ z) (export_clause_laid c [] (sign_of (codes ";") us)))))
item_laid (modules.export_bindings_from at at' {bindings = bindings} {source = source} {attributes = attributes} c s w) g us =
    ap (λ z. g.blanks ++ z)
    (sym (at_node at (kind.NamedExport false) (node_of at' kind.List bindings ∷ source ∷ attributes ∷ []) (At (free 0)) [] (render us)
    ∙ (ap (λ z. codes "export " ++ (laid (node_of at' kind.List bindings)).at Exports [] z) (from_laid s w [] us)
    ∙ ap (λ z. codes "export " ++ z) (at_node at' kind.List bindings Exports [] (render (from_tokens s w (sign_of (codes ";") us))))
    ∙ ap (λ z. codes "export" ++ z) (export_clause_laid c [] (from_tokens s w (sign_of (codes ";") us))))))
item_laid (modules.export_namespace at at' of {name = name} {source = source} {attributes = attributes} x s w) g us =
    let names = node_of of kind.ExportNamespaceSpecifier (name ∷ []) ∷ [] in
    let rest = from_tokens s w (sign_of (codes ";") us) in
    ap (λ z. g.blanks ++ z)
    (sym (at_node at (kind.NamedExport false) (node_of at' kind.List names ∷ source ∷ attributes ∷ []) (At (free 0)) [] (render us)
    ∙ (ap (λ z. codes "export " ++ (laid (node_of at' kind.List names)).at Exports [] z) (from_laid s w [] us)
    ∙ ap (λ z. codes "export " ++ z) (at_node at' kind.List names Exports [] (render rest) ∙ rw (laid_node of kind.ExportNamespaceSpecifier (name ∷ [])) (ap (λ z. codes "* as " ++ z) (export_name_at x [] (render rest)))))))
item_laid (modules.export_all at {source = source} {attributes = attributes} s w) g us =
    ap (λ z. g.blanks ++ z) (sym (at_node at (kind.ExportAll false) (source ∷ attributes ∷ []) (At (free 0)) [] (render us) ∙ ap (λ z. codes "export * from" ++ z) (source_laid s w [] us)))
item_laid (modules.export_declaration at {s = s} is d) g us =
    ap (λ z. g.blanks ++ z) (sym (at_node at kind.ExportDecl (s ∷ []) (At (free 0)) [] (render us) ∙ ap (λ z. codes "export" ++ z) (sym (statement_laid is 0 blank us))))
item_laid (modules.export_default at {e = e'} e z) g us =
    ap (λ z. g.blanks ++ z)
    (sym (at_node at kind.ExportDefaultExpr (e' ∷ []) (At (free 0)) [] (render us)
    ∙ (ap (λ z. codes "export default " ++ z) (expression_laid e (beginning 1 DefaultStart false) calm_default (default_start (start e) (sym (ap is_declaration_word (starts_agree e)) ∙ z)) 0 (sign_of (codes ";") us))
    ∙ ap (λ z. codes "export default" ++ z) (sym (gap_out e 0 blank (sign_of (codes ";") us))))))
item_laid (modules.export_default_function at at' {name = i'} {function = f'} i f) g us =
    let fs = function_tokens f 0 us in
    ap (λ z. g.blanks ++ z)
    (sym (at_node at kind.ExportDefaultDecl (node_of at' kind.FnExpr (i' ∷ f' ∷ []) ∷ []) (At (free 0)) [] (render us)
    ∙ (ap (λ z. codes "export default " ++ z)
    (at_node at' kind.FnExpr (i' ∷ f' ∷ []) (At (free 0)) [] (render us)
    ∙ (function_head_laid f [] ((laid i').at (Within Blank (free 1)) [] ((laid f').at (At (free 1)) [] (render us)))
    ∙ ap (λ z. function_head (kind.Function (is_generator f) (is_async f)) ++ z) (ap (λ z. (laid i').at (Within Blank (free 1)) [] z) (function_laid f 0 us) ∙ function_name_laid i [] fs)))
    ∙ ap (λ z. codes "export default" ++ z) (sym (function_word_text (is_generator f) (is_async f) blank (function_name_tokens i fs))))))
item_laid (modules.export_default_class at at' {name = i'} {class = c'} i c) g us =
    ap (λ z. g.blanks ++ z)
    (sym (at_node at kind.ExportDefaultDecl (node_of at' kind.ClassExpr (i' ∷ c' ∷ []) ∷ []) (At (free 0)) [] (render us)
    ∙ ap (λ z. codes "export default " ++ z)
    (at_node at' kind.ClassExpr (i' ∷ c' ∷ []) (At (free 0)) [] (render us)
    ∙ ap (λ z. codes "class" ++ z) (ap (λ z. (laid i').at (Within Blank (free 1)) [] z) (class_laid c 0 us) ∙ function_name_laid i [] (class_tokens c 0 us)))))
item_laid (modules.import_require z at of is_export {id = id} {source = source} (ident at' w i) s) g us =
    let reference = node_of of kind.TsExternalModuleRef (source ∷ []) in
    sym
    (ap (λ z. g.blanks ++ z)
    (at_node at (kind.TsImportEqualsDecl is_export false) (id ∷ reference ∷ []) (At (free 0)) [] (render us)
    ∙ rw (laid_node at' (kind.Ident w 0 false) [])
    (ap (λ z. import_equals_word is_export ++ (w ++ (codes " = " ++ z))) (at_node of kind.TsExternalModuleRef (source ∷ []) (At (free 0)) [] (codes ";" ++ render us) ∙ ap (λ z. codes "require(" ++ z) (string_laid s [] (codes ");" ++ render us)))))
    ∙ import_equals_laid is_export g (items.key w) (spaced_sign (codes "=") (require_tokens s (sign_of (codes ";") us))))
item_laid (modules.export_assignment z at {level = level} {e = e'} e) g us =
    ap (λ z. g.blanks ++ z)
    (sym (at_node at kind.TsExportAssignment (e' ∷ []) (At (free 0)) [] (render us)
    ∙ (ap (λ z. codes "export = " ++ z) (expression_laid e (free 0) (calm_0 level) refl 0 (sign_of (codes ";") us)) ∙ ap (λ z. codes "export =" ++ z) (sym (gap_out e 0 blank (sign_of (codes ";") us))))))

lines_laid : {assignments : Bool} {ns : List Node} (is : AreModuleItems assignments ns) (g : Gap) → render (items_tokens is g) ≡ g.blanks ++ lines (map laid ns) [] []
unfolding render
lines_laid modules.no_items g = sym (append-nil g.blanks)
lines_laid (modules.more_items {n = n} i is) g = item_laid i g (items_tokens is line) ∙ ap (λ z. g.blanks ++ (laid n).at (At (free 0)) [] z) (lines_laid is line)

pub module_laid : {assignments : Bool} {tree : Node} (is : IsModule assignments tree) → layout tree ≡ module_head is ++ render (module_tokens is)
module_laid (modules.module_of at at' {body = body} is) =
    at_node at (kind.Module None) (node_of at' kind.List body ∷ []) (At (free 0)) [] []
    ∙ (at_node at' kind.List body Lines [] [] ∙ sym (lines_laid is no_gap))
module_laid (modules.module_behind_hashbang at at' {text = text} {body = body} h is) =
    at_node at (kind.Module (Some text)) (node_of at' kind.List body ∷ []) (At (free 0)) [] []
    ∙ (ap (λ z. codes "#!" ++ (text ++ (codes "\n" ++ z))) (at_node at' kind.List body Lines [] [])
    ∙ ap (λ z. codes "#!" ++ (text ++ z)) (sym (lines_laid is line)))

-- the items begin on a new line
pub items_line : {assignments : Bool} {ns : List Node} (is : AreModuleItems assignments ns) → render (items_tokens is line) ≡ 10 ∷ lines (map laid ns) [] []
items_line is = lines_laid is line
