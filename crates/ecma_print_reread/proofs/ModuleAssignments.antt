-- `import a = require("m")` and `export =` are read as they are laid out, where the grammar has them.
use Rattle.std.proofs.Common.{◌≡◌, Bool, true, false, [], ◌∷◌, codes, refl, ap, ◌∙◌, if◌then◌else◌}
use Rattle.std.proofs.lemmas.Bool.{false≢true}
use Rattle.ecma_kind.specs.declared.kind.Kind.TheVariants as kind
use Rattle.ecma_tree.specs.declared.node.Node.{Node}
use Rattle.ecma_tree.specs.Nodes.{absent}
use Rattle.ecma_grammar.specs.declared.production.Flag.{Flag}
use Rattle.ecma_grammar.specs.declared.production.Flag.TheVariants.{Absent, Present}
use Rattle.ecma_grammar.specs.declared.production.Plain.TheVariants as plain
use Rattle.ecma_grammar.specs.declared.production.Form.TheVariants as form
use Rattle.ecma_grammar.specs.trees.Parts.{flag_node}
use Rattle.ecma_grammar.specs.Made.{made}
use Rattle.ecma_grammar.specs.Grammar.{Grammar, ◌▸◌, ◌//◌, put, build, whether, punct, word}
use Rattle.ecma_grammar.specs.productions.Names.{statement, end, ident}
use Rattle.ecma_grammar.specs.productions.Modules.{import, import_clause, from, require, import_equals, export, module_item}
use Rattle.ecma_print_tokens.specs.Items as items
use Rattle.ecma_print_tokens.specs.Items.{sign, Gap, Items, it}
use Rattle.ecma_print_readings.proofs.Machine.{Out, read, fails, with_front, followed_on, or_on, built_on, interp, means, without}
use Rattle.ecma_shapes.specs.Shapes.{Level, IsIdent, IsExpression}
use Rattle.ecma_shapes.specs.Modules.{IsString}
use Rattle.ecma_shapes.proofs.Tokens.{ident_word, expression_tokens}
use Rattle.ecma_shapes.proofs.Signs.{blank, sign_of}
use Rattle.ecma_shapes.proofs.Bare.{bare, bare_ident, bare_expression}
use Rattle.ecma_shapes.proofs.ModuleTokens.{spaced_word, spaced_sign, require_tokens, import_equals_tokens, bare_string}
use Rattle.ecma_print_readings.proofs.Fronts.{exactly, at_token}
use Rattle.ecma_print_readings.proofs.Towers.{skipped}
use Rattle.ecma_print_readings.proofs.Heads.{nodes}
use Rattle.ecma_print_readings.proofs.Forms.{Reads, Refuses}
use Rattle.ecma_print_readings.proofs.Bindings.{standing, expression_read}
use Rattle.ecma_print_readings.proofs.Expressions.{semicolon_ends}
use Rattle.ecma_print_reread_expressions.proofs.Calls.{ident_free}
use Rattle.ecma_print_reread.proofs.StatementForms.{expression_form}
use Rattle.ecma_print_reread.proofs.Exports.{export_item, no_default, no_names, no_star_as, no_star}

abbrev export_flag : Bool → Flag
export_flag true = Present
export_flag false = Absent

import_equals_made : (is_export : Bool) (id reference : Node) → made form.ImportEquals 0 0 (flag_node (export_flag is_export) ∷ absent ∷ id ∷ reference ∷ []) ≡ bare (kind.TsImportEqualsDecl is_export false) (id ∷ reference ∷ [])
import_equals_made true id reference = simp nodes
import_equals_made false id reference = simp nodes

where_assigned : (b : Bool) (o o' : Out) → b ≡ true → o ≡ o' → (if b then o else fails) ≡ o'
where_assigned true o o' z h = h
where_assigned false o o' z h = absurd (false≢true z)

-- without `type`
abbrev plain_import_equals : Grammar
plain_import_equals = build form.ImportEquals (whether (word (codes "export")) ▸ word (codes "import") ▸ put Absent ▸ ident ▸ punct (codes "=") ▸ require ▸ end)

module _ (assigned : Bool) where
  require_read : {n : Node} (s : IsString n) (us : Items) → Reads assigned (require ▸ end) (require_tokens s (sign_of (codes ";") us)) (bare kind.TsExternalModuleRef (bare_string s ∷ []) ∷ []) us
  unfolding require
  require_read s us = refl

  equals_read : (is_export : Bool) {id n : Node} (i : IsIdent id) (s : IsString n) (g : Gap) (us : Items)
      → Reads assigned plain_import_equals (import_equals_tokens is_export g (spaced_word (ident_word i) (spaced_sign (codes "=") (require_tokens s (sign_of (codes ";") us)))))
      (bare (kind.TsImportEqualsDecl is_export false) (bare_ident i ∷ bare kind.TsExternalModuleRef (bare_string s ∷ []) ∷ []) ∷ []) us
  equals_read true i s g us = rw (ident_free assigned i, require_read s us) (ap (λ x. read (x ∷ []) us) (import_equals_made true (bare_ident i) (bare kind.TsExternalModuleRef (bare_string s ∷ []))))
  equals_read false i s g us = rw (ident_free assigned i, require_read s us) (ap (λ x. read (x ∷ []) us) (import_equals_made false (bare_ident i) (bare kind.TsExternalModuleRef (bare_string s ∷ []))))

  -- behind `export`, or without it
  import_equals_read : assigned ≡ true → (is_export : Bool) {id n : Node} (i : IsIdent id) (s : IsString n) (g : Gap) (us : Items)
      → Reads assigned import_equals (import_equals_tokens is_export g (spaced_word (ident_word i) (spaced_sign (codes "=") (require_tokens s (sign_of (codes ";") us)))))
      (bare (kind.TsImportEqualsDecl is_export false) (bare_ident i ∷ bare kind.TsExternalModuleRef (bare_string s ∷ []) ∷ []) ∷ []) us
  unfolding import_equals
  import_equals_read z is_export i s g us =
      let I = interp assigned (means assigned) in
      let ts = import_equals_tokens is_export g (spaced_word (ident_word i) (spaced_sign (codes "=") (require_tokens s (sign_of (codes ";") us)))) in
      ap (or_on (I (without 1 import_equals)) ts) (where_assigned assigned (I plain_import_equals ts) _ z (equals_read is_export i s g us))

  -- a default import has no `=`
  no_import : {id : Node} (i : IsIdent id) (g : Gap) (us : Items) → Refuses assigned import (it g (items.key (codes "import")) (spaced_word (ident_word i) (spaced_sign (codes "=") us)))
  unfolding import import_clause from
  no_import i g us = rw (ident_free assigned i) refl

  pub import_require_read : assigned ≡ true → (is_export : Bool) {id n : Node} (i : IsIdent id) (s : IsString n) (g : Gap) (us : Items)
      → Reads assigned module_item (import_equals_tokens is_export g (spaced_word (ident_word i) (spaced_sign (codes "=") (require_tokens s (sign_of (codes ";") us)))))
      (bare (kind.TsImportEqualsDecl is_export false) (bare_ident i ∷ bare kind.TsExternalModuleRef (bare_string s ∷ []) ∷ []) ∷ []) us
  unfolding module_item import
  import_require_read z true i s g us =
      let ts = import_equals_tokens true g (spaced_word (ident_word i) (spaced_sign (codes "=") (require_tokens s (sign_of (codes ";") us)))) in
      skipped assigned (means assigned) 1 module_item (exactly (items.key (codes "export"))) ts at_token refl ∙ ap (or_on (interp assigned (means assigned) (export // statement)) ts) (import_equals_read z true i s g us)
  import_require_read z false i s g us =
      let rest = require_tokens s (sign_of (codes ";") us) in
      let ts = import_equals_tokens false g (spaced_word (ident_word i) (spaced_sign (codes "=") rest)) in
      ap (or_on (interp assigned (means assigned) (import_equals // export // statement)) ts) (no_import i g rest) ∙ ap (or_on (interp assigned (means assigned) (export // statement)) ts) (import_equals_read z false i s g us)

  pub export_assignment_read : assigned ≡ true → {level : Level} {e : Node} (is : IsExpression level e) (g : Gap) (us : Items)
      → Reads assigned module_item (it g (items.key (codes "export")) (spaced_sign (codes "=") (expression_tokens is 0 blank (sign_of (codes ";") us)))) (bare kind.TsExportAssignment (bare_expression is ∷ []) ∷ []) us
  unfolding export
  export_assignment_read z is g us =
      let I = interp assigned (means assigned) in
      let value = expression_tokens is 0 blank (sign_of (codes ";") us) in
      let behind = spaced_sign (codes "=") value in
      let value_read = expression_read assigned (standing assigned (expression_form assigned is 0)) blank (sign_of (codes ";") us) (exactly (sign (codes ";"))) at_token semicolon_ends refl in
      export_item assigned g behind _ us refl
      (rw (
        no_default assigned g behind refl,
        no_names assigned behind refl,
        no_star_as assigned behind refl,
        no_star assigned behind refl,
        where_assigned assigned _ _ z (ap (built_on (form.Node plain.TsExportAssignment)) (ap (with_front []) (ap (with_front []) (ap (followed_on (I end)) value_read)))),
      ) refl)
