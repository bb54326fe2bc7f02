-- Each form of export is read as it is laid out.
use Rattle.std.proofs.Common.{◌≡◌, ℕ, true, false, nat_le, if◌then◌else◌, Bool, List, [], ◌∷◌, codes, refl, ap, ◌∙◌, append-nil}
use Rattle.std.proofs.lemmas.Bool.{false≢true}
use Rattle.ecma_kind.specs.declared.operators.VarDeclKind.{VarDeclKind}
use Rattle.ecma_kind.specs.declared.operators.VarDeclKind.TheVariants.{Var, Let, Const}
use Rattle.ecma_kind.specs.declared.kind.Kind.TheVariants as kind
use Rattle.ecma_tree.specs.declared.node.Node.{Node}
use Rattle.ecma_tree.specs.Nodes.{absent, list_node}
use Rattle.ecma_grammar.specs.declared.production.Flag.TheVariants.{Absent}
use Rattle.ecma_grammar.specs.declared.production.Plain.TheVariants as plain
use Rattle.ecma_grammar.specs.declared.production.Form.TheVariants as form
use Rattle.ecma_grammar.specs.Grammar.{Grammar, put, ◌▸◌, ◌//◌, punct, word}
use Rattle.ecma_grammar.specs.productions.Names.{statement, end, module_export_name}
use Rattle.ecma_grammar.specs.productions.Declarations.{declaration}
use Rattle.ecma_grammar.specs.productions.Modules as productions
use Rattle.ecma_grammar.specs.productions.Modules.{import_equals, from, export_specifier, export_names, export_star_as, export_star, export_default, export, module_item}
use Rattle.ecma_print.specs.Statements.{keyword}
use Rattle.ecma_print_tokens.specs.Items as items
use Rattle.ecma_print_tokens.specs.Items.{Gap, Items, it}
use Rattle.ecma_print_reread_functions.proofs.Classes.{class_declaration_read}
use Rattle.ecma_print_readings.proofs.Machine.{fails, built_on, with_front, or_on, interp, means, without}
use Rattle.ecma_shapes.specs.Shapes as shapes
use Rattle.ecma_shapes.specs.Shapes.{Ending, IsStatement}
use Rattle.ecma_shapes.specs.Modules as modules
use Rattle.ecma_shapes.specs.Modules.{IsString, IsExportName, IsWithClause, IsNamedExport, AreNamedExports, IsExportClause, is_declaration}
use Rattle.ecma_shapes.proofs.Tokens.{statement_tokens, ident_word}
use Rattle.ecma_shapes.proofs.Signs.{blank, sign_of, function_word, closing_gap}
use Rattle.ecma_shapes.proofs.Bare.{bare, bare_statement}
use Rattle.ecma_shapes.proofs.ModuleTokens.{spaced, spaced_word, spaced_sign, export_name_token, from_tokens, named_export_tokens, more_exports_tokens, export_clause_tokens, bare_string, bare_export_name, bare_with, bare_named_export, bare_named_exports, bare_export_clause}
use Rattle.ecma_print_readings.proofs.Moves.{eats}
use Rattle.ecma_print_readings.proofs.Fronts.{exactly, at_token}
use Rattle.ecma_print_readings.proofs.Towers.{skipped}
use Rattle.ecma_print_readings.proofs.Forms.{Reads, Refuses}
use Rattle.ecma_print_readings.proofs.Repeats.{Repeats, repeats_end, repeats_more, repeated}
use Rattle.ecma_print_reread_statements.proofs.Variables.{declaration_read}
use Rattle.ecma_print_reread.proofs.StatementForms.{argument_forms, declarator_form, declarator_forms, block_form, member_forms, heritage_form}
use Rattle.ecma_print_reread_functions.proofs.Functions.{function_declaration_read}
use Rattle.ecma_print_reread_expressions.proofs.Calls.{ident_free}
use Rattle.ecma_print_reread.proofs.Sources.{from_read}

specifier_eats : nat_le 1 (eats (punct (codes ",") ▸ export_specifier)) ≡ true
unfolding export_specifier module_export_name
specifier_eats = refl

abbrev behind_names : Grammar
behind_names = (from // put Absent ▸ put Absent) ▸ end

never : (b : Bool) → (if b then fails else fails) ≡ fails
never true = refl
never false = refl

module _ (assigned : Bool) where
  export_name_read : {n : Node} (x : IsExportName n) (g : Gap) (us : Items) → Reads assigned module_export_name (it g (export_name_token x) us) (bare_export_name x ∷ []) us
  unfolding module_export_name
  export_name_read (modules.word_name at w t) g us = refl
  export_name_read (modules.string_name s) g us = refl

  named_export_read : {n : Node} (is : IsNamedExport n) (us : Items) → Refuses assigned (word (codes "as")) us → Reads assigned export_specifier (named_export_tokens is us) (bare_named_export is ∷ []) us
  unfolding export_specifier module_export_name
  named_export_read (modules.same_export at (modules.word_name of w t) a) us h = rw h refl
  named_export_read (modules.same_export at (modules.string_name s) a) us h = rw h refl
  named_export_read (modules.other_export at (modules.word_name of w t) (modules.word_name of' v t')) us h = refl
  named_export_read (modules.other_export at (modules.word_name of w t) (modules.string_name s)) us h = refl
  named_export_read (modules.other_export at (modules.string_name s) (modules.word_name of' v t')) us h = refl
  named_export_read (modules.other_export at (modules.string_name s) (modules.string_name s')) us h = refl

  no_as : {ns : List Node} (is : AreNamedExports ns) (us : Items) → Refuses assigned (word (codes "as")) (more_exports_tokens is (spaced_sign (codes "}") us))
  no_as modules.no_exports us = refl
  no_as (modules.more_exports n ns) us = refl

  more_exports_read : {ns : List Node} (is : AreNamedExports ns) (us : Items)
      → Repeats assigned (punct (codes ",") ▸ export_specifier) (more_exports_tokens is (spaced_sign (codes "}") us)) (bare_named_exports is) (spaced_sign (codes "}") us)
  more_exports_read modules.no_exports us = repeats_end assigned (punct (codes ",") ▸ export_specifier) (spaced_sign (codes "}") us) refl
  more_exports_read (modules.more_exports n ns) us =
      let rest = more_exports_tokens ns (spaced_sign (codes "}") us) in
      repeats_more assigned (punct (codes ",") ▸ export_specifier) specifier_eats _ rest (spaced_sign (codes "}") us) (bare_named_export n ∷ []) (bare_named_exports ns) (ap (with_front []) (named_export_read n rest (no_as ns us))) (more_exports_read ns us)

  -- names, and behind them what follows
  export_names_read : {ns : List Node} (is : IsExportClause ns) (us : Items) (xs : List Node) (vs : Items) → Reads assigned behind_names us xs vs
      → Reads assigned export_names (export_clause_tokens is us) (list_node (bare_export_clause is) ∷ xs) vs
  unfolding export_names export_specifier module_export_name
  export_names_read modules.export_nothing us xs vs h = rw h refl
  export_names_read (modules.export_names n ns) us xs vs h =
      let closing = spaced_sign (codes "}") us in
      let rest = more_exports_tokens ns closing in
      rw (named_export_read n rest (no_as ns us), repeated assigned (punct (codes ",") ▸ export_specifier) rest closing (bare_named_exports ns) (more_exports_read ns us), h, append-nil (bare_named_exports ns)) refl

  behind_names_end : (us : Items) → Reads assigned behind_names (sign_of (codes ";") us) (absent ∷ absent ∷ []) us
  unfolding from
  behind_names_end us = refl

  behind_names_from : {n m : Node} (source : IsString n) (w : IsWithClause m) (us : Items) → Reads assigned behind_names (from_tokens source w (sign_of (codes ";") us)) (bare_string source ∷ bare_with w ∷ []) us
  behind_names_from source w us = rw (from_read assigned source w us) refl

  -- as an item of a module

  no_import_equals : (g : Gap) (us : Items) → Refuses assigned (word (codes "import")) us → Refuses assigned import_equals (it g (items.key (codes "export")) us)
  unfolding import_equals
  no_import_equals g us h = rw h (ap (or_on (λ x. fails) (it g (items.key (codes "export")) us)) (never assigned))

  pub export_item : (g : Gap) (us : Items) (n : Node) (vs : Items) → Refuses assigned (word (codes "import")) us → Reads assigned export (it g (items.key (codes "export")) us) (n ∷ []) vs → Reads assigned module_item (it g (items.key (codes "export")) us) (n ∷ []) vs
  unfolding module_item productions.import
  export_item g us n vs h r =
      let ts = it g (items.key (codes "export")) us in
      skipped assigned (means assigned) 1 module_item (exactly (items.key (codes "export"))) ts at_token refl
      ∙ (ap (or_on (interp assigned (means assigned) (export // statement)) ts) (no_import_equals g us h) ∙ ap (or_on (interp assigned (means assigned) statement) ts) r)

  -- a clause begins with a sign
  no_word : {ns : List Node} (is : IsExportClause ns) (us : Items) (w : List ℕ) → Refuses assigned (word w) (export_clause_tokens is us)
  no_word modules.export_nothing us w = refl
  no_word (modules.export_names n ns) us w = refl

  pub no_default : (g : Gap) (us : Items) → Refuses assigned (word (codes "default")) us → Refuses assigned export_default (it g (items.key (codes "export")) us)
  unfolding export_default
  no_default g us h = rw (h, h) refl

  named_export_item : {ns : List Node} (is : IsExportClause ns) (g : Gap) (us : Items) (xs : List Node) (vs : Items) → Reads assigned behind_names us xs vs
      → Reads assigned module_item (it g (items.key (codes "export")) (export_clause_tokens is us)) (bare (kind.NamedExport false) (list_node (bare_export_clause is) ∷ xs) ∷ []) vs
  unfolding export
  named_export_item is g us xs vs h =
      let rest = export_clause_tokens is us in
      let ts = it g (items.key (codes "export")) rest in
      let I = interp assigned (means assigned) in
      export_item g rest _ vs (no_word is us (codes "import"))
      (ap (or_on (I (without 1 export)) ts) (no_default g rest (no_word is us (codes "default")))
      ∙ ap (or_on (I (without 3 export)) ts) (ap (built_on (form.Node (plain.NamedExport false))) (ap (with_front []) (export_names_read is us xs vs h))))

  pub export_bindings_read : {ns : List Node} (is : IsExportClause ns) (g : Gap) (us : Items)
      → Reads assigned module_item (it g (items.key (codes "export")) (export_clause_tokens is (sign_of (codes ";") us))) (bare (kind.NamedExport false) (list_node (bare_export_clause is) ∷ absent ∷ absent ∷ []) ∷ []) us
  export_bindings_read is g us = named_export_item is g (sign_of (codes ";") us) _ us (behind_names_end us)

  pub export_bindings_from_read : {ns : List Node} {n m : Node} (is : IsExportClause ns) (source : IsString n) (w : IsWithClause m) (g : Gap) (us : Items)
      → Reads assigned module_item (it g (items.key (codes "export")) (export_clause_tokens is (from_tokens source w (sign_of (codes ";") us))))
      (bare (kind.NamedExport false) (list_node (bare_export_clause is) ∷ bare_string source ∷ bare_with w ∷ []) ∷ []) us
  export_bindings_from_read is source w g us = named_export_item is g (from_tokens source w (sign_of (codes ";") us)) _ us (behind_names_from source w us)

  pub export_namespace_read : {l n m : Node} (x : IsExportName l) (source : IsString n) (w : IsWithClause m) (g : Gap) (us : Items)
      → Reads assigned module_item (it g (items.key (codes "export")) (spaced_sign (codes "*") (spaced_word (codes "as") (spaced (export_name_token x) (from_tokens source w (sign_of (codes ";") us))))))
      (bare (kind.NamedExport false) (list_node (bare kind.ExportNamespaceSpecifier (bare_export_name x ∷ []) ∷ []) ∷ bare_string source ∷ bare_with w ∷ []) ∷ []) us
  unfolding export export_default export_names export_star_as
  export_namespace_read x source w g us =
      let rest = from_tokens source w (sign_of (codes ";") us) in
      export_item g (spaced_sign (codes "*") (spaced_word (codes "as") (spaced (export_name_token x) rest))) _ us refl (rw (export_name_read x blank rest, from_read assigned source w us) refl)

  pub export_all_read : {n m : Node} (source : IsString n) (w : IsWithClause m) (g : Gap) (us : Items)
      → Reads assigned module_item (it g (items.key (codes "export")) (spaced_sign (codes "*") (from_tokens source w (sign_of (codes ";") us)))) (bare (kind.ExportAll false) (bare_string source ∷ bare_with w ∷ []) ∷ []) us
  unfolding export export_default export_names export_star_as export_star
  export_all_read source w g us = export_item g (spaced_sign (codes "*") (from_tokens source w (sign_of (codes ";") us))) _ us refl (rw (from_read assigned source w us) refl)

  -- declarations

  pub no_names : (us : Items) → Refuses assigned (punct (codes "{")) us → Refuses assigned export_names us
  unfolding export_names
  no_names us h = rw h refl

  pub no_star_as : (us : Items) → Refuses assigned (punct (codes "*")) us → Refuses assigned export_star_as us
  unfolding export_star_as
  no_star_as us h = rw h refl

  pub no_star : (us : Items) → Refuses assigned (punct (codes "*")) us → Refuses assigned export_star us
  unfolding export_star
  no_star us h = rw h refl

  -- what stands behind `export` is none of its other alternatives
  record Declared (us : Items) : Type 0 where
    pub no_import : Refuses assigned (word (codes "import")) us
    pub no_default_word : Refuses assigned (word (codes "default")) us
    pub no_brace : Refuses assigned (punct (codes "{")) us
    pub no_asterisk : Refuses assigned (punct (codes "*")) us
    pub no_equals : Refuses assigned (punct (codes "=")) us

  declaration_item : (g : Gap) (us : Items) (n : Node) (vs : Items) → Declared us → Reads assigned declaration us (n ∷ []) vs → Reads assigned module_item (it g (items.key (codes "export")) us) (bare kind.ExportDecl (n ∷ []) ∷ []) vs
  unfolding export
  declaration_item g us n vs D h =
      export_item g us _ vs D.no_import (rw (no_default g us D.no_default_word, no_names us D.no_brace, no_star_as us D.no_asterisk, no_star us D.no_asterisk, D.no_equals, never assigned, h) refl)

  keyword_declared : (k : VarDeclKind) (us : Items) → Declared (spaced_word (keyword k) us)
  keyword_declared Var us = record { no_import = refl; no_default_word = refl; no_brace = refl; no_asterisk = refl; no_equals = refl }
  keyword_declared Let us = record { no_import = refl; no_default_word = refl; no_brace = refl; no_asterisk = refl; no_equals = refl }
  keyword_declared Const us = record { no_import = refl; no_default_word = refl; no_brace = refl; no_asterisk = refl; no_equals = refl }

  function_declared : (x y : Bool) (us : Items) → Declared (function_word x y blank us)
  function_declared true true us = record { no_import = refl; no_default_word = refl; no_brace = refl; no_asterisk = refl; no_equals = refl }
  function_declared true false us = record { no_import = refl; no_default_word = refl; no_brace = refl; no_asterisk = refl; no_equals = refl }
  function_declared false true us = record { no_import = refl; no_default_word = refl; no_brace = refl; no_asterisk = refl; no_equals = refl }
  function_declared false false us = record { no_import = refl; no_default_word = refl; no_brace = refl; no_asterisk = refl; no_equals = refl }

  pub export_declaration_read : {ending : Ending} {n : Node} (is : IsStatement ending n) → is_declaration is ≡ true → (g : Gap) (us : Items)
      → Reads assigned module_item (it g (items.key (codes "export")) (statement_tokens is 0 blank us)) (bare kind.ExportDecl (bare_statement is ∷ []) ∷ []) us
  export_declaration_read (shapes.declaration at at' k d ds) z g us =
      declaration_item g _ _ us (keyword_declared k _) (declaration_read assigned k d ds 0 (declarator_form assigned d 0) (declarator_forms assigned ds 0) blank us)
  export_declaration_read (shapes.function_statement at i (shapes.function_of at' at'' x y ps w b a a')) z g us =
      declaration_item g _ _ us (function_declared x y _) (function_declaration_read assigned ps 0 (argument_forms assigned ps 0) (block_form assigned b 0) x y (ident_word i) (ident_free assigned i) blank us)
  export_declaration_read (shapes.class_statement at i (shapes.class_of at' at'' at''' {ms = ms'} h ms a a')) z g us =
      declaration_item g _ _ us (record { no_import = refl; no_default_word = refl; no_brace = refl; no_asterisk = refl; no_equals = refl })
      (class_declaration_read assigned (member_forms assigned ms 1) (closing_gap ms' 0) h 0 (heritage_form assigned h 0) (ident_word i) (ident_free assigned i) blank us)
  export_declaration_read is z g us = absurd (false≢true z)
