-- Each form of import is read as it is laid out.
use Rattle.std.proofs.Common.{◌≡◌, false, true, nat_le, Bool, List, [], ◌∷◌, codes, refl, ap, append-nil}
use Rattle.ecma_kind.specs.declared.kind.Kind.TheVariants as kind
use Rattle.ecma_tree.specs.declared.node.Node.{Node}
use Rattle.ecma_tree.specs.Nodes.{list_node}
use Rattle.ecma_grammar.specs.Grammar.{◌▸◌, punct, word}
use Rattle.ecma_grammar.specs.productions.Names.{string, module_export_name}
use Rattle.ecma_grammar.specs.productions.Modules.{star, import_specifier, import_specifiers, import_clause, import}
use Rattle.ecma_print_tokens.specs.Items as items
use Rattle.ecma_print_tokens.specs.Items.{Gap, Items, it}
use Rattle.ecma_print_readings.proofs.Machine.{with_front}
use Rattle.ecma_shapes.specs.Modules as modules
use Rattle.ecma_shapes.specs.Modules.{IsString, IsWithClause, IsNamespaceImport, IsNamedImport, AreNamedImports, IsImportClause}
use Rattle.ecma_shapes.proofs.Signs.{sign_of}
use Rattle.ecma_shapes.proofs.Bare.{bare}
use Rattle.ecma_shapes.proofs.ModuleTokens.{spaced_word, spaced_sign, source_tokens, namespace_import_tokens, named_import_tokens, more_imports_tokens, named_imports_tokens, import_clause_tokens, bare_string, bare_with, bare_namespace_import, bare_named_import, bare_named_imports, bare_import_clause}
use Rattle.ecma_print_readings.proofs.Moves.{eats}
use Rattle.ecma_print_readings.proofs.Forms.{Reads, Refuses}
use Rattle.ecma_print_readings.proofs.Repeats.{Repeats, repeats_end, repeats_more, repeated}
use Rattle.ecma_print_reread_expressions.proofs.Calls.{ident_free}
use Rattle.ecma_print_reread.proofs.Sources.{with_read, from_read}

specifier_eats : nat_le 1 (eats (punct (codes ",") ▸ import_specifier)) ≡ true
unfolding import_specifier module_export_name
specifier_eats = refl

module _ (assigned : Bool) where
  named_import_read : {n : Node} (is : IsNamedImport n) (us : Items) → Refuses assigned (word (codes "as")) us → Reads assigned import_specifier (named_import_tokens is us) (bare_named_import is ∷ []) us
  unfolding import_specifier module_export_name
  named_import_read (modules.same_import at i a) us h = rw (h, ident_free assigned i) refl
  named_import_read (modules.other_import at i (modules.word_name at' w t)) us h = rw (ident_free assigned i) refl
  named_import_read (modules.other_import at i (modules.string_name s)) us h = rw (ident_free assigned i) refl

  no_as : {ns : List Node} (is : AreNamedImports ns) (us : Items) → Refuses assigned (word (codes "as")) (more_imports_tokens is (spaced_sign (codes "}") us))
  no_as modules.no_imports us = refl
  no_as (modules.more_imports n ns) us = refl

  more_imports_read : {ns : List Node} (is : AreNamedImports ns) (us : Items)
      → Repeats assigned (punct (codes ",") ▸ import_specifier) (more_imports_tokens is (spaced_sign (codes "}") us)) (bare_named_imports is) (spaced_sign (codes "}") us)
  more_imports_read modules.no_imports us = repeats_end assigned (punct (codes ",") ▸ import_specifier) (spaced_sign (codes "}") us) refl
  more_imports_read (modules.more_imports n ns) us =
      let rest = more_imports_tokens ns (spaced_sign (codes "}") us) in
      repeats_more assigned (punct (codes ",") ▸ import_specifier) specifier_eats _ rest (spaced_sign (codes "}") us) (bare_named_import n ∷ []) (bare_named_imports ns) (ap (with_front []) (named_import_read n rest (no_as ns us))) (more_imports_read ns us)

  named_imports_read : {n : Node} {ns : List Node} (i : IsNamedImport n) (is : AreNamedImports ns) (us : Items)
      → Reads assigned import_specifiers (named_imports_tokens i is us) (bare_named_import i ∷ bare_named_imports is) us
  unfolding import_specifiers
  named_imports_read i is us =
      let end = spaced_sign (codes "}") us in
      let rest = more_imports_tokens is end in
      rw (named_import_read i rest (no_as is us), repeated assigned (punct (codes ",") ▸ import_specifier) rest end (bare_named_imports is) (more_imports_read is us), append-nil (bare_named_imports is), append-nil (bare_named_imports is)) refl

  namespace_import_read : {n : Node} (is : IsNamespaceImport n) (us : Items) → Reads assigned star (namespace_import_tokens is us) (bare_namespace_import is ∷ []) us
  unfolding star
  namespace_import_read (modules.namespace_import at i) us = rw (ident_free assigned i) refl

  no_star : {n : Node} {ns : List Node} (i : IsNamedImport n) (is : AreNamedImports ns) (us : Items) → Refuses assigned star (named_imports_tokens i is us)
  unfolding star
  no_star i is us = refl

  import_clause_read : {ns : List Node} (is : IsImportClause ns) (us : Items)
      → Reads assigned import_clause (import_clause_tokens is (spaced_word (codes "from") us)) (list_node (bare_import_clause is) ∷ []) (spaced_word (codes "from") us)
  unfolding import_clause
  import_clause_read (modules.import_default (modules.default_import at i)) us = rw (ident_free assigned i) refl
  import_clause_read (modules.import_namespace (modules.namespace_import at i)) us = rw (namespace_import_read (modules.namespace_import at i) (spaced_word (codes "from") us)) refl
  import_clause_read (modules.import_names n ns) us = rw (no_star n ns (spaced_word (codes "from") us), named_imports_read n ns (spaced_word (codes "from") us)) refl
  import_clause_read (modules.import_default_and_namespace (modules.default_import at i) (modules.namespace_import at' j)) us =
      rw (ident_free assigned i, namespace_import_read (modules.namespace_import at' j) (spaced_word (codes "from") us)) refl
  import_clause_read (modules.import_default_and_names (modules.default_import at i) n ns) us = rw (ident_free assigned i, no_star n ns (spaced_word (codes "from") us), named_imports_read n ns (spaced_word (codes "from") us)) refl

  pub import_alone_read : {n m : Node} (source : IsString n) (w : IsWithClause m) (g : Gap) (us : Items)
      → Reads assigned import (it g (items.key (codes "import")) (source_tokens source w (sign_of (codes ";") us))) (bare (kind.ImportDecl false) (list_node [] ∷ bare_string source ∷ bare_with w ∷ []) ∷ []) us
  unfolding import
  import_alone_read source w g us = rw (with_read assigned w us) refl

  no_source : {ns : List Node} (is : IsImportClause ns) (us : Items) → Refuses assigned string (import_clause_tokens is us)
  no_source (modules.import_default (modules.default_import at i)) us = refl
  no_source (modules.import_namespace (modules.namespace_import at i)) us = refl
  no_source (modules.import_names n ns) us = refl
  no_source (modules.import_default_and_namespace (modules.default_import at i) a) us = refl
  no_source (modules.import_default_and_names (modules.default_import at i) n ns) us = refl

  pub import_bindings_read : {ns : List Node} {n m : Node} (is : IsImportClause ns) (source : IsString n) (w : IsWithClause m) (g : Gap) (us : Items)
      → Reads assigned import (it g (items.key (codes "import")) (import_clause_tokens is (spaced_word (codes "from") (source_tokens source w (sign_of (codes ";") us)))))
      (bare (kind.ImportDecl false) (list_node (bare_import_clause is) ∷ bare_string source ∷ bare_with w ∷ []) ∷ []) us
  unfolding import
  import_bindings_read is source w g us =
      let rest = source_tokens source w (sign_of (codes ";") us) in
      rw (no_source is (spaced_word (codes "from") rest), import_clause_read is rest, from_read assigned source w us) refl
