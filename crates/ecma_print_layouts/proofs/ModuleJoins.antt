-- The tokens of a module are good: each joins the next.
use Rattle.std.proofs.Common.{false, Bool, ◌≡◌, ℕ, true, List, [], ◌∷◌, codes, refl}
use Rattle.ecma_lex.specs.Strings.{str_end}
use Rattle.ecma_lex.specs.Punctuators.{punctuators}
use Rattle.ecma_tree.specs.declared.node.Node.{Node}
use Rattle.ecma_print_tokens.specs.Items as items
use Rattle.ecma_print_tokens.specs.Items.{Tok, sign, Gap, no_gap, Items, ends, it}
use Rattle.ecma_print_tokens.specs.Good.{IsGap, IsToken}
use Rattle.ecma_print_tokens.specs.Joins.{parted_by, joins_next, Fine, Joined}
use Rattle.ecma_shapes.specs.Shapes as shapes
use Rattle.ecma_shapes.specs.Modules as modules
use Rattle.ecma_shapes.specs.Modules.{IsString, IsExportName, IsAttributeKey, IsAttribute, AreAttributes, IsWithClause, IsDefaultImport, IsNamespaceImport, IsNamedImport, AreNamedImports, IsImportClause, IsModuleItem, AreModuleItems, IsModule, IsNamedExport, AreNamedExports, IsExportClause}
use Rattle.ecma_shapes.proofs.Tokens.{ident_word, is_generator, is_async, function_tokens}
use Rattle.ecma_shapes.proofs.Signs.{blank, line, sign_of}
use Rattle.ecma_shapes.proofs.ModuleTokens.{spaced, spaced_sign, string_raw, export_name_token, attribute_key_token, attribute_tokens, more_attributes_tokens, with_tokens, source_tokens, default_import_tokens, namespace_import_tokens, named_import_tokens, more_imports_tokens, named_imports_tokens, import_clause_tokens, import_equals_tokens, item_tokens, items_tokens, module_tokens, spaced_word, from_tokens, named_export_tokens, more_exports_tokens, export_clause_tokens}
use Rattle.ecma_print_layouts.proofs.Softs.{semicolon}
use Rattle.ecma_print_layouts.proofs.Beginnings.{blank_joins}
use Rattle.ecma_print_layouts.proofs.Joins.{Words, no_gap_is, blank_is, ident_whole, key_whole}
use Rattle.ecma_print_layouts.proofs.StatementJoins.{expression_joined, statement_joined, function_joined, class_joined}
use Rattle.ecma_print_layouts.proofs.JoinParts.{line_wide, blank_wide, line_is, Apart, statement_apart, ended, function_word_apart, function_word_joined, function_opens, class_apart}

item_apart : {assignments : Bool} {n : Node} (is : IsModuleItem assignments n) (us : Items) → Apart (item_tokens is line us)
item_apart (modules.statement s) us t = statement_apart s 0 line (line_wide 0) us t
item_apart (modules.import_alone at at' s w) us t = refl
item_apart (modules.import_bindings at at' c s w) us t = refl
item_apart (modules.export_bindings at at' c n n') us t = refl
item_apart (modules.export_bindings_from at at' c s w) us t = refl
item_apart (modules.export_namespace at at' of x s w) us t = refl
item_apart (modules.export_all at s w) us t = refl
item_apart (modules.export_declaration at is d) us t = refl
item_apart (modules.export_default at e z) us t = refl
item_apart (modules.export_default_function at at' i f) us t = refl
item_apart (modules.export_default_class at at' i c) us t = refl
item_apart (modules.import_require z at of true i s) us t = refl
item_apart (modules.import_require z at of false i s) us t = refl
item_apart (modules.export_assignment z at e) us t = refl

items_apart : {assignments : Bool} {ns : List Node} (is : AreModuleItems assignments ns) → Apart (items_tokens is line)
items_apart modules.no_items t = refl
items_apart (modules.more_items i is) t = item_apart i (items_tokens is line) t

-- behind a text each token may stand

parted_anyway : (blanks : List ℕ) → parted_by blanks true ≡ true
parted_anyway [] = refl
parted_anyway (c ∷ cs) = refl

string_joins : (w : List ℕ) (us : Items) → joins_next (items.string w) us ≡ true
string_joins w (ends g) = refl
string_joins w (it g t us) = parted_anyway g.blanks

string_whole : {n : Node} (s : IsString n) → IsToken str_end (string_raw s)
string_whole (modules.string_literal at raw t) = t

export_name_fine : {n : Node} (x : IsExportName n) → Fine (export_name_token x)
export_name_fine (modules.word_name at w t) = t
export_name_fine (modules.string_name s) = string_whole s

attribute_key_fine : {n : Node} (k : IsAttributeKey n) → Fine (attribute_key_token k)
attribute_key_fine (modules.word_key k) = key_whole k
attribute_key_fine (modules.string_key s) = string_whole s

attribute_key_joins : {n : Node} (k : IsAttributeKey n) (us : Items) → joins_next (attribute_key_token k) (sign_of (codes ":") us) ≡ true
attribute_key_joins (modules.word_key k) us = refl
attribute_key_joins (modules.string_key s) us = refl

-- what a name in a list stands before: a comma, or a blank
data Between : Items → Type 0 where
  comma : {us : Items} → Between (sign_of (codes ",") us)
  parted : {t : Tok} {us : Items} → Between (spaced t us)

key_joins : (w : List ℕ) {us : Items} → Between us → joins_next (items.key w) us ≡ true
key_joins w comma = refl
key_joins w parted = refl

export_name_joins : {n : Node} (x : IsExportName n) (us : Items) → Between us → joins_next (export_name_token x) us ≡ true
export_name_joins (modules.word_name at w t) us b = key_joins w b
export_name_joins (modules.string_name s) us b = string_joins (string_raw s) us

more_exports_between : {ns : List Node} (is : AreNamedExports ns) (us : Items) → Between (more_exports_tokens is (spaced_sign (codes "}") us))
more_exports_between modules.no_exports us = parted
more_exports_between (modules.more_exports n ns) us = comma

spaced_export : (t : Tok) {n : Node} (is : IsNamedExport n) (us : Items) → joins_next t (named_export_tokens is us) ≡ true
spaced_export t (modules.same_export at x a) us = refl
spaced_export t (modules.other_export at x y) us = refl

spaced_names : (t : Tok) {ns : List Node} (is : IsExportClause ns) (us : Items) → joins_next t (export_clause_tokens is us) ≡ true
spaced_names t modules.export_nothing us = refl
spaced_names t (modules.export_names n ns) us = refl

more_imports_between : {ns : List Node} (is : AreNamedImports ns) (us : Items) → Between (more_imports_tokens is (spaced_sign (codes "}") us))
more_imports_between modules.no_imports us = parted
more_imports_between (modules.more_imports n ns) us = comma

-- a specifier stands behind a blank
spaced_import : (t : Tok) {n : Node} (is : IsNamedImport n) (us : Items) → joins_next t (named_import_tokens is us) ≡ true
spaced_import t (modules.same_import at i a) us = refl
spaced_import t (modules.other_import at i x) us = refl

spaced_clause : (t : Tok) {ns : List Node} (is : IsImportClause ns) (us : Items) → joins_next t (import_clause_tokens is us) ≡ true
spaced_clause t (modules.import_default (modules.default_import at i)) us = refl
spaced_clause t (modules.import_namespace (modules.namespace_import at i)) us = refl
spaced_clause t (modules.import_names n ns) us = refl
spaced_clause t (modules.import_default_and_namespace (modules.default_import at i) a) us = refl
spaced_clause t (modules.import_default_and_names (modules.default_import at i) n ns) us = refl

module _ (words : Words) where
  attribute_joined : {n : Node} (is : IsAttribute n) (us : Items) → Joined us → Joined (attribute_tokens is us)
  unfolding punctuators
  attribute_joined (modules.attribute at k s) us j = (blank_is, attribute_key_fine k, attribute_key_joins k (spaced (items.string (string_raw s)) us), (no_gap_is, refl, refl, (blank_is, string_whole s, string_joins (string_raw s) us, j)))

  more_attributes_joined : {ns : List Node} (is : AreAttributes ns) (us : Items) → Joined us → Joined (more_attributes_tokens is us)
  unfolding punctuators
  more_attributes_joined modules.no_attributes us j = j
  more_attributes_joined (modules.more_attributes (modules.attribute at k s) more) us j = (no_gap_is, refl, refl, attribute_joined (modules.attribute at k s) (more_attributes_tokens more us) (more_attributes_joined more us j))

  closing_joined : (us : Items) → Joined (sign_of (codes ";") us) → Joined (spaced_sign (codes "}") (sign_of (codes ";") us))
  unfolding punctuators
  closing_joined us j = (blank_is, refl, refl, j)

  with_joined : {n : Node} (is : IsWithClause n) (us : Items) → Joined (sign_of (codes ";") us) → Joined (with_tokens is (sign_of (codes ";") us))
  unfolding punctuators
  with_joined (modules.no_with a) us j = j
  with_joined (modules.with_nothing at at') us j = (blank_is, words.with_whole, refl, (blank_is, refl, refl, (no_gap_is, refl, refl, j)))
  with_joined (modules.with_attributes at at' (modules.attribute of k s) more) us j =
      (blank_is, words.with_whole, refl, (blank_is, refl, refl, attribute_joined (modules.attribute of k s) _ (more_attributes_joined more _ (closing_joined us j))))

  source_joined : {n k : Node} (s : IsString n) (w : IsWithClause k) (us : Items) → Joined (sign_of (codes ";") us) → Joined (source_tokens s w (sign_of (codes ";") us))
  source_joined s w us j = (blank_is, string_whole s, string_joins (string_raw s) _, with_joined w us j)

  default_joined : {n : Node} (is : IsDefaultImport n) (us : Items) → Between us → Joined us → Joined (default_import_tokens is us)
  default_joined (modules.default_import at i) us b j = (blank_is, ident_whole i, key_joins (ident_word i) b, j)

  namespace_joined : {n : Node} (is : IsNamespaceImport n) (us : Items) → Between us → Joined us → Joined (namespace_import_tokens is us)
  unfolding punctuators
  namespace_joined (modules.namespace_import at i) us b j = (blank_is, refl, refl, (blank_is, words.as_whole, refl, (blank_is, ident_whole i, key_joins (ident_word i) b, j)))

  named_import_joined : {n : Node} (is : IsNamedImport n) (us : Items) → Between us → Joined us → Joined (named_import_tokens is us)
  named_import_joined (modules.same_import at i a) us b j = (blank_is, ident_whole i, key_joins (ident_word i) b, j)
  named_import_joined (modules.other_import at i x) us b j = (blank_is, export_name_fine x, refl, (blank_is, words.as_whole, refl, (blank_is, ident_whole i, key_joins (ident_word i) b, j)))

  more_imports_joined : {ns : List Node} (is : AreNamedImports ns) (us : Items) → Joined (spaced_sign (codes "}") us) → Joined (more_imports_tokens is (spaced_sign (codes "}") us))
  unfolding punctuators
  more_imports_joined modules.no_imports us j = j
  more_imports_joined (modules.more_imports n ns) us j = (no_gap_is, refl, spaced_import (sign (codes ",")) n _, named_import_joined n _ (more_imports_between ns us) (more_imports_joined ns us j))

  named_imports_joined : {n : Node} {ns : List Node} (i : IsNamedImport n) (is : AreNamedImports ns) (us : Items) → Joined (spaced_sign (codes "}") us) → Joined (named_imports_tokens i is us)
  unfolding punctuators
  named_imports_joined i is us j = (blank_is, refl, spaced_import (sign (codes "{")) i _, named_import_joined i _ (more_imports_between is us) (more_imports_joined is us j))

  import_clause_joined : {ns : List Node} (is : IsImportClause ns) (t : Tok) (us : Items) → Joined (spaced t us) → Joined (import_clause_tokens is (spaced t us))
  unfolding punctuators
  import_clause_joined (modules.import_default d) t us j = default_joined d (spaced t us) parted j
  import_clause_joined (modules.import_namespace a) t us j = namespace_joined a (spaced t us) parted j
  import_clause_joined (modules.import_names n ns) t us j = named_imports_joined n ns (spaced t us) (blank_is, refl, refl, j)
  import_clause_joined (modules.import_default_and_namespace d (modules.namespace_import at i)) t us j = default_joined d _ comma (no_gap_is, refl, refl, namespace_joined (modules.namespace_import at i) (spaced t us) parted j)
  import_clause_joined (modules.import_default_and_names d n ns) t us j = default_joined d _ comma (no_gap_is, refl, refl, named_imports_joined n ns (spaced t us) (blank_is, refl, refl, j))

  named_export_joined : {n : Node} (is : IsNamedExport n) (us : Items) → Between us → Joined us → Joined (named_export_tokens is us)
  named_export_joined (modules.same_export at x a) us b j = (blank_is, export_name_fine x, export_name_joins x us b, j)
  named_export_joined (modules.other_export at x y) us b j = (blank_is, export_name_fine x, export_name_joins x (spaced_word (codes "as") (spaced (export_name_token y) us)) parted, (blank_is, words.as_whole, refl, (blank_is, export_name_fine y, export_name_joins y us b, j)))

  more_exports_joined : {ns : List Node} (is : AreNamedExports ns) (us : Items) → Joined (spaced_sign (codes "}") us) → Joined (more_exports_tokens is (spaced_sign (codes "}") us))
  unfolding punctuators
  more_exports_joined modules.no_exports us j = j
  more_exports_joined (modules.more_exports n ns) us j = (no_gap_is, refl, spaced_export (sign (codes ",")) n _, named_export_joined n _ (more_exports_between ns us) (more_exports_joined ns us j))

  export_clause_joined : {ns : List Node} (is : IsExportClause ns) (us : Items) → joins_next (sign (codes "}")) us ≡ true → Joined us → Joined (export_clause_tokens is us)
  unfolding punctuators
  export_clause_joined modules.export_nothing us z j = (blank_is, refl, refl, (no_gap_is, refl, z, j))
  export_clause_joined (modules.export_names n ns) us z j = (blank_is, refl, spaced_export (sign (codes "{")) n _, named_export_joined n _ (more_exports_between ns us) (more_exports_joined ns us (blank_is, refl, z, j)))

  from_joined : {n k : Node} (s : IsString n) (w : IsWithClause k) (us : Items) → Joined (sign_of (codes ";") us) → Joined (from_tokens s w (sign_of (codes ";") us))
  from_joined s w us j = (blank_is, words.from_whole, refl, source_joined s w us j)

  import_equals_joined : (is_export : Bool) (g : Gap) → IsGap g → (t : Tok) (us : Items) → Joined (spaced t us) → Joined (import_equals_tokens is_export g (spaced t us))
  import_equals_joined true g h t us j = (h, words.export_whole, refl, (blank_is, words.import_whole, refl, j))
  import_equals_joined false g h t us j = (h, words.import_whole, refl, j)

  item_joined : {assignments : Bool} {n : Node} (is : IsModuleItem assignments n) (g : Gap) → IsGap g → (us : Items) → Apart us → Joined us → Joined (item_tokens is g us)
  unfolding punctuators
  item_joined (modules.statement s) g h us a j = statement_joined words s 0 g h us a j
  item_joined (modules.import_alone at at' s w) g h us a j = (h, words.import_whole, refl, source_joined s w us (ended words us a j))
  item_joined (modules.import_bindings at at' c s w) g h us a j =
      (h, words.import_whole, spaced_clause (items.key (codes "import")) c _, import_clause_joined c (items.key (codes "from")) _ (blank_is, words.from_whole, refl, source_joined s w us (ended words us a j)))
  item_joined (modules.export_bindings at at' c n n') g h us a j = (h, words.export_whole, spaced_names (items.key (codes "export")) c _, export_clause_joined c _ refl (ended words us a j))
  item_joined (modules.export_bindings_from at at' c s w) g h us a j = (h, words.export_whole, spaced_names (items.key (codes "export")) c _, export_clause_joined c _ refl (from_joined s w us (ended words us a j)))
  item_joined (modules.export_namespace at at' of x s w) g h us a j =
      (h, words.export_whole, refl, (blank_is, refl, refl, (blank_is, words.as_whole, refl, (blank_is, export_name_fine x, export_name_joins x (from_tokens s w (sign_of (codes ";") us)) parted, from_joined s w us (ended words us a j)))))
  item_joined (modules.export_all at s w) g h us a j = (h, words.export_whole, refl, (blank_is, refl, refl, from_joined s w us (ended words us a j)))
  item_joined (modules.export_declaration at is d) g h us a j = (h, words.export_whole, statement_apart is 0 blank blank_wide us (items.key (codes "export")), statement_joined words is 0 blank blank_is us a j)
  item_joined (modules.export_default at e z) g h us a j =
      let after = sign_of (codes ";") us in
      (h, words.export_whole, refl, (blank_is, words.default_whole, blank_joins (items.key (codes "default")) e 0 after, expression_joined words e 0 blank blank_is after semicolon (ended words us a j)))
  item_joined (modules.export_default_function at at' (shapes.unnamed n) f) g h us a j =
      let fs = function_tokens f 0 us in (
        h,
        words.export_whole,
        refl,
        (
          blank_is,
          words.default_whole,
          function_word_apart (is_generator f) (is_async f) blank blank_wide fs (items.key (codes "default")),
          function_word_joined words (is_generator f) (is_async f) blank blank_is fs (function_opens f 0 us (items.key (codes "function")) refl) (function_opens f 0 us (sign (codes "*")) refl) (function_joined words f 0 us (a (sign (codes "}"))) j),
        ),
      )
  item_joined (modules.export_default_function at at' (shapes.function_name i) f) g h us a j =
      let fs = it blank (items.key (ident_word i)) (function_tokens f 0 us) in (
        h,
        words.export_whole,
        refl,
        (
          blank_is,
          words.default_whole,
          function_word_apart (is_generator f) (is_async f) blank blank_wide fs (items.key (codes "default")),
          function_word_joined words (is_generator f) (is_async f) blank blank_is fs refl refl (blank_is, ident_whole i, function_opens f 0 us (items.key (ident_word i)) refl, function_joined words f 0 us (a (sign (codes "}"))) j),
        ),
      )
  item_joined (modules.export_default_class at at' (shapes.unnamed n) c) g h us a j =
      (h, words.export_whole, refl, (blank_is, words.default_whole, refl, (blank_is, words.class_whole, class_apart c 0 us (items.key (codes "class")), class_joined words c 0 us (a (sign (codes "}"))) j)))
  item_joined (modules.export_default_class at at' (shapes.function_name i) c) g h us a j =
      (h, words.export_whole, refl, (blank_is, words.default_whole, refl, (blank_is, words.class_whole, refl, (blank_is, ident_whole i, class_apart c 0 us (items.key (ident_word i)), class_joined words c 0 us (a (sign (codes "}"))) j))))
  item_joined (modules.import_require z at of is_export i s) g h us a j =
      import_equals_joined is_export g h (items.key (ident_word i)) _
      (blank_is, ident_whole i, refl, (blank_is, refl, refl, (blank_is, words.require_whole, refl, (no_gap_is, refl, refl, (no_gap_is, string_whole s, refl, (no_gap_is, refl, refl, ended words us a j))))))
  item_joined (modules.export_assignment z at e) g h us a j =
      let after = sign_of (codes ";") us in
      (h, words.export_whole, refl, (blank_is, refl, blank_joins (sign (codes "=")) e 0 after, expression_joined words e 0 blank blank_is after semicolon (ended words us a j)))

  items_joined : {assignments : Bool} {ns : List Node} (is : AreModuleItems assignments ns) (g : Gap) → IsGap g → Joined (items_tokens is g)
  unfolding punctuators
  items_joined modules.no_items g h = h
  items_joined (modules.more_items i is) g h = item_joined i g h (items_tokens is line) (items_apart is) (items_joined is line (line_is 0))

  pub module_joined : {assignments : Bool} {tree : Node} (is : IsModule assignments tree) → Joined (module_tokens is)
  module_joined (modules.module_of at at' is) = items_joined is no_gap no_gap_is
  module_joined (modules.module_behind_hashbang at at' h is) = items_joined is line (line_is 0)
