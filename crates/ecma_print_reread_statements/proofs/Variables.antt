-- Declarations of variables are read as they are laid out.
use Rattle.std.proofs.Common.{◌≡◌, ℕ, Bool, true, false, List, [], ◌∷◌, codes, refl, ap, ◌∙◌}
use Rattle.ecma_lex.specs.Keys.{is_reserved, reserved_words}
use Rattle.ecma_kind.specs.declared.operators.VarDeclKind.{VarDeclKind}
use Rattle.ecma_kind.specs.declared.operators.VarDeclKind.TheVariants.{Var, Let, Const}
use Rattle.ecma_kind.specs.declared.kind.Kind.TheVariants as kind
use Rattle.ecma_tree.specs.declared.node.Node.{Node}
use Rattle.ecma_tree.specs.Nodes.{absent, list_node}
use Rattle.ecma_grammar.specs.declared.production.Part.TheVariants as part
use Rattle.ecma_grammar.specs.declared.production.Form.TheVariants as form
use Rattle.ecma_grammar.specs.Made.{made}
use Rattle.ecma_grammar.specs.Grammar as grammar
use Rattle.ecma_grammar.specs.Grammar.{Grammar, ◌▸◌, ◌//◌, punct, maybe, whether, marked}
use Rattle.ecma_grammar.specs.productions.Names as names
use Rattle.ecma_grammar.specs.productions.Names.{assign_in, end}
use Rattle.ecma_grammar.specs.productions.Types.{annotation}
use Rattle.ecma_grammar.specs.productions.Patterns.{pattern_body}
use Rattle.ecma_grammar.specs.productions.Functions as functions
use Rattle.ecma_grammar.specs.productions.Classes as classes
use Rattle.ecma_grammar.specs.productions.Declarations as declarations
use Rattle.ecma_grammar.specs.productions.Declarations.{declarator, declarators, variables, declaration}
use Rattle.ecma_grammar.specs.productions.Statements as statements
use Rattle.ecma_grammar.specs.productions.Statements.{statement_body, labeled, expression_statement}
use Rattle.ecma_grammar.specs.productions.Modules as modules
use Rattle.ecma_grammar.specs.productions.Modules.{module_item}
use Rattle.ecma_print.specs.Statements.{keyword}
use Rattle.ecma_print_tokens.specs.Items as items
use Rattle.ecma_print_tokens.specs.Items.{sign, Gap, Items, it}
use Rattle.ecma_print_readings.proofs.Machine.{read, with_front, followed_on, or_on, built_on, interp, means}
use Rattle.ecma_shapes.specs.Shapes as shapes
use Rattle.ecma_shapes.specs.Shapes.{IsDeclarator, AreDeclarators, IsPattern}
use Rattle.ecma_shapes.proofs.Tokens.{ident_word, initializer_tokens, declarator_tokens, declarators_tokens, pattern_tokens}
use Rattle.ecma_shapes.proofs.Signs.{blank}
use Rattle.ecma_shapes.proofs.Bare.{bare, bare_initializer, bare_declarator, bare_declarators, bare_pattern}
use Rattle.ecma_print_readings.proofs.Levels.{means_is}
use Rattle.ecma_print_readings.proofs.Fronts.{exactly, at_token}
use Rattle.ecma_print_readings.proofs.Towers.{refuses_choices}
use Rattle.ecma_print_readings.proofs.Heads.{nodes}
use Rattle.ecma_print_readings.proofs.Forms.{s, Reads}
use Rattle.ecma_print_readings.proofs.Repeats.{Repeats, repeats_end, repeats_more, repeated}
use Rattle.ecma_print_readings.proofs.Expressions.{comma_ends, semicolon_ends}
use Rattle.ecma_print_readings.proofs.Statements.{closes_statement, ReadAsStatement, token_form}
use Rattle.ecma_print_readings.proofs.Lists.{Followed}
use Rattle.ecma_print_readings.proofs.Spreads.{ReadAsPattern, initializer_read, InitializerIn}

-- the word of a declaration begins nothing that is tried before one
record Declares (w : List ℕ) : Type 0 where
  pub no_statement : refuses_choices 11 (exactly (items.key w)) statement_body ≡ true
  pub no_item : refuses_choices 3 (exactly (items.key w)) module_item ≡ true
  pub closes : closes_statement shapes.dangling (exactly (items.key w)) ≡ true

keyword_declares : (k : VarDeclKind) → Declares (keyword k)
unfolding statement_body names.block statements.if_ statements.for_await statements.for_ statements.while_ statements.do_while statements.switch statements.try_ statements.jump labeled module_item modules.import modules.import_equals modules.export modules.export_default is_reserved reserved_words
keyword_declares Var = record { no_statement = refl; no_item = refl; closes = refl }
keyword_declares Let = record { no_statement = refl; no_item = refl; closes = refl }
keyword_declares Const = record { no_statement = refl; no_item = refl; closes = refl }

-- a declaration that is none of variables
abbrev other_declarations : Grammar
other_declarations =
    functions.function_declaration // classes.class_declaration // marked classes.abstract_class_declaration // marked declarations.type_alias // marked declarations.interface
    // marked declarations.enum_ // marked declarations.namespace // marked (grammar.build form.Declared (grammar.behind_word (codes "declare") part.Declared))

abbrev pub binding : List ℕ → Node
binding w = bare kind.BindingIdent (bare (kind.Ident w 0 false) [] ∷ absent ∷ [])

pub declarator_made : (w : List ℕ) (init : Node) → made form.Declarator 0 0 (binding w ∷ absent ∷ absent ∷ init ∷ []) ≡ bare (kind.VarDeclarator false) (binding w ∷ init ∷ [])
declarator_made w init = simp nodes

-- a pattern has no annotation
pub pattern_declared : {n : Node} (p : IsPattern n) (init : Node) → made form.Declarator 0 0 (bare_pattern p ∷ absent ∷ absent ∷ init ∷ []) ≡ bare (kind.VarDeclarator false) (bare_pattern p ∷ init ∷ [])
pattern_declared (shapes.name_pattern at i a) init = declarator_made (ident_word i) init
pattern_declared (shapes.array_pattern at at' es a) init = simp nodes
pattern_declared (shapes.object_pattern at at' ps a) init = simp nodes

module _ (assigned : Bool) where
  abbrev pub DeclaratorIn : Bool → {n : Node} → IsDeclarator n → ℕ → Type 0
  DeclaratorIn no_in (shapes.declarator at p e) depth = ReadAsPattern assigned (pattern_tokens p depth) (bare_pattern p) × InitializerIn assigned no_in e depth

  abbrev pub DeclaratorsIn : Bool → {ds : List Node} → AreDeclarators ds → ℕ → Type 0
  DeclaratorsIn no_in shapes.no_declarators depth = Unit {0}
  DeclaratorsIn no_in (shapes.more_declarators d ds) depth = DeclaratorIn no_in d depth × DeclaratorsIn no_in ds depth

  -- where `in` is an operator
  abbrev pub DeclaratorForm : {n : Node} → IsDeclarator n → ℕ → Type 0
  DeclaratorForm d depth = DeclaratorIn false d depth

  abbrev pub DeclaratorForms : {ds : List Node} → AreDeclarators ds → ℕ → Type 0
  DeclaratorForms ds depth = DeclaratorsIn false ds depth

  pub pattern_read : (w : List ℕ) → is_reserved w ≡ false → (g : Gap) (us : Items) → means assigned part.Pattern (it g (items.key w) us) ≡ read (binding w ∷ []) us
  unfolding pattern_body names.binding_ident
  pattern_read w n g us = rw (means_is assigned part.Pattern (it g (items.key w) us), n) refl

  declarator_read : (no_in : Bool) {n : Node} (d : IsDeclarator n) (depth : ℕ) → DeclaratorIn no_in d depth → (us : Items) → Followed us → Reads assigned (declarator no_in) (declarator_tokens d depth us) (bare_declarator d ∷ []) us
  declarator_read no_in (shapes.declarator at p e) depth F us w =
      let P = F.0 in
      ap (built_on form.Declarator) (ap (followed_on (interp assigned (means assigned) (whether (marked (punct (codes "!"))) ▸ annotation ▸ maybe (punct (codes "=") ▸ assign_in no_in)))) (P.reads blank (initializer_tokens e depth us))
      ∙ ap (with_front (bare_pattern p ∷ [])) (ap (with_front (absent ∷ [])) (ap (with_front (absent ∷ [])) (initializer_read assigned no_in e depth F.1 us w))))
      ∙ ap (λ x. read (x ∷ []) us) (pattern_declared p (bare_initializer e))

  more_follow : {ds : List Node} (is : AreDeclarators ds) (depth : ℕ) (us : Items) → Followed (declarators_tokens is depth (s (codes ";") us))
  more_follow shapes.no_declarators depth us = record { front = exactly (sign (codes ";")); begins = at_token; ends = semicolon_ends }
  more_follow (shapes.more_declarators d ds) depth us = record { front = exactly (sign (codes ",")); begins = at_token; ends = comma_ends }

  more_read : (no_in : Bool) {ds : List Node} (is : AreDeclarators ds) (depth : ℕ) → DeclaratorsIn no_in is depth → (us : Items) → Repeats assigned (punct (codes ",") ▸ declarator no_in) (declarators_tokens is depth (s (codes ";") us)) (bare_declarators is) (s (codes ";") us)
  more_read no_in shapes.no_declarators depth S us = repeats_end assigned (punct (codes ",") ▸ declarator no_in) (s (codes ";") us) refl
  more_read no_in (shapes.more_declarators d ds) depth S us =
      repeats_more assigned (punct (codes ",") ▸ declarator no_in) refl _ (declarators_tokens ds depth (s (codes ";") us)) (s (codes ";") us) (bare_declarator d ∷ []) (bare_declarators ds)
      (ap (with_front []) (declarator_read no_in d depth S.0 (declarators_tokens ds depth (s (codes ";") us)) (more_follow ds depth us))) (more_read no_in ds depth S.1 us)

  declarators_read : (no_in : Bool) {d : Node} {ds : List Node} (i : IsDeclarator d) (is : AreDeclarators ds) (depth : ℕ) → DeclaratorIn no_in i depth → DeclaratorsIn no_in is depth → (us : Items)
      → Reads assigned (declarators no_in) (declarator_tokens i depth (declarators_tokens is depth (s (codes ";") us))) (list_node (bare_declarator i ∷ bare_declarators is) ∷ []) (s (codes ";") us)
  declarators_read no_in i is depth S T us =
      ap (built_on form.List)
      (ap (followed_on (interp assigned (means assigned) (grammar.many (punct (codes ",") ▸ declarator no_in)))) (declarator_read no_in i depth S (declarators_tokens is depth (s (codes ";") us)) (more_follow is depth us))
      ∙ ap (with_front (bare_declarator i ∷ [])) (repeated assigned (punct (codes ",") ▸ declarator no_in) (declarators_tokens is depth (s (codes ";") us)) (s (codes ";") us) (bare_declarators is) (more_read no_in is depth T us)))

  -- with what ends them
  pub variables_read : (no_in : Bool) (tail : Grammar) (us vs : Items) → Reads assigned tail (s (codes ";") us) [] vs → (k : VarDeclKind) {d : Node} {ds : List Node} (i : IsDeclarator d) (is : AreDeclarators ds) (depth : ℕ) → DeclaratorIn no_in i depth → DeclaratorsIn no_in is depth → (g : Gap)
      → Reads assigned (variables no_in tail) (it g (items.key (keyword k)) (declarator_tokens i depth (declarators_tokens is depth (s (codes ";") us)))) (bare (kind.VarDecl k false) (list_node (bare_declarator i ∷ bare_declarators is) ∷ []) ∷ []) vs
  variables_read no_in tail us vs h Var i is depth S T g = rw (declarators_read no_in i is depth S T us, h) refl
  variables_read no_in tail us vs h Let i is depth S T g = rw (declarators_read no_in i is depth S T us, h) refl
  variables_read no_in tail us vs h Const i is depth S T g = rw (declarators_read no_in i is depth S T us, h) refl

  pub declaration_read : (k : VarDeclKind) {d : Node} {ds : List Node} (i : IsDeclarator d) (is : AreDeclarators ds) (depth : ℕ) → DeclaratorForm i depth → DeclaratorForms is depth → (g : Gap) (us : Items)
      → Reads assigned declaration (it g (items.key (keyword k)) (declarator_tokens i depth (declarators_tokens is depth (s (codes ";") us)))) (bare (kind.VarDecl k false) (list_node (bare_declarator i ∷ bare_declarators is) ∷ []) ∷ []) us
  unfolding declaration
  declaration_read k i is depth S T g us = ap (or_on (interp assigned (means assigned) other_declarations) (it g (items.key (keyword k)) (declarator_tokens i depth (declarators_tokens is depth (s (codes ";") us))))) (variables_read false end us us refl k i is depth S T g)

  pub declaration_form : (k : VarDeclKind) {d : Node} {ds : List Node} (i : IsDeclarator d) (is : AreDeclarators ds) (depth : ℕ) → DeclaratorForm i depth → DeclaratorForms is depth
      → ReadAsStatement assigned shapes.closed (λ g us. it g (items.key (keyword k)) (declarator_tokens i depth (declarators_tokens is depth (s (codes ";") us)))) (bare (kind.VarDecl k false) (list_node (bare_declarator i ∷ bare_declarators is) ∷ []))
  unfolding statement_body
  declaration_form k i is depth S T =
      let D = keyword_declares k in
      token_form assigned 11 declaration expression_statement refl (items.key (keyword k)) D.no_statement D.no_item D.closes (λ g us e b z. declaration_read k i is depth S T g us)
