-- Classes are read as they are laid out.
use Rattle.std.proofs.Common.{◌≡◌, ℕ, Bool, true, false, List, [], ◌∷◌, codes, nat_le, refl, ap, ◌∙◌}
use Rattle.ecma_lex.specs.Keys.{is_reserved, reserved_words}
use Rattle.ecma_kind.specs.declared.kind.Kind.TheVariants as kind
use Rattle.ecma_tree.specs.declared.node.Node.{Node}
use Rattle.ecma_tree.specs.Nodes.{absent, list_node}
use Rattle.ecma_grammar.specs.declared.production.Part.TheVariants as part
use Rattle.ecma_grammar.specs.declared.production.Plain.TheVariants as plain
use Rattle.ecma_grammar.specs.declared.production.Form.TheVariants as form
use Rattle.ecma_grammar.specs.Made.{made}
use Rattle.ecma_grammar.specs.Grammar.{Grammar, ◌▸◌, word, node}
use Rattle.ecma_grammar.specs.productions.Names as names
use Rattle.ecma_grammar.specs.productions.Types.{params, param, rest_pattern, default_value}
use Rattle.ecma_grammar.specs.productions.Chains as chains
use Rattle.ecma_grammar.specs.productions.Functions as functions
use Rattle.ecma_grammar.specs.productions.Classes.{member, modifier, getter, setter, method, field, question_or_exclamation, class_body, class_declaration}
use Rattle.ecma_grammar.specs.productions.Primary.{class_expression}
use Rattle.ecma_grammar.specs.productions.Declarations.{declaration}
use Rattle.ecma_grammar.specs.productions.Statements as statements
use Rattle.ecma_grammar.specs.productions.Statements.{statement_body, expression_statement}
use Rattle.ecma_grammar.specs.productions.Modules as modules
use Rattle.ecma_grammar.specs.productions.Modules.{module_item}
use Rattle.ecma_print_tokens.specs.Items as items
use Rattle.ecma_print_tokens.specs.Items.{sign, Gap, Items, it}
use Rattle.ecma_print_readings.proofs.Machine.{read, or_on, built_on, interp, means, without}
use Rattle.ecma_shapes.specs.Shapes as shapes
use Rattle.ecma_shapes.specs.Shapes.{IsHeritage, IsFunctionName, ident}
use Rattle.ecma_shapes.proofs.Tokens.{expression_tokens, heritage_tokens, function_name_tokens}
use Rattle.ecma_shapes.proofs.Signs.{blank}
use Rattle.ecma_shapes.proofs.Bare.{expression_kind, expression_parts, bare_heritage, bare_function_name}
use Rattle.ecma_print_readings.proofs.Moves.{eats}
use Rattle.ecma_print_readings.proofs.Levels.{means_is}
use Rattle.ecma_print_readings.proofs.Fronts.{exactly, at_token, refuses_all, all_refused}
use Rattle.ecma_print_readings.proofs.Towers.{skipped, closes}
use Rattle.ecma_print_readings.proofs.Heads.{bare}
use Rattle.ecma_print_readings.proofs.Forms.{Laid, Reads, Refuses}
use Rattle.ecma_print_readings.proofs.Repeats.{Repeats, repeats_end, repeats_more, repeated}
use Rattle.ecma_print_readings.proofs.Bindings.{Stands, direct}
use Rattle.ecma_print_readings.proofs.Statements.{ReadAsStatement, token_form}
use Rattle.ecma_print_readings.proofs.Blocks.{ReadAsBlock}

abbrev pub a_static_block : Grammar
a_static_block = node plain.StaticBlock (word (codes "static") ▸ names.block)

-- the gap before what may stand behind `static`
abbrev pub gap_behind : Bool → Gap → Gap
gap_behind true g = blank
gap_behind false g = g

-- no member begins with `}`
no_member_at_brace : refuses_all (exactly (sign (codes "}"))) member ≡ true
unfolding member modifier getter setter method field functions.method_async names.class_element_name names.prop_name names.computed_prop_name question_or_exclamation functions.signature names.block
no_member_at_brace = refl

member_eats : nat_le 1 (eats member) ≡ true
unfolding member modifier getter setter method field functions.method_async names.class_element_name names.prop_name names.computed_prop_name question_or_exclamation functions.signature names.block params param rest_pattern default_value
member_eats = refl

brace_ends_chain : closes shapes.left_hand_side (exactly (sign (codes "{"))) ≡ true
unfolding chains.links chains.template_start
brace_ends_chain = refl

class_made : (name super members : Node) → made (form.Class plain.ClassDecl false) 0 0 (name ∷ absent ∷ super ∷ absent ∷ list_node [] ∷ members ∷ []) ≡ bare (kind.ClassDecl false) (name ∷ bare (kind.Class false) (super ∷ members ∷ absent ∷ absent ∷ list_node [] ∷ []) ∷ [])
class_made name super members = refl

module _ (assigned : Bool) where
  -- a member as it is laid out
  pub record ReadAsMember (f : Laid) (n : Node) : Type 0 where
    pub reads : (g : Gap) (us : Items) → Reads assigned member (f g us) (n ∷ []) us

  pub record ReadAsMembers (f : Items → Items) (ns : List Node) : Type 0 where
    pub reads : (us : Items) → Refuses assigned member us → Repeats assigned member (f us) ns us

  pub no_members_form : ReadAsMembers (λ us. us) []
  no_members_form = record { reads = λ us h. repeats_end assigned member us h }

  pub more_members_form : {f : Laid} {n : Node} {rest : Items → Items} {ns : List Node} → ReadAsMember f n → ReadAsMembers rest ns → (g : Gap) → ReadAsMembers (λ us. f g (rest us)) (n ∷ ns)
  more_members_form {f} {n} {rest} {ns} M T g = record { reads = λ us h. repeats_more assigned member member_eats (f g (rest us)) (rest us) us (n ∷ []) ns (M.reads g (rest us)) (T.reads us h) }

  pub empty_member_form : ReadAsMember (λ g us. it g (sign (codes ";")) us) (bare kind.EmptyStmt [])
  unfolding member
  empty_member_form = record { reads = λ g us. refl }

  pub static_block_form : {f : Laid} {n : Node} → ReadAsBlock assigned f n → ReadAsMember (λ g us. it g (items.key (codes "static")) (f blank us)) (bare kind.StaticBlock (n ∷ []))
  unfolding member
  static_block_form B = record { reads = λ g us. rw (B.reads blank us) refl }

  -- what is said of what a class extends
  abbrev pub HeritageForm : {n : Node} → IsHeritage n → ℕ → Type 0
  HeritageForm (shapes.no_heritage a) depth = Unit {0}
  HeritageForm (shapes.heritage e) depth = Stands assigned shapes.left_hand_side (expression_tokens e depth) (expression_kind e) (expression_parts e)

  module _ {f : Items → Items} {ms : List Node} (M : ReadAsMembers f ms) (h : Gap) where
    abbrev braces : Items → Items
    braces us = it blank (sign (codes "{")) (f (it h (sign (codes "}")) us))

    members_read : (us : Items) → Repeats assigned member (f (it h (sign (codes "}")) us)) ms (it h (sign (codes "}")) us)
    members_read us = M.reads (it h (sign (codes "}")) us) (all_refused assigned member (exactly (sign (codes "}"))) (it h (sign (codes "}")) us) at_token no_member_at_brace)

    body_read : {n : Node} (is : IsHeritage n) (depth : ℕ) → HeritageForm is depth → (w : List ℕ) → is_reserved w ≡ false → (us : Items)
        → Reads assigned (class_body true) (it blank (items.key w) (heritage_tokens is depth (braces us))) (bare (kind.Ident w 0 false) [] ∷ absent ∷ bare_heritage is ∷ absent ∷ list_node [] ∷ list_node ms ∷ []) us
    body_read (shapes.no_heritage a) depth H w free us = (let end = it h (sign (codes "}")) us in rw (free, repeated assigned member (f end) end ms (members_read us)) refl)
    body_read (shapes.heritage e) depth H w free us =
        (let end = it h (sign (codes "}")) us in
        rw (free, direct assigned shapes.left_hand_side H blank (braces us) (exactly (sign (codes "{"))) at_token brace_ends_chain, repeated assigned member (f end) end ms (members_read us)) refl)

    -- with a name, or without one

    name_read : {m : Node} (i : IsFunctionName m) {n : Node} (is : IsHeritage n) (depth : ℕ) → HeritageForm is depth → (us : Items)
        → Reads assigned (class_body false) (function_name_tokens i (heritage_tokens is depth (braces us))) (bare_function_name i ∷ absent ∷ bare_heritage is ∷ absent ∷ list_node [] ∷ list_node ms ∷ []) us
    unfolding is_reserved reserved_words
    name_read (shapes.unnamed o) (shapes.no_heritage a) depth H us = (let end = it h (sign (codes "}")) us in rw (repeated assigned member (f end) end ms (members_read us)) refl)
    name_read (shapes.unnamed o) (shapes.heritage e) depth H us =
        (let end = it h (sign (codes "}")) us in
        rw (direct assigned shapes.left_hand_side H blank (braces us) (exactly (sign (codes "{"))) at_token brace_ends_chain, repeated assigned member (f end) end ms (members_read us)) refl)
    name_read (shapes.function_name (ident at w i)) (shapes.no_heritage a) depth H us = (let end = it h (sign (codes "}")) us in rw (i.free, repeated assigned member (f end) end ms (members_read us)) refl)
    name_read (shapes.function_name (ident at w i)) (shapes.heritage e) depth H us =
        (let end = it h (sign (codes "}")) us in
        rw (i.free, direct assigned shapes.left_hand_side H blank (braces us) (exactly (sign (codes "{"))) at_token brace_ends_chain, repeated assigned member (f end) end ms (members_read us)) refl)

    pub class_expression_read : {n : Node} (is : IsHeritage n) (depth : ℕ) → HeritageForm is depth → {m : Node} (i : IsFunctionName m) (g : Gap) (us : Items)
        → Reads assigned class_expression (it g (items.key (codes "class")) (function_name_tokens i (heritage_tokens is depth (braces us)))) (bare kind.ClassExpr (bare_function_name i ∷ bare (kind.Class false) (bare_heritage is ∷ list_node ms ∷ absent ∷ absent ∷ list_node [] ∷ []) ∷ []) ∷ []) us
    unfolding class_expression
    class_expression_read is depth H i g us = ap (built_on (form.Class plain.ClassExpr false)) (means_is assigned (part.Class false) (function_name_tokens i (heritage_tokens is depth (braces us))) ∙ name_read i is depth H us)

    module _ {n : Node} (is : IsHeritage n) (depth : ℕ) (H : HeritageForm is depth) (w : List ℕ) (free : is_reserved w ≡ false) where
      abbrev tokens : Laid
      tokens g us = it g (items.key (codes "class")) (it blank (items.key w) (heritage_tokens is depth (braces us)))

      abbrev whole : Node
      whole = bare (kind.ClassDecl false) (bare (kind.Ident w 0 false) [] ∷ bare (kind.Class false) (bare_heritage is ∷ list_node ms ∷ absent ∷ absent ∷ list_node [] ∷ []) ∷ [])

      pub class_declaration_read : (g : Gap) (us : Items) → Reads assigned declaration (tokens g us) (whole ∷ []) us
      unfolding declaration functions.function_declaration class_declaration is_reserved reserved_words
      class_declaration_read g us =
          let ts = tokens g us in
          skipped assigned (means assigned) 2 declaration (exactly (items.key (codes "class"))) ts at_token refl
          ∙ ap (or_on (interp assigned (means assigned) (without 3 declaration)) ts)
          (ap (built_on (form.Class plain.ClassDecl false)) (means_is assigned (part.Class true) (it blank (items.key w) (heritage_tokens is depth (braces us))) ∙ body_read is depth H w free us)
          ∙ ap (λ z. read (z ∷ []) us) (class_made (bare (kind.Ident w 0 false) []) (bare_heritage is) (list_node ms)))

      pub class_form : ReadAsStatement assigned shapes.closed tokens whole
      unfolding statement_body names.block statements.if_ statements.for_await statements.for_ statements.while_ statements.do_while statements.switch statements.try_ statements.jump statements.labeled module_item modules.import modules.import_equals modules.export modules.export_default is_reserved reserved_words
      class_form = token_form assigned 11 declaration expression_statement refl (items.key (codes "class")) refl refl refl (λ g us e b z. class_declaration_read g us)
