-- Templates, and templates behind tags, are read as they are laid out.
use Rattle.std.proofs.Common.{◌≡◌, ℕ, ◌+◌, ◌-◌, ◌||◌, Bool, true, false, List, [], ◌∷◌, ◌++◌, filter, length, codes, nat_le, refl, ap, ap₂, ◌∙◌, arith, is_some, append_assoc}
use Rattle.std.proofs.lemmas.List.{length-append}
use Rattle.std.specs.Str.{IsUtf8}
use Rattle.ecma_lex.specs.Keys.{is_reserved, reserved_words}
use Rattle.ecma_lex.specs.Templates.{template_value, template_raw}
use Rattle.ecma_kind.specs.declared.kind.Kind.{Kind}
use Rattle.ecma_kind.specs.declared.kind.Kind.TheVariants as kind
use Rattle.ecma_tree.specs.declared.node.Node.{Node}
use Rattle.ecma_tree.specs.Nodes.{dummy_span, absent, list_node}
use Rattle.ecma_grammar.specs.declared.production.Part.TheVariants as part
use Rattle.ecma_grammar.specs.declared.production.Link.TheVariants as link
use Rattle.ecma_grammar.specs.declared.production.Leaf.TheVariants as leaf
use Rattle.ecma_grammar.specs.declared.production.Form.TheVariants as form
use Rattle.ecma_grammar.specs.trees.Chains.{is_text_kind, is_text_part, is_substitution, template}
use Rattle.ecma_grammar.specs.Grammar as grammar
use Rattle.ecma_grammar.specs.Grammar.{Grammar, keep, ◌▸◌}
use Rattle.ecma_grammar.specs.productions.Names as names
use Rattle.ecma_grammar.specs.productions.Names.{expression}
use Rattle.ecma_grammar.specs.productions.Types.{param, rest_pattern, default_value}
use Rattle.ecma_grammar.specs.productions.Patterns.{pattern_body, array_pattern, object_pattern}
use Rattle.ecma_grammar.specs.productions.Functions as functions
use Rattle.ecma_grammar.specs.productions.Functions.{arrow, arrow_rest, function_expression}
use Rattle.ecma_grammar.specs.productions.Classes as classes
use Rattle.ecma_grammar.specs.productions.Declarations as declarations
use Rattle.ecma_grammar.specs.productions.Statements as statements
use Rattle.ecma_grammar.specs.productions.Statements.{labeled}
use Rattle.ecma_grammar.specs.productions.Modules as modules
use Rattle.ecma_grammar.specs.productions.Operators.{prefixed, factors, terms, shifts, relations, equalities}
use Rattle.ecma_grammar.specs.productions.Expressions.{assignments}
use Rattle.ecma_grammar.specs.productions.Primary as primaries
use Rattle.ecma_grammar.specs.productions.Primary.{primary, class_expression}
use Rattle.ecma_grammar.specs.productions.Chains as chains
use Rattle.ecma_grammar.specs.productions.Chains.{links, new_links, template_start, super_of_member, super_of_link, import_meta, import_call, construction}
use Rattle.ecma_print_tokens.specs.Items as items
use Rattle.ecma_print_tokens.specs.Items.{no_gap, Gap, Items, it}
use Rattle.ecma_print_tokens.specs.Taking.{part_inside}
use Rattle.ecma_print_readings.proofs.Machine.{read, with_front, followed_on, or_on, built_on, interp, means}
use Rattle.ecma_shapes.specs.Shapes as shapes
use Rattle.ecma_shapes.specs.Shapes.{Level, IsExpression, IsPart, AreParts}
use Rattle.ecma_shapes.specs.LiteralTexts.{part_text}
use Rattle.ecma_shapes.proofs.Tokens.{part_raw, part_token, expression_tokens, parts_tokens, ends_here, first_raw}
use Rattle.ecma_shapes.proofs.Bare.{bare, expression_kind, expression_parts, bare_expression, bare_part, bare_parts, bare_substitutions}
use Rattle.ecma_print_readings.proofs.Moves.{eats}
use Rattle.ecma_print_readings.proofs.Levels.{means_is}
use Rattle.ecma_print_readings.proofs.Fronts.{Front, exactly, at_token, refuses_at}
use Rattle.ecma_print_readings.proofs.Towers.{Tower, here, later, sooner, Opens, Ends}
use Rattle.ecma_print_readings.proofs.Heads.{is_head, kind-node, tagged_made}
use Rattle.ecma_print_readings.proofs.Forms.{Laid, Reads, only_opens, Form, NewForm, form_by, link_form}
use Rattle.ecma_print_readings.proofs.Bindings.{Stands, expression_read}
use Rattle.ecma_print_readings.proofs.Repeats.{Repeats, repeats_end, repeats_more, repeated}
use Rattle.ecma_print_readings.proofs.Expressions.{IsPrimary, primary_by, head_read, new_head_read}
use Rattle.ecma_print_readings.proofs.Pieces.{piece_between}

-- what stands between the ends of a text part
inside_is : (first last : Bool) (raw : List ℕ) → IsUtf8 (part_text first last raw) → part_inside last (part_text first last raw) ≡ raw
inside_is true true raw u = let n : length (part_text true true raw) - 1 ≡ 1 + length raw = (let l = length-append raw (codes "`") in omega arith) in rw n (piece_between 96 96 raw [] (omega arith) (omega arith) u)
inside_is true false raw u = let n : length (part_text true false raw) - 2 ≡ 1 + length raw = (let l = length-append raw (codes "${") in omega arith) in rw n (piece_between 96 36 raw (codes "{") (omega arith) (omega arith) u)
inside_is false true raw u = let n : length (part_text false true raw) - 1 ≡ 1 + length raw = (let l = length-append raw (codes "`") in omega arith) in rw n (piece_between 125 96 raw [] (omega arith) (omega arith) u)
inside_is false false raw u = let n : length (part_text false false raw) - 2 ≡ 1 + length raw = (let l = length-append raw (codes "${") in omega arith) in rw n (piece_between 125 36 raw (codes "{") (omega arith) (omega arith) u)

said_is : (last : Bool) (w raw : List ℕ) → part_inside last w ≡ raw → template_raw raw ≡ raw → kind.TplElement (template_raw (part_inside last w)) (template_value (part_inside last w)) last ≡ kind.TplElement raw (template_value raw) last
said_is last w raw i r = ap (λ x. kind.TplElement (template_raw x) (template_value x) last) i ∙ ap (λ x. kind.TplElement x (template_value raw) last) r

valued : (t last : Bool) (w raw : List ℕ) → part_inside last w ≡ raw → (t || is_some (template_value raw)) ≡ true → (t || is_some (template_value (part_inside last w))) ≡ true
valued t last w raw i v = ap (λ x. t || is_some (template_value x)) i ∙ v

abbrev wanted : Bool → Bool → Bool → Grammar
wanted first tagged last = keep (leaf.TplElement (record { first = first; tagged = tagged; last = last }))

-- no expression is a text part
no_text : {level : Level} {e : Node} (is : IsExpression level e) → is_text_kind (expression_kind is) ≡ false
no_text (shapes.looser e) = no_text e
no_text is = refl

-- parts and expressions by turns
mixed : {t f : Bool} {es ps : List Node} → AreParts t f es ps → List Node
mixed (shapes.last_part p) = bare_part p ∷ []
mixed (shapes.more_parts p e ps) = bare_part p ∷ (bare_expression e ∷ mixed ps)

middles : {t f : Bool} {es ps : List Node} → AreParts t f es ps → List Node
middles (shapes.last_part p) = []
middles (shapes.more_parts p e ps) = bare_part p ∷ (bare_expression e ∷ middles ps)

final : {t f : Bool} {es ps : List Node} → AreParts t f es ps → Node
final (shapes.last_part p) = bare_part p
final (shapes.more_parts p e ps) = final ps

-- from the last part on
final_tokens : {t f : Bool} {es ps : List Node} → AreParts t f es ps → Items → Items
final_tokens {f = f} (shapes.last_part p) us = it no_gap (items.template false true (part_text false true (part_raw p))) us
final_tokens (shapes.more_parts p e ps) us = final_tokens ps us

mixed_is : {t f : Bool} {es ps : List Node} (is : AreParts t f es ps) → middles is ++ final is ∷ [] ≡ mixed is
unfolding mixed middles final
mixed_is (shapes.last_part p) = refl
mixed_is (shapes.more_parts p e ps) = ap (λ xs. bare_part p ∷ (bare_expression e ∷ xs)) (mixed_is ps)

part_is_text : {t f l : Bool} {n : Node} (p : IsPart t f l n) → is_text_part (bare_part p) ≡ true
part_is_text {l = l} (shapes.part at raw w r v) = ap is_text_kind (kind-node dummy_span (kind.TplElement raw (template_value raw) l) [])

expression_is_none : {level : Level} {e : Node} (is : IsExpression level e) → is_text_part (bare_expression is) ≡ false
expression_is_none is = ap is_text_kind (kind-node dummy_span (expression_kind is) (expression_parts is)) ∙ no_text is

text_parts : {t f : Bool} {es ps : List Node} (is : AreParts t f es ps) → filter is_text_part (mixed is) ≡ bare_parts is
unfolding mixed
text_parts (shapes.last_part p) = rw (part_is_text p) refl
text_parts (shapes.more_parts p e ps) = rw (part_is_text p, expression_is_none e) (ap (λ xs. bare_part p ∷ xs) (text_parts ps))

substitutions : {t f : Bool} {es ps : List Node} (is : AreParts t f es ps) → filter is_substitution (mixed is) ≡ bare_substitutions is
unfolding mixed
substitutions (shapes.last_part p) = rw (part_is_text p) refl
substitutions (shapes.more_parts p e ps) = rw (part_is_text p, expression_is_none e) (ap (λ xs. bare_expression e ∷ xs) (substitutions ps))

template_made : {t f : Bool} {es ps : List Node} (is : AreParts t f es ps) → template dummy_span (mixed is) ≡ bare kind.Tpl (list_node (bare_substitutions is) ∷ list_node (bare_parts is) ∷ [])
template_made is = ap₂ (λ x y. bare kind.Tpl (list_node x ∷ list_node y ∷ [])) (substitutions is) (text_parts is)

-- a text part ends an expression
part_ends : (last : Bool) (w : List ℕ) → Ends (exactly (items.template false last w))
unfolding factors terms shifts relations equalities assignments links template_start arrow_rest names.binding_ident
part_ends last w = refl

module _ (assigned : Bool) where
  -- what is said of each
  abbrev pub PartForms : {t f : Bool} {es ps : List Node} → AreParts t f es ps → ℕ → Type 0
  PartForms (shapes.last_part p) depth = Unit {0}
  PartForms (shapes.more_parts p e ps) depth = Stands assigned shapes.sequence (expression_tokens e depth) (expression_kind e) (expression_parts e) × PartForms ps depth

  part_kept : (first last : Bool) {t : Bool} {n : Node} (p : IsPart t first last n) (g : Gap) (us : Items) → Reads assigned (wanted first t last) (it g (items.template first last (part_text first last (part_raw p))) us) (bare_part p ∷ []) us
  part_kept true true {t = t} (shapes.part at raw w r v) g us = let i = inside_is true true raw w.utf8 in rw (valued t true (part_text true true raw) raw i v) (ap (λ k. read (bare k [] ∷ []) us) (said_is true (part_text true true raw) raw i r))
  part_kept true false {t = t} (shapes.part at raw w r v) g us = let i = inside_is true false raw w.utf8 in rw (valued t false (part_text true false raw) raw i v) (ap (λ k. read (bare k [] ∷ []) us) (said_is false (part_text true false raw) raw i r))
  part_kept false true {t = t} (shapes.part at raw w r v) g us = let i = inside_is false true raw w.utf8 in rw (valued t true (part_text false true raw) raw i v) (ap (λ k. read (bare k [] ∷ []) us) (said_is true (part_text false true raw) raw i r))
  part_kept false false {t = t} (shapes.part at raw w r v) g us = let i = inside_is false false raw w.utf8 in rw (valued t false (part_text false false raw) raw i v) (ap (λ k. read (bare k [] ∷ []) us) (said_is false (part_text false false raw) raw i r))

  abbrev middle : Bool → Grammar
  middle t = wanted false t false ▸ expression false

  middle_eats : (t : Bool) → nat_le 1 (eats (middle t)) ≡ true
  unfolding expression
  middle_eats t = refl

  middles_read : {t : Bool} {es ps : List Node} (is : AreParts t false es ps) (depth : ℕ) → PartForms is depth → (us : Items) → Repeats assigned (middle t) (it no_gap (part_token false is) (parts_tokens is depth us)) (middles is) (final_tokens is us)
  unfolding middles final_tokens
  middles_read {t = t} (shapes.last_part p) depth F us = repeats_end assigned (middle t) (it no_gap (items.template false true (part_text false true (part_raw p))) us) refl
  middles_read {t = t} (shapes.more_parts p e ps) depth F us =
      let behind = it no_gap (part_token false ps) (parts_tokens ps depth us) in
      repeats_more assigned (middle t) (middle_eats t) _ behind (final_tokens ps us) (bare_part p ∷ bare_expression e ∷ []) (middles ps)
      (ap (followed_on (interp assigned (means assigned) (expression false))) (part_kept false false p no_gap (expression_tokens e depth no_gap behind))
      ∙ ap (with_front (bare_part p ∷ [])) (expression_read assigned F.0 no_gap behind (exactly (part_token false ps)) at_token (part_ends _ _) refl))
      (middles_read ps depth F.1 us)

  final_read : {t : Bool} {es ps : List Node} (is : AreParts t false es ps) (us : Items) → Reads assigned (wanted false t true) (final_tokens is us) (final is ∷ []) us
  unfolding final final_tokens
  final_read (shapes.last_part p) us = part_kept false true p no_gap us
  final_read (shapes.more_parts p e ps) us = final_read ps us

  rest_read : {t : Bool} {es ps : List Node} (is : AreParts t false es ps) (depth : ℕ) → PartForms is depth → (us : Items) → Reads assigned (grammar.many (middle t) ▸ wanted false t true) (it no_gap (part_token false is) (parts_tokens is depth us)) (mixed is) us
  rest_read {t = t} is depth F us =
      ap (followed_on (interp assigned (means assigned) (wanted false t true))) (repeated assigned (middle t) (it no_gap (part_token false is) (parts_tokens is depth us)) (final_tokens is us) (middles is) (middles_read is depth F us))
      ∙ ap (with_front (middles is)) (final_read is us) ∙ ap (λ xs. read xs us) (mixed_is is)

  -- a template, behind a tag or not
  template_read : {t : Bool} {es ps : List Node} (is : AreParts t true es ps) (depth : ℕ) → PartForms is depth → (g : Gap) (us : Items) → Reads assigned (primaries.template t) (it g (part_token true is) (parts_tokens is depth us)) (bare kind.Tpl (list_node (bare_substitutions is) ∷ list_node (bare_parts is) ∷ []) ∷ []) us
  unfolding primaries.template mixed
  template_read {t = t} (shapes.last_part p) depth F g us =
      let I = interp assigned (means assigned) in
      let ts = it g (items.template true true (part_text true true (part_raw p))) us in
      ap (built_on form.Template) (ap (or_on (I (wanted true t false ▸ (expression false ▸ (grammar.many (middle t) ▸ wanted false t true)))) ts) (part_kept true true p g us))
      ∙ ap (λ n. read (n ∷ []) us) (template_made (shapes.last_part p))
  template_read {t = t} (shapes.more_parts p e ps) depth F g us =
      let I = interp assigned (means assigned) in
      let behind = it no_gap (part_token false ps) (parts_tokens ps depth us) in
      ap (built_on form.Template)
      (ap (followed_on (I (expression false ▸ (grammar.many (middle t) ▸ wanted false t true)))) (part_kept true false p g (expression_tokens e depth no_gap behind))
      ∙ ap (with_front (bare_part p ∷ []))
      (ap (followed_on (I (grammar.many (middle t) ▸ wanted false t true))) (expression_read assigned F.0 no_gap behind (exactly (part_token false ps)) at_token (part_ends _ _) refl)
      ∙ ap (with_front (bare_expression e ∷ [])) (rest_read ps depth F.1 us)))
      ∙ ap (λ n. read (n ∷ []) us) (template_made (shapes.more_parts p e ps))

  -- by itself

  backtick_opens : (last : Bool) (w : List ℕ) → only_opens (exactly (items.template true last w)) ≡ true
  unfolding arrow arrow_rest labeled param rest_pattern default_value pattern_body array_pattern object_pattern names.binding_ident is_reserved reserved_words statements.statement_body names.block statements.if_ statements.for_await statements.for_ statements.while_ statements.do_while statements.switch statements.try_ statements.jump declarations.declaration functions.function_declaration classes.class_declaration modules.module_item modules.import modules.import_equals modules.export modules.export_default
  backtick_opens last w = refl

  begins_operand : (last : Bool) (w : List ℕ) → Opens (exactly (items.template true last w))
  unfolding prefixed
  begins_operand last w = record { no_spread = refl; no_yield = refl; no_private = refl; no_prefix = refl; no_increment = refl; no_decrement = refl }

  backtick_primary : (last : Bool) (w : List ℕ) → IsPrimary (exactly (items.template true last w))
  unfolding super_of_member super_of_link import_meta import_call construction
  backtick_primary last w = record { no_head = refl; no_new_head = refl }

  backtick_tower : (last : Bool) (w : List ℕ) (e : Front) → Tower (exactly (items.template true last w)) e (primaries.template false) primary
  unfolding primary function_expression class_expression
  backtick_tower last w e = later refl (later refl (later refl (later refl (later refl (later refl (later refl (later refl (later refl (later refl (later refl (sooner here)))))))))))

  pub template_form : {es ps : List Node} (is : AreParts false true es ps) (depth : ℕ) → PartForms is depth → NewForm assigned (λ g us. it g (part_token true is) (parts_tokens is depth us)) kind.Tpl (list_node (bare_substitutions is) ∷ list_node (bare_parts is) ∷ [])
  template_form is depth F =
      let t = part_token true is in
      let n = bare kind.Tpl (list_node (bare_substitutions is) ∷ list_node (bare_parts is) ∷ []) in
      let whole : (g : Gap) (us : Items) → Reads assigned primary (it g t (parts_tokens is depth us)) (n ∷ []) us = λ g us. primary_by assigned (exactly t) (primaries.template false) (it g t (parts_tokens is depth us)) us n (backtick_tower _ _) at_token (template_read is depth F g us) in
      record {
        form = form_by assigned t (backtick_opens _ _) (begins_operand _ _) (parts_tokens is depth) (n ∷ []) refl (λ g us e b z ys vs h. head_read assigned (exactly t) (it g t (parts_tokens is depth us)) us n (backtick_primary _ _) at_token (whole g us) ys vs h);
        no_point = refl;
        own = λ g us e b z ys vs h. new_head_read assigned (exactly t) (it g t (parts_tokens is depth us)) us n (backtick_primary _ _) at_token (whole g us) ys vs h;
      }

  -- behind a tag

  start_at : (last : Bool) (w : List ℕ) (us : Items) → Reads assigned (grammar.ahead template_start) (it no_gap (items.template true last w) us) [] (it no_gap (items.template true last w) us)
  unfolding template_start
  start_at true w us = refl
  start_at false w us = refl

  pub backtick_apart : (last : Bool) (w : List ℕ) → refuses_at (exactly (items.template true last w)) (arrow_rest false false) ≡ true
  unfolding arrow_rest names.binding_ident
  backtick_apart last w = refl

  module _ {es ps : List Node} (is : AreParts true true es ps) (depth : ℕ) (F : PartForms is depth) where
    abbrev said : Node
    said = bare kind.Tpl (list_node (bare_substitutions is) ∷ list_node (bare_parts is) ∷ [])

    abbrev item : Node
    item = bare kind.TaggedTpl (absent ∷ absent ∷ said ∷ [])

    abbrev tokens : Items → Items
    tokens us = it no_gap (part_token true is) (parts_tokens is depth us)

    body_read : (us : Items) (ys : List Node) (vs : Items) (g : Grammar) → Reads assigned g us ys vs → Reads assigned (chains.tagged_template ▸ g) (tokens us) (item ∷ ys) vs
    unfolding chains.tagged_template
    body_read us ys vs g h = rw (template_read is depth F no_gap us, h) refl

    pub tagged_read : (us : Items) (ys : List Node) (vs : Items) → Reads assigned links us ys vs → Reads assigned links (tokens us) (item ∷ ys) vs
    unfolding links chains.tagged_body
    tagged_read us ys vs h = rw (start_at (ends_here is) (part_text true (ends_here is) (first_raw is)) (parts_tokens is depth us), means_is assigned (part.Link link.Tagged) (tokens us), body_read us ys vs links h) refl

    new_tagged_read : (us : Items) (ys : List Node) (vs : Items) → Reads assigned new_links us ys vs → Reads assigned new_links (tokens us) (item ∷ ys) vs
    unfolding new_links chains.new_tagged_body
    new_tagged_read us ys vs h = rw (start_at (ends_here is) (part_text true (ends_here is) (first_raw is)) (parts_tokens is depth us), means_is assigned (part.NewLink link.Tagged) (tokens us), body_read us ys vs new_links h) refl

    abbrev pub tagged_form : {f : Laid} {k : Kind} {ns : List Node} → is_head k ≡ true → Form assigned f k ns → Form assigned (λ g us. f g (tokens us)) kind.TaggedTpl (bare k ns ∷ absent ∷ said ∷ [])
    tagged_form {k = k} {ns = ns} head T = link_form assigned T (part_token true is) refl (backtick_apart _ _) refl (parts_tokens is depth) item (tagged_made k head ns said) tagged_read

    pub new_tagged_form : {f : Laid} {k : Kind} {ns : List Node} → is_head k ≡ true → NewForm assigned f k ns → NewForm assigned (λ g us. f g (tokens us)) kind.TaggedTpl (bare k ns ∷ absent ∷ said ∷ [])
    new_tagged_form head N =
        let T = N.form in
        record {
          form = tagged_form head T;
          no_point = N.no_point;
          own = λ g us e b z ys vs h. rw (append_assoc T.pieces (item ∷ []) ys) (N.own g (tokens us) (exactly (part_token true is)) at_token refl (item ∷ ys) vs (new_tagged_read us ys vs h));
        }
