-- What begins with no word of a declaration begins none, and nothing that a statement does not begin with.
use Rattle.std.proofs.Common.{◌≡◌, bytes_eq, ℕ, Bool, true, false, codes, refl, sym, subst, ◌++◌}
use Rattle.std.proofs.lemmas.Bool.{false≢true}
use Rattle.std.proofs.lemmas.Slice.Eq.{bytes_eq-Decides}
use Rattle.ecma_lex.specs.Keys.{is_reserved, reserved_words}
use Rattle.ecma_kind.specs.declared.operators.UnaryOp.{UnaryOp}
use Rattle.ecma_kind.specs.declared.operators.UnaryOp.TheVariants.{Minus, Plus, Bang, Tilde, TypeOf, Void, Delete}
use Rattle.ecma_kind.specs.declared.operators.UpdateOp.{UpdateOp}
use Rattle.ecma_kind.specs.declared.operators.UpdateOp.TheVariants.{PlusPlus, MinusMinus}
use Rattle.ecma_kind.specs.declared.operators.AssignOp.{AssignOp}
use Rattle.ecma_kind.specs.declared.operators.AssignOp.TheVariants.{Assign}
use Rattle.ecma_kind.specs.declared.operators.BinaryOp.{BinaryOp}
use Rattle.ecma_kind.specs.declared.operators.BinaryOp.TheVariants.{In, InstanceOf}
use Rattle.ecma_tree.specs.declared.node.Node.{Node}
use Rattle.ecma_grammar.specs.Grammar.{word}
use Rattle.ecma_grammar.specs.productions.Functions.{function_declaration}
use Rattle.ecma_grammar.specs.productions.Classes.{class_declaration}
use Rattle.ecma_grammar.specs.productions.Declarations.{declaration}
use Rattle.ecma_print_tokens.specs.Items as items
use Rattle.ecma_print_tokens.specs.Items.{Tok, sign, Gap, no_gap, Items, it}
use Rattle.ecma_print_tokens.specs.Taking.{refused, word_in}
use Rattle.ecma_print_readings.proofs.Machine.{means}
use Rattle.ecma_shapes.specs.Starts.{is_declaration_word}
use Rattle.ecma_shapes.specs.Shapes as shapes
use Rattle.ecma_shapes.specs.Shapes.{IsIdent, ident, IsExpression}
use Rattle.ecma_shapes.specs.LiteralTexts.{regex_text}
use Rattle.ecma_shapes.proofs.Tokens.{own_sign, ident_word, chain_token, key_word, expression_tokens, arguments_tokens, more_tokens, slots_tokens, properties_tokens, part_token, parts_tokens, block_tokens}
use Rattle.ecma_shapes.proofs.Signs.{blank, sign_of, unary_token, update_token, binary_token, assign_token, unary_gap, star_of, point_of, question_of}
use Rattle.ecma_shapes.proofs.Starts.{start}
use Rattle.ecma_print_readings.proofs.Fronts.{Front, exactly, a_name, Begins, at_token, at_name, refuses_at, refused_at}
use Rattle.ecma_print_readings.proofs.Towers.{excluded, Undeclared}
use Rattle.ecma_print_readings.proofs.Forms.{Refuses, NoDeclaration}
use Rattle.ecma_print_readings.proofs.Async.{async_no_declaration, async_no_word}
use Rattle.ecma_print_reread_expressions.proofs.Calls.{plain_name}

name_undeclared : Undeclared a_name
unfolding declaration function_declaration class_declaration is_reserved reserved_words
name_undeclared = record { no_declaration = refl; no_word = refl }

unary_undeclared : (o : UnaryOp) → Undeclared (exactly (unary_token o))
unfolding declaration function_declaration class_declaration is_reserved reserved_words
unary_undeclared Minus = record { no_declaration = refl; no_word = refl }
unary_undeclared Plus = record { no_declaration = refl; no_word = refl }
unary_undeclared Bang = record { no_declaration = refl; no_word = refl }
unary_undeclared Tilde = record { no_declaration = refl; no_word = refl }
unary_undeclared TypeOf = record { no_declaration = refl; no_word = refl }
unary_undeclared Void = record { no_declaration = refl; no_word = refl }
unary_undeclared Delete = record { no_declaration = refl; no_word = refl }

update_undeclared : (o : UpdateOp) → Undeclared (exactly (update_token o))
unfolding declaration function_declaration class_declaration
update_undeclared PlusPlus = record { no_declaration = refl; no_word = refl }
update_undeclared MinusMinus = record { no_declaration = refl; no_word = refl }

-- no `function` stands behind an expression
abbrev NoFunction : Items → Type 0
NoFunction us = word_in (codes "function") us ≡ refused

update_behind : (o : UpdateOp) (us : Items) → NoFunction (it no_gap (update_token o) us)
update_behind PlusPlus us = refl
update_behind MinusMinus us = refl

binary_behind : (o : BinaryOp) (us : Items) → NoFunction (it blank (binary_token o) us)
binary_behind In us = refl
binary_behind InstanceOf us = refl
binary_behind o us = refl

assign_behind : (o : AssignOp) (us : Items) → NoFunction (it blank (assign_token o) us)
assign_behind Assign us = refl
assign_behind o us = refl

point_behind : (b : Bool) (us : Items) → NoFunction (sign_of (point_of b) us)
point_behind true us = refl
point_behind false us = refl

bracket_behind : (b : Bool) (us : Items) → NoFunction (question_of b (sign_of (codes "[") us))
bracket_behind true us = refl
bracket_behind false us = refl

opening_behind : (b : Bool) (us : Items) → NoFunction (question_of b (sign_of (codes "(") us))
opening_behind true us = refl
opening_behind false us = refl

module _ (assigned : Bool) where
  at_front : (e : Front) → Undeclared e → (ts : Items) → Begins e ts → NoDeclaration assigned ts
  at_front e u ts b = record { no_declaration = refused_at assigned (means assigned) declaration e ts b u.no_declaration; no_word = refused_at assigned (means assigned) excluded e ts b u.no_word }

  by_token : (t : Tok) → refuses_at (exactly t) declaration ≡ true → refuses_at (exactly t) excluded ≡ true → (g : Gap) (us : Items) → NoDeclaration assigned (it g t us)
  by_token t d w g us = at_front (exactly t) (record { no_declaration = d; no_word = w }) (it g t us) at_token

  async_undeclared : (g : Gap) (us : Items) → NoFunction us → NoDeclaration assigned (it g (items.key (codes "async")) us)
  async_undeclared g us h = let none : Refuses assigned (word (codes "function")) us = rw h refl in record { no_declaration = async_no_declaration assigned g us none; no_word = async_no_word assigned g us none }

  ident_undeclared : {n : Node} (i : IsIdent n) (g : Gap) (us : Items) → NoFunction us → NoDeclaration assigned (it g (items.key (ident_word i)) us)
  ident_undeclared (ident at w i) g us h = go (bytes_eq w (codes "async")) refl
    where
      go : (b : Bool) → bytes_eq w (codes "async") ≡ b → NoDeclaration assigned (it g (items.key w) us)
      go false e = at_front a_name name_undeclared (it g (items.key w) us) (at_name (plain_name assigned w i e))
      go true e = subst (λ x. NoDeclaration assigned (it g (items.key x) us)) (sym ((bytes_eq-Decides w (codes "async")).0 e)) (async_undeclared g us h)

  pub undeclared : {level : shapes.Level} {e : Node} (is : IsExpression level e) (depth : ℕ) → is_declaration_word (start is) ≡ false → (g : Gap) (us : Items) → NoFunction us → NoDeclaration assigned (expression_tokens is depth g us)
  unfolding declaration function_declaration class_declaration is_reserved reserved_words
  undeclared (shapes.looser e) depth z g us h = undeclared e depth z g us h
  undeclared (shapes.name i) depth z g us h = ident_undeclared i g us h
  undeclared (shapes.string at raw t) depth z g us h = by_token (items.string raw) refl refl g us
  undeclared (shapes.number at raw t) depth z g us h = by_token (items.number raw) refl refl g us
  undeclared (shapes.this_word at) depth z g us h = by_token (items.key (codes "this")) refl refl g us
  undeclared (shapes.big_int at raw t) depth z g us h = by_token (items.big_int raw) refl refl g us
  undeclared (shapes.regex at b f t) depth z g us h = by_token (items.regex (regex_text b f)) refl refl g us
  undeclared (shapes.template at a b ps) depth z g us h = by_token (part_token true ps) refl refl g (parts_tokens ps depth us)
  undeclared (shapes.null_word at) depth z g us h = by_token (items.key (codes "null")) refl refl g us
  undeclared (shapes.true_word at) depth z g us h = by_token (items.key (codes "true")) refl refl g us
  undeclared (shapes.false_word at) depth z g us h = by_token (items.key (codes "false")) refl refl g us
  undeclared (shapes.member at i o k) depth z g us h = undeclared o depth z g (sign_of (codes ".") (it no_gap (chain_token k) us)) refl
  undeclared (shapes.call at c es none) depth z g us h = undeclared c depth z g (sign_of (codes "(") (arguments_tokens es depth (sign_of (codes ")") us))) refl
  undeclared (shapes.parenthesized at e) depth z g us h = by_token (sign (codes "(")) refl refl g (expression_tokens e depth no_gap (sign_of (codes ")") us))
  undeclared (shapes.element at at' i o e) depth z g us h = undeclared o depth z g (sign_of (codes "[") (expression_tokens e depth no_gap (sign_of (codes "]") us))) refl
  undeclared (shapes.super_member at at' k) depth z g us h = by_token (items.key (codes "super")) refl refl g (sign_of (codes ".") (it no_gap (items.key (key_word k)) us))
  undeclared (shapes.super_element at at' at'' e) depth z g us h = by_token (items.key (codes "super")) refl refl g (sign_of (codes "[") (expression_tokens e depth no_gap (sign_of (codes "]") us)))
  undeclared (shapes.super_call at at' es none) depth z g us h = by_token (items.key (codes "super")) refl refl g (sign_of (codes "(") (arguments_tokens es depth (sign_of (codes ")") us)))
  undeclared (shapes.new_expression at i e es none) depth z g us h = by_token (items.key (codes "new")) refl refl g (expression_tokens e depth blank (sign_of (codes "(") (arguments_tokens es depth (sign_of (codes ")") us))))
  undeclared (shapes.new_alone at i e none none') depth z g us h = by_token (items.key (codes "new")) refl refl g (expression_tokens e depth blank us)
  undeclared (shapes.new_target at) depth z g us h = by_token (items.key (codes "new")) refl refl g (sign_of (codes ".") (it no_gap (items.key (codes "target")) us))
  undeclared (shapes.import_meta at) depth z g us h = by_token (items.key (codes "import")) refl refl g (sign_of (codes ".") (it no_gap (items.key (codes "meta")) us))
  undeclared (shapes.import_call at at' es none) depth z g us h = by_token (items.key (codes "import")) refl refl g (sign_of (codes "(") (arguments_tokens es depth (sign_of (codes ")") us)))
  undeclared (shapes.tagged_template at a b c i o none ps) depth z g us h = undeclared o depth z g (it no_gap (part_token true ps) (parts_tokens ps depth us)) refl
  undeclared (shapes.chain_member at a {asks = b} i o k) depth z g us h = let rest = it no_gap (chain_token k) us in undeclared o depth z g (sign_of (point_of b) rest) (point_behind b rest)
  undeclared (shapes.chain_element at a c {asks = b} i o e) depth z g us h =
      let rest = expression_tokens e depth no_gap (sign_of (codes "]") us) in undeclared o depth z g (question_of b (sign_of (codes "[") rest)) (bracket_behind b rest)
  undeclared (shapes.chain_call at a {asks = b} i o es none) depth z g us h =
      let rest = arguments_tokens es depth (sign_of (codes ")") us) in undeclared o depth z g (question_of b (sign_of (codes "(") rest)) (opening_behind b rest)
  undeclared (shapes.prefix_update at o e) depth z g us h = at_front (exactly (update_token o)) (update_undeclared o) (it g (update_token o) (expression_tokens e depth no_gap us)) at_token
  undeclared (shapes.postfix_update at o e) depth z g us h = undeclared e depth z g (it no_gap (update_token o) us) (update_behind o us)
  undeclared (shapes.await_expression at e) depth z g us h = by_token (items.key (codes "await")) refl refl g (expression_tokens e depth blank us)
  undeclared (shapes.unary_expression at o e) depth z g us h = at_front (exactly (unary_token o)) (unary_undeclared o) (it g (unary_token o) (expression_tokens e depth (unary_gap o (own_sign e)) us)) at_token
  undeclared (shapes.binary_expression at {operator = o} i l r) depth z g us h = let rest = expression_tokens r depth blank us in undeclared l depth z g (it blank (binary_token o) rest) (binary_behind o rest)
  undeclared (shapes.private_in at at' w t r) depth z g us h = by_token (items.private_name (codes "#" ++ w)) refl refl g (it blank (items.key (codes "in")) (expression_tokens r depth blank us))
  undeclared (shapes.exponentiation at l r) depth z g us h = undeclared l depth z g (it blank (sign (codes "**")) (expression_tokens r depth blank us)) refl
  undeclared (shapes.both at l r) depth z g us h = undeclared l depth z g (it blank (sign (codes "&&")) (expression_tokens r depth blank us)) refl
  undeclared (shapes.either at l r) depth z g us h = undeclared l depth z g (it blank (sign (codes "||")) (expression_tokens r depth blank us)) refl
  undeclared (shapes.coalesced at i l r) depth z g us h = undeclared l depth z g (it blank (sign (codes "??")) (expression_tokens r depth blank us)) refl
  undeclared (shapes.yield_nothing at none) depth z g us h = by_token (items.key (codes "yield")) refl refl g us
  undeclared (shapes.yield_value at d e) depth z g us h = by_token (items.key (codes "yield")) refl refl g (star_of d (expression_tokens e depth blank us))
  undeclared (shapes.assignment_expression at o t v) depth z g us h = let rest = expression_tokens v depth blank us in undeclared t depth z g (it blank (assign_token o) rest) (assign_behind o rest)
  undeclared (shapes.conditional_expression at t x y) depth z g us h = undeclared t depth z g (it blank (sign (codes "?")) (expression_tokens x depth blank (it blank (sign (codes ":")) (expression_tokens y depth blank us)))) refl
  undeclared (shapes.arrow_function at true ps e q a b) depth z g us h = async_undeclared g (it blank (sign (codes "(")) (arguments_tokens ps depth (sign_of (codes ")") (it blank (sign (codes "=>")) (expression_tokens e depth blank us))))) refl
  undeclared (shapes.arrow_function at false ps e q a b) depth z g us h = by_token (sign (codes "(")) refl refl g (arguments_tokens ps depth (sign_of (codes ")") (it blank (sign (codes "=>")) (expression_tokens e depth blank us))))
  undeclared (shapes.arrow_block at true ps b n n') depth z g us h = async_undeclared g (it blank (sign (codes "(")) (arguments_tokens ps depth (sign_of (codes ")") (it blank (sign (codes "=>")) (block_tokens b depth blank us))))) refl
  undeclared (shapes.arrow_block at false ps b n n') depth z g us h = by_token (sign (codes "(")) refl refl g (arguments_tokens ps depth (sign_of (codes ")") (it blank (sign (codes "=>")) (block_tokens b depth blank us))))
  undeclared (shapes.array at at' es) depth z g us h = by_token (sign (codes "[")) refl refl g (slots_tokens es depth us)
  undeclared (shapes.object_literal at at' ps) depth z g us h = by_token (sign (codes "{")) refl refl g (properties_tokens ps depth us)
  undeclared (shapes.function_expression at i f) depth z g us h = absurd (false≢true (sym z))
  undeclared (shapes.class_expression at i c) depth z g us h = absurd (false≢true (sym z))
  undeclared (shapes.sequence_expression at x y es) depth z g us h = undeclared x depth z g (sign_of (codes ",") (expression_tokens y depth blank (more_tokens es depth us))) refl
