-- Arguments, and forms that hold them.
use Rattle.std.proofs.Common.{◌≡◌, bytes_eq, ℕ, Bool, true, false, List, [], ◌∷◌, codes, refl, ap, sym, subst, ◌∙◌, append-nil, Some}
use Rattle.std.proofs.lemmas.Bool.{false≢true}
use Rattle.std.proofs.lemmas.Slice.Eq.{bytes_eq-Decides}
use Rattle.ecma_number.specs.Numeral.{numeral_of}
use Rattle.ecma_lex.specs.Keys.{is_reserved}
use Rattle.ecma_kind.specs.declared.kind.Kind.{Kind}
use Rattle.ecma_kind.specs.declared.kind.Kind.TheVariants as kind
use Rattle.ecma_tree.specs.declared.node.Node.{Node}
use Rattle.ecma_tree.specs.Nodes.{absent, list_node}
use Rattle.ecma_grammar.specs.declared.production.Part.TheVariants as part
use Rattle.ecma_grammar.specs.declared.production.Link.TheVariants as link
use Rattle.ecma_grammar.specs.Grammar.{◌▸◌, punct}
use Rattle.ecma_grammar.specs.productions.Names as names
use Rattle.ecma_grammar.specs.productions.Types.{params, param, rest_pattern, default_value}
use Rattle.ecma_grammar.specs.productions.Patterns.{pattern_body, array_pattern, object_pattern}
use Rattle.ecma_grammar.specs.productions.Functions as functions
use Rattle.ecma_grammar.specs.productions.Functions.{arrow_rest, arrow_body}
use Rattle.ecma_grammar.specs.productions.Expressions as expressions
use Rattle.ecma_grammar.specs.productions.Operators as operators
use Rattle.ecma_grammar.specs.productions.Primary as primaries
use Rattle.ecma_grammar.specs.productions.Primary.{element, spread}
use Rattle.ecma_grammar.specs.productions.Chains as chains
use Rattle.ecma_grammar.specs.productions.Chains.{arguments, links}
use Rattle.ecma_print_tokens.specs.Items as items
use Rattle.ecma_print_tokens.specs.Items.{Tok, sign, no_gap, Items, it}
use Rattle.ecma_print_readings.proofs.Machine.{with_front}
use Rattle.ecma_shapes.specs.Shapes as shapes
use Rattle.ecma_shapes.specs.Shapes.{Level, IsPlainName, IsIdent, ident, key, IsArguments, AreElements, IsMemberLevel, IsIndexed, IsConstructor, AreParts, IsChainLink}
use Rattle.ecma_shapes.proofs.Tokens.{ident_word, element_tokens, arguments_tokens, elements_tokens, part_token, parts_tokens}
use Rattle.ecma_shapes.proofs.Signs.{blank, point_of, question_of}
use Rattle.ecma_shapes.proofs.Bare.{bare, bare_element, bare_arguments, bare_elements, bare_substitutions, bare_parts}
use Rattle.ecma_print_readings.proofs.Levels.{means_is}
use Rattle.ecma_print_readings.proofs.Fronts.{Front, exactly, Begins, at_token, IsName, is_known, refuses_at, refuses_all, all_refused}
use Rattle.ecma_print_readings.proofs.Heads.{call_made, is_head, chain_call_made}
use Rattle.ecma_print_readings.proofs.Forms.{Laid, s, behind_params, Reads, Refuses, begins_no_target, Form, NewForm, link_behind}
use Rattle.ecma_print_readings.proofs.Bindings.{Stands, from_form, from_new, from_chain}
use Rattle.ecma_print_readings.proofs.Members.{IsLinkKey, member_form, new_member_form}
use Rattle.ecma_print_readings.proofs.Elements.{element_form, new_element_form}
use Rattle.ecma_print_readings.proofs.Repeats.{Repeats, repeats_end, repeats_more, repeated}
use Rattle.ecma_print_readings.proofs.Expressions.{Single, single_new, number_single, name_new}
use Rattle.ecma_print_readings.proofs.Params.{Params, params_end, params_more, params_by, parameters_refused, no_body_behind}
use Rattle.ecma_print_readings.proofs.Async.{async_new}
use Rattle.ecma_print_readings.proofs.Spreads.{element_read, element_param}
use Rattle.ecma_print_reread_expressions.proofs.Templates.{PartForms, tagged_form, new_tagged_form}
use Rattle.ecma_print_readings.proofs.Arrows.{ElementForms, ArgumentForms, more_followed}
use Rattle.ecma_print_reread_expressions.proofs.OptionalChains.{asked_member_form, asked_element_form, asked_call_form, going_member_form, going_element_form}

-- no argument begins with `)`
no_argument : refuses_all (exactly (sign (codes ")"))) element ≡ true
unfolding element spread functions.arrow functions.arrow_rest names.binding_ident expressions.conditional operators.short_circuit operators.bit_or operators.bit_xor operators.bit_and operators.equality operators.relation operators.shift operators.exponentiation operators.prefixed operators.update chains.chain chains.super_of_link chains.import_meta chains.import_call chains.construction primaries.primary functions.function_expression primaries.class_expression primaries.template primaries.array primaries.object primaries.parenthesized
no_argument = refl

-- and no parameter
no_param_there : refuses_all (exactly (sign (codes ")"))) param ≡ true
unfolding param rest_pattern default_value pattern_body array_pattern object_pattern names.binding_ident
no_param_there = refl

module _ (assigned : Bool) where
  pub more_read : {es : List Node} (is : AreElements shapes.values es) (depth : ℕ) → ElementForms assigned is depth → (us : Items) → Repeats assigned (punct (codes ",") ▸ element) (elements_tokens is depth (s (codes ")") us)) (bare_elements is) (s (codes ")") us)
  unfolding element spread
  more_read shapes.no_elements depth F us = repeats_end assigned (punct (codes ",") ▸ element) (s (codes ")") us) refl
  more_read (shapes.more_elements e es) depth F us =
      repeats_more assigned (punct (codes ",") ▸ element) refl _ (elements_tokens es depth (s (codes ")") us)) (s (codes ")") us) (bare_element e ∷ []) (bare_elements es)
      (ap (with_front []) (element_read assigned e depth F.0 blank (elements_tokens es depth (s (codes ")") us)) (more_followed es depth us))) (more_read es depth F.1 us)

  pub arguments_read : {n : Node} (is : IsArguments shapes.values n) (depth : ℕ) → ArgumentForms assigned is depth → (us : Items) → Reads assigned arguments (s (codes "(") (arguments_tokens is depth (s (codes ")") us))) (list_node (bare_arguments is) ∷ []) us
  unfolding arguments
  arguments_read (shapes.no_arguments at) depth F us = rw (all_refused assigned element (exactly (sign (codes ")"))) (s (codes ")") us) at_token no_argument) refl
  arguments_read (shapes.arguments at e es) depth F us =
      rw (element_read assigned e depth F.0 no_gap (elements_tokens es depth (s (codes ")") us)) (more_followed es depth us), repeated assigned (punct (codes ",") ▸ element) (elements_tokens es depth (s (codes ")") us)) (s (codes ")") us) (bare_elements es) (more_read es depth F.1 us), append-nil (bare_elements es)) refl

  pub call_read : {n : Node} (is : IsArguments shapes.values n) (depth : ℕ) → ArgumentForms assigned is depth → (us : Items) (ys : List Node) (vs : Items) → Reads assigned links us ys vs
      → Reads assigned links (s (codes "(") (arguments_tokens is depth (s (codes ")") us))) (bare kind.CallExpr (absent ∷ list_node (bare_arguments is) ∷ absent ∷ []) ∷ ys) vs
  unfolding links chains.template_start chains.call_body
  call_read is depth F us ys vs h = rw (means_is assigned (part.Link link.Call) (s (codes "(") (arguments_tokens is depth (s (codes ")") us))), arguments_read is depth F us, h) refl

  -- the arguments are no parameters of an arrow function where no body of one follows

  pub more_params : {es : List Node} (is : AreElements shapes.values es) (depth : ℕ) → ElementForms assigned is depth → (no_in : Bool) (us : Items) → Refuses assigned (behind_params no_in) (s (codes ")") us) → Params assigned no_in (elements_tokens is depth (s (codes ")") us))
  more_params shapes.no_elements depth F n us h = params_end assigned n (s (codes ")") us) (exactly (sign (codes ")"))) at_token refl h
  more_params (shapes.more_elements e es) depth F n us h =
      let vs = elements_tokens es depth (s (codes ")") us) in
      params_more assigned n (element_tokens e depth blank vs) vs (element_param assigned e depth F.0 blank vs (more_followed es depth us)) (more_params es depth F.1 n us h)

  pub no_params : {n : Node} (is : IsArguments shapes.values n) (depth : ℕ) → ArgumentForms assigned is depth → (no_in : Bool) (us : Items) → Refuses assigned (behind_params no_in) (s (codes ")") us) → Refuses assigned (params ▸ behind_params no_in) (arguments_tokens is depth (s (codes ")") us))
  unfolding params
  no_params (shapes.no_arguments at) depth F n us h = rw (all_refused assigned param (exactly (sign (codes ")"))) (s (codes ")") us) at_token no_param_there, h) refl
  no_params (shapes.arguments at e es) depth F n us h =
      let vs = elements_tokens es depth (s (codes ")") us) in
      params_by assigned n (element_tokens e depth no_gap vs) vs (element_param assigned e depth F.0 no_gap vs (more_followed es depth us)) (more_params es depth F.1 n us h)

  pub call_no_rest : {n : Node} (is : IsArguments shapes.values n) (depth : ℕ) → ArgumentForms assigned is depth → (no_in : Bool) (us : Items) (e : Front) → Begins e us → refuses_at e (arrow_body no_in false) ≡ true
      → Refuses assigned (arrow_rest no_in false) (s (codes "(") (arguments_tokens is depth (s (codes ")") us)))
  call_no_rest is depth A n us e b z = parameters_refused assigned n no_gap (arguments_tokens is depth (s (codes ")") us)) (no_params is depth A n us (no_body_behind assigned n us e b z))

  pub call_form : {f : Laid} {k : Kind} {ns : List Node} → is_head k ≡ true → Form assigned f k ns → {n : Node} (is : IsArguments shapes.values n) (depth : ℕ) → ArgumentForms assigned is depth
      → Form assigned (λ g us. f g (s (codes "(") (arguments_tokens is depth (s (codes ")") us)))) kind.CallExpr (bare k ns ∷ list_node (bare_arguments is) ∷ absent ∷ [])
  call_form {k = k} {ns = ns} head F is depth A =
      link_behind assigned F (sign (codes "(")) refl refl (λ us. arguments_tokens is depth (s (codes ")") us)) (call_no_rest is depth A) (bare kind.CallExpr (absent ∷ list_node (bare_arguments is) ∷ absent ∷ [])) (call_made k head ns (list_node (bare_arguments is))) (call_read is depth A)

  -- an expression of each shape

  -- a name but `async` is none of the words that the grammar knows
  pub plain_name : (w : List ℕ) → IsPlainName w → bytes_eq w (codes "async") ≡ false → IsName w
  plain_name w i other = record { free = i.free; apart = λ known h. go known h (bytes_eq w known) refl }
    where
      go : (known : List ℕ) → is_known known ≡ true → (b : Bool) → bytes_eq w known ≡ b → b ≡ false
      go known h false e = refl
      go known h true e =
          let same : w ≡ known = (bytes_eq-Decides w known).0 e in
          let yes' : is_known w ≡ true = rw same h in
          let no' : is_known w ≡ false = rw (i.free, other) refl in
          absurd (false≢true (sym no' ∙ yes'))

  pub ident_free : {n : Node} (i : IsIdent n) → is_reserved (ident_word i) ≡ false
  ident_free (ident at w i) = i.free

  abbrev pub NameForm : List ℕ → Type 0
  NameForm w = NewForm assigned (λ g us. it g (items.key w) us) (kind.Ident w 0 false) []

  pub ident_form : {n : Node} (i : IsIdent n) → NameForm (ident_word i)
  ident_form (ident at w i) = go (bytes_eq w (codes "async")) refl
    where
      go : (b : Bool) → bytes_eq w (codes "async") ≡ b → NameForm w
      go false e = name_new assigned w (plain_name w i e)
      go true e = subst NameForm (sym ((bytes_eq-Decides w (codes "async")).0 e)) (async_new assigned)

  -- members of the callee of `new`, and others
  pub member_stands : {l : Level} → IsMemberLevel l → {f : Laid} {k : Kind} {ns : List Node} → Stands assigned l f k ns → {t : Tok} {q : Kind} → IsLinkKey t q → Stands assigned l (λ g us. f g (s (codes ".") (it no_gap t us))) kind.MemberExpr (bare k ns ∷ bare q [] ∷ [])
  member_stands shapes.member_of_new S K = from_new assigned refl (new_member_form assigned S.no_or S.reading K)
  member_stands shapes.member_of_object S K = from_form assigned refl (member_form assigned S.no_or S.reading K)

  pub element_stands : {h l : Level} → IsIndexed h l → {f f' : Laid} {k k' : Kind} {ns ns' : List Node} → Stands assigned h f k ns → Stands assigned shapes.sequence f' k' ns'
      → Stands assigned l (λ g us. f g (s (codes "[") (f' no_gap (s (codes "]") us)))) kind.MemberExpr (bare k ns ∷ bare kind.ComputedPropName (bare k' ns' ∷ []) ∷ [])
  element_stands shapes.index_of_new S E = from_new assigned refl (new_element_form assigned E S.no_or S.reading)
  element_stands shapes.index_of_numeral S E = from_new assigned refl (new_element_form assigned E S.no_or S.reading)
  element_stands shapes.index_of_callee S E = from_form assigned refl (element_form assigned E S.no_or S.reading)

  pub tagged_stands : {h l : Level} → IsIndexed h l → {f : Laid} {k : Kind} {ns : List Node} → Stands assigned h f k ns → {es ps : List Node} (is : AreParts true true es ps) (depth : ℕ) → PartForms assigned is depth
      → Stands assigned l (λ g us. f g (it no_gap (part_token true is) (parts_tokens is depth us))) kind.TaggedTpl (bare k ns ∷ absent ∷ bare kind.Tpl (list_node (bare_substitutions is) ∷ list_node (bare_parts is) ∷ []) ∷ [])
  tagged_stands shapes.index_of_new S is depth P = from_new assigned refl (new_tagged_form assigned is depth P S.no_or S.reading)
  tagged_stands shapes.index_of_numeral S is depth P = from_new assigned refl (new_tagged_form assigned is depth P S.no_or S.reading)
  tagged_stands shapes.index_of_callee S is depth P = from_form assigned refl (tagged_form assigned is depth P S.no_or S.reading)

  pub constructed_form : {l : Level} → IsConstructor l → {f : Laid} {k : Kind} {ns : List Node} → Stands assigned l f k ns → NewForm assigned f k ns
  constructed_form shapes.constructor_callee S = S.reading
  constructed_form shapes.constructor_numeral S = S.reading

  -- links of optional chains

  pub chain_member_stands : {h : Level} {b : Bool} → IsChainLink h b → {f : Laid} {k : Kind} {ns : List Node} → Stands assigned h f k ns → {t : Tok} {q : Kind} → IsLinkKey t q
      → Stands assigned shapes.chain (λ g us. f g (s (point_of b) (it no_gap t us))) (kind.OptChainExpr b) (bare kind.MemberExpr (bare k ns ∷ bare q [] ∷ []) ∷ [])
  chain_member_stands shapes.opens_chain S K = from_chain assigned refl (asked_member_form assigned S.reading K)
  chain_member_stands shapes.asks_on S K = from_chain assigned refl (asked_member_form assigned S.reading K)
  chain_member_stands shapes.goes_on S K = from_chain assigned refl (going_member_form assigned S.reading S.no_or K)

  pub chain_element_stands : {h : Level} {b : Bool} → IsChainLink h b → {f f' : Laid} {k k' : Kind} {ns ns' : List Node} → Stands assigned h f k ns → Stands assigned shapes.sequence f' k' ns'
      → Stands assigned shapes.chain (λ g us. f g (question_of b (s (codes "[") (f' no_gap (s (codes "]") us))))) (kind.OptChainExpr b) (bare kind.MemberExpr (bare k ns ∷ bare kind.ComputedPropName (bare k' ns' ∷ []) ∷ []) ∷ [])
  chain_element_stands shapes.opens_chain S E = from_chain assigned refl (asked_element_form assigned S.reading E)
  chain_element_stands shapes.asks_on S E = from_chain assigned refl (asked_element_form assigned S.reading E)
  chain_element_stands shapes.goes_on S E = from_chain assigned refl (going_element_form assigned S.reading S.no_or E)

  pub chain_call_stands : {h : Level} {b : Bool} → IsChainLink h b → {f : Laid} {k : Kind} {ns : List Node} → Stands assigned h f k ns → {n : Node} (is : IsArguments shapes.values n) (depth : ℕ) → ArgumentForms assigned is depth
      → Stands assigned shapes.chain (λ g us. f g (question_of b (s (codes "(") (arguments_tokens is depth (s (codes ")") us))))) (kind.OptChainExpr b) (bare kind.OptCall (bare k ns ∷ list_node (bare_arguments is) ∷ absent ∷ []) ∷ [])
  chain_call_stands shapes.opens_chain S is depth A = from_chain assigned refl (asked_call_form assigned S.reading (λ us. arguments_tokens is depth (s (codes ")") us)) (list_node (bare_arguments is)) (arguments_read is depth A))
  chain_call_stands shapes.asks_on S is depth A = from_chain assigned refl (asked_call_form assigned S.reading (λ us. arguments_tokens is depth (s (codes ")") us)) (list_node (bare_arguments is)) (arguments_read is depth A))
  chain_call_stands shapes.goes_on {k = k} {ns = ns} S is depth A =
      from_chain assigned refl
      (link_behind assigned S.reading (sign (codes "(")) refl refl (λ us. arguments_tokens is depth (s (codes ")") us)) (call_no_rest is depth A) (bare kind.CallExpr (absent ∷ list_node (bare_arguments is) ∷ absent ∷ [])) (chain_call_made k S.no_or ns (list_node (bare_arguments is))) (call_read is depth A))

  pub call_stands : {f : Laid} {k : Kind} {ns : List Node} → Stands assigned shapes.callee f k ns → {n : Node} (is : IsArguments shapes.values n) (depth : ℕ) → ArgumentForms assigned is depth
      → Stands assigned shapes.object (λ g us. f g (s (codes "(") (arguments_tokens is depth (s (codes ")") us)))) kind.CallExpr (bare k ns ∷ list_node (bare_arguments is) ∷ absent ∷ [])
  call_stands S is depth A = from_form assigned refl (call_form S.no_or S.reading is depth A)

  pub ident_stands : {n : Node} (i : IsIdent n) → Stands assigned shapes.new_callee (λ g us. it g (items.key (ident_word i)) us) (kind.Ident (ident_word i) 0 false) []
  ident_stands i = from_new assigned refl (ident_form i)

  pub single_stands : (t : Tok) (k : Kind) → is_head k ≡ true → Single t k → begins_no_target (exactly t) ≡ true → Stands assigned shapes.new_callee (λ g us. it g t us) k []
  single_stands t k h S p = from_new assigned h (single_new assigned t k S p)

  pub numeral_stands : (raw : List ℕ) → Stands assigned shapes.numeral (λ g us. it g (items.number raw) us) (kind.Number (numeral_of raw) (Some raw)) []
  numeral_stands raw = let S = single_stands (items.number raw) _ refl (number_single raw) refl in record { lead = S.lead; tight = S.tight; no_or = S.no_or; no_arrow = S.no_arrow; param = S.param; reading = S.reading }
