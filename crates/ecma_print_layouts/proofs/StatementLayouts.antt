-- The layout of a statement is the text of its tokens.
use Rattle.ecma_kind.specs.declared.operators.BinaryOp.TheVariants as op
use Rattle.ecma_kind.specs.declared.kind.Kind.TheVariants as kind
use Rattle.ecma_print_tokens.specs.Items as items
use Rattle.ecma_shapes.specs.Shapes as shapes
use Rattle.std.proofs.Common.{◌≡◌, ℕ, suc, Bool, true, false, List, [], ◌∷◌, ◌++◌, map, codes, refl, ap, sym, ◌∙◌, None, arith, append_assoc}
use Rattle.ecma_kind.specs.declared.operators.MethodKind.TheVariants.{Method}
use Rattle.ecma_tree.specs.declared.node.Node.{Node}
use Rattle.ecma_tree.specs.Nodes.{node_of}
use Rattle.ecma_print.specs.declared.place.Begins.TheVariants.{StatementStart, Anywhere, ArrowBodyStart}
use Rattle.ecma_print.specs.declared.place.Beside.TheVariants.{NoNeighbor, UnderLogical, UnderNullish, BeforeDot, BeforeLink, InChain}
use Rattle.ecma_print.specs.declared.place.Between.TheVariants.{Blank, Finally, Parentheses, Equals, Extends}
use Rattle.ecma_print.specs.declared.place.Spot.{Spot}
use Rattle.ecma_print.specs.declared.place.Place.TheVariants.{At, Within, Deeper, Block, Commas, Arguments, MethodHead, Braces, Brackets}
use Rattle.ecma_print.specs.Places.{free, beginning, right, left, gap, opens_a_block, is_headed}
use Rattle.ecma_print.specs.Laid.{Laid, is_absent, is_block}
use Rattle.ecma_print.specs.Lists.{new_lines, more_commas, ends_in_hole, hole_comma, brackets, braces}
use Rattle.ecma_print.specs.Statements.{else_behind, behind_body, case_word, keyword, head, for_word}
use Rattle.ecma_print.specs.Functions.{function_head, method_head, static_word, accessor_word}
use Rattle.ecma_print.specs.Layout.{laid, by_itself, key_mark}
use Rattle.ecma_print_tokens.specs.Items.{sign, Gap, no_gap, Items, it, render, token_text}
use Rattle.ecma_shapes.specs.Shapes.{Level, IsExpression, IsDeclarator, AreDeclarators, Ending, IsStatement, IsBlock, IsCase, AreCases, IsCatch, AreStatements, IsOptional, IsForLeft, IsInitializer, IsForInit, IsPattern, IsFunction, IsHeritage, IsClass, IsMember, AreMembers, IsMemberName, is_private, ident, IsElement, IsArguments, AreElements, AreExpressions, AreSlots, IsProperty, IsPropertyName, AreProperties, Role, IsDefaulted, AreParts}
use Rattle.ecma_shapes.specs.LiteralTexts.{part_opening}
use Rattle.ecma_shapes.specs.MemberKinds.{accessor_kind}
use Rattle.ecma_shapes.proofs.Tokens.{expression_tokens, declarator_tokens, declarators_tokens, is_braced, test_tokens, statement_tokens, block_tokens, case_tokens, cases_tokens, catch_tokens, lined_tokens, optional_tokens, for_left_tokens, initializer_tokens, for_init_tokens, arguments_tokens, is_generator, is_async, function_tokens, ident_word, heritage_tokens, class_tokens, member_tokens, members_tokens, member_name_tokens, own_sign, element_tokens, elements_tokens, more_tokens, slots_tokens, more_slots_tokens, chain_token, property_tokens, property_name_tokens, properties_tokens, more_properties_tokens, defaulted_tokens, pattern_tokens, part_token, parts_tokens, function_name_tokens}
use Rattle.ecma_shapes.proofs.Signs.{margin, line_at, blank, sign_of, closing_gap, branch_gap, method_tokens, accessor_text, assign_token, update_token, unary_token, binary_token, unary_gap, point_of, question_of}
use Rattle.ecma_print_layouts.proofs.Layouts.{laid_node, at_node, no_sign, word_gap, update_text, no_gap_before, and_false, assign_text, arguments_there, within_laid, gap_out, pattern_gap_out, defaulted_gap_out, element_gap_out, property_gap_out, slots_gap_out, element_there, value_laid, binding_laid, part_split, link_beside, link_asks, question_text, dot_text, key_named, key_laid, no_pattern}
use Rattle.ecma_print_layouts.proofs.Spots.{calm_start, calm_0, calm_1, quiet, before_dot, number_of, Calm, tightly, calmer, same_low, under_logical, under_nullish, before_link, index_calm, member_low, index_low, further, update_calm, unary_calm, operator_calls, printed, head_calm, callee_calm, chain_calm}
use Rattle.ecma_print_layouts.proofs.HeadLayouts.{head_laid}
use Rattle.ecma_shapes.specs.Starts.{is_brace}
use Rattle.ecma_shapes.proofs.Starts.{start, starts_agree, misread, brace_stands, word_stands, statement_start, body_start}
use Rattle.ecma_kind.specs.declared.operators.MetaPropKind.TheVariants.{NewTarget, ImportMeta}
use Rattle.ecma_print.specs.Operators.{assign_word, unary_word, unary_sign, update_sign, binary_word}
use Rattle.ecma_print.specs.Expressions.{more_of_sequence, callee_spot, template_parts, link_of, question_dot}
use Rattle.ecma_lex.specs.Templates.{template_value}
use Rattle.ecma_print_layouts.proofs.LayoutParts.{argument_laid, keyword_laid, head_spot, head_commas, for_laid, for_gap, in_braces, within_there, no_absent, pattern_seen, block_seen, statement_seen, params_laid, function_head_laid, method_head_laid, name_gap_out, method_text, accessor_written, static_text, method_node, field_node, blank_name_laid, function_word_text, block_again, block_behind_arrow, function_body_laid, body_laid, else_laid, finally_laid, branch_text, test_laid, function_name_laid}

mutual
  unfolding render

  pub expression_laid : {level : Level} {e : Node} (is : IsExpression level e) (spot : Spot) → Calm level spot → misread spot.begins (start is) ≡ false → (depth : ℕ) (us : Items) → (laid e).at (At spot) (margin depth) (render us) ≡ gap spot.beside (own_sign is) ++ render (expression_tokens is depth no_gap us)
  expression_laid (shapes.looser e) spot c q depth us = expression_laid e spot (calmer c) q depth us
  expression_laid (shapes.name (ident at w i)) spot c q depth us = at_node at (kind.Ident w 0 false) [] (At spot) (margin depth) (render us) ∙ rw (c.low, no_sign spot.beside) refl
  expression_laid (shapes.string at raw t) spot c q depth us = at_node at _ [] (At spot) (margin depth) (render us) ∙ rw (c.low, no_sign spot.beside) refl
  expression_laid (shapes.number at raw t) spot c q depth us = at_node at _ [] (At spot) (margin depth) (render us) ∙ rw (c.low, c.no_dot refl, no_sign spot.beside) refl
  expression_laid (shapes.this_word at) spot c q depth us = at_node at _ [] (At spot) (margin depth) (render us) ∙ rw (c.low, no_sign spot.beside) refl
  expression_laid (shapes.big_int at raw t) spot c q depth us = at_node at _ [] (At spot) (margin depth) (render us) ∙ rw (c.low, no_sign spot.beside) refl
  expression_laid (shapes.regex at b f t) spot c q depth us = at_node at (kind.Regex b f) [] (At spot) (margin depth) (render us) ∙ rw (c.low, no_sign spot.beside) (ap (λ z. codes "/" ++ z) (sym (append_assoc b (codes "/" ++ f) (render us))))
  expression_laid (shapes.template at a b {expressions = es} {parts = qs} ps) spot c q depth us = at_node at kind.Tpl (node_of a kind.List es ∷ node_of b kind.List qs ∷ []) (At spot) (margin depth) (render us) ∙ rw (c.low, laid_node a kind.List es, laid_node b kind.List qs, no_sign spot.beside) (parts_laid ps depth us)
  expression_laid (shapes.null_word at) spot c q depth us = at_node at _ [] (At spot) (margin depth) (render us) ∙ rw (c.low, no_sign spot.beside) refl
  expression_laid (shapes.true_word at) spot c q depth us = at_node at _ [] (At spot) (margin depth) (render us) ∙ rw (c.low, no_sign spot.beside) refl
  expression_laid (shapes.false_word at) spot c q depth us = at_node at _ [] (At spot) (margin depth) (render us) ∙ rw (c.low, no_sign spot.beside) refl
  expression_laid (shapes.member at {holder = o'} i o (shapes.plain_key (shapes.key at' w t))) spot c q depth us =
      at_node at kind.MemberExpr (o' ∷ node_of at' (kind.IdentName w) [] ∷ []) (At spot) (margin depth) (render us)
      ∙ rw (member_low i spot.level c.low, laid_node at' (kind.IdentName w) [], c.outside false, c.own, no_sign spot.beside)
      (expression_laid o (left spot 16 BeforeDot) (before_dot i spot c.with_in c.no_new) q depth (sign_of (codes ".") (it no_gap (items.key w) us)))
  expression_laid (shapes.member at {holder = o'} i o (shapes.private_key at' w t)) spot c q depth us =
      at_node at kind.MemberExpr (o' ∷ node_of at' (kind.PrivateName w) [] ∷ []) (At spot) (margin depth) (render us)
      ∙ rw (member_low i spot.level c.low, laid_node at' (kind.PrivateName w) [], c.outside false, c.own, no_sign spot.beside)
      (expression_laid o (left spot 16 BeforeDot) (before_dot i spot c.with_in c.no_new) q depth (sign_of (codes ".") (it no_gap (items.private_name (codes "#" ++ w)) us)))
  expression_laid (shapes.call at {function = c'} {args = a'} {none = n'} e es none) spot c q depth us =
      at_node at kind.CallExpr (c' ∷ a' ∷ n' ∷ []) (At spot) (margin depth) (render us)
      ∙ rw (c.low, c.no_new refl, no_sign spot.beside)
      (ap (λ z. (laid c').at (At (record { level = 16; begins = spot.begins; without_in = spot.without_in; in_callee_of_new = false; beside = BeforeLink })) (margin depth) z) (arguments_laid es depth us)
      ∙ expression_laid e (record { level = 16; begins = spot.begins; without_in = spot.without_in; in_callee_of_new = false; beside = BeforeLink }) (before_link refl c.with_in (λ z. refl) refl refl refl) q depth (sign_of (codes "(") (arguments_tokens es depth (sign_of (codes ")") us))))
  expression_laid (shapes.parenthesized at {level = l} {e = e'} e) spot c q depth us =
      at_node at kind.ParenExpr (e' ∷ []) (At spot) (margin depth) (render us)
      ∙ rw (c.low, no_sign spot.beside) (ap (λ z. codes "(" ++ z) (expression_laid e (free 0) (calm_0 l) refl depth (sign_of (codes ")") us)))
  expression_laid (shapes.element at at' {level = l} {holder = o'} {e = e'} i o e) spot c q depth us =
      at_node at kind.MemberExpr (o' ∷ node_of at' kind.ComputedPropName (e' ∷ []) ∷ []) (At spot) (margin depth) (render us)
      ∙ rw (index_low i spot.level c.low, laid_node at' kind.ComputedPropName (e' ∷ []), c.outside true, c.own, no_sign spot.beside)
      (ap (λ z. (laid o').at (At (left spot 16 BeforeLink)) (margin depth) (codes "[" ++ z)) (expression_laid e (free 0) (calm_0 l) refl depth (sign_of (codes "]") us))
      ∙ expression_laid o (left spot 16 BeforeLink) (index_calm i spot c.with_in c.no_new) q depth (sign_of (codes "[") (expression_tokens e depth no_gap (sign_of (codes "]") us))))
  expression_laid (shapes.super_member at at' (shapes.key at'' w t)) spot c q depth us =
      at_node at kind.SuperPropExpr (node_of at' kind.Super [] ∷ node_of at'' (kind.IdentName w) [] ∷ []) (At spot) (margin depth) (render us)
      ∙ rw (c.low, laid_node at' kind.Super [], laid_node at'' (kind.IdentName w) [], no_sign spot.beside) refl
  expression_laid (shapes.super_element at at' at'' {level = l} {e = e'} e) spot c q depth us =
      at_node at kind.SuperPropExpr (node_of at' kind.Super [] ∷ node_of at'' kind.ComputedPropName (e' ∷ []) ∷ []) (At spot) (margin depth) (render us)
      ∙ rw (c.low, laid_node at' kind.Super [], laid_node at'' kind.ComputedPropName (e' ∷ []), no_sign spot.beside) (ap (λ z. codes "super[" ++ z) (expression_laid e (free 0) (calm_0 l) refl depth (sign_of (codes "]") us)))
  expression_laid (shapes.super_call at at' {args = a'} {none = n'} es none) spot c q depth us =
      at_node at kind.CallExpr (node_of at' kind.Super [] ∷ a' ∷ n' ∷ []) (At spot) (margin depth) (render us)
      ∙ rw (c.low, c.no_new refl, laid_node at' kind.Super [], no_sign spot.beside) (ap (λ z. codes "super" ++ z) (arguments_laid es depth us))
  expression_laid (shapes.new_expression at {constructor = c'} {args = a'} {none = n'} i e es none) spot c q depth us =
      let args = sign_of (codes "(") (arguments_tokens es depth (sign_of (codes ")") us)) in
      at_node at kind.NewExpr (c' ∷ a' ∷ n' ∷ []) (At spot) (margin depth) (render us)
      ∙ rw (c.low, arguments_there es, and_false (is_headed spot.beside), no_sign spot.beside)
      (ap (λ z. codes "new " ++ z) (ap (λ z. (laid c').at (At (callee_spot spot)) (margin depth) z) (arguments_laid es depth us) ∙ expression_laid e (callee_spot spot) (callee_calm i spot c.with_in) refl depth args) ∙ ap (λ z. codes "new" ++ z) (sym (gap_out e depth blank args)))
  expression_laid (shapes.new_alone at {constructor = c'} i e (shapes.absent at') (shapes.absent at'')) spot c q depth us =
      at_node at kind.NewExpr (c' ∷ node_of at' kind.Absent [] ∷ node_of at'' kind.Absent [] ∷ []) (At spot) (margin depth) (render us)
      ∙ rw (tightly 17 16 spot.level (omega arith) c.low, c.no_head refl, no_sign spot.beside)
      (ap (λ z. codes "new " ++ z) (ap (λ z. (laid c').at (At (callee_spot spot)) (margin depth) z) (at_node at' kind.Absent [] Arguments (margin depth) (render us)) ∙ expression_laid e (callee_spot spot) (callee_calm i spot c.with_in) refl depth us) ∙ ap (λ z. codes "new" ++ z) (sym (gap_out e depth blank us)))
  expression_laid (shapes.new_target at) spot c q depth us = at_node at (kind.MetaPropExpr NewTarget) [] (At spot) (margin depth) (render us) ∙ rw (c.low, no_sign spot.beside) refl
  expression_laid (shapes.import_meta at) spot c q depth us = at_node at (kind.MetaPropExpr ImportMeta) [] (At spot) (margin depth) (render us) ∙ rw (c.low, no_sign spot.beside) refl
  expression_laid (shapes.import_call at at' {args = a'} {none = n'} es none) spot c q depth us =
      at_node at kind.CallExpr (node_of at' kind.Import [] ∷ a' ∷ n' ∷ []) (At spot) (margin depth) (render us)
      ∙ rw (c.low, c.no_new refl, laid_node at' kind.Import [], no_sign spot.beside) (ap (λ z. codes "import" ++ z) (arguments_laid es depth us))
  expression_laid (shapes.tagged_template at a b c' {tag = t'} {none = n'} {expressions = es} {parts = qs} i o none ps) spot c q depth us =
      let inside = at_node a kind.Tpl (node_of b kind.List es ∷ node_of c' kind.List qs ∷ []) (At (free 0)) (margin depth) (render us) ∙ rw (laid_node b kind.List es, laid_node c' kind.List qs) (parts_laid ps depth us) in
      at_node at kind.TaggedTpl (t' ∷ n' ∷ node_of a kind.Tpl (node_of b kind.List es ∷ node_of c' kind.List qs ∷ []) ∷ []) (At spot) (margin depth) (render us)
      ∙ rw (index_low i spot.level c.low, no_sign spot.beside)
      (ap (λ z. (laid t').at (At (left spot 16 BeforeLink)) (margin depth) z) inside ∙ expression_laid o (left spot 16 BeforeLink) (index_calm i spot c.with_in c.no_new) q depth (it no_gap (part_token true ps) (parts_tokens ps depth us)))
  expression_laid (shapes.chain_member at a {asks = b} {holder = o'} {property = k'} i o k) spot c q depth us =
      at_node at (kind.OptChainExpr b) (node_of a kind.MemberExpr (o' ∷ k' ∷ []) ∷ []) (At spot) (margin depth) (render us)
      ∙ rw (c.low, c.no_end refl, no_sign spot.beside)
      (at_node a kind.MemberExpr (o' ∷ k' ∷ []) (At (left spot 0 (link_of b))) (margin depth) (render us)
      ∙ rw (key_named k, link_beside b false, link_asks b)
      (ap (λ z. (laid o').at (At (left spot 16 InChain)) (margin depth) z) (key_laid k b (margin depth) us) ∙ expression_laid o (left spot 16 InChain) (chain_calm i spot c.with_in (c.no_new refl)) q depth (sign_of (point_of b) (it no_gap (chain_token k) us))))
  expression_laid (shapes.chain_element at a at' {level = l} {asks = b} {holder = o'} {e = e'} i o e) spot c q depth us =
      let behind = sign_of (codes "[") (expression_tokens e depth no_gap (sign_of (codes "]") us)) in
      at_node at (kind.OptChainExpr b) (node_of a kind.MemberExpr (o' ∷ node_of at' kind.ComputedPropName (e' ∷ []) ∷ []) ∷ []) (At spot) (margin depth) (render us)
      ∙ rw (c.low, c.no_end refl, no_sign spot.beside)
      (at_node a kind.MemberExpr (o' ∷ node_of at' kind.ComputedPropName (e' ∷ []) ∷ []) (At (left spot 0 (link_of b))) (margin depth) (render us)
      ∙ rw (laid_node at' kind.ComputedPropName (e' ∷ []), link_beside b true, link_asks b)
      (ap (λ z. (laid o').at (At (left spot 16 InChain)) (margin depth) z) (ap (λ z. key_mark b true ++ (codes "[" ++ z)) (expression_laid e (free 0) (calm_0 l) refl depth (sign_of (codes "]") us)) ∙ question_text b behind)
      ∙ expression_laid o (left spot 16 InChain) (chain_calm i spot c.with_in (c.no_new refl)) q depth (question_of b behind)))
  expression_laid (shapes.chain_call at a {asks = b} {function = o'} {args = a'} {none = n'} i o es none) spot c q depth us =
      let behind = sign_of (codes "(") (arguments_tokens es depth (sign_of (codes ")") us)) in
      at_node at (kind.OptChainExpr b) (node_of a kind.OptCall (o' ∷ a' ∷ n' ∷ []) ∷ []) (At spot) (margin depth) (render us)
      ∙ rw (c.low, c.no_end refl, no_sign spot.beside)
      (at_node a kind.OptCall (o' ∷ a' ∷ n' ∷ []) (At (left spot 0 (link_of b))) (margin depth) (render us)
      ∙ rw (link_asks b)
      (ap (λ z. (laid o').at (At (left spot 16 InChain)) (margin depth) z) (ap (λ z. question_dot b ++ z) (arguments_laid es depth us) ∙ dot_text b behind)
      ∙ expression_laid o (left spot 16 InChain) (chain_calm i spot c.with_in (c.no_new refl)) q depth (question_of b behind)))
  expression_laid (shapes.prefix_update at o {e = e'} e) spot c q depth us =
      at_node at (kind.UpdateExpr o true) (e' ∷ []) (At spot) (margin depth) (render us)
      ∙ rw (c.low, update_text o) (ap (λ z. gap spot.beside (update_sign o) ++ (token_text (update_token o) ++ z)) (expression_laid e (right spot 16 (update_sign o)) (update_calm o spot c.with_in) refl depth us ∙ rw (no_gap_before o e) refl))
  expression_laid (shapes.postfix_update at o {e = e'} e) spot c q depth us =
      at_node at (kind.UpdateExpr o false) (e' ∷ []) (At spot) (margin depth) (render us)
      ∙ rw (c.low, no_sign spot.beside, update_text o)
      (expression_laid e (left spot 16 NoNeighbor) (quiet refl c.with_in (c.no_new refl) refl) q depth (it no_gap (update_token o) us))
  expression_laid (shapes.await_expression at {e = e'} e) spot c q depth us =
      at_node at kind.AwaitExpr (e' ∷ []) (At spot) (margin depth) (render us)
      ∙ rw (c.low, no_sign spot.beside)
      (ap (λ z. codes "await " ++ z) (expression_laid e (right spot 14 NoNeighbor) (quiet refl c.with_in refl refl) refl depth us) ∙ ap (λ z. codes "await" ++ z) (sym (gap_out e depth blank us)))
  expression_laid (shapes.unary_expression at o {e = e'} e) spot c q depth us =
      at_node at (kind.UnaryExpr o) (e' ∷ []) (At spot) (margin depth) (render us)
      ∙ rw (c.low) (ap (λ z. gap spot.beside (unary_sign o) ++ z) (ap (λ z. unary_word o ++ z) (expression_laid e (right spot 14 (unary_sign o)) (unary_calm o spot c.with_in) refl depth us) ∙ (word_gap o (own_sign e) (render (expression_tokens e depth no_gap us)) ∙ ap (λ z. token_text (unary_token o) ++ z) (sym (gap_out e depth (unary_gap o (own_sign e)) us)))))
  expression_laid (shapes.binary_expression at {operator = o} {level = l} {tighter = t} {left = l'} {right = r'} i x y) spot c q depth us =
      let F = printed i in
      at_node at (kind.BinExpr o) (l' ∷ r' ∷ []) (At spot) (margin depth) (render us)
      ∙ rw (F.own, c.low, F.fits spot spot.beside c.with_in, F.left_is, F.right_is, F.alone, no_sign spot.beside)
      (ap (λ z. (laid l').at (At (left spot (number_of l) NoNeighbor)) (margin depth) z) (ap (λ z. binary_word o ++ z) (expression_laid y (right spot (number_of t) NoNeighbor) (quiet (same_low (number_of t)) c.with_in refl refl) refl depth us) ∙ (F.word_is (render (expression_tokens y depth no_gap us)) ∙ ap (λ z. codes " " ++ (token_text (binary_token o) ++ z)) (sym (gap_out y depth blank us))))
      ∙ expression_laid x (left spot (number_of l) NoNeighbor) (quiet (same_low (number_of l)) c.with_in (c.no_new (operator_calls i)) refl) q depth (it blank (binary_token o) (expression_tokens y depth blank us)))
  expression_laid (shapes.private_in at at' w {right = r'} t r) spot c q depth us =
      at_node at (kind.BinExpr op.In) (node_of at' (kind.PrivateName w) [] ∷ r' ∷ []) (At spot) (margin depth) (render us)
      ∙ rw (c.low, c.with_in, laid_node at' (kind.PrivateName w) [], no_sign spot.beside)
      (ap (λ z. codes "#" ++ (w ++ (codes " in " ++ z))) (expression_laid r (right (record spot { without_in = false }) 10 NoNeighbor) (quiet refl refl refl refl) refl depth us) ∙ ap (λ z. codes "#" ++ (w ++ (codes " in" ++ z))) (sym (gap_out r depth blank us)))
  expression_laid (shapes.exponentiation at {left = l'} {right = r'} x y) spot c q depth us =
      at_node at (kind.BinExpr op.Exp) (l' ∷ r' ∷ []) (At spot) (margin depth) (render us)
      ∙ rw (c.low, no_sign spot.beside)
      (ap (λ z. (laid l').at (At (left spot 15 NoNeighbor)) (margin depth) z) (ap (λ z. codes " ** " ++ z) (expression_laid y (right spot 13 NoNeighbor) (quiet refl c.with_in refl refl) refl depth us) ∙ ap (λ z. codes " **" ++ z) (sym (gap_out y depth blank us)))
      ∙ expression_laid x (left spot 15 NoNeighbor) (quiet refl c.with_in (c.no_new refl) refl) q depth (it blank (sign (codes "**")) (expression_tokens y depth blank us)))
  expression_laid (shapes.both at {left = l'} {right = r'} x y) spot c q depth us =
      at_node at (kind.BinExpr op.LogicalAnd) (l' ∷ r' ∷ []) (At spot) (margin depth) (render us)
      ∙ rw (c.low, c.both_fits refl, no_sign spot.beside)
      (ap (λ z. (laid l').at (At (left spot 4 UnderLogical)) (margin depth) z) (ap (λ z. codes " && " ++ z) (expression_laid y (right spot 5 UnderLogical) (under_logical refl c.with_in refl refl refl) refl depth us) ∙ ap (λ z. codes " &&" ++ z) (sym (gap_out y depth blank us)))
      ∙ expression_laid x (left spot 4 UnderLogical) (under_logical refl c.with_in (c.no_new refl) refl refl) q depth (it blank (sign (codes "&&")) (expression_tokens y depth blank us)))
  expression_laid (shapes.either at {left = l'} {right = r'} x y) spot c q depth us =
      at_node at (kind.BinExpr op.LogicalOr) (l' ∷ r' ∷ []) (At spot) (margin depth) (render us)
      ∙ rw (c.low, c.either_fits refl, no_sign spot.beside)
      (ap (λ z. (laid l').at (At (left spot 3 UnderLogical)) (margin depth) z) (ap (λ z. codes " || " ++ z) (expression_laid y (right spot 4 UnderLogical) (under_logical refl c.with_in refl refl refl) refl depth us) ∙ ap (λ z. codes " ||" ++ z) (sym (gap_out y depth blank us)))
      ∙ expression_laid x (left spot 3 UnderLogical) (under_logical refl c.with_in (c.no_new refl) refl refl) q depth (it blank (sign (codes "||")) (expression_tokens y depth blank us)))
  expression_laid (shapes.coalesced at {left = l'} {right = r'} i x y) spot c q depth us =
      at_node at (kind.BinExpr op.NullishCoalescing) (l' ∷ r' ∷ []) (At spot) (margin depth) (render us)
      ∙ rw (c.low, c.nullish_fits refl, no_sign spot.beside)
      (ap (λ z. (laid l').at (At (left spot 3 UnderNullish)) (margin depth) z) (ap (λ z. codes " ?? " ++ z) (expression_laid y (right spot 4 UnderNullish) (under_nullish refl c.with_in refl refl refl) refl depth us) ∙ ap (λ z. codes " ??" ++ z) (sym (gap_out y depth blank us)))
      ∙ expression_laid x (left spot 3 UnderNullish) (head_calm i spot c.with_in (c.no_new refl)) q depth (it blank (sign (codes "??")) (expression_tokens y depth blank us)))
  expression_laid (shapes.yield_nothing at (shapes.absent at')) spot c q depth us =
      at_node at (kind.YieldExpr false) (node_of at' kind.Absent [] ∷ []) (At spot) (margin depth) (render us) ∙ rw (c.low, no_sign spot.beside) (ap (λ z. codes "yield" ++ z) (at_node at' kind.Absent [] (Within Blank (right spot 1 NoNeighbor)) (margin depth) (render us)))
  expression_laid (shapes.yield_value at false {e = e'} e) spot c q depth us =
      at_node at (kind.YieldExpr false) (e' ∷ []) (At spot) (margin depth) (render us) ∙ rw (c.low, no_sign spot.beside) (ap (λ z. codes "yield" ++ z) (within_laid e Blank (right spot 1 NoNeighbor) (margin depth) (render us) ∙ (ap (λ z. codes " " ++ z) (expression_laid e (right spot 1 NoNeighbor) (further spot c.with_in) refl depth us) ∙ sym (gap_out e depth blank us))))
  expression_laid (shapes.yield_value at true {e = e'} e) spot c q depth us =
      at_node at (kind.YieldExpr true) (e' ∷ []) (At spot) (margin depth) (render us) ∙ rw (c.low, no_sign spot.beside) (ap (λ z. codes "yield*" ++ z) (within_laid e Blank (right spot 1 NoNeighbor) (margin depth) (render us) ∙ (ap (λ z. codes " " ++ z) (expression_laid e (right spot 1 NoNeighbor) (further spot c.with_in) refl depth us) ∙ sym (gap_out e depth blank us))))
  expression_laid (shapes.assignment_expression at o {target = t'} {value = v'} t v) spot c q depth us =
      at_node at (kind.AssignExpr o) (t' ∷ v' ∷ []) (At spot) (margin depth) (render us)
      ∙ rw (c.low, no_pattern t, and_false (opens_a_block spot.begins), no_sign spot.beside)
      (ap (λ z. (laid t').at (At (left spot 16 NoNeighbor)) (margin depth) z) (ap (λ z. assign_word o ++ z) (expression_laid v (right spot 1 NoNeighbor) (quiet refl c.with_in refl refl) refl depth us) ∙ (assign_text o (render (expression_tokens v depth no_gap us)) ∙ ap (λ z. codes " " ++ (token_text (assign_token o) ++ z)) (sym (gap_out v depth blank us))))
      ∙ expression_laid t (left spot 16 NoNeighbor) (quiet refl c.with_in (c.no_new refl) refl) q depth (it blank (assign_token o) (expression_tokens v depth blank us)))
  expression_laid (shapes.conditional_expression at {test = t'} {first = x'} {second = y'} t x y) spot c q depth us =
      let second_text = ap (λ z. codes " : " ++ z) (expression_laid y (right spot 1 NoNeighbor) (further spot c.with_in) refl depth us) ∙ ap (λ z. codes " :" ++ z) (sym (gap_out y depth blank us)) in
      let seconds = it blank (sign (codes ":")) (expression_tokens y depth blank us) in
      let first_text = ap (λ z. codes " ? " ++ z) (ap (λ z. (laid x').at (At (right spot 1 NoNeighbor)) (margin depth) z) second_text ∙ expression_laid x (right spot 1 NoNeighbor) (further spot c.with_in) refl depth seconds) ∙ ap (λ z. codes " ?" ++ z) (sym (gap_out x depth blank seconds)) in
      at_node at kind.CondExpr (t' ∷ x' ∷ y' ∷ []) (At spot) (margin depth) (render us)
      ∙ rw (tightly 2 1 spot.level (omega arith) c.low, no_sign spot.beside)
      (ap (λ z. (laid t').at (At (left spot 3 NoNeighbor)) (margin depth) z) first_text
      ∙ expression_laid t (left spot 3 NoNeighbor) (quiet refl c.with_in (c.no_new refl) refl) q depth (it blank (sign (codes "?")) (expression_tokens x depth blank seconds)))
  expression_laid (shapes.arrow_function at true {params = p'} {body = e'} {none = n'} {none' = n''} ps e z a b) spot c q depth us =
      let body = beginning 1 ArrowBodyStart spot.without_in in
      let rest = it blank (sign (codes "=>")) (expression_tokens e depth blank us) in
      at_node at (kind.ArrowExpr true false) (p' ∷ e' ∷ n' ∷ n'' ∷ []) (At spot) (margin depth) (render us)
      ∙ rw (c.low, no_sign spot.beside)
      (ap (λ z. codes "async " ++ z)
      (ap (λ z. (laid p').at Arguments (margin depth) z) (ap (λ z. codes " => " ++ z) (expression_laid e body (quiet refl c.with_in refl refl) (body_start (start e) (sym (ap is_brace (starts_agree e)) ∙ z)) depth us) ∙ ap (λ z. codes " =>" ++ z) (sym (gap_out e depth blank us)))
      ∙ arguments_laid ps depth rest))
  expression_laid (shapes.arrow_function at false {params = p'} {body = e'} {none = n'} {none' = n''} ps e z a b) spot c q depth us =
      let body = beginning 1 ArrowBodyStart spot.without_in in
      let rest = it blank (sign (codes "=>")) (expression_tokens e depth blank us) in
      at_node at (kind.ArrowExpr false false) (p' ∷ e' ∷ n' ∷ n'' ∷ []) (At spot) (margin depth) (render us)
      ∙ rw (c.low, no_sign spot.beside)
      (ap (λ z. (laid p').at Arguments (margin depth) z) (ap (λ z. codes " => " ++ z) (expression_laid e body (quiet refl c.with_in refl refl) (body_start (start e) (sym (ap is_brace (starts_agree e)) ∙ z)) depth us) ∙ ap (λ z. codes " =>" ++ z) (sym (gap_out e depth blank us)))
      ∙ arguments_laid ps depth rest)
  expression_laid (shapes.arrow_block at true {params = p'} {body = b'} {none = n'} {none' = n''} ps b x y) spot c q depth us =
      let rest = it blank (sign (codes "=>")) (block_tokens b depth blank us) in
      at_node at (kind.ArrowExpr true false) (p' ∷ b' ∷ n' ∷ n'' ∷ []) (At spot) (margin depth) (render us)
      ∙ rw (c.low, no_sign spot.beside)
      (ap (λ z. codes "async " ++ z)
      (ap (λ z. (laid p').at Arguments (margin depth) z) (ap (λ z. codes " => " ++ z) (block_behind_arrow b spot.without_in (margin depth) (render us)) ∙ ap (λ z. codes " =>" ++ z) (block_laid b depth blank us))
      ∙ arguments_laid ps depth rest))
  expression_laid (shapes.arrow_block at false {params = p'} {body = b'} {none = n'} {none' = n''} ps b x y) spot c q depth us =
      let rest = it blank (sign (codes "=>")) (block_tokens b depth blank us) in
      at_node at (kind.ArrowExpr false false) (p' ∷ b' ∷ n' ∷ n'' ∷ []) (At spot) (margin depth) (render us)
      ∙ rw (c.low, no_sign spot.beside)
      (ap (λ z. (laid p').at Arguments (margin depth) z) (ap (λ z. codes " => " ++ z) (block_behind_arrow b spot.without_in (margin depth) (render us)) ∙ ap (λ z. codes " =>" ++ z) (block_laid b depth blank us))
      ∙ arguments_laid ps depth rest)
  expression_laid (shapes.array at at' {slots = ns} es) spot c q depth us =
      at_node at kind.ArrayLit (node_of at' kind.List ns ∷ []) (At spot) (margin depth) (render us) ∙ rw (c.low, no_sign spot.beside) (at_node at' kind.List ns Brackets (margin depth) (render us) ∙ slots_laid es depth us)
  expression_laid (shapes.object_literal at at' {properties = ns} ps) spot c q depth us =
      at_node at kind.ObjectLit (node_of at' kind.List ns ∷ []) (At spot) (margin depth) (render us) ∙ rw (c.low, brace_stands spot.begins q, no_sign spot.beside) (at_node at' kind.List ns Braces (margin depth) (render us) ∙ properties_laid ps depth us)
  expression_laid (shapes.function_expression at {name = i'} {function = f'} i f) spot c q depth us =
      let m = margin depth in
      let fs = function_tokens f depth us in
      let x = is_generator f in
      let y = is_async f in
      at_node at kind.FnExpr (i' ∷ f' ∷ []) (At spot) m (render us)
      ∙ rw (c.low, word_stands spot.begins q, no_sign spot.beside)
      (function_head_laid f m ((laid i').at (Within Blank (free 1)) m ((laid f').at (At (free 1)) m (render us)))
      ∙ (ap (λ z. function_head (kind.Function x y) ++ z) (ap (λ z. (laid i').at (Within Blank (free 1)) m z) (function_laid f depth us) ∙ function_name_laid i m fs)
      ∙ sym (function_word_text x y no_gap (function_name_tokens i fs))))
  expression_laid (shapes.class_expression at {name = i'} {class = c'} i d) spot c q depth us =
      let m = margin depth in
      at_node at kind.ClassExpr (i' ∷ c' ∷ []) (At spot) m (render us)
      ∙ rw (c.low, word_stands spot.begins q, no_sign spot.beside)
      (ap (λ z. codes "class" ++ z) (ap (λ z. (laid i').at (Within Blank (free 1)) m z) (class_laid d depth us) ∙ function_name_laid i m (class_tokens d depth us)))
  expression_laid (shapes.sequence_expression at {first = x'} {second = y'} {more = es'} x y es) spot c q depth us =
      let rest = more_tokens es depth us in
      at_node at kind.SeqExpr (x' ∷ y' ∷ es') (At spot) (margin depth) (render us)
      ∙ rw (c.low, no_sign spot.beside)
      (ap (λ z. (laid x').at (At (left spot 1 NoNeighbor)) (margin depth) z)
      (ap (λ z. codes ", " ++ z) (ap (λ z. (laid y').at (At (right spot 1 NoNeighbor)) (margin depth) z) (sequence_laid es spot c.with_in depth us) ∙ expression_laid y (right spot 1 NoNeighbor) (further spot c.with_in) refl depth rest) ∙ ap (λ z. codes "," ++ z) (sym (gap_out y depth blank rest)))
      ∙ expression_laid x (left spot 1 NoNeighbor) (quiet refl c.with_in (c.no_new refl) refl) q depth (sign_of (codes ",") (expression_tokens y depth blank rest)))

  -- those behind the first of a sequence
  sequence_laid : {es : List Node} (is : AreExpressions es) (spot : Spot) → spot.without_in ≡ false → (depth : ℕ) (us : Items) → more_of_sequence (map laid es) spot (margin depth) (render us) ≡ render (more_tokens is depth us)
  sequence_laid shapes.no_expressions spot h depth us = refl
  sequence_laid (shapes.more_expressions {e = e'} e es) spot h depth us =
      let rest = more_tokens es depth us in
      ap (λ z. codes ", " ++ z) (ap (λ z. (laid e').at (At (right spot 1 NoNeighbor)) (margin depth) z) (sequence_laid es spot h depth us) ∙ expression_laid e (right spot 1 NoNeighbor) (further spot h) refl depth rest) ∙ ap (λ z. codes "," ++ z) (sym (gap_out e depth blank rest))

  -- the text parts of a template, and its expressions between
  parts_laid : {t f : Bool} {es ps : List Node} (is : AreParts t f es ps) (depth : ℕ) (us : Items)
      → part_opening f ++ template_parts (map by_itself (map laid ps)) (map by_itself (map laid es)) (margin depth) (codes "`" ++ render us) ≡ render (it no_gap (part_token f is) (parts_tokens is depth us))
  parts_laid {f = f} (shapes.last_part (shapes.part at raw w r v)) depth us =
      ap (λ z. part_opening f ++ z) (at_node at (kind.TplElement raw (template_value raw) true) [] (At (free 0)) (margin depth) (codes "`" ++ render us)) ∙ part_split f true raw (render us)
  parts_laid {f = f} (shapes.more_parts {e = e'} {es = es} {ps = qs} {level = l} (shapes.part at raw w r v) e ps) depth us =
      let behind = it no_gap (part_token false ps) (parts_tokens ps depth us) in
      ap (λ z. part_opening f ++ z)
      (at_node at (kind.TplElement raw (template_value raw) false) [] (At (free 0)) (margin depth) (codes "${" ++ (laid e').at (At (free 0)) (margin depth) (codes "}" ++ template_parts (map by_itself (map laid qs)) (map by_itself (map laid es)) (margin depth) (codes "`" ++ render us)))
      ∙ ap (λ z. raw ++ (codes "${" ++ z)) (ap (λ z. (laid e').at (At (free 0)) (margin depth) z) (parts_laid ps depth us) ∙ expression_laid e (free 0) (calm_0 l) refl depth behind))
      ∙ part_split f false raw (render (expression_tokens e depth no_gap behind))

  pub arguments_laid : {role : Role} {n : Node} (is : IsArguments role n) (depth : ℕ) (us : Items) → (laid n).at Arguments (margin depth) (render us) ≡ render (sign_of (codes "(") (arguments_tokens is depth (sign_of (codes ")") us)))
  arguments_laid (shapes.no_arguments at) depth us = at_node at kind.List [] Arguments (margin depth) (render us)
  arguments_laid (shapes.arguments at {e = e'} {es = es'} e es) depth us =
      at_node at kind.List (e' ∷ es') Arguments (margin depth) (render us)
      ∙ ap (λ z. codes "(" ++ z) (ap (λ z. (laid e').at (At (free 1)) (margin depth) z) (elements_laid es depth us) ∙ element_laid e depth (elements_tokens es depth (sign_of (codes ")") us)))

  element_laid : {role : Role} {n : Node} (is : IsElement role n) (depth : ℕ) (us : Items) → (laid n).at (At (free 1)) (margin depth) (render us) ≡ render (element_tokens is depth no_gap us)
  element_laid (shapes.one e) depth us = expression_laid e (free 1) calm_1 refl depth us
  element_laid (shapes.bound p) depth us = defaulted_laid p depth us
  element_laid (shapes.rest at {p = p'} {none = n'} p a) depth us = at_node at kind.RestPat (p' ∷ n' ∷ []) (At (free 1)) (margin depth) (render us) ∙ ap (λ z. codes "..." ++ z) (pattern_laid p depth us)
  element_laid (shapes.spread at {e = e'} e) depth us = at_node at kind.SpreadElement (e' ∷ []) (At (free 1)) (margin depth) (render us) ∙ ap (λ z. codes "..." ++ z) (expression_laid e (free 1) calm_1 refl depth us)

  slots_laid : {role : Role} {ns : List Node} (is : AreSlots role ns) (depth : ℕ) (us : Items) → brackets (map laid ns) (margin depth) (render us) ≡ codes "[" ++ render (slots_tokens is depth us)
  slots_laid shapes.no_slots depth us = refl
  slots_laid (shapes.filled {e = e'} e es) depth us =
      ap (λ z. codes "[" ++ z) (ap (λ z. (laid e').at (At (free 1)) (margin depth) z) (more_slots_laid es (laid e') false (element_there e) depth us) ∙ element_laid e depth (more_slots_tokens es depth false no_gap us))
  slots_laid (shapes.hole (shapes.absent at) es) depth us =
      ap (λ z. codes "[" ++ z) (at_node at kind.Absent [] (At (free 1)) (margin depth) _ ∙ more_slots_laid es (laid (node_of at kind.Absent [])) true (ap (λ x. is_absent x.kind) (laid_node at kind.Absent [])) depth us)

  -- behind an element or a hole
  more_slots_laid : {role : Role} {ns : List Node} (is : AreSlots role ns) (x : Laid) (b : Bool) → is_absent x.kind ≡ b → (depth : ℕ) (us : Items)
      → more_commas (free 1) (map laid ns) (margin depth) (hole_comma (ends_in_hole (x ∷ map laid ns)) ++ (codes "]" ++ render us)) ≡ render (more_slots_tokens is depth b no_gap us)
  more_slots_laid shapes.no_slots x false h depth us = rw h refl
  more_slots_laid shapes.no_slots x true h depth us = rw h refl
  more_slots_laid (shapes.filled {e = e'} e es) x b h depth us =
      ap (λ z. codes ", " ++ z) (ap (λ z. (laid e').at (At (free 1)) (margin depth) z) (more_slots_laid es (laid e') false (element_there e) depth us) ∙ element_laid e depth (more_slots_tokens es depth false no_gap us))
      ∙ ap (λ z. codes "," ++ z) (sym (element_gap_out e depth blank (more_slots_tokens es depth false no_gap us)))
  more_slots_laid (shapes.hole (shapes.absent at) es) x b h depth us =
      ap (λ z. codes ", " ++ z) (at_node at kind.Absent [] (At (free 1)) (margin depth) _ ∙ more_slots_laid es (laid (node_of at kind.Absent [])) true (ap (λ x. is_absent x.kind) (laid_node at kind.Absent [])) depth us)
      ∙ ap (λ z. codes "," ++ z) (sym (slots_gap_out es depth us))

  pub property_name_laid : {n : Node} (is : IsPropertyName n) (depth : ℕ) (us : Items) → (laid n).at (At (free 1)) (margin depth) (render us) ≡ render (property_name_tokens is depth no_gap us)
  property_name_laid (shapes.key_name (shapes.key at w t)) depth us = at_node at (kind.IdentName w) [] (At (free 1)) (margin depth) (render us)
  property_name_laid (shapes.string_name at raw t) depth us = at_node at _ [] (At (free 1)) (margin depth) (render us)
  property_name_laid (shapes.number_name at raw t) depth us = at_node at _ [] (At (free 1)) (margin depth) (render us)
  property_name_laid (shapes.big_int_name at raw t) depth us = at_node at _ [] (At (free 1)) (margin depth) (render us)
  property_name_laid (shapes.computed_name at {e = e'} e) depth us =
      at_node at kind.ComputedPropName (e' ∷ []) (At (free 1)) (margin depth) (render us) ∙ ap (λ z. codes "[" ++ z) (expression_laid e (free 1) calm_1 refl depth (sign_of (codes "]") us))

  property_laid : {role : Role} {n : Node} (is : IsProperty role n) (depth : ℕ) (us : Items) → (laid n).at (At (free 1)) (margin depth) (render us) ≡ render (property_tokens is depth no_gap us)
  property_laid (shapes.key_value at {name = k'} {value = v'} k v) depth us =
      at_node at kind.KeyValueProp (k' ∷ v' ∷ []) (At (free 1)) (margin depth) (render us)
      ∙ (ap (λ z. (laid k').at (At (free 1)) (margin depth) (codes ":" ++ z)) (ap (λ z. codes " " ++ z) (expression_laid v (free 1) calm_1 refl depth us) ∙ sym (gap_out v depth blank us))
      ∙ property_name_laid k depth (sign_of (codes ":") (expression_tokens v depth blank us)))
  property_laid (shapes.shorthand (ident at w i)) depth us = at_node at (kind.Ident w 0 false) [] (At (free 1)) (margin depth) (render us)
  property_laid (shapes.initialized at {value = v'} (ident at' w i) v) depth us =
      at_node at kind.AssignProp (node_of at' (kind.Ident w 0 false) [] ∷ v' ∷ []) (At (free 1)) (margin depth) (render us)
      ∙ (at_node at' (kind.Ident w 0 false) [] (At (free 1)) (margin depth) ((laid v').at (Within Equals (free 1)) (margin depth) (render us))
      ∙ ap (λ z. w ++ z) (within_laid v Equals (free 1) (margin depth) (render us) ∙ ap (λ z. codes " =" ++ z) (ap (λ z. codes " " ++ z) (expression_laid v (free 1) calm_1 refl depth us) ∙ sym (gap_out v depth blank us))))
  property_laid (shapes.method_property at {name = k'} {function = f'} k f) depth us =
      let m = margin depth in
      let x = is_generator f in
      let y = is_async f in
      let fs = function_tokens f depth us in
      at_node at kind.MethodProp (k' ∷ f' ∷ []) (At (free 1)) m (render us)
      ∙ (method_head_laid f m ((laid k').at (At (free 1)) m ((laid f').at (At (free 1)) m (render us)))
      ∙ (ap (λ z. method_head (kind.Function x y) ++ z) (ap (λ z. (laid k').at (At (free 1)) m z) (function_laid f depth us) ∙ property_name_laid k depth fs) ∙ sym (method_text x y (shapes.property_member k) depth fs no_gap)))
  property_laid (shapes.getter_property at {name = k'} {none = n'} {body = b'} k a b) depth us =
      let m = margin depth in
      let bs = block_tokens b depth blank us in
      let fs = sign_of (codes "(") (sign_of (codes ")") bs) in
      at_node at kind.GetterProp (k' ∷ n' ∷ b' ∷ []) (At (free 1)) m (render us)
      ∙ (ap (λ z. codes "get " ++ z) (ap (λ z. (laid k').at (At (free 1)) m (codes "()" ++ z)) (function_body_laid b m us bs (block_laid b depth blank us)) ∙ property_name_laid k depth fs) ∙ sym (accessor_written false (shapes.property_member k) depth fs no_gap))
  property_laid (shapes.setter_property at {name = k'} {none = n'} {param = p'} {body = b'} k a p b) depth us =
      let m = margin depth in
      let bs = block_tokens b depth blank us in
      let fs = sign_of (codes "(") (defaulted_tokens p depth no_gap (sign_of (codes ")") bs)) in
      at_node at kind.SetterProp (k' ∷ n' ∷ p' ∷ b' ∷ []) (At (free 1)) m (render us)
      ∙ (ap (λ z. codes "set " ++ (laid k').at (At (free 1)) m (codes "(" ++ (laid p').at (At (free 1)) m (codes ")" ++ z))) (function_body_laid b m us bs (block_laid b depth blank us))
      ∙ (ap (λ z. codes "set " ++ z) (ap (λ z. (laid k').at (At (free 1)) m (codes "(" ++ z)) (defaulted_laid p depth (sign_of (codes ")") bs)) ∙ property_name_laid k depth fs) ∙ sym (accessor_written true (shapes.property_member k) depth fs no_gap)))
  property_laid (shapes.renamed at {name = k'} {p = p'} k p) depth us =
      at_node at kind.KeyValuePatProp (k' ∷ p' ∷ []) (At (free 1)) (margin depth) (render us)
      ∙ (ap (λ z. (laid k').at (At (free 1)) (margin depth) (codes ":" ++ z)) (ap (λ z. codes " " ++ z) (defaulted_laid p depth us) ∙ sym (defaulted_gap_out p depth blank us))
      ∙ property_name_laid k depth (sign_of (codes ":") (defaulted_tokens p depth blank us)))
  property_laid (shapes.named at at' {id = i'} {none = n'} {value = v'} i a v) depth us =
      at_node at kind.AssignPatProp (node_of at' kind.BindingIdent (i' ∷ n' ∷ []) ∷ v' ∷ []) (At (free 1)) (margin depth) (render us)
      ∙ (ap (λ z. (laid (node_of at' kind.BindingIdent (i' ∷ n' ∷ []))).at (At (free 1)) (margin depth) z) (initializer_laid v depth us) ∙ binding_laid at' i n' (margin depth) (initializer_tokens v depth us))
  property_laid (shapes.rest_property at at' {id = i'} {none = n'} {none' = n''} i a b) depth us =
      at_node at kind.RestPat (node_of at' kind.BindingIdent (i' ∷ n' ∷ []) ∷ n'' ∷ []) (At (free 1)) (margin depth) (render us) ∙ ap (λ z. codes "..." ++ z) (binding_laid at' i n' (margin depth) us)
  property_laid (shapes.spread_property at {e = e'} e) depth us = at_node at kind.SpreadElement (e' ∷ []) (At (free 1)) (margin depth) (render us) ∙ ap (λ z. codes "..." ++ z) (expression_laid e (free 1) calm_1 refl depth us)

  properties_laid : {role : Role} {ns : List Node} (is : AreProperties role ns) (depth : ℕ) (us : Items) → braces (map laid ns) (margin depth) (render us) ≡ codes "{" ++ render (properties_tokens is depth us)
  properties_laid shapes.no_properties depth us = refl
  properties_laid (shapes.more_properties {p = p'} p ps) depth us =
      ap (λ z. codes "{ " ++ z) (ap (λ z. (laid p').at (At (free 1)) (margin depth) z) (more_properties_laid ps depth us) ∙ property_laid p depth (more_properties_tokens ps depth us))
      ∙ ap (λ z. codes "{" ++ z) (sym (property_gap_out p depth blank (more_properties_tokens ps depth us)))

  more_properties_laid : {role : Role} {ns : List Node} (is : AreProperties role ns) (depth : ℕ) (us : Items) → more_commas (free 1) (map laid ns) (margin depth) (codes " }" ++ render us) ≡ render (more_properties_tokens is depth us)
  more_properties_laid shapes.no_properties depth us = refl
  more_properties_laid (shapes.more_properties {p = p'} p ps) depth us =
      ap (λ z. codes ", " ++ z) (ap (λ z. (laid p').at (At (free 1)) (margin depth) z) (more_properties_laid ps depth us) ∙ property_laid p depth (more_properties_tokens ps depth us))
      ∙ ap (λ z. codes "," ++ z) (sym (property_gap_out p depth blank (more_properties_tokens ps depth us)))

  pub pattern_laid : {n : Node} (is : IsPattern n) (depth : ℕ) (us : Items) → (laid n).at (At (free 1)) (margin depth) (render us) ≡ render (pattern_tokens is depth no_gap us)
  pattern_laid (shapes.name_pattern at {none = n'} i a) depth us = binding_laid at i n' (margin depth) us
  pattern_laid (shapes.array_pattern at at' {slots = ns} {none = n'} es a) depth us =
      at_node at (kind.ArrayPat false) (node_of at' kind.List ns ∷ n' ∷ []) (At (free 1)) (margin depth) (render us) ∙ (at_node at' kind.List ns Brackets (margin depth) (render us) ∙ slots_laid es depth us)
  pattern_laid (shapes.object_pattern at at' {properties = ns} {none = n'} ps a) depth us =
      at_node at (kind.ObjectPat false) (node_of at' kind.List ns ∷ n' ∷ []) (At (free 1)) (margin depth) (render us) ∙ (at_node at' kind.List ns Braces (margin depth) (render us) ∙ properties_laid ps depth us)

  defaulted_laid : {n : Node} (is : IsDefaulted n) (depth : ℕ) (us : Items) → (laid n).at (At (free 1)) (margin depth) (render us) ≡ render (defaulted_tokens is depth no_gap us)
  defaulted_laid (shapes.no_default p) depth us = pattern_laid p depth us
  defaulted_laid (shapes.with_default at {p = p'} {e = e'} p e) depth us =
      at_node at kind.AssignPat (p' ∷ e' ∷ []) (At (free 1)) (margin depth) (render us) ∙ (ap (λ z. (laid p').at (At (free 1)) (margin depth) z) (value_laid e depth us (expression_laid e (free 1) calm_1 refl depth us)) ∙ pattern_laid p depth (it blank (sign (codes "=")) (expression_tokens e depth blank us)))

  pub initializer_laid : {n : Node} (is : IsInitializer n) (depth : ℕ) (us : Items) → (laid n).at (Within Equals (free 1)) (margin depth) (render us) ≡ render (initializer_tokens is depth us)
  initializer_laid (shapes.no_initializer (shapes.absent at)) depth us = at_node at kind.Absent [] (Within Equals (free 1)) (margin depth) (render us)
  initializer_laid (shapes.initializer e) depth us = value_laid e depth us (expression_laid e (free 1) calm_1 refl depth us)

  elements_laid : {role : Role} {es : List Node} (is : AreElements role es) (depth : ℕ) (us : Items) → more_commas (free 1) (map laid es) (margin depth) (codes ")" ++ render us) ≡ render (elements_tokens is depth (sign_of (codes ")") us))
  elements_laid shapes.no_elements depth us = refl
  elements_laid (shapes.more_elements {e = e'} e es) depth us =
      ap (λ z. codes ", " ++ z) (ap (λ z. (laid e').at (At (free 1)) (margin depth) z) (elements_laid es depth us) ∙ element_laid e depth (elements_tokens es depth (sign_of (codes ")") us)))
      ∙ ap (λ z. codes "," ++ z) (sym (element_gap_out e depth blank (elements_tokens es depth (sign_of (codes ")") us))))

  more_laid : {es : List Node} (is : AreExpressions es) (depth : ℕ) (us : Items) → more_commas (free 1) (map laid es) (margin depth) (codes ")" ++ render us) ≡ render (more_tokens is depth (sign_of (codes ")") us))
  more_laid shapes.no_expressions depth us = refl
  more_laid (shapes.more_expressions {e = e'} e es) depth us =
      ap (λ z. codes ", " ++ z) (ap (λ z. (laid e').at (At (free 1)) (margin depth) z) (more_laid es depth us) ∙ expression_laid e (free 1) calm_1 refl depth (more_tokens es depth (sign_of (codes ")") us)))
      ∙ ap (λ z. codes "," ++ z) (sym (gap_out e depth blank (more_tokens es depth (sign_of (codes ")") us))))

  pub declarator_laid : {n : Node} (is : IsDeclarator n) (depth : ℕ) (us : Items) → codes " " ++ (laid n).at (At (free 1)) (margin depth) (render us) ≡ render (declarator_tokens is depth us)
  declarator_laid (shapes.declarator at {p = p'} {init = e'} p e) depth us =
      ap (λ z. codes " " ++ z) (at_node at (kind.VarDeclarator false) (p' ∷ e' ∷ []) (At (free 1)) (margin depth) (render us) ∙ (ap (λ z. (laid p').at (At (free 1)) (margin depth) z) (initializer_laid e depth us) ∙ pattern_laid p depth (initializer_tokens e depth us)))
      ∙ sym (pattern_gap_out p depth blank (initializer_tokens e depth us))

  pub more_declarators_laid : {ds : List Node} (is : AreDeclarators ds) (depth : ℕ) (us : Items) → more_commas (free 1) (map laid ds) (margin depth) (codes ";" ++ render us) ≡ render (declarators_tokens is depth (sign_of (codes ";") us))
  more_declarators_laid shapes.no_declarators depth us = refl
  more_declarators_laid (shapes.more_declarators {d = d'} d ds) depth us =
      ap (λ z. codes "," ++ z) (ap (λ z. codes " " ++ (laid d').at (At (free 1)) (margin depth) z) (more_declarators_laid ds depth us) ∙ declarator_laid d depth (declarators_tokens ds depth (sign_of (codes ";") us)))

  -- what may be left out, behind a blank
  optional_laid : {n : Node} (is : IsOptional n) (depth : ℕ) (us : Items) → (laid n).at (Within Blank (free 0)) (margin depth) (render us) ≡ render (optional_tokens is depth us)
  optional_laid (shapes.left_out (shapes.absent at)) depth us = at_node at kind.Absent [] (Within Blank (free 0)) (margin depth) (render us)
  optional_laid (shapes.given {level = l} e) depth us = within_laid e Blank (free 0) (margin depth) (render us) ∙ (ap (λ z. codes " " ++ z) (expression_laid e (free 0) (calm_0 l) refl depth us) ∙ sym (gap_out e depth blank us))

  for_init_laid : {n : Node} (is : IsForInit n) (depth : ℕ) (us : Items) → (laid n).at head (margin depth) (codes ";" ++ render us) ≡ render (for_init_tokens is depth (sign_of (codes ";") us))
  for_init_laid (shapes.no_init (shapes.absent at)) depth us = at_node at kind.Absent [] head (margin depth) (codes ";" ++ render us)
  for_init_laid (shapes.init_declaration at of_list k {d = d'} {ds = ds'} d ds z) depth us =
      at_node at (kind.VarDecl k false) (node_of of_list kind.List (d' ∷ ds') ∷ []) head (margin depth) (codes ";" ++ render us)
      ∙ (ap (λ z. keyword k ++ (codes " " ++ z)) (at_node of_list kind.List (d' ∷ ds') (Commas head_spot) (margin depth) (codes ";" ++ render us) ∙ head_commas (d' ∷ ds') z (margin depth) (codes ";" ++ render us))
      ∙ ap (λ z. keyword k ++ z) (ap (λ z. codes " " ++ (laid d').at (At (free 1)) (margin depth) z) (more_declarators_laid ds depth us) ∙ declarator_laid d depth (declarators_tokens ds depth (sign_of (codes ";") us))))
  for_init_laid (shapes.init_expression {level = l} {e = e'} e z) depth us = head_laid e' z (beginning 0 Anywhere true) (margin depth) (codes ";" ++ render us) ∙ expression_laid e (free 0) (calm_0 l) refl depth (sign_of (codes ";") us)

  for_left_laid : {n : Node} (is : IsForLeft n) (depth : ℕ) (us : Items) → (laid n).at head (margin depth) (render us) ≡ render (for_left_tokens is depth us)
  for_left_laid (shapes.for_binding at of_list at_declarator k {p = p'} {init = i'} p (shapes.absent at')) depth us =
      let d = node_of at_declarator (kind.VarDeclarator false) (p' ∷ i' ∷ []) in
      at_node at (kind.VarDecl k false) (node_of of_list kind.List (d ∷ []) ∷ []) head (margin depth) (render us)
      ∙ ap (λ z. keyword k ++ z)
      (ap (λ z. codes " " ++ z)
      (at_node of_list kind.List (d ∷ []) (Commas head_spot) (margin depth) (render us)
      ∙ (at_node at_declarator (kind.VarDeclarator false) (p' ∷ i' ∷ []) (At head_spot) (margin depth) (render us)
      ∙ (ap (λ z. (laid p').at (At (free 1)) (margin depth) z) (at_node at' kind.Absent [] (Within Equals head_spot) (margin depth) (render us)) ∙ pattern_laid p depth us)))
      ∙ sym (pattern_gap_out p depth blank us))
  for_left_laid (shapes.for_target {e = e'} e z) depth us = head_laid e' z (beginning 0 Anywhere true) (margin depth) (render us) ∙ expression_laid e (free 0) (calm_0 shapes.callee) refl depth us

  -- what a class extends
  heritage_laid : {n : Node} (is : IsHeritage n) (depth : ℕ) (us : Items) → (laid n).at (Within Extends (free 16)) (margin depth) (render us) ≡ render (heritage_tokens is depth us)
  heritage_laid (shapes.no_heritage (shapes.absent at)) depth us = at_node at kind.Absent [] (Within Extends (free 16)) (margin depth) (render us)
  heritage_laid (shapes.heritage e) depth us =
      within_laid e Extends (free 16) (margin depth) (render us) ∙ (ap (λ z. codes " extends " ++ z) (expression_laid e (free 16) (quiet refl refl refl refl) refl depth us) ∙ ap (λ z. codes " extends" ++ z) (sym (gap_out e depth blank us)))

  member_name_laid : {private : Bool} {n : Node} (is : IsMemberName private n) (depth : ℕ) (us : Items) → (laid n).at (At (free 1)) (margin depth) (render us) ≡ render (member_name_tokens is depth no_gap us)
  member_name_laid (shapes.property_member k) depth us = property_name_laid k depth us
  member_name_laid (shapes.private_member at w t) depth us = at_node at (kind.PrivateName w) [] (At (free 1)) (margin depth) (render us)

  pub statement_laid : {ending : Ending} {n : Node} (is : IsStatement ending n) (d : ℕ) (g : Gap) (us : Items) → render (statement_tokens is d g us) ≡ g.blanks ++ (laid n).at (At (free 0)) (margin d) (render us)
  statement_laid (shapes.empty at) d g us = ap (λ z. g.blanks ++ z) (sym (at_node at kind.EmptyStmt [] (At (free 0)) (margin d) (render us)))
  statement_laid (shapes.debugger_word at) d g us = ap (λ z. g.blanks ++ z) (sym (at_node at kind.DebuggerStmt [] (At (free 0)) (margin d) (render us)))
  statement_laid (shapes.throw at {e = e'} e) d g us =
      ap (λ z. g.blanks ++ z) (sym (at_node at kind.ThrowStmt (e' ∷ []) (At (free 0)) (margin d) (render us) ∙ ap (λ z. codes "throw" ++ z) (argument_laid e d us (expression_laid e (free 0) (calm_0 _) refl d (sign_of (codes ";") us)))))
  statement_laid (shapes.return_value at {e = e'} e) d g us =
      ap (λ z. g.blanks ++ z) (sym (at_node at kind.ReturnStmt (e' ∷ []) (At (free 0)) (margin d) (render us) ∙ ap (λ z. codes "return" ++ z) (argument_laid e d us (expression_laid e (free 0) (calm_0 _) refl d (sign_of (codes ";") us)))))
  statement_laid (shapes.return_nothing at (shapes.absent at')) d g us =
      ap (λ z. g.blanks ++ z)
      (sym (at_node at kind.ReturnStmt (node_of at' kind.Absent [] ∷ []) (At (free 0)) (margin d) (render us) ∙ ap (λ z. codes "return" ++ z) (at_node at' kind.Absent [] (Within Blank (free 0)) (margin d) (codes ";" ++ render us))))
  statement_laid (shapes.break_nothing at (shapes.absent at')) d g us =
      ap (λ z. g.blanks ++ z)
      (sym (at_node at kind.BreakStmt (node_of at' kind.Absent [] ∷ []) (At (free 0)) (margin d) (render us) ∙ ap (λ z. codes "break" ++ z) (at_node at' kind.Absent [] (Within Blank (free 0)) (margin d) (codes ";" ++ render us))))
  statement_laid (shapes.continue_nothing at (shapes.absent at')) d g us =
      ap (λ z. g.blanks ++ z)
      (sym (at_node at kind.ContinueStmt (node_of at' kind.Absent [] ∷ []) (At (free 0)) (margin d) (render us) ∙ ap (λ z. codes "continue" ++ z) (at_node at' kind.Absent [] (Within Blank (free 0)) (margin d) (codes ";" ++ render us))))
  statement_laid (shapes.expression at {level = l} {e = e'} e z) d g us =
      gap_out e d g (sign_of (codes ";") us)
      ∙ ap (λ z. g.blanks ++ z)
      (sym (at_node at kind.ExprStmt (e' ∷ []) (At (free 0)) (margin d) (render us)
      ∙ expression_laid e (beginning 0 StatementStart false) (calm_start l) (statement_start (start e) (sym (starts_agree e) ∙ z)) d (sign_of (codes ";") us)))
  statement_laid (shapes.declaration at at' k i is) d g us = ap (λ z. g.blanks ++ z) (sym (keyword_laid k i is at at' d us (more_declarators_laid is d us) (declarator_laid i d (declarators_tokens is d (sign_of (codes ";") us)))))
  statement_laid (shapes.break_label at (shapes.ident of w i)) d g us =
      ap (λ z. g.blanks ++ z)
      (sym (at_node at kind.BreakStmt (node_of of (kind.Ident w 0 false) [] ∷ []) (At (free 0)) (margin d) (render us) ∙ ap (λ z. codes "break" ++ z) (at_node of (kind.Ident w 0 false) [] (Within Blank (free 0)) (margin d) (codes ";" ++ render us))))
  statement_laid (shapes.continue_label at (shapes.ident of w i)) d g us =
      ap (λ z. g.blanks ++ z)
      (sym (at_node at kind.ContinueStmt (node_of of (kind.Ident w 0 false) [] ∷ []) (At (free 0)) (margin d) (render us) ∙ ap (λ z. codes "continue" ++ z) (at_node of (kind.Ident w 0 false) [] (Within Blank (free 0)) (margin d) (codes ";" ++ render us))))
  statement_laid (shapes.if_only at {test = t'} {body = b'} t b (shapes.absent at')) d g us =
      let m = margin d in
      let bs = statement_tokens b d blank us in
      ap (λ z. g.blanks ++ z)
      (sym (at_node at kind.IfStmt (t' ∷ b' ∷ node_of at' kind.Absent [] ∷ []) (At (free 0)) m (render us)
      ∙ ap (λ z. codes "if" ++ z)
      (ap (λ z. codes " (" ++ (laid t').at (At (free 0)) m (codes ")" ++ (laid b').at (Within Blank (free 0)) m z)) (at_node at' kind.Absent [] (Within (else_behind (is_block (laid b').kind)) (free 0)) m (render us))
      ∙ (ap (λ z. codes " (" ++ (laid t').at (At (free 0)) m (codes ")" ++ z)) (body_laid (statement_seen b) m us (statement_tokens b d blank us) (statement_laid b d blank us)) ∙ test_laid t d bs (expression_laid t (free 0) (calm_0 _) refl d (sign_of (codes ")") bs))))))
  statement_laid (shapes.if_else at {test = t'} {body = b'} {alternative = a'} t b a) d g us =
      let m = margin d in
      let es = it (branch_gap (is_braced b) d) (items.key (codes "else")) (statement_tokens a d blank us) in
      let bs = statement_tokens b d blank es in
      let sb = statement_seen b in
      ap (λ z. g.blanks ++ z)
      (sym (at_node at kind.IfStmt (t' ∷ b' ∷ a' ∷ []) (At (free 0)) m (render us)
      ∙ ap (λ z. codes "if" ++ z)
      (ap (λ z. codes " (" ++ (laid t').at (At (free 0)) m (codes ")" ++ (laid b').at (Within Blank (free 0)) m z))
      (ap (λ c. (laid a').at (Within (else_behind c) (free 0)) m (render us)) sb.block_is ∙ else_laid (is_braced b) (statement_seen a) d us (statement_tokens a d blank us) (statement_laid a d blank us))
      ∙ (ap (λ z. codes " (" ++ (laid t').at (At (free 0)) m (codes ")" ++ z)) (body_laid sb m es bs (statement_laid b d blank es)) ∙ test_laid t d bs (expression_laid t (free 0) (calm_0 _) refl d (sign_of (codes ")") bs))))))
  statement_laid (shapes.while_loop at {test = t'} {body = b'} t b) d g us =
      let m = margin d in
      ap (λ z. g.blanks ++ z)
      (sym (at_node at kind.WhileStmt (t' ∷ b' ∷ []) (At (free 0)) m (render us)
      ∙ ap (λ z. codes "while" ++ z)
      (ap (λ z. codes " (" ++ (laid t').at (At (free 0)) m (codes ")" ++ z)) (body_laid (statement_seen b) m us (statement_tokens b d blank us) (statement_laid b d blank us)) ∙ test_laid t d (statement_tokens b d blank us) (expression_laid t (free 0) (calm_0 _) refl d (sign_of (codes ")") (statement_tokens b d blank us))))))
  statement_laid (shapes.do_loop at {test = t'} {body = b'} t b) d g us =
      let m = margin d in
      let ws = it (branch_gap (is_braced b) d) (items.key (codes "while")) (test_tokens t d (sign_of (codes ";") us)) in
      let sb = statement_seen b in
      ap (λ z. g.blanks ++ z)
      (sym (at_node at kind.DoWhileStmt (t' ∷ b' ∷ []) (At (free 0)) m (render us)
      ∙ ap (λ z. codes "do" ++ z)
      (ap (λ c. (laid b').at (Within Blank (free 0)) m (behind_body c m (codes "while (" ++ (laid t').at (At (free 0)) m (codes ");" ++ render us)))) sb.block_is
      ∙ (ap (λ z. (laid b').at (Within Blank (free 0)) m z) (branch_text (is_braced b) d (codes "while (" ++ (laid t').at (At (free 0)) m (codes ");" ++ render us)) ∙ ap (λ z. (let h = branch_gap (is_braced b) d in h.blanks ++ (codes "while" ++ z))) (test_laid t d (sign_of (codes ";") us) (expression_laid t (free 0) (calm_0 _) refl d (sign_of (codes ")") (sign_of (codes ";") us)))))
      ∙ body_laid sb m ws (statement_tokens b d blank ws) (statement_laid b d blank ws)))))
  statement_laid (shapes.switch_statement at at' {test = t'} {cs = cs'} t cs) d g us =
      let m = margin d in
      ap (λ z. g.blanks ++ z)
      (sym (at_node at kind.SwitchStmt (t' ∷ node_of at' kind.List cs' ∷ []) (At (free 0)) m (render us)
      ∙ ap (λ z. codes "switch" ++ z)
      (ap (λ z. codes " (" ++ (laid t').at (At (free 0)) m (codes ") " ++ z)) (at_node at' kind.List cs' Block m (render us) ∙ in_braces cs' d (cases_tokens cs (suc d)) (cases_laid cs (suc d)) us)
      ∙ test_laid t d (it blank (sign (codes "{")) (cases_tokens cs (suc d) (it (closing_gap cs' d) (sign (codes "}")) us))) (expression_laid t (free 0) (calm_0 _) refl d (sign_of (codes ")") (it blank (sign (codes "{")) (cases_tokens cs (suc d) (it (closing_gap cs' d) (sign (codes "}")) us))))))))
  statement_laid (shapes.try_catch at {b = b'} {c = c'} b c (shapes.absent at')) d g us =
      let m = margin d in
      ap (λ z. g.blanks ++ z)
      (sym (at_node at kind.TryStmt (b' ∷ c' ∷ node_of at' kind.Absent [] ∷ []) (At (free 0)) m (render us)
      ∙ (ap (λ z. codes "try " ++ (laid b').at (At (free 0)) m ((laid c').at (Within Blank (free 0)) m z)) (at_node at' kind.Absent [] (Within Finally (free 0)) m (render us))
      ∙ (ap (λ z. codes "try " ++ (laid b').at (At (free 0)) m z) (catch_laid c d us) ∙ ap (λ z. codes "try" ++ z) (block_laid b d blank (catch_tokens c d us))))))
  statement_laid (shapes.try_finally at {b = b'} {f = f'} b (shapes.absent at') f) d g us =
      let m = margin d in
      let fs = block_tokens f d blank us in
      let end = it blank (items.key (codes "finally")) fs in
      ap (λ z. g.blanks ++ z)
      (sym (at_node at kind.TryStmt (b' ∷ node_of at' kind.Absent [] ∷ f' ∷ []) (At (free 0)) m (render us)
      ∙ (ap (λ z. codes "try " ++ (laid b').at (At (free 0)) m z) (at_node at' kind.Absent [] (Within Blank (free 0)) m ((laid f').at (Within Finally (free 0)) m (render us)) ∙ finally_laid (block_seen f) m us fs (block_laid f d blank us))
      ∙ ap (λ z. codes "try" ++ z) (block_laid b d blank end))))
  statement_laid (shapes.try_catch_finally at {b = b'} {c = c'} {f = f'} b c f) d g us =
      let m = margin d in
      let fs = block_tokens f d blank us in
      let end = it blank (items.key (codes "finally")) fs in
      ap (λ z. g.blanks ++ z)
      (sym (at_node at kind.TryStmt (b' ∷ c' ∷ f' ∷ []) (At (free 0)) m (render us)
      ∙ (ap (λ z. codes "try " ++ (laid b').at (At (free 0)) m ((laid c').at (Within Blank (free 0)) m z)) (finally_laid (block_seen f) m us fs (block_laid f d blank us))
      ∙ (ap (λ z. codes "try " ++ (laid b').at (At (free 0)) m z) (catch_laid c d end) ∙ ap (λ z. codes "try" ++ z) (block_laid b d blank (catch_tokens c d end))))))
  statement_laid (shapes.for_loop at {init = i'} {test = t'} {update = u'} {body = b'} i t u b) d g us =
      let m = margin d in
      let bs = statement_tokens b d blank us in
      let us' = optional_tokens u d (sign_of (codes ")") bs) in
      ap (λ z. g.blanks ++ z)
      (sym (at_node at kind.ForStmt (i' ∷ t' ∷ u' ∷ b' ∷ []) (At (free 0)) m (render us)
      ∙ ap (λ z. codes "for (" ++ z)
      (ap (λ z. (laid i').at head m (codes ";" ++ z))
      (ap (λ z. (laid t').at (Within Blank (free 0)) m (codes ";" ++ z)) (ap (λ z. (laid u').at (Within Blank (free 0)) m (codes ")" ++ z)) (body_laid (statement_seen b) m us bs (statement_laid b d blank us)) ∙ optional_laid u d (sign_of (codes ")") bs))
      ∙ optional_laid t d (sign_of (codes ";") us'))
      ∙ for_init_laid i d (optional_tokens t d (sign_of (codes ";") us')))))
  statement_laid (shapes.for_in at {level = l} {left = l'} {object = e'} {body = b'} left e b) d g us =
      let m = margin d in
      let bs = statement_tokens b d blank us in
      let es = expression_tokens e d blank (sign_of (codes ")") bs) in
      ap (λ z. g.blanks ++ z)
      (sym (at_node at kind.ForInStmt (l' ∷ e' ∷ b' ∷ []) (At (free 0)) m (render us)
      ∙ ap (λ z. codes "for (" ++ z)
      (ap (λ z. (laid l').at head m (codes " in " ++ z)) (ap (λ z. (laid e').at (At (free 0)) m (codes ")" ++ z)) (body_laid (statement_seen b) m us bs (statement_laid b d blank us)) ∙ expression_laid e (free 0) (calm_0 l) refl d (sign_of (codes ")") bs))
      ∙ (ap (λ z. (laid l').at head m (codes " in" ++ z)) (sym (gap_out e d blank (sign_of (codes ")") bs))) ∙ for_left_laid left d (it blank (items.key (codes "in")) es)))))
  statement_laid (shapes.for_of at w {left = l'} {iterable = e'} {body = b'} left e b) d g us =
      let m = margin d in
      let bs = statement_tokens b d blank us in
      let es = expression_tokens e d blank (sign_of (codes ")") bs) in
      let ls = for_left_tokens left d (it blank (items.key (codes "of")) es) in
      for_gap w g ls
      ∙ ap (λ z. g.blanks ++ z)
      (sym (at_node at (kind.ForOfStmt w) (l' ∷ e' ∷ b' ∷ []) (At (free 0)) m (render us)
      ∙ (ap (λ z. for_word w ++ z)
      (ap (λ z. (laid l').at head m (codes " of " ++ z)) (ap (λ z. (laid e').at (At (free 1)) m (codes ")" ++ z)) (body_laid (statement_seen b) m us bs (statement_laid b d blank us)) ∙ expression_laid e (free 1) calm_1 refl d (sign_of (codes ")") bs))
      ∙ (ap (λ z. (laid l').at head m (codes " of" ++ z)) (sym (gap_out e d blank (sign_of (codes ")") bs))) ∙ for_left_laid left d (it blank (items.key (codes "of")) es)))
      ∙ for_laid w ls)))
  statement_laid (shapes.labeled at {body = b'} (shapes.ident of w i) b) d g us =
      let m = margin d in
      ap (λ z. g.blanks ++ z)
      (sym (at_node at kind.LabeledStmt (node_of of (kind.Ident w 0 false) [] ∷ b' ∷ []) (At (free 0)) m (render us)
      ∙ (at_node of (kind.Ident w 0 false) [] (At (free 0)) m (codes ": " ++ (laid b').at (At (free 0)) m (render us)) ∙ ap (λ z. w ++ (codes ":" ++ z)) (sym (statement_laid b d blank us)))))
  statement_laid (shapes.block b) d g us = sym (block_laid b d g us)
  statement_laid (shapes.function_statement at {id = id'} {function = f'} i f) d g us =
      let m = margin d in
      let fs = function_tokens f d us in
      let x = is_generator f in
      let y = is_async f in
      function_word_text x y g (it blank (items.key (ident_word i)) fs)
      ∙ ap (λ z. g.blanks ++ z)
      (sym (at_node at (kind.FnDecl false) (id' ∷ f' ∷ []) (At (free 0)) m (render us)
      ∙ (function_head_laid f m ((laid id').at (Within Blank (free 1)) m ((laid f').at (At (free 1)) m (render us)))
      ∙ ap (λ z. function_head (kind.Function x y) ++ z) (ap (λ z. (laid id').at (Within Blank (free 1)) m z) (function_laid f d us) ∙ blank_name_laid i m fs))))
  statement_laid (shapes.class_statement at {id = id'} {class = c'} i c) d g us =
      let m = margin d in
      let cs = class_tokens c d us in
      ap (λ z. g.blanks ++ z)
      (sym (at_node at (kind.ClassDecl false) (id' ∷ c' ∷ []) (At (free 0)) m (render us)
      ∙ ap (λ z. codes "class" ++ z) (ap (λ z. (laid id').at (Within Blank (free 1)) m z) (class_laid c d us) ∙ blank_name_laid i m cs)))

  -- heritage and members
  pub class_laid : {n : Node} (is : IsClass n) (d : ℕ) (us : Items) → (laid n).at (At (free 1)) (margin d) (render us) ≡ render (class_tokens is d us)
  class_laid (shapes.class_of at at' at'' {super = s'} {none = n'} {none' = n''} {ms = ms'} h ms a a') d us =
      let m = margin d in
      at_node at (kind.Class false) (s' ∷ node_of at' kind.List ms' ∷ n' ∷ n'' ∷ node_of at'' kind.List [] ∷ []) (At (free 1)) m (render us)
      ∙ (ap (λ z. (laid s').at (Within Extends (free 16)) m (codes " " ++ z)) (at_node at' kind.List ms' Block m (render us) ∙ in_braces ms' d (members_tokens ms (suc d)) (members_laid ms (suc d)) us)
      ∙ heritage_laid h d (it blank (sign (codes "{")) (members_tokens ms (suc d) (it (closing_gap ms' d) (sign (codes "}")) us))))

  member_laid : {n : Node} (is : IsMember n) (d : ℕ) (g : Gap) (us : Items) → render (member_tokens is d g us) ≡ g.blanks ++ (laid n).at (At (free 0)) (margin d) (render us)
  member_laid (shapes.empty_member at) d g us = ap (λ z. g.blanks ++ z) (sym (at_node at kind.EmptyStmt [] (At (free 0)) (margin d) (render us)))
  member_laid (shapes.static_block at {b = b'} b) d g us =
      let m = margin d in
      ap (λ z. g.blanks ++ z)
      (sym (at_node at kind.StaticBlock (b' ∷ []) (At (free 0)) m (render us) ∙ (ap (λ z. codes "static " ++ z) (block_again b m (render us)) ∙ ap (λ z. codes "static" ++ z) (block_laid b d blank us))))
  member_laid (shapes.method at s {key = k'} {function = f'} k f z) d g us =
      let m = margin d in
      let x = is_generator f in
      let y = is_async f in
      let fs = function_tokens f d us in
      static_text s (method_tokens x y (λ h. member_name_tokens k d h fs)) _ (method_text x y k d fs) g
      ∙ ap (λ z. g.blanks ++ z)
      (sym (method_node (is_private k) s Method at k' f' m (render us)
      ∙ ap (λ z. static_word s ++ z)
      (method_head_laid f m ((laid k').at (At (free 1)) m ((laid f').at (At (free 1)) m (render us)))
      ∙ ap (λ z. method_head (kind.Function x y) ++ z) (ap (λ z. (laid k').at (At (free 1)) m z) (function_laid f d us) ∙ member_name_laid k d fs))))
  member_laid (shapes.class_constructor at of_params {key = k'} {params = ps'} {body = b'} k z ps ws b) d g us =
      let m = margin d in
      let bs = block_tokens b d blank us in
      let fs = sign_of (codes "(") (arguments_tokens ps d (sign_of (codes ")") bs)) in
      name_gap_out (shapes.property_member k) d g fs
      ∙ ap (λ z. g.blanks ++ z)
      (sym (at_node at (kind.Constructor None false) (k' ∷ node_of of_params kind.List ps' ∷ b' ∷ []) (At (free 0)) m (render us)
      ∙ (ap (λ z. (laid k').at (At (free 1)) m z) (ap (λ z. (laid (node_of of_params kind.List ps')).at Arguments m z) (function_body_laid b m us bs (block_laid b d blank us)) ∙ (params_laid of_params ws m (render bs) ∙ arguments_laid ps d bs))
      ∙ property_name_laid k d fs)))
  member_laid (shapes.field at s {key = k'} {value = v'} {none = n'} k v a) d g us =
      let m = margin d in
      let vs = initializer_tokens v d (sign_of (codes ";") us) in
      static_text s (λ h. member_name_tokens k d h vs) _ (λ h. name_gap_out k d h vs) g
      ∙ ap (λ z. g.blanks ++ z)
      (sym (field_node (is_private k) s at k' v' n' m (render us) ∙ ap (λ z. static_word s ++ z) (ap (λ z. (laid k').at (At (free 1)) m z) (initializer_laid v d (sign_of (codes ";") us)) ∙ member_name_laid k d vs)))
  member_laid (shapes.accessor at at' of_params s b {key = k'} {body = b'} {none = n'} {none' = n''} {params = ps'} k ps ws body a a') d g us =
      let m = margin d in
      let bs = block_tokens body d blank us in
      let fs = sign_of (codes "(") (arguments_tokens ps d (sign_of (codes ")") bs)) in
      let children = node_of of_params kind.List ps' ∷ b' ∷ n' ∷ n'' ∷ [] in
      let fn = node_of at' (kind.Function false false) children in
      static_text s (λ h. it h (items.key (accessor_text b)) (member_name_tokens k d blank fs)) _ (accessor_written b k d fs) g
      ∙ ap (λ z. g.blanks ++ z)
      (sym (method_node (is_private k) s (accessor_kind b) at k' fn m (render us)
      ∙ ap (λ z. static_word s ++ (accessor_word (accessor_kind b) ++ z))
      (at_node at' (kind.Function false false) children MethodHead m ((laid k').at (At (free 1)) m ((laid fn).at (At (free 1)) m (render us)))
      ∙ (ap (λ z. (laid k').at (At (free 1)) m z)
      (at_node at' (kind.Function false false) children (At (free 1)) m (render us)
      ∙ (ap (λ z. (laid (node_of of_params kind.List ps')).at Arguments m z) (function_body_laid body m us bs (block_laid body d blank us)) ∙ (params_laid of_params ws m (render bs) ∙ arguments_laid ps d bs)))
      ∙ member_name_laid k d fs))))

  members_laid : {ns : List Node} (is : AreMembers ns) (d : ℕ) (us : Items) → new_lines (map laid ns) (margin d) (render us) ≡ render (members_tokens is d us)
  members_laid shapes.no_members d us = refl
  members_laid (shapes.more_members {m = m'} m ms) d us = ap (λ z. codes "\n" ++ (margin d ++ (laid m').at (At (free 0)) (margin d) z)) (members_laid ms d us) ∙ sym (member_laid m d (line_at d) (members_tokens ms d us))

  -- parameters and body
  pub function_laid : {n : Node} (is : IsFunction n) (d : ℕ) (us : Items) → (laid n).at (At (free 1)) (margin d) (render us) ≡ render (function_tokens is d us)
  function_laid (shapes.function_of at of_params x y {params = ps'} {body = b'} {none = n'} {none' = n''} ps ws b a a') d us =
      let m = margin d in
      let bs = block_tokens b d blank us in
      at_node at (kind.Function x y) (node_of of_params kind.List ps' ∷ b' ∷ n' ∷ n'' ∷ []) (At (free 1)) m (render us)
      ∙ (ap (λ z. (laid (node_of of_params kind.List ps')).at Arguments m z) (function_body_laid b m us bs (block_laid b d blank us)) ∙ (params_laid of_params ws m (render bs) ∙ arguments_laid ps d bs))

  block_laid : {n : Node} (is : IsBlock n) (d : ℕ) (g : Gap) (us : Items) → g.blanks ++ (laid n).at (At (free 0)) (margin d) (render us) ≡ render (block_tokens is d g us)
  block_laid (shapes.block_of at at' {ss = ss'} ss) d g us =
      ap (λ z. g.blanks ++ z)
      (at_node at kind.BlockStmt (node_of at' kind.List ss' ∷ []) (At (free 0)) (margin d) (render us)
      ∙ (at_node at' kind.List ss' Block (margin d) (render us) ∙ in_braces ss' d (lined_tokens ss (suc d)) (lined_laid ss (suc d)) us))

  case_laid : {n : Node} (is : IsCase n) (d : ℕ) (g : Gap) (us : Items) → render (case_tokens is d g us) ≡ g.blanks ++ (laid n).at (At (free 0)) (margin d) (render us)
  case_laid (shapes.case_of at at' {level = l} {test = t'} {ss = ss'} t ss) d g us =
      let m = margin d in
      let body = lined_tokens ss (suc d) us in
      ap (λ z. g.blanks ++ z)
      (sym (at_node at kind.SwitchCase (t' ∷ node_of at' kind.List ss' ∷ []) (At (free 0)) m (render us)
      ∙ (ap (λ b. case_word b ++ (laid t').at (At (free 0)) m (codes ":" ++ (laid (node_of at' kind.List ss')).at Deeper m (render us))) (no_absent t)
      ∙ (ap (λ z. codes "case " ++ (laid t').at (At (free 0)) m (codes ":" ++ z)) (at_node at' kind.List ss' Deeper m (render us) ∙ lined_laid ss (suc d) us)
      ∙ (ap (λ z. codes "case " ++ z) (expression_laid t (free 0) (calm_0 l) refl d (sign_of (codes ":") body)) ∙ ap (λ z. codes "case" ++ z) (sym (gap_out t d blank (sign_of (codes ":") body))))))))
  case_laid (shapes.default_of at at' {ss = ss'} (shapes.absent at'') ss) d g us =
      let m = margin d in
      let none = node_of at'' kind.Absent [] in
      ap (λ z. g.blanks ++ z)
      (sym (at_node at kind.SwitchCase (none ∷ node_of at' kind.List ss' ∷ []) (At (free 0)) m (render us)
      ∙ (ap (λ b. case_word b ++ (laid none).at (At (free 0)) m (codes ":" ++ (laid (node_of at' kind.List ss')).at Deeper m (render us))) (ap (λ x. is_absent x.kind) (laid_node at'' kind.Absent []))
      ∙ ap (λ z. codes "default" ++ z) (at_node at'' kind.Absent [] (At (free 0)) m (codes ":" ++ (laid (node_of at' kind.List ss')).at Deeper m (render us)) ∙ ap (λ z. codes ":" ++ z) (at_node at' kind.List ss' Deeper m (render us) ∙ lined_laid ss (suc d) us)))))

  cases_laid : {cs : List Node} (is : AreCases cs) (d : ℕ) (us : Items) → new_lines (map laid cs) (margin d) (render us) ≡ render (cases_tokens is d us)
  cases_laid shapes.no_cases d us = refl
  cases_laid (shapes.more_cases {c = c'} c cs) d us = ap (λ z. codes "\n" ++ (margin d ++ (laid c').at (At (free 0)) (margin d) z)) (cases_laid cs d us) ∙ sym (case_laid c d (line_at d) (cases_tokens cs d us))

  catch_laid : {n : Node} (is : IsCatch n) (d : ℕ) (us : Items) → (laid n).at (Within Blank (free 0)) (margin d) (render us) ≡ render (catch_tokens is d us)
  catch_laid (shapes.catch_any at {b = b'} (shapes.absent at') b) d us =
      let m = margin d in
      let bs = block_tokens b d blank us in
      at_node at kind.CatchClause (node_of at' kind.Absent [] ∷ b' ∷ []) (Within Blank (free 0)) m (render us)
      ∙ ap (λ z. codes " catch" ++ z) (at_node at' kind.Absent [] (Within Parentheses (free 1)) m ((laid b').at (Within Blank (free 0)) m (render us)) ∙ body_laid (block_seen b) m us bs (sym (block_laid b d blank us)))
  catch_laid (shapes.catch_pattern at {p = p'} {b = b'} p b) d us =
      let m = margin d in
      let bs = block_tokens b d blank us in
      let s = pattern_seen p in
      at_node at kind.CatchClause (p' ∷ b' ∷ []) (Within Blank (free 0)) m (render us)
      ∙ ap (λ z. codes " catch" ++ z)
      (within_there p' s.there Parentheses (free 1) m ((laid b').at (Within Blank (free 0)) m (render us))
      ∙ ap (λ z. codes " (" ++ z) (ap (λ z. (laid p').at (At (free 1)) m (codes ")" ++ z)) (body_laid (block_seen b) m us bs (sym (block_laid b d blank us))) ∙ pattern_laid p d (sign_of (codes ")") bs)))

  lined_laid : {ss : List Node} (is : AreStatements ss) (d : ℕ) (us : Items) → new_lines (map laid ss) (margin d) (render us) ≡ render (lined_tokens is d us)
  lined_laid shapes.no_statements d us = refl
  lined_laid (shapes.more_statements {s = s'} s ss) d us = ap (λ z. codes "\n" ++ (margin d ++ (laid s').at (At (free 0)) (margin d) z)) (lined_laid ss d us) ∙ sym (statement_laid s d (line_at d) (lined_tokens ss d us))
