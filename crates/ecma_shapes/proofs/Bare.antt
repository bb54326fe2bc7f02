-- The tree without spans that is read of the tokens of a tree.
use Rattle.std.specs.Prelude.{◌-◌, true, false, List, [], ◌∷◌, length, Some, Bool, map, None}
use Rattle.ecma_number.specs.Numeral.{numeral_of}
use Rattle.ecma_lex.specs.Text.{piece}
use Rattle.ecma_lex.specs.Strings.{str_value}
use Rattle.ecma_lex.specs.Templates.{template_value}
use Rattle.ecma_kind.specs.declared.operators.MethodKind.TheVariants.{Method}
use Rattle.ecma_kind.specs.declared.operators.BinaryOp.TheVariants as op
use Rattle.ecma_kind.specs.declared.operators.MetaPropKind.TheVariants.{NewTarget, ImportMeta}
use Rattle.ecma_kind.specs.declared.kind.Kind.{Kind}
use Rattle.ecma_kind.specs.declared.kind.Kind.TheVariants as kind
use Rattle.ecma_tree.specs.declared.node.Node.{Node}
use Rattle.ecma_tree.specs.Nodes.{node_of, dummy_span, absent, list_node}
use Rattle.ecma_grammar.specs.Reads.{without_separators}
use Rattle.ecma_shapes.specs.Shapes.{IsIdent, Level, IsExpression, looser, element, prefix_update, postfix_update, await_expression, unary_expression, binary_expression, exponentiation, both, either, coalesced, assignment_expression, conditional_expression, sequence_expression, name, string, number, this_word, big_int, null_word, true_word, false_word, member, call, parenthesized, IsElement, one, spread, IsArguments, no_arguments, arguments, AreElements, no_elements, more_elements, AreExpressions, no_expressions, more_expressions, IsInitializer, no_initializer, initializer, IsDeclarator, declarator, AreDeclarators, no_declarators, more_declarators, IsStatement, expression, declaration, empty, debugger_word, throw, return_value, return_nothing, break_nothing, continue_nothing, Ending, break_label, continue_label, block, if_only, if_else, while_loop, do_loop, labeled, IsBlock, block_of, AreStatements, no_statements, more_statements, array, AreSlots, no_slots, filled, hole, switch_statement, IsCase, case_of, default_of, AreCases, no_cases, more_cases, new_expression, new_alone, new_target, try_catch, try_finally, try_catch_finally, IsCatch, catch_any, super_member, super_element, super_call, IsOptional, left_out, given, IsForLeft, for_binding, for_target, for_loop, for_in, for_of, object_literal, function_expression, class_expression, IsPropertyName, key_name, string_name, number_name, big_int_name, computed_name, IsProperty, key_value, shorthand, initialized, spread_property, AreProperties, no_properties, more_properties, private_in, yield_nothing, yield_value, import_meta, import_call, regex, Role, bound, rest, renamed, named, rest_property, IsPattern, name_pattern, array_pattern, object_pattern, IsDefaulted, no_default, with_default, IsForInit, no_init, init_declaration, init_expression, IsPart, part, AreParts, last_part, more_parts, template, tagged_template, arrow_function, catch_pattern, chain_member, chain_element, chain_call, function_statement, IsFunction, function_of, IsFunctionName, unnamed, function_name, IsHeritage, no_heritage, heritage, class_statement, IsClass, class_of, IsMember, empty_member, static_block, AreMembers, no_members, more_members, method, class_constructor, field, accessor, IsMemberName, property_member, private_member, is_private, arrow_block, method_property, getter_property, setter_property}
use Rattle.ecma_shapes.specs.MemberKinds.{accessor_kind, method_kind, field_kind}
use Rattle.ecma_shapes.proofs.Tokens.{chain_kind, ident_word, is_async, key_word}

abbrev pub bare : Kind → List Node → Node
bare k ns = node_of dummy_span k ns

abbrev pub bare_ident : {n : Node} → IsIdent n → Node
bare_ident i = bare (kind.Ident (ident_word i) 0 false) []

abbrev pub expression_kind : {level : Level} {e : Node} → IsExpression level e → Kind
expression_kind (name i) = kind.Ident (ident_word i) 0 false
expression_kind (string at raw t) = kind.Str (str_value (piece raw 1 (length raw - 1))) (Some raw)
expression_kind (number at raw t) = kind.Number (numeral_of raw) (Some raw)
expression_kind (this_word at) = kind.ThisExpr
expression_kind (big_int at raw t) = kind.BigInt (without_separators (piece raw 0 (length raw - 1))) (Some raw)
expression_kind (regex at b f t) = kind.Regex b f
expression_kind (template at a b ps) = kind.Tpl
expression_kind (null_word at) = kind.Null
expression_kind (true_word at) = kind.Bool true
expression_kind (false_word at) = kind.Bool false
expression_kind (member at i o k) = kind.MemberExpr
expression_kind (call at c es none) = kind.CallExpr
expression_kind (parenthesized at e) = kind.ParenExpr
expression_kind (looser e) = expression_kind e
expression_kind (element at at' i o e) = kind.MemberExpr
expression_kind (super_member at at' k) = kind.SuperPropExpr
expression_kind (super_element at at' at'' e) = kind.SuperPropExpr
expression_kind (super_call at at' es none) = kind.CallExpr
expression_kind (new_expression at i e es none) = kind.NewExpr
expression_kind (new_alone at i e none none') = kind.NewExpr
expression_kind (new_target at) = kind.MetaPropExpr NewTarget
expression_kind (import_meta at) = kind.MetaPropExpr ImportMeta
expression_kind (import_call at at' es none) = kind.CallExpr
expression_kind (tagged_template at a b c i o none ps) = kind.TaggedTpl
expression_kind (chain_member at a {asks = b} i o k) = kind.OptChainExpr b
expression_kind (chain_element at a c {asks = b} i o e) = kind.OptChainExpr b
expression_kind (chain_call at a {asks = b} i o es none) = kind.OptChainExpr b
expression_kind (prefix_update at o e) = kind.UpdateExpr o true
expression_kind (postfix_update at o e) = kind.UpdateExpr o false
expression_kind (await_expression at e) = kind.AwaitExpr
expression_kind (unary_expression at o e) = kind.UnaryExpr o
expression_kind (binary_expression at {operator = o} i l r) = kind.BinExpr o
expression_kind (private_in at at' w t r) = kind.BinExpr op.In
expression_kind (exponentiation at l r) = kind.BinExpr op.Exp
expression_kind (both at l r) = kind.BinExpr op.LogicalAnd
expression_kind (either at l r) = kind.BinExpr op.LogicalOr
expression_kind (coalesced at i l r) = kind.BinExpr op.NullishCoalescing
expression_kind (yield_nothing at none) = kind.YieldExpr false
expression_kind (yield_value at d e) = kind.YieldExpr d
expression_kind (assignment_expression at o t v) = kind.AssignExpr o
expression_kind (conditional_expression at t x y) = kind.CondExpr
expression_kind (arrow_function at is_async ps e z a b) = kind.ArrowExpr is_async false
expression_kind (arrow_block at is_async ps b n n') = kind.ArrowExpr is_async false
expression_kind (array at at' es) = kind.ArrayLit
expression_kind (object_literal at at' ps) = kind.ObjectLit
expression_kind (function_expression at i f) = kind.FnExpr
expression_kind (class_expression at i c) = kind.ClassExpr
expression_kind (sequence_expression at x y es) = kind.SeqExpr

abbrev pub bare_part : {t f l : Bool} {n : Node} → IsPart t f l n → Node
bare_part {l = l} (part at raw w r v) = bare (kind.TplElement raw (template_value raw) l) []

abbrev pub bare_parts : {t f : Bool} {es ps : List Node} → AreParts t f es ps → List Node
bare_parts (last_part p) = bare_part p ∷ []
bare_parts (more_parts p e ps) = bare_part p ∷ bare_parts ps

abbrev pub bare_function_name : {n : Node} → IsFunctionName n → Node
bare_function_name (unnamed a) = absent
bare_function_name (function_name i) = bare_ident i

abbrev pub bare_params : List Node → List Node
bare_params ns = map (λ n. bare kind.Param (n ∷ [])) ns

abbrev mutual
  pub expression_parts : {level : Level} {e : Node} → IsExpression level e → List Node
  expression_parts (member at i o k) = bare (expression_kind o) (expression_parts o) ∷ bare (chain_kind k) [] ∷ []
  expression_parts (call at c es none) = bare (expression_kind c) (expression_parts c) ∷ list_node (bare_arguments es) ∷ absent ∷ []
  expression_parts (parenthesized at e) = bare (expression_kind e) (expression_parts e) ∷ []
  expression_parts (looser e) = expression_parts e
  expression_parts (element at at' i o e) = bare (expression_kind o) (expression_parts o) ∷ bare kind.ComputedPropName (bare (expression_kind e) (expression_parts e) ∷ []) ∷ []
  expression_parts (super_member at at' k) = bare kind.Super [] ∷ bare (kind.IdentName (key_word k)) [] ∷ []
  expression_parts (super_element at at' at'' e) = bare kind.Super [] ∷ bare kind.ComputedPropName (bare (expression_kind e) (expression_parts e) ∷ []) ∷ []
  expression_parts (super_call at at' es none) = bare kind.Super [] ∷ list_node (bare_arguments es) ∷ absent ∷ []
  expression_parts (new_expression at i e es none) = bare (expression_kind e) (expression_parts e) ∷ list_node (bare_arguments es) ∷ absent ∷ []
  expression_parts (new_alone at i e none none') = bare (expression_kind e) (expression_parts e) ∷ absent ∷ absent ∷ []
  expression_parts (import_call at at' es none) = bare kind.Import [] ∷ list_node (bare_arguments es) ∷ absent ∷ []
  expression_parts (template at a b ps) = list_node (bare_substitutions ps) ∷ list_node (bare_parts ps) ∷ []
  expression_parts (tagged_template at a b c i o none ps) = bare (expression_kind o) (expression_parts o) ∷ absent ∷ bare kind.Tpl (list_node (bare_substitutions ps) ∷ list_node (bare_parts ps) ∷ []) ∷ []
  expression_parts (chain_member at a i o k) = bare kind.MemberExpr (bare (expression_kind o) (expression_parts o) ∷ bare (chain_kind k) [] ∷ []) ∷ []
  expression_parts (chain_element at a c i o e) = bare kind.MemberExpr (bare (expression_kind o) (expression_parts o) ∷ bare kind.ComputedPropName (bare (expression_kind e) (expression_parts e) ∷ []) ∷ []) ∷ []
  expression_parts (chain_call at a i o es none) = bare kind.OptCall (bare (expression_kind o) (expression_parts o) ∷ list_node (bare_arguments es) ∷ absent ∷ []) ∷ []
  expression_parts (prefix_update at o e) = bare (expression_kind e) (expression_parts e) ∷ []
  expression_parts (postfix_update at o e) = bare (expression_kind e) (expression_parts e) ∷ []
  expression_parts (await_expression at e) = bare (expression_kind e) (expression_parts e) ∷ []
  expression_parts (unary_expression at o e) = bare (expression_kind e) (expression_parts e) ∷ []
  expression_parts (binary_expression at i l r) = bare (expression_kind l) (expression_parts l) ∷ bare (expression_kind r) (expression_parts r) ∷ []
  expression_parts (private_in at at' w t r) = bare (kind.PrivateName w) [] ∷ bare (expression_kind r) (expression_parts r) ∷ []
  expression_parts (exponentiation at l r) = bare (expression_kind l) (expression_parts l) ∷ bare (expression_kind r) (expression_parts r) ∷ []
  expression_parts (both at l r) = bare (expression_kind l) (expression_parts l) ∷ bare (expression_kind r) (expression_parts r) ∷ []
  expression_parts (either at l r) = bare (expression_kind l) (expression_parts l) ∷ bare (expression_kind r) (expression_parts r) ∷ []
  expression_parts (coalesced at i l r) = bare (expression_kind l) (expression_parts l) ∷ bare (expression_kind r) (expression_parts r) ∷ []
  expression_parts (yield_nothing at none) = absent ∷ []
  expression_parts (yield_value at d e) = bare (expression_kind e) (expression_parts e) ∷ []
  expression_parts (assignment_expression at o t v) = bare (expression_kind t) (expression_parts t) ∷ bare (expression_kind v) (expression_parts v) ∷ []
  expression_parts (conditional_expression at t x y) = bare (expression_kind t) (expression_parts t) ∷ bare (expression_kind x) (expression_parts x) ∷ bare (expression_kind y) (expression_parts y) ∷ []
  expression_parts (arrow_function at is_async ps e z a b) = list_node (bare_arguments ps) ∷ bare (expression_kind e) (expression_parts e) ∷ absent ∷ absent ∷ []
  expression_parts (arrow_block at is_async ps b n n') = list_node (bare_arguments ps) ∷ bare_block b ∷ absent ∷ absent ∷ []
  expression_parts (array at at' es) = list_node (bare_slots es) ∷ []
  expression_parts (object_literal at at' ps) = list_node (bare_properties ps) ∷ []
  expression_parts (function_expression at i f) = bare_function_name i ∷ bare_function f ∷ []
  expression_parts (class_expression at i c) = bare_function_name i ∷ bare_class c ∷ []
  expression_parts (sequence_expression at x y es) = bare (expression_kind x) (expression_parts x) ∷ bare (expression_kind y) (expression_parts y) ∷ bare_expressions es
  expression_parts e = []

  pub bare_element : {role : Role} {n : Node} → IsElement role n → Node
  bare_element (one e) = bare (expression_kind e) (expression_parts e)
  bare_element (spread at e) = bare kind.SpreadElement (bare (expression_kind e) (expression_parts e) ∷ [])
  bare_element (bound p) = bare_defaulted p
  bare_element (rest at p a) = bare kind.RestPat (bare_pattern p ∷ absent ∷ [])

  pub bare_slots : {role : Role} {ns : List Node} → AreSlots role ns → List Node
  bare_slots no_slots = []
  bare_slots (filled e es) = bare_element e ∷ bare_slots es
  bare_slots (hole a es) = absent ∷ bare_slots es

  pub bare_property_name : {n : Node} → IsPropertyName n → Node
  bare_property_name (key_name k) = bare (kind.IdentName (key_word k)) []
  bare_property_name (string_name at raw t) = bare (kind.Str (str_value (piece raw 1 (length raw - 1))) (Some raw)) []
  bare_property_name (number_name at raw t) = bare (kind.Number (numeral_of raw) (Some raw)) []
  bare_property_name (big_int_name at raw t) = bare (kind.BigInt (without_separators (piece raw 0 (length raw - 1))) (Some raw)) []
  bare_property_name (computed_name at e) = bare kind.ComputedPropName (bare (expression_kind e) (expression_parts e) ∷ [])

  pub bare_property : {role : Role} {n : Node} → IsProperty role n → Node
  bare_property (key_value at k v) = bare kind.KeyValueProp (bare_property_name k ∷ bare (expression_kind v) (expression_parts v) ∷ [])
  bare_property (shorthand i) = bare_ident i
  bare_property (initialized at i v) = bare kind.AssignProp (bare_ident i ∷ bare (expression_kind v) (expression_parts v) ∷ [])
  bare_property (spread_property at e) = bare kind.SpreadElement (bare (expression_kind e) (expression_parts e) ∷ [])
  bare_property (method_property at k f) = bare kind.MethodProp (bare_property_name k ∷ bare_function f ∷ [])
  bare_property (getter_property at k a b) = bare kind.GetterProp (bare_property_name k ∷ absent ∷ bare_block b ∷ [])
  bare_property (setter_property at k a p b) = bare kind.SetterProp (bare_property_name k ∷ absent ∷ bare_defaulted p ∷ bare_block b ∷ [])
  bare_property (renamed at k p) = bare kind.KeyValuePatProp (bare_property_name k ∷ bare_defaulted p ∷ [])
  bare_property (named at at' i a v) = bare kind.AssignPatProp (bare kind.BindingIdent (bare_ident i ∷ absent ∷ []) ∷ bare_initializer v ∷ [])
  bare_property (rest_property at at' i a b) = bare kind.RestPat (bare kind.BindingIdent (bare_ident i ∷ absent ∷ []) ∷ absent ∷ [])

  pub bare_properties : {role : Role} {ns : List Node} → AreProperties role ns → List Node
  bare_properties no_properties = []
  bare_properties (more_properties p ps) = bare_property p ∷ bare_properties ps

  pub bare_pattern : {n : Node} → IsPattern n → Node
  bare_pattern (name_pattern at i a) = bare kind.BindingIdent (bare_ident i ∷ absent ∷ [])
  bare_pattern (array_pattern at at' es a) = bare (kind.ArrayPat false) (list_node (bare_slots es) ∷ absent ∷ [])
  bare_pattern (object_pattern at at' ps a) = bare (kind.ObjectPat false) (list_node (bare_properties ps) ∷ absent ∷ [])

  pub bare_defaulted : {n : Node} → IsDefaulted n → Node
  bare_defaulted (no_default p) = bare_pattern p
  bare_defaulted (with_default at p e) = bare kind.AssignPat (bare_pattern p ∷ bare (expression_kind e) (expression_parts e) ∷ [])

  pub bare_initializer : {n : Node} → IsInitializer n → Node
  bare_initializer (no_initializer a) = absent
  bare_initializer (initializer e) = bare (expression_kind e) (expression_parts e)

  pub bare_arguments : {role : Role} {n : Node} → IsArguments role n → List Node
  bare_arguments (no_arguments at) = []
  bare_arguments (arguments at e es) = bare_element e ∷ bare_elements es

  pub bare_elements : {role : Role} {es : List Node} → AreElements role es → List Node
  bare_elements no_elements = []
  bare_elements (more_elements e es) = bare_element e ∷ bare_elements es

  pub bare_substitutions : {t f : Bool} {es ps : List Node} → AreParts t f es ps → List Node
  bare_substitutions (last_part p) = []
  bare_substitutions (more_parts p e ps) = bare (expression_kind e) (expression_parts e) ∷ bare_substitutions ps

  pub bare_expressions : {es : List Node} → AreExpressions es → List Node
  bare_expressions no_expressions = []
  bare_expressions (more_expressions e es) = bare (expression_kind e) (expression_parts e) ∷ bare_expressions es

  pub bare_member_name : {private : Bool} {n : Node} → IsMemberName private n → Node
  bare_member_name (property_member k) = bare_property_name k
  bare_member_name (private_member at w t) = bare (kind.PrivateName w) []

  pub bare_declarator : {n : Node} → IsDeclarator n → Node
  bare_declarator (declarator at p e) = bare (kind.VarDeclarator false) (bare_pattern p ∷ bare_initializer e ∷ [])

  pub bare_declarators : {ds : List Node} → AreDeclarators ds → List Node
  bare_declarators no_declarators = []
  bare_declarators (more_declarators d ds) = bare_declarator d ∷ bare_declarators ds

  pub bare_optional : {n : Node} → IsOptional n → Node
  bare_optional (left_out a) = absent
  bare_optional (given e) = bare (expression_kind e) (expression_parts e)

  pub bare_heritage : {n : Node} → IsHeritage n → Node
  bare_heritage (no_heritage a) = absent
  bare_heritage (heritage e) = bare (expression_kind e) (expression_parts e)

  pub bare_for_init : {n : Node} → IsForInit n → Node
  bare_for_init (no_init a) = absent
  bare_for_init (init_declaration at of_list k d ds z) = bare (kind.VarDecl k false) (list_node (bare_declarator d ∷ bare_declarators ds) ∷ [])
  bare_for_init (init_expression e z) = bare (expression_kind e) (expression_parts e)

  pub bare_for_left : {n : Node} → IsForLeft n → Node
  bare_for_left (for_binding at of_list at_declarator k p a) = bare (kind.VarDecl k false) (list_node (bare (kind.VarDeclarator false) (bare_pattern p ∷ absent ∷ []) ∷ []) ∷ [])
  bare_for_left (for_target e z) = bare (expression_kind e) (expression_parts e)

  pub bare_statement : {ending : Ending} {s : Node} → IsStatement ending s → Node
  bare_statement (empty at) = bare kind.EmptyStmt []
  bare_statement (debugger_word at) = bare kind.DebuggerStmt []
  bare_statement (throw at e) = bare kind.ThrowStmt (bare (expression_kind e) (expression_parts e) ∷ [])
  bare_statement (return_value at e) = bare kind.ReturnStmt (bare (expression_kind e) (expression_parts e) ∷ [])
  bare_statement (return_nothing at a) = bare kind.ReturnStmt (absent ∷ [])
  bare_statement (break_nothing at a) = bare kind.BreakStmt (absent ∷ [])
  bare_statement (continue_nothing at a) = bare kind.ContinueStmt (absent ∷ [])
  bare_statement (expression at e z) = bare kind.ExprStmt (bare (expression_kind e) (expression_parts e) ∷ [])
  bare_statement (declaration at at' k d ds) = bare (kind.VarDecl k false) (list_node (bare_declarator d ∷ bare_declarators ds) ∷ [])
  bare_statement (break_label at i) = bare kind.BreakStmt (bare_ident i ∷ [])
  bare_statement (continue_label at i) = bare kind.ContinueStmt (bare_ident i ∷ [])
  bare_statement (block b) = bare_block b
  bare_statement (if_only at e b a) = bare kind.IfStmt (bare (expression_kind e) (expression_parts e) ∷ bare_statement b ∷ absent ∷ [])
  bare_statement (if_else at e b a) = bare kind.IfStmt (bare (expression_kind e) (expression_parts e) ∷ bare_statement b ∷ bare_statement a ∷ [])
  bare_statement (while_loop at e b) = bare kind.WhileStmt (bare (expression_kind e) (expression_parts e) ∷ bare_statement b ∷ [])
  bare_statement (do_loop at e b) = bare kind.DoWhileStmt (bare (expression_kind e) (expression_parts e) ∷ bare_statement b ∷ [])
  bare_statement (switch_statement at at' e cs) = bare kind.SwitchStmt (bare (expression_kind e) (expression_parts e) ∷ list_node (bare_cases cs) ∷ [])
  bare_statement (try_catch at b c a) = bare kind.TryStmt (bare_block b ∷ bare_catch c ∷ absent ∷ [])
  bare_statement (try_finally at b a f) = bare kind.TryStmt (bare_block b ∷ absent ∷ bare_block f ∷ [])
  bare_statement (try_catch_finally at b c f) = bare kind.TryStmt (bare_block b ∷ bare_catch c ∷ bare_block f ∷ [])
  bare_statement (for_loop at i t u b) = bare kind.ForStmt (bare_for_init i ∷ bare_optional t ∷ bare_optional u ∷ bare_statement b ∷ [])
  bare_statement (for_in at l e b) = bare kind.ForInStmt (bare_for_left l ∷ bare (expression_kind e) (expression_parts e) ∷ bare_statement b ∷ [])
  bare_statement (for_of at w l e b) = bare (kind.ForOfStmt w) (bare_for_left l ∷ bare (expression_kind e) (expression_parts e) ∷ bare_statement b ∷ [])
  bare_statement (labeled at i b) = bare kind.LabeledStmt (bare_ident i ∷ bare_statement b ∷ [])
  bare_statement (function_statement at i f) = bare (kind.FnDecl false) (bare_ident i ∷ bare_function f ∷ [])
  bare_statement (class_statement at i c) = bare (kind.ClassDecl false) (bare_ident i ∷ bare_class c ∷ [])

  pub bare_class : {n : Node} → IsClass n → Node
  bare_class (class_of at at' at'' h ms a a') = bare (kind.Class false) (bare_heritage h ∷ list_node (bare_members ms) ∷ absent ∷ absent ∷ list_node [] ∷ [])

  pub bare_member : {n : Node} → IsMember n → Node
  bare_member (empty_member at) = bare kind.EmptyStmt []
  bare_member (static_block at b) = bare kind.StaticBlock (bare_block b ∷ [])
  bare_member (method at s k f z) = bare (method_kind (is_private k) Method s) (bare_member_name k ∷ bare_function f ∷ [])
  bare_member (class_constructor at at' k z ps ws b) = bare (kind.Constructor None false) (bare_property_name k ∷ list_node (bare_params (bare_arguments ps)) ∷ bare_block b ∷ [])
  bare_member (field at s k v a) = bare (field_kind (is_private k) s) (bare_member_name k ∷ bare_initializer v ∷ absent ∷ [])
  bare_member (accessor at at' at'' s b k ps ws body a a') =
      bare (method_kind (is_private k) (accessor_kind b) s) (bare_member_name k ∷ bare (kind.Function false false) (list_node (bare_params (bare_arguments ps)) ∷ bare_block body ∷ absent ∷ absent ∷ []) ∷ [])

  pub bare_members : {ns : List Node} → AreMembers ns → List Node
  bare_members no_members = []
  bare_members (more_members m ms) = bare_member m ∷ bare_members ms

  pub bare_function : {n : Node} → IsFunction n → Node
  bare_function (function_of at at' x y ps w b a a') = bare (kind.Function x y) (list_node (bare_params (bare_arguments ps)) ∷ bare_block b ∷ absent ∷ absent ∷ [])

  pub bare_block : {b : Node} → IsBlock b → Node
  bare_block (block_of at at' ss) = bare kind.BlockStmt (list_node (bare_statements ss) ∷ [])

  pub bare_case : {c : Node} → IsCase c → Node
  bare_case (case_of at at' e ss) = bare kind.SwitchCase (bare (expression_kind e) (expression_parts e) ∷ list_node (bare_statements ss) ∷ [])
  bare_case (default_of at at' a ss) = bare kind.SwitchCase (absent ∷ list_node (bare_statements ss) ∷ [])

  pub bare_cases : {cs : List Node} → AreCases cs → List Node
  bare_cases no_cases = []
  bare_cases (more_cases c cs) = bare_case c ∷ bare_cases cs

  pub bare_catch : {c : Node} → IsCatch c → Node
  bare_catch (catch_any at a b) = bare kind.CatchClause (absent ∷ bare_block b ∷ [])
  bare_catch (catch_pattern at p b) = bare kind.CatchClause (bare_pattern p ∷ bare_block b ∷ [])

  pub bare_statements : {ss : List Node} → AreStatements ss → List Node
  bare_statements no_statements = []
  bare_statements (more_statements s ss) = bare_statement s ∷ bare_statements ss

abbrev pub bare_expression : {level : Level} {e : Node} → IsExpression level e → Node
bare_expression e = bare (expression_kind e) (expression_parts e)
