-- The tree that is read of a statement is the tree without spans.
use Rattle.std.proofs.Common.{true, false, ◌≡◌, List, [], ◌∷◌, map, refl, ap, ap₂, sym, ◌∙◌, Bool, None}
use Rattle.ecma_kind.specs.declared.operators.MethodKind.TheVariants.{Method}
use Rattle.ecma_kind.specs.declared.operators.BinaryOp.TheVariants as op
use Rattle.ecma_kind.specs.declared.kind.Kind.TheVariants as kind
use Rattle.ecma_kind.specs.declared.span.Span.{Span}
use Rattle.ecma_tree.specs.declared.node.Node.{Node}
use Rattle.ecma_tree.specs.Nodes.{absent, list_node, node_of, dummy_span}
use Rattle.ecma_grammar.specs.trees.Parts.{children_of}
use Rattle.ecma_tree.specs.Spans.{without_spans}
use Rattle.ecma_shapes.specs.Shapes as shapes
use Rattle.ecma_shapes.specs.Shapes.{Level, IsIdent, ident, IsKey, key, IsAbsent, IsExpression, IsElement, IsArguments, AreElements, AreExpressions, IsInitializer, IsDeclarator, AreDeclarators, Ending, IsStatement, IsBlock, AreStatements, AreSlots, IsCase, AreCases, IsCatch, IsChainKey, IsOptional, IsForLeft, IsPropertyName, IsProperty, AreProperties, Role, IsPattern, IsDefaulted, IsForInit, IsPart, AreParts, IsFunction, AreParams, IsFunctionName, IsHeritage, IsClass, IsMember, AreMembers, IsMemberName, is_private}
use Rattle.ecma_shapes.specs.MemberKinds.{method_kind, field_kind, accessor_kind}
use Rattle.ecma_shapes.proofs.Tokens.{key_word, chain_kind}
use Rattle.ecma_shapes.proofs.Bare.{bare, bare_ident, bare_expression, bare_element, bare_arguments, bare_elements, bare_expressions, bare_initializer, bare_declarator, bare_declarators, bare_statement, bare_block, bare_statements, bare_slots, bare_case, bare_cases, bare_catch, bare_optional, bare_for_left, bare_property_name, bare_property, bare_properties, bare_pattern, bare_defaulted, bare_for_init, bare_part, bare_parts, bare_substitutions, bare_params, bare_function, bare_function_name, bare_heritage, bare_class, bare_member_name, bare_member, bare_members}
use Rattle.ecma_print_readings.proofs.Unplaced.{without_spans-node}
use Rattle.ecma_print_readings.proofs.Heads.{children-node}

pub absent_bare : {n : Node} → IsAbsent n → without_spans n ≡ absent
absent_bare (shapes.absent at) = without_spans-node at kind.Absent []

pub ident_bare : {n : Node} (i : IsIdent n) → without_spans n ≡ bare_ident i
ident_bare (ident at w i) = without_spans-node at _ []

pub key_bare : {n : Node} (k : IsKey n) → without_spans n ≡ bare (kind.IdentName (key_word k)) []
key_bare (key at w t) = without_spans-node at _ []

chain_key_bare : {n : Node} (k : IsChainKey n) → without_spans n ≡ bare (chain_kind k) []
chain_key_bare (shapes.plain_key k) = key_bare k
chain_key_bare (shapes.private_key at name t) = without_spans-node at _ []

binding_bare : (at : Span) {id none : Node} (i : IsIdent id) → IsAbsent none → without_spans (node_of at kind.BindingIdent (id ∷ none ∷ [])) ≡ bare kind.BindingIdent (bare_ident i ∷ absent ∷ [])
binding_bare at i a = without_spans-node at kind.BindingIdent _ ∙ ap₂ (λ x y. bare kind.BindingIdent (x ∷ y ∷ [])) (ident_bare i) (absent_bare a)

part_bare : {t f l : Bool} {n : Node} (p : IsPart t f l n) → without_spans n ≡ bare_part p
part_bare (shapes.part at raw w r v) = without_spans-node at _ []

parts_bare : {t f : Bool} {es ps : List Node} (is : AreParts t f es ps) → map without_spans ps ≡ bare_parts is
parts_bare (shapes.last_part p) = ap (λ x. x ∷ []) (part_bare p)
parts_bare (shapes.more_parts p e ps) = ap₂ (λ x xs. x ∷ xs) (part_bare p) (parts_bare ps)

pub function_name_bare : {n : Node} (is : IsFunctionName n) → without_spans n ≡ bare_function_name is
function_name_bare (shapes.unnamed a) = absent_bare a
function_name_bare (shapes.function_name i) = ident_bare i

more_params_bare : {es ps : List Node} → AreParams es ps → map without_spans ps ≡ bare_params (map without_spans es)
more_params_bare shapes.no_params = refl
more_params_bare (shapes.more_params at is) = ap₂ (λ x xs. x ∷ xs) (without_spans-node at kind.Param _) (more_params_bare is)

params_bare : (at : Span) {es ps : List Node} (is : IsArguments shapes.bindings (node_of at kind.List es)) → AreParams es ps → without_spans (node_of at kind.List es) ≡ list_node (bare_arguments is) → map without_spans ps ≡ bare_params (bare_arguments is)
params_bare at {es} is ws h =
    let same : list_node (map without_spans es) ≡ list_node (bare_arguments is) = sym (without_spans-node at kind.List es) ∙ h in
    more_params_bare ws
    ∙ ap bare_params (sym (children-node dummy_span kind.List (map without_spans es)) ∙ (ap children_of same ∙ children-node dummy_span kind.List (bare_arguments is)))

mutual
  pub expression_bare : {level : Level} {e : Node} (is : IsExpression level e) → without_spans e ≡ bare_expression is
  expression_bare (shapes.name i) = ident_bare i
  expression_bare (shapes.string at raw t) = without_spans-node at _ []
  expression_bare (shapes.number at raw t) = without_spans-node at _ []
  expression_bare (shapes.this_word at) = without_spans-node at _ []
  expression_bare (shapes.big_int at raw t) = without_spans-node at _ []
  expression_bare (shapes.regex at b f t) = without_spans-node at _ []
  expression_bare (shapes.template at a b ps) =
      without_spans-node at kind.Tpl _ ∙ ap₂ (λ x y. bare kind.Tpl (x ∷ y ∷ [])) (without_spans-node a kind.List _ ∙ ap list_node (substitutions_bare ps)) (without_spans-node b kind.List _ ∙ ap list_node (parts_bare ps))
  expression_bare (shapes.null_word at) = without_spans-node at _ []
  expression_bare (shapes.true_word at) = without_spans-node at _ []
  expression_bare (shapes.false_word at) = without_spans-node at _ []
  expression_bare (shapes.member at i o k) = without_spans-node at kind.MemberExpr _ ∙ ap₂ (λ x y. bare kind.MemberExpr (x ∷ y ∷ [])) (expression_bare o) (chain_key_bare k)
  expression_bare (shapes.call at {none = gone} c es none) = without_spans-node at kind.CallExpr _ ∙ (ap₂ (λ x y. bare kind.CallExpr (x ∷ y ∷ without_spans gone ∷ [])) (expression_bare c) (arguments_bare es) ∙ ap (λ z. bare kind.CallExpr (bare_expression c ∷ list_node (bare_arguments es) ∷ z ∷ [])) (absent_bare none))
  expression_bare (shapes.parenthesized at e) = without_spans-node at kind.ParenExpr _ ∙ ap (λ x. bare kind.ParenExpr (x ∷ [])) (expression_bare e)
  expression_bare (shapes.looser e) = expression_bare e
  expression_bare (shapes.element at at' i o e) =
      without_spans-node at kind.MemberExpr _ ∙ ap₂ (λ x y. bare kind.MemberExpr (x ∷ y ∷ [])) (expression_bare o) (without_spans-node at' kind.ComputedPropName _ ∙ ap (λ x. bare kind.ComputedPropName (x ∷ [])) (expression_bare e))
  expression_bare (shapes.super_member at at' k) = without_spans-node at kind.SuperPropExpr _ ∙ ap₂ (λ x y. bare kind.SuperPropExpr (x ∷ y ∷ [])) (without_spans-node at' kind.Super []) (key_bare k)
  expression_bare (shapes.super_element at at' at'' e) =
      without_spans-node at kind.SuperPropExpr _ ∙ ap₂ (λ x y. bare kind.SuperPropExpr (x ∷ y ∷ [])) (without_spans-node at' kind.Super []) (without_spans-node at'' kind.ComputedPropName _ ∙ ap (λ x. bare kind.ComputedPropName (x ∷ [])) (expression_bare e))
  expression_bare (shapes.super_call at at' {none = gone} es none) =
      without_spans-node at kind.CallExpr _ ∙ (ap₂ (λ x y. bare kind.CallExpr (x ∷ y ∷ without_spans gone ∷ [])) (without_spans-node at' kind.Super []) (arguments_bare es) ∙ ap (λ z. bare kind.CallExpr (bare kind.Super [] ∷ list_node (bare_arguments es) ∷ z ∷ [])) (absent_bare none))
  expression_bare (shapes.new_expression at {none = gone} i e es none) =
      without_spans-node at kind.NewExpr _ ∙ (ap₂ (λ x y. bare kind.NewExpr (x ∷ y ∷ without_spans gone ∷ [])) (expression_bare e) (arguments_bare es) ∙ ap (λ z. bare kind.NewExpr (bare_expression e ∷ list_node (bare_arguments es) ∷ z ∷ [])) (absent_bare none))
  expression_bare (shapes.new_alone at {none' = gone} i e none none') =
      without_spans-node at kind.NewExpr _ ∙ (ap₂ (λ x y. bare kind.NewExpr (x ∷ y ∷ without_spans gone ∷ [])) (expression_bare e) (absent_bare none) ∙ ap (λ z. bare kind.NewExpr (bare_expression e ∷ absent ∷ z ∷ [])) (absent_bare none'))
  expression_bare (shapes.new_target at) = without_spans-node at _ []
  expression_bare (shapes.import_meta at) = without_spans-node at _ []
  expression_bare (shapes.import_call at at' {none = gone} es none) =
      without_spans-node at kind.CallExpr _ ∙ (ap₂ (λ x y. bare kind.CallExpr (x ∷ y ∷ without_spans gone ∷ [])) (without_spans-node at' kind.Import []) (arguments_bare es) ∙ ap (λ z. bare kind.CallExpr (bare kind.Import [] ∷ list_node (bare_arguments es) ∷ z ∷ [])) (absent_bare none))
  expression_bare (shapes.tagged_template at a b c {expressions = es} {parts = qs} i o none ps) =
      let inside = without_spans-node a kind.Tpl (node_of b kind.List es ∷ node_of c kind.List qs ∷ []) ∙ ap₂ (λ x y. bare kind.Tpl (x ∷ y ∷ [])) (without_spans-node b kind.List es ∙ ap list_node (substitutions_bare ps)) (without_spans-node c kind.List qs ∙ ap list_node (parts_bare ps)) in
      without_spans-node at kind.TaggedTpl _
      ∙ (ap₂ (λ x y. bare kind.TaggedTpl (x ∷ y ∷ without_spans (node_of a kind.Tpl (node_of b kind.List es ∷ node_of c kind.List qs ∷ [])) ∷ [])) (expression_bare o) (absent_bare none) ∙ ap (λ z. bare kind.TaggedTpl (bare_expression o ∷ absent ∷ z ∷ [])) inside)
  expression_bare (shapes.chain_member at a {asks = b} i o k) =
      without_spans-node at (kind.OptChainExpr b) _ ∙ ap (λ z. bare (kind.OptChainExpr b) (z ∷ [])) (without_spans-node a kind.MemberExpr _ ∙ ap₂ (λ x y. bare kind.MemberExpr (x ∷ y ∷ [])) (expression_bare o) (chain_key_bare k))
  expression_bare (shapes.chain_element at a c {asks = b} i o e) =
      without_spans-node at (kind.OptChainExpr b) _
      ∙ ap (λ z. bare (kind.OptChainExpr b) (z ∷ []))
      (without_spans-node a kind.MemberExpr _ ∙ ap₂ (λ x y. bare kind.MemberExpr (x ∷ y ∷ [])) (expression_bare o) (without_spans-node c kind.ComputedPropName _ ∙ ap (λ x. bare kind.ComputedPropName (x ∷ [])) (expression_bare e)))
  expression_bare (shapes.chain_call at a {asks = b} {none = gone} i o es none) =
      without_spans-node at (kind.OptChainExpr b) _
      ∙ ap (λ z. bare (kind.OptChainExpr b) (z ∷ []))
      (without_spans-node a kind.OptCall _ ∙ (ap₂ (λ x y. bare kind.OptCall (x ∷ y ∷ without_spans gone ∷ [])) (expression_bare o) (arguments_bare es) ∙ ap (λ z. bare kind.OptCall (bare_expression o ∷ list_node (bare_arguments es) ∷ z ∷ [])) (absent_bare none)))
  expression_bare (shapes.prefix_update at o e) = without_spans-node at (kind.UpdateExpr o true) _ ∙ ap (λ x. bare (kind.UpdateExpr o true) (x ∷ [])) (expression_bare e)
  expression_bare (shapes.postfix_update at o e) = without_spans-node at (kind.UpdateExpr o false) _ ∙ ap (λ x. bare (kind.UpdateExpr o false) (x ∷ [])) (expression_bare e)
  expression_bare (shapes.await_expression at e) = without_spans-node at kind.AwaitExpr _ ∙ ap (λ x. bare kind.AwaitExpr (x ∷ [])) (expression_bare e)
  expression_bare (shapes.unary_expression at o e) = without_spans-node at (kind.UnaryExpr o) _ ∙ ap (λ x. bare (kind.UnaryExpr o) (x ∷ [])) (expression_bare e)
  expression_bare (shapes.binary_expression at {operator = o} i l r) = without_spans-node at (kind.BinExpr o) _ ∙ ap₂ (λ x y. bare (kind.BinExpr o) (x ∷ y ∷ [])) (expression_bare l) (expression_bare r)
  expression_bare (shapes.private_in at at' w t r) = without_spans-node at (kind.BinExpr op.In) _ ∙ ap₂ (λ x y. bare (kind.BinExpr op.In) (x ∷ y ∷ [])) (without_spans-node at' (kind.PrivateName w) []) (expression_bare r)
  expression_bare (shapes.exponentiation at l r) = without_spans-node at (kind.BinExpr op.Exp) _ ∙ ap₂ (λ x y. bare (kind.BinExpr op.Exp) (x ∷ y ∷ [])) (expression_bare l) (expression_bare r)
  expression_bare (shapes.both at l r) = without_spans-node at (kind.BinExpr op.LogicalAnd) _ ∙ ap₂ (λ x y. bare (kind.BinExpr op.LogicalAnd) (x ∷ y ∷ [])) (expression_bare l) (expression_bare r)
  expression_bare (shapes.either at l r) = without_spans-node at (kind.BinExpr op.LogicalOr) _ ∙ ap₂ (λ x y. bare (kind.BinExpr op.LogicalOr) (x ∷ y ∷ [])) (expression_bare l) (expression_bare r)
  expression_bare (shapes.coalesced at i l r) = without_spans-node at (kind.BinExpr op.NullishCoalescing) _ ∙ ap₂ (λ x y. bare (kind.BinExpr op.NullishCoalescing) (x ∷ y ∷ [])) (expression_bare l) (expression_bare r)
  expression_bare (shapes.yield_nothing at none) = without_spans-node at (kind.YieldExpr false) _ ∙ ap (λ x. bare (kind.YieldExpr false) (x ∷ [])) (absent_bare none)
  expression_bare (shapes.yield_value at d e) = without_spans-node at (kind.YieldExpr d) _ ∙ ap (λ x. bare (kind.YieldExpr d) (x ∷ [])) (expression_bare e)
  expression_bare (shapes.assignment_expression at o t v) = without_spans-node at (kind.AssignExpr o) _ ∙ ap₂ (λ x y. bare (kind.AssignExpr o) (x ∷ y ∷ [])) (expression_bare t) (expression_bare v)
  expression_bare (shapes.conditional_expression at {second = y'} t x y) =
      without_spans-node at kind.CondExpr _
      ∙ (ap₂ (λ a b. bare kind.CondExpr (a ∷ b ∷ without_spans y' ∷ [])) (expression_bare t) (expression_bare x) ∙ ap (λ c. bare kind.CondExpr (bare_expression t ∷ bare_expression x ∷ c ∷ [])) (expression_bare y))
  expression_bare (shapes.arrow_function at w {none = n'} {none' = n''} ps e z a b) =
      without_spans-node at (kind.ArrowExpr w false) _
      ∙ (ap₂ (λ x y. bare (kind.ArrowExpr w false) (x ∷ y ∷ without_spans n' ∷ without_spans n'' ∷ [])) (arguments_bare ps) (expression_bare e) ∙ ap₂ (λ x y. bare (kind.ArrowExpr w false) (list_node (bare_arguments ps) ∷ bare_expression e ∷ x ∷ y ∷ [])) (absent_bare a) (absent_bare b))
  expression_bare (shapes.arrow_block at w {none = n'} {none' = n''} ps b x y) =
      without_spans-node at (kind.ArrowExpr w false) _
      ∙ (ap₂ (λ p q. bare (kind.ArrowExpr w false) (p ∷ q ∷ without_spans n' ∷ without_spans n'' ∷ [])) (arguments_bare ps) (block_bare b) ∙ ap₂ (λ p q. bare (kind.ArrowExpr w false) (list_node (bare_arguments ps) ∷ bare_block b ∷ p ∷ q ∷ [])) (absent_bare x) (absent_bare y))
  expression_bare (shapes.array at at' es) = without_spans-node at kind.ArrayLit _ ∙ ap (λ x. bare kind.ArrayLit (x ∷ [])) (without_spans-node at' kind.List _ ∙ ap list_node (slots_bare es))
  expression_bare (shapes.object_literal at at' ps) = without_spans-node at kind.ObjectLit _ ∙ ap (λ x. bare kind.ObjectLit (x ∷ [])) (without_spans-node at' kind.List _ ∙ ap list_node (properties_bare ps))
  expression_bare (shapes.function_expression at i f) = without_spans-node at kind.FnExpr _ ∙ ap₂ (λ x y. bare kind.FnExpr (x ∷ y ∷ [])) (function_name_bare i) (function_bare f)
  expression_bare (shapes.class_expression at i c) = without_spans-node at kind.ClassExpr _ ∙ ap₂ (λ x y. bare kind.ClassExpr (x ∷ y ∷ [])) (function_name_bare i) (class_bare c)
  expression_bare (shapes.sequence_expression at x y es) = without_spans-node at kind.SeqExpr _ ∙ ap₂ (λ z zs. bare kind.SeqExpr (z ∷ zs)) (expression_bare x) (ap₂ (λ b bs. b ∷ bs) (expression_bare y) (expressions_bare es))

  arguments_bare : {role : Role} {n : Node} (is : IsArguments role n) → without_spans n ≡ list_node (bare_arguments is)
  arguments_bare (shapes.no_arguments at) = without_spans-node at kind.List []
  arguments_bare (shapes.arguments at e es) = without_spans-node at kind.List _ ∙ ap₂ (λ x xs. list_node (x ∷ xs)) (element_bare e) (elements_bare es)

  element_bare : {role : Role} {n : Node} (is : IsElement role n) → without_spans n ≡ bare_element is
  element_bare (shapes.one e) = expression_bare e
  element_bare (shapes.spread at e) = without_spans-node at kind.SpreadElement _ ∙ ap (λ x. bare kind.SpreadElement (x ∷ [])) (expression_bare e)
  element_bare (shapes.bound p) = defaulted_bare p
  element_bare (shapes.rest at p a) = without_spans-node at kind.RestPat _ ∙ ap₂ (λ x y. bare kind.RestPat (x ∷ y ∷ [])) (pattern_bare p) (absent_bare a)

  slots_bare : {role : Role} {ns : List Node} (is : AreSlots role ns) → map without_spans ns ≡ bare_slots is
  slots_bare shapes.no_slots = refl
  slots_bare (shapes.filled e es) = ap₂ (λ x xs. x ∷ xs) (element_bare e) (slots_bare es)
  slots_bare (shapes.hole a es) = ap₂ (λ x xs. x ∷ xs) (absent_bare a) (slots_bare es)

  property_name_bare : {n : Node} (is : IsPropertyName n) → without_spans n ≡ bare_property_name is
  property_name_bare (shapes.key_name k) = key_bare k
  property_name_bare (shapes.string_name at raw t) = without_spans-node at _ []
  property_name_bare (shapes.number_name at raw t) = without_spans-node at _ []
  property_name_bare (shapes.big_int_name at raw t) = without_spans-node at _ []
  property_name_bare (shapes.computed_name at e) = without_spans-node at kind.ComputedPropName _ ∙ ap (λ x. bare kind.ComputedPropName (x ∷ [])) (expression_bare e)

  property_bare : {role : Role} {n : Node} (is : IsProperty role n) → without_spans n ≡ bare_property is
  property_bare (shapes.key_value at k v) = without_spans-node at kind.KeyValueProp _ ∙ ap₂ (λ x y. bare kind.KeyValueProp (x ∷ y ∷ [])) (property_name_bare k) (expression_bare v)
  property_bare (shapes.shorthand i) = ident_bare i
  property_bare (shapes.initialized at i v) = without_spans-node at kind.AssignProp _ ∙ ap₂ (λ x y. bare kind.AssignProp (x ∷ y ∷ [])) (ident_bare i) (expression_bare v)
  property_bare (shapes.spread_property at e) = without_spans-node at kind.SpreadElement _ ∙ ap (λ x. bare kind.SpreadElement (x ∷ [])) (expression_bare e)
  property_bare (shapes.method_property at k f) = without_spans-node at kind.MethodProp _ ∙ ap₂ (λ x y. bare kind.MethodProp (x ∷ y ∷ [])) (property_name_bare k) (function_bare f)
  property_bare (shapes.getter_property at {body = b'} k a b) =
      without_spans-node at kind.GetterProp _
      ∙ (ap₂ (λ x y. bare kind.GetterProp (x ∷ y ∷ without_spans b' ∷ [])) (property_name_bare k) (absent_bare a) ∙ ap (λ z. bare kind.GetterProp (bare_property_name k ∷ absent ∷ z ∷ [])) (block_bare b))
  property_bare (shapes.setter_property at {param = p'} {body = b'} k a p b) =
      without_spans-node at kind.SetterProp _
      ∙ (ap₂ (λ x y. bare kind.SetterProp (x ∷ y ∷ without_spans p' ∷ without_spans b' ∷ [])) (property_name_bare k) (absent_bare a) ∙ ap₂ (λ x y. bare kind.SetterProp (bare_property_name k ∷ absent ∷ x ∷ y ∷ [])) (defaulted_bare p) (block_bare b))
  property_bare (shapes.renamed at k p) = without_spans-node at kind.KeyValuePatProp _ ∙ ap₂ (λ x y. bare kind.KeyValuePatProp (x ∷ y ∷ [])) (property_name_bare k) (defaulted_bare p)
  property_bare (shapes.named at at' i a v) = without_spans-node at kind.AssignPatProp _ ∙ ap₂ (λ x y. bare kind.AssignPatProp (x ∷ y ∷ [])) (binding_bare at' i a) (initializer_bare v)
  property_bare (shapes.rest_property at at' i a b) = without_spans-node at kind.RestPat _ ∙ ap₂ (λ x y. bare kind.RestPat (x ∷ y ∷ [])) (binding_bare at' i a) (absent_bare b)

  properties_bare : {role : Role} {ns : List Node} (is : AreProperties role ns) → map without_spans ns ≡ bare_properties is
  properties_bare shapes.no_properties = refl
  properties_bare (shapes.more_properties p ps) = ap₂ (λ x xs. x ∷ xs) (property_bare p) (properties_bare ps)

  pattern_bare : {n : Node} (is : IsPattern n) → without_spans n ≡ bare_pattern is
  pattern_bare (shapes.name_pattern at i a) = binding_bare at i a
  pattern_bare (shapes.array_pattern at at' es a) =
      without_spans-node at (kind.ArrayPat false) _ ∙ ap₂ (λ x y. bare (kind.ArrayPat false) (x ∷ y ∷ [])) (without_spans-node at' kind.List _ ∙ ap list_node (slots_bare es)) (absent_bare a)
  pattern_bare (shapes.object_pattern at at' ps a) =
      without_spans-node at (kind.ObjectPat false) _ ∙ ap₂ (λ x y. bare (kind.ObjectPat false) (x ∷ y ∷ [])) (without_spans-node at' kind.List _ ∙ ap list_node (properties_bare ps)) (absent_bare a)

  defaulted_bare : {n : Node} (is : IsDefaulted n) → without_spans n ≡ bare_defaulted is
  defaulted_bare (shapes.no_default p) = pattern_bare p
  defaulted_bare (shapes.with_default at p e) = without_spans-node at kind.AssignPat _ ∙ ap₂ (λ x y. bare kind.AssignPat (x ∷ y ∷ [])) (pattern_bare p) (expression_bare e)

  initializer_bare : {n : Node} (is : IsInitializer n) → without_spans n ≡ bare_initializer is
  initializer_bare (shapes.no_initializer a) = absent_bare a
  initializer_bare (shapes.initializer e) = expression_bare e

  elements_bare : {role : Role} {es : List Node} (is : AreElements role es) → map without_spans es ≡ bare_elements is
  elements_bare shapes.no_elements = refl
  elements_bare (shapes.more_elements e es) = ap₂ (λ x xs. x ∷ xs) (element_bare e) (elements_bare es)

  substitutions_bare : {t f : Bool} {es ps : List Node} (is : AreParts t f es ps) → map without_spans es ≡ bare_substitutions is
  substitutions_bare (shapes.last_part p) = refl
  substitutions_bare (shapes.more_parts p e ps) = ap₂ (λ x xs. x ∷ xs) (expression_bare e) (substitutions_bare ps)

  expressions_bare : {es : List Node} (is : AreExpressions es) → map without_spans es ≡ bare_expressions is
  expressions_bare shapes.no_expressions = refl
  expressions_bare (shapes.more_expressions e es) = ap₂ (λ x xs. x ∷ xs) (expression_bare e) (expressions_bare es)

  declarator_bare : {n : Node} (is : IsDeclarator n) → without_spans n ≡ bare_declarator is
  declarator_bare (shapes.declarator at p e) = without_spans-node at (kind.VarDeclarator false) _ ∙ ap₂ (λ x y. bare (kind.VarDeclarator false) (x ∷ y ∷ [])) (pattern_bare p) (initializer_bare e)

  declarators_bare : {ds : List Node} (is : AreDeclarators ds) → map without_spans ds ≡ bare_declarators is
  declarators_bare shapes.no_declarators = refl
  declarators_bare (shapes.more_declarators d ds) = ap₂ (λ x xs. x ∷ xs) (declarator_bare d) (declarators_bare ds)

  optional_bare : {n : Node} (is : IsOptional n) → without_spans n ≡ bare_optional is
  optional_bare (shapes.left_out a) = absent_bare a
  optional_bare (shapes.given e) = expression_bare e

  for_init_bare : {n : Node} (is : IsForInit n) → without_spans n ≡ bare_for_init is
  for_init_bare (shapes.no_init a) = absent_bare a
  for_init_bare (shapes.init_declaration at of_list k d ds z) =
      without_spans-node at (kind.VarDecl k false) _ ∙ ap (λ x. bare (kind.VarDecl k false) (x ∷ [])) (without_spans-node of_list kind.List _ ∙ ap₂ (λ x xs. list_node (x ∷ xs)) (declarator_bare d) (declarators_bare ds))
  for_init_bare (shapes.init_expression e z) = expression_bare e

  for_left_bare : {n : Node} (is : IsForLeft n) → without_spans n ≡ bare_for_left is
  for_left_bare (shapes.for_binding at of_list at_declarator k p a) =
      without_spans-node at (kind.VarDecl k false) _
      ∙ ap (λ x. bare (kind.VarDecl k false) (x ∷ []))
      (without_spans-node of_list kind.List _
      ∙ ap (λ x. list_node (x ∷ []))
      (without_spans-node at_declarator (kind.VarDeclarator false) _ ∙ ap₂ (λ x y. bare (kind.VarDeclarator false) (x ∷ y ∷ [])) (pattern_bare p) (absent_bare a)))
  for_left_bare (shapes.for_target e z) = expression_bare e

  member_name_bare : {private : Bool} {n : Node} (is : IsMemberName private n) → without_spans n ≡ bare_member_name is
  member_name_bare (shapes.property_member k) = property_name_bare k
  member_name_bare (shapes.private_member at w t) = without_spans-node at (kind.PrivateName w) []

  heritage_bare : {n : Node} (is : IsHeritage n) → without_spans n ≡ bare_heritage is
  heritage_bare (shapes.no_heritage a) = absent_bare a
  heritage_bare (shapes.heritage e) = expression_bare e

  pub statement_bare : {ending : Ending} {n : Node} (is : IsStatement ending n) → without_spans n ≡ bare_statement is
  statement_bare (shapes.empty at) = without_spans-node at kind.EmptyStmt []
  statement_bare (shapes.debugger_word at) = without_spans-node at kind.DebuggerStmt []
  statement_bare (shapes.throw at e) = without_spans-node at kind.ThrowStmt _ ∙ ap (λ x. bare kind.ThrowStmt (x ∷ [])) (expression_bare e)
  statement_bare (shapes.return_value at e) = without_spans-node at kind.ReturnStmt _ ∙ ap (λ x. bare kind.ReturnStmt (x ∷ [])) (expression_bare e)
  statement_bare (shapes.return_nothing at a) = without_spans-node at kind.ReturnStmt _ ∙ ap (λ x. bare kind.ReturnStmt (x ∷ [])) (absent_bare a)
  statement_bare (shapes.break_nothing at a) = without_spans-node at kind.BreakStmt _ ∙ ap (λ x. bare kind.BreakStmt (x ∷ [])) (absent_bare a)
  statement_bare (shapes.continue_nothing at a) = without_spans-node at kind.ContinueStmt _ ∙ ap (λ x. bare kind.ContinueStmt (x ∷ [])) (absent_bare a)
  statement_bare (shapes.expression at e z) = without_spans-node at kind.ExprStmt _ ∙ ap (λ x. bare kind.ExprStmt (x ∷ [])) (expression_bare e)
  statement_bare (shapes.declaration at at' k d ds) =
      without_spans-node at (kind.VarDecl k false) _ ∙ ap (λ x. bare (kind.VarDecl k false) (x ∷ [])) (without_spans-node at' kind.List _ ∙ ap₂ (λ x xs. list_node (x ∷ xs)) (declarator_bare d) (declarators_bare ds))
  statement_bare (shapes.break_label at i) = without_spans-node at kind.BreakStmt _ ∙ ap (λ x. bare kind.BreakStmt (x ∷ [])) (ident_bare i)
  statement_bare (shapes.continue_label at i) = without_spans-node at kind.ContinueStmt _ ∙ ap (λ x. bare kind.ContinueStmt (x ∷ [])) (ident_bare i)
  statement_bare (shapes.block b) = block_bare b
  statement_bare (shapes.if_only at {none = n'} e b a) =
      without_spans-node at kind.IfStmt _
      ∙ (ap₂ (λ x y. bare kind.IfStmt (x ∷ y ∷ without_spans n' ∷ [])) (expression_bare e) (statement_bare b) ∙ ap (λ z. bare kind.IfStmt (bare_expression e ∷ bare_statement b ∷ z ∷ [])) (absent_bare a))
  statement_bare (shapes.if_else at {alternative = a'} e b a) =
      without_spans-node at kind.IfStmt _
      ∙ (ap₂ (λ x y. bare kind.IfStmt (x ∷ y ∷ without_spans a' ∷ [])) (expression_bare e) (statement_bare b) ∙ ap (λ z. bare kind.IfStmt (bare_expression e ∷ bare_statement b ∷ z ∷ [])) (statement_bare a))
  statement_bare (shapes.while_loop at e b) = without_spans-node at kind.WhileStmt _ ∙ ap₂ (λ x y. bare kind.WhileStmt (x ∷ y ∷ [])) (expression_bare e) (statement_bare b)
  statement_bare (shapes.do_loop at e b) = without_spans-node at kind.DoWhileStmt _ ∙ ap₂ (λ x y. bare kind.DoWhileStmt (x ∷ y ∷ [])) (expression_bare e) (statement_bare b)
  statement_bare (shapes.switch_statement at at' e cs) = without_spans-node at kind.SwitchStmt _ ∙ ap₂ (λ x y. bare kind.SwitchStmt (x ∷ y ∷ [])) (expression_bare e) (without_spans-node at' kind.List _ ∙ ap list_node (cases_bare cs))
  statement_bare (shapes.try_catch at {none = n'} b c a) =
      without_spans-node at kind.TryStmt _
      ∙ (ap₂ (λ x y. bare kind.TryStmt (x ∷ y ∷ without_spans n' ∷ [])) (block_bare b) (catch_bare c) ∙ ap (λ z. bare kind.TryStmt (bare_block b ∷ bare_catch c ∷ z ∷ [])) (absent_bare a))
  statement_bare (shapes.try_finally at {f = f'} b a f) =
      without_spans-node at kind.TryStmt _
      ∙ (ap₂ (λ x y. bare kind.TryStmt (x ∷ y ∷ without_spans f' ∷ [])) (block_bare b) (absent_bare a) ∙ ap (λ z. bare kind.TryStmt (bare_block b ∷ absent ∷ z ∷ [])) (block_bare f))
  statement_bare (shapes.try_catch_finally at {f = f'} b c f) =
      without_spans-node at kind.TryStmt _
      ∙ (ap₂ (λ x y. bare kind.TryStmt (x ∷ y ∷ without_spans f' ∷ [])) (block_bare b) (catch_bare c) ∙ ap (λ z. bare kind.TryStmt (bare_block b ∷ bare_catch c ∷ z ∷ [])) (block_bare f))
  statement_bare (shapes.for_loop at {update = u'} {body = b'} i t u b) =
      without_spans-node at kind.ForStmt _
      ∙ (ap₂ (λ x y. bare kind.ForStmt (x ∷ y ∷ without_spans u' ∷ without_spans b' ∷ [])) (for_init_bare i) (optional_bare t)
      ∙ ap₂ (λ x y. bare kind.ForStmt (bare_for_init i ∷ bare_optional t ∷ x ∷ y ∷ [])) (optional_bare u) (statement_bare b))
  statement_bare (shapes.for_in at {body = b'} l e b) =
      without_spans-node at kind.ForInStmt _
      ∙ (ap₂ (λ x y. bare kind.ForInStmt (x ∷ y ∷ without_spans b' ∷ [])) (for_left_bare l) (expression_bare e) ∙ ap (λ z. bare kind.ForInStmt (bare_for_left l ∷ bare_expression e ∷ z ∷ [])) (statement_bare b))
  statement_bare (shapes.for_of at w {body = b'} l e b) =
      without_spans-node at (kind.ForOfStmt w) _
      ∙ (ap₂ (λ x y. bare (kind.ForOfStmt w) (x ∷ y ∷ without_spans b' ∷ [])) (for_left_bare l) (expression_bare e) ∙ ap (λ z. bare (kind.ForOfStmt w) (bare_for_left l ∷ bare_expression e ∷ z ∷ [])) (statement_bare b))
  statement_bare (shapes.labeled at i b) = without_spans-node at kind.LabeledStmt _ ∙ ap₂ (λ x y. bare kind.LabeledStmt (x ∷ y ∷ [])) (ident_bare i) (statement_bare b)
  statement_bare (shapes.function_statement at i f) = without_spans-node at (kind.FnDecl false) _ ∙ ap₂ (λ z zs. bare (kind.FnDecl false) (z ∷ zs ∷ [])) (ident_bare i) (function_bare f)
  statement_bare (shapes.class_statement at i c) = without_spans-node at (kind.ClassDecl false) _ ∙ ap₂ (λ z zs. bare (kind.ClassDecl false) (z ∷ zs ∷ [])) (ident_bare i) (class_bare c)

  pub class_bare : {n : Node} (is : IsClass n) → without_spans n ≡ bare_class is
  class_bare (shapes.class_of at at' at'' {none = n'} {none' = n''} h ms a a') =
      without_spans-node at (kind.Class false) _
      ∙ (ap₂ (λ x y. bare (kind.Class false) (x ∷ y ∷ without_spans n' ∷ without_spans n'' ∷ without_spans (node_of at'' kind.List []) ∷ [])) (heritage_bare h) (without_spans-node at' kind.List _ ∙ ap list_node (members_bare ms))
      ∙ (ap₂ (λ x y. bare (kind.Class false) (bare_heritage h ∷ list_node (bare_members ms) ∷ x ∷ y ∷ without_spans (node_of at'' kind.List []) ∷ [])) (absent_bare a) (absent_bare a')
      ∙ ap (λ x. bare (kind.Class false) (bare_heritage h ∷ list_node (bare_members ms) ∷ absent ∷ absent ∷ x ∷ [])) (without_spans-node at'' kind.List [])))

  member_bare : {n : Node} (is : IsMember n) → without_spans n ≡ bare_member is
  member_bare (shapes.empty_member at) = without_spans-node at kind.EmptyStmt []
  member_bare (shapes.static_block at b) = without_spans-node at kind.StaticBlock _ ∙ ap (λ x. bare kind.StaticBlock (x ∷ [])) (block_bare b)
  member_bare (shapes.method at s k f z) = without_spans-node at (method_kind (is_private k) Method s) _ ∙ ap₂ (λ x y. bare (method_kind (is_private k) Method s) (x ∷ y ∷ [])) (member_name_bare k) (function_bare f)
  member_bare (shapes.class_constructor at at' {body = b'} k z ps ws b) =
      without_spans-node at (kind.Constructor None false) _
      ∙ (ap₂ (λ x y. bare (kind.Constructor None false) (x ∷ y ∷ without_spans b' ∷ [])) (property_name_bare k) (without_spans-node at' kind.List _ ∙ ap list_node (params_bare at' ps ws (arguments_bare ps)))
      ∙ ap (λ z. bare (kind.Constructor None false) (bare_property_name k ∷ list_node (bare_params (bare_arguments ps)) ∷ z ∷ [])) (block_bare b))
  member_bare (shapes.field at s {none = n'} k v a) =
      without_spans-node at (field_kind (is_private k) s) _
      ∙ (ap₂ (λ x y. bare (field_kind (is_private k) s) (x ∷ y ∷ without_spans n' ∷ [])) (member_name_bare k) (initializer_bare v)
      ∙ ap (λ z. bare (field_kind (is_private k) s) (bare_member_name k ∷ bare_initializer v ∷ z ∷ [])) (absent_bare a))
  member_bare (shapes.accessor at at' at'' s b {none = n'} {none' = n''} k ps ws body a a') =
      without_spans-node at (method_kind (is_private k) (accessor_kind b) s) _
      ∙ ap₂ (λ x y. bare (method_kind (is_private k) (accessor_kind b) s) (x ∷ y ∷ [])) (member_name_bare k)
      (without_spans-node at' (kind.Function false false) _
      ∙ (ap₂ (λ p q. bare (kind.Function false false) (p ∷ q ∷ without_spans n' ∷ without_spans n'' ∷ [])) (without_spans-node at'' kind.List _ ∙ ap list_node (params_bare at'' ps ws (arguments_bare ps))) (block_bare body)
      ∙ ap₂ (λ p q. bare (kind.Function false false) (list_node (bare_params (bare_arguments ps)) ∷ bare_block body ∷ p ∷ q ∷ [])) (absent_bare a) (absent_bare a')))

  members_bare : {ns : List Node} (is : AreMembers ns) → map without_spans ns ≡ bare_members is
  members_bare shapes.no_members = refl
  members_bare (shapes.more_members m ms) = ap₂ (λ x xs. x ∷ xs) (member_bare m) (members_bare ms)

  pub function_bare : {n : Node} (is : IsFunction n) → without_spans n ≡ bare_function is
  function_bare (shapes.function_of at at' x y {none = n'} {none' = n''} ps ws b a a') =
      without_spans-node at (kind.Function x y) _
      ∙ (ap₂ (λ p q. bare (kind.Function x y) (p ∷ q ∷ without_spans n' ∷ without_spans n'' ∷ [])) (without_spans-node at' kind.List _ ∙ ap list_node (params_bare at' ps ws (arguments_bare ps))) (block_bare b)
      ∙ ap₂ (λ p q. bare (kind.Function x y) (list_node (bare_params (bare_arguments ps)) ∷ bare_block b ∷ p ∷ q ∷ [])) (absent_bare a) (absent_bare a'))

  block_bare : {n : Node} (is : IsBlock n) → without_spans n ≡ bare_block is
  block_bare (shapes.block_of at at' ss) = without_spans-node at kind.BlockStmt _ ∙ ap (λ x. bare kind.BlockStmt (x ∷ [])) (without_spans-node at' kind.List _ ∙ ap list_node (statements_bare ss))

  case_bare : {n : Node} (is : IsCase n) → without_spans n ≡ bare_case is
  case_bare (shapes.case_of at at' e ss) = without_spans-node at kind.SwitchCase _ ∙ ap₂ (λ x y. bare kind.SwitchCase (x ∷ y ∷ [])) (expression_bare e) (without_spans-node at' kind.List _ ∙ ap list_node (statements_bare ss))
  case_bare (shapes.default_of at at' a ss) = without_spans-node at kind.SwitchCase _ ∙ ap₂ (λ x y. bare kind.SwitchCase (x ∷ y ∷ [])) (absent_bare a) (without_spans-node at' kind.List _ ∙ ap list_node (statements_bare ss))

  cases_bare : {cs : List Node} (is : AreCases cs) → map without_spans cs ≡ bare_cases is
  cases_bare shapes.no_cases = refl
  cases_bare (shapes.more_cases c cs) = ap₂ (λ x xs. x ∷ xs) (case_bare c) (cases_bare cs)

  catch_bare : {n : Node} (is : IsCatch n) → without_spans n ≡ bare_catch is
  catch_bare (shapes.catch_any at a b) = without_spans-node at kind.CatchClause _ ∙ ap₂ (λ x y. bare kind.CatchClause (x ∷ y ∷ [])) (absent_bare a) (block_bare b)
  catch_bare (shapes.catch_pattern at p b) = without_spans-node at kind.CatchClause _ ∙ ap₂ (λ x y. bare kind.CatchClause (x ∷ y ∷ [])) (pattern_bare p) (block_bare b)

  statements_bare : {ss : List Node} (is : AreStatements ss) → map without_spans ss ≡ bare_statements is
  statements_bare shapes.no_statements = refl
  statements_bare (shapes.more_statements s ss) = ap₂ (λ x xs. x ∷ xs) (statement_bare s) (statements_bare ss)
