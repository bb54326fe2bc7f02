-- Expressions, functions and classes are laid out alike with other children that are.
use Rattle.std.proofs.Common.{◌≡◌, refl, ap, ◌∙◌, List, [], ◌∷◌, map, true, false, codes}
use Rattle.ecma_kind.specs.declared.kind.Kind.{Kind}
use Rattle.ecma_kind.specs.declared.kind.Kind.TheVariants as kind
use Rattle.ecma_print.specs.declared.place.Begins.TheVariants.{ArrowBodyStart}
use Rattle.ecma_print.specs.declared.place.Beside.TheVariants.{NoNeighbor, BeforeLink, InChain}
use Rattle.ecma_print.specs.declared.place.Spot.{Spot}
use Rattle.ecma_print.specs.declared.place.Between.TheVariants.{Blank, Equals, Extends}
use Rattle.ecma_print.specs.declared.place.Place.TheVariants.{At, Within, Key, FunctionHead, MethodHead, Block, Arguments, Braces, Brackets}
use Rattle.ecma_print.specs.Pieces.{say, ◌>>◌}
use Rattle.ecma_print.specs.Places.{free, left, right, beginning, gap}
use Rattle.ecma_print.specs.Operators.{unary_word, unary_sign, update_word, update_sign, binary_word, left_level, right_level, under, assign_word}
use Rattle.ecma_print.specs.Laid.{is_computed}
use Rattle.ecma_print.specs.Layout.{laid}
use Rattle.ecma_print.specs.Expressions.{object_beside, is_optional, question_dot, callee_spot, link_of, template_parts, yield_word, operation, link, primary}
use Rattle.ecma_print.specs.Functions.{async_word, static_word, accessor_word, function_text, class_member, property, pattern}
use Rattle.ecma_print.specs.Spots.{first_spots, further_spot}
use Rattle.ecma_print_covers.proofs.Pairs.{AllAlike, Pair, TemplateHasLists, afters, befores, more_of_sequence_alike}

module _ (spot : Spot) where
  pub operation_alike : (k : Kind) (ps : List Pair) → AllAlike ps (first_spots k (map laid (befores ps)) spot) (further_spot k spot) → TemplateHasLists k (befores ps) → operation k (map laid (afters ps)) spot ≡ operation k (map laid (befores ps)) spot
  operation_alike (kind.UnaryExpr op) (a ∷ []) h l = λ i. say (gap spot.beside (unary_sign op)) >> say (unary_word op) >> h.0.at (At (right spot 14 (unary_sign op))) refl i
  operation_alike (kind.UpdateExpr op true) (a ∷ []) h l = λ i. say (gap spot.beside (update_sign op)) >> say (update_word op) >> h.0.at (At (right spot 16 (update_sign op))) refl i
  operation_alike (kind.UpdateExpr op false) (a ∷ []) h l = λ i. h.0.at (At (left spot 16 NoNeighbor)) refl i >> say (update_word op)
  operation_alike (kind.BinExpr op) (a ∷ b ∷ []) h l = λ i. h.0.at (At (left spot (left_level op) (under op))) refl i >> say (binary_word op) >> h.1.0.at (At (right spot (right_level op) (under op))) refl i
  operation_alike (kind.AssignExpr op) (a ∷ b ∷ []) h l = λ i. h.0.at (At (left spot 16 NoNeighbor)) refl i >> say (assign_word op) >> h.1.0.at (At (right spot 1 NoNeighbor)) refl i
  operation_alike kind.CondExpr (a ∷ b ∷ d ∷ []) h l = λ i. h.0.at (At (left spot 3 NoNeighbor)) refl i >> say (codes " ? ") >> h.1.0.at (At (right spot 1 NoNeighbor)) refl i >> say (codes " : ") >> h.1.1.0.at (At (right spot 1 NoNeighbor)) refl i
  operation_alike kind.SeqExpr (a ∷ ps) h l = λ i. h.0.at (At (left spot 1 NoNeighbor)) refl i >> more_of_sequence_alike spot ps h.1 i
  operation_alike (kind.YieldExpr delegate) (a ∷ []) h l = λ i. say (yield_word delegate) >> h.0.at (Within Blank (right spot 1 NoNeighbor)) refl i
  operation_alike kind.AwaitExpr (a ∷ []) h l = λ i. say (codes "await ") >> h.0.at (At (right spot 14 NoNeighbor)) refl i
  operation_alike _ ps h l = refl

  pub link_alike : (k : Kind) (ps : List Pair) → AllAlike ps (first_spots k (map laid (befores ps)) spot) (further_spot k spot) → TemplateHasLists k (befores ps) → link k (map laid (afters ps)) spot ≡ link k (map laid (befores ps)) spot
  link_alike kind.MemberExpr (a ∷ b ∷ []) h l = ap (λ z. (laid a.after).at (At (left spot 16 (object_beside spot.beside z))) >> (laid b.after).at (Key (is_optional spot.beside))) (h.1.0.computed) ∙ (λ i. h.0.at (At (left spot 16 (object_beside spot.beside (is_computed (laid b.before).kind)))) refl i >> h.1.0.at (Key (is_optional spot.beside)) refl i)
  link_alike kind.SuperPropExpr (a ∷ b ∷ []) h l = λ i. h.0.at (At (free 0)) refl i >> h.1.0.at (Key false) refl i
  link_alike kind.CallExpr (a ∷ b ∷ d ∷ []) h l = λ i. h.0.at (At (left spot 16 BeforeLink)) refl i >> h.1.0.at (Arguments) refl i
  link_alike kind.OptCall (a ∷ b ∷ d ∷ []) h l = λ i. h.0.at (At (left spot 16 InChain)) refl i >> say (question_dot (is_optional spot.beside)) >> h.1.0.at (Arguments) refl i
  link_alike kind.NewExpr (a ∷ b ∷ d ∷ []) h l = λ i. say (codes "new ") >> h.0.at (At (callee_spot spot)) refl i >> h.1.0.at (Arguments) refl i
  link_alike (kind.OptChainExpr optional) (a ∷ []) h l = λ i. h.0.at (At (left spot 0 (link_of optional))) refl i
  link_alike kind.Tpl (a ∷ b ∷ []) h l = λ i. say (codes "`") >> template_parts (h.1.0.parts refl l.1 i) (h.0.parts refl l.0 i) >> say (codes "`")
  link_alike kind.TaggedTpl (a ∷ b ∷ d ∷ []) h l = λ i. h.0.at (At (left spot 16 BeforeLink)) refl i >> h.1.1.0.at (At (free 0)) refl i
  link_alike _ ps h l = refl

  pub primary_alike : (k : Kind) (ps : List Pair) → AllAlike ps (first_spots k (map laid (befores ps)) spot) (further_spot k spot) → TemplateHasLists k (befores ps) → primary k (map laid (afters ps)) ≡ primary k (map laid (befores ps))
  primary_alike kind.ParenExpr (a ∷ []) h l = λ i. say (codes "(") >> h.0.at (At (free 0)) refl i >> say (codes ")")
  primary_alike kind.SpreadElement (a ∷ []) h l = λ i. say (codes "...") >> h.0.at (At (free 1)) refl i
  primary_alike kind.ArrayLit (a ∷ ps) h l = λ i. h.0.at (Brackets) refl i
  primary_alike kind.ObjectLit (a ∷ ps) h l = λ i. h.0.at (Braces) refl i
  primary_alike _ ps h l = refl

  pub function_alike : (k : Kind) (ps : List Pair) → AllAlike ps (first_spots k (map laid (befores ps)) spot) (further_spot k spot) → TemplateHasLists k (befores ps) → function_text k (map laid (afters ps)) spot ≡ function_text k (map laid (befores ps)) spot
  function_alike kind.FnExpr (a ∷ b ∷ []) h l = λ i. h.1.0.at (FunctionHead) refl i >> h.0.at (Within Blank (free 1)) refl i >> h.1.0.at (At (free 1)) refl i
  function_alike (kind.FnDecl declare) (a ∷ b ∷ []) h l = λ i. h.1.0.at (FunctionHead) refl i >> h.0.at (Within Blank (free 1)) refl i >> h.1.0.at (At (free 1)) refl i
  function_alike (kind.Function is_generator is_async) (a ∷ b ∷ d ∷ e ∷ []) h l = λ i. h.0.at (Arguments) refl i >> h.1.0.at (Within Blank (free 1)) refl i
  function_alike (kind.ArrowExpr is_async is_generator) (a ∷ b ∷ d ∷ e ∷ []) h l = λ i. say (async_word is_async) >> h.0.at (Arguments) refl i >> say (codes " => ") >> h.1.0.at (At (beginning 1 ArrowBodyStart spot.without_in)) refl i
  function_alike kind.ClassExpr (a ∷ b ∷ []) h l = λ i. say (codes "class") >> h.0.at (Within Blank (free 1)) refl i >> h.1.0.at (At (free 1)) refl i
  function_alike (kind.ClassDecl declare) (a ∷ b ∷ []) h l = λ i. say (codes "class") >> h.0.at (Within Blank (free 1)) refl i >> h.1.0.at (At (free 1)) refl i
  function_alike (kind.Class is_abstract) (a ∷ b ∷ d ∷ e ∷ f ∷ []) h l = λ i. h.0.at (Within Extends (free 16)) refl i >> say (codes " ") >> h.1.0.at (Block) refl i
  function_alike _ ps h l = refl

  pub class_member_alike : (k : Kind) (ps : List Pair) → AllAlike ps (first_spots k (map laid (befores ps)) spot) (further_spot k spot) → TemplateHasLists k (befores ps) → class_member k (map laid (afters ps)) ≡ class_member k (map laid (befores ps))
  class_member_alike (kind.Constructor accessibility is_optional) (a ∷ b ∷ d ∷ []) h l = λ i. h.0.at (At (free 1)) refl i >> h.1.0.at (Arguments) refl i >> h.1.1.0.at (Within Blank (free 1)) refl i
  class_member_alike (kind.ClassMethod sort modifiers) (a ∷ b ∷ []) h l = λ i. say (static_word modifiers.is_static) >> say (accessor_word sort) >> h.1.0.at (MethodHead) refl i >> h.0.at (At (free 1)) refl i >> h.1.0.at (At (free 1)) refl i
  class_member_alike (kind.PrivateMethod sort modifiers) (a ∷ b ∷ []) h l = λ i. say (static_word modifiers.is_static) >> say (accessor_word sort) >> h.1.0.at (MethodHead) refl i >> h.0.at (At (free 1)) refl i >> h.1.0.at (At (free 1)) refl i
  class_member_alike (kind.ClassProp modifiers readonly declare definite) (a ∷ b ∷ d ∷ []) h l = λ i. say (static_word modifiers.is_static) >> h.0.at (At (free 1)) refl i >> h.1.0.at (Within Equals (free 1)) refl i >> say (codes ";")
  class_member_alike (kind.PrivateProp modifiers readonly declare definite) (a ∷ b ∷ d ∷ []) h l = λ i. say (static_word modifiers.is_static) >> h.0.at (At (free 1)) refl i >> h.1.0.at (Within Equals (free 1)) refl i >> say (codes ";")
  class_member_alike kind.StaticBlock (a ∷ []) h l = λ i. say (codes "static ") >> h.0.at (At (free 1)) refl i
  class_member_alike _ ps h l = refl

  pub property_alike : (k : Kind) (ps : List Pair) → AllAlike ps (first_spots k (map laid (befores ps)) spot) (further_spot k spot) → TemplateHasLists k (befores ps) → property k (map laid (afters ps)) spot ≡ property k (map laid (befores ps)) spot
  property_alike kind.KeyValueProp (a ∷ b ∷ []) h l = λ i. h.0.at (At (free 1)) refl i >> say (codes ": ") >> h.1.0.at (At (free 1)) refl i
  property_alike kind.AssignProp (a ∷ b ∷ []) h l = λ i. h.0.at (At (free 1)) refl i >> h.1.0.at (Within Equals (free 1)) refl i
  property_alike kind.GetterProp (a ∷ b ∷ d ∷ []) h l = λ i. say (codes "get ") >> h.0.at (At (free 1)) refl i >> say (codes "()") >> h.1.1.0.at (Within Blank (free 1)) refl i
  property_alike kind.SetterProp (a ∷ b ∷ d ∷ e ∷ []) h l = λ i. say (codes "set ") >> h.0.at (At (free 1)) refl i >> say (codes "(") >> h.1.1.0.at (At (free 1)) refl i >> say (codes ")") >> h.1.1.1.0.at (Within Blank (free 1)) refl i
  property_alike kind.MethodProp (a ∷ b ∷ []) h l = λ i. h.1.0.at (MethodHead) refl i >> h.0.at (At (free 1)) refl i >> h.1.0.at (At (free 1)) refl i
  property_alike kind.ComputedPropName (a ∷ []) h l = λ i. say (codes "[") >> h.0.at (At (free spot.level)) refl i >> say (codes "]")
  property_alike _ ps h l = refl

  pub pattern_alike : (k : Kind) (ps : List Pair) → AllAlike ps (first_spots k (map laid (befores ps)) spot) (further_spot k spot) → TemplateHasLists k (befores ps) → pattern k (map laid (afters ps)) ≡ pattern k (map laid (befores ps))
  pattern_alike kind.BindingIdent (a ∷ ps) h l = λ i. h.0.at (At (free 1)) refl i
  pattern_alike kind.Param (a ∷ ps) h l = λ i. h.0.at (At (free 1)) refl i
  pattern_alike (kind.TsParamProp accessibility is_override readonly) (a ∷ ps) h l = λ i. h.0.at (At (free 1)) refl i
  pattern_alike (kind.ArrayPat optional) (a ∷ ps) h l = λ i. h.0.at (Brackets) refl i
  pattern_alike (kind.ObjectPat optional) (a ∷ ps) h l = λ i. h.0.at (Braces) refl i
  pattern_alike kind.RestPat (a ∷ ps) h l = λ i. say (codes "...") >> h.0.at (At (free 1)) refl i
  pattern_alike kind.AssignPat (a ∷ b ∷ []) h l = λ i. h.0.at (At (free 1)) refl i >> h.1.0.at (Within Equals (free 1)) refl i
  pattern_alike kind.KeyValuePatProp (a ∷ b ∷ []) h l = λ i. h.0.at (At (free 1)) refl i >> say (codes ": ") >> h.1.0.at (At (free 1)) refl i
  pattern_alike kind.AssignPatProp (a ∷ b ∷ []) h l = λ i. h.0.at (At (free 1)) refl i >> h.1.0.at (Within Equals (free 1)) refl i
  pattern_alike _ ps h l = refl
