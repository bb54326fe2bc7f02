-- Expressions, functions and classes are laid out alike with their children in their spots.
use Rattle.std.proofs.Common.{◌≡◌, refl, ap, ◌∙◌, List, [], ◌∷◌, map, true, false, codes}
use Rattle.ecma_kind.specs.declared.kind.Kind.{Kind}
use Rattle.ecma_kind.specs.declared.kind.Kind.TheVariants as kind
use Rattle.ecma_print.specs.declared.place.Begins.TheVariants.{ArrowBodyStart}
use Rattle.ecma_print.specs.declared.place.Beside.TheVariants.{NoNeighbor, BeforeLink, InChain}
use Rattle.ecma_print.specs.declared.place.Spot.{Spot}
use Rattle.ecma_print.specs.declared.place.Between.TheVariants.{Blank, Equals, Extends}
use Rattle.ecma_print.specs.declared.place.Place.TheVariants.{At, Within, Key, FunctionHead, MethodHead, Block, Arguments, Braces, Brackets}
use Rattle.ecma_print.specs.Pieces.{say, ◌>>◌}
use Rattle.ecma_print.specs.Places.{free, left, right, beginning, gap}
use Rattle.ecma_print.specs.Operators.{unary_word, unary_sign, update_word, update_sign, binary_word, left_level, right_level, under, assign_word}
use Rattle.ecma_print.specs.Laid.{is_computed}
use Rattle.ecma_print.specs.Layout.{laid}
use Rattle.ecma_print.specs.Expressions.{object_beside, is_optional, question_dot, callee_spot, link_of, template_parts, yield_word, operation, link, primary}
use Rattle.ecma_print.specs.Functions.{async_word, static_word, accessor_word, function_text, class_member, property, pattern}
use Rattle.ecma_print.specs.Explicit.{stood}
use Rattle.ecma_print_parentheses.proofs.Asking.{Fits, left_fits, right_fits, said_where_free}
use Rattle.ecma_print_parentheses.proofs.Spotted.{spotted}
use Rattle.ecma_print_parentheses.proofs.Places.{Child, nodes, TemplateHasLists, more_of_sequence_alike}
use Rattle.ecma_print_parentheses.proofs.Shaped.{AllShaped}

module _ (spot : Spot) (fits : Fits spot) where
  pub operation_alike : (k : Kind) (ns : List Child) → AllShaped (nodes ns) → TemplateHasLists k (nodes ns) → operation k (map laid (spotted k (nodes ns) spot)) spot ≡ operation k (map laid (nodes ns)) spot
  operation_alike (kind.UnaryExpr op) (a ∷ []) h l = λ i. say (gap spot.beside (unary_sign op)) >> say (unary_word op) >> a.1.at h.0 (At (right spot 14 (unary_sign op))) refl i
  operation_alike (kind.UpdateExpr op true) (a ∷ []) h l = λ i. say (gap spot.beside (update_sign op)) >> say (update_word op) >> a.1.at h.0 (At (right spot 16 (update_sign op))) refl i
  operation_alike (kind.UpdateExpr op false) (a ∷ []) h l = λ i. a.1.at h.0 (At (left spot 16 NoNeighbor)) refl i >> say (update_word op)
  operation_alike (kind.BinExpr op) (a ∷ b ∷ []) h l = λ i. a.1.at h.0 (At (left spot (left_level op) (under op))) (left_fits op) i >> say (binary_word op) >> b.1.at h.1.0 (At (right spot (right_level op) (under op))) (right_fits op) i
  operation_alike (kind.AssignExpr op) (a ∷ b ∷ []) h l = λ i. a.1.at h.0 (At (left spot 16 NoNeighbor)) refl i >> say (assign_word op) >> b.1.at h.1.0 (At (right spot 1 NoNeighbor)) refl i
  operation_alike kind.CondExpr (a ∷ b ∷ d ∷ []) h l = λ i. a.1.at h.0 (At (left spot 3 NoNeighbor)) refl i >> say (codes " ? ") >> b.1.at h.1.0 (At (right spot 1 NoNeighbor)) refl i >> say (codes " : ") >> d.1.at h.1.1.0 (At (right spot 1 NoNeighbor)) refl i
  operation_alike kind.SeqExpr (a ∷ ns) h l = λ i. a.1.at h.0 (At (left spot 1 NoNeighbor)) refl i >> more_of_sequence_alike spot ns h.1 i
  operation_alike (kind.YieldExpr delegate) (a ∷ []) h l = λ i. say (yield_word delegate) >> a.1.at h.0 (Within Blank (right spot 1 NoNeighbor)) refl i
  operation_alike kind.AwaitExpr (a ∷ []) h l = λ i. say (codes "await ") >> a.1.at h.0 (At (right spot 14 NoNeighbor)) refl i
  operation_alike _ ns h l = refl

  pub link_alike : (k : Kind) (ns : List Child) → AllShaped (nodes ns) → TemplateHasLists k (nodes ns) → link k (map laid (spotted k (nodes ns) spot)) spot ≡ link k (map laid (nodes ns)) spot
  link_alike kind.MemberExpr (a ∷ b ∷ []) h l = ap (λ z. (laid ((stood a.0).at (left spot 16 (object_beside spot.beside (is_computed (laid b.0).kind))))).at (At (left spot 16 (object_beside spot.beside z))) >> (laid ((stood b.0).at (free 0))).at (Key (is_optional spot.beside))) (said_where_free is_computed refl b.0) ∙ (λ i. a.1.at h.0 (At (left spot 16 (object_beside spot.beside (is_computed (laid b.0).kind)))) refl i >> b.1.at h.1.0 (Key (is_optional spot.beside)) refl i)
  link_alike kind.SuperPropExpr (a ∷ b ∷ []) h l = λ i. a.1.at h.0 (At (free 0)) refl i >> b.1.at h.1.0 (Key false) refl i
  link_alike kind.CallExpr (a ∷ b ∷ d ∷ []) h l = λ i. a.1.at h.0 (At (left spot 16 BeforeLink)) refl i >> b.1.at h.1.0 (Arguments) refl i
  link_alike kind.OptCall (a ∷ b ∷ d ∷ []) h l = λ i. a.1.at h.0 (At (left spot 16 InChain)) refl i >> say (question_dot (is_optional spot.beside)) >> b.1.at h.1.0 (Arguments) refl i
  link_alike kind.NewExpr (a ∷ b ∷ d ∷ []) h l = λ i. say (codes "new ") >> a.1.at h.0 (At (callee_spot spot)) refl i >> b.1.at h.1.0 (Arguments) refl i
  link_alike (kind.OptChainExpr optional) (a ∷ []) h l = λ i. a.1.at h.0 (At (left spot 0 (link_of optional))) refl i
  link_alike kind.Tpl (a ∷ b ∷ []) h l = λ i. say (codes "`") >> template_parts (b.1.parts h.1.0 l.1 i) (a.1.parts h.0 l.0 i) >> say (codes "`")
  link_alike kind.TaggedTpl (a ∷ b ∷ d ∷ []) h l = λ i. a.1.at h.0 (At (left spot 16 BeforeLink)) refl i >> d.1.at h.1.1.0 (At (free 0)) refl i
  link_alike _ ns h l = refl

  pub primary_alike : (k : Kind) (ns : List Child) → AllShaped (nodes ns) → TemplateHasLists k (nodes ns) → primary k (map laid (spotted k (nodes ns) spot)) ≡ primary k (map laid (nodes ns))
  primary_alike kind.ParenExpr (a ∷ []) h l = λ i. say (codes "(") >> a.1.at h.0 (At (free 0)) refl i >> say (codes ")")
  primary_alike kind.SpreadElement (a ∷ []) h l = λ i. say (codes "...") >> a.1.at h.0 (At (free 1)) refl i
  primary_alike kind.ArrayLit (a ∷ ns) h l = λ i. a.1.at h.0 (Brackets) refl i
  primary_alike kind.ObjectLit (a ∷ ns) h l = λ i. a.1.at h.0 (Braces) refl i
  primary_alike _ ns h l = refl

  pub function_alike : (k : Kind) (ns : List Child) → AllShaped (nodes ns) → TemplateHasLists k (nodes ns) → function_text k (map laid (spotted k (nodes ns) spot)) spot ≡ function_text k (map laid (nodes ns)) spot
  function_alike kind.FnExpr (a ∷ b ∷ []) h l = λ i. b.1.at h.1.0 (FunctionHead) refl i >> a.1.at h.0 (Within Blank (free 1)) refl i >> b.1.at h.1.0 (At (free 1)) refl i
  function_alike (kind.FnDecl declare) (a ∷ b ∷ []) h l = λ i. b.1.at h.1.0 (FunctionHead) refl i >> a.1.at h.0 (Within Blank (free 1)) refl i >> b.1.at h.1.0 (At (free 1)) refl i
  function_alike (kind.Function is_generator is_async) (a ∷ b ∷ d ∷ e ∷ []) h l = λ i. a.1.at h.0 (Arguments) refl i >> b.1.at h.1.0 (Within Blank (free 1)) refl i
  function_alike (kind.ArrowExpr is_async is_generator) (a ∷ b ∷ d ∷ e ∷ []) h l = λ i. say (async_word is_async) >> a.1.at h.0 (Arguments) refl i >> say (codes " => ") >> b.1.at h.1.0 (At (beginning 1 ArrowBodyStart spot.without_in)) refl i
  function_alike kind.ClassExpr (a ∷ b ∷ []) h l = λ i. say (codes "class") >> a.1.at h.0 (Within Blank (free 1)) refl i >> b.1.at h.1.0 (At (free 1)) refl i
  function_alike (kind.ClassDecl declare) (a ∷ b ∷ []) h l = λ i. say (codes "class") >> a.1.at h.0 (Within Blank (free 1)) refl i >> b.1.at h.1.0 (At (free 1)) refl i
  function_alike (kind.Class is_abstract) (a ∷ b ∷ d ∷ e ∷ f ∷ []) h l = λ i. a.1.at h.0 (Within Extends (free 16)) refl i >> say (codes " ") >> b.1.at h.1.0 (Block) refl i
  function_alike _ ns h l = refl

  pub class_member_alike : (k : Kind) (ns : List Child) → AllShaped (nodes ns) → TemplateHasLists k (nodes ns) → class_member k (map laid (spotted k (nodes ns) spot)) ≡ class_member k (map laid (nodes ns))
  class_member_alike (kind.Constructor accessibility is_optional) (a ∷ b ∷ d ∷ []) h l = λ i. a.1.at h.0 (At (free 1)) refl i >> b.1.at h.1.0 (Arguments) refl i >> d.1.at h.1.1.0 (Within Blank (free 1)) refl i
  class_member_alike (kind.ClassMethod sort modifiers) (a ∷ b ∷ []) h l = λ i. say (static_word modifiers.is_static) >> say (accessor_word sort) >> b.1.at h.1.0 (MethodHead) refl i >> a.1.at h.0 (At (free 1)) refl i >> b.1.at h.1.0 (At (free 1)) refl i
  class_member_alike (kind.PrivateMethod sort modifiers) (a ∷ b ∷ []) h l = λ i. say (static_word modifiers.is_static) >> say (accessor_word sort) >> b.1.at h.1.0 (MethodHead) refl i >> a.1.at h.0 (At (free 1)) refl i >> b.1.at h.1.0 (At (free 1)) refl i
  class_member_alike (kind.ClassProp modifiers readonly declare definite) (a ∷ b ∷ d ∷ []) h l = λ i. say (static_word modifiers.is_static) >> a.1.at h.0 (At (free 1)) refl i >> b.1.at h.1.0 (Within Equals (free 1)) refl i >> say (codes ";")
  class_member_alike (kind.PrivateProp modifiers readonly declare definite) (a ∷ b ∷ d ∷ []) h l = λ i. say (static_word modifiers.is_static) >> a.1.at h.0 (At (free 1)) refl i >> b.1.at h.1.0 (Within Equals (free 1)) refl i >> say (codes ";")
  class_member_alike kind.StaticBlock (a ∷ []) h l = λ i. say (codes "static ") >> a.1.at h.0 (At (free 1)) refl i
  class_member_alike _ ns h l = refl

  pub property_alike : (k : Kind) (ns : List Child) → AllShaped (nodes ns) → TemplateHasLists k (nodes ns) → property k (map laid (spotted k (nodes ns) spot)) spot ≡ property k (map laid (nodes ns)) spot
  property_alike kind.KeyValueProp (a ∷ b ∷ []) h l = λ i. a.1.at h.0 (At (free 1)) refl i >> say (codes ": ") >> b.1.at h.1.0 (At (free 1)) refl i
  property_alike kind.AssignProp (a ∷ b ∷ []) h l = λ i. a.1.at h.0 (At (free 1)) refl i >> b.1.at h.1.0 (Within Equals (free 1)) refl i
  property_alike kind.GetterProp (a ∷ b ∷ d ∷ []) h l = λ i. say (codes "get ") >> a.1.at h.0 (At (free 1)) refl i >> say (codes "()") >> d.1.at h.1.1.0 (Within Blank (free 1)) refl i
  property_alike kind.SetterProp (a ∷ b ∷ d ∷ e ∷ []) h l = λ i. say (codes "set ") >> a.1.at h.0 (At (free 1)) refl i >> say (codes "(") >> d.1.at h.1.1.0 (At (free 1)) refl i >> say (codes ")") >> e.1.at h.1.1.1.0 (Within Blank (free 1)) refl i
  property_alike kind.MethodProp (a ∷ b ∷ []) h l = λ i. b.1.at h.1.0 (MethodHead) refl i >> a.1.at h.0 (At (free 1)) refl i >> b.1.at h.1.0 (At (free 1)) refl i
  property_alike kind.ComputedPropName (a ∷ []) h l = λ i. say (codes "[") >> a.1.at h.0 (At (free spot.level)) fits i >> say (codes "]")
  property_alike _ ns h l = refl

  pub pattern_alike : (k : Kind) (ns : List Child) → AllShaped (nodes ns) → TemplateHasLists k (nodes ns) → pattern k (map laid (spotted k (nodes ns) spot)) ≡ pattern k (map laid (nodes ns))
  pattern_alike kind.BindingIdent (a ∷ ns) h l = λ i. a.1.at h.0 (At (free 1)) refl i
  pattern_alike kind.Param (a ∷ ns) h l = λ i. a.1.at h.0 (At (free 1)) refl i
  pattern_alike (kind.TsParamProp accessibility is_override readonly) (a ∷ ns) h l = λ i. a.1.at h.0 (At (free 1)) refl i
  pattern_alike (kind.ArrayPat optional) (a ∷ ns) h l = λ i. a.1.at h.0 (Brackets) refl i
  pattern_alike (kind.ObjectPat optional) (a ∷ ns) h l = λ i. a.1.at h.0 (Braces) refl i
  pattern_alike kind.RestPat (a ∷ ns) h l = λ i. say (codes "...") >> a.1.at h.0 (At (free 1)) refl i
  pattern_alike kind.AssignPat (a ∷ b ∷ []) h l = λ i. a.1.at h.0 (At (free 1)) refl i >> b.1.at h.1.0 (Within Equals (free 1)) refl i
  pattern_alike kind.KeyValuePatProp (a ∷ b ∷ []) h l = λ i. a.1.at h.0 (At (free 1)) refl i >> say (codes ": ") >> b.1.at h.1.0 (At (free 1)) refl i
  pattern_alike kind.AssignPatProp (a ∷ b ∷ []) h l = λ i. a.1.at h.0 (At (free 1)) refl i >> b.1.at h.1.0 (Within Equals (free 1)) refl i
  pattern_alike _ ns h l = refl
