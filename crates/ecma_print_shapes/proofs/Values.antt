-- Each expression has its shape, by its kind.
use Rattle.std.proofs.Common.{◌≡◌, ◌∙◌, refl, sym, subst, ℕ, Bool, true, false, ◌&&◌, List, [], map}
use Rattle.ecma_lex.specs.Keys.{is_reserved}
use Rattle.ecma_kind.specs.Sorts.{is_expr}
use Rattle.ecma_kind.specs.declared.span.Span.{Span}
use Rattle.ecma_kind.specs.declared.kind.Kind.{Kind}
use Rattle.ecma_kind.specs.declared.kind.Kind.TheVariants as kind
use Rattle.ecma_kind.specs.declared.operators.MetaPropKind.TheVariants.{ImportMeta, NewTarget}
use Rattle.ecma_kind.specs.declared.shapes.Shape.{Shape}
use Rattle.ecma_tree.specs.declared.node.Node.{Node}
use Rattle.ecma_tree.specs.Nodes.{node_of}
use Rattle.ecma_rules.specs.declared.target.Target.{Target}
use Rattle.ecma_rules.specs.declared.target.Target.TheVariants as target
use Rattle.ecma_fits.specs.declared.role.Role.{Role}
use Rattle.ecma_fits.specs.Roles.{is_tagged, role_in}
use Rattle.ecma_print.specs.declared.place.Spot.{Spot}
use Rattle.ecma_print.specs.Layout.{laid}
use Rattle.ecma_print.specs.Places.{free}
use Rattle.ecma_shapes.specs.Shapes.{IsExpression, false_word, import_meta, name, new_target, null_word, regex, this_word, true_word}
use Rattle.ecma_plain.specs.Forms.{is_of_forms}
use Rattle.ecma_print_shapes.proofs.Assignments.{assignment_formed, sequence_formed, update_formed, yield_formed}
use Rattle.ecma_print_shapes.proofs.Binary.{binary_formed}
use Rattle.ecma_print_shapes.proofs.Building.{built, childless, only_free, stands_as}
use Rattle.ecma_print_shapes.proofs.Calls.{call_formed, new_formed, super_formed}
use Rattle.ecma_print_shapes.proofs.Chains.{chain_formed}
use Rattle.ecma_print_shapes.proofs.Claims.{AllFormed, Expressed, Proper, is_simple, is_value, no_reserved, reads_values}
use Rattle.ecma_print_shapes.proofs.Covered.{covered_children, is_of_pattern}
use Rattle.ecma_print_shapes.proofs.Definitions.{class_expression_formed, function_expression_formed}
use Rattle.ecma_print_shapes.proofs.Leaves.{big_int_shape, ident_shape, number_shape, string_shape}
use Rattle.ecma_print_shapes.proofs.Lists.{array_formed}
use Rattle.ecma_print_shapes.proofs.Members.{member_formed, parenthesized_formed}
use Rattle.ecma_print_shapes.proofs.Objects.{object_formed}
use Rattle.ecma_print_shapes.proofs.Operators.{await_formed, conditional_formed, unary_formed}
use Rattle.ecma_print_shapes.proofs.Parameters.{arrow_formed}
use Rattle.ecma_print_shapes.proofs.Ranks.{own_level}
use Rattle.ecma_print_shapes.proofs.Regexes.{regex_token}
use Rattle.ecma_print_shapes.proofs.Sound.{AllSound, Here}
use Rattle.ecma_print_shapes.proofs.Templates.{tagged_formed, template_formed}

-- a leaf in its spot
leaf_built : {r : Role} {spot : Spot} {shape : Shape} (t : Target) (at : Span) (k : Kind) (cs : List Node) → Here r spot shape at k cs → is_of_pattern k ≡ false → cs ≡ [] → IsExpression (own_level k (map laid cs) spot.in_callee_of_new) (node_of at k [])
    → Expressed t spot (node_of at k cs)
leaf_built {spot = spot} t at k cs h keeps e x = built t at k cs h keeps (subst (λ ds. IsExpression (own_level k (map laid cs) spot.in_callee_of_new) (node_of at k (covered_children t k ds))) (sym e) x)

no_children : (r : Role) (cs : List Node) (k : Kind) → AllSound (role_in r k) [] (free 0) [] cs → cs ≡ []
no_children r cs k h = childless (role_in r k) [] (free 0) cs h

simple_kinds : (k : Kind) → is_simple k ≡ true → (is_expr k && is_of_forms k) ≡ true
simple_kinds (kind.Ident sym ctxt optional) h = refl
simple_kinds kind.MemberExpr h = refl
simple_kinds kind.SuperPropExpr h = refl
simple_kinds kind.ParenExpr h = refl
simple_kinds k h = cc

regrouped : (a b c : Bool) → (a && (b && c)) ≡ true → (a && b) ≡ true
regrouped true true c h = refl
regrouped true false c h = cc
regrouped false b c h = cc

pub is_value_of_forms : (t : Target) (k : Kind) → is_value t k ≡ true → (is_expr k && is_of_forms k) ≡ true
is_value_of_forms target.Free k h = regrouped (is_expr k) (is_of_forms k) _ h
is_value_of_forms target.Left k h = simple_kinds k h
is_value_of_forms _ k h = simple_kinds k h

no_private : (t : Target) (word : List ℕ) → is_value t (kind.PrivateName word) ≡ true → ⊥
no_private target.Free word h = cc
no_private _ word h = cc

module _ {r : Role} {spot : Spot} {shape : Shape} (t : Target) (at : Span) where
  -- what it says and how it stands
  module _ (cs : List Node) (f : AllFormed cs) where
    ident_formed : (sym_of : List ℕ) (ctxt : ℕ) (optional : Bool) → Here r spot shape at (kind.Ident sym_of ctxt optional) cs → reads_values r ≡ true → Expressed t spot (node_of at (kind.Ident sym_of ctxt optional) cs)
    ident_formed word ctxt optional h reads =
        let k = kind.Ident word ctxt optional in
        let allowed : is_reserved word ≡ false = sym (no_reserved r word reads) ∙ (stands_as r at k cs h).0 in
        leaf_built t at k cs h refl (no_children r cs k h.below) (name (ident_shape (is_tagged r) at word ctxt optional h.spelled h.bare.0 allowed))

    pub value_by : (k : Kind) → Here r spot shape at k cs → Proper spot → reads_values r ≡ true → is_value t k ≡ true → (is_expr k && is_of_forms k) ≡ true → Expressed t spot (node_of at k cs)
    value_by (kind.Ident word ctxt optional) h p reads is v = ident_formed word ctxt optional h reads
    value_by (kind.Str value raw) h p reads is v = leaf_built t at (kind.Str value raw) cs h refl (no_children r cs (kind.Str value raw) h.below) (string_shape (is_tagged r) at value raw h.spelled h.bare.0)
    value_by (kind.Number value raw) h p reads is v = leaf_built t at (kind.Number value raw) cs h refl (no_children r cs (kind.Number value raw) h.below) (number_shape (is_tagged r) at value raw h.spelled h.bare.0)
    value_by (kind.BigInt value raw) h p reads is v = leaf_built t at (kind.BigInt value raw) cs h refl (no_children r cs (kind.BigInt value raw) h.below) (big_int_shape (is_tagged r) at value raw h.spelled h.bare.0)
    value_by (kind.Regex exp flags) h p reads is v = leaf_built t at (kind.Regex exp flags) cs h refl (no_children r cs (kind.Regex exp flags) h.below) (regex at exp flags (regex_token exp flags h.bare.0.0 h.bare.0.1 h.spelled))
    value_by (kind.PrivateName word) h p reads is v = absurd (no_private t word is)
    value_by (kind.Bool true) h p reads is v = leaf_built t at (kind.Bool true) cs h refl (no_children r cs (kind.Bool true) h.below) (true_word at)
    value_by (kind.Bool false) h p reads is v = leaf_built t at (kind.Bool false) cs h refl (no_children r cs (kind.Bool false) h.below) (false_word at)
    value_by kind.Null h p reads is v = leaf_built t at kind.Null cs h refl (no_children r cs kind.Null h.below) (null_word at)
    value_by kind.ThisExpr h p reads is v = leaf_built t at kind.ThisExpr cs h refl (no_children r cs kind.ThisExpr h.below) (this_word at)
    value_by (kind.MetaPropExpr NewTarget) h p reads is v = leaf_built t at (kind.MetaPropExpr NewTarget) cs h refl (no_children r cs (kind.MetaPropExpr NewTarget) h.below) (new_target at)
    value_by (kind.MetaPropExpr ImportMeta) h p reads is v = leaf_built t at (kind.MetaPropExpr ImportMeta) cs h refl (no_children r cs (kind.MetaPropExpr ImportMeta) h.below) (import_meta at)
    value_by kind.ParenExpr h p reads is v = built t at kind.ParenExpr cs h refl (parenthesized_formed t at cs f h)
    value_by (kind.UnaryExpr o) h p reads is v = built t at (kind.UnaryExpr o) cs h refl (unary_formed t at o cs f h)
    value_by (kind.UpdateExpr o prefix) h p reads is v = built t at (kind.UpdateExpr o prefix) cs h refl (update_formed t at o prefix cs f h p)
    value_by kind.AwaitExpr h p reads is v = built t at kind.AwaitExpr cs h refl (await_formed t at cs f h)
    value_by (kind.BinExpr o) h p reads is v = built t at (kind.BinExpr o) cs h refl (binary_formed t at o cs f h p)
    value_by kind.CondExpr h p reads is v = built t at kind.CondExpr cs h refl (conditional_formed t at cs f h p)
    value_by kind.SeqExpr h p reads is v = built t at kind.SeqExpr cs h refl (sequence_formed t at cs f h p)
    value_by (kind.YieldExpr delegate) h p reads is v = built t at (kind.YieldExpr delegate) cs h refl (yield_formed t at delegate cs f h)
    value_by (kind.AssignExpr o) h p reads is v =
        subst (λ z. Expressed z spot (node_of at (kind.AssignExpr o) cs)) (sym (only_free t (kind.AssignExpr o) refl is)) (built target.Free at (kind.AssignExpr o) cs h refl (assignment_formed at o cs f h p))
    value_by kind.ArrayLit h p reads is v =
        subst (λ z. Expressed z spot (node_of at kind.ArrayLit cs)) (sym (only_free t kind.ArrayLit refl is)) (built target.Free at kind.ArrayLit cs h refl (array_formed at cs f h))
    value_by kind.ObjectLit h p reads is v =
        subst (λ z. Expressed z spot (node_of at kind.ObjectLit cs)) (sym (only_free t kind.ObjectLit refl is)) (built target.Free at kind.ObjectLit cs h refl (object_formed at cs f h))
    value_by kind.MemberExpr h p reads is v = built t at kind.MemberExpr cs h refl (member_formed t at cs f h p)
    value_by kind.SuperPropExpr h p reads is v = built t at kind.SuperPropExpr cs h refl (super_formed t at cs f h)
    value_by kind.CallExpr h p reads is v = built t at kind.CallExpr cs h refl (call_formed t at cs f h)
    value_by kind.NewExpr h p reads is v = built t at kind.NewExpr cs h refl (new_formed t at cs f h)
    value_by (kind.OptChainExpr asks) h p reads is v = built t at (kind.OptChainExpr asks) cs h refl (chain_formed t at asks cs f h p)
    value_by (kind.ArrowExpr is_async is_generator) h p reads is v = built t at (kind.ArrowExpr is_async is_generator) cs h refl (arrow_formed t at is_async is_generator cs f h)
    value_by kind.FnExpr h p reads is v = built t at kind.FnExpr cs h refl (function_expression_formed t at cs f h)
    value_by kind.ClassExpr h p reads is v = built t at kind.ClassExpr cs h refl (class_expression_formed t at cs f h)
    value_by kind.Tpl h p reads is v = built t at kind.Tpl cs h refl (template_formed t at cs f h reads)
    value_by kind.TaggedTpl h p reads is v = built t at kind.TaggedTpl cs h refl (tagged_formed t at cs f h)
    value_by k h p reads is v = absurd (no v)
      where
        no : false ≡ true → ⊥
        no z = cc
