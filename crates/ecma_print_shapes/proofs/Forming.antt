-- Each node has the shapes that it may have where it stands.
use Rattle.std.proofs.Common.{◌≡◌, refl, sym, ap, subst, true, false, List, [], ◌∷◌, map}
use Rattle.ecma_kind.specs.Sorts.{is_stmt}
use Rattle.ecma_kind.specs.declared.span.Span.{Span}
use Rattle.ecma_kind.specs.declared.kind.Kind.{Kind}
use Rattle.ecma_kind.specs.declared.shapes.Shape.{Shape}
use Rattle.ecma_kind.specs.declared.shapes.Sort.TheVariants as sort
use Rattle.ecma_tree.specs.declared.node.Node.{Node, ind-Node, out-Node}
use Rattle.ecma_tree.specs.Nodes.{node_of}
use Rattle.ecma_tree.specs.Sorted.{one}
use Rattle.ecma_rules.specs.declared.target.Target.TheVariants as target
use Rattle.ecma_rules.specs.Children.{kind_of}
use Rattle.ecma_fits.specs.declared.role.Role.TheVariants as role
use Rattle.ecma_print_heads.proofs.BareIn.{heads_hold_no_bare_in}
use Rattle.ecma_print_heads.proofs.Covered.{covers_hold_no_bare_in}
use Rattle.ecma_print.specs.declared.place.Beside.TheVariants as beside
use Rattle.ecma_print.specs.Places.{free, right}
use Rattle.ecma_print_shapes.specs.Laws.{ExpressionsHaveTheirShapes, ModulesHaveTheirShapes}
use Rattle.ecma_print_shapes.proofs.Beginnings.{begins_with_no_declaration}
use Rattle.ecma_print_shapes.proofs.Blocks.{block_formed, statements_formed}
use Rattle.ecma_print_shapes.proofs.Cases.{case_formed, cases_formed, catch_formed}
use Rattle.ecma_print_shapes.proofs.Chains.{link_formed}
use Rattle.ecma_print_shapes.proofs.Claims.{AllFormed, Formed, FormedExpression, Stated, in_head, is_value}
use Rattle.ecma_print_shapes.proofs.ClassMembers.{member_formed}
use Rattle.ecma_print_shapes.proofs.Classes.{class_formed, members_formed}
use Rattle.ecma_print_shapes.proofs.Declarators.{declarator_formed, declarators_formed}
use Rattle.ecma_print_shapes.proofs.Keys.{member_key_formed, super_key_formed}
use Rattle.ecma_print_shapes.proofs.Lists.{arguments_formed, element_formed, slots_formed}
use Rattle.ecma_print_shapes.proofs.LoopHeads.{for_init_formed, for_left_formed}
use Rattle.ecma_print_shapes.proofs.Modules.{shapes_of_modules}
use Rattle.ecma_print_shapes.proofs.Names.{ident_formed, private_name_formed}
use Rattle.ecma_print_shapes.proofs.Objects.{properties_formed, property_formed, property_name_formed}
use Rattle.ecma_print_shapes.proofs.PatternClaims as patterns
use Rattle.ecma_print_shapes.proofs.Ranks.{own_level}
use Rattle.ecma_print_shapes.proofs.Sound.{Sound, children_made, here, kind_made}
use Rattle.ecma_print_shapes.proofs.Spots.{child_value, proper_free}
use Rattle.ecma_print_shapes.proofs.Statements.{statement_formed}
use Rattle.ecma_print_shapes.proofs.Templates.{expressions_formed, tagged_template_formed}
use Rattle.ecma_print_shapes.proofs.Values.{is_value_of_forms, value_by}

module _ (at : Span) (k : Kind) (cs : List Node) (f : AllFormed cs) where
  abbrev own : Node
  own = node_of at k cs

  its_expression : FormedExpression own
  its_expression r t spot shape s p reads is =
      let v = subst (λ z. is_value t z ≡ true) (kind_made at k cs) is in
      let h = here r spot shape at k cs s in
      value_by t at cs f k h p reads v (is_value_of_forms t k v)

  its_children : AllFormed (out-Node own).children
  its_children = subst AllFormed (sym (children_made at k cs)) f

  its_statement : (shape : Shape) → Sound role.Free (free 0) shape own → is_stmt (kind_of own) ≡ true → Stated own
  its_statement shape s is = statement_formed at k cs f (here role.Free (free 0) shape at k cs s) (subst (λ z. is_stmt z ≡ true) (kind_made at k cs) is)

  formed_here : Formed own
  formed_here = record {
    expression = its_expression;
    element = element_formed own its_children its_expression;
    arguments = arguments_formed own its_children;
    slots = slots_formed own its_children;
    member_key = λ s. member_key_formed at k cs f (here role.Private (free 0) (one sort.MemberProp) at k cs s);
    super_key = λ s. super_key_formed at k cs f (here role.Free (free 0) (one sort.SuperProp) at k cs s);
    property_name = λ s. property_name_formed at k cs f (here role.Free (free 1) (one sort.PropName) at k cs s);
    property = λ s. property_formed at k cs f (here role.Free (free 1) (one sort.PropOrSpread) at k cs s);
    properties = properties_formed own its_children;
    link = λ spot optional out s. link_formed spot optional out at k cs f (here role.Free _ (one sort.OptChainBase) at k cs s);
    ident = ident_formed own;
    private_name = private_name_formed own;
    pattern = patterns.its_pattern at k cs f;
    defaulted = patterns.its_defaulted at k cs f;
    literal = patterns.its_literal at k cs f;
    function = patterns.its_function at k cs f;
    class = λ s. class_formed at k cs f (here role.Free (free 1) (one sort.Class) at k cs s);
    block = block_formed own its_children;
    statement = its_statement;
    statements = statements_formed own its_children;
    declarator = λ spot s. declarator_formed heads_hold_no_bare_in covers_hold_no_bare_in at k cs f spot (here role.Free (right spot 1 beside.NoNeighbor) (one sort.VarDeclarator) at k cs s);
    declarators = λ spot s some. declarators_formed spot own its_children s some;
    case = λ s. case_formed at k cs f (here role.Free (free 0) (one sort.SwitchCase) at k cs s);
    cases = cases_formed own its_children;
    catch = λ s. catch_formed at k cs f (here role.Free (free 0) (one sort.CatchClause) at k cs s);
    member = λ s. member_formed at k cs f (here role.Free (free 0) (one sort.ClassMember) at k cs s);
    members = members_formed own its_children;
    for_init = for_init_formed heads_hold_no_bare_in covers_hold_no_bare_in own its_children its_expression;
    for_left = for_left_formed heads_hold_no_bare_in covers_hold_no_bare_in own its_children its_expression (λ s is. patterns.its_bound_name at k cs f role.Head _ (one sort.ForHead) s is) (λ s is. patterns.its_literal at k cs f role.Head target.Head _ (one sort.ForHead) in_head s is);
    bound_name = patterns.its_bound_name at k cs f;
    bound_element = patterns.its_bound_element at k cs f;
    bound_slots = patterns.its_bound_slots at k cs f;
    bound_property = patterns.its_bound_property at k cs f;
    bound_properties = patterns.its_bound_properties at k cs f;
    bound_arguments = patterns.its_bound_arguments at k cs f;
    parameter = patterns.its_parameter at k cs f;
    parameters = patterns.its_parameters at k cs f;
    assigned_target = patterns.its_assigned_target at k cs f its_expression;
    assigned_value = patterns.its_assigned_value at k cs f its_expression;
    assigned_element = patterns.its_assigned_element at k cs f its_expression;
    assigned_slots = patterns.its_assigned_slots at k cs f;
    assigned_property = patterns.its_assigned_property at k cs f;
    assigned_properties = patterns.its_assigned_properties at k cs f;
    expressions = expressions_formed own its_children;
    tagged = λ s. tagged_template_formed at k cs f (here role.Tagged (free 0) (one sort.Tpl) at k cs s);
  }

all_formed : (es : List ((n : Node) × Formed n)) → AllFormed (map (λ e. e.0) es)
all_formed [] = tt
all_formed (e ∷ es) = (e.1, all_formed es)

pub formed : (n : Node) → Formed n
formed = ind-Node Formed (λ x y is. subst (λ ns. Formed (node_of x.span x.kind ns)) (ap (λ z. z.children) is) (formed_here x.span x.kind (map (λ e. e.0) y.children) (all_formed y.children)))

pub shapes_of_expressions : ExpressionsHaveTheirShapes
shapes_of_expressions n w role_is shaped fits complete taken usual =
    let s : Sound role.Free (free 0) (one sort.Expr) n = record { shaped = shaped; fitting = (w, role_is, fits); complete = complete; bare = taken; usual = usual } in
    let e = child_value (formed n) s refl (proper_free 0) in
    (own_level e.kind e.children false, e.shape)

pub modules_have_shapes : ModulesHaveTheirShapes
modules_have_shapes = shapes_of_modules formed (λ n s. begins_with_no_declaration n s refl)
