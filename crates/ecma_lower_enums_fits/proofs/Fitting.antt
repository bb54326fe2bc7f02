-- No clause of what fits that asks where a node stands fails in what is written, where none did.
use Rattle.std.proofs.Common.{◌≡◌, ◌∙◌, ℕ, Bool, true, false, not, cond, codes, bytes_eq, ◌&&◌, ◌||◌, List, Some, None, refl, sym, ap, ap₂, subst}
use Rattle.std.specs.List.{list_any}
use Rattle.ecma_lex.specs.Keys.{is_reserved}
use Rattle.ecma_kind.specs.declared.ident.Ident.{Ident}
use Rattle.ecma_kind.specs.declared.kind.Kind.{Kind}
use Rattle.ecma_kind.specs.declared.kind.Kind.TheVariants as kind
use Rattle.ecma_kind.specs.declared.operators.AssignOp.TheVariants.{Assign}
use Rattle.ecma_kind.specs.declared.operators.BinaryOp.TheVariants as binary
use Rattle.ecma_kind.specs.declared.operators.VarDeclKind.{VarDeclKind}
use Rattle.ecma_kind.specs.declared.shapes.Shape.{Shape}
use Rattle.ecma_kind.specs.declared.shapes.Sort.TheVariants as sort
use Rattle.ecma_number.specs.declared.js_number.JsNumber.{JsNumber}
use Rattle.ecma_tree.specs.Sorted.{HasShape, allows, many, maybe}
use Rattle.ecma_tree.specs.declared.node.Node.{Node}
use Rattle.ecma_leaves.specs.Words.{is_natural, is_spelled}
use Rattle.ecma_rules.specs.declared.standing.Standing.{Standing}
use Rattle.ecma_rules.specs.declared.standing.Standing.TheVariants as standing
use Rattle.ecma_rules.specs.declared.target.Target.{Target}
use Rattle.ecma_rules.specs.declared.target.Target.TheVariants as target
use Rattle.ecma_rules.specs.Children.{child_holds, child_is, items_at, kind_of}
use Rattle.ecma_rules.specs.Lists.{is_head, is_item, is_one_without_value, is_rest, is_rest_pattern, last_by}
use Rattle.ecma_rules.specs.Members.{behind_first, is_declaring, is_plain_parameter, is_property_kind, is_special_by, is_this_parameter, misfits_by, misplaces_this_by}
use Rattle.ecma_rules.specs.Statements.{is_body, is_declaration, is_exported, is_text}
use Rattle.ecma_rules.specs.Surroundings.{standing_by}
use Rattle.ecma_rules.specs.Targets.{in_list, in_literal, in_value, is_simple_target, is_spread, is_variables, target_in}
use Rattle.ecma_fits.specs.declared.role.Role.{Role}
use Rattle.ecma_fits.specs.declared.role.Role.TheVariants as role
use Rattle.ecma_fits.specs.declared.unfit.Where.{Where}
use Rattle.ecma_fits.specs.Counts.{is_empty, is_full_by}
use Rattle.ecma_fits.specs.Roles.{bound_name_of, by as either_role, in_default, in_list as in_role_list, is_assigned, is_bound_name, is_tagged, is_wrong_name, may_be, role_in, takes}
use Rattle.ecma_fits.specs.Strays.{arguments_in}
use Rattle.ecma_strip_fits.proofs.Walk.{shape_parts}
use Rattle.ecma_lower_enums.specs.declared.known.KnownEnums.{KnownEnums}
use Rattle.ecma_lower_enums.specs.declared.place.Place.TheVariants as place
use Rattle.ecma_lower_enums.specs.Writing.{is_enum_kind}
use Rattle.ecma_lower_enums_sources.proofs.Suiting.{no}
use Rattle.ecma_lower_enums_fits.proofs.Agreeing.{Agree, all-fit, breaks, child-agrees, child-fits, inside, left-passes, list-agrees, list-fits, or-no, out_of_role, stray, unfit}
use Rattle.ecma_lower_enums_fits.proofs.Making.{Kinds, Quiet, Seats, in_body, is_frame, is_read_frame}
use Rattle.ecma_lower_enums_fits.proofs.Usable.{IsKey, IsUsable}
use Rattle.ecma_lower_enums_fits.proofs.Walks.{and-no}
use Rattle.ecma_lower_enums_fits.proofs.Passing.{Owed}
use Rattle.ecma_lower_enums_fits.proofs.Roles.{free-is, in-sort, is_free_role, is_open_role, short-role, target-member}
use Rattle.ecma_lower_enums_fits.proofs.Standing.{is_free, is_plain, plain-parts}

-- ---- what is around made nodes

pub record Usual (w : Where) : Type 0 where
  pub role : w.role ≡ role.Free
  pub unexported : is_exported w.around.standing ≡ false
  pub unbodied : is_body w.around.standing ≡ false
  pub headless : is_head w.around.target ≡ false

abbrev Read : Where → Type 0
Read w = (is_open_role w.role ≡ true) × (is_exported w.around.standing ≡ false)

abbrev pub kinds : Kinds Where
kinds = record {
  usual = Usual;
  read = Read;
  left = λ w. w.role ≡ role.Left;
  key = λ w. w.role ≡ role.Private;
  bound = λ w. w.role ≡ role.Declared;
  parameter = λ w. w.role ≡ role.Parameter;
  parameter_name = λ w. w.role ≡ role.NameOrThis;
  body = λ w. Unit;
}

plainly : (w : Where) → w.role ≡ role.Free → is_exported w.around.standing ≡ false → is_body w.around.standing ≡ false → is_head w.around.target ≡ false → Usual w
plainly w a b c d = record { role = a; unexported = b; unbodied = c; headless = d }

no-head : (t : Target) → is_head (in_list t) ≡ false
no-head target.Elements = refl
no-head target.Properties = refl
no-head _ = refl

open-free : (r : Role) → r ≡ role.Free → is_open_role r ≡ true
open-free r e = ap is_open_role e

pub seats : Seats Where unfit inside kinds
unfolding role_in target_in standing_by
seats = record {
  reads = λ a u. (open-free a.role u.role, u.unexported);
  items = λ a n i u. plainly (inside a kind.List n i) (ap in_role_list u.role) u.unexported u.unbodied (no-head a.around.target);
  statement = λ a n. plainly (inside a kind.ExprStmt n 0) refl refl refl refl;
  callee = λ a n. plainly (inside a kind.CallExpr n 0) refl refl refl refl;
  arguments = λ a n. plainly (inside a kind.CallExpr n 1) refl refl refl refl;
  type_arguments = λ a n. plainly (inside a kind.CallExpr n 2) refl refl refl refl;
  function_name = λ a n. plainly (inside a kind.FnExpr n 0) refl refl refl refl;
  function = λ a n. plainly (inside a kind.FnExpr n 1) refl refl refl refl;
  parameters = λ a n. plainly (inside a (kind.Function false false) n 0) refl refl refl refl;
  body = λ a n. plainly (inside a (kind.Function false false) n 1) refl refl refl refl;
  type_parameters = λ a n. plainly (inside a (kind.Function false false) n 2) refl refl refl refl;
  result = λ a n. plainly (inside a (kind.Function false false) n 3) refl refl refl refl;
  parameter = λ a n. refl;
  parameter_name = λ a n h. parameter-name a.role h;
  parameter_type = λ a n h. plainly (inside a kind.BindingIdent n 1) (bound-type a.role (ap is_assigned h)) refl refl refl;
  bound_name = λ a n h. plainly (inside a kind.BindingIdent n 0) (bound-name a.role h) refl refl refl;
  bound_type = λ a n h. plainly (inside a kind.BindingIdent n 1) (bound-type a.role (ap is_assigned h)) refl refl refl;
  left = λ a n. refl;
  right = λ a n. plainly (inside a (kind.AssignExpr Assign) n 1) refl refl refl refl;
  object = λ a n. plainly (inside a kind.MemberExpr n 0) refl refl refl refl;
  property = λ a n. refl;
  computed = λ a n. plainly (inside a kind.ComputedPropName n 0) refl refl refl refl;
  either = λ a n. plainly (inside a (kind.BinExpr binary.LogicalOr) n 0) refl refl refl refl;
  other = λ a n. plainly (inside a (kind.BinExpr binary.LogicalOr) n 1) refl refl refl refl;
  dividend = λ a n. plainly (inside a (kind.BinExpr binary.Div) n 0) refl refl refl refl;
  divisor = λ a n. plainly (inside a (kind.BinExpr binary.Div) n 1) refl refl refl refl;
  operand = λ a op n. plainly (inside a (kind.UnaryExpr op) n 0) refl refl refl refl;
  properties = λ a n. plainly (inside a kind.ObjectLit n 0) refl refl refl (no-properties a.around.target);
  statements = λ a n. plainly (inside a kind.BlockStmt n 0) refl refl refl refl;
  declarators = λ a word n. plainly (inside a (kind.VarDecl word false) n 0) refl refl refl refl;
  binding = λ a n. refl;
  initial = λ a n. plainly (inside a (kind.VarDeclarator false) n 1) refl refl refl refl;
  exported = λ a n. plainly (inside a kind.ExportDecl n 0) refl refl refl refl;
  key = λ a n. plainly (inside a kind.KeyValueProp n 0) refl refl refl refl;
  value = λ a n. plainly (inside a kind.KeyValueProp n 1) refl refl refl (no-value a.around.target);
  pattern_key = λ a n. plainly (inside a kind.KeyValuePatProp n 0) refl refl refl refl;
  body_statement = λ a n b. b;
  body_left = λ a n b. b;
  body_property = λ a n b. b;
  body_computed = λ a n b. b;
}
  where
    parameter-name : (r : Role) → r ≡ role.Parameter → bound_name_of r ≡ role.NameOrThis
    parameter-name r h = ap bound_name_of h

    bound-name : (r : Role) → r ≡ role.Declared → bound_name_of r ≡ role.Free
    bound-name r h = ap bound_name_of h

    bound-type : (r : Role) → is_assigned r ≡ false → either_role r role.Nothing role.Free ≡ role.Free
    bound-type r h = ap (λ b. cond b role.Nothing role.Free) h

    no-properties : (t : Target) → is_head (in_literal t target.Properties) ≡ false
    no-properties target.Left = refl
    no-properties target.Head = refl
    no-properties target.Part = refl
    no-properties target.Element = refl
    no-properties _ = refl

    no-value : (t : Target) → is_head (in_value t) ≡ false
    no-value target.Property = refl
    no-value _ = refl

-- ---- made nodes

and-zero : (a b : Bool) → b ≡ false → (a && b) ≡ false
and-zero a b h = ap (λ z. a && z) h ∙ and-no a

rest-no : (t : Target) (k : Kind) → is_rest_pattern k ≡ false → is_spread k ≡ false → is_rest t k ≡ false
rest-no t k a b = ap₂ (λ x y. x || (is_item t && y)) a b ∙ and-no (is_item t)

-- a node of which no rule asks anything
pub record Calm (k : Kind) (n : Node) : Type 0 where
  pub rest : is_rest_pattern k ≡ false
  pub spread : is_spread k ≡ false
  pub property : is_property_kind k ≡ false
  pub misfits : misfits_by k n ≡ false
  pub special : is_special_by k n ≡ false
  pub this : misplaces_this_by k n ≡ false

-- nor anything else, beside its role
pub record Still (k : Kind) (n : Node) : Type 0 where
  pub calm : Calm k n
  pub bound : is_bound_name k ≡ false
  pub variables : is_variables k ≡ false
  pub text : is_text k ≡ false
  pub declaration : is_declaration k ≡ false
  pub spelled : (b : Bool) → is_spelled b k ≡ true
  pub full : is_full_by k n ≡ true

calm-rules : (w : Where) (k : Kind) (n : Node) → Calm k n → (is_head w.around.target && is_variables k) ≡ false → (is_exported w.around.standing && is_text k) ≡ false → (is_body w.around.standing && is_declaration k) ≡ false
    → breaks w k n ≡ false
calm-rules w k n c head text declaration =
    or-no _ _
    (or-no _ _ (ap (λ z. z && not (is_one_without_value (items_at n 0))) head) (ap (λ z. z && not w.around.is_last) (rest-no w.around.target k c.rest c.spread)))
    (or-no _ _ (or-no _ _ (ap (λ z. z && not (is_declaring w.around.standing && child_holds is_plain_parameter n 0)) c.property) (or-no _ _ c.misfits (or-no _ _ c.special c.this))) (or-no _ _ text declaration))

no-stray : (w : Where) (k : Kind) (n : Node) → (is_assigned w.role && is_bound_name k) ≡ false → stray w k n ≡ false
no-stray w k n h = and-zero w.arguments.stray _ (by (is_assigned w.role) (is_bound_name k) _ h)
  where
    by : (a b c : Bool) → (a && b) ≡ false → (a && (b && c)) ≡ false
    by true b c h = ap (λ z. z && c) h
    by false b c h = refl

still-fits : (w : Where) (k : Kind) (n : Node) → Still k n → out_of_role w.role k n ≡ false → unfit w k n ≡ false
still-fits w k n s r =
    all-fit w k n r (no-stray w k n (and-zero (is_assigned w.role) (is_bound_name k) s.bound))
    (calm-rules w k n s.calm (and-zero (is_head w.around.target) (is_variables k) s.variables) (and-zero (is_exported w.around.standing) (is_text k) s.text) (and-zero (is_body w.around.standing) (is_declaration k) s.declaration))
    (ap not (s.spelled (is_tagged w.role))) (ap not s.full)

-- ---- frames

frame-misfits : (k : Kind) (n : Node) → is_frame k ≡ true → misfits_by k n ≡ false
unfolding misfits_by
frame-misfits kind.AssignPat n h = no h
frame-misfits kind.GetterProp n h = no h
frame-misfits kind.SetterProp n h = no h
frame-misfits kind.MethodProp n h = no h
frame-misfits (kind.ClassMethod m modifiers) n h = no h
frame-misfits (kind.PrivateMethod m modifiers) n h = no h
frame-misfits _ n h = refl

frame-special : (k : Kind) (n : Node) → is_frame k ≡ true → is_special_by k n ≡ false
frame-special (kind.ClassMethod m modifiers) n h = no h
frame-special _ n h = refl

frame-this : (k : Kind) (n : Node) → is_frame k ≡ true → misplaces_this_by k n ≡ false
unfolding misplaces_this_by
frame-this (kind.Function is_generator is_async) n h = no h
frame-this (kind.ArrowExpr is_async is_generator) n h = no h
frame-this (kind.Constructor accessibility is_optional) n h = no h
frame-this kind.SetterProp n h = no h
frame-this _ n h = refl

frame-kinds : (k : Kind) → is_frame k ≡ true
    → (is_rest_pattern k ≡ false) × (is_spread k ≡ false) × (is_property_kind k ≡ false) × (is_bound_name k ≡ false) × (is_variables k ≡ false) × (is_text k ≡ false)
frame-kinds kind.RestPat h = no h
frame-kinds kind.SpreadElement h = no h
frame-kinds (kind.TsParamProp accessibility is_override readonly) h = no h
frame-kinds kind.BindingIdent h = no h
frame-kinds (kind.VarDecl word declare) h = no h
frame-kinds (kind.Str value raw) h = no h
frame-kinds _ h = (refl, refl, refl, refl, refl, refl)

frame-declaration : (k : Kind) → is_frame k ≡ true → is_declaration k ≡ false
unfolding is_declaration
frame-declaration (kind.FnDecl declare) h = no h
frame-declaration (kind.ClassDecl declare) h = no h
frame-declaration (kind.VarDecl word declare) h = no h
frame-declaration (kind.TsInterfaceDecl declare) h = no h
frame-declaration (kind.TsTypeAliasDecl declare) h = no h
frame-declaration (kind.TsEnumDecl declare is_const) h = no h
frame-declaration (kind.TsModuleDecl declare global) h = no h
frame-declaration _ h = refl

frame-spelled : (k : Kind) (b : Bool) → is_frame k ≡ true → is_spelled b k ≡ true
frame-spelled (kind.Module shebang) b h = no h
frame-spelled (kind.Script shebang) b h = no h
frame-spelled (kind.Ident text ctxt optional) b h = no h
frame-spelled (kind.IdentName text) b h = no h
frame-spelled (kind.PrivateName name) b h = no h
frame-spelled (kind.Str value raw) b h = no h
frame-spelled (kind.Number value raw) b h = no h
frame-spelled (kind.BigInt value raw) b h = no h
frame-spelled (kind.Regex exp flags) b h = no h
frame-spelled (kind.TplElement raw cooked tail) b h = no h
frame-spelled _ b h = refl

frame-full : (k : Kind) (n : Node) → is_frame k ≡ true → is_full_by k n ≡ true
unfolding is_full_by
frame-full kind.Tpl n h = no h
frame-full kind.SeqExpr n h = no h
frame-full (kind.YieldExpr delegate) n h = no h
frame-full (kind.ArrowExpr is_async is_generator) n h = no h
frame-full kind.TryStmt n h = no h
frame-full (kind.VarDecl word declare) n h = no h
frame-full (kind.ImportDecl type_only) n h = no h
frame-full (kind.NamedExport type_only) n h = no h
frame-full (kind.ExportAll type_only) n h = no h
frame-full _ n h = refl

frame-still : (k : Kind) (n : Node) → is_frame k ≡ true → Still k n
frame-still k n h =
    let is = frame-kinds k h in
    record {
      calm = record { rest = is.0; spread = is.1; property = is.2; misfits = frame-misfits k n h; special = frame-special k n h; this = frame-this k n h };
      bound = is.3;
      variables = is.4;
      text = is.5;
      declaration = frame-declaration k h;
      spelled = λ b. frame-spelled k b h;
      full = frame-full k n h;
    }

frame-role : (k : Kind) (n : Node) → is_frame k ≡ true → out_of_role role.Free k n ≡ false
unfolding may_be
frame-role (kind.Ident text ctxt optional) n h = no h
frame-role (kind.PrivateName name) n h = no h
frame-role kind.AssignProp n h = no h
frame-role _ n h = refl

read-frame : (k : Kind) → is_read_frame k ≡ true → is_frame k ≡ true
read-frame kind.MemberExpr h = refl
read-frame (kind.BinExpr op) h = refl
read-frame (kind.UnaryExpr op) h = refl
read-frame _ h = no h

-- in an open role
open-role : (r : Role) (k : Kind) (n : Node) → is_open_role r ≡ true → is_wrong_name r k ≡ false → (may_be role.Free k ≡ true) → out_of_role r k n ≡ false
unfolding may_be
open-role role.Free k n h w m = or-no (is_wrong_name role.Free k) (not (may_be role.Free k || (takes role.Free k && is_simple_target n))) w (ap (λ z. not (z || (takes role.Free k && is_simple_target n))) m)
open-role role.Private k n h w m = or-no (is_wrong_name role.Private k) (not (may_be role.Private k || (takes role.Private k && is_simple_target n))) w refl
open-role _ k n h w m = no h

nameless : (r : Role) (k : Kind) → is_read_frame k ≡ true → (is_wrong_name r k ≡ false) × (may_be role.Free k ≡ true)
unfolding may_be
nameless r kind.MemberExpr h = (refl, refl)
nameless r (kind.BinExpr op) h = (refl, refl)
nameless r (kind.UnaryExpr op) h = (refl, refl)
nameless r _ h = no h

-- ---- leaves

text-still : (w : Where) (t : List ℕ) (n : Node) → Read w → unfit w (kind.Str t None) n ≡ false
unfolding may_be misfits_by misplaces_this_by is_declaration is_full_by
text-still w t n r =
    let k = kind.Str t None in
    let calm : Calm k n = record { rest = refl; spread = refl; property = refl; misfits = refl; special = refl; this = refl } in
    all-fit w k n (open-role w.role k n r.0 refl refl) (no-stray w k n (and-no (is_assigned w.role)))
    (calm-rules w k n calm (and-no (is_head w.around.target)) (ap (λ z. z && true) r.1) (and-no (is_body w.around.standing))) refl refl

digits-still : (w : Where) (m : JsNumber) (n : Node) → is_natural m ≡ true → Read w → unfit w (kind.Number (Some m) None) n ≡ false
unfolding may_be misfits_by misplaces_this_by is_declaration is_full_by
digits-still w m n h r =
    let k = kind.Number (Some m) None in
    let calm : Calm k n = record { rest = refl; spread = refl; property = refl; misfits = refl; special = refl; this = refl } in
    all-fit w k n (open-role w.role k n r.0 refl refl) (no-stray w k n (and-no (is_assigned w.role)))
    (calm-rules w k n calm (and-no (is_head w.around.target)) (and-no (is_exported w.around.standing)) (and-no (is_body w.around.standing))) (ap not h) refl

key-still : (w : Where) (t : List ℕ) (n : Node) → IsKey t → out_of_role w.role (kind.IdentName t) n ≡ false → unfit w (kind.IdentName t) n ≡ false
unfolding misfits_by misplaces_this_by is_declaration is_full_by
key-still w t n h r =
    let k = kind.IdentName t in
    let calm : Calm k n = record { rest = refl; spread = refl; property = refl; misfits = refl; special = refl; this = refl } in
    still-fits w k n (record { calm = calm; bound = refl; variables = refl; text = refl; declaration = refl; spelled = λ b. h; full = refl }) r

name-still : (w : Where) (of : Ident) (n : Node) → IsUsable of → out_of_role w.role (kind.Ident of.sym of.ctxt of.optional) n ≡ false → unfit w (kind.Ident of.sym of.ctxt of.optional) n ≡ false
unfolding misfits_by misplaces_this_by is_declaration is_full_by
name-still w of n h r =
    let k = kind.Ident of.sym of.ctxt of.optional in
    let calm : Calm k n = record { rest = refl; spread = refl; property = refl; misfits = refl; special = refl; this = refl } in
    still-fits w k n (record { calm = calm; bound = refl; variables = refl; text = refl; declaration = refl; spelled = λ b. h.key; full = refl }) r

-- a name is bound
bound-still : (w : Where) (n : Node) → is_assigned w.role ≡ false → out_of_role w.role kind.BindingIdent n ≡ false → unfit w kind.BindingIdent n ≡ false
unfolding misfits_by misplaces_this_by is_declaration is_full_by
bound-still w n a r =
    let k = kind.BindingIdent in
    let calm : Calm k n = record { rest = refl; spread = refl; property = refl; misfits = refl; special = refl; this = refl } in
    all-fit w k n r (no-stray w k n (ap (λ z. z && true) a)) (calm-rules w k n calm (and-no (is_head w.around.target)) (and-no (is_exported w.around.standing)) (and-no (is_body w.around.standing))) refl refl

function-still : (w : Where) (n : Node) → list_any is_this_parameter (behind_first (items_at n 0)) ≡ false → w.role ≡ role.Free → unfit w (kind.Function false false) n ≡ false
unfolding may_be misfits_by misplaces_this_by is_declaration is_full_by
function-still w n h r =
    let k = kind.Function false false in
    let calm : Calm k n = record { rest = refl; spread = refl; property = refl; misfits = refl; special = refl; this = h } in
    still-fits w k n (record { calm = calm; bound = refl; variables = refl; text = refl; declaration = refl; spelled = λ b. refl; full = refl }) (ap (λ z. out_of_role z k n) r)

variables-still : (w : Where) (word : VarDeclKind) (n : Node) → is_empty (items_at n 0) ≡ false → Usual w → unfit w (kind.VarDecl word false) n ≡ false
unfolding may_be misfits_by misplaces_this_by is_full_by
variables-still w word n h u =
    let k = kind.VarDecl word false in
    let calm : Calm k n = record { rest = refl; spread = refl; property = refl; misfits = refl; special = refl; this = refl } in
    all-fit w k n (ap (λ z. out_of_role z k n) u.role) (no-stray w k n (and-no (is_assigned w.role)))
    (calm-rules w k n calm (ap (λ z. z && true) u.headless) (and-no (is_exported w.around.standing)) (ap (λ z. z && is_declaration k) u.unbodied)) refl (ap (λ z. not (not z)) h)

computed-still : (w : Where) (n : Node) → w.role ≡ role.Private → unfit w kind.ComputedPropName n ≡ false
unfolding may_be misfits_by misplaces_this_by is_declaration is_full_by
computed-still w n r =
    let k = kind.ComputedPropName in
    let calm : Calm k n = record { rest = refl; spread = refl; property = refl; misfits = refl; special = refl; this = refl } in
    still-fits w k n (record { calm = calm; bound = refl; variables = refl; text = refl; declaration = refl; spelled = λ b. refl; full = refl }) (ap (λ z. out_of_role z k n) r)

-- what is assigned to
member-still : (w : Where) (n : Node) → out_of_role w.role kind.MemberExpr n ≡ false → unfit w kind.MemberExpr n ≡ false
member-still w n r = still-fits w kind.MemberExpr n (frame-still kind.MemberExpr n refl) r

simple-role : (r : Role) (k : Kind) (n : Node) → is_wrong_name r k ≡ false → (may_be r k || takes r k) ≡ true → is_simple_target n ≡ true → out_of_role r k n ≡ false
simple-role r k n w m s = or-no _ _ w (ap not (by (may_be r k) (takes r k) m s))
  where
    by : (a b : Bool) {c : Bool} → (a || b) ≡ true → c ≡ true → (a || (b && c)) ≡ true
    by true b h g = refl
    by false true h g = g
    by false false h g = no h

left-name : (t : List ℕ) (ctxt : ℕ) (optional : Bool) (n : Node) → is_reserved t ≡ false → is_simple_target n ≡ true → out_of_role role.Left (kind.Ident t ctxt optional) n ≡ false
unfolding may_be takes
left-name t ctxt optional n h s = or-no _ _ h (ap not s)

free-name : (t : List ℕ) (ctxt : ℕ) (optional : Bool) (n : Node) → is_reserved t ≡ false → out_of_role role.Free (kind.Ident t ctxt optional) n ≡ false
unfolding may_be
free-name t ctxt optional n h = or-no _ _ h refl

receiver-name : (t : List ℕ) (ctxt : ℕ) (optional : Bool) (n : Node) → is_reserved t ≡ false → out_of_role role.NameOrThis (kind.Ident t ctxt optional) n ≡ false
unfolding may_be
receiver-name t ctxt optional n h = or-no _ _ (ap (λ z. z && not (bytes_eq t (codes "this"))) h) refl

pub quiet : Quiet Where unfit inside kinds IsUsable IsKey
unfolding may_be takes
quiet = record {
  frame = λ a k n f u. still-fits a k n (frame-still k n f) (ap (λ z. out_of_role z k n) u.role ∙ frame-role k n f);
  read = λ a k n f r. let parts = nameless a.role k f in still-fits a k n (frame-still k n (read-frame k f)) (open-role a.role k n r.0 parts.0 parts.1);
  text = λ a t n r. text-still a t n r;
  digits = λ a m n h r. digits-still a m n h r;
  function = λ a n h u. function-still a n h u.role;
  variables = λ a word n h u. variables-still a word n h u;
  declared = λ a n h. bound-still a n (ap is_assigned h) (ap (λ z. out_of_role z kind.BindingIdent n) h);
  parameter = λ a n h. bound-still a n (ap is_assigned h) (ap (λ z. out_of_role z kind.BindingIdent n) h);
  name = λ a of n h u. name-still a of n h (ap (λ z. out_of_role z (kind.Ident of.sym of.ctxt of.optional) n) u.role ∙ free-name of.sym of.ctxt of.optional n h.unreserved);
  parameter_name = λ a of n h i. name-still a of n h (ap (λ z. out_of_role z (kind.Ident of.sym of.ctxt of.optional) n) i ∙ receiver-name of.sym of.ctxt of.optional n h.unreserved);
  target_name = λ a of n h s l. name-still a of n h (ap (λ z. out_of_role z (kind.Ident of.sym of.ctxt of.optional) n) l ∙ left-name of.sym of.ctxt of.optional n h.unreserved s);
  target_member = λ a n s l. member-still a n (ap (λ z. out_of_role z kind.MemberExpr n) l ∙ simple-role role.Left kind.MemberExpr n refl refl s);
  key = λ a t n h u. key-still a t n h (ap (λ z. out_of_role z (kind.IdentName t) n) u.role);
  property = λ a t n h y. key-still a t n h (ap (λ z. out_of_role z (kind.IdentName t) n) y);
  computed = λ a n y. computed-still a n y;
}

-- ---- what is written

plain-is : (s : Standing) → is_plain s ≡ true → s ≡ standing.Plain
plain-is standing.Plain h = refl
plain-is _ h = no h

free-target : (t : Target) → is_free t ≡ true → t ≡ target.Free
free-target target.Free h = refl
free-target _ h = no h

-- a statement of a list
abbrev Item : Where → Type 0
Item w = (w.role ≡ role.Free) × (w.around.standing ≡ standing.Plain) × (w.around.target ≡ target.Free)

item-usual : (w : Where) → Item w → Usual w
item-usual w i = plainly w i.0 (ap is_exported i.1) (ap is_body i.1) (ap is_head i.2)

item-is : (w v : Where) → v.role ≡ w.role → v.around.standing ≡ w.around.standing → v.around.target ≡ w.around.target → is_free_role w.role ≡ true → (is_plain w.around.standing && is_free w.around.target) ≡ true → Item v
item-is w v r s t has stood =
    let parts = plain-parts w.around.standing w.around.target stood in
    (r ∙ free-is w.role has, s ∙ plain-is w.around.standing parts.0, t ∙ free-target w.around.target parts.1)

-- the list of an enum, in the body of the call
members-agree : (k : Kind) (at_top exported skips : Bool) (t : Shape) (w v : Where) (c : Node) → is_enum_kind k ≡ true → Agree (place.Item at_top exported) t w v → (x1 x2 x3 x4 x5 : Node)
    → Agree (place.Member skips) (many sort.TsEnumMember) (inside w k c 1) (in_body Where unfit inside kinds v x1 x2 x3 x4 x5)
unfolding role_in target_in standing_by last_by arguments_in
members-agree (kind.TsEnumDecl declare is_const) at_top exported skips t w v c h g x1 x2 x3 x4 x5 = record {
  role = refl;
  target = refl;
  standing = refl;
  last = λ z. refl;
  arguments = (g.arguments.0, λ z. refl);
  has = refl;
  stood = refl;
}
members-agree _ at_top exported skips t w v c h g x1 x2 x3 x4 x5 = no h

shorthand : (t : Shape) (w v : Where) (a : Node) → HasShape t a → kind_of a ≡ kind.AssignPatProp → Agree place.Target t w v → v.role ≡ role.AssignedProperty
shorthand t w v a has e g =
    let allowed = subst (λ z. allows t z ≡ true) e (shape_parts a t has).0 in
    g.role ∙ short-role t.sort t.count w.role allowed (in-sort t kind.AssignPatProp refl refl allowed) g.has

value-role : (r : Role) → r ≡ role.AssignedProperty → role_in r kind.KeyValuePatProp 1 ≡ role.AssignedValue
unfolding role_in
value-role r e = ap (λ z. either_role z role.AssignedValue role.DeclaredValue) e

default-role : (r : Role) → r ≡ role.AssignedValue → role_in r kind.AssignPat 0 ≡ role.Assigned
unfolding role_in
default-role r e = ap in_default e

takes-member : (w : Where) (r : Role) → w.role ≡ r → (may_be r kind.MemberExpr || takes r kind.MemberExpr) ≡ true → (n : Node) → is_simple_target n ≡ true → unfit w kind.MemberExpr n ≡ false
takes-member w r e m n s = member-still w n (ap (λ z. out_of_role z kind.MemberExpr n) e ∙ simple-role r kind.MemberExpr n refl m s)

pair-still : (w : Where) (n : Node) → w.role ≡ role.AssignedProperty → unfit w kind.KeyValuePatProp n ≡ false
unfolding may_be misfits_by misplaces_this_by is_declaration is_full_by
pair-still w n r =
    let k = kind.KeyValuePatProp in
    let calm : Calm k n = record { rest = refl; spread = refl; property = refl; misfits = refl; special = refl; this = refl } in
    still-fits w k n (record { calm = calm; bound = refl; variables = refl; text = refl; declaration = refl; spelled = λ b. refl; full = refl }) (ap (λ z. out_of_role z k n) r)

default-still : (w : Where) (n : Node) → w.role ≡ role.AssignedValue → child_is is_rest_pattern n 0 ≡ false → unfit w kind.AssignPat n ≡ false
unfolding may_be misfits_by misplaces_this_by is_declaration is_full_by
default-still w n r h =
    let k = kind.AssignPat in
    let calm : Calm k n = record { rest = refl; spread = refl; property = refl; misfits = h; special = refl; this = refl } in
    still-fits w k n (record { calm = calm; bound = refl; variables = refl; text = refl; declaration = refl; spelled = λ b. refl; full = refl }) (ap (λ z. out_of_role z k n) r)

pub owed : (enums : KnownEnums) → Owed enums IsUsable IsKey Where unfit inside kinds Agree
unfolding role_in target_in standing_by last_by arguments_in may_be takes
owed enums = record {
  left = λ p t w v n calm s has g h. left-passes p t w v n s has g h;
  kept_here = λ p t w v a b calm s has l e at ones g h. child-fits enums IsUsable IsKey p t w v a b s has l calm e at ones g h;
  kept_below = λ p t w v a b calm s has l e at ones g h i u get. child-agrees enums IsUsable IsKey p t w v a b s has l calm e at ones g h i u get;
  listed_here = λ p t w v a b s has e f g h. list-fits p t w v a s has g b e h;
  listed_below = λ p t w v a b s has e g long i j same. list-agrees p t w v a s has g b e long i j same;
  read = λ t w v g. (ap is_open_role g.role ∙ g.has, ap is_exported g.standing ∙ unexported w.around.standing g.stood);
  target = λ t w v a s has is g h. takes-member v w.role g.role (target-member t.sort t.count w.role g.has);
  property = λ t w v n g. still-fits v kind.KeyValueProp n (frame-still kind.KeyValueProp n refl) (ap (λ z. out_of_role z kind.KeyValueProp n) (g.role ∙ free-is w.role g.has));
  pattern = λ t w v a n s has e g.
      let r = shorthand t w v a has e g in
      (pair-still v n r, takes-member (inside v kind.KeyValuePatProp n 1) role.AssignedValue (value-role v.role r) refl);
  default = λ t w v a n m s has e g first.
      let b = inside v kind.KeyValuePatProp n 1 in
      let r = value-role v.role (shorthand t w v a has e g) in
      let agrees : Agree place.Read (maybe sort.Expr) (inside w kind.AssignPatProp a 1) (inside b kind.AssignPat m 1) =
      record { role = refl; target = refl; standing = refl; last = λ z. refl; arguments = g.arguments; has = refl; stood = refl } in
      (default-still b m r first, takes-member (inside b kind.AssignPat m 0) role.Assigned (default-role b.role r) refl, agrees);
  item = λ at_top exported t w v g. item-usual v (item-is w v g.role g.standing g.target g.has g.stood);
  export = λ at_top t w v c g.
      let i = item-is w v g.role g.standing g.target g.has g.stood in
      record { role = i.0; target = i.2; standing = i.1; last = λ z. no (sym z); arguments = g.arguments; has = refl; stood = refl };
  members = λ at_top exported skips t w v c h g x1 x2 x3 x4 x5. members-agree (kind_of c) at_top exported skips t w v c h g x1 x2 x3 x4 x5;
  member = λ skips t w v g. (item-usual v (item-is w v g.role g.standing g.target g.has g.stood), tt);
  init = λ w v c n b. record { role = refl; target = refl; standing = refl; last = λ z. refl; arguments = ((λ z. no (sym z)), (λ z. no (sym z))); has = refl; stood = refl };
}
  where
    unexported : (s : Standing) → not (is_exported s) ≡ true → is_exported s ≡ false
    unexported standing.Exported h = no h
    unexported _ h = refl
