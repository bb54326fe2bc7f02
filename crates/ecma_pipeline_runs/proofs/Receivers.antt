-- In a tree that fits, or whose nodes have their roles and keep the rules, no item of a list is the name `this`: an arrow function has no such parameter by the rules, and elsewhere it is a reserved word.
use Rattle.std.proofs.Common.{◌≡◌, ◌∙◌, ◌==◌, refl, sym, ap, subst, ℕ, zero, suc, List, [], ◌∷◌, Bool, true, false, ◌&&◌, ◌||◌, not, codes, cond, Option, Some, None, slice_get, bytes_eq, arith}
use Rattle.std.specs.List.{list_all, list_any}
use Rattle.std.proofs.lemmas.Bool.{eqb-true}
use Rattle.std.proofs.lemmas.Slice.Eq.{bytes_eq-Decides}
use Rattle.ecma_lex.specs.Keys.{is_reserved, reserved_words}
use Rattle.ecma_kind.specs.declared.kind.Kind.{Kind}
use Rattle.ecma_kind.specs.declared.kind.Kind.TheVariants as kind
use Rattle.ecma_kind.specs.declared.operators.AssignOp.{AssignOp}
use Rattle.ecma_kind.specs.declared.operators.BinaryOp.{BinaryOp}
use Rattle.ecma_tree.specs.declared.node.Node.{Node, out-Node}
use Rattle.ecma_rules.specs.Children.{is_named, items_at, of_kind}
use Rattle.ecma_rules.specs.Members.{is_misfit, is_special_constructor, is_stray_property, is_this_by, is_this_pattern, misplaces_this, misplaces_this_by}
use Rattle.ecma_rules.specs.Rules.{fails_list, fails_member, fails_statement}
use Rattle.ecma_fits.specs.declared.role.Role.{Role}
use Rattle.ecma_fits.specs.declared.role.Role.TheVariants as role
use Rattle.ecma_fits.specs.declared.unfit.Where.{Where}
use Rattle.ecma_fits.specs.Fitting.{at_top, breaks_rule, first_unfit_in, where_in}
use Rattle.ecma_fits.specs.Roles.{at_child, bound_name_of, by, in_default, in_list, in_pattern, in_rest, in_template, is_assigned, is_out_of_role, is_wrong_name, left_of, may_be, operand_of, role_in, takes}
use Rattle.ecma_rules.specs.Targets.{is_simple_target}
use Rattle.ecma_strip.specs.Staying.{if_there, is_this, is_this_by as goes_by, is_this_ident}
use Rattle.ecma_strip_runs.specs.UsualBodies.{has_no_arrow_receivers, lists_no_receiver}
use Rattle.ecma_hygiene.proofs.Telling.{and-both, true-false}
use Rattle.ecma_pipeline_runs.proofs.Clearing.{in-role}
use Rattle.ecma_pipeline_runs.proofs.Keeping.{Fits, KeepsRules, what-fits-keeps-rules}
use Rattle.ecma_pipeline_runs.proofs.Nodes.{by-children, holds-out, neither}

-- ---- a reserved word

this-reserved : is_reserved (codes "this") ≡ true
unfolding is_reserved reserved_words
this-reserved = refl

unnamed : (k : Kind) → is_wrong_name role.Free k ≡ false → is_this_ident k ≡ false
unnamed (kind.Ident text ctxt optional) h = go (bytes_eq text (codes "this")) refl
  where
    go : (b : Bool) → bytes_eq text (codes "this") ≡ b → bytes_eq text (codes "this") ≡ false
    go false e = e
    go true e =
        let is : text ≡ codes "this" = (bytes_eq-Decides text (codes "this")).0 e in
        let no : true ≡ false = sym this-reserved ∙ (ap is_reserved (sym is) ∙ h) in
        cc
unnamed _ h = refl

abbrev is_parameter : Role → Bool
is_parameter role.Parameter = true
is_parameter _ = false

abbrev is_parameters : Role → Bool
is_parameters role.Parameters = true
is_parameters _ = false

bound-free : (r : Role) → is_parameter r ≡ false → bound_name_of r ≡ role.Free
bound-free role.Parameter h = cc
bound-free _ h = refl

bound-role : (r : Role) → role_in r kind.BindingIdent 0 ≡ bound_name_of r
unfolding role_in
bound-role r = refl

-- ---- lists of parameters

not-list : (b : Bool) (r : Role) → is_parameters r ≡ false → is_parameters (cond b r role.Free) ≡ false
not-list true r h = h
not-list false r h = refl

not-either : (r a d : Role) → is_parameters a ≡ false → is_parameters d ≡ false → is_parameters (by r a d) ≡ false
not-either r a d h g = go (is_assigned r)
  where
    go : (b : Bool) → is_parameters (cond b a d) ≡ false
    go true = h
    go false = g

not-pattern : (r p : Role) (i : ℕ) → is_parameters p ≡ false → is_parameters (in_pattern r p i) ≡ false
not-pattern r p i h = go (i == 0)
  where
    go : (b : Bool) → is_parameters (cond b p (by r role.Nothing role.Free)) ≡ false
    go true = h
    go false = not-either r role.Nothing role.Free refl refl

not-items : (r : Role) → is_parameters (in_list r) ≡ false
not-items role.Parameters = refl
not-items role.DeclaredElements = refl
not-items role.DeclaredProperties = refl
not-items role.AssignedElements = refl
not-items role.AssignedProperties = refl
not-items role.TaggedTexts = refl
not-items _ = refl

not-bound : (r : Role) → is_parameters (bound_name_of r) ≡ false
not-bound role.Parameter = refl
not-bound _ = refl

not-rest : (r : Role) → is_parameters (in_rest r) ≡ false
not-rest role.DeclaredProperty = refl
not-rest role.AssignedProperty = refl
not-rest role.Left = refl
not-rest role.Head = refl
not-rest role.Assigned = refl
not-rest role.AssignedValue = refl
not-rest role.AssignedElement = refl
not-rest role.AssignedName = refl
not-rest _ = refl

not-default : (r : Role) → is_parameters (in_default r) ≡ false
not-default role.Parameter = refl
not-default role.Left = refl
not-default role.Head = refl
not-default role.Assigned = refl
not-default role.AssignedValue = refl
not-default role.AssignedElement = refl
not-default role.AssignedProperty = refl
not-default role.AssignedName = refl
not-default _ = refl

not-template : (r : Role) → is_parameters (in_template r) ≡ false
not-template role.Tagged = refl
not-template _ = refl

not-left : (op : AssignOp) → is_parameters (left_of op) ≡ false
not-left op = go _
  where
    go : (b : Bool) → is_parameters (cond b role.Left role.Simple) ≡ false
    go true = refl
    go false = refl

not-operand : (op : BinaryOp) → is_parameters (operand_of op) ≡ false
not-operand op = go _
  where
    go : (b : Bool) → is_parameters (cond b role.Private role.Free) ≡ false
    go true = refl
    go false = refl

abbrev is_arrow : Kind → Bool
is_arrow (kind.ArrowExpr is_async is_generator) = true
is_arrow _ = false

-- only an arrow function has its parameters in its own list
not-parameters : (r : Role) (k : Kind) (i : ℕ) → is_arrow k ≡ false → is_parameters (role_in r k i) ≡ false
unfolding role_in
not-parameters r kind.List i a = not-items r
not-parameters r (kind.ArrayPat optional) i a = not-pattern r (by r role.AssignedElements role.DeclaredElements) i (not-either r role.AssignedElements role.DeclaredElements refl refl)
not-parameters r (kind.ObjectPat optional) i a = not-pattern r (by r role.AssignedProperties role.DeclaredProperties) i (not-either r role.AssignedProperties role.DeclaredProperties refl refl)
not-parameters r kind.BindingIdent i a = not-pattern r (bound_name_of r) i (not-bound r)
not-parameters r kind.RestPat i a = not-pattern r (in_rest r) i (not-rest r)
not-parameters r kind.AssignPat i a = not-list (i == 0) (in_default r) (not-default r)
not-parameters r kind.KeyValuePatProp i a = not-list (i == 1) (by r role.AssignedValue role.DeclaredValue) (not-either r role.AssignedValue role.DeclaredValue refl refl)
not-parameters r kind.AssignPatProp i a = not-list (i == 0) (by r role.AssignedName role.DeclaredName) (not-either r role.AssignedName role.DeclaredName refl refl)
not-parameters r (kind.ArrowExpr is_async is_generator) i a = cc
not-parameters r kind.SetterProp i a = setter (i == 1)
  where
    setter : (b : Bool) → is_parameters (cond b role.Parameter (at_child 2 i role.Parameter)) ≡ false
    setter true = refl
    setter false = not-list (i == 2) role.Parameter refl
not-parameters r kind.CatchClause i a = not-list (i == 0) role.Declared refl
not-parameters r (kind.VarDeclarator definite) i a = not-list (i == 0) role.Declared refl
not-parameters r (kind.AssignExpr op) i a = not-list (i == 0) (left_of op) (not-left op)
not-parameters r kind.ForInStmt i a = not-list (i == 0) role.Head refl
not-parameters r (kind.ForOfStmt is_await) i a = not-list (i == 0) role.Head refl
not-parameters r (kind.BinExpr op) i a = not-list (i == 0) (operand_of op) (not-operand op)
not-parameters r kind.MemberExpr i a = not-list (i == 1) role.Private refl
not-parameters r (kind.PrivateMethod m modifiers) i a = not-list (i == 0) role.Private refl
not-parameters r (kind.PrivateProp modifiers readonly declare definite) i a = not-list (i == 0) role.Private refl
not-parameters r (kind.ImportNamedSpecifier is_type_only) i a = not-list (i == 1) role.Key refl
not-parameters r kind.TsEnumMember i a = not-list (i == 0) role.Key refl
not-parameters r kind.TaggedTpl i a = not-list (i == 2) role.Tagged refl
not-parameters r kind.Tpl i a = not-list (i == 1) (in_template r) (not-template r)
not-parameters r _ i a = refl

-- and as its first child
no-zero : (j : ℕ) → (suc j == 0) ≡ false
no-zero j = go (suc j == 0) refl
  where
    go : (b : Bool) → (suc j == 0) ≡ b → (suc j == 0) ≡ false
    go false e = e
    go true e = let z : suc j ≡ 0 = eqb-true (suc j) 0 e in let no : ⊥ = omega (arith, z) in absurd no

none-behind : (r : Role) (k : Kind) (j : ℕ) → is_arrow k ≡ true → is_parameters (role_in r k (suc j)) ≡ false
unfolding role_in
none-behind r (kind.ArrowExpr is_async is_generator) j a = ap (λ b. is_parameters (cond b role.Parameters role.Free)) (no-zero j)
none-behind r _ j a = cc

no-item : (r : Role) → is_parameters r ≡ false → is_parameter (in_list r) ≡ false
no-item role.Parameters h = cc
no-item _ h = refl

-- ---- what goes is what the rules call `this`

this-ident : (o : Option Node) → if_there o (λ x. is_this_ident (out-Node x).kind) ≡ of_kind (is_named (codes "this")) o
this-ident None = refl
this-ident (Some x) = by-kind (out-Node x).kind
  where
    by-kind : (k : Kind) → is_this_ident k ≡ is_named (codes "this") k
    by-kind (kind.Ident text ctxt optional) = refl
    by-kind _ = refl

same-this : (n : Node) → is_this n ≡ is_this_pattern n
same-this n = by-kind (out-Node n).kind
  where
    by-kind : (k : Kind) → goes_by k n ≡ is_this_by k n
    by-kind kind.BindingIdent = this-ident (slice_get (out-Node n).children 0)
    by-kind _ = refl

abbrev NoneIs : List Node → Type 0
NoneIs ns = list_all (λ item. not (is_this item)) ns ≡ true

none-of : (ns : List Node) → list_any is_this_pattern ns ≡ false → NoneIs ns
none-of [] h = refl
none-of (n ∷ ns) h =
    let t = neither (is_this_pattern n) (list_any is_this_pattern ns) h in
    and-both (not (is_this n)) (list_all (λ item. not (is_this item)) ns) (ap not (same-this n ∙ t.0)) (none-of ns t.1)

unlisted : (k : Kind) (ns : List Node) → (k ≡ kind.List → NoneIs ns) → lists_no_receiver k ns ≡ true
unlisted kind.List ns h = h refl
unlisted _ ns h = refl

items-unnamed : (ns : List Node) → ((i : ℕ) (c : Node) → slice_get ns i ≡ Some c → is_this c ≡ false) → NoneIs ns
items-unnamed [] each = refl
items-unnamed (n ∷ ns) each = and-both (not (is_this n)) (list_all (λ item. not (is_this item)) ns) (ap not (each 0 n refl)) (items-unnamed ns (λ i c at. each (suc i) c at))

arrow-unnamed : (k : Kind) (n : Node) → is_arrow k ≡ true → misplaces_this_by k n ≡ false → NoneIs (items_at n 0)
unfolding misplaces_this_by
arrow-unnamed (kind.ArrowExpr is_async is_generator) n a h = none-of (items_at n 0) h
arrow-unnamed _ n a h = cc

no-receiver : (w : Where) (n : Node) → breaks_rule w n ≡ false → misplaces_this n ≡ false
no-receiver w n h =
    let a = (neither (fails_list w.around n) (fails_member w.around n || fails_statement w.around n) h).1 in
    let b = (neither (fails_member w.around n) (fails_statement w.around n) a).0 in
    let c = (neither (is_stray_property w.around.standing n) (is_misfit n || (is_special_constructor n || misplaces_this n)) b).1 in
    (neither (is_special_constructor n) (misplaces_this n) (neither (is_misfit n) (is_special_constructor n || misplaces_this n) c).1).1

-- ---- over the tree

-- where nodes have their roles and keep the rules
module _ (Good : Node → Where → Type 0) (keeps : KeepsRules Good) (role-of : (n : Node) (w : Where) → Good n w → is_out_of_role w.role n ≡ false) where
  -- a name that is bound where no parameter stands is not `this`
  item-unnamed : (w : Where) (c : Node) → is_parameter w.role ≡ false → Good c w → is_this c ≡ false
  item-unnamed w c p good = by (out-Node c).kind refl (out-Node c).children refl
    where
      first : (k : Kind) → (out-Node c).kind ≡ k → (ds : List Node) → (out-Node c).children ≡ ds → if_there (slice_get (out-Node c).children 0) (λ x. is_this_ident (out-Node x).kind) ≡ if_there (slice_get ds 0) (λ x. is_this_ident (out-Node x).kind)
      first k e ds f = ap (λ (z : List Node). if_there (slice_get z 0) (λ x. is_this_ident (out-Node x).kind)) f

      by : (k : Kind) → (out-Node c).kind ≡ k → (ds : List Node) → (out-Node c).children ≡ ds → goes_by k c ≡ false
      by kind.BindingIdent e [] f = first kind.BindingIdent e [] f
      by kind.BindingIdent e (d ∷ ds) f =
          let here = role-of d (where_in w c 0) (keeps.below c w good 0 d (ap (λ (z : List Node). slice_get z 0) f)) in
          let role-is : role_in w.role (out-Node c).kind 0 ≡ role.Free = ap (λ k. role_in w.role k 0) e ∙ (bound-role w.role ∙ bound-free w.role p) in
          let r = role_in w.role (out-Node c).kind 0 in
          let wrong = (neither (is_wrong_name r (out-Node d).kind) (not (may_be r (out-Node d).kind || (takes r (out-Node d).kind && is_simple_target d))) here).0 in
          first kind.BindingIdent e (d ∷ ds) f ∙ unnamed (out-Node d).kind (ap (λ r. is_wrong_name r (out-Node d).kind) (sym role-is) ∙ wrong)
      by _ e ds f = refl

  -- of a node, where it is no list of parameters that has one
  abbrev Unreceived : Node → Type 0
  Unreceived n = (w : Where) → Good n w → (is_parameters w.role ≡ true → NoneIs (out-Node n).children) → has_no_arrow_receivers n ≡ true

  all-unreceived : (cs : List Node) → ((i : ℕ) (c : Node) → slice_get cs i ≡ Some c → has_no_arrow_receivers c ≡ true) → list_all has_no_arrow_receivers cs ≡ true
  all-unreceived [] each = refl
  all-unreceived (c ∷ cs) each = and-both (has_no_arrow_receivers c) (list_all has_no_arrow_receivers cs) (each 0 c refl) (all-unreceived cs (λ i d at. each (suc i) d at))

  module _ (n : Node) (w : Where) (good : Good n w) (own : is_parameters w.role ≡ true → NoneIs (out-Node n).children) where
    itself : lists_no_receiver (out-Node n).kind (out-Node n).children ≡ true
    unfolding role_in
    itself = unlisted (out-Node n).kind (out-Node n).children (λ e. by-role (is_parameters w.role) refl e)
      where
        list-role : (out-Node n).kind ≡ kind.List → (i : ℕ) → role_in w.role (out-Node n).kind i ≡ in_list w.role
        list-role e i = ap (λ k. role_in w.role k i) e

        by-role : (b : Bool) → is_parameters w.role ≡ b → (out-Node n).kind ≡ kind.List → NoneIs (out-Node n).children
        by-role true p e = own p
        by-role false p e = items-unnamed (out-Node n).children (λ i c at. item-unnamed (where_in w n i) c (ap is_parameter (list-role e i) ∙ no-item w.role p) (keeps.below n w good i c at))

    lists : (i : ℕ) (c : Node) → slice_get (out-Node n).children i ≡ Some c → is_parameters (where_in w n i).role ≡ true → NoneIs (out-Node c).children
    lists i c at p = by-arrow (is_arrow (out-Node n).kind) refl
      where
        at-first : (j : ℕ) → j ≡ i → is_parameters (role_in w.role (out-Node n).kind j) ≡ true → is_arrow (out-Node n).kind ≡ true → NoneIs (out-Node c).children
        at-first zero e q a = subst NoneIs (ap (λ o. items-by o) (ap (slice_get (out-Node n).children) e ∙ at)) (arrow-unnamed (out-Node n).kind n a (no-receiver w n (keeps.rule n w good)))
          where
            items-by : Option Node → List Node
            items-by None = []
            items-by (Some m) = (out-Node m).children
        at-first (suc j) e q a = absurd (true-false q (none-behind w.role (out-Node n).kind j a))

        by-arrow : (b : Bool) → is_arrow (out-Node n).kind ≡ b → NoneIs (out-Node c).children
        by-arrow true a = at-first i refl p a
        by-arrow false a = absurd (true-false p (not-parameters w.role (out-Node n).kind i a))

  layer-unreceived : (n : Node) → ((i : ℕ) (c : Node) → slice_get (out-Node n).children i ≡ Some c → Unreceived c) → Unreceived n
  layer-unreceived n below w good own =
      holds-out lists_no_receiver n
      ∙ and-both (lists_no_receiver (out-Node n).kind (out-Node n).children) (list_all has_no_arrow_receivers (out-Node n).children) (itself n w good own)
      (all-unreceived (out-Node n).children (λ i c at. below i c at (where_in w n i) (keeps.below n w good i c at) (lists n w good own i c at)))

  unreceived : (n : Node) → Unreceived n
  unreceived = by-children Unreceived layer-unreceived

  pub none-received : (tree : Node) → Good tree at_top → has_no_arrow_receivers tree ≡ true
  none-received tree good = unreceived tree at_top good (λ p. absurd (true-false p refl))

pub no-receivers : (tree : Node) → first_unfit_in tree at_top ≡ None → has_no_arrow_receivers tree ≡ true
no-receivers = none-received Fits what-fits-keeps-rules (λ n w fits. in-role w n fits)
