-- What no node of a tree is by its role, none is in the tree with explicit parentheses.
use Rattle.std.proofs.Common.{◌≡◌, ◌∙◌, ◌||◌, ◌&&◌, not, if◌then◌else◌, ℕ, suc, Bool, true, false, List, [], ◌∷◌, map, Option, None, refl, sym, ap, ap₂, subst}
use Rattle.ecma_kind.specs.declared.span.Span.{Span}
use Rattle.ecma_kind.specs.declared.kind.Kind.{Kind}
use Rattle.ecma_kind.specs.declared.kind.Kind.TheVariants as kind
use Rattle.ecma_tree.specs.declared.node.Node.{Node, Node-F, fold-roll-Node, ind-Node, roll-Node}
use Rattle.ecma_tree.specs.Nodes.{dummy_span, node_of}
use Rattle.ecma_tree.specs.Sorted.{is_absent}
use Rattle.ecma_rules.specs.Failing.{failing_here, failing_step, least, least_from}
use Rattle.ecma_rules.specs.Targets.{first_is, is_plain_target, is_simple_target, is_wrapper, simple_step}
use Rattle.ecma_print.specs.declared.place.Spot.{Spot}
use Rattle.ecma_print.specs.Places.{free}
use Rattle.ecma_print.specs.Laid.{Laid}
use Rattle.ecma_print.specs.Levels.{in_parentheses}
use Rattle.ecma_print.specs.Explicit.{Standing, bare, laid_children, parenthesized, stood}
use Rattle.ecma_print.specs.Spots.{first_spots, further_spot}
use Rattle.ecma_print_parentheses.proofs.Standing.{if_false, stands}
use Rattle.ecma_print_parentheses.proofs.Asking.{AllFit, Fits, first_fit, further_fits, open_where_free}
use Rattle.ecma_fits.specs.declared.role.Role.{Role}
use Rattle.ecma_fits.specs.declared.role.Role.TheVariants as role
use Rattle.ecma_fits.specs.declared.unfit.Where.{Where}
use Rattle.ecma_fits.specs.Fitting.{at_top, where_in}
use Rattle.ecma_fits.specs.Roles.{is_binding, is_bound_name, is_default, is_free, is_out_of_role, is_pattern, is_rest, is_variables, is_wrong_name, may_be, role_in, takes}
use Rattle.ecma_print_fits.specs.Laws.{ExplicitRolesStay}
use Rattle.ecma_print_fits.proofs.Parts.{kind_made, neither_least, not_failing, not_true, shifted}
use Rattle.ecma_print_fits.proofs.Explicit.{spotted}
use Rattle.ecma_tree.specs.Layers.{from_leaves}
use Rattle.ecma_tree.proofs.Layers.{from_leaves-roll}

-- the kinds that may stand in parentheses
abbrev pub closes : Kind → Bool
closes kind.SeqExpr = true
closes (kind.AssignExpr op) = true
closes (kind.ArrowExpr is_async is_generator) = true
closes (kind.YieldExpr delegate) = true
closes kind.CondExpr = true
closes (kind.BinExpr op) = true
closes (kind.UnaryExpr op) = true
closes kind.AwaitExpr = true
closes (kind.UpdateExpr op prefix) = true
closes kind.CallExpr = true
closes (kind.OptChainExpr optional) = true
closes kind.NewExpr = true
closes (kind.Number value raw) = true
closes kind.ObjectLit = true
closes kind.FnExpr = true
closes kind.ClassExpr = true
closes _ = false

pub closed : (k : Kind) (children : List Laid) (spot : Spot) → Fits spot → in_parentheses k children spot ≡ true → closes k ≡ true
closed kind.SeqExpr children spot h e = refl
closed (kind.AssignExpr op) children spot h e = refl
closed (kind.ArrowExpr is_async is_generator) children spot h e = refl
closed (kind.YieldExpr delegate) children spot h e = refl
closed kind.CondExpr children spot h e = refl
closed (kind.BinExpr op) children spot h e = refl
closed (kind.UnaryExpr op) children spot h e = refl
closed kind.AwaitExpr children spot h e = refl
closed (kind.UpdateExpr op prefix) children spot h e = refl
closed kind.CallExpr children spot h e = refl
closed (kind.OptChainExpr optional) children spot h e = refl
closed kind.NewExpr children spot h e = refl
closed (kind.Number value raw) children spot h e = refl
closed kind.ObjectLit children spot h e = refl
closed kind.FnExpr children spot h e = refl
closed kind.ClassExpr children spot h e = refl
closed _ children spot h e = not_true (sym (ap (λ b. b || false) h) ∙ e)

-- what is asked of the children of such a node does not depend on what is asked of it
pub same_roles : (r : Role) (k : Kind) (i : ℕ) → closes k ≡ true → role_in r k i ≡ role_in role.Free k i
unfolding role_in
same_roles r kind.SeqExpr i h = refl
same_roles r (kind.AssignExpr op) i h = refl
same_roles r (kind.ArrowExpr is_async is_generator) i h = refl
same_roles r (kind.YieldExpr delegate) i h = refl
same_roles r kind.CondExpr i h = refl
same_roles r (kind.BinExpr op) i h = refl
same_roles r (kind.UnaryExpr op) i h = refl
same_roles r kind.AwaitExpr i h = refl
same_roles r (kind.UpdateExpr op prefix) i h = refl
same_roles r kind.CallExpr i h = refl
same_roles r (kind.OptChainExpr optional) i h = refl
same_roles r kind.NewExpr i h = refl
same_roles r (kind.Number value raw) i h = refl
same_roles r kind.ObjectLit i h = refl
same_roles r kind.FnExpr i h = refl
same_roles r kind.ClassExpr i h = refl
same_roles r _ i h = not_true h

-- over the tree: a test of nodes by their roles, that a node passes in which children stand in their spots, if it passed it; and that it passes in parentheses, as
-- these do in its place
module _ (T : Role → Node → Bool)
    (here : (r : Role) (span : Span) (k : Kind) (ns : List Node) (children : List Laid) (spot : Spot) → Fits spot → T r (node_of span k ns) ≡ false → T r (node_of span k (spotted ns (first_spots k children spot) (further_spot k spot))) ≡ false)
    (around : (r : Role) (x : Node-F Node) → closes x.kind ≡ true → T r (roll-Node x) ≡ false → (T role.Free (roll-Node x) ≡ false) × ((n : Node) → T r (parenthesized n) ≡ false)) where
  abbrev tell : Where → Node → Option ℕ
  tell w n = failing_here (T w.role n) n

  abbrev walk : Node → Where → Option ℕ
  walk = from_leaves (Where → Option ℕ) (failing_step Where tell where_in)

  walk_parts : (x : Node-F Node) (w : Where) → walk (roll-Node x) w ≡ None → (T w.role (roll-Node x) ≡ false) × (least_from Where (where_in w (roll-Node x)) 0 (map walk x.children) ≡ None)
  walk_parts x w h =
      let n = roll-Node x in
      let e = ap (λ f. f w) (from_leaves-roll (Where → Option ℕ) (failing_step Where tell where_in) x) in
      let a = neither_least (tell w n) (least_from Where (where_in w n) 0 (map walk x.children)) (sym e ∙ h) in
      (not_failing (T w.role n) n a.0, a.1)

  walk_whole : (x : Node-F Node) (w : Where) → T w.role (roll-Node x) ≡ false → least_from Where (where_in w (roll-Node x)) 0 (map walk x.children) ≡ None → walk (roll-Node x) w ≡ None
  walk_whole x w h g =
      ap (λ f. f w) (from_leaves-roll (Where → Option ℕ) (failing_step Where tell where_in) x) ∙ ap₂ least (ap (λ b. failing_here b (roll-Node x)) h) g

  abbrev Kept : Node → Type 0
  Kept n = (w v : Where) → v.role ≡ w.role → walk n w ≡ None → (spot : Spot) → Fits spot → walk ((stood n).at spot) v ≡ None

  abbrev AllKept : List Node → Type 0
  AllKept ns = (w_of v_of : ℕ → Where) → ((i : ℕ) → (v_of i).role ≡ (w_of i).role) → least_from Where w_of 0 (map walk ns) ≡ None → (spots : List Spot) (further : Spot) → AllFit spots → Fits further → least_from Where v_of 0 (map walk (spotted ns spots further)) ≡ None

  all_kept : (es : List ((n : Node) × Kept n)) → AllKept (map (λ e. e.0) es)
  all_kept [] w_of v_of same h spots further fit fits = refl
  all_kept (e ∷ es) w_of v_of same h [] further fit fits =
      let ns = map (λ e. e.0) es in
      let a = neither_least (walk e.0 (w_of 0)) (least_from Where w_of 1 (map walk ns)) h in
      let rest = all_kept es (λ i. w_of (suc i)) (λ i. v_of (suc i)) (λ i. same (suc i)) (sym (shifted Where w_of 0 (map walk ns)) ∙ a.1) [] further fit fits in
      ap₂ least (e.1 (w_of 0) (v_of 0) (same 0) a.0 further fits) (shifted Where v_of 0 (map walk (spotted ns [] further)) ∙ rest)
  all_kept (e ∷ es) w_of v_of same h (spot ∷ spots) further fit fits =
      let ns = map (λ e. e.0) es in
      let a = neither_least (walk e.0 (w_of 0)) (least_from Where w_of 1 (map walk ns)) h in
      let rest = all_kept es (λ i. w_of (suc i)) (λ i. v_of (suc i)) (λ i. same (suc i)) (sym (shifted Where w_of 0 (map walk ns)) ∙ a.1) spots further fit.1 fits in
      ap₂ least (e.1 (w_of 0) (v_of 0) (same 0) a.0 spot fit.0) (shifted Where v_of 0 (map walk (spotted ns spots further)) ∙ rest)

  module _ (x : Node-F Node) (below : AllKept x.children) (w : Where) (h : walk (roll-Node x) w ≡ None) where
    abbrev own : List Standing
    own = map stood x.children

    abbrev stood_at : Spot → Node-F Node
    stood_at spot = record { span = x.span; kind = x.kind; children = spotted x.children (first_spots x.kind (laid_children own) spot) (further_spot x.kind spot) }

    bare_kept : (spot : Spot) → Fits spot → (v : Where) → ((i : ℕ) → role_in v.role x.kind i ≡ role_in w.role x.kind i) → T v.role (roll-Node (stood_at spot)) ≡ false → walk (roll-Node (stood_at spot)) v ≡ None
    bare_kept spot fits v same fine =
        let y = stood_at spot in
        let roles : (i : ℕ) → (where_in v (roll-Node y) i).role ≡ (where_in w (roll-Node x) i).role =
        λ i. ap (λ k. role_in v.role k i) (kind_made y) ∙ (same i ∙ sym (ap (λ k. role_in w.role k i) (kind_made x))) in
        walk_whole y v fine (below (where_in w (roll-Node x)) (where_in v (roll-Node y)) roles (walk_parts x w h).1 (first_spots x.kind (laid_children own) spot) (further_spot x.kind spot)
        (first_fit x.kind (laid_children own) spot fits) (further_fits x.kind spot fits))

    -- in a spot in which it stands without parentheses, and with them
    open_kept : (spot : Spot) → Fits spot → (v : Where) → v.role ≡ w.role → walk (roll-Node (stood_at spot)) v ≡ None
    open_kept spot fits v same =
        let fine = here w.role x.span x.kind x.children (laid_children own) spot fits (walk_parts x w h).0 in
        bare_kept spot fits v (λ i. ap (λ r. role_in r x.kind i) same) (subst (λ r. T r (roll-Node (stood_at spot)) ≡ false) (sym same) fine)

    free_there : (v : Where) (n : Node) → (where_in v (parenthesized n) 0).role ≡ role.Free
    unfolding role_in
    free_there v n = ap (λ k. role_in v.role k 0) (kind_made (record { span = dummy_span; kind = kind.ParenExpr; children = n ∷ [] }))

    closed_kept : closes x.kind ≡ true → (v : Where) → v.role ≡ w.role → walk (parenthesized (roll-Node (stood_at (free 0)))) v ≡ None
    closed_kept c v same =
        let inner = roll-Node (stood_at (free 0)) in
        let y : Node-F Node = record { span = dummy_span; kind = kind.ParenExpr; children = inner ∷ [] } in
        let fine = here w.role x.span x.kind x.children (laid_children own) (free 0) refl (walk_parts x w h).0 in
        let outer = (around w.role (stood_at (free 0)) c fine).1 inner in
        let free_fine = (around w.role (stood_at (free 0)) c fine).0 in
        let u = where_in v (roll-Node y) 0 in
        let e : u.role ≡ role.Free = free_there v inner in
        walk_whole y v (subst (λ r. T r (roll-Node y) ≡ false) (sym same) outer)
        (ap₂ least (bare_kept (free 0) refl u (λ i. ap (λ r. role_in r x.kind i) e ∙ sym (same_roles w.role x.kind i c)) (subst (λ r. T r inner ≡ false) (sym e) free_fine)) refl)

    either_kept : (b : Bool) (spot : Spot) → Fits spot → (b ≡ true → closes x.kind ≡ true) → (v : Where) → v.role ≡ w.role → walk (if b then parenthesized (bare x.span x.kind own (free 0)) else bare x.span x.kind own spot) v ≡ None
    either_kept true spot fits c v same = closed_kept (c refl) v same
    either_kept false spot fits c v same = open_kept spot fits v same

  node_kept : (x : Node-F Node) → AllKept x.children → Kept (roll-Node x)
  node_kept x below w v same h spot fits =
      let ls = laid_children (map stood x.children) in
      ap (λ m. walk m v) (stands x spot) ∙ either_kept x below w h (in_parentheses x.kind ls spot) spot fits (λ e. closed x.kind ls spot fits e) v same

  pub kept : (n : Node) → Kept n
  kept = ind-Node Kept (λ x y is. node_kept x (subst (λ (z : Node-F Node). AllKept z.children) is (all_kept y.children)))

-- roles

abbrev out_by : Role → Kind → Bool → Bool
out_by r k simple = is_wrong_name r k || not (may_be r k || (takes r k && simple))

out_made : (r : Role) (x : Node-F Node) → is_out_of_role r (roll-Node x) ≡ out_by r x.kind (is_simple_target (roll-Node x))
out_made r x = ap (λ k. out_by r k (is_simple_target (roll-Node x))) (kind_made x)

simple_made : (x : Node-F Node) → is_simple_target (roll-Node x) ≡ (is_plain_target x.kind || (is_wrapper x.kind && first_is (map is_simple_target x.children)))
simple_made x = fold-roll-Node Bool simple_step x

abbrev Simple : Node → Type 0
Simple n = is_simple_target n ≡ true → is_simple_target ((stood n).at (free 0)) ≡ true

abbrev FirstSimple : List Node → Type 0
FirstSimple ns = first_is (map is_simple_target ns) ≡ true → first_is (map is_simple_target (spotted ns [] (free 0))) ≡ true

first_simple : (es : List ((n : Node) × Simple n)) → FirstSimple (map (λ e. e.0) es)
first_simple [] h = h
first_simple (e ∷ es) h = e.1 h

-- a wrapper has its expression where nothing stands around
simple_by : (k : Kind) (ns : List Node) (children : List Laid) (spot : Spot) → FirstSimple ns → (is_plain_target k || (is_wrapper k && first_is (map is_simple_target ns))) ≡ true
    → (is_plain_target k || (is_wrapper k && first_is (map is_simple_target (spotted ns (first_spots k children spot) (further_spot k spot))))) ≡ true
simple_by (kind.Ident text ctxt optional) ns children spot below h = refl
simple_by kind.MemberExpr ns children spot below h = refl
simple_by kind.SuperPropExpr ns children spot below h = refl
simple_by kind.ParenExpr ns children spot below h = below h
simple_by kind.TsTypeAssertion ns children spot below h = below h
simple_by kind.TsConstAssertion ns children spot below h = below h
simple_by kind.TsNonNullExpr ns children spot below h = below h
simple_by kind.TsAsExpr ns children spot below h = below h
simple_by kind.TsInstantiation ns children spot below h = below h
simple_by kind.TsSatisfiesExpr ns children spot below h = below h
simple_by _ ns children spot below h = not_true h

simple_here : (span : Span) (k : Kind) (ns : List Node) (children : List Laid) (spot : Spot) → FirstSimple ns → is_simple_target (node_of span k ns) ≡ true → is_simple_target (node_of span k (spotted ns (first_spots k children spot) (further_spot k spot))) ≡ true
simple_here span k ns children spot below h =
    simple_made (record { span = span; kind = k; children = spotted ns (first_spots k children spot) (further_spot k spot) }) ∙ simple_by k ns children spot below (sym (simple_made (record { span = span; kind = k; children = ns })) ∙ h)

node_simple : (x : Node-F Node) → FirstSimple x.children → Simple (roll-Node x)
node_simple x below h =
    let own = map stood x.children in
    let ls = laid_children own in
    ap is_simple_target (stands x (free 0) ∙ if_false (in_parentheses x.kind ls (free 0)) (parenthesized (bare x.span x.kind own (free 0))) (bare x.span x.kind own (free 0)) (open_where_free x.kind ls))
    ∙ simple_here x.span x.kind x.children ls (free 0) below h

simple : (n : Node) → Simple n
simple = ind-Node Simple (λ x y is. node_simple x (subst (λ (z : Node-F Node). FirstSimple z.children) is (first_simple y.children)))

firsts_simple : (ns : List Node) → FirstSimple ns
firsts_simple [] h = h
firsts_simple (n ∷ ns) h = simple n h

out_less : (r : Role) (k : Kind) (s z : Bool) → (s ≡ true → z ≡ true) → out_by r k s ≡ false → out_by r k z ≡ false
out_less r k true z f h = ap (out_by r k) (f refl) ∙ h
out_less r k false z f h = go (is_wrong_name r k) (may_be r k) (takes r k) z h
  where
    go : (a b c z : Bool) → (a || not (b || (c && false))) ≡ false → (a || not (b || (c && z))) ≡ false
    go true b c z h = h
    go false true c z h = refl
    go false false true z h = not_true (sym h)
    go false false false z h = h

roles_here : (r : Role) (span : Span) (k : Kind) (ns : List Node) (children : List Laid) (spot : Spot) → Fits spot → is_out_of_role r (node_of span k ns) ≡ false → is_out_of_role r (node_of span k (spotted ns (first_spots k children spot) (further_spot k spot))) ≡ false
roles_here r span k ns children spot fits h =
    let x : Node-F Node = record { span = span; kind = k; children = ns } in
    let y : Node-F Node = record { span = span; kind = k; children = spotted ns (first_spots k children spot) (further_spot k spot) } in
    out_made r y ∙ out_less r k (is_simple_target (roll-Node x)) (is_simple_target (roll-Node y)) (simple_here span k ns children spot (firsts_simple ns)) (sym (out_made r x) ∙ h)

-- a kind that may stand in parentheses is nothing that is declared or assigned to
pub record Expression (k : Kind) : Type 0 where
  pub pattern : is_pattern k ≡ false
  pub binding : is_binding k ≡ false
  pub bound : is_bound_name k ≡ false
  pub variables : is_variables k ≡ false
  pub absent : is_absent k ≡ false
  pub default : is_default k ≡ false
  pub rest : is_rest k ≡ false
  pub free : is_free k ≡ true
  pub plain : is_plain_target k ≡ false
  pub wrapper : is_wrapper k ≡ false
  name : (r : Role) → is_wrong_name r k ≡ false

pub expression : (k : Kind) → closes k ≡ true → Expression k
expression kind.SeqExpr h = record { pattern = refl; binding = refl; bound = refl; variables = refl; absent = refl; default = refl; rest = refl; free = refl; plain = refl; wrapper = refl; name = λ r. refl }
expression (kind.AssignExpr op) h = record { pattern = refl; binding = refl; bound = refl; variables = refl; absent = refl; default = refl; rest = refl; free = refl; plain = refl; wrapper = refl; name = λ r. refl }
expression (kind.ArrowExpr is_async is_generator) h = record { pattern = refl; binding = refl; bound = refl; variables = refl; absent = refl; default = refl; rest = refl; free = refl; plain = refl; wrapper = refl; name = λ r. refl }
expression (kind.YieldExpr delegate) h = record { pattern = refl; binding = refl; bound = refl; variables = refl; absent = refl; default = refl; rest = refl; free = refl; plain = refl; wrapper = refl; name = λ r. refl }
expression kind.CondExpr h = record { pattern = refl; binding = refl; bound = refl; variables = refl; absent = refl; default = refl; rest = refl; free = refl; plain = refl; wrapper = refl; name = λ r. refl }
expression (kind.BinExpr op) h = record { pattern = refl; binding = refl; bound = refl; variables = refl; absent = refl; default = refl; rest = refl; free = refl; plain = refl; wrapper = refl; name = λ r. refl }
expression (kind.UnaryExpr op) h = record { pattern = refl; binding = refl; bound = refl; variables = refl; absent = refl; default = refl; rest = refl; free = refl; plain = refl; wrapper = refl; name = λ r. refl }
expression kind.AwaitExpr h = record { pattern = refl; binding = refl; bound = refl; variables = refl; absent = refl; default = refl; rest = refl; free = refl; plain = refl; wrapper = refl; name = λ r. refl }
expression (kind.UpdateExpr op prefix) h = record { pattern = refl; binding = refl; bound = refl; variables = refl; absent = refl; default = refl; rest = refl; free = refl; plain = refl; wrapper = refl; name = λ r. refl }
expression kind.CallExpr h = record { pattern = refl; binding = refl; bound = refl; variables = refl; absent = refl; default = refl; rest = refl; free = refl; plain = refl; wrapper = refl; name = λ r. refl }
expression (kind.OptChainExpr optional) h = record { pattern = refl; binding = refl; bound = refl; variables = refl; absent = refl; default = refl; rest = refl; free = refl; plain = refl; wrapper = refl; name = λ r. refl }
expression kind.NewExpr h = record { pattern = refl; binding = refl; bound = refl; variables = refl; absent = refl; default = refl; rest = refl; free = refl; plain = refl; wrapper = refl; name = λ r. refl }
expression (kind.Number value raw) h = record { pattern = refl; binding = refl; bound = refl; variables = refl; absent = refl; default = refl; rest = refl; free = refl; plain = refl; wrapper = refl; name = λ r. refl }
expression kind.ObjectLit h = record { pattern = refl; binding = refl; bound = refl; variables = refl; absent = refl; default = refl; rest = refl; free = refl; plain = refl; wrapper = refl; name = λ r. refl }
expression kind.FnExpr h = record { pattern = refl; binding = refl; bound = refl; variables = refl; absent = refl; default = refl; rest = refl; free = refl; plain = refl; wrapper = refl; name = λ r. refl }
expression kind.ClassExpr h = record { pattern = refl; binding = refl; bound = refl; variables = refl; absent = refl; default = refl; rest = refl; free = refl; plain = refl; wrapper = refl; name = λ r. refl }
expression _ h = not_true h

-- so where it may stand, parentheses may
as_parentheses : (r : Role) (k : Kind) → Expression k → may_be r k ≡ may_be r kind.ParenExpr
unfolding may_be
as_parentheses role.Free k e = e.free
as_parentheses role.Left k e = e.pattern
as_parentheses role.Head k e = ap₂ (λ a b. a || b) e.binding e.variables
as_parentheses role.Nothing k e = e.absent
as_parentheses role.Declared k e = ap₂ (λ a b. a || b) e.binding e.absent
as_parentheses role.DeclaredValue k e = ap₂ (λ a b. a || b) e.binding e.default
as_parentheses role.DeclaredElement k e = ap₂ (λ a b. a || b) e.binding (ap₂ (λ a b. a || b) e.default (ap₂ (λ a b. a || b) e.rest e.absent))
as_parentheses role.Parameter k e = ap₂ (λ a b. a || b) e.binding (ap₂ (λ a b. a || b) e.default (ap₂ (λ a b. a || b) e.rest e.absent))
as_parentheses role.DefaultedParameter k e = ap₂ (λ a b. a || b) e.binding e.rest
as_parentheses role.DeclaredName k e = e.bound
as_parentheses role.Assigned k e = e.binding
as_parentheses role.AssignedValue k e = ap₂ (λ a b. a || b) e.binding e.default
as_parentheses role.AssignedElement k e = ap₂ (λ a b. a || b) e.binding (ap₂ (λ a b. a || b) e.default (ap₂ (λ a b. a || b) e.rest e.absent))
as_parentheses role.AssignedName k e = e.bound
as_parentheses _ k e = refl

may_alone : (a b c : Bool) → (a || not (b || (c && false))) ≡ false → b ≡ true
may_alone true b c h = not_true (sym h)
may_alone false true c h = refl
may_alone false false true h = not_true (sym h)
may_alone false false false h = not_true (sym h)

roles_around : (r : Role) (x : Node-F Node) → closes x.kind ≡ true → is_out_of_role r (roll-Node x) ≡ false → (is_out_of_role role.Free (roll-Node x) ≡ false) × ((n : Node) → is_out_of_role r (parenthesized n) ≡ false)
unfolding may_be
roles_around r x c h =
    let e = expression x.kind c in
    let s : is_simple_target (roll-Node x) ≡ false = simple_made x ∙ ap₂ (λ a b. a || (b && first_is (map is_simple_target x.children))) e.plain e.wrapper in
    let may = may_alone (is_wrong_name r x.kind) (may_be r x.kind) (takes r x.kind) (sym (ap (out_by r x.kind) s) ∙ (sym (out_made r x) ∙ h)) in
    let there : may_be r kind.ParenExpr ≡ true = sym (as_parentheses r x.kind e) ∙ may in (
      out_made role.Free x ∙ ap₂ (λ a b. a || not (b || (takes role.Free x.kind && is_simple_target (roll-Node x)))) (e.name role.Free) e.free,
      λ n. out_made r (record { span = dummy_span; kind = kind.ParenExpr; children = n ∷ [] }) ∙ ap (λ b. not (b || (takes r kind.ParenExpr && is_simple_target (parenthesized n)))) there,
    )

pub roles_stay : ExplicitRolesStay
roles_stay tree h = kept is_out_of_role roles_here roles_around tree at_top at_top refl h (free 0) refl

pub ruleset roles = (roles_stay)
