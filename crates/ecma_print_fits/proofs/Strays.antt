-- Nothing in the raw tree of what fits belongs to nothing inside the enum initialiser or namespace body around it.
use Rattle.std.proofs.Common.{◌≡◌, ◌∙◌, ℕ, suc, Bool, true, false, ◌&&◌, ◌==◌, cond, codes, bytes_eq, List, [], ◌∷◌, map, Option, None, refl, sym, ap, ap₂, subst, slice_get}
use Rattle.ecma_kind.specs.declared.span.Span.{Span}
use Rattle.ecma_kind.specs.declared.kind.Kind.{Kind}
use Rattle.ecma_kind.specs.declared.kind.Kind.TheVariants as kind
use Rattle.ecma_kind.specs.declared.shapes.Shape.{Shape}
use Rattle.ecma_tree.specs.declared.node.Node.{Node, Node-F, roll-Node}
use Rattle.ecma_tree.specs.declared.node.Node.TheViews.{out-roll-Node}
use Rattle.ecma_tree.specs.Nodes.{node_of}
use Rattle.ecma_tree.specs.Sorted.{child_shapes}
use Rattle.ecma_tree.proofs.Layers.{from_leaves-roll}
use Rattle.ecma_rules.specs.declared.strays.Strays.{Strays}
use Rattle.ecma_rules.specs.declared.target.Target.{Target}
use Rattle.ecma_rules.specs.declared.target.Target.TheVariants as target
use Rattle.ecma_rules.specs.Children.{is_named, kind_of, of_kind}
use Rattle.ecma_rules.specs.Failing.{failing_here, failing_step, least, least_from}
use Rattle.ecma_rules.specs.Finishing.{each_in}
use Rattle.ecma_rules.specs.Jumps.{Held, ends_jumps, first_held_stray, held_behind, held_in, is_held_stray, is_stray_in, own_label, stray_here, text_by, text_of}
use Rattle.ecma_rules.specs.Strays.{all_held, as_name, in_named, is_stray, strays_in, in_arrow, in_field, in_function, in_loop, in_member, in_switch, with_home, without_home}
use Rattle.ecma_rules.specs.Targets.{target_in}
use Rattle.ecma_covers.specs.Covering.{cover_at}
use Rattle.ecma_covers.specs.Placing.{binds}
use Rattle.ecma_covers.proofs.Uncovering.{binding_node, free_kind, name_node}
use Rattle.ecma_fits.specs.declared.role.Role.{Role}
use Rattle.ecma_fits.specs.declared.role.Role.TheVariants as role
use Rattle.ecma_fits.specs.declared.strays.Arguments.{Arguments}
use Rattle.ecma_fits.specs.Roles.{is_assigned, is_bound_name}
use Rattle.ecma_fits.specs.Strays.{arguments_in, is_stray_target, all_held as held_all, in_field as field_of, in_function as function_of}
use Rattle.ecma_print_fits.proofs.Parts.{kind_made, neither_least, not_failing, not_true, shifted}
use Rattle.ecma_print_fits.proofs.Roles.{target_of}

-- where `arguments` would be a stray as it is read, it would be one in a pattern of the finished tree

pub record Alike (s : Strays) (a : Arguments) : Type 0 where
  pub stray : s.arguments ≡ true → a.stray ≡ true
  pub within : s.held ≡ true → a.held ≡ true
  pub inside : s.arguments ≡ true → a.held ≡ true

-- fields and members of enums are asked child by child
abbrev by_child : Kind → Bool
by_child (kind.ClassProp modifiers readonly declare definite) = true
by_child (kind.PrivateProp modifiers readonly declare definite) = true
by_child kind.TsEnumMember = true
by_child _ = false

module _ (s : Strays) (a : Arguments) (h : Alike s a) where
  -- where it is none
  unused : (z : Strays) (b : Arguments) → z.arguments ≡ false → z.held ≡ s.held → b.held ≡ a.held → Alike z b
  unused z b e f g = record { stray = λ t. not_true (sym e ∙ t); within = λ t. g ∙ h.within (sym f ∙ t); inside = λ t. not_true (sym e ∙ t) }

  named : Alike (as_name s) a
  named = unused (as_name s) a refl refl refl

  -- where it stays as it is
  stays : (z : Strays) → z.arguments ≡ s.arguments → z.held ≡ s.held → Alike z a
  stays z e f = record { stray = λ t. h.stray (sym e ∙ t); within = λ t. h.within (sym f ∙ t); inside = λ t. h.inside (sym e ∙ t) }

  field : Alike (in_field s) (field_of a)
  field = record { stray = h.within; within = h.within; inside = h.within }

  behind_field : Alike s (field_of a)
  behind_field = record { stray = h.inside; within = h.within; inside = h.inside }

  all : Alike all_held held_all
  all = record { stray = λ t. refl; within = λ t. refl; inside = λ t. refl }

  either : (b : Bool) (z y : Strays) → Alike z a → Alike y a → Alike (cond b z y) a
  either true z y e f = e
  either false z y e f = f

  first : (b : Bool) → Alike (cond b (as_name s) s) a
  first b = either b (as_name s) s named h

  key : (b : Bool) → Alike (cond b s (in_member s)) (cond b a (function_of a))
  key true = h
  key false = unused (in_member s) (function_of a) refl refl refl

  function_there : (b : Bool) → Alike (cond b (without_home s) (as_name s)) a
  function_there b = either b (without_home s) (as_name s) (stays (without_home s) refl refl) named

  method_there : (b : Bool) → Alike (cond b (with_home s) s) a
  method_there b = either b (with_home s) s (stays (with_home s) refl refl) h

  loop_there : (b : Bool) → Alike (cond b (in_loop s) s) a
  loop_there b = either b (in_loop s) s (stays (in_loop s) refl refl) h

  alike_in : (k : Kind) → by_child k ≡ false → (i : ℕ) → Alike (strays_in s k i) (arguments_in a k i)
  unfolding strays_in in_named arguments_in
  alike_in (kind.ClassProp modifiers readonly declare definite) e i = not_true (sym e)
  alike_in (kind.PrivateProp modifiers readonly declare definite) e i = not_true (sym e)
  alike_in kind.TsEnumMember e i = not_true (sym e)
  alike_in (kind.FnDecl declare) e i = function_there (i == 1)
  alike_in kind.FnExpr e i = function_there (i == 1)
  alike_in kind.MethodProp e i = method_there (i == 1)
  alike_in (kind.ClassMethod k modifiers) e i = method_there (i == 1)
  alike_in (kind.PrivateMethod k modifiers) e i = method_there (i == 1)
  alike_in (kind.Function is_generator is_async) e i = unused (in_function is_generator is_async s) (function_of a) refl refl refl
  alike_in (kind.ArrowExpr is_async is_generator) e i = stays (in_arrow is_async s) refl refl
  alike_in (kind.Constructor accessibility is_optional) e i = key (i == 0)
  alike_in kind.GetterProp e i = key (i == 0)
  alike_in kind.SetterProp e i = key (i == 0)
  alike_in kind.StaticBlock e i = field
  alike_in kind.ForStmt e i = loop_there (i == 3)
  alike_in kind.ForInStmt e i = loop_there (i == 2)
  alike_in (kind.ForOfStmt is_await) e i = loop_there (i == 2)
  alike_in kind.WhileStmt e i = loop_there (i == 1)
  alike_in kind.DoWhileStmt e i = loop_there (i == 1)
  alike_in kind.SwitchStmt e i = either (i == 1) (in_switch s) s (stays (in_switch s) refl refl) h
  alike_in kind.TsModuleBlock e i = all
  alike_in kind.BindingIdent e i = first (i == 0)
  alike_in kind.LabeledStmt e i = first (i == 0)
  alike_in (kind.ClassDecl declare) e i = first (i == 0)
  alike_in kind.ClassExpr e i = first (i == 0)
  alike_in (kind.TsEnumDecl declare is_const) e i = first (i == 0)
  alike_in (kind.TsModuleDecl declare global) e i = first (i == 0)
  alike_in (kind.TsNamespaceDecl declare global) e i = first (i == 0)
  alike_in (kind.TsImportEqualsDecl is_export is_type_only) e i = first (i == 0)
  alike_in kind.BreakStmt e i = named
  alike_in kind.ContinueStmt e i = named
  alike_in (kind.TsInterfaceDecl declare) e i = first (i == 0)
  alike_in (kind.TsTypeAliasDecl declare) e i = first (i == 0)
  alike_in (kind.ImportNamedSpecifier is_type_only) e i = named
  alike_in kind.ImportDefaultSpecifier e i = named
  alike_in kind.ImportStarAsSpecifier e i = named
  alike_in (kind.ExportNamedSpecifier is_type_only) e i = named
  alike_in kind.ExportNamespaceSpecifier e i = named
  alike_in kind.ExportDefaultSpecifier e i = named
  alike_in kind.TsNamespaceExportDecl e i = named
  alike_in _ e i = h

abbrev pub AllAlike : (ℕ → Strays) → (ℕ → Arguments) → List Shape → Type 0
AllAlike strays_at arguments_at [] = Unit {0}
AllAlike strays_at arguments_at (o ∷ os) = Alike (strays_at 0) (arguments_at 0) × AllAlike (λ i. strays_at (suc i)) (λ i. arguments_at (suc i)) os

each_alike : (strays_at : ℕ → Strays) (arguments_at : ℕ → Arguments) → ((i : ℕ) → Alike (strays_at i) (arguments_at i)) → (os : List Shape) → AllAlike strays_at arguments_at os
each_alike strays_at arguments_at h [] = tt
each_alike strays_at arguments_at h (o ∷ os) = (h 0, each_alike (λ i. strays_at (suc i)) (λ i. arguments_at (suc i)) (λ i. h (suc i)) os)

pub alike_below : (s : Strays) (a : Arguments) → Alike s a → (k : Kind) (o : Shape) (n : ℕ) → AllAlike (strays_in s k) (arguments_in a k) (child_shapes k o n)
unfolding strays_in in_named arguments_in
alike_below s a h (kind.ClassProp modifiers readonly declare definite) o n = (h, (field s a h, (behind_field s a h, tt)))
alike_below s a h (kind.PrivateProp modifiers readonly declare definite) o n = (h, (field s a h, (behind_field s a h, tt)))
alike_below s a h kind.TsEnumMember o n = (named s a h, (all s a h, tt))
alike_below s a h k o n = each_alike (strays_in s k) (arguments_in a k) (λ i. alike_in s a h k refl i) (child_shapes k o n)

-- nodes that tell no stray

abbrev pub Quiet : Held → Node → Type 0
Quiet held n = first_held_stray n held ≡ None

abbrev pub AllQuiet : (ℕ → Held) → List Node → Type 0
AllQuiet held_at [] = Unit {0}
AllQuiet held_at (n ∷ ns) = Quiet (held_at 0) n × AllQuiet (λ i. held_at (suc i)) ns

all_quiet : (held_at : ℕ → Held) (ns : List Node) → least_from Held held_at 0 (map first_held_stray ns) ≡ None → AllQuiet held_at ns
all_quiet held_at [] h = tt
all_quiet held_at (n ∷ ns) h =
    let w = neither_least (first_held_stray n (held_at 0)) (least_from Held held_at 1 (map first_held_stray ns)) h in
    (w.0, all_quiet (λ i. held_at (suc i)) ns (sym (shifted Held held_at 0 (map first_held_stray ns)) ∙ w.1))

none_told : (held_at : ℕ → Held) (ns : List Node) → AllQuiet held_at ns → least_from Held held_at 0 (map first_held_stray ns) ≡ None
none_told held_at [] h = refl
none_told held_at (n ∷ ns) h = ap₂ least h.0 (shifted Held held_at 0 (map first_held_stray ns) ∙ none_told (λ i. held_at (suc i)) ns h.1)

pub held_alike : (f g : ℕ → Held) → ((i : ℕ) → f i ≡ g i) → (ns : List Node) → AllQuiet f ns → AllQuiet g ns
held_alike f g e [] h = tt
held_alike f g e (n ∷ ns) h = (subst (λ z. Quiet z n) (e 0) h.0, held_alike (λ i. f (suc i)) (λ i. g (suc i)) (λ i. e (suc i)) ns h.1)

-- the label of a node with these children
abbrev pub label_in : List Node → Option (List ℕ)
label_in children = text_of (slice_get children 0)

-- what is held in the child at an index
abbrev pub held_by : Held → Kind → Option (List ℕ) → ℕ → Held
held_by held k label i = held_behind (strays_in held.strays k i) (ends_jumps k) (own_label k label) held.labels

-- a node tells nothing exactly where it is no stray and its children tell nothing
module _ (x : Node-F Node) (held : Held) where
  abbrev n : Node
  n = roll-Node x

  equation : first_held_stray n held ≡ least (stray_here held n) (least_from Held (held_in held n) 0 (map first_held_stray x.children))
  equation = ap (λ f. f held) (from_leaves-roll (Held → Option ℕ) (failing_step Held stray_here held_in) x)

  pub quiet_parts : Quiet held n → (is_stray_in held x.kind (label_in x.children) ≡ false) × AllQuiet (held_by held x.kind (label_in x.children)) x.children
  quiet_parts h =
      let w = neither_least (stray_here held n) (least_from Held (held_in held n) 0 (map first_held_stray x.children)) (sym equation ∙ h) in (
        subst (λ (p : Node-F Node). is_stray_in held p.kind (label_in p.children) ≡ false) (out-roll-Node x) (not_failing (is_held_stray held n) n w.0),
        all_quiet (held_by held x.kind (label_in x.children)) x.children (subst (λ (p : Node-F Node). least_from Held (held_by held p.kind (label_in p.children)) 0 (map first_held_stray x.children) ≡ None) (out-roll-Node x) w.1),
      )

  pub quiet_whole : is_stray_in held x.kind (label_in x.children) ≡ false → AllQuiet (held_by held x.kind (label_in x.children)) x.children → Quiet held n
  quiet_whole h g =
      let here : is_held_stray held n ≡ false = subst (λ (p : Node-F Node). is_stray_in held p.kind (label_in p.children) ≡ false) (sym (out-roll-Node x)) h in
      let below : least_from Held (held_in held n) 0 (map first_held_stray x.children) ≡ None =
      subst (λ (p : Node-F Node). least_from Held (held_by held p.kind (label_in p.children)) 0 (map first_held_stray x.children) ≡ None) (sym (out-roll-Node x)) (none_told (held_by held x.kind (label_in x.children)) x.children g) in
      equation ∙ ap₂ least (ap (λ b. failing_here b n) here) below

-- jumps and labelled statements have labels
abbrev pub uses_label : Kind → Bool
uses_label kind.BreakStmt = true
uses_label kind.ContinueStmt = true
uses_label kind.LabeledStmt = true
uses_label _ = false

pub stray_label : (held : Held) (k : Kind) (l m : Option (List ℕ)) → (uses_label k ≡ true → l ≡ m) → is_stray_in held k m ≡ false → is_stray_in held k l ≡ false
unfolding is_stray_in
stray_label held kind.BreakStmt l m e h = subst (λ z. is_stray_in held kind.BreakStmt z ≡ false) (sym (e refl)) h
stray_label held kind.ContinueStmt l m e h = subst (λ z. is_stray_in held kind.ContinueStmt z ≡ false) (sym (e refl)) h
stray_label held _ l m e h = h

pub own_same : (k : Kind) (l m : Option (List ℕ)) → (uses_label k ≡ true → l ≡ m) → own_label k l ≡ own_label k m
own_same kind.LabeledStmt l m e = e refl
own_same _ l m e = refl

label_free : (cs : List Node) → label_in (each_in (λ i. target.Free) (map cover_at cs)) ≡ label_in cs
label_free [] = refl
label_free (c ∷ cs) = ap text_by (free_kind c)

pub label_stays : (t : Target) (k : Kind) (cs : List Node) → uses_label k ≡ true → label_in (each_in (target_in t k) (map cover_at cs)) ≡ label_in cs
unfolding target_in
label_stays t kind.BreakStmt cs h = label_free cs
label_stays t kind.ContinueStmt cs h = label_free cs
label_stays t kind.LabeledStmt cs h = label_free cs
label_stays t _ cs h = not_true h

-- parts of patterns and what covers them hold what is held around them

abbrev pub is_clear : Kind → Bool
is_clear kind.ArrayLit = true
is_clear kind.ObjectLit = true
is_clear kind.SpreadElement = true
is_clear (kind.AssignExpr op) = true
is_clear kind.KeyValueProp = true
is_clear kind.AssignProp = true
is_clear (kind.ArrayPat optional) = true
is_clear (kind.ObjectPat optional) = true
is_clear kind.RestPat = true
is_clear kind.AssignPat = true
is_clear kind.KeyValuePatProp = true
is_clear kind.AssignPatProp = true
is_clear _ = false

clear : (held : Held) (k : Kind) (l : Option (List ℕ)) → is_clear k ≡ true → (is_stray_in held k l ≡ false) × ((i : ℕ) → held_by held k l i ≡ held)
unfolding is_stray_in is_stray strays_in in_named ends_jumps
clear held kind.ArrayLit l h = (refl, λ i. refl)
clear held kind.ObjectLit l h = (refl, λ i. refl)
clear held kind.SpreadElement l h = (refl, λ i. refl)
clear held (kind.AssignExpr op) l h = (refl, λ i. refl)
clear held kind.KeyValueProp l h = (refl, λ i. refl)
clear held kind.AssignProp l h = (refl, λ i. refl)
clear held (kind.ArrayPat optional) l h = (refl, λ i. refl)
clear held (kind.ObjectPat optional) l h = (refl, λ i. refl)
clear held kind.RestPat l h = (refl, λ i. refl)
clear held kind.AssignPat l h = (refl, λ i. refl)
clear held kind.KeyValuePatProp l h = (refl, λ i. refl)
clear held kind.AssignPatProp l h = (refl, λ i. refl)
clear held _ l h = not_true h

pub clear_parts : (x : Node-F Node) (held : Held) → is_clear x.kind ≡ true → Quiet held (roll-Node x) → AllQuiet (λ i. held) x.children
clear_parts x held h q = held_alike (held_by held x.kind (label_in x.children)) (λ i. held) (clear held x.kind (label_in x.children) h).1 x.children (quiet_parts x held q).1

pub clear_whole : (x : Node-F Node) (held : Held) → is_clear x.kind ≡ true → AllQuiet (λ i. held) x.children → Quiet held (roll-Node x)
clear_whole x held h q =
    let c = clear held x.kind (label_in x.children) h in
    quiet_whole x held c.0 (held_alike (λ i. held) (held_by held x.kind (label_in x.children)) (λ i. sym (c.1 i)) x.children q)

-- a name that is bound where something is assigned to

pub assigned_binds : (r : Role) → binds (target_of r) ≡ true → is_assigned r ≡ true
assigned_binds role.Left h = not_true h
assigned_binds role.Head h = refl
assigned_binds role.Assigned h = refl
assigned_binds role.AssignedValue h = refl
assigned_binds role.AssignedElement h = refl
assigned_binds role.AssignedName h = refl
assigned_binds role.AssignedProperty h = not_true h
assigned_binds _ h = not_true h

no_arguments : (r : Role) (a : Arguments) (at of_name of_type : Span) (text : List ℕ) (ctxt : ℕ) (optional : Bool) → is_assigned r ≡ true → is_stray_target r a (binding_node at of_name of_type text ctxt optional) ≡ false
    → (a.stray && bytes_eq text (codes "arguments")) ≡ false
no_arguments r a at of_name of_type text ctxt optional h e =
    let name = name_node of_name text ctxt optional in
    let x : Node-F Node = record { span = at; kind = kind.BindingIdent; children = name ∷ node_of of_type kind.Absent [] ∷ [] } in
    let d : (a.stray && (is_assigned r && is_named (codes "arguments") (kind_of name))) ≡ false =
    subst (λ (p : Node-F Node). (a.stray && (is_assigned r && (is_bound_name p.kind && of_kind (is_named (codes "arguments")) (slice_get p.children 0)))) ≡ false) (out-roll-Node x) e in
    sym (ap₂ (λ b k. a.stray && (b && is_named (codes "arguments") k)) h (kind_made (record { span = of_name; kind = kind.Ident text ctxt optional; children = [] }))) ∙ d

pub name_quiet : (held : Held) (r : Role) (a : Arguments) (at of_name of_type : Span) (text : List ℕ) (ctxt : ℕ) (optional : Bool) → Alike held.strays a → is_assigned r ≡ true
    → is_stray_target r a (binding_node at of_name of_type text ctxt optional) ≡ false → Quiet held (name_node of_name text ctxt optional)
unfolding is_stray_in is_stray
name_quiet held r a at of_name of_type text ctxt optional alike h e =
    quiet_whole (record { span = of_name; kind = kind.Ident text ctxt optional; children = [] }) held
    (go held.strays.arguments refl) tt
  where
    go : (b : Bool) → held.strays.arguments ≡ b → (held.strays.arguments && bytes_eq text (codes "arguments")) ≡ false
    go false f = ap (λ z. z && bytes_eq text (codes "arguments")) f
    go true f = ap (λ z. z && bytes_eq text (codes "arguments")) (f ∙ sym (alike.stray f)) ∙ no_arguments r a at of_name of_type text ctxt optional h e
