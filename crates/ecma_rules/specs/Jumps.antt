-- Jumps to labels (ECMAScript, 14.8, 14.9, 14.13), and what an enum initialiser or a namespace body may not hold.
use Rattle.std.specs.Prelude.{ℕ, Bool, true, false, not, ◌&&◌, cond, List, [], ◌∷◌, Option, Some, None, slice_get, bytes_eq}
use Rattle.std.specs.List.{list_any}
use Rattle.ecma_kind.specs.declared.kind.Kind.{Kind}
use Rattle.ecma_kind.specs.declared.kind.Kind.TheVariants as kind
use Rattle.ecma_tree.specs.declared.node.Node.{Node, out-Node}
use Rattle.ecma_rules.specs.declared.strays.Strays.{Strays}
use Rattle.ecma_rules.specs.Children.{kind_of}
use Rattle.ecma_rules.specs.Failing.{failing_here, first_failing}
use Rattle.ecma_rules.specs.Strays.{is_stray, nothing_held, strays_in}

-- what is a stray, and the labels that a jump may name, the innermost first
pub record Held : Type 0 where
  pub strays : Strays
  pub labels : List (List ℕ)

abbrev pub text_by : Kind → Option (List ℕ)
text_by (kind.Ident sym ctxt optional) = Some sym
text_by _ = None

abbrev pub text_of : Option Node → Option (List ℕ)
text_of None = None
text_of (Some node) = text_by (kind_of node)

-- the label of a statement or of a jump
abbrev pub label_of : Node → Option (List ℕ)
label_of node = text_of (slice_get (out-Node node).children 0)

-- a jump without a label is one to the innermost loop or `switch`
--   namespace N { a: for (;;) { break; continue a; } }
--   namespace N { break; }   // refused
abbrev pub is_stray_jump : Bool → Held → Option (List ℕ) → Bool
is_stray_jump unlabeled held None = unlabeled
is_stray_jump unlabeled held (Some label) = held.strays.held && not (list_any (λ l. bytes_eq l label) held.labels)

unfoldable pub is_stray_in : Held → Kind → Option (List ℕ) → Bool
is_stray_in held kind.BreakStmt label = is_stray_jump held.strays.breaking held label
is_stray_in held kind.ContinueStmt label = is_stray_jump held.strays.continuing held label
is_stray_in held k label = is_stray held.strays k

-- a node that belongs to nothing inside the enum initialiser or namespace body around it
--   enum E { A = f(function () { return this; }) }
--   enum E { A = this.b }   // refused
abbrev pub is_held_stray : Held → Node → Bool
is_held_stray held node = is_stray_in held (kind_of node) (label_of node)

-- no jump leaves a node of this kind
--   namespace N { a: for (;;) { break a; } }
--   namespace N { a: for (;;) { () => { break a; }; } }   // refused
unfoldable pub ends_jumps : Kind → Bool
ends_jumps (kind.Function is_generator is_async) = true
ends_jumps (kind.ArrowExpr is_async is_generator) = true
ends_jumps (kind.Constructor accessibility is_optional) = true
ends_jumps kind.GetterProp = true
ends_jumps kind.SetterProp = true
ends_jumps (kind.ClassProp modifiers readonly declare definite) = true
ends_jumps (kind.PrivateProp modifiers readonly declare definite) = true
ends_jumps kind.StaticBlock = true
ends_jumps kind.TsEnumMember = true
ends_jumps kind.TsModuleBlock = true
ends_jumps _ = false

abbrev pub with_label : Option (List ℕ) → List (List ℕ) → List (List ℕ)
with_label None labels = labels
with_label (Some label) labels = label ∷ labels

-- the label that a statement gives what stands in it
abbrev pub own_label : Kind → Option (List ℕ) → Option (List ℕ)
own_label kind.LabeledStmt label = label
own_label _ label = None

abbrev pub labels_behind : Bool → Option (List ℕ) → List (List ℕ) → List (List ℕ)
labels_behind ends label labels = cond ends [] (with_label label labels)

abbrev pub held_behind : Strays → Bool → Option (List ℕ) → List (List ℕ) → Held
held_behind strays ends label labels = record { strays = strays; labels = labels_behind ends label labels }

abbrev pub held_in : Held → Node → ℕ → Held
held_in held node i = held_behind (strays_in held.strays (kind_of node) i) (ends_jumps (kind_of node)) (own_label (kind_of node) (label_of node)) held.labels

abbrev pub stray_here : Held → Node → Option ℕ
stray_here held node = failing_here (is_held_stray held node) node

abbrev pub first_held_stray : Node → Held → Option ℕ
first_held_stray = first_failing Held stray_here held_in

-- at the root
abbrev pub not_held : Held
not_held = record { strays = nothing_held; labels = [] }

-- the least place of a stray
--   namespace N { function f() { return arguments; } }
--   namespace N { return a; }   // refused
abbrev pub first_stray : Node → Option ℕ
first_stray tree = first_held_stray tree not_held
