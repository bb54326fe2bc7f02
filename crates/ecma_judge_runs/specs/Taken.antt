-- The expressions of which the laws speak.
use Rattle.std.specs.Prelude.{ℕ, Bool, true, false, not, ◌&&◌, ◌||◌, ◌==◌, List, ◌∷◌}
use Rattle.std.specs.List.{list_all}
use Rattle.ecma_kind.specs.declared.kind.Kind.{Kind}
use Rattle.ecma_kind.specs.declared.kind.Kind.TheVariants as kind
use Rattle.ecma_tree.specs.Layers.{from_leaves}
use Rattle.ecma_tree.specs.declared.node.Node.{Node, out-Node}
use Rattle.ecma_judge.specs.declared.ctx.ExprCtx.{ExprCtx}
use Rattle.ecma_judge.specs.Effects.{is_accessor_kind}
use Rattle.ecma_judge.specs.Parts.{passes_at}
use Rattle.ecma_runs.specs.State.{Id}
use Rattle.ecma_runs.specs.Environment.{is_among}
use Rattle.ecma_judge_runs.specs.Called.{is_loose, Assumed}
use Rattle.ecma_judge_runs.specs.Idle.{is_harmless}

-- what is asked of a node
pub record Taken : Type 0 where
  -- the laws speak of it
  pub whole : Bool
  -- and of a member that is read of it, and of a call of it
  pub read : Bool
  pub called : Bool
  -- each name in it has a context of its own
  pub named : Bool
  -- it is missing, as the heritage of a class may be
  pub missing : Bool
  -- what it defines on an object is no accessor, nor what it defines on a class
  pub in_object : Bool
  pub in_class : Bool

abbrev pub all_whole : List Taken → Bool
all_whole children = list_all (λ (t : Taken). t.whole) children

abbrev pub all_named : List Taken → Bool
all_named children = list_all (λ (t : Taken). t.named) children

-- ---- accessors

-- in an object literal, or in a class
abbrev pub in_place : Bool → Taken → Bool
in_place true t = t.in_class
in_place false t = t.in_object

-- what a node defines on the object, or on the class, is no accessor: a member of a class that is not static is defined on the prototype. Of a list, and of what wraps a node, it is what stands there;
-- and a class that has no heritage has no accessor itself if its members define none on it. It is asked beside the table since the table looks for accessors only where trees with the sort of an
-- expression have them.
abbrev pub in_place_by : Bool → Kind → List Taken → Bool
in_place_by is_class kind.List children = list_all (λ (t : Taken). in_place is_class t) children
in_place_by is_class kind.GetterProp children = is_class
in_place_by is_class kind.SetterProp children = is_class
in_place_by is_class (kind.ClassMethod sort modifiers) children = not (is_accessor_kind sort) || (is_class && not modifiers.is_static)
in_place_by is_class (kind.Class is_abstract) (super ∷ body ∷ rest) = super.missing && in_place is_class body
in_place_by is_class kind.ParenExpr (e ∷ rest) = in_place is_class e
in_place_by is_class kind.TsTypeAssertion (e ∷ rest) = in_place is_class e
in_place_by is_class kind.TsConstAssertion (e ∷ rest) = in_place is_class e
in_place_by is_class kind.TsNonNullExpr (e ∷ rest) = in_place is_class e
in_place_by is_class kind.TsAsExpr (e ∷ rest) = in_place is_class e
in_place_by is_class kind.TsInstantiation (e ∷ rest) = in_place is_class e
in_place_by is_class kind.TsSatisfiesExpr (e ∷ rest) = in_place is_class e
in_place_by is_class k children = true

abbrev pub missing_by : Kind → Bool
missing_by kind.Absent = true
missing_by k = false

-- a name that the module declares, or that has the context of what is not resolved
abbrev pub is_told : ExprCtx → List Id → List ℕ → ℕ → Bool
is_told ctx declared sym ctxt = is_among (record { sym = sym; ctxt = ctxt }) declared || ctxt == ctx.unresolved_ctxt

-- `declared` are the ids that the module declares
module _ (ctx : ExprCtx) (declared : List Id) (sure : Assumed) where
  -- by what its children are; what functions do when they are called is not asked, nor what types are, nor what is open
  abbrev pub is_taken_by : Kind → List Taken → Bool
  is_taken_by (kind.Ident sym ctxt optional) children = is_told ctx declared sym ctxt
  is_taken_by kind.MemberExpr (object ∷ key ∷ rest) = object.read && key.whole
  is_taken_by kind.CallExpr (callee ∷ arguments ∷ rest) = callee.called && arguments.whole
  is_taken_by kind.OptCall (callee ∷ arguments ∷ rest) = callee.called && arguments.whole
  is_taken_by kind.FnExpr children = true
  is_taken_by (kind.ArrowExpr is_async is_generator) children = true
  is_taken_by kind.ClassExpr (name ∷ class ∷ rest) = name.whole && (class.whole && (not sure.globals || name.named))
  is_taken_by (kind.Function is_generator is_async) children = true
  is_taken_by (kind.Constructor accessibility is_optional) children = true
  is_taken_by (kind.PrivateMethod sort modifiers) children = true
  is_taken_by (kind.PrivateProp modifiers readonly declare definite) children = true
  is_taken_by kind.StaticBlock children = true
  is_taken_by kind.GetterProp (key ∷ rest) = key.whole
  is_taken_by kind.SetterProp (key ∷ rest) = key.whole
  is_taken_by (kind.Class is_abstract) (super ∷ body ∷ rest) = super.whole && body.whole
  is_taken_by (kind.ClassProp modifiers readonly declare definite) (key ∷ value ∷ rest) = key.whole && value.whole
  is_taken_by kind.TsTypeAssertion (e ∷ rest) = e.whole
  is_taken_by kind.TsAsExpr (e ∷ rest) = e.whole
  is_taken_by kind.TsInstantiation (e ∷ rest) = e.whole
  is_taken_by kind.TsSatisfiesExpr (e ∷ rest) = e.whole
  is_taken_by k children = all_whole children

  -- as an object of which a member is read: `Math` is the global one, and what is made there has no accessor itself
  abbrev pub read_by : Kind → List Taken → Bool
  read_by (kind.Ident sym ctxt optional) children = sure.globals
  read_by (kind.Str value raw) children = true
  read_by kind.ObjectLit (properties ∷ rest) = properties.whole && properties.in_object
  read_by kind.ClassExpr (name ∷ class ∷ rest) = name.whole && (class.whole && ((not sure.globals || name.named) && class.in_class))
  read_by k children = is_taken_by k children

  -- as a callee: `Date` is the global one, and so is `Math`; of a function expression, calls are known to be those of the program
  abbrev pub called_by : Kind → Node → List Taken → Bool
  called_by (kind.Ident sym ctxt optional) n children = sure.globals
  called_by kind.MemberExpr n (object ∷ key ∷ rest) = object.read
  called_by kind.FnExpr n children = sure.calls && passes_at is_harmless 1 n
  called_by k n children = true

  abbrev pub named_by : Kind → List Taken → Bool
  named_by (kind.Ident sym ctxt optional) children = not (is_loose ctx ctxt)
  named_by k children = all_named children

  abbrev pub taken_by : Kind → Node → List Taken → Taken
  taken_by k n children = record {
    whole = is_taken_by k children;
    read = read_by k children;
    called = called_by k n children;
    named = named_by k children;
    missing = missing_by k;
    in_object = in_place_by false k children;
    in_class = in_place_by true k children;
  }

  abbrev pub taken : Node → Taken
  taken = from_leaves Taken (λ n children. taken_by (out-Node n).kind n children)

  -- its names are told; of members and calls in it, outside of functions, what they name is global, and what is made and read there has no accessor itself
  abbrev pub is_taken : Node → Bool
  is_taken n = (taken n).whole
