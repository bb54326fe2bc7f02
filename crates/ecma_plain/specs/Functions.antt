-- Functions as plain modules have them: with a body, and without a parameter `this`, which is there for its type alone (TypeScript handbook, "Declaring
-- this in a function").
use Rattle.std.specs.Prelude.{ℕ, zero, suc, Bool, false, not, ◌||◌, List, [], ◌∷◌, Option, Some, None, bytes_eq, codes}
use Rattle.ecma_kind.specs.declared.kind.Kind.{Kind}
use Rattle.ecma_kind.specs.declared.kind.Kind.TheVariants as kind
use Rattle.ecma_tree.specs.Sorted.{is_absent}
use Rattle.ecma_tree.specs.declared.node.Node.{Node, Node-F, fold-Node}

-- nothing stands there; a name `this`; in a tree, a function without a body or with a parameter that no plain one has
pub record Functions : Type 0 where
  pub is_missing : Bool
  pub is_this : Bool
  pub has_unusual : Bool

abbrev pub is_this_name : Kind → Bool
is_this_name (kind.Ident sym ctxt optional) = bytes_eq sym (codes "this")
is_this_name _ = false

-- which child of a node is its body, of those that may lack one
abbrev pub body_of : Kind → Option ℕ
body_of (kind.Function is_generator is_async) = Some 1
body_of (kind.Constructor accessibility is_optional) = Some 2
body_of kind.GetterProp = Some 2
body_of kind.SetterProp = Some 3
body_of _ = None

abbrev pub is_missing_at : List Functions → ℕ → Bool
is_missing_at [] i = false
is_missing_at (child ∷ children) zero = child.is_missing
is_missing_at (child ∷ children) (suc i) = is_missing_at children i

abbrev pub lacks_body : List Functions → Option ℕ → Bool
lacks_body children None = false
lacks_body children (Some i) = is_missing_at children i

-- a parameter `this`: a bound name `this`, or what an object's setter has before its parameter
abbrev pub takes_this : Kind → List Functions → Bool
takes_this kind.BindingIdent (name ∷ children) = name.is_this
takes_this kind.SetterProp (key ∷ this_param ∷ parameter ∷ body ∷ []) = not this_param.is_missing
takes_this _ children = false

abbrev pub any_unusual : List Functions → Bool
any_unusual [] = false
any_unusual (child ∷ children) = child.has_unusual || any_unusual children

abbrev pub unusual_here : Kind → List Functions → Bool
unusual_here k children = lacks_body children (body_of k) || takes_this k children

abbrev pub functions_step : Node-F Functions → Functions
functions_step parts = record {
  is_missing = is_absent parts.kind;
  is_this = is_this_name parts.kind;
  has_unusual = any_unusual parts.children || unusual_here parts.kind parts.children;
}

abbrev pub functions : Node → Functions
functions = fold-Node Functions functions_step
