-- What stays in a list.
use Rattle.std.specs.Prelude.{Bool, true, false, ◌&&◌, not, cond, Option, Some, None, slice_get, bytes_eq, codes}
use Rattle.ecma_kind.specs.Sorts.{belongs}
use Rattle.ecma_kind.specs.declared.kind.Kind.{Kind}
use Rattle.ecma_kind.specs.declared.kind.Kind.TheVariants as kind
use Rattle.ecma_kind.specs.declared.shapes.Sort.TheVariants as sort
use Rattle.ecma_tree.specs.declared.node.Node.{Node, out-Node}
use Rattle.ecma_tree.specs.Values.{is_value, value_at}

-- of a child that may be missing: what a test says of it
abbrev pub if_there : Option Node → (Node → Bool) → Bool
if_there None test = false
if_there (Some n) test = test n

abbrev pub is_empty_stmt : Kind → Bool
is_empty_stmt kind.EmptyStmt = true
is_empty_stmt _ = false

-- a declaration after `declare`
--   declare let a: T;
unfoldable pub is_declared : Kind → Bool
is_declared (kind.FnDecl declare) = declare
is_declared (kind.ClassDecl declare) = declare
is_declared (kind.VarDecl k declare) = declare
is_declared (kind.TsEnumDecl declare is_const) = declare
is_declared (kind.TsModuleDecl declare global) = declare
is_declared _ = false

abbrev pub is_export : Kind → Bool
is_export kind.ExportDecl = true
is_export _ = false

-- a declaration after `declare`, or its export
--   export declare function f(): T;
abbrev pub is_ambient : Node → Bool
is_ambient n =
    cond (is_export (out-Node n).kind) (if_there (slice_get (out-Node n).children 0) (λ x. is_declared (out-Node x).kind)) (is_declared (out-Node n).kind)

-- an item of a module or a block: a value that is not ambient. Empty statements go where it is known that the list is one of statements
--   let a = 1; enum E { } namespace N { let b; }   // stay
--   type T = U; function f(): V; declare let c: W; import type { X } from "m";   // go
abbrev pub item_stays : Node → Bool
item_stays n =
    cond (is_empty_stmt (out-Node n).kind) true (cond (belongs sort.ModuleItem (out-Node n).kind) (is_value n && not (is_ambient n)) true)

-- a member of a class: no index signature, nothing without its body, nothing abstract, no field after `declare`
--   abstract class A { constructor(b) { } c = 1; }   // stay
--   abstract class A { constructor(b); abstract c(): T; declare d; [e: string]: U; }   // go
unfoldable pub member_stays_by : Kind → Node → Bool
member_stays_by (kind.TsIndexSignature readonly is_static) n = false
member_stays_by (kind.Constructor accessibility is_optional) n = value_at 2 n
member_stays_by (kind.ClassMethod k modifiers) n = not modifiers.is_abstract && value_at 1 n
member_stays_by (kind.PrivateMethod k modifiers) n = not modifiers.is_abstract && value_at 1 n
member_stays_by (kind.ClassProp modifiers readonly declare definite) n = not modifiers.is_abstract && not declare
member_stays_by (kind.PrivateProp modifiers readonly declare definite) n = not modifiers.is_abstract && not declare
member_stays_by _ n = true

abbrev pub member_stays : Node → Bool
member_stays n = member_stays_by (out-Node n).kind n

abbrev pub is_this_ident : Kind → Bool
is_this_ident (kind.Ident sym ctxt optional) = bytes_eq sym (codes "this")
is_this_ident _ = false

abbrev pub is_this_by : Kind → Node → Bool
is_this_by kind.BindingIdent n = if_there (slice_get (out-Node n).children 0) (λ x. is_this_ident (out-Node x).kind)
is_this_by _ n = false

-- the name `this`, with its type
abbrev pub is_this : Node → Bool
is_this n = is_this_by (out-Node n).kind n

abbrev pub is_this_param_by : Kind → Node → Bool
is_this_param_by kind.Param n = if_there (slice_get (out-Node n).children 0) is_this
is_this_param_by _ n = is_this n

-- the parameter `this`, of a function or of an arrow function
--   function f(this: T, a) { }   // becomes function f(a) { }
abbrev pub is_this_param : Node → Bool
is_this_param n = is_this_param_by (out-Node n).kind n

-- a specifier of an import or an export: not what is written `type`; and no type stays, as after `implements`
--   import { type T, a } from "m";   // becomes import { a } from "m";
--   class A implements B { }   // becomes class A { }
unfoldable pub specifier_stays : Kind → Bool
specifier_stays (kind.ImportNamedSpecifier is_type_only) = not is_type_only
specifier_stays (kind.ExportNamedSpecifier is_type_only) = not is_type_only
specifier_stays kind.TsType = false
specifier_stays _ = true

--   let a: T; interface A { } f();   // becomes let a; f();
unfoldable pub stays : Node → Bool
stays n = item_stays n && member_stays n && specifier_stays (out-Node n).kind && not (is_this_param n)
