-- What belongs to something around it (ECMAScript, 13.2.1, 13.3.7, 13.3.12, 14.8 to 14.10, 15): `this` and `new.target` to a function, a field or
-- a static block, `arguments` to a function, `super` to a method, a field or a static block, `await` to an async function, `yield` to a
-- generator, `return` to a function, `break` to a loop or a `switch`, `continue` to a loop.
use Rattle.std.specs.Prelude.{ℕ, Bool, true, false, not, ◌&&◌, ◌==◌, codes, bytes_eq, cond}
use Rattle.ecma_kind.specs.declared.kind.Kind.{Kind}
use Rattle.ecma_kind.specs.declared.kind.Kind.TheVariants as kind
use Rattle.ecma_kind.specs.declared.operators.MetaPropKind.{MetaPropKind}
use Rattle.ecma_kind.specs.declared.operators.MetaPropKind.TheVariants.{NewTarget}
use Rattle.ecma_rules.specs.declared.strays.Strays.{Strays}

-- outside enum initialisers and namespaces nothing is asked
abbrev pub nothing_held : Strays
nothing_held = record {
  held = false;
  receiver = false;
  arguments = false;
  home = false;
  awaiting = false;
  yielding = false;
  returning = false;
  breaking = false;
  continuing = false;
}

-- directly in one everything is a stray
abbrev pub all_held : Strays
all_held = record {
  held = true;
  receiver = true;
  arguments = true;
  home = true;
  awaiting = true;
  yielding = true;
  returning = true;
  breaking = true;
  continuing = true;
}

-- in an arrow function, which has no `this`, `arguments` and `super` of its own
--   namespace N { async () => { await a; return; }; }
--   namespace N { () => this; }   // refused
abbrev pub in_arrow : Bool → Strays → Strays
in_arrow is_async s = record s {
  awaiting = s.held && not is_async;
  yielding = s.held;
  returning = false;
  breaking = s.held;
  continuing = s.held;
}

-- in any other function; whether it has `super`, the node around it says
--   namespace N { function* f() { this.a; yield arguments; } }
--   namespace N { function f() { for (;;) g(() => { continue; }); } }   // refused
abbrev pub in_function : Bool → Bool → Strays → Strays
in_function is_generator is_async s = record s {
  receiver = false;
  arguments = false;
  awaiting = s.held && not is_async;
  yielding = s.held && not is_generator;
  returning = false;
  breaking = s.held;
  continuing = s.held;
}

abbrev pub with_home : Strays → Strays
with_home s = record s { home = false }

abbrev pub without_home : Strays → Strays
without_home s = record s { home = s.held }

-- in a constructor or an accessor
--   namespace N { class A extends B { constructor() { super(); } get c() { return super.c; } } }
abbrev pub in_member : Strays → Strays
in_member s = with_home (in_function false false s)

-- in the value of a field, or in a static block
--   namespace N { class A { b = this.c; static { this.d; } } }
--   namespace N { class A { b = arguments; } }   // refused
abbrev pub in_field : Strays → Strays
in_field s = record s {
  receiver = false;
  arguments = s.held;
  home = false;
  awaiting = s.held;
  yielding = s.held;
  returning = s.held;
  breaking = s.held;
  continuing = s.held;
}

--   namespace N { for (;;) break; }
abbrev pub in_loop : Strays → Strays
in_loop s = record s { breaking = false; continuing = false }

--   namespace N { switch (a) { default: break; } }
--   namespace N { switch (a) { default: continue; } }   // refused
abbrev pub in_switch : Strays → Strays
in_switch s = record s { breaking = false }

-- where a name stands that is no use of a variable
--   enum E { arguments = 1 }
--   enum E { A = arguments }   // refused
abbrev pub as_name : Strays → Strays
as_name s = record s { arguments = false }

-- this at the child that is meant, and what is around at the others
abbrev pub at_child : ℕ → ℕ → Strays → Strays → Strays
at_child wanted i inside s = cond (i == wanted) inside s

-- in a node that declares its first child, as a name
unfoldable pub in_named : Kind → ℕ → Strays → Strays
in_named kind.BindingIdent i s = at_child 0 i (as_name s) s
in_named kind.LabeledStmt i s = at_child 0 i (as_name s) s
in_named kind.BreakStmt i s = as_name s
in_named kind.ContinueStmt i s = as_name s
in_named (kind.ClassDecl declare) i s = at_child 0 i (as_name s) s
in_named kind.ClassExpr i s = at_child 0 i (as_name s) s
in_named (kind.TsInterfaceDecl declare) i s = at_child 0 i (as_name s) s
in_named (kind.TsTypeAliasDecl declare) i s = at_child 0 i (as_name s) s
in_named (kind.TsEnumDecl declare is_const) i s = at_child 0 i (as_name s) s
in_named (kind.TsModuleDecl declare global) i s = at_child 0 i (as_name s) s
in_named (kind.TsNamespaceDecl declare global) i s = at_child 0 i (as_name s) s
in_named (kind.TsImportEqualsDecl is_export is_type_only) i s = at_child 0 i (as_name s) s
in_named (kind.ImportNamedSpecifier is_type_only) i s = as_name s
in_named kind.ImportDefaultSpecifier i s = as_name s
in_named kind.ImportStarAsSpecifier i s = as_name s
in_named (kind.ExportNamedSpecifier is_type_only) i s = as_name s
in_named kind.ExportNamespaceSpecifier i s = as_name s
in_named kind.ExportDefaultSpecifier i s = as_name s
in_named kind.TsNamespaceExportDecl i s = as_name s
in_named _ i s = s

-- in a function with a name, or in the name
abbrev pub in_named_function : ℕ → Strays → Strays
in_named_function i s = cond (i == 1) (without_home s) (as_name s)

-- in the child at an index of a node of this kind
--   namespace N { class A { b() { this; super.c; } } }
--   namespace N { class A { [this.b]() { } } }   // refused
unfoldable pub strays_in : Strays → Kind → ℕ → Strays
strays_in s (kind.FnDecl declare) i = in_named_function i s
strays_in s kind.FnExpr i = in_named_function i s
strays_in s kind.MethodProp i = at_child 1 i (with_home s) s
strays_in s (kind.ClassMethod k modifiers) i = at_child 1 i (with_home s) s
strays_in s (kind.PrivateMethod k modifiers) i = at_child 1 i (with_home s) s
strays_in s (kind.Function is_generator is_async) i = in_function is_generator is_async s
strays_in s (kind.ArrowExpr is_async is_generator) i = in_arrow is_async s
strays_in s (kind.Constructor accessibility is_optional) i = at_child 0 i s (in_member s)
strays_in s kind.GetterProp i = at_child 0 i s (in_member s)
strays_in s kind.SetterProp i = at_child 0 i s (in_member s)
strays_in s (kind.ClassProp modifiers readonly declare definite) i = at_child 1 i (in_field s) s
strays_in s (kind.PrivateProp modifiers readonly declare definite) i = at_child 1 i (in_field s) s
strays_in s kind.StaticBlock i = in_field s
strays_in s kind.ForStmt i = at_child 3 i (in_loop s) s
strays_in s kind.ForInStmt i = at_child 2 i (in_loop s) s
strays_in s (kind.ForOfStmt is_await) i = at_child 2 i (in_loop s) s
strays_in s kind.WhileStmt i = at_child 1 i (in_loop s) s
strays_in s kind.DoWhileStmt i = at_child 1 i (in_loop s) s
strays_in s kind.SwitchStmt i = at_child 1 i (in_switch s) s
strays_in s kind.TsEnumMember i = at_child 1 i all_held (as_name s)
strays_in s kind.TsModuleBlock i = all_held
strays_in s k i = in_named k i s

abbrev pub is_new_target : MetaPropKind → Bool
is_new_target NewTarget = true
is_new_target _ = false

-- whether a node of this kind, which is no jump, is a stray
--   enum E { A = f(async () => await b) }
--   enum E { A = await b }   // refused
unfoldable pub is_stray : Strays → Kind → Bool
is_stray s kind.ThisExpr = s.receiver
is_stray s (kind.MetaPropExpr k) = s.receiver && is_new_target k
is_stray s (kind.Ident sym ctxt optional) = s.arguments && bytes_eq sym (codes "arguments")
is_stray s kind.Super = s.home
is_stray s kind.AwaitExpr = s.awaiting
is_stray s (kind.ForOfStmt is_await) = s.awaiting && is_await
is_stray s (kind.YieldExpr delegate) = s.yielding
is_stray s kind.ReturnStmt = s.returning
is_stray s _ = false
