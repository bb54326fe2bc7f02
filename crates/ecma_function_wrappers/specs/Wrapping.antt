-- Wrappers of functions, and what is made of them.
use Rattle.std.specs.Prelude.{ℕ, Bool, true, false, ◌&&◌, ◌||◌, not, List, [], ◌∷◌, Option, Some, None}
use Rattle.std.specs.Option.{is_some, option_or}
use Rattle.ecma_kind.specs.declared.ident.Ident.{Ident}
use Rattle.ecma_tree.specs.Idents.{ident_of}
use Rattle.ecma_tree.specs.declared.node.Node.{Node}
use Rattle.ecma_utils.specs.Functions.{function_expr_of}
use Rattle.ecma_function_parts.specs.Drawing.{context_if, count}
use Rattle.ecma_function_wrappers.specs.declared.wrapper.FunctionWrapper.{FunctionWrapper}
use Rattle.ecma_function_wrappers.specs.Counting.{counted}
use Rattle.ecma_function_wrappers.specs.Parts.{child_of, params_of}
use Rattle.ecma_function_wrappers.specs.Writing.{anonymous, forward_decl, forward_expr, ref_function, ref_ident, with_own_name}

-- ---- what is wrapped

-- the function is an expression without a name
abbrev pub wrapper_of : Option Ident → Node → ℕ → FunctionWrapper
wrapper_of name function left = record {
  binding_ident = None;
  function = function_expr_of None function;
  ignore_function_name = false;
  ignore_function_length = false;
  function_ident = name;
  params = counted (params_of function) left;
}

--   function n() {}   as an expression or a declaration
abbrev pub wrapper_of_named : Node → ℕ → FunctionWrapper
wrapper_of_named n left = wrapper_of (ident_of (child_of n 0)) (child_of n 1) left

-- ---- as one expression

abbrev pub has_params : List Node → Bool
has_params [] = false
has_params (p ∷ ps) = true

-- for the name that it gets
abbrev pub is_wrapped_for_name : FunctionWrapper → Bool
is_wrapped_for_name w = not w.ignore_function_name && is_some w.binding_ident

abbrev pub is_wrapped_for_length : FunctionWrapper → Bool
is_wrapped_for_length w = not w.ignore_function_length && has_params w.params

-- whether a function without a name of its own is wrapped
abbrev pub is_wrapped : FunctionWrapper → Bool
is_wrapped w = is_wrapped_for_name w || is_wrapped_for_length w

abbrev pub nameless : Node → List Node → Option Ident → Bool → ℕ → Node
nameless function params binding true ctxt = anonymous function params binding ctxt
nameless function params binding false ctxt = function

-- of the three the first that holds counts: it has a name of its own, it is wrapped, it stands for itself
abbrev pub wrapped_as : Node → List Node → Option Ident → Option Ident → Bool → ℕ → Node
wrapped_as function params (Some name) binding b ctxt = with_own_name function params name ctxt
wrapped_as function params None binding b ctxt = nameless function params binding b ctxt

abbrev pub needs_ref : FunctionWrapper → Bool
needs_ref w = is_some w.function_ident || is_wrapped w

-- the expression that stands for the function
abbrev pub wrapped : FunctionWrapper → ℕ → Node
wrapped w left = wrapped_as w.function w.params w.function_ident w.binding_ident (is_wrapped w) (context_if (needs_ref w) left)

abbrev pub wrapped_draws : FunctionWrapper → ℕ
wrapped_draws w = count (needs_ref w)

-- ---- as two functions

abbrev pub ref_of : FunctionWrapper → ℕ → Ident
ref_of w ctxt = ref_ident w.function_ident ctxt

-- the function, when it is first called
--   function _n() { _n = F; return _n.apply(this, arguments); }
abbrev pub ref_fn_of : FunctionWrapper → ℕ → Node
ref_fn_of w ctxt = ref_function (ref_of w ctxt) w.function

-- where the function has no name, the one that it gets stands for it
--   (function n(ps) { return _n.apply(this, arguments); })
abbrev pub name_fn_of_expr : FunctionWrapper → ℕ → Node
name_fn_of_expr w ctxt = forward_expr w.params (ref_of w ctxt) (option_or w.function_ident w.binding_ident)

--   function n(ps) { return _n.apply(this, arguments); }
abbrev pub name_fn_of_decl : FunctionWrapper → ℕ → Node
name_fn_of_decl w ctxt = forward_decl w.params (ref_of w ctxt) w.function_ident
