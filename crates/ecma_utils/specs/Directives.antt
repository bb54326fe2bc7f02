-- Statements that are a text literal: directives (ECMAScript, 11.2.1), and what may stand before the first statement of a list.
use Rattle.std.specs.Prelude.{ℕ, Bool, true, false, ◌||◌, ◌&&◌, List, [], ◌∷◌, ◌++◌, Option, Some, None, bytes_eq, codes, nat_eq, not}
use Rattle.std.specs.List.{position_or_len, starts_with}
use Rattle.std.specs.Option.{option_map_or}
use Rattle.ecma_kind.specs.declared.kind.Kind.{Kind}
use Rattle.ecma_kind.specs.declared.kind.Kind.TheVariants as kind
use Rattle.ecma_tree.specs.declared.node.Node.{Node, out-Node}

abbrev pub kind_of : Node → Kind
kind_of node = (out-Node node).kind

abbrev pub first_of : List Node → Option Node
first_of [] = None
first_of (node ∷ nodes) = Some node

abbrev pub stmt_expr_by : Kind → List Node → Option Node
stmt_expr_by kind.ExprStmt children = first_of children
stmt_expr_by _ children = None

-- the expression of an expression statement
abbrev pub stmt_expr : Node → Option Node
stmt_expr stmt = stmt_expr_by (kind_of stmt) (out-Node stmt).children

abbrev pub is_text : Kind → Bool
is_text (kind.Str value raw) = true
is_text _ = false

abbrev pub kind_passes : (Kind → Bool) → Option Node → Bool
kind_passes test node = option_map_or (λ n. test (kind_of n)) node false

--   "a";
abbrev pub is_text_stmt : Node → Bool
is_text_stmt stmt = kind_passes is_text (stmt_expr stmt)

abbrev pub raw_passes : (List ℕ → Bool) → Kind → Bool
raw_passes test (kind.Str value (Some raw)) = test raw
raw_passes test _ = false

-- a text behind a double quote (34), and one behind a single quote (39)
abbrev pub double_quoted : List ℕ → List ℕ
double_quoted text = 34 ∷ text

abbrev pub single_quoted : List ℕ → List ℕ
single_quoted text = 39 ∷ text

abbrev pub begins_use : List ℕ → Bool
begins_use raw = starts_with nat_eq raw (double_quoted (codes "use ")) || starts_with nat_eq raw (single_quoted (codes "use "))

abbrev pub is_strict : List ℕ → Bool
is_strict raw = bytes_eq raw (double_quoted (codes "use strict" ++ 34 ∷ [])) || bytes_eq raw (single_quoted (codes "use strict" ++ 39 ∷ []))

-- whether its source text begins so
--   "use client";
abbrev pub is_use_stmt : Node → Bool
is_use_stmt stmt = kind_passes (raw_passes begins_use) (stmt_expr stmt)

--   "use strict";
abbrev pub is_strict_stmt : Node → Bool
is_strict_stmt stmt = kind_passes (raw_passes is_strict) (stmt_expr stmt)

-- ---- what stands in front of the first statement

abbrev pub is_super_or_import : Kind → Bool
is_super_or_import kind.Super = true
is_super_or_import kind.Import = true
is_super_or_import _ = false

abbrev pub special_call_by : Kind → List Node → Bool
special_call_by kind.CallExpr children = kind_passes is_super_or_import (first_of children)
special_call_by _ children = false

abbrev pub is_special_call : Node → Bool
is_special_call e = special_call_by (kind_of e) (out-Node e).children

--   super(a);
--   import("m");
abbrev pub is_special_call_stmt : Node → Bool
is_special_call_stmt stmt = option_map_or is_special_call (stmt_expr stmt) false

-- a text, and where calls are passed over too also a call of `super` or `import`
abbrev pub stands_in_front : Bool → Node → Bool
stands_in_front calls stmt = is_text_stmt stmt || (calls && is_special_call_stmt stmt)

-- ---- lists of items, which are statements or not

-- how many items stand in front
abbrev pub front_length : {T : Type 0} → (T → Bool) → List T → ℕ
front_length in_front items = position_or_len (λ item. not (in_front item)) items
