-- Texts for a variable that is to hold the value of an expression.
use Rattle.std.specs.Prelude.{ℕ, Bool, true, false, ◌==◌, List, [], ◌∷◌, ◌++◌, Option, Some, None, codes, get_or, if◌then◌else◌, length, unwrap_or}
use Rattle.ecma_lex.specs.Keys.{name_end}
use Rattle.ecma_lex.specs.Symbols.{offered}
use Rattle.ecma_kind.specs.declared.ident.Ident.{Ident}
use Rattle.ecma_kind.specs.declared.kind.Kind.{Kind}
use Rattle.ecma_kind.specs.declared.kind.Kind.TheVariants as kind
use Rattle.ecma_tree.specs.declared.node.Node.{Node, Node-F, fold-Node, out-Node}
use Rattle.ecma_utils.specs.Quotes.{quoted_ident}

-- ---- alias texts

-- the text of an object, `_` (95) and the text of a key, where no text counts as an empty one; a key without any, as a private name, gives none
abbrev pub joined : Option (List ℕ) → Option (List ℕ) → Option (List ℕ)
joined object (Some key) = Some (unwrap_or object [] ++ 95 ∷ key)
joined object None = None

-- the alias text of a node of this kind, where its children have these
--   f, this, "a"         // f, this, a
--   f(a), f?.(a)         // f
--   a.b, a?.b, a["b"]    // a_b
--   super.b              // super_b
--   (function f() {})    // f
unfoldable pub alias_by : Kind → List (Option (List ℕ)) → Option (List ℕ)
alias_by (kind.Ident sym ctxt optional) children = Some sym
alias_by (kind.IdentName sym) children = Some sym
alias_by (kind.Str value raw) children = Some value
alias_by kind.ThisExpr children = Some (codes "this")
alias_by kind.FnExpr children = get_or children 0 None
alias_by kind.ClassExpr children = get_or children 0 None
alias_by kind.CallExpr children = get_or children 0 None
alias_by kind.OptCall children = get_or children 0 None
alias_by (kind.OptChainExpr optional) children = get_or children 0 None
alias_by kind.ComputedPropName children = Some (unwrap_or (get_or children 0 None) [])
alias_by kind.MemberExpr children = joined (get_or children 0 None) (get_or children 1 None)
alias_by kind.SuperPropExpr children = joined (Some (codes "super")) (get_or children 1 None)
alias_by _ children = None

abbrev pub alias_step : Node-F (Option (List ℕ)) → Option (List ℕ)
alias_step parts = alias_by parts.kind parts.children

abbrev pub alias_text : Node → Option (List ℕ)
alias_text = fold-Node (Option (List ℕ)) alias_step

abbrev pub is_aliased_target : Kind → Bool
is_aliased_target (kind.Ident sym ctxt optional) = true
is_aliased_target kind.MemberExpr = true
is_aliased_target kind.SuperPropExpr = true
is_aliased_target _ = false

-- that of a target that is no pattern: a name, a member or a member of `super` has one
abbrev pub target_alias_text : Node → Option (List ℕ)
target_alias_text target = if is_aliased_target (out-Node target).kind then alias_text target else None

-- ---- the name of the variable

abbrev pub is_at : Option ℕ → ℕ → Bool
is_at (Some place) n = place == n
is_at None n = false

-- a text that is a name, or the name that is offered in its place
abbrev pub corrected : List ℕ → List ℕ
corrected text = if is_at (name_end text 0) (length text) then text else offered text

-- with `_` (95) in front
abbrev pub underscored : List ℕ → List ℕ
underscored [] = 95 ∷ []
underscored (c ∷ cs) = if c == 95 then c ∷ cs else 95 ∷ c ∷ cs

-- the alias text or else the default, made a name
abbrev pub alias_symbol : Option (List ℕ) → List ℕ → List ℕ
alias_symbol alias default = underscored (corrected (unwrap_or alias default))

-- the identifier, where the expression stands and in a fresh context
abbrev pub alias_ident : ℕ → Node → Option (List ℕ) → List ℕ → Ident
alias_ident ctxt node alias default = quoted_ident ctxt (out-Node node).span (alias_symbol alias default)
