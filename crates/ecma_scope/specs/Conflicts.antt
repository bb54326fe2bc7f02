-- Declarations that may not stand beside each other.
use Rattle.std.specs.Prelude.{ℕ, suc, Bool, true, false, ◌&&◌, ◌||◌, not, List, [], ◌∷◌, ◌++◌, filter, Option, None, bytes_eq, cond}
use Rattle.std.specs.List.{list_any}
use Rattle.ecma_tree.specs.declared.node.Node.{Node, out-Node}
use Rattle.ecma_scope.specs.declared.role.Role.{Role}
use Rattle.ecma_scope.specs.declared.role.Role.TheVariants as role
use Rattle.ecma_scope.specs.declared.form.Form.{Form}
use Rattle.ecma_scope.specs.declared.form.Form.TheVariants as form
use Rattle.ecma_scope.specs.declared.form.Part.TheVariants as part
use Rattle.ecma_scope.specs.declared.form.Declaration.{Declaration}
use Rattle.ecma_scope.specs.declared.index.Index.{Index}
use Rattle.ecma_scope.specs.Indexed.{states_of}
use Rattle.ecma_scope.specs.Scopes.{covers, is_ambient, is_root, opens, role_in}
use Rattle.ecma_scope.specs.Declarations.{declarations, declares, holds_vars, is_body, is_stated, names, stated}
use Rattle.ecma_tree.specs.Layers.{from_leaves}

-- whether a declaration is lexical, in a scope that is opened in this role: a function is in all but the body of a function, and the variable of an enum
-- or of a namespace is in all but a module
--   function f() { function g() { } function g() { } }
--   { function f() { } function f() { } }   // refused
abbrev pub is_lexical : Role → Form → Bool
is_lexical r form.Import = true
is_lexical r form.Lexical = true
is_lexical r form.Class = true
is_lexical r form.Function = not (is_body r)
is_lexical r form.Enum = not (is_root r)
is_lexical r form.Namespace = not (is_root r)
is_lexical r _ = false

abbrev pub is_catch : Form → Bool
is_catch form.Catch = true
is_catch _ = false

abbrev pub is_var : Form → Bool
is_var form.Var = true
is_var _ = false

abbrev pub is_parameter : Form → Bool
is_parameter form.Parameter = true
is_parameter _ = false

-- a lexical declaration beside any other, two parameters, or the name of a `catch` beside a `var`
--   var a; var a; function f(b) { var b; }
--   let a; var a;   // refused
--   function f(a, a) { }   // refused
abbrev pub may_not_meet : Role → Form → Form → Bool
may_not_meet r a b =
    (is_lexical r a || is_lexical r b) || ((is_parameter a && is_parameter b) || ((is_catch a && is_var b) || (is_var a && is_catch b)))

abbrev pub conflict : Role → Declaration → Declaration → Bool
conflict r a b = bytes_eq a.sym b.sym && may_not_meet r a.form b.form

abbrev pub may_merge : Form → Bool
may_merge form.Enum = true
may_merge form.Namespace = true
may_merge _ = false

abbrev pub may_be_merged : Form → Bool
may_be_merged form.Class = true
may_be_merged form.Function = true
may_be_merged form.Enum = true
may_be_merged form.Namespace = true
may_be_merged form.Merged = true
may_be_merged _ = false

-- an enum or a namespace merges with a class, function, enum or namespace of its text before it
--   function f() { } namespace f { let a; }
--   enum E { A } function E() { }   // refused
abbrev pub merges : List Declaration → Declaration → Bool
merges earlier d = may_merge d.form && list_any (λ e. bytes_eq e.sym d.sym && may_be_merged e.form) earlier

abbrev pub mark : List Declaration → Declaration → Declaration
mark earlier d = cond (merges earlier d) (record d { form = form.Merged }) d

-- declarations with those marked that merge, after earlier ones
abbrev pub marked : List Declaration → List Declaration → List Declaration
marked earlier [] = []
marked earlier (d ∷ ds) = mark earlier d ∷ marked (earlier ++ mark earlier d ∷ []) ds

-- the `var` names that pass through the scope of a node to one around it, as values that stay
--   { var a; } var a;
--   { let a; { var a; } }   // refused
abbrev pub passing : Role → Node → List Declaration
passing r node = cond (holds_vars r (out-Node node).kind) [] (filter (λ d. d.stays) (declarations node (record { part = part.Var; stays = not (is_ambient r) })))

-- whether parameters are declared in the scope around: the body of a function, and the block of a `catch` (ECMAScript, 15.2.1, 14.15.1)
abbrev pub has_parameters : Role → Bool
has_parameters role.Body = true
has_parameters role.CatchBody = true
has_parameters _ = false

-- a declaration conflicts with one before it, or, where it is lexical in the body of a function or the block of a `catch`, with a parameter
--   function f(a) { { let a; } }
--   function f(a) { let a; }   // refused
--   try { } catch (a) { { let a; } }
--   try { } catch (a) { let a; }   // refused
abbrev pub clashes : Role → (List ℕ → Option Bool) → List Declaration → Declaration → Bool
clashes r around earlier d = list_any (λ e. conflict r e d) earlier || (has_parameters r && (is_lexical r d.form && is_stated (around d.sym)))

-- the texts of the declarations that do, in their order
abbrev pub clashing : Role → (List ℕ → Option Bool) → List Declaration → List Declaration → List (List ℕ)
clashing r around earlier [] = []
clashing r around earlier (d ∷ ds) = cond (clashes r around earlier d) (d.sym ∷ []) [] ++ clashing r around (earlier ++ d ∷ []) ds

-- whether a name of this text belongs to a scope further out: a `var` that passes through, or, in the body of a function or the block of a `catch`, a parameter
--   { function f(): void; var f; }   // refused
abbrev pub is_further_out : Role → (List ℕ → Option Bool) → List Declaration → List ℕ → Bool
is_further_out r around passed sym = declares passed sym || (has_parameters r && is_stated (around sym))

-- the declarations that meet in the scope of a node: its own that stay, or go and have the text of a name further out, and the `var` names that pass through
abbrev pub meeting : Role → (List ℕ → Option Bool) → Node → List Declaration
meeting r around node = marked [] (filter (λ d. d.stays || is_further_out r around (passing r node) d.sym) (names r around node)) ++ passing r node

-- what stands around a node: what it is to its parent, and what the innermost scope states of a text
pub record Surrounding : Type 0 where
  pub role : Role
  pub around : List ℕ → Option Bool

abbrev pub surrounds : Surrounding → Node → ℕ → Surrounding
surrounds s node i =
    record {
      role = role_in s.role node i;
      around = cond (opens s.role node && covers s.role (out-Node node).kind i) (stated (names s.role s.around node)) s.around;
    }

abbrev pub clashes_in : (ℕ → Surrounding) → ℕ → List (Surrounding → List (List ℕ)) → List (List ℕ)
clashes_in surroundings i [] = []
clashes_in surroundings i (child ∷ children) = child (surroundings i) ++ clashes_in surroundings (suc i) children

abbrev pub own_clashes : Surrounding → Node → List (List ℕ)
own_clashes s node = cond (opens s.role node) (clashing s.role s.around [] (meeting s.role s.around node)) []

abbrev pub clash_step : Node → List (Surrounding → List (List ℕ)) → Surrounding → List (List ℕ)
clash_step node children s = own_clashes s node ++ clashes_in (surrounds s node) 0 children

abbrev pub redeclared_at : Node → Surrounding → List (List ℕ)
redeclared_at = from_leaves (Surrounding → List (List ℕ)) clash_step

-- the texts that are declared again where they may not be: by scopes in the order of the text, and in each by its declarations; specs/Clashes says which
-- is told
abbrev pub nothing : List ℕ → Option Bool
nothing sym = None

--   let a; { let a; }
--   let a; let a;   // refused
abbrev pub redeclared : Node → List (List ℕ)
redeclared tree = redeclared_at tree (record { role = role.Root; around = nothing })

-- what stands around the children of a node whose scope, if it covers them, declares its own names
abbrev pub chosen : Bool → Index → Index → Index
chosen covered own around = cond covered own around

abbrev pub surrounding : Role → Index → Surrounding
surrounding r around = record { role = r; around = states_of around }

abbrev pub child_surrounding : Role → Index → Index → Node → ℕ → Surrounding
child_surrounding r own around node i = surrounding (role_in r node i) (chosen (covers r (out-Node node).kind i) own around)
