-- A module with its assignments lowered declares what it declared, and nothing again that it did not.
use Rattle.std.proofs.Common.{◌≡◌, ◌∙◌, ℕ, suc, Bool, true, false, ◌&&◌, ◌||◌, cond, refl, sym, ap, ap₂, subst, List, [], ◌∷◌, ◌++◌, append-nil, filter, map, Option, Some, None}
use Rattle.std.specs.List.{All}
use Rattle.std.proofs.lemmas.List.Elements.{All-head, All-nil}
use Rattle.ecma_kind.specs.declared.kind.Kind.{Kind}
use Rattle.ecma_kind.specs.declared.kind.Kind.TheVariants as kind
use Rattle.ecma_kind.specs.declared.span.Span.{Span}
use Rattle.ecma_config.specs.declared.config.TsImportExportAssignConfig.{TsImportExportAssignConfig}
use Rattle.ecma_tree.specs.Nodes.{absent, dummy_span, node_of}
use Rattle.ecma_tree.specs.Values.{is_value_where}
use Rattle.ecma_tree.specs.declared.node.Node.{Node, out-Node}
use Rattle.ecma_tree.proofs.Layers.{from_leaves-roll}
use Rattle.ecma_rules.specs.Children.{kind_of}
use Rattle.ecma_scope.specs.declared.form.Declaration.{Declaration}
use Rattle.ecma_scope.specs.declared.form.Form.TheVariants as form
use Rattle.ecma_scope.specs.declared.form.Part.{Part}
use Rattle.ecma_scope.specs.declared.form.Part.TheVariants as part
use Rattle.ecma_scope.specs.declared.form.Sought.{Sought}
use Rattle.ecma_scope.specs.declared.role.Role.{Role}
use Rattle.ecma_scope.specs.declared.role.Role.TheVariants as role
use Rattle.ecma_scope.specs.Conflicts.{Surrounding, clash_step, clashes_in, clashing, is_further_out, marked, meeting, nothing, own_clashes, passing, redeclared, redeclared_at, surrounds}
use Rattle.ecma_scope.specs.Declarations.{declarations, declared_here, declared_step, found_at, found_in, holds_vars, in_item, in_name, in_scope, in_var, is_own, names, seek, sought_by, sought_in, stated}
use Rattle.ecma_scope.specs.Scopes.{covers, is_there, opens, opens_by, role_by, role_in}
use Rattle.ecma_lower.specs.Moving.{exports_last}
use Rattle.ecma_lower_scopes.specs.Laws.{LoweredTreesAreNotRedeclared}
use Rattle.ecma_lower_scopes.proofs.Still.{inner-plain, is_leaf, is_still, kind-of, list_at, none-declared, opens-leaf, opens-none, role-is, sought-is}
use Rattle.ecma_lower_scopes.proofs.Lists.{all-moved, all_given, given-alike}
use Rattle.ecma_lower_scopes.proofs.Lowering.{given-lowered, given-same, lowered_items, where-it-is-lowered}
use Rattle.ecma_lower_scopes.proofs.Walks.{Seats, Walk, given_from}
use Rattle.ecma_lower_strip.proofs.Lists.{AreItems}
use Rattle.ecma_lower_strip.proofs.Modules.{as_module}

-- ---- declarations

-- what is declared where this is looked for, if anything is
abbrev pub declared_at : Node → Option Sought → List Declaration
declared_at n o = found_at o (declarations n)

abbrev pub sought_below : Kind → Option Sought → ℕ → Option Sought
sought_below k None i = None
sought_below k (Some s) i = sought_by s.part s.stays false k i

pub declares-roll : (span : Span) (k : Kind) (cs : List Node) (s : Sought)
    → declarations (node_of span k cs) s ≡ declared_here s (kind_of (node_of span k cs)) ++ found_in (sought_in s (node_of span k cs)) 0 (map declarations cs)
declares-roll span k cs s = ap (λ f. f s) (from_leaves-roll (Sought → List Declaration) declared_step (record { span = span; kind = k; children = cs }))

found-given : (into other : ℕ → Option Sought) → ((i : ℕ) → into i ≡ other i) → (i : ℕ) (cs : List Node) → found_in into i (map declarations cs) ≡ given_from declared_at other i cs
found-given into other same i [] = refl
found-given into other same i (c ∷ cs) = ap₂ (λ (x y : List Declaration). x ++ y) (ap (λ o. found_at o (declarations c)) (same i)) (found-given into other same (suc i) cs)

none-given : (i : ℕ) (cs : List Node) → [] ≡ given_from declared_at (λ i. None) i cs
none-given i [] = refl
none-given i (c ∷ cs) = none-given (suc i) cs

pub declared-out : (span : Span) (k : Kind) (cs : List Node) (o : Option Sought) → is_still k ≡ true → declared_at (node_of span k cs) o ≡ given_from declared_at (sought_below k o) 0 cs
declared-out span k cs None h = none-given 0 cs
declared-out span k cs (Some s) h =
    let n = node_of span k cs in
    declares-roll span k cs s
    ∙ ap₂ (λ (x y : List Declaration). x ++ y) (ap (declared_here s) (kind-of span k cs) ∙ none-declared s k h)
    (found-given (sought_in s n) (sought_below k (Some s)) (λ i. sought-is s n k i (kind-of span k cs) h) 0 cs)

pub missing-declares : (o : Option Sought) → declared_at absent o ≡ []
unfolding declared_here
missing-declares None = refl
missing-declares (Some s) = declares-roll dummy_span kind.Absent [] s ∙ ap (λ (z : List Declaration). z ++ []) (ap (declared_here s) (kind-of dummy_span kind.Absent []))

abbrev pub declaring : Walk (Option Sought) Declaration
declaring = record { gives = declared_at; into = sought_below; out = declared-out; missing = missing-declares }

-- items, as of a module, and `var` names among them
item-seats : (free : ℕ) → Seats declaring free (seek part.Item true) (seek (part.Name form.Lexical) true) None
unfolding in_item in_name
item-seats free = record {
  import_name = λ e. refl;
  import_value = λ e. refl;
  constant_name = refl;
  constant_value = refl;
  exported = refl;
  statement = refl;
  assignment = refl;
  inner = λ k i h. refl;
  free_name = λ text. refl;
}

var-seats : (free : ℕ) → Seats declaring free (seek part.Var true) None None
unfolding in_var in_name
var-seats free = record {
  import_name = λ e. refl;
  import_value = λ e. refl;
  constant_name = refl;
  constant_value = refl;
  exported = refl;
  statement = refl;
  assignment = refl;
  inner = λ k i h. refl;
  free_name = λ text. refl;
}

items-below : (i : ℕ) → sought_below kind.List (seek part.Item true) i ≡ seek part.Item true
unfolding in_item
items-below i = refl

vars-below : (i : ℕ) → sought_below kind.List (seek part.Var true) i ≡ seek part.Var true
unfolding in_var
vars-below i = refl

-- what is looked for in the list of a module: its items, and the `var` names among them
pub scope-inside : (shebang : Option (List ℕ)) (n : Node) → kind_of n ≡ kind.Module shebang → sought_in (record { part = part.Scope; stays = true }) n 0 ≡ seek part.Item true
unfolding sought_in in_scope
scope-inside shebang n e = ap (λ k. sought_by part.Scope true (is_value_where true n) k 0) e

pub var-inside : (shebang : Option (List ℕ)) (n : Node) → kind_of n ≡ kind.Module shebang → sought_in (record { part = part.Var; stays = true }) n 0 ≡ seek part.Var true
unfolding sought_in in_var
var-inside shebang n e = ap (λ k. sought_by part.Var true (is_value_where true n) k 0) e

no-module-name : (s : Sought) (shebang : Option (List ℕ)) → declared_here s (kind.Module shebang) ≡ []
unfolding declared_here
no-module-name s shebang = refl

module _ (span : Span) (shebang : Option (List ℕ)) (at : Span) where
  abbrev whole : List Node → Node
  whole ns = as_module span shebang at ns

  pub whole-kind : (ns : List Node) → kind_of (whole ns) ≡ kind.Module shebang
  whole-kind ns = kind-of span (kind.Module shebang) (list_at at ns ∷ [])

  list-declares : (p : Part) → ((i : ℕ) → sought_below kind.List (seek p true) i ≡ seek p true) → (ns : List Node)
      → declarations (list_at at ns) (record { part = p; stays = true }) ≡ all_given declaring (seek p true) ns
  list-declares p below ns = declared-out at kind.List ns (seek p true) refl ∙ given-alike declaring (seek p true) (sought_below kind.List (seek p true)) below 0 ns

  module-declares : (q p : Part) → ((n : Node) → kind_of n ≡ kind.Module shebang → sought_in (record { part = q; stays = true }) n 0 ≡ seek p true) → ((i : ℕ) → sought_below kind.List (seek p true) i ≡ seek p true) → (ns : List Node)
      → declarations (whole ns) (record { part = q; stays = true }) ≡ all_given declaring (seek p true) ns
  module-declares q p is below ns =
      let s : Sought = record { part = q; stays = true } in
      let here = ap (declared_here s) (whole-kind ns) ∙ no-module-name s shebang in
      let inside = is (whole ns) (whole-kind ns) in
      declares-roll span (kind.Module shebang) (list_at at ns ∷ []) s
      ∙ (λ j. here j ++ (found_at (inside j) (declarations (list_at at ns)) ++ []))
      ∙ append-nil (declarations (list_at at ns) (record { part = p; stays = true }))
      ∙ list-declares p below ns

-- ---- what is declared again

abbrev pub told_below : Kind → Surrounding → ℕ → Surrounding
told_below k s i = record { role = role_by s.role k false i; around = s.around }

surrounds-still : (s : Surrounding) (n : Node) (k : Kind) (i : ℕ) → kind_of n ≡ k → is_still k ≡ true → surrounds s n i ≡ told_below k s i
surrounds-still s n k i e h = λ j. record {
  role = role-is s.role n k i e h j;
  around = cond (opens-none s.role n k e h j && covers s.role (out-Node n).kind i) (stated (names s.role s.around n)) s.around;
}

closed-clear : (s : Surrounding) (n : Node) → opens s.role n ≡ false → own_clashes s n ≡ []
closed-clear s n h = ap (λ (b : Bool). cond b (clashing s.role s.around [] (meeting s.role s.around n)) []) h

clashes-roll : (span : Span) (k : Kind) (cs : List Node) (s : Surrounding)
    → redeclared_at (node_of span k cs) s ≡ own_clashes s (node_of span k cs) ++ clashes_in (surrounds s (node_of span k cs)) 0 (map redeclared_at cs)
clashes-roll span k cs s = ap (λ f. f s) (from_leaves-roll (Surrounding → List (List ℕ)) clash_step (record { span = span; kind = k; children = cs }))

clashes-given : (into other : ℕ → Surrounding) → ((i : ℕ) → into i ≡ other i) → (i : ℕ) (cs : List Node) → clashes_in into i (map redeclared_at cs) ≡ given_from redeclared_at other i cs
clashes-given into other same i [] = refl
clashes-given into other same i (c ∷ cs) = ap₂ (λ (x y : List (List ℕ)). x ++ y) (ap (redeclared_at c) (same i)) (clashes-given into other same (suc i) cs)

pub told-out : (span : Span) (k : Kind) (cs : List Node) (s : Surrounding) → is_still k ≡ true → redeclared_at (node_of span k cs) s ≡ given_from redeclared_at (told_below k s) 0 cs
told-out span k cs s h =
    let n = node_of span k cs in
    clashes-roll span k cs s
    ∙ ap₂ (λ (x y : List (List ℕ)). x ++ y) (closed-clear s n (opens-none s.role n k (kind-of span k cs) h))
    (clashes-given (surrounds s n) (told_below k s) (λ i. surrounds-still s n k i (kind-of span k cs) h) 0 cs)

pub leaf-clear : (span : Span) (k : Kind) (s : Surrounding) → is_leaf k ≡ true → redeclared_at (node_of span k []) s ≡ []
leaf-clear span k s h =
    clashes-roll span k [] s ∙ ap (λ (z : List (List ℕ)). z ++ []) (closed-clear s (node_of span k []) (opens-leaf s.role (node_of span k []) k (kind-of span k []) h))

abbrev pub telling : Walk Surrounding (List ℕ)
telling = record { gives = redeclared_at; into = told_below; out = told-out; missing = λ s. leaf-clear dummy_span kind.Absent s refl }

abbrev pub plain : (List ℕ → Option Bool) → Surrounding
plain around = record { role = role.Plain; around = around }

tell-seats : (free : ℕ) (around : List ℕ → Option Bool) → Seats telling free (plain around) (plain around) (plain around)
unfolding role_by
tell-seats free around = record {
  import_name = λ e. refl;
  import_value = λ e. refl;
  constant_name = refl;
  constant_value = refl;
  exported = refl;
  statement = refl;
  assignment = refl;
  inner = λ k i h. ap (λ (r : Role). record { role = r; around = around }) (inner-plain k i h);
  free_name = λ text. leaf-clear dummy_span (kind.Ident text free false) (plain around) refl;
}

plain-list : (around : List ℕ → Option Bool) (i : ℕ) → told_below kind.List (plain around) i ≡ plain around
unfolding role_by
plain-list around i = refl

list-tells : (at : Span) (around : List ℕ → Option Bool) (ns : List Node) → redeclared_at (list_at at ns) (plain around) ≡ all_given telling (plain around) ns
list-tells at around ns = told-out at kind.List ns (plain around) refl ∙ given-alike telling (plain around) (told_below kind.List (plain around)) (plain-list around) 0 ns

-- ---- no text at all

none-first : (xs ys : List (List ℕ)) → xs ++ ys ≡ [] → xs ≡ []
none-first [] ys e = refl
none-first (x ∷ xs) ys e = cc

none-second : (xs ys : List (List ℕ)) → xs ++ ys ≡ [] → ys ≡ []
none-second [] ys e = e
none-second (x ∷ xs) ys e = cc

abbrev Never : List ℕ → Type 0
Never text = ⊥

all-never : (xs : List (List ℕ)) → xs ≡ [] → All Never xs
all-never xs e = subst (All Never) (sym e) (All-nil Never)

never-any : (xs : List (List ℕ)) → All Never xs → xs ≡ []
never-any [] h = refl
never-any (x ∷ xs) h = absurd (All-head Never x xs h)

-- ---- the scope of a module, with other items that declare the same

-- what stands around the root
abbrev top : Surrounding
top = record { role = role.Root; around = nothing }

module _ (span : Span) (shebang : Option (List ℕ)) (at : Span) (ns ms : List Node) where
  abbrev before : Node
  before = as_module span shebang at ns

  abbrev after : Node
  after = as_module span shebang at ms

  module-opens : (zs : List Node) → opens role.Root (as_module span shebang at zs) ≡ true
  unfolding opens_by
  module-opens zs = ap (λ k. opens_by role.Root k (is_there (out-Node (as_module span shebang at zs)).children 0)) (whole-kind span shebang at zs)

  module-plain : (zs : List Node) → role_in role.Root (as_module span shebang at zs) 0 ≡ role.Plain
  unfolding role_by
  module-plain zs = ap (λ k. role_by role.Root k (is_there (out-Node (as_module span shebang at zs)).children 1) 0) (whole-kind span shebang at zs)

  abbrev around_items : List Node → (List ℕ → Option Bool)
  around_items zs = (surrounds top (as_module span shebang at zs) 0).around

  module-tells : (zs : List Node) → redeclared (as_module span shebang at zs) ≡ own_clashes top (as_module span shebang at zs) ++ all_given telling (plain (around_items zs)) zs
  module-tells zs =
      let whole = as_module span shebang at zs in
      let inside : surrounds top whole 0 ≡ plain (around_items zs) = λ j. record { role = module-plain zs j; around = around_items zs } in
      clashes-roll span (kind.Module shebang) (list_at at zs ∷ []) top
      ∙ ap (λ (z : List (List ℕ)). own_clashes top whole ++ z)
      (append-nil (redeclared_at (list_at at zs) (surrounds top whole 0)) ∙ ap (redeclared_at (list_at at zs)) inside ∙ list-tells at (around_items zs) zs)

  module _ (items : all_given declaring (seek part.Item true) ms ≡ all_given declaring (seek part.Item true) ns) (vars : all_given declaring (seek part.Var true) ms ≡ all_given declaring (seek part.Var true) ns) where
    same-kind : kind_of after ≡ kind_of before
    same-kind = whole-kind span shebang at ms ∙ sym (whole-kind span shebang at ns)

    scope-same : declarations after (record { part = part.Scope; stays = true }) ≡ declarations before (record { part = part.Scope; stays = true })
    scope-same =
        let by = module-declares span shebang at part.Scope part.Item (scope-inside shebang) items-below in
        by ms ∙ items ∙ sym (by ns)

    vars-same : declarations after (record { part = part.Var; stays = true }) ≡ declarations before (record { part = part.Var; stays = true })
    vars-same =
        let by = module-declares span shebang at part.Var part.Var (var-inside shebang) vars-below in
        by ms ∙ vars ∙ sym (by ns)

    names-same : names role.Root nothing after ≡ names role.Root nothing before
    names-same = λ j. filter (is_own role.Root nothing) (scope-same j ++ cond (holds_vars role.Root (same-kind j)) (vars-same j) [])

    passing-same : passing role.Root after ≡ passing role.Root before
    passing-same = λ j. cond (holds_vars role.Root (same-kind j)) [] (filter (λ d. d.stays) (vars-same j))

    meeting-same : meeting role.Root nothing after ≡ meeting role.Root nothing before
    meeting-same = λ j. marked [] (filter (λ d. d.stays || is_further_out role.Root nothing (passing-same j) d.sym) (names-same j)) ++ passing-same j

    opens-same : opens role.Root after ≡ opens role.Root before
    opens-same = module-opens ms ∙ sym (module-opens ns)

    clashes-same : own_clashes top after ≡ own_clashes top before
    clashes-same = λ j. cond (opens-same j) (clashing role.Root nothing [] (meeting-same j)) []

    around-same : around_items ms ≡ around_items ns
    around-same = λ j. cond (opens-same j && covers role.Root (same-kind j) 0) (stated (names-same j)) nothing

    -- nothing is declared again, where nothing is declared again in the other items
    pub other-items-clear : ((around : List ℕ → Option Bool) → all_given telling (plain around) ns ≡ [] → all_given telling (plain around) ms ≡ []) → redeclared before ≡ [] → redeclared after ≡ []
    other-items-clear goes clear =
        let told = sym (module-tells ns) ∙ clear in
        let own = own_clashes top before in
        let inner = all_given telling (plain (around_items ns)) ns in
        module-tells ms
        ∙ ap₂ (λ (x y : List (List ℕ)). x ++ y) (clashes-same ∙ none-first own inner told)
        (ap (λ around. all_given telling (plain around) ms) around-same ∙ goes (around_items ns) (none-second own inner told))

-- ---- with assignments lowered

module _ (assign : TsImportExportAssignConfig) (free : ℕ) (ns : List Node) (items : AreItems ns) where
  lowered-clear : (around : List ℕ → Option Bool) → all_given telling (plain around) ns ≡ [] → all_given telling (plain around) (lowered_items assign free ns) ≡ []
  lowered-clear around clear =
      given-lowered telling assign free (plain around) (tell-seats free around) ns items
      ∙ never-any (all_given telling (plain around) (exports_last ns))
      (all-moved telling (plain around) Never ns (all-never (all_given telling (plain around) ns) clear))

  lowered-items-declare : all_given declaring (seek part.Item true) (lowered_items assign free ns) ≡ all_given declaring (seek part.Item true) ns
  lowered-items-declare = given-same declaring assign free (seek part.Item true) (item-seats free) (λ e. refl) ns items

  lowered-vars-declare : all_given declaring (seek part.Var true) (lowered_items assign free ns) ≡ all_given declaring (seek part.Var true) ns
  lowered-vars-declare = given-same declaring assign free (seek part.Var true) (var-seats free) (λ e. refl) ns items

pub lowered_trees_are_not_redeclared : LoweredTreesAreNotRedeclared
lowered_trees_are_not_redeclared assign free tree fits taken kept clear =
    where-it-is-lowered (λ t. redeclared t ≡ []) assign free tree fits.sorted
    (λ span shebang at ns items. other-items-clear span shebang at ns (lowered_items assign free ns)
    (lowered-items-declare assign free ns items) (lowered-vars-declare assign free ns items) (lowered-clear assign free ns items))
    clear
