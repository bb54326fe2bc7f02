-- A module declares what it did with one item more that declares nothing, and nothing again that it did not.
use Rattle.std.proofs.Common.{◌≡◌, ◌∙◌, ℕ, suc, Bool, true, false, ◌&&◌, ◌||◌, not, cond, refl, sym, ap, ap₂, List, [], ◌∷◌, ◌++◌, filter, map, Option, Some, None}
use Rattle.ecma_kind.specs.declared.kind.Kind.{Kind}
use Rattle.ecma_kind.specs.declared.kind.Kind.TheVariants as kind
use Rattle.ecma_kind.specs.declared.span.Span.{Span}
use Rattle.ecma_tree.specs.Nodes.{absent, dummy_span, list_node, node_of}
use Rattle.ecma_tree.specs.Values.{is_value_where}
use Rattle.ecma_tree.specs.declared.node.Node.{Node, out-Node}
use Rattle.ecma_tree.proofs.Layers.{from_leaves-roll}
use Rattle.ecma_lower.specs.Marking.{empty_export}
use Rattle.ecma_rules.specs.Children.{kind_of}
use Rattle.ecma_scope.specs.declared.form.Declaration.{Declaration}
use Rattle.ecma_scope.specs.declared.form.Part.{Part}
use Rattle.ecma_scope.specs.declared.form.Part.TheVariants as part
use Rattle.ecma_scope.specs.declared.form.Sought.{Sought}
use Rattle.ecma_scope.specs.declared.role.Role.{Role}
use Rattle.ecma_scope.specs.declared.role.Role.TheVariants as role
use Rattle.ecma_scope.specs.Conflicts.{Surrounding, clash_step, clashes_in, clashing, is_further_out, marked, meeting, nothing, own_clashes, passing, redeclared, redeclared_at, surrounds}
use Rattle.ecma_scope.specs.Declarations.{declarations, declared_here, declared_step, found_at, found_in, holds_vars, in_default, in_item, in_scope, is_own, names, own_part, sought_by, sought_in, stated}
use Rattle.ecma_scope.specs.Scopes.{covers, is_ambient, is_there, opens, opens_by, passes_in_list, role_by, role_in}
use Rattle.ecma_marks.proofs.Export.{absent-kind, export-kind, is_still, none-kind, parts}
use Rattle.ecma_marks.proofs.Modules.{kind-of, list_at, module_at, no}

-- ---- what is looked for in a module and in a list

-- a module, or a list
abbrev pub is_holder : Kind → Bool
is_holder (kind.Module shebang) = true
is_holder kind.List = true
is_holder _ = false

-- whether such a node is a value does not matter
sought-blind : (p : Part) (stays v w : Bool) (k : Kind) (i : ℕ) → is_holder k ≡ true → sought_by p stays v k i ≡ sought_by p stays w k i
unfolding in_scope in_item in_default
sought-blind part.Scope stays v w (kind.Module shebang) i h = refl
sought-blind part.Scope stays v w kind.List i h = refl
sought-blind part.Scope stays v w _ i h = no h
sought-blind part.Item stays v w (kind.Module shebang) i h = refl
sought-blind part.Item stays v w kind.List i h = refl
sought-blind part.Item stays v w _ i h = no h
sought-blind part.Default stays v w (kind.Module shebang) i h = refl
sought-blind part.Default stays v w kind.List i h = refl
sought-blind part.Default stays v w _ i h = no h
sought-blind part.Member stays v w k i h = refl
sought-blind part.Var stays v w k i h = refl
sought-blind (part.Name f) stays v w k i h = refl

pub sought-is : (sought : Sought) (n : Node) (k : Kind) (i : ℕ) → kind_of n ≡ k → is_holder k ≡ true → sought_in sought n i ≡ sought_by sought.part sought.stays false k i
unfolding sought_in
sought-is sought n k i e h =
    ap (λ z. sought_by sought.part sought.stays (is_value_where sought.stays n) z i) e
    ∙ sought-blind sought.part sought.stays (is_value_where sought.stays n) false k i h

-- ---- declarations

none-here : (sought : Sought) (k : Kind) → is_still k ≡ true → declared_here sought k ≡ []
unfolding declared_here
none-here sought (kind.Ident sym ctxt optional) h = no h
none-here sought _ h = refl

declares-roll : (span : Span) (k : Kind) (cs : List Node) (s : Sought)
    → declarations (node_of span k cs) s ≡ declared_here s (kind_of (node_of span k cs)) ++ found_in (sought_in s (node_of span k cs)) 0 (map declarations cs)
declares-roll span k cs s = ap (λ f. f s) (from_leaves-roll (Sought → List Declaration) declared_step (record { span = span; kind = k; children = cs }))

-- of a node that is no identifier
still-declares : (span : Span) (k : Kind) (cs : List Node) (s : Sought) → is_still k ≡ true → declarations (node_of span k cs) s ≡ found_in (sought_in s (node_of span k cs)) 0 (map declarations cs)
still-declares span k cs s h =
    declares-roll span k cs s
    ∙ ap (λ (z : List Declaration). z ++ found_in (sought_in s (node_of span k cs)) 0 (map declarations cs)) (ap (declared_here s) (kind-of span k cs) ∙ none-here s k h)

found-none : (o : Option Sought) (child : Sought → List Declaration) → ((s : Sought) → child s ≡ []) → found_at o child ≡ []
found-none None child h = refl
found-none (Some s) child h = h s

found-same : (o : Option Sought) (child other : Sought → List Declaration) → ((s : Sought) → child s ≡ other s) → found_at o child ≡ found_at o other
found-same None child other h = refl
found-same (Some s) child other h = h s

pub export-declares : (s : Sought) → declarations empty_export s ≡ []
export-declares s =
    let list = λ (t : Sought). still-declares dummy_span kind.List [] t refl in
    let missing = λ (t : Sought). still-declares dummy_span kind.Absent [] t refl in
    still-declares dummy_span (kind.NamedExport false) parts s refl
    ∙ (λ j.
    found-none (sought_in s empty_export 0) (declarations (list_node [])) list j
    ++ (found-none (sought_in s empty_export 1) (declarations absent) missing j ++ (found-none (sought_in s empty_export 2) (declarations absent) missing j ++ [])))

found-alike : (around other : ℕ → Option Sought) → ((i : ℕ) → around i ≡ other i) → (i : ℕ) (cs : List (Sought → List Declaration)) → found_in around i cs ≡ found_in other i cs
found-alike around other same i [] = refl
found-alike around other same i (c ∷ cs) = ap₂ (λ (a b : List Declaration). a ++ b) (ap (λ o. found_at o c) (same i)) (found-alike around other same (suc i) cs)

-- what stands around the root
abbrev top : Surrounding
top = record { role = role.Root; around = nothing }

module _ (span : Span) (shebang : Option (List ℕ)) (at : Span) (e : Node) (none : (s : Sought) → declarations e s ≡ []) (ns : List Node) where
  abbrev before : Node
  before = module_at span shebang at ns

  abbrev after : Node
  after = module_at span shebang at (ns ++ e ∷ [])

  found-more : (around : ℕ → Option Sought) (i : ℕ) (ms : List Node) → found_in around i (map declarations (ms ++ e ∷ [])) ≡ found_in around i (map declarations ms)
  found-more around i [] = ap (λ (z : List Declaration). z ++ []) (found-none (around i) (declarations e) none)
  found-more around i (m ∷ ms) = ap (λ (z : List Declaration). found_at (around i) (declarations m) ++ z) (found-more around (suc i) ms)

  list-declares : (s : Sought) → declarations (list_at at (ns ++ e ∷ [])) s ≡ declarations (list_at at ns) s
  list-declares s =
      let inside = λ (ms : List Node) (i : ℕ). sought-is s (list_at at ms) kind.List i (kind-of at kind.List ms) refl in
      still-declares at kind.List (ns ++ e ∷ []) s refl
      ∙ found-alike (sought_in s (list_at at (ns ++ e ∷ []))) (sought_in s (list_at at ns)) (λ i. inside (ns ++ e ∷ []) i ∙ sym (inside ns i)) 0 (map declarations (ns ++ e ∷ []))
      ∙ found-more (sought_in s (list_at at ns)) 0 ns
      ∙ sym (still-declares at kind.List ns s refl)

  is-module : (ms : List Node) → kind_of (module_at span shebang at ms) ≡ kind.Module shebang
  is-module ms = kind-of span (kind.Module shebang) (list_at at ms ∷ [])

  pub declares-more : (s : Sought) → declarations after s ≡ declarations before s
  declares-more s =
      let inside = λ (ms : List Node). sought-is s (module_at span shebang at ms) (kind.Module shebang) 0 (is-module ms) refl in
      still-declares span (kind.Module shebang) (list_at at (ns ++ e ∷ []) ∷ []) s refl
      ∙ ap (λ o. found_at o (declarations (list_at at (ns ++ e ∷ []))) ++ []) (inside (ns ++ e ∷ []) ∙ sym (inside ns))
      ∙ ap (λ (z : List Declaration). z ++ []) (found-same (sought_in s before 0) (declarations (list_at at (ns ++ e ∷ []))) (declarations (list_at at ns)) list-declares)
      ∙ sym (still-declares span (kind.Module shebang) (list_at at ns ∷ []) s refl)

  -- ---- what the module's scope declares, and what conflicts there

  same-kind : kind_of after ≡ kind_of before
  same-kind = is-module (ns ++ e ∷ []) ∙ sym (is-module ns)

  names-more : names role.Root nothing after ≡ names role.Root nothing before
  names-more = λ j.
      filter (is_own role.Root nothing)
      (declares-more (record { part = own_part role.Root; stays = not (is_ambient role.Root) }) j
      ++ cond (holds_vars role.Root (same-kind j)) (declares-more (record { part = part.Var; stays = not (is_ambient role.Root) }) j) [])

  passing-more : passing role.Root after ≡ passing role.Root before
  passing-more = λ j. cond (holds_vars role.Root (same-kind j)) [] (filter (λ d. d.stays) (declares-more (record { part = part.Var; stays = not (is_ambient role.Root) }) j))

  meeting-more : meeting role.Root nothing after ≡ meeting role.Root nothing before
  meeting-more = λ j. marked [] (filter (λ d. d.stays || is_further_out role.Root nothing (passing-more j) d.sym) (names-more j)) ++ passing-more j

  opens-module : (ms : List Node) → opens role.Root (module_at span shebang at ms) ≡ true
  unfolding opens_by
  opens-module ms = ap (λ k. opens_by role.Root k (is_there (out-Node (module_at span shebang at ms)).children 0)) (is-module ms)

  opens-more : opens role.Root after ≡ opens role.Root before
  opens-more = opens-module (ns ++ e ∷ []) ∙ sym (opens-module ns)

  clashes-here : own_clashes top after ≡ own_clashes top before
  clashes-here = λ j. cond (opens-more j) (clashing role.Root nothing [] (meeting-more j)) []

  role-in-module : (ms : List Node) → role_in role.Root (module_at span shebang at ms) 0 ≡ role.Plain
  unfolding role_by
  role-in-module ms = ap (λ k. role_by role.Root k (is_there (out-Node (module_at span shebang at ms)).children 1) 0) (is-module ms)

  surrounds-more : surrounds top after 0 ≡ surrounds top before 0
  surrounds-more = λ j. record {
    role = (role-in-module (ns ++ e ∷ []) ∙ sym (role-in-module ns)) j;
    around = cond (opens-more j && covers role.Root (same-kind j) 0) (stated (names-more j)) nothing;
  }

-- ---- what conflicts further in

clashes-roll : (span : Span) (k : Kind) (cs : List Node) (s : Surrounding)
    → redeclared_at (node_of span k cs) s ≡ own_clashes s (node_of span k cs) ++ clashes_in (surrounds s (node_of span k cs)) 0 (map redeclared_at cs)
clashes-roll span k cs s = ap (λ f. f s) (from_leaves-roll (Surrounding → List (List ℕ)) clash_step (record { span = span; kind = k; children = cs }))

-- a list, what is missing, and an export of names
abbrev pub is_shut : Kind → Bool
is_shut kind.List = true
is_shut kind.Absent = true
is_shut (kind.NamedExport type_only) = true
is_shut _ = false

shut-by : (r : Role) (k : Kind) (there : Bool) → is_shut k ≡ true → opens_by r k there ≡ false
unfolding opens_by
shut-by r kind.List there h = refl
shut-by r kind.Absent there h = refl
shut-by r (kind.NamedExport type_only) there h = refl
shut-by r _ there h = no h

-- they open no scope
pub opens-none : (r : Role) (n : Node) (k : Kind) → kind_of n ≡ k → is_shut k ≡ true → opens r n ≡ false
opens-none r n k e h = ap (λ z. opens_by r z (is_there (out-Node n).children 0)) e ∙ shut-by r k (is_there (out-Node n).children 0) h

none-clash : (s : Surrounding) (n : Node) (k : Kind) → kind_of n ≡ k → is_shut k ≡ true → own_clashes s n ≡ []
none-clash s n k e h = ap (λ (b : Bool). cond b (clashing s.role s.around [] (meeting s.role s.around n)) []) (opens-none s.role n k e h)

pub export-clashes : (s : Surrounding) → redeclared_at empty_export s ≡ []
export-clashes s =
    let list = λ (t : Surrounding). clashes-roll dummy_span kind.List [] t ∙ ap (λ (z : List (List ℕ)). z ++ []) (none-clash t (list_node []) kind.List none-kind refl) in
    let missing = λ (t : Surrounding). clashes-roll dummy_span kind.Absent [] t ∙ ap (λ (z : List (List ℕ)). z ++ []) (none-clash t absent kind.Absent absent-kind refl) in
    clashes-roll dummy_span (kind.NamedExport false) parts s
    ∙ (λ j.
    none-clash s empty_export (kind.NamedExport false) export-kind refl j
    ++ (list (surrounds s empty_export 0) j ++ (missing (surrounds s empty_export 1) j ++ (missing (surrounds s empty_export 2) j ++ []))))

module _ (at : Span) where
  surrounds-list : (s : Surrounding) (ms : List Node) (i : ℕ) → surrounds s (list_at at ms) i ≡ record { role = passes_in_list s.role; around = s.around }
  unfolding role_by
  surrounds-list s ms i =
      let n = list_at at ms in
      let is = kind-of at kind.List ms in
      λ j. record {
        role = role_by s.role (is j) (is_there (out-Node n).children 1) i;
        around = cond (opens-none s.role n kind.List is refl j && covers s.role (is j) i) (stated (names s.role s.around n)) s.around;
      }

  module _ (e : Node) (none : (s : Surrounding) → redeclared_at e s ≡ []) (ns : List Node) where
    clashes-more : (around : ℕ → Surrounding) (i : ℕ) (ms : List Node) → clashes_in around i (map redeclared_at (ms ++ e ∷ [])) ≡ clashes_in around i (map redeclared_at ms)
    clashes-more around i [] = ap (λ (z : List (List ℕ)). z ++ []) (none (around i))
    clashes-more around i (m ∷ ms) = ap (λ (z : List (List ℕ)). redeclared_at m (around i) ++ z) (clashes-more around (suc i) ms)

    clashes-alike : (around other : ℕ → Surrounding) → ((i : ℕ) → around i ≡ other i) → (i : ℕ) (cs : List (Surrounding → List (List ℕ))) → clashes_in around i cs ≡ clashes_in other i cs
    clashes-alike around other same i [] = refl
    clashes-alike around other same i (c ∷ cs) = ap₂ (λ (a b : List (List ℕ)). a ++ b) (ap c (same i)) (clashes-alike around other same (suc i) cs)

    list-at-clashes : (s : Surrounding) (ms : List Node) → redeclared_at (list_at at ms) s ≡ clashes_in (surrounds s (list_at at ms)) 0 (map redeclared_at ms)
    list-at-clashes s ms =
        clashes-roll at kind.List ms s
        ∙ ap (λ (z : List (List ℕ)). z ++ clashes_in (surrounds s (list_at at ms)) 0 (map redeclared_at ms)) (none-clash s (list_at at ms) kind.List (kind-of at kind.List ms) refl)

    pub list-clashes : (s : Surrounding) → redeclared_at (list_at at (ns ++ e ∷ [])) s ≡ redeclared_at (list_at at ns) s
    list-clashes s =
        list-at-clashes s (ns ++ e ∷ [])
        ∙ clashes-alike (surrounds s (list_at at (ns ++ e ∷ []))) (surrounds s (list_at at ns)) (λ i. surrounds-list s (ns ++ e ∷ []) i ∙ sym (surrounds-list s ns i)) 0 (map redeclared_at (ns ++ e ∷ []))
        ∙ clashes-more (surrounds s (list_at at ns)) 0 ns
        ∙ sym (list-at-clashes s ns)

module _ (span : Span) (shebang : Option (List ℕ)) (at : Span) (e : Node) (none : (s : Sought) → declarations e s ≡ []) (clear : (s : Surrounding) → redeclared_at e s ≡ []) (ns : List Node) where
  pub redeclared-more : redeclared (module_at span shebang at (ns ++ e ∷ [])) ≡ redeclared (module_at span shebang at ns)
  redeclared-more =
      clashes-roll span (kind.Module shebang) (list_at at (ns ++ e ∷ []) ∷ []) top
      ∙ ap₂ (λ (a b : List (List ℕ)). a ++ (b ++ [])) (clashes-here span shebang at e none ns)
      (ap (redeclared_at (list_at at (ns ++ e ∷ []))) (surrounds-more span shebang at e none ns) ∙ list-clashes at e clear ns (surrounds top (module_at span shebang at ns) 0))
      ∙ sym (clashes-roll span (kind.Module shebang) (list_at at ns ∷ []) top)
