-- Where a walk over a module with one item more comes: where it did, with the same around, and to the nodes of the item.
use Rattle.std.proofs.Common.{◌≡◌, ◌∙◌, ℕ, suc, ◌-◌, Bool, true, false, ◌&&◌, cond, refl, sym, ap, ap₂, subst, List, [], ◌∷◌, ◌++◌, append-nil, append_assoc, filter, map, Option, arith}
use Rattle.std.specs.List.{All, list_any}
use Rattle.std.proofs.lemmas.List.Elements.{All-append, All-cons, All-head, All-nil, All-tail}
use Rattle.ecma_kind.specs.declared.kind.Kind.{Kind}
use Rattle.ecma_kind.specs.declared.kind.Kind.TheVariants as kind
use Rattle.ecma_kind.specs.declared.span.Span.{Span}
use Rattle.ecma_tree.specs.Nodes.{absent, dummy_span, list_node, node_of}
use Rattle.ecma_tree.specs.Sorted.{is_absent}
use Rattle.ecma_tree.specs.declared.node.Node.{Node, out-Node}
use Rattle.ecma_tree.proofs.Layers.{from_leaves-roll}
use Rattle.ecma_lower.specs.Marking.{empty_export}
use Rattle.ecma_rules.specs.Children.{kind_of}
use Rattle.ecma_scope.specs.declared.form.Sought.{Sought}
use Rattle.ecma_scope.specs.declared.role.Role.TheVariants as role
use Rattle.ecma_scope.specs.Declarations.{sought_by}
use Rattle.ecma_scope.specs.Resolved.{context_count, taken}
use Rattle.ecma_scope.specs.Scopes.{covers, is_there, opens, opens_by, passes_in_list, role_by, role_in}
use Rattle.ecma_hygiene.specs.Ids.{Id, contexts_of, declared_by, declared_here, declared_ids, declares, found, is_body_block, is_own, nothing, own_ids, scope_soughts, soughts_in}
use Rattle.ecma_hygiene.specs.Sights.{Around, around_child, inner_soughts, nowhere, own_scope}
use Rattle.ecma_hygiene.specs.Walks.{gather_step, gathered_from}
use Rattle.ecma_hygiene_scopes.specs.Stops.{Stop, stop_step, stops, stops_at, stops_from}
use Rattle.ecma_marks.proofs.Conflicts.{is_holder, is_shut, opens-none, sought-is}
use Rattle.ecma_marks.proofs.Export.{export-kind, is_still, parts}
use Rattle.ecma_marks.proofs.Modules.{children-of, kind-of, list_at, module_at, no}

-- ---- what is looked for

abbrev soughts_by : Kind → ℕ → List Sought → List Sought
soughts_by k i [] = []
soughts_by k i (s ∷ soughts) = found (sought_by s.part s.stays false k i) ++ soughts_by k i soughts

soughts-are : (soughts : List Sought) (n : Node) (k : Kind) (i : ℕ) → kind_of n ≡ k → is_holder k ≡ true → soughts_in soughts n i ≡ soughts_by k i soughts
soughts-are [] n k i e h = refl
soughts-are (s ∷ soughts) n k i e h = ap₂ (λ (a b : List Sought). a ++ b) (ap found (sought-is s n k i e h)) (soughts-are soughts n k i e h)

-- ---- ids

none-by : (b : Bool) (k : Kind) → is_still k ≡ true → declared_by b k ≡ []
none-by false k h = refl
none-by true (kind.Ident sym ctxt optional) h = no h
none-by true _ h = refl

ids-roll : (span : Span) (k : Kind) (cs : List Node) (soughts : List Sought) → is_still k ≡ true
    → declared_ids (node_of span k cs) soughts ≡ gathered_from (List Sought) Id (soughts_in soughts (node_of span k cs)) 0 (map declared_ids cs)
ids-roll span k cs soughts h =
    let n = node_of span k cs in
    ap (λ f. f soughts) (from_leaves-roll (List Sought → List Id) (gather_step (List Sought) Id declared_here soughts_in) (record { span = span; kind = k; children = cs }))
    ∙ ap (λ (z : List Id). z ++ gathered_from (List Sought) Id (soughts_in soughts n) 0 (map declared_ids cs))
    (ap (declared_by (list_any declares soughts)) (kind-of span k cs) ∙ none-by (list_any declares soughts) k h)

pub export-ids : (soughts : List Sought) → declared_ids empty_export soughts ≡ []
export-ids soughts =
    let list = λ (s : List Sought). ids-roll dummy_span kind.List [] s refl in
    let missing = λ (s : List Sought). ids-roll dummy_span kind.Absent [] s refl in
    ids-roll dummy_span (kind.NamedExport false) parts soughts refl
    ∙ (λ j. list (soughts_in soughts empty_export 0) j ++ (missing (soughts_in soughts empty_export 1) j ++ (missing (soughts_in soughts empty_export 2) j ++ [])))

gathered-alike : (around other : ℕ → List Sought) → ((i : ℕ) → around i ≡ other i) → (i : ℕ) (cs : List (List Sought → List Id))
    → gathered_from (List Sought) Id around i cs ≡ gathered_from (List Sought) Id other i cs
gathered-alike around other same i [] = refl
gathered-alike around other same i (c ∷ cs) = ap₂ (λ (a b : List Id). a ++ b) (ap c (same i)) (gathered-alike around other same (suc i) cs)

-- ---- stops

stops-roll : (span : Span) (k : Kind) (cs : List Node) (a : Around) (left : ℕ)
    → stops_at (node_of span k cs) a left
    ≡ record { node = node_of span k cs; around = a; left = left } ∷ stops_from (around_child a (node_of span k cs)) 0 cs (map stops_at cs) (left - taken a.role (node_of span k cs))
stops-roll span k cs a left =
    let n = node_of span k cs in
    ap (λ f. f a left) (from_leaves-roll (Around → ℕ → List Stop) stop_step (record { span = span; kind = k; children = cs }))
    ∙ ap (λ (z : List Node). record { node = n; around = a; left = left } ∷ stops_from (around_child a n) 0 z (map stops_at cs) (left - taken a.role n)) (children-of span k cs)

none-left : (n : ℕ) → 0 - n ≡ 0
none-left n = omega arith

-- a stop at a list, at what is missing, or at an export of names
pub record IsShutStop (stop : Stop) : Type 0 where
  pub its_kind : Kind
  pub is : kind_of stop.node ≡ its_kind
  pub shut : is_shut its_kind ≡ true
  pub empty : is_absent its_kind ≡ true → (out-Node stop.node).children ≡ []

shut-stop : (n : Node) (k : Kind) (a : Around) (left : ℕ) → kind_of n ≡ k → is_shut k ≡ true → (is_absent k ≡ true → (out-Node n).children ≡ []) → IsShutStop (record { node = n; around = a; left = left })
shut-stop n k a left is shut empty = record { its_kind = k; is = is; shut = shut; empty = empty }

leaf-shut : (span : Span) (k : Kind) (a : Around) (left : ℕ) → is_shut k ≡ true → All IsShutStop (stops_at (node_of span k []) a left)
leaf-shut span k a left shut =
    subst (All IsShutStop) (sym (stops-roll span k [] a left))
    (All-cons IsShutStop (record { node = node_of span k []; around = a; left = left }) [] (shut-stop (node_of span k []) k a left (kind-of span k []) shut (λ h. children-of span k [])) (All-nil IsShutStop))

pub export-shut : (a : Around) (left : ℕ) → All IsShutStop (stops_at empty_export a left)
export-shut a left =
    let inside = around_child a empty_export in
    let l = left - taken a.role empty_export in
    let m = l - context_count (list_node []) (inside 0).role in
    let n = m - context_count absent (inside 1).role in
    let list = stops_at (list_node []) (inside 0) l in
    let one = stops_at absent (inside 1) m in
    let two = stops_at absent (inside 2) n in
    subst (All IsShutStop) (sym (stops-roll dummy_span (kind.NamedExport false) parts a left))
    (All-cons IsShutStop (record { node = empty_export; around = a; left = left }) (list ++ (one ++ (two ++ []))) (shut-stop empty_export (kind.NamedExport false) a left export-kind refl (λ h. no h))
    (All-append IsShutStop list (one ++ (two ++ [])) (leaf-shut dummy_span kind.List (inside 0) l refl)
    (All-append IsShutStop one (two ++ []) (leaf-shut dummy_span kind.Absent (inside 1) m refl)
    (All-append IsShutStop two [] (leaf-shut dummy_span kind.Absent (inside 2) n refl) (All-nil IsShutStop)))))

-- ---- the stops of a list and of a module

module _ (at : Span) where
  -- what stands around the items of a list
  abbrev pub in_list : Around → ℕ → Around
  in_list a i = record { role = passes_in_list a.role; soughts = soughts_by kind.List i a.soughts; scopes = a.scopes }

  around-list : (a : Around) (ms : List Node) (i : ℕ) → around_child a (list_at at ms) i ≡ in_list a i
  unfolding role_by
  around-list a ms i =
      let n = list_at at ms in
      let is = kind-of at kind.List ms in
      let shut = opens-none a.role n kind.List is refl in
      let soughts = ap (λ (b : Bool). soughts_in (inner_soughts b a.soughts (scope_soughts a.role (kind_of n))) n i) shut ∙ soughts-are a.soughts n kind.List i is refl in
      λ j. record {
        role = role_by a.role (is j) (is_there (out-Node n).children 1) i;
        soughts = soughts j;
        scopes = cond (shut j && covers a.role (is j) i) (a.scopes ++ own_scope a.role a.scopes n ∷ []) a.scopes;
      }

  abbrev pub list_stop : Around → List Node → Stop
  list_stop a ms = record { node = list_at at ms; around = a; left = 0 }

  abbrev pub item_stops : Around → List Node → List Stop
  item_stops a ms = stops_from (in_list a) 0 ms (map stops_at ms) 0

  list-stops : (a : Around) (ms : List Node) → stops_at (list_at at ms) a 0 ≡ list_stop a ms ∷ item_stops a ms
  list-stops a ms =
      stops-roll at kind.List ms a 0
      ∙ (λ j. list_stop a ms ∷ stops_from (λ i. around-list a ms i j) 0 ms (map stops_at ms) (none-left (taken a.role (list_at at ms)) j))

  pub list-stop-shut : (a : Around) (ms : List Node) → IsShutStop (list_stop a ms)
  list-stop-shut a ms = shut-stop (list_at at ms) kind.List a 0 (kind-of at kind.List ms) refl (λ h. no h)

  module _ (e : Node) where
    -- the stops of one item more come behind all others
    stops-append : (around : ℕ → Around) (i : ℕ) (ms : List Node) (left : ℕ)
        → (m : ℕ) × (j : ℕ) × (stops_from around i (ms ++ e ∷ []) (map stops_at (ms ++ e ∷ [])) left ≡ stops_from around i ms (map stops_at ms) left ++ stops_at e (around j) m)
    stops-append around i [] left = (left, i, append-nil (stops_at e (around i) left))
    stops-append around i (m ∷ ms) left =
        let rest = left - context_count m (around i).role in
        let r = stops-append around (suc i) ms rest in (
          r.0,
          r.1,
          ap (λ (z : List Stop). stops_at m (around i) left ++ z) r.2
              ∙ sym (append_assoc (stops_at m (around i) left) (stops_from around (suc i) ms (map stops_at ms) rest) (stops_at e (around r.1) r.0)),
        )

    module _ (none : (soughts : List Sought) → declared_ids e soughts ≡ []) where
      gathered-more : (around : ℕ → List Sought) (i : ℕ) (ms : List Node)
          → gathered_from (List Sought) Id around i (map declared_ids (ms ++ e ∷ [])) ≡ gathered_from (List Sought) Id around i (map declared_ids ms)
      gathered-more around i [] = ap (λ (z : List Id). z ++ []) (none (around i))
      gathered-more around i (m ∷ ms) = ap (λ (z : List Id). declared_ids m (around i) ++ z) (gathered-more around (suc i) ms)

      list-ids : (ns : List Node) (soughts : List Sought) → declared_ids (list_at at (ns ++ e ∷ [])) soughts ≡ declared_ids (list_at at ns) soughts
      list-ids ns soughts =
          let inside = λ (ms : List Node) (i : ℕ). soughts-are soughts (list_at at ms) kind.List i (kind-of at kind.List ms) refl in
          ids-roll at kind.List (ns ++ e ∷ []) soughts refl
          ∙ gathered-alike (soughts_in soughts (list_at at (ns ++ e ∷ []))) (soughts_in soughts (list_at at ns)) (λ i. inside (ns ++ e ∷ []) i ∙ sym (inside ns i)) 0 (map declared_ids (ns ++ e ∷ []))
          ∙ gathered-more (soughts_in soughts (list_at at ns)) 0 ns
          ∙ sym (ids-roll at kind.List ns soughts refl)

module _ (span : Span) (shebang : Option (List ℕ)) (at : Span) where
  abbrev whole : List Node → Node
  whole ms = module_at span shebang at ms

  pub whole-kind : (ms : List Node) → kind_of (whole ms) ≡ kind.Module shebang
  whole-kind ms = kind-of span (kind.Module shebang) (list_at at ms ∷ [])

  pub whole-opens : (ms : List Node) → opens role.Root (whole ms) ≡ true
  unfolding opens_by
  whole-opens ms = ap (λ k. opens_by role.Root k (is_there (out-Node (whole ms)).children 0)) (whole-kind ms)

  whole-role : (ms : List Node) → role_in role.Root (whole ms) 0 ≡ role.Plain
  unfolding role_by
  whole-role ms = ap (λ k. role_by role.Root k (is_there (out-Node (whole ms)).children 1) 0) (whole-kind ms)

  whole-soughts : (ms : List Node)
      → soughts_in (inner_soughts (opens role.Root (whole ms)) [] (scope_soughts role.Root (kind_of (whole ms)))) (whole ms) 0
      ≡ soughts_by (kind.Module shebang) 0 (inner_soughts true [] (scope_soughts role.Root (kind.Module shebang)))
  whole-soughts ms =
      ap (λ k. soughts_in (inner_soughts (opens role.Root (whole ms)) [] (scope_soughts role.Root k)) (whole ms) 0) (whole-kind ms)
      ∙ ap (λ (b : Bool). soughts_in (inner_soughts b [] (scope_soughts role.Root (kind.Module shebang))) (whole ms) 0) (whole-opens ms)
      ∙ soughts-are (inner_soughts true [] (scope_soughts role.Root (kind.Module shebang))) (whole ms) (kind.Module shebang) 0 (whole-kind ms) refl

  abbrev pub whole_stop : List Node → Stop
  whole_stop ms = record { node = whole ms; around = nowhere; left = 0 }

  whole-stops : (ms : List Node) → stops 0 (whole ms) ≡ whole_stop ms ∷ (list_stop at (around_child nowhere (whole ms) 0) ms ∷ item_stops at (around_child nowhere (whole ms) 0) ms)
  whole-stops ms =
      let a = around_child nowhere (whole ms) 0 in
      stops-roll span (kind.Module shebang) (list_at at ms ∷ []) nowhere 0
      ∙ ap (λ (l : ℕ). whole_stop ms ∷ (stops_at (list_at at ms) a l ++ [])) (none-left (taken role.Root (whole ms)))
      ∙ ap (λ (z : List Stop). whole_stop ms ∷ z) (append-nil (stops_at (list_at at ms) a 0) ∙ list-stops at a ms)

  module _ (e : Node) (none : (soughts : List Sought) → declared_ids e soughts ≡ []) (ns : List Node) where
    abbrev more : List Node
    more = ns ++ e ∷ []

    same-kind : kind_of (whole more) ≡ kind_of (whole ns)
    same-kind = whole-kind more ∙ sym (whole-kind ns)

    same-opens : opens role.Root (whole more) ≡ opens role.Root (whole ns)
    same-opens = whole-opens more ∙ sym (whole-opens ns)

    ids-more : (soughts : List Sought) → declared_ids (whole more) soughts ≡ declared_ids (whole ns) soughts
    ids-more soughts =
        let inside = λ (ms : List Node). soughts-are soughts (whole ms) (kind.Module shebang) 0 (whole-kind ms) refl in
        ids-roll span (kind.Module shebang) (list_at at more ∷ []) soughts refl
        ∙ ap (λ (z : List Id). z ++ []) (ap (declared_ids (list_at at more)) (inside more ∙ sym (inside ns)) ∙ list-ids at e none ns (soughts_in soughts (whole ns) 0))
        ∙ sym (ids-roll span (kind.Module shebang) (list_at at ns ∷ []) soughts refl)

    pub own-ids-more : own_ids role.Root nothing (whole more) ≡ own_ids role.Root nothing (whole ns)
    own-ids-more =
        let ids = ap (λ k. declared_ids (whole more) (scope_soughts role.Root k)) same-kind ∙ ids-more (scope_soughts role.Root (kind_of (whole ns))) in
        λ j. filter (is_own (is_body_block role.Root (same-kind j)) nothing) (ids j)

    around-more : around_child nowhere (whole more) 0 ≡ around_child nowhere (whole ns) 0
    around-more =
        let roles = whole-role more ∙ sym (whole-role ns) in
        let soughts = whole-soughts more ∙ sym (whole-soughts ns) in
        λ j. record {
          role = roles j;
          soughts = soughts j;
          scopes = cond (same-opens j && covers role.Root (same-kind j) 0) ([] ++ contexts_of (own-ids-more j) ∷ []) [];
        }

    abbrev pub inside : Around
    inside = around_child nowhere (whole ns) 0

    -- the stops of the longer module, by those of the shorter one
    pub stops-before : stops 0 (whole ns) ≡ whole_stop ns ∷ (list_stop at inside ns ∷ item_stops at inside ns)
    stops-before = whole-stops ns

    pub stops-after : (m : ℕ) × (j : ℕ) × (stops 0 (whole more) ≡ whole_stop more ∷ (list_stop at inside more ∷ (item_stops at inside ns ++ stops_at e (in_list at inside j) m)))
    stops-after =
        let r = stops-append at e (in_list at inside) 0 ns 0 in (
          r.0,
          r.1,
          whole-stops more
              ∙ ap (λ (a : Around). whole_stop more ∷ (list_stop at a more ∷ item_stops at a more)) around-more
              ∙ ap (λ (z : List Stop). whole_stop more ∷ (list_stop at inside more ∷ z)) r.2,
        )

    -- what holds of each stop of a module holds of each of the longer one, if it does of the module, of its list, and of the item where that stands
    pub all-stops : (P : Stop → Type 0) → (P (whole_stop ns) → P (whole_stop more)) → P (list_stop at inside more) → ((j left : ℕ) → All P (stops_at e (in_list at inside j) left))
        → All P (stops 0 (whole ns)) → All P (stops 0 (whole more))
    all-stops P root list item h =
        let items = item_stops at inside ns in
        let rest = list_stop at inside ns ∷ items in
        let g = subst (All P) stops-before h in
        let after = stops-after in
        let new = stops_at e (in_list at inside after.1) after.0 in
        subst (All P) (sym after.2)
        (All-cons P (whole_stop more) (list_stop at inside more ∷ (items ++ new)) (root (All-head P (whole_stop ns) rest g))
        (All-cons P (list_stop at inside more) (items ++ new) list
        (All-append P items new (All-tail P (list_stop at inside ns) items (All-tail P (whole_stop ns) rest g)) (item after.1 after.0))))
