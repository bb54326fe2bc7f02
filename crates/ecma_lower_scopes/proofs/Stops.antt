-- Where a walk over a module comes: with its assignments lowered to the same nodes with the same around, but for those that open no scope and name nothing but what is free.
use Rattle.std.proofs.Common.{◌≡◌, ◌∙◌, ℕ, suc, ◌-◌, Bool, true, false, ◌&&◌, ◌||◌, ◌==◌, not, cond, refl, sym, ap, ap₂, subst, List, [], ◌∷◌, ◌++◌, append-nil, filter, map, Option, arith}
use Rattle.std.specs.List.{All}
use Rattle.std.proofs.lemmas.Bool.{eq-eqb, eqb-true}
use Rattle.std.proofs.lemmas.List.Elements.{All-cons, All-filter, All-head, All-nil, All-tail, filter-append}
use Rattle.ecma_kind.specs.declared.kind.Kind.{Kind}
use Rattle.ecma_kind.specs.declared.kind.Kind.TheVariants as kind
use Rattle.ecma_kind.specs.declared.span.Span.{Span}
use Rattle.ecma_tree.specs.Nodes.{absent, dummy_span, node_of}
use Rattle.ecma_tree.specs.Sorted.{is_absent}
use Rattle.ecma_tree.specs.declared.node.Node.{Node, out-Node}
use Rattle.ecma_tree.proofs.Layers.{from_leaves-roll}
use Rattle.ecma_utils.specs.Emptiness.{list_is_empty}
use Rattle.ecma_rules.specs.Children.{kind_of}
use Rattle.ecma_scope.specs.declared.role.Role.{Role}
use Rattle.ecma_scope.specs.declared.role.Role.TheVariants as role
use Rattle.ecma_scope.specs.Declarations.{in_item, in_name, in_var}
use Rattle.ecma_scope.specs.Resolved.{context_count, is_name, taken}
use Rattle.ecma_scope.specs.Scopes.{covers, is_there, opens, opens_by, role_by, role_in}
use Rattle.ecma_hygiene.specs.Ids.{Scope, scope_soughts, soughts_in}
use Rattle.ecma_hygiene.specs.Sights.{Around, around_child, inner_soughts, nowhere, own_scope}
use Rattle.ecma_hygiene_scopes.specs.Stops.{Stop, stop_step, stops, stops_at, stops_from}
use Rattle.ecma_strip_rewriting.proofs.PlainKinds.{both, no}
use Rattle.ecma_lower_scopes.proofs.Declared.{whole-kind}
use Rattle.ecma_lower_scopes.proofs.Ids.{item_soughts, module-soughts, name_soughts, soughts-inside, soughts-still, soughts_below}
use Rattle.ecma_lower_scopes.proofs.Still.{children-of, inner-plain, is_leaf, is_still, kind-of, list_at, opens-leaf, opens-none, role-is, still-there}
use Rattle.ecma_lower_scopes.proofs.Lists.{all_given, given-alike}
use Rattle.ecma_lower_scopes.proofs.Walks.{Seats, Walk, given_from}
use Rattle.ecma_lower_strip.proofs.Modules.{as_module}

-- ---- stops that matter

abbrev pub is_free_name : ℕ → Role → Kind → Bool
is_free_name free r (kind.Ident sym ctxt optional) = ctxt == free && not (is_name r)
is_free_name free r _ = false

abbrev pub is_bare : Node → Bool
is_bare n = is_absent (kind_of n) && list_is_empty (out-Node n).children

-- neither of a still kind, nor missing, nor a free name
abbrev pub is_loud : ℕ → Stop → Bool
is_loud free stop = not (is_still (kind_of stop.node) || (is_bare stop.node || is_free_name free stop.around.role (kind_of stop.node)))

-- what is so of all others: they open no scope, and what they name is free
pub record IsQuiet (free : ℕ) (stop : Stop) : Type 0 where
  pub closed : opens stop.around.role stop.node ≡ false
  pub names : (text : List ℕ) (ctxt : ℕ) (optional : Bool) → kind_of stop.node ≡ kind.Ident text ctxt optional → (ctxt ≡ free) × (is_name stop.around.role ≡ false)
  pub empty : is_absent (kind_of stop.node) ≡ true → (out-Node stop.node).children ≡ []

still-quiet : (free : ℕ) (stop : Stop) → is_still (kind_of stop.node) ≡ true → IsQuiet free stop
still-quiet free stop h = record {
  closed = opens-none stop.around.role stop.node (kind_of stop.node) refl h;
  names = λ text ctxt optional e. no (sym (ap is_still e) ∙ h);
  empty = λ g. no (sym (still-there (kind_of stop.node) h) ∙ g);
}

absent-leaf : (k : Kind) → is_absent k ≡ true → is_leaf k ≡ true
absent-leaf kind.Absent h = refl
absent-leaf _ h = no h

empty-is : (ns : List Node) → list_is_empty ns ≡ true → ns ≡ []
empty-is [] h = refl
empty-is (n ∷ ns) h = no h

bare-quiet : (free : ℕ) (stop : Stop) → is_bare stop.node ≡ true → IsQuiet free stop
bare-quiet free stop h =
    let k = kind_of stop.node in
    let parts = both (is_absent k) (list_is_empty (out-Node stop.node).children) h in
    record {
      closed = opens-leaf stop.around.role stop.node k refl (absent-leaf k parts.0);
      names = λ text ctxt optional e. no (sym (ap is_absent e) ∙ parts.0);
      empty = λ g. empty-is (out-Node stop.node).children parts.1;
    }

free-leaf : (free : ℕ) (r : Role) (k : Kind) → is_free_name free r k ≡ true → (is_leaf k ≡ true) × (is_absent k ≡ false)
free-leaf free r (kind.Ident sym ctxt optional) h = (refl, refl)
free-leaf free r _ h = no h

not-true : (b : Bool) → not b ≡ true → b ≡ false
not-true true h = no h
not-true false h = refl

free-quiet : (free : ℕ) (stop : Stop) → is_free_name free stop.around.role (kind_of stop.node) ≡ true → IsQuiet free stop
free-quiet free stop h =
    let k = kind_of stop.node in
    let r = stop.around.role in
    let leaf = free-leaf free r k h in
    record {
      closed = opens-leaf r stop.node k refl leaf.0;
      names = λ text ctxt optional e.
          (let parts = both (ctxt == free) (not (is_name r)) (sym (ap (is_free_name free r) e) ∙ h) in
          (eqb-true ctxt free parts.0, not-true (is_name r) parts.1));
      empty = λ g. no (sym leaf.1 ∙ g);
    }

pub quiet-stop : (free : ℕ) (stop : Stop) → is_loud free stop ≡ false → IsQuiet free stop
quiet-stop free stop = by (is_still (kind_of stop.node)) (is_bare stop.node) (is_free_name free stop.around.role (kind_of stop.node)) refl refl refl
  where
    by : (x y z : Bool) → is_still (kind_of stop.node) ≡ x → is_bare stop.node ≡ y → is_free_name free stop.around.role (kind_of stop.node) ≡ z → not (x || (y || z)) ≡ false → IsQuiet free stop
    by true y z f g h e = still-quiet free stop f
    by false true z f g h e = bare-quiet free stop g
    by false false true f g h e = free-quiet free stop h
    by false false false f g h e = no (sym e)

-- ---- a walk to those that matter

abbrev pub loud_stops : ℕ → Node → Around → List Stop
loud_stops free n a = filter (is_loud free) (stops_at n a 0)

abbrev pub around_below : Kind → Around → ℕ → Around
around_below k a i = record { role = role_by a.role k false i; soughts = soughts_below k a.soughts i; scopes = a.scopes }

around-still : (a : Around) (n : Node) (k : Kind) (i : ℕ) → kind_of n ≡ k → is_still k ≡ true → around_child a n i ≡ around_below k a i
around-still a n k i e h =
    let closed = opens-none a.role n k e h in
    let soughts = ap (λ (b : Bool). soughts_in (inner_soughts b a.soughts (scope_soughts a.role (kind_of n))) n i) closed ∙ soughts-still a.soughts n k i e h in
    λ j. record {
      role = role-is a.role n k i e h j;
      soughts = soughts j;
      scopes = cond (closed j && covers a.role (kind_of n) i) (a.scopes ++ own_scope a.role a.scopes n ∷ []) a.scopes;
    }

stops-roll : (span : Span) (k : Kind) (cs : List Node) (a : Around) (left : ℕ)
    → stops_at (node_of span k cs) a left
    ≡ record { node = node_of span k cs; around = a; left = left } ∷ stops_from (around_child a (node_of span k cs)) 0 cs (map stops_at cs) (left - taken a.role (node_of span k cs))
stops-roll span k cs a left =
    let n = node_of span k cs in
    ap (λ f. f a left) (from_leaves-roll (Around → ℕ → List Stop) stop_step (record { span = span; kind = k; children = cs }))
    ∙ ap (λ (z : List Node). record { node = n; around = a; left = left } ∷ stops_from (around_child a n) 0 z (map stops_at cs) (left - taken a.role n)) (children-of span k cs)

none-left : (n : ℕ) → 0 - n ≡ 0
none-left n = omega arith

-- what stands around the items of a module, whose scope is this
abbrev pub in_module : List Scope → Around
in_module scopes = record { role = role.Plain; soughts = item_soughts; scopes = scopes }

module _ (free : ℕ) where
  loud-given : (into other : ℕ → Around) → ((i : ℕ) → into i ≡ other i) → (i : ℕ) (cs : List Node)
      → filter (is_loud free) (stops_from into i cs (map stops_at cs) 0) ≡ given_from (loud_stops free) other i cs
  loud-given into other same i [] = refl
  loud-given into other same i (c ∷ cs) =
      let rest = 0 - context_count c (into i).role in
      filter-append (is_loud free) (stops_at c (into i) 0) (stops_from into (suc i) cs (map stops_at cs) rest)
      ∙ ap₂ (λ (x y : List Stop). x ++ y) (ap (loud_stops free c) (same i))
      (ap (λ (l : ℕ). filter (is_loud free) (stops_from into (suc i) cs (map stops_at cs) l)) (none-left (context_count c (into i).role)) ∙ loud-given into other same (suc i) cs)

  -- a node that does not matter, before what is below it
  quiet-out : (span : Span) (k : Kind) (cs : List Node) (a : Around) → is_loud free (record { node = node_of span k cs; around = a; left = 0 }) ≡ false
      → loud_stops free (node_of span k cs) a ≡ filter (is_loud free) (stops_from (around_child a (node_of span k cs)) 0 cs (map stops_at cs) 0)
  quiet-out span k cs a quiet =
      let n = node_of span k cs in
      let stop : Stop = record { node = n; around = a; left = 0 } in
      let below = λ (l : ℕ). filter (is_loud free) (stops_from (around_child a n) 0 cs (map stops_at cs) l) in
      ap (filter (is_loud free)) (stops-roll span k cs a 0)
      ∙ ap (λ (b : Bool). cond b (stop ∷ below (0 - taken a.role n)) (below (0 - taken a.role n))) quiet
      ∙ ap below (none-left (taken a.role n))

  not-loud : (n : Node) (a : Around) (k : Kind) → kind_of n ≡ k → is_still k ≡ true → is_loud free (record { node = n; around = a; left = 0 }) ≡ false
  not-loud n a k e h =
      ap (λ z. not (is_still z || (is_bare n || is_free_name free a.role z))) e ∙ ap (λ (b : Bool). not (b || (is_bare n || is_free_name free a.role k))) h

  pub loud-out : (span : Span) (k : Kind) (cs : List Node) (a : Around) → is_still k ≡ true → loud_stops free (node_of span k cs) a ≡ given_from (loud_stops free) (around_below k a) 0 cs
  loud-out span k cs a h =
      let n = node_of span k cs in
      quiet-out span k cs a (not-loud n a k (kind-of span k cs) h)
      ∙ loud-given (around_child a n) (around_below k a) (λ i. around-still a n k i (kind-of span k cs) h) 0 cs

  pub missing-quiet : (a : Around) → loud_stops free absent a ≡ []
  missing-quiet a =
      let is = kind-of dummy_span kind.Absent [] in
      let none = children-of dummy_span kind.Absent [] in
      quiet-out dummy_span kind.Absent [] a (λ j. not (is_still (is j) || ((is_absent (is j) && list_is_empty (none j)) || is_free_name free a.role (is j))))

  abbrev pub coming : Walk Around Stop
  coming = record { gives = loud_stops free; into = around_below; out = loud-out; missing = missing-quiet }

  free-name-quiet : (text : List ℕ) (a : Around) → is_name a.role ≡ false → loud_stops free (node_of dummy_span (kind.Ident text free false) []) a ≡ []
  free-name-quiet text a h =
      let k = kind.Ident text free false in
      let is = kind-of dummy_span k [] in
      let named : is_free_name free a.role k ≡ true = ap₂ (λ (x y : Bool). x && not y) (eq-eqb free free refl) h in
      let bare : is_bare (node_of dummy_span k []) ≡ false = ap (λ z. is_absent z && list_is_empty (out-Node (node_of dummy_span k [])).children) is in
      quiet-out dummy_span k [] a
      (ap (λ z. not (is_still z || (is_bare (node_of dummy_span k []) || is_free_name free a.role z))) is ∙ ap₂ (λ (x y : Bool). not (x || y)) bare named)

  pub stop-seats : (scopes : List Scope)
      → Seats coming free (in_module scopes) (record { role = role.Plain; soughts = name_soughts; scopes = scopes }) (record { role = role.Plain; soughts = []; scopes = scopes })
  unfolding role_by in_item in_name in_var
  stop-seats scopes = record {
    import_name = λ e. refl;
    import_value = λ e. refl;
    constant_name = refl;
    constant_value = refl;
    exported = refl;
    statement = refl;
    assignment = refl;
    inner = λ k i h. ap (λ (r : Role). record { role = r; soughts = []; scopes = scopes }) (inner-plain k i h);
    free_name = λ text. free-name-quiet text (record { role = role.Plain; soughts = []; scopes = scopes }) refl;
  }

  list-below : (scopes : List Scope) (i : ℕ) → around_below kind.List (in_module scopes) i ≡ in_module scopes
  unfolding role_by in_item in_var
  list-below scopes i = refl

  pub list-comes : (at : Span) (scopes : List Scope) (ns : List Node) → loud_stops free (list_at at ns) (in_module scopes) ≡ all_given coming (in_module scopes) ns
  list-comes at scopes ns = loud-out at kind.List ns (in_module scopes) refl ∙ given-alike coming (in_module scopes) (around_below kind.List (in_module scopes)) (list-below scopes) 0 ns

-- ---- the stops of a module

module _ (span : Span) (shebang : Option (List ℕ)) (at : Span) (ns : List Node) where
  abbrev pub whole : Node
  whole = as_module span shebang at ns

  pub module-opens : opens role.Root whole ≡ true
  unfolding opens_by
  module-opens = ap (λ k. opens_by role.Root k (is_there (out-Node whole).children 0)) (whole-kind span shebang at ns)

  module-plain : role_in role.Root whole 0 ≡ role.Plain
  unfolding role_by
  module-plain = ap (λ k. role_by role.Root k (is_there (out-Node whole).children 1) 0) (whole-kind span shebang at ns)

  abbrev pub module_scopes : List Scope
  module_scopes = (around_child nowhere whole 0).scopes

  around-items : around_child nowhere whole 0 ≡ in_module module_scopes
  around-items =
      let soughts =
      ap (λ (b : Bool). soughts_in (inner_soughts b [] (scope_soughts role.Root (kind_of whole))) whole 0) module-opens
      ∙ ap (λ z. soughts_in z whole 0) (module-soughts span shebang at ns)
      ∙ soughts-inside span shebang at ns in
      λ j. record { role = module-plain j; soughts = soughts j; scopes = module_scopes }

  -- the module itself
  abbrev pub module_stop : Stop
  module_stop = record { node = whole; around = nowhere; left = 0 }

  -- and those of its list
  abbrev pub list_stops : List Stop
  list_stops = stops_at (list_at at ns) (in_module module_scopes) 0

  pub module-stops : stops 0 whole ≡ module_stop ∷ list_stops
  module-stops =
      stops-roll span (kind.Module shebang) (list_at at ns ∷ []) nowhere 0
      ∙ ap (λ (z : List Stop). module_stop ∷ z)
      (append-nil (stops_at (list_at at ns) (around_child nowhere whole 0) (0 - taken role.Root whole))
      ∙ ap₂ (stops_at (list_at at ns)) around-items (none-left (taken role.Root whole)))

-- ---- what holds of each stop

module _ {X : Type 0} (P : X → Type 0) (p : X → Bool) (others : (x : X) → p x ≡ false → P x) where
  back-step : (b : Bool) (x : X) (xs : List X) → p x ≡ b → (All P (filter p xs) → All P xs) → All P (cond b (x ∷ filter p xs) (filter p xs)) → All P (x ∷ xs)
  back-step true x xs e rest h = All-cons P x xs (All-head P x (filter p xs) h) (rest (All-tail P x (filter p xs) h))
  back-step false x xs e rest h = All-cons P x xs (others x e) (rest h)

  -- what holds where a test fails holds of all, if it does of those that pass it
  all-back : (xs : List X) → All P (filter p xs) → All P xs
  all-back [] h = All-nil P
  all-back (x ∷ xs) h = back-step (p x) x xs refl (all-back xs) h

-- what holds of each stop of a module holds of each of it with other items, if it does of the module and of all that does not matter, and if all that the items come to is
-- what the others come to
module _ (free : ℕ) (span : Span) (shebang : Option (List ℕ)) (at : Span) (ns ms : List Node) (P : Stop → Type 0) where
  pub all-stops : ((stop : Stop) → is_loud free stop ≡ false → P stop) → (P (module_stop span shebang at ns) → P (module_stop span shebang at ms))
      → module_scopes span shebang at ms ≡ module_scopes span shebang at ns
      → ((scopes : List Scope) → All P (all_given (coming free) (in_module scopes) ns) → All P (all_given (coming free) (in_module scopes) ms))
      → All P (stops 0 (as_module span shebang at ns)) → All P (stops 0 (as_module span shebang at ms))
  all-stops quiet root same items h =
      let first = module_stop span shebang at ns in
      let last = module_stop span shebang at ms in
      let scopes = module_scopes span shebang at ns in
      let g = subst (All P) (module-stops span shebang at ns) h in
      let inner = subst (All P) (list-comes free at scopes ns) (All-filter (is_loud free) P (list_stops span shebang at ns) (All-tail P first (list_stops span shebang at ns) g)) in
      let outer = subst (All P) (sym (list-comes free at scopes ms)) (items scopes inner) in
      let others = all-back P (is_loud free) quiet (stops_at (list_at at ms) (in_module scopes) 0) outer in
      subst (All P) (sym (module-stops span shebang at ms))
      (All-cons P last (list_stops span shebang at ms) (root (All-head P first (list_stops span shebang at ns) g))
      (subst (λ z. All P (stops_at (list_at at ms) (in_module z) 0)) (sym same) others))
