-- Explicit parentheses keep the clauses on branches and on members.
use Rattle.std.proofs.Common.{◌≡◌, ◌∙◌, ◌||◌, ◌&&◌, not, if◌then◌else◌, Bool, true, false, List, [], ◌∷◌, map, refl, sym, ap, ap₂, subst, slice_get}
use Rattle.ecma_kind.specs.declared.span.Span.{Span}
use Rattle.ecma_kind.specs.declared.kind.Kind.{Kind}
use Rattle.ecma_kind.specs.declared.kind.Kind.TheVariants as kind
use Rattle.ecma_tree.specs.declared.node.Node.{Node, Node-F, fold-roll-Node, ind-Node, out-Node, roll-Node}
use Rattle.ecma_tree.specs.Nodes.{dummy_span, node_of}
use Rattle.ecma_tree.specs.Sorted.{is_absent}
use Rattle.ecma_rules.specs.Children.{holds_of, is_present, kind_of, of_kind}
use Rattle.ecma_rules.specs.Members.{is_constructor_key, is_method, is_special_function}
use Rattle.ecma_print.specs.declared.place.Spot.{Spot}
use Rattle.ecma_print.specs.Places.{free}
use Rattle.ecma_print.specs.Laid.{Laid}
use Rattle.ecma_print.specs.Levels.{in_parentheses}
use Rattle.ecma_print.specs.Explicit.{Standing, bare, laid_children, parenthesized, stood}
use Rattle.ecma_print.specs.Spots.{first_spots, further_spot}
use Rattle.ecma_print_parentheses.proofs.Standing.{stands}
use Rattle.ecma_print_parentheses.proofs.Asking.{AllFit, Fits, first_fit, further_fits}
use Rattle.ecma_fits.specs.Branches.{holds_at_last, is_choice, is_dangling, last_part, takes_else, takes_else_step}
use Rattle.ecma_fits.specs.Fitting.{at_top}
use Rattle.ecma_fits.specs.Members.{is_misread, is_misread_by}
use Rattle.ecma_print_fits.specs.Laws.{ExplicitBranchesStay, ExplicitMembersStay}
use Rattle.ecma_print_fits.proofs.Parts.{children_made, kind_made, not_true}
use Rattle.ecma_print_fits.proofs.Explicit.{AllHold, IsKept, kept, kept_at, kind_at, kind_kept, spotted}

-- nothing need be known of nodes
abbrev Anything : Node → Type 0
Anything n = Unit {0}

all_anything : (ns : List Node) → AllHold Anything ns
all_anything [] = tt
all_anything (n ∷ ns) = (tt, all_anything ns)

-- branches

absent_opens : (k : Kind) (children : List Laid) (spot : Spot) → Fits spot → is_present k ≡ false → in_parentheses k children spot ≡ false
absent_opens kind.Absent children spot h e = ap (λ b. b || false) h
absent_opens _ children spot h e = not_true (sym e)

abbrev ends_so : Kind → Bool
ends_so kind.Absent = true
ends_so kind.IfStmt = true
ends_so kind.LabeledStmt = true
ends_so kind.WhileStmt = true
ends_so kind.ForStmt = true
ends_so kind.ForInStmt = true
ends_so (kind.ForOfStmt is_await) = true
ends_so _ = false

statement_opens : (k : Kind) (children : List Laid) (spot : Spot) → Fits spot → ends_so k ≡ true → in_parentheses k children spot ≡ false
statement_opens kind.Absent children spot h e = ap (λ b. b || false) h
statement_opens kind.IfStmt children spot h e = ap (λ b. b || false) h
statement_opens kind.LabeledStmt children spot h e = ap (λ b. b || false) h
statement_opens kind.WhileStmt children spot h e = ap (λ b. b || false) h
statement_opens kind.ForStmt children spot h e = ap (λ b. b || false) h
statement_opens kind.ForInStmt children spot h e = ap (λ b. b || false) h
statement_opens (kind.ForOfStmt is_await) children spot h e = ap (λ b. b || false) h
statement_opens _ children spot h e = not_true e

no_end : (k : Kind) (takes : List Bool) → ends_so k ≡ false → (is_absent k || holds_at_last takes (last_part k)) ≡ false
no_end kind.Absent takes e = not_true (sym e)
no_end kind.IfStmt takes e = not_true (sym e)
no_end kind.LabeledStmt takes e = not_true (sym e)
no_end kind.WhileStmt takes e = not_true (sym e)
no_end kind.ForStmt takes e = not_true (sym e)
no_end kind.ForInStmt takes e = not_true (sym e)
no_end (kind.ForOfStmt is_await) takes e = not_true (sym e)
no_end _ takes e = refl

takes_made : (x : Node-F Node) → takes_else (roll-Node x) ≡ (is_absent x.kind || holds_at_last (map takes_else x.children) (last_part x.kind))
takes_made x = fold-roll-Node Bool takes_else_step x

abbrev Takes : Node → Type 0
Takes n = (spot : Spot) → Fits spot → takes_else ((stood n).at spot) ≡ takes_else n

abbrev AllTake : List Node → Type 0
AllTake ns = (spots : List Spot) (further : Spot) → AllFit spots → Fits further → map takes_else (spotted ns spots further) ≡ map takes_else ns

all_take : (es : List ((n : Node) × Takes n)) → AllTake (map (λ e. e.0) es)
all_take [] spots further fit fits = refl
all_take (e ∷ es) [] further fit fits = ap₂ (λ a rest. a ∷ rest) (e.1 further fits) (all_take es [] further fit fits)
all_take (e ∷ es) (spot ∷ spots) further fit fits = ap₂ (λ a rest. a ∷ rest) (e.1 spot fit.0) (all_take es spots further fit.1 fits)

module _ (x : Node-F Node) (below : AllTake x.children) where
  abbrev ours : List Standing
  ours = map stood x.children

  bare_takes : (spot : Spot) → Fits spot → takes_else (bare x.span x.kind ours spot) ≡ takes_else (roll-Node x)
  bare_takes spot fits =
      let spots = first_spots x.kind (laid_children ours) spot in
      let further = further_spot x.kind spot in
      takes_made (record { span = x.span; kind = x.kind; children = spotted x.children spots further })
      ∙ (ap (λ takes. is_absent x.kind || holds_at_last takes (last_part x.kind)) (below spots further (first_fit x.kind (laid_children ours) spot fits) (further_fits x.kind spot fits)) ∙ sym (takes_made x))

  either_takes : (b : Bool) (spot : Spot) → Fits spot → (ends_so x.kind ≡ true → b ≡ false) → takes_else (if b then parenthesized (bare x.span x.kind ours (free 0)) else bare x.span x.kind ours spot) ≡ takes_else (roll-Node x)
  either_takes true spot fits opens =
      takes_made (record { span = dummy_span; kind = kind.ParenExpr; children = bare x.span x.kind ours (free 0) ∷ [] }) ∙ sym (takes_made x ∙ no_end x.kind (map takes_else x.children) (no_such (ends_so x.kind) opens))
    where
      no_such : (b : Bool) → (b ≡ true → true ≡ false) → b ≡ false
      no_such true h = h refl
      no_such false h = refl
  either_takes false spot fits opens = bare_takes spot fits

  node_takes : Takes (roll-Node x)
  node_takes spot fits = ap takes_else (stands x spot) ∙ either_takes (in_parentheses x.kind (laid_children ours) spot) spot fits (λ e. statement_opens x.kind (laid_children ours) spot fits e)

takes_kept : IsKept takes_else
takes_kept = ind-Node Takes (λ x y is. node_takes x (subst (λ (z : Node-F Node). AllTake z.children) is (all_take y.children)))

pub present_kept : IsKept (λ n. is_present (kind_of n))
present_kept n spot fits = ap not (kind_kept is_absent refl (λ k children spot fits e. absent_opens k children spot fits (ap not e)) n spot fits)

abbrev dangles : Kind → List Node → Bool
dangles k ns = is_choice k && (of_kind is_present (slice_get ns 2) && holds_of takes_else (slice_get ns 1))

dangling_made : (x : Node-F Node) → is_dangling (roll-Node x) ≡ dangles x.kind x.children
dangling_made x = ap₂ dangles (kind_made x) (children_made x)

dangling_here : (span : Span) (k : Kind) (ns : List Node) (spots : List Spot) (further : Spot) → AllFit spots → Fits further → is_dangling (node_of span k (spotted ns spots further)) ≡ is_dangling (node_of span k ns)
dangling_here span k ns spots further fit fits =
    dangling_made (record { span = span; kind = k; children = spotted ns spots further })
    ∙ (ap₂ (λ a b. is_choice k && (a && b)) (kind_at is_present present_kept ns spots further fit fits 2) (kept_at takes_else takes_kept ns spots further fit fits 1)
    ∙ sym (dangling_made (record { span = span; kind = k; children = ns })))

pub branches_stay : ExplicitBranchesStay
branches_stay tree h =
    kept Anything is_dangling (λ x is. all_anything x.children) (λ n. dangling_made (record { span = dummy_span; kind = kind.ParenExpr; children = n ∷ [] }))
    (λ span k ns children spot fits is e. dangling_here span k ns (first_spots k children spot) (further_spot k spot) (first_fit k children spot fits) (further_fits k spot fits) ∙ e) tree tt at_top h (free 0) refl at_top

-- members

pub key_opens : (k : Kind) (children : List Laid) (spot : Spot) → Fits spot → is_constructor_key k ≡ true → in_parentheses k children spot ≡ false
key_opens (kind.IdentName text) children spot h e = ap (λ b. b || false) h
key_opens (kind.Str value raw) children spot h e = ap (λ b. b || false) h
key_opens _ children spot h e = not_true e

pub function_opens : (k : Kind) (children : List Laid) (spot : Spot) → Fits spot → is_special_function k ≡ true → in_parentheses k children spot ≡ false
function_opens (kind.Function is_generator is_async) children spot h e = ap (λ b. b || false) h
function_opens _ children spot h e = not_true e

module _ (span : Span) (ns : List Node) (spots : List Spot) (further : Spot) (fit : AllFit spots) (fits : Fits further) where
  abbrev were : Kind → Node
  were k = node_of span k ns

  abbrev are : Kind → Node
  are k = node_of span k (spotted ns spots further)

  by_children : (read : List Node → Bool) (k : Kind) → read (spotted ns spots further) ≡ read ns → read (out-Node (are k)).children ≡ read (out-Node (were k)).children
  by_children read k e =
      ap read (children_made (record { span = span; kind = k; children = spotted ns spots further })) ∙ (e ∙ sym (ap read (children_made (record { span = span; kind = k; children = ns }))))

  key_here : of_kind is_constructor_key (slice_get (spotted ns spots further) 0) ≡ of_kind is_constructor_key (slice_get ns 0)
  key_here = kind_at is_constructor_key (kind_kept is_constructor_key refl key_opens) ns spots further fit fits 0

  function_here : of_kind is_special_function (slice_get (spotted ns spots further) 1) ≡ of_kind is_special_function (slice_get ns 1)
  function_here = kind_at is_special_function (kind_kept is_special_function refl function_opens) ns spots further fit fits 1

  misread_by_here : (k : Kind) → is_misread_by k (are k) ≡ is_misread_by k (were k)
  unfolding is_misread_by
  misread_by_here (kind.Constructor accessibility is_optional) = by_children (λ z. not (of_kind is_constructor_key (slice_get z 0))) (kind.Constructor accessibility is_optional) (ap not key_here)
  misread_by_here (kind.ClassMethod k modifiers) =
      by_children (λ z. (not (is_method k) && of_kind is_special_function (slice_get z 1)) || (not modifiers.is_static && of_kind is_constructor_key (slice_get z 0))) (kind.ClassMethod k modifiers)
      (ap₂ (λ a b. (not (is_method k) && a) || (not modifiers.is_static && b)) function_here key_here)
  misread_by_here (kind.PrivateMethod k modifiers) = by_children (λ z. not (is_method k) && of_kind is_special_function (slice_get z 1)) (kind.PrivateMethod k modifiers) (ap (λ a. not (is_method k) && a) function_here)
  misread_by_here _ = refl

  misread_here : (k : Kind) → is_misread (are k) ≡ is_misread (were k)
  misread_here k =
      ap (λ z. is_misread_by z (are k)) (kind_made (record { span = span; kind = k; children = spotted ns spots further }))
      ∙ (misread_by_here k ∙ sym (ap (λ z. is_misread_by z (were k)) (kind_made (record { span = span; kind = k; children = ns }))))

never_misread : (n : Node) → is_misread (parenthesized n) ≡ false
unfolding is_misread_by
never_misread n = ap (λ z. is_misread_by z (parenthesized n)) (kind_made (record { span = dummy_span; kind = kind.ParenExpr; children = n ∷ [] }))

pub members_stay : ExplicitMembersStay
members_stay tree h =
    kept Anything is_misread (λ x is. all_anything x.children) never_misread
    (λ span k ns children spot fits is e. misread_here span ns (first_spots k children spot) (further_spot k spot) (first_fit k children spot fits) (further_fits k spot fits) k ∙ e) tree tt at_top h (free 0) refl at_top

pub ruleset explicit_clauses = (branches_stay, members_stay)
