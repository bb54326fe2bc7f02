-- The scopes of a module with `export {}`: what their ids say, and their contexts.
use Rattle.std.proofs.Common.{◌≡◌, ◌∙◌, ℕ, Bool, true, false, cond, refl, sym, ap, subst, List, [], ◌∷◌, ◌++◌, map, Option}
use Rattle.std.specs.List.{All}
use Rattle.std.proofs.lemmas.List.{map-append}
use Rattle.std.proofs.lemmas.List.Elements.{All-append, All-cons, All-head, All-nil, All-tail}
use Rattle.ecma_kind.specs.declared.kind.Kind.{Kind}
use Rattle.ecma_kind.specs.declared.kind.Kind.TheVariants as kind
use Rattle.ecma_kind.specs.declared.span.Span.{Span}
use Rattle.ecma_tree.specs.Sorted.{is_absent}
use Rattle.ecma_tree.specs.declared.node.Node.{Node}
use Rattle.ecma_lower.specs.Marking.{empty_export}
use Rattle.ecma_rules.specs.Children.{kind_of}
use Rattle.ecma_scope.specs.Scopes.{is_root, opens}
use Rattle.ecma_hygiene.specs.Ids.{Id, has_context, innermost, own_ids}
use Rattle.ecma_hygiene.specs.Sights.{Around, nowhere}
use Rattle.ecma_hygiene_scopes.specs.Apart.{AreApart, own_contexts}
use Rattle.ecma_hygiene_scopes.specs.Stops.{Stop, stops, stops_at}
use Rattle.ecma_ready.specs.Ready.{HasOwnContexts, SaysItsScopes, contexts_there}
use Rattle.ecma_marks.specs.Laws.{MarkedTreesHaveOwnContexts}
use Rattle.ecma_marks.proofs.Adding.{where-it-may-come}
use Rattle.ecma_marks.proofs.Conflicts.{is_shut, opens-none}
use Rattle.ecma_marks.proofs.Modules.{module_at, no, with_export}
use Rattle.ecma_marks.proofs.Scopes.{IsShutStop, all-stops, export-ids, export-shut, in_list, inside, item_stops, list-stop-shut, list_stop, own-ids-more, stops-after, stops-before, whole-kind, whole-opens, whole_stop}

all-to : {X : Type 0} (P Q : X → Type 0) → ((x : X) → P x → Q x) → (xs : List X) → All P xs → All Q xs
all-to P Q f [] h = All-nil Q
all-to P Q f (x ∷ xs) h = All-cons Q x xs (f x (All-head P x xs h)) (all-to P Q f xs (All-tail P x xs h))

-- ---- stops that open no scope

abbrev is_ident : Kind → Bool
is_ident (kind.Ident sym ctxt optional) = true
is_ident _ = false

shut-names-nothing : (k : Kind) → is_shut k ≡ true → is_ident k ≡ false
shut-names-nothing (kind.Ident sym ctxt optional) h = no h
shut-names-nothing _ h = refl

module _ (stop : Stop) (shut : IsShutStop stop) where
  closed : opens stop.around.role stop.node ≡ false
  closed = opens-none stop.around.role stop.node shut.its_kind shut.is shut.shut

  no-ident : {X : Type 0} (sym' : List ℕ) (ctxt : ℕ) (optional : Bool) → kind_of stop.node ≡ kind.Ident sym' ctxt optional → X
  no-ident sym' ctxt optional e = no (sym (shut-names-nothing shut.its_kind shut.shut) ∙ ap is_ident (sym shut.is ∙ e))

  no-contexts : own_contexts stop ≡ []
  no-contexts = ap (λ (b : Bool). cond b (map (λ (id : Id). id.1) (own_ids stop.around.role (innermost stop.around.scopes) stop.node)) []) closed

  shut-says : (free : ℕ) → SaysItsScopes free stop.node stop.around
  shut-says free = record {
    absent = λ h. shut.empty (sym (ap is_absent shut.is) ∙ h);
    names = λ text ctxt optional e is. no-ident text ctxt optional e;
    free_names = λ text ctxt optional e is none. no-ident text ctxt optional e;
    blocks = λ h is. no (sym closed ∙ h);
    parameters = λ h is. no (sym closed ∙ h);
    not_free = ap (has_context free) no-contexts;
    not_empty = ap (has_context 0) no-contexts;
  }

  shut-one : (c d : ℕ) → has_context c (contexts_there stop.node stop.around) ≡ true → has_context d (contexts_there stop.node stop.around) ≡ true → c ≡ d
  shut-one c d h g = no (sym (ap (has_context c) no-contexts) ∙ h)

-- ---- the scope of the module

module _ (span : Span) (shebang : Option (List ℕ)) (at : Span) (ns : List Node) where
  abbrev before : Node
  before = module_at span shebang at ns

  abbrev after : Node
  after = module_at span shebang at (with_export ns)

  same-contexts : contexts_there after nowhere ≡ contexts_there before nowhere
  same-contexts = λ j.
      cond ((whole-opens span shebang at (with_export ns) ∙ sym (whole-opens span shebang at ns)) j)
      (map (λ (id : Id). id.1) (own-ids-more span shebang at empty_export export-ids ns j)) []

  no-ident-there : {X : Type 0} (text : List ℕ) (ctxt : ℕ) (optional : Bool) → kind_of after ≡ kind.Ident text ctxt optional → X
  no-ident-there text ctxt optional e = no (ap is_ident (sym (whole-kind span shebang at (with_export ns)) ∙ e))

  module-says : (free : ℕ) → SaysItsScopes free before nowhere → SaysItsScopes free after nowhere
  module-says free says = record {
    absent = λ h. no (sym (ap is_absent (whole-kind span shebang at (with_export ns))) ∙ h);
    names = λ text ctxt optional e is. no-ident-there text ctxt optional e;
    free_names = λ text ctxt optional e is none. no-ident-there text ctxt optional e;
    blocks = λ h is. no (sym (ap is_root is));
    parameters = λ h is. no is;
    not_free = ap (has_context free) same-contexts ∙ says.not_free;
    not_empty = ap (has_context 0) same-contexts ∙ says.not_empty;
  }

  -- what stands around the list of the module, and around what is added to it
  abbrev around_list : Around
  around_list = inside span shebang at empty_export export-ids ns

  shut-all : (P : Stop → Type 0) → ((stop : Stop) → IsShutStop stop → P stop) → (P (whole_stop span shebang at ns) → P (whole_stop span shebang at (with_export ns))) → All P (stops 0 before) → All P (stops 0 after)
  shut-all P shut root h =
      all-stops span shebang at empty_export export-ids ns P root (shut (list_stop at around_list (with_export ns)) (list-stop-shut at around_list (with_export ns)))
      (λ j left. all-to IsShutStop P shut (stops_at empty_export (in_list at around_list j) left) (export-shut (in_list at around_list j) left)) h

  abbrev Says : ℕ → Stop → Type 0
  Says free stop = SaysItsScopes free stop.node stop.around

  pub scopes-more : (free : ℕ) → All (λ (stop : Stop). SaysItsScopes free stop.node stop.around) (stops 0 before) → All (λ (stop : Stop). SaysItsScopes free stop.node stop.around) (stops 0 after)
  scopes-more free h = shut-all (Says free) (λ stop shut. shut-says stop shut free) (module-says free) h

  -- ---- contexts of its own

  abbrev One : Stop → Type 0
  One stop = (c d : ℕ) → has_context c (contexts_there stop.node stop.around) ≡ true → has_context d (contexts_there stop.node stop.around) ≡ true → c ≡ d

  one-more : All One (stops 0 before) → All One (stops 0 after)
  one-more h =
      shut-all One shut-one (λ one c d h g. one c d (sym (ap (has_context c) same-contexts) ∙ h) (sym (ap (has_context d) same-contexts) ∙ g)) h

  empties-apart : (ys : List Stop) → All IsShutStop ys → AreApart (map own_contexts ys)
  empties-apart [] h = tt
  empties-apart (y ∷ ys) h =
      (λ ctxt has. no (sym (ap (has_context ctxt) (no-contexts y (All-head IsShutStop y ys h))) ∙ has), empties-apart ys (All-tail IsShutStop y ys h))

  lacks-all : (ctxt : ℕ) (ys : List Stop) → All IsShutStop ys → All (λ other. has_context ctxt other ≡ false) (map own_contexts ys)
  lacks-all ctxt [] h = All-nil (λ other. has_context ctxt other ≡ false)
  lacks-all ctxt (y ∷ ys) h =
      All-cons (λ other. has_context ctxt other ≡ false) (own_contexts y) (map own_contexts ys) (ap (has_context ctxt) (no-contexts y (All-head IsShutStop y ys h)))
      (lacks-all ctxt ys (All-tail IsShutStop y ys h))

  apart-append : (xs : List (List ℕ)) (ys : List Stop) → AreApart xs → All IsShutStop ys → AreApart (xs ++ map own_contexts ys)
  apart-append [] ys apart shut = empties-apart ys shut
  apart-append (x ∷ xs) ys apart shut =
      (λ ctxt has. All-append (λ other. has_context ctxt other ≡ false) xs (map own_contexts ys) (apart.0 ctxt has) (lacks-all ctxt ys shut), apart-append xs ys apart.1 shut)

  apart-more : AreApart (map own_contexts (stops 0 before)) → AreApart (map own_contexts (stops 0 after))
  apart-more h =
      let shape = stops-after span shebang at empty_export export-ids ns in
      let a = around_list in
      let new = stops_at empty_export (in_list at a shape.1) shape.0 in
      let items = item_stops at a ns in
      let lists : own_contexts (list_stop at a (with_export ns)) ≡ own_contexts (list_stop at a ns) =
      no-contexts (list_stop at a (with_export ns)) (list-stop-shut at a (with_export ns)) ∙ sym (no-contexts (list_stop at a ns) (list-stop-shut at a ns)) in
      let all : map own_contexts (stops 0 after) ≡ map own_contexts (whole_stop span shebang at ns ∷ (list_stop at a ns ∷ items)) ++ map own_contexts new =
      ap (map own_contexts) shape.2 ∙ (λ j. same-contexts j ∷ (lists j ∷ map-append own_contexts items new j)) in
      subst AreApart (sym all)
      (apart-append (map own_contexts (whole_stop span shebang at ns ∷ (list_stop at a ns ∷ items))) new
      (subst (λ z. AreApart (map own_contexts z)) (stops-before span shebang at empty_export export-ids ns) h) (export-shut (in_list at a shape.1) shape.0))

  pub contexts-more : HasOwnContexts before → HasOwnContexts after
  contexts-more own = record { one = one-more own.one; apart = apart-more own.apart }

pub marked_trees_have_own_contexts : MarkedTreesHaveOwnContexts
marked_trees_have_own_contexts no_empty_export was_module tree h own =
    where-it-may-come HasOwnContexts no_empty_export was_module tree h (λ span shebang at ns are before. contexts-more span shebang at ns before) own
