-- No id that a ready tree declares when it runs has the context of free names.
use Rattle.std.proofs.Common.{◌≡◌, refl, sym, ap, ◌∙◌, subst, ℕ, suc, List, [], ◌∷◌, Some, Bool, true, false, not, ◌==◌, nat_eq, bytes_eq, eq-eqb, slice_get, get_or}
use Rattle.std.specs.List.{All, list_all}
use Rattle.std.proofs.lemmas.Bool.{eqb-true}
use Rattle.std.proofs.lemmas.Slice.Eq.{bytes_eq-Decides}
use Rattle.ecma_kind.specs.Sorts.{belongs}
use Rattle.ecma_kind.specs.declared.kind.Kind.{Kind}
use Rattle.ecma_kind.specs.declared.kind.Kind.TheVariants as kind
use Rattle.ecma_kind.specs.declared.shapes.Sort.TheVariants as sort
use Rattle.ecma_tree.specs.declared.node.Node.{Node, out-Node}
use Rattle.ecma_tree.specs.Sorted.{one}
use Rattle.ecma_fits.specs.Fitting.{at_top}
use Rattle.ecma_fits.proofs.Clauses.{none_unfit}
use Rattle.ecma_forest.proofs.Induction.{by_children}
use Rattle.ecma_scope.specs.declared.role.Role.TheVariants as role
use Rattle.ecma_hygiene.specs.Ids.{has_context}
use Rattle.ecma_hygiene.specs.Sights.{nowhere}
use Rattle.ecma_hygiene.proofs.Telling.{and-both, or-first, or-right, true-false}
use Rattle.ecma_hygiene_scopes.specs.Apart.{own_contexts}
use Rattle.ecma_hygiene_scopes.specs.Stops.{stops}
use Rattle.ecma_ready.specs.Ready.{IsReady}
use Rattle.ecma_runs.specs.State.{Id, same_id}
use Rattle.ecma_runs.specs.Environment.{is_among}
use Rattle.ecma_runs.specs.Evaluation.{meaning}
use Rattle.ecma_runs.proofs.Layer.{meaning_out}
use Rattle.ecma_lower_names.specs.Laws.{ScopesDeclareWhatRunsDeclare}
use Rattle.ecma_lower_names.proofs.Frame.{Held, NoFree, Silent, layer}
use Rattle.ecma_lower_names.proofs.Layers.{silent-by}
use Rattle.ecma_lower_names.proofs.Needs.{Needs}
use Rattle.ecma_lower_names.proofs.Parts.{Each}
use Rattle.ecma_lower_names.proofs.Valueless.{shape_out}

module _ (id : Id) where
  each-held : (cs : List Node) (i : ℕ) → ((j : ℕ) (c : Node) → slice_get cs j ≡ Some c → Held id c) → Each (λ j c. Held id c) i cs
  each-held [] i h = tt
  each-held (c ∷ cs) i h = (h 0 c refl, each-held cs (suc i) (λ j d at. h (suc j) d at))

  held : (n : Node) → Held id n
  held = by_children (Held id) (λ n below shape w s is needs.
      subst (Silent id) (sym (meaning_out n)) (silent-by id s.role shape n (out-Node n).kind (out-Node n).children (layer id shape w s n is needs (each-held (out-Node n).children 0 below))))

  module-needs : (k : Kind) (n : Node) → belongs sort.Module k ≡ true → Needs id role.Root sort.Module k n
  module-needs (kind.Module shebang) n b = tt
  module-needs _ n b = absurd (true-false b refl)

  module _ (free : ℕ) (tree : Node) (is : IsReady false free tree) (same : id.ctxt ≡ free) where
    none-free : All (NoFree id) (stops 0 tree)
    none-free = λ k d lt. ap (λ c. has_context c (own_contexts (get_or (stops 0 tree) k d))) same ∙ (is.scopes k d lt).not_free

    not-among : is_among id (meaning tree).declared ≡ false
    not-among =
        (held tree (one sort.Module) at_top nowhere
        (record { has = is.fits.sorted; placed = none_unfit tree is.fits; stops = (0, none-free); around = refl; calm = refl; seat = λ e. absurd (true-false e refl); alone = is.types })
        (module-needs (out-Node tree).kind tree (shape_out (one sort.Module) tree is.fits.sorted).0)).0

-- ids of which none is one in this context
itself : (id : Id) → same_id id id ≡ true
itself id = and-both (bytes_eq id.sym id.sym) (nat_eq id.ctxt id.ctxt) ((bytes_eq-Decides id.sym id.sym).1 refl) (eq-eqb id.ctxt id.ctxt refl)

no-test : (b : Bool) → (b ≡ true → ⊥) → not b ≡ true
no-test true h = absurd (h refl)
no-test false h = refl

none-has : (free : ℕ) (ids : List Id) → ((id : Id) → id.ctxt ≡ free → is_among id ids ≡ false) → list_all (λ (id : Id). not (id.ctxt == free)) ids ≡ true
none-has free [] h = refl
none-has free (x ∷ xs) h =
    and-both (not (x.ctxt == free)) (list_all (λ (id : Id). not (id.ctxt == free)) xs)
    (no-test (x.ctxt == free) (λ e. true-false (or-first (same_id x x) (is_among x xs) (itself x)) (h x (eqb-true x.ctxt free e))))
    (none-has free xs (λ id e. or-right (same_id x id) (is_among id xs) (h id e)))

pub scopes_declare_what_runs_declare : ScopesDeclareWhatRunsDeclare
scopes_declare_what_runs_declare free tree is = none-has free (meaning tree).declared (λ id same. not-among id free tree is same)
