-- No text is listed for `export {}`: what a module exports, and which names are free in it, stays.
use Rattle.std.proofs.Common.{◌≡◌, ◌∙◌, ℕ, suc, Bool, true, false, ◌&&◌, not, cond, refl, sym, ap, ap₂, List, [], ◌∷◌, ◌++◌, append-nil, flat_map, map, Option, Some, None, slice_get}
use Rattle.std.proofs.lemmas.Grind.{flat_map-append}
use Rattle.ecma_kind.specs.declared.kind.Kind.{Kind}
use Rattle.ecma_kind.specs.declared.kind.Kind.TheVariants as kind
use Rattle.ecma_kind.specs.declared.span.Span.{Span}
use Rattle.ecma_tree.specs.Nodes.{absent, dummy_span, list_node, node_of}
use Rattle.ecma_tree.specs.Sorted.{is_list}
use Rattle.ecma_tree.specs.declared.node.Node.{Node}
use Rattle.ecma_tree.proofs.Layers.{from_leaves-roll}
use Rattle.ecma_rules.specs.Children.{child_holds, has_child, holds_of, kind_of}
use Rattle.ecma_strip.specs.Staying.{stays}
use Rattle.ecma_walks.specs.Listing.{listed_from, listed_within, listing_step}
use Rattle.ecma_lower.specs.Marking.{empty_export}
use Rattle.ecma_exports.specs.declared.place.Place.{Place}
use Rattle.ecma_exports.specs.declared.place.Place.TheVariants as place
use Rattle.ecma_exports.specs.Exports.{first_among, first_captured}
use Rattle.ecma_exports.specs.Places.{free_text, in_declarations, in_exported, in_lists, in_names, in_specifiers, into, place_in, text_of, texts_by, texts_here, texts_in}
use Rattle.ecma_marks.specs.Laws.{MarkedTreesCaptureAlike}
use Rattle.ecma_marks.proofs.Adding.{where-it-may-come}
use Rattle.ecma_marks.proofs.Export.{absent-kind, export-kind, is_still, none-kind, parts}
use Rattle.ecma_marks.proofs.Modules.{children-of, kind-of, list_at, module_at, no}

-- ---- what is no identifier has no text

no-text : (k : Kind) → is_still k ≡ true → text_of k ≡ []
no-text (kind.Ident sym ctxt optional) h = no h
no-text _ h = refl

no-free-text : (free : ℕ) (k : Kind) → is_still k ≡ true → free_text free k ≡ []
no-free-text free (kind.Ident sym ctxt optional) h = no h
no-free-text free _ h = refl

no-texts : (p : Place) (free : ℕ) (k : Kind) → is_still k ≡ true → texts_by p free k ≡ []
no-texts place.Names free k h = no-text k h
no-texts place.Local free k h = no-free-text free k h
no-texts place.Anywhere free k h = no-free-text free k h
no-texts _ free k h = refl

-- ---- lists of texts

within-none : (o : Option Place) (child : Place → List (List ℕ)) → ((p : Place) → child p ≡ []) → listed_within Place (List ℕ) o child ≡ []
within-none None child h = refl
within-none (Some p) child h = h p

within-same : (o : Option Place) (child other : Place → List (List ℕ)) → ((p : Place) → child p ≡ other p) → listed_within Place (List ℕ) o child ≡ listed_within Place (List ℕ) o other
within-same None child other h = refl
within-same (Some p) child other h = h p

shifted : (around : ℕ → Option Place) (i : ℕ) (cs : List (Place → List (List ℕ))) → listed_from Place (List ℕ) around (suc i) cs ≡ listed_from Place (List ℕ) (λ j. around (suc j)) i cs
shifted around i [] = refl
shifted around i (c ∷ cs) = ap (λ z. listed_within Place (List ℕ) (around (suc i)) c ++ z) (shifted around (suc i) cs)

-- a module and its list say where what stands in them does, whatever that is
in-module : (p : Place) (shebang : Option (List ℕ)) (sourced : Bool) → into p (kind.Module shebang) sourced 0 ≡ into p (kind.Module shebang) false 0
unfolding in_lists
in-module place.Lists shebang sourced = refl
in-module _ shebang sourced = refl

in-list : (p : Place) (sourced : Bool) (i : ℕ) → into p kind.List sourced i ≡ into p kind.List false 0
unfolding in_declarations in_exported in_names in_lists in_specifiers
in-list place.Declarations sourced i = refl
in-list place.Exported sourced i = refl
in-list place.Names sourced i = refl
in-list place.Lists sourced i = refl
in-list place.Specifiers sourced i = refl
in-list place.Local sourced i = refl
in-list place.Anywhere sourced i = refl

module _ (free : ℕ) where
  abbrev texts : Node → Place → List (List ℕ)
  texts n p = texts_in free n p

  texts-roll : (span : Span) (k : Kind) (cs : List Node) (p : Place)
      → texts (node_of span k cs) p ≡ texts_here free p (node_of span k cs) ++ listed_from Place (List ℕ) (place_in p (node_of span k cs)) 0 (map texts cs)
  texts-roll span k cs p = ap (λ f. f p) (from_leaves-roll (Place → List (List ℕ)) (listing_step Place (List ℕ) place_in (texts_here free)) (record { span = span; kind = k; children = cs }))

  none-here : (p : Place) (n : Node) (k : Kind) → kind_of n ≡ k → is_still k ≡ true → texts_here free p n ≡ []
  none-here p n k e h = ap (texts_by p free) e ∙ no-texts p free k h

  list-texts : (p : Place) → texts (list_node []) p ≡ []
  list-texts p = texts-roll dummy_span kind.List [] p ∙ ap (λ (z : List (List ℕ)). z ++ []) (none-here p (list_node []) kind.List none-kind refl)

  absent-texts : (p : Place) → texts absent p ≡ []
  absent-texts p = texts-roll dummy_span kind.Absent [] p ∙ ap (λ (z : List (List ℕ)). z ++ []) (none-here p absent kind.Absent absent-kind refl)

  export-texts : (p : Place) → texts empty_export p ≡ []
  export-texts p =
      texts-roll dummy_span (kind.NamedExport false) parts p
      ∙ (λ j.
      none-here p empty_export (kind.NamedExport false) export-kind refl j
      ++ (within-none (place_in p empty_export 0) (texts (list_node [])) list-texts j
      ++ (within-none (place_in p empty_export 1) (texts absent) absent-texts j ++ (within-none (place_in p empty_export 2) (texts absent) absent-texts j ++ []))))

  -- ---- a module

  abbrev goes : Node → Bool
  goes n = not (stays n)

  abbrev entered : Option Place → Node → List (List ℕ)
  entered o n = cond (goes n) [] (listed_within Place (List ℕ) o (texts n))

  enters : (b : Bool) (o : Option Place) (n : Node) → listed_within Place (List ℕ) (cond b None o) (texts n) ≡ cond b [] (listed_within Place (List ℕ) o (texts n))
  enters true o n = refl
  enters false o n = refl

  items-texts : (o : Option Place) (around : ℕ → Option Place) (ms : List Node) → ((j : ℕ) → around j ≡ cond (holds_of goes (slice_get ms j)) None o)
      → listed_from Place (List ℕ) around 0 (map texts ms) ≡ flat_map (entered o) ms
  items-texts o around [] h = refl
  items-texts o around (m ∷ ms) h =
      ap₂ (λ (a b : List (List ℕ)). a ++ b) (ap (λ z. listed_within Place (List ℕ) z (texts m)) (h 0) ∙ enters (goes m) o m)
      (shifted around 0 (map texts ms) ∙ items-texts o (λ j. around (suc j)) ms (λ j. h (suc j)))

  module _ (span : Span) (shebang : Option (List ℕ)) (at : Span) where
    module-texts : (p : Place) (ms : List Node)
        → texts (module_at span shebang at ms) p ≡ listed_within Place (List ℕ) (into p (kind.Module shebang) false 0) (texts (list_at at ms)) ++ []
    module-texts p ms =
        let n = module_at span shebang at ms in
        let is = kind-of span (kind.Module shebang) (list_at at ms ∷ []) in
        texts-roll span (kind.Module shebang) (list_at at ms ∷ []) p
        ∙ ap₂ (λ (a : List (List ℕ)) (o : Option Place). a ++ (listed_within Place (List ℕ) o (texts (list_at at ms)) ++ [])) (none-here p n (kind.Module shebang) is refl)
        (ap (λ k. cond (is_list k && child_holds goes n 0) None (into p k (has_child n 1) 0)) is ∙ in-module p shebang (has_child n 1))

    list-at-texts : (p : Place) (ms : List Node) → texts (list_at at ms) p ≡ flat_map (entered (into p kind.List false 0)) ms
    list-at-texts p ms =
        let n = list_at at ms in
        let is = kind-of at kind.List ms in
        texts-roll at kind.List ms p
        ∙ ap (λ (z : List (List ℕ)). z ++ listed_from Place (List ℕ) (place_in p n) 0 (map texts ms)) (none-here p n kind.List is refl)
        ∙ items-texts (into p kind.List false 0) (place_in p n) ms (λ j.
        ap (λ k. cond (is_list k && child_holds goes n j) None (into p k (has_child n 1) j)) is
        ∙ ap₂ (λ (z : List Node) (o : Option Place). cond (holds_of goes (slice_get z j)) None o) (children-of at kind.List ms) (in-list p (has_child n 1) j))

    module _ (e : Node) (none : (p : Place) → texts e p ≡ []) (ns : List Node) where
      list-more : (p : Place) → texts (list_at at (ns ++ e ∷ [])) p ≡ texts (list_at at ns) p
      list-more p =
          let o = into p kind.List false 0 in
          list-at-texts p (ns ++ e ∷ [])
          ∙ flat_map-append (entered o) ns (e ∷ [])
          ∙ ap (λ (z : List (List ℕ)). flat_map (entered o) ns ++ (z ++ [])) (gone (goes e) (listed_within Place (List ℕ) o (texts e)) (within-none o (texts e) none))
          ∙ append-nil (flat_map (entered o) ns)
          ∙ sym (list-at-texts p ns)
        where
          gone : (b : Bool) (z : List (List ℕ)) → z ≡ [] → cond b [] z ≡ []
          gone true z h = refl
          gone false z h = h

      pub texts-more : (p : Place) → texts (module_at span shebang at (ns ++ e ∷ [])) p ≡ texts (module_at span shebang at ns) p
      texts-more p =
          module-texts p (ns ++ e ∷ [])
          ∙ ap (λ (z : List (List ℕ)). z ++ []) (within-same (into p (kind.Module shebang) false 0) (texts (list_at at (ns ++ e ∷ []))) (texts (list_at at ns)) list-more)
          ∙ sym (module-texts p ns)

pub marked_trees_capture_alike : MarkedTreesCaptureAlike
marked_trees_capture_alike no_empty_export was_module free tree h =
    where-it-may-come (λ z. first_captured free z ≡ first_captured free tree) no_empty_export was_module tree h
    (λ span shebang at ns are before.
    (λ j.
    first_among (texts-more free span shebang at empty_export (export-texts free) ns place.Anywhere j) (texts-more free span shebang at empty_export (export-texts free) ns place.Declarations j))
    ∙ before)
    refl
