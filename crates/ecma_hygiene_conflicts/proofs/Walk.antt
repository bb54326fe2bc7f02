-- A walk over a tree and that with its final texts: in no scope something is declared again.
use Rattle.std.proofs.Common.{◌≡◌, ℕ, suc, ◌-◌, Bool, true, List, [], ◌∷◌, ◌++◌, map, Option, None, refl, sym, ap, ◌∙◌, subst}
use Rattle.std.specs.List.{All, list_any}
use Rattle.std.proofs.lemmas.List.Folds.{list_any-append}
use Rattle.ecma_kind.specs.declared.kind.Kind.{Kind}
use Rattle.ecma_kind.specs.declared.span.Span.{Span}
use Rattle.ecma_tree.specs.declared.node.Node.{Node, Node-F, ind-Node, out-Node, roll-Node}
use Rattle.ecma_tree.specs.declared.node.Node.TheViews.{out-roll-Node}
use Rattle.ecma_scope.specs.declared.role.Role.{Role}
use Rattle.ecma_scope.specs.declared.role.Role.TheVariants as role
use Rattle.ecma_scope.specs.Conflicts.{Surrounding, clashes_in, has_parameters, own_clashes, redeclared, redeclared_at, surrounds}
use Rattle.ecma_scope.specs.Laws.{without_contexts}
use Rattle.ecma_scope.specs.Resolved.{context_count, taken}
use Rattle.ecma_scope.proofs.Clashing.{redeclared_at-out}
use Rattle.ecma_hygiene.specs.declared.naming.Named.{Named}
use Rattle.ecma_hygiene.specs.declared.sight.Meeting.{Meeting}
use Rattle.ecma_hygiene.specs.declared.sight.Sight.{Sight}
use Rattle.ecma_hygiene.specs.declared.spot.Spot.{Spot}
use Rattle.ecma_hygiene.specs.declared.spot.Spot.TheVariants as spot
use Rattle.ecma_hygiene.specs.declared.spot.Standing.{Standing}
use Rattle.ecma_hygiene.specs.Ids.{innermost}
use Rattle.ecma_hygiene.specs.Renamed.{Texts, spot_in}
use Rattle.ecma_hygiene.specs.Sights.{Around, around_child, meetings, nowhere, sight_here, sights, sights_at}
use Rattle.ecma_hygiene.specs.Texts.{AreTexts, text_in}
use Rattle.ecma_hygiene.specs.Walks.{gathered_from}
use Rattle.ecma_hygiene.proofs.Telling.{or-first, or-second, true-false}
use Rattle.ecma_hygiene.proofs.Walking.{gathered-out}
use Rattle.ecma_hygiene_scopes.specs.Apart.{IsScoped}
use Rattle.ecma_hygiene_scopes.specs.Stops.{Stop, stops_at, stops_from}
use Rattle.ecma_hygiene_scopes.proofs.Stopping.{All-first, All-second, stop-here, stops-below}
use Rattle.ecma_hygiene_scopes.proofs.Written.{again, again-out, all_again, children_again, old_of, own_kind}
use Rattle.ecma_strip_conflicts.proofs.Quiet.{first-none, second-none}
use Rattle.ecma_hygiene_conflicts.specs.Laws.{FinalTextsAreNotRedeclared}
use Rattle.ecma_hygiene_conflicts.specs.Merging.{MergesAsOne}
use Rattle.ecma_hygiene_conflicts.proofs.Scope.{Sound, empty, own-clear, sound-below, states_after, states_before, surrounds-plain}
use Rattle.ecma_hygiene_conflicts.proofs.Written.{grown-clear}

module _ (seen : List Sight) (met : List Meeting) (names : List Named) (are : AreTexts seen met names) (free : ℕ) where
  abbrev texts : Texts
  texts = text_in names

  abbrev stand : Role → Spot → Standing
  stand r at = record { role = r; spot = at }

  abbrev States : Type 0
  States = List ℕ → Option Bool

  abbrev place : Role → States → Surrounding
  place r states = record { role = r; around = states }

  abbrev IsHeld : Stop → Type 0
  IsHeld stop = IsScoped free stop × MergesAsOne stop

  abbrev Within : List Sight → Type 0
  Within xs = (f : Sight → Bool) → list_any f xs ≡ true → list_any f seen ≡ true

  abbrev Walks : Node → Type 0
  Walks n = (s : Around) (at : Spot) (left : ℕ) (before after : States) → All IsHeld (stops_at n s left) → Within (sights_at n s) → Sound seen met names are s.role before after (innermost s.scopes)
      → redeclared_at n (place s.role before) ≡ [] → redeclared_at (again empty texts n (stand s.role at)) (place s.role after) ≡ []

  abbrev AllWalk : List Node → Type 0
  AllWalk ns = (around : ℕ → Around) (spots : ℕ → Spot) (before after : ℕ → States) (i left : ℕ) → All IsHeld (stops_from around i ns (map stops_at ns) left) → Within (gathered_from Around Sight around i (map sights_at ns))
      → ((j : ℕ) → Sound seen met names are (around j).role (before j) (after j) (innermost (around j).scopes))
      → clashes_in (λ j. place (around j).role (before j)) i (map redeclared_at ns) ≡ []
      → clashes_in (λ j. place (around j).role (after j)) i (map redeclared_at (all_again empty texts (λ j. stand (around j).role (spots j)) i ns)) ≡ []

  all-walk : (ns : List ((n : Node) × Walks n)) → AllWalk (map (λ e. e.0) ns)
  all-walk [] around spots before after i left scoped within sound clear = refl
  all-walk (n ∷ ns) around spots before after i left scoped within sound clear =
      let others : List Node = map (λ e. e.0) ns in
      let less : ℕ = left - context_count n.0 (around i).role in
      let stops : List Stop = stops_from around (suc i) others (map stops_at others) less in
      let rest : List Sight = gathered_from Around Sight around (suc i) (map sights_at others) in
      let here : List Sight = sights_at n.0 (around i) in
      let first : List (List ℕ) = redeclared_at n.0 (place (around i).role (before i)) in
      let later : List (List ℕ) = clashes_in (λ j. place (around j).role (before j)) (suc i) (map redeclared_at others) in
      (λ j. n.1 (around i) (spots i) left (before i) (after i) (All-first IsHeld (stops_at n.0 (around i) left) stops scoped)
      (λ f h. within f (list_any-append f here rest ∙ or-first (list_any f here) (list_any f rest) h)) (sound i) (first-none first later clear) j
      ++ all-walk ns around spots before after (suc i) less (All-second IsHeld (stops_at n.0 (around i) left) stops scoped)
      (λ f h. within f (list_any-append f here rest ∙ or-second (list_any f here) (list_any f rest) h)) sound (second-none first later clear) j)

  layer-walks : (n : Node) → AllWalk (out-Node n).children → Walks n
  layer-walks n children s at left before after scoped within sound clear =
      let stands : Standing = stand s.role at in
      let t : Surrounding = place s.role before in
      let here : List Sight = sight_here s n in
      let rest : List Sight = gathered_from Around Sight (around_child s n) 0 (map sights_at (out-Node n).children) in
      let mine : IsHeld (record { node = n; around = s; left = left }) = stop-here IsHeld n s left scoped in
      let parts : own_clashes t n ++ clashes_in (surrounds t n) 0 (map redeclared_at (out-Node n).children) ≡ [] = sym (redeclared_at-out n t) ∙ clear in
      let span : Span = (out-Node n).span in
      let k : Kind = own_kind empty texts n stands in
      let cs : List Node = children_again empty texts n stands in
      let inner = children (around_child s n) (λ i. spot_in at (out-Node n).kind i) (states_before seen met names are free n s at left before after) (states_after seen met names are free n s at left before after) 0 (left - taken s.role n)
      (stops-below IsHeld n s left scoped)
      (λ f h. within f (ap (list_any f) (gathered-out Around Sight sight_here around_child n s) ∙ list_any-append f here rest ∙ or-second (list_any f here) (list_any f rest) h))
      (sound-below seen met names are free n s at left before after mine.0 mine.1 within sound)
      (second-none (own_clashes t n) (clashes_in (surrounds t n) 0 (map redeclared_at (out-Node n).children)) parts) in
      ap (λ (z : Node). redeclared_at z (place s.role after)) (again-out empty texts (λ text. refl) n stands)
      ∙ grown-clear (place s.role after) (old_of empty texts n stands) span k cs
      (own-clear seen met names are free n s at left before after mine.0 mine.1 within sound (first-none (own_clashes t n) (clashes_in (surrounds t n) 0 (map redeclared_at (out-Node n).children)) parts))
      ((λ j. clashes_in (λ i. surrounds-plain seen met names are free n s at left before after i j) 0 (map redeclared_at cs)) ∙ inner)

  pub walks : (n : Node) → Walks n
  walks = ind-Node Walks (λ x y is.
      layer-walks (roll-Node x) (subst AllWalk (ap (λ (z : Node-F Node). z.children) is ∙ sym (ap (λ (z : Node-F Node). z.children) (out-roll-Node x))) (all-walk y.children)))

root-sound : (seen : List Sight) (met : List Meeting) (names : List Named) (are : AreTexts seen met names) → Sound seen met names are role.Root (λ text. None) (λ text. None) (innermost [])
root-sound seen met names are = record {
  written = λ is. absurd (no-body is);
  bound = λ x h. absurd (true-false h refl);
}
  where
    no-body : has_parameters role.Root ≡ true → ⊥
    no-body h = cc

pub final-not-redeclared : FinalTextsAreNotRedeclared
final-not-redeclared free left tree final scoped merging hygienic clear =
    let names : List Named = hygienic.names in
    let are : AreTexts (sights tree) (meetings tree) names = hygienic.texts in
    ap (λ (z : Node). redeclared (without_contexts z)) hygienic.is
    ∙ walks (sights tree) (meetings tree) names are free tree nowhere spot.Elsewhere left (λ text. None) (λ text. None) (λ i d lt. (scoped i d lt, merging i d lt)) (λ f h. h) (root-sound (sights tree) (meetings tree) names are) clear
