-- A name is told exactly where one is declared again where it may not be.
use Rattle.std.proofs.Common.{◌≡◌, ℕ, suc, max, Bool, true, false, ◌&&◌, ◌||◌, not, cond, if◌then◌else◌, List, [], ◌∷◌, ◌++◌, map, filter, Option, Some, None, refl, sym, ap, ap₂, ◌∙◌, subst}
use Rattle.std.specs.List.{list_any}
use Rattle.std.specs.Option.{option_map}
use Rattle.std.proofs.lemmas.List.{map-append}
use Rattle.ecma_tree.specs.declared.node.Node.{Node, Node-F, ind-Node, out-Node, roll-Node}
use Rattle.ecma_tree.specs.declared.node.Node.TheViews.{out-roll-Node}
use Rattle.ecma_scope.specs.declared.role.Role.{Role}
use Rattle.ecma_scope.specs.declared.role.Role.TheVariants as role
use Rattle.ecma_scope.specs.declared.clash.Clash.{Clash}
use Rattle.ecma_scope.specs.declared.form.Declaration.{Declaration}
use Rattle.ecma_scope.specs.declared.form.Located.{Located}
use Rattle.ecma_scope.specs.Scopes.{opens}
use Rattle.ecma_scope.specs.Declarations.{is_stated}
use Rattle.ecma_scope.specs.Conflicts.{Surrounding, clashes, clashes_in, clashing, conflict, has_parameters, is_lexical, meeting, nothing, own_clashes, redeclared, redeclared_at, surrounds}
use Rattle.ecma_scope.specs.Located.{declaration_of, declarations_of, located_meeting}
use Rattle.ecma_scope.specs.Clashes.{clash_at, clash_offsets, clashes_among, clashes_at, clashes_below, clashes_of, first_clash, name_of, scope_clashes}
use Rattle.ecma_scope.specs.Laws.{ToldWhereRedeclared}
use Rattle.ecma_scope.proofs.Clashing.{clashes_at-out, redeclared_at-out}
use Rattle.ecma_scope.proofs.Locating.{meeting-alike}
use Rattle.ecma_scope.proofs.Offsets.{first-none}

module _ {X : Type 0} where
  abbrev none : List X → Bool
  none [] = true
  none (x ∷ xs) = false

  none-append : (xs ys : List X) → none (xs ++ ys) ≡ none xs && none ys
  none-append [] ys = refl
  none-append (x ∷ xs) ys = refl

  none-is : (xs : List X) → none xs ≡ true → xs ≡ []
  none-is [] is = refl
  none-is (x ∷ xs) is = cc

none-map : {X Y : Type 0} (f : X → Y) (xs : List X) → none (map f xs) ≡ none xs
none-map f [] = refl
none-map f (x ∷ xs) = refl

-- a filter leaves none where a search finds none
none-cond : (b a : Bool) (l : Located) (ls : List Located) → none ls ≡ not a → none (cond b (l ∷ ls) ls) ≡ not (b || a)
none-cond true a l ls is = refl
none-cond false a l ls is = is

none-filter : (p : Declaration → Bool) (ls : List Located) → none (filter (λ l. p l.declaration) ls) ≡ not (list_any p (declarations_of ls))
none-filter p [] = refl
none-filter p (l ∷ ls) = none-cond (p l.declaration) (list_any p (declarations_of ls)) l (filter (λ e. p e.declaration) ls) (none-filter p ls)

not-or : (a b : Bool) (at : ℕ) → not a && none (if b then at ∷ [] else []) ≡ not (a || b)
not-or true b at = refl
not-or false true at = refl
not-or false false at = refl

none-one : (b : Bool) (text : List ℕ) → not b ≡ none (cond b (text ∷ []) [])
none-one true text = refl
none-one false text = refl

module _ (r : Role) (around : List ℕ → Option Bool) where
  none-offsets : (earlier : List Located) (l : Located) → none (clash_offsets r around earlier l) ≡ not (clashes r around (declarations_of earlier) l.declaration)
  none-offsets earlier l =
      let met : List Located = filter (λ e. conflict r e.declaration l.declaration) earlier in
      let own : Bool = has_parameters r && (is_lexical r l.declaration.form && is_stated (around l.declaration.sym)) in
      none-append (map (λ e. max e.at l.at) met) (if own then l.at ∷ [] else [])
      ∙ ap (λ (b : Bool). b && none (if own then l.at ∷ [] else [])) (none-map (λ (e : Located). max e.at l.at) met ∙ none-filter (λ e. conflict r e l.declaration) earlier)
      ∙ not-or (list_any (λ e. conflict r e l.declaration) (declarations_of earlier)) own l.at

  none-among : (earlier ls : List Located) → none (clashes_among r around earlier ls) ≡ none (clashing r around (declarations_of earlier) (declarations_of ls))
  none-among earlier [] = refl
  none-among earlier (l ∷ ls) =
      let here : Bool = clashes r around (declarations_of earlier) l.declaration in
      none-append (map (clash_at l.declaration.sym) (clash_offsets r around earlier l)) (clashes_among r around (earlier ++ l ∷ []) ls)
      ∙ ap₂ (λ (a b : Bool). a && b)
      (none-map (clash_at l.declaration.sym) (clash_offsets r around earlier l) ∙ none-offsets earlier l ∙ none-one here l.declaration.sym)
      (none-among (earlier ++ l ∷ []) ls ∙ ap (λ (ds : List Declaration). none (clashing r around ds (declarations_of ls))) (map-append declaration_of earlier (l ∷ [])))
      ∙ sym (none-append (cond here (l.declaration.sym ∷ []) []) (clashing r around (declarations_of earlier ++ l.declaration ∷ []) (declarations_of ls)))

  none-scope : (n : Node) → none (scope_clashes (record { role = r; around = around }) n) ≡ none (own_clashes (record { role = r; around = around }) n)
  none-scope n = by (opens r n)
    where
      by : (b : Bool) → none (if b then clashes_among r around [] (located_meeting r around n) else []) ≡ none (cond b (clashing r around [] (meeting r around n)) [])
      by true = none-among [] (located_meeting r around n) ∙ ap (λ (ds : List Declaration). none (clashing r around [] ds)) (meeting-alike r around n)
      by false = refl

abbrev Alike : Node → Type 0
Alike n = (s : Surrounding) → none (clashes_at n s) ≡ none (redeclared_at n s)

children-alike : (surroundings : ℕ → Surrounding) (ns : List ((n : Node) × Alike n)) (i : ℕ)
    → none (clashes_below surroundings i (map clashes_at (map (λ e. e.0) ns))) ≡ none (clashes_in surroundings i (map redeclared_at (map (λ e. e.0) ns)))
children-alike surroundings [] i = refl
children-alike surroundings (n ∷ ns) i =
    none-append (clashes_at n.0 (surroundings i)) (clashes_below surroundings (suc i) (map clashes_at (map (λ e. e.0) ns)))
    ∙ ap₂ (λ (a b : Bool). a && b) (n.1 (surroundings i)) (children-alike surroundings ns (suc i))
    ∙ sym (none-append (redeclared_at n.0 (surroundings i)) (clashes_in surroundings (suc i) (map redeclared_at (map (λ e. e.0) ns))))

alike : (n : Node) → Alike n
alike = ind-Node Alike (λ x y is. λ s.
    (let n = roll-Node x in
    let children = subst (λ (ns : List Node). none (clashes_below (surrounds s n) 0 (map clashes_at ns)) ≡ none (clashes_in (surrounds s n) 0 (map redeclared_at ns)))
    (ap (λ (z : Node-F Node). z.children) is ∙ sym (ap (λ (z : Node-F Node). z.children) (out-roll-Node x))) (children-alike (surrounds s n) y.children 0) in
    ap none (clashes_at-out n s)
    ∙ none-append (scope_clashes s n) (clashes_below (surrounds s n) 0 (map clashes_at (out-Node n).children))
    ∙ ap₂ (λ (a b : Bool). a && b) (none-scope s.role s.around n) children
    ∙ sym (ap none (redeclared_at-out n s) ∙ none-append (own_clashes s n) (clashes_in (surrounds s n) 0 (map redeclared_at (out-Node n).children)))))

named-none : (c : Option Clash) → option_map name_of c ≡ None → c ≡ None
named-none None is = refl
named-none (Some c) is = cc

pub told_where_redeclared : ToldWhereRedeclared
told_where_redeclared tree =
    let root : Surrounding = record { role = role.Root; around = nothing } in (
      (λ untold.
          (let none_there = first-none (clashes_of tree) (named-none (first_clash (clashes_of tree)) untold) in
          none-is (redeclared tree) (sym (alike tree root) ∙ ap none none_there))),
      (λ clear. ap (λ (cs : List Clash). option_map name_of (first_clash cs)) (none-is (clashes_of tree) (alike tree root ∙ ap none clear))),
    )

pub ruleset telling = (told_where_redeclared)
