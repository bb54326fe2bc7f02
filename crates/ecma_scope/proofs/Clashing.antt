-- The equations of what merges, what clashes, and what is declared again, one by one.
use Rattle.std.proofs.Common.{◌≡◌, ℕ, ◌+◌, Bool, true, false, ◌&&◌, cond, if◌then◌else◌, List, [], ◌∷◌, ◌++◌, map, take, drop, length, Option, Some, refl, sym, ap, ◌∙◌, slice_get, set, add-one}
use Rattle.std.specs.Option.{option_map}
use Rattle.std.proofs.lemmas.List.{map-append}
use Rattle.ecma_tree.specs.declared.node.Node.{Node, out-Node}
use Rattle.ecma_tree.proofs.Items.{drop-item, take-item}
use Rattle.ecma_tree.proofs.Layers.{from_leaves_out}
use Rattle.ecma_scope.specs.declared.clash.Clash.{Clash}
use Rattle.ecma_scope.specs.declared.form.Declaration.{Declaration}
use Rattle.ecma_scope.specs.declared.form.Located.{Located}
use Rattle.ecma_scope.specs.declared.role.Role.{Role}
use Rattle.ecma_scope.specs.Scopes.{covers, opens, role_in}
use Rattle.ecma_scope.specs.Declarations.{names, stated}
use Rattle.ecma_scope.specs.declared.index.Index.{Index}
use Rattle.ecma_scope.specs.Indexed.{states_of}
use Rattle.ecma_scope.specs.Conflicts.{Surrounding, child_surrounding, clash_step, clashes_in, mark, own_clashes, redeclared_at, surrounding, surrounds}
use Rattle.ecma_scope.specs.Located.{declaration_of, declarations_of, located_marked, located_meeting}
use Rattle.ecma_scope.specs.Meetings.{least}
use Rattle.ecma_scope.specs.Clashes.{clash_at, clash_offsets, clashes_among, clashes_at, clashes_below, clashes_step, first_clash, scope_clashes, sooner}
use Rattle.ecma_scope.proofs.Offsets.{first-append, first-named}
use Rattle.ecma_scope.proofs.Resolving.{append-none, append-one, drop-none, drop-set, take-set, take-whole}

-- the first i are marked, and the others still to be
abbrev pub mark_from : List Located → ℕ → List Located
mark_from ls i = take i ls ++ located_marked (declarations_of (take i ls)) (drop i ls)

pub mark_from-next : (ls : List Located) (i : ℕ) (l m : Located) → slice_get ls i ≡ Some l → m ≡ record l { declaration = mark (declarations_of (take i ls)) l.declaration }
    → mark_from (set ls i m) (i + 1) ≡ mark_from ls i
mark_from-next ls i l m at is =
    (λ j. take-set ls i l m at j ++ located_marked (declarations_of (take-set ls i l m at j)) (drop-set ls i m j))
    ∙ append-one (take i ls) m (located_marked (declarations_of (take i ls ++ m ∷ [])) (drop (i + 1) ls))
    ∙ ap (λ (ds : List Declaration). take i ls ++ m ∷ located_marked ds (drop (i + 1) ls)) (map-append declaration_of (take i ls) (m ∷ []))
    ∙ ap (λ (z : Located). take i ls ++ z ∷ located_marked (declarations_of (take i ls) ++ z.declaration ∷ []) (drop (i + 1) ls)) is
    ∙ ap (λ (z : List Located). take i ls ++ located_marked (declarations_of (take i ls)) z) (sym (drop-item ls i l at))

pub mark_from-all : (ls : List Located) (i : ℕ) → length ls ≡ i → mark_from ls i ≡ ls
mark_from-all ls i all =
    let none = drop-none ls i all in
    ap (λ (z : List Located). take i ls ++ located_marked (declarations_of (take i ls)) z) none ∙ append-none (take i ls) ∙ take-whole ls i none

module _ (r : Role) (around : List ℕ → Option Bool) (ls : List Located) where
  -- the clashes of those from the one at i on
  abbrev pub among_from : ℕ → List Clash
  among_from i = clashes_among r around (take i ls) (drop i ls)

  among_from-next : (i : ℕ) (l : Located) → slice_get ls i ≡ Some l → among_from i ≡ map (clash_at l.declaration.sym) (clash_offsets r around (take i ls) l) ++ among_from (i + 1)
  among_from-next i l at =
      ap (clashes_among r around (take i ls)) (drop-item ls i l at)
      ∙ ap (λ (z : List Located). map (clash_at l.declaration.sym) (clash_offsets r around (take i ls) l) ++ clashes_among r around z (drop (i + 1) ls)) (sym (take-item ls i l at))

  -- with the first of those before it and of its own, the first of the others is left
  pub first_among-next : (i : ℕ) (l : Located) (own : Option Clash) → slice_get ls i ≡ Some l → own ≡ option_map (clash_at l.declaration.sym) (least (clash_offsets r around (take i ls) l))
      → first_clash (among_from i) ≡ sooner own (first_clash (among_from (i + 1)))
  first_among-next i l own at is =
      ap first_clash (among_from-next i l at)
      ∙ first-append (map (clash_at l.declaration.sym) (clash_offsets r around (take i ls) l)) (among_from (i + 1))
      ∙ ap (λ (c : Option Clash). sooner c (first_clash (among_from (i + 1)))) (first-named l.declaration.sym (clash_offsets r around (take i ls) l) ∙ sym is)

  pub among_from-all : (i : ℕ) → length ls ≡ i → among_from i ≡ []
  among_from-all i all = ap (clashes_among r around (take i ls)) (drop-none ls i all)

module _ (surroundings : ℕ → Surrounding) (nodes : List Node) where
  -- the clashes in the children from the one at i on
  abbrev pub clashes_from : ℕ → List Clash
  clashes_from i = clashes_below surroundings i (map clashes_at (drop i nodes))

  clashes_from-next : (i : ℕ) (x : Node) → slice_get nodes i ≡ Some x → clashes_from i ≡ clashes_at x (surroundings i) ++ clashes_from (i + 1)
  clashes_from-next i x at = rw (add-one, drop-item nodes i x at, add-one) refl

  pub first_from-next : (i : ℕ) (x : Node) (own : Option Clash) → slice_get nodes i ≡ Some x → own ≡ first_clash (clashes_at x (surroundings i))
      → first_clash (clashes_from i) ≡ sooner own (first_clash (clashes_from (i + 1)))
  first_from-next i x own at is =
      ap first_clash (clashes_from-next i x at)
      ∙ first-append (clashes_at x (surroundings i)) (clashes_from (i + 1))
      ∙ ap (λ (c : Option Clash). sooner c (first_clash (clashes_from (i + 1)))) (sym is)

  pub clashes_from-all : (i : ℕ) → length nodes ≡ i → clashes_from i ≡ []
  clashes_from-all i all = ap (λ (z : List Node). clashes_below surroundings i (map clashes_at z)) (drop-none nodes i all)

pub redeclared_at-out : (n : Node) (s : Surrounding) → redeclared_at n s ≡ own_clashes s n ++ clashes_in (surrounds s n) 0 (map redeclared_at (out-Node n).children)
redeclared_at-out n s = ap (λ f. f s) (from_leaves_out (Surrounding → List (List ℕ)) clash_step n)

pub clashes_at-out : (n : Node) (s : Surrounding) → clashes_at n s ≡ scope_clashes s n ++ clashes_below (surrounds s n) 0 (map clashes_at (out-Node n).children)
clashes_at-out n s = ap (λ f. f s) (from_leaves_out (Surrounding → List Clash) clashes_step n)

states_of-chosen : (b : Bool) (own around : Index) (states : List ℕ → Option Bool) → ((text : List ℕ) → states_of own text ≡ states text) → states_of (cond b own around) ≡ cond b states (states_of around)
states_of-chosen true own around states is = (λ j text. is text j)
states_of-chosen false own around states is = (λ j text. states_of around text)

-- what stands around the children of a node that opens no scope
abbrev pub plain_surrounding : Role → Index → Node → ℕ → Surrounding
plain_surrounding r around n i = surrounding (role_in r n i) around

-- the clashes in a node that opens no scope, and in one that does
pub clashes_at-plain : (n : Node) (r : Role) (around : Index) → opens r n ≡ false
    → clashes_at n (surrounding r around) ≡ clashes_below (plain_surrounding r around n) 0 (map clashes_at (out-Node n).children)
clashes_at-plain n r around closed =
    clashes_at-out n (surrounding r around)
    ∙ (λ j. (if closed j then clashes_among r (states_of around) [] (located_meeting r (states_of around) n) else [])
    ++ clashes_below (λ i. record { role = role_in r n i; around = cond (closed j && covers r (out-Node n).kind i) (stated (names r (states_of around) n)) (states_of around) }) 0 (map clashes_at (out-Node n).children))

pub clashes_at-opens : (n : Node) (r : Role) (own around : Index) → opens r n ≡ true → ((text : List ℕ) → states_of own text ≡ stated (names r (states_of around) n) text)
    → clashes_at n (surrounding r around) ≡ clashes_among r (states_of around) [] (located_meeting r (states_of around) n) ++ clashes_below (child_surrounding r own around n) 0 (map clashes_at (out-Node n).children)
clashes_at-opens n r own around opened is =
    clashes_at-out n (surrounding r around)
    ∙ (λ j. (if opened j then clashes_among r (states_of around) [] (located_meeting r (states_of around) n) else [])
    ++ clashes_below (λ i. record { role = role_in r n i; around = cond (opened j && covers r (out-Node n).kind i) (stated (names r (states_of around) n)) (states_of around) }) 0 (map clashes_at (out-Node n).children))
    ∙ (λ j. clashes_among r (states_of around) [] (located_meeting r (states_of around) n)
    ++ clashes_below (λ i. record { role = role_in r n i; around = sym (states_of-chosen (covers r (out-Node n).kind i) own around (stated (names r (states_of around) n)) is) j }) 0 (map clashes_at (out-Node n).children))
