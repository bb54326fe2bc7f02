-- What is declared in a node stands in it.
use Rattle.std.proofs.Common.{◌≡◌, ℕ, suc, Bool, true, false, List, [], ◌∷◌, ◌++◌, map, Option, Some, None, refl, sym, ap, ◌∙◌, subst}
use Rattle.std.specs.List.{All, list_any}
use Rattle.std.proofs.lemmas.List.Elements.{All-append, All-cons, All-head, All-nil, All-tail}
use Rattle.std.proofs.lemmas.List.Folds.{list_any-append}
use Rattle.ecma_kind.specs.declared.kind.Kind.{Kind}
use Rattle.ecma_kind.specs.declared.kind.Kind.TheVariants as kind
use Rattle.ecma_kind.specs.declared.span.Span.{Span}
use Rattle.ecma_tree.specs.declared.node.Node.{Node, Node-F, ind-Node, out-Node, roll-Node}
use Rattle.ecma_tree.specs.declared.node.Node.TheViews.{out-roll-Node}
use Rattle.ecma_scope.specs.declared.form.Part.{Part}
use Rattle.ecma_scope.specs.declared.form.Part.TheVariants as part
use Rattle.ecma_scope.specs.declared.form.Sought.{Sought}
use Rattle.ecma_scope.specs.Declarations.{sought_in}
use Rattle.ecma_scope.specs.Resolved.{is_name}
use Rattle.ecma_hygiene.specs.declared.sight.Sight.{Sight}
use Rattle.ecma_hygiene.specs.Ids.{declares, is_name_part}
use Rattle.ecma_hygiene.specs.Laws.{is_seen}
use Rattle.ecma_hygiene.specs.Sights.{Around, around_child, sight_by, sight_here, sights_at}
use Rattle.ecma_hygiene.specs.Walks.{gathered_from}
use Rattle.ecma_hygiene.proofs.Roles.{seeks_name, sought-no-name}
use Rattle.ecma_hygiene.proofs.Telling.{id-refl, or-first, or-second, true-false}
use Rattle.ecma_hygiene.proofs.Walking.{gathered-out}
use Rattle.ecma_hygiene_scopes.specs.DeclaredIds.{DeclaredId, id_here, ids_at, ids_declared, ids_in}
use Rattle.ecma_hygiene_scopes.proofs.Directly.{ids-out}

abbrev SeenIn : List Sight → DeclaredId → Type 0
SeenIn xs d = is_seen xs d.id ≡ true

in-first : (xs ys : List Sight) (d : DeclaredId) → SeenIn xs d → SeenIn (xs ++ ys) d
in-first xs ys d h = list_any-append _ xs ys ∙ or-first (is_seen xs d.id) (is_seen ys d.id) h

in-second : (xs ys : List Sight) (d : DeclaredId) → SeenIn ys d → SeenIn (xs ++ ys) d
in-second xs ys d h = list_any-append _ xs ys ∙ or-second (is_seen xs d.id) (is_seen ys d.id) h

all-in-first : (xs ys : List Sight) (ds : List DeclaredId) → All (SeenIn xs) ds → All (SeenIn (xs ++ ys)) ds
all-in-first xs ys [] all = All-nil (SeenIn (xs ++ ys))
all-in-first xs ys (d ∷ ds) all = All-cons (SeenIn (xs ++ ys)) d ds (in-first xs ys d (All-head (SeenIn xs) d ds all)) (all-in-first xs ys ds (All-tail (SeenIn xs) d ds all))

all-in-second : (xs ys : List Sight) (ds : List DeclaredId) → All (SeenIn ys) ds → All (SeenIn (xs ++ ys)) ds
all-in-second xs ys [] all = All-nil (SeenIn (xs ++ ys))
all-in-second xs ys (d ∷ ds) all = All-cons (SeenIn (xs ++ ys)) d ds (in-second xs ys d (All-head (SeenIn ys) d ds all)) (all-in-second xs ys ds (All-tail (SeenIn ys) d ds all))

seen-here : (p : Part) (stays named e : Bool) (span : Span) (k : Kind) → (is_name_part p ≡ true → named ≡ false) → All (SeenIn (sight_by named e span k)) (id_here (record { part = p; stays = stays }) k)
seen-here (part.Name f) stays false e span (kind.Ident s c o) other =
    All-cons (SeenIn (sight_by false e span (kind.Ident s c o))) _ [] (or-first _ false (id-refl (s, c))) (All-nil (SeenIn (sight_by false e span (kind.Ident s c o))))
seen-here (part.Name f) stays true e span (kind.Ident s c o) other = absurd (true-false refl (other refl))
seen-here p stays named e span (kind.Ident s c o) other = All-nil (SeenIn (sight_by named e span (kind.Ident s c o)))
seen-here p stays named e span k other = All-nil (SeenIn (sight_by named e span k))

abbrev Sees : Node → Type 0
Sees n = (q : Sought) (s : Around) → (is_name_part q.part ≡ true → is_name s.role ≡ false) → All (SeenIn (sights_at n s)) (ids_declared n q)

abbrev AllSee : List Node → Type 0
AllSee ns = (into : ℕ → Option Sought) (around : ℕ → Around) (i : ℕ) → ((j : ℕ) (q : Sought) → into j ≡ Some q → is_name_part q.part ≡ true → is_name (around j).role ≡ false)
    → All (SeenIn (gathered_from Around Sight around i (map sights_at ns))) (ids_in into i (map ids_declared ns))

at-child : (n : Node) → Sees n → (o : Option Sought) (s : Around) → ((q : Sought) → o ≡ Some q → is_name_part q.part ≡ true → is_name s.role ≡ false) → All (SeenIn (sights_at n s)) (ids_at o (ids_declared n))
at-child n sees (Some q) s other = sees q s (other q refl)
at-child n sees None s other = All-nil (SeenIn (sights_at n s))

all-see : (ns : List ((n : Node) × Sees n)) → AllSee (map (λ e. e.0) ns)
all-see [] into around i other = All-nil (SeenIn [])
all-see (n ∷ ns) into around i other =
    let others : List Node = map (λ e. e.0) ns in
    let here : List Sight = sights_at n.0 (around i) in
    let rest : List Sight = gathered_from Around Sight around (suc i) (map sights_at others) in
    All-append (SeenIn (here ++ rest)) (ids_at (into i) (ids_declared n.0)) (ids_in into (suc i) (map ids_declared others))
    (all-in-first here rest (ids_at (into i) (ids_declared n.0)) (at-child n.0 n.1 (into i) (around i) (other i)))
    (all-in-second here rest (ids_in into (suc i) (map ids_declared others)) (all-see ns into around (suc i) other))

layer-sees : (n : Node) → AllSee (out-Node n).children → Sees n
layer-sees n children q s other =
    let here : List Sight = sight_here s n in
    let rest : List Sight = gathered_from Around Sight (around_child s n) 0 (map sights_at (out-Node n).children) in
    let inner : List DeclaredId = ids_in (sought_in q n) 0 (map ids_declared (out-Node n).children) in
    subst (λ (xs : List Sight). All (SeenIn xs) (ids_declared n q)) (sym (gathered-out Around Sight sight_here around_child n s))
    (subst (All (SeenIn (here ++ rest))) (sym (ids-out n q))
    (All-append (SeenIn (here ++ rest)) (id_here q (out-Node n).kind) inner
    (all-in-first here rest (id_here q (out-Node n).kind) (seen-here q.part q.stays (is_name s.role) (list_any declares s.soughts) (out-Node n).span (out-Node n).kind other))
    (all-in-second here rest inner (children (sought_in q n) (around_child s n) 0 (λ j found is name. sought-no-name q s.role n j (ap seeks_name is ∙ name))))))

-- so are the names that are looked for in it
pub sees : (n : Node) → Sees n
sees = ind-Node Sees (λ x y is.
    layer-sees (roll-Node x) (subst AllSee (ap (λ (z : Node-F Node). z.children) is ∙ sym (ap (λ (z : Node-F Node). z.children) (out-roll-Node x))) (all-see y.children)))
