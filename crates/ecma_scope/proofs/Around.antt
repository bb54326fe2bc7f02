-- What the scope around a node states makes a difference to what has parameters alone: the body of a function, and the block of a `catch`.
use Rattle.std.proofs.Common.{◌≡◌, ◌==◌, if◌then◌else◌, ℕ, suc, Bool, true, false, ◌&&◌, ◌||◌, not, cond, List, [], ◌∷◌, ◌++◌, map, filter, Option, refl, sym, ap, ◌∙◌, subst, max}
use Rattle.std.proofs.lemmas.Bool.Decides.{Decides-eqb}
use Rattle.ecma_kind.specs.declared.kind.Kind.{Kind}
use Rattle.ecma_kind.specs.declared.kind.Kind.TheVariants as kind
use Rattle.ecma_tree.specs.declared.node.Node.{Node, Node-F, ind-Node, out-Node, roll-Node}
use Rattle.ecma_tree.specs.declared.node.Node.TheViews.{out-roll-Node}
use Rattle.ecma_scope.specs.declared.role.Role.{Role}
use Rattle.ecma_scope.specs.declared.role.Role.TheVariants as role
use Rattle.ecma_scope.specs.declared.form.Declaration.{Declaration}
use Rattle.ecma_scope.specs.declared.index.Index.{Index}
use Rattle.ecma_scope.specs.Scopes.{covers, is_ambient, is_there, of_exports, of_specifier, opens, opens_by, passes_ambient, passes_in_list, role_by, role_in}
use Rattle.ecma_scope.specs.Declarations.{declarations, declares, is_own, is_stated, names, own_part, stated, vars_of}
use Rattle.ecma_scope.specs.Indexed.{states_of}
use Rattle.ecma_scope.specs.Bodies.{may_hold_body}
use Rattle.ecma_scope.specs.Conflicts.{Surrounding, child_surrounding, conflict, has_parameters, is_further_out, is_lexical, passing, surrounding, surrounds}
use Rattle.ecma_scope.proofs.Clashing.{clashes_at-opens, clashes_at-out}
use Rattle.ecma_scope.specs.declared.form.Located.{Located}
use Rattle.ecma_scope.specs.Located.{located, located_marked, located_meeting, located_names, located_passing, located_vars}
use Rattle.ecma_scope.specs.Clashes.{clash_at, clash_offsets, clashes_among, clashes_at, clashes_below, scope_clashes}

abbrev Stated : Type 0
Stated = List ℕ → Option Bool

-- a body among the children of a node
if-other : (r : Role) → has_parameters r ≡ false → (b : Bool) → has_parameters (if b then r else role.Plain) ≡ false
if-other r other true = other
if-other r other false = refl

if-body : (b : Bool) → has_parameters (if b then role.Body else role.Plain) ≡ true → b ≡ true
if-body true is = refl
if-body false is = cc

passes-ambient : (b : Bool) → has_parameters (passes_ambient b) ≡ false
passes-ambient true = refl
passes-ambient false = refl

passes-in-list : (r : Role) → has_parameters (passes_in_list r) ≡ false
passes-in-list role.Sourced = refl
passes-in-list role.Ambient = refl
passes-in-list _ = refl

of-specifier : (r : Role) (i : ℕ) → has_parameters (of_specifier r i) ≡ false
of-specifier role.Sourced i = refl
of-specifier _ i = if-other role.Name refl (i == 1)

of-exports : (sourced : Bool) (i : ℕ) → has_parameters (of_exports sourced i) ≡ false
of-exports true i = if-other role.Sourced refl (i == 0)
of-exports false i = refl

-- it stands only where a node may hold one
pub body-here : (r : Role) (k : Kind) (sourced : Bool) (i : ℕ) → may_hold_body k ≡ false → has_parameters (role_by r k sourced i) ≡ false
unfolding role_by
body-here r kind.List sourced i none = passes-in-list r
body-here r kind.LabeledStmt sourced i none = if-other role.Name refl (i == 0)
body-here r (kind.ImportNamedSpecifier is_type_only) sourced i none = if-other role.Name refl (i == 1)
body-here r (kind.ExportNamedSpecifier is_type_only) sourced i none = of-specifier r i
body-here r (kind.NamedExport type_only) sourced i none = of-exports sourced i
body-here r (kind.Function is_generator is_async) sourced i none = cc
body-here r (kind.ArrowExpr is_async is_generator) sourced i none = cc
body-here r (kind.Constructor accessibility is_optional) sourced i none = cc
body-here r kind.GetterProp sourced i none = cc
body-here r kind.SetterProp sourced i none = cc
body-here r kind.CatchClause sourced i none = cc
body-here r kind.ExportDecl sourced i none = passes-ambient (is_ambient r)
body-here r (kind.TsModuleDecl declare global) sourced i none = passes-ambient (declare || is_ambient r)
body-here r (kind.TsNamespaceDecl declare global) sourced i none = passes-ambient (declare || is_ambient r)
body-here r kind.TsModuleBlock sourced i none = passes-ambient (is_ambient r)
body-here r _ sourced i none = refl

-- and there it stands in the scope that the node opens
body-covered : (r : Role) (k : Kind) (named sourced : Bool) (i : ℕ) → may_hold_body k ≡ true → has_parameters (role_by r k sourced i) ≡ true → opens_by r k named && covers r k i ≡ true
unfolding role_by opens_by covers
body-covered r (kind.Function is_generator is_async) named sourced i may is = refl
body-covered r (kind.ArrowExpr is_async is_generator) named sourced i may is = refl
body-covered r (kind.Constructor accessibility is_optional) named sourced i may is = refl
body-covered r kind.GetterProp named sourced i may is = ap (λ (k : ℕ). not (k == 0)) ((Decides-eqb i 2).0 (if-body (i == 2) is))
body-covered r kind.SetterProp named sourced i may is = ap (λ (k : ℕ). not (k == 0)) ((Decides-eqb i 3).0 (if-body (i == 3) is))
body-covered r kind.CatchClause named sourced i may is = refl
body-covered r _ named sourced i may is = cc

is_own-same : (r : Role) (f g : Stated) → has_parameters r ≡ false → (d : Declaration) → is_own r f d ≡ is_own r g d
is_own-same role.Body f g other d = cc
is_own-same _ f g other d = refl

module _ (r : Role) (f g : Stated) (other : has_parameters r ≡ false) where
  offsets-same : (earlier : List Located) (l : Located) → clash_offsets r f earlier l ≡ clash_offsets r g earlier l
  offsets-same earlier l =
      (λ j. map (λ e. max e.at l.at) (filter (λ e. conflict r e.declaration l.declaration) earlier)
      ++ (if other j && (is_lexical r l.declaration.form && is_stated (f l.declaration.sym)) then l.at ∷ [] else []))
      ∙ (λ j. map (λ e. max e.at l.at) (filter (λ e. conflict r e.declaration l.declaration) earlier)
      ++ (if sym other j && (is_lexical r l.declaration.form && is_stated (g l.declaration.sym)) then l.at ∷ [] else []))

  among-same : (earlier ls : List Located) → clashes_among r f earlier ls ≡ clashes_among r g earlier ls
  among-same earlier [] = refl
  among-same earlier (l ∷ ls) = (λ j. map (clash_at l.declaration.sym) (offsets-same earlier l j) ++ among-same (earlier ++ l ∷ []) ls j)

  names-same : (n : Node) → names r f n ≡ names r g n
  names-same n =
      (λ j. filter (λ d. is_own-same r f g other d j) (declarations n (record { part = own_part r; stays = not (is_ambient r) }) ++ vars_of r (not (is_ambient r)) n))

  further-same : (passed : List Declaration) (text : List ℕ) → is_further_out r f passed text ≡ is_further_out r g passed text
  further-same passed text = (λ j. declares passed text || (other j && is_stated (f text))) ∙ (λ j. declares passed text || (sym other j && is_stated (g text)))

  located_names-same : (n : Node) → located_names r f n ≡ located_names r g n
  located_names-same n =
      (λ j. filter (λ l. is_own-same r f g other l.declaration j) (located n (record { part = own_part r; stays = not (is_ambient r) }) ++ located_vars r (not (is_ambient r)) n))

  meeting-same : (n : Node) → located_meeting r f n ≡ located_meeting r g n
  meeting-same n =
      (λ j. located_marked [] (filter (λ l. l.declaration.stays || further-same (passing r n) l.declaration.sym j) (located_names-same n j)) ++ located_passing r n)

  own-same : (n : Node) → scope_clashes (record { role = r; around = f }) n ≡ scope_clashes (record { role = r; around = g }) n
  own-same n = (λ j. if opens r n then among-same [] (meeting-same n j) j else [])

abbrev Same : Node → Type 0
Same n = (r : Role) (f g : Stated) → has_parameters r ≡ false → clashes_at n (record { role = r; around = f }) ≡ clashes_at n (record { role = r; around = g })

module _ (n : Node) (r : Role) (f g : Stated) (other : has_parameters r ≡ false) where
  -- a child that is no body, and one that is
  child-by : (x : Node) → Same x → (i : ℕ) (may body : Bool) → may_hold_body (out-Node n).kind ≡ may → has_parameters (role_in r n i) ≡ body
      → clashes_at x (surrounds (record { role = r; around = f }) n i) ≡ clashes_at x (surrounds (record { role = r; around = g }) n i)
  child-by x same i may false held is = same (role_in r n i) _ _ is
  child-by x same i false true held is = same (role_in r n i) _ _ (body-here r (out-Node n).kind (is_there (out-Node n).children 1) i held)
  child-by x same i true true held is =
      let covered = body-covered r (out-Node n).kind (is_there (out-Node n).children 0) (is_there (out-Node n).children 1) i held is in
      (λ j. clashes_at x (record { role = role_in r n i; around = cond (covered j) (stated (names r f n)) f }))
      ∙ (λ j. clashes_at x (record { role = role_in r n i; around = stated (names-same r f g other n j) }))
      ∙ (λ j. clashes_at x (record { role = role_in r n i; around = cond (sym covered j) (stated (names r g n)) g }))

  children-same : (ns : List ((x : Node) × Same x)) (i : ℕ)
      → clashes_below (surrounds (record { role = r; around = f }) n) i (map clashes_at (map (λ e. e.0) ns)) ≡ clashes_below (surrounds (record { role = r; around = g }) n) i (map clashes_at (map (λ e. e.0) ns))
  children-same [] i = refl
  children-same (x ∷ xs) i = (λ j. child-by x.0 x.1 i (may_hold_body (out-Node n).kind) (has_parameters (role_in r n i)) refl refl j ++ children-same xs (suc i) j)

same : (n : Node) → Same n
same = ind-Node Same (λ x y is. λ r f g other.
    (let children = subst (λ (ns : List Node). clashes_below (surrounds (record { role = r; around = f }) (roll-Node x)) 0 (map clashes_at ns) ≡ clashes_below (surrounds (record { role = r; around = g }) (roll-Node x)) 0 (map clashes_at ns))
    (ap (λ (z : Node-F Node). z.children) is ∙ sym (ap (λ (z : Node-F Node). z.children) (out-roll-Node x))) (children-same (roll-Node x) r f g other y.children 0) in
    clashes_at-out (roll-Node x) (record { role = r; around = f })
    ∙ (λ j. own-same r f g other (roll-Node x) j ++ children j)
    ∙ sym (clashes_at-out (roll-Node x) (record { role = r; around = g }))))

module _ (n : Node) (r : Role) (s t : ℕ → Surrounding) (roles : (i : ℕ) → (s i).role ≡ role_in r n i) (also : (i : ℕ) → (t i).role ≡ role_in r n i) (none : may_hold_body (out-Node n).kind ≡ false) where
  -- so what stands around the children of a node that holds no body may be anything
  pub clashes_below-any : (ns : List Node) (i : ℕ) → clashes_below s i (map clashes_at ns) ≡ clashes_below t i (map clashes_at ns)
  clashes_below-any [] i = refl
  clashes_below-any (x ∷ xs) i =
      let other = body-here r (out-Node n).kind (is_there (out-Node n).children 1) i none in
      let here : clashes_at x (s i) ≡ clashes_at x (t i) =
      (λ j. clashes_at x (record { role = roles i j; around = (s i).around }))
      ∙ same x (role_in r n i) (s i).around (t i).around other
      ∙ (λ j. clashes_at x (record { role = sym (also i) j; around = (t i).around })) in
      (λ j. here j ++ clashes_below-any xs (suc i) j)

clashes_at-by : (n : Node) (r : Role) (own around : Index) (may : Bool) → may_hold_body (out-Node n).kind ≡ may → opens r n ≡ true
    → (may ≡ true → (text : List ℕ) → states_of own text ≡ stated (names r (states_of around) n) text)
    → clashes_at n (surrounding r around) ≡ clashes_among r (states_of around) [] (located_meeting r (states_of around) n) ++ clashes_below (child_surrounding r own around n) 0 (map clashes_at (out-Node n).children)
clashes_at-by n r own around true held opened is = clashes_at-opens n r own around opened (is refl)
clashes_at-by n r own around false held opened is =
    clashes_at-out n (surrounding r around)
    ∙ (λ j. (if opened j then clashes_among r (states_of around) [] (located_meeting r (states_of around) n) else []) ++ clashes_below (surrounds (surrounding r around) n) 0 (map clashes_at (out-Node n).children))
    ∙ (λ j. clashes_among r (states_of around) [] (located_meeting r (states_of around) n)
    ++ clashes_below-any n r (surrounds (surrounding r around) n) (child_surrounding r own around n) (λ i. refl) (λ i. refl) held (out-Node n).children 0 j)

-- the clashes in a node that opens a scope, whose own index says what it declares where it may hold a body
pub clashes_at-opens-bodies : (n : Node) (r : Role) (own around : Index) → opens r n ≡ true
    → (may_hold_body (out-Node n).kind ≡ true → (text : List ℕ) → states_of own text ≡ stated (names r (states_of around) n) text)
    → clashes_at n (surrounding r around) ≡ clashes_among r (states_of around) [] (located_meeting r (states_of around) n) ++ clashes_below (child_surrounding r own around n) 0 (map clashes_at (out-Node n).children)
clashes_at-opens-bodies n r own around opened is = clashes_at-by n r own around (may_hold_body (out-Node n).kind) refl opened is
