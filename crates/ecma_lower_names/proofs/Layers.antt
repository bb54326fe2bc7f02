-- A node of a ready tree declares an id of free names not where it runs, if what it needs is declared in no such context.
use Rattle.std.proofs.Common.{◌≡◌, refl, sym, ap, ◌∙◌, subst, ℕ, zero, suc, List, [], ◌∷◌, ◌++◌, map, length, replicate, Bool, true, false, cond, not, ◌&&◌, ◌||◌}
use Rattle.std.specs.List.{list_all}
use Rattle.ecma_kind.specs.Sorts.{belongs, is_stmt, is_module_decl}
use Rattle.ecma_kind.specs.declared.kind.Kind.{Kind}
use Rattle.ecma_kind.specs.declared.kind.Kind.TheVariants as kind
use Rattle.ecma_kind.specs.declared.operators.VarDeclKind.TheVariants as var_kind
use Rattle.ecma_kind.specs.declared.shapes.Count.{Count}
use Rattle.ecma_kind.specs.declared.shapes.Count.TheVariants.{One, Maybe, Many, MaybeMany, Holes}
use Rattle.ecma_kind.specs.declared.shapes.Shape.{Shape}
use Rattle.ecma_kind.specs.declared.shapes.Sort.{Sort}
use Rattle.ecma_kind.specs.declared.shapes.Sort.TheVariants as sort
use Rattle.ecma_tree.specs.declared.node.Node.{Node, out-Node}
use Rattle.ecma_tree.specs.Laws.{HaveShapes}
use Rattle.ecma_tree.specs.Sorted.{HasShape, allows_by, child_shapes, is_absent, item_count, maybe, one, shape_of}
use Rattle.ecma_tree.specs.Values.{is_value, value_by}
use Rattle.ecma_rules.specs.declared.standing.Standing.TheVariants as standing
use Rattle.ecma_rules.specs.Statements.{is_body as is_body_standing, is_declaration}
use Rattle.ecma_rules.specs.Surroundings.{standing_by}
use Rattle.ecma_fits.specs.declared.unfit.Where.{Where}
use Rattle.ecma_fits.specs.Roles.{role_in}
use Rattle.ecma_scope.specs.declared.form.Form.{Form}
use Rattle.ecma_scope.specs.declared.form.Form.TheVariants as form
use Rattle.ecma_scope.specs.declared.form.Part.TheVariants as part
use Rattle.ecma_scope.specs.declared.role.Role.{Role}
use Rattle.ecma_scope.specs.declared.role.Role.TheVariants as role
use Rattle.ecma_scope.specs.Declarations.{holds_vars, in_default, in_item, in_name, in_scope, in_var, is_body, own_part}
use Rattle.ecma_scope.specs.Scopes.{is_ambient, is_default, is_there, opens_by, passes_ambient, passes_in_list, role_by}
use Rattle.ecma_hygiene.proofs.Telling.{or-first, true-false}
use Rattle.ecma_hygiene_scopes.specs.DeclaredIds.{ids_declared}
use Rattle.ecma_runs.specs.State.{Id}
use Rattle.ecma_runs.specs.Declarations.{all_declared, all_last_declared, has_no_effect}
use Rattle.ecma_runs.specs.Environment.{is_among}
use Rattle.ecma_runs.specs.Evaluation.{meaning, meaning_by, no_effect, role_by as meant}
use Rattle.ecma_runs.specs.Meaning.{Meaning}
use Rattle.ecma_runs.proofs.Layer.{meaning_out}
use Rattle.ecma_lower_names.proofs.Frame.{Layer, Silent, Told}
use Rattle.ecma_lower_names.proofs.Needs.{Clean, CleanNames, ListNeeds, Needs, absent-needs, arrow-needs, block-needs, body-needs, case-needs, catch-needs, declaration-needs, declarator-needs, default-needs, head-needs, item-needs, list-needs, maybe-block-needs, maybe-body-needs, maybe-init-needs, parameter-needs, property-needs, quiet, quiet-needs, specifier-needs}
use Rattle.ecma_lower_names.proofs.Parts.{Each, Placed, among-append, kept, no-declared-body, or-neither}
use Rattle.ecma_lower_names.proofs.Patterns.{binds, declared-binds, ident-named, named, own-named, parameter-binds}
use Rattle.ecma_lower_names.proofs.Roles.{default-role}
use Rattle.ecma_lower_names.proofs.Valueless.{function_bodiless, shape_out}

-- the body of a statement is no declaration
body-plain : (w : Where) (c : Node) → Placed w c → w.around.standing ≡ standing.Body → is_declaration (out-Node c).kind ≡ false
body-plain w c p e = sym (ap (λ z. is_body_standing z && is_declaration (out-Node c).kind) e) ∙ no-declared-body w c p

item-allowed : (c : Count) (σ : Sort) (k : Kind) → allows_by (item_count c) σ k ≡ true → (is_absent k || belongs σ k) ≡ true
item-allowed One σ k a = second (is_absent k) (belongs σ k) a
  where
    second : (a b : Bool) → b ≡ true → (a || b) ≡ true
    second true b h = refl
    second false b h = h
item-allowed Maybe σ k a = second (is_absent k) (belongs σ k) a
  where
    second : (a b : Bool) → b ≡ true → (a || b) ≡ true
    second true b h = refl
    second false b h = h
item-allowed Many σ k a = second (is_absent k) (belongs σ k) a
  where
    second : (a b : Bool) → b ≡ true → (a || b) ≡ true
    second true b h = refl
    second false b h = h
item-allowed MaybeMany σ k a = second (is_absent k) (belongs σ k) a
  where
    second : (a b : Bool) → b ≡ true → (a || b) ≡ true
    second true b h = refl
    second false b h = h
item-allowed Holes σ k a = a

either : (a b : Bool) {A : Type 0} → (a || b) ≡ true → (a ≡ true → A) → (b ≡ true → A) → A
either true b h f g = f refl
either false b h f g = g h

own-scope : (r : Role) (k : Kind) → (is_default r ≡ true → belongs sort.DefaultDecl k ≡ true) → belongs sort.DefaultDecl k ≡ false → own_part r ≡ part.Scope
own-scope role.Default k seat other = absurd (true-false (seat refl) other)
own-scope _ k seat other = refl

plain-scope : (r : Role) → is_default r ≡ false → own_part r ≡ part.Scope
plain-scope role.Default d = absurd (true-false refl d)
plain-scope _ d = refl

by-test : (b : Bool) → (b ≡ false → ⊥) → b ≡ true
by-test true h = refl
by-test false h = absurd (h refl)

module _ (id : Id) where
  abbrev pub AllSilent : List Node → Type 0
  AllSilent [] = Unit {0}
  AllSilent (c ∷ cs) = Silent id (meaning c) × AllSilent cs

  join : (xs ys : List Id) → is_among id xs ≡ false → is_among id ys ≡ false → is_among id (xs ++ ys) ≡ false
  join xs ys f g = among-append id xs ys ∙ or-neither (is_among id xs) (is_among id ys) f g

  all-declared : (cs : List Node) → AllSilent cs → is_among id (all_declared (map meaning cs)) ≡ false
  all-declared [] h = refl
  all-declared (c ∷ cs) h = join (meaning c).declared (all_declared (map meaning cs)) h.0.0 (all-declared cs h.1)

  all-last : (cs : List Node) → AllSilent cs → is_among id (all_last_declared (map meaning cs)) ≡ false
  all-last [] h = refl
  all-last (c ∷ cs) h = join (meaning c).last_declared (all_last_declared (map meaning cs)) h.0.1 (all-last cs h.1)

  -- what has an effect or none
  unless-none : (b : Bool) (n : Node) (m : Meaning) → Silent id m → Silent id (cond b (no_effect n) m)
  unless-none true n m h = (refl, refl)
  unless-none false n m h = h

  unless-bodiless : (b : Bool) (n : Node) (m : Meaning) → (b ≡ true → Silent id m) → Silent id (cond (not b) (no_effect n) m)
  unless-bodiless true n m h = h refl
  unless-bodiless false n m h = (refl, refl)

  -- a child of a quiet sort, and one that needs something
  calm : (r : Role) (c : Node) (o : Shape) → Told id r c → HasShape o c → quiet o.sort ≡ true → is_default r ≡ false → Silent id (meaning c)
  calm r c o t h q d = t o h (λ e. absurd (true-false e d)) (quiet-needs id r o.count o.sort (out-Node c).kind c q (shape_out o c h).0 d)

  busy : (r : Role) (c : Node) (o : Shape) → Told id r c → HasShape o c → is_default r ≡ false → (allows_by o.count o.sort (out-Node c).kind ≡ true → Needs id r o.sort (out-Node c).kind c) → Silent id (meaning c)
  busy r c o t h d needs = t o h (λ e. absurd (true-false e d)) (needs (shape_out o c h).0)

  all-calm : (os : List Shape) (rs : ℕ → Role) (i : ℕ) (cs : List Node) → list_all (λ o. quiet o.sort) os ≡ true → HaveShapes os cs → ((j : ℕ) → is_default (rs j) ≡ false) → Each (λ j c. Told id (rs j) c) i cs → AllSilent cs
  all-calm [] rs i [] q h d t = tt
  all-calm [] rs i (c ∷ cs) q h d t = absurd h
  all-calm (o ∷ os) rs i [] q h d t = absurd h
  all-calm (o ∷ os) rs i (c ∷ cs) q h d t = (calm (rs i) c o t.0 h.0 (first (quiet o.sort) q) (d i), all-calm os rs (suc i) cs (rest (quiet o.sort) q) h.1 d t.1)
    where
      first : (a : Bool) → (a && list_all (λ o. quiet o.sort) os) ≡ true → a ≡ true
      first true e = refl
      first false e = absurd (true-false e refl)

      rest : (a : Bool) → (a && list_all (λ o. quiet o.sort) os) ≡ true → list_all (λ o. quiet o.sort) os ≡ true
      rest true e = e
      rest false e = absurd (true-false e refl)

  -- the names of what is bound
  bound : (c : Node) (w : Where) (o : Shape) (f : Form) → binds w.role o (out-Node c).kind ≡ true → Placed w c → HasShape o c → Clean id (part.Name f) c → is_among id (meaning c).names ≡ false
  bound c w o f b p h clean = sym (named id c w o f b p h) ∙ clean

  absent-names : (c : Node) (k : Kind) → is_absent k ≡ true → (out-Node c).kind ≡ k → is_among id (meaning c).names ≡ false
  absent-names c kind.Absent a e = ap (λ m. is_among id m.names) (meaning_out c) ∙ ap (λ z. is_among id (meaning_by c z (map meaning (out-Node c).children)).names) e
  absent-names c _ a e = absurd (true-false a refl)

  -- ---- the items of a list

  abbrev Given : Sort → (ℕ → Role) → ℕ → List Node → Type 0
  Given σ rs i cs = Each (λ j c. belongs σ (out-Node c).kind ≡ true → Needs id (rs j) σ (out-Node c).kind c) i cs

  list-silent : (c : Count) (σ : Sort) (rs : ℕ → Role) (i : ℕ) (cs : List Node) → ((j : ℕ) → is_default (rs j) ≡ false) → HaveShapes (replicate (length cs) (record { count = item_count c; sort = σ })) cs
      → Each (λ j x. Told id (rs j) x) i cs → Given σ rs i cs → AllSilent cs
  list-silent c σ rs i [] d h t g = tt
  list-silent c σ rs i (x ∷ xs) d h t g = (
    busy (rs i) x (record { count = item_count c; sort = σ }) t.0 h.0 (d i)
        (λ a. either (is_absent (out-Node x).kind) (belongs σ (out-Node x).kind) (item-allowed c σ (out-Node x).kind a) (absent-needs id (rs i) σ (out-Node x).kind x) g.0),
    list-silent c σ rs (suc i) xs d h.1 t.1 g.1,
  )

  given-items : (σ : Sort) (rs : ℕ → Role) (i : ℕ) (cs : List Node) → ((k : Kind) → belongs σ k ≡ true → belongs sort.ModuleItem k ≡ true) → ((j : ℕ) → is_default (rs j) ≡ false)
      → Each (λ j c. Clean id part.Item c) i cs → Each (λ j c. Clean id part.Var c) i cs → Given σ rs i cs
  given-items σ rs i [] is d items vars = tt
  given-items σ rs i (c ∷ cs) is d items vars = (λ b. item-needs id (rs i) σ (out-Node c).kind c (is (out-Node c).kind b) (d i) items.0 vars.0, given-items σ rs (suc i) cs is d items.1 vars.1)

  given-cases : (rs : ℕ → Role) (i : ℕ) (cs : List Node) → Each (λ j c. Clean id part.Item c) i cs → Each (λ j c. Clean id part.Var c) i cs → Given sort.SwitchCase rs i cs
  given-cases rs i [] items vars = tt
  given-cases rs i (c ∷ cs) items vars = (λ b. case-needs id (rs i) sort.SwitchCase (out-Node c).kind c b (items.0, vars.0), given-cases rs (suc i) cs items.1 vars.1)

  given-each : (σ : Sort) (P : Node → Type 0) (rs : ℕ → Role) (i : ℕ) (cs : List Node) → ((r : Role) (c : Node) → belongs σ (out-Node c).kind ≡ true → P c → Needs id r σ (out-Node c).kind c)
      → Each (λ j c. P c) i cs → Given σ rs i cs
  given-each σ P rs i [] needs h = tt
  given-each σ P rs i (c ∷ cs) needs h = (λ b. needs (rs i) c b h.0, given-each σ P rs (suc i) cs needs h.1)

  given-quiet : (σ : Sort) (rs : ℕ → Role) (i : ℕ) (cs : List Node) → quiet σ ≡ true → ((j : ℕ) → is_default (rs j) ≡ false) → Given σ rs i cs
  given-quiet σ rs i [] q d = tt
  given-quiet σ rs i (c ∷ cs) q d = (λ b. quiet-needs id (rs i) One σ (out-Node c).kind c q b (d i), given-quiet σ rs (suc i) cs q d)

  each-names : (f : Form) (i : ℕ) (cs : List Node) → Each (λ j c. Clean id (part.Name f) c) i cs → Each (λ j c. CleanNames id c) i cs
  each-names f i [] h = tt
  each-names f i (c ∷ cs) h = ((f, h.0), each-names f (suc i) cs h.1)

  module _ (r : Role) (shape : Shape) (n : Node) where
    abbrev L : Kind → List Node → Type 0
    L k cs = Layer id r shape n k cs

    list-given : (cs : List Node) (l : L kind.List cs) (σ : Sort) (rs : ℕ → Role) → ((j : ℕ) → is_default (rs j) ≡ false) → ListNeeds id σ n → Given σ rs 0 cs
    unfolding in_item in_var in_name
    list-given cs l sort.ModuleItem rs d h = given-items sort.ModuleItem rs 0 cs (λ k b. b) d (l.out part.Item h.0) (l.out part.Var h.1)
    list-given cs l sort.Stmt rs d h = given-items sort.Stmt rs 0 cs (λ k b. or-first (is_stmt k) (is_module_decl k) b) d (l.out part.Item h.0) (l.out part.Var h.1)
    list-given cs l sort.SwitchCase rs d h = given-cases rs 0 cs (l.out part.Item h.0) (l.out part.Var h.1)
    list-given cs l sort.ImportSpecifier rs d h = given-each sort.ImportSpecifier (Clean id part.Item) rs 0 cs (λ r c b i. specifier-needs id r sort.ImportSpecifier (out-Node c).kind c b i) (l.out part.Item h)
    list-given cs l sort.VarDeclarator rs d h = given-each sort.VarDeclarator (CleanNames id) rs 0 cs (λ r c b i. declarator-needs id r sort.VarDeclarator (out-Node c).kind c b i) (each-names h.0 0 cs (l.out (part.Name h.0) h.1))
    list-given cs l sort.Param rs d h = given-each sort.Param (CleanNames id) rs 0 cs (λ r c b i. parameter-needs id r sort.Param (out-Node c).kind c b i) (each-names h.0 0 cs (l.out (part.Name h.0) h.1))
    list-given cs l sort.ParamOrTsParamProp rs d h =
        given-each sort.ParamOrTsParamProp (CleanNames id) rs 0 cs (λ r c b i. property-needs id r sort.ParamOrTsParamProp (out-Node c).kind c b i) (each-names h.0 0 cs (l.out (part.Name h.0) h.1))
    list-given cs l σ rs d h = given-quiet σ rs 0 cs h d

    -- ---- all kinds

    done : (cs : List Node) → AllSilent cs → Silent id (meant n kind.ExprStmt (map meaning cs))
    done cs all = (all-declared cs all, refl)

    scoped : (k : Kind) (cs : List Node) → L k cs → opens_by r k (is_there cs 0) ≡ true → belongs sort.DefaultDecl k ≡ false → Clean id part.Scope n
    scoped k cs l o other = subst (λ p. Clean id p n) (own-scope r k l.seat other) (l.opened o)

    -- the name of a function or a class
    function-named : (name function : Node) → L kind.FnExpr (name ∷ function ∷ []) → (meaning function).has_body ≡ true → (d : Bool) → is_default r ≡ d → (a : Bool) → is_absent (out-Node name).kind ≡ a
        → is_among id (meaning name).names ≡ false
    unfolding in_default in_scope opens_by value_by
    function-named name function l has d e true there = absent-names name (out-Node name).kind there refl
    function-named name function l has true e false there =
        let value = by-test (is_value function) (λ e. true-false has (function_bodiless function l.have.1.0 e)) in
        let i = l.out part.Default (l.needs e) in
        sym (own-named id form.Function name l.have.0)
        ∙ subst (λ b. kept id (ids_declared name (record { part = part.Name form.Function; stays = b })) ≡ false) (l.valued ∙ value) i.0
    function-named name function l has false e false there =
        let o : (not (is_absent (out-Node name).kind) && not (is_default r)) ≡ true = λ j. not (there j) && not (e j) in
        let i = l.out part.Scope (subst (λ p. Clean id p n) (plain-scope r e) (l.opened o)) in
        sym (own-named id form.Own name l.have.0) ∙ i.0

    class-named : (name class : Node) → L kind.ClassExpr (name ∷ class ∷ []) → (d : Bool) → is_default r ≡ d → is_among id (meaning name).names ≡ false
    unfolding in_default in_scope opens_by
    class-named name class l true e = let i = l.out part.Default (l.needs e) in sym (own-named id form.Class name l.have.0) ∙ i.0
    class-named name class l false e =
        let i = l.out part.Scope (subst (λ p. Clean id p n) (plain-scope r e) (l.opened refl)) in
        sym (own-named id form.Own name l.have.0) ∙ i.0

    -- the body of a function holds what its `var` statements declare; another block does not
    block-vars : (cs : List Node) → L kind.BlockStmt cs → (b : Bool) → is_body r ≡ b → Clean id part.Var n
    unfolding opens_by holds_vars
    block-vars cs l true e = l.vars refl e
    block-vars cs l false e = l.needs e

    pub silent-by : (k : Kind) (cs : List Node) → L k cs → Silent id (meaning_by n k (map meaning cs))
    unfolding in_item in_var in_name in_scope in_default opens_by holds_vars role_by role_in standing_by value_by
    silent-by kind.ParenExpr (e ∷ []) l =
        calm (role.Plain) e (shape_of One sort.Expr) l.told.0 l.have.0 refl refl
    silent-by kind.ParenExpr [] l = absurd l.have
    silent-by kind.ParenExpr (a0 ∷ a1 ∷ cs) l = absurd l.have.1
    silent-by kind.TsAsExpr (e ∷ t ∷ []) l =
        calm (role.Plain) e (shape_of One sort.Expr) l.told.0 l.have.0 refl refl
    silent-by kind.TsAsExpr [] l = absurd l.have
    silent-by kind.TsAsExpr (a0 ∷ []) l = absurd l.have.1
    silent-by kind.TsAsExpr (a0 ∷ a1 ∷ a2 ∷ cs) l = absurd l.have.1.1
    silent-by kind.TsTypeAssertion (e ∷ t ∷ []) l =
        calm (role.Plain) e (shape_of One sort.Expr) l.told.0 l.have.0 refl refl
    silent-by kind.TsTypeAssertion [] l = absurd l.have
    silent-by kind.TsTypeAssertion (a0 ∷ []) l = absurd l.have.1
    silent-by kind.TsTypeAssertion (a0 ∷ a1 ∷ a2 ∷ cs) l = absurd l.have.1.1
    silent-by kind.TsInstantiation (e ∷ t ∷ []) l =
        calm (role.Plain) e (shape_of One sort.Expr) l.told.0 l.have.0 refl refl
    silent-by kind.TsInstantiation [] l = absurd l.have
    silent-by kind.TsInstantiation (a0 ∷ []) l = absurd l.have.1
    silent-by kind.TsInstantiation (a0 ∷ a1 ∷ a2 ∷ cs) l = absurd l.have.1.1
    silent-by kind.TsSatisfiesExpr (e ∷ t ∷ []) l =
        calm (role.Plain) e (shape_of One sort.Expr) l.told.0 l.have.0 refl refl
    silent-by kind.TsSatisfiesExpr [] l = absurd l.have
    silent-by kind.TsSatisfiesExpr (a0 ∷ []) l = absurd l.have.1
    silent-by kind.TsSatisfiesExpr (a0 ∷ a1 ∷ a2 ∷ cs) l = absurd l.have.1.1
    silent-by kind.TsConstAssertion (e ∷ []) l =
        calm (role.Plain) e (shape_of One sort.Expr) l.told.0 l.have.0 refl refl
    silent-by kind.TsConstAssertion [] l = absurd l.have
    silent-by kind.TsConstAssertion (a0 ∷ a1 ∷ cs) l = absurd l.have.1
    silent-by kind.TsNonNullExpr (e ∷ []) l =
        calm (role.Plain) e (shape_of One sort.Expr) l.told.0 l.have.0 refl refl
    silent-by kind.TsNonNullExpr [] l = absurd l.have
    silent-by kind.TsNonNullExpr (a0 ∷ a1 ∷ cs) l = absurd l.have.1
    silent-by kind.TsTypeAnn cs l = (refl, refl)
    silent-by kind.TsTypeParamDecl cs l = (refl, refl)
    silent-by kind.TsTypeParamInstantiation cs l = (refl, refl)
    silent-by (kind.TsTypeAliasDecl d) cs l = (refl, refl)
    silent-by kind.Absent cs l = (refl, refl)
    silent-by kind.TsQualifiedName (left ∷ right ∷ []) l =
        done (left ∷ right ∷ []) (calm (role.Plain) left (shape_of One sort.TsEntityName) l.told.0 l.have.0 refl refl, (calm (role.Plain) right (shape_of One sort.IdentName) l.told.1.0 l.have.1.0 refl refl, tt))
    silent-by kind.TsQualifiedName [] l = absurd l.have
    silent-by kind.TsQualifiedName (a0 ∷ []) l = absurd l.have.1
    silent-by kind.TsQualifiedName (a0 ∷ a1 ∷ a2 ∷ cs) l = absurd l.have.1.1
    silent-by (kind.TsImportEqualsDecl x y) cs l = absurd (true-false refl l.unlowered)
    silent-by (kind.TsEnumDecl x y) cs l = absurd (true-false refl l.unlowered)
    silent-by (kind.TsModuleDecl x y) cs l = absurd (true-false refl l.unlowered)
    silent-by (kind.TsNamespaceDecl x y) cs l = absurd (true-false refl l.unlowered)
    silent-by kind.TsEnumMember cs l = absurd (true-false refl l.unlowered)
    silent-by (kind.VarDecl w true) cs l = (refl, refl)
    silent-by (kind.FnDecl true) cs l = (refl, refl)
    silent-by (kind.ClassDecl true) cs l = (refl, refl)
    silent-by (kind.ImportDecl true) cs l = (refl, refl)
    silent-by (kind.ImportNamedSpecifier true) cs l = (refl, refl)
    silent-by (kind.VarDeclarator d) (name ∷ init ∷ []) l =
        let clean = l.out (part.Name l.needs.0) l.needs.1 in
        let names = bound name (l.ws 0) (one sort.Pat) l.needs.0 (declared-binds (l.ws 0) (one sort.Pat) name l.placed.0 (l.roles 0)) l.placed.0 l.have.0 clean.0 in
        let a = calm (role.Plain) name (shape_of One sort.Pat) l.told.0 l.have.0 refl refl in
        let b = calm (role.Plain) init (shape_of Maybe sort.Expr) l.told.1.0 l.have.1.0 refl refl in
        (join (meaning name).names ((meaning name).declared ++ (meaning init).declared) names (join (meaning name).declared (meaning init).declared a.0 b.0), refl)
    silent-by (kind.VarDeclarator d) [] l = absurd l.have
    silent-by (kind.VarDeclarator d) (a0 ∷ []) l = absurd l.have.1
    silent-by (kind.VarDeclarator d) (a0 ∷ a1 ∷ a2 ∷ cs) l = absurd l.have.1.1
    silent-by kind.Param (pattern' ∷ []) l =
        let clean = l.out (part.Name l.needs.0) l.needs.1 in
        let names = bound pattern' (l.ws 0) (one sort.Pat) l.needs.0 (parameter-binds (l.ws 0) (one sort.Pat) pattern' l.placed.0 (l.roles 0)) l.placed.0 l.have.0 clean.0 in
        let a = calm (role.Plain) pattern' (shape_of One sort.Pat) l.told.0 l.have.0 refl refl in
        unless-none (meaning pattern').is_this n (meant n kind.Param (meaning pattern' ∷ [])) (join (meaning pattern').names (meaning pattern').declared names a.0, refl)
    silent-by kind.Param [] l = absurd l.have
    silent-by kind.Param (a0 ∷ a1 ∷ cs) l = absurd l.have.1
    silent-by (kind.TsParamProp x y z) (pattern' ∷ []) l =
        let clean = l.out (part.Name l.needs.0) l.needs.1 in
        let names = bound pattern' (l.ws 0) (one sort.TsParamPropParam) l.needs.0 (parameter-binds (l.ws 0) (one sort.TsParamPropParam) pattern' l.placed.0 (l.roles 0)) l.placed.0 l.have.0 clean.0 in
        let a = calm (role.Plain) pattern' (shape_of One sort.TsParamPropParam) l.told.0 l.have.0 refl refl in
        (join (meaning pattern').names (meaning pattern').declared names a.0, refl)
    silent-by (kind.TsParamProp x y z) [] l = absurd l.have
    silent-by (kind.TsParamProp x y z) (a0 ∷ a1 ∷ cs) l = absurd l.have.1
    silent-by (kind.ArrowExpr x y) (ps ∷ body ∷ types ∷ type ∷ []) l =
        let i = l.out part.Scope (scoped (kind.ArrowExpr x y) (ps ∷ body ∷ types ∷ type ∷ []) l refl refl) in
        let o = shape_of Many sort.Pat in
        let names = bound ps (l.ws 0) o form.Parameter (subst (λ q. binds q o (out-Node ps).kind ≡ true) (sym (l.roles 0)) (shape_out o ps l.have.0).0) l.placed.0 l.have.0 i.0 in
        let a = calm (role.Plain) ps (shape_of Many sort.Pat) l.told.0 l.have.0 refl refl in
        let b = busy (role.Body) body (shape_of One sort.BlockStmtOrExpr) l.told.1.0 l.have.1.0 refl (λ a. arrow-needs id sort.BlockStmtOrExpr (out-Node body).kind body a) in
        (join (meaning ps).names ((meaning ps).declared ++ (meaning body).declared) names (join (meaning ps).declared (meaning body).declared a.0 b.0), refl)
    silent-by (kind.ArrowExpr x y) [] l = absurd l.have
    silent-by (kind.ArrowExpr x y) (a0 ∷ []) l = absurd l.have.1
    silent-by (kind.ArrowExpr x y) (a0 ∷ a1 ∷ []) l = absurd l.have.1.1
    silent-by (kind.ArrowExpr x y) (a0 ∷ a1 ∷ a2 ∷ []) l = absurd l.have.1.1.1
    silent-by (kind.ArrowExpr x y) (a0 ∷ a1 ∷ a2 ∷ a3 ∷ a4 ∷ cs) l = absurd l.have.1.1.1.1
    silent-by kind.SetterProp (key ∷ receiver ∷ parameter ∷ body ∷ []) l =
        let i = l.out part.Scope (scoped kind.SetterProp (key ∷ receiver ∷ parameter ∷ body ∷ []) l refl refl) in
        let names = bound parameter (l.ws 2) (one sort.Pat) form.Parameter (parameter-binds (l.ws 2) (one sort.Pat) parameter l.placed.1.1.0 (l.roles 2)) l.placed.1.1.0 l.have.1.1.0 i.1.1.0 in
        let a = calm (role.Plain) key (shape_of One sort.PropName) l.told.0 l.have.0 refl refl in
        let b = calm (role.Plain) parameter (shape_of One sort.Pat) l.told.1.1.0 l.have.1.1.0 refl refl in
        let d = busy (role.Body) body (shape_of Maybe sort.BlockStmt) l.told.1.1.1.0 l.have.1.1.1.0 refl (λ a. maybe-block-needs id role.Body sort.BlockStmt (out-Node body).kind body a (λ e. absurd (true-false refl e))) in (
          join (meaning key).declared ((meaning parameter).names ++ ((meaning parameter).declared ++ (meaning body).declared)) a.0
              (join (meaning parameter).names ((meaning parameter).declared ++ (meaning body).declared) names (join (meaning parameter).declared (meaning body).declared b.0 d.0)),
          refl,
        )
    silent-by kind.SetterProp [] l = absurd l.have
    silent-by kind.SetterProp (a0 ∷ []) l = absurd l.have.1
    silent-by kind.SetterProp (a0 ∷ a1 ∷ []) l = absurd l.have.1.1
    silent-by kind.SetterProp (a0 ∷ a1 ∷ a2 ∷ []) l = absurd l.have.1.1.1
    silent-by kind.SetterProp (a0 ∷ a1 ∷ a2 ∷ a3 ∷ a4 ∷ cs) l = absurd l.have.1.1.1.1
    silent-by kind.CatchClause (parameter ∷ body ∷ []) l =
        let i = l.out part.Scope (scoped kind.CatchClause (parameter ∷ body ∷ []) l refl refl) in
        let v = l.out part.Var l.needs in
        let names = bound parameter (l.ws 0) (maybe sort.Pat) form.Catch (declared-binds (l.ws 0) (maybe sort.Pat) parameter l.placed.0 (l.roles 0)) l.placed.0 l.have.0 i.0 in
        let a = calm (role.Plain) parameter (shape_of Maybe sort.Pat) l.told.0 l.have.0 refl refl in
        let b = busy (role.CatchBody) body (shape_of One sort.BlockStmt) l.told.1.0 l.have.1.0 refl (λ a. block-needs id role.CatchBody sort.BlockStmt (out-Node body).kind body a (λ e. v.1.0)) in
        (join (meaning parameter).names ((meaning parameter).declared ++ (meaning body).declared) names (join (meaning parameter).declared (meaning body).declared a.0 b.0), refl)
    silent-by kind.CatchClause [] l = absurd l.have
    silent-by kind.CatchClause (a0 ∷ []) l = absurd l.have.1
    silent-by kind.CatchClause (a0 ∷ a1 ∷ a2 ∷ cs) l = absurd l.have.1.1
    silent-by (kind.FnDecl false) (name ∷ function ∷ []) l =
        unless-bodiless (meaning function).has_body n (meant n (kind.FnDecl false) (meaning name ∷ meaning function ∷ []))
        (λ has. (let value = by-test (is_value function) (λ e. true-false has (function_bodiless function l.have.1.0 e)) in
        let i = l.out part.Item l.needs in
        let clean = subst (λ b. kept id (ids_declared name (record { part = part.Name form.Function; stays = b })) ≡ false) (l.valued ∙ value) i.0 in
        let b = calm (role.Plain) function (shape_of One sort.Function) l.told.1.0 l.have.1.0 refl refl in
        (join (meaning name).names (meaning function).declared (sym (ident-named id form.Function name l.have.0) ∙ clean) b.0, refl)))
    silent-by (kind.FnDecl false) [] l = absurd l.have
    silent-by (kind.FnDecl false) (a0 ∷ []) l = absurd l.have.1
    silent-by (kind.FnDecl false) (a0 ∷ a1 ∷ a2 ∷ cs) l = absurd l.have.1.1
    silent-by (kind.ClassDecl false) (name ∷ class ∷ []) l =
        let i = l.out part.Item l.needs in
        let b = calm (role.Plain) class (shape_of One sort.Class) l.told.1.0 l.have.1.0 refl refl in
        (join (meaning name).names (meaning class).declared (sym (ident-named id form.Class name l.have.0) ∙ i.0) b.0, refl)
    silent-by (kind.ClassDecl false) [] l = absurd l.have
    silent-by (kind.ClassDecl false) (a0 ∷ []) l = absurd l.have.1
    silent-by (kind.ClassDecl false) (a0 ∷ a1 ∷ a2 ∷ cs) l = absurd l.have.1.1
    silent-by kind.FnExpr (name ∷ function ∷ []) l =
        unless-bodiless (meaning function).has_body n (meant n kind.FnExpr (meaning name ∷ meaning function ∷ []))
        (λ has. (let b = calm (role.Plain) function (shape_of One sort.Function) l.told.1.0 l.have.1.0 refl refl in
        (join (meaning name).names (meaning function).declared (function-named name function l has (is_default r) refl (is_absent (out-Node name).kind) refl) b.0, refl)))
    silent-by kind.FnExpr [] l = absurd l.have
    silent-by kind.FnExpr (a0 ∷ []) l = absurd l.have.1
    silent-by kind.FnExpr (a0 ∷ a1 ∷ a2 ∷ cs) l = absurd l.have.1.1
    silent-by kind.ClassExpr (name ∷ class ∷ []) l =
        let b = calm (role.Plain) class (shape_of One sort.Class) l.told.1.0 l.have.1.0 refl refl in
        (join (meaning name).names (meaning class).declared (class-named name class l (is_default r) refl) b.0, refl)
    silent-by kind.ClassExpr [] l = absurd l.have
    silent-by kind.ClassExpr (a0 ∷ []) l = absurd l.have.1
    silent-by kind.ClassExpr (a0 ∷ a1 ∷ a2 ∷ cs) l = absurd l.have.1.1
    silent-by kind.ImportDefaultSpecifier (local ∷ []) l =
        let i = l.out part.Item l.needs in (sym (ident-named id form.Import local l.have.0) ∙ i.0, refl)
    silent-by kind.ImportDefaultSpecifier [] l = absurd l.have
    silent-by kind.ImportDefaultSpecifier (a0 ∷ a1 ∷ cs) l = absurd l.have.1
    silent-by kind.ImportStarAsSpecifier (local ∷ []) l =
        let i = l.out part.Item l.needs in (sym (ident-named id form.Import local l.have.0) ∙ i.0, refl)
    silent-by kind.ImportStarAsSpecifier [] l = absurd l.have
    silent-by kind.ImportStarAsSpecifier (a0 ∷ a1 ∷ cs) l = absurd l.have.1
    silent-by (kind.ImportNamedSpecifier false) (local ∷ name ∷ []) l =
        let i = l.out part.Item l.needs in (sym (ident-named id form.Import local l.have.0) ∙ i.0, refl)
    silent-by (kind.ImportNamedSpecifier false) [] l = absurd l.have
    silent-by (kind.ImportNamedSpecifier false) (a0 ∷ []) l = absurd l.have.1
    silent-by (kind.ImportNamedSpecifier false) (a0 ∷ a1 ∷ a2 ∷ cs) l = absurd l.have.1.1
    silent-by (kind.ImportDecl false) (specifiers ∷ source ∷ attributes ∷ []) l =
        let i = l.out part.Item l.needs in
        done (specifiers ∷ source ∷ attributes ∷ []) (
          busy (role.Plain) specifiers (shape_of Many sort.ImportSpecifier) l.told.0 l.have.0 refl (λ a. list-needs id (role.Plain) sort.ImportSpecifier (out-Node specifiers).kind specifiers a (i.0)),
          (
            calm (role.Plain) source (shape_of One sort.Str) l.told.1.0 l.have.1.0 refl refl,
            (calm (role.Plain) attributes (shape_of Maybe sort.ObjectLit) l.told.1.1.0 l.have.1.1.0 refl refl, tt),
          ),
        )
    silent-by (kind.ImportDecl false) [] l = absurd l.have
    silent-by (kind.ImportDecl false) (a0 ∷ []) l = absurd l.have.1
    silent-by (kind.ImportDecl false) (a0 ∷ a1 ∷ []) l = absurd l.have.1.1
    silent-by (kind.ImportDecl false) (a0 ∷ a1 ∷ a2 ∷ a3 ∷ cs) l = absurd l.have.1.1.1
    silent-by (kind.VarDecl var_kind.Var false) (declarators ∷ []) l =
        let i = l.out part.Var l.needs in
        done (declarators ∷ []) (busy (role.Plain) declarators (shape_of Many sort.VarDeclarator) l.told.0 l.have.0 refl (λ a. list-needs id (role.Plain) sort.VarDeclarator (out-Node declarators).kind declarators a ((form.Var, i.0))), tt)
    silent-by (kind.VarDecl var_kind.Var false) [] l = absurd l.have
    silent-by (kind.VarDecl var_kind.Var false) (a0 ∷ a1 ∷ cs) l = absurd l.have.1
    silent-by (kind.VarDecl var_kind.Let false) (declarators ∷ []) l =
        let i = l.out part.Item l.needs in
        done (declarators ∷ []) (busy (role.Plain) declarators (shape_of Many sort.VarDeclarator) l.told.0 l.have.0 refl (λ a. list-needs id (role.Plain) sort.VarDeclarator (out-Node declarators).kind declarators a ((form.Lexical, i.0))), tt)
    silent-by (kind.VarDecl var_kind.Let false) [] l = absurd l.have
    silent-by (kind.VarDecl var_kind.Let false) (a0 ∷ a1 ∷ cs) l = absurd l.have.1
    silent-by (kind.VarDecl var_kind.Const false) (declarators ∷ []) l =
        let i = l.out part.Item l.needs in
        done (declarators ∷ []) (busy (role.Plain) declarators (shape_of Many sort.VarDeclarator) l.told.0 l.have.0 refl (λ a. list-needs id (role.Plain) sort.VarDeclarator (out-Node declarators).kind declarators a ((form.Lexical, i.0))), tt)
    silent-by (kind.VarDecl var_kind.Const false) [] l = absurd l.have
    silent-by (kind.VarDecl var_kind.Const false) (a0 ∷ a1 ∷ cs) l = absurd l.have.1
    silent-by (kind.Module shebang) (body ∷ []) l =
        let i = l.out part.Scope (scoped (kind.Module shebang) (body ∷ []) l refl refl) in
        let v = l.out part.Var (l.vars refl refl) in
        let b = busy (role.Plain) body (shape_of Many sort.ModuleItem) l.told.0 l.have.0 refl (λ a. list-needs id (role.Plain) sort.ModuleItem (out-Node body).kind body a ((i.0, v.0))) in
        (join (meaning body).declared (meaning body).last_declared b.0 b.1, refl)
    silent-by (kind.Module shebang) [] l = absurd l.have
    silent-by (kind.Module shebang) (a0 ∷ a1 ∷ cs) l = absurd l.have.1
    silent-by (kind.Script shebang) (body ∷ []) l =
        let i = l.out part.Scope (scoped (kind.Script shebang) (body ∷ []) l refl refl) in
        let v = l.out part.Var (l.vars refl refl) in
        done (body ∷ []) (busy (role.Plain) body (shape_of Many sort.Stmt) l.told.0 l.have.0 refl (λ a. list-needs id (role.Plain) sort.Stmt (out-Node body).kind body a ((i.0, v.0))), tt)
    silent-by (kind.Script shebang) [] l = absurd l.have
    silent-by (kind.Script shebang) (a0 ∷ a1 ∷ cs) l = absurd l.have.1
    silent-by kind.TsModuleBlock (body ∷ []) l =
        let i = l.out part.Scope (scoped kind.TsModuleBlock (body ∷ []) l refl refl) in
        let v = l.out part.Var (l.vars refl refl) in
        done (body ∷ []) (
          busy (passes_ambient (is_ambient r)) body (shape_of Many sort.ModuleItem) l.told.0 l.have.0 (default-role r kind.TsModuleBlock l.there 0 refl)
              (λ a. list-needs id (passes_ambient (is_ambient r)) sort.ModuleItem (out-Node body).kind body a ((i.0, v.0))),
          tt,
        )
    silent-by kind.TsModuleBlock [] l = absurd l.have
    silent-by kind.TsModuleBlock (a0 ∷ a1 ∷ cs) l = absurd l.have.1
    silent-by kind.BlockStmt (statements ∷ []) l =
        let i = l.out part.Scope (scoped kind.BlockStmt (statements ∷ []) l refl refl) in
        let v = l.out part.Var (block-vars (statements ∷ []) l (is_body r) refl) in
        done (statements ∷ []) (busy (role.Plain) statements (shape_of Many sort.Stmt) l.told.0 l.have.0 refl (λ a. list-needs id (role.Plain) sort.Stmt (out-Node statements).kind statements a ((i.0, v.0))), tt)
    silent-by kind.BlockStmt [] l = absurd l.have
    silent-by kind.BlockStmt (a0 ∷ a1 ∷ cs) l = absurd l.have.1
    silent-by kind.IfStmt (test ∷ yes' ∷ no' ∷ []) l =
        let v = l.out part.Var l.needs in
        done (test ∷ yes' ∷ no' ∷ []) (
          calm (role.Plain) test (shape_of One sort.Expr) l.told.0 l.have.0 refl refl,
          (
            busy (role.Plain) yes' (shape_of One sort.Stmt) l.told.1.0 l.have.1.0 refl (λ a. body-needs id role.Plain sort.Stmt (out-Node yes').kind yes' a (body-plain (l.ws 1) yes' l.placed.1.0 (l.bodies 1)) v.1.0),
            (busy (role.Plain) no' (shape_of Maybe sort.Stmt) l.told.1.1.0 l.have.1.1.0 refl (λ a. maybe-body-needs id role.Plain sort.Stmt (out-Node no').kind no' a (body-plain (l.ws 2) no' l.placed.1.1.0 (l.bodies 2)) v.1.1.0), tt),
          ),
        )
    silent-by kind.IfStmt [] l = absurd l.have
    silent-by kind.IfStmt (a0 ∷ []) l = absurd l.have.1
    silent-by kind.IfStmt (a0 ∷ a1 ∷ []) l = absurd l.have.1.1
    silent-by kind.IfStmt (a0 ∷ a1 ∷ a2 ∷ a3 ∷ cs) l = absurd l.have.1.1.1
    silent-by kind.LabeledStmt (label ∷ body ∷ []) l =
        let v = l.out part.Var l.needs in
        done (label ∷ body ∷ []) (
          calm (role.Name) label (shape_of One sort.Ident) l.told.0 l.have.0 refl refl,
          (busy (role.Plain) body (shape_of One sort.Stmt) l.told.1.0 l.have.1.0 refl (λ a. body-needs id role.Plain sort.Stmt (out-Node body).kind body a (body-plain (l.ws 1) body l.placed.1.0 (l.bodies 1)) v.1.0), tt),
        )
    silent-by kind.LabeledStmt [] l = absurd l.have
    silent-by kind.LabeledStmt (a0 ∷ []) l = absurd l.have.1
    silent-by kind.LabeledStmt (a0 ∷ a1 ∷ a2 ∷ cs) l = absurd l.have.1.1
    silent-by kind.WhileStmt (test ∷ body ∷ []) l =
        let v = l.out part.Var l.needs in
        done (test ∷ body ∷ []) (
          calm (role.Plain) test (shape_of One sort.Expr) l.told.0 l.have.0 refl refl,
          (busy (role.Plain) body (shape_of One sort.Stmt) l.told.1.0 l.have.1.0 refl (λ a. body-needs id role.Plain sort.Stmt (out-Node body).kind body a (body-plain (l.ws 1) body l.placed.1.0 (l.bodies 1)) v.1.0), tt),
        )
    silent-by kind.WhileStmt [] l = absurd l.have
    silent-by kind.WhileStmt (a0 ∷ []) l = absurd l.have.1
    silent-by kind.WhileStmt (a0 ∷ a1 ∷ a2 ∷ cs) l = absurd l.have.1.1
    silent-by kind.DoWhileStmt (test ∷ body ∷ []) l =
        let v = l.out part.Var l.needs in
        done (test ∷ body ∷ []) (
          calm (role.Plain) test (shape_of One sort.Expr) l.told.0 l.have.0 refl refl,
          (busy (role.Plain) body (shape_of One sort.Stmt) l.told.1.0 l.have.1.0 refl (λ a. body-needs id role.Plain sort.Stmt (out-Node body).kind body a (body-plain (l.ws 1) body l.placed.1.0 (l.bodies 1)) v.1.0), tt),
        )
    silent-by kind.DoWhileStmt [] l = absurd l.have
    silent-by kind.DoWhileStmt (a0 ∷ []) l = absurd l.have.1
    silent-by kind.DoWhileStmt (a0 ∷ a1 ∷ a2 ∷ cs) l = absurd l.have.1.1
    silent-by kind.ForStmt (init ∷ test ∷ update ∷ body ∷ []) l =
        let i = l.out part.Scope (scoped kind.ForStmt (init ∷ test ∷ update ∷ body ∷ []) l refl refl) in
        let v = l.out part.Var l.needs in
        done (init ∷ test ∷ update ∷ body ∷ []) (
          busy (role.Plain) init (shape_of Maybe sort.VarDeclOrExpr) l.told.0 l.have.0 refl (λ a. maybe-init-needs id role.Plain sort.VarDeclOrExpr (out-Node init).kind init a refl i.0 v.0),
          (
            calm (role.Plain) test (shape_of Maybe sort.Expr) l.told.1.0 l.have.1.0 refl refl,
            (
              calm (role.Plain) update (shape_of Maybe sort.Expr) l.told.1.1.0 l.have.1.1.0 refl refl,
              (busy (role.Plain) body (shape_of One sort.Stmt) l.told.1.1.1.0 l.have.1.1.1.0 refl (λ a. body-needs id role.Plain sort.Stmt (out-Node body).kind body a (body-plain (l.ws 3) body l.placed.1.1.1.0 (l.bodies 3)) v.1.1.1.0), tt),
            ),
          ),
        )
    silent-by kind.ForStmt [] l = absurd l.have
    silent-by kind.ForStmt (a0 ∷ []) l = absurd l.have.1
    silent-by kind.ForStmt (a0 ∷ a1 ∷ []) l = absurd l.have.1.1
    silent-by kind.ForStmt (a0 ∷ a1 ∷ a2 ∷ []) l = absurd l.have.1.1.1
    silent-by kind.ForStmt (a0 ∷ a1 ∷ a2 ∷ a3 ∷ a4 ∷ cs) l = absurd l.have.1.1.1.1
    silent-by kind.ForInStmt (left ∷ right ∷ body ∷ []) l =
        let i = l.out part.Scope (scoped kind.ForInStmt (left ∷ right ∷ body ∷ []) l refl refl) in
        let v = l.out part.Var l.needs in
        done (left ∷ right ∷ body ∷ []) (
          busy (role.Plain) left (shape_of One sort.ForHead) l.told.0 l.have.0 refl (λ a. head-needs id role.Plain sort.ForHead (out-Node left).kind left a refl i.0 v.0),
          (
            calm (role.Plain) right (shape_of One sort.Expr) l.told.1.0 l.have.1.0 refl refl,
            (busy (role.Plain) body (shape_of One sort.Stmt) l.told.1.1.0 l.have.1.1.0 refl (λ a. body-needs id role.Plain sort.Stmt (out-Node body).kind body a (body-plain (l.ws 2) body l.placed.1.1.0 (l.bodies 2)) v.1.1.0), tt),
          ),
        )
    silent-by kind.ForInStmt [] l = absurd l.have
    silent-by kind.ForInStmt (a0 ∷ []) l = absurd l.have.1
    silent-by kind.ForInStmt (a0 ∷ a1 ∷ []) l = absurd l.have.1.1
    silent-by kind.ForInStmt (a0 ∷ a1 ∷ a2 ∷ a3 ∷ cs) l = absurd l.have.1.1.1
    silent-by (kind.ForOfStmt x) (left ∷ right ∷ body ∷ []) l =
        let i = l.out part.Scope (scoped (kind.ForOfStmt x) (left ∷ right ∷ body ∷ []) l refl refl) in
        let v = l.out part.Var l.needs in
        done (left ∷ right ∷ body ∷ []) (
          busy (role.Plain) left (shape_of One sort.ForHead) l.told.0 l.have.0 refl (λ a. head-needs id role.Plain sort.ForHead (out-Node left).kind left a refl i.0 v.0),
          (
            calm (role.Plain) right (shape_of One sort.Expr) l.told.1.0 l.have.1.0 refl refl,
            (busy (role.Plain) body (shape_of One sort.Stmt) l.told.1.1.0 l.have.1.1.0 refl (λ a. body-needs id role.Plain sort.Stmt (out-Node body).kind body a (body-plain (l.ws 2) body l.placed.1.1.0 (l.bodies 2)) v.1.1.0), tt),
          ),
        )
    silent-by (kind.ForOfStmt x) [] l = absurd l.have
    silent-by (kind.ForOfStmt x) (a0 ∷ []) l = absurd l.have.1
    silent-by (kind.ForOfStmt x) (a0 ∷ a1 ∷ []) l = absurd l.have.1.1
    silent-by (kind.ForOfStmt x) (a0 ∷ a1 ∷ a2 ∷ a3 ∷ cs) l = absurd l.have.1.1.1
    silent-by kind.SwitchStmt (e ∷ cases ∷ []) l =
        let i = l.out part.Scope (scoped kind.SwitchStmt (e ∷ cases ∷ []) l refl refl) in
        let v = l.out part.Var l.needs in
        done (e ∷ cases ∷ []) (
          calm (role.Plain) e (shape_of One sort.Expr) l.told.0 l.have.0 refl refl,
          (busy (role.Plain) cases (shape_of Many sort.SwitchCase) l.told.1.0 l.have.1.0 refl (λ a. list-needs id (role.Plain) sort.SwitchCase (out-Node cases).kind cases a ((i.1.0, v.1.0))), tt),
        )
    silent-by kind.SwitchStmt [] l = absurd l.have
    silent-by kind.SwitchStmt (a0 ∷ []) l = absurd l.have.1
    silent-by kind.SwitchStmt (a0 ∷ a1 ∷ a2 ∷ cs) l = absurd l.have.1.1
    silent-by kind.SwitchCase (test ∷ statements ∷ []) l =
        let i = l.out part.Item l.needs.0 in
        let v = l.out part.Var l.needs.1 in
        done (test ∷ statements ∷ []) (
          calm (role.Plain) test (shape_of Maybe sort.Expr) l.told.0 l.have.0 refl refl,
          (busy (role.Plain) statements (shape_of Many sort.Stmt) l.told.1.0 l.have.1.0 refl (λ a. list-needs id (role.Plain) sort.Stmt (out-Node statements).kind statements a ((i.1.0, v.1.0))), tt),
        )
    silent-by kind.SwitchCase [] l = absurd l.have
    silent-by kind.SwitchCase (a0 ∷ []) l = absurd l.have.1
    silent-by kind.SwitchCase (a0 ∷ a1 ∷ a2 ∷ cs) l = absurd l.have.1.1
    silent-by kind.TryStmt (block ∷ handler ∷ finalizer ∷ []) l =
        let v = l.out part.Var l.needs in
        done (block ∷ handler ∷ finalizer ∷ []) (
          busy (role.Plain) block (shape_of One sort.BlockStmt) l.told.0 l.have.0 refl (λ a. block-needs id role.Plain sort.BlockStmt (out-Node block).kind block a (λ e. v.0)),
          (
            busy (role.Plain) handler (shape_of Maybe sort.CatchClause) l.told.1.0 l.have.1.0 refl (λ a. catch-needs id role.Plain sort.CatchClause (out-Node handler).kind handler a v.1.0),
            (busy (role.Plain) finalizer (shape_of Maybe sort.BlockStmt) l.told.1.1.0 l.have.1.1.0 refl (λ a. maybe-block-needs id role.Plain sort.BlockStmt (out-Node finalizer).kind finalizer a (λ e. v.1.1.0)), tt),
          ),
        )
    silent-by kind.TryStmt [] l = absurd l.have
    silent-by kind.TryStmt (a0 ∷ []) l = absurd l.have.1
    silent-by kind.TryStmt (a0 ∷ a1 ∷ []) l = absurd l.have.1.1
    silent-by kind.TryStmt (a0 ∷ a1 ∷ a2 ∷ a3 ∷ cs) l = absurd l.have.1.1.1
    silent-by kind.ExportDecl (declaration ∷ []) l =
        let i = l.out part.Item l.needs.0 in
        let v = l.out part.Var l.needs.1 in
        unless-none (meaning declaration).is_type n (meant n kind.ExportDecl (meaning declaration ∷ [])) (done (declaration ∷ []) (
          busy (passes_ambient (is_ambient r)) declaration (shape_of One sort.Decl) l.told.0 l.have.0 (default-role r kind.ExportDecl l.there 0 refl)
              (λ a. declaration-needs id (passes_ambient (is_ambient r)) sort.Decl (out-Node declaration).kind declaration a i.0 v.0),
          tt,
        ))
    silent-by kind.ExportDecl [] l = absurd l.have
    silent-by kind.ExportDecl (a0 ∷ a1 ∷ cs) l = absurd l.have.1
    silent-by kind.ExportDefaultDecl (declaration ∷ []) l =
        let i = l.out part.Item l.needs in
        let a = (shape_out (one sort.DefaultDecl) declaration l.have.0).0 in
        unless-none (meaning declaration).is_type n (meant n kind.ExportDefaultDecl (meaning declaration ∷ []))
        (done (declaration ∷ []) (l.told.0 (one sort.DefaultDecl) l.have.0 (λ e. a) (default-needs id role.Default sort.DefaultDecl (out-Node declaration).kind declaration a i.0), tt))
    silent-by kind.ExportDefaultDecl [] l = absurd l.have
    silent-by kind.ExportDefaultDecl (a0 ∷ a1 ∷ cs) l = absurd l.have.1
    silent-by (kind.Function x y) (ps ∷ body ∷ types ∷ type ∷ []) l =
        let i = l.out part.Scope (scoped (kind.Function x y) (ps ∷ body ∷ types ∷ type ∷ []) l refl refl) in
        done (ps ∷ body ∷ types ∷ type ∷ []) (
          busy (role.Plain) ps (shape_of Many sort.Param) l.told.0 l.have.0 refl (λ a. list-needs id (role.Plain) sort.Param (out-Node ps).kind ps a ((form.Parameter, i.0))),
          (
            busy (role.Body) body (shape_of Maybe sort.BlockStmt) l.told.1.0 l.have.1.0 refl (λ a. maybe-block-needs id role.Body sort.BlockStmt (out-Node body).kind body a (λ e. absurd (true-false refl e))),
            (
              calm (role.Plain) types (shape_of Maybe sort.TsTypeParamDecl) l.told.1.1.0 l.have.1.1.0 refl refl,
              (calm (role.Plain) type (shape_of Maybe sort.TsTypeAnn) l.told.1.1.1.0 l.have.1.1.1.0 refl refl, tt),
            ),
          ),
        )
    silent-by (kind.Function x y) [] l = absurd l.have
    silent-by (kind.Function x y) (a0 ∷ []) l = absurd l.have.1
    silent-by (kind.Function x y) (a0 ∷ a1 ∷ []) l = absurd l.have.1.1
    silent-by (kind.Function x y) (a0 ∷ a1 ∷ a2 ∷ []) l = absurd l.have.1.1.1
    silent-by (kind.Function x y) (a0 ∷ a1 ∷ a2 ∷ a3 ∷ a4 ∷ cs) l = absurd l.have.1.1.1.1
    silent-by (kind.Constructor x y) (key ∷ ps ∷ body ∷ []) l =
        let i = l.out part.Scope (scoped (kind.Constructor x y) (key ∷ ps ∷ body ∷ []) l refl refl) in
        unless-none (meaning body).is_absent n (meant n (kind.Constructor x y) (meaning key ∷ meaning ps ∷ meaning body ∷ [])) (done (key ∷ ps ∷ body ∷ []) (
          calm (role.Plain) key (shape_of One sort.PropName) l.told.0 l.have.0 refl refl,
          (
            busy (role.Plain) ps (shape_of Many sort.ParamOrTsParamProp) l.told.1.0 l.have.1.0 refl (λ a. list-needs id (role.Plain) sort.ParamOrTsParamProp (out-Node ps).kind ps a ((form.Parameter, i.1.0))),
            (busy (role.Body) body (shape_of Maybe sort.BlockStmt) l.told.1.1.0 l.have.1.1.0 refl (λ a. maybe-block-needs id role.Body sort.BlockStmt (out-Node body).kind body a (λ e. absurd (true-false refl e))), tt),
          ),
        ))
    silent-by (kind.Constructor x y) [] l = absurd l.have
    silent-by (kind.Constructor x y) (a0 ∷ []) l = absurd l.have.1
    silent-by (kind.Constructor x y) (a0 ∷ a1 ∷ []) l = absurd l.have.1.1
    silent-by (kind.Constructor x y) (a0 ∷ a1 ∷ a2 ∷ a3 ∷ cs) l = absurd l.have.1.1.1
    silent-by kind.GetterProp (key ∷ type ∷ body ∷ []) l =
        done (key ∷ type ∷ body ∷ []) (
          calm (role.Plain) key (shape_of One sort.PropName) l.told.0 l.have.0 refl refl,
          (
            calm (role.Plain) type (shape_of Maybe sort.TsTypeAnn) l.told.1.0 l.have.1.0 refl refl,
            (busy (role.Body) body (shape_of Maybe sort.BlockStmt) l.told.1.1.0 l.have.1.1.0 refl (λ a. maybe-block-needs id role.Body sort.BlockStmt (out-Node body).kind body a (λ e. absurd (true-false refl e))), tt),
          ),
        )
    silent-by kind.GetterProp [] l = absurd l.have
    silent-by kind.GetterProp (a0 ∷ []) l = absurd l.have.1
    silent-by kind.GetterProp (a0 ∷ a1 ∷ []) l = absurd l.have.1.1
    silent-by kind.GetterProp (a0 ∷ a1 ∷ a2 ∷ a3 ∷ cs) l = absurd l.have.1.1.1
    silent-by kind.StaticBlock (body ∷ []) l =
        done (body ∷ []) (busy (role.StaticBody) body (shape_of One sort.BlockStmt) l.told.0 l.have.0 refl (λ a. block-needs id role.StaticBody sort.BlockStmt (out-Node body).kind body a (λ e. absurd (true-false refl e))), tt)
    silent-by kind.StaticBlock [] l = absurd l.have
    silent-by kind.StaticBlock (a0 ∷ a1 ∷ cs) l = absurd l.have.1
    silent-by kind.TsExportAssignment (e ∷ []) l =
        let a = calm (role.Plain) e (shape_of One sort.Expr) l.told.0 l.have.0 refl refl in (refl, a.0)
    silent-by kind.TsExportAssignment [] l = absurd l.have
    silent-by kind.TsExportAssignment (a0 ∷ a1 ∷ cs) l = absurd l.have.1
    silent-by kind.List cs l =
        let d : (j : ℕ) → is_default (passes_in_list r) ≡ false = λ j. default-role r kind.List l.there j refl in
        let all = list-silent shape.count shape.sort (λ j. passes_in_list r) 0 cs d l.have l.told (list-given cs l shape.sort (λ j. passes_in_list r) d l.needs) in
        (all-declared cs all, all-last cs all)
    silent-by kind.SeqExpr [] l = absurd l.have
    silent-by kind.SeqExpr (e ∷ es) l = done (e ∷ es) (all-calm (replicate (length (e ∷ es)) (one sort.Expr)) (λ j. role.Plain) 0 (e ∷ es) (expressions (length (e ∷ es))) l.have (λ j. refl) l.told)
      where
        expressions : (m : ℕ) → list_all (λ (o : Shape). quiet o.sort) (replicate m (one sort.Expr)) ≡ true
        expressions zero = refl
        expressions (suc m) = expressions m
    silent-by k cs l =
        unless-none (has_no_effect k (map meaning cs)) n (meant n k (map meaning cs))
        (done cs (all-calm (child_shapes k shape (length cs)) (λ j. role_by r k l.there j) 0 cs refl l.have (λ j. default-role r k l.there j refl) l.told))
