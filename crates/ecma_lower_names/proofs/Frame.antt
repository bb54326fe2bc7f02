-- A node where it stands in a ready tree, and what is known of its children then.
use Rattle.std.proofs.Common.{◌≡◌, refl, sym, ap, ◌∙◌, subst, ℕ, suc, ◌-◌, List, [], ◌∷◌, ◌++◌, map, length, Bool, true, false, cond, not, ◌&&◌, ◌||◌, bytes_eq}
use Rattle.std.specs.List.{All, list_any}
use Rattle.ecma_kind.specs.Sorts.{belongs}
use Rattle.ecma_kind.specs.declared.kind.Kind.{Kind}
use Rattle.ecma_kind.specs.declared.kind.Kind.TheVariants as kind
use Rattle.ecma_kind.specs.declared.shapes.Shape.{Shape}
use Rattle.ecma_kind.specs.declared.shapes.Sort.TheVariants as sort
use Rattle.ecma_tree.specs.declared.node.Node.{Node, out-Node}
use Rattle.ecma_tree.specs.Laws.{HaveShapes}
use Rattle.ecma_tree.specs.Sorted.{HasShape, child_shapes, is_list}
use Rattle.ecma_tree.specs.Values.{is_value_where}
use Rattle.ecma_tree.proofs.Layers.{from_leaves_out}
use Rattle.ecma_tree.proofs.Valuing.{is_value_where-out, value_where_by}
use Rattle.ecma_rules.specs.declared.standing.Standing.{Standing}
use Rattle.ecma_rules.specs.Children.{has_child}
use Rattle.ecma_rules.specs.Surroundings.{standing_by}
use Rattle.ecma_fits.specs.declared.role.Role.{Role as FitRole}
use Rattle.ecma_fits.specs.declared.unfit.Where.{Where}
use Rattle.ecma_fits.specs.Fitting.{where_in}
use Rattle.ecma_fits.specs.Roles.{role_in as fit_role_in}
use Rattle.ecma_scope.specs.declared.form.Part.{Part}
use Rattle.ecma_scope.specs.declared.form.Part.TheVariants as part
use Rattle.ecma_scope.specs.declared.role.Role.{Role}
use Rattle.ecma_scope.specs.Declarations.{holds_vars, own_part, sought_by, sought_in}
use Rattle.ecma_scope.specs.Resolved.{context_count, taken}
use Rattle.ecma_scope.specs.Scopes.{covers, is_ambient, is_default, is_there, opens, opens_by, role_by}
use Rattle.ecma_strip.specs.Staying.{is_this, is_this_ident, stays}
use Rattle.ecma_sources.specs.TypesAlone.{adds_types_alone, adds_types_by, alone_step, has_ambient_head, has_bodiless, has_stray_receiver, is_lone_receiver, is_lowered, staying_hold}
use Rattle.ecma_hygiene.specs.Ids.{Id as TreeId, Scope, contexts_of, has_context, innermost, is_body_block, is_own, own_ids}
use Rattle.ecma_hygiene.specs.Sights.{Around, around_child, own_scope}
use Rattle.ecma_hygiene.proofs.Telling.{and-left, and-right, or-left, or-right, true-false}
use Rattle.ecma_hygiene_scopes.specs.Apart.{own_contexts}
use Rattle.ecma_hygiene_scopes.specs.DeclaredIds.{DeclaredId, ids_at, ids_declared, scope_ids}
use Rattle.ecma_hygiene_scopes.specs.Stops.{Stop, stops_at, stops_from}
use Rattle.ecma_hygiene_scopes.proofs.Membership.{own-agrees}
use Rattle.ecma_hygiene_scopes.proofs.Stopping.{All-first, All-second, stop-here, stops-below}
use Rattle.ecma_runs.specs.State.{Id}
use Rattle.ecma_runs.specs.Declarations.{has_no_effect}
use Rattle.ecma_runs.specs.Environment.{is_among}
use Rattle.ecma_runs.specs.Evaluation.{meaning, meaning_by, no_effect, role_by as meant}
use Rattle.ecma_runs.specs.Meaning.{Meaning}
use Rattle.ecma_runs.proofs.Layer.{meaning_out}
use Rattle.ecma_lower_names.proofs.Going.{goes_silently}
use Rattle.ecma_lower_names.proofs.Needs.{Clean, Needs}
use Rattle.ecma_lower_names.proofs.Parts.{Each, Placed, kept, kept-append, lacks-below, not-true, placed-below}
use Rattle.ecma_lower_names.proofs.Roles.{calm-role}
use Rattle.ecma_lower_names.proofs.Valueless.{shape_out}

-- ---- scopes

innermost-last : (ss : List Scope) (s : Scope) → innermost (ss ++ s ∷ []) ≡ s
innermost-last [] s = refl
innermost-last (x ∷ []) s = refl
innermost-last (x ∷ y ∷ ss) s = innermost-last (y ∷ ss) s

no-test : (b : Bool) → (b ≡ true → ⊥) → b ≡ false
no-test true h = absurd (h refl)
no-test false h = refl

contexts-made : (c : ℕ) (text : List ℕ) (ids : List TreeId) → has_context c (map (λ id. id.1) ids) ≡ false → has_context c (contexts_of ids text) ≡ false
contexts-made c text [] h = refl
contexts-made c text (x ∷ xs) h = go (bytes_eq x.0 text) (contexts-made c text xs (or-right _ (has_context c (map (λ id. id.1) xs)) h))
  where
    go : (b : Bool) → has_context c (contexts_of xs text) ≡ false → has_context c (cond b (x.1 ∷ []) [] ++ contexts_of xs text) ≡ false
    go true rest = (λ j. or-left _ (has_context c (map (λ id. id.1) xs)) h j || rest j)
    go false rest = rest

and-false : (a b : Bool) → (a && b) ≡ false → b ≡ true → a ≡ false
and-false true b h e = absurd (true-false e h)
and-false false b h e = refl

unless : (b c : Bool) → c ≡ false → not (b && c) ≡ true
unless true c h = ap not h
unless false c h = refl

-- ---- what goes, and what adds types alone

alone-out : (n : Node) → adds_types_alone n ≡ (adds_types_by (out-Node n).kind (out-Node n).children && staying_hold (is_list (out-Node n).kind) (out-Node n).children (map adds_types_alone (out-Node n).children))
alone-out n = from_leaves_out Bool alone_step n

-- a child that stays adds types alone
abbrev Holds : Bool → Node → Type 0
Holds list c = ((list && not (stays c)) || adds_types_alone c) ≡ true

each-holds : (list : Bool) (i : ℕ) (cs : List Node) → staying_hold list cs (map adds_types_alone cs) ≡ true → Each (λ j c. Holds list c) i cs
each-holds list i [] h = tt
each-holds list i (c ∷ cs) h =
    let a = (list && not (stays c)) || adds_types_alone c in
    let b = staying_hold list cs (map adds_types_alone cs) in
    (and-left a b h, each-holds list (suc i) cs (and-right a b h))

each-named : (i : ℕ) (cs : List Node) → list_any is_lone_receiver cs ≡ false → Each (λ j c. is_this c ≡ false) i cs
each-named i [] h = tt
each-named i (c ∷ cs) h =
    let a = is_lone_receiver c in
    let b = list_any is_lone_receiver cs in
    (or-right (is_this_ident (out-Node c).kind) (is_this c) (or-left a b h), each-named (suc i) cs (or-right a b h))

module _ (n : Node) (alone : adds_types_alone n ≡ true) where
  abbrev k : Kind
  k = (out-Node n).kind

  abbrev cs : List Node
  cs = (out-Node n).children

  abbrev last : Bool
  last = not (has_bodiless k cs) && not (has_stray_receiver k cs)

  abbrev rest : Bool
  rest = not (has_ambient_head k cs) && last

  parts : (not (is_lowered k) && rest) ≡ true
  parts = and-left (adds_types_by k cs) (staying_hold (is_list k) cs (map adds_types_alone cs)) (sym (alone-out n) ∙ alone)

  not-lowered : is_lowered k ≡ false
  not-lowered = not-true (is_lowered k) (and-left (not (is_lowered k)) rest parts)

  no-receiver : has_stray_receiver k cs ≡ false
  no-receiver =
      not-true (has_stray_receiver k cs)
      (and-right (not (has_bodiless k cs)) (not (has_stray_receiver k cs)) (and-right (not (has_ambient_head k cs)) last (and-right (not (is_lowered k)) rest parts)))

  holds-below : Each (λ j c. Holds (is_list k) c) 0 cs
  holds-below = each-holds (is_list k) 0 cs (and-right (adds_types_by k cs) (staying_hold (is_list k) cs (map adds_types_alone cs)) (sym (alone-out n) ∙ alone))

  -- no item of a list is `this`
  named-below : is_list k ≡ true → Each (λ j c. is_this c ≡ false) 0 cs
  named-below l = by k cs l no-receiver
    where
      by : (k : Kind) (xs : List Node) → is_list k ≡ true → has_stray_receiver k xs ≡ false → Each (λ j c. is_this c ≡ false) 0 xs
      by kind.List xs l h = each-named 0 xs h
      by _ xs l h = absurd (true-false l refl)

module _ (id : Id) where
  -- what declares the id neither where it stands nor behind all items
  abbrev pub Silent : Meaning → Type 0
  Silent m = (is_among id m.declared ≡ false) × (is_among id m.last_declared ≡ false)

  nothing-silent : (n : Node) (k : Kind) (ms : List Meaning) → has_no_effect k ms ≡ true → Silent (meaning_by n k ms)
  nothing-silent n kind.TsTypeAnn ms h = (refl, refl)
  nothing-silent n kind.TsTypeParamDecl ms h = (refl, refl)
  nothing-silent n kind.TsTypeParamInstantiation ms h = (refl, refl)
  nothing-silent n kind.ParenExpr ms h = absurd (cc)
  nothing-silent n kind.TsAsExpr ms h = absurd (cc)
  nothing-silent n kind.TsTypeAssertion ms h = absurd (cc)
  nothing-silent n kind.TsConstAssertion ms h = absurd (cc)
  nothing-silent n kind.TsNonNullExpr ms h = absurd (cc)
  nothing-silent n kind.TsInstantiation ms h = absurd (cc)
  nothing-silent n kind.TsSatisfiesExpr ms h = absurd (cc)
  nothing-silent n kind.TsQualifiedName ms h = absurd (cc)
  nothing-silent n (kind.TsImportEqualsDecl is_export false) ms h = absurd (cc)
  nothing-silent n (kind.TsImportEqualsDecl true true) ms h = (refl, refl)
  nothing-silent n (kind.TsImportEqualsDecl false true) ms h = (refl, refl)
  nothing-silent n (kind.TsEnumDecl true is_const) ms h = (refl, refl)
  nothing-silent n (kind.TsEnumDecl false is_const) ms h = absurd (cc)
  nothing-silent n kind.TsEnumMember ms h = absurd (cc)
  nothing-silent n k ms h = subst (λ b. Silent (cond b (no_effect n) (meant n k ms))) (sym h) (refl, refl)

  -- no scope around declares an id in this context
  abbrev pub NoFree : Stop → Type 0
  NoFree stop = has_context id.ctxt (own_contexts stop) ≡ false

  abbrev pub HasStops : Around → Node → Type 0
  HasStops s n = (left : ℕ) × All NoFree (stops_at n s left)

  pub record Stand (shape : Shape) (w : Where) (s : Around) (n : Node) : Type 0 where
    pub has : HasShape shape n
    pub placed : Placed w n
    pub stops : HasStops s n
    pub around : has_context id.ctxt (innermost s.scopes id.sym) ≡ false
    pub calm : is_ambient s.role ≡ false
    pub seat : is_default s.role ≡ true → belongs sort.DefaultDecl (out-Node n).kind ≡ true
    pub alone : adds_types_alone n ≡ true

  -- a node that stands so declares the id not, where it has what it needs
  abbrev pub Held : Node → Type 0
  Held n = (shape : Shape) (w : Where) (s : Around) → Stand shape w s n → Needs id s.role shape.sort (out-Node n).kind n → Silent (meaning n)

  -- so a child in a role
  abbrev pub Told : Role → Node → Type 0
  Told r c = (shape : Shape) → HasShape shape c → (is_default r ≡ true → belongs sort.DefaultDecl (out-Node c).kind ≡ true) → Needs id r shape.sort (out-Node c).kind c → Silent (meaning c)

  each-stops : (around : ℕ → Around) (i : ℕ) (cs : List Node) (left : ℕ) → All NoFree (stops_from around i cs (map stops_at cs) left) → Each (λ j c. HasStops (around j) c) i cs
  each-stops around i [] left h = tt
  each-stops around i (c ∷ cs) left h =
      let less = left - context_count c (around i).role in
      let rest = stops_from around (suc i) cs (map stops_at cs) less in
      ((left, All-first NoFree (stops_at c (around i) left) rest h), each-stops around (suc i) cs less (All-second NoFree (stops_at c (around i) left) rest h))

  module _ (shape : Shape) (w : Where) (s : Around) (n : Node) (is : Stand shape w s n) where
    free-here : NoFree (record { node = n; around = s; left = is.stops.0 })
    free-here = stop-here NoFree n s is.stops.0 is.stops.1

    -- the scope that it opens declares the id not
    own-free : opens s.role n ≡ true → has_context id.ctxt (own_scope s.role s.scopes n id.sym) ≡ false
    own-free o =
        contexts-made id.ctxt id.sym (own_ids s.role (innermost s.scopes) n)
        (sym (ap (λ b. has_context id.ctxt (cond b (map (λ x. x.1) (own_ids s.role (innermost s.scopes) n)) [])) o) ∙ free-here)

    around-by : (b : Bool) (i : ℕ) → opens s.role n ≡ b → has_context id.ctxt (innermost (cond (b && covers s.role (out-Node n).kind i) (s.scopes ++ own_scope s.role s.scopes n ∷ []) s.scopes) id.sym) ≡ false
    around-by false i o = is.around
    around-by true i o = by (covers s.role (out-Node n).kind i)
      where
        by : (b : Bool) → has_context id.ctxt (innermost (cond b (s.scopes ++ own_scope s.role s.scopes n ∷ []) s.scopes) id.sym) ≡ false
        by true = ap (λ (scope : Scope). has_context id.ctxt (scope id.sym)) (innermost-last s.scopes (own_scope s.role s.scopes n)) ∙ own-free o
        by false = is.around

    around-below : (i : ℕ) → has_context id.ctxt (innermost (around_child s n i).scopes id.sym) ≡ false
    around-below i = around-by (opens s.role n) i refl

    -- nor any name that it may declare
    none-there : opens s.role n ≡ true → kept id (scope_ids s.role n) ≡ false
    none-there o =
        and-false (kept id (scope_ids s.role n)) (is_own (is_body_block s.role (out-Node n).kind) (innermost s.scopes) (id.sym, id.ctxt))
        (sym (own-agrees (id.sym, id.ctxt) s.role s.scopes n) ∙ own-free o)
        (unless (is_body_block s.role (out-Node n).kind) (has_context id.ctxt (innermost s.scopes id.sym)) is.around)

    abbrev own_found : Bool → List DeclaredId
    own_found b = ids_declared n (record { part = own_part s.role; stays = b })

    abbrev vars_found : Bool → List DeclaredId
    vars_found b = cond (holds_vars s.role (out-Node n).kind) (ids_declared n (record { part = part.Var; stays = b })) []

    both-there : opens s.role n ≡ true → (kept id (own_found true) || kept id (vars_found true)) ≡ false
    both-there o =
        sym (ap (λ b. kept id (own_found (not b) ++ vars_found (not b))) is.calm ∙ kept-append id (own_found true) (vars_found true)) ∙ none-there o

    pub opened : opens s.role n ≡ true → Clean id (own_part s.role) n
    opened o = or-left (kept id (own_found true)) (kept id (vars_found true)) (both-there o)

    pub opened-vars : opens s.role n ≡ true → holds_vars s.role (out-Node n).kind ≡ true → Clean id part.Var n
    opened-vars o v =
        sym (ap (λ b. kept id (cond b (ids_declared n (record { part = part.Var; stays = true })) [])) v) ∙ or-right (kept id (own_found true)) (kept id (vars_found true)) (both-there o)

    -- a child: one that stays stands so, and another has no effect
    told-by : (i : ℕ) (c : Node) → Held c → Placed (where_in w n i) c → HasStops (around_child s n i) c → Holds (is_list (out-Node n).kind) c → (is_list (out-Node n).kind ≡ true → is_this c ≡ false)
        → Told (around_child s n i).role c
    told-by i c held placed stops holds named shape' has seat needs = by (is_list (out-Node n).kind && not (stays c)) refl holds
      where
        goes : (list st : Bool) → (list && not st) ≡ true → (list ≡ true) × (st ≡ false)
        goes true true h = absurd (true-false h refl)
        goes true false h = (refl, refl)
        goes false st h = absurd (true-false h refl)

        by : (b : Bool) → (is_list (out-Node n).kind && not (stays c)) ≡ b → (b || adds_types_alone c) ≡ true → Silent (meaning c)
        by true e h =
            (let t = goes (is_list (out-Node n).kind) (stays c) e in
            subst Silent (sym (meaning_out c)) (nothing-silent c (out-Node c).kind (map meaning (out-Node c).children) (goes_silently c shape' has (named t.0) t.1)))
        by false e h =
            held shape' (where_in w n i) (around_child s n i)
            (record { has = has; placed = placed; stops = stops; around = around-below i; calm = calm-role s.role (out-Node n).kind (is_there (out-Node n).children 1) i is.calm (not-lowered n is.alone); seat = seat; alone = h }) needs

    all-told : (i : ℕ) (cs : List Node) → Each (λ j c. Held c) i cs → Each (λ j c. Placed (where_in w n j) c) i cs → Each (λ j c. HasStops (around_child s n j) c) i cs
        → Each (λ j c. Holds (is_list (out-Node n).kind) c) i cs → (is_list (out-Node n).kind ≡ true → Each (λ j c. is_this c ≡ false) i cs) → Each (λ j c. Told (around_child s n j).role c) i cs
    all-told i [] held placed stops holds named = tt
    all-told i (c ∷ cs) held placed stops holds named =
        (told-by i c held.0 placed.0 stops.0 holds.0 (λ l. (named l).0), all-told (suc i) cs held.1 placed.1 stops.1 holds.1 (λ l. (named l).1))

    pub told-below : Each (λ j c. Held c) 0 (out-Node n).children → Each (λ j c. Told (around_child s n j).role c) 0 (out-Node n).children
    told-below held =
        all-told 0 (out-Node n).children held (placed-below w n is.placed)
        (each-stops (around_child s n) 0 (out-Node n).children (is.stops.0 - taken s.role n) (stops-below NoFree n s is.stops.0 is.stops.1)) (holds-below n is.alone) (named-below n is.alone)

  -- what is known of a node by its kind and its children
  pub record Layer (r : Role) (shape : Shape) (n : Node) (k : Kind) (cs : List Node) : Type 0 where
    pub have : HaveShapes (child_shapes k shape (length cs)) cs
    pub fit : FitRole
    pub standing : Standing
    pub first : Bool
    pub second : Bool
    pub there : Bool
    pub ws : ℕ → Where
    pub placed : Each (λ i c. Placed (ws i) c) 0 cs
    pub roles : (i : ℕ) → (ws i).role ≡ fit_role_in fit k i
    pub bodies : (i : ℕ) → (ws i).around.standing ≡ standing_by standing k first second i
    pub told : Each (λ i c. Told (role_by r k there i) c) 0 cs
    pub value : Bool
    pub valued : value ≡ value_where_by true k cs
    pub out : (p : Part) → Clean id p n → Each (λ i c. kept id (ids_at (sought_by p true value k i) (ids_declared c)) ≡ false) 0 cs
    pub opened : opens_by r k (is_there cs 0) ≡ true → Clean id (own_part r) n
    pub vars : opens_by r k (is_there cs 0) ≡ true → holds_vars r k ≡ true → Clean id part.Var n
    pub seat : is_default r ≡ true → belongs sort.DefaultDecl k ≡ true
    pub unlowered : is_lowered k ≡ false
    pub needs : Needs id r shape.sort k n

  pub layer : (shape : Shape) (w : Where) (s : Around) (n : Node) → Stand shape w s n → Needs id s.role shape.sort (out-Node n).kind n → Each (λ j c. Held c) 0 (out-Node n).children
      → Layer s.role shape n (out-Node n).kind (out-Node n).children
  unfolding sought_in
  layer shape w s n is needs held = record {
    have = (shape_out shape n is.has).1;
    fit = w.role;
    standing = w.around.standing;
    first = has_child n 1;
    second = has_child n 2;
    there = is_there (out-Node n).children 1;
    ws = where_in w n;
    placed = placed-below w n is.placed;
    roles = λ i. refl;
    bodies = λ i. refl;
    told = told-below shape w s n is held;
    value = is_value_where true n;
    valued = is_value_where-out true n;
    out = λ p h. lacks-below id n (record { part = p; stays = true }) h;
    opened = opened shape w s n is;
    vars = opened-vars shape w s n is;
    seat = is.seat;
    unlowered = not-lowered n is.alone;
    needs = needs;
  }
