-- What one scope alone declares, and no free name has the text of, meets nothing.
use Rattle.std.proofs.Common.{◌≡◌, ◌⊎◌, inl, inr, ℕ, suc, ◌-◌, Bool, true, false, ◌&&◌, ◌||◌, cond, List, [], ◌∷◌, ◌++◌, map, refl, sym, ap, ap₂, ◌∙◌, subst, bytes_eq, nat_eq}
use Rattle.std.specs.List.{All, list_any}
use Rattle.std.proofs.lemmas.List.Folds.{list_any-append}
use Rattle.ecma_kind.specs.Sorts.{belongs}
use Rattle.ecma_kind.specs.declared.kind.Kind.{Kind}
use Rattle.ecma_kind.specs.declared.kind.Kind.TheVariants as kind
use Rattle.ecma_kind.specs.declared.shapes.Sort.TheVariants as sort
use Rattle.ecma_tree.specs.declared.node.Node.{Node, Node-F, ind-Node, out-Node, roll-Node}
use Rattle.ecma_tree.specs.declared.node.Node.TheViews.{out-roll-Node}
use Rattle.ecma_scope.specs.declared.role.Role.TheVariants as role
use Rattle.ecma_scope.specs.Resolved.{context_count, is_name, taken}
use Rattle.ecma_scope.specs.Scopes.{covers, is_there, opens, opens_by}
use Rattle.ecma_hygiene.specs.declared.sight.Meeting.{Meeting}
use Rattle.ecma_hygiene.specs.Capture.{NoneDeclares}
use Rattle.ecma_hygiene.specs.Ids.{Id, Scope, contexts_of, has_context, innermost, is_body_block, own_ids, same_id}
use Rattle.ecma_hygiene.specs.Sights.{Around, around_child, beside, beside_parameters, hidden, hides, meet, meetings, meetings_at, meets, nowhere, own_scope}
use Rattle.ecma_hygiene.specs.Walks.{gathered_from}
use Rattle.ecma_hygiene.proofs.Telling.{or-left, or-right, true-false}
use Rattle.ecma_hygiene.proofs.Walking.{gathered-out}
use Rattle.ecma_hygiene_scopes.specs.Apart.{own_contexts}
use Rattle.ecma_hygiene_scopes.specs.Stops.{Stop, stops_at, stops_from}
use Rattle.ecma_hygiene_scopes.proofs.Membership.{turned}
use Rattle.ecma_hygiene_scopes.proofs.Stopping.{All-first, All-second, stop-here, stops-below}

and-false : (a b : Bool) → b ≡ false → (a && b) ≡ false
and-false true b e = e
and-false false b e = refl

both-false : (a b : Bool) → a ≡ false → b ≡ false → (a || b) ≡ false
both-false a b e f = ap₂ (λ x y. x || y) e f

module _ (id : Id) where
  -- a meeting with it
  abbrev pub hits : Meeting → Bool
  hits m = same_id m.binding id

  -- these scopes do not declare its context
  abbrev AllLack : List Scope → Type 0
  AllLack [] = Unit {0}
  AllLack (s ∷ ss) = ((text : List ℕ) → has_context id.1 (s text) ≡ false) × AllLack ss

  -- nor do those further in than the first
  abbrev pub Front : List Scope → Type 0
  Front [] = ⊥
  Front (s ∷ ss) = AllLack ss

  lack-push : (ss : List Scope) (own : Scope) → AllLack ss → ((text : List ℕ) → has_context id.1 (own text) ≡ false) → AllLack (ss ++ own ∷ [])
  lack-push [] own l h = (h, tt)
  lack-push (s ∷ ss) own l h = (l.0, lack-push ss own l.1 h)

  front-push : (ss : List Scope) (own : Scope) → Front ss → ((text : List ℕ) → has_context id.1 (own text) ≡ false) → Front (ss ++ own ∷ [])
  front-push [] own l h = absurd l
  front-push (s ∷ ss) own l h = lack-push ss own l h

  -- ---- what hides it

  hidden-lacks : (ss : List Scope) (name : Id) (so_far : List ℕ) → AllLack ss → has_context id.1 so_far ≡ false → has_context id.1 (hidden ss name so_far) ≡ false
  hidden-lacks [] name so_far l h = h
  hidden-lacks (s ∷ ss) name so_far l h = hidden-lacks ss name (cond (has_context name.1 (s name.0)) [] (so_far ++ s name.0)) l.1 (by (has_context name.1 (s name.0)))
    where
      by : (b : Bool) → has_context id.1 (cond b [] (so_far ++ s name.0)) ≡ false
      by true = refl
      by false = list_any-append (nat_eq id.1) so_far (s name.0) ∙ both-false (has_context id.1 so_far) (has_context id.1 (s name.0)) h (l.0 name.0)

  abbrev Either : List Scope → Id → List ℕ → Type 0
  Either ss name so_far = NoneDeclares ss name ⊎ (has_context id.1 (hidden ss name so_far) ≡ false)

  hidden-step : (s : Scope) (ss : List Scope) (name : Id) (so_far : List ℕ) → AllLack ss → Either ss name (so_far ++ s name.0) → (b : Bool) → has_context name.1 (s name.0) ≡ b → Either (s ∷ ss) name so_far
  hidden-step s ss name so_far l rest true e = inr (ap (λ b. has_context id.1 (hidden ss name (cond b [] (so_far ++ s name.0)))) e ∙ hidden-lacks ss name [] l refl)
  hidden-step s ss name so_far l (inl none) false e = inl (e, none)
  hidden-step s ss name so_far l (inr h) false e = inr (ap (λ b. has_context id.1 (hidden ss name (cond b [] (so_far ++ s name.0)))) e ∙ h)

  hidden-either : (ss : List Scope) (name : Id) (so_far : List ℕ) → AllLack ss → Either ss name so_far
  hidden-either [] name so_far l = inl tt
  hidden-either (s ∷ ss) name so_far l = hidden-step s ss name so_far l.1 (hidden-either ss name (so_far ++ s name.0) l.1) (has_context name.1 (s name.0)) refl

  front-either : (ss : List Scope) (name : Id) → Front ss → Either ss name []
  front-either [] name l = absurd l
  front-either (s ∷ ss) name l = hidden-step s ss name [] l (hidden-either ss name ([] ++ s name.0) l) (has_context name.1 (s name.0)) refl

  -- ---- meetings

  meet-other : (name : Id) (ctxts : List ℕ) → bytes_eq name.0 id.0 ≡ false → list_any hits (meet name ctxts) ≡ false
  meet-other name [] e = refl
  meet-other name (x ∷ xs) e = both-false (same_id (name.0, x) id) (list_any hits (meet name xs)) (ap (λ b. b && nat_eq x id.1) e) (meet-other name xs e)

  meet-lacks : (name : Id) (ctxts : List ℕ) → has_context id.1 ctxts ≡ false → list_any hits (meet name ctxts) ≡ false
  meet-lacks name [] e = refl
  meet-lacks name (x ∷ xs) e =
      both-false (same_id (name.0, x) id) (list_any hits (meet name xs)) (and-false (bytes_eq name.0 id.0) (nat_eq x id.1) (turned id x id.1 ∙ or-left (nat_eq id.1 x) (has_context id.1 xs) e))
      (meet-lacks name xs (or-right (nat_eq id.1 x) (has_context id.1 xs) e))

  beside-lacks : (x : Id) (ctxts : List ℕ) → same_id x id ≡ false → list_any hits (beside x ctxts) ≡ false
  beside-lacks x [] e = refl
  beside-lacks x (c ∷ ctxts) e = both-false (same_id x id) (list_any hits (beside x ctxts)) e (beside-lacks x ctxts e)

  all-beside : (parameters : Scope) (ids : List Id) → has_context id.1 (map (λ other. other.1) ids) ≡ false → list_any hits (beside_parameters parameters ids) ≡ false
  all-beside parameters [] e = refl
  all-beside parameters (x ∷ ids) e =
      let rest = map (λ (other : Id). other.1) ids in
      list_any-append hits (beside x (parameters x.0)) (beside_parameters parameters ids)
      ∙ both-false (list_any hits (beside x (parameters x.0))) (list_any hits (beside_parameters parameters ids))
      (beside-lacks x (parameters x.0) (and-false (bytes_eq x.0 id.0) (nat_eq x.1 id.1) (turned id x.1 id.1 ∙ or-left (nat_eq id.1 x.1) (has_context id.1 rest) e)))
      (all-beside parameters ids (or-right (nat_eq id.1 x.1) (has_context id.1 rest) e))

  scope-lacks : (ids : List Id) → has_context id.1 (map (λ other. other.1) ids) ≡ false → (text : List ℕ) → has_context id.1 (contexts_of ids text) ≡ false
  scope-lacks [] e text = refl
  scope-lacks (x ∷ ids) e text = by (bytes_eq x.0 text) (scope-lacks ids (or-right (nat_eq id.1 x.1) (has_context id.1 (map (λ other. other.1) ids)) e) text)
    where
      by : (b : Bool) → has_context id.1 (contexts_of ids text) ≡ false → has_context id.1 (cond b (x.1 ∷ []) [] ++ contexts_of ids text) ≡ false
      by true rest = both-false (nat_eq id.1 x.1) (has_context id.1 (contexts_of ids text)) (or-left (nat_eq id.1 x.1) (has_context id.1 (map (λ other. other.1) ids)) e) rest
      by false rest = rest

  -- ---- nodes

  -- a node whose scope does not declare its context, and that is no free name of its text
  pub record Fine (free : ℕ) (stop : Stop) : Type 0 where
    pub lacks : has_context id.1 (own_contexts stop) ≡ false
    pub free_names : (text : List ℕ) (ctxt : ℕ) (optional : Bool) → (out-Node stop.node).kind ≡ kind.Ident text ctxt optional → is_name stop.around.role ≡ false
        → NoneDeclares stop.around.scopes (text, ctxt) → ctxt ≡ free
    pub others : (text : List ℕ) (ctxt : ℕ) (optional : Bool) → (out-Node stop.node).kind ≡ kind.Ident text ctxt optional → ctxt ≡ free → bytes_eq text id.0 ≡ false

  module _ (free : ℕ) where
    own-lacks : (n : Node) (s : Around) (left : ℕ) → Fine free (record { node = n; around = s; left = left }) → opens s.role n ≡ true
        → has_context id.1 (map (λ other. other.1) (own_ids s.role (innermost s.scopes) n)) ≡ false
    own-lacks n s left f e = sym (ap (λ b. has_context id.1 (cond b (map (λ other. other.1) (own_ids s.role (innermost s.scopes) n)) [])) e) ∙ f.lacks

    module _ (n : Node) (s : Around) (left : ℕ) (f : Fine free (record { node = n; around = s; left = left })) (front : Front s.scopes) where
      beside-none : (o b : Bool) → opens s.role n ≡ o → list_any hits (cond (o && b) (beside_parameters (innermost s.scopes) (own_ids s.role (innermost s.scopes) n)) []) ≡ false
      beside-none true true e = all-beside (innermost s.scopes) (own_ids s.role (innermost s.scopes) n) (own-lacks n s left f e)
      beside-none true false e = refl
      beside-none false b e = refl

      hides-none : (named : Bool) (k : Kind) → is_name s.role ≡ named → (out-Node n).kind ≡ k → list_any hits (hides named s.scopes k) ≡ false
      hides-none false (kind.Ident text ctxt optional) e is =
          elim (front-either s.scopes (text, ctxt) front) [
            | inl none ↦ meet-other (text, ctxt) (hidden s.scopes (text, ctxt) []) (f.others text ctxt optional is (f.free_names text ctxt optional is e none))
            | inr h ↦ meet-lacks (text, ctxt) (hidden s.scopes (text, ctxt) []) h
          ]
      hides-none false _ e is = refl
      hides-none true k e is = refl

      meets-none : list_any hits (meets s n) ≡ false
      meets-none =
          let first = cond (opens s.role n && is_body_block s.role (out-Node n).kind) (beside_parameters (innermost s.scopes) (own_ids s.role (innermost s.scopes) n)) [] in
          let second = hides (is_name s.role) s.scopes (out-Node n).kind in
          list_any-append hits first second
          ∙ both-false (list_any hits first) (list_any hits second) (beside-none (opens s.role n) (is_body_block s.role (out-Node n).kind) refl) (hides-none (is_name s.role) (out-Node n).kind refl refl)

      child-front : (o c : Bool) → opens s.role n ≡ o → Front (cond (o && c) (s.scopes ++ own_scope s.role s.scopes n ∷ []) s.scopes)
      child-front true true e = front-push s.scopes (own_scope s.role s.scopes n) front (scope-lacks (own_ids s.role (innermost s.scopes) n) (own-lacks n s left f e))
      child-front true false e = front
      child-front false c e = front

    abbrev Met : Node → Type 0
    Met n = (s : Around) (left : ℕ) → Front s.scopes → All (Fine free) (stops_at n s left) → list_any hits (meetings_at n s) ≡ false

    abbrev MetBelow : List Node → Type 0
    MetBelow ns = (around : ℕ → Around) (i left : ℕ) → ((j : ℕ) → Front (around j).scopes) → All (Fine free) (stops_from around i ns (map stops_at ns) left)
        → list_any hits (gathered_from Around Meeting around i (map meetings_at ns)) ≡ false

    met-below : (ns : List ((n : Node) × Met n)) → MetBelow (map (λ e. e.0) ns)
    met-below [] around i left front fine = refl
    met-below (x ∷ xs) around i left front fine =
        let ns : List Node = map (λ e. e.0) xs in
        let rest : List Meeting = gathered_from Around Meeting around (suc i) (map meetings_at ns) in
        let less : ℕ = left - context_count x.0 (around i).role in
        list_any-append hits (meetings_at x.0 (around i)) rest
        ∙ both-false (list_any hits (meetings_at x.0 (around i))) (list_any hits rest)
        (x.1 (around i) left (front i) (All-first (Fine free) (stops_at x.0 (around i) left) (stops_from around (suc i) ns (map stops_at ns) less) fine))
        (met-below xs around (suc i) less front (All-second (Fine free) (stops_at x.0 (around i) left) (stops_from around (suc i) ns (map stops_at ns) less) fine))

    layer-met : (n : Node) → MetBelow (out-Node n).children → Met n
    layer-met n children s left front fine =
        let f = stop-here (Fine free) n s left fine in
        let rest : List Meeting = gathered_from Around Meeting (around_child s n) 0 (map meetings_at (out-Node n).children) in
        ap (list_any hits) (gathered-out Around Meeting meets around_child n s) ∙ list_any-append hits (meets s n) rest
        ∙ both-false (list_any hits (meets s n)) (list_any hits rest) (meets-none n s left f front)
        (children (around_child s n) 0 (left - taken s.role n) (λ j. child-front n s left f front (opens s.role n) (covers s.role (out-Node n).kind j) refl) (stops-below (Fine free) n s left fine))

    met : (n : Node) → Met n
    met = ind-Node Met (λ x y is.
        layer-met (roll-Node x) (subst MetBelow (ap (λ (z : Node-F Node). z.children) is ∙ sym (ap (λ (z : Node-F Node). z.children) (out-roll-Node x))) (met-below y.children)))

    each-met : (ns : List Node) → MetBelow ns
    each-met [] around i left front fine = refl
    each-met (n ∷ ns) around i left front fine =
        let rest : List Meeting = gathered_from Around Meeting around (suc i) (map meetings_at ns) in
        let less : ℕ = left - context_count n (around i).role in
        list_any-append hits (meetings_at n (around i)) rest
        ∙ both-false (list_any hits (meetings_at n (around i))) (list_any hits rest)
        (met n (around i) left (front i) (All-first (Fine free) (stops_at n (around i) left) (stops_from around (suc i) ns (map stops_at ns) less) fine))
        (each-met ns around (suc i) less front (All-second (Fine free) (stops_at n (around i) left) (stops_from around (suc i) ns (map stops_at ns) less) fine))

    -- ---- a module

    root-hides : (named : Bool) (k : Kind) → list_any hits (hides named [] k) ≡ false
    root-hides false (kind.Ident text ctxt optional) = refl
    root-hides false _ = refl
    root-hides true k = refl

    root-beside : (o : Bool) (met : List Meeting) → list_any hits (cond (o && false) met []) ≡ false
    root-beside true met = refl
    root-beside false met = refl

    root-front : (k : Kind) (there : Bool) (own : Scope) (j : ℕ) → belongs sort.Module k ≡ true → Front (cond (opens_by role.Root k there && covers role.Root k j) (own ∷ []) [])
    unfolding opens_by covers
    root-front (kind.Module shebang) there own j e = tt
    root-front _ there own j e = absurd (true-false e refl)

    -- what no stop below a module has the context of meets nothing in it
    pub none-met : (tree : Node) (left : ℕ) → belongs sort.Module (out-Node tree).kind ≡ true
        → All (Fine free) (stops_from (around_child nowhere tree) 0 (out-Node tree).children (map stops_at (out-Node tree).children) left) → list_any hits (meetings tree) ≡ false
    none-met tree left whole fine =
        let beside = cond (opens role.Root tree && false) (beside_parameters (innermost []) (own_ids role.Root (innermost []) tree)) [] in
        let hiding = hides (is_name role.Root) [] (out-Node tree).kind in
        let rest : List Meeting = gathered_from Around Meeting (around_child nowhere tree) 0 (map meetings_at (out-Node tree).children) in
        ap (list_any hits) (gathered-out Around Meeting meets around_child tree nowhere) ∙ list_any-append hits (beside ++ hiding) rest
        ∙ both-false (list_any hits (beside ++ hiding)) (list_any hits rest)
        (list_any-append hits beside hiding
        ∙ both-false (list_any hits beside) (list_any hits hiding) (root-beside (opens role.Root tree) (beside_parameters (innermost []) (own_ids role.Root (innermost []) tree))) (root-hides (is_name role.Root) (out-Node tree).kind))
        (each-met (out-Node tree).children (around_child nowhere tree) 0 left
        (λ j. root-front (out-Node tree).kind (is_there (out-Node tree).children 0) (own_scope role.Root [] tree) j whole) fine)
