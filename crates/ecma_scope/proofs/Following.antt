-- The contexts of a resolved tree follow the bindings of its identifiers.
use Rattle.std.proofs.Common.{◌≡◌, ◌==◌, ℕ, zero, suc, ◌+◌, ◌-◌, ◌<◌, ◌≤◌, Bool, true, false, ◌&&◌, ◌||◌, not, cond, List, [], ◌∷◌, ◌++◌, map, Option, Some, None, refl, sym, ap, ap₂, ◌∙◌, subst, slice_get, bytes_eq, arith}
use Rattle.std.specs.List.{list_any}
use Rattle.ecma_kind.specs.declared.kind.Kind.{Kind}
use Rattle.ecma_kind.specs.declared.kind.Kind.TheVariants as kind
use Rattle.ecma_tree.specs.declared.node.Node.{Node, Node-F, out-Node}
use Rattle.ecma_tree.specs.declared.node.Node.TheViews.{out-roll-Node}
use Rattle.ecma_scope.specs.declared.form.Declaration.{Declaration}
use Rattle.ecma_scope.specs.declared.role.Role.{Role}
use Rattle.ecma_scope.specs.declared.role.Role.TheVariants as role
use Rattle.ecma_scope.specs.Scopes.{at_child, covers, is_root, is_there, of_exports, of_specifier, opens, passes_ambient, passes_in_list, role_by, role_in}
use Rattle.ecma_scope.specs.Declarations.{declares, keeps, names, stated}
use Rattle.ecma_scope.specs.Resolved.{Place, Scope, contexts, is_name, resolved, context_count, context_in, given, innermost, inside, kind_at, placed, resolved_at, scope_at, taken}
use Rattle.ecma_scope.specs.Frames.{children_at}
use Rattle.ecma_scope.specs.Bindings.{Around, FollowBindings, HasId, Identifier, IsAt, IsBound, IsFree, Leads, NoneDeclares, Occurrence, ResolvedFollows, Seen, child_of, nearest, opened_by, root_of}
use Rattle.ecma_scope.proofs.Counting.{At, Comes, comes-next, comes-same, left_for, one-scope, within}
use Rattle.ecma_scope.proofs.Opening.{resolved_at-out}

-- no child is the root
at_child-below : (r : Role) (wanted i : ℕ) → is_root r ≡ false → is_root (at_child r wanted i) ≡ false
at_child-below r wanted i below = elim (i == wanted) as (λ b. is_root (cond b r role.Plain) ≡ false) [ true ↦ below | false ↦ refl ]

passes_ambient-below : (b : Bool) → is_root (passes_ambient b) ≡ false
passes_ambient-below true = refl
passes_ambient-below false = refl

passes_in_list-below : (r : Role) → is_root (passes_in_list r) ≡ false
passes_in_list-below role.Sourced = refl
passes_in_list-below role.Ambient = refl
passes_in_list-below _ = refl

of_specifier-below : (r : Role) (i : ℕ) → is_root (of_specifier r i) ≡ false
of_specifier-below role.Sourced i = refl
of_specifier-below _ i = at_child-below role.Name 1 i refl

of_exports-below : (b : Bool) (i : ℕ) → is_root (of_exports b i) ≡ false
of_exports-below true i = at_child-below role.Sourced 0 i refl
of_exports-below false i = refl

role_by-below : (r : Role) (k : Kind) (sourced : Bool) (i : ℕ) → is_root (role_by r k sourced i) ≡ false
unfolding role_by
role_by-below r kind.List sourced i = passes_in_list-below r
role_by-below r kind.LabeledStmt sourced i = at_child-below role.Name 0 i refl
role_by-below r (kind.ImportNamedSpecifier is_type_only) sourced i = at_child-below role.Name 1 i refl
role_by-below r (kind.ExportNamedSpecifier is_type_only) sourced i = of_specifier-below r i
role_by-below r (kind.NamedExport type_only) sourced i = of_exports-below sourced i
role_by-below r (kind.Function is_generator is_async) sourced i = at_child-below role.Body 1 i refl
role_by-below r (kind.ArrowExpr is_async is_generator) sourced i = at_child-below role.Body 1 i refl
role_by-below r (kind.Constructor accessibility is_optional) sourced i = at_child-below role.Body 2 i refl
role_by-below r kind.GetterProp sourced i = at_child-below role.Body 2 i refl
role_by-below r kind.SetterProp sourced i = at_child-below role.Body 3 i refl
role_by-below r kind.CatchClause sourced i = at_child-below role.CatchBody 1 i refl
role_by-below r kind.ExportDecl sourced i = passes_ambient-below _
role_by-below r (kind.TsModuleDecl declare global) sourced i = passes_ambient-below _
role_by-below r (kind.TsNamespaceDecl declare global) sourced i = passes_ambient-below _
role_by-below r kind.TsModuleBlock sourced i = passes_ambient-below _
role_by-below r _ sourced i = refl

true-false : true ≡ false → ⊥
true-false e = cc

-- what a scope keeps it declares
either : (b s x y : Bool) → (x ≡ true → y ≡ true) → (b && s) || x ≡ true → b || y ≡ true
either true s x y h e = refl
either false s x y h e = h e

keeps-declares : (ds : List Declaration) (sym : List ℕ) → keeps ds sym ≡ true → declares ds sym ≡ true
keeps-declares [] sym h = h
keeps-declares (d ∷ ds) sym h =
    either (bytes_eq d.sym sym) d.stays (list_any (λ e. bytes_eq e.sym sym && e.stays) ds) (list_any (λ e. bytes_eq e.sym sym) ds) (keeps-declares ds sym) h

stated-kept : (ds : List Declaration) (sym : List ℕ) → keeps ds sym ≡ true → stated ds sym ≡ Some true
stated-kept ds sym h = (λ j. cond (keeps-declares ds sym h j) (Some (h j)) None)

stated-none : (ds : List Declaration) (sym : List ℕ) → declares ds sym ≡ false → stated ds sym ≡ None
stated-none ds sym h = ap (λ (b : Bool). cond b (Some (keeps ds sym)) None) h

by-test : (d k : Bool) → ◌≡◌ {A = Option Bool} (cond d (Some k) None) None → d ≡ false
by-test true k e = cc
by-test false k e = refl

declares-none : (ds : List Declaration) (sym : List ℕ) → stated ds sym ≡ None → declares ds sym ≡ false
declares-none ds sym says = by-test (declares ds sym) (keeps ds sym) says

kept-test : (d k : Bool) → ◌≡◌ {A = Option Bool} (cond d (Some k) None) (Some true) → k ≡ true
kept-test true k e = cc
kept-test false k e = cc

keeps-some : (ds : List Declaration) (sym : List ℕ) → stated ds sym ≡ Some true → keeps ds sym ≡ true
keeps-some ds sym says = kept-test (declares ds sym) (keeps ds sym) says

sym-of : {A : Type 0} {x y : A} → x ≡ y → y ≡ x
sym-of e = sym e

module _ (unresolved top : ℕ) (root : At) where
  -- the context of the scope that is opened at a place
  pub data IsNumber (place : Occurrence) (ctxt : ℕ) : Type 0 where
    first : place ≡ [] → ctxt ≡ top → IsNumber place ctxt
    later : (e : At) → Comes root place e → taken e.role e.node ≡ 1 → e.left ≡ ctxt → IsNumber place ctxt

  -- scopes that are in force ws those that are seen
  abbrev pub Like : List Around → List Scope → Type 0
  Like [] [] = Unit {0}
  Like (a ∷ ws) (s ∷ ss) = IsNumber a.at s.ctxt × (s.states ≡ stated a.declared) × Like ws ss
  Like _ _ = ⊥

  like-last : (ws : List Around) (ss : List Scope) (a : Around) (s : Scope) → Like ws ss → IsNumber a.at s.ctxt → s.states ≡ stated a.declared → Like (ws ++ a ∷ []) (ss ++ s ∷ [])
  like-last [] [] a s like number says = (number, says, tt)
  like-last [] (t ∷ ss) a s like number says = absurd like
  like-last (b ∷ ws) [] a s like number says = absurd like
  like-last (b ∷ ws) (t ∷ ss) a s like number says = (like.0, like.1, like-last ws ss a s like.2 number says)

  nearest-like : (ws : List Around) (ss : List Scope) → Like ws ss → innermost ss ≡ nearest ws
  nearest-like [] [] like = (λ j sym. None)
  nearest-like [] (s ∷ ss) like = absurd like
  nearest-like (a ∷ ws) [] like = absurd like
  nearest-like (a ∷ []) (s ∷ []) like = (λ j sym. like.1 j sym)
  nearest-like (a ∷ []) (s ∷ t ∷ ss) like = absurd like.2
  nearest-like (a ∷ b ∷ ws) (s ∷ []) like = absurd like.2
  nearest-like (a ∷ b ∷ ws) (s ∷ t ∷ ss) like = (λ j sym. nearest-like (b ∷ ws) (t ∷ ss) like.2 j sym)

  like-inside : (opened covered : Bool) (ws : List Around) (ss : List Scope) (a : Around) (s : Scope) → Like ws ss → (opened ≡ true → IsNumber a.at s.ctxt) → s.states ≡ stated a.declared
      → Like (cond (opened && covered) (ws ++ a ∷ []) ws) (cond (opened && covered) (ss ++ s ∷ []) ss)
  like-inside false covered ws ss a s like number says = like
  like-inside true false ws ss a s like number says = like
  like-inside true true ws ss a s like number says = like-last ws ss a s like (number refl) says

  -- the context of the scope that is opened where the walk is
  number-of : (seen : Seen) (left : ℕ) (is : Bool) → is_root seen.role ≡ is → (is_root seen.role ≡ true → seen.at ≡ []) → Comes root seen.at (record { role = seen.role; node = seen.node; left = left })
      → opens seen.role seen.node ≡ true → IsNumber seen.at (cond is top left)
  number-of seen left true is start comes opened = first (start is) refl
  number-of seen left false is start comes opened =
      later (record { role = seen.role; node = seen.node; left = left }) comes (λ j. cond (opened j && not (is j)) 1 0) refl

  placed-at : (place_of : ℕ → Place) (k : ℕ) (xs : List Node) (left i : ℕ) (x : Node) → slice_get xs i ≡ Some x
      → slice_get (placed place_of k xs (map (resolved_at unresolved top) xs) left) i ≡ Some (resolved_at unresolved top x (place_of (k + i)) (left_for (λ j. (place_of j).role) k xs left i))
  placed-at place_of k [] left i x at = cc
  placed-at place_of k (y ∷ ys) left zero x at =
      let same : y ≡ x = cc in
      let here : k ≡ k + 0 = omega arith in
      ap₂ (λ (n : Node) (j : ℕ). Some (resolved_at unresolved top n (place_of j) left)) same here
  placed-at place_of k (y ∷ ys) left (suc i) x at =
      let here : suc k + i ≡ k + suc i = omega arith in
      placed-at place_of (suc k) ys (left - context_count y (place_of k).role) i x at
      ∙ ap (λ (j : ℕ). Some (resolved_at unresolved top x (place_of j) (left_for (λ l. (place_of l).role) (suc k) ys (left - context_count y (place_of k).role) i))) here

  resolved-child : (n : Node) (place : Place) (left i : ℕ) (x : Node) → slice_get (out-Node n).children i ≡ Some x
      → slice_get (out-Node (resolved_at unresolved top n place left)).children i
      ≡ Some (resolved_at unresolved top x (inside top place n left i) (left_for (role_in place.role n) 0 (out-Node n).children (left - taken place.role n) i))
  resolved-child n place left i x at =
      let here : 0 + i ≡ i = omega arith in
      let made : Node-F Node = record { span = (out-Node n).span; kind = kind_at unresolved place (out-Node n).kind; children = children_at unresolved top (inside top place n left) n (left - taken place.role n) } in
      ap (λ (z : Node). slice_get (out-Node z).children i) (resolved_at-out unresolved top n place left)
      ∙ ap (λ (z : Node-F Node). slice_get z.children i) (out-roll-Node made)
      ∙ placed-at (inside top place n left) 0 (out-Node n).children (left - taken place.role n) i x at
      ∙ ap (λ (j : ℕ). Some (resolved_at unresolved top x (inside top place n left j) (left_for (role_in place.role n) 0 (out-Node n).children (left - taken place.role n) i))) here

  resolved-kind : (n : Node) (place : Place) (left : ℕ) → (out-Node (resolved_at unresolved top n place left)).kind ≡ kind_at unresolved place (out-Node n).kind
  resolved-kind n place left =
      let made : Node-F Node = record { span = (out-Node n).span; kind = kind_at unresolved place (out-Node n).kind; children = children_at unresolved top (inside top place n left) n (left - taken place.role n) } in
      ap (λ (z : Node). (out-Node z).kind) (resolved_at-out unresolved top n place left) ∙ ap (λ (z : Node-F Node). z.kind) (out-roll-Node made)

  -- what stands at an occurrence of the resolved tree
  pub record Found (tree : Node) (path : Occurrence) (end : Seen) : Type 0 where
    pub place : Place
    pub node : Node
    pub is_at : IsAt tree path node
    pub kind : (out-Node node).kind ≡ kind_at unresolved place (out-Node end.node).kind
    pub role : place.role ≡ end.role
    pub like : Like end.around place.scopes

  pub walks : (path : Occurrence) (seen : Seen) (ss : List Scope) (left : ℕ) (end : Seen) → Leads seen path end → Like seen.around ss → (is_root seen.role ≡ true → seen.at ≡ [])
      → Comes root seen.at (record { role = seen.role; node = seen.node; left = left }) → Found (resolved_at unresolved top seen.node (record { role = seen.role; scopes = ss }) left) path end
  walks [] seen ss left end leads like start comes =
      let place : Place = record { role = seen.role; scopes = ss } in
      subst (λ (z : Seen). Found (resolved_at unresolved top seen.node place left) [] z) (sym leads)
      (record { place = place; node = resolved_at unresolved top seen.node place left; is_at = refl; kind = resolved-kind seen.node place left; role = refl; like = like })
  walks (i ∷ path) seen ss left end leads like start comes =
      let place : Place = record { role = seen.role; scopes = ss } in
      let child = leads.0 in
      let less : ℕ = left_for (role_in seen.role seen.node) 0 (out-Node seen.node).children (left - taken seen.role seen.node) i in
      let says : (scope_at top place seen.node left).states ≡ stated (opened_by seen).declared = (λ j. stated (names seen.role (nearest-like seen.around ss like j) seen.node)) in
      let inner : Like (child_of seen i child).around (inside top place seen.node left i).scopes =
      like-inside (opens seen.role seen.node) (covers seen.role (out-Node seen.node).kind i) seen.around ss (opened_by seen) (scope_at top place seen.node left) like
      (number-of seen left (is_root seen.role) refl start comes) says in
      let f = walks path (child_of seen i child) (inside top place seen.node left i).scopes less end leads.2 inner
      (λ e. absurd (true-false (sym e ∙ role_by-below seen.role (out-Node seen.node).kind (is_there (out-Node seen.node).children 1) i)))
      (comes-next root seen.at (record { role = seen.role; node = seen.node; left = left }) comes i child leads.1) in
      record {
        place = f.place;
        node = f.node;
        is_at = (resolved_at unresolved top child (inside top place seen.node left i) less, resolved-child seen.node place left i child leads.1, f.is_at);
        kind = f.kind;
        role = f.role;
        like = f.like;
      }

  -- scopes of which none declares a text leave it to those around them
  none-gives : (ws : List Around) (ss : List Scope) (sym : List ℕ) (outer : ℕ) → Like ws ss → NoneDeclares ws sym → context_in unresolved ss sym outer ≡ outer
  none-gives [] [] sym outer like none = refl
  none-gives [] (s ∷ ss) sym outer like none = absurd like
  none-gives (w ∷ ws) [] sym outer like none = absurd like
  none-gives (w ∷ ws) (s ∷ ss) sym outer like none =
      let open_here : s.states sym ≡ None = (λ j. like.1 j sym) ∙ stated-none w.declared sym none.0 in
      ap (λ (o : Option Bool). context_in unresolved ss sym (given o s.ctxt unresolved outer)) open_here ∙ none-gives ws ss sym outer like.2 none.1

  -- and the innermost that declares it gives it its own context, if it keeps it
  kept-gives : (before : List Around) (w : Around) (inner : List Around) (ss : List Scope) (sym : List ℕ) (outer : ℕ) → Like (before ++ w ∷ inner) ss → NoneDeclares inner sym → keeps w.declared sym ≡ true
      → IsNumber w.at (context_in unresolved ss sym outer)
  kept-gives [] w inner [] sym outer like none kept = absurd like
  kept-gives [] w inner (s ∷ ss) sym outer like none kept =
      let kept_here : s.states sym ≡ Some true = (λ j. like.1 j sym) ∙ stated-kept w.declared sym kept in
      let gives : context_in unresolved ss sym (given (s.states sym) s.ctxt unresolved outer) ≡ s.ctxt =
      ap (λ (o : Option Bool). context_in unresolved ss sym (given o s.ctxt unresolved outer)) kept_here ∙ none-gives inner ss sym s.ctxt like.2 none in
      subst (λ (c : ℕ). IsNumber w.at c) (sym-of gives) like.0
  kept-gives (b ∷ before) w inner [] sym outer like none kept = absurd like
  kept-gives (b ∷ before) w inner (s ∷ ss) sym outer like none kept = kept-gives before w inner ss sym (given (s.states sym) s.ctxt unresolved outer) like.2 none kept

  bound-gives : (ws : List Around) (ss : List Scope) (sym : List ℕ) (place : Occurrence) → Like ws ss → IsBound ws sym place → IsNumber place (context_in unresolved ss sym unresolved)
  bound-gives ws ss sym place like b =
      subst (λ (p : Occurrence). IsNumber p (context_in unresolved ss sym unresolved)) b.is
      (kept-gives b.outer b.scope b.inner ss sym unresolved (subst (λ (l : List Around). Like l ss) b.are like) b.nearest b.keeps)

  -- what scopes give a text: what stands around them does, it is free, or it is bound
  data Gives (ws : List Around) (sym : List ℕ) (outer ctxt : ℕ) : Type 0 where
    open_still : ctxt ≡ outer → NoneDeclares ws sym → Gives ws sym outer ctxt
    not_kept : ctxt ≡ unresolved → Gives ws sym outer ctxt
    kept_in : (place : Occurrence) → IsBound ws sym place → Gives ws sym outer ctxt

  gives-first : (w : Around) (ws : List Around) (sym : List ℕ) (outer own ctxt : ℕ) (here : Option Bool) → here ≡ stated w.declared sym → Gives ws sym (given here own unresolved outer) ctxt → Gives (w ∷ ws) sym outer ctxt
  gives-first w ws sym outer own ctxt here says (not_kept is) = not_kept is
  gives-first w ws sym outer own ctxt here says (kept_in place b) =
      kept_in place (record { outer = w ∷ b.outer; scope = b.scope; inner = b.inner; are = ap (λ (l : List Around). w ∷ l) b.are; nearest = b.nearest; keeps = b.keeps; is = b.is })
  gives-first w ws sym outer own ctxt None says (open_still is none) = open_still is (declares-none w.declared sym (sym-of says), none)
  gives-first w ws sym outer own ctxt (Some false) says (open_still is none) = not_kept is
  gives-first w ws sym outer own ctxt (Some true) says (open_still is none) =
      kept_in w.at (record { outer = []; scope = w; inner = ws; are = refl; nearest = none; keeps = keeps-some w.declared sym (sym-of says); is = refl })

  gives : (ws : List Around) (ss : List Scope) (sym : List ℕ) (outer : ℕ) → Like ws ss → Gives ws sym outer (context_in unresolved ss sym outer)
  gives [] [] sym outer like = open_still refl tt
  gives [] (s ∷ ss) sym outer like = absurd like
  gives (w ∷ ws) [] sym outer like = absurd like
  gives (w ∷ ws) (s ∷ ss) sym outer like =
      gives-first w ws sym outer s.ctxt (context_in unresolved ss sym (given (s.states sym) s.ctxt unresolved outer)) (s.states sym) (λ j. like.1 j sym)
      (gives ws ss sym (given (s.states sym) s.ctxt unresolved outer) like.2)

  free-gives : (ws : List Around) (ss : List Scope) (sym : List ℕ) → Like ws ss → IsFree ws sym → context_in unresolved ss sym unresolved ≡ unresolved
  free-gives ws ss sym like free = elim (gives ws ss sym unresolved like) [ open_still is none ↦ is | not_kept is ↦ is | kept_in place b ↦ absurd (free place b) ]

-- one node stands at an occurrence
some-same : (x y : Node) → ◌≡◌ {A = Option Node} (Some x) (Some y) → x ≡ y
some-same x y e = cc

at-same : (tree : Node) (path : Occurrence) (a b : Node) → IsAt tree path a → IsAt tree path b → a ≡ b
at-same tree [] a b h k = h ∙ sym k
at-same tree (i ∷ path) a b h k =
    let same : k.0 ≡ h.0 = some-same k.0 h.0 (sym k.1 ∙ h.1) in
    at-same h.0 path a b h.2 (subst (λ (c : Node). IsAt c path b) same k.2)

ctxt-same : (s t : List ℕ) (c d : ℕ) (o p : Bool) → ◌≡◌ {A = Kind} (kind.Ident s c o) (kind.Ident t d p) → c ≡ d
ctxt-same s t c d o p e = cc

root-takes : (b : Bool) → ◌≡◌ {A = ℕ} (cond (b && not true) 1 0) 1 → ⊥
root-takes true e = cc
root-takes false e = cc

above-no : (a b c : ℕ) → a ≤ b → b < c → c ≡ a → ⊥
above-no a b c le lt same = omega arith

module _ (unresolved top left : ℕ) (tree : Node) (unresolved_above : left < unresolved) (top_above : left < top) (apart : unresolved ≡ top → ⊥) (enough : contexts tree ≤ left) where
  abbrev root : At
  root = record { role = role.Root; node = tree; left = left }

  number-le : (place : Occurrence) (e : At) → Comes root place e → taken e.role e.node ≡ 1 → e.left ≤ left
  number-le place e comes one = (within place root e comes one enough).most

  -- the context of a scope is not the unresolved one
  number-bound : (place : Occurrence) (c : ℕ) → IsNumber unresolved top root place c → c ≡ unresolved → ⊥
  number-bound place c (first is at) free = apart (sym free ∙ at)
  number-bound place c (later e comes one at) free = above-no e.left left unresolved (number-le place e comes one) unresolved_above (sym (at ∙ free))

  -- a scope has one context
  number-same : (place : Occurrence) (c d : ℕ) → IsNumber unresolved top root place c → IsNumber unresolved top root place d → c ≡ d
  number-same place c d (first is at) (first also there) = at ∙ sym there
  number-same place c d (first is at) (later f comes one there) =
      absurd (root-takes (opens role.Root tree) (subst (λ (z : At). taken z.role z.node ≡ 1) (subst (λ (p : Occurrence). Comes root p f) is comes) one))
  number-same place c d (later e comes one at) (first is there) =
      absurd (root-takes (opens role.Root tree) (subst (λ (z : At). taken z.role z.node ≡ 1) (subst (λ (p : Occurrence). Comes root p e) is comes) one))
  number-same place c d (later e comes one at) (later f also two there) = sym at ∙ ap (λ (z : At). z.left) (comes-same root place e f comes also) ∙ there

  -- and no two scopes have the same
  number-one : (p q : Occurrence) (c d : ℕ) → IsNumber unresolved top root p c → IsNumber unresolved top root q d → c ≡ d → p ≡ q
  number-one p q c d (first is at) (first also there) same = is ∙ sym also
  number-one p q c d (first is at) (later f comes one there) same = absurd (above-no f.left left top (number-le q f comes one) top_above (sym at ∙ same ∙ sym there))
  number-one p q c d (later e comes one at) (first is there) same = absurd (above-no e.left left top (number-le p e comes one) top_above (sym (at ∙ same ∙ there)))
  number-one p q c d (later e comes one at) (later f also two there) same = one-scope p q root e f enough comes also one two (at ∙ same ∙ sym there)

  found : (o : Occurrence) (x : Identifier tree o) → Found unresolved top root (resolved unresolved top left tree) o x.seen
  found o x = walks unresolved top root o (root_of tree) [] left x.seen x.leads tt (λ e. refl) refl

  -- the context that its scopes give an identifier
  abbrev given_to : (o : Occurrence) (x : Identifier tree o) → ℕ
  given_to o x = context_in unresolved (found o x).place.scopes x.sym unresolved

  found-kind : (o : Occurrence) (x : Identifier tree o) → (out-Node (found o x).node).kind ≡ kind.Ident x.sym (given_to o x) x.optional
  found-kind o x =
      let f = found o x in
      f.kind ∙ ap (kind_at unresolved f.place) x.is
      ∙ ap (λ (b : Bool). kind.Ident x.sym (cond b x.ctxt (context_in unresolved f.place.scopes x.sym unresolved)) x.optional) (ap is_name f.role ∙ x.is_no_name)

  id-given : (o : Occurrence) (x : Identifier tree o) (c : ℕ) → HasId (resolved unresolved top left tree) o x.sym c → c ≡ given_to o x
  id-given o x c id =
      let f = found o x in
      let same = at-same (resolved unresolved top left tree) o id.0 f.node id.1 f.is_at in
      ctxt-same x.sym x.sym c (given_to o x) id.2.0 x.optional (sym id.2.1 ∙ ap (λ (n : Node). (out-Node n).kind) same ∙ found-kind o x)

  number-given : (o : Occurrence) (x : Identifier tree o) (c : ℕ) (place : Occurrence) → HasId (resolved unresolved top left tree) o x.sym c → IsBound x.seen.around x.sym place → IsNumber unresolved top root place c
  number-given o x c place id b =
      subst (λ (k : ℕ). IsNumber unresolved top root place k) (sym (id-given o x c id))
      (bound-gives unresolved top root x.seen.around (found o x).place.scopes x.sym place (found o x).like b)

  follows : FollowBindings unresolved (resolved unresolved top left tree) tree
  follows = record {
    texts = λ o x. (given_to o x, ((found o x).node, (found o x).is_at, (x.optional, found-kind o x)));
    free = λ o x c id. (
      (λ is place b. number-bound place c (number-given o x c place id b) is),
      (λ free. id-given o x c id ∙ free-gives unresolved top root x.seen.around (found o x).place.scopes x.sym (found o x).like free),
    );
    bound = λ o p x y c d place other id also b k. (
      (λ same. number-one place other c d (number-given o x c place id b) (number-given p y d other also k) same),
      (λ same. number-same other c d (subst (λ (q : Occurrence). IsNumber unresolved top root q c) same (number-given o x c place id b)) (number-given p y d other also k)),
    );
  }

pub resolved-follows : ResolvedFollows
resolved-follows unresolved top left tree unresolved_above top_above apart enough = follows unresolved top left tree unresolved_above top_above apart enough

pub ruleset following = (resolved-follows)
