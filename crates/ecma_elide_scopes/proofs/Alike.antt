-- A node in two places that differ in what the outermost scope states: where fewer names are kept there, those that are no more are free.
use Rattle.std.proofs.Common.{◌≡◌, ◌∙◌, ◌≢◌, ◌==◌, ◌<◌, ◌-◌, ℕ, zero, suc, Bool, true, false, ◌&&◌, ◌||◌, not, cond, List, [], ◌∷◌, ◌++◌, map, filter, Option, Some, None, refl, sym, ap, ap₂, subst, slice_get, bytes_eq, arith}
use Rattle.std.specs.List.{list_any}
use Rattle.std.proofs.lemmas.Bool.{eq-eqb, eqb-true}
use Rattle.ecma_kind.specs.declared.kind.Kind.{Kind}
use Rattle.ecma_kind.specs.declared.kind.Kind.TheVariants as kind
use Rattle.ecma_tree.specs.Nodes.{node_of}
use Rattle.ecma_tree.specs.declared.node.Node.{Node, fold-roll-Node, out-Node}
use Rattle.ecma_tree.specs.Changing.{changed_here}
use Rattle.ecma_tree.proofs.Layers.{from_leaves_out}
use Rattle.ecma_rules.specs.Children.{kind_of}
use Rattle.ecma_scope.specs.declared.form.Declaration.{Declaration}
use Rattle.ecma_scope.specs.declared.role.Role.{Role}
use Rattle.ecma_scope.specs.declared.role.Role.TheVariants as role
use Rattle.ecma_scope.specs.Scopes.{covers, is_ambient, is_root, is_there, opens, role_in}
use Rattle.ecma_scope.specs.Declarations.{declarations, declares, is_own, keeps, names, own_part, stated, vars_of}
use Rattle.ecma_scope.specs.Resolved.{Place, Scope, context_count, context_in, given, innermost, inside, is_name, kind_at, placed, resolve_step, resolved_at, scope_at, taken}
use Rattle.ecma_scope_fits.proofs.Moved.{children_moved, kind_moved, moved, to}
use Rattle.ecma_elide_fits.proofs.Dropped.{below, induct}
use Rattle.ecma_elide_sources.proofs.Thin.{clear, cons_head, cons_tail, empty}
use Rattle.ecma_elide_scopes.specs.Freeing.{freed_by}
use Rattle.ecma_elide_scopes.proofs.Standing.{body_inside, is_function_body, never_root}

-- what a scope keeps it declares
either : (b s x y : Bool) → (x ≡ true → y ≡ true) → ((b && s) || x) ≡ true → (b || y) ≡ true
either true s x y h e = refl
either false s x y h e = h e

keeps_declares : (ds : List Declaration) (text : List ℕ) → keeps ds text ≡ true → declares ds text ≡ true
keeps_declares [] text h = h
keeps_declares (d ∷ ds) text h =
    either (bytes_eq d.sym text) d.stays (list_any (λ e. bytes_eq e.sym text && e.stays) ds) (list_any (λ e. bytes_eq e.sym text) ds) (keeps_declares ds text) h

-- a tree without contexts
abbrev pub Bare : Node → Type 0
Bare n = clear n ≡ n

all_bare : (ns : List Node) → map clear ns ≡ ns → (i : ℕ) (c : Node) → slice_get ns i ≡ Some c → Bare c
all_bare [] h i c at = cc
all_bare (n ∷ ns) h zero c at = let same : n ≡ c = cc in subst Bare same (cons_head (clear n) n (map clear ns) ns h)
all_bare (n ∷ ns) h (suc i) c at = all_bare ns (cons_tail (clear n) n (map clear ns) ns h) i c at

pub below_bare : (n : Node) → Bare n → (i : ℕ) (c : Node) → slice_get (below n) i ≡ Some c → Bare c
below_bare n h = all_bare (below n) (sym (children_moved empty n) ∙ ap below h)

bare_context : (text : List ℕ) (ctxt : ℕ) (optional : Bool) → moved empty (kind.Ident text ctxt optional) ≡ kind.Ident text ctxt optional → ctxt ≡ 0
bare_context text ctxt optional h = cc

abbrev is_empty : List Scope → Bool
is_empty [] = true
is_empty (s ∷ ss) = false

-- the body of a function stands in the scope of that
abbrev pub Deep : Role → List Scope → Type 0
Deep r inner = is_function_body r ≡ true → is_empty inner ≡ false

pub less_below : (l m t : ℕ) → l < t → (l - m) < t
less_below l m t h = omega arith

not_same : (l t : ℕ) → l < t → l ≡ t → ⊥
not_same l t h e = omega arith

module _ (unresolved top : ℕ) where
  abbrev pub at : Node → Place → ℕ → Node
  at = resolved_at unresolved top

  pub resolved_out : (n : Node) (p : Place) (l : ℕ)
      → at n p l ≡ node_of (out-Node n).span (kind_at unresolved p (kind_of n)) (placed (inside top p n l) 0 (below n) (map at (below n)) (l - taken p.role n))
  resolved_out n p l = ap (λ f. f p l) (from_leaves_out (Place → ℕ → Node) (resolve_step unresolved top) n)

  abbrev pub outermost : List Declaration → Scope
  outermost ds = record { ctxt = top; states = stated ds }

  abbrev pub place : Role → List Declaration → List Scope → Place
  place r ds inner = record { role = r; scopes = outermost ds ∷ inner }

  -- no other scope has the context of the top
  abbrev pub Apart : List Scope → Type 0
  Apart [] = Unit {0}
  Apart (s ∷ ss) = (s.ctxt ≡ top → ⊥) × Apart ss

  apart_last : (ss : List Scope) (s : Scope) → Apart ss → (s.ctxt ≡ top → ⊥) → Apart (ss ++ s ∷ [])
  apart_last [] s h o = (o, tt)
  apart_last (t ∷ ss) s h o = (h.0, apart_last ss s h.1 o)

  last_there : (ss : List Scope) (s : Scope) → is_empty (ss ++ s ∷ []) ≡ false
  last_there [] s = refl
  last_there (t ∷ ss) s = refl

  pub inside_is : (ds : List Declaration) (r : Role) (inner : List Scope) (n : Node) (l i : ℕ) → inside top (place r ds inner) n l i
      ≡ place (role_in r n i) ds (cond (opens r n && covers r (kind_of n) i) (inner ++ scope_at top (place r ds inner) n l ∷ []) inner)
  inside_is ds r inner n l i = ap (λ (ss : List Scope). record { role = role_in r n i; scopes = ss }) (pushed (opens r n && covers r (kind_of n) i))
    where
      s : Scope
      s = scope_at top (place r ds inner) n l

      pushed : (b : Bool) → cond b ((outermost ds ∷ inner) ++ s ∷ []) (outermost ds ∷ inner) ≡ outermost ds ∷ cond b (inner ++ s ∷ []) inner
      pushed true = refl
      pushed false = refl

  module _ (apart : unresolved ≢ top) (old new : List Declaration) (fewer : (text : List ℕ) → keeps new text ≡ true → keeps old text ≡ true) where
    abbrev pub free : List ℕ → ℕ → ℕ
    free = freed_by unresolved top new

    -- ---- contexts

    kept_context : (c : ℕ) (text : List ℕ) → (c ≡ top → ⊥) → free text c ≡ c
    kept_context c text other = by (c == top) refl
      where
        by : (b : Bool) → (c == top) ≡ b → cond (b && not (keeps new text)) unresolved c ≡ c
        by true e = absurd (other (eqb-true c top e))
        by false e = refl

    top_context : (text : List ℕ) → free text top ≡ cond (keeps new text) top unresolved
    top_context text = ap (λ b. cond (b && not (keeps new text)) unresolved top) (eq-eqb top top refl) ∙ turned (keeps new text)
      where
        turned : (b : Bool) → cond (true && not b) unresolved top ≡ cond b top unresolved
        turned true = refl
        turned false = refl

    given_stated : (ds : List Declaration) (text : List ℕ) → given (stated ds text) top unresolved unresolved ≡ cond (keeps ds text) top unresolved
    given_stated ds text = by (declares ds text) refl (keeps ds text) refl
      where
        by : (a : Bool) → declares ds text ≡ a → (b : Bool) → keeps ds text ≡ b → given (cond a (Some b) None) top unresolved unresolved ≡ cond b top unresolved
        by true e true f = refl
        by true e false f = refl
        by false e true f = let there : declares ds text ≡ true = keeps_declares ds text f in cc
        by false e false f = refl

    first_context : (text : List ℕ) → given (stated new text) top unresolved unresolved ≡ free text (given (stated old text) top unresolved unresolved)
    first_context text = given_stated new text ∙ by (keeps old text) refl (keeps new text) refl ∙ ap (free text) (sym (given_stated old text))
      where
        by : (a : Bool) → keeps old text ≡ a → (b : Bool) → keeps new text ≡ b → cond b top unresolved ≡ free text (cond a top unresolved)
        by true e b f = sym (top_context text ∙ ap (λ z. cond z top unresolved) f)
        by false e true f = let there : keeps old text ≡ true = fewer text f in cc
        by false e false f = sym (kept_context unresolved text apart)

    inner_context : (inner : List Scope) → Apart inner → (text : List ℕ) (a b : ℕ) → b ≡ free text a → context_in unresolved inner text b ≡ free text (context_in unresolved inner text a)
    inner_context [] far text a b e = e
    inner_context (s ∷ ss) far text a b e = inner_context ss far.1 text (given (s.states text) s.ctxt unresolved a) (given (s.states text) s.ctxt unresolved b) (by (s.states text))
      where
        by : (o : Option Bool) → given o s.ctxt unresolved b ≡ free text (given o s.ctxt unresolved a)
        by None = e
        by (Some true) = sym (kept_context s.ctxt text far.0)
        by (Some false) = sym (kept_context unresolved text apart)

    kind_alike : (r : Role) (inner : List Scope) → Apart inner → 0 < top → (k : Kind) → moved empty k ≡ k → kind_at unresolved (place r new inner) k ≡ moved free (kind_at unresolved (place r old inner) k)
    kind_alike r inner far some (kind.Ident text ctxt optional) h = by (is_name r)
      where
        none : ctxt ≡ 0
        none = bare_context text ctxt optional h

        by : (b : Bool) → kind.Ident text (cond b ctxt (context_in unresolved (outermost new ∷ inner) text unresolved)) optional
            ≡ kind.Ident text (free text (cond b ctxt (context_in unresolved (outermost old ∷ inner) text unresolved))) optional
        by true = ap (λ c. kind.Ident text c optional) (sym (kept_context ctxt text (λ e. not_same 0 top some (sym none ∙ e))))
        by false = ap (λ c. kind.Ident text c optional) (inner_context inner far text (given (stated old text) top unresolved unresolved) (given (stated new text) top unresolved unresolved) (first_context text))
    kind_alike r inner far some _ h = refl

    -- ---- scopes

    own_alike : (r : Role) (inner : List Scope) → Deep r inner → (d : Declaration) → is_own r (innermost (outermost new ∷ inner)) d ≡ is_own r (innermost (outermost old ∷ inner)) d
    own_alike role.Body [] deep d = let never : true ≡ false = deep refl in cc
    own_alike role.Body (s ∷ ss) deep d = refl
    own_alike _ inner deep d = refl

    scope_alike : (r : Role) (inner : List Scope) → Deep r inner → (n : Node) (l : ℕ) → scope_at top (place r new inner) n l ≡ scope_at top (place r old inner) n l
    scope_alike r inner deep n l =
        λ j. record {
          ctxt = cond (is_root r) top l;
          states = stated (filter (λ d. own_alike r inner deep d j) (declarations n (record { part = own_part r; stays = not (is_ambient r) }) ++ vars_of r (not (is_ambient r)) n));
        }

    -- ---- nodes

    abbrev Alike : Node → Type 0
    Alike n = Bare n → (r : Role) (inner : List Scope) (l : ℕ) → is_root r ≡ false → Deep r inner → Apart inner → l < top → at n (place r new inner) l ≡ to free (at n (place r old inner) l)

    children_alike : (roles : ℕ → Role) (inners : ℕ → List Scope) → ((i : ℕ) → is_root (roles i) ≡ false) → ((i : ℕ) → Deep (roles i) (inners i)) → ((i : ℕ) → Apart (inners i))
        → (f g : ℕ → Place) → ((i : ℕ) → f i ≡ place (roles i) new (inners i)) → ((i : ℕ) → g i ≡ place (roles i) old (inners i))
        → (cs : List Node) → ((i : ℕ) (c : Node) → slice_get cs i ≡ Some c → Alike c) → ((i : ℕ) (c : Node) → slice_get cs i ≡ Some c → Bare c) → (i l : ℕ) → l < top
        → placed f i cs (map at cs) l ≡ map (to free) (placed g i cs (map at cs) l)
    children_alike roles inners below_root deep far f g is was [] alike bares i l less = refl
    children_alike roles inners below_root deep far f g is was (c ∷ cs) alike bares i l less =
        ap₂ (λ a rest. a ∷ rest)
        (ap (λ p. at c p l) (is i) ∙ alike 0 c refl (bares 0 c refl) (roles i) (inners i) l (below_root i) (deep i) (far i) less ∙ ap (λ p. to free (at c p l)) (sym (was i)))
        (ap (λ p. placed f (suc i) cs (map at cs) (l - context_count c p.role)) (is i)
        ∙ children_alike roles inners below_root deep far f g is was cs (λ j. alike (suc j)) (λ j. bares (suc j)) (suc i) (l - context_count c (roles i)) (less_below l (context_count c (roles i)) top less)
        ∙ ap (λ p. map (to free) (placed g (suc i) cs (map at cs) (l - context_count c p.role))) (sym (was i)))

    node_alike : (n : Node) → ((i : ℕ) (c : Node) → slice_get (below n) i ≡ Some c → Alike c) → Alike n
    node_alike n alike bare r inner l below_root deep far less =
        resolved_out n (place r new inner) l
        ∙ ap₂ (node_of (out-Node n).span) (kind_alike r inner far (some_below l top less) (kind_of n) (sym (kind_moved empty n) ∙ ap kind_of bare))
        (children_alike roles inners (λ i. never_root r (kind_of n) (is_there (below n) 1) i) deeper farther (inside top (place r new inner) n l) (inside top (place r old inner) n l) (λ i. inside_new i) (λ i. inside_is old r inner n l i)
        (below n) alike (below_bare n bare) 0 (l - taken r n) (less_below l (taken r n) top less))
        ∙ sym (fold-roll-Node Node (changed_here (λ span. span) (moved free)) (record { span = (out-Node n).span; kind = kind_at unresolved (place r old inner) (kind_of n); children = cs }))
        ∙ ap (to free) (sym (resolved_out n (place r old inner) l))
      where
        cs : List Node
        cs = placed (inside top (place r old inner) n l) 0 (below n) (map at (below n)) (l - taken r n)

        some_below : (a t : ℕ) → a < t → 0 < t
        some_below a t h = omega arith

        scope : Scope
        scope = scope_at top (place r old inner) n l

        roles : ℕ → Role
        roles i = role_in r n i

        is_in : ℕ → Bool
        is_in i = opens r n && covers r (kind_of n) i

        inners : ℕ → List Scope
        inners i = cond (is_in i) (inner ++ scope ∷ []) inner

        own_far : scope.ctxt ≡ top → ⊥
        own_far e = not_same l top less (ap (λ b. cond b top l) (sym below_root) ∙ e)

        farther : (i : ℕ) → Apart (inners i)
        farther i = by (is_in i)
          where
            by : (b : Bool) → Apart (cond b (inner ++ scope ∷ []) inner)
            by true = apart_last inner scope far own_far
            by false = far

        deeper : (i : ℕ) → Deep (roles i) (inners i)
        deeper i h = ap (λ b. is_empty (cond b (inner ++ scope ∷ []) inner)) (body_inside r (kind_of n) (is_there (below n) 1) (is_there (below n) 0) i h) ∙ last_there inner scope

        inside_new : (i : ℕ) → inside top (place r new inner) n l i ≡ place (roles i) new (inners i)
        inside_new i = inside_is new r inner n l i ∙ ap (λ s. place (roles i) new (cond (is_in i) (inner ++ s ∷ []) inner)) (scope_alike r inner deep n l)

    pub alike : (n : Node) → Alike n
    alike = induct Alike node_alike
