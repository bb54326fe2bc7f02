-- The ids of a resolved tree say which scopes declare its names.
use Rattle.std.proofs.Common.{◌≡◌, ℕ, ◌-◌, Bool, true, false, cond, List, [], ◌∷◌, map, Option, Some, None, refl, sym, ap, ◌∙◌, subst}
use Rattle.std.specs.List.{All}
use Rattle.ecma_kind.specs.declared.kind.Kind.{Kind}
use Rattle.ecma_kind.specs.declared.kind.Kind.TheVariants as kind
use Rattle.ecma_tree.specs.declared.node.Node.{Node, out-Node}
use Rattle.ecma_scope.specs.declared.role.Role.{Role}
use Rattle.ecma_scope.specs.declared.role.Role.TheVariants as role
use Rattle.ecma_scope.specs.Declarations.{is_hoisted}
use Rattle.ecma_hygiene.specs.Renamed.{kind_is_absent}
use Rattle.ecma_scope.specs.Resolved.{Place, Scope as Frame, context_in, given, innermost, is_name, kind_at, placed, inside, resolved_at, taken}
use Rattle.ecma_scope.specs.Scopes.{is_root, opens}
use Rattle.ecma_hygiene.specs.Capture.{NoneDeclares}
use Rattle.ecma_hygiene.specs.Ids.{Id, Scope, has_context, innermost as innermost_ids, is_block, is_body_block}
use Rattle.ecma_hygiene.specs.Sights.{Around, own_scope}
use Rattle.ecma_hygiene.proofs.Telling.{true-false}
use Rattle.ecma_hygiene_scopes.specs.DeclaredIds.{DeclaredId, scope_ids}
use Rattle.ecma_hygiene_scopes.specs.Seats.{IsKept}
use Rattle.ecma_hygiene_scopes.specs.Stops.{Stop}
use Rattle.ecma_hygiene_scopes.proofs.Directly.{place_in}
use Rattle.ecma_hygiene_scopes.proofs.Goodness.{Fits, Good, fits-here}
use Rattle.ecma_hygiene_scopes.proofs.Keeping.{AllKeep}
use Rattle.ecma_hygiene_scopes.proofs.OwnScopes.{blocks, own-keeps, parameters, stay}
use Rattle.ecma_hygiene_scopes.proofs.Resolving.{absent-resolved}
use Rattle.ecma_hygiene_scopes.proofs.Sameness.{children-here, kind-here, opens-resolved}
use Rattle.ecma_hygiene_scopes.proofs.Settling.{Settled}

-- a node of a resolved tree: its ids say which scope declares its names as values that stay
pub record IsPlaced (unresolved top : ℕ) (stop : Stop) : Type 0 where
  pub absent : kind_is_absent stop.node ≡ true → (out-Node stop.node).children ≡ []
  pub names : (sym : List ℕ) (ctxt : ℕ) (optional : Bool) → (out-Node stop.node).kind ≡ kind.Ident sym ctxt optional → is_name stop.around.role ≡ true → ctxt ≡ 0
  pub free : (sym : List ℕ) (ctxt : ℕ) (optional : Bool) → (out-Node stop.node).kind ≡ kind.Ident sym ctxt optional → is_name stop.around.role ≡ false
      → NoneDeclares stop.around.scopes (sym, ctxt) → ctxt ≡ unresolved
  pub blocks : opens stop.around.role stop.node ≡ true → stop.around.role ≡ role.Body → All (λ (d : DeclaredId). is_hoisted d.form ≡ true → is_block (out-Node stop.node).kind ≡ true) (scope_ids stop.around.role stop.node)
  pub parameters : opens stop.around.role stop.node ≡ true → is_body_block stop.around.role (out-Node stop.node).kind ≡ true
      → All (λ (d : DeclaredId). has_context d.id.1 (innermost_ids stop.around.scopes d.id.0) ≡ true → is_hoisted d.form ≡ true) (scope_ids stop.around.role stop.node)
  pub contexts : opens stop.around.role stop.node ≡ true → (id : Id) → has_context id.1 (own_scope stop.around.role stop.around.scopes stop.node id.0) ≡ true → id.1 ≡ cond (is_root stop.around.role) top stop.left

module _ (unresolved top : ℕ) where
  abbrev res : Node → Place → ℕ → Node
  res = resolved_at unresolved top

  -- ---- what no scope declares is free

  abbrev Declared : List Scope → Id → Type 0
  Declared ws id = NoneDeclares ws id → ⊥

  -- the context that scopes give a text is one that was there, that of free names, or that of a scope which declares the text in it
  pub data Found (ws : List Scope) (text : List ℕ) (outer ctxt : ℕ) : Type 0 where
    outside : ctxt ≡ outer → Found ws text outer ctxt
    free : ctxt ≡ unresolved → Found ws text outer ctxt
    declared : Declared ws (text, ctxt) → Found ws text outer ctxt

  later : (w : Scope) (ws : List Scope) (text : List ℕ) (o outer ctxt : ℕ) → ((ctxt ≡ o) → Found (w ∷ ws) text outer ctxt) → Found ws text o ctxt → Found (w ∷ ws) text outer ctxt
  later w ws text o outer ctxt here (outside is) = here is
  later w ws text o outer ctxt here (free is) = free is
  later w ws text o outer ctxt here (declared is) = declared (λ none. is none.1)

  found-in : (ws : List Scope) (fs : List Frame) → AllKeep ws fs → (text : List ℕ) (outer : ℕ) → Found ws text outer (context_in unresolved fs text outer)
  found-in [] [] keep text outer = outside refl
  found-in [] (f ∷ fs) keep text outer = absurd keep
  found-in (w ∷ ws) [] keep text outer = absurd keep
  found-in (w ∷ ws) (f ∷ fs) keep text outer =
      let o : ℕ = given (f.states text) f.ctxt unresolved outer in
      let ctxt : ℕ = context_in unresolved fs text o in
      later w ws text o outer ctxt (λ is. by ctxt (f.states text) refl is) (found-in ws fs keep.1 text o)
    where
      by : (ctxt : ℕ) (states : Option Bool) → f.states text ≡ states → ctxt ≡ given states f.ctxt unresolved outer → Found (w ∷ ws) text outer ctxt
      by ctxt None states is = outside is
      by ctxt (Some false) states is = free is
      by ctxt (Some true) states is = declared (λ none. true-false (ap (λ (c : ℕ). has_context c (w text)) is ∙ keep.0.only text states) none.0)

  free-in : (ws : List Scope) (text : List ℕ) (ctxt : ℕ) → Found ws text unresolved ctxt → NoneDeclares ws (text, ctxt) → ctxt ≡ unresolved
  free-in ws text ctxt (outside is) none = is
  free-in ws text ctxt (free is) none = is
  free-in ws text ctxt (declared is) none = absurd (is none)

  abbrev RightStop : Stop → Type 0
  RightStop = IsPlaced unresolved top

  ident-name : (r : Role) (frames : List Frame) (k : Kind) (s : List ℕ) (c : ℕ) (o : Bool) → kind_at unresolved (place_in unresolved top r frames) k ≡ kind.Ident s c o → is_name r ≡ true
      → ((t : List ℕ) (d : ℕ) (p : Bool) → k ≡ kind.Ident t d p → d ≡ 0) → c ≡ 0
  ident-name r frames (kind.Ident t d p) s c o is named empty =
      sym (contexts-of s t c _ o p is) ∙ ap (λ (b : Bool). cond b d (context_in unresolved frames t unresolved)) named ∙ empty t d p refl
    where
      contexts-of : (s t : List ℕ) (c e : ℕ) (o p : Bool) → ◌≡◌ {A = Kind} (kind.Ident t e p) (kind.Ident s c o) → e ≡ c
      contexts-of s t c e o p is = cc
  ident-name r frames _ s c o is named empty = cc

  pub ident-free : (r : Role) (frames : List Frame) (k : Kind) (s : List ℕ) (c : ℕ) (o : Bool) → kind_at unresolved (place_in unresolved top r frames) k ≡ kind.Ident s c o → is_name r ≡ false
      → c ≡ context_in unresolved frames s unresolved
  ident-free r frames (kind.Ident t d p) s c o is named =
      sym (contexts-of s t c _ o p is) ∙ ap (λ (b : Bool). cond b d (context_in unresolved frames t unresolved)) named ∙ ap (λ (x : List ℕ). context_in unresolved frames x unresolved) (texts-of s t c _ o p is)
    where
      contexts-of : (s t : List ℕ) (c e : ℕ) (o p : Bool) → ◌≡◌ {A = Kind} (kind.Ident t e p) (kind.Ident s c o) → e ≡ c
      contexts-of s t c e o p is = cc

      texts-of : (s t : List ℕ) (c e : ℕ) (o p : Bool) → ◌≡◌ {A = Kind} (kind.Ident t e p) (kind.Ident s c o) → t ≡ s
      texts-of s t c e o p is = cc
  ident-free r frames _ s c o is named = cc

  none-placed : (places : ℕ → Place) (left : ℕ) (ms : List Node) → ms ≡ [] → placed places 0 ms (map res ms) left ≡ []
  none-placed places left ms is = ap (λ (zs : List Node). placed places 0 zs (map res zs) left) is

  -- ---- the node itself

  module _ (m : Node) (s : Around) (frames : List Frame) (left : ℕ) (keep : AllKeep s.scopes frames) (settled : Settled s.role (innermost frames)) (good : Good m s.role (innermost frames)) where
    abbrev place : Place
    place = place_in unresolved top s.role frames

    abbrev n : Node
    n = res m place left

    fits : Fits (record { role = s.role; node = m })
    fits = fits-here m s.role (innermost frames) good

    opened : opens s.role n ≡ true → opens s.role m ≡ true
    opened h = sym (opens-resolved unresolved top m place left s.role) ∙ h

    pub right-here : RightStop (record { node = n; around = s; left = left })
    right-here = record {
      absent = λ gone. children-here unresolved top m place left ∙ none-placed (inside top place m left) (left - taken s.role m) (out-Node m).children (fits.absent (sym (absent-resolved unresolved top m place left) ∙ gone));
      names = λ t c o is named. ident-name s.role frames (out-Node m).kind t c o (sym (kind-here unresolved top m place left) ∙ is) named (λ u d p at. fits.empty u d p at named);
      free = λ t c o is other none. (let given_to = ident-free s.role frames (out-Node m).kind t c o (sym (kind-here unresolved top m place left) ∙ is) other in
          free-in s.scopes t c (subst (Found s.scopes t unresolved) (sym given_to) (found-in s.scopes frames keep t unresolved)) none);
      blocks = λ h. blocks unresolved top m s.role s.scopes frames left keep settled good (opened h);
      parameters = λ h. parameters unresolved top m s.role s.scopes frames left keep settled good (opened h);
      contexts = λ h b has. (own-keeps unresolved top m s.role s.scopes frames left keep settled good (opened h)).number b has;
    }

  -- of a node of which nothing goes, what its scope declares stays
  pub stays-here : (m : Node) (r : Role) (frames : List Frame) (left : ℕ) → IsKept (record { role = r; node = m }) → opens r (res m (place_in unresolved top r frames) left) ≡ true
      → All (λ (d : DeclaredId). d.stays ≡ true) (scope_ids r (res m (place_in unresolved top r frames) left))
  stays-here m r frames left kept is = stay unresolved top m r frames left (kept (sym (opens-resolved unresolved top m (place_in unresolved top r frames) left r) ∙ is))
