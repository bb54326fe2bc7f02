-- What stands around the children of a node, as the walk keeps it and as the definition has it.
use Rattle.std.proofs.Common.{◌≡◌, ℕ, zero, suc, ◌+◌, Bool, true, false, ◌&&◌, not, cond, filter, List, [], ◌∷◌, ◌++◌, map, length, Some, None, refl, sym, ap, ◌∙◌, slice_get, arith}
use Rattle.std.proofs.lemmas.List.{map-append}
use Rattle.ecma_tree.specs.declared.node.Node.{Node, out-Node}
use Rattle.ecma_scope.specs.declared.form.Sought.{Sought}
use Rattle.ecma_scope.specs.declared.role.Role.{Role}
use Rattle.ecma_scope.specs.Scopes.{covers, opens, role_in}
use Rattle.ecma_hygiene.specs.declared.scope.Declared.{Declared}
use Rattle.ecma_hygiene.specs.Ids.{Id, Scope, has_context, innermost, nothing, scope_soughts, soughts_in}
use Rattle.ecma_hygiene.specs.Sights.{Around, around_child, beside_parameters, inner_soughts, own_scope}
use Rattle.ecma_hygiene.specs.Frames.{around_children, around_of, contexts_in, scopes_of, scopes_within}
use Rattle.ecma_hygiene.specs.Walks.{gathered_from}
use Rattle.ecma_hygiene.proofs.Walking.{gathered}

scopes-same : (covered : Bool) (frames : List Declared) (own : Scope) (scope : Declared) → ((text : List ℕ) → contexts_in scope text ≡ own text)
    → scopes_within frames (Some scope) covered ≡ cond covered (scopes_of frames ++ own ∷ []) (scopes_of frames)
scopes-same true frames own scope is = map-append contexts_in frames (scope ∷ []) ∙ (λ j. scopes_of frames ++ (λ text. is text j) ∷ [])
scopes-same false frames own scope is = refl

module _ (r : Role) (soughts : List Sought) (frames : List Declared) (n : Node) where
  -- around the children of a node that opens no scope
  closed-same : opens r n ≡ false → (i : ℕ) → around_children r soughts frames None n i ≡ around_child (around_of r soughts frames) n i
  closed-same closed i = (λ j. record {
    role = role_in r n i;
    soughts = soughts_in (inner_soughts (sym closed j) soughts (scope_soughts r (out-Node n).kind)) n i;
    scopes = cond (sym closed j && covers r (out-Node n).kind i) (scopes_of frames ++ own_scope r (scopes_of frames) n ∷ []) (scopes_of frames);
  })

  -- so its children give what the definition says
  pub gathered-closed : (A : Type 0) (here : Around → Node → List A) → opens r n ≡ false → gathered_from Around A (around_children r soughts frames None n) 0 (map (gathered Around A here around_child) (out-Node n).children)
      ≡ gathered_from Around A (around_child (around_of r soughts frames) n) 0 (map (gathered Around A here around_child) (out-Node n).children)
  gathered-closed A here closed = (λ j. gathered_from Around A (λ i. closed-same closed i j) 0 (map (gathered Around A here around_child) (out-Node n).children))

  module _ (inner : List Sought) (scope : Declared) (opened : opens r n ≡ true) (seeks : inner ≡ soughts ++ scope_soughts r (out-Node n).kind) (is : (text : List ℕ) → contexts_in scope text ≡ own_scope r (scopes_of frames) n text) where
    -- around those of one that opens this scope
    opened-same : (i : ℕ) → around_children r inner frames (Some scope) n i ≡ around_child (around_of r soughts frames) n i
    opened-same i = (λ j. record {
      role = role_in r n i;
      soughts = soughts_in (seeks j) n i;
      scopes = scopes-same (covers r (out-Node n).kind i) frames (own_scope r (scopes_of frames) n) scope is j;
    }) ∙ (λ j. record {
      role = role_in r n i;
      soughts = soughts_in (inner_soughts (sym opened j) soughts (scope_soughts r (out-Node n).kind)) n i;
      scopes = cond (sym opened j && covers r (out-Node n).kind i) (scopes_of frames ++ own_scope r (scopes_of frames) n ∷ []) (scopes_of frames);
    })

    pub gathered-opened : (A : Type 0) (here : Around → Node → List A) → gathered_from Around A (around_children r inner frames (Some scope) n) 0 (map (gathered Around A here around_child) (out-Node n).children)
        ≡ gathered_from Around A (around_child (around_of r soughts frames) n) 0 (map (gathered Around A here around_child) (out-Node n).children)
    gathered-opened A here = (λ j. gathered_from Around A (λ i. opened-same i j) 0 (map (gathered Around A here around_child) (out-Node n).children))

-- the innermost scope is that of the last frame
pub innermost-at : (frames : List Declared) (i : ℕ) (frame : Declared) → slice_get frames i ≡ Some frame → length frames ≡ i + 1 → innermost (scopes_of frames) ≡ contexts_in frame
innermost-at [] i frame at last = cc
innermost-at (f ∷ []) zero frame at last = let same : f ≡ frame = cc in ap contexts_in same
innermost-at (f ∷ []) (suc i) frame at last = cc
innermost-at (f ∷ g ∷ fs) zero frame at last = absurd (omega (arith, last))
innermost-at (f ∷ g ∷ fs) (suc i) frame at last = innermost-at (g ∷ fs) i frame at (omega (arith, last))

pub innermost-none : (frames : List Declared) → length frames ≡ 0 → innermost (scopes_of frames) ≡ nothing
innermost-none [] none = refl
innermost-none (f ∷ fs) none = absurd (omega (arith, none))

-- outside all scopes nothing is a parameter
pub apart-none : (ids : List Id) → filter (λ (id : Id). not (has_context id.1 (nothing id.0))) ids ≡ ids
apart-none [] = refl
apart-none (id ∷ ids) = ap (λ z. id ∷ z) (apart-none ids)

pub filter-all : (ids : List Id) → filter (λ (id : Id). true) ids ≡ ids
filter-all [] = refl
filter-all (id ∷ ids) = ap (λ z. id ∷ z) (filter-all ids)

pub beside-none : (ids : List Id) → beside_parameters nothing ids ≡ []
beside-none [] = refl
beside-none (id ∷ ids) = beside-none ids
