-- Where no declaration of a tree goes, none of the tree with other texts does.
use Rattle.std.proofs.Common.{◌≡◌, ℕ, suc, ◌-◌, Bool, true, false, cond, List, [], ◌∷◌, ◌++◌, map, Option, Some, None, bytes_eq, refl, sym, ap, ap₂, ◌∙◌, subst}
use Rattle.std.specs.List.{All}
use Rattle.std.proofs.lemmas.List.Elements.{All-append, All-cons, All-nil}
use Rattle.ecma_kind.specs.declared.kind.Kind.{Kind}
use Rattle.ecma_kind.specs.declared.kind.Kind.TheVariants as kind
use Rattle.ecma_kind.specs.declared.span.Span.{Span}
use Rattle.ecma_tree.specs.declared.node.Node.{Node, Node-F, ind-Node, out-Node, roll-Node}
use Rattle.ecma_tree.specs.declared.node.Node.TheViews.{out-roll-Node}
use Rattle.ecma_tree.specs.Nodes.{node_of}
use Rattle.ecma_scope.specs.declared.role.Role.{Role}
use Rattle.ecma_scope.specs.declared.role.Role.TheVariants as role
use Rattle.ecma_scope.specs.Resolved.{context_count, is_name, taken}
use Rattle.ecma_scope.specs.Scopes.{is_there, opens, opens_by, role_by, role_in}
use Rattle.ecma_hygiene.specs.declared.spot.Spot.{Spot}
use Rattle.ecma_hygiene.specs.declared.spot.Spot.TheVariants as spot
use Rattle.ecma_hygiene.specs.declared.spot.Standing.{Standing}
use Rattle.ecma_hygiene.specs.Renamed.{Texts, key_of, kind_is_absent, name_of, property_key, proto, proto_in_brackets, proto_literal, spot_in, standing_in, two_names, with_default}
use Rattle.ecma_hygiene.specs.Sights.{Around, around_child, nowhere}
use Rattle.ecma_hygiene.specs.Texts.{text_in}
use Rattle.ecma_hygiene.specs.Walks.{gathered_from}
use Rattle.ecma_hygiene.proofs.Telling.{true-false}
use Rattle.ecma_hygiene.proofs.Walking.{gathered-out}
use Rattle.ecma_hygiene_scopes.specs.Apart.{IsScoped}
use Rattle.ecma_hygiene_scopes.specs.DeclaredIds.{scope_ids, with_text}
use Rattle.ecma_hygiene_scopes.specs.Laws.{WrittenModulesStay}
use Rattle.ecma_hygiene_scopes.specs.Seats.{IsKept, Seat, seat_here, seats_at}
use Rattle.ecma_hygiene_scopes.specs.Stops.{Stop, stops_at, stops_from}
use Rattle.ecma_hygiene_scopes.proofs.Clashes.{Stays}
use Rattle.ecma_hygiene_scopes.proofs.Growing.{OldName, grown, grown_by, grown_pattern}
use Rattle.ecma_hygiene_scopes.proofs.KindsTurned.{role-same}
use Rattle.ecma_hygiene_scopes.proofs.Parts.{children-of, kind-of}
use Rattle.ecma_hygiene_scopes.proofs.Passing.{map-all}
use Rattle.ecma_hygiene_scopes.proofs.Scoping.{all-names-again, opens-again, there-again}
use Rattle.ecma_hygiene_scopes.proofs.Stopping.{All-first, All-second, stop-here, stops-below}
use Rattle.ecma_hygiene_scopes.proofs.Written.{again, again-out, all_again, children_again, old_of, own_kind}

-- ---- the seats of a node of these parts

abbrev seats_in : (ℕ → Role) → ℕ → List Node → List Seat
seats_in roles i cs = gathered_from Role Seat roles i (map seats_at cs)

abbrev roles_of : Role → Kind → List Node → ℕ → Role
roles_of r k cs i = role_by r k (is_there cs 1) i

seats-of : (r : Role) (span : Span) (k : Kind) (cs : List Node) → seats_at (node_of span k cs) r ≡ record { role = r; node = node_of span k cs } ∷ seats_in (roles_of r k cs) 0 cs
seats-of r span k cs =
    gathered-out Role Seat seat_here role_in (node_of span k cs) r
    ∙ ap₂ (λ (z : Kind) (zs : List Node). record { role = r; node = node_of span k cs } ∷ seats_in (roles_of r z zs) 0 zs) (kind-of span k cs) (children-of span k cs)

abbrev AllKept : List Seat → Type 0
AllKept = All IsKept

parts-kept : (r : Role) (span : Span) (k : Kind) (cs : List Node) → IsKept (record { role = r; node = node_of span k cs }) → AllKept (seats_in (roles_of r k cs) 0 cs) → AllKept (seats_at (node_of span k cs) r)
parts-kept r span k cs here below = subst AllKept (sym (seats-of r span k cs)) (All-cons IsKept (record { role = r; node = node_of span k cs }) (seats_in (roles_of r k cs) 0 cs) here below)

-- a node that opens no scope
closed-kept : (r : Role) (span : Span) (k : Kind) (cs : List Node) → opens_by r k (is_there cs 0) ≡ false → AllKept (seats_in (roles_of r k cs) 0 cs) → AllKept (seats_at (node_of span k cs) r)
closed-kept r span k cs shut below =
    parts-kept r span k cs (λ is. absurd (true-false is (ap₂ (λ (z : Kind) (zs : List Node). opens_by r z (is_there zs 0)) (kind-of span k cs) (children-of span k cs) ∙ shut))) below

one-kept : (r : Role) (x : Node) → AllKept (seats_at x r) → AllKept (seats_at x r ++ [])
one-kept r x kept = All-append IsKept (seats_at x r) [] kept (All-nil IsKept)

two-kept : (q r : Role) (x y : Node) → AllKept (seats_at x q) → AllKept (seats_at y r) → AllKept (seats_at x q ++ (seats_at y r ++ []))
two-kept q r x y one two = All-append IsKept (seats_at x q) (seats_at y r ++ []) one (one-kept r y two)

-- ---- shorthands that are written out

key-kept : (old : OldName) (r : Role) → AllKept (seats_at (key_of old) r)
unfolding opens_by
key-kept old r = closed-kept r old.span (kind.IdentName old.text) [] refl (All-nil IsKept)

name-kept : (old : OldName) (r : Role) → AllKept (seats_at (name_of old) r)
unfolding opens_by
name-kept old r = closed-kept r old.span (kind.Ident old.text 0 false) [] refl (All-nil IsKept)

brackets-kept : (span : Span) (r : Role) → AllKept (seats_at (proto_in_brackets span) r)
unfolding opens_by role_by
brackets-kept span r =
    closed-kept r span kind.ComputedPropName (node_of span proto_literal [] ∷ []) refl (one-kept role.Plain (node_of span proto_literal []) (closed-kept role.Plain span proto_literal [] refl (All-nil IsKept)))

key-by : (b : Bool) (old : OldName) (r : Role) → AllKept (seats_at (cond b (proto_in_brackets old.span) (key_of old)) r)
key-by true old r = brackets-kept old.span r
key-by false old r = key-kept old r

default-by : (b : Bool) (span : Span) (a v : Node) → AllKept (seats_at a role.Plain) → AllKept (seats_at v role.Plain) → AllKept (seats_at (cond b a (node_of span kind.AssignPat (a ∷ v ∷ []))) role.Plain)
unfolding opens_by role_by
default-by true span a v one two = one
default-by false span a v one two = closed-kept role.Plain span kind.AssignPat (a ∷ v ∷ []) refl (two-kept role.Plain role.Plain a v one two)

names-kept : (roles : ℕ → Role) (old : OldName) (cs : List Node) → AllKept (seats_in roles 0 cs) → AllKept (seats_in roles 0 (two_names old cs))
names-kept roles old [] kept = kept
names-kept roles old (a ∷ []) kept = kept
names-kept roles old (a ∷ b ∷ []) kept = two-kept (roles 0) (roles 1) a (name_of old) (All-first IsKept (seats_at a (roles 0)) (seats_at b (roles 1) ++ []) kept) (name-kept old (roles 1))
names-kept roles old (a ∷ b ∷ c ∷ cs) kept = kept

pattern-kept : (r : Role) (old : OldName) (span : Span) (cs : List Node) → AllKept (seats_in (λ i. role.Plain) 0 cs) → AllKept (seats_at (grown_pattern old span cs) r)
unfolding opens_by role_by
pattern-kept r old span [] kept = closed-kept r span kind.AssignPatProp [] refl kept
pattern-kept r old span (a ∷ []) kept = closed-kept r span kind.AssignPatProp (a ∷ []) refl kept
pattern-kept r old span (a ∷ v ∷ []) kept =
    let one = All-first IsKept (seats_at a role.Plain) (seats_at v role.Plain ++ []) kept in
    let two = All-first IsKept (seats_at v role.Plain) [] (All-second IsKept (seats_at a role.Plain) (seats_at v role.Plain ++ []) kept) in
    closed-kept r span kind.KeyValuePatProp (key_of old ∷ with_default span a v ∷ []) refl
    (two-kept role.Plain role.Plain (key_of old) (with_default span a v) (key-kept old role.Plain) (default-by (kind_is_absent v) span a v one two))
pattern-kept r old span (a ∷ v ∷ c ∷ cs) kept = closed-kept r span kind.AssignPatProp (a ∷ v ∷ c ∷ cs) refl kept

by-kept : (r : Role) (old : OldName) (span : Span) (k : Kind) (cs : List Node) → IsKept (record { role = r; node = grown_by old span k cs }) → AllKept (seats_in (roles_of r k cs) 0 cs) → AllKept (seats_at (grown_by old span k cs) r)
unfolding opens_by role_by
by-kept r old span (kind.Ident s c o) cs here below =
    closed-kept r span kind.KeyValueProp (property_key old ∷ node_of span (kind.Ident s c o) cs ∷ []) refl
    (two-kept role.Plain role.Plain (property_key old) (node_of span (kind.Ident s c o) cs) (key-by (bytes_eq old.text proto) old role.Plain) (closed-kept role.Plain span (kind.Ident s c o) cs refl below))
by-kept r old span (kind.ImportNamedSpecifier t) cs here below =
    parts-kept r span (kind.ImportNamedSpecifier t) (two_names old cs) here (names-kept (λ i. role_by r (kind.ImportNamedSpecifier t) false i) old cs below)
by-kept r old span (kind.ExportNamedSpecifier t) cs here below =
    parts-kept r span (kind.ExportNamedSpecifier t) (two_names old cs) here (names-kept (λ i. role_by r (kind.ExportNamedSpecifier t) false i) old cs below)
by-kept r old span kind.AssignPatProp cs here below = pattern-kept r old span cs below
by-kept r old span k cs here below = parts-kept r span k cs here below

grown-kept : (r : Role) (o : Option OldName) (span : Span) (k : Kind) (cs : List Node) → IsKept (record { role = r; node = grown o span k cs }) → AllKept (seats_in (roles_of r k cs) 0 cs) → AllKept (seats_at (grown o span k cs) r)
grown-kept r (Some old) span k cs here below = by-kept r old span k cs here below
grown-kept r None span k cs here below = parts-kept r span k cs here below

-- ---- the tree

abbrev empty : List ℕ → ℕ → ℕ
empty text ctxt = 0

module _ (free : ℕ) (texts : Texts) where
  abbrev bare : Node → Standing → Node
  bare = again empty texts

  abbrev stand : Role → Spot → Standing
  stand r at = record { role = r; spot = at }

  abbrev Scoped : List Stop → Type 0
  Scoped = All (IsScoped free)

  here-kept : (n : Node) (s : Around) (at : Spot) (left : ℕ) → IsScoped free (record { node = n; around = s; left = left }) → IsKept (record { role = s.role; node = bare n (stand s.role at) })
  here-kept n s at left scoped is =
      let opened : opens s.role n ≡ true = sym (opens-again empty texts (λ text. refl) n (stand s.role at) s.role) ∙ is in
      subst (All Stays) (sym (all-names-again empty texts (λ text. refl) n (stand s.role at))) (map-all Stays (with_text texts) (scope_ids s.role n) (scoped.declares opened).stay)

  roles-again : (n : Node) (s : Around) (at : Spot) (i : ℕ) → (around_child s n i).role ≡ roles_of s.role (own_kind empty texts n (stand s.role at)) (children_again empty texts n (stand s.role at)) i
  roles-again n s at i =
      sym (role-same empty texts (is_name s.role) s.role (out-Node n).kind (is_there (children_again empty texts n (stand s.role at)) 1) i
      ∙ ap (λ (b : Bool). role_by s.role (out-Node n).kind b i) (there-again empty texts (λ text. refl) (standing_in (stand s.role at) n) 0 (out-Node n).children 1))

  abbrev Keeps : Node → Type 0
  Keeps n = (s : Around) (at : Spot) (left : ℕ) → Scoped (stops_at n s left) → AllKept (seats_at (bare n (stand s.role at)) s.role)

  abbrev AllKeep : List Node → Type 0
  AllKeep ns = (arounds : ℕ → Around) (spots : ℕ → Spot) (i left : ℕ) → Scoped (stops_from arounds i ns (map stops_at ns) left)
      → AllKept (seats_in (λ j. (arounds j).role) i (all_again empty texts (λ j. stand (arounds j).role (spots j)) i ns))

  all-keep : (ns : List ((n : Node) × Keeps n)) → AllKeep (map (λ e. e.0) ns)
  all-keep [] arounds spots i left scoped = All-nil IsKept
  all-keep (n ∷ ns) arounds spots i left scoped =
      let others : List Node = map (λ e. e.0) ns in
      let less : ℕ = left - context_count n.0 (arounds i).role in
      let rest : List Stop = stops_from arounds (suc i) others (map stops_at others) less in
      All-append IsKept (seats_at (bare n.0 (stand (arounds i).role (spots i))) (arounds i).role) (seats_in (λ j. (arounds j).role) (suc i) (all_again empty texts (λ j. stand (arounds j).role (spots j)) (suc i) others))
      (n.1 (arounds i) (spots i) left (All-first (IsScoped free) (stops_at n.0 (arounds i) left) rest scoped))
      (all-keep ns arounds spots (suc i) less (All-second (IsScoped free) (stops_at n.0 (arounds i) left) rest scoped))

  layer-keeps : (n : Node) → AllKeep (out-Node n).children → Keeps n
  layer-keeps n children s at left scoped =
      let stands : Standing = stand s.role at in
      let o : Option OldName = old_of empty texts n stands in
      let span : Span = (out-Node n).span in
      let k : Kind = own_kind empty texts n stands in
      let cs : List Node = children_again empty texts n stands in
      let out : bare n stands ≡ grown o span k cs = again-out empty texts (λ text. refl) n stands in
      let below = children (around_child s n) (λ i. spot_in at (out-Node n).kind i) 0 (left - taken s.role n) (stops-below (IsScoped free) n s left scoped) in
      subst (λ (z : Node). AllKept (seats_at z s.role)) (sym out)
      (grown-kept s.role o span k cs (subst (λ (z : Node). IsKept (record { role = s.role; node = z })) out (here-kept n s at left (stop-here (IsScoped free) n s left scoped)))
      (subst (λ (roles : ℕ → Role). AllKept (seats_in roles 0 cs)) (λ j i. roles-again n s at i j) below))

  keeps : (n : Node) → Keeps n
  keeps = ind-Node Keeps (λ x y is.
      layer-keeps (roll-Node x) (subst AllKeep (ap (λ (z : Node-F Node). z.children) is ∙ sym (ap (λ (z : Node-F Node). z.children) (out-roll-Node x))) (all-keep y.children)))

pub written-modules-stay : WrittenModulesStay
written-modules-stay free left tree names texts scoped = keeps free (text_in names) tree nowhere spot.Elsewhere left scoped
