-- The tree with final texts, resolved again, has the contexts that it had, up to maps of contexts.
use Rattle.std.proofs.Common.{◌≡◌, ℕ, suc, ◌+◌, ◌-◌, Bool, true, false, ◌&&◌, not, cond, filter, List, [], ◌∷◌, ◌++◌, map, Option, refl, sym, ap, ap₂, ◌∙◌, subst}
use Rattle.std.specs.List.{All, list_any}
use Rattle.std.proofs.lemmas.List.Elements.{All-head}
use Rattle.ecma_kind.specs.declared.kind.Kind.{Kind}
use Rattle.ecma_kind.specs.declared.kind.Kind.TheVariants as kind
use Rattle.ecma_kind.specs.declared.span.Span.{Span}
use Rattle.ecma_tree.specs.declared.node.Node.{Node, Node-F, ind-Node, out-Node, roll-Node}
use Rattle.ecma_tree.specs.declared.node.Node.TheViews.{out-roll-Node}
use Rattle.ecma_tree.specs.Contexts.{kind_with_context, with_contexts}
use Rattle.ecma_tree.specs.Nodes.{node_of}
use Rattle.ecma_scope.specs.declared.form.Declaration.{Declaration}
use Rattle.ecma_scope.specs.declared.role.Role.{Role}
use Rattle.ecma_scope.specs.Declarations.{is_own as is_own_name, names, stated}
use Rattle.ecma_scope.specs.Resolved.{Place, Scope as Frame, context_count, context_in, counted, innermost as innermost_states, inside, is_name, kind_at, placed, resolved_at, scope_at, taken}
use Rattle.ecma_scope.specs.Scopes.{covers, is_root, is_there, opens, opens_by, role_by, role_in}
use Rattle.ecma_scope.proofs.Opening.{context_count-out}
use Rattle.ecma_hygiene.specs.declared.naming.Named.{Named}
use Rattle.ecma_hygiene.specs.declared.sight.Meeting.{Meeting}
use Rattle.ecma_hygiene.specs.declared.sight.Sight.{Sight}
use Rattle.ecma_hygiene.specs.declared.spot.Spot.{Spot}
use Rattle.ecma_hygiene.specs.declared.spot.Standing.{Standing}
use Rattle.ecma_hygiene.specs.Capture.{IsNotCaptured, placed_at, placed_by, placed_here}
use Rattle.ecma_hygiene.specs.Ids.{Id, has_context, innermost}
use Rattle.ecma_hygiene.specs.Renamed.{Texts, kind_is_absent, spot_in, standing_in, text_of}
use Rattle.ecma_hygiene.specs.Sights.{Around, around_child, meetings_at, own_scope, sights_at}
use Rattle.ecma_hygiene.specs.Texts.{AreTexts, is_bound, text_in}
use Rattle.ecma_hygiene.specs.Walks.{gathered_from}
use Rattle.ecma_hygiene.proofs.Bound.{own-bound}
use Rattle.ecma_hygiene.proofs.Walking.{gathered-out}
use Rattle.ecma_hygiene_scopes.specs.DeclaredIds.{scope_ids, with_text}
use Rattle.ecma_hygiene_scopes.specs.Stops.{DeclaresRightly, IsRight, Stop, stops_at, stops_from}
use Rattle.ecma_hygiene_scopes.proofs.Alike.{Alike, Like, States, innermost-like, like-inside, states-own}
use Rattle.ecma_hygiene_scopes.proofs.Finding.{gives, written-apart}
use Rattle.ecma_hygiene_scopes.proofs.Growing.{grown, grown-turned}
use Rattle.ecma_hygiene_scopes.proofs.KindsTurned.{covers-same, opens-same, role-same, turned_kind}
use Rattle.ecma_hygiene_scopes.proofs.Parts.{children-of, kind-of}
use Rattle.ecma_hygiene_scopes.proofs.Resolving.{AbsentTakesNone, below, grown-count, grown-resolved}
use Rattle.ecma_hygiene_scopes.proofs.Scoping.{plain-names-again, there-again}
use Rattle.ecma_hygiene_scopes.proofs.Shorthands.{Proper, absent-none, old-no-name, old-second, proper-child}
use Rattle.ecma_hygiene_scopes.proofs.Stopping.{All-first, All-second, stop-here, stops-below}
use Rattle.ecma_hygiene_scopes.proofs.Written.{again, again-out, all_again, children_again, old_of, own_kind}

abbrev empty : List ℕ → ℕ → ℕ
empty text ctxt = 0

module _ (unresolved top : ℕ) (from to : ℕ → ℕ) (kept : from 0 ≡ 0) (none : to 0 ≡ 0) (seen : List Sight) (met : List Meeting) (texts : List Named) (are : AreTexts seen met texts) where
  abbrev written : Texts
  written = text_in texts

  abbrev context_of : List ℕ → ℕ → ℕ
  context_of text ctxt = to ctxt

  abbrev from_of : List ℕ → ℕ → ℕ
  from_of text ctxt = from ctxt

  abbrev mapped : Node → Node
  mapped = with_contexts from_of

  abbrev is_binding : Id → Bool
  is_binding = is_bound seen

  -- what is known of a node and what stands around it
  pub record Fine (stop : Stop) : Type 0 where
    pub right : IsRight unresolved top from to stop
    pub captured : All (IsNotCaptured written) (placed_at stop.node stop.around)
    pub seen_in : (f : Sight → Bool) → list_any f (sights_at stop.node stop.around) ≡ true → list_any f seen ≡ true
    pub met_in : (f : Meeting → Bool) → list_any f (meetings_at stop.node stop.around) ≡ true → list_any f met ≡ true

  abbrev bare : Node → Standing → Node
  bare = again empty written

  abbrev final : Node → Standing → Node
  final = again context_of written

  abbrev stand : Role → Spot → Standing
  stand r spot = record { role = r; spot = spot }

  abbrev place : Role → List Frame → Place
  place r frames = record { role = r; scopes = frames }

  abbrev res : Node → Place → ℕ → Node
  res = resolved_at unresolved top

  -- ---- the node itself

  kinds-by : (r : Role) (frames : List Frame) (named : Bool) (k : Kind) → is_name r ≡ named
      → ((s : List ℕ) (c : ℕ) (o : Bool) → k ≡ kind.Ident s c o → named ≡ true → c ≡ 0)
      → ((s : List ℕ) (c : ℕ) (o : Bool) → k ≡ kind.Ident s c o → named ≡ false → from (context_in unresolved frames (text_of written (s, c)) unresolved) ≡ to c)
      → kind_with_context from_of (kind_at unresolved (place r frames) (turned_kind empty written named k)) ≡ turned_kind context_of written named k
  kinds-by r frames true (kind.Ident s c o) is names finds =
      ap (λ (b : Bool). kind.Ident s (from (cond b 0 (context_in unresolved frames s unresolved))) o) is ∙ ap (λ (z : ℕ). kind.Ident s z o) (kept ∙ sym none ∙ ap to (sym (names s c o refl refl)))
  kinds-by r frames false (kind.Ident s c o) is names finds =
      ap (λ (b : Bool). kind.Ident (text_of written (s, c)) (from (cond b 0 (context_in unresolved frames (text_of written (s, c)) unresolved))) o) is
      ∙ ap (λ (z : ℕ). kind.Ident (text_of written (s, c)) z o) (finds s c o refl refl)
  kinds-by r frames true _ is names finds = refl
  kinds-by r frames false _ is names finds = refl

  module _ (n : Node) (s : Around) (spot : Spot) (frames : List Frame) (left : ℕ) (fine : Fine (record { node = n; around = s; left = left })) (like : Like written from to is_binding s.scopes frames) where
    abbrev r : Role
    r = s.role

    placed-one : (named : Bool) (k : Kind) (sym_ : List ℕ) (c : ℕ) (o : Bool) → k ≡ kind.Ident sym_ c o → named ≡ false → All (IsNotCaptured written) (placed_by named s.scopes k)
        → IsNotCaptured written (record { name = (sym_, c); scopes = s.scopes })
    placed-one named k sym_ c o is other all =
        All-head (IsNotCaptured written) (record { name = (sym_, c); scopes = s.scopes }) [] (subst (λ (z : Kind). All (IsNotCaptured written) (placed_by false s.scopes z)) is (subst (λ (b : Bool). All (IsNotCaptured written) (placed_by b s.scopes k)) other all))

    own-kind : kind_with_context from_of (kind_at unresolved (place r frames) (own_kind empty written n (stand r spot))) ≡ own_kind context_of written n (stand r spot)
    own-kind =
        let here = All-first (IsNotCaptured written) (placed_here s n) (gathered_from Around _ (around_child s n) 0 (map placed_at (out-Node n).children)) (subst (All (IsNotCaptured written)) (gathered-out Around _ placed_here around_child n s) fine.captured) in
        kinds-by r frames (is_name r) (out-Node n).kind refl (λ t c o is named. fine.right.names t c o is named)
        (λ t c o is other. gives unresolved written from to is_binding s.scopes frames (t, c) like (placed-one (is_name r) (out-Node n).kind t c o is other here) (fine.right.free t c o is other))

    -- ---- the scope that it opens

    abbrev plain : Node
    plain = node_of (out-Node n).span (own_kind empty written n (stand r spot)) (children_again empty written n (stand r spot))

    abbrev frame : Frame
    frame = scope_at top (place r frames) plain left

    own-alike : opens r n ≡ true → Alike written from to is_binding (own_scope r s.scopes n) frame
    own-alike opened =
        let rightly : DeclaresRightly top from to (record { node = n; around = s; left = left }) = fine.right.declares opened in
        let around : List ℕ → Option Bool = innermost_states frames in
        let inner : States written from to is_binding (innermost s.scopes) around = innermost-like written from to is_binding s.scopes frames like in
        let bound : (b : Id) → has_context b.1 (own_scope r s.scopes n b.0) ≡ true → is_binding b ≡ true = λ b h. fine.seen_in (λ x. _) (own-bound n s b opened h) in
        let own : States written from to is_binding (own_scope r s.scopes n) (stated (filter (is_own_name r around) (map (with_text written) (scope_ids r n)))) =
        states-own written from to is_binding r s.scopes n around inner rightly.stay rightly.blocks rightly.parameters bound
        (λ block p b has mine other. written-apart seen met texts are n s fine.met_in p b opened block (inner.bound p has) (bound b mine) has mine other) in
        record {
          states = subst (λ (ds : List Declaration). States written from to is_binding (own_scope r s.scopes n) (stated ds)) (sym (plain-names-again empty written (λ text. refl) n (stand r spot) around)) own;
          number = rightly.contexts;
        }

    -- ---- its children

    abbrev frames_at : ℕ → List Frame
    frames_at i = cond (opens r n && covers r (out-Node n).kind i) (frames ++ frame ∷ []) frames

    like-below : (i : ℕ) → Like written from to is_binding (around_child s n i).scopes (frames_at i)
    like-below i = like-inside written from to is_binding (opens r n) (covers r (out-Node n).kind i) s.scopes frames (own_scope r s.scopes n) frame like own-alike

    abbrev cs : List Node
    cs = children_again empty written n (stand r spot)

    opens-parts : opens_by r (own_kind empty written n (stand r spot)) (is_there cs 0) ≡ opens r n
    opens-parts =
        opens-same empty written (is_name r) r (out-Node n).kind (is_there cs 0)
        ∙ ap (opens_by r (out-Node n).kind) (there-again empty written (λ text. refl) (standing_in (stand r spot) n) 0 (out-Node n).children 0)

    role-parts : (i : ℕ) → role_by r (own_kind empty written n (stand r spot)) (is_there cs 1) i ≡ role_in r n i
    role-parts i =
        role-same empty written (is_name r) r (out-Node n).kind (is_there cs 1) i
        ∙ ap (λ (b : Bool). role_by r (out-Node n).kind b i) (there-again empty written (λ text. refl) (standing_in (stand r spot) n) 0 (out-Node n).children 1)

    opens-plain : opens r plain ≡ opens r n
    opens-plain =
        ap₂ (λ (z : Kind) (zs : List Node). opens_by r z (is_there zs 0)) (kind-of (out-Node n).span (own_kind empty written n (stand r spot)) cs) (children-of (out-Node n).span (own_kind empty written n (stand r spot)) cs)
        ∙ opens-parts

    role-plain : (i : ℕ) → role_in r plain i ≡ role_in r n i
    role-plain i =
        ap₂ (λ (z : Kind) (zs : List Node). role_by r z (is_there zs 1) i) (kind-of (out-Node n).span (own_kind empty written n (stand r spot)) cs) (children-of (out-Node n).span (own_kind empty written n (stand r spot)) cs)
        ∙ role-parts i

    covers-plain : (i : ℕ) → covers r (out-Node plain).kind i ≡ covers r (out-Node n).kind i
    covers-plain i =
        ap (λ (z : Kind). covers r z i) (kind-of (out-Node n).span (own_kind empty written n (stand r spot)) (children_again empty written n (stand r spot)))
        ∙ covers-same empty written (is_name r) r (out-Node n).kind i

    inside-plain : (i : ℕ) → inside top (place r frames) plain left i ≡ place (role_in r n i) (frames_at i)
    inside-plain i = (λ j. record { role = role-plain i j; scopes = cond (opens-plain j && covers-plain i j) (frames ++ frame ∷ []) frames })

    taken-plain : taken r plain ≡ taken r n
    taken-plain = ap (λ (b : Bool). cond (b && not (is_root r)) 1 0) opens-plain

  -- ---- the children

  record Kept (n : Node) (s : Around) (spot : Spot) (frames : List Frame) (left : ℕ) : Type 0 where
    pub counts : context_count (bare n (stand s.role spot)) s.role ≡ context_count n s.role
    pub leaf : kind_is_absent n ≡ true → (out-Node n).children ≡ []
    pub resolves : mapped (res (bare n (stand s.role spot)) (place s.role frames) left) ≡ final n (stand s.role spot)

  abbrev Keeps : Node → Type 0
  Keeps n = (s : Around) (spot : Spot) (frames : List Frame) (left : ℕ) → All Fine (stops_at n s left) → Like written from to is_binding s.scopes frames → Proper (stand s.role spot) → Kept n s spot frames left

  record AllKept (ns : List Node) (around : ℕ → Around) (spots : ℕ → Spot) (frames : ℕ → List Frame) (i left : ℕ) : Type 0 where
    pub counts : counted (λ j. (around j).role) i (map context_count (all_again empty written (λ j. stand (around j).role (spots j)) i ns)) ≡ counted (λ j. (around j).role) i (map context_count ns)
    pub leaves : AbsentTakesNone (all_again empty written (λ j. stand (around j).role (spots j)) i ns)
    pub resolves : map mapped (placed (λ j. place (around j).role (frames j)) i (all_again empty written (λ j. stand (around j).role (spots j)) i ns) (map res (all_again empty written (λ j. stand (around j).role (spots j)) i ns)) left)
        ≡ all_again context_of written (λ j. stand (around j).role (spots j)) i ns

  abbrev AllKeep : List Node → Type 0
  AllKeep ns = (around : ℕ → Around) (spots : ℕ → Spot) (frames : ℕ → List Frame) (i left : ℕ) → All Fine (stops_from around i ns (map stops_at ns) left)
      → ((j : ℕ) → Like written from to is_binding (around j).scopes (frames j)) → ((j : ℕ) → Proper (stand (around j).role (spots j))) → AllKept ns around spots frames i left

  all-keep : (ns : List ((n : Node) × Keeps n)) → AllKeep (map (λ e. e.0) ns)
  all-keep [] around spots frames i left fine like proper = record { counts = refl; leaves = tt; resolves = refl }
  all-keep (x ∷ xs) around spots frames i left fine like proper =
      let ns : List Node = map (λ e. e.0) xs in
      let less : ℕ = left - context_count x.0 (around i).role in
      let rest : List Stop = stops_from around (suc i) ns (map stops_at ns) less in
      let first = x.1 (around i) (spots i) (frames i) left (All-first Fine (stops_at x.0 (around i) left) rest fine) (like i) (proper i) in
      let later = all-keep xs around spots frames (suc i) less (All-second Fine (stops_at x.0 (around i) left) rest fine) like proper in
      let others : List Node = all_again empty written (λ j. stand (around j).role (spots j)) (suc i) ns in
      record {
        counts = ap₂ (λ (a b : ℕ). a + b) first.counts later.counts;
        leaves = (absent-none empty written (λ text. refl) x.0 (stand (around i).role (spots i)) first.leaf, later.leaves);
        resolves = ap₂ (λ (y : Node) (c : ℕ). y ∷ map mapped (placed (λ j. place (around j).role (frames j)) (suc i) others (map res others) (left - c))) first.resolves first.counts
            ∙ ap (λ (ys : List Node). final x.0 (stand (around i).role (spots i)) ∷ ys) later.resolves;
      }

  layer-keeps : (n : Node) → AllKeep (out-Node n).children → Keeps n
  layer-keeps n children s spot frames left all like proper =
      let r : Role = s.role in
      let stands : Standing = stand s.role spot in
      let fine : Fine (record { node = n; around = s; left = left }) = stop-here Fine n s left all in
      let inner = children (around_child s n) (λ i. spot_in spot (out-Node n).kind i) (frames_at n s spot frames left fine like) 0 (left - taken s.role n) (stops-below Fine n s left all)
      (like-below n s spot frames left fine like) (proper-child stands n) in
      let span : Span = (out-Node n).span in
      let k : Kind = own_kind empty written n stands in
      let cs : List Node = children_again empty written n stands in
      record {
        counts = ap (λ (z : Node). context_count z s.role) (again-out empty written (λ text. refl) n stands)
            ∙ grown-count s.role (old_of empty written n stands) span k cs inner.leaves (old-second empty written (λ text. refl) n stands)
            ∙ ap₂ (λ (a b : ℕ). a + b) (ap (λ (b : Bool). cond (b && not (is_root s.role)) 1 0) (opens-parts n s spot frames left fine like))
            ((λ j. counted (λ i. role-parts n s spot frames left fine like i j) 0 (map context_count cs)) ∙ inner.counts)
            ∙ sym (context_count-out n s.role);
        leaf = fine.right.absent;
        resolves = ap (λ (z : Node). mapped (res z (place s.role frames) left)) (again-out empty written (λ text. refl) n stands)
            ∙ ap mapped (grown-resolved unresolved top (place s.role frames) (old_of empty written n stands) span k cs left (old-no-name empty written (λ text. refl) n stands proper))
            ∙ grown-turned from_of (λ text. kept) (old_of empty written n stands) span (kind_at unresolved (place s.role frames) k) (below unresolved top (place s.role frames) span k cs left)
            ∙ ap₂ (λ (z : Kind) (zs : List Node). grown (old_of empty written n stands) span z zs) (own-kind n s spot frames left fine like)
            ((λ j. map mapped (placed (λ i. inside-plain n s spot frames left fine like i j) 0 cs (map res cs) (left - taken-plain n s spot frames left fine like j))) ∙ inner.resolves)
            ∙ sym (again-out context_of written (λ text. none) n stands);
      }

  keeps : (n : Node) → Keeps n
  keeps = ind-Node Keeps (λ x y is.
      layer-keeps (roll-Node x) (subst AllKeep (ap (λ (z : Node-F Node). z.children) is ∙ sym (ap (λ (z : Node-F Node). z.children) (out-roll-Node x))) (all-keep y.children)))

  pub resolves-again : (n : Node) (s : Around) (spot : Spot) (frames : List Frame) (left : ℕ) → All Fine (stops_at n s left) → Like written from to is_binding s.scopes frames → Proper (stand s.role spot)
      → mapped (res (bare n (stand s.role spot)) (place s.role frames) left) ≡ final n (stand s.role spot)
  resolves-again n s spot frames left fine like proper = (keeps n s spot frames left fine like proper).resolves

  pub counts-again : (n : Node) (s : Around) (spot : Spot) (frames : List Frame) (left : ℕ) → All Fine (stops_at n s left) → Like written from to is_binding s.scopes frames → Proper (stand s.role spot)
      → context_count (bare n (stand s.role spot)) s.role ≡ context_count n s.role
  counts-again n s spot frames left fine like proper = (keeps n s spot frames left fine like proper).counts
