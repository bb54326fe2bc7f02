-- Resolved modules: what their scopes declare, and what they are with final texts, read again without contexts and resolved.
use Rattle.std.proofs.Common.{◌≡◌, ℕ, suc, ◌≤◌, Bool, true, List, [], ◌∷◌, map, refl, sym, ap, ◌∙◌, subst}
use Rattle.std.specs.List.{All}
use Rattle.std.proofs.lemmas.List.Elements.{All-append, All-cons, All-nil}
use Rattle.ecma_kind.specs.declared.kind.Kind.{Kind}
use Rattle.ecma_kind.specs.declared.kind.Kind.TheVariants as kind
use Rattle.ecma_tree.specs.Contexts.{kind_with_context}
use Rattle.ecma_tree.specs.declared.node.Node.{Node, Node-F, ind-Node, out-Node, roll-Node}
use Rattle.ecma_tree.specs.declared.node.Node.TheViews.{out-roll-Node}
use Rattle.ecma_tree.proofs.Changing.{changed-parts}
use Rattle.ecma_scope.specs.Bindings.{FollowBindings}
use Rattle.ecma_scope.specs.declared.role.Role.{Role}
use Rattle.ecma_scope.specs.declared.role.Role.TheVariants as role
use Rattle.ecma_scope.specs.Laws.{without_contexts}
use Rattle.ecma_scope.specs.Resolved.{contexts, is_name, resolved}
use Rattle.ecma_scope.specs.Scopes.{opens, role_in}
use Rattle.ecma_hygiene.specs.Capture.{IsNotCaptured, Placed, placed, placed_here}
use Rattle.ecma_hygiene.specs.Renamed.{renamed}
use Rattle.ecma_hygiene.specs.Sights.{nowhere}
use Rattle.ecma_hygiene.specs.Texts.{text_in}
use Rattle.ecma_hygiene.specs.Walks.{gathered_from}
use Rattle.ecma_hygiene.proofs.Walking.{gathered-out}
use Rattle.ecma_hygiene_scopes.specs.Lasting.{IsCheckedModule}
use Rattle.ecma_hygiene_scopes.specs.StayingModules.{IsStayingModule}
use Rattle.ecma_hygiene_scopes.specs.DeclaredIds.{DeclaredId, scope_ids}
use Rattle.ecma_hygiene_scopes.specs.Laws.{ResolvedCapturesNothing, ResolvedDeclaresEachOnce, ResolvedFollowsItsTexts, ResolvedIsReadAgain, ResolvedIsRight}
use Rattle.ecma_hygiene_scopes.specs.Once.{DeclaresEachOnce}
use Rattle.ecma_hygiene_scopes.specs.Seats.{NothingGoes, Seat, seat_here, seats_at}
use Rattle.ecma_hygiene_scopes.proofs.Goodness.{Fits}
use Rattle.ecma_hygiene_scopes.proofs.Parts.{children-of, kind-of}
use Rattle.ecma_hygiene_scopes.proofs.ReadingAgain.{follows-its-texts, is-read-again}
use Rattle.ecma_hygiene_scopes.specs.Stops.{Stop, stops}
use Rattle.ecma_hygiene_scopes.proofs.Reached.{Known, kept-here, reached}
use Rattle.ecma_hygiene_scopes.proofs.ResolvedRight.{IsPlaced, right-here, stays-here}
use Rattle.ecma_hygiene_scopes.proofs.Settling.{settled-root}
use Rattle.ecma_hygiene_scopes.proofs.Sameness.{contexts-stay, counts-resolved, no_text}
use Rattle.ecma_hygiene_scopes.proofs.Sorting.{module-shaped}
use Rattle.ecma_hygiene_scopes.proofs.Stopping.{gathers}
use Rattle.ecma_hygiene_scopes.proofs.Uncaptured.{once-here, uncaptured-here}

-- ---- the empty context

abbrev Empty : Seat → Type 0
Empty seat = (s : List ℕ) (c : ℕ) (o : Bool) → (out-Node seat.node).kind ≡ kind.Ident s c o → is_name seat.role ≡ true → c ≡ 0

abbrev bare : List ℕ → ℕ → ℕ
bare text ctxt = 0

empty-kind : (k : Kind) (s : List ℕ) (c : ℕ) (o : Bool) → kind_with_context bare k ≡ k → k ≡ kind.Ident s c o → c ≡ 0
empty-kind k s c o same is = zero s c o (ap (kind_with_context bare) (sym is) ∙ same ∙ is)
  where
    zero : (s : List ℕ) (c : ℕ) (o : Bool) → ◌≡◌ {A = Kind} (kind.Ident s 0 o) (kind.Ident s c o) → c ≡ 0
    zero s c o h = cc

bare-kind : (m : Node) → without_contexts m ≡ m → kind_with_context bare (out-Node m).kind ≡ (out-Node m).kind
bare-kind m same =
    sym (kind-of (out-Node m).span (kind_with_context bare (out-Node m).kind) (map without_contexts (out-Node m).children))
    ∙ ap (λ (z : Node). (out-Node z).kind) (sym (changed-parts (λ span. span) (kind_with_context bare) m) ∙ same)

bare-children : (m : Node) → without_contexts m ≡ m → map without_contexts (out-Node m).children ≡ (out-Node m).children
bare-children m same =
    sym (children-of (out-Node m).span (kind_with_context bare (out-Node m).kind) (map without_contexts (out-Node m).children))
    ∙ ap (λ (z : Node). (out-Node z).children) (sym (changed-parts (λ span. span) (kind_with_context bare) m) ∙ same)

abbrev Empties : Node → Type 0
Empties m = (r : Role) → without_contexts m ≡ m → All Empty (seats_at m r)

abbrev AllEmpty : List Node → Type 0
AllEmpty ms = (roles : ℕ → Role) (i : ℕ) → map without_contexts ms ≡ ms → All Empty (gathered_from Role Seat roles i (map seats_at ms))

head-same : (x y : Node) (xs ys : List Node) → ◌≡◌ {A = List Node} (x ∷ xs) (y ∷ ys) → x ≡ y
head-same x y xs ys h = cc

tail-same : (x y : Node) (xs ys : List Node) → ◌≡◌ {A = List Node} (x ∷ xs) (y ∷ ys) → xs ≡ ys
tail-same x y xs ys h = cc

all-empty : (ms : List ((m : Node) × Empties m)) → AllEmpty (map (λ e. e.0) ms)
all-empty [] roles i same = All-nil Empty
all-empty (m ∷ ms) roles i same =
    let others : List Node = map (λ e. e.0) ms in
    All-append Empty (seats_at m.0 (roles i)) (gathered_from Role Seat roles (suc i) (map seats_at others))
    (m.1 (roles i) (head-same (without_contexts m.0) m.0 (map without_contexts others) others same)) (all-empty ms roles (suc i) (tail-same (without_contexts m.0) m.0 (map without_contexts others) others same))

layer-empty : (m : Node) → AllEmpty (out-Node m).children → Empties m
layer-empty m children r same =
    subst (All Empty) (sym (gathered-out Role Seat seat_here role_in m r))
    (All-cons Empty (record { role = r; node = m }) (gathered_from Role Seat (role_in r m) 0 (map seats_at (out-Node m).children)) (λ s c o is named. empty-kind (out-Node m).kind s c o (bare-kind m same) is)
    (children (role_in r m) 0 (bare-children m same)))

empties : (m : Node) → Empties m
empties = ind-Node Empties (λ x y is.
    layer-empty (roll-Node x) (subst AllEmpty (ap (λ (z : Node-F Node). z.children) is ∙ sym (ap (λ (z : Node-F Node). z.children) (out-roll-Node x))) (all-empty y.children)))

-- ---- the laws

fit : (source : Node) → IsCheckedModule source → All Fits (seats_at source role.Root)
fit source checked =
    let shaped = module-shaped source checked.sorted in
    let empty = empties source role.Root checked.bare in
    λ k d lt. record {
      absent = (shaped k d lt).absent;
      default = (shaped k d lt).default;
      body = (shaped k d lt).body;
      nested = (shaped k d lt).nested;
      empty = empty k d lt;
      holder = (shaped k d lt).holder;
    }

-- a module in which nothing goes is one of these
pub checked : (source : Node) → IsStayingModule source → IsCheckedModule source
checked source plain = record { sorted = plain.sorted; bare = plain.bare; clear = plain.clear }

-- what is known of the module itself
known : (source : Node) → IsCheckedModule source → Known (NothingGoes source) source nowhere []
known source is = record {
  keep = tt;
  settled = settled-root;
  good = record { all = fit source is; clear = is.clear };
  kept = λ whole. whole;
  steady = λ whole. tt;
}

module _ (unresolved top left : ℕ) (source : Node) where
  pub resolved-is-placed : IsCheckedModule source → All (IsPlaced unresolved top) (stops left (resolved unresolved top left source))
  resolved-is-placed is =
      reached unresolved top (NothingGoes source) (IsPlaced unresolved top) (λ m s frames less here. right-here unresolved top m s frames less here.keep here.settled here.good) source nowhere [] left (known source is)

  module _ (plain : IsStayingModule source) where
    abbrev Stays : Stop → Type 0
    Stays stop = opens stop.around.role stop.node ≡ true → All (λ (d : DeclaredId). d.stays ≡ true) (scope_ids stop.around.role stop.node)

    pub resolved-stays : All Stays (stops left (resolved unresolved top left source))
    resolved-stays =
        reached unresolved top (NothingGoes source) Stays (λ m s frames less here. stays-here unresolved top m s.role frames less (kept-here unresolved top (NothingGoes source) m s frames less here plain.kept)) source nowhere [] left
        (known source (checked source plain))

    none-captured : All (IsNotCaptured no_text) (placed (resolved unresolved top left source))
    none-captured =
        gathers Placed placed_here (IsNotCaptured no_text) (resolved unresolved top left source) nowhere left
        (reached unresolved top (NothingGoes source) (λ stop. All (IsNotCaptured no_text) (placed_here stop.around stop.node))
        (λ m s frames less here. uncaptured-here unresolved top (NothingGoes source) m s frames less here plain.kept) source nowhere [] left (known source (checked source plain)))

    each-once : All (λ (stop : Stop). DeclaresEachOnce stop.node stop.around) (stops left (resolved unresolved top left source))
    each-once =
        reached unresolved top (NothingGoes source) (λ stop. DeclaresEachOnce stop.node stop.around) (λ m s frames less here. once-here unresolved top (NothingGoes source) m s frames less here) source nowhere [] left
        (known source (checked source plain))

pub resolved-is-right : ResolvedIsRight
resolved-is-right unresolved top left source plain =
    let placed = resolved-is-placed unresolved top left source (checked source plain) in
    let stay = resolved-stays unresolved top left source plain in
    λ k d lt. (let p = placed k d lt in record {
      absent = p.absent;
      names = p.names;
      free = p.free;
      declares = λ opened. record { stay = stay k d lt opened; blocks = p.blocks opened; parameters = p.parameters opened; contexts = p.contexts opened };
    })

pub resolved-captures-nothing : ResolvedCapturesNothing
resolved-captures-nothing unresolved top left source plain unresolved_above top_above apart enough = none-captured unresolved top left source plain

pub resolved-declares-each-once : ResolvedDeclaresEachOnce
resolved-declares-each-once unresolved top left source plain unresolved_above top_above apart enough = each-once unresolved top left source plain

pub resolved-is-read-again : ResolvedIsReadAgain
resolved-is-read-again unresolved top left source written plain hygienic =
    let tree : Node = resolved unresolved top left source in
    ap (λ (z : Node). resolved unresolved top left (without_contexts z)) hygienic.is
    ∙ sym (contexts-stay (resolved unresolved top left (without_contexts (renamed (text_in hygienic.names) tree))))
    ∙ is-read-again unresolved top left (λ ctxt. ctxt) (λ ctxt. ctxt) tree hygienic.names hygienic.texts refl (resolved-is-right unresolved top left source plain)
    ∙ contexts-stay (renamed (text_in hygienic.names) tree) ∙ sym hygienic.is

pub resolved-follows-its-texts : ResolvedFollowsItsTexts
resolved-follows-its-texts unresolved top left source written plain hygienic unresolved_above top_above apart enough =
    let tree : Node = resolved unresolved top left source in
    let final : Node = renamed (text_in hygienic.names) tree in
    let counts : contexts tree ≡ contexts source = counts-resolved unresolved top source (record { role = role.Root; scopes = [] }) left role.Root in
    let follows = follows-its-texts unresolved top left (λ ctxt. ctxt) tree hygienic.names hygienic.texts refl (resolved-is-right unresolved top left source plain) unresolved_above top_above apart
    (subst (λ (n : ℕ). n ≤ left) (sym counts) enough) in
    subst (λ (z : Node). FollowBindings unresolved z (without_contexts z)) (sym hygienic.is)
    (subst (λ (z : Node). FollowBindings unresolved z (without_contexts final)) (contexts-stay final) follows)
