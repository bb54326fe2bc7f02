-- An expression that lacks no parentheses where `{` would open a block has a raw tree that does not begin with `{`, and none that begins with a word of a
-- declaration where that would begin one.
use Rattle.std.proofs.Common.{◌≡◌, ◌∙◌, refl, sym, ap, subst, Bool, true, false, not, ◌&&◌, List, [], ◌∷◌, map}
use Rattle.ecma_kind.specs.declared.span.Span.{Span}
use Rattle.ecma_kind.specs.declared.kind.Kind.{Kind}
use Rattle.ecma_kind.specs.declared.kind.Kind.TheVariants as kind
use Rattle.ecma_kind.specs.declared.operators.AssignOp.{AssignOp}
use Rattle.ecma_kind.specs.declared.operators.AssignOp.TheVariants.{Assign}
use Rattle.ecma_kind.specs.declared.shapes.Shape.{Shape}
use Rattle.ecma_tree.specs.declared.node.Node.{Node, fold-roll-Node, ind-Node}
use Rattle.ecma_tree.specs.Nodes.{node_of}
use Rattle.ecma_rules.specs.declared.target.Target.{Target}
use Rattle.ecma_rules.specs.declared.target.Target.TheVariants as target
use Rattle.ecma_rules.specs.Children.{kind_of}
use Rattle.ecma_rules.specs.Targets.{on_left, target_in}
use Rattle.ecma_covers.specs.Covering.{cover_at, cover_by, cover_in, untyped}
use Rattle.ecma_fits.specs.declared.role.Role.{Role}
use Rattle.ecma_print.specs.declared.place.Begins.{Begins}
use Rattle.ecma_print.specs.declared.place.Spot.{Spot}
use Rattle.ecma_print.specs.Laid.{is_object_pattern}
use Rattle.ecma_print.specs.Layout.{laid}
use Rattle.ecma_print.specs.Places.{opens_a_block, opens_a_declaration}
use Rattle.ecma_print.proofs.LaidOut.{laid_kind}
use Rattle.ecma_shapes.specs.Starts.{Start, brace, declaration_word, is_brace, is_declaration_word, other_start, start_by, start_of, start_step}
use Rattle.ecma_print_shapes.proofs.Covered.{cover_node, covered_children}
use Rattle.ecma_print_shapes.proofs.Seats.{both_false, either_parts}
use Rattle.ecma_print_shapes.proofs.Sound.{Here, Sound, here, kind_made}

-- of the brace (true) and of the words: what may not be the beginning, and where
abbrev is_barred : Bool → Start → Bool
is_barred true s = is_brace s
is_barred false s = is_declaration_word s

abbrev opens : Bool → Begins → Bool
opens true b = opens_a_block b
opens false b = opens_a_declaration b

-- what an expression is covered for: an object pattern, where a brace is barred, for what it is alone
abbrev is_whole : Bool → Target → Kind → Bool
is_whole c target.Free k = true
is_whole c target.Simple k = true
is_whole c target.Left k = not (c && is_object_pattern k)
is_whole c t k = false

abbrev Claim : Node → Type 0
Claim n = (c : Bool) (r : Role) (spot : Spot) (shape : Shape) (t : Target) → Sound r spot shape n → opens c spot.begins ≡ true → is_whole c t (kind_of n) ≡ true → is_barred c (start_of (cover_at n t)) ≡ false

abbrev Children : Type 0
Children = List ((n : Node) × Claim n)

abbrev nodes : Children → List Node
nodes cs = map (λ e. e.0) cs

starts_node : (at : Span) (k : Kind) (cs : List Node) → start_of (node_of at k cs) ≡ start_by k (map start_of cs)
starts_node at k cs = fold-roll-Node Start start_step (record { span = at; kind = k; children = cs })

unbarred : (c : Bool) → is_barred c other_start ≡ false
unbarred true = refl
unbarred false = refl

-- a pattern on the left of `=`
array_starts : (c : Bool) (at : Span) (o : Bool) (all ns : List Node) → is_barred c (start_of (untyped kind.ArrayLit (record { span = at; kind = kind.ArrayPat o; children = all }) ns)) ≡ false
array_starts c at o all (part ∷ type ∷ []) = ap (is_barred c) (starts_node at kind.ArrayLit (part ∷ [])) ∙ unbarred c
array_starts c at o all ns = ap (is_barred c) (starts_node at (kind.ArrayPat o) all) ∙ unbarred c

object_starts : (at : Span) (o : Bool) (all ns : List Node) → is_declaration_word (start_of (untyped kind.ObjectLit (record { span = at; kind = kind.ObjectPat o; children = all }) ns)) ≡ false
object_starts at o all (part ∷ type ∷ []) = ap is_declaration_word (starts_node at kind.ObjectLit (part ∷ []))
object_starts at o all ns = ap is_declaration_word (starts_node at (kind.ObjectPat o) all)

made_starts : (c : Bool) (t : Target) (k : Kind) (at : Span) (ns : List Node) → is_whole c t k ≡ true → is_barred c (start_by k (map start_of ns)) ≡ false → is_barred c (start_of (cover_by t (record { span = at; kind = k; children = ns }))) ≡ false
made_starts c target.Free k at ns w h = ap (is_barred c) (starts_node at k ns) ∙ h
made_starts c target.Simple k at ns w h = ap (is_barred c) (starts_node at k ns) ∙ h
made_starts c target.Left (kind.ArrayPat o) at ns w h = array_starts c at o ns ns
made_starts true target.Left (kind.ObjectPat o) at ns w h = cc
made_starts false target.Left (kind.ObjectPat o) at ns w h = object_starts at o ns ns
made_starts c target.Left k at ns w h = ap (is_barred c) (starts_node at k ns) ∙ h
made_starts c t k at ns w h = cc

-- the left of an assignment
left_whole : (c : Bool) (t : Target) (o : AssignOp) (k k' : Kind) → is_whole c t k ≡ true → (c && is_object_pattern k') ≡ false → is_whole c (on_left t o) k' ≡ true
left_whole c target.Free Assign k k' w h = ap not h
left_whole c target.Free o k k' w h = refl
left_whole c target.Simple Assign k k' w h = ap not h
left_whole c target.Simple o k k' w h = refl
left_whole c target.Left Assign k k' w h = ap not h
left_whole c target.Left o k k' w h = refl
left_whole c t o k k' w h = cc

no_pattern : (c : Bool) (spot : Spot) (is : Bool) → (opens_a_block spot.begins && is) ≡ false → opens c spot.begins ≡ true → (c && is) ≡ false
no_pattern true spot is h o = both_false (opens_a_block spot.begins) is h o
no_pattern false spot is h o = refl

parts_start : {r : Role} {spot : Spot} {shape : Shape} (c : Bool) (t : Target) (at : Span) (k : Kind) (cs : Children) → Here r spot shape at k (nodes cs) → opens c spot.begins ≡ true → is_whole c t k ≡ true
    → is_barred c (start_by k (map start_of (covered_children t k (nodes cs)))) ≡ false
unfolding cover_in target_in
parts_start true t at kind.ObjectLit cs h o w = sym o ∙ (either_parts _ _ h.open_there).1
parts_start false t at kind.ObjectLit cs h o w = refl
parts_start true t at kind.FnExpr cs h o w = refl
parts_start false t at kind.FnExpr cs h o w = sym o ∙ (either_parts _ _ h.open_there).1
parts_start true t at kind.ClassExpr cs h o w = refl
parts_start false t at kind.ClassExpr cs h o w = sym o ∙ (either_parts _ _ h.open_there).1
parts_start c t at kind.MemberExpr [] h o w = unbarred c
parts_start c t at kind.MemberExpr (x ∷ cs) h o w = x.1 c _ _ _ target.Free h.below.0 o refl
parts_start c t at kind.CallExpr [] h o w = unbarred c
parts_start c t at kind.CallExpr (x ∷ cs) h o w = x.1 c _ _ _ target.Free h.below.0 o refl
parts_start c t at (kind.OptChainExpr optional) [] h o w = unbarred c
parts_start c t at (kind.OptChainExpr optional) (x ∷ cs) h o w = x.1 c _ _ _ target.Free h.below.0 o refl
parts_start c t at kind.OptCall [] h o w = unbarred c
parts_start c t at kind.OptCall (x ∷ cs) h o w = x.1 c _ _ _ target.Free h.below.0 o refl
parts_start c t at kind.TaggedTpl [] h o w = unbarred c
parts_start c t at kind.TaggedTpl (x ∷ cs) h o w = x.1 c _ _ _ target.Free h.below.0 o refl
parts_start c t at (kind.UpdateExpr op false) [] h o w = unbarred c
parts_start c t at (kind.UpdateExpr op false) (x ∷ cs) h o w = x.1 c _ _ _ target.Simple h.below.0 o refl
parts_start c t at (kind.BinExpr op) [] h o w = unbarred c
parts_start c t at (kind.BinExpr op) (x ∷ cs) h o w = x.1 c _ _ _ target.Free h.below.0 o refl
parts_start c t at kind.CondExpr [] h o w = unbarred c
parts_start c t at kind.CondExpr (x ∷ cs) h o w = x.1 c _ _ _ target.Free h.below.0 o refl
parts_start c t at kind.SeqExpr [] h o w = unbarred c
parts_start c t at kind.SeqExpr (x ∷ cs) h o w = x.1 c _ _ _ target.Free h.below.0 o refl
parts_start c t at (kind.AssignExpr op) [] h o w = unbarred c
parts_start c t at (kind.AssignExpr op) (x ∷ []) h o w = absurd h.below.1
parts_start {spot = spot} c t at (kind.AssignExpr op) (x ∷ y ∷ []) h o w =
    let none = no_pattern c spot (is_object_pattern (laid x.0).kind) (either_parts _ _ h.open_there).1 o in
    x.1 c _ _ _ (on_left t op) h.below.0 o (left_whole c t op (kind.AssignExpr op) (kind_of x.0) w (sym (ap (λ k. c && is_object_pattern k) (laid_kind x.0)) ∙ none))
parts_start c t at (kind.AssignExpr op) (x ∷ y ∷ z ∷ cs) h o w = absurd h.below.1.1
parts_start c t at k cs h o w = unbarred c

node_claim : (at : Span) (k : Kind) (cs : Children) → Claim (node_of at k (nodes cs))
node_claim at k cs c r spot shape t s o w =
    let v = subst (λ z. is_whole c t z ≡ true) (kind_made at k (nodes cs)) w in
    subst (λ n. is_barred c (start_of n) ≡ false) (sym (cover_node at k (nodes cs) t)) (made_starts c t k at (covered_children t k (nodes cs)) v (parts_start c t at k cs (here r spot shape at k (nodes cs) s) o v))

claimed : (n : Node) → Claim n
claimed = ind-Node Claim (λ x y is. subst (λ z. Claim (node_of z.span z.kind z.children)) is (node_claim y.span y.kind y.children))

-- in the body of an arrow function, and in a statement
pub begins_with_no_brace : {r : Role} {spot : Spot} {shape : Shape} (n : Node) → Sound r spot shape n → opens_a_block spot.begins ≡ true → is_brace (start_of (cover_at n target.Free)) ≡ false
begins_with_no_brace {r} {spot} {shape} n s o = claimed n true r spot shape target.Free s o refl

-- in a statement, and where it is exported by default
pub begins_with_no_declaration : {r : Role} {spot : Spot} {shape : Shape} (n : Node) → Sound r spot shape n → opens_a_declaration spot.begins ≡ true → is_declaration_word (start_of (cover_at n target.Free)) ≡ false
begins_with_no_declaration {r} {spot} {shape} n s o = claimed n false r spot shape target.Free s o refl

-- in a statement
neither_start : (s : Start) → is_brace s ≡ false → is_declaration_word s ≡ false → s ≡ other_start
neither_start brace b d = cc
neither_start declaration_word b d = cc
neither_start other_start b d = refl

pub begins_otherwise : {r : Role} {spot : Spot} {shape : Shape} (n : Node) → Sound r spot shape n → opens_a_block spot.begins ≡ true → opens_a_declaration spot.begins ≡ true → start_of (cover_at n target.Free) ≡ other_start
begins_otherwise n s block declaration = neither_start (start_of (cover_at n target.Free)) (begins_with_no_brace n s block) (begins_with_no_declaration n s declaration)
