-- With literals in the place of patterns, what has no `in` outside of brackets has none.
use Rattle.std.proofs.Common.{◌≡◌, ◌∙◌, refl, sym, subst, ℕ, suc, ◌==◌, cond, Bool, true, false, List, [], ◌∷◌, map}
use Rattle.std.proofs.lemmas.Bool.{false≢true, or_parts}
use Rattle.ecma_kind.specs.declared.operators.AssignOp.{AssignOp}
use Rattle.ecma_kind.specs.declared.operators.AssignOp.TheVariants.{Assign}
use Rattle.ecma_kind.specs.declared.operators.BinaryOp.TheVariants as op
use Rattle.ecma_kind.specs.declared.span.Span.{Span}
use Rattle.ecma_kind.specs.declared.kind.Kind.{Kind}
use Rattle.ecma_kind.specs.declared.kind.Kind.TheVariants as kind
use Rattle.ecma_tree.specs.declared.node.Node.{Node, ind-Node}
use Rattle.ecma_tree.specs.Nodes.{node_of}
use Rattle.ecma_rules.specs.declared.target.Target.{Target}
use Rattle.ecma_rules.specs.declared.target.Target.TheVariants as target
use Rattle.ecma_rules.specs.Targets.{on_left, target_in}
use Rattle.ecma_rules.specs.Finishing.{each_in}
use Rattle.ecma_covers.specs.Covering.{cover_at, cover_by, cover_in, untyped}
use Rattle.ecma_covers.proofs.Uncovering.{cover_node}
use Rattle.ecma_shapes.specs.Heads.{any_of, first_of, may_hold_by, may_hold_in}
use Rattle.ecma_shapes.proofs.Heads.{may_hold_node}
use Rattle.ecma_print_heads.specs.Laws.{CoversHoldNoBareIn}
use Rattle.ecma_print_heads.proofs.BareIn.{none_of_more}

-- what an expression has to be: no part of a pattern
abbrev is_whole : Target → Bool
is_whole target.Free = true
is_whole target.Left = true
is_whole target.Simple = true
is_whole t = false

abbrev Claim : Node → Type 0
Claim n = (t : Target) → is_whole t ≡ true → may_hold_in n ≡ false → may_hold_in (cover_at n t) ≡ false

abbrev Children : Type 0
Children = List ((n : Node) × Claim n)

abbrev nodes : Children → List Node
nodes cs = map (λ e. e.0) cs

abbrev hold : Children → List Bool
hold cs = map may_hold_in (nodes cs)

abbrev covered : (ℕ → Target) → Children → List Bool
covered f cs = map may_hold_in (each_in f (map cover_at (nodes cs)))

all_hold_none : (f : ℕ → Target) → ((i : ℕ) → is_whole (f i) ≡ true) → (cs : Children) → any_of (hold cs) ≡ false → any_of (covered f cs) ≡ false
all_hold_none f w [] h = refl
all_hold_none f w (x ∷ cs) h =
    let c = or_parts (may_hold_in x.0) _ h in
    none_of_more (may_hold_in (cover_at x.0 (f 0))) _ (x.1 (f 0) (w 0) c.0) (all_hold_none (λ i. f (suc i)) (λ i. w (suc i)) cs c.1)

first_holds_none : (f : ℕ → Target) → ((i : ℕ) → is_whole (f i) ≡ true) → (cs : Children) → first_of (hold cs) ≡ false → first_of (covered f cs) ≡ false
first_holds_none f w [] h = refl
first_holds_none f w (x ∷ cs) h = x.1 (f 0) (w 0) h

-- the left of an assignment
left_whole : (t : Target) (o : AssignOp) → is_whole t ≡ true → is_whole (on_left t o) ≡ true
left_whole target.Free Assign h = refl
left_whole target.Free o h = refl
left_whole target.Left Assign h = refl
left_whole target.Left o h = refl
left_whole target.Simple Assign h = refl
left_whole target.Simple o h = refl
left_whole t o h = absurd (false≢true h)

either_whole : (b : Bool) (t : Target) → is_whole t ≡ true → is_whole (cond b t target.Free) ≡ true
either_whole true t h = h
either_whole false t h = refl

parts_hold_none : (t : Target) (k : Kind) (cs : Children) → is_whole t ≡ true → may_hold_by k (hold cs) ≡ false → may_hold_by k (covered (cover_in t k) cs) ≡ false
unfolding cover_in target_in
parts_hold_none t (kind.BinExpr op.In) cs w h = absurd (false≢true (sym h))
parts_hold_none t (kind.BinExpr o) cs w h = all_hold_none (λ i. target.Free) (λ i. refl) cs h
parts_hold_none t (kind.UnaryExpr o) cs w h = all_hold_none (λ i. target.Free) (λ i. refl) cs h
parts_hold_none t (kind.UpdateExpr o p) cs w h = all_hold_none (λ i. target.Simple) (λ i. refl) cs h
parts_hold_none t kind.AwaitExpr cs w h = all_hold_none (λ i. target.Free) (λ i. refl) cs h
parts_hold_none t (kind.AssignExpr o) cs w h = all_hold_none (λ i. cond (i == 0) (on_left t o) target.Free) (λ i. either_whole (i == 0) (on_left t o) (left_whole t o w)) cs h
parts_hold_none t kind.CondExpr cs w h = all_hold_none (λ i. target.Free) (λ i. refl) cs h
parts_hold_none t kind.SeqExpr cs w h = all_hold_none (λ i. target.Free) (λ i. refl) cs h
parts_hold_none t (kind.YieldExpr d) cs w h = all_hold_none (λ i. target.Free) (λ i. refl) cs h
parts_hold_none t (kind.ArrowExpr a g) cs w h = all_hold_none (λ i. target.Free) (λ i. refl) cs h
parts_hold_none t (kind.VarDeclarator d) cs w h = all_hold_none (λ i. target.Free) (λ i. refl) cs h
parts_hold_none t kind.MemberExpr cs w h = first_holds_none (λ i. target.Free) (λ i. refl) cs h
parts_hold_none t kind.CallExpr cs w h = first_holds_none (λ i. target.Free) (λ i. refl) cs h
parts_hold_none t kind.NewExpr cs w h = first_holds_none (λ i. target.Free) (λ i. refl) cs h
parts_hold_none t (kind.OptChainExpr d) cs w h = first_holds_none (λ i. target.Free) (λ i. refl) cs h
parts_hold_none t kind.OptCall cs w h = first_holds_none (λ i. target.Free) (λ i. refl) cs h
parts_hold_none t kind.TaggedTpl cs w h = first_holds_none (λ i. target.Free) (λ i. refl) cs h
parts_hold_none t (kind.VarDecl k d) cs w h = absurd (false≢true (sym h))
parts_hold_none t k cs w h = refl

-- a pattern on the left of an assignment is a literal
array_holds_none : (at : Span) (o : Bool) (all ns : List Node) → may_hold_in (untyped kind.ArrayLit (record { span = at; kind = kind.ArrayPat o; children = all }) ns) ≡ false
array_holds_none at o all (part ∷ type ∷ []) = may_hold_node at kind.ArrayLit (part ∷ [])
array_holds_none at o all ns = may_hold_node at (kind.ArrayPat o) all

object_holds_none : (at : Span) (o : Bool) (all ns : List Node) → may_hold_in (untyped kind.ObjectLit (record { span = at; kind = kind.ObjectPat o; children = all }) ns) ≡ false
object_holds_none at o all (part ∷ type ∷ []) = may_hold_node at kind.ObjectLit (part ∷ [])
object_holds_none at o all ns = may_hold_node at (kind.ObjectPat o) all

made_holds_none : (t : Target) (k : Kind) (at : Span) (ns : List Node) → is_whole t ≡ true → may_hold_by k (map may_hold_in ns) ≡ false → may_hold_in (cover_by t (record { span = at; kind = k; children = ns })) ≡ false
made_holds_none target.Free k at ns w h = may_hold_node at k ns ∙ h
made_holds_none target.Simple k at ns w h = may_hold_node at k ns ∙ h
made_holds_none target.Left (kind.ArrayPat o) at ns w h = array_holds_none at o ns ns
made_holds_none target.Left (kind.ObjectPat o) at ns w h = object_holds_none at o ns ns
made_holds_none target.Left k at ns w h = may_hold_node at k ns ∙ h
made_holds_none t k at ns w h = absurd (false≢true w)

node_claim : (at : Span) (k : Kind) (cs : Children) → Claim (node_of at k (nodes cs))
node_claim at k cs t w h =
    subst (λ n. may_hold_in n ≡ false) (sym (cover_node at k (nodes cs) t))
    (made_holds_none t k at (each_in (cover_in t k) (map cover_at (nodes cs))) w (parts_hold_none t k cs w (sym (may_hold_node at k (nodes cs)) ∙ h)))

claimed : (n : Node) → Claim n
claimed = ind-Node Claim (λ x y is. subst (λ z. Claim (node_of z.span z.kind z.children)) is (node_claim y.span y.kind y.children))

pub covers_hold_no_bare_in : CoversHoldNoBareIn
covers_hold_no_bare_in e h = claimed e target.Free refl h
