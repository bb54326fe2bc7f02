-- Outside of enum initialisers and namespace bodies nothing is a stray, whatever the labels are.
use Rattle.std.proofs.Common.{◌≡◌, ◌∙◌, ℕ, suc, ◌==◌, Bool, true, false, cond, List, [], ◌∷◌, map, Option, Some, None, refl, sym, ap, ap₂, subst}
use Rattle.ecma_kind.specs.declared.kind.Kind.{Kind}
use Rattle.ecma_kind.specs.declared.kind.Kind.TheVariants as kind
use Rattle.ecma_tree.specs.declared.node.Node.{Node, Node-F, ind-Node, roll-Node}
use Rattle.ecma_tree.proofs.Layers.{from_leaves-roll}
use Rattle.ecma_rules.specs.declared.strays.Strays.{Strays}
use Rattle.ecma_rules.specs.Children.{kind_of}
use Rattle.ecma_rules.specs.Failing.{failing_here, failing_step, least, least_from}
use Rattle.ecma_rules.specs.Jumps.{Held, ends_jumps, first_held_stray, first_stray, held_behind, held_in, is_stray_in, label_of, labels_behind, not_held, own_label, stray_here}
use Rattle.ecma_rules.specs.Strays.{in_named, is_stray, nothing_held, strays_in}
use Rattle.ecma_rules.specs.Walks.{holds_strays}

nothing-either : (b : Bool) → cond b nothing_held nothing_held ≡ nothing_held
nothing-either true = refl
nothing-either false = refl

nothing-held-in : (k : Kind) (i : ℕ) → holds_strays k ≡ false → strays_in nothing_held k i ≡ nothing_held
unfolding strays_in in_named
nothing-held-in kind.TsEnumMember i h = cc
nothing-held-in kind.TsModuleBlock i h = cc
nothing-held-in (kind.FnDecl declare) i h = nothing-either (i == 1)
nothing-held-in kind.FnExpr i h = nothing-either (i == 1)
nothing-held-in kind.MethodProp i h = nothing-either (i == 1)
nothing-held-in (kind.ClassMethod k modifiers) i h = nothing-either (i == 1)
nothing-held-in (kind.PrivateMethod k modifiers) i h = nothing-either (i == 1)
nothing-held-in (kind.Constructor accessibility is_optional) i h = nothing-either (i == 0)
nothing-held-in kind.GetterProp i h = nothing-either (i == 0)
nothing-held-in kind.SetterProp i h = nothing-either (i == 0)
nothing-held-in (kind.ClassProp modifiers readonly declare definite) i h = nothing-either (i == 1)
nothing-held-in (kind.PrivateProp modifiers readonly declare definite) i h = nothing-either (i == 1)
nothing-held-in kind.ForStmt i h = nothing-either (i == 3)
nothing-held-in kind.ForInStmt i h = nothing-either (i == 2)
nothing-held-in (kind.ForOfStmt is_await) i h = nothing-either (i == 2)
nothing-held-in kind.WhileStmt i h = nothing-either (i == 1)
nothing-held-in kind.DoWhileStmt i h = nothing-either (i == 1)
nothing-held-in kind.SwitchStmt i h = nothing-either (i == 1)
nothing-held-in kind.BindingIdent i h = nothing-either (i == 0)
nothing-held-in kind.LabeledStmt i h = nothing-either (i == 0)
nothing-held-in (kind.ClassDecl declare) i h = nothing-either (i == 0)
nothing-held-in kind.ClassExpr i h = nothing-either (i == 0)
nothing-held-in (kind.TsInterfaceDecl declare) i h = nothing-either (i == 0)
nothing-held-in (kind.TsTypeAliasDecl declare) i h = nothing-either (i == 0)
nothing-held-in (kind.TsEnumDecl declare is_const) i h = nothing-either (i == 0)
nothing-held-in (kind.TsModuleDecl declare global) i h = nothing-either (i == 0)
nothing-held-in (kind.TsNamespaceDecl declare global) i h = nothing-either (i == 0)
nothing-held-in (kind.TsImportEqualsDecl is_export is_type_only) i h = nothing-either (i == 0)
nothing-held-in _ i h = refl

holder-ends-jumps : (k : Kind) → holds_strays k ≡ true → ends_jumps k ≡ true
unfolding ends_jumps
holder-ends-jumps kind.TsEnumMember h = refl
holder-ends-jumps kind.TsModuleBlock h = refl
holder-ends-jumps _ h = cc

-- nothing is held, among these labels
abbrev unheld : List (List ℕ) → Held
unheld labels = record { strays = nothing_held; labels = labels }

unheld-is-no-stray : (labels : List (List ℕ)) (k : Kind) (label : Option (List ℕ)) → is_stray_in (unheld labels) k label ≡ false
unfolding is_stray_in is_stray
unheld-is-no-stray labels kind.BreakStmt None = refl
unheld-is-no-stray labels kind.BreakStmt (Some label) = refl
unheld-is-no-stray labels kind.ContinueStmt None = refl
unheld-is-no-stray labels kind.ContinueStmt (Some label) = refl
unheld-is-no-stray labels _ label = refl

unheld-tells-none : (labels : List (List ℕ)) (n : Node) → stray_here (unheld labels) n ≡ None
unheld-tells-none labels n = ap (λ b. failing_here b n) (unheld-is-no-stray labels (kind_of n) (label_of n))

-- the labels behind a node among these
abbrev labels_in : List (List ℕ) → Node → List (List ℕ)
labels_in labels n = labels_behind (ends_jumps (kind_of n)) (own_label (kind_of n) (label_of n)) labels

stays-unheld : (labels : List (List ℕ)) (n : Node) (i : ℕ) → holds_strays (kind_of n) ≡ false → held_in (unheld labels) n i ≡ unheld (labels_in labels n)
stays-unheld labels n i h = ap (λ (s : Strays). held_behind s (ends_jumps (kind_of n)) (own_label (kind_of n) (label_of n)) labels) (nothing-held-in (kind_of n) i h)

holder-drops-labels : (labels : List (List ℕ)) (n : Node) (i : ℕ) → holds_strays (kind_of n) ≡ true → held_in (unheld labels) n i ≡ held_in not_held n i
holder-drops-labels labels n i h =
    let ends = holder-ends-jumps (kind_of n) h in
    ap (λ b. held_behind (strays_in nothing_held (kind_of n) i) b (own_label (kind_of n) (label_of n)) labels) ends
    ∙ sym (ap (λ b. held_behind (strays_in nothing_held (kind_of n) i) b (own_label (kind_of n) (label_of n)) []) ends)

-- the labels change nothing
abbrev Unlabelled : Node → Type 0
Unlabelled n = (labels : List (List ℕ)) → first_held_stray n (unheld labels) ≡ first_stray n

abbrev Alike : (ℕ → Held) → (ℕ → Held) → Type 0
Alike f g = (i : ℕ) (n : Node) → Unlabelled n → first_held_stray n (f i) ≡ first_held_stray n (g i)

abbrev SameBelow : List Node → Type 0
SameBelow nodes = (f g : ℕ → Held) → Alike f g → (k : ℕ) → least_from Held f k (map first_held_stray nodes) ≡ least_from Held g k (map first_held_stray nodes)

all-same-below : (ns : List ((n : Node) × Unlabelled n)) → SameBelow (map (λ e. e.0) ns)
all-same-below [] f g alike k = refl
all-same-below (n ∷ ns) f g alike k = ap₂ least (alike k n.0 n.1) (all-same-below ns f g alike (suc k))

alike-inside : (labels : List (List ℕ)) (n : Node) (holds : Bool) → holds_strays (kind_of n) ≡ holds → Alike (held_in (unheld labels) n) (held_in not_held n)
alike-inside labels n true h i child same = ap (first_held_stray child) (holder-drops-labels labels n i h)
alike-inside labels n false h i child same =
    ap (first_held_stray child) (stays-unheld labels n i h) ∙ same (labels_in labels n)
    ∙ sym (ap (first_held_stray child) (stays-unheld [] n i h) ∙ same (labels_in [] n))

layer-unlabelled : (x : Node-F Node) → SameBelow x.children → Unlabelled (roll-Node x)
layer-unlabelled x below labels =
    ap (λ f. f (unheld labels)) (from_leaves-roll (Held → Option ℕ) (failing_step Held stray_here held_in) x)
    ∙ ap₂ least (unheld-tells-none labels (roll-Node x) ∙ sym (unheld-tells-none [] (roll-Node x)))
    (below (held_in (unheld labels) (roll-Node x)) (held_in not_held (roll-Node x)) (alike-inside labels (roll-Node x) (holds_strays (kind_of (roll-Node x))) refl) 0)
    ∙ sym (ap (λ f. f not_held) (from_leaves-roll (Held → Option ℕ) (failing_step Held stray_here held_in) x))

unlabelled : (n : Node) → Unlabelled n
unlabelled = ind-Node Unlabelled (λ x y is. layer-unlabelled x (subst (λ (z : Node-F Node). SameBelow z.children) is (all-same-below y.children)))

pub not-held-tells-none : (n : Node) → None ≡ stray_here not_held n
not-held-tells-none n = sym (unheld-tells-none [] n)

-- behind a node that holds nothing, a child has the strays that it has by itself
pub child-stray-first : (n x : Node) (i : ℕ) → holds_strays (kind_of n) ≡ false → first_stray x ≡ first_held_stray x (held_in not_held n i)
child-stray-first n x i h = sym (ap (first_held_stray x) (stays-unheld [] n i h) ∙ unlabelled x (labels_in [] n))
