-- Every part keeps what it is said to keep, at each level; and behind a statement that takes an `else` none is read.
use Rattle.std.proofs.Common.{◌≡◌, ◌∙◌, ℕ, zero, suc, ◌≤◌, Bool, true, false, not, ◌||◌, List, [], ◌∷◌, ◌++◌, map, codes, arith, refl, sym, ap, ap₂, subst}
use Rattle.ecma_kind.specs.declared.span.Span.{Span}
use Rattle.ecma_kind.specs.declared.kind.Kind.{Kind}
use Rattle.ecma_kind.specs.declared.kind.Kind.TheVariants as kind
use Rattle.ecma_tree.specs.declared.node.Node.{Node, fold-roll-Node, out-Node}
use Rattle.ecma_tree.specs.declared.node.Node.TheViews.{roll-out-Node}
use Rattle.ecma_tree.specs.Nodes.{absent, dummy_span, node_of}
use Rattle.ecma_tree.specs.Sorted.{is_absent}
use Rattle.ecma_grammar.specs.declared.production.Flag.TheVariants as flag
use Rattle.ecma_grammar.specs.declared.production.Form.{Form}
use Rattle.ecma_grammar.specs.declared.production.Form.TheVariants as form
use Rattle.ecma_grammar.specs.declared.production.Mode.{Mode}
use Rattle.ecma_grammar.specs.declared.production.Part.{Part}
use Rattle.ecma_grammar.specs.declared.production.Part.TheVariants as part
use Rattle.ecma_grammar.specs.declared.production.Plain.TheVariants as plain
use Rattle.ecma_grammar.specs.Grammar as grammar
use Rattle.ecma_grammar.specs.Grammar.{Grammar}
use Rattle.ecma_grammar.specs.Made.{made}
use Rattle.ecma_grammar.specs.PartBodies.{part_body}
use Rattle.ecma_grammar.specs.productions.Declarations.{declaration}
use Rattle.ecma_grammar.specs.productions.Names.{assign, block, ident, statement}
use Rattle.ecma_grammar.specs.productions.Statements.{do_while, expression_statement, for_, for_await, for_head, for_left, if_, in_parentheses, jump, labeled, statement_body, switch, try_, while_}
use Rattle.ecma_grammar.specs.Reading.{Outcome, Position, Reading, fails, followed_on, or_on, read, too_deep, with_front}
use Rattle.ecma_grammar.specs.Reads.{built_on, levels, levels_by, next_start, reads}
use Rattle.ecma_grammar.specs.trees.Others.{headed}
use Rattle.ecma_grammar.specs.trees.Parts.{children_of, framed, from_to, kind_of}
use Rattle.ecma_fits.specs.Branches.{holds_at_last, last_part, takes_else, takes_else_step}
use Rattle.ecma_text_leaves.proofs.Leaves.{Holds, holds_deep}
use Rattle.ecma_text_leaves.proofs.Productions.{productions}
use Rattle.ecma_text_leaves.proofs.Trees.{kind_made}
use Rattle.ecma_text_fits_parts.proofs.Deeper.{Like, same_reading}
use Rattle.ecma_text_fits_parts.proofs.Grades.{Is, closed, good, head, is_closed, is_head, node_meets}
use Rattle.ecma_text_fits_parts.proofs.Keeps.{keeps, part_keeps}
use Rattle.ecma_text_fits_parts.proofs.KeepsChecks.{block_closed, condition_kept, declaration_closed, do_closed, empty_closed, expression_closed, jump_closed, part_kept, switch_closed, try_closed}
use Rattle.ecma_text_fits_parts.proofs.Kept.{as_kept, holds_ended, takes_nothing}
use Rattle.ecma_text_fits_parts.proofs.Makings.{form_made}
use Rattle.ecma_text_fits_parts.proofs.Needs.{needs, three, two}
use Rattle.ecma_text_fits_parts.proofs.Sound.{Sound, is_some, or_first, or_second}
use Rattle.ecma_text_fits_parts.proofs.Throughout.{Throughout, more, none, throughout}
use Rattle.ecma_raw_roles.proofs.Walks.{not_true}
use Rattle.ecma_text_fits_parts.proofs.Wanted.{Given, Wanted, done, ends, one}

-- which nodes take an `else`

pub takes_out : (n : Node) → takes_else n ≡ (is_absent (kind_of n) || holds_at_last (map takes_else (children_of n)) (last_part (kind_of n)))
takes_out n = ap takes_else (sym (roll-out-Node n)) ∙ fold-roll-Node Bool takes_else_step (out-Node n)

closed_takes_by : (k : Kind) (bs : List Bool) → is_closed k ≡ true → (is_absent k || holds_at_last bs (last_part k)) ≡ false
closed_takes_by kind.Absent bs h = not_true h
closed_takes_by kind.IfStmt bs h = not_true h
closed_takes_by kind.LabeledStmt bs h = not_true h
closed_takes_by kind.WhileStmt bs h = not_true h
closed_takes_by kind.ForStmt bs h = not_true h
closed_takes_by kind.ForInStmt bs h = not_true h
closed_takes_by (kind.ForOfStmt is_await) bs h = not_true h
closed_takes_by _ bs h = refl

closed_takes : (n : Node) → is_closed (kind_of n) ≡ true → takes_else n ≡ false
closed_takes n h = takes_out n ∙ closed_takes_by (kind_of n) (map takes_else (children_of n)) h

-- the last of several nodes takes one
abbrev last_takes : List Node → Bool
last_takes [] = false
last_takes (x ∷ []) = takes_else x
last_takes (x ∷ y ∷ ys) = last_takes (y ∷ ys)

last_behind : (xs ys : List Node) → is_some ys ≡ true → last_takes (xs ++ ys) ≡ last_takes ys
last_behind [] ys s = refl
last_behind (x ∷ []) [] s = not_true s
last_behind (x ∷ []) (y ∷ ys) s = refl
last_behind (x ∷ z ∷ zs) ys s = last_behind (z ∷ zs) ys s

some_behind : (xs ys : List Node) → is_some ys ≡ true → is_some (xs ++ ys) ≡ true
some_behind [] ys s = s
some_behind (x ∷ xs) ys s = refl

while_last : (at : Span) (xs : List Node) → Given two xs → takes_else (node_of at kind.WhileStmt xs) ≡ last_takes xs
while_last at [] g = absurd g
while_last at (a ∷ []) g = absurd g.1
while_last at (a ∷ b ∷ []) g = fold-roll-Node Bool takes_else_step (record { span = at; kind = kind.WhileStmt; children = a ∷ b ∷ [] })
while_last at (a ∷ b ∷ c ∷ cs) g = absurd g.1.1

labeled_last : (at : Span) (xs : List Node) → Given two xs → takes_else (node_of at kind.LabeledStmt xs) ≡ last_takes xs
labeled_last at [] g = absurd g
labeled_last at (a ∷ []) g = absurd g.1
labeled_last at (a ∷ b ∷ []) g = fold-roll-Node Bool takes_else_step (record { span = at; kind = kind.LabeledStmt; children = a ∷ b ∷ [] })
labeled_last at (a ∷ b ∷ c ∷ cs) g = absurd g.1.1

await_last : (at : Span) (xs : List Node) → Given three xs → takes_else (node_of at (kind.ForOfStmt true) xs) ≡ last_takes xs
await_last at [] g = absurd g
await_last at (a ∷ []) g = absurd g.1
await_last at (a ∷ b ∷ []) g = absurd g.1.1
await_last at (a ∷ b ∷ c ∷ []) g = fold-roll-Node Bool takes_else_step (record { span = at; kind = kind.ForOfStmt true; children = a ∷ b ∷ c ∷ [] })
await_last at (a ∷ b ∷ c ∷ d ∷ ds) g = absurd g.1.1.1

head_last : (at : Span) (k : Kind) (cs : List Node) (body : Node) → is_head k cs ≡ true → takes_else (node_of at k (cs ++ body ∷ [])) ≡ takes_else body
head_last at kind.ForStmt (a ∷ b ∷ c ∷ []) body h = fold-roll-Node Bool takes_else_step (record { span = at; kind = kind.ForStmt; children = a ∷ b ∷ c ∷ body ∷ [] })
head_last at kind.ForStmt _ body h = not_true h
head_last at kind.ForInStmt (a ∷ b ∷ []) body h = fold-roll-Node Bool takes_else_step (record { span = at; kind = kind.ForInStmt; children = a ∷ b ∷ body ∷ [] })
head_last at kind.ForInStmt _ body h = not_true h
head_last at (kind.ForOfStmt is_await) (a ∷ b ∷ []) body h = fold-roll-Node Bool takes_else_step (record { span = at; kind = kind.ForOfStmt is_await; children = a ∷ b ∷ body ∷ [] })
head_last at (kind.ForOfStmt is_await) _ body h = not_true h
head_last at _ cs body h = not_true h

headed_last : (at : Span) (xs : List Node) → Given (one head (one good done)) xs → takes_else (framed 2 (headed at) xs) ≡ last_takes xs
headed_last at [] g = absurd g
headed_last at (a ∷ []) g = absurd g.1
headed_last at (a ∷ b ∷ []) g = head_last at (kind_of a) (children_of a) b g.0.1
headed_last at (a ∷ b ∷ c ∷ cs) g = absurd g.1.1

-- an `else` and its statement
abbrev else_part : Grammar
else_part = grammar.◌▸◌ (grammar.word (codes "else")) (grammar.up part.Statement)

-- what stands in statements that end with one

abbrev await_loop : Grammar
await_loop =
    grammar.◌▸◌ (grammar.word (codes "for")) (grammar.◌▸◌ (grammar.word (codes "await")) (grammar.◌▸◌ (grammar.punct (codes "(")) (grammar.◌▸◌ for_left (grammar.◌▸◌ (grammar.word (codes "of"))
    (grammar.◌▸◌ assign (grammar.◌▸◌ (grammar.punct (codes ")")) statement))))))

abbrev for_loop : Grammar
for_loop = grammar.◌▸◌ (grammar.word (codes "for")) (grammar.◌▸◌ (grammar.punct (codes "(")) (grammar.◌▸◌ for_head (grammar.◌▸◌ (grammar.punct (codes ")")) statement)))

abbrev while_loop : Grammar
while_loop = grammar.◌▸◌ (grammar.word (codes "while")) (grammar.◌▸◌ in_parentheses statement)

abbrev labeled_parts : Grammar
labeled_parts = grammar.◌▸◌ ident (grammar.◌▸◌ (grammar.punct (codes ":")) statement)

-- the alternatives of a statement

abbrev empty : Grammar
empty = grammar.node plain.EmptyStmt (grammar.punct (codes ";"))

abbrev from_declarations : Grammar
from_declarations = grammar.◌//◌ declaration expression_statement

abbrev from_labels : Grammar
from_labels = grammar.◌//◌ labeled from_declarations

abbrev from_jumps : Grammar
from_jumps = grammar.◌//◌ jump from_labels

abbrev from_try : Grammar
from_try = grammar.◌//◌ try_ from_jumps

abbrev from_switch : Grammar
from_switch = grammar.◌//◌ switch from_try

abbrev from_do : Grammar
from_do = grammar.◌//◌ do_while from_switch

abbrev from_while : Grammar
from_while = grammar.◌//◌ while_ from_do

abbrev from_for : Grammar
from_for = grammar.◌//◌ for_ from_while

abbrev from_await : Grammar
from_await = grammar.◌//◌ for_await from_for

abbrev from_if : Grammar
from_if = grammar.◌//◌ if_ from_await

abbrev from_empty : Grammar
from_empty = grammar.◌//◌ empty from_if

-- what ends with a statement
abbrev trails : Grammar → Bool
trails (grammar.up part.Statement) = true
trails (grammar.◌▸◌ a b) = trails b
trails _ = false

abbrev HoldsAt : Outcome (List Node) → (List Node → Position → Type 0) → Type 0
HoldsAt o Q = (t : Position) (xs : List Node) → o ≡ read xs t → Q xs t

holds_read_at : (Q : List Node → Position → Type 0) (xs : List Node) (t : Position) → Q xs t → HoldsAt (read xs t) Q
holds_read_at Q xs t q u ys h = let e : xs ≡ ys = cc in let f : t ≡ u = cc in subst (λ zs. Q zs u) e (subst (Q xs) f q)

front_at : (Q : List Node → Position → Type 0) (xs : List Node) (o : Outcome (List Node)) → HoldsAt o (λ ys t. Q (xs ++ ys) t) → HoldsAt (with_front xs o) Q
front_at Q xs (read ys u) h = holds_read_at Q (xs ++ ys) u (h u ys refl)
front_at Q xs (fails n) h = λ t zs e. cc
front_at Q xs (too_deep n) h = λ t zs e. cc

followed_at : (P Q : List Node → Position → Type 0) (q : Reading (List Node)) (o : Outcome (List Node)) → HoldsAt o P → ((xs : List Node) (u : Position) → P xs u → HoldsAt (q u) (λ ys t. Q (xs ++ ys) t)) → HoldsAt (followed_on q o) Q
followed_at P Q q (read xs u) p h = front_at Q xs (q u) (h xs u (p u xs refl))
followed_at P Q q (fails n) p h = λ t zs e. cc
followed_at P Q q (too_deep n) p h = λ t zs e. cc

or_at : (Q : List Node → Position → Type 0) (q : Reading (List Node)) (s : Position) (o : Outcome (List Node)) → HoldsAt o Q → ((s : Position) → HoldsAt (q s) Q) → HoldsAt (or_on q s o) Q
or_at Q q s (read xs u) p h = p
or_at Q q s (fails n) p h = h (record { place = s.place; failed = n })
or_at Q q s (too_deep n) p h = λ t zs e. cc

no_like : (n : ℕ) (xs : List Node) (t : Position) (o p : Outcome (List Node)) → Like o p → o ≡ fails n → p ≡ read xs t → ⊥
no_like n xs t (read ys u) p l e f = cc
no_like n xs t (too_deep m) p l e f = cc
no_like n xs t (fails m) (read ys u) l e f = l
no_like n xs t (fails m) (fails k) l e f = cc
no_like n xs t (fails m) (too_deep k) l e f = l

module _ (text : List ℕ) (mode : Mode) where
  abbrev At : ℕ → Grammar → Reading (List Node)
  At n = reads text mode (levels text mode n)

  -- no `else` is read there, with so many levels or more
  abbrev NoElse : ℕ → Position → Type 0
  NoElse n t = (m : ℕ) → n ≤ m → (u : Position) → t.place ≡ u.place → (xs : List Node) (v : Position) → At m else_part u ≡ read xs v → ⊥

  abbrev IsStatement : ℕ → List Node → Position → Type 0
  IsStatement n xs t = (x : Node) × (xs ≡ x ∷ []) × Is good x × (takes_else x ≡ true → NoElse n t)

  -- the last node is one behind which no `else` is read, if it takes one
  abbrev Trails : ℕ → List Node → Position → Type 0
  Trails n xs t = (is_some xs ≡ true) × (last_takes xs ≡ true → NoElse n t)

  module _ (n : ℕ) (inside : (p : Part) (at : ℕ) (s : Position) → Holds (levels text mode n p at s) (Given (part_keeps p))) (statements : (at : ℕ) (s : Position) → HoldsAt (levels text mode n part.Statement at s) (IsStatement n)) where
    given : (g : Grammar) (w : Wanted) (s : Position) → keeps g ends w ≡ true → Holds (At n g s) (Given w)
    given g w s h = holds_ended text mode (levels text mode n) w (At n g s) (as_kept text mode (levels text mode n) inside g ends w s h)

    trails_behind : (xs ys : List Node) (t : Position) → Trails n ys t → Trails n (xs ++ ys) t
    trails_behind xs ys t q = (some_behind xs ys q.0, λ e. q.1 (sym (last_behind xs ys q.0) ∙ e))

    trailing : (g : Grammar) (s : Position) → trails g ≡ true → HoldsAt (At n g s) (Trails n)
    trailing (grammar.up part.Statement) s h = λ t xs e. (let q = statements s.place s t xs e in let is = q.1 in subst (λ z. Trails n z t) (sym is) (refl, q.3))
    trailing (grammar.◌▸◌ a b) s h =
        followed_at (λ xs t. Unit {0}) (Trails n) (At n b) (At n a s) (λ t xs e. tt) (λ xs u p t ys e. trails_behind xs ys t (trailing b u h t ys e))
    trailing _ s h = not_true h

    -- statements that end with no statement
    closed_statement : (g : Grammar) (s : Position) → keeps g ends (one closed done) ≡ true → HoldsAt (At n g s) (IsStatement n)
    closed_statement g s h t xs e = go xs (given g (one closed done) s h t xs e)
      where
        go : (xs : List Node) → Given (one closed done) xs → IsStatement n xs t
        go [] k = absurd k
        go (x ∷ []) k = (x, refl, (k.0.0, refl), λ f. not_true (sym (closed_takes x k.0.1) ∙ f))
        go (x ∷ y ∷ ys) k = absurd k.1

    -- those whose last part is one
    built_statement : (f : Form) (lo : ℕ) (o : Outcome (List Node)) → Holds o (Given (needs f good)) → HoldsAt o (Trails n) → ((hi : ℕ) (xs : List Node) → Given (needs f good) xs → takes_else (made f lo hi xs) ≡ last_takes xs)
        → HoldsAt (built_on f lo o) (IsStatement n)
    built_statement f lo (read xs u) h k l =
        let g = h u xs refl in
        holds_read_at (IsStatement n) (made f lo u.place xs ∷ []) u (made f lo u.place xs, refl, form_made f good lo u.place xs g, λ e. (k u xs refl).1 (sym (l u.place xs g) ∙ e))
    built_statement f lo (fails m) h k l = λ t xs e. cc
    built_statement f lo (too_deep m) h k l = λ t xs e. cc

    trailing_statement : (f : Form) (g : Grammar) (s : Position) → trails g ≡ true → keeps g ends (needs f good) ≡ true → ((lo hi : ℕ) (xs : List Node) → Given (needs f good) xs → takes_else (made f lo hi xs) ≡ last_takes xs)
        → HoldsAt (At n (grammar.build f g) s) (IsStatement n)
    trailing_statement f g s h k l = built_statement f (next_start text s) (At n g s) (given g (needs f good) s k) (trailing g s h) (λ hi xs. l (next_start text s) hi xs)

    await_statement : (s : Position) → HoldsAt (At n for_await s) (IsStatement n)
    unfolding productions
    await_statement s = trailing_statement (form.Node (plain.ForOfStmt true)) await_loop s refl refl (λ lo hi xs g. await_last (from_to lo hi) xs g)

    for_statement : (s : Position) → HoldsAt (At n for_ s) (IsStatement n)
    unfolding productions
    for_statement s = trailing_statement form.Headed for_loop s refl refl (λ lo hi xs g. headed_last (from_to lo hi) xs g)

    while_statement : (s : Position) → HoldsAt (At n while_ s) (IsStatement n)
    unfolding productions
    while_statement s = trailing_statement (form.Node plain.WhileStmt) while_loop s refl refl (λ lo hi xs g. while_last (from_to lo hi) xs g)

    labeled_statement : (s : Position) → HoldsAt (At n labeled s) (IsStatement n)
    unfolding productions
    labeled_statement s = trailing_statement (form.Node plain.LabeledStmt) labeled_parts s refl refl (λ lo hi xs g. labeled_last (from_to lo hi) xs g)

    -- `if`

    abbrev IsRest : Node → List Node → Position → Type 0
    IsRest body ys t = (c : Node) × (ys ≡ c ∷ []) × Throughout Sound c × ((is_absent (kind_of c) || not (takes_else body)) ≡ true) × (takes_else c ≡ true → NoElse n t)

    -- the alternative, or none
    alternative : (body : Node) (v : Position) → (takes_else body ≡ true → NoElse n v) → HoldsAt (At n (grammar.maybe else_part) v) (IsRest body)
    alternative body v closes = go (At n else_part v) refl
      where
        not_taken : (zs : List Node) (w : Position) → At n else_part v ≡ read zs w → (b : Bool) → takes_else body ≡ b → not b ≡ true
        not_taken zs w e true f = absurd (closes f n (omega arith) v refl zs w e)
        not_taken zs w e false f = refl

        one_read : (zs : List Node) (w : Position) → At n else_part v ≡ read zs w → Given (one good done) zs → Trails n zs w → IsRest body zs w
        one_read [] w e g q = absurd g
        one_read (c ∷ []) w e g q = (c, refl, g.0.0, or_second (is_absent (kind_of c)) (not (takes_else body)) (not_taken (c ∷ []) w e (takes_else body) refl), q.1)
        one_read (c ∷ d ∷ ds) w e g q = absurd g.1

        missing : (k : ℕ) → At n else_part v ≡ fails k → IsRest body (absent ∷ []) (record { place = v.place; failed = k })
        missing k e = (
          absent,
          refl,
          throughout dummy_span kind.Absent refl none,
          or_first (is_absent (kind_of absent)) (not (takes_else body)) (ap is_absent (kind_made dummy_span kind.Absent [])),
          λ f m l u p xs w r. no_like k xs w (At n else_part v) (At m else_part u) (same_reading text mode n m l else_part v u p) e r,
        )

        go : (o : Outcome (List Node)) → At n else_part v ≡ o → HoldsAt (or_on (At n (grammar.put flag.Absent)) v o) (IsRest body)
        go (read zs w) e = holds_read_at (IsRest body) zs w (one_read zs w e (given else_part (one good done) v refl w zs e) (trailing else_part v refl w zs e))
        go (fails k) e = holds_read_at (IsRest body) (absent ∷ []) (record { place = v.place; failed = k }) (missing k e)
        go (too_deep k) e = λ t zs f. cc

    abbrev IsBoth : List Node → Position → Type 0
    IsBoth ys t = (b : Node) × (c : Node) × (ys ≡ b ∷ c ∷ []) × Throughout Sound b × Throughout Sound c × ((is_absent (kind_of c) || not (takes_else b)) ≡ true) × (takes_else c ≡ true → NoElse n t)

    both_of : (b : Node) (xs ys : List Node) (t : Position) → xs ≡ b ∷ [] → Throughout Sound b → IsRest b ys t → IsBoth (xs ++ ys) t
    both_of b xs ys t e s r = (b, r.0, ap₂ (λ y z. y ++ z) e r.1, s, r.2, r.3, r.4)

    both_read : (s : Position) → HoldsAt (At n (grammar.◌▸◌ (grammar.up part.Statement) (grammar.maybe else_part)) s) IsBoth
    both_read s =
        followed_at (IsStatement n) IsBoth (At n (grammar.maybe else_part)) (At n (grammar.up part.Statement) s) (statements s.place s)
        (λ xs u q t ys e. both_of q.0 xs ys t q.1 q.2.0 (alternative q.0 u q.3 t ys e))

    abbrev IsAll : List Node → Position → Type 0
    IsAll ys t = (a : Node) × (b : Node) × (c : Node) × (ys ≡ a ∷ b ∷ c ∷ []) × Throughout Sound a × Throughout Sound b × Throughout Sound c × ((is_absent (kind_of c) || not (takes_else b)) ≡ true) × (takes_else c ≡ true → NoElse n t)

    behind_condition : (xs : List Node) → Given (one good done) xs → (ys : List Node) (t : Position) → IsBoth ys t → IsAll (xs ++ ys) t
    behind_condition [] k ys t q = absurd k
    behind_condition (a ∷ []) k ys t q = let f = q.2 in (a, q.0, q.1, rw f refl, k.0.0, q.3, q.4, q.5, q.6)
    behind_condition (a ∷ b ∷ bs) k ys t q = absurd k.1

    all_read : (s : Position) → HoldsAt (At n (grammar.◌▸◌ in_parentheses (grammar.◌▸◌ (grammar.up part.Statement) (grammar.maybe else_part))) s) IsAll
    all_read s =
        followed_at (λ xs t. Given (one good done) xs) IsAll (At n (grammar.◌▸◌ (grammar.up part.Statement) (grammar.maybe else_part))) (At n in_parentheses s) (given in_parentheses (one good done) s condition_kept)
        (λ xs u q t ys e. behind_condition xs q ys t (both_read u t ys e))

    nothing_before : (xs : List Node) → xs ≡ [] → (ys : List Node) (t : Position) → IsAll ys t → IsAll (xs ++ ys) t
    nothing_before xs e ys t q = subst (λ zs. IsAll (zs ++ ys) t) (sym e) q

    choice_parts : (s : Position) → HoldsAt (At n (grammar.◌▸◌ (grammar.word (codes "if")) (grammar.◌▸◌ in_parentheses (grammar.◌▸◌ (grammar.up part.Statement) (grammar.maybe else_part)))) s) IsAll
    choice_parts s =
        followed_at (λ xs t. xs ≡ []) IsAll (At n (grammar.◌▸◌ in_parentheses (grammar.◌▸◌ (grammar.up part.Statement) (grammar.maybe else_part)))) (At n (grammar.word (codes "if")) s)
        (takes_nothing text mode (levels text mode n) (grammar.the_word (codes "if")) s) (λ xs u q t ys e. nothing_before xs q ys t (all_read u t ys e))

    choice_made : (lo hi : ℕ) (xs : List Node) (t : Position) → IsAll xs t → IsStatement n (made (form.Node plain.IfStmt) lo hi xs ∷ []) t
    choice_made lo hi xs t q =
        let e = q.3 in
        let at = from_to lo hi in
        let children = q.0 ∷ q.1 ∷ q.2 ∷ [] in
        subst (λ zs. IsStatement n (node_of at kind.IfStmt zs ∷ []) t) (sym e) (
          node_of at kind.IfStmt children,
          refl,
          node_meets good at kind.IfStmt children refl (more q.4 (more q.5 (more q.6 none))) q.7 refl,
          λ f. q.8 (sym (fold-roll-Node Bool takes_else_step (record { span = at; kind = kind.IfStmt; children = children })) ∙ f),
        )

    built_choice : (lo : ℕ) (o : Outcome (List Node)) → HoldsAt o IsAll → HoldsAt (built_on (form.Node plain.IfStmt) lo o) (IsStatement n)
    built_choice lo (read xs u) h = holds_read_at (IsStatement n) (made (form.Node plain.IfStmt) lo u.place xs ∷ []) u (choice_made lo u.place xs u (h u xs refl))
    built_choice lo (fails m) h = λ t xs e. cc
    built_choice lo (too_deep m) h = λ t xs e. cc

    choice_statement : (s : Position) → HoldsAt (At n if_ s) (IsStatement n)
    unfolding if_
    choice_statement s = built_choice (next_start text s) _ (choice_parts s)

    abbrev S : Grammar → Type 0
    S g = (s : Position) → HoldsAt (At n g s) (IsStatement n)

    either_statement : (a b : Grammar) → S a → S b → S (grammar.◌//◌ a b)
    either_statement a b f g s = or_at (IsStatement n) (At n b) s (At n a s) (f s) g

    one_statement : S statement_body
    unfolding statement_body
    one_statement =
        either_statement block from_empty (λ s. closed_statement block s block_closed) (either_statement empty from_if (λ s. closed_statement empty s empty_closed)
        (either_statement if_ from_await choice_statement (either_statement for_await from_for await_statement
        (either_statement for_ from_while for_statement (either_statement while_ from_do while_statement
        (either_statement do_while from_switch (λ s. closed_statement do_while s do_closed) (either_statement switch from_try (λ s. closed_statement switch s switch_closed)
        (either_statement try_ from_jumps (λ s. closed_statement try_ s try_closed) (either_statement jump from_labels (λ s. closed_statement jump s jump_closed)
        (either_statement labeled from_declarations labeled_statement (either_statement declaration expression_statement (λ s. closed_statement declaration s declaration_closed) (λ s. closed_statement expression_statement s expression_closed))))))))))))

  statement_given : (n : ℕ) (o : Outcome (List Node)) → HoldsAt o (IsStatement n) → Holds o (Given (one good done))
  statement_given n o h t xs e = let q = h t xs e in let is = q.1 in subst (Given (one good done)) (sym is) (q.2, tt)

  deeper : (n : ℕ) (o : Outcome (List Node)) → HoldsAt o (IsStatement n) → HoldsAt o (IsStatement (suc n))
  deeper n o h t xs e = let q = h t xs e in (q.0, q.1, q.2, λ f m l u p ys v r. q.3 f m (omega arith) u p ys v r)

  abbrev Level : ℕ → Type 0
  Level n = ((p : Part) (at : ℕ) (s : Position) → Holds (levels text mode n p at s) (Given (part_keeps p))) × ((at : ℕ) (s : Position) → HoldsAt (levels text mode n part.Statement at s) (IsStatement n))

  first_level : Level zero
  unfolding levels_by
  first_level = (λ p at s. holds_deep (Given (part_keeps p)) at, λ at s t xs e. cc)

  part_given : (n : ℕ) → Level n → (p : Part) (at : ℕ) (s : Position) → Holds (At n (part_body p) s) (Given (part_keeps p))
  part_given n l part.Statement at s = statement_given n (At n statement_body s) (one_statement n l.0 l.1 s)
  part_given n l p at s = given n l.0 l.1 (part_body p) (part_keeps p) s (part_kept p refl)

  next_level : (n : ℕ) → Level n → Level (suc n)
  unfolding levels_by
  next_level n l = (part_given n l, λ at s. deeper n (At n statement_body s) (one_statement n l.0 l.1 s))

  every_level : (n : ℕ) → Level n
  every_level zero = first_level
  every_level (suc n) = next_level n (every_level n)

  pub kept : (n : ℕ) (g : Grammar) (w : Wanted) (s : Position) → keeps g ends w ≡ true → Holds (At n g s) (Given w)
  kept n g w s h = given n (every_level n).0 (every_level n).1 g w s h
