-- What the layout of statements, functions and classes is put together of.
use Rattle.ecma_kind.specs.declared.kind.Kind.TheVariants as kind
use Rattle.ecma_print_tokens.specs.Items as items
use Rattle.ecma_shapes.specs.Shapes as shapes
use Rattle.std.proofs.Common.{◌≡◌, ℕ, suc, Bool, true, false, List, [], ◌∷◌, ◌++◌, map, codes, refl, ap, sym, ◌∙◌}
use Rattle.std.proofs.lemmas.Bool.{false≢true, or_parts}
use Rattle.ecma_kind.specs.declared.operators.MethodKind.{MethodKind}
use Rattle.ecma_kind.specs.declared.operators.VarDeclKind.{VarDeclKind}
use Rattle.ecma_kind.specs.declared.kind.Kind.{Kind}
use Rattle.ecma_kind.specs.declared.span.Span.{Span}
use Rattle.ecma_tree.specs.declared.node.Node.{Node, fold_out-Node}
use Rattle.ecma_tree.specs.Nodes.{node_of}
use Rattle.ecma_print.specs.declared.place.Begins.TheVariants.{Anywhere, ArrowBodyStart}
use Rattle.ecma_print.specs.declared.place.Beside.TheVariants.{NoNeighbor}
use Rattle.ecma_print.specs.declared.place.Between.{Between}
use Rattle.ecma_print.specs.declared.place.Between.TheVariants.{Blank, Finally, Else, LineElse, Equals}
use Rattle.ecma_print.specs.declared.place.Spot.{Spot}
use Rattle.ecma_print.specs.declared.place.Place.TheVariants.{At, Within, Commas, Arguments, FunctionHead, MethodHead}
use Rattle.ecma_print.specs.Places.{before, after, free, beginning, right}
use Rattle.ecma_print.specs.Laid.{Laid, is_absent, is_block}
use Rattle.ecma_print.specs.Lists.{new_lines, block, more_commas, commas}
use Rattle.ecma_print.specs.Statements.{else_behind, behind_body, keyword, for_word}
use Rattle.ecma_print.specs.Functions.{function_head, method_head, static_word, accessor_word}
use Rattle.ecma_print.specs.Layout.{in_place, lay_step, laid}
use Rattle.ecma_print_tokens.specs.Items.{sign, Gap, no_gap, Items, it, render}
use Rattle.ecma_shapes.specs.Shapes.{Level, IsExpression, IsDeclarator, AreDeclarators, Ending, IsStatement, IsBlock, IsPattern, AreParams, IsFunction, IsFunctionName, IsIdent, IsMemberName}
use Rattle.ecma_shapes.specs.MemberKinds.{static_modifiers, accessor_kind, method_kind, field_kind}
use Rattle.ecma_shapes.proofs.Tokens.{expression_tokens, declarator_tokens, declarators_tokens, is_braced, test_tokens, is_generator, is_async, function_name_tokens, ident_word, member_name_tokens}
use Rattle.ecma_shapes.proofs.Signs.{margin, line_at, blank, sign_of, closing_gap, branch_gap, for_tokens, function_word, method_tokens, static_tokens, accessor_text}
use Rattle.ecma_print_layouts.proofs.Layouts.{laid_node, at_node, within_laid, gap_out, key_gap_out}
use Rattle.ecma_print_layouts.proofs.HeadLayouts.{head_laid}
use Rattle.ecma_shapes.specs.Heads.{any_of, may_hold_in}

-- an expression behind a word, and the end of the statement
pub argument_laid : {level : Level} {e : Node} (is : IsExpression level e) (depth : ℕ) (us : Items) → (laid e).at (At (free 0)) (margin depth) (codes ";" ++ render us) ≡ render (expression_tokens is depth no_gap (sign_of (codes ";") us))
    → (laid e).at (Within Blank (free 0)) (margin depth) (codes ";" ++ render us) ≡ render (expression_tokens is depth blank (sign_of (codes ";") us))
unfolding render
argument_laid is depth us h = within_laid is Blank (free 0) (margin depth) (codes ";" ++ render us) ∙ (ap (λ z. codes " " ++ z) h ∙ sym (gap_out is depth blank (sign_of (codes ";") us)))

-- a declaration, by its declarators
pub keyword_laid : (k : VarDeclKind) {d : Node} {ds : List Node} (is : IsDeclarator d) (more : AreDeclarators ds) (at at' : Span) (depth : ℕ) (us : Items)
    → more_commas (free 1) (map laid ds) (margin depth) (codes ";" ++ render us) ≡ render (declarators_tokens more depth (sign_of (codes ";") us))
    → codes " " ++ (laid d).at (At (free 1)) (margin depth) (render (declarators_tokens more depth (sign_of (codes ";") us))) ≡ render (declarator_tokens is depth (declarators_tokens more depth (sign_of (codes ";") us)))
    → (laid (node_of at (kind.VarDecl k false) (node_of at' kind.List (d ∷ ds) ∷ []))).at (At (free 0)) (margin depth) (render us) ≡ keyword k ++ render (declarator_tokens is depth (declarators_tokens more depth (sign_of (codes ";") us)))
unfolding render
keyword_laid k {d = d'} {ds = ds'} is more at at' depth us h h' =
    at_node at (kind.VarDecl k false) (node_of at' kind.List (d' ∷ ds') ∷ []) (At (free 0)) (margin depth) (render us)
    ∙ (ap (λ z. keyword k ++ (codes " " ++ z)) (at_node at' kind.List (d' ∷ ds') (Commas (free 1)) (margin depth) (codes ";" ++ render us)) ∙ ap (λ z. keyword k ++ z) (ap (λ z. codes " " ++ (laid d').at (At (free 1)) (margin depth) z) h ∙ h'))

-- in the first part of a head
abbrev pub head_spot : Spot
head_spot = right (beginning 0 Anywhere true) 1 NoNeighbor

pub more_head_commas : (ds : List Node) → any_of (map may_hold_in ds) ≡ false → (m rest : List ℕ) → more_commas head_spot (map laid ds) m rest ≡ more_commas (free 1) (map laid ds) m rest
more_head_commas [] h m rest = refl
more_head_commas (d ∷ ds) h m rest =
    let c = or_parts (may_hold_in d) _ h in
    ap (λ z. codes ", " ++ (laid d).at (At head_spot) m z) (more_head_commas ds c.1 m rest) ∙ ap (λ z. codes ", " ++ z) (head_laid d c.0 head_spot m (more_commas (free 1) (map laid ds) m rest))

pub head_commas : (ds : List Node) → any_of (map may_hold_in ds) ≡ false → (m rest : List ℕ) → commas head_spot (map laid ds) m rest ≡ commas (free 1) (map laid ds) m rest
head_commas [] h m rest = refl
head_commas (d ∷ ds) h m rest =
    let c = or_parts (may_hold_in d) _ h in
    ap (λ z. (laid d).at (At head_spot) m z) (more_head_commas ds c.1 m rest) ∙ head_laid d c.0 head_spot m (more_commas (free 1) (map laid ds) m rest)

pub for_laid : (is_await : Bool) (us : Items) → for_word is_await ++ render us ≡ render (for_tokens is_await no_gap us)
unfolding render
for_laid true us = refl
for_laid false us = refl

pub for_gap : (is_await : Bool) (g : Gap) (us : Items) → render (for_tokens is_await g us) ≡ g.blanks ++ render (for_tokens is_await no_gap us)
unfolding render
for_gap true g us = refl
for_gap false g us = refl

-- several in braces, where each is on a line of its own
pub in_braces : (ss : List Node) (d : ℕ) (f : Items → Items) → ((vs : Items) → new_lines (map laid ss) (margin (suc d)) (render vs) ≡ render (f vs)) → (us : Items)
    → block (map laid ss) (margin d) (render us) ≡ codes "{" ++ render (f (it (closing_gap ss d) (sign (codes "}")) us))
unfolding render
in_braces [] d f h us = ap (λ z. codes "{" ++ z) (h (it no_gap (sign (codes "}")) us))
in_braces (x ∷ xs) d f h us = ap (λ z. codes "{" ++ z) (h (it (line_at d) (sign (codes "}")) us))

-- a node that is there, and no list
abbrev pub is_there : Kind → Bool
is_there kind.Absent = false
is_there kind.List = false
is_there k = true

pub within_placed : (k : Kind) (cs : List Laid) → is_there k ≡ true → (between : Between) (spot : Spot) (m rest : List ℕ) → in_place k cs (Within between spot) m rest ≡ before between m (in_place k cs (At spot) m (after between m rest))
within_placed kind.Absent cs h between spot m rest = absurd (false≢true h)
within_placed kind.List cs h between spot m rest = absurd (false≢true h)
within_placed k cs h between spot m rest = refl

-- with what stands before and behind it
pub within_there : (n : Node) → is_there (laid n).kind ≡ true → (between : Between) (spot : Spot) (m rest : List ℕ) → (laid n).at (Within between spot) m rest ≡ before between m ((laid n).at (At spot) m (after between m rest))
within_there n h between spot m rest =
    let e = fold_out-Node Laid lay_step n in
    ap (λ x. x.at (Within between spot) m rest) e
    ∙ (within_placed _ _ (sym (ap (λ x. is_there x.kind) e) ∙ h) between spot m rest ∙ ap (λ x. before between m (x.at (At spot) m (after between m rest))) (sym e))

-- an expression is there: a blank stands before it
pub no_absent : {level : Level} {e : Node} → IsExpression level e → is_absent (laid e).kind ≡ false
no_absent {e = e} is =
    let h = fold_out-Node Laid lay_step e in
    ap (λ x. is_absent x.kind) h ∙ go _ _ (sym (ap (λ x. x.at (Within Blank (free 0)) [] []) h) ∙ within_laid is Blank (free 0) [] [])
  where
    go : (k : Kind) (cs : List Laid) {rest : List ℕ} → in_place k cs (Within Blank (free 0)) [] [] ≡ codes " " ++ rest → is_absent k ≡ false
    go kind.Absent cs e = cc
    go k cs e = refl

-- what the layout of a statement asks of its kind
pub record Seen (n : Node) (braced : Bool) : Type 0 where
  pub there : is_there (laid n).kind ≡ true
  pub block_is : is_block (laid n).kind ≡ braced

pub seen : (at : Span) (k : Kind) (cs : List Node) (braced : Bool) → is_there k ≡ true → is_block k ≡ braced → Seen (node_of at k cs) braced
seen at k cs braced h e = record { there = ap (λ x. is_there x.kind) (laid_node at k cs) ∙ h; block_is = ap (λ x. is_block x.kind) (laid_node at k cs) ∙ e }

pub pattern_seen : {n : Node} → IsPattern n → Seen n false
pattern_seen (shapes.name_pattern at i a) = seen at _ _ false refl refl
pattern_seen (shapes.array_pattern at at' es a) = seen at _ _ false refl refl
pattern_seen (shapes.object_pattern at at' ps a) = seen at _ _ false refl refl

pub block_seen : {n : Node} → IsBlock n → Seen n true
block_seen (shapes.block_of at at' ss) = seen at _ _ true refl refl

pub statement_seen : {ending : Ending} {n : Node} (is : IsStatement ending n) → Seen n (is_braced is)
statement_seen (shapes.expression at e z) = seen at _ _ false refl refl
statement_seen (shapes.declaration at at' k i is) = seen at _ _ false refl refl
statement_seen (shapes.empty at) = seen at _ _ false refl refl
statement_seen (shapes.debugger_word at) = seen at _ _ false refl refl
statement_seen (shapes.throw at e) = seen at _ _ false refl refl
statement_seen (shapes.return_value at e) = seen at _ _ false refl refl
statement_seen (shapes.return_nothing at a) = seen at _ _ false refl refl
statement_seen (shapes.break_nothing at a) = seen at _ _ false refl refl
statement_seen (shapes.continue_nothing at a) = seen at _ _ false refl refl
statement_seen (shapes.break_label at i) = seen at _ _ false refl refl
statement_seen (shapes.continue_label at i) = seen at _ _ false refl refl
statement_seen (shapes.block b) = block_seen b
statement_seen (shapes.if_only at e b a) = seen at _ _ false refl refl
statement_seen (shapes.if_else at e b a) = seen at _ _ false refl refl
statement_seen (shapes.while_loop at e b) = seen at _ _ false refl refl
statement_seen (shapes.do_loop at e b) = seen at _ _ false refl refl
statement_seen (shapes.switch_statement at at' e cs) = seen at _ _ false refl refl
statement_seen (shapes.try_catch at b c a) = seen at _ _ false refl refl
statement_seen (shapes.try_finally at b a f) = seen at _ _ false refl refl
statement_seen (shapes.try_catch_finally at b c f) = seen at _ _ false refl refl
statement_seen (shapes.for_loop at a t u b) = seen at _ _ false refl refl
statement_seen (shapes.for_in at l e b) = seen at _ _ false refl refl
statement_seen (shapes.for_of at w l e b) = seen at _ _ false refl refl
statement_seen (shapes.function_statement at i f) = seen at _ _ false refl refl
statement_seen (shapes.class_statement at i c) = seen at _ _ false refl refl
statement_seen (shapes.labeled at i b) = seen at _ _ false refl refl

-- the parameters of a function are laid out as the patterns in them
pub param_laid : (at : Span) (p : Node) (m rest : List ℕ) → (laid (node_of at kind.Param (p ∷ []))).at (At (free 1)) m rest ≡ (laid p).at (At (free 1)) m rest
param_laid at p m rest = at_node at kind.Param (p ∷ []) (At (free 1)) m rest

pub more_params_laid : {es ps : List Node} (is : AreParams es ps) (m rest : List ℕ) → more_commas (free 1) (map laid ps) m rest ≡ more_commas (free 1) (map laid es) m rest
more_params_laid shapes.no_params m rest = refl
more_params_laid (shapes.more_params at {p = p} {ps = es} {ns = ps} is) m rest =
    ap (λ z. codes ", " ++ (laid (node_of at kind.Param (p ∷ []))).at (At (free 1)) m z) (more_params_laid is m rest) ∙ ap (λ z. codes ", " ++ z) (param_laid at p m (more_commas (free 1) (map laid es) m rest))

pub params_laid : (at : Span) {es ps : List Node} (is : AreParams es ps) (m rest : List ℕ) → (laid (node_of at kind.List ps)).at Arguments m rest ≡ (laid (node_of at kind.List es)).at Arguments m rest
params_laid at shapes.no_params m rest = refl
params_laid at (shapes.more_params at' {p = p} {ps = es} {ns = ps} is) m rest =
    at_node at kind.List (node_of at' kind.Param (p ∷ []) ∷ ps) Arguments m rest
    ∙ (ap (λ z. codes "(" ++ (laid (node_of at' kind.Param (p ∷ []))).at (At (free 1)) m z) (more_params_laid is m (codes ")" ++ rest))
    ∙ (ap (λ z. codes "(" ++ z) (param_laid at' p m (more_commas (free 1) (map laid es) m (codes ")" ++ rest))) ∙ sym (at_node at kind.List (p ∷ es) Arguments m rest)))

pub function_head_laid : {n : Node} (is : IsFunction n) (m rest : List ℕ) → (laid n).at FunctionHead m rest ≡ function_head (kind.Function (is_generator is) (is_async is)) ++ rest
function_head_laid (shapes.function_of at of_params x y {params = ps'} {body = b'} {none = n'} {none' = n''} ps ws b a a') m rest = at_node at (kind.Function x y) (node_of of_params kind.List ps' ∷ b' ∷ n' ∷ n'' ∷ []) FunctionHead m rest

pub method_head_laid : {n : Node} (is : IsFunction n) (m rest : List ℕ) → (laid n).at MethodHead m rest ≡ method_head (kind.Function (is_generator is) (is_async is)) ++ rest
method_head_laid (shapes.function_of at of_params x y {params = ps'} {body = b'} {none = n'} {none' = n''} ps ws b a a') m rest = at_node at (kind.Function x y) (node_of of_params kind.List ps' ∷ b' ∷ n' ∷ n'' ∷ []) MethodHead m rest

pub name_gap_out : {private : Bool} {n : Node} (is : IsMemberName private n) (depth : ℕ) (g : Gap) (us : Items) → render (member_name_tokens is depth g us) ≡ g.blanks ++ render (member_name_tokens is depth no_gap us)
unfolding render
name_gap_out (shapes.property_member k) depth g us = key_gap_out k depth g us
name_gap_out (shapes.private_member at w t) depth g us = refl

-- the text behind a gap
abbrev pub Written : (Gap → Items) → List ℕ → Type 0
Written f x = (g : Gap) → render (f g) ≡ g.blanks ++ x

pub method_text : (x y : Bool) {private : Bool} {n : Node} (is : IsMemberName private n) (depth : ℕ) (us : Items) → Written (method_tokens x y (λ h. member_name_tokens is depth h us)) (method_head (kind.Function x y) ++ render (member_name_tokens is depth no_gap us))
unfolding render
method_text true true is depth us g = refl
method_text true false is depth us g = refl
method_text false true is depth us g = ap (λ z. g.blanks ++ (codes "async" ++ z)) (name_gap_out is depth blank us)
method_text false false is depth us g = name_gap_out is depth g us

pub accessor_written : (is_setter : Bool) {private : Bool} {n : Node} (is : IsMemberName private n) (depth : ℕ) (us : Items) → Written (λ h. it h (items.key (accessor_text is_setter)) (member_name_tokens is depth blank us)) (accessor_word (accessor_kind is_setter) ++ render (member_name_tokens is depth no_gap us))
unfolding render
accessor_written true is depth us g = ap (λ z. g.blanks ++ (codes "set" ++ z)) (name_gap_out is depth blank us)
accessor_written false is depth us g = ap (λ z. g.blanks ++ (codes "get" ++ z)) (name_gap_out is depth blank us)

pub static_text : (s : Bool) (f : Gap → Items) (x : List ℕ) → Written f x → Written (static_tokens s f) (static_word s ++ x)
unfolding render
static_text true f x h g = ap (λ z. g.blanks ++ (codes "static" ++ z)) (h blank)
static_text false f x h g = h g

pub method_node : (p s : Bool) (k : MethodKind) (at : Span) (key function : Node) (m rest : List ℕ) → (laid (node_of at (method_kind p k s) (key ∷ function ∷ []))).at (At (free 0)) m rest
    ≡ static_word s ++ (accessor_word k ++ (laid function).at MethodHead m ((laid key).at (At (free 1)) m ((laid function).at (At (free 1)) m rest)))
method_node true s k at key function m rest = at_node at (kind.PrivateMethod k (static_modifiers s)) (key ∷ function ∷ []) (At (free 0)) m rest
method_node false s k at key function m rest = at_node at (kind.ClassMethod k (static_modifiers s)) (key ∷ function ∷ []) (At (free 0)) m rest

pub field_node : (p s : Bool) (at : Span) (key value none : Node) (m rest : List ℕ) → (laid (node_of at (field_kind p s) (key ∷ value ∷ none ∷ []))).at (At (free 0)) m rest
    ≡ static_word s ++ (laid key).at (At (free 1)) m ((laid value).at (Within Equals (free 1)) m (codes ";" ++ rest))
field_node true s at key value none m rest = at_node at (kind.PrivateProp (static_modifiers s) false false false) (key ∷ value ∷ none ∷ []) (At (free 0)) m rest
field_node false s at key value none m rest = at_node at (kind.ClassProp (static_modifiers s) false false false) (key ∷ value ∷ none ∷ []) (At (free 0)) m rest

pub blank_name_laid : {n : Node} (i : IsIdent n) (m : List ℕ) (us : Items) → (laid n).at (Within Blank (free 1)) m (render us) ≡ render (it blank (items.key (ident_word i)) us)
unfolding render
blank_name_laid (shapes.ident at w i) m us = at_node at (kind.Ident w 0 false) [] (Within Blank (free 1)) m (render us)

pub function_name_laid : {n : Node} (is : IsFunctionName n) (m : List ℕ) (us : Items) → (laid n).at (Within Blank (free 1)) m (render us) ≡ render (function_name_tokens is us)
function_name_laid (shapes.unnamed (shapes.absent at)) m us = at_node at kind.Absent [] (Within Blank (free 1)) m (render us)
function_name_laid (shapes.function_name i) m us = blank_name_laid i m us

pub function_word_text : (x y : Bool) (g : Gap) (us : Items) → render (function_word x y g us) ≡ g.blanks ++ (function_head (kind.Function x y) ++ render us)
unfolding render
function_word_text true true g us = refl
function_word_text true false g us = refl
function_word_text false true g us = refl
function_word_text false false g us = refl

-- a block is laid out alike wherever it stands
pub block_again : {n : Node} → IsBlock n → (m rest : List ℕ) → (laid n).at (At (free 1)) m rest ≡ (laid n).at (At (free 0)) m rest
block_again (shapes.block_of at at' {ss = ss'} ss) m rest = at_node at kind.BlockStmt (node_of at' kind.List ss' ∷ []) (At (free 1)) m rest ∙ sym (at_node at kind.BlockStmt (node_of at' kind.List ss' ∷ []) (At (free 0)) m rest)

pub block_behind_arrow : {n : Node} → IsBlock n → (without_in : Bool) (m rest : List ℕ) → (laid n).at (At (beginning 1 ArrowBodyStart without_in)) m rest ≡ (laid n).at (At (free 0)) m rest
block_behind_arrow (shapes.block_of at at' {ss = ss'} ss) w m rest =
    at_node at kind.BlockStmt (node_of at' kind.List ss' ∷ []) (At (beginning 1 ArrowBodyStart w)) m rest ∙ sym (at_node at kind.BlockStmt (node_of at' kind.List ss' ∷ []) (At (free 0)) m rest)

pub function_body_laid : {n : Node} → IsBlock n → (m : List ℕ) (us ts : Items) → codes " " ++ (laid n).at (At (free 0)) m (render us) ≡ render ts → (laid n).at (Within Blank (free 1)) m (render us) ≡ render ts
function_body_laid {n} is m us ts e = let s = block_seen is in within_there n s.there Blank (free 1) m (render us) ∙ (ap (λ z. codes " " ++ z) (block_again is m (render us)) ∙ e)

-- a body behind a blank
pub body_laid : {n : Node} {braced : Bool} → Seen n braced → (m : List ℕ) (us ts : Items) → render ts ≡ codes " " ++ (laid n).at (At (free 0)) m (render us) → (laid n).at (Within Blank (free 0)) m (render us) ≡ render ts
body_laid {n} s m us ts e = within_there n s.there Blank (free 0) m (render us) ∙ sym e

-- `else` behind a body
pub else_laid : (after_block : Bool) {n : Node} {braced : Bool} → Seen n braced → (d : ℕ) (us ts : Items) → render ts ≡ codes " " ++ (laid n).at (At (free 0)) (margin d) (render us)
    → (laid n).at (Within (else_behind after_block) (free 0)) (margin d) (render us) ≡ render (it (branch_gap after_block d) (items.key (codes "else")) ts)
unfolding render
else_laid true {n} s d us ts e = within_there n s.there Else (free 0) (margin d) (render us) ∙ ap (λ z. codes " else" ++ z) (sym e)
else_laid false {n} s d us ts e = within_there n s.there LineElse (free 0) (margin d) (render us) ∙ ap (λ z. codes "\n" ++ (margin d ++ (codes "else" ++ z))) (sym e)

-- `finally` and its block
pub finally_laid : {n : Node} {braced : Bool} → Seen n braced → (m : List ℕ) (us ts : Items) → codes " " ++ (laid n).at (At (free 0)) m (render us) ≡ render ts → (laid n).at (Within Finally (free 0)) m (render us) ≡ render (it blank (items.key (codes "finally")) ts)
unfolding render
finally_laid {n} s m us ts e = within_there n s.there Finally (free 0) m (render us) ∙ ap (λ z. codes " finally" ++ z) e

pub branch_text : (after_block : Bool) (d : ℕ) (x : List ℕ) → behind_body after_block (margin d) x ≡ (let g = branch_gap after_block d in g.blanks ++ x)
branch_text true d x = refl
branch_text false d x = refl

-- `(`, a test, `)`
pub test_laid : {level : Level} {e : Node} (is : IsExpression level e) (depth : ℕ) (us : Items) → (laid e).at (At (free 0)) (margin depth) (codes ")" ++ render us) ≡ render (expression_tokens is depth no_gap (sign_of (codes ")") us))
    → codes " (" ++ (laid e).at (At (free 0)) (margin depth) (codes ")" ++ render us) ≡ render (test_tokens is depth us)
unfolding render
test_laid is depth us h = ap (λ z. codes " (" ++ z) h
