-- What the tokens of statements, functions and classes are put together of, and what may stand before them.
use Rattle.ecma_print_tokens.specs.Items as items
use Rattle.ecma_shapes.specs.Shapes as shapes
use Rattle.std.proofs.Common.{◌≡◌, ℕ, zero, suc, ◌&&◌, Bool, true, false, List, [], ◌∷◌, codes, refl, ap₂, ◌∙◌, ◌++◌}
use Rattle.std.specs.List.{list_all}
use Rattle.std.proofs.lemmas.List.Folds.{list_all-append}
use Rattle.ecma_lex.specs.Keys.{key_end}
use Rattle.ecma_lex.specs.Punctuators.{punctuators}
use Rattle.ecma_kind.specs.declared.operators.VarDeclKind.{VarDeclKind}
use Rattle.ecma_kind.specs.declared.operators.VarDeclKind.TheVariants.{Var, Let, Const}
use Rattle.ecma_tree.specs.declared.node.Node.{Node}
use Rattle.ecma_print.specs.Statements.{keyword}
use Rattle.ecma_print_tokens.specs.Items.{Tok, sign, Gap, no_gap, Items, it}
use Rattle.ecma_print_tokens.specs.Good.{IsGap, IsToken, is_gap_character}
use Rattle.ecma_print_tokens.specs.Joins.{joins, joins_next, Joined}
use Rattle.ecma_shapes.specs.Shapes.{IsInitializer, Level, IsExpression, Ending, IsStatement, IsBlock, IsCase, AreCases, IsCatch, AreStatements, IsOptional, IsPattern, IsFunction, IsHeritage, IsClass, IsMemberName, IsMember, AreMembers, IsDeclarator}
use Rattle.ecma_shapes.proofs.Tokens.{expression_tokens, ident_word, test_tokens, statement_tokens, block_tokens, case_tokens, cases_tokens, catch_tokens, lined_tokens, optional_tokens, initializer_tokens, pattern_tokens, is_generator, is_async, function_tokens, heritage_tokens, class_tokens, member_tokens, members_tokens, key_word, member_name_tokens, declarator_tokens}
use Rattle.ecma_shapes.proofs.Signs.{margin, line_at, blank, sign_of, closing_gap, branch_gap, for_tokens, function_word, method_tokens, static_tokens, accessor_text}
use Rattle.ecma_print_layouts.proofs.Beginnings.{pattern_blank_joins, begun, blank_joins, opening_joins}
use Rattle.ecma_print_layouts.proofs.Joins.{Words, BehindName, no_gap_is, blank_is}

-- gaps that keep any two tokens apart
abbrev pub Wide : Gap → Type 0
Wide g = (t u : Tok) → joins t g u ≡ true

pub line_wide : (d : ℕ) → Wide (line_at d)
line_wide d t u = refl

pub blank_wide : Wide blank
blank_wide t u = refl

pub margin_blank : (d : ℕ) → list_all is_gap_character (margin d) ≡ true
margin_blank zero = refl
margin_blank (suc d) = list_all-append is_gap_character (margin d) (codes "    ") ∙ ap₂ (λ a b. a && b) (margin_blank d) refl

pub line_is : (d : ℕ) → IsGap (line_at d)
line_is d = record { blank = margin_blank d; told = refl }

-- any token may stand in front of these
abbrev pub Apart : Items → Type 0
Apart us = (t : Tok) → joins_next t us ≡ true

pub block_apart : {n : Node} (is : IsBlock n) (d : ℕ) (g : Gap) → Wide g → (us : Items) → Apart (block_tokens is d g us)
block_apart (shapes.block_of at at' ss) d g w us t = w t (sign (codes "{"))

pub function_word_apart : (x y : Bool) (g : Gap) → Wide g → (us : Items) → Apart (function_word x y g us)
function_word_apart true true g w us t = w t (items.key (codes "async"))
function_word_apart false true g w us t = w t (items.key (codes "async"))
function_word_apart true false g w us t = w t (items.key (codes "function"))
function_word_apart false false g w us t = w t (items.key (codes "function"))

pub statement_apart : {ending : Ending} {n : Node} (is : IsStatement ending n) (d : ℕ) (g : Gap) → Wide g → (us : Items) → Apart (statement_tokens is d g us)
statement_apart (shapes.expression at e z) d g w us t = let b = begun e d (sign_of (codes ";") us) in rw (b.is g) (w t b.first)
statement_apart (shapes.declaration at at' k i is) d g w us t = w t (items.key (keyword k))
statement_apart (shapes.empty at) d g w us t = w t (sign (codes ";"))
statement_apart (shapes.debugger_word at) d g w us t = w t (items.key (codes "debugger"))
statement_apart (shapes.throw at e) d g w us t = w t (items.key (codes "throw"))
statement_apart (shapes.return_value at e) d g w us t = w t (items.key (codes "return"))
statement_apart (shapes.return_nothing at a) d g w us t = w t (items.key (codes "return"))
statement_apart (shapes.break_nothing at a) d g w us t = w t (items.key (codes "break"))
statement_apart (shapes.continue_nothing at a) d g w us t = w t (items.key (codes "continue"))
statement_apart (shapes.break_label at i) d g w us t = w t (items.key (codes "break"))
statement_apart (shapes.continue_label at i) d g w us t = w t (items.key (codes "continue"))
statement_apart (shapes.block b) d g w us t = block_apart b d g w us t
statement_apart (shapes.if_only at e b a) d g w us t = w t (items.key (codes "if"))
statement_apart (shapes.if_else at e b a) d g w us t = w t (items.key (codes "if"))
statement_apart (shapes.while_loop at e b) d g w us t = w t (items.key (codes "while"))
statement_apart (shapes.do_loop at e b) d g w us t = w t (items.key (codes "do"))
statement_apart (shapes.switch_statement at at' e cs) d g w us t = w t (items.key (codes "switch"))
statement_apart (shapes.try_catch at b c n) d g w us t = w t (items.key (codes "try"))
statement_apart (shapes.try_finally at b n f) d g w us t = w t (items.key (codes "try"))
statement_apart (shapes.try_catch_finally at b c f) d g w us t = w t (items.key (codes "try"))
statement_apart (shapes.for_loop at i t' u b) d g w us t = w t (items.key (codes "for"))
statement_apart (shapes.for_in at l e b) d g w us t = w t (items.key (codes "for"))
statement_apart (shapes.for_of at true l e b) d g w us t = w t (items.key (codes "for"))
statement_apart (shapes.for_of at false l e b) d g w us t = w t (items.key (codes "for"))
statement_apart (shapes.function_statement at i f) d g w us t = function_word_apart (is_generator f) (is_async f) g w _ t
statement_apart (shapes.class_statement at i c) d g w us t = w t (items.key (codes "class"))
statement_apart (shapes.labeled at i b) d g w us t = w t (items.key (ident_word i))

pub lined_apart : {ss : List Node} (is : AreStatements ss) (d : ℕ) (us : Items) (t : Tok) → joins_next t us ≡ true → joins_next t (lined_tokens is d us) ≡ true
lined_apart shapes.no_statements d us t a = a
lined_apart (shapes.more_statements s ss) d us t a = statement_apart s d (line_at d) (line_wide d) (lined_tokens ss d us) t

pub case_apart : {n : Node} (is : IsCase n) (d : ℕ) (g : Gap) → Wide g → (us : Items) → Apart (case_tokens is d g us)
case_apart (shapes.case_of at at' e ss) d g w us t = w t (items.key (codes "case"))
case_apart (shapes.default_of at at' a ss) d g w us t = w t (items.key (codes "default"))

pub cases_apart : {cs : List Node} (is : AreCases cs) (d : ℕ) (us : Items) (t : Tok) → joins_next t us ≡ true → joins_next t (cases_tokens is d us) ≡ true
cases_apart shapes.no_cases d us t a = a
cases_apart (shapes.more_cases c cs) d us t a = case_apart c d (line_at d) (line_wide d) (cases_tokens cs d us) t

pub cases_empty : {cs : List Node} (is : AreCases cs) (d : ℕ) (us : Items) → cs ≡ [] → cases_tokens is d us ≡ us
cases_empty shapes.no_cases d us e = refl
cases_empty (shapes.more_cases c cs) d us e = cc

pub catch_apart : {n : Node} (is : IsCatch n) (d : ℕ) (us : Items) → Apart (catch_tokens is d us)
catch_apart (shapes.catch_any at n b) d us t = refl
catch_apart (shapes.catch_pattern at p b) d us t = refl

pub lined_empty : {ss : List Node} (is : AreStatements ss) (d : ℕ) (us : Items) → ss ≡ [] → lined_tokens is d us ≡ us
lined_empty shapes.no_statements d us e = refl
lined_empty (shapes.more_statements s ss) d us e = cc

pub branch_is : (after_block : Bool) (d : ℕ) → IsGap (branch_gap after_block d)
branch_is true d = blank_is
branch_is false d = line_is d

pub branch_apart : (after_block : Bool) (d : ℕ) (u : Tok) (us : Items) → Apart (it (branch_gap after_block d) u us)
branch_apart true d u us t = refl
branch_apart false d u us t = refl

-- `(` in front of a pattern
pub pattern_opening : {n : Node} (is : IsPattern n) (depth : ℕ) (us : Items) → joins_next (sign (codes "(")) (pattern_tokens is depth no_gap us) ≡ true
unfolding punctuators
pattern_opening (shapes.name_pattern at i a) depth us = refl
pattern_opening is depth us = refl

pub name_apart : {private : Bool} {n : Node} (is : IsMemberName private n) (depth : ℕ) (g : Gap) → Wide g → (us : Items) → Apart (member_name_tokens is depth g us)
name_apart (shapes.property_member (shapes.key_name k)) depth g w us t = w t (items.key (key_word k))
name_apart (shapes.property_member (shapes.string_name at raw z)) depth g w us t = w t (items.string raw)
name_apart (shapes.property_member (shapes.number_name at raw z)) depth g w us t = w t (items.number raw)
name_apart (shapes.property_member (shapes.big_int_name at raw z)) depth g w us t = w t (items.big_int raw)
name_apart (shapes.property_member (shapes.computed_name at e)) depth g w us t = w t (sign (codes "["))
name_apart (shapes.private_member at q z) depth g w us t = w t (items.private_name (codes "#" ++ q))

pub method_apart : (x y : Bool) (f : Gap → Items) → ((g : Gap) → Wide g → Apart (f g)) → (g : Gap) → Wide g → Apart (method_tokens x y f g)
method_apart true true f a g w t = w t (items.key (codes "async"))
method_apart true false f a g w t = w t (sign (codes "*"))
method_apart false true f a g w t = w t (items.key (codes "async"))
method_apart false false f a g w t = a g w t

pub static_apart : (s : Bool) (f : Gap → Items) → ((g : Gap) → Wide g → Apart (f g)) → (g : Gap) → Wide g → Apart (static_tokens s f g)
static_apart true f a g w t = w t (items.key (codes "static"))
static_apart false f a g w t = a g w t

-- a value, or the end, and parameters

pub value_behind_name : {n : Node} (is : IsInitializer n) (depth : ℕ) (us : Items) → BehindName (initializer_tokens is depth (sign_of (codes ";") us))
unfolding punctuators
value_behind_name (shapes.no_initializer a) depth us = record { word = λ w. refl; string = λ w. refl; number = λ w. refl; big_int = λ w. refl; private = λ w. refl; bracket = refl }
value_behind_name (shapes.initializer e) depth us = record { word = λ w. refl; string = λ w. refl; number = λ w. refl; big_int = λ w. refl; private = λ w. refl; bracket = refl }

pub params_behind_name : (us : Items) → BehindName (sign_of (codes "(") us)
unfolding punctuators
params_behind_name us = record { word = λ w. refl; string = λ w. refl; number = λ w. refl; big_int = λ w. refl; private = λ w. refl; bracket = refl }

pub function_behind_name : {n : Node} (is : IsFunction n) (d : ℕ) (us : Items) → BehindName (function_tokens is d us)
function_behind_name (shapes.function_of at at' x y ps ws b n n') d us = params_behind_name _

pub member_apart : {n : Node} (is : IsMember n) (d : ℕ) (g : Gap) → Wide g → (us : Items) → Apart (member_tokens is d g us)
member_apart (shapes.empty_member at) d g w us = λ t. w t (sign (codes ";"))
member_apart (shapes.static_block at b) d g w us = λ t. w t (items.key (codes "static"))
member_apart (shapes.method at s k f z) d g w us =
    static_apart s (method_tokens (is_generator f) (is_async f) (λ h. member_name_tokens k d h (function_tokens f d us))) (method_apart (is_generator f) (is_async f) (λ h. member_name_tokens k d h (function_tokens f d us)) (λ h v. name_apart k d h v _)) g w
member_apart (shapes.class_constructor at at' k z ps ws b) d g w us = name_apart (shapes.property_member k) d g w _
member_apart (shapes.field at s k v a) d g w us = static_apart s (λ h. member_name_tokens k d h (initializer_tokens v d (sign_of (codes ";") us))) (λ h v. name_apart k d h v _) g w
member_apart (shapes.accessor at at' at'' s b k ps ws body n n') d g w us = static_apart s (λ h. it h (items.key (accessor_text b)) _) (λ h v t. v t (items.key (accessor_text b))) g w

pub members_apart : {ns : List Node} (is : AreMembers ns) (d : ℕ) (us : Items) (t : Tok) → joins_next t us ≡ true → joins_next t (members_tokens is d us) ≡ true
members_apart shapes.no_members d us t a = a
members_apart (shapes.more_members m ms) d us t a = member_apart m d (line_at d) (line_wide d) (members_tokens ms d us) t

pub members_empty : {ns : List Node} (is : AreMembers ns) (d : ℕ) (us : Items) → ns ≡ [] → members_tokens is d us ≡ us
members_empty shapes.no_members d us e = refl
members_empty (shapes.more_members m ms) d us e = cc

pub heritage_apart : {n : Node} (is : IsHeritage n) (depth : ℕ) (t : Tok) (us : Items) → Apart (heritage_tokens is depth (it blank t us))
heritage_apart (shapes.no_heritage a) depth t us u = refl
heritage_apart (shapes.heritage e) depth t us u = refl

pub class_apart : {n : Node} (is : IsClass n) (d : ℕ) (us : Items) → Apart (class_tokens is d us)
class_apart (shapes.class_of at at' at'' h ms a a') d us t = heritage_apart h d (sign (codes "{")) _ t

-- a word, or `*`, may stand in front of parameters, and of a name
pub function_opens : {n : Node} (is : IsFunction n) (d : ℕ) (us : Items) (w : Tok) → joins_next w (sign_of (codes "(") us) ≡ true → joins_next w (function_tokens is d us) ≡ true
function_opens (shapes.function_of at at' x y ps ws b n n') d us w h = h

pub declarator_blank_joins : (t : Tok) {n : Node} (is : IsDeclarator n) (depth : ℕ) (us : Items) → joins_next t (declarator_tokens is depth us) ≡ true
declarator_blank_joins t (shapes.declarator at p e) depth us = pattern_blank_joins t p depth (initializer_tokens e depth us)

module _ (words : Words) where
  pub ended : (us : Items) → Apart us → Joined us → Joined (sign_of (codes ";") us)
  unfolding punctuators
  ended us a j = (no_gap_is, refl, a (sign (codes ";")), j)

  pub keyword_whole : (k : VarDeclKind) → IsToken key_end (keyword k)
  keyword_whole Var = words.var_whole
  keyword_whole Let = words.let_whole
  keyword_whole Const = words.const_whole

  pub optional_opens : (t : Tok) {n : Node} (is : IsOptional n) (depth : ℕ) (us : Items) → joins_next t us ≡ true → joins_next t (optional_tokens is depth us) ≡ true
  optional_opens t (shapes.left_out a) depth us h = h
  optional_opens t (shapes.given e) depth us h = blank_joins t e depth us

  -- several in braces, where each is on a line of its own
  pub braces_joined : (ss : List Node) (d : ℕ) (f : Items → Items) → ((vs : Items) → ss ≡ [] → f vs ≡ vs) → ((vs : Items) → Apart vs → joins_next (sign (codes "{")) (f vs) ≡ true) → ((vs : Items) → Apart vs → Joined vs → Joined (f vs))
      → (g : Gap) → IsGap g → (us : Items) → joins_next (sign (codes "}")) us ≡ true → Joined us → Joined (it g (sign (codes "{")) (f (it (closing_gap ss d) (sign (codes "}")) us)))
  unfolding punctuators
  braces_joined [] d f e o k g h us a j = rw (e (it no_gap (sign (codes "}")) us) refl) (h, refl, refl, (no_gap_is, refl, a, j))
  braces_joined (x ∷ xs) d f e o k g h us a j =
      let vs = it (line_at d) (sign (codes "}")) us in
      let b : Apart vs = λ t. line_wide d t (sign (codes "}")) in
      (h, refl, o vs b, k vs b (line_is d, refl, a, j))

  pub function_word_joined : (x y : Bool) (g : Gap) → IsGap g → (us : Items) → joins_next (items.key (codes "function")) us ≡ true → joins_next (sign (codes "*")) us ≡ true → Joined us → Joined (function_word x y g us)
  unfolding punctuators
  function_word_joined true true g h us a b j = (h, words.async_whole, refl, (blank_is, words.function_whole, refl, (no_gap_is, refl, b, j)))
  function_word_joined true false g h us a b j = (h, words.function_whole, refl, (no_gap_is, refl, b, j))
  function_word_joined false true g h us a b j = (h, words.async_whole, refl, (blank_is, words.function_whole, a, j))
  function_word_joined false false g h us a b j = (h, words.function_whole, a, j)

  pub star_joins : {private : Bool} {n : Node} (is : IsMemberName private n) (depth : ℕ) (us : Items) → joins_next (sign (codes "*")) (member_name_tokens is depth no_gap us) ≡ true
  unfolding punctuators
  star_joins (shapes.property_member (shapes.key_name k)) depth us = refl
  star_joins (shapes.property_member (shapes.string_name at raw t)) depth us = refl
  star_joins (shapes.property_member (shapes.number_name at raw t)) depth us = refl
  star_joins (shapes.property_member (shapes.big_int_name at raw t)) depth us = refl
  star_joins (shapes.property_member (shapes.computed_name at e)) depth us = refl
  star_joins (shapes.private_member at w t) depth us = refl

  pub method_joined : (x y : Bool) {private : Bool} {n : Node} (is : IsMemberName private n) (depth : ℕ) (us : Items) → ((g : Gap) → IsGap g → Joined (member_name_tokens is depth g us)) → (g : Gap) → IsGap g → Joined (method_tokens x y (λ h. member_name_tokens is depth h us) g)
  unfolding punctuators
  method_joined true true is depth us j g h = (h, words.async_whole, refl, (blank_is, refl, star_joins is depth us, j no_gap no_gap_is))
  method_joined true false is depth us j g h = (h, refl, star_joins is depth us, j no_gap no_gap_is)
  method_joined false true is depth us j g h = (h, words.async_whole, name_apart is depth blank blank_wide us (items.key (codes "async")), j blank blank_is)
  method_joined false false is depth us j g h = j g h

  pub accessor_joined : (is_setter : Bool) {private : Bool} {n : Node} (is : IsMemberName private n) (depth : ℕ) (us : Items) → ((g : Gap) → IsGap g → Joined (member_name_tokens is depth g us)) → (g : Gap) → IsGap g → Joined (it g (items.key (accessor_text is_setter)) (member_name_tokens is depth blank us))
  accessor_joined true is depth us j g h = (h, words.set_whole, name_apart is depth blank blank_wide us (items.key (codes "set")), j blank blank_is)
  accessor_joined false is depth us j g h = (h, words.get_whole, name_apart is depth blank blank_wide us (items.key (codes "get")), j blank blank_is)

  pub static_joined : (s : Bool) (f : Gap → Items) → ((g : Gap) → Wide g → Apart (f g)) → ((g : Gap) → IsGap g → Joined (f g)) → (g : Gap) → IsGap g → Joined (static_tokens s f g)
  static_joined true f a j g h = (h, words.static_whole, a blank blank_wide (items.key (codes "static")), j blank blank_is)
  static_joined false f a j g h = j g h

  pub finally_joined : {n : Node} (is : IsBlock n) (d : ℕ) (us : Items) → Joined (block_tokens is d blank us) → Joined (it blank (items.key (codes "finally")) (block_tokens is d blank us))
  finally_joined is d us j = (blank_is, words.finally_whole, block_apart is d blank blank_wide us (items.key (codes "finally")), j)

  -- the head of a loop over what is given
  pub for_joined : (is_await : Bool) (us : Items) (g : Gap) → IsGap g → Joined (it blank (sign (codes "(")) us) → Joined (for_tokens is_await g us)
  for_joined true us g h j = (h, words.for_whole, refl, (blank_is, words.await_whole, refl, j))
  for_joined false us g h j = (h, words.for_whole, refl, j)

  pub test_joined : {level : Level} {e : Node} (is : IsExpression level e) (depth : ℕ) (us : Items) → Joined (expression_tokens is depth no_gap (sign_of (codes ")") us)) → Joined (test_tokens is depth us)
  unfolding punctuators
  test_joined is depth us j = (blank_is, refl, opening_joins is depth (sign_of (codes ")") us), j)
