-- An expression that is exported by default is read as it is laid out.
use Rattle.std.proofs.Common.{◌≡◌, false, Bool, List, [], ◌∷◌, codes, refl, ap, sym, ◌∙◌}
use Rattle.ecma_kind.specs.declared.kind.Kind.TheVariants as kind
use Rattle.ecma_tree.specs.declared.node.Node.{Node}
use Rattle.ecma_grammar.specs.declared.production.Part.TheVariants as part
use Rattle.ecma_grammar.specs.declared.production.Flag.TheVariants.{Present}
use Rattle.ecma_grammar.specs.declared.production.Plain.TheVariants as plain
use Rattle.ecma_grammar.specs.declared.production.Form.TheVariants as form
use Rattle.ecma_grammar.specs.Grammar.{put, ◌▸◌, ◌//◌, word, marked, same_line, the_word}
use Rattle.ecma_grammar.specs.productions.Names.{end}
use Rattle.ecma_grammar.specs.productions.Functions.{default_function}
use Rattle.ecma_grammar.specs.productions.Primary.{class_expression}
use Rattle.ecma_grammar.specs.productions.Classes.{abstract_class_expression}
use Rattle.ecma_grammar.specs.productions.Declarations.{interface}
use Rattle.ecma_grammar.specs.productions.Modules.{export_default, export, module_item}
use Rattle.ecma_print_tokens.specs.Items as items
use Rattle.ecma_print_tokens.specs.Items.{sign, Gap, Items, it}
use Rattle.ecma_print_tokens.specs.Taking as taking
use Rattle.ecma_print_tokens.specs.Taking.{Took, took, refused, token_in}
use Rattle.ecma_print_reread_functions.proofs.Classes.{class_expression_read}
use Rattle.ecma_print_readings.proofs.Machine.{Out, read, unsure, Turn, taken, behind_on, followed_on, fails, built_on, with_front, or_on, interp, means, without}
use Rattle.ecma_shapes.specs.Shapes as shapes
use Rattle.ecma_shapes.specs.Shapes.{IsExpression, IsFunctionName, IsFunction, IsClass}
use Rattle.ecma_shapes.proofs.Tokens.{expression_tokens, is_generator, is_async, function_name_tokens, function_tokens, class_tokens}
use Rattle.ecma_shapes.proofs.Signs.{blank, sign_of, function_word, closing_gap}
use Rattle.ecma_shapes.proofs.Bare.{bare, bare_expression, bare_function_name, bare_function, bare_class}
use Rattle.ecma_shapes.proofs.ModuleTokens.{spaced_word}
use Rattle.ecma_print_readings.proofs.Fronts.{exactly, at_token}
use Rattle.ecma_print_readings.proofs.Towers.{excluded}
use Rattle.ecma_print_readings.proofs.Forms.{Reads, Refuses}
use Rattle.ecma_print_readings.proofs.Bindings.{used}
use Rattle.ecma_print_readings.proofs.Expressions.{semicolon_ends}
use Rattle.ecma_shapes.specs.Starts.{is_declaration_word, start_of}
use Rattle.ecma_shapes.proofs.Starts.{starts_agree}
use Rattle.ecma_print_reread.proofs.Undeclared.{undeclared}
use Rattle.ecma_print_reread.proofs.StatementForms.{expression_form, argument_forms, block_form, member_forms, heritage_form}
use Rattle.ecma_print_reread_functions.proofs.Functions.{default_function_read}
use Rattle.ecma_print_reread.proofs.Exports.{export_item}

-- where a choice fails, each of its alternatives does

first_fails : (f : Turn) (ts : Items) (o : Out) → or_on f ts o ≡ fails → o ≡ fails
first_fails f ts fails h = refl
first_fails f ts (read xs us) h = h
first_fails f ts unsure h = h

second_fails : (f : Turn) (ts : Items) (o : Out) → or_on f ts o ≡ fails → f ts ≡ fails
second_fails f ts fails h = h
second_fails f ts (read xs us) h = absurd (let z : ⊥ = cc in z)
second_fails f ts unsure h = absurd (let z : ⊥ = cc in z)

-- where what is read stands in front, what follows fails
behind_fails : (xs : List Node) (o : Out) → with_front xs o ≡ fails → o ≡ fails
behind_fails xs fails h = refl
behind_fails xs (read ys us) h = absurd (let z : ⊥ = cc in z)
behind_fails xs unsure h = h

-- where a part behind another fails, more behind it fails
further_fails : (f f' : Turn) → ((us : Items) → f us ≡ fails → f' us ≡ fails) → (o : Out) → followed_on f o ≡ fails → followed_on f' o ≡ fails
further_fails f f' k fails h = refl
further_fails f f' k (read xs us) h = ap (with_front xs) (k us (behind_fails xs (f us) h))
further_fails f f' k unsure h = h

module _ (assigned : Bool) where
  class_refused : (ts : Items) → Refuses assigned (word (codes "class")) ts → Refuses assigned class_expression ts
  unfolding class_expression
  class_refused ts h = ap (built_on (form.Class plain.ClassExpr false)) (no_behind (token_in (the_word (codes "class")) ts) h)
    where
      no_behind : (o : Took) → taken o ≡ fails → behind_on (means assigned (part.Class false)) o ≡ fails
      no_behind (took w us) h = absurd (let z : ⊥ = cc in z)
      no_behind refused h = refl
      no_behind taking.unsure h = h

  -- what begins with no `function` and no `class` is no declaration
  no_default_declaration : (ts : Items) → Refuses assigned excluded ts → Refuses assigned (default_function // class_expression // marked abstract_class_expression // marked interface) ts
  unfolding default_function
  no_default_declaration ts h =
      let I = interp assigned (means assigned) in
      let function_word = word (codes "function") in
      let async_function = word (codes "async") ▸ same_line ▸ function_word in
      let rest = second_fails (I (word (codes "class") // async_function)) ts (I function_word ts) h in
      let no_function = first_fails (I (word (codes "class") // async_function)) ts (I function_word ts) h in
      let no_class = first_fails (I async_function) ts (I (word (codes "class")) ts) rest in
      let no_async = second_fails (I async_function) ts (I (word (codes "class")) ts) rest in
      let no_async_behind =
      further_fails (I (same_line ▸ function_word)) (I (same_line ▸ function_word ▸ put Present))
      (λ us. further_fails (I function_word) (I (function_word ▸ put Present)) (λ vs k. ap (followed_on (I (put Present))) k) (I same_line us)) (I (word (codes "async")) ts) no_async in
      rw (no_async_behind, no_function, class_refused ts no_class) refl

  pub export_default_read : {e : Node} (is : IsExpression shapes.assignment e) → is_declaration_word (start_of e) ≡ false → (g : Gap) (us : Items)
      → Reads assigned module_item (it g (items.key (codes "export")) (spaced_word (codes "default") (expression_tokens is 0 blank (sign_of (codes ";") us)))) (bare kind.ExportDefaultExpr (bare_expression is ∷ []) ∷ []) us
  unfolding export export_default
  export_default_read is z g us =
      let I = interp assigned (means assigned) in
      let S = expression_form assigned is 0 in
      let U = undeclared assigned is 0 (sym (ap is_declaration_word (starts_agree is)) ∙ z) blank (sign_of (codes ";") us) refl in
      let e = expression_tokens is 0 blank (sign_of (codes ";") us) in
      let ts = it g (items.key (codes "export")) (spaced_word (codes "default") e) in
      export_item assigned g (spaced_word (codes "default") e) _ us refl
      (ap (or_on (I (without 1 export)) ts)
      (ap (or_on (I (without 1 export_default)) ts)
      (ap (built_on (form.Node plain.ExportDefaultDecl)) (ap (with_front []) (ap (with_front []) (no_default_declaration e U.no_word))))
      ∙ ap (built_on (form.Node plain.ExportDefaultExpr)) (ap (with_front []) (ap (with_front []) (ap (followed_on (I end)) (used assigned S blank (sign_of (codes ";") us) (exactly (sign (codes ";"))) at_token semicolon_ends))))))

  pub export_default_function_read : {m n : Node} (i : IsFunctionName m) (is : IsFunction n) (g : Gap) (us : Items)
      → Reads assigned module_item (it g (items.key (codes "export")) (spaced_word (codes "default") (function_word (is_generator is) (is_async is) blank (function_name_tokens i (function_tokens is 0 us)))))
      (bare kind.ExportDefaultDecl (bare kind.FnExpr (bare_function_name i ∷ bare_function is ∷ []) ∷ []) ∷ []) us
  unfolding export export_default
  export_default_function_read i (shapes.function_of at at' x y ps ws b a a') g us =
      let I = interp assigned (means assigned) in
      let e = function_word x y blank (function_name_tokens i (function_tokens (shapes.function_of at at' x y ps ws b a a') 0 us)) in
      let ts = it g (items.key (codes "export")) (spaced_word (codes "default") e) in
      export_item assigned g (spaced_word (codes "default") e) _ us refl
      (ap (or_on (I (without 1 export)) ts)
      (ap (or_on (I (without 1 export_default)) ts)
      (ap (built_on (form.Node plain.ExportDefaultDecl)) (ap (with_front []) (ap (with_front []) (ap (or_on (I (class_expression // marked abstract_class_expression // marked interface)) e)
      (default_function_read assigned ps 0 (argument_forms assigned ps 0) (block_form assigned b 0) x y i blank us)))))))

  pub export_default_class_read : {m n : Node} (i : IsFunctionName m) (is : IsClass n) (g : Gap) (us : Items)
      → Reads assigned module_item (it g (items.key (codes "export")) (spaced_word (codes "default") (spaced_word (codes "class") (function_name_tokens i (class_tokens is 0 us)))))
      (bare kind.ExportDefaultDecl (bare kind.ClassExpr (bare_function_name i ∷ bare_class is ∷ []) ∷ []) ∷ []) us
  unfolding export export_default default_function
  export_default_class_read i (shapes.class_of at at' at'' {ms = ms'} h ms a a') g us =
      let I = interp assigned (means assigned) in
      let e = spaced_word (codes "class") (function_name_tokens i (class_tokens (shapes.class_of at at' at'' h ms a a') 0 us)) in
      let ts = it g (items.key (codes "export")) (spaced_word (codes "default") e) in
      export_item assigned g (spaced_word (codes "default") e) _ us refl
      (ap (or_on (I (without 1 export)) ts)
      (ap (or_on (I (without 1 export_default)) ts)
      (ap (built_on (form.Node plain.ExportDefaultDecl)) (ap (with_front []) (ap (with_front []) (ap (or_on (I (marked abstract_class_expression // marked interface)) e)
      (class_expression_read assigned (member_forms assigned ms 1) (closing_gap ms' 0) h 0 (heritage_form assigned h 0) i blank us)))))))
