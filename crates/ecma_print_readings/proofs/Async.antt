-- The name `async`, where neither a function nor an arrow function follows.
use Rattle.std.proofs.Common.{◌≡◌, ℕ, Bool, true, false, List, [], ◌∷◌, codes, refl, ap, ◌∙◌, if◌then◌else◌}
use Rattle.ecma_lex.specs.Keys.{is_reserved, reserved_words}
use Rattle.ecma_kind.specs.declared.kind.Kind.TheVariants as kind
use Rattle.ecma_grammar.specs.declared.production.Leaf.TheVariants as leaf
use Rattle.ecma_grammar.specs.declared.production.Plain.TheVariants as plain
use Rattle.ecma_grammar.specs.declared.production.Form.{Form as Made}
use Rattle.ecma_grammar.specs.declared.production.Form.TheVariants as form
use Rattle.ecma_grammar.specs.declared.production.Flag.TheVariants.{Absent, Present}
use Rattle.ecma_grammar.specs.trees.Parts.{flag_node}
use Rattle.ecma_grammar.specs.Grammar.{Grammar, same_line, keep, put, ◌▸◌, build, word, punct, maybe, whether}
use Rattle.ecma_grammar.specs.productions.Names as names
use Rattle.ecma_grammar.specs.productions.Names.{ident}
use Rattle.ecma_grammar.specs.productions.Functions as functions
use Rattle.ecma_grammar.specs.productions.Functions.{arrow, arrow_rest, arrow_body, function_with, function_expression, signature, full_signature}
use Rattle.ecma_grammar.specs.productions.Primary.{primary, class_expression}
use Rattle.ecma_grammar.specs.productions.Operators.{prefixed}
use Rattle.ecma_grammar.specs.productions.Chains.{super_of_member, super_of_link, import_meta, import_call, construction}
use Rattle.ecma_grammar.specs.productions.Classes as classes
use Rattle.ecma_grammar.specs.productions.Declarations.{declaration}
use Rattle.ecma_grammar.specs.productions.Statements as statements
use Rattle.ecma_grammar.specs.productions.Modules as modules
use Rattle.ecma_print_tokens.specs.Items as items
use Rattle.ecma_print_tokens.specs.Items.{Gap, Items, it}
use Rattle.ecma_print_tokens.specs.Taking.{new_line_in}
use Rattle.ecma_print_readings.proofs.Machine.{read, fails, with_front, followed_on, or_on, built_on, interp, means, without}
use Rattle.ecma_print_readings.proofs.Fronts.{Front, exactly, Begins, at_token, front_of, refuses_at, refused_at}
use Rattle.ecma_print_readings.proofs.Towers.{Tower, later, sooner, here, climb, excluded, Opens, Starts}
use Rattle.ecma_print_readings.proofs.Heads.{bare}
use Rattle.ecma_print_readings.proofs.Forms.{Reads, Refuses, Form, NewForm, no_item_at}
use Rattle.ecma_print_readings.proofs.Expressions.{IsPrimary, head_read, new_head_read, name_as_param, name_with_default, name_no_rest, name_no_label}

abbrev async : List ℕ
async = codes "async"

abbrev pub front : Front
front = exactly (items.key async)

async_free : is_reserved async ≡ false
unfolding is_reserved reserved_words
async_free = refl

async_starts : Starts front
unfolding statements.statement_body names.block statements.if_ statements.for_await statements.for_ statements.while_ statements.do_while statements.switch statements.try_ statements.jump modules.module_item modules.import modules.import_equals modules.export modules.export_default
async_starts = record { no_statement = refl; no_item = refl }

async_opens : Opens front
unfolding prefixed
async_opens = record { no_spread = refl; no_yield = refl; no_private = refl; no_prefix = refl; no_increment = refl; no_decrement = refl }

pub async_primary : IsPrimary front
unfolding super_of_member super_of_link import_meta import_call construction
async_primary = record { no_head = refl; no_new_head = refl }

-- behind a function expression
primary_tower : (k : Front) → Tower front k (keep leaf.Ident) (without 1 primary)
unfolding primary class_expression is_reserved reserved_words
primary_tower k = later refl (later refl (later refl (later refl (later refl (sooner here)))))

module _ (assigned : Bool) where
  on_line : (b : Bool) (x : Grammar) (us : Items) → Refuses assigned x us → followed_on (interp assigned (means assigned) x) (if b then fails else read [] us) ≡ fails
  on_line true x us h = refl
  on_line false x us h = ap (with_front []) h

  -- `async`, and on its line what does not stand there
  async_refused : (x : Grammar) (g : Gap) (us : Items) → Refuses assigned x us → Refuses assigned (word async ▸ same_line ▸ x) (it g (items.key async) us)
  async_refused x g us h = ap (with_front []) (on_line (new_line_in us) x us h)

  module _ (g : Gap) (us : Items) where
    abbrev ts : Items
    ts = it g (items.key async) us

    -- where no `function` follows
    module _ (h : Refuses assigned (word (codes "function")) us) where
      function_refused : (k : Made) (name signed : Grammar) → Refuses assigned (build k (function_with name signed)) ts
      function_refused k name signed =
          let I = interp assigned (means assigned) in
          let none = ap (followed_on (I (put Present))) h in
          ap (built_on k) (ap (followed_on (I (whether (punct (codes "*")) ▸ name ▸ signed))) (ap (or_on (I (word (codes "function") ▸ put Absent)) ts) (async_refused (word (codes "function") ▸ put Present) g us none)))

      pub async_no_declaration : Refuses assigned declaration ts
      unfolding declaration functions.function_declaration classes.class_declaration
      async_no_declaration =
          ap (or_on (interp assigned (means assigned) (without 2 declaration)) ts) (function_refused (form.Function plain.FnDecl) ident signature)
          ∙ refused_at assigned (means assigned) (without 2 declaration) front ts at_token refl

      pub async_no_word : Refuses assigned excluded ts
      async_no_word = async_refused (word (codes "function")) g us h

      async_read : Reads assigned primary ts (bare (kind.Ident async 0 false) [] ∷ []) us
      unfolding primary function_expression is_reserved reserved_words
      async_read =
          let k = front_of us in
          ap (or_on (interp assigned (means assigned) (without 1 primary)) ts) (function_refused (form.Function plain.FnExpr) (maybe ident) full_signature) ∙ climb assigned (means assigned) (primary_tower k.0) ts us (bare (kind.Ident async 0 false) []) at_token k.1 refl

    async_no_arrow : (e : Front) → Begins e us → (no_in : Bool) → refuses_at e (arrow_body no_in false) ≡ true → Refuses assigned (arrow_rest no_in false) us → Refuses assigned (arrow no_in false) ts
    unfolding arrow
    async_no_arrow e b n z r =
        let I = interp assigned (means assigned) in
        ap (or_on (I (build form.Arrow (put Absent ▸ arrow_rest n false))) ts)
        (ap (built_on form.Arrow) (async_refused (put Present ▸ arrow_rest n false) g us (ap (with_front (flag_node Present ∷ [])) r)))
        ∙ ap (built_on form.Arrow) (ap (with_front (flag_node Absent ∷ [])) (name_no_rest assigned async async_free n g us e b z))

  no_function : (us : Items) (e : Front) → Begins e us → refuses_at e (word (codes "function")) ≡ true → Refuses assigned (word (codes "function")) us
  no_function us e b z = refused_at assigned (means assigned) (word (codes "function")) e us b z

  pub async_form : Form assigned (λ g us. it g (items.key async) us) (kind.Ident async 0 false) []
  async_form = record {
    front = front;
    begins = λ g us. at_token;
    opens = async_opens;
    no_statement = (let s = async_starts in s.no_statement);
    no_item = λ g us. (let s = async_starts in no_item_at assigned front (it g (items.key async) us) at_token s.no_item);
    pieces = bare (kind.Ident async 0 false) [] ∷ [];
    own = λ g us e b z ys vs h. head_read assigned front (it g (items.key async) us) us (bare (kind.Ident async 0 false) []) async_primary at_token (async_read g us (no_function us e b z)) ys vs h;
    whole = refl;
    no_arrow = λ n g us e b z r. async_no_arrow g us e b n z r;
    no_label = name_no_label assigned async async_free;
    as_param = name_as_param assigned async async_free;
    with_default = name_with_default assigned async async_free;
  }

  pub async_new : NewForm assigned (λ g us. it g (items.key async) us) (kind.Ident async 0 false) []
  unfolding async_form
  async_new = record { form = async_form; no_point = refl; own = λ g us e b z ys vs h. new_head_read assigned front (it g (items.key async) us) us (bare (kind.Ident async 0 false) []) async_primary at_token (async_read g us (no_function us e b z)) ys vs h }
