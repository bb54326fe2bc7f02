-- Each form of expression is read as it is laid out.
use Rattle.std.proofs.Common.{◌≡◌, ℕ, ◌-◌, Bool, true, false, List, [], ◌∷◌, length, codes, refl, ap, ◌∙◌, Some, ap₂, arith}
use Rattle.ecma_number.specs.Numeral.{numeral_of}
use Rattle.ecma_lex.specs.Text.{piece}
use Rattle.ecma_lex.specs.Keys.{is_reserved, reserved_words}
use Rattle.ecma_lex.specs.Strings.{str_value}
use Rattle.ecma_kind.specs.declared.kind.Kind.{Kind}
use Rattle.ecma_kind.specs.declared.kind.Kind.TheVariants as kind
use Rattle.ecma_tree.specs.declared.node.Node.{Node}
use Rattle.ecma_tree.specs.Nodes.{absent}
use Rattle.ecma_grammar.specs.declared.production.Part.TheVariants as part
use Rattle.ecma_grammar.specs.declared.production.Leaf.TheVariants as leaf
use Rattle.ecma_grammar.specs.declared.production.Form.TheVariants as form
use Rattle.ecma_grammar.specs.Grammar.{Grammar, keep, ◌▸◌, punct}
use Rattle.ecma_grammar.specs.productions.Names as names
use Rattle.ecma_grammar.specs.productions.Types.{param, default_value, rest_pattern}
use Rattle.ecma_grammar.specs.productions.Patterns.{pattern_body, array_pattern, object_pattern}
use Rattle.ecma_grammar.specs.productions.Functions as functions
use Rattle.ecma_grammar.specs.productions.Classes as classes
use Rattle.ecma_grammar.specs.productions.Declarations as declarations
use Rattle.ecma_grammar.specs.productions.Statements as statements
use Rattle.ecma_grammar.specs.productions.Modules as modules
use Rattle.ecma_grammar.specs.productions.Functions.{arrow, arrow_rest, arrow_body, function_expression}
use Rattle.ecma_grammar.specs.productions.Primary as primaries
use Rattle.ecma_grammar.specs.productions.Primary.{primary, parenthesized, class_expression}
use Rattle.ecma_grammar.specs.productions.Operators.{prefixed, factors, terms, shifts, relations, equalities}
use Rattle.ecma_grammar.specs.productions.Expressions.{assignments}
use Rattle.ecma_grammar.specs.productions.Chains as chains
use Rattle.ecma_grammar.specs.productions.Chains.{links, super_of_link, import_meta, import_call, construction, new_links, super_of_member}
use Rattle.ecma_grammar.specs.productions.Statements.{labeled}
use Rattle.ecma_grammar.specs.Reads.{without_separators}
use Rattle.ecma_print_tokens.specs.Items as items
use Rattle.ecma_print_tokens.specs.Items.{Tok, sign, Gap, no_gap, Items, it}
use Rattle.ecma_print_tokens.specs.Taking.{leaf_kind}
use Rattle.ecma_print_readings.proofs.Machine.{read, with_front, followed_on, built_on, interp, means}
use Rattle.ecma_shapes.specs.Shapes as shapes
use Rattle.ecma_shapes.proofs.Signs.{blank}
use Rattle.ecma_shapes.proofs.Bare.{bare}
use Rattle.ecma_shapes.specs.Shapes.{IsRegex}
use Rattle.ecma_shapes.specs.LiteralTexts.{regex_text}
use Rattle.ecma_print_readings.proofs.Levels.{means_is}
use Rattle.ecma_grammar.specs.Made.{made}
use Rattle.ecma_print_readings.proofs.Fronts.{is_known, Front, exactly, a_name, Begins, at_token, at_name, IsName, front_of, refuses_at, refused_at, refuses_all, all_refused}
use Rattle.ecma_print_readings.proofs.Towers.{Tower, here, later, sooner, climb, Opens, Starts, Ends, refuses_choices, skipped}
use Rattle.ecma_print_readings.proofs.Forms.{Laid, s, heads, Reads, Refuses, ends_no_item, begins_no_target, AsParam, item_refused, whole_item, Form, new_heads, NewForm, no_item_at, no_arrow_at}
use Rattle.ecma_print_readings.proofs.Bindings.{Stands, expression_read}
use Rattle.ecma_print_readings.proofs.Params.{params_end, parameters_refused, no_body_behind}
use Rattle.ecma_print_readings.proofs.Pieces.{piece_between, piece_behind}

-- what a primary expression begins with: nothing else of a chain does
pub record IsPrimary (f : Front) : Type 0 where
  pub no_head : refuses_choices 4 f heads ≡ true
  pub no_new_head : refuses_choices 3 f new_heads ≡ true

name_primary : IsPrimary a_name
unfolding super_of_member super_of_link import_meta import_call construction is_reserved reserved_words
name_primary = record { no_head = refl; no_new_head = refl }

name_starts : Starts a_name
unfolding statements.statement_body names.block statements.if_ statements.for_await statements.for_ statements.while_ statements.do_while statements.switch statements.try_ statements.jump modules.module_item modules.import modules.import_equals modules.export modules.export_default is_reserved reserved_words
name_starts = record { no_statement = refl; no_item = refl }

pub name_opens : Opens a_name
unfolding prefixed is_reserved reserved_words
name_opens = record { no_spread = refl; no_yield = refl; no_private = refl; no_prefix = refl; no_increment = refl; no_decrement = refl }

name_tower : (k : Front) → Tower a_name k (keep leaf.Ident) primary
unfolding super_of_member super_of_link import_meta import_call construction primary function_expression class_expression is_reserved reserved_words
name_tower k = later refl (later refl (later refl (later refl (later refl (later refl (sooner here))))))

async_known : is_known (codes "async") ≡ true
unfolding is_reserved reserved_words
async_known = refl

-- a token by itself, of which the grammar makes one node
pub record Single (t : Tok) (k : Kind) : Type 0 where
  pub leaf_of : Grammar
  pub tower : (e : Front) → Tower (exactly t) e leaf_of primary
  pub apart : IsPrimary (exactly t)
  pub opens : Opens (exactly t)
  pub starts : Starts (exactly t)
  pub no_arrow : refuses_at (exactly t) (arrow false false) ≡ true
  pub no_label : refuses_at (exactly t) labeled ≡ true
  pub no_param : refuses_all (exactly t) param ≡ true
  pub no_end : ends_no_item (exactly t) ≡ true
  pub taken : (assigned : Bool) (g : Gap) (us : Items) → interp assigned (means assigned) leaf_of (it g t us) ≡ read (bare k [] ∷ []) us

pub string_single : (raw : List ℕ) → Single (items.string raw) (kind.Str (str_value (piece raw 1 (length raw - 1))) (Some raw))
unfolding super_of_member super_of_link import_meta import_call construction primary function_expression class_expression prefixed arrow arrow_rest labeled param rest_pattern default_value pattern_body array_pattern object_pattern names.binding_ident statements.statement_body names.block statements.if_ statements.for_await statements.for_ statements.while_ statements.do_while statements.switch statements.try_ statements.jump declarations.declaration functions.function_declaration classes.class_declaration modules.module_item modules.import modules.import_equals modules.export modules.export_default
string_single raw = record {
  leaf_of = keep leaf.Str;
  tower = λ e. later refl (later refl (later refl (later refl (later refl (later refl (later refl (later refl (later refl (sooner here)))))))));
  apart = record { no_head = refl; no_new_head = refl };
  opens = record { no_spread = refl; no_yield = refl; no_private = refl; no_prefix = refl; no_increment = refl; no_decrement = refl };
  starts = record { no_statement = refl; no_item = refl };
  no_arrow = refl;
  no_label = refl;
  no_param = refl;
  no_end = refl;
  taken = λ assigned g us. refl;
}

pub number_single : (raw : List ℕ) → Single (items.number raw) (kind.Number (numeral_of raw) (Some raw))
unfolding super_of_member super_of_link import_meta import_call construction primary function_expression class_expression prefixed arrow arrow_rest labeled param rest_pattern default_value pattern_body array_pattern object_pattern names.binding_ident is_reserved reserved_words statements.statement_body names.block statements.if_ statements.for_await statements.for_ statements.while_ statements.do_while statements.switch statements.try_ statements.jump declarations.declaration functions.function_declaration classes.class_declaration modules.module_item modules.import modules.import_equals modules.export modules.export_default
number_single raw = record {
  leaf_of = keep leaf.Number;
  tower = λ e. later refl (later refl (later refl (later refl (later refl (later refl (later refl (sooner here)))))));
  apart = record { no_head = refl; no_new_head = refl };
  opens = record { no_spread = refl; no_yield = refl; no_private = refl; no_prefix = refl; no_increment = refl; no_decrement = refl };
  starts = record { no_statement = refl; no_item = refl };
  no_arrow = refl;
  no_label = refl;
  no_param = refl;
  no_end = refl;
  taken = λ assigned g us. refl;
}

pub this_single : Single (items.key (codes "this")) kind.ThisExpr
unfolding super_of_member super_of_link import_meta import_call construction primary function_expression class_expression prefixed arrow arrow_rest labeled param rest_pattern default_value pattern_body array_pattern object_pattern names.binding_ident is_reserved reserved_words statements.statement_body names.block statements.if_ statements.for_await statements.for_ statements.while_ statements.do_while statements.switch statements.try_ statements.jump declarations.declaration functions.function_declaration classes.class_declaration modules.module_item modules.import modules.import_equals modules.export modules.export_default
this_single = record {
  leaf_of = keep leaf.This;
  tower = λ e. later refl (later refl (sooner here));
  apart = record { no_head = refl; no_new_head = refl };
  opens = record { no_spread = refl; no_yield = refl; no_private = refl; no_prefix = refl; no_increment = refl; no_decrement = refl };
  starts = record { no_statement = refl; no_item = refl };
  no_arrow = refl;
  no_label = refl;
  no_param = refl;
  no_end = refl;
  taken = λ assigned g us. refl;
}

pub big_int_single : (raw : List ℕ) → Single (items.big_int raw) (kind.BigInt (without_separators (piece raw 0 (length raw - 1))) (Some raw))
unfolding super_of_member super_of_link import_meta import_call construction primary function_expression class_expression prefixed arrow arrow_rest labeled param rest_pattern default_value pattern_body array_pattern object_pattern names.binding_ident is_reserved reserved_words statements.statement_body names.block statements.if_ statements.for_await statements.for_ statements.while_ statements.do_while statements.switch statements.try_ statements.jump declarations.declaration functions.function_declaration classes.class_declaration modules.module_item modules.import modules.import_equals modules.export modules.export_default
big_int_single raw = record {
  leaf_of = keep leaf.BigInt;
  tower = λ e. later refl (later refl (later refl (later refl (later refl (later refl (later refl (later refl (sooner here))))))));
  apart = record { no_head = refl; no_new_head = refl };
  opens = record { no_spread = refl; no_yield = refl; no_private = refl; no_prefix = refl; no_increment = refl; no_decrement = refl };
  starts = record { no_statement = refl; no_item = refl };
  no_arrow = refl;
  no_label = refl;
  no_param = refl;
  no_end = refl;
  taken = λ assigned g us. refl;
}

pub null_single : Single (items.key (codes "null")) kind.Null
unfolding super_of_member super_of_link import_meta import_call construction primary function_expression class_expression prefixed arrow arrow_rest labeled param rest_pattern default_value pattern_body array_pattern object_pattern names.binding_ident is_reserved reserved_words statements.statement_body names.block statements.if_ statements.for_await statements.for_ statements.while_ statements.do_while statements.switch statements.try_ statements.jump declarations.declaration functions.function_declaration classes.class_declaration modules.module_item modules.import modules.import_equals modules.export modules.export_default
null_single = record {
  leaf_of = keep leaf.Null;
  tower = λ e. later refl (later refl (later refl (sooner here)));
  apart = record { no_head = refl; no_new_head = refl };
  opens = record { no_spread = refl; no_yield = refl; no_private = refl; no_prefix = refl; no_increment = refl; no_decrement = refl };
  starts = record { no_statement = refl; no_item = refl };
  no_arrow = refl;
  no_label = refl;
  no_param = refl;
  no_end = refl;
  taken = λ assigned g us. refl;
}

pub true_single : Single (items.key (codes "true")) (kind.Bool true)
unfolding super_of_member super_of_link import_meta import_call construction primary function_expression class_expression prefixed arrow arrow_rest labeled param rest_pattern default_value pattern_body array_pattern object_pattern names.binding_ident is_reserved reserved_words statements.statement_body names.block statements.if_ statements.for_await statements.for_ statements.while_ statements.do_while statements.switch statements.try_ statements.jump declarations.declaration functions.function_declaration classes.class_declaration modules.module_item modules.import modules.import_equals modules.export modules.export_default
true_single = record {
  leaf_of = keep leaf.True;
  tower = λ e. later refl (later refl (later refl (later refl (sooner here))));
  apart = record { no_head = refl; no_new_head = refl };
  opens = record { no_spread = refl; no_yield = refl; no_private = refl; no_prefix = refl; no_increment = refl; no_decrement = refl };
  starts = record { no_statement = refl; no_item = refl };
  no_arrow = refl;
  no_label = refl;
  no_param = refl;
  no_end = refl;
  taken = λ assigned g us. refl;
}

pub false_single : Single (items.key (codes "false")) (kind.Bool false)
unfolding super_of_member super_of_link import_meta import_call construction primary function_expression class_expression prefixed arrow arrow_rest labeled param rest_pattern default_value pattern_body array_pattern object_pattern names.binding_ident is_reserved reserved_words statements.statement_body names.block statements.if_ statements.for_await statements.for_ statements.while_ statements.do_while statements.switch statements.try_ statements.jump declarations.declaration functions.function_declaration classes.class_declaration modules.module_item modules.import modules.import_equals modules.export modules.export_default
false_single = record {
  leaf_of = keep leaf.False;
  tower = λ e. later refl (later refl (later refl (later refl (later refl (sooner here)))));
  apart = record { no_head = refl; no_new_head = refl };
  opens = record { no_spread = refl; no_yield = refl; no_private = refl; no_prefix = refl; no_increment = refl; no_decrement = refl };
  starts = record { no_statement = refl; no_item = refl };
  no_arrow = refl;
  no_label = refl;
  no_param = refl;
  no_end = refl;
  taken = λ assigned g us. refl;
}

-- of the token of a regular expression its body and its flags are kept
regex_made : (body flags : List ℕ) → IsRegex body flags → leaf_kind leaf.Regex (regex_text body flags) ≡ kind.Regex body flags
regex_made body flags t =
    let w = t.whole in
    rw (t.ends) (ap₂ kind.Regex (piece_between 47 47 body flags (omega arith) (omega arith) w.utf8) (piece_behind 47 47 body flags (omega arith) (omega arith) w.utf8))

pub regex_single : (body flags : List ℕ) → IsRegex body flags → Single (items.regex (regex_text body flags)) (kind.Regex body flags)
unfolding super_of_member super_of_link import_meta import_call construction primary function_expression class_expression prefixed arrow arrow_rest labeled param rest_pattern default_value pattern_body array_pattern object_pattern names.binding_ident statements.statement_body names.block statements.if_ statements.for_await statements.for_ statements.while_ statements.do_while statements.switch statements.try_ statements.jump declarations.declaration functions.function_declaration classes.class_declaration modules.module_item modules.import modules.import_equals modules.export modules.export_default
regex_single body flags t = record {
  leaf_of = keep leaf.Regex;
  tower = λ e. later refl (later refl (later refl (later refl (later refl (later refl (later refl (later refl (later refl (later refl (sooner here))))))))));
  apart = record { no_head = refl; no_new_head = refl };
  opens = record { no_spread = refl; no_yield = refl; no_private = refl; no_prefix = refl; no_increment = refl; no_decrement = refl };
  starts = record { no_statement = refl; no_item = refl };
  no_arrow = refl;
  no_label = refl;
  no_param = refl;
  no_end = refl;
  taken = λ assigned g us. ap (λ k. read (bare k [] ∷ []) us) (regex_made body flags t);
}

pub parenthesis_ends : Ends (exactly (sign (codes ")")))
unfolding factors terms shifts relations equalities assignments links chains.template_start arrow_rest names.binding_ident
parenthesis_ends = refl

pub comma_ends : Ends (exactly (sign (codes ",")))
unfolding factors terms shifts relations equalities assignments links chains.template_start arrow_rest names.binding_ident
comma_ends = refl

pub semicolon_ends : Ends (exactly (sign (codes ";")))
unfolding factors terms shifts relations equalities assignments links chains.template_start arrow_rest names.binding_ident
semicolon_ends = refl

module _ (assigned : Bool) where
  -- what begins a chain, and the links behind it
  pub head_read : (f : Front) (ts us : Items) (x : Node) → IsPrimary f → Begins f ts → Reads assigned primary ts (x ∷ []) us → (ys : List Node) (vs : Items) → Reads assigned links us ys vs → Reads assigned (heads ▸ links) ts (x ∷ ys) vs
  head_read f ts us x i b h ys vs e = ap (followed_on (interp assigned (means assigned) links)) (skipped assigned (means assigned) 4 heads f ts b i.no_head ∙ h) ∙ ap (with_front (x ∷ [])) e

  pub new_head_read : (f : Front) (ts us : Items) (x : Node) → IsPrimary f → Begins f ts → Reads assigned primary ts (x ∷ []) us → (ys : List Node) (vs : Items) → Reads assigned new_links us ys vs → Reads assigned (new_heads ▸ new_links) ts (x ∷ ys) vs
  new_head_read f ts us x i b h ys vs e = ap (followed_on (interp assigned (means assigned) new_links)) (skipped assigned (means assigned) 3 new_heads f ts b i.no_new_head ∙ h) ∙ ap (with_front (x ∷ [])) e

  pub primary_by : (f : Front) (base : Grammar) (ts us : Items) (x : Node) → ((k : Front) → Tower f k base primary) → Begins f ts → Reads assigned base ts (x ∷ []) us → Reads assigned primary ts (x ∷ []) us
  primary_by f base ts us x t b h = let k = front_of us in climb assigned (means assigned) (t k.0) ts us x b k.1 h

  -- no parameter begins there, and nothing ends there
  pub no_param_at : (f : Front) (ts us : Items) → Begins f ts → refuses_all f param ≡ true → ends_no_item f ≡ true → AsParam assigned ts us
  no_param_at f ts us b e z = item_refused (all_refused assigned param f ts b e) f b z

  single_read : (t : Tok) (k : Kind) → Single t k → (g : Gap) (us : Items) → Reads assigned primary (it g t us) (bare k [] ∷ []) us
  single_read t k S g us = primary_by (exactly t) S.leaf_of (it g t us) us (bare k []) S.tower at_token (S.taken assigned g us)

  pub single_form : (t : Tok) (k : Kind) → Single t k → Form assigned (λ g us. it g t us) k []
  single_form t k S = record {
    front = exactly t;
    begins = λ g us. at_token;
    opens = S.opens;
    no_statement = (let s = S.starts in s.no_statement);
    no_item = λ g us. (let s = S.starts in no_item_at assigned (exactly t) (it g t us) at_token s.no_item);
    pieces = bare k [] ∷ [];
    own = λ g us e b z ys vs h. head_read (exactly t) (it g t us) us (bare k []) S.apart at_token (single_read t k S g us) ys vs h;
    whole = refl;
    no_arrow = λ n g us e b z r. refused_at assigned (means assigned) (arrow n false) (exactly t) (it g t us) at_token (no_arrow_at (exactly t) S.no_arrow n);
    no_label = λ g us e b z. refused_at assigned (means assigned) labeled (exactly t) (it g t us) at_token S.no_label;
    as_param = λ g us e b z. no_param_at (exactly t) (it g t us) us at_token S.no_param S.no_end;
    with_default = λ g ts us n h. no_param_at (exactly t) (it g t (it blank (sign (codes "=")) ts)) us at_token S.no_param S.no_end;
  }

  pub single_new : (t : Tok) (k : Kind) → Single t k → begins_no_target (exactly t) ≡ true → NewForm assigned (λ g us. it g t us) k []
  unfolding single_form
  single_new t k S p = record { form = single_form t k S; no_point = p; own = λ g us e b z ys vs h. new_head_read (exactly t) (it g t us) us (bare k []) S.apart at_token (single_read t k S g us) ys vs h }

  -- a name that might be a parameter, a label or what an arrow function begins with

  abbrev parameter : List ℕ → Node
  parameter w = made form.Param 0 0 (absent ∷ made form.Chain 0 0 (made form.Annotated 0 0 (bare kind.BindingIdent (bare (kind.Ident w 0 false) [] ∷ absent ∷ []) ∷ absent ∷ absent ∷ []) ∷ []) ∷ [])

  parameter_read : (w : List ℕ) → is_reserved w ≡ false → (g : Gap) (us : Items) (e : Front) → Begins e us → refuses_at e (punct (codes "=")) ≡ true → Reads assigned param (it g (items.key w) us) (parameter w ∷ []) us
  unfolding param rest_pattern default_value pattern_body names.binding_ident
  parameter_read w n g us e b y = rw (means_is assigned part.Pattern (it g (items.key w) us), n, refused_at assigned (means assigned) (punct (codes "=")) e us b y) refl

  pub name_as_param : (w : List ℕ) → is_reserved w ≡ false → (g : Gap) (us : Items) (e : Front) → Begins e us → refuses_at e (punct (codes "=")) ≡ true → AsParam assigned (it g (items.key w) us) us
  name_as_param w n g us e b y = whole_item (parameter w ∷ []) (parameter_read w n g us e b y)

  abbrev defaulted : List ℕ → Node → Node
  defaulted w n =
      made form.Param 0 0 (absent ∷ made form.Chain 0 0 (made form.Annotated 0 0 (bare kind.BindingIdent (bare (kind.Ident w 0 false) [] ∷ absent ∷ []) ∷ absent ∷ absent ∷ []) ∷ bare kind.AssignPat (absent ∷ n ∷ []) ∷ []) ∷ [])

  default_read : (w : List ℕ) → is_reserved w ≡ false → (g : Gap) (ts us : Items) (n : Node) → means assigned (part.Assign false false) ts ≡ read (n ∷ []) us → Reads assigned param (it g (items.key w) (it blank (sign (codes "=")) ts)) (defaulted w n ∷ []) us
  unfolding param rest_pattern default_value pattern_body names.binding_ident
  default_read w z g ts us n h = rw (means_is assigned part.Pattern (it g (items.key w) (it blank (sign (codes "=")) ts)), z, h) refl

  pub name_with_default : (w : List ℕ) → is_reserved w ≡ false → (g : Gap) (ts us : Items) (n : Node) → means assigned (part.Assign false false) ts ≡ read (n ∷ []) us → AsParam assigned (it g (items.key w) (it blank (sign (codes "=")) ts)) us
  name_with_default w z g ts us n h = whole_item (defaulted w n ∷ []) (default_read w z g ts us n h)

  pub name_no_rest : (w : List ℕ) → is_reserved w ≡ false → (no_in : Bool) (g : Gap) (us : Items) (e : Front) → Begins e us → refuses_at e (arrow_body no_in false) ≡ true → Refuses assigned (arrow_rest no_in false) (it g (items.key w) us)
  unfolding arrow_rest names.binding_ident
  name_no_rest w n no_in g us e b z = rw (n, refused_at assigned (means assigned) (arrow_body no_in false) e us b z) refl

  name_no_arrow : (w : List ℕ) → IsName w → (no_in : Bool) (g : Gap) (us : Items) (e : Front) → Begins e us → refuses_at e (arrow_body no_in false) ≡ true → Refuses assigned (arrow_rest no_in false) us → Refuses assigned (arrow no_in false) (it g (items.key w) us)
  unfolding arrow arrow_rest names.binding_ident
  name_no_arrow w n no_in g us e b z r = rw (n.apart (codes "async") async_known, n.free, refused_at assigned (means assigned) (arrow_body no_in false) e us b z) refl

  pub name_no_label : (w : List ℕ) → is_reserved w ≡ false → (g : Gap) (us : Items) (e : Front) → Begins e us → refuses_at e (punct (codes ":")) ≡ true → Refuses assigned labeled (it g (items.key w) us)
  unfolding labeled
  name_no_label w n g us e b z = rw (n, refused_at assigned (means assigned) (punct (codes ":")) e us b z) refl

  name_read : (w : List ℕ) → IsName w → (g : Gap) (us : Items) → Reads assigned primary (it g (items.key w) us) (bare (kind.Ident w 0 false) [] ∷ []) us
  name_read w n g us = primary_by a_name (keep leaf.Ident) (it g (items.key w) us) us (bare (kind.Ident w 0 false) []) name_tower (at_name n) (rw n.free refl)

  pub name_form : (w : List ℕ) → IsName w → Form assigned (λ g us. it g (items.key w) us) (kind.Ident w 0 false) []
  name_form w n = record {
    front = a_name;
    begins = λ g us. at_name n;
    opens = name_opens;
    no_statement = (let s = name_starts in s.no_statement);
    no_item = λ g us. (let s = name_starts in no_item_at assigned a_name (it g (items.key w) us) (at_name n) s.no_item);
    pieces = bare (kind.Ident w 0 false) [] ∷ [];
    own = λ g us e b z ys vs h. head_read a_name (it g (items.key w) us) us (bare (kind.Ident w 0 false) []) name_primary (at_name n) (name_read w n g us) ys vs h;
    whole = refl;
    no_arrow = name_no_arrow w n;
    no_label = name_no_label w n.free;
    as_param = name_as_param w n.free;
    with_default = name_with_default w n.free;
  }

  pub name_new : (w : List ℕ) → IsName w → NewForm assigned (λ g us. it g (items.key w) us) (kind.Ident w 0 false) []
  unfolding name_form
  name_new w n = record { form = name_form w n; no_point = refl; own = λ g us e b z ys vs h. new_head_read a_name (it g (items.key w) us) us (bare (kind.Ident w 0 false) []) name_primary (at_name n) (name_read w n g us) ys vs h }

  -- parentheses

  abbrev opening : Front
  opening = exactly (sign (codes "("))

  parenthesis_primary : IsPrimary opening
  unfolding super_of_member super_of_link import_meta import_call construction
  parenthesis_primary = record { no_head = refl; no_new_head = refl }

  parenthesis_tower : (e : Front) → Tower opening e parenthesized primary
  unfolding super_of_member super_of_link import_meta import_call construction primary function_expression class_expression primaries.template primaries.array primaries.object
  parenthesis_tower e = later refl (later refl (later refl (later refl (later refl (later refl (later refl (later refl (later refl (later refl (later refl (later refl (later refl (later refl here)))))))))))))

  module _ {f : Laid} {k : Kind} {ns : List Node} (S : Stands assigned shapes.sequence f k ns) where
    parenthesized_read : (g : Gap) (us : Items) → Reads assigned parenthesized (it g (sign (codes "(")) (f no_gap (s (codes ")") us))) (bare kind.ParenExpr (bare k ns ∷ []) ∷ []) us
    unfolding parenthesized
    parenthesized_read g us = rw (expression_read assigned S no_gap (s (codes ")") us) (exactly (sign (codes ")"))) at_token parenthesis_ends refl) refl

    whole_read : (g : Gap) (us : Items) → Reads assigned primary (it g (sign (codes "(")) (f no_gap (s (codes ")") us))) (bare kind.ParenExpr (bare k ns ∷ []) ∷ []) us
    whole_read g us = primary_by opening parenthesized (it g (sign (codes "(")) (f no_gap (s (codes ")") us))) us (bare kind.ParenExpr (bare k ns ∷ [])) parenthesis_tower at_token (parenthesized_read g us)

    parenthesized_no_arrow : (no_in : Bool) (g : Gap) (us : Items) (e : Front) → Begins e us → refuses_at e (arrow_body no_in false) ≡ true → Refuses assigned (arrow_rest no_in false) us → Refuses assigned (arrow no_in false) (it g (sign (codes "(")) (f no_gap (s (codes ")") us)))
    unfolding arrow
    parenthesized_no_arrow n g us e b z r =
        let end = s (codes ")") us in
        let rest = params_end assigned n end (exactly (sign (codes ")"))) at_token refl (no_body_behind assigned n us e b z) in
        ap (built_on form.Arrow) (ap (with_front (absent ∷ [])) (parameters_refused assigned n g (f no_gap end) (S.param no_gap end (exactly (sign (codes ")"))) at_token (refl, parenthesis_ends) n rest)))

    pub parenthesized_form : Form assigned (λ g us. it g (sign (codes "(")) (f no_gap (s (codes ")") us))) kind.ParenExpr (bare k ns ∷ [])
    unfolding prefixed labeled param rest_pattern default_value pattern_body array_pattern object_pattern names.binding_ident statements.statement_body names.block statements.if_ statements.for_await statements.for_ statements.while_ statements.do_while statements.switch statements.try_ statements.jump declarations.declaration functions.function_declaration classes.class_declaration modules.module_item modules.import modules.import_equals modules.export modules.export_default
    parenthesized_form = record {
      front = opening;
      begins = λ g us. at_token;
      opens = record { no_spread = refl; no_yield = refl; no_private = refl; no_prefix = refl; no_increment = refl; no_decrement = refl };
      no_statement = refl;
      no_item = λ g us. no_item_at assigned opening (it g (sign (codes "(")) (f no_gap (s (codes ")") us))) at_token refl;
      pieces = bare kind.ParenExpr (bare k ns ∷ []) ∷ [];
      own = λ g us e b z ys vs h. head_read opening (it g (sign (codes "(")) (f no_gap (s (codes ")") us))) us (bare kind.ParenExpr (bare k ns ∷ [])) parenthesis_primary at_token (whole_read g us) ys vs h;
      whole = refl;
      no_arrow = parenthesized_no_arrow;
      no_label = λ g us e b z. refused_at assigned (means assigned) labeled opening (it g (sign (codes "(")) (f no_gap (s (codes ")") us))) at_token refl;
      as_param = λ g us e b z. no_param_at opening (it g (sign (codes "(")) (f no_gap (s (codes ")") us))) us at_token refl refl;
      with_default = λ g ts us n h. no_param_at opening (it g (sign (codes "(")) (f no_gap (s (codes ")") (it blank (sign (codes "=")) ts)))) us at_token refl refl;
    }

    pub parenthesized_new : NewForm assigned (λ g us. it g (sign (codes "(")) (f no_gap (s (codes ")") us))) kind.ParenExpr (bare k ns ∷ [])
    unfolding parenthesized_form
    parenthesized_new = record {
      form = parenthesized_form;
      no_point = refl;
      own = λ g us e b z ys vs h. new_head_read opening (it g (sign (codes "(")) (f no_gap (s (codes ")") us))) us (bare kind.ParenExpr (bare k ns ∷ [])) parenthesis_primary at_token (whole_read g us) ys vs h;
    }
