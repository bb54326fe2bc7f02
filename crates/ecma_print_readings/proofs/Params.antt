-- What is read of expressions in parentheses as the parameters of an arrow function, and that none is read.
use Rattle.std.proofs.Common.{◌≡◌, Bool, true, false, List, [], ◌∷◌, codes, nat_le, refl, ap, ◌∙◌}
use Rattle.std.proofs.lemmas.Bool.{and_parts}
use Rattle.ecma_tree.specs.declared.node.Node.{Node}
use Rattle.ecma_grammar.specs.declared.production.Form.TheVariants as form
use Rattle.ecma_grammar.specs.Grammar as grammar
use Rattle.ecma_grammar.specs.Grammar.{Grammar, ◌▸◌, optional, punct}
use Rattle.ecma_grammar.specs.productions.Names.{binding_ident}
use Rattle.ecma_grammar.specs.productions.Types.{params, param, rest_pattern, default_value}
use Rattle.ecma_grammar.specs.productions.Functions.{arrow_rest, arrow_body}
use Rattle.ecma_print_tokens.specs.Items.{sign, Gap, Items, it}
use Rattle.ecma_print_readings.proofs.Machine.{with_front, followed_on, or_on, built_on, interp, means}
use Rattle.ecma_print_readings.proofs.Moves.{eats}
use Rattle.ecma_print_readings.proofs.Fronts.{Front, Begins, refuses_at, refused_at}
use Rattle.ecma_print_readings.proofs.Forms.{s, behind_params, Reads, Refuses, ends_no_list, AsParam}
use Rattle.ecma_print_readings.proofs.Repeats.{repeated}
use Rattle.ecma_print_readings.proofs.Further.{more, Lasts, Further, further_end, further_more, Listed, none_listed, some_listed, listed}

more_eat : nat_le 1 (eats (more param)) ≡ true
unfolding param rest_pattern default_value
more_eat = refl

abbrev pub last_comma : Grammar
last_comma = optional (punct (codes ","))

module _ (assigned : Bool) where
  -- where a list may end: a comma or none, and behind it what is said of the end
  pub record Closes (Closed : Items → Type 0) (ts : Items) : Type 0 where
    pub rest : Items
    pub comma : Reads assigned last_comma ts [] rest
    pub closed : Closed rest

  pub no_comma : (Closed : Items → Type 0) (ts : Items) (e : Front) → Begins e ts → refuses_at e (punct (codes ",")) ≡ true → Closed ts → Closes Closed ts
  no_comma Closed ts e b c h = record {
    rest = ts;
    comma = ap (or_on (interp assigned (means assigned) grammar.nothing) ts) (refused_at assigned (means assigned) (punct (codes ",")) e ts b c);
    closed = h;
  }

  pub closing : (item : Grammar) (Closed : Items → Type 0) → nat_le 1 (eats (more item)) ≡ true → ((ts : Items) (e : Front) → Begins e ts → ends_no_list e ≡ true → Closed ts) → Lasts assigned item (Closes Closed)
  closing item Closed eat astray = record {
    eat = eat;
    astray = λ ts e b z. (let c = and_parts (refuses_at e (punct (codes ","))) (ends_no_list e) z in no_comma Closed ts e b c.0 (astray ts e b c.1));
    after_comma = λ g ts e b z. (let c = and_parts (refuses_at e (punct (codes ","))) (ends_no_list e) z in record { rest = ts; comma = refl; closed = astray ts e b c.1 });
  }

  -- no body of an arrow function stands there
  abbrev pub NoBody : Bool → Items → Type 0
  NoBody no_in ts = Refuses assigned (behind_params no_in) ts

  no_end : (no_in : Bool) (ts : Items) (e : Front) → Begins e ts → ends_no_list e ≡ true → NoBody no_in ts
  no_end no_in ts e b z =
      let c = and_parts (refuses_at e (punct (codes ")"))) _ z in
      rw (refused_at assigned (means assigned) (punct (codes ")")) e ts b c.0) refl

  abbrev lasts : (no_in : Bool) → Lasts assigned param (Closes (NoBody no_in))
  lasts no_in = closing param (NoBody no_in) more_eat (no_end no_in)

  -- behind a parameter: those that are read further, and what stands behind them ends no parameters of an arrow function
  abbrev pub Params : Bool → Items → Type 0
  Params no_in ts = Further assigned param (Closes (NoBody no_in)) ts

  pub params_end : (no_in : Bool) (us : Items) (e : Front) → Begins e us → refuses_at e (punct (codes ",")) ≡ true → NoBody no_in us → Params no_in us
  params_end no_in us e b c h = further_end assigned param (Closes (NoBody no_in)) us e b c (no_comma (NoBody no_in) us e b c h)

  -- a comma, and an expression
  pub params_more : (no_in : Bool) (ts us : Items) → AsParam assigned ts us → Params no_in us → Params no_in (s (codes ",") ts)
  params_more no_in ts us p P = further_more assigned param (Closes (NoBody no_in)) (lasts no_in) _ ts us p P

  with_param : (no_in : Bool) (ts us : Items) (xs : List Node) → Reads assigned param ts xs us → Params no_in us → Refuses assigned (params ▸ behind_params no_in) ts
  unfolding params
  with_param no_in ts us xs h P =
      let I = interp assigned (means assigned) in
      let l = P.last in
      ap (followed_on (I (behind_params no_in))) (ap (built_on form.List) (ap (or_on (I grammar.nothing) ts)
      (ap (followed_on (I (grammar.many (more param) ▸ last_comma))) h
      ∙ ap (with_front xs) (ap (followed_on (I last_comma)) (repeated assigned (more param) us P.stop P.nodes P.repeats) ∙ ap (with_front P.nodes) l.comma))))
      ∙ ap (with_front (_ ∷ [])) l.closed

  by_list : (no_in : Bool) (ts : Items) → Listed assigned param (Closes (NoBody no_in)) (lasts no_in) ts → Refuses assigned (params ▸ behind_params no_in) ts
  unfolding params
  by_list no_in ts (none_listed h e b z) =
      let I = interp assigned (means assigned) in
      let c = and_parts (refuses_at e (punct (codes ","))) (ends_no_list e) z in
      ap (followed_on (I (behind_params no_in))) (ap (built_on form.List) (ap (or_on (I grammar.nothing) ts) (ap (followed_on (I (grammar.many (more param) ▸ last_comma))) h)))
      ∙ ap (with_front (_ ∷ [])) (no_end no_in ts e b c.1)
  by_list no_in ts (some_listed xs us h F) = with_param no_in ts us xs h F

  -- an expression, and what stands behind it
  pub params_by : (no_in : Bool) (ts us : Items) → AsParam assigned ts us → Params no_in us → Refuses assigned (params ▸ behind_params no_in) ts
  params_by no_in ts us p P = by_list no_in ts (listed assigned param (Closes (NoBody no_in)) (lasts no_in) ts us p P)

  pub parameters_refused : (no_in : Bool) (g : Gap) (ts : Items) → Refuses assigned (params ▸ behind_params no_in) ts → Refuses assigned (arrow_rest no_in false) (it g (sign (codes "(")) ts)
  unfolding arrow_rest binding_ident
  parameters_refused no_in g ts h = rw h refl

  pub no_body_behind : (no_in : Bool) (us : Items) (e : Front) → Begins e us → refuses_at e (arrow_body no_in false) ≡ true → Refuses assigned (behind_params no_in) (s (codes ")") us)
  no_body_behind no_in us e b z =
      let body : Refuses assigned (arrow_body no_in false) us = refused_at assigned (means assigned) (arrow_body no_in false) e us b z in
      rw body refl
