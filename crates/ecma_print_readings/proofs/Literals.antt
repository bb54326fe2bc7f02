-- Literals in brackets or braces, of which a pattern may be read.
use Rattle.std.proofs.Common.{◌≡◌, Bool, true, false, List, [], ◌∷◌, codes, refl}
use Rattle.ecma_kind.specs.declared.kind.Kind.{Kind}
use Rattle.ecma_tree.specs.declared.node.Node.{Node}
use Rattle.ecma_grammar.specs.Grammar.{Grammar}
use Rattle.ecma_grammar.specs.productions.Types.{rest_pattern}
use Rattle.ecma_grammar.specs.productions.Functions.{arrow}
use Rattle.ecma_grammar.specs.productions.Primary.{primary}
use Rattle.ecma_grammar.specs.productions.Statements.{labeled}
use Rattle.ecma_print_tokens.specs.Items.{Tok, sign, Gap, Items, it}
use Rattle.ecma_print_readings.proofs.Machine.{means}
use Rattle.ecma_shapes.proofs.Signs.{blank}
use Rattle.ecma_print_readings.proofs.Fronts.{Front, exactly, at_token, refuses_at, refused_at}
use Rattle.ecma_print_readings.proofs.Towers.{Tower, Opens, Starts}
use Rattle.ecma_print_readings.proofs.Heads.{bare}
use Rattle.ecma_print_readings.proofs.Forms.{Laid, Reads, begins_no_target, ends_no_item, Form, NewForm, no_item_at, no_arrow_at}
use Rattle.ecma_print_readings.proofs.Expressions.{IsPrimary, primary_by, head_read, new_head_read}
use Rattle.ecma_print_readings.proofs.Tried.{Wholly, wholly_param, no_default, some_default}

-- the token that it begins with
pub record Literal (t : Tok) (base : Grammar) : Type 0 where
  pub tower : (e : Front) → Tower (exactly t) e base primary
  pub apart : IsPrimary (exactly t)
  pub no_point : begins_no_target (exactly t) ≡ true
  pub opens : Opens (exactly t)
  pub starts : Starts (exactly t)
  pub no_arrow : refuses_at (exactly t) (arrow false false) ≡ true
  pub no_label : refuses_at (exactly t) labeled ≡ true
  pub no_rest : refuses_at (exactly t) rest_pattern ≡ true
  pub no_end : ends_no_item (exactly t) ≡ true

module _ (assigned : Bool) {t : Tok} {base : Grammar} (L : Literal t base) (rest : Items → Items) (k : Kind) (ns : List Node) where
  abbrev literal : Laid
  literal g us = it g t (rest us)

  module _ (reads : (g : Gap) (us : Items) → Reads assigned base (literal g us) (bare k ns ∷ []) us) (tried : (g : Gap) (us : Items) → Wholly assigned (literal g us) us) where
    primary_read : (g : Gap) (us : Items) → Reads assigned primary (literal g us) (bare k ns ∷ []) us
    primary_read g us = primary_by assigned (exactly t) base (literal g us) us (bare k ns) L.tower at_token (reads g us)

    pub literal_form : Form assigned literal k ns
    literal_form =
        let e = exactly t in
        let s = L.starts in
        let p = means assigned in
        record {
          front = e;
          begins = λ g us. at_token;
          opens = L.opens;
          no_statement = s.no_statement;
          no_item = λ g us. no_item_at assigned e (literal g us) at_token s.no_item;
          pieces = bare k ns ∷ [];
          own = λ g us f b z ys vs h. head_read assigned e (literal g us) us (bare k ns) L.apart at_token (primary_read g us) ys vs h;
          whole = refl;
          no_arrow = λ n g us f b z r. refused_at assigned (means assigned) (arrow n false) e (literal g us) at_token (no_arrow_at e L.no_arrow n);
          no_label = λ g us f b z. refused_at assigned p labeled e (literal g us) at_token L.no_label;
          as_param = λ g us f b z.
              wholly_param assigned (literal g us) us us (refused_at assigned p rest_pattern e (literal g us) at_token L.no_rest) e at_token L.no_end (tried g us) [] (no_default assigned us f b z);
          with_default = λ g ts us n h.
              (let behind = it blank (sign (codes "=")) ts in
              wholly_param assigned (literal g behind) behind us (refused_at assigned p rest_pattern e (literal g behind) at_token L.no_rest) e at_token L.no_end (tried g behind) _ (some_default assigned ts us n h));
        }

    pub literal_new : NewForm assigned literal k ns
    unfolding literal_form
    literal_new = record { form = literal_form; no_point = L.no_point; own = λ g us f b z ys vs h. new_head_read assigned (exactly t) (literal g us) us (bare k ns) L.apart at_token (primary_read g us) ys vs h }
