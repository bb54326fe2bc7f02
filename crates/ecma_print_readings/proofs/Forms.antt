-- What an expression that is laid out is read as: what is said of each form, and what follows from it in each place.
use Rattle.std.proofs.Common.{◌≡◌, ℕ, Bool, true, false, ◌&&◌, List, [], ◌∷◌, ◌++◌, codes, refl, ap, ◌∙◌, append-nil, Some, None, unwrap_or, append_assoc}
use Rattle.std.proofs.lemmas.Bool.{and_parts}
use Rattle.ecma_kind.specs.declared.kind.Kind.{Kind}
use Rattle.ecma_tree.specs.declared.node.Node.{Node}
use Rattle.ecma_tree.specs.Nodes.{absent}
use Rattle.ecma_grammar.specs.declared.production.Form.TheVariants as form
use Rattle.ecma_grammar.specs.trees.Chains.{steps, in_front_link, step_on}
use Rattle.ecma_grammar.specs.Grammar.{Grammar, put, ◌▸◌, ◌//◌, marked, word, punct}
use Rattle.ecma_grammar.specs.declared.production.Flag.TheVariants.{Absent}
use Rattle.ecma_grammar.specs.productions.Expressions.{yield_}
use Rattle.ecma_grammar.specs.productions.Types.{param, some_return_annotation}
use Rattle.ecma_grammar.specs.productions.Functions.{arrow, arrow_rest, arrow_body, before_colon}
use Rattle.ecma_grammar.specs.productions.Primary.{primary}
use Rattle.ecma_grammar.specs.productions.Chains.{chain, links, super_of_link, import_meta, import_call, construction, new_links, super_of_member}
use Rattle.ecma_grammar.specs.productions.Declarations.{declaration}
use Rattle.ecma_grammar.specs.productions.Statements.{labeled, statement_body}
use Rattle.ecma_grammar.specs.productions.Modules.{module_item, import, import_equals, export}
use Rattle.ecma_print_tokens.specs.Items.{Tok, sign, number, Gap, no_gap, Items, it}
use Rattle.ecma_grammar.specs.declared.production.Part.TheVariants as part
use Rattle.ecma_shapes.proofs.Signs.{blank}
use Rattle.ecma_print_readings.proofs.Machine.{read, fails, built_on, interp, means, without}
use Rattle.ecma_shapes.specs.Shapes as shapes
use Rattle.ecma_print_readings.proofs.Fronts.{Front, exactly, Begins, at_token, refuses_at, refused_at, refuses_all, all_refused, passes_at, passed_at}
use Rattle.ecma_print_readings.proofs.Towers.{refuses_choices, excluded, private_in, Opens, closes}
use Rattle.ecma_print_readings.proofs.Heads.{bare}
use Rattle.ecma_grammar.proofs.Steps.{steps-append}

abbrev pub Laid : Type 0
Laid = Gap → Items → Items

abbrev pub s : List ℕ → Items → Items
s w u = it no_gap (sign w) u

-- what may begin a chain of links
abbrev pub heads : Grammar
heads = super_of_link // import_meta // import_call // construction // primary

-- and that of the callee of `new`
abbrev pub new_heads : Grammar
new_heads = super_of_member // import_meta // construction // primary

-- behind `)` of what may be the parameters of an arrow function
abbrev pub behind_params : Bool → Grammar
behind_params no_in = punct (codes ")") ▸ (marked some_return_annotation ▸ arrow_body no_in false ▸ before_colon false // put Absent ▸ arrow_body no_in false)

-- `in` stands in the body of an arrow function, if at all

pub no_rest_at : (e : Front) → refuses_at e (arrow_rest false false) ≡ true → (no_in : Bool) → refuses_at e (arrow_rest no_in false) ≡ true
unfolding arrow_rest
no_rest_at e z no_in = z

pub no_arrow_at : (e : Front) → refuses_at e (arrow false false) ≡ true → (no_in : Bool) → refuses_at e (arrow no_in false) ≡ true
unfolding arrow arrow_rest
no_arrow_at e z no_in = z

-- no `.target`: no point, or that of a numeral
abbrev pub begins_no_target : Front → Bool
begins_no_target (exactly (number w)) = true
begins_no_target e = refuses_at e (punct (codes "."))

-- no token that ends a list, or an item of one
abbrev pub ends_no_list : Front → Bool
ends_no_list e = refuses_at e (punct (codes ")")) && (refuses_at e (punct (codes "]")) && refuses_at e (punct (codes "}")))

abbrev pub ends_no_item : Front → Bool
ends_no_item e = refuses_at e (punct (codes ",")) && ends_no_list e

module _ (assigned : Bool) where
  abbrev pub Reads : Grammar → Items → List Node → Items → Type 0
  Reads g ts xs us = interp assigned (means assigned) g ts ≡ read xs us

  abbrev pub Refuses : Grammar → Items → Type 0
  Refuses g ts = interp assigned (means assigned) g ts ≡ fails

  -- what is read of an expression as an item of another list: nothing; all of it; or what stands before a token that ends no item
  pub data AsItem (item : Grammar) (ts us : Items) : Type 0 where
    item_refused : Refuses item ts → (e : Front) → Begins e ts → ends_no_item e ≡ true → AsItem item ts us
    whole_item : (xs : List Node) → Reads item ts xs us → AsItem item ts us
    item_before : (xs : List Node) (vs : Items) (e : Front) → Begins e vs → ends_no_item e ≡ true → Reads item ts xs vs → AsItem item ts us

  -- as a parameter
  abbrev pub AsParam : Items → Items → Type 0
  AsParam ts us = AsItem param ts us

  -- with links behind it
  pub linked_param : {ts us vs : Items} {e : Front} → Begins e us → refuses_at e (punct (codes ",")) ≡ true → ends_no_list e ≡ true → AsParam ts us → AsParam ts vs
  linked_param b c p (item_refused h e d z) = item_refused h e d z
  linked_param {us = us} {e = e} b c p (whole_item xs h) = item_before xs us e b (rw (c, p) refl) h
  linked_param b c p (item_before xs vs e d z h) = item_before xs vs e d z h

  -- nothing that stands in modules alone begins there
  pub record NoItem (ts : Items) : Type 0 where
    pub no_import : Refuses import ts
    pub no_import_equals : Refuses import_equals ts
    pub no_export : Refuses export ts

  pub no_item_at : (f : Front) (ts : Items) → Begins f ts → refuses_choices 3 f module_item ≡ true → NoItem ts
  unfolding module_item
  no_item_at f ts b z =
      let c = and_parts (refuses_at f import) _ z in
      let d = and_parts (refuses_at f import_equals) _ c.1 in
      let e = and_parts (refuses_at f export) _ d.1 in
      let p = means assigned in
      record { no_import = refused_at assigned p import f ts b c.0; no_import_equals = refused_at assigned p import_equals f ts b d.0; no_export = refused_at assigned p export f ts b e.0 }

  -- no declaration begins there, and nothing that a statement does not begin with
  pub record NoDeclaration (ts : Items) : Type 0 where
    pub no_declaration : Refuses declaration ts
    pub no_word : Refuses excluded ts

  -- no arrow function begins there, where the body of one does not follow
  abbrev pub NoArrow : Laid → Type 0
  NoArrow f = (no_in : Bool) (g : Gap) (us : Items) (e : Front) → Begins e us → refuses_at e (arrow_body no_in false) ≡ true → Refuses (arrow_rest no_in false) us → Refuses (arrow no_in false) (f g us)

  -- members, calls and what they begin with, as they are laid out
  pub record Form (f : Laid) (k : Kind) (ns : List Node) : Type 0 where
    pub front : Front
    pub begins : (g : Gap) (us : Items) → Begins front (f g us)
    pub opens : Opens front
    pub no_statement : refuses_choices 9 front (without 1 statement_body) ≡ true
    pub no_item : (g : Gap) (us : Items) → NoItem (f g us)
    -- its links are read, and then those that follow
    pub pieces : List Node
    pub own : (g : Gap) (us : Items) (e : Front) → Begins e us → refuses_at e (word (codes "function")) ≡ true → (ys : List Node) (vs : Items) → Reads links us ys vs → Reads (heads ▸ links) (f g us) (pieces ++ ys) vs
    pub whole : steps in_front_link None pieces ≡ Some (bare k ns)
    -- what is tried before an expression
    pub no_arrow : NoArrow f
    pub no_label : (g : Gap) (us : Items) (e : Front) → Begins e us → refuses_at e (punct (codes ":")) ≡ true → Refuses labeled (f g us)
    pub as_param : (g : Gap) (us : Items) (e : Front) → Begins e us → refuses_at e (punct (codes "=")) ≡ true → AsParam (f g us) us
    -- with a default value
    pub with_default : (g : Gap) (ts vs : Items) (n : Node) → means assigned (part.Assign false false) ts ≡ read (n ∷ []) vs → AsParam (f g (it blank (sign (codes "=")) ts)) vs

  -- as the callee of `new`
  pub record NewForm (f : Laid) (k : Kind) (ns : List Node) : Type 0 where
    pub form : Form f k ns
    pub no_point : begins_no_target (let F = form in F.front) ≡ true
    pub own : (g : Gap) (us : Items) (e : Front) → Begins e us → refuses_at e (word (codes "function")) ≡ true → (ys : List Node) (vs : Items) → Reads new_links us ys vs → Reads (new_heads ▸ new_links) (f g us) ((let F = form in F.pieces) ++ ys) vs

  -- all of a chain, and what begins none of what may stand before one
  pub record Whole (c : Front) (f : Laid) (n : Node) : Type 0 where
    pub opens : Opens c
    pub all : (g : Gap) (us : Items) (e : Front) → Begins e us → closes shapes.object e ≡ true → Reads chain (f g us) (n ∷ []) us

  module _ {f : Laid} {k : Kind} {ns : List Node} (F : Form f k ns) where
    pub chain_read : (g : Gap) (us : Items) (e : Front) → Begins e us → closes shapes.object e ≡ true → Reads chain (f g us) (bare k ns ∷ []) us
    unfolding chain
    chain_read g us e b z =
        let c = and_parts (passes_at e links) (refuses_at e (word (codes "function"))) z in
        ap (built_on form.Links) (F.own g us e b c.1 [] us (passed_at assigned (means assigned) links e us b c.0))
        ∙ ap (λ o. read (unwrap_or o absent ∷ []) us) (ap (steps in_front_link None) (append-nil F.pieces) ∙ F.whole)

  -- what an expression begins with, and what is tried there before an expression
  pub record Lead (f : Laid) : Type 0 where
    pub front : Front
    pub begins : (g : Gap) (us : Items) → Begins front (f g us)
    pub no_statement : refuses_choices 9 front (without 1 statement_body) ≡ true
    pub no_item : (g : Gap) (us : Items) → NoItem (f g us)
    pub no_spread : refuses_at front (punct (codes "...")) ≡ true
    pub no_label : (g : Gap) (us : Items) (e : Front) → Begins e us → refuses_at e (punct (codes ":")) ≡ true → Refuses labeled (f g us)

  abbrev pub lead_of : {f : Laid} {k : Kind} {ns : List Node} → Form f k ns → Lead f
  lead_of F =
      let o = F.opens in
      record {
        front = F.front;
        begins = F.begins;
        no_statement = F.no_statement;
        no_item = F.no_item;
        no_spread = o.no_spread;
        no_label = F.no_label;
      }

-- an operator behind an expression: nothing that is tried before an expression goes on with it
abbrev pub apart : Front → Bool
apart e = refuses_at e (arrow_body false false) && (refuses_at e (arrow_rest false false) && (refuses_at e (punct (codes ":")) && refuses_at e (word (codes "function"))))

-- what begins a link
abbrev pub begins_link : Front → Bool
begins_link e = refuses_at e (arrow_body false false) && (refuses_at e (punct (codes ":")) && refuses_at e (word (codes "function")))

-- and no parameter does
abbrev pub ends_no_param : Front → Bool
ends_no_param e = refuses_at e (punct (codes "=")) && ends_no_item e

abbrev begins_no_param : Front → Bool
begins_no_param e = refuses_all e param && ends_no_item e

-- a token with which an expression begins, but nothing that is tried before one, other than by itself
abbrev pub opens_plainly : Front → Bool
opens_plainly e =
    refuses_choices 9 e (without 1 statement_body) && (refuses_at e (punct (codes "...")) && (refuses_at e (arrow false false) && (refuses_at e labeled && begins_no_param e)))

-- nor what stands in modules alone, `yield`, or a private name
abbrev pub only_opens : Front → Bool
only_opens e = opens_plainly e && (refuses_choices 3 e module_item && (refuses_at e private_in && refuses_at e (yield_ false false)))

module _ (assigned : Bool) where
  abbrev pub lead_before : {f : Laid} → Lead assigned f → (t : Tok) → apart (exactly t) ≡ true → (h : Gap) (rest : Items → Items) → Lead assigned (λ g us. f g (it h t (rest us)))
  lead_before {f} L t z h rest =
      let e = exactly t in
      let a = and_parts (refuses_at e (arrow_body false false)) _ z in
      let b = and_parts (refuses_at e (arrow_rest false false)) _ a.1 in
      let c = and_parts (refuses_at e (punct (codes ":"))) _ b.1 in
      record {
        front = L.front;
        begins = λ g us. L.begins g (it h t (rest us));
        no_statement = L.no_statement;
        no_item = λ g us. L.no_item g (it h t (rest us));
        no_spread = L.no_spread;
        no_label = λ g us k s r. L.no_label g (it h t (rest us)) e at_token c.0;
      }

  pub no_arrow_before : (f : Laid) → NoArrow assigned f → (t : Tok) → apart (exactly t) ≡ true → (h : Gap) (rest : Items → Items) → NoArrow assigned (λ g us. f g (it h t (rest us)))
  no_arrow_before f N t z h rest n g us k b' r q =
      let e = exactly t in
      let a = and_parts (refuses_at e (arrow_body false false)) _ z in
      let b = and_parts (refuses_at e (arrow_rest false false)) _ a.1 in
      N n g (it h t (rest us)) e at_token a.0 (refused_at assigned (means assigned) (arrow_rest n false) e (it h t (rest us)) at_token (no_rest_at e b.0 n))

  pub no_arrow_from : (t : Tok) → opens_plainly (exactly t) ≡ true → (rest : Items → Items) → NoArrow assigned (λ g us. it g t (rest us))
  no_arrow_from t z rest n g us k s r q =
      let e = exactly t in
      let a = and_parts (refuses_choices 9 e (without 1 statement_body)) _ z in
      let c = and_parts (refuses_at e (punct (codes "..."))) _ a.1 in
      let y = and_parts (refuses_at e (arrow false false)) _ c.1 in
      refused_at assigned (means assigned) (arrow n false) e (it g t (rest us)) at_token (no_arrow_at e y.0 n)

  abbrev pub lead_from : (t : Tok) → opens_plainly (exactly t) ≡ true → (rest : Items → Items) → ((g : Gap) (us : Items) → NoItem assigned (it g t (rest us))) → Lead assigned (λ g us. it g t (rest us))
  lead_from t z rest i =
      let e = exactly t in
      let p = means assigned in
      let a = and_parts (refuses_choices 9 e (without 1 statement_body)) _ z in
      let c = and_parts (refuses_at e (punct (codes "..."))) _ a.1 in
      let y = and_parts (refuses_at e (arrow false false)) _ c.1 in
      let l = and_parts (refuses_at e labeled) _ y.1 in
      record {
        front = e;
        begins = λ g us. at_token;
        no_statement = a.0;
        no_item = i;
        no_spread = c.0;
        no_label = λ g us k s r. refused_at assigned p labeled e (it g t (rest us)) at_token l.0;
      }

  pub no_item_by : (t : Tok) → only_opens (exactly t) ≡ true → (g : Gap) (us : Items) → NoItem assigned (it g t us)
  no_item_by t z g us =
      let e = exactly t in
      let a = and_parts (opens_plainly e) _ z in
      let b = and_parts (refuses_choices 3 e module_item) _ a.1 in
      no_item_at assigned e (it g t us) at_token b.0

  abbrev pub lead_by : (t : Tok) → only_opens (exactly t) ≡ true → (rest : Items → Items) → Lead assigned (λ g us. it g t (rest us))
  lead_by t z rest = let a = and_parts (opens_plainly (exactly t)) _ z in lead_from t a.0 rest (λ g us. no_item_by t z g (rest us))

  pub no_arrow_by : (t : Tok) → only_opens (exactly t) ≡ true → (rest : Items → Items) → NoArrow assigned (λ g us. it g t (rest us))
  no_arrow_by t z rest = let a = and_parts (opens_plainly (exactly t)) _ z in no_arrow_from t a.0 rest

  -- an expression as a parameter, in front of what is no `=`
  abbrev pub NoDefault : Laid → Type 0
  NoDefault f = (g : Gap) (us : Items) (e : Front) → Begins e us → refuses_at e (punct (codes "=")) ≡ true → AsParam assigned (f g us) us

  pub param_in_front : {f : Laid} → NoDefault f → (t : Tok) → ends_no_param (exactly t) ≡ true → (h : Gap) (rest : Items → Items) (g : Gap) (us : Items) → AsParam assigned (f g (it h t (rest us))) us
  param_in_front P t z h rest g us =
      let e = exactly t in
      let x = and_parts (refuses_at e (punct (codes "="))) _ z in
      let y = and_parts (refuses_at e (punct (codes ","))) _ x.1 in
      linked_param assigned at_token y.0 y.1 (P g (it h t (rest us)) e at_token x.0)

  pub param_from : (t : Tok) → opens_plainly (exactly t) ≡ true → (rest : Items → Items) (g : Gap) (us : Items) → AsParam assigned (it g t (rest us)) us
  param_from t z rest g us =
      let e = exactly t in
      let a = and_parts (refuses_choices 9 e (without 1 statement_body)) _ z in
      let c = and_parts (refuses_at e (punct (codes "..."))) _ a.1 in
      let y = and_parts (refuses_at e (arrow false false)) _ c.1 in
      let l = and_parts (refuses_at e labeled) _ y.1 in
      let o = and_parts (refuses_all e param) _ l.1 in
      item_refused (all_refused assigned param e (it g t (rest us)) at_token o.0) e at_token o.1

  pub param_by : (t : Tok) → only_opens (exactly t) ≡ true → (rest : Items → Items) (g : Gap) (us : Items) → AsParam assigned (it g t (rest us)) us
  param_by t z rest g us = let a = and_parts (opens_plainly (exactly t)) _ z in param_from t a.0 rest g us

  -- a form by its first token, with which nothing begins that is tried before an expression
  abbrev pub form_from : (t : Tok) → opens_plainly (exactly t) ≡ true → Opens (exactly t) → (rest : Items → Items) → ((g : Gap) (us : Items) → NoItem assigned (it g t (rest us))) → {k : Kind} {ns : List Node} → (pieces : List Node) → steps in_front_link None pieces ≡ Some (bare k ns)
      → ((g : Gap) (us : Items) (e : Front) → Begins e us → refuses_at e (word (codes "function")) ≡ true → (ys : List Node) (vs : Items) → Reads assigned links us ys vs → Reads assigned (heads ▸ links) (it g t (rest us)) (pieces ++ ys) vs)
      → Form assigned (λ g us. it g t (rest us)) k ns
  form_from t z o rest i pieces whole own =
      let L = lead_from t z rest i in
      record {
        front = exactly t;
        begins = L.begins;
        opens = o;
        no_statement = L.no_statement;
        no_item = L.no_item;
        pieces = pieces;
        own = own;
        whole = whole;
        no_arrow = no_arrow_from t z rest;
        no_label = L.no_label;
        as_param = λ g us e b c. param_from t z rest g us;
        with_default = λ g ts vs n c. param_from t z (λ us. rest (it blank (sign (codes "=")) ts)) g vs;
      }

  abbrev pub form_by : (t : Tok) → only_opens (exactly t) ≡ true → Opens (exactly t) → (rest : Items → Items) {k : Kind} {ns : List Node} → (pieces : List Node) → steps in_front_link None pieces ≡ Some (bare k ns)
      → ((g : Gap) (us : Items) (e : Front) → Begins e us → refuses_at e (word (codes "function")) ≡ true → (ys : List Node) (vs : Items) → Reads assigned links us ys vs → Reads assigned (heads ▸ links) (it g t (rest us)) (pieces ++ ys) vs)
      → Form assigned (λ g us. it g t (rest us)) k ns
  form_by t z o rest pieces whole own = let a = and_parts (opens_plainly (exactly t)) _ z in form_from t a.0 o rest (λ g us. no_item_by t z g (rest us)) pieces whole own

  -- a link behind a form, by its first token, and by what is tried there before an expression
  abbrev pub link_behind : {f : Laid} {k : Kind} {ns : List Node} → Form assigned f k ns → (t : Tok) → begins_link (exactly t) ≡ true → ends_no_param (exactly t) ≡ true → (rest : Items → Items)
      → ((n : Bool) (us : Items) (e : Front) → Begins e us → refuses_at e (arrow_body n false) ≡ true → Refuses assigned (arrow_rest n false) (it no_gap t (rest us))) → (m : Node) {k' : Kind} {ns' : List Node}
      → in_front_link (bare k ns) m ≡ bare k' ns' → ((us : Items) (ys : List Node) (vs : Items) → Reads assigned links us ys vs → Reads assigned links (it no_gap t (rest us)) (m ∷ ys) vs) → Form assigned (λ g us. f g (it no_gap t (rest us))) k' ns'
  link_behind F t z w rest no_rest m made link =
      let e = exactly t in
      let a = and_parts (refuses_at e (arrow_body false false)) _ z in
      let c = and_parts (refuses_at e (punct (codes ":"))) _ a.1 in
      let x = and_parts (refuses_at e (punct (codes "="))) _ w in
      let y = and_parts (refuses_at e (punct (codes ","))) _ x.1 in
      record {
        front = F.front;
        begins = λ g us. F.begins g (it no_gap t (rest us));
        opens = F.opens;
        no_statement = F.no_statement;
        no_item = λ g us. F.no_item g (it no_gap t (rest us));
        pieces = F.pieces ++ m ∷ [];
        own = λ g us k q r ys vs i. rw (append_assoc F.pieces (m ∷ []) ys) (F.own g (it no_gap t (rest us)) e at_token c.1 (m ∷ ys) vs (link us ys vs i));
        whole = steps-append in_front_link None F.pieces m ∙ (ap (λ o. step_on in_front_link o m) F.whole ∙ ap Some made);
        no_arrow = λ n g us k q r i. F.no_arrow n g (it no_gap t (rest us)) e at_token a.0 (no_rest n us k q r);
        no_label = λ g us k q r. F.no_label g (it no_gap t (rest us)) e at_token c.0;
        as_param = λ g us k q r. linked_param assigned at_token y.0 y.1 (F.as_param g (it no_gap t (rest us)) e at_token x.0);
        with_default = λ g ts us n i. linked_param assigned at_token y.0 y.1 (F.as_param g (it no_gap t (rest (it blank (sign (codes "=")) ts))) e at_token x.0);
      }

  -- where no arrow function's parameters end
  abbrev pub link_form : {f : Laid} {k : Kind} {ns : List Node} → Form assigned f k ns → (t : Tok) → begins_link (exactly t) ≡ true → refuses_at (exactly t) (arrow_rest false false) ≡ true → ends_no_param (exactly t) ≡ true → (rest : Items → Items) (m : Node) {k' : Kind} {ns' : List Node}
      → in_front_link (bare k ns) m ≡ bare k' ns' → ((us : Items) (ys : List Node) (vs : Items) → Reads assigned links us ys vs → Reads assigned links (it no_gap t (rest us)) (m ∷ ys) vs) → Form assigned (λ g us. f g (it no_gap t (rest us))) k' ns'
  link_form F t z r w rest m made link = link_behind F t z w rest (λ n us e b q. refused_at assigned (means assigned) (arrow_rest n false) (exactly t) (it no_gap t (rest us)) at_token (no_rest_at (exactly t) r n)) m made link
