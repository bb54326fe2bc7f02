-- What is read of an expression as a pattern, by what is read of it as a parameter.
use Rattle.std.proofs.Common.{◌≡◌, ℕ, bytes_eq, ◌⊎◌, inl, inr, Bool, true, false, List, [], ◌∷◌, ◌++◌, codes, refl, ap, sym, subst, ◌∙◌}
use Rattle.std.proofs.lemmas.Slice.Eq.{bytes_eq-Decides}
use Rattle.ecma_kind.specs.declared.kind.Kind.TheVariants as kind
use Rattle.ecma_tree.specs.declared.node.Node.{Node}
use Rattle.ecma_tree.specs.Nodes.{node_of, dummy_span}
use Rattle.ecma_grammar.specs.declared.production.Part.TheVariants as part
use Rattle.ecma_grammar.specs.declared.production.Plain.TheVariants as plain
use Rattle.ecma_grammar.specs.declared.production.Form.TheVariants as form
use Rattle.ecma_grammar.specs.declared.production.Flag.TheVariants.{Absent}
use Rattle.ecma_grammar.specs.trees.Parts.{flag_node}
use Rattle.ecma_grammar.specs.Made.{made}
use Rattle.ecma_grammar.specs.Grammar as grammar
use Rattle.ecma_grammar.specs.Grammar.{Grammar, put, ◌▸◌, ◌//◌, marked, build, punct, optional, whether}
use Rattle.ecma_grammar.specs.productions.Names as names
use Rattle.ecma_grammar.specs.productions.Names.{pattern, assign}
use Rattle.ecma_grammar.specs.productions.Types.{param, rest_pattern, default_value, annotation}
use Rattle.ecma_grammar.specs.productions.Patterns.{pattern_body, pattern_element, array_pattern, object_pattern}
use Rattle.ecma_print_tokens.specs.Items.{sign, number, regex, template, Gap, Items, it}
use Rattle.ecma_print_tokens.specs.Taking as taking
use Rattle.ecma_print_tokens.specs.Taking.{Took, took, refused, took_if, unsure_if, punct_in}
use Rattle.ecma_print_readings.proofs.Machine.{Out, read, fails, unsure, taken, with_front, followed_on, or_on, built_on, interp, means}
use Rattle.ecma_shapes.proofs.Signs.{blank}
use Rattle.ecma_print_readings.proofs.Levels.{means_is}
use Rattle.ecma_print_readings.proofs.Fronts.{Front, exactly, Begins, at_token, refuses_at, refused_at, refuses_all, all_refused}
use Rattle.ecma_print_readings.proofs.Forms.{Reads, Refuses, ends_no_item, AsItem, item_refused, whole_item, item_before, AsParam}

-- a sign that is taken stands there

no_unsure : (b : Bool) (v : List ℕ) (us : Items) → unsure_if b ≡ took v us → ⊥
no_unsure true v us e = cc
no_unsure false v us e = cc

sign_taken : (w x : List ℕ) (g : Gap) (ts : Items) (b : Bool) → bytes_eq x w ≡ b → (v : List ℕ) (us : Items) → took_if b x ts ≡ took v us → Begins (exactly (sign w)) (it g (sign x) ts)
sign_taken w x g ts true h v us e = subst (λ y. Begins (exactly (sign y)) (it g (sign x) ts)) ((bytes_eq-Decides x w).0 h) at_token
sign_taken w x g ts false h v us e = absurd (let z : ⊥ = cc in z)

punct_begins : (w : List ℕ) (ts : Items) (v : List ℕ) (us : Items) → punct_in w ts ≡ took v us → Begins (exactly (sign w)) ts
punct_begins w (it g (sign x) ts) v us e = sign_taken w x g ts (bytes_eq x w) refl v us e
punct_begins w (it g (number x) ts) v us e = absurd (no_unsure _ v us e)
punct_begins w (it g (regex x) ts) v us e = absurd (no_unsure _ v us e)
punct_begins w (it g (template first last x) ts) v us e = absurd (no_unsure _ v us e)
punct_begins w ts v us e = absurd (let z : ⊥ = cc in z)

-- a reading has one outcome

read_or_fails : {o : Out} {xs : List Node} {us : Items} → o ≡ read xs us → o ≡ fails → ⊥
read_or_fails h k = cc

unsure_or_fails : {o : Out} → o ≡ unsure → o ≡ fails → ⊥
unsure_or_fails h k = cc

unsure_or_read : {o : Out} {xs : List Node} {us : Items} → o ≡ unsure → o ≡ read xs us → ⊥
unsure_or_read h k = cc

same_end : {o : Out} {xs ys : List Node} {us vs : Items} → o ≡ read xs us → o ≡ read ys vs → us ≡ vs
same_end h k = cc

-- no pattern begins with `...`
no_pattern_there : refuses_all (exactly (sign (codes "..."))) pattern ≡ true
unfolding pattern_body array_pattern object_pattern names.binding_ident
no_pattern_there = refl

module _ (assigned : Bool) where
  -- a reading comes to the end, or to a token that ends no item
  pub data Stopped (us ts : Items) : Type 0 where
    at_end : ts ≡ us → Stopped us ts
    astray : (e : Front) → Begins e ts → ends_no_item e ≡ true → Stopped us ts

  pub stopped : (item : Grammar) (ts us vs : Items) (xs : List Node) → Reads assigned item ts xs vs → Stopped us vs → AsItem assigned item ts us
  stopped item ts us vs xs h (at_end e) = whole_item xs (h ∙ ap (read xs) e)
  stopped item ts us vs xs h (astray e b z) = item_before xs vs e b z h

  -- what is read of an expression as a pattern: nothing; or a pattern, and behind it a default value or none
  pub data AsPattern (ts us : Items) : Type 0 where
    no_pattern : means assigned part.Pattern ts ≡ fails → (e : Front) → Begins e ts → ends_no_item e ≡ true → AsPattern ts us
    a_pattern : (xs : List Node) (vs : Items) → means assigned part.Pattern ts ≡ read xs vs → (ys : List Node) (ws : Items) → Reads assigned default_value vs ys ws → Stopped us ws → AsPattern ts us

  -- what is made of a pattern as a parameter
  abbrev annotated : List Node → Node
  annotated xs = made form.Annotated 0 0 (xs ++ flag_node Absent ∷ flag_node Absent ∷ [])

  abbrev pub param_on : Out → Out
  param_on o =
      let I = interp assigned (means assigned) in
      built_on form.Param (with_front (flag_node Absent ∷ []) (built_on form.Chain (followed_on (I default_value) (built_on form.Annotated (followed_on (I (whether (marked (punct (codes "?"))) ▸ annotation)) o)))))

  pub param_is : (ts : Items) → interp assigned (means assigned) param ts ≡ param_on (or_on (means assigned part.Pattern) ts (interp assigned (means assigned) rest_pattern ts))
  unfolding param
  param_is ts = refl

  pub pattern_param : (ts : Items) → Refuses assigned rest_pattern ts → interp assigned (means assigned) param ts ≡ param_on (means assigned part.Pattern ts)
  pattern_param ts r = param_is ts ∙ ap (λ o. param_on (or_on (means assigned part.Pattern) ts o)) r

  -- what may be missing is read
  optional_read : (g : Grammar) (ts : Items) → Refuses assigned (optional g) ts → ⊥
  optional_read g ts h = go (interp assigned (means assigned) g ts) h
    where
      go : (o : Out) → or_on (interp assigned (means assigned) grammar.nothing) ts o ≡ fails → ⊥
      go (read xs us) e = cc
      go fails e = cc
      go unsure e = cc

  default_read : (ts : Items) → Refuses assigned default_value ts → ⊥
  unfolding default_value
  default_read ts h = optional_read (grammar.item plain.AssignPat (punct (codes "=") ▸ assign)) ts h

  -- a pattern that was read, and what stands behind it
  behind_pattern : (ts us : Items) (xs : List Node) (vs : Items) → Refuses assigned rest_pattern ts → means assigned part.Pattern ts ≡ read xs vs → (o : Out) → interp assigned (means assigned) default_value vs ≡ o → AsParam assigned ts us → AsPattern ts us
  behind_pattern ts us xs vs r h fails d p = absurd (default_read vs d)
  behind_pattern ts us xs vs r h unsure d p = absurd (by_param p)
    where
      is : interp assigned (means assigned) param ts ≡ unsure
      is = pattern_param ts r ∙ (ap param_on h ∙ ap (λ o. built_on form.Param (with_front (flag_node Absent ∷ []) (built_on form.Chain (with_front (annotated xs ∷ []) o)))) d)

      by_param : AsParam assigned ts us → ⊥
      by_param (item_refused k e b z) = unsure_or_fails is k
      by_param (whole_item ys k) = unsure_or_read is k
      by_param (item_before ys ws e b z k) = unsure_or_read is k
  behind_pattern ts us xs vs r h (read ys ws) d p = a_pattern xs vs h ys ws d (by_param p)
    where
      is : (zs : List Node) × (interp assigned (means assigned) param ts ≡ read zs ws)
      is = (made form.Param 0 0 (flag_node Absent ∷ made form.Chain 0 0 (annotated xs ∷ ys) ∷ []) ∷ [], pattern_param ts r ∙ (ap param_on h ∙ ap (λ o. built_on form.Param (with_front (flag_node Absent ∷ []) (built_on form.Chain (with_front (annotated xs ∷ []) o)))) d))

      by_param : AsParam assigned ts us → Stopped us ws
      by_param (item_refused k e b z) = absurd (read_or_fails is.1 k)
      by_param (whole_item zs k) = at_end (same_end is.1 k)
      by_param (item_before zs us' e b z k) = astray e (subst (Begins e) (same_end k is.1) b) z

  pub as_pattern : (ts us : Items) → Refuses assigned rest_pattern ts → AsParam assigned ts us → AsPattern ts us
  as_pattern ts us r p = go (means assigned part.Pattern ts) refl p
    where
      go : (o : Out) → means assigned part.Pattern ts ≡ o → AsParam assigned ts us → AsPattern ts us
      go fails h (item_refused k e b z) = no_pattern h e b z
      go fails h (whole_item xs k) = absurd (read_or_fails k (pattern_param ts r ∙ ap param_on h))
      go fails h (item_before xs vs e b z k) = absurd (read_or_fails k (pattern_param ts r ∙ ap param_on h))
      go unsure h (item_refused k e b z) = absurd (unsure_or_fails (pattern_param ts r ∙ ap param_on h) k)
      go unsure h (whole_item xs k) = absurd (unsure_or_read (pattern_param ts r ∙ ap param_on h) k)
      go unsure h (item_before xs vs e b z k) = absurd (unsure_or_read (pattern_param ts r ∙ ap param_on h) k)
      go (read xs vs) h k = behind_pattern ts us xs vs r h (interp assigned (means assigned) default_value vs) refl k

  -- a default value is none, or begins with `=`
  default_stop : (ts us : Items) (xs : List Node) → Reads assigned default_value ts xs us → (us ≡ ts) ⊎ Begins (exactly (sign (codes "="))) ts
  unfolding default_value
  default_stop ts us xs h = go (punct_in (codes "=") ts) refl
    where
      is : (o : Took) → punct_in (codes "=") ts ≡ o → or_on (interp assigned (means assigned) grammar.nothing) ts (built_on (form.Node plain.AssignPat) (with_front (flag_node Absent ∷ []) (followed_on (interp assigned (means assigned) assign) (taken o)))) ≡ read xs us
      is o e = ap (λ z. or_on (interp assigned (means assigned) grammar.nothing) ts (built_on (form.Node plain.AssignPat) (with_front (flag_node Absent ∷ []) (followed_on (interp assigned (means assigned) assign) (taken z))))) (sym e) ∙ h

      go : (o : Took) → punct_in (codes "=") ts ≡ o → (us ≡ ts) ⊎ Begins (exactly (sign (codes "="))) ts
      go (took v vs) e = inr (punct_begins (codes "=") ts v vs e)
      go refused e = inl (let x : read [] ts ≡ read xs us = is refused e in cc)
      go taking.unsure e = absurd (unsure_or_read refl (is taking.unsure e))

  -- a pattern without its default value
  pattern_stop : (us vs ws : Items) (ys : List Node) → Reads assigned default_value vs ys ws → Stopped us ws → Stopped us vs
  pattern_stop us vs ws ys d s = go (default_stop vs ws ys d)
    where
      go : (ws ≡ vs) ⊎ Begins (exactly (sign (codes "="))) vs → Stopped us vs
      go (inl e) = subst (Stopped us) e s
      go (inr b) = astray (exactly (sign (codes "="))) b refl

  pub bare_pattern : (ts us : Items) → AsPattern ts us → AsItem assigned pattern ts us
  bare_pattern ts us (no_pattern h e b z) = item_refused h e b z
  bare_pattern ts us (a_pattern xs vs h ys ws d s) = stopped pattern ts us vs xs h (pattern_stop us vs ws ys d s)

  -- with it
  abbrev pub defaulted : Grammar
  defaulted = build form.Chain (pattern ▸ default_value)

  pub defaulted_pattern : (ts us : Items) → AsPattern ts us → AsItem assigned defaulted ts us
  defaulted_pattern ts us (no_pattern h e b z) = item_refused (ap (built_on form.Chain) (ap (followed_on (interp assigned (means assigned) default_value)) h)) e b z
  defaulted_pattern ts us (a_pattern xs vs h ys ws d s) =
      stopped defaulted ts us ws _ (ap (built_on form.Chain) (ap (followed_on (interp assigned (means assigned) default_value)) h ∙ ap (with_front xs) d)) s

  pub same_item : (item item' : Grammar) (ts us : Items) → interp assigned (means assigned) item ts ≡ interp assigned (means assigned) item' ts → AsItem assigned item' ts us → AsItem assigned item ts us
  same_item item item' ts us q (item_refused h e b z) = item_refused (q ∙ h) e b z
  same_item item item' ts us q (whole_item xs h) = whole_item xs (q ∙ h)
  same_item item item' ts us q (item_before xs vs e b z h) = item_before xs vs e b z (q ∙ h)

  -- as an element of an array pattern
  pub pattern_as_element : (ts us : Items) → Refuses assigned rest_pattern ts → AsPattern ts us → AsItem assigned pattern_element ts us
  unfolding pattern_element
  pattern_as_element ts us r p = same_item pattern_element defaulted ts us (ap (or_on (interp assigned (means assigned) defaulted) ts) r) (defaulted_pattern ts us p)

  -- behind `...`

  module _ (g : Gap) (ts us : Items) where
    abbrev dots : Items
    dots = it g (sign (codes "...")) ts

    no_pattern_at_dots : means assigned part.Pattern dots ≡ fails
    no_pattern_at_dots = all_refused assigned pattern (exactly (sign (codes "..."))) dots at_token no_pattern_there

    rest_refused : means assigned part.Pattern ts ≡ fails → Refuses assigned rest_pattern dots
    unfolding rest_pattern
    rest_refused h = ap (built_on (form.Node plain.RestPat)) (ap (with_front []) (ap (followed_on (interp assigned (means assigned) (put Absent))) h))

    rest_read : (xs : List Node) (vs : Items) → means assigned part.Pattern ts ≡ read xs vs → (zs : List Node) × Reads assigned rest_pattern dots zs vs
    unfolding rest_pattern
    rest_read xs vs h = (_, ap (built_on (form.Node plain.RestPat)) (ap (with_front []) (ap (followed_on (interp assigned (means assigned) (put Absent))) h)))

    pub spread_param : AsPattern ts us → AsParam assigned dots us
    spread_param (no_pattern h e b z) =
        item_refused (param_is dots ∙ ap param_on (ap (or_on (means assigned part.Pattern) dots) (rest_refused h) ∙ no_pattern_at_dots)) (exactly (sign (codes "..."))) at_token refl
    spread_param (a_pattern xs vs h ys ws d s) =
        let r = rest_read xs vs h in
        stopped param dots us ws _
        (param_is dots ∙ (ap param_on (ap (or_on (means assigned part.Pattern) dots) r.1) ∙ ap (λ o. built_on form.Param (with_front (flag_node Absent ∷ []) (built_on form.Chain (with_front (annotated r.0 ∷ []) o)))) d)) s

    pub spread_as_element : AsPattern ts us → AsItem assigned pattern_element dots us
    unfolding pattern_element
    spread_as_element (no_pattern h e b z) =
        item_refused (ap (or_on (interp assigned (means assigned) defaulted) dots) (rest_refused h) ∙ ap (built_on form.Chain) (ap (followed_on (interp assigned (means assigned) default_value)) no_pattern_at_dots))
        (exactly (sign (codes "..."))) at_token refl
    spread_as_element (a_pattern xs vs h ys ws d s) =
        let r = rest_read xs vs h in
        stopped pattern_element dots us vs r.0 (ap (or_on (interp assigned (means assigned) defaulted) dots) r.1) (pattern_stop us vs ws ys d s)

  -- as a name by itself: none stands there; or it is read, and behind it stands the end, or what ends no item

  pub data AsName (ts us : Items) : Type 0 where
    no_name : Refuses assigned names.binding_ident ts → AsName ts us
    a_name : (xs : List Node) (vs : Items) → Reads assigned names.binding_ident ts xs vs → Stopped us vs → AsName ts us

  pub as_name : (ts us : Items) → AsPattern ts us → AsName ts us
  unfolding pattern_body
  as_name ts us p = go (interp assigned (means assigned) names.binding_ident ts) refl p
    where
      is : (o : Out) → interp assigned (means assigned) names.binding_ident ts ≡ o → means assigned part.Pattern ts ≡ or_on (interp assigned (means assigned) (array_pattern // object_pattern)) ts o
      is o h = means_is assigned part.Pattern ts ∙ ap (or_on (interp assigned (means assigned) (array_pattern // object_pattern)) ts) h

      go : (o : Out) → interp assigned (means assigned) names.binding_ident ts ≡ o → AsPattern ts us → AsName ts us
      go fails h p = no_name h
      go unsure h (no_pattern k e b z) = absurd (unsure_or_fails (is unsure h) k)
      go unsure h (a_pattern xs vs k ys ws d st) = absurd (unsure_or_read (is unsure h) k)
      go (read xs vs) h (no_pattern k e b z) = absurd (read_or_fails (is (read xs vs) h) k)
      go (read xs vs) h (a_pattern xs' vs' k ys ws d st) = a_name xs vs h (subst (Stopped us) (same_end k (is (read xs vs) h)) (pattern_stop us vs' ws ys d st))

  -- a pattern in brackets or braces is read whole, or not

  pub data Wholly (ts us : Items) : Type 0 where
    wholly_refused : means assigned part.Pattern ts ≡ fails → Wholly ts us
    wholly_read : (xs : List Node) → means assigned part.Pattern ts ≡ read xs us → Wholly ts us

  pub wholly_param : (ts us ws : Items) → Refuses assigned rest_pattern ts → (e : Front) → Begins e ts → ends_no_item e ≡ true → Wholly ts us → (ys : List Node) → Reads assigned default_value us ys ws → AsParam assigned ts ws
  wholly_param ts us ws r e b z (wholly_refused h) ys d = item_refused (pattern_param ts r ∙ ap param_on h) e b z
  wholly_param ts us ws r e b z (wholly_read xs h) ys d =
      whole_item (made form.Param 0 0 (flag_node Absent ∷ made form.Chain 0 0 (annotated xs ∷ ys) ∷ []) ∷ [])
      (pattern_param ts r ∙ (ap param_on h ∙ ap (λ o. built_on form.Param (with_front (flag_node Absent ∷ []) (built_on form.Chain (with_front (annotated xs ∷ []) o)))) d))

  pub no_default : (us : Items) (e : Front) → Begins e us → refuses_at e (punct (codes "=")) ≡ true → Reads assigned default_value us [] us
  unfolding default_value
  no_default us e b z = rw (refused_at assigned (means assigned) (punct (codes "=")) e us b z) refl

  pub some_default : (ts us : Items) (n : Node) → means assigned (part.Assign false false) ts ≡ read (n ∷ []) us → Reads assigned default_value (it blank (sign (codes "=")) ts) (node_of dummy_span kind.AssignPat (flag_node Absent ∷ n ∷ []) ∷ []) us
  unfolding default_value
  some_default ts us n h = rw h refl
