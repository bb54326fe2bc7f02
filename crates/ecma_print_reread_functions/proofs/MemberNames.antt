-- What names a member of a class is read as it is laid out, and is no word that stands before a member.
use Rattle.std.proofs.Common.{◌≡◌, ℕ, Bool, true, false, List, [], ◌∷◌, ◌++◌, bytes_eq, codes, not, ◌&&◌, refl, ap}
use Rattle.ecma_lex.specs.Keys.{priv_name_end}
use Rattle.ecma_kind.specs.declared.kind.Kind.TheVariants as kind
use Rattle.ecma_tree.specs.declared.node.Node.{Node}
use Rattle.ecma_tree.specs.Nodes.{absent}
use Rattle.ecma_grammar.specs.Grammar.{word, punct}
use Rattle.ecma_grammar.specs.trees.Parts.{kind_of}
use Rattle.ecma_grammar.specs.trees.Classes.{is_private_name, is_constructor_key}
use Rattle.ecma_grammar.specs.productions.Names.{prop_start, member_start, class_element_name, prop_name, computed_prop_name, block}
use Rattle.ecma_grammar.specs.productions.Functions.{method_async}
use Rattle.ecma_grammar.specs.productions.Classes.{modifier, getter, setter}
use Rattle.ecma_print_tokens.specs.Items as items
use Rattle.ecma_print_tokens.specs.Items.{sign, no_gap, Gap, Items, it}
use Rattle.ecma_print_tokens.specs.Taking.{new_line_in}
use Rattle.ecma_print_tokens.specs.Good.{IsToken}
use Rattle.ecma_print_readings.proofs.Machine.{read}
use Rattle.ecma_shapes.specs.Shapes as shapes
use Rattle.ecma_shapes.specs.Shapes.{IsPropertyName, IsMemberName, is_private}
use Rattle.ecma_shapes.specs.MemberKinds.{names_constructor}
use Rattle.ecma_shapes.proofs.Tokens.{key_word, member_name_tokens, property_name_tokens}
use Rattle.ecma_shapes.proofs.Bare.{bare_member_name}
use Rattle.ecma_print_readings.proofs.Fronts.{exactly, at_token}
use Rattle.ecma_print_readings.proofs.Heads.{bare, nodes}
use Rattle.ecma_print_readings.proofs.Forms.{Laid, s, Reads, Refuses}
use Rattle.ecma_print_readings.proofs.Bindings.{used}
use Rattle.ecma_print_readings.proofs.Elements.{bracket_ends}
use Rattle.ecma_print_readings.proofs.Members.{name_behind}
use Rattle.ecma_print_reread_functions.proofs.Classes.{a_static_block}
use Rattle.ecma_print_reread_functions.proofs.PropertyNames.{NameForm}

pub name_private : {private : Bool} {n : Node} (is : IsMemberName private n) → is_private_name (kind_of (bare_member_name is)) ≡ is_private is
name_private (shapes.property_member (shapes.key_name k)) = simp nodes
name_private (shapes.property_member (shapes.string_name at raw t)) = simp nodes
name_private (shapes.property_member (shapes.number_name at raw t)) = simp nodes
name_private (shapes.property_member (shapes.big_int_name at raw t)) = simp nodes
name_private (shapes.property_member (shapes.computed_name at e)) = simp nodes
name_private (shapes.private_member at w t) = simp nodes

pub constructor_named : {private : Bool} {n : Node} (is : IsMemberName private n) → is_constructor_key (kind_of (bare_member_name is)) ≡ names_constructor n
constructor_named (shapes.property_member (shapes.key_name (shapes.key at w t))) = simp nodes
constructor_named (shapes.property_member (shapes.string_name at raw t)) = simp nodes
constructor_named (shapes.property_member (shapes.number_name at raw t)) = simp nodes
constructor_named (shapes.property_member (shapes.big_int_name at raw t)) = simp nodes
constructor_named (shapes.property_member (shapes.computed_name at e)) = simp nodes
constructor_named (shapes.private_member at w t) = simp nodes

not_both : (a b c : Bool) → (c && a) ≡ false → (a && (b && c)) ≡ false
not_both true true true z = z
not_both true true false z = refl
not_both true false c z = refl
not_both false b c z = refl

pub no_constructor : {private : Bool} {n : Node} (is : IsMemberName private n) (x y st : Bool) → (not st && names_constructor n) ≡ false → (is_constructor_key (kind_of (bare_member_name is)) && ((not x && not y) && not st)) ≡ false
no_constructor {n = n} is x y st z = rw (constructor_named is) (not_both (names_constructor n) (not x && not y) (not st) z)

module _ (assigned : Bool) where
  -- no word stands there, or one alone
  pub data AsWord (ts us : Items) : Type 0 where
    no_word : ((w : List ℕ) → Refuses assigned (word w) ts) → AsWord ts us
    a_word : (g : Gap) (w : List ℕ) → ts ≡ it g (items.key w) us → AsWord ts us

  -- a name as it is laid out, whatever stands behind it
  pub record ReadAsName (f : Laid) (n : Node) : Type 0 where
    pub reads : (g : Gap) (us : Items) → Reads assigned class_element_name (f g us) (n ∷ []) us
    pub starts : (g : Gap) (us : Items) → (vs : Items) × Reads assigned prop_start (f g us) [] vs
    pub no_sign : (g : Gap) (us : Items) → Refuses assigned (punct (codes "*")) (f g us) × Refuses assigned (punct (codes ";")) (f g us) × Refuses assigned (punct (codes "{")) (f g us)
    pub on_line : (g : Gap) (us : Items) → new_line_in (f g us) ≡ g.new_line
    pub as_word : (g : Gap) (us : Items) → AsWord (f g us) us

  -- what stands behind a name begins no name and no block
  pub record Behind (us : Items) : Type 0 where
    pub no_start : Refuses assigned prop_start us
    pub no_star : Refuses assigned (punct (codes "*")) us
    pub no_brace : Refuses assigned (punct (codes "{")) us

  property_name_form : {n : Node} (is : IsPropertyName n) (depth : ℕ) → NameForm assigned is depth → ReadAsName (property_name_tokens is depth) (bare_member_name (shapes.property_member is))
  unfolding class_element_name prop_name computed_prop_name prop_start
  property_name_form (shapes.key_name k) depth F = record { reads = λ g us. refl; starts = λ g us. (us, refl); no_sign = λ g us. (refl, refl, refl); on_line = λ g us. refl; as_word = λ g us. a_word g (key_word k) refl }
  property_name_form (shapes.string_name at raw t) depth F = record { reads = λ g us. refl; starts = λ g us. (us, refl); no_sign = λ g us. (refl, refl, refl); on_line = λ g us. refl; as_word = λ g us. no_word (λ w. refl) }
  property_name_form (shapes.number_name at raw t) depth F = record { reads = λ g us. refl; starts = λ g us. (us, refl); no_sign = λ g us. (refl, refl, refl); on_line = λ g us. refl; as_word = λ g us. no_word (λ w. refl) }
  property_name_form (shapes.big_int_name at raw t) depth F = record { reads = λ g us. refl; starts = λ g us. (us, refl); no_sign = λ g us. (refl, refl, refl); on_line = λ g us. refl; as_word = λ g us. no_word (λ w. refl) }
  property_name_form (shapes.computed_name at e) depth F = record {
    reads = λ g us. rw (used assigned F no_gap (s (codes "]") us) (exactly (sign (codes "]"))) at_token bracket_ends) refl;
    starts = λ g us. (_, refl);
    no_sign = λ g us. (refl, refl, refl);
    on_line = λ g us. refl;
    as_word = λ g us. no_word (λ w. refl);
  }

  private_name_form : (w : List ℕ) → IsToken priv_name_end (codes "#" ++ w) → ReadAsName (λ g us. it g (items.private_name (codes "#" ++ w)) us) (bare (kind.PrivateName w) [])
  unfolding class_element_name prop_name computed_prop_name prop_start
  private_name_form w t = record {
    reads = λ g us. ap (λ q. read (bare (kind.PrivateName q) [] ∷ []) us) (name_behind w t);
    starts = λ g us. (us, refl);
    no_sign = λ g us. (refl, refl, refl);
    on_line = λ g us. refl;
    as_word = λ g us. no_word (λ v. refl);
  }

  -- what is said of the expression of a computed name
  abbrev pub MemberNameForm : {private : Bool} {n : Node} → IsMemberName private n → ℕ → Type 0
  MemberNameForm (shapes.property_member k) depth = NameForm assigned k depth
  MemberNameForm (shapes.private_member at w t) depth = Unit {0}

  pub member_name_form : {private : Bool} {n : Node} (is : IsMemberName private n) (depth : ℕ) → MemberNameForm is depth → ReadAsName (member_name_tokens is depth) (bare_member_name is)
  member_name_form (shapes.property_member k) depth F = property_name_form k depth F
  member_name_form (shapes.private_member at w t) depth F = private_name_form w t

  module _ {f : Laid} {n : Node} (K : ReadAsName f n) (g : Gap) (us : Items) (B : Behind us) where
    pub no_getter : Refuses assigned getter (f g us)
    unfolding getter
    no_getter = go (K.as_word g us)
      where
        of_word : (h : Gap) (w : List ℕ) (b : Bool) → bytes_eq w (codes "get") ≡ b → Refuses assigned getter (it h (items.key w) us)
        of_word h w true e = rw (e, B.no_start) refl
        of_word h w false e = rw e refl

        go : AsWord (f g us) us → Refuses assigned getter (f g us)
        go (no_word a) = rw (a (codes "get")) refl
        go (a_word h w e) = rw e (of_word h w (bytes_eq w (codes "get")) refl)

    pub no_setter : Refuses assigned setter (f g us)
    unfolding setter
    no_setter = go (K.as_word g us)
      where
        of_word : (h : Gap) (w : List ℕ) (b : Bool) → bytes_eq w (codes "set") ≡ b → Refuses assigned setter (it h (items.key w) us)
        of_word h w true e = rw (e, B.no_start) refl
        of_word h w false e = rw e refl

        go : AsWord (f g us) us → Refuses assigned setter (f g us)
        go (no_word a) = rw (a (codes "set")) refl
        go (a_word h w e) = rw e (of_word h w (bytes_eq w (codes "set")) refl)

    pub no_modifier : Refuses assigned modifier (f g us)
    unfolding modifier member_start
    no_modifier = go (K.as_word g us)
      where
        of_word : (h : Gap) (w : List ℕ) (b : Bool) → bytes_eq w (codes "static") ≡ b → Refuses assigned modifier (it h (items.key w) us)
        of_word h w true e = rw (e, B.no_start, B.no_star) refl
        of_word h w false e = rw e refl

        go : AsWord (f g us) us → Refuses assigned modifier (f g us)
        go (no_word a) = rw (a (codes "static")) refl
        go (a_word h w e) = rw e (of_word h w (bytes_eq w (codes "static")) refl)

    pub no_async : Reads assigned method_async (f g us) (absent ∷ []) (f g us)
    unfolding method_async member_start
    no_async = go (K.as_word g us)
      where
        of_word : (h : Gap) (w : List ℕ) (b : Bool) → bytes_eq w (codes "async") ≡ b → (c : Bool) → new_line_in us ≡ c → Reads assigned method_async (it h (items.key w) us) (absent ∷ []) (it h (items.key w) us)
        of_word h w true e true l = rw (e, l) refl
        of_word h w true e false l = rw (e, l, B.no_start, B.no_star) refl
        of_word h w false e c l = rw e refl

        go : AsWord (f g us) us → Reads assigned method_async (f g us) (absent ∷ []) (f g us)
        go (no_word a) = rw (a (codes "async")) refl
        go (a_word h w e) = rw e (of_word h w (bytes_eq w (codes "async")) refl (new_line_in us) refl)

    pub no_static_block : Refuses assigned a_static_block (f g us)
    unfolding block
    no_static_block = go (K.as_word g us)
      where
        of_word : (h : Gap) (w : List ℕ) (b : Bool) → bytes_eq w (codes "static") ≡ b → Refuses assigned a_static_block (it h (items.key w) us)
        of_word h w true e = rw (e, B.no_brace) refl
        of_word h w false e = rw e refl

        go : AsWord (f g us) us → Refuses assigned a_static_block (f g us)
        go (no_word a) = rw (a (codes "static")) refl
        go (a_word h w e) = rw e (of_word h w (bytes_eq w (codes "static")) refl)
