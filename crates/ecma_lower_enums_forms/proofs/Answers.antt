-- Of what stands for a name, a read or a pattern, nothing has to be lowered.
use Rattle.std.proofs.Common.{◌≡◌, ℕ, Bool, true, false, cond, List, [], ◌∷◌, get_or, Option, Some, None, refl}
use Rattle.std.specs.Option.{option_and_then, option_map}
use Rattle.ecma_kind.specs.declared.ident.Ident.{Ident}
use Rattle.ecma_kind.specs.declared.kind.Kind.{Kind}
use Rattle.ecma_kind.specs.declared.kind.Kind.TheVariants as kind
use Rattle.ecma_kind.specs.declared.span.Span.{Span}
use Rattle.ecma_tree.specs.Nodes.{absent, node_of}
use Rattle.ecma_tree.specs.Sorted.{is_absent}
use Rattle.ecma_tree.specs.declared.node.Node.{Node, out-Node}
use Rattle.ecma_utils.specs.Expressions.{key_of}
use Rattle.ecma_enums.specs.KnownReads.{known_read}
use Rattle.ecma_enums.specs.Values.{expression}
use Rattle.ecma_lower_enums.specs.declared.answer.Answer.{Answer}
use Rattle.ecma_lower_enums.specs.declared.answer.Answer.TheVariants.{Instead, Pattern}
use Rattle.ecma_lower_enums.specs.declared.known.KnownEnums.{KnownEnums}
use Rattle.ecma_lower_enums.specs.declared.place.Place.{Place}
use Rattle.ecma_lower_enums.specs.declared.place.Place.TheVariants as place
use Rattle.ecma_lower_enums.specs.Forms.{member}
use Rattle.ecma_lower_enums.specs.Known.{alias_by}
use Rattle.ecma_lower_enums.specs.Writing.{answer_by, answered, bound_answer, bound_name, member_answer, name_answer, or_itself, pair, pattern_answer, read, short_answer, short_name, target_of, value_read, with_default}
use Rattle.ecma_lower_enums_forms.proofs.Made.{AllLow, IfLow, L, absent-low, framed, key-low, member-low, value-low}

module _ (enums : KnownEnums) where
  itself-low : (e : Node) (o : Option Node) → L e → IfLow o → L (or_itself e o)
  itself-low e None h g = h
  itself-low e (Some v) h g = g

  read-low : (e : Node) → L e → L (read enums e)
  read-low e h = itself-low e (value_read enums e) h (value-low (known_read enums.may_change enums.members e))

  abbrev IsLow : Option Answer → Type 0
  IsLow None = Unit
  IsLow (Some (Instead e)) = L e
  IsLow (Some (Pattern key e)) = L key × L e

  pair-low : (span : Span) (text : List ℕ) (e : Node) → L e → L (pair span text e)
  pair-low span text e h = framed span kind.KeyValueProp (key_of span text ∷ e ∷ []) refl (key-low span text, (h, tt))

  name-low : (p : Place) (span : Span) (text : List ℕ) (o : Option Ident) → IsLow (name_answer enums p span text o)
  name-low place.Read span text (Some of) = read-low (member of text) (member-low of text)
  name-low place.Target span text (Some of) = member-low of text
  name-low place.Property span text (Some of) = pair-low span text (read enums (member of text)) (read-low (member of text) (member-low of text))
  name-low _ span text o = tt

  target-low : (name : Ident) → IsLow (target_of enums name)
  target-low name = by (alias_by name.sym name.ctxt enums.names)
    where
      by : (o : Option Ident) → IsLow (option_map (λ of. Instead (member of name.sym)) o)
      by None = tt
      by (Some of) = member-low of name.sym

  bound-low : (p : Place) (cs : List Node) → IsLow (bound_answer enums p cs)
  bound-low place.Target cs = by (bound_name cs)
    where
      by : (o : Option Ident) → IsLow (option_and_then (target_of enums) o)
      by None = tt
      by (Some name) = target-low name
  bound-low _ cs = tt

  pattern-low : (name : Ident) → IsLow (pattern_answer enums name)
  pattern-low name = by (alias_by name.sym name.ctxt enums.names)
    where
      by : (o : Option Ident) → IsLow (option_map (λ of. Pattern (key_of name.span name.sym) (member of name.sym)) o)
      by None = tt
      by (Some of) = (key-low name.span name.sym, member-low of name.sym)

  short-low : (p : Place) (cs : List Node) → IsLow (short_answer enums p cs)
  short-low place.Target cs = by (short_name cs)
    where
      by : (o : Option Ident) → IsLow (option_and_then (pattern_answer enums) o)
      by None = tt
      by (Some name) = pattern-low name
  short-low _ cs = tt

  reading-low : (p : Place) (e : Node) → IsLow (member_answer enums p e)
  reading-low place.Read e = by (value_read enums e) (value-low (known_read enums.may_change enums.members e))
    where
      by : (o : Option Node) → IfLow o → IsLow (option_map Instead o)
      by None h = tt
      by (Some v) h = h
  reading-low _ e = tt

  pub answer-low : (p : Place) (span : Span) (k : Kind) (cs : List Node) → IsLow (answer_by enums p span k cs)
  unfolding answer_by
  answer-low p span (kind.Ident text ctxt optional) cs = name-low p span text (alias_by text ctxt enums.names)
  answer-low p span kind.BindingIdent cs = bound-low p cs
  answer-low p span kind.AssignPatProp cs = short-low p cs
  answer-low p span kind.MemberExpr cs = reading-low p (node_of span kind.MemberExpr cs)
  answer-low p span _ cs = tt

  second-low : (ds : List Node) → AllLow ds → L (get_or ds 1 absent)
  second-low [] h = absent-low
  second-low (d ∷ []) h = absent-low
  second-low (d ∷ e ∷ ds) h = h.1.0

  default-low : (span : Span) (e v : Node) → L e → L v → L (with_default span e v)
  default-low span e v h g = by (is_absent (out-Node v).kind)
    where
      by : (b : Bool) → L (cond b e (node_of span kind.AssignPat (e ∷ v ∷ [])))
      by true = h
      by false = framed span kind.AssignPat (e ∷ v ∷ []) refl (h, (g, tt))

  -- of what is written by an answer, over what children became
  pub answered-low : (o : Option Answer) (span : Span) (k : Kind) (ds : List Node) → IsLow o → AllLow ds → (o ≡ None → L (node_of span k ds)) → L (answered o span k ds)
  answered-low None span k ds h all base = base refl
  answered-low (Some (Instead e)) span k ds h all base = h
  answered-low (Some (Pattern key e)) span k ds h all base =
      framed span kind.KeyValuePatProp (key ∷ with_default span e (get_or ds 1 absent) ∷ []) refl (h.0, (default-low span e (get_or ds 1 absent) h.1 (second-low ds all), tt))
