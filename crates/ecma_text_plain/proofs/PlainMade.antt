-- Each plain form makes a plain node of what it takes.
use Rattle.std.proofs.Common.{◌≡◌, ℕ, Bool, true, false, not, List, [], ◌∷◌, refl, subst, sym}
use Rattle.std.proofs.lemmas.Bool.{and_parts}
use Rattle.ecma_kind.specs.declared.kind.Kind.TheVariants as kind
use Rattle.ecma_tree.specs.declared.node.Node.{Node}
use Rattle.ecma_tree.specs.Nodes.{dummy_span, list_node}
use Rattle.ecma_grammar.specs.declared.production.Plain.{Plain}
use Rattle.ecma_grammar.specs.declared.production.Plain.TheVariants as plain
use Rattle.ecma_grammar.specs.declared.production.Form.{Form}
use Rattle.ecma_grammar.specs.declared.production.Form.TheVariants as form
use Rattle.ecma_grammar.specs.trees.Chains.{in_front_link, in_front_logical}
use Rattle.ecma_grammar.specs.trees.Parts.{in_front}
use Rattle.ecma_grammar.specs.trees.Plain.{plain_kind}
use Rattle.ecma_grammar.specs.Made.{made}
use Rattle.ecma_text_leaves.specs.Everywhere.{none}
use Rattle.ecma_text_leaves.proofs.Trees.{children_made, each_take}
use Rattle.ecma_raw_roles.proofs.Walks.{not_true}
use Rattle.ecma_text_plain.proofs.PlainKinds.{AllStatic, IsPlain, IsRead, is_plain_kind}
use Rattle.ecma_text_plain.proofs.PlainForms.{all_steps_good, annotated_good, arrow_good, class_good, construction_good, declarator_good, elements_good, field_good, frames, function_good, getter_good, headed_good, import_equals_good, in_front_good, link_good, list_of, logical_good, member_form_good, method_good, module_form_good, node, parameter_good, sequence_good, setter_good, swapped_good, template_good, yield_good}
use Rattle.ecma_text_plain.proofs.Given.{Given, Good, Has, EachMeets, Meets, anything, missing, static, statics, never, each, exactly, each_met, fact_made, fact_of_list, forget, lacking, lacks, static_first, takes}

plain_bare : (k : Plain) → IsRead (plain_kind k)
plain_bare plain.BindingIdent = tt
plain_bare _ = tt

module _ (allowed : Bool) where
  kind_plain : (k : Plain) → is_plain_kind allowed (plain_kind k) ≡ true → IsPlain allowed (plain_kind k)
  kind_plain k e = (plain_bare k, e)

  not_abstract : (b : Bool) → not b ≡ true → IsPlain allowed (kind.Class b)
  not_abstract true e = not_true e
  not_abstract false e = (tt, refl)

  made_plain : (f : Form) (g : Given) → takes allowed f g ≡ true → (lo hi : ℕ) (xs : List Node) → Has allowed g xs → Good allowed (made f lo hi xs)
  made_plain (form.Node k) g e lo hi xs p = node allowed _ (plain_kind k) (kind_plain k e) (forget allowed g xs p)
  made_plain (form.Bare k) g e lo hi xs p = node allowed _ (plain_kind k) (kind_plain k e) none
  made_plain (form.First k) g e lo hi xs p = node allowed _ (plain_kind k) (kind_plain k e) (each_take (IsPlain allowed) 1 (forget allowed g xs p))
  made_plain (form.Swapped k) g e lo hi xs p = node allowed _ (plain_kind k) (kind_plain k e) (swapped_good allowed (forget allowed g xs p))
  made_plain form.List g e lo hi xs p = list_of allowed (forget allowed g xs p)
  made_plain form.Elements g e lo hi xs p = list_of allowed (elements_good allowed (forget allowed g xs p))
  made_plain form.Sequence g e lo hi xs p = sequence_good allowed _ (forget allowed g xs p)
  made_plain form.Chain g e lo hi xs p = all_steps_good allowed in_front (λ x n a b. in_front_good allowed a b) (forget allowed g xs p)
  made_plain form.Links g e lo hi xs p = all_steps_good allowed in_front_link (λ x n a b. link_good allowed a b) (forget allowed g xs p)
  made_plain form.Logical g e lo hi xs p = all_steps_good allowed in_front_logical (λ x n a b. logical_good allowed a b) (forget allowed g xs p)
  made_plain form.Template g e lo hi xs p = template_good allowed _ (forget allowed g xs p)
  made_plain form.Arrow g e lo hi xs p = frames allowed 5 _ (forget allowed g xs p) (λ k. arrow_good allowed _ k)
  made_plain form.Yield g e lo hi xs p = frames allowed 2 _ (forget allowed g xs p) (λ k. yield_good allowed _ k)
  made_plain form.New g e lo hi xs p = construction_good allowed _ (forget allowed g xs p)
  made_plain form.Assertion g e lo hi xs p = not_true e
  made_plain form.Annotated g e lo hi xs p = frames allowed 3 _ (forget allowed g xs p) (λ k. annotated_good allowed _ k (lacking allowed 1 g xs e p))
  made_plain form.Declarator g e lo hi xs p = frames allowed 4 _ (forget allowed g xs p) (λ k. declarator_good allowed _ k (lacking allowed 1 g xs e p))
  made_plain form.Param g e lo hi xs p = frames allowed 2 _ (forget allowed g xs p) (λ k. parameter_good allowed _ k (lacking allowed 0 g xs e p))
  made_plain (form.Function k) g e lo hi xs p = frames allowed 7 _ (forget allowed g xs p) (λ c. function_good allowed _ (plain_kind k) (kind_plain k e) c)
  made_plain form.Getter g e lo hi xs p = frames allowed 5 _ (forget allowed g xs p) (λ k. getter_good allowed _ k)
  made_plain form.Setter g e lo hi xs p = frames allowed 5 _ (forget allowed g xs p) (λ k. setter_good allowed _ k)
  made_plain (form.Class k is_abstract) g e lo hi xs p =
      let both = and_parts (is_plain_kind allowed (plain_kind k)) (not is_abstract) e in
      frames allowed 6 _ (forget allowed g xs p) (λ c. class_good allowed _ (plain_kind k) is_abstract (kind_plain k both.0) (not_abstract is_abstract both.1) c)
  made_plain (form.Method k) g e lo hi xs p = frames allowed 9 _ (forget allowed g xs p) (λ c. method_good allowed _ k c (lacking allowed 3 g xs e p))
  made_plain form.Field g e lo hi xs p =
      let both = and_parts (lacks 1 g) (lacks 2 g) e in
      frames allowed 5 _ (forget allowed g xs p) (λ k. field_good allowed _ k (lacking allowed 1 g xs both.0 p) (lacking allowed 2 g xs both.1 p))
  made_plain form.Modified g e lo hi xs p = frames allowed 2 _ (forget allowed g xs p) (λ k. member_form_good allowed _ k (static_first allowed g xs e p))
  made_plain form.IndexSignature g e lo hi xs p = not_true e
  made_plain (form.Signature k) g e lo hi xs p = not_true e
  made_plain form.NewSignature g e lo hi xs p = not_true e
  made_plain form.Headed g e lo hi xs p = frames allowed 2 _ (forget allowed g xs p) (λ k. headed_good allowed _ k)
  made_plain form.Declared g e lo hi xs p = not_true e
  made_plain form.Namespace g e lo hi xs p = not_true e
  made_plain form.ImportEquals g e lo hi xs p =
      let both = and_parts allowed (lacks 1 g) e in
      frames allowed 4 _ (forget allowed g xs p) (λ k. import_equals_good allowed _ both.0 k (lacking allowed 1 g xs both.1 p))
  made_plain form.Module g e lo hi xs p = frames allowed 2 _ (forget allowed g xs p) (λ k. module_form_good allowed _ k)

  -- a list of modifiers

  statics_of : (xs : List Node) → EachMeets allowed static xs → AllStatic xs
  statics_of [] h = tt
  statics_of (x ∷ xs) h = let a = h.0 in (a.1, statics_of xs h.1)

  list_made : (g : Given) (xs : List Node) → Has allowed g xs → Meets allowed (fact_of_list g) (list_node xs)
  list_made never xs p = absurd p
  list_made (each anything) xs p = list_of allowed (each_met allowed anything xs p)
  list_made (each missing) xs p = list_of allowed (each_met allowed missing xs p)
  list_made (each static) xs p = (list_of allowed (each_met allowed static xs p), subst AllStatic (sym (children_made dummy_span kind.List xs)) (statics_of xs p))
  list_made (each statics) xs p = list_of allowed (each_met allowed statics xs p)
  list_made (exactly fs) xs p = list_of allowed (forget allowed (exactly fs) xs p)

  pub made_meets : (f : Form) (g : Given) → takes allowed f g ≡ true → (lo hi : ℕ) (xs : List Node) → Has allowed g xs → Meets allowed (fact_made f g) (made f lo hi xs)
  made_meets form.List g e lo hi xs p = list_made g xs p
  made_meets f g e lo hi xs p = made_plain f g e lo hi xs p
