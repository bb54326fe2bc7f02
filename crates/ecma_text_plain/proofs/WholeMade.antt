-- Each plain form makes a whole node of what it takes.
use Rattle.std.proofs.Common.{◌≡◌, ◌∙◌, ℕ, Bool, true, false, ◌&&◌, ◌||◌, List, [], ◌∷◌, ap, refl, take}
use Rattle.std.proofs.lemmas.Bool.{and_parts}
use Rattle.ecma_kind.specs.declared.span.Span.{Span}
use Rattle.ecma_kind.specs.declared.kind.Kind.{Kind}
use Rattle.ecma_kind.specs.declared.kind.Kind.TheVariants as kind
use Rattle.ecma_tree.specs.declared.node.Node.{Node}
use Rattle.ecma_tree.specs.Nodes.{dummy_span, node_of}
use Rattle.ecma_grammar.specs.declared.production.Plain.{Plain}
use Rattle.ecma_grammar.specs.declared.production.Plain.TheVariants as plain
use Rattle.ecma_grammar.specs.declared.production.Form.{Form}
use Rattle.ecma_grammar.specs.declared.production.Form.TheVariants as form
use Rattle.ecma_grammar.specs.trees.Chains.{in_front_link, in_front_logical}
use Rattle.ecma_grammar.specs.trees.Others.{swapped}
use Rattle.ecma_grammar.specs.trees.Parts.{from_to, in_front, kind_of}
use Rattle.ecma_grammar.specs.trees.Plain.{plain_kind}
use Rattle.ecma_grammar.specs.Made.{made}
use Rattle.ecma_text_leaves.proofs.Trees.{kind_made}
use Rattle.ecma_raw_roles.proofs.Walks.{not_true}
use Rattle.ecma_text_plain.proofs.WholeForms.{annotated_good, arrow_good, class_good, declarator_good, elements_good, field_good, function_good, getter_good, headed_good, import_equals_good, member_form_good, method_good, module_form_good, parameter_good, sequence_good, setter_good, swapped_good, yield_good}
use Rattle.ecma_text_plain.proofs.WholeChains.{all_steps_good, construction_good, frames, in_front_good, link_good, list_of, logical_good, template_good}
use Rattle.ecma_plain.specs.Functions.{is_this_name}
use Rattle.ecma_plain.specs.Items.{is_external}
use Rattle.ecma_text_plain.proofs.GivenWhole.{Given, Has, Meets, anything, bare_full, calm, calm_full, calm_there_at, exactly, external, external_calm, external_there_at, fact_if, fact_made, forget, is_calm, is_calm_at, is_external_at, is_tight_list, loose, makes_calm, never, one_full, plain_other, some, sound, takes}
use Rattle.ecma_text_plain.proofs.Whole.{A, G, is_specifier, is_unusual, none, shut, take_all, whole}

first_full : (k : Kind) (xs : List Node) → is_unusual k (take 1 xs) ≡ false
first_full k [] = bare_full k
first_full k (x ∷ xs) = one_full k x

plain_named : (k : Plain) → is_this_name (plain_kind k) ≡ false
plain_named plain.BindingIdent = refl
plain_named _ = refl

-- a node of a kind: a specifier, or one whose children are whole
of_plain : (k : Plain) (g : Given) → (is_specifier (plain_kind k) || (is_calm (plain_kind k) && is_tight_list g)) ≡ true → (at : Span) (xs : List Node) → (is_tight_list g ≡ true → A xs) → G (node_of at (plain_kind k) xs)
of_plain k g e at xs f = go (is_specifier (plain_kind k)) refl e
  where
    go : (b : Bool) → is_specifier (plain_kind k) ≡ b → (b || (is_calm (plain_kind k) && is_tight_list g)) ≡ true → G (node_of at (plain_kind k) xs)
    go true s h = shut at (plain_kind k) xs s
    go false s h = let t = and_parts (is_calm (plain_kind k)) (is_tight_list g) h in whole at (plain_kind k) (calm_full (plain_kind k) xs t.0) (plain_named k) (f t.1)

made_good : (f : Form) (g : Given) → takes f g ≡ true → (lo hi : ℕ) (xs : List Node) → Has g xs → G (made f lo hi xs)
made_good (form.Node k) g e lo hi xs p = of_plain k g e (from_to lo hi) xs (λ t. forget g xs t p)
made_good (form.Bare k) g e lo hi xs p = whole (from_to lo hi) (plain_kind k) (bare_full (plain_kind k)) (plain_named k) none
made_good (form.First k) g e lo hi xs p = whole (from_to lo hi) (plain_kind k) (first_full (plain_kind k) xs) (plain_named k) (take_all 1 (forget g xs e p))
made_good (form.Swapped k) g e lo hi xs p = of_plain k g e (from_to lo hi) (swapped xs) (λ t. swapped_good (forget g xs t p))
made_good form.List g e lo hi xs p = list_of (forget g xs e p)
made_good form.Elements g e lo hi xs p = list_of (elements_good (forget g xs e p))
made_good form.Sequence g e lo hi xs p = sequence_good _ (forget g xs e p)
made_good form.Chain g e lo hi xs p = all_steps_good in_front (λ x n a b. in_front_good a b) (forget g xs e p)
made_good form.Links g e lo hi xs p = all_steps_good in_front_link (λ x n a b. link_good a b) (forget g xs e p)
made_good form.Logical g e lo hi xs p = all_steps_good in_front_logical (λ x n a b. logical_good a b) (forget g xs e p)
made_good form.Template g e lo hi xs p = template_good _ (forget g xs e p)
made_good form.Arrow g e lo hi xs p = frames 5 _ (forget g xs e p) (λ k. arrow_good _ k)
made_good form.Yield g e lo hi xs p = frames 2 _ (forget g xs e p) (λ k. yield_good _ k)
made_good form.New g e lo hi xs p = construction_good _ (forget g xs e p)
made_good form.Assertion g e lo hi xs p = not_true e
made_good form.Annotated g e lo hi xs p =
    let t = and_parts (is_tight_list g) (is_calm_at 0 g) e in
    frames 3 _ (forget g xs t.0 p) (λ k. annotated_good _ k (calm_there_at 0 g xs t.1 p))
made_good form.Declarator g e lo hi xs p =
    let t = and_parts (is_tight_list g) (is_calm_at 0 g) e in
    frames 4 _ (forget g xs t.0 p) (λ k. declarator_good _ k (calm_there_at 0 g xs t.1 p))
made_good form.Param g e lo hi xs p = frames 2 _ (forget g xs e p) (λ k. parameter_good _ k)
made_good (form.Function k) g e lo hi xs p =
    let t = and_parts (is_tight_list g) (is_calm_at 4 g && is_calm_at 6 g) e in
    let c = and_parts (is_calm_at 4 g) (is_calm_at 6 g) t.1 in
    frames 7 _ (forget g xs t.0 p) (λ a. function_good _ (plain_kind k) (plain_other k) (plain_named k) a (calm_there_at 4 g xs c.0 p) (calm_there_at 6 g xs c.1 p))
made_good form.Getter g e lo hi xs p =
    let t = and_parts (is_tight_list g) (is_calm_at 4 g) e in
    frames 5 _ (forget g xs t.0 p) (λ k. getter_good _ k (calm_there_at 4 g xs t.1 p))
made_good form.Setter g e lo hi xs p =
    let t = and_parts (is_tight_list g) (is_calm_at 2 g && is_calm_at 4 g) e in
    let c = and_parts (is_calm_at 2 g) (is_calm_at 4 g) t.1 in
    frames 5 _ (forget g xs t.0 p) (λ k. setter_good _ k (calm_there_at 2 g xs c.0 p) (calm_there_at 4 g xs c.1 p))
made_good (form.Class k is_abstract) g e lo hi xs p = frames 6 _ (forget g xs e p) (λ c. class_good _ (plain_kind k) (plain_other k) (plain_named k) is_abstract c)
made_good (form.Method k) g e lo hi xs p =
    let t = and_parts (is_tight_list g) (is_calm_at 6 g && is_calm_at 8 g) e in
    let c = and_parts (is_calm_at 6 g) (is_calm_at 8 g) t.1 in
    frames 9 _ (forget g xs t.0 p) (λ a. method_good _ k a (calm_there_at 6 g xs c.0 p) (calm_there_at 8 g xs c.1 p))
made_good form.Field g e lo hi xs p = frames 5 _ (forget g xs e p) (λ k. field_good _ k)
made_good form.Modified g e lo hi xs p = frames 2 _ (forget g xs e p) (λ k. member_form_good _ k)
made_good form.IndexSignature g e lo hi xs p = not_true e
made_good (form.Signature k) g e lo hi xs p = not_true e
made_good form.NewSignature g e lo hi xs p = not_true e
made_good form.Headed g e lo hi xs p =
    let t = and_parts (is_tight_list g) (is_calm_at 0 g) e in
    frames 2 _ (forget g xs t.0 p) (λ k. headed_good _ k (calm_there_at 0 g xs t.1 p))
made_good form.Declared g e lo hi xs p = not_true e
made_good form.Namespace g e lo hi xs p = not_true e
made_good form.ImportEquals g e lo hi xs p =
    let t = and_parts (is_tight_list g) (is_external_at 3 g) e in
    frames 4 _ (forget g xs t.0 p) (λ k. import_equals_good _ k (external_there_at 3 g xs t.1 p))
made_good form.Module g e lo hi xs p = frames 2 _ (forget g xs e p) (λ k. module_form_good _ k)

-- and where it is said that what a form makes is there and no function, it is

calm_of : (b : Bool) (n : Node) → G n → (b ≡ true → is_calm (kind_of n) ≡ true) → Meets (fact_if b) n
calm_of true n g h = (g, h refl)
calm_of false n g h = g

chained : (g : Given) (lo hi : ℕ) (xs : List Node) → Has g xs → makes_calm form.Chain g ≡ true → is_calm (kind_of (made form.Chain lo hi xs)) ≡ true
chained never lo hi xs p e = absurd p
chained anything lo hi xs p e = not_true e
chained some lo hi xs p e = not_true e
chained (exactly []) lo hi xs p e = not_true e
chained (exactly (f ∷ [])) lo hi xs p e = not_true e
chained (exactly (f ∷ loose ∷ [])) lo hi xs p e = not_true e
chained (exactly (f ∷ sound ∷ [])) lo hi xs p e = not_true e
chained (exactly (f ∷ calm ∷ [])) lo hi [] p e = absurd p
chained (exactly (f ∷ calm ∷ [])) lo hi (x ∷ []) p e = absurd p.1
chained (exactly (f ∷ calm ∷ [])) lo hi (x ∷ y ∷ []) p e = let second = p.1 in ap is_calm (kind_made _ (kind_of y) _) ∙ second.0.1
chained (exactly (f ∷ calm ∷ [])) lo hi (x ∷ y ∷ z ∷ xs) p e = let rest = p.1 in absurd rest.1
chained (exactly (f ∷ external ∷ [])) lo hi [] p e = absurd p
chained (exactly (f ∷ external ∷ [])) lo hi (x ∷ []) p e = absurd p.1
chained (exactly (f ∷ external ∷ [])) lo hi (x ∷ y ∷ []) p e = let second = p.1 in ap is_calm (kind_made _ (kind_of y) _) ∙ external_calm (kind_of y) second.0.1
chained (exactly (f ∷ external ∷ [])) lo hi (x ∷ y ∷ z ∷ xs) p e = let rest = p.1 in absurd rest.1
chained (exactly (f ∷ g ∷ h ∷ fs)) lo hi xs p e = not_true e

made_calm : (f : Form) (g : Given) (lo hi : ℕ) (xs : List Node) → Has g xs → makes_calm f g ≡ true → is_calm (kind_of (made f lo hi xs)) ≡ true
made_calm (form.Node k) g lo hi xs p e = ap is_calm (kind_made (from_to lo hi) (plain_kind k) xs) ∙ e
made_calm form.List g lo hi xs p e = ap is_calm (kind_made dummy_span kind.List xs)
made_calm form.Chain g lo hi xs p e = chained g lo hi xs p e
made_calm f g lo hi xs p e = not_true e

pub made_meets : (f : Form) (g : Given) → takes f g ≡ true → (lo hi : ℕ) (xs : List Node) → Has g xs → Meets (fact_made f g) (made f lo hi xs)
made_meets (form.Node plain.TsExternalModuleRef) g e lo hi xs p =
    (made_good (form.Node plain.TsExternalModuleRef) g e lo hi xs p, ap is_external (kind_made (from_to lo hi) kind.TsExternalModuleRef xs))
made_meets f g e lo hi xs p = calm_of (makes_calm f g) (made f lo hi xs) (made_good f g e lo hi xs p) (made_calm f g lo hi xs p)
