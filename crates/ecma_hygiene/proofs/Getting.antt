-- Texts that are got one after the other.
use Rattle.std.proofs.Common.{◌≡◌, ℕ, ◌+◌, Bool, true, false, ◌&&◌, not, List, [], ◌∷◌, ◌++◌, drop, filter, Some, bytes_eq, refl, sym, ap, ◌∙◌, subst, slice_get, length, append_assoc}
use Rattle.std.specs.List.{list_any}
use Rattle.ecma_tree.proofs.Items.{drop-item}
use Rattle.ecma_hygiene.specs.declared.naming.Named.{Named}
use Rattle.ecma_hygiene.specs.declared.sight.Meeting.{Meeting}
use Rattle.ecma_hygiene.specs.declared.sight.Sight.{Sight}
use Rattle.ecma_hygiene.specs.Ids.{Id, same_id}
use Rattle.ecma_hygiene.proofs.Walking.{append-none, drop-none}
use Rattle.ecma_hygiene.specs.Texts.{AreTexts, GetTexts, Had, bindings, changing_bindings, had_with, is_met, is_new, new_bindings, rule, source_has, with_text}

-- with one more text
pub had-next : (names : List Named) (n : Named) (had : Had) (text : List ℕ) → had_with (names ++ n ∷ []) had text ≡ with_text n.text (had_with names had) text
had-next [] n had text = refl
had-next (m ∷ ms) n had text = had-next ms n (with_text m.text had) text

pub get-next : (may_keep : Bool) (start had after : Had) (ids : List Id) (i : ℕ) (id : Id) (names now : List Named) (n : Named) → slice_get ids i ≡ Some id
    → ((others : List Named) → GetTexts may_keep had (drop i ids) others → GetTexts may_keep start ids (names ++ others))
    → n.id ≡ id → rule may_keep had id.0 n.text → ((text : List ℕ) → after text ≡ with_text n.text had text) → now ≡ names ++ n ∷ []
    → (others : List Named) → GetTexts may_keep after (drop (i + 1) ids) others → GetTexts may_keep start ids (now ++ others)
get-next may_keep start had after ids i id names now n at so_far same gets adds is others rest =
    let more : after ≡ with_text n.text had = (λ j text. adds text j) in
    let those : GetTexts may_keep had (id ∷ drop (i + 1) ids) (n ∷ others) = (same, gets, subst (λ (h : Had). GetTexts may_keep h (drop (i + 1) ids) others) more rest) in
    subst (λ (ns : List Named). GetTexts may_keep start ids ns) (sym (ap (λ (z : List Named). z ++ others) is ∙ append_assoc names (n ∷ []) others))
    (so_far (n ∷ others) (subst (λ (l : List Id). GetTexts may_keep had l (n ∷ others)) (sym (drop-item ids i id at)) those))

-- in the end all ids have theirs
pub get-all : (may_keep : Bool) (start had : Had) (ids : List Id) (i : ℕ) (names : List Named) → length ids ≡ i
    → ((others : List Named) → GetTexts may_keep had (drop i ids) others → GetTexts may_keep start ids (names ++ others)) → GetTexts may_keep start ids names
get-all may_keep start had ids i names all so_far =
    subst (λ (ns : List Named). GetTexts may_keep start ids ns) (append-none names) (so_far [] (subst (λ (l : List Id). GetTexts may_keep had l []) (sym (drop-none ids i all)) tt))

module _ (seen : List Sight) (met : List Meeting) where
  chooses : (new meets : Id → Bool) → ((id : Id) → new id ≡ is_new seen id) → ((id : Id) → meets id ≡ list_any (λ (m : Meeting). same_id m.binding id && not (new m.name)) met)
      → filter (λ (id : Id). not (new id) && meets id) (bindings seen) ≡ changing_bindings seen met
  chooses new meets tells tests =
      let news : new ≡ is_new seen = (λ j id. tells id j) in
      let meetings : meets ≡ is_met seen met = (λ j id. (tests id ∙ ap (λ (f : Id → Bool). list_any (λ (m : Meeting). same_id m.binding id && not (f m.name)) met) news) j) in
      (λ j. filter (λ (id : Id). not (news j id) && meetings j id) (bindings seen))

  pub texts-are : (new : Id → Bool) (first after : Had) (meets : Id → Bool) (fresh changing : List Id) (names changed all : List Named) → ((id : Id) → new id ≡ is_new seen id)
      → ((id : Id) → meets id ≡ list_any (λ (m : Meeting). same_id m.binding id && not (new m.name)) met) → ((text : List ℕ) → first text ≡ list_any (λ (x : Sight). bytes_eq x.id.0 text && not (new x.id)) seen)
      → fresh ≡ filter new (bindings seen) → changing ≡ filter (λ (id : Id). not (new id) && meets id) (bindings seen) → GetTexts true first fresh names → ((text : List ℕ) → after text ≡ had_with names first text)
      → GetTexts false after changing changed → all ≡ names ++ changed → AreTexts seen met all
  texts-are new first after meets fresh changing names changed all tells tests has take change gets adds others is =
      let news : new ≡ is_new seen = (λ j id. tells id j) in
      let firsts : first ≡ source_has seen = (λ j text. (has text ∙ ap (λ (f : Id → Bool). list_any (λ (x : Sight). bytes_eq x.id.0 text && not (f x.id)) seen) news) j) in
      let afters : after ≡ had_with names (source_has seen) = (λ j text. (adds text ∙ ap (λ (h : Had). had_with names h text) firsts) j) in
      let takes : fresh ≡ new_bindings seen = take ∙ (λ j. filter (news j) (bindings seen)) in
      let changings : changing ≡ changing_bindings seen met = change ∙ chooses new meets tells tests in
      record {
        new = names;
        changed = changed;
        are = is;
        of_new = subst (λ (h : Had). GetTexts true h (new_bindings seen) names) firsts (subst (λ (l : List Id). GetTexts true first l names) takes gets);
        of_changed = subst (λ (h : Had). GetTexts false h (changing_bindings seen met) changed) afters (subst (λ (l : List Id). GetTexts false after l changed) changings others);
      }

  -- where no binding is new, and none changes, no text is got
  pub no-texts-are : (new meets : Id → Bool) (fresh changing : List Id) → ((id : Id) → new id ≡ is_new seen id) → ((id : Id) → meets id ≡ list_any (λ (m : Meeting). same_id m.binding id && not (new m.name)) met)
      → fresh ≡ filter new (bindings seen) → changing ≡ filter (λ (id : Id). not (new id) && meets id) (bindings seen) → fresh ≡ [] → changing ≡ [] → AreTexts seen met []
  no-texts-are new meets fresh changing tells tests take change none-new none-changing =
      let news : new ≡ is_new seen = (λ j id. tells id j) in
      let takes : [] ≡ new_bindings seen = sym none-new ∙ take ∙ (λ j. filter (news j) (bindings seen)) in
      let changings : [] ≡ changing_bindings seen met = sym none-changing ∙ change ∙ chooses new meets tells tests in
      record {
        new = [];
        changed = [];
        are = refl;
        of_new = subst (λ (l : List Id). GetTexts true (source_has seen) l []) takes tt;
        of_changed = subst (λ (l : List Id). GetTexts false (source_has seen) l []) changings tt;
      }
