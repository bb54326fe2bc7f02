-- Lists, sequences, chains, links and templates have the grades that are asked.
use Rattle.std.proofs.Common.{◌≡◌, inl, inr, Bool, true, false, ◌&&◌, ◌-◌, List, [], ◌∷◌, take, length, nat_eq, arith, refl, slice_get}
use Rattle.std.proofs.lemmas.Bool.{and_from}
use Rattle.std.specs.Prelude.{if◌then◌else◌}
use Rattle.ecma_kind.specs.declared.span.Span.{Span}
use Rattle.ecma_kind.specs.declared.kind.Kind.TheVariants as kind
use Rattle.ecma_tree.specs.declared.node.Node.{Node}
use Rattle.ecma_tree.specs.Nodes.{dummy_span, list_node}
use Rattle.ecma_grammar.specs.trees.Others.{elements, missing, sequence}
use Rattle.ecma_grammar.specs.trees.Parts.{kind_of}
use Rattle.ecma_fits.specs.Counts.{are, are_imports, are_stars_or_names, is_attribute, is_default_import, is_named_export, is_named_import, is_star_import}
use Rattle.std.specs.List.{list_all}
use Rattle.ecma_text_fits_parts.proofs.Grades.{Grade, Is, Meets, attribute, attribute_list, expression, filled, good, imports, named_export, named_exports, named_import, node_meets, star_exports}
use Rattle.ecma_text_fits_parts.proofs.MadeNodes.{all_sound}
use Rattle.ecma_text_fits_parts.proofs.Needs.{list_needs, plainly, stars_or_names, usually}
use Rattle.ecma_text_fits_parts.proofs.Sound.{Sound, or_first, or_second}
use Rattle.ecma_text_fits_parts.proofs.Throughout.{EachThroughout, Throughout, more, none, take_all}
use Rattle.ecma_text_fits_parts.proofs.Wanted.{Each, Given, Wanted, each, one}

-- what is good, and an expression too

pub made_plainly : (g : Grade) (n : Node) (w : Wanted) (xs : List Node) → (Given w xs → Throughout Sound n) → Given (plainly g w) xs → Meets g n
made_plainly good n w xs f k = (f k, refl)
made_plainly _ n w xs f k = absurd k

pub made_usually : (g : Grade) (n : Node) (w : Wanted) (xs : List Node) → (Given w xs → Is expression n) → Given (usually g w) xs → Meets g n
made_usually good n w xs f k = ((f k).0, refl)
made_usually expression n w xs f k = f k
made_usually _ n w xs f k = absurd k

-- lists

each_named : (xs : List Node) → Each named_import xs → are is_named_import xs ≡ true
each_named [] k = refl
each_named (x ∷ xs) k = and_from (is_named_import (kind_of x)) (are is_named_import xs) k.0.1 (each_named xs k.1)

each_exported : (xs : List Node) → Each named_export xs → are is_named_export xs ≡ true
each_exported [] k = refl
each_exported (x ∷ xs) k = and_from (is_named_export (kind_of x)) (are is_named_export xs) k.0.1 (each_exported xs k.1)

each_attribute : (xs : List Node) → Each attribute xs → list_all is_attribute xs ≡ true
each_attribute [] k = refl
each_attribute (x ∷ xs) k = and_from (is_attribute x) (list_all is_attribute xs) k.0.1 (each_attribute xs k.1)

names_given : (xs : List Node) → Each named_import xs → are_stars_or_names xs ≡ true
names_given [] k = refl
names_given (x ∷ []) k = or_second (is_star_import (kind_of x)) (is_named_import (kind_of x)) k.0.1
names_given (x ∷ y ∷ ys) k = each_named (x ∷ y ∷ ys) k

stars_given : (xs : List Node) → Given stars_or_names xs → (EachThroughout Sound xs) × (are_stars_or_names xs ≡ true)
stars_given xs (inl k) = (all_sound named_import xs refl k, names_given xs k)
stars_given [] (inr k) = absurd k
stars_given (x ∷ []) (inr k) = (more k.0.0 none, or_first (is_star_import (kind_of x)) (is_named_import (kind_of x)) k.0.1)
stars_given (x ∷ y ∷ ys) (inr k) = absurd k.1

are_import_list : (xs : List Node) → are_stars_or_names xs ≡ true → are_imports xs ≡ true
are_import_list [] h = refl
are_import_list (x ∷ xs) h = or_first (are_stars_or_names (x ∷ xs)) (is_default_import (kind_of x) && are_stars_or_names xs) h

imports_given : (xs : List Node) → Given (list_needs imports) xs → (EachThroughout Sound xs) × (are_imports xs ≡ true)
imports_given xs (inl k) = let s = stars_given xs k in (s.0, are_import_list xs s.1)
imports_given [] (inr k) = absurd k
imports_given (x ∷ xs) (inr k) =
    let s = stars_given xs k.1 in
    (more k.0.0 s.0, or_second (are_stars_or_names (x ∷ xs)) (is_default_import (kind_of x) && are_stars_or_names xs) (and_from (is_default_import (kind_of x)) (are_stars_or_names xs) k.0.1 s.1))

pub list_made : (g : Grade) (xs : List Node) → Given (list_needs g) xs → Meets g (list_node xs)
list_made good xs k = node_meets good dummy_span kind.List xs refl (all_sound good xs refl k) refl refl
list_made filled [] k = absurd k
list_made filled (x ∷ xs) k = node_meets filled dummy_span kind.List (x ∷ xs) refl (more k.0.0 (all_sound good xs refl k.1)) refl refl
list_made imports xs k = let s = imports_given xs k in node_meets imports dummy_span kind.List xs refl s.0 refl s.1
list_made named_exports xs k = node_meets named_exports dummy_span kind.List xs refl (all_sound named_export xs refl k) refl (each_exported xs k)
list_made star_exports [] k = absurd k
list_made star_exports (x ∷ []) k = node_meets star_exports dummy_span kind.List (x ∷ []) refl (more k.0.0 none) refl k.0.1
list_made star_exports (x ∷ y ∷ ys) k = absurd k.1
list_made attribute_list xs k = node_meets attribute_list dummy_span kind.List xs refl (all_sound attribute xs refl k) refl (each_attribute xs k)
list_made _ xs k = absurd k

pub elements_made : (g : Grade) (xs : List Node) → Given (plainly g (each good)) xs → Meets g (list_node (elements xs))
elements_made g xs k = made_plainly g (list_node (elements xs)) (each good) xs (λ e. (node_meets good dummy_span kind.List (elements xs) refl (go (missing (slice_get xs (length xs - 1))) e) refl refl).0) k
  where
    go : (b : Bool) → Each good xs → EachThroughout Sound (if b then take (length xs - 1) xs else xs)
    go true e = take_all Sound (length xs - 1) (all_sound good xs refl e)
    go false e = all_sound good xs refl e

-- sequences

sequence_is : (at : Span) (xs : List Node) → Given (one expression (each expression)) xs → Is expression (sequence at xs)
sequence_is at [] k = absurd k
sequence_is at (x ∷ []) k = k.0
sequence_is at (x ∷ y ∷ ys) k =
    let several : nat_eq (length (x ∷ y ∷ ys)) 1 ≡ false = grind arith in
    rw several (node_meets expression at kind.SeqExpr (x ∷ y ∷ ys) refl (all_sound expression (x ∷ y ∷ ys) refl k) refl refl)

pub sequence_made : (g : Grade) (at : Span) (xs : List Node) → Given (usually g (one expression (each expression))) xs → Meets g (sequence at xs)
sequence_made g at xs k = made_usually g (sequence at xs) (one expression (each expression)) xs (sequence_is at xs) k
