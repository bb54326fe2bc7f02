-- What is sound, of nodes that nothing is assigned to.
use Rattle.std.proofs.Common.{◌≡◌, ◌∙◌, ℕ, None, Some, Option, zero, suc, Bool, true, false, not, ◌&&◌, ◌||◌, List, [], ◌∷◌, map, length, refl, sym, ap, ap₂, subst, slice_get}
use Rattle.std.specs.List.{list_all}
use Rattle.std.proofs.lemmas.Bool.{and_parts, and_from}
use Rattle.ecma_kind.specs.declared.kind.Kind.{Kind}
use Rattle.ecma_kind.specs.declared.kind.Kind.TheVariants as kind
use Rattle.ecma_tree.specs.declared.node.Node.{Node, Node-F, fold-roll-Node, ind-Node, roll-Node}
use Rattle.ecma_tree.specs.Sorted.{is_absent, is_list}
use Rattle.ecma_grammar.specs.trees.Parts.{children_of, kind_of}
use Rattle.ecma_rules.specs.declared.target.Target.{Target}
use Rattle.ecma_rules.specs.declared.target.Target.TheVariants as target
use Rattle.ecma_rules.specs.Children.{holds_of, of_kind}
use Rattle.ecma_rules.specs.Finishing.{each_in, finished_at}
use Rattle.ecma_rules.specs.Targets.{first_is, is_key_value, target_in}
use Rattle.ecma_fits.specs.Branches.{holds_at, holds_at_last, last_part, takes_else, takes_else_step}
use Rattle.ecma_fits.specs.Chains.{goes_on, goes_on_step, is_behind_chain, is_link, keeps_chain}
use Rattle.ecma_fits.specs.Counts.{are, are_exports, are_imports, are_stars_or_names, ends_once, ends_template, is_attribute, is_attribute_key, is_default_import, is_empty, is_named_export, is_named_import, is_star_export, is_star_import, is_star_of, is_text, is_whole_template}
use Rattle.ecma_text_fits_parts.proofs.Sound.{holds_with, is_attribute_list, is_base, is_list_of, is_object, or_first, or_second}
use Rattle.ecma_text_fits_finished.proofs.Standing.{finished_parts}
use Rattle.ecma_text_fits_parts.proofs.Steps.{one_true}
use Rattle.ecma_text_fits_finished.proofs.Tests.{free_children, free_list, kind_at}
use Rattle.ecma_raw_roles.proofs.Walks.{free_kind, not_true}

-- a node that nothing is assigned to
abbrev pub free : Node → Node
free n = finished_at n target.Free

each_free : (target_of : ℕ → Target) (ns : List Node) → ((i : ℕ) → target_of i ≡ target.Free) → each_in target_of (map finished_at ns) ≡ map free ns
each_free target_of [] f = refl
each_free target_of (n ∷ ns) f = ap₂ (λ x xs. x ∷ xs) (ap (finished_at n) (f 0)) (each_free (λ i. target_of (suc i)) ns (λ i. f (suc i)))

pub list_free : (n : Node) → is_list (kind_of n) ≡ true → children_of (free n) ≡ map free (children_of n)
list_free n h = free_children n ∙ each_free (target_in target.Free (kind_of n)) (children_of n) (λ i. free_list (kind_of n) i h)

pub empty_each : (target_of : ℕ → Target) (ns : List Node) → is_empty (each_in target_of (map finished_at ns)) ≡ is_empty ns
empty_each target_of [] = refl
empty_each target_of (n ∷ ns) = refl

-- tests of lists

are_map : (is : Kind → Bool) (xs : List Node) → are is (map free xs) ≡ are is xs
are_map is [] = refl
are_map is (x ∷ xs) = ap₂ (λ a b. a && b) (ap is (free_kind x)) (are_map is xs)

stars_map : (xs : List Node) → are_stars_or_names (map free xs) ≡ are_stars_or_names xs
stars_map [] = refl
stars_map (x ∷ []) = ap (λ k. is_star_import k || is_named_import k) (free_kind x)
stars_map (x ∷ y ∷ ys) = are_map is_named_import (x ∷ y ∷ ys)

pub imports_map : (xs : List Node) → are_imports (map free xs) ≡ are_imports xs
imports_map [] = refl
imports_map (x ∷ xs) = ap₂ (λ a b. a || b) (stars_map (x ∷ xs)) (ap₂ (λ a b. a && b) (ap is_default_import (free_kind x)) (stars_map xs))

star_map : (source : Bool) (xs : List Node) → is_star_of source (map free xs) ≡ is_star_of source xs
star_map source [] = refl
star_map source (x ∷ []) = ap (λ k. source && is_star_export k) (free_kind x)
star_map source (x ∷ y ∷ ys) = refl

pub exports_map : (source with_them : Bool) (xs : List Node) → are_exports source with_them (map free xs) ≡ are_exports source with_them xs
exports_map source with_them xs = ap₂ (λ a b. (a || b) && (source || not with_them)) (are_map is_named_export xs) (star_map source xs)

length_map : (xs : List Node) → length (map free xs) ≡ length xs
length_map [] = refl
length_map (x ∷ xs) = ap suc (length_map xs)

ends_map : (xs : List Node) → ends_once (map free xs) ≡ ends_once xs
ends_map [] = refl
ends_map (x ∷ []) = ap ends_template (free_kind x)
ends_map (x ∷ y ∷ ys) = ap₂ (λ a b. not a && b) (ap ends_template (free_kind x)) (ends_map (y ∷ ys))

pub whole_map : (xs ys : List Node) → is_whole_template xs ys ≡ true → is_whole_template (map free xs) (map free ys) ≡ true
whole_map xs ys h = let a = length_map xs in let b = length_map ys in let c = ends_map ys in rw (a, b, c) h

pub list_of_free : (test : List Node → Bool) → ((xs : List Node) → test xs ≡ true → test (map free xs) ≡ true) → (n : Node) → is_list_of test n ≡ true → is_list_of test (free n) ≡ true
list_of_free test f n h =
    let both = and_parts (is_list (kind_of n)) (test (children_of n)) h in
    and_from (is_list (kind_of (free n))) (test (children_of (free n))) (ap is_list (free_kind n) ∙ both.0) (ap test (list_free n both.0) ∙ f (children_of n) both.1)

-- attributes

value_free : (k : Kind) → is_key_value k ≡ true → (target_in target.Free k 0 ≡ target.Free) × (target_in target.Free k 1 ≡ target.Free)
unfolding target_in
value_free kind.KeyValueProp h = (refl, refl)
value_free _ h = not_true h

object_free : (k : Kind) → is_object k ≡ true → target_in target.Free k 0 ≡ target.Free
unfolding target_in
object_free kind.ObjectLit h = refl
object_free _ h = not_true h

child_free : (is : Kind → Bool) (n : Node) (i : ℕ) → target_in target.Free (kind_of n) i ≡ target.Free → of_kind is (slice_get (children_of (free n)) i) ≡ of_kind is (slice_get (children_of n) i)
child_free is n i f = ap (λ (z : List Node). of_kind is (slice_get z i)) (free_children n) ∙ kind_at is (target_in target.Free (kind_of n)) (children_of n) i f

attribute_free : (n : Node) → is_attribute n ≡ true → is_attribute (free n) ≡ true
attribute_free n h =
    let outer = and_parts (is_key_value (kind_of n)) (of_kind is_attribute_key (slice_get (children_of n) 0) && of_kind is_text (slice_get (children_of n) 1)) h in
    let inner = and_parts (of_kind is_attribute_key (slice_get (children_of n) 0)) (of_kind is_text (slice_get (children_of n) 1)) outer.1 in
    let f = value_free (kind_of n) outer.0 in
    and_from (is_key_value (kind_of (free n))) (of_kind is_attribute_key (slice_get (children_of (free n)) 0) && of_kind is_text (slice_get (children_of (free n)) 1)) (ap is_key_value (free_kind n) ∙ outer.0)
    (and_from (of_kind is_attribute_key (slice_get (children_of (free n)) 0)) (of_kind is_text (slice_get (children_of (free n)) 1)) (child_free is_attribute_key n 0 f.0 ∙ inner.0) (child_free is_text n 1 f.1 ∙ inner.1))

all_attributes : (xs : List Node) → list_all is_attribute xs ≡ true → list_all is_attribute (map free xs) ≡ true
all_attributes [] h = refl
all_attributes (x ∷ xs) h =
    let both = and_parts (is_attribute x) (list_all is_attribute xs) h in
    and_from (is_attribute (free x)) (list_all is_attribute (map free xs)) (attribute_free x both.0) (all_attributes xs both.1)

attribute_list_free : (target_of : ℕ → Target) (cs : List Node) → target_of 0 ≡ target.Free → is_attribute_list cs ≡ true → is_attribute_list (each_in target_of (map finished_at cs)) ≡ true
attribute_list_free target_of (list ∷ []) f h = subst (λ t. is_list_of (list_all is_attribute) (finished_at list t) ≡ true) (sym f) (list_of_free (list_all is_attribute) all_attributes list h)
attribute_list_free target_of _ f h = not_true h

pub with_free : (n : Node) → holds_with n ≡ true → holds_with (free n) ≡ true
with_free n h =
    one_true (is_absent (kind_of n) && is_empty (children_of n)) (is_object (kind_of n) && is_attribute_list (children_of n)) h
    (λ e. (let both = and_parts (is_absent (kind_of n)) (is_empty (children_of n)) e in
    or_first (is_absent (kind_of (free n)) && is_empty (children_of (free n))) (is_object (kind_of (free n)) && is_attribute_list (children_of (free n)))
    (and_from (is_absent (kind_of (free n))) (is_empty (children_of (free n))) (ap is_absent (free_kind n) ∙ both.0)
    (ap is_empty (free_children n) ∙ empty_each (target_in target.Free (kind_of n)) (children_of n) ∙ both.1))))
    (λ e. (let both = and_parts (is_object (kind_of n)) (is_attribute_list (children_of n)) e in
    or_second (is_absent (kind_of (free n)) && is_empty (children_of (free n))) (is_object (kind_of (free n)) && is_attribute_list (children_of (free n)))
    (and_from (is_object (kind_of (free n))) (is_attribute_list (children_of (free n))) (ap is_object (free_kind n) ∙ both.0)
    (ap is_attribute_list (free_children n) ∙ attribute_list_free (target_in target.Free (kind_of n)) (children_of n) (object_free (kind_of n) both.0) both.1))))

-- branches

last_free : (k : Kind) (i : ℕ) → last_part k ≡ Some i → target_in target.Free k i ≡ target.Free
unfolding target_in
last_free kind.IfStmt i h = refl
last_free kind.LabeledStmt i h = refl
last_free kind.WhileStmt i h = refl
last_free kind.ForStmt i h = refl
last_free kind.ForInStmt i h = let e : 2 ≡ i = cc in subst (λ j. target_in target.Free kind.ForInStmt j ≡ target.Free) e refl
last_free (kind.ForOfStmt is_await) i h = let e : 2 ≡ i = cc in subst (λ j. target_in target.Free (kind.ForOfStmt is_await) j ≡ target.Free) e refl
last_free _ i h = cc

abbrev Takes : Node → Type 0
Takes n = takes_else (free n) ≡ takes_else n

AllTake : List Node → Type 0
AllTake ns = (target_of : ℕ → Target) (i : ℕ) → target_of i ≡ target.Free → holds_at (map takes_else (each_in target_of (map finished_at ns))) i ≡ holds_at (map takes_else ns) i

all_take : (es : List ((n : Node) × Takes n)) → AllTake (map (λ e. e.0) es)
unfolding AllTake
all_take [] target_of i f = refl
all_take (e ∷ es) target_of zero f = ap (λ t. takes_else (finished_at e.0 t)) f ∙ e.1
all_take (e ∷ es) target_of (suc i) f = all_take es (λ j. target_of (suc j)) i f

node_takes : (x : Node-F Node) → AllTake x.children → Takes (roll-Node x)
unfolding AllTake
node_takes x below =
    let now : Node-F Node = record { span = x.span; kind = x.kind; children = each_in (target_in target.Free x.kind) (map finished_at x.children) } in
    ap takes_else (finished_parts x target.Free) ∙ fold-roll-Node Bool takes_else_step now ∙ ap (λ b. is_absent x.kind || b) (by_last (last_part x.kind) refl) ∙ sym (fold-roll-Node Bool takes_else_step x)
  where
    by_last : (o : Option ℕ) → last_part x.kind ≡ o → holds_at_last (map takes_else (each_in (target_in target.Free x.kind) (map finished_at x.children))) o ≡ holds_at_last (map takes_else x.children) o
    by_last None e = refl
    by_last (Some i) e = below (target_in target.Free x.kind) i (last_free x.kind i e)

pub takes_free : (n : Node) → Takes n
takes_free = ind-Node Takes (λ x y is. node_takes x (subst (λ (z : Node-F Node). AllTake z.children) is (all_take y.children)))

-- chains

keeps_free : (k : Kind) → keeps_chain k ≡ true → target_in target.Free k 0 ≡ target.Free
unfolding target_in
keeps_free kind.TsNonNullExpr h = refl
keeps_free kind.TsInstantiation h = refl
keeps_free _ h = not_true h

abbrev Goes : Node → Type 0
Goes n = goes_on (free n) ≡ goes_on n

AllGo : List Node → Type 0
AllGo ns = (target_of : ℕ → Target) → target_of 0 ≡ target.Free → first_is (map goes_on (each_in target_of (map finished_at ns))) ≡ first_is (map goes_on ns)

all_go : (es : List ((n : Node) × Goes n)) → AllGo (map (λ e. e.0) es)
unfolding AllGo
all_go [] target_of f = refl
all_go (e ∷ es) target_of f = ap (λ t. goes_on (finished_at e.0 t)) f ∙ e.1

node_goes : (x : Node-F Node) → AllGo x.children → Goes (roll-Node x)
unfolding AllGo
node_goes x below =
    let now : Node-F Node = record { span = x.span; kind = x.kind; children = each_in (target_in target.Free x.kind) (map finished_at x.children) } in
    ap goes_on (finished_parts x target.Free) ∙ fold-roll-Node Bool goes_on_step now ∙ by_kind (keeps_chain x.kind) refl ∙ sym (fold-roll-Node Bool goes_on_step x)
  where
    by_kind : (b : Bool) → keeps_chain x.kind ≡ b
        → (is_link x.kind || (keeps_chain x.kind && first_is (map goes_on (each_in (target_in target.Free x.kind) (map finished_at x.children))))) ≡ (is_link x.kind || (keeps_chain x.kind && first_is (map goes_on x.children)))
    by_kind true e = ap (λ b. is_link x.kind || (keeps_chain x.kind && b)) (below (target_in target.Free x.kind) (keeps_free x.kind e))
    by_kind false e = rw e refl

goes_free : (n : Node) → Goes n
goes_free = ind-Node Goes (λ x y is. node_goes x (subst (λ (z : Node-F Node). AllGo z.children) is (all_go y.children)))

base_free : (k : Kind) → is_base k ≡ true → target_in target.Free k 0 ≡ target.Free
unfolding target_in
base_free kind.MemberExpr h = refl
base_free kind.OptCall h = refl
base_free _ h = not_true h

first_goes : (target_of : ℕ → Target) (cs : List Node) → target_of 0 ≡ target.Free → holds_of goes_on (slice_get (each_in target_of (map finished_at cs)) 0) ≡ holds_of goes_on (slice_get cs 0)
first_goes target_of [] f = refl
first_goes target_of (c ∷ cs) f = ap (λ t. goes_on (finished_at c t)) f ∙ goes_free c

pub behind_free : (n : Node) → is_base (kind_of n) ≡ true → is_behind_chain (free n) ≡ is_behind_chain n
behind_free n b = ap (λ (z : List Node). holds_of goes_on (slice_get z 0)) (free_children n) ∙ first_goes (target_in target.Free (kind_of n)) (children_of n) (base_free (kind_of n) b)
