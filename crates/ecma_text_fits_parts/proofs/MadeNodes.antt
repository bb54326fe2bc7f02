-- Nodes of a kind, lists and sequences have the grades that are asked.
use Rattle.std.proofs.Common.{◌≡◌, inl, inr, Bool, true, false, not, ◌&&◌, ◌||◌, ◌-◌, List, [], ◌∷◌, take, length, nat_le, refl, sym, ap, subst}
use Rattle.std.specs.Prelude.{if◌then◌else◌}
use Rattle.std.specs.List.{swap}
use Rattle.std.proofs.lemmas.Bool.{and_parts, and_from}
use Rattle.ecma_kind.specs.declared.span.Span.{Span}
use Rattle.ecma_kind.specs.declared.kind.Kind.{Kind}
use Rattle.ecma_kind.specs.declared.kind.Kind.TheVariants as kind
use Rattle.ecma_kind.specs.declared.operators.VarDeclKind.{VarDeclKind}
use Rattle.ecma_tree.specs.declared.node.Node.{Node}
use Rattle.ecma_tree.specs.Nodes.{node_of}
use Rattle.ecma_tree.specs.Sorted.{is_absent, is_list}
use Rattle.ecma_grammar.specs.trees.Others.{swapped}
use Rattle.ecma_grammar.specs.trees.Parts.{children_of, kind_of}
use Rattle.ecma_rules.specs.Children.{is_present}
use Rattle.ecma_rules.specs.Targets.{is_key_value}
use Rattle.ecma_fits.specs.Chains.{is_behind_chain}
use Rattle.ecma_fits.specs.Counts.{are, are_exports, are_imports, is_attribute_key, is_default_import, is_empty, is_named_export, is_named_import, is_star_export, is_star_import, is_star_of, is_text}
use Rattle.ecma_text_fits_parts.proofs.Grades.{Grade, Is, Meets, a_text, absent, allowed, attribute, attribute_key, attribute_list, attributes, base, closed, default_import, expression, filled, good, head, is_closed, is_expression, is_head, is_link, is_member_grade, link, member, mild, named_export, named_exports, named_import, node_meets, pattern, present, star_export, star_import}
use Rattle.ecma_text_fits_parts.proofs.Needs.{bare_needs, first_needs, head_needs, if_so, import_parts, is_quiet, kind_needs, named_parts, node_needs, star_parts, swapped_needs, three, try_parts, two}
use Rattle.ecma_text_fits_parts.proofs.Sound.{Sound, holds_with, is_attribute_list, is_base, is_list_of, is_mild, is_object, is_pair, is_pattern, is_triple, or_first, or_second}
use Rattle.ecma_text_fits_parts.proofs.Throughout.{EachThroughout, Throughout, more, none, swap_all}
use Rattle.ecma_raw_roles.proofs.Walks.{not_true}
use Rattle.ecma_text_fits_parts.proofs.Wanted.{Each, Given, Wanted, done, each, either, one, whatever}

pub given_so : (b : Bool) (w : Wanted) (xs : List Node) → Given (if_so b w) xs → (b ≡ true) × Given w xs
given_so true w xs k = (refl, k)
given_so false w xs k = absurd k

-- in a node of any grade but that of a member all nodes are sound
pub sound_of : (g : Grade) (n : Node) → is_member_grade g ≡ false → Meets g n → Throughout Sound n
sound_of member n h m = not_true (sym h)
sound_of _ n h m = m.0

pub all_sound : (g : Grade) (xs : List Node) → is_member_grade g ≡ false → Each g xs → EachThroughout Sound xs
all_sound g [] h k = none
all_sound g (x ∷ xs) h k = more (sound_of g x h k.0) (all_sound g xs h k.1)

abbrev pub IsSound : Kind → List Node → Type 0
IsSound k xs = EachThroughout Sound xs × Sound k xs

-- the children of a kind

two_sound : (k : Kind) (xs : List Node) → ((a b : Node) → Sound k (a ∷ b ∷ [])) → Given two xs → IsSound k xs
two_sound k [] f g = absurd g
two_sound k (a ∷ []) f g = absurd g.1
two_sound k (a ∷ b ∷ []) f g = (more g.0.0 (more g.1.0.0 none), f a b)
two_sound k (a ∷ b ∷ c ∷ cs) f g = absurd g.1.1

three_sound : (k : Kind) (xs : List Node) → ((a b c : Node) → Sound k (a ∷ b ∷ c ∷ [])) → Given three xs → IsSound k xs
three_sound k [] f g = absurd g
three_sound k (a ∷ []) f g = absurd g.1
three_sound k (a ∷ b ∷ []) f g = absurd g.1.1
three_sound k (a ∷ b ∷ c ∷ []) f g = (more g.0.0 (more g.1.0.0 (more g.1.1.0.0 none)), f a b c)
three_sound k (a ∷ b ∷ c ∷ d ∷ ds) f g = absurd g.1.1.1

try_sound : (xs : List Node) → Given try_parts xs → IsSound kind.TryStmt xs
try_sound [] g = absurd g
try_sound (a ∷ xs) g = go xs g.0 g.1
  where
    go : (xs : List Node) → Is good a → Given (either (one present (one good done)) (one good (one present done))) xs → IsSound kind.TryStmt (a ∷ xs)
    go [] s (inl k) = absurd k
    go [] s (inr k) = absurd k
    go (b ∷ []) s (inl k) = absurd k.1
    go (b ∷ []) s (inr k) = absurd k.1
    go (b ∷ c ∷ []) s (inl k) = (more s.0 (more k.0.0 (more k.1.0.0 none)), or_first (is_present (kind_of b)) (is_present (kind_of c)) k.0.1)
    go (b ∷ c ∷ []) s (inr k) = (more s.0 (more k.0.0 (more k.1.0.0 none)), or_second (is_present (kind_of b)) (is_present (kind_of c)) k.1.0.1)
    go (b ∷ c ∷ d ∷ ds) s (inl k) = absurd k.1.1
    go (b ∷ c ∷ d ∷ ds) s (inr k) = absurd k.1.1

import_sound : (type_only : Bool) (xs : List Node) → Given import_parts xs → IsSound (kind.ImportDecl type_only) xs
import_sound type_only [] g = absurd g
import_sound type_only (a ∷ []) g = absurd g.1
import_sound type_only (a ∷ b ∷ []) g = absurd g.1.1
import_sound type_only (a ∷ b ∷ c ∷ []) g = (more g.0.0 (more g.1.0.0 (more g.1.1.0.0 none)), and_from (is_list_of are_imports a) (holds_with c) g.0.1 g.1.1.0.1)
import_sound type_only (a ∷ b ∷ c ∷ d ∷ ds) g = absurd g.1.1.1

-- the names and the source of an export, and its attributes
export_sound : (type_only : Bool) (a b c : Node) → Throughout Sound a → Throughout Sound b → Throughout Sound c → is_list (kind_of a) ≡ true
    → (are is_named_export (children_of a) || is_star_of (is_present (kind_of b)) (children_of a)) ≡ true → (is_present (kind_of b) || not (is_present (kind_of c))) ≡ true → holds_with c ≡ true
    → IsSound (kind.NamedExport type_only) (a ∷ b ∷ c ∷ [])
export_sound type_only a b c s t u list names source with_them = (
  more s (more t (more u none)),
  and_from (is_list_of (are_exports (is_present (kind_of b)) (is_present (kind_of c))) a) (holds_with c)
      (and_from (is_list (kind_of a)) (are_exports (is_present (kind_of b)) (is_present (kind_of c)) (children_of a)) list
      (and_from (are is_named_export (children_of a) || is_star_of (is_present (kind_of b)) (children_of a)) (is_present (kind_of b) || not (is_present (kind_of c))) names source)) with_them,
)

missing_present : (k : Kind) (cs : List Node) → (is_absent k && is_empty cs) ≡ true → not (is_present k) ≡ true
missing_present k cs h = let e = (and_parts (is_absent k) (is_empty cs) h).0 in rw e refl

named_exports_sound : (type_only : Bool) (a : Node) (xs : List Node) → Is named_exports a → Given (either (one present (one attributes done)) (one good (one absent done))) xs → IsSound (kind.NamedExport type_only) (a ∷ xs)
named_exports_sound type_only a [] s (inl g) = absurd g
named_exports_sound type_only a [] s (inr g) = absurd g
named_exports_sound type_only a (b ∷ []) s (inl g) = absurd g.1
named_exports_sound type_only a (b ∷ []) s (inr g) = absurd g.1
named_exports_sound type_only a (b ∷ c ∷ []) s (inl g) =
    let names = and_parts (is_list (kind_of a)) (are is_named_export (children_of a)) s.1 in
    export_sound type_only a b c s.0 g.0.0 g.1.0.0 names.0 (or_first (are is_named_export (children_of a)) (is_star_of (is_present (kind_of b)) (children_of a)) names.1)
    (or_first (is_present (kind_of b)) (not (is_present (kind_of c))) g.0.1) g.1.0.1
named_exports_sound type_only a (b ∷ c ∷ []) s (inr g) =
    let names = and_parts (is_list (kind_of a)) (are is_named_export (children_of a)) s.1 in
    export_sound type_only a b c s.0 g.0.0 g.1.0.0 names.0 (or_first (are is_named_export (children_of a)) (is_star_of (is_present (kind_of b)) (children_of a)) names.1)
    (or_second (is_present (kind_of b)) (not (is_present (kind_of c))) (missing_present (kind_of c) (children_of c) g.1.0.1))
    (or_first (is_absent (kind_of c) && is_empty (children_of c)) (is_object (kind_of c) && is_attribute_list (children_of c)) g.1.0.1)
named_exports_sound type_only a (b ∷ c ∷ d ∷ ds) s (inl g) = absurd g.1.1
named_exports_sound type_only a (b ∷ c ∷ d ∷ ds) s (inr g) = absurd g.1.1

exports_sound : (type_only : Bool) (xs : List Node) → Given (either named_parts star_parts) xs → IsSound (kind.NamedExport type_only) xs
exports_sound type_only [] (inl k) = absurd k
exports_sound type_only [] (inr k) = absurd k
exports_sound type_only (a ∷ xs) (inl k) = named_exports_sound type_only a xs k.0 k.1
exports_sound type_only (a ∷ []) (inr k) = absurd k.1
exports_sound type_only (a ∷ b ∷ []) (inr k) = absurd k.1.1
exports_sound type_only (a ∷ b ∷ c ∷ []) (inr k) =
    let there = k.1.0.1 in
    let star = and_parts (is_list (kind_of a)) (is_star_of true (children_of a)) k.0.1 in
    export_sound type_only a b c k.0.0 k.1.0.0 k.1.1.0.0 star.0
    (or_second (are is_named_export (children_of a)) (is_star_of (is_present (kind_of b)) (children_of a)) (subst (λ z. is_star_of z (children_of a) ≡ true) (sym there) star.1))
    (or_first (is_present (kind_of b)) (not (is_present (kind_of c))) there) k.1.1.0.1
exports_sound type_only (a ∷ b ∷ c ∷ d ∷ ds) (inr k) = absurd k.1.1.1

all_export_sound : (type_only : Bool) (xs : List Node) → Given (one good (one attributes done)) xs → IsSound (kind.ExportAll type_only) xs
all_export_sound type_only [] g = absurd g
all_export_sound type_only (a ∷ []) g = absurd g.1
all_export_sound type_only (a ∷ b ∷ []) g = (more g.0.0 (more g.1.0.0 none), g.1.0.1)
all_export_sound type_only (a ∷ b ∷ c ∷ cs) g = absurd g.1.1

variables_sound : (d : VarDeclKind) (declare : Bool) (xs : List Node) → Given (one filled (each good)) xs → IsSound (kind.VarDecl d declare) xs
variables_sound d declare [] g = absurd g
variables_sound d declare (a ∷ xs) g = (more g.0.0 (all_sound good xs refl g.1), g.0.1)

member_sound : (xs : List Node) → Given (one good (each good)) xs → IsSound kind.MemberExpr xs
member_sound [] g = absurd g
member_sound (a ∷ xs) g = (more g.0.0 (all_sound good xs refl g.1), refl)

link_sound : (optional : Bool) (xs : List Node) → (optional ≡ true) × Given (one base done) xs → IsSound (kind.OptChainExpr optional) xs
link_sound optional [] g = absurd g.1
link_sound optional (a ∷ []) g = (more g.1.0.0 none, and_from (is_base (kind_of a)) (optional || is_behind_chain a) g.1.0.1 (or_first optional (is_behind_chain a) g.0))
link_sound optional (a ∷ b ∷ bs) g = absurd g.1.1

kind_sound : (k : Kind) (xs : List Node) → Given (kind_needs k) xs → IsSound k xs
kind_sound kind.Absent xs g = absurd g
kind_sound kind.Tpl xs g = absurd g
kind_sound kind.SeqExpr xs g = absurd g
kind_sound kind.IfStmt xs g = absurd g
kind_sound (kind.YieldExpr delegate) xs g = absurd g
kind_sound (kind.ArrowExpr is_async is_generator) xs g = absurd g
kind_sound (kind.Constructor accessibility is_optional) xs g = absurd g
kind_sound (kind.ClassMethod k modifiers) xs g = absurd g
kind_sound (kind.PrivateMethod k modifiers) xs g = absurd g
kind_sound kind.TryStmt xs g = try_sound xs g
kind_sound (kind.VarDecl d declare) xs g = variables_sound d declare xs g
kind_sound (kind.ImportDecl type_only) xs g = import_sound type_only xs g
kind_sound (kind.NamedExport type_only) xs g = exports_sound type_only xs g
kind_sound (kind.ExportAll type_only) xs g = all_export_sound type_only xs g
kind_sound kind.MemberExpr xs g = member_sound xs g
kind_sound kind.CallExpr xs g = three_sound kind.CallExpr xs (λ a b c. refl) g
kind_sound kind.TaggedTpl xs g = three_sound kind.TaggedTpl xs (λ a b c. refl) g
kind_sound (kind.BinExpr op) xs g = two_sound (kind.BinExpr op) xs (λ a b. refl) g
kind_sound kind.WhileStmt xs g = two_sound kind.WhileStmt xs (λ a b. refl) g
kind_sound kind.LabeledStmt xs g = two_sound kind.LabeledStmt xs (λ a b. refl) g
kind_sound (kind.ForOfStmt is_await) xs g = three_sound (kind.ForOfStmt is_await) xs (λ a b c. refl) g
kind_sound (kind.OptChainExpr optional) xs g = link_sound optional xs (given_so optional (one base done) xs g)
kind_sound _ xs g = (all_sound good xs refl g, refl)

module _ (at : Span) (k : Kind) (xs : List Node) where
  -- a grade that is one of kinds
  by_kind : (g : Grade) (b : Bool) → is_member_grade g ≡ false → (b ≡ true → allowed g k xs ≡ true) → Given (if_so b (kind_needs k)) xs → Meets g (node_of at k xs)
  by_kind g b m f k' = let t = given_so b (kind_needs k) xs k' in let s = kind_sound k xs t.1 in node_meets g at k xs m s.0 s.1 (f t.0)

object_sound : (k : Kind) (cs : List Node) → is_object k ≡ true → Sound k cs
object_sound kind.ObjectLit cs h = refl
object_sound _ cs h = not_true h

key_value_sound : (k : Kind) (cs : List Node) → is_key_value k ≡ true → Sound k cs
key_value_sound kind.KeyValueProp cs h = refl
key_value_sound _ cs h = not_true h

attributes_made : (at : Span) (k : Kind) (xs : List Node) → is_object k ≡ true → Given (one attribute_list done) xs → Meets attributes (node_of at k xs)
attributes_made at k [] o g = absurd g
attributes_made at k (a ∷ []) o g =
    node_meets attributes at k (a ∷ []) refl (more g.0.0 none) (object_sound k (a ∷ []) o)
    (or_second (is_absent k && is_empty (a ∷ [])) (is_object k && is_attribute_list (a ∷ [])) (and_from (is_object k) (is_attribute_list (a ∷ [])) o g.0.1))
attributes_made at k (a ∷ b ∷ bs) o g = absurd g.1

attribute_made : (at : Span) (k : Kind) (xs : List Node) → is_key_value k ≡ true → Given (one attribute_key (one a_text done)) xs → Meets attribute (node_of at k xs)
attribute_made at k [] o g = absurd g
attribute_made at k (a ∷ []) o g = absurd g.1
attribute_made at k (a ∷ b ∷ []) o g =
    node_meets attribute at k (a ∷ b ∷ []) refl (more g.0.0 (more g.1.0.0 none)) (key_value_sound k (a ∷ b ∷ []) o)
    (and_from (is_key_value k) (is_attribute_key (kind_of a) && is_text (kind_of b)) o (and_from (is_attribute_key (kind_of a)) (is_text (kind_of b)) g.0.1 g.1.0.1))
attribute_made at k (a ∷ b ∷ c ∷ cs) o g = absurd g.1.1

triple_made : (at : Span) (k : Kind) (xs : List Node) → ((cs : List Node) → Sound k cs) → is_head k ≡ (λ cs. is_triple cs) → Given three xs → Meets head (node_of at k xs)
triple_made at k [] f e g = absurd g
triple_made at k (a ∷ []) f e g = absurd g.1
triple_made at k (a ∷ b ∷ []) f e g = absurd g.1.1
triple_made at k (a ∷ b ∷ c ∷ []) f e g = node_meets head at k (a ∷ b ∷ c ∷ []) refl (more g.0.0 (more g.1.0.0 (more g.1.1.0.0 none))) (f (a ∷ b ∷ c ∷ [])) (ap (λ t. t (a ∷ b ∷ c ∷ [])) e)
triple_made at k (a ∷ b ∷ c ∷ d ∷ ds) f e g = absurd g.1.1.1

pair_made : (at : Span) (k : Kind) (xs : List Node) → ((cs : List Node) → Sound k cs) → is_head k ≡ (λ cs. is_pair cs) → Given two xs → Meets head (node_of at k xs)
pair_made at k [] f e g = absurd g
pair_made at k (a ∷ []) f e g = absurd g.1
pair_made at k (a ∷ b ∷ []) f e g = node_meets head at k (a ∷ b ∷ []) refl (more g.0.0 (more g.1.0.0 none)) (f (a ∷ b ∷ [])) (ap (λ t. t (a ∷ b ∷ [])) e)
pair_made at k (a ∷ b ∷ c ∷ cs) f e g = absurd g.1.1

head_made : (at : Span) (k : Kind) (xs : List Node) → Given (head_needs k) xs → Meets head (node_of at k xs)
head_made at kind.ForStmt xs g = triple_made at kind.ForStmt xs (λ cs. refl) refl g
head_made at kind.ForInStmt xs g = pair_made at kind.ForInStmt xs (λ cs. refl) refl g
head_made at (kind.ForOfStmt is_await) xs g = pair_made at (kind.ForOfStmt is_await) xs (λ cs. refl) refl g
head_made at _ xs g = absurd g

pub node_made : (k : Kind) (g : Grade) (at : Span) (xs : List Node) → Given (node_needs k g) xs → Meets g (node_of at k xs)
node_made k good at xs d = let s = kind_sound k xs d in node_meets good at k xs refl s.0 s.1 refl
node_made k mild at xs d = by_kind at k xs mild (is_mild k) refl (λ e. e) d
node_made k pattern at xs d = by_kind at k xs pattern (is_pattern k) refl (λ e. e) d
node_made k link at xs d = by_kind at k xs link (is_link k) refl (λ e. e) d
node_made k base at xs d = by_kind at k xs base (is_base k) refl (λ e. e) d
node_made k expression at xs d = by_kind at k xs expression (is_expression k) refl (λ e. e) d
node_made k present at xs d = by_kind at k xs present (is_present k) refl (λ e. e) d
node_made k closed at xs d = by_kind at k xs closed (is_closed k) refl (λ e. e) d
node_made k head at xs d = head_made at k xs d
node_made k named_import at xs d = by_kind at k xs named_import (is_named_import k) refl (λ e. e) d
node_made k star_import at xs d = by_kind at k xs star_import (is_star_import k) refl (λ e. e) d
node_made k default_import at xs d = by_kind at k xs default_import (is_default_import k) refl (λ e. e) d
node_made k named_export at xs d = by_kind at k xs named_export (is_named_export k) refl (λ e. e) d
node_made k star_export at xs d = by_kind at k xs star_export (is_star_export k) refl (λ e. e) d
node_made k attributes at xs d = let t = given_so (is_object k) (one attribute_list done) xs d in attributes_made at k xs t.0 t.1
node_made k attribute at xs d = let t = given_so (is_key_value k) (one attribute_key (one a_text done)) xs d in attribute_made at k xs t.0 t.1
node_made k _ at xs d = absurd d

-- kinds that are sound whatever stands in them

pub quiet_sound : (k : Kind) (cs : List Node) → is_quiet k ≡ true → Sound k cs
quiet_sound kind.TsType cs h = refl
quiet_sound kind.TsTypeParamDecl cs h = refl
quiet_sound kind.TsTypeParamInstantiation cs h = refl
quiet_sound (kind.TsTypeAliasDecl declare) cs h = refl
quiet_sound (kind.TsInterfaceDecl declare) cs h = refl
quiet_sound kind.DoWhileStmt cs h = refl
quiet_sound (kind.ImportNamedSpecifier is_type_only) cs h = refl
quiet_sound kind.OptCall cs h = refl
quiet_sound kind.FnExpr cs h = refl
quiet_sound (kind.FnDecl declare) cs h = refl
quiet_sound kind.MethodProp cs h = refl
quiet_sound kind.ClassExpr cs h = refl
quiet_sound (kind.ClassDecl declare) cs h = refl
quiet_sound _ cs h = not_true h

pub quiet_expression : (k : Kind) → is_quiet k ≡ true → is_expression k ≡ true
quiet_expression kind.Absent h = not_true h
quiet_expression (kind.TplElement raw cooked tail) h = not_true h
quiet_expression _ h = refl

pub quiet_closed : (k : Kind) → is_quiet k ≡ true → is_closed k ≡ true
quiet_closed kind.Absent h = not_true h
quiet_closed kind.IfStmt h = not_true h
quiet_closed kind.LabeledStmt h = not_true h
quiet_closed kind.WhileStmt h = not_true h
quiet_closed kind.ForStmt h = not_true h
quiet_closed kind.ForInStmt h = not_true h
quiet_closed (kind.ForOfStmt is_await) h = not_true h
quiet_closed _ h = refl

pub bare_made : (k : Kind) (g : Grade) (at : Span) (xs : List Node) → Given (bare_needs k g) xs → Meets g (node_of at k [])
bare_made k good at xs d = let t = given_so (is_quiet k) whatever xs d in node_meets good at k [] refl none (quiet_sound k [] t.0) refl
bare_made k _ at xs d = absurd d

front_sound : (xs : List Node) → Given (one good whatever) xs → EachThroughout Sound (take 1 xs)
front_sound [] e = absurd e
front_sound (x ∷ xs) e = more e.0.0 none

pub first_made : (k : Kind) (g : Grade) (at : Span) (xs : List Node) → Given (first_needs k g) xs → Meets g (node_of at k (take 1 xs))
first_made k good at xs d = let t = given_so (is_quiet k) (one good whatever) xs d in node_meets good at k (take 1 xs) refl (front_sound xs t.1) (quiet_sound k (take 1 xs) t.0) refl
first_made k closed at xs d = let t = given_so (is_quiet k) (one good whatever) xs d in node_meets closed at k (take 1 xs) refl (front_sound xs t.1) (quiet_sound k (take 1 xs) t.0) (quiet_closed k t.0)
first_made k _ at xs d = absurd d

swapped_sound : (xs : List Node) → Each good xs → EachThroughout Sound (swapped xs)
swapped_sound xs k = go (nat_le 2 (length xs))
  where
    go : (b : Bool) → EachThroughout Sound (if b then swap xs (length xs - 2) (length xs - 1) else xs)
    go true = swap_all Sound (length xs - 2) (length xs - 1) (all_sound good xs refl k)
    go false = all_sound good xs refl k

pub swapped_made : (k : Kind) (g : Grade) (at : Span) (xs : List Node) → Given (swapped_needs k g) xs → Meets g (node_of at k (swapped xs))
swapped_made k good at xs d = let t = given_so (is_quiet k) (each good) xs d in node_meets good at k (swapped xs) refl (swapped_sound xs t.1) (quiet_sound k (swapped xs) t.0) refl
swapped_made k closed at xs d = let t = given_so (is_quiet k) (each good) xs d in node_meets closed at k (swapped xs) refl (swapped_sound xs t.1) (quiet_sound k (swapped xs) t.0) (quiet_closed k t.0)
swapped_made k base at xs d =
    let t = given_so (is_quiet k && is_base k) (each good) xs d in
    let both = and_parts (is_quiet k) (is_base k) t.0 in
    node_meets base at k (swapped xs) refl (swapped_sound xs t.1) (quiet_sound k (swapped xs) both.0) both.1
swapped_made k named_import at xs d =
    let t = given_so (is_quiet k && is_named_import k) (each good) xs d in
    let both = and_parts (is_quiet k) (is_named_import k) t.0 in
    node_meets named_import at k (swapped xs) refl (swapped_sound xs t.1) (quiet_sound k (swapped xs) both.0) both.1
swapped_made k _ at xs d = absurd d
