-- Loops, ambient declarations, namespaces, imports by `=`, modules.
use Rattle.std.proofs.Common.{◌≡◌, ℕ, true, false, List, [], ◌∷◌, length, refl}
use Rattle.ecma_kind.specs.declared.span.Span.{Span}
use Rattle.ecma_kind.specs.declared.kind.Kind.{Kind}
use Rattle.ecma_kind.specs.declared.kind.Kind.TheVariants as kind
use Rattle.ecma_kind.specs.declared.shapes.Sort.TheVariants as sort
use Rattle.ecma_tree.specs.Nodes.{node_of}
use Rattle.ecma_tree.specs.declared.node.Node.{Node}
use Rattle.ecma_grammar.specs.trees.Parts.{kind_of, span_of, children_of, from_to, is_present, framed}
use Rattle.ecma_grammar.specs.trees.Others.{headed, declared_kind, declared, namespaces, namespace, import_equals, text_of, module_of}
use Rattle.ecma_grammar_laws.specs.RawSorts.{HasRawSort, belongs_or_super, child_shapes_raw, sorted, one, maybe}
use Rattle.ecma_grammar_laws.proofs.RawShapes.{HaveRaw, node_has, parts_of}
use Rattle.ecma_grammar_laws.proofs.Asks.{Ask, Meets, EachAndLast, these, some_and_last, Given, fits}
use Rattle.ecma_grammar_laws.proofs.Needs.{a, if_so, headed_parts, declared_parts, import_equals_parts, module_parts}
use Rattle.ecma_grammar_laws.proofs.Fits.{no, shape_fits_sound, reshaped, sorted_no_list}
use Rattle.ecma_grammar_laws.proofs.forms.Making.{given_so, made_sorted, as_sort, made_of}

pub headed_made : (q : Ask) (span : Span) (xs : List Node) → Given (if_so (fits (a sort.Stmt) q) (these headed_parts)) xs → Meets q (framed 2 (headed span) xs)
headed_made q span xs g =
    let t = given_so _ _ xs g in
    as_sort sort.Stmt q (framed 2 (headed span) xs) t.0 (made_of headed_parts (λ ys. HasRawSort sort.Stmt (framed 2 (headed span) ys)) (λ n h body hb. h span body hb) xs t.1)

-- `declare` changes no sort
declared_by : (span : Span) (k : Kind) → belongs_or_super sort.Decl k ≡ true → (cs : List Node) → HaveRaw (child_shapes_raw k (one (sorted sort.Decl)) (length cs)) cs → HasRawSort sort.Decl (node_of span (declared_kind k) cs)
declared_by span (kind.FnDecl _) b cs h = node_has span (kind.FnDecl true) cs (one (sorted sort.Decl)) b h
declared_by span (kind.ClassDecl _) b cs h = node_has span (kind.ClassDecl true) cs (one (sorted sort.Decl)) b h
declared_by span (kind.VarDecl k _) b cs h = node_has span (kind.VarDecl k true) cs (one (sorted sort.Decl)) b h
declared_by span (kind.TsInterfaceDecl _) b cs h = node_has span (kind.TsInterfaceDecl true) cs (one (sorted sort.Decl)) b h
declared_by span (kind.TsTypeAliasDecl _) b cs h = node_has span (kind.TsTypeAliasDecl true) cs (one (sorted sort.Decl)) b h
declared_by span (kind.TsEnumDecl _ c) b cs h = node_has span (kind.TsEnumDecl true c) cs (one (sorted sort.Decl)) b h
declared_by span (kind.TsModuleDecl _ c) b cs h = node_has span (kind.TsModuleDecl true c) cs (one (sorted sort.Decl)) b h
declared_by span _ b cs h = no b

pub declared_made : (q : Ask) (span : Span) (xs : List Node) → Given (if_so (fits (a sort.Decl) q) (these declared_parts)) xs → Meets q (framed 1 (declared span) xs)
declared_made q span xs g =
    let t = given_so _ _ xs g in
    as_sort sort.Decl q (framed 1 (declared span) xs) t.0
    (made_of declared_parts (λ ys. HasRawSort sort.Decl (framed 1 (declared span) ys)) (λ n h. (let w = parts_of n (one (sorted sort.Decl)) h in declared_by span (kind_of n) w.0 (children_of n) w.1)) xs t.1)

-- namespaces

namespaces_sorted : (hi : ℕ) (xs : List Node) → EachAndLast (a sort.Ident) (a sort.TsNamespaceBody) xs → HasRawSort sort.TsNamespaceBody (namespaces hi xs)
namespaces_sorted hi [] m = absurd m
namespaces_sorted hi (body ∷ []) m = m
namespaces_sorted hi (name ∷ x ∷ xs) m = made_sorted sort.TsNamespaceBody (from_to (span_of name).lo hi) (kind.TsNamespaceDecl false false) (name ∷ namespaces hi (x ∷ xs) ∷ []) refl (m.0, (namespaces_sorted hi (x ∷ xs) m.1, tt))

-- an identifier may name a namespace
ident_names : (k : Kind) → belongs_or_super sort.Ident k ≡ true → belongs_or_super sort.TsModuleName k ≡ true
ident_names (kind.Ident _ _ _) h = refl
ident_names _ h = no h

namespace_named : (span : Span) (xs : List Node) → Given (some_and_last (a sort.Ident) (a sort.TsNamespaceBody)) xs → HasRawSort sort.Decl (namespace span xs)
namespace_named span [] m = absurd m
namespace_named span (name ∷ []) m = absurd m.1
namespace_named span (name ∷ x ∷ xs) m =
    made_sorted sort.Decl span (kind.TsModuleDecl false false) (name ∷ namespaces span.hi (x ∷ xs) ∷ []) refl (
      reshaped name (one (sorted sort.Ident)) (one (sorted sort.TsModuleName)) (sorted_no_list sort.Ident (kind_of name) (parts_of name (one (sorted sort.Ident)) m.0).0) (ident_names (kind_of name) (parts_of name (one (sorted sort.Ident)) m.0).0) m.0,
      (shape_fits_sound (one (sorted sort.TsNamespaceBody)) (maybe (sorted sort.TsNamespaceBody)) (namespaces span.hi (x ∷ xs)) refl (namespaces_sorted span.hi (x ∷ xs) m.1), tt),
    )

pub namespace_made : (q : Ask) (span : Span) (xs : List Node) → Given (if_so (fits (a sort.Decl) q) (some_and_last (a sort.Ident) (a sort.TsNamespaceBody))) xs → Meets q (namespace span xs)
namespace_made q span xs g = let t = given_so _ _ xs g in as_sort sort.Decl q (namespace span xs) t.0 (namespace_named span xs t.1)

-- imports by `=`, modules

pub import_equals_made : (q : Ask) (span : Span) (xs : List Node) → Given (if_so (fits (a sort.ModuleItem) q) (these import_equals_parts)) xs → Meets q (framed 4 (import_equals span) xs)
import_equals_made q span xs g =
    let t = given_so _ _ xs g in
    as_sort sort.ModuleItem q (framed 4 (import_equals span) xs) t.0
    (made_of import_equals_parts (λ ys. HasRawSort sort.ModuleItem (framed 4 (import_equals span) ys))
    (λ export he type ht name hn reference hr. made_sorted sort.ModuleItem span (kind.TsImportEqualsDecl (is_present export) (is_present type)) (name ∷ reference ∷ []) refl (hn, (hr, tt))) xs t.1)

pub module_made : (q : Ask) (span : Span) (xs : List Node) → Given (if_so (fits (a sort.Module) q) (these module_parts)) xs → Meets q (framed 2 (module_of span) xs)
module_made q span xs g =
    let t = given_so _ _ xs g in
    as_sort sort.Module q (framed 2 (module_of span) xs) t.0
    (made_of module_parts (λ ys. HasRawSort sort.Module (framed 2 (module_of span) ys)) (λ hashbang hh items hi. made_sorted sort.Module span (kind.Module (text_of (kind_of hashbang))) (items ∷ []) refl (hi, tt)) xs t.1)
