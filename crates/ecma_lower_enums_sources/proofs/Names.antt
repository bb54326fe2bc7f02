-- The names that matter where enums are written stand in the tree: what holds of each identifier of a tree holds of them.
use Rattle.std.proofs.Common.{◌≡◌, ℕ, suc, Bool, true, false, cond, not, ◌||◌, List, [], ◌∷◌, ◌++◌, map, Option, Some, None, refl, sym, ap, subst, slice_get}
use Rattle.std.specs.Option.{option_and_then, option_map, option_map_or}
use Rattle.ecma_kind.specs.declared.ident.Ident.{Ident}
use Rattle.ecma_kind.specs.declared.kind.Kind.{Kind}
use Rattle.ecma_kind.specs.declared.kind.Kind.TheVariants as kind
use Rattle.ecma_kind.specs.declared.span.Span.{Span}
use Rattle.ecma_tree.specs.Idents.{ident_of}
use Rattle.ecma_tree.specs.Nodes.{node_of}
use Rattle.ecma_tree.specs.declared.node.Node.{Node, out-Node}
use Rattle.ecma_tree.specs.declared.node.Node.TheViews.{out-roll-Node, roll-out-Node}
use Rattle.ecma_tree.proofs.Layers.{from_leaves_out}
use Rattle.ecma_enums.specs.Names as enum_names
use Rattle.ecma_walks.specs.Listing.{listed, listed_from, listing_step}
use Rattle.ecma_lower_enums.specs.declared.known.EnumName.{EnumName}
use Rattle.ecma_lower_enums.specs.declared.known.EnumName.TheVariants as name
use Rattle.ecma_lower_enums.specs.Known.{alias_by, enum_of, id_of, is_id, name_at, or_else, unmarked}
use Rattle.ecma_lower_enums.specs.Names.{default_name, everywhere, items_at, lacks, local_name, member_name, member_names, names_by, names_here, names_in, names_of_enum, names_of_export, specifier_by, specifier_name, specifier_names}
use Rattle.ecma_lower_enums.specs.Writing.{is_enum_kind}
use Rattle.ecma_lower_enums_sources.specs.Throughout.{Each, Throughout, more, none, throughout}
use Rattle.ecma_lower_enums_sources.proofs.Trees.{below, first-of, here}

module _ (P : Span → Kind → Type 0) where
  -- a name, as an identifier
  abbrev pub IsName : Ident → Type 0
  IsName of = P of.span (kind.Ident of.sym of.ctxt of.optional)

  abbrev pub IsNamed : Option Ident → Type 0
  IsNamed None = Unit
  IsNamed (Some of) = IsName of

  abbrev pub IsGiven : EnumName → Type 0
  IsGiven (name.Member id of) = IsName of
  IsGiven (name.Exported id) = Unit

  abbrev pub AreGiven : List EnumName → Type 0
  AreGiven [] = Unit
  AreGiven (n ∷ ns) = IsGiven n × AreGiven ns

  append-given : (ns ms : List EnumName) → AreGiven ns → AreGiven ms → AreGiven (ns ++ ms)
  append-given [] ms h g = g
  append-given (n ∷ ns) ms h g = (h.0, append-given ns ms h.1 g)

  -- ---- what a name is a member of

  one-given : (b : Bool) (of : Ident) → IsName of → IsNamed (cond b (Some of) None)
  one-given true of h = h
  one-given false of h = tt

  enum-given : (sym : List ℕ) (ctxt : ℕ) (n : EnumName) → IsGiven n → IsNamed (enum_of sym ctxt n)
  enum-given sym ctxt (name.Member id of) h = one-given (is_id id sym ctxt) of h
  enum-given sym ctxt (name.Exported id) h = tt

  either-given : (a b : Option Ident) → IsNamed a → IsNamed b → IsNamed (or_else a b)
  either-given None b h g = g
  either-given (Some of) b h g = h

  pub alias-given : (sym : List ℕ) (ctxt : ℕ) (ns : List EnumName) → AreGiven ns → IsNamed (alias_by sym ctxt ns)
  alias-given sym ctxt [] h = tt
  alias-given sym ctxt (n ∷ ns) h = either-given (enum_of sym ctxt n) (alias_by sym ctxt ns) (enum-given sym ctxt n h.0) (alias-given sym ctxt ns h.1)

  -- ---- the names of enums

  -- where those of the enums of a tree are such
  module _ (Q : Node → Type 0) (enum-named : (n : Node) → Throughout Q n → is_enum_kind (out-Node n).kind ≡ true → IsNamed (name_at (out-Node n).children)) where
    -- members have the name of their enum
    members-given : (of : Ident) → IsName of → (ms : List Node) → AreGiven (member_names of ms)
    members-given of h [] = tt
    members-given of h (m ∷ ms) = append-given (member_name of m) (member_names of ms) (by (name_at (out-Node m).children)) (members-given of h ms)
      where
        by : (o : Option Ident) → AreGiven (option_map_or (λ ident. name.Member (id_of ident) of ∷ []) o [])
        by None = tt
        by (Some ident) = (h, tt)

    enum-names-given : (cs : List Node) → IsNamed (name_at cs) → AreGiven (names_of_enum cs)
    enum-names-given cs h = by (name_at cs) h
      where
        by : (o : Option Ident) → IsNamed o → AreGiven (option_map_or (λ of. member_names of (items_at cs 1)) o [])
        by None g = tt
        by (Some of) g = members-given of g (items_at cs 1)

    local-given : (cs : List Node) → AreGiven (local_name cs)
    local-given cs = by (name_at cs)
      where
        by : (o : Option Ident) → AreGiven (option_map_or (λ ident. name.Exported (id_of ident) ∷ []) o [])
        by None = tt
        by (Some ident) = (tt, tt)

    specifier-given : (k : Kind) (cs : List Node) → AreGiven (specifier_by k cs)
    specifier-given (kind.ExportNamedSpecifier true) cs = tt
    specifier-given (kind.ExportNamedSpecifier false) cs = local-given cs
    specifier-given _ cs = tt

    specifiers-given : (ns : List Node) → AreGiven (specifier_names ns)
    specifiers-given [] = tt
    specifiers-given (n ∷ ns) = append-given (specifier_name n) (specifier_names ns) (specifier-given (out-Node n).kind (out-Node n).children) (specifiers-given ns)

    export-given : (type_only : Bool) (cs : List Node) → AreGiven (names_of_export type_only cs)
    export-given type_only cs = by (type_only || not (lacks cs 1))
      where
        by : (b : Bool) → AreGiven (cond b [] (specifier_names (items_at cs 0)))
        by true = tt
        by false = specifiers-given (items_at cs 0)

    default-given : (n : Node) → AreGiven (default_name n)
    default-given n = by (enum_names.name_at n 0)
      where
        by : (o : Option (List ℕ × ℕ)) → AreGiven (option_map_or (λ id. name.Exported id ∷ []) o [])
        by None = tt
        by (Some id) = (tt, tt)

    names-given : (k : Kind) (n : Node) (cs : List Node) → (is_enum_kind k ≡ true → IsNamed (name_at cs)) → AreGiven (names_by k n cs)
    unfolding names_by
    names-given (kind.TsEnumDecl declare is_const) n cs h = enum-names-given cs (h refl)
    names-given (kind.NamedExport type_only) n cs h = export-given type_only cs
    names-given kind.ExportDefaultExpr n cs h = default-given n
    names-given _ n cs h = tt

    abbrev names : Node → List EnumName
    names n = listed (Unit {0}) EnumName everywhere names_here n tt

    abbrev names_from : ℕ → List Node → List EnumName
    names_from i ns = listed_from (Unit {0}) EnumName (λ i. Some tt) i (map (listed (Unit {0}) EnumName everywhere names_here) ns)

    names-out : (n : Node) → names n ≡ names_here tt n ++ names_from 0 (out-Node n).children
    names-out n = ap (λ f. f tt) (from_leaves_out (Unit {0} → List EnumName) (listing_step (Unit {0}) EnumName everywhere names_here) n)

    mutual
      pub enums-given : {n : Node} → Throughout Q n → AreGiven (names_in n)
      enums-given {n} (throughout q h) =
          subst AreGiven (sym (names-out n))
          (append-given (names_here tt n) (names_from 0 (out-Node n).children) (names-given (out-Node n).kind n (out-Node n).children (enum-named n (throughout q h))) (each-given h 0))

      each-given : {ns : List Node} → Each Q ns → (i : ℕ) → AreGiven (names_from i ns)
      each-given none i = tt
      each-given (more {n} {ns} a h) i = append-given (names n) (names_from (suc i) ns) (enums-given a) (each-given h (suc i))

  -- ---- the identifiers of a tree

  module _ (Q : Node → Type 0) (given : (n : Node) → Q n → P (out-Node n).span (out-Node n).kind)
      (unmarks : (span : Span) (sym : List ℕ) (ctxt : ℕ) (optional : Bool) → P span (kind.Ident sym ctxt optional) → P span (kind.Ident sym ctxt false)) where
    named-roll : (span : Span) (k : Kind) (cs : List Node) → P span k → IsNamed (ident_of (node_of span k cs))
    named-roll span (kind.Ident text ctxt optional) cs h =
        let name : Ident = record { span = span; ctxt = ctxt; sym = text; optional = optional } in
        let is : ident_of (node_of span (kind.Ident text ctxt optional) cs) ≡ Some name = rw (out-roll-Node (record { span = span; kind = kind.Ident text ctxt optional; children = cs })) refl in
        subst IsNamed (sym is) h
    named-roll span k cs h =
        let is : ident_of (node_of span k cs) ≡ None = rw (out-roll-Node (record { span = span; kind = k; children = cs })) refl in
        subst IsNamed (sym is) tt

    ident-named : (n : Node) → P (out-Node n).span (out-Node n).kind → IsNamed (ident_of n)
    ident-named n h = subst (λ z. IsNamed (ident_of z)) (roll-out-Node n) (named-roll (out-Node n).span (out-Node n).kind (out-Node n).children h)

    unmarked-named : (o : Option Ident) → IsNamed o → IsNamed (option_map unmarked o)
    unmarked-named None h = tt
    unmarked-named (Some of) h = unmarks of.span of.sym of.ctxt of.optional h

    pub first-named : (cs : List Node) → Each Q cs → IsNamed (option_and_then ident_of (slice_get cs 0))
    first-named [] h = tt
    first-named (c ∷ cs) h = ident-named c (given c (here Q (first-of Q h)))

    pub name-named : (cs : List Node) → Each Q cs → IsNamed (name_at cs)
    name-named cs h = unmarked-named (option_and_then ident_of (slice_get cs 0)) (first-named cs h)

    -- where all identifiers are such
    pub tree-given : {n : Node} → Throughout Q n → AreGiven (names_in n)
    tree-given h = enums-given Q (λ n t e. name-named (out-Node n).children (below Q t)) h
