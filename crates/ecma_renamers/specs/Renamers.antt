-- The renamings: other contexts, other ids, and one identifier for another.
use Rattle.std.specs.Prelude.{ℕ, Bool, true, false, ◌&&◌, not, List, Option, Some, None, bytes_eq, nat_eq, if◌then◌else◌}
use Rattle.std.specs.Option.{option_map}
use Rattle.std.specs.HashMap.{get}
use Rattle.ecma_kind.specs.declared.ident.Ident.{Ident}
use Rattle.ecma_kind.specs.declared.kind.Kind.{Kind}
use Rattle.ecma_kind.specs.declared.kind.Kind.TheVariants as kind
use Rattle.ecma_renamers.specs.declared.rule.Rule.{Rule}
use Rattle.ecma_renamers.specs.declared.rule.Rule.TheVariants as rule
use Rattle.ecma_renamers.specs.Renaming.{Renaming}

-- a text and a context
abbrev pub Id : Type 0
Id = List ℕ × ℕ

abbrev pub same_id : Id → Id → Bool
same_id a b = bytes_eq a.0 b.0 && nat_eq a.1 b.1

abbrev pub ident_id : Ident → Id
ident_id ident = (ident.sym, ident.ctxt)

-- whether two identifiers have other ids
abbrev pub have_other_ids : Ident → Ident → Bool
have_other_ids old new = not (same_id (ident_id old) (ident_id new))

abbrev pub no_kind : Kind → Bool
no_kind _ = false

abbrev pub is_export_specifier : Kind → Bool
is_export_specifier (kind.ExportNamedSpecifier is_type_only) = true
is_export_specifier _ = false

-- the identifier with another context
abbrev pub in_context : Ident → ℕ → Ident
in_context ident ctxt = record ident { ctxt = ctxt }

abbrev pub with_id : Ident → Id → Ident
with_id ident id = record ident { sym = id.0; ctxt = id.1 }

-- contexts by ids: nothing else changes
abbrev pub context_renaming : (Id → Option ℕ) → Renaming
context_renaming contexts = record { change = λ ident. option_map (in_context ident) (contexts (ident_id ident)); parts = λ old new. false; splits = no_kind }

-- ids by ids; of an exported name the one that others know stays
--   export { x };        // where x becomes y: export { y as x };
--   export { x as z };   // export { y as z };
abbrev pub id_renaming : (Id → Option Id) → Renaming
id_renaming ids = record { change = λ ident. option_map (with_id ident) (ids (ident_id ident)); parts = have_other_ids; splits = is_export_specifier }

-- one identifier for an id, in specifiers too
--   export { x };   // where x becomes y: export { y };
abbrev pub ident_replacing : Id → Ident → Renaming
ident_replacing from to = record { change = λ ident. if same_id from (ident_id ident) then Some to else None; parts = have_other_ids; splits = no_kind }

-- what a rule of the code means
abbrev pub renaming_of : Rule → Renaming
renaming_of (rule.Contexts map) = context_renaming (λ id. get same_id map.now id)
renaming_of (rule.Ids map) = id_renaming (λ id. get same_id map.now id)
renaming_of (rule.One from to) = ident_replacing from.now to.now
