-- Names and members are read and written alike, by what is known of enums.
use Rattle.std.proofs.Common.{◌≡◌, refl, ℕ, List, [], ◌∷◌, Option, Some, None}
use Rattle.ecma_tree.specs.declared.node.Node.{Node}
use Rattle.ecma_enums.specs.declared.record.TsEnumRecordEntry.{TsEnumRecordEntry}
use Rattle.ecma_enums.specs.declared.value.TsEnumRecordValue.{TsEnumRecordValue}
use Rattle.ecma_enums.specs.declared.value.TsEnumRecordValue.TheVariants as constant
use Rattle.ecma_runs.specs.Values.{Value}
use Rattle.ecma_runs.specs.State.{Id, Property}
use Rattle.ecma_runs.specs.Meaning.{Evaluation}
use Rattle.ecma_runs.specs.Environment.{Reference}
use Rattle.ecma_runs.specs.Enums.{Enums, Reading, Unknown, Constant, Expected, as_value, reading_by, reading_among, reading, member_reading, enum_of, same_constant, is_data}
use Rattle.ecma_runs.specs.Expressions.{expected, known_reference, variable_named, own_member, named, written_name, identifier, written_identifier}
use Rattle.ecma_run_places.specs.Worlds.{World, Like, undefineds, nulls, truths, numbers, texts, owns, hosts, errors, neither, both, data_like, fixed_like, accessors_like, open_like}
use Rattle.ecma_run_places.specs.Alike.{Alike, LikeReference, to_variables, to_frees, to_members, to_supers, to_import_metas, to_meta_members, to_values, Contexts, first, second}
use Rattle.ecma_run_places.proofs.Combinators.{Keeps, keeps_alike, kept_bind, here_bind, bind, give_kept, outside_kept, give_alike, outside_alike, when_kept, catching_alike}
use Rattle.ecma_run_places.proofs.Records.{resolved_kept}
use Rattle.ecma_run_places.proofs.Objects.{MaybeProperty, found_from_kept}
use Rattle.ecma_run_places.proofs.Functions.{read_object_alike}

-- a constant is the same everywhere
pub as_value_like : {w : World} (v : TsEnumRecordValue) → Like w (as_value v) (as_value v)
as_value_like (constant.String text) = texts text
as_value_like (constant.Number number) = numbers number
as_value_like constant.Opaque = undefineds
as_value_like constant.Void = undefineds

-- a reading of a constant
pub data Firm : Reading → Type 0 where
  firm_unknown : Firm Unknown
  firm_constant : (v : TsEnumRecordValue) → Firm (Constant (as_value v))
  firm_expected : (v : TsEnumRecordValue) → Firm (Expected (as_value v))

by_firm : (lasting known : Option TsEnumRecordValue) → Firm (reading_by lasting known)
by_firm (Some v) known = firm_constant v
by_firm None (Some v) = firm_expected v
by_firm None None = firm_unknown

among_firm : (es : List TsEnumRecordEntry) (lasting known : Option TsEnumRecordValue) → Firm (reading_among es lasting known)
among_firm [] lasting known = firm_unknown
among_firm (e ∷ es) lasting known = by_firm lasting known

pub reading_firm : (enums : Enums) (n : Node) → Firm (reading enums n)
reading_firm enums n = among_firm enums.members _ _

member_firm : (enums : Enums) (of : Id) (key : List ℕ) → Firm (member_reading enums of key)
member_firm enums of key = among_firm enums.members _ _

-- what is found is that constant on both sides

constant_same : {w : World} (v : TsEnumRecordValue) {u u' : Value} → Like w u u' → same_constant (as_value v) u' ≡ same_constant (as_value v) u
constant_same v undefineds = refl
constant_same v nulls = refl
constant_same v (truths b) = refl
constant_same v (numbers n) = refl
constant_same v (texts t) = refl
constant_same (constant.String text) (owns p) = refl
constant_same (constant.Number number) (owns p) = refl
constant_same constant.Opaque (owns p) = refl
constant_same constant.Void (owns p) = refl
constant_same v (hosts n) = refl
constant_same v (errors k) = refl

data_same : {w : World} (v : TsEnumRecordValue) {o o' : Option Property} → MaybeProperty w o o' → is_data (as_value v) o' ≡ is_data (as_value v) o
data_same v neither = refl
data_same v (both (data_like q)) = constant_same v q
data_same v (both (fixed_like q)) = refl
data_same v (both (accessors_like g s)) = refl
data_same v (both open_like) = refl

expected_kept : {w : World} (v : TsEnumRecordValue) {r r' : Reference} → LikeReference w r r' → Keeps w LikeReference (expected (as_value v) r) (expected (as_value v) r')
expected_kept v (to_members {key = key} (owns p)) = kept_bind (found_from_kept p key) (λ _ _ o. when_kept (data_same v o) (give_kept (to_values (as_value_like v))) outside_kept)
expected_kept v (to_members undefineds) = outside_kept
expected_kept v (to_members nulls) = outside_kept
expected_kept v (to_members (truths b)) = outside_kept
expected_kept v (to_members (numbers n)) = outside_kept
expected_kept v (to_members (texts t)) = outside_kept
expected_kept v (to_members (hosts n)) = outside_kept
expected_kept v (to_members (errors k)) = outside_kept
expected_kept v (to_variables p) = outside_kept
expected_kept v to_frees = outside_kept
expected_kept v (to_supers q b) = outside_kept
expected_kept v to_import_metas = outside_kept
expected_kept v (to_meta_members q) = outside_kept
expected_kept v (to_values q) = outside_kept

pub known_reference_alike : {w : World} (c : Contexts w) {reading : Reading} → Firm reading → (e e' : Evaluation Reference) → Alike w LikeReference (e (first c)) (e' (second c))
    → Alike w LikeReference (known_reference reading e (first c)) (known_reference reading e' (second c))
known_reference_alike c firm_unknown e e' h = h
known_reference_alike c (firm_constant v) e e' h = give_alike (to_values (as_value_like v))
known_reference_alike c (firm_expected v) e e' h = bind (catching_alike h (λ _ _ _ _ _. outside_alike)) (λ _ _ _ _ r. keeps_alike (expected_kept v r))

-- names

variable_kept : {w : World} (c : Contexts w) (id : Id) → Keeps w LikeReference (variable_named id (first c)) (variable_named id (second c))
variable_kept c id = when_kept refl outside_kept (resolved_kept c.scopes c.known.declared id)

own_member_alike : {w : World} (c : Contexts w) (of : Id) (key : List ℕ) → Alike w LikeReference (own_member of key (first c)) (own_member of key (second c))
own_member_alike c of key = here_bind (resolved_kept c.scopes c.known.declared of) (λ _ _ r. bind (read_object_alike c r) (λ v u _ _ o. give_alike (to_members {key = key} o)))

named_alike : {w : World} (c : Contexts w) (o : Option Id) (id : Id) → Alike w LikeReference (named o id (first c)) (named o id (second c))
named_alike c None id = keeps_alike (variable_kept c id)
named_alike c (Some of) id = known_reference_alike c (member_firm c.known.enums of id.sym) (own_member of id.sym) (own_member of id.sym) (own_member_alike c of id.sym)

written_name_alike : {w : World} (c : Contexts w) (o : Option Id) (id : Id) → Alike w LikeReference (written_name o id (first c)) (written_name o id (second c))
written_name_alike c None id = keeps_alike (variable_kept c id)
written_name_alike c (Some of) id = own_member_alike c of id.sym

pub identifier_alike : {w : World} (c : Contexts w) (sym : List ℕ) (ctxt : ℕ) → Alike w LikeReference (identifier sym ctxt (first c)) (identifier sym ctxt (second c))
identifier_alike c sym ctxt = named_alike c (enum_of (record { sym = sym; ctxt = ctxt }) c.known.enums.names) (record { sym = sym; ctxt = ctxt })

pub written_identifier_alike : {w : World} (c : Contexts w) (sym : List ℕ) (ctxt : ℕ) → Alike w LikeReference (written_identifier sym ctxt (first c)) (written_identifier sym ctxt (second c))
written_identifier_alike c sym ctxt = written_name_alike c (enum_of (record { sym = sym; ctxt = ctxt }) c.known.enums.names) (record { sym = sym; ctxt = ctxt })
