-- Texts by which nothing is captured, with one map of contexts that keeps free names apart, are a map under which names may meet.
use Rattle.std.proofs.Common.{◌≡◌, ◌⊎◌, inl, inr, refl, sym, ap, ◌∙◌, subst, ℕ, List, [], ◌∷◌, map, ◌&&◌, Option, Some, None, Bool, true, false, bytes_eq, codes, unwrap_or}
use Rattle.std.specs.List.{All, list_all}
use Rattle.std.proofs.lemmas.List.Elements.{All-cons, All-head, All-nil, All-tail}
use Rattle.ecma_kind.specs.declared.kind.Kind.{Kind}
use Rattle.ecma_kind.specs.declared.kind.Kind.TheVariants as kind
use Rattle.ecma_tree.specs.declared.node.Node.{Node, Node-F, fold-roll-Node, ind-Node}
use Rattle.ecma_scope.specs.declared.role.Role.TheVariants as role
use Rattle.ecma_hygiene.specs.Ids.{Scope}
use Rattle.ecma_hygiene.specs.Renamed.{Texts}
use Rattle.ecma_hygiene.specs.Sights.{nowhere, own_scope}
use Rattle.ecma_hygiene.specs.Texts.{text_in}
use Rattle.ecma_hygiene.proofs.Capturing.{nothing-is-captured}
use Rattle.ecma_hygiene.proofs.Telling.{and-both, or-second, true-false}
use Rattle.ecma_runs.specs.State.{Id, default_name, same_id}
use Rattle.ecma_runs.specs.Exports.{Exported, Indirect, Local, Star, export_names, local_ids}
use Rattle.ecma_runs.specs.Observation.{exports_in}
use Rattle.ecma_runs.specs.Environment.{ids_of, is_among}
use Rattle.ecma_runs.specs.Evaluation.{meaning}
use Rattle.ecma_runs.specs.Meeting.{catches_none, exports_meet, is_told, module_meets}
use Rattle.ecma_runs.specs.Names.{TextsStay, ids_pass, passes_by, passes_here}
use Rattle.ecma_runs.proofs.Names.{among_first}
use Rattle.ecma_runs.specs.Sought.{outside_of, seeker, sought_in}
use Rattle.ecma_hygiene_meeting.specs.Laws.{FinalTextsMeet, WhatIsNotCapturedMeets, WhatMeetsMayMeet}
use Rattle.ecma_hygiene_meeting.specs.Meets.{Meets}
use Rattle.ecma_hygiene_meeting.specs.Places.{places}
use Rattle.ecma_hygiene_meeting.specs.Records.{IsFormed, IsRecord, RecordsAreScopes, declares_id}
use Rattle.ecma_hygiene_meeting.specs.Texts.{IsReadByTexts, IsRewritten, KeepsExports, KeepsFreeApart, TellsItsNames, TellsNames, sent, written}
use Rattle.ecma_hygiene_meeting.proofs.Among.{among-one, catches-true, outside-both, told-true}
use Rattle.ecma_hygiene_meeting.proofs.Clear.{Clear, Known, MayBeFree, StaysAt, catches-known, known-out, known-own, one, one-at}
use Rattle.ecma_hygiene_meeting.proofs.Fine.{Given, IsFine, good, top, top-tells}

both-all : {X : Type 0} (P Q R : X → Type 0) (xs : List X) → All P xs → All Q xs → All R xs → All (λ x. P x × (Q x × R x)) xs
both-all P Q R [] p q r = All-nil (λ x. P x × (Q x × R x))
both-all P Q R (x ∷ xs) p q r =
    All-cons (λ x. P x × (Q x × R x)) x xs (All-head P x xs p, (All-head Q x xs q, All-head R x xs r)) (both-all P Q R xs (All-tail P x xs p) (All-tail Q x xs q) (All-tail R x xs r))

-- each id stands

abbrev any : Id → Bool
any id = true

kind-stands : (k : Kind) → passes_by any k ≡ true
kind-stands (kind.Ident text ctxt optional) = refl
kind-stands _ = refl

all-stand : (ns : List ((n : Node) × (ids_pass any n ≡ true))) → list_all (λ b. b) (map (ids_pass any) (map (λ e. e.0) ns)) ≡ true
all-stand [] = refl
all-stand (n ∷ ns) = and-both (ids_pass any n.0) (list_all (λ b. b) (map (ids_pass any) (map (λ e. e.0) ns))) n.1 (all-stand ns)

stand : (n : Node) → ids_pass any n ≡ true
stand = ind-Node (λ n. ids_pass any n ≡ true) (λ x y is.
    fold-roll-Node Bool (passes_here any) x
    ∙ and-both (passes_by any x.kind) (list_all (λ b. b) (map (ids_pass any) x.children)) (kind-stands x.kind)
    (subst (λ cs. list_all (λ b. b) (map (ids_pass any) cs) ≡ true) (ap (λ (z : Node-F Node). z.children) is) (all-stand y.children)))

module _ (texts : Texts) (free : ℕ) (onto : ℕ → ℕ) (tree : Node) (records : RecordsAreScopes tree) (read : IsReadByTexts texts free tree) (keeps : KeepsFreeApart onto free)
    (stays : onto 0 ≡ 0) (exports : KeepsExports texts free tree) where
  abbrev to : Id → Id
  to = sent onto texts

  -- what is not declared keeps its text, and so does what has the empty context, or that of free names

  stays-by : (id : Id) (o : Option (List ℕ)) → texts (id.sym, id.ctxt) ≡ o → ((text : List ℕ) → IsRewritten free tree id text → ⊥) → unwrap_or o id.sym ≡ id.sym
  stays-by id None e none = refl
  stays-by id (Some text) e none = absurd (none text (read.names.given id text e))

  empty : StaysAt texts free 0
  empty text = stays-by (record { sym = text; ctxt = 0 }) (texts (text, 0)) refl (λ other g. g.inner refl)

  own_free : StaysAt texts free free
  own_free text = stays-by (record { sym = text; ctxt = free }) (texts (text, free)) refl (λ other g. g.bound refl)

  this-by : (id : Id) (o : Option (List ℕ)) → texts (id.sym, id.ctxt) ≡ o → bytes_eq (unwrap_or o id.sym) (codes "this") ≡ bytes_eq id.sym (codes "this")
  this-by id None e = refl
  this-by id (Some text) e = let g = read.names.given id text e in g.text_apart ∙ sym g.apart

  texts-stay : (ids : List Id) → All (λ id. written texts id ≡ id.sym) ids → TextsStay to ids
  texts-stay [] h = tt
  texts-stay (id ∷ ids) h = (All-head (λ id. written texts id ≡ id.sym) id ids h, texts-stay ids (All-tail (λ id. written texts id ≡ id.sym) id ids h))

  fine : IsFine texts free onto keeps empty own_free nowhere tree
  fine = good texts free onto keeps empty own_free tree nowhere tt read.not_captured (both-all IsFormed IsRecord (TellsNames texts free) (places tree) records.formed records.records read.names.told)

  abbrev locals : List Id
  locals = ids_of (meaning tree).locals

  abbrev looked_up : List Id
  looked_up = (sought_in tree).sought

  abbrev own : Scope
  own = own_scope role.Root [] tree

  abbrev given : All (Given texts free onto keeps empty own_free) (places tree)
  given = both-all IsFormed IsRecord (TellsNames texts free) (places tree) records.formed records.records read.names.told

  -- what has the empty context, or that of free names, becomes what nothing else does
  abbrev IsOuter : Id → Type 0
  IsOuter id = (id.ctxt ≡ 0) ⊎ (id.ctxt ≡ free)

  outer-one : (a b : Id) → IsOuter b → to a ≡ to b → a ≡ b
  outer-one a b (inl z) same = one-at texts free 0 empty a b (keeps.empty a.ctxt (ap (λ z. z.ctxt) same ∙ ap onto z)) z (ap (λ z. z.sym) same)
  outer-one a b (inr f) same = one-at texts free free own_free a b (keeps.free_names a.ctxt (ap (λ z. z.ctxt) same ∙ ap onto f)) f (ap (λ z. z.sym) same)

  -- so is what the module declares nowhere
  free-outer : (id : Id) → (id.ctxt ≡ 0) ⊎ (Clear texts free [] id × MayBeFree texts free [] id) → IsOuter id
  free-outer id (inl z) = inl z
  free-outer id (inr f) = inr (f.1 tt)

  away : (id : Id) → is_among id (meaning tree).declared ≡ false → (b : Bool) → declares_id own id ≡ b → declares_id own id ≡ false
  away id none true e = absurd (true-false (records.declared id e) none)
  away id none false e = e

  tells : TellsItsNames texts own
  tells = top-tells texts free onto keeps empty own_free tree nowhere records.whole tt read.not_captured given

  abbrev IsKnown : Id → Type 0
  IsKnown id = Known texts free (own ∷ []) id

  local-by : (id : Id) → (id ≡ default_name) ⊎ (declares_id own id ≡ true) → IsKnown id
  local-by id (inl d) = inl (ap (λ z. z.ctxt) d)
  local-by id (inr h) = known-own texts free [] own id h

  local-known : (id : Id) → is_among id locals ≡ true → IsKnown id
  local-known id h = local-by id (records.locals id h)

  looks : (id : Id) → is_among id looked_up ≡ true → IsKnown id
  looks = top texts free onto keeps empty own_free tree nowhere records.whole tt read.not_captured given

  in-module : module_meets to (seeker tree) ≡ true
  in-module =
      and-both (catches_none to locals looked_up) (catches_none to (meaning tree).declared (outside_of (meaning tree).declared looked_up))
      (catches-known texts free onto keeps empty own_free (own ∷ []) (tells, tt) locals looked_up local-known looks)
      (catches-true to (meaning tree).declared (outside_of (meaning tree).declared looked_up) (λ id other i o same.
      let t = outside-both id (meaning tree).declared looked_up i in outer-one other id (free-outer id (known-out texts free [] own id (away id t.1 (declares_id own id) refl) (looks id t.0))) same))

  -- the variables of the module stay two, and those that are exported beside them
  abbrev IsExported : Id → Type 0
  IsExported id = IsKnown id ⊎ (id.ctxt ≡ free)

  exported : (id : Id) → (is_among id locals ≡ true) ⊎ ((is_among id looked_up ≡ true) ⊎ (id.ctxt ≡ free)) → IsExported id
  exported id (inl h) = inl (local-known id h)
  exported id (inr (inl h)) = inl (looks id h)
  exported id (inr (inr f)) = inr f

  exported-one : (a b : Id) → IsExported a → IsExported b → to a ≡ to b → a ≡ b
  exported-one a b ea (inr f) same = outer-one a b (inr f) same
  exported-one a b (inr f) (inl k) same = sym (outer-one b a (inr f) (sym same))
  exported-one a b (inl j) (inl k) same = one texts free onto keeps empty own_free (own ∷ []) (tells, tt) a b j k same

  apart : (entries : List Exported) → ((id : Id) → is_among id (local_ids entries) ≡ true → IsExported id) → exports_meet to locals entries ≡ true
  apart [] h = refl
  apart (Local name id ∷ entries) h =
      let others = local_ids entries in
      let here = h id (among_first id others) in
      let rest : (x : Id) → is_among x others ≡ true → IsExported x = λ x i. h x (or-second (same_id id x) (is_among x others) i) in
      and-both (is_told to locals id) (catches_none to (id ∷ []) others && exports_meet to locals entries)
      (told-true to locals id (λ other o same. exported-one other id (inl (local-known other o)) here same))
      (and-both (catches_none to (id ∷ []) others) (exports_meet to locals entries)
      (catches-true to (id ∷ []) others (λ x other i o same. exported-one other x (subst IsExported (among-one id other o) here) (rest x i) same)) (apart entries rest))
  apart (Indirect name source imported ∷ entries) h = apart entries h
  apart (Star ∷ entries) h = apart entries h

  pub meet : Meets to tree
  meet = record {
    no_enums = records.no_enums;
    none_caught = fine.meets;
    in_module = in-module;
    free_texts = λ id none. stays-by id (texts (id.sym, id.ctxt)) refl (λ text g. true-false g.declared none);
    this_stays = λ id. this-by id (texts (id.sym, id.ctxt)) refl;
    exports_apart = apart (exports_in tree) (λ id h. exported id (exports.own id h));
    export_texts = texts-stay (export_names (exports_in tree)) exports.stay;
    default_stays = λ i. record { sym = empty default_name.sym i; ctxt = stays i };
  }

pub what_is_not_captured_meets : WhatIsNotCapturedMeets
what_is_not_captured_meets texts free to tree records read keeps stays exports = meet texts free to tree records read keeps stays exports

pub final_texts_meet : FinalTextsMeet
final_texts_meet names free to tree are records told keeps stays exports =
    meet (text_in names) free to tree records (record { not_captured = nothing-is-captured tree names are; names = told }) keeps stays exports

pub what_meets_may_meet : WhatMeetsMayMeet
what_meets_may_meet to tree meets keys = record {
  no_enums = meets.no_enums;
  stands = any;
  all_stand = stand tree;
  none_caught = meets.none_caught;
  in_module = meets.in_module;
  key_texts = keys;
  free_texts = λ id s none. meets.free_texts id none;
  this_stays = λ id s. meets.this_stays id;
  exports_apart = meets.exports_apart;
  export_texts = meets.export_texts;
  default_stays = (refl, meets.default_stays);
}
