-- A tree with final texts, written out, is the tree written out with its names renamed.
use Rattle.std.proofs.Common.{◌≡◌, inl, inr, refl, sym, ap, ap₂, ◌∙◌, subst, ℕ, suc, List, [], ◌∷◌, map, Option, Some, None, Bool, true, false, cond, ◌&&◌}
use Rattle.std.proofs.Math.Dec.{eqb-suc-zero}
use Rattle.ecma_kind.specs.declared.kind.Kind.{Kind}
use Rattle.ecma_kind.specs.declared.kind.Kind.TheVariants as kind
use Rattle.ecma_kind.specs.declared.span.Span.{Span}
use Rattle.ecma_tree.specs.declared.node.Node.{Node, ind-Node, out-Node, roll-Node}
use Rattle.ecma_tree.specs.declared.node.Node.TheViews.{out-roll-Node, roll-out-Node}
use Rattle.ecma_tree.specs.Nodes.{node_of}
use Rattle.ecma_scope.specs.declared.role.Role.{Role}
use Rattle.ecma_scope.specs.declared.role.Role.TheVariants as role
use Rattle.ecma_scope.specs.Resolved.{is_name}
use Rattle.ecma_scope.specs.Scopes.{is_there, role_by}
use Rattle.ecma_hygiene.specs.declared.spot.Spot.{Spot}
use Rattle.ecma_hygiene.specs.declared.spot.Spot.TheVariants as spot
use Rattle.ecma_hygiene.specs.declared.spot.Standing.{Standing}
use Rattle.ecma_hygiene.specs.Renamed.{Texts, changed_from, is_sourced, first_item, key_name, kind_is_absent, lone_name, old_name, old_name_by, text_of}
use Rattle.ecma_hygiene.proofs.Telling.{and-left, and-right}
use Rattle.ecma_hygiene_scopes.proofs.Growing.{OldName, grown}
use Rattle.ecma_runs.specs.Names.{renamed, renamed_ident}
use Rattle.ecma_hygiene_runs.specs.WrittenOut.{other_out, properties_out, property_key_node, property_out, written_out}
use Rattle.ecma_hygiene_runs.specs.FinalTexts.{all_named, has_name, is_named_at, is_outer}
use Rattle.ecma_hygiene_runs.proofs.Parts.{all_become, become, final-roll, finished, named-roll, out-of, parts_of, properties-of, properties_of, property-of, property_of, renamed-of, shared_of, standing_of}
use Rattle.ecma_hygiene_runs.proofs.FinalParts.{Final, Known, Named, Olds, Stand, all-elsewhere, all-properties, all-stand, finished-plain, is_ident, kind-final, named, olds, others-agree, outer-stays, pattern-changes, pattern-renamed, pattern-stays, pattern-written, pattern_final, property-key-out, property-key-renamed, second_of, to}

module _ (onto : ℕ → ℕ) (texts : Texts) (none : onto 0 ≡ 0) (empty : (text : List ℕ) → text_of texts (text, 0) ≡ text) where
  abbrev on : Node → Node
  on = renamed (to onto texts none empty)

  abbrev stand : Role → Spot → Standing
  stand r s = record { role = r; spot = s }

  -- a node of these parts, with the children that its children become
  abbrev turned : Role → Spot → Span → Kind → List Node → Node
  turned r s span k cs = grown (old_name texts (shared_of (stand r s) k (node_of span k cs) cs)) span (renamed_ident (to onto texts none empty) k) (all_become onto texts (standing_of (stand r s) k cs) 0 cs)

  abbrev Turns : Role → Spot → Span → Kind → List Node → Type 0
  Turns r s span k cs = finished s (written_out (turned r s span k cs)) ≡ on (finished s (written_out (node_of span k cs)))

  abbrev FinalBelow : Role → Spot → Kind → List Node → Type 0
  FinalBelow r s k cs = Final onto texts none empty (standing_of (stand r s) k cs) 0 cs

  -- what stays but for its children
  plain : (s : Spot) (span : Span) (k : Kind) (cs hs : List Node) → written_out (node_of span k hs) ≡ node_of span k (map written_out hs) → written_out (node_of span k cs) ≡ node_of span k (map written_out cs)
      → renamed_ident (to onto texts none empty) k ≡ k → ((xs : List Node) → property_of span k xs ≡ node_of span k xs) → ((xs : List Node) → properties_of span k xs ≡ node_of span k xs)
      → map written_out hs ≡ map on (map written_out cs) → finished s (written_out (node_of span k hs)) ≡ on (finished s (written_out (node_of span k cs)))
  plain s span k cs hs wh wc ren p q e =
      ap (finished s) (wh ∙ ap (node_of span k) e) ∙ finished-plain s span k (map on (map written_out cs)) (p (map on (map written_out cs))) (q (map on (map written_out cs)))
      ∙ sym (ap on (ap (finished s) wc ∙ finished-plain s span k (map written_out cs) (p (map written_out cs)) (q (map written_out cs)))
      ∙ renamed-of (to onto texts none empty) span k (map written_out cs) ∙ ap (λ z. node_of span z (map on (map written_out cs))) ren)

  -- identifiers

  module _ (r : Role) (span : Span) (text : List ℕ) (ctxt : ℕ) (optional : Bool) (cs : List Node) where
    abbrev own : Kind
    own = kind.Ident text ctxt optional

    abbrev its : Kind
    its = kind.Ident (text_of texts (text, ctxt)) (onto ctxt) optional

    module _ (s : Spot) (final : FinalBelow r s own cs) where
      abbrev hs : List Node
      hs = all_become onto texts (standing_of (stand r s) own cs) 0 cs

      abbrev ds : List Node
      ds = map written_out cs

      below : map written_out hs ≡ map on ds
      below = all-elsewhere onto texts none empty (standing_of (stand r s) own cs) 0 cs (all-stand onto texts none empty spot.Elsewhere (standing_of (stand r s) own cs) (λ i. refl) 0 cs) final

      ident-written : written_out (node_of span its hs) ≡ node_of span its (map on ds)
      ident-written = out-of span its hs ∙ ap (node_of span its) below

      ident-renamed : on (node_of span own ds) ≡ node_of span its (map on ds)
      ident-renamed = renamed-of (to onto texts none empty) span own ds

      abbrev shown : Node
      shown = node_of span kind.KeyValueProp (property_key_node span text ∷ node_of span its (map on ds) ∷ [])

      property-right : on (property_out (written_out (node_of span own cs))) ≡ shown
      property-right =
          ap on (ap property_out (out-of span own cs) ∙ property-of span own ds) ∙ renamed-of (to onto texts none empty) span kind.KeyValueProp (property_key_node span text ∷ node_of span own ds ∷ [])
          ∙ ap₂ (λ a b. node_of span kind.KeyValueProp (a ∷ b ∷ [])) (property-key-renamed onto texts none empty span text) ident-renamed

      property-stays : text_of texts (text, ctxt) ≡ text → property_out (written_out (node_of span its hs)) ≡ shown
      property-stays stays =
          ap property_out ident-written ∙ property-of span its (map on ds) ∙ ap (λ t. node_of span kind.KeyValueProp (property_key_node span t ∷ node_of span its (map on ds) ∷ [])) stays

      property-changes : property_out (written_out (node_of span kind.KeyValueProp (property_key_node span text ∷ node_of span its hs ∷ []))) ≡ shown
      property-changes =
          ap property_out (out-of span kind.KeyValueProp (property_key_node span text ∷ node_of span its hs ∷ [])
          ∙ ap₂ (λ a b. node_of span kind.KeyValueProp (a ∷ b ∷ [])) (property-key-out onto texts none empty span text) ident-written)
          ∙ property-of span kind.KeyValueProp (property_key_node span text ∷ node_of span its (map on ds) ∷ [])

    ident-turns : (s : Spot) → FinalBelow r s own cs → Turns r s span own cs
    ident-turns spot.Elsewhere final = ident-written spot.Elsewhere final ∙ sym (ap on (out-of span own cs) ∙ ident-renamed spot.Elsewhere final)
    ident-turns spot.Properties final =
        ap properties_out (ident-written spot.Properties final) ∙ properties-of span its _
        ∙ sym (ap on (ap properties_out (out-of span own cs) ∙ properties-of span own (map written_out cs)) ∙ ident-renamed spot.Properties final)
    ident-turns spot.Property final =
        let o : old_name texts (Some (node_of span own cs)) ≡ changed_from (texts (text, ctxt)) text span = ap (λ z. old_name_by texts z.span z.kind) (out-roll-Node (parts_of span own cs)) in
        ap (λ old. property_out (written_out (grown old span its (hs spot.Property final)))) o ∙ by (changed_from (texts (text, ctxt)) text span) (olds onto texts none empty text ctxt span) ∙ sym (property-right spot.Property final)
      where
        by : (old : Option OldName) → Olds onto texts none empty old text ctxt span → property_out (written_out (grown old span its (hs spot.Property final))) ≡ shown spot.Property final
        by old (inl stays) = ap (λ z. property_out (written_out (grown z span its (hs spot.Property final)))) stays.0 ∙ property-stays spot.Property final stays.1
        by old (inr changes) = ap (λ z. property_out (written_out (grown z span its (hs spot.Property final)))) changes ∙ property-changes spot.Property final

  -- object literals and their properties

  object-turns : (r : Role) (s : Spot) (span : Span) (p : Node) (others : List Node) → FinalBelow r s kind.ObjectLit (p ∷ others) → Turns r s span kind.ObjectLit (p ∷ others)
  object-turns r s span p others final =
      let stands = standing_of (stand r s) kind.ObjectLit (p ∷ others) in
      let hp = become onto texts p (stands 0) in
      let hos = all_become onto texts stands 1 others in
      let ds = properties_out (written_out p) ∷ map written_out others in
      ap (finished s) (out-of span kind.ObjectLit (hp ∷ hos) ∙ ap₂ (λ a rest. node_of span kind.ObjectLit (a ∷ rest)) final.0 (all-elsewhere onto texts none empty stands 1 others (later 0 others) final.1))
      ∙ finished-plain s span kind.ObjectLit (map on ds) refl refl
      ∙ sym (ap on (ap (finished s) (out-of span kind.ObjectLit (p ∷ others)) ∙ finished-plain s span kind.ObjectLit ds refl refl) ∙ renamed-of (to onto texts none empty) span kind.ObjectLit ds)
    where
      later : (i : ℕ) (cs : List Node) → Stand onto texts none empty spot.Elsewhere (standing_of (stand r s) kind.ObjectLit (p ∷ others)) (suc i) cs
      later i [] = tt
      later i (c ∷ cs) = (ap (λ b. cond b spot.Properties spot.Elsewhere) (eqb-suc-zero i), later (suc i) cs)

  list-turns : (r : Role) (s : Spot) (span : Span) (cs : List Node) → FinalBelow r s kind.List cs → Turns r s span kind.List cs
  list-turns r spot.Properties span cs final =
      let stands = standing_of (stand r spot.Properties) kind.List cs in
      let hs = all_become onto texts stands 0 cs in
      ap properties_out (out-of span kind.List hs) ∙ properties-of span kind.List (map written_out hs)
      ∙ ap (node_of span kind.List) (all-properties onto texts none empty stands 0 cs (all-stand onto texts none empty spot.Property stands (λ i. refl) 0 cs) final)
      ∙ sym (ap on (ap properties_out (out-of span kind.List cs) ∙ properties-of span kind.List (map written_out cs)) ∙ renamed-of (to onto texts none empty) span kind.List (map property_out (map written_out cs)))
  list-turns r spot.Property span cs final =
      let stands = standing_of (stand r spot.Property) kind.List cs in
      let hs = all_become onto texts stands 0 cs in
      ap property_out (out-of span kind.List hs) ∙ property-of span kind.List (map written_out hs)
      ∙ ap (node_of span kind.List) (all-elsewhere onto texts none empty stands 0 cs (all-stand onto texts none empty spot.Elsewhere stands (λ i. refl) 0 cs) final)
      ∙ sym (ap on (ap property_out (out-of span kind.List cs) ∙ property-of span kind.List (map written_out cs)) ∙ renamed-of (to onto texts none empty) span kind.List (map written_out cs))
  list-turns r spot.Elsewhere span cs final =
      let stands = standing_of (stand r spot.Elsewhere) kind.List cs in
      let hs = all_become onto texts stands 0 cs in
      out-of span kind.List hs ∙ ap (node_of span kind.List) (all-elsewhere onto texts none empty stands 0 cs (all-stand onto texts none empty spot.Elsewhere stands (λ i. refl) 0 cs) final)
      ∙ sym (ap on (out-of span kind.List cs) ∙ renamed-of (to onto texts none empty) span kind.List (map written_out cs))

  -- patterns

  module _ (r : Role) (s : Spot) (span : Span) (name default : Node) (has : has_name kind.AssignPatProp (name ∷ default ∷ []) ≡ true) (final : FinalBelow r s kind.AssignPatProp (name ∷ default ∷ [])) where
    abbrev pattern_stands : ℕ → Standing
    pattern_stands = standing_of (stand r s) kind.AssignPatProp (name ∷ default ∷ [])

    abbrev hn : Node
    hn = become onto texts name (pattern_stands 0)

    abbrev hd : Node
    hd = become onto texts default (pattern_stands 1)

    abbrev n : Named name
    n = named name has

    old-name : old_name texts (key_name (name ∷ default ∷ [])) ≡ changed_from (texts (n.leaf.text, n.leaf.ctxt)) n.leaf.text n.leaf.span
    old-name =
        ap (λ z. old_name texts (first_item z.children)) (ap out-Node n.is ∙ out-roll-Node (parts_of n.span kind.BindingIdent (n.id ∷ n.annotation ∷ [])))
        ∙ ap (λ z. old_name_by texts z.span z.kind) (ap out-Node n.leaf.is ∙ out-roll-Node (parts_of n.leaf.span (kind.Ident n.leaf.text n.leaf.ctxt n.leaf.optional) []))

    abbrev became : Node
    became = pattern_final onto texts none empty span name default hn hd n final.0 final.1.0

    finished-became : finished s became ≡ became
    finished-became = finished-plain s span kind.KeyValuePatProp _ refl refl

    pattern-right : on (finished s (written_out (node_of span kind.AssignPatProp (name ∷ default ∷ [])))) ≡ became
    pattern-right =
        let w = pattern-written onto texts none empty span name default hn hd n final.0 final.1.0 in
        ap on (ap (finished s) w ∙ finished-plain s span kind.KeyValuePatProp _ refl refl ∙ sym w) ∙ pattern-renamed onto texts none empty span name default hn hd n final.0 final.1.0

    pattern-left : (o : Option OldName) → Olds onto texts none empty o n.leaf.text n.leaf.ctxt n.leaf.span → finished s (written_out (grown o span kind.AssignPatProp (hn ∷ hd ∷ []))) ≡ became
    pattern-left o (inl stays) =
        ap (λ z. finished s (written_out (grown z span kind.AssignPatProp (hn ∷ hd ∷ [])))) stays.0
        ∙ ap (finished s) (pattern-stays onto texts none empty span name default hn hd n final.0 final.1.0 stays.1) ∙ finished-became
    pattern-left o (inr changes) =
        ap (λ z. finished s (written_out (grown z span kind.AssignPatProp (hn ∷ hd ∷ [])))) changes
        ∙ ap (finished s) (pattern-changes onto texts none empty span name default hn hd n final.0 final.1.0) ∙ finished-became

    pattern-turns : Turns r s span kind.AssignPatProp (name ∷ default ∷ [])
    pattern-turns =
        pattern-left (old_name texts (key_name (name ∷ default ∷ []))) (subst (λ o. Olds onto texts none empty o n.leaf.text n.leaf.ctxt n.leaf.span) (sym old-name) (olds onto texts none empty n.leaf.text n.leaf.ctxt n.leaf.span))
        ∙ sym pattern-right

  -- specifiers

  specifier : (s : Spot) (span : Span) (k : Kind) (o : Option OldName) (name other hn ho : Node)
      → ((a b : Node) → written_out (node_of span k (a ∷ b ∷ [])) ≡ node_of span k (written_out a ∷ other_out (written_out a) (written_out b) ∷ []))
      → renamed_ident (to onto texts none empty) k ≡ k → ((xs : List Node) → property_of span k xs ≡ node_of span k xs) → ((xs : List Node) → properties_of span k xs ≡ node_of span k xs)
      → written_out hn ≡ on (written_out name) → written_out ho ≡ on (written_out other) → Known onto texts none empty o name other
      → finished s (written_out (node_of span k (hn ∷ second_of onto texts none empty o ho ∷ []))) ≡ on (finished s (written_out (node_of span k (name ∷ other ∷ []))))
  specifier s span k o name other hn ho outs ren p q en eo known =
      let cs = written_out name ∷ other_out (written_out name) (written_out other) ∷ [] in
      ap (finished s) (outs hn (second_of onto texts none empty o ho) ∙ ap₂ (λ a b. node_of span k (a ∷ b ∷ [])) en (others-agree onto texts none empty o name other hn ho en eo known))
      ∙ finished-plain s span k (map on cs) (p (map on cs)) (q (map on cs))
      ∙ sym (ap on (ap (finished s) (outs name other) ∙ finished-plain s span k cs (p cs) (q cs)) ∙ renamed-of (to onto texts none empty) span k cs ∙ ap (λ z. node_of span z (map on cs)) ren)

  old-unknown : (b : Bool) (name : Node) → is_ident (out-Node name).kind ≡ false → old_name texts (cond b (Some name) None) ≡ None
  old-unknown false name e = refl
  old-unknown true name e = by (out-Node name).kind e
    where
      by : (k : Kind) → is_ident k ≡ false → old_name_by texts (out-Node name).span k ≡ None
      by (kind.Ident text ctxt optional) e = absurd (cc)
      by _ e = refl

  lone-known : (name other : Node) → Known onto texts none empty (old_name texts (lone_name (name ∷ other ∷ []))) name other
  lone-known name other = record {
    there = λ e. ap (λ b. old_name texts (cond b (Some name) None)) e;
    unknown = λ e. old-unknown (kind_is_absent other) name e;
    known = λ text ctxt optional is missing. subst (λ o. Olds onto texts none empty o text ctxt (out-Node name).span)
        (sym (ap (λ b. old_name texts (cond b (Some name) None)) missing ∙ ap (λ z. old_name_by texts (out-Node name).span z) is)) (olds onto texts none empty text ctxt (out-Node name).span);
  }

  export-known : (b : Bool) (name other : Node) → (b ≡ true → (text : List ℕ) (ctxt : ℕ) (optional : Bool) → (out-Node name).kind ≡ kind.Ident text ctxt optional → text_of texts (text, ctxt) ≡ text)
      → Known onto texts none empty (old_name texts (cond b None (lone_name (name ∷ other ∷ [])))) name other
  export-known false name other stays = lone-known name other
  export-known true name other stays = record { there = λ e. refl; unknown = λ e. refl; known = λ text ctxt optional is missing. inl (refl, stays refl text ctxt optional is) }

  -- the name of an export with a source is a name for others
  sourced-stays : (r : Role) (t : Bool) (name : Node) (there : Bool) → is_named_at name (role_by r (kind.ExportNamedSpecifier t) there 0) ≡ true
      → is_sourced r ≡ true → (text : List ℕ) (ctxt : ℕ) (optional : Bool) → (out-Node name).kind ≡ kind.Ident text ctxt optional → text_of texts (text, ctxt) ≡ text
  unfolding role_by
  sourced-stays role.Sourced t name there h e text ctxt optional is =
      let x = out-Node name in
      let both = sym (named-roll x role.Name) ∙ ap (λ m. is_named_at m role.Name) (roll-out-Node name) ∙ h in
      outer-stays onto texts none empty text ctxt (ap (λ k. is_outer true k) (sym is) ∙ and-left (is_outer true x.kind) _ both)
  sourced-stays _ t name there h e text ctxt optional is = absurd (cc)

  import-grown : (o : Option OldName) (span : Span) (t : Bool) (h o' : Node) → grown o span (kind.ImportNamedSpecifier t) (h ∷ o' ∷ []) ≡ node_of span (kind.ImportNamedSpecifier t) (h ∷ second_of onto texts none empty o o' ∷ [])
  import-grown None span t h o' = refl
  import-grown (Some old) span t h o' = refl

  export-grown : (o : Option OldName) (span : Span) (t : Bool) (h o' : Node) → grown o span (kind.ExportNamedSpecifier t) (h ∷ o' ∷ []) ≡ node_of span (kind.ExportNamedSpecifier t) (h ∷ second_of onto texts none empty o o' ∷ [])
  export-grown None span t h o' = refl
  export-grown (Some old) span t h o' = refl

  import-turns : (r : Role) (s : Spot) (span : Span) (t : Bool) (name other : Node) → FinalBelow r s (kind.ImportNamedSpecifier t) (name ∷ other ∷ []) → Turns r s span (kind.ImportNamedSpecifier t) (name ∷ other ∷ [])
  import-turns r s span t name other final =
      let k = kind.ImportNamedSpecifier t in
      let stands = standing_of (stand r s) k (name ∷ other ∷ []) in
      let o = old_name texts (lone_name (name ∷ other ∷ [])) in
      ap (λ n. finished s (written_out n)) (import-grown o span t (become onto texts name (stands 0)) (become onto texts other (stands 1)))
      ∙ specifier s span k o name other (become onto texts name (stands 0)) (become onto texts other (stands 1)) (λ a b. out-of span k (a ∷ b ∷ [])) refl (λ xs. refl) (λ xs. refl) final.0 final.1.0 (lone-known name other)

  export-turns : (r : Role) (s : Spot) (span : Span) (t : Bool) (name other : Node) → is_named_at name (role_by r (kind.ExportNamedSpecifier t) (is_there (name ∷ other ∷ []) 1) 0) ≡ true
      → FinalBelow r s (kind.ExportNamedSpecifier t) (name ∷ other ∷ []) → Turns r s span (kind.ExportNamedSpecifier t) (name ∷ other ∷ [])
  export-turns r s span t name other h final =
      let k = kind.ExportNamedSpecifier t in
      let stands = standing_of (stand r s) k (name ∷ other ∷ []) in
      let o = old_name texts (cond (is_sourced r) None (lone_name (name ∷ other ∷ []))) in
      ap (λ n. finished s (written_out n)) (export-grown o span t (become onto texts name (stands 0)) (become onto texts other (stands 1)))
      ∙ specifier s span k o name other (become onto texts name (stands 0)) (become onto texts other (stands 1)) (λ a b. out-of span k (a ∷ b ∷ [])) refl (λ xs. refl) (λ xs. refl) final.0 final.1.0
      (export-known (is_sourced r) name other (sourced-stays r t name (is_there (name ∷ other ∷ []) 1) h))

  -- the layers

  plain-turns : (r : Role) (s : Spot) (span : Span) (k : Kind) (cs : List Node) → old_name texts (shared_of (stand r s) k (node_of span k cs) cs) ≡ None
      → ((xs : List Node) → property_of span k xs ≡ node_of span k xs) → ((xs : List Node) → properties_of span k xs ≡ node_of span k xs) → renamed_ident (to onto texts none empty) k ≡ k
      → written_out (node_of span k cs) ≡ node_of span k (map written_out cs)
      → written_out (node_of span k (all_become onto texts (standing_of (stand r s) k cs) 0 cs)) ≡ node_of span k (map written_out (all_become onto texts (standing_of (stand r s) k cs) 0 cs))
      → Stand onto texts none empty spot.Elsewhere (standing_of (stand r s) k cs) 0 cs → FinalBelow r s k cs → Turns r s span k cs
  plain-turns r s span k cs nothing p q ren wc wh stands final =
      let hs = all_become onto texts (standing_of (stand r s) k cs) 0 cs in
      ap₂ (λ o z. finished s (written_out (grown o span z hs))) nothing ren ∙ plain s span k cs hs wh wc ren p q (all-elsewhere onto texts none empty (standing_of (stand r s) k cs) 0 cs stands final)

  no-lone : (b : Bool) → old_name texts (cond b None None) ≡ None
  no-lone true = refl
  no-lone false = refl

  layer-turns : (r : Role) (s : Spot) (span : Span) (k : Kind) (cs : List Node) → has_name k cs ≡ true → all_named (role_by r k (is_there cs 1)) 0 (map is_named_at cs) ≡ true → FinalBelow r s k cs → Turns r s span k cs
  layer-turns r s span (kind.Ident text ctxt optional) cs has all final = ident-turns r span text ctxt optional cs s final
  layer-turns r s span kind.ObjectLit [] has all final = plain-turns r s span kind.ObjectLit [] refl (λ xs. refl) (λ xs. refl) refl (out-of span kind.ObjectLit []) (out-of span kind.ObjectLit []) tt tt
  layer-turns r s span kind.ObjectLit (p ∷ others) has all final = object-turns r s span p others final
  layer-turns r s span kind.List cs has all final = list-turns r s span cs final
  layer-turns r s span kind.AssignPatProp (name ∷ default ∷ []) has all final = pattern-turns r s span name default has final
  layer-turns r s span (kind.ImportNamedSpecifier t) (name ∷ other ∷ []) has all final = import-turns r s span t name other final
  layer-turns r s span (kind.ExportNamedSpecifier t) (name ∷ other ∷ []) has all final =
      export-turns r s span t name other (and-left (is_named_at name (role_by r (kind.ExportNamedSpecifier t) (is_there (name ∷ other ∷ []) 1) 0)) _ all) final
  layer-turns r s span (kind.ExportNamedSpecifier t) [] has all final =
      plain-turns r s span (kind.ExportNamedSpecifier t) [] (no-lone (is_sourced r)) (λ xs. refl) (λ xs. refl) refl (out-of span (kind.ExportNamedSpecifier t) []) (out-of span (kind.ExportNamedSpecifier t) []) tt tt
  layer-turns r s span (kind.ExportNamedSpecifier t) (a ∷ []) has all final =
      plain-turns r s span (kind.ExportNamedSpecifier t) (a ∷ []) (no-lone (is_sourced r)) (λ xs. refl) (λ xs. refl) refl (out-of span (kind.ExportNamedSpecifier t) (a ∷ []))
      (out-of span (kind.ExportNamedSpecifier t) _) (refl, tt) final
  layer-turns r s span (kind.ExportNamedSpecifier t) (a ∷ b ∷ c ∷ cs) has all final =
      plain-turns r s span (kind.ExportNamedSpecifier t) (a ∷ b ∷ c ∷ cs) (no-lone (is_sourced r)) (λ xs. refl) (λ xs. refl) refl (out-of span (kind.ExportNamedSpecifier t) (a ∷ b ∷ c ∷ cs))
      (out-of span (kind.ExportNamedSpecifier t) _) (all-stand onto texts none empty spot.Elsewhere (standing_of (stand r s) (kind.ExportNamedSpecifier t) (a ∷ b ∷ c ∷ cs)) (λ i. refl) 0 (a ∷ b ∷ c ∷ cs)) final
  layer-turns r s span k cs has all final =
      plain-turns r s span k cs refl (λ xs. refl) (λ xs. refl) refl (out-of span k cs) (out-of span k (all_become onto texts (standing_of (stand r s) k cs) 0 cs)) (all-stand onto texts none empty spot.Elsewhere (standing_of (stand r s) k cs) (λ i. refl) 0 cs) final

  abbrev pub Turned : Node → Type 0
  Turned n = (r : Role) (s : Spot) → is_named_at n r ≡ true → finished s (written_out (become onto texts n (stand r s))) ≡ on (finished s (written_out n))

  all-turned : (ns : List ((n : Node) × Turned n)) (stands : ℕ → Standing) (i : ℕ) → all_named (λ j. (stands j).role) i (map is_named_at (map (λ e. e.0) ns)) ≡ true → Final onto texts none empty stands i (map (λ e. e.0) ns)
  all-turned [] stands i h = tt
  all-turned (n ∷ ns) stands i h =
      let first = is_named_at n.0 (stands i).role in
      let rest = all_named (λ j. (stands j).role) (suc i) (map is_named_at (map (λ e. e.0) ns)) in
      (n.1 (stands i).role (stands i).spot (and-left first rest h), all-turned ns stands (suc i) (and-right first rest h))

  pub turned-everywhere : (n : Node) → Turned n
  turned-everywhere = ind-Node Turned (λ x y is r s h.
      let a = is_outer (is_name r) x.kind in
      let b = has_name x.kind x.children in
      let c = all_named (role_by r x.kind (is_there x.children 1)) 0 (map is_named_at x.children) in
      let parts : a && (b && c) ≡ true = sym (named-roll x r) ∙ h in
      let rest : b && c ≡ true = and-right a (b && c) parts in
      let below : FinalBelow r s x.kind x.children =
      subst (λ cs. all_named (role_by r x.kind (is_there x.children 1)) 0 (map is_named_at cs) ≡ true → Final onto texts none empty (standing_of (stand r s) x.kind x.children) 0 cs) (ap (λ z. z.children) is)
      (all-turned y.children (standing_of (stand r s) x.kind x.children) 0) (and-right b c rest) in
      ap (λ n. finished s (written_out n)) (final-roll onto texts none x (stand r s)
      ∙ ap (λ z. grown (old_name texts (shared_of (stand r s) x.kind (roll-Node x) x.children)) x.span z (all_become onto texts (standing_of (stand r s) x.kind x.children) 0 x.children)) (kind-final onto texts none empty (is_name r) x.kind (and-left a (b && c) parts)))
      ∙ layer-turns r s x.span x.kind x.children (and-left b c rest) (and-right b c rest) below)
