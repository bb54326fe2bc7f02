-- The text of a module is read again by the grammar over texts, as the same tree up to spans.
use Rattle.std.proofs.Common.{◌≡◌, ℕ, ◌+◌, ◌*◌, ◌≤◌, Bool, true, List, [], ◌∷◌, ◌++◌, map, length, codes, refl, ap, sym, ◌∙◌, subst, arith, None, Some}
use Rattle.std.proofs.lemmas.Bool.{and_parts}
use Rattle.ecma_lex.proofs.Suffixes.{past}
use Rattle.ecma_kind.specs.declared.kind.Kind.TheVariants as kind
use Rattle.ecma_tree.specs.declared.node.Node.{Node}
use Rattle.ecma_tree.specs.Nodes.{node_of, list_node}
use Rattle.ecma_tree.specs.Spans.{without_spans}
use Rattle.ecma_grammar.specs.declared.production.Leaf.TheVariants as leaf
use Rattle.ecma_grammar.specs.declared.production.Flag.TheVariants.{Absent}
use Rattle.ecma_grammar.specs.declared.production.Form.TheVariants as form
use Rattle.ecma_grammar.specs.trees.Parts.{from_to}
use Rattle.ecma_grammar.specs.Grammar as grammar
use Rattle.ecma_grammar.specs.Reading as reading
use Rattle.ecma_grammar.specs.Reading.{Position}
use Rattle.ecma_grammar.specs.Reads as reads
use Rattle.ecma_grammar.specs.productions.Modules.{module_body}
use Rattle.ecma_grammar.specs.Modules.{reads_module}
use Rattle.ecma_print_tokens.specs.Items.{Items, ends, no_gap, render}
use Rattle.ecma_print_tokens.specs.Lexing.{At, Goes, Lexes}
use Rattle.ecma_print_readings.proofs.Machine.{read, with_front, built_on, interp, means}
use Rattle.ecma_shapes.specs.Modules as modules
use Rattle.ecma_shapes.specs.Modules.{IsHashbangText, AreModuleItems, IsModule}
use Rattle.ecma_shapes.proofs.Signs.{line, count}
use Rattle.ecma_shapes.proofs.Bare.{bare}
use Rattle.ecma_shapes.proofs.ModuleTokens.{items_tokens, module_tokens, module_head, bare_items, bare_module}
use Rattle.ecma_print_readings.proofs.Ranks.{leads, module_leads}
use Rattle.ecma_print_readings.proofs.Unplaced.{without_spans-node}
use Rattle.ecma_print_reread.proofs.Simulation.{plain, NoTarget, Sims, sims_front, sims_built, means_simulate}
use Rattle.ecma_print_reread.proofs.Modules.{module_rest, hashbang_made, rest_read, module_read}
use Rattle.ecma_print_reread.proofs.ModuleTrees.{module_bare}
use Rattle.ecma_print_layouts.proofs.ModuleLayouts.{items_line}
use Rattle.ecma_print_reread.proofs.Hashbangs.{stands_2, hashbang_token, hashbang_says}

rest_leads : leads 2 module_rest ≡ true
unfolding module_body
rest_leads = (and_parts (leads 2 (grammar.maybe (grammar.keep leaf.Hashbang))) (leads 2 module_rest) module_leads).1

abbrev start : Position
start = record { place = 0; failed = 0 }

-- the hashbang at the front of a text
record Kept (text word : List ℕ) : Type 0 where
  pub node : Node
  pub same : without_spans node ≡ bare (kind.IdentName word) []
  pub is : reads.kept_leaf text leaf.Hashbang start ≡ reading.read (node ∷ []) (record { place = 2 + length word; failed = 0 })

hashbang_kept : (text word rest : List ℕ) → IsHashbangText word → text ≡ codes "#!" ++ (word ++ (10 ∷ rest)) → Kept text word
hashbang_kept text word rest h e =
    let t = hashbang_token text word rest h e in
    let at = from_to 0 (2 + length word) in
    record {
      node = node_of at (kind.IdentName word) [];
      same = without_spans-node at (kind.IdentName word) [];
      is = rw (t.1, hashbang_says text word rest h e) refl;
    }

-- the text of the tokens, wherever the terminals read them
module _ (assigned : Bool) (Good : Items → Type 0) (text : List ℕ) (lexes : Lexes text Good) (long : (ts : Items) → Good ts → count ts ≤ length (render ts)) (no_target : NoTarget text Good) (bound : ℕ) where
  abbrev IsRead : Node → Type 0
  IsRead tree = Goes text Good (reads_module text (plain assigned) bound) (λ trees. map without_spans trees ≡ tree ∷ []) (ends no_gap)

  alone_read : {ns : List Node} (is : AreModuleItems assigned ns) → text ≡ render (items_tokens is no_gap) → Good (items_tokens is no_gap) → 3 * count (items_tokens is no_gap) + 2 ≤ bound → IsRead (bare (kind.Module None) (list_node (bare_items is) ∷ []))
  alone_read is t good enough =
      let at : At text Good (items_tokens is no_gap) start = record { good = good; stands = record { rest = t; within = (let y = ap length t in omega arith) } } in
      subst (λ o. Sims text Good o (reads_module text (plain assigned) bound)) (module_read assigned is no_gap) (means_simulate text Good assigned lexes long no_target bound module_body 2 (items_tokens is no_gap) module_leads enough start at)

  behind_read : {ns : List Node} (word : List ℕ) → IsHashbangText word → (is : AreModuleItems assigned ns) → text ≡ (codes "#!" ++ word) ++ render (items_tokens is line) → Good (items_tokens is line) → 3 * count (items_tokens is line) + 2 ≤ bound
      → IsRead (bare (kind.Module (Some word)) (list_node (bare_items is) ∷ []))
  unfolding module_body
  behind_read {ns} word h is t good enough =
      let ts = items_tokens is line in
      let after : Position = record { place = 2 + length word; failed = 0 } in
      let F = reads.reads text (plain assigned) (reads.levels text (plain assigned) bound) in
      let e = t ∙ ap (λ u. codes "#!" ++ (word ++ u)) (items_line is) in
      let K = hashbang_kept text word _ h e in
      let at : At text Good ts after = record { good = good; stands = rw (items_line is) (past text word (stands_2 text word _ h e)) } in
      let lo = reads.next_start text start in
      let rest : Sims text Good (interp assigned (means assigned) module_rest ts) (F module_rest after) = means_simulate text Good assigned lexes long no_target bound module_rest 2 ts rest_leads enough after at in
      let front = sims_front text Good (bare (kind.IdentName word) [] ∷ []) (K.node ∷ []) (ap (λ x. x ∷ []) K.same) (interp assigned (means assigned) module_rest ts) (F module_rest after) rest in
      let whole = sims_built text Good form.Module lo _ _ front in
      subst (λ o. Sims text Good o (reads_module text (plain assigned) bound))
      (ap (built_on form.Module) (ap (with_front (bare (kind.IdentName word) [] ∷ [])) (rest_read assigned is line)) ∙ ap (λ x. read (x ∷ []) (ends no_gap)) (hashbang_made word (bare_items is)))
      (subst (λ o. Sims text Good (built_on form.Module (with_front (bare (kind.IdentName word) [] ∷ []) (interp assigned (means assigned) module_rest ts))) (reads.built_on form.Module lo (reading.followed_on (F module_rest) (reading.or_on (F (grammar.put Absent)) start o)))) (sym K.is) whole)

  text_read_bare : (tree : Node) (is : IsModule assigned tree) → text ≡ module_head is ++ render (module_tokens is) → Good (module_tokens is) → 3 * count (module_tokens is) + 2 ≤ bound → IsRead (bare_module is)
  text_read_bare tree (modules.module_of at at' is) t good enough = alone_read is t good enough
  text_read_bare tree (modules.module_behind_hashbang at at' {text = word} h is) t good enough = behind_read word h is t good enough

  pub text_read : (tree : Node) (is : IsModule assigned tree) → text ≡ module_head is ++ render (module_tokens is) → Good (module_tokens is) → 3 * count (module_tokens is) + 2 ≤ bound → IsRead (without_spans tree)
  text_read tree is t good enough = subst IsRead (sym (module_bare is)) (text_read_bare tree is t good enough)
