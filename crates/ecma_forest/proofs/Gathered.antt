-- The equations of `symbols_of`: a walk goes through the children by index, and puts what it finds behind what is there.
use Rattle.std.proofs.Common.{◌≡◌, ◌≤◌, ◌+◌, ◌∙◌, ℕ, Bool, false, List, [], ◌++◌, map, flat_map, drop, length, Some, slice_get, refl, sym, ap, append_assoc}
use Rattle.std.proofs.lemmas.List.{append-nil, drop_all}
use Rattle.ecma_kind.specs.declared.kind.Kind.{Kind}
use Rattle.ecma_kind.specs.declared.kind.Kind.TheVariants as kind
use Rattle.ecma_tree.specs.Gathering.{gathered_here, symbol_here, symbols_of}
use Rattle.ecma_tree.specs.declared.node.Node.{Node, out-Node, fold_out-Node}
use Rattle.ecma_tree.proofs.Items.{drop-item}
use Rattle.ecma_forest.specs.Summaries.{AsksByParts, is_name, tree_summary}
use Rattle.ecma_forest.specs.declared.summary.Summary.{Summary}
use Rattle.ecma_forest.proofs.PassingOver.{gathered-none}

-- what the children from the one at i on give
abbrev pub symbols_in_rest : Node → ℕ → List (List ℕ)
symbols_in_rest n i = flat_map (λ items. items) (map symbols_of (drop i (out-Node n).children))

pub symbols-first : (n : Node) (was now : List (List ℕ)) → now ≡ was ++ symbol_here (out-Node n).kind → now ++ symbols_in_rest n 0 ≡ was ++ symbols_of n
symbols-first n was now is =
    ap (λ ws. ws ++ symbols_in_rest n 0) is
    ∙ append_assoc was (symbol_here (out-Node n).kind) (symbols_in_rest n 0)
    ∙ ap (λ ws. was ++ ws) (sym (fold_out-Node (List (List ℕ)) (gathered_here (List ℕ) (λ span kind. symbol_here kind)) n))

pub symbols-item : (n x : Node) (there : List (List ℕ)) (i : ℕ) → slice_get (out-Node n).children i ≡ Some x → (there ++ symbols_of x) ++ symbols_in_rest n (i + 1) ≡ there ++ symbols_in_rest n i
symbols-item n x there i at =
    append_assoc there (symbols_of x) (symbols_in_rest n (i + 1)) ∙ ap (λ ns. there ++ flat_map (λ items. items) (map symbols_of ns)) (sym (drop-item (out-Node n).children i x at))

pub symbols-all : (n : Node) (there : List (List ℕ)) (i : ℕ) → length (out-Node n).children ≤ i → there ≡ there ++ symbols_in_rest n i
symbols-all n there i all = sym (ap (λ ns. there ++ flat_map (λ items. items) (map symbols_of ns)) (drop_all i (out-Node n).children all) ∙ append-nil there)

abbrev asks_for_names : Summary → Bool
asks_for_names summary = summary.names

asks_for_names-law : AsksByParts asks_for_names
asks_for_names-law = record { none = refl; joined = λ a b. refl }

no-symbol : (kind : Kind) → is_name kind ≡ false → symbol_here kind ≡ []
no-symbol (kind.Ident sym ctxt optional) none = cc
no-symbol k none = refl

-- where no name stands there is no text
pub symbols-none : (n : Node) (there : List (List ℕ)) → (tree_summary n).names ≡ false → there ≡ there ++ symbols_of n
symbols-none n there none =
    sym (ap (λ ws. there ++ ws) (gathered-none asks_for_names asks_for_names-law (List ℕ) (λ span kind. symbol_here kind) (λ span kind h. no-symbol kind h) n none) ∙ append-nil there)
