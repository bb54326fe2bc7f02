use Rattle.std.proofs.Common.{◌≡◌, ◌∙◌, ℕ, List, ap, bytes_eq}
use Rattle.std.specs.HashSet.{contains}
use Rattle.std.specs.List.{list_any}
use Rattle.ecma_scope.specs.Uses.{UsedId, used_ids}
use Rattle.ecma_elide.specs.DeclaredNames.{type_names, value_names}
use Rattle.ecma_elide.specs.Elision.{is_among, known_of, same_id}
use Rattle.ecma_elide.specs.Sets.{is_used_by}
use Rattle.ecma_elide.proofs.Knowing.{knows}
use Rattle.ecma_elide.proofs.known.names_of.Goals as goal

pub returns : goal.returns
returns c =
    let used : (id : UsedId) → is_used_by c.in_ok-used.used id ≡ list_any (λ u. same_id u id) (used_ids c.args.tree.now) =
    λ id. (c.in_ok-used.ensures {u = tt}) id ∙ ap (list_any (λ u. same_id u id)) (c.in_ok-ids.ensures {u = tt}) in
    let values : (text : List ℕ) → contains bytes_eq c.in_ok-values.values text ≡ is_among (value_names c.args.tree.now) text =
    λ text. (c.in_ok-values.ensures {u = tt}) text ∙ ap (λ (texts : List (List ℕ)). is_among texts text) (c.in_ok-value_texts.ensures {u = tt}) in
    let types : (text : List ℕ) → contains bytes_eq c.in_ok-types.types text ≡ is_among (type_names c.args.tree.now) text =
    λ text. (c.in_ok-types.ensures {u = tt}) text ∙ ap (λ (texts : List (List ℕ)). is_among texts text) (c.in_ok-type_texts.ensures {u = tt}) in
    knows (is_used_by c.in_ok-used.used) (contains bytes_eq c.in_ok-values.values) (contains bytes_eq c.in_ok-types.types) c.args.keeps_imports c.args.tree.now
    (known_of c.args.keeps_imports c.args.tree.now) used values types
