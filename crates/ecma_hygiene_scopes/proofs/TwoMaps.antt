-- Contexts that are mapped twice, and a map that can be taken back.
use Rattle.std.proofs.Common.{◌≡◌, ℕ, zero, suc, Bool, true, false, cond, List, [], ◌∷◌, map, refl, sym, ap, ap₂, ◌∙◌, nat_eq}
use Rattle.std.proofs.lemmas.Bool.{eqb-true}
use Rattle.ecma_kind.specs.declared.kind.Kind.{Kind}
use Rattle.ecma_kind.specs.declared.kind.Kind.TheVariants as kind
use Rattle.ecma_tree.specs.declared.node.Node.{Node, Node-F, ind-Node}
use Rattle.ecma_tree.specs.Contexts.{kind_with_context, with_contexts}
use Rattle.ecma_tree.specs.Nodes.{node_of}
use Rattle.ecma_hygiene_scopes.proofs.Parts.{contexts-of}

module _ (second first : ℕ → ℕ) where
  abbrev turned : Node → Node
  turned = with_contexts (λ text ctxt. first ctxt)

  abbrev again : Node → Node
  again = with_contexts (λ text ctxt. second ctxt)

  abbrev at_once : Node → Node
  at_once = with_contexts (λ text ctxt. second (first ctxt))

  both-kind : (k : Kind) → kind_with_context (λ text ctxt. second ctxt) (kind_with_context (λ text ctxt. first ctxt) k) ≡ kind_with_context (λ text ctxt. second (first ctxt)) k
  both-kind (kind.Ident text ctxt optional) = refl
  both-kind _ = refl

  all-both : (ns : List ((n : Node) × (again (turned n) ≡ at_once n))) → map again (map turned (map (λ e. e.0) ns)) ≡ map at_once (map (λ e. e.0) ns)
  all-both [] = refl
  all-both (n ∷ ns) = ap₂ (λ a rest. a ∷ rest) n.1 (all-both ns)

  pub both-maps : (n : Node) → with_contexts (λ text ctxt. second ctxt) (with_contexts (λ text ctxt. first ctxt) n) ≡ with_contexts (λ text ctxt. second (first ctxt)) n
  both-maps = ind-Node (λ n. again (turned n) ≡ at_once n) (λ x y is.
      ap again (contexts-of (λ text ctxt. first ctxt) x.span x.kind x.children)
      ∙ contexts-of (λ text ctxt. second ctxt) x.span (kind_with_context (λ text ctxt. first ctxt) x.kind) (map turned x.children)
      ∙ ap₂ (node_of x.span) (both-kind x.kind)
      (ap (λ (z : Node-F Node). map again (map turned z.children)) (sym is) ∙ all-both y.children ∙ ap (λ (z : Node-F Node). map at_once z.children) is)
      ∙ sym (contexts-of (λ text ctxt. second (first ctxt)) x.span x.kind x.children))

-- ---- a map that takes one context to the empty one

module _ (free : ℕ) where
  abbrev pub shifted : ℕ → ℕ
  shifted ctxt = cond (nat_eq ctxt free) 0 (suc ctxt)

  abbrev pub back : ℕ → ℕ
  back zero = free
  back (suc ctxt) = ctxt

  back-by : (ctxt : ℕ) (b : Bool) → nat_eq ctxt free ≡ b → back (cond b 0 (suc ctxt)) ≡ ctxt
  back-by ctxt true is = sym (eqb-true ctxt free is)
  back-by ctxt false is = refl

  pub back-shifted : (ctxt : ℕ) → back (shifted ctxt) ≡ ctxt
  back-shifted ctxt = back-by ctxt (nat_eq ctxt free) refl

  -- so a map before it is seen again
  pub taken-back : (to : ℕ → ℕ) (n : Node) → with_contexts (λ text ctxt. back ctxt) (with_contexts (λ text ctxt. shifted (to ctxt)) n) ≡ with_contexts (λ text ctxt. to ctxt) n
  taken-back to n = both-maps back (λ ctxt. shifted (to ctxt)) n ∙ (λ j. with_contexts (λ text ctxt. back-shifted (to ctxt) j) n)
