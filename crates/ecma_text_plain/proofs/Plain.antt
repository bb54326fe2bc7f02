-- What is read as a plain module is plain.
use Rattle.std.proofs.Common.{◌≡◌, ℕ, Bool, List, refl, subst, Ok}
use Rattle.std.specs.Str.{IsUtf8}
use Rattle.std.proofs.lemmas.Bool.{and_parts}
use Rattle.ecma_kind.specs.declared.kind.Kind.{Kind}
use Rattle.ecma_tree.specs.declared.node.Node.{Node}
use Rattle.ecma_tree.specs.Nodes.{absent}
use Rattle.ecma_grammar.specs.trees.Others.{the_one}
use Rattle.ecma_grammar.specs.trees.Parts.{framed}
use Rattle.ecma_grammar.specs.Modules as grammar
use Rattle.ecma_grammar.specs.Modules.{reads_module}
use Rattle.ecma_grammar.specs.Reading.{Position, Outcome, fails, read, too_deep}
use Rattle.ecma_rules.specs.declared.target.Target.TheVariants as target
use Rattle.ecma_modules.specs.Modules.{plain, reads_as}
use Rattle.ecma_text_leaves.specs.Everywhere.{Each, Everywhere, more, none}
use Rattle.ecma_text_leaves.proofs.Trees.{good_absent, good_framed}
use Rattle.ecma_text_fits_finished.proofs.Everywhere.{finished_good}
use Rattle.ecma_text_plain.specs.Laws.{ReadPlainModulesHaveUtf8Hashbangs, ReadPlainTreesAreTaken, ReadPlainTreesHaveNoOtherTypeScript}
use Rattle.ecma_text_types.proofs.Raws.{of_raw}
use Rattle.ecma_text_plain.proofs.Hashbangs.{read_utf8}
use Rattle.ecma_text_plain.proofs.PlainKinds.{IsPlain, bare_of, everywhere_also}
use Rattle.ecma_text_plain.proofs.PlainReads.{module_reads}
use Rattle.ecma_text_plain.proofs.Unfound.{unfound}
use Rattle.ecma_plain.specs.Forms.{IsTaken, is_of_forms}

module _ (assignments : Bool) where
  abbrev Good : Node → Type 0
  Good = Everywhere (IsPlain assignments)

  missing : Good absent
  missing = good_absent (IsPlain assignments) (tt, refl)

  one_good : {xs : List Node} → Each (IsPlain assignments) xs → Good (the_one xs)
  one_good none = missing
  one_good (more a none) = a
  one_good (more a (more b h)) = missing

  raw_plain : (text : List ℕ) (bound : ℕ) (raw : Node) → IsUtf8 text → grammar.answer_of (reads_module text (plain assignments) bound) ≡ Ok raw → Good raw
  raw_plain text bound raw u e = by_outcome (reads_module text (plain assignments) bound) (module_reads text u assignments bound (record { place = 0; failed = 0 })) e
    where
      by_outcome : (o : Outcome (List Node)) → ((s : Position) (xs : List Node) → o ≡ read xs s → Each (IsPlain assignments) xs) → grammar.answer_of o ≡ Ok raw → Good raw
      by_outcome (read xs s) h f =
          let is : framed 1 the_one xs ≡ raw = cc in
          subst Good is (good_framed (IsPlain assignments) (tt, refl) 1 the_one (h s xs refl) (λ all. one_good all))
      by_outcome (fails at) h f = cc
      by_outcome (too_deep at) h f = cc

  pub tree_plain : (text : List ℕ) (bound : ℕ) (tree : Node) → IsUtf8 text → reads_as text (plain assignments) bound ≡ Ok tree → Good tree
  tree_plain text bound tree u e =
      of_raw Good text (plain assignments) bound tree
      (λ raw h b is. subst Good is (finished_good (IsPlain assignments) (tt, refl) (tt, refl) (tt, refl) (tt, refl) (tt, refl) (tt, refl) (tt, refl) (tt, refl) raw (raw_plain text bound raw u h) target.Free)) e

  taken : (k : Kind) → IsPlain assignments k → IsTaken k
  taken k p = (bare_of k p.0, (and_parts (is_of_forms k) _ p.1).0)

pub read_taken : ReadPlainTreesAreTaken
read_taken text assignments bound tree u e = everywhere_also (IsPlain assignments) IsTaken (taken assignments) (tree_plain assignments text bound tree u e)

pub assignments_kept : ReadPlainTreesHaveNoOtherTypeScript
assignments_kept text keep_assign bound tree u e = unfound keep_assign (tree_plain keep_assign text bound tree u e)

pub hashbangs_utf8 : ReadPlainModulesHaveUtf8Hashbangs
hashbangs_utf8 text assignments bound tree u e = read_utf8 text (plain assignments) bound tree u e

pub ruleset hashbangs = (hashbangs_utf8)

pub ruleset forms_kept = (assignments_kept)

pub ruleset trees_taken = (read_taken)
