-- What is read of the items of a list as the items of a list of another kind: whole ones, as long as they are, and where that ends.
use Rattle.std.proofs.Common.{◌≡◌, Bool, true, List, [], ◌++◌, codes, nat_le, ap}
use Rattle.std.proofs.lemmas.Bool.{and_parts}
use Rattle.ecma_tree.specs.declared.node.Node.{Node}
use Rattle.ecma_grammar.specs.Grammar.{Grammar, ◌▸◌, punct}
use Rattle.ecma_print_tokens.specs.Items.{sign, Gap, Items, it}
use Rattle.ecma_print_readings.proofs.Machine.{with_front, means}
use Rattle.ecma_print_readings.proofs.Moves.{eats}
use Rattle.ecma_print_readings.proofs.Fronts.{Front, Begins, refuses_at, refused_at, refuses_first}
use Rattle.ecma_print_readings.proofs.Forms.{Reads, Refuses, ends_no_list, ends_no_item, AsItem, item_refused, whole_item, item_before}
use Rattle.ecma_print_readings.proofs.Repeats.{Repeats, repeats_end, repeats_more}

abbrev pub more : Grammar → Grammar
more item = punct (codes ",") ▸ item

-- what is said of the place where the list ends: it holds where the list goes astray, and behind a comma that no item follows
module _ (assigned : Bool) (item : Grammar) (Last : Items → Type 0) where
  pub record Lasts : Type 0 where
    pub eat : nat_le 1 (eats (more item)) ≡ true
    pub astray : (ts : Items) (e : Front) → Begins e ts → ends_no_item e ≡ true → Last ts
    pub after_comma : (g : Gap) (ts : Items) (e : Front) → Begins e ts → ends_no_item e ≡ true → Last (it g (sign (codes ",")) ts)

  -- behind an item: those that are read further
  pub record Further (ts : Items) : Type 0 where
    pub nodes : List Node
    pub stop : Items
    pub repeats : Repeats assigned (more item) ts nodes stop
    pub last : Last stop

  pub further_end : (ts : Items) (e : Front) → Begins e ts → refuses_at e (punct (codes ",")) ≡ true → Last ts → Further ts
  further_end ts e b c l = record {
    nodes = [];
    stop = ts;
    repeats = repeats_end assigned (more item) ts (refused_at assigned (means assigned) (more item) e ts b (refuses_first e (punct (codes ",")) item c));
    last = l;
  }

  module _ (L : Lasts) where
    further_astray : (ts : Items) (e : Front) → Begins e ts → ends_no_item e ≡ true → Further ts
    further_astray ts e b z = let c = and_parts (refuses_at e (punct (codes ","))) (ends_no_list e) z in further_end ts e b c.0 (L.astray ts e b z)

    one_more : (g : Gap) (ts us : Items) (xs : List Node) → Reads assigned item ts xs us → Further us → Further (it g (sign (codes ",")) ts)
    one_more g ts us xs h F = record {
      nodes = xs ++ F.nodes;
      stop = F.stop;
      repeats = repeats_more assigned (more item) L.eat (it g (sign (codes ",")) ts) us F.stop xs F.nodes (ap (with_front []) h) F.repeats;
      last = F.last;
    }

    -- a comma, and an item
    pub further_more : (g : Gap) (ts us : Items) → AsItem assigned item ts us → Further us → Further (it g (sign (codes ",")) ts)
    further_more g ts us (item_refused h e b z) F = record {
      nodes = [];
      stop = it g (sign (codes ",")) ts;
      repeats = repeats_end assigned (more item) (it g (sign (codes ",")) ts) (ap (with_front []) h);
      last = L.after_comma g ts e b z;
    }
    further_more g ts us (whole_item xs h) F = one_more g ts us xs h F
    further_more g ts us (item_before xs vs e b z h) F = one_more g ts vs xs h (further_astray vs e b z)

    -- no item stands first; or the first item, and those behind it
    pub data Listed (ts : Items) : Type 0 where
      none_listed : Refuses assigned item ts → (e : Front) → Begins e ts → ends_no_item e ≡ true → Listed ts
      some_listed : (first : List Node) (mid : Items) → Reads assigned item ts first mid → Further mid → Listed ts

    pub listed : (ts us : Items) → AsItem assigned item ts us → Further us → Listed ts
    listed ts us (item_refused h e b z) F = none_listed h e b z
    listed ts us (whole_item xs h) F = some_listed xs us h F
    listed ts us (item_before xs vs e b z h) F = some_listed xs vs h (further_astray vs e b z)
