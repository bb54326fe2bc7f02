-- Loops of reads and of writes, at the bytes that a device tells.
use Rattle.std.proofs.Common.{◌≡◌, ◌≤◌, ◌+◌, ℕ, List, [], ◌++◌, length, take, drop, refl, sym, ◌∙◌, ap, subst, arith, ◌-◌, length-drop, length-append, append_assoc}
use Rattle.std.proofs.lemmas.List.{append-nil, take_all, drop_all, drop-drop, take-append-drop, length-take-le}
use Rattle.std.proofs.Math.Seq.{take-add}
use Rattle.std.specs.Prelude.{Option, Some, None, IfSome}
use Rattle.std.specs.Io.KnownBytes.{append_known}
use Rattle.devices.specs.Sink.{TakesFirst}
use Rattle.devices.specs.Source.{HandsOut, rest_after}

-- the first n bytes, and then m more of the same
pub append_known-take-drop : (known : Option (List ℕ)) (bytes : List ℕ) (n m : ℕ) →
    append_known (append_known known (take n bytes)) (take m (drop n bytes)) ≡ append_known known (take (n + m) bytes)
append_known-take-drop None bytes n m = refl
append_known-take-drop (Some xs) bytes n m =
    ap Some (append_assoc xs (take n bytes) (take m (drop n bytes)) ∙ ap (λ ys. xs ++ ys) (sym (take-add n m bytes)))

-- `&bytes[n..]`
pub rest_of_slice : (bytes : List ℕ) (n : ℕ) → take (length bytes - n) (drop n bytes) ≡ drop n bytes
rest_of_slice bytes n = take_all _ _ (omega (arith, length-drop n bytes))

-- one more write
pub taken-more : (before : Option (List ℕ)) (bytes : List ℕ) (n : ℕ) {mid after : Option (List ℕ)} {piece : List ℕ} {m : ℕ} →
    mid ≡ append_known before (take n bytes) → TakesFirst mid after piece m → piece ≡ drop n bytes →
    after ≡ append_known before (take (n + m) bytes)
taken-more before bytes n {mid} {after} {piece} {m} taken write tail =
    write.taken ∙ ap (λ known. append_known known (take m piece)) taken
    ∙ ap (λ ys. append_known (append_known before (take n bytes)) (take m ys)) tail
    ∙ append_known-take-drop before bytes n m

-- the bytes were handed out in turn, and the rest is left
pub record HasRead (before after : Option (List ℕ)) (bytes : List ℕ) : Type 0 where
  pub given : IfSome before (λ left. bytes ≡ take (length bytes) left)
  pub rest : after ≡ rest_after before (length bytes)

-- the bytes are all that the limit allows
pub record HasReadUpTo (before after : Option (List ℕ)) (bytes : List ℕ) (limit : ℕ) : Type 0 where
  pub given : IfSome before (λ left. bytes ≡ take limit left)
  pub rest : after ≡ rest_after before limit

-- where the bytes before are known, so are those that one more read hands out
read_on : (before after : Option (List ℕ)) (bytes buffer : List ℕ) (n : ℕ) →
    IfSome before (λ left. bytes ≡ take (length bytes) left) →
    HandsOut (rest_after before (length bytes)) after buffer n →
    HasRead before after (bytes ++ take n buffer)
read_on None after bytes buffer n given out = record { given = tt; rest = out.rest }
read_on (Some left) after bytes buffer n given out =
    let front : bytes ≡ take (length bytes) left = given in
    let more : take n buffer ≡ take n (drop (length bytes) left) = out.given in
    let count : length (bytes ++ take n buffer) ≡ length bytes + n =
    length-append bytes (take n buffer) ∙ ap (λ k. length bytes + k) (length-take-le n buffer out.bound) in
    record {
      given = rw (count, take-add) cc;
      rest = rw count (out.rest ∙ ap Some (drop-drop n (length bytes) left));
    }

-- one more read
pub has_read-more : {before mid after : Option (List ℕ)} {bytes buffer : List ℕ} {n : ℕ} →
    HasRead before mid bytes → HandsOut mid after buffer n → HasRead before after (bytes ++ take n buffer)
has_read-more {before} {mid} {after} {bytes} {buffer} {n} read out =
    read_on before after bytes buffer n read.given (subst (λ known. HandsOut known after buffer n) read.rest out)

-- where the bytes before are known and a read hands out nothing, they are all of them
read_end : (before after : Option (List ℕ)) (bytes buffer : List ℕ) (limit : ℕ) →
    IfSome before (λ left. bytes ≡ take (length bytes) left) →
    HandsOut (rest_after before (length bytes)) after buffer 0 →
    length bytes ≤ limit →
    HasReadUpTo before after bytes limit
read_end None after bytes buffer limit given out within = record { given = tt; rest = out.rest }
read_end (Some left) after bytes buffer limit given out within =
    let none : drop (length bytes) left ≡ [] = out.at_end.0 refl in
    let all : left ≡ bytes =
    sym (take-append-drop (length bytes) left) ∙ ap (λ ys. take (length bytes) left ++ ys) none ∙ append-nil _ ∙ sym given in
    let short : length left ≤ limit = omega (arith, ap length all) in
    record {
      given = sym all ∙ sym (take_all limit left short);
      rest = out.rest ∙ ap Some (none ∙ sym (drop_all limit left short));
    }

-- a read that hands out nothing ends it
pub has_read-end : {before mid after : Option (List ℕ)} {bytes more buffer : List ℕ} {n limit : ℕ} →
    HasRead before mid bytes → HandsOut mid after buffer n → n ≡ 0 → more ≡ bytes ++ take n buffer → length bytes ≤ limit →
    HasReadUpTo before after more limit
has_read-end {before} {mid} {after} {bytes} {more} {buffer} {n} {limit} read out none appended within =
    let at_end : HandsOut mid after buffer 0 = subst (λ k. HandsOut mid after buffer k) none out in
    let same : bytes ≡ more = sym (appended ∙ ap (λ k. bytes ++ take k buffer) none ∙ append-nil bytes) in
    subst (λ ys. HasReadUpTo before after ys limit) same
    (read_end before after bytes buffer limit read.given (subst (λ known. HandsOut known after buffer 0) read.rest at_end) within)
