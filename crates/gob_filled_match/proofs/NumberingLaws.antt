-- Numbers put into a skeleton, filling by filling, and fillings found by their numbers.
use Rattle.std.proofs.Common.{◌≡◌, ◌∙◌, ◌≤◌, ◌<◌, ◌+◌, ◌-◌, ℕ, zero, suc, List, [], ◌∷◌, ◌++◌, length, take, drop, refl}
use Rattle.std.proofs.Common.{sym, ap, subst, append_assoc, arith, get_or, slice_get, Some}
use Rattle.std.proofs.lemmas.List.{at_drop_more, drop-drop, length-append, length-drop, length-take-le}
use Rattle.std.proofs.lemmas.List.{take-append-drop, take-append-le, take_all}
use Rattle.std.proofs.lemmas.Option.{none-some}
use Rattle.gob_num.specs.Unsigned.{IsUnsigned}
use Rattle.gob_types.specs.declared.id.TypeId.{TypeId}
use Rattle.gob_types.specs.Table.{Table}
use Rattle.gob_types.proofs.PublicLaws.{some_injective}
use Rattle.gob_filled.specs.Filled.{Definitions, Filled, Fillings, no_filling, filling}
use Rattle.gob_go.specs.Meaning.{AreFillings, no_fillings, filling_then}
use Rattle.gob_go.specs.declared.filled.Filling.{Filling, out-Filling}
use Rattle.gob_filled_match.specs.Received.{Anywhere, HasNumber, the_first, a_later_one, IsInNumbers, as_it_stands}
use Rattle.gob_filled_match.specs.Received.{number_next}

-- the fillings behind so many
abbrev pub behind : ℕ → Fillings → Fillings
behind zero fs = fs
behind (suc i) no_filling = no_filling
behind (suc i) (filling p s ds u w fs) = behind i fs

-- the next of them is the one that is kept there, and its number counts those before it and itself
pub record NextFilling (i : ℕ) (kept : Filling) (fs : Fillings) : Type 0 where
  pub name : List ℕ
  pub definitions : Definitions
  pub type : TypeId
  pub value : Filled
  pub next : behind i fs ≡ filling (out-Filling kept).place name definitions type value (behind (suc i) fs)
  pub numbered : HasNumber fs (suc i) name definitions type value

pub next_filling : {T : Table} {all : List Filling} {fs : Fillings} (i : ℕ) (d : Filling) → AreFillings T all fs
    → i < length all → NextFilling i (get_or all i d) fs
next_filling i d no_fillings l = absurd (omega (arith, l))
next_filling zero d (filling_then m more) l =
    record { name = _; definitions = _; type = _; value = _; next = refl; numbered = the_first }
next_filling (suc i) d (filling_then {all = all} {fs = fs} m more) l =
    let shorter : i < length all = omega (arith, l) in
    let n = next_filling i d more shorter in record {
      name = n.name;
      definitions = n.definitions;
      type = n.type;
      value = n.value;
      next = n.next;
      numbered = a_later_one n.numbered;
    }

pub none_behind : {T : Table} {all : List Filling} {fs : Fillings} → AreFillings T all fs
    → behind (length all) fs ≡ no_filling
none_behind no_fillings = refl
none_behind (filling_then m more) = none_behind more

-- what stands at a place
pub at_slice : {x : ℕ} (xs : List ℕ) (i : ℕ) → slice_get xs i ≡ Some x → (i < length xs) × (get_or xs i 0 ≡ x)
at_slice [] i e = absurd (none-some _ e)
at_slice (y ∷ xs) zero e = (omega arith, some_injective e)
at_slice (y ∷ xs) (suc i) e = let r = at_slice xs i e in let l = r.0 in (omega (arith, l), r.1)

-- ---- a byte 0 at a place of bytes of which some are past
pub record SplitAt (bytes : List ℕ) (from place : ℕ) (c : List ℕ) : Type 0 where
  pub left : drop from bytes ≡ c ++ 0 ∷ drop (place + 1) bytes
  pub done : take from bytes ++ (c ++ 0 ∷ []) ≡ take (place + 1) bytes
  pub count : length (take from bytes ++ c) ≡ place

front : (xs ys : List ℕ) → take (length xs) (xs ++ ys) ≡ xs
front xs ys = take-append-le (length xs) xs ys (omega arith) ∙ take_all (length xs) xs (omega arith)

pub split_at : (bytes : List ℕ) (from place : ℕ) → from ≤ place → place < length bytes → get_or bytes place 0 ≡ 0
    → SplitAt bytes from place (take (place - from) (drop from bytes))
split_at bytes from place order inside zero_there =
    let c = take (place - from) (drop from bytes) in
    let sum : from + (place - from) ≡ place = omega arith in
    let behind_c : drop (place - from) (drop from bytes) ≡ drop place bytes =
    drop-drop (place - from) from bytes ∙ ap (λ n. drop n bytes) sum in
    let at_place : drop place bytes ≡ 0 ∷ drop (place + 1) bytes =
    at_drop_more (λ (l : List ℕ). l) bytes place 0 inside ∙ ap (λ x. x ∷ drop (place + 1) bytes) zero_there in
    let left : drop from bytes ≡ c ++ 0 ∷ drop (place + 1) bytes =
    sym (take-append-drop (place - from) (drop from bytes)) ∙ ap (λ x. c ++ x) (behind_c ∙ at_place) in
    let whole : bytes ≡ (take from bytes ++ (c ++ 0 ∷ [])) ++ drop (place + 1) bytes =
    sym (take-append-drop from bytes) ∙ ap (λ x. take from bytes ++ x)
    (left ∙ sym (append_assoc c (0 ∷ []) (drop (place + 1) bytes)))
    ∙ sym (append_assoc (take from bytes) (c ++ 0 ∷ []) (drop (place + 1) bytes)) in
    let front_count : length (take from bytes) ≡ from = length-take-le from bytes (omega arith) in
    let rest_count : length (drop from bytes) ≡ length bytes - from = length-drop from bytes in
    let c_count : length c ≡ place - from = length-take-le (place - from) (drop from bytes) (omega arith) in
    let count : length (take from bytes ++ c) ≡ place = length-append (take from bytes) c ∙ omega arith in
    let longer : length (take from bytes ++ (c ++ 0 ∷ [])) ≡ place + 1 =
    length-append (take from bytes) (c ++ 0 ∷ []) ∙ ap (λ n. length (take from bytes) + n) (length-append c (0 ∷ []))
    ∙ omega arith in
    record {
      left = left;
      done = sym (ap (take (place + 1)) whole
          ∙ ap (λ n. take n ((take from bytes ++ (c ++ 0 ∷ [])) ++ drop (place + 1) bytes)) (sym longer)
          ∙ front (take from bytes ++ (c ++ 0 ∷ [])) (drop (place + 1) bytes));
      count = count;
    }

-- ---- the numbers so far
-- with the rest of the skeleton, in which the fillings from this one on are numbers, these bytes are all of it
pub record NumbersSo (skeleton : List ℕ) (fs : Fillings) (i from : ℕ) (bytes : List ℕ) : Type 0 where
  pub completes : (ms : List ℕ)
      → IsInNumbers Anywhere fs (take from skeleton) (drop from skeleton) (behind i fs) ms
      → IsInNumbers Anywhere fs [] skeleton fs (bytes ++ ms)

pub none_numbered : (skeleton : List ℕ) (fs : Fillings) → NumbersSo skeleton fs 0 0 []
none_numbered skeleton fs = record { completes = λ ms h. h }

pub one_numbered : {skeleton bytes bytes' a : List ℕ} {fs : Fillings} {i j from : ℕ} {kept : Filling}
    → NumbersSo skeleton fs i from bytes → NextFilling i kept fs → from ≤ (out-Filling kept).place
    → (out-Filling kept).place < length skeleton → get_or skeleton (out-Filling kept).place 0 ≡ 0
    → j ≡ suc i → IsUnsigned j a
    → bytes' ≡ (bytes ++ take ((out-Filling kept).place - from) (drop from skeleton)) ++ a
    → NumbersSo skeleton fs j ((out-Filling kept).place + 1) bytes'
one_numbered {skeleton = skeleton} {bytes = bytes} {bytes' = bytes'} {a = a} {fs = fs} {i = i} {from = from}
    {kept = kept} s n order inside zero_there count u e =
    let place = (out-Filling kept).place in
    let c = take (place - from) (drop from skeleton) in
    let p = split_at skeleton from place order inside zero_there in record {
      completes = λ ms h.
          let more : IsInNumbers Anywhere fs (take from skeleton) (c ++ 0 ∷ drop (place + 1) skeleton)
          (filling (length (take from skeleton ++ c)) n.name n.definitions n.type n.value (behind (suc i) fs))
          (c ++ (a ++ ms)) =
          number_next c tt n.numbered (subst (λ k. IsUnsigned k a) count u)
          (subst (λ x. IsInNumbers Anywhere fs x (drop (place + 1) skeleton) (behind (suc i) fs) ms) (sym p.done)
          (subst (λ k. IsInNumbers Anywhere fs (take (place + 1) skeleton) (drop (place + 1) skeleton) (behind k fs) ms)
          count h))
          in
          let placed : IsInNumbers Anywhere fs (take from skeleton) (c ++ 0 ∷ drop (place + 1) skeleton)
          (behind i fs) (c ++ (a ++ ms)) =
          subst (λ x. IsInNumbers Anywhere fs (take from skeleton) (c ++ 0 ∷ drop (place + 1) skeleton) x
          (c ++ (a ++ ms)))
          (ap (λ k. filling k n.name n.definitions n.type n.value (behind (suc i) fs)) p.count ∙ sym n.next) more in
          subst (λ x. IsInNumbers Anywhere fs [] skeleton fs x)
          (sym (ap (λ x. x ++ ms) e ∙ append_assoc (bytes ++ c) a ms ∙ append_assoc bytes c (a ++ ms)))
          (s.completes (c ++ (a ++ ms)) (subst (λ x. IsInNumbers Anywhere fs (take from skeleton) x (behind i fs)
          (c ++ (a ++ ms))) (sym p.left) placed));
    }

pub all_numbered : {T : Table} {all : List Filling} {skeleton bytes bytes' : List ℕ} {fs : Fillings} {i from : ℕ}
    → AreFillings T all fs → i ≡ length all → NumbersSo skeleton fs i from bytes
    → bytes' ≡ bytes ++ drop from skeleton → IsInNumbers Anywhere fs [] skeleton fs bytes'
all_numbered {skeleton = skeleton} {fs = fs} {i = i} {from = from} m end s e =
    subst (λ x. IsInNumbers Anywhere fs [] skeleton fs x) (sym e) (s.completes (drop from skeleton)
    (subst (λ x. IsInNumbers Anywhere fs (take from skeleton) (drop from skeleton) x (drop from skeleton))
    (sym (ap (λ n. behind n fs) end ∙ none_behind m)) as_it_stands))
