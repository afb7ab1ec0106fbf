-- Taking the bytes of a type number, and then those of what follows it.
use Rattle.std.proofs.Common.{◌≡◌, ◌≢◌, ℕ, zero, suc, ◌+◌, ◌-◌, ◌<◌, ◌≤◌, min, List, [], ◌∷◌, ◌++◌, length, take, drop}
use Rattle.std.proofs.Common.{Result, Ok, Err, IfOk, arith, refl, sym, ap, ◌∙◌, subst, append_assoc, length-append}
use Rattle.std.proofs.Common.{length-drop, ℤ, pos, negsuc, ◌<ℤ◌, ◌≤ℤ◌, unsigned_abs}
use Rattle.std.proofs.lemmas.List.{append-nil, take_min, length-take}
use Rattle.gob_num.specs.Unsigned.{IsUnsigned, IsUnsignedPrefix}
use Rattle.gob_num.proofs.PublicLaws.{prefix_not_whole}
use Rattle.gob_types.specs.declared.reason.Reason.TheVariants as reason
use Rattle.gob_types.specs.Base.{base_table}
use Rattle.gob_types.specs.Defined.{Defined, types}
use Rattle.gob_read.specs.Building.{Building}
use Rattle.gob_read.proofs.PublicLaws.{take_and_drop, take_fewer, take_whole}
use Rattle.gob_stream.specs.declared.fault.Refusal.{Refusal}
use Rattle.gob_stream.specs.declared.fault.Fault.{Fault}
use Rattle.gob_stream.specs.declared.fault.Fault.TheVariants as fault
use Rattle.gob_stream.specs.declared.stage.Extent.{Extent}
use Rattle.gob_stream.specs.declared.stage.Stepped.{Stepped}
use Rattle.gob_stream.specs.Machine.Stages.{type_number_in}
use Rattle.gob_stream.specs.Bounds.{Bounds}
use Rattle.gob_stream.specs.Refusing.{refuses, RefusesBody, short}
use Rattle.gob_stream.specs.Outcome.{RefusesNext, refused_body}
use Rattle.gob_stream.specs.Machine.HasRead.{StageHasRead, in_type_number, IsCount, IsRest}
use Rattle.gob_stream.specs.Machine.ReadParts.{GoesOnIn, more_of_it, ends_there, StepsOn, goes_on, gives, refuses_it}
use Rattle.gob_stream.specs.Machine.ReadParts.{no_memory, StageTakesOn}
use Rattle.gob_stream.proofs.Reader.ValueSteps.{take_over, stands_as, counted_as}
use Rattle.std.proofs.lemmas.Int.{ints}
use Rattle.gob_num.specs.Signed.{IsSigned}

pub ended_there : {X O : Type 0} {body : Extent} {taken used : ℕ} {number : List ℕ} {R : Refusal} → taken ≡ body.end
    → R ≡ refuses body.end body.end reason.Short
    → GoesOnIn {X = X} {O = O} body taken number used (Err (fault.Refused R))
ended_there {X = X} {O = O} {body = body} {taken = taken} {used = used} {number = number} l e =
    subst (λ R. GoesOnIn {X = X} {O = O} body taken number used (Err (fault.Refused R))) (sym e) (ends_there l)

-- ---- the id that a type number stands for
pub signed_as : {i j : ℤ} {a : List ℕ} → i ≡ j → IsSigned i a → IsSigned j a
signed_as {a = a} e s = subst (λ i. IsSigned i a) e s

pub negative_of : (i : ℤ) (k : ℕ) → i <ℤ pos 0 → k ≡ unsigned_abs i → (n : ℕ) × (i ≡ negsuc n) × (k ≡ n + 1)
negative_of (pos m) k l e = absurd (omega (arith, ints))
negative_of (negsuc n) k l e = (n, refl, omega (arith, ints))

pub not_negative_of : (i : ℤ) (k : ℕ) → pos 0 ≤ℤ i → k ≡ unsigned_abs i → i ≡ pos k
not_negative_of (pos m) k l e = ap (λ n. pos n) (let f : m ≡ k = omega (arith, ints) in f)
not_negative_of (negsuc n) k l e = absurd (omega (arith, ints))

-- ---- lists
take_none : (n : ℕ) → take {A = ℕ} n [] ≡ []
take_none zero = refl
take_none (suc n) = refl

take_further : (xs : List ℕ) (used count : ℕ) → take (used + count) xs ≡ take used xs ++ take count (drop used xs)
take_further xs zero count = ap (λ n. take n xs) (let e : 0 + count ≡ count = omega arith in e)
take_further [] (suc used) count = ap (λ n. take n []) (let e : suc used + count ≡ suc (used + count) = omega arith in
    e) ∙ sym (take_none count)
take_further (x ∷ xs) (suc used) count =
    ap (λ n. take n (x ∷ xs)) (let e : suc used + count ≡ suc (used + count) = omega arith in e)
    ∙ ap (λ l. x ∷ l) (take_further xs used count)

-- what was taken, and more of the piece behind it
pub further_on : (z piece : List ℕ) (used count : ℕ) → z ++ take (used + count) piece ≡ (z ++ take used piece)
    ++ take count (drop used piece)
further_on z piece used count = ap (λ l. z ++ l) (take_further piece used count)
    ∙ sym (append_assoc z (take used piece) (take count (drop used piece)))

pub all_there : (z piece : List ℕ) (used : ℕ) → z ++ piece ≡ (z ++ take used piece) ++ drop used piece
all_there z piece used = ap (λ l. z ++ l) (sym (take_and_drop piece used))
    ∙ sym (append_assoc z (take used piece) (drop used piece))

-- the slice from there on is the rest
pub slice_rest : (piece : List ℕ) (used : ℕ) → take (length piece - used) (drop used piece) ≡ drop used piece
slice_rest piece used = take_whole (drop used piece) (length piece - used) (omega (arith, length-drop used piece))

-- what is there of a body whose first bytes came before the piece
pub room_there : (number piece : List ℕ) (m room : ℕ) → length number ≤ m
    → room ≡ min (m - length number) (length piece) → take m (number ++ piece) ≡ number ++ take room piece
room_there number piece m room l e =
    take_over number piece m l ∙ ap (λ p. number ++ p) (sym (take_min (m - length number) piece)
    ∙ ap (λ n. take n piece) (sym e))

-- ---- the type number is refused, or goes on
pub number_refused : {X O : Type 0} {most : ℕ} {building : Building X O most} {L : Bounds} {d : Defined}
    {offset m room : ℕ} {body : Extent} {R S : Refusal} (c number piece : List ℕ)
    → IsCount L offset m c body → length number ≤ m → room ≡ min (m - length number) (length piece)
    → RefusesBody base_table L (types d) body.begin m (number ++ take room piece) S → S.reason ≢ reason.Ended → R ≡ S
    → StepsOn building L d offset (c ++ number) piece d (Err (fault.Refused R))
number_refused {L = L} {d = d} {offset = offset} {m = m} {body = body} {S = S} c number piece k l e q n same =
    let there = subst (λ y. RefusesBody base_table L (types d) body.begin m y S) (sym (room_there number piece m _ l e))
    q in
    let here = subst (λ n. RefusesBody base_table L (types d) n m (take m (number ++ piece)) S) k.begin there in
    let next : RefusesNext base_table L (types d) offset ((c ++ number) ++ piece) S = refused_body (number ++ piece)
    (append_assoc c number piece) k.count k.item k.stream here in
    rw same (refuses_it refl next n)

pub number_goes_on : {X O : Type 0} {most : ℕ} {building : Building X O most} {L : Bounds} {d : Defined}
    {offset m taken room : ℕ} {body : Extent} {now : List ℕ} {result : Result (Stepped X O) Fault}
    (c number piece : List ℕ)
    → IsCount L offset m c body → length number < m → room ≡ min (m - length number) (length piece)
    → taken ≡ body.begin + length number + room → IsUnsignedPrefix (number ++ take room piece) → now ≡ number
    ++ take room piece
    → GoesOnIn body taken now room result → StepsOn building L d offset (c ++ number) piece d result
number_goes_on {building = building} {L = L} {d = d} {offset = offset} {m = m} {room =
    room} {body = body} c number piece k l e t f same (more_of_it w) =
    let z1 = k.end in
    let few : length (number ++ take room piece) < m = omega (
      arith,
      length-append number (take room piece),
      length-take room piece,
    ) in
    goes_on refl (omega arith)
    (subst (λ n. StageHasRead building L (types d) offset (type_number_in body n) ((c ++ number)
    ++ take room piece)) (sym same) (stands_as (append_assoc c number (take room piece)) (in_type_number k f few)))
number_goes_on {m = m} {room = room} {body = body} c number piece k l e t f same (ends_there w) =
    let z1 = k.end in
    let all : length (number ++ take room piece) ≡ m = omega (
      arith,
      length-append number (take room piece),
      length-take room piece,
    ) in
    let there : body.end ≡ body.begin + m = k.end in
    number_refused c number piece k (omega arith) e (short all f) (λ e. cc) (ap (λ n. refuses n n reason.Short) there)

pub goes_on_some : {X O : Type 0} {body : Extent} {taken room : ℕ} {now : List ℕ} {result : Result (Stepped X O) Fault}
    → GoesOnIn body taken now room result → 0 < room → IfOk result (λ stepped. 0 < stepped.used)
goes_on_some (more_of_it w) l = l
goes_on_some (ends_there w) l = tt

-- the last bytes of a number are some
pub number_taken : {number : List ℕ} {n : ℕ} (piece : List ℕ) (used : ℕ) → IsUnsignedPrefix number
    → IsUnsigned n (number ++ take used piece) → 0 < used
number_taken {number = number} {n = n} piece zero f u =
    absurd (prefix_not_whole f (subst (λ l. IsUnsigned n l) (append-nil number) u))
number_taken piece (suc used) f u = omega arith

-- ---- a step further behind the first bytes of a piece
pub steps_further : {X O : Type 0} {most : ℕ} {building : Building X O most} {L : Bounds} {d d' : Defined} {offset : ℕ}
    {stepped : Stepped X O} (z piece : List ℕ) (used : ℕ)
    → used ≤ length piece
    → StepsOn building L d offset (z ++ take used piece) (drop used piece) d' (Ok stepped)
    → StepsOn building L d offset z piece d'
    (Ok (record { used = used + stepped.used; stage = stepped.stage; item = stepped.item }))
steps_further z piece used l (goes_on {used = more} e k s) = goes_on e (omega (arith, length-drop used piece))
    (stands_as (further_on z piece used more) s)
steps_further z piece used l (gives {used = more} e k q w n) =
    let same = ap length (further_on z piece used more) in
    gives e (omega (arith, length-drop used piece)) (counted_as (further_on z piece used more) q) w (omega arith)

pub steps_stop : {X O : Type 0} {most : ℕ} {building : Building X O most} {L : Bounds} {d d' : Defined} {offset : ℕ}
    {f : Fault} (z piece : List ℕ) (used : ℕ)
    → StepsOn building L d offset (z ++ take used piece) (drop used piece) d' (Err f)
    → StepsOn building L d offset z piece d' (Err f)
steps_stop {L = L} {d = d} {offset = offset} z piece used (refuses_it {R = R} e q n) =
    refuses_it e (subst (λ l. RefusesNext base_table L (types d) offset l R) (sym (all_there z piece used)) q) n
steps_stop z piece used (no_memory e) = no_memory e

pub steps_few : {X O : Type 0} {most : ℕ} {building : Building X O most} {L : Bounds} {d d' : Defined} {offset : ℕ}
    {z piece : List ℕ} {stepped : Stepped X O}
    → StepsOn building L d offset z piece d' (Ok stepped) → stepped.used ≤ length piece
steps_few (goes_on e k s) = k
steps_few (gives e k q w n) = k

-- ---- the type number is whole
pub rest_of : {body : Extent} {taken room used : ℕ} (number piece : List ℕ) → body.begin + length number ≡ taken
    → taken + room ≤ body.end → room ≤ length piece → used ≤ length (take room piece)
    → IsRest body (number ++ take used (take room piece)) (record { begin = taken + used; end = body.end })
rest_of {room = room} {used = used} number piece b e r l =
    let n = length-take room piece in
    record {
      begin = omega (
        arith,
        length-append number (take used (take room piece)),
        length-take used (take room piece),
      );
      end = refl;
      within = omega arith;
    }

-- the bytes of the type number that came, and those of the piece
pub number_there : (c number piece : List ℕ) (used room : ℕ) → used ≤ length (take room piece) → c
    ++ (number ++ take used (take room piece)) ≡ (c ++ number) ++ take used piece
number_there c number piece used room l =
    let n = length-take room piece in
    ap (λ l. c ++ (number ++ l)) (take_fewer piece used room (omega arith))
    ∙ sym (append_assoc c number (take used piece))

-- a number wants one byte at a time
pub one_used : {X O : Type 0} {most : ℕ} {building : Building X O most} {L : Bounds} {d d' : Defined} {offset : ℕ}
    {z piece : List ℕ} {result : Result (Stepped X O) Fault}
    → StepsOn building L d offset z piece d' result → IfOk result (λ stepped. 0 < stepped.used)
    → StageTakesOn building L d offset z piece 1 d' result
one_used s n = record { steps = s; some = n; whole = λ l. all l n s }
  where
    all : {X O : Type 0} {most : ℕ} {building : Building X O most} {L : Bounds} {d d' : Defined} {offset : ℕ}
        {z piece : List ℕ} {result : Result (Stepped X O) Fault} → length piece ≤ 1
        → IfOk result (λ stepped. 0 < stepped.used) → StepsOn building L d offset z piece d' result
        → IfOk result (λ stepped. stepped.used ≡ length piece)
    all l n (goes_on e k s) = omega arith
    all l n (gives e k q w m) = omega arith
    all l n (refuses_it e q w) = tt
    all l n (no_memory e) = tt
