-- Taking the bytes of a number that stands in a segment.
use Rattle.std.proofs.Common.{◌≡◌, ℕ, ◌+◌, ◌-◌, ◌^◌, ◌<◌, ◌≤◌, min, List, [], ◌∷◌, ◌++◌, length}
use Rattle.std.proofs.Common.{take, Ok, Err, arith}
use Rattle.std.proofs.Common.{sym, ap, ◌∙◌, subst, length-append}
use Rattle.std.proofs.lemmas.List.{take_min, length-take}
use Rattle.std.proofs.Math.Seq.{take-append-add}
use Rattle.gob_num.specs.Unsigned.{IsUnsigned, IsUnsignedPrefix, IsNotMinimal}
use Rattle.gob_read.proofs.PublicLaws.{take_fewer, take_whole}
use Rattle.gob_stream.specs.declared.fault.Fault.{Fault}
use Rattle.gob_stream.specs.declared.fault.Fault.TheVariants as fault
use Rattle.gob_stream.specs.declared.fault.Refusal.{Refusal}
use Rattle.gob_go.specs.declared.number.NumberStage.{NumberStage}
use Rattle.gob_go.specs.declared.number.NumberTaken.TheVariants as taken
use Rattle.gob_go.specs.Machine.Parts.{RefusesNumber, short, GoesOn, NumberIsWhole, NumberAnswers}

-- so many bytes of the piece may be of the number, behind whose bytes so far `at` bytes of the stream were taken
pub record Front (stage : NumberStage) (at room : ℕ) (piece : List ℕ) : Type 0 where
  pub at_is : at ≡ stage.rest.begin + length stage.number
  pub order : at ≤ stage.rest.end
  pub room_is : room ≡ min (stage.rest.end - at) (length piece)

-- what is there of the number up to the end of the segment
front_is : {stage : NumberStage} {at room : ℕ} {piece : List ℕ} → Front stage at room piece
    → take (stage.rest.end - stage.rest.begin) (stage.number ++ piece) ≡ stage.number ++ take room piece
front_is {stage = stage} {at = at} {piece = piece} f =
    let a = f.at_is in let o = f.order in
    let e : stage.rest.end - stage.rest.begin ≡ length stage.number + (stage.rest.end - at) = omega arith in
    ap (λ n. take n (stage.number ++ piece)) e ∙ take-append-add stage.number piece (stage.rest.end - at)
    ∙ ap (λ q. stage.number ++ q) (sym (take_min (stage.rest.end - at) piece)
    ∙ ap (λ n. take n piece) (sym f.room_is))

refused_front : {stage : NumberStage} {at room : ℕ} {piece : List ℕ} {S : Refusal} → Front stage at room piece
    → RefusesNumber stage.rest.begin stage.rest.end (stage.number ++ take room piece) S
    → RefusesNumber stage.rest.begin stage.rest.end
    (take (stage.rest.end - stage.rest.begin) (stage.number ++ piece)) S
refused_front f h = rw (front_is f) h

-- ---- what taking bytes of a number answers

pub more_of_number : {old : NumberStage} {at room : ℕ} {piece : List ℕ} (new : NumberStage) → Front old at room piece
    → at + room < old.rest.end → IsUnsignedPrefix (old.number ++ take room piece)
    → new.number ≡ old.number ++ take room piece → NumberAnswers old new piece (Ok taken.More)
more_of_number {old = old} {room = room} {piece = piece} new f l p e =
    let a = f.at_is in let r = f.room_is in
    let n : room ≡ length piece = omega arith in
    let t : take room piece ≡ piece = take_whole piece room (omega arith) in (
      e ∙ ap (λ q. old.number ++ q) t,
      subst (λ q. IsUnsignedPrefix (old.number ++ q)) t p,
      omega (arith, length-append old.number piece),
    )

pub whole_number : {old : NumberStage} {at room number used : ℕ} {piece : List ℕ} → Front old at room piece
    → used ≤ length (take room piece) → IsUnsigned number (old.number ++ take used (take room piece))
    → NumberIsWhole old piece number used
whole_number {old = old} {room = room} {number = number} {used = used} {piece = piece} f k u =
    let a = f.at_is in let o = f.order in let r = f.room_is in
    let n = length-take room piece in
    record {
      within = omega arith;
      spelled = subst (λ q. IsUnsigned number (old.number ++ q)) (take_fewer piece used room (omega arith)) u;
      room = omega (arith, length-append old.number (take used piece), length-take used piece);
    }

pub no_number : {old : NumberStage} {at room : ℕ} {piece : List ℕ} {S : Refusal} (new : NumberStage) (f : Fault)
    → Front old at room piece
    → RefusesNumber old.rest.begin old.rest.end (old.number ++ take room piece) S → f ≡ fault.Refused S
    → NumberAnswers old new piece (Err f)
no_number {old = old} {piece = piece} {S = S} new f front h e =
    let there : NumberAnswers old new piece (Err (fault.Refused S)) = refused_front front h in
    subst (λ f. NumberAnswers old new piece (Err f)) (sym e) there

pub number_ends : {old : NumberStage} {at room behind : ℕ} {piece : List ℕ} (new : NumberStage) (f : Fault)
    → Front old at room piece → IsUnsignedPrefix (old.number ++ take room piece) → behind ≡ at + room
    → GoesOn behind old.rest.end (Err f) → NumberAnswers old new piece (Err f)
number_ends {old = old} {at = at} {room = room} {piece = piece} new (fault.Refused R) front p b g =
    let a = front.at_is in let o = front.order in let r = front.room_is in let e = g.0 in
    let ends : old.rest.begin + length (old.number ++ take room piece) ≡ old.rest.end =
    omega (arith, length-append old.number (take room piece), length-take room piece) in
    rw g.1 (refused_front front (short ends p))
number_ends new fault.Read front p b g = absurd g
number_ends new fault.Memory front p b g = absurd g
number_ends new fault.Failed front p b g = absurd g

-- ---- a number that is refused has room for what shows it

two_bytes : (q : List ℕ) → IsNotMinimal q → 2 ≤ length q
two_bytes [] h = absurd h
two_bytes (a ∷ []) h = absurd h
two_bytes (a ∷ b ∷ q) h = omega arith

pub two_fit : {stage : NumberStage} {at room : ℕ} {piece : List ℕ} → Front stage at room piece
    → stage.rest.end < 2 ^ 64 → IsNotMinimal (stage.number ++ take room piece) → stage.rest.begin + 2 < 2 ^ 64
two_fit {stage = stage} {room = room} {piece = piece} f l h =
    let a = f.at_is in let o = f.order in let r = f.room_is in
    omega (
      arith,
      two_bytes (stage.number ++ take room piece) h,
      length-append stage.number (take room piece),
      length-take room piece,
    )
