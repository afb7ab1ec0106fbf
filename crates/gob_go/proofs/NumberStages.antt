-- A number of which some bytes have come, and what becomes of a piece behind them.
use Rattle.std.proofs.Common.{◌≡◌, ℕ, ◌+◌, ◌-◌, ◌<◌, ◌≤◌, List, [], ◌++◌, length}
use Rattle.std.proofs.Common.{take, Ok, Err, arith, refl, sym, ap, ◌∙◌, subst, length-append}
use Rattle.std.proofs.lemmas.List.{length-take}
use Rattle.gob_num.specs.Unsigned.{IsUnsigned, IsUnsignedPrefix}
use Rattle.gob_num.proofs.PublicLaws.{begins_prefix}
use Rattle.gob_stream.specs.declared.fault.Fault.{Fault}
use Rattle.gob_stream.specs.declared.fault.Fault.TheVariants as fault
use Rattle.gob_stream.specs.declared.fault.Refusal.{Refusal}
use Rattle.gob_stream.specs.declared.stage.Extent.{Extent}
use Rattle.gob_stream.proofs.Reader.NumberSteps.{number_taken}
use Rattle.gob_go.specs.declared.number.NumberStage.{NumberStage}
use Rattle.gob_go.specs.declared.number.NumberTaken.{NumberTaken}
use Rattle.gob_go.specs.declared.number.NumberTaken.TheVariants as taken
use Rattle.gob_go.specs.Machine.HasRead.{NumberIs}
use Rattle.gob_go.specs.Machine.Parts.{RefusesNumber, NumberIsWhole, NumberAnswers}

-- it stands behind so many bytes of the stream, and goes on
pub record AtNumber (stage : NumberStage) (taken : ℕ) : Type 0 where
  pub taken_is : taken ≡ stage.rest.begin + length stage.number
  pub room : taken < stage.rest.end
  pub prefix : IsUnsignedPrefix stage.number

pub at_number : {stage : NumberStage} {begin end taken : ℕ} {q : List ℕ} → NumberIs stage begin end q
    → taken ≡ begin + length q → AtNumber stage taken
at_number n e =
    let b = n.begins in let f = n.ends in let r = n.room in let l = ap length n.bytes in
    record {
      taken_is = omega arith;
      room = omega arith;
      prefix = subst IsUnsignedPrefix (sym n.bytes) n.prefix;
    }

-- and what of a piece was taken with it, where it is whole
pub taken_whole : {old : NumberStage} {piece : List ℕ} {number used : ℕ} (new : NumberStage) (t : NumberTaken)
    → t ≡ taken.Whole number used → NumberAnswers old new piece (Ok t) → NumberIsWhole old piece number used
taken_whole {old = old} {piece = piece} new t e h = subst (λ t. NumberAnswers old new piece (Ok t)) e h

pub taken_more : (old new : NumberStage) (piece : List ℕ) (t : NumberTaken) → t ≡ taken.More
    → NumberAnswers old new piece (Ok t) → NumberAnswers old new piece (Ok taken.More)
taken_more old new piece t e h = subst (λ t. NumberAnswers old new piece (Ok t)) e h

pub whole_some : {stage : NumberStage} {at number used : ℕ} {piece : List ℕ} → AtNumber stage at
    → NumberIsWhole stage piece number used → 0 < used
whole_some {used = used} {piece = piece} n h = number_taken piece used n.prefix h.spelled

pub whole_fits : {stage : NumberStage} {at number used : ℕ} {piece : List ℕ} → AtNumber stage at
    → NumberIsWhole stage piece number used → at + used ≤ stage.rest.end
whole_fits {stage = stage} {used = used} {piece = piece} n h =
    let t = n.taken_is in let r = h.room in let w = h.within in
    omega (arith, length-append stage.number (take used piece), length-take used piece)

-- before its first byte
pub number_begins : {stage : NumberStage} {begin end : ℕ}
    → stage ≡ record { rest = record { begin = begin; end = end }; number = [] }
    → begin < end → NumberIs stage begin end []
number_begins {begin = begin} {end = end} e l = subst (λ s. NumberIs s begin end []) (sym e) (record {
  begins = refl;
  ends = refl;
  bytes = refl;
  prefix = begins_prefix {bytes = []} tt;
  room = omega arith;
})

pub number_goes_on : {old new : NumberStage} {begin end : ℕ} {q : List ℕ} (piece : List ℕ) → NumberIs old begin end q
    → NumberAnswers old new piece (Ok taken.More) → new.rest ≡ old.rest → NumberIs new begin end (q ++ piece)
number_goes_on piece n h r =
    let b = n.begins in let e = n.ends in let l = ap (λ (q : List ℕ). length (q ++ piece)) n.bytes in let k = h.2 in
    record {
      begins = ap (λ (x : Extent). x.begin) r ∙ n.begins;
      ends = ap (λ (x : Extent). x.end) r ∙ n.ends;
      bytes = h.0 ∙ ap (λ (q : List ℕ). q ++ piece) n.bytes;
      prefix = subst (λ q. IsUnsignedPrefix (q ++ piece)) n.bytes h.1;
      room = omega arith;
    }

-- the number is whole with so many bytes of the piece, one at least
pub record WholeNumber (begin end : ℕ) (q piece : List ℕ) (number used : ℕ) : Type 0 where
  pub within : used ≤ length piece
  pub some : 0 < used
  pub spelled : IsUnsigned number (q ++ take used piece)
  pub room : begin + length q + used ≤ end

pub number_is_whole : {old : NumberStage} {begin end number used : ℕ} {q piece : List ℕ} → NumberIs old begin end q
    → NumberIsWhole old piece number used → WholeNumber begin end q piece number used
number_is_whole {number = number} {used = used} {q = q} {piece = piece} n h =
    let b = n.begins in let e = n.ends in let k = h.room in let w = h.within in
    let l = ap (λ (q : List ℕ). length (q ++ take used piece)) n.bytes in
    let u : IsUnsigned number (q ++ take used piece) = subst (λ q. IsUnsigned number (q ++ take used piece)) n.bytes
    h.spelled in
    record {
      within = h.within;
      some = number_taken piece used n.prefix u;
      spelled = u;
      room = omega (arith, length-append q (take used piece), length-take used piece);
    }

-- the number is refused
pub data NumberFault (begin end : ℕ) (y : List ℕ) : Fault → Type 0 where
  number_fault : {R : Refusal} → RefusesNumber begin end (take (end - begin) y) R
      → NumberFault begin end y (fault.Refused R)

pub fault_of_number : {old : NumberStage} {begin end : ℕ} {q : List ℕ} (piece : List ℕ) (new : NumberStage) (f : Fault)
    → NumberIs old begin end q → NumberAnswers old new piece (Err f) → NumberFault begin end (q ++ piece) f
fault_of_number {old = old} {begin = begin} {end = end} {q = q} piece new (fault.Refused R) n h =
    let bytes = subst (λ q. RefusesNumber old.rest.begin old.rest.end
    (take (old.rest.end - old.rest.begin) (q ++ piece)) R) n.bytes h in
    let begins = subst (λ b. RefusesNumber b old.rest.end (take (old.rest.end - b) (q ++ piece)) R) n.begins bytes in
    number_fault (subst (λ e. RefusesNumber begin e (take (e - begin) (q ++ piece)) R) n.ends begins)
fault_of_number piece new fault.Read n h = absurd h
fault_of_number piece new fault.Memory n h = absurd h
fault_of_number piece new fault.Failed n h = absurd h
