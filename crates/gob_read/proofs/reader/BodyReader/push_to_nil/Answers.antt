use Rattle.std.proofs.Common.{◌≡◌, ◌∙◌, ℕ, min, List, length, take, length-take, Some, None, arith}
use Rattle.gob_read.proofs.Machine.Bodies.{reads_on, usable_somewhere, reached_somewhere, push_more, push_nil}
use Rattle.gob_read.proofs.Machine.Bodies.{push_complete, push_done, push_stops, clear_begun, stops_honestly}
use Rattle.gob_read.proofs.reader.BodyReader.push_to_nil.Goals as goal

taken_as : {n : ℕ} (room : ℕ) (piece : List ℕ) → n ≡ min room (length piece) → n ≡ length (take n piece)
taken_as {n = n} room piece e = omega (arith, length-take n piece)

pub take_to_nil-requires-clause-has_read : goal.take_to_nil-requires-clause-has_read
take_to_nil-requires-clause-has_read g c =
    let p = reads_on c.in-Some.run' c.begin.new.self c.in-Some.ensures.value c.begin.ensures.begun
    c.begin.ensures.builder c.begin.ensures.stack c.min-count.ensures in
    reached_somewhere p.begun (usable_somewhere p.was c.requires.fits)

pub take_to_nil-requires-clause-clear : goal.take_to_nil-requires-clause-clear
take_to_nil-requires-clause-clear g c = clear_begun _ c.in-Some.run' c.begin.new.self c.in-Some.ensures.value
    c.requires.fits c.begin.ensures.begun c.requires.clear

pub slice_bounds-take_to_nil-end : goal.slice_bounds-take_to_nil-end
slice_bounds-take_to_nil-end g c = taken_as _ c.args.piece.now c.min-count.ensures

pub take-requires-in-Ok-PastValue : goal.take-requires-in-Ok-PastValue
take-requires-in-Ok-PastValue g c =
    let p = reads_on c.in-Some.run' c.begin.new.self c.in-Some.ensures.value c.begin.ensures.begun
    c.begin.ensures.builder c.begin.ensures.stack c.min-count.ensures in
    push_complete (reached_somewhere p.begun (usable_somewhere p.was c.requires.fits))
    (rw c.in-Ok-PastValue.field-0-is at c.in-Ok-PastValue.ensures.came) c.into_builder-builder.ensures

pub returns-in-Ok-ToEnd-clause-given : goal.returns-in-Ok-ToEnd-clause-given
returns-in-Ok-ToEnd-clause-given g c = λ t limit announced z h.
    push_more (reads_on c.in-Some.run' c.begin.new.self c.in-Some.ensures.value c.begin.ensures.begun
    c.begin.ensures.builder c.begin.ensures.stack c.min-count.ensures)
    (rw c.in-Ok-ToEnd.field-0-is at c.in-Ok-ToEnd.ensures.came) h

pub returns-in-Ok-ToNil-clause-given : goal.returns-in-Ok-ToNil-clause-given
returns-in-Ok-ToNil-clause-given g c = λ t limit announced z h.
    push_nil (reads_on c.in-Some.run' c.begin.new.self c.in-Some.ensures.value c.begin.ensures.begun
    c.begin.ensures.builder c.begin.ensures.stack c.min-count.ensures)
    (rw c.in-Ok-ToNil.field-0-is at c.in-Ok-ToNil.ensures.came) h

pub returns-in-Ok-PastValue-clause-given : goal.returns-in-Ok-PastValue-clause-given
returns-in-Ok-PastValue-clause-given g c = λ t limit announced z h.
    push_done limit (reads_on c.in-Some.run' c.begin.new.self c.in-Some.ensures.value c.begin.ensures.begun
    c.begin.ensures.builder c.begin.ensures.stack c.min-count.ensures)
    (rw c.in-Ok-PastValue.field-0-is at c.in-Ok-PastValue.ensures.came) c.into_builder-builder.ensures
    c.take-in-Ok-PastValue.ensures c.take.ensures.after h

pub returns-in-Err-clause-refused : goal.returns-in-Err-clause-refused
returns-in-Err-clause-refused g c =
    push_stops _ _ _ _ _ c.args.piece.now c.min-count.result c.in-Err.stop
    (reads_on c.in-Some.run' c.begin.new.self c.in-Some.ensures.value c.begin.ensures.begun c.begin.ensures.builder
    c.begin.ensures.stack c.min-count.ensures) c.in-Err.ensures.came

pub returns-in-Err-clause-honest : goal.returns-in-Err-clause-honest
returns-in-Err-clause-honest g c =
    let on = reads_on c.in-Some.run' c.begin.new.self c.in-Some.ensures.value c.begin.ensures.begun
    c.begin.ensures.builder c.begin.ensures.stack c.min-count.ensures in
    stops_honestly _ _ _ c.args.piece.now c.in-Err.stop
    (push_stops _ _ _ _ _ c.args.piece.now c.min-count.result c.in-Err.stop on c.in-Err.ensures.came)

some_not_none : {A : Type 0} {x : A} → Some x ≡ None → ⊥
some_not_none e = cc

pub returns-in-Err-clause-failed : goal.returns-in-Err-clause-failed
returns-in-Err-clause-failed g c = λ ended. absurd (some_not_none (c.in-Some.ensures.value ∙ ended))

pub returns-in-Ok-ToEnd-clause-failed : goal.returns-in-Ok-ToEnd-clause-failed
returns-in-Ok-ToEnd-clause-failed g c = λ ended. absurd (some_not_none (c.in-Some.ensures.value ∙ ended))

pub returns-in-Ok-ToNil-clause-failed : goal.returns-in-Ok-ToNil-clause-failed
returns-in-Ok-ToNil-clause-failed g c = λ ended. absurd (some_not_none (c.in-Some.ensures.value ∙ ended))

pub returns-in-Ok-PastValue-clause-failed : goal.returns-in-Ok-PastValue-clause-failed
returns-in-Ok-PastValue-clause-failed g c = λ ended. absurd (some_not_none (c.in-Some.ensures.value ∙ ended))
