use Rattle.std.proofs.Common.{◌≡◌, ◌∙◌, ℕ, min, List, length, take, length-take, Some, None, arith}
use Rattle.gob_read.proofs.Machine.Bodies.{reads_on, usable_somewhere, reached_somewhere, push_more, push_complete}
use Rattle.gob_read.proofs.Machine.Bodies.{push_done, push_stops, stops_honestly}
use Rattle.gob_read.proofs.reader.BodyReader.push.Goals as goal

some_not_none : {A : Type 0} {x : A} → Some x ≡ None → ⊥
some_not_none e = cc

taken_as : {n : ℕ} (room : ℕ) (piece : List ℕ) → n ≡ min room (length piece) → n ≡ length (take n piece)
taken_as {n = n} room piece e = omega (arith, length-take n piece)

pub take_piece-requires-clause-has_read : goal.take_piece-requires-clause-has_read
take_piece-requires-clause-has_read g c =
    let p = reads_on c.in-Some.run' c.begin.new.self c.in-Some.ensures.value c.begin.ensures.begun
    c.begin.ensures.builder c.begin.ensures.stack c.min-count.ensures in
    reached_somewhere p.begun (usable_somewhere p.was c.requires)

pub take-requires-in-PastValue : goal.take-requires-in-PastValue
take-requires-in-PastValue g c =
    let p = reads_on c.in-Some.run' c.begin.new.self c.in-Some.ensures.value c.begin.ensures.begun
    c.begin.ensures.builder c.begin.ensures.stack c.min-count.ensures in
    push_complete (reached_somewhere p.begun (usable_somewhere p.was c.requires))
    (rw c.in-PastValue.is at c.in-Ok.ensures) c.into_builder-builder.ensures

pub returns-in-ToNext-clause-given : goal.returns-in-ToNext-clause-given
returns-in-ToNext-clause-given g c = λ t limit announced z h.
    push_more (reads_on c.in-Some.run' c.begin.new.self c.in-Some.ensures.value c.begin.ensures.begun
    c.begin.ensures.builder c.begin.ensures.stack c.min-count.ensures)
    ((rw c.in-ToNext.is at c.in-Ok.ensures).1) h

pub returns-in-PastValue-clause-given : goal.returns-in-PastValue-clause-given
returns-in-PastValue-clause-given g c = λ t limit announced z h.
    push_done limit (reads_on c.in-Some.run' c.begin.new.self c.in-Some.ensures.value c.begin.ensures.begun
    c.begin.ensures.builder c.begin.ensures.stack c.min-count.ensures)
    (rw c.in-PastValue.is at c.in-Ok.ensures) c.into_builder-builder.ensures c.take-in-PastValue.ensures
    c.take.ensures.after h

pub returns-in-Err-clause-refused : goal.returns-in-Err-clause-refused
returns-in-Err-clause-refused g c =
    push_stops _ _ _ _ _ c.args.piece.now c.min-count.result c.in-Err.stop (reads_on c.in-Some.run' c.begin.new.self
    c.in-Some.ensures.value c.begin.ensures.begun c.begin.ensures.builder c.begin.ensures.stack c.min-count.ensures)
    c.in-Err.ensures

pub returns-in-Err-clause-honest : goal.returns-in-Err-clause-honest
returns-in-Err-clause-honest g c =
    stops_honestly _ _ _ c.args.piece.now c.in-Err.stop (push_stops _ _ _ _ _ c.args.piece.now c.min-count.result
    c.in-Err.stop (reads_on c.in-Some.run' c.begin.new.self c.in-Some.ensures.value c.begin.ensures.begun
    c.begin.ensures.builder c.begin.ensures.stack c.min-count.ensures) c.in-Err.ensures)

pub returns-in-Err-clause-failed : goal.returns-in-Err-clause-failed
returns-in-Err-clause-failed g c = λ ended. absurd (some_not_none (c.in-Some.ensures.value ∙ ended))

pub returns-in-PastValue-clause-failed : goal.returns-in-PastValue-clause-failed
returns-in-PastValue-clause-failed g c = λ ended. absurd (some_not_none (c.in-Some.ensures.value ∙ ended))

pub returns-in-ToNext-clause-failed : goal.returns-in-ToNext-clause-failed
returns-in-ToNext-clause-failed g c = λ ended. absurd (some_not_none (c.in-Some.ensures.value ∙ ended))

pub slice_bounds-take_piece-end : goal.slice_bounds-take_piece-end
slice_bounds-take_piece-end g c = taken_as _ c.args.piece.now c.min-count.ensures
