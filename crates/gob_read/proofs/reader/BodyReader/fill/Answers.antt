use Rattle.std.proofs.Common.{◌≡◌, ℕ, ◌+◌, ◌-◌, ◌≤◌, min, [], ◌∷◌, arith, refl}
use Rattle.gob_read.proofs.Machine.Bodies.{reads_on, usable_somewhere, reached_somewhere, push_more, push_complete}
use Rattle.gob_read.proofs.Machine.Bodies.{push_done, push_stops, nil_stays, run_at_nil, room_left}
use Rattle.gob_read.proofs.reader.BodyReader.fill.Goals as goal

one_of : (taken len : ℕ) → taken + 1 ≤ len → 1 ≡ min (len - taken) 1
one_of taken len l = omega arith

pub take_nil-requires-clause-has_read : goal.take_nil-requires-clause-has_read
take_nil-requires-clause-has_read g c =
    let p = reads_on c.in-Some.run' c.in-Some.run'.state {piece = 0 ∷ []} c.in-Some.ensures.value
    (nil_stays c.in-Some.run' (run_at_nil c.in-Some.run' c.in-Some.ensures.value c.requires.at_nil)) refl refl
    (let l = room_left _ _ c.in-Some.run' c.in-Some.ensures.value c.requires.fits c.requires.room in
    one_of c.in-Some.run'.taken c.in-Some.run'.length l) in
    reached_somewhere p.begun (usable_somewhere p.was c.requires.fits)

pub take_nil-requires-clause-room : goal.take_nil-requires-clause-room
take_nil-requires-clause-room g c = room_left _ _ c.in-Some.run' c.in-Some.ensures.value c.requires.fits c.requires.room

pub take-requires-in-PastValue : goal.take-requires-in-PastValue
take-requires-in-PastValue g c =
    let p = reads_on c.in-Some.run' c.in-Some.run'.state {piece = 0 ∷ []} c.in-Some.ensures.value
    (nil_stays c.in-Some.run' (run_at_nil c.in-Some.run' c.in-Some.ensures.value c.requires.at_nil)) refl refl
    (let l = room_left _ _ c.in-Some.run' c.in-Some.ensures.value c.requires.fits c.requires.room in
    one_of c.in-Some.run'.taken c.in-Some.run'.length l) in
    push_complete (reached_somewhere p.begun (usable_somewhere p.was c.requires.fits))
    (rw c.in-PastValue.is at c.in-Ok.ensures.came) c.into_builder-builder.ensures

pub returns-in-ToNext-clause-given : goal.returns-in-ToNext-clause-given
returns-in-ToNext-clause-given g c = λ t limit announced z h.
    push_more (reads_on c.in-Some.run' c.in-Some.run'.state {piece = 0 ∷ []} c.in-Some.ensures.value
    (nil_stays c.in-Some.run' (run_at_nil c.in-Some.run' c.in-Some.ensures.value c.requires.at_nil)) refl refl
    (let l = room_left _ _ c.in-Some.run' c.in-Some.ensures.value c.requires.fits c.requires.room in
    one_of c.in-Some.run'.taken c.in-Some.run'.length l))
    ((rw c.in-ToNext.is at c.in-Ok.ensures.came).1) h

pub returns-in-PastValue-clause-given : goal.returns-in-PastValue-clause-given
returns-in-PastValue-clause-given g c = λ t limit announced z h.
    push_done limit (reads_on c.in-Some.run' c.in-Some.run'.state {piece = 0 ∷ []} c.in-Some.ensures.value
    (nil_stays c.in-Some.run' (run_at_nil c.in-Some.run' c.in-Some.ensures.value c.requires.at_nil)) refl refl
    (let l = room_left _ _ c.in-Some.run' c.in-Some.ensures.value c.requires.fits c.requires.room in
    one_of c.in-Some.run'.taken c.in-Some.run'.length l))
    (rw c.in-PastValue.is at c.in-Ok.ensures.came) c.into_builder-builder.ensures c.take-in-PastValue.ensures
    c.take.ensures.after h

pub returns-in-Err-clause-refused : goal.returns-in-Err-clause-refused
returns-in-Err-clause-refused g c =
    push_stops _ _ _ _ _ (0 ∷ []) 1 c.in-Err.stop (reads_on c.in-Some.run' c.in-Some.run'.state
    {piece = 0 ∷ []} c.in-Some.ensures.value (nil_stays c.in-Some.run'
    (run_at_nil c.in-Some.run' c.in-Some.ensures.value c.requires.at_nil)) refl refl
    (let l = room_left _ _ c.in-Some.run' c.in-Some.ensures.value c.requires.fits c.requires.room in
    one_of c.in-Some.run'.taken c.in-Some.run'.length l)) c.in-Err.ensures.came
