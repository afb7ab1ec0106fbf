use Rattle.std.proofs.Common.{ℕ, List, ◌<◌, ◌++◌, length, take, drop, Some, Ok, Err, inl, inr, arith, refl, sym, ap}
use Rattle.std.proofs.Common.{◌∙◌}
use Rattle.std.proofs.lemmas.Grind.{common_steps}
use Rattle.std.specs.Io.KnownBytes.{Consumes}
use Rattle.gob_types.specs.Defined.{types}
use Rattle.gob_stream.specs.Calls.Reads.{ReadItemAnswers, ReadItemTakes}
use Rattle.gob_stream.specs.Machine.ReadParts.{bytes_wanted}
use Rattle.gob_stream.proofs.Reader.HonestLaws.{reads_honestly}
use Rattle.gob_stream.proofs.Reader.SessionSteps.{types_stay, on_err, consumed_nothing, all_taken}
use Rattle.gob_stream.proofs.Reader.SessionSteps.{stood_first, after_room, stood_on, passed_on, IsRead, piece_length}
use Rattle.gob_stream.proofs.Reader.SessionSteps.{piece_consumed, Stepped, stepped, stood_before, step_stops}
use Rattle.gob_stream.proofs.Reader.SessionSteps.{read_stops, end_stops, counts_none, step_unread, end_unread}
use Rattle.gob_stream.proofs.Reader.SessionSteps.{nothing_more, step_gives, gives_taken, step_taken, item_within}
use Rattle.gob_stream.proofs.Reader.SessionSteps.{no_less, stood_further, sound_after}
use Rattle.gob_stream.proofs.session.Session.read_item.Given as given
use Rattle.gob_stream.proofs.Reader.FailedSteps.{not_read, rises, piece_within, chunk_taken}
use Rattle.gob_stream.proofs.session.Session.read_item.Goals as goal
use Rattle.gob_stream.proofs.session.Session.read_item.Goals.{In-Ok, In_err-step-in-Ok, In_ok-step-in-Ok}

-- so many bytes were read, and no more than are wanted
read_some : (g : given.Over) (c : goal.In-Ok g)
    → IsRead c.in-Ok.n (bytes_wanted c.pieces.self.stage c.pieces.self.taken) c.read.new.buf
read_some g c =
    let room = after_room (stood_on c.pieces.invariant.began c.pieces.invariant.stood).after in
    record {
      some = grind (arith, common_steps);
      within = grind (arith, common_steps);
      few =
          grind (arith, common_steps);
    }

-- what was read, and what the step over it answered
abbrev piece_of : (g : given.Over) (c : goal.In-Ok g) → List ℕ
piece_of g c = take c.in-Ok.n (c.read.new.buf ++ drop c.min-wanted.result c.pieces.chunk)

consumed : (g : given.Over) (c : goal.In-Ok g) → Consumes (g.R.Read.remaining c.pieces.input.reader)
    (g.R.Read.remaining c.read.new.self.reader) (piece_of g c)
consumed g c = piece_consumed (g.R.Read.remaining c.pieces.input.reader) (g.R.Read.remaining c.read.new.self.reader)
    (drop c.min-wanted.result c.pieces.chunk) (read_some g c) c.in-Ok.ensures.bytes.0

refused_step : (g : given.Over) (c : goal.In_err-step-in-Ok g)
    → IsRead c.in-Ok.n (bytes_wanted c.pieces.self.stage c.pieces.self.taken) c.read.new.buf
    → Stepped g.B.Builder.building c.pieces.self c.step.new.self
    (take c.in-Ok.n (c.read.new.buf ++ drop c.min-wanted.result c.pieces.chunk))
    (Err c.in_err-step-in-Ok.field-0.0)
refused_step g c read = stepped g.B.Builder.building c.pieces.self c.step.new.self
    (drop c.min-wanted.result c.pieces.chunk) (Err c.in_err-step-in-Ok.field-0.0) read
    c.in_err-step-in-Ok.ensures.advances

taken_step : (g : given.Over) (c : goal.In_ok-step-in-Ok g)
    → IsRead c.in-Ok.n (bytes_wanted c.pieces.self.stage c.pieces.self.taken) c.read.new.buf
    → Stepped g.B.Builder.building c.pieces.self c.step.new.self
    (take c.in-Ok.n (c.read.new.buf ++ drop c.min-wanted.result c.pieces.chunk))
    (Ok c.in_ok-step-in-Ok.step)
taken_step g c read = stepped g.B.Builder.building c.pieces.self c.step.new.self
    (drop c.min-wanted.result c.pieces.chunk) (Ok c.in_ok-step-in-Ok.step) read
    c.in_ok-step-in-Ok.ensures.advances

pub pieces-init : goal.pieces-init
pieces-init g c =
    record {
      chunk = refl;
      began = c.has_failed.ensures.has_read c.if-has_failed.ensures.failed;
      stood = stood_first _;
      limits = refl;
      failures = refl;
      taken = omega (arith, c.args.input.now.taken_fits);
      grown = inl refl;
    }

pub returns-in_err-finish-in-Ok-eq0-clause-read : goal.returns-in_err-finish-in-Ok-eq0-clause-read
returns-in_err-finish-in-Ok-eq0-clause-read g c = λ items bytes rest a e.
    let some : 0 < length c.read.new.buf = grind (arith, common_steps) in
    let p = consumed_nothing c.read.new.buf c.in-Ok-eq0.field-0-test c.in-Ok-eq0.ensures.bytes.0
    (c.pieces.invariant.stood.each items bytes a) in
    let all = all_taken e (c.in-Ok-eq0.ensures.bytes.1 c.in-Ok-eq0.field-0-test some) p in
    passed_on (λ r. ReadItemAnswers g.B.Builder.building c.args.self.now c.finish.new.self items bytes rest
    (g.R.Read.remaining c.read.new.self.reader) r)
    c.from_residual.result _ c.from_residual.ensures.1
    (end_stops g.B.Builder.building c.pieces.self c.finish.new.self items bytes rest _ c.pieces.invariant.limits
    all.ended (c.in_err-finish-in-Ok-eq0.ensures.finishes items (bytes ++ rest) all.holds))

pub returns-in_err-finish-in-Ok-eq0-clause-honest : goal.returns-in_err-finish-in-Ok-eq0-clause-honest
returns-in_err-finish-in-Ok-eq0-clause-honest g c = λ items bytes rest a e.
    reads_honestly g.B.Builder.building _ _ items bytes rest _ _
    (returns-in_err-finish-in-Ok-eq0-clause-read g c items bytes rest a e)

pub returns-in_err-finish-in-Ok-eq0-clause-counted : goal.returns-in_err-finish-in-Ok-eq0-clause-counted
returns-in_err-finish-in-Ok-eq0-clause-counted g c =
    let w = c.pieces.invariant.began in
    let p = c.pieces.invariant.stood.each w.items w.bytes w.after in
    counts_none c.args.input.now.failures c.read.new.self.failures c.from_residual.result _ c.from_residual.ensures.1
    (end_unread g.B.Builder.building c.pieces.self c.finish.new.self w.items (w.bytes ++ p.bytes) _
    (c.in_err-finish-in-Ok-eq0.ensures.finishes w.items (w.bytes ++ p.bytes) p.holds))
    (c.in-Ok-eq0.ensures.counted.1 ∙ c.pieces.invariant.failures)

pub returns-in_err-finish-in-Ok-eq0-clause-taken : goal.returns-in_err-finish-in-Ok-eq0-clause-taken
returns-in_err-finish-in-Ok-eq0-clause-taken g c =
    let room = after_room (stood_on c.pieces.invariant.began c.pieces.invariant.stood).after in
    let limit = ap (λ L. L.stream) c.pieces.invariant.limits in
    let less = no_less c.pieces.invariant.grown in
    passed_on (λ r. ReadItemTakes c.args.self.now c.finish.new.self c.args.input.now.taken c.read.new.self.taken r)
    c.from_residual.result _ c.from_residual.ensures.1
    (omega (arith, room.some, room.within, c.in-Ok-eq0.ensures.counted.0))

pub returns-in-Ok-eq0-clause-read : goal.returns-in-Ok-eq0-clause-read
returns-in-Ok-eq0-clause-read g c = λ items bytes rest a e.
    let some : 0 < length c.read.new.buf = grind (arith, common_steps) in
    let p = consumed_nothing c.read.new.buf c.in-Ok-eq0.field-0-test c.in-Ok-eq0.ensures.bytes.0
    (c.pieces.invariant.stood.each items bytes a) in
    let all = all_taken e (c.in-Ok-eq0.ensures.bytes.1 c.in-Ok-eq0.field-0-test some) p in
    let f = c.in_ok-finish-in-Ok-eq0.ensures.finishes items (bytes ++ rest) all.holds in
    let none = nothing_more rest c.pieces.invariant.limits a all.holds f.0 c.pieces.invariant.grown in
    (none.none, all.ended, none.outcome, f.1 ∙ none.same)

pub returns-in-Ok-eq0-clause-taken : goal.returns-in-Ok-eq0-clause-taken
returns-in-Ok-eq0-clause-taken g c =
    let w = c.pieces.invariant.began in
    let p = c.pieces.invariant.stood.each w.items w.bytes w.after in
    let f = c.in_ok-finish-in-Ok-eq0.ensures.finishes w.items (w.bytes ++ p.bytes) p.holds in
    let none = nothing_more p.bytes c.pieces.invariant.limits w.after p.holds f.0 c.pieces.invariant.grown in
    let same = ap (λ s. s.taken) none.same in
    omega (arith, c.args.input.now.taken_fits, c.in-Ok-eq0.ensures.counted.0)

pub returns-in_err-step-in-Ok-clause-read : goal.returns-in_err-step-in-Ok-clause-read
returns-in_err-step-in-Ok-clause-read g c = λ items bytes rest a e.
    let read = read_some g (goal.at.returns-in_err-step-in-Ok-clause-read g c).In-Ok in
    let step = refused_step g (goal.at.returns-in_err-step-in-Ok-clause-read g c).In_err-step-in-Ok read in
    passed_on (λ r. ReadItemAnswers g.B.Builder.building c.args.self.now c.step.new.self items bytes rest
    (g.R.Read.remaining c.read.new.self.reader) r)
    c.from_residual-in_err-step-in-Ok.result _ c.from_residual-in_err-step-in-Ok.ensures.1
    (step_stops _ _ c.pieces.invariant.limits step
    (stood_before _ e (consumed g (goal.at.returns-in_err-step-in-Ok-clause-read g c).In-Ok)
    (c.pieces.invariant.stood.each items bytes a)))

pub returns-in_err-step-in-Ok-clause-honest : goal.returns-in_err-step-in-Ok-clause-honest
returns-in_err-step-in-Ok-clause-honest g c = λ items bytes rest a e.
    reads_honestly g.B.Builder.building _ _ items bytes rest _ _
    (returns-in_err-step-in-Ok-clause-read g c items bytes rest a e)

pub returns-in_err-step-in-Ok-clause-counted : goal.returns-in_err-step-in-Ok-clause-counted
returns-in_err-step-in-Ok-clause-counted g c =
    let read = read_some g (goal.at.returns-in_err-step-in-Ok-clause-counted g c).In-Ok in
    let step = refused_step g (goal.at.returns-in_err-step-in-Ok-clause-counted g c).In_err-step-in-Ok read in
    counts_none c.args.input.now.failures c.read.new.self.failures c.from_residual-in_err-step-in-Ok.result _
    c.from_residual-in_err-step-in-Ok.ensures.1
    (step_unread _ _ (stood_on c.pieces.invariant.began c.pieces.invariant.stood) step) (c.in-Ok.ensures.counted.1
    ∙ c.pieces.invariant.failures)

pub returns-in_err-step-in-Ok-clause-taken : goal.returns-in_err-step-in-Ok-clause-taken
returns-in_err-step-in-Ok-clause-taken g c =
    let room = after_room (stood_on c.pieces.invariant.began c.pieces.invariant.stood).after in
    let read = read_some g (goal.at.returns-in_err-step-in-Ok-clause-taken g c).In-Ok in
    let limit = ap (λ L. L.stream) c.pieces.invariant.limits in
    let less = no_less c.pieces.invariant.grown in
    passed_on (λ r. ReadItemTakes c.args.self.now c.step.new.self c.args.input.now.taken c.read.new.self.taken r)
    c.from_residual-in_err-step-in-Ok.result _ c.from_residual-in_err-step-in-Ok.ensures.1
    (omega (arith, room.some, room.within, read.within, read.few, c.in-Ok.ensures.counted.0))

pub returns-in-Some-clause-read : goal.returns-in-Some-clause-read
returns-in-Some-clause-read g c = λ items bytes rest a e.
    let read = read_some g (goal.at.returns-in-Some-clause-read g c).In-Ok in
    let step = taken_step g (goal.at.returns-in-Some-clause-read g c).In_ok-step-in-Ok read in
    let used = c.in_ok-step-in-Ok.ensures.whole step.few in
    gives_taken _ c.in_ok-step-in-Ok.step step used c.in_ok-step-in-Ok.ensures.between (c.in-Some.is
    ∙ ap Some (sym c.in-Some.item-is))
    (stood_before _ e (consumed g (goal.at.returns-in-Some-clause-read g c).In-Ok)
    (c.pieces.invariant.stood.each items bytes a))

pub returns-in-Some-clause-taken : goal.returns-in-Some-clause-taken
returns-in-Some-clause-taken g c =
    let read = read_some g (goal.at.returns-in-Some-clause-taken g c).In-Ok in
    let step = taken_step g (goal.at.returns-in-Some-clause-taken g c).In_ok-step-in-Ok read in
    let used = c.in_ok-step-in-Ok.ensures.whole step.few in
    let w = stood_on c.pieces.invariant.began c.pieces.invariant.stood in
    let less = no_less c.pieces.invariant.grown in
    let limit = ap (λ L. L.stream) (c.in_ok-step-in-Ok.ensures.limits ∙ c.pieces.invariant.limits) in
    let size = piece_length (drop c.min-wanted.result c.pieces.chunk) read in
    let grown = step_taken _ c.in_ok-step-in-Ok.step used w step in
    let within = item_within (step_gives _ c.in_ok-step-in-Ok.step step used c.in_ok-step-in-Ok.ensures.between
    c.in-Some.is w.after) in
    (omega (arith, c.in-Ok.ensures.counted.0, c.args.input.now.taken_fits), omega (arith, read.some), omega arith)

pub pieces-smaller : goal.pieces-smaller
pieces-smaller g c =
    let room = after_room (stood_on c.pieces.invariant.began c.pieces.invariant.stood).after in
    let read = read_some g (goal.at.pieces-smaller g c).In-Ok in
    let step = taken_step g (goal.at.pieces-smaller g c).In_ok-step-in-Ok read in
    let used = c.in_ok-step-in-Ok.ensures.whole step.few in
    let w = stood_on c.pieces.invariant.began c.pieces.invariant.stood in
    let size = piece_length (drop c.min-wanted.result c.pieces.chunk) read in
    let grown = step_taken _ c.in_ok-step-in-Ok.step used w step in
    let limit = ap (λ L. L.stream) c.in_ok-step-in-Ok.ensures.limits in
    let more = read.some in let within = room.within in let some = room.some in
    omega arith

pub pieces-preserved : goal.pieces-preserved
pieces-preserved g c =
    let read = read_some g (goal.at.pieces-preserved g c).In-Ok in
    let step = taken_step g (goal.at.pieces-preserved g c).In_ok-step-in-Ok read in
    let used = c.in_ok-step-in-Ok.ensures.whole step.few in
    let w = stood_on c.pieces.invariant.began c.pieces.invariant.stood in
    let size = piece_length (drop c.min-wanted.result c.pieces.chunk) read in
    let grown = step_taken _ c.in_ok-step-in-Ok.step used w step in
    let less = no_less c.pieces.invariant.grown in
    let more = read.some in
    let taken = consumed g (goal.at.pieces-preserved g c).In-Ok in
    let stood = stood_further _ c.in_ok-step-in-Ok.step taken step used c.in_default.is c.pieces.invariant.stood in
    record {
      chunk = grind (arith, common_steps);
      began = c.pieces.invariant.began;
      stood = stood;
      limits = c.in_ok-step-in-Ok.ensures.limits ∙ c.pieces.invariant.limits;
      failures = c.in-Ok.ensures.counted.1 ∙ c.pieces.invariant.failures;
      taken = omega (arith, c.in-Ok.ensures.counted.0, c.args.input.now.taken_fits);
      grown = inr (omega arith);
    }

pub returns-in-Err-clause-read : goal.returns-in-Err-clause-read
returns-in-Err-clause-read g c = λ items bytes rest a e.
    read_stops bytes c.pieces.invariant.limits e c.in-Err.ensures.bytes (c.pieces.invariant.stood.each items bytes a)

pub returns-in-Err-clause-taken : goal.returns-in-Err-clause-taken
returns-in-Err-clause-taken g c =
    let room = after_room (stood_on c.pieces.invariant.began c.pieces.invariant.stood).after in
    let limit = ap (λ L. L.stream) c.pieces.invariant.limits in
    let less = no_less c.pieces.invariant.grown in
    omega (arith, room.some, room.within, c.in-Err.ensures.counted.0)

pub returns-in_err-finish-in-Ok-eq0-clause-types : goal.returns-in_err-finish-in-Ok-eq0-clause-types
returns-in_err-finish-in-Ok-eq0-clause-types g c =
    on_err c.from_residual.result
    (ap types c.finish.ensures.types ∙ types_stay c.pieces.invariant.limits c.pieces.invariant.began
    c.pieces.invariant.stood)

pub returns-in_err-step-in-Ok-clause-types : goal.returns-in_err-step-in-Ok-clause-types
returns-in_err-step-in-Ok-clause-types g c =
    on_err c.from_residual-in_err-step-in-Ok.result
    (ap types c.in_err-step-in-Ok.ensures.types ∙ types_stay c.pieces.invariant.limits c.pieces.invariant.began
    c.pieces.invariant.stood)

pub returns-in-Err-clause-types : goal.returns-in-Err-clause-types
returns-in-Err-clause-types g c = ap types c.fail.ensures.types
    ∙ types_stay c.pieces.invariant.limits c.pieces.invariant.began c.pieces.invariant.stood

pub returns-in_err-finish-in-Ok-eq0-clause-failed : goal.returns-in_err-finish-in-Ok-eq0-clause-failed
returns-in_err-finish-in-Ok-eq0-clause-failed g c =
    on_err c.from_residual.result c.in_err-finish-in-Ok-eq0.ensures.failed

pub returns-in_err-finish-in-Ok-eq0-clause-stays : goal.returns-in_err-finish-in-Ok-eq0-clause-stays
returns-in_err-finish-in-Ok-eq0-clause-stays g c = λ f. absurd (sound_after c.pieces.invariant.began.after f)

pub returns-in_err-finish-in-Ok-eq0-clause-limits : goal.returns-in_err-finish-in-Ok-eq0-clause-limits
returns-in_err-finish-in-Ok-eq0-clause-limits g c = c.in_err-finish-in-Ok-eq0.ensures.limits ∙ c.pieces.invariant.limits

pub returns-in-Ok-eq0-clause-stays : goal.returns-in-Ok-eq0-clause-stays
returns-in-Ok-eq0-clause-stays g c = λ f. absurd (sound_after c.pieces.invariant.began.after f)

pub returns-in-Ok-eq0-clause-limits : goal.returns-in-Ok-eq0-clause-limits
returns-in-Ok-eq0-clause-limits g c = c.in_ok-finish-in-Ok-eq0.ensures.limits ∙ c.pieces.invariant.limits

pub returns-in-Ok-eq0-clause-counted : goal.returns-in-Ok-eq0-clause-counted
returns-in-Ok-eq0-clause-counted g c = c.in-Ok-eq0.ensures.counted.1 ∙ c.pieces.invariant.failures

pub returns-in_err-step-in-Ok-clause-failed : goal.returns-in_err-step-in-Ok-clause-failed
returns-in_err-step-in-Ok-clause-failed g c = on_err c.from_residual-in_err-step-in-Ok.result
    c.in_err-step-in-Ok.ensures.failed

pub returns-in_err-step-in-Ok-clause-stays : goal.returns-in_err-step-in-Ok-clause-stays
returns-in_err-step-in-Ok-clause-stays g c = λ f. absurd (sound_after c.pieces.invariant.began.after f)

pub returns-in_err-step-in-Ok-clause-limits : goal.returns-in_err-step-in-Ok-clause-limits
returns-in_err-step-in-Ok-clause-limits g c = c.in_err-step-in-Ok.ensures.limits ∙ c.pieces.invariant.limits

pub returns-in-Some-clause-stays : goal.returns-in-Some-clause-stays
returns-in-Some-clause-stays g c = λ f. absurd (sound_after c.pieces.invariant.began.after f)

pub returns-in-Some-clause-limits : goal.returns-in-Some-clause-limits
returns-in-Some-clause-limits g c = c.in_ok-step-in-Ok.ensures.limits ∙ c.pieces.invariant.limits

pub returns-in-Some-clause-counted : goal.returns-in-Some-clause-counted
returns-in-Some-clause-counted g c = c.in-Ok.ensures.counted.1 ∙ c.pieces.invariant.failures

pub returns-in-Err-clause-failed : goal.returns-in-Err-clause-failed
returns-in-Err-clause-failed g c = c.fail.ensures.failed

pub returns-in-Err-clause-stays : goal.returns-in-Err-clause-stays
returns-in-Err-clause-stays g c = λ f. absurd (sound_after c.pieces.invariant.began.after f)

pub returns-in-Err-clause-limits : goal.returns-in-Err-clause-limits
returns-in-Err-clause-limits g c = c.fail.ensures.limits ∙ c.pieces.invariant.limits

pub returns-then-has_failed-clause-read : goal.returns-then-has_failed-clause-read
returns-then-has_failed-clause-read g c = λ items bytes rest a e. not_read a c.if-has_failed.ensures.failed

pub returns-in-Err-clause-counted : goal.returns-in-Err-clause-counted
returns-in-Err-clause-counted g c = rises c.in-Err.ensures.counted.1 c.pieces.invariant.failures

pub slice_bounds-step-end : goal.slice_bounds-step-end
slice_bounds-step-end g c =
    sym (piece_length (drop c.min-wanted.result c.pieces.chunk) (read_some g (goal.at.slice_bounds-step-end g c).In-Ok))

pub slice_bounds-read-end : goal.slice_bounds-read-end
slice_bounds-read-end g c = chunk_taken _ c.pieces.chunk c.min-wanted.ensures c.pieces.invariant.chunk

pub slice_bounds-chunk-end-in-Ok : goal.slice_bounds-chunk-end-in-Ok
slice_bounds-chunk-end-in-Ok g c =
    piece_within (drop c.min-wanted.result c.pieces.chunk)
    (read_some g (goal.at.slice_bounds-chunk-end-in-Ok g c).In-Ok)

pub returns-in-Some-clause-honest : goal.returns-in-Some-clause-honest
returns-in-Some-clause-honest g c = λ items bytes rest a e. tt

pub returns-in-Ok-eq0-clause-honest : goal.returns-in-Ok-eq0-clause-honest
returns-in-Ok-eq0-clause-honest g c = λ items bytes rest a e. tt

pub returns-in-Err-clause-honest : goal.returns-in-Err-clause-honest
returns-in-Err-clause-honest g c = λ items bytes rest a e. tt

pub returns-then-has_failed-clause-honest : goal.returns-then-has_failed-clause-honest
returns-then-has_failed-clause-honest g c = λ items bytes rest a e. tt
