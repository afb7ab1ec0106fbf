use Rattle.std.proofs.Common.{◌++◌, ◌∙◌, take, Err, arith, subst}
use Rattle.std.proofs.Common.{length-append}
use Rattle.gob_num.proofs.PublicLaws.{unsigned_fits}
use Rattle.std.proofs.lemmas.List.{length-take}
use Rattle.std.proofs.lemmas.Result.{err_from_is_err_and}
use Rattle.gob_go.specs.Machine.Parts.{GoesOn}
use Rattle.gob_go.proofs.NumberStages.{taken_whole, taken_more, whole_some, whole_fits}
use Rattle.gob_go.proofs.NameSteps.{length_at, length_ends, length_more, length_nil, length_name, length_short}
use Rattle.gob_go.proofs.NameSteps.{length_types, length_stops, length_bounded, whole_as, length_place}
use Rattle.gob_go.proofs.NameSteps.{length_behind, bytes_taken, held_changes}
use Rattle.gob_go.proofs.PutSteps.{goes_behind, goes_stopped}
use Rattle.gob_go.proofs.name.NameLength.take.Goals as goal

pub take-requires-clause-taken : goal.take-requires-clause-taken
take-requires-clause-taken c = (length_at c.requires.has_read.has_read c.requires.has_read.taken_is).taken_is

pub take-requires-clause-room : goal.take-requires-clause-room
take-requires-clause-room c = (length_at c.requires.has_read.has_read c.requires.has_read.taken_is).room

pub take-requires-clause-prefix : goal.take-requires-clause-prefix
take-requires-clause-prefix c = (length_at c.requires.has_read.has_read c.requires.has_read.taken_is).prefix

pub returns-in_err-take : goal.returns-in_err-take
returns-in_err-take c =
    let p = err_from_is_err_and c.from_residual.result c.from_residual.ensures.1 in
    rw (p.1, p.2) (record {
      each = λ T offset z h o. length_stops _ _ c.take.new.self c.in_err-take.field-0.0 h c.in_err-take.ensures.answers;
      some = λ l. tt;
    })

pub returns-in-More : goal.returns-in-More
returns-in-More c =
    let more = taken_more c.args.self.number c.take.new.self c.args.piece.now c.in_ok-take.field-0 c.in-More.is
    c.in_ok-take.ensures.answers in
    rw c.more.ensures
    (record { each = λ T offset z h o. length_more h more c.in_ok-take.ensures.rest; some = λ l. l })

pub behind-requires : goal.behind-requires
behind-requires c =
    let h = c.requires.has_read in
    let w = taken_whole c.take.new.self c.in_ok-take.field-0 c.in-Whole-eq0-default.is c.in_ok-take.ensures.answers in
    let fits = whole_fits (length_at h.has_read h.taken_is) w in let end = length_bounded h.has_read in
    let most = c.stream-most.ensures.limits.stream in omega arith

pub behind-requires-in-Whole : goal.behind-requires-in-Whole
behind-requires-in-Whole c =
    let h = c.requires.has_read in
    let w = taken_whole c.take.new.self c.in_ok-take.field-0 c.in-Whole.is c.in_ok-take.ensures.answers in
    let fits = whole_fits (length_at h.has_read h.taken_is) w in let end = length_bounded h.has_read in
    let most = c.stream-most.ensures.limits.stream in omega arith

pub goes_on-requires : goal.goes_on-requires
goes_on-requires c =
    let h = c.requires.has_read in
    let w = taken_whole c.take.new.self c.in_ok-take.field-0 c.in-Whole.is c.in_ok-take.ensures.answers in
    let fits = whole_fits (length_at h.has_read h.taken_is) w in let ends = length_ends h.has_read in
    let behind = c.behind-in-Whole.ensures.taken in omega arith

pub fill-requires : goal.fill-requires
fill-requires c =
    let h = c.requires.has_read in
    let w = taken_whole c.take.new.self c.in_ok-take.field-0 c.in-Whole-eq0-default.is c.in_ok-take.ensures.answers in
    let zero = whole_as w c.in-Whole-eq0-default.number-test in
    let taken = h.taken_is in let behind = c.behind.ensures.taken in
    rw (c.behind.ensures.limits, c.behind.ensures.keeps) (record {
      table = h.table;
      offset = h.offset;
      bytes = h.bytes ++ take c.in-Whole-eq0-default.used c.args.piece.now;
      has_read = length_nil h.has_read zero;
      taken_is = (let n = w.within in omega (
        arith,
        length-append h.bytes (take c.in-Whole-eq0-default.used c.args.piece.now),
        length-take c.in-Whole-eq0-default.used c.args.piece.now,
      ));
      within = h.within;
      known = h.known;
    })

pub returns-in_err-goes-in-Whole-eq0-default : goal.returns-in_err-goes-in-Whole-eq0-default
returns-in_err-goes-in-Whole-eq0-default c =
    let r = c.requires.has_read in
    let p = err_from_is_err_and c.from_residual-in_err-goes-in-Whole-eq0-default.result
    c.from_residual-in_err-goes-in-Whole-eq0-default.ensures.1 in
    let w = taken_whole c.take.new.self c.in_ok-take.field-0 c.in-Whole-eq0-default.is c.in_ok-take.ensures.answers in
    let zero = whole_as w c.in-Whole-eq0-default.number-test in
    let used = c.in-Whole-eq0-default.used in
    let at = length_at r.has_read r.taken_is in
    let goes = rw (c.behind.ensures.limits, c.behind.ensures.keeps) at c.in_err-goes-in-Whole-eq0-default.ensures in
    rw (p.1, p.2) (record {
      each = λ T offset z h o.
          goes_stopped used c.in_err-goes-in-Whole-eq0-default.field-0.0
          (goes T offset (z ++ take used c.args.piece.now)
          (c.behind.ensures.taken ∙ length_behind offset z c.args.piece.now (length_place at h) w.within)
          (length_nil h zero) (bytes_taken z c.args.piece.now used o)) (length_types c.args.piece.now h);
      some = λ l. tt;
    })

pub returns-in_ok-goes-in-Whole-eq0-default : goal.returns-in_ok-goes-in-Whole-eq0-default
returns-in_ok-goes-in-Whole-eq0-default c =
    let r = c.requires.has_read in
    let w = taken_whole c.take.new.self c.in_ok-take.field-0 c.in-Whole-eq0-default.is c.in_ok-take.ensures.answers in
    let zero = whole_as w c.in-Whole-eq0-default.number-test in
    let used = c.in-Whole-eq0-default.used in
    let at = length_at r.has_read r.taken_is in
    let goes = rw (c.behind.ensures.limits, c.behind.ensures.keeps) at c.in_ok-goes-in-Whole-eq0-default.ensures in
    rw c.behind_value.ensures (record {
      each = λ T offset z h o.
          goes_behind c.in_ok-goes-in-Whole-eq0-default.goes
          (goes T offset (z ++ take used c.args.piece.now)
          (c.behind.ensures.taken ∙ length_behind offset z c.args.piece.now (length_place at h) w.within)
          (length_nil h zero) (bytes_taken z c.args.piece.now used o)) w.within;
      some = λ l. whole_some at w;
    })

pub returns-in_err-goes_on-in-Whole : goal.returns-in_err-goes_on-in-Whole
returns-in_err-goes_on-in-Whole c =
    let r = c.requires.has_read in
    let p = err_from_is_err_and c.from_residual-in_err-goes_on-in-Whole.result
    c.from_residual-in_err-goes_on-in-Whole.ensures.1 in
    let w = taken_whole c.take.new.self c.in_ok-take.field-0 c.in-Whole.is c.in_ok-take.ensures.answers in
    let at = length_at r.has_read r.taken_is in
    let ends = subst (λ n. GoesOn n c.args.levels.now.innermost.end (Err c.in_err-goes_on-in-Whole.field-0.0))
    c.behind-in-Whole.ensures.taken c.in_err-goes_on-in-Whole.ensures in
    rw (p.1, p.2) (record {
      each = λ T offset z h o.
          length_short c.in_err-goes_on-in-Whole.field-0.0 h w (λ e. let t = c.in-Whole.left-test in omega arith)
          (length_place at h) ends;
      some = λ l. tt;
    })

pub returns-in_ok-goes_on-in-Whole : goal.returns-in_ok-goes_on-in-Whole
returns-in_ok-goes_on-in-Whole c =
    let r = c.requires.has_read in
    let w = taken_whole c.take.new.self c.in_ok-take.field-0 c.in-Whole.is c.in_ok-take.ensures.answers in
    let at = length_at r.has_read r.taken_is in
    let on = rw c.behind-in-Whole.ensures.taken at c.in_ok-goes_on-in-Whole.ensures in
    rw c.more-in-Whole.ensures (record {
      each = λ T offset z h o.
          length_name h w (λ e. let t = c.in-Whole.left-test in omega arith) (unsigned_fits w.spelled)
          (length_place at h) on
          (held_changes c.args.levels.now c.new.result) c.new.ensures.name c.new.ensures.definitions;
      some = λ l. whole_some at w;
    })
