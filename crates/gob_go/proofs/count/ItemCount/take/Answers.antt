use Rattle.std.proofs.Common.{arith, refl, ap, ◌∙◌}
use Rattle.std.proofs.lemmas.Result.{err_from_is_err_and}
use Rattle.gob_go.proofs.NumberStages.{taken_whole, taken_more, whole_some, whole_fits}
use Rattle.gob_go.proofs.CountSteps.{count_at_number, count_bounded, count_begins, count_within, count_more}
use Rattle.gob_go.proofs.CountSteps.{count_stops}
use Rattle.gob_go.proofs.CountSteps.{count_whole, count_judged, judged_so}
use Rattle.gob_go.proofs.count.ItemCount.take.Goals as goal

pub returns-in_err-take : goal.returns-in_err-take
returns-in_err-take c = λ d w.
    let p = err_from_is_err_and c.from_residual.result c.from_residual.ensures.1 in
    rw (p.1, p.2) (record {
      each = λ T offset z h o.
          let l = count_within w h in let most = c.stream-most.ensures.limits.stream in
          count_stops c.take.new.self c.in_err-take.field-0.0 (omega arith) h c.in_err-take.ensures.answers;
      some = λ l. tt;
    })

pub behind-end-requires : goal.behind-end-requires
behind-end-requires c =
    let w = taken_whole c.take.new.self c.in_ok-take.field-0 c.in-Whole.is c.in_ok-take.ensures.answers in
    let at = c.requires.has_read.is in
    let fits = whole_fits (count_at_number at) w in let end = count_bounded at in omega arith

pub returns-in_err-body-in-Whole : goal.returns-in_err-body-in-Whole
returns-in_err-body-in-Whole c = λ d w.
    let p = err_from_is_err_and c.from_residual-in_err-body-in-Whole.result
    c.from_residual-in_err-body-in-Whole.ensures.1 in
    let whole = taken_whole c.take.new.self c.in_ok-take.field-0 c.in-Whole.is c.in_ok-take.ensures.answers in
    let at = count_at_number w in let taken = at.taken_is in let behind = c.behind-end.ensures.taken in
    rw (p.1, p.2) (record {
      each = λ T offset z h o.
          let b = count_begins h in let begins = b.1 in
          count_judged h whole (ap (λ e. e.begin) c.in_ok-take.ensures.rest ∙ b.0) (omega arith)
          (judged_so c.args.around.now.limits refl refl c.in_err-body-in-Whole.ensures);
      some = λ l. tt;
    })

pub returns-in-More : goal.returns-in-More
returns-in-More c = λ d w.
    let more = taken_more c.args.self.number c.take.new.self c.args.piece.now c.in_ok-take.field-0 c.in-More.is
    c.in_ok-take.ensures.answers in
    rw c.more.ensures
    (record { each = λ T offset z h o. count_more h more c.in_ok-take.ensures.rest; some = λ l. l })

pub returns-in_ok-body-in-Whole : goal.returns-in_ok-body-in-Whole
returns-in_ok-body-in-Whole c = λ d w.
    let whole = taken_whole c.take.new.self c.in_ok-take.field-0 c.in-Whole.is c.in_ok-take.ensures.answers in
    let at = count_at_number w in let taken = at.taken_is in let behind = c.behind-end.ensures.taken in
    rw c.more-in-Whole.ensures (record {
      each = λ T offset z h o.
          let b = count_begins h in let begins = b.1 in
          count_whole h whole (omega arith) c.in_ok-body-in-Whole.ensures c.new.ensures;
      some = λ l. whole_some at whole;
    })
