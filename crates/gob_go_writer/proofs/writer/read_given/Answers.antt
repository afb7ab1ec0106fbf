use Rattle.std.proofs.Common.{◌≡◌, length, get_or, ◌++◌, ◌∙◌, ap, arith, subst, sym}
use Rattle.gob_types.specs.Defined.{Defined, types}
use Rattle.gob_go.specs.Machine.SessionState.{SessionState}
use Rattle.gob_go_writer.specs.Machine.Alike.{AreAlike}
use Rattle.gob_go_writer.specs.Machine.ReadingBack.{ReadBackAnswers, ReadsBack}
use Rattle.gob_go_writer.specs.Machine.Unfit.{IsUnfit}
use Rattle.gob_go_writer.proofs.WriterSteps.{all_given, fault_passed, not_alike, not_fed, not_finished, not_one}
use Rattle.gob_go_writer.proofs.WriterSteps.{one_given, read_back}
use Rattle.gob_go_writer.proofs.writer.read_given.Goals as goal

pub returns-in_err-feed-clause-read : goal.returns-in_err-feed-clause-read
returns-in_err-feed-clause-read c = λ items z w.
    let s = c.args.session.now in
    let kept = c.args.item.now in
    let piece = c.args.bytes.now in
    let fed = c.in_err-feed.ensures.fed in
    fault_passed c.from_residual.result
    (λ r. ReadBackAnswers s c.feed.new.self items z kept piece r) c.from_residual.ensures.1
    (not_fed s c.feed.new.self kept piece piece fed.given c.in_err-feed.field-0.0 w c.requires.spelled
    (fed.holds items z w.read))

pub returns-in_err-finish-clause-read : goal.returns-in_err-finish-clause-read
returns-in_err-finish-clause-read c = λ items z w.
    let s = c.args.session.now in
    let kept = c.args.item.now in
    let piece = c.args.bytes.now in
    let fed = c.in_ok-feed.ensures.fed in
    let a = fed.holds items z w.read in
    fault_passed c.from_residual-in_err-finish.result
    (λ r. ReadBackAnswers s c.finish.new.self items z kept piece r) c.from_residual-in_err-finish.ensures.1
    (not_finished s c.feed.new.self c.finish.new.self kept piece piece fed.given c.in_err-finish.field-0.0 w
    c.requires.spelled
    c.in_ok-feed.ensures.limits a (c.in_err-finish.ensures.finishes (items ++ a.more) (z ++ piece) a.holds))

pub returns-then-len-ne1-clause-read : goal.returns-then-len-ne1-clause-read
returns-then-len-ne1-clause-read c = λ items z w.
    let piece = c.args.bytes.now in
    let fed = c.in_ok-feed.ensures.fed in
    let a = fed.holds items z w.read in
    let end = c.in_ok-finish.ensures.finishes (items ++ a.more) (z ++ piece) a.holds in
    let all = ap length (all_given c.requires.given fed.appended) in
    not_one piece fed.given w c.requires.spelled c.in_ok-feed.ensures.limits a end.0
    (λ n. omega (arith, all, c.feed.new.out.ok.0, n))

pub returns-in_err-same_item-clause-read : goal.returns-in_err-same_item-clause-read
returns-in_err-same_item-clause-read c = λ items z w.
    let s = c.args.session.now in
    let kept = c.args.item.now in
    let piece = c.args.bytes.now in
    let fed = c.in_ok-feed.ensures.fed in
    let a = fed.holds items z w.read in
    let end = c.in_ok-finish.ensures.finishes (items ++ a.more) (z ++ piece) a.holds in
    let why = c.in_err-same_item.field-0.0 in
    let all = all_given c.requires.given fed.appended in
    let only = c.index.result.now in
    let one = one_given fed.given only (omega (arith, ap length all, c.feed.new.out.ok.0))
    (subst (λ l. only ≡ get_or l 0 only) (sym all) c.index.ensures) in
    fault_passed c.from_residual-in_err-same_item.result
    (λ r. ReadBackAnswers s c.finish.new.self items z kept piece r) c.from_residual-in_err-same_item.ensures.1
    (not_alike c.finish.new.self piece piece fed.given why w c.requires.spelled c.in_ok-feed.ensures.limits a end.0 one
    (subst (λ (d : Defined). IsUnfit (AreAlike (types d) only kept) why)
    (c.table.ensures ∙ ap (λ (t : SessionState). t.types) end.1) c.in_err-same_item.ensures.refused))

pub returns-clause-read : goal.returns-clause-read
returns-clause-read c = λ items z w.
    let s = c.args.session.now in
    let kept = c.args.item.now in
    let piece = c.args.bytes.now in
    let fed = c.in_ok-feed.ensures.fed in
    let a = fed.holds items z w.read in
    let end = c.in_ok-finish.ensures.finishes (items ++ a.more) (z ++ piece) a.holds in
    let all = all_given c.requires.given fed.appended in
    let only = c.index.result.now in
    let one = one_given fed.given only (omega (arith, ap length all, c.feed.new.out.ok.0))
    (subst (λ l. only ≡ get_or l 0 only) (sym all) c.index.ensures) in
    subst (λ (t : SessionState). ReadsBack s t items z kept piece) (sym end.1)
    (read_back piece fed.given w c.in_ok-feed.ensures.limits a end.0 one c.in_ok-same_item.ensures.ok)
