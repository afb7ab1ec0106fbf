-- What clap says of the words, and what is read of its matches.
use Rattle.std.proofs.Common.{rules, ◌≡◌, ◌≢◌, ◌∙◌, ap, sym, true, subst, map, inr}
use Rattle.clap.specs.declared.error.kind.ErrorKind.TheVariants.{DisplayVersion, OutOfMemory}
use Rattle.clap.specs.Words.{subcommand_of, takes, fault_of, kind_of, HasKind}
use Rattle.gob_words.specs.Views.{IsViewFaultOf}
use Rattle.gob_words.specs.Words.{program}
use Rattle.gob_words.proofs.WordLaws.{simple, simple_and_free}
use Rattle.gob_words.proofs.ViewLaws.{accepted_as_met, answers_as_met, asks_for_version}
use Rattle.gob_words.proofs.ViewLaws.{no_view_without_memory, refuses_as_shown}
use Rattle.gob_words.proofs.views.view_of.Goals as goal

pub returns-in_err-program-clause-view : goal.returns-in_err-program-clause-view
returns-in_err-program-clause-view c =
    no_view_without_memory (map (λ word. word.now) c.args.words.now) c.from_residual.result c.from_residual.ensures.1

pub returns-in-Ok-clause-accepted : goal.returns-in-Ok-clause-accepted
returns-in-Ok-clause-accepted c =
    let words = map (λ word. word.now) c.args.words.now in
    let same = c.in_ok-program.ensures in
    accepted_as_met words c.view_met.result
    (ap (λ app. fault_of app words) (sym same) ∙ c.in-Ok.ensures.kinds (simple_and_free _ same))

pub returns-in-DisplayVersion-clause-accepted : goal.returns-in-DisplayVersion-clause-accepted
returns-in-DisplayVersion-clause-accepted c = inr c.version_view.ensures

pub returns-in-Ok-clause-view : goal.returns-in-Ok-clause-view
returns-in-Ok-clause-view c =
    let words = map (λ word. word.now) c.args.words.now in
    let same = c.in_ok-program.ensures in
    let met = (c.in-Ok.ensures.matches (simple _ same)).1 ∙ ap (λ app. subcommand_of app words) same in
    let none = ap (λ app. fault_of app words) (sym same) ∙ c.in-Ok.ensures.kinds (simple_and_free _ same) in
    answers_as_met words _ c.view_met.result met none c.view_met.ensures

pub returns-in-DisplayVersion-clause-view : goal.returns-in-DisplayVersion-clause-view
returns-in-DisplayVersion-clause-view c =
    let words = map (λ word. word.now) c.args.words.now in
    let same = c.in_ok-program.ensures in
    let kinds = subst (λ app. HasKind (fault_of app words) c.in-Err.error) same
    (c.in-Err.ensures.kinds (simple_and_free _ same)) in
    asks_for_version words c.in-Err.error _ c.version_view.ensures (search rules) kinds

pub returns-clause-view : goal.returns-clause-view
returns-clause-view c =
    let words = map (λ word. word.now) c.args.words.now in
    let same = c.in_ok-program.ensures in
    let passes : takes program words ≡ true → kind_of c.in-Err.error ≡ OutOfMemory = λ taken. c.in-Err.ensures.passes
    (ap (λ app. takes app words) same ∙ taken) in
    let kinds = subst (λ app. HasKind (fault_of app words) c.in-Err.error) same
    (c.in-Err.ensures.kinds (simple_and_free _ same)) in
    let answered = subst (λ kind. IsViewFaultOf kind c.word_fault.result) c.kind.ensures c.word_fault.ensures in
    let other : kind_of c.in-Err.error ≢ DisplayVersion = search rules in
    refuses_as_shown words c.in-Err.error c.word_fault.result answered other passes kinds
