-- What clap says of the words, and what is read of its matches.
use Rattle.std.proofs.Common.{◌≡◌, ◌∙◌, ap, sym, true, subst, map}
use Rattle.clap.specs.declared.error.kind.ErrorKind.TheVariants.{OutOfMemory}
use Rattle.clap.specs.Words.{subcommand_of, takes, fault_of, kind_of, HasKind}
use Rattle.gob_words.specs.Views.{IsViewFaultOf}
use Rattle.gob_words.specs.Words.{program}
use Rattle.gob_words.proofs.WordLaws.{simple, simple_and_free}
use Rattle.gob_words.proofs.TakingLaws.{no_taking_without_memory, taking_accepted_as_met, taking_answers_as_met}
use Rattle.gob_words.proofs.TakingLaws.{taking_refused_as_shown}
use Rattle.gob_words.proofs.taking.go_taking_of.Goals as goal

pub returns-in_err-program-clause-taking : goal.returns-in_err-program-clause-taking
returns-in_err-program-clause-taking c =
    no_taking_without_memory (map (λ word. word.now) c.args.words.now) c.from_residual.result c.from_residual.ensures.1

pub returns-in-Ok-clause-taking : goal.returns-in-Ok-clause-taking
returns-in-Ok-clause-taking c =
    let words = map (λ word. word.now) c.args.words.now in
    let same = c.in_ok-program.ensures in
    let met = (c.in-Ok.ensures.matches (simple _ same)).1 ∙ ap (λ app. subcommand_of app words) same in
    let none = ap (λ app. fault_of app words) (sym same) ∙ c.in-Ok.ensures.kinds (simple_and_free _ same) in
    taking_answers_as_met words _ c.go_taking_met.result met none c.go_taking_met.ensures

pub returns-in-Ok-clause-accepted : goal.returns-in-Ok-clause-accepted
returns-in-Ok-clause-accepted c =
    let words = map (λ word. word.now) c.args.words.now in
    let same = c.in_ok-program.ensures in
    taking_accepted_as_met words c.go_taking_met.result
    (ap (λ app. fault_of app words) (sym same) ∙ c.in-Ok.ensures.kinds (simple_and_free _ same))

pub returns-in-Err-clause-taking : goal.returns-in-Err-clause-taking
returns-in-Err-clause-taking c =
    let words = map (λ word. word.now) c.args.words.now in
    let same = c.in_ok-program.ensures in
    let passes : takes program words ≡ true → kind_of c.in-Err.error ≡ OutOfMemory = λ taken. c.in-Err.ensures.passes
    (ap (λ app. takes app words) same ∙ taken) in
    let kinds = subst (λ app. HasKind (fault_of app words) c.in-Err.error) same
    (c.in-Err.ensures.kinds (simple_and_free _ same)) in
    let answered = subst (λ kind. IsViewFaultOf kind c.word_fault.result) c.kind.ensures c.word_fault.ensures in
    taking_refused_as_shown words c.in-Err.error c.word_fault.result answered passes kinds
