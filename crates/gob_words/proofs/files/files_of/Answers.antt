-- What clap says of the words, and what is read of its matches.
use Rattle.std.proofs.Common.{rules, ◌≡◌, ◌≢◌, ◌∙◌, ℕ, List, ap, subst, map}
use Rattle.std.specs.Borrow.{Bor}
use Rattle.std.specs.Result.{IfOk}
use Rattle.clap.specs.declared.error.kind.ErrorKind.TheVariants.{OutOfMemory}
use Rattle.clap.specs.Words.{fault_of, kind_of, HasKind, subcommand_of}
use Rattle.gob_words.specs.Views.{files_in}
use Rattle.gob_words.proofs.ViewLaws.{no_kind}
use Rattle.gob_words.proofs.WordLaws.{simple, simple_and_free}
use Rattle.gob_words.proofs.files.files_of.Goals as goal

pub returns-in-Ok : goal.returns-in-Ok
returns-in-Ok c = λ none.
    let words = map (λ word. word.now) c.args.words.now in
    let same = c.in_ok-program.ensures in
    let met = (c.in-Ok.ensures.matches (simple _ same)).1 ∙ ap (λ app. subcommand_of app words) same in
    subst (λ m. IfOk c.words_among.result (λ files.
    map (λ (file : Bor (List ℕ)). file.now) files.items ≡ files_in m)) met c.words_among.ensures

pub returns : goal.returns
returns c = λ none.
    let words = map (λ word. word.now) c.args.words.now in
    let same = c.in_ok-program.ensures in
    let kinds = subst (λ app. HasKind (fault_of app words) c.in-Err.error) same
    (c.in-Err.ensures.kinds (simple_and_free _ same)) in
    let other : kind_of c.in-Err.error ≢ OutOfMemory = search rules in
    absurd (no_kind words c.in-Err.error none other kinds)
