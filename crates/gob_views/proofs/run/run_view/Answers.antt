-- What isn't damaged is shown where that is asked for, and of no other command.
use Rattle.std.proofs.Common.{◌≡◌, ◌∙◌, sym, subst, true}
use Rattle.gob_stream.specs.Calls.Ends.{reader_of, writer_of}
use Rattle.gob_views.specs.Running.{AnswersBy, shows_kept}
use Rattle.gob_views.proofs.RunLaws.{not_both}
use Rattle.gob_views.proofs.run.run_view.Goals as goal

pub returns-then-shows_kept-clause-shows : goal.returns-then-shows_kept-clause-shows
returns-then-shows_kept-clause-shows g c = λ bytes known.
    let now = g.R.Read.remaining (reader_of c.run_kept.new.input) in
    let old = g.W.Write.contents (writer_of c.args.output.now) in
    let new = g.W.Write.contents (writer_of c.run_kept.new.output) in
    subst (λ b. AnswersBy b c.args.view.now bytes now old new c.run_kept.result)
    (sym c.if-shows_kept.true ∙ c.shows_kept.ensures) (c.run_kept.new.told, c.run_kept.ensures.shows bytes known)

pub returns-then-shows_kept-clause-kept : goal.returns-then-shows_kept-clause-kept
returns-then-shows_kept-clause-kept g c = λ bytes known is. c.run_kept.ensures.shows bytes known

pub returns-then-shows_kept-clause-told : goal.returns-then-shows_kept-clause-told
returns-then-shows_kept-clause-told g c = λ bytes known is.
    absurd (not_both (subst (λ x. shows_kept x c.args.view.now.salvage ≡ true) is
    (sym c.shows_kept.ensures ∙ c.if-shows_kept.true)))

pub returns-then-shows_kept-clause-untold : goal.returns-then-shows_kept-clause-untold
returns-then-shows_kept-clause-untold g c = λ other not.
    absurd (not_both (sym not ∙ (sym c.shows_kept.ensures ∙ c.if-shows_kept.true)))

pub returns-then-shows_kept-clause-unread : goal.returns-then-shows_kept-clause-unread
returns-then-shows_kept-clause-unread g c = λ is.
    absurd (not_both (subst (λ x. shows_kept x c.args.view.now.salvage ≡ true) is
    (sym c.shows_kept.ensures ∙ c.if-shows_kept.true)))

pub returns-clause-shows : goal.returns-clause-shows
returns-clause-shows g c = λ bytes known.
    let now = g.R.Read.remaining (reader_of c.run_command.new.input) in
    let old = g.W.Write.contents (writer_of c.args.output.now) in
    let new = g.W.Write.contents (writer_of c.run_command.new.output) in
    subst (λ b. AnswersBy b c.args.view.now bytes now old new c.run_command.result)
    (sym c.if-shows_kept.false ∙ c.shows_kept.ensures) (c.run_command.ensures.shows bytes known)

pub returns-clause-kept : goal.returns-clause-kept
returns-clause-kept g c = λ bytes known is.
    absurd (not_both (sym c.if-shows_kept.false ∙ c.shows_kept.ensures ∙ is))
