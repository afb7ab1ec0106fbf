-- Without memory for the names nothing is known of the words.
use Rattle.std.proofs.Common.{map, rules}
use Rattle.gob.proofs.AskedLaws.{asks_nothing_without_memory, refuses_making, refuses_parts, refuses_view}
use Rattle.gob.proofs.asked.shown_by.Goals as goal

pub returns-in_err-files : goal.returns-in_err-files
returns-in_err-files c =
    asks_nothing_without_memory (map (λ word. word.now) c.args.words.now) c.from_residual-in_err-files.result
    c.from_residual-in_err-files.ensures.1

pub returns-in_err-view : goal.returns-in_err-view
returns-in_err-view c =
    refuses_view (map (λ word. word.now) c.args.words.now) c.from_residual.result _ c.from_residual.ensures.1
    c.in_err-view.ensures.view

pub returns-in_err-splitting : goal.returns-in_err-splitting
returns-in_err-splitting c =
    refuses_parts (map (λ word. word.now) c.args.words.now) c.from_residual-in_err-splitting.result _
    c.from_residual-in_err-splitting.ensures.1 (record {
      view = c.in_ok-view.view;
      asks = c.in_ok-view.ensures.view;
      parts = search rules;
      refuses = c.in_err-splitting.ensures;
    })

pub returns-in_err-making : goal.returns-in_err-making
returns-in_err-making c =
    refuses_making (map (λ word. word.now) c.args.words.now) c.from_residual-in_err-making.result _
    c.from_residual-in_err-making.ensures.1 (record {
      view = c.in_ok-view.view;
      asks = c.in_ok-view.ensures.view;
      made = search rules;
      refuses = c.in_err-making.ensures;
    })
