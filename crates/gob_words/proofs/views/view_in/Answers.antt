-- What is asked for is read off the rows of the one subcommand that was met.
use Rattle.std.proofs.Common.{◌∙◌, sym, subst, codes, arith}
use Rattle.clap.specs.Words.{found_of, rows_of, subcommand_rows_of}
use Rattle.clap.proofs.WalkLemmas.{first_value-rows}
use Rattle.gob_words.specs.Views.{IsPlaceOf}
use Rattle.gob_words.proofs.WordLaws.{one_number, writes_alike}
use Rattle.gob_words.proofs.ViewLaws.{asked_alike, given_as_set, view_meets, views_together}
use Rattle.gob_words.proofs.views.view_in.Goals.{then-depth-lt1-via-then-depth-lt1}
use Rattle.gob_words.proofs.views.view_in.Goals.{then-depth-lt1-via-else-depth-lt1+then-depth-gt-GREATEST_DEPTH}
use Rattle.gob_words.proofs.views.view_in.Goals as goal

pub returns-then-not-is_asked : goal.returns-then-not-is_asked
returns-then-not-is_asked c = λ view h.
    let f = found_of c.in_ok-name.matches.now in
    let met = views_together _ _ _ _ _ _ c.in_ok-name.ensures.name c.in_ok-name.ensures.rows
    c.in_ok-command.ensures in
    let word = c.get_str.ensures ∙ first_value-rows f (codes "go") in
    let given = view_meets (subcommand_rows_of c.args.matches.now) c.in_ok-command.command (rows_of f) view met h in
    let hoist = c.get_str-2.ensures ∙ first_value-rows f (codes "hoist") in
    let salvage = c.get_str-3.ensures ∙ first_value-rows f (codes "salvage") in
    c.if-not-is_asked.ensures (asked_alike _ _ _ _ _ _ _ (sym word) (sym hoist) (sym salvage) given.asked)

pub returns-in_err-depth : goal.returns-in_err-depth
returns-in_err-depth c =
    let f = found_of c.in_ok-name.matches.now in
    let met = views_together _ _ _ _ _ _ c.in_ok-name.ensures.name c.in_ok-name.ensures.rows
    c.in_ok-command.ensures in
    let word = c.get_str-4.ensures ∙ first_value-rows f (codes "depth") in
    rw c.from_residual-in_err-depth.ensures (λ view h.
    let given = view_meets (subcommand_rows_of c.args.matches.now) c.in_ok-command.command (rows_of f) view met h in
    c.in_err-depth.ensures view.depth (writes_alike _ _ _ _ (sym word) given.depth))

pub returns-in_err-item : goal.returns-in_err-item
returns-in_err-item c =
    let f = found_of c.in_ok-name.matches.now in
    let met = views_together _ _ _ _ _ _ c.in_ok-name.ensures.name c.in_ok-name.ensures.rows
    c.in_ok-command.ensures in
    let word = c.get_str-5.ensures ∙ first_value-rows f (codes "item") in
    rw c.from_residual-in_err-item.ensures (λ view h.
    let given = view_meets (subcommand_rows_of c.args.matches.now) c.in_ok-command.command (rows_of f) view met h in
    c.in_err-item.ensures view.item (writes_alike _ _ _ _ (sym word) given.item))

pub returns-in_err-at : goal.returns-in_err-at
returns-in_err-at c =
    let f = found_of c.in_ok-name.matches.now in
    let met = views_together _ _ _ _ _ _ c.in_ok-name.ensures.name c.in_ok-name.ensures.rows
    c.in_ok-command.ensures in
    let word = c.get_str-6.ensures ∙ first_value-rows f (codes "at") in
    rw c.from_residual-in_err-at.ensures (λ view h.
    let given = view_meets (subcommand_rows_of c.args.matches.now) c.in_ok-command.command (rows_of f) view met h in
    c.in_err-at.ensures view.at (subst (λ w. IsPlaceOf c.in_ok-command.command w view.at) (sym word) given.at))

pub returns-in_err-line : goal.returns-in_err-line
returns-in_err-line c =
    let f = found_of c.in_ok-name.matches.now in
    let met = views_together _ _ _ _ _ _ c.in_ok-name.ensures.name c.in_ok-name.ensures.rows
    c.in_ok-command.ensures in
    let word = c.get_str-7.ensures ∙ first_value-rows f (codes "line") in
    rw c.from_residual-in_err-line.ensures (λ view h.
    let given = view_meets (subcommand_rows_of c.args.matches.now) c.in_ok-command.command (rows_of f) view met h in
    c.in_err-line.ensures view.line (writes_alike _ _ _ _ (sym word) given.line))

pub returns-then-depth-lt1 : goal.returns-then-depth-lt1
returns-then-depth-lt1 c = λ view h.
    let f = found_of c.in_ok-name.matches.now in
    let met = views_together _ _ _ _ _ _ c.in_ok-name.ensures.name c.in_ok-name.ensures.rows
    c.in_ok-command.ensures in
    let word = c.get_str-4.ensures ∙ first_value-rows f (codes "depth") in
    let given = view_meets (subcommand_rows_of c.args.matches.now) c.in_ok-command.command (rows_of f) view met h in
    let depth = one_number _ _ _ _ given.depth (writes_alike _ _ _ _ word c.in_ok-depth.ensures) in
    elim c.then-depth-lt1.branch [
      | then-depth-lt1-via-then-depth-lt1 w ↦ absurd (omega (arith, depth, given.least, w.if-depth-lt1.true))
      | then-depth-lt1-via-else-depth-lt1+then-depth-gt-GREATEST_DEPTH w ↦
          absurd (omega (arith, depth, given.most, w.if-depth-gt-GREATEST_DEPTH.true))
    ]

pub returns : goal.returns
returns c =
    let f = found_of c.in_ok-name.matches.now in
    record {
      rows = rows_of f;
      command = views_together _ _ _ _ _ _ c.in_ok-name.ensures.name c.in_ok-name.ensures.rows
          c.in_ok-command.ensures;
      asked = asked_alike _ _ _ _ _ _ _ (c.get_str.ensures ∙ first_value-rows f (codes "go"))
          (c.get_str-2.ensures ∙ first_value-rows f (codes "hoist"))
          (c.get_str-3.ensures ∙ first_value-rows f (codes "salvage")) c.if-not-is_asked.ensures;
      input = rw (← c.get_str-8.ensures ∙ first_value-rows f (codes "IN")) c.file_of.ensures;
      depth = writes_alike _ _ _ _ (c.get_str-4.ensures ∙ first_value-rows f (codes "depth")) c.in_ok-depth.ensures;
      item = writes_alike _ _ _ _ (c.get_str-5.ensures ∙ first_value-rows f (codes "item")) c.in_ok-item.ensures;
      zeros = rw (← c.get_str-9.ensures ∙ first_value-rows f (codes "zeros")) c.is_given.ensures;
      raw = rw (← c.get_str-10.ensures ∙ first_value-rows f (codes "raw")) c.is_given-2.ensures;
      tagged = rw (← c.get_str-11.ensures ∙ first_value-rows f (codes "tagged")) c.is_given-3.ensures;
      typed = rw (← c.get_str-12.ensures ∙ first_value-rows f (codes "typed")) c.is_given-4.ensures;
      only = rw (← c.get_str-13.ensures ∙ first_value-rows f (codes "only")) c.only_of.ensures;
      each = given_as_set _ _ _ (c.get_str-14.ensures ∙ first_value-rows f (codes "each")) c.is_set.ensures;
      kinds = c.requires;
      main = given_as_set _ _ _ (c.get_str-15.ensures ∙ first_value-rows f (codes "main")) c.is_set-2.ensures;
      progress = given_as_set _ _ _ (c.get_str-16.ensures ∙ first_value-rows f (codes "progress")) c.is_set-3.ensures;
      salvage = given_as_set _ _ _ (c.get_str-17.ensures ∙ first_value-rows f (codes "salvage")) c.is_set-4.ensures;
      hoist = rw (← c.get_str-18.ensures ∙ first_value-rows f (codes "hoist")) c.is_hoist_asked.ensures;
      fault = rw (← c.get_str-19.ensures ∙ first_value-rows f (codes "fault")) c.is_fault_asked.ensures;
      at = rw (← c.get_str-6.ensures ∙ first_value-rows f (codes "at")) c.in_ok-at.ensures;
      line = writes_alike _ _ _ _ (c.get_str-7.ensures ∙ first_value-rows f (codes "line")) c.in_ok-line.ensures;
      go = rw (← c.get_str-20.ensures ∙ first_value-rows f (codes "go")) c.is_go_asked.ensures;
      least = omega (arith, c.if-depth-lt1.false);
      most = omega (arith, c.if-depth-gt-GREATEST_DEPTH.false);
    }
