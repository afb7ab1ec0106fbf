-- The order is read off the rows of the one subcommand that was met.
use Rattle.std.proofs.Common.{◌∙◌, sym, codes, arith, refl}
use Rattle.clap.specs.Words.{found_of, rows_of, subcommand_rows_of}
use Rattle.clap.proofs.WalkLemmas.{first_value-rows}
use Rattle.gob_words.proofs.TakingLaws.{taking_alike, taking_meets}
use Rattle.gob_words.proofs.WordLaws.{one_number, together, writes_alike}
use Rattle.gob_words.proofs.taking.go_taking_in.Goals.{then-depth-lt1-via-then-depth-lt1}
use Rattle.gob_words.proofs.taking.go_taking_in.Goals.{then-depth-lt1-via-else-depth-lt1+then-depth-gt-GREATEST_DEPTH}
use Rattle.gob_words.proofs.taking.go_taking_in.Goals as goal

pub returns-then-not-is_go_taking : goal.returns-then-not-is_go_taking
returns-then-not-is_go_taking c = λ order h.
    let f = found_of c.in_ok-name.matches.now in
    let met = together _ _ _ _ _ c.in_ok-name.ensures.name c.in_ok-name.ensures.rows in
    let word = c.get_str.ensures ∙ first_value-rows f (codes "go") in
    let given = taking_meets (subcommand_rows_of c.args.matches.now) _ (rows_of f) order met h in
    c.if-not-is_go_taking.ensures (taking_alike _ _ _ (sym word) given.go)

pub returns-in_err-wanted : goal.returns-in_err-wanted
returns-in_err-wanted c =
    let f = found_of c.in_ok-name.matches.now in
    let met = together _ _ _ _ _ c.in_ok-name.ensures.name c.in_ok-name.ensures.rows in
    let word = c.in_err-wanted.ensures ∙ first_value-rows f (codes "WANTED") in
    rw c.from_residual-in_err-wanted.ensures (λ order h.
    let given = taking_meets (subcommand_rows_of c.args.matches.now) _ (rows_of f) order met h in
    given.wanted (sym word))

pub returns-in_err-depth : goal.returns-in_err-depth
returns-in_err-depth c =
    let f = found_of c.in_ok-name.matches.now in
    let met = together _ _ _ _ _ c.in_ok-name.ensures.name c.in_ok-name.ensures.rows in
    let word = c.get_str-3.ensures ∙ first_value-rows f (codes "depth") in
    rw c.from_residual-in_err-depth.ensures (λ order h.
    let given = taking_meets (subcommand_rows_of c.args.matches.now) _ (rows_of f) order met h in
    c.in_err-depth.ensures order.depth (writes_alike _ _ _ _ (sym word) given.depth))

pub returns-in_err-item : goal.returns-in_err-item
returns-in_err-item c =
    let f = found_of c.in_ok-name.matches.now in
    let met = together _ _ _ _ _ c.in_ok-name.ensures.name c.in_ok-name.ensures.rows in
    let word = c.get_str-4.ensures ∙ first_value-rows f (codes "item") in
    rw c.from_residual-in_err-item.ensures (λ order h.
    let given = taking_meets (subcommand_rows_of c.args.matches.now) _ (rows_of f) order met h in
    c.in_err-item.ensures order.item (writes_alike _ _ _ _ (sym word) given.item))

pub returns-then-depth-lt1 : goal.returns-then-depth-lt1
returns-then-depth-lt1 c = λ order h.
    let f = found_of c.in_ok-name.matches.now in
    let met = together _ _ _ _ _ c.in_ok-name.ensures.name c.in_ok-name.ensures.rows in
    let word = c.get_str-3.ensures ∙ first_value-rows f (codes "depth") in
    let given = taking_meets (subcommand_rows_of c.args.matches.now) _ (rows_of f) order met h in
    let depth = one_number _ _ _ _ given.depth (writes_alike _ _ _ _ word c.in_ok-depth.ensures) in
    elim c.then-depth-lt1.branch [
      | then-depth-lt1-via-then-depth-lt1 w ↦ absurd (omega (arith, depth, given.least, w.if-depth-lt1.true))
      | then-depth-lt1-via-else-depth-lt1+then-depth-gt-GREATEST_DEPTH w ↦
          absurd (omega (arith, depth, given.most, w.if-depth-gt-GREATEST_DEPTH.true))
    ]

pub returns : goal.returns
returns c =
    let f = found_of c.in_ok-name.matches.now in
    record {
      rows = rows_of f;
      name = c.in_ok-name.name.now;
      command = together _ _ _ _ _ c.in_ok-name.ensures.name c.in_ok-name.ensures.rows;
      go = taking_alike _ _ _ (c.get_str.ensures ∙ first_value-rows f (codes "go")) c.if-not-is_go_taking.ensures;
      takes = refl;
      wanted = c.in_ok-wanted.ensures ∙ first_value-rows f (codes "WANTED");
      input = c.get_str-5.ensures ∙ first_value-rows f (codes "IN");
      depth = writes_alike _ _ _ _ (c.get_str-3.ensures ∙ first_value-rows f (codes "depth")) c.in_ok-depth.ensures;
      item = writes_alike _ _ _ _ (c.get_str-4.ensures ∙ first_value-rows f (codes "item")) c.in_ok-item.ensures;
      least = omega (arith, c.if-depth-lt1.false);
      most = omega (arith, c.if-depth-gt-GREATEST_DEPTH.false);
    }
