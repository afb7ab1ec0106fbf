-- The lines are those of the JSON that says the value.
use Rattle.std.proofs.Common.{arith, refl}
use Rattle.gob_num.proofs.PublicLaws.{bytes_each}
use Rattle.gob_types.specs.Defined.{types}
use Rattle.gob_plain.proofs.PublicLaws.{says_unfilled, whole_filled}
use Rattle.gob_views.proofs.PlainLaws.{left_out_body, shown_lines}
use Rattle.gob_views.proofs.body_lines.push_body_line.Goals as goal

pub returns-then-not-is_chosen : goal.returns-then-not-is_chosen
returns-then-not-is_chosen c =
    left_out_body c.args.of.now.lines (types c.args.of.now.table.now) c.args.of.now.id c.args.depth c.args.body.now _
    c.is_filled_whole.result (bytes_each c.args.body.now (λ i. omega (arith, c.type_inv.body i)))
    c.is_filled_whole.ensures c.if-not-is_chosen.ensures c.requires.empty

pub push_parts-requires-clause-pairs : goal.push_parts-requires-clause-pairs
push_parts-requires-clause-pairs c = c.requires.style.pairs

pub returns-then-branch : goal.returns-then-branch
returns-then-branch c =
    let of = c.args.of.now in
    let bytes = bytes_each c.args.body.now (λ i. omega (arith, c.type_inv.body i)) in
    let s = rw c.if-branch.true at c.in_ok-push_parts.ensures in
    record {
      are_bytes = bytes;
      whole = whole_filled bytes s.0;
      line = shown_lines c.if-not-is_chosen.ensures s.1 (
        of.style,
        c.requires.style,
        says_unfilled of.lines.tagged of.style (types of.table.now) of.id s.0.value c.args.body.now s.1 s.0.spelled
            s.2,
      )
          s.3 refl;
    }

pub returns : goal.returns
returns c =
    let none = rw c.if-branch.false at c.in_ok-push_parts.ensures in
    let s =
    rw c.held_style-how.ensures.tagged at (rw c.held_style-how.ensures.style at (rw c.in-Some.is at
    c.in_ok-json.ensures)) in
    record {
      are_bytes = s.are_bytes;
      whole = s.whole;
      line = shown_lines c.if-not-is_chosen.ensures s.json (c.args.of.now.style, c.requires.style, s.says)
          (c.in_ok-push_lines.ensures s.json s.text_is s.read) none;
    }
