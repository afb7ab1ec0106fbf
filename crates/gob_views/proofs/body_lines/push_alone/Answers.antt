-- The line is that of the JSON that says the value.
use Rattle.std.proofs.Common.{refl}
use Rattle.gob_views.proofs.PlainLaws.{line_alone, shown_lines}
use Rattle.gob_views.proofs.body_lines.push_alone.Goals as goal

pub returns : goal.returns
returns c =
    let made = rw c.if-not-branch.false at c.in_ok-push_filled_text.ensures in
    let s = rw c.held_style.ensures.tagged at (rw c.held_style.ensures.style at made) in
    record {
      are_bytes = s.are_bytes;
      whole = s.whole;
      line = shown_lines c.requires.chosen s.json (c.args.of.now.style, c.requires.style, s.says)
          (line_alone c.requires.alone c.requires.untyped s.json s.text_is s.read c.show_line.ensures.reads
          c.in_ok-show_line.ensures.shown) refl;
    }
