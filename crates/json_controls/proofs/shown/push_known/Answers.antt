-- Byte by byte more is known.
use Rattle.std.proofs.Common.{◌≡◌, ◌+◌, ◌++◌, drop, sym, subst}
use Rattle.json_controls.specs.Controls.{shown}
use Rattle.json_controls.specs.declared.held.HeldBack.{HeldBack}
use Rattle.json_controls.specs.declared.held.HeldBack.TheVariants as held
use Rattle.json_controls.proofs.StepLaws.{shown_more}
use Rattle.json_controls.proofs.shown.push_known.Goals as goal

pub loop-byte-preserved : goal.loop-byte-preserved
loop-byte-preserved c =
    let all = c.args.out.now.items ++ shown held.Nothing c.args.text.now in
    subst (λ (h : HeldBack). c.push_emitted.new.out.items ++ shown h (drop (c.loop-byte.byte-index + 1)
    c.args.text.now) ≡ all)
    (sym c.after-held.ensures)
    (shown_more c.args.text.now c.loop-byte.byte-index c.loop-byte.held c.loop-byte.out.items
    c.push_emitted.new.out.items all
    c.loop-byte-test.true c.loop-byte.invariant c.in_ok-push_emitted.ensures)
