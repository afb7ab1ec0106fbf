use Rattle.std.proofs.Common.{ℕ, List, Option, Ok, true, get_or, refl, sym, subst, ap₂}
use Rattle.std.specs.Fmt.{◌++?◌, DisplaysOnOk}
use Rattle.std.proofs.lemmas.Grind.{put_two, get_or_default_zero}
use Rattle.gob_match.specs.ClashText.{byte_digits}
use Rattle.gob_match.proofs.TextLaws.{next_text}
use Rattle.gob_match.proofs.step.HexTextDisplay.fmt.Goals as goal

pub loop-byte-preserved : goal.loop-byte-preserved
loop-byte-preserved g c = λ plain.
    let before = c.loop-byte.invariant plain in
    let bytes = c.args.self.now.0.now in
    let i = c.loop-byte.byte-index in
    let took = g.W.Write.write_str_gives in
    let result = Ok c.in_ok-write.field-0 in
    let written = subst (λ (o : Option (List ℕ)). DisplaysOnOk took c.loop-byte.f result o c.write.new.self)
    (ap₂ ◌++?◌ c.in_radix.ensures c.in_radix-in-loop-byte.ensures) c.in_ok-write.ensures.writes in
    put_two took _ _ _ _ _ _ before (written before.plain (refl {a = true}))
    (next_text byte_digits bytes i (get_or bytes i 0) c.loop-byte-test.true
    (sym (get_or_default_zero bytes i (get_or bytes i 0) c.loop-byte-test.true)))
