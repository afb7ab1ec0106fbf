-- The zone is UTF-8 or isn't.
use Rattle.std.proofs.Common.{◌≡◌, ◌≢◌, ◌-◌, ◌∙◌, ℕ, List, length, take, drop, Some, ap, arith, subst}
use Rattle.std.proofs.lemmas.List.{take_all, length-drop}
use Rattle.std.specs.Net.Text.{ipv6_text}
use Rattle.std.specs.Str.{IsUtf8}
use Rattle.gob_plain.specs.KnownText.{zoned_text}
use Rattle.gob_plain.proofs.KnownLaws.{zone_shown, no_zone_shown}
use Rattle.gob_plain.proofs.known.address_text.Goals as goal

pub returns-in_ok-zoned_text-in-Ok : goal.returns-in_ok-zoned_text-in-Ok
returns-in_ok-zoned_text-in-Ok c =
    let b = c.args.bytes.now in
    let zone = c.in-Ok.zone.now in
    let whole : take (length b - 16) (drop 16 b) ≡ drop 16 b = take_all _ _ (omega (arith, length-drop 16 b)) in
    let other : length b ≢ 4 = omega arith in
    ap Some (c.in_ok-zoned_text-in-Ok.ensures ∙ ap (λ (s : List ℕ). zoned_text (ipv6_text s) zone) c.ipv6_of.ensures)
    ∙ zone_shown b zone other (omega arith) (subst IsUtf8 whole c.in-Ok.ensures.cases.1)
    (c.in-Ok.ensures.cases.0 ∙ whole)

pub returns-in-Err : goal.returns-in-Err
returns-in-Err c =
    let b = c.args.bytes.now in
    let whole : take (length b - 16) (drop 16 b) ≡ drop 16 b = take_all _ _ (omega (arith, length-drop 16 b)) in
    let other : length b ≢ 4 = omega arith in
    no_zone_shown b other (omega arith) (subst (λ (s : List ℕ). IsUtf8 s → ⊥) whole c.in-Err.ensures.cases.0)
