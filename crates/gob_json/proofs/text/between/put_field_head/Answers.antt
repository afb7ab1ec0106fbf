-- The pieces, one behind another.
use Rattle.std.proofs.Common.{List, ℕ, [], ◌∷◌, ◌++◌, subst}
use Rattle.serde_json.specs.Written.{compact_text}
use Rattle.gob_json.specs.Json.{text_json}
use Rattle.gob_json.proofs.HeadLaws.{plain_head, long_head}
use Rattle.gob_json.proofs.OutLaws.{piece_failed}
use Rattle.gob_json.proofs.text.between.put_field_head.Goals as goal

pub returns-in_err-put_digit_head : goal.returns-in_err-put_digit_head
returns-in_err-put_digit_head g c =
    let r = c.from_residual.result in
    subst (λ (t : List ℕ). g.O.TextOut.puts c.args.out.now c.put_digit_head.new.out t r)
    (plain_head c.args.later c.args.number c.args.name.now c.if-number-lt10.true
    (c.is_plain_ascii.ensures c.if-is_plain_ascii.true))
    (piece_failed g.O.TextOut.puts g.met.O.TextOut.cut (c.args.name.now ++ 34 ∷ 44 ∷ []) r c.from_residual.ensures.1
    c.in_err-put_digit_head.ensures)

pub returns-in_err-put : goal.returns-in_err-put
returns-in_err-put g c =
    let r = c.from_residual-in_err-put.result in
    subst (λ (t : List ℕ). g.O.TextOut.puts c.args.out.now c.put.new.self t r)
    (plain_head c.args.later c.args.number c.args.name.now c.if-number-lt10.true
    (c.is_plain_ascii.ensures c.if-is_plain_ascii.true))
    (g.met.O.TextOut.joined _ _ _ _ _ r c.in_ok-put_digit_head.ensures
    (piece_failed g.O.TextOut.puts g.met.O.TextOut.cut (34 ∷ 44 ∷ []) r c.from_residual-in_err-put.ensures.1
    c.in_err-put.ensures))

pub returns-then-is_plain_ascii : goal.returns-then-is_plain_ascii
returns-then-is_plain_ascii g c =
    let joined = g.met.O.TextOut.joined in
    subst (λ (t : List ℕ). g.O.TextOut.puts c.args.out.now c.put-then-is_plain_ascii.new.self t
    c.put-then-is_plain_ascii.result)
    (plain_head c.args.later c.args.number c.args.name.now c.if-number-lt10.true
    (c.is_plain_ascii.ensures c.if-is_plain_ascii.true))
    (joined _ _ _ _ _ _ c.in_ok-put_digit_head.ensures
    (joined _ _ _ _ _ _ c.in_ok-put.ensures c.put-then-is_plain_ascii.ensures))

pub returns-in_err-put_place : goal.returns-in_err-put_place
returns-in_err-put_place g c =
    let r = c.from_residual-in_err-put_place.result in
    subst (λ (t : List ℕ). g.O.TextOut.puts c.args.out.now c.put_place.new.out t r)
    (long_head c.args.later c.args.number c.args.name.now)
    (g.met.O.TextOut.joined _ _ _ _ _ r c.in_ok-put_comma.ensures
    (piece_failed g.O.TextOut.puts g.met.O.TextOut.cut (compact_text (text_json c.args.name.now) ++ 44 ∷ []) r
    c.from_residual-in_err-put_place.ensures.1 c.in_err-put_place.ensures))

pub returns-in_err-put_text : goal.returns-in_err-put_text
returns-in_err-put_text g c =
    let r = c.from_residual-in_err-put_text.result in
    let joined = g.met.O.TextOut.joined in
    subst (λ (t : List ℕ). g.O.TextOut.puts c.args.out.now c.put_text.new.out t r)
    (long_head c.args.later c.args.number c.args.name.now)
    (joined _ _ _ _ _ r c.in_ok-put_comma.ensures (joined _ _ _ _ _ r c.in_ok-put_place.ensures
    (piece_failed g.O.TextOut.puts g.met.O.TextOut.cut (44 ∷ []) r c.from_residual-in_err-put_text.ensures.1
    c.in_err-put_text.ensures)))

pub returns : goal.returns
returns g c =
    let joined = g.met.O.TextOut.joined in
    subst (λ (t : List ℕ). g.O.TextOut.puts c.args.out.now c.put-2.new.self t c.put-2.result)
    (long_head c.args.later c.args.number c.args.name.now)
    (joined _ _ _ _ _ _ c.in_ok-put_comma.ensures (joined _ _ _ _ _ _ c.in_ok-put_place.ensures
    (joined _ _ _ _ _ _ c.in_ok-put_text.ensures c.put-2.ensures)))
