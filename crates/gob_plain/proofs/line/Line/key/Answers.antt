-- What was put begins by a quote where the name is UTF-8.
use Rattle.std.proofs.Common.{◌≡◌, ap, get_or, length, refl, rules, sym, take, ◌∙◌}
use Rattle.gob_plain.proofs.LineLaws.{name_gone, name_put}
use Rattle.gob_plain.proofs.line.Line.key.Goals as goal

pub returns-then-index-eq123 : goal.returns-then-index-eq123
returns-then-index-eq123 c =
    let mark : c.len-mark.result ≡ length c.comma.new.self.text.items = search rules in
    let begin : c.len-begin.result ≡ length c.args.self.now.text.items = search rules in
    name_gone c.index.result.now (record { comma = c.in_ok-comma.ensures.0; text = c.in_ok-put_text.ensures })
    (sym (c.index.ensures ∙ ap (λ n. get_or c.put_text.new.self.items n c.index.result.now) mark)
    ∙ c.if-index-eq123.true)
    (c.truncate.ensures.items ∙ ap (λ n. take n c.put_text.new.self.items) begin) c.in_ok-comma.ensures.1

pub returns : goal.returns
returns c =
    let mark : c.len-mark.result ≡ length c.comma.new.self.text.items = search rules in
    name_put c.index.result.now (record { comma = c.in_ok-comma.ensures.0; text = c.in_ok-put_text.ensures })
    (λ e. c.if-index-eq123.false
    (c.index.ensures ∙ ap (λ n. get_or c.put_text.new.self.items n c.index.result.now) mark ∙ e))
    c.in_ok-push.ensures.items refl
