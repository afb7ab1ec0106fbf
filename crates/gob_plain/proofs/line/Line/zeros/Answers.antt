-- Members stand behind the comma; where there is none, it is taken away.
use Rattle.std.proofs.Common.{◌≡◌, ap, length, refl, rules, sym, take, ◌∙◌}
use Rattle.gob_plain.proofs.LineLaws.{absent_none, absent_put}
use Rattle.gob_plain.proofs.line.Line.zeros.Goals as goal

pub returns-then-len-behind : goal.returns-then-len-behind
returns-then-len-behind g c =
    let begin : c.len-begin.result ≡ length c.args.self.now.text.items = search rules in
    let behind : length c.takes.new.self.text.items ≡ length c.comma.new.self.text.items = search rules in
    absent_none c.args.style c.args.absent.start c.args.absent.end
    (c.lends-out.ensures.before ∙ c.in_ok-comma.ensures.0) c.lends-out.ensures.tokens c.in_ok-write_absent.ensures
    c.takes.new.self c.takes.ensures.text (behind ∙ ap length (sym c.lends-out.ensures.before))
    (c.truncate.ensures.items ∙ ap (λ n. take n c.takes.new.self.text.items) begin) refl

pub returns-else-len-behind : goal.returns-else-len-behind
returns-else-len-behind g c =
    let other : length c.takes.new.self.text.items ≡ length c.comma.new.self.text.items → ⊥ = search rules in
    absent_put c.args.style c.args.absent.start c.args.absent.end
    (c.lends-out.ensures.before ∙ c.in_ok-comma.ensures.0) c.lends-out.ensures.tokens c.in_ok-write_absent.ensures
    c.takes.ensures.text c.takes.ensures.read c.takes.ensures.later
    (λ e. other (e ∙ ap length c.lends-out.ensures.before))
