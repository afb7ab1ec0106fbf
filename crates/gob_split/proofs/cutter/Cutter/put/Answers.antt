use Rattle.std.proofs.Common.{◌∙◌, ◌++◌, ◌∷◌, [], List, ap, arith, refl, subst, sym, take, append_assoc, ℕ}
use Rattle.gob_split.specs.Machine.Items.{text_in}
use Rattle.gob_split.specs.Parts.{SendsSome}
use Rattle.gob_split.specs.Split.{definitions_of}
use Rattle.gob_split.specs.Text.{text_bytes}
use Rattle.gob_split.proofs.CutterLaws.{front_same, not_turned_as, put_none, put_so, put_some, puts_at, sent_apart}
use Rattle.gob_split.proofs.CutterLaws.{text_whole, turned_as}
use Rattle.gob_split.proofs.cutter.Cutter.put.Goals as goal

pub returns-in_err-filling-clause-put : goal.returns-in_err-filling-clause-put
returns-in_err-filling-clause-put g c = λ how texts full last before i old.
    let t = text_in c.args.text.now in
    let front = ap (λ (l : List ℕ). take c.len-known.result l) c.deref-2.ensures.value
    ∙ front_same c.len-known.result c.args.self.now.defining.items _ _ c.in_ok-append.ensures
    (omega (arith, c.len-known.ensures, c.args.self.now.defining.ok)) ∙ i.defining in
    puts_at how _ texts full last t (λ made. g.P.Parts.are c.turn.new.parts (before ++ made))
    c.from_residual-in_err-filling.result c.from_residual-in_err-filling.ensures.1
    (put_none how t i (not_turned_as how (definitions_of texts) i.size front
    (c.in_err-filling.ensures.turned full last before i.counts old)))

pub returns-in_err-send-clause-put : goal.returns-in_err-send-clause-put
returns-in_err-send-clause-put g c = λ how texts full last before i old.
    let x = c.args.text.now in
    let t = text_in x in
    let front = ap (λ (l : List ℕ). take c.len-known.result l) c.deref-2.ensures.value
    ∙ front_same c.len-known.result c.args.self.now.defining.items _ _ c.in_ok-append.ensures
    (omega (arith, c.len-known.ensures, c.args.self.now.defining.ok)) ∙ i.defining in
    let h = turned_as how (definitions_of texts) i.size front
    (c.in_ok-filling.ensures.turned full last before i.counts old) in
    let Are = g.P.Parts.are c.send.new.self in
    let sent = c.in_err-send.ensures.sent (before ++ h.full') h.part.bytes
    (subst (g.P.Parts.are c.turn.new.parts) (sym (append_assoc before h.full' (h.part.bytes ∷ []))) h.out) in
    puts_at how _ texts full last t (λ made. Are (before ++ made))
    c.from_residual-in_err-send.result c.from_residual-in_err-send.ensures.1
    (put_some how t i h (sent_apart Are before h.full' h.part.bytes (text_bytes t)
    (subst (λ (b : List ℕ). SendsSome Are (before ++ h.full') h.part.bytes b)
    (c.deref-3.ensures.value ∙ sym (text_whole x)) sent)))

pub returns-clause-put : goal.returns-clause-put
returns-clause-put g c = λ how texts full last before i old.
    let x = c.args.text.now in
    let t = text_in x in
    let front = ap (λ (l : List ℕ). take c.len-known.result l) c.deref-2.ensures.value
    ∙ front_same c.len-known.result c.args.self.now.defining.items _ _ c.in_ok-append.ensures
    (omega (arith, c.len-known.ensures, c.args.self.now.defining.ok)) ∙ i.defining in
    let h = turned_as how (definitions_of texts) i.size front
    (c.in_ok-filling.ensures.turned full last before i.counts old) in
    let Are = g.P.Parts.are c.send.new.self in
    let sent = c.in_ok-send.ensures.sent (before ++ h.full') h.part.bytes
    (subst (g.P.Parts.are c.turn.new.parts) (sym (append_assoc before h.full' (h.part.bytes ∷ []))) h.out) in
    put_so how t i h refl (c.in_ok-append.ensures
    ∙ ap (λ (l : List ℕ). c.args.self.now.defining.items ++ take x.definitions l) c.deref.ensures.value) refl
    (c.with.ensures h.part h.counts) {New = λ made. Are (before ++ made)}
    (subst Are (append_assoc before h.full' ((h.part.bytes ++ text_bytes t) ∷ []))
    (subst (λ (b : List ℕ). Are ((before ++ h.full') ++ (h.part.bytes ++ b) ∷ []))
    (c.deref-3.ensures.value ∙ sym (text_whole x)) sent))
