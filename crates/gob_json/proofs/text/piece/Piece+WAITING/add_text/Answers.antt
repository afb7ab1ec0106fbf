-- The text between two quotes.
use Rattle.std.proofs.Common.{ℕ, List, [], ◌∷◌, ◌++◌, ◌+◌, ◌∙◌, ap, append_assoc, arith, length, length-set, refl, take}
use Rattle.std.proofs.lemmas.List.{take_more_set}
use Rattle.gob_json.proofs.LeafLaws.{plain_text}
use Rattle.gob_json.proofs.text.piece.Piece+WAITING.add_text.Goals as goal

pub returns-clause-added : goal.returns-clause-added
returns-clause-added c = λ _.
    let n = c.args.self.now.len in
    let bytes = c.args.self.now.bytes in
    let text = c.args.text.now in
    let end = n + 1 + length text in
    let copied = c.copy_plain.new.block in
    let old = take n bytes in
    take_more_set copied end 34 (omega (arith, c.copy_plain.ensures.stays, length-set bytes n 34, c.requires))
    ∙ ap (λ (l : List ℕ). l ++ 34 ∷ []) (c.if-not-copy_plain.ensures.text refl
    ∙ ap (λ (l : List ℕ). l ++ text) (take_more_set bytes n 34 (omega (arith, c.requires))))
    ∙ append_assoc (old ++ 34 ∷ []) text (34 ∷ []) ∙ append_assoc old (34 ∷ []) (text ++ 34 ∷ [])
    ∙ ap (λ (l : List ℕ). old ++ l) (plain_text text (c.if-not-copy_plain.ensures.plain refl))
