-- A byte more waits, behind what waited or behind what was appended of it and a quote.
use Rattle.std.proofs.Common.{◌++◌, ◌∷◌, ◌∙◌, [], ap, arith, rules, sym}
use Rattle.json_number_texts.specs.Texts.{place_after, with_texts}
use Rattle.json_number_texts.proofs.StepLaws.{place_on, texts_cut, texts_on}
use Rattle.json_number_texts.proofs.pieces.push_texts.Goals as goal
use Rattle.json_number_texts.proofs.pieces.push_texts.Goals.{then-is_edge+in_ok-extend_from_slice+in_ok-push}
use Rattle.json_number_texts.proofs.pieces.push_texts.Goals.{else-is_edge}

pub loop-i-preserved : goal.loop-i-preserved
loop-i-preserved c =
    let old = c.loop-i.invariant in
    let all = c.args.out.now.items ++ with_texts c.args.place c.args.piece.now in record {
      texts = elim c.if-is_edge.branch [
        | then-is_edge+in_ok-extend_from_slice+in_ok-push w ↦
            rw (w.out-is, w.start-is, c.after-place.ensures) (texts_cut c.args.piece.now c.loop-i.i c.loop-i-test.true
            c.loop-i.place c.loop-i.start c.loop-i.out.items w.push.new.self.items all
            (sym c.is_edge.ensures ∙ w.if-is_edge.true)
            (w.in_ok-push.ensures.items ∙ ap (λ l. l ++ 34 ∷ []) w.in_ok-extend_from_slice.ensures.items) old.texts)
        | else-is_edge w ↦
            rw (w.out-is, w.start-is, c.after-place.ensures) (texts_on c.args.piece.now c.loop-i.i c.loop-i-test.true
            c.loop-i.place c.loop-i.start c.loop-i.out.items all old.within
            (sym c.is_edge.ensures ∙ w.if-is_edge.false) old.texts)
      ];
      behind = rw c.after-place.ensures (place_on c.args.piece.now c.loop-i.i c.loop-i-test.true c.loop-i.place
          (place_after c.args.place c.args.piece.now) old.behind);
      within = elim c.if-is_edge.branch [
        | then-is_edge+in_ok-extend_from_slice+in_ok-push w ↦ rw w.start-is (omega arith)
        | else-is_edge w ↦ rw w.start-is (omega (arith, old.within))
      ];
      few = elim c.if-is_edge.branch [
        | then-is_edge+in_ok-extend_from_slice+in_ok-push w ↦ rw (w.out-is, w.start-is) (search rules)
        | else-is_edge w ↦ rw (w.out-is, w.start-is) (omega (arith, old.few))
      ];
      room = elim c.if-is_edge.branch [
        | then-is_edge+in_ok-extend_from_slice+in_ok-push w ↦ rw w.out-is (search rules)
        | else-is_edge w ↦ rw w.out-is old.room
      ];
    }
