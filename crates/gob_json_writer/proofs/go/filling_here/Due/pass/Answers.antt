use Rattle.std.proofs.Common.{◌≡◌, ◌+◌, ◌-◌, ◌∙◌, ◌∷◌, [], List, suc, arith, ap, refl, sym, subst, get_or, drop}
use Rattle.std.specs.Prelude.{unwrap_or}
use Rattle.std.specs.Option.{option_copied}
use Rattle.std.proofs.lemmas.List.{at_drop_more, drop_all}
use Rattle.gob_go.specs.declared.filled.Filling.{Filling}
use Rattle.gob_json_writer.specs.Machine.Holding.{GapsShow, Fills, first_gap}
use Rattle.gob_json_writer.proofs.HoldingLaws.{past_all, pass_before, pass_next, first_is, drop_next}
use Rattle.gob_json_writer.proofs.go.filling_here.Due.pass.Goals as goal

pub returns-then-self-gt0 : goal.returns-then-self-gt0
returns-then-self-gt0 c = λ T N n a.
    let due = c.args.self.now in
    let gaps = drop due.next due.gaps.items in
    let p = pass_before due.ahead gaps c.if-self-gt0.true
    (subst (λ g. GapsShow T n a.rest g N) (sym a.gaps_are) a.shows)
    in record {
      fills = p.fills;
      due_then = record {
        rest = a.rest;
        gaps = first_gap (due.ahead - 1) gaps;
        rest_is = a.rest_is;
        gaps_are = refl;
        shows = p.shows;
      };
    }

pub returns-in_err-filling : goal.returns-in_err-filling
returns-in_err-filling c = λ T N n a.
    let due = c.args.self.now in
    let none = drop_all due.next due.fillings.now c.in_err-filling.ensures.lookup.3 in
    let p = past_all (subst (λ r. GapsShow T n r a.gaps N) (sym a.rest_is ∙ none) a.shows) in record {
      fills = subst (λ r. Fills T (option_copied r) (N n)) (sym c.from_residual.ensures) p.fills;
      due_then = record { rest = []; gaps = a.gaps; rest_is = none; gaps_are = a.gaps_are; shows = p.shows };
    }

pub returns : goal.returns
returns c = λ T N n a.
    let due = c.args.self.now in
    let fillings = due.fillings.now in
    let gaps = due.gaps.items in
    let kept = c.in_ok-filling.filling.now in
    let item = c.in_ok-filling.ensures.lookup in
    let none : due.ahead ≡ 0 = omega (arith, c.if-self-gt0.false) in
    let first = at_drop_more (λ (l : List Filling). l) fillings due.next kept item.3.0
    ∙ ap (λ k. k ∷ drop (due.next + 1) fillings) (sym (item.4 (omega arith) kept)) in
    let shown = subst (λ g. GapsShow T n a.rest g N) (sym a.gaps_are) a.shows in
    let here = subst (λ h. GapsShow T n a.rest (first_gap h (drop due.next gaps)) N) none shown in
    let p = pass_next (drop due.next gaps)
    (subst (λ r. GapsShow T n r (first_gap 0 (drop due.next gaps)) N) (sym a.rest_is ∙ first) here) in
    let next : suc due.next ≡ due.next + 1 = omega arith in
    let ahead : c.unwrap_or-self.result ≡ get_or gaps (due.next + 1) 0 =
    c.unwrap_or-self.ensures ∙ ap (λ o. unwrap_or o 0) c.copied.ensures
    ∙ c.get-2.ensures.lookup.4 (omega arith) 0 ∙ ap (λ l. get_or l (due.next + 1) 0) c.deref.ensures.value in
    let behind = drop_next due.next gaps ∙ ap (λ i. drop i gaps) next in record {
      fills = p.fills;
      due_then = record {
        rest = drop (due.next + 1) fillings;
        gaps = drop (due.next + 1) gaps;
        rest_is = refl;
        gaps_are = ap (λ h. first_gap h (drop (due.next + 1) gaps)) ahead ∙ first_is (due.next + 1) gaps;
        shows = subst (λ g. GapsShow T (n + 1) (drop (due.next + 1) fillings) g N) behind p.shows;
      };
    }
