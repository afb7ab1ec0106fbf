use Rattle.std.proofs.Common.{◌∙◌, Contains, ap, arith, refl, rules, subst, sym, tests, unsigned_abs, w64}
use Rattle.std.proofs.lemmas.Int.{to_z-of_z}
use Rattle.gob_salvage.proofs.FrontLaws.{all_chosen, chosen_on, is_chosen, listed, none_chosen, not_chosen}
use Rattle.gob_salvage.proofs.front.without.Goals as goal

pub definitions-init : goal.definitions-init
definitions-init c = λ T d. none_chosen d c.new-front.ensures.items

pub returns : goal.returns
returns c = λ T d. all_chosen (c.definitions.invariant T d) (omega arith)

pub definitions-preserved-in_ok-extend_from_slice : goal.definitions-preserved-in_ok-extend_from_slice
definitions-preserved-in_ok-extend_from_slice c = λ T d.
    chosen_on (c.definitions.invariant T d) (omega arith) c.in-Some.ensures.behind c.in-Some.ensures.frame
    c.in-Some.ensures.number (is_chosen c.in_ok-extend_from_slice.ensures.items)

pub definitions-preserved : goal.definitions-preserved
definitions-preserved c = λ T d.
    let there = listed c.unsigned_abs.result _ c.args.ids.now.keys (sym c.contains.ensures ∙ c.if-not-contains.false)
    (λ k e. search (rules, tests)) in
    chosen_on (c.definitions.invariant T d) (omega arith) c.in-Some.ensures.behind c.in-Some.ensures.frame
    c.in-Some.ensures.number
    (not_chosen (subst (λ n. Contains c.args.ids.now.keys n) (c.unsigned_abs.ensures.value
    ∙ ap (λ i. unsigned_abs i) (to_z-of_z w64 c.in-Some.frame.number (search rules))) there) refl)
