use Rattle.std.proofs.Common.{[], ◌∷◌, ◌++◌, List, refl, ℕ, sym, subst, append-nil, arith}
use Rattle.std.proofs.lemmas.Int.{ints}
use Rattle.std.specs.Prelude.{◌<ℤ◌, pos}
use Rattle.std.specs.List.{AllByRecursion}
use Rattle.gob_salvage.specs.Evidence.{HasValue}
use Rattle.gob_salvage.proofs.EvidenceLaws.{item_number}
use Rattle.gob_salvage.proofs.NotingLaws.{all_define, all_noted, all_still, all_with, defines_only, last_value}
use Rattle.gob_salvage.proofs.kept_types.KeptTypes.note_item.Goals as goal

pub returns-in-Some : goal.returns-in-Some
returns-in-Some c = λ L T U offset i it items noted.
    let is = item_number [] it c.in-Some.ensures.number (sym (append-nil c.args.item.now)) in
    let below : c.in-Some.frame.number <ℤ pos 0 = grind (arith, ints) in
    record {
      each = all_noted items (i ∷ []) refl noted.each;
      none = λ e. all_define items (i ∷ []) (noted.none e) (defines_only is below);
    }

pub returns-in_ok-insert-in-Some-2 : goal.returns-in_ok-insert-in-Some-2
returns-in_ok-insert-in-Some-2 c = λ L T U offset i it items noted.
    let is = item_number [] it c.in-Some.ensures.number (sym (append-nil c.args.item.now)) in
    record {
      each = subst (λ (ks : List ℕ). AllByRecursion (λ n. HasValue (items ++ i ∷ []) n) ks)
          (sym c.in_ok-insert-in-Some-2.ensures.keys)
          (all_with c.args.self.now.ids.keys _ (all_still items (i ∷ []) c.args.self.now.ids.keys noted.each)
          (last_value items is (omega (arith, ints))));
      none = λ e. absurd (cc);
    }

pub returns-in-None : goal.returns-in-None
returns-in-None c = λ L T U offset i it items noted. record {
  each = all_noted items (i ∷ []) refl noted.each;
  none = λ e. absurd (cc);
}
