use Rattle.std.proofs.Common.{ℕ, ◌≡◌, ◌∙◌, ◌+◌, ◌-◌, ◌≤◌, ◌∷◌, ◌++◌, [], List, arith, sym, ap, subst, length, take}
use Rattle.std.proofs.Common.{drop}
use Rattle.std.proofs.lemmas.List.{at_drop_more, drop_all, length-take-le, take-append-drop}
use Rattle.std.proofs.Math.Seq.{take-append-add}
use Rattle.gob_types.specs.Defined.{types}
use Rattle.gob_read.proofs.PublicLaws.{usable}
use Rattle.gob_read.specs.Calls.Builders.{check_building}
use Rattle.gob_read.specs.Calls.UnderWay.{HasReadBody}
use Rattle.gob_go.specs.declared.filled.Filling.{Filling, out-Filling}
use Rattle.gob_json_writer.specs.Gaps.{AreGaps}
use Rattle.gob_json_writer.proofs.GapsLaws.{GapsSoFar, gaps_on, gaps_end}
use Rattle.gob_json_writer.proofs.go.level.gaps_of.Goals as goal

joined : (i k : ℕ) (xs : List ℕ) → i ≤ length xs → take i xs ++ take k (drop i xs) ≡ take (i + k) xs
joined i k xs h =
    sym (take-append-add (take i xs) (drop i xs) k)
    ∙ ap (λ n. take (n + k) (take i xs ++ drop i xs)) (length-take-le i xs h)
    ∙ ap (take (i + k)) (take-append-drop i xs)

joined_to : (i j : ℕ) (xs : List ℕ) → i ≤ length xs → i ≤ j → take i xs ++ take (j - i) (drop i xs) ≡ take j xs
joined_to i j xs h l =
    let same : i + (j - i) ≡ j = omega arith in joined i (j - i) xs h ∙ ap (λ n. take n xs) same

pub push-requires : goal.push-requires
push-requires c = usable (record { limit = _; announced = _; bytes = _; after = c.loop-filling.invariant.read })

-- a difference that is a number
parted : {a b c : ℕ} → (b ≤ a) × (c ≡ a - b) → a ≡ b + c
parted h = let l = h.0 in let e = h.1 in omega arith

pub loop-filling-init : goal.loop-filling-init
loop-filling-init c = record {
  read = c.in_ok-reader.ensures (types c.args.table.now) c.requires;
  within = omega arith;
  gaps = λ gs g. subst (λ l. AreGaps (types c.args.table.now) c.args.id c.args.skeleton.now 0 c.args.fillings.now
      (l ++ gs)) (sym c.new-gaps.ensures.items) g;
}

pub loop-filling-preserved : goal.loop-filling-preserved
loop-filling-preserved c =
    let T = types c.args.table.now in
    let id = c.args.id in
    let b = c.args.skeleton.now in
    let from = c.loop-filling.from in
    let kept = c.filling-item.result in
    let place = (out-Filling kept).place in
    let i = c.loop-filling.invariant in
    let fillings = c.args.fillings.now in
    let index = c.loop-filling.filling-index in
    let given = c.in-Ok-More.ensures.given id 65536 (length b) (take from b) i.read in
    let takes = rw c.in-Ok-More.field-0-is at given in
    let read : HasReadBody check_building T id 65536 (length b) c.push.new.self (take place b) =
    subst (HasReadBody check_building T id 65536 (length b) c.push.new.self)
    (joined_to from place b i.within c.if-place-from.false) takes.after in
    let held = c.held-begun.ensures.held T id 65536 (length b) (take place b) read in
    let rest = at_drop_more (λ (l : List Filling). l) fillings index kept c.loop-filling-test.true
    ∙ ap (λ k. k ∷ drop (index + 1) fillings) (sym c.filling-item.is) in record {
      read = read;
      within = c.if-place-skeleton.false;
      gaps = gaps_on c.in-Some.gap c.loop-filling.gaps.items
          (subst (λ r. GapsSoFar T id b c.loop-filling.number r fillings c.loop-filling.gaps.items) rest
          i.gaps) held (parted c.in-Some.ensures) c.in-Some-checked_add.ensures.1
          c.in_ok-push.ensures.items;
    }

pub returns : goal.returns
returns c =
    let T = types c.args.table.now in
    let l = c.loop-filling in
    gaps_end (subst (λ r. GapsSoFar T c.args.id c.args.skeleton.now l.number r c.args.fillings.now l.gaps.items)
    (drop_all l.filling-index c.args.fillings.now c.loop-filling-test.false) l.invariant.gaps)
