use Rattle.std.proofs.Common.{◌≡◌, ℕ, ◌+◌, ◌<◌, List, [], ◌∷◌, ◌++◌, length, take, get_or, arith, ◌∙◌, sym, subst}
use Rattle.std.proofs.Common.{append-nil, append_assoc}
use Rattle.std.proofs.lemmas.List.{take_more}
use Rattle.gob_num.specs.Unsigned.{IsUnsigned, IsUnsignedPrefix}
use Rattle.gob_num.proofs.PrefixLaws.{begins_prefix}
use Rattle.gob_num.proofs.number.Number.take_by_bytes.Goals as goal

-- the bytes so far and the next
with_next : {bytes : List ℕ} (old piece : List ℕ) (i : ℕ) → bytes ≡ old ++ take i piece → i < length piece
    → bytes ++ (get_or piece i 0 ∷ []) ≡ old ++ take (i + 1) piece
with_next old piece i e l =
    grind (arith, e, take_more piece i 0 l, append_assoc old (take i piece) (get_or piece i 0 ∷ []))

pub loop-i-init : goal.loop-i-init
loop-i-init c =
    let here = sym (append-nil c.args.self.now) in
    record {
      taken = here;
      prefix = subst IsUnsignedPrefix (c.self.view_is ∙ here)
          (begins_prefix c.self.invariant.prefix);
    }

pub loop-i-preserved : goal.loop-i-preserved
loop-i-preserved c =
    let here = with_next c.args.self.now c.args.piece.now c.loop-i.i c.loop-i.invariant.taken c.loop-i-test.true in
    record { taken = c.in-More.ensures.next ∙ here; prefix = subst IsUnsignedPrefix here c.in-More.ensures.judged }

pub returns-in-Done-clause-taken : goal.returns-in-Done-clause-taken
returns-in-Done-clause-taken c =
    let here = with_next c.args.self.now c.args.piece.now c.loop-i.i c.loop-i.invariant.taken c.loop-i-test.true in
    (omega (arith, c.loop-i-test.true), subst (IsUnsigned c.in-Done.number) here c.in-Done.ensures.judged)

pub returns-in-Done-clause-left : goal.returns-in-Done-clause-left
returns-in-Done-clause-left c = c.in-Done.ensures.next

pub returns-in-BadHead-clause-left : goal.returns-in-BadHead-clause-left
returns-in-BadHead-clause-left c = c.in-BadHead.ensures.next

pub returns-in-NotMinimal-clause-left : goal.returns-in-NotMinimal-clause-left
returns-in-NotMinimal-clause-left c = c.in-NotMinimal.ensures.next
