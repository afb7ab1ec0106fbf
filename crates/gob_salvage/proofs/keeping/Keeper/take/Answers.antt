use Rattle.std.proofs.Common.{◌∙◌, ap, arith, length, length-drop, List, refl, subst, ℕ}
use Rattle.std.proofs.lemmas.List.{take_rest}
use Rattle.std.proofs.lemmas.Result.{on_ok_weaker}
use Rattle.gob_types.specs.Defined.{Defined, IsTable, definition_count, types}
use Rattle.gob_salvage.specs.Keeping.{IsKeeping, IsRefusedNext, Start}
use Rattle.gob_salvage.specs.Taking.{RefusesNext}
use Rattle.gob_salvage.proofs.KeepingSteps.{goes_from, item_kept}
use Rattle.gob_salvage.proofs.keeping.Keeper.take.Goals.{In-Err-Refused}
use Rattle.gob_salvage.proofs.keeping.Keeper.take.Goals as goal

-- the refusal that the session has met is of what stands next
refused_next : (c : In-Err-Refused) (S : Start) → IsKeeping S c.args.self.now c.args.bytes.now
    → IsRefusedNext S (record c.args.self.now { session = c.take_item.new.session }) c.args.bytes.now
    c.in-Err-Refused.refusal
refused_next c S h = record {
  session = c.args.self.now.session;
  kept = h;
  refused = subst (λ (z : List ℕ). RefusesNext c.args.self.now.session z c.in-Err-Refused.refusal)
      (take_rest c.args.bytes.now c.args.self.now.at) (rw c.in-Err-Refused.field-0-is at
      c.in-Err-Refused.ensures.refused);
  limits = c.in-Err-Refused.ensures.limits;
}

pub keep-requires-clause-few : goal.keep-requires-clause-few
keep-requires-clause-few c =
    let h = c.requires.keeping.1 in let items = h.few in let small = h.small in let fits = h.fits in omega arith

pub keep-requires-clause-near : goal.keep-requires-clause-near
keep-requires-clause-near c =
    let few = c.in-Ok.ensures.used.1 in
    let rest = ap length (take_rest c.args.bytes.now c.args.self.now.at) in
    omega (arith, rest, length-drop c.args.self.now.at c.args.bytes.now)

pub keep-requires-clause-read : goal.keep-requires-clause-read
keep-requires-clause-read c =
    let h = c.requires.keeping.1 in let few = c.in-Ok.ensures.used.1 in
    let rest = ap length (take_rest c.args.bytes.now c.args.self.now.at) in
    let is = h.read_is in let some = h.few_read in let out = h.few_out in let small = h.small in let fits = h.fits in
    omega (arith, rest, length-drop c.args.self.now.at c.args.bytes.now)

pub returns-in_ok-keep_item-in-Ok : goal.returns-in_ok-keep_item-in-Ok
returns-in_ok-keep_item-in-Ok c S h =
    on_ok_weaker c.keep.result (λ m. goes_from c.requires.more refl refl (item_kept c.args.bytes.now h
    c.in-Ok.ensures.read c.in-Ok.ensures.between c.in-Ok.ensures.limits c.in-Ok.ensures.used.0 c.in-Ok.ensures.used.1
    refl
    (subst (λ (d : Defined). IsTable (types d)) c.table.ensures c.count-known.ensures.known)
    (c.count-known.ensures.count ∙ ap (λ (d : Defined). definition_count (types d)) c.table.ensures)
    (c.count-count.ensures.count ∙ ap (λ (d : Defined). definition_count (types d)) c.table-in-Ok.ensures)
    c.in_ok-note-in-Ok.ensures c.keep_item.ensures.limits c.in_ok-keep_item-in-Ok.ensures.noted m c.requires.more))
    c.keep.ensures

pub leave_out-requires-clause-refused : goal.leave_out-requires-clause-refused
leave_out-requires-clause-refused c =
    let at = (goal.at.leave_out-requires-clause-refused c).In-Err-Refused in
    (c.requires.keeping.0, rw at.in-Err-Refused.field-0-is (refused_next at c.requires.keeping.0 c.requires.keeping.1))

pub returns-in-Err-Refused : goal.returns-in-Err-Refused
returns-in-Err-Refused c S h =
    let at = (goal.at.returns-in-Err-Refused c).In-Err-Refused in
    on_ok_weaker c.leave_out.result (λ g. goes_from c.requires.more refl refl g) (c.leave_out.ensures S
    (rw at.in-Err-Refused.field-0-is (refused_next at S h)))
