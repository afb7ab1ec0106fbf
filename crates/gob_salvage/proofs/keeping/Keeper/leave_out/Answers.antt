use Rattle.std.proofs.Common.{◌∙◌, ap, arith, drop, IfSome, refl, subst, sym, true≢false}
use Rattle.gob_types.specs.Defined.{types}
use Rattle.gob_stream.specs.Bounds.{Bounds, within_trees}
use Rattle.gob_go.specs.Calls.Session.{types_of}
use Rattle.gob_salvage.specs.Breaks.{BeginsBehind}
use Rattle.gob_salvage.specs.Searching.{AreNoted}
use Rattle.gob_salvage.proofs.KeepingSteps.{anew_so, breaks_there, gap_left, next_so, resumes_there}
use Rattle.gob_salvage.proofs.SearchLaws.{spent_on}
use Rattle.gob_salvage.proofs.keeping.Keeper.leave_out.Goals as goal

pub returns : goal.returns
returns c S h =
    let before = c.later_stream.ensures.spent in
    let same = ap (λ M. within_trees M) before.limits ∙ h.kept.search_limits in
    let bytes = c.args.bytes.now in
    let read = rw c.deref-2.ensures.value at c.in_ok-self.ensures.read in
    let limits = ap (λ L. within_trees L) (c.in_ok-self.ensures.limits ∙ c.limits-limits.ensures ∙ h.limits)
    ∙ h.kept.limits in
    gap_left bytes _ h c.in_ok-next.ensures.behind c.in_ok-next.ensures.within read limits
    c.in_ok-push.ensures.items refl refl refl c.place_from.ensures
    (λ t. absurd (true≢false (sym t)))
    (spent_on before c.place_behind.ensures.spent)
    (λ items noted. resumes_there _ _ _ c.in_ok-next.ensures.behind c.in_ok-next.ensures.within
    c.known_end-known.ensures.alone c.known_end-known.ensures.later c.known_end-known.ensures.none
    c.in_ok-next.ensures.known
    (λ none. next_so same (ap (λ d. types d) c.table-table.ensures)
    (c.in_ok-next.ensures.shown none items (subst (λ k. AreNoted k items) (sym before.types) noted)))
    c.end_alone-alone.ensures.step c.end_alone-alone.ensures.frame c.end_alone-alone.ensures.why)
    c.is_some-self.ensures refl
    (c.len-self.ensures ∙ c.args.self.now.defining.ok.0) refl refl refl
    (breaks_there S _ _ _ _ _ _ bytes _ c.requires.more c.in_ok-later.ensures.place
    (anew_so _ bytes h.kept read limits h.kept.search_limits
    (rw c.deref.ensures.value at c.in_ok-later.ensures.anew))
    c.clash_at-clash.ensures.here
    c.clash_at-clash.ensures.again c.clash_at-clash.ensures.alone c.known_end-known.ensures.later
    c.in_ok-next.ensures.known c.in_ok-push.ensures.items refl refl refl)
