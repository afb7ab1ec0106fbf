use Rattle.std.proofs.Common.{arith, ◌≡◌, ◌≤◌, ◌∙◌, ◌+◌, ◌-◌, ◌++◌, ap, drop, length, refl, sym, take}
use Rattle.std.proofs.lemmas.List.{with_items_is}
use Rattle.std.specs.Prelude.{slice_get}
use Rattle.gob_handed.proofs.LeftLaws.{drop_left, get_left, length_left}
use Rattle.gob_handed.proofs.reader.Reader.take.Goals as goal

pub returns-clause-next : goal.returns-clause-next
returns-clause-next g c = λ h e.
    let all = c.deref_mut.result.now in
    let t = c.args.self.now.waiting.taken in
    let n = c.hand-count.result.0 in
    let items = ap (λ l. slice_get (drop t l) n) c.deref_mut.ensures.value in
    rw c.table-table.ensures at c.room_of_next-next.ensures h (get_left all c.hand-count.new.handouts t
    (length all - t) n refl c.hand-count.ensures.left ∙ items ∙ e)

pub returns-clause-waiting : goal.returns-clause-waiting
returns-clause-waiting g c =
    let all = c.deref_mut.result.now in
    let kept = c.args.self.now.waiting.handouts in
    let t = c.args.self.now.waiting.taken in
    let k = length all - t in
    let n = c.hand-count.result.0 in
    let new = c.hand-count.new.handouts in
    let as_kept : length all ≡ length kept.items = ap (λ l. length l) c.deref_mut.ensures.value in
    let within : t ≤ length all = omega (arith, c.args.self.now.waiting.within, as_kept) in
    let long = length_left all new t k refl within c.hand-count.auto.handouts in
    ap (λ l. drop (t + n) l) (with_items_is kept (take t all ++ (new ++ drop k (drop t all)))
    (long ∙ as_kept ∙ sym kept.ok.0))
    ∙ drop_left all new t k n refl within c.hand-count.ensures.left
    ∙ ap (λ l. drop n (drop t l)) c.deref_mut.ensures.value
