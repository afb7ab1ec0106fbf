-- A value that stands whole in front of a session of Go's encoder is the next item, and its nodes are handed out.
use Rattle.std.proofs.Common.{◌≡◌, ℕ, ◌^◌, ◌<◌, ◌≤◌, arith, min, List, [], ◌∷◌, ◌++◌, length, take, ap, sym, subst}
use Rattle.std.proofs.Common.{refl, ◌∙◌, length-append}
use Rattle.std.proofs.lemmas.List.{length-take-le}
use Rattle.gob_num.proofs.PublicLaws.{unsigned_length}
use Rattle.gob_types.specs.Table.{Table}
use Rattle.gob_types.specs.declared.id.TypeId.{TypeId}
use Rattle.gob_value.specs.Whole.{IsWhole}
use Rattle.gob_value.proofs.PublicLaws.{same_top}
use Rattle.gob_stream.specs.Bounds.{AreLimits, Bounds, deepest}
use Rattle.gob_stream.specs.Item.{puts}
use Rattle.gob_stream.specs.Stepping.{HasBodyNextBy}
use Rattle.gob_stream.specs.Whole.{HasBody}
use Rattle.gob_stream.proofs.PublicLaws.{whole_item}
use Rattle.gob_filled.specs.Filled.{filled, no_filling}
use Rattle.gob_filled.specs.Stream.{FilledItem, putting}
use Rattle.gob_go.specs.Calls.Session.{limits_of, types_of}
use Rattle.gob_go.specs.GoStepping.{go_stepping}
use Rattle.gob_go.specs.Machine.SessionState.{SessionState}
use Rattle.gob_go.specs.Meaning.{ItemMeans, is_filled, means_value, AreFillings, no_fillings}
use Rattle.gob_go.specs.declared.filled.Filled.{Filled, out-Filled, out-roll-Filled, roll-Filled}
use Rattle.gob_go.specs.declared.item.GoItem.TheVariants as given
use Rattle.gob_handed.specs.Reading.{IsHandedNext}
use Rattle.gob_handed.specs.Unfolded.{AreGoHandouts, go_handouts, handout, of_go_value}
use Rattle.gob_handed.specs.ValueNodes.{IsWholeFlat}
use Rattle.gob_handed.specs.declared.flat.FlatValue.{FlatValue}
use Rattle.gob_handed.specs.declared.handout.Content.TheVariants as content
use Rattle.gob_handed.specs.declared.handout.Span.{Span}
use Rattle.gob_handed.proofs.HandoutLaws.{unfilled}

-- ---- what a session would have given of it
abbrev kept_of : (v : FlatValue) (body : List ℕ) → length body < 2 ^ 63 → Filled
kept_of v body small = roll-Filled (record {
  skeleton = record {
    ptr = v.pool.ptr;
    len = length body;
    cap = length body;
    alloc = v.pool.alloc;
    items = body;
    ok = (refl, omega arith);
    small = small;
  };
  fillings = record {
    ptr = v.pool.ptr;
    len = 0;
    cap = 0;
    alloc = v.pool.alloc;
    items = [];
    ok = (refl, omega arith);
    small = omega arith;
  };
})

kept_skeleton : (v : FlatValue) (body : List ℕ) (small : length body < 2 ^ 63)
    → (out-Filled (kept_of v body small)).skeleton.items ≡ body
kept_skeleton v body small = ap (λ f. f.skeleton.items) (out-roll-Filled _)

kept_fillings : (v : FlatValue) (body : List ℕ) (small : length body < 2 ^ 63)
    → (out-Filled (kept_of v body small)).fillings.items ≡ []
kept_fillings v body small = ap (λ f. f.fillings.items) (out-roll-Filled _)

-- ---- the next item
body_small : {L : Bounds} {T : Table} {offset : ℕ} {id : TypeId} {body : List ℕ} {used : ℕ} {piece : List ℕ}
    → AreLimits deepest L → HasBody L T offset id body used piece → length body < 2 ^ 63
body_small {body = body} l b =
    let behind = length-append b.number body in
    let all = length-append b.count (b.number ++ body) in
    omega (arith, l.stream, b.stream, behind, all)

pub some_used : {L : Bounds} {T : Table} {offset : ℕ} {id : TypeId} {body : List ℕ} {used : ℕ} {piece : List ℕ}
    → HasBody L T offset id body used piece → 0 < used
some_used {body = body} {used = used} {piece = piece} b =
    let all = length-append b.count (b.number ++ body) in
    let is = length-take-le used piece b.within in
    omega (arith, (unsigned_length b.counts).0, all, ap length b.whole, is)

pub handed_next : {s : SessionState} {id : TypeId} {body : List ℕ} {used depth : ℕ} {piece : List ℕ} (v : FlatValue)
    → AreLimits deepest (limits_of s) → depth ≤ min (limits_of s).depth 1000
    → HasBodyNextBy go_stepping s id body used piece
    → IsWholeFlat (types_of s) id depth body v.nodes.items v.pool.items
    → IsHandedNext go_stepping go_handouts s id (content.Filled v) (take used piece)
handed_next {s = s} {id = id} {body = body} v l deep b w =
    let T = types_of s in
    let whole = w.whole in
    let deeper : IsWhole T id (min (limits_of s).depth 1000) body =
    record { value = whole.value; spelled = whole.spelled; within = omega (arith, whole.within, deep) } in
    let small : length body < 2 ^ 63 = body_small l b in
    let kept = kept_of v body small in
    let none : AreFillings T (out-Filled kept).fillings.items no_filling =
    subst (λ fs. AreFillings T fs no_filling) (sym (kept_fillings v body small)) no_fillings in
    let means : ItemMeans T (given.Put id kept) (putting id (filled whole.value no_filling)) =
    means_value (is_filled (rw (kept_skeleton v body small) whole.spelled) none) in
    record {
      item = puts id whole.value;
      next = whole_item 1000 refl b deeper;
      given = given.Put id kept;
      means = means;
      handed = λ span i m. by span small m;
    }
  where
    by : (span : Span) (small : length body < 2 ^ 63) {i : FilledItem}
        → ItemMeans (types_of s) (given.Put id (kept_of v body small)) i
        → AreGoHandouts (types_of s) i span (handout id span (content.Filled v) ∷ [])
    by span small (means_value {w = f} m) =
        let u = unfilled (sym (kept_fillings v body small)) refl m in
        let same = (same_top [] [] (rw (kept_skeleton v body small) at u.spells) w.whole.spelled refl).value in
        subst (λ x. AreGoHandouts (types_of s) (putting id x) span (handout id span (content.Filled v) ∷ []))
        (sym (u.is ∙ ap (λ x. filled x no_filling) same)) (of_go_value (content.Filled v) refl w.are)
