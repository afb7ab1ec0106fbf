-- A definition that stands next and is kept already in its very bytes is left out, and the session isn't told it.
use Rattle.std.proofs.Common.{◌≡◌, ℕ, ◌+◌, ◌-◌, ◌<◌, ◌≤◌, List, [], ◌∷◌, ◌++◌, length, take, drop, arith, refl, sym}
use Rattle.std.proofs.Common.{ap, ◌∙◌, subst, append_assoc, length-drop, Bool, true, Option, None, Some, IfSome}
use Rattle.std.proofs.lemmas.List.{drop-drop, length-take-le, take-append-drop, take-take}
use Rattle.std.specs.Prelude.{ℤ, negsuc}
use Rattle.gob_num.specs.Signed.{IsSigned}
use Rattle.gob_types.specs.declared.id.TypeId.{TypeId}
use Rattle.gob_types.specs.declared.reason.Reason.TheVariants as reason
use Rattle.gob_types.specs.Base.{base_table}
use Rattle.gob_types.specs.Definable.{IsOwnId}
use Rattle.gob_types.specs.Table.{Table, IsDefined}
use Rattle.gob_stream.specs.Bounds.{Bounds, within_trees}
use Rattle.gob_stream.specs.Devices.{counts_up}
use Rattle.gob_stream.specs.Refusing.{refuses, refused_id}
use Rattle.gob_stream.specs.WriterRefusal.{RefusesId, defined_twice}
use Rattle.gob_filled.specs.Outcome.{RefusesFilled, refused_body}
use Rattle.gob_filled.specs.Stream.{FilledItem}
use Rattle.gob_filled.proofs.Outcomes.{no_item}
use Rattle.gob_go.specs.Calls.Session.{limits_of, types_of}
use Rattle.gob_go.specs.Machine.SessionState.{SessionState}
use Rattle.gob_go.proofs.ItemsLaws.{item_ends}
use Rattle.gob_go.proofs.Refusals.{nothing_identified}
use Rattle.gob_salvage.specs.declared.frame.Frame.{Frame}
use Rattle.gob_salvage.specs.declared.gap.Gap.{Gap}
use Rattle.gob_salvage.specs.declared.keeping.Again.{Again}
use Rattle.gob_salvage.specs.declared.keeping.Keeper.{Keeper}
use Rattle.gob_salvage.specs.declared.search.Search.{Search}
use Rattle.gob_salvage.specs.Again.{IsAgain, IsNumbered, RefusesAgain, RepeatsNext}
use Rattle.gob_salvage.specs.Evidence.{IsFrame}
use Rattle.gob_salvage.specs.Keeping.{GoesOn, HasKept, IsKeeping, SalvagesFrom, Start}
use Rattle.gob_salvage.specs.Salvage.{IsDefinedAgain, Salvages, behind_its_count, for_bytes, leaves_out, of_repeated}
use Rattle.gob_salvage.proofs.KeepingSteps.{breaks_so, front_frame, stands_so, told_too}
use Rattle.gob_salvage.proofs.SalvageLaws.{item_moved}

-- it is refused at its type number
pub refused_again : {L : Bounds} {T : Table} {bytes : List ℕ} {begin head body end : ℕ} {number : ℤ} {id : TypeId}
    (n : ℕ) → IsNumbered L.item bytes begin head body end number → body ≤ end → number ≡ negsuc n → id.0 ≡ n + 1
    → IsOwnId id → IsDefined T id → RefusesAgain L T bytes begin head end id
refused_again {L = L} {T = T} {bytes = bytes} {begin = begin} {head = head} {body = body} {end = end} {id = id} n f
    less is id_is own defined offset room =
    let counts = f.counts in let order = counts.order in let inside = counts.inside in let ends = f.ends in
    let next = f.order in
    let rest = drop head bytes in let y = take f.count rest in
    let c = take (head - begin) (drop begin bytes) in
    let a = take (body - head) rest in let z = drop (body - head) y in
    let whole : drop begin bytes ≡ c ++ rest = sym (take-append-drop (head - begin) (drop begin bytes))
    ∙ ap (λ (l : List ℕ). c ++ l) (drop-drop (head - begin) begin bytes ∙ ap (λ n. drop n bytes) (omega arith)) in
    let size : length c ≡ head - begin =
    length-take-le (head - begin) (drop begin bytes) (omega (arith, length-drop begin bytes)) in
    let there : y ≡ a ++ z = sym (take-append-drop (body - head) y)
    ∙ ap (λ (l : List ℕ). l ++ z) (take-take (body - head) f.count rest (omega arith)) in
    let signed : IsSigned (negsuc n) a = subst (λ i. IsSigned i a) is f.spelled in
    let twice : RefusesId base_table L T id (reason.DefinedTwice id) =
    defined_twice own (λ e. let d = defined.1 in cc) in (
      offset + length c + length a,
      subst (λ k. RefusesFilled base_table L T offset (drop begin bytes)
          (refuses (offset + k) (offset + length c + length a) (reason.DefinedTwice id))) size
          (refused_body rest whole counts.spelled f.few (omega (arith, size)) (refused_id z there id_is signed twice)
          (nothing_identified z there id_is signed twice)),
    )

-- what is kept stays, and the definition is left out
again_on : {s : SessionState} {S : Start} {at session_read head next count : ℕ} {out defs : List ℕ} {gaps : List Gap}
    {id : TypeId} {search : Search} (bytes : List ℕ) (g : Gap)
    → HasKept S s bytes at session_read count out defs gaps true search
    → RefusesAgain S.limits (types_of s) bytes at head next id → at < next → next ≤ length bytes → at ≤ head
    → head ≤ next → IsFrame bytes at next → g.begin ≡ at → g.end ≡ next → g.reason ≡ reason.DefinedTwice id
    → g.place ≡ head → g.is_repeated ≡ true → IsDefinedAgain bytes at next out
    → HasKept S s bytes next session_read count out defs (gaps ++ g ∷ []) true search
again_on {s = s} {S = S} {at = at} {head = head} {next = next} {out = out} {gaps = gaps} {id = id} bytes g h refused
    some within behind before frame begins ends why place told kept =
    let L = S.limits in
    let d = take (next - at) (drop at bytes) in
    let n = h.few in let w = h.within in let o = h.few_out in let q = h.few_read in let small = h.small in
    let fits = h.fits in
    let size : length d ≡ next - at = length-take-le (next - at) (drop at bytes) (omega (arith, length-drop at bytes))
    in
    let all : d ++ drop next bytes ≡ drop at bytes =
    ap (λ (l : List ℕ). d ++ l) (sym (drop-drop (next - at) at bytes ∙ ap (λ n. drop n bytes) (omega arith)))
    ∙ take-append-drop (next - at) (drop at bytes) in
    let r = refused (length h.read) (omega arith) in
    let R = refuses (length h.read + (head - at)) r.0 (reason.DefinedTwice id) in
    let refuses_it = subst (λ (z : List ℕ). RefusesFilled base_table L (types_of s) (length h.read) z R) (sym all) r.1
    in
    record {
      items = h.items;
      own = h.own;
      read = h.read;
      has = h.has;
      between = h.between;
      limits = h.limits;
      read_is = h.read_is;
      few_read = h.few_read;
      defining = h.defining;
      defines = h.defines;
      few_defs = h.few_defs;
      few_out = omega arith;
      small = h.small;
      fits = h.fits;
      counted = h.counted;
      few = omega arith;
      within = within;
      repeated = told_too bytes out gaps h.repeated (λ _. record {
        id = id;
        twice = why;
        again = subst (λ n. IsDefinedAgain bytes n g.end out) (sym begins)
            (subst (λ n. IsDefinedAgain bytes at n out) (sym ends) kept);
      });
      search_limits = h.search_limits;
      noted = h.noted;
      on = λ T more rest others k.
          subst (λ (g : List Gap). SalvagesFrom S bytes (h.items ++ more) (out ++ rest) g T)
          (sym (append_assoc gaps (g ∷ []) others))
          (h.on T more rest (g ∷ others)
          (subst (λ (z : List ℕ). Salvages L (types_of s) h.items true (length out) at z more rest (g ∷ others) T) all
          (leaves_out d (omega arith)
          (λ i U b y p e. no_item y (item_moved (length h.read) p (let e = item_ends p in omega arith))
          (subst (λ (z : List ℕ). RefusesFilled base_table L (types_of s) (length h.read) z R) e refuses_it))
          (record {
            behind = length h.read;
            few = h.few_read;
            refusal = R;
            refuses = for_bytes refuses_it;
            reason_is = why;
            place_is = place ∙ (let at_is : head ≡ counts_up at ((length h.read + (head - at)) - length h.read) =
                omega arith in at_is) ∙ ap (λ n. counts_up n (R.place - length h.read)) (sym begins);
          })
          (behind_its_count refl (front_frame frame some within) (of_repeated told))
          begins ends (omega arith) k)));
    }

pub passes_again : {S : Start} {k k' : Keeper} {again : Again} (bytes : List ℕ) (g : Gap) → IsKeeping S k bytes
    → RepeatsNext k bytes again → k'.kept.gaps.items ≡ k.kept.gaps.items ++ g ∷ [] → g.begin ≡ k.at
    → g.end ≡ again.end → g.reason ≡ reason.DefinedTwice again.id → g.place ≡ again.place → g.is_repeated ≡ true
    → k'.session ≡ k.session → k'.at ≡ again.end → k'.read ≡ k.read → k'.kept.items ≡ k.kept.items
    → k'.kept.bytes ≡ k.kept.bytes → k'.defining ≡ k.defining → k'.in_step ≡ k.in_step → k'.search ≡ k.search
    → k'.later ≡ k.later → GoesOn S k k' bytes
passes_again {S = S} {k = k} {k' = k'} {again = again} bytes g h r gaps begins ends why place told session at read items
    out defining step search later =
    let more = r.further in let within = r.within in
    let stepping = subst (λ b. HasKept S k.session bytes k.at k.read k.kept.items k.kept.bytes.items k.defining.items
    k.kept.gaps.items b k.search) r.in_step h in
    let refused = subst (λ (M : Bounds). RefusesAgain M (types_of k.session) bytes k.at again.place again.end again.id)
    h.limits r.refused in
    record {
      keeping = subst (λ (o : List ℕ). HasKept S k'.session bytes k'.at k'.read k'.kept.items o k'.defining.items
          k'.kept.gaps.items k'.in_step k'.search) (sym (ap (λ v. v.items) out))
          (stands_so (again_on bytes g stepping refused more within r.behind r.before r.frame begins ends why place
          told r.kept) session at read items (ap (λ v. v.items) defining) gaps (step ∙ r.in_step) search);
      further = omega arith;
      later = breaks_so S k k' bytes (omega arith) later;
    }

-- ---- where one stands
pub again_next : (k : Keeper) {bytes : List ℕ} {frame : Frame} (again : Option Again) → IfSome again (IsAgain k frame)
    → k.in_step ≡ true → frame.body ≤ frame.end → k.at < frame.end → frame.end ≤ length bytes
    → IsNumbered (within_trees (limits_of k.session)).item bytes k.at frame.head frame.body frame.end frame.number
    → IsFrame bytes k.at frame.end → IsDefinedAgain bytes k.at frame.end k.kept.bytes.items
    → IfSome again (RepeatsNext k bytes)
again_next k None is step less further within numbered frame kept = tt
again_next k {bytes = bytes} {frame = f} (Some a) is step less further within numbered frame kept =
    let place = is.place in let end = is.end in let order = numbered.counts.order in let next = numbered.order in
    record {
      in_step = step;
      further = omega arith;
      within = omega arith;
      frame = subst (λ n. IsFrame bytes k.at n) (sym end) frame;
      behind = omega arith;
      before = omega arith;
      refused = subst (λ n. RefusesAgain (within_trees (limits_of k.session)) (types_of k.session) bytes k.at n a.end
          a.id) (sym place)
          (subst (λ n. RefusesAgain (within_trees (limits_of k.session)) (types_of k.session) bytes k.at f.head n a.id)
          (sym end) (refused_again is.below numbered less is.numbered is.id is.own is.defined));
      kept = subst (λ n. IsDefinedAgain bytes k.at n k.kept.bytes.items) (sym end) kept;
    }
