use Rattle.std.proofs.Common.{Bool, List, None, cond, false, subst}
use Rattle.gob_plain.specs.Filled.{SaysListed, filled, pairs_of}
use Rattle.gob_plain.specs.OpaqueText.{content_in, content_of, said_or, taken_as}
use Rattle.gob_plain.specs.Plain.{Says, all_null}
use Rattle.gob_plain.specs.declared.style.Taken.{Taken}
use Rattle.gob_made_back.proofs.ValueLaws.{plain_goes}
use Rattle.gob_made_back.proofs.laws.made_values_are_alike.Goals as goal

pub returns : goal.returns
returns c = λ style lenient T t j v k plain known reads says.
    let whole = subst (λ (b : Bool). SaysListed (cond b (pairs_of v) None) all_null style T t v k)
    plain.no_pairs says in
    let bare = subst (λ (b : Bool). Says (content_in style) T t (cond b (filled T t v) v) k) plain.no_zeros whole in
    let guess = subst (λ (b : Bool). Says (λ u s. said_or (taken_as style.taken.now u) (content_of b s)) T t v k)
    plain.guessed bare in
    let none = subst (λ (l : List Taken). Says (λ u s. said_or (taken_as l u) (content_of false s)) T t v k)
    plain.none_taken guess in
    plain_goes known reads k none
