-- What is received of a value, with what its interfaces hold.
use Rattle.std.proofs.Common.{◌≡◌, ◌∙◌, ◌==◌, ℕ, Bool, true, List, [], ◌∷◌, ◌++◌, arith, length, refl, subst, sym}
use Rattle.std.proofs.lemmas.Bool.Decides.{nat_tests}
use Rattle.std.proofs.lemmas.List.{nil_from_length}
use Rattle.gob_types.specs.declared.id.TypeId.{TypeId}
use Rattle.gob_types.specs.Table.{Table}
use Rattle.gob_value.specs.Top.{SpellsTop}
use Rattle.gob_value.proofs.PublicLaws.{same_top}
use Rattle.gob_match.specs.Received.{Receives}
use Rattle.gob_filled.specs.Filled.{Fillings, no_filling, filling}
use Rattle.gob_filled.specs.Filled as spelled
use Rattle.gob_go.specs.Meaning.{AreFillings, no_fillings, filling_then, IsFilled, is_filled}
use Rattle.gob_go.specs.declared.filled.Filled.{Filled, out-Filled}
use Rattle.gob_go.specs.declared.filled.Filling.{Filling}
use Rattle.gob_filled_match.specs.Calls.{MakesReceived}
use Rattle.gob_filled_match.specs.Numbered.{numbered}
use Rattle.gob_filled_match.specs.Received.{Anywhere, IsInNumbers, as_it_stands, holds_nothing, in_numbers}
use Rattle.gob_filled_match.specs.Received as receiving
use Rattle.gob_filled_match.specs.Machine.Bytes.{ReceivesBytes}
use Rattle.gob_filled_match.specs.Machine.Moving.{AreMoved, no_nil, nil_then, MovesFillings}
use Rattle.gob_filled_match.specs.Machine.Taking.{HasNumbers, none_left, number_next, TakesNumbers}
use Rattle.gob_filled_match.specs.declared.taking.FilledNil.{FilledNil}
use Rattle.gob_filled_match.specs.declared.taking.Skeleton.{Skeleton}

no_filling_of : {T : Table} {kept : List Filling} {fs : Fillings} → kept ≡ [] → AreFillings T kept fs
    → fs ≡ no_filling
no_filling_of e no_fillings = refl
no_filling_of e (filling_then m more) = absurd (cc e)

-- there are none where a test says so
none_by_test : (n : ℕ) (b : Bool) → b ≡ (n == 0) → b ≡ true → n ≡ 0
none_by_test n b e f = grind (arith, nat_tests)

pub none_held : (kept : List Filling) (n : ℕ) (b : Bool) → n ≡ length kept → b ≡ (n == 0) → b ≡ true → kept ≡ []
none_held kept n b count e f = nil_from_length kept (sym count ∙ none_by_test n b e f)

-- of a value that holds nothing
pub nothing_held : {T U : Table} {t u : TypeId} {kept made : Filled} {v : spelled.Filled} {received : List ℕ}
    → (out-Filled kept).fillings.items ≡ [] → ReceivesBytes T U t u (out-Filled kept).skeleton.items received
    → (out-Filled made).skeleton.items ≡ received → (out-Filled made).fillings.items ≡ [] → IsFilled T t kept v
    → MakesReceived T U t u made v
nothing_held {T = T} {U = U} {t = t} {u = u} {kept = kept} {made = made} none r e empty (is_filled {v = v} {fs = fs} top
    fl) =
    record {
      skeleton = r.made;
      fillings = no_filling;
      made_spelled = subst (SpellsTop U u r.made) (sym e) r.made_spelled;
      mean = subst (λ l. AreFillings T l no_filling) (sym empty) no_fillings;
      receives = subst (λ fs. receiving.ReceivesFilled T U t u (spelled.filled v fs) (spelled.filled r.made no_filling))
          (sym (no_filling_of none fl))
          (holds_nothing (subst (λ x. Receives T U t u x r.made) (same_top [] [] r.spelled top refl).value r.receives));
    }

-- numbers taken out are those of what was moved
in_numbers_of : {Before : List ℕ → Type 0} {all gs : Fillings} {done left ms : List ℕ} {nils : List FilledNil}
    → HasNumbers Before done left nils ms → AreMoved all nils gs → IsInNumbers Before all done left gs ms
in_numbers_of none_left no_nil = as_it_stands
in_numbers_of {Before = Before} {all = all} {done = done} (number_next {left = left} {a = a} {ms = ms} c before place u
    h) (nil_then {s = s} {ds = ds} {u = t} {w = w} {fs = fs} n more) =
    subst (λ p. IsInNumbers Before all done (c ++ 0 ∷ left) (filling p s ds t w fs) (c ++ (a ++ ms))) (sym place)
    (receiving.number_next c before n u (in_numbers_of h more))

-- of any value
pub held_received : {T U : Table} {t u : TypeId} {kept made : Filled} {v : spelled.Filled} {m n : List ℕ} {s : Skeleton}
    {moved : List Filling} → ((fs : Fillings) → AreFillings T (out-Filled kept).fillings.items fs
    → IsInNumbers Anywhere fs [] (out-Filled kept).skeleton.items fs m)
    → ReceivesBytes (numbered T) (numbered U) t u m n → TakesNumbers U u s n
    → ((all : Fillings) → AreFillings T (out-Filled kept).fillings.items all
    → MovesFillings T all s.nils.items moved)
    → (out-Filled made).skeleton.items ≡ s.bytes.items → (out-Filled made).fillings.items ≡ moved → IsFilled T t kept v
    → MakesReceived T U t u made v
held_received {T = T} {U = U} {u = u} numbers r taken moves e f (is_filled {fs = fs} top fl) =
    let there = moves fs fl in record {
      skeleton = taken.value;
      fillings = there.fillings;
      made_spelled = subst (SpellsTop U u taken.value) (sym e) taken.spelled;
      mean = subst (λ l. AreFillings T l there.fillings) (sym f) there.mean;
      receives = in_numbers top (numbers fs fl) r.spelled r.receives r.made_spelled
          (in_numbers_of taken.numbers there.are) taken.spelled;
    }
