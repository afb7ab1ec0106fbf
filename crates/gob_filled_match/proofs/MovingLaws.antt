-- Fillings moved, nil by nil.
use Rattle.std.proofs.Common.{◌≡◌, ◌∙◌, ℕ, zero, suc, List, [], ◌∷◌, ◌++◌, Option, Some, sym, ap, subst}
use Rattle.std.proofs.Common.{◌+◌, append_assoc, append-nil, arith, length, slice_get, map}
use Rattle.std.proofs.lemmas.Option.{none-some}
use Rattle.gob_types.specs.Table.{Table}
use Rattle.gob_types.proofs.PublicLaws.{some_injective}
use Rattle.gob_types.specs.declared.id.TypeId.{TypeId}
use Rattle.gob_filled.specs.Filled.{Definitions, Filled, Fillings, no_filling, filling}
use Rattle.gob_go.specs.Meaning.{AreFillings, no_fillings, filling_then, IsFilled, definitions_of}
use Rattle.gob_go.specs.declared.filled.Filling.{Filling, out-Filling}
use Rattle.gob_filled_match.specs.Received.{HasNumber, the_first, a_later_one}
use Rattle.gob_filled_match.specs.Machine.Moving.{AreMoved, no_nil, nil_then, IsPlaced, MovesFillings}
use Rattle.gob_filled_match.specs.declared.taking.FilledNil.{FilledNil}

-- what is kept at a place stands for the filling of the next number
pub record StandsAt (T : Table) (all : Fillings) (k : ℕ) (f : Filling) : Type 0 where
  pub value : Filled
  pub numbered : HasNumber all (suc k) (out-Filling f).name.items
      (definitions_of (out-Filling f).definitions.items) (out-Filling f).id value
  pub means : IsFilled T (out-Filling f).id (out-Filling f).value value

pub stands_at : {T : Table} {kept : List Filling} {all : Fillings} {f : Filling} (k : ℕ) → AreFillings T kept all
    → slice_get kept k ≡ Some f → StandsAt T all k f
stands_at k no_fillings e = absurd (none-some _ e)
stands_at {T = T} {all = all} zero (filling_then m more) e =
    subst (StandsAt T all 0) (some_injective e) (record { value = _; numbered = the_first; means = m })
stands_at (suc k) (filling_then m more) e =
    let s = stands_at k more e in
    record { value = s.value; numbered = a_later_one s.numbered; means = s.means }

pub waiting_back : {f : Filling} (fs : List Filling) (k : ℕ)
    → slice_get (map (λ (x : Filling). Some x) fs) k ≡ Some (Some f) → slice_get fs k ≡ Some f
waiting_back [] k e = absurd (none-some _ e)
waiting_back (g ∷ fs) zero e = some_injective e
waiting_back (g ∷ fs) (suc k) e = waiting_back fs k e

-- with what is moved to the nils that are left, all are
pub record MovesSo (T : Table) (all : Fillings) (nils left : List FilledNil) (moved : List Filling) : Type 0 where
  pub completes : (fs : Fillings) (others : List Filling) → AreMoved all left fs → AreFillings T others fs
      → MovesFillings T all nils (moved ++ others)

-- a filling at the place of a nil that has its number
filled_nil : {all fs : Fillings} {nil : FilledNil} {nils : List FilledNil} {p : ℕ} {s : List ℕ} {ds : Definitions}
    {u : TypeId} {w : Filled} → p ≡ nil.place → HasNumber all nil.number s ds u w → AreMoved all nils fs
    → AreMoved all (nil ∷ nils) (filling p s ds u w fs)
filled_nil {all = all} {fs = fs} {nil = nil} {nils = nils} {s = s} {ds = ds} {u = u} {w = w} e h more =
    subst (λ x. AreMoved all (nil ∷ nils) (filling x s ds u w fs)) (sym e) (nil_then h more)

pub one_moved : {T : Table} {all : Fillings} {nils rest left : List FilledNil} {moved moved' : List Filling}
    {nil : FilledNil} {f g : Filling} {k : ℕ} → MovesSo T all nils rest moved → rest ≡ nil ∷ left
    → nil.number ≡ suc k → StandsAt T all k f → IsPlaced f nil.place g → moved' ≡ moved ++ g ∷ []
    → MovesSo T all nils left moved'
one_moved {T = T} {all = all} {nils = nils} {moved = moved} {g = g} s r e at p n =
    let with_it : Fillings → Fillings =
    λ fs. filling (out-Filling g).place (out-Filling g).name.items
    (definitions_of (out-Filling g).definitions.items) (out-Filling g).id at.value fs in
    record {
      completes = λ fs others are mean.
          subst (MovesFillings T all nils)
          (sym (ap (λ (l : List Filling). l ++ others) n ∙ append_assoc moved (g ∷ []) others))
          (s.completes (with_it fs) (g ∷ others)
          (subst (λ l. AreMoved all l (with_it fs)) (sym r)
          (filled_nil p.place_is (rw (p.name, p.definitions, p.id, e) at.numbered) are))
          (filling_then (rw (p.id, p.value) at.means) mean));
    }

pub all_moved : {T : Table} {all : Fillings} {nils left : List FilledNil} {moved : List Filling}
    → MovesSo T all nils left moved → left ≡ [] → MovesFillings T all nils moved
all_moved {T = T} {all = all} {nils = nils} {moved = moved} s e =
    subst (MovesFillings T all nils) (append-nil moved)
    (s.completes no_filling [] (subst (λ l. AreMoved all l no_filling) (sym e) no_nil) no_fillings)

-- ---- what an iterator has left
pub waits_more : {whole more : List (Option Filling)} (waiting : List (Option Filling)) {left others : List Filling}
    {f : Filling} → waiting ++ map (λ (x : Filling). Some x) left ≡ whole → left ≡ f ∷ others
    → more ≡ waiting ++ Some f ∷ [] → more ++ map (λ (x : Filling). Some x) others ≡ whole
waits_more waiting {others = others} {f = f} e s n =
    ap (λ (l : List (Option Filling)). l ++ map (λ (x : Filling). Some x) others) n
    ∙ append_assoc waiting (Some f ∷ []) (map (λ (x : Filling). Some x) others)
    ∙ ap (λ (l : List Filling). waiting ++ map (λ (x : Filling). Some x) l) (sym s) ∙ e

pub one_gone : {A : Type 0} {x : A} {xs ys : List A} {n m : ℕ} → n ≡ length xs → xs ≡ x ∷ ys → m + 1 ≡ n
    → m ≡ length ys
one_gone was is gone = let short = ap length is in omega arith
