-- Each filled value shows a tree, and each of its nils some JSON.
use Rattle.std.proofs.Common.{◌≡◌, ◌∙◌, ℕ, zero, suc, ◌+◌, ◌<◌, ◌≤◌, List, [], ◌∷◌, ◌++◌, length, take, arith, refl}
use Rattle.std.proofs.Common.{sym, ap, subst, append_assoc, length-append}
use Rattle.std.proofs.Math.Seq.{take-append_seam}
use Rattle.serde_json.specs.Data.{Data, null}
use Rattle.gob_types.specs.declared.id.TypeId.{TypeId}
use Rattle.gob_types.specs.Base.{base_table}
use Rattle.gob_types.specs.Table.{Table}
use Rattle.gob_types.proofs.PublicLaws.{Keeps}
use Rattle.gob_value.proofs.PublicLaws.{top_on}
use Rattle.gob_value.specs.Spelling.{Spells}
use Rattle.gob_value.specs.Top.{SpellsTop, at_once, tagged}
use Rattle.gob_value.specs.Tree.{Tree}
use Rattle.gob_read.specs.Held.{PartialBody}
use Rattle.gob_read.proofs.Grammar.Stay.{expects_top_on}
use Rattle.gob_json.specs.Json.{put_json}
use Rattle.gob_json_writer.specs.NilsJson.{value_json_with, put_json_with, interface_json}
use Rattle.gob_stream.specs.Bounds.{Bounds}
use Rattle.gob_filled.specs.Filled.{Definitions, Filled, filled, Fillings, no_filling, AreDefined, none_defined}
use Rattle.gob_filled.specs.Filled.{one_defined}
use Rattle.gob_filled.specs.Filled.{SpellsFilled, with_fillings, Fills, as_it_stands, next_filled}
use Rattle.gob_filled.specs.Stream.{FilledItem, putting, of_value, AreFilledItems, and_then}
use Rattle.gob_filled.proofs.Refused.{in_turn, definition_keeps}
use Rattle.gob_filled.proofs.Strict.{filled_keeps}
use Rattle.gob_go.proofs.ItemsLaws.{grown_keeps, items_grown}
use Rattle.gob_json_writer.specs.FilledJson.{FilledShows, filled_shows, FillingsShow, none_left, then_shown}
use Rattle.gob_json_writer.specs.Laws.{IsShown}
use Rattle.gob_json_writer.proofs.NilsLaws.{put_nulls}
use Rattle.gob_json_writer.proofs.OnceLaws.{same_nils}
use Rattle.gob_json_writer.proofs.PartOrder.{BeginsTop, partial_body, nil_begins_top, top_order}

-- ---- the table grows
definitions_keep : {base : Table} {L : Bounds} {T U : Table} {ds : Definitions} {b : List ℕ}
    → AreDefined base L T ds b U → Keeps T U
definitions_keep none_defined = record { shape = λ t s e. e }
definitions_keep (one_defined o d ds) = in_turn (definition_keeps d) (definitions_keep ds)

fills_keep : {base : Table} {L : Bounds} {T U V : Table} {t : TypeId} {limit : ℕ} {done left ls : List ℕ}
    {fs : Fillings} → Fills base L T t limit U done left fs ls V → Keeps U V
fills_keep (as_it_stands o) = record { shape = λ t s e. e }
fills_keep (next_filled c oc ex l o u ds may i vs g fl) =
    in_turn (definitions_keep ds) (in_turn (filled_keeps vs) (fills_keep fl))

-- ---- what the nils show
-- null up to the part of the number, there the JSON, and behind it what the others show
abbrev shown_at : ℕ → Data → (ℕ → Data) → ℕ → Data
shown_at zero json N zero = json
shown_at zero json N (suc m) = N (suc m)
shown_at (suc n) json N zero = null
shown_at (suc n) json N (suc m) = shown_at n json (λ k. N (suc k)) m

at_number : (n : ℕ) (json : Data) (N : ℕ → Data) → shown_at n json N n ≡ json
at_number zero json N = refl
at_number (suc n) json N = at_number n json (λ k. N (suc k))

before_number : (n : ℕ) (json : Data) (N : ℕ → Data) (m : ℕ) → m < n → shown_at n json N m ≡ null
before_number zero json N m l = absurd (omega (arith, l))
before_number (suc n) json N zero l = refl
before_number (suc n) json N (suc m) l = before_number n json (λ k. N (suc k)) m (omega (arith, l))

behind_number : (n : ℕ) (json : Data) (N : ℕ → Data) (m : ℕ) → n < m → shown_at n json N m ≡ N m
behind_number zero json N zero l = absurd (omega (arith, l))
behind_number zero json N (suc m) l = refl
behind_number (suc n) json N zero l = absurd (omega (arith, l))
behind_number (suc n) json N (suc m) l = behind_number n json (λ k. N (suc k)) m (omega (arith, l))

-- only the nils from the number on are looked at
shown_from : {T : Table} {t : TypeId} {b : List ℕ} {from number : ℕ} {fs : Fillings} {M N : ℕ → Data}
    → ((m : ℕ) → number ≤ m → N m ≡ M m) → FillingsShow T t b from number fs M → FillingsShow T t b from number fs N
shown_from same (none_left f) = none_left (λ m l. same m l ∙ f m l)
shown_from same (then_shown {n = n} a c p l nulls shows is more) =
    then_shown a c p l (λ m k j. same m k ∙ nulls m k j) shows (same n l ∙ is)
    (shown_from (λ m k. same m (omega (arith, k, l))) more)

-- ---- a filled value
-- the bytes so far are none, or end with a nil, behind which so many parts have begun
data IsBehind (T : Table) (t : TypeId) : List ℕ → (from number : ℕ) → Type 0 where
  at_start : IsBehind T t [] 0 0
  behind_nil : {q : List ℕ} {m w : ℕ} → BeginsTop T t q m w → IsBehind T t (q ++ 0 ∷ []) (length q) (m + 1)

from_within : {T : Table} {t : TypeId} {done : List ℕ} {from number : ℕ} (c : List ℕ)
    → IsBehind T t done from number → from ≤ length (done ++ c)
from_within c at_start = omega arith
from_within c (behind_nil {q = q} p) = omega (arith, length-append (q ++ 0 ∷ []) c, length-append q (0 ∷ []))

number_before : {T : Table} {t : TypeId} {done : List ℕ} {from number m w : ℕ} (c : List ℕ)
    → IsBehind T t done from number → BeginsTop T t (done ++ c) m w → number ≤ m
number_before c at_start b = omega arith
number_before c (behind_nil {q = q} p) b =
    let more = top_order (0 ∷ c) p b (sym (append_assoc q (0 ∷ []) c)) (omega arith) in omega (arith, more)

record FillingsShown (T : Table) (t : TypeId) (b : List ℕ) (from number : ℕ) (fs : Fillings) : Type 0 where
  pub nils : ℕ → Data
  pub shows : FillingsShow T t b from number fs nils

mutual
  pub filled_shown : {base : Table} {L : Bounds} {T U V : Table} {t : TypeId} {limit : ℕ} {w : Filled} {ls : List ℕ}
      → SpellsFilled base L T t limit w ls U → Keeps U V → IsShown V t w
  filled_shown (with_fillings {v = v} {b = b} s d f) k =
      let on = in_turn (fills_keep f) k in
      let shown = fillings_shown b on k at_start refl f in
      record { value = v; nils = shown.nils; shows = filled_shows (top_on on s) shown.shows }

  fillings_shown : {base : Table} {L : Bounds} {T U V W : Table} {t : TypeId} {limit from number : ℕ}
      {done left ls : List ℕ} {fs : Fillings} (b : List ℕ) → Keeps T W → Keeps V W → IsBehind W t done from number
      → b ≡ done ++ left → Fills base L T t limit U done left fs ls V → FillingsShown W t b from number fs
  fillings_shown b on k behind e (as_it_stands o) = record { nils = λ n. null; shows = none_left (λ n l. refl) }
  fillings_shown {W = W} {t = t} {from = from} {number = number} {done = done} b on k behind e
      (next_filled {u = u} {left = left} {s = s} {v = w} {fs = fs} c oc ex l o x ds may i vs g fl) =
      let begins = nil_begins_top (expects_top_on on ex) refl in
      let inner = filled_shown vs (in_turn (fills_keep fl) k) in
      let json = interface_json s u (value_json_with inner.nils W u 0 inner.value) in
      let n = begins.parts in
      let q = done ++ c in
      let whole : b ≡ q ++ 0 ∷ left = e ∙ sym (append_assoc done c (0 ∷ left)) in
      let done_then : done ++ (c ++ 0 ∷ []) ≡ q ++ 0 ∷ [] = sym (append_assoc done c (0 ∷ [])) in
      let rest = fillings_shown b on k
      (subst (λ d. IsBehind W t d (length q) (n + 1)) (sym done_then) (behind_nil begins.holds))
      (whole ∙ sym (append_assoc q (0 ∷ []) left) ∙ ap (λ d. d ++ left) (sym done_then)) fl in
      let place : take (length q) b ≡ q = ap (take (length q)) whole ∙ take-append_seam q (0 ∷ left) in
      record {
        nils = shown_at n json rest.nils;
        shows = then_shown (from_within c behind)
            (omega (arith, ap length whole, length-append q (0 ∷ left)))
            (subst (λ p. PartialBody W t p n begins.raws) (sym place) (partial_body begins.holds))
            (number_before c behind begins.holds) (λ m h j. before_number n json rest.nils m j) inner.shows
            (at_number n json rest.nils)
            (shown_from (λ m h. behind_number n json rest.nils m (omega (arith, h))) rest.shows);
      }

-- ---- a value of a stream
pub stream_shown : {L : Bounds} {T U : Table} {offset : ℕ} {t : TypeId} {w : Filled} {bytes : List ℕ}
    (before behind : List FilledItem)
    → AreFilledItems base_table L T offset (before ++ putting t w ∷ behind) bytes U → IsShown U t w
stream_shown [] behind (and_then (of_value may sg p c) n is) = filled_shown p (grown_keeps (items_grown is))
stream_shown (i ∷ before) behind (and_then j n is) = stream_shown before behind is

-- ---- a value of which no nil is filled
pub shows_as_ever : {T : Table} {t : TypeId} {v other : Tree} {N : ℕ → Data}
    → FilledShows T t (filled v no_filling) other N
    → (other ≡ v) × (put_json_with N T t other ≡ put_json T t v)
shows_as_ever {T = T} {t = t} {v = v} (filled_shows s (none_left f)) = (
  refl,
  ap (λ N. put_json_with N T t v) (same_nils (λ n. f n (omega arith))) ∙ put_nulls T t v,
)

pub spelled_unfilled : {T : Table} {t : TypeId} {v other : Tree} {N : ℕ → Data}
    → FilledShows T t (filled v no_filling) other N → (b : List ℕ) × Spells T t v b
spelled_unfilled (filled_shows s f) = untagged s
  where
    untagged : {T : Table} {t : TypeId} {v : Tree} {b : List ℕ} → SpellsTop T t v b → (c : List ℕ) × Spells T t v c
    untagged (at_once {b = b} e i p) = (b, p)
    untagged (tagged {b = b} e n p) = (b, p)
