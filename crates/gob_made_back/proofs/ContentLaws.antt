-- Bytes of a content are shown as one JSON.
use Rattle.std.proofs.Common.{◌≡◌, ◌∙◌, ◌++◌, ℕ, ℤ, pos, List, [], ◌∷◌, Bool, true, false, Option}
use Rattle.std.proofs.Common.{Some, None, ap, arith, refl, sym, subst, true≢false, inl, inr, codes}
use Rattle.std.specs.Prelude.{if◌then◌else◌, neg_ℤ}
use Rattle.std.proofs.Props.{props}
use Rattle.std.proofs.lemmas.Bool.{cases_lt}
use Rattle.std.proofs.lemmas.Int.{by_lt_z, ints}
use mathlib.Core.HLevel.{is_prop→PathP}
use Rattle.jiff.proofs.Family.{same_datetime}
use Rattle.jiff_core.specs.Calendar.{IsBetween}
use Rattle.jiff_core.specs.Timestamp.{IsOffsetSeconds}
use Rattle.jiff_core.specs.declared.civil.datetime.DateTime.{DateTime}
use Rattle.jiff_core.specs.declared.offset.Offset.{Offset}
use Rattle.json.specs.Json.{Json}
use Rattle.json.specs.Json as json
use Rattle.gob_plain.specs.BigInt.{IsIntText, SaysInt, has_int_layout, is_negative, magnitude}
use Rattle.gob_plain.specs.FloatText.{SaysBigFloat, has_float_layout}
use Rattle.gob_plain.specs.OpaqueText.{SaysBytes, SaysContent}
use Rattle.gob_plain.specs.RatText.{IsOver, IsRatText, SaysRat, has_rat_layout}
use Rattle.gob_plain.specs.TimeText.{IsShownTime, IsZone, SaysTimeOr, ShowsTime, clock_nanos, has_time_layout}
use Rattle.gob_plain.specs.TimeText.{moment_text, time_ahead, time_nanos, time_seconds}
use Rattle.gob_plain.specs.declared.opaque.Content.{Content}
use Rattle.gob_plain.specs.declared.opaque.Content.TheVariants as content
use Rattle.gob_make.specs.Leaf.{ReadsContent, as_shown, with_zeros}
use Rattle.gob_made_back.specs.Alike.{IsSameOpaque}
use Rattle.gob_made_back.specs.Alike as alike
use Rattle.gob_made_back.proofs.DigitLaws.{decimal_once}
use Rattle.gob_made_back.proofs.FloatLaws.{float_text_once}

-- ---- numbers of math/big

int_text_once : (negative : Bool) (n : ℕ) (s t : List ℕ) → IsIntText negative n s → IsIntText negative n t → s ≡ t
int_text_once negative n s t p q =
    p.signed ∙ ap (λ (ds : List ℕ). (if negative then codes "-" else []) ++ ds)
    (decimal_once p.digits q.digits p.decimal q.decimal) ∙ sym q.signed

int_once : (b : List ℕ) (j k : Json) → SaysInt b j → SaysInt b k → j ≡ k
int_once b j k s t = by (has_int_layout b) refl
  where
    by : (l : Bool) → has_int_layout b ≡ l → j ≡ k
    by true e =
        let x = s.shown e in
        let y = t.shown e in
        x.1 ∙ ap json.number (int_text_once (is_negative b) (magnitude b) x.0 y.0 x.2 y.2) ∙ sym y.1
    by false e =
        s.other (λ h. true≢false (sym h ∙ e)) ∙ sym (t.other (λ h. true≢false (sym h ∙ e)))

over_once : (one : Bool) (n : ℕ) (s t : List ℕ) → IsOver one n s → IsOver one n t → s ≡ t
over_once true n s t p q = p ∙ sym q
over_once false n s t p q =
    p.2 ∙ ap (λ (ds : List ℕ). 47 ∷ ds) (decimal_once p.0 q.0 p.1 q.1) ∙ sym q.2

rat_text_once : (b s t : List ℕ) → IsRatText b s → IsRatText b t → s ≡ t
rat_text_once b s t p q =
    p.is ∙ ap (λ (n : List ℕ). n ++ p.over) (int_text_once _ _ p.number q.number p.shows_number q.shows_number)
    ∙ ap (λ (o : List ℕ). q.number ++ o) (over_once _ _ p.over q.over p.shows_over q.shows_over) ∙ sym q.is

rat_once : (b : List ℕ) (j k : Json) → SaysRat b j → SaysRat b k → j ≡ k
rat_once b j k s t = by (has_rat_layout b) refl
  where
    by : (l : Bool) → has_rat_layout b ≡ l → j ≡ k
    by true e =
        let x = s.shown e in
        let y = t.shown e in
        x.1 ∙ ap json.string (rat_text_once b x.0 y.0 x.2 y.2) ∙ sym y.1
    by false e =
        s.other (λ h. true≢false (sym h ∙ e)) ∙ sym (t.other (λ h. true≢false (sym h ∙ e)))

float_once : (b : List ℕ) (j k : Json) → SaysBigFloat b j → SaysBigFloat b k → j ≡ k
float_once b j k s t = by (has_float_layout b) refl
  where
    by : (l : Bool) → has_float_layout b ≡ l → j ≡ k
    by true e =
        let x = s.shown e in
        let y = t.shown e in
        x.1 ∙ ap json.string (float_text_once x.2 y.2) ∙ sym y.1
    by false e =
        s.other (λ h. true≢false (sym h ∙ e)) ∙ sym (t.other (λ h. true≢false (sym h ∙ e)))

-- ---- times

same_offset : (a b : Offset) → a.seconds ≡ b.seconds → a ≡ b
same_offset a b e = λ i. record {
  seconds = e i;
  in_range = is_prop→PathP (λ j. IsOffsetSeconds (e j)) (λ j. hlevel props) a.in_range b.in_range i;
}

zone_once : (b : List ℕ) (y z : Option Offset) → IsZone b y → IsZone b z → y ≡ z
zone_once b None None p q = refl
zone_once b None (Some o) p q = absurd (true≢false (sym p ∙ q.0))
zone_once b (Some o) None p q = absurd (true≢false (sym q ∙ p.0))
zone_once b (Some o) (Some u) p q = ap Some (same_offset o u (p.1 ∙ sym q.1))

moment_once : (b : List ℕ) (j k : Json) → ShowsTime b j → ShowsTime b k → j ≡ k
moment_once b j k s t =
    s.text ∙ ap (λ (c : DateTime). json.string (moment_text c s.zone))
    (same_datetime s.clock t.clock (s.nanos ∙ sym t.nanos))
    ∙ ap (λ (z : Option Offset). json.string (moment_text t.clock z)) (zone_once b s.zone t.zone s.ahead t.ahead)
    ∙ sym t.text

by_between : {P : Type 0} (low high z : ℤ) → (IsBetween low high z → P) → (¬ IsBetween low high z → P) → P
by_between low high z within out =
    by_lt_z z low (λ l. out (λ h. let h0 = h.0 in let never : ⊥ = omega (arith, ints) in never)) (λ a.
    by_lt_z high z (λ l. out (λ h. let h1 = h.1 in let never : ⊥ = omega (arith, ints) in never)) (λ c. within (a, c)))

-- bytes are a time that is shown, or aren't
by_shown : {P : Type 0} (b : List ℕ) → (IsShownTime b → P) → (¬ IsShownTime b → P) → P
by_shown {P} b shown out = by (has_time_layout b) refl
  where
    by : (l : Bool) → has_time_layout b ≡ l → P
    by false e = out (λ h. true≢false (sym h.layout ∙ e))
    by true e = elim (cases_lt (time_nanos b) 1_000_000_000) [
      | inr more ↦ out (λ h. let less = h.nanos in let never : ⊥ = omega arith in never)
      | inl less ↦ by_lt_z (time_seconds b) (pos 0)
          (λ l. out (λ h. let s = h.start in let never : ⊥ = omega (arith, ints) in never)) (λ start.
          by_between (neg_ℤ (pos 86_399)) (pos 86_399) (time_ahead b) (λ ahead.
          by_between (neg_ℤ (pos 62_135_596_800_000_000_000)) (pos 253_402_300_799_999_999_999) (clock_nanos b)
          (λ year. shown (record { layout = e; nanos = less; start = start; ahead = ahead; year = year }))
          (λ other. out (λ h. other h.year))) (λ other. out (λ h. other h.ahead)))
    ]

time_once : {P : Json → Type 0} (b : List ℕ) (j k : Json) → (P j → P k → j ≡ k) → SaysTimeOr P b j → SaysTimeOr P b k
    → j ≡ k
time_once b j k once s t =
    by_shown b (λ is. moment_once b j k (s.shown is) (t.shown is)) (λ other. once (s.other other) (t.other other))

bytes_once : (b : List ℕ) (j k : Json) → SaysBytes b j → SaysBytes b k → j ≡ k
bytes_once b j k s t = s ∙ sym t

-- ---- all of them

pub content_once : (c : Content) (b : List ℕ) (j k : Json) → SaysContent c b j → SaysContent c b k → j ≡ k
content_once content.Bytes b j k s t = s ∙ sym t
content_once content.Text b j k s t = s ∙ sym t
content_once content.Time b j k s t = time_once b j k (bytes_once b j k) s t
content_once content.Int b j k s t = int_once b j k s t
content_once content.Float b j k s t = float_once b j k s t
content_once content.Rat b j k s t = rat_once b j k s t
content_once content.TimeOrInt b j k s t = time_once b j k (int_once b j k) s t
content_once content.Uuid b j k s t = s ∙ sym t
content_once content.Address b j k s t = s ∙ sym t
content_once content.AddressPort b j k s t = s ∙ sym t
content_once content.Prefix b j k s t = s ∙ sym t

pub content_same : {c : Content} {j : Json} {b : List ℕ} (k : Json) → ReadsContent c j b → SaysContent c b k
    → IsSameOpaque c j k
content_same {c = c} {b = b} k (as_shown {j = j} s) t =
    subst (λ i. IsSameOpaque c j i) (content_once c b j k s t) (alike.same b s)
content_same {c = c} {b = b} k (with_zeros {text = text} {trimmed = trimmed} m z s) t =
    subst (λ i. IsSameOpaque c (json.string text) i) (content_once c b (json.string trimmed) k s t)
    (alike.trimmed b m z s)
