-- The tidy form of an item is one of the same stream: at each level its letters are no longer, and a nil that is filled
-- is as deep as it was.
use Rattle.std.proofs.Common.{◌≡◌, ◌∙◌, ℕ, ◌+◌, ◌≤◌, List, [], ◌∷◌, ◌++◌, length, arith, refl}
use Rattle.std.proofs.Common.{sym, ap, subst, append_assoc, length-append}
use Rattle.gob_num.specs.Unsigned.{AreBytes}
use Rattle.gob_num.proofs.PublicLaws.{append_split, bytes_prefix, bytes_rest, signed_unsigned, unsigned_bytes}
use Rattle.gob_types.specs.Base.{base_table}
use Rattle.gob_types.specs.declared.id.TypeId.{TypeId}
use Rattle.gob_types.specs.Ready.{IsReady}
use Rattle.gob_types.specs.Table.{Table}
use Rattle.gob_types.proofs.PublicLaws.{Keeps}
use Rattle.gob_value.proofs.PublicLaws.{one_top, tidy_no_deeper, top_back, top_on}
use Rattle.gob_tidy.specs.SameNil.{IsSameNil}
use Rattle.gob_read.specs.Expected.{a_number, nil}
use Rattle.gob_read.specs.Expects.{ExpectsTop}
use Rattle.gob_read.proofs.PublicLaws.{expects_once, prefix_of, rest_behind}
use Rattle.gob_read.proofs.Grammar.Stay.{expects_top_back, expects_top_on}
use Rattle.gob_stream.specs.Bounds.{Bounds}
use Rattle.gob_filled.specs.Filled.{Definitions, Fillings, no_filling, filling, AreSegments, SpellsFilled}
use Rattle.gob_filled.specs.Filled.{with_fillings, Fills, as_it_stands, next_filled}
use Rattle.gob_filled.specs.Filled as spelled
use Rattle.gob_filled.specs.Stream.{putting, IsFilledItem, of_value}
use Rattle.gob_filled.proofs.Refused.{in_turn}
use Rattle.gob_filled.proofs.Sound.{segments_bytes}
use Rattle.gob_filled.proofs.Strict.{filled_keeps}
use Rattle.gob_go_writer.specs.Item.{IsGrown}
use Rattle.gob_go_writer.proofs.PartSteps.{defs_keep}
use Rattle.gob_go_writer.specs.TidyItem.{FitsAgain}
use Rattle.gob_go_writer.specs.Machine.Tidied.{TidiesClosely, tidies_closely, MovesClosely, none_left, then_moved}
use Rattle.gob_go_writer.proofs.DescriptionLaws.{defined_again}
use Rattle.gob_go_writer.proofs.TidyLetterLaws.{NoLonger, both_no_longer, bytes_before, counted_again, last_no_longer}
use Rattle.gob_go_writer.proofs.TidyLetterLaws.{segments_again}
use Rattle.gob_go_writer.proofs.WayLaws.{nil_expected_top, way_depth}

-- ---- tables behind tables

fills_keep : {L : Bounds} {T U V : Table} {t : TypeId} {limit : ℕ} {done left ls : List ℕ} {fs : Fillings}
    → Fills base_table L T t limit U done left fs ls V → Keeps U V
fills_keep (as_it_stands o) = record { shape = λ t s e. e }
fills_keep (next_filled c oc ex l o u ds may i vs g fl) = in_turn (defs_keep ds)
    (in_turn (filled_keeps vs) (fills_keep fl))

-- ---- the nil at hand

-- where the nil of the tidy form stands behind so many bytes of it
record Behind (T : Table) (t : TypeId) (c done left : List ℕ) (q d : ℕ) : Type 0 where
  between : List ℕ
  rest : List ℕ
  left_is : left ≡ between ++ (0 ∷ rest)
  place_is : q ≡ length (done ++ between)
  expects : ExpectsTop T t (done ++ between) (a_number nil) d

module _ {N T : Table} {t : TypeId} (keep : Keeps T N) (ready : IsReady T t) where
  -- the same nil is as deep
  behind : {b c : List ℕ} {q d : ℕ} (done left between behind_it tidy_done tidy_left : List ℕ)
      → b ≡ done ++ (between ++ (0 ∷ behind_it)) → c ≡ tidy_done ++ tidy_left
      → IsSameNil N t b c (length (done ++ between)) q → ExpectsTop T t (done ++ between) (a_number nil) d
      → length tidy_done ≤ q → Behind T t c tidy_done tidy_left q d
  behind {b = b} {c = c} {q = q} {d = d} done left between behind_it tidy_done tidy_left e f same ex low =
      let from = same.from in let to = same.to in
      let at : (done ++ between) ≡ from.front =
      (append_split (done ++ between) from.front (0 ∷ behind_it) (0 ∷ from.rest) from.place_is
      (append_assoc done between (0 ∷ behind_it) ∙ sym e ∙ from.whole)).0 in
      let deep : d ≡ way_depth same.way = (expects_once (expects_top_on keep ex)
      (subst (λ z. ExpectsTop N t z (a_number nil) (way_depth same.way)) (sym at) (nil_expected_top from.leads))).1 in
      let all : tidy_done ++ tidy_left ≡ to.front ++ (0 ∷ to.rest) = sym f ∙ to.whole in
      let more = prefix_of tidy_done to.front tidy_left (0 ∷ to.rest) all
      (subst (λ n. length tidy_done ≤ n) to.place_is low)
      in
      record {
        between = more.rest;
        rest = to.rest;
        left_is = rest_behind tidy_done to.front tidy_left (0 ∷ to.rest) all more;
        place_is = to.place_is ∙ ap length more.whole;
        expects = expects_top_back keep ready (subst (λ n. ExpectsTop N t (tidy_done ++ more.rest) (a_number nil) n)
            (sym deep) (subst (λ z. ExpectsTop N t z (a_number nil) (way_depth same.way)) more.whole
            (nil_expected_top to.leads)));
      }

-- ---- what is left behind a nil

one_more : (done between rest : List ℕ) → done ++ (between ++ (0 ∷ rest)) ≡ (done ++ (between ++ (0 ∷ []))) ++ rest
one_more done between rest = ap (λ l. done ++ l) (sym (append_assoc between (0 ∷ []) rest))
    ∙ sym (append_assoc done (between ++ (0 ∷ [])) rest)

behind_nil : (done between : List ℕ) → length (done ++ between) + 1 ≡ length (done ++ (between ++ (0 ∷ [])))
behind_nil done between = omega (
  arith,
  length-append done between,
  length-append done (between ++ (0 ∷ [])),
  length-append between (0 ∷ []),
)

-- ---- values

bytes_before_nil : (done between rest : List ℕ) → AreBytes (done ++ (between ++ (0 ∷ rest))) → AreBytes between
bytes_before_nil done between rest o = bytes_prefix between (0 ∷ rest) (bytes_rest done (between ++ (0 ∷ rest)) o)

record FillsAgain (L : Bounds) (T : Table) (t : TypeId) (limit : ℕ) (U : Table) (done left : List ℕ) (fs : Fillings)
    (ls : List ℕ) (V : Table) : Type 0 where
  letters : List ℕ
  fills : Fills base_table L T t limit U done left fs letters V
  shorter : NoLonger letters ls

record FilledAgain (L : Bounds) (T : Table) (t : TypeId) (limit : ℕ) (v : spelled.Filled) (ls : List ℕ) (U : Table)
    : Type 0 where
  pub letters : List ℕ
  pub spells : SpellsFilled base_table L T t limit v letters U
  pub shorter : NoLonger letters ls

-- what fills a nil, and what is left behind it
held_shorter : (a s e h n f g ms ks c x : List ℕ) → AreBytes a → AreBytes s → NoLonger h e → AreBytes n → AreBytes f
    → AreBytes g → length g ≤ length f → NoLonger ks ms → AreBytes c → AreBytes x → length x ≤ length c
    → NoLonger (x ++ ((a ++ (s ++ (h ++ (n ++ g)))) ++ ks)) (c ++ ((a ++ (s ++ (e ++ (n ++ f)))) ++ ms))
held_shorter a s e h n f g ms ks c x oa os de on of og l m oc ox k =
    bytes_before x c ox oc k (both_no_longer (bytes_before a a oa oa (omega arith)
    (bytes_before s s os os (omega arith) (both_no_longer de (bytes_before n n on on (omega arith)
    (last_no_longer g f og of l))))) m)

mutual
  filled_again : {L : Bounds} {N T U : Table} {t : TypeId} {limit : ℕ} {v w : spelled.Filled} {ls : List ℕ}
      → IsReady T t → Keeps U N → SpellsFilled base_table L T t limit v ls U → TidiesClosely N t v w
      → FilledAgain L T t limit w ls U
  filled_again {L = L} {N = N} {T = T} {U = U} {t = t} {limit = limit} ready grown
      (with_fillings {b = b} {ls = ls} sp de fl) (tidies_closely {b = d} {c = c} sb sc oc ti m) =
      let keep : Keeps T N = in_turn (fills_keep fl) grown in
      let r = fills_again keep ready grown (sym (one_top (top_on keep sp) sb)) refl refl refl oc m fl in
      let less = tidy_no_deeper ti in
      record {
        letters = r.letters;
        spells = with_fillings (top_back keep ready sc) (omega arith) r.fills;
        shorter = r.shorter;
      }

  fills_again : {L : Bounds} {N T U V : Table} {t : TypeId} {limit from to : ℕ}
      {b c done left tidy_done tidy_left ls : List ℕ} {fs gs : Fillings} → Keeps T N → IsReady T t → Keeps V N
      → b ≡ done ++ left → c ≡ tidy_done ++ tidy_left → from ≡ length done → to ≡ length tidy_done → AreBytes c
      → MovesClosely N t b c from to fs gs → Fills base_table L T t limit U done left fs ls V
      → FillsAgain L T t limit U tidy_done tidy_left gs ls V
  fills_again {done = done} {left = left} {tidy_done = tidy_done} {tidy_left = tidy_left} keep ready grown e f at to oc
      (none_left l m) (as_it_stands o) =
      let rest = bytes_rest tidy_done tidy_left (subst AreBytes f oc) in
      record {
        letters = tidy_left;
        fills = as_it_stands rest;
        shorter = last_no_longer tidy_left left rest o (omega (
          arith,
          ap length e,
          ap length f,
          length-append done left,
          length-append tidy_done tidy_left,
        ));
      }
  fills_again {L = L} {N = N} {T = T} {U = U} {V = V} {t = t} {limit = limit} {from = from} {to = to} {b = b} {c = c}
      {done = done} {tidy_done = tidy_done} {tidy_left = tidy_left} keep ready grown e f at to_is oc
      (then_moved {u = u} {s = s} {q = q} {es = es} {w = w} {gs = gs} low near same defined described tidies m)
      (next_filled {W = W} {d = d} {left = rest} {a = a} {e = defs} {n = n} {f = held} {ms = ms} between ob ex some os
      counts are may i vs g fl) =
      let nil_at : Behind T t c tidy_done tidy_left q d = behind keep ready done (between ++ (0 ∷ rest)) between rest
      tidy_done tidy_left e f same ex (omega arith) in
      let place = nil_at.place_is in
      let behind_held = in_turn (fills_keep fl) grown in
      let again = defined_again (in_turn (filled_keeps vs) behind_held) are defined described in
      let inner = filled_again may.ready behind_held vs tidies in
      let segments = segments_again g inner.shorter in
      let behind_it = fills_again keep ready grown (e ∙ one_more done between rest)
      (f ∙ ap (λ l. tidy_done ++ l) nil_at.left_is ∙ one_more tidy_done nil_at.between nil_at.rest)
      (behind_nil done between) (omega (arith, behind_nil tidy_done nil_at.between)) oc m fl in
      let ox = bytes_before_nil tidy_done nil_at.between nil_at.rest
      (subst AreBytes (f ∙ ap (λ l. tidy_done ++ l) nil_at.left_is) oc) in
      let all = nil_at.between ++ ((a ++ (s ++ (again.letters ++ (n ++ segments.bytes)))) ++ behind_it.letters) in
      record {
        letters = all;
        fills = subst (λ z. Fills base_table L T t limit U tidy_done z (filling q s es u w gs) all V)
            (sym nil_at.left_is) (subst (λ p. Fills base_table L T t limit U tidy_done
            (nil_at.between ++ (0 ∷ nil_at.rest)) (filling p s es u w gs) all V) (sym place)
            (next_filled nil_at.between ox nil_at.expects some os counts again.defined may i inner.spells
            segments.segments behind_it.fills));
        shorter = held_shorter a s defs again.letters n held segments.bytes ms behind_it.letters between nil_at.between
            (unsigned_bytes counts) os again.shorter
            (unsigned_bytes (signed_unsigned i).1) (segments_bytes g) (segments_bytes segments.segments)
            segments.shorter behind_it.shorter ob ox (omega (
              arith,
              length-append done between,
              length-append tidy_done nil_at.between,
            ));
      }

-- ---- items

pub value_fits : {L : Bounds} {N T U : Table} {offset lower : ℕ} {t : TypeId} {v w : spelled.Filled} {f : List ℕ}
    → TidiesClosely N t v w → IsFilledItem base_table L T offset (putting t v) f U → IsGrown U N → lower ≤ offset
    → FitsAgain L T offset (length f) (putting t w) U lower
value_fits ti (of_value {a = a} may sg k cs) grown low =
    let r = filled_again may.ready (record { shape = grown }) k ti in
    let o = unsigned_bytes (signed_unsigned sg).1 in
    let again = counted_again cs (bytes_before a a o o (omega arith) r.shorter) low (omega arith) in
    record { bytes = again.bytes; is = of_value may sg r.spells again.counted; shorter = again.shorter }
