-- What stands at a place, from the first bytes there.
use Rattle.std.proofs.Common.{◌≡◌, ℕ, ℤ, pos, negsuc, suc, ◌+◌, ◌-◌, ◌<◌, ◌≤◌, List, [], ◌∷◌, ◌++◌, length, take, drop}
use Rattle.std.proofs.Common.{min}
use Rattle.std.proofs.Common.{arith, refl, sym, ap, ◌∙◌, subst, append_assoc, length-append, length-drop}
use Rattle.std.proofs.Math.Seq.{drop-append_seam, take-append_seam}
use Rattle.std.proofs.lemmas.List.{append-nil, drop-drop, length-take-le, take-append-drop}
use Rattle.gob_num.specs.Place.{IsUnsignedAt}
use Rattle.gob_num.specs.Unsigned.{AreBytes, IsUnsigned}
use Rattle.gob_num.specs.Signed.{IsSigned}
use Rattle.gob_num.proofs.PublicLaws.{bytes-append, bytes_prefix, bytes_rest, signed_prefix, signed_unsigned}
use Rattle.gob_num.proofs.PublicLaws.{unsigned_bytes, unsigned_length, unsigned_prefix}
use Rattle.gob_types.specs.declared.id.TypeId.{TypeId}
use Rattle.gob_types.specs.Base.{base_table}
use Rattle.gob_types.specs.Table.{Table}
use Rattle.gob_stream.specs.Bounds.{Bounds, within_trees}
use Rattle.gob_stream.specs.Whole.{HasBody}
use Rattle.gob_filled.specs.Definition.{Defines, defines}
use Rattle.gob_filled.specs.Filled.{cut, Definitions, Filled, Fillings, AreDefined, none_defined, one_defined}
use Rattle.gob_filled.specs.Filled.{SpellsFilled}
use Rattle.gob_filled.specs.Filled.{with_fillings, Fills, as_it_stands, next_filled}
use Rattle.gob_filled.specs.Stream.{FilledItem, defining, putting, IsFilledItem, of_definition, of_value, AreCounted}
use Rattle.gob_filled.specs.Stream.{last_counted, next_counted, AreFilledItems, no_more, and_then}
use Rattle.gob_filled.proofs.Sound.{segments_bytes}
use Rattle.gob_go.specs.Whole.{IsFilledWhole}
use Rattle.gob_go.proofs.ItemsLaws.{Grown, item_grown, items_grown}
use Rattle.gob_salvage.specs.Evidence.{HasValue, IsFrame}
use Rattle.gob_salvage.specs.Salvage.{HasTypeAt}
use Rattle.gob_salvage.specs.Searching.{ValueStands}
use Rattle.gob_salvage.proofs.SalvageLaws.{item_some}

-- ---- numbers
-- the number that stands there is the one that the bytes begin with
record IsNumber (n m end at : ℕ) (c : List ℕ) : Type 0 where
  value : n ≡ m
  place : end ≡ at + length c

unsigned_here : {n m at end : ℕ} {bytes c : List ℕ} (x : List ℕ) → IsUnsignedAt n bytes at end
    → drop at bytes ≡ c ++ x → IsUnsigned m c → IsNumber n m end at c
unsigned_here {at = at} {end = end} {bytes = bytes} x u e k =
    let z = drop at bytes in
    let r = unsigned_prefix (drop (end - at) z) x u.spelled k (take-append-drop (end - at) z ∙ e) in
    let order = u.order in let inside = u.inside in
    record {
      value = r.value;
      place = omega (
        arith,
        ap length r.bytes,
        length-take-le (end - at) z (omega (arith, length-drop at bytes)),
      );
    }

pub behind_here : (at : ℕ) (bytes c x : List ℕ) → drop at bytes ≡ c ++ x → drop (at + length c) bytes ≡ x
behind_here at bytes c x e =
    ap (λ n. drop n bytes) (omega arith) ∙ sym (drop-drop (length c) at bytes) ∙ ap (λ l. drop (length c) l) e
    ∙ drop-append_seam c x

-- a frame ends behind as many bytes as its count says
pub frame_here : {at end : ℕ} {bytes c : List ℕ} (s x : List ℕ) → IsFrame bytes at end
    → drop at bytes ≡ c ++ (s ++ x) → IsUnsigned (length s) c → end ≡ at + length (c ++ s)
frame_here {c = c} s x f e u =
    let k = unsigned_here (s ++ x) f.counts e u in
    let value = k.value in let place = k.place in let ends = f.ends in
    omega (arith, length-append c s)

pub number_here : {at m : ℕ} {j number : ℤ} {bytes c a : List ℕ} (y x : List ℕ) → HasTypeAt bytes at number
    → drop at bytes ≡ c ++ y → IsUnsigned m c → y ≡ a ++ x → IsSigned j a → number ≡ j
number_here {at = at} {bytes = bytes} {c = c} {a = a} y x h e u f s =
    let k = unsigned_here y h.counts e u in
    let z = drop h.head bytes in
    let there : z ≡ a ++ x = ap (λ n. drop n bytes) k.place ∙ behind_here at bytes c y e ∙ f in
    (signed_prefix (drop (h.end - h.head) z) x h.spelled s (take-append-drop (h.end - h.head) z ∙ there)).value

-- ---- an item that stands there
pub data NumberOf : FilledItem → ℤ → Type 0 where
  of_type : {id : TypeId} {v : _} {number : ℤ} (n : ℕ) → number ≡ negsuc n → NumberOf (defining id v) number
  of_put : {t : TypeId} {w : Filled} {number : ℤ} → number ≡ pos t.0 → NumberOf (putting t w) number

-- the first bytes are in front of a cut
before_cut : (a ls s x : List ℕ) → AreBytes a → a ++ ls ≡ s ++ (cut ∷ x) → (rest : List ℕ) × (s ≡ a ++ rest)
before_cut [] ls s x o e = (s, refl)
before_cut (b ∷ a) ls [] x o e = absurd (let h : b ≡ cut = cc in let l = o.0 in omega arith)
before_cut (b ∷ a) ls (c ∷ s) x o e =
    let h : c ≡ b = cc in
    let r = before_cut a ls s x o.1 (cc) in
    (r.0, (let l : s ≡ a ++ r.0 = r.1 in cc))

signed_bytes : {j : ℤ} {a : List ℕ} → IsSigned j a → AreBytes a
signed_bytes s = unsigned_bytes (signed_unsigned s).1

counted_number : {L : Bounds} {most offset at : ℕ} {t : TypeId} {a ms f bytes : List ℕ} {number : ℤ} (ls y : List ℕ)
    → AreCounted L most offset ms f → ms ≡ a ++ ls → IsSigned (pos t.0) a → HasTypeAt bytes at number
    → drop at bytes ≡ f ++ y → number ≡ pos t.0
counted_number {a = a} ls y (last_counted {c = c} s o u l k) is sg h e =
    number_here (s ++ y) (ls ++ y) h (e ∙ append_assoc c s y) u (ap (λ z. z ++ y) is ∙ append_assoc a ls y) sg
counted_number {a = a} ls y (next_counted {c = c} {ls = x} {f = f} s o u l k n m) is sg h e =
    let r = before_cut a ls s x (signed_bytes sg) (sym is) in
    number_here ((s ++ f) ++ y) (r.0 ++ (f ++ y)) h (e ∙ append_assoc c (s ++ f) y) u
    (append_assoc s f y ∙ ap (λ z. z ++ (f ++ y)) r.1 ∙ append_assoc a r.0 (f ++ y)) sg

pub item_number : {L : Bounds} {T U : Table} {offset at : ℕ} {i : FilledItem} {b bytes : List ℕ} {number : ℤ}
    (y : List ℕ) → IsFilledItem base_table L T offset i b U → HasTypeAt bytes at number → drop at bytes ≡ b ++ y
    → NumberOf i number
item_number y (of_definition {c = c} u l s (defines {n = n} {a = a} {b = b} may de ds k sg sp)) h e =
    of_type n (number_here ((a ++ b) ++ y) (b ++ y) h (e ∙ append_assoc c (a ++ b) y) u (append_assoc a b y) sg)
item_number y (of_value {ls = ls} may sg sp cs) h e = of_put (counted_number ls y cs refl sg h e)

-- ---- values that define nothing have no cut
record Plain (before after : ℕ) (letters : List ℕ) : Type 0 where
  more : before ≤ after
  bytes : after ≤ before → AreBytes letters

plain_definitions : {L : Bounds} {T U : Table} {ds : Definitions} {e : List ℕ} → AreDefined base_table L T ds e U
    → Plain (length T) (length U) e
plain_definitions none_defined = record { more = omega arith; bytes = λ l. tt }
plain_definitions (one_defined {T = T} o (defines {id = id} {s = s} may de ds k sg sp) rest) =
    let r = plain_definitions rest in
    let m = r.more in
    let one = length-append T ((id, s) ∷ []) in
    record { more = omega arith; bytes = λ l. absurd (omega arith) }

mutual
  plain_value : {L : Bounds} {T U : Table} {t : TypeId} {limit : ℕ} {v : Filled} {ls : List ℕ}
      → SpellsFilled base_table L T t limit v ls U → Plain (length T) (length U) ls
  plain_value (with_fillings top d fills) = plain_fills fills

  plain_fills : {L : Bounds} {T U X : Table} {t : TypeId} {limit : ℕ} {done left ls : List ℕ} {fs : Fillings}
      → Fills base_table L T t limit U done left fs ls X → Plain (length U) (length X) ls
  plain_fills (as_it_stands o) = record { more = omega arith; bytes = λ l. o }
  plain_fills (next_filled {s = s} {a = a} {e = e} {n = n} {f = f} {ms = ms} c oc ex some os u defs may sg sp segs rest)
      =
      let d = plain_definitions defs in let v = plain_value sp in let r = plain_fills rest in
      let dm = d.more in let vm = v.more in let rm = r.more in
      record {
        more = omega arith;
        bytes = λ l.
            bytes-append c ((a ++ (s ++ (e ++ (n ++ f)))) ++ ms) oc
            (bytes-append (a ++ (s ++ (e ++ (n ++ f)))) ms
            (bytes-append a (s ++ (e ++ (n ++ f))) (unsigned_bytes u)
            (bytes-append s (e ++ (n ++ f)) os
            (bytes-append e (n ++ f) (d.bytes (omega arith))
            (bytes-append n f (signed_bytes sg) (segments_bytes segs)))))
            (r.bytes (omega arith)));
      }

counted_end : {L : Bounds} {most offset at end : ℕ} {ms f bytes : List ℕ} (y : List ℕ)
    → AreCounted L most offset ms f → AreBytes ms → IsFrame bytes at end → drop at bytes ≡ f ++ y
    → end ≡ at + length f
counted_end y (last_counted {c = c} s o u l k) all fr e = frame_here s y fr (e ∙ append_assoc c s y) u
counted_end y (next_counted {ls = x} s o u l k n m) all fr e =
    absurd (let h = (bytes_rest s (cut ∷ x) all).0 in omega arith)

-- an item that defines nothing is one frame
pub item_end : {L : Bounds} {T U : Table} {offset at end : ℕ} {i : FilledItem} {b bytes : List ℕ} (y : List ℕ)
    → IsFilledItem base_table L T offset i b U → length U ≤ length T → IsFrame bytes at end → drop at bytes ≡ b ++ y
    → end ≡ at + length b
item_end y (of_definition {c = c} {d = d} u l s p) few fr e = frame_here d y fr (e ∙ append_assoc c d y) u
item_end y (of_value {a = a} {ls = ls} may sg sp cs) few fr e =
    counted_end y cs (bytes-append a ls (signed_bytes sg) ((plain_value sp).bytes few)) fr e

-- ---- frames
pub frame_moved : {bytes : List ℕ} {at end : ℕ} → IsFrame bytes at end → IsFrame (drop at bytes) 0 (end - at)
frame_moved {bytes = bytes} {at = at} {end = end} f =
    let order = f.counts.order in let inside = f.counts.inside in let within = f.inside in let ends = f.ends in
    let plain : f.head - at ≡ f.head - at - 0 = omega arith in
    record {
      count = f.count;
      head = f.head - at;
      counts = record {
        order = omega arith;
        inside = omega (arith, length-drop at bytes);
        spelled = subst (λ n. IsUnsigned f.count (take n (drop at bytes))) plain f.counts.spelled;
      };
      ends = omega arith;
      inside = omega (arith, length-drop at bytes);
    }

pub one_frame : {bytes : List ℕ} {e f : ℕ} → IsFrame bytes 0 e → IsFrame bytes 0 f → e ≡ f
one_frame {bytes = bytes} {f = g} e f =
    let k = unsigned_here (drop (f.head - 0) bytes) e.counts (sym (take-append-drop
    (f.head - 0) bytes)) f.counts.spelled in
    let size = length-take-le (f.head - 0) bytes (let l = f.counts.inside in omega arith) in
    let value = k.value in let place = k.place in let p = e.ends in let q = f.ends in
    omega (arith, size)

-- ---- a value that stands whole
pub value_stands : {L : Bounds} {T : Table} {d used : ℕ} {id : TypeId} {body : List ℕ} {kept : List FilledItem}
    (piece : List ℕ) → AreBytes piece → d ≡ min L.depth 1000 → HasBody L T 0 id body used piece
    → IsFilledWhole T id d body → HasValue kept id.0 → ValueStands (within_trees L) T kept piece
value_stands {L = L} {T = T} {used = used} {id = id} {body = body} piece o e b w known =
    let rest = b.number ++ body in
    let all : AreBytes (b.count ++ rest) =
    subst AreBytes b.whole (bytes_prefix (take used piece) (drop used piece)
    (subst AreBytes (sym (take-append-drop used piece)) o)) in
    let whole : piece ≡ (b.count ++ rest) ++ drop used piece =
    sym (take-append-drop used piece) ∙ ap (λ l. l ++ drop used piece) b.whole in
    let size = length-take-le used piece b.within in
    let some = (unsigned_length b.counts).0 in
    let plain : length b.count - 0 ≡ length b.count = omega arith in
    let inside = b.within in
    let grouped : piece ≡ b.count ++ (rest ++ drop used piece) = whole ∙ append_assoc b.count rest (drop used piece) in
    record {
      id = id;
      value = w.value;
      end = used;
      known = known;
      frame = record {
        count = length rest;
        head = length b.count;
        counts = record {
          order = some;
          inside = omega (arith, size, ap length b.whole, length-append b.count rest);
          spelled = subst (λ l. IsUnsigned (length rest) l)
              (sym (ap (λ n. take n piece) plain ∙ ap (λ l. take
              (length b.count) l) grouped ∙ take-append_seam b.count (rest ++ drop used piece)))
              b.counts;
        };
        ends = omega (arith, size, ap length b.whole, length-append b.count rest);
        inside = b.within;
      };
      item = subst (λ z. IsFilledItem base_table (within_trees L) T 0 (putting id w.value) z T) (sym b.whole)
          (of_value b.may b.names
          (subst (λ l. SpellsFilled base_table (within_trees L) T id l w.value body T) e
          (w.spelled base_table (within_trees L)))
          (last_counted rest (bytes_rest b.count rest all) b.counts b.item b.stream));
    }
