-- What is kept behind a front, and what is told of it.
use Rattle.std.proofs.Common.{◌≡◌, ◌∙◌, ℕ, ◌+◌, ◌-◌, ◌<◌, ◌≤◌, List, [], ◌∷◌, ◌++◌, length, take, drop, arith, sym, ap}
use Rattle.std.proofs.Common.{refl, subst, Option, None, Some, Result, Ok, Err, length-drop, zero, suc, set, get_or}
use Rattle.std.proofs.Common.{Bool, true, false, Vec}
use Rattle.std.proofs.Math.Seq.{take-append_seam}
use Rattle.std.proofs.lemmas.List.{with_items_is}
use Rattle.std.specs.Vec.{with_items}
use Rattle.gob_stream.specs.Bounds.{Bounds}
use Rattle.gob_tool.specs.declared.fault.ToolFault.{ToolFault}
use Rattle.gob_tool.specs.declared.fault.ToolFault.TheVariants as fault
use Rattle.gob_salvage.specs.declared.gap.Gap.{Gap}
use Rattle.gob_salvage.specs.declared.keeping.Salvaged.{Salvaged}
use Rattle.gob_salvage.specs.Behind.{BehindAnswers, IsBehind, TellsBehind, gap_behind, gaps_behind}
use Rattle.gob_salvage.specs.Running.{SalvageAnswers}
use Rattle.gob_salvage.proofs.StreamsLaws.{salvaged_front}

-- the run over both, told so
pub behind_answers : (L : Bounds) (front : Salvaged) (bytes : List ℕ) (now old new : Option (List ℕ))
    (all told : Option Salvaged) (res : Result (Unit {0}) ToolFault)
    → SalvageAnswers L (front.bytes.items ++ bytes) now old new all res → TellsBehind front all told
    → BehindAnswers L front bytes now old new told res
behind_answers L front bytes now old new all told (Ok u) h t =
    let one = subst (λ a. TellsBehind front a told) h.tells t in
    record {
      kept = h.kept;
      is = h.is;
      in_front = λ items T a. salvaged_front bytes a h.is;
      end = h.end;
      sent = h.sent;
      behind = one.0;
      is_behind = one.2;
      tells = one.1;
    }
behind_answers L front bytes now old new all told (Err (fault.Refused R)) h t = h
behind_answers L front bytes now old new all told (Err fault.Write) h t = h
behind_answers L front bytes now old new all told (Err fault.Read) h t = h
behind_answers L front bytes now old new all told (Err fault.Memory) h t = h
behind_answers L front bytes now old new all told (Err (fault.Wanted R)) h t = h
behind_answers L front bytes now old new all told (Err fault.NoWantedType) h t = h
behind_answers L front bytes now old new all told (Err (fault.Clash path reason)) h t = h
behind_answers L front bytes now old new all told (Err (fault.LeftOut path number)) h t = h

-- the first bytes turned behind the others, and cut off there
pub turned : (xs : List ℕ) (n most : ℕ) → n ≤ length xs → most ≡ length xs - n
    → take most (drop n xs ++ take n xs) ≡ drop n xs
turned xs n most few is =
    let e : most ≡ length (drop n xs) = omega (arith, is, length-drop n xs) in
    rw e (take-append_seam (drop n xs) (take n xs))

-- ---- gaps that are told one by one
pub behind_step : (n : ℕ) (xs : List Gap) (i : ℕ) (d : Gap) → i < length xs
    → set (gaps_behind n (take i xs) ++ drop i xs) i
    (gap_behind n (get_or (gaps_behind n (take i xs) ++ drop i xs) i d))
    ≡ gaps_behind n (take (suc i) xs) ++ drop (suc i) xs
behind_step n [] i d h = absurd (omega (arith, h))
behind_step n (x ∷ xs) zero d h = refl
behind_step n (x ∷ xs) (suc i) d h =
    ap (λ (l : List Gap). gap_behind n x ∷ l) (behind_step n xs i d (omega (arith, h)))

pub behind_kept : (n : ℕ) (xs gaps : List Gap) (i : ℕ) (d new : Gap)
    → gaps ≡ gaps_behind n (take i xs) ++ drop i xs → i < length xs → new ≡ gap_behind n (get_or gaps i d)
    → set gaps i new ≡ gaps_behind n (take (i + 1) xs) ++ drop (i + 1) xs
behind_kept n xs gaps i d new is more e =
    let next : suc i ≡ i + 1 = omega arith in
    subst (λ k. set gaps i new ≡ gaps_behind n (take k xs) ++ drop k xs) next
    (ap (λ g. set gaps i g) e ∙ (ap (λ (l : List Gap). set l i (gap_behind n (get_or l i d))) is
    ∙ behind_step n xs i d more))

behind_length : (n : ℕ) (xs : List Gap) → length (gaps_behind n xs) ≡ length xs
behind_length n [] = refl
behind_length n (x ∷ xs) = omega (arith, behind_length n xs)

-- all of those that are held
pub gaps_told : {Z : Type 0} (held : Vec Gap Z) (new old : List Gap) (count n : ℕ) → length held.items ≡ held.len
    → new ≡ gaps_behind count old → old ≡ held.items → count ≡ n
    → (with_items held new).items ≡ gaps_behind n held.items
gaps_told held new old count n size is same e =
    let long : length new ≡ held.len =
    ap (λ (l : List Gap). length l) is ∙ (behind_length count old ∙ (ap (λ (l : List Gap). length l) same ∙ size)) in
    with_items_is held new long ∙ (is ∙ (ap (λ (l : List Gap). gaps_behind count l) same
    ∙ ap (λ m. gaps_behind m held.items) e))

-- ---- what begins with the front
pub not_in_front : (s p bytes front : List ℕ) (r : Bool) → ((rest : List ℕ) → s ≡ p ++ rest → r ≡ true) → s ≡ bytes
    → p ≡ front → r ≡ false → (rest : List ℕ) → ¬ (bytes ≡ front ++ rest)
not_in_front s p bytes front r begun a b other rest e =
    let same : r ≡ true = begun rest (a ∙ (e ∙ ap (λ (l : List ℕ). l ++ rest) (sym b))) in cc

pub in_front : (s p bytes front more : List ℕ) (r : Bool) (count : ℕ) → (r ≡ true → s ≡ p ++ drop (length p) s)
    → s ≡ bytes → p ≡ front → r ≡ true → count ≡ length front → more ≡ drop count bytes → bytes ≡ front ++ more
in_front s p bytes front more r count begun a b same c t =
    sym a ∙ (begun same ∙ (ap (λ (l : List ℕ). l ++ drop (length p) s) b
    ∙ ap (λ (l : List ℕ). front ++ l) (ap (λ (l : List ℕ). drop (length l) s) b
    ∙ (ap (λ (l : List ℕ). drop (length front) l) a ∙ (ap (λ n. drop n bytes) (sym c) ∙ sym t)))))

-- ---- what is told
pub tells_some : (front kept new : Salvaged) (old : Option Salvaged) → old ≡ Some kept → IsBehind front kept new
    → TellsBehind front old (Some new)
tells_some front kept new old is h = subst (λ o. TellsBehind front o (Some new)) (sym is) (new, refl, h)
