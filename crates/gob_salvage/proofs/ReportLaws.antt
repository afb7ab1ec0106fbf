-- Lines that are put together, and the text that they are.
use Rattle.std.proofs.Common.{◌≡◌, ℕ, ◌-◌, ◌^◌, ◌≤◌, min, ◌==◌, false, List, [], ◌∷◌, ◌++◌, length, take, drop}
use Rattle.std.proofs.Common.{sym, ap, ◌∙◌, arith, Result, Ok, Err, IfOk, append_assoc, codes}
use Rattle.std.proofs.lemmas.Bool.Decides.{nat_tests}
use Rattle.std.proofs.lemmas.Grind.{common_steps}
use Rattle.std.proofs.lemmas.List.{append-nil}
use Rattle.std.specs.Fmt.{decimal}
use Rattle.gob_salvage.specs.Report.{gap_texts, left_text, more_text, plural, report_text, total_text}
use Rattle.gob_salvage.specs.Salvage.{left_out}
use Rattle.gob_salvage.specs.declared.gap.Gap.{Gap}
use Rattle.gob_salvage.specs.declared.keeping.Salvaged.{Salvaged}

-- a line that is spelled one way is spelled the other
pub says_so : {T E : Type 0} (bytes : T → List ℕ) (r : Result T E) (x y : List ℕ) → x ≡ y
    → IfOk r (λ text. bytes text ≡ x) → IfOk r (λ text. bytes text ≡ y)
says_so bytes (Ok text) x y e is = is ∙ e
says_so bytes (Err fault) x y e is = tt

pub left_as : (gaps : List Gap) (n left : ℕ) → n ≡ length gaps → (n ≡ 0 → ⊥) → left ≡ min (left_out gaps) (2 ^ 64 - 1)
    → decimal left ++ (codes " byte" ++ (plural left ++ (codes " in " ++ (decimal n ++ (codes " place" ++ plural n)))))
    ≡ left_text gaps
left_as gaps n left e some is =
    let test : (length gaps == 0) ≡ false = grind (arith, nat_tests) in
    rw (e, is, test) (simp append_assoc)

pub more_as : (n : ℕ) → (n ≡ 0 → ⊥)
    → codes "gob: and " ++ (decimal n ++ (codes " place" ++ (plural n ++ (codes " more" ++ 10 ∷ [])))) ≡ more_text n
more_as n some =
    let test : (n == 0) ≡ false = grind (arith, nat_tests) in
    rw test (simp append_assoc)

-- what is told of the first twenty, of how many more there are, and of all
pub report_as : (kept : Salvaged) (told : List Gap) (text : List ℕ) (size i more : ℕ) → size ≡ length kept.gaps.items
    → told ≡ take (min size 20) kept.gaps.items → text ++ gap_texts (drop i told) ≡ gap_texts told → length told ≤ i
    → more ≡ size - length told → (text ++ more_text more) ++ total_text kept ≡ report_text kept
report_as kept told text size i more e is goes past rest =
    let gaps = kept.gaps.items in
    let first : told ≡ take 20 gaps = is ∙ twenty gaps size e in
    let none : drop i told ≡ [] = grind (arith, common_steps) in
    let all : text ≡ gap_texts (take 20 gaps) = sym (append-nil text) ∙ ap (λ l. text ++ gap_texts l) (sym none) ∙ goes
    ∙ ap gap_texts first in
    let count : more ≡ length gaps - 20 = rest ∙ beyond gaps size e told first in
    rw (all, count) (simp append_assoc)
  where
    twenty : (gaps : List Gap) (size : ℕ) → size ≡ length gaps → take (min size 20) gaps ≡ take 20 gaps
    twenty gaps size e = grind (arith, common_steps)

    beyond : (gaps : List Gap) (size : ℕ) → size ≡ length gaps → (told : List Gap) → told ≡ take 20 gaps
        → size - length told ≡ length gaps - 20
    beyond gaps size e told is = grind (arith, common_steps)
