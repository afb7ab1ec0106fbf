-- What fills the nils that are gone past, and the others.
use Rattle.std.proofs.Common.{◌≡◌, ◌∙◌, ℕ, ◌+◌, List, [], ◌∷◌, ◌++◌, Option, Some}
use Rattle.std.proofs.Common.{None, ap, sym, subst, append_assoc, append-nil}
use Rattle.gob_plain.specs.declared.fillers.Filler.{Filler}
use Rattle.gob_plain.specs.declared.go.level.HeldText.{HeldText}
use Rattle.gob_plain.specs.Machine.Parting.{AreParted, IsParted, none_parted, then_parted}
use Rattle.gob_plain.specs.Machine.Placing.{AreIn, ArePlaced, none_left, nothing_in, filler_in}

-- with what fills the nils that are left they are what fills all
abbrev pub InSoFar : (nils gaps : List ℕ) (fillers : List HeldText) (behind : ℕ) (rest left : List ℕ)
    (others : List HeldText) (texts : List (Option Filler)) (held : List (Option HeldText)) → Type 0
InSoFar nils gaps fillers behind rest left others texts held = (all : List (Option HeldText))
    (more : List (Option Filler))
    (nulls : List (Option HeldText)) → AreIn behind rest left others all → AreParted all more nulls
    → ArePlaced nils gaps fillers (texts ++ more) (held ++ nulls)

pub in_begun : {nils gaps left : List ℕ} {fillers others : List HeldText} {behind : ℕ} {texts : List (Option Filler)}
    {held : List (Option HeldText)} → behind ≡ 0 → left ≡ gaps → others ≡ fillers → texts ≡ [] → held ≡ []
    → InSoFar nils gaps fillers behind nils left others texts held
in_begun {nils = nils} {gaps = gaps} {left = left} {fillers = fillers} {others = others} {behind = behind}
    {held = held} e g f t d =
    λ all more nulls h p.
    subst (λ l. ArePlaced nils gaps fillers (l ++ more) (held ++ nulls)) (sym t)
    (subst (λ l. ArePlaced nils gaps fillers more (l ++ nulls)) (sym d) (
      all,
      subst (λ l. AreIn 0 nils gaps l all) f
          (subst (λ l. AreIn 0 nils l others all) g (subst (λ k. AreIn k nils left others all) e h)),
      p,
    ))

-- one nil more, whatever was left before
pub in_on : {nils gaps rest was left : List ℕ} {fillers before others : List HeldText} {behind then n : ℕ}
    {new : List (Option Filler)} {f : Option HeldText} {text : Option Filler} {own now : List (Option HeldText)}
    (texts : List (Option Filler)) (held : List (Option HeldText))
    → InSoFar nils gaps fillers behind (n ∷ rest) was before texts held
    → ((ns : List ℕ) (more : List (Option HeldText)) → AreIn then ns left others more
    → AreIn behind (n ∷ ns) was before (f ∷ more))
    → IsParted f text own → new ≡ texts ++ text ∷ [] → now ≡ held ++ own
    → InSoFar nils gaps fillers then rest left others new now
in_on {nils = nils} {gaps = gaps} {rest = rest} {fillers = fillers} {f = f} {text = text} {own = own} {now = now} texts
    held so
    taken parted e d = λ all more nulls h p.
    let placed = so (f ∷ all) (text ∷ more) (own ++ nulls) (taken rest all h) (then_parted parted p) in
    subst (λ l. ArePlaced nils gaps fillers l (now ++ nulls))
    (sym (append_assoc texts (text ∷ []) more) ∙ ap (λ l. l ++ more) (sym e))
    (subst (λ l. ArePlaced nils gaps fillers (texts ++ text ∷ more) l)
    (sym (append_assoc held own nulls) ∙ ap (λ l. l ++ nulls) (sym d)) placed)

pub in_ended : {nils gaps rest left : List ℕ} {fillers others : List HeldText} {behind : ℕ}
    {texts : List (Option Filler)} {held : List (Option HeldText)}
    → InSoFar nils gaps fillers behind rest left others texts held → rest ≡ [] → left ≡ [] → others ≡ []
    → ArePlaced nils gaps fillers texts held
in_ended {nils = nils} {gaps = gaps} {rest = rest} {left = left} {fillers = fillers} {others = others}
    {behind = behind} {texts = texts} {held = held} so e l o =
    subst (λ l. ArePlaced nils gaps fillers l held) (append-nil texts)
    (subst (λ l. ArePlaced nils gaps fillers (texts ++ []) l) (append-nil held)
    (so [] [] [] (subst (λ ns. AreIn behind ns left others []) (sym e)
    (subst (λ gs. AreIn behind [] gs others []) (sym l)
    (subst (λ fs. AreIn behind [] [] fs []) (sym o) none_left))) none_parted))

-- ---- the next filler
pub nothing_taken : {behind n : ℕ} {nils gaps : List ℕ} {fillers : List HeldText} {all : List (Option HeldText)}
    {f : Option HeldText} → f ≡ None → AreIn behind nils gaps fillers all
    → AreIn behind (n ∷ nils) gaps fillers (f ∷ all)
nothing_taken {behind = behind} {n = n} {nils = nils} {gaps = gaps} {fillers = fillers} {all = all} e h =
    subst (λ f. AreIn behind (n ∷ nils) gaps fillers (f ∷ all)) (sym e) (nothing_in h)

pub one_taken : {behind n gap then : ℕ} {nils gaps left : List ℕ} {fillers others : List HeldText}
    {all : List (Option HeldText)} {f : HeldText} → gaps ≡ gap ∷ left → fillers ≡ f ∷ others → n ≡ behind + gap
    → then ≡ n + 1 → AreIn then nils left others all → AreIn behind (n ∷ nils) gaps fillers (Some f ∷ all)
one_taken {behind = behind} {n = n} {gap = gap} {nils = nils} {left = left} {fillers = fillers} {others = others}
    {all = all} {f = f} e d is next h =
    subst (λ g. AreIn behind (n ∷ nils) g fillers (Some f ∷ all)) (sym e)
    (subst (λ l. AreIn behind (n ∷ nils) (gap ∷ left) l (Some f ∷ all)) (sym d)
    (filler_in is (subst (λ k. AreIn k nils left others all) next h)))
