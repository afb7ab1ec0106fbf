-- What the nils of parts show, where parts stand one behind another.
use Rattle.std.proofs.Common.{◌≡◌, ℕ, ◌+◌, ◌-◌, ◌<◌, ◌≤◌, List, [], ◌∷◌, ◌++◌, length, arith, sym, ap, subst, ◌∙◌}
use Rattle.std.proofs.Common.{append_assoc, length-append, inl, inr, add_assoc, add-zero, zero-add}
use Rattle.std.proofs.lemmas.Bool.{cases_lt}
use Rattle.serde_json.specs.Data.{Data, null}
use Rattle.gob_types.specs.declared.id.TypeId.{TypeId}
use Rattle.gob_types.specs.Table.{Table}
use Rattle.gob_filled.specs.Filled.{Fillings}
use Rattle.gob_go.specs.Machine.WholeFilled.{Filler}
use Rattle.gob_json_writer.specs.FilledJson.{FillingsShow, none_left, then_shown}
use Rattle.gob_json_writer.proofs.NilsLaws.{nulls}
use Rattle.gob_filled_walk.proofs.LeadLaws.{LeadsToPart, LeadsTo}
use Rattle.gob_filled_walk.proofs.ShiftLaws.{spliced, behind_seam, before_seam, Agrees, first_agrees, rest_agrees}
use Rattle.gob_filled_walk.proofs.ShownLaws.{Shows}

-- earlier, where the nils between show null
pub earlier : {T : Table} {t : TypeId} {b : List ℕ} {from now number n : ℕ} {fs : Fillings} {N : ℕ → Data}
    → now ≤ from → n ≤ number → ((k : ℕ) → n ≤ k → k < number → N k ≡ null) → FillingsShow T t b from number fs N
    → FillingsShow T t b now n fs N
earlier {number = number} before few nothing (none_left f) = none_left (λ m l.
    elim (cases_lt m number) [ inl less ↦ nothing m l less | inr more ↦ f m more ])
earlier {number = number} before few nothing (then_shown {n = k} after within part l gap shows is more) =
    then_shown (omega (arith, before, after)) within part (omega (arith, few, l)) (λ m i j.
    elim (cases_lt m number) [ inl less ↦ nothing m i less | inr up ↦ gap m up j ]) shows is more

elsewhere : {T : Table} {t : TypeId} {b : List ℕ} {from now number n : ℕ} {fs : Fillings} {N : ℕ → Data} → from ≡ now
    → number ≡ n → FillingsShow T t b from number fs N → FillingsShow T t b now n fs N
elsewhere {T = T} {t = t} {b = b} {now = now} {number = number} {fs = fs} {N = N} e f shows =
    subst (λ n. FillingsShow T t b now n fs N) f (subst (λ i. FillingsShow T t b i number fs N) e shows)

-- parts of which no nil is filled
pub unfilled_shows : {T : Table} {Leads : TypeId → List ℕ → ℕ → Type 0} (count : ℕ) (b : List ℕ)
    → Shows T Leads count b (λ p fs. fs) nulls
unfilled_shows count b = record {
  there = λ t whole p left n N fs is leads same more.
      earlier (omega (arith, length-append p b)) (omega arith)
      (λ k low high.
      let up : k ≡ n + (k - n) = omega (arith, low) in
      ap N up ∙ same.each (k - n) (omega (arith, low, high))) more;
}

-- parts, and others behind them
pub both_show : {T : Table} {A B C : TypeId → List ℕ → ℕ → Type 0} {c d : ℕ} {b r : List ℕ} {f g : Filler}
    {M O : ℕ → Data} → ((t : TypeId) (p : List ℕ) (n : ℕ) → C t p n → A t p n)
    → ((t : TypeId) (p : List ℕ) (n : ℕ) → C t p n → B t (p ++ b) (n + c)) → Shows T A c b f M → Shows T B d r g O
    → Shows T C (c + d) (b ++ r) (λ p fs. f p (g (p ++ b) fs)) (spliced c M O)
both_show {c = c} {d = d} {b = b} {r = r} {g = g} {M = M} {O = O} first then one others = record {
  there = λ t whole p left n N fs is leads same more.
      let split : whole ≡ p ++ (b ++ (r ++ left)) = is ∙ ap (λ x. p ++ x) (append_assoc b r left) in
      one.there t whole p (r ++ left) n N (g (p ++ b) fs) split (first t p n leads) (first_agrees O c d same)
      (others.there t whole (p ++ b) left (n + c) N fs (split ∙ sym (append_assoc p b (r ++ left))) (then t p n leads)
      (rest_agrees M c d same)
      (elsewhere (ap length (sym (append_assoc p b r))) (sym (add_assoc n c d)) more));
}

pub so_many_show : {T : Table} {Leads : TypeId → List ℕ → ℕ → Type 0} {c d : ℕ} {b : List ℕ} {fill : Filler}
    {M : ℕ → Data} → c ≡ d → Shows T Leads c b fill M → Shows T Leads d b fill M
so_many_show {T = T} {Leads = Leads} {b = b} {fill = fill} {M = M} e s =
    subst (λ n. Shows T Leads n b fill M) e s

-- a count, with which the value begins, and its parts
pub behind_count : {T : Table} {u : TypeId} {Parts : TypeId → List ℕ → ℕ → Type 0} {d : ℕ} {r : List ℕ} {g : Filler}
    {M : ℕ → Data} (c : List ℕ)
    → ((t : TypeId) (p : List ℕ) (n : ℕ) → LeadsToPart T t p u n → Parts t ((p ++ c) ++ []) (n + 1))
    → Shows T Parts d r g M
    → Shows T (LeadsTo T u) (d + 1) (c ++ r) (λ p fs. g ((p ++ c) ++ []) fs) (spliced 1 nulls M)
behind_count {T = T} {u = u} {Parts = Parts} {d = d} {r = r} {g = g} {M = M} c leads parts =
    let up : 1 + (0 + d) ≡ d + 1 = omega arith in
    subst (λ n. Shows T (LeadsTo T u) n (c ++ r) (λ p fs. g ((p ++ c) ++ []) fs) (spliced 1 nulls M)) up
    (both_show {A = LeadsTo T u} {B = λ t p n. Parts t (p ++ []) n} {C = LeadsTo T u} (λ t p n l. l) leads
    (unfilled_shows 1 c)
    (both_show {A = λ t p n. Unit {0}} {B = Parts} {C = λ t p n. Parts t (p ++ []) n} (λ t p n l. tt)
    (λ t p n l. subst (λ i. Parts t (p ++ []) i) (sym (add-zero n)) l) (unfilled_shows 0 []) parts))

-- behind all parts each nil shows null
pub null_behind : (c : ℕ) (M : ℕ → Data) (m : ℕ) → 0 + c ≤ m → spliced c M nulls m ≡ null
null_behind c M m low =
    let up : m ≡ c + (m - c) = omega (arith, low) in ap (spliced c M nulls) up ∙ behind_seam c M nulls (m - c)

pub agrees_alone : (c : ℕ) (M : ℕ → Data) → Agrees (spliced c M nulls) 0 M c
agrees_alone c M = record { each = λ k l. ap (spliced c M nulls) (zero-add k) ∙ before_seam c M nulls k l }
