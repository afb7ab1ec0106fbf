-- The text of lines is cut into these lines.
use Rattle.std.proofs.Common.{◌≡◌, ◌≢◌, ℕ, ◌≤◌, Bool, cond, List, [], ◌∷◌, ◌++◌, length, refl, sym, ap, subst, ◌∙◌}
use Rattle.std.proofs.Common.{append_assoc, append-nil, arith}
use Rattle.gob_types.specs.Table.{Table}
use Rattle.gob_stream.specs.Item.{StreamItem}
use Rattle.gob_tool.specs.Line.{item_json, item_text, line, lines}
use Rattle.gob_write.specs.Lines.{AreLines, behind_line, first_line, one_more}
use Rattle.gob_written_back.specs.Shown.{AreShort, shown}
use Rattle.gob_written_back.proofs.FeedLaws.{HasNoFeed, in_text}

first_of : (s more : List ℕ) → HasNoFeed s → first_line (s ++ 10 ∷ more) ≡ s ++ 10 ∷ []
first_of [] more h = refl
first_of (x ∷ s) more h =
    ap (λ (b : Bool). cond b (x ∷ []) (x ∷ first_line (s ++ 10 ∷ more))) h.0
    ∙ ap (λ (l : List ℕ). x ∷ l) (first_of s more h.1)

behind_of : (s more : List ℕ) → HasNoFeed s → behind_line (s ++ 10 ∷ more) ≡ more
behind_of [] more h = refl
behind_of (x ∷ s) more h =
    ap (λ (b : Bool). cond b (s ++ 10 ∷ more) (behind_line (s ++ 10 ∷ more))) h.0 ∙ behind_of s more h.1

not_none : (s more : List ℕ) → (s ++ 10 ∷ []) ++ more ≢ []
not_none [] more e = grind (arith, e)
not_none (x ∷ s) more e = grind (arith, e)

-- the line that stands in front is the next one
one_cut : {most : ℕ} {all : List ℕ} {done : List (List ℕ)} (s more : List ℕ) → HasNoFeed s
    → AreLines most all done ((s ++ 10 ∷ []) ++ more) → length (s ++ 10 ∷ []) ≤ most
    → AreLines most all (done ++ (s ++ 10 ∷ []) ∷ []) more
one_cut {most = most} {all = all} {done = done} s more h l short =
    let text = (s ++ 10 ∷ []) ++ more in
    let whole = append_assoc s (10 ∷ []) more in
    let first = ap first_line whole ∙ first_of s more h in
    let behind = ap behind_line whole ∙ behind_of s more h in
    let next = one_more l (not_none s more) (subst (λ (f : List ℕ). length f ≤ most) (sym first) short) in
    subst (λ (r : List ℕ). AreLines most all (done ++ (s ++ 10 ∷ []) ∷ []) r) behind
    (subst (λ (f : List ℕ). AreLines most all (done ++ f ∷ []) (behind_line text)) first next)

pub lines_cut : {most : ℕ} {all : List ℕ} (T : Table) (items : List StreamItem) (done : List (List ℕ))
    → AreLines most all done (lines T items) → AreShort most (shown T items)
    → AreLines most all (done ++ shown T items) []
lines_cut {most = most} {all = all} T [] done l short =
    subst (λ (d : List (List ℕ)). AreLines most all d []) (sym (append-nil done)) l
lines_cut {most = most} {all = all} T (i ∷ items) done l short =
    let here = one_cut (item_text T i) (lines T items) (in_text (item_json T i)) l short.0 in
    subst (λ (d : List (List ℕ)). AreLines most all d []) (append_assoc done (line T i ∷ []) (shown T items))
    (lines_cut T items (done ++ line T i ∷ []) here short.1)
